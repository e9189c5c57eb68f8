-- Each recall of a want that waits bears the epoch of the slot, and a turn that was given out: every input
-- keeps this.
use Rattle.std.proofs.Common.{◌≡◌, ℕ, ◌+◌, ◌≤◌, Bool, true, false, cond, not, length, List, [], ◌∷◌, All, Option, Some, None, unwrap_or, refl, sym, ap, subst, ◌∙◌, arith}
use Rattle.std.specs.Ordering.{eq_by_cmp}
use Rattle.std.specs.BTreeMap.{insert_entry}
use Rattle.std.proofs.lemmas.List.Elements.{All-nil, All-cons, All-head, All-tail, All-weaker}
use Rattle.xfs_base.specs.declared.block.BlockId.{BlockId}
use Rattle.xfs_base.specs.declared.entry.Entry.{Entry}
use Rattle.xfs_base.specs.declared.token.Mode.{Mode}
use Rattle.xfs_base.specs.declared.token.Stamp.{Stamp}
use Rattle.xfs_base.specs.Blocks.{block_cmp}
use Rattle.xfs_base.specs.Modes.{is_own}
use Rattle.xfs_base.specs.Steps.{steps}
use Rattle.xfs_base.proofs.BlockOrder.{block_cmp_total, lookup-insert_entry}
use Rattle.xfs_base.proofs.Booleans.{by_test}
use Rattle.xfs_base.proofs.StepLoops.{steps_keep}
use Rattle.slot_beliefs.specs.declared.job.Awaited.{Awaited}
use Rattle.slot_beliefs.specs.declared.job.Job.{Job}
use Rattle.slot_beliefs.specs.Recalls.{recalls, answers, noted, ready_blocks, job_at, without_job, applied_upto}
use Rattle.token_manager.specs.declared.input.In.{In}
use Rattle.token_manager.specs.declared.input.In.TheVariants.{Want, Gave, Deltas, Check, Tick}
use Rattle.token_manager.specs.SlotState.{SlotState}
use Rattle.token_manager.specs.Transition.{slot_start, with_deltas, finish_job, transition}
use Rattle.token_manager.specs.Laws.{IsGivenOut, RecallsAreGivenOut, state_after}
use Rattle.token_manager.proofs.Cases.{recalled_from, by_want, by_gave, by_deltas, by_finished_at}
use Rattle.token_manager.proofs.JobsBarGrants.{Waiting, after_removal, was_there, waiting-removed, waiting-put, nobody_waits}

-- ---- lists of recalls

given-later : (epoch turn last : ℕ) (awaited : List Awaited) → turn ≤ last → All (IsGivenOut epoch turn) awaited → All (IsGivenOut epoch last) awaited
given-later epoch turn last awaited less =
    All-weaker (IsGivenOut epoch turn) (IsGivenOut epoch last)
    (λ a g. record { of_epoch = g.of_epoch; from_1 = g.from_1; upto = let limit : a.stamp.turn ≤ turn = g.upto in omega arith }) awaited

given-recalls : (epoch turn last : ℕ) (keep : Bool) (clients : List ℕ) → turn + length clients ≤ last
    → All (IsGivenOut epoch last) (recalls epoch turn keep clients)
given-recalls epoch turn last keep [] less = All-nil (IsGivenOut epoch last)
given-recalls epoch turn last keep (c ∷ cs) less =
    All-cons (IsGivenOut epoch last) (record { client = c; stamp = record { epoch = epoch; turn = turn + 1 }; keep = keep; end = None })
    (recalls epoch (turn + 1) keep cs)
    (record { of_epoch = refl; from_1 = omega arith; upto = omega arith }) (given-recalls epoch (turn + 1) last keep cs (omega arith))

given-noted : (epoch turn : ℕ) (awaited : List Awaited) (client : ℕ) (stamp : Stamp) (end : ℕ) → All (IsGivenOut epoch turn) awaited
    → All (IsGivenOut epoch turn) (noted awaited client stamp end)
given-noted epoch turn [] client stamp end given = given
given-noted epoch turn (a ∷ rest) client stamp end given =
    let G : Awaited → Type 0 = IsGivenOut epoch turn in
    let here : G a = All-head G a rest given in
    let answered : Awaited = record a { end = Some end } in
    All-cons G (cond (answers client stamp a) answered a) (noted rest client stamp end)
    (by_test G (answers client stamp a) answered a (λ _. record { of_epoch = here.of_epoch; from_1 = here.from_1; upto = here.upto }) (λ _. here))
    (given-noted epoch turn rest client stamp end (All-tail G a rest given))

-- ---- the state

record Stands (s : SlotState) : Type 0 where
  waiting : Waiting s.jobs
  given : RecallsAreGivenOut s

module _ (s : SlotState) (stands : Stands s) where
  -- once a want comes to wait, or its recalls change
  given-put : (block : BlockId) (job : Job) (turn : ℕ) → s.turn ≤ turn → All (IsGivenOut s.epoch turn) job.awaited → (b : BlockId) (found : Job)
      → job_at (insert_entry block_cmp s.jobs block job) b ≡ Some found
      → All (IsGivenOut s.epoch turn) found.awaited
  given-put block job turn less new b found fact = at (eq_by_cmp block_cmp b block) (sym (lookup-insert_entry block_cmp_total b block job s.jobs) ∙ fact)
    where
      at : (t : Bool) → cond t (Some job) (job_at s.jobs b) ≡ Some found → All (IsGivenOut s.epoch turn) found.awaited
      at true one = subst (λ (j : Job). All (IsGivenOut s.epoch turn) j.awaited) (ap (λ (o : Option Job). unwrap_or o job) one) new
      at false there = given-later s.epoch s.turn turn found.awaited less (stands.given b found there)

  -- once a want is answered
  given-removed : (block b : BlockId) (found : Job) → job_at (without_job s.jobs block) b ≡ Some found → All (IsGivenOut s.epoch (s.turn + 1)) found.awaited
  given-removed block b found fact =
      given-later s.epoch s.turn (s.turn + 1) found.awaited (omega arith)
      (stands.given b found (was_there (eq_by_cmp block_cmp block b) (job_at s.jobs b) found (sym (after_removal s.jobs block b stands.waiting.sorted) ∙ fact)))

  stands-finish_job : (block : BlockId) → Stands (finish_job s block).state
  stands-finish_job block =
      by_finished_at (λ r. Stands r.state) s block stands
      (λ job fact. record { waiting = waiting-removed s.jobs block stands.waiting; given = given-removed block })

stands-steps : (s : SlotState) (blocks : List BlockId) → Stands s → Stands (steps finish_job s blocks).state
stands-steps = steps_keep finish_job Stands (λ t block stands. stands-finish_job t stands block)

stands-transition : (s : SlotState) (input : In) → Stands s → Stands (transition s input).state
stands-transition s (Want want end) stands =
    let clients : List ℕ = recalled_from s want in
    let last : ℕ = s.turn + length clients in
    let job : Job = record { want = want; awaited = recalls s.epoch s.turn (not (is_own want.mode)) clients } in
    by_want (λ r. Stands r.state) s want end stands
    (λ _ _. record {
      waiting = stands.waiting;
      given = λ b found fact. given-later s.epoch s.turn (s.turn + 1) found.awaited (omega arith) (stands.given b found fact);
    })
    (λ _. record {
      waiting = waiting-put s.jobs want.block job refl stands.waiting;
      given = given-put s stands want.block job last (omega arith) (given-recalls s.epoch s.turn last (not (is_own want.mode)) clients (omega arith));
    })
stands-transition s (Gave client block stamp end) stands =
    by_gave (λ r. Stands r.state) s client block stamp end stands
    (λ job fact _. record { waiting = waiting-removed s.jobs block stands.waiting; given = given-removed s stands block })
    (λ job fact.
    let after : Job = record { want = job.want; awaited = noted job.awaited client stamp end } in
    record {
      waiting = waiting-put s.jobs block after (stands.waiting.own block job fact) stands.waiting;
      given = given-put s stands block after s.turn (omega arith) (given-noted s.epoch s.turn job.awaited client stamp end (stands.given block job fact));
    })
stands-transition s (Deltas log first upto rows) stands =
    by_deltas (λ r. Stands r.state) s log first upto rows stands stands
    (λ _. stands-steps (with_deltas s log upto rows) (ready_blocks s.jobs (applied_upto s.applied log upto))
    (record { waiting = stands.waiting; given = stands.given }))
stands-transition s (Check block place) stands = stands
stands-transition s Tick stands = stands

pub given-all : (epoch : ℕ) (index : List (BlockId × Entry)) (beliefs : List (BlockId × ℕ × Mode)) (applied : List ℕ) (inputs : List In)
    → RecallsAreGivenOut (state_after (slot_start epoch index beliefs applied) inputs)
given-all epoch index beliefs applied inputs =
    (steps_keep transition Stands stands-transition (slot_start epoch index beliefs applied) inputs
    (record { waiting = nobody_waits; given = λ b job fact. absurd (cc) })).given
