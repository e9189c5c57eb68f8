-- A want that is taken is answered or waits, and one that waits is answered or goes on waiting at each input.
use Rattle.std.proofs.Common.{◌≡◌, ℕ, ◌+◌, ◌==◌, Bool, true, false, cond, not, nat_lt, List, [], ◌∷◌, ◌++◌, ◌⊎◌, inl, inr, ⊎_elim, length, unwrap_or, Option, Some, None, refl, sym, ap, subst, ◌∙◌, arith}
use Rattle.std.specs.BTreeMap.{insert_entry}
use Rattle.std.specs.Ordering.{eq_by_cmp}
use Rattle.std.proofs.lemmas.Bool.Decides.{nat_tests}
use Rattle.std.proofs.lemmas.Map.Views.{tells_apart}
use Rattle.xfs_base.specs.declared.block.BlockId.{BlockId}
use Rattle.xfs_base.specs.declared.entry.Entry.{Entry}
use Rattle.xfs_base.specs.declared.token.Mode.{Mode}
use Rattle.xfs_base.specs.Blocks.{block_cmp}
use Rattle.xfs_base.specs.Modes.{is_own, is_nothing}
use Rattle.xfs_base.specs.Steps.{still, steps}
use Rattle.xfs_base.proofs.Booleans.{by_test}
use Rattle.xfs_base.proofs.BlockOrder.{block_cmp_total, block_cmp_exact, lookup-insert_entry}
use Rattle.slot_beliefs.specs.declared.job.Awaited.{Awaited}
use Rattle.slot_beliefs.specs.declared.job.Job.{Job}
use Rattle.slot_beliefs.specs.declared.job.Wanted.{Wanted}
use Rattle.slot_beliefs.specs.Recalls.{recalls, noted, applied_of, ready_blocks, job_at, without_job, applied_upto}
use Rattle.token_manager.specs.declared.input.In.{In}
use Rattle.token_manager.specs.declared.input.In.TheVariants.{Want, Gave, Deltas, Check, Tick}
use Rattle.token_manager.specs.declared.output.Out.{Out}
use Rattle.token_manager.specs.declared.output.Out.TheVariants.{Grant, Forward, Recall, Applied, Live, Dead}
use Rattle.token_manager.specs.Laws.{IsAnswered, IsTaken, WaitsAt, state_after}
use Rattle.token_manager.specs.SlotState.{SlotState}
use Rattle.token_manager.specs.Transition.{Done, has_turns, slot_start, passers, answer, finish, slot_finish, finish_job, on_want, recall, recall_or_finish, recalled, transition, with_deltas}
use Rattle.token_manager.proofs.Cases.{recalled_from, on_want-taken, by_want, all_given, by_gave, by_deltas, let_go, by_finished_at}
use Rattle.token_manager.proofs.JobsBarGrants.{Waiting, after_removal, block_laws, nobody_waits, not_waiting, waiting-all, waiting-removed}

-- ---- answers

answer_answers : (s : SlotState) (want : Wanted) (from : List ℕ) → IsAnswered want (answer s want from ∷ [])
answer_answers s want [] = inl (refl, refl, refl, refl)
answer_answers s want (c ∷ cs) = inl (refl, refl, refl, refl)

answered_before : (want : Wanted) (xs ys : List Out) → IsAnswered want xs → IsAnswered want (xs ++ ys)
answered_before want [] ys h = absurd h
answered_before want (Grant client block st inc req mode entry ∷ xs) ys h = ⊎_elim inl (λ rest. inr (answered_before want xs ys rest)) h
answered_before want (Forward client block st to inc req ver ∷ xs) ys h = ⊎_elim inl (λ rest. inr (answered_before want xs ys rest)) h
answered_before want (Recall client block st keep ∷ xs) ys h = answered_before want xs ys h
answered_before want (Applied log upto ∷ xs) ys h = answered_before want xs ys h
answered_before want (Live entry ∷ xs) ys h = answered_before want xs ys h
answered_before want (Dead ∷ xs) ys h = answered_before want xs ys h

answered_behind : (want : Wanted) (xs ys : List Out) → IsAnswered want ys → IsAnswered want (xs ++ ys)
answered_behind want [] ys h = h
answered_behind want (Grant client block st inc req mode entry ∷ xs) ys h = inr (answered_behind want xs ys h)
answered_behind want (Forward client block st to inc req ver ∷ xs) ys h = inr (answered_behind want xs ys h)
answered_behind want (Recall client block st keep ∷ xs) ys h = answered_behind want xs ys h
answered_behind want (Applied log upto ∷ xs) ys h = answered_behind want xs ys h
answered_behind want (Live entry ∷ xs) ys h = answered_behind want xs ys h
answered_behind want (Dead ∷ xs) ys h = answered_behind want xs ys h

-- ---- a want that is taken

-- a want that is put at its block waits there
put_waits : (jobs : List (BlockId × Job)) (block : BlockId) (job : Job) → job_at (insert_entry block_cmp jobs block job) block ≡ Some job
put_waits jobs block job = lookup-insert_entry block_cmp_total block block job jobs ∙ ap (λ t. cond t (Some job) (job_at jobs block)) (block_laws.refl block)

module _ (want : Wanted) where
  abbrev MetAtOnce : Done → Type 0
  MetAtOnce d = IsAnswered want d.outs ⊎ WaitsAt d.state want.block want

  met_by_count : (s : SlotState) (clients : List ℕ) → has_turns s.turn 1 ≡ true → has_turns s.turn (length clients) ≡ true
      → MetAtOnce (recall_or_finish s want clients)
  met_by_count s clients one many =
      by_test MetAtOnce (length clients == 0) (finish s want) (recall s want clients)
      (λ _. subst MetAtOnce (sym (ap (λ t. cond t (slot_finish s want) (still s)) one)) (inl (answer_answers s want (passers s want))))
      (λ _. subst MetAtOnce (sym (ap (λ t. cond t (recalled s want clients) (still s)) many))
      (inr (
        recalls s.epoch s.turn (not (is_own want.mode)) clients,
        put_waits s.jobs want.block (record { want = want; awaited = recalls s.epoch s.turn (not (is_own want.mode)) clients }),
      )))

one_turn : (turn n : ℕ) → has_turns turn (1 + n) ≡ true → has_turns turn 1 ≡ true
one_turn turn n h = grind (arith, nat_tests)

its_turns : (turn n : ℕ) → has_turns turn (1 + n) ≡ true → has_turns turn n ≡ true
its_turns turn n h = grind (arith, nat_tests)

pub answered_or_waits : (s : SlotState) (want : Wanted) (end : ℕ) → IsTaken s want end
    → IsAnswered want (on_want s want end).outs ⊎ WaitsAt (on_want s want end).state want.block want
answered_or_waits s want end taken =
    let clients : List ℕ = recalled_from s want in
    subst (MetAtOnce want) (sym (on_want-taken s want end taken.sound))
    (met_by_count want s clients (one_turn s.turn (length clients) taken.turns) (its_turns s.turn (length clients) taken.turns))

-- ---- a want that waits

module _ (block : BlockId) (want : Wanted) where
  -- it is answered, or goes on waiting
  abbrev Met : Done → Type 0
  Met d = IsAnswered want d.outs ⊎ WaitsAt d.state block want

  -- the want that waits for a block is the one that is known to
  same_want : (s : SlotState) (b : BlockId) (job : Job) → job_at s.jobs b ≡ Some job → WaitsAt s block want → b ≡ block → job.want ≡ want
  same_want s b job fact h same =
      ap (λ (o : Option Job). (unwrap_or o job).want) (sym (subst (λ x. job_at s.jobs x ≡ Some job) same fact) ∙ h.1)

  -- where the want that waits for a block is answered, this one is, or it waits for another
  met_answered : (s t : SlotState) (b : BlockId) (job : Job) → Waiting s.jobs → job_at s.jobs b ≡ Some job → t.jobs ≡ without_job s.jobs b
      → WaitsAt s block want → Met (slot_finish t job.want)
  met_answered s t b job w fact jobs h = by_block (eq_by_cmp block_cmp b block) refl
    where
      by_block : (same : Bool) → eq_by_cmp block_cmp b block ≡ same → Met (slot_finish t job.want)
      by_block true same =
          inl (subst (λ v. IsAnswered v (answer t job.want (passers t job.want) ∷ [])) (same_want s b job fact h (tells_apart block_cmp_exact b block same))
          (answer_answers t job.want (passers t job.want)))
      by_block false apart =
          inr (
            h.0,
            ap (λ js. job_at js block) jobs ∙ after_removal s.jobs b block w.sorted ∙ ap (λ t. cond t None (job_at s.jobs block)) apart ∙ h.1,
          )

  -- where another want is put at a block for which none waits, or this one with an answer noted, it goes on waiting
  met_put : (s : SlotState) (b : BlockId) (put : Job) → (b ≡ block → put.want ≡ want) → WaitsAt s block want
      → (awaited : List Awaited) × (job_at (insert_entry block_cmp s.jobs b put) block ≡ Some (record { want = want; awaited = awaited }))
  met_put s b put this h = by_block (eq_by_cmp block_cmp block b) refl
    where
      found : job_at (insert_entry block_cmp s.jobs b put) block ≡ cond (eq_by_cmp block_cmp block b) (Some put) (job_at s.jobs block)
      found = lookup-insert_entry block_cmp_total block b put s.jobs

      by_block : (same : Bool) → eq_by_cmp block_cmp block b ≡ same
          → (awaited : List Awaited) × (job_at (insert_entry block_cmp s.jobs b put) block ≡ Some (record { want = want; awaited = awaited }))
      by_block true same = (
        put.awaited,
        found ∙ ap (λ t. cond t (Some put) (job_at s.jobs block)) same
            ∙ ap (λ v. Some (record { want = v; awaited = put.awaited })) (this (sym (tells_apart block_cmp_exact block b same))),
      )
      by_block false apart = (h.0, found ∙ ap (λ t. cond t (Some put) (job_at s.jobs block)) apart ∙ h.1)

  met_one : (s : SlotState) (b : BlockId) → Waiting s.jobs → WaitsAt s block want → Met (finish_job s b)
  met_one s b w h = by_finished_at Met s b (inr h) (λ job fact. met_answered s (let_go s b) b job w fact refl h)

  met_steps : (s : SlotState) (blocks : List BlockId) → Waiting s.jobs → WaitsAt s block want → Met (steps finish_job s blocks)
  met_steps s [] w h = inr h
  met_steps s (b ∷ bs) w h =
      let next : SlotState = (finish_job s b).state in
      let waits : Waiting next.jobs = by_finished_at (λ (d : Done). Waiting d.state.jobs) s b w (λ job fact. waiting-removed s.jobs b w) in
      ⊎_elim (λ answered. inl (answered_before want (finish_job s b).outs (steps finish_job next bs).outs answered))
      (λ still_so.
      ⊎_elim (λ answered. inl (answered_behind want (finish_job s b).outs (steps finish_job next bs).outs answered)) inr
      (met_steps next bs waits still_so))
      (met_one s b w h)

  -- another want leaves it waiting
  pub waits_on : (s : SlotState) (other : Wanted) (end : ℕ) → WaitsAt s block want → WaitsAt (on_want s other end).state block want
  waits_on s other end h =
      by_want (λ (d : Done). WaitsAt d.state block want) s other end h (λ _ _. h)
      (λ going. met_put s other.block (record { want = other; awaited = recalls s.epoch s.turn (not (is_own other.mode)) (recalled_from s other) })
      (λ same.
      let none : job_at s.jobs other.block ≡ None =
      not_waiting (job_at s.jobs other.block) (is_nothing other.mode) (nat_lt (applied_of s.applied other.client) end) going in
      let both : None ≡ Some (record { want = want; awaited = h.0 }) = sym (subst (λ x. job_at s.jobs x ≡ None) same none) ∙ h.1 in
      absurd (cc))
      h)

  met : (s : SlotState) (input : In) → Waiting s.jobs → WaitsAt s block want → Met (transition s input)
  met s (Want want end) w h = inr (waits_on s want end h)
  met s (Gave client b stamp end) w h =
      by_gave Met s client b stamp end (inr h) (λ job fact _. met_answered s (all_given s client b job.want) b job w fact refl h)
      (λ job fact. inr (met_put s b (record { want = job.want; awaited = noted job.awaited client stamp end }) (same_want s b job fact h) h))
  met s (Deltas log first upto rows) w h =
      by_deltas Met s log first upto rows (inr h) (inr h)
      (λ _. ⊎_elim inl inr (met_steps (with_deltas s log upto rows) (ready_blocks s.jobs (applied_upto s.applied log upto)) w h))
  met s (Check b place) w h = inr h
  met s Tick w h = inr h

pub not_forgotten : (epoch : ℕ) (index : List (BlockId × Entry)) (beliefs : List (BlockId × ℕ × Mode)) (applied : List ℕ) (inputs : List In) (input : In)
    (block : BlockId) (want : Wanted)
    → WaitsAt (state_after (slot_start epoch index beliefs applied) inputs) block want
    → IsAnswered want (transition (state_after (slot_start epoch index beliefs applied) inputs) input).outs
    ⊎ WaitsAt (transition (state_after (slot_start epoch index beliefs applied) inputs) input).state block want
not_forgotten epoch index beliefs applied inputs input block want h =
    let start : SlotState = slot_start epoch index beliefs applied in
    met block want (state_after start inputs) input (waiting-all start inputs nobody_waits) h
