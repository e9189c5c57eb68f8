-- A block that an input grants or forwards has no want that waits for it afterwards.
use Rattle.std.proofs.Common.{◌≡◌, ℕ, ◌||◌, Bool, true, false, cond, not, nat_lt, unwrap_or, List, [], ◌∷◌, ◌++◌, ◌⊎◌, inl, inr, ⊎_elim, Option, Some, None, is_some, refl, sym, ap, subst, ◌∙◌}
use Rattle.std.specs.Ordering.{eq_by_cmp}
use Rattle.std.specs.Cmp.{IsEquivalence}
use Rattle.std.specs.List.Sorted.{IsStrictlySortedBy}
use Rattle.std.specs.Map.{keys_of}
use Rattle.std.specs.BTreeMap.{is_at, insert_entry}
use Rattle.std.proofs.lemmas.Cmp.{eq_by_cmp_equiv}
use Rattle.std.proofs.lemmas.Map.{lookup-remove_entry}
use Rattle.std.proofs.lemmas.Map.Keys.{IsDistinct-from_sorted}
use Rattle.std.proofs.lemmas.Map.Views.{tells_apart}
use Rattle.xfs_base.specs.declared.block.BlockId.{BlockId}
use Rattle.xfs_base.specs.declared.entry.Entry.{Entry}
use Rattle.xfs_base.specs.declared.token.Mode.{Mode}
use Rattle.xfs_base.specs.Blocks.{block_cmp}
use Rattle.xfs_base.specs.Steps.{still, steps}
use Rattle.xfs_base.proofs.BlockOrder.{block_cmp_total, block_cmp_exact, lookup-insert_entry}
use Rattle.xfs_base.proofs.StepLoops.{steps_keep}
use Rattle.xfs_base.proofs.Sorted.{sorted_insert, sorted_remove}
use Rattle.xfs_base.specs.Modes.{is_own, is_nothing}
use Rattle.slot_beliefs.specs.declared.job.Wanted.{Wanted}
use Rattle.slot_beliefs.specs.declared.job.Job.{Job}
use Rattle.slot_beliefs.specs.declared.job.Awaited.{Awaited}
use Rattle.slot_beliefs.specs.Recalls.{recalls, noted, applied_of, ready_blocks, job_at, without_job, applied_upto}
use Rattle.token_manager.specs.declared.output.Out.{Out}
use Rattle.token_manager.specs.declared.output.Out.TheVariants.{Grant, Forward, Recall, Applied, Live, Dead}
use Rattle.token_manager.specs.declared.input.In.{In}
use Rattle.token_manager.specs.declared.input.In.TheVariants.{Want, Gave, Deltas, Check, Tick}
use Rattle.token_manager.specs.Recalls.{send_recalls, send_all}
use Rattle.token_manager.specs.SlotState.{SlotState}
use Rattle.token_manager.specs.Transition.{Done, slot_start, passers, answer, slot_finish, with_deltas, finish_job, is_place, entry_at, transition}
use Rattle.token_manager.specs.Laws.{HandsOut, state_after}
use Rattle.token_manager.proofs.Cases.{recalled_from, by_want, all_given, by_gave, by_deltas, let_go, by_finished_at}

-- ---- which blocks are given

gives_both : (b : BlockId) (xs ys : List Out) → HandsOut b (xs ++ ys) → HandsOut b xs ⊎ HandsOut b ys
gives_both b [] ys g = inr g
gives_both b (Grant client block st inc req mode entry ∷ xs) ys g = ⊎_elim (λ h. inl (inl h)) (λ r. ⊎_elim (λ h. inl (inr h)) inr (gives_both b xs ys r)) g
gives_both b (Forward client block st to inc req ver ∷ xs) ys g = ⊎_elim (λ h. inl (inl h)) (λ r. ⊎_elim (λ h. inl (inr h)) inr (gives_both b xs ys r)) g
gives_both b (Recall client block st keep ∷ xs) ys g = gives_both b xs ys g
gives_both b (Applied log upto ∷ xs) ys g = gives_both b xs ys g
gives_both b (Live entry ∷ xs) ys g = gives_both b xs ys g
gives_both b (Dead ∷ xs) ys g = gives_both b xs ys g

sent_gives : (b block : BlockId) (awaited : List Awaited) → HandsOut b (send_recalls block awaited) → ⊥
sent_gives b block [] = λ g. g
sent_gives b block (a ∷ rest) =
    elim (is_some a.end) as (λ t. HandsOut b (cond t (send_recalls block rest) (Recall a.client block a.stamp a.keep ∷ send_recalls block rest)) → ⊥)
    [ true ↦ sent_gives b block rest | false ↦ sent_gives b block rest ]

send_all_gives : (b : BlockId) (jobs : List (BlockId × Job)) → HandsOut b (send_all jobs) → ⊥
send_all_gives b [] g = g
send_all_gives b (e ∷ es) g = ⊎_elim (sent_gives b e.0 e.1.awaited) (send_all_gives b es) (gives_both b (send_recalls e.0 e.1.awaited) (send_all es) g)

-- what a want is answered gives just its block
answer_gives : (s : SlotState) (want : Wanted) (from : List ℕ) (b : BlockId) → HandsOut b (answer s want from ∷ []) → want.block ≡ b
answer_gives s want [] b g = ⊎_elim (λ h. h) (λ no_more. absurd no_more) g
answer_gives s want (c ∷ cs) b g = ⊎_elim (λ h. h) (λ no_more. absurd no_more) g

-- ---- the wants that wait

pub block_laws : IsEquivalence (eq_by_cmp block_cmp)
block_laws = eq_by_cmp_equiv block_cmp_total

abbrev IsSorted : List (BlockId × Job) → Type 0
IsSorted jobs = IsStrictlySortedBy block_cmp (keys_of jobs)

pub after_removal : (jobs : List (BlockId × Job)) (block b : BlockId) → IsSorted jobs
    → job_at (without_job jobs block) b ≡ cond (eq_by_cmp block_cmp block b) None (job_at jobs b)
after_removal jobs block b sorted =
    lookup-remove_entry block_laws (is_at (block_cmp block)) (λ x y same. block_laws.congr block x y same) b jobs
    (IsDistinct-from_sorted block_cmp (keys_of jobs) sorted)

pub gone : (jobs : List (BlockId × Job)) (block : BlockId) → IsSorted jobs → job_at (without_job jobs block) block ≡ None
gone jobs block sorted = after_removal jobs block block sorted ∙ ap (λ t. cond t None (job_at jobs block)) (block_laws.refl block)

still_gone : (jobs : List (BlockId × Job)) (block b : BlockId) → IsSorted jobs → job_at jobs b ≡ None → job_at (without_job jobs block) b ≡ None
still_gone jobs block b sorted none =
    after_removal jobs block b sorted ∙ elim (eq_by_cmp block_cmp block b) as (λ t. cond t None (job_at jobs b) ≡ None) [ true ↦ refl | false ↦ none ]

-- the wants that wait stand in order, and each names the block for which it waits
pub record Waiting (jobs : List (BlockId × Job)) : Type 0 where
  pub sorted : IsSorted jobs
  pub own : (b : BlockId) (job : Job) → job_at jobs b ≡ Some job → job.want.block ≡ b

pub was_there : (t : Bool) (o : Option Job) (job : Job) → cond t None o ≡ Some job → o ≡ Some job
was_there true o job h = absurd (cc)
was_there false o job h = h

pub waiting-removed : (jobs : List (BlockId × Job)) (block : BlockId) → Waiting jobs → Waiting (without_job jobs block)
waiting-removed jobs block w = record {
  sorted = sorted_remove block_cmp (is_at (block_cmp block)) jobs w.sorted;
  own = λ b job fact. w.own b job (was_there (eq_by_cmp block_cmp block b) (job_at jobs b) job (sym (after_removal jobs block b w.sorted) ∙ fact));
}

pub waiting-put : (jobs : List (BlockId × Job)) (block : BlockId) (job : Job) → job.want.block ≡ block → Waiting jobs
    → Waiting (insert_entry block_cmp jobs block job)
waiting-put jobs block job mine w = record {
  sorted = sorted_insert block_cmp block_cmp_total block job jobs w.sorted;
  own = λ b found fact. put_own b found (eq_by_cmp block_cmp b block) refl (sym (lookup-insert_entry block_cmp_total b block job jobs) ∙ fact);
}
  where
    put_own : (b : BlockId) (found : Job) (t : Bool) → eq_by_cmp block_cmp b block ≡ t → cond t (Some job) (job_at jobs b) ≡ Some found → found.want.block ≡ b
    put_own b found true same fact = ap (λ (o : Option Job). (unwrap_or o job).want.block) (sym fact) ∙ mine ∙ sym (tells_apart block_cmp_exact b block same)
    put_own b found false apart fact = w.own b found fact

-- ---- the inputs

-- what is given has no want that waits for it; no want comes to wait where none waited
record Bars (s : SlotState) (r : Done) : Type 0 where
  given : (b : BlockId) → HandsOut b r.outs → job_at r.state.jobs b ≡ None
  waiting : Waiting r.state.jobs
  none_more : (b : BlockId) → job_at s.jobs b ≡ None → job_at r.state.jobs b ≡ None

-- a want that waited is answered
bars-answered : (s t : SlotState) (block : BlockId) (job : Job) → Waiting s.jobs → job_at s.jobs block ≡ Some job → t.jobs ≡ without_job s.jobs block
    → Bars s (slot_finish t job.want)
bars-answered s t block job w fact jobs = record {
  given = λ b g.
      let one : job.want.block ≡ b = answer_gives t job.want (passers t job.want) b g in
      ap (λ js. job_at js b) jobs ∙ subst (λ x. job_at (without_job s.jobs block) x ≡ None) (sym (w.own block job fact) ∙ one) (gone s.jobs block w.sorted);
  waiting = subst Waiting (sym jobs) (waiting-removed s.jobs block w);
  none_more = λ b none. ap (λ js. job_at js b) jobs ∙ still_gone s.jobs block b w.sorted none;
}

bars-same : (s : SlotState) → Waiting s.jobs → Bars s (still s)
bars-same s w = record { given = λ b g. absurd g; waiting = w; none_more = λ b none. none }

bars-one : (s : SlotState) (block : BlockId) → Waiting s.jobs → Bars s (finish_job s block)
bars-one s block w = by_finished_at (Bars s) s block (bars-same s w) (λ job fact. bars-answered s (let_go s block) block job w fact refl)

bars-steps : (s : SlotState) (blocks : List BlockId) → Waiting s.jobs → Bars s (steps finish_job s blocks)
bars-steps s [] w = bars-same s w
bars-steps s (b ∷ bs) w =
    let one = bars-one s b w in
    let next = (finish_job s b).state in
    let rest = bars-steps next bs one.waiting in
    record {
      given = λ x g. ⊎_elim (λ h. rest.none_more x (one.given x h)) (rest.given x) (gives_both x (finish_job s b).outs (steps finish_job next bs).outs g);
      waiting = rest.waiting;
      none_more = λ x none. rest.none_more x (one.none_more x none);
    }

record Barred (r : Done) : Type 0 where
  given : (b : BlockId) → HandsOut b r.outs → job_at r.state.jobs b ≡ None
  waiting : Waiting r.state.jobs

barred : (s : SlotState) (r : Done) → Bars s r → Barred r
barred s r bars = record { given = bars.given; waiting = bars.waiting }

pub not_waiting : (o : Option Job) (x y : Bool) → (x || is_some o || y) ≡ false → o ≡ None
not_waiting None x y h = refl
not_waiting (Some job) true y h = absurd (cc)
not_waiting (Some job) false y h = absurd (cc)

barred-transition : (s : SlotState) (input : In) → Waiting s.jobs → Barred (transition s input)
barred-transition s (Want want end) w =
    by_want Barred s want end (barred s (still s) (bars-same s w))
    (λ going _. record {
      given = λ b g.
          let none : job_at s.jobs want.block ≡ None = not_waiting (job_at s.jobs want.block) (is_nothing want.mode) (nat_lt (applied_of s.applied want.client) end) going in
          subst (λ x. job_at s.jobs x ≡ None) (answer_gives s want (passers s want) b g) none;
      waiting = w;
    })
    (λ _. record {
      given = λ b g. absurd (sent_gives b want.block (recalls s.epoch s.turn (not (is_own want.mode)) (recalled_from s want)) g);
      waiting = waiting-put s.jobs want.block (record { want = want; awaited = recalls s.epoch s.turn (not (is_own want.mode)) (recalled_from s want) }) refl w;
    })
barred-transition s (Gave client block stamp end) w =
    by_gave Barred s client block stamp end (barred s (still s) (bars-same s w))
    (λ job fact _. barred s (slot_finish (all_given s client block job.want) job.want) (bars-answered s (all_given s client block job.want) block job w fact refl))
    (λ job fact. record {
      given = λ b g. absurd g;
      waiting = waiting-put s.jobs block (record { want = job.want; awaited = noted job.awaited client stamp end }) (w.own block job fact) w;
    })
barred-transition s (Deltas log first upto rows) w =
    by_deltas Barred s log first upto rows (barred s (still s) (bars-same s w)) (record { given = λ b g. absurd g; waiting = w })
    (λ _. let bars = bars-steps (with_deltas s log upto rows) (ready_blocks s.jobs (applied_upto s.applied log upto)) w in
    record { given = bars.given; waiting = bars.waiting })
barred-transition s (Check block place) w = record { given = λ b. gives_none (is_place (entry_at s block).place place) b; waiting = w }
  where
    gives_none : (t : Bool) (b : BlockId) → HandsOut b (cond t (Live (entry_at s block)) Dead ∷ []) → job_at s.jobs b ≡ None
    gives_none true b g = absurd g
    gives_none false b g = absurd g
barred-transition s Tick w = record { given = λ b g. absurd (send_all_gives b s.jobs g); waiting = w }

pub nobody_waits : Waiting []
unfolding IsStrictlySortedBy
nobody_waits = record { sorted = tt; own = λ b job fact. absurd (cc) }

pub waiting-all : (s : SlotState) (inputs : List In) → Waiting s.jobs → Waiting (state_after s inputs).jobs
waiting-all = steps_keep transition (λ t. Waiting t.jobs) (λ t input w. (barred-transition t input w).waiting)

pub barred-all : (epoch : ℕ) (index : List (BlockId × Entry)) (beliefs : List (BlockId × ℕ × Mode)) (applied : List ℕ) (inputs : List In) (input : In)
    (b : BlockId)
    → HandsOut b (transition (state_after (slot_start epoch index beliefs applied) inputs) input).outs
    → job_at (transition (state_after (slot_start epoch index beliefs applied) inputs) input).state.jobs b ≡ None
barred-all epoch index beliefs applied inputs input =
    (barred-transition (state_after (slot_start epoch index beliefs applied) inputs) input
    (waiting-all (slot_start epoch index beliefs applied) inputs nobody_waits)).given
