-- What is applied of a log never falls, and the counts follow the index.
use Rattle.std.proofs.Common.{◌≡◌, ℕ, ◌-◌, ◌<◌, ◌≤◌, zero, suc, true, List, [], ◌∷◌, get_or, set, arith}
use Rattle.std.proofs.lemmas.Bool.Decides.{nat_tests}
use Rattle.xfs_base.specs.Steps.{steps}
use Rattle.xfs_base.specs.declared.block.BlockId.{BlockId}
use Rattle.xfs_base.specs.declared.entry.Entry.{Entry}
use Rattle.xfs_base.specs.declared.token.Mode.{Mode}
use Rattle.xfs_base.proofs.StepLoops.{steps_keep}
use Rattle.slot_beliefs.specs.Index.{IsCounted, block_index_new}
use Rattle.slot_beliefs.specs.Recalls.{applied_of, ready_blocks, applied_upto}
use Rattle.slot_beliefs.proofs.Counting.{nothing_counted, keeps-counted-all}
use Rattle.token_manager.specs.declared.input.In.{In}
use Rattle.token_manager.specs.declared.input.In.TheVariants.{Want, Gave, Deltas, Check, Tick}
use Rattle.token_manager.specs.SlotState.{SlotState}
use Rattle.token_manager.specs.Transition.{Done, slot_start, joins_on, with_deltas, finish_job, transition}
use Rattle.token_manager.specs.Laws.{state_after}
use Rattle.token_manager.proofs.Cases.{by_want, by_gave, by_deltas, by_finished_at}

rises : (xs : List ℕ) (i j v : ℕ) → get_or xs i 0 < v → get_or xs j 0 ≤ get_or (set xs i v) j 0
rises [] i j v less = omega arith
rises (x ∷ xs) zero zero v less = omega arith
rises (x ∷ xs) zero (suc j) v less = omega arith
rises (x ∷ xs) (suc i) zero v less = omega arith
rises (x ∷ xs) (suc i) (suc j) v less = rises xs i j v less

leads_on : (applied first upto : ℕ) → joins_on applied first upto ≡ true → applied < upto
leads_on applied first upto joins = grind (arith, nat_tests)

-- ---- applied

abbrev Rises : SlotState → Done → Type 0
Rises s r = (log : ℕ) → applied_of s.applied log ≤ applied_of r.state.applied log

rises-finished : (s : SlotState) (blocks : List BlockId) → Rises s (steps finish_job s blocks)
rises-finished s blocks = steps_keep finish_job (λ t. (log : ℕ) → applied_of s.applied log ≤ applied_of t.applied log)
    (λ t block so_far. by_finished_at (λ r. (log : ℕ) → applied_of s.applied log ≤ applied_of r.state.applied log) t block so_far (λ job fact. so_far)) s blocks
    (λ log. omega arith)

pub rises-transition : (s : SlotState) (input : In) → Rises s (transition s input)
rises-transition s (Want want end) =
    by_want (Rises s) s want end (λ log. omega arith) (λ _ _ log. omega arith) (λ _ log. omega arith)
rises-transition s (Gave client block stamp end) =
    by_gave (Rises s) s client block stamp end (λ log. omega arith) (λ _ _ _ log. omega arith) (λ _ _ log. omega arith)
rises-transition s (Deltas log first upto rows) = by_deltas (Rises s) s log first upto rows (λ of. omega arith) (λ of. omega arith) (λ joins of.
    let here : applied_of s.applied of ≤ applied_of (applied_upto s.applied log upto) of =
    rises s.applied (log.0 - 1) (of - 1) upto (leads_on _ first upto joins) in
    let later : applied_of (applied_upto s.applied log upto) of ≤ applied_of
    (steps finish_job (with_deltas s log upto rows) (ready_blocks s.jobs (applied_upto s.applied log upto))).state.applied of =
    rises-finished (with_deltas s log upto rows) (ready_blocks s.jobs (applied_upto s.applied log upto)) of in
    omega arith)
rises-transition s (Check block place) = λ log. omega arith
rises-transition s Tick = λ log. omega arith

pub rises-all : (s : SlotState) (inputs : List In) → Rises s (steps transition s inputs)
rises-all s [] = λ log. omega arith
rises-all s (i ∷ rest) = λ log.
    let first : applied_of s.applied log ≤ applied_of (transition s i).state.applied log = rises-transition s i log in
    let later : applied_of (transition s i).state.applied log ≤ applied_of (state_after (transition s i).state rest).applied log =
    rises-all (transition s i).state rest log in
    omega arith

-- ---- the counts

abbrev Counted : Done → Type 0
Counted r = IsCounted r.state.index

counted-finished : (s : SlotState) (blocks : List BlockId) → IsCounted s.index → Counted (steps finish_job s blocks)
counted-finished = steps_keep finish_job (λ t. IsCounted t.index) (λ t block counted. by_finished_at Counted t block counted (λ _ _. counted))

counted-transition : (s : SlotState) (input : In) → IsCounted s.index → Counted (transition s input)
counted-transition s (Want want end) counted =
    by_want Counted s want end counted (λ _ _. counted) (λ _. counted)
counted-transition s (Gave client block stamp end) counted = by_gave Counted s client block stamp end counted (λ _ _ _. counted) (λ _ _. counted)
counted-transition s (Deltas log first upto rows) counted =
    by_deltas Counted s log first upto rows counted counted
    (λ _. counted-finished (with_deltas s log upto rows) (ready_blocks s.jobs (applied_upto s.applied log upto)) (keeps-counted-all s.index rows counted))
counted-transition s (Check block place) counted = counted
counted-transition s Tick counted = counted

pub counted-all : (epoch : ℕ) (index : List (BlockId × Entry)) (beliefs : List (BlockId × ℕ × Mode)) (applied : List ℕ) (inputs : List In)
    → IsCounted (state_after (slot_start epoch index beliefs applied) inputs).index
counted-all epoch index beliefs applied inputs =
    steps_keep transition (λ t. IsCounted t.index) counted-transition (slot_start epoch index beliefs applied) inputs
    (keeps-counted-all block_index_new index nothing_counted)
