-- The least horizon of a log never falls, and that of a log of which no horizon tells stays 1.
use Rattle.std.proofs.Common.{◌≡◌, ℕ, zero, suc, ◌-◌, ◌==◌, ◌<◌, ◌≤◌, true, List, [], ◌∷◌, length, map, slice_get, refl, ◌∙◌, arith}
use Rattle.std.specs.Prelude.{slice_index, slice_set, unwrap_or}
use Rattle.std.specs.List.{AllByRecursion}
use Rattle.std.proofs.lemmas.Grind.{get_or_default_zero}
use Rattle.std.proofs.lemmas.Option.{unwrap_or-slice_get}
use Rattle.std.proofs.lemmas.Bool.{eqb-true}
use Rattle.xfs_base.proofs.Booleans.{and_first, contrary}
use Rattle.xfs_base.specs.Limits.{slot_count, block_logs}
use Rattle.registry.specs.Board.{slot_news, transition}
use Rattle.registry.specs.BoardState.{BoardState}
use Rattle.registry.specs.Checkpoints.{none_lower, covers_kept, horizon_at}
use Rattle.registry.specs.declared.checkpoint.Checkpoint.{Checkpoint}
use Rattle.registry.specs.declared.input.In.{In}
use Rattle.registry.specs.Slots.{all_slots}
use Rattle.registry.proofs.Later.{later_all}
use Rattle.log_scan.specs.Transition.{horizon_of, least_horizon}

-- each slot has nine numbers
abbrev pub HasHorizons : BoardState → Type 0
HasHorizons b = (slot : ℕ) → slot < slot_count → length (horizon_at b.checkpoints slot) ≡ block_logs

-- ---- a checkpoint that is kept

set_nine : (cs : List Checkpoint) (at slot : ℕ) (c : Checkpoint) → length c.horizon ≡ block_logs → length (horizon_at cs slot) ≡ block_logs
    → length (horizon_at (slice_set cs at c) slot) ≡ block_logs
set_nine [] at slot c new old = old
set_nine (x ∷ xs) zero zero c new old = new
set_nine (x ∷ xs) zero (suc slot) c new old = old
set_nine (x ∷ xs) (suc at) zero c new old = old
set_nine (x ∷ xs) (suc at) (suc slot) c new old = set_nine xs at slot c new old

covered_nine : (cs : List Checkpoint) (slot : ℕ) (horizon : List ℕ) → covers_kept cs slot horizon ≡ true → length horizon ≡ block_logs
covered_nine [] slot horizon h = contrary h
covered_nine (c ∷ cs) zero horizon h = eqb-true (length horizon) block_logs (and_first (length horizon == block_logs) (none_lower c.horizon horizon) h)
covered_nine (c ∷ cs) (suc slot) horizon h = covered_nine cs slot horizon h

pub kept_nine : (cs : List Checkpoint) (at : ℕ) (c : Checkpoint) → covers_kept cs at c.horizon ≡ true
    → ((slot : ℕ) → slot < slot_count → length (horizon_at cs slot) ≡ block_logs)
    → (slot : ℕ) → slot < slot_count → length (horizon_at (slice_set cs at c) slot) ≡ block_logs
kept_nine cs at c covers old slot below = set_nine cs at slot c (covered_nine cs at c.horizon covers) (old slot below)

-- ---- the least of them

number_is : (h : List ℕ) (k : ℕ) → k < length h → unwrap_or (slice_get h k) 1 ≡ slice_index h k
number_is h k below = unwrap_or-slice_get h k 1 ∙ get_or_default_zero h k 1 below

module _ (log : ℕ) (some : log ≤ block_logs) (b c : BoardState) (old : HasHorizons b) (new : HasHorizons c)
    (rises : (slot k : ℕ) → k < block_logs → slice_index (horizon_at b.checkpoints slot) k ≤ slice_index (horizon_at c.checkpoints slot) k) where
  one_rises : (slot : ℕ) → slot < slot_count → horizon_of log (slot_news b slot) ≤ horizon_of log (slot_news c slot)
  one_rises slot below =
      let k : log - 1 < block_logs = omega arith in
      let m = old slot below in
      let n = new slot below in
      let e = number_is (horizon_at b.checkpoints slot) (log - 1) (omega arith) in
      let f = number_is (horizon_at c.checkpoints slot) (log - 1) (omega arith) in
      let r = rises slot (log - 1) k in
      omega arith

  all_rise : (slots : List ℕ) → AllByRecursion (λ (slot : ℕ). slot < slot_count) slots
      → least_horizon log (map (slot_news b) slots) ≤ least_horizon log (map (slot_news c) slots)
  all_rise [] below = omega arith
  all_rise (slot ∷ slots) below = (let first = one_rises slot below.0 in let rest = all_rise slots below.1 in omega arith)

  eight : AllByRecursion (λ (slot : ℕ). slot < slot_count) all_slots
  eight = (omega arith, (omega arith, (omega arith, (omega arith, (omega arith, (omega arith, (omega arith, (omega arith, tt))))))))

  least_rises : least_horizon log (map (slot_news b) all_slots) ≤ least_horizon log (map (slot_news c) all_slots)
  least_rises = all_rise all_slots eight

-- whatever the registry takes, the least horizon is no lower
pub low_rises : (log : ℕ) → log ≤ block_logs → (b : BoardState) (i : In) → HasHorizons b → HasHorizons (transition b i).state
    → least_horizon log (map (slot_news b) all_slots) ≤ least_horizon log (map (slot_news (transition b i).state) all_slots)
low_rises log some b i old new = least_rises log some b (transition b i).state old new (λ slot k below. (later_all b (i ∷ [])).horizons slot k below)

-- ---- a log above 9

-- a slot tells of nine logs: of any other its horizon is 1
beyond : (h : List ℕ) (k : ℕ) → length h ≤ k → unwrap_or (slice_get h k) 1 ≡ 1
beyond [] k less = refl
beyond (x ∷ h) zero less = absurd (let e = less in omega arith)
beyond (x ∷ h) (suc k) less = beyond h k (omega arith)

pub least_is_one : (log : ℕ) → block_logs < log → (b : BoardState) → HasHorizons b → least_horizon log (map (slot_news b) all_slots) ≡ 1
least_is_one log high b nine =
    let a = one 0 (omega arith) in
    let c = one 1 (omega arith) in
    let d = one 2 (omega arith) in
    let e = one 3 (omega arith) in
    let f = one 4 (omega arith) in
    let h = one 5 (omega arith) in
    let i = one 6 (omega arith) in
    let j = one 7 (omega arith) in
    omega arith
  where
    one : (slot : ℕ) → slot < slot_count → horizon_of log (slot_news b slot) ≡ 1
    one slot below = beyond (horizon_at b.checkpoints slot) (log - 1) (let e = nine slot below in omega arith)
