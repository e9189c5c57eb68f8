-- One slot of a manager's table: what a table has there, and what holds of a table whose slot took an event.
use Rattle.std.proofs.Common.{◌≡◌, ℕ, ◌≤◌, ◌<◌, List, [], ◌∷◌, length, get_or, get_or-set_same, get_or-set_other, Option, Some, None, refl, sym, ap, subst, ◌∙◌, arith, zero, suc, map}
use Rattle.std.specs.List.{slice_get, slice_set}
use Rattle.std.specs.Prelude.{unwrap_or}
use Rattle.std.proofs.lemmas.Option.{unwrap_or-slice_get, slice_get_within}
use Rattle.xfs_base.specs.Steps.{Stepped}
use Rattle.xfs_base.specs.Limits.{slot_count}
use Rattle.node_base.specs.declared.effects.Effect.{Effect}
use Rattle.node_base.specs.declared.questions.Questions.{Questions}
use Rattle.manager_slots.specs.declared.slot_phase.SlotPhase.{SlotPhase}
use Rattle.manager_slots.specs.declared.slot_phase.SlotPhase.TheVariants as phase
use Rattle.manager_slots.specs.SlotTable as table
use Rattle.manager_slots.specs.SlotTable.{Table, TableAsker, all_slots, slot_table_unknown}
use Rattle.manager_slots.specs.Takeovers.{Asker, asker}
use Rattle.headline.specs.Managers.{phase_at}
use Rattle.node_slots.proofs.node_tie.ManagerActive.{some_none}

as_read : (t : Table) (k : ℕ) → phase_at t k ≡ get_or t k (phase.Away 0)
as_read t k = unwrap_or-slice_get t k (phase.Away 0)

pub set_here : (t : Table) (k : ℕ) (q : SlotPhase) → k < length t → phase_at (slice_set t k q) k ≡ q
set_here t k q within = as_read (slice_set t k q) k ∙ get_or-set_same t k q (phase.Away 0) within

pub set_there : (t : Table) (k m : ℕ) (q : SlotPhase) → (m ≡ k → ⊥) → phase_at (slice_set t k q) m ≡ phase_at t m
set_there t k m q other = as_read (slice_set t k q) m ∙ get_or-set_other t k m q (phase.Away 0) other ∙ sym (as_read t m)

pub past : (t : Table) (k : ℕ) → slice_get t k ≡ None → length t ≤ k
past [] k fact = omega arith
past (x ∷ xs) zero fact = absurd (some_none x fact)
past (x ∷ xs) (suc k) fact = let rest = past xs k fact in omega arith

-- what holds of a table whose slot took the event holds of what the event makes of the table
pub by_slot : (P : Table → List Effect → Type 0) (t : Table) (k : ℕ) (event : SlotPhase → Stepped SlotPhase Effect) → (length t ≤ k → P t [])
    → (k < length t → P (slice_set t k (event (phase_at t k)).state) (event (phase_at t k)).outs)
    → P (table.at_slot t k event).state (table.at_slot t k event).outs
by_slot P t k event none some = by (slice_get t k) refl
  where
    by : (o : Option SlotPhase) → slice_get t k ≡ o → P (table.in_slot t k event o).state (table.in_slot t k event o).outs
    by None fact = none (past t k fact)
    by (Some p) fact = let same : phase_at t k ≡ p = ap (λ o. unwrap_or o (phase.Away 0)) fact in subst
        (λ x. P (slice_set t k (event x).state) (event x).outs) same (some (slice_get_within t k p fact))

-- an event that may ask
abbrev pub as_slot : Questions → (Asker → Stepped Asker Effect) → SlotPhase → Stepped SlotPhase Effect
as_slot q event p = record { state = (event (asker p q)).state.phase; outs = (event (asker p q)).outs }

pub by_taken : (P : Table → List Effect → Type 0) (a : TableAsker) (k : ℕ) (event : Asker → Stepped Asker Effect)
    → P (table.at_slot a.table k (as_slot a.questions event)).state (table.at_slot a.table k (as_slot a.questions event)).outs
    → P (table.at_taken a k event).state.table (table.at_taken a k event).outs
by_taken P a k event = by (slice_get a.table k)
  where
    by : (o : Option SlotPhase) → P (table.in_slot a.table k (as_slot a.questions event) o).state (table.in_slot a.table k (as_slot a.questions event) o).outs
        → P (table.in_taken a k event o).state.table (table.in_taken a k event o).outs
    by None h = h
    by (Some p) h = h

-- a table made slot by slot has in each slot what was made of its number
pub first_at : (f : ℕ → SlotPhase) (k : ℕ) → k < slot_count → phase_at (map f all_slots) k ≡ f k
first_at f zero h = refl
first_at f (suc zero) h = refl
first_at f (suc (suc zero)) h = refl
first_at f (suc (suc (suc zero))) h = refl
first_at f (suc (suc (suc (suc zero)))) h = refl
first_at f (suc (suc (suc (suc (suc zero))))) h = refl
first_at f (suc (suc (suc (suc (suc (suc zero)))))) h = refl
first_at f (suc (suc (suc (suc (suc (suc (suc zero))))))) h = refl
first_at f (suc (suc (suc (suc (suc (suc (suc (suc k)))))))) h = absurd (omega arith)

-- a table of which nothing is known
pub unknown_at : (k : ℕ) → phase_at slot_table_unknown k ≡ phase.Away 0
unknown_at zero = refl
unknown_at (suc zero) = refl
unknown_at (suc (suc zero)) = refl
unknown_at (suc (suc (suc zero))) = refl
unknown_at (suc (suc (suc (suc zero)))) = refl
unknown_at (suc (suc (suc (suc (suc zero))))) = refl
unknown_at (suc (suc (suc (suc (suc (suc zero)))))) = refl
unknown_at (suc (suc (suc (suc (suc (suc (suc zero))))))) = refl
unknown_at (suc (suc (suc (suc (suc (suc (suc (suc k)))))))) = refl
