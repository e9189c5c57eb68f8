-- The takeover of a manager that asked a question awaits the answer, under its own number.
use Rattle.std.proofs.Common.{◌≡◌, ℕ, List, [], ◌∷◌, Option, Some, None, refl, sym, ap, subst, ◌∙◌}
use Rattle.std.specs.List.{slice_get}
use Rattle.std.specs.Prelude.{unwrap_or}
use Rattle.manager_slots.specs.declared.slot_phase.SlotPhase.{SlotPhase}
use Rattle.manager_slots.specs.declared.slot_phase.SlotPhase.TheVariants as phase
use Rattle.manager_slots.specs.Slots.{fetch_of as fetch_in}
use Rattle.manager_slots.specs.SlotTable as table
use Rattle.manager_slots.specs.SlotTable.{Table}
use Rattle.headline.specs.Managers.{phase_at}
use Rattle.node_slots.proofs.node_tie.ManagerActive.{some_none}

some_is : {X : Type 0} (x y : X) → Some x ≡ Some y → x ≡ y
some_is x y same = ap (λ o. unwrap_or o x) same

one_fetch : (t : Table) (ask k : ℕ) → table.fetch_at t ask k ≡ fetch_in (phase_at t k) ask
one_fetch t ask k = by (slice_get t k)
  where
    by : (o : Option SlotPhase) → table.fetch_one ask o ≡ fetch_in (unwrap_or o (phase.Away 0)) ask
    by None = refl
    by (Some p) = refl

pub fetch_is : (t : Table) (ask : ℕ) (slots : List ℕ) (which : ℕ × ℕ) → table.fetch_among t ask slots ≡ Some which
    → fetch_in (phase_at t which.0) ask ≡ Some which.1
fetch_is t ask [] which fact = absurd (some_none which (sym fact))
fetch_is t ask (k ∷ ks) which fact = by (table.fetch_at t ask k) refl fact (fetch_is t ask ks which)
  where
    by : (o : Option ℕ) → table.fetch_at t ask k ≡ o → table.first_fetch k o (table.fetch_among t ask ks) ≡ Some which
        → (table.fetch_among t ask ks ≡ Some which → fetch_in (phase_at t which.0) ask ≡ Some which.1) → fetch_in (phase_at t which.0) ask ≡ Some which.1
    by None at fact more = more fact
    by (Some own) at fact more = subst (λ (w : ℕ × ℕ). fetch_in (phase_at t w.0) ask ≡ Some w.1) (some_is (k, own) which fact) (sym (one_fetch t ask k) ∙ at)
