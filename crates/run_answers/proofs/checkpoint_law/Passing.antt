-- A checkpoint passes over the slots that its manager doesn't manage, up to the next one that it does, or to the end.
use Rattle.std.proofs.Common.{◌≡◌, ◌<◌, ◌≤◌, ◌&&◌, ℕ, suc, max, nat_le, Bool, true, false, cond, List, [], ◌∷◌, Option, Some, None, slice_get, unwrap_or, refl, sym, ap, subst, ◌∙◌, arith}
use Rattle.std.proofs.lemmas.Bool.{leb-false, leb-true}
use Rattle.std.specs.List.{find}
use Rattle.core_world.specs.declared.any_node.AnyNode.{AnyNode}
use Rattle.manager_slots.specs.declared.slot_phase.Active.{Active}
use Rattle.manager_slots.specs.declared.slot_phase.SlotPhase.{SlotPhase}
use Rattle.manager_slots.specs.declared.slot_phase.SlotPhase.TheVariants as phase
use Rattle.manager_slots.specs.SlotTable.{Table, is_active_at, is_active_one, is_next, next_active}
use Rattle.world_base.specs.declared.estate.Estate.{Estate}
use Rattle.xfs_base.specs.Limits.{all_slots, slot_count}
use Rattle.headline.specs.Checkpoints.{HasGone}
use Rattle.headline.specs.Checkpoints.HasGone.{Begins, Counts, Leaves, Passes}
use Rattle.headline.specs.Managers.{active_at, active_in, phase_at}
use Rattle.headline.specs.Moments.{moment}

-- no more slots are counted than it has gone over
pub counted_low : {e : Estate AnyNode} {v begun place slot count : ℕ} → HasGone e v begun place slot count → count ≤ slot
counted_low Begins = omega arith
counted_low (Passes gone none) = (let low = counted_low gone in omega (arith, low))
counted_low (Counts done ack gone told hears same) = (let low = counted_low gone in omega (arith, low))
counted_low (Leaves done ack gone told hears later) = (let low = counted_low gone in omega (arith, low))

-- ---- a slot of the table

-- one that isn't managed
none_active : (o : Option SlotPhase) → is_active_one o ≡ false → active_in (unwrap_or o (phase.Away 0)) ≡ None
none_active None is = refl
none_active (Some (phase.Active active)) is = absurd cc
none_active (Some (phase.Away epoch)) is = refl
none_active (Some (phase.Taking taking)) is = refl
none_active (Some (phase.Broken epoch seg)) is = refl

-- and one that is
pub record IsManaged (table : Table) (slot : ℕ) : Type 0 where
  pub active : Active
  pub at : slice_get table slot ≡ Some (phase.Active active)

pub is_managed : (table : Table) (slot : ℕ) → is_active_at table slot ≡ true → IsManaged table slot
is_managed table slot is = by (slice_get table slot) refl is
  where
    by : (o : Option SlotPhase) → slice_get table slot ≡ o → is_active_one o ≡ true → IsManaged table slot
    by None at fact = absurd cc
    by (Some (phase.Active active)) at fact = record { active = active; at = at }
    by (Some (phase.Away epoch)) at fact = absurd cc
    by (Some (phase.Taking taking)) at fact = absurd cc
    by (Some (phase.Broken epoch seg)) at fact = absurd cc

pub its_state : (table : Table) (slot : ℕ) (active : Active) → slice_get table slot ≡ Some (phase.Active active)
    → active_in (phase_at table slot) ≡ Some active.slot
its_state table slot active at = ap (λ (o : Option SlotPhase). active_in (unwrap_or o (phase.Away 0))) at

-- ---- the next one

-- these are the slots from a number on
abbrev IsFrom : ℕ → List ℕ → Type 0
IsFrom k [] = k ≡ slot_count
IsFrom k (x ∷ xs) = (x ≡ k) × IsFrom (suc k) xs

from_low : (xs : List ℕ) (k : ℕ) → IsFrom k xs → k ≤ slot_count
from_low [] k is = omega (arith, is)
from_low (x ∷ xs) k is = (let low = from_low xs (suc k) is.1 in omega (arith, low))

-- of a manager with these slots, which has gone over those below a number
module _ (e : Estate AnyNode) (v begun now : ℕ) (table : Table) (same : (k : ℕ) → active_at (moment e now) k v ≡ active_in (phase_at table k)) (from count : ℕ)
    (low : from ≤ slot_count) (gone : HasGone e v begun now from count) where
  abbrev Over : ℕ → Type 0
  Over slot = HasGone e v begun now slot count

  abbrev pub Found : Option ℕ → Type 0
  Found None = Over slot_count
  Found (Some slot) = Over slot × ((slot < slot_count) × (is_active_at table slot ≡ true))

  passes : (k : ℕ) → is_active_at table k ≡ false → Over k → Over (suc k)
  passes k none over = Passes over (same k ∙ none_active (slice_get table k) none)

  search : (xs : List ℕ) (k : ℕ) → IsFrom k xs → Over (max k from) → Found (find (is_next table from) xs)
  search [] k is over = subst Over (ended k from is low) over
    where
      ended : (k from : ℕ) → k ≡ slot_count → from ≤ slot_count → max k from ≡ slot_count
      ended k from is low = omega (arith, is, low)
  search (x ∷ xs) k is over = by (nat_le from x) refl (is_active_at table x) refl (search xs (suc k) is.1)
    where
      above : (k from : ℕ) → from ≤ k → max k from ≡ k
      above k from less = omega (arith, less)

      next : (k from : ℕ) → from ≤ k → suc k ≡ max (suc k) from
      next k from less = omega (arith, less)

      below : (k from : ℕ) → k < from → max k from ≡ max (suc k) from
      below k from less = omega (arith, less)

      here : from ≤ x → Over x
      here less = subst Over (sym is.0) (subst Over (above k from (subst (λ n. from ≤ n) is.0 less)) over)

      small : x < slot_count
      small = (let upto = from_low xs (suc k) is.1 in let at = is.0 in omega (arith, upto, at))

      by : (s : Bool) → nat_le from x ≡ s → (t : Bool) → is_active_at table x ≡ t → (Over (max (suc k) from) → Found (find (is_next table from) xs))
          → Found (cond (s && t) (Some x) (find (is_next table from) xs))
      by true less true is_active rest = (here (leb-true from x less), (small, is_active))
      by true less false none rest =
          (let low_ = leb-true from x less in
          rest (subst Over (next k from (subst (λ n. from ≤ n) is.0 low_)) (subst (λ n. Over (suc n)) is.0 (passes x none (here low_)))))
      by false more t _ rest = rest (subst Over (below k from (subst (λ n. n < from) is.0 (leb-false from x more))) over)

  pub next_found : Found (next_active table from)
  next_found =
      search all_slots 0 (refl, (refl, (refl, (refl, (refl, (refl, (refl, (refl, refl)))))))) (subst Over (nothing_below from) gone)
    where
      nothing_below : (n : ℕ) → n ≡ max 0 n
      nothing_below n = omega arith
