-- What an event of one slot gives, where what the slot has is lent from the table.
use Rattle.std.proofs.Common.{◌≡◌, ℕ, List, length, Option, Some, None, slice_get, option_map, Result, Ok, Err, OnOk, refl, sym, ap, subst, ◌∙◌, MutBor}
use Rattle.std.specs.List.{IsItemAtMut}
use Rattle.std.proofs.lemmas.Option.{slice_get_read, slice_get_past}
use Rattle.manager_slots.specs.declared.slot_phase.SlotPhase.{SlotPhase}

-- what is lent is what lies there
pub lent : {X : Type 0} (xs : List X) (i : ℕ) (r : Option (MutBor X)) → IsItemAtMut xs i r → slice_get xs i ≡ option_map (λ x. x.now) r
lent xs i None item = slice_get_past xs i item.3
lent xs i (Some x) item = slice_get_read xs (length xs) i x.now refl item.3.0 item.1

ok_to : {R E : Type 0} (r : Result R E) (P Q : Type 0) → (P → Q) → OnOk r P → OnOk r Q
ok_to (Ok x) P Q to p = to p
ok_to (Err e) P Q to p = tt

ok_all : {R E : Type 0} (r : Result R E) (P : Type 0) → P → OnOk r P
ok_all (Ok x) P p = p
ok_all (Err e) P p = tt

module _ {Y : Type 0} where
  module _ (f : Option SlotPhase → Y) (table : List SlotPhase) (slot : ℕ) (items : List SlotPhase) (index : ℕ) (r : Option (MutBor SlotPhase))
      (item : IsItemAtMut items index r) (same : items ≡ table) (at : index ≡ slot) where
    there : slice_get table slot ≡ option_map (λ x. x.now) r
    there = ap (λ t. slice_get t slot) (sym same) ∙ ap (λ k. slice_get items k) (sym at) ∙ lent items index r item

    -- the slot is there: the event made this of it
    pub as_found : {R E : Type 0} (result one : Result R E) (p : MutBor SlotPhase) → r ≡ Some p → (more made : Y) → more ≡ made → result ≡ one
        → OnOk one (made ≡ f (Some p.now)) → OnOk result (more ≡ f (slice_get table slot))
    as_found result one p fact more made same_more same_result e =
        subst (λ o. OnOk o (more ≡ f (slice_get table slot))) (sym same_result)
        (ok_to one (made ≡ f (Some p.now)) (more ≡ f (slice_get table slot)) (λ h. same_more ∙ h ∙ sym (ap f (there ∙ ap (option_map (λ x. x.now)) fact))) e)

    -- there is no such slot
    pub as_missing : {R E : Type 0} (result : Result R E) → r ≡ None → (more made : Y) → more ≡ made → made ≡ f None
        → OnOk result (more ≡ f (slice_get table slot))
    as_missing result fact more made same_more e =
        ok_all result (more ≡ f (slice_get table slot)) (same_more ∙ e ∙ sym (ap f (there ∙ ap (option_map (λ x. x.now)) fact)))
