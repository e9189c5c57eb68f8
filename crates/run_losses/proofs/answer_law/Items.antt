-- The items of a node over an event, read off its moves: how many have begun, and which of them waits for its answer.
use Rattle.std.proofs.Common.{◌≡◌, ◌⊎◌, ℕ, ◌+◌, List, Some, inl, inr, refl, ap, ◌∙◌}
use Rattle.node_base.specs.Beginning.{items_answer, items_begin, is_left, next_item, items_wait}
use Rattle.node_base.specs.declared.effects.Effect.{Effect}
use Rattle.node_base.specs.declared.items.Items.{Items}
use Rattle.version_model.specs.declared.answer.Answer.{Answer}
use Rattle.wire_msg.specs.declared.packet.Do.{Do}
use Rattle.wire_msg.specs.declared.packet.Do.TheVariants.{Begin}
use Rattle.xfs_base.proofs.Booleans.{by_test}
use Rattle.serving_moves.proofs.item_moves.Keeping.{moves_stay, none_open, one_number, same}
use Rattle.serving_moves.specs.item_moves.Moves.{Begun, Event, ItemsStay, Losses}
use Rattle.serving_moves.specs.item_moves.Moves.Begun.{AtOnce, Waits}
use Rattle.serving_moves.specs.item_moves.Moves.Event.{Begins, GoesOn, Idles, Cuts}
use Rattle.run_losses.specs.answer_law.Answers.{IsBegunBy}

-- one more may have begun by a Begin, and what waits waited before or has just begun
pub record Goes (before after : Items) (what : Do) : Type 0 where
  pub begun : (after.begun ≡ before.begun) ⊎ ((what ≡ Begin) × (after.begun ≡ before.begun + 1))
  pub waits : (number : ℕ) → after.unanswered ≡ Some number → IsBegunBy before what number

stay_goes : (a b : Items) (what : Do) → ItemsStay a b → Goes a b what
stay_goes a b what x = record { begun = inl x.begun; waits = λ number fact. inl (x.waits number fact) }

-- the next item has begun
begun_goes : (items : Items) (what : Do) → what ≡ Begin → Goes items (items_begin items) what
begun_goes items what is =
    by_test (λ (i : Items). Goes items i what) (is_left items) (record items { begun = items.begun + 1 }) items
    (λ _. record { begun = inr (is, refl); waits = λ number fact. inl fact }) (λ _. stay_goes items items what (same items))

-- and from there as many have begun
then_goes : (a b c : Items) (what : Do) → Goes a b what → c.begun ≡ b.begun → ((number : ℕ) → c.unanswered ≡ Some number → IsBegunBy a what number)
    → Goes a c what
then_goes a b c what x number_is waits = record { begun = by x.begun; waits = waits }
  where
    by : (b.begun ≡ a.begun) ⊎ ((what ≡ Begin) × (b.begun ≡ a.begun + 1)) → (c.begun ≡ a.begun) ⊎ ((what ≡ Begin) × (c.begun ≡ a.begun + 1))
    by (inl e) = inl (number_is ∙ e)
    by (inr p) = inr (p.0, number_is ∙ p.1)

module _ (losses : Losses) (J K : Answer → Type 0) (before : Items) (what : Do) where
  number_goes : (after : Items) (number : ℕ) (outs : List Effect) → what ≡ Begin → next_item before ≡ Some number
      → Begun losses J K (items_begin before) number outs after → Goes before after what
  number_goes after number outs is next (AtOnce a first more so plain rest) = begun_goes before what is
  number_goes after number outs is next (Waits made) =
      let stay = moves_stay losses J (items_wait (items_begin before) number) after outs made in
      then_goes before (items_begin before) after what (begun_goes before what is) stay.begun
      (λ n fact. inr (is, next ∙ ap Some (one_number number n (stay.waits n fact))))

  pub event_goes : (after : Items) (outs : List Effect) → Event losses J K before what outs after → Goes before after what
  event_goes after outs (GoesOn made) = stay_goes before after what (moves_stay losses J before after outs made)
  event_goes after outs (Idles is) = begun_goes before what is
  event_goes after outs (Begins number is next made) = number_goes after number outs is next made
  event_goes after outs (Cuts number first more is next falls plain rest) =
      let none = none_open (items_begin before) in
      let x = begun_goes before what is in
      then_goes before (items_begin before) (items_answer (items_begin before)) what x refl (λ n fact. x.waits n (none.waits n fact))
