-- What an event of a node answers, read off its moves: that a segment is lost only of an item that had begun, and behind the word that it is lost.
use Rattle.std.proofs.Common.{◌≡◌, ℕ, List, ◌∷◌, ◌++◌, Some, None, inl, inr, ap, ◌∙◌}
use Rattle.node_base.specs.Beginning.{answers_unanswered, items_begin, next_item, items_wait}
use Rattle.node_base.specs.declared.effects.Effect.{Effect}
use Rattle.node_base.specs.declared.effects.Effect.TheVariants.{Send, Answer as Answers, Lose, Does}
use Rattle.node_base.specs.declared.items.Items.{Items}
use Rattle.version_model.specs.declared.answer.Answer.{Answer}
use Rattle.version_model.specs.declared.answer.Answer.TheVariants as answer
use Rattle.wire_msg.specs.declared.packet.Do.{Do}
use Rattle.wire_msg.specs.declared.packet.Do.TheVariants.{Begin}
use Rattle.xfs_base.proofs.Alls.{all_append, all_weaker}
use Rattle.serving_moves.proofs.item_moves.Keeping.{moves_stay, one_number}
use Rattle.serving_moves.proofs.item_moves.Reading.{event_each}
use Rattle.serving_moves.specs.item_moves.Moves as moves
use Rattle.serving_moves.proofs.item_moves.Keeping.{may_silent}
use Rattle.serving_moves.specs.item_moves.Moves.{Begun, Event, IsPrompt, Losses, MayAnswer, Move, Moves}
use Rattle.serving_moves.specs.item_moves.Moves.Begun.{AtOnce, Waits}
use Rattle.serving_moves.specs.item_moves.Moves.Event.{Begins, GoesOn, Idles, Cuts}
use Rattle.serving_moves.specs.item_moves.Moves.Move.{Stays, Ends, Loses}
use Rattle.serving_moves.specs.item_moves.Moves.Moves.{Last, Then}
use Rattle.run_losses.proofs.answer_law.Telling.{AllPlain, IsPlain, Told, answers_plain, told_append, told_behind, told_of, told_plain}
use Rattle.run_losses.specs.answer_law.Answers.{IsBegunBy}
use Rattle.run_losses.specs.answer_law.Calls.{NotLost}

-- the item that is open
abbrev IsOpen : Items → ℕ → Type 0
IsOpen items number = items.unanswered ≡ Some number

prompt_not_lost : (a : Answer) → IsPrompt a → NotLost a
prompt_not_lost (answer.Lost name) so = so
prompt_not_lost _ so = tt

module _ (losses : Losses) (J : Answer → Type 0) (ends : (a : Answer) → J a → NotLost a) where
  plain_one : (x : Effect) → moves.IsPlain losses x → IsPlain x
  plain_one (Send to said) plain = tt
  plain_one (Answers item a) plain = absurd plain
  plain_one (Lose name) plain = tt
  plain_one (Does a) plain = may_silent losses a plain

  plain_all : (outs : List Effect) → moves.AllPlain losses outs → AllPlain outs
  plain_all outs plain = all_weaker (moves.IsPlain losses) IsPlain plain_one outs plain

  move_told : (before after : Items) (outs : List Effect) → Move losses J before outs after → Told (IsOpen before) None outs
  move_told before after outs (Stays stay plain) = told_plain (IsOpen before) None outs (plain_all outs plain)
  move_told before after outs (Ends a so) =
      told_plain (IsOpen before) None (answers_unanswered before.unanswered a) (answers_plain before.unanswered a (ends a so))
  move_told before after outs (Loses name said may plain ends) =
      told_behind (IsOpen before) name before.unanswered (λ n fact. fact) None said (plain_all said plain) ends

  moves_told : (before after : Items) (outs : List Effect) → Moves losses J before outs after → Told (IsOpen before) None outs
  moves_told before after outs (Last move) = move_told before after outs move
  moves_told before after outs (Then between now more move rest) =
      told_append (IsOpen before) None now more (move_told before between now move)
      (told_of (IsOpen between) (IsOpen before) (moves_stay losses J before between now (Last move)).waits None more (moves_told between after more rest))

  module _ (before : Items) (what : Do) where
    begun_told : (after : Items) (number : ℕ) (outs : List Effect) → what ≡ Begin → next_item before ≡ Some number
        → Begun losses J IsPrompt (items_begin before) number outs after → Told (IsBegunBy before what) None outs
    begun_told after number outs is next (AtOnce a first more so plain rest) =
        told_plain (IsBegunBy before what) None (first ++ Answers number a ∷ more)
        (all_append IsPlain first (Answers number a ∷ more) (plain_all first plain) (prompt_not_lost a so, plain_all more rest))
    begun_told after number outs is next (Waits made) =
        told_of (IsOpen (items_wait (items_begin before) number)) (IsBegunBy before what) (λ n fact. inr (is, next ∙ ap Some (one_number number n fact))) None outs
        (moves_told (items_wait (items_begin before) number) after outs made)

    -- what it answers to be lost it has said to be lost, of an item that had begun
    pub event_told : (after : Items) (outs : List Effect) → Event losses J IsPrompt before what outs after → Told (IsBegunBy before what) None outs
    event_told after outs (GoesOn made) =
        told_of (IsOpen before) (IsBegunBy before what) (λ n fact. inl fact) None outs (moves_told before after outs made)
    event_told after outs (Idles is) = tt
    event_told after outs (Begins number is next made) = begun_told after number outs is next made
    event_told after outs (Cuts number first more is next falls plain rest) =
        told_plain (IsBegunBy before what) None (first ++ (answers_unanswered (items_begin before).unanswered answer.Cut ++ Answers number answer.Done ∷ more))
        (all_append IsPlain first (answers_unanswered (items_begin before).unanswered answer.Cut ++ Answers number answer.Done ∷ more) (plain_all first plain)
        (all_append IsPlain (answers_unanswered (items_begin before).unanswered answer.Cut) (Answers number answer.Done ∷ more)
        (answers_plain (items_begin before).unanswered answer.Cut tt) (tt, plain_all more rest)))

    -- and where it may answer none so, it answers none so
    pub event_plain : (MayAnswer losses → ⊥) → (after : Items) (outs : List Effect) → Event losses J IsPrompt before what outs after → AllPlain outs
    event_plain silent after outs event =
        event_each losses J IsPlain plain_one (λ item a so. ends a so) (λ item name may. absurd (silent may)) IsPrompt (λ item a so. prompt_not_lost a so)
        (λ item. tt) (λ item. tt) before after what outs event
