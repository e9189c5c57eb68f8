-- What is so of each effect of a move, and of what an item gets as it begins, is so of each effect of an event; and who says that a segment is lost.
use Rattle.std.proofs.Common.{◌≡◌, ℕ, List, [], ◌∷◌, ◌++◌, Option, Some, None, inl, inr, refl, sym, subst}
use Rattle.std.specs.List.{AllByRecursion}
use Rattle.node_base.specs.Beginning.{answers_unanswered, items_begin, items_wait}
use Rattle.node_base.specs.declared.effects.Effect.{Effect}
use Rattle.node_base.specs.declared.effects.Effect.TheVariants.{Send, Answer as Answers, Lose, Does}
use Rattle.node_base.specs.declared.items.Items.{Items}
use Rattle.token_protocol.specs.Basics.{In}
use Rattle.version_model.specs.declared.answer.Answer.{Answer}
use Rattle.version_model.specs.declared.answer.Answer.TheVariants as answer
use Rattle.wire_msg.specs.declared.packet.Do.{Do}
use Rattle.xfs_base.proofs.Alls.{all_append, all_weaker}
use Rattle.xfs_base.specs.declared.segment.SegName.{SegName}
use Rattle.serving_moves.specs.item_moves.Moves.{AllPlain, Begun, Event, IsPlain, Losses, MayAnswer, MayTell, Move, Moves}
use Rattle.serving_moves.specs.item_moves.Moves.Begun.{AtOnce, Waits}
use Rattle.serving_moves.specs.item_moves.Moves.Event.{Begins, GoesOn, Idles, Cuts}
use Rattle.serving_moves.specs.item_moves.Moves.Move.{Stays, Ends, Loses}
use Rattle.serving_moves.specs.item_moves.Moves.Moves.{Last, Then}

module _ (losses : Losses) (J : Answer → Type 0) (Q : Effect → Type 0) (plain : (x : Effect) → IsPlain losses x → Q x)
    (ends : (item : ℕ) (a : Answer) → J a → Q (Answers item a)) (lost : (item : ℕ) (name : SegName) → MayAnswer losses → Q (Answers item (answer.Lost name)))
  where
    all_so : (outs : List Effect) → AllPlain losses outs → AllByRecursion Q outs
    all_so outs all = all_weaker (IsPlain losses) Q plain outs all

    open_so : (o : Option ℕ) (a : Answer) → ((item : ℕ) → Q (Answers item a)) → AllByRecursion Q (answers_unanswered o a)
    open_so None a each = tt
    open_so (Some item) a each = (each item, tt)

    move_each : (before after : Items) (outs : List Effect) → Move losses J before outs after → AllByRecursion Q outs
    move_each before after outs (Stays stay all) = all_so outs all
    move_each before after outs (Ends a so) = open_so before.unanswered a (λ item. ends item a so)
    move_each before after outs (Loses name said may all among) =
        all_append Q said (answers_unanswered before.unanswered (answer.Lost name)) (all_so said all)
        (open_so before.unanswered (answer.Lost name) (λ item. lost item name may))

    pub moves_each : (before after : Items) (outs : List Effect) → Moves losses J before outs after → AllByRecursion Q outs
    moves_each before after outs (Last move) = move_each before after outs move
    moves_each before after outs (Then between now more move rest) =
        all_append Q now more (move_each before between now move) (moves_each between after more rest)

    module _ (K : Answer → Type 0) (prompt : (item : ℕ) (a : Answer) → K a → Q (Answers item a)) where
      begun_each : (items after : Items) (number : ℕ) (outs : List Effect) → Begun losses J K items number outs after → AllByRecursion Q outs
      begun_each items after number outs (AtOnce a first more so all rest) =
          all_append Q first (Answers number a ∷ more) (all_so first all) (prompt number a so, all_so more rest)
      begun_each items after number outs (Waits made) = moves_each (items_wait items number) after outs made

      pub event_each : ((item : ℕ) → Q (Answers item answer.Cut)) → ((item : ℕ) → Q (Answers item answer.Done)) → (before after : Items) (what : Do)
          (outs : List Effect) → Event losses J K before what outs after → AllByRecursion Q outs
      event_each cut done before after what outs (GoesOn made) = moves_each before after outs made
      event_each cut done before after what outs (Idles is) = tt
      event_each cut done before after what outs (Begins number is next made) = begun_each (items_begin before) after number outs made
      event_each cut done before after what outs (Cuts number first more is next falls all rest) =
          all_append Q first (answers_unanswered (items_begin before).unanswered answer.Cut ++ Answers number answer.Done ∷ more) (all_so first all)
          (all_append Q (answers_unanswered (items_begin before).unanswered answer.Cut) (Answers number answer.Done ∷ more)
          (open_so (items_begin before).unanswered answer.Cut cut) (done number, all_so more rest))

-- ---- losses

pub all_in : {X : Type 0} (P : X → Type 0) (x : X) (xs : List X) → AllByRecursion P xs → In x xs → P x
all_in P x [] all among = absurd among
all_in P x (y ∷ xs) all (inl e) = subst P (sym e) all.0
all_in P x (y ∷ xs) all (inr among) = all_in P x xs all.1 among

module _ (losses : Losses) (J K : Answer → Type 0) (name : SegName) where
  abbrev IfLost : Effect → Type 0
  IfLost x = x ≡ Lose name → MayTell losses

  one_tells : (x : Effect) → IsPlain losses x → IfLost x
  one_tells (Send to said) plain e = absurd cc
  one_tells (Answers item a) plain e = absurd plain
  one_tells (Lose seg) plain e = plain
  one_tells (Does a) plain e = absurd cc

  answer_tells : (item : ℕ) (a : Answer) → IfLost (Answers item a)
  answer_tells item a e = absurd cc

  -- where it is said that a segment is lost, that may be said
  pub event_tells : (before after : Items) (what : Do) (outs : List Effect) → Event losses J K before what outs after → In (Lose name) outs → MayTell losses
  event_tells before after what outs event among =
      all_in IfLost (Lose name) outs
      (event_each losses J IfLost one_tells (λ item a so. answer_tells item a) (λ item seg may. answer_tells item (answer.Lost seg)) K
      (λ item a so. answer_tells item a) (λ item. answer_tells item answer.Cut) (λ item. answer_tells item answer.Done) before after what outs event)
      among refl
