-- What is so of each answer among the effects of an event, and of the acts that these become.
use Rattle.std.proofs.Common.{◌≡◌, ℕ, List, [], ◌∷◌, Option, Some, None, inl, inr, refl, sym, subst}
use Rattle.std.specs.List.{AllByRecursion}
use Rattle.node_base.specs.Beginning.{answers_unanswered}
use Rattle.node_base.specs.declared.effects.Effect.{Effect}
use Rattle.node_base.specs.declared.effects.Effect.TheVariants.{Send, Answer as Answers, Lose, Does}
use Rattle.node_base.specs.declared.items.Items.{Items}
use Rattle.node_base.specs.Effects.{acts_of}
use Rattle.serving_moves.proofs.item_moves.Keeping.{may_silent}
use Rattle.serving_moves.specs.item_moves.Moves.{AllPlain, Event, IsPlain, IsSilent, Losses, Move, Moves}
use Rattle.serving_moves.specs.item_moves.Moves.Event.{GoesOn, Idles, Begins, Cuts}
use Rattle.serving_moves.specs.item_moves.Moves.Move.{Stays, Ends, Loses}
use Rattle.serving_moves.specs.item_moves.Moves.Moves.{Last, Then}
use Rattle.token_protocol.specs.Basics.{In}
use Rattle.version_model.specs.declared.act.Act.TheVariants as act
use Rattle.version_model.specs.declared.answer.Answer.{Answer}
use Rattle.version_model.specs.declared.answer.Answer.TheVariants as answer
use Rattle.wire_msg.specs.declared.packet.Do.{Do}
use Rattle.wire_msg.specs.declared.packet.Do.TheVariants as whats
use Rattle.xfs_base.proofs.Alls.{all_append, all_weaker}
use Rattle.xfs_base.specs.declared.node.NodeId.{NodeId}
use Rattle.xfs_base.specs.declared.segment.SegName.{SegName}
use Rattle.headline.specs.Items.{IsOpen}

-- where an item is answered, this is so of it and the answer
abbrev pub Meets : (ℕ → Answer → Type 0) → Effect → Type 0
Meets P (Send to b) = Unit {0}
Meets P (Answers item a) = P item a
Meets P (Lose name) = Unit {0}
Meets P (Does a) = IsSilent a

abbrev pub AllMeet : (ℕ → Answer → Type 0) → List Effect → Type 0
AllMeet P outs = AllByRecursion (Meets P) outs

pub one_number : (a b : ℕ) → Some a ≡ Some b → a ≡ b
one_number a b fact = cc

pub none_open : (item : ℕ) → None ≡ Some item → ⊥
none_open item fact = cc

module _ (P : ℕ → Answer → Type 0) where
  one_meets : (losses : Losses) (x : Effect) → IsPlain losses x → Meets P x
  one_meets losses (Send to b) plain = tt
  one_meets losses (Answers item a) plain = absurd plain
  one_meets losses (Lose name) plain = tt
  one_meets losses (Does a) plain = may_silent losses a plain

  -- where nothing is answered
  pub plain_meets : (losses : Losses) (outs : List Effect) → AllPlain losses outs → AllMeet P outs
  plain_meets losses outs plain = all_weaker (IsPlain losses) (Meets P) (one_meets losses) outs plain

  -- the open item is answered
  pub open_meets : (o : Option ℕ) (a : Answer) → ((item : ℕ) → o ≡ Some item → P item a) → AllMeet P (answers_unanswered o a)
  open_meets None a each = tt
  open_meets (Some item) a each = (each item refl, tt)

  -- the answers are such, and what is open then is one of these
  pub record Moved (These : ℕ → Type 0) (outs : List Effect) (after : Items) : Type 0 where
    pub meets : AllMeet P outs
    pub opens : (item : ℕ) → IsOpen after item → These item

  -- By moves only one of these items is answered, by such an answer, or that a segment is lost; and what is open then was open.
  module _ (losses : Losses) (J : Answer → Type 0) (These : ℕ → Type 0) (each : (item : ℕ) (a : Answer) → J a → These item → P item a)
      (lost : (item : ℕ) (name : SegName) → These item → P item (answer.Lost name)) where
    one_moved : (before after : Items) (outs : List Effect) → ((item : ℕ) → IsOpen before item → These item) → Move losses J before outs after → Moved These outs after
    one_moved before after outs opens (Stays stay plain) =
        record { meets = plain_meets losses outs plain; opens = λ item waits. opens item (stay.waits item waits) }
    one_moved before after outs opens (Ends a so) = record {
      meets = open_meets before.unanswered a (λ item waits. each item a so (opens item waits));
      opens = λ item waits. absurd (none_open item waits);
    }
    one_moved before after outs opens (Loses name said may plain among) = record {
      meets = all_append (Meets P) said (answers_unanswered before.unanswered (answer.Lost name)) (plain_meets losses said plain)
          (open_meets before.unanswered (answer.Lost name) (λ item waits. lost item name (opens item waits)));
      opens = λ item waits. absurd (none_open item waits);
    }

    pub moves_meet : (before after : Items) (outs : List Effect) → ((item : ℕ) → IsOpen before item → These item) → Moves losses J before outs after
        → Moved These outs after
    moves_meet before after outs opens (Last move) = one_moved before after outs opens move
    moves_meet before after outs opens (Then between now more move rest) =
        let one : Moved These now between = one_moved before between now opens move in
        let all : Moved These more after = moves_meet between after more one.opens rest in
        record { meets = all_append (Meets P) now more one.meets all.meets; opens = all.opens }

    -- so it is of an event by which none begins
    pub event_meets : (K : Answer → Type 0) (before : Items) (what : Do) (after : Items) (outs : List Effect) → (what ≡ whats.Begin → ⊥)
        → ((item : ℕ) → IsOpen before item → These item) → Event losses J K before what outs after → Moved These outs after
    event_meets K before what after outs none opens (GoesOn moves) = moves_meet before after outs opens moves
    event_meets K before what after outs none opens (Idles begin) = absurd (none begin)
    event_meets K before what after outs none opens (Begins number begin next begun) = absurd (none begin)
    event_meets K before what after outs none opens (Cuts number first more begin next falls plain rest) = absurd (none begin)

  -- what is acted to be answered
  pub acts_meet : (me : NodeId) (outs : List Effect) → AllMeet P outs → (node : NodeId) (item : ℕ) (a : Answer)
      → In (act.Answered node item a) (acts_of me outs) → P item a
  acts_meet me [] all node item a among = absurd among
  acts_meet me (Send to b ∷ outs) all node item a among = acts_meet me outs all.1 node item a among
  acts_meet me (Answers n x ∷ outs) all node item a (inl e) =
      let one : n ≡ item = cc in
      let two : x ≡ a = cc in
      subst (λ y. P item y) two (subst (λ k. P k x) one all.0)
  acts_meet me (Answers n x ∷ outs) all node item a (inr among) = acts_meet me outs all.1 node item a among
  acts_meet me (Lose name ∷ outs) all node item a (inl e) = absurd cc
  acts_meet me (Lose name ∷ outs) all node item a (inr among) = acts_meet me outs all.1 node item a among
  acts_meet me (Does x ∷ outs) all node item a (inl e) = absurd (subst IsSilent (sym e) all.0)
  acts_meet me (Does x ∷ outs) all node item a (inr among) = acts_meet me outs all.1 node item a among

-- what follows for each answer
pub all_meet : (P Q : ℕ → Answer → Type 0) → ((item : ℕ) (a : Answer) → P item a → Q item a) → (outs : List Effect) → AllMeet P outs → AllMeet Q outs
all_meet P Q so outs all = all_weaker (Meets P) (Meets Q) one outs all
  where
    one : (x : Effect) → Meets P x → Meets Q x
    one (Send to b) meets = tt
    one (Answers item a) meets = so item a meets
    one (Lose name) meets = tt
    one (Does a) meets = meets
