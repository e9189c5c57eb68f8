-- The moves of the items of a node: which have begun, which is open and how it is answered, one thing at a time; and what an event makes of them.
use Rattle.std.specs.List.{AllByRecursion}
use Rattle.std.specs.Prelude.{◌≡◌, ℕ, List, [], ◌∷◌, ◌++◌, Some}
use Rattle.node_base.specs.Beginning.{items_answer, answers_unanswered, items_begin, next_item, items_wait, work_at}
use Rattle.node_base.specs.declared.effects.Effect.{Effect}
use Rattle.node_base.specs.declared.effects.Effect.TheVariants.{Send, Answer as Answers, Lose, Does}
use Rattle.node_base.specs.declared.items.Items.{Items}
use Rattle.version_model.specs.declared.act.Act.{Act}
use Rattle.version_model.specs.declared.act.Act.TheVariants as act
use Rattle.version_model.specs.declared.answer.Answer.{Answer}
use Rattle.version_model.specs.declared.answer.Answer.TheVariants as answer
use Rattle.wire_msg.specs.declared.packet.Do.{Do}
use Rattle.wire_msg.specs.declared.packet.Do.TheVariants.{Begin}
use Rattle.xfs_base.specs.declared.segment.SegName.{SegName}
use Rattle.headline.specs.Items.{Falls}

-- ---- what answers nothing

-- an act that answers no item, nor says that a segment is lost
abbrev pub IsSilent : Act → Type 0
IsSilent (act.Answered node item a) = ⊥
IsSilent (act.Lost node name) = ⊥
IsSilent _ = Unit {0}

-- an act that is done for no item: that a segment is filed, or given up
abbrev pub IsAside : Act → Type 0
IsAside (act.Filed seg) = Unit {0}
IsAside (act.Dropped seg) = Unit {0}
IsAside _ = ⊥

-- an act that a segment is filed
abbrev pub IsFiling : Act → Type 0
IsFiling (act.Filed seg) = Unit {0}
IsFiling _ = ⊥

-- What a node may do of segments that are lost: say nothing of them, say that one is lost, or say that and answer the open item so. It acts nothing else but what
-- is for no item, and a manager only that segments are filed; but where it is a client that serves, which may answer so, or one that returns, which is silent of them.
pub data Losses : Type 0 where
  Silent : Losses
  Telling : Losses
  Reading : Losses
  Answering : Losses
  Returning : Losses

abbrev pub MayTell : Losses → Type 0
MayTell Silent = ⊥
MayTell Telling = Unit {0}
MayTell Reading = Unit {0}
MayTell Answering = Unit {0}
MayTell Returning = ⊥

abbrev pub MayAnswer : Losses → Type 0
MayAnswer Silent = ⊥
MayAnswer Telling = ⊥
MayAnswer Reading = Unit {0}
MayAnswer Answering = Unit {0}
MayAnswer Returning = ⊥

abbrev pub MayAct : Losses → Act → Type 0
MayAct Silent a = IsAside a
MayAct Telling a = IsFiling a
MayAct Reading a = IsAside a
MayAct Answering a = IsSilent a
MayAct Returning a = IsSilent a

-- an effect that answers no item; it says that a segment is lost only where that may be
abbrev pub IsPlain : Losses → Effect → Type 0
IsPlain losses (Send to said) = Unit {0}
IsPlain losses (Answers item a) = ⊥
IsPlain losses (Lose name) = MayTell losses
IsPlain losses (Does a) = MayAct losses a

abbrev pub AllPlain : Losses → List Effect → Type 0
AllPlain losses outs = AllByRecursion (IsPlain losses) outs

-- ---- which answers there are

abbrev pub IsAny : Answer → Type 0
IsAny a = Unit {0}

abbrev pub IsNone : Answer → Type 0
IsNone a = ⊥

-- so many segments are cleaned, or slots kept in a checkpoint
abbrev pub IsCount : Answer → Type 0
IsCount (answer.Count count) = Unit {0}
IsCount _ = ⊥

-- so many fragments are filled again, and so many are gone
abbrev pub IsRebuilt : Answer → Type 0
IsRebuilt (answer.Rebuilt filled gone) = Unit {0}
IsRebuilt _ = ⊥

-- so it is answered by the cleaner: a restart is done, or a job is over
abbrev pub IsCleaners : Answer → Type 0
IsCleaners answer.Done = Unit {0}
IsCleaners (answer.Count count) = Unit {0}
IsCleaners _ = ⊥

-- any but that the item is cut, that a segment is lost, or a listing
abbrev pub IsPrompt : Answer → Type 0
IsPrompt answer.Cut = ⊥
IsPrompt (answer.Lost name) = ⊥
IsPrompt (answer.Names names) = ⊥
IsPrompt _ = Unit {0}

-- ---- the moves

-- the last of these effects says that this segment is lost
abbrev pub EndsInLoss : SegName → List Effect → Type 0
EndsInLoss name outs = (front : List Effect) × (outs ≡ front ++ Lose name ∷ [])

-- they ask for the same, none has begun, and no other is open
pub record ItemsStay (before after : Items) : Type 0 where
  pub works : after.works ≡ before.works
  pub begun : after.begun ≡ before.begun
  pub waits : (item : ℕ) → after.unanswered ≡ Some item → before.unanswered ≡ Some item

-- `losses` is what the node may do then of segments that are lost, and `J` which answers the open item may get else.
pub data Move (losses : Losses) (J : Answer → Type 0) : Items → List Effect → Items → Type 0 where
  -- They stay, and no item is answered.
  Stays : {before after : Items} {outs : List Effect} → ItemsStay before after → AllPlain losses outs → Move losses J before outs after
  -- The open item is answered so, and none is open then.
  Ends : {items : Items} (a : Answer) → J a → Move losses J items (answers_unanswered items.unanswered a) (items_answer items)
  -- It is said, last of all, that a segment is lost, and that is the answer of the open item.
  Loses : {items : Items} (name : SegName) (outs : List Effect) → MayAnswer losses → AllPlain losses outs → EndsInLoss name outs
      → Move losses J items (outs ++ answers_unanswered items.unanswered (answer.Lost name)) (items_answer items)

-- Any list of moves, oldest first.
pub data Moves (losses : Losses) (J : Answer → Type 0) : Items → List Effect → Items → Type 0 where
  Last : {before after : Items} {outs : List Effect} → Move losses J before outs after → Moves losses J before outs after
  Then : {before after : Items} (between : Items) (outs more : List Effect) → Move losses J before outs between → Moves losses J between more after
      → Moves losses J before (outs ++ more) after

-- ---- an event

-- What is done once the item of this number has begun: `K` is which answers it may get at once.
pub data Begun (losses : Losses) (J K : Answer → Type 0) (items : Items) (number : ℕ) : List Effect → Items → Type 0 where
  -- It is answered, and what was open is open still.
  AtOnce : (a : Answer) (first more : List Effect) → K a → AllPlain losses first → AllPlain losses more
      → Begun losses J K items number (first ++ Answers number a ∷ more) items
  -- It waits for its answer, and then there are moves.
  Waits : {after : Items} {outs : List Effect} → Moves losses J (items_wait items number) outs after → Begun losses J K items number outs after

-- What an event makes of the items of a node.
pub data Event (losses : Losses) (J K : Answer → Type 0) (before : Items) (what : Do) : List Effect → Items → Type 0 where
  -- None begins.
  GoesOn : {after : Items} {outs : List Effect} → Moves losses J before outs after → Event losses J K before what outs after
  -- The next one begins, and is neither answered nor open; or none is left.
  Idles : what ≡ Begin → Event losses J K before what [] (items_begin before)
  -- The next one begins.
  Begins : {after : Items} {outs : List Effect} (number : ℕ) → what ≡ Begin → next_item before ≡ Some number
      → Begun losses J K (items_begin before) number outs after → Event losses J K before what outs after
  -- The node falls by the next one: the open one is cut, and it is answered behind.
  Cuts : (number : ℕ) (first more : List Effect) → what ≡ Begin → next_item before ≡ Some number → Falls (work_at (items_begin before) number)
      → AllPlain losses first → AllPlain losses more
      → Event losses J K before what (first ++ (answers_unanswered (items_begin before).unanswered answer.Cut ++ Answers number answer.Done ∷ more))
      (items_answer (items_begin before))
