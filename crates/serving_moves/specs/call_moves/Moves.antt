-- The moves of a client that serves: what it does for what comes, for time and for a call on blocks, one thing at a time.
use Rattle.std.specs.List.{AllByRecursion}
use Rattle.std.specs.Prelude.{◌≡◌, ℕ, List, [], ◌∷◌, Option, Some, None}
use Rattle.client_call.specs.declared.call.Call.{Call}
use Rattle.client_running.specs.Blocks.{Made, blocks_make}
use Rattle.client_serving.specs.declared.serving.Serving.{Serving}
use Rattle.client_serving.specs.Packets.{serving_take, on_tick}
use Rattle.client_serving.specs.Reads.{loses}
use Rattle.client_serving.specs.Sends.{Done}
use Rattle.file_plan.specs.declared.block_call.BlockAnswer.{BlockAnswer}
use Rattle.file_plan.specs.declared.block_call.BlockCall.{BlockCall}
use Rattle.node_base.specs.declared.effects.Effect.{Effect}
use Rattle.node_base.specs.declared.effects.Effect.TheVariants.{Send, Answer as Answers, Lose, Does}
use Rattle.version_model.specs.declared.act.Act.{Act}
use Rattle.version_model.specs.declared.act.Act.TheVariants as act
use Rattle.wire_msg.specs.declared.packet.Packet.{Packet}
use Rattle.xfs_base.specs.declared.block.BlockId.{BlockId}
use Rattle.xfs_base.specs.declared.segment.SegName.{SegName}
use Rattle.xfs_base.specs.Steps.{saying}
use Rattle.headline.specs.Calls.{IsAnswerTo, told}

-- ---- what stays

-- the open call is the one that was open, or none is: its plan is the same, and its call on blocks
abbrev pub CallStays : Option Call → Option Call → Type 0
CallStays before after =
    (call : Call) → after ≡ Some call → (old : Call) × ((before ≡ Some old) × ((call.plan ≡ old.plan) × (call.step ≡ old.step)))

-- and while one is open, it is open still
abbrev pub CallLasts : Option Call → Option Call → Type 0
CallLasts before after = (call : Call) → before ≡ Some call → (new : Call) × (after ≡ Some new)

pub record Kept (s t : Serving) : Type 0 where
  pub calls : CallStays s.call t.call
  pub lasts : CallLasts s.call t.call
  pub number : t.lasting.number ≡ s.lasting.number
  pub items : t.lasting.items ≡ s.lasting.items

-- ---- what tells of no call

-- an act that a segment is filed
abbrev pub IsFiled : Act → Type 0
IsFiled (act.Filed seg) = Unit {0}
IsFiled _ = ⊥

-- a packet, or such an act
abbrev pub IsStill : Effect → Type 0
IsStill (Send to said) = Unit {0}
IsStill (Answers item a) = ⊥
IsStill (Lose name) = ⊥
IsStill (Does a) = IsFiled a

abbrev pub AllStill : List Effect → Type 0
AllStill outs = AllByRecursion IsStill outs

-- ---- the moves

-- a call is open
abbrev pub HasCall : Serving → Type 0
HasCall s = (call : Call) × (s.call ≡ Some call)

pub data Move (s : Serving) : Done → Type 0 where
  -- Its call, its number and its items stay, no item is answered, and nothing is acted but that segments are filed.
  Steps : {d : Done} → Kept s d.state → AllStill d.outs → Move s d
  -- A segment that its open call needs is lost: that is said, and the open item is answered so.
  Loses : HasCall s → (block : BlockId) (name : SegName) → Move s (loses s block name)

-- Any list of moves, oldest first.
pub data Moves : Serving → Done → Type 0 where
  Last : {s : Serving} {d : Done} → Move s d → Moves s d
  Then : {s : Serving} (d e : Done) → Move s d → Moves d.state e → Moves s (saying d.outs e)

-- what is done as a packet comes: such a list, or a manager says that a segment is lost
pub data Comes (s : Serving) : Done → Type 0 where
  Moved : {d : Done} → Moves s d → Comes s d
  Gone : (block : BlockId) (name : SegName) → Comes s (loses s block name)

-- ---- calls on blocks

-- as effects
abbrev pub done_of : List Act → List Effect
done_of [] = []
done_of (a ∷ acts) = Does a ∷ done_of acts

abbrev pub tells : ℕ → BlockCall → Option BlockAnswer → List Effect
tells client call None = []
tells client call (Some a) = done_of (told client call a)

abbrev pub Fits : BlockCall → Option BlockAnswer → Type 0
Fits call None = Unit {0}
Fits call (Some a) = IsAnswerTo call a

-- What a call on blocks makes: moves, then what its answer tells of is acted, then moves.
pub record MakesSo (s : Serving) (call : BlockCall) (m : Made) : Type 0 where
  pub first : Done
  pub firstly : Moves s first
  pub last : Done
  pub lastly : Moves first.state last
  pub all : m.done ≡ saying first.outs (saying (tells s.lasting.number call m.answer) last)
  pub fits : Fits call m.answer

-- What is done as a packet comes, and as time passes, is a list of moves, but where a manager says that a segment is lost; and so is what is done for a call on
-- blocks, but for the act of which its answer tells.
abbrev pub PacketsAreMoves : Type 0
PacketsAreMoves = (s : Serving) (packet : Packet) → Comes s (serving_take s packet)

abbrev pub TicksAreMoves : Type 0
TicksAreMoves = (s : Serving) → Moves s (on_tick s)

abbrev pub CallsAreMoves : Type 0
CallsAreMoves = (s : Serving) (call : BlockCall) → MakesSo s call (blocks_make s call)

-- So the call that is open behind moves was open before them.
abbrev pub CallsStay : Type 0
CallsStay = (s : Serving) (d : Done) → Moves s d → CallStays s.call d.state.call
