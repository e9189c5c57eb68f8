-- The moves of a manager: what is done in one slot, to its log and to the writer of its checkpoints, and beside these, one thing at a time, and what for.
use Rattle.std.specs.List.{AllByRecursion, slice_get, slice_set}
use Rattle.std.specs.Prelude.{◌≡◌, ℕ, Bool, List, [], ◌∷◌, ◌++◌, Option, Some, None, Contains, filter, flat_map}
use Rattle.checkpoint.specs.declared.input.In.{In as WriterIn}
use Rattle.checkpoint.specs.Transition as writer
use Rattle.client_log.specs.declared.input.In.{In as LogIn}
use Rattle.client_log.specs.declared.input.In.TheVariants as log_in
use Rattle.client_log.specs.Transition as log
use Rattle.client_log.specs.Transition.{end_of}
use Rattle.group_map.specs.declared.group.Member.{Member}
use Rattle.group_map.specs.GroupMapState.{GroupMapState}
use Rattle.log_flight.specs.Flights.{FlightState}
use Rattle.log_owner.specs.Sending.{hello, name_of, server_in, store}
use Rattle.manager_node.specs.declared.manager.Manager.{Manager}
use Rattle.manager_node.specs.declared.phase.Phase.{Phase}
use Rattle.manager_node.specs.declared.phase.Phase.TheVariants.{Down, Waiting, Serving as Serves}
use Rattle.manager_node.specs.Events.{happens}
use Rattle.manager_node.specs.Phases.{lasting_of}
use Rattle.manager_serving.specs.declared.serving.Serving.{Serving}
use Rattle.manager_serving.specs.Serving.{client_in, fed_log}
use Rattle.manager_slots.specs.declared.lasting.Lasting.{Lasting as Life}
use Rattle.manager_slots.specs.declared.slot_phase.Active.{Active}
use Rattle.manager_slots.specs.declared.slot_phase.SlotPhase.{SlotPhase}
use Rattle.manager_slots.specs.declared.slot_phase.SlotPhase.TheVariants as phase
use Rattle.manager_slots.specs.declared.slot_phase.Taking.{Taking}
use Rattle.manager_slots.specs.Slots.{fetch_of, with_slot}
use Rattle.manager_slots.specs.SlotTable.{slot_table_unknown}
use Rattle.manager_slots.specs.Takeovers.{Asker, Done, asker, is_wanted, report_input, say_each}
use Rattle.manager_slots.specs.Tokens as tokens
use Rattle.node_base.specs.declared.effects.Effect.{Effect}
use Rattle.node_base.specs.declared.effects.Effect.TheVariants.{Answer as Answers, Does, Send}
use Rattle.node_base.specs.Maps.{maps_take}
use Rattle.segment_format.specs.declared.segment.Item.{Item}
use Rattle.takeover.specs.declared.input.In.{In as TakeIn}
use Rattle.takeover.specs.declared.input.In.TheVariants as take_in
use Rattle.takeover.specs.TakeState.{take_start}
use Rattle.takeover.specs.Transition as take
use Rattle.token_manager.specs.declared.input.In.{In as SlotIn}
use Rattle.token_manager.specs.declared.input.In.TheVariants as slot_in
use Rattle.token_manager.specs.Transition as slot
use Rattle.version_model.specs.declared.act.Act.TheVariants.{Filed}
use Rattle.version_model.specs.declared.answer.Answer.{Answer}
use Rattle.wire_msg.specs.declared.body.Body.TheVariants as body
use Rattle.wire_msg.specs.declared.cleaning.Check.{Check}
use Rattle.wire_msg.specs.declared.cleaning.Usage.{Usage}
use Rattle.wire_msg.specs.declared.deltas.Deltas.{Deltas}
use Rattle.wire_msg.specs.declared.deltas.Report.{Report}
use Rattle.wire_msg.specs.declared.packet.Do.{Do}
use Rattle.wire_msg.specs.declared.packet.Packet.{Packet}
use Rattle.wire_msg.specs.declared.registry.CkptDone.{CkptDone}
use Rattle.wire_msg.specs.declared.registry.News.{News}
use Rattle.wire_msg.specs.declared.storage.Found.{Found}
use Rattle.wire_msg.specs.declared.storage.Missing.{Missing}
use Rattle.wire_msg.specs.declared.storage.Stored.{Stored}
use Rattle.wire_msg.specs.declared.tokens.Gave.{Gave}
use Rattle.wire_msg.specs.declared.tokens.Want.{Want}
use Rattle.xfs_base.specs.Blocks.{slot_of}
use Rattle.xfs_base.specs.declared.fragment.Fragment.{Fragment}
use Rattle.xfs_base.specs.declared.news.SlotNews.{SlotNews}
use Rattle.xfs_base.specs.declared.node.NodeId.TheVariants.{Cleaner, Manager as AManager, Registry}
use Rattle.xfs_base.specs.declared.segment.LogId.{LogId}
use Rattle.xfs_base.specs.declared.segment.SegName.{SegName}
use Rattle.xfs_base.specs.declared.segment.SegRef.{SegRef}
use Rattle.xfs_base.specs.Logs.{log_of}
use Rattle.node_moves.specs.server_moves.Moves.{Brought, Came}

-- ---- because of what a slot that is managed takes an input

pub data Fed (what : Do) : ℕ → SlotIn → Type 0 where
  WantCame : (packet : Packet) (client : ℕ) (m : Want) → Came what packet (body.Want m) → client_in packet.from ≡ Some client
      → Fed what (slot_of m.block.ino.0) (tokens.want_input client m)
  GaveCame : (packet : Packet) (client : ℕ) (m : Gave) → Came what packet (body.Gave m) → client_in packet.from ≡ Some client
      → Fed what (slot_of m.block.ino.0) (tokens.gave_input client m)
  DeltasCame : (packet : Packet) (owner : LogId) (m : Deltas) → Came what packet (body.Deltas m) → fed_log packet.from ≡ Some owner
      → Fed what m.slot (tokens.deltas_input owner m)
  TimePassed : (k : ℕ) → Fed what k slot_in.Tick

-- ---- because of what a takeover does

-- it takes what is no answer to its question
pub data Given (what : Do) : ℕ → TakeIn → Type 0 where
  ReportCame : (packet : Packet) (m : Report) → Came what packet (body.Report m) → Given what m.slot (report_input packet.from m)
  MapsCame : (k : ℕ) (packet : Packet) (news : News) → Brought what packet news → Given what k (take_in.Maps news.groups)

-- a server answers the manager's question, which it asked for the takeover's
pub data Tells (what : Do) : ℕ → ℕ → TakeIn → Type 0 where
  FragmentCame : (packet : Packet) (own server : ℕ) (m : Found) → Came what packet (body.Fragment m) → server_in packet.from ≡ Some server
      → Tells what m.ask own (take_in.Got own server m.generation m.fragment)
  AbsenceCame : (packet : Packet) (own server : ℕ) (m : Missing) → Came what packet (body.Missing m) → server_in packet.from ≡ Some server
      → Tells what m.ask own (take_in.Missing own server m.generation)

-- it takes an input, and what it says is done
abbrev pub took : ℕ → Asker → Taking → TakeIn → Done
took k x t given =
    say_each k (record x { phase = phase.Taking (record t { take = (take.transition t.take given).state }) }) (take.transition t.take given).outs

-- it polls again, or asks all else again
abbrev pub took_again : ℕ → Asker → Taking → Bool → Done
took_again k x t polls =
    say_each k (record x { phase = phase.Taking (record t { take = (take.transition t.take take_in.Tick).state }) })
    (filter (is_wanted polls) (take.transition t.take take_in.Tick).outs)

-- it begins
abbrev pub begun : SlotNews → GroupMapState → ℕ → Taking
begun news groups clients = record { epoch = news.epoch; take = take_start news groups clients; fetches = record { own = 0; ask = 0 } }

-- ---- because of what its log takes an input

pub data Written (what : Do) : LogIn → Type 0 where
  AckCame : (packet : Packet) (m : Stored) → Came what packet (body.Stored m) → Written what (log_in.Acked m.name m.index m.generation)
  GroupsCame : (packet : Packet) (news : News) → Brought what packet news → Written what (log_in.Maps news.groups)
  PartsMade : (items : List Item) → Written what (log_in.Parts items)
  LogTicks : Written what log_in.Tick

-- ---- the moves

-- in a slot, where these groups are known
pub data SlotMove (what : Do) (known : Option GroupMapState) (k : ℕ) : Asker → Asker → List Effect → Type 0 where
  Stays : (x : Asker) → SlotMove what known k x x []
  -- It takes an input, and what it says is sent.
  Takes : (x : Asker) (a : Active) (given : SlotIn) → Fed what k given → x.phase ≡ phase.Active a
      → SlotMove what known k x (record x { phase = with_slot a (slot.transition a.slot given).state })
      (flat_map (tokens.tokens_say k a.slot.epoch) (slot.transition a.slot given).outs)
  -- It answers a check of the cleaner's.
  Checks : (x : Asker) (a : Active) (packet : Packet) (m : Check) → Came what packet (body.Check m) → k ≡ slot_of m.block.ino.0 → x.phase ≡ phase.Active a
      → SlotMove what known k x (record x { phase = with_slot a (slot.transition a.slot (tokens.check_input m)).state })
      (flat_map (tokens.tokens_answer m a.slot.epoch) (slot.transition a.slot (tokens.check_input m)).outs)
  -- It is broken, and refuses a want.
  Refuses : (x : Asker) (epoch : ℕ) (seg : SegName) (packet : Packet) (client : ℕ) (m : Want) → Came what packet (body.Want m)
      → client_in packet.from ≡ Some client → k ≡ slot_of m.block.ino.0 → x.phase ≡ phase.Broken epoch seg
      → SlotMove what known k x x (tokens.gone epoch seg client m)
  -- A checkpoint of it is begun, or its parts are named.
  Cleans : (x : Asker) (a : Active) → x.phase ≡ phase.Active a
      → SlotMove what known k x (record x { phase = phase.Active (record a { slot = slot.slot_clean a.slot }) }) []
  Names : (x : Asker) (a : Active) (parts : List SegRef) → x.phase ≡ phase.Active a
      → SlotMove what known k x (record x { phase = phase.Active (record a { parts = parts }) }) []
  -- Its takeover hears what is no answer to its question, or time passes for it.
  Hears : (x : Asker) (t : Taking) (given : TakeIn) → Given what k given → x.phase ≡ phase.Taking t
      → SlotMove what known k x (took k x t given).state (took k x t given).outs
  AsksAgain : (x : Asker) (t : Taking) (polls : Bool) → x.phase ≡ phase.Taking t
      → SlotMove what known k x (took_again k x t polls).state (took_again k x t polls).outs
  -- It has another manager, or is taken over anew.
  Leaves : (x : Asker) (packet : Packet) (news : News) (s : SlotNews) → Brought what packet news → Contains news.slots s → k ≡ s.slot
      → SlotMove what known k x (record x { phase = phase.Away s.epoch }) []
  Begins : (x : Asker) (packet : Packet) (news : News) (s : SlotNews) (groups : GroupMapState) (clients : ℕ) → Brought what packet news
      → Contains news.slots s → k ≡ s.slot → known ≡ Some groups
      → SlotMove what known k x (took k x (begun s groups clients) take_in.Tick).state (took k x (begun s groups clients) take_in.Tick).outs

-- what is said by no slot
pub data Said : Effect → Type 0 where
  Stores : (f : Fragment) (m : Member) → Said (store f m)
  AnswersItem : (item : ℕ) (a : Answer) → Said (Answers item a)
  Greets : (inc ask : ℕ) → Said (hello inc ask)
  Registers : (d : CkptDone) → Said (Send Registry (body.CkptDone d))
  Counts : (u : Usage) → Said (Send Cleaner (body.Usage u))

-- Any list of moves of one that serves, oldest first.
pub data Moves (what : Do) : Serving → Serving → List Effect → Type 0 where
  Rests : (s : Serving) → Moves what s s []
  Then : {s t u : Serving} {o m : List Effect} → Moves what s t o → Moves what t u m → Moves what s u (o ++ m)
  InSlot : (s : Serving) (k : ℕ) (p : SlotPhase) (x : Asker) (o : List Effect) → slice_get s.slots k ≡ Some p
      → SlotMove what s.maps.groups k (asker p s.lasting.questions) x o
      → Moves what s (record s { slots = slice_set s.slots k x.phase; lasting = record s.lasting { questions = x.questions } }) o
  -- Its log takes an input, and ends as before; or the segment that was in flight is settled, and it is filed.
  LogTakes : (s : Serving) (given : LogIn) → Written what given → (log.transition s.log given).state.end ≡ s.log.end
      → Moves what s (record s { log = (log.transition s.log given).state }) []
  LogSettles : (s : Serving) (given : LogIn) → Written what given → (f : FlightState) → s.log.flight ≡ Some f
      → (log.transition s.log given).state.end ≡ end_of f.segment
      → Moves what s (record s { log = (log.transition s.log given).state })
      (Does (Filed (name_of (log_of (AManager s.lasting.number)) (end_of f.segment))) ∷ [])
  WriterTakes : (s : Serving) (given : WriterIn) → Moves what s (record s { writer = (writer.transition s.writer given).state }) []
  TakesMaps : (s : Serving) (packet : Packet) (news : News) → Brought what packet news → Moves what s (record s { maps = maps_take s.maps news }) []
  -- It notes which items, questions and checkpoints are open.
  Notes : (s t : Serving) → t.slots ≡ s.slots → t.log ≡ s.log → t.writer ≡ s.writer → t.maps ≡ s.maps
      → t.lasting.number ≡ s.lasting.number → t.lasting.inc ≡ s.lasting.inc → Moves what s t []
  Says : (s : Serving) (e : Effect) → Said e → Moves what s s (e ∷ [])

-- a takeover of a slot has an answer to the question that is out for it
pub record Answered (what : Do) (s : Serving) (k : ℕ) (x : Taking) (given : TakeIn) : Type 0 where
  pub ask : ℕ
  pub own : ℕ
  pub tells : Tells what ask own given
  pub asked : fetch_of (phase.Taking x) ask ≡ Some own
  pub here : slice_get s.slots k ≡ Some (phase.Taking x)

abbrev pub NotServing : Phase → Type 0
NotServing (Down life) = Unit {0}
NotServing (Waiting life hello) = Unit {0}
NotServing (Serves s) = ⊥

-- one whose log is new, of the incarnation of the manager
pub record IsNew (life : Life) (s : Serving) : Type 0 where
  pub same : s.lasting ≡ life
  pub its : s.log.log ≡ log_of (AManager life.number)
  pub boot : s.log.inc ≡ life.inc
  pub end : s.log.end.seq ≡ 0
  pub flight : s.log.flight ≡ None

-- what an event makes of a manager
pub data Turn (what : Do) : Phase → Phase → List Effect → Type 0 where
  -- It serves, and makes moves; or a takeover has its answer.
  ServesOn : {s t : Serving} {o : List Effect} → Moves what s t o → Turn what (Serves s) (Serves t) o
  Learns : (s : Serving) (k : ℕ) (x : Taking) (given : TakeIn) → Answered what s k x given
      → Turn what (Serves s)
      (Serves (record s {
        slots = slice_set s.slots k (took k (asker (phase.Taking x) s.lasting.questions) x given).state.phase;
        lasting = record s.lasting { questions = (took k (asker (phase.Taking x) s.lasting.questions) x given).state.questions };
      }))
      (took k (asker (phase.Taking x) s.lasting.questions) x given).outs
  -- It doesn't serve then.
  Falls : (p q : Phase) (o : List Effect) → NotServing q → (lasting_of q).number ≡ (lasting_of p).number → AllByRecursion Said o → Turn what p q o
  -- It is welcomed, and serves again; it knows of no slot, and its log is new.
  Wakes : (life : Life) (asking : ℕ) {s t : Serving} {o : List Effect} → s.slots ≡ slot_table_unknown → s.maps.groups ≡ None
      → IsNew life s → Moves what s t o
      → Turn what (Waiting life asking) (Serves t) o

-- Each event of a manager is so.
abbrev pub ManagerEventsAreMoves : Type 0
ManagerEventsAreMoves = (m : Manager) (what : Do) → Turn what m.phase (happens m what).state (happens m what).outs
