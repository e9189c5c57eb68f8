-- The lines of a client's log and of the cleaner's in their own events: numbers of what is filed have one after them, and the line goes on as the small
-- world of one slot's index has it then.
use Rattle.std.specs.Prelude.{◌≡◌, ◌≤◌, ◌⊎◌, ℕ, true, false, List}
use Rattle.node_logs.specs.cleaner_log_tie.Owner as cleaner_log
use Rattle.cleaner_node.specs.CleanerEvents as cleaners
use Rattle.cleaner_node.specs.declared.cleaner.Cleaner.{Cleaner}
use Rattle.client_log.specs.Transition.{has_next}
use Rattle.node_logs.specs.client_log_tie.ClientEvents.{FliesInBoot, ServesStraight}
use Rattle.node_logs.specs.client_log_tie.Owner.{Scene, ClientAgrees}
use Rattle.client_node.specs.Phases as clients
use Rattle.client_node.specs.declared.client.Client.{Client}
use Rattle.index_tie.specs.Net as index
use Rattle.log_law.specs.Events.{Runs}
use Rattle.log_law.specs.Laws.{Moment}
use Rattle.log_law.specs.Net.{Net}
use Rattle.log_law.specs.Openings.{next_number}
use Rattle.log_law.specs.Restarts.{is_serving}
use Rattle.log_protocol.specs.Tables.{In}
use Rattle.log_tie.specs.Setting.{Setting}
use Rattle.node_base.specs.Effects.{acts_of}
use Rattle.node_base.specs.declared.effects.Effect.{Effect}
use Rattle.node_slots.specs.node_index_tie.Sight.{Questions}
use Rattle.headline.specs.Filed.{Texts}
use Rattle.node_slots.specs.owner_index_tie.CleanerEvents.{CleanerGoes}
use Rattle.node_slots.specs.owner_index_tie.ClientEvents.{ClientGoes}
use Rattle.segment_format.specs.declared.segment.Segment.{Segment}
use Rattle.token_protocol.specs.Basics as basics
use Rattle.version_model.specs.declared.act.Act.TheVariants.{Filed as ActsFiled}
use Rattle.wire_msg.specs.declared.packet.Do.{Do}
use Rattle.xfs_base.specs.declared.node.NodeId.{NodeId}
use Rattle.xfs_base.specs.declared.segment.SegName.{SegName}
use Rattle.xfs_base.specs.Logs.{cleaners_number}
use Rattle.run_laws.specs.world_lines.Lines.{IsLine, IsSure}
use Rattle.run_laws.specs.world_lines.Turns.{AllSo}

-- what is so of each name that is acted to be filed is so of what is done
abbrev pub ActsAreDone : Type 0
ActsAreDone =
    (n : Net) (node : NodeId) (outs : List Effect) → ((name : SegName) → basics.In (ActsFiled name) (acts_of node outs) → In name n.filed)
    → AllSo (λ name. In name n.filed) outs

-- ---- numbers

-- the number of each segment that was in flight has one after it, or is no further than the one after the end
abbrev pub IsRoomy : Net → Type 0
IsRoomy n = (s : Segment) → In s n.flown → (has_next s.name.seq ≡ true) ⊎ (s.name.seq ≤ next_number n.owner)

-- a segment of this name was in flight
abbrev pub HasFlown : Net → SegName → Type 0
HasFlown n name = (s : Segment) × In s n.flown × (s.name ≡ name)

-- What a client acts to be filed has a number with one after it, where it was in flight before the event: near the end of a counter an event changes nothing.
abbrev pub ClientsFileShort : Type 0
ClientsFileShort =
    (g : Setting) (c : ℕ) (w : Scene) (client : Client) (what : Do) → ClientAgrees g c w client.phase → IsRoomy w.net
    → AllSo (HasFlown w.net) (clients.takes client what).outs → AllSo (λ name. has_next name.seq ≡ true) (clients.takes client what).outs

-- so it is of the cleaner
abbrev pub CleanerFilesShort : Type 0
CleanerFilesShort =
    (g : Setting) (w : Scene) (cleaner : Cleaner) (what : Do) → cleaner_log.CleanerAgrees g w cleaner.phase → IsRoomy w.net
    → AllSo (HasFlown w.net) (cleaners.takes cleaner.peers cleaner.phase what).outs
    → AllSo (λ name. has_next name.seq ≡ true) (cleaners.takes cleaner.peers cleaner.phase what).outs

-- ---- lines

-- nothing is filed, unless the owner serves then
abbrev pub FilesStill : Net → Net → Type 0
FilesStill n o = is_serving o.owner ≡ false → o.filed ≡ n.filed

-- So it is in an event in which the owner keeps its boot, or nothing flies and nothing is filed;
abbrev pub InBootFilesStill : Type 0
InBootFilesStill = (g : Setting) (n o : Net) → Moment g n → Runs g n o → FliesInBoot n o → FilesStill n o

-- and in one on the way of which it serves nowhere, unless it serves then.
abbrev pub StraightFilesStill : Type 0
StraightFilesStill = (g : Setting) (n o : Net) → Moment g n → (runs : Runs g n o) → ServesStraight runs → FilesStill n o

-- In an event of a client the line of its log goes on to what is filed then.
abbrev pub ClientsLinesGoOn : Type 0
ClientsLinesGoOn =
    (part : ℕ) (texts : Texts) (g : Setting) (c : ℕ) (w v : Scene) (n : index.Net) (client : Client) (what : Do) → Runs g w.net v.net
    → FilesStill w.net v.net → IsSure texts c g v.net → ClientAgrees g c v (clients.takes client what).state
    → AllSo (λ name. In name v.net.filed) (clients.takes client what).outs → IsLine c w.net n.filed
    → (goes : ClientGoes part texts n c (clients.takes client what)) → IsLine c v.net goes.next.filed

-- So does the line of the cleaner's log.
abbrev pub CleanersLineGoesOn : Type 0
CleanersLineGoesOn =
    (part : ℕ) (texts : Texts) (asked : Questions) (g : Setting) (w v : Scene) (n : index.Net) (cleaner : Cleaner) (what : Do) → Runs g w.net v.net
    → FilesStill w.net v.net → IsSure texts cleaners_number g v.net
    → cleaner_log.CleanerAgrees g v (cleaners.takes cleaner.peers cleaner.phase what).state
    → AllSo (λ name. In name v.net.filed) (cleaners.takes cleaner.peers cleaner.phase what).outs → IsLine cleaners_number w.net n.filed
    → (goes : CleanerGoes part texts asked n (cleaners.takes cleaner.peers cleaner.phase what)) → IsLine cleaners_number v.net goes.next.filed
