-- What each event makes of a manager.
use Rattle.std.specs.Prelude.{ℕ, Bool, ◌==◌, ◌&&◌, if◌then◌else◌, List, [], ◌∷◌}
use Rattle.group_map.specs.Groups.{group_map_start as groups_started}
use Rattle.log_owner.specs.Sending.{hello}
use Rattle.manager_slots.specs.declared.lasting.Lasting.{Lasting as Kept}
use Rattle.manager_serving.specs.Serving.{serving_start, again, on_news, serving_hear, on_tick}
use Rattle.node_base.specs.Beginning.{items_start as items_started}
use Rattle.node_base.specs.declared.peers.Peers.{Peers}
use Rattle.node_base.specs.Effects.{packets_of, acts_of}
use Rattle.node_base.specs.Maps.{fits, forgotten}
use Rattle.node_base.specs.Shape.{is_well_formed}
use Rattle.version_model.specs.declared.work.Work.{Work}
use Rattle.wire_msg.specs.declared.body.Body.{Body}
use Rattle.wire_msg.specs.declared.body.Body.TheVariants as body
use Rattle.wire_msg.specs.declared.packet.Do.{Do}
use Rattle.wire_msg.specs.declared.packet.Do.TheVariants.{Begin, Deliver, Tick}
use Rattle.wire_msg.specs.declared.packet.Packet.{Packet}
use Rattle.wire_msg.specs.declared.registry.Welcome.{Welcome}
use Rattle.wire_msg.specs.NodeStep.{NodeStep}
use Rattle.xfs_base.specs.declared.node.NodeId.TheVariants.{Manager as AManager}
use Rattle.xfs_base.specs.declared.setup.Setup.{Setup}
use Rattle.xfs_base.specs.Steps.{still}
use Rattle.manager_node.specs.declared.manager.Manager.{Manager}
use Rattle.manager_node.specs.declared.phase.Phase.{Phase}
use Rattle.manager_node.specs.declared.phase.Phase.TheVariants.{Down, Waiting, Serving as Serves}
use Rattle.manager_node.specs.Phases.{Went_to, lasting_of, phase_has_room, serves, on_begin}
pub use Rattle.node_base.specs.Nodes.{peers_of}

-- ---- the start

-- the first incarnation, which has asked nothing and begun nothing
abbrev pub first_life : ℕ → List Work → Kept
first_life number works = record { number = number; inc = 1; questions = record { last = 0 }; items = items_started works }

-- the manager of this number before the first event
abbrev pub manager_start : ℕ → Setup → List Work → Manager
manager_start number setup works = record {
  peers = peers_of setup;
  phase = Serves (serving_start (first_life number works) setup.managers (groups_started setup.servers setup.groups));
}

-- ---- packets

-- the answer to the question of a restart, in its incarnation
abbrev pub is_answer : Kept → ℕ → Welcome → Bool
is_answer kept hello welcome = (welcome.inc == kept.inc) && (welcome.ask == hello)

abbrev pub takes_welcome : Peers → Kept → ℕ → Welcome → Bool
takes_welcome peers kept hello welcome = is_answer kept hello welcome && fits (forgotten peers.servers) welcome.news

-- the maps that a restarted manager awaited: it serves, and takes over the slots that they give to it
unfoldable pub on_welcome : Peers → Kept → ℕ → Welcome → Went_to
on_welcome peers kept hello welcome =
    if takes_welcome peers kept hello welcome
    then serves (on_news (again kept (forgotten peers.servers) welcome.news.groups) peers.clients welcome.news)
    else still (Waiting kept hello)

-- until that Welcome it takes no other packet
abbrev pub on_waiting : Peers → Kept → ℕ → Body → Went_to
on_waiting peers kept hello (body.Welcome welcome) = on_welcome peers kept hello welcome
on_waiting peers kept hello _ = still (Waiting kept hello)

-- one that is down takes no packet
abbrev pub on_packet : Peers → Phase → Packet → Went_to
on_packet peers (Down kept) packet = still (Down kept)
on_packet peers (Waiting kept hello) packet = on_waiting peers kept hello packet.body
on_packet peers (Serves s) packet = serves (serving_hear s peers.clients packet)

unfoldable pub manager_deliver : Peers → Phase → Packet → Went_to
manager_deliver peers p packet = if is_well_formed peers packet then on_packet peers p packet else still p

-- ---- time

unfoldable pub on_time : Phase → Went_to
on_time (Down kept) = still (Down kept)
on_time (Waiting kept ask) = record { state = Waiting kept ask; outs = hello kept.inc ask ∷ [] }
on_time (Serves s) = serves (on_tick s)

-- ---- all events

abbrev pub on_event : Peers → Phase → Do → Went_to
on_event peers p Begin = on_begin p
on_event peers p (Deliver packet) = manager_deliver peers p packet
on_event peers p Tick = on_time p

-- where a counter isn't at least 65,536 below its end, the event changes nothing
unfoldable pub happens : Manager → Do → Went_to
happens m what = if phase_has_room m.phase then on_event m.peers m.phase what else still m.phase

abbrev pub seen : Manager → Went_to → NodeStep Manager
seen m w = record {
  node = record m { phase = w.state };
  packets = packets_of (AManager (lasting_of m.phase).number) w.outs;
  acts = acts_of (AManager (lasting_of m.phase).number) w.outs;
}

-- what an event makes of a manager
abbrev pub manager_step : Manager → Do → NodeStep Manager
manager_step m what = seen m (happens m what)
