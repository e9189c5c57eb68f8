-- Whatever happens to a manager, each Grant that it sends tells what its index holds after the event: it sends one only in answer to a Want, a Gave or Deltas.
use Rattle.std.proofs.Common.{ℕ, Option, None, Some}
use Rattle.manager_node.specs.declared.manager.Manager.{Manager as ManagerNode}
use Rattle.manager_node.specs.declared.phase.Phase.{Phase}
use Rattle.manager_node.specs.declared.phase.Phase.TheVariants.{Down, Waiting, Serving as Serves}
use Rattle.manager_node.specs.Events as events
use Rattle.manager_node.specs.Phases as phases
use Rattle.manager_node.specs.Phases.{Went_to, serves}
use Rattle.manager_serving.specs.Checkpoints.{Done}
use Rattle.manager_serving.specs.declared.serving.Serving.{Serving}
use Rattle.manager_serving.specs.Serving as serving
use Rattle.node_base.specs.Known.{names_known_groups}
use Rattle.node_base.specs.Shape.{is_well_formed}
use Rattle.wire_msg.specs.declared.body.Body.{Body}
use Rattle.wire_msg.specs.declared.body.Body.TheVariants as body
use Rattle.wire_msg.specs.declared.packet.Do.{Do}
use Rattle.wire_msg.specs.declared.packet.Do.TheVariants.{Begin, Deliver, Tick}
use Rattle.wire_msg.specs.declared.packet.Packet.{Packet}
use Rattle.xfs_base.proofs.Booleans.{by_test}
use Rattle.xfs_base.specs.declared.node.NodeId.{NodeId}
use Rattle.xfs_base.specs.declared.node.NodeId.TheVariants.{Manager}
use Rattle.xfs_base.specs.declared.segment.LogId.{LogId}
use Rattle.xfs_base.specs.Steps.{still}
use Rattle.manager_node.specs.Events.{manager_step}
use Rattle.wire_msg.specs.declared.tokens.Grant.{Grant}
use Rattle.run_losses.specs.keeping_law.Grants.{GrantTells, IfGrant, ManagersGrantWhatTheyHold, WaitsInPlace}
use Rattle.run_laws.proofs.place_law.ManagerSays.{AsksIndex, begins_so, body_so, time_so, waits_so}
use Rattle.run_laws.proofs.place_law.Saying.{AllSay, IsOfEntries, packets_say}
use Rattle.run_losses.proofs.keeping_law.SlotGrants.{checks_tell, deltas_tell, gaves_tell, wants_tell}

-- of each Grant that is sent this is so
silent : (A : Grant → Type 0) → IsOfEntries (IfGrant A)
silent A (body.Grant m) tells = absurd tells
silent A _ tells = tt

-- so it is of a table of slots
abbrev Tells : Serving → Body → Type 0
Tells s = IfGrant (GrantTells (Serves s))

want_tells : (s : Serving) → WaitsInPlace (Serves s) → (client : Option ℕ) (m : _)
    → AllSay (Tells (serving.on_want s client m).state) (serving.on_want s client m).outs
unfolding serving.on_want
want_tells s waits None m = tt
want_tells s waits (Some client) m = wants_tell s waits client m

gave_tells : (s : Serving) → WaitsInPlace (Serves s) → (client : Option ℕ) (m : _)
    → AllSay (Tells (serving.on_gave s client m).state) (serving.on_gave s client m).outs
unfolding serving.on_gave
gave_tells s waits None m = tt
gave_tells s waits (Some client) m = gaves_tell s waits client m

deltas_tells : (s : Serving) → WaitsInPlace (Serves s) → (client : Option LogId) (m : _)
    → AllSay (Tells (serving.on_deltas s client m).state) (serving.on_deltas s client m).outs
unfolding serving.on_deltas
deltas_tells s waits None m = tt
deltas_tells s waits (Some log) m = deltas_tell s waits log m

own_tells : (s : Serving) → WaitsInPlace (Serves s) → (clients : ℕ) (from : NodeId) (m : Body) → AsksIndex m
    → AllSay (Tells (serving.on_body s clients from m).state) (serving.on_body s clients from m).outs
unfolding serving.on_check
own_tells s waits clients from (body.Want m) asks = want_tells s waits (serving.client_in from) m
own_tells s waits clients from (body.Gave m) asks = gave_tells s waits (serving.client_in from) m
own_tells s waits clients from (body.Deltas m) asks = deltas_tells s waits (serving.fed_log from) m
own_tells s waits clients from (body.Check m) asks = checks_tell _ s.slots m
own_tells s waits clients from _ asks = absurd asks

hears_tells : (s : Serving) → WaitsInPlace (Serves s) → (clients : ℕ) (packet : Packet)
    → AllSay (Tells (serving.serving_hear s clients packet).state) (serving.serving_hear s clients packet).outs
unfolding serving.serving_hear serving.ask_for_maps
hears_tells s waits clients packet =
    by_test (λ (d : Done). AllSay (Tells d.state) d.outs) (names_known_groups s.maps packet.body) (serving.on_body s clients packet.from packet.body) _
    (λ t. body_so _ (silent _) s clients packet.from packet.body (own_tells s waits clients packet.from packet.body)) (λ t. (tt, tt))

-- and of a manager, whatever happens to it
abbrev AllTell : Went_to → Type 0
AllTell w = AllSay (IfGrant (GrantTells w.state)) w.outs

packet_tells : (peers : _) (p : Phase) → WaitsInPlace p → (packet : Packet) → AllTell (events.on_packet peers p packet)
packet_tells peers (Down kept) waits packet = tt
packet_tells peers (Waiting kept hello) waits packet = waits_so _ (silent _) peers kept hello packet.body
packet_tells peers (Serves s) waits packet = hears_tells s waits peers.clients packet

event_tells : (peers : _) (p : Phase) → WaitsInPlace p → (what : Do) → AllTell (events.on_event peers p what)
unfolding events.manager_deliver
event_tells peers p waits Begin = begins_so _ (silent _) p
event_tells peers p waits (Deliver packet) =
    by_test AllTell (is_well_formed peers packet) (events.on_packet peers p packet) (still p) (λ t. packet_tells peers p waits packet) (λ t. tt)
event_tells peers p waits Tick = time_so _ (silent _) p

happens_tells : (m : ManagerNode) (what : Do) → WaitsInPlace m.phase → AllTell (events.happens m what)
unfolding events.happens
happens_tells m what waits =
    by_test AllTell (phases.phase_has_room m.phase) (events.on_event m.peers m.phase what) (still m.phase) (λ t. event_tells m.peers m.phase waits what)
    (λ t. tt)

pub managers_grant_what_they_hold : ManagersGrantWhatTheyHold
managers_grant_what_they_hold m what waits =
    packets_say (IfGrant (GrantTells (manager_step m what).node.phase)) (Manager (phases.lasting_of m.phase).number) (events.happens m what).outs
    (happens_tells m what waits)
