-- Whatever happens to a manager, each Live that it sends answers the Check that was delivered.
use Rattle.std.proofs.Common.{ℕ, Option, None, Some}
use Rattle.manager_node.specs.declared.manager.Manager.{Manager as ManagerNode}
use Rattle.manager_node.specs.declared.phase.Phase.{Phase}
use Rattle.manager_node.specs.declared.phase.Phase.TheVariants.{Down, Waiting, Serving as Serves}
use Rattle.manager_node.specs.Events as events
use Rattle.manager_node.specs.Phases as phases
use Rattle.manager_node.specs.Phases.{Went_to, serves}
use Rattle.manager_serving.specs.Checkpoints.{Done}
use Rattle.manager_serving.specs.declared.serving.Serving.{Serving}
use Rattle.manager_serving.specs.Serving as serving
use Rattle.node_base.specs.Known.{names_known_groups}
use Rattle.node_base.specs.Shape.{is_well_formed}
use Rattle.wire_msg.specs.declared.body.Body.{Body}
use Rattle.wire_msg.specs.declared.body.Body.TheVariants as body
use Rattle.wire_msg.specs.declared.packet.Do.{Do}
use Rattle.wire_msg.specs.declared.packet.Do.TheVariants.{Begin, Deliver, Tick}
use Rattle.wire_msg.specs.declared.packet.Packet.{Packet}
use Rattle.xfs_base.proofs.Booleans.{by_test}
use Rattle.xfs_base.specs.declared.node.NodeId.{NodeId}
use Rattle.xfs_base.specs.declared.node.NodeId.TheVariants.{Manager}
use Rattle.xfs_base.specs.declared.segment.LogId.{LogId}
use Rattle.xfs_base.specs.Steps.{still}
use Rattle.wire_msg.specs.declared.cleaning.Live.{Live}
use Rattle.run_laws.specs.place_law.Answers.{AnswersBody, AnswersDo, IfLive, ManagersAnswer}
use Rattle.run_laws.proofs.place_law.ManagerSays.{AsksIndex, begins_so, body_so, time_so, waits_so}
use Rattle.run_laws.proofs.place_law.Saying.{AllSay, IsOfEntries, packets_say}
use Rattle.run_laws.proofs.place_law.SlotAnswers.{checks_say, deltas_say, gaves_say, wants_say}

-- of each Live that is sent this is so
module _ (A : Live → Type 0) where
  silent : IsOfEntries (IfLive A)
  silent (body.Live m) tells = absurd tells
  silent _ tells = tt

  want_so : (s : Serving) (client : Option ℕ) (m : _) → AllSay (IfLive A) (serving.on_want s client m).outs
  unfolding serving.on_want
  want_so s None m = tt
  want_so s (Some client) m = wants_say A s.slots client m

  gave_so : (s : Serving) (client : Option ℕ) (m : _) → AllSay (IfLive A) (serving.on_gave s client m).outs
  unfolding serving.on_gave
  gave_so s None m = tt
  gave_so s (Some client) m = gaves_say A s.slots client m

  deltas_so : (s : Serving) (log : Option LogId) (m : _) → AllSay (IfLive A) (serving.on_deltas s log m).outs
  unfolding serving.on_deltas
  deltas_so s None m = tt
  deltas_so s (Some log) m = deltas_say A s.slots log m

  own_so : (s : Serving) (clients : ℕ) (from : NodeId) (m : Body) → ((l : Live) → AnswersBody m l → A l) → AsksIndex m
      → AllSay (IfLive A) (serving.on_body s clients from m).outs
  unfolding serving.on_check
  own_so s clients from (body.Want m) may asks = want_so s (serving.client_in from) m
  own_so s clients from (body.Gave m) may asks = gave_so s (serving.client_in from) m
  own_so s clients from (body.Deltas m) may asks = deltas_so s (serving.fed_log from) m
  own_so s clients from (body.Check m) may asks = checks_say A s.slots m may
  own_so s clients from _ may asks = absurd asks

  serving_hear_so : (s : Serving) (clients : ℕ) (packet : Packet) → ((l : Live) → AnswersBody packet.body l → A l)
      → AllSay (IfLive A) (serving.serving_hear s clients packet).outs
  unfolding serving.serving_hear serving.ask_for_maps
  serving_hear_so s clients packet may =
      by_test (λ (d : Done). AllSay (IfLive A) d.outs) (names_known_groups s.maps packet.body) (serving.on_body s clients packet.from packet.body) _
      (λ t. body_so (IfLive A) silent s clients packet.from packet.body (own_so s clients packet.from packet.body may)) (λ t. (tt, tt))

  packet_so : (peers : _) (p : Phase) (packet : Packet) → ((l : Live) → AnswersBody packet.body l → A l) → AllSay (IfLive A) (events.on_packet peers p packet).outs
  packet_so peers (Down kept) packet may = tt
  packet_so peers (Waiting kept hello) packet may = waits_so (IfLive A) silent peers kept hello packet.body
  packet_so peers (Serves s) packet may = serving_hear_so s peers.clients packet may

  event_so : (peers : _) (p : Phase) (what : Do) → ((l : Live) → AnswersDo what l → A l) → AllSay (IfLive A) (events.on_event peers p what).outs
  unfolding events.manager_deliver
  event_so peers p Begin may = begins_so (IfLive A) silent p
  event_so peers p (Deliver packet) may =
      by_test (λ (w : Went_to). AllSay (IfLive A) w.outs) (is_well_formed peers packet) (events.on_packet peers p packet) (still p)
      (λ t. packet_so peers p packet may) (λ t. tt)
  event_so peers p Tick may = time_so (IfLive A) silent p

  happens_so : (m : ManagerNode) (what : Do) → ((l : Live) → AnswersDo what l → A l) → AllSay (IfLive A) (events.happens m what).outs
  unfolding events.happens
  happens_so m what may =
      by_test (λ (w : Went_to). AllSay (IfLive A) w.outs) (phases.phase_has_room m.phase) (events.on_event m.peers m.phase what) (still m.phase)
      (λ t. event_so m.peers m.phase what may)
      (λ t. tt)

pub managers_answer : ManagersAnswer
managers_answer m what =
    packets_say (IfLive (AnswersDo what)) (Manager (phases.lasting_of m.phase).number) (events.happens m what).outs
    (happens_so (AnswersDo what) m what (λ l h. h))
