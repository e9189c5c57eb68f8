-- What a packet that is delivered brings: what it bears came among the packets, and maps that are taken are as said.
use Rattle.std.proofs.Common.{◌≡◌, ℕ, List, Option, Some, None, refl, sym, subst}
use Rattle.log_owner.specs.Sending.{server_in}
use Rattle.node_base.specs.declared.maps.Maps.{Maps}
use Rattle.node_base.specs.Maps.{is_older, maps_take}
use Rattle.stripe_code.specs.declared.round.Told.{Told as Answered}
use Rattle.stripe_code.specs.declared.round.Told.TheVariants.{Held, Missing}
use Rattle.token_protocol.specs.Basics.{In}
use Rattle.wire_msg.specs.declared.body.Body.{Body}
use Rattle.wire_msg.specs.declared.body.Body.TheVariants as body
use Rattle.wire_msg.specs.declared.packet.Do.{Do}
use Rattle.wire_msg.specs.declared.packet.Do.TheVariants.{Begin, Deliver, Tick}
use Rattle.wire_msg.specs.declared.packet.Packet.{Packet}
use Rattle.wire_msg.specs.declared.registry.News.{News}
use Rattle.xfs_base.proofs.Booleans.{by_test}
use Rattle.xfs_base.specs.declared.node.NodeId.{NodeId}
use Rattle.node_tellings.specs.reading_tie.Arrivals.{Tells, answered_in, Cuts, cut_by, BodyMaps, DoSent}
use Rattle.node_tellings.proofs.reading_tie.Arrivals.{AnswerBrought, BodyBrought, DoBrought}
use Rattle.node_tellings.specs.reading_tie.Came.{Striped, MapStriped, MapsStriped}
use Rattle.node_tellings.proofs.reading_tie.Came.{CameMore}

-- maps that are taken, where they are newer
pub maps_take_so : (striped : Striped) (maps : Maps) (news : News) → MapsStriped striped maps.groups → MapStriped striped news.groups
    → MapsStriped striped (maps_take maps news).groups
maps_take_so striped maps news h fact =
    by_test (λ (m : Maps). MapsStriped striped m.groups) (is_older maps news) (record maps { version = news.version; groups = Some news.groups }) maps
    (λ _. fact)
    (λ _. h)

module _ (packets : List Packet) (to : NodeId) (cuts : Cuts) where
  module _ (packet : Packet) (among : In packet packets) (reader : packet.to ≡ to) where
    answer_brought : (ask : ℕ) (told : Answered) (server : Option ℕ) → server_in packet.from ≡ server → Tells ask told packet.body
        → AnswerBrought (answered_in packets to) server ask told
    answer_brought ask told None fact tells = tt
    answer_brought ask told (Some server) fact tells = record { packet = packet; among = among; reader = reader; from = fact; tells = tells }

    body_brought : (b : Body) → packet.body ≡ b → BodyMaps cuts b → BodyBrought (answered_in packets to) (cut_by cuts) packet.from b
    body_brought (body.Fragment m) fact maps =
        answer_brought m.ask (Held m.fragment) (server_in packet.from) refl (subst (Tells m.ask (Held m.fragment)) (sym fact) (refl, refl))
    body_brought (body.Missing m) fact maps =
        answer_brought m.ask (Missing m.generation) (server_in packet.from) refl (subst (Tells m.ask (Missing m.generation)) (sym fact) (refl, refl))
    body_brought (body.MapNews m) fact maps = maps
    body_brought (body.Welcome m) fact maps = maps
    body_brought _ fact maps = tt

  pub do_brought : (what : Do) → DoSent packets to cuts what → DoBrought (answered_in packets to) (cut_by cuts) what
  do_brought Begin h = tt
  do_brought (Deliver packet) h = body_brought packet h.0 h.1 packet.body refl h.2
  do_brought Tick h = tt

-- what came to a node in these packets came in more of them too
pub answered_more : (packets more : List Packet) (to : NodeId) → ((p : Packet) → In p packets → In p more)
    → CameMore (answered_in packets to) (answered_in more to)
answered_more packets more to grows ask server told h =
    record { packet = h.packet; among = grows h.packet h.among; reader = h.reader; from = h.from; tells = h.tells }
