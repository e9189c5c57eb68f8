-- What each packet, and time, make of a cleaner that serves.
use Rattle.headline.specs.Filed.{Filed, Texts}
use Rattle.segment_format.specs.declared.segment.Segment.{Segment}
use Rattle.std.proofs.Common.{◌<◌, ℕ, List, []}
use Rattle.cleaner_serving.specs.declared.emptying.Emptying.{Emptying}
use Rattle.cleaner_serving.specs.EmptyingEvents.{on_body, ask_for_maps, on_packet, on_tick, emptying_write}
use Rattle.cleaner_serving.specs.Jobs.{Done, emptying_clean}
use Rattle.client_log.specs.declared.input.In.TheVariants as log_in
use Rattle.index_tie.specs.Net.{Net, Packet}
use Rattle.log_owner.specs.Sending.{push_all, server_in}
use Rattle.node_base.specs.Known.{names_known_groups}
use Rattle.node_slots.proofs.owner_index_tie.MovesLog.{FlightKnown}
use Rattle.node_slots.specs.node_index_tie.Sight.{Questions}
use Rattle.stripe_cleaner.specs.declared.input.In.TheVariants as input
use Rattle.stripe_code.specs.declared.round.Told.TheVariants as told
use Rattle.wire_msg.specs.declared.body.Body.{Body}
use Rattle.wire_msg.specs.declared.body.Body.TheVariants as body
use Rattle.wire_msg.specs.declared.packet.Packet.{Packet as Sent}
use Rattle.xfs_base.proofs.Booleans.{by_test}
use Rattle.xfs_base.specs.declared.node.NodeId.{NodeId}
use Rattle.xfs_base.specs.Steps.{saying}
use Rattle.node_slots.specs.owner_index_tie.CleanerEvents.{BodyGets}
use Rattle.node_slots.proofs.owner_index_tie.CleanerFrames as frames
use Rattle.node_slots.proofs.owner_index_tie.CleanerFrames.{Stands}
use Rattle.node_slots.proofs.owner_index_tie.CleanerHears as hearing
use Rattle.node_slots.proofs.owner_index_tie.CleanerJobs as jobs
use Rattle.node_slots.proofs.owner_index_tie.CleanerLog.{emptying_write_so, ticks_so, pushes_plain}
use Rattle.node_slots.proofs.owner_index_tie.CleanerNews.{news_so, welcome_so}

module _ (New : Filed → Segment → Type 0) (part : ℕ) (texts : Texts) (since : ℕ) (answered : List Packet) (small : part < 8) where
  abbrev At : Net → Emptying → Type 0
  At n e = Stands New part texts since answered n e.log e.feed e.promised e.job

  abbrev Goes : Questions → Net → Done → Type 0
  Goes asked n d = frames.Goes New part texts since answered asked n d

  module _ (asked : Questions) (n : Net) (e : Emptying) (h : At n e) (text : FlightKnown part texts answered e.log) where
    body_so : (from : NodeId) (b : Body) → BodyGets part n e from b → Goes asked n (on_body e from b)
    body_so from (body.MapNews m) gets = news_so New part texts since answered small asked n e m h text
    body_so from (body.Welcome m) gets = welcome_so New part texts since answered small asked n e m h text
    body_so from (body.Poll m) gets = hearing.poll_so New part texts since answered small asked n e from m h gets
    body_so from (body.DeltaAck m) gets = hearing.ack_so New part texts since answered small asked n e m h
    body_so from (body.Stored m) gets = emptying_write_so New part texts since answered asked n e (log_in.Acked m.name m.index m.generation) h text
    body_so from (body.Listed m) gets = hearing.listed_so New part texts since answered small asked n e (server_in from) m h
    body_so from (body.Usage m) gets = hearing.usage_so New part texts since answered small asked n e m h
    body_so from (body.Fragment m) gets = hearing.told_so New part texts since answered small asked n e (server_in from) m.ask (told.Held m.fragment) h gets
    body_so from (body.Missing m) gets = hearing.told_so New part texts since answered small asked n e (server_in from) m.ask (told.Missing m.generation) h gets
    body_so from (body.Live m) gets = hearing.live_so New part texts since answered small asked n e m h
    body_so from (body.Dead m) gets = hearing.dead_so New part texts since answered small asked n e m h gets
    body_so from (body.Deleted m) gets = hearing.deleted_so New part texts since answered small asked n e (server_in from) m h
    body_so from _ gets = frames.quiet New part texts since answered asked n e [] h tt

    pub packet_so : (p : Sent) → BodyGets part n e p.from p.body → Goes asked n (on_packet e p)
    unfolding on_packet
    packet_so p gets =
        by_test (Goes asked n) (names_known_groups e.maps p.body) (on_body e p.from p.body) (ask_for_maps e) (λ _. body_so p.from p.body gets)
        (λ _. frames.quiet New part texts since answered asked n (ask_for_maps e).state (ask_for_maps e).outs h (tt, tt))

    pub time_so : Goes asked n (on_tick e)
    unfolding on_tick
    time_so =
        let j = emptying_clean e input.Tick in
        let l = emptying_write j.state log_in.Tick in
        frames.went_on New part texts since answered asked n j
        (saying l.outs (record { state = l.state; outs = push_all l.state.promised.managers l.state.feed }))
        (jobs.emptying_clean_so New part texts since answered asked n e input.Tick h (jobs.may_other New part texts since answered n e input.Tick h tt tt))
        (λ w. frames.went_on New part texts since answered w.questions w.next l
        (record { state = l.state; outs = push_all l.state.promised.managers l.state.feed })
        (ticks_so New part texts since answered w.questions w.next j.state w.stands)
        (λ x. frames.quiet New part texts since answered x.questions x.next l.state (push_all l.state.promised.managers l.state.feed) x.stands
        (pushes_plain New part texts since answered x.questions x.next l.state.promised.managers l.state.feed x.stands.seen.owner.feed)))
