-- What each packet, and time, make of a client that serves: where a segment is settled it is filed.
use Rattle.std.proofs.Common.{◌≤◌, ◌<◌, ◌==◌, ℕ, sym, subst}
use Rattle.client_log.specs.declared.input.In.TheVariants as log_in
use Rattle.client_serving.specs.declared.serving.Serving.{Serving}
use Rattle.client_serving.specs.Flights.{serving_write}
use Rattle.client_serving.specs.Packets.{serving_hear, regroups, takes_news, on_news, on_welcome, take_body, asks_for_maps, serving_take, on_tick}
use Rattle.client_running.specs.Running.{run}
use Rattle.client_serving.specs.Sends.{Done}
use Rattle.headline.specs.Filed.{Filed, Texts}
use Rattle.index_tie.specs.Net.{Net}
use Rattle.node_base.specs.Known.{names_known_groups}
use Rattle.node_base.specs.Maps.{fits, is_older, maps_take}
use Rattle.node_slots.specs.node_index_tie.Pages.{FlightIsText}
use Rattle.segment_format.specs.declared.segment.Segment.{Segment}
use Rattle.stripe_code.specs.declared.round.Told.TheVariants as told
use Rattle.wire_msg.specs.declared.body.Body.{Body}
use Rattle.wire_msg.specs.declared.body.Body.TheVariants as body
use Rattle.wire_msg.specs.declared.packet.Packet.{Packet}
use Rattle.wire_msg.specs.declared.registry.News.{News}
use Rattle.wire_msg.specs.declared.registry.Welcome.{Welcome}
use Rattle.xfs_base.proofs.Booleans.{by_test}
use Rattle.xfs_base.specs.declared.node.NodeId.{NodeId}
use Rattle.xfs_base.specs.Limits.{block_logs}
use Rattle.xfs_base.specs.Steps.{still, saying, steps}
use Rattle.node_slots.specs.owner_index_tie.Filing.{filed_after}
use Rattle.node_slots.proofs.owner_index_tie.Frames as frames
use Rattle.node_slots.proofs.owner_index_tie.Polling as polling
use Rattle.node_slots.proofs.owner_index_tie.ServingLog as flights
use Rattle.node_slots.proofs.owner_index_tie.ServingWalk as serving
use Rattle.node_moves.proofs.client_walk.Calls as calls
use Rattle.node_moves.proofs.client_walk.Frames as walk
use Rattle.node_moves.proofs.client_walk.Laws.{OfServer, Walk, of_any}
use Rattle.node_moves.proofs.client_walk.Packets as hearing
use Rattle.node_moves.proofs.client_walk.Promises.{all_hear_left}
use Rattle.node_slots.proofs.owner_index_tie.Standing.{Stands}

-- ---- packets

-- a poll that comes is owed a linked log
abbrev pub Polled : ℕ → Net → ℕ → Filed → Serving → Body → Type 0
Polled part n l f s (body.Poll m) = polling.PollLinked part n l f s m
Polled part n l f s _ = Unit {0}

module _ (New : Filed → Segment → Type 0) (part : ℕ) (texts : Texts) (n : Net) (l since : ℕ) (some : 0 < l) (limit : l ≤ block_logs) where
  abbrev At : Filed → Serving → Type 0
  At f s = Stands part n l since f s.lasting.number s.log s.feed

  abbrev pub Files : Filed → Done → Type 0
  Files f d = frames.Goes New part texts n l since At f d

  quiet : (f : Filed) (d : Done) → frames.Quiet part n l since f (At f) d → Files f d
  quiet f d q = frames.goes_quiet New part texts n l since At f d q

  abbrev its_walk : Filed → Walk
  its_walk f = serving.walk part n l since some limit f

  -- what the walk has
  walked : (f : Filed) (d : Done) → walk.Goes (frames.Plain part n l since f) walk.Any (At f) d → Files f d
  walked f d p = quiet f d (serving.quiet part n l since some limit f d p)

  module _ (f : Filed) (s : Serving) (h : At f s) (text : FlightIsText texts s.log) where
    still_files : Files f (still s)
    still_files = quiet f (still s) (frames.quiet_still part n l since f (At f) s h)

    takes_news_files : (news : News) → Files f (takes_news s news)
    unfolding takes_news
    takes_news_files news =
        let t : Serving = record s { maps = maps_take s.maps news } in
        let d : Done = steps serving_hear t news.slots in
        frames.goes_on New part texts n l since At f d (regroups d.state (is_older s.maps news) news.groups)
        (walked f d (hearing.all_hear_so (its_walk f) t news.slots h))
        (λ k. by_test (λ (e : Done). Files (frames_after d) e) (is_older s.maps news) (serving_write d.state (log_in.Maps news.groups)) (still d.state)
        (λ _. flights.serving_write_so New part texts n l since some limit (frames_after d) d.state (log_in.Maps news.groups) k
        (subst (FlightIsText texts) (sym (all_hear_left t news.slots).log) text))
        (λ _. quiet (frames_after d) (still d.state) (frames.quiet_still part n l since (frames_after d) (At (frames_after d)) d.state k)))
      where
        frames_after : Done → Filed
        frames_after d = filed_after texts l f d.outs

    answered_any : (from : NodeId) → OfServer (λ server. Unit {0}) from
    answered_any from = of_any (λ server. Unit {0}) (λ server. tt) from

    news_files : (news : News) → Files f (on_news s news)
    news_files news = by_test (Files f) (fits s.maps news) (takes_news s news) (still s) (λ _. takes_news_files news) (λ _. still_files)

    welcome_files : (m : Welcome) → Files f (on_welcome s m)
    unfolding on_welcome
    welcome_files m = by_test (Files f) (m.inc == s.lasting.inc) (on_news s m.news) (still s) (λ _. news_files m.news) (λ _. still_files)

    body_files : (from : NodeId) (b : Body) → Polled part n l f s b → Files f (take_body s from b)
    body_files from (body.Grant m) owed = walked f (take_body s from (body.Grant m)) (hearing.on_grant_so (its_walk f) s m tt h)
    body_files from (body.Supply m) owed = walked f (take_body s from (body.Supply m)) (hearing.on_supply_so (its_walk f) s m h)
    body_files from (body.Forward m) owed = walked f (take_body s from (body.Forward m)) (hearing.on_forward_so (its_walk f) s m h)
    body_files from (body.Recall m) owed = walked f (take_body s from (body.Recall m)) (hearing.on_recall_so (its_walk f) s m h)
    body_files from (body.Gone m) owed = walked f (take_body s from (body.Gone m)) (hearing.on_gone_so (its_walk f) s m h)
    body_files from (body.DeltaAck m) owed = walked f (take_body s from (body.DeltaAck m)) (hearing.on_ack_so (its_walk f) s m h)
    body_files from (body.Poll m) owed = quiet f (take_body s from (body.Poll m)) (polling.on_poll_so part n l since some limit f s from m h owed)
    body_files from (body.Stored m) owed = flights.serving_write_so New part texts n l since some limit f s (log_in.Acked m.name m.index m.generation) h text
    body_files from (body.Fragment m) owed = walked f (take_body s from (body.Fragment m))
        (hearing.on_told_so (its_walk f) s from m.ask (told.Held m.fragment) (answered_any from) h)
    body_files from (body.Missing m) owed = walked f (take_body s from (body.Missing m))
        (hearing.on_told_so (its_walk f) s from m.ask (told.Missing m.generation) (answered_any from) h)
    body_files from (body.MapNews m) owed = news_files m
    body_files from (body.Welcome m) owed = welcome_files m
    body_files from _ owed = still_files

    packet_files : (p : Packet) → Polled part n l f s p.body → Files f (serving_take s p)
    unfolding serving_take
    packet_files p owed =
        by_test (Files f) (names_known_groups s.maps p.body) (take_body s p.from p.body) (asks_for_maps s) (λ _. body_files p.from p.body owed)
        (λ _. walked f (asks_for_maps s) (hearing.asks_for_maps_so (its_walk f) s h))

    -- what is done, and then the open call runs
    runs_files : (d : Done) → Files f d → Files f (saying d.outs (run d.state))
    runs_files d p = frames.goes_on New part texts n l since At f d (run d.state) p
        (λ k. walked (filed_after texts l f d.outs) (run d.state) (calls.run_so (its_walk (filed_after texts l f d.outs)) d.state k))

    pub packet_so : (p : Packet) → Polled part n l f s p.body → Files f (saying (serving_take s p).outs (run (serving_take s p).state))
    packet_so p owed = runs_files (serving_take s p) (packet_files p owed)

    pub time_so : Files f (saying (on_tick s).outs (run (on_tick s).state))
    time_so = runs_files (on_tick s) (walked f (on_tick s) (hearing.tick_goes (its_walk f) s h))
