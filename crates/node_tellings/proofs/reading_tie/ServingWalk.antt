-- What a client that serves reads came: each answer of its round was told by a server, and its groups are as maps that came say.
use Rattle.std.proofs.Common.{◌≡◌, ℕ, Option, Some, None}
use Rattle.client_call.specs.Reads.{hear_reading}
use Rattle.client_serving.specs.declared.serving.Serving.{Serving}
use Rattle.client_serving.specs.Reads.{group_in}
use Rattle.group_map.specs.declared.group.Group.{Group}
use Rattle.group_map.specs.GroupMapState.{GroupMapState}
use Rattle.node_base.specs.Asking.{next_ask}
use Rattle.node_base.specs.declared.maps.Maps.{Maps}
use Rattle.node_base.specs.Maps.{is_older, maps_take}
use Rattle.segment_format.specs.declared.segment.Segment.{Segment}
use Rattle.segment_reading.specs.declared.reading.Next.TheVariants as next
use Rattle.segment_reading.specs.Reading.{ReadingState}
use Rattle.node_moves.proofs.client_walk.Frames as steps
use Rattle.node_moves.proofs.client_walk.Laws.{Hears, OfServer, Walk, all_tell}
use Rattle.stripe_code.specs.declared.round.Told.{Told as Answered}
use Rattle.token_client.specs.Transition as client
use Rattle.wire_msg.specs.declared.body.Body.{Body}
use Rattle.wire_msg.specs.declared.body.Body.TheVariants as body
use Rattle.wire_msg.specs.declared.registry.News.{News}
use Rattle.xfs_base.proofs.Booleans.{by_test}
use Rattle.xfs_base.specs.declared.node.NodeId.{NodeId}
use Rattle.xfs_base.specs.declared.node.NodeId.TheVariants as node
use Rattle.node_base.specs.Nodes.{server_in}
use Rattle.node_tellings.proofs.reading_tie.Arrivals.{AnswerBrought, BodyBrought}
use Rattle.node_tellings.specs.reading_tie.Came.{AnyReadingCame, Came, GroupStriped, MapStriped, MapsStriped, ReadingCame, Striped}
use Rattle.node_tellings.specs.reading_tie.ClientReads.{ReadsPlace, ServesSo}
use Rattle.node_tellings.proofs.reading_tie.Readings.{answered_came, answered_reads, begun_came, confirmed_came}

module _ (came : Came) (striped : Striped) where
  abbrev pub Known : ReadingState → Type 0
  Known r = ReadingCame came striped r

  abbrev pub At : Serving → Type 0
  At s = ServesSo came striped s

  pub grouped : (groups : Option GroupMapState) (id : ℕ) (group : Group) → group_in groups id ≡ Some group → MapsStriped striped groups
      → GroupStriped striped id group
  grouped None id group fact h = absurd cc
  grouped (Some groups) id group fact h = h id group fact

  -- newer maps are what came
  pub mapped : (s : Serving) (news : News) → MapStriped striped news.groups → MapsStriped striped s.maps.groups → MapsStriped striped (maps_take s.maps news).groups
  mapped s news fact was =
      by_test (λ (m : Maps). MapsStriped striped m.groups) (is_older s.maps news) (record s.maps { version = news.version; groups = Some news.groups }) s.maps
      (λ _. fact) (λ _. was)

  -- of what it says nothing is asked
  abbrev pub walk : Walk
  walk = record {
    Stands = At;
    Says = steps.Any;
    Acted = steps.Any;
    Granted = λ block entry. Unit {0};
    Came = came;
    Mapped = λ groups. MapStriped striped groups;
    Lies = λ target. Unit {0};
    Reading = Known;
    Landed = λ end rows. Unit {0};
    Owed = λ l log. Unit {0};
    tokens = λ s i fact h. h;
    tells = λ its i fact. all_tell (λ target. Unit {0}) (λ target. tt) (client.transition its i).outs;
    caches = λ s cache h. h;
    maps = λ s news fact h. record { maps = mapped s news fact h.maps; reading = h.reading };
    managed = λ s managers h. h;
    lasts = λ s l same h. h;
    calls = λ s call fact h. record { maps = h.maps; reading = fact };
    reads = λ s h. h.reading;
    begun = λ s target group found fact h. begun_came came striped target group (next_ask s.lasting.questions)
        (grouped s.maps.groups target.seg.group group found h.maps);
    confirmed = λ r ask known. confirmed_came came striped r ask known;
    answered = λ r groups ask server t it known. answered_came came striped r groups ask server t known it;
    acked = λ s slot applied h. h;
    renewed = λ s slot h. h;
    rests = λ s i same h. h;
    landed = λ s f flew owed acted h. tt;
    lands = λ s l rows filed h. h;
    fed = λ s end rows filed h. h;
    stores = λ fragment member. tt;
    fetched = λ name ask server. tt;
    wants = λ s block req again mode h. tt;
    gaves = λ s block stamp h. tt;
    supplied = λ f block ver value. (tt, tt);
    asks = λ inc ask. tt;
    reports = λ s slot epoch owed h. tt;
    pushed = λ s slot h. steps.any_acted _;
    all_pushed = λ s h. steps.any_acted _;
    answers = λ item a. tt;
    loses = λ name. tt;
    has_read = λ node block ver value. tt;
    wrote = λ node block value. tt;
    synced = λ node. tt;
    files = λ name end rows filed. tt;
  }

  -- ---- what it hears

  of_server : (from : NodeId) (ask : ℕ) (t : Answered) → AnswerBrought came (server_in from) ask t → OfServer (λ server. came ask server t) from
  of_server (node.Server server) ask t fact = fact
  of_server _ ask t fact = tt

  pub hears : (from : NodeId) (b : Body) → BodyBrought came striped from b → Hears walk from b
  hears from (body.Fragment m) fact = of_server from m.ask _ fact
  hears from (body.Missing m) fact = of_server from m.ask _ fact
  hears from (body.MapNews m) fact = fact
  hears from (body.Welcome m) fact = fact
  hears from _ fact = tt

  -- ---- what a reading reads

  pub heard_reads : (r : Option ReadingState) (groups : Option GroupMapState) (ask server : ℕ) (t : Answered) (segment : Segment)
      → AnyReadingCame came striped r → came ask server t → (hear_reading r groups ask server t).next ≡ next.Read segment → ReadsPlace came striped r segment
  heard_reads None groups ask server t segment fact it e = absurd cc
  heard_reads (Some r) None ask server t segment fact it e = absurd cc
  heard_reads (Some r) (Some groups) ask server t segment fact it e = answered_reads came striped r groups ask server t segment fact it e
