-- A client that serves fetches and reads where it is told, its feed keeps what is told, and it tells managers no more.
use Rattle.std.proofs.Common.{List, subst}
use Rattle.client_serving.specs.declared.serving.Serving.{Serving}
use Rattle.client_serving.specs.Lasting.{log_of}
use Rattle.client_serving.specs.Sends.{Done}
use Rattle.segment_reading.specs.declared.target.Target.{Target}
use Rattle.segment_reading.specs.Reading.{ReadingState}
use Rattle.node_moves.proofs.client_walk.Laws.{Hears, Walk, hears_so}
use Rattle.node_moves.proofs.client_walk.Readings.{answered_so, confirmed_so}
use Rattle.version_model.specs.declared.act.Act.{Act}
use Rattle.wire_msg.specs.declared.body.Body.{Body}
use Rattle.xfs_base.specs.declared.node.NodeId.{NodeId}
use Rattle.node_tellings.specs.entry_tie.ClientTells.{BlockTold, FlightOwed, ServingHolds}
use Rattle.node_tellings.specs.entry_tie.Told.{BodyTold, RowsTold, Told}
use Rattle.node_tellings.proofs.entry_tie.ClientReads.{tokens_say}
use Rattle.node_tellings.proofs.entry_tie.ClientTokens.{tokens_so}
use Rattle.node_tellings.proofs.entry_tie.Feeds.{acknowledged_told, push_all_say, pushes_say, renewed_told, settled_told}
use Rattle.node_tellings.proofs.entry_tie.Frames as frames

module _ (told : Told) (done : List Act) where
  -- a block is read where it is told to lie
  abbrev pub Lies : Target → Type 0
  Lies target = BlockTold told target.seg target.block

  abbrev pub ReadingSo : ReadingState → Type 0
  ReadingSo r = Lies r.target

  abbrev pub At : Serving → Type 0
  At s = ServingHolds told s

  -- its log and its cache hold nothing of it; what is in flight says what is told, where it is acted to be filed
  abbrev pub walk : Walk
  walk = record {
    Stands = At;
    Says = frames.Says told done;
    Acted = frames.Acted told done;
    Granted = told;
    Came = λ ask server t. Unit {0};
    Mapped = λ groups. Unit {0};
    Lies = Lies;
    Reading = ReadingSo;
    Landed = λ end rows. RowsTold told rows;
    Owed = λ l log. FlightOwed told done (log_of l) log;
    tokens = λ s i fact h. record { fetches = tokens_so told s.tokens i fact h.fetches; feed = h.feed; reading = h.reading };
    tells = λ its i fact. tokens_say told its i fact;
    caches = λ s cache h. h;
    maps = λ s news fact h. h;
    managed = λ s managers h. h;
    lasts = λ s l same h. h;
    calls = λ s call fact h. record { fetches = h.fetches; feed = h.feed; reading = fact };
    reads = λ s h. h.reading;
    begun = λ s target group found fact h. fact;
    confirmed = λ r ask known. confirmed_so Lies r ask known;
    answered = λ r groups ask server t came known. answered_so Lies r groups ask server t known;
    acked = λ s slot applied h. record { fetches = h.fetches; feed = acknowledged_told told s.feed slot applied h.feed; reading = h.reading };
    renewed = λ s slot h. record { fetches = h.fetches; feed = renewed_told told s.feed slot h.feed; reading = h.reading };
    rests = λ s i same h. h;
    landed = λ s f flew owed acted h. owed f flew acted;
    lands = λ s l rows filed h. h;
    fed = λ s end rows filed h. record { fetches = h.fetches; feed = settled_told told s.feed end.seq rows h.feed filed; reading = h.reading };
    stores = λ fragment member. tt;
    fetched = λ name ask server. tt;
    wants = λ s block req again mode h. tt;
    gaves = λ s block stamp h. tt;
    supplied = λ f block ver value. (tt, tt);
    asks = λ inc ask. tt;
    reports = λ s slot epoch owed h. tt;
    pushed = λ s slot h. pushes_say told done s.managers s.feed h.feed slot;
    all_pushed = λ s h. push_all_say told done s.managers s.feed h.feed;
    answers = λ item a. tt;
    loses = λ name. tt;
    has_read = λ node block ver value. tt;
    wrote = λ node block value. tt;
    synced = λ node. tt;
    files = λ name end rows filed. tt;
  }

  abbrev pub Goes : Done → Type 0
  Goes d = frames.Goes told done At d

  -- of a packet it takes what a grant tells
  pub hears : (from : NodeId) (b : Body) → BodyTold told b → Hears walk from b
  hears from b fact = hears_so walk (λ ask server t. tt) (λ groups. tt) from b (λ m is. subst (BodyTold told) is fact)
