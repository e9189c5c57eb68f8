-- Of the end of its log a client that serves reports what it was before the event.
use Rattle.std.proofs.Common.{◌≡◌}
use Rattle.client_call.specs.Reads.{reading_in}
use Rattle.client_serving.specs.declared.serving.Serving.{Serving}
use Rattle.client_serving.specs.Sends.{Done}
use Rattle.node_moves.proofs.client_walk.Frames as steps
use Rattle.node_moves.proofs.client_walk.Laws.{Walk, all_read, all_tell}
use Rattle.token_client.specs.Transition as client
use Rattle.xfs_base.specs.declared.segment.End.{End}
use Rattle.node_tellings.proofs.reference_tie.Feeding.{push_all_say, pushes_say}
use Rattle.node_tellings.proofs.reference_tie.Reporting as frames

module _ (told : End) where
  -- of the client nothing is asked
  abbrev pub At : Serving → Type 0
  At s = Unit {0}

  abbrev pub walk : Walk
  walk = record {
    Stands = At;
    Says = frames.Says told;
    Acted = steps.Any;
    Granted = λ block entry. Unit {0};
    Came = λ ask server t. Unit {0};
    Mapped = λ groups. Unit {0};
    Lies = λ target. Unit {0};
    Reading = λ r. Unit {0};
    Landed = λ end rows. Unit {0};
    Owed = λ l log. log.end ≡ told;
    tokens = λ s i fact h. tt;
    tells = λ its i fact. all_tell (λ target. Unit {0}) (λ target. tt) (client.transition its i).outs;
    caches = λ s cache h. tt;
    maps = λ s news fact h. tt;
    managed = λ s managers h. tt;
    lasts = λ s l same h. tt;
    calls = λ s call fact h. tt;
    reads = λ s h. all_read (λ r. Unit {0}) (λ r. tt) (reading_in s.call);
    begun = λ s target group found fact h. tt;
    confirmed = λ r ask known. tt;
    answered = λ r groups ask server t came known. tt;
    acked = λ s slot applied h. tt;
    renewed = λ s slot h. tt;
    rests = λ s i same h. tt;
    landed = λ s f flew owed acted h. tt;
    lands = λ s l rows filed h. tt;
    fed = λ s end rows filed h. tt;
    stores = λ fragment member. tt;
    fetched = λ name ask server. tt;
    wants = λ s block req again mode h. tt;
    gaves = λ s block stamp h. tt;
    supplied = λ f block ver value. (tt, tt);
    asks = λ inc ask. tt;
    reports = λ s slot epoch owed h. owed;
    pushed = λ s slot h. pushes_say told s.managers s.feed slot;
    all_pushed = λ s h. push_all_say told s.managers s.feed;
    answers = λ item a. tt;
    loses = λ name. tt;
    has_read = λ node block ver value. tt;
    wrote = λ node block value. tt;
    synced = λ node. tt;
    files = λ name end rows filed. tt;
  }

  abbrev pub Goes : Done → Type 0
  Goes d = frames.Goes told At d

  -- what goes so by the walk
  pub gone : (d : Done) → steps.Goes (frames.Says told) steps.Any At d → Goes d
  gone d p = steps.gone (frames.Says told) At d p
