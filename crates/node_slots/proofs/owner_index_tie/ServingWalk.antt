-- A client that serves stands so, with what is filed, as long as nothing is: all but what its log settles is walked at once.
use Rattle.std.proofs.Common.{ℕ, ◌≤◌, ◌<◌, subst, sym}
use Rattle.client_call.specs.Reads.{reading_in}
use Rattle.client_log.specs.Transition as log
use Rattle.client_serving.specs.declared.serving.Serving.{Serving}
use Rattle.client_serving.specs.Sends.{Done}
use Rattle.node_moves.proofs.client_walk.Frames as steps
use Rattle.node_moves.proofs.client_walk.Laws.{Walk, all_read, all_tell}
use Rattle.token_client.specs.Transition as client
use Rattle.headline.specs.Filed.{Filed}
use Rattle.index_tie.specs.Net.{Net}
use Rattle.xfs_base.specs.Limits.{block_logs}
use Rattle.node_slots.proofs.owner_index_tie.Frames as frames
use Rattle.node_slots.proofs.owner_index_tie.Standing.{Stands, acked, end_told, push_all_plain, pushes_plain, renewed, rested}
use Rattle.node_slots.proofs.owner_index_tie.Turns.{log_turns}

module _ (part : ℕ) (n : Net) (l since : ℕ) (some : 0 < l) (limit : l ≤ block_logs) (f : Filed) where
  abbrev pub At : Serving → Type 0
  At s = Stands part n l since f s.lasting.number s.log s.feed

  -- of its log nothing is known before the event, so that it settles nothing
  abbrev pub walk : Walk
  walk = record {
    Stands = At;
    Says = frames.Plain part n l since f;
    Acted = steps.Any;
    Granted = λ block entry. Unit {0};
    Came = λ ask server t. Unit {0};
    Mapped = λ groups. Unit {0};
    Lies = λ target. Unit {0};
    Reading = λ r. Unit {0};
    Landed = λ end rows. ⊥;
    Owed = λ lasting its. ⊥;
    tokens = λ s i fact h. h;
    tells = λ its i fact. all_tell (λ target. Unit {0}) (λ target. tt) (client.transition its i).outs;
    caches = λ s cache h. h;
    maps = λ s news fact h. h;
    managed = λ s managers h. h;
    lasts = λ s lasting same h. subst (λ k. Stands part n l since f k s.log s.feed) (sym same) h;
    calls = λ s call fact h. h;
    reads = λ s h. all_read (λ r. Unit {0}) (λ r. tt) (reading_in s.call);
    begun = λ s target group found fact h. tt;
    confirmed = λ r ask known. tt;
    answered = λ r groups ask server t came known. tt;
    acked = λ s slot applied h. acked part n l since f s.lasting.number s.log s.feed slot applied h;
    renewed = λ s slot h. renewed part n l since f s.lasting.number s.log s.feed slot h;
    rests = λ s i same h. rested part n l since f s.lasting.number s.log (log.transition s.log i).state s.feed h (log_turns l s.log h.seen.log i).next same;
    landed = λ s flight flew owed acted h. absurd owed;
    lands = λ s its rows filed h. absurd filed;
    fed = λ s end rows filed h. absurd filed;
    stores = λ fragment member. tt;
    fetched = λ name ask server. tt;
    wants = λ s block req again mode h. end_told part n l since f s.lasting.number s.log s.feed h;
    gaves = λ s block stamp h. end_told part n l since f s.lasting.number s.log s.feed h;
    supplied = λ w block ver value. (tt, tt);
    asks = λ inc ask. tt;
    reports = λ s slot epoch owed h. absurd owed;
    pushed = λ s slot h. pushes_plain part n l since f some limit s.managers s.feed h.seen.feed slot;
    all_pushed = λ s h. push_all_plain part n l since f some limit s.managers s.feed h.seen.feed;
    answers = λ item a. tt;
    loses = λ name. tt;
    has_read = λ node block ver value. tt;
    wrote = λ node block value. tt;
    synced = λ node. tt;
    files = λ name end rows filed. absurd filed;
  }

  abbrev pub Goes : Done → Type 0
  Goes d = frames.Quiet part n l since f At d

  -- what goes so by the walk
  pub quiet : (d : Done) → steps.Goes (frames.Plain part n l since f) steps.Any At d → Goes d
  quiet d p = (let both = steps.gone (frames.Plain part n l since f) At d p in record { stands = both.0; plain = both.1 })
