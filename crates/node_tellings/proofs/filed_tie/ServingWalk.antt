-- What a client that serves holds, and tells managers, of its log was filed.
use Rattle.std.proofs.Common.{◌≡◌, ◌≤◌, ℕ, ◌∙◌, subst, sym}
use Rattle.client_call.specs.Reads.{reading_in}
use Rattle.client_log.specs.Transition.{end_of}
use Rattle.client_serving.specs.declared.serving.Serving.{Serving}
use Rattle.client_serving.specs.Sends.{Done}
use Rattle.node_moves.proofs.client_walk.Laws.{Walk, all_read, all_tell}
use Rattle.token_client.specs.Transition as client
use Rattle.xfs_base.specs.declared.node.NodeId.TheVariants.{Client}
use Rattle.node_tellings.specs.filed_tie.Reach.{Reach}
use Rattle.node_tellings.proofs.filed_tie.Feeds.{acknowledged_end, push_all_say, pushes_say, renewed_end, settled_end}
use Rattle.node_tellings.proofs.filed_tie.Frames as frames

module _ (reach : Reach) (c : ℕ) where
  -- one of this number, with its log's and its feed's end
  pub record Stands (number highest fed : ℕ) : Type 0 where
    pub own : number ≡ c
    pub end : highest ≤ reach c
    pub feed : fed ≤ reach c

  abbrev pub At : Serving → Type 0
  At s = Stands s.lasting.number s.log.end.seq s.feed.end

  -- a segment that its log settles is acted to be filed; of grants and readings nothing is asked
  abbrev pub walk : Walk
  walk = record {
    Stands = At;
    Says = frames.Says reach (Client c);
    Acted = frames.Reached reach (Client c);
    Granted = λ block entry. Unit {0};
    Came = λ ask server t. Unit {0};
    Mapped = λ groups. Unit {0};
    Lies = λ target. Unit {0};
    Reading = λ r. Unit {0};
    Landed = λ end rows. end.seq ≤ reach c;
    Owed = λ l log. Unit {0};
    tokens = λ s i fact h. h;
    tells = λ its i fact. all_tell (λ target. Unit {0}) (λ target. tt) (client.transition its i).outs;
    caches = λ s cache h. h;
    maps = λ s news fact h. h;
    managed = λ s managers h. h;
    lasts = λ s l same h. record { own = same ∙ h.own; end = h.end; feed = h.feed };
    calls = λ s call fact h. h;
    reads = λ s h. all_read (λ r. Unit {0}) (λ r. tt) (reading_in s.call);
    begun = λ s target group found fact h. tt;
    confirmed = λ r ask known. tt;
    answered = λ r groups ask server t came known. tt;
    acked = λ s slot applied h. record { own = h.own; end = h.end; feed = acknowledged_end (reach c) s.feed slot applied h.feed };
    renewed = λ s slot h. record { own = h.own; end = h.end; feed = renewed_end (reach c) s.feed slot h.feed };
    rests = λ s i same h. record { own = h.own; end = subst (λ e. e.seq ≤ reach c) (sym same) h.end; feed = h.feed };
    landed = λ s f flew owed acted h. subst (λ k. (end_of f.segment).seq ≤ reach k) h.own acted;
    lands = λ s l rows filed h. record { own = h.own; end = filed; feed = h.feed };
    fed = λ s end rows filed h. record { own = h.own; end = h.end; feed = settled_end (reach c) s.feed end.seq rows h.feed filed };
    stores = λ fragment member. tt;
    fetched = λ name ask server. tt;
    wants = λ s block req again mode h. tt;
    gaves = λ s block stamp h. tt;
    supplied = λ f block ver value. (tt, tt);
    asks = λ inc ask. tt;
    reports = λ s slot epoch owed h. h.end;
    pushed = λ s slot h. pushes_say reach (Client c) s.managers s.feed h.feed slot;
    all_pushed = λ s h. push_all_say reach (Client c) s.managers s.feed h.feed;
    answers = λ item a. tt;
    loses = λ name. tt;
    has_read = λ node block ver value. tt;
    wrote = λ node block value. tt;
    synced = λ node. tt;
    files = λ name end rows filed. tt;
  }

  abbrev pub Goes : Done → Type 0
  Goes d = frames.Goes reach (Client c) At d
