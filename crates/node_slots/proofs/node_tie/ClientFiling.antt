-- What is in flight of a client's log is filed, and its versions are settled. Where logs may lose what they held, the small world knows of no flight: there the
-- segment is sealed and filed at once.
use Rattle.std.proofs.Common.{◌≡◌, ℕ, suc, ◌+◌, ◌<◌, ◌≤◌, Bool, true, false, [], Some, refl, sym, ap, subst, ◌∙◌, arith}
use Rattle.client_log.specs.LogState.{LogState}
use Rattle.client_log.specs.Transition as log
use Rattle.log_flight.specs.Flights.{FlightState}
use Rattle.token_client.specs.State.{TokensState, held_of}
use Rattle.token_law.specs.Books.{Books, row_in, sealed, filed}
use Rattle.token_law.specs.Net.{Net, all_settled}
use Rattle.token_law.specs.Net.Happens.{Seals, Files}
use Rattle.token_law.specs.Net.Runs.{Begun, On}
use Rattle.token_protocol.specs.Basics.{put}
use Rattle.token_protocol.specs.Premises.{Premise}
use Rattle.node_slots.specs.node_tie.ClientLogs.{IsUnsettled}
use Rattle.node_slots.specs.node_tie.LogRows.{rows_told, rows_waiting}
use Rattle.node_slots.proofs.node_tie.ClientBearing.{Bears, IsValued}
use Rattle.node_slots.proofs.node_tie.ClientBooks.{onward_filed, put_here, put_there, said_now, filed_end, filed_beyond, other_sealed, other_filed}
use Rattle.node_slots.proofs.node_tie.ClientFrames as frames
use Rattle.node_slots.proofs.node_tie.ClientFrames.{HasNumbers}
use Rattle.node_slots.proofs.node_tie.ClientFrames.{Sent, Promised, LogStands, grown_still, grown_on}
use Rattle.node_slots.proofs.node_tie.ClientRows.{Rows}
use Rattle.node_slots.proofs.node_tie.ClientSeals.{premise_at, all_settled-sound, all_settled-bears, all_known}
use Rattle.node_slots.proofs.node_tie.ClientUnsettled.{AllUnsettled, rows_settled}
use Rattle.node_slots.proofs.node_tie.SmallWorld.{premise, premise_by, premise_both}

-- the small world goes on to a net in which this segment is in flight
record Ready (logs : Bool) (members part limit c life room highest : ℕ) (n : Net) (t : TokensState) (l : LogState) (number inc : ℕ) (rows : Rows) : Type 0 where
  next : Net
  grown : frames.Grown logs members part c n next []
  stands : frames.Stands logs members part limit c life room highest next t l number inc
  flies : Premise logs (next.books.flying c ≡ true)
  rows_are : next.books.rows c (suc (next.books.end c)) ≡ rows

ready : (logs : Bool) (members part limit c life room highest : ℕ) → 0 < c → c < members
    → (n : Net) (t : TokensState) (l : LogState) (f : FlightState) (number inc : ℕ)
    → frames.Stands logs members part limit c life room highest n t (record l { flight = Some f }) number inc
    → Ready logs members part limit c life room highest n t (record l { flight = Some f }) number inc (rows_told f.segment.items)
ready true members part limit c life room highest pos less n t l f number inc h =
    record { next = n; grown = grown_still true members part c n; stands = h; flies = h.logged.seen.flying; rows_are = h.logged.said }
ready false members part limit c life room highest pos less n t l f number inc h = record {
  next = record n { books = sealed n.books c (rows_told f.segment.items) };
  grown = record {
    runs = On Begun (Seals c (rows_told f.segment.items) pos less h.up tt tt);
    others = λ d other. (refl, refl);
    slots = λ e. refl;
    grows = λ x i. i;
    books = λ d other. other_sealed n.books c (rows_told f.segment.items) d other;
    acts = (grown_still false members part c n).acts;
    own = tt;
  };
  stands = record {
    up = h.up;
    tokens = h.tokens;
    number_is = h.number_is;
    inc_is = h.inc_is;
    sound = h.sound;
    bears = h.bears;
    logged = tt;
    numbers = tt;
  };
  flies = tt;
  rows_are = said_now n.books c (rows_told f.segment.items);
}

module _ (logs : Bool) (members part limit c life room highest : ℕ) (pos : 0 < c) (less : c < members) (n : Net) (t : TokensState) (l : LogState)
    (f : FlightState)
    (number inc : ℕ)
    (h : frames.Stands logs members part limit c life (room + 1) highest n t (record l { flight = Some f }) number inc) where
  abbrev flown : LogState
  flown = record l { flight = Some f }

  abbrev rows : Rows
  rows = rows_told f.segment.items

  abbrev Flies : Type 0
  Flies = Ready logs members part limit c life (room + 1) highest n t flown number inc rows

  -- in that net it is filed
  module _ (r : Flies) where
    abbrev k : Books
    k = r.next.books

    abbrev after_filing : Net
    after_filing = record r.next { tokens = put r.next.tokens c (all_settled (r.next.tokens c) (k.rows c (suc (k.end c)))); books = filed k c }

    tokens_are : after_filing.tokens c ≡ all_settled t rows
    tokens_are =
        put_here r.next.tokens c (all_settled (r.next.tokens c) (k.rows c (suc (k.end c))))
        ∙ ap (λ (u : TokensState). all_settled u (k.rows c (suc (k.end c)))) r.stands.tokens
        ∙ ap (all_settled t) r.rows_are

    valued : Bears (Sent part c r.next.sent) (Promised part limit) (λ b h. IsValued h) life (all_settled t rows)
    valued = all_settled-bears (Sent part c r.next.sent) (Promised part limit) life t rows (record {
      life_is = r.stands.bears.life_is;
      promised = r.stands.bears.promised;
      giving = r.stands.bears.giving;
      held = λ b. (r.stands.bears.held b).0;
    })

    unsettled : Premise logs (AllUnsettled (all_settled t rows) (row_in (rows_waiting l)) (row_in []))
    unsettled = premise_both logs
        (λ (p : AllUnsettled t (row_in (rows_waiting l)) (row_in rows)) (x : LogStands k c flown). rows_settled t (row_in (rows_waiting l)) rows x.flies_once p)
        (all_known logs members part limit c life room highest flown t r.stands.bears.held) r.stands.logged

    logged : Premise logs (LogStands (filed k c) c (log.landed l f))
    logged = premise_by logs (λ (x : LogStands k c flown). record {
      seen = record {
        end = filed_end k c ∙ ap (λ e. suc e) x.seen.end ∙ sym x.seen.flight.0;
        flying = put_here k.flying c false;
        flight = tt;
      };
      said = x.beyond (suc ((filed k c).end c)) (subst (λ e. suc (k.end c) < suc e) (sym (filed_end k c)) (next (k.end c)));
      beyond = filed_beyond k c x.beyond;
      waits_once = x.waits_once;
      flies_once = tt;
      waits_some = x.waits_some;
      flies_some = tt;
    }) r.stands.logged
      where
        next : (e : ℕ) → suc e < suc (suc e)
        next e = omega arith

    numbers : Premise logs (HasNumbers f.segment.name.seq room highest)
    numbers = premise_both logs
        (λ (x : LogStands k c flown) (left : HasNumbers l.end.seq (room + 1) highest).
        record { below = upto f.segment.name.seq l.end.seq x.seen.flight.0 left.below; next = left.next }) r.stands.logged r.stands.numbers
      where
        upto : (seq end : ℕ) → seq ≡ suc end → end + (room + 1) ≤ highest → seq + room ≤ highest
        upto seq end fact low = omega (arith, fact, low)

    files : frames.Passes logs members part limit c life room highest n (all_settled t rows) (log.landed l f) number inc
    files = record {
      next = after_filing;
      grown = grown_on logs members part c n r.next after_filing [] [] r.grown (record {
        runs = On Begun (Files c pos less r.stands.up r.flies);
        others = λ d other. (put_there r.next.tokens c (all_settled (r.next.tokens c) (k.rows c (suc (k.end c)))) d other, refl);
        slots = λ e. refl;
        grows = λ x i. i;
        books = λ d other. other_filed k c d other;
        acts = (grown_still logs members part c r.next).acts;
        own = premise logs (onward_filed k c);
      });
      stands = record {
        up = r.stands.up;
        tokens = tokens_are;
        number_is = r.stands.number_is;
        inc_is = r.stands.inc_is;
        sound = all_settled-sound t rows r.stands.sound;
        bears = record {
          life_is = valued.life_is;
          promised = valued.promised;
          giving = valued.giving;
          held = λ b. (
            valued.held b,
            premise_at logs (λ b. IsUnsettled (held_of (all_settled t rows).blocks b) (row_in (rows_waiting l) b) (row_in [] b)) unsettled b,
          );
        };
        logged = logged;
        numbers = numbers;
      };
    }

  pub filed_passes : frames.Passes logs members part limit c life room highest n (all_settled t rows) (log.landed l f) number inc
  filed_passes = files (ready logs members part limit c life (room + 1) highest pos less n t l f number inc h)
