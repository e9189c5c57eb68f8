-- What others do leaves an opening as it is seen.
use Rattle.std.proofs.Common.{◌≡◌, ℕ, ◌+◌, ◌≤◌, List, [], ◌∷◌, sym, subst, arith}
use Rattle.std.specs.Prelude.{reverse}
use Rattle.segment_format.specs.declared.segment.Segment.{Segment}
use Rattle.log_scan.specs.declared.listing.Listing.{Listing}
use Rattle.log_scan.specs.declared.opening.Opening.{Opening}
use Rattle.log_scan.specs.declared.stage.Backward.{Backward}
use Rattle.log_scan.specs.declared.stage.Stage.{Stage}
use Rattle.log_scan.specs.declared.stage.Stage.TheVariants.{Hails, Gathers, Asks, Reads, Over}
use Rattle.log_protocol.specs.Phase
use Rattle.log_protocol.specs.State.{State}
use Rattle.log_protocol.specs.Tables.{In}
use Rattle.log_tie.specs.Setting.{Setting, point, present_at}
use Rattle.log_tie.specs.Openings.{Chained, AllFrom}
use Rattle.log_tie.specs.Rounds.{IsGrouped}
use Rattle.log_tie.specs.Scans.{Asked, AllMetas, AllListed, Phantom, Mapped, Gathering, Asking, LooksFor, ReadingShown, StageShown, Opener, opener_of, ByOthers, ScanStays}

module _ (g : Setting) (w u : State) (book : ℕ → Segment) (hellos : List Asked) (by : ByOthers w u) where
  -- what holds of the opener there holds here
  same : (P : Opener → Type 0) → P (opener_of w) → P (opener_of u)
  same P h = subst P (sym by.opener) h

  phase_same : (n : ℕ) → w.phase ≡ n → u.phase ≡ n
  phase_same n h = same (λ o. o.phase ≡ n) h

  phantom_stays : Phantom w → Phantom u
  phantom_stays p = record {
    generation = p.generation;
    listed = p.listed;
    nothing = p.nothing;
    sent = same (λ o. In (record { from = 0; incarnation = o.incarnation; generation = p.generation; low = o.begin_low; listed = p.listed }) u.fenceds)
        (by.fenceds _ p.sent);
  }

  kept_stays : (bound more : ℕ) (ls : List Listing) → bound ≤ more → AllListed g w book bound ls → AllListed g u book more ls
  kept_stays bound more [] up all = tt
  kept_stays bound more (l ∷ ls) up all = (
    record {
      seen = record {
        low = all.0.seen.low;
        listed = all.0.seen.listed;
        sent = same (λ o. In
            (record { from = l.server; incarnation = o.incarnation; generation = l.generation; low = all.0.seen.low; listed = all.0.seen.listed }) u.fenceds)
            (by.fenceds _ all.0.seen.sent);
        lists = all.0.seen.lists;
        whole = same (λ o. AllMetas book o.booked l.held) all.0.seen.whole;
      };
      past = (let a = all.0.past in let b = up in omega arith);
      exists = all.0.exists;
      only = all.0.only;
    },
    kept_stays bound more ls up all.1,
  )

  mapped_stays : (o : Opening) → Mapped g w o.groups → Mapped g u o.groups
  mapped_stays o m = record {
    map = m.map;
    taken = m.taken;
    whole = record {
      seen = record { whole = m.whole.seen.whole; past = λ v. (let a = m.whole.seen.past v in let b = by.registry v in omega arith) };
      size = m.whole.size;
      named = m.whole.named;
      some = m.whole.some;
      cut = m.whole.cut;
    };
    known = same (λ o. (v : ℕ) → o.owner_generation v ≡ present_at m.map v) m.known;
  }

  gathering_stays : (o : Opening) (bound more : ℕ) (ls : List Listing) → bound ≤ more → Gathering g w book o bound ls → Gathering g u book o more ls
  gathering_stays o bound more ls up k =
      record { phase = phase_same Phase.gathering k.phase; phantom = phantom_stays k.phantom; mapped = mapped_stays o k.mapped; kept = kept_stays bound more ls up k.kept }

  chained_stays : (highest x : ℕ) (ts : List Segment) → Chained g w book highest x ts → Chained g u book highest x ts
  chained_stays highest x [] h = same (λ o. x ≡ o.base) h
  chained_stays highest x (t ∷ ts) h = (h.0, same (λ o. o.booked h.0 ≡ 1) h.1, h.2, same (λ o. o.prior_of h.0 ≡ x) h.3, h.4, chained_stays highest h.0 ts h.5)

  reading_stays : (o : Opening) (b : Backward) → ReadingShown g w book o b → ReadingShown g u book o b
  reading_stays o b h = record {
    phase = phase_same Phase.reading h.phase;
    mapped = mapped_stays o h.mapped;
    base = same (λ z. z.base ≡ point g b.start.seq b.start.pass) h.base;
    begun = same (λ z. IsGrouped g book z.booked b.start) h.begun;
    opening = same (λ z. z.opening_seq ≡ b.start.seq + 1) h.opening;
    low = same (λ z. z.read_low ≡ o.low) h.low;
    past = same (λ z. z.pick_low ≤ z.read_low) h.past;
    from = same (λ z. AllFrom z.pick_low (reverse b.chain)) h.from;
    chained = chained_stays _ _ _ h.chained;
    seq = h.seq;
    grouped = same (λ z. IsGrouped g book z.booked b.next) h.grouped;
  }

  asking_stays : (o : Opening) (lists : List Listing) → Asking g w book hellos o lists → Asking g u book hellos o lists
  asking_stays o lists k = record {
    bound = k.bound;
    gathering = gathering_stays o k.bound k.bound lists (omega arith) k.gathering;
    every = k.every;
    past = (let a = k.past in let b = by.low in omega arith);
    begun = same (λ o. o.begin_low ≤ k.bound) k.begun;
    no_older = same (λ z. (a : Asked) → In a hellos → a.inc ≡ z.incarnation → a.ask ≡ o.ask → k.bound ≤ a.low) k.no_older;
  }

  stage_stays : (o : Opening) (stage : Stage) → StageShown g w book hellos o stage → StageShown g u book hellos o stage
  stage_stays o Hails h = (phase_same Phase.gathering h.0, phantom_stays h.1)
  stage_stays o (Gathers lists) h = gathering_stays o w.low u.low lists by.low h
  stage_stays o (Asks lists) h = asking_stays o lists h
  stage_stays o (Reads b r) h = (reading_stays o b h.0, h.1, same (λ z. LooksFor g book z.booked b.next r) h.2)
  stage_stays o Over h = phase_same Phase.reading h

pub scan_stays : ScanStays
scan_stays g w u book hellos s by h = record {
  log = h.log;
  inc = same g w u book hellos by (λ o. s.opening.inc ≡ o.incarnation) h.inc;
  horizon = (let a = h.horizon in let b = by.low in omega arith);
  asked = same g w u book hellos by (λ o. (a : Asked) → In a hellos → a.inc ≡ o.incarnation → a.ask ≤ s.opening.ask) h.asked;
  stage = stage_stays g w u book hellos by s.opening s.stage h.stage;
}
