-- What others do leaves the owner as it is seen.
use Rattle.std.proofs.Common.{◌≡◌, ℕ, suc, ◌+◌, ◌≤◌, List, [], ◌∷◌, refl, sym, subst, arith, ◌⊎◌, ◌<◌, length}
use Rattle.segment_format.specs.declared.segment.Segment.{Segment}
use Rattle.client_log.specs.LogState.{LogState}
use Rattle.log_protocol.specs.Phase
use Rattle.log_protocol.specs.Packets.{StorePacket, StoredPacket, FragmentPacket, FencedPacket}
use Rattle.log_protocol.specs.State.{State}
use Rattle.log_protocol.specs.Tables.{In}
use Rattle.log_tie.specs.Setting.{Setting, present_at, point}
use Rattle.log_tie.specs.Shelves.{rest}
use Rattle.log_tie.specs.Seen.{Page, Book, Flying, FlightShown, Writes, Serves, Fixed}
use Rattle.log_tie.specs.Openings.{Chained, WritingShown}
use Rattle.log_tie.specs.Rounds.{IsSpelled, IsGrouped}
use Rattle.log_tie.specs.Scans.{Asked, opener_of, ByOthers}
use Rattle.log_law.specs.Net.{Owner}
use Rattle.log_law.specs.Net.Owner.{Down, Opening, Writing, Serving}
use Rattle.log_law.specs.Below.{Below}
use Rattle.log_law.proofs.Views.{Behind, Flown, OwnerShown}
use Rattle.log_law.proofs.Growing.{Later}

-- the log, but for what servers, the registry and the cleaner change: what is left is the owner's, or of the book
abbrev pub seat_of : State → State
seat_of w =
    record (rest w) {
      registry_generation = λ v. 0;
      content_at = λ q c. 0;
      low_when_booked = λ x. 0;
      dropped = λ x. 0;
      feed = λ q. 0;
      feed_base = 0;
      low = 0;
      line_low = 0;
    }

-- Servers, the registry or the cleaner stepped: the owner and the book are as they were, what was sent or dropped stays so, generations and horizons rise.
pub record Apart (w u : State) : Type 0 where
  pub seat : seat_of u ≡ seat_of w
  pub storeds : (p : StoredPacket) → In p w.storeds → In p u.storeds
  pub fragments : (p : FragmentPacket) → In p w.fragments → In p u.fragments
  pub fenceds : (p : FencedPacket) → In p w.fenceds → In p u.fenceds
  pub dropped : (x : ℕ) → w.dropped x ≡ 1 → u.dropped x ≡ 1
  pub registry : (v : ℕ) → w.registry_generation v ≤ u.registry_generation v
  pub low : w.low ≤ u.low

module _ (g : Setting) (w u : State) (book : ℕ → Segment) (by : Apart w u) where
  -- what holds of the seat there holds here
  pub same : (P : State → Type 0) → P (seat_of w) → P (seat_of u)
  same P h = subst P (sym by.seat) h

  pub later_apart : Later w u book book
  later_apart = record {
    booked = same (λ o. (x : ℕ) → w.booked x ≡ 1 → o.booked x ≡ 1) (λ x fact. fact);
    segment = λ x fact. refl;
    stores = same (λ o. (p : StorePacket) → In p w.stores → In p o.stores) (λ p fact. fact);
    storeds = by.storeds;
    fragments = by.fragments;
    fenceds = by.fenceds;
    dropped = by.dropped;
    registry = by.registry;
    incarnation = same (λ o. w.incarnation ≤ o.incarnation) (omega arith);
    low = by.low;
  }

  pub fixed_apart : Fixed g w → Fixed g u
  fixed_apart f = record {
    servers = same (λ o. o.servers ≡ suc g.servers) f.servers;
    seq_of = same (λ o. o.seq_of ≡ g.seq_of) f.seq_of;
    incarnation_of = same (λ o. o.incarnation_of ≡ g.incarnation_of) f.incarnation_of;
    attempt_of = same (λ o. o.attempt_of ≡ g.attempt_of) f.attempt_of;
  }

  pub paged_apart : Book g w book → Book g u book
  paged_apart paged =
      same (λ o. (x : ℕ) → o.booked x ≡ 1
      → Page g x (book x) (o.text_of x) (o.member_count x) (o.member_server x) (o.member_generation x) (o.prior_of x) (o.content_of x)) paged

  pub spelled_apart : IsSpelled g book w.booked → IsSpelled g book u.booked
  spelled_apart s = same (λ o. IsSpelled g book o.booked) s

  pub flown_apart : (flown : List Segment) → Flown w book flown → Flown u book flown
  flown_apart flown f = record {
    all = same (λ o. (x : ℕ) → o.booked x ≡ 1 → In (book x) flown) f.all;
    booked = same (λ o. (s : Segment) → In s flown → (x : ℕ) × (o.booked x ≡ 1) × (s ≡ book x)) f.booked;
  }

  -- ---- the owner

  writes_apart : (s : LogState) → Writes g w s → Writes g u s
  writes_apart s h =
      record {
        log = h.log;
        inc = same (λ o. s.inc ≡ o.incarnation) h.inc;
        some = h.some;
        map = h.map;
        known = same (λ o. (v : ℕ) → o.owner_generation v ≡ present_at s.groups v) h.known;
      }

  behind_apart : (s : LogState) → Behind g w book s → Behind g u book s
  behind_apart s b = record { ran = b.ran; grouped = same (λ o. IsGrouped g book o.booked s.end) b.grouped }

  serves_apart : (s : LogState) → Serves g w book s → Serves g u book s
  serves_apart s h = record {
    writes = writes_apart s h.writes;
    phase = same (λ o. o.phase ≡ Phase.serving) h.phase;
    end = same (λ o. o.end ≡ point g s.end.seq s.end.pass) h.end;
    end_seq = same (λ o. g.seq_of o.end ≡ s.end.seq) h.end_seq;
    flight = same (λ o. FlightShown g book s.flight s.inc s.end.seq (o.booked o.flight) o.flight o.noted) h.flight;
  }

  chained_apart : (highest x : ℕ) (ts : List Segment) → Chained g w book highest x ts → Chained g u book highest x ts
  chained_apart highest x [] h = same (λ o. x ≡ o.base) h
  chained_apart highest x (t ∷ ts) h = (h.0, same (λ o. o.booked h.0 ≡ 1) h.1, h.2, same (λ o. o.prior_of h.0 ≡ x) h.3, h.4, chained_apart highest h.0 ts h.5)

  writing_apart : (chain : List Segment) (s : LogState) → WritingShown g w book chain s → WritingShown g u book chain s
  writing_apart chain s h = record {
    writes = writes_apart s h.writes;
    phase = same (λ o. o.phase ≡ Phase.writing) h.phase;
    clear = h.clear;
    base = same (λ o. o.base ≡ point g s.end.seq s.end.pass) h.base;
    read = record {
      opening = same (λ o. o.opening_seq ≡ s.end.seq + 1) h.read.opening;
      lowest = h.read.lowest;
      picked = same (λ o. o.pick_low ≤ h.read.lowest) h.read.picked;
      cut = same (λ o. h.read.lowest ≤ o.read_low) h.read.cut;
      from = h.read.from;
      next = h.read.next;
      chained = chained_apart _ _ _ h.read.chained;
      bottom = same (λ o. (h.read.next ≡ 0) ⊎ (s.end.seq < o.read_low + length chain)) h.read.bottom;
    };
    flight = h.flight;
    is_flight = h.is_flight;
    flying = same (λ o. Flying g book h.flight s.inc s.end.seq (o.booked o.flight) o.flight o.noted) h.flying;
  }

  by_others : ByOthers w u
  by_others = record { opener = same (λ o. opener_of o ≡ opener_of w) refl; fenceds = by.fenceds; registry = by.registry; low = by.low }

  pub owner_apart : Below → (hellos : List Asked) (o : Owner) → OwnerShown g w book hellos o → OwnerShown g u book hellos o
  owner_apart k hellos Down h = same (λ o. o.phase ≡ Phase.down) h
  owner_apart k hellos (Opening s) h = k.machines.stays g w u book hellos s by_others h
  owner_apart k hellos (Writing chain s) h = (writing_apart chain s h.0, behind_apart s h.1)
  owner_apart k hellos (Serving s) h = (serves_apart s h.0, behind_apart s h.1)
