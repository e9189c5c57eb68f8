-- How an owner that restarts opens its log again: lists from every server, the pick, reading back, the opening segment, serving.
-- For each step its guard and, below it, its effect; a guard's lines name the transition that makes them true.
use Rattle.std.specs.Prelude.{◌≡◌, ℕ, suc, ◌-◌, ◌<◌, ◌≤◌, ◌==◌, nat_lt, if◌then◌else◌, ◌⊎◌}
use Rattle.log_protocol.specs.Phase
use Rattle.log_protocol.specs.Tables.{In}
use Rattle.log_protocol.specs.Packets.{FencedPacket}
use Rattle.log_protocol.specs.State.{State}
use Rattle.log_protocol.specs.OwnerSteps.{Group, Settled, books, lacking}

-- Begin: a restart in the next boot, gathering lists. A span begins here unless one stands.
pub record CanBegin (w : State) : Type 0 where
  -- a restart is taken by a node that is down
  pub down : w.phase ≡ Phase.down

abbrev pub begins : State → State
begins w =
    record w {
      phase = Phase.gathering;
      incarnation = suc w.incarnation;
      begin_low = w.low;
      span_low = if w.spanning == 0 then w.low else w.span_low;
      hurt = λ i. if w.spanning == 0 then lacking w (w.line w.head) i else w.hurt i;
    }

-- What the owner has gathered: the first Fenced of this boot from each server, and then a Welcome with the horizon `low`.
pub record Gathered (w : State) (list_of : ℕ → FencedPacket) (low : ℕ) : Type 0 where
  -- the opening waits for a Fenced of its own boot from every server
  pub sent : (v : ℕ) → v < w.servers → In (list_of v) w.fenceds
  pub from : (v : ℕ) → v < w.servers → (list_of v).from ≡ v
  pub boot : (v : ℕ) → v < w.servers → (list_of v).incarnation ≡ w.incarnation
  -- the Hello of the Welcome that counts goes out after the last Fenced came, so its horizon is no older than any list
  pub no_older : (v : ℕ) → v < w.servers → (list_of v).low ≤ low
  -- and so no older than the Begin
  pub begun : w.begin_low ≤ low
  pub known : low ≤ w.low

-- The pick: of the listed names that aren't below the horizon, the greatest by incarnation, then seq, then attempt.
pub record Picked (w : State) (list_of : ℕ → FencedPacket) (low x : ℕ) : Type 0 where
  pub listed : (v : ℕ) × (v < w.servers) × ((list_of v).listed x ≡ 1)
  pub above : low ≤ w.seq_of x
  pub newest_boot : (v y : ℕ) → v < w.servers → (list_of v).listed y ≡ 1 → low ≤ w.seq_of y → w.incarnation_of y ≤ w.incarnation_of x
  pub longest : (v y : ℕ) → v < w.servers → (list_of v).listed y ≡ 1 → low ≤ w.seq_of y → w.incarnation_of y ≡ w.incarnation_of x → w.seq_of y ≤ w.seq_of x
  pub last_attempt : (v y : ℕ) → v < w.servers → (list_of v).listed y ≡ 1 → low ≤ w.seq_of y → w.incarnation_of y ≡ w.incarnation_of x → w.seq_of y ≡ w.seq_of x
      → w.attempt_of y ≤ w.attempt_of x

-- Pick none: no listed name is at or above the horizon; the opening segment has that seq and no prior.
pub record CanPickNone (w : State) (list_of : ℕ → FencedPacket) (low : ℕ) : Type 0 where
  -- picking comes when the opening has gathered
  pub gathering : w.phase ≡ Phase.gathering
  pub gathered : Gathered w list_of low
  -- the pick over the kept lists found nothing
  pub nothing : (v y : ℕ) → v < w.servers → (list_of v).listed y ≡ 1 → w.seq_of y < low

abbrev pub picks_none : State → ℕ → State
picks_none w low = record w { phase = Phase.reading; base = 0; opening_seq = low; read_low = low; pick_low = low }

-- Pick and keep: no original member of the picked name lacks it; the log is opened after it.
pub record CanPickKept (w : State) (list_of : ℕ → FencedPacket) (low x : ℕ) : Type 0 where
  -- picking comes when the opening has gathered
  pub gathering : w.phase ≡ Phase.gathering
  pub gathered : Gathered w list_of low
  -- the pick over the kept lists
  pub picked : Picked w list_of low x
  -- each member listed it, or is no longer of the generation that the group names
  pub whole : (j : ℕ) → j < w.member_count x
      → ((list_of (w.member_server x j)).listed x ≡ 1) ⊎ ((list_of (w.member_server x j)).generation ≡ w.member_generation x j → ⊥)

abbrev pub picks_kept : State → ℕ → ℕ → State
picks_kept w low x =
    record w { phase = Phase.reading; base = x; opening_seq = suc (w.seq_of x); read_low = low; pick_low = low; secured = λ y i. if y == x then 1 else w.secured y i }

-- Pick and discard: an original member of the picked name lacks it; the log is opened in its place, after its prior.
pub record CanPickPrior (w : State) (list_of : ℕ → FencedPacket) (low x i : ℕ) : Type 0 where
  -- picking comes when the opening has gathered
  pub gathering : w.phase ≡ Phase.gathering
  pub gathered : Gathered w list_of low
  -- the pick over the kept lists
  pub picked : Picked w list_of low x
  -- a member of the generation that the group names didn't list it
  pub member : i < w.member_count x
  pub lacks : (list_of (w.member_server x i)).listed x ≡ 0
  pub original : (list_of (w.member_server x i)).generation ≡ w.member_generation x i

abbrev pub picks_prior : State → ℕ → ℕ → State
picks_prior w low x = record w { phase = Phase.reading; base = w.prior_of x; opening_seq = w.seq_of x; read_low = low; pick_low = low }

-- Cut: a later Welcome of the same opening brings a greater horizon, and reading back ends there.
pub record CanCut (w : State) (low : ℕ) : Type 0 where
  -- the registry's horizons never fall
  pub rises : w.read_low ≤ low
  pub known : low ≤ w.low

abbrev pub cuts : State → ℕ → State
cuts w low = record w { read_low = low }

-- Open: the opening segment is written, with nothing in it, after the base.
pub record CanOpen (w : State) (x count : ℕ) (server : ℕ → ℕ) : Type 0 where
  -- it is written when all was read back
  pub reading : w.phase ≡ Phase.reading
  -- its name: the opening's seq, this boot, the first attempt
  pub named : 0 < x
  pub next : w.seq_of x ≡ w.opening_seq
  pub own : w.incarnation_of x ≡ w.incarnation
  -- `choose` gives distinct servers of the map
  pub group : Group w count server

abbrev pub opens : State → ℕ → ℕ → ℕ → (ℕ → ℕ) → State
opens w x text count server = record (books w x text count server w.base 0) { phase = Phase.writing; spanning = 1 }

-- What an opening read back, by seq: the base, and below each name its prior, down to the seq `lowest`.
pub record ReadBack (w : State) (path : ℕ → ℕ) (lowest : ℕ) : Type 0 where
  -- nothing below the horizon of the pick is read
  pub picked : w.pick_low ≤ lowest
  -- and all that isn't below the horizon that was taken last; what was read before a cut stays read
  pub cut : lowest ≤ w.read_low
  pub last : (q : ℕ) → lowest ≤ q → suc q ≡ w.opening_seq → path q ≡ w.base
  pub back : (q : ℕ) → lowest ≤ q → suc q < w.opening_seq → path q ≡ w.prior_of (path (suc q))

-- The premise on losses: of the newest filed segment, unless the horizon passed it before the span, some member never lacked its fragment since the span began.
abbrev pub Undoubted : State → Type 0
Undoubted w = 0 < w.head → w.span_low ≤ w.head → (i : ℕ) × (i < w.member_count (w.line w.head)) × (w.hurt i ≡ 0)

-- Serve: the opening segment has settled; it and all that was read back are filed, and the owner serves. `sure` is 1 where the premise on losses holds.
pub record CanServe (w : State) (path : ℕ → ℕ) (lowest sure : ℕ) : Type 0 where
  -- settling looked at an opening segment
  pub writing : w.phase ≡ Phase.writing
  pub settled : Settled w
  -- this restart isn't doubtful
  pub undoubted : sure ≡ 1 → w.pick_low ≤ w.head → Undoubted w
  -- reading back went by the priors
  pub read : ReadBack w path lowest

abbrev pub serves : State → (ℕ → ℕ) → ℕ → ℕ → State
serves w path lowest sure =
    record w {
      clean = if sure == 1 then w.clean else 0;
      secured = λ x i. if x == w.flight then 1 else w.secured x i;
      filed = λ x. if x == w.flight then 1 else if nat_lt (w.seq_of x) lowest then w.filed x else if nat_lt (w.seq_of x) w.opening_seq then
          (if path (w.seq_of x) == x then 1 else w.filed x) else w.filed x;
      line = λ q. if q == w.opening_seq then w.flight else if nat_lt w.head q then path q else w.line q;
      head = w.opening_seq;
      served = w.incarnation;
      phase = Phase.serving;
      end = w.flight;
      flight = 0;
      spanning = 0;
      feed = λ q. if q == w.opening_seq then w.flight else path q;
      feed_base = w.read_low - 1;
      line_low = w.read_low;
      hurt = lacking w w.flight;
    }
