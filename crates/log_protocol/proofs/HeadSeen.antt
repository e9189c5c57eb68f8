-- The newest filed segment in the lists of an opening: where it isn't below the horizon that was taken, some list names it, and it is never the one
-- that is discarded.
use Rattle.std.proofs.Common.{◌≡◌, ℕ, ◌<◌, ◌≤◌, sym, subst, arith}
use Rattle.log_protocol.specs.Phase
use Rattle.log_protocol.specs.Packets.{FencedPacket}
use Rattle.log_protocol.specs.State.{State}
use Rattle.log_protocol.specs.OpeningSteps.{Gathered, Picked, Undoubted, CanPickNone, CanPickPrior}
use Rattle.log_protocol.proofs.ShelfInvariant.{ShelfInvariant}
use Rattle.log_protocol.proofs.PickedWhole.{picked_booked}
use Rattle.log_protocol.proofs.Line.{Line}
use Rattle.log_protocol.proofs.Spans.{Spans}

-- a horizon that was gathered is no older than the span, and at least 1
pub record Late (w : State) (low : ℕ) : Type 0 where
  pub some : 0 < low
  pub span : w.span_low ≤ low

pub late : (w : State) (list_of : ℕ → FencedPacket) (low : ℕ) → Gathered w list_of low → ShelfInvariant w → Late w low
late w list_of low gathered shelf =
    let a = gathered.begun in
    record { some = let b = shelf.horizons.begin_some in omega arith; span = let b = shelf.horizons.span_before in omega arith }

-- the head in a list
pub record HeadListed (w : State) (list_of : ℕ → FencedPacket) : Type 0 where
  pub server : ℕ
  pub known : server < w.servers
  pub listed : (list_of server).listed (w.line w.head) ≡ 1

-- of an undoubted head that isn't below the horizon, some member's list names it
pub head_seen : (w : State) (list_of : ℕ → FencedPacket) (low : ℕ) → w.phase ≡ Phase.gathering → Gathered w list_of low → ShelfInvariant w → Line w → Spans w → Undoubted w
    → low ≤ w.head → HeadListed w list_of
head_seen w list_of low gathering gathered shelf line spans sure above =
    let t = late w list_of low gathered shelf in
    let pos : 0 < w.head = (let a = t.some in omega arith) in
    let witness = sure pos (let a = t.span in omega arith) in
    let j = witness.0 in
    let member = witness.1 in
    let unhurt = witness.2 in
    let x = w.line w.head in
    let v = w.member_server x j in
    let known : v < w.servers = shelf.texts.server_known x j (shelf.filed.filed_booked x (line.line_filed w.head pos (omega arith))) member in
    let sent = gathered.sent v known in
    let opening = shelf.boots.not_yet_served (omega arith) (omega arith) in
    let lists_low = gathered.no_older v known in
    let lacks = spans.unlisted_hurt (list_of v) j sent (gathered.boot v known) opening pos (omega arith) member (sym (gathered.from v known)) in
    record { server = v; known = known; listed = grind (arith, lacks, unhurt, shelf.lists.list_flag (list_of v) x sent) }

-- so lists that name nothing at or above the horizon leave no head there
pub no_head : (w : State) (list_of : ℕ → FencedPacket) (low : ℕ) → CanPickNone w list_of low → ShelfInvariant w → Line w → Spans w → Undoubted w → low ≤ w.head
    → ⊥
no_head w list_of low can shelf line spans sure above =
    let seen = head_seen w list_of low can.gathering can.gathered shelf line spans sure above in
    let a = can.nothing seen.server (w.line w.head) seen.known seen.listed in
    let e = line.head_seq in
    omega arith

-- the picked segment against the head
pub record NotBefore (w : State) (low x : ℕ) : Type 0 where
  pub boot : low ≤ w.head → w.served ≤ w.incarnation_of x
  pub seq : low ≤ w.head → w.incarnation_of x ≡ w.served → w.head ≤ w.seq_of x
  pub same : low ≤ w.head → w.incarnation_of x ≡ w.served → w.seq_of x ≡ w.head → x ≡ w.line w.head

pub picked_not_before : (w : State) (list_of : ℕ → FencedPacket) (low x : ℕ) → w.phase ≡ Phase.gathering → Gathered w list_of low → Picked w list_of low x → ShelfInvariant w
    → Line w → Spans w → Undoubted w → NotBefore w low x
picked_not_before w list_of low x gathering gathered picked shelf line spans sure = record {
  boot = λ above.
      let s = seen above in
      let e = line.head_seq in
      let b = line.head_boot (some above) in
      let a = picked.newest_boot s.server (w.line w.head) s.known s.listed (omega arith) in
      omega arith;
  seq = λ above of_served.
      let s = seen above in
      let e = line.head_seq in
      let b = line.head_boot (some above) in
      let a = picked.longest s.server (w.line w.head) s.known s.listed (omega arith) (omega arith) in
      omega arith;
  same = λ above of_served at_head.
      let s = seen above in
      let e = line.head_seq in
      let b = line.head_boot (some above) in
      let a = picked.last_attempt s.server (w.line w.head) s.known s.listed (omega arith) (omega arith) (omega arith) in
      let d = line.head_attempt x (picked_booked w list_of low x gathered picked shelf.lists) of_served at_head in
      shelf.names.apart x (w.line w.head) (omega arith) (omega arith) (omega arith);
}
  where
    seen : low ≤ w.head → HeadListed w list_of
    seen above = head_seen w list_of low gathering gathered shelf line spans sure above

    some : low ≤ w.head → 0 < w.head
    some above = let a = (late w list_of low gathered shelf).some in omega arith

-- a member of the head whose list lacks it is of a later generation
pub head_kept : (w : State) (list_of : ℕ → FencedPacket) (low j : ℕ) → w.phase ≡ Phase.gathering → Gathered w list_of low → ShelfInvariant w → Line w → Spans w → low ≤ w.head
    → j < w.member_count (w.line w.head) → (list_of (w.member_server (w.line w.head) j)).listed (w.line w.head) ≡ 0
    → w.member_generation (w.line w.head) j < (list_of (w.member_server (w.line w.head) j)).generation
head_kept w list_of low j gathering gathered shelf line spans above member lacks =
    let x = w.line w.head in
    let v = w.member_server x j in
    let pos : 0 < w.head = (let a = (late w list_of low gathered shelf).some in omega arith) in
    let known : v < w.servers = shelf.texts.server_known x j (shelf.filed.filed_booked x (line.line_filed w.head pos (omega arith))) member in
    spans.unlisted_later (list_of v) j (gathered.sent v known) (gathered.boot v known) (shelf.boots.not_yet_served (omega arith) (omega arith)) pos
    (let a = gathered.no_older v known in omega arith) member (sym (gathered.from v known)) lacks

-- so what is discarded isn't the head
pub not_head : (w : State) (list_of : ℕ → FencedPacket) (low x j : ℕ) → CanPickPrior w list_of low x j → ShelfInvariant w → Line w → Spans w → low ≤ w.head
    → x ≡ w.line w.head → ⊥
not_head w list_of low x j can shelf line spans above e =
    subst (λ y. j < w.member_count y → (list_of (w.member_server y j)).listed y ≡ 0 → (list_of (w.member_server y j)).generation ≡ w.member_generation y j → ⊥)
    (sym e) (λ a b d. let k = head_kept w list_of low j can.gathering can.gathered shelf line spans above a b in omega arith) can.member can.lacks can.original
