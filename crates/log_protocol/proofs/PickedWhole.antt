-- What the kept lists say of the picked segment: it was booked by an earlier boot, and where no original member lacks it, it is whole.
use Rattle.std.proofs.Common.{◌≡◌, ℕ, ◌<◌, ◌≤◌, ◌⊎◌, inl, inr, sym, subst, arith}
use Rattle.log_protocol.specs.Packets.{FencedPacket}
use Rattle.log_protocol.specs.State.{State}
use Rattle.log_protocol.specs.OpeningSteps.{Gathered, Picked, CanPickKept}
use Rattle.log_protocol.proofs.Generations.{Generations}
use Rattle.log_protocol.proofs.Boots.{Boots}
use Rattle.log_protocol.proofs.Texts.{Texts}
use Rattle.log_protocol.proofs.Lists.{Lists}

pub picked_booked : (w : State) (list_of : ℕ → FencedPacket) (low x : ℕ) → Gathered w list_of low → Picked w list_of low x → Lists w → w.booked x ≡ 1
picked_booked w list_of low x gathered picked lists =
    let v = picked.listed.0 in
    let known = picked.listed.1 in
    lists.listed_booked (list_of v) x (gathered.sent v known) picked.listed.2

pub picked_whole : (w : State) (list_of : ℕ → FencedPacket) (low x : ℕ) → CanPickKept w list_of low x → Generations w → Boots w → Texts w → Lists w → (j : ℕ)
    → j < w.member_count x → w.dropped x ≡ 0 → w.holds (w.member_server x j) x ≡ 0 → w.member_generation x j < w.generation (w.member_server x j)
picked_whole w list_of low x can generations boots texts lists j member kept lacks =
    let v = w.member_server x j in
    let booked = picked_booked w list_of low x can.gathered can.picked lists in
    let known : v < w.servers = texts.server_known x j booked member in
    let gathering = can.gathering in
    let old = boots.no_name_yet x (omega arith) (omega arith) booked in
    let boot = can.gathered.boot v known in
    let from = can.gathered.from v known in
    let sent = can.gathered.sent v known in
    let group = lists.older_known (list_of v) x j sent booked (omega arith) member (sym from) in
    let reached : (list_of v).generation ≤ w.generation v =
    subst (λ z. (list_of v).generation ≤ w.generation z) from (generations.fenced_known (list_of v) sent) in
    let held = subst (λ z. (list_of v).listed x ≡ 1 → w.dropped x ≡ 0 → w.holds z x ≡ 0 → (list_of v).generation < w.generation z) from
    (lists.listed_held (list_of v) x sent) in
    later (can.whole j (omega arith)) held group reached
  where
    later : ((list_of (w.member_server x j)).listed x ≡ 1) ⊎ ((list_of (w.member_server x j)).generation ≡ w.member_generation x j → ⊥)
        → ((list_of (w.member_server x j)).listed x ≡ 1 → w.dropped x ≡ 0 → w.holds (w.member_server x j) x ≡ 0
        → (list_of (w.member_server x j)).generation < w.generation (w.member_server x j))
        → w.member_generation x j ≤ (list_of (w.member_server x j)).generation → (list_of (w.member_server x j)).generation ≤ w.generation (w.member_server x j)
        → w.member_generation x j < w.generation (w.member_server x j)
    later (inl listed) held group reached = let a = held listed kept lacks in omega arith
    later (inr other) held group reached = omega arith
