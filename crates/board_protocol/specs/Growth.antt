-- What only grows, or stays, from one moment of a run to a later one.
use Rattle.std.specs.Prelude.{◌≡◌, ℕ, ◌<◌, ◌≤◌}
use Rattle.board_protocol.specs.Basics.{In, Prefix}
use Rattle.board_protocol.specs.Packets.{Prepare, Promised, Install, Append, Accepted}
use Rattle.board_protocol.specs.World.{World}

module _ {C : Type 0} where
  pub record Grows (w v : World C) : Type 0 where
    pub owner : (b : ℕ) → v.owner b ≡ w.owner b
    -- Promises, ballots and accepted lengths only rise.
    pub promised : (k : ℕ) → (w.board k).promised ≤ (v.board k).promised
    pub ballot : (k : ℕ) → (w.board k).ballot ≤ (v.board k).ballot
    pub accepted : (k b : ℕ) → w.accepted k b ≤ v.accepted k b
    -- A board accepts nothing more with a ballot below its promise.
    pub frozen : (k b : ℕ) → b < (w.board k).promised → v.accepted k b ≡ w.accepted k b
    -- A ballot that had a leader keeps its list, which only grows.
    pub led : (b : ℕ) → w.led b ≡ 1 → v.led b ≡ 1
    pub base : (b : ℕ) → w.led b ≡ 1 → v.base b ≡ w.base b
    pub book : (b : ℕ) → w.led b ≡ 1 → Prefix (w.book b) (v.book b)
    -- What was applied stays so.
    pub applied : (k : ℕ) → Prefix (w.board k).applied (v.board k).applied
    -- Packets stay sent.
    pub prepares : (p : Prepare) → In p w.prepares → In p v.prepares
    pub promises : (p : Promised C) → In p w.promises → In p v.promises
    pub installs : (p : Install C) → In p w.installs → In p v.installs
    pub appends : (p : Append C) → In p w.appends → In p v.appends
    pub accepts : (p : Accepted) → In p w.accepts → In p v.accepts
