-- What only grows, or stays, from one moment of a run to a later one.
use Rattle.std.specs.Prelude.{◌≡◌, ℕ, ◌≤◌}
use Rattle.token_protocol.specs.Basics.{In}
use Rattle.token_protocol.specs.Packets.{Want, Offer, Recall, Gave, Report}
use Rattle.token_protocol.specs.World.{World}

pub record Grows (w v : World) : Type 0 where
  -- The clients are the same.
  pub members : v.members ≡ w.members
  -- Epochs, promises and incarnations only rise.
  pub epoch : w.epoch ≤ v.epoch
  pub promised : (c : ℕ) → (w.client c).promised ≤ (v.client c).promised
  pub incarnation : (c : ℕ) → (w.client c).incarnation ≤ (v.client c).incarnation
  -- What is filed stays filed, with its rows; the join only rises, and the values up to it never change.
  pub end : (c : ℕ) → w.end c ≤ v.end c
  pub rows : (c q : ℕ) → q ≤ w.end c → v.rows c q ≡ w.rows c q
  pub join : w.join_version ≤ v.join_version
  pub value : (n : ℕ) → n ≤ w.join_version → v.value_at n ≡ w.value_at n
  -- What is pinned stays pinned.
  pub pinned : w.pinned ≤ v.pinned
  -- While one manager reigns its turn, what it has applied and its index only rise.
  pub turn : w.epoch ≡ v.epoch → w.turn ≤ v.turn
  pub applied : w.epoch ≡ v.epoch → (c : ℕ) → w.applied c ≤ v.applied c
  pub index : w.epoch ≡ v.epoch → w.index.version ≤ v.index.version
  -- Packets stay sent: wants and reports for ever, the others while their manager reigns.
  pub wants : (p : Want) → In p w.wants → In p v.wants
  pub reports : (y : Report) → In y w.reports → In y v.reports
  pub offers : w.epoch ≡ v.epoch → (g : Offer) → In g w.offers → In g v.offers
  pub recalls : w.epoch ≡ v.epoch → (r : Recall) → In r w.recalls → In r v.recalls
  pub gaves : w.epoch ≡ v.epoch → (x : Gave) → In x w.gaves → In x v.gaves
