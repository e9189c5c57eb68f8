-- How the small world of a slot's index goes on, and what that of its tokens tells of who was active there.
use Rattle.std.specs.Prelude.{◌≡◌, ◌≤◌, ◌<◌, ℕ, None, Some}
use Rattle.index_tie.specs.Growth.{IsMore}
use Rattle.index_tie.specs.Net.{Net, Packet as Said}
use Rattle.headline.specs.Indexes.{of_log}
use Rattle.log_protocol.specs.Tables as tables
use Rattle.token_manager.specs.SlotState.{SlotState}
use Rattle.world_base.specs.declared.cluster.Cluster.{Cluster}
use Rattle.run_laws.specs.world_law.Standing as tokens
use Rattle.xfs_base.specs.declared.segment.SegName.{SegName}
use Rattle.xfs_base.specs.Limits.{block_logs}

-- from one moment to a later one the horizon of an epoch rises
abbrev pub Rises : Net → Net → Type 0
Rises n m = (e l : ℕ) → 0 < l → l ≤ block_logs → of_log (n.horizon e) l ≤ of_log (m.horizon e) l

-- One small world may follow another: nothing that is filed, sent, begun or to be deleted is taken back, and horizons rise; those of epochs that have no
-- manager stay.
pub record Grown (n m : Net) : Type 0 where
  pub filed : IsMore n.filed m.filed
  pub stay : (e : ℕ) → m.slots e ≡ None → n.slots e ≡ None
  pub sent : (x : Said) → tables.In x n.sent → tables.In x m.sent
  pub deleted : (name : SegName) → tables.In name n.deleted → tables.In name m.deleted
  pub epoch : n.epoch ≤ m.epoch
  pub from_one : (e l : ℕ) → 0 < l → l ≤ block_logs → 0 < of_log (n.horizon e) l
  pub rises : Rises n m
  pub horizon : (e : ℕ) → n.slots e ≡ None → e ≤ n.epoch → m.horizon e ≡ n.horizon e
  pub parts : (e : ℕ) → n.slots e ≡ None → e ≤ n.epoch → m.parts e ≡ n.parts e

-- who was active at an epoch in the index's small world was so in the incarnation in which that was given to it
abbrev pub Entered : Cluster → ℕ → tokens.Scene → Net → Type 0
Entered k part t n =
    (e : ℕ) (z : SlotState) → n.slots e ≡ Some z
    → (e ≤ tokens.epoch_now k part t) × tokens.PastAt k part (t.manager (t.lord e)).phase (t.since e) e
