-- What stays so of epochs from one moment of a run to a later one.
use Rattle.std.specs.Prelude.{◌≡◌, ◌≤◌, ℕ}
use Rattle.world_base.specs.declared.cluster.Cluster.{Cluster}
use Rattle.run_laws.specs.world_law.Standing.{PastAt, Scene, epoch_now, life_of_manager}

-- From one moment to a later one what was given stays given, who was at an epoch in the incarnation in which that was given to it was so, and the cleaner's
-- promise doesn't fall.
module _ (k : Cluster) (part : ℕ) where
  pub record Since (s t : Scene) : Type 0 where
    pub epochs : epoch_now k part s ≤ epoch_now k part t
    pub promises : s.net.promised ≤ t.net.promised
    pub reigns : (j : ℕ) → life_of_manager s j ≤ life_of_manager t j
    pub given : (e : ℕ) → e ≤ epoch_now k part s → (t.lord e ≡ s.lord e) × (t.since e ≡ s.since e)
    pub past : (j life e : ℕ) → PastAt k part (s.manager j).phase life e → PastAt k part (t.manager j).phase life e
