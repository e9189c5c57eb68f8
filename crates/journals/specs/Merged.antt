-- What was merged so far, and the world that it makes with the nodes.
use Rattle.std.specs.Prelude.{ℕ, List, [], ◌∷◌, ◌++◌, replicate, slice_set}
use Rattle.world_base.specs.declared.cluster.Cluster.{Cluster}
use Rattle.world_base.specs.declared.world.World.{World}
use Rattle.world_base.specs.Cluster.{node_at, node_count}
use Rattle.world_base.specs.Events.{event_of}
use Rattle.journals.specs.declared.merged.Merged.{Merged}
use Rattle.journals.specs.declared.moment.Moment.{Moment}

-- before the first moment
abbrev pub none_merged : Cluster → Merged
none_merged cluster = record { cluster = cluster; clocks = replicate (node_count cluster) 0; sent = []; acts = []; events = [] }

-- with one moment more, of the node at a place
abbrev pub merged_add : Merged → ℕ → Moment → Merged
merged_add t place m = record {
  cluster = t.cluster;
  clocks = slice_set t.clocks place m.clock;
  sent = t.sent ++ m.packets;
  acts = t.acts ++ m.acts;
  events = t.events ++ event_of (node_at t.cluster place) m.what ∷ [];
}

-- the world in which all this happened, with these nodes
abbrev pub into_world : {N : Type 0} → Merged → List N → World N
into_world t nodes = record { cluster = t.cluster; nodes = nodes; clocks = t.clocks; sent = t.sent; acts = t.acts }
