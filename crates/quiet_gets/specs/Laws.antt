-- Gets of blocks that aren't held: of those that nobody else is believed to hold, and of those of which others have copies, and which nobody owns.
use Rattle.std.specs.Prelude.{◌≡◌, ◌<◌, ◌+◌, ◌⊎◌, ℕ, true, List, [], ◌∷◌}
use Rattle.core_world.specs.declared.any_node.AnyNode.{AnyNode}
use Rattle.node_base.specs.Setups.{IsSetup}
use Rattle.slot_beliefs.specs.Beliefs.{others}
use Rattle.token_client.specs.State.{held_of}
use Rattle.version_model.specs.declared.work.Work.{Work}
use Rattle.version_model.specs.declared.work.Work.TheVariants as work
use Rattle.xfs_base.specs.Blocks.{slot_of}
use Rattle.xfs_base.specs.declared.block.BlockId.{BlockId}
use Rattle.xfs_base.specs.declared.node.NodeId.{NodeId}
use Rattle.xfs_base.specs.declared.setup.Setup.{Setup}
use Rattle.xfs_base.specs.Modes.{is_nothing}
use Rattle.quiet_flow.specs.Flow.{Stage}
use Rattle.quiet_gets.specs.Passing.{AreInOrder}
use Rattle.quiet_law.specs.Drained.{Drained, most_steps}
use Rattle.quiet_law.specs.Lines.{Ends, EndsAfterRound, IsNext, Stands, fetching, holders}
use Rattle.quiet_nodes.specs.Scene.{Scene}

-- From a drained state a get of a block that nobody else is believed to hold takes a Want and a Grant, and where the block lies in a log a Fetch and a Fragment for
-- each member of its segment's group. The state then is drained.
abbrev pub LonelyGetsAreAnswered : Type 0
LonelyGetsAreAnswered =
    (setup : Setup) (works : NodeId → List Work) → IsSetup setup
    → (k : ℕ) (s : Scene) (t : Stage AnyNode) (c : ℕ) (b : BlockId) → k < most_steps → Drained setup works k s → Stands setup works s t
    → IsNext setup works s c (work.Bget c b) → is_nothing (held_of (s.client c).blocks b).mode ≡ true → holders setup works s c b ≡ []
    → Ends setup works k (2 + fetching setup works s b) s t c ((s.client c).begun + 1)

-- how many nodes there are but for the registry
abbrev pub told_nodes : Setup → ℕ
told_nodes setup = setup.clients + (setup.managers + (setup.servers + 1))

-- the other clients that are believed to own a block
abbrev pub owners : Setup → (NodeId → List Work) → Scene → ℕ → BlockId → List ℕ
owners setup works s c b = others (s.slot (slot_of b.ino.0)).beliefs b c true

-- From a drained state a get of a block of which others have copies takes a Want, a Forward and a Supply, where the client that the manager names still has its
-- copy. Where it hasn't, time passes at each node, and the get takes the Want again, news of the maps to each node, a Grant, and where the block lies in a log a Fetch
-- and a Fragment for each member of its segment's group. The state then is drained.
abbrev pub CopiesArePassedOn : Type 0
CopiesArePassedOn =
    (setup : Setup) (works : NodeId → List Work) → IsSetup setup
    → (k : ℕ) (s : Scene) (t : Stage AnyNode) (c : ℕ) (b : BlockId) (d : ℕ) (ds : List ℕ) → k < most_steps → Drained setup works k s → Stands setup works s t
    → AreInOrder setup works s → IsNext setup works s c (work.Bget c b) → is_nothing (held_of (s.client c).blocks b).mode ≡ true
    → holders setup works s c b ≡ d ∷ ds → owners setup works s c b ≡ []
    → Ends setup works k 3 s t c ((s.client c).begun + 1)
    ⊎ EndsAfterRound setup works k 2 (2 + told_nodes setup + fetching setup works s b) s t c ((s.client c).begun + 1)
