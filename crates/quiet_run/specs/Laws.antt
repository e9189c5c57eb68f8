-- Gets of blocks that another client owns, whether it holds them clean or has not settled them.
use Rattle.std.specs.List.{AllByRecursion}
use Rattle.std.specs.Prelude.{◌≡◌, ◌<◌, ◌≤◌, ◌+◌, ◌*◌, ◌⊎◌, ℕ, suc, true, false, List, ◌∷◌, length}
use Rattle.core_world.specs.declared.any_node.AnyNode.{AnyNode}
use Rattle.node_base.specs.Setups.{IsSetup}
use Rattle.token_client.specs.Held.{is_dirty}
use Rattle.token_client.specs.State.{held_of}
use Rattle.version_model.specs.declared.work.Work.{Work}
use Rattle.version_model.specs.declared.work.Work.TheVariants as work
use Rattle.xfs_base.specs.declared.block.BlockId.{BlockId}
use Rattle.xfs_base.specs.declared.node.NodeId.{NodeId}
use Rattle.xfs_base.specs.declared.setup.Setup.{Setup}
use Rattle.xfs_base.specs.Modes.{is_nothing}
use Rattle.quiet_flow.specs.Flow.{Stage}
use Rattle.quiet_gets.specs.Laws.{owners, told_nodes}
use Rattle.quiet_gets.specs.Passing.{AreInOrder}
use Rattle.quiet_law.specs.Drained.{Drained, most_steps}
use Rattle.quiet_law.specs.Lines.{Ends, EndsAfterRound, IsNext, Stands, fetching, sealing}
use Rattle.quiet_nodes.specs.Scene.{Scene}

-- each other client that is believed to own a block holds it clean
abbrev pub OwnClean : Setup → (NodeId → List Work) → Scene → ℕ → BlockId → Type 0
OwnClean setup works s c b = AllByRecursion (λ e. is_dirty (held_of (s.client e).blocks b) ≡ false) (owners setup works s c b)

-- From a drained state a get of a block that isn't held, and that others own and hold clean, takes a Want, a Recall and a Gave of each owner, who may keep a copy, a
-- Forward and a Supply, where the client that the manager names has its copy. Where it hasn't, time passes at each node, and the get takes the Want again, news of the
-- maps to each node, a Grant, and where the block lies in a log a Fetch and a Fragment for each member of its segment's group. The state then is drained.
abbrev pub OwnedCopiesArePassedOn : Type 0
OwnedCopiesArePassedOn =
    (setup : Setup) (works : NodeId → List Work) → IsSetup setup
    → (k : ℕ) (s : Scene) (t : Stage AnyNode) (c : ℕ) (b : BlockId) (o : ℕ) (os : List ℕ) → suc k < most_steps → Drained setup works k s → Stands setup works s t
    → AreInOrder setup works s → IsNext setup works s c (work.Bget c b) → is_nothing (held_of (s.client c).blocks b).mode ≡ true
    → owners setup works s c b ≡ o ∷ os → OwnClean setup works s c b
    → Ends setup works (suc k) (3 + 2 * length (owners setup works s c b)) s t c ((s.client c).begun + 1)
    ⊎ EndsAfterRound setup works (suc k) (2 + 2 * length (owners setup works s c b)) (2 + told_nodes setup + fetching setup works s b) s t c ((s.client c).begun + 1)

-- From a drained state a get of a block that another client owns and has not settled: it is recalled, the owner's segment goes to the n members of its group, the owner
-- keeps a copy at most, and passes it on, by 2n + 23 deliveries. Where it has kept none, time passes at each node after 2n + 22, and the get takes the Want again,
-- news of the maps to each node, a Grant, and a Fetch and a Fragment for each of the members of a group, of which there are 8 at most. The state then is drained, two
-- steps later.
abbrev pub GetsFromDirtyAreAnswered : Type 0
GetsFromDirtyAreAnswered =
    (setup : Setup) (works : NodeId → List Work) → IsSetup setup
    → (k : ℕ) (s : Scene) (t : Stage AnyNode) (c o : ℕ) (b : BlockId) → suc k < most_steps → Drained setup works k s → Stands setup works s t
    → AreInOrder setup works s → IsNext setup works s c (work.Bget c b) → 1 ≤ o → o ≤ setup.clients → (o ≡ c → ⊥)
    → is_dirty (held_of (s.client o).blocks b) ≡ true
    → Ends setup works (suc k) (2 * sealing setup works s o + 23) s t c ((s.client c).begun + 1)
    ⊎ EndsAfterRound setup works (suc k) (2 * sealing setup works s o + 22) (2 + told_nodes setup + 16) s t c ((s.client c).begun + 1)
