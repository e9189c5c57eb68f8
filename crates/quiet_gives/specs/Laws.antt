-- Puts of blocks that others hold: of those that they hold clean, and of those that another client owns and has not settled.
use Rattle.std.specs.List.{AllByRecursion}
use Rattle.std.specs.Prelude.{◌≡◌, ◌<◌, ◌+◌, ◌*◌, ℕ, suc, true, false, List, length, Option, ◌≤◌}
use Rattle.core_world.specs.declared.any_node.AnyNode.{AnyNode}
use Rattle.node_base.specs.Setups.{IsSetup}
use Rattle.token_client.specs.Held.{is_dirty}
use Rattle.token_client.specs.State.{held_of}
use Rattle.version_model.specs.declared.work.Work.{Work}
use Rattle.version_model.specs.declared.work.Work.TheVariants as work
use Rattle.xfs_base.specs.declared.block.BlockId.{BlockId}
use Rattle.xfs_base.specs.declared.node.NodeId.{NodeId}
use Rattle.xfs_base.specs.declared.setup.Setup.{Setup}
use Rattle.xfs_base.specs.Modes.{is_own}
use Rattle.quiet_flow.specs.Flow.{Stage}
use Rattle.quiet_law.specs.Drained.{Drained, most_steps}
use Rattle.quiet_law.specs.Lines.{Ends, IsNext, Stands, holders, tail, sealing}
use Rattle.quiet_nodes.specs.Scene.{Scene}
use Rattle.quiet_script.specs.Quiet.{is_in_range}

-- each other client that is believed to hold a block holds it clean
abbrev pub AreClean : Setup → (NodeId → List Work) → Scene → ℕ → BlockId → Type 0
AreClean setup works s c b = AllByRecursion (λ e. is_dirty (held_of (s.client e).blocks b) ≡ false) (holders setup works s c b)

-- From a drained state a put of a block that the client doesn't own, and that those others who are believed to hold it hold clean: Want, a Recall and a Gave of each
-- of them, Grant, and where 24 wait once it is written, a segment goes its way; the state then is drained.
abbrev pub CleanBlocksArePut : Type 0
CleanBlocksArePut =
    (setup : Setup) (works : NodeId → List Work) → IsSetup setup
    → (k : ℕ) (s : Scene) (t : Stage AnyNode) (c : ℕ) (b : BlockId) (value : Option (List ℕ)) → suc k < most_steps → Drained setup works k s → Stands setup works s t
    → IsNext setup works s c (work.Bput c b value) → is_in_range setup (work.Bput c b value) ≡ true → is_own (held_of (s.client c).blocks b).mode ≡ false
    → AreClean setup works s c b → Ends setup works (suc k) (2 + 2 * length (holders setup works s c b) + tail setup works s c) s t c ((s.client c).begun + 1)

-- From a drained state a put of a block that another client owns and has not settled: it is recalled, the owner's segment goes to the n members of its group, the
-- owner gives the block up, and it is granted, by 2n + 22 deliveries, and more where 24 wait once it is written; and the state then is drained, two steps later.
abbrev pub PutsFromDirtyAreAnswered : Type 0
PutsFromDirtyAreAnswered =
    (setup : Setup) (works : NodeId → List Work) → IsSetup setup
    → (k : ℕ) (s : Scene) (t : Stage AnyNode) (c o : ℕ) (b : BlockId) (value : Option (List ℕ)) → suc k < most_steps → Drained setup works k s → Stands setup works s t
    → IsNext setup works s c (work.Bput c b value) → is_in_range setup (work.Bput c b value) ≡ true → 1 ≤ o → o ≤ setup.clients → (o ≡ c → ⊥)
    → is_dirty (held_of (s.client o).blocks b) ≡ true
    → Ends setup works (suc k) (2 * sealing setup works s o + 22 + tail setup works s c) s t c ((s.client c).begun + 1)
