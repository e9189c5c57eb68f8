-- The kinds of lines of which it is shown that they are answered: each from a drained state, of any setup and any items.
use Rattle.std.specs.Prelude.{◌≡◌, ◌≤◌, ◌<◌, ◌+◌, ◌*◌, ℕ, true, false, List, [], length, Option}
use Rattle.core_world.specs.AnyNode.{any_start}
use Rattle.core_world.specs.declared.any_node.AnyNode.{AnyNode}
use Rattle.node_base.specs.Setups.{IsSetup}
use Rattle.quiet_flow.specs.Flow.{Stage}
use Rattle.token_client.specs.State.{held_of}
use Rattle.version_model.specs.declared.work.Work.{Work}
use Rattle.version_model.specs.declared.work.Work.TheVariants as work
use Rattle.xfs_base.specs.declared.block.BlockId.{BlockId}
use Rattle.xfs_base.specs.declared.node.NodeId.{NodeId}
use Rattle.xfs_base.specs.declared.setup.Setup.{Setup}
use Rattle.xfs_base.specs.Modes.{is_nothing, is_own}
use Rattle.quiet_law.specs.Drained.{Drained, most_steps}
use Rattle.quiet_law.specs.Lines.{Ends, IsNext, Stands, holders, sealing, tail}
use Rattle.quiet_script.specs.Quiet.{is_in_range}
use Rattle.quiet_nodes.specs.Scene.{Scene, node_at}
use Rattle.quiet_nodes.specs.Start.{start_scene}

-- From a drained state a get of a block that is held, and a sync where nothing waits, are answered when they begin, and the state then is drained.
abbrev pub HeldIsReadAtOnce : Type 0
HeldIsReadAtOnce =
    (setup : Setup) (works : NodeId → List Work) (k : ℕ) (s : Scene) (t : Stage AnyNode) (c : ℕ) → Drained setup works k s → Stands setup works s t
    → 1 ≤ c → c ≤ setup.clients → (b : BlockId) → k < most_steps → IsNext setup works s c (work.Bget c b)
    → is_nothing (held_of (s.client c).blocks b).mode ≡ false → Ends setup works k 0 s t c ((s.client c).begun + 1)

abbrev pub NothingIsSyncedAtOnce : Type 0
NothingIsSyncedAtOnce =
    (setup : Setup) (works : NodeId → List Work) (k : ℕ) (s : Scene) (t : Stage AnyNode) (c : ℕ) → Drained setup works k s → Stands setup works s t
    → 1 ≤ c → c ≤ setup.clients → k < most_steps → IsNext setup works s c (work.Sync c) → (s.client c).dirty ≡ []
    → Ends setup works k 0 s t c ((s.client c).begun + 1)

-- From a drained state a put of a block that the client doesn't own, and that nobody else is believed to hold: Want, Grant, and where 24 wait once it is written, a
-- segment goes its way; the state then is drained.
abbrev pub LonelyPutsAreAnswered : Type 0
LonelyPutsAreAnswered =
    (setup : Setup) (works : NodeId → List Work) (k : ℕ) (s : Scene) (t : Stage AnyNode) (c : ℕ) → Drained setup works k s → Stands setup works s t
    → IsSetup setup → k < most_steps → (b : BlockId) (value : Option (List ℕ)) → IsNext setup works s c (work.Bput c b value)
    → is_in_range setup (work.Bput c b value) ≡ true → is_own (held_of (s.client c).blocks b).mode ≡ false → holders setup works s c b ≡ []
    → Ends setup works k (2 + tail setup works s c) s t c ((s.client c).begun + 1)

-- From a drained state a put of a block that the client owns: it is answered when it begins, and where 24 wait then, a segment goes its way.
abbrev pub OwnedIsWritten : Type 0
OwnedIsWritten =
    (setup : Setup) (works : NodeId → List Work) (k : ℕ) (s : Scene) (t : Stage AnyNode) (c : ℕ) → Drained setup works k s → Stands setup works s t
    → IsSetup setup → k < most_steps → (b : BlockId) (value : Option (List ℕ)) → IsNext setup works s c (work.Bput c b value)
    → is_in_range setup (work.Bput c b value) ≡ true → is_own (held_of (s.client c).blocks b).mode ≡ true
    → Ends setup works k (tail setup works s c) s t c ((s.client c).begun + 1)

-- From a drained state a sync where something waits: each member of the group of the client's next segment is sent its fragment and answers, each slot is told and
-- answers, and the state then is drained.
abbrev pub WaitingIsSynced : Type 0
WaitingIsSynced =
    (setup : Setup) (works : NodeId → List Work) (k : ℕ) (s : Scene) (t : Stage AnyNode) (c : ℕ) → Drained setup works k s → Stands setup works s t
    → IsSetup setup → k < most_steps → IsNext setup works s c (work.Sync c) → 1 ≤ length (s.client c).dirty
    → Ends setup works k (2 * sealing setup works s c + 16) s t c ((s.client c).begun + 1)

-- Before the first event each node of a run is as the first scene has it, and that is drained.
abbrev pub StartsAsScene : Type 0
StartsAsScene =
    (setup : Setup) (works : NodeId → List Work) → 1 ≤ setup.managers → (name : NodeId) → any_start name setup (works name) ≡ node_at setup works start_scene name

abbrev pub StartIsDrained : Type 0
StartIsDrained = (setup : Setup) (works : NodeId → List Work) → Drained setup works 0 start_scene
