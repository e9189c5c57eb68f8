-- What a reopening reads is whole but for disks, whether it was filed or not; so of what it says is lost disks were lost, in the words of a run of the nodes.
use Rattle.std.specs.Prelude.{◌≡◌, ℕ, false, true, Some, is_some, slice_get}
use Rattle.core_world.specs.AnyNode.{any_start, any_step}
use Rattle.core_world.specs.declared.any_node.AnyNode.{AnyNode}
use Rattle.headline.specs.Torn.{IsStoredAs}
use Rattle.node_base.specs.Setups.{IsSetup}
use Rattle.token_protocol.specs.Basics.{In}
use Rattle.headline.specs.Openings.{IsReadAt, WasWhole, scan_at}
use Rattle.version_model.specs.declared.act.Act.TheVariants as act
use Rattle.world_base.specs.declared.estate.Estate.{Estate}
use Rattle.world_base.specs.declared.event.Event.{Event}
use Rattle.world_base.specs.Events.{node_of}
use Rattle.world_base.specs.Runs.{IsRun}
use Rattle.headline.specs.Moments.{acts_in, moment}
use Rattle.headline.specs.Segments.{NotDeleted}
use Rattle.headline.specs.Logs.{IsThere, Role, owner_by, renews}
use Rattle.xfs_base.specs.declared.segment.SegName.{SegName}
use Rattle.xfs_base.specs.declared.segment.SegRef.{SegRef}

module _ (e : Estate AnyNode) where
  -- Each segment that an owner reads while it opens its log, filed or not, is whole but for disks, unless a server was told to delete it: over the group by
  -- which it is read each member holds its fragment, or has lost its disk since the group was made.
  abbrev pub ReadsWhatIsWhole : Role → Type 0
  ReadsWhatIsWhole r = (count : ℕ) (segment : SegRef) → IsReadAt e r count segment → NotDeleted (moment e count) segment.name → IsStoredAs e count segment

  -- what a client, or the cleaner, says is lost while it opens its log
  abbrev pub LosesWhatWasWhole : Role → Type 0
  LosesWhatWasWhole r =
      (count : ℕ) (event : Event) → slice_get e.events count ≡ Some event → owner_by r ≡ node_of event → is_some (scan_at e r count) ≡ true
      → (name : SegName) → In (act.Lost (owner_by r) name) (acts_in (moment e count) event) → WasWhole e r count name

-- what any client of a run, or the cleaner, reads while it opens its log is whole but for disks
abbrev pub ReopeningsReadWhatIsWhole : Estate AnyNode → Type 0
ReopeningsReadWhatIsWhole e = (r : Role) → IsThere e.script.setup.clients e.script.setup.managers r → renews r ≡ false → ReadsWhatIsWhole e r

-- and what it says is lost then was torn, and had been whole
abbrev pub ReopeningLossesWereWhole : Estate AnyNode → Type 0
ReopeningLossesWereWhole e = (r : Role) → IsThere e.script.setup.clients e.script.setup.managers r → renews r ≡ false → LosesWhatWasWhole e r

-- So it is in each run of a script of whose setup a run can be started.
abbrev pub WhatReopeningsReadIsWhole : Type 0
WhatReopeningsReadIsWhole =
    (e : Estate AnyNode) → IsSetup e.script.setup → IsRun any_step any_start e.script e.events e.world → ReopeningsReadWhatIsWhole e

abbrev pub ReopeningsLoseWhatWasWhole : Type 0
ReopeningsLoseWhatWasWhole =
    (e : Estate AnyNode) → IsSetup e.script.setup → IsRun any_step any_start e.script e.events e.world → ReopeningLossesWereWhole e
