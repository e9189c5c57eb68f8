-- An index that a takeover hands out is one that a slot may start with.
use Rattle.std.proofs.Common.{ℕ, ◌^◌, ◌<◌, ◌≤◌, List, length, arith}
use Rattle.xfs_base.specs.declared.block.BlockId.{BlockId}
use Rattle.xfs_base.specs.declared.entry.Entry.{Entry}
use Rattle.xfs_base.specs.declared.segment.SegName.{SegName}
use Rattle.xfs_base.specs.Limits.{u32_end}
use Rattle.slot_beliefs.specs.Index.{live_in}
use Rattle.slot_beliefs.proofs.Counting.{live_in-limit}
use Rattle.takeover.specs.Course.{MayStart}

pub has_few : (index : List (BlockId × Entry)) (applied : List ℕ) → MayStart index applied → (seg : SegName) → live_in seg index < 2 ^ 32
has_few index applied may seg =
    let limit : live_in seg index ≤ length index = live_in-limit seg index in
    let few : length index ≤ u32_end = may.few in
    omega arith
