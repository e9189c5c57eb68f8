-- A run by threads leaves no disks.
use Rattle.std.specs.Prelude.{◌≡◌, true, List, Option, Some, None}
use Rattle.core_world.specs.AnyNode.{any_start, any_step}
use Rattle.core_world.specs.declared.any_node.AnyNode.{AnyNode}
use Rattle.disk_shelf.specs.MemDisk.{MemState}
use Rattle.shelved_nodes.specs.AnyShelf.{any_shelf}
use Rattle.top_call.specs.Commands.{is_live}
use Rattle.top_call.specs.declared.command.Command.{Command}
use Rattle.top_call.specs.declared.command.Command.TheVariants.{Run, Live, Mount, Gen, Big, Audit, Boards, Disks}
use Rattle.top_call.specs.Disks.{DisksOf}
use Rattle.world_base.specs.declared.estate.Estate.{Estate}

-- where the words ask for threads, no disks are what is to be told
pub threads_leave_none : (command : Command) → is_live (Some command) ≡ true → (o : Option (Estate AnyNode)) (told : Option (List MemState)) → told ≡ None
    → DisksOf any_step any_start any_shelf (Some command) o told
threads_leave_none Run live o told none = none
threads_leave_none (Live workers) live o told none = none
threads_leave_none (Mount workers) live o told none = none
threads_leave_none (Gen drawn) live o told none = none
threads_leave_none (Big drawn) live o told none = none
threads_leave_none Audit live o told none = none
threads_leave_none Boards live o told none = none
threads_leave_none Disks live o told none = absurd (cc)
