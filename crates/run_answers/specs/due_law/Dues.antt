-- What a node must answer in the event that begins an item, by where it stands and what is open.
use Rattle.std.specs.Prelude.{◌≡◌, ℕ, true, Some}
use Rattle.core_world.specs.AnyNode.{any_step}
use Rattle.core_world.specs.declared.any_node.AnyNode.{AnyNode}
use Rattle.version_model.specs.declared.work.Work.{Work}
use Rattle.wire_msg.specs.declared.packet.Do.TheVariants.{Begin}
use Rattle.world_base.specs.Items.{actor_of}
use Rattle.headline.specs.Items.{name_in}
use Rattle.headline.specs.Dues.{BeginsWork, IsDue, ItemsFit, has_counters}

-- ---- what is due

-- So it is whatever item of its own a node of any kind begins, where its counters are far from their ends.
abbrev pub EachItemIsDue : Type 0
EachItemIsDue =
    (node : AnyNode) (number : ℕ) (wanted : Work) → has_counters node ≡ true → ItemsFit node → actor_of wanted ≡ Some (name_in node)
    → BeginsWork node Begin number (Some wanted) → IsDue node number (any_step node Begin) wanted
