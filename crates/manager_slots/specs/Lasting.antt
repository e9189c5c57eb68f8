-- What of a manager outlives a crash.
use Rattle.std.specs.Prelude.{ℕ, Bool, ◌&&◌}
use Rattle.xfs_base.specs.declared.node.NodeId.TheVariants.{Manager}
use Rattle.xfs_base.specs.declared.segment.LogId.{LogId}
use Rattle.xfs_base.specs.Logs as logs
use Rattle.node_base.specs.Beginning.{items_answer}
use Rattle.node_base.specs.Room.{has_room}
use Rattle.manager_slots.specs.declared.lasting.Lasting.{Lasting as Kept}

-- the log that a manager writes
abbrev pub log_of : ℕ → LogId
log_of number = logs.log_of (Manager number)

-- each counter is at least 65,536 below its end
abbrev pub lasting_has_room : Kept → Bool
lasting_has_room kept = has_room kept.inc && has_room kept.questions.last

-- the open item is answered
abbrev pub lasting_answer : Kept → Kept
lasting_answer kept = record kept { items = items_answer kept.items }
