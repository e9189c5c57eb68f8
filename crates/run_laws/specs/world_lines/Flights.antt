-- What the owner of a log has in flight is the text of its name.
use Rattle.std.specs.Prelude.{ℕ}
use Rattle.node_logs.specs.cleaner_log_tie.Owner as cleaner
use Rattle.cleaner_node.specs.declared.cleaner.Phase as cleaners
use Rattle.node_logs.specs.client_log_tie.Owner.{Scene, ClientAgrees}
use Rattle.client_node.specs.declared.phase.Phase as clients
use Rattle.index_tie.specs.Net as index
use Rattle.log_law.specs.Laws.{Moment}
use Rattle.log_tie.specs.Setting.{Setting}
use Rattle.node_logs.specs.manager_log_tie.Owner as manager
use Rattle.manager_node.specs.declared.phase.Phase as managers
use Rattle.node_slots.specs.node_index_tie.ManagerEvents as manager_writes
use Rattle.node_slots.specs.node_index_tie.Sight.{Questions}
use Rattle.headline.specs.Filed.{Texts}
use Rattle.node_slots.specs.owner_index_tie.CleanerEvents as cleaner_writes
use Rattle.node_slots.specs.owner_index_tie.ClientEvents as client_writes
use Rattle.run_laws.specs.world_lines.Lines.{FlownAreTexts}

-- of a client, as of what its small world had in flight
abbrev pub ClientsWriteTexts : Type 0
ClientsWriteTexts =
    (texts : Texts) (g : Setting) (c : ℕ) (w : Scene) (p : clients.Phase) (part : ℕ) (n : index.Net) → Moment g w.net → FlownAreTexts texts w.net
    → ClientAgrees g c w p → client_writes.WritesTexts part texts n c p

-- so it is of the cleaner
abbrev pub CleanerWritesTexts : Type 0
CleanerWritesTexts =
    (texts : Texts) (g : Setting) (w : Scene) (p : cleaners.Phase) (part : ℕ) (n : index.Net) → Moment g w.net → FlownAreTexts texts w.net
    → cleaner.CleanerAgrees g w p → cleaner_writes.WritesTexts part texts n p

-- and of a manager
abbrev pub ManagersWriteTexts : Type 0
ManagersWriteTexts =
    (texts : Texts) (asked : Questions) (g : Setting) (j : ℕ) (w : Scene) (p : managers.Phase) (part : ℕ) (n : index.Net) → Moment g w.net
    → FlownAreTexts texts w.net → manager.ManagerAgrees g j w p → manager_writes.WritesTexts part texts asked j n p
