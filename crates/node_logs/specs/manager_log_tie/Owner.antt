-- How a manager is seen as the owner of its log in the small world of that log. It opens no log: while it is down, or awaits the Welcome of its restart, the
-- owner is down, and at that Welcome the log begins anew.
use Rattle.std.specs.Prelude.{◌≡◌, ◌≤◌, ◌<◌, ◌^◌, ℕ}
use Rattle.manager_node.specs.declared.phase.Phase.{Phase}
use Rattle.manager_node.specs.declared.phase.Phase.TheVariants.{Down, Waiting, Serving as Serves}
use Rattle.manager_slots.specs.declared.lasting.Lasting.{Lasting as Kept}
use Rattle.manager_serving.specs.declared.serving.Serving.{Serving}
use Rattle.xfs_base.specs.declared.node.NodeId.TheVariants.{Manager}
use Rattle.log_tie.specs.Setting.{Setting}
use Rattle.log_law.specs.Net.{Owner as owner}
use Rattle.node_logs.specs.node_log_tie.Sight.{Asker}
use Rattle.node_logs.specs.node_log_tie.Sight.Question.{OfMaps}
use Rattle.node_logs.specs.client_log_tie.Owner.{Scene, SeesLog}
use Rattle.node_logs.specs.manager_log_tie.Fitting.{StaysWritten, TableFits, WriterFits}

-- the manager that owns the log
abbrev pub its_asker : ℕ → Scene → Asker
its_asker j w = record { node = Manager j; asked = w.asked }

module _ (g : Setting) (j : ℕ) (w : Scene) where
  -- what outlives a crash: its number, and its incarnation, a number of 32 bits; whatever it asks the registry is for the maps alone
  pub record Lasts (kept : Kept) : Type 0 where
    pub number : kept.number ≡ j
    pub small : kept.inc < 2 ^ 32
    pub asks : (k : ℕ) → w.asked k ≡ OfMaps

  -- one that is down: so is the owner, in no later incarnation
  pub record IsDown (kept : Kept) : Type 0 where
    pub lasts : Lasts kept
    pub inc : w.net.inc ≤ kept.inc
    pub owner : w.net.owner ≡ owner.Down

  -- one that awaits its Welcome: the owner is down still, in an earlier incarnation
  pub record Awaits (kept : Kept) : Type 0 where
    pub lasts : Lasts kept
    pub inc : w.net.inc < kept.inc
    pub owner : w.net.owner ≡ owner.Down

  -- One that serves: its log is that of the owner, of its incarnation, and stays written; the checkpoint that is being written, and its index, fit the format.
  pub record Stands (s : Serving) : Type 0 where
    pub lasts : Lasts s.lasting
    pub inc : w.net.inc ≡ s.lasting.inc
    pub log : SeesLog g j w s.log
    pub written : StaysWritten s.log
    pub writer : WriterFits s.writer
    pub index : TableFits s.slots

  abbrev pub ManagerAgrees : Phase → Type 0
  ManagerAgrees (Down kept) = IsDown kept
  ManagerAgrees (Waiting kept hello) = Awaits kept
  ManagerAgrees (Serves s) = Stands s
