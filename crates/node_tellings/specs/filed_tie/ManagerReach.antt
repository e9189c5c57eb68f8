-- What a manager holds of what was filed of the logs of the clients and of the cleaner.
use Rattle.std.specs.Prelude.{ℕ, List}
use Rattle.manager_node.specs.declared.manager.Manager.{Manager}
use Rattle.manager_node.specs.Events.{manager_start, manager_step}
use Rattle.version_model.specs.declared.work.Work.{Work}
use Rattle.xfs_base.specs.declared.setup.Setup.{Setup}
use Rattle.node_tellings.specs.filed_tie.Bounds.{Bounds, ManagerBounded}
use Rattle.node_tellings.specs.filed_tie.Reach.{Reach, AppliedReaches, HorizonReaches, LogReaches, ReachesRise, EventsTellFiled, EventsTellNoMore}

-- nothing is applied but what was filed, no horizon is above anything else, and no number is told of it
abbrev pub filed : Reach → Bounds
filed reach = record {
  applied = λ slot epoch applied. AppliedReaches reach applied;
  horizon = λ slot epoch horizon. HorizonReaches reach horizon;
  told = λ log number. LogReaches reach log number;
}

abbrev pub ManagerReaches : Reach → Manager → Type 0
ManagerReaches reach manager = ManagerBounded (filed reach) manager

-- a manager at its start holds nothing
abbrev pub ManagerStartsReaching : Type 0
ManagerStartsReaching = (reach : Reach) (number : ℕ) (setup : Setup) (works : List Work) → ManagerReaches reach (manager_start number setup works)

-- what a manager holds was filed later too
abbrev pub ManagerReachRises : Type 0
ManagerReachRises = ReachesRise Manager ManagerReaches

-- whatever happens to a manager
abbrev pub ManagersTellFiled : Type 0
ManagersTellFiled = EventsTellFiled Manager ManagerReaches manager_step

-- and whatever it acts itself: of its own log it tells nothing
abbrev pub ManagersTellNoMore : Type 0
ManagersTellNoMore = EventsTellNoMore Manager ManagerReaches manager_step
