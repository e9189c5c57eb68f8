-- What the cleaner holds of what was filed of its log.
use Rattle.std.specs.Prelude.{◌≤◌, List}
use Rattle.cleaner_serving.specs.declared.emptying.Emptying.{Emptying}
use Rattle.cleaner_node.specs.CleanerEvents.{cleaner_start, cleaner_step}
use Rattle.cleaner_node.specs.declared.cleaner.Cleaner.{Cleaner}
use Rattle.cleaner_node.specs.declared.cleaner.Phase.{Phase}
use Rattle.cleaner_node.specs.declared.cleaner.Phase.TheVariants.{Down, Opening, Serving}
use Rattle.cleaner_job.specs.Starting.{cleaner_log}
use Rattle.version_model.specs.declared.work.Work.{Work}
use Rattle.xfs_base.specs.declared.setup.Setup.{Setup}
use Rattle.node_tellings.specs.filed_tie.OpeningReach.{OpeningReaches}
use Rattle.node_tellings.specs.filed_tie.Reach.{Reach, ReachesRise, EventsTellFiled}

-- the newest settled segment was filed, and so were all of which the feed tells
pub record EmptyingReaches (reach : Reach) (e : Emptying) : Type 0 where
  pub end : e.log.end.seq ≤ reach cleaner_log.0
  pub feed : e.feed.end ≤ reach cleaner_log.0

abbrev pub PhaseReaches : Reach → Phase → Type 0
PhaseReaches reach (Down l) = Unit {0}
PhaseReaches reach (Opening l o) = OpeningReaches reach cleaner_log.0 o
PhaseReaches reach (Serving e) = EmptyingReaches reach e

abbrev pub CleanerReaches : Reach → Cleaner → Type 0
CleanerReaches reach cleaner = PhaseReaches reach cleaner.phase

-- the cleaner at its start holds nothing
abbrev pub CleanerStartsReaching : Type 0
CleanerStartsReaching = (reach : Reach) (setup : Setup) (works : List Work) → CleanerReaches reach (cleaner_start setup works)

-- what was filed stays so
abbrev pub CleanerReachRises : Type 0
CleanerReachRises = ReachesRise Cleaner CleanerReaches

-- whatever happens to the cleaner
abbrev pub CleanerTellsFiled : Type 0
CleanerTellsFiled = EventsTellFiled Cleaner CleanerReaches cleaner_step
