-- What a client holds of what was filed of its log.
use Rattle.std.specs.Prelude.{ℕ, ◌≤◌, List}
use Rattle.client_node.specs.declared.client.Client.{Client}
use Rattle.client_node.specs.declared.phase.Phase.TheVariants.{Down, Opening, Serving as Serves}
use Rattle.client_node.specs.declared.phase.Phase.{Phase}
use Rattle.client_node.specs.Phases.{client_step}
use Rattle.client_node.specs.Starting.{client_start}
use Rattle.client_serving.specs.declared.serving.Serving.{Serving}
use Rattle.version_model.specs.declared.work.Work.{Work}
use Rattle.xfs_base.specs.declared.setup.Setup.{Setup}
use Rattle.node_tellings.specs.filed_tie.OpeningReach.{OpeningReaches}
use Rattle.node_tellings.specs.filed_tie.Reach.{Reach, ReachesRise, EventsTellFiled}

-- the newest settled segment was filed, and so were all of which the feed tells
pub record ServingReaches (reach : Reach) (s : Serving) : Type 0 where
  pub end : s.log.end.seq ≤ reach s.lasting.number
  pub feed : s.feed.end ≤ reach s.lasting.number

abbrev pub PhaseReaches : Reach → Phase → Type 0
PhaseReaches reach (Down l) = Unit {0}
PhaseReaches reach (Opening l o) = OpeningReaches reach l.number o
PhaseReaches reach (Serves s) = ServingReaches reach s

abbrev pub ClientReaches : Reach → Client → Type 0
ClientReaches reach client = PhaseReaches reach client.phase

-- a client at its start holds nothing
abbrev pub ClientStartsReaching : Type 0
ClientStartsReaching = (reach : Reach) (number : ℕ) (setup : Setup) (works : List Work) → ClientReaches reach (client_start number setup works)

-- what was filed stays so
abbrev pub ClientReachRises : Type 0
ClientReachRises = ReachesRise Client ClientReaches

-- whatever happens to a client
abbrev pub ClientsTellFiled : Type 0
ClientsTellFiled = EventsTellFiled Client ClientReaches client_step
