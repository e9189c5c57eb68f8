-- The journals, the nodes and the ends of all cells of a run.
use Rattle.std.specs.Prelude.{◌≡◌, ℕ, Bool, true, List, length, slice_get, Some}
use Rattle.script_text.specs.declared.script.Script.{Script}
use Rattle.version_model.specs.declared.work.Work.{Work}
use Rattle.wire_msg.specs.declared.packet.Do.{Do}
use Rattle.wire_msg.specs.NodeStep.{NodeStep}
use Rattle.xfs_base.specs.declared.node.NodeId.{NodeId}
use Rattle.xfs_base.specs.declared.setup.Setup.{Setup}
use Rattle.world_base.specs.Cluster.{cluster_of}
use Rattle.journals.specs.declared.moment.Moment.{Moment}
use Rattle.journals.specs.Journals.{IsTold, MeetsDues, is_stamped, replayed, whats}
use Rattle.live_links.specs.Ending.{IsEnded}
use Rattle.live_links.specs.Ends.{In, Out}
use Rattle.live_links.specs.Facts.{IsLinked, dues_at, first_at, name_at}

module _ {N : Type 0} (step : N → Do → NodeStep N) (first : NodeId → Setup → List Work → N) (script : Script) (rings : List (List Out)) (full : Bool) where
  -- the parts of the cell at a place, whose items were begun when they were due, whose journal says what its node sent and did, and which has ended: all its items are
  -- answered where the run is full, and it waited in vain where it is not
  pub record IsPart (p : ℕ) (j : List Moment) (n : N) (o : List Out) (i : List In) : Type 0 where
    pub linked : ∥ IsLinked step (first_at first script p) (cluster_of script.setup) rings p j o i ∥₁
    pub stamped : is_stamped 0 j ≡ true
    pub told : IsTold step (first_at first script p) j
    pub ends : n ≡ replayed step (first_at first script p) (whats j)
    pub met : MeetsDues step (name_at script p) (first_at first script p) (dues_at script p) (whats j)
    pub ended : IsEnded step first script full p j

  -- those of all cells up to the last of these
  pub record AreParts (js : List (List Moment)) (ns : List N) (os : List (List Out)) (is : List (List In)) : Type 0 where
    pub nodes : length ns ≡ length js
    pub outs : length os ≡ length js
    pub ins : length is ≡ length js
    pub each : (p : ℕ) (j : List Moment) (n : N) (o : List Out) (i : List In) → slice_get js p ≡ Some j → slice_get ns p ≡ Some n → slice_get os p ≡ Some o
        → slice_get is p ≡ Some i → IsPart p j n o i
