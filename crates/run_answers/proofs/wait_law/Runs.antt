-- What is so of each event of a client is so of each in a run.
use Rattle.std.proofs.Common.{◌≡◌, ℕ, zero, List, [], ◌∷◌, ◌++◌, None, Some, refl, sym, ap, subst, ◌∙◌}
use Rattle.client_node.specs.declared.client.Client.{Client}
use Rattle.client_node.specs.Phases.{client_step}
use Rattle.client_node.specs.Starting.{client_start}
use Rattle.core_world.specs.AnyNode.{any_start, any_step}
use Rattle.core_world.specs.declared.any_node.AnyNode.{AnyNode}
use Rattle.core_world.specs.declared.any_node.AnyNode.TheVariants as any
use Rattle.node_slots.specs.client_law.Events.{after_events}
use Rattle.node_slots.specs.client_law.Giving.{PutsOffWhatIsDirty}
use Rattle.version_model.specs.declared.work.Work.{Work}
use Rattle.wire_msg.specs.declared.packet.Do.{Do}
use Rattle.world_base.specs.declared.estate.Estate.{Estate}
use Rattle.world_base.specs.Events.{node_of, what_of}
use Rattle.world_base.specs.Items.{items_of}
use Rattle.xfs_base.specs.declared.node.NodeId.{NodeId}
use Rattle.xfs_base.specs.declared.node.NodeId.TheVariants as nodes
use Rattle.xfs_base.specs.declared.setup.Setup.{Setup}
use Rattle.run_answers.proofs.standing_law.Moments.{each_moment, each_stands}
use Rattle.run_answers.proofs.wait_law.Again.{each_tick}
use Rattle.run_answers.proofs.wait_law.Waits.{after_last, event_waits, start_waits}
use Rattle.run_answers.specs.wait_law.Runs.{EachRunWantsAgain, EachRunsCallsWait}
use Rattle.headline.specs.Calls.{call_in}
use Rattle.headline.specs.Moments.{moment, node_named}
use Rattle.headline.specs.Waits.{EventWaits}

-- ---- a client of a run is one after some events

module _ (setup : Setup) where
  pub record IsAfter (c : Client) : Type 0 where
    pub number : ℕ
    pub works : List Work
    pub events : List Do
    pub is : c ≡ after_events (client_start number setup works) events

  abbrev NodeAfter : AnyNode → Type 0
  NodeAfter (any.Client c) = IsAfter c
  NodeAfter _ = Unit {0}

  first_after : (name : NodeId) (works : List Work) → NodeAfter (any_start name setup works)
  first_after (nodes.Client k) works = record { number = k; works = works; events = []; is = refl }
  first_after (nodes.Manager k) works = tt
  first_after (nodes.Server k) works = tt
  first_after nodes.Cleaner works = tt
  first_after nodes.Registry works = tt

  turn_after : (x : AnyNode) (what : Do) → NodeAfter x → NodeAfter (any_step x what).node
  turn_after (any.Client c) what so = record {
    number = so.number;
    works = so.works;
    events = so.events ++ what ∷ [];
    is = ap (λ (x : Client). (client_step x what).node) so.is ∙ sym (after_last (client_start so.number setup so.works) so.events what);
  }
  turn_after (any.Manager m) what so = tt
  turn_after (any.Server v) what so = tt
  turn_after (any.Cleaner c) what so = tt
  turn_after (any.Registry r) what so = tt

-- ---- at the start

-- with no call, at the first moment
abbrev NodeStarts : ℕ → AnyNode → Type 0
NodeStarts zero (any.Client c) = call_in c.phase ≡ None
NodeStarts _ x = Unit {0}

first_starts : (name : NodeId) (setup : Setup) (works : List Work) → NodeStarts 0 (any_start name setup works)
first_starts (nodes.Client k) setup works = start_waits k setup works
first_starts (nodes.Manager k) setup works = tt
first_starts (nodes.Server k) setup works = tt
first_starts nodes.Cleaner setup works = tt
first_starts nodes.Registry setup works = tt

module _ (e : Estate AnyNode) where
  starts : (name : NodeId) (x : AnyNode) → node_named (moment e 0) name ≡ Some x → NodeStarts 0 x
  starts =
      each_moment (λ count n x. NodeStarts count x) e (λ n. first_starts n e.script.setup (items_of e.script.lines n)) (λ count n x idles so. tt)
      (λ count event happens x there took so. tt) 0

  is_after : (count : ℕ) (name : NodeId) (x : AnyNode) → node_named (moment e count) name ≡ Some x → NodeAfter e.script.setup x
  is_after =
      each_stands (λ n x. NodeAfter e.script.setup x) e (λ n. first_after e.script.setup n (items_of e.script.lines n))
      (λ k event happens x there so. turn_after e.script.setup x (what_of event) so)

pub each_run : PutsOffWhatIsDirty → EachRunsCallsWait
each_run gives e = record {
  starts = λ name c was. starts e name (any.Client c) was;
  events = λ count event happens c was.
      let so : IsAfter e.script.setup c = is_after e count (node_of event) (any.Client c) was in
      subst (λ (x : Client). EventWaits x (what_of event)) (sym so.is) (event_waits gives so.number e.script.setup so.works so.events (what_of event));
}

pub each_again : EachRunWantsAgain
each_again e count event happens ticks c was = each_tick c
