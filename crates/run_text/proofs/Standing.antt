-- Every node serves at each moment, where no item is a crash.
use Rattle.std.proofs.Common.{◌≡◌, ◌⊎◌, ℕ, List, inl, inr, Some, sym, ap, ◌∙◌}
use Rattle.core_world.specs.AnyNode.{any_step}
use Rattle.core_world.specs.declared.any_node.AnyNode.{AnyNode}
use Rattle.headline.specs.Dues.{Fells}
use Rattle.headline.specs.Items.{asked_at}
use Rattle.headline.specs.Moments.{moment, node_named}
use Rattle.headline.specs.Standings.{standing}
use Rattle.headline.specs.Standings.Standing.{Serves as Stands}
use Rattle.run_answers.proofs.once_law.Runs.{Known, node_known}
use Rattle.run_answers.proofs.standing_law.Moments.{each_stands}
use Rattle.run_answers.specs.due_law.Turns.{EachEventKeepsStanding, EachStartServes}
use Rattle.version_model.specs.declared.work.Work.{Work}
use Rattle.version_model.specs.declared.work.Work.TheVariants as work
use Rattle.world_base.specs.declared.estate.Estate.{Estate}
use Rattle.world_base.specs.declared.event.Event.{Event}
use Rattle.world_base.specs.Events.{node_of, what_of}
use Rattle.world_base.specs.Items.{items_of}
use Rattle.xfs_base.specs.declared.node.NodeId.{NodeId}

module _ (e : Estate AnyNode) (starts : EachStartServes) (events : EachEventKeepsStanding)
    (no_crash : (node : NodeId) (item : ℕ) (named : NodeId) → asked_at (items_of e.script.lines node) item ≡ Some (work.Crash named) → ⊥) where
  pub each_serves : (count : ℕ) (name : NodeId) (x : AnyNode) → node_named (moment e count) name ≡ Some x → standing x ≡ Stands
  each_serves =
      each_stands (λ name x. standing x ≡ Stands) e (λ name. starts name e.script.setup (items_of e.script.lines name))
      (λ count event happens x was serves. turn count event x was ((events x (what_of event)).serving serves))
    where
      turn : (count : ℕ) (event : Event) (x : AnyNode) → node_named (moment e count) (node_of event) ≡ Some x
          → (standing (any_step x (what_of event)).node ≡ Stands) ⊎ Fells x (what_of event) (any_step x (what_of event))
          → standing (any_step x (what_of event)).node ≡ Stands
      turn count event x was (inl so) = so
      turn count event x was (inr f) =
          let known : Known e (node_of event) x = node_known e count (node_of event) x was in
          absurd (no_crash (node_of event) f.number f.named (ap (λ (ws : List Work). asked_at ws f.number) (sym known.works) ∙ f.begins.asked))
