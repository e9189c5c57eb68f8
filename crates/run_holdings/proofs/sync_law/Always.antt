-- What is so of a client after any events is so of it at each moment of a run.
use Rattle.std.proofs.Common.{◌≡◌, ℕ, List, [], ◌∷◌, ◌++◌, Some, refl, ap, subst, ◌∙◌}
use Rattle.client_node.specs.declared.client.Client.{Client}
use Rattle.client_node.specs.Phases.{client_step}
use Rattle.client_node.specs.Starting.{client_start}
use Rattle.client_serving.specs.declared.serving.Serving.{Serving}
use Rattle.core_world.specs.AnyNode.{any_start, any_step}
use Rattle.core_world.specs.declared.any_node.AnyNode.{AnyNode}
use Rattle.core_world.specs.declared.any_node.AnyNode.TheVariants as any
use Rattle.node_slots.specs.client_law.Events.{HoldsAfterAnyEvents, WhereItServes, after_events}
use Rattle.run_answers.proofs.linear_law.Moments.{each_so}
use Rattle.headline.specs.Moments.{moment, node_named}
use Rattle.version_model.specs.declared.work.Work.{Work}
use Rattle.wire_msg.specs.declared.packet.Do.{Do}
use Rattle.world_base.specs.declared.estate.Estate.{Estate}
use Rattle.world_base.specs.Events.{node_of, what_of}
use Rattle.xfs_base.specs.declared.node.NodeId.{NodeId}
use Rattle.xfs_base.specs.declared.node.NodeId.TheVariants as nodes

-- one event more
after_more : (c : Client) (events : List Do) (what : Do) → after_events c (events ++ what ∷ []) ≡ (client_step (after_events c events) what).node
after_more c [] what = refl
after_more c (x ∷ events) what = after_more (client_step c x).node events what

module _ (e : Estate AnyNode) where
  -- a client of this name is the one that began in the setup, after some events
  abbrev IsAfter : NodeId → AnyNode → Type 0
  IsAfter (nodes.Client number) (any.Client c) = (works : List Work) × ((events : List Do) × (after_events (client_start number e.script.setup works) events ≡ c))
  IsAfter _ _ = Unit {0}

  starts : (name : NodeId) (works : List Work) → IsAfter name (any_start name e.script.setup works)
  starts (nodes.Client number) works = (works, ([], refl))
  starts (nodes.Manager number) works = tt
  starts (nodes.Server number) works = tt
  starts nodes.Cleaner works = tt
  starts nodes.Registry works = tt

  goes_on : (name : NodeId) (x : AnyNode) (what : Do) → IsAfter name x → IsAfter name (any_step x what).node
  goes_on (nodes.Client number) (any.Client c) what after = (
    after.0,
    (
      after.1.0 ++ what ∷ [],
      after_more (client_start number e.script.setup after.0) after.1.0 what
          ∙ ap (λ (d : Client). (client_step d what).node) after.1.1,
    ),
  )
  goes_on (nodes.Client number) (any.Manager m) what after = tt
  goes_on (nodes.Client number) (any.Server v) what after = tt
  goes_on (nodes.Client number) (any.Cleaner c) what after = tt
  goes_on (nodes.Client number) (any.Registry r) what after = tt
  goes_on (nodes.Manager number) x what after = tt
  goes_on (nodes.Server number) x what after = tt
  goes_on nodes.Cleaner x what after = tt
  goes_on nodes.Registry x what after = tt

  pub always_at : (Holds : Serving → Type 0) → HoldsAfterAnyEvents Holds → (count number : ℕ) (c : Client)
      → node_named (moment e count) (nodes.Client number) ≡ Some (any.Client c) → WhereItServes Holds c.phase
  always_at Holds always count number c there =
      let after : IsAfter (nodes.Client number) (any.Client c) =
      each_so e IsAfter (λ count event x at was. goes_on (node_of event) x (what_of event) was) starts count (nodes.Client number) (any.Client c) there in
      subst (λ (d : Client). WhereItServes Holds d.phase) after.1.1 (always number e.script.setup after.0 after.1.0)
