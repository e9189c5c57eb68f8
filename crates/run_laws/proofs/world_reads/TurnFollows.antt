-- The moment after an event follows the one before it: where a node takes the event, and where none does.
use Rattle.std.proofs.Common.{◌≡◌, ℕ, suc, List, Option, None, Some, slice_get, refl, sym, ap, subst, ◌∙◌, arith}
use Rattle.core_world.specs.AnyNode.{any_step}
use Rattle.core_world.specs.declared.any_node.AnyNode.{AnyNode}
use Rattle.core_world.specs.declared.any_node.AnyNode.TheVariants as any
use Rattle.index_tie.specs.Net.{Net}
use Rattle.manager_node.specs.declared.manager.Manager.{Manager as ManagerNode}
use Rattle.manager_node.specs.Events.{happens, manager_step}
use Rattle.headline.specs.Filed.{Texts as AllTexts}
use Rattle.node_slots.specs.node_tie.ManagerEvents.{ManagedAt}
use Rattle.headline.specs.Managers.{slot_in}
use Rattle.node_slots.specs.node_tie.RegistryEvents.{RegistrySound}
use Rattle.segment_format.specs.declared.segment.Segment.{Segment}
use Rattle.token_manager.specs.SlotState.{SlotState}
use Rattle.wire_msg.specs.declared.packet.Do.{Do}
use Rattle.wire_msg.specs.declared.packet.Packet.{Packet}
use Rattle.world_base.specs.Cluster.{place_of}
use Rattle.world_base.specs.declared.cluster.Cluster.{Cluster}
use Rattle.world_base.specs.declared.event.Event.{Event}
use Rattle.world_base.specs.declared.world.World.{World}
use Rattle.world_base.specs.Events.{node_of, what_of}
use Rattle.run_laws.proofs.world_index.Frames.{grown_itself}
use Rattle.run_laws.specs.world_index.Owes.{Makes}
use Rattle.run_laws.specs.world_index.Standing as index
use Rattle.run_laws.proofs.world_law.Places.{behind}
use Rattle.run_laws.specs.world_law.Standing as tokens
use Rattle.headline.specs.Moments.{moment, node_in}
use Rattle.run_laws.proofs.world_reads.Taking.{Took, moment_next, node_then}
use Rattle.run_laws.proofs.world_reads.TurnBoth.{Both, IsOwed, Turned}
use Rattle.run_laws.specs.world_reads.Chains.{Follows, IsManaged}
use Rattle.run_laws.specs.world_reads.Joint.{k}
use Rattle.run_laws.specs.world_reads.LoggedRuns.{LoggedRun}
use Rattle.xfs_base.specs.declared.node.NodeId.{NodeId}
use Rattle.xfs_base.specs.declared.node.NodeId.TheVariants.{Client, Manager, Cleaner, Registry}

none_comes : {X : Type 0} (o : Option X) (x : X) → o ≡ Some x → o ≡ None → ⊥
none_comes o x some none = absurd (let clash : None ≡ Some x = sym none ∙ some in cc)

-- a moment that stays follows itself
pub follows_itself : (c : Cluster) (part : ℕ) (texts : AllTexts) (first : ℕ → ℕ → Segment) (nodes : List AnyNode) (sent : List Packet) (t : tokens.Scene)
    (s : index.Scene) → index.Stands c part texts first nodes sent RegistrySound s → Follows c part t s.net t s.net
follows_itself c part texts first nodes sent t s st = record {
  since = record {
    epochs = omega arith;
    promises = omega arith;
    reigns = λ j. omega arith;
    given = λ e low. (refl, refl);
    past = λ j life e past. past;
  };
  grown = grown_itself c part texts first nodes sent RegistrySound s st;
  came = λ e z there none. absurd (none_comes (s.net.slots e) z there none);
}

same_manager : (a b : ManagerNode) → Some (any.Manager a) ≡ Some (any.Manager b) → a ≡ b
same_manager a b fact = cc

module _ (logged : LoggedRun) (part count : ℕ) (event : Event) (at : slice_get logged.estate.events count ≡ Some event)
    (clusters : (moment logged.estate count).cluster ≡ k logged part) (b : Both logged part count) (node : AnyNode)
    (took : Took (moment logged.estate count) event node) (owed : IsOwed logged part count event b node)
    (turned : Turned logged part count event b node owed) where
  open logged use {estate as e, texts}

  abbrev cl : Cluster
  cl = k logged part

  abbrev what : Do
  what = what_of event

  abbrev n : Net
  n = b.idx.net

  abbrev m : Net
  m = turned.then.idx.net

  stays : (epoch : ℕ) (z : SlotState) → m.slots ≡ n.slots → m.slots epoch ≡ Some z → n.slots epoch ≡ None → ⊥
  stays epoch z same there none = none_comes (n.slots epoch) z (sym (ap (λ (f : ℕ → Option SlotState). f epoch) same) ∙ there) none

  its_then : node_in (moment e (suc count)).nodes (place_of cl (node_of event)) ≡ Some (any_step node what).node
  its_then =
      subst (λ (w : World AnyNode). node_in w.nodes (place_of cl (node_of event)) ≡ Some (any_step node what).node) (sym (moment_next e count event at))
      (node_then cl (moment e count) clusters event node took)

  managed : (j : ℕ) (x : ManagerNode) → node_in (moment e (suc count)).nodes (place_of cl (Manager j)) ≡ Some (any.Manager (manager_step x what).node)
      → (epoch : ℕ) → ManagedAt (slot_in part (happens x what).state) epoch → IsManaged cl part turned.then.tok epoch
  managed j x here epoch fact = by (place_of cl (Manager j)) refl
    where
      by : (o : Option ℕ) → place_of cl (Manager j) ≡ o → IsManaged cl part turned.then.tok epoch
      by None none =
          absurd (none_comes (node_in (moment e (suc count)).nodes (place_of cl (Manager j))) (any.Manager (manager_step x what).node) here
          (ap (node_in (moment e (suc count)).nodes) none))
      by (Some p) there =
          let f = behind cl.clients cl.managers j p there in
          let same : turned.then.tok.manager j ≡ (manager_step x what).node =
          same_manager (turned.then.tok.manager j) (manager_step x what).node (sym (turned.then.tokens_stand.placed.managers j f.some f.within) ∙ here) in
          record {
            manager = j;
            some = f.some;
            limit = f.within;
            managed = subst (λ (y : ManagerNode). ManagedAt (slot_in part y.phase) epoch) (sym same) fact;
          }

  came_as : (name : NodeId) (x : AnyNode) → node_in (moment e (suc count)).nodes (place_of cl name) ≡ Some (any_step x what).node
      → Makes part texts.text n m name x what → (epoch : ℕ) (z : SlotState) → m.slots epoch ≡ Some z → n.slots epoch ≡ None
      → IsManaged cl part turned.then.tok epoch
  came_as (Client c) (any.Client x) here makes epoch z there none = absurd (stays epoch z (ap (λ (y : Net). y.slots) makes) there none)
  came_as (Manager j) (any.Manager x) here makes epoch z there none = managed j x here epoch (makes.entered epoch z there none)
  came_as Cleaner (any.Cleaner x) here makes epoch z there none = absurd (stays epoch z makes.slots there none)
  came_as Registry (any.Registry x) here makes epoch z there none = absurd (stays epoch z makes.slots there none)
  came_as name x here makes epoch z there none = absurd (stays epoch z (ap (λ (y : Net). y.slots) makes) there none)

  pub follows_turn : Follows cl part b.tok n turned.then.tok m
  follows_turn = record { since = turned.since; grown = turned.grown; came = came_as (node_of event) node its_then turned.makes }
