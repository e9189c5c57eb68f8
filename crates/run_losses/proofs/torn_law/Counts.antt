-- The counts of a run: what the event at a count makes of the moment there.
use Rattle.std.proofs.Common.{◌≡◌, ◌⊎◌, ℕ, zero, suc, List, [], ◌∷◌, ◌++◌, Some, None, map, take, slice_get, slice_set, refl, ap, subst, ◌∙◌, inl, inr, sym}
use Rattle.std.specs.List.{fold}
use Rattle.core_world.specs.AnyNode.{any_start, any_step}
use Rattle.core_world.specs.declared.any_node.AnyNode.{AnyNode}
use Rattle.version_model.specs.declared.act.Act.{Act}
use Rattle.wire_msg.specs.declared.packet.Packet.{Packet}
use Rattle.world_base.specs.Cluster.{cluster_of, place_of}
use Rattle.world_base.specs.declared.cluster.Cluster.{Cluster}
use Rattle.world_base.specs.declared.estate.Estate.{Estate}
use Rattle.world_base.specs.declared.event.Event.{Event}
use Rattle.world_base.specs.declared.world.World.{World}
use Rattle.world_base.specs.Events.{node_of, what_of}
use Rattle.world_base.specs.NextWorld.{next_world, sent_at, start_world}
use Rattle.world_base.specs.Runs.{IsRun, Leads, MayHappen}
use Rattle.run_laws.proofs.world_law.Turning.{next_cluster, next_keeps}
use Rattle.headline.specs.Moments.{moment}

-- ---- from one count to the next

ended_so : (events : List Event) (count : ℕ) (w : World AnyNode) → slice_get events count ≡ None
    → fold (next_world any_step) w (take (suc count) events) ≡ fold (next_world any_step) w (take count events)
ended_so [] zero w fact = refl
ended_so [] (suc count) w fact = refl
ended_so (x ∷ xs) zero w fact = absurd cc
ended_so (x ∷ xs) (suc count) w fact = ended_so xs count (next_world any_step w x) fact

same_event : (x y : Event) → Some x ≡ Some y → x ≡ y
same_event x y e = cc

next_so : (events : List Event) (count : ℕ) (w : World AnyNode) (event : Event) → slice_get events count ≡ Some event
    → fold (next_world any_step) w (take (suc count) events) ≡ next_world any_step (fold (next_world any_step) w (take count events)) event
next_so [] zero w event fact = absurd cc
next_so [] (suc count) w event fact = absurd cc
next_so (x ∷ xs) zero w event fact = ap (next_world any_step w) (same_event x event fact)
next_so (x ∷ xs) (suc count) w event fact = next_so xs count (next_world any_step w x) event fact

may_so : (events : List Event) (count : ℕ) (w end : World AnyNode) (event : Event) → Leads any_step w events end → slice_get events count ≡ Some event
    → MayHappen (fold (next_world any_step) w (take count events)) event
may_so [] zero w end event leads fact = absurd cc
may_so [] (suc count) w end event leads fact = absurd cc
may_so (x ∷ xs) zero w end event leads fact = subst (MayHappen w) (same_event x event fact) leads.0
may_so (x ∷ xs) (suc count) w end event leads fact = may_so xs count (next_world any_step w x) end event leads.1 fact

cluster_so : (events : List Event) (count : ℕ) (w : World AnyNode) (k : Cluster) → w.cluster ≡ k
    → (fold (next_world any_step) w (take count events)).cluster ≡ k
cluster_so events zero w k fact = fact
cluster_so [] (suc count) w k fact = fact
cluster_so (x ∷ xs) (suc count) w k fact = cluster_so xs count (next_world any_step w x) k (next_cluster any_step w x ∙ fact)

module _ (e : Estate AnyNode) where
  pub moment_ended : (count : ℕ) → slice_get e.events count ≡ None → moment e (suc count) ≡ moment e count
  moment_ended count fact = ended_so e.events count (start_world any_start e.script) fact

  pub moment_next : (count : ℕ) (event : Event) → slice_get e.events count ≡ Some event → moment e (suc count) ≡ next_world any_step (moment e count) event
  moment_next count event fact = next_so e.events count (start_world any_start e.script) event fact

  pub may_happen : IsRun any_step any_start e.script e.events e.world → (count : ℕ) (event : Event) → slice_get e.events count ≡ Some event
      → MayHappen (moment e count) event
  may_happen run count event fact = may_so e.events count (start_world any_start e.script) e.world event run fact

  pub cluster_at : (count : ℕ) → (moment e count).cluster ≡ cluster_of e.script.setup
  unfolding start_world
  cluster_at count = cluster_so e.events count (start_world any_start e.script) (cluster_of e.script.setup) refl

-- ---- an event

-- a node has its turn
pub record TurnAt (w : World AnyNode) (event : Event) (nodes : List AnyNode) (sent : List Packet) (acts : List Act) : Type 0 where
  pub place : ℕ
  pub node : AnyNode
  pub clock : ℕ
  pub placed : place_of w.cluster (node_of event) ≡ Some place
  pub stands : slice_get w.nodes place ≡ Some node
  pub nodes_are : nodes ≡ slice_set w.nodes place (any_step node (what_of event)).node
  pub sent_are : sent ≡ w.sent ++ map (sent_at clock) (any_step node (what_of event)).packets
  pub acts_are : acts ≡ w.acts ++ (any_step node (what_of event)).acts

-- or nothing happens
pub record Still (w : World AnyNode) (nodes : List AnyNode) (sent : List Packet) (acts : List Act) : Type 0 where
  pub nodes_are : nodes ≡ w.nodes
  pub sent_are : sent ≡ w.sent
  pub acts_are : acts ≡ w.acts

pub happened_so : (w : World AnyNode) (event : Event)
    → Still w (next_world any_step w event).nodes (next_world any_step w event).sent (next_world any_step w event).acts
    ⊎ TurnAt w event (next_world any_step w event).nodes (next_world any_step w event).sent (next_world any_step w event).acts
happened_so w event =
    next_keeps any_step (λ nodes sent acts. Still w nodes sent acts ⊎ TurnAt w event nodes sent acts) w event
    (inl (record { nodes_are = refl; sent_are = refl; acts_are = refl }))
    (λ place node clock at fact. inr (record {
      place = place;
      node = node;
      clock = clock;
      placed = at;
      stands = fact;
      nodes_are = refl;
      sent_are = refl;
      acts_are = refl;
    }))

-- so it is from one count of a run to the next
pub became : (e : Estate AnyNode) (count : ℕ) (event : Event) → slice_get e.events count ≡ Some event
    → Still (moment e count) (moment e (suc count)).nodes (moment e (suc count)).sent (moment e (suc count)).acts
    ⊎ TurnAt (moment e count) event (moment e (suc count)).nodes (moment e (suc count)).sent (moment e (suc count)).acts
became e count event fact =
    subst (λ (v : World AnyNode). Still (moment e count) v.nodes v.sent v.acts ⊎ TurnAt (moment e count) event v.nodes v.sent v.acts)
    (sym (moment_next e count event fact)) (happened_so (moment e count) event)
