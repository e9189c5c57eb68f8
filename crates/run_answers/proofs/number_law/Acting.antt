-- The node that acts something in an event of a run, and the event by which an item begins or a packet comes.
use Rattle.std.proofs.Common.{◌≡◌, ◌⊎◌, ℕ, suc, List, Some, drop, length, slice_get, inl, inr, refl, ap, subst, ◌∙◌}
use Rattle.std.proofs.Math.Seq.{drop-append_seam, drop-length}
use Rattle.core_world.specs.AnyNode.{any_step}
use Rattle.core_world.specs.declared.any_node.AnyNode.{AnyNode}
use Rattle.token_protocol.specs.Basics.{In}
use Rattle.version_model.specs.declared.act.Act.{Act}
use Rattle.wire_msg.specs.declared.packet.Do.TheVariants as whats
use Rattle.wire_msg.specs.declared.packet.Packet.{Packet}
use Rattle.world_base.specs.Cluster.{place_of}
use Rattle.world_base.specs.declared.estate.Estate.{Estate}
use Rattle.world_base.specs.declared.event.Event.{Event}
use Rattle.world_base.specs.declared.event.Event.TheVariants.{Begin, Deliver, Tick}
use Rattle.world_base.specs.declared.world.World.{World}
use Rattle.world_base.specs.Events.{node_of, what_of}
use Rattle.world_base.specs.NextWorld.{next_world}
use Rattle.xfs_base.specs.declared.node.NodeId.{NodeId}
use Rattle.run_laws.proofs.world_law.Turning.{next_cluster}
use Rattle.run_laws.proofs.world_reads.Taking.{NothingHappens, Took, moment_next, node_then, takes_or_not}
use Rattle.headline.specs.Moments.{acts_in, moment, node_in, node_named}

pub event_begins : (event : Event) (name : NodeId) → node_of event ≡ name → what_of event ≡ whats.Begin → event ≡ Begin name
event_begins (Begin node) name named fact = ap Begin named
event_begins (Deliver packet) name named fact = absurd cc
event_begins (Tick node) name named fact = absurd cc

pub event_delivers : (event : Event) (packet : Packet) → what_of event ≡ whats.Deliver packet → event ≡ Deliver packet
event_delivers (Begin node) packet fact = absurd cc
event_delivers (Deliver p) packet fact = cc
event_delivers (Tick node) packet fact = absurd cc

module _ (e : Estate AnyNode) where
  -- a node that took the event, behind it
  pub node_behind : (count : ℕ) (event : Event) → slice_get e.events count ≡ Some event → (x : AnyNode) → Took (moment e count) event x
      → node_named (moment e (suc count)) (node_of event) ≡ Some (any_step x (what_of event)).node
  node_behind count event happens x took =
      ap (λ (u : World AnyNode). node_named u (node_of event)) (moment_next e count event happens)
      ∙ (ap (λ k. node_in (next_world any_step (moment e count) event).nodes (place_of k (node_of event))) (next_cluster any_step (moment e count) event)
      ∙ node_then (moment e count).cluster (moment e count) refl event x took)

  -- what it acts
  pub acts_taken_in : (count : ℕ) (event : Event) (x : AnyNode) → Took (moment e count) event x
      → acts_in (moment e count) event ≡ (any_step x (what_of event)).acts
  acts_taken_in count event x took =
      ap (drop (length (moment e count).acts)) took.acts ∙ drop-append_seam (moment e count).acts (any_step x (what_of event)).acts

  -- the node that acts it, before the event and behind it
  pub record Acting (count : ℕ) (event : Event) (a : Act) : Type 0 where
    pub x : AnyNode
    pub was : node_named (moment e count) (node_of event) ≡ Some x
    pub is : node_named (moment e (suc count)) (node_of event) ≡ Some (any_step x (what_of event)).node
    pub acts : acts_in (moment e count) event ≡ (any_step x (what_of event)).acts
    pub among : In a (any_step x (what_of event)).acts

  pub acting : (count : ℕ) (event : Event) → slice_get e.events count ≡ Some event → (a : Act) → In a (acts_in (moment e count) event) → Acting count event a
  acting count event happens a acted = by (takes_or_not w event)
    where
      w : World AnyNode
      w = moment e count

      by : NothingHappens w event ⊎ ((x : AnyNode) × Took w event x) → Acting count event a
      by (inl none) = absurd (subst (λ (acts : List Act). In a acts) (ap (drop (length w.acts)) none.acts ∙ drop-length w.acts) acted)
      by (inr turn) =
          let took = turn.1 in
          let acts = acts_taken_in count event turn.0 took in
          record {
            x = turn.0;
            was = ap (node_in w.nodes) took.placed ∙ took.stands;
            is = node_behind count event happens turn.0 took;
            acts = acts;
            among = subst (λ (xs : List Act). In a xs) acts acted;
          }
