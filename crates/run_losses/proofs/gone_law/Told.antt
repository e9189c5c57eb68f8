-- What a client says is lost because a manager said that it is gone, that manager said was lost while it took the slot over, in the epoch that the client has
-- promised.
use Rattle.std.proofs.Common.{◌≡◌, ℕ, ◌==◌, false, Option, Some, slice_get, refl, sym, subst}
use Rattle.std.proofs.lemmas.Bool.{eqb-true}
use Rattle.client_serving.specs.declared.serving.Serving.{Serving}
use Rattle.core_world.specs.AnyNode.{any_start, any_step}
use Rattle.core_world.specs.declared.any_node.AnyNode.{AnyNode}
use Rattle.headline.specs.Reads.{BringsGone, SaidLost, ToldLost, promised_in, serving_at}
use Rattle.node_base.specs.Setups.{IsSetup}
use Rattle.node_slots.specs.node_tie.RegistryEvents.{RegistrySound}
use Rattle.token_client.specs.State.{epoch_of}
use Rattle.token_protocol.specs.Basics.{In}
use Rattle.run_losses.proofs.torn_law.Counts.{may_happen}
use Rattle.run_losses.proofs.torn_law.Turns.{brought}
use Rattle.wire_msg.specs.declared.body.Body.{Body}
use Rattle.wire_msg.specs.declared.body.Body.TheVariants as body
use Rattle.wire_msg.specs.declared.packet.Packet.{Packet}
use Rattle.wire_msg.specs.declared.tokens.Gone.{Gone}
use Rattle.world_base.specs.Cluster.{cluster_of}
use Rattle.world_base.specs.declared.cluster.Cluster.{Cluster}
use Rattle.world_base.specs.declared.estate.Estate.{Estate}
use Rattle.world_base.specs.declared.event.Event.{Event}
use Rattle.world_base.specs.Events.{what_of}
use Rattle.world_base.specs.Runs.{IsRun}
use Rattle.run_laws.proofs.world_law.FirstSlot as slot
use Rattle.run_laws.proofs.world_law.Laws.{NodeLaws}
use Rattle.run_laws.specs.world_law.Standing.{Scene, SentBy, Stands}
use Rattle.headline.specs.Moments.{moment}
use Rattle.headline.specs.Logs.{IsThere}
use Rattle.headline.specs.Logs.Role.{OfManager}
use Rattle.xfs_base.proofs.Booleans.{and_first}
use Rattle.xfs_base.specs.Blocks.{slot_of}
use Rattle.xfs_base.specs.declared.node.NodeId.{NodeId}
use Rattle.xfs_base.specs.declared.node.NodeId.TheVariants as names
use Rattle.xfs_base.specs.declared.segment.SegName.{SegName}
use Rattle.run_losses.specs.gone_law.Gones.{GonesWereLost}

-- ---- a Gone is a manager's

module _ (laws : NodeLaws) (e : Estate AnyNode) (setup : IsSetup e.script.setup) (run : IsRun any_step any_start e.script e.events e.world) (count : ℕ) where
  abbrev k : Cluster
  k = cluster_of e.script.setup

  abbrev now : Scene
  now = slot.scene laws e setup run count

  st : Stands false k 0 (moment e count).nodes (moment e count).sent (moment e count).acts RegistrySound now
  st = slot.stands laws e setup run count

  pub record FromManager (p : Packet) : Type 0 where
    pub manager : ℕ
    pub there : IsThere e.script.setup.clients e.script.setup.managers (OfManager manager)
    pub from : p.from ≡ names.Manager manager

  pub from_manager : (p : Packet) (g : Gone) → In p (moment e count).sent → p.body ≡ body.Gone g → FromManager p
  from_manager p g among fact = by p.from refl (subst (λ (x : Body). SentBy k 0 now p.from p.to x) fact (st.facts p among))
    where
      by : (from : NodeId) → p.from ≡ from → SentBy k 0 now from p.to (body.Gone g) → FromManager p
      by (names.Client c) at h = absurd h.2
      by (names.Manager j) at h = record { manager = j; there = (h.0, h.1); from = at }
      by (names.Server v) at h = absurd h
      by names.Cleaner at h = absurd h
      by names.Registry at h = absurd h

-- ---- in a run

module _ (laws : NodeLaws) (e : Estate AnyNode) (setup : IsSetup e.script.setup) (run : IsRun any_step any_start e.script e.events e.world)
    (lost : (j : ℕ) → IsThere e.script.setup.clients e.script.setup.managers (OfManager j) → GonesWereLost e j) (c count : ℕ) (event : Event)
    (fact : slice_get e.events count ≡ Some event) (s : Serving) (serves : serving_at e c count ≡ Some s) (name : SegName)
    (b : BringsGone s (what_of event) name) where
  promised : epoch_of s.tokens.epochs (slot_of b.gone.block.ino.0) ≡ b.gone.epoch
  promised = eqb-true _ _ (and_first (epoch_of s.tokens.epochs (slot_of b.gone.block.ino.0) == b.gone.epoch) _ b.meant)

  was_sent : In b.packet (moment e count).sent
  was_sent = (brought (moment e count) event (may_happen e run count event fact) b.packet b.delivers).0

  pub told_lost : ToldLost e c s count (what_of event) name
  told_lost =
      let f : FromManager laws e setup run count b.packet = from_manager laws e setup run count b.packet b.gone was_sent b.bears in
      record {
        brings = b;
        among = was_sent;
        manager = f.manager;
        from = f.from;
        promised = subst (λ (o : Option Serving). promised_in (slot_of b.gone.block.ino.0) o ≡ b.gone.epoch) (sym serves) promised;
        said = subst (SaidLost e f.manager count (slot_of b.gone.block.ino.0) b.gone.epoch) b.names
            (lost f.manager f.there count b.packet b.gone was_sent f.from b.bears);
      }
