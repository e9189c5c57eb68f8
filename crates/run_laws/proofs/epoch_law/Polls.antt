-- A Poll that the owner of a log answers is of an epoch above which nobody is active, so that its horizon is the registry's.
use Rattle.std.proofs.Common.{◌≡◌, ℕ, ◌≤◌, ◌<◌, ◌==◌, Bool, true, List, Option, None, Some, refl, sym, ap, subst, ◌∙◌, mod-eq_of_lt, arith}
use Rattle.cleaner_serving.specs.declared.emptying.Emptying.{Emptying}
use Rattle.client_node.specs.declared.phase.Phase.TheVariants as clients
use Rattle.client_serving.specs.declared.serving.Serving.{Serving}
use Rattle.cleaner_node.specs.declared.cleaner.Phase.TheVariants as cleaning
use Rattle.core_world.specs.declared.any_node.AnyNode.{AnyNode}
use Rattle.index_tie.specs.NetLaws.{CheckpointsHaveManagers}
use Rattle.node_slots.specs.node_index_tie.Sight.{held_in}
use Rattle.headline.specs.Filed.{Texts}
use Rattle.node_slots.proofs.node_tie.SmallWorld.{with_promise}
use Rattle.node_slots.specs.node_tie.CleanerEvents.{CleanerStands}
use Rattle.node_slots.specs.node_tie.ClientEvents.{ClientAgrees}
use Rattle.node_slots.specs.node_tie.Sight.{PollSeen}
use Rattle.segment_format.specs.declared.segment.Segment.{Segment}
use Rattle.registry_node.specs.declared.node.RegistryNode.{RegistryNode}
use Rattle.token_client.specs.State.{TokensState, epoch_of, is_in_slot}
use Rattle.token_law.specs.Laws.{ActiveEpochsPromised}
use Rattle.token_manager.specs.SlotState.{SlotState}
use Rattle.version_model.specs.declared.act.Act.{Act}
use Rattle.wire_msg.specs.declared.body.Body.{Body}
use Rattle.wire_msg.specs.declared.body.Body.TheVariants as body
use Rattle.wire_msg.specs.declared.deltas.Poll.{Poll}
use Rattle.wire_msg.specs.declared.packet.Packet.{Packet}
use Rattle.world_base.specs.declared.cluster.Cluster.{Cluster}
use Rattle.run_laws.specs.world_index.Standing as places
use Rattle.run_laws.specs.world_law.Standing as owners
use Rattle.xfs_base.specs.declared.block.BlockId.{BlockId}
use Rattle.xfs_base.specs.declared.node.NodeId.{NodeId}
use Rattle.xfs_base.specs.declared.node.NodeId.TheVariants.{Client, Manager, Server, Cleaner, Registry}
use Rattle.xfs_base.proofs.Booleans.{equal_itself}
use Rattle.xfs_base.specs.Limits.{slot_count, block_logs}
use Rattle.run_laws.proofs.epoch_law.Horizons.{horizons_stay}
use Rattle.run_laws.proofs.epoch_law.Least.{least_since, up_to}
use Rattle.run_laws.proofs.epoch_law.Nodes.{one_registry}
use Rattle.run_laws.specs.epoch_law.Polls.{CleanerPollsAreLow, ClientPollsAreLow, IsLow, PollSent}
use Rattle.run_laws.specs.epoch_law.Slots.{BothStand}

-- ---- a moment

-- who may have sent a Poll
poll_within : (k : Cluster) (part : ℕ) (t : owners.Scene) (from to : NodeId) (m : Poll) → owners.SentBy k part t from to (body.Poll m)
    → PollSeen part t.net.sent (owners.epoch_now k part t) m
poll_within k part t (Client c) to m h = absurd h.2
poll_within k part t (Manager j) to m h = h.2
poll_within k part t (Server n) to m h = absurd h
poll_within k part t Cleaner to m h = absurd h
poll_within k part t Registry to m h = absurd h

module _ (managed : CheckpointsHaveManagers) (promised : ActiveEpochsPromised) (logs : Bool) (k : Cluster) (part : ℕ) (texts : Texts) (first : ℕ → ℕ → Segment)
    (nodes : List AnyNode) (sent : List Packet) (acts : List Act) (t : owners.Scene) (i : places.Scene) (of_eight : part < slot_count)
    (both : BothStand logs k part texts first nodes sent acts t i) where
  -- a block of the slot
  abbrev some_block : BlockId
  some_block = record { ino = record { 0 = part }; blk = 0 }

  of_slot : is_in_slot part some_block ≡ true
  of_slot = ap (λ n. n == part) (mod-eq_of_lt of_eight) ∙ equal_itself part

  -- the epoch of the registry
  epoch : owners.epoch_now k part t ≡ i.net.epoch
  epoch = ap (λ (r : RegistryNode). owners.epoch_now k part (record t { registry = r }))
      (one_registry t.registry i.registry _ both.tokens.placed.registry both.index.placed.registry)
      ∙ both.index.registry.epoch

  poll_begun : (m : Poll) → PollSent part sent m → m.epoch ≤ i.net.epoch
  poll_begun m poll =
      subst (λ x. m.epoch ≤ x) epoch
      (poll_within k part t poll.packet.from poll.packet.to m
      (subst (λ (b : Body). owners.SentBy k part t poll.packet.from poll.packet.to b) poll.bears (both.tokens.facts poll.packet poll.among)) poll.of)

  -- nobody is active above an epoch above which nobody is in the small world of tokens
  module _ (limit : ℕ) (bound : (e : ℕ) (z : SlotState) → t.net.slots e ≡ Some z → e ≤ limit) where
    nobody : (e : ℕ) → limit < e → i.net.slots e ≡ None
    nobody e above = both.same e (by (t.net.slots e) refl)
      where
        by : (o : Option SlotState) → t.net.slots e ≡ o → t.net.slots e ≡ None
        by None fact = fact
        by (Some z) fact = let low = bound e z fact in absurd (omega arith)

    pub polled_low : limit ≤ i.net.epoch → (l : ℕ) → 0 < l → l ≤ block_logs → IsLow i limit l
    polled_low within l some less =
        least_since (horizons_stay managed) part (held_in part texts) first i.net of_eight both.index.runs limit nobody within i.registry both.index.registry l some
        less

  -- ---- who answers

  pub of_client : (c : ℕ) (s : Serving) → 0 < c → c < owners.members k part → (t.client c).phase ≡ clients.Serving s → (e : ℕ) (z : SlotState)
      → t.net.slots e ≡ Some z
      → e ≤ epoch_of s.tokens.epochs part
  of_client c s some less fact e z there =
      let agreed = subst (ClientAgrees logs part c t.net) fact (both.tokens.clients c some less).0 in
      subst (λ (x : TokensState). e ≤ epoch_of x.epochs part) agreed.tokens
      (promised logs (owners.members k part) part (with_promise 1 t.net) some_block (record { run = both.tokens.runs; inside = of_slot }) e z there c
      (record { some = some; within = less }))

  of_cleaner : (v : Emptying) → t.cleaner.phase ≡ cleaning.Serving v → (e : ℕ) (z : SlotState) → t.net.slots e ≡ Some z → e ≤ epoch_of v.promised.epochs part
  of_cleaner v fact e z there =
      let stands = subst (CleanerStands part t.net.promised (owners.epoch_now k part t)) fact both.tokens.cleaner.1 in
      subst (λ x. e ≤ x) (sym stands.promises) (both.tokens.entered e z there).4

pub client_polls_low : CheckpointsHaveManagers → ActiveEpochsPromised → ClientPollsAreLow
client_polls_low managed promised logs k part texts first nodes sent acts t i c s m of_eight both some less fact poll low =
    polled_low managed promised logs k part texts first nodes sent acts t i of_eight both m.epoch
    (λ e z there. up_to e (epoch_of s.tokens.epochs part) m.epoch
    (of_client managed promised logs k part texts first nodes sent acts t i of_eight both c s some less fact e z there) low)
    (poll_begun managed promised logs k part texts first nodes sent acts t i of_eight both m poll)

pub cleaner_polls_low : CheckpointsHaveManagers → ActiveEpochsPromised → CleanerPollsAreLow
cleaner_polls_low managed promised logs k part texts first nodes sent acts t i v m of_eight both fact poll low =
    polled_low managed promised logs k part texts first nodes sent acts t i of_eight both m.epoch
    (λ e z there. up_to e (epoch_of v.promised.epochs part) m.epoch
    (of_cleaner managed promised logs k part texts first nodes sent acts t i of_eight both v fact e z there) low)
    (poll_begun managed promised logs k part texts first nodes sent acts t i of_eight both m poll)
