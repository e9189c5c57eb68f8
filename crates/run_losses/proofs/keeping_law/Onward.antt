-- Where a manager is active in the small world of tokens at a moment of a run, each client that serves at a later moment has promised its epoch.
use Rattle.std.proofs.Common.{◌≡◌, ℕ, zero, suc, ◌+◌, ◌-◌, ◌<◌, ◌≤◌, true, false, Option, None, Some, slice_get, refl, sym, subst, arith}
use Rattle.core_world.specs.AnyNode.{any_start, any_step}
use Rattle.core_world.specs.declared.any_node.AnyNode.{AnyNode}
use Rattle.node_slots.proofs.node_tie.SmallWorld.{with_promise}
use Rattle.node_slots.specs.node_tie.RegistryEvents.{RegistrySound}
use Rattle.token_client.specs.State.{TokensState, epoch_of, is_in_slot}
use Rattle.token_law.specs.Laws.{ActiveEpochsPromised}
use Rattle.token_manager.specs.SlotState.{SlotState}
use Rattle.run_losses.proofs.torn_law.Counts.{cluster_at, may_happen, moment_ended, moment_next}
use Rattle.world_base.specs.Cluster.{cluster_of, place_of}
use Rattle.world_base.specs.declared.cluster.Cluster.{Cluster}
use Rattle.world_base.specs.declared.estate.Estate.{Estate}
use Rattle.world_base.specs.declared.event.Event.{Event}
use Rattle.world_base.specs.declared.world.World.{World}
use Rattle.world_base.specs.NextWorld.{next_world}
use Rattle.world_base.specs.Runs.{IsRun, MayHappen}
use Rattle.run_laws.proofs.world_law.Laws.{NodeLaws, ServesThere, serves_there}
use Rattle.run_laws.specs.world_law.Standing.{Scene, Stands, members}
use Rattle.run_laws.proofs.world_law.Turns.{event_turns}
use Rattle.headline.specs.Moments.{moment, node_in}
use Rattle.headline.specs.Owners.{tokens_at, tokens_of}
use Rattle.xfs_base.specs.declared.block.BlockId.{BlockId}
use Rattle.xfs_base.specs.declared.node.NodeId.TheVariants.{Client}
use Rattle.xfs_base.specs.Limits.{slot_count}

module _ (laws : NodeLaws) (promised : ActiveEpochsPromised) (e : Estate AnyNode) (run : IsRun any_step any_start e.script e.events e.world) (part : ℕ)
    (of_eight : part < slot_count) where
  abbrev k : Cluster
  k = cluster_of e.script.setup

  -- a moment that stands to a small world, in which somebody was active at this epoch
  record ActiveAt (w : World AnyNode) (epoch : ℕ) : Type 0 where
    scene : Scene
    stands : Stands false k part w.nodes w.sent w.acts RegistrySound scene
    active : scene.net.slots epoch ≡ None → ⊥

  event_on : (w : World AnyNode) (event : Event) (epoch : ℕ) → w.cluster ≡ k → MayHappen w event → ActiveAt w epoch
      → ActiveAt (next_world any_step w event) epoch
  event_on w event epoch cluster may a =
      let t = event_turns laws false k part of_eight w event false a.scene cluster may a.stands (λ node there. tt) in
      record { scene = t.next; stands = t.stands; active = λ none. a.active (t.stay epoch none) }

  next_on : (count epoch : ℕ) → ActiveAt (moment e count) epoch → ActiveAt (moment e (suc count)) epoch
  next_on count epoch a = by (slice_get e.events count) refl
    where
      by : (o : Option Event) → slice_get e.events count ≡ o → ActiveAt (moment e (suc count)) epoch
      by None fact = subst (λ w. ActiveAt w epoch) (sym (moment_ended e count fact)) a
      by (Some event) fact =
          subst (λ w. ActiveAt w epoch) (sym (moment_next e count event fact))
          (event_on (moment e count) event epoch (cluster_at e count) (may_happen e run count event fact) a)

  on_by : (more count epoch : ℕ) → ActiveAt (moment e count) epoch → ActiveAt (moment e (more + count)) epoch
  on_by zero count epoch a =
      let same : count ≡ zero + count = omega arith in
      subst (λ n. ActiveAt (moment e n) epoch) same a
  on_by (suc more) count epoch a =
      let same : suc (more + count) ≡ suc more + count = omega arith in
      subst (λ n. ActiveAt (moment e n) epoch) same (next_on (more + count) epoch (on_by more count epoch a))

  -- ---- what is promised then

  promised_now : (w : World AnyNode) (epoch : ℕ) → w.cluster ≡ k → ActiveAt w epoch → (b : BlockId) → is_in_slot part b ≡ true → (c : ℕ) (t : TokensState)
      → tokens_at w c ≡ Some t → epoch ≤ epoch_of t.epochs part
  promised_now w epoch cluster a b inside c t serves = by (a.scene.net.slots epoch) refl
    where
      x : ServesThere laws k part of_eight a.scene c t
      x = serves_there laws k part of_eight w.nodes w.sent w.acts a.scene a.stands c t
          (subst (λ cl. tokens_of (node_in w.nodes (place_of cl (Client c))) ≡ Some t) cluster serves)

      by : (o : Option SlotState) → a.scene.net.slots epoch ≡ o → epoch ≤ epoch_of t.epochs part
      by None none = absurd (a.active none)
      by (Some s) fact =
          subst (λ (u : TokensState). epoch ≤ epoch_of u.epochs part) x.tokens
          (promised false (members k part) part (with_promise 1 a.scene.net) b (record { run = a.stands.runs; inside = inside }) epoch s fact c x.client)

  pub promised_later : (count later : ℕ) → count ≤ later → (s : Scene)
      → Stands false k part (moment e count).nodes (moment e count).sent (moment e count).acts RegistrySound s → (epoch : ℕ)
      → (s.net.slots epoch ≡ None → ⊥) → (b : BlockId) → is_in_slot part b ≡ true → (c : ℕ) (t : TokensState) → tokens_at (moment e later) c ≡ Some t
      → epoch ≤ epoch_of t.epochs part
  promised_later count later low s st epoch active b inside c t serves =
      let same : (later - count) + count ≡ later = omega arith in
      let a : ActiveAt (moment e (later - count + count)) epoch =
      on_by (later - count) count epoch (record { scene = s; stands = st; active = active }) in
      promised_now (moment e later) epoch (cluster_at e later) (subst (λ n. ActiveAt (moment e n) epoch) same a) b inside c t serves
