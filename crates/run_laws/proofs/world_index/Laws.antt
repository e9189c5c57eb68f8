-- Every run keeps the index of each slot: each event keeps a moment standing to the small world of it, in which indexes are joins and cleaning loses nothing.
use Rattle.std.proofs.Common.{false, ◌≡◌, ℕ, zero, suc, ◌<◌, ◌≤◌, List, [], ◌∷◌, Option, None, Some, take, slice_get, refl, sym, ap, subst, ◌∙◌, mod-eq_of_lt}
use Rattle.std.specs.List.{fold}
use Rattle.core_world.specs.AnyNode.{any_start, any_step}
use Rattle.core_world.specs.declared.any_node.AnyNode.{AnyNode}
use Rattle.core_world.specs.declared.any_node.AnyNode.TheVariants as any
use Rattle.index_tie.specs.NetLaws.{EachIndexIsTheJoin, ManagersCoverTheirHorizon, NewestIsNeverDeleted}
use Rattle.headline.specs.Indexes.{KeepsBy, WasDeleted, epoch_in, of_log}
use Rattle.log_protocol.specs.Tables as tables
use Rattle.manager_node.specs.declared.phase.Phase.{Phase as ManagerPhase}
use Rattle.manager_node.specs.declared.phase.Phase.TheVariants as managing
use Rattle.manager_slots.specs.declared.slot_phase.SlotPhase.{SlotPhase}
use Rattle.manager_slots.specs.declared.slot_phase.SlotPhase.TheVariants as phase
use Rattle.node_slots.specs.node_index_tie.ManagerEvents.{ManagerAgrees, PhaseAgrees}
use Rattle.node_slots.specs.node_index_tie.Pages.{Desk, desk_of}
use Rattle.node_slots.specs.node_index_tie.Sight.{held_in}
use Rattle.headline.specs.Filed.{Texts}
use Rattle.headline.specs.Managers.{active_in, active_of, phase_at, slot_in}
use Rattle.node_slots.specs.node_tie.RegistryEvents.{RegistrySound}
use Rattle.registry.specs.Checkpoints.{horizon_at}
use Rattle.registry_node.specs.declared.node.RegistryNode.{RegistryNode}
use Rattle.segment_format.specs.declared.segment.Segment.{Segment}
use Rattle.slot_beliefs.specs.Recalls.{applied_of}
use Rattle.token_manager.specs.SlotState.{SlotState}
use Rattle.wire_msg.specs.declared.packet.Do.TheVariants.{Deliver}
use Rattle.wire_msg.specs.declared.packet.Packet.{Packet}
use Rattle.world_base.specs.Cluster.{cluster_of, place_of}
use Rattle.world_base.specs.declared.cluster.Cluster.{Cluster}
use Rattle.world_base.specs.declared.event.Event.{Event}
use Rattle.world_base.specs.declared.world.World.{World}
use Rattle.world_base.specs.Events.{node_of, what_of}
use Rattle.world_base.specs.NextWorld.{next_world, start_world}
use Rattle.world_base.specs.Runs.{Leads, MayHappen}
use Rattle.run_laws.proofs.world_index.Senders.{kinds_of_tokens}
use Rattle.run_laws.proofs.world_index.Start.{start_scene, start_stands}
use Rattle.run_laws.proofs.world_index.Tokens.{Entered, entered_starts, entered_stays, tokens_give}
use Rattle.run_laws.specs.world_index.NodeLaws.{NodeLaws}
use Rattle.run_laws.proofs.world_index.Turns.{event_turns}
use Rattle.run_laws.specs.world_index.Laws.{EveryRunKeepsIndexes}
use Rattle.run_laws.specs.world_index.Owes.{IndexOwes}
use Rattle.run_laws.specs.world_index.Standing.{Scene, SentBy, Stands}
use Rattle.run_laws.proofs.world_law.Laws as tokens
use Rattle.run_laws.proofs.world_law.Places.{behind}
use Rattle.run_laws.proofs.world_law.Sent.{was_sent}
use Rattle.run_laws.specs.world_law.Standing.{Scene as TokenScene, Stands as TokensStand}
use Rattle.run_laws.proofs.world_law.Start.{start_stands as token_start}
use Rattle.run_laws.proofs.world_law.Turning.{next_cluster}
use Rattle.run_laws.proofs.world_law.Turns.{delivered_fact, event_turns as token_turns}
use Rattle.headline.specs.Moments.{moment, node_in}
use Rattle.xfs_base.specs.declared.block.BlockId.{BlockId}
use Rattle.xfs_base.specs.declared.node.NodeId.TheVariants.{Cleaner, Manager, Registry}
use Rattle.xfs_base.specs.declared.segment.SegName.{SegName}
use Rattle.xfs_base.specs.Limits.{slot_count, block_logs}

is_registry : (a b : RegistryNode) → Some (any.Registry a) ≡ Some (any.Registry b) → a ≡ b
is_registry a b same = ap (λ o. registry_in o a) same
  where
    registry_in : Option AnyNode → RegistryNode → RegistryNode
    registry_in (Some (any.Registry r)) other = r
    registry_in (Some (any.Client n)) other = other
    registry_in (Some (any.Manager n)) other = other
    registry_in (Some (any.Server n)) other = other
    registry_in (Some (any.Cleaner n)) other = other
    registry_in None other = other

module _ (laws : NodeLaws) (token_laws : tokens.NodeLaws) (k : Cluster) (part : ℕ) (of_eight : part < slot_count) (texts : Texts) (first : ℕ → ℕ → Segment) where
  abbrev pub StandsIn : World AnyNode → Scene → Type 0
  StandsIn w s = Stands k part texts first w.nodes w.sent RegistrySound s

  abbrev TokensIn : World AnyNode → TokenScene → Type 0
  TokensIn w t = TokensStand false k part w.nodes w.sent w.acts RegistrySound t

  -- it stands to both small worlds
  pub record Good (w : World AnyNode) : Type 0 where
    pub cluster : w.cluster ≡ k
    pub tokens : TokenScene
    pub tokens_stand : TokensIn w tokens
    pub scene : Scene
    pub stands : StandsIn w scene
    pub entered : Entered k part tokens scene.net

  -- what is owed to an event at a world
  abbrev OwedAt : World AnyNode → Event → Type 0
  OwedAt w event =
      (s : Scene) (node : AnyNode) → StandsIn w s → node_in w.nodes (place_of w.cluster (node_of event)) ≡ Some node
      → IndexOwes part texts s.asked s.net (node_of event) node (what_of event)

  event_keeps : (w : World AnyNode) (event : Event) → MayHappen w event → OwedAt w event → Good w → Good (next_world any_step w event)
  event_keeps w event may owed good =
      let fact = λ (q : Packet) (gets : what_of event ≡ Deliver q).
      delivered_fact token_laws false k part of_eight w.sent good.tokens good.tokens_stand.facts w refl event may q gets in
      let u = token_turns token_laws false k part of_eight w event false good.tokens good.cluster may good.tokens_stand (λ node there. tt) in
      let v = event_turns laws k part of_eight texts first w event good.scene good.cluster may good.stands
      (λ q sent. kinds_of_tokens k part good.tokens q (good.tokens_stand.facts q sent))
      (λ node there. owed good.scene node good.stands (ap (λ c. node_in w.nodes (place_of c (node_of event))) good.cluster ∙ there))
      (λ node there. tokens_give false k part w.nodes w.sent w.acts good.tokens good.tokens_stand good.scene good.stands.placed good.entered (node_of event)
      (what_of event) node there fact) in
      record {
        cluster = next_cluster any_step w event ∙ good.cluster;
        tokens = u.next;
        tokens_stand = u.stands;
        scene = v.next;
        stands = v.stands;
        entered = entered_stays false k part w.nodes (next_world any_step w event).nodes w.sent (next_world any_step w event).sent w.acts
            (next_world any_step w event).acts good.tokens u.next good.tokens_stand u.stands u.since (what_of event) (λ q gets. (fact q gets).0) good.scene
            v.next good.stands.placed v.stands.placed (node_of event) v.came good.entered;
      }

  abbrev front : World AnyNode → List Event → ℕ → World AnyNode
  front w events_ n = fold (next_world any_step) w (take n events_)

  -- each front of a run stands, where each of its events gets what is owed
  front_keeps : (events_ : List Event) (count : ℕ) (w end : World AnyNode) → Leads any_step w events_ end
      → ((n : ℕ) (event : Event) → slice_get events_ n ≡ Some event → OwedAt (front w events_ n) event) → Good w → Good (front w events_ count)
  front_keeps [] zero w end leads owed good = good
  front_keeps [] (suc count) w end leads owed good = good
  front_keeps (event ∷ more) zero w end leads owed good = good
  front_keeps (event ∷ more) (suc count) w end leads owed good =
      front_keeps more count (next_world any_step w event) end leads.1 (λ n x premise. owed (suc n) x premise)
      (event_keeps w event leads.0 (owed 0 event refl) good)

  -- ---- what is read off

  module _ (small_joins : EachIndexIsTheJoin) (small_covers : ManagersCoverTheirHorizon) (small_kept : NewestIsNeverDeleted) (w : World AnyNode) (cluster : w.cluster ≡ k) (s : Scene)
      (st : StandsIn w s) where
    -- a slot that a manager manages is the small world's of its epoch
    slot_there : (desk : Desk) (p : SlotPhase) → PhaseAgrees part texts s.net desk p → (z : SlotState) → active_in p ≡ Some z → s.net.slots z.epoch ≡ Some z
    slot_there desk (phase.Active a) agreed z premise = subst (λ x. s.net.slots x.epoch ≡ Some x) (tokens.one_node a.slot z premise) agreed.there
    slot_there desk (phase.Taking t) agreed z premise = absurd (cc)
    slot_there desk (phase.Away epoch) agreed z premise = absurd (cc)
    slot_there desk (phase.Broken epoch seg) agreed z premise = absurd (cc)

    phase_there : (p : ManagerPhase) → ManagerAgrees part texts s.net p → (z : SlotState) → active_in (slot_in part p) ≡ Some z → s.net.slots z.epoch ≡ Some z
    phase_there (managing.Serving v) agreed z premise = slot_there (desk_of v agreed.0.given) (phase_at v.slots part) agreed.0.here z premise
    phase_there (managing.Down kept) agreed z premise = absurd (cc)
    phase_there (managing.Waiting kept hello) agreed z premise = absurd (cc)

    manager_there : (j : ℕ) (z : SlotState) → active_of part (node_in w.nodes (place_of k (Manager j))) ≡ Some z → s.net.slots z.epoch ≡ Some z
    manager_there j z premise = by_place (place_of k (Manager j)) refl
      where
        by_place : (o : Option ℕ) → place_of k (Manager j) ≡ o → s.net.slots z.epoch ≡ Some z
        by_place None at = (let clash : None ≡ Some z = sym (ap (λ o. active_of part (node_in w.nodes o)) at) ∙ premise in absurd (cc))
        by_place (Some p) at =
            let b = behind k.clients k.managers j p at in
            phase_there (s.manager j).phase (st.managers j b.some b.within) z (sym (ap (active_of part) (st.placed.managers j b.some b.within)) ∙ premise)

    was_to_be_deleted : (name : SegName) → WasDeleted w name → tables.In name s.net.deleted
    was_to_be_deleted name d =
        subst (λ b. SentBy part s.net s.asked Cleaner b) d.deletes
        (subst (λ n. SentBy part s.net s.asked n d.packet.body) d.from (st.facts d.packet (was_sent w.sent d.packet d.sent)))

    -- a block of the slot
    abbrev block : BlockId
    block = record { ino = record { 0 = part }; blk = 0 }

    covered : (z : SlotState) → s.net.slots z.epoch ≡ Some z → z.epoch ≡ epoch_in s.registry.board part → (l : ℕ) → 0 < l → l ≤ block_logs
        → of_log (horizon_at s.registry.board.checkpoints part) l ≤ suc (applied_of z.applied l)
    covered z there same l some limit =
        let agreed = st.registry in
        subst (λ h. of_log h l ≤ suc (applied_of z.applied l)) (ap s.net.horizon (same ∙ agreed.epoch) ∙ sym agreed.horizon)
        (small_covers part (held_in part texts) s.net block z.epoch z (record { any = first; run = st.runs; inside = mod-eq_of_lt of_eight }) there l some
        limit)

    pub keeps : KeepsBy w part s.net.filed
    keeps = record {
      joins = λ j z b premise inside. small_joins part (held_in part texts) s.net b z.epoch z (record { any = first; run = st.runs; inside = inside })
          (manager_there j z (subst (λ c. active_of part (node_in w.nodes (place_of c (Manager j))) ≡ Some z) cluster premise));
      covers = λ registry j z there premise same l some limit.
          subst
          (λ (r : RegistryNode). z.epoch ≡ epoch_in r.board part → of_log (horizon_at r.board.checkpoints part) l ≤ suc (applied_of z.applied l))
          (is_registry s.registry registry
          (sym st.placed.registry ∙ subst (λ c. node_in w.nodes (place_of c Registry) ≡ Some (any.Registry registry)) cluster there))
          (λ fact. covered z (manager_there j z (subst (λ c. active_of part (node_in w.nodes (place_of c (Manager j))) ≡ Some z) cluster premise)) fact l some
          limit)
          same;
      kept = λ name b d inside filed has newest.
          small_kept part (held_in part texts) s.net b name (record { any = first; run = st.runs; inside = inside })
          (was_to_be_deleted name d) filed has newest;
    }

pub every_run_keeps : NodeLaws → tokens.NodeLaws → EachIndexIsTheJoin → ManagersCoverTheirHorizon → NewestIsNeverDeleted → EveryRunKeepsIndexes
unfolding start_world
every_run_keeps laws token_laws small_joins small_covers small_kept e setup run part of_eight texts first owed count =
    let k = cluster_of e.script.setup in
    let w = start_world any_start e.script in
    let tokens_start =
    token_start false token_laws.starts_asking token_laws.first_manager token_laws.cleaner_starts token_laws.begins e.script setup.clients.1 setup.managers.0
    part of_eight in
    let start : Good laws token_laws k part of_eight texts first w = record {
      cluster = refl;
      tokens = _;
      tokens_stand = tokens_start;
      scene = start_scene laws.client.starts laws.manager.starts laws.cleaner.starts laws.registry_starts laws.begins e.script setup.clients.1 part of_eight
          texts first;
      stands = start_stands laws.client.starts laws.manager.starts laws.cleaner.starts laws.registry_starts laws.begins e.script setup.clients.1 part of_eight
          texts first;
      entered = entered_starts false k part w.nodes w.sent w.acts _ tokens_start _ refl first;
    } in
    let good = front_keeps laws token_laws k part of_eight texts first e.events count w e.world run
    (λ n event premise s node st there. owed n event s node premise st there) start in
    record {
      filed = good.scene.net.filed;
      named = good.stands.texts_of;
      keeps = keeps laws token_laws k part of_eight texts first small_joins small_covers small_kept (moment e count) good.cluster good.scene good.stands;
    }
