-- A manager at an event of a run that it takes: how it is seen before it in the small worlds of the slot, and after it in that of its log; and what comes to it
-- was sent.
use Rattle.std.proofs.Common.{◌≡◌, ◌<◌, true, ℕ, suc, Some, slice_get, refl, sym, ap, subst, ◌∙◌}
use Rattle.core_world.specs.AnyNode.{any_step}
use Rattle.core_world.specs.declared.any_node.AnyNode.{AnyNode}
use Rattle.core_world.specs.declared.any_node.AnyNode.TheVariants as any
use Rattle.node_logs.specs.client_log_tie.Owner.{Scene}
use Rattle.run_laws.specs.epoch_law.Managers.{TokensAreGiven}
use Rattle.run_laws.specs.epoch_law.Slots.{BothStand}
use Rattle.log_tie.specs.Setting.{Setting}
use Rattle.node_logs.specs.manager_log_tie.Owner as manager_log
use Rattle.manager_node.specs.declared.manager.Manager.{Manager as ManagerNode}
use Rattle.manager_node.specs.Events.{happens, manager_step}
use Rattle.node_slots.specs.node_index_tie.ManagerEvents as places
use Rattle.node_slots.specs.node_index_tie.ManagerEvents.{WritesTexts}
use Rattle.run_laws.specs.reading_law.Readings.{ReadingsCame, cuts_at}
use Rattle.node_tellings.specs.reading_tie.Arrivals.{answered_in, cut_by}
use Rattle.node_tellings.specs.reading_tie.ManagerReads.{ManagerHolds}
use Rattle.token_protocol.specs.Basics.{In}
use Rattle.wire_msg.specs.declared.packet.Do.{Do}
use Rattle.wire_msg.specs.declared.packet.Do.TheVariants.{Deliver}
use Rattle.wire_msg.specs.declared.packet.Packet.{Packet}
use Rattle.world_base.specs.Cluster.{cluster_of, place_of}
use Rattle.world_base.specs.declared.cluster.Cluster.{Cluster}
use Rattle.world_base.specs.declared.event.Event.{Event}
use Rattle.world_base.specs.declared.event.Event.TheVariants as events
use Rattle.world_base.specs.declared.world.World.{World}
use Rattle.world_base.specs.Events.{node_of, what_of}
use Rattle.world_base.specs.NextWorld.{next_world}
use Rattle.world_base.specs.Runs.{MayHappen}
use Rattle.run_laws.specs.world_index.Owes.{TokensGive}
use Rattle.run_laws.specs.world_index.Standing as index
use Rattle.run_laws.proofs.world_law.ManagerTurns.{delivered}
use Rattle.run_laws.proofs.world_law.Sent.{was_sent}
use Rattle.run_laws.specs.world_law.Standing as tokens
use Rattle.headline.specs.Moments.{moment, node_in, node_named}
use Rattle.run_laws.specs.world_lines.Flights.{ManagersWriteTexts}
use Rattle.run_laws.specs.world_logs.Lines.{Line, cluster, setting}
use Rattle.headline.specs.Logs.Role.{OfManager}
use Rattle.run_laws.proofs.world_reads.Taking.{Took, moment_next, node_then, took_it}
use Rattle.run_laws.specs.world_reads.Joint.{Joint, There}
use Rattle.run_laws.specs.world_reads.LoggedRuns.{LoggedRun}
use Rattle.xfs_base.specs.declared.node.NodeId.TheVariants.{Manager}
use Rattle.xfs_base.specs.Limits.{slot_count}

same_manager : (a b : ManagerNode) → Some (any.Manager a) ≡ Some (any.Manager b) → a ≡ b
same_manager a b fact = cc

-- ---- what comes

-- a packet that an event delivers was sent, to the node of the event
pub brought_by : (w : World AnyNode) (event : Event) → MayHappen w event → (q : Packet) → what_of event ≡ Deliver q → In q w.sent × (q.to ≡ node_of event)
brought_by w (events.Begin node) may q fact = absurd cc
brought_by w (events.Tick node) may q fact = absurd cc
brought_by w (events.Deliver packet) may q fact =
    let same : packet ≡ q = delivered packet q fact in
    (was_sent w.sent q (subst (λ x. MayHappen w (events.Deliver x)) same may), ap (λ (x : Packet). x.to) (sym same))

module _ (logged : LoggedRun) (part count : ℕ) where
  open logged use {base, estate as e, lines, texts, first}

  abbrev pub k : Cluster
  k = cluster base e

  -- ---- what tokens give the index

  -- An event that may happen at a moment that stands to all small worlds.
  pub record Coming (event : Event) : Type 0 where
    pub cluster : (moment e count).cluster ≡ cluster_of e.script.setup
    pub may : MayHappen (moment e count) event
    pub joint : Joint logged part count

  module _ (event : Event) (x : Coming event) where
    pub both_stand : BothStand true k part texts.text first (moment e count).nodes (moment e count).sent (moment e count).acts x.joint.tok x.joint.idx
    both_stand = record { tokens = x.joint.tokens_stand; index = x.joint.index_stands; same = x.joint.slots }

    -- what tokens give an event of each node
    pub tokens_given : TokensAreGiven → (node : AnyNode) → node_in (moment e count).nodes (place_of k (node_of event)) ≡ Some node
        → TokensGive part k.managers (index.holder part x.joint.idx) x.joint.idx.net (node_of event) node (what_of event)
    tokens_given law node at =
        law true k part texts.text first (moment e count).nodes (moment e count).sent (moment e count).acts x.joint.tok x.joint.idx (node_of event) node
        (what_of event) both_stand at
        (λ q fact. (let b = brought_by (moment e count) event x.may q fact in (x.joint.tokens_stand.facts q b.0, b.1)))

  -- ---- the manager

  module _ (j : ℕ) (there : There logged part (OfManager j)) where
    abbrev pub line : Line base e (OfManager j)
    line = lines (OfManager j) there

    abbrev pub g : Setting
    g = setting base e (OfManager j)

    -- the small world of its log after the event
    abbrev pub after : Scene
    after = line.scene (suc count)

    -- An event of manager j at such a moment, at which readers hold what came.
    pub record ManagerEvent (event : Event) (node : ManagerNode) : Type 0 where
      pub few : part < slot_count
      pub happens : slice_get e.events count ≡ Some event
      pub coming : Coming event
      pub own : node_of event ≡ Manager j
      pub took : Took (moment e count) event (any.Manager node)
      pub came : ReadingsCame e.world (moment e count)

    module _ (event : Event) (node : ManagerNode) (x : ManagerEvent event node) where
      abbrev pub what : Do
      what = what_of event

      abbrev pub joint : Joint logged part count
      joint = x.coming.joint

      pub here : node_in (moment e count).nodes (place_of k (Manager j)) ≡ Some (any.Manager node)
      here = subst (λ name. node_in (moment e count).nodes (place_of k name) ≡ Some (any.Manager node)) x.own
          (took_it k (moment e count) x.coming.cluster event (any.Manager node) x.took)

      here_then : node_in (moment e (suc count)).nodes (place_of k (Manager j)) ≡ Some (any.Manager (manager_step node what).node)
      here_then =
          let later : AnyNode = any.Manager (manager_step node what).node in
          subst (λ (w : World AnyNode). node_in w.nodes (place_of k (Manager j)) ≡ Some later) (sym (moment_next e count event x.happens))
          (subst (λ name. node_in (next_world any_step (moment e count) event).nodes (place_of k name) ≡ Some later) x.own
          (node_then k (moment e count) x.coming.cluster event (any.Manager node) x.took))

      named : node_named (moment e count) (Manager j) ≡ Some (any.Manager node)
      named = subst (λ (c : Cluster). node_in (moment e count).nodes (place_of c (Manager j)) ≡ Some (any.Manager node)) (sym x.coming.cluster) here

      in_tokens : joint.tok.manager j ≡ node
      in_tokens = same_manager (joint.tok.manager j) node (sym (joint.tokens_stand.placed.managers j there.0 there.1) ∙ here)

      in_index : joint.idx.manager j ≡ node
      in_index = same_manager (joint.idx.manager j) node (sym (joint.index_stands.placed.managers j there.0 there.1) ∙ here)

      -- ---- how it is seen

      pub tokens_see : tokens.ManagerSees k part joint.tok j node.phase
      tokens_see = subst (λ (m : ManagerNode). tokens.ManagerSees k part joint.tok j m.phase) in_tokens (joint.tokens_stand.managers j there.0 there.1)

      pub index_sees : places.ManagerAgrees part texts.text joint.idx.net node.phase
      index_sees = subst (λ (m : ManagerNode). places.ManagerAgrees part texts.text joint.idx.net m.phase) in_index
          (joint.index_stands.managers j there.0 there.1)

      -- what it holds of the segments that it reads came
      pub holds : ManagerHolds (answered_in (moment e count).sent (Manager j)) (cut_by (cuts_at e.world)) node
      holds = x.came.nodes (Manager j) (any.Manager node) named

      -- what comes was sent to it
      pub brought : (q : Packet) → what ≡ Deliver q → In q (moment e count).sent × (q.to ≡ Manager j)
      brought q fact = (let b = brought_by (moment e count) event x.coming.may q fact in (b.0, b.1 ∙ x.own))

      log_sees_then : manager_log.ManagerAgrees g j after (happens node what).state
      log_sees_then = (line.stands (suc count)).seen (Manager j) (any.Manager (manager_step node what).node) here_then refl

      -- what it writes are texts of their names
      pub writes : ManagersWriteTexts → WritesTexts part texts.text joint.idx.asked j joint.idx.net (happens node what).state
      writes law =
          law texts.text joint.idx.asked g j after (happens node what).state part joint.idx.net (line.stands (suc count)).moment
          (λ s fact. texts.flown (OfManager j) there (suc count) s fact) log_sees_then
