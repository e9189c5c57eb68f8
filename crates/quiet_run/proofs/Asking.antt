-- Between two lines each client asks for its call alone, and what it knows of blocks stands in order: so it is at the start, and each event keeps it so, whichever
-- packets come.
use Rattle.std.proofs.Common.{◌≡◌, ◌≤◌, ℕ, zero, suc, true, false, cond, List, [], ◌∷◌, ◌++◌, map, refl, sym, subst}
use Rattle.std.specs.List.{AllByRecursion, range_with_len}
use Rattle.core_world.specs.AnyNode.{any_step}
use Rattle.core_world.specs.declared.any_node.AnyNode.{AnyNode}
use Rattle.core_world.specs.declared.any_node.AnyNode.TheVariants as any
use Rattle.node_base.specs.Nodes.{has_node, peers_of}
use Rattle.node_slots.proofs.node_tie.AsksEvents.{first_asks, phase_asks}
use Rattle.node_slots.specs.node_tie.AskingEvents.{PhaseAsks}
use Rattle.quiet_flow.proofs.Places.{has_fact}
use Rattle.quiet_flow.specs.Flow.{Done, Drains, Stage, begins, delivers, flows, happens, one_more, rounds, ticks}
use Rattle.quiet_gets.specs.Passing.{AreInOrder}
use Rattle.quiet_law.specs.Lines.{Ends, EndsAfterRound, Stands}
use Rattle.quiet_nodes.proofs.Starts.{starts_as}
use Rattle.quiet_nodes.specs.Scene.{Scene, client_at, node_at}
use Rattle.quiet_nodes.specs.Start.{start_scene}
use Rattle.version_model.specs.declared.work.Work.{Work}
use Rattle.wire_msg.specs.declared.packet.Do.{Do}
use Rattle.wire_msg.specs.declared.packet.Do.TheVariants.{Begin, Deliver, Tick}
use Rattle.wire_msg.specs.declared.packet.Packet.{Packet}
use Rattle.world_base.proofs.Standing.{stands}
use Rattle.world_base.specs.Cluster.{HasNode, cluster_of, node_count, nodes_of}
use Rattle.world_base.specs.Cluster as cluster
use Rattle.xfs_base.specs.declared.node.NodeId.{NodeId}
use Rattle.xfs_base.specs.declared.node.NodeId.TheVariants.{Client, Manager, Server, Cleaner, Registry}
use Rattle.xfs_base.specs.declared.setup.Setup.{Setup}
use Rattle.xfs_base.specs.Nodes.{same_node}
use Rattle.xfs_base.specs.Steps.{steps}

-- a node that asks for its call alone, if it is a client that serves
abbrev pub Asks : AnyNode → Type 0
Asks (any.Client node) = PhaseAsks node.phase
Asks (any.Manager node) = Unit {0}
Asks (any.Server node) = Unit {0}
Asks (any.Cleaner node) = Unit {0}
Asks (any.Registry node) = Unit {0}

step_keeps : (x : AnyNode) (what : Do) → Asks x → Asks (any_step x what).node
step_keeps (any.Client node) what h = phase_asks node what h
step_keeps (any.Manager node) what h = tt
step_keeps (any.Server node) what h = tt
step_keeps (any.Cleaner node) what h = tt
step_keeps (any.Registry node) what h = tt

module _ (setup : Setup) where
  -- each node of a stage does
  abbrev pub Holds : Stage AnyNode → Type 0
  Holds t = (name : NodeId) → HasNode setup name → Asks (t.node name)

  happens_keeps : (t : Stage AnyNode) (name : NodeId) (what : Do) → Asks (t.node name) → Holds t → Holds (happens any_step t name what).state
  unfolding happens
  happens_keeps t name what own h other has =
      elim (same_node other name) as (λ b. Asks (cond b (any_step (t.node name) what).node (t.node other)))
      [ true ↦ step_keeps (t.node name) what own | false ↦ h other has ]

  delivers_keeps : (t : Stage AnyNode) (packet : Packet) → Holds t → Holds (delivers any_step setup t packet).state
  unfolding delivers
  delivers_keeps t packet h =
      elim (has_node (peers_of setup) packet.to) as
      (λ b. has_node (peers_of setup) packet.to ≡ b → Holds (cond b (happens any_step t packet.to (Deliver packet)) (record { state = t; outs = [] })).state) [
        | true ↦ λ there. happens_keeps t packet.to (Deliver packet) (h packet.to (has_fact setup packet.to there)) h
        | false ↦ λ _. h
      ] refl

  flows_keep : (n : ℕ) (t : Stage AnyNode) (waiting : List Packet) → Holds t → Holds (flows any_step setup n t waiting).state
  unfolding flows
  flows_keep zero t waiting h = h
  flows_keep (suc n) t [] h = h
  flows_keep (suc n) t (packet ∷ waiting) h =
      flows_keep n (delivers any_step setup t packet).state (waiting ++ (delivers any_step setup t packet).outs) (delivers_keeps t packet h)

  pub drains_keep : (n : ℕ) (t end : Stage AnyNode) (waiting : List Packet) → Drains any_step setup n t waiting end → Holds t → Holds end
  drains_keep n t end waiting drains h = subst (λ (x : Done AnyNode). Holds x.state) drains (flows_keep n t waiting h)

  ticks_keep : (names : List NodeId) → AllByRecursion (HasNode setup) names → (t : Stage AnyNode) → Holds t → Holds (steps (ticks any_step setup) t names).state
  ticks_keep [] all t h = h
  ticks_keep (name ∷ names) all t h = ticks_keep names all.1 (ticks any_step setup t name).state (happens_keeps t name Tick (h name all.0) h)

  all_stand : (places : List ℕ) → AllByRecursion (HasNode setup) (map (cluster.node_at (cluster_of setup)) places)
  all_stand [] = tt
  all_stand (p ∷ places) = (stands setup p, all_stand places)

  pub rounds_keep : (t : Stage AnyNode) → Holds t → Holds (rounds any_step setup t).state
  rounds_keep t h = ticks_keep (nodes_of (cluster_of setup)) (all_stand (range_with_len 0 (node_count (cluster_of setup)))) t h

  pub begins_keep : (t : Stage AnyNode) (name : NodeId) → HasNode setup name → Holds t → Holds (begins any_step t name).state
  begins_keep t name has h = happens_keeps (one_more t) name Begin (h name has) h

  -- ---- scenes

  module _ (works : NodeId → List Work) where
    -- each client of a scene does
    abbrev pub AllAsk : Scene → Type 0
    AllAsk s = (e : ℕ) → 1 ≤ e → e ≤ setup.clients → PhaseAsks (client_at setup works e (s.client e)).phase

    -- so what they know of blocks stands in order
    pub in_order : (s : Scene) → AllAsk s → AreInOrder setup works s
    in_order s all e least most = (all e least most).sound.sorted

    pub start_asks : 1 ≤ setup.managers → AllAsk start_scene
    start_asks managers e least most = subst Asks (starts_as setup works managers (Client e)) (first_asks e setup (works (Client e)))

    scene_holds : (s : Scene) → AllAsk s → (name : NodeId) → HasNode setup name → Asks (node_at setup works s name)
    scene_holds s all (Client e) has = all e has.0 has.1
    scene_holds s all (Manager j) has = tt
    scene_holds s all (Server v) has = tt
    scene_holds s all Cleaner has = tt
    scene_holds s all Registry has = tt

    stage_holds : (s : Scene) (t : Stage AnyNode) → Stands setup works s t → AllAsk s → Holds t
    stage_holds s t stands all name has = subst Asks (sym (stands.placed name has)) (scene_holds s all name has)

    all_ask : (s : Scene) (t : Stage AnyNode) → Stands setup works s t → Holds t → AllAsk s
    all_ask s t stands h e least most = subst Asks (stands.placed (Client e) (least, most)) (h (Client e) (least, most))

    module _ (k : ℕ) (s : Scene) (t : Stage AnyNode) (c item : ℕ) (stands : Stands setup works s t) (has : HasNode setup (Client c)) (all : AllAsk s) where
      pub asks_then : (most : ℕ) (e : Ends setup works k most s t c item) → AllAsk e.scene
      asks_then most e =
          all_ask e.scene e.end e.answered.stands
          (drains_keep e.deliveries (begins any_step t (Client c)).state e.end (begins any_step t (Client c)).outs e.drains
          (begins_keep t (Client c) has (stage_holds s t stands all)))

      pub asks_later : (most more : ℕ) (e : EndsAfterRound setup works k most more s t c item) → AllAsk e.scene
      asks_later most more e =
          all_ask e.scene e.end e.answered.stands
          (drains_keep e.second (rounds any_step setup e.mid).state e.end (rounds any_step setup e.mid).outs e.second_drains
          (rounds_keep e.mid
          (drains_keep e.first (begins any_step t (Client c)).state e.mid (begins any_step t (Client c)).outs e.first_drains
          (begins_keep t (Client c) has (stage_holds s t stands all)))))
