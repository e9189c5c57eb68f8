-- Every run of the nodes has one owner: each event keeps a moment standing to the small world of each slot, in which a block has one owner at most.
use Rattle.std.proofs.Common.{◌≡◌, ℕ, Bool, zero, suc, ◌<◌, true, false, List, [], ◌∷◌, Option, None, Some, take, refl, sym, ap, subst, ◌∙◌, arith}
use Rattle.std.specs.List.{fold}
use Rattle.client_node.specs.declared.phase.Phase.{Phase}
use Rattle.client_node.specs.declared.phase.Phase.TheVariants.{Down, Opening, Serving as Serves}
use Rattle.core_world.specs.AnyNode.{any_start, any_step}
use Rattle.core_world.specs.declared.any_node.AnyNode.{AnyNode}
use Rattle.node_slots.specs.node_tie.ClientEvents.{ClientAgrees}
use Rattle.node_slots.specs.node_tie.RegistryEvents.{RegistrySound}
use Rattle.token_client.specs.State.{TokensState, held_of}
use Rattle.node_slots.proofs.node_tie.SmallWorld.{with_promise}
use Rattle.token_law.specs.Laws.{IsClient, OneOwner}
use Rattle.version_model.specs.declared.act.Act.{Act}
use Rattle.wire_msg.specs.declared.packet.Packet.{Packet}
use Rattle.world_base.specs.Cluster.{cluster_of, place_of}
use Rattle.world_base.specs.declared.cluster.Cluster.{Cluster}
use Rattle.world_base.specs.declared.estate.Estate.{Estate}
use Rattle.node_base.specs.Setups.{IsSetup}
use Rattle.world_base.specs.declared.event.Event.{Event}
use Rattle.world_base.specs.declared.world.World.{World}
use Rattle.world_base.specs.NextWorld.{next_world, start_world}
use Rattle.world_base.specs.Runs.{IsRun, Leads, MayHappen}
use Rattle.run_laws.proofs.world_law.WaitingFalls.{FallsStand}
use Rattle.run_laws.proofs.world_law.Places.{behind}
use Rattle.run_laws.proofs.world_law.RegistryTurns.{slot_below}
use Rattle.run_laws.specs.world_law.Standing.{Scene, Stands, members}
use Rattle.run_laws.proofs.world_law.Start.{start_scene, start_stands}
use Rattle.run_laws.proofs.world_law.Turning.{next_cluster}
use Rattle.run_laws.proofs.world_law.Turns.{event_turns}
pub use Rattle.run_laws.proofs.world_law.Turns.{NodeLaws, one_node}
use Rattle.run_laws.specs.world_law.Owners.{EveryRunHasOneOwner}
use Rattle.headline.specs.Owners.{HasOneOwner, tokens_in, tokens_of}
use Rattle.headline.specs.Moments.{moment, node_in}
use Rattle.xfs_base.specs.Blocks.{slot_of}
use Rattle.xfs_base.specs.declared.block.BlockId.{BlockId}
use Rattle.xfs_base.specs.declared.node.NodeId.TheVariants.{Client}
use Rattle.xfs_base.specs.Modes.{is_held, is_own}
use Rattle.xfs_base.proofs.Booleans.{equal_itself}
use Rattle.xfs_base.specs.Limits.{slot_count}

module _ (laws : NodeLaws) (k : Cluster) (part : ℕ) (of_eight : part < slot_count) where
  abbrev pub Good : List AnyNode → List Packet → List Act → Type 0
  Good nodes sent acts = (s : Scene) × Stands false k part nodes sent acts RegistrySound s × FallsStand (members k part) s.net acts

  pub event_keeps : (w : World AnyNode) → w.cluster ≡ k → (event : Event) → MayHappen w event → Good w.nodes w.sent w.acts
      → Good (next_world any_step w event).nodes (next_world any_step w event).sent (next_world any_step w event).acts
  event_keeps w cluster event may good =
      (let t = event_turns laws false k part of_eight w event false good.0 cluster may good.1 (λ node there. tt) in (t.next, t.stands, t.falls good.2))

  abbrev pub GoodWorld : World AnyNode → Type 0
  GoodWorld w = Good w.nodes w.sent w.acts

  -- so does each front of a run
  pub front_keeps : (events_ : List Event) (count : ℕ) (w end : World AnyNode) → w.cluster ≡ k → Leads any_step w events_ end → Good w.nodes w.sent w.acts
      → ((fold (next_world any_step) w (take count events_)).cluster ≡ k) × GoodWorld (fold (next_world any_step) w (take count events_))
  front_keeps [] zero w end cluster leads good = (cluster, good)
  front_keeps [] (suc count) w end cluster leads good = (cluster, good)
  front_keeps (event ∷ more) zero w end cluster leads good = (cluster, good)
  front_keeps (event ∷ more) (suc count) w end cluster leads good =
      front_keeps more count (next_world any_step w event) end (next_cluster any_step w event ∙ cluster) leads.1 (event_keeps w cluster event leads.0 good)

  -- ---- what is read off

  -- a client that serves has its tokens in the small world
  pub record ServesThere (s : Scene) (c : ℕ) (t : TokensState) : Type 0 where
    pub client : IsClient (members k part) c
    pub up : s.net.up c ≡ true
    pub tokens : s.net.tokens c ≡ t

  pub serves_there : {logs : Bool} (nodes : List AnyNode) (sent : List Packet) (acts : List Act) (s : Scene)
      → Stands logs k part nodes sent acts RegistrySound s → (c : ℕ) (t : TokensState) → tokens_of (node_in nodes (place_of k (Client c))) ≡ Some t
      → ServesThere s c t
  serves_there {logs = logs} nodes sent acts s st c t fact = by_place (place_of k (Client c)) refl
    where
      by_phase : (p : Phase) → ClientAgrees logs part c s.net p → IsClient (members k part) c → tokens_in p ≡ Some t → ServesThere s c t
      by_phase (Down l) agrees client none = absurd (cc)
      by_phase (Opening l o) agrees client none = absurd (cc)
      by_phase (Serves v) agrees client has = record { client = client; up = agrees.up; tokens = agrees.tokens ∙ one_node v.tokens t has }

      by_place : (o : Option ℕ) → place_of k (Client c) ≡ o → ServesThere s c t
      by_place None at = (let clash : None ≡ Some t = sym (ap (λ o. tokens_of (node_in nodes o)) at) ∙ fact in absurd (cc))
      by_place (Some p) at =
          let b = behind 0 k.clients c p at in
          let less : c < members k part = (let limit = b.within in omega arith) in
          by_phase (s.client c).phase (st.clients c b.some less).0 (record { some = b.some; within = less })
          (sym (ap tokens_of (st.placed.clients c b.some less)) ∙ fact)

-- each moment of a run stands to the small world of each slot
pub front : (laws : NodeLaws) (e : Estate AnyNode) → IsSetup e.script.setup → IsRun any_step any_start e.script e.events e.world
    → (count part : ℕ) (of_eight : part < slot_count)
    → ((moment e count).cluster ≡ cluster_of e.script.setup) × GoodWorld laws (cluster_of e.script.setup) part of_eight (moment e count)
unfolding start_world
front laws e setup run count part of_eight =
    front_keeps laws (cluster_of e.script.setup) part of_eight e.events count (start_world any_start e.script) e.world refl run (
      start_scene false laws.starts_asking laws.first_manager laws.cleaner_starts laws.begins e.script setup.clients.1 setup.managers.0 part of_eight,
      start_stands false laws.starts_asking laws.first_manager laws.cleaner_starts laws.begins e.script setup.clients.1 setup.managers.0 part of_eight,
      λ b c names. absurd names.among,
    )

-- ---- the small world of a block's slot

module _ (laws : NodeLaws) (w : World AnyNode) (k : Cluster) (good : (part : ℕ) (of_eight : part < slot_count) → GoodWorld laws k part of_eight w) (b : BlockId) where
  abbrev pub slot_scene : Scene
  slot_scene = (good (slot_of b.ino.0) (slot_below b.ino.0)).0

  pub slot_stands : Stands false k (slot_of b.ino.0) w.nodes w.sent w.acts RegistrySound slot_scene
  slot_stands = (good (slot_of b.ino.0) (slot_below b.ino.0)).1

  pub slot_serves : w.cluster ≡ k → (c : ℕ) (t : TokensState) → tokens_of (node_in w.nodes (place_of w.cluster (Client c))) ≡ Some t
      → ServesThere laws k (slot_of b.ino.0) (slot_below b.ino.0) slot_scene c t
  slot_serves cluster c t at_c =
      serves_there laws k (slot_of b.ino.0) (slot_below b.ino.0) w.nodes w.sent w.acts slot_scene slot_stands c t
      (subst (λ cl. tokens_of (node_in w.nodes (place_of cl (Client c))) ≡ Some t) cluster at_c)

module _ (laws : NodeLaws) (small : OneOwner) where
  one_owner_now : (w : World AnyNode) (k : Cluster) → w.cluster ≡ k → ((part : ℕ) (of_eight : part < slot_count) → GoodWorld laws k part of_eight w) → HasOneOwner w
  one_owner_now w k cluster good b c d s t at_c at_d own held =
      let part = slot_of b.ino.0 in
      let x = slot_serves laws w k good b cluster c s at_c in
      let y = slot_serves laws w k good b cluster d t at_d in
      small false (members k part) part (with_promise 1 (slot_scene laws w k good b).net) b
      (record { run = (slot_stands laws w k good b).runs; inside = equal_itself part }) c d x.client y.client x.up y.up
      (subst (λ (t : TokensState). is_own (held_of t.blocks b).mode ≡ true) (sym x.tokens) own)
      (subst (λ (t : TokensState). is_held (held_of t.blocks b).mode ≡ true) (sym y.tokens) held)

  pub every_run : EveryRunHasOneOwner
  every_run e setup run count =
      one_owner_now (moment e count) (cluster_of e.script.setup) (front laws e setup run count 0 (omega arith)).0
      (λ part of_eight. (front laws e setup run count part of_eight).1)
