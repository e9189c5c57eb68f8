-- At each moment of every run readers hold what came.
use Rattle.std.proofs.Common.{◌≡◌, ℕ, zero, suc, ◌+◌, List, [], ◌∷◌, Option, Some, None, take, refl, sym, ap, subst, ◌∙◌, arith}
use Rattle.std.specs.List.{fold}
use Rattle.core_world.specs.AnyNode.{any_start, any_step}
use Rattle.core_world.specs.declared.any_node.AnyNode.{AnyNode}
use Rattle.group_map.specs.Groups as groups
use Rattle.group_map.specs.GroupMapState.{GroupMapState}
use Rattle.node_base.specs.Setups.{IsSetup}
use Rattle.registry_node.specs.Events.{registry_start}
use Rattle.world_base.specs.Cluster.{cluster_of, place_of}
use Rattle.world_base.specs.declared.cluster.Cluster.{Cluster}
use Rattle.world_base.specs.declared.estate.Estate.{Estate}
use Rattle.world_base.specs.declared.event.Event.{Event}
use Rattle.world_base.specs.declared.world.World.{World}
use Rattle.world_base.specs.Items.{items_of}
use Rattle.world_base.specs.NextWorld.{first_nodes, next_world, start_world}
use Rattle.world_base.specs.Runs.{IsRun, Leads}
use Rattle.run_laws.proofs.world_law.Laws as tokens
use Rattle.run_laws.proofs.world_law.Laws.{one_node}
use Rattle.run_laws.proofs.world_law.Start.{first_stands}
use Rattle.run_laws.proofs.world_law.Turning.{next_cluster}
use Rattle.headline.specs.Moments.{moment, node_in, node_named}
use Rattle.run_laws.proofs.world_logs.Groups.{GroupsStay, HasMap, StayIn, board_has_map, first_map, in_run, map_in_run}
use Rattle.run_laws.proofs.world_logs.Says.{may_say}
use Rattle.headline.specs.Horizons.{board_of}
use Rattle.group_map.specs.Groups.{known_group as group_in}
use Rattle.headline.specs.Servers.{groups_of}
use Rattle.xfs_base.specs.declared.node.NodeId.{NodeId}
use Rattle.xfs_base.specs.declared.node.NodeId.TheVariants.{Registry}
use Rattle.xfs_base.specs.declared.setup.Setup.{Setup}
use Rattle.run_laws.specs.reading_law.Readings.{cuts_at, AnyHolds, ReadingsCame, RunsReadWhatCame}
use Rattle.run_laws.proofs.reading_law.Maps.{kind_starts, map_so}
use Rattle.run_laws.proofs.reading_law.Turns.{Good, Known, NodeLaws, NodeSo, any_starts, event_keeps}
use Rattle.node_tellings.specs.reading_tie.Arrivals.{Cuts, cut_by}
use Rattle.node_tellings.specs.reading_tie.Came.{MapStriped}

-- the laws that the readers stand on
pub record Below : Type 0 where
  pub nodes : NodeLaws
  pub tokens : tokens.NodeLaws
  pub groups : GroupsStay

module _ (below : Below) (end : World AnyNode) (k : Cluster) where
  abbrev Tokens : World AnyNode → Type 0
  Tokens w = tokens.GoodWorld below.tokens k 0 (omega arith) w

  abbrev GoodNow : World AnyNode → Type 0
  GoodNow w = Good below.nodes (cuts_at end) k w.nodes w.sent

  -- the registry's map is cut as that of the end
  registry_so : (w : World AnyNode) → w.cluster ≡ k → StayIn below.groups w end → HasMap (node_named w Registry) → (m : GroupMapState)
      → groups_of (node_in w.nodes (place_of k Registry)) ≡ Some m → MapStriped (cut_by (cuts_at end)) m
  registry_so w cluster stays has m found =
      let here : groups_of (node_named w Registry) ≡ Some m = subst (λ c. groups_of (node_in w.nodes (place_of c Registry)) ≡ Some m) (sym cluster) found in
      map_so end m (has m here) (λ id group fact. stays id group (ap (λ o. group_in o id) here ∙ fact))

  known_now : (w : World AnyNode) → w.cluster ≡ k → Tokens w → StayIn below.groups w end → HasMap (node_named w Registry)
      → Known below.nodes (cuts_at end) k w.nodes w.sent
  known_now w cluster tok stays has = record { says = λ q h. may_say k 0 tok.0 q (tok.1.facts q h); registry = registry_so w cluster stays has }

  front_keeps : (events_ : List Event) (count : ℕ) (w : World AnyNode) → w.cluster ≡ k → Leads any_step w events_ end → Tokens w
      → HasMap (node_named w Registry) → GoodNow w → GoodNow (fold (next_world any_step) w (take count events_))
  front_keeps events_ zero w cluster leads tok has good = good
  front_keeps [] (suc count) w cluster leads tok has good = good
  front_keeps (event ∷ more) (suc count) w cluster leads tok has good =
      let next : World AnyNode = next_world any_step w event in
      let next_in : next.cluster ≡ k = next_cluster any_step w event ∙ cluster in
      let next_tok : Tokens next = tokens.event_keeps below.tokens k 0 (omega arith) w cluster event leads.0 tok in
      let next_has : HasMap (node_named next Registry) = map_in_run below.groups (event ∷ []) w next (leads.0, refl) has in
      front_keeps more count next next_in leads.1 next_tok next_has
      (event_keeps below.nodes (cuts_at end) k w cluster event leads.0 good
      (known_now next next_in next_tok (in_run below.groups more next end leads.1) next_has))

-- ---- the start

module _ (below : Below) (e : Estate AnyNode) (ok : IsSetup e.script.setup) (run : IsRun any_step any_start e.script e.events e.world) where
  abbrev setup : Setup
  setup = e.script.setup

  abbrev k : Cluster
  k = cluster_of setup

  abbrev cuts : Cuts
  cuts = cuts_at e.world

  -- the registry starts with a well formed map
  first_registry : board_of (node_named (start_world any_start e.script) Registry) ≡ Some (registry_start setup (items_of e.script.lines Registry)).board
  unfolding start_world
  first_registry = ap board_of (first_stands e.script Registry (setup.clients + setup.managers + setup.servers + 1) refl)

  has_map : HasMap (node_named (start_world any_start e.script) Registry)
  has_map =
      board_has_map (node_named (start_world any_start e.script) Registry) (registry_start setup (items_of e.script.lines Registry)).board first_registry
      (first_map setup ok (items_of e.script.lines Registry))

  start_map : MapStriped (cut_by cuts) (groups.group_map_start setup.servers setup.groups)
  unfolding start_world
  start_map =
      registry_so below e.world k (start_world any_start e.script) refl (in_run below.groups e.events (start_world any_start e.script) e.world run) has_map
      (groups.group_map_start setup.servers setup.groups)
      (ap groups_of (first_stands e.script Registry (setup.clients + setup.managers + setup.servers + 1) refl))

  start_node : (name : NodeId) (x : AnyNode) → node_in (first_nodes any_start e.script k) (place_of k name) ≡ Some x → NodeSo below.nodes cuts [] name x
  start_node name x found = by (place_of k name) refl
    where
      by : (o : Option ℕ) → place_of k name ≡ o → NodeSo below.nodes cuts [] name x
      by None at = (let clash : None ≡ Some x = sym (ap (node_in (first_nodes any_start e.script k)) at) ∙ found in absurd cc)
      by (Some place) at =
          let items = items_of e.script.lines name in
          subst (NodeSo below.nodes cuts [] name) (one_node (any_start name setup items) x (sym (first_stands e.script name place at) ∙ found))
          (record { kind = kind_starts name setup items; holds = any_starts below.nodes cuts name setup items start_map })

  start_good : Good below.nodes cuts k (start_world any_start e.script).nodes (start_world any_start e.script).sent
  unfolding start_world
  start_good = record { nodes = start_node; maps = λ q h. absurd h }

  start_cluster : (start_world any_start e.script).cluster ≡ k
  unfolding start_world
  start_cluster = refl

  good_at : (count : ℕ) → Good below.nodes cuts k (moment e count).nodes (moment e count).sent
  good_at count =
      front_keeps below e.world k e.events count (start_world any_start e.script) start_cluster run
      (tokens.front below.tokens e ok run 0 0 (omega arith)).1 has_map start_good

  came_at : (count : ℕ) → ReadingsCame e.world (moment e count)
  came_at count =
      let good = good_at count in
      let cluster : (moment e count).cluster ≡ k = (tokens.front below.tokens e ok run count 0 (omega arith)).0 in
      record {
        nodes = λ name x found. node_came name x (good.nodes name x (subst (λ c. node_in (moment e count).nodes (place_of c name) ≡ Some x) cluster found));
        maps = good.maps;
      }
    where
      node_came : (name : NodeId) (x : AnyNode) → NodeSo below.nodes cuts (moment e count).sent name x → AnyHolds (moment e count).sent name cuts x
      node_came name x so = so.holds

pub runs_read : Below → RunsReadWhatCame
runs_read below e ok run count = came_at below e ok run count
