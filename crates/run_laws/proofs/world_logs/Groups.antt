-- Groups stay as they are made: what the registry's map names at one moment of a run it names at the end, over the same members; and the map stays well formed.
use Rattle.std.proofs.Common.{◌≡◌, ◌⊎◌, ℕ, List, [], ◌∷◌, Option, None, Some, slice_get, slice_set, inl, inr, refl, sym, ap, subst, ◌∙◌, arith}
use Rattle.std.specs.Prelude.{IsSomeAnd}
use Rattle.core_world.specs.AnyNode.{any_step}
use Rattle.core_world.specs.declared.any_node.AnyNode.{AnyNode}
use Rattle.core_world.specs.declared.any_node.AnyNode.TheVariants as any
use Rattle.group_map.proofs.WellFormedMaps.{IsGroupMap-group_map_start}
use Rattle.group_map.specs.declared.group.Group.{Group}
use Rattle.group_map.specs.Groups.{known_group as group_in, group_of}
use Rattle.group_map.specs.GroupMapState.{GroupMapState}
use Rattle.group_map.specs.Losses.{IsLater, Loss, after_losses}
use Rattle.group_map.specs.WellFormed.{IsGroupMap}
use Rattle.log_tie.specs.Setting.{Stripe, stripe_of_group}
use Rattle.node_base.specs.Setups.{IsSetup}
use Rattle.node_logs.proofs.node_log_tie.Others.{same_or_other}
use Rattle.node_moves.proofs.registry_moves.Keeping.{Keeps, event_keeps}
use Rattle.registry.proofs.Losses.{loss_heard, loss_kept}
use Rattle.registry.specs.BoardState.{BoardState}
use Rattle.registry_node.specs.declared.node.RegistryNode.{RegistryNode}
use Rattle.registry_node.specs.Events.{registry_start, registry_step}
use Rattle.version_model.specs.declared.work.Work.{Work}
use Rattle.wire_msg.specs.declared.packet.Do.{Do}
use Rattle.world_base.specs.Cluster.{place_of}
use Rattle.world_base.specs.declared.cluster.Cluster.{Cluster}
use Rattle.world_base.specs.declared.event.Event.{Event}
use Rattle.world_base.specs.declared.world.World.{World}
use Rattle.world_base.specs.Events.{node_of, what_of}
use Rattle.world_base.specs.NextWorld.{next_world}
use Rattle.world_base.specs.Runs.{Leads}
use Rattle.run_laws.proofs.world_law.Nodes as places
use Rattle.run_laws.proofs.world_law.Turning.{next_cluster, next_keeps}
use Rattle.headline.specs.Moments.{node_in, node_named}
use Rattle.headline.specs.Horizons.{board_of}
use Rattle.headline.specs.Servers.{group_at, groups_of}
use Rattle.xfs_base.specs.declared.node.NodeId.{NodeId}
use Rattle.xfs_base.specs.declared.node.NodeId.TheVariants.{Registry}
use Rattle.xfs_base.specs.declared.setup.Setup.{Setup}

-- the law of the map of groups
abbrev pub GroupsStay : Type 0
GroupsStay = (state : GroupMapState) (losses : List Loss) (id : ℕ) (group : Group) → group_of state id ≡ Some group
    → IsSomeAnd (group_of (after_losses state losses) id) (IsLater group)

-- a group of this stripe is named
pub record Names (o : Option Group) (stripe : Stripe) : Type 0 where
  pub group : Group
  pub named : o ≡ Some group
  pub stripe_is : stripe_of_group group ≡ stripe

-- what one map names the other names, over the same members
abbrev pub Stay : GroupMapState → GroupMapState → Type 0
Stay m n = (id : ℕ) (group : Group) → group_of m id ≡ Some group → Names (group_of n id) (stripe_of_group group)

stay_still : (m : GroupMapState) → Stay m m
stay_still m id group fact = record { group = group; named = fact; stripe_is = refl }

-- the map of a registry is well formed
abbrev pub HasMap : Option AnyNode → Type 0
HasMap o = (m : GroupMapState) → groups_of o ≡ Some m → IsGroupMap m

pub same_groups : (m n : GroupMapState) → Some m ≡ Some n → m ≡ n
same_groups m n fact = cc

pub board_has_map : (o : Option AnyNode) (b : BoardState) → board_of o ≡ Some b → IsGroupMap b.groups → HasMap o
board_has_map None b fact ok m at = absurd cc
board_has_map (Some (any.Client node)) b fact ok m at = absurd cc
board_has_map (Some (any.Manager node)) b fact ok m at = absurd cc
board_has_map (Some (any.Server node)) b fact ok m at = absurd cc
board_has_map (Some (any.Cleaner node)) b fact ok m at = absurd cc
board_has_map (Some (any.Registry node)) b fact ok m at =
    subst IsGroupMap (ap (λ (x : BoardState). x.groups) (sym (same_board node.board b fact)) ∙ same_groups node.board.groups m at) ok
  where
    same_board : (a b : BoardState) → Some a ≡ Some b → a ≡ b
    same_board a b fact = cc

-- the one of the setup
pub first_map : (setup : Setup) → IsSetup setup → (items : List Work) → IsGroupMap (registry_start setup items).board.groups
first_map setup ok items =
    IsGroupMap-group_map_start setup.servers setup.groups ok.count.0 (let c = ok.count.1 in omega arith) ok.sizes ok.exist ok.differ ok.parity

module _ (law : GroupsStay) where
  lost_stay : (m : GroupMapState) (server generation : ℕ) → Stay m (after_losses m (record { server = server; generation = generation } ∷ []))
  lost_stay m server generation id group fact =
      by (group_of (after_losses m (record { server = server; generation = generation } ∷ [])) id) refl
      (law m (record { server = server; generation = generation } ∷ []) id group fact)
    where
      by : (o : Option Group) → group_of (after_losses m (record { server = server; generation = generation } ∷ [])) id ≡ o → IsSomeAnd o (IsLater group)
          → Names (group_of (after_losses m (record { server = server; generation = generation } ∷ [])) id) (stripe_of_group group)
      by None at some = absurd some
      by (Some later) at some = record { group = later; named = at; stripe_is = λ i. record { members = some.members i; parity = some.parity i } }

  -- ---- the registry

  -- what one map names the next one names, and it stays well formed
  record Kept (m n : GroupMapState) : Type 0 where
    stay : Stay m n
    map : IsGroupMap m → IsGroupMap n

  same_map : (m : GroupMapState) → Kept m m
  same_map m = record { stay = stay_still m; map = λ fact. fact }

  abbrev KeptSince : BoardState → BoardState → Type 0
  KeptSince b c = Kept b.groups c.groups

  keeps : (r : RegistryNode) (what : Do) → Keeps r what (KeptSince r.board) (λ now e. Unit {0})
  keeps r what = record {
    restarts = λ packet m manager came from hears h. h;
    loses = λ packet m server came from hears h. record {
      stay = lost_stay r.board.groups server m.inc;
      map = loss_kept r.board.groups server m.inc (loss_heard r.board server m.inc hears);
    };
    moves = λ slot manager can h. h;
    checkpoints = λ packet m came kept h. h;
    says = λ now e h said. tt;
  }

  groups_kept : (r : RegistryNode) (what : Do) → Kept r.board.groups (registry_step r what).node.board.groups
  groups_kept r what = (event_keeps r what (KeptSince r.board) (λ now e. Unit {0}) (keeps r what) (same_map r.board.groups)).state

  -- ---- the world

  -- the registry's map at one place of nodes names what it named before, and stays well formed
  record InTime (before now : Option AnyNode) : Type 0 where
    stays : (id : ℕ) (group : Group) → group_in (groups_of before) id ≡ Some group → Names (group_in (groups_of now) id) (stripe_of_group group)
    map : HasMap before → HasMap now

  in_time_still : (o : Option AnyNode) → InTime o o
  in_time_still o = record { stays = λ id group fact. record { group = group; named = fact; stripe_is = refl }; map = λ h. h }

  by_turn : (x : AnyNode) (what : Do) → InTime (Some x) (Some (any_step x what).node)
  by_turn (any.Client node) what = record { stays = λ id group fact. absurd cc; map = λ h m fact. absurd cc }
  by_turn (any.Manager node) what = record { stays = λ id group fact. absurd cc; map = λ h m fact. absurd cc }
  by_turn (any.Server node) what = record { stays = λ id group fact. absurd cc; map = λ h m fact. absurd cc }
  by_turn (any.Cleaner node) what = record { stays = λ id group fact. absurd cc; map = λ h m fact. absurd cc }
  by_turn (any.Registry node) what =
      let k : Kept node.board.groups (registry_step node what).node.board.groups = groups_kept node what in
      record {
        stays = k.stay;
        map = λ h m fact. subst IsGroupMap (same_groups (registry_step node what).node.board.groups m fact) (k.map (h node.board.groups refl));
      }

  module _ (k : Cluster) where
    abbrev at_registry : List AnyNode → Option AnyNode
    at_registry nodes = node_in nodes (place_of k Registry)

    by_place : (nodes : List AnyNode) (name : NodeId) (place : ℕ) (what : Do) (x : AnyNode) → place_of k name ≡ Some place → slice_get nodes place ≡ Some x
        → InTime (at_registry nodes) (at_registry (slice_set nodes place (any_step x what).node))
    by_place nodes name place what x at fact = by (same_or_other Registry name)
      where
        y : AnyNode
        y = (any_step x what).node

        by : (Registry ≡ name) ⊎ (Registry ≡ name → ⊥) → InTime (at_registry nodes) (at_registry (slice_set nodes place y))
        by (inl same) =
            let here : at_registry (slice_set nodes place y) ≡ Some y =
            subst (λ n. node_in (slice_set nodes place y) (place_of k n) ≡ Some y) (sym same) (places.here k nodes name place at y x fact) in
            let was : at_registry nodes ≡ Some x = ap (node_in nodes) (subst (λ n. place_of k n ≡ Some place) (sym same) at) ∙ fact in
            subst (λ o. InTime o (at_registry (slice_set nodes place y))) (sym was) (subst (InTime (Some x)) (sym here) (by_turn x what))
        by (inr differs) = subst (InTime (at_registry nodes)) (sym (places.there k nodes name place at y Registry differs)) (in_time_still (at_registry nodes))

  -- one world's map names what the other's did
  abbrev pub StayIn : World AnyNode → World AnyNode → Type 0
  StayIn w v = (id : ℕ) (group : Group) → group_at w id ≡ Some group → Names (group_at v id) (stripe_of_group group)

  in_time : (w : World AnyNode) (event : Event) → InTime (at_registry w.cluster w.nodes) (at_registry w.cluster (next_world any_step w event).nodes)
  in_time w event =
      next_keeps any_step (λ nodes sent acts. InTime (at_registry w.cluster w.nodes) (at_registry w.cluster nodes)) w event
      (in_time_still (at_registry w.cluster w.nodes))
      (λ place x clock at here. by_place w.cluster w.nodes (node_of event) place (what_of event) x at here)

  in_next : (w : World AnyNode) (event : Event) → StayIn w (next_world any_step w event)
  in_next w event id group fact =
      subst (λ cl. Names (group_in (groups_of (node_in (next_world any_step w event).nodes (place_of cl Registry))) id) (stripe_of_group group))
      (sym (next_cluster any_step w event))
      ((in_time w event).stays id group fact)

  -- at the end of a run the map is well formed, if it was so before
  pub map_in_run : (events : List Event) (w end : World AnyNode) → Leads any_step w events end → HasMap (node_named w Registry)
      → HasMap (node_named end Registry)
  map_in_run [] w end leads h = subst (λ v. HasMap (node_named v Registry)) leads h
  map_in_run (event ∷ events) w end leads h =
      map_in_run events (next_world any_step w event) end leads.1
      (subst (λ cl. HasMap (node_in (next_world any_step w event).nodes (place_of cl Registry))) (sym (next_cluster any_step w event))
      ((in_time w event).map h))

  stay_on : (u v w : World AnyNode) → StayIn u v → StayIn v w → StayIn u w
  stay_on u v w a b id group fact =
      (let x = a id group fact in let y = b id x.group x.named in record { group = y.group; named = y.named; stripe_is = y.stripe_is ∙ x.stripe_is })

  pub in_run : (events : List Event) (w end : World AnyNode) → Leads any_step w events end → StayIn w end
  in_run [] w end leads = subst (StayIn w) leads (λ id group fact. record { group = group; named = fact; stripe_is = refl })
  in_run (event ∷ events) w end leads = stay_on w (next_world any_step w event) end (in_next w event) (in_run events (next_world any_step w event) end leads.1)
