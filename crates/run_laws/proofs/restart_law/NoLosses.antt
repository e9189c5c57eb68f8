-- A script without a line by which a server loses its disk has runs alone in which none is lost.
use Rattle.std.proofs.Common.{◌≡◌, ⊎_elim, ℕ, zero, suc, ◌+◌, ◌≤◌, List, [], ◌∷◌, Option, Some, None, length, take, slice_get, slice_set, refl, sym, ap, subst, ◌∙◌, arith}
use Rattle.std.specs.List.{fold}
use Rattle.std.specs.Prelude.{IfSome}
use Rattle.core_world.specs.AnyNode.{any_start, any_step}
use Rattle.core_world.specs.declared.any_node.AnyNode.{AnyNode}
use Rattle.core_world.specs.declared.any_node.AnyNode.TheVariants as any
use Rattle.fragment_store.specs.ShelfState.{ShelfState}
use Rattle.group_map.specs.declared.group.Group.{Group}
use Rattle.group_map.specs.GroupMapState.{GroupMapState}
use Rattle.group_map.specs.Groups.{known_group as group_in, group_of, group_map_start}
use Rattle.group_map.specs.WellFormed.{IsServer}
use Rattle.log_tie.specs.Exist.{SomeSetting}
use Rattle.log_tie.specs.Setting.{Setting}
use Rattle.log_flight.specs.Flights.{generation_of, server_of}
use Rattle.node_logs.proofs.node_log_tie.Others.{same_or_other}
use Rattle.node_logs.specs.node_log_tie.Sight.{BodySeen, ReachedBy}
use Rattle.wire_msg.specs.declared.packet.Do.{Do}
use Rattle.wire_msg.specs.declared.packet.Packet.{Packet}
use Rattle.world_base.specs.Cluster.{cluster_of, place_of}
use Rattle.world_base.specs.declared.cluster.Cluster.{Cluster}
use Rattle.world_base.specs.declared.estate.Estate.{Estate}
use Rattle.world_base.specs.declared.event.Event.{Event}
use Rattle.world_base.specs.declared.event.Event.TheVariants.{Begin, Deliver, Tick}
use Rattle.world_base.specs.declared.world.World.{World}
use Rattle.world_base.specs.Events.{node_of, what_of}
use Rattle.world_base.specs.Items.{works_of}
use Rattle.world_base.specs.NextWorld.{next_world, start_world}
use Rattle.world_base.specs.Runs.{IsRun, Leads, MayHappen}
use Rattle.run_laws.proofs.world_law.Nodes as places
use Rattle.run_laws.proofs.world_law.Sent.{was_sent}
use Rattle.run_laws.proofs.world_law.Start.{first_stands}
use Rattle.run_laws.proofs.world_law.Turning.{next_keeps}
use Rattle.headline.specs.Moments.{moment, node_in}
use Rattle.run_laws.specs.world_logs.Lines.{HasLines, Line, RunsHaveLines, setting}
use Rattle.run_laws.specs.world_logs.Roles.{asker_by}
use Rattle.headline.specs.Logs.Role.{OfCleaner}
use Rattle.headline.specs.Servers.{group_at, groups_of, shelf_at}
use Rattle.xfs_base.specs.declared.node.NodeId.{NodeId}
use Rattle.xfs_base.specs.declared.node.NodeId.TheVariants.{Registry}
use Rattle.run_laws.specs.restart_law.Below.{Below}
use Rattle.run_laws.specs.restart_law.Unlost.{NoDiskIsLost, ScriptsWithoutLossesAreUndoubted}
use Rattle.headline.specs.Restarts.{LosesNone}
use Rattle.run_laws.proofs.restart_law.FirstGroups.{DoTellsNone, KeepsGroups, group_is_first, registry_so}
use Rattle.run_laws.proofs.restart_law.Nodes.{ShelfIs, node_there, shelf_is}
use Rattle.run_laws.proofs.restart_law.Servers.{shelf_is_first}
use Rattle.run_laws.proofs.restart_law.Unlost.{end_at, has_shelf, none_up_to}

-- ---- the events of a run, one by one

abbrev N : World AnyNode → Event → World AnyNode
N = next_world any_step

same_event : (x y : Event) → Some x ≡ Some y → x ≡ y
same_event x y fact = cc

take_none : (events : List Event) → take 0 events ≡ []
take_none [] = refl
take_none (x ∷ more) = refl

fold_next : (events : List Event) (count : ℕ) (w : World AnyNode) (event : Event) → slice_get events count ≡ Some event
    → fold N w (take (suc count) events) ≡ N (fold N w (take count events)) event
fold_next [] count w event fact = absurd cc
fold_next (x ∷ more) zero w event fact = ap (λ (ys : List Event). fold N (N w x) ys) (take_none more) ∙ ap (λ y. N w y) (same_event x event fact)
fold_next (x ∷ more) (suc count) w event fact = fold_next more count (N w x) event fact

fold_past : (events : List Event) (count : ℕ) (w : World AnyNode) → slice_get events count ≡ None
    → fold N w (take (suc count) events) ≡ fold N w (take count events)
fold_past [] zero w fact = refl
fold_past [] (suc count) w fact = refl
fold_past (x ∷ more) zero w fact = absurd cc
fold_past (x ∷ more) (suc count) w fact = fold_past more count (N w x) fact

may_at : (events : List Event) (count : ℕ) (w end : World AnyNode) (event : Event) → Leads any_step w events end → slice_get events count ≡ Some event
    → MayHappen (fold N w (take count events)) event
may_at [] count w end event leads fact = absurd cc
may_at (x ∷ more) zero w end event leads fact = subst (MayHappen w) (same_event x event fact) leads.0
may_at (x ∷ more) (suc count) w end event leads fact = may_at more count (N w x) end event leads.1 fact

module _ (base : Setting) (e : Estate AnyNode) (run : IsRun any_step any_start e.script e.events e.world) (lines : HasLines base e)
    (none : LosesNone (works_of e.script.lines)) where
  abbrev its : Line base e OfCleaner
  its = lines OfCleaner tt

  abbrev k : Cluster
  k = cluster_of e.script.setup

  abbrev first : GroupMapState
  first = group_map_start e.script.setup.servers e.script.setup.groups

  -- ---- what comes to the registry

  reached_one : (count v inc : ℕ) → IsServer e.script.setup.servers v → inc ≤ ((its.scene count).net.shelves v).generation → inc ≤ 1
  reached_one count v inc there reached =
      let s = has_shelf base e run lines count v there in
      let same = subst (ShelfIs (setting base e OfCleaner) (its.scene count) v) s.1 (shelf_is base e OfCleaner tt refl its count v) in
      let one = subst (λ (o : Option ShelfState). IfSome o (λ x. x.generation ≡ 1)) s.1 (shelf_is_first e none count v) in
      let g_ = ap (λ (x : ShelfState). x.generation) same in omega arith

  tells_none : (count : ℕ) (p : Packet) → MayHappen (moment e count) (Deliver p)
      → DoTellsNone e.script.setup.servers e.script.setup.groups (what_of (Deliver p))
  tells_none count p may m fact v from there =
      let seen = (its.stands count).facts p (was_sent (moment e count).sent p may) in
      let hello = subst (BodySeen (setting base e OfCleaner) (asker_by OfCleaner (its.scene count)) (its.scene count).net p.from p.to) fact seen in
      reached_one count v m.inc there
      (subst (λ n. ReachedBy (setting base e OfCleaner) (asker_by OfCleaner (its.scene count)) (its.scene count).net n m.inc) from hello.reached)

  event_tells : (count : ℕ) (event : Event) → MayHappen (moment e count) event → DoTellsNone e.script.setup.servers e.script.setup.groups (what_of event)
  event_tells count (Begin name) may = tt
  event_tells count (Deliver p) may = tells_none count p may
  event_tells count (Tick name) may = tt

  -- ---- its groups

  abbrev NodeKeeps : AnyNode → Type 0
  NodeKeeps (any.Client node) = Unit {0}
  NodeKeeps (any.Manager node) = Unit {0}
  NodeKeeps (any.Server node) = Unit {0}
  NodeKeeps (any.Cleaner node) = Unit {0}
  NodeKeeps (any.Registry node) = KeepsGroups e.script.setup.servers e.script.setup.groups node.board

  abbrev Keeps : List AnyNode → Type 0
  Keeps nodes = (x : AnyNode) → node_in nodes (place_of k Registry) ≡ Some x → NodeKeeps x

  turn_keeps : (x : AnyNode) (what : Do) → DoTellsNone e.script.setup.servers e.script.setup.groups what → NodeKeeps x → NodeKeeps (any_step x what).node
  turn_keeps (any.Client node) what tells h = tt
  turn_keeps (any.Manager node) what tells h = tt
  turn_keeps (any.Server node) what tells h = tt
  turn_keeps (any.Cleaner node) what tells h = tt
  turn_keeps (any.Registry node) what tells h = registry_so e.script.setup.servers e.script.setup.groups node what tells h

  same_node : (x y : AnyNode) → Some x ≡ Some y → x ≡ y
  same_node x y fact = cc

  placed_keeps : (nodes : List AnyNode) (name : NodeId) (place : ℕ) (what : Do) (x : AnyNode) → place_of k name ≡ Some place → slice_get nodes place ≡ Some x
      → DoTellsNone e.script.setup.servers e.script.setup.groups what → Keeps nodes → Keeps (slice_set nodes place (any_step x what).node)
  placed_keeps nodes name place what x at fact tells h z here = ⊎_elim same other (same_or_other Registry name)
    where
      y : AnyNode
      y = (any_step x what).node

      same : Registry ≡ name → NodeKeeps z
      same e_ =
          let put = places.here k nodes name place at y x fact in
          let was = ap (node_in nodes) at ∙ fact in
          subst NodeKeeps (same_node y z (sym put ∙ subst (λ n. node_in (slice_set nodes place y) (place_of k n) ≡ Some z) e_ here))
          (turn_keeps x what tells (h x (subst (λ n. node_in nodes (place_of k n) ≡ Some x) (sym e_) was)))

      other : (Registry ≡ name → ⊥) → NodeKeeps z
      other differs = h z (sym (places.there k nodes name place at y Registry differs) ∙ here)

  cluster_is : (count : ℕ) → (moment e count).cluster ≡ k
  cluster_is count = (node_there e Registry (e.script.setup.clients + e.script.setup.managers + e.script.setup.servers + 1) refl count).cluster

  next_keeps_so : (count : ℕ) (event : Event) → MayHappen (moment e count) event → Keeps (moment e count).nodes → Keeps (N (moment e count) event).nodes
  next_keeps_so count event may h =
      next_keeps any_step (λ nodes sent acts. Keeps nodes) (moment e count) event h
      (λ place node clock at fact.
      placed_keeps (moment e count).nodes (node_of event) place (what_of event) node
      (subst (λ c. place_of c (node_of event) ≡ Some place) (cluster_is count) at) fact (event_tells count event may) h)

  start_keeps : Keeps (start_world any_start e.script).nodes
  unfolding start_world
  start_keeps x fact =
      subst NodeKeeps
      (same_node _ x (sym (first_stands e.script Registry (e.script.setup.clients + e.script.setup.managers + e.script.setup.servers + 1) refl) ∙ fact)) refl

  keeps_first : Keeps (moment e 0).nodes
  keeps_first =
      subst (λ (w : World AnyNode). Keeps w.nodes) (ap (λ (ys : List Event). fold N (start_world any_start e.script) ys) (sym (take_none e.events)))
      start_keeps

  next_count : (count : ℕ) → Keeps (moment e count).nodes → Keeps (moment e (suc count)).nodes
  next_count count h = by (slice_get e.events count) refl
    where
      by : (o : Option Event) → slice_get e.events count ≡ o → Keeps (moment e (suc count)).nodes
      by None fact = subst (λ (w : World AnyNode). Keeps w.nodes) (sym (fold_past e.events count (start_world any_start e.script) fact)) h
      by (Some event) fact =
          subst (λ (w : World AnyNode). Keeps w.nodes) (sym (fold_next e.events count (start_world any_start e.script) event fact))
          (next_keeps_so count event (may_at e.events count (start_world any_start e.script) e.world event run fact) h)

  keeps_at : (count : ℕ) → Keeps (moment e count).nodes
  keeps_at zero = keeps_first
  keeps_at (suc count) = next_count count (keeps_at count)

  -- ---- a group at the end

  group_so : (o : Option AnyNode) → ((x : AnyNode) → o ≡ Some x → NodeKeeps x) → (id : ℕ) (group : Group) → group_in (groups_of o) id ≡ Some group
      → group_of first id ≡ Some group
  group_so None h id group fact = absurd cc
  group_so (Some (any.Client node)) h id group fact = absurd cc
  group_so (Some (any.Manager node)) h id group fact = absurd cc
  group_so (Some (any.Server node)) h id group fact = absurd cc
  group_so (Some (any.Cleaner node)) h id group fact = absurd cc
  group_so (Some (any.Registry node)) h id group fact = subst (λ (m : GroupMapState). group_of m id ≡ Some group) (h (any.Registry node) refl) fact

  named_first : (id : ℕ) (group : Group) → group_at e.world id ≡ Some group → group_of first id ≡ Some group
  named_first id group fact =
      let end = length e.events in
      let same : moment e end ≡ e.world = end_at e.events (start_world any_start e.script) e.world run in
      let found = ap (λ c. group_in (groups_of (node_in (moment e end).nodes (place_of c Registry))) id) (sym (cluster_is end))
      ∙ (ap (λ w. group_at w id) same ∙ fact) in
      group_so (node_in (moment e end).nodes (place_of k Registry)) (λ x at. keeps_at end x at) id group found

  pub no_disk_is_lost : NoDiskIsLost e
  no_disk_is_lost count id group fact place within =
      by (shelf_at (moment e count) (server_of group.members place)) (shelf_is_first e none count (server_of group.members place))
    where
      one : generation_of group.members place ≡ 1
      one = group_is_first e.script.setup.servers e.script.setup.groups id group (named_first id group fact) place within

      by : (o : Option ShelfState) → IfSome o (λ s. s.generation ≡ 1) → IfSome o (λ s. s.generation ≡ generation_of group.members place)
      by None h = tt
      by (Some s) h = h ∙ sym one

pub scripts_without_losses : Below → SomeSetting → RunsHaveLines → ScriptsWithoutLossesAreUndoubted
scripts_without_losses b setting have e ok run none =
    let base : Setting = setting.0 in
    let lines : HasLines base e = have base e ok run in
    let kept : NoDiskIsLost e = no_disk_is_lost base e run lines none in
    (kept, λ count. none_up_to b base e run lines kept count)
