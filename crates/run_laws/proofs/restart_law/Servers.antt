-- In a run of a script without a line by which a server loses its disk each server keeps its first generation.
use Rattle.std.proofs.Common.{◌≡◌, ◌⊎◌, ⊎_elim, ℕ, zero, suc, ◌==◌, Bool, true, false, List, [], ◌∷◌, Option, Some, None, filter, map, take, slice_get, slice_set, inl, inr, refl, sym, subst, ◌∙◌, arith}
use Rattle.std.proofs.lemmas.Bool.Decides.{nat_tests}
use Rattle.std.specs.List.{fold}
use Rattle.std.specs.Prelude.{IfSome}
use Rattle.core_world.specs.AnyNode.{any_start, any_step}
use Rattle.core_world.specs.declared.any_node.AnyNode.{AnyNode}
use Rattle.core_world.specs.declared.any_node.AnyNode.TheVariants as any
use Rattle.fragment_store.specs.ShelfState.{ShelfState}
use Rattle.script_text.specs.declared.script.Script.{Script}
use Rattle.token_protocol.specs.Basics.{In}
use Rattle.version_model.specs.declared.work.Work.{Work}
use Rattle.version_model.specs.declared.work.Work.TheVariants as work
use Rattle.wire_msg.specs.declared.packet.Do.{Do}
use Rattle.world_base.specs.Cluster.{cluster_of, nodes_of, place_of}
use Rattle.world_base.specs.declared.estate.Estate.{Estate}
use Rattle.world_base.specs.declared.event.Event.{Event}
use Rattle.world_base.specs.declared.world.World.{World}
use Rattle.world_base.specs.Events.{what_of}
use Rattle.world_base.specs.Items.{is_for, works_of}
use Rattle.world_base.specs.NextWorld.{first_node, next_world, start_world}
use Rattle.run_laws.proofs.world_law.Nodes.{get_set_other, get_set_same}
use Rattle.run_laws.proofs.world_law.Turning.{next_keeps}
use Rattle.headline.specs.Moments.{moment, node_in}
use Rattle.headline.specs.Servers.{shelf_at, shelf_of}
use Rattle.xfs_base.proofs.Booleans.{by_test}
use Rattle.xfs_base.specs.declared.node.NodeId.{NodeId}
use Rattle.xfs_base.specs.declared.node.NodeId.TheVariants.{Client, Manager, Server, Cleaner, Registry}
use Rattle.headline.specs.Restarts.{LosesNone}
use Rattle.run_laws.proofs.restart_law.Quiet.{Quiet, server_so}

-- ---- a node

abbrev pub NodeQuiet : AnyNode → Type 0
NodeQuiet (any.Client node) = Unit {0}
NodeQuiet (any.Manager node) = Unit {0}
NodeQuiet (any.Server node) = Quiet node
NodeQuiet (any.Cleaner node) = Unit {0}
NodeQuiet (any.Registry node) = Unit {0}

turn_quiet : (x : AnyNode) (what : Do) → NodeQuiet x → NodeQuiet (any_step x what).node
turn_quiet (any.Client node) what h = tt
turn_quiet (any.Manager node) what h = tt
turn_quiet (any.Server node) what h = server_so node what h
turn_quiet (any.Cleaner node) what h = tt
turn_quiet (any.Registry node) what h = tt

-- ---- the start

in_filter : (p : Work → Bool) (works : List Work) (w : Work) → In w (filter p works) → In w works
in_filter p [] w fact = fact
in_filter p (x ∷ works) w fact =
    by_test (λ (ys : List Work). In w ys → In w (x ∷ works)) (p x) (x ∷ filter p works) (filter p works)
    (λ t h. ⊎_elim (λ e. inl e) (λ later. inr (in_filter p works w later)) h) (λ t h. inr (in_filter p works w h)) fact

module _ (script : Script) (none : LosesNone (works_of script.lines)) where
  start_quiet : (name : NodeId) → NodeQuiet (first_node any_start script name)
  start_quiet (Client c) = tt
  start_quiet (Manager j) = tt
  start_quiet (Server v) = record {
    generation = refl;
    works = λ server fact. none server (in_filter (is_for (Server v)) (works_of script.lines) (work.Lose server) fact);
  }
  start_quiet Cleaner = tt
  start_quiet Registry = tt

-- ---- all nodes

abbrev pub AllQuiet : List AnyNode → Type 0
AllQuiet nodes = (place : ℕ) (x : AnyNode) → slice_get nodes place ≡ Some x → NodeQuiet x

same_node : (x y : AnyNode) → Some x ≡ Some y → x ≡ y
same_node x y fact = cc

decide : (p q : ℕ) → (q ≡ p) ⊎ (q ≡ p → ⊥)
decide p q = by (p == q) refl
  where
    by : (t : Bool) → (p == q) ≡ t → (q ≡ p) ⊎ (q ≡ p → ⊥)
    by true fact = inl (grind (arith, nat_tests))
    by false fact = inr (λ e. absurd (grind (arith, nat_tests)))

set_quiet : (nodes : List AnyNode) (place : ℕ) (x y : AnyNode) → slice_get nodes place ≡ Some x → NodeQuiet y → AllQuiet nodes
    → AllQuiet (slice_set nodes place y)
set_quiet nodes place x y fact quiet all q z at =
    ⊎_elim
    (λ same. subst NodeQuiet
    (same_node y z (sym (get_set_same nodes place y x fact) ∙ subst (λ k. slice_get (slice_set nodes place y) k ≡ Some z) same at)) quiet)
    (λ other. all q z (sym (get_set_other nodes place y q other) ∙ at)) (decide place q)

map_quiet : (f : NodeId → AnyNode) → ((name : NodeId) → NodeQuiet (f name)) → (names : List NodeId) → AllQuiet (map f names)
map_quiet f each [] place x fact = absurd cc
map_quiet f each (n ∷ names) zero x fact = subst NodeQuiet (same_node (f n) x fact) (each n)
map_quiet f each (n ∷ names) (suc place) x fact = map_quiet f each names place x fact

next_quiet : (w : World AnyNode) (event : Event) → AllQuiet w.nodes → AllQuiet (next_world any_step w event).nodes
next_quiet w event all =
    next_keeps any_step (λ nodes sent acts. AllQuiet nodes) w event all
    (λ place node clock at fact.
    set_quiet w.nodes place node (any_step node (what_of event)).node fact (turn_quiet node (what_of event) (all place node fact)) all)

front_quiet : (events : List Event) (count : ℕ) (w : World AnyNode) → AllQuiet w.nodes → AllQuiet (fold (next_world any_step) w (take count events)).nodes
front_quiet [] zero w h = h
front_quiet [] (suc count) w h = h
front_quiet (event ∷ more) zero w h = h
front_quiet (event ∷ more) (suc count) w h = front_quiet more count (next_world any_step w event) (next_quiet w event h)

module _ (e : Estate AnyNode) (none : LosesNone (works_of e.script.lines)) where
  start_so : AllQuiet (start_world any_start e.script).nodes
  unfolding start_world
  start_so = map_quiet (first_node any_start e.script) (start_quiet e.script none) (nodes_of (cluster_of e.script.setup))

  all_quiet : (count : ℕ) → AllQuiet (moment e count).nodes
  all_quiet count = front_quiet e.events count (start_world any_start e.script) start_so

  -- a shelf that is there is of the first generation
  abbrev pub IsFirst : Option ShelfState → Type 0
  IsFirst shelf = IfSome shelf (λ s. s.generation ≡ 1)

  pub shelf_is_first : (count v : ℕ) → IsFirst (shelf_at (moment e count) v)
  shelf_is_first count v = by (place_of (moment e count).cluster (Server v))
    where
      of_node : (x : AnyNode) → NodeQuiet x → IsFirst (shelf_of (Some x))
      of_node (any.Client node) h = tt
      of_node (any.Manager node) h = tt
      of_node (any.Server node) h = h.generation
      of_node (any.Cleaner node) h = tt
      of_node (any.Registry node) h = tt

      at : (place : ℕ) (o : Option AnyNode) → slice_get (moment e count).nodes place ≡ o → IsFirst (shelf_of o)
      at place None fact = tt
      at place (Some x) fact = of_node x (all_quiet count place x fact)

      by : (o : Option ℕ) → IsFirst (shelf_of (node_in (moment e count).nodes o))
      by None = tt
      by (Some place) = at place (slice_get (moment e count).nodes place) refl
