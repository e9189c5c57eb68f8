-- What is so of each node at the start, and of the one that takes its turn in an event, is so of each at each moment of a run.
use Rattle.std.proofs.Common.{◌≡◌, ◌⊎◌, ℕ, zero, suc, List, [], ◌∷◌, ◌++◌, drop, length, slice_get, slice_set, Option, Some, None, inl, inr, refl, sym, ap, subst, ◌∙◌}
use Rattle.std.proofs.Math.Seq.{drop-length}
use Rattle.core_world.specs.AnyNode.{any_start, any_step}
use Rattle.core_world.specs.declared.any_node.AnyNode.{AnyNode}
use Rattle.run_laws.proofs.world_law.Everyone.{everyone_so}
use Rattle.run_laws.proofs.world_law.Start.{first_stands}
use Rattle.run_laws.proofs.world_law.Turning.{next_cluster}
use Rattle.run_laws.proofs.world_reads.Taking.{NothingHappens, Took, moment_next, takes_or_not}
use Rattle.headline.specs.Moments.{acts_in, moment, node_in, node_named}
use Rattle.token_protocol.specs.Basics.{In}
use Rattle.version_model.specs.declared.act.Act.{Act}
use Rattle.world_base.specs.Cluster.{cluster_of, place_of}
use Rattle.world_base.specs.declared.estate.Estate.{Estate}
use Rattle.world_base.specs.declared.event.Event.{Event}
use Rattle.world_base.specs.declared.world.World.{World}
use Rattle.world_base.specs.Events.{node_of, what_of}
use Rattle.world_base.specs.Items.{items_of}
use Rattle.world_base.specs.NextWorld.{next_world, start_world}
use Rattle.xfs_base.specs.declared.node.NodeId.{NodeId}
use Rattle.run_answers.proofs.act_law.Runs.{moment_first, moment_past}

same_node : (a b : AnyNode) → Some a ≡ Some b → a ≡ b
same_node a b fact = cc

one_event : (a b : Event) → Some a ≡ Some b → a ≡ b
one_event a b fact = cc

no_event : (a : Event) → None ≡ Some a → ⊥
no_event a fact = cc

module _ (P : ℕ → NodeId → AnyNode → Type 0) (e : Estate AnyNode) where
  abbrev AllStand : ℕ → World AnyNode → Type 0
  AllStand count w = (name : NodeId) (x : AnyNode) → node_named w name ≡ Some x → P count name x

  -- each node as it starts
  abbrev pub StartStands : Type 0
  StartStands = (name : NodeId) → P 0 name (any_start name e.script.setup (items_of e.script.lines name))

  -- the event at this place, if there is one, happens to another node, or by it nothing is acted
  abbrev pub Idles : ℕ → NodeId → Type 0
  Idles count name = (event : Event) → slice_get e.events count ≡ Some event → (name ≡ node_of event → ⊥) ⊎ (acts_in (moment e count) event ≡ [])

  -- a node to which nothing happens
  abbrev pub RestStands : Type 0
  RestStands = (count : ℕ) (name : NodeId) (x : AnyNode) → Idles count name → P count name x → P (suc count) name x

  -- the node that takes an event of the run
  abbrev pub TurnStands : Type 0
  TurnStands =
      (count : ℕ) (event : Event) → slice_get e.events count ≡ Some event → (x : AnyNode) → node_named (moment e count) (node_of event) ≡ Some x
      → Took (moment e count) event x → P count (node_of event) x → P (suc count) (node_of event) (any_step x (what_of event)).node

  module _ (starts : StartStands) (later : RestStands) (turns : TurnStands) where
    start_stands : AllStand 0 (start_world any_start e.script)
    unfolding start_world
    start_stands name x = by (place_of (cluster_of e.script.setup) name) refl
      where
        first : AnyNode
        first = any_start name e.script.setup (items_of e.script.lines name)

        by : (o : Option ℕ) → place_of (cluster_of e.script.setup) name ≡ o → node_in (start_world any_start e.script).nodes o ≡ Some x → P 0 name x
        by None at fact = absurd cc
        by (Some p) at fact =
            let here : node_in (start_world any_start e.script).nodes (Some p) ≡ Some first =
            ap (node_in (start_world any_start e.script).nodes) (sym at) ∙ first_stands e.script name p at in
            subst (P 0 name) (same_node first x (sym here ∙ fact)) (starts name)

    module _ (count : ℕ) (event : Event) (happens : slice_get e.events count ≡ Some event) (all : AllStand count (moment e count)) where
      abbrev w : World AnyNode
      w = moment e count

      abbrev next : World AnyNode
      next = next_world any_step w event

      -- the same place of the world before
      here : (name : NodeId) (y : AnyNode) → node_named next name ≡ Some y → node_in next.nodes (place_of w.cluster name) ≡ Some y
      here name y fact = ap (λ k. node_in next.nodes (place_of k name)) (sym (next_cluster any_step w event)) ∙ fact

      none_turns : NothingHappens w event → AllStand (suc count) next
      none_turns none name y fact =
          later count name y (λ other same. inr (subst (λ x. acts_in w x ≡ []) (one_event event other (sym happens ∙ same)) nothing_acted))
          (all name y (ap (λ nodes. node_in nodes (place_of w.cluster name)) (sym none.nodes) ∙ here name y fact))
        where
          nothing_acted : acts_in w event ≡ []
          nothing_acted = ap (drop (length w.acts)) none.acts ∙ drop-length w.acts

      one_turns : (x : AnyNode) → Took w event x → AllStand (suc count) next
      one_turns x took name y fact =
          let now : node_in (slice_set w.nodes took.place (any_step x (what_of event)).node) (place_of w.cluster name) ≡ Some y =
          ap (λ nodes. node_in nodes (place_of w.cluster name)) (sym took.nodes) ∙ here name y fact in
          let was : node_named w (node_of event) ≡ Some x = ap (node_in w.nodes) took.placed ∙ took.stands in
          everyone_so w.cluster w.nodes (node_of event) took.place took.placed x (any_step x (what_of event)).node took.stands (P (suc count))
          (turns count event happens x was took (all (node_of event) x was))
          (λ other z differs before. later count other z
          (λ found same. inl (λ own. differs (own ∙ ap node_of (one_event found event (sym same ∙ happens))))) (all other z before)) name y now

      next_stands : AllStand (suc count) next
      next_stands = by (takes_or_not w event)
        where
          by : NothingHappens w event ⊎ ((x : AnyNode) × Took w event x) → AllStand (suc count) next
          by (inl none) = none_turns none
          by (inr turn) = one_turns turn.0 turn.1

    next_at : (count : ℕ) → AllStand count (moment e count) → AllStand (suc count) (moment e (suc count))
    next_at count all = by (slice_get e.events count) refl
      where
        by : (o : Option Event) → slice_get e.events count ≡ o → AllStand (suc count) (moment e (suc count))
        by None fact =
            subst (AllStand (suc count)) (sym (moment_past e count fact))
            (λ name x at. later count name x (λ event same. absurd (no_event event (sym fact ∙ same))) (all name x at))
        by (Some event) fact = subst (AllStand (suc count)) (sym (moment_next e count event fact)) (next_stands count event fact all)

    pub each_moment : (count : ℕ) → AllStand count (moment e count)
    each_moment zero = subst (AllStand 0) (sym (moment_first e)) start_stands
    each_moment (suc count) = next_at count (each_moment count)

-- and of what doesn't speak of the moment
module _ (P : NodeId → AnyNode → Type 0) (e : Estate AnyNode) where
  pub each_stands : ((name : NodeId) → P name (any_start name e.script.setup (items_of e.script.lines name)))
      → ((count : ℕ) (event : Event) → slice_get e.events count ≡ Some event → (x : AnyNode) → node_named (moment e count) (node_of event) ≡ Some x
      → P (node_of event) x → P (node_of event) (any_step x (what_of event)).node)
      → (count : ℕ) (name : NodeId) (x : AnyNode) → node_named (moment e count) name ≡ Some x → P name x
  each_stands starts turns =
      each_moment (λ count. P) e starts (λ count name x idles so. so) (λ count event happens x was took so. turns count event happens x was so)

-- what was acted stays so
pub acts_later : (e : Estate AnyNode) (count : ℕ) (a : Act) → In a (moment e count).acts → In a (moment e (suc count)).acts
acts_later e count a among = by (slice_get e.events count) refl
  where
    in_front : (xs ys : List Act) → In a xs → In a (xs ++ ys)
    in_front [] ys fact = absurd fact
    in_front (x ∷ xs) ys (inl is) = inl is
    in_front (x ∷ xs) ys (inr fact) = inr (in_front xs ys fact)

    turned : (event : Event) → NothingHappens (moment e count) event ⊎ ((x : AnyNode) × Took (moment e count) event x)
        → In a (next_world any_step (moment e count) event).acts
    turned event (inl none) = subst (In a) (sym none.acts) among
    turned event (inr turn) = subst (In a) (sym turn.1.acts) (in_front (moment e count).acts (any_step turn.0 (what_of event)).acts among)

    by : (o : Option Event) → slice_get e.events count ≡ o → In a (moment e (suc count)).acts
    by None fact = subst (λ (w : World AnyNode). In a w.acts) (sym (moment_past e count fact)) among
    by (Some event) fact =
        subst (λ (w : World AnyNode). In a w.acts) (sym (moment_next e count event fact)) (turned event (takes_or_not (moment e count) event))

-- and what a node acts in its turn is among what is acted by then
pub acts_taken : (e : Estate AnyNode) (count : ℕ) (event : Event) → slice_get e.events count ≡ Some event → (x : AnyNode) → Took (moment e count) event x
    → (a : Act) → In a (any_step x (what_of event)).acts → In a (moment e (suc count)).acts
acts_taken e count event happens x took a among =
    subst (λ (w : World AnyNode). In a w.acts) (sym (moment_next e count event happens))
    (subst (In a) (sym took.acts) (behind (moment e count).acts (any_step x (what_of event)).acts among))
  where
    behind : (xs ys : List Act) → In a ys → In a (xs ++ ys)
    behind [] ys fact = fact
    behind (x ∷ xs) ys fact = inr (behind xs ys fact)
