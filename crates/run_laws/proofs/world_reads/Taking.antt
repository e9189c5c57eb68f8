-- A node takes an event of a run, or nothing happens; and what the owner of a log does in one is among what it did up to then.
use Rattle.std.proofs.Common.{◌≡◌, ◌⊎◌, ℕ, zero, suc, Bool, true, List, [], ◌∷◌, ◌++◌, Some, drop, length, map, take, slice_get, slice_set, if◌then◌else◌, inl, inr, append-nil, refl, sym, ap, subst, ◌∙◌}
use Rattle.std.proofs.Math.Seq.{drop-append_seam}
use Rattle.std.proofs.lemmas.List.{append_assoc}
use Rattle.std.specs.List.{fold}
use Rattle.core_world.specs.AnyNode.{any_start, any_step}
use Rattle.core_world.specs.declared.any_node.AnyNode.{AnyNode}
use Rattle.token_protocol.specs.Basics.{In}
use Rattle.version_model.specs.declared.act.Act.{Act}
use Rattle.wire_msg.specs.declared.packet.Packet.{Packet}
use Rattle.world_base.specs.Cluster.{place_of}
use Rattle.world_base.specs.declared.cluster.Cluster.{Cluster}
use Rattle.world_base.specs.declared.estate.Estate.{Estate}
use Rattle.world_base.specs.declared.event.Event.{Event}
use Rattle.world_base.specs.declared.world.World.{World}
use Rattle.world_base.specs.Events.{node_of, what_of}
use Rattle.world_base.specs.NextWorld.{next_world, sent_at, start_world}
use Rattle.run_laws.proofs.world_law.Nodes.{get_set_same}
use Rattle.run_laws.proofs.world_law.Turning.{next_keeps}
use Rattle.headline.specs.Moments.{acts_in, moment, node_in}
use Rattle.headline.specs.Logs.{acts_by, acts_of, did, owns}

-- ---- the node's turn

-- the node takes its step in this event, which changes no other node
pub record Took (w : World AnyNode) (event : Event) (node : AnyNode) : Type 0 where
  pub place : ℕ
  pub placed : place_of w.cluster (node_of event) ≡ Some place
  pub stands : slice_get w.nodes place ≡ Some node
  pub nodes : (next_world any_step w event).nodes ≡ slice_set w.nodes place (any_step node (what_of event)).node
  pub acts : (next_world any_step w event).acts ≡ w.acts ++ (any_step node (what_of event)).acts

-- nothing happens: no node changes, and nothing is sent or done
pub record NothingHappens (w : World AnyNode) (event : Event) : Type 0 where
  pub nodes : (next_world any_step w event).nodes ≡ w.nodes
  pub sent : (next_world any_step w event).sent ≡ w.sent
  pub acts : (next_world any_step w event).acts ≡ w.acts

-- one of the two
pub takes_or_not : (w : World AnyNode) (event : Event) → NothingHappens w event ⊎ ((node : AnyNode) × Took w event node)
takes_or_not w event = next_keeps any_step Which w event (λ nodes sent acts. inl (record { nodes = nodes; sent = sent; acts = acts })) turned refl refl refl
  where
    next : World AnyNode
    next = next_world any_step w event

    Which : List AnyNode → List Packet → List Act → Type 0
    Which nodes sent acts = next.nodes ≡ nodes → next.sent ≡ sent → next.acts ≡ acts → NothingHappens w event ⊎ ((node : AnyNode) × Took w event node)

    turned : (place : ℕ) (node : AnyNode) (clock : ℕ) → place_of w.cluster (node_of event) ≡ Some place → slice_get w.nodes place ≡ Some node
        → Which (slice_set w.nodes place (any_step node (what_of event)).node) (w.sent ++ map (sent_at clock) (any_step node (what_of event)).packets)
        (w.acts ++ (any_step node (what_of event)).acts)
    turned place node clock at fact nodes sent acts = inr (node, record { place = place; placed = at; stands = fact; nodes = nodes; acts = acts })

-- the node of this name is then the one that its step makes of it
pub node_then : (k : Cluster) (w : World AnyNode) → w.cluster ≡ k → (event : Event) (node : AnyNode) → Took w event node
    → node_in (next_world any_step w event).nodes (place_of k (node_of event)) ≡ Some (any_step node (what_of event)).node
node_then k w cluster event node took =
    ap (node_in (next_world any_step w event).nodes) (subst (λ c. place_of c (node_of event) ≡ Some took.place) cluster took.placed)
    ∙ (ap (λ nodes. slice_get nodes took.place) took.nodes
    ∙ get_set_same w.nodes took.place (any_step node (what_of event)).node node took.stands)

-- and it was the one that took it
pub took_it : (k : Cluster) (w : World AnyNode) → w.cluster ≡ k → (event : Event) (node : AnyNode) → Took w event node
    → node_in w.nodes (place_of k (node_of event)) ≡ Some node
took_it k w cluster event node took =
    ap (node_in w.nodes) (subst (λ c. place_of c (node_of event) ≡ Some took.place) cluster took.placed) ∙ took.stands

-- ---- counts

fold_next : (events : List Event) (count : ℕ) (event : Event) (w : World AnyNode) → slice_get events count ≡ Some event
    → fold (next_world any_step) w (take (suc count) events) ≡ next_world any_step (fold (next_world any_step) w (take count events)) event
fold_next [] count event w fact = absurd cc
fold_next (x ∷ events) zero event w fact = ap (next_world any_step w) (same x event fact)
  where
    same : (a b : Event) → Some a ≡ Some b → a ≡ b
    same a b e = cc
fold_next (x ∷ events) (suc count) event w fact = fold_next events count event (next_world any_step w x) fact

-- the moment after an event is the next world
pub moment_next : (e : Estate AnyNode) (count : ℕ) (event : Event) → slice_get e.events count ≡ Some event
    → moment e (suc count) ≡ next_world any_step (moment e count) event
moment_next e count event fact = fold_next e.events count event (start_world any_start e.script) fact

acts_next : (l : ℕ) (events : List Event) (count : ℕ) (event : Event) (w : World AnyNode) → slice_get events count ≡ Some event
    → acts_by l w (take (suc count) events) ≡ acts_by l w (take count events) ++ acts_of l (fold (next_world any_step) w (take count events)) event
acts_next l [] count event w fact = absurd cc
acts_next l (x ∷ events) zero event w fact = append-nil (acts_of l w x) ∙ ap (acts_of l w) (same x event fact)
  where
    same : (a b : Event) → Some a ≡ Some b → a ≡ b
    same a b e = cc
acts_next l (x ∷ events) (suc count) event w fact =
    ap (λ more. acts_of l w x ++ more) (acts_next l events count event (next_world any_step w x) fact)
    ∙ sym (append_assoc (acts_of l w x) (acts_by l (next_world any_step w x) (take count events))
    (acts_of l (fold (next_world any_step) (next_world any_step w x) (take count events)) event))

in_after : {X : Type 0} (xs ys : List X) (x : X) → In x ys → In x (xs ++ ys)
in_after [] ys x fact = fact
in_after (y ∷ xs) ys x fact = inr (in_after xs ys x fact)

-- What the owner of a log does in an event it did by then.
pub did_then : (e : Estate AnyNode) (l count : ℕ) (event : Event) (node : AnyNode) → slice_get e.events count ≡ Some event → owns l (node_of event) ≡ true
    → Took (moment e count) event node → (act : Act) → In act (any_step node (what_of event)).acts → In act (did e l (suc count))
did_then e l count event node fact owner took act among =
    let w = moment e count in
    let acts = (any_step node (what_of event)).acts in
    let added : acts_in w event ≡ acts = ap (drop (length w.acts)) took.acts ∙ drop-append_seam w.acts acts in
    let its : acts_of l w event ≡ acts = ap (λ (t : Bool). if t then acts_in w event else []) owner ∙ added in
    subst (In act) (sym (acts_next l e.events count event (start_world any_start e.script) fact))
    (in_after (did e l count) (acts_of l w event) act (subst (In act) (sym its) among))

in_rest : {X : Type 0} (xs ys zs : List X) (x : X) → (In x ys → In x zs) → In x (xs ++ ys) → In x (xs ++ zs)
in_rest [] ys zs x more fact = more fact
in_rest (y ∷ xs) ys zs x more (inl fact) = inl fact
in_rest (y ∷ xs) ys zs x more (inr later) = inr (in_rest xs ys zs x more later)

acts_before : (l : ℕ) (act : Act) (events : List Event) (count : ℕ) (w : World AnyNode) → In act (acts_by l w (take count events))
    → In act (acts_by l w (take (suc count) events))
acts_before l act [] zero w fact = fact
acts_before l act [] (suc count) w fact = fact
acts_before l act (x ∷ events) zero w fact = absurd fact
acts_before l act (x ∷ events) (suc count) w fact =
    in_rest (acts_of l w x) (acts_by l (next_world any_step w x) (take count events)) (acts_by l (next_world any_step w x) (take (suc count) events)) act
    (acts_before l act events count (next_world any_step w x)) fact

-- and what it did before
pub did_before : (e : Estate AnyNode) (l count : ℕ) (act : Act) → In act (did e l count) → In act (did e l (suc count))
did_before e l count act fact = acts_before l act e.events count (start_world any_start e.script) fact
