-- What a node answered in the events of a run is what the acts of the run say, where no other node answers for it.
use Rattle.std.proofs.Common.{◌≡◌, refl, sym, ap, subst, ◌∙◌, ℕ, ◌<◌, Bool, true, false, cond, nat_lt, List, [], ◌∷◌, ◌++◌, length, drop, Some, None, arith, append_assoc, append-nil}
use Rattle.std.specs.Prelude.{slice_get, slice_set}
use Rattle.std.specs.List.{cons_option}
use Rattle.std.proofs.lemmas.Bool.Decides.{nat_tests}
use Rattle.std.proofs.lemmas.Option.{same_Some}
use Rattle.std.proofs.lemmas.List.Elements.{filter-append}
use Rattle.version_model.specs.declared.act.Act.{Act}
use Rattle.wire_msg.specs.declared.packet.Do.{Do}
use Rattle.wire_msg.specs.NodeStep.{NodeStep}
use Rattle.xfs_base.specs.declared.node.NodeId.{NodeId}
use Rattle.xfs_base.specs.Nodes.{same_node}
use Rattle.xfs_base.proofs.Booleans.{contrary}
use Rattle.xfs_base.proofs.NodeOrder.{same_node_is, same_node_itself}
use Rattle.world_base.specs.declared.event.Event.{Event}
use Rattle.world_base.specs.declared.world.World.{World}
use Rattle.world_base.specs.Cluster.{node_at, place_of}
use Rattle.world_base.specs.Events.{node_of, what_of}
use Rattle.world_base.specs.NextWorld.{after_turn, at_place, clock_at, world_happen, happen_at, next_world, turn_by, turn_of, turned}
use Rattle.world_base.specs.Runs.{Leads}
use Rattle.world_base.proofs.Places.{node_there}
use Rattle.journals.specs.Journals.{acts_in}
use Rattle.journals.specs.Merging.{Rises, whats_of}
use Rattle.journals.proofs.Gets.{has, one_there, set_other, set_same}
use Rattle.journals.proofs.Steps.{after}
use Rattle.live_links.specs.Answered.{answers_by, is_answer_by}

drop_front : {X : Type 0} (xs ys : List X) → drop (length xs) (xs ++ ys) ≡ ys
drop_front [] ys = refl
drop_front (x ∷ xs) ys = drop_front xs ys

-- what happened to a node, with one event more at the front
event_there : (node : NodeId) (e : Event) (es : List Event) (t : Bool) → same_node (node_of e) node ≡ t → whats_of node (e ∷ es) ≡ cond t (what_of e ∷ whats_of node es) (whats_of node es)
event_there node e es true is = ap (λ b. cons_option (cond b (Some (what_of e)) None) (whats_of node es)) is
event_there node e es false is = ap (λ b. cons_option (cond b (Some (what_of e)) None) (whats_of node es)) is

module _ {N : Type 0} (step : N → Do → NodeStep N) where
  -- the acts that an event adds
  abbrev pub added : World N → Event → List Act
  added w e = drop (length w.acts) (next_world step w e).acts

  -- in none of these events another node answers for this one
  abbrev pub NobodyElse : NodeId → World N → List Event → Type 0
  NobodyElse node w [] = Unit {0}
  NobodyElse node w (e ∷ es) = (same_node (node_of e) node ≡ false → answers_by node (added w e) ≡ []) × NobodyElse node (next_world step w e) es

  within : (w : World N) (r k : ℕ) (d : Do) → clock_at w r d ≡ Some k → (t : Bool) → nat_lt r (length w.nodes) ≡ t → r < length w.nodes
  within w r k d clock true is = grind (arith, nat_tests)
  within w r k d clock false is = absurd (let none : clock_at w r d ≡ None = rw is refl in let both : Some k ≡ None = sym clock ∙ none in cc)

  next_there : (w : World N) (e : Event) (r k : ℕ) (m : N) → place_of w.cluster (node_of e) ≡ Some r → clock_at w r (what_of e) ≡ Some k → slice_get w.nodes r ≡ Some m
      → next_world step w e ≡ after step w r k m (what_of e)
  unfolding world_happen happen_at turn_of
  next_there w e r k m place clock node =
      ap (at_place step w (what_of e)) place ∙ ap (turned step w r (what_of e)) clock ∙ ap (λ o. after_turn step w r k (turn_by step w.nodes r (what_of e) o)) node

  module _ (node : NodeId) where
    -- one event of the node
    mine : (d : Do) (n : N) (before : List Act) (ws : List Do) (now after : List Act) → now ≡ before ++ (step n d).acts
        → answers_by node after ≡ answers_by node now ++ answers_by node (acts_in step (step n d).node ws)
        → answers_by node after ≡ answers_by node before ++ answers_by node (acts_in step n (d ∷ ws))
    mine d n before ws now after is rest =
        rest ∙ ap (λ xs. answers_by node xs ++ answers_by node (acts_in step (step n d).node ws)) is
        ∙ ap (λ xs. xs ++ answers_by node (acts_in step (step n d).node ws)) (filter-append (is_answer_by node) before (step n d).acts)
        ∙ append_assoc (answers_by node before) (answers_by node (step n d).acts) (answers_by node (acts_in step (step n d).node ws))
        ∙ ap (λ xs. answers_by node before ++ xs) (sym (filter-append (is_answer_by node) (step n d).acts (acts_in step (step n d).node ws)))

    -- and one of another
    others : (before new now after rest : List Act) → now ≡ before ++ new → answers_by node new ≡ [] → answers_by node after ≡ answers_by node now ++ rest
        → answers_by node after ≡ answers_by node before ++ rest
    others before new now after rest is none all =
        all ∙ ap (λ xs. answers_by node xs ++ rest) is ∙ ap (λ xs. xs ++ rest) (filter-append (is_answer_by node) before new)
        ∙ ap (λ xs. (answers_by node before ++ xs) ++ rest) none ∙ ap (λ xs. xs ++ rest) (append-nil (answers_by node before))

    -- a node that stands in the world, and the events to come
    pub answered_in : (q : ℕ) (w : World N) (c p : ℕ) (es : List Event) (end : World N) (n : N) → place_of w.cluster node ≡ Some q → slice_get w.nodes q ≡ Some n
        → Rises step w c p es → Leads step w es end → NobodyElse node w es
        → answers_by node end.acts ≡ answers_by node w.acts ++ answers_by node (acts_in step n (whats_of node es))
    answered_in q w c p [] end n place at rises led nobody = ap (λ (v : World N). answers_by node v.acts) (sym led) ∙ sym (append-nil (answers_by node w.acts))
    answered_in q w c p (e ∷ es) end n place at rises led nobody =
        cases (same_node (node_of e) node) refl (λ m there stands. answered_in q (next_world step w e) rises.0 rises.1 es end m there stands rises.5 led.1 nobody.1)
      where
        d : Do
        d = what_of e

        k : ℕ
        k = rises.0

        r : ℕ
        r = rises.1

        there : (m : N) × (slice_get w.nodes r ≡ Some m)
        there = has w.nodes r (within w r k d rises.3 (nat_lt r (length w.nodes)) refl)

        next : next_world step w e ≡ after step w r k there.0 d
        next = next_there w e r k there.0 rises.2 rises.3 there.1

        place' : place_of (next_world step w e).cluster node ≡ Some q
        place' = ap (λ (v : World N). place_of v.cluster node) next ∙ place

        added_is : added w e ≡ (step there.0 d).acts
        added_is = ap (λ (v : World N). drop (length w.acts) v.acts) next ∙ drop_front w.acts (step there.0 d).acts

        cases : (t : Bool) → same_node (node_of e) node ≡ t
            → ((m : N) → place_of (next_world step w e).cluster node ≡ Some q → slice_get (next_world step w e).nodes q ≡ Some m
            → answers_by node end.acts ≡ answers_by node (next_world step w e).acts ++ answers_by node (acts_in step m (whats_of node es)))
            → answers_by node end.acts ≡ answers_by node w.acts ++ answers_by node (acts_in step n (whats_of node (e ∷ es)))
        cases true is later =
            let name : node_of e ≡ node = same_node_is (node_of e) node is in
            let same : r ≡ q = same_Some r q (sym rises.2 ∙ ap (place_of w.cluster) name ∙ place) in
            let one : there.0 ≡ n = one_there w.nodes q there.0 n (subst (λ (i : ℕ). slice_get w.nodes i ≡ Some there.0) same there.1) at in
            let at' : slice_get (next_world step w e).nodes q ≡ Some (step n d).node =
            ap (λ (v : World N). slice_get v.nodes q) next ∙ ap (λ (i : ℕ). slice_get (slice_set w.nodes i (step there.0 d).node) q) same
            ∙ set_same w.nodes q n (step there.0 d).node at ∙ ap (λ x. Some (step x d).node) one
            in
            let acts : (next_world step w e).acts ≡ w.acts ++ (step n d).acts = ap (λ (v : World N). v.acts) next ∙ ap (λ x. w.acts ++ (step x d).acts) one in
            mine d n w.acts (whats_of node es) (next_world step w e).acts end.acts acts (later (step n d).node place' at')
            ∙ ap (λ ds. answers_by node w.acts ++ answers_by node (acts_in step n ds)) (sym (event_there node e es true is))
        cases false is later =
            let apart : r ≡ q → ⊥ = λ same.
            let name : node_of e ≡ node = node_there w.cluster (node_of e) r rises.2 ∙ ap (node_at w.cluster) same ∙ sym (node_there w.cluster node q place) in
            contrary (sym is ∙ ap (λ x. same_node x node) name ∙ same_node_itself node)
            in
            let at' : slice_get (next_world step w e).nodes q ≡ Some n = ap (λ (v : World N). slice_get v.nodes q) next ∙ set_other w.nodes r q (step there.0 d).node apart ∙ at in
            others w.acts (step there.0 d).acts (next_world step w e).acts end.acts (answers_by node (acts_in step n (whats_of node es)))
            (ap (λ (v : World N). v.acts) next) (sym (ap (answers_by node) added_is) ∙ nobody.0 is) (later n place' at')
            ∙ ap (λ ds. answers_by node w.acts ++ answers_by node (acts_in step n ds)) (sym (event_there node e es false is))
