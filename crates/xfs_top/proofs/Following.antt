-- What happened to a node of a run by workers: the node is what that makes of it, and what it did by it is done in the run.
use Rattle.std.proofs.Common.{◌≡◌, ◌⊎◌, ◌<◌, ℕ, zero, suc, nat_lt, Bool, true, false, cond, List, [], ◌∷◌, ◌++◌, length, take, Some, None, inl, inr, refl, sym, ap, subst, ◌∙◌, arith}
use Rattle.std.specs.Prelude.{slice_get, slice_set}
use Rattle.std.specs.List.{cons_option, fold}
use Rattle.std.proofs.lemmas.Bool.Decides.{nat_tests}
use Rattle.std.proofs.lemmas.Option.{same_Some}
use Rattle.core_world.specs.AnyNode.{any_step}
use Rattle.core_world.specs.declared.any_node.AnyNode.{AnyNode}
use Rattle.journals.proofs.Gets.{has, one_there, set_other, set_same}
use Rattle.journals.proofs.Steps.{after}
use Rattle.journals.specs.Journals.{acts_in, replayed}
use Rattle.journals.specs.Merging.{Rises, whats_of}
use Rattle.token_protocol.specs.Basics.{In}
use Rattle.version_model.specs.declared.act.Act.{Act}
use Rattle.wire_msg.specs.declared.packet.Do.{Do}
use Rattle.wire_msg.specs.declared.packet.Do.TheVariants.{Begin}
use Rattle.world_base.proofs.Places.{node_there}
use Rattle.world_base.specs.Cluster.{node_at, place_of}
use Rattle.world_base.specs.declared.event.Event.{Event}
use Rattle.world_base.specs.declared.event.Event.TheVariants as events
use Rattle.world_base.specs.declared.world.World.{World}
use Rattle.world_base.specs.Events.{node_of, what_of}
use Rattle.world_base.specs.NextWorld.{after_turn, at_place, clock_at, world_happen, happen_at, next_world, turn_by, turn_of, turned}
use Rattle.xfs_base.proofs.Booleans.{contrary}
use Rattle.xfs_base.proofs.NodeOrder.{same_node_is, same_node_itself}
use Rattle.xfs_base.specs.declared.node.NodeId.{NodeId}
use Rattle.xfs_base.specs.Nodes.{same_node}

-- ---- a node of a run, event by event

module _ (node : NodeId) where
  whats_more : (e : Event) (es : List Event) (t : Bool) → same_node (node_of e) node ≡ t
      → whats_of node (e ∷ es) ≡ cond t (what_of e ∷ whats_of node es) (whats_of node es)
  whats_more e es true is = ap (λ b. cons_option (cond b (Some (what_of e)) None) (whats_of node es)) is
  whats_more e es false is = ap (λ b. cons_option (cond b (Some (what_of e)) None) (whats_of node es)) is

  -- a Begin stands in a list behind this front of it
  abbrev pub Holds : List Do → List Do → Type 0
  Holds front all = (slice_get all (length front) ≡ Some Begin) × (take (length front) all ≡ front)

  take_none : (ds : List Do) → take 0 ds ≡ []
  take_none [] = refl
  take_none (d ∷ ds) = refl

  -- the next event of it stands behind what happened to it
  pub next_what : (es : List Event) (count : ℕ) → slice_get es count ≡ Some (events.Begin node)
      → Holds (whats_of node (take count es)) (whats_of node es)
  next_what [] count at = absurd cc
  next_what (e ∷ es) zero at =
      let one : e ≡ events.Begin node = same_Some e (events.Begin node) at in
      let mine : same_node (node_of e) node ≡ true = ap (λ f. same_node (node_of f) node) one ∙ same_node_itself node in (
        ap (λ ds. slice_get ds 0) (whats_more e es true mine) ∙ ap (λ f. Some (what_of f)) one,
        take_none (whats_of node (e ∷ es)),
      )
  next_what (e ∷ es) (suc count) at = by (next_what es count at) (same_node (node_of e) node) refl
    where
      by : Holds (whats_of node (take count es)) (whats_of node es) → (t : Bool) → same_node (node_of e) node ≡ t → Holds (whats_of node (e ∷ take count es)) (whats_of node (e ∷ es))
      by rest true is =
          subst (λ front. Holds front (whats_of node (e ∷ es))) (sym (whats_more e (take count es) true is))
          (subst (λ all. Holds (what_of e ∷ whats_of node (take count es)) all) (sym (whats_more e es true is))
          (rest.0, ap (λ ds. what_of e ∷ ds) rest.1))
      by rest false is =
          subst (λ front. Holds front (whats_of node (e ∷ es))) (sym (whats_more e (take count es) false is))
          (subst (λ all. Holds (whats_of node (take count es)) all) (sym (whats_more e es false is)) rest)

  module _ (q : ℕ) where
    -- behind so many events the node is what happened to it makes of it, and what it did by that is among what is done
    pub record Follows (w end : World AnyNode) (n : AnyNode) (ds : List Do) : Type 0 where
      pub cluster : end.cluster ≡ w.cluster
      pub there : slice_get end.nodes q ≡ Some (replayed any_step n ds)
      pub kept : (a : Act) → In a w.acts → In a end.acts
      pub acts : (a : Act) → In a (acts_in any_step n ds) → In a end.acts

    in_front : (xs ys : List Act) (a : Act) → In a xs → In a (xs ++ ys)
    in_front [] ys a fact = absurd fact
    in_front (x ∷ xs) ys a (inl is) = inl is
    in_front (x ∷ xs) ys a (inr fact) = inr (in_front xs ys a fact)

    in_rest : (xs ys : List Act) (a : Act) → In a ys → In a (xs ++ ys)
    in_rest [] ys a fact = fact
    in_rest (x ∷ xs) ys a fact = inr (in_rest xs ys a fact)

    in_either : (xs ys : List Act) (a : Act) → In a (xs ++ ys) → In a xs ⊎ In a ys
    in_either [] ys a fact = inr fact
    in_either (x ∷ xs) ys a (inl is) = inl (inl is)
    in_either (x ∷ xs) ys a (inr fact) = by (in_either xs ys a fact)
      where
        by : In a xs ⊎ In a ys → In a (x ∷ xs) ⊎ In a ys
        by (inl before) = inl (inr before)
        by (inr behind) = inr behind

    within : (w : World AnyNode) (r k : ℕ) (d : Do) → clock_at w r d ≡ Some k → (t : Bool) → nat_lt r (length w.nodes) ≡ t → r < length w.nodes
    within w r k d clock true is = grind (arith, nat_tests)
    within w r k d clock false is = absurd (let none : clock_at w r d ≡ None = rw is refl in let both : Some k ≡ None = sym clock ∙ none in cc)

    next_there : (w : World AnyNode) (e : Event) (r k : ℕ) (m : AnyNode) → place_of w.cluster (node_of e) ≡ Some r → clock_at w r (what_of e) ≡ Some k
        → slice_get w.nodes r ≡ Some m → next_world any_step w e ≡ after any_step w r k m (what_of e)
    unfolding world_happen happen_at turn_of
    next_there w e r k m place clock at =
        ap (at_place any_step w (what_of e)) place ∙ ap (turned any_step w r (what_of e)) clock
        ∙ ap (λ o. after_turn any_step w r k (turn_by any_step w.nodes r (what_of e) o)) at

    -- one event more at the front
    module _ (w : World AnyNode) (e : Event) (es : List Event) (n : AnyNode) (place : place_of w.cluster node ≡ Some q) (at : slice_get w.nodes q ≡ Some n)
        (k r : ℕ) (stands : place_of w.cluster (node_of e) ≡ Some r) (clock : clock_at w r (what_of e) ≡ Some k) (count : ℕ) where
      abbrev d : Do
      d = what_of e

      abbrev next_w : World AnyNode
      next_w = next_world any_step w e

      abbrev end_w : World AnyNode
      end_w = fold (next_world any_step) next_w (take count es)

      turner : (m : AnyNode) × (slice_get w.nodes r ≡ Some m)
      turner = has w.nodes r (within w r k d clock (nat_lt r (length w.nodes)) refl)

      next : next_w ≡ after any_step w r k turner.0 d
      next = next_there w e r k turner.0 stands clock turner.1

      cluster_next : next_w.cluster ≡ w.cluster
      cluster_next = ap (λ (v : World AnyNode). v.cluster) next

      -- it happens to the node
      mine : same_node (node_of e) node ≡ true → (slice_get next_w.nodes q ≡ Some (any_step n d).node) × (next_w.acts ≡ w.acts ++ (any_step n d).acts)
      mine is = (
        ap (λ (v : World AnyNode). slice_get v.nodes q) next ∙ ap (λ (i : ℕ). slice_get (slice_set w.nodes i (any_step turner.0 d).node) q) same
            ∙ set_same w.nodes q n (any_step turner.0 d).node at ∙ ap (λ x. Some (any_step x d).node) one,
        ap (λ (v : World AnyNode). v.acts) next ∙ ap (λ x. w.acts ++ (any_step x d).acts) one,
      )
        where
          name : node_of e ≡ node
          name = same_node_is (node_of e) node is

          same : r ≡ q
          same = same_Some r q (sym stands ∙ ap (place_of w.cluster) name ∙ place)

          one : turner.0 ≡ n
          one = one_there w.nodes q turner.0 n (subst (λ (i : ℕ). slice_get w.nodes i ≡ Some turner.0) same turner.1) at

      -- or to another
      other : same_node (node_of e) node ≡ false → slice_get next_w.nodes q ≡ Some n
      other is = ap (λ (v : World AnyNode). slice_get v.nodes q) next ∙ set_other w.nodes r q (any_step turner.0 d).node apart ∙ at
        where
          apart : r ≡ q → ⊥
          apart same =
              let name : node_of e ≡ node = node_there w.cluster (node_of e) r stands ∙ ap (node_at w.cluster) same ∙ sym (node_there w.cluster node q place) in
              contrary (sym is ∙ ap (λ x. same_node x node) name ∙ same_node_itself node)

      kept_on : (a : Act) → In a w.acts → In a next_w.acts
      kept_on a fact = subst (In a) (sym (ap (λ (v : World AnyNode). v.acts) next)) (in_front w.acts (any_step turner.0 d).acts a fact)

      mine_follows : (is : same_node (node_of e) node ≡ true) → Follows next_w end_w (any_step n d).node (whats_of node (take count es))
          → Follows w end_w n (d ∷ whats_of node (take count es))
      mine_follows is f = record {
        cluster = f.cluster ∙ cluster_next;
        there = f.there;
        kept = λ a fact. f.kept a (kept_on a fact);
        acts = λ a fact. by a (in_either (any_step n d).acts (acts_in any_step (any_step n d).node (whats_of node (take count es))) a fact);
      }
        where
          by : (a : Act) → In a (any_step n d).acts ⊎ In a (acts_in any_step (any_step n d).node (whats_of node (take count es))) → In a end_w.acts
          by a (inl now) = f.kept a (subst (In a) (sym (mine is).1) (in_rest w.acts (any_step n d).acts a now))
          by a (inr later) = f.acts a later

      other_follows : Follows next_w end_w n (whats_of node (take count es)) → Follows w end_w n (whats_of node (take count es))
      other_follows f = record { cluster = f.cluster ∙ cluster_next; there = f.there; kept = λ a fact. f.kept a (kept_on a fact); acts = f.acts }

    pub follows : (count : ℕ) (es : List Event) (w : World AnyNode) (c p : ℕ) (n : AnyNode) → place_of w.cluster node ≡ Some q → slice_get w.nodes q ≡ Some n
        → Rises any_step w c p es → Follows w (fold (next_world any_step) w (take count es)) n (whats_of node (take count es))
    follows zero [] w c p n place at rises = record { cluster = refl; there = at; kept = λ a fact. fact; acts = λ a fact. absurd fact }
    follows zero (e ∷ es) w c p n place at rises = record { cluster = refl; there = at; kept = λ a fact. fact; acts = λ a fact. absurd fact }
    follows (suc count) [] w c p n place at rises = record { cluster = refl; there = at; kept = λ a fact. fact; acts = λ a fact. absurd fact }
    follows (suc count) (e ∷ es) w c p n place at rises =
        by (λ m stands there. follows count es (next_world any_step w e) rises.0 rises.1 m stands there rises.5) (same_node (node_of e) node) refl
      where
        placed : place_of (next_world any_step w e).cluster node ≡ Some q
        placed = ap (λ k. place_of k node) (cluster_next w e es n place at rises.0 rises.1 rises.2 rises.3 count) ∙ place

        by : ((m : AnyNode) → place_of (next_world any_step w e).cluster node ≡ Some q → slice_get (next_world any_step w e).nodes q ≡ Some m
            → Follows (next_world any_step w e) (fold (next_world any_step) (next_world any_step w e) (take count es)) m (whats_of node (take count es)))
            → (t : Bool) → same_node (node_of e) node ≡ t
            → Follows w (fold (next_world any_step) (next_world any_step w e) (take count es)) n (whats_of node (e ∷ take count es))
        by rest true is =
            subst (Follows w (fold (next_world any_step) (next_world any_step w e) (take count es)) n) (sym (whats_more e (take count es) true is))
            (mine_follows w e es n place at rises.0 rises.1 rises.2 rises.3 count is
            (rest (any_step n (what_of e)).node placed (mine w e es n place at rises.0 rises.1 rises.2 rises.3 count is).0))
        by rest false is =
            subst (Follows w (fold (next_world any_step) (next_world any_step w e) (take count es)) n) (sym (whats_more e (take count es) false is))
            (other_follows w e es n place at rises.0 rises.1 rises.2 rises.3 count
            (rest n placed (other w e es n place at rises.0 rises.1 rises.2 rises.3 count is)))
