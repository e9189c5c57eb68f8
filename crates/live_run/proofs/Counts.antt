-- How many items of each node the events of a run begin.
use Rattle.std.proofs.Common.{◌≡◌, ℕ, ◌+◌, Bool, true, false, cond, List, [], ◌∷◌, length, Option, Some, None, refl, sym, ap, ◌∙◌, arith}
use Rattle.std.specs.Prelude.{filter}
use Rattle.std.specs.List.{AllByRecursion, cons_option}
use Rattle.std.proofs.lemmas.List.Sums.{sum_by-cons}
use Rattle.script_text.specs.declared.script.Line.{Line}
use Rattle.wire_msg.specs.declared.packet.Do.{Do}
use Rattle.wire_msg.specs.declared.packet.Do.TheVariants as whats
use Rattle.wire_msg.specs.Kinds.{is_begin}
use Rattle.wire_msg.specs.NodeStep.{NodeStep}
use Rattle.xfs_base.specs.declared.node.NodeId.{NodeId}
use Rattle.xfs_base.specs.declared.setup.Setup.{Setup}
use Rattle.xfs_base.specs.Nodes.{same_node}
use Rattle.xfs_base.proofs.NodeOrder.{same_node_is}
use Rattle.world_base.specs.declared.cluster.Cluster.{Cluster}
use Rattle.world_base.specs.declared.event.Event.{Event}
use Rattle.world_base.specs.declared.event.Event.TheVariants.{Begin, Deliver, Tick}
use Rattle.world_base.specs.declared.world.World.{World}
use Rattle.world_base.specs.Cluster.{cluster_of, place_of}
use Rattle.world_base.specs.Events.{node_of, what_of}
use Rattle.world_base.specs.Items.{actor_of, is_for, is_for_actor, items_of}
use Rattle.world_base.specs.NextWorld.{at_place, clock_at, world_happen, happen_at, next_world, turned}
use Rattle.world_base.specs.Runs.{begins_of, begun_in}
use Rattle.world_base.proofs.Places.{place_had}
use Rattle.journals.specs.Journals.{begins}
use Rattle.journals.specs.Merging.{Rises, whats_of}
use Rattle.live_run.specs.Live.{IsLineOfNode, IsOfNode}

count_cons : (d : Do) (ds : List Do) → begins (d ∷ ds) ≡ cond (is_begin d) 1 0 + begins ds
count_cons d ds = sum_by-cons (λ x. cond (is_begin x) 1 0) d ds

-- ---- by what happened to the node

begin_more : (n node : NodeId) (es : List Event) (t : Bool) → same_node n node ≡ t → begins_of node es ≡ begins (whats_of node es)
    → length (cond t (n ∷ filter (λ begun. same_node begun node) (begun_in es)) (filter (λ begun. same_node begun node) (begun_in es)))
    ≡ begins (cons_option (cond t (Some whats.Begin) None) (whats_of node es))
begin_more n node es true is rest = let here = count_cons whats.Begin (whats_of node es) in omega arith
begin_more n node es false is rest = rest

other_more : (d : Do) (node : NodeId) (es : List Event) (t : Bool) → is_begin d ≡ false → begins_of node es ≡ begins (whats_of node es)
    → begins_of node es ≡ begins (cons_option (cond t (Some d) None) (whats_of node es))
other_more d node es true other rest =
    let here : begins (d ∷ whats_of node es) ≡ 0 + begins (whats_of node es) = count_cons d (whats_of node es) ∙ ap (λ t. cond t 1 0 + begins (whats_of node es)) other in
    let same : begins_of node es ≡ begins (d ∷ whats_of node es) = omega arith in
    same
other_more d node es false other rest = rest

-- the items that the events of a node begin are those that it began
pub begun_is : (node : NodeId) (es : List Event) → begins_of node es ≡ begins (whats_of node es)
begun_is node [] = refl
begun_is node (Begin n ∷ es) = begin_more n node es (same_node n node) refl (begun_is node es)
begun_is node (Deliver x ∷ es) = other_more (whats.Deliver x) node es (same_node x.to node) refl (begun_is node es)
begun_is node (Tick n ∷ es) = other_more whats.Tick node es (same_node n node) refl (begun_is node es)

-- ---- what is no node of a run begins nothing

module _ {N : Type 0} (step : N → Do → NodeStep N) where
  turned_stays : (w : World N) (place : ℕ) (d : Do) (o : Option ℕ) → (turned step w place d o).cluster ≡ w.cluster
  turned_stays w place d None = refl
  turned_stays w place d (Some clock) = refl

  happened_stays : (w : World N) (place : ℕ) (d : Do) → (happen_at step w place d).cluster ≡ w.cluster
  unfolding happen_at
  happened_stays w place d = turned_stays w place d (clock_at w place d)

  at_stays : (w : World N) (d : Do) (o : Option ℕ) → (at_place step w d o).cluster ≡ w.cluster
  at_stays w d None = refl
  at_stays w d (Some place) = happened_stays w place d

  cluster_stays : (w : World N) (e : Event) → (next_world step w e).cluster ≡ w.cluster
  unfolding world_happen
  cluster_stays w e = at_stays w (what_of e) (place_of w.cluster (node_of e))

  not_that : (c : Cluster) (n node : NodeId) (q : ℕ) → place_of c n ≡ Some q → place_of c node ≡ None → (t : Bool) → same_node n node ≡ t → t ≡ false
  not_that c n node q there none true is =
      absurd (let same = ap (place_of c) (same_node_is n node is) in let both : Some q ≡ None = sym there ∙ same ∙ none in cc)
  not_that c n node q there none false is = refl

  filter_more : (n node : NodeId) (es : List Event) → same_node n node ≡ false → begins_of node (Begin n ∷ es) ≡ begins_of node es
  filter_more n node es is = rw is refl

  pub nobody_begins : (c : Cluster) (node : NodeId) → place_of c node ≡ None → (w : World N) (k p : ℕ) (es : List Event) → w.cluster ≡ c
      → Rises step w k p es → begins_of node es ≡ 0
  nobody_begins c node none w k p [] is rises = refl
  nobody_begins c node none w k p (e ∷ es) is rises =
      first_of e rises.2 (nobody_begins c node none (next_world step w e) rises.0 rises.1 es (cluster_stays w e ∙ is) rises.5)
    where
      first_of : (f : Event) → place_of w.cluster (node_of f) ≡ Some rises.1 → begins_of node es ≡ 0 → begins_of node (f ∷ es) ≡ 0
      first_of (Begin n) there rest =
          let at : place_of c n ≡ Some rises.1 = ap (λ x. place_of x n) (sym is) ∙ there in
          filter_more n node es (not_that c n node rises.1 at none (same_node n node) refl) ∙ rest
      first_of (Deliver x) there rest = rest
      first_of (Tick n) there rest = rest

-- and no line of a script is for it
module _ (setup : Setup) (node : NodeId) (none : place_of (cluster_of setup) node ≡ None) where
  not_its : (o : Option NodeId) → IsOfNode setup o → (t : Bool) → is_for_actor node o ≡ t → t ≡ false
  not_its o named false is = refl
  not_its None named true is = absurd (cc)
  not_its (Some n) named true is =
      let had = place_had setup n named in
      absurd (let both : Some had.0 ≡ None = sym had.1 ∙ ap (place_of (cluster_of setup)) (same_node_is n node is) ∙ none in cc)

  item_less : (line : Line) (lines : List Line) → is_for node line.work ≡ false → items_of lines node ≡ [] → items_of (line ∷ lines) node ≡ []
  item_less line lines is rest = rw is rest

  pub nobodys_items : (lines : List Line) → AllByRecursion (IsLineOfNode setup) lines → items_of lines node ≡ []
  nobodys_items [] named = refl
  nobodys_items (line ∷ lines) named =
      item_less line lines (not_its (actor_of line.work) named.0 (is_for node line.work) refl) (nobodys_items lines named.1)
