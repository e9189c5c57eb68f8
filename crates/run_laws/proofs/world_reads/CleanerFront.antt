-- The next moment of a run: what the event at a count makes of the moment there; and the cleaner takes its step there, or nothing happens.
use Rattle.std.proofs.Common.{◌≡◌, ◌⊎◌, ℕ, zero, suc, List, [], ◌∷◌, ◌++◌, Some, drop, length, take, slice_get, slice_set, if◌then◌else◌, append-nil, inl, inr, refl, sym, ap, subst, ◌∙◌}
use Rattle.std.proofs.lemmas.List.{append_assoc}
use Rattle.std.proofs.Math.Seq.{drop-append_seam}
use Rattle.std.specs.List.{fold}
use Rattle.core_world.specs.AnyNode.{any_start, any_step}
use Rattle.cleaner_node.specs.CleanerEvents.{cleaner_step}
use Rattle.cleaner_node.specs.declared.cleaner.Cleaner.{Cleaner as CleanerNode}
use Rattle.core_world.specs.declared.any_node.AnyNode.{AnyNode}
use Rattle.core_world.specs.declared.any_node.AnyNode.TheVariants as any
use Rattle.version_model.specs.declared.act.Act.{Act}
use Rattle.wire_msg.specs.declared.packet.Do.{Do}
use Rattle.wire_msg.specs.declared.packet.Packet.{Packet}
use Rattle.world_base.specs.Cluster.{cluster_of, place_of}
use Rattle.world_base.specs.declared.cluster.Cluster.{Cluster}
use Rattle.world_base.specs.declared.estate.Estate.{Estate}
use Rattle.world_base.specs.declared.event.Event.{Event}
use Rattle.world_base.specs.declared.world.World.{World}
use Rattle.world_base.specs.Events.{node_of, what_of}
use Rattle.world_base.specs.NextWorld.{next_world, start_world}
use Rattle.world_base.specs.Runs.{IsRun, Leads, MayHappen}
use Rattle.run_laws.proofs.world_law.Nodes.{get_set_same}
use Rattle.run_laws.proofs.world_law.Turning.{next_cluster, next_keeps}
use Rattle.run_laws.proofs.world_law.Turns.{one_node}
use Rattle.headline.specs.Moments.{acts_in, moment, node_in}
use Rattle.run_laws.specs.world_logs.Lines.{cluster}
use Rattle.run_laws.proofs.world_reads.CleanerMoment.{IsHere, Steps}
use Rattle.xfs_base.specs.declared.node.NodeId.{NodeId}
use Rattle.xfs_base.specs.declared.node.NodeId.TheVariants.{Cleaner}
use Rattle.headline.specs.Logs.{acts_by, acts_of, did, owns}
use Rattle.run_laws.specs.world_reads.LoggedRuns.{LoggedRun}

-- ---- the next moment

one_event : (a b : Event) → Some a ≡ Some b → a ≡ b
one_event a b fact = cc

fold_next : (w : World AnyNode) (those : List Event) (count : ℕ) (event : Event) → slice_get those count ≡ Some event
    → fold (next_world any_step) w (take (suc count) those) ≡ next_world any_step (fold (next_world any_step) w (take count those)) event
fold_next w [] count event fact = absurd cc
fold_next w (x ∷ more) zero event fact = ap (λ y. next_world any_step w y) (one_event x event fact)
fold_next w (x ∷ more) (suc n) event fact = fold_next (next_world any_step w x) more n event fact

acts_next : (c : ℕ) (w : World AnyNode) (those : List Event) (count : ℕ) (event : Event) → slice_get those count ≡ Some event
    → acts_by c w (take (suc count) those) ≡ acts_by c w (take count those) ++ acts_of c (fold (next_world any_step) w (take count those)) event
acts_next c w [] count event fact = absurd cc
acts_next c w (x ∷ more) zero event fact = append-nil (acts_of c w x) ∙ ap (λ y. acts_of c w y) (one_event x event fact)
acts_next c w (x ∷ more) (suc n) event fact =
    ap (λ xs. acts_of c w x ++ xs) (acts_next c (next_world any_step w x) more n event fact)
    ∙ sym (append_assoc (acts_of c w x) (acts_by c (next_world any_step w x) (take n more)) _)

may_next : (w end : World AnyNode) (those : List Event) (count : ℕ) (event : Event) → Leads any_step w those end → slice_get those count ≡ Some event
    → MayHappen (fold (next_world any_step) w (take count those)) event
may_next w end [] count event leads fact = absurd cc
may_next w end (x ∷ more) zero event leads fact = subst (MayHappen w) (one_event x event fact) leads.0
may_next w end (x ∷ more) (suc n) event leads fact = may_next (next_world any_step w x) end more n event leads.1 fact

cluster_next : (w : World AnyNode) (those : List Event) (count : ℕ) → (fold (next_world any_step) w (take count those)).cluster ≡ w.cluster
cluster_next w [] zero = refl
cluster_next w [] (suc n) = refl
cluster_next w (x ∷ more) zero = refl
cluster_next w (x ∷ more) (suc n) = cluster_next (next_world any_step w x) more n ∙ next_cluster any_step w x

module _ (e : Estate AnyNode) (count : ℕ) (event : Event) (at : slice_get e.events count ≡ Some event) where
  pub moment_next : moment e (suc count) ≡ next_world any_step (moment e count) event
  moment_next = fold_next (start_world any_start e.script) e.events count event at

  pub did_next : (c : ℕ) → did e c (suc count) ≡ did e c count ++ acts_of c (moment e count) event
  did_next c = acts_next c (start_world any_start e.script) e.events count event at

  pub may_happen : IsRun any_step any_start e.script e.events e.world → MayHappen (moment e count) event
  may_happen run = may_next (start_world any_start e.script) e.world e.events count event run at

pub its_cluster : (e : Estate AnyNode) (count : ℕ) → (moment e count).cluster ≡ cluster_of e.script.setup
unfolding start_world
its_cluster e count = cluster_next (start_world any_start e.script) e.events count

-- ---- what an event makes of a world

module _ (w : World AnyNode) (event : Event) where
  -- the node of the event takes its step
  pub record Takes (nodes : List AnyNode) (acts : List Act) : Type 0 where
    pub place : ℕ
    pub node : AnyNode
    pub placed : place_of w.cluster (node_of event) ≡ Some place
    pub stands : slice_get w.nodes place ≡ Some node
    pub nodes_are : nodes ≡ slice_set w.nodes place (any_step node (what_of event)).node
    pub acts_are : acts ≡ w.acts ++ (any_step node (what_of event)).acts

  -- or nothing happens
  pub record Stays (nodes : List AnyNode) (acts : List Act) : Type 0 where
    pub nodes_stay : nodes ≡ w.nodes
    pub acts_stay : acts ≡ w.acts

  pub takes_or_stays : Takes (next_world any_step w event).nodes (next_world any_step w event).acts
      ⊎ Stays (next_world any_step w event).nodes (next_world any_step w event).acts
  takes_or_stays =
      next_keeps any_step (λ (nodes : List AnyNode) (sent : List Packet) (acts : List Act). Takes nodes acts ⊎ Stays nodes acts) w event
      (inr (record { nodes_stay = refl; acts_stay = refl }))
      (λ place node clock at fact. inl (record { place = place; node = node; placed = at; stands = fact; nodes_are = refl; acts_are = refl }))

-- ---- the cleaner

module _ (logged : LoggedRun) (part count : ℕ) (event : Event) (at : slice_get logged.estate.events count ≡ Some event) (whose : node_of event ≡ Cleaner)
    (node : CleanerNode) (here : IsHere logged part count node) where
  open logged use {base, estate as e}

  abbrev w : World AnyNode
  w = moment e count

  abbrev what : Do
  what = what_of event

  module _ (took : Takes w event (next_world any_step w event).nodes (next_world any_step w event).acts) where
    place_is : place_of (cluster base e) Cleaner ≡ Some took.place
    place_is = ap (λ (n : NodeId). place_of (cluster base e) n) (sym whose)
        ∙ (ap (λ (c : Cluster). place_of c (node_of event)) (sym (its_cluster e count)) ∙ took.placed)

    node_is : took.node ≡ any.Cleaner node
    node_is = one_node took.node (any.Cleaner node) (sym took.stands ∙ (ap (node_in w.nodes) (sym place_is) ∙ here))

    stands_then : node_in (next_world any_step w event).nodes (place_of (cluster base e) Cleaner) ≡ Some (any.Cleaner (cleaner_step node what).node)
    stands_then =
        ap (node_in (next_world any_step w event).nodes) place_is
        ∙ (ap (λ (xs : List AnyNode). slice_get xs took.place) took.nodes_are
        ∙ (get_set_same w.nodes took.place (any_step took.node what).node took.node took.stands
        ∙ ap (λ (x : AnyNode). Some (any_step x what).node) node_is))

    acted : did e 9 (suc count) ≡ did e 9 count ++ (cleaner_step node what).acts
    acted =
        did_next e count event at 9
        ∙ ap (λ xs. did e 9 count ++ xs)
        (ap (λ (n : NodeId). if owns 9 n then acts_in w event else []) whose
        ∙ (ap (λ xs. drop (length w.acts) xs) (took.acts_are ∙ ap (λ (x : AnyNode). w.acts ++ (any_step x what).acts) node_is)
        ∙ drop-append_seam w.acts (cleaner_step node what).acts))

    pub cleaner_steps : Steps logged part count node what
    cleaner_steps = record {
      before = here;
      after = subst (λ (v : World AnyNode). node_in v.nodes (place_of (cluster base e) Cleaner) ≡ Some (any.Cleaner (cleaner_step node what).node))
          (sym (moment_next e count event at)) stands_then;
      did = acted;
    }
