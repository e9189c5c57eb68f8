-- What is so of each event of a node is so in every run.
use Rattle.std.proofs.Common.{◌≡◌, ◌⊎◌, ℕ, suc, true, List, Option, Some, None, slice_get, drop, length, inl, inr, refl, sym, ap, subst, ◌∙◌}
use Rattle.std.proofs.Math.Seq.{drop-append_seam}
use Rattle.core_world.specs.AnyNode.{any_start, any_step}
use Rattle.core_world.specs.declared.any_node.AnyNode.{AnyNode}
use Rattle.node_base.specs.Beginning.{next_item}
use Rattle.node_slots.specs.node_tie.RegistryEvents.{RegistryEventGoes, RegistryStarts}
use Rattle.run_laws.proofs.world_law.Everyone.{everyone_so}
use Rattle.run_laws.proofs.world_law.Start.{first_stands}
use Rattle.run_laws.proofs.world_law.Turning.{next_cluster}
use Rattle.run_laws.proofs.world_reads.Taking.{Took, moment_next, node_then}
use Rattle.headline.specs.Moments.{moment, node_in, node_named}
use Rattle.version_model.specs.declared.work.Work.{Work}
use Rattle.wire_msg.specs.declared.packet.Do.TheVariants.{Begin}
use Rattle.world_base.specs.Cluster.{cluster_of, place_of}
use Rattle.world_base.specs.declared.estate.Estate.{Estate}
use Rattle.world_base.specs.declared.event.Event.{Event}
use Rattle.world_base.specs.declared.world.World.{World}
use Rattle.world_base.specs.Events.{node_of, what_of}
use Rattle.world_base.specs.Items.{actor_of, items_of}
use Rattle.world_base.specs.NextWorld.{after_turn, at_place, clock_at, world_happen, happen_at, next_world, start_world, turn_by, turn_of, turned}
use Rattle.xfs_base.specs.declared.node.NodeId.{NodeId}
use Rattle.xfs_base.specs.declared.node.NodeId.TheVariants as nodes
use Rattle.run_answers.proofs.act_law.Runs.{moment_first}
use Rattle.run_answers.proofs.due_law.Dues.{each_due}
use Rattle.run_answers.proofs.due_law.Giving.{can_give}
use Rattle.run_answers.proofs.due_law.Turns.{each_event, starts_serve}
use Rattle.run_answers.proofs.due_law.Waiting.{waits_so}
use Rattle.run_answers.proofs.once_law.Runs.{Known, node_known}
use Rattle.run_answers.proofs.standing_law.Moments.{each_stands}
use Rattle.run_answers.proofs.standing_law.Runs.{Asked, next_asked, stands_at}
use Rattle.headline.specs.Items.{asked_at, items_in, name_in}
use Rattle.headline.specs.Dues.{DueAt, IsDue, ItemsFit, NothingComes, PassesClocks, TakesTurn, has_counters}
use Rattle.run_answers.specs.due_law.Runs.{EachRunAnswersDue}
use Rattle.headline.specs.Standings.{standing}
use Rattle.headline.specs.Standings.Standing.{Serves}

same_one : (a b : AnyNode) → Some a ≡ Some b → a ≡ b
same_one a b fact = cc

same_work : (a b : Work) → Some a ≡ Some b → a ≡ b
same_work a b fact = cc

-- ---- the node's turn

-- by the event at this clock the world is that behind the node's step
pub record Turned (w : World AnyNode) (event : Event) (x : AnyNode) : Type 0 where
  place : ℕ
  placed : place_of w.cluster (node_of event) ≡ Some place
  there : slice_get w.nodes place ≡ Some x
  clock : ℕ
  is : next_world any_step w event ≡ after_turn any_step w place clock (turn_by any_step w.nodes place (what_of event) (Some x))

-- or nothing happens
pub record Idle (w : World AnyNode) (event : Event) : Type 0 where
  ends : PassesClocks w event
  stays : next_world any_step w event ≡ w

pub turns_or_ends : (w : World AnyNode) (event : Event) (x : AnyNode) → node_named w (node_of event) ≡ Some x → Idle w event ⊎ Turned w event x
unfolding world_happen happen_at turn_of
turns_or_ends w event x = by (place_of w.cluster (node_of event)) refl
  where
    at : (place : ℕ) → place_of w.cluster (node_of event) ≡ Some place → slice_get w.nodes place ≡ Some x → (clock : Option ℕ)
        → clock_at w place (what_of event) ≡ clock → Idle w event ⊎ Turned w event x
    at place placed there None fact = inl (record {
      ends = (place, (placed, fact));
      stays = ap (at_place any_step w (what_of event)) placed ∙ ap (turned any_step w place (what_of event)) fact;
    })
    at place placed there (Some clock) fact = inr (record {
      place = place;
      placed = placed;
      there = there;
      clock = clock;
      is = ap (at_place any_step w (what_of event)) placed
          ∙ (ap (turned any_step w place (what_of event)) fact
          ∙ ap (λ (o : Option AnyNode). after_turn any_step w place clock (turn_by any_step w.nodes place (what_of event) o)) there);
    })

    by : (o : Option ℕ) → place_of w.cluster (node_of event) ≡ o → node_in w.nodes o ≡ Some x → Idle w event ⊎ Turned w event x
    by None placed there = absurd cc
    by (Some place) placed there = at place placed there (clock_at w place (what_of event)) refl

module _ (e : Estate AnyNode) where
  -- ---- the start

  start_so : (name : NodeId) (x : AnyNode) → node_named (start_world any_start e.script) name ≡ Some x → standing x ≡ Serves
  unfolding start_world
  start_so name x = by (place_of (cluster_of e.script.setup) name) refl
    where
      first : AnyNode
      first = any_start name e.script.setup (items_of e.script.lines name)

      by : (o : Option ℕ) → place_of (cluster_of e.script.setup) name ≡ o → node_in (start_world any_start e.script).nodes o ≡ Some x → standing x ≡ Serves
      by None at fact = absurd cc
      by (Some p) at fact =
          let here : node_in (start_world any_start e.script).nodes (Some p) ≡ Some first =
          ap (node_in (start_world any_start e.script).nodes) (sym at) ∙ first_stands e.script name p at in
          subst (λ y. standing y ≡ Serves) (same_one first x (sym here ∙ fact)) (starts_serve name e.script.setup (items_of e.script.lines name))

  -- ---- what is open

  first_fits : (name : NodeId) → ItemsFit (any_start name e.script.setup (items_of e.script.lines name))
  first_fits (nodes.Client k) = tt
  first_fits (nodes.Manager k) = tt
  first_fits (nodes.Server k) = tt
  first_fits nodes.Cleaner = tt
  first_fits nodes.Registry = refl

  pub fits_at : (count : ℕ) (name : NodeId) (x : AnyNode) → node_named (moment e count) name ≡ Some x → ItemsFit x
  fits_at = each_stands (λ name x. ItemsFit x) e first_fits (λ count event happens x was fits. (each_event x (what_of event)).items_fit fits)

  -- ---- an event

  module _ (count : ℕ) (event : Event) (happens : slice_get e.events count ≡ Some event) (x : AnyNode)
      (was : node_named (moment e count) (node_of event) ≡ Some x) where
    abbrev w : World AnyNode
    w = moment e count

    turn_so : Turned w event x → TakesTurn e count event x
    turn_so t = record {
      clock = t.clock;
      is = ap (λ (v : World AnyNode). node_named v (node_of event)) (moment_next e count event happens)
          ∙ (ap (λ k. node_in (next_world any_step w event).nodes (place_of k (node_of event))) (next_cluster any_step w event) ∙ node_then w.cluster w refl event x took);
      acts = ap (drop (length w.acts)) took.acts ∙ drop-append_seam w.acts (any_step x (what_of event)).acts;
      others = others;
      sent = ap (λ (v : World AnyNode). v.sent) (moment_next e count event happens) ∙ ap (λ (v : World AnyNode). v.sent) t.is;
    }
      where
        took : Took w event x
        took = record {
          place = t.place;
          placed = t.placed;
          stands = t.there;
          nodes = ap (λ (v : World AnyNode). v.nodes) t.is;
          acts = ap (λ (v : World AnyNode). v.acts) t.is;
        }

        -- where it is another, it was there before
        Was : NodeId → AnyNode → Type 0
        Was name y = (name ≡ node_of event → ⊥) → node_named w name ≡ Some y

        others : (name : NodeId) (y : AnyNode) → (name ≡ node_of event → ⊥) → node_named (moment e (suc count)) name ≡ Some y → node_named w name ≡ Some y
        others name y differs fact =
            everyone_so w.cluster w.nodes (node_of event) t.place t.placed x (any_step x (what_of event)).node t.there Was (λ apart. absurd (apart refl))
            (λ other z apart before _. before) name y
            (ap (λ nodes. node_in nodes (place_of w.cluster name)) (sym took.nodes)
            ∙ (ap (λ k. node_in (next_world any_step w event).nodes (place_of k name)) (sym (next_cluster any_step w event))
            ∙ (ap (λ (v : World AnyNode). node_named v name) (sym (moment_next e count event happens)) ∙ fact)))
            differs

    pub turn : Idle w event ⊎ Turned w event x → NothingComes e count event ⊎ TakesTurn e count event x
    turn (inl idle) = inl (record { ends = idle.ends; stays = moment_next e count event happens ∙ idle.stays })
    turn (inr t) = inr (turn_so t)

    due_so : (number : ℕ) (wanted : Work) → what_of event ≡ Begin → next_item (items_in x) ≡ Some number
        → asked_at (items_of e.script.lines (node_of event)) number ≡ Some wanted → has_counters x ≡ true → IsDue x number (any_step x (what_of event)) wanted
    due_so number wanted begin next asked room =
        subst (λ what. IsDue x number (any_step x what) wanted) (sym begin)
        (each_due x number wanted room (fits_at count (node_of event) x was) own
        (record { begin = refl; next = next; asked = ap (λ (ws : List Work). asked_at ws number) known.works ∙ asked }))
      where
        known : Known e (node_of event) x
        known = node_known e count (node_of event) x was

        its : Asked (node_of event) (items_of e.script.lines (node_of event)) number
        its = next_asked e.script.lines (node_of event) (items_in x) known.works number next

        own : actor_of wanted ≡ Some (name_in x)
        own =
            ap actor_of (same_work wanted its.its (sym asked ∙ its.there)) ∙ (its.for_it ∙ ap Some (sym known.named))

    due_at : DueAt e count event x
    due_at = record {
      turn = turn (turns_or_ends w event x was);
      stands = each_event x (what_of event);
      items_fit = fits_at count (node_of event) x was;
      due = due_so;
    }

pub each_run : RegistryStarts → RegistryEventGoes → EachRunAnswersDue
each_run begin goes e = record {
  starts = λ name x fact. start_so e name x (subst (λ (v : World AnyNode). node_named v name ≡ Some x) (moment_first e) fact);
  waits = λ count name x fact. waits_so e name x (fits_at e count name x fact) (stands_at e count name x fact);
  gives = λ count slot r was room within. can_give begin goes e count slot r was room within;
  events = λ count event happens before was. due_at e count event happens before was;
}
