-- In each event of a run: where a node answers that a segment is lost, it has said so before, and the item was begun.
use Rattle.std.proofs.Common.{◌≡◌, ◌≤◌, ℕ, List, [], ◌∷◌, ◌++◌, drop, length, slice_get, slice_set, take, Option, Some, None, refl, sym, ap, subst, ◌∙◌}
use Rattle.std.specs.List.{fold}
use Rattle.cleaner_node.specs.CleanerEvents as cleaning
use Rattle.client_node.specs.declared.client.Client.{Client}
use Rattle.client_node.specs.Phases.{lasting_of, takes}
use Rattle.core_world.specs.AnyNode.{any_start, any_step}
use Rattle.core_world.specs.declared.any_node.AnyNode.{AnyNode}
use Rattle.core_world.specs.declared.any_node.AnyNode.TheVariants as any
use Rattle.script_text.specs.declared.script.Script.{Script}
use Rattle.token_protocol.specs.Basics.{In}
use Rattle.version_model.specs.declared.act.Act.{Act}
use Rattle.version_model.specs.declared.work.Work.{Work}
use Rattle.world_base.specs.Cluster.{cluster_of, place_of}
use Rattle.world_base.specs.declared.cluster.Cluster.{Cluster}
use Rattle.world_base.specs.declared.estate.Estate.{Estate}
use Rattle.world_base.specs.declared.event.Event.{Event}
use Rattle.world_base.specs.declared.world.World.{World}
use Rattle.world_base.specs.Events.{node_of, what_of}
use Rattle.world_base.specs.Items.{items_of}
use Rattle.world_base.specs.NextWorld.{next_world, start_world}
use Rattle.world_base.specs.Runs.{begins_of}
use Rattle.run_laws.proofs.world_law.Everyone.{everyone_so}
use Rattle.run_laws.proofs.world_law.Pasts.{done_after, holds_at, none_after}
use Rattle.run_laws.proofs.world_law.Start.{first_stands}
use Rattle.run_laws.proofs.world_law.Turning.{next_cluster, next_keeps}
use Rattle.headline.specs.Moments.{acts_in, moment, node_in, node_named}
use Rattle.xfs_base.specs.declared.node.NodeId.{NodeId}
use Rattle.xfs_base.specs.declared.node.NodeId.TheVariants as nodes
use Rattle.xfs_base.specs.declared.segment.SegName.{SegName}
use Rattle.xfs_base.specs.declared.setup.Setup.{Setup}
use Rattle.serving_moves.proofs.item_moves.Begins.{now, taken_next}
use Rattle.run_losses.proofs.answer_law.Begins.{Within, begun_within, goes_within, later_within, nothing_within}
use Rattle.run_losses.proofs.answer_law.Cleaners.{cleaner_turned, the_cleaner_says}
use Rattle.run_losses.proofs.answer_law.Cleaners as cleaners
use Rattle.run_losses.proofs.answer_law.Clients.{client_turned, clients_say}
use Rattle.run_losses.proofs.answer_law.Clients as clients
use Rattle.run_losses.proofs.answer_law.Others.{others_say_none}
use Rattle.run_losses.proofs.answer_law.Telling.{node_so, none_said}
use Rattle.run_losses.specs.answer_law.Answers.{IsBegunBy}
use Rattle.headline.specs.Losses.{LossesAreSaid, NoneIsLost, answers_lost}
use Rattle.run_losses.specs.answer_law.Calls.{GoesWell}
use Rattle.run_losses.specs.answer_law.Runs.{LostAnswersAreSaid}

-- a client or the cleaner of this name: its call ends well, and the items of which it knows have begun
abbrev Stands : NodeId → ℕ → AnyNode → Type 0
Stands name limit (any.Client c) =
    (nodes.Client (lasting_of c.phase).number ≡ name) × (GoesWell c.phase × Within limit (lasting_of c.phase).items)
Stands name limit (any.Cleaner c) = (nodes.Cleaner ≡ name) × Within limit (cleaning.lasting_of c.phase).items
Stands name limit _ = Unit {0}

abbrev AllStand : Cluster → List Event → List AnyNode → Type 0
AllStand k past xs = (name : NodeId) (x : AnyNode) → node_in xs (place_of k name) ≡ Some x → Stands name (begins_of name past) x

same_node : (a b : AnyNode) → Some a ≡ Some b → a ≡ b
same_node a b fact = cc

-- ---- the start

starts : (name : NodeId) (setup : Setup) (works : List Work) → Stands name (begins_of name []) (any_start name setup works)
starts (nodes.Client number) setup works = (refl, (tt, nothing_within _ refl refl (begins_of (nodes.Client number) [])))
starts (nodes.Manager number) setup works = tt
starts (nodes.Server number) setup works = tt
starts nodes.Cleaner setup works = (refl, nothing_within _ refl refl (begins_of nodes.Cleaner []))
starts nodes.Registry setup works = tt

start_stands : (script : Script) → AllStand (cluster_of script.setup) [] (start_world any_start script).nodes
unfolding start_world
start_stands script name x = by (place_of (cluster_of script.setup) name) refl
  where
    first : AnyNode
    first = any_start name script.setup (items_of script.lines name)

    by : (o : Option ℕ) → place_of (cluster_of script.setup) name ≡ o → node_in (start_world any_start script).nodes o ≡ Some x
        → Stands name (begins_of name []) x
    by None at fact = absurd cc
    by (Some p) at fact =
        let here : node_in (start_world any_start script).nodes (Some p) ≡ Some first =
        ap (node_in (start_world any_start script).nodes) (sym at) ∙ first_stands script name p at in
        subst (Stands name (begins_of name [])) (same_node first x (sym here ∙ fact)) (starts name script.setup (items_of script.lines name))

-- ---- an event

module _ (past : List Event) (event : Event) where
  later_stands : (name : NodeId) (x : AnyNode) → Stands name (begins_of name past) x → Stands name (begins_of name (now past event)) x
  later_stands name (any.Client c) s = (s.0, (s.1.0, later_within past event name (lasting_of c.phase).items s.1.1))
  later_stands name (any.Cleaner c) s = (s.0, later_within past event name (cleaning.lasting_of c.phase).items s.1)
  later_stands name _ s = tt

  step_stands : (x : AnyNode) → Stands (node_of event) (begins_of (node_of event) past) x
      → Stands (node_of event) (begins_of (node_of event) (now past event)) (any_step x (what_of event)).node
  step_stands (any.Client c) s =
      let t = client_turned c (what_of event) s.1.0 in (
        ap nodes.Client t.number ∙ s.0,
        (
          t.well,
          goes_within past event (lasting_of c.phase).items (lasting_of (takes c (what_of event)).state).items s.1.1
              t.items,
        ),
      )
  step_stands (any.Cleaner c) s =
      let t = cleaner_turned c (what_of event) in (
        s.0,
        goes_within past event (cleaning.lasting_of c.phase).items
            (cleaning.lasting_of (cleaning.takes c.peers c.phase (what_of event)).state).items s.1 t.items,
      )
  step_stands (any.Manager m) s = tt
  step_stands (any.Server v) s = tt
  step_stands (any.Registry r) s = tt

  -- what it says is said
  step_says : (x : AnyNode) → Stands (node_of event) (begins_of (node_of event) past) x → LossesAreSaid (any_step x (what_of event)).acts
  step_says (any.Client c) s = (clients_say c (what_of event) s.1.0).says.said
  step_says (any.Manager m) s = none_said (any_step (any.Manager m) (what_of event)).acts (others_say_none.managers m (what_of event))
  step_says (any.Server v) s = none_said (any_step (any.Server v) (what_of event)).acts (others_say_none.servers v (what_of event))
  step_says (any.Cleaner c) s = (the_cleaner_says c (what_of event)).said
  step_says (any.Registry r) s = none_said (any_step (any.Registry r) (what_of event)).acts (others_say_none.registry r (what_of event))

  abbrev Begun : List Act → Type 0
  Begun acts = (node : NodeId) (item : ℕ) (name : SegName) → In (answers_lost node item name) acts → item ≤ begins_of node (now past event)

  -- and the item was begun
  step_begun : (x : AnyNode) → Stands (node_of event) (begins_of (node_of event) past) x → Begun (any_step x (what_of event)).acts
  step_begun (any.Client c) s node item name fact =
      let what = what_of event in
      let t = client_turned c what s.1.0 in
      let me : node ≡ node_of event =
      node_so (IsBegunBy (clients.items_in c.phase) what) (nodes.Client (lasting_of c.phase).number) (takes c what).outs t.told node item name fact ∙ s.0 in
      subst (λ n. item ≤ begins_of n (now past event)) (sym me)
      (begun_within past event (lasting_of c.phase).items s.1.1 item ((clients_say c what s.1.0).says.begun node item name fact))
  step_begun (any.Cleaner c) s node item name fact =
      let what = what_of event in
      let t = cleaner_turned c what in
      let me : node ≡ node_of event =
      node_so (IsBegunBy (cleaners.items_in c.phase) what) nodes.Cleaner (cleaning.takes c.peers c.phase what).outs t.told node item name fact ∙ s.0 in
      subst (λ n. item ≤ begins_of n (now past event)) (sym me)
      (begun_within past event (cleaning.lasting_of c.phase).items s.1 item ((the_cleaner_says c what).begun node item name fact))
  step_begun (any.Manager m) s node item name fact = absurd (others_say_none.managers m (what_of event) node item name fact)
  step_begun (any.Server v) s node item name fact = absurd (others_say_none.servers v (what_of event) node item name fact)
  step_begun (any.Registry r) s node item name fact = absurd (others_say_none.registry r (what_of event) node item name fact)

  -- a manager answers no item so
  step_none : (j : ℕ) → node_of event ≡ nodes.Manager j → (x : AnyNode) → Stands (node_of event) (begins_of (node_of event) past) x
      → NoneIsLost (any_step x (what_of event)).acts
  step_none j is (any.Client c) s = absurd (let clash : nodes.Client (lasting_of c.phase).number ≡ nodes.Manager j = s.0 ∙ is in cc)
  step_none j is (any.Manager m) s = others_say_none.managers m (what_of event)
  step_none j is (any.Server v) s = others_say_none.servers v (what_of event)
  step_none j is (any.Cleaner c) s = absurd (let clash : nodes.Cleaner ≡ nodes.Manager j = s.0 ∙ is in cc)
  step_none j is (any.Registry r) s = others_say_none.registry r (what_of event)

  -- all stand so then
  module _ (w : World AnyNode) (all : AllStand w.cluster past w.nodes) where
    here : (place : ℕ) (x : AnyNode) → place_of w.cluster (node_of event) ≡ Some place → slice_get w.nodes place ≡ Some x
        → Stands (node_of event) (begins_of (node_of event) past) x
    here place x at fact = all (node_of event) x (ap (node_in w.nodes) at ∙ fact)

    turn_stands : (place : ℕ) (x : AnyNode) → place_of w.cluster (node_of event) ≡ Some place → slice_get w.nodes place ≡ Some x
        → AllStand w.cluster (now past event) (slice_set w.nodes place (any_step x (what_of event)).node)
    turn_stands place x at fact =
        everyone_so w.cluster w.nodes (node_of event) place at x (any_step x (what_of event)).node fact (λ name y. Stands name (begins_of name (now past event)) y)
        (step_stands x (here place x at fact)) (λ name y differs was. later_stands name y (all name y was))

    next_stands : AllStand (next_world any_step w event).cluster (now past event) (next_world any_step w event).nodes
    next_stands =
        subst (λ k. AllStand k (now past event) (next_world any_step w event).nodes) (sym (next_cluster any_step w event))
        (next_keeps any_step (λ xs sent acts. AllStand w.cluster (now past event) xs) w event (λ name x fact. later_stands name x (all name x fact))
        (λ place x clock at fact. turn_stands place x at fact))

    no_acts : LossesAreSaid []
    no_acts node item name [] behind e = absurd cc
    no_acts node item name (a ∷ before) behind e = absurd cc

    event_says : LossesAreSaid (acts_in w event)
    event_says =
        next_keeps any_step (λ xs sent acts. LossesAreSaid (drop (length w.acts) acts)) w event (subst LossesAreSaid (sym (none_after w.acts)) no_acts)
        (λ place x clock at fact.
        subst LossesAreSaid (sym (done_after w.acts (any_step x (what_of event)).acts)) (step_says x (here place x at fact)))

    event_begun : Begun (acts_in w event)
    event_begun =
        next_keeps any_step (λ xs sent acts. Begun (drop (length w.acts) acts)) w event
        (subst Begun (sym (none_after w.acts)) (λ node item name fact. absurd fact))
        (λ place x clock at fact. subst Begun (sym (done_after w.acts (any_step x (what_of event)).acts)) (step_begun x (here place x at fact)))

    event_none : (j : ℕ) → node_of event ≡ nodes.Manager j → NoneIsLost (acts_in w event)
    event_none j is =
        next_keeps any_step (λ xs sent acts. NoneIsLost (drop (length w.acts) acts)) w event
        (subst NoneIsLost (sym (none_after w.acts)) (λ node item name fact. absurd fact))
        (λ place x clock at fact. subst NoneIsLost (sym (done_after w.acts (any_step x (what_of event)).acts)) (step_none j is x (here place x at fact)))

-- ---- runs

abbrev WorldStands : List Event → World AnyNode → Type 0
WorldStands past w = AllStand w.cluster past w.nodes

all_stand : (events : List Event) (count : ℕ) (w : World AnyNode) (past : List Event) → WorldStands past w
    → WorldStands (past ++ take count events) (fold (next_world any_step) w (take count events))
all_stand = holds_at WorldStands next_stands

module _ (e : Estate AnyNode) where
  first_cluster : (start_world any_start e.script).cluster ≡ cluster_of e.script.setup
  unfolding start_world
  first_cluster = refl

  stands_at : (count : ℕ) → WorldStands (take count e.events) (moment e count)
  stands_at count =
      all_stand e.events count (start_world any_start e.script) []
      (subst (λ k. AllStand k [] (start_world any_start e.script).nodes) (sym first_cluster) (start_stands e.script))

-- a client of a run has its number, and its call ends well
pub client_stands : (e : Estate AnyNode) (count c : ℕ) (node : Client) → node_named (moment e count) (nodes.Client c) ≡ Some (any.Client node)
    → (nodes.Client (lasting_of node.phase).number ≡ nodes.Client c) × GoesWell node.phase
client_stands e count c node fact = (let s = stands_at e count (nodes.Client c) (any.Client node) fact in (s.0, s.1.0))

-- in no event of a manager an item is answered so
pub managers_answer_none : (e : Estate AnyNode) (count : ℕ) (event : Event) (j : ℕ) → node_of event ≡ nodes.Manager j → NoneIsLost (acts_in (moment e count) event)
managers_answer_none e count event j is = event_none (take count e.events) event (moment e count) (stands_at e count) j is

pub runs_say : LostAnswersAreSaid
runs_say e = record {
  said = λ count event fact. event_says (take count e.events) event (moment e count) (stands_at e count);
  begun = λ count event fact node item name among.
      subst (λ es. item ≤ begins_of node es) (taken_next e.events count event fact)
      (event_begun (take count e.events) event (moment e count) (stands_at e count) node item name among);
}
