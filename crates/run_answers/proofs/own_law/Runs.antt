-- In every run clients act for their items: at each moment an open call is that of an open item.
use Rattle.std.proofs.Common.{◌≡◌, ◌⊎◌, ℕ, zero, suc, List, [], ◌∷◌, ◌++◌, drop, inl, inr, length, slice_get, Option, Some, None, refl, sym, ap, subst, ◌∙◌}
use Rattle.client_call.specs.declared.call.Call.{Call}
use Rattle.client_call.specs.declared.call.Plan.{Plan}
use Rattle.client_call.specs.declared.call.Plan.TheVariants.{One, File}
use Rattle.client_node.specs.declared.client.Client.{Client}
use Rattle.client_node.specs.declared.phase.Phase.{Phase}
use Rattle.client_node.specs.declared.phase.Phase.TheVariants.{Down, Opening, Serving as Serves}
use Rattle.client_node.specs.Phases.{client_step, lasting_of}
use Rattle.core_world.specs.AnyNode.{any_start, any_step}
use Rattle.core_world.specs.declared.any_node.AnyNode.{AnyNode}
use Rattle.core_world.specs.declared.any_node.AnyNode.TheVariants as any
use Rattle.file_plan.specs.declared.block_call.BlockCall.{BlockCall}
use Rattle.file_plan.specs.declared.state.PlanState.{PlanState}
use Rattle.token_protocol.specs.Basics.{In}
use Rattle.version_model.specs.declared.act.Act.{Act}
use Rattle.version_model.specs.declared.work.Work.{Work}
use Rattle.version_model.specs.declared.work.Work.TheVariants as work
use Rattle.world_base.specs.Cluster.{cluster_of, place_of}
use Rattle.world_base.specs.declared.cluster.Cluster.{Cluster}
use Rattle.world_base.specs.declared.estate.Estate.{Estate}
use Rattle.world_base.specs.declared.event.Event.{Event}
use Rattle.world_base.specs.declared.world.World.{World}
use Rattle.world_base.specs.Events.{node_of, what_of}
use Rattle.world_base.specs.Items.{items_of}
use Rattle.world_base.specs.NextWorld.{next_world, start_world}
use Rattle.run_laws.proofs.world_law.Everyone.{everyone_so}
use Rattle.run_laws.proofs.world_law.Start.{first_stands}
use Rattle.run_laws.proofs.world_law.Turning.{next_cluster, next_keeps}
use Rattle.run_laws.proofs.world_reads.Taking.{NothingHappens, Took, moment_next, takes_or_not}
use Rattle.headline.specs.Moments.{acts_in, moment, node_in, node_named}
use Rattle.xfs_base.specs.declared.node.NodeId.{NodeId}
use Rattle.xfs_base.specs.declared.node.NodeId.TheVariants as nodes
use Rattle.run_answers.proofs.act_law.Calling.{PlanFits}
use Rattle.run_answers.proofs.act_law.Clients as act_clients
use Rattle.run_answers.proofs.act_law.Clients.{PhaseHolds}
use Rattle.run_answers.proofs.act_law.Runs as act_runs
use Rattle.run_answers.proofs.act_law.Runs.{moment_first, moment_past}
use Rattle.run_answers.proofs.act_law.Trails.{Trailed}
use Rattle.run_answers.proofs.own_law.Clients.{each_acts}
use Rattle.run_answers.proofs.own_law.Events.{ForItem, Owns, acts_for}
use Rattle.run_answers.proofs.own_law.Others.{others_act}
use Rattle.headline.specs.Calls.{CallHasItem, EventActs, IsClients, Opens, of_items, open_in}
use Rattle.std.proofs.Math.Seq.{drop-append_seam}
use Rattle.std.specs.List.{AllByRecursion}
use Rattle.run_answers.proofs.own_law.Single.{IsOwnCall, among_items}
use Rattle.headline.specs.Files.{BeganBehind}
use Rattle.headline.specs.Items.{IsFileCall, asked_at}
use Rattle.run_answers.specs.own_law.Runs.{EachRunsClientsActForItems}
use Rattle.headline.specs.ItemActs.{IsClientsEvent, IsOfBlocks}
use Rattle.headline.specs.Standings.{IsRestart}

-- ---- what is open

abbrev pub Sound : AnyNode → Type 0
Sound (any.Client c) = CallHasItem c.phase
Sound _ = Unit {0}

step_sound : (x : AnyNode) (event : Event) → Sound x → Sound (any_step x (what_of event)).node
step_sound (any.Client c) event s = (each_acts c (what_of event) s).sound
step_sound (any.Manager m) event s = tt
step_sound (any.Server v) event s = tt
step_sound (any.Cleaner c) event s = tt
step_sound (any.Registry r) event s = tt

same_node : (a b : AnyNode) → Some a ≡ Some b → a ≡ b
same_node a b fact = cc

module _ (e : Estate AnyNode) where
  abbrev AllSound : Cluster → List AnyNode → Type 0
  AllSound k xs = (name : NodeId) (x : AnyNode) → node_in xs (place_of k name) ≡ Some x → Sound x

  abbrev WorldSound : World AnyNode → Type 0
  WorldSound w = AllSound w.cluster w.nodes

  starts : (name : NodeId) (works : List Work) → Sound (any_start name e.script.setup works)
  starts (nodes.Client number) works = λ call fact. absurd (no_call call fact)
    where
      no_call : (call : Call) → None ≡ Some call → ⊥
      no_call call fact = cc
  starts (nodes.Manager number) works = tt
  starts (nodes.Server number) works = tt
  starts nodes.Cleaner works = tt
  starts nodes.Registry works = tt

  start_sound : WorldSound (start_world any_start e.script)
  unfolding start_world
  start_sound name x = by (place_of (cluster_of e.script.setup) name) refl
    where
      by : (o : Option ℕ) → place_of (cluster_of e.script.setup) name ≡ o → node_in (start_world any_start e.script).nodes o ≡ Some x → Sound x
      by None at fact = absurd cc
      by (Some p) at fact =
          let here : node_in (start_world any_start e.script).nodes (Some p) ≡ Some (any_start name e.script.setup (items_of e.script.lines name)) =
          ap (node_in (start_world any_start e.script).nodes) (sym at) ∙ first_stands e.script name p at in
          subst Sound (same_node (any_start name e.script.setup (items_of e.script.lines name)) x (sym here ∙ fact)) (starts name (items_of e.script.lines name))

  next_sound : (w : World AnyNode) (event : Event) → WorldSound w → WorldSound (next_world any_step w event)
  next_sound w event all =
      subst (λ k. AllSound k (next_world any_step w event).nodes) (sym (next_cluster any_step w event))
      (next_keeps any_step (λ xs sent acts. AllSound w.cluster xs) w event all
      (λ place x clock at fact.
      everyone_so w.cluster w.nodes (node_of event) place at x (any_step x (what_of event)).node fact (λ name y. Sound y)
      (step_sound x event (all (node_of event) x (ap (node_in w.nodes) at ∙ fact))) (λ name y differs was. all name y was)))

  sound_next : (count : ℕ) → WorldSound (moment e count) → WorldSound (moment e (suc count))
  sound_next count all = by (slice_get e.events count) refl
    where
      by : (o : Option Event) → slice_get e.events count ≡ o → WorldSound (moment e (suc count))
      by None fact = subst WorldSound (sym (moment_past e count fact)) all
      by (Some event) fact = subst WorldSound (sym (moment_next e count event fact)) (next_sound (moment e count) event all)

  pub sound_at : (count : ℕ) → WorldSound (moment e count)
  sound_at zero = subst WorldSound (sym (moment_first e)) start_sound
  sound_at (suc count) = sound_next count (sound_at count)

  -- ---- the open call is the open item's

  trailed_file : (Began : ℕ → List Act → Type 0) (client item : ℕ) (w : Option Work) (acts : List Act) (p : PlanState) → Trailed Began client item w acts p
      → IsFileCall w
  trailed_file Began client item (Some (work.File c call)) acts p t = tt
  trailed_file Began client item _ acts p t = absurd t

  fits_own : (Began : ℕ → List Act → Type 0) (client : ℕ) (works : List Work) (first : List Act) (item : ℕ) (plan : Plan) (step : BlockCall) (w : Option Work)
      → PlanFits Began client works first [] item plan step w → IsOwnCall client w plan step
  fits_own Began client works first item One step w fits = fits
  fits_own Began client works first item (File p) step w fits = trailed_file Began client item w (first ++ []) p fits.1

  module _ (count : ℕ) (event : Event) (c : Client) (there : node_named (moment e count) (node_of event) ≡ Some (any.Client c)) where
    stands : act_runs.Stands e (moment e count).acts (node_of event) (any.Client c)
    stands = act_runs.stand_at e count (node_of event) (any.Client c) there

    abbrev works : List Work
    works = items_of e.script.lines (node_of event)

    pub owns : (p : Phase) → p ≡ c.phase → Owns (lasting_of c.phase).number works p
    owns (Down l) is item waits call fact = absurd cc
    owns (Opening l o) is item waits call fact = absurd cc
    owns (Serves s) is item waits call fact =
        let acts : List Act = (moment e count).acts in
        let h : PhaseHolds (BeganBehind e stands.0) stands.0 works acts [] (Serves s) =
        subst (PhaseHolds (BeganBehind e stands.0) stands.0 works acts []) (sym is) stands.1.1 in
        fits_own (BeganBehind e stands.0) stands.0 works acts item call.plan call.step (asked_at works item) (h.fits item waits call fact)

    acts_so : EventActs c (what_of event)
    acts_so = each_acts c (what_of event) (sound_at count (node_of event) (any.Client c) there)

    block_for : (a : Act) → IsOfBlocks a → In a (client_step c (what_of event)).acts
        → ForItem (lasting_of c.phase).number works (of_items (client_step c (what_of event)).acts) a
    block_for a is among =
        acts_for (lasting_of c.phase).number works c.phase (what_of event) (client_step c (what_of event)).node.phase
        (sound_at count (node_of event) (any.Client c) there) (owns c.phase refl) stands.1.1.its acts_so.acts a is
        (among_items a is (client_step c (what_of event)).acts among)

  -- ---- an opening

  same_restart : (w : Option Work) → act_clients.IsRestart w → IsRestart w
  same_restart (Some (work.Restart node)) is = is
  same_restart _ is = absurd is

  opening_so : (count : ℕ) (name : NodeId) (c : Client) → node_named (moment e count) name ≡ Some (any.Client c) → Opens c.phase → (item : ℕ)
      → open_in c.phase ≡ Some item → IsRestart (asked_at (items_of e.script.lines name) item)
  opening_so count name c there opens item waits = by c.phase refl opens waits
    where
      s : act_runs.Stands e (moment e count).acts name (any.Client c)
      s = act_runs.stand_at e count name (any.Client c) there

      by : (p : Phase) → p ≡ c.phase → Opens p → open_in p ≡ Some item → IsRestart (asked_at (items_of e.script.lines name) item)
      by (Down l) is opens waits = absurd opens
      by (Opening l o) is opens waits =
          let h : PhaseHolds (BeganBehind e s.0) s.0 (items_of e.script.lines name) (moment e count).acts [] (Opening l o) =
          subst (PhaseHolds (BeganBehind e s.0) s.0 (items_of e.script.lines name) (moment e count).acts []) (sym is) s.1.1 in
          same_restart (asked_at (items_of e.script.lines name) item) (h.fits item waits)
      by (Serves t) is opens waits = absurd opens

  -- ---- whose events they are

  module _ (count : ℕ) (event : Event) (a : Act) (is : IsClients a) where
    abbrev w : World AnyNode
    w = moment e count

    of_none : (acts : List Act) → AllByRecursion (λ x. IsClients x → ⊥) acts → In a acts → ⊥
    of_none [] none among = among
    of_none (x ∷ acts) none (inl same) = none.0 (subst IsClients same is)
    of_none (x ∷ acts) none (inr among) = of_none acts none.1 among

    -- the acts of the event are those of its node
    its : (x : AnyNode) → Took w event x → acts_in w event ≡ (any_step x (what_of event)).acts
    its x took = ap (drop (length w.acts)) took.acts ∙ drop-append_seam w.acts (any_step x (what_of event)).acts

    of_node : (x : AnyNode) → Took w event x → In a (acts_in w event) → (c : Client) × IsClientsEvent e count event c
    of_node (any.Client c) took among = (c, record { there = ap (node_in w.nodes) took.placed ∙ took.stands; acts = its (any.Client c) took })
    of_node (any.Manager m) took among =
        absurd (of_none _ (others_act (any.Manager m) (what_of event) tt) (subst (In a) (its (any.Manager m) took) among))
    of_node (any.Server v) took among =
        absurd (of_none _ (others_act (any.Server v) (what_of event) tt) (subst (In a) (its (any.Server v) took) among))
    of_node (any.Cleaner c) took among =
        absurd (of_none _ (others_act (any.Cleaner c) (what_of event) tt) (subst (In a) (its (any.Cleaner c) took) among))
    of_node (any.Registry r) took among =
        absurd (of_none _ (others_act (any.Registry r) (what_of event) tt) (subst (In a) (its (any.Registry r) took) among))

    no_more : (xs : List Act) → drop (length xs) xs ≡ []
    no_more [] = refl
    no_more (x ∷ xs) = no_more xs

    own_so : In a (acts_in w event) → (c : Client) × IsClientsEvent e count event c
    own_so among = by (takes_or_not w event)
      where
        by : NothingHappens w event ⊎ ((x : AnyNode) × Took w event x) → (c : Client) × IsClientsEvent e count event c
        by (inl none) = absurd (subst (In a) (ap (drop (length w.acts)) none.acts ∙ no_more w.acts) among)
        by (inr took) = of_node took.0 took.1 among

pub runs_act : EachRunsClientsActForItems
runs_act e = record {
  own = λ count event happens a is among. own_so e count event a is among;
  opening = opening_so e;
  events = λ count event happens c there. acts_so e count event c there;
  blocks = λ count event happens c there a is among. block_for e count event c there a is among;
}
