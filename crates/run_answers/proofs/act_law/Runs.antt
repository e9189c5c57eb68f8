-- In every run the answers of clients and of the cleaner tell of acts, and those of calls on files are by their plans: each event keeps the open call of each
-- client one of its open item.
use Rattle.std.proofs.Common.{◌≡◌, ℕ, zero, suc, List, [], ◌∷◌, ◌++◌, drop, length, slice_get, slice_set, take, Option, Some, None, inl, inr, refl, sym, ap, subst, ◌∙◌}
use Rattle.std.specs.List.{fold}
use Rattle.cleaner_node.specs.CleanerEvents as cleaning
use Rattle.client_call.specs.declared.call.Call.{Call}
use Rattle.client_node.specs.declared.client.Client.{Client}
use Rattle.client_node.specs.declared.phase.Phase.{Phase}
use Rattle.client_node.specs.Phases.{lasting_of, takes}
use Rattle.core_world.specs.AnyNode.{any_start, any_step}
use Rattle.core_world.specs.declared.any_node.AnyNode.{AnyNode}
use Rattle.core_world.specs.declared.any_node.AnyNode.TheVariants as any
use Rattle.manager_node.specs.Events as managing
use Rattle.node_base.specs.Beginning.{next_item}
use Rattle.node_base.specs.declared.effects.Effect.{Effect}
use Rattle.node_base.specs.Effects.{acts_of}
use Rattle.registry_node.specs.Events as registering
use Rattle.script_text.specs.declared.script.Script.{Script}
use Rattle.store_nodes.specs.ServerEvents as storing
use Rattle.token_protocol.specs.Basics.{In}
use Rattle.version_model.specs.declared.act.Act.{Act}
use Rattle.version_model.specs.declared.act.Act.TheVariants as act
use Rattle.version_model.specs.declared.answer.Answer.{Answer}
use Rattle.version_model.specs.declared.answer.Answer.TheVariants as answer
use Rattle.version_model.specs.declared.work.Work.{Work}
use Rattle.wire_msg.specs.declared.packet.Do.TheVariants as whats
use Rattle.world_base.specs.Cluster.{cluster_of, place_of}
use Rattle.world_base.specs.declared.cluster.Cluster.{Cluster}
use Rattle.world_base.specs.declared.estate.Estate.{Estate}
use Rattle.world_base.specs.declared.event.Event.{Event}
use Rattle.world_base.specs.declared.event.Event.TheVariants.{Begin, Deliver, Tick}
use Rattle.world_base.specs.declared.world.World.{World}
use Rattle.world_base.specs.Events.{node_of, what_of}
use Rattle.world_base.specs.Items.{items_of}
use Rattle.world_base.specs.NextWorld.{next_world, start_world}
use Rattle.run_laws.proofs.world_law.Everyone.{everyone_so}
use Rattle.run_laws.proofs.world_law.Pasts.{done_after, none_after}
use Rattle.run_laws.proofs.world_law.Start.{first_stands}
use Rattle.run_laws.proofs.world_law.Turning.{next_cluster, next_keeps}
use Rattle.run_laws.proofs.world_reads.Taking.{moment_next}
use Rattle.headline.specs.Moments.{acts_in, moment, node_in, node_named}
use Rattle.xfs_base.specs.declared.node.NodeId.{NodeId}
use Rattle.xfs_base.specs.declared.node.NodeId.TheVariants as nodes
use Rattle.run_answers.proofs.act_law.Cleaners as cleaners
use Rattle.run_answers.proofs.act_law.Clients.{PhaseHolds, Turned, beside_holds, client_answers, then_holds}
use Rattle.run_answers.proofs.act_law.Foundations.{Its, its_grow}
use Rattle.run_answers.proofs.act_law.Others as others
use Rattle.run_answers.proofs.act_law.Others.{IsOthers}
use Rattle.run_answers.proofs.act_law.Telling.{Founded, behind_acts}
use Rattle.run_answers.proofs.once_law.Runs.{Known, answers_itself, node_known}
use Rattle.run_answers.specs.act_law.Files.{EachFileAnswerIsPlanned}
use Rattle.headline.specs.Files.{BeganBehind, IsByPlan}
use Rattle.headline.specs.Answers.{IsCleaners, IsCleanersIncarnation, IsCut, IsDoneBy, IsFounded}
use Rattle.run_answers.specs.act_law.Runs.{EachAnswersActs}
use Rattle.headline.specs.Items.{asked_at, items_in, name_in}
use Rattle.run_answers.specs.once_law.Ledgers.{OpenHasBegun}

-- ---- the moments of a run

pub moment_first : (e : Estate AnyNode) → moment e 0 ≡ start_world any_start e.script
moment_first e = by e.events
  where
    by : (events : List Event) → fold (next_world any_step) (start_world any_start e.script) (take 0 events) ≡ start_world any_start e.script
    by [] = refl
    by (x ∷ more) = refl

pub moment_past : (e : Estate AnyNode) (count : ℕ) → slice_get e.events count ≡ None → moment e (suc count) ≡ moment e count
moment_past e count fact = by e.events count (start_world any_start e.script) fact
  where
    by : (events : List Event) (count : ℕ) (w : World AnyNode) → slice_get events count ≡ None
        → fold (next_world any_step) w (take (suc count) events) ≡ fold (next_world any_step) w (take count events)
    by [] zero w fact = refl
    by [] (suc count) w fact = refl
    by (x ∷ more) zero w fact = absurd cc
    by (x ∷ more) (suc count) w fact = by more count (next_world any_step w x) fact

module _ (e : Estate AnyNode) where
  abbrev pub script : Script
  script = e.script

  -- a client of this name behind these acts: it has its items, and its open call is one of its open item; and so the cleaner
  abbrev pub Stands : List Act → NodeId → AnyNode → Type 0
  Stands acts name (any.Client c) =
      (number : ℕ) × ((nodes.Client number ≡ name) × PhaseHolds (BeganBehind e number) number (items_of script.lines name) acts [] c.phase)
  Stands acts name (any.Cleaner c) = cleaners.PhaseHolds (items_of script.lines nodes.Cleaner) c.phase
  Stands acts name _ = Unit {0}

  abbrev pub AllStand : List Act → Cluster → List AnyNode → Type 0
  AllStand acts k xs = (name : NodeId) (x : AnyNode) → node_in xs (place_of k name) ≡ Some x → Stands acts name x

  abbrev pub WorldStands : World AnyNode → Type 0
  WorldStands w = AllStand w.acts w.cluster w.nodes

  same_node : (a b : AnyNode) → Some a ≡ Some b → a ≡ b
  same_node a b fact = cc

  -- others act this besides
  beside : (acts more : List Act) (name : NodeId) (x : AnyNode) → Stands acts name x → Stands (acts ++ more) name x
  beside acts more name (any.Client c) s =
      (s.0, (s.1.0, beside_holds (BeganBehind e s.0) s.0 (items_of script.lines name) acts more c.phase s.1.1))
  beside acts more name (any.Manager m) s = tt
  beside acts more name (any.Server v) s = tt
  beside acts more name (any.Cleaner c) s = s
  beside acts more name (any.Registry r) s = tt

  -- ---- the start

  starts : (name : NodeId) → Stands [] name (any_start name script.setup (items_of script.lines name))
  starts (nodes.Client number) = (number, (refl, record { number = refl; its = refl; fits = λ item waits call fact. absurd (no_call call fact) }))
    where
      no_call : (call : Call) → None ≡ Some call → ⊥
      no_call call fact = cc
  starts (nodes.Manager number) = tt
  starts (nodes.Server number) = tt
  starts nodes.Cleaner = record { its = refl; fits = tt }
  starts nodes.Registry = tt

  start_stands : WorldStands (start_world any_start script)
  unfolding start_world
  start_stands name x = by (place_of (cluster_of script.setup) name) refl
    where
      by : (o : Option ℕ) → place_of (cluster_of script.setup) name ≡ o → node_in (start_world any_start script).nodes o ≡ Some x → Stands [] name x
      by None at fact = absurd cc
      by (Some p) at fact =
          let here : node_in (start_world any_start script).nodes (Some p) ≡ Some (any_start name script.setup (items_of script.lines name)) =
          ap (node_in (start_world any_start script).nodes) (sym at) ∙ first_stands script name p at in
          subst (Stands [] name) (same_node (any_start name script.setup (items_of script.lines name)) x (sym here ∙ fact)) (starts name)

  -- ---- an event

  begin_is : (event : Event) → what_of event ≡ whats.Begin → event ≡ Begin (node_of event)
  begin_is (Begin node) fact = refl
  begin_is (Deliver packet) fact = absurd cc
  begin_is (Tick node) fact = absurd cc

  module _ (count : ℕ) (event : Event) (happens : slice_get e.events count ≡ Some event) where
    abbrev pub w : World AnyNode
    w = moment e count

    -- a client that begins its next item does so behind these acts
    pub begins_next : (c : Client) (number : ℕ) → nodes.Client number ≡ node_of event → node_named w (node_of event) ≡ Some (any.Client c)
        → what_of event ≡ whats.Begin → (item : ℕ) → next_item (lasting_of c.phase).items ≡ Some item → BeganBehind e number item w.acts
    begins_next c number named there what item next = record {
      count = count;
      happens = happens ∙ ap Some (begin_is event what ∙ ap Begin (sym named));
      node = any.Client c;
      its = ap (node_named w) named ∙ there;
      next = next;
      before = refl;
    }

    abbrev pub ClientTurned : ℕ → Client → Type 0
    ClientTurned number c =
        Turned (BeganBehind e number) number (items_of script.lines (node_of event)) w.acts (takes c (what_of event))

    pub client_turned : (c : Client) → node_named w (node_of event) ≡ Some (any.Client c) → (s : Stands w.acts (node_of event) (any.Client c))
        → ClientTurned s.0 c
    client_turned c there s =
        client_answers (BeganBehind e s.0) s.0 (items_of script.lines (node_of event)) w.acts c (what_of event) (begins_next c s.0 s.1.0 there) s.1.1

    step_stands : (x : AnyNode) → node_named w (node_of event) ≡ Some x → Stands w.acts (node_of event) x → OpenHasBegun (items_in x)
        → Stands (w.acts ++ (any_step x (what_of event)).acts) (node_of event) (any_step x (what_of event)).node
    step_stands (any.Client c) there s sound =
        let t : ClientTurned s.0 c = client_turned c there s in
        let outs : List Effect = (takes c (what_of event)).outs in
        let its : List Work = items_of script.lines (node_of event) in
        let after : Phase = (takes c (what_of event)).state in (
          s.0,
          (
            s.1.0,
            subst (λ n. PhaseHolds (BeganBehind e s.0) s.0 its (w.acts ++ acts_of (nodes.Client n) outs) [] after) (sym s.1.1.number)
                (then_holds (BeganBehind e s.0) s.0 its w.acts (acts_of (nodes.Client s.0) outs) after t.holds),
          ),
        )
    step_stands (any.Manager m) there s sound = tt
    step_stands (any.Server v) there s sound = tt
    step_stands (any.Cleaner c) there s sound =
        (cleaners.cleaner_answers (λ inc. Unit {0}) (items_of script.lines nodes.Cleaner) c (what_of event) tt s).holds
    step_stands (any.Registry r) there s sound = tt

    -- what is wanted of an answer of a node
    abbrev Wanted : NodeId → ℕ → Answer → List Act → List Act → Type 0
    Wanted (nodes.Client client) item a before behind =
        IsFounded client (items_of script.lines (nodes.Client client)) (asked_at (items_of script.lines (nodes.Client client)) item) before
        (IsDoneBy (nodes.Client client) behind) a
        × IsByPlan (BeganBehind e client) client item (asked_at (items_of script.lines (nodes.Client client)) item) (w.acts ++ before) a
    Wanted nodes.Cleaner item a before behind =
        IsCleaners (IsCleanersIncarnation w) (items_of script.lines nodes.Cleaner) (asked_at (items_of script.lines nodes.Cleaner) item) before
        (IsDoneBy nodes.Cleaner behind) a
    Wanted (nodes.Manager k) item a before behind = IsOthers (items_of script.lines (nodes.Manager k)) (IsDoneBy (nodes.Manager k) behind) a
    Wanted (nodes.Server k) item a before behind = IsOthers (items_of script.lines (nodes.Server k)) (IsDoneBy (nodes.Server k) behind) a
    Wanted nodes.Registry item a before behind = IsOthers (items_of script.lines nodes.Registry) (IsDoneBy nodes.Registry behind) a

    -- and of the acts of an event
    abbrev Tells : List Act → Type 0
    Tells acts =
        (node : NodeId) (item : ℕ) (a : Answer) (before behind : List Act) → acts ≡ before ++ act.Answered node item a ∷ behind
        → Wanted node item a before behind

    stands_there : (x : Act) (front behind : List Act) → In x (front ++ x ∷ behind)
    stands_there x [] behind = inl refl
    stands_there x (y ∷ front) behind = inr (stands_there x front behind)

    -- the node that answers has this name
    its_name : (x : AnyNode) → OpenHasBegun (items_in x) → (node : NodeId) (item : ℕ) (a : Answer) (before behind : List Act)
        → (any_step x (what_of event)).acts ≡ before ++ act.Answered node item a ∷ behind → node ≡ name_in x
    its_name x sound node item a before behind at =
        answers_itself x (what_of event) sound node item a
        (subst (In (act.Answered node item a)) (sym at) (stands_there (act.Answered node item a) before behind))

    client_tells : (c : Client) → node_named w (node_of event) ≡ Some (any.Client c) → Stands w.acts (node_of event) (any.Client c)
        → Known e (node_of event) (any.Client c) → (item : ℕ) (a : Answer) (before behind : List Act)
        → (any_step (any.Client c) (what_of event)).acts ≡ before ++ act.Answered (name_in (any.Client c)) item a ∷ behind
        → Wanted (name_in (any.Client c)) item a before behind
    client_tells c there s known item a before behind at =
        let number : ℕ = (lasting_of c.phase).number in
        let outs : List Effect = (takes c (what_of event)).outs in
        let me : s.0 ≡ number = sym s.1.1.number in
        let same : nodes.Client s.0 ≡ nodes.Client number = ap nodes.Client me in
        subst (λ n. Wanted n item a before behind) same
        (with_works (items_of script.lines (node_of event)) (ap (items_of script.lines) (sym s.1.0)) (client_turned c there s).founded
        (ap (λ n. acts_of n outs) same ∙ (at ∙ ap (λ n. before ++ act.Answered n item a ∷ behind) (sym same))))
      where
        with_works : (works : List Work) → works ≡ items_of script.lines (nodes.Client s.0)
            → Founded (nodes.Client s.0) (Its (BeganBehind e s.0) s.0 works w.acts) [] (takes c (what_of event)).outs
            → acts_of (nodes.Client s.0) (takes c (what_of event)).outs ≡ before ++ act.Answered (nodes.Client s.0) item a ∷ behind
            → Wanted (nodes.Client s.0) item a before behind
        with_works works its founded acts_are =
            subst
            (λ ws. IsFounded s.0 ws (asked_at ws item) before (IsDoneBy (nodes.Client s.0) behind) a
            × IsByPlan (BeganBehind e s.0) s.0 item (asked_at ws item) (w.acts ++ before) a) its
            (behind_acts (nodes.Client s.0) (Its (BeganBehind e s.0) s.0 works w.acts) (its_grow (BeganBehind e s.0) s.0 works w.acts) (nodes.Client s.0) item a
            [] (takes c (what_of event)).outs founded before behind acts_are)

    -- a node of another kind
    module _ (x : AnyNode) (known : Known e (node_of event) x) (item : ℕ) (a : Answer) (before behind : List Act) where
      abbrev its_works : List Work
      its_works = items_of script.lines (name_in x)

      has_works : (items_in x).works ≡ its_works
      has_works = known.works ∙ ap (items_of script.lines) (sym known.named)

      other_tells : (outs : List Effect) → Founded (name_in x) (others.Its (name_in x) its_works) [] outs
          → acts_of (name_in x) outs ≡ before ++ act.Answered (name_in x) item a ∷ behind → IsOthers its_works (IsDoneBy (name_in x) behind) a
      other_tells outs founded at =
          behind_acts (name_in x) (others.Its (name_in x) its_works) (others.its_grow (name_in x) its_works) (name_in x) item a [] outs founded before behind at

    own_tells : (x : AnyNode) → node_named w (node_of event) ≡ Some x → Stands w.acts (node_of event) x → Known e (node_of event) x → (item : ℕ) (a : Answer)
        (before behind : List Act) → (any_step x (what_of event)).acts ≡ before ++ act.Answered (name_in x) item a ∷ behind
        → Wanted (name_in x) item a before behind
    own_tells (any.Client c) there s known item a before behind at = client_tells c there s known item a before behind at
    own_tells (any.Cleaner c) there s known item a before behind at =
        let works : List Work = items_of script.lines nodes.Cleaner in
        let its : IsCleanersIncarnation w (cleaning.lasting_of c.phase).inc = (c, (ap (node_named w) known.named ∙ there, refl)) in
        behind_acts nodes.Cleaner (cleaners.Its (IsCleanersIncarnation w) works) (cleaners.its_grow (IsCleanersIncarnation w) works) nodes.Cleaner item a []
        (cleaning.takes c.peers c.phase (what_of event)).outs
        (cleaners.cleaner_answers (IsCleanersIncarnation w) works c (what_of event) its s).founded before behind at
    own_tells (any.Manager m) there s known item a before behind at =
        other_tells (any.Manager m) known item a before behind (managing.happens m (what_of event)).outs
        (others.manager_cuts (name_in (any.Manager m)) (its_works (any.Manager m) known item a before behind) m (what_of event)
        (has_works (any.Manager m) known item a before behind)) at
    own_tells (any.Server v) there s known item a before behind at =
        other_tells (any.Server v) known item a before behind (storing.takes v (what_of event)).outs
        (others.server_cuts (name_in (any.Server v)) (its_works (any.Server v) known item a before behind) v (what_of event)
        (has_works (any.Server v) known item a before behind)) at
    own_tells (any.Registry r) there s known item a before behind at =
        other_tells (any.Registry r) known item a before behind (registering.takes r (what_of event)).outs
        (others.registry_cuts (name_in (any.Registry r)) (its_works (any.Registry r) known item a before behind) r (what_of event)
        (has_works (any.Registry r) known item a before behind)) at

    step_tells : (x : AnyNode) → node_named w (node_of event) ≡ Some x → Stands w.acts (node_of event) x → Known e (node_of event) x
        → Tells (any_step x (what_of event)).acts
    step_tells x there s known node item a before behind at =
        let is : node ≡ name_in x = its_name x known.waits node item a before behind at in
        subst (λ n. Wanted n item a before behind) (sym is)
        (own_tells x there s known item a before behind
        (subst (λ n. (any_step x (what_of event)).acts ≡ before ++ act.Answered n item a ∷ behind) is at))

    module _ (all : WorldStands w) where
      known : (name : NodeId) (x : AnyNode) → node_named w name ≡ Some x → Known e name x
      known name x fact = node_known e count name x fact

      found : (place : ℕ) (x : AnyNode) → place_of w.cluster (node_of event) ≡ Some place → slice_get w.nodes place ≡ Some x
          → node_named w (node_of event) ≡ Some x
      found place x at fact = ap (node_in w.nodes) at ∙ fact

      turn_stands : (place : ℕ) (x : AnyNode) → place_of w.cluster (node_of event) ≡ Some place → slice_get w.nodes place ≡ Some x
          → AllStand (w.acts ++ (any_step x (what_of event)).acts) w.cluster (slice_set w.nodes place (any_step x (what_of event)).node)
      turn_stands place x at fact =
          let there = found place x at fact in
          everyone_so w.cluster w.nodes (node_of event) place at x (any_step x (what_of event)).node fact (Stands (w.acts ++ (any_step x (what_of event)).acts))
          (step_stands x there (all (node_of event) x there) (known (node_of event) x there).waits)
          (λ name y differs was. beside w.acts (any_step x (what_of event)).acts name y (all name y was))

      next_stands : WorldStands (next_world any_step w event)
      next_stands =
          subst (λ k. AllStand (next_world any_step w event).acts k (next_world any_step w event).nodes) (sym (next_cluster any_step w event))
          (next_keeps any_step (λ xs sent acts. AllStand acts w.cluster xs) w event all (λ place x clock at fact. turn_stands place x at fact))

      no_acts : Tells []
      no_acts node item a [] behind e = absurd cc
      no_acts node item a (x ∷ before) behind e = absurd cc

      event_tells : Tells (acts_in w event)
      event_tells =
          next_keeps any_step (λ xs sent acts. Tells (drop (length w.acts) acts)) w event (subst Tells (sym (none_after w.acts)) no_acts)
          (λ place x clock at fact. subst Tells (sym (done_after w.acts (any_step x (what_of event)).acts))
          (let there = found place x at fact in
          step_tells x there (all (node_of event) x there) (known (node_of event) x there)))

  -- ---- runs

  next_at : (count : ℕ) → WorldStands (moment e count) → WorldStands (moment e (suc count))
  next_at count all = by (slice_get e.events count) refl
    where
      by : (o : Option Event) → slice_get e.events count ≡ o → WorldStands (moment e (suc count))
      by None fact = subst WorldStands (sym (moment_past e count fact)) all
      by (Some event) fact = subst WorldStands (sym (moment_next e count event fact)) (next_stands count event fact all)

  pub stand_at : (count : ℕ) → WorldStands (moment e count)
  stand_at zero = subst WorldStands (sym (moment_first e)) start_stands
  stand_at (suc count) = next_at count (stand_at count)

  tells_at : (count : ℕ) (event : Event) (fact : slice_get e.events count ≡ Some event) → Tells count event fact (acts_in (moment e count) event)
  tells_at count event fact = event_tells count event fact (stand_at count)

  cut_at : (count : ℕ) (event : Event) → slice_get e.events count ≡ Some event → (node : NodeId) (item : ℕ) (before behind : List Act)
      → acts_in (moment e count) event ≡ before ++ act.Answered node item answer.Cut ∷ behind → IsCut (items_of e.script.lines node) (IsDoneBy node behind)
  cut_at count event fact (nodes.Client k) item before behind at = (tells_at count event fact (nodes.Client k) item answer.Cut before behind at).0
  cut_at count event fact (nodes.Manager k) item before behind at = tells_at count event fact (nodes.Manager k) item answer.Cut before behind at
  cut_at count event fact (nodes.Server k) item before behind at = tells_at count event fact (nodes.Server k) item answer.Cut before behind at
  cut_at count event fact nodes.Cleaner item before behind at = tells_at count event fact nodes.Cleaner item answer.Cut before behind at
  cut_at count event fact nodes.Registry item before behind at = tells_at count event fact nodes.Registry item answer.Cut before behind at

pub each_answers_acts : EachAnswersActs
each_answers_acts e = record {
  clients = λ count event fact client item a before behind at. (tells_at e count event fact (nodes.Client client) item a before behind at).0;
  cleaner = λ count event fact item a before behind at. tells_at e count event fact nodes.Cleaner item a before behind at;
  cuts = λ count event fact node item before behind at. cut_at e count event fact node item before behind at;
}

pub each_is_planned : EachFileAnswerIsPlanned
each_is_planned e count event fact client item a before behind at = (tells_at e count event fact (nodes.Client client) item a before behind at).1
