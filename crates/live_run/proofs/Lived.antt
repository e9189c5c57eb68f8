-- From the parts of all cells, and from what the merge says, to a run by workers.
use Rattle.std.proofs.Common.{◌≡◌, ℕ, ◌<◌, ◌≤◌, Bool, true, false, List, length, Option, Some, None, Result, Ok, Err, refl, sym, ap, subst, ◌∙◌, arith}
use Rattle.std.specs.Prelude.{IfOk, slice_get}
use Rattle.std.specs.List.{Contains}
use Rattle.node_base.specs.Setups.{IsSetup}
use Rattle.script_text.specs.declared.script.Script.{Script}
use Rattle.version_model.specs.declared.act.Act.{Act}
use Rattle.version_model.specs.declared.work.Work.{Work}
use Rattle.wire_msg.specs.declared.packet.Do.{Do}
use Rattle.wire_msg.specs.NodeStep.{NodeStep}
use Rattle.xfs_base.specs.declared.node.NodeId.{NodeId}
use Rattle.xfs_base.specs.declared.setup.Setup.{Setup}
use Rattle.world_base.specs.declared.estate.Estate.{Estate}
use Rattle.world_base.specs.declared.event.Event.{Event}
use Rattle.world_base.specs.declared.world.World.{World}
use Rattle.world_base.specs.Cluster.{HasNode, cluster_of, node_at, node_count, place_of}
use Rattle.world_base.specs.Dues.{dues_of}
use Rattle.world_base.specs.Items.{items_of}
use Rattle.world_base.specs.NextWorld.{first_node, start_world}
use Rattle.world_base.specs.Runs.{IsRun, begins_of}
use Rattle.world_base.proofs.Dues.{due_for_each}
use Rattle.world_base.proofs.Places.{node_there, place_had, place_within}
use Rattle.journals.specs.declared.moment.Moment.{Moment}
use Rattle.journals.specs.Answers.{AreAnswered, has_answer, is_answer_to}
use Rattle.journals.specs.Journals.{MeetsDues, acts_in, begins, whats}
use Rattle.journals.specs.Merging.{Rises, whats_of}
use Rattle.journals.proofs.Gets.{any_has, has, has_any}
use Rattle.journals.proofs.Starts.{start_cluster}
use Rattle.live_links.specs.Ends.{In, Out}
use Rattle.live_links.specs.Answered.{waited_at, waited_in}
use Rattle.live_links.specs.Ending.{IsEnded, last_wait}
use Rattle.live_links.specs.Facts.{IsDone, dues_at, first_at, name_at}
use Rattle.live_links.specs.Parts.{AreParts, IsPart}
use Rattle.live_run.specs.Live.{EndsSo, IsLive, NamesNodes}
use Rattle.live_run.proofs.Counts.{begun_is, nobody_begins, nobodys_items}

-- what is answered among some acts is answered among more
answered_too : (node : NodeId) (k : ℕ) (some all : List Act) → ((a : Act) → Contains some a → Contains all a) → has_answer node k some ≡ true
    → has_answer node k all ≡ true
answered_too node k some all among answered =
    let found = any_has (is_answer_to node k) some answered in
    has_any (is_answer_to node k) all found.0 (among found.0 found.1) found.2

module _ {N : Type 0} (step : N → Do → NodeStep N) (first : NodeId → Setup → List Work → N) (script : Script) (rings : List (List Out)) (full : Bool)
    (js : List (List Moment)) (ns : List N) (os : List (List Out)) (is : List (List In)) (events : List Event) (world : World N) where
  -- what is known once all journals are merged
  pub record IsJoined : Type 0 where
    pub parts : AreParts step first script rings full js ns os is
    pub whole : length js ≡ node_count (cluster_of script.setup)
    pub setup : IsSetup script.setup
    pub names : NamesNodes script
    pub run : IsRun step first script events world
    pub rises : Rises step (start_world first script) 0 0 events
    pub each : (p : ℕ) (j : List Moment) → slice_get js p ≡ Some j → whats_of (node_at (cluster_of script.setup) p) events ≡ whats j
    pub acts : (p : ℕ) (j : List Moment) (a : Act) → slice_get js p ≡ Some j
        → Contains (acts_in step (first_node first script (node_at (cluster_of script.setup) p)) (whats j)) a → Contains world.acts a

  module _ (joined : IsJoined) where
    -- the cell of a place
    record Journaled (p : ℕ) : Type 0 where
      moments : List Moment
      at : slice_get js p ≡ Some moments
      end : N
      outs : List Out
      ins : List In
      part : IsPart step first script rings full p moments end outs ins

    journaled : (p : ℕ) → p < node_count (cluster_of script.setup) → Journaled p
    journaled p below =
        let count = joined.whole in
        let nodes = joined.parts.nodes in
        let outs = joined.parts.outs in
        let ins = joined.parts.ins in
        let j = has js p (omega arith) in
        let n = has ns p (omega arith) in
        let o = has os p (omega arith) in
        let i = has is p (omega arith) in
        record { moments = j.0; at = j.1; end = n.0; outs = o.0; ins = i.0; part = joined.parts.each p j.0 n.0 o.0 i.0 j.1 n.1 o.1 i.1 }

    met_at : (p : ℕ) → p < node_count (cluster_of script.setup)
        → MeetsDues step (name_at script p) (first_at first script p) (dues_at script p) (whats_of (name_at script p) events)
    met_at p below =
        let x = journaled p below in
        subst (λ ds. MeetsDues step (name_at script p) (first_at first script p) (dues_at script p) ds) (sym (joined.each p x.moments x.at)) x.part.met

    met : (node : NodeId) → HasNode script.setup node → MeetsDues step node (first_node first script node) (dues_of script.lines node) (whats_of node events)
    met node had =
        let place = place_had script.setup node had in
        let c = cluster_of script.setup in
        subst (λ n. MeetsDues step n (first_node first script n) (dues_of script.lines n) (whats_of n events)) (sym (node_there c node place.0 place.1))
        (met_at place.0 (place_within c node place.0 place.1))

    -- what is known of a cell at the end of a full run
    done_at : full ≡ true → (p : ℕ) (j : List Moment) → IsEnded step first script full p j → IsDone step first script p j
    done_at is p j ended = subst (λ (b : Bool). IsEnded step first script b p j) is ended

    waited_there : full ≡ false → (p : ℕ) (j : List Moment) → IsEnded step first script full p j → last_wait ≤ waited_at step first script p j
    waited_there is p j ended = subst (λ (b : Bool). IsEnded step first script b p j) is ended

    begun_at : full ≡ true → (p : ℕ) → p < node_count (cluster_of script.setup)
        → begins_of (name_at script p) events ≡ length (items_of script.lines (name_at script p))
    begun_at is_full p below =
        let x = journaled p below in
        begun_is (name_at script p) events ∙ ap begins (joined.each p x.moments x.at) ∙ (done_at is_full p x.moments x.part.ended).begun ∙ due_for_each script.lines (name_at script p)

    answered_at : full ≡ true → (p : ℕ) → p < node_count (cluster_of script.setup)
        → AreAnswered (name_at script p) (length (items_of script.lines (name_at script p))) world.acts
    answered_at is_full p below k least most =
        let x = journaled p below in
        let same = due_for_each script.lines (name_at script p) in
        answered_too (name_at script p) k (acts_in step (first_at first script p) (whats x.moments)) world.acts
        (λ a found. joined.acts p x.moments a x.at found) ((done_at is_full p x.moments x.part.ended).answered k least (omega arith))

    -- of a node of the run, and of what is none
    begun_by : full ≡ true → (node : NodeId) (o : Option ℕ) → place_of (cluster_of script.setup) node ≡ o → begins_of node events ≡ length (items_of script.lines node)
    begun_by is_full node None none =
        nobody_begins step (cluster_of script.setup) node none (start_world first script) 0 0 events (start_cluster first script) joined.rises
        ∙ sym (ap length (nobodys_items script.setup node none script.lines joined.names))
    begun_by is_full node (Some p) there =
        let c = cluster_of script.setup in
        subst (λ n. begins_of n events ≡ length (items_of script.lines n)) (sym (node_there c node p there)) (begun_at is_full p (place_within c node p there))

    answered_by : full ≡ true → (node : NodeId) (o : Option ℕ) → place_of (cluster_of script.setup) node ≡ o
        → AreAnswered node (length (items_of script.lines node)) world.acts
    answered_by is_full node None none =
        let nothing : length (items_of script.lines node) ≡ 0 = ap length (nobodys_items script.setup node none script.lines joined.names) in
        λ k least most. absurd (omega arith)
    answered_by is_full node (Some p) there =
        let c = cluster_of script.setup in
        subst (λ n. AreAnswered n (length (items_of script.lines n)) world.acts) (sym (node_there c node p there)) (answered_at is_full p (place_within c node p there))

    waited_by : full ≡ false → (node : NodeId) → HasNode script.setup node
        → last_wait ≤ waited_in step node 0 (first_node first script node) (whats_of node events)
    waited_by given_up node had =
        let place = place_had script.setup node had in
        let c = cluster_of script.setup in
        let x = journaled place.0 (place_within c node place.0 place.1) in
        subst (λ n. last_wait ≤ waited_in step n 0 (first_node first script n) (whats_of n events)) (sym (node_there c node place.0 place.1))
        (subst (λ ds. last_wait ≤ waited_in step (name_at script place.0) 0 (first_at first script place.0) ds) (sym (joined.each place.0 x.moments x.at))
        (waited_there given_up place.0 x.moments x.part.ended))

    ends_so : (b : Bool) → full ≡ b → EndsSo step first b (record { script = script; events = events; world = world })
    ends_so true is = record {
      complete = λ node. begun_by is node (place_of (cluster_of script.setup) node) refl;
      answered = λ node. answered_by is node (place_of (cluster_of script.setup) node) refl;
    }
    ends_so false is = waited_by is

    pub is_live : IsLive step first full (record { script = script; events = events; world = world })
    is_live = record {
      setup = joined.setup;
      one_run = joined.run;
      rises = joined.rises;
      met = met;
      ends = ends_so full refl;
    }

module _ {N : Type 0} (step : N → Do → NodeStep N) (first : NodeId → Setup → List Work → N) (script : Script) (rings : List (List Out)) (full : Bool)
    (js : List (List Moment)) (ns : List N) (os : List (List Out)) (is : List (List In))
    (parts : AreParts step first script rings full js ns os is) (whole : length js ≡ node_count (cluster_of script.setup)) (setup : IsSetup script.setup)
    (names : NamesNodes script) where
  pub all_live : {E : Type 0} (r : Result (Estate N) E) → IfOk r (λ e. e.script ≡ script) → IfOk r (λ e. IsRun step first script e.events e.world)
      → IfOk r (λ e. Rises step (start_world first script) 0 0 e.events)
      → IfOk r (λ e. (p : ℕ) (j : List Moment) → slice_get js p ≡ Some j → whats_of (node_at (cluster_of script.setup) p) e.events ≡ whats j)
      → IfOk r (λ e. (p : ℕ) (j : List Moment) (a : Act) → slice_get js p ≡ Some j
      → Contains (acts_in step (first_node first script (node_at (cluster_of script.setup) p)) (whats j)) a → Contains e.world.acts a)
      → IfOk r (λ e. IsLive step first full e)
  all_live (Ok e) same run rises each acts =
      let joined : IsJoined step first script rings full js ns os is e.events e.world =
      record { parts = parts; whole = whole; setup = setup; names = names; run = run; rises = rises; each = each; acts = acts }
      in
      subst (λ s. IsLive step first full (record { script = s; events = e.events; world = e.world })) (sym same)
      (is_live step first script rings full js ns os is e.events e.world joined)
  all_live (Err e) same run rises each acts = tt
