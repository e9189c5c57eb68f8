-- In every run the calls of clients find the versions that blocks have, and what they name is not above, up to the first doubtful restart.
use Rattle.std.proofs.Common.{◌≡◌, ◌⊎◌, ℕ, suc, List, [], ◌∷◌, ◌++◌, drop, length, slice_get, Option, Some, None, inl, inr, refl, sym, ap, subst, ◌∙◌, arith, zero, slice_set}
use Rattle.std.proofs.Math.Seq.{drop-length}
use Rattle.std.specs.List.{AllByRecursion}
use Rattle.client_node.specs.Phases.{client_step, lasting_of}
use Rattle.client_node.specs.declared.client.Client.{Client}
use Rattle.client_node.specs.declared.phase.Phase.{Phase}
use Rattle.core_world.specs.AnyNode.{any_start, any_step}
use Rattle.core_world.specs.declared.any_node.AnyNode.TheVariants as any
use Rattle.core_world.specs.declared.any_node.AnyNode.{AnyNode}
use Rattle.headline.specs.Calls.{call_in, of_items, IsClients}
use Rattle.headline.specs.Moments.{acts_in, moment, node_in, node_named}
use Rattle.headline.specs.Restarts.{NoDoubtfulRestart}
use Rattle.node_base.specs.Setups.{IsSetup}
use Rattle.run_answers.proofs.act_law.Runs.{moment_first, moment_past}
use Rattle.run_answers.proofs.change_law.Finding.{LastsBehind}
use Rattle.run_answers.proofs.change_law.Keeping.{calls_found, other_lasts}
use Rattle.run_answers.proofs.change_law.Lasting.{IsNoFall, Lasts, acts_last}
use Rattle.run_answers.proofs.change_law.Naming.{OpenKnows, open_more}
use Rattle.run_answers.proofs.change_law.Stepping.{Below, StepsIn, one_client, one_node}
use Rattle.run_answers.proofs.number_law.Acting.{acts_taken_in, node_behind}
use Rattle.run_answers.proofs.once_law.Runs.{node_known}
use Rattle.run_answers.proofs.own_law.Others.{others_act}
use Rattle.run_answers.specs.change_law.Changes.{EachRunsCallsFindVersions}
use Rattle.headline.specs.Changes.CallsFind.{Rests}
use Rattle.headline.specs.Changes.{CallsFind}
use Rattle.run_answers.specs.own_law.Others.{IsNoClient}
use Rattle.run_laws.proofs.world_law.Everyone.{everyone_so}
use Rattle.run_laws.proofs.world_law.Start.{first_stands}
use Rattle.run_laws.proofs.world_law.Turning.{next_cluster}
use Rattle.run_laws.proofs.world_reads.Taking.{NothingHappens, Took, moment_next, takes_or_not}
use Rattle.version_model.proofs.Onward.{history_through}
use Rattle.version_model.specs.Effects.{history_after}
use Rattle.version_model.specs.History.{History, nothing_yet}
use Rattle.version_model.specs.declared.act.Act.TheVariants as act
use Rattle.version_model.specs.declared.act.Act.{Act}
use Rattle.version_model.specs.declared.work.Work.{Work}
use Rattle.world_base.specs.Cluster.{cluster_of, place_of}
use Rattle.world_base.specs.Events.{node_of, what_of}
use Rattle.world_base.specs.Items.{items_of}
use Rattle.world_base.specs.NextWorld.{next_world, start_world}
use Rattle.world_base.specs.Runs.{IsRun}
use Rattle.world_base.specs.declared.estate.Estate.{Estate}
use Rattle.world_base.specs.declared.event.Event.{Event}
use Rattle.world_base.specs.declared.world.World.{World}
use Rattle.xfs_base.specs.declared.block.BlockId.{BlockId}
use Rattle.xfs_base.specs.declared.node.NodeId.TheVariants as nodes
use Rattle.xfs_base.specs.declared.node.NodeId.{NodeId}

one_number : (a b : ℕ) → nodes.Client a ≡ nodes.Client b → a ≡ b
one_number a b same = cc

-- ---- in each event

module _ (e : Estate AnyNode) (count : ℕ) (event : Event) (happens : slice_get e.events count ≡ Some event) (c d : Client)
    (there : node_named (moment e count) (node_of event) ≡ Some (any.Client c))
    (behind_it : node_named (moment e (suc count)) (node_of event) ≡ Some (any.Client d)) where
  abbrev now : World AnyNode
  now = moment e count

  abbrev Finds : List Act → Phase → Type 0
  Finds xs q = CallsFind (lasting_of c.phase).number now.acts c.phase (what_of event) (of_items xs) q

  -- where nothing happens
  module _ (none : NothingHappens now event) where
    still : node_named (moment e (suc count)) (node_of event) ≡ node_named now (node_of event)
    still =
        ap (λ (u : World AnyNode). node_named u (node_of event)) (moment_next e count event happens)
        ∙ (ap (λ k. node_in (next_world any_step now event).nodes (place_of k (node_of event))) (next_cluster any_step now event)
        ∙ ap (λ nodes. node_in nodes (place_of now.cluster (node_of event))) none.nodes)

    same_client : d ≡ c
    same_client = one_client d c (one_node (any.Client d) (any.Client c) (sym behind_it ∙ (still ∙ there)))

    nothing_found : Finds (acts_in now event) d.phase
    nothing_found =
        subst (λ (xs : List Act). Finds xs d.phase) (sym (ap (drop (length now.acts)) none.acts ∙ drop-length now.acts))
        (Rests tt tt (inl (ap (λ (x : Client). call_in x.phase) same_client)))

  -- where it takes its step
  module _ (took : Took now event (any.Client c)) where
    steps_in : StepsIn e count event c
    steps_in = record {
      there = there;
      behind = node_behind e count event happens (any.Client c) took;
      grown = ap (λ (u : World AnyNode). u.acts) (moment_next e count event happens) ∙ took.acts;
    }

    its_node : d ≡ (client_step c (what_of event)).node
    its_node =
        one_client d (client_step c (what_of event)).node
        (one_node (any.Client d) (any.Client (client_step c (what_of event)).node) (sym behind_it ∙ steps_in.behind))

    step_found : Finds (client_step c (what_of event)).acts (client_step c (what_of event)).node.phase → Finds (acts_in now event) d.phase
    step_found f =
        subst (λ (xs : List Act). Finds xs d.phase) (sym (acts_taken_in e count event (any.Client c) took))
        (subst (λ (x : Client). Finds (client_step c (what_of event)).acts x.phase) (sym its_node) f)

  in_event : (StepsIn e count event c → Finds (client_step c (what_of event)).acts (client_step c (what_of event)).node.phase) → Finds (acts_in now event) d.phase
  in_event finds = by (takes_or_not now event)
    where
      by : NothingHappens now event ⊎ ((x : AnyNode) × Took now event x) → Finds (acts_in now event) d.phase
      by (inl none) = nothing_found none
      by (inr turn) =
          let is : turn.0 ≡ any.Client c = one_node turn.0 (any.Client c) (sym (ap (node_in now.nodes) turn.1.placed ∙ turn.1.stands) ∙ there) in
          let took : Took now event (any.Client c) = subst (Took now event) is turn.1 in
          step_found took (finds (steps_in took))

-- ---- what open calls have read lasts

-- what the open call of a node has read lasts behind these acts
abbrev Reads : List Act → AnyNode → Type 0
Reads acts (any.Client c) = OpenKnows (LastsBehind acts (lasting_of c.phase).number) (call_in c.phase)
Reads acts _ = Unit {0}

abbrev WorldReads : World AnyNode → Type 0
WorldReads w = (name : NodeId) (x : AnyNode) → node_named w name ≡ Some x → Reads w.acts x

all_calm : (acts : List Act) → AllByRecursion (λ a. IsClients a → ⊥) acts → AllByRecursion IsNoFall acts
all_calm [] none = tt
all_calm (act.Fell client flight falls ∷ acts) none = absurd (none.0 tt)
all_calm (act.Wrote client block value ∷ acts) none = (tt, all_calm acts none.1)
all_calm (act.Read client block ver value ∷ acts) none = (tt, all_calm acts none.1)
all_calm (act.Synced client ∷ acts) none = (tt, all_calm acts none.1)
all_calm (act.Back client chain ∷ acts) none = (tt, all_calm acts none.1)
all_calm (act.Lost node seg ∷ acts) none = (tt, all_calm acts none.1)
all_calm (act.Filed seg ∷ acts) none = (tt, all_calm acts none.1)
all_calm (act.Dropped seg ∷ acts) none = (tt, all_calm acts none.1)
all_calm (act.Answered node item a ∷ acts) none = (tt, all_calm acts none.1)

module _ (below : Below) (e : Estate AnyNode) (setup : IsSetup e.script.setup) (run : IsRun any_step any_start e.script e.events e.world) where
  abbrev AllRead : ℕ → Type 0
  AllRead count = WorldReads (moment e count)

  module _ (count : ℕ) (event : Event) (happens : slice_get e.events count ≡ Some event) (undoubted : NoDoubtfulRestart e (suc count)) (all : AllRead count) where
    abbrev w : World AnyNode
    w = moment e count

    abbrev next : World AnyNode
    next = moment e (suc count)

    -- where nothing happens
    none_read : NothingHappens w event → AllRead (suc count)
    none_read none name x fact =
        subst (λ (acts : List Act). Reads acts x) (sym (ap (λ (u : World AnyNode). u.acts) (moment_next e count event happens) ∙ none.acts))
        (all name x (sym same ∙ fact))
      where
        same : node_named next name ≡ node_named w name
        same =
            ap (λ (u : World AnyNode). node_named u name) (moment_next e count event happens)
            ∙ (ap (λ k. node_in (next_world any_step w event).nodes (place_of k name)) (next_cluster any_step w event)
            ∙ ap (λ nodes. node_in nodes (place_of w.cluster name)) none.nodes)

    -- where a node takes its step
    module _ (y : AnyNode) (took : Took w event y) where
      there : node_named w (node_of event) ≡ Some y
      there = ap (node_in w.nodes) took.placed ∙ took.stands

      behind : node_named next (node_of event) ≡ Some (any_step y (what_of event)).node
      behind = node_behind e count event happens y took

      grown : next.acts ≡ w.acts ++ (any_step y (what_of event)).acts
      grown = ap (λ (u : World AnyNode). u.acts) (moment_next e count event happens) ∙ took.acts

      steps_of : (c : Client) → y ≡ any.Client c → StepsIn e count event c
      steps_of c is = record {
        there = there ∙ ap Some is;
        behind = behind ∙ ap (λ (x : AnyNode). Some (any_step x (what_of event)).node) is;
        grown = grown ∙ ap (λ (x : AnyNode). w.acts ++ (any_step x (what_of event)).acts) is;
      }

      own_read : (x : AnyNode) → y ≡ x → Reads w.acts x → Reads next.acts (any_step x (what_of event)).node
      own_read (any.Client c) is read =
          subst (λ (n : ℕ). OpenKnows (LastsBehind next.acts n) (call_in (client_step c (what_of event)).node.phase)) (its c (steps_of c is))
          (calls_found below e setup run count event happens undoubted c (steps_of c is) read).known
        where
          its : (c : Client) → StepsIn e count event c → (lasting_of c.phase).number ≡ (lasting_of (client_step c (what_of event)).node.phase).number
          its c s =
              one_number (lasting_of c.phase).number (lasting_of (client_step c (what_of event)).node.phase).number
              ((node_known e count (node_of event) (any.Client c) s.there).named
              ∙ sym (node_known e (suc count) (node_of event) (any.Client (client_step c (what_of event)).node) s.behind).named)
      own_read (any.Manager m) is read = tt
      own_read (any.Server v) is read = tt
      own_read (any.Cleaner k) is read = tt
      own_read (any.Registry r) is read = tt

      -- nobody else's is taken back
      calm_lasts : IsNoClient y → (d : ℕ) (b : BlockId) (v : ℕ) → LastsBehind w.acts d b v → LastsBehind next.acts d b v
      calm_lasts other d b v l =
          subst (λ (xs : List Act). LastsBehind xs d b v) (sym grown)
          (subst (λ (h : History). Lasts h d b v) (sym (history_through w.acts (any_step y (what_of event)).acts nothing_yet))
          (acts_last d b v (any_step y (what_of event)).acts (history_after w.acts nothing_yet)
          (all_calm (any_step y (what_of event)).acts (others_act y (what_of event) other)) l))

      lasts_on : (z : AnyNode) → y ≡ z → (d : ℕ) → (nodes.Client d ≡ node_of event → ⊥) → (b : BlockId) (v : ℕ) → LastsBehind w.acts d b v → LastsBehind next.acts d b v
      lasts_on (any.Client c) is d apart b v l =
          let s = steps_of c is in
          other_lasts below e setup run count event happens undoubted c s d
          (λ same. apart (sym (ap nodes.Client same) ∙ (node_known e count (node_of event) (any.Client c) s.there).named)) b v l
      lasts_on (any.Manager m) is d apart b v l = calm_lasts (subst IsNoClient (sym is) tt) d b v l
      lasts_on (any.Server u) is d apart b v l = calm_lasts (subst IsNoClient (sym is) tt) d b v l
      lasts_on (any.Cleaner k) is d apart b v l = calm_lasts (subst IsNoClient (sym is) tt) d b v l
      lasts_on (any.Registry r) is d apart b v l = calm_lasts (subst IsNoClient (sym is) tt) d b v l

      other_read : (name : NodeId) (x : AnyNode) → (name ≡ node_of event → ⊥) → node_named w name ≡ Some x → Reads w.acts x → Reads next.acts x
      other_read name (any.Client c) differs fact read =
          open_more (LastsBehind w.acts (lasting_of c.phase).number) (LastsBehind next.acts (lasting_of c.phase).number)
          (lasts_on y refl (lasting_of c.phase).number
          (λ own. differs (sym (node_known e count name (any.Client c) fact).named ∙ own))) (call_in c.phase) read
      other_read name (any.Manager m) differs fact read = tt
      other_read name (any.Server v) differs fact read = tt
      other_read name (any.Cleaner k) differs fact read = tt
      other_read name (any.Registry r) differs fact read = tt

      turn_read : AllRead (suc count)
      turn_read name x fact =
          everyone_so w.cluster w.nodes (node_of event) took.place took.placed y (any_step y (what_of event)).node took.stands
          (λ n z. Reads next.acts z) (own_read y refl (all (node_of event) y there)) (λ n z differs was. other_read n z differs was (all n z was)) name x
          (sym same ∙ fact)
        where
          same : node_named next name ≡ node_in (slice_set w.nodes took.place (any_step y (what_of event)).node) (place_of w.cluster name)
          same =
              ap (λ (u : World AnyNode). node_named u name) (moment_next e count event happens)
              ∙ (ap (λ k. node_in (next_world any_step w event).nodes (place_of k name)) (next_cluster any_step w event)
              ∙ ap (λ nodes. node_in nodes (place_of w.cluster name)) took.nodes)

    event_read : AllRead (suc count)
    event_read = by (takes_or_not w event)
      where
        by : NothingHappens w event ⊎ ((x : AnyNode) × Took w event x) → AllRead (suc count)
        by (inl none) = none_read none
        by (inr turn) = turn_read turn.0 turn.1

  starts : (name : NodeId) (works : List Work) → Reads [] (any_start name e.script.setup works)
  starts (nodes.Client number) works = tt
  starts (nodes.Manager number) works = tt
  starts (nodes.Server number) works = tt
  starts nodes.Cleaner works = tt
  starts nodes.Registry works = tt

  start_read : WorldReads (start_world any_start e.script)
  unfolding start_world
  start_read name x = by (place_of (cluster_of e.script.setup) name) refl
    where
      by : (o : Option ℕ) → place_of (cluster_of e.script.setup) name ≡ o → node_in (start_world any_start e.script).nodes o ≡ Some x → Reads [] x
      by None at fact = absurd cc
      by (Some p) at fact =
          let here : node_in (start_world any_start e.script).nodes (Some p) ≡ Some (any_start name e.script.setup (items_of e.script.lines name)) =
          ap (node_in (start_world any_start e.script).nodes) (sym at) ∙ first_stands e.script name p at in
          subst (Reads []) (one_node (any_start name e.script.setup (items_of e.script.lines name)) x (sym here ∙ fact))
          (starts name (items_of e.script.lines name))

  all_read : (count : ℕ) → NoDoubtfulRestart e count → AllRead count
  all_read zero undoubted = subst WorldReads (sym (moment_first e)) start_read
  all_read (suc count) undoubted = by (slice_get e.events count) refl (all_read count (λ r n less. undoubted r n (omega (arith, less))))
    where
      by : (o : Option Event) → slice_get e.events count ≡ o → AllRead count → AllRead (suc count)
      by None fact all = subst WorldReads (sym (moment_past e count fact)) all
      by (Some event) fact all = event_read count event fact undoubted all

pub each_runs_calls_find_versions : Below → EachRunsCallsFindVersions
each_runs_calls_find_versions below e setup run count event happens undoubted c d there behind_it =
    in_event e count event happens c d there behind_it
    (λ steps. (calls_found below e setup run count event happens undoubted c steps
    (all_read below e setup run count (λ r n less. undoubted r n (omega (arith, less))) (node_of event) (any.Client c) there)).finds)
