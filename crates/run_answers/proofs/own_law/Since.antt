-- At each moment of a run the open call of a client has run so since its item began.
use Rattle.std.proofs.Common.{◌≡◌, ℕ, zero, suc, List, [], ◌∷◌, ◌++◌, append-nil, append_assoc, slice_get, slice_set, Option, Some, None, inl, inr, refl, sym, ap, subst, ◌∙◌}
use Rattle.std.specs.List.{AllByRecursion}
use Rattle.client_call.specs.Calls.{call_of}
use Rattle.client_call.specs.declared.call.Call.{Call}
use Rattle.client_call.specs.declared.call.Going.{Going}
use Rattle.client_call.specs.declared.call.Going.TheVariants.{On}
use Rattle.client_node.specs.declared.client.Client.{Client}
use Rattle.client_node.specs.declared.phase.Phase.{Phase}
use Rattle.client_node.specs.declared.phase.Phase.TheVariants.{Down, Opening, Serving as Serves}
use Rattle.client_node.specs.Phases.{client_step, lasting_of}
use Rattle.client_running.specs.Opens.{call_at}
use Rattle.core_world.specs.AnyNode.{any_start, any_step}
use Rattle.core_world.specs.declared.any_node.AnyNode.{AnyNode}
use Rattle.core_world.specs.declared.any_node.AnyNode.TheVariants as any
use Rattle.token_protocol.specs.Basics.{In}
use Rattle.version_model.specs.declared.act.Act.{Act}
use Rattle.version_model.specs.declared.act.Act.TheVariants as act
use Rattle.version_model.specs.declared.work.Work.{Work}
use Rattle.wire_msg.specs.declared.packet.Do.{Do}
use Rattle.world_base.specs.Cluster.{cluster_of, place_of}
use Rattle.world_base.specs.declared.cluster.Cluster.{Cluster}
use Rattle.world_base.specs.declared.estate.Estate.{Estate}
use Rattle.world_base.specs.declared.event.Event.{Event}
use Rattle.world_base.specs.declared.world.World.{World}
use Rattle.world_base.specs.Events.{node_of, what_of}
use Rattle.world_base.specs.Items.{items_of}
use Rattle.world_base.specs.NextWorld.{next_world, start_world}
use Rattle.run_laws.proofs.world_law.Everyone.{everyone_so}
use Rattle.run_laws.proofs.world_law.Start.{first_stands}
use Rattle.run_laws.proofs.world_law.Turning.{next_cluster, next_keeps}
use Rattle.run_laws.proofs.world_reads.Taking.{moment_next}
use Rattle.headline.specs.Moments.{moment, node_in, node_named}
use Rattle.xfs_base.proofs.Alls.{all_weaker}
use Rattle.xfs_base.specs.declared.node.NodeId.{NodeId}
use Rattle.xfs_base.specs.declared.node.NodeId.TheVariants as nodes
use Rattle.run_answers.proofs.act_law.Runs.{begins_next, moment_first, moment_past}
use Rattle.run_answers.proofs.once_law.Runs.{Known, node_known}
use Rattle.run_answers.proofs.own_law.Others.{others_act}
use Rattle.run_answers.proofs.own_law.Runs.{runs_act}
use Rattle.run_answers.proofs.own_law.Whole.{IsOthers, blocks_then, differs, forget, its_stretch, no_clients, none_by, of_items_same, stretch_then}
use Rattle.headline.specs.Items.{asked_at}
use Rattle.headline.specs.Calls.{Acts, EventActs, HasFallen, IsClients, Stretch, call_in, of_items, open_in}
use Rattle.headline.specs.Calls.Acts.{Rests, Passes, AtOnce, GoesOn, Begins, Loses, Falls, Stops, Returns}
use Rattle.run_answers.specs.own_law.Others.{IsNoClient}
use Rattle.headline.specs.ItemActs.{CallsGoOn, HasRun, IsBy, IsFor, IsOfBlocks, OpenCallsHaveRun, blocks_by}
use Rattle.headline.specs.ItemActs.IsFor.{OfFile, OfBlock}
use Rattle.headline.specs.Calls.Stretch.{Waits}
use Rattle.run_answers.specs.own_law.Whole.{EachCallHasRun}

no_call : (call : Call) → None ≡ Some call → ⊥
no_call call fact = cc

fallen_none : (q : Phase) → HasFallen q → call_in q ≡ None
fallen_none (Down l) fallen = refl
fallen_none (Opening l o) fallen = absurd fallen
fallen_none (Serves s) fallen = absurd fallen

one_call : (a b : Call) → Some a ≡ Some b → a ≡ b
one_call a b fact = cc

pub one_client : (a b : ℕ) → nodes.Client a ≡ nodes.Client b → a ≡ b
one_client a b fact = cc

all_from : (P : Act → Type 0) (acts : List Act) → ((a : Act) → In a acts → P a) → AllByRecursion P acts
all_from P [] each = tt
all_from P (a ∷ acts) each = (each a (inl refl), all_from P acts (λ b among. each b (inr among)))

is_by : (client item : ℕ) (w : Option Work) (acts : List Act) (a : Act) → IsFor client item w acts a → IsBy client a
is_by client item w acts a (OfFile is by) = by
is_by client item w acts a (OfBlock x all told by) = by

-- what another client acts of blocks
by_another : (client d : ℕ) → (d ≡ client → ⊥) → (a : Act) → (IsOfBlocks a → IsBy d a) → IsOthers client a
by_another client d apart (act.Wrote c block value) by = differs client c (λ same. apart (sym (by tt) ∙ same))
by_another client d apart (act.Read c block ver value) by = differs client c (λ same. apart (sym (by tt) ∙ same))
by_another client d apart (act.Synced c) by = differs client c (λ same. apart (sym (by tt) ∙ same))
by_another client d apart _ by = refl

others_none : (x : AnyNode) (what : Do) (client : ℕ) → IsNoClient x → blocks_by client (any_step x what).acts ≡ []
others_none x what client is =
    none_by client (any_step x what).acts
    (all_weaker (λ a. IsClients a → ⊥) (IsOthers client) (λ a none. no_clients client a none) (any_step x what).acts (others_act x what is))

same_node : (a b : AnyNode) → Some a ≡ Some b → a ≡ b
same_node a b fact = cc

module _ (e : Estate AnyNode) where
  abbrev Open : ℕ → List Act → Phase → Type 0
  Open client acts p = (call : Call) → call_in p ≡ Some call → (item : ℕ) × ((open_in p ≡ Some item) × HasRun e client item acts [] (Some call))

  abbrev Tracks : NodeId → List Act → AnyNode → Type 0
  Tracks name acts (any.Client c) = (client : ℕ) → nodes.Client client ≡ name → Open client acts c.phase
  Tracks name acts _ = Unit {0}

  abbrev AllTrack : List Act → Cluster → List AnyNode → Type 0
  AllTrack acts k xs = (name : NodeId) (x : AnyNode) → node_in xs (place_of k name) ≡ Some x → Tracks name acts x

  abbrev WorldTracks : World AnyNode → Type 0
  WorldTracks w = AllTrack w.acts w.cluster w.nodes

  -- ---- more is acted

  more_run : (client item : ℕ) (acts new ys : List Act) (call : Call) (after : Option Call) → HasRun e client item acts [] (Some call) → blocks_by client new ≡ ys
      → Stretch client (Some item) (On call) ys after → HasRun e client item (acts ++ new) [] after
  more_run client item acts new ys call after h its st = record {
    wanted = h.wanted;
    asks = h.asks;
    going = h.going;
    makes = h.makes;
    first = h.first;
    since = h.since ++ new;
    all = ap (λ (xs : List Act). xs ++ new) h.all ∙ append_assoc h.first h.since new;
    begins = h.begins;
    run = subst (λ (xs : List Act). Stretch client (Some item) h.going xs after)
        (ap (λ (xs : List Act). xs ++ ys) (append-nil (blocks_by client h.since))
        ∙ (ap (λ (xs : List Act). blocks_by client h.since ++ xs) (sym its)
        ∙ (sym (blocks_then client h.since new) ∙ sym (append-nil (blocks_by client (h.since ++ new))))))
        (stretch_then client h.run st);
  }

  -- by an event by which it goes on
  goes_run : (client item : ℕ) (acts more : List Act) (call : Call) (after : Option Call) → HasRun e client item acts [] (Some call)
      → Stretch client (Some item) (On call) more after → HasRun e client item acts more after
  goes_run client item acts more call after h st = record {
    wanted = h.wanted;
    asks = h.asks;
    going = h.going;
    makes = h.makes;
    first = h.first;
    since = h.since;
    all = h.all;
    begins = h.begins;
    run = subst (λ (xs : List Act). Stretch client (Some item) h.going (xs ++ more) after) (append-nil (blocks_by client h.since))
        (stretch_then client h.run st);
  }

  -- nothing of its blocks
  beside : (client : ℕ) (acts new : List Act) (p : Phase) → blocks_by client new ≡ [] → Open client acts p → Open client (acts ++ new) p
  beside client acts new p none had call fact =
      let was = had call fact in
      (was.0, (was.1.0, more_run client was.0 acts new [] call (Some call) was.1.1 none (Waits refl refl)))

  -- ---- an event of the client

  module _ (count : ℕ) (event : Event) (happens : slice_get e.events count ≡ Some event) where
    abbrev w : World AnyNode
    w = moment e count

    module _ (c : Client) (there : node_named w (node_of event) ≡ Some (any.Client c)) (client : ℕ) (named : nodes.Client client ≡ node_of event)
        (number : (lasting_of c.phase).number ≡ client) (works : (lasting_of c.phase).items.works ≡ items_of e.script.lines (nodes.Client client))
        (was : Open client w.acts c.phase) where
      abbrev new : List Act
      new = (client_step c (what_of event)).acts

      -- the acts of items of the event, of blocks
      its : (acts : List Act) (call : Call) (item : Option ℕ) (going : Going) → of_items new ≡ acts → Stretch client item going acts (Some call)
          → blocks_by client new ≡ acts
      its acts call item going are st =
          sym (of_items_same client new) ∙ (ap (blocks_by client) are ∙ its_stretch client st)

      then_open : (q : Phase) (acts : List Act) → of_items new ≡ acts → Acts client c.phase (what_of event) acts q → Open client (w.acts ++ new) q
      then_open q acts are (Rests x y) call fact = absurd (no_call call (sym y ∙ fact))
      then_open q acts are (Passes number wanted same begun free made calls items) call fact =
          let so = beside client w.acts new c.phase (sym (of_items_same client new) ∙ ap (blocks_by client) are) was call (sym calls ∙ fact) in
          (so.0, (items ∙ so.1.0, so.1.1))
      then_open q acts are (AtOnce number wanted a refused begun calls items) call fact =
          let so = beside client w.acts new c.phase (sym (of_items_same client new) ∙ ap (blocks_by client) are) was call (sym calls ∙ fact) in
          (so.0, (items ∙ so.1.0, so.1.1))
      then_open q acts are (GoesOn old at stays drains here) call fact =
          let st = forget client here in
          let had = was old at in
          let on : Stretch client (Some had.0) (On old) acts (Some call) =
          subst (λ (o : Option Call). Stretch client (Some had.0) (On old) acts o) fact
          (subst (λ (o : Option ℕ). Stretch client o (On old) acts (call_in q)) had.1.0 st) in (
            had.0,
            (stays call fact ∙ had.1.0, more_run client had.0 w.acts new acts old (Some call) had.1.1 (its acts call (Some had.0) (On old) are on) on),
          )
      then_open q acts are (Begins {s = s} item wanted going same begun free made stays drains here) call fact =
          let st = forget client here in
          let run : Stretch client (Some item) going acts (Some call) =
          subst (λ (o : Option Call). Stretch client (Some item) going acts o) fact st in
          (item, (stays call fact, by wanted begun.asks made (its acts call (Some item) going are run) run))
        where
          numbered : s.lasting.number ≡ client
          numbered = ap (λ (p : Phase). (lasting_of p).number) (sym same) ∙ number

          by : (o : Option Work) → asked_at (lasting_of c.phase).items.works item ≡ o → call_at s item o ≡ Some going → blocks_by client new ≡ acts
              → Stretch client (Some item) going acts (Some call) → HasRun e client item (w.acts ++ new) [] (Some call)
          by None asks makes blocks run = absurd cc
          by (Some work) asks makes blocks run = record {
            wanted = work;
            asks = ap (λ (ws : List Work). asked_at ws item) (sym works) ∙ asks;
            going = going;
            makes = ap (call_of work item) (sym numbered) ∙ makes;
            first = w.acts;
            since = new;
            all = refl;
            begins = begins_next e count event happens c client named there begun.begins item begun.next;
            run = subst (λ (xs : List Act). Stretch client (Some item) going xs (Some call)) (sym (append-nil (blocks_by client new) ∙ blocks)) run;
          }
      then_open q acts are (Loses name over none) call fact = absurd (no_call call (sym over ∙ fact))
      then_open q acts are (Falls item wanted flight falls s b c f) call fact = absurd (no_call call (sym (fallen_none q f) ∙ fact))
      then_open q acts are (Stops item wanted o b c f) call fact = absurd (no_call call (sym (fallen_none q f) ∙ fact))
      then_open q acts are (Returns chain o s over none) call fact = absurd (no_call call (sym over ∙ fact))

    -- ---- an event of any node

    known : (name : NodeId) (x : AnyNode) → node_named w name ≡ Some x → Known e name x
    known name x fact = node_known e count name x fact

    step_tracks : (x : AnyNode) → node_named w (node_of event) ≡ Some x → Tracks (node_of event) w.acts x
        → Tracks (node_of event) (w.acts ++ (any_step x (what_of event)).acts) (any_step x (what_of event)).node
    step_tracks (any.Client c) there s = λ client named.
        let k : Known e (node_of event) (any.Client c) = known (node_of event) (any.Client c) there in
        let number : (lasting_of c.phase).number ≡ client = one_client (lasting_of c.phase).number client (k.named ∙ sym named) in
        let acts : EventActs c (what_of event) = (runs_act e).events count event happens c there in
        then_open c there client named number (k.works ∙ ap (items_of e.script.lines) (sym named)) (s client named) (client_step c (what_of event)).node.phase
        (of_items (client_step c (what_of event)).acts) refl
        (subst (λ (n : ℕ). Acts n c.phase (what_of event) (of_items (client_step c (what_of event)).acts) (client_step c (what_of event)).node.phase) number
        acts.acts)
    step_tracks (any.Manager m) there s = tt
    step_tracks (any.Server v) there s = tt
    step_tracks (any.Cleaner c) there s = tt
    step_tracks (any.Registry r) there s = tt

    -- it acts nothing of the blocks of a client to which it doesn't happen
    none_of : (x : AnyNode) → node_named w (node_of event) ≡ Some x → (client : ℕ) → (nodes.Client client ≡ node_of event → ⊥)
        → blocks_by client (any_step x (what_of event)).acts ≡ []
    none_of (any.Client c) there client apart =
        let k : Known e (node_of event) (any.Client c) = known (node_of event) (any.Client c) there in
        let d : ℕ = (lasting_of c.phase).number in
        let acts : List Act = (client_step c (what_of event)).acts in
        none_by client acts
        (all_from (IsOthers client) acts
        (λ a among. by_another client d (λ same. apart (sym (ap nodes.Client same) ∙ k.named)) a
        (λ is. (let f = (runs_act e).blocks count event happens c there a is among in is_by d f.0 _ _ a f.1))))
    none_of (any.Manager m) there client apart = others_none (any.Manager m) (what_of event) client tt
    none_of (any.Server v) there client apart = others_none (any.Server v) (what_of event) client tt
    none_of (any.Cleaner c) there client apart = others_none (any.Cleaner c) (what_of event) client tt
    none_of (any.Registry r) there client apart = others_none (any.Registry r) (what_of event) client tt

    beside_tracks : (name : NodeId) (y : AnyNode) (more : List Act) → ((client : ℕ) → nodes.Client client ≡ name → blocks_by client more ≡ [])
        → Tracks name w.acts y → Tracks name (w.acts ++ more) y
    beside_tracks name (any.Client c) more none s = λ client named. beside client w.acts more c.phase (none client named) (s client named)
    beside_tracks name (any.Manager m) more none s = tt
    beside_tracks name (any.Server v) more none s = tt
    beside_tracks name (any.Cleaner c) more none s = tt
    beside_tracks name (any.Registry r) more none s = tt

    module _ (all : WorldTracks w) where
      turn_tracks : (place : ℕ) (x : AnyNode) → place_of w.cluster (node_of event) ≡ Some place → slice_get w.nodes place ≡ Some x
          → AllTrack (w.acts ++ (any_step x (what_of event)).acts) w.cluster (slice_set w.nodes place (any_step x (what_of event)).node)
      turn_tracks place x at fact =
          let there : node_named w (node_of event) ≡ Some x = ap (node_in w.nodes) at ∙ fact in
          everyone_so w.cluster w.nodes (node_of event) place at x (any_step x (what_of event)).node fact
          (λ name y. Tracks name (w.acts ++ (any_step x (what_of event)).acts) y) (step_tracks x there (all (node_of event) x there))
          (λ name y differs was.
          beside_tracks name y (any_step x (what_of event)).acts (λ client named. none_of x there client (λ own. differs (sym named ∙ own))) (all name y was))

      next_tracks : WorldTracks (next_world any_step w event)
      next_tracks =
          subst (λ k. AllTrack (next_world any_step w event).acts k (next_world any_step w event).nodes) (sym (next_cluster any_step w event))
          (next_keeps any_step (λ xs sent acts. AllTrack acts w.cluster xs) w event all (λ place x clock at fact. turn_tracks place x at fact))

  -- ---- runs

  starts : (name : NodeId) (works : List Work) → Tracks name [] (any_start name e.script.setup works)
  starts (nodes.Client number) works = λ client named call fact. absurd (no_call call fact)
  starts (nodes.Manager number) works = tt
  starts (nodes.Server number) works = tt
  starts nodes.Cleaner works = tt
  starts nodes.Registry works = tt

  start_tracks : WorldTracks (start_world any_start e.script)
  unfolding start_world
  start_tracks name x = by (place_of (cluster_of e.script.setup) name) refl
    where
      by : (o : Option ℕ) → place_of (cluster_of e.script.setup) name ≡ o → node_in (start_world any_start e.script).nodes o ≡ Some x → Tracks name [] x
      by None at fact = absurd cc
      by (Some p) at fact =
          let here : node_in (start_world any_start e.script).nodes (Some p) ≡ Some (any_start name e.script.setup (items_of e.script.lines name)) =
          ap (node_in (start_world any_start e.script).nodes) (sym at) ∙ first_stands e.script name p at in
          subst (Tracks name []) (same_node (any_start name e.script.setup (items_of e.script.lines name)) x (sym here ∙ fact))
          (starts name (items_of e.script.lines name))

  tracks_next : (count : ℕ) → WorldTracks (moment e count) → WorldTracks (moment e (suc count))
  tracks_next count all = by (slice_get e.events count) refl
    where
      by : (o : Option Event) → slice_get e.events count ≡ o → WorldTracks (moment e (suc count))
      by None fact = subst WorldTracks (sym (moment_past e count fact)) all
      by (Some event) fact = subst WorldTracks (sym (moment_next e count event fact)) (next_tracks count event fact all)

  tracks_at : (count : ℕ) → WorldTracks (moment e count)
  tracks_at zero = subst WorldTracks (sym (moment_first e)) start_tracks
  tracks_at (suc count) = tracks_next count (tracks_at count)

  open_run : OpenCallsHaveRun e
  open_run count client c there call fact = tracks_at count (nodes.Client client) (any.Client c) there client refl call fact

  calls_go : CallsGoOn e
  calls_go count client c there call fact acts after st =
      let had = open_run count client c there call fact in
      let on : Stretch client (Some had.0) (On call) acts after = subst (λ (o : Option ℕ). Stretch client o (On call) acts after) had.1.0 st in
      (had.0, (had.1.0, goes_run client had.0 (moment e count).acts acts call after had.1.1 on))

pub each_has_run : EachCallHasRun
each_has_run e = (open_run e, calls_go e)
