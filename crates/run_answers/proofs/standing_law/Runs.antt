-- In every run what a node answers it may answer, by where it stands before the event and behind it.
use Rattle.std.proofs.Common.{◌≡◌, ◌≤◌, ◌⊎◌, ℕ, ◌+◌, ◌-◌, ◌<◌, cond, true, List, [], ◌∷◌, filter, drop, length, slice_get, get_or, Option, Some, None, inl, inr, refl, sym, ap, subst, ◌∙◌, arith}
use Rattle.std.proofs.lemmas.Bool.{lt-ltb}
use Rattle.std.proofs.lemmas.Option.{slice_get-get_or}
use Rattle.std.proofs.Math.Seq.{drop-append_seam}
use Rattle.std.specs.List.{AllByRecursion}
use Rattle.std.specs.Prelude.{IfSome}
use Rattle.cleaner_node.specs.CleanerEvents as cleaning
use Rattle.client_node.specs.Phases as clients
use Rattle.core_world.specs.AnyNode.{any_start, any_step}
use Rattle.core_world.specs.declared.any_node.AnyNode.{AnyNode}
use Rattle.core_world.specs.declared.any_node.AnyNode.TheVariants as any
use Rattle.manager_node.specs.Events as managing
use Rattle.manager_node.specs.Phases as managers
use Rattle.node_base.specs.Beginning.{next_item}
use Rattle.node_base.specs.declared.items.Items.{Items}
use Rattle.registry_node.specs.Events as registering
use Rattle.run_laws.proofs.world_law.Turning.{next_cluster}
use Rattle.run_laws.proofs.world_reads.Taking.{NothingHappens, Took, moment_next, node_then, takes_or_not}
use Rattle.headline.specs.Moments.{acts_in, moment, node_in, node_named}
use Rattle.script_text.specs.declared.script.Line.{Line}
use Rattle.store_nodes.specs.ServerEvents as storing
use Rattle.token_protocol.specs.Basics.{In}
use Rattle.version_model.specs.declared.act.Act.{Act}
use Rattle.version_model.specs.declared.act.Act.TheVariants as act
use Rattle.version_model.specs.declared.answer.Answer.{Answer}
use Rattle.version_model.specs.declared.work.Work.{Work}
use Rattle.version_model.specs.declared.work.Work.TheVariants as work
use Rattle.wire_msg.specs.declared.packet.Do.{Do}
use Rattle.world_base.specs.Cluster.{place_of}
use Rattle.world_base.specs.declared.estate.Estate.{Estate}
use Rattle.world_base.specs.declared.event.Event.{Event}
use Rattle.world_base.specs.declared.world.World.{World}
use Rattle.world_base.specs.Events.{node_of, what_of}
use Rattle.world_base.specs.Items.{actor_of, is_for, is_for_actor, items_of, works_of}
use Rattle.world_base.specs.NextWorld.{next_world}
use Rattle.xfs_base.proofs.Alls.{all_read}
use Rattle.xfs_base.proofs.Booleans.{by_test}
use Rattle.xfs_base.proofs.NodeOrder.{same_node_is}
use Rattle.xfs_base.specs.declared.node.NodeId.{NodeId}
use Rattle.xfs_base.specs.declared.node.NodeId.TheVariants as nodes
use Rattle.run_answers.proofs.once_law.Items.{next_left}
use Rattle.serving_moves.proofs.item_moves.Keeping.{next_is}
use Rattle.run_answers.proofs.once_law.Runs.{Known, answers_itself, node_known}
use Rattle.run_answers.proofs.standing_law.Allowed.{May}
use Rattle.run_answers.proofs.standing_law.Cleaners as cleaner
use Rattle.run_answers.proofs.standing_law.Clients as client
use Rattle.run_answers.proofs.standing_law.Managers as manager
use Rattle.run_answers.proofs.standing_law.Meeting.{acts_meet}
use Rattle.run_answers.proofs.standing_law.Moments.{each_stands}
use Rattle.run_answers.proofs.standing_law.Registries as registry
use Rattle.run_answers.proofs.standing_law.Servers as server
use Rattle.headline.specs.Items.{asked_at, items_in, name_in}
use Rattle.run_answers.specs.standing_law.Runs.{EachAnswerFits}
use Rattle.headline.specs.Standings.{FitsAt}

-- ---- what a node is asked

-- it is one of the node
abbrev pub IsFor : NodeId → Work → Type 0
IsFor node w = actor_of w ≡ Some node

is_its : (node : NodeId) (w : Work) → is_for node w ≡ true → IsFor node w
is_its node w = by (actor_of w)
  where
    by : (o : Option NodeId) → is_for_actor node o ≡ true → o ≡ Some node
    by None fact = absurd cc
    by (Some actor) fact = ap Some (same_node_is actor node fact)

all_its : (node : NodeId) (works : List Work) → AllByRecursion (IsFor node) (filter (is_for node) works)
all_its node [] = tt
all_its node (w ∷ works) =
    by_test (λ xs. AllByRecursion (IsFor node) xs) (is_for node w) (w ∷ filter (is_for node) works) (filter (is_for node) works)
    (λ its. (is_its node w its, all_its node works)) (λ _. all_its node works)

-- the item that is next is asked for, of the node
pub record Asked (node : NodeId) (works : List Work) (number : ℕ) : Type 0 where
  pub its : Work
  pub there : asked_at works number ≡ Some its
  pub for_it : IsFor node its

pub next_asked : (lines : List Line) (node : NodeId) (items : Items) → items.works ≡ items_of lines node → (number : ℕ) → next_item items ≡ Some number
    → Asked node (items_of lines node) number
next_asked lines node items has number next = record { its = its; there = there; for_it = subst (λ o. IfSome o (IsFor node)) found (all_read (IsFor node) works (number - 1) (all_its node (works_of lines))) }
  where
    works : List Work
    works = items_of lines node

    above : number ≡ items.begun + 1
    above = next_is items number next

    within : number - 1 < length works
    within =
        let left : number ≤ length items.works = next_left items number next in
        let same : length items.works ≡ length works = ap (λ (ws : List Work). length ws) has in
        omega (arith, above, left, same)

    its : Work
    its = get_or works (number - 1) (work.NetHold)

    found : slice_get works (number - 1) ≡ Some its
    found = slice_get-get_or works (number - 1) (work.NetHold) within

    there : asked_at works number ≡ Some its
    there = ap (λ t. cond t (slice_get works (number - 1)) None) (lt-ltb 0 number (omega (arith, above))) ∙ found

clients_own : (k : ℕ) (w : Work) → IsFor (nodes.Client k) w → client.IsClients (Some w)
clients_own k (work.Lose v) its = absurd cc
clients_own k (work.Move slot m) its = absurd cc
clients_own k _ its = tt

managers_own : (k : ℕ) (w : Work) → IsFor (nodes.Manager k) w → manager.IsManagers (Some w)
managers_own k (work.Crash node) its = tt
managers_own k (work.Restart node) its = tt
managers_own k (work.Checkpoint m) its = tt
managers_own k _ its = absurd cc

cleaners_own : (w : Work) → IsFor nodes.Cleaner w → cleaner.IsCleaners (Some w)
cleaners_own (work.Crash node) its = tt
cleaners_own (work.Restart node) its = tt
cleaners_own (work.Clean count) its = tt
cleaners_own _ its = absurd cc

module _ (e : Estate AnyNode) where
  abbrev pub works : NodeId → List Work
  works name = items_of e.script.lines name

  -- ---- the open item of each node

  abbrev pub Stands : NodeId → AnyNode → Type 0
  Stands name (any.Client c) = client.Asks (works name) c.phase
  Stands name (any.Manager m) = manager.Asks (works name) m.phase
  Stands name (any.Server v) = server.Asks (works name) v
  Stands name (any.Cleaner c) = cleaner.Asks (works name) c.phase
  Stands name (any.Registry r) = Unit {0}

  none : (item : ℕ) → None ≡ Some item → ⊥
  none item fact = cc

  starts : (name : NodeId) → Stands name (any_start name e.script.setup (works name))
  starts (nodes.Client k) = (tt, λ item waits. absurd (none item waits))
  starts (nodes.Manager k) = λ item waits. absurd (none item waits)
  starts (nodes.Server k) = λ item waits. absurd (none item waits)
  starts nodes.Cleaner = λ item waits. absurd (none item waits)
  starts nodes.Registry = tt

  -- ---- an event

  module _ (count : ℕ) (event : Event) (x : AnyNode) (was : node_named (moment e count) (node_of event) ≡ Some x) where
    abbrev name : NodeId
    name = node_of event

    known : Known e name x
    known = node_known e count name x was

    asked : (number : ℕ) → next_item (items_in x) ≡ Some number → Asked (name_in x) (works name) number
    asked number next =
        subst (λ n. Asked n (works name) number) (sym known.named) (next_asked e.script.lines name (items_in x) known.works number next)

  -- what an event makes of the open item, and what it answers
  record Turn (name : NodeId) (x : AnyNode) (what : Do) : Type 0 where
    stands : Stands name (any_step x what).node
    answers : (node : NodeId) (item : ℕ) (a : Answer) → In (act.Answered node item a) (any_step x what).acts
        → May (works name) x (any_step x what).node item a

  turns : (count : ℕ) (event : Event) (x : AnyNode) → node_named (moment e count) (node_of event) ≡ Some x → Stands (node_of event) x
      → Turn (node_of event) x (what_of event)
  turns count event (any.Client c) was s =
      let name : NodeId = node_of event in
      let k : ℕ = (clients.lasting_of c.phase).number in
      let t : client.Turned (works name) c c.phase (clients.takes c (what_of event)) =
      client.client_fits (works name) c (what_of event) (known count event (any.Client c) was).works
      (λ number next. (let a = asked count event (any.Client c) was number next in subst client.IsClients (sym a.there) (clients_own k a.its a.for_it))) s in
      record {
        stands = t.asks;
        answers = acts_meet (May (works name) (any.Client c) (any_step (any.Client c) (what_of event)).node) (nodes.Client k)
            (clients.takes c (what_of event)).outs t.meets;
      }
  turns count event (any.Manager m) was s =
      let name : NodeId = node_of event in
      let k : ℕ = (managers.lasting_of m.phase).number in
      let t : manager.Turned (works name) m m.phase (managing.happens m (what_of event)) =
      manager.manager_fits (works name) m (what_of event) (known count event (any.Manager m) was).works
      (λ number next. (let a = asked count event (any.Manager m) was number next in subst manager.IsManagers (sym a.there) (managers_own k a.its a.for_it))) s in
      record {
        stands = t.asks;
        answers = acts_meet (May (works name) (any.Manager m) (any_step (any.Manager m) (what_of event)).node) (nodes.Manager k)
            (managing.happens m (what_of event)).outs t.meets;
      }
  turns count event (any.Server v) was s =
      let name : NodeId = node_of event in
      let t : server.Turned (works name) v (storing.takes v (what_of event)) =
      server.server_fits (works name) v (what_of event) (known count event (any.Server v) was).works s in
      record {
        stands = t.asks;
        answers = acts_meet (May (works name) (any.Server v) (any_step (any.Server v) (what_of event)).node) (nodes.Server v.number)
            (storing.takes v (what_of event)).outs t.meets;
      }
  turns count event (any.Cleaner c) was s =
      let name : NodeId = node_of event in
      let t : cleaner.Turned (works name) c c.phase (cleaning.takes c.peers c.phase (what_of event)) =
      cleaner.cleaner_fits (works name) c (what_of event) (known count event (any.Cleaner c) was).works
      (λ number next. (let a = asked count event (any.Cleaner c) was number next in subst cleaner.IsCleaners (sym a.there) (cleaners_own a.its a.for_it))) s in
      record {
        stands = t.asks;
        answers = acts_meet (May (works name) (any.Cleaner c) (any_step (any.Cleaner c) (what_of event)).node) nodes.Cleaner
            (cleaning.takes c.peers c.phase (what_of event)).outs t.meets;
      }
  turns count event (any.Registry r) was s =
      let name : NodeId = node_of event in record {
        stands = tt;
        answers = acts_meet (May (works name) (any.Registry r) (any_step (any.Registry r) (what_of event)).node) nodes.Registry
            (registering.takes r (what_of event)).outs
            (registry.registry_fits (works name) r (what_of event) (known count event (any.Registry r) was).works);
      }

  -- ---- runs

  pub stands_at : (count : ℕ) (name : NodeId) (x : AnyNode) → node_named (moment e count) name ≡ Some x → Stands name x
  stands_at = each_stands Stands e starts (λ count event happens x was s. (turns count event x was s).stands)

  module _ (count : ℕ) (event : Event) (happens : slice_get e.events count ≡ Some event) (node : NodeId) (item : ℕ) (a : Answer) where
    abbrev w : World AnyNode
    w = moment e count

    abbrev its : Act
    its = act.Answered node item a

    nothing_after : (xs : List Act) → drop (length xs) xs ≡ []
    nothing_after [] = refl
    nothing_after (x ∷ xs) = nothing_after xs

    none_fits : NothingHappens w event → In its (acts_in w event) → FitsAt e count node item a
    none_fits none_ among = absurd (subst (In its) (ap (drop (length w.acts)) none_.acts ∙ nothing_after w.acts) among)

    one_fits : (x : AnyNode) → Took w event x → In its (acts_in w event) → FitsAt e count node item a
    one_fits x took among = record {
      before = x;
      after = after;
      was = ap (node_named w) me ∙ was;
      is = ap (λ (v : World AnyNode). node_named v node) (moment_next e count event happens)
          ∙ (ap (λ k. node_in next.nodes (place_of k node)) (next_cluster any_step w event)
          ∙ (ap (λ n. node_in next.nodes (place_of w.cluster n)) me ∙ node_then w.cluster w refl event x took));
      fits = subst (λ n. May (works n) x after item a) (sym me)
          ((turns count event x was (stands_at count (node_of event) x was)).answers node item a acted);
    }
      where
        next : World AnyNode
        next = next_world any_step w event

        after : AnyNode
        after = (any_step x (what_of event)).node

        was : node_named w (node_of event) ≡ Some x
        was = ap (node_in w.nodes) took.placed ∙ took.stands

        acted : In its (any_step x (what_of event)).acts
        acted = subst (In its) (ap (drop (length w.acts)) took.acts ∙ drop-append_seam w.acts (any_step x (what_of event)).acts) among

        me : node ≡ node_of event
        me =
            let k : Known e (node_of event) x = known count event x was in
            answers_itself x (what_of event) k.waits node item a acted ∙ k.named

    fits_at : In its (acts_in w event) → FitsAt e count node item a
    fits_at among = by (takes_or_not w event)
      where
        by : NothingHappens w event ⊎ ((x : AnyNode) × Took w event x) → FitsAt e count node item a
        by (inl none_) = none_fits none_ among
        by (inr turn) = one_fits turn.0 turn.1 among

pub each_fits : EachAnswerFits
each_fits e count event happens node item a among = fits_at e count event happens node item a among
