-- Where all items are of one client, and what is answered is answered as a call is that is done, no item is open as another begins: it would be answered that its
-- client is busy, or be left out, and then one is open at the end.
use Rattle.std.proofs.Common.{◌≡◌, ◌≤◌, ◌<◌, ◌⊎◌, ℕ, zero, suc, ◌+◌, ◌-◌, Bool, true, false, cond, List, [], ◌∷◌, inl, inr, length, length-append, slice_get, take, Option, Some, None, refl, sym, ap, subst, ◌∙◌, arith}
use Rattle.std.proofs.Math.Seq.{take-length}
use Rattle.std.proofs.lemmas.List.Elements.{filter-append}
use Rattle.std.specs.List.{AllByRecursion, cons_option}
use Rattle.client_node.specs.declared.client.Client.{Client}
use Rattle.client_node.specs.Phases.{happens, lasting_of, stepped}
use Rattle.core_world.specs.AnyNode.{any_start, any_step}
use Rattle.core_world.specs.declared.any_node.AnyNode.{AnyNode}
use Rattle.core_world.specs.declared.any_node.AnyNode.TheVariants as any
use Rattle.headline.specs.Dues.{AnswersDue, Refuses, has_counters}
use Rattle.headline.specs.InLine.{answers_in}
use Rattle.headline.specs.ItemActs.{IsOfCall}
use Rattle.headline.specs.Items.{IsOpen, asked_at, items_in, name_in}
use Rattle.headline.specs.Moments.{acts_in, moment, node_named}
use Rattle.headline.specs.OneMachine.{AreCalls, AreDone, BeginsAlone, is_call}
use Rattle.headline.specs.Standings.{standing}
use Rattle.headline.specs.Standings.Standing.{Serves as Stands}
use Rattle.log_tie.proofs.Listings.{in_back}
use Rattle.node_base.specs.Beginning.{next_item}
use Rattle.node_base.specs.declared.items.Items.{Items}
use Rattle.one_machine.specs.Trees.{AreFit}
use Rattle.play.specs.Plays.{actors_of}
use Rattle.quiet_flow.proofs.Places.{not_same}
use Rattle.run_answers.proofs.act_law.Runs.{moment_past}
use Rattle.run_answers.proofs.once_law.Items.{next_left}
use Rattle.run_answers.proofs.once_law.Runs.{Known, each_keeps, node_known}
use Rattle.run_answers.proofs.standing_law.Moments.{each_stands}
use Rattle.run_answers.specs.due_law.Runs.{EachRunAnswersDue}
use Rattle.run_answers.specs.due_law.Turns.{EachEventKeepsStanding, EachStartServes}
use Rattle.run_answers.specs.once_law.Ledgers.{MayBeAnswered}
use Rattle.run_laws.proofs.world_reads.Taking.{NothingHappens, Took, moment_next, takes_or_not}
use Rattle.script_text.specs.declared.script.Line.{Line}
use Rattle.serving_moves.proofs.item_moves.Keeping.{next_is}
use Rattle.token_protocol.specs.Basics.{In}
use Rattle.transcript.specs.Replies.{is_answer, open_items}
use Rattle.version_model.specs.declared.act.Act.{Act}
use Rattle.version_model.specs.declared.act.Act.TheVariants as act
use Rattle.version_model.specs.declared.answer.Answer.{Answer}
use Rattle.version_model.specs.declared.answer.Answer.TheVariants as answer
use Rattle.version_model.specs.declared.work.Work.{Work}
use Rattle.version_model.specs.declared.work.Work.TheVariants as work
use Rattle.wire_msg.specs.declared.packet.Do.{Do}
use Rattle.wire_msg.specs.declared.packet.Do.TheVariants as whats
use Rattle.world_base.specs.declared.estate.Estate.{Estate}
use Rattle.world_base.specs.declared.event.Event.{Event}
use Rattle.world_base.specs.declared.event.Event.TheVariants.{Begin}
use Rattle.world_base.specs.declared.world.World.{World as Run}
use Rattle.world_base.specs.Events.{node_of, what_of}
use Rattle.world_base.specs.Items.{actor_of, is_for, is_for_actor, items_of}
use Rattle.world_base.specs.Runs.{IsRun, begun_in}
use Rattle.xfs_base.proofs.NodeOrder.{same_node_is}
use Rattle.xfs_base.specs.declared.node.NodeId.{NodeId}
use Rattle.xfs_base.specs.declared.node.NodeId.TheVariants as nodes
use Rattle.xfs_base.specs.Nodes.{same_node}
use Rattle.xfs_base.specs.Steps.{still}
use Rattle.run_text.proofs.AloneEvents.{begins_or_not, begun_next, begun_one, closes_none, closes_one, none_first, starts_free, take_past}
use Rattle.run_text.proofs.AloneLines.{enough}
use Rattle.run_text.proofs.Acts.{each_done}
use Rattle.run_text.proofs.CallItems.{asked_for, calls_serve, each_call}
use Rattle.run_text.proofs.CallMoments.{its_acts, its_behind, its_there, others_named, same_named}
use Rattle.run_text.proofs.Moments.{acts_then, first_acts, last_moment, stays}
use Rattle.run_text.specs.Runs.{EachRunOfOneClientIsAlone, IsOfClient}

one_item : (a b : ℕ) → Some a ≡ Some b → a ≡ b
one_item a b fact = cc

no_item : (item : ℕ) → None ≡ Some item → ⊥
no_item item fact = cc

-- ---- one event of a node

-- whether an item is open, as a number
abbrev opened : Option ℕ → ℕ
opened None = 0
opened (Some item) = 1

abbrev opened_in : Option AnyNode → ℕ
opened_in None = 0
opened_in (Some x) = opened (items_in x).unanswered

module _ (x : AnyNode) (what : Do) (sound : (item : ℕ) → IsOpen (items_in x) item → item ≤ (items_in x).begun) where
  abbrev behind : AnyNode
  behind = (any_step x what).node

  abbrev may : ℕ → Type 0
  may = MayBeAnswered (items_in x) what (items_in behind)

  not_left : ((item : ℕ) → IsOpen (items_in behind) item → ⊥) → opened (items_in behind).unanswered ≡ 0
  not_left none = by (items_in behind).unanswered refl
    where
      by : (o : Option ℕ) → (items_in behind).unanswered ≡ o → opened (items_in behind).unanswered ≡ 0
      by None is = ap opened is
      by (Some item) is = absurd (none item is)

  at_most : (o : Option ℕ) → opened o ≤ 1
  at_most None = omega arith
  at_most (Some item) = omega arith

  -- where none may be answered, none is, and none is open
  answers_none : ((item : ℕ) → may item → ⊥) → (answers_in (any_step x what).acts ≡ []) × (opened (items_in behind).unanswered ≡ 0)
  answers_none none =
      let c = closes_none (name_in x) may (IsOpen (items_in behind)) none (any_step x what).acts (each_keeps x what sound).ledger.closes in
      (c.0, not_left c.1)

  -- where one may, it is, or is open
  answers_one : (one : ℕ) → ((item : ℕ) → may item → item ≡ one) → length (answers_in (any_step x what).acts) + opened (items_in behind).unanswered ≤ 1
  answers_one one only =
      by (closes_one (name_in x) one may (IsOpen (items_in behind)) only (any_step x what).acts (each_keeps x what sound).ledger.closes)
    where
      by : (answers_in (any_step x what).acts ≡ []) ⊎ ((a : Answer)
          × ((answers_in (any_step x what).acts ≡ act.Answered (name_in x) one a ∷ []) × ((item : ℕ) → IsOpen (items_in behind) item → ⊥)))
          → length (answers_in (any_step x what).acts) + opened (items_in behind).unanswered ≤ 1
      by (inl silent) =
          let none : length (answers_in (any_step x what).acts) ≡ 0 = ap length silent in
          let most = at_most (items_in behind).unanswered in
          omega arith
      by (inr (a, (are, none))) =
          let one_answer : length (answers_in (any_step x what).acts) ≡ 1 = ap length are in
          let not_open = not_left none in
          omega arith

-- a node of which no item is asked begins none
begins_none : (items : Items) → items.works ≡ [] → (item : ℕ) → next_item items ≡ Some item → ⊥
begins_none items none item next =
    let most : item ≤ length items.works = next_left items item next in
    let first : item ≡ items.begun + 1 = next_is items item next in
    let nothing : length items.works ≡ 0 = ap length none in
    omega arith

-- a client whose counters are near their ends changes nothing
full_stays : (c : Client) (what : Do) → has_counters (any.Client c) ≡ false → (items_in (any_step (any.Client c) what).node).begun ≡ (items_in (any.Client c)).begun
full_stays c what full = ap (λ t. (lasting_of (stepped c (cond t (happens c what) (still c.phase))).node.phase).items.begun) full

-- ---- the items of a script

others_none : (lines : List Line) (client : ℕ) → IsOfClient client lines → (name : NodeId) → (name ≡ nodes.Client client → ⊥) → items_of lines name ≡ []
others_none [] client of name apart = refl
others_none (l ∷ lines) client of name apart = by (actor_of l.work) refl of (λ rest. others_none lines client rest name apart)
  where
    not_own : (t : Bool) → same_node (nodes.Client client) name ≡ t → t ≡ false
    not_own true same = absurd (apart (sym (same_node_is (nodes.Client client) name same)))
    not_own false same = refl

    past : is_for name l.work ≡ false → items_of lines name ≡ [] → items_of (l ∷ lines) name ≡ []
    past not rest = ap (λ (t : Bool). cond t (l.work ∷ items_of lines name) (items_of lines name)) not ∙ rest

    by : (o : Option NodeId) → actor_of l.work ≡ o → AllByRecursion (λ node. node ≡ nodes.Client client) (cons_option o (actors_of lines))
        → (IsOfClient client lines → items_of lines name ≡ []) → items_of (l ∷ lines) name ≡ []
    by None is rest later = past (ap (is_for_actor name) is) (later rest)
    by (Some node) is (own, rest) later =
        past (ap (is_for_actor name) is ∙ (ap (λ n. same_node n name) own ∙ not_own (same_node (nodes.Client client) name) refl)) (later rest)

-- ---- the run

module _ (e : Estate AnyNode) (run : IsRun any_step any_start e.script e.events e.world) (client : ℕ) (of : IsOfClient client e.script.lines)
    (calls : AreCalls e.script.lines) (fit : AreFit e.script.lines) (done : AreDone e.world.acts) (due : AnswersDue e)
    (serve : (count : ℕ) (name : NodeId) (x : AnyNode) → node_named (moment e count) name ≡ Some x → standing x ≡ Stands) where
  abbrev me : NodeId
  me = nodes.Client client

  abbrev begun_at : ℕ → ℕ
  begun_at count = length (begun_in (take count e.events))

  -- how many items are answered or open
  abbrev load : ℕ → ℕ
  load count = length (answers_in (moment e count).acts) + opened_in (node_named (moment e count) me)

  -- ---- other nodes

  abbrev Free : NodeId → AnyNode → Type 0
  Free name x = (name ≡ me → ⊥) → (items_in x).unanswered ≡ None

  -- what another node may answer: nothing
  may_none : (count : ℕ) (name : NodeId) (x : AnyNode) (what : Do) → node_named (moment e count) name ≡ Some x → (name ≡ me → ⊥) → (items_in x).unanswered ≡ None
      → (item : ℕ) → MayBeAnswered (items_in x) what (items_in (any_step x what).node) item → ⊥
  may_none count name x what there apart free item (inl is) = no_item item (sym free ∙ is)
  may_none count name x what there apart free item (inr begun) =
      begins_none (items_in x) ((node_known e count name x there).works ∙ others_none e.script.lines client of name apart) item begun.1.0

  others_free : (count : ℕ) (name : NodeId) (x : AnyNode) → node_named (moment e count) name ≡ Some x → Free name x
  others_free =
      each_stands Free e (λ name apart. starts_free e name (items_of e.script.lines name))
      (λ count event happens x was free apart. turn count event x was (free apart) apart)
    where
      free_of : (o : Option ℕ) → opened o ≡ 0 → o ≡ None
      free_of None none = refl
      free_of (Some item) none = absurd cc

      turn : (count : ℕ) (event : Event) (x : AnyNode) → node_named (moment e count) (node_of event) ≡ Some x → (items_in x).unanswered ≡ None
          → (node_of event ≡ me → ⊥) → (items_in (any_step x (what_of event)).node).unanswered ≡ None
      turn count event x was free apart =
          free_of (items_in (any_step x (what_of event)).node).unanswered
          (answers_none x (what_of event) (node_known e count (node_of event) x was).waits
          (may_none count (node_of event) x (what_of event) was apart free)).1

  -- ---- one event

  module _ (count : ℕ) (event : Event) (happens : slice_get e.events count ≡ Some event) where
    abbrev xs : List Act
    xs = acts_in (moment e count) event

    more_answers : length (answers_in (moment e (suc count)).acts) ≡ length (answers_in (moment e count).acts) + length (answers_in xs)
    more_answers =
        ap length (ap answers_in (acts_then e count event happens) ∙ filter-append is_answer (moment e count).acts xs)
        ∙ length-append (answers_in (moment e count).acts) (answers_in xs)

    more_begun : begun_at (suc count) ≡ begun_at count + length (begun_in (event ∷ []))
    more_begun =
        ap length (begun_next e.events count event happens) ∙ length-append (begun_in (take count e.events)) (begun_in (event ∷ []))

    -- one more is answered or open at most where an item begins, and else none; and none where one begins while one is open
    record Loads : Type 0 where
      most : load (suc count) + begun_at count ≤ load count + begun_at (suc count)
      busy : what_of event ≡ whats.Begin → opened_in (node_named (moment e count) me) ≡ 1 → load (suc count) ≤ load count

    begun_least : begun_at count ≤ begun_at (suc count)
    begun_least = let more = more_begun in omega arith

    loads_same : load (suc count) ≡ load count → Loads
    loads_same same = record {
      most = (let more = begun_least in omega arith);
      busy = λ begins is. (let fact = same in omega arith);
    }

    nothing : NothingHappens (moment e count) event → Loads
    nothing none =
        loads_same
        (ap (λ acts. length (answers_in acts) + opened_in (node_named (moment e (suc count)) me))
        (ap (λ (v : Run AnyNode). v.acts) (moment_next e count event happens) ∙ none.acts)
        ∙ ap (λ o. length (answers_in (moment e count).acts) + opened_in o) (same_named e count event happens none me))

    module _ (x : AnyNode) (took : Took (moment e count) event x) where
      abbrev after : AnyNode
      after = (any_step x (what_of event)).node

      abbrev new : List Act
      new = answers_in (any_step x (what_of event)).acts

      here : node_named (moment e count) (node_of event) ≡ Some x
      here = its_there e count event happens x took

      known : Known e (node_of event) x
      known = node_known e count (node_of event) x here

      acts_are : answers_in xs ≡ new
      acts_are = ap answers_in (its_acts e count event happens x took)

      its_done : (node : NodeId) (item : ℕ) (a : Answer) → In (act.Answered node item a) (any_step x (what_of event)).acts → IsOfCall a
      its_done node item a among =
          each_done e.world.acts done node item a
          (stays e run (suc count) (act.Answered node item a) (subst (In (act.Answered node item a)) (sym (acts_then e count event happens))
          (in_back (act.Answered node item a) (moment e count).acts xs
          (subst (In (act.Answered node item a)) (sym (its_acts e count event happens x took)) among))))

      -- ---- of another node

      beside : (node_of event ≡ me → ⊥) → Loads
      beside apart =
          let none =
          answers_none x (what_of event) known.waits
          (may_none count (node_of event) x (what_of event) here apart (others_free count (node_of event) x here apart)) in
          let silent : length (answers_in xs) ≡ 0 = ap length (acts_are ∙ none.0) in
          let more = more_answers in
          let same : opened_in (node_named (moment e (suc count)) me) ≡ opened_in (node_named (moment e count) me) =
          ap opened_in (others_named e count event happens x took me (λ is. apart (sym is))) in
          loads_same (omega arith)

      -- ---- of this one

      module _ (own : node_of event ≡ me) where
        opened_was : opened_in (node_named (moment e count) me) ≡ opened (items_in x).unanswered
        opened_was = ap opened_in (ap (node_named (moment e count)) (sym own) ∙ here)

        opened_is : opened_in (node_named (moment e (suc count)) me) ≡ opened (items_in after).unanswered
        opened_is = ap opened_in (ap (node_named (moment e (suc count))) (sym own) ∙ its_behind e count event happens x took)

        client_is : (c : Client) × (x ≡ any.Client c)
        client_is = by x (known.named ∙ own)
          where
            by : (y : AnyNode) → name_in y ≡ me → (c : Client) × (y ≡ any.Client c)
            by (any.Client c) is = (c, refl)
            by (any.Manager m) is = absurd cc
            by (any.Server v) is = absurd cc
            by (any.Cleaner d) is = absurd cc
            by (any.Registry r) is = absurd cc

        -- where an item begins while one is open, it is not the one that is answered
        module _ (begins : what_of event ≡ whats.Begin) (item : ℕ) (is : (items_in x).unanswered ≡ Some item) (number : ℕ)
            (next : next_item (items_in x) ≡ Some number) (so : (items_in after).begun ≡ number) where
          above : number ≡ (items_in x).begun + 1
          above = next_is (items_in x) number next

          there : number ≤ length (items_of e.script.lines (node_of event))
          there = subst (λ (ws : List Work). number ≤ length ws) known.works (next_left (items_in x) number next)

          abbrev Busy : Work → Type 0
          Busy w =
              asked_at (items_of e.script.lines (node_of event)) number ≡ Some w → has_counters x ≡ true → Refuses x number (any_step x (what_of event)) answer.Busy

          busy_if : (w : Work) → is_call w ≡ true → Busy w
          busy_if =
              each_call Busy
              (λ c b v asked room. ((due.events count event happens x here).due number (work.Bput c b v) begins next asked room).1 item (serve count (node_of event) x here) is)
              (λ c b asked room. ((due.events count event happens x here).due number (work.Bget c b) begins next asked room).1 item (serve count (node_of event) x here) is)
              (λ c asked room. ((due.events count event happens x here).due number (work.Sync c) begins next asked room).1 item (serve count (node_of event) x here) is)
              (λ c f asked room. ((due.events count event happens x here).due number (work.File c f) begins next asked room).1 item (serve count (node_of event) x here) is)

          not_busy : Refuses x number (any_step x (what_of event)) answer.Busy → ⊥
          not_busy refuses =
              its_done (name_in x) number answer.Busy
              (subst (In (act.Answered (name_in x) number answer.Busy)) (sym refuses.acts) (inl refl))

          not_full : has_counters x ≡ false → ⊥
          not_full full =
              let stays_so : (items_in after).begun ≡ (items_in x).begun =
              subst (λ (y : AnyNode). has_counters y ≡ false → (items_in (any_step y (what_of event)).node).begun ≡ (items_in y).begun) (sym client_is.1)
              (full_stays client_is.0 (what_of event)) full in
              let one = above in
              let two = so in
              omega arith

          begun_not : ⊥
          begun_not = by (has_counters x) refl
            where
              by : (t : Bool) → has_counters x ≡ t → ⊥
              by true room =
                  let first = above in
                  let a = asked_for e.script.lines calls fit (node_of event) number (omega arith) there in
                  not_busy (busy_if a.its a.call.called a.there room)
              by false full = not_full full

        only_open : (item : ℕ) → (items_in x).unanswered ≡ Some item → (i : ℕ) → MayBeAnswered (items_in x) (what_of event) (items_in after) i → i ≡ item
        only_open item is i (inl open_too) = one_item i item (sym open_too ∙ is)
        only_open item is i (inr begun) = absurd (begun_not begun.0 item is i begun.1.0 begun.1.1)

        by_open : (o : Option ℕ) → (items_in x).unanswered ≡ o → Loads
        by_open (Some item) is =
            let one = answers_one x (what_of event) known.waits item (only_open item is) in
            let was : opened_in (node_named (moment e count) me) ≡ 1 = opened_was ∙ ap opened is in
            let now = opened_is in
            let more = more_answers in
            let given : length (answers_in xs) ≡ length new = ap length acts_are in
            let least = begun_least in
            record { most = omega arith; busy = λ begins so. omega arith }
        by_open None is = by (begins_or_not event)
          where
            free : opened_in (node_named (moment e count) me) ≡ 0
            free = opened_was ∙ ap opened is

            not_open : (item : ℕ) → IsOpen (items_in x) item → ⊥
            not_open item open_so = no_item item (sym is ∙ open_so)

            none_so : ((item : ℕ) → MayBeAnswered (items_in x) (what_of event) (items_in after) item → ⊥) → Loads
            none_so none =
                let c = answers_none x (what_of event) known.waits none in
                let silent : length (answers_in xs) ≡ 0 = ap length (acts_are ∙ c.0) in
                let more = more_answers in
                let was = free in
                let now = opened_is in
                let closed = c.1 in
                loads_same (omega arith)

            begun_so : what_of event ≡ whats.Begin → (o : Option ℕ) → next_item (items_in x) ≡ o → Loads
            begun_so begins None next = none_so none
              where
                none : (item : ℕ) → MayBeAnswered (items_in x) (what_of event) (items_in after) item → ⊥
                none item (inl open_so) = not_open item open_so
                none item (inr begun) = no_item item (sym next ∙ begun.1.0)
            begun_so begins (Some number) next =
                let one = answers_one x (what_of event) known.waits number only in
                let was = free in
                let now = opened_is in
                let more = more_answers in
                let given : length (answers_in xs) ≡ length new = ap length acts_are in
                let begun = more_begun in
                let one_more : length (begun_in (event ∷ [])) ≡ 1 = ap length (begun_one event begins) in
                record { most = omega arith; busy = λ again so. absurd (omega arith) }
              where
                only : (i : ℕ) → MayBeAnswered (items_in x) (what_of event) (items_in after) i → i ≡ number
                only i (inl open_so) = absurd (not_open i open_so)
                only i (inr begun) = one_item i number (sym begun.1.0 ∙ next)

            by : (what_of event ≡ whats.Begin) ⊎ ((what_of event ≡ whats.Begin → ⊥) × (begun_in (event ∷ []) ≡ [])) → Loads
            by (inl begins) = begun_so begins (next_item (items_in x)) refl
            by (inr not) = none_so none
              where
                none : (item : ℕ) → MayBeAnswered (items_in x) (what_of event) (items_in after) item → ⊥
                none item (inl open_so) = not_open item open_so
                none item (inr begun) = not.0 begun.0

      taken : Loads
      taken = by (same_node (node_of event) me) refl
        where
          by : (t : Bool) → same_node (node_of event) me ≡ t → Loads
          by true same = by_open (same_node_is (node_of event) me same) (items_in x).unanswered refl
          by false apart = beside (not_same (node_of event) me apart)

    loads : Loads
    loads = by (takes_or_not (moment e count) event)
      where
        by : NothingHappens (moment e count) event ⊎ ((x : AnyNode) × Took (moment e count) event x) → Loads
        by (inl none) = nothing none
        by (inr (x, took)) = taken x took

  -- ---- all events

  first_load : load 0 ≤ begun_at 0
  first_load =
      let none : length (answers_in (moment e 0).acts) ≡ 0 = ap (λ acts. length (answers_in acts)) (first_acts e) in
      let free = not_opened (node_named (moment e 0) me) refl in
      omega arith
    where
      not_opened : (o : Option AnyNode) → node_named (moment e 0) me ≡ o → opened_in (node_named (moment e 0) me) ≡ 0
      not_opened None is = ap opened_in is
      not_opened (Some x) is = ap opened_in is ∙ ap opened (none_first e me x is)

  past_same : (count : ℕ) → slice_get e.events count ≡ None → (load (suc count) ≡ load count) × (begun_at (suc count) ≡ begun_at count)
  past_same count gone = (
    ap (λ (v : Run AnyNode). length (answers_in v.acts) + opened_in (node_named v me)) (moment_past e count gone),
    ap (λ es. length (begun_in es)) (take_past e.events count gone),
  )

  next_load : (count : ℕ) → load (suc count) + begun_at count ≤ load count + begun_at (suc count)
  next_load count = by (slice_get e.events count) refl
    where
      by : (o : Option Event) → slice_get e.events count ≡ o → load (suc count) + begun_at count ≤ load count + begun_at (suc count)
      by None gone = (let same = past_same count gone in let one = same.0 in let two = same.1 in omega arith)
      by (Some event) happens = (loads count event happens).most

  load_at : (count : ℕ) → load count ≤ begun_at count
  load_at zero = first_load
  load_at (suc count) = (let before = load_at count in let more = next_load count in omega arith)

  none_more : (n : ℕ) → n ≡ 0 + n
  none_more n = omega arith

  one_more : (more count : ℕ) → suc (more + count) ≡ suc more + count
  one_more more count = omega arith

  -- fewer are answered or open than began, and so it stays
  fewer_later : (count more : ℕ) → load count < begun_at count → load (more + count) < begun_at (more + count)
  fewer_later count zero fewer = subst (λ n. load n < begun_at n) (none_more count) fewer
  fewer_later count (suc more) fewer =
      let before = fewer_later count more fewer in
      let step = next_load (more + count) in
      subst (λ n. load n < begun_at n) (one_more more count) (omega arith)

  module _ (order : begun_in e.events ≡ actors_of e.script.lines) (closed : open_items e ≡ 0) where
    never_fewer : (count : ℕ) → count ≤ length e.events → load count < begun_at count → ⊥
    never_fewer count within fewer =
        let last : (length e.events - count) + count ≡ length e.events = omega arith in
        let at_end : load (length e.events) < begun_at (length e.events) =
        subst (λ n. load n < begun_at n) last (fewer_later count (length e.events - count) fewer) in
        let all : begun_at (length e.events) ≡ length (begun_in e.events) = ap (λ es. length (begun_in es)) (take-length e.events) in
        let given : length (answers_in (moment e (length e.events)).acts) ≡ length (answers_in e.world.acts) =
        ap (λ (v : Run AnyNode). length (answers_in v.acts)) (last_moment e run) in
        let many = enough e order closed in
        omega arith

    within : (events : List Event) (count : ℕ) (event : Event) → slice_get events count ≡ Some event → suc count ≤ length events
    within [] count event happens = absurd cc
    within (y ∷ events) zero event happens = omega arith
    within (y ∷ events) (suc count) event happens = (let more = within events count event happens in omega arith)

    pub begins_alone : BeginsAlone e
    begins_alone count node happens name x there = by (same_node name me) refl
      where
        own : name ≡ me → (o : Option ℕ) → (items_in x).unanswered ≡ o → (items_in x).unanswered ≡ None
        own same None is = is
        own same (Some item) is =
            let was : opened_in (node_named (moment e count) me) ≡ 1 = ap opened_in (ap (node_named (moment e count)) (sym same) ∙ there) ∙ ap opened is in
            let most = (loads count (Begin node) happens).busy refl was in
            let before = load_at count in
            let more : begun_at (suc count) ≡ begun_at count + 1 = more_begun count (Begin node) happens in
            absurd (never_fewer (suc count) (within e.events count (Begin node) happens) (omega arith))

        by : (t : Bool) → same_node name me ≡ t → (items_in x).unanswered ≡ None
        by true same = own (same_node_is name me same) (items_in x).unanswered refl
        by false apart = others_free count name x there (not_same name me apart)

pub one_client_alone : EachRunAnswersDue → EachStartServes → EachEventKeepsStanding → EachRunOfOneClientIsAlone
one_client_alone dues starts events e run client of fit calls order done closed =
    begins_alone e run client of calls fit done (dues e) (calls_serve e calls fit starts events) order closed
