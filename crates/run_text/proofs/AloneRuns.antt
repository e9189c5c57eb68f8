-- Where each item begins while none is open, and none is open at the end, the items are answered in the order in which they begin: moment by moment all that began are
-- answered, or all but the last, which is open; or fewer, and fewer they stay.
use Rattle.std.proofs.Common.{◌≡◌, ◌≤◌, ◌⊎◌, ℕ, zero, suc, Bool, true, false, List, [], ◌∷◌, ◌++◌, append-nil, inl, inr, length, slice_get, take, Option, Some, None, refl, sym, ap, subst, ◌∙◌, arith}
use Rattle.std.proofs.Math.Seq.{take-length}
use Rattle.std.proofs.lemmas.List.Elements.{filter-append}
use Rattle.core_world.specs.AnyNode.{any_start, any_step}
use Rattle.core_world.specs.declared.any_node.AnyNode.{AnyNode}
use Rattle.headline.specs.InLine.{answers_in}
use Rattle.headline.specs.Items.{IsOpen, IsOwnItem, ItemsAnsweredOnce, items_in}
use Rattle.headline.specs.Moments.{acts_in, moment, node_named}
use Rattle.headline.specs.OneMachine.{BeginsAlone, NoneIsOpen}
use Rattle.node_base.specs.Beginning.{next_item}
use Rattle.play.specs.Plays.{actors_of}
use Rattle.quiet_flow.proofs.Places.{not_same}
use Rattle.run_answers.proofs.act_law.Runs.{moment_past}
use Rattle.run_answers.proofs.once_law.Runs.{Known, each_keeps, node_known}
use Rattle.run_answers.specs.once_law.Ledgers.{Closes, MayBeAnswered}
use Rattle.run_answers.specs.once_law.Runs.{EachItemIsAnsweredOnce}
use Rattle.run_laws.proofs.world_reads.Taking.{NothingHappens, Took, moment_next, takes_or_not}
use Rattle.token_protocol.specs.Basics.{In}
use Rattle.transcript.specs.Replies.{is_answer, open_items}
use Rattle.version_model.specs.declared.act.Act.{Act}
use Rattle.version_model.specs.declared.act.Act.TheVariants as act
use Rattle.version_model.specs.declared.answer.Answer.{Answer}
use Rattle.wire_msg.specs.declared.packet.Do.TheVariants as whats
use Rattle.world_base.specs.declared.estate.Estate.{Estate}
use Rattle.world_base.specs.declared.event.Event.{Event}
use Rattle.world_base.specs.declared.world.World.{World as Run}
use Rattle.world_base.specs.Events.{node_of, what_of}
use Rattle.world_base.specs.Runs.{IsRun, begun_in}
use Rattle.xfs_base.proofs.NodeOrder.{same_node_is, same_node_itself}
use Rattle.xfs_base.specs.declared.node.NodeId.{NodeId}
use Rattle.xfs_base.specs.Nodes.{same_node}
use Rattle.run_text.proofs.Acts.{answer_among}
use Rattle.run_text.proofs.AloneEvents.{ClosesOne, begin_is, begins_or_not, begun_next, begun_one, closes_none, closes_one, none_first, take_none, take_past}
use Rattle.run_text.proofs.AloneLines.{AnswersBy, Turned, all_in_line, enough, its, its_more, one_if, turned_more, turned_out}
use Rattle.run_text.proofs.CallMoments.{all_named, its_acts, its_behind, its_there, others_named, same_named}
use Rattle.run_text.proofs.Moments.{acts_then, first_acts, last_moment}
use Rattle.run_text.specs.Runs.{EachRunAloneIsInLine}

one_item : (a b : ℕ) → Some a ≡ Some b → a ≡ b
one_item a b fact = cc

no_item : (item : ℕ) → None ≡ Some item → ⊥
no_item item fact = cc

one_node : (a b : AnyNode) → Some a ≡ Some b → a ≡ b
one_node a b fact = cc

-- ---- moment by moment

module _ (e : Estate AnyNode) (alone : BeginsAlone e) (once : ItemsAnsweredOnce e) where
  abbrev answers_at : ℕ → List Act
  answers_at count = answers_in (moment e count).acts

  abbrev begun_at : ℕ → List NodeId
  begun_at count = begun_in (take count e.events)

  -- no item is open
  record RestsAt (count : ℕ) : Type 0 where
    none : NoneIsOpen (moment e count)
    turned : Turned (begun_at count) (answers_at count)

  -- the one that began last is, and no other
  record WaitsAt (count : ℕ) : Type 0 where
    name : NodeId
    x : AnyNode
    there : node_named (moment e count) name ≡ Some x
    item : ℕ
    opened : IsOpen (items_in x) item
    before : List NodeId
    begun : begun_at count ≡ before ++ name ∷ []
    turned : Turned before (answers_at count)
    others : (other : NodeId) (y : AnyNode) → node_named (moment e count) other ≡ Some y → (other ≡ name → ⊥) → (items_in y).unanswered ≡ None

  abbrev State : ℕ → Type 0
  State count = RestsAt count ⊎ WaitsAt count

  -- nothing begins or is answered, and no node changes
  as_was : (count : ℕ) → begun_at (suc count) ≡ begun_at count → answers_at (suc count) ≡ answers_at count
      → ((name : NodeId) → node_named (moment e (suc count)) name ≡ node_named (moment e count) name) → State count → State (suc count)
  as_was count same_begun same_answers same_nodes (inl s) = inl (record {
    none = λ name x fact. s.none name x (sym (same_nodes name) ∙ fact);
    turned = subst (λ ys. Turned (begun_at (suc count)) ys) (sym same_answers) (subst (λ ns. Turned ns (answers_at count)) (sym same_begun) s.turned);
  })
  as_was count same_begun same_answers same_nodes (inr s) = inr (record {
    name = s.name;
    x = s.x;
    there = same_nodes s.name ∙ s.there;
    item = s.item;
    opened = s.opened;
    before = s.before;
    begun = same_begun ∙ s.begun;
    turned = subst (λ ys. Turned s.before ys) (sym same_answers) s.turned;
    others = λ other y fact apart. s.others other y (sym (same_nodes other) ∙ fact) apart;
  })

  module _ (count : ℕ) (event : Event) (happens : slice_get e.events count ≡ Some event) where
    abbrev xs : List Act
    xs = acts_in (moment e count) event

    abbrev me : NodeId
    me = node_of event

    answers_then : answers_at (suc count) ≡ answers_at count ++ answers_in xs
    answers_then = ap answers_in (acts_then e count event happens) ∙ filter-append is_answer (moment e count).acts xs

    -- where nothing is answered
    unanswered : answers_in xs ≡ [] → answers_at (suc count) ≡ answers_at count
    unanswered silent = answers_then ∙ (ap (λ ys. answers_at count ++ ys) silent ∙ append-nil (answers_at count))

    begun_then : begun_at (suc count) ≡ begun_at count ++ begun_in (event ∷ [])
    begun_then = begun_next e.events count event happens

    still_begun : begun_in (event ∷ []) ≡ [] → begun_at (suc count) ≡ begun_at count
    still_begun none = begun_then ∙ (ap (λ ns. begun_at count ++ ns) none ∙ append-nil (begun_at count))

    one_begun : what_of event ≡ whats.Begin → begun_at (suc count) ≡ begun_at count ++ me ∷ []
    one_begun begins = begun_then ∙ ap (λ ns. begun_at count ++ ns) (begun_one event begins)

    none_open : what_of event ≡ whats.Begin → NoneIsOpen (moment e count)
    none_open begins = alone count me (happens ∙ ap Some (begin_is event begins))

    still_open : (s : WaitsAt count) → what_of event ≡ whats.Begin → ⊥
    still_open s begins = no_item s.item (sym (none_open begins s.name s.x s.there) ∙ s.opened)

    -- an item is left out
    left_out : what_of event ≡ whats.Begin → answers_at (suc count) ≡ answers_at count → Turned (begun_at count) (answers_at count)
        → Turned (begun_at (suc count)) (answers_at (suc count))
    left_out begins same turned =
        subst (λ ys. Turned (begun_at (suc count)) ys) (sym same)
        (subst (λ ns. Turned ns (answers_at count)) (sym (one_begun begins)) (turned_out (begun_at count) (answers_at count) me turned))

    -- ---- nothing happens

    nothing : NothingHappens (moment e count) event → State count → State (suc count)
    nothing none s = by (begins_or_not event) s
      where
        same : answers_at (suc count) ≡ answers_at count
        same = ap (λ (v : Run AnyNode). answers_in v.acts) (moment_next e count event happens) ∙ ap answers_in none.acts

        by : (what_of event ≡ whats.Begin) ⊎ ((what_of event ≡ whats.Begin → ⊥) × (begun_in (event ∷ []) ≡ [])) → State count → State (suc count)
        by (inl begins) (inl s) = inl (record {
          none = λ name x fact. s.none name x (sym (same_named e count event happens none name) ∙ fact);
          turned = left_out begins same s.turned;
        })
        by (inl begins) (inr s) = absurd (still_open s begins)
        by (inr not) s = as_was count (still_begun not.1) same (same_named e count event happens none) s

    -- ---- a node takes it

    module _ (x : AnyNode) (took : Took (moment e count) event x) where
      abbrev after : AnyNode
      after = (any_step x (what_of event)).node

      abbrev these : ℕ → Type 0
      these = MayBeAnswered (items_in x) (what_of event) (items_in after)

      here : node_named (moment e count) me ≡ Some x
      here = its_there e count event happens x took

      known : Known e me x
      known = node_known e count me x here

      closes : Closes me these xs (IsOpen (items_in after))
      closes =
          subst (λ acts. Closes me these acts (IsOpen (items_in after))) (sym (its_acts e count event happens x took))
          (subst (λ n. Closes n these (any_step x (what_of event)).acts (IsOpen (items_in after))) known.named
          (each_keeps x (what_of event) known.waits).ledger.closes)

      -- what is answered has begun
      bound : (item : ℕ) (a : Answer) → answers_in xs ≡ act.Answered me item a ∷ [] → (1 ≤ item) × (item ≤ its me (begun_at (suc count)))
      bound item a are =
          let o : IsOwnItem e count event me item =
          once.own count event happens me item a (answer_among xs (act.Answered me item a) (subst (In (act.Answered me item a)) (sym are) (inl refl))) in
          (o.above, o.begun)

      not_left : ((item : ℕ) → IsOpen (items_in after) item → ⊥) → (items_in after).unanswered ≡ None
      not_left none = by (items_in after).unanswered refl
        where
          by : (o : Option ℕ) → (items_in after).unanswered ≡ o → (items_in after).unanswered ≡ None
          by None is = is
          by (Some item) is = absurd (none item is)

      -- no other node has an open item
      abbrev Others : Type 0
      Others = (other : NodeId) (y : AnyNode) → node_named (moment e count) other ≡ Some y → (other ≡ me → ⊥) → (items_in y).unanswered ≡ None

      free_then : Others → (items_in after).unanswered ≡ None → NoneIsOpen (moment e (suc count))
      free_then others free =
          all_named e count event happens x took (λ name y. (items_in y).unanswered ≡ None) free (λ name y apart fact. others name y fact apart)

      rests_then : Others → (items_in after).unanswered ≡ None → Turned (begun_at (suc count)) (answers_at (suc count)) → State (suc count)
      rests_then others free turned = inl (record { none = free_then others free; turned = turned })

      -- The item that began behind these nodes, of this one, may be answered, and no other: what comes of it.
      module _ (others : Others) (before : List NodeId) (begun : begun_at (suc count) ≡ before ++ me ∷ []) (turned : Turned before (answers_at count)) where
        unanswered_turned : answers_at (suc count) ≡ answers_at count → Turned (begun_at (suc count)) (answers_at (suc count))
        unanswered_turned same =
            subst (λ ys. Turned (begun_at (suc count)) ys) (sym same)
            (subst (λ ns. Turned ns (answers_at count)) (sym begun) (turned_out before (answers_at count) me turned))

        silent_then : answers_in xs ≡ [] → (o : Option ℕ) → (items_in after).unanswered ≡ o → State (suc count)
        silent_then silent None free = rests_then others free (unanswered_turned (unanswered silent))
        silent_then silent (Some item) opened = inr (record {
          name = me;
          x = after;
          there = its_behind e count event happens x took;
          item = item;
          opened = opened;
          before = before;
          begun = begun;
          turned = subst (λ ys. Turned before ys) (sym (unanswered silent)) turned;
          others = all_named e count event happens x took (λ name y. (name ≡ me → ⊥) → (items_in y).unanswered ≡ None) (λ apart. absurd (apart refl))
              (λ name y differs fact apart. others name y fact apart);
        })

        answered_turned : (item : ℕ) (a : Answer) → answers_in xs ≡ act.Answered me item a ∷ [] → Turned (begun_at (suc count)) (answers_at (suc count))
        answered_turned item a are =
            let b = bound item a are in
            let more = its_more me before me in
            let one : one_if (same_node me me) ≡ 1 = ap one_if (same_node_itself me) in
            let all : its me (begun_at (suc count)) ≡ its me (before ++ me ∷ []) = ap (its me) begun in
            let most = b.1 in
            subst (λ ys. Turned (begun_at (suc count)) ys) (sym (answers_then ∙ ap (λ ys. answers_at count ++ ys) are))
            (subst (λ ns. Turned ns (answers_at count ++ act.Answered me item a ∷ [])) (sym begun)
            (turned_more before (answers_at count) me item a b.0 (omega arith) turned))

        one_then : (item : ℕ) → ((i : ℕ) → these i → i ≡ item) → State (suc count)
        one_then item only = by (closes_one me item these (IsOpen (items_in after)) only xs closes)
          where
            by : ClosesOne me item xs (IsOpen (items_in after)) → State (suc count)
            by (inl silent) = silent_then silent (items_in after).unanswered refl
            by (inr (a, (are, none))) = rests_then others (not_left none) (answered_turned item a are)

        none_then : ((i : ℕ) → these i → ⊥) → State (suc count)
        none_then none =
            let c = closes_none me these (IsOpen (items_in after)) none xs closes in
            rests_then others (not_left c.1) (unanswered_turned (unanswered c.0))

      -- none was open
      module _ (s : RestsAt count) where
        not_open : (item : ℕ) → IsOpen (items_in x) item → ⊥
        not_open item opened = no_item item (sym (s.none me x here) ∙ opened)

        rests_still : (what_of event ≡ whats.Begin → ⊥) → begun_in (event ∷ []) ≡ [] → State (suc count)
        rests_still not none =
            let c = closes_none me these (IsOpen (items_in after)) nothing_may xs closes in
            rests_then (λ other y fact apart. s.none other y fact) (not_left c.1)
            (subst (λ ys. Turned (begun_at (suc count)) ys) (sym (unanswered c.0))
            (subst (λ ns. Turned ns (answers_at count)) (sym (still_begun none)) s.turned))
          where
            nothing_may : (item : ℕ) → these item → ⊥
            nothing_may item (inl opened) = not_open item opened
            nothing_may item (inr begun) = not begun.0

        rests_begun : what_of event ≡ whats.Begin → State (suc count)
        rests_begun begins = by (next_item (items_in x)) refl
          where
            by : (o : Option ℕ) → next_item (items_in x) ≡ o → State (suc count)
            by None next = none_then (λ other y fact apart. s.none other y fact) (begun_at count) (one_begun begins) s.turned nothing_may
              where
                nothing_may : (item : ℕ) → these item → ⊥
                nothing_may item (inl opened) = not_open item opened
                nothing_may item (inr begun) = no_item item (sym next ∙ begun.1.0)
            by (Some number) next = one_then (λ other y fact apart. s.none other y fact) (begun_at count) (one_begun begins) s.turned number only
              where
                only : (item : ℕ) → these item → item ≡ number
                only item (inl opened) = absurd (not_open item opened)
                only item (inr begun) = one_item item number (sym begun.1.0 ∙ next)

        rests_turn : State (suc count)
        rests_turn = by (begins_or_not event)
          where
            by : (what_of event ≡ whats.Begin) ⊎ ((what_of event ≡ whats.Begin → ⊥) × (begun_in (event ∷ []) ≡ [])) → State (suc count)
            by (inl begins) = rests_begun begins
            by (inr not) = rests_still not.0 not.1

      -- one was
      module _ (s : WaitsAt count) (not : what_of event ≡ whats.Begin → ⊥) (none : begun_in (event ∷ []) ≡ []) where
        -- of another node
        beside : (s.name ≡ me → ⊥) → State (suc count)
        beside apart =
            let free : (items_in x).unanswered ≡ None = s.others me x here (λ same. apart (sym same)) in
            let c = closes_none me these (IsOpen (items_in after)) (nothing_may free) xs closes in
            inr (record {
              name = s.name;
              x = s.x;
              there = others_named e count event happens x took s.name apart ∙ s.there;
              item = s.item;
              opened = s.opened;
              before = s.before;
              begun = still_begun none ∙ s.begun;
              turned = subst (λ ys. Turned s.before ys) (sym (unanswered c.0)) s.turned;
              others = all_named e count event happens x took (λ name y. (name ≡ s.name → ⊥) → (items_in y).unanswered ≡ None) (λ other. not_left c.1)
                  (λ name y differs fact other. s.others name y fact other);
            })
          where
            nothing_may : (items_in x).unanswered ≡ None → (item : ℕ) → these item → ⊥
            nothing_may free item (inl opened) = no_item item (sym free ∙ opened)
            nothing_may free item (inr begun) = not begun.0

        -- of this one
        inside : s.name ≡ me → State (suc count)
        inside same =
            one_then (λ other y fact apart. s.others other y fact (λ is. apart (is ∙ same))) s.before
            (still_begun none ∙ (s.begun ∙ ap (λ n. s.before ++ n ∷ []) same)) s.turned s.item only
          where
            its_open : (items_in x).unanswered ≡ Some s.item
            its_open =
                ap (λ (y : AnyNode). (items_in y).unanswered) (one_node x s.x (sym here ∙ (ap (node_named (moment e count)) (sym same) ∙ s.there))) ∙ s.opened

            only : (item : ℕ) → these item → item ≡ s.item
            only item (inl opened) = one_item item s.item (sym opened ∙ its_open)
            only item (inr begun) = absurd (not begun.0)

        waits_turn : State (suc count)
        waits_turn = by (same_node s.name me) refl
          where
            by : (t : Bool) → same_node s.name me ≡ t → State (suc count)
            by true same = inside (same_node_is s.name me same)
            by false apart = beside (not_same s.name me apart)

      taken : State count → State (suc count)
      taken (inl s) = rests_turn s
      taken (inr s) = by (begins_or_not event)
        where
          by : (what_of event ≡ whats.Begin) ⊎ ((what_of event ≡ whats.Begin → ⊥) × (begun_in (event ∷ []) ≡ [])) → State (suc count)
          by (inl begins) = absurd (still_open s begins)
          by (inr not) = waits_turn s not.0 not.1

    next : State count → State (suc count)
    next s = by (takes_or_not (moment e count) event)
      where
        by : NothingHappens (moment e count) event ⊎ ((x : AnyNode) × Took (moment e count) event x) → State (suc count)
        by (inl none) = nothing none s
        by (inr (x, took)) = taken x took s

  -- ---- from the start on

  first_state : State 0
  first_state = inl (record {
    none = none_first e;
    turned = inl (subst (λ ns. AnswersBy [] ns (answers_at 0)) (sym (ap begun_in (take_none e.events))) (ap answers_in (first_acts e)));
  })

  then_state : (count : ℕ) → State count → State (suc count)
  then_state count s = by (slice_get e.events count) refl
    where
      by : (o : Option Event) → slice_get e.events count ≡ o → State (suc count)
      by (Some event) happens = next count event happens s
      by None gone =
          let same : moment e (suc count) ≡ moment e count = moment_past e count gone in
          as_was count (ap begun_in (take_past e.events count gone)) (ap (λ (v : Run AnyNode). answers_in v.acts) same)
          (λ name. ap (λ (v : Run AnyNode). node_named v name) same) s

  state_at : (count : ℕ) → State count
  state_at zero = first_state
  state_at (suc count) = then_state count (state_at count)

-- ---- the end

module _ (e : Estate AnyNode) (run : IsRun any_step any_start e.script e.events e.world) (alone : BeginsAlone e) (once : ItemsAnsweredOnce e)
    (order : begun_in e.events ≡ actors_of e.script.lines) (closed : open_items e ≡ 0) where
  abbrev answers : List Act
  answers = answers_in e.world.acts

  at_end : Turned (begun_in e.events) answers → AnswersBy [] (actors_of e.script.lines) answers
  at_end (inl by) = subst (λ ns. AnswersBy [] ns answers) order by
  at_end (inr fewer) = (let most = enough e order closed in absurd (omega arith))

  pub all_by : AnswersBy [] (actors_of e.script.lines) answers
  all_by = by (state_at e alone once (length e.events))
    where
      last : answers_in (moment e (length e.events)).acts ≡ answers
      last = ap (λ (v : Run AnyNode). answers_in v.acts) (last_moment e run)

      whole : begun_in (take (length e.events) e.events) ≡ begun_in e.events
      whole = ap begun_in (take-length e.events)

      at_last : (ns : List NodeId) → Turned ns (answers_in (moment e (length e.events)).acts) → Turned ns answers
      at_last ns turned = subst (λ ys. Turned ns ys) last turned

      by : State e alone once (length e.events) → AnswersBy [] (actors_of e.script.lines) answers
      by (inl s) = at_end (subst (λ ns. Turned ns answers) whole (at_last (begun_in (take (length e.events) e.events)) s.turned))
      by (inr s) =
          at_end (subst (λ ns. Turned ns answers) (sym s.begun ∙ whole) (turned_out s.before answers s.name (at_last s.before s.turned)))

pub alone_is_in_line : EachItemIsAnsweredOnce → EachRunAloneIsInLine
alone_is_in_line each e run few order alone done closed =
    all_in_line e.script.lines few e.world.acts (all_by e run alone (each e run) order closed) (each e run).once done
