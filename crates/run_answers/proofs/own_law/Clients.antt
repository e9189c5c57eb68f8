-- What a client acts in one event it acts for its items.
use Rattle.std.proofs.Common.{◌≡◌, ℕ, true, false, List, [], ◌∷◌, ◌++◌, append-nil, Option, Some, None, is_some, inl, inr, refl, sym, ap, subst, ◌∙◌}
use Rattle.client_call.specs.declared.call.Call.{Call}
use Rattle.client_call.specs.declared.call.Going.{Going}
use Rattle.client_call.specs.declared.call.Going.TheVariants.{On, Ends}
use Rattle.client_node.specs.declared.client.Client.{Client}
use Rattle.client_node.specs.declared.phase.Phase.{Phase}
use Rattle.client_node.specs.declared.phase.Phase.TheVariants.{Down, Opening, Serving as Serves}
use Rattle.client_node.specs.Crash.{fall_of, flight_of}
use Rattle.client_node.specs.Phases.{Went_to, phase_after, begins_item, client_has_room, down_begins, happens, item_begins, lasting_of, on_begin, on_deliver, client_tick, opened_on, opening_begins, serving_begins, takes, then_runs, wish_of, with_begun}
use Rattle.client_running.specs.Opens.{begin_call, call_at, opens}
use Rattle.client_call.specs.declared.call.Plan.TheVariants.{One}
use Rattle.client_running.specs.Blocks.{is_settled}
use Rattle.client_running.specs.Running.{running_go_on, most_steps, run}
use Rattle.client_serving.specs.declared.lasting.Lasting.{Lasting}
use Rattle.client_serving.specs.declared.serving.Serving.{Serving}
use Rattle.client_serving.specs.Flights.{held_at}
use Rattle.client_serving.specs.Packets.{serving_take, on_tick}
use Rattle.client_serving.specs.Sends.{Done, gives}
use Rattle.log_owner.proofs.Behaving as behaving
use Rattle.log_owner.specs.Behaves.{Behaves, MayDo}
use Rattle.log_owner.specs.declared.opened.Progress.{Progress}
use Rattle.log_owner.specs.declared.opened.Progress.TheVariants as progress
use Rattle.log_owner.specs.declared.opening.Opening as openings
use Rattle.log_owner.specs.Opening as opening
use Rattle.log_owner.specs.Opening.{Went}
use Rattle.log_owner.specs.Sending.{push_all}
use Rattle.node_base.specs.Beginning.{answers_unanswered, items_begin, next_item, items_wait, work_at}
use Rattle.node_base.specs.declared.effects.Effect.{Effect}
use Rattle.node_base.specs.declared.effects.Effect.TheVariants.{Send, Answer as Answers, Lose, Does}
use Rattle.node_base.specs.declared.items.Items.{Items}
use Rattle.node_base.specs.Shape.{is_well_formed}
use Rattle.serving_moves.proofs.call_moves.Arriving.{packet_goes, tick_goes}
use Rattle.serving_moves.proofs.call_moves.Keeping.{all_pushed_still}
use Rattle.serving_moves.specs.call_moves.Moves.{Comes}
use Rattle.serving_moves.specs.call_moves.Moves.Comes.{Moved}
use Rattle.version_model.specs.declared.act.Act.{Act}
use Rattle.version_model.specs.declared.act.Act.TheVariants as act
use Rattle.version_model.specs.declared.answer.Answer.{Answer}
use Rattle.version_model.specs.declared.answer.Answer.TheVariants as answer
use Rattle.version_model.specs.declared.work.Work.{Work}
use Rattle.version_model.specs.declared.work.Work.TheVariants as work
use Rattle.wire_msg.specs.declared.packet.Do.{Do}
use Rattle.wire_msg.specs.declared.packet.Do.TheVariants.{Begin, Deliver, Tick}
use Rattle.wire_msg.specs.declared.packet.Packet.{Packet}
use Rattle.xfs_base.proofs.Booleans.{by_test}
use Rattle.xfs_base.specs.declared.block.BlockId.{BlockId}
use Rattle.xfs_base.specs.declared.node.NodeId.{NodeId}
use Rattle.xfs_base.specs.declared.node.NodeId.TheVariants as nodes
use Rattle.xfs_base.specs.Steps.{saying, still}
use Rattle.run_answers.proofs.once_law.Items.{begun_open, begun_works}
use Rattle.run_answers.proofs.own_law.Filing.{acts_then, answered_are, behind_still, its_acts}
use Rattle.run_answers.proofs.own_law.Moving.{HasLost, IsCalm, Went as Moved_so, comes, none_kept}
use Rattle.run_answers.proofs.own_law.Running.{Stretched, going_runs, items_after, no_runs, open_runs, sync_runs}
use Rattle.run_answers.specs.own_law.Events.{EachClientActsForItems}
use Rattle.headline.specs.Calls.{Acts, CallHasItem, EventStretch, IsAnswerTo, IsBegun, IsHeldSince, IsRefusal, Stretch, SyncDrains, answered_so, call_in, held_in, open_in, told}
use Rattle.headline.specs.Calls.Acts.{Rests, Passes, AtOnce, GoesOn, Begins, Loses, Falls, Stops, Returns}
use Rattle.headline.specs.Calls.EventStretch.{Awaits, Follows}
use Rattle.headline.specs.Calls.Stretch.{Waits, Told}
use Rattle.client_call.specs.Calls.{plan_answered}
use Rattle.client_call.specs.declared.call.Plan.{Plan}
use Rattle.file_plan.specs.declared.block_call.BlockCall.{BlockCall}
use Rattle.file_plan.specs.declared.block_call.BlockCall.TheVariants.{Sync}
use Rattle.std.specs.List.{AllByRecursion}
use Rattle.std.specs.Prelude.{map}
use Rattle.serving_moves.proofs.item_moves.Keeping.{no_item}
use Rattle.token_client.specs.declared.held.Held.{Held}
use Rattle.token_client.specs.State.{dirty_in}
use Rattle.version_model.specs.declared.act.Fall.{Fall}
use Rattle.headline.specs.Items.{asked_at}
use Rattle.log_owner.specs.declared.ended.Owner.{Owner}
use Rattle.client_node.specs.Phases.{owner_of}
use Rattle.client_serving.specs.Lasting.{live_on}

one_call : (a b : Call) → Some a ≡ Some b → a ≡ b
one_call a b fact = cc

no_call : (call : Call) → None ≡ Some call → ⊥
no_call call fact = cc

-- none is open
pub not_open : (o : Option ℕ) → is_some o ≡ false → o ≡ None
not_open None fact = refl
not_open (Some item) fact = absurd cc

-- a call that has its item is over once none is open
pub call_over : (s : Serving) → CallHasItem (Serves s) → s.lasting.items.unanswered ≡ None → s.call ≡ None
call_over s sound free = by s.call refl
  where
    by : (o : Option Call) → s.call ≡ o → o ≡ None
    by None fact = refl
    by (Some call) fact = (let has = sound call fact in absurd (no_item has.0 (sym free ∙ has.1)))

module _ (client : ℕ) where
  abbrev me : NodeId
  me = nodes.Client client

  -- what an event makes of a phase
  pub record Turned (p : Phase) (what : Do) (w : Went_to) : Type 0 where
    pub acts : Acts client p what (its_acts me w.outs) w.state
    pub sound : CallHasItem w.state

  turned : (p : Phase) (what : Do) (w : Went_to) (acts : List Act) → its_acts me w.outs ≡ acts → Acts client p what acts w.state → CallHasItem w.state
      → Turned p what w
  turned p what w acts are so sound = record { acts = subst (λ (xs : List Act). Acts client p what xs w.state) (sym are) so; sound = sound }

  none_sound : (p : Phase) → call_in p ≡ None → CallHasItem p
  none_sound p none call fact = absurd (no_call call (sym none ∙ fact))

  -- nothing comes of it
  unmoved : (p : Phase) (what : Do) → CallHasItem p → Turned p what (still p)
  unmoved p what sound = by (call_in p) refl
    where
      by : (o : Option Call) → call_in p ≡ o → Turned p what (still p)
      by None is = turned p what (still p) [] refl (Rests is is) sound
      by (Some call) is =
          turned p what (still p) [] refl
          (GoesOn call is (λ new fact. refl) (λ one sync over. absurd (no_call call (sym over ∙ is))) (subst (EventStretch client (open_in p) (held_in p) (On call) []) (sym is) (Awaits refl refl))) sound

  -- a reading more or less leaves where a call stands
  pub reads_on : {item : Option ℕ} {acts : List Act} {after : Option Call} (call new : Call) → new.plan ≡ call.plan → new.step ≡ call.step
      → Stretch client item (On new) acts after → Stretch client item (On call) acts after
  reads_on call new plan step (Waits p q) = Waits (p ∙ plan) (q ∙ step)
  reads_on {item} {acts} {after} call new plan step (Told {acts = rest} a fits st) =
      subst (λ (t : BlockCall). Stretch client item (On call) (told client t a ++ rest) after) (sym step)
      (Told a (subst (λ (t : BlockCall). IsAnswerTo t a) step fits)
      (subst (λ (p : Plan). Stretch client item (plan_answered p a) rest after) plan st))

  -- and so it is in an event
  event_on : {item : Option ℕ} {now : BlockId → Held} {acts : List Act} {after : Option Call} (call new : Call) → new.plan ≡ call.plan → new.step ≡ call.step
      → EventStretch client item now (On new) acts after → EventStretch client item now (On call) acts after
  event_on call new plan step (Awaits p q) = Awaits (p ∙ plan) (q ∙ step)
  event_on {item} {now} {acts} {after} call new plan step (Follows {acts = rest} a fits since st) =
      subst (λ (t : BlockCall). EventStretch client item now (On call) (told client t a ++ rest) after) (sym step)
      (Follows a (subst (λ (t : BlockCall). IsAnswerTo t a) step fits) (subst (λ (t : BlockCall). IsHeldSince now t a rest) step since)
      (subst (λ (p : Plan). EventStretch client item now (plan_answered p a) rest after) plan st))

  -- ---- while it serves

  -- behind a stretch a call that is open has its item
  stretch_sound : (s t : Serving) → t.lasting.items ≡ items_after t.call s.lasting.items → (item : ℕ) → s.lasting.items.unanswered ≡ Some item
      → CallHasItem (Serves t)
  stretch_sound s t items item waits call fact =
      (item, ap (λ (i : Items). i.unanswered) (items ∙ ap (λ (o : Option Call). items_after o s.lasting.items) fact) ∙ waits)

  rests : (s : Serving) (what : Do) → s.call ≡ None → Turned (Serves s) what (still (Serves s))
  rests s what none = turned (Serves s) what (still (Serves s)) [] refl (Rests none none) (none_sound (Serves s) none)

  sync_drains : (t : Serving) (call : Call) → t.call ≡ Some call → call.plan ≡ One → call.step ≡ Sync → (run t).state.call ≡ None
      → is_settled (run t).state ≡ true
  unfolding run
  sync_drains t call is one sync over = sync_runs most_steps t call is one sync over

  going_drains : (s : Serving) (g : Going) → SyncDrains g (Serves (run (running_go_on s g).state).state)
  unfolding running_go_on
  going_drains s (On call) = λ one sync over. sync_drains (record s { call = Some call }) call refl one sync over
  going_drains s (Ends a) = tt

  -- what came is done, and then the open call runs
  module _ (s : Serving) (what : Do) (its : s.lasting.number ≡ client) (sound : CallHasItem (Serves s)) (d : Done) where
    none_runs : IsCalm s d → s.call ≡ None → Turned (Serves s) what (then_runs d)
    none_runs c none =
        turned (Serves s) what (then_runs d) [] (behind_still me d.outs (run d.state).outs c.still ∙ ap (λ (x : Done). its_acts me x.outs) quiet)
        (Rests none after) (none_sound (Serves (run d.state).state) after)
      where
        over : d.state.call ≡ None
        over = none_kept s d.state c.kept none

        quiet : run d.state ≡ still d.state
        quiet = no_runs client d.state over

        after : (run d.state).state.call ≡ None
        after = ap (λ (x : Done). x.state.call) quiet ∙ over

    call_runs : IsCalm s d → (call : Call) → s.call ≡ Some call → Turned (Serves s) what (then_runs d)
    call_runs c call is =
        turned (Serves s) what (then_runs d) (its_acts me (run d.state).outs) (behind_still me d.outs (run d.state).outs c.still)
        (GoesOn call is
        (λ n fact. ap (λ (i : Items). i.unanswered) (st.items ∙ (ap (λ (o : Option Call). items_after o d.state.lasting.items) fact ∙ c.kept.items))) drains same)
        (stretch_sound d.state (run d.state).state st.items (sound call is).0 (ap (λ (i : Items). i.unanswered) c.kept.items ∙ (sound call is).1))
      where
        new : (n : Call) × (d.state.call ≡ Some n)
        new = c.kept.lasts call is

        st : Stretched client d.state (On new.0) (run d.state)
        st = open_runs client d.state new.0 (c.kept.number ∙ its) new.1

        stays : (old : Call) × ((s.call ≡ Some old) × ((new.0.plan ≡ old.plan) × (new.0.step ≡ old.step)))
        stays = c.kept.calls new.0 new.1

        one : stays.0 ≡ call
        one = one_call stays.0 call (sym stays.1.0 ∙ is)

        drains : SyncDrains (On call) (Serves (run d.state).state)
        drains plan step over =
            sync_drains d.state new.0 new.1 ((stays.1.1.0 ∙ ap (λ (x : Call). x.plan) one) ∙ plan) ((stays.1.1.1 ∙ ap (λ (x : Call). x.step) one) ∙ step) over

        same : EventStretch client s.lasting.items.unanswered (held_at (run d.state).state) (On call) (its_acts me (run d.state).outs) (run d.state).state.call
        same =
            subst
            (λ (items : Items). EventStretch client items.unanswered (held_at (run d.state).state) (On call) (its_acts me (run d.state).outs) (run d.state).state.call)
            c.kept.items
            (event_on call new.0 (stays.1.1.0 ∙ ap (λ (x : Call). x.plan) one) (stays.1.1.1 ∙ ap (λ (x : Call). x.step) one) st.acts)

    lost_runs : HasLost me s d → Turned (Serves s) what (then_runs d)
    lost_runs l =
        turned (Serves s) what (then_runs d) (answered_so me s.lasting.items.unanswered (answer.Lost l.name))
        (ap (λ (x : Done). its_acts me (d.outs ++ x.outs)) quiet ∙ (ap (its_acts me) (append-nil d.outs) ∙ l.acts))
        (Loses l.name after (ap (λ (x : Done). x.state.lasting.items.unanswered) quiet ∙ ap (λ (i : Items). i.unanswered) l.items))
        (none_sound (Serves (run d.state).state) after)
      where
        quiet : run d.state ≡ still d.state
        quiet = no_runs client d.state l.over

        after : (run d.state).state.call ≡ None
        after = ap (λ (x : Done). x.state.call) quiet ∙ l.over

    runs_so : Comes s d → Turned (Serves s) what (then_runs d)
    runs_so come = by (comes me s d come) s.call refl
      where
        by : Moved_so me s d → (o : Option Call) → s.call ≡ o → Turned (Serves s) what (then_runs d)
        by (inr l) o is = lost_runs l
        by (inl c) None is = none_runs c is
        by (inl c) (Some call) is = call_runs c call is

  -- ---- while it opens its log

  opening_none : (owner : Owner) (outs : List Effect) → AllByRecursion (MayDo owner) outs → its_acts me outs ≡ []
  opening_none owner [] all = refl
  opening_none owner (Send to said ∷ outs) all = opening_none owner outs all.1
  opening_none owner (Answers item a ∷ outs) all = absurd all.0
  opening_none owner (Lose name ∷ outs) all = opening_none owner outs all.1
  opening_none owner (Does (act.Filed seg) ∷ outs) all = opening_none owner outs all.1
  opening_none owner (Does _ ∷ outs) all = absurd all.0

  behind_opening : (owner : Owner) (xs ys : List Effect) → AllByRecursion (MayDo owner) xs → its_acts me (xs ++ ys) ≡ its_acts me ys
  behind_opening owner xs ys all = acts_then me xs ys ∙ ap (λ (acts : List Act). acts ++ its_acts me ys) (opening_none owner xs all)

  opened_so : (l : Lasting) (o : openings.Opening) (what : Do) (capacity : ℕ) → l.number ≡ client → (w : Went) → Behaves o.known.owner w
      → Turned (Opening l o) what (opened_on l capacity w)
  opened_so l o what capacity its w b = by w.progress
    where
      m : Lasting
      m = record l { questions = w.questions }

      by : (x : Progress) → Turned (Opening l o) what (saying w.effects (phase_after m capacity x))
      by (progress.Opening r) =
          turned (Opening l o) what (saying w.effects (phase_after m capacity (progress.Opening r))) [] (behind_opening o.known.owner w.effects [] b.does)
          (Rests refl refl) (none_sound (Opening m r) refl)
      by (progress.Opened r) =
          let pushed : List Effect = push_all r.promised.managers r.feed in
          let went : Went_to = phase_after m capacity (progress.Opened r) in
          turned (Opening l o) what (saying w.effects went) (act.Back client r.chain ∷ answered_so me l.items.unanswered answer.Done)
          (behind_opening o.known.owner w.effects went.outs b.does
          ∙ (ap (λ (acts : List Act). act.Back l.number r.chain ∷ acts)
          (behind_still me pushed (answers_unanswered l.items.unanswered answer.Done) (all_pushed_still r.promised.managers r.feed)
          ∙ answered_are me l.items.unanswered answer.Done)
          ∙ ap (λ (n : ℕ). act.Back n r.chain ∷ answered_so me l.items.unanswered answer.Done) its))
          (Returns r.chain tt tt refl refl) (none_sound went.state refl)
      by (progress.Lost name) =
          let went : Went_to = phase_after m capacity (progress.Lost name) in
          turned (Opening l o) what (saying w.effects went) (answered_so me l.items.unanswered (answer.Lost name))
          (behind_opening o.known.owner w.effects went.outs b.does ∙ answered_are me l.items.unanswered (answer.Lost name)) (Loses name refl refl)
          (none_sound went.state refl)

  -- ---- an item begins

  -- what is cut, and the item by which it is
  pub cut_are : (o : Option ℕ) (number : ℕ)
      → its_acts me (answers_unanswered o answer.Cut ++ Answers number answer.Done ∷ []) ≡ answered_so me o answer.Cut ++ act.Answered me number answer.Done ∷ []
  cut_are None number = refl
  cut_are (Some item) number = refl

  module _ (l : Lasting) (number : ℕ) (next : next_item l.items ≡ Some number) where
    abbrev m : Lasting
    m = record l { items = items_begin l.items }

    asks_same : (wanted : Option Work) → work_at m.items number ≡ wanted → work_at l.items number ≡ wanted
    asks_same wanted asked = ap (λ (ws : List Work). asked_at ws number) (sym (begun_works l.items)) ∙ asked

    down_so : (servers : ℕ) (wanted : Option Work) → work_at m.items number ≡ wanted → Turned (Down l) Begin (down_begins servers m number (wish_of wanted))
    down_so servers wanted asked = by wanted asked
      where
        is : (w : Option Work) → work_at m.items number ≡ w → IsBegun (Down l) Begin number w
        is w e = record { begins = refl; next = next; asks = asks_same w e }

        down : (w : Option Work) → work_at m.items number ≡ w → Turned (Down l) Begin (record { state = Down m; outs = Answers number answer.Down ∷ [] })
        down w e =
            turned (Down l) Begin (record { state = Down m; outs = Answers number answer.Down ∷ [] }) (act.Answered me number answer.Down ∷ []) refl
            (AtOnce number w answer.Down tt (is w e) refl (begun_open l.items)) (none_sound (Down m) refl)

        by : (w : Option Work) → work_at m.items number ≡ w → Turned (Down l) Begin (down_begins servers m number (wish_of w))
        by None e = down None e
        by (Some (work.Crash node)) e = down (Some (work.Crash node)) e
        by (Some (work.Restart node)) e =
            let n : Lasting = live_on m number in
            let went : Went = opening.on_start (owner_of n) servers n.questions in
            turned (Down l) Begin (down_begins servers m number (wish_of (Some (work.Restart node)))) [] (opening_none (owner_of n) went.effects (behaving.begin_so (owner_of n) servers n.questions).does)
            (Rests refl refl) (none_sound (down_begins servers m number (wish_of (Some (work.Restart node)))).state refl)
        by (Some other) e = down (Some other) e

    opening_so : (o : openings.Opening) (wanted : Option Work) → work_at m.items number ≡ wanted
        → Turned (Opening l o) Begin (opening_begins m o number (wish_of wanted))
    opening_so o wanted asked = by wanted asked
      where
        is : (w : Option Work) → work_at m.items number ≡ w → IsBegun (Opening l o) Begin number w
        is w e = record { begins = refl; next = next; asks = asks_same w e }

        at_once : (w : Option Work) (a : Answer) → IsRefusal a → work_at m.items number ≡ w
            → Turned (Opening l o) Begin (record { state = Opening m o; outs = Answers number a ∷ [] })
        at_once w a so e =
            turned (Opening l o) Begin (record { state = Opening m o; outs = Answers number a ∷ [] }) (act.Answered me number a ∷ []) refl
            (AtOnce number w a so (is w e) refl (begun_open l.items)) (none_sound (Opening m o) refl)

        by : (w : Option Work) → work_at m.items number ≡ w → Turned (Opening l o) Begin (opening_begins m o number (wish_of w))
        by None e = at_once None answer.Down tt e
        by (Some (work.Crash node)) e =
            turned (Opening l o) Begin (opening_begins m o number (wish_of (Some (work.Crash node))))
            (answered_so me l.items.unanswered answer.Cut ++ act.Answered me number answer.Done ∷ [])
            (cut_are m.items.unanswered number
            ∙ ap (λ (x : Option ℕ). answered_so me x answer.Cut ++ act.Answered me number answer.Done ∷ []) (begun_open l.items))
            (Stops number (Some (work.Crash node)) tt (is (Some (work.Crash node)) e) tt refl)
            (none_sound (opening_begins m o number (wish_of (Some (work.Crash node)))).state refl)
        by (Some (work.Restart node)) e = at_once (Some (work.Restart node)) answer.Up tt e
        by (Some other) e = at_once (Some other) answer.Down tt e

  module _ (s : Serving) (its : s.lasting.number ≡ client) (sound : CallHasItem (Serves s)) (number : ℕ) (next : next_item s.lasting.items ≡ Some number) where
    abbrev t : Serving
    t = record s { lasting = record s.lasting { items = items_begin s.lasting.items } }

    is_begun : (w : Option Work) → work_at t.lasting.items number ≡ w → IsBegun (Serves s) Begin number w
    is_begun w e = record { begins = refl; next = next; asks = asks_same s.lasting number next w e }

    t_sound : CallHasItem (Serves t)
    t_sound call fact = (let has = sound call fact in (has.0, begun_open s.lasting.items ∙ has.1))

    at_once : (w : Option Work) (a : Answer) → IsRefusal a → work_at t.lasting.items number ≡ w
        → Turned (Serves s) Begin (record { state = Serves t; outs = Answers number a ∷ [] })
    at_once w a so e =
        turned (Serves s) Begin (record { state = Serves t; outs = Answers number a ∷ [] }) (act.Answered me number a ∷ []) refl
        (AtOnce number w a so (is_begun w e) refl (begun_open s.lasting.items)) t_sound

    abbrev as_phase : Done → Went_to
    as_phase d = record { state = Serves d.state; outs = d.outs }

    begins_so : (w : Option Work) → work_at t.lasting.items number ≡ w → s.lasting.items.unanswered ≡ None
        → Turned (Serves s) Begin (as_phase (begin_call t number (call_at t number w)))
    begins_so w e free = by (call_at t number w) refl
      where
        u : Serving
        u = record t { lasting = record t.lasting { items = items_wait t.lasting.items number } }

        by : (o : Option Going) → call_at t number w ≡ o → Turned (Serves s) Begin (as_phase (begin_call t number o))
        by None made =
            turned (Serves s) Begin (record { state = Serves t; outs = Answers number answer.Done ∷ [] }) (act.Answered me number answer.Done ∷ []) refl
            (Passes number w refl (is_begun w e) free made refl (begun_open s.lasting.items)) t_sound
        by (Some going) made =
            let d : Done = begin_call t number (Some going) in
            let st : Stretched client u going d = going_runs client u going its (call_over s sound free) in
            turned (Serves s) Begin (as_phase d) (its_acts me d.outs) refl (Begins number w going refl (is_begun w e) free made
            (λ n fact. ap (λ (i : Items). i.unanswered) (st.items ∙ ap (λ (o : Option Call). items_after o u.lasting.items) fact)) (going_drains u going) st.acts)
            (stretch_sound u d.state st.items number refl)

    opens_so : (w : Option Work) → work_at t.lasting.items number ≡ w → Turned (Serves s) Begin (as_phase (opens t number))
    unfolding opens
    opens_so w e =
        by_test (λ (d : Done). Turned (Serves s) Begin (as_phase d)) (is_some t.lasting.items.unanswered) (gives t (Answers number answer.Busy ∷ []))
        (begin_call t number (call_at t number (work_at t.lasting.items number)))
        (λ _. at_once w answer.Busy tt e)
        (λ fact. subst (λ (x : Option Work). Turned (Serves s) Begin (as_phase (begin_call t number (call_at t number x)))) (sym e)
        (begins_so w e (sym (begun_open s.lasting.items) ∙ not_open t.lasting.items.unanswered fact)))

    serving_so : (wanted : Option Work) → work_at t.lasting.items number ≡ wanted → Turned (Serves s) Begin (serving_begins t number (wish_of wanted))
    serving_so None e = opens_so None e
    serving_so (Some (work.Crash node)) e =
        let flight : Option (ℕ × ℕ) = flight_of t.log.flight in
        let falls : List Fall = map (fall_of t) (dirty_in t.tokens.blocks) in
        turned (Serves s) Begin (serving_begins t number (wish_of (Some (work.Crash node))))
        (act.Fell client flight falls ∷ answered_so me s.lasting.items.unanswered answer.Cut ++ act.Answered me number answer.Done ∷ [])
        (ap (λ (acts : List Act). act.Fell s.lasting.number flight falls ∷ acts)
        (cut_are t.lasting.items.unanswered number
        ∙ ap (λ (x : Option ℕ). answered_so me x answer.Cut ++ act.Answered me number answer.Done ∷ []) (begun_open s.lasting.items))
        ∙ ap (λ (n : ℕ). act.Fell n flight falls ∷ answered_so me s.lasting.items.unanswered answer.Cut ++ act.Answered me number answer.Done ∷ []) its)
        (Falls number (Some (work.Crash node)) flight falls tt (is_begun (Some (work.Crash node)) e) tt refl)
        (none_sound (serving_begins t number (wish_of (Some (work.Crash node)))).state refl)
    serving_so (Some (work.Restart node)) e = at_once (Some (work.Restart node)) answer.Up tt e
    serving_so (Some other) e = opens_so (Some other) e

  item_so : (servers : ℕ) (p : Phase) (number : ℕ) (wanted : Option Work) → (lasting_of p).number ≡ client → CallHasItem p
      → next_item (lasting_of p).items ≡ Some number → work_at (lasting_of (with_begun p)).items number ≡ wanted
      → Turned p Begin (item_begins servers (with_begun p) number (wish_of wanted))
  item_so servers (Down l) number wanted its sound next asked = down_so l number next servers wanted asked
  item_so servers (Opening l o) number wanted its sound next asked = opening_so l number next o wanted asked
  item_so servers (Serves s) number wanted its sound next asked = serving_so s its sound number next wanted asked

  begin_so : (servers : ℕ) (p : Phase) → (lasting_of p).number ≡ client → CallHasItem p → Turned p Begin (on_begin servers p)
  unfolding on_begin
  begin_so servers p its sound = by (next_item (lasting_of p).items) refl
    where
      by : (item : Option ℕ) → next_item (lasting_of p).items ≡ item → Turned p Begin (begins_item servers p item)
      by None fact = unmoved p Begin sound
      by (Some number) fact = item_so servers p number (work_at (lasting_of (with_begun p)).items number) its sound fact refl

  -- ---- packets and time

  deliver_so : (capacity : ℕ) (p : Phase) (packet : Packet) → (lasting_of p).number ≡ client → CallHasItem p
      → Turned p (Deliver packet) (on_deliver capacity p packet)
  unfolding on_deliver
  deliver_so capacity (Down l) packet its sound = unmoved (Down l) (Deliver packet) sound
  deliver_so capacity (Opening l o) packet its sound =
      opened_so l o (Deliver packet) capacity its (opening.opening_take o l.questions packet) (behaving.packet_so o l.questions packet)
  deliver_so capacity (Serves s) packet its sound = runs_so s (Deliver packet) its sound (serving_take s packet) (packet_goes s packet)

  time_so : (capacity : ℕ) (p : Phase) → (lasting_of p).number ≡ client → CallHasItem p → Turned p Tick (client_tick capacity p)
  unfolding client_tick
  time_so capacity (Down l) its sound = unmoved (Down l) Tick sound
  time_so capacity (Opening l o) its sound =
      opened_so l o Tick capacity its (opening.on_tick o l.questions) (behaving.tick_so o l.questions)
  time_so capacity (Serves s) its sound = runs_so s Tick its sound (on_tick s) (Moved (tick_goes s))

  happens_so : (c : Client) (what : Do) → (lasting_of c.phase).number ≡ client → CallHasItem c.phase → Turned c.phase what (happens c what)
  happens_so c Begin its sound = begin_so c.peers.servers c.phase its sound
  happens_so c (Deliver packet) its sound =
      by_test (Turned c.phase (Deliver packet)) (is_well_formed c.peers packet) (on_deliver c.cache c.phase packet) (still c.phase)
      (λ _. deliver_so c.cache c.phase packet its sound) (λ _. unmoved c.phase (Deliver packet) sound)
  happens_so c Tick its sound = time_so c.cache c.phase its sound

  pub client_turned : (c : Client) (what : Do) → (lasting_of c.phase).number ≡ client → CallHasItem c.phase → Turned c.phase what (takes c what)
  client_turned c what its sound =
      by_test (Turned c.phase what) (client_has_room c) (happens c what) (still c.phase) (λ _. happens_so c what its sound) (λ _. unmoved c.phase what sound)

pub each_acts : EachClientActsForItems
each_acts c what sound =
    let t : Turned (lasting_of c.phase).number c.phase what (takes c what) = client_turned (lasting_of c.phase).number c what refl sound in
    record { acts = t.acts; sound = t.sound }
