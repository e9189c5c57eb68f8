-- What each event leaves of a client's open call.
use Rattle.std.proofs.Common.{◌≡◌, ◌⊎◌, ◌&&◌, ℕ, Bool, true, false, List, [], ◌∷◌, ◌++◌, Option, Some, None, is_some, inl, inr, refl, sym, ap, subst, ◌∙◌}
use Rattle.client_call.specs.declared.call.Call.{Call}
use Rattle.client_call.specs.declared.call.Going.{Going}
use Rattle.client_call.specs.declared.call.Going.TheVariants.{On}
use Rattle.client_node.specs.declared.client.Client.{Client}
use Rattle.client_node.specs.declared.phase.Phase.{Phase}
use Rattle.client_node.specs.declared.phase.Phase.TheVariants.{Down, Opening, Serving as Serves}
use Rattle.client_node.specs.Phases.{Went_to, phase_after, begins_item, client_has_room, down_begins, happens, item_begins, lasting_of, on_begin, on_deliver, client_step, client_tick, opened_on, opening_begins, serving_begins, takes, then_runs, wish_of, with_begun}
use Rattle.client_node.specs.Starting.{client_start}
use Rattle.client_running.specs.Opens.{begin_call, call_at, opens}
use Rattle.client_running.specs.Running.{most_steps, run}
use Rattle.client_serving.specs.declared.lasting.Lasting.{Lasting}
use Rattle.client_serving.specs.declared.serving.Serving.{Serving}
use Rattle.client_serving.specs.Packets.{serving_take, on_tick}
use Rattle.client_serving.specs.Sends.{Done, gives}
use Rattle.log_owner.specs.declared.opened.Progress.{Progress}
use Rattle.log_owner.specs.declared.opened.Progress.TheVariants as progress
use Rattle.log_owner.specs.declared.opening.Opening as openings
use Rattle.log_owner.specs.Opening as opening
use Rattle.log_owner.specs.Opening.{Went}
use Rattle.node_base.specs.Beginning.{items_begin, next_item, items_wait, work_at}
use Rattle.node_base.specs.declared.effects.Effect.TheVariants.{Answer as Answers}
use Rattle.node_base.specs.Shape.{is_well_formed}
use Rattle.node_slots.proofs.node_tie.AsksEvents.{first_asks, phase_asks}
use Rattle.node_slots.specs.client_law.Events.{WhereItServes, after_events}
use Rattle.node_slots.specs.client_law.Giving.{GivesOnlyDirty, PutsOffWhatIsDirty}
use Rattle.node_slots.specs.node_tie.AskingEvents.{PhaseAsks}
use Rattle.serving_moves.proofs.call_moves.Arriving.{packet_goes, tick_goes}
use Rattle.serving_moves.specs.call_moves.Moves.{Comes}
use Rattle.serving_moves.specs.call_moves.Moves.Comes.{Moved}
use Rattle.version_model.specs.declared.act.Act.{Act}
use Rattle.version_model.specs.declared.answer.Answer.TheVariants as answer
use Rattle.version_model.specs.declared.work.Work.{Work}
use Rattle.version_model.specs.declared.work.Work.TheVariants as work
use Rattle.wire_msg.specs.declared.packet.Do.{Do}
use Rattle.wire_msg.specs.declared.packet.Do.TheVariants.{Begin, Deliver, Tick}
use Rattle.wire_msg.specs.declared.packet.Packet.{Packet}
use Rattle.xfs_base.proofs.Booleans.{by_test}
use Rattle.xfs_base.specs.declared.node.NodeId.{NodeId}
use Rattle.xfs_base.specs.declared.node.NodeId.TheVariants as nodes
use Rattle.xfs_base.specs.Steps.{saying, still}
use Rattle.run_answers.proofs.once_law.Items.{begun_open, begun_works}
use Rattle.run_answers.proofs.own_law.Filing.{behind_still, its_acts}
use Rattle.run_answers.proofs.own_law.Moving.{IsCalm, Went as Moved_so, comes, none_kept}
use Rattle.run_answers.proofs.own_law.Running.{no_runs}
use Rattle.run_answers.proofs.wait_law.Asked.{awaits_asked}
use Rattle.run_answers.proofs.wait_law.Cutting.{Outcome, Quiet, going_cut, makes_on, none_quiet, open_cut}
use Rattle.run_answers.specs.wait_law.Waits.{EachEventWaits, EachStartWaits}
use Rattle.headline.specs.Calls.{IsBegun, call_in}
use Rattle.headline.specs.Items.{asked_at}
use Rattle.headline.specs.Waits.{EventWaits, HasTurn, Makes, PhaseWaits, StandsAsBefore, has_calls_go_on}
use Rattle.headline.specs.Waits.EventWaits.{CutOff, Lacks, Passed}
use Rattle.headline.specs.Waits.HasTurn.{Begins, IsOpen}

-- the open call awaits what it lacks, as far as it shows itself
abbrev pub PhaseQuiet : Phase → Type 0
PhaseQuiet (Down l) = Unit {0}
PhaseQuiet (Opening l o) = Unit {0}
PhaseQuiet (Serves s) = Quiet s

one_call : (a b : Call) → Some a ≡ Some b → a ≡ b
one_call a b fact = cc

none_open : (o : Option ℕ) → is_some o ≡ false → o ≡ None
none_open None fact = refl
none_open (Some item) fact = absurd cc

module _ (client : ℕ) where
  abbrev me : NodeId
  me = nodes.Client client

  -- it is cut off
  pub record IsCutBy (p : Phase) (what : Do) (w : Went_to) : Type 0 where
    pub going : Going
    pub turn : HasTurn p what going
    pub now : Call
    pub stays : call_in w.state ≡ Some now
    pub makes : Makes client most_steps going (its_acts me w.outs) (On now)

  -- What an event makes of a phase; `goes` says whether it has the open call go on.
  abbrev pub Left : Phase → Do → Bool → Went_to → Type 0
  Left p what goes w = PhaseQuiet w.state ⊎ (IsCutBy p what w ⊎ ((goes ≡ false) × StandsAsBefore p w.state))

  -- nothing comes of it
  unmoved : (p : Phase) (what : Do) (goes : Bool) → goes ≡ false → Left p what goes (still p)
  unmoved (Down l) what goes none = inl tt
  unmoved (Opening l o) what goes none = inl tt
  unmoved (Serves s) what goes none = inr (inr (none, record { call = refl; tokens = refl; log = refl }))

  -- ---- what came is done, and then the open call runs

  module _ (s : Serving) (what : Do) (goes : Bool) (its : s.lasting.number ≡ client) (d : Done) where
    none_runs : d.state.call ≡ None → Left (Serves s) what goes (then_runs d)
    none_runs over = inl (none_quiet (run d.state).state (ap (λ (x : Done). x.state.call) (no_runs client d.state over) ∙ over))

    call_runs : IsCalm s d → (call : Call) → s.call ≡ Some call → Left (Serves s) what goes (then_runs d)
    call_runs c call is = by (open_cut client d.state new.0 (c.kept.number ∙ its) new.1)
      where
        new : (n : Call) × (d.state.call ≡ Some n)
        new = c.kept.lasts call is

        stays : (old : Call) × ((s.call ≡ Some old) × ((new.0.plan ≡ old.plan) × (new.0.step ≡ old.step)))
        stays = c.kept.calls new.0 new.1

        one : stays.0 ≡ call
        one = one_call stays.0 call (sym stays.1.0 ∙ is)

        by : Outcome client most_steps (On new.0) (run d.state) → Left (Serves s) what goes (then_runs d)
        by (inl quiet) = inl quiet
        by (inr cut) = inr (inl (record {
          going = On call;
          turn = IsOpen call is;
          now = cut.now;
          stays = cut.stays;
          makes = subst (λ (acts : List Act). Makes client most_steps (On call) acts (On cut.now)) (sym (behind_still me d.outs (run d.state).outs c.still))
              (makes_on client 4095 call new.0 (stays.1.1.0 ∙ ap (λ (x : Call). x.plan) one) (stays.1.1.1 ∙ ap (λ (x : Call). x.step) one) cut.makes);
        }))

    runs_so : Comes s d → Left (Serves s) what goes (then_runs d)
    runs_so come = by (comes me s d come) s.call refl
      where
        by : Moved_so me s d → (o : Option Call) → s.call ≡ o → Left (Serves s) what goes (then_runs d)
        by (inr l) o is = none_runs l.over
        by (inl c) None is = none_runs (none_kept s d.state c.kept is)
        by (inl c) (Some call) is = call_runs c call is

  -- ---- while it opens its log

  -- a client whose log is open again has no call
  opened_so : (p : Phase) (what : Do) (goes : Bool) (l : Lasting) (capacity : ℕ) (w : Went) → Left p what goes (opened_on l capacity w)
  opened_so p what goes l capacity w = by w.progress
    where
      by : (x : Progress) → Left p what goes (saying w.effects (phase_after (record l { questions = w.questions }) capacity x))
      by (progress.Opening o) = inl tt
      by (progress.Opened o) = inl (λ call is. absurd (let clash : None ≡ Some call = is in cc))
      by (progress.Lost seg) = inl tt

  -- ---- an item begins

  abbrev LeftBegun : Phase → Went_to → Type 0
  LeftBegun p w = Left p Begin false w

  down_so : (servers : ℕ) (p : Phase) (l : Lasting) (number : ℕ) (wanted : Option Work) → LeftBegun p (down_begins servers l number (wish_of wanted))
  down_so servers p l number None = inl tt
  down_so servers p l number (Some (work.Crash node)) = inl tt
  down_so servers p l number (Some (work.Restart node)) = inl tt
  down_so servers p l number (Some other) = inl tt

  opening_so : (p : Phase) (l : Lasting) (o : openings.Opening) (number : ℕ) (wanted : Option Work) → LeftBegun p (opening_begins l o number (wish_of wanted))
  opening_so p l o number None = inl tt
  opening_so p l o number (Some (work.Crash node)) = inl tt
  opening_so p l o number (Some (work.Restart node)) = inl tt
  opening_so p l o number (Some other) = inl tt

  module _ (s : Serving) (its : s.lasting.number ≡ client) (asks : s.lasting.items.unanswered ≡ None → s.call ≡ None) (number : ℕ)
      (next : next_item s.lasting.items ≡ Some number) where
    abbrev t : Serving
    t = record s { lasting = record s.lasting { items = items_begin s.lasting.items } }

    abbrev as_phase : Done → Went_to
    as_phase d = record { state = Serves d.state; outs = d.outs }

    as_before : (d : Done) → d.state.call ≡ s.call → d.state.tokens ≡ s.tokens → d.state.log ≡ s.log → LeftBegun (Serves s) (as_phase d)
    as_before d call tokens log = inr (inr (refl, record { call = call; tokens = tokens; log = log }))

    is_begun : (w : Option Work) → work_at t.lasting.items number ≡ w → IsBegun (Serves s) Begin number w
    is_begun w e = record { begins = refl; next = next; asks = ap (λ (ws : List Work). asked_at ws number) (sym (begun_works s.lasting.items)) ∙ e }

    begins_so : (w : Option Work) → work_at t.lasting.items number ≡ w → s.lasting.items.unanswered ≡ None
        → LeftBegun (Serves s) (as_phase (begin_call t number (call_at t number w)))
    begins_so w e free = by (call_at t number w) refl
      where
        u : Serving
        u = record t { lasting = record t.lasting { items = items_wait t.lasting.items number } }

        by : (o : Option Going) → call_at t number w ≡ o → LeftBegun (Serves s) (as_phase (begin_call t number o))
        by None made = as_before (begin_call t number None) refl refl refl
        by (Some going) made = outcome (going_cut client u going its (asks free))
          where
            outcome : Outcome client most_steps going (begin_call t number (Some going)) → LeftBegun (Serves s) (as_phase (begin_call t number (Some going)))
            outcome (inl quiet) = inl quiet
            outcome (inr cut) = inr (inl (record {
              going = going;
              turn = Begins number w going refl (is_begun w e) free made;
              now = cut.now;
              stays = cut.stays;
              makes = cut.makes;
            }))

    opens_so : (w : Option Work) → work_at t.lasting.items number ≡ w → LeftBegun (Serves s) (as_phase (opens t number))
    unfolding opens
    opens_so w e =
        by_test (λ (d : Done). LeftBegun (Serves s) (as_phase d)) (is_some t.lasting.items.unanswered) (gives t (Answers number answer.Busy ∷ []))
        (begin_call t number (call_at t number (work_at t.lasting.items number)))
        (λ _. as_before (gives t (Answers number answer.Busy ∷ [])) refl refl refl)
        (λ fact. subst (λ (x : Option Work). LeftBegun (Serves s) (as_phase (begin_call t number (call_at t number x)))) (sym e)
        (begins_so w e (sym (begun_open s.lasting.items) ∙ none_open t.lasting.items.unanswered fact)))

    serving_so : (wanted : Option Work) → work_at t.lasting.items number ≡ wanted → LeftBegun (Serves s) (serving_begins t number (wish_of wanted))
    serving_so None e = opens_so None e
    serving_so (Some (work.Crash node)) e = inl tt
    serving_so (Some (work.Restart node)) e = as_before (gives t (Answers number answer.Up ∷ [])) refl refl refl
    serving_so (Some other) e = opens_so (Some other) e

  item_so : (servers : ℕ) (p : Phase) (number : ℕ) (wanted : Option Work) → (lasting_of p).number ≡ client → PhaseAsks p
      → next_item (lasting_of p).items ≡ Some number → work_at (lasting_of (with_begun p)).items number ≡ wanted
      → LeftBegun p (item_begins servers (with_begun p) number (wish_of wanted))
  item_so servers (Down l) number wanted its asks next asked = down_so servers (Down l) (lasting_of (with_begun (Down l))) number wanted
  item_so servers (Opening l o) number wanted its asks next asked = opening_so (Opening l o) (lasting_of (with_begun (Opening l o))) o number wanted
  item_so servers (Serves s) number wanted its asks next asked = serving_so s its asks.waits number next wanted asked

  begin_so : (servers : ℕ) (p : Phase) → (lasting_of p).number ≡ client → PhaseAsks p → LeftBegun p (on_begin servers p)
  unfolding on_begin
  begin_so servers p its asks = by (next_item (lasting_of p).items) refl
    where
      by : (item : Option ℕ) → next_item (lasting_of p).items ≡ item → LeftBegun p (begins_item servers p item)
      by None fact = unmoved p Begin false refl
      by (Some number) fact = item_so servers p number (work_at (lasting_of (with_begun p)).items number) its asks fact refl

  -- ---- packets and time

  deliver_so : (capacity : ℕ) (p : Phase) (packet : Packet) (goes : Bool) → (lasting_of p).number ≡ client → Left p (Deliver packet) goes (on_deliver capacity p packet)
  unfolding on_deliver
  deliver_so capacity (Down l) packet goes its = inl tt
  deliver_so capacity (Opening l o) packet goes its = opened_so (Opening l o) (Deliver packet) goes l capacity (opening.opening_take o l.questions packet)
  deliver_so capacity (Serves s) packet goes its = runs_so s (Deliver packet) goes its (serving_take s packet) (packet_goes s packet)

  time_so : (capacity : ℕ) (p : Phase) (goes : Bool) → (lasting_of p).number ≡ client → Left p Tick goes (client_tick capacity p)
  unfolding client_tick
  time_so capacity (Down l) goes its = inl tt
  time_so capacity (Opening l o) goes its = opened_so (Opening l o) Tick goes l capacity (opening.on_tick o l.questions)
  time_so capacity (Serves s) goes its = runs_so s Tick goes its (on_tick s) (Moved (tick_goes s))

  -- ---- events

  happens_so : (c : Client) (what : Do) → client_has_room c ≡ true → (lasting_of c.phase).number ≡ client → PhaseAsks c.phase
      → Left c.phase what (has_calls_go_on c what) (happens c what)
  happens_so c Begin room its asks = begin_so c.peers.servers c.phase its asks
  happens_so c (Deliver packet) room its asks =
      by_test (Left c.phase (Deliver packet) (has_calls_go_on c (Deliver packet))) (is_well_formed c.peers packet) (on_deliver c.cache c.phase packet) (still c.phase)
      (λ _. deliver_so c.cache c.phase packet (has_calls_go_on c (Deliver packet)) its)
      (λ fails. unmoved c.phase (Deliver packet) (has_calls_go_on c (Deliver packet)) (ap (λ (b : Bool). b && is_well_formed c.peers packet) room ∙ fails))
  happens_so c Tick room its asks = time_so c.cache c.phase (has_calls_go_on c Tick) its

  goes_not : (c : Client) (what : Do) → client_has_room c ≡ false → has_calls_go_on c what ≡ false
  goes_not c Begin none = refl
  goes_not c (Deliver packet) none = ap (λ (b : Bool). b && is_well_formed c.peers packet) none
  goes_not c Tick none = none

  event_left : (c : Client) (what : Do) → (lasting_of c.phase).number ≡ client → PhaseAsks c.phase → Left c.phase what (has_calls_go_on c what) (takes c what)
  event_left c what its asks =
      by_test (Left c.phase what (has_calls_go_on c what)) (client_has_room c) (happens c what) (still c.phase) (λ room. happens_so c what room its asks)
      (λ none. unmoved c.phase what (has_calls_go_on c what) (goes_not c what none))

-- ---- after any events

quiet_waits : (q : Phase) → PhaseAsks q → WhereItServes GivesOnlyDirty q → PhaseQuiet q → PhaseWaits q
quiet_waits (Down l) asks gives quiet = tt
quiet_waits (Opening l o) asks gives quiet = tt
quiet_waits (Serves s) asks gives quiet = λ call is. awaits_asked s asks gives call is call.step refl (quiet call is)

client_waits : (c : Client) (what : Do) → PhaseAsks c.phase → WhereItServes GivesOnlyDirty (client_step c what).node.phase → EventWaits c what
client_waits c what asks gives = by (event_left (lasting_of c.phase).number c what refl asks)
  where
    by : Left (lasting_of c.phase).number c.phase what (has_calls_go_on c what) (takes c what) → EventWaits c what
    by (inl quiet) = Lacks (quiet_waits (takes c what).state (phase_asks c what asks) gives quiet)
    by (inr (inl cut)) = CutOff (record { going = cut.going; turn = cut.turn; now = cut.now; stays = cut.stays; makes = cut.makes })
    by (inr (inr rests)) = Passed rests.0 rests.1

asks_after : (c : Client) (events : List Do) → PhaseAsks c.phase → PhaseAsks (after_events c events).phase
asks_after c [] asks = asks
asks_after c (what ∷ events) asks = asks_after (client_step c what).node events (phase_asks c what asks)

pub after_last : (c : Client) (events : List Do) (what : Do) → after_events c (events ++ what ∷ []) ≡ (client_step (after_events c events) what).node
after_last c [] what = refl
after_last c (first ∷ events) what = after_last (client_step c first).node events what

pub event_waits : PutsOffWhatIsDirty → EachEventWaits
event_waits gives number setup works events what =
    let c : Client = client_start number setup works in
    client_waits (after_events c events) what (asks_after c events (first_asks number setup works))
    (subst (λ (x : Client). WhereItServes GivesOnlyDirty x.phase) (after_last c events what) (gives number setup works (events ++ what ∷ [])))

pub start_waits : EachStartWaits
start_waits number setup works = refl
