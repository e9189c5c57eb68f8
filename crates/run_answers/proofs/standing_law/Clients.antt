-- What an event of a client answers it may answer, and its open item stays one that it may have open.
use Rattle.std.proofs.Common.{◌≡◌, ℕ, List, [], ◌∷◌, ◌++◌, Option, Some, None, is_some, refl, sym, ap, subst, ◌∙◌}
use Rattle.client_node.specs.declared.client.Client.{Client}
use Rattle.client_node.specs.declared.phase.Phase.{Phase}
use Rattle.client_node.specs.declared.phase.Phase.TheVariants.{Down, Opening, Serving as Serves}
use Rattle.client_node.specs.Phases.{Went_to, phase_after, begins_item, client_has_room, down_begins, happens, item_begins, lasting_of, on_begin, on_deliver, client_tick, opened_on, opening_begins, serving_begins, takes, then_runs, wish_of, with_begun}
use Rattle.client_running.specs.Opens.{begin_call, call_at, opens}
use Rattle.client_running.specs.Running.{run}
use Rattle.client_serving.specs.declared.lasting.Lasting.{Lasting}
use Rattle.client_serving.specs.declared.serving.Serving.{Serving}
use Rattle.client_serving.specs.Packets.{serving_take, on_tick}
use Rattle.client_serving.specs.Sends.{Done, gives}
use Rattle.client_call.specs.declared.call.Going.{Going}
use Rattle.core_world.specs.declared.any_node.AnyNode.{AnyNode}
use Rattle.core_world.specs.declared.any_node.AnyNode.TheVariants as any
use Rattle.log_owner.proofs.Behaving as behaving
use Rattle.log_owner.specs.declared.opened.Progress.{Progress}
use Rattle.log_owner.specs.declared.opened.Progress.TheVariants as progress
use Rattle.log_owner.specs.declared.opening.Opening as openings
use Rattle.log_owner.specs.Opening as opening
use Rattle.log_owner.specs.Opening.{Went}
use Rattle.log_owner.specs.Sending.{push_all}
use Rattle.node_base.specs.Beginning.{items_answer, answers_unanswered, items_begin, next_item, items_wait, work_at}
use Rattle.node_base.specs.declared.effects.Effect.{Effect}
use Rattle.node_base.specs.declared.effects.Effect.TheVariants.{Answer as Answers, Does}
use Rattle.node_base.specs.declared.items.Items.{Items}
use Rattle.node_base.specs.Shape.{is_well_formed}
use Rattle.version_model.specs.declared.act.Act.TheVariants as act
use Rattle.version_model.specs.declared.answer.Answer.{Answer}
use Rattle.version_model.specs.declared.answer.Answer.TheVariants as answer
use Rattle.version_model.specs.declared.work.Work.{Work}
use Rattle.version_model.specs.declared.work.Work.TheVariants as work
use Rattle.wire_msg.specs.declared.packet.Do.{Do}
use Rattle.wire_msg.specs.declared.packet.Do.TheVariants.{Begin, Deliver, Tick}
use Rattle.wire_msg.specs.declared.packet.Packet.{Packet}
use Rattle.xfs_base.proofs.Alls.{all_append}
use Rattle.xfs_base.proofs.Booleans.{by_test}
use Rattle.xfs_base.specs.declared.node.NodeId.{NodeId}
use Rattle.xfs_base.specs.Steps.{saying, still}
use Rattle.serving_moves.proofs.item_moves.Calling.{Went as Called}
use Rattle.serving_moves.proofs.item_moves.ClientServing.{Goes, packet_goes, tick_goes}
use Rattle.serving_moves.proofs.item_moves.Keeping.{all_pushed_plain}
use Rattle.serving_moves.proofs.item_moves.Openings.{behaves_plain}
use Rattle.serving_moves.specs.item_moves.Moves.{AllPlain, Moves}
use Rattle.serving_moves.specs.item_moves.Moves.Losses.{Answering}
use Rattle.run_answers.proofs.once_law.Items.{begun_open, begun_works}
use Rattle.run_answers.proofs.standing_law.Allowed.{May as Fitting, at_once, falls_meet, is_open, reply_may, restart_done, serves_apart}
use Rattle.run_answers.proofs.standing_law.Calls.{BeginsWell, CallWell, IsReply, PlanWell, begins_well, behind_well, going_well}
use Rattle.run_answers.proofs.standing_law.Meeting.{AllMeet, Meets, Moved, moves_meet, none_open, one_number, open_meets, plain_meets}
use Rattle.headline.specs.Items.{IsOpen, asked_at}
use Rattle.headline.specs.Standings.{IsCall, IsRestart}

-- of what a client is asked none that it doesn't crash or start again by is other than a call
abbrev pub IsClients : Option Work → Type 0
IsClients (Some (work.Lose server)) = ⊥
IsClients (Some (work.Move slot manager)) = ⊥
IsClients _ = Unit {0}

module _ (works : List Work) where
  abbrev OpenCalls : Items → Type 0
  OpenCalls items = (item : ℕ) → IsOpen items item → IsCall (asked_at works item)

  -- the item that is open while a client opens its log is a restart, and while it serves a call, whose plan replies well
  abbrev pub Asks : Phase → Type 0
  Asks (Down l) = Unit {0}
  Asks (Opening l o) = (item : ℕ) → IsOpen l.items item → IsRestart (asked_at works item)
  Asks (Serves s) = CallWell s.call × OpenCalls s.lasting.items

  module _ (c : Client) where
    -- the client in this phase
    abbrev in_phase : Phase → AnyNode
    in_phase p = any.Client (record c { phase = p })

    abbrev May : Phase → Phase → ℕ → Answer → Type 0
    May p q = Fitting works (in_phase p) (in_phase q)

    pub record Turned (p : Phase) (w : Went_to) : Type 0 where
      pub asks : Asks w.state
      pub meets : AllMeet (May p w.state) w.outs

    unmoved : (p : Phase) → Asks p → Turned p (still p)
    unmoved p asks = record { asks = asks; meets = tt }

    -- it serves, and answers the items of such a one by its calls
    served : (s t : Serving) (d : Done) → OpenCalls t.lasting.items → CallWell d.state.call
        → Moves Answering IsReply t.lasting.items d.outs d.state.lasting.items → Turned (Serves s) (record { state = Serves d.state; outs = d.outs })
    served s t d calls well moves =
        let before : AnyNode = in_phase (Serves s) in
        let after : AnyNode = in_phase (Serves d.state) in
        let moved : Moved (May (Serves s) (Serves d.state)) (IsOpen t.lasting.items) d.outs d.state.lasting.items =
        moves_meet (May (Serves s) (Serves d.state)) Answering IsReply (IsOpen t.lasting.items)
        (λ item a so waits. reply_may before after item (asked_at works item) a so (calls item waits) refl) (λ item name waits. serves_apart before refl)
        t.lasting.items d.state.lasting.items d.outs (λ item waits. waits) moves in
        record { asks = (well, λ item waits. calls item (moved.opens item waits)); meets = moved.meets }

    -- ---- an opening

    module _ (l : Lasting) (o : openings.Opening) (capacity : ℕ) (asks : Asks (Opening l o)) where
      opened_so : (w : Went) → AllPlain Answering w.effects → Turned (Opening l o) (opened_on l capacity w)
      opened_so w plain = by w.progress
        where
          now : Lasting
          now = record l { questions = w.questions }

          first : (P : ℕ → Answer → Type 0) → AllMeet P w.effects
          first P = plain_meets P Answering w.effects plain

          by : (p : Progress) → Turned (Opening l o) (saying w.effects (phase_after now capacity p))
          by (progress.Opening r) =
              record { asks = asks; meets = all_append (Meets (May (Opening l o) (Opening now r))) w.effects [] (first (May (Opening l o) (Opening now r))) tt }
          by (progress.Opened r) =
              let q : Phase = (phase_after now capacity (progress.Opened r)).state in
              let pushed : List Effect = push_all r.promised.managers r.feed in
              record {
                asks = (tt, λ item waits. absurd (none_open item waits));
                meets = all_append (Meets (May (Opening l o) q)) w.effects (Does (act.Back l.number r.chain) ∷ pushed ++ answers_unanswered l.items.unanswered answer.Done)
                    (first (May (Opening l o) q)) (
                      tt,
                      all_append (Meets (May (Opening l o) q)) pushed (answers_unanswered l.items.unanswered answer.Done)
                          (plain_meets (May (Opening l o) q) Answering pushed (all_pushed_plain Answering r.promised.managers r.feed))
                          (open_meets (May (Opening l o) q) l.items.unanswered answer.Done
                          (λ item waits. restart_done (in_phase (Opening l o)) (in_phase q) item (asked_at works item) (asks item waits) (λ e. cc) refl)),
                    );
              }
          by (progress.Lost name) =
              let q : Phase = (phase_after now capacity (progress.Lost name)).state in
              record {
                asks = tt;
                meets = all_append (Meets (May (Opening l o) q)) w.effects (answers_unanswered l.items.unanswered (answer.Lost name)) (first (May (Opening l o) q))
                    (open_meets (May (Opening l o) q) l.items.unanswered (answer.Lost name) (λ item waits fallen. cc));
              }

    -- ---- an item begins

    module _ (l : Lasting) (number : ℕ) (next : next_item l.items ≡ Some number) where
      abbrev m : Lasting
      m = record l { items = items_begin l.items }

      restarts : (node : NodeId) → asked_at works number ≡ Some (work.Restart node) → (item : ℕ) → Some number ≡ Some item → IsRestart (asked_at works item)
      restarts node asked item waits =
          subst (λ n. IsRestart (asked_at works n)) (one_number number item waits) (subst IsRestart (sym asked) tt)

      down_so : (servers : ℕ) (wanted : Option Work) → asked_at works number ≡ wanted → Turned (Down l) (down_begins servers m number (wish_of wanted))
      down_so servers None asked =
          record { asks = tt; meets = at_once works (in_phase (Down l)) (in_phase (Down m)) number None answer.Down asked (next, (λ e. cc, refl)) }
      down_so servers (Some (work.Restart node)) asked = record { asks = restarts node asked; meets = (tt, tt) }
      down_so servers (Some (work.Crash node)) asked =
          record { asks = tt; meets = at_once works (in_phase (Down l)) (in_phase (Down m)) number (Some (work.Crash node)) answer.Down asked (next, (refl, refl)) }
      down_so servers (Some other) asked =
          record { asks = tt; meets = at_once works (in_phase (Down l)) (in_phase (Down m)) number (Some other) answer.Down asked (next, (λ e. cc, refl)) }

      opening_so : (o : openings.Opening) → Asks (Opening l o) → (wanted : Option Work) → asked_at works number ≡ wanted
          → Turned (Opening l o) (opening_begins m o number (wish_of wanted))
      opening_so o asks wanted asked = by wanted asked
        where
          still_asks : Asks (Opening m o)
          still_asks item waits = asks item (sym (begun_open l.items) ∙ waits)

          by : (w : Option Work) → asked_at works number ≡ w → Turned (Opening l o) (opening_begins m o number (wish_of w))
          by None is =
              record { asks = still_asks; meets = at_once works (in_phase (Opening l o)) (in_phase (Opening m o)) number None answer.Down is (next, (λ e. cc, refl)) }
          by (Some (work.Crash node)) is = record {
            asks = tt;
            meets = falls_meet works (in_phase (Opening l o)) (in_phase (Down (record m { items = items_answer m.items }))) m.items.unanswered number (Some (work.Crash node))
                (λ item waits. sym (begun_open l.items) ∙ waits) refl is (next, (λ e. cc, refl)) Answering [] tt;
          }
          by (Some (work.Restart node)) is = record {
            asks = still_asks;
            meets = at_once works (in_phase (Opening l o)) (in_phase (Opening m o)) number (Some (work.Restart node)) answer.Up is (next, (tt, (λ e. cc, refl)));
          }
          by (Some other) is =
              record { asks = still_asks; meets = at_once works (in_phase (Opening l o)) (in_phase (Opening m o)) number (Some other) answer.Down is (next, (λ e. cc, refl)) }

    module _ (s : Serving) (number : ℕ) (next : next_item s.lasting.items ≡ Some number) (asks : Asks (Serves s)) where
      abbrev t : Serving
      t = record s { lasting = record s.lasting { items = items_begin s.lasting.items } }

      still_asks : Asks (Serves t)
      still_asks = (asks.0, λ item waits. asks.1 item (sym (begun_open s.lasting.items) ∙ waits))

      -- a call begins, which is refused while another is open
      opens_so : (wanted : Option Work) → asked_at works number ≡ wanted → IsCall wanted → Turned (Serves s) (record { state = Serves (opens t number).state; outs = (opens t number).outs })
      unfolding opens
      opens_so wanted asked called =
          by_test (λ (d : Done). Turned (Serves s) (record { state = Serves d.state; outs = d.outs })) (is_some t.lasting.items.unanswered)
          (gives t (Answers number answer.Busy ∷ [])) (begin_call t number (call_at t number (work_at t.lasting.items number)))
          (λ waits. busy (is_open t.lasting.items.unanswered waits)) (λ _. begins (call_at t number (work_at t.lasting.items number)) (begins_well t number (work_at t.lasting.items number)))
        where
          calls : IsCall (asked_at works number)
          calls = subst IsCall (sym asked) called

          busy : (n : ℕ) × (t.lasting.items.unanswered ≡ Some n) → Turned (Serves s) (record { state = Serves t; outs = Answers number answer.Busy ∷ [] })
          busy other = record {
            asks = still_asks;
            meets = ((next, ((calls, refl), (other.0, (sym (begun_open s.lasting.items) ∙ other.1, other.1)))), tt);
          }

          begins : (o : Option Going) → BeginsWell o
              → Turned (Serves s) (record { state = Serves (begin_call t number o).state; outs = (begin_call t number o).outs })
          begins None well = record {
            asks = still_asks;
            meets = (reply_may (in_phase (Serves s)) (in_phase (Serves t)) number (asked_at works number) answer.Done tt calls refl, tt);
          }
          begins (Some g) well =
              let u : Serving = record t { lasting = record t.lasting { items = items_wait t.lasting.items number } } in
              let w : Called PlanWell IsReply u (begin_call t number (Some g)) = going_well u g asks.0 well in
              served s u (begin_call t number (Some g)) (λ item waits. subst (λ n. IsCall (asked_at works n)) (one_number number item waits) calls)
              (w.calls asks.0) w.does.moves

      serving_so : IsClients (asked_at works number) → (wanted : Option Work) → asked_at works number ≡ wanted
          → Turned (Serves s) (serving_begins t number (wish_of wanted))
      serving_so own None asked = opens_so None asked tt
      serving_so own (Some (work.Crash node)) asked = record {
        asks = tt;
        meets = (
          tt,
          falls_meet works (in_phase (Serves s)) (in_phase (Down (record t.lasting { items = items_answer t.lasting.items }))) t.lasting.items.unanswered number
              (Some (work.Crash node)) (λ item waits. sym (begun_open s.lasting.items) ∙ waits) refl asked (next, (λ e. cc, refl)) Answering [] tt,
        );
      }
      serving_so own (Some (work.Restart node)) asked = record {
        asks = still_asks;
        meets = at_once works (in_phase (Serves s)) (in_phase (Serves t)) number (Some (work.Restart node)) answer.Up asked (next, (tt, (λ e. cc, refl)));
      }
      serving_so own (Some (work.Lose server)) asked = absurd (subst IsClients asked own)
      serving_so own (Some (work.Move slot manager)) asked = absurd (subst IsClients asked own)
      serving_so own (Some other) asked = opens_so (Some other) asked tt

    -- each item that it may begin is one of a client
    abbrev pub Own : Phase → Type 0
    Own p = (number : ℕ) → next_item (lasting_of p).items ≡ Some number → IsClients (asked_at works number)

    item_so : (servers : ℕ) (p : Phase) (number : ℕ) (wanted : Option Work) → next_item (lasting_of p).items ≡ Some number → Own p → Asks p
        → asked_at works number ≡ wanted → Turned p (item_begins servers (with_begun p) number (wish_of wanted))
    item_so servers (Down l) number wanted next own asks asked = down_so l number next servers wanted asked
    item_so servers (Opening l o) number wanted next own asks asked = opening_so l number next o asks wanted asked
    item_so servers (Serves s) number wanted next own asks asked = serving_so s number next asks (own number next) wanted asked

    begun_items : (p : Phase) → (lasting_of (with_begun p)).items ≡ items_begin (lasting_of p).items
    begun_items (Down l) = refl
    begun_items (Opening l o) = refl
    begun_items (Serves s) = refl

    begin_so : (servers : ℕ) (p : Phase) → (lasting_of p).items.works ≡ works → Own p → Asks p → Turned p (on_begin servers p)
    unfolding on_begin
    begin_so servers p has own asks = by (next_item (lasting_of p).items) refl
      where
        its : (lasting_of (with_begun p)).items.works ≡ works
        its = ap (λ (i : Items). i.works) (begun_items p) ∙ (begun_works (lasting_of p).items ∙ has)

        by : (item : Option ℕ) → next_item (lasting_of p).items ≡ item → Turned p (begins_item servers p item)
        by None fact = unmoved p asks
        by (Some number) fact =
            item_so servers p number (work_at (lasting_of (with_begun p)).items number) fact own asks (sym (ap (λ (ws : List Work). asked_at ws number) its))

    -- ---- packets and time

    run_so : (s : Serving) (d : Done) → Asks (Serves s) → Goes s d → Turned (Serves s) (then_runs d)
    run_so s d asks g =
        let w : Called PlanWell IsReply s (saying d.outs (run d.state)) = behind_well s d asks.0 g in
        served s s (saying d.outs (run d.state)) asks.1 (w.calls asks.0) w.does.moves

    deliver_so : (capacity : ℕ) (p : Phase) (packet : Packet) → Asks p → Turned p (on_deliver capacity p packet)
    unfolding on_deliver
    deliver_so capacity (Down l) packet asks = unmoved (Down l) asks
    deliver_so capacity (Opening l o) packet asks =
        opened_so l o capacity asks (opening.opening_take o l.questions packet)
        (behaves_plain o.known.owner (opening.opening_take o l.questions packet) (behaving.packet_so o l.questions packet))
    deliver_so capacity (Serves s) packet asks = run_so s (serving_take s packet) asks (packet_goes s packet)

    time_so : (capacity : ℕ) (p : Phase) → Asks p → Turned p (client_tick capacity p)
    unfolding client_tick
    time_so capacity (Down l) asks = unmoved (Down l) asks
    time_so capacity (Opening l o) asks =
        opened_so l o capacity asks (opening.on_tick o l.questions)
        (behaves_plain o.known.owner (opening.on_tick o l.questions) (behaving.tick_so o l.questions))
    time_so capacity (Serves s) asks = run_so s (on_tick s) asks (tick_goes s)

    happens_so : (what : Do) → (lasting_of c.phase).items.works ≡ works → Own c.phase → Asks c.phase → Turned c.phase (happens c what)
    happens_so Begin has own asks = begin_so c.peers.servers c.phase has own asks
    happens_so (Deliver packet) has own asks =
        by_test (Turned c.phase) (is_well_formed c.peers packet) (on_deliver c.cache c.phase packet) (still c.phase)
        (λ _. deliver_so c.cache c.phase packet asks) (λ _. unmoved c.phase asks)
    happens_so Tick has own asks = time_so c.cache c.phase asks

    pub client_fits : (what : Do) → (lasting_of c.phase).items.works ≡ works → Own c.phase → Asks c.phase → Turned c.phase (takes c what)
    client_fits what has own asks =
        by_test (Turned c.phase) (client_has_room c) (happens c what) (still c.phase) (λ _. happens_so what has own asks) (λ _. unmoved c.phase asks)
