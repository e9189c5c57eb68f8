-- What an event makes of the items of a client. `P` is asked of the plan of its open call, and `J` is so of what it answers the open item then.
use Rattle.std.proofs.Common.{sym, subst, ◌∷◌, ◌≡◌, ℕ, [], Option, Some, None, refl}
use Rattle.client_node.specs.declared.client.Client.{Client}
use Rattle.client_node.specs.declared.phase.Phase.{Phase}
use Rattle.client_node.specs.declared.phase.Phase.TheVariants.{Down, Opening, Serving as Serves}
use Rattle.client_node.specs.Phases.{Went_to, phase_after, begins_item, client_has_room, down_begins, happens, item_begins, lasting_of, on_begin, on_deliver, client_tick, opened_on, opening_begins, serving_begins, takes, wish_of, with_begun}
use Rattle.client_running.specs.Opens.{opens}
use Rattle.client_running.specs.Running.{run}
use Rattle.client_serving.specs.declared.lasting.Lasting.{Lasting}
use Rattle.client_serving.specs.declared.serving.Serving.{Serving}
use Rattle.client_serving.specs.Packets.{serving_take, on_tick}
use Rattle.client_serving.specs.Sends.{Done}
use Rattle.log_owner.specs.declared.opened.Progress.{Progress}
use Rattle.log_owner.specs.declared.opened.Progress.TheVariants as progress
use Rattle.log_owner.specs.declared.opening.Opening as openings
use Rattle.log_owner.specs.Opening as opening
use Rattle.log_owner.specs.Opening.{Went as Went_to_open}
use Rattle.log_owner.specs.Sending.{push_all}
use Rattle.node_base.specs.Beginning.{items_wait, items_begin, next_item, work_at}
use Rattle.node_base.specs.declared.items.Items.{Items}
use Rattle.node_base.specs.Shape.{is_well_formed}
use Rattle.version_model.specs.declared.answer.Answer.{Answer}
use Rattle.version_model.specs.declared.answer.Answer.TheVariants as answer
use Rattle.version_model.specs.declared.work.Work.{Work}
use Rattle.version_model.specs.declared.work.Work.TheVariants as work
use Rattle.wire_msg.specs.declared.packet.Do.{Do}
use Rattle.wire_msg.specs.declared.packet.Do.TheVariants.{Begin, Deliver, Tick}
use Rattle.wire_msg.specs.declared.packet.Packet.{Packet}
use Rattle.xfs_base.proofs.Booleans.{by_test}
use Rattle.xfs_base.specs.Steps.{saying, still}
use Rattle.client_call.specs.Calls.{plan_answered, call_of}
use Rattle.client_call.specs.declared.call.Call.{Call}
use Rattle.client_call.specs.declared.call.Going.{Going}
use Rattle.client_call.specs.declared.call.Going.TheVariants as goings
use Rattle.client_call.specs.declared.call.Plan.{Plan}
use Rattle.client_node.specs.Crash.{falls}
use Rattle.file_plan.specs.declared.block_call.BlockAnswer.{BlockAnswer}
use Rattle.node_base.specs.declared.effects.Effect.TheVariants.{Does}
use Rattle.version_model.specs.declared.act.Act.TheVariants.{Back}
use Rattle.serving_moves.proofs.item_moves.Calling.{BeginsSo, CallSo, GoingSo, Went, opens_went, then_runs_went, went}
use Rattle.serving_moves.proofs.item_moves.ClientServing.{packet_goes, tick_goes}
use Rattle.serving_moves.proofs.item_moves.Keeping as moving
use Rattle.serving_moves.proofs.item_moves.Keeping.{all_pushed_plain, same, unmoved}
use Rattle.serving_moves.proofs.item_moves.Openings as openly
use Rattle.serving_moves.proofs.item_moves.Openings.{client_may_answer, client_plain, goes_on, is_back, is_lost, may_answer, may_be_back}
use Rattle.serving_moves.specs.item_moves.Events.{client_log_losses, client_losses}
use Rattle.serving_moves.specs.item_moves.Moves.{IsAny, IsPrompt}
use Rattle.headline.specs.Items.{Falls}
use Rattle.serving_moves.specs.item_moves.Moves.Begun.{AtOnce, Waits}
use Rattle.serving_moves.specs.item_moves.Moves.Event.{Begins, GoesOn, Cuts}
use Rattle.serving_moves.specs.item_moves.Moves.Move.{Stays}
use Rattle.serving_moves.specs.item_moves.Moves.Moves.{Last}

abbrev pub items_in : Phase → Items
items_in p = (lasting_of p).items

abbrev pub number_in : Phase → ℕ
number_in p = (lasting_of p).number

-- the open call of one that serves has such a plan
abbrev pub PhaseSo : (Plan → Type 0) → Phase → Type 0
PhaseSo P (Down l) = Unit {0}
PhaseSo P (Opening l o) = Unit {0}
PhaseSo P (Serves s) = CallSo P s.call

module _ (P : Plan → Type 0) (J : Answer → Type 0) where
  -- what an event makes of a phase
  pub record Turned (what : Do) (p : Phase) (w : Went_to) : Type 0 where
    pub calls : PhaseSo P w.state
    pub does : moving.Turned (client_losses p) J IsPrompt Phase items_in number_in what p w

  rests : (what : Do) (p : Phase) → PhaseSo P p → Turned what p (still p)
  rests what p so = record { calls = so; does = unmoved what p }

  -- one that serves then
  served : (s : Serving) (what : Do) (d : Done) → CallSo P s.call → Went P J s d → Turned what (Serves s) (record { state = Serves d.state; outs = d.outs })
  served s what d so w = record { calls = w.calls so; does = record { its_number = w.does.its_number; event = GoesOn w.does.moves } }

  -- ---- an opening

  module _ (done : J answer.Done) (l : Lasting) (o : openings.Opening) (capacity : ℕ) (what : Do) where
    opened_so : (w : Went_to_open) → openly.Goes o w → Turned what (Opening l o) (opened_on l capacity w)
    opened_so w g = by w.progress g.says
      where
        by : (p : Progress) → openly.SaysLoss p w.effects
            → Turned what (Opening l o) (saying w.effects (phase_after (record l { questions = w.questions }) capacity p))
        by (progress.Opening r) says =
            record { calls = tt; does = record { its_number = refl; event = GoesOn (goes_on (client_log_losses o.stage) J l.items w.effects (client_plain o.stage w.effects g.plain)) } }
        by (progress.Opened r) says = record {
          calls = tt;
          does = record {
            its_number = refl;
            event = GoesOn
                (is_back (client_log_losses o.stage) J l.items w.effects (client_plain o.stage w.effects g.plain) done (Does (Back l.number r.chain) ∷ push_all r.promised.managers r.feed)
                (may_be_back o.stage l.number r.chain, all_pushed_plain (client_log_losses o.stage) r.promised.managers r.feed));
          };
        }
        by (progress.Lost name) says =
            record { calls = tt; does = record { its_number = refl; event = GoesOn (is_lost (client_log_losses o.stage) J l.items w.effects (client_plain o.stage w.effects g.plain) name (client_may_answer o.stage (may_answer o.stage w.effects name g.plain says)) says) } }

  -- ---- an item begins

  module _ (l : Lasting) (number : ℕ) (its : next_item l.items ≡ Some number) where
    abbrev m : Lasting
    m = record l { items = items_begin l.items }

    down_so : (servers : ℕ) (wanted : Option Work) → Turned Begin (Down l) (down_begins servers m number (wish_of wanted))
    down_so servers None = record { calls = tt; does = record { its_number = refl; event = Begins number refl its (AtOnce answer.Down [] [] tt tt tt) } }
    down_so servers (Some (work.Restart node)) = record {
      calls = tt;
      does = record { its_number = refl; event = Begins number refl its (Waits (Last (Stays (same (items_wait (items_begin l.items) number)) (tt, tt)))) };
    }
    down_so servers (Some (work.Crash node)) =
        record { calls = tt; does = record { its_number = refl; event = Begins number refl its (AtOnce answer.Down [] [] tt tt tt) } }
    down_so servers (Some other) =
        record { calls = tt; does = record { its_number = refl; event = Begins number refl its (AtOnce answer.Down [] [] tt tt tt) } }

    opening_so : (o : openings.Opening) (wanted : Option Work) → work_at m.items number ≡ wanted
        → Turned Begin (Opening l o) (opening_begins m o number (wish_of wanted))
    opening_so o None e = record { calls = tt; does = record { its_number = refl; event = Begins number refl its (AtOnce answer.Down [] [] tt tt tt) } }
    opening_so o (Some (work.Crash node)) e =
        record { calls = tt; does = record { its_number = refl; event = Cuts number [] [] refl its (subst Falls (sym e) tt) tt tt } }
    opening_so o (Some (work.Restart node)) e =
        record { calls = tt; does = record { its_number = refl; event = Begins number refl its (AtOnce answer.Up [] [] tt tt tt) } }
    opening_so o (Some other) e =
        record { calls = tt; does = record { its_number = refl; event = Begins number refl its (AtOnce answer.Down [] [] tt tt tt) } }

  module _ (done : J answer.Done) (after : (p : Plan) (a : BlockAnswer) → P p → GoingSo P J (plan_answered p a))
      (starts : (w : Work) (number self : ℕ) → BeginsSo P J (call_of w number self)) where
    module _ (s : Serving) (number : ℕ) (its : next_item s.lasting.items ≡ Some number) (so : CallSo P s.call) where
      abbrev t : Serving
      t = record s { lasting = record s.lasting { items = items_begin s.lasting.items } }

      opens_so : Turned Begin (Serves s) (record { state = Serves (opens t number).state; outs = (opens t number).outs })
      opens_so =
          let w = opens_went P J after starts t number so in
          record { calls = w.calls; does = record { its_number = w.does.its_number; event = Begins number refl its w.does.begun } }

      serving_so : (wanted : Option Work) → work_at t.lasting.items number ≡ wanted → Turned Begin (Serves s) (serving_begins t number (wish_of wanted))
      serving_so None e = opens_so
      serving_so (Some (work.Crash node)) e =
          record { calls = tt; does = record { its_number = refl; event = Cuts number (falls t ∷ []) [] refl its (subst Falls (sym e) tt) (tt, tt) tt } }
      serving_so (Some (work.Restart node)) e =
          record { calls = so; does = record { its_number = refl; event = Begins number refl its (AtOnce answer.Up [] [] tt tt tt) } }
      serving_so (Some other) e = opens_so

    item_so : (servers : ℕ) (p : Phase) (number : ℕ) (wanted : Option Work) → next_item (items_in p) ≡ Some number
        → work_at (items_in (with_begun p)) number ≡ wanted → PhaseSo P p → Turned Begin p (item_begins servers (with_begun p) number (wish_of wanted))
    item_so servers (Down l) number wanted fact e so = down_so l number fact servers wanted
    item_so servers (Opening l o) number wanted fact e so = opening_so l number fact o wanted e
    item_so servers (Serves s) number wanted fact e so = serving_so s number fact so wanted e

    begin_turned : (servers : ℕ) (p : Phase) → PhaseSo P p → Turned Begin p (on_begin servers p)
    unfolding on_begin
    begin_turned servers p so = by (next_item (items_in p)) refl
      where
        by : (item : Option ℕ) → next_item (items_in p) ≡ item → Turned Begin p (begins_item servers p item)
        by None fact = rests Begin p so
        by (Some number) fact = item_so servers p number (work_at (items_in (with_begun p)) number) fact refl so

    -- ---- packets and time

    deliver_turned : (capacity : ℕ) (p : Phase) (packet : Packet) → PhaseSo P p → Turned (Deliver packet) p (on_deliver capacity p packet)
    unfolding on_deliver
    deliver_turned capacity (Down l) packet so = rests (Deliver packet) (Down l) so
    deliver_turned capacity (Opening l o) packet so =
        opened_so done l o capacity (Deliver packet) (opening.opening_take o l.questions packet) (openly.packet_goes o l.questions packet)
    deliver_turned capacity (Serves s) packet so =
        let d : Done = serving_take s packet in
        served s (Deliver packet) (saying d.outs (run d.state)) so (then_runs_went P J after starts s d so (went P J s d (packet_goes s packet)))

    time_turned : (capacity : ℕ) (p : Phase) → PhaseSo P p → Turned Tick p (client_tick capacity p)
    unfolding client_tick
    time_turned capacity (Down l) so = rests Tick (Down l) so
    time_turned capacity (Opening l o) so =
        opened_so done l o capacity Tick (opening.on_tick o l.questions) (openly.tick_goes o l.questions)
    time_turned capacity (Serves s) so =
        let d : Done = on_tick s in
        served s Tick (saying d.outs (run d.state)) so (then_runs_went P J after starts s d so (went P J s d (tick_goes s)))

    happens_turned : (c : Client) (what : Do) → PhaseSo P c.phase → Turned what c.phase (happens c what)
    happens_turned c Begin so = begin_turned c.peers.servers c.phase so
    happens_turned c (Deliver packet) so =
        by_test (Turned (Deliver packet) c.phase) (is_well_formed c.peers packet) (on_deliver c.cache c.phase packet) (still c.phase)
        (λ _. deliver_turned c.cache c.phase packet so) (λ _. rests (Deliver packet) c.phase so)
    happens_turned c Tick so = time_turned c.cache c.phase so

    pub client_turned : (c : Client) (what : Do) → PhaseSo P c.phase → Turned what c.phase (takes c what)
    client_turned c what so =
        by_test (Turned what c.phase) (client_has_room c) (happens c what) (still c.phase) (λ _. happens_turned c what so) (λ _. rests what c.phase so)

-- ---- whatever its plan

any_call : (phase : Phase) → PhaseSo (λ plan. Unit {0}) phase
any_call (Down l) = tt
any_call (Opening l o) = tt
any_call (Serves s) = by s.call
  where
    by : (call : Option Call) → CallSo (λ plan. Unit {0}) call
    by None = tt
    by (Some call) = tt

any_going : (going : Going) → GoingSo (λ plan. Unit {0}) IsAny going
any_going (goings.On call) = tt
any_going (goings.Ends a) = tt

any_begins : (going : Option Going) → BeginsSo (λ plan. Unit {0}) IsAny going
any_begins None = tt
any_begins (Some going) = any_going going

pub any_turned : (c : Client) (what : Do) → moving.Turned (client_losses c.phase) IsAny IsPrompt Phase items_in number_in what c.phase (takes c what)
any_turned c what =
    (client_turned (λ plan. Unit {0}) IsAny tt (λ p a so. any_going (plan_answered p a)) (λ w number self. any_begins (call_of w number self)) c what
    (any_call c.phase)).does
