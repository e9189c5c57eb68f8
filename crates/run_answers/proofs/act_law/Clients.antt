-- What an event of a client answers is founded, and its open call stays one of its open item.
use Rattle.std.proofs.Common.{◌≡◌, ℕ, List, [], ◌∷◌, ◌++◌, Option, Some, None, inl, refl, sym, ap, subst, ◌∙◌}
use Rattle.client_node.specs.declared.client.Client.{Client}
use Rattle.client_node.specs.declared.phase.Phase.{Phase}
use Rattle.client_node.specs.declared.phase.Phase.TheVariants.{Down, Opening, Serving as Serves}
use Rattle.client_node.specs.Phases.{Went_to, phase_after, begins_item, client_has_room, down_begins, happens, item_begins, lasting_of, on_begin, on_deliver, client_tick, opened_on, opening_begins, serving_begins, takes, then_runs, wish_of, with_begun}
use Rattle.client_running.specs.Opens.{opens}
use Rattle.client_running.specs.Running.{run}
use Rattle.client_serving.specs.declared.lasting.Lasting.{Lasting}
use Rattle.client_serving.specs.declared.serving.Serving.{Serving}
use Rattle.client_serving.specs.Packets.{serving_take, on_tick}
use Rattle.client_serving.specs.Sends.{Done}
use Rattle.log_owner.proofs.Behaving as behaving
use Rattle.log_owner.specs.declared.opened.Progress.{Progress}
use Rattle.log_owner.specs.declared.opened.Progress.TheVariants as progress
use Rattle.log_owner.specs.declared.opening.Opening as openings
use Rattle.log_owner.specs.Opening as opening
use Rattle.log_owner.specs.Opening.{Went}
use Rattle.log_owner.specs.Sending.{push_all}
use Rattle.node_base.specs.Beginning.{answers_unanswered, items_begin, next_item, work_at}
use Rattle.node_base.specs.declared.effects.Effect.{Effect}
use Rattle.node_base.specs.declared.effects.Effect.TheVariants.{Answer as Answers}
use Rattle.node_base.specs.declared.items.Items.{Items}
use Rattle.node_base.specs.Effects.{acts_of}
use Rattle.node_base.specs.Shape.{is_well_formed}
use Rattle.token_protocol.specs.Basics.{In}
use Rattle.version_model.specs.declared.act.Act.{Act}
use Rattle.version_model.specs.declared.act.Act.TheVariants as act
use Rattle.version_model.specs.declared.answer.Answer.{Answer}
use Rattle.version_model.specs.declared.answer.Answer.TheVariants as answer
use Rattle.version_model.specs.declared.work.Work.{Work}
use Rattle.version_model.specs.declared.work.Work.TheVariants as work
use Rattle.wire_msg.specs.declared.packet.Do.{Do}
use Rattle.wire_msg.specs.declared.packet.Do.TheVariants.{Begin, Deliver, Tick}
use Rattle.wire_msg.specs.declared.packet.Packet.{Packet}
use Rattle.xfs_base.proofs.Booleans.{by_test}
use Rattle.xfs_base.specs.declared.node.NodeId.{NodeId}
use Rattle.xfs_base.specs.declared.node.NodeId.TheVariants as nodes
use Rattle.xfs_base.specs.declared.segment.SegName.{SegName}
use Rattle.xfs_base.specs.Steps.{saying, still}
use Rattle.serving_moves.proofs.item_moves.Openings.{behaves_plain}
use Rattle.serving_moves.proofs.item_moves.ClientServing.{Goes, packet_goes, tick_goes}
use Rattle.serving_moves.proofs.item_moves.Keeping.{all_pushed_plain, no_item, one_number}
use Rattle.headline.specs.Items.{Falls, IsOpen, asked_at}
use Rattle.serving_moves.specs.item_moves.Moves.Losses.{Answering}
use Rattle.run_answers.proofs.act_law.Calling.{CallFits, Holds, IsNoRestart, Runs, all_run, fits_on, goes_run, more_holds, opens_run, then_runs as runs_behind}
use Rattle.run_answers.proofs.act_law.Foundations.{Its, ItsOf, its_grow}
use Rattle.run_answers.proofs.act_law.Telling.{DoneIn, Foundation, Founded, Grows, acted, acted_before, founded_then, in_behind, open_founded, plain_founded}
use Rattle.run_answers.proofs.once_law.Items.{begun_open, begun_works}
use Rattle.run_answers.proofs.once_law.Ledger.{AllPlain}

-- the item that is open while a client opens its log is a restart
abbrev pub IsRestart : Option Work → Type 0
IsRestart (Some (work.Restart node)) = Unit {0}
IsRestart _ = ⊥

module _ (Began : ℕ → List Act → Type 0) (client : ℕ) (works : List Work) (first : List Act) where
  abbrev me : NodeId
  me = nodes.Client client

  abbrev F : Foundation
  F = Its Began client works first

  abbrev For : Option Work → ℕ → List Act → (ℕ → Type 0) → Answer → Type 0
  For = ItsOf Began client works first

  grow : Grows F
  grow = its_grow Began client works first

  abbrev PhaseFits : List Act → Phase → Type 0
  PhaseFits said (Down l) = Unit {0}
  PhaseFits said (Opening l o) = (item : ℕ) → IsOpen l.items item → IsRestart (asked_at works item)
  PhaseFits said (Serves s) = CallFits Began client works first said s

  -- it is this client, with these items
  pub record PhaseHolds (said : List Act) (p : Phase) : Type 0 where
    pub number : (lasting_of p).number ≡ client
    pub its : (lasting_of p).items.works ≡ works
    pub fits : PhaseFits said p

  pub record Turned (w : Went_to) : Type 0 where
    pub holds : PhaseHolds (acts_of me w.outs) w.state
    pub founded : Founded me F [] w.outs

  unmoved : (p : Phase) → PhaseHolds [] p → Turned (still p)
  unmoved p h = record { holds = h; founded = tt }

  pub serves : (said : List Act) (s : Serving) → PhaseHolds said (Serves s) → Holds Began client works first said s
  serves said s h = record { number = h.number; its = h.its; fits = h.fits }

  served : (d : Done) → Runs Began client works first [] d → Turned (record { state = Serves d.state; outs = d.outs })
  served d r = record { holds = record { number = r.holds.number; its = r.holds.its; fits = r.holds.fits }; founded = r.founded }

  -- ---- an opening

  restart_done : (w : Option Work) (item : ℕ) (chain : List SegName) (said : List Act) (done : ℕ → Type 0) → IsRestart w → In (act.Back client chain) said
      → For w item said done answer.Done
  restart_done (Some (work.Restart node)) item chain said done is among = ((chain, among), tt)
  restart_done _ item chain said done is among = absurd is

  module _ (l : Lasting) (o : openings.Opening) (capacity : ℕ) (h : PhaseHolds [] (Opening l o)) where
    -- it is back: that is acted, and then the restart is answered
    back_founded : (chain : List SegName) (pushed : List Effect) → AllPlain pushed → (said : List Act)
        → Founded me F (said ++ act.Back l.number chain ∷ []) (pushed ++ answers_unanswered l.items.unanswered answer.Done)
    back_founded chain pushed plain said =
        founded_then me F grow more pushed (answers_unanswered l.items.unanswered answer.Done) (plain_founded me F grow more pushed plain)
        (open_founded me F grow (acted me more pushed) l.items.unanswered answer.Done
        (λ item waits. restart_done (asked_at works item) item chain (acted me more pushed) (DoneIn []) (h.fits item waits)
        (acted_before me (act.Back client chain) more pushed (in_behind (act.Back client chain) said _ (inl (ap (λ n. act.Back n chain) (sym h.number)))))))
      where
        more : List Act
        more = said ++ act.Back l.number chain ∷ []

    opened_so : (w : Went) → AllPlain w.effects → Turned (opened_on l capacity w)
    opened_so w plain = by w.progress
      where
        before : Founded me F [] w.effects
        before = plain_founded me F grow [] w.effects plain

        by : (p : Progress) → Turned (saying w.effects (phase_after (record l { questions = w.questions }) capacity p))
        by (progress.Opening r) = record {
          holds = record { number = h.number; its = h.its; fits = h.fits };
          founded = founded_then me F grow [] w.effects [] before tt;
        }
        by (progress.Opened r) = record {
          holds = record { number = h.number; its = h.its; fits = λ item waits call fact. absurd (no_item item waits) };
          founded = founded_then me F grow [] w.effects _ before (
            tt,
            back_founded r.chain (push_all r.promised.managers r.feed) (all_pushed_plain Answering r.promised.managers r.feed) (acted me [] w.effects),
          );
        }
        by (progress.Lost name) = record {
          holds = record { number = h.number; its = h.its; fits = tt };
          founded = founded_then me F grow [] w.effects (answers_unanswered l.items.unanswered (answer.Lost name)) before
              (open_founded me F grow (acted me [] w.effects) l.items.unanswered (answer.Lost name) (λ item waits. (tt, tt)));
        }

  -- ---- an item begins

  -- the open item is cut, and the item that begins is answered, which asks for a crash
  crash_founded : (said : List Act) (o : Option ℕ) (number : ℕ) (node : NodeId) → asked_at works number ≡ Some (work.Crash node)
      → Founded me F said (answers_unanswered o answer.Cut ++ Answers number answer.Done ∷ [])
  crash_founded said o number node asked = by o
    where
      done : (acts : List Act) → F number acts (DoneIn []) answer.Done
      done acts = subst (λ w. For w number acts (DoneIn []) answer.Done) (sym asked) (tt, tt)

      falls : Falls (asked_at works number)
      falls = subst Falls (sym asked) tt

      by : (p : Option ℕ) → Founded me F said (answers_unanswered p answer.Cut ++ Answers number answer.Done ∷ [])
      by None = (done said, tt)
      by (Some item) = (((number, (falls, inl refl)), tt), (done (said ++ act.Answered me item answer.Cut ∷ []), tt))

  module _ (l : Lasting) (number : ℕ) (numbered : l.number ≡ client) (its : l.items.works ≡ works) where
    abbrev m : Lasting
    m = record l { items = items_begin l.items }

    its_begun : m.items.works ≡ works
    its_begun = begun_works l.items ∙ its

    restart_fits : (node : NodeId) → asked_at works number ≡ Some (work.Restart node) → (item : ℕ) → Some number ≡ Some item → IsRestart (asked_at works item)
    restart_fits node asked item waits =
        subst (λ n. IsRestart (asked_at works n)) (one_number number item waits) (subst IsRestart (sym asked) tt)

    down_so : (servers : ℕ) (wanted : Option Work) → asked_at works number ≡ wanted → Turned (down_begins servers m number (wish_of wanted))
    down_so servers None asked = record { holds = record { number = numbered; its = its_begun; fits = tt }; founded = ((tt, tt), tt) }
    down_so servers (Some (work.Restart node)) asked =
        record { holds = record { number = numbered; its = its_begun; fits = restart_fits node asked }; founded = tt }
    down_so servers (Some (work.Crash node)) asked = record { holds = record { number = numbered; its = its_begun; fits = tt }; founded = ((tt, tt), tt) }
    down_so servers (Some other) asked = record { holds = record { number = numbered; its = its_begun; fits = tt }; founded = ((tt, tt), tt) }

    opening_so : (o : openings.Opening) → ((item : ℕ) → IsOpen l.items item → IsRestart (asked_at works item)) → (wanted : Option Work)
        → asked_at works number ≡ wanted → Turned (opening_begins m o number (wish_of wanted))
    opening_so o fits None asked = record {
      holds = record { number = numbered; its = its_begun; fits = λ item waits. fits item (sym (begun_open l.items) ∙ waits) };
      founded = ((tt, tt), tt);
    }
    opening_so o fits (Some (work.Crash node)) asked = record {
      holds = record { number = numbered; its = its_begun; fits = tt };
      founded = crash_founded [] m.items.unanswered number node asked;
    }
    opening_so o fits (Some (work.Restart node)) asked = record {
      holds = record { number = numbered; its = its_begun; fits = λ item waits. fits item (sym (begun_open l.items) ∙ waits) };
      founded = ((tt, tt), tt);
    }
    opening_so o fits (Some other) asked = record {
      holds = record { number = numbered; its = its_begun; fits = λ item waits. fits item (sym (begun_open l.items) ∙ waits) };
      founded = ((tt, tt), tt);
    }

  -- its next item has begun
  pub begun_holds : (s : Serving) → Holds Began client works first [] s
      → Holds Began client works first [] (record s { lasting = record s.lasting { items = items_begin s.lasting.items } })
  begun_holds s h = record {
    number = h.number;
    its = begun_works s.lasting.items ∙ h.its;
    fits = λ item waits call fact. h.fits item (sym (begun_open s.lasting.items) ∙ waits) call fact;
  }

  module _ (s : Serving) (number : ℕ) (began : Began number first) (h : Holds Began client works first [] s) where
    abbrev t : Serving
    t = record s { lasting = record s.lasting { items = items_begin s.lasting.items } }

    t_holds : Holds Began client works first [] t
    t_holds = begun_holds s h

    opens_so : (wanted : Option Work) → asked_at works number ≡ wanted → IsNoRestart Began client works first wanted
        → Turned (record { state = Serves (opens t number).state; outs = (opens t number).outs })
    opens_so wanted asked none =
        served (opens t number)
        (opens_run Began client works first [] t number t_holds began (subst (IsNoRestart Began client works first) (sym asked) none))

    serving_so : (wanted : Option Work) → asked_at works number ≡ wanted → Turned (serving_begins t number (wish_of wanted))
    serving_so None asked = opens_so None asked tt
    serving_so (Some (work.Crash node)) asked = record {
      holds = record { number = h.number; its = begun_works s.lasting.items ∙ h.its; fits = tt };
      founded = (tt, crash_founded _ t.lasting.items.unanswered number node asked);
    }
    serving_so (Some (work.Restart node)) asked =
        let more = more_holds Began client works first [] (act.Answered me number answer.Up ∷ []) t t_holds in
        record { holds = record { number = more.number; its = more.its; fits = more.fits }; founded = ((tt, tt), tt) }
    serving_so (Some other) asked = opens_so (Some other) asked tt

  item_so : (servers : ℕ) (p : Phase) (number : ℕ) (wanted : Option Work) → Began number first → PhaseHolds [] p → asked_at works number ≡ wanted
      → Turned (item_begins servers (with_begun p) number (wish_of wanted))
  item_so servers (Down l) number wanted began h asked = down_so l number h.number h.its servers wanted asked
  item_so servers (Opening l o) number wanted began h asked = opening_so l number h.number h.its o h.fits wanted asked
  item_so servers (Serves s) number wanted began h asked = serving_so s number began (serves [] s h) wanted asked

  begun_items : (p : Phase) → (lasting_of (with_begun p)).items ≡ items_begin (lasting_of p).items
  begun_items (Down l) = refl
  begun_items (Opening l o) = refl
  begun_items (Serves s) = refl

  -- its next item begins behind the acts of the run
  abbrev pub BeginsNext : Phase → Type 0
  BeginsNext p = (number : ℕ) → next_item (lasting_of p).items ≡ Some number → Began number first

  begin_turned : (servers : ℕ) (p : Phase) → BeginsNext p → PhaseHolds [] p → Turned (on_begin servers p)
  unfolding on_begin
  begin_turned servers p next h = by (next_item (lasting_of p).items) refl
    where
      its : (lasting_of (with_begun p)).items.works ≡ works
      its = ap (λ (i : Items). i.works) (begun_items p) ∙ (begun_works (lasting_of p).items ∙ h.its)

      by : (item : Option ℕ) → next_item (lasting_of p).items ≡ item → Turned (begins_item servers p item)
      by None fact = unmoved p h
      by (Some number) fact =
          item_so servers p number (work_at (lasting_of (with_begun p)).items number) (next number fact) h
          (sym (ap (λ (ws : List Work). asked_at ws number) its))

  -- ---- packets and time

  runs_then : (s : Serving) (d : Done) → Holds Began client works first [] s → Goes s d → Turned (then_runs d)
  runs_then s d h g =
      let r : Runs Began client works first [] d = goes_run Began client works first [] s d g h in
      served (saying d.outs (run d.state))
      (runs_behind Began client works first [] d (run d.state) r (all_run Began client works first (acts_of me d.outs) d.state r.holds))

  deliver_turned : (capacity : ℕ) (p : Phase) (packet : Packet) → PhaseHolds [] p → Turned (on_deliver capacity p packet)
  unfolding on_deliver
  deliver_turned capacity (Down l) packet h = unmoved (Down l) h
  deliver_turned capacity (Opening l o) packet h =
      opened_so l o capacity h (opening.opening_take o l.questions packet)
      (behaves_plain o.known.owner (opening.opening_take o l.questions packet) (behaving.packet_so o l.questions packet))
  deliver_turned capacity (Serves s) packet h = runs_then s (serving_take s packet) (serves [] s h) (packet_goes s packet)

  time_turned : (capacity : ℕ) (p : Phase) → PhaseHolds [] p → Turned (client_tick capacity p)
  unfolding client_tick
  time_turned capacity (Down l) h = unmoved (Down l) h
  time_turned capacity (Opening l o) h =
      opened_so l o capacity h (opening.on_tick o l.questions)
      (behaves_plain o.known.owner (opening.on_tick o l.questions) (behaving.tick_so o l.questions))
  time_turned capacity (Serves s) h = runs_then s (on_tick s) (serves [] s h) (tick_goes s)

  happens_turned : (c : Client) (what : Do) → (what ≡ Begin → BeginsNext c.phase) → PhaseHolds [] c.phase → Turned (happens c what)
  happens_turned c Begin next h = begin_turned c.peers.servers c.phase (next refl) h
  happens_turned c (Deliver packet) next h =
      by_test Turned (is_well_formed c.peers packet) (on_deliver c.cache c.phase packet) (still c.phase) (λ _. deliver_turned c.cache c.phase packet h)
      (λ _. unmoved c.phase h)
  happens_turned c Tick next h = time_turned c.cache c.phase h

  pub client_answers : (c : Client) (what : Do) → (what ≡ Begin → BeginsNext c.phase) → PhaseHolds [] c.phase → Turned (takes c what)
  client_answers c what next h =
      by_test Turned (client_has_room c) (happens c what) (still c.phase) (λ _. happens_turned c what next h) (λ _. unmoved c.phase h)

-- ---- from event to event

module _ (Began : ℕ → List Act → Type 0) (client : ℕ) (works : List Work) (first said : List Act) where
  -- what an event acted was acted before the next
  pub then_holds : (p : Phase) → PhaseHolds Began client works first said p → PhaseHolds Began client works (first ++ said) [] p
  then_holds (Down l) h = record { number = h.number; its = h.its; fits = tt }
  then_holds (Opening l o) h = record { number = h.number; its = h.its; fits = h.fits }
  then_holds (Serves s) h = record {
    number = h.number;
    its = h.its;
    fits = λ item waits call fact. fits_on Began client works first said item call.plan call.step (asked_at works item) (h.fits item waits call fact);
  }

  -- what others act
  pub beside_holds : (p : Phase) → PhaseHolds Began client works first [] p → PhaseHolds Began client works (first ++ said) [] p
  beside_holds (Down l) h = then_holds (Down l) (record { number = h.number; its = h.its; fits = tt })
  beside_holds (Opening l o) h = then_holds (Opening l o) (record { number = h.number; its = h.its; fits = h.fits })
  beside_holds (Serves s) h =
      let more = more_holds Began client works first [] said s (record { number = h.number; its = h.its; fits = h.fits }) in
      then_holds (Serves s) (record { number = more.number; its = more.its; fits = more.fits })
