-- What an event of a manager answers it may answer, and its open item stays one that is counted.
use Rattle.std.proofs.Common.{◌≡◌, ℕ, List, [], ◌∷◌, Option, Some, None, is_some, refl, sym, ap, subst, ◌∙◌}
use Rattle.core_world.specs.declared.any_node.AnyNode.{AnyNode}
use Rattle.core_world.specs.declared.any_node.AnyNode.TheVariants as any
use Rattle.manager_node.specs.declared.manager.Manager.{Manager}
use Rattle.manager_node.specs.declared.phase.Phase.{Phase}
use Rattle.manager_node.specs.declared.phase.Phase.TheVariants.{Down, Waiting, Serving as Serves}
use Rattle.manager_node.specs.Events as manager
use Rattle.manager_node.specs.Phases.{Went_to, begin_down, begin_serving, begin_waiting, crash, down_item, down_wish, lasting_of, on_begin, phase_has_room, restart, serves, serving_item, serving_wish, waiting_item, waiting_wish, wish_at, with_begun}
use Rattle.manager_serving.specs.Checkpoints as checkpoints
use Rattle.manager_serving.specs.Checkpoints.{Done}
use Rattle.manager_serving.specs.declared.serving.Serving.{Serving}
use Rattle.manager_serving.specs.Serving as serving
use Rattle.manager_slots.specs.declared.lasting.Lasting.{Lasting as Life}
use Rattle.manager_slots.specs.Lasting.{lasting_answer}
use Rattle.node_base.specs.Beginning.{next_item, work_at}
use Rattle.node_base.specs.declared.effects.Effect.TheVariants.{Answer as Answers}
use Rattle.node_base.specs.declared.peers.Peers.{Peers}
use Rattle.node_base.specs.Maps.{forgotten}
use Rattle.node_base.specs.Shape.{is_well_formed}
use Rattle.serving_moves.proofs.item_moves.ManagerServing.{Goes, news_goes, next_goes, packet_goes, tick_goes}
use Rattle.serving_moves.specs.item_moves.Moves.Losses.{Telling}
use Rattle.version_model.specs.declared.answer.Answer.TheVariants as answer
use Rattle.version_model.specs.declared.work.Work.{Work}
use Rattle.version_model.specs.declared.work.Work.TheVariants as work
use Rattle.wire_msg.specs.declared.body.Body.{Body}
use Rattle.wire_msg.specs.declared.body.Body.TheVariants as body
use Rattle.wire_msg.specs.declared.packet.Do.{Do}
use Rattle.wire_msg.specs.declared.packet.Do.TheVariants.{Begin, Deliver, Tick}
use Rattle.wire_msg.specs.declared.packet.Packet.{Packet}
use Rattle.xfs_base.proofs.Booleans.{by_test}
use Rattle.xfs_base.specs.declared.node.NodeId.{NodeId}
use Rattle.xfs_base.specs.Steps.{still}
use Rattle.run_answers.proofs.once_law.Items.{begun_open, begun_works}
use Rattle.run_answers.proofs.standing_law.Allowed.{May, at_once, counts_meet, falls_meet, is_open}
use Rattle.run_answers.proofs.standing_law.Meeting.{AllMeet, Moved, none_open, one_number}
use Rattle.headline.specs.Items.{IsOpen, asked_at}
use Rattle.headline.specs.Standings.{IsCounted, IsDone, standing}
use Rattle.headline.specs.Standings.Standing.{Serves as Stands}

-- what a manager is asked
abbrev pub IsManagers : Option Work → Type 0
IsManagers (Some (work.Crash node)) = Unit {0}
IsManagers (Some (work.Restart node)) = Unit {0}
IsManagers (Some (work.Checkpoint manager)) = Unit {0}
IsManagers _ = ⊥

module _ (works : List Work) where
  -- what a manager has open is counted
  abbrev pub Asks : Phase → Type 0
  Asks p = (item : ℕ) → IsOpen (lasting_of p).items item → IsCounted (asked_at works item)

  module _ (m : Manager) where
    -- the manager in this phase
    abbrev in_phase : Phase → AnyNode
    in_phase p = any.Manager (record m { phase = p })

    pub record Turned (p : Phase) (w : Went_to) : Type 0 where
      pub asks : Asks w.state
      pub meets : AllMeet (May works (in_phase p) (in_phase w.state)) w.outs

    unmoved : (p : Phase) → Asks p → Turned p (still p)
    unmoved p asks = record { asks = asks; meets = tt }

    served : (p : Phase) (s : Serving) (d : Done) → standing (in_phase p) ≡ Stands → Asks (Serves s) → Goes s d → Turned p (serves d)
    served p s d up asks g =
        let moved : Moved (May works (in_phase p) (in_phase (Serves d.state))) (IsOpen s.lasting.items) d.outs d.state.lasting.items =
        counts_meet works (in_phase p) (in_phase (Serves d.state)) (IsOpen s.lasting.items) up Telling asks s.lasting.items d.state.lasting.items d.outs (λ item waits. waits)
        g.moves in
        record { asks = λ item waits. asks item (moved.opens item waits); meets = moved.meets }

    -- ---- an item begins

    module _ (life : Life) (number : ℕ) (next : next_item life.items ≡ Some number) (own : IsManagers (asked_at works number))
        (asks : (item : ℕ) → IsOpen life.items item → IsCounted (asked_at works item)) where
      abbrev now : Life
      now = with_begun life

      still_asks : (item : ℕ) → IsOpen now.items item → IsCounted (asked_at works item)
      still_asks item waits = asks item (sym (begun_open life.items) ∙ waits)

      -- what was open is cut
      crash_so : (p : Phase) → ((item : ℕ) → IsOpen life.items item → IsOpen (lasting_of p).items item) → (node : NodeId) → asked_at works number ≡ Some (work.Crash node)
          → IsDone (in_phase p) (in_phase (Down (lasting_answer now))) number (Some (work.Crash node)) → Turned p (crash now number)
      unfolding crash
      crash_so p opens node asked done = record {
        asks = λ item waits. absurd (none_open item waits);
        meets = falls_meet works (in_phase p) (in_phase (Down (lasting_answer now))) now.items.unanswered number (Some (work.Crash node))
            (λ item waits. opens item (sym (begun_open life.items) ∙ waits)) refl asked done Telling [] tt;
      }

      down_so : (wanted : Option Work) → asked_at works number ≡ wanted → Turned (Down life) (down_wish now number (wish_at wanted))
      unfolding restart
      down_so (Some (work.Restart node)) asked = record {
        asks = still_asks;
        meets = (subst (λ w. IsDone (in_phase (Down life)) (in_phase (restart now number).state) number w) (sym asked) (λ e. cc, refl), (tt, tt));
      }
      down_so (Some (work.Crash node)) asked = record {
        asks = still_asks;
        meets = at_once works (in_phase (Down life)) (in_phase (Down now)) number (Some (work.Crash node)) answer.Down asked (next, (refl, refl));
      }
      down_so (Some (work.Checkpoint k)) asked = record {
        asks = still_asks;
        meets = at_once works (in_phase (Down life)) (in_phase (Down now)) number (Some (work.Checkpoint k)) answer.Down asked (next, (λ e. cc, refl));
      }
      down_so _ asked = absurd (subst IsManagers asked own)

      waiting_so : (hello : ℕ) (wanted : Option Work) → asked_at works number ≡ wanted → Turned (Waiting life hello) (waiting_wish now hello number (wish_at wanted))
      waiting_so hello (Some (work.Crash node)) asked = crash_so (Waiting life hello) (λ item waits. waits) node asked (next, (λ e. cc, refl))
      waiting_so hello (Some (work.Restart node)) asked = record {
        asks = still_asks;
        meets = at_once works (in_phase (Waiting life hello)) (in_phase (Waiting now hello)) number (Some (work.Restart node)) answer.Up asked
            (next, (tt, (λ e. cc, refl)));
      }
      waiting_so hello (Some (work.Checkpoint k)) asked = record {
        asks = still_asks;
        meets = at_once works (in_phase (Waiting life hello)) (in_phase (Waiting now hello)) number (Some (work.Checkpoint k)) (answer.Count 0) asked (tt, refl);
      }
      waiting_so hello _ asked = absurd (subst IsManagers asked own)

    module _ (s : Serving) (number : ℕ) (next : next_item s.lasting.items ≡ Some number) (own : IsManagers (asked_at works number)) (asks : Asks (Serves s)) where
      abbrev t : Serving
      t = record s { lasting = with_begun s.lasting }

      -- a checkpoint begins, which is refused while another is open
      checkpoint_so : (k : ℕ) → asked_at works number ≡ Some (work.Checkpoint k) → Turned (Serves s) (serves (checkpoints.on_checkpoint t number))
      unfolding checkpoints.on_checkpoint
      checkpoint_so k asked =
          by_test (λ (d : Done). Turned (Serves s) (serves d)) (is_some t.lasting.items.unanswered) (checkpoints.gives t (Answers number answer.Busy ∷ []))
          (checkpoints.next_slot (checkpoints.waits t number)) (λ waits. busy (is_open t.lasting.items.unanswered waits)) (λ _. from_waiting)
        where
          counted : IsCounted (asked_at works number)
          counted = subst IsCounted (sym asked) tt

          busy : (n : ℕ) × (t.lasting.items.unanswered ≡ Some n) → Turned (Serves s) (serves (checkpoints.gives t (Answers number answer.Busy ∷ [])))
          busy other = record {
            asks = still_asks s.lasting number next own asks;
            meets = at_once works (in_phase (Serves s)) (in_phase (Serves t)) number (Some (work.Checkpoint k)) answer.Busy asked
                (next, ((tt, refl), (other.0, (sym (begun_open s.lasting.items) ∙ other.1, other.1))));
          }

          from_waiting : Turned (Serves s) (serves (checkpoints.next_slot (checkpoints.waits t number)))
          from_waiting =
              let u : Serving = checkpoints.waits t number in
              served (Serves s) u (checkpoints.next_slot u) refl (λ item waits. subst (λ n. IsCounted (asked_at works n)) (one_number number item waits) counted)
              (next_goes u)

      serving_so : (wanted : Option Work) → asked_at works number ≡ wanted → Turned (Serves s) (serving_wish t number (wish_at wanted))
      serving_so (Some (work.Crash node)) asked = crash_so s.lasting number next own asks (Serves s) (λ item waits. waits) node asked (next, (λ e. cc, refl))
      serving_so (Some (work.Restart node)) asked = record {
        asks = still_asks s.lasting number next own asks;
        meets = at_once works (in_phase (Serves s)) (in_phase (Serves t)) number (Some (work.Restart node)) answer.Up asked (next, (tt, (λ e. cc, refl)));
      }
      serving_so (Some (work.Checkpoint k)) asked = checkpoint_so k asked
      serving_so _ asked = absurd (subst IsManagers asked own)

    -- each item that it may begin is one of a manager
    abbrev pub Own : Phase → Type 0
    Own p = (number : ℕ) → next_item (lasting_of p).items ≡ Some number → IsManagers (asked_at works number)

    asked_is : (ws : List Work) (number : ℕ) → ws ≡ works → asked_at works number ≡ asked_at ws number
    asked_is ws number same = sym (ap (λ (xs : List Work). asked_at xs number) same)

    begin_so : (p : Phase) → (lasting_of p).items.works ≡ works → Own p → Asks p → Turned p (on_begin p)
    unfolding begin_down begin_waiting begin_serving
    begin_so (Down life) has own asks = by (next_item life.items) refl
      where
        by : (item : Option ℕ) → next_item life.items ≡ item → Turned (Down life) (down_item (with_begun life) item)
        by None fact = record { asks = λ item waits. asks item (sym (begun_open life.items) ∙ waits); meets = tt }
        by (Some number) fact =
            down_so life number fact (own number fact) asks (work_at (with_begun life).items number)
            (asked_is (with_begun life).items.works number (begun_works life.items ∙ has))
    begin_so (Waiting life hello) has own asks = by (next_item life.items) refl
      where
        by : (item : Option ℕ) → next_item life.items ≡ item → Turned (Waiting life hello) (waiting_item (with_begun life) hello item)
        by None fact = record { asks = λ item waits. asks item (sym (begun_open life.items) ∙ waits); meets = tt }
        by (Some number) fact =
            waiting_so life number fact (own number fact) asks hello (work_at (with_begun life).items number)
            (asked_is (with_begun life).items.works number (begun_works life.items ∙ has))
    begin_so (Serves s) has own asks = by (next_item s.lasting.items) refl
      where
        by : (item : Option ℕ) → next_item s.lasting.items ≡ item → Turned (Serves s) (serving_item (record s { lasting = with_begun s.lasting }) item)
        by None fact = record { asks = λ item waits. asks item (sym (begun_open s.lasting.items) ∙ waits); meets = tt }
        by (Some number) fact =
            serving_so s number fact (own number fact) asks (work_at (with_begun s.lasting).items number)
            (asked_is (with_begun s.lasting).items.works number (begun_works s.lasting.items ∙ has))

    -- ---- packets and time

    awaited_so : (peers : Peers) (life : Life) (hello : ℕ) (b : Body) → Asks (Waiting life hello) → Turned (Waiting life hello) (manager.on_waiting peers life hello b)
    unfolding manager.on_welcome
    awaited_so peers life hello (body.Welcome welcome) asks =
        let s : Serving = serving.again life (forgotten peers.servers) welcome.news.groups in
        by_test (Turned (Waiting life hello)) (manager.takes_welcome peers life hello welcome) (serves (serving.on_news s peers.clients welcome.news))
        (still (Waiting life hello))
        (λ _.
        served (Waiting life hello) s (serving.on_news s peers.clients welcome.news) refl asks (news_goes s peers.clients welcome.news))
        (λ _. unmoved (Waiting life hello) asks)
    awaited_so peers life hello _ asks = unmoved (Waiting life hello) asks

    gets_so : (peers : Peers) (p : Phase) (packet : Packet) → Asks p → Turned p (manager.on_packet peers p packet)
    gets_so peers (Down life) packet asks = unmoved (Down life) asks
    gets_so peers (Waiting life hello) packet asks = awaited_so peers life hello packet.body asks
    gets_so peers (Serves s) packet asks =
        served (Serves s) s (serving.serving_hear s peers.clients packet) refl asks (packet_goes s peers.clients packet)

    time_so : (p : Phase) → Asks p → Turned p (manager.on_time p)
    unfolding manager.on_time
    time_so (Down life) asks = unmoved (Down life) asks
    time_so (Waiting life hello) asks = record { asks = asks; meets = (tt, tt) }
    time_so (Serves s) asks = served (Serves s) s (serving.on_tick s) refl asks (tick_goes s)

    event_so : (p : Phase) (what : Do) → (lasting_of p).items.works ≡ works → Own p → Asks p → Turned p (manager.on_event m.peers p what)
    unfolding manager.manager_deliver
    event_so p Begin has own asks = begin_so p has own asks
    event_so p (Deliver packet) has own asks =
        by_test (Turned p) (is_well_formed m.peers packet) (manager.on_packet m.peers p packet) (still p) (λ _. gets_so m.peers p packet asks)
        (λ _. unmoved p asks)
    event_so p Tick has own asks = time_so p asks

    pub manager_fits : (what : Do) → (lasting_of m.phase).items.works ≡ works → Own m.phase → Asks m.phase → Turned m.phase (manager.happens m what)
    unfolding manager.happens
    manager_fits what has own asks =
        by_test (Turned m.phase) (phase_has_room m.phase) (manager.on_event m.peers m.phase what) (still m.phase)
        (λ _. event_so m.phase what has own asks) (λ _. unmoved m.phase asks)
