-- What an event of the cleaner answers it may answer, and its open item stays one that it may have open.
use Rattle.std.proofs.Common.{◌≡◌, ℕ, List, [], ◌∷◌, ◌++◌, Option, Some, None, is_some, refl, sym, ap, subst, ◌∙◌}
use Rattle.cleaner_job.specs.declared.lasting.Lasting.{Lasting}
use Rattle.cleaner_node.specs.CleanerEvents.{Went_to, after_opening, begun_life, crash, down_at, down_wishes, happens, cleaner_hear, lasting_of, on_begin, on_deliver, on_time, opened_on, opening_at, opening_wishes, phase_has_room, restart, serves_on, serving_at, serving_wishes, takes, wish_of}
use Rattle.cleaner_node.specs.declared.cleaner.Cleaner.{Cleaner}
use Rattle.cleaner_node.specs.declared.cleaner.Phase.{Phase}
use Rattle.cleaner_node.specs.declared.cleaner.Phase.TheVariants.{Down, Opening, Serving}
use Rattle.cleaner_serving.specs.declared.emptying.Emptying.{Emptying}
use Rattle.cleaner_serving.specs.EmptyingEvents.{begin_job, on_clean, on_packet, on_tick, with_new_job}
use Rattle.cleaner_serving.specs.Jobs.{Done}
use Rattle.core_world.specs.declared.any_node.AnyNode.{AnyNode}
use Rattle.core_world.specs.declared.any_node.AnyNode.TheVariants as any
use Rattle.log_owner.proofs.Behaving as behaving
use Rattle.log_owner.specs.declared.opened.Progress.{Progress}
use Rattle.log_owner.specs.declared.opened.Progress.TheVariants as progress
use Rattle.log_owner.specs.declared.opening.Opening as openings
use Rattle.log_owner.specs.Opening as opening
use Rattle.log_owner.specs.Opening.{Went}
use Rattle.log_owner.specs.Sending.{push_all}
use Rattle.node_base.specs.Beginning.{items_answer, answers_unanswered, next_item, work_at}
use Rattle.node_base.specs.declared.effects.Effect.{Effect}
use Rattle.node_base.specs.declared.effects.Effect.TheVariants.{Answer as Answers}
use Rattle.node_base.specs.declared.peers.Peers.{Peers}
use Rattle.node_base.specs.Shape.{is_well_formed}
use Rattle.serving_moves.proofs.item_moves.Emptying.{begins_go, packet_goes, tick_goes}
use Rattle.serving_moves.proofs.item_moves.Keeping.{all_pushed_plain}
use Rattle.serving_moves.proofs.item_moves.Openings.{behaves_plain}
use Rattle.serving_moves.specs.item_moves.Moves.{AllPlain, IsCount, Moves}
use Rattle.serving_moves.specs.item_moves.Moves.Losses.{Silent, Answering}
use Rattle.version_model.specs.declared.answer.Answer.{Answer}
use Rattle.version_model.specs.declared.answer.Answer.TheVariants as answer
use Rattle.version_model.specs.declared.work.Work.{Work}
use Rattle.version_model.specs.declared.work.Work.TheVariants as work
use Rattle.wire_msg.specs.declared.packet.Do.{Do}
use Rattle.wire_msg.specs.declared.packet.Do.TheVariants.{Begin, Deliver, Tick}
use Rattle.wire_msg.specs.declared.packet.Packet.{Packet}
use Rattle.xfs_base.proofs.Alls.{all_append}
use Rattle.xfs_base.proofs.Booleans.{by_test}
use Rattle.xfs_base.specs.declared.node.NodeId.{NodeId}
use Rattle.xfs_base.specs.Steps.{saying, still}
use Rattle.run_answers.proofs.once_law.Items.{begun_open, begun_works}
use Rattle.run_answers.proofs.standing_law.Allowed.{May, at_once, counts_meet, falls_meet, is_open, restart_done}
use Rattle.run_answers.proofs.standing_law.Meeting.{AllMeet, Meets, Moved, none_open, one_number, open_meets, plain_meets}
use Rattle.headline.specs.Items.{IsOpen, asked_at}
use Rattle.headline.specs.Standings.{IsCounted, IsRestart}

-- what the cleaner is asked
abbrev pub IsCleaners : Option Work → Type 0
IsCleaners (Some (work.Crash node)) = Unit {0}
IsCleaners (Some (work.Restart node)) = Unit {0}
IsCleaners (Some (work.Clean count)) = Unit {0}
IsCleaners _ = ⊥

module _ (works : List Work) where
  -- the item that is open while it opens its log is a restart, and while it serves one that is counted
  abbrev pub Asks : Phase → Type 0
  Asks (Down l) = Unit {0}
  Asks (Opening l o) = (item : ℕ) → IsOpen l.items item → IsRestart (asked_at works item)
  Asks (Serving e) = (item : ℕ) → IsOpen e.lasting.items item → IsCounted (asked_at works item)

  module _ (c : Cleaner) where
    -- the cleaner in this phase
    abbrev in_phase : Phase → AnyNode
    in_phase p = any.Cleaner (record c { phase = p })

    pub record Turned (p : Phase) (w : Went_to) : Type 0 where
      pub asks : Asks w.state
      pub meets : AllMeet (May works (in_phase p) (in_phase w.state)) w.outs

    unmoved : (p : Phase) → Asks p → Turned p (still p)
    unmoved p asks = record { asks = asks; meets = tt }

    served : (e f : Emptying) (d : Done) → Asks (Serving f) → Moves Silent IsCount f.lasting.items d.outs d.state.lasting.items → Turned (Serving e) (serves_on d)
    served e f d asks moves =
        let moved : Moved (May works (in_phase (Serving e)) (in_phase (Serving d.state))) (IsOpen f.lasting.items) d.outs d.state.lasting.items =
        counts_meet works (in_phase (Serving e)) (in_phase (Serving d.state)) (IsOpen f.lasting.items) refl Silent asks f.lasting.items d.state.lasting.items d.outs
        (λ item waits. waits) moves in
        record { asks = λ item waits. asks item (moved.opens item waits); meets = moved.meets }

    -- ---- an opening

    opened_so : (l : Lasting) (o : openings.Opening) → Asks (Opening l o) → (w : Went) → AllPlain Answering w.effects → Turned (Opening l o) (opened_on l w)
    unfolding after_opening
    opened_so l o asks w plain = by w.progress
      where
        now : Lasting
        now = record l { questions = w.questions }

        Now : Phase → ℕ → Answer → Type 0
        Now q = May works (in_phase (Opening l o)) (in_phase q)

        by : (p : Progress) → Turned (Opening l o) (saying w.effects (after_opening now p))
        by (progress.Opening r) =
            record { asks = asks; meets = all_append (Meets (Now (Opening now r))) w.effects [] (plain_meets (Now (Opening now r)) Answering w.effects plain) tt }
        by (progress.Opened r) =
            let q : Phase = (after_opening now (progress.Opened r)).state in
            let pushed : List Effect = push_all r.promised.managers r.feed in
            record {
              asks = λ item waits. absurd (none_open item waits);
              meets = all_append (Meets (Now q)) w.effects (pushed ++ answers_unanswered l.items.unanswered answer.Done) (plain_meets (Now q) Answering w.effects plain)
                  (all_append (Meets (Now q)) pushed (answers_unanswered l.items.unanswered answer.Done)
                  (plain_meets (Now q) Answering pushed (all_pushed_plain Answering r.promised.managers r.feed))
                  (open_meets (Now q) l.items.unanswered answer.Done
                  (λ item waits. restart_done (in_phase (Opening l o)) (in_phase q) item (asked_at works item) (asks item waits) (λ e. cc) refl)));
            }
        by (progress.Lost name) =
            let q : Phase = (after_opening now (progress.Lost name)).state in
            record {
              asks = tt;
              meets = all_append (Meets (Now q)) w.effects (answers_unanswered l.items.unanswered (answer.Lost name)) (plain_meets (Now q) Answering w.effects plain)
                  (open_meets (Now q) l.items.unanswered (answer.Lost name) (λ item waits fallen. cc));
            }

    -- ---- an item begins

    module _ (l : Lasting) (number : ℕ) (next : next_item l.items ≡ Some number) (own : IsCleaners (asked_at works number)) where
      abbrev now : Lasting
      now = begun_life l

      restarting : (node : NodeId) → asked_at works number ≡ Some (work.Restart node) → (item : ℕ) → Some number ≡ Some item → IsRestart (asked_at works item)
      restarting node asked item waits =
          subst (λ n. IsRestart (asked_at works n)) (one_number number item waits) (subst IsRestart (sym asked) tt)

      down_so : (servers : ℕ) (wanted : Option Work) → asked_at works number ≡ wanted → Turned (Down l) (down_wishes servers now number (wish_of wanted))
      unfolding restart
      down_so servers (Some (work.Restart node)) asked = record { asks = restarting node asked; meets = (tt, tt) }
      down_so servers (Some (work.Crash node)) asked =
          record { asks = tt; meets = at_once works (in_phase (Down l)) (in_phase (Down now)) number (Some (work.Crash node)) answer.Down asked (next, (refl, refl)) }
      down_so servers (Some (work.Clean count)) asked =
          record { asks = tt; meets = at_once works (in_phase (Down l)) (in_phase (Down now)) number (Some (work.Clean count)) answer.Down asked (next, (λ e. cc, refl)) }
      down_so servers _ asked = absurd (subst IsCleaners asked own)

      opening_so : (o : openings.Opening) → Asks (Opening l o) → (wanted : Option Work) → asked_at works number ≡ wanted
          → Turned (Opening l o) (opening_wishes now o number (wish_of wanted))
      unfolding crash
      opening_so o asks (Some (work.Crash node)) asked = record {
        asks = tt;
        meets = falls_meet works (in_phase (Opening l o)) (in_phase (Down (record now { items = items_answer now.items }))) now.items.unanswered number (Some (work.Crash node))
            (λ item waits. sym (begun_open l.items) ∙ waits) refl asked (next, (λ e. cc, refl)) Answering [] tt;
      }
      opening_so o asks (Some (work.Restart node)) asked = record {
        asks = λ item waits. asks item (sym (begun_open l.items) ∙ waits);
        meets = at_once works (in_phase (Opening l o)) (in_phase (Opening now o)) number (Some (work.Restart node)) answer.Up asked (next, (tt, (λ e. cc, refl)));
      }
      opening_so o asks (Some (work.Clean count)) asked = record {
        asks = λ item waits. asks item (sym (begun_open l.items) ∙ waits);
        meets = at_once works (in_phase (Opening l o)) (in_phase (Opening now o)) number (Some (work.Clean count)) answer.Down asked (next, (λ e. cc, refl));
      }
      opening_so o asks _ asked = absurd (subst IsCleaners asked own)

    module _ (e : Emptying) (number : ℕ) (next : next_item e.lasting.items ≡ Some number) (own : IsCleaners (asked_at works number)) (asks : Asks (Serving e)) where
      abbrev f : Emptying
      f = record e { lasting = begun_life e.lasting }

      still_asks : Asks (Serving f)
      still_asks item waits = asks item (sym (begun_open e.lasting.items) ∙ waits)

      -- a job begins, which is refused while another is open
      clean_so : (count : ℕ) → asked_at works number ≡ Some (work.Clean count) → Turned (Serving e) (serves_on (on_clean f number count))
      unfolding on_clean
      clean_so count asked =
          by_test (λ (d : Done). Turned (Serving e) (serves_on d)) (is_some f.lasting.items.unanswered) (record { state = f; outs = Answers number answer.Busy ∷ [] })
          (begin_job f number count) (λ waits. busy (is_open f.lasting.items.unanswered waits)) (λ _. begins)
        where
          counted : IsCounted (asked_at works number)
          counted = subst IsCounted (sym asked) tt

          busy : (n : ℕ) × (f.lasting.items.unanswered ≡ Some n) → Turned (Serving e) (serves_on (record { state = f; outs = Answers number answer.Busy ∷ [] }))
          busy other = record {
            asks = still_asks;
            meets = at_once works (in_phase (Serving e)) (in_phase (Serving f)) number (Some (work.Clean count)) answer.Busy asked
                (next, ((tt, refl), (other.0, (sym (begun_open e.lasting.items) ∙ other.1, other.1))));
          }

          begins : Turned (Serving e) (serves_on (begin_job f number count))
          begins =
              served e (with_new_job f number count) (begin_job f number count)
              (λ item waits. subst (λ n. IsCounted (asked_at works n)) (one_number number item waits) counted) (begins_go f number count).moves

      serving_so : (wanted : Option Work) → asked_at works number ≡ wanted → Turned (Serving e) (serving_wishes f number (wish_of wanted))
      unfolding crash
      serving_so (Some (work.Crash node)) asked = record {
        asks = tt;
        meets = falls_meet works (in_phase (Serving e)) (in_phase (Down (record f.lasting { items = items_answer f.lasting.items }))) f.lasting.items.unanswered number
            (Some (work.Crash node)) (λ item waits. sym (begun_open e.lasting.items) ∙ waits) refl asked (next, (λ e. cc, refl)) Answering [] tt;
      }
      serving_so (Some (work.Restart node)) asked = record {
        asks = still_asks;
        meets = at_once works (in_phase (Serving e)) (in_phase (Serving f)) number (Some (work.Restart node)) answer.Up asked (next, (tt, (λ e. cc, refl)));
      }
      serving_so (Some (work.Clean count)) asked = clean_so count asked
      serving_so _ asked = absurd (subst IsCleaners asked own)

    -- each item that it may begin is one of the cleaner
    abbrev pub Own : Phase → Type 0
    Own p = (number : ℕ) → next_item (lasting_of p).items ≡ Some number → IsCleaners (asked_at works number)

    asked_so : (l : Lasting) (number : ℕ) → l.items.works ≡ works → asked_at works number ≡ work_at (begun_life l).items number
    asked_so l number has = sym (ap (λ (ws : List Work). asked_at ws number) (begun_works l.items ∙ has))

    begin_so : (servers : ℕ) (p : Phase) → (lasting_of p).items.works ≡ works → Own p → Asks p → Turned p (on_begin servers p)
    unfolding on_begin
    begin_so servers (Down l) has own asks = by (next_item l.items) refl
      where
        by : (item : Option ℕ) → next_item l.items ≡ item → Turned (Down l) (down_at servers (begun_life l) item)
        by None fact = record { asks = tt; meets = tt }
        by (Some number) fact = down_so l number fact (own number fact) servers (work_at (begun_life l).items number) (asked_so l number has)
    begin_so servers (Opening l o) has own asks = by (next_item l.items) refl
      where
        by : (item : Option ℕ) → next_item l.items ≡ item → Turned (Opening l o) (opening_at (begun_life l) o item)
        by None fact = record { asks = λ item waits. asks item (sym (begun_open l.items) ∙ waits); meets = tt }
        by (Some number) fact = opening_so l number fact (own number fact) o asks (work_at (begun_life l).items number) (asked_so l number has)
    begin_so servers (Serving e) has own asks = by (next_item e.lasting.items) refl
      where
        by : (item : Option ℕ) → next_item e.lasting.items ≡ item → Turned (Serving e) (serving_at (record e { lasting = begun_life e.lasting }) item)
        by None fact = record { asks = λ item waits. asks item (sym (begun_open e.lasting.items) ∙ waits); meets = tt }
        by (Some number) fact = serving_so e number fact (own number fact) asks (work_at (begun_life e.lasting).items number) (asked_so e.lasting number has)

    -- ---- packets and time

    cleaner_hear_so : (p : Phase) (packet : Packet) → Asks p → Turned p (cleaner_hear p packet)
    unfolding cleaner_hear
    cleaner_hear_so (Down l) packet asks = unmoved (Down l) asks
    cleaner_hear_so (Opening l o) packet asks =
        opened_so l o asks (opening.opening_take o l.questions packet)
        (behaves_plain o.known.owner (opening.opening_take o l.questions packet) (behaving.packet_so o l.questions packet))
    cleaner_hear_so (Serving e) packet asks = served e e (on_packet e packet) asks (packet_goes e packet).moves

    time_so : (p : Phase) → Asks p → Turned p (on_time p)
    unfolding on_time
    time_so (Down l) asks = unmoved (Down l) asks
    time_so (Opening l o) asks =
        opened_so l o asks (opening.on_tick o l.questions)
        (behaves_plain o.known.owner (opening.on_tick o l.questions) (behaving.tick_so o l.questions))
    time_so (Serving e) asks = served e e (on_tick e) asks (tick_goes e).moves

    happens_so : (peers : Peers) (p : Phase) (what : Do) → (lasting_of p).items.works ≡ works → Own p → Asks p → Turned p (happens peers p what)
    unfolding on_deliver
    happens_so peers p Begin has own asks = begin_so peers.servers p has own asks
    happens_so peers p (Deliver packet) has own asks =
        by_test (Turned p) (is_well_formed peers packet) (cleaner_hear p packet) (still p) (λ _. cleaner_hear_so p packet asks) (λ _. unmoved p asks)
    happens_so peers p Tick has own asks = time_so p asks

    pub cleaner_fits : (what : Do) → (lasting_of c.phase).items.works ≡ works → Own c.phase → Asks c.phase → Turned c.phase (takes c.peers c.phase what)
    cleaner_fits what has own asks =
        by_test (Turned c.phase) (phase_has_room c.phase) (happens c.peers c.phase what) (still c.phase) (λ _. happens_so c.peers c.phase what has own asks)
        (λ _. unmoved c.phase asks)
