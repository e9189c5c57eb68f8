-- What an event of the cleaner answers is founded, and the item that is open while it opens its log is a restart.
use Rattle.std.proofs.Common.{◌≡◌, ℕ, List, [], ◌∷◌, ◌++◌, Option, Some, None, inl, refl, sym, ap, subst, ◌∙◌}
use Rattle.cleaner_job.specs.declared.lasting.Lasting.{Lasting}
use Rattle.cleaner_node.specs.CleanerEvents.{Went_to, after_opening, begun_life, crash, down_at, down_wishes, happens, cleaner_hear, lasting_of, on_begin, on_deliver, on_time, opened_on, opening_at, opening_wishes, phase_has_room, restart, serves_on, serving_at, serving_wishes, takes, wish_of}
use Rattle.cleaner_node.specs.declared.cleaner.Cleaner.{Cleaner}
use Rattle.cleaner_node.specs.declared.cleaner.Phase.{Phase}
use Rattle.cleaner_node.specs.declared.cleaner.Phase.TheVariants.{Down, Opening, Serving}
use Rattle.cleaner_serving.specs.declared.emptying.Emptying.{Emptying}
use Rattle.cleaner_serving.specs.EmptyingEvents.{on_clean, on_packet, on_tick}
use Rattle.cleaner_serving.specs.Jobs.{Done}
use Rattle.log_owner.proofs.Behaving as behaving
use Rattle.log_owner.specs.Behaves.{Behaves, IsOf}
use Rattle.log_owner.specs.declared.ended.Owner.{Owner}
use Rattle.log_owner.specs.declared.opened.Progress.{Progress}
use Rattle.log_owner.specs.declared.opened.Progress.TheVariants as progress
use Rattle.log_owner.specs.declared.opening.Opening as openings
use Rattle.log_owner.specs.Opening as opening
use Rattle.log_owner.specs.Opening.{Went}
use Rattle.log_owner.specs.Sending.{name_of, push_all}
use Rattle.node_base.specs.Beginning.{answers_unanswered, next_item, work_at, items_wait}
use Rattle.node_base.specs.declared.effects.Effect.{Effect}
use Rattle.node_base.specs.declared.effects.Effect.TheVariants.{Answer as Answers, Does}
use Rattle.node_base.specs.declared.peers.Peers.{Peers}
use Rattle.node_base.specs.Shape.{is_well_formed}
use Rattle.token_protocol.specs.Basics.{In}
use Rattle.version_model.specs.declared.act.Act.{Act}
use Rattle.version_model.specs.declared.act.Act.TheVariants as act
use Rattle.version_model.specs.declared.answer.Answer.{Answer}
use Rattle.version_model.specs.declared.answer.Answer.TheVariants as answer
use Rattle.version_model.specs.declared.work.Work.{Work}
use Rattle.version_model.specs.declared.work.Work.TheVariants as work
use Rattle.wire_msg.specs.declared.packet.Do.{Do}
use Rattle.wire_msg.specs.declared.packet.Do.TheVariants.{Begin, Deliver, Tick}
use Rattle.wire_msg.specs.declared.packet.Packet.{Packet}
use Rattle.xfs_base.proofs.Booleans.{by_test}
use Rattle.xfs_base.specs.declared.node.NodeId.{NodeId}
use Rattle.xfs_base.specs.declared.node.NodeId.TheVariants.{Cleaner as ACleaner}
use Rattle.xfs_base.specs.declared.segment.End.{End}
use Rattle.xfs_base.specs.declared.segment.LogId.{LogId}
use Rattle.xfs_base.specs.Logs.{cleaner_log}
use Rattle.xfs_base.specs.Steps.{saying, still}
use Rattle.serving_moves.proofs.item_moves.Openings.{behaves_plain}
use Rattle.node_base.specs.declared.items.Items.{Items}
use Rattle.serving_moves.proofs.item_moves.Emptying as emptied
use Rattle.serving_moves.proofs.item_moves.Keeping.{all_plain_more, all_pushed_plain, moves_stay, one_number}
use Rattle.serving_moves.specs.item_moves.Moves.{Begun, IsCount, Moves}
use Rattle.serving_moves.proofs.item_moves.Moves.{IsBusy}
use Rattle.headline.specs.Items.{Falls, IsOpen, asked_at}
use Rattle.serving_moves.specs.item_moves.Moves.Begun.{AtOnce, Waits}
use Rattle.serving_moves.specs.item_moves.Moves.Losses.{Silent, Answering}
use Rattle.run_answers.proofs.act_law.Filing as filing
use Rattle.run_answers.proofs.act_law.Filing.{Owns, SaysFiled, StageOwn, WentSo}
use Rattle.run_answers.proofs.act_law.Telling.{DoneIn, Foundation, Founded, Grows, acted, acted_before, acted_by, founded_then, moves_founded, open_founded, plain_founded}
use Rattle.run_answers.proofs.once_law.Items.{begun_open, begun_works}
use Rattle.run_answers.proofs.once_law.Ledger.{AllPlain}
use Rattle.headline.specs.Answers.{IsCleaners, IsReopened}

abbrev IsRestart : Option Work → Type 0
IsRestart (Some (work.Restart node)) = Unit {0}
IsRestart _ = ⊥

module _ (works : List Work) where
  abbrev PhaseFits : Phase → Type 0
  PhaseFits (Down l) = Unit {0}
  PhaseFits (Opening l o) =
      (o.known.owner.log ≡ cleaner_log)
      × ((o.known.owner.inc ≡ l.inc) × (Owns o × ((item : ℕ) → IsOpen l.items item → IsRestart (asked_at works item))))
  PhaseFits (Serving e) = Unit {0}

  -- it has these items
  pub record PhaseHolds (p : Phase) : Type 0 where
    pub its : (lasting_of p).items.works ≡ works
    pub fits : PhaseFits p

-- in such an incarnation
module _ (Is : ℕ → Type 0) (works : List Work) where
  -- what an answer of the cleaner is founded on
  abbrev pub Its : Foundation
  Its item before done a = IsCleaners Is works (asked_at works item) before done a

  pub its_grow : Grows Its
  its_grow item said done all answer.Done up f = f
  its_grow item said done all answer.Cut up f = (f.0, (f.1.0, up f.0 f.1.1))
  its_grow item said done all _ up f = tt

  count_founded : (item : ℕ) (said : List Act) (done : ℕ → Type 0) (a : Answer) → IsCount a → Its item said done a
  count_founded item said done (answer.Count count) so = tt
  count_founded item said done _ so = absurd so

  moves_so : (before after : Items) (outs : List Effect) → Moves Silent IsCount before outs after → Founded ACleaner Its [] outs
  moves_so = moves_founded ACleaner Its its_grow IsCount count_founded Silent IsCount (λ a so. so) (λ name may. absurd may) []

  pub record Turned (w : Went_to) : Type 0 where
    pub holds : PhaseHolds works w.state
    pub founded : Founded ACleaner Its [] w.outs

  unmoved : (p : Phase) → PhaseHolds works p → Turned (still p)
  unmoved p h = record { holds = h; founded = tt }

  served : (e : Emptying) (d : Done) → e.lasting.items.works ≡ works → emptied.Goes e d → Turned (serves_on d)
  served e d its g = record {
    holds = record { its = (moves_stay Silent IsCount e.lasting.items d.state.lasting.items d.outs g.moves).works ∙ its; fits = tt };
    founded = moves_so e.lasting.items d.state.lasting.items d.outs g.moves;
  }

  -- ---- an opening

  restart_done : (w : Option Work) (end : End) (said : List Act) → IsRestart w → Is end.pass.inc → In (act.Filed (name_of cleaner_log end)) said
      → IsReopened Is w said
  restart_done (Some (work.Restart node)) end said restart its among = (end, (its, among))
  restart_done _ end said restart its among = absurd restart

  module _ (l : Lasting) (o : openings.Opening) (is : Is l.inc) (h : PhaseHolds works (Opening l o)) where
    -- its first segment is filed, and then the restart is answered
    back_founded : (end : End) (pushed : List Effect) → Is end.pass.inc → AllPlain pushed → (said : List Act) → In (act.Filed (name_of cleaner_log end)) said
        → Founded ACleaner Its said (pushed ++ answers_unanswered l.items.unanswered answer.Done)
    back_founded end pushed its plain said among =
        founded_then ACleaner Its its_grow said pushed (answers_unanswered l.items.unanswered answer.Done) (plain_founded ACleaner Its its_grow said pushed plain)
        (open_founded ACleaner Its its_grow (acted ACleaner said pushed) l.items.unanswered answer.Done
        (λ item waits. restart_done (asked_at works item) end (acted ACleaner said pushed) (h.fits.1.1.1 item waits) its
        (acted_before ACleaner (act.Filed (name_of cleaner_log end)) said pushed among)))

    opened_so : (w : Went) → Behaves o.known.owner w → WentSo o.known.owner w → Turned (opened_on l w)
    unfolding after_opening
    opened_so w b so = by w.progress b.stays_its so
      where
        first : Founded ACleaner Its [] w.effects
        first = plain_founded ACleaner Its its_grow [] w.effects (behaves_plain o.known.owner w b)

        by : (p : Progress) → IsOf o.known.owner p → SaysFiled o.known.owner p w.effects
            → Turned (saying w.effects (after_opening (record l { questions = w.questions }) p))
        by (progress.Opening r) owner filed = record {
          holds = record {
            its = h.its;
            fits = (
              ap (λ (x : Owner). x.log) owner ∙ h.fits.0,
              (
                ap (λ (x : Owner). x.inc) owner ∙ h.fits.1.0,
                (subst (λ (x : Owner). StageOwn x.inc r.stage) (sym owner) filed, h.fits.1.1.1),
              ),
            );
          };
          founded = founded_then ACleaner Its its_grow [] w.effects [] first tt;
        }
        by (progress.Opened r) owner filed = record {
          holds = record { its = h.its; fits = tt };
          founded = founded_then ACleaner Its its_grow [] w.effects _ first
              (back_founded filed.0 (push_all r.promised.managers r.feed) (subst Is (sym (filed.1.0 ∙ h.fits.1.0)) is) (all_pushed_plain Answering r.promised.managers r.feed) (acted ACleaner [] w.effects)
              (acted_by ACleaner (act.Filed (name_of cleaner_log filed.0)) [] w.effects
              (subst (λ (log : LogId). In (Does (act.Filed (name_of log filed.0))) w.effects) h.fits.0 filed.1.1)));
        }
        by (progress.Lost name) owner filed = record {
          holds = record { its = h.its; fits = tt };
          founded = founded_then ACleaner Its its_grow [] w.effects (answers_unanswered l.items.unanswered (answer.Lost name)) first
              (open_founded ACleaner Its its_grow (acted ACleaner [] w.effects) l.items.unanswered (answer.Lost name) (λ item waits. tt));
        }

  -- ---- an item begins

  module _ (number : ℕ) (l : Lasting) (its : l.items.works ≡ works) where
    crash_so : (node : NodeId) → asked_at works number ≡ Some (work.Crash node) → Turned (crash l number)
    unfolding crash
    crash_so node asked = record { holds = record { its = its; fits = tt }; founded = by l.items.unanswered }
      where
        done : (said : List Act) → IsReopened Is (asked_at works number) said
        done said = subst (λ w. IsReopened Is w said) (sym asked) tt

        falls : Falls (asked_at works number)
        falls = subst Falls (sym asked) tt

        by : (o : Option ℕ) → Founded ACleaner Its [] (answers_unanswered o answer.Cut ++ Answers number answer.Done ∷ [])
        by None = (done [], tt)
        by (Some item) = ((number, (falls, inl refl)), (done _, tt))

    restart_so : (servers : ℕ) (node : NodeId) → asked_at works number ≡ Some (work.Restart node) → Turned (restart servers l number)
    unfolding restart
    restart_so servers node asked = record {
      holds = record { its = its; fits = (refl, (refl, (tt, λ item waits. subst (λ n. IsRestart (asked_at works n)) (one_number number item waits) restart))) };
      founded = tt;
    }
      where
        restart : IsRestart (asked_at works number)
        restart = subst IsRestart (sym asked) tt

    down_so : (servers : ℕ) (wanted : Option Work) → asked_at works number ≡ wanted → Turned (down_wishes servers l number (wish_of wanted))
    down_so servers None asked = record { holds = record { its = its; fits = tt }; founded = (tt, tt) }
    down_so servers (Some (work.Restart node)) asked = restart_so servers node asked
    down_so servers (Some _) asked = record { holds = record { its = its; fits = tt }; founded = (tt, tt) }

    opening_so : (o : openings.Opening) → PhaseFits works (Opening l o) → (wanted : Option Work) → asked_at works number ≡ wanted
        → Turned (opening_wishes l o number (wish_of wanted))
    opening_so o fits None asked = record { holds = record { its = its; fits = fits }; founded = (tt, tt) }
    opening_so o fits (Some (work.Crash node)) asked = crash_so node asked
    opening_so o fits (Some _) asked = record { holds = record { its = its; fits = fits }; founded = (tt, tt) }

  busy_founded : (item : ℕ) (said : List Act) (done : ℕ → Type 0) (a : Answer) → IsBusy a → Its item said done a
  busy_founded item said done answer.Busy so = tt
  busy_founded item said done _ so = absurd so

  -- an item begins: it is busy, or the item waits
  begun_so : (before after : Items) (number : ℕ) (outs : List Effect) → before.works ≡ works → Begun Silent IsCount IsBusy before number outs after
      → (after.works ≡ works) × Founded ACleaner Its [] outs
  begun_so before after number outs its (AtOnce a first more busy plain rest) = (
    its,
    founded_then ACleaner Its its_grow [] first (Answers number a ∷ more) (plain_founded ACleaner Its its_grow [] first (all_plain_more Silent first plain))
        (busy_founded number (acted ACleaner [] first) (DoneIn more) a busy, plain_founded ACleaner Its its_grow _ more (all_plain_more Silent more rest)),
  )
  begun_so before after number outs its (Waits made) =
      ((moves_stay Silent IsCount (items_wait before number) after outs made).works ∙ its, moves_so (items_wait before number) after outs made)

  module _ (number : ℕ) (e : Emptying) (its : e.lasting.items.works ≡ works) where
    clean_so : (count : ℕ) → Turned (serves_on (on_clean e number count))
    clean_so count =
        let d : Done = on_clean e number count in
        let b = begun_so e.lasting.items d.state.lasting.items number d.outs its (emptied.clean_goes e number count).begun in
        record { holds = record { its = b.0; fits = tt }; founded = b.1 }

    serving_so : (wanted : Option Work) → asked_at works number ≡ wanted → Turned (serving_wishes e number (wish_of wanted))
    serving_so None asked = clean_so 0
    serving_so (Some (work.Crash node)) asked = crash_so number e.lasting its node asked
    serving_so (Some (work.Restart node)) asked = record { holds = record { its = its; fits = tt }; founded = (tt, tt) }
    serving_so (Some (work.Clean count)) asked = clean_so count
    serving_so (Some _) asked = clean_so 0

  begin_turned : (servers : ℕ) (p : Phase) → PhaseHolds works p → Turned (on_begin servers p)
  unfolding on_begin
  begin_turned servers (Down l) h = by (next_item l.items)
    where
      its : (begun_life l).items.works ≡ works
      its = begun_works l.items ∙ h.its

      by : (item : Option ℕ) → Turned (down_at servers (begun_life l) item)
      by None = record { holds = record { its = its; fits = tt }; founded = tt }
      by (Some number) = down_so number (begun_life l) its servers (work_at (begun_life l).items number) (sym (ap (λ (ws : List Work). asked_at ws number) its))
  begin_turned servers (Opening l o) h = by (next_item l.items)
    where
      its : (begun_life l).items.works ≡ works
      its = begun_works l.items ∙ h.its

      fits : PhaseFits works (Opening (begun_life l) o)
      fits = (h.fits.0, (h.fits.1.0, (h.fits.1.1.0, λ item waits. h.fits.1.1.1 item (sym (begun_open l.items) ∙ waits))))

      by : (item : Option ℕ) → Turned (opening_at (begun_life l) o item)
      by None = record { holds = record { its = its; fits = fits }; founded = tt }
      by (Some number) =
          opening_so number (begun_life l) its o fits (work_at (begun_life l).items number) (sym (ap (λ (ws : List Work). asked_at ws number) its))
  begin_turned servers (Serving e) h = by (next_item e.lasting.items)
    where
      its : (begun_life e.lasting).items.works ≡ works
      its = begun_works e.lasting.items ∙ h.its

      by : (item : Option ℕ) → Turned (serving_at (record e { lasting = begun_life e.lasting }) item)
      by None = record { holds = record { its = its; fits = tt }; founded = tt }
      by (Some number) =
          serving_so number (record e { lasting = begun_life e.lasting }) its (work_at (begun_life e.lasting).items number) (sym (ap (λ (ws : List Work). asked_at ws number) its))

  -- ---- packets and time

  hears_turned : (p : Phase) (packet : Packet) → Is (lasting_of p).inc → PhaseHolds works p → Turned (cleaner_hear p packet)
  unfolding cleaner_hear
  hears_turned (Down l) packet is h = unmoved (Down l) h
  hears_turned (Opening l o) packet is h =
      opened_so l o is h (opening.opening_take o l.questions packet) (behaving.packet_so o l.questions packet)
      (filing.packet_so o l.questions packet h.fits.1.1.0)
  hears_turned (Serving e) packet is h = served e (on_packet e packet) h.its (emptied.packet_goes e packet)

  time_turned : (p : Phase) → Is (lasting_of p).inc → PhaseHolds works p → Turned (on_time p)
  unfolding on_time
  time_turned (Down l) is h = unmoved (Down l) h
  time_turned (Opening l o) is h =
      opened_so l o is h (opening.on_tick o l.questions) (behaving.tick_so o l.questions) (filing.tick_so o l.questions h.fits.1.1.0)
  time_turned (Serving e) is h = served e (on_tick e) h.its (emptied.tick_goes e)

  happens_turned : (peers : Peers) (p : Phase) (what : Do) → Is (lasting_of p).inc → PhaseHolds works p → Turned (happens peers p what)
  unfolding on_deliver
  happens_turned peers p Begin is h = begin_turned peers.servers p h
  happens_turned peers p (Deliver packet) is h =
      by_test Turned (is_well_formed peers packet) (cleaner_hear p packet) (still p) (λ _. hears_turned p packet is h) (λ _. unmoved p h)
  happens_turned peers p Tick is h = time_turned p is h

  pub cleaner_answers : (c : Cleaner) (what : Do) → Is (lasting_of c.phase).inc → PhaseHolds works c.phase → Turned (takes c.peers c.phase what)
  cleaner_answers c what is h =
      by_test Turned (phase_has_room c.phase) (happens c.peers c.phase what) (still c.phase) (λ _. happens_turned c.peers c.phase what is h)
      (λ _. unmoved c.phase h)
