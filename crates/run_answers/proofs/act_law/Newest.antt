-- Where an event of a client answers a version, the client serves behind the event, and holds the block that it wrote, with this version.
use Rattle.std.proofs.Common.{◌≡◌, ◌⊎◌, ℕ, List, [], ◌∷◌, ◌++◌, Option, Some, None, inl, inr, refl, sym, ap, subst, ◌∙◌}
use Rattle.client_node.specs.Crash.{falls}
use Rattle.client_node.specs.declared.client.Client.{Client}
use Rattle.client_node.specs.declared.phase.Phase.{Phase}
use Rattle.client_node.specs.declared.phase.Phase.TheVariants.{Down, Opening, Serving as Serves}
use Rattle.client_node.specs.Phases.{Went_to, phase_after, begins_item, client_has_room, cut, down_begins, happens, item_begins, lasting_of, on_begin, on_deliver, client_tick, opened_on, opening_begins, serving_begins, takes, then_runs, wish_of, with_begun}
use Rattle.client_running.specs.Running.{run}
use Rattle.client_serving.specs.declared.lasting.Lasting.{Lasting}
use Rattle.client_serving.specs.declared.serving.Serving.{Serving}
use Rattle.client_serving.specs.Lasting.{live_on}
use Rattle.client_serving.specs.Packets.{serving_take, on_tick}
use Rattle.client_serving.specs.Sends.{Done}
use Rattle.log_owner.proofs.Behaving as behaving
use Rattle.log_owner.specs.declared.opened.Progress.{Progress}
use Rattle.log_owner.specs.declared.opened.Progress.TheVariants as progress
use Rattle.log_owner.specs.declared.opening.Opening as openings
use Rattle.log_owner.specs.Opening as opening
use Rattle.log_owner.specs.Opening.{Went}
use Rattle.log_owner.specs.Sending.{hello, push_all}
use Rattle.node_base.specs.Asking.{next_ask}
use Rattle.node_base.specs.Beginning.{answers_unanswered, items_begin, next_item, work_at}
use Rattle.node_base.specs.declared.effects.Effect.{Effect}
use Rattle.node_base.specs.declared.effects.Effect.TheVariants.{Answer as Answers, Does}
use Rattle.node_base.specs.Shape.{is_well_formed}
use Rattle.token_protocol.specs.Basics.{In}
use Rattle.version_model.specs.declared.act.Act.{Act}
use Rattle.version_model.specs.declared.act.Act.TheVariants as act
use Rattle.version_model.specs.declared.answer.Answer.{Answer}
use Rattle.version_model.specs.declared.answer.Answer.TheVariants as answer
use Rattle.version_model.specs.declared.work.Work.{Work}
use Rattle.version_model.specs.declared.work.Work.TheVariants as work
use Rattle.wire_msg.specs.declared.packet.Do.{Do}
use Rattle.wire_msg.specs.declared.packet.Do.TheVariants.{Begin, Deliver, Tick}
use Rattle.wire_msg.specs.declared.packet.Packet.{Packet}
use Rattle.xfs_base.proofs.Booleans.{by_test}
use Rattle.xfs_base.specs.Steps.{saying, still}
use Rattle.serving_moves.proofs.item_moves.Openings.{behaves_plain}
use Rattle.serving_moves.proofs.item_moves.ClientServing.{Goes, packet_goes, tick_goes}
use Rattle.serving_moves.proofs.item_moves.Keeping.{all_pushed_plain}
use Rattle.serving_moves.specs.item_moves.Moves.Losses.{Answering}
use Rattle.run_answers.proofs.act_law.Calling.{Holds, IsNoRestart, goes_run}
use Rattle.run_answers.proofs.act_law.Clients.{BeginsNext, PhaseHolds, begun_holds, serves}
use Rattle.run_answers.proofs.act_law.Versions.{HasWritten, all_versed, behind_versed, effect_either, open_answers, opens_versed, plain_answers}
use Rattle.run_answers.proofs.once_law.Items.{begun_works}
use Rattle.run_answers.proofs.once_law.Ledger.{AllPlain}
use Rattle.headline.specs.Items.{asked_at}

-- ---- effects that answer no version

abbrev NoVersion : List Effect → Type 0
NoVersion outs = (item ver : ℕ) → In (Answers item (answer.Version ver)) outs → ⊥

-- an answer that is none
abbrev IsOther : Answer → Type 0
IsOther (answer.Version ver) = ⊥
IsOther _ = Unit {0}

no_both : (xs ys : List Effect) → NoVersion xs → NoVersion ys → NoVersion (xs ++ ys)
no_both xs ys before behind item ver among = by (effect_either (Answers item (answer.Version ver)) xs ys among)
  where
    by : In (Answers item (answer.Version ver)) xs ⊎ In (Answers item (answer.Version ver)) ys → ⊥
    by (inl f) = before item ver f
    by (inr f) = behind item ver f

no_open : (o : Option ℕ) (a : Answer) → IsOther a → NoVersion (answers_unanswered o a)
no_open o a other item ver among = subst IsOther (open_answers o a item (answer.Version ver) among).same other

no_one : (n : ℕ) (a : Answer) → IsOther a → NoVersion (Answers n a ∷ [])
no_one n a other = no_open (Some n) a other

no_plain : (outs : List Effect) → AllPlain outs → NoVersion outs
no_plain outs plain item ver among = plain_answers outs plain item (answer.Version ver) among

-- ---- phases

-- it serves, and holds what the item asks to be written
abbrev pub WrittenIn : Phase → Option Work → ℕ → Type 0
WrittenIn (Serves s) w ver = HasWritten s.tokens w ver
WrittenIn _ w ver = ⊥

module _ (Began : ℕ → List Act → Type 0) (client : ℕ) (works : List Work) (first : List Act) where
  abbrev pub IsVersedIn : Went_to → Type 0
  IsVersedIn w = (item ver : ℕ) → In (Answers item (answer.Version ver)) w.outs → WrittenIn w.state (asked_at works item) ver

  opened_versed : (l : Lasting) (capacity : ℕ) (w : Went) → AllPlain w.effects → IsVersedIn (opened_on l capacity w)
  opened_versed l capacity w plain = by w.progress
    where
      before : NoVersion w.effects
      before = no_plain w.effects plain

      by : (p : Progress) → IsVersedIn (saying w.effects (phase_after (record l { questions = w.questions }) capacity p))
      by (progress.Opening r) item ver among = absurd (no_both w.effects [] before (λ item ver among. among) item ver among)
      by (progress.Opened r) item ver among =
          absurd
          (no_both w.effects (Does (act.Back l.number r.chain) ∷ push_all r.promised.managers r.feed ++ answers_unanswered l.items.unanswered answer.Done)
          before
          (no_both (Does (act.Back l.number r.chain) ∷ []) (push_all r.promised.managers r.feed ++ answers_unanswered l.items.unanswered answer.Done)
          (no_plain (Does (act.Back l.number r.chain) ∷ []) (tt, tt))
          (no_both (push_all r.promised.managers r.feed) (answers_unanswered l.items.unanswered answer.Done)
          (no_plain (push_all r.promised.managers r.feed) (all_pushed_plain Answering r.promised.managers r.feed)) (no_open l.items.unanswered answer.Done tt)))
          item ver among)
      by (progress.Lost name) item ver among =
          absurd
          (no_both w.effects (answers_unanswered l.items.unanswered (answer.Lost name)) before (no_open l.items.unanswered (answer.Lost name) tt) item ver
          among)

  crash_none : (o : Option ℕ) (number : ℕ) → NoVersion (answers_unanswered o answer.Cut ++ Answers number answer.Done ∷ [])
  crash_none o number =
      no_both (answers_unanswered o answer.Cut) (Answers number answer.Done ∷ []) (no_open o answer.Cut tt) (no_one number answer.Done tt)

  down_versed : (servers : ℕ) (l : Lasting) (number : ℕ) (wanted : Option Work) → IsVersedIn (down_begins servers l number (wish_of wanted))
  down_versed servers l number None item ver among = absurd (no_one number answer.Down tt item ver among)
  down_versed servers l number (Some (work.Restart node)) item ver among =
      absurd (no_plain (hello (live_on l number).inc (next_ask l.questions) ∷ []) (tt, tt) item ver among)
  down_versed servers l number (Some (work.Crash node)) item ver among = absurd (no_one number answer.Down tt item ver among)
  down_versed servers l number (Some other) item ver among = absurd (no_one number answer.Down tt item ver among)

  opening_versed : (l : Lasting) (o : openings.Opening) (number : ℕ) (wanted : Option Work) → IsVersedIn (opening_begins l o number (wish_of wanted))
  opening_versed l o number None item ver among = absurd (no_one number answer.Down tt item ver among)
  opening_versed l o number (Some (work.Crash node)) item ver among = absurd (crash_none l.items.unanswered number item ver among)
  opening_versed l o number (Some (work.Restart node)) item ver among = absurd (no_one number answer.Up tt item ver among)
  opening_versed l o number (Some other) item ver among = absurd (no_one number answer.Down tt item ver among)

  serving_versed : (s : Serving) (number : ℕ) → Holds Began client works first [] s → Began number first → (wanted : Option Work)
      → asked_at works number ≡ wanted → IsVersedIn (serving_begins s number (wish_of wanted))
  serving_versed s number h began None asked item ver among =
      opens_versed Began client works first s number h began (subst (IsNoRestart Began client works first) (sym asked) tt) item ver among
  serving_versed s number h began (Some (work.Crash node)) asked item ver among =
      absurd
      (no_both (falls s ∷ []) (cut s.lasting number).outs (no_plain (falls s ∷ []) (tt, tt)) (crash_none s.lasting.items.unanswered number) item ver
      among)
  serving_versed s number h began (Some (work.Restart node)) asked item ver among = absurd (no_one number answer.Up tt item ver among)
  serving_versed s number h began (Some other) asked item ver among =
      opens_versed Began client works first s number h began (subst (IsNoRestart Began client works first) (sym asked) tt) item ver among

  item_versed : (servers : ℕ) (p : Phase) (number : ℕ) (wanted : Option Work) → Began number first → PhaseHolds Began client works first [] p
      → asked_at works number ≡ wanted → IsVersedIn (item_begins servers (with_begun p) number (wish_of wanted))
  item_versed servers (Down l) number wanted began h asked = down_versed servers (record l { items = items_begin l.items }) number wanted
  item_versed servers (Opening l o) number wanted began h asked = opening_versed (record l { items = items_begin l.items }) o number wanted
  item_versed servers (Serves s) number wanted began h asked =
      serving_versed (record s { lasting = record s.lasting { items = items_begin s.lasting.items } }) number
      (begun_holds Began client works first s (serves Began client works first [] s h)) began wanted asked

  begun_asks : (p : Phase) (number : ℕ) → (lasting_of p).items.works ≡ works → asked_at works number ≡ work_at (lasting_of (with_begun p)).items number
  begun_asks (Down l) number its = ap (λ (ws : List Work). asked_at ws number) (sym (begun_works l.items ∙ its))
  begun_asks (Opening l o) number its = ap (λ (ws : List Work). asked_at ws number) (sym (begun_works l.items ∙ its))
  begun_asks (Serves s) number its = ap (λ (ws : List Work). asked_at ws number) (sym (begun_works s.lasting.items ∙ its))

  begin_versed : (servers : ℕ) (p : Phase) → BeginsNext Began client works first p → PhaseHolds Began client works first [] p
      → IsVersedIn (on_begin servers p)
  unfolding on_begin
  begin_versed servers p next h = by (next_item (lasting_of p).items) refl
    where
      by : (item : Option ℕ) → next_item (lasting_of p).items ≡ item → IsVersedIn (begins_item servers p item)
      by None fact item ver among = absurd among
      by (Some number) fact item ver among =
          item_versed servers p number (work_at (lasting_of (with_begun p)).items number) (next number fact) h (begun_asks p number h.its) item ver among

  runs_versed : (s : Serving) (d : Done) → Holds Began client works first [] s → Goes s d → IsVersedIn (then_runs d)
  runs_versed s d h g =
      behind_versed Began client works first s d (run d.state) g
      (all_versed Began client works first _ d.state (goes_run Began client works first [] s d g h).holds)

  deliver_versed : (capacity : ℕ) (p : Phase) (packet : Packet) → PhaseHolds Began client works first [] p → IsVersedIn (on_deliver capacity p packet)
  unfolding on_deliver
  deliver_versed capacity (Down l) packet h item ver among = absurd among
  deliver_versed capacity (Opening l o) packet h item ver among =
      opened_versed l capacity (opening.opening_take o l.questions packet)
      (behaves_plain o.known.owner (opening.opening_take o l.questions packet) (behaving.packet_so o l.questions packet)) item ver among
  deliver_versed capacity (Serves s) packet h item ver among =
      runs_versed s (serving_take s packet) (serves Began client works first [] s h) (packet_goes s packet) item ver among

  time_versed : (capacity : ℕ) (p : Phase) → PhaseHolds Began client works first [] p → IsVersedIn (client_tick capacity p)
  unfolding client_tick
  time_versed capacity (Down l) h item ver among = absurd among
  time_versed capacity (Opening l o) h item ver among =
      opened_versed l capacity (opening.on_tick o l.questions)
      (behaves_plain o.known.owner (opening.on_tick o l.questions) (behaving.tick_so o l.questions)) item ver among
  time_versed capacity (Serves s) h item ver among = runs_versed s (on_tick s) (serves Began client works first [] s h) (tick_goes s) item ver among

  happens_versed : (c : Client) (what : Do) → (what ≡ Begin → BeginsNext Began client works first c.phase) → PhaseHolds Began client works first [] c.phase
      → IsVersedIn (happens c what)
  happens_versed c Begin next h = begin_versed c.peers.servers c.phase (next refl) h
  happens_versed c (Deliver packet) next h =
      by_test IsVersedIn (is_well_formed c.peers packet) (on_deliver c.cache c.phase packet) (still c.phase) (λ _. deliver_versed c.cache c.phase packet h)
      (λ _ item ver among. absurd among)
  happens_versed c Tick next h = time_versed c.cache c.phase h

  pub client_versed : (c : Client) (what : Do) → (what ≡ Begin → BeginsNext Began client works first c.phase) → PhaseHolds Began client works first [] c.phase
      → IsVersedIn (takes c what)
  client_versed c what next h =
      by_test IsVersedIn (client_has_room c) (happens c what) (still c.phase) (λ _. happens_versed c what next h)
      (λ _ item ver among. absurd among)
