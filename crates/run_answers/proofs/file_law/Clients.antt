-- What an event of a client files: while it serves each segment behind its log's end; and where it comes to serve, last the segment that is the end.
use Rattle.std.proofs.Common.{◌≡◌, ℕ, List, [], ◌∷◌, ◌++◌, Option, Some, None, refl, sym, ap, subst, ◌∙◌}
use Rattle.client_log.specs.LogState.{LogState}
use Rattle.client_node.specs.Crash.{falls}
use Rattle.client_node.specs.declared.client.Client.{Client}
use Rattle.client_node.specs.declared.phase.Phase.{Phase}
use Rattle.client_node.specs.declared.phase.Phase.TheVariants.{Down, Opening, Serving as Serves}
use Rattle.client_node.specs.Phases.{Went_to, begins_item, client_has_room, client_tick, cut, down_begins, happens, lasting_of, on_begin, on_deliver, opened_on, opening_begins, owner_of, phase_after, restart, serves_on, serving_begins, serving_crashes, takes, wish_of}
use Rattle.client_running.specs.Opens.{opens}
use Rattle.client_serving.specs.declared.lasting.Lasting.{Lasting}
use Rattle.client_serving.specs.declared.serving.Serving.{Serving}
use Rattle.client_serving.specs.Lasting.{live_on}
use Rattle.client_serving.specs.Sends.{Done, gives}
use Rattle.log_owner.specs.declared.opened.Progress.{Progress}
use Rattle.log_owner.specs.declared.opened.Progress.TheVariants as progress
use Rattle.log_owner.specs.declared.opening.Opening as openings
use Rattle.log_owner.specs.Opening as opening
use Rattle.log_owner.specs.Opening.{Went}
use Rattle.log_owner.specs.Sending.{push_all}
use Rattle.node_base.specs.Beginning.{answers_unanswered, items_begin, next_item, work_at}
use Rattle.node_base.specs.declared.effects.Effect.{Effect}
use Rattle.node_base.specs.declared.effects.Effect.TheVariants.{Answer as Answers, Does}
use Rattle.node_base.specs.Effects.{acts_of}
use Rattle.node_base.specs.Shape.{is_well_formed}
use Rattle.node_moves.proofs.client_walk.Frames as frames
use Rattle.version_model.specs.declared.act.Act.TheVariants as act
use Rattle.version_model.specs.declared.answer.Answer.{Answer}
use Rattle.version_model.specs.declared.answer.Answer.TheVariants as answer
use Rattle.version_model.specs.declared.work.Work.{Work}
use Rattle.version_model.specs.declared.work.Work.TheVariants as work
use Rattle.wire_msg.specs.declared.packet.Do.{Do}
use Rattle.wire_msg.specs.declared.packet.Do.TheVariants.{Begin, Deliver, Tick}
use Rattle.wire_msg.specs.declared.packet.Packet.{Packet}
use Rattle.xfs_base.proofs.Alls.{all_append}
use Rattle.xfs_base.proofs.Booleans.{by_test}
use Rattle.xfs_base.specs.declared.node.NodeId.{NodeId}
use Rattle.xfs_base.specs.declared.node.NodeId.TheVariants as nodes
use Rattle.xfs_base.specs.declared.segment.LogId.{LogId}
use Rattle.xfs_base.specs.Steps.{saying, still}
use Rattle.headline.specs.Restarts.{clients_log}
use Rattle.run_answers.proofs.file_law.Acts.{AllFileNone, FilesNone, last_none, last_then_effects, on_none}
use Rattle.run_answers.proofs.file_law.Lines.{IsInLine}
use Rattle.run_answers.proofs.file_law.Openings as openers
use Rattle.run_answers.proofs.file_law.Serving as serving
use Rattle.headline.specs.Filings.{FilesOn, filed_last}

one_log : (a b : LogState) → Some a ≡ Some b → a ≡ b
one_log a b fact = cc

no_log : (a : LogState) → None ≡ Some a → ⊥
no_log a fact = cc

is_log : (a : LogState) → Some a ≡ None → ⊥
is_log a fact = cc

module _ (client : ℕ) where
  abbrev pub me : NodeId
  me = nodes.Client client

  -- A client of this number that filed a segment of this number last: that is the end of its log, where it serves.
  abbrev pub PhaseFiles : ℕ → Phase → Type 0
  PhaseFiles last (Down l) = l.number ≡ client
  PhaseFiles last (Opening l o) = (l.number ≡ client) × openers.Opens me (owner_of l) o
  PhaseFiles last (Serves s) = (s.lasting.number ≡ client) × (IsInLine (record { 0 = client }) s.log.inc s.log × (s.log.end.seq ≡ last))

  -- what an event makes of it
  pub record Turned (last : ℕ) (p : Phase) (w : Went_to) : Type 0 where
    pub holds : PhaseFiles (filed_last last (acts_of me w.outs)) w.state
    pub numbers : (log : LogState) → clients_log p ≡ Some log → FilesOn (record { 0 = client }) log.inc last (acts_of me w.outs)
    pub opens : clients_log p ≡ None → (log : LogState) → clients_log w.state ≡ Some log → log.inc ≡ (lasting_of w.state).inc
    pub stays : (was log : LogState) → clients_log p ≡ Some was → clients_log w.state ≡ Some log → log.inc ≡ was.inc

  -- ---- one that doesn't serve

  -- it doesn't behind the event either
  aside : (last : ℕ) (p q : Phase) (outs : List Effect) → clients_log p ≡ None → clients_log q ≡ None → ((number : ℕ) → PhaseFiles number q)
      → Turned last p (record { state = q; outs = outs })
  aside last p q outs none then_none h = record {
    holds = h (filed_last last (acts_of me outs));
    numbers = λ log fact. absurd (no_log log (sym none ∙ fact));
    opens = λ _ log fact. absurd (no_log log (sym then_none ∙ fact));
    stays = λ was log fact. absurd (no_log was (sym none ∙ fact));
  }

  -- ---- one that serves

  serves_so : (last : ℕ) (s : Serving) (d : Done) → PhaseFiles last (Serves s) → serving.Goes client s.log.inc s.log.end d → Turned last (Serves s) (serves_on d)
  serves_so last s d h goes =
      let went = goes.1 in
      let end = h.1.1 in
      let acts = acts_of me d.outs in
      let ended : filed_last last acts ≡ goes.0.seq = ap (λ n. filed_last n acts) (sym end) ∙ went.files.last in
      let boot : d.state.log.inc ≡ s.log.inc = went.state.line.boot in record {
        holds = (
          went.state.own,
          (
            subst (λ i. IsInLine (record { 0 = client }) i d.state.log) (sym boot) went.state.line,
            ap (λ e. e.seq) went.state.ends ∙ sym ended,
          ),
        );
        numbers = λ log fact.
            subst (λ (l : LogState). FilesOn (record { 0 = client }) l.inc last acts) (one_log s.log log fact) (subst (λ n. FilesOn (record { 0 = client }) s.log.inc n acts) end went.files.each);
        opens = λ none. absurd (is_log s.log none);
        stays = λ was log fact behind.
            sym (ap (λ (l : LogState). l.inc) (one_log d.state.log log behind)) ∙ (boot ∙ ap (λ (l : LogState). l.inc) (one_log s.log was fact));
      }

  at_end : (last : ℕ) (s : Serving) → PhaseFiles last (Serves s) → serving.At client s.log.inc s.log.end s
  at_end last s h = record { own = h.0; line = h.1.0; ends = refl }

  gives_so : (last : ℕ) (s : Serving) (outs : List Effect) → AllFileNone outs → PhaseFiles last (Serves s) → Turned last (Serves s) (serves_on (gives s outs))
  gives_so last s outs none h =
      serves_so last s (gives s outs) h
      (s.log.end, serving.quiet client s.log.inc s.log.end (gives s outs) (frames.goes_plain FilesNone frames.Any (serving.At client s.log.inc s.log.end) s outs (at_end last s h) none))

  answered_none : (o : Option ℕ) (a : Answer) → AllFileNone (answers_unanswered o a)
  answered_none None a = tt
  answered_none (Some item) a = (tt, tt)

  cut_none : (o : Option ℕ) (number : ℕ) → AllFileNone (answers_unanswered o answer.Cut ++ Answers number answer.Done ∷ [])
  cut_none o number = all_append FilesNone (answers_unanswered o answer.Cut) (Answers number answer.Done ∷ []) (answered_none o answer.Cut) (tt, tt)

  crash_so : (last : ℕ) (s : Serving) (number : ℕ) → PhaseFiles last (Serves s) → Turned last (Serves s) (serving_crashes s number)
  crash_so last s number h =
      let outs : List Effect = falls s ∷ answers_unanswered s.lasting.items.unanswered answer.Cut ++ Answers number answer.Done ∷ [] in
      let none : AllFileNone outs = (tt, cut_none s.lasting.items.unanswered number) in record {
        holds = h.0;
        numbers = λ log fact. on_none (record { 0 = client }) log.inc me last outs none;
        opens = λ was log fact. absurd (no_log log fact);
        stays = λ was log fact behind. absurd (no_log log behind);
      }

  -- ---- an opening

  opened_so : (last : ℕ) (l : Lasting) (o : openings.Opening) (capacity : ℕ) (w : Went) → l.number ≡ client → openers.WentSo me (owner_of l) w
      → Turned last (Opening l o) (opened_on l capacity w)
  opened_so last l o capacity w own so = by w.progress so
    where
      m : Lasting
      m = record l { questions = w.questions }

      by : (p : Progress) → openers.Says me (owner_of l) p w.effects → Turned last (Opening l o) (saying w.effects (phase_after m capacity p))
      by (progress.Opening r) opens =
          aside last (Opening l o) (Opening m r) (w.effects ++ []) refl refl (λ number. (own, record { its = opens.its; line = opens.line }))
      by (progress.Opened r) opened =
          let more : List Effect = Does (act.Back m.number r.chain) ∷ push_all r.promised.managers r.feed ++ answers_unanswered m.items.unanswered answer.Done in
          let none : AllFileNone more = (
            tt,
            all_append FilesNone (push_all r.promised.managers r.feed) (answers_unanswered m.items.unanswered answer.Done)
                (serving.all_pushed_none r.promised.managers r.feed) (answered_none m.items.unanswered answer.Done),
          ) in
          let ended : filed_last last (acts_of me (w.effects ++ more)) ≡ r.log.end.seq =
          last_then_effects me last w.effects more ∙ (last_none me (filed_last last (acts_of me w.effects)) more none ∙ opened.last last) in
          let log_is : (owner_of l).log ≡ record { 0 = client } = ap (λ (n : ℕ). record { 0 = n }) own in
          let line : IsInLine (record { 0 = client }) l.inc r.log = subst (λ (x : LogId). IsInLine x l.inc r.log) log_is opened.line in record {
            holds = (own, (subst (λ i. IsInLine (record { 0 = client }) i r.log) (sym line.boot) line, sym ended));
            numbers = λ log fact. absurd (no_log log fact);
            opens = λ _ log fact. sym (ap (λ (x : LogState). x.inc) (one_log r.log log fact)) ∙ line.boot;
            stays = λ was log fact. absurd (no_log was fact);
          }
      by (progress.Lost name) lost = aside last (Opening l o) (phase_after m capacity (progress.Lost name)).state (w.effects ++ _) refl refl (λ number. own)

  -- ---- the next item begins

  down_so : (last servers number : ℕ) (l m : Lasting) (wanted : Option Work) → m.number ≡ client → Turned last (Down l) (down_begins servers m number (wish_of wanted))
  down_so last servers number l m (Some (work.Restart node)) own =
      let n : Lasting = live_on m number in
      aside last (Down l) (restart servers n).state (restart servers n).outs refl refl (λ number. (own, record { its = refl; line = tt }))
  down_so last servers number l m (Some _) own = aside last (Down l) (Down m) (Answers number answer.Down ∷ []) refl refl (λ number. own)
  down_so last servers number l m None own = aside last (Down l) (Down m) (Answers number answer.Down ∷ []) refl refl (λ number. own)

  opening_so : (last : ℕ) (l m : Lasting) (o : openings.Opening) (number : ℕ) (wanted : Option Work) → m.number ≡ client → openers.Opens me (owner_of m) o
      → Turned last (Opening l o) (opening_begins m o number (wish_of wanted))
  opening_so last l m o number (Some (work.Crash node)) own opens =
      aside last (Opening l o) (cut m number).state (cut m number).outs refl refl (λ number. own)
  opening_so last l m o number (Some (work.Restart node)) own opens =
      aside last (Opening l o) (Opening m o) (Answers number answer.Up ∷ []) refl refl (λ number. (own, opens))
  opening_so last l m o number (Some _) own opens =
      aside last (Opening l o) (Opening m o) (Answers number answer.Down ∷ []) refl refl (λ number. (own, opens))
  opening_so last l m o number None own opens =
      aside last (Opening l o) (Opening m o) (Answers number answer.Down ∷ []) refl refl (λ number. (own, opens))

  opens_so : (last : ℕ) (s : Serving) (number : ℕ) → PhaseFiles last (Serves s) → Turned last (Serves s) (serves_on (opens s number))
  opens_so last s number h = serves_so last s (opens s number) h (serving.opens_go client s.log.inc s.log.end s number (at_end last s h))

  serving_so : (last : ℕ) (s : Serving) (number : ℕ) (wanted : Option Work) → PhaseFiles last (Serves s)
      → Turned last (Serves s) (serving_begins s number (wish_of wanted))
  serving_so last s number (Some (work.Crash node)) h = crash_so last s number h
  serving_so last s number (Some (work.Restart node)) h = gives_so last s (Answers number answer.Up ∷ []) (tt, tt) h
  serving_so last s number (Some _) h = opens_so last s number h
  serving_so last s number None h = opens_so last s number h

  -- one whose item is begun has the same log
  begun_so : (last : ℕ) (s t : Serving) (w : Went_to) → t.log ≡ s.log → Turned last (Serves t) w → Turned last (Serves s) w
  begun_so last s t w same x = record {
    holds = x.holds;
    numbers = λ log fact. x.numbers log (ap (λ (l : LogState). Some l) same ∙ fact);
    opens = λ none. absurd (is_log s.log none);
    stays = λ was log fact behind. x.stays was log (ap (λ (l : LogState). Some l) same ∙ fact) behind;
  }

  still_so : (last : ℕ) (p : Phase) → PhaseFiles last p → Turned last p (still p)
  still_so last (Down l) h = aside last (Down l) (Down l) [] refl refl (λ number. h)
  still_so last (Opening l o) h = aside last (Opening l o) (Opening l o) [] refl refl (λ number. h)
  still_so last (Serves s) h = gives_so last s [] tt h

  item_so : (last servers : ℕ) (p : Phase) (item : Option ℕ) → PhaseFiles last p → Turned last p (begins_item servers p item)
  item_so last servers p None h = still_so last p h
  item_so last servers (Down l) (Some number) h =
      down_so last servers number l (record l { items = items_begin l.items }) (work_at (items_begin l.items) number) h
  item_so last servers (Opening l o) (Some number) h =
      opening_so last l (record l { items = items_begin l.items }) o number (work_at (items_begin l.items) number) h.0 h.1
  item_so last servers (Serves s) (Some number) h =
      let t : Serving = record s { lasting = record s.lasting { items = items_begin s.lasting.items } } in
      begun_so last s t (serving_begins t number (wish_of (work_at (items_begin s.lasting.items) number))) refl
      (serving_so last t number (work_at (items_begin s.lasting.items) number) h)

  -- ---- the events

  begin_so : (last servers : ℕ) (p : Phase) → PhaseFiles last p → Turned last p (on_begin servers p)
  unfolding on_begin
  begin_so last servers p h = item_so last servers p (next_item (lasting_of p).items) h

  deliver_so : (last capacity : ℕ) (p : Phase) (packet : Packet) → PhaseFiles last p → Turned last p (on_deliver capacity p packet)
  unfolding on_deliver
  deliver_so last capacity (Down l) packet h = still_so last (Down l) h
  deliver_so last capacity (Opening l o) packet h =
      opened_so last l o capacity (opening.opening_take o l.questions packet) h.0 (openers.packet_so me (owner_of l) o l.questions packet h.1)
  deliver_so last capacity (Serves s) packet h =
      serves_so last s _ h (serving.packet_runs client s.log.inc s.log.end s packet (at_end last s h))

  time_so : (last capacity : ℕ) (p : Phase) → PhaseFiles last p → Turned last p (client_tick capacity p)
  unfolding client_tick
  time_so last capacity (Down l) h = still_so last (Down l) h
  time_so last capacity (Opening l o) h =
      opened_so last l o capacity (opening.on_tick o l.questions) h.0 (openers.tick_so me (owner_of l) o l.questions h.1)
  time_so last capacity (Serves s) h = serves_so last s _ h (serving.time_runs client s.log.inc s.log.end s (at_end last s h))

  happens_so : (last : ℕ) (c : Client) (what : Do) → PhaseFiles last c.phase → Turned last c.phase (happens c what)
  happens_so last c Begin h = begin_so last c.peers.servers c.phase h
  happens_so last c (Deliver packet) h =
      by_test (Turned last c.phase) (is_well_formed c.peers packet) (on_deliver c.cache c.phase packet) (still c.phase)
      (λ _. deliver_so last c.cache c.phase packet h) (λ _. still_so last c.phase h)
  happens_so last c Tick h = time_so last c.cache c.phase h

  pub client_files : (last : ℕ) (c : Client) (what : Do) → PhaseFiles last c.phase → Turned last c.phase (takes c what)
  client_files last c what h =
      by_test (Turned last c.phase) (client_has_room c) (happens c what) (still c.phase) (λ _. happens_so last c what h) (λ _. still_so last c.phase h)
