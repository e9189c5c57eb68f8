-- What an event of a manager files: while it serves each segment behind its log's end; a manager that comes to serve begins a new log.
use Rattle.std.proofs.Common.{◌≡◌, ℕ, ◌+◌, suc, if◌then◌else◌, List, [], ◌∷◌, Option, Some, None, refl, sym, ap, subst, ◌∙◌, arith}
use Rattle.std.specs.List.{AllByRecursion, slice_set}
use Rattle.client_log.specs.LogState.{LogState}
use Rattle.client_log.specs.Transition.{end_of}
use Rattle.client_log.specs.Transition as log
use Rattle.core_world.specs.declared.any_node.AnyNode.{AnyNode}
use Rattle.core_world.specs.declared.any_node.AnyNode.TheVariants as any
use Rattle.log_flight.specs.Flights.{FlightState}
use Rattle.log_owner.specs.Sending.{name_of}
use Rattle.manager_moves.proofs.Events.{manager_events_are_moves}
use Rattle.manager_moves.specs.Moves.{Moves, NotServing, Said, SlotMove, Turn, took}
use Rattle.manager_moves.specs.Moves.Moves.{InSlot, LogSettles, LogTakes, Notes, Rests, Says, TakesMaps, Then, WriterTakes}
use Rattle.manager_moves.specs.Moves.Said.{AnswersItem, Counts, Greets, Registers, Stores}
use Rattle.manager_moves.specs.Moves.SlotMove.{AsksAgain, Begins, Checks, Cleans, Hears, Leaves, Names, Refuses, Stays, Takes}
use Rattle.manager_moves.specs.Moves.Turn.{Falls, Learns, ServesOn, Wakes}
use Rattle.manager_node.specs.declared.manager.Manager.{Manager}
use Rattle.manager_node.specs.declared.phase.Phase.{Phase}
use Rattle.manager_node.specs.declared.phase.Phase.TheVariants.{Down, Waiting, Serving as Serves}
use Rattle.manager_node.specs.Events.{happens}
use Rattle.manager_node.specs.Phases.{Went_to, is_serving, lasting_of}
use Rattle.manager_serving.specs.declared.serving.Serving.{Serving}
use Rattle.manager_slots.specs.declared.lasting.Lasting.{Lasting as Life}
use Rattle.manager_slots.specs.declared.slot_phase.SlotPhase.{SlotPhase}
use Rattle.manager_slots.specs.declared.slot_phase.SlotPhase.TheVariants as phase
use Rattle.manager_slots.specs.Takeovers.{Asker, asker, say_each, takeovers_fetch, takeovers_say}
use Rattle.manager_slots.specs.Tokens as tokens
use Rattle.node_base.specs.declared.effects.Effect.{Effect}
use Rattle.node_base.specs.declared.effects.Effect.TheVariants.{Does}
use Rattle.node_base.specs.declared.questions.Questions.{Questions}
use Rattle.node_base.specs.Effects.{acts_of}
use Rattle.group_map.specs.GroupMapState.{GroupMapState}
use Rattle.takeover.specs.declared.output.Out.{Out}
use Rattle.takeover.specs.declared.output.Out.TheVariants as out
use Rattle.token_manager.specs.declared.output.Out.{Out as SlotOut}
use Rattle.token_manager.specs.declared.output.Out.TheVariants as slot_out
use Rattle.token_manager.specs.Transition as slot
use Rattle.version_model.specs.declared.act.Act.TheVariants.{Filed}
use Rattle.wire_msg.specs.declared.cleaning.Check.{Check}
use Rattle.wire_msg.specs.declared.packet.Do.{Do}
use Rattle.world_base.specs.declared.estate.Estate.{Estate}
use Rattle.xfs_base.proofs.Alls.{all_append, all_flat_map}
use Rattle.xfs_base.specs.declared.node.NodeId.{NodeId}
use Rattle.xfs_base.specs.declared.node.NodeId.TheVariants as nodes
use Rattle.xfs_base.specs.declared.segment.End.{End}
use Rattle.xfs_base.specs.declared.segment.LogId.{LogId}
use Rattle.xfs_base.specs.declared.segment.SegName.{SegName}
use Rattle.xfs_base.specs.Logs.{log_of}
use Rattle.run_answers.proofs.file_law.Acts.{AllFileNone, FilesNone, Files, none_files, then_files}
use Rattle.run_answers.proofs.file_law.Lines.{Flies, IsBehind, IsInLine, takes_keep}
use Rattle.run_answers.proofs.file_law.Owners.{Kind, Turned}
use Rattle.headline.specs.Filings.{FilesOn, filed_last, files_from, managers_log, own_log}

no_log : (l : LogState) → None ≡ Some l → ⊥
no_log l fact = cc

one_log : (a b : LogState) → Some a ≡ Some b → a ≡ b
one_log a b fact = cc

-- ---- what files nothing

said_none : (e : Effect) → Said e → FilesNone e
said_none e (Stores f m) = tt
said_none e (AnswersItem item a) = tt
said_none e (Greets inc ask) = tt
said_none e (Registers d) = tt
said_none e (Counts u) = tt

pub all_said_none : (outs : List Effect) → AllByRecursion Said outs → AllFileNone outs
all_said_none [] all = tt
all_said_none (e ∷ outs) all = (said_none e all.0, all_said_none outs all.1)

slot_none : (k epoch : ℕ) (o : SlotOut) → AllFileNone (tokens.tokens_say k epoch o)
unfolding tokens.tokens_say
slot_none k epoch (slot_out.Grant client block stamp inc req mode entry) = (tt, tt)
slot_none k epoch (slot_out.Forward client block stamp to inc req ver) = (tt, tt)
slot_none k epoch (slot_out.Recall client block stamp keep) = (tt, tt)
slot_none k epoch (slot_out.Applied log applied) = (tt, tt)
slot_none k epoch (slot_out.Live entry) = tt
slot_none k epoch slot_out.Dead = tt

check_none : (m : Check) (epoch : ℕ) (o : SlotOut) → AllFileNone (tokens.tokens_answer m epoch o)
unfolding tokens.tokens_answer
check_none m epoch o = (tt, tt)

fetched_none : (p : SlotPhase) (q : Questions) (server : ℕ) (name : SegName) (own : ℕ) → AllFileNone (takeovers_fetch p q server name own).outs
fetched_none (phase.Taking t) q server name own = (tt, tt)
fetched_none (phase.Away epoch) q server name own = tt
fetched_none (phase.Active a) q server name own = tt
fetched_none (phase.Broken epoch seg) q server name own = tt

one_none : (k : ℕ) (x : Asker) (o : Out) → AllFileNone (takeovers_say k x o).outs
unfolding takeovers_say
one_none k x (out.Poll to) = (tt, tt)
one_none k x (out.Fetch server name own) = fetched_none x.phase x.questions server name own
one_none k x (out.Active epoch index beliefs applied) = tt
one_none k x (out.Lost name) = (tt, tt)

each_none : (k : ℕ) (x : Asker) (outs : List Out) → AllFileNone (say_each k x outs).outs
unfolding say_each
each_none k x [] = tt
each_none k x (o ∷ outs) =
    all_append FilesNone (takeovers_say k x o).outs (say_each k (takeovers_say k x o).state outs).outs (one_none k x o)
    (each_none k (takeovers_say k x o).state outs)

move_none : (what : Do) (known : Option GroupMapState) (k : ℕ) (x y : Asker) (o : List Effect) → SlotMove what known k x y o → AllFileNone o
move_none what known k x y o (Stays z) = tt
move_none what known k x y o (Takes z a given fed at) =
    all_flat_map FilesNone (tokens.tokens_say k a.slot.epoch) (slot_none k a.slot.epoch) (slot.transition a.slot given).outs
move_none what known k x y o (Checks z a packet m came same at) =
    all_flat_map FilesNone (tokens.tokens_answer m a.slot.epoch) (check_none m a.slot.epoch) (slot.transition a.slot (tokens.check_input m)).outs
move_none what known k x y o (Refuses z epoch seg packet client m came from same at) = (tt, tt)
move_none what known k x y o (Cleans z a at) = tt
move_none what known k x y o (Names z a parts at) = tt
move_none what known k x y o (Hears z t given because at) = each_none k _ _
move_none what known k x y o (AsksAgain z t polls at) = each_none k _ _
move_none what known k x y o (Leaves z packet news s brought among same) = tt
move_none what known k x y o (Begins z packet news s groups clients brought among same is_known) = each_none k _ _

-- ---- one that serves

module _ (n : ℕ) where
  abbrev pub me : NodeId
  me = nodes.Manager n

  abbrev pub own : LogId
  own = log_of me

  -- the manager of this number, whose log is in line, and ends with what it filed last
  pub record Stands (inc last : ℕ) (s : Serving) : Type 0 where
    pub number : s.lasting.number ≡ n
    pub line : IsInLine own inc s.log
    pub ends : s.log.end.seq ≡ last
    pub boots : s.lasting.inc ≡ inc

  abbrev pub last_by : ℕ → List Effect → ℕ
  last_by last o = filed_last last (acts_of me o)

  pub record Goes (inc last : ℕ) (t : Serving) (o : List Effect) : Type 0 where
    pub after : ℕ
    pub state : Stands inc after t
    pub files : Files own inc last (acts_of me o) after

  quiet : (inc last : ℕ) (t : Serving) (o : List Effect) → Stands inc last t → AllFileNone o → Goes inc last t o
  quiet inc last t o h none = record { after = last; state = h; files = none_files own inc me last o none }

  settles_so : (inc last : ℕ) (s : Serving) (l : LogState) (f : FlightState) → Stands inc last s → IsInLine own inc l → s.log.flight ≡ Some f
      → l.end ≡ end_of f.segment
      → Goes inc last (record s { log = l }) (Does (Filed (name_of (log_of (nodes.Manager s.lasting.number)) (end_of f.segment))) ∷ [])
  settles_so inc last s l f h line flew ends =
      let b : IsBehind own inc s.log.end.seq f.segment.name = subst (λ (o : Option FlightState). Flies own inc s.log.end.seq o) flew h.line.flies in
      let end : End = end_of f.segment in
      let next : end.seq ≡ suc last = (let q = b.next ∙ ap (λ k. k + 1) h.ends in omega (arith, q)) in
      record {
        after = end.seq;
        state = record { number = h.number; line = line; ends = ap (λ (x : End). x.seq) ends; boots = h.boots };
        files = record { each = (record { log = ap (λ k. log_of (nodes.Manager k)) h.number; inc = b.boot; number = next }, tt); last = refl };
      }

  module _ (what : Do) (inc : ℕ) where
    pub moves_file : (last : ℕ) (s t : Serving) (o : List Effect) → Moves what s t o → Stands inc last s → Goes inc last t o
    moves_file last s t o (Rests u) h = quiet inc last u [] h tt
    moves_file last s t o (Then {t = v} {o = first} {m = more} a b) h =
        let x = moves_file last s v first a h in
        let y = moves_file x.after v t more b x.state in
        record { after = y.after; state = y.state; files = then_files own inc me last x.after y.after first more x.files y.files }
    moves_file last s t o (InSlot u k p x m at move) h =
        quiet inc last t m (record { number = h.number; line = h.line; ends = h.ends; boots = h.boots })
        (move_none what s.maps.groups k (asker p s.lasting.questions) x m move)
    moves_file last s t o (LogTakes u given because same) h =
        quiet inc last t []
        (record { number = h.number; line = takes_keep own inc s.log given h.line; ends = ap (λ (e : End). e.seq) same ∙ h.ends; boots = h.boots }) tt
    moves_file last s t o (LogSettles u given because f flew ends) h =
        settles_so inc last s (log.transition s.log given).state f h (takes_keep own inc s.log given h.line) flew ends
    moves_file last s t o (WriterTakes u given) h = quiet inc last t [] (record { number = h.number; line = h.line; ends = h.ends; boots = h.boots }) tt
    moves_file last s t o (TakesMaps u packet news brought) h = quiet inc last t [] (record { number = h.number; line = h.line; ends = h.ends; boots = h.boots }) tt
    moves_file last s t o (Notes u v slots same writer maps number boot) h =
        quiet inc last t []
        (record {
          number = number ∙ h.number;
          line = subst (λ (l : LogState). IsInLine own inc l) (sym same) h.line;
          ends = ap (λ (l : LogState). l.end.seq) same ∙ h.ends;
          boots = boot ∙ h.boots;
        }) tt
    moves_file last s t o (Says u e said) h = quiet inc last t (e ∷ []) h (said_none e said, tt)

  -- ---- any event

  -- its log, where it serves, is of its own incarnation
  abbrev pub PhaseNow : ℕ → Phase → Type 0
  PhaseNow last (Down kept) = kept.number ≡ n
  PhaseNow last (Waiting kept hello) = kept.number ≡ n
  PhaseNow last (Serves s) = Stands s.log.inc last s

  number_is : (last : ℕ) (p : Phase) → PhaseNow last p → (lasting_of p).number ≡ n
  number_is last (Down kept) h = h
  number_is last (Waiting kept hello) h = h
  number_is last (Serves s) h = h.number

  abbrev from : Phase → ℕ → ℕ
  from p last = if is_serving p then last else 0

  record TurnsSo (p q : Phase) (last : ℕ) (o : List Effect) : Type 0 where
    holds : PhaseNow (last_by (from p last) o) q
    numbers : (l : LogState) → managers_log p ≡ Some l → FilesOn own l.inc last (acts_of me o)
    opens : managers_log p ≡ None → (l : LogState) → managers_log q ≡ Some l → l.inc ≡ (lasting_of q).inc
    stays : (was l : LogState) → managers_log p ≡ Some was → managers_log q ≡ Some l → l.inc ≡ was.inc

  -- it stands so by the incarnation of its log
  now_so : (inc last : ℕ) (t : Serving) (o : List Effect) → (g : Goes inc last t o) → Stands t.log.inc (last_by last o) t
  now_so inc last t o g =
      let boot : t.log.inc ≡ inc = g.state.line.boot in record {
        number = g.state.number;
        line = subst (λ i. IsInLine own i t.log) (sym boot) g.state.line;
        ends = g.state.ends ∙ sym g.files.last;
        boots = g.state.boots ∙ sym boot;
      }

  serves_so : (last : ℕ) (s t : Serving) (o : List Effect) → Goes s.log.inc last t o → TurnsSo (Serves s) (Serves t) last o
  serves_so last s t o g = record {
    holds = now_so s.log.inc last t o g;
    numbers = λ l fact. subst (λ (x : LogState). FilesOn own x.inc last (acts_of me o)) (one_log s.log l fact) g.files.each;
    opens = λ none. absurd (no_log s.log (sym none));
    stays = λ was l before fact.
        sym (ap (λ (x : LogState). x.inc) (one_log t.log l fact)) ∙ (g.state.line.boot ∙ ap (λ (x : LogState). x.inc) (one_log s.log was before));
  }

  wakes_so : (last : ℕ) (life : Life) (asking : ℕ) (t : Serving) (o : List Effect) → Goes life.inc 0 t o → TurnsSo (Waiting life asking) (Serves t) last o
  wakes_so last life asking t o g = record {
    holds = now_so life.inc 0 t o g;
    numbers = λ l fact. absurd (no_log l fact);
    opens = λ none l fact. sym (ap (λ (x : LogState). x.inc) (one_log t.log l fact)) ∙ (g.state.line.boot ∙ sym g.state.boots);
    stays = λ was l before fact. absurd (no_log was before);
  }

  falls_so : (p q : Phase) (last : ℕ) (o : List Effect) → NotServing q → (lasting_of q).number ≡ n → AllFileNone o → TurnsSo p q last o
  falls_so p (Down kept) last o down number none = record {
    holds = number;
    numbers = λ l fact. (none_files own l.inc me last o none).each;
    opens = λ _ l fact. absurd (no_log l fact);
    stays = λ was l before fact. absurd (no_log l fact);
  }
  falls_so p (Waiting kept hello) last o down number none = record {
    holds = number;
    numbers = λ l fact. (none_files own l.inc me last o none).each;
    opens = λ _ l fact. absurd (no_log l fact);
    stays = λ was l before fact. absurd (no_log l fact);
  }
  falls_so p (Serves s) last o down number none = absurd down

  turn_so : (what : Do) (p q : Phase) (last : ℕ) (o : List Effect) → Turn what p q o → PhaseNow last p → TurnsSo p q last o
  turn_so what p q last o (ServesOn {s = s} {t = t} m) h = serves_so last s t o (moves_file what s.log.inc last s t o m h)
  turn_so what p q last o (Learns s k x given a) h =
      let t : Asker = (took k (asker (phase.Taking x) s.lasting.questions) x given).state in
      serves_so last s (record s { slots = slice_set s.slots k t.phase; lasting = record s.lasting { questions = t.questions } }) o
      (quiet s.log.inc last _ o (record { number = h.number; line = h.line; ends = h.ends; boots = h.boots }) (each_none k _ _))
  turn_so what p q last o (Falls a b m down number said) h = falls_so p q last o down (number ∙ number_is last p h) (all_said_none o said)
  turn_so what p q last o (Wakes life asking {s = s} {t = t} fresh none new m) h =
      wakes_so last life asking t o
      (moves_file what life.inc 0 s t o m (record {
        number = ap (λ (k : Life). k.number) new.same ∙ h;
        line = record {
          its = new.its ∙ ap (λ k. log_of (nodes.Manager k)) h;
          boot = new.boot;
          flies = subst (λ (f : Option FlightState). Flies own life.inc s.log.end.seq f) (sym new.flight) tt;
        };
        ends = new.end;
        boots = ap (λ (k : Life). k.inc) new.same;
      }))

  -- ---- the law of its kind

  abbrev pub Holds : ℕ → AnyNode → Type 0
  Holds last (any.Manager m) = PhaseNow last m.phase
  Holds last _ = ⊥

  manager_turns : (last : ℕ) (m : Manager) (what : Do) → PhaseNow last m.phase → Turned me Holds last (any.Manager m) what
  manager_turns last m what h =
      let w : Went_to = happens m what in
      let t : TurnsSo m.phase w.state last w.outs = turn_so what m.phase w.state last w.outs (manager_events_are_moves m what) h in
      let same : (lasting_of m.phase).number ≡ n = number_is last m.phase h in
      record {
        holds = subst (λ k. PhaseNow (filed_last (from m.phase last) (acts_of (nodes.Manager k) w.outs)) w.state) (sym same) t.holds;
        numbers = λ l fact. subst (λ k. FilesOn own l.inc last (acts_of (nodes.Manager k) w.outs)) (sym same) (t.numbers l fact);
        opens = t.opens;
        stays = t.stays;
      }

  turns_so : (last : ℕ) (x : AnyNode) (what : Do) → Holds last x → Turned me Holds last x what
  turns_so last (any.Client c) what h = absurd h
  turns_so last (any.Manager m) what h = manager_turns last m what h
  turns_so last (any.Server v) what h = absurd h
  turns_so last (any.Cleaner c) what h = absurd h
  turns_so last (any.Registry r) what h = absurd h

  phase_rests : (last : ℕ) (p : Phase) → PhaseNow last p → PhaseNow (from p last) p
  phase_rests last (Down kept) h = h
  phase_rests last (Waiting kept hello) h = h
  phase_rests last (Serves s) h = h

  rests_on : (last : ℕ) (x : AnyNode) → Holds last x → Holds (files_from (Some x) last) x
  rests_on last (any.Client c) h = absurd h
  rests_on last (any.Manager m) h = phase_rests last m.phase h
  rests_on last (any.Server v) h = absurd h
  rests_on last (any.Cleaner c) h = absurd h
  rests_on last (any.Registry r) h = absurd h

  phase_ends : (last : ℕ) (p : Phase) (l : LogState) → PhaseNow last p → managers_log p ≡ Some l → l.end.seq ≡ last
  phase_ends last (Down kept) l h fact = absurd (no_log l fact)
  phase_ends last (Waiting kept hello) l h fact = absurd (no_log l fact)
  phase_ends last (Serves s) l h fact = ap (λ (x : LogState). x.end.seq) (sym (one_log s.log l fact)) ∙ h.ends

  ends_so : (last : ℕ) (x : AnyNode) (l : LogState) → Holds last x → own_log (Some x) ≡ Some l → l.end.seq ≡ last
  ends_so last (any.Client c) l h fact = absurd h
  ends_so last (any.Manager m) l h fact = phase_ends last m.phase l h fact
  ends_so last (any.Server v) l h fact = absurd h
  ends_so last (any.Cleaner c) l h fact = absurd h
  ends_so last (any.Registry r) l h fact = absurd h

  pub manager_kind : (e : Estate AnyNode) → Kind me e
  manager_kind e = record {
    Holds = Holds;
    starts = λ works. record { number = refl; line = record { its = refl; boot = refl; flies = tt }; ends = refl; boots = refl };
    rests = rests_on;
    ends = ends_so;
    turns = turns_so;
  }
