-- What a takeover makes of an input in the small world: it is seen as before with one input more, or the slot that it hands out is active there.
use Rattle.std.proofs.Common.{◌≡◌, ℕ, ◌-◌, ◌<◌, ◌≤◌, ◌==◌, ◌⊎◌, inl, inr, ⊎_elim, nat_lt, max, Bool, true, false, cond, List, [], ◌∷◌, ◌++◌, map, length, Some, None, refl, sym, ap, subst, ◌∙◌, arith}
use Rattle.std.specs.Prelude.{Contains, ◌||◌}
use Rattle.std.specs.List.{range_with_len}
use Rattle.std.proofs.lemmas.Bool.{eqb-true, ltb-true}
use Rattle.std.proofs.lemmas.Bool.Decides.{nat_tests}
use Rattle.xfs_base.proofs.Booleans.{by_test, contrary}
use Rattle.xfs_base.proofs.Members.{contains_first}
use Rattle.xfs_base.specs.Limits.{u32_end, block_logs}
use Rattle.xfs_base.specs.Steps.{still}
use Rattle.xfs_base.specs.declared.block.BlockId.{BlockId}
use Rattle.xfs_base.specs.declared.news.SlotNews.{SlotNews}
use Rattle.xfs_base.specs.declared.node.NodeId.{NodeId}
use Rattle.xfs_base.specs.declared.node.NodeId.TheVariants.{Client, Cleaner}
use Rattle.xfs_base.specs.declared.segment.End.{End}
use Rattle.xfs_base.specs.declared.token.Mode.{Mode}
use Rattle.xfs_base.proofs.NodeOrder.{same_node_is}
use Rattle.xfs_base.specs.Nodes.{same_node}
use Rattle.xfs_base.specs.Logs.{block_writer, cleaners_number}
use Rattle.checkpoint.specs.WriterState.{WorkState}
use Rattle.node_slots.specs.node_index_tie.Pages.{Desk}
use Rattle.group_map.specs.GroupMapState.{GroupMapState}
use Rattle.index_tie.specs.Net.{Net, Happens, with_slot, HasRead}
use Rattle.index_tie.specs.Net.Packet.{CleanerReported}
use Rattle.index_tie.specs.Net.Happens.{Activates}
use Rattle.index_tie.specs.Takeovers.{IsEnd, Linked}
use Rattle.headline.specs.Indexes.{of_log}
use Rattle.index_tie.proofs.Takeovers.{applied_in, of_log_in, nine}
use Rattle.log_protocol.specs.Tables.{In}
use Rattle.manager_slots.specs.Slots.{epoch_of, managed}
use Rattle.manager_slots.specs.SlotTable.{Hearer, hear_of}
use Rattle.manager_slots.specs.Takeovers.{Asker, asker, Done, takeovers_say, say_each, outs_of, takeovers_take, report_input, on_report, phase_of}
use Rattle.manager_slots.specs.declared.slot_phase.SlotPhase.{SlotPhase}
use Rattle.manager_slots.specs.declared.slot_phase.SlotPhase.TheVariants as phase
use Rattle.manager_slots.specs.declared.slot_phase.Taking.{Taking}
use Rattle.node_base.specs.declared.questions.Questions.{Questions as Numbers}
use Rattle.node_slots.specs.node_tie.ManagerEvents.{HeldAt, ManagedAt}
use Rattle.node_slots.proofs.node_tie.ManagerTakes.{Hands, Brings, took, all_heard}
use Rattle.segment_format.specs.declared.segment.Segment.{Segment}
use Rattle.slot_beliefs.specs.Index.{block_index_new, pages_of, merge_all}
use Rattle.slot_beliefs.specs.Recalls.{applied_of as applied_in_slot}
use Rattle.takeover.specs.Course.{Course, course_of, after_input, IsTakenOver}
use Rattle.takeover.specs.ReadBack.{told_by_all}
use Rattle.takeover.specs.Reports.{applied_of, applied_at, beliefs_of, is_heard, end_of, end_from, no_end, polled, client_after, awaited_of, horizon_at}
use Rattle.takeover.specs.TakeState.{TakeState, take_start}
use Rattle.takeover.specs.Transition.{active, transition}
use Rattle.takeover.specs.declared.input.In.{In as Input}
use Rattle.takeover.specs.declared.input.In.TheVariants as input
use Rattle.takeover.specs.declared.output.Out.TheVariants as out
use Rattle.takeover.specs.declared.report.Report.{Report as Heard}
use Rattle.takeover.proofs.Standing.{taken_over}
use Rattle.token_manager.specs.SlotState.{SlotState}
use Rattle.token_manager.specs.Transition.{slot_start as slot_started}
use Rattle.token_protocol.specs.Basics.{In as Among}
use Rattle.wire_msg.specs.declared.deltas.Report.{Report}
use Rattle.node_slots.specs.node_index_tie.ManagerEvents.{TakingAgrees, PhaseAgrees, completes}
use Rattle.node_slots.specs.node_index_tie.Sight.{Questions, held_in, RowsFit, IsRead, EndKnown, ReportKnown, NewsKnown}
use Rattle.headline.specs.Filed.{AreTexts, Texts}
use Rattle.node_slots.proofs.node_index_tie.Active.{Event, event_same}
use Rattle.node_slots.proofs.node_index_tie.Moves.{Brought, AllDone, put_here, grows_slot, sees_quiet, sees_slot}
use Rattle.node_slots.proofs.node_index_tie.Puts.{paged_first, paged_on}
use Rattle.node_slots.proofs.node_index_tie.Reading.{after_one, AllRead, read_on, tells_parts, its_texts, fit_by_all, end_from_is}
use Rattle.node_slots.proofs.node_index_tie.Taking.{all_fits, maps_plain, takes_done, Stays, stays_each, stays_ticks}

-- ---- what the reports told

or_rest : (a b : Bool) → a ≡ false → (a || b) ≡ true → b ≡ true
or_rest true b off h = contrary (sym off)
or_rest false b off h = h

module _ (part : ℕ) (n : Net) where
  known_of : (epoch l : ℕ) (end : End) → ReportKnown part n epoch (block_writer l) end → EndKnown part n epoch l end
  known_of epoch l end k = by (l == cleaners_number) refl k
    where
      by : (t : Bool) → (l == cleaners_number) ≡ t → ReportKnown part n epoch (cond t Cleaner (Client l)) end → EndKnown part n epoch l end
      by true fact k = subst (λ x. EndKnown part n epoch x end) (sym (eqb-true l cleaners_number fact)) k.0
      by false fact k = k

  cleaner_from : (epoch : ℕ) (rs : List Heard) → is_heard rs Cleaner ≡ true → ((r : Heard) → Among r rs → ReportKnown part n epoch r.from r.end)
      → In (CleanerReported epoch (end_from Cleaner rs).seq) n.sent
  cleaner_from epoch [] off known = contrary off
  cleaner_from epoch (r ∷ rs) heard_ known = one (same_node r.from Cleaner) refl
      (λ off. cleaner_from epoch rs (or_rest (same_node r.from Cleaner) (is_heard rs Cleaner) off heard_) (λ x there. known x (inr there)))
    where
      one : (t : Bool) → same_node r.from Cleaner ≡ t → (same_node r.from Cleaner ≡ false → In (CleanerReported epoch (end_from Cleaner rs).seq) n.sent)
          → In (CleanerReported epoch (cond t r.end (end_from Cleaner rs)).seq) n.sent
      one true fact later = (subst (λ node. ReportKnown part n epoch node r.end) (same_node_is r.from Cleaner fact) (known r (inl refl))).1
      one false fact later = later fact

  module _ (epoch : ℕ) (reports : List Heard) (all : (r : Heard) → Among r reports → ReportKnown part n epoch r.from r.end) where
    -- what holds of no end, and of the end of the log that is known, holds of the reported one
    of_end : (l : ℕ) (P : End → Type 0) → P no_end → ((end : End) → EndKnown part n epoch l end → P end) → P (end_of reports l)
    of_end l P none known =
        end_from_is P (block_writer l) reports none
        (λ r there from. known r.end (known_of epoch l r.end (subst (λ node. ReportKnown part n epoch node r.end) from (all r there))))

    -- once nobody is awaited the cleaner has reported
    cleaner_in : (clients : ℕ) → awaited_of clients reports ≡ [] → In (CleanerReported epoch (end_of reports cleaners_number).seq) n.sent
    cleaner_in clients none = cleaner_from epoch reports (all_heard reports (polled clients) Cleaner none
        (last (map client_after (range_with_len 0 clients)))) all
      where
        last : (xs : List NodeId) → Among Cleaner (xs ++ Cleaner ∷ [])
        last [] = inl refl
        last (x ∷ xs) = inr (last xs)

max_less : (a b c : ℕ) → a < c → b < c → max a b < c
max_less a b c h k = grind (arith, nat_tests)

module _ (part : ℕ) (texts : Texts) (n : Net) where
  -- what the input brings is known
  pub record Owes (epoch : ℕ) (take : TakeState) (given : Input) : Type 0 where
    pub brings : (r : Heard) → Brings given r → ReportKnown part n epoch r.from r.end
    pub reads : (s : Segment) → completes take given ≡ Some s → IsRead part texts s

  abbrev pub OwesAt : SlotPhase → Input → Type 0
  OwesAt (phase.Taking t) given = Owes t.epoch t.take given
  OwesAt _ given = Unit {0}

  -- ---- one input more

  taken_on : (epoch : ℕ) (take : TakeState) (given : Input) → TakingAgrees part texts n epoch take → Owes epoch take given
      → TakingAgrees part texts n epoch (transition take given).state
  taken_on epoch take given k owes =
      let c = course_of k.news k.groups k.clients k.inputs in
      let one = after_one (record { state = take_start k.news k.groups k.clients; read = record { whole = []; present = [] } }) k.inputs given in
      let h = took take given k.ready k.once in
      let read : AllRead part texts (after_input c given).read = read_on part texts c.state c.read given (record { whole = k.whole; present = k.present })
      (λ s fact. owes.reads s (ap (λ x. completes x given) k.take_is ∙ fact)) in
      record {
        news = k.news;
        groups = k.groups;
        clients = k.clients;
        inputs = k.inputs ++ given ∷ [];
        take_is = ap (λ s. (transition s given).state) k.take_is ∙ sym (ap (λ (x : Course). x.state) one);
        slot = k.slot;
        of_epoch = k.of_epoch;
        known = k.known;
        whole = (subst (λ (x : Course). AllRead part texts x.read) (sym one) read).whole;
        present = (subst (λ (x : Course). AllRead part texts x.read) (sym one) read).present;
        reports = λ r fact. ⊎_elim (λ old. k.reports r old) (λ new. owes.brings r new) (h.reports r fact);
        once = h.once;
        ready = h.ready;
      }

module _ (part : ℕ) (texts : Texts) (asked : Questions) (brought : Brought) (desk : Desk) where
  -- a checkpoint of the slot that is being written is of an epoch at which it was managed
  abbrev pub Busy : Net → Type 0
  Busy n = (w : WorkState) → desk.writer.work ≡ Some w → w.slot ≡ part → n.slots w.epoch ≡ None → ⊥

  -- ---- the slot is handed out

  module _ (n : Net) (t : Taking) (given : Input) (k : TakingAgrees part texts n t.epoch t.take) (owes : Owes part texts n t.epoch t.take given)
      (filed : AreTexts texts n.filed) where
    abbrev later : TakeState
    later = (transition t.take given).state

    abbrev course : Course
    course = course_of k.news k.groups k.clients k.inputs

    is_course : later ≡ (after_input course given).state
    is_course = ap (λ s. (transition s given).state) k.take_is

    read : AllRead part texts (after_input course given).read
    read = read_on part texts course.state course.read given (record { whole = k.whole; present = k.present })
        (λ s fact. owes.reads s (ap (λ x. completes x given) k.take_is ∙ fact))

    known : (r : Heard) → Among r later.reports → ReportKnown part n t.epoch r.from r.end
    known r fact = ⊎_elim (λ old. k.reports r old) (λ new. owes.brings r new) ((took t.take given k.ready k.once).reports r fact)

    horizon : n.horizon t.epoch ≡ k.news.horizon
    horizon = ap n.horizon (sym k.of_epoch) ∙ sym k.known.horizon

    ends : (l : ℕ) → 0 < l → l ≤ block_logs → of_log k.news.horizon l ≤ (end_of later.reports l).seq → IsEnd n.filed l (end_of later.reports l)
    ends l some limit = of_end part n t.epoch later.reports known l (λ end. of_log k.news.horizon l ≤ end.seq → IsEnd n.filed l end)
        (λ low. absurd (let h = k.known.from_one l some limit in omega arith))
        (λ end e. subst (λ (h : List ℕ). 0 < of_log h l → of_log h l ≤ end.seq → IsEnd n.filed l end) horizon e.filed (k.known.from_one l some limit))

    linked : (l : ℕ) → 0 < l → l ≤ block_logs → Linked n.filed l (of_log k.news.horizon l) (end_of later.reports l).seq
    linked l some limit = of_end part n t.epoch later.reports known l (λ end. Linked n.filed l (of_log k.news.horizon l) end.seq)
        (λ q low high. absurd (omega arith)) (λ end e. subst (λ (h : List ℕ). 0 < of_log h l → Linked n.filed l (of_log h l) end.seq) horizon e.linked
        (k.known.from_one l some limit))

    short : (l : ℕ) → 0 < l → l ≤ block_logs → applied_at k.news.horizon later.reports l < u32_end
    short l some limit =
        let last : (end_of later.reports l).seq < u32_end = of_end part n t.epoch later.reports known l (λ end. end.seq < u32_end) (omega arith)
        (λ end e. e.short) in
        let low = k.known.short l in
        let at = of_log_in k.news.horizon l some limit in
        max_less (end_of later.reports l).seq (horizon_at k.news.horizon l - 1) u32_end last (omega arith)

    module _ (hands : Hands later (transition t.take given).outs) where
      abbrev epoch : ℕ
      epoch = later.news.epoch

      abbrev applied : List ℕ
      applied = applied_of later.news.horizon later.reports

      abbrev beliefs : List (BlockId × ℕ × Mode)
      beliefs = beliefs_of later.reports

      abbrev slot : SlotState
      slot = slot_started epoch hands.index beliefs applied

      contains : Contains (transition course.state given).outs (out.Active epoch hands.index beliefs applied)
      contains = subst (λ s. Contains (transition s given).outs (out.Active epoch hands.index beliefs applied)) k.take_is
          (subst (λ os. Contains os (out.Active epoch hands.index beliefs applied)) (sym hands.says_active)
          (contains_first (out.Active epoch hands.index beliefs applied) []))

      over : IsTakenOver k.news (after_input course given) epoch hands.index beliefs applied
      over = taken_over k.news k.groups k.clients k.inputs given epoch hands.index beliefs applied contains

      none : n.slots epoch ≡ None
      none = ap n.slots over.of_epoch ∙ k.known.free

      here : t.epoch ≡ epoch
      here = sym k.of_epoch ∙ sym over.of_epoch

      reported : In (CleanerReported epoch (end_of (after_input course given).state.reports cleaners_number).seq) n.sent
      reported = subst (λ (s : TakeState). In (CleanerReported epoch (end_of s.reports cleaners_number).seq) n.sent) is_course
          (subst (λ e. In (CleanerReported e (end_of later.reports cleaners_number).seq) n.sent) here
          (cleaner_in part n t.epoch later.reports known later.clients hands.reported))

      has : HasRead part (held_in part texts) n epoch k.news (after_input course given)
      has = record {
        slot = k.slot;
        epoch = sym over.of_epoch;
        horizon = k.known.horizon ∙ ap n.horizon (sym over.of_epoch);
        parts = k.known.parts ∙ ap n.parts (sym over.of_epoch);
        written = tells_parts part texts k.news.parts (length k.news.parts) (after_input course given).read.whole read.whole;
        ends = subst (λ (s : TakeState). (l : ℕ) → 0 < l → l ≤ block_logs → of_log k.news.horizon l ≤ (end_of s.reports l).seq → IsEnd n.filed l (end_of s.reports l))
            is_course ends;
        linked = subst (λ (s : TakeState). (l : ℕ) → 0 < l → l ≤ block_logs → Linked n.filed l (of_log k.news.horizon l) (end_of s.reports l).seq) is_course linked;
        texts = its_texts part texts n.filed filed (after_input course given).read.whole read.whole;
        reported = reported;
      }

      fits : RowsFit hands.index
      fits = subst RowsFit (sym over.rows) (all_fits [] (told_by_all k.news.slot (after_input course given).read.whole) tt
          (subst (λ x. RowsFit (told_by_all x (after_input course given).read.whole)) (sym k.slot)
          (fit_by_all part texts (after_input course given).read.whole read.whole)))

      slot_short : (l : ℕ) → 0 < l → l ≤ block_logs → applied_in_slot applied l < u32_end
      slot_short l some limit =
          let r = (after_input course given).state.reports in
          let at : applied_in_slot applied l ≡ applied_at k.news.horizon r l = ap (λ xs. applied_in_slot xs l) over.applied_to ∙ sym
          (of_log_in (applied_of k.news.horizon r) l some limit) ∙ applied_in k.news.horizon r l some limit in
          subst (λ x. x < u32_end) (sym at) (subst (λ (s : TakeState). applied_at k.news.horizon s.reports l < u32_end) is_course (short l some limit))

      -- the slot that it hands out becomes active in the small world
      pub starts : Happens part (held_in part texts) n (with_slot n later.news.epoch
          (slot_started later.news.epoch hands.index (beliefs_of later.reports) (applied_of later.news.horizon later.reports)))
      starts =
          Activates epoch k.news k.groups k.clients k.inputs given hands.index beliefs applied none (subst (λ x. 0 < x) (sym over.of_epoch) k.known.some)
          (subst (λ x. x ≤ n.epoch) (sym over.of_epoch) k.known.begun) contains has

      handed : brought.ends → Busy n → Event part texts asked brought desk n (phase.Taking t) (managed slot) []
      handed may busy =
          sees_slot part texts asked brought n (phase.Taking t) (managed slot) epoch slot [] (λ m. PhaseAgrees part texts m desk (managed slot))
          starts here (λ d at. here ∙ at) (λ _. may) refl (let h = here in omega arith) tt
          (record {
            there = put_here n.slots epoch (Some slot);
            nine = nine later.news.horizon later.reports;
            short = slot_short;
            pages = paged_on part texts n (with_slot n epoch slot) (grows_slot n epoch slot) desk epoch (pages_of (merge_all block_index_new hands.index))
                []
                (paged_first part texts n desk epoch hands.index fits (λ w there of at. busy w there of (ap n.slots at ∙ none)));
          })

  -- ---- any input

  abbrev pub AskEvent : Net → SlotPhase → Done → Type 0
  AskEvent n p d = Event part texts asked brought desk n p d.state.phase d.outs

  -- nothing happens in the small world
  pub event_staying : (n : Net) (p : SlotPhase) (d : Done) → Stays part texts asked desk n p d
      → (brought.ends → (e : ℕ) → ManagedAt p e → ManagedAt d.state.phase e) → AllDone part texts asked n d.outs → AskEvent n p d
  event_staying n p d t managed done =
      sees_quiet part texts asked brought n p d.state.phase d.outs (λ m. PhaseAgrees part texts m desk d.state.phase) (λ e h. inl (t.held e h))
      managed
      (let e = t.epoch in omega arith) done t.agrees

  is_handed : (n : Net) (k : ℕ) (t : Taking) (q : Numbers) (given : Input) (agrees : TakingAgrees part texts n t.epoch t.take)
      (owes : Owes part texts n t.epoch t.take given) (filed : AreTexts texts n.filed)
      (hands : Hands (transition t.take given).state (transition t.take given).outs) (may : brought.ends) (busy : Busy n)
      → AskEvent n (phase.Taking t)
      (say_each k (asker (phase.Taking (record t { take = (transition t.take given).state })) q) (active (transition t.take given).state hands.index ∷ []))
  unfolding say_each takeovers_say
  is_handed n k t q given agrees owes filed hands may busy = handed n t given agrees owes filed hands may busy

  pub slot_hears : brought.ends → (n : Net) (k : ℕ) (p : SlotPhase) (q : Numbers) (given : Input) → PhaseAgrees part texts n desk p → Busy n
      → AreTexts texts n.filed
      → OwesAt part texts n p given → AskEvent n p (takeovers_take (asker p q) k given)
  unfolding takeovers_take outs_of say_each
  slot_hears may n k (phase.Away epoch) q given agrees busy filed owes = event_staying n (phase.Away epoch) _
      (stays_each part texts asked desk n k (asker (phase.Away epoch) q) [] tt agrees) (λ _ e h. h)
      (takes_done part texts asked n k (asker (phase.Away epoch) q) given)
  slot_hears may n k (phase.Active a) q given agrees busy filed owes = event_staying n (phase.Active a) _
      (stays_each part texts asked desk n k (asker (phase.Active a) q) [] tt agrees) (λ _ e h. h)
      (takes_done part texts asked n k (asker (phase.Active a) q) given)
  slot_hears may n k (phase.Broken epoch seg) q given agrees busy filed owes = event_staying n (phase.Broken epoch seg) _
      (stays_each part texts asked desk n k (asker (phase.Broken epoch seg) q) [] tt agrees) (λ _ e h. h)
      (takes_done part texts asked n k (asker (phase.Broken epoch seg) q) given)
  slot_hears may n k (phase.Taking t) q given agrees busy filed owes =
      let u : Taking = record t { take = (transition t.take given).state } in
      ⊎_elim
      (λ plain. event_staying n (phase.Taking t) (say_each k (asker (phase.Taking u) q) (transition t.take given).outs)
      (let s = stays_each part texts asked desk n k (asker (phase.Taking u) q) (transition t.take given).outs plain
      (taken_on part texts n t.epoch t.take given agrees owes) in record { agrees = s.agrees; held = s.held; epoch = s.epoch }) (λ _ e h. absurd h)
      (takes_done part texts asked n k (asker (phase.Taking t) q) given))
      (λ hands. subst (λ os. AskEvent n (phase.Taking t) (say_each k (asker (phase.Taking u) q) os)) (sym hands.says_active)
      (is_handed n k t q given agrees owes filed hands may busy))
      (took t.take given agrees.ready agrees.once).said

  -- newer groups end no takeover
  pub slot_regroups : (n : Net) (k : ℕ) (p : SlotPhase) (q : Numbers) (groups : GroupMapState) → PhaseAgrees part texts n desk p
      → OwesAt part texts n p (input.Maps groups) → AskEvent n p (takeovers_take (asker p q) k (input.Maps groups))
  unfolding takeovers_take outs_of say_each
  slot_regroups n k (phase.Taking t) q groups agrees owes =
      let given = input.Maps groups in
      let u : Taking = record t { take = (transition t.take given).state } in
      let s = stays_each part texts asked desk n k (asker (phase.Taking u) q) (transition t.take given).outs (maps_plain t.take groups)
      (taken_on part texts n t.epoch t.take given agrees owes) in
      event_staying n (phase.Taking t) (say_each k (asker (phase.Taking u) q) (transition t.take given).outs)
      (record { agrees = s.agrees; held = s.held; epoch = s.epoch }) (λ _ e h. absurd h)
      (takes_done part texts asked n k (asker (phase.Taking t) q) given)
  slot_regroups n k (phase.Away epoch) q groups agrees owes = event_staying n (phase.Away epoch) _
      (stays_each part texts asked desk n k (asker (phase.Away epoch) q) [] tt agrees) (λ _ e h. h)
      (takes_done part texts asked n k (asker (phase.Away epoch) q) (input.Maps groups))
  slot_regroups n k (phase.Active a) q groups agrees owes = event_staying n (phase.Active a) _
      (stays_each part texts asked desk n k (asker (phase.Active a) q) [] tt agrees) (λ _ e h. h)
      (takes_done part texts asked n k (asker (phase.Active a) q) (input.Maps groups))
  slot_regroups n k (phase.Broken epoch seg) q groups agrees owes = event_staying n (phase.Broken epoch seg) _
      (stays_each part texts asked desk n k (asker (phase.Broken epoch seg) q) [] tt agrees) (λ _ e h. h)
      (takes_done part texts asked n k (asker (phase.Broken epoch seg) q) (input.Maps groups))

  -- ---- a report

  pub slot_reports : brought.ends → (n : Net) (p : SlotPhase) (q : Numbers) (from : NodeId) (report : Report) → PhaseAgrees part texts n desk p → Busy n
      → AreTexts texts n.filed → ReportKnown part n report.epoch from report.end
      → AskEvent n p (on_report (asker p q) from report)
  slot_reports may n p q from report agrees busy filed known =
      by_test (AskEvent n p) (report.epoch == epoch_of p) (takeovers_take (asker p q) report.slot (report_input from report)) (still (asker p q))
      (λ same. slot_hears may n report.slot p q (report_input from report) agrees busy filed (owes p (eqb-true report.epoch (epoch_of p) same)))
      (λ _. event_same part texts asked brought desk n p [] agrees tt)
    where
      owes : (p : SlotPhase) → report.epoch ≡ epoch_of p → OwesAt part texts n p (report_input from report)
      owes (phase.Taking t) same = record {
        brings = λ r fact. subst (λ (x : Heard). ReportKnown part n t.epoch x.from x.end) (sym fact)
            (subst (λ e. ReportKnown part n e from report.end) same known);
        reads = λ s fact. absurd (none s fact);
      }
        where
          none : (s : Segment) → None ≡ Some s → ⊥
          none s h = absurd (cc)
      owes (phase.Active a) same = tt
      owes (phase.Away epoch) same = tt
      owes (phase.Broken epoch seg) same = tt

  -- ---- news of the slot

  -- the slot gets a later epoch, and nothing happens in the small world
  pub record Rose (n : Net) (p q : SlotPhase) : Type 0 where
    pub agrees : PhaseAgrees part texts n desk q
    pub held : (e : ℕ) → HeldAt q e → HeldAt p e ⊎ brought.names e
    pub rises : epoch_of p ≤ epoch_of q

  record Begins (n : Net) (news : SlotNews) (r : SlotPhase) : Type 0 where
    agrees : PhaseAgrees part texts n desk r
    held : (e : ℕ) → HeldAt r e → brought.names e
    epoch : epoch_of r ≡ news.epoch

  begins : (j : ℕ) (n : Net) (number : ℕ) (news : SlotNews) (groups : GroupMapState) (clients : ℕ) → number ≡ j → news.slot ≡ part
      → (news.manager ≡ j → NewsKnown part n news) → (news.manager ≡ j → brought.names news.epoch)
      → Begins n news (phase_of number news groups clients)
  begins j n number news groups clients is_j of known named_ =
      by_test (Begins n news) (news.manager == number) (phase.Taking
      (record { epoch = news.epoch; take = take_start news groups clients; fetches = record { own = 0; ask = 0 } })) (phase.Away news.epoch)
      (λ same. let ours : news.manager ≡ j = eqb-true news.manager number same ∙ is_j in record {
        agrees = record {
          news = news;
          groups = groups;
          clients = clients;
          inputs = [];
          take_is = refl;
          slot = of;
          of_epoch = refl;
          known = known ours;
          whole = tt;
          present = tt;
          reports = λ r fact. absurd fact;
          once = λ r q fact. absurd fact;
          ready = λ p fact. absurd (none p fact);
        };
        held = λ e h. subst brought.names h (named_ ours);
        epoch = refl;
      })
      (λ _. record { agrees = tt; held = λ e h. absurd h; epoch = refl })
    where
      none : {X : Type 0} (x : X) → None ≡ Some x → ⊥
      none x h = absurd (cc)

  pub slot_hears_of : (j : ℕ) (n : Net) (h : Hearer) (news : SlotNews) (one : Asker) → h.ears.number ≡ j → news.slot ≡ part
      → PhaseAgrees part texts n desk one.phase
      → (news.manager ≡ j → epoch_of one.phase < news.epoch → NewsKnown part n news) → (news.manager ≡ j → brought.names news.epoch)
      → Rose n one.phase (hear_of h news one).state.phase
  unfolding hear_of
  slot_hears_of j n h news one is_j of agrees known named_ =
      let begun = phase_of h.ears.number news h.groups h.ears.clients in
      by_test (λ (d : Done). Rose n one.phase d.state.phase) (nat_lt (epoch_of one.phase) news.epoch)
      (takeovers_take (record one { phase = begun }) news.slot input.Tick) (still one)
      (λ less.
      let later : epoch_of one.phase < news.epoch = ltb-true (epoch_of one.phase) news.epoch less in
      let b = begins j n h.ears.number news h.groups h.ears.clients is_j of (λ ours. known ours later) named_ in
      let t = stays_ticks part texts asked desk n news.slot begun one.questions b.agrees in
      let first = b.epoch in
      let last = t.epoch in
      record { agrees = t.agrees; held = λ e at. inr (b.held e (t.held e at)); rises = omega arith })
      (λ _. record { agrees = agrees; held = λ e at. inl at; rises = omega arith })
