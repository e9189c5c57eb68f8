-- What a takeover makes of its inputs in the small world: nothing, or in the end that the slot is active there.
use Rattle.std.proofs.Common.{◌≡◌, ℕ, ◌+◌, ◌==◌, ◌≤◌, ◌<◌, nat_lt, Bool, List, [], ◌∷◌, ◌⊎◌, inl, inr, ⊎_elim, filter, Some, None, refl, sym, ap, subst, ◌∙◌, arith}
use Rattle.std.proofs.lemmas.Bool.{eqb-true, ltb-false, ltb-true}
use Rattle.std.proofs.lemmas.List.Elements.{All-nil}
use Rattle.xfs_base.proofs.Booleans.{by_test}
use Rattle.xfs_base.specs.Blocks.{slot_of}
use Rattle.xfs_base.specs.declared.block.BlockId.{BlockId}
use Rattle.xfs_base.specs.declared.entry.Entry.{Entry}
use Rattle.xfs_base.specs.declared.news.SlotNews.{SlotNews}
use Rattle.xfs_base.specs.declared.node.NodeId.{NodeId}
use Rattle.xfs_base.specs.declared.node.NodeId.TheVariants.{Client, Cleaner}
use Rattle.xfs_base.specs.declared.segment.SegName.{SegName}
use Rattle.xfs_base.specs.Steps.{still}
use Rattle.xfs_base.proofs.Alls.{all_append}
use Rattle.group_map.specs.GroupMapState.{GroupMapState}
use Rattle.node_base.specs.declared.effects.Effect.{Effect}
use Rattle.node_base.specs.declared.questions.Asked.{Asked}
use Rattle.node_base.specs.declared.questions.Questions.{Questions}
use Rattle.slot_beliefs.specs.declared.job.Job.{Job}
use Rattle.takeover.specs.declared.input.In.{In as Input}
use Rattle.takeover.specs.declared.input.In.TheVariants as input
use Rattle.takeover.specs.declared.output.Out.{Out}
use Rattle.takeover.specs.declared.output.Out.TheVariants as out
use Rattle.takeover.specs.declared.report.Report.{Report as Heard}
use Rattle.takeover.specs.Reports.{beliefs_of, applied_of}
use Rattle.takeover.specs.TakeState.{TakeState, take_start}
use Rattle.takeover.specs.Transition.{active, transition}
use Rattle.token_law.specs.Net.{Net}
use Rattle.token_law.specs.Net.Packet.{ReportSent}
use Rattle.token_law.specs.Net.Runs.{Begun, On}
use Rattle.token_manager.specs.SlotState.{SlotState}
use Rattle.token_manager.specs.Transition.{slot_start as slot_started}
use Rattle.token_protocol.specs.Basics.{put, In}
use Rattle.token_protocol.specs.Premises.{Premise}
use Rattle.token_protocol.proofs.Refining.{put_each}
use Rattle.wire_msg.specs.declared.deltas.Report.{Report}
use Rattle.manager_slots.specs.declared.slot_phase.SlotPhase.{SlotPhase}
use Rattle.manager_slots.specs.declared.slot_phase.SlotPhase.TheVariants as phase
use Rattle.manager_slots.specs.declared.slot_phase.Taking.{Taking}
use Rattle.manager_slots.specs.Slots.{epoch_of}
use Rattle.manager_slots.specs.SlotTable.{Hearer, hear_of}
use Rattle.manager_slots.specs.Takeovers.{Asker, asker, Done, takeovers_fetch, takeovers_say, say_each, outs_of, takeovers_take, is_wanted, takeovers_ask_again, report_input, on_report, phase_of}
use Rattle.node_slots.specs.node_tie.ManagerEvents.{HeldAt, ManagedAt, ReportKnown, TakingAgrees, PhaseAgrees, OtherAgrees, ReportGets, NewsGets, HasGathered, Completes, TakeoverGets, LastReportGets}
use Rattle.node_slots.proofs.node_tie.SmallWorld.{premise_by}
use Rattle.node_slots.proofs.node_tie.ManagerActive.{put_here, put_there, some_none, Event, event_staying, event_same, Other}
use Rattle.node_slots.proofs.node_tie.ManagerMoves.{held_is, DoesAt, Stays, Rises, stays_same, stays_then, rises_of}
use Rattle.node_slots.proofs.node_tie.ManagerPlain.{maps_said}
use Rattle.node_slots.proofs.node_tie.ManagerReports.{activates, cleaner_promised}
use Rattle.node_slots.proofs.node_tie.ManagerTakes.{IsPlain, ArePlain, Hands, Brings, took, tick_said, kept_plain}

-- what a question of a takeover, and a lost segment, leave true of a slot
pub record Lasts (A : SlotPhase → Type 0) : Type 0 where
  pub asked : (t : Taking) (f : Asked) → A (phase.Taking t) → A (phase.Taking (record t { fetches = f }))
  pub broken : (e : ℕ) (seg : SegName) → A (phase.Broken e seg)

module _ (logs : Bool) (members part limit life : ℕ) where
  pub phases_last : (n : Net) → Lasts (PhaseAgrees members part n)
  phases_last n = record {
    asked = λ t f h. record { free = h.free; slot = h.slot; epoch = h.epoch; clients = h.clients; reported = h.reported; once = h.once; ready = h.ready };
    broken = λ e seg. tt;
  }

  pub others_last : (k : ℕ) → Lasts (OtherAgrees k)
  others_last k = record { asked = λ t f h. tt; broken = λ e seg. tt }

  -- ---- what is said but that the slot is active

  pub record Quiet (A : SlotPhase → Type 0) (n : Net) (p : SlotPhase) (d : Done) : Type 0 where
    pub agrees : A d.state.phase
    pub stays : Stays logs members part limit life n p d.state.phase d.outs

  -- its polls name an epoch that is within the bound
  abbrev pub IsLow : ℕ → SlotPhase → Type 0
  IsLow k p = k ≡ part → epoch_of p ≤ limit

  module _ (A : SlotPhase → Type 0) (lasts : Lasts A) (n : Net) (k : ℕ) where
    quiet_still : (a : Asker) → A a.phase → Quiet A n a.phase (still a)
    quiet_still a agrees = record { agrees = agrees; stays = stays_same logs members part limit life n a.phase [] tt }

    quiet_fetches : (p : SlotPhase) (q : Questions) (server : ℕ) (name : SegName) (own : ℕ) → A p → Quiet A n p (takeovers_fetch p q server name own)
    quiet_fetches (phase.Taking t) q server name own agrees =
        record { agrees = lasts.asked t _ agrees; stays = record { epoch = refl; taking = λ e h. h; held = λ e h. h; managed = λ e h. h; does = (tt, tt) } }
    quiet_fetches (phase.Away epoch) q server name own agrees = quiet_still (asker (phase.Away epoch) q) agrees
    quiet_fetches (phase.Active active) q server name own agrees = quiet_still (asker (phase.Active active) q) agrees
    quiet_fetches (phase.Broken epoch seg) q server name own agrees = quiet_still (asker (phase.Broken epoch seg) q) agrees

    -- the slot isn't managed
    abbrev pub Idle : SlotPhase → Type 0
    Idle p = (e : ℕ) → ManagedAt p e → ⊥

    idle_fetches : (p : SlotPhase) (q : Questions) (server : ℕ) (name : SegName) (own : ℕ) → Idle p → Idle (takeovers_fetch p q server name own).state.phase
    idle_fetches (phase.Taking t) q server name own idle = idle
    idle_fetches (phase.Away epoch) q server name own idle = idle
    idle_fetches (phase.Active active) q server name own idle = idle
    idle_fetches (phase.Broken epoch seg) q server name own idle = idle

    idle_says : (a : Asker) (o : Out) → IsPlain o → Idle a.phase → Idle (takeovers_say k a o).state.phase
    unfolding takeovers_say
    idle_says a (out.Poll to) plain idle = idle
    idle_says a (out.Fetch server name own) plain idle = idle_fetches a.phase a.questions server name own idle
    idle_says a (out.Active epoch index beliefs applied) plain idle = absurd plain
    idle_says a (out.Lost seg) plain idle = λ e h. h

    quiet_says : (a : Asker) (o : Out) → IsPlain o → A a.phase → Idle a.phase → IsLow k a.phase → Quiet A n a.phase (takeovers_say k a o)
    unfolding takeovers_say
    quiet_says a (out.Poll to) plain agrees idle low = record { agrees = agrees; stays = stays_same logs members part limit life n a.phase _ (low, tt) }
    quiet_says a (out.Fetch server name own) plain agrees idle low = quiet_fetches a.phase a.questions server name own agrees
    quiet_says a (out.Active epoch index beliefs applied) plain agrees idle low = absurd plain
    quiet_says a (out.Lost seg) plain agrees idle low = record {
      agrees = lasts.broken
          (epoch_of a.phase) seg;
      stays = record { epoch = refl; taking = λ e h. absurd h; held = λ e h. absurd h; managed = idle; does = (tt, tt) };
    }

    -- nothing is said
    pub quiet_none : (a : Asker) → A a.phase → Quiet A n a.phase (say_each k a [])
    unfolding say_each
    quiet_none a agrees = quiet_still a agrees

    pub quiet_each : (a : Asker) (outs : List Out) → ArePlain outs → A a.phase → Idle a.phase → IsLow k a.phase → Quiet A n a.phase (say_each k a outs)
    unfolding say_each
    quiet_each a [] plain agrees idle low = quiet_still a agrees
    quiet_each a (o ∷ os) plain agrees idle low =
        let one = quiet_says a o plain.0 agrees idle low in
        let rest = quiet_each (takeovers_say k a o).state os plain.1 one.agrees (idle_says a o plain.0 idle)
        (λ same. let l = low same in let e = one.stays.epoch in omega arith) in
        record {
          agrees = rest.agrees;
          stays = stays_then logs members part limit life n a.phase (takeovers_say k a o).state.phase _ (takeovers_say k a o).outs _ one.stays rest.stays;
        }

    -- time alone says nothing else
    pub quiet_ticks : (p : SlotPhase) (q : Questions) → A p → IsLow k p → Quiet A n p (takeovers_take (asker p q) k input.Tick)
    unfolding takeovers_take outs_of
    quiet_ticks (phase.Taking t) q agrees low =
        quiet_each (asker (phase.Taking t) q) (transition t.take input.Tick).outs (tick_said t.take) agrees (λ e h. h) low
    quiet_ticks (phase.Away epoch) q agrees low = quiet_none (asker (phase.Away epoch) q) agrees
    quiet_ticks (phase.Active active) q agrees low = quiet_none (asker (phase.Active active) q) agrees
    quiet_ticks (phase.Broken epoch seg) q agrees low = quiet_none (asker (phase.Broken epoch seg) q) agrees

    pub quiet_asks : (p : SlotPhase) (q : Questions) (polls : Bool) → A p → IsLow k p → Quiet A n p (takeovers_ask_again (asker p q) k polls)
    unfolding takeovers_ask_again outs_of
    quiet_asks (phase.Taking t) q polls agrees low = quiet_each (asker (phase.Taking t) q) (filter (is_wanted polls) (transition t.take input.Tick).outs)
        (kept_plain (is_wanted polls) (transition t.take input.Tick).outs (tick_said t.take)) agrees (λ e h. h) low
    quiet_asks (phase.Away epoch) q polls agrees low = quiet_none (asker (phase.Away epoch) q) agrees
    quiet_asks (phase.Active active) q polls agrees low = quiet_none (asker (phase.Active active) q) agrees
    quiet_asks (phase.Broken epoch seg) q polls agrees low = quiet_none (asker (phase.Broken epoch seg) q) agrees

  -- ---- any input, of the slot

  abbrev pub AskEvent : Net → SlotPhase → Done → Type 0
  AskEvent n p d = Event logs members part limit life n p d.state.phase d.outs

  event_of : (n : Net) (p : SlotPhase) (d : Done) → Quiet (PhaseAgrees members part n) n p d → AskEvent n p d
  event_of n p d t = event_staying logs members part limit life n p d.state.phase d.outs t.stays t.agrees

  -- the takeover hands the slot out
  handed : (n : Net) (t : Taking) (q : Questions) (k : ℕ) (index : List (BlockId × Entry)) → TakingAgrees members part n t
      → Hands t.take (active t.take index ∷ []) → Premise logs (HasGathered members part n t.take index)
      → AskEvent n (phase.Taking t) (say_each k (asker (phase.Taking t) q) (active t.take index ∷ []))
  unfolding say_each takeovers_say applied_of
  handed n t q k index agrees hands gathered =
      let e = t.take.news.epoch in
      let of : e ≡ t.epoch = agrees.epoch in
      let applied = applied_of t.take.news.horizon t.take.reports in
      let z : SlotState = slot_started e index (beliefs_of t.take.reports) applied in
      let next : Net = record n { slots = put n.slots e (Some z) } in
      record {
        next = next;
        moves = record {
          runs = On Begun (activates members part n logs t.take e index applied (ap n.slots of ∙ agrees.free) agrees.clients hands.reported agrees.once
              (λ r fact. subst (λ x. ReportKnown members part n x r.from r.held r.end) (sym of) (agrees.reported r fact)) gathered);
          tokens = refl;
          up = refl;
          books = refl;
          acts = refl;
          epoch = of;
          slots = λ k other. put_there n.slots e (Some z) k (λ same. other (sym (same ∙ of)));
          changed = put_each (λ k o. (o ≡ n.slots k) ⊎ (e ≡ k)) n.slots e (Some z) (inr refl) (λ k other. inl refl);
          entered = put_each (λ k o. (y : SlotState) → o ≡ Some y → n.slots k ≡ None → (t.epoch ≡ k) × (k ≤ n.promised)) n.slots e (Some z)
              (λ y _ _. (sym of, subst (λ x. x ≤ n.promised) (sym of) (cleaner_promised members part n t.take t.epoch hands.reported agrees.reported)))
              (λ k other y some none. absurd (some_none y (sym some ∙ none)));
          taking = λ k h. absurd h;
          held = λ k h. sym of ∙ h;
          managed = λ k h. absurd h;
          grows = λ x fact. fact;
          does = tt;
        };
        agrees = record { slot = z; there = put_here n.slots e (Some z); same = refl; nine = refl };
      }

  taken_on : (n : Net) (t : Taking) (given : Input) → TakingAgrees members part n t
      → ((r : Heard) → Brings given r → ReportKnown members part n t.epoch r.from r.held r.end)
      → TakingAgrees members part n (record t { take = (transition t.take given).state })
  taken_on n t given agrees known =
      let h = took t.take given agrees.ready agrees.once in
      record {
        free = agrees.free;
        slot = ap (λ (x : SlotNews). x.slot) h.news ∙ agrees.slot;
        epoch = ap (λ (x : SlotNews). x.epoch) h.news ∙ agrees.epoch;
        clients = ap (λ c. c + 1) h.clients ∙ agrees.clients;
        reported = λ r fact. ⊎_elim (λ old. agrees.reported r old) (λ new. known r new) (h.reports r fact);
        once = h.once;
        ready = h.ready;
      }

  -- what a takeover has taken doesn't count
  from_taking : (n : Net) (t : Taking) (take : TakeState) (r : SlotPhase) (outs : List Effect)
      → Event logs members part limit life n (phase.Taking (record t { take = take })) r outs → Event logs members part limit life n (phase.Taking t) r outs
  from_taking n t take r outs h = record {
    next = h.next;
    moves = record {
      runs = h.moves.runs;
      tokens = h.moves.tokens;
      up = h.moves.up;
      books = h.moves.books;
      acts = h.moves.acts;
      epoch = h.moves.epoch;
      slots = h.moves.slots;
      changed = h.moves.changed;
      entered = h.moves.entered;
      taking = h.moves.taking;
      held = h.moves.held;
      managed = h.moves.managed;
      grows = h.moves.grows;
      does = h.moves.does;
    };
    agrees = h.agrees;
  }

  -- what it has taken and said, where that is plain
  plain_taken : (n : Net) (k : ℕ) (t : Taking) (q : Questions) (given : Input) → TakingAgrees members part n (record t { take = (transition t.take given).state })
      → ArePlain (transition t.take given).outs → IsLow k (phase.Taking t)
      → Quiet (PhaseAgrees members part n) n (phase.Taking t)
      (say_each k (asker (phase.Taking (record t { take = (transition t.take given).state })) q) (transition t.take given).outs)
  plain_taken n k t q given on plain low =
      let u : Taking = record t { take = (transition t.take given).state } in
      let d = quiet_each (PhaseAgrees members part n) (phases_last n) n k (asker (phase.Taking u) q) (transition t.take given).outs plain on (λ e h. h) low in
      record {
        agrees = d.agrees;
        stays = record { epoch = d.stays.epoch; taking = d.stays.taking; held = d.stays.held; managed = d.stays.managed; does = d.stays.does };
      }

  -- newer groups complete no takeover
  pub quiet_maps : (n : Net) (k : ℕ) (p : SlotPhase) (q : Questions) (groups : GroupMapState) → PhaseAgrees members part n p → IsLow k p
      → Quiet (PhaseAgrees members part n) n p (takeovers_take (asker p q) k (input.Maps groups))
  unfolding takeovers_take outs_of
  quiet_maps n k (phase.Taking t) q groups agrees low =
      plain_taken n k t q (input.Maps groups) (taken_on n t (input.Maps groups) agrees (λ r fact. absurd fact)) (maps_said t.take groups) low
  quiet_maps n k (phase.Away epoch) q groups agrees low = quiet_none (PhaseAgrees members part n) (phases_last n) n k (asker (phase.Away epoch) q) agrees
  quiet_maps n k (phase.Active active) q groups agrees low = quiet_none (PhaseAgrees members part n) (phases_last n) n k (asker (phase.Active active) q) agrees
  quiet_maps n k (phase.Broken epoch seg) q groups agrees low =
      quiet_none (PhaseAgrees members part n) (phases_last n) n k (asker (phase.Broken epoch seg) q) agrees

  pub slot_hears : (n : Net) (k : ℕ) (p : SlotPhase) (q : Questions) (given : Input) → PhaseAgrees members part n p → IsLow k p
      → ((r : Heard) → Brings given r → ReportKnown members part n (epoch_of p) r.from r.held r.end) → TakeoverGets logs members part n p given
      → AskEvent n p (takeovers_take (asker p q) k given)
  unfolding takeovers_take outs_of
  slot_hears n k (phase.Away epoch) q given agrees low known owed = event_of n (phase.Away epoch) _
      (quiet_none (PhaseAgrees members part n) (phases_last n) n k (asker (phase.Away epoch) q) agrees)
  slot_hears n k (phase.Active a) q given agrees low known owed = event_of n (phase.Active a) _
      (quiet_none (PhaseAgrees members part n) (phases_last n) n k (asker (phase.Active a) q) agrees)
  slot_hears n k (phase.Broken epoch seg) q given agrees low known owed = event_of n (phase.Broken epoch seg) _
      (quiet_none (PhaseAgrees members part n) (phases_last n) n k (asker (phase.Broken epoch seg) q) agrees)
  slot_hears n k (phase.Taking t) q given agrees low known owed =
      let u : Taking = record t { take = (transition t.take given).state } in
      let on = taken_on n t given agrees known in
      ⊎_elim
      (λ plain. event_of n (phase.Taking t) (say_each k (asker (phase.Taking u) q) (transition t.take given).outs)
      (plain_taken n k t q given on plain low))
      (λ hands. subst (λ os. AskEvent n (phase.Taking t) (say_each k (asker (phase.Taking u) q) os)) (sym hands.says_active)
      (from_taking n t u.take _ _ (handed n u q k hands.index on (record { index = hands.index; says_active = refl; reported = hands.reported })
      (premise_by logs (λ (owed : Completes members part n t.take given). owed hands.index (subst (In _) (sym hands.says_active) (inl refl))) owed))))
      (took t.take given agrees.ready agrees.once).said

  -- a report, where it is of the slot
  pub slot_reports : (n : Net) (p : SlotPhase) (q : Questions) (from : NodeId) (report : Report) → PhaseAgrees members part n p → epoch_of p ≤ limit
      → report.slot ≡ part → ReportGets part n members from report → LastReportGets logs members part n p from report
      → AskEvent n p (on_report (asker p q) from report)
  slot_reports n p q from report agrees low of gets owed =
      by_test (AskEvent n p) (report.epoch == epoch_of p) (takeovers_take (asker p q) report.slot (report_input from report)) (still (asker p q))
      (λ same. slot_hears n report.slot p q (report_input from report) agrees (λ _. low)
      (λ r fact. known from gets (eqb-true report.epoch (epoch_of p) same) r fact) (owed of (eqb-true report.epoch (epoch_of p) same)))
      (λ _. event_same logs members part limit life n p [] agrees tt)
    where
      of_node : (node : NodeId) → ReportGets part n members node report → report.epoch ≡ epoch_of p
          → ReportKnown members part n (epoch_of p) node report.held report.end
      of_node (Client c) g same = (g.0, g.1, subst (λ e. In (ReportSent c e report.held report.end.seq) n.sent) same (g.2 of))
      of_node Cleaner g same = subst (λ e. e ≤ n.promised) same (g of)
      of_node _ g same = tt

      known : (node : NodeId) → ReportGets part n members node report → report.epoch ≡ epoch_of p → (r : Heard)
          → r ≡ record { from = node; held = report.held; end = report.end } → ReportKnown members part n (epoch_of p) r.from r.held r.end
      known node g same r fact = subst (λ (x : Heard). ReportKnown members part n (epoch_of p) x.from x.held x.end) (sym fact) (of_node node g same)

  -- ---- any input, of another slot

  pub other_says : (n : Net) (k : ℕ) (a : Asker) (o : Out) → (k ≡ part → ⊥) → OtherAgrees k a.phase
      → Other logs members part limit life n k (takeovers_say k a o).state.phase (takeovers_say k a o).outs
  unfolding takeovers_say
  other_says n k a (out.Poll to) other agrees = record { agrees = agrees; does = (λ same. absurd (other same), tt) }
  other_says n k a (out.Fetch server name own) other agrees = let d = quiet_fetches (OtherAgrees k)
      (others_last k) n k a.phase a.questions server name own agrees in record { agrees = d.agrees; does = d.stays.does }
  other_says n k a (out.Active epoch index beliefs applied) other agrees =
      record { agrees = All-nil (λ (e : BlockId × Job). (slot_of e.0.ino.0 ≡ k) × (slot_of e.1.want.block.ino.0 ≡ k)); does = tt }
  other_says n k a (out.Lost seg) other agrees = record { agrees = tt; does = (tt, tt) }

  other_each : (n : Net) (k : ℕ) (a : Asker) (outs : List Out) → (k ≡ part → ⊥) → OtherAgrees k a.phase
      → Other logs members part limit life n k (say_each k a outs).state.phase (say_each k a outs).outs
  unfolding say_each
  other_each n k a [] other agrees = record { agrees = agrees; does = tt }
  other_each n k a (o ∷ os) other agrees =
      let one = other_says n k a o other agrees in
      let rest = other_each n k (takeovers_say k a o).state os other one.agrees in
      record { agrees = rest.agrees; does = all_append (DoesAt logs members part limit life n) (takeovers_say k a o).outs _ one.does rest.does }

  abbrev pub OtherAsks : Net → ℕ → Done → Type 0
  OtherAsks n k d = Other logs members part limit life n k d.state.phase d.outs

  other_heard : (k : ℕ) (p : SlotPhase) (given : Input) → OtherAgrees k p → OtherAgrees k (outs_of p given).state
  unfolding outs_of
  other_heard k (phase.Active active) given agrees = agrees
  other_heard k _ given agrees = tt

  pub other_hears : (n : Net) (k : ℕ) (a : Asker) (given : Input) → (k ≡ part → ⊥) → OtherAgrees k a.phase → OtherAsks n k (takeovers_take a k given)
  unfolding takeovers_take
  other_hears n k a given other agrees = other_each n k (record a { phase = (outs_of a.phase given).state }) (outs_of a.phase given).outs other
      (other_heard k a.phase given agrees)

  pub other_asks : (n : Net) (k : ℕ) (a : Asker) (polls : Bool) → (k ≡ part → ⊥) → OtherAgrees k a.phase → OtherAsks n k (takeovers_ask_again a k polls)
  unfolding takeovers_ask_again
  other_asks n k a polls other agrees = other_each n k (record a { phase = (outs_of a.phase input.Tick).state })
      (filter (is_wanted polls) (outs_of a.phase input.Tick).outs) other (other_heard k a.phase input.Tick agrees)

  pub other_reports : (n : Net) (a : Asker) (from : NodeId) (report : Report) → (report.slot ≡ part → ⊥) → OtherAgrees report.slot a.phase
      → OtherAsks n report.slot (on_report a from report)
  other_reports n a from report other agrees =
      by_test (OtherAsks n report.slot) (report.epoch == epoch_of a.phase) (takeovers_take a report.slot (report_input from report)) (still a)
      (λ _. other_hears n report.slot a (report_input from report) other agrees) (λ _. record { agrees = agrees; does = tt })

  -- ---- news of the slot, and of another

  pub record Rose (named : ℕ → Type 0) (n : Net) (p : SlotPhase) (news : SlotNews) (d : Done) : Type 0 where
    pub rises : Rises logs members part limit life named n p d.state.phase d.outs
    pub agrees : PhaseAgrees members part n d.state.phase
    pub within : epoch_of d.state.phase ≤ limit
    pub above : news.epoch ≤ epoch_of d.state.phase

  record Begins (named : ℕ → Type 0) (n : Net) (news : SlotNews) (r : SlotPhase) : Type 0 where
    agrees : PhaseAgrees members part n r
    epoch : epoch_of r ≡ news.epoch
    held : (e : ℕ) → HeldAt r e → named e

  begins : (named : ℕ → Type 0) (j : ℕ) (n : Net) (number : ℕ) (news : SlotNews) (groups : GroupMapState) (clients known : ℕ) → number ≡ j
      → clients + 1 ≡ members → news.slot ≡ part → known < news.epoch → NewsGets part limit j n known news
      → (news.manager ≡ j → named news.epoch) → Begins named n news (phase_of number news groups clients)
  begins named j n number news groups clients known is_j many of later gets named_ =
      by_test (Begins named n news) (news.manager == number)
      (phase.Taking (record { epoch = news.epoch; take = take_start news groups clients; fetches = record { own = 0; ask = 0 } })) (phase.Away news.epoch)
      (λ same. let ours : news.manager ≡ j = eqb-true news.manager number same ∙ is_j in record {
        agrees = record {
          free = gets.new ours later;
          slot = of;
          epoch = refl;
          clients = many;
          reported = λ r fact. absurd fact;
          once = λ r q fact. absurd fact;
          ready = λ p fact. absurd (some_none p (sym fact));
        };
        epoch = refl;
        held = λ e h. subst named h (named_ ours);
      })
      (λ _. record { agrees = tt; epoch = refl; held = λ e h. absurd h })

  pub slot_hears_of : (named : ℕ → Type 0) (j : ℕ) (n : Net) (h : Hearer) (news : SlotNews) (one : Asker) → h.ears.number ≡ j → h.ears.clients + 1 ≡ members
      → news.slot ≡ part → PhaseAgrees members part n one.phase → epoch_of one.phase ≤ limit
      → NewsGets part limit j n (epoch_of one.phase) news → (news.manager ≡ j → named news.epoch) → Rose named n one.phase news (hear_of h news one)
  unfolding hear_of
  slot_hears_of named j n h news one is_j many of agrees low gets named_ =
      let begun = phase_of h.ears.number news h.groups h.ears.clients in
      by_test (Rose named n one.phase news) (nat_lt (epoch_of one.phase) news.epoch) (takeovers_take (record one { phase = begun }) news.slot input.Tick) (still one)
      (λ less.
      let later : epoch_of one.phase < news.epoch = ltb-true (epoch_of one.phase) news.epoch less in
      let b = begins named j n h.ears.number news h.groups h.ears.clients (epoch_of one.phase) is_j many of later gets named_ in
      let in_bound = gets.within in
      let first : epoch_of begun ≡ news.epoch = b.epoch in
      let t = quiet_ticks (PhaseAgrees members part n) (phases_last n) n news.slot begun one.questions b.agrees (λ _. omega arith) in
      let last = t.stays.epoch in
      record {
        rises = record {
          rises = omega arith;
          held = λ e k. let there = t.stays.held e k in let at = held_is begun e there in inr
              (b.held e there, omega arith);
          does = t.stays.does;
        };
        agrees = t.agrees;
        within = omega arith;
        above = omega arith;
      })
      (λ no. record {
        rises = rises_of logs members part limit life named n one.phase one.phase []
            (stays_same logs members part limit life n one.phase [] tt);
        agrees = agrees;
        within = low;
        above = ltb-false (epoch_of one.phase) news.epoch no;
      })

  pub other_hears_of : (n : Net) (h : Hearer) (news : SlotNews) (one : Asker) → (news.slot ≡ part → ⊥) → OtherAgrees news.slot one.phase
      → OtherAsks n news.slot (hear_of h news one)
  unfolding hear_of
  other_hears_of n h news one other agrees =
      let begun = phase_of h.ears.number news h.groups h.ears.clients in
      by_test (OtherAsks n news.slot) (nat_lt (epoch_of one.phase) news.epoch) (takeovers_take (record one { phase = begun }) news.slot input.Tick) (still one)
      (λ _. other_hears n news.slot (record one { phase = begun }) input.Tick other
      (by_test (OtherAgrees news.slot) (news.manager == h.ears.number)
      (phase.Taking (record { epoch = news.epoch; take = take_start news h.groups h.ears.clients; fetches = record { own = 0; ask = 0 } }))
      (phase.Away news.epoch) (λ _. tt) (λ _. tt)))
      (λ _. record { agrees = agrees; does = tt })
