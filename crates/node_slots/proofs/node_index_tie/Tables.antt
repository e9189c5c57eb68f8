-- What an event of one slot of a manager's table, or of each, makes of the table and of the small world.
use Rattle.std.proofs.Common.{◌≡◌, ℕ, ◌==◌, ◌<◌, ◌≤◌, ◌⊎◌, inl, inr, ⊎_elim, Bool, true, false, List, [], ◌∷◌, length, length-set, Option, Some, None, refl, sym, ap, subst, ◌∙◌, arith}
use Rattle.std.specs.List.{slice_get, slice_set}
use Rattle.std.proofs.lemmas.Bool.{eqb-true}
use Rattle.std.proofs.lemmas.Bool.Decides.{nat_tests}
use Rattle.xfs_base.specs.Blocks.{slot_of}
use Rattle.xfs_base.specs.Steps.{Stepped, steps}
use Rattle.xfs_base.specs.declared.news.SlotNews.{SlotNews}
use Rattle.xfs_base.specs.declared.node.NodeId.{NodeId}
use Rattle.xfs_base.specs.declared.segment.LogId.{LogId}
use Rattle.xfs_base.proofs.Alls.{all_append}
use Rattle.xfs_base.specs.Limits.{slot_count}
use Rattle.node_slots.specs.node_index_tie.Pages.{Desk}
use Rattle.group_map.specs.GroupMapState.{GroupMapState}
use Rattle.index_tie.specs.Net.{Net}
use Rattle.manager_slots.specs.Slots.{epoch_of}
use Rattle.manager_slots.specs.SlotTable as table
use Rattle.manager_slots.specs.SlotTable.{Table, TableAsker, Asks, Hearer, all_slots}
use Rattle.manager_slots.specs.Takeovers as takeovers
use Rattle.manager_slots.specs.Takeovers.{Asker, asker}
use Rattle.manager_slots.specs.Tokens as tokens
use Rattle.manager_slots.specs.declared.slot_phase.SlotPhase.{SlotPhase}
use Rattle.manager_slots.specs.declared.slot_phase.SlotPhase.TheVariants as phase
use Rattle.node_base.specs.declared.effects.Effect.{Effect}
use Rattle.node_slots.specs.node_tie.ManagerEvents.{HeldAt}
use Rattle.headline.specs.Managers.{phase_at}
use Rattle.takeover.specs.declared.input.In.{In as Input}
use Rattle.takeover.specs.declared.input.In.TheVariants as input
use Rattle.token_manager.specs.declared.input.In.TheVariants as told
use Rattle.token_protocol.specs.Basics.{In as Among}
use Rattle.wire_msg.specs.declared.cleaning.Check.{Check}
use Rattle.wire_msg.specs.declared.cleaning.UsageAsk.{UsageAsk}
use Rattle.wire_msg.specs.declared.deltas.Deltas.{Deltas}
use Rattle.wire_msg.specs.declared.deltas.Report.{Report}
use Rattle.wire_msg.specs.declared.tokens.Gave.{Gave}
use Rattle.wire_msg.specs.declared.tokens.Want.{Want}
use Rattle.node_slots.specs.node_index_tie.ManagerEvents.{PhaseAgrees}
use Rattle.node_slots.specs.node_index_tie.Sight.{Questions, DeltasKnown, ReportKnown, CheckKnown, NewsKnown}
use Rattle.headline.specs.Filed.{AreTexts, Texts}
use Rattle.node_slots.proofs.node_tie.SlotTables.{set_here, set_there, by_slot, as_slot, by_taken}
use Rattle.node_slots.proofs.node_index_tie.Active.{Event, slot_takes, slot_wants, slot_deltas, slot_checks, other_checks, other_takes, other_wants, usage_done}
use Rattle.node_slots.proofs.node_index_tie.Handing.{Busy, OwesAt, AskEvent, event_staying, slot_hears, slot_regroups, slot_reports, slot_hears_of}
use Rattle.node_slots.proofs.node_index_tie.Moves.{Brought, Grows, AllDone, DoesAt, Sees, managed_as, sees_same, sees_then}
use Rattle.node_slots.proofs.node_index_tie.Taking.{takes_done, asks_done, reports_done, hears_done, stays_asks, asks_managed}

-- the slot itself, or another
pub by_part : (k part : ℕ) (P : Type 0) → (k ≡ part → P) → ((k ≡ part → ⊥) → P) → P
by_part k part P f g = by (k == part) refl
  where
    apart : (k == part) ≡ false → k ≡ part → ⊥
    apart fact = grind (arith, nat_tests)

    by : (b : Bool) → (k == part) ≡ b → P
    by true fact = f (eqb-true k part fact)
    by false fact = g (apart fact)

module _ (part : ℕ) (texts : Texts) (asked : Questions) (exists : part < slot_count) (brought : Brought) (desk : Desk) where
  -- how a table is seen
  pub record TableAgrees (n : Net) (t : Table) : Type 0 where
    pub eight : length t ≡ slot_count
    pub here : PhaseAgrees part texts n desk (phase_at t part)
    pub busy : Busy part texts asked brought desk n
    pub filed : AreTexts texts n.filed

  -- what an event of the table makes of the small world
  abbrev pub TableEvent : Net → Table → Table → List Effect → Type 0
  TableEvent n t u outs = Sees part texts asked brought n (phase_at t part) (phase_at u part) outs (λ m. TableAgrees m u)

  pub table_same : (n : Net) (t : Table) (outs : List Effect) → TableAgrees n t → AllDone part texts asked n outs → TableEvent n t t outs
  table_same n t outs agrees done = sees_same part texts asked brought n (phase_at t part) outs (λ m. TableAgrees m t) done agrees

  -- what is said of the table but its slot stays
  rest_on : (n m : Net) (t : Table) (u : Table) → Grows n m → TableAgrees n t → length u ≡ slot_count → PhaseAgrees part texts m desk (phase_at u part)
      → TableAgrees m u
  rest_on n m t u g agrees eight here = record {
    eight = eight;
    here = here;
    busy = λ w there of none. agrees.busy w there of (g.stay w.epoch none);
    filed = subst (λ (x : Net). AreTexts texts x.filed) (sym g.rest) agrees.filed;
  }

  pub at_slot-goes : (n : Net) (t : Table) (k : ℕ) (event : SlotPhase → Stepped SlotPhase Effect) → TableAgrees n t
      → (k ≡ part → Event part texts asked brought desk n (phase_at t part) (event (phase_at t part)).state (event (phase_at t part)).outs)
      → ((k ≡ part → ⊥) → AllDone part texts asked n (event (phase_at t k)).outs)
      → TableEvent n t (table.at_slot t k event).state (table.at_slot t k event).outs
  at_slot-goes n t k event agrees here there =
      by_slot (TableEvent n t) t k event (λ _. table_same n t [] agrees tt)
      (λ within. by_part k part (TableEvent n t (slice_set t k (event (phase_at t k)).state) (event (phase_at t k)).outs)
      (λ same. subst (λ x. TableEvent n t (slice_set t k (event (phase_at t x)).state) (event (phase_at t x)).outs) (sym same) (ours within same))
      (λ other. others other))
    where
      ours : k < length t → k ≡ part → TableEvent n t (slice_set t k (event (phase_at t part)).state) (event (phase_at t part)).outs
      ours within same =
          let q = (event (phase_at t part)).state in
          let at : phase_at (slice_set t k q) part ≡ q = ap (phase_at (slice_set t k q)) (sym same) ∙ set_here t k q within in
          let h = here same in
          record {
            next = h.next;
            runs = h.runs;
            grows = h.grows;
            slots = h.slots;
            came = subst (λ x. (e : ℕ) → n.slots e ≡ None → (h.next.slots e ≡ None) ⊎ (e ≤ epoch_of x)) (sym at) h.came;
            enters = λ e z some none. let x = h.enters e z some none in (x.0, managed_as q (phase_at (slice_set t k q) part) at e x.1);
            stays = λ ends e m. managed_as q (phase_at (slice_set t k q) part) at e (h.stays ends e m);
            held = subst (λ x. (e : ℕ) → HeldAt x e → HeldAt (phase_at t part) e ⊎ brought.names e) (sym at) h.held;
            rises = subst (λ x. epoch_of (phase_at t part) ≤ epoch_of x) (sym at) h.rises;
            does = h.does;
            agrees = rest_on n h.next t (slice_set t k q) h.grows agrees (length-set t k q ∙ agrees.eight)
                (subst (PhaseAgrees part texts h.next desk) (sym at) h.agrees);
          }

      others : (k ≡ part → ⊥) → TableEvent n t (slice_set t k (event (phase_at t k)).state) (event (phase_at t k)).outs
      others other =
          let q = (event (phase_at t k)).state in
          let at : phase_at (slice_set t k q) part ≡ phase_at t part = set_there t k part q (λ e. other (sym e)) in
          subst (λ x. Sees part texts asked brought n (phase_at t part) x (event (phase_at t k)).outs (λ m. TableAgrees m (slice_set t k q))) (sym at)
          (sees_same part texts asked brought n (phase_at t part) (event (phase_at t k)).outs (λ m. TableAgrees m (slice_set t k q)) (there other)
          (record {
            eight = length-set t k q ∙ agrees.eight;
            here = subst (PhaseAgrees part texts n desk) (sym at) agrees.here;
            busy = agrees.busy;
            filed = agrees.filed;
          }))

  -- the same for an event that may ask
  abbrev pub AskTable : Net → Table → Asks → Type 0
  AskTable n t d = TableEvent n t d.state.table d.outs

  pub at_taken-goes : (n : Net) (a : TableAsker) (k : ℕ) (event : Asker → Stepped Asker Effect) → TableAgrees n a.table
      → (k ≡ part → AskEvent part texts asked brought desk n (phase_at a.table part) (event (asker (phase_at a.table part) a.questions)))
      → ((k ≡ part → ⊥) → AllDone part texts asked n (event (asker (phase_at a.table k) a.questions)).outs) → AskTable n a.table (table.at_taken a k event)
  at_taken-goes n a k event agrees here there = by_taken (TableEvent n a.table) a k event
      (at_slot-goes n a.table k (as_slot a.questions event) agrees here there)

  -- ---- clients and the cleaner

  pub table_wants : (n : Net) (t : Table) (c : ℕ) (want : Want) → TableAgrees n t
      → TableEvent n t (table.on_want t c want).state (table.on_want t c want).outs
  unfolding table.on_want
  table_wants n t c want agrees =
      at_slot-goes n t (slot_of want.block.ino.0) (λ p. tokens.on_want p c want) agrees
      (λ same. slot_wants part texts asked brought desk n (phase_at t part) c want agrees.here)
      (λ other. other_wants part texts asked brought desk n (phase_at t (slot_of want.block.ino.0)) c want)

  pub table_gaves : (n : Net) (t : Table) (c : ℕ) (gave : Gave) → TableAgrees n t
      → TableEvent n t (table.on_gave t c gave).state (table.on_gave t c gave).outs
  unfolding table.on_gave
  table_gaves n t c gave agrees =
      let k = slot_of gave.block.ino.0 in
      at_slot-goes n t k (λ p. tokens.on_gave p c gave) agrees (λ same. slot_takes part texts asked brought desk n k (phase_at t part)
      (tokens.gave_input c gave) tt agrees.here)
      (λ other. other_takes part texts asked brought desk n k (phase_at t k) (tokens.gave_input c gave))

  pub table_deltas : (n : Net) (t : Table) (of : LogId) (m : Deltas) → TableAgrees n t → (m.slot ≡ part → DeltasKnown part n of.0 m)
      → TableEvent n t (table.on_deltas t of m).state (table.on_deltas t of m).outs
  unfolding table.on_deltas
  table_deltas n t of m agrees known =
      at_slot-goes n t m.slot (λ p. tokens.on_deltas p of m) agrees
      (λ same. slot_deltas part texts asked brought desk n (phase_at t part) of m (known same) agrees.here)
      (λ other. other_takes part texts asked brought desk n m.slot (phase_at t m.slot) (tokens.deltas_input of m))

  pub table_checks : (n : Net) (t : Table) (check : Check) → TableAgrees n t → (slot_of check.block.ino.0 ≡ part → CheckKnown part asked n check)
      → TableEvent n t (table.on_check t check).state (table.on_check t check).outs
  unfolding table.on_check
  table_checks n t check agrees known =
      let k = slot_of check.block.ino.0 in
      at_slot-goes n t k (λ p. tokens.on_check p check) agrees (λ same. slot_checks part texts asked brought desk n (phase_at t part) check (known same)
      agrees.here)
      (λ other. other_checks part texts asked brought desk n (phase_at t k) check other)

  pub table_usage : (n : Net) (t : Table) (ask : UsageAsk) → AllDone part texts asked n (table.on_usage_ask t ask)
  unfolding table.on_usage_ask
  table_usage n t ask = by (slice_get t ask.slot)
    where
      by : (o : Option SlotPhase) → AllDone part texts asked n (table.usage_in ask o)
      by None = tt
      by (Some p) = usage_done part texts asked brought desk n p ask

  pub table_recalls : (n : Net) (t : Table) (k : ℕ) → TableAgrees n t → TableEvent n t (table.slot_table_recall t k).state (table.slot_table_recall t k).outs
  unfolding table.slot_table_recall
  table_recalls n t k agrees =
      at_slot-goes n t k (λ p. tokens.on_tick p k) agrees (λ same. slot_takes part texts asked brought desk n k (phase_at t part) told.Tick tt agrees.here)
      (λ other. other_takes part texts asked brought desk n k (phase_at t k) told.Tick)

  -- ---- takeovers

  pub table_takes : brought.ends → (n : Net) (a : TableAsker) (k : ℕ) (given : Input) → TableAgrees n a.table
      → (k ≡ part → OwesAt part texts n (phase_at a.table part) given) → AskTable n a.table (table.slot_table_take a k given)
  unfolding table.slot_table_take
  table_takes ends n a k given agrees owes =
      at_taken-goes n a k (λ one. takeovers.takeovers_take one k given) agrees
      (λ same. slot_hears part texts asked brought desk ends n k (phase_at a.table part) a.questions given agrees.here agrees.busy agrees.filed (owes same))
      (λ other. takes_done part texts asked n k (asker (phase_at a.table k) a.questions) given)

  pub table_reports : brought.ends → (n : Net) (a : TableAsker) (from : NodeId) (report : Report) → TableAgrees n a.table
      → (report.slot ≡ part → ReportKnown part n report.epoch from report.end) → AskTable n a.table (table.on_report a from report)
  unfolding table.on_report
  table_reports ends n a from report agrees known =
      at_taken-goes n a report.slot (λ one. takeovers.on_report one from report) agrees
      (λ same. slot_reports part texts asked brought desk ends n (phase_at a.table part) a.questions from report agrees.here agrees.busy agrees.filed
      (known same))
      (λ other. reports_done part texts asked n (asker (phase_at a.table report.slot) a.questions) from report)

  pub table_asks : (n : Net) (polls : Bool) (a : TableAsker) (k : ℕ) → TableAgrees n a.table → AskTable n a.table (table.slot_table_ask polls a k)
  unfolding table.slot_table_ask
  table_asks n polls a k agrees =
      at_taken-goes n a k (λ one. takeovers.takeovers_ask_again one k polls) agrees
      (λ same. event_staying part texts asked brought desk n (phase_at a.table part) _
      (stays_asks part texts asked desk n k (phase_at a.table part) a.questions polls agrees.here)
      (λ _ e h. asks_managed part texts asked desk k (phase_at a.table part) a.questions polls e h)
      (asks_done part texts asked n k (asker (phase_at a.table part) a.questions) polls))
      (λ other. asks_done part texts asked n k (asker (phase_at a.table k) a.questions) polls)

  -- newer groups bring nothing
  regroup_owes : (n : Net) (p : SlotPhase) (groups : GroupMapState) → OwesAt part texts n p (input.Maps groups)
  regroup_owes n (phase.Taking t) groups = record { brings = λ r fact. absurd fact; reads = λ s fact. absurd (let clash : None ≡ Some s = fact in cc) }
  regroup_owes n _ groups = tt

  -- and end no takeover
  table_regroup : (n : Net) (groups : GroupMapState) (a : TableAsker) (k : ℕ) → TableAgrees n a.table
      → AskTable n a.table (table.slot_table_take a k (input.Maps groups))
  unfolding table.slot_table_take
  table_regroup n groups a k agrees =
      at_taken-goes n a k (λ one. takeovers.takeovers_take one k (input.Maps groups)) agrees
      (λ same. slot_regroups part texts asked brought desk n k (phase_at a.table part) a.questions groups agrees.here
      (regroup_owes n (phase_at a.table part) groups))
      (λ other. takes_done part texts asked n k (asker (phase_at a.table k) a.questions) (input.Maps groups))

  -- ---- all slots, one after another

  module _ {S X : Type 0} (tab : S → Table) (f : S → X → Stepped S Effect)
      (each : (n : Net) (s : S) (x : X) → TableAgrees n (tab s) → TableEvent n (tab s) (tab (f s x).state) (f s x).outs) where
    pub each_goes : (n : Net) (s : S) (xs : List X) → TableAgrees n (tab s) → TableEvent n (tab s) (tab (steps f s xs).state) (steps f s xs).outs
    each_goes n s [] agrees = table_same n (tab s) [] agrees tt
    each_goes n s (x ∷ xs) agrees =
        sees_then part texts asked brought n (phase_at (tab s) part) (phase_at (tab (f s x).state) part) (phase_at (tab (steps f (f s x).state xs).state) part)
        (f s x).outs (steps f (f s x).state xs).outs (λ m. TableAgrees m (tab (f s x).state))
        (λ m. TableAgrees m (tab (steps f (f s x).state xs).state)) (each n s x agrees) (λ m g h. each_goes m (f s x).state xs h)

  pub table_recalls_all : (n : Net) (t : Table) → TableAgrees n t → TableEvent n t (table.recall_again t).state (table.recall_again t).outs
  table_recalls_all n t agrees = each_goes (λ u. u) table.slot_table_recall (λ n u k h. table_recalls n u k h) n t all_slots agrees

  pub table_asks_all : (n : Net) (polls : Bool) (a : TableAsker) → TableAgrees n a.table → AskTable n a.table (table.slot_table_ask_again polls a)
  table_asks_all n polls a agrees = each_goes (λ (b : TableAsker). b.table) (table.slot_table_ask polls) (λ n b k h. table_asks n polls b k h) n a all_slots agrees

  pub table_regroups : (n : Net) (groups : GroupMapState) (a : TableAsker) → TableAgrees n a.table → AskTable n a.table (table.slot_table_regroup groups a)
  table_regroups n groups a agrees =
      each_goes (λ (b : TableAsker). b.table) (table.regroup_one groups)
      (λ n b k h. table_regroup n groups b k h) n a all_slots agrees

  -- ---- news

  -- the table has later epochs, and nothing happens in the small world
  pub record TableRose (n : Net) (t u : Table) (outs : List Effect) : Type 0 where
    pub agrees : TableAgrees n u
    pub held : (e : ℕ) → HeldAt (phase_at u part) e → HeldAt (phase_at t part) e ⊎ brought.names e
    pub rises : epoch_of (phase_at t part) ≤ epoch_of (phase_at u part)
    pub does : AllDone part texts asked n outs

  rose_same : (n : Net) (t : Table) → TableAgrees n t → TableRose n t t []
  rose_same n t agrees = record { agrees = agrees; held = λ e h. inl h; rises = omega arith; does = tt }

  -- what the slot makes of the news that has what slot k has, and the table then
  abbrev heard_at : Hearer → TableAsker → SlotNews → ℕ → Stepped Asker Effect
  heard_at h a news k = table.hear_of h news (asker (phase_at a.table k) a.questions)

  abbrev HeardAt : Net → Hearer → TableAsker → SlotNews → ℕ → Type 0
  HeardAt n h a news k = TableRose n a.table (slice_set a.table news.slot (heard_at h a news k).state.phase) (heard_at h a news k).outs

  table_hears : (j : ℕ) (n : Net) (h : Hearer) (a : TableAsker) (news : SlotNews) → h.ears.number ≡ j → TableAgrees n a.table
      → (news.slot ≡ part → news.manager ≡ j → epoch_of (phase_at a.table part) < news.epoch → NewsKnown part n news)
      → (news.slot ≡ part → news.manager ≡ j → brought.names news.epoch)
      → TableRose n a.table (table.slot_table_hear h a news).state.table (table.slot_table_hear h a news).outs
  unfolding table.slot_table_hear
  table_hears j n h a news is_j agrees known named_ =
      by_taken (TableRose n a.table) a news.slot (table.hear_of h news)
      (by_slot (TableRose n a.table) a.table news.slot (as_slot a.questions (table.hear_of h news)) (λ _. rose_same n a.table agrees)
      (λ within. by_part news.slot part (HeardAt n h a news news.slot) (λ same. subst (HeardAt n h a news) (sym same) (ours within same))
      (λ other. others other)))
    where
      ours : news.slot < length a.table → news.slot ≡ part → HeardAt n h a news part
      ours within same =
          let q = (heard_at h a news part).state.phase in
          let at : phase_at (slice_set a.table news.slot q) part ≡ q = ap (phase_at (slice_set a.table news.slot q)) (sym same) ∙ set_here a.table news.slot
          q within in
          let r = slot_hears_of part texts asked brought desk j n h news (asker (phase_at a.table part) a.questions) is_j same agrees.here (known same)
          (named_ same) in
          record {
            agrees = record {
              eight = length-set a.table news.slot q ∙ agrees.eight;
              here = subst (PhaseAgrees part texts n desk) (sym at) r.agrees;
              busy = agrees.busy;
              filed = agrees.filed;
            };
            held = subst (λ x. (e : ℕ) → HeldAt x e → HeldAt (phase_at a.table part) e ⊎ brought.names e) (sym at) r.held;
            rises = subst (λ x. epoch_of (phase_at a.table part) ≤ epoch_of x) (sym at) r.rises;
            does = hears_done part texts asked n h news (asker (phase_at a.table part) a.questions);
          }

      others : (news.slot ≡ part → ⊥) → HeardAt n h a news news.slot
      others other =
          let q = (heard_at h a news news.slot).state.phase in
          let at : phase_at (slice_set a.table news.slot q) part ≡ phase_at a.table part = set_there a.table news.slot part q (λ e. other (sym e)) in
          record {
            agrees = record {
              eight = length-set a.table news.slot q ∙ agrees.eight;
              here = subst (PhaseAgrees part texts n desk) (sym at) agrees.here;
              busy = agrees.busy;
              filed = agrees.filed;
            };
            held = subst (λ x. (e : ℕ) → HeldAt x e → HeldAt (phase_at a.table part) e ⊎ brought.names e) (sym at) (λ e at_e. inl at_e);
            rises = subst (λ x. epoch_of (phase_at a.table part) ≤ epoch_of x) (sym at) (omega arith);
            does = hears_done part texts asked n h news (asker (phase_at a.table news.slot) a.questions);
          }

  pub table_hears_all : (j : ℕ) (n : Net) (h : Hearer) (a : TableAsker) (slots : List SlotNews) → h.ears.number ≡ j → TableAgrees n a.table
      → ((news : SlotNews) → Among news slots → news.slot ≡ part → news.manager ≡ j → epoch_of (phase_at a.table part) < news.epoch → NewsKnown part n news)
      → ((news : SlotNews) → Among news slots → news.slot ≡ part → news.manager ≡ j → brought.names news.epoch)
      → TableRose n a.table (table.hear_each h a slots).state.table (table.hear_each h a slots).outs
  table_hears_all j n h a [] is_j agrees known named_ = rose_same n a.table agrees
  table_hears_all j n h a (news ∷ slots) is_j agrees known named_ =
      let d = table.slot_table_hear h a news in
      let one = table_hears j n h a news is_j agrees (known news (inl refl)) (named_ news (inl refl)) in
      let up = one.rises in
      let more = table_hears_all j n h d.state slots is_j one.agrees (λ x fact same ours above. known x (inr fact) same ours (omega arith))
      (λ x fact. named_ x (inr fact)) in
      record {
        agrees = more.agrees;
        held = λ e at. ⊎_elim (λ x. one.held e x) (λ x. inr x) (more.held e at);
        rises = let b = more.rises in omega arith;
        does = all_append (DoesAt part texts asked n) d.outs (table.hear_each h d.state slots).outs one.does more.does;
      }
