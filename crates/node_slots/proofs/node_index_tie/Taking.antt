-- What a takeover makes of its inputs in the small world: nothing, or in the end that the slot is active there.
use Rattle.std.proofs.Common.{◌≡◌, ℕ, ◌^◌, ◌<◌, ◌==◌, nat_lt, Bool, ◌+◌, List, [], ◌∷◌, Option, Some, None, filter, refl, ◌∙◌}
use Rattle.std.specs.BTreeMap.{insert_entry}
use Rattle.std.specs.Ordering.{match_ordering}
use Rattle.std.specs.declared.cmp.Ordering.{Ordering}
use Rattle.std.specs.declared.cmp.Ordering.TheVariants.{Less, Equal, Greater}
use Rattle.xfs_base.specs.Blocks.{block_cmp}
use Rattle.xfs_base.proofs.Booleans.{by_test}
use Rattle.xfs_base.specs.Steps.{still}
use Rattle.xfs_base.specs.declared.block.BlockId.{BlockId}
use Rattle.xfs_base.specs.declared.entry.Entry.{Entry}
use Rattle.xfs_base.specs.declared.news.SlotNews.{SlotNews}
use Rattle.xfs_base.specs.declared.node.NodeId.{NodeId}
use Rattle.xfs_base.specs.declared.segment.SegName.{SegName}
use Rattle.xfs_base.proofs.Alls.{all_append}
use Rattle.checkpoint.specs.WriterState.{Rows}
use Rattle.node_slots.specs.node_index_tie.Pages.{Desk}
use Rattle.delta_index.specs.Entries.{is_newer}
use Rattle.delta_index.specs.Index.{entry_of, merged, merged_all}
use Rattle.index_tie.specs.Net.{Net}
use Rattle.manager_slots.specs.Slots.{epoch_of}
use Rattle.manager_slots.specs.SlotTable.{Hearer, hear_of}
use Rattle.manager_slots.specs.Takeovers.{Asker, asker, Done, takeovers_fetch, takeovers_say, say_each, outs_of, takeovers_take, is_wanted, takeovers_ask_again, report_input, on_report, phase_of}
use Rattle.manager_slots.specs.declared.slot_phase.SlotPhase.{SlotPhase}
use Rattle.manager_slots.specs.declared.slot_phase.SlotPhase.TheVariants as phase
use Rattle.node_base.specs.declared.questions.Questions.{Questions as Numbers}
use Rattle.node_slots.specs.node_tie.ManagerEvents.{HeldAt, ManagedAt}
use Rattle.node_slots.proofs.node_tie.ManagerTakes.{IsPlain, ArePlain, fetches_plain, tick_said, kept_plain}
use Rattle.group_map.specs.GroupMapState.{GroupMapState}
use Rattle.group_map.specs.Groups.{group_of}
use Rattle.group_map.specs.declared.group.Group.{Group}
use Rattle.segment_reading.specs.Reading.{ReadingState, reading_start, reading_unanswered}
use Rattle.takeover.specs.TakeState.{TakeState}
use Rattle.takeover.specs.Transition.{Done as Told, can_ask, target_of, sought_over, seek, present_waiting, waiting, sought_again, on_maps, transition}
use Rattle.takeover.specs.declared.source.Present.{Present}
use Rattle.takeover.specs.declared.source.Source.{Source}
use Rattle.takeover.specs.declared.input.In.{In as Input}
use Rattle.takeover.specs.declared.input.In.TheVariants as input
use Rattle.takeover.specs.declared.output.Out.{Out}
use Rattle.takeover.specs.declared.output.Out.TheVariants as out
use Rattle.wire_msg.specs.declared.deltas.Report.{Report}
use Rattle.node_slots.specs.node_index_tie.ManagerEvents.{PhaseAgrees}
use Rattle.node_slots.specs.node_index_tie.Sight.{Questions, RowsFit}
use Rattle.headline.specs.Filed.{Texts}
use Rattle.node_slots.proofs.node_index_tie.Moves.{DoesAt, AllDone}

-- ---- newer groups

sought_plain : (s : TakeState) (source : Source) → ArePlain (seek s source).outs
unfolding seek
sought_plain s source = by (group_of s.groups source.seg.group)
  where
    by : (g : Option Group) → ArePlain (sought_over s source g).outs
    by None = tt
    by (Some group) = fetches_plain source.seg.name (s.ask + 1) (reading_unanswered (reading_start (target_of source) group (s.ask + 1)))

-- newer groups end no takeover
pub maps_plain : (s : TakeState) (groups : GroupMapState) → ArePlain (on_maps s groups).outs
unfolding on_maps
maps_plain s groups = by s.present
  where
    by_reading : (source : Source) (r : Option ReadingState) → ArePlain (sought_again (record s { groups = groups }) (present_waiting source r)).outs
    by_reading source None = by_test (λ (d : Told). ArePlain d.outs) (can_ask s) (seek (record s { groups = groups }) source)
        (still (record s { groups = groups })) (λ _. sought_plain (record s { groups = groups }) source) (λ _. tt)
    by_reading source (Some r) = tt

    by : (o : Option Present) → ArePlain (sought_again (record s { groups = groups }) (waiting o)).outs
    by None = tt
    by (Some p) = by_reading p.source p.reading

-- ---- rows that fit

insert_fits : (rows : Rows) (b : BlockId) (e : Entry) → RowsFit rows → b.blk < 2 ^ 32 → RowsFit (insert_entry block_cmp rows b e)
insert_fits [] b e fit one = (one, tt)
insert_fits (x ∷ xs) b e fit one = by (block_cmp b x.0) (insert_fits xs b e fit.1 one)
  where
    by : (o : Ordering) → RowsFit (insert_entry block_cmp xs b e)
        → RowsFit (match_ordering o ((b, e) ∷ x ∷ xs) ((x.0, e) ∷ xs) (x ∷ insert_entry block_cmp xs b e))
    by Less more = (one, (fit.0, fit.1))
    by Equal more = (fit.0, fit.1)
    by Greater more = (fit.0, more)

merged_fits : (rows : Rows) (b : BlockId) (e : Entry) → RowsFit rows → b.blk < 2 ^ 32 → RowsFit (merged rows b e)
unfolding merged
merged_fits rows b e fit one = by_test RowsFit (is_newer e (entry_of rows b)) (insert_entry block_cmp rows b e) rows (λ _. insert_fits rows b e fit one)
    (λ _. fit)

pub all_fits : (rows more : Rows) → RowsFit rows → RowsFit more → RowsFit (merged_all rows more)
all_fits rows [] fit fits = fit
all_fits rows (m ∷ ms) fit fits = all_fits (merged rows m.0 m.1) ms (merged_fits rows m.0 m.1 fit fits.0) fits.1

-- ---- what a takeover says is done

module _ (part : ℕ) (texts : Texts) (asked : Questions) where
  -- none of it tells of where blocks lie
  says_done : (n : Net) (k : ℕ) (a : Asker) (o : Out) → AllDone part texts asked n (takeovers_say k a o).outs
  unfolding takeovers_say
  says_done n k a (out.Poll to) = (tt, tt)
  says_done n k a (out.Fetch server name own) = by a.phase
    where
      by : (p : SlotPhase) → AllDone part texts asked n (takeovers_fetch p a.questions server name own).outs
      by (phase.Taking t) = (tt, tt)
      by (phase.Away epoch) = tt
      by (phase.Active active_) = tt
      by (phase.Broken epoch seg) = tt
  says_done n k a (out.Active epoch index beliefs applied) = tt
  says_done n k a (out.Lost seg) = (tt, tt)

  each_done : (n : Net) (k : ℕ) (a : Asker) (outs : List Out) → AllDone part texts asked n (say_each k a outs).outs
  unfolding say_each
  each_done n k a [] = tt
  each_done n k a (o ∷ os) = all_append (DoesAt part texts asked n) (takeovers_say k a o).outs _ (says_done n k a o) (each_done n k (takeovers_say k a o).state os)

  pub takes_done : (n : Net) (k : ℕ) (a : Asker) (given : Input) → AllDone part texts asked n (takeovers_take a k given).outs
  unfolding takeovers_take
  takes_done n k a given = each_done n k (record a { phase = (outs_of a.phase given).state }) (outs_of a.phase given).outs

  pub asks_done : (n : Net) (k : ℕ) (a : Asker) (polls : Bool) → AllDone part texts asked n (takeovers_ask_again a k polls).outs
  unfolding takeovers_ask_again
  asks_done n k a polls = each_done n k (record a { phase = (outs_of a.phase input.Tick).state }) (filter (is_wanted polls) (outs_of a.phase input.Tick).outs)

  pub reports_done : (n : Net) (a : Asker) (from : NodeId) (report : Report) → AllDone part texts asked n (on_report a from report).outs
  reports_done n a from report =
      by_test (λ (d : Done). AllDone part texts asked n d.outs) (report.epoch == epoch_of a.phase) (takeovers_take a report.slot (report_input from report)) (still a)
      (λ _. takes_done n report.slot a (report_input from report)) (λ _. tt)

  pub hears_done : (n : Net) (h : Hearer) (news : SlotNews) (one : Asker) → AllDone part texts asked n (hear_of h news one).outs
  unfolding hear_of
  hears_done n h news one =
      by_test (λ (d : Done). AllDone part texts asked n d.outs) (nat_lt (epoch_of one.phase) news.epoch)
      (takeovers_take (record one { phase = phase_of h.ears.number news h.groups h.ears.clients }) news.slot input.Tick) (still one)
      (λ _. takes_done n news.slot (record one { phase = phase_of h.ears.number news h.groups h.ears.clients }) input.Tick) (λ _. tt)

  module _ (desk : Desk) where
    -- ---- what is said but that the slot is active

    -- nothing happens in the small world
    pub record Stays (n : Net) (p : SlotPhase) (d : Done) : Type 0 where
      pub agrees : PhaseAgrees part texts n desk d.state.phase
      pub held : (e : ℕ) → HeldAt d.state.phase e → HeldAt p e
      pub epoch : epoch_of d.state.phase ≡ epoch_of p

    stays_still : (n : Net) (a : Asker) → PhaseAgrees part texts n desk a.phase → Stays n a.phase (still a)
    stays_still n a agrees = record { agrees = agrees; held = λ e h. h; epoch = refl }

    stays_fetches : (n : Net) (p : SlotPhase) (q : Numbers) (server : ℕ) (name : SegName) (own : ℕ) → PhaseAgrees part texts n desk p
        → Stays n p (takeovers_fetch p q server name own)
    stays_fetches n (phase.Taking t) q server name own agrees = record { agrees = agrees; held = λ e h. h; epoch = refl }
    stays_fetches n (phase.Away epoch) q server name own agrees = stays_still n (asker (phase.Away epoch) q) agrees
    stays_fetches n (phase.Active a) q server name own agrees = stays_still n (asker (phase.Active a) q) agrees
    stays_fetches n (phase.Broken epoch seg) q server name own agrees = stays_still n (asker (phase.Broken epoch seg) q) agrees

    stays_says : (n : Net) (k : ℕ) (a : Asker) (o : Out) → IsPlain o → PhaseAgrees part texts n desk a.phase → Stays n a.phase (takeovers_say k a o)
    unfolding takeovers_say
    stays_says n k a (out.Poll to) plain agrees = record { agrees = agrees; held = λ e h. h; epoch = refl }
    stays_says n k a (out.Fetch server name own) plain agrees = stays_fetches n a.phase a.questions server name own agrees
    stays_says n k a (out.Active epoch index beliefs applied) plain agrees = absurd plain
    stays_says n k a (out.Lost seg) plain agrees = record { agrees = tt; held = λ e h. absurd h; epoch = refl }

    pub stays_each : (n : Net) (k : ℕ) (a : Asker) (outs : List Out) → ArePlain outs → PhaseAgrees part texts n desk a.phase
        → Stays n a.phase (say_each k a outs)
    unfolding say_each
    stays_each n k a [] plain agrees = stays_still n a agrees
    stays_each n k a (o ∷ os) plain agrees =
        let one = stays_says n k a o plain.0 agrees in
        let rest = stays_each n k (takeovers_say k a o).state os plain.1 one.agrees in
        record { agrees = rest.agrees; held = λ e h. one.held e (rest.held e h); epoch = rest.epoch ∙ one.epoch }

    -- time alone says nothing else
    pub stays_ticks : (n : Net) (k : ℕ) (p : SlotPhase) (q : Numbers) → PhaseAgrees part texts n desk p → Stays n p (takeovers_take (asker p q) k input.Tick)
    unfolding takeovers_take outs_of
    stays_ticks n k (phase.Taking t) q agrees = stays_each n k (asker (phase.Taking t) q) (transition t.take input.Tick).outs (tick_said t.take) agrees
    stays_ticks n k (phase.Away epoch) q agrees = stays_each n k (asker (phase.Away epoch) q) [] tt agrees
    stays_ticks n k (phase.Active a) q agrees = stays_each n k (asker (phase.Active a) q) [] tt agrees
    stays_ticks n k (phase.Broken epoch seg) q agrees = stays_each n k (asker (phase.Broken epoch seg) q) [] tt agrees

    pub stays_asks : (n : Net) (k : ℕ) (p : SlotPhase) (q : Numbers) (polls : Bool) → PhaseAgrees part texts n desk p
        → Stays n p (takeovers_ask_again (asker p q) k polls)
    unfolding takeovers_ask_again outs_of
    stays_asks n k (phase.Taking t) q polls agrees = stays_each n k (asker (phase.Taking t) q) (filter (is_wanted polls) (transition t.take input.Tick).outs)
        (kept_plain (is_wanted polls) (transition t.take input.Tick).outs (tick_said t.take)) agrees
    stays_asks n k (phase.Away epoch) q polls agrees = stays_each n k (asker (phase.Away epoch) q) [] tt agrees
    stays_asks n k (phase.Active a) q polls agrees = stays_each n k (asker (phase.Active a) q) [] tt agrees
    stays_asks n k (phase.Broken epoch seg) q polls agrees = stays_each n k (asker (phase.Broken epoch seg) q) [] tt agrees

    -- and a slot that is managed stays so
    pub asks_managed : (k : ℕ) (p : SlotPhase) (q : Numbers) (polls : Bool) (e : ℕ) → ManagedAt p e → ManagedAt (takeovers_ask_again (asker p q) k polls).state.phase e
    unfolding takeovers_ask_again outs_of say_each
    asks_managed k (phase.Active a) q polls e h = h
    asks_managed k _ q polls e h = absurd h
