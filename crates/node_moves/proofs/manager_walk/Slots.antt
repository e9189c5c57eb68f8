-- What each event makes of a slot of a manager, and what the manager says of it.
use Rattle.std.proofs.Common.{◌≡◌, ℕ, ◌==◌, Bool, List, [], ◌∷◌, filter, subst}
use Rattle.std.specs.Prelude.{nat_lt}
use Rattle.std.specs.List.{AllByRecursion}
use Rattle.manager_slots.specs.declared.slot_phase.SlotPhase.{SlotPhase}
use Rattle.manager_slots.specs.declared.slot_phase.SlotPhase.TheVariants as phase
use Rattle.manager_slots.specs.Slots.{epoch_of}
use Rattle.manager_slots.specs.SlotTable.{Hearer, hear_of, phase_clean, phase_name}
use Rattle.manager_slots.specs.Takeovers as takeovers
use Rattle.manager_slots.specs.Takeovers.{Asker, takeovers_fetch, takeovers_say, say_each, outs_of, is_wanted, takeovers_ask_again, report_input, on_report, phase_of}
use Rattle.manager_slots.specs.Tokens.{tokens_say, tokens_take, want_input, on_want, checked, tokens_answer, on_check, on_usage_ask}
use Rattle.node_base.specs.declared.effects.Effect.{Effect}
use Rattle.node_base.specs.declared.questions.Questions.{Questions}
use Rattle.takeover.specs.declared.input.In.{In as TakeIn}
use Rattle.takeover.specs.declared.input.In.TheVariants as take_in
use Rattle.takeover.specs.declared.output.Out.{Out as TakeOut}
use Rattle.takeover.specs.declared.output.Out.TheVariants as take_out
use Rattle.takeover.specs.TakeState.{take_start}
use Rattle.token_manager.specs.declared.input.In.{In as SlotIn}
use Rattle.token_manager.specs.declared.output.Out.{Out as SlotOut}
use Rattle.token_manager.specs.declared.output.Out.TheVariants as slot_out
use Rattle.token_manager.specs.Transition as slot
use Rattle.wire_msg.specs.declared.cleaning.Check.{Check}
use Rattle.wire_msg.specs.declared.cleaning.UsageAsk.{UsageAsk}
use Rattle.wire_msg.specs.declared.deltas.Report.{Report}
use Rattle.wire_msg.specs.declared.tokens.Want.{Want}
use Rattle.xfs_base.proofs.Booleans.{by_test}
use Rattle.xfs_base.specs.Blocks.{slot_of}
use Rattle.xfs_base.specs.declared.news.SlotNews.{SlotNews}
use Rattle.xfs_base.specs.declared.node.NodeId.{NodeId}
use Rattle.xfs_base.specs.declared.segment.SegName.{SegName}
use Rattle.xfs_base.specs.declared.segment.SegRef.{SegRef}
use Rattle.xfs_base.specs.Steps.{Stepped, still}
use Rattle.xfs_base.proofs.Alls.{all_filter}
use Rattle.xfs_base.proofs.Leaving.{Leaves, leaves_each}
use Rattle.token_manager.specs.Transition.{entry_at, is_place, found}
use Rattle.node_base.specs.declared.effects.Effect.TheVariants.{Send}
use Rattle.takeover.specs.TakeState.{TakeState}
use Rattle.xfs_base.specs.declared.entry.Entry.{Entry}
use Rattle.xfs_base.specs.declared.node.NodeId.TheVariants.{Cleaner}
use Rattle.xfs_base.proofs.Alls.{all_append, all_flat_map_of}
use Rattle.node_moves.proofs.manager_walk.Laws.{AllSay, Given, Said, Says, SlotSo, Walk}
use Rattle.node_moves.proofs.manager_walk.Taking.{InputSo, OutSo, take_goes}

module _ (w : Walk) (k : ℕ) where
  -- ---- a slot that is managed takes an input

  abbrev pub Goes : Stepped SlotPhase Effect → Type 0
  Goes d = Leaves (SlotSo w k) (Says w) d

  one_said : (number epoch : ℕ) (o : SlotOut) → Said w.Granted o → AllSay w (tokens_say number epoch o)
  unfolding tokens_say
  one_said number epoch (slot_out.Grant client block stamp inc req mode entry) fact = (w.grants _ fact, tt)
  one_said number epoch (slot_out.Live entry) fact = tt
  one_said number epoch slot_out.Dead fact = tt
  one_said number epoch _ fact = (w.plain _ tt, tt)

  pub phase_takes : (p : SlotPhase) (number : ℕ) (given : SlotIn) → Given w.Ranges given → SlotSo w k p → Goes (tokens_take p number given)
  unfolding tokens_take
  phase_takes (phase.Active a) number given told h = record {
    state = w.takes k a given told h;
    outs =
        all_flat_map_of (Says w) (Said w.Granted) (tokens_say number a.slot.epoch) (one_said number a.slot.epoch) (slot.transition a.slot given).outs
        (w.says k a given told h);
  }
  phase_takes (phase.Away epoch) number given told h = record { state = tt; outs = tt }
  phase_takes (phase.Taking t) number given told h = record { state = h; outs = tt }
  phase_takes (phase.Broken epoch seg) number given told h = record { state = tt; outs = tt }

  pub phase_wants : (p : SlotPhase) (client : ℕ) (want : Want) → SlotSo w k p → Goes (on_want p client want)
  unfolding on_want
  phase_wants (phase.Broken epoch seg) client want h = record { state = tt; outs = (w.plain _ tt, tt) }
  phase_wants (phase.Active a) client want h = phase_takes (phase.Active a) (slot_of want.block.ino.0) (want_input client want) tt h
  phase_wants (phase.Away epoch) client want h = phase_takes (phase.Away epoch) (slot_of want.block.ino.0) (want_input client want) tt h
  phase_wants (phase.Taking t) client want h = phase_takes (phase.Taking t) (slot_of want.block.ino.0) (want_input client want) tt h

  -- that a block lives tells what the index holds of it
  checked_says : (check : Check) (epoch : ℕ) (entry : Entry) → w.Granted check.block entry → AllSay w (tokens_answer check epoch (found entry check.place))
  unfolding tokens_answer
  checked_says check epoch entry fact =
      by_test (λ (o : SlotOut). AllSay w (Send Cleaner (checked check epoch o) ∷ [])) (is_place entry.place check.place) (slot_out.Live entry) slot_out.Dead
      (λ _. (w.lives _ fact, tt)) (λ _. (w.plain _ tt, tt))

  pub phase_checks : (p : SlotPhase) (check : Check) → SlotSo w k p → Goes (on_check p check)
  unfolding on_check
  phase_checks (phase.Active a) check h = record {
    state = h;
    outs = all_append (Says w) (tokens_answer check a.slot.epoch (found (entry_at a.slot check.block) check.place)) []
        (checked_says check a.slot.epoch (entry_at a.slot check.block) (w.finds k a check.block h)) tt;
  }
  phase_checks (phase.Away epoch) check h = record { state = tt; outs = tt }
  phase_checks (phase.Taking t) check h = record { state = h; outs = tt }
  phase_checks (phase.Broken epoch seg) check h = record { state = tt; outs = tt }

  pub phase_tells_usage : (p : SlotPhase) (asked : UsageAsk) → AllSay w (on_usage_ask p asked)
  unfolding on_usage_ask
  phase_tells_usage (phase.Active a) asked = (w.plain _ tt, tt)
  phase_tells_usage _ asked = tt

  -- ---- a slot that is taken over, which may ask

  abbrev pub AskerSo : Asker → Type 0
  AskerSo a = SlotSo w k a.phase

  abbrev pub Asks : Stepped Asker Effect → Type 0
  Asks d = Leaves AskerSo (Says w) d

  fetches_on : (p : SlotPhase) (q : Questions) (server : ℕ) (name : SegName) (own : ℕ) → SlotSo w k p → Asks (takeovers_fetch p q server name own)
  fetches_on (phase.Taking t) q server name own h = record { state = h; outs = (w.plain _ tt, tt) }
  fetches_on (phase.Away epoch) q server name own h = record { state = tt; outs = tt }
  fetches_on (phase.Active a) q server name own h = record { state = h; outs = tt }
  fetches_on (phase.Broken epoch seg) q server name own h = record { state = tt; outs = tt }

  says_on : (number : ℕ) (a : Asker) (o : TakeOut) → AskerSo a → OutSo w k o → Asks (takeovers_say number a o)
  unfolding takeovers_say
  says_on number a (take_out.Poll to) h told = record { state = h; outs = (w.plain _ tt, tt) }
  says_on number a (take_out.Fetch server name own) h told = fetches_on a.phase a.questions server name own h
  says_on number a (take_out.Active epoch index beliefs applied) h told = record { state = w.managed k epoch index beliefs applied told; outs = tt }
  says_on number a (take_out.Lost seg) h told = record { state = tt; outs = (tt, tt) }

  each_said : (number : ℕ) (a : Asker) (outs : List TakeOut) → AskerSo a → AllByRecursion (OutSo w k) outs → Asks (say_each number a outs)
  unfolding say_each
  each_said number a outs h all =
      leaves_each AskerSo (Says w) (OutSo w k) (takeovers_say number) (says_on number) a outs h all

  -- what is known of an input, where a takeover takes it
  abbrev pub HeardSo : SlotPhase → TakeIn → Type 0
  HeardSo (phase.Taking t) given = InputSo w k t.take given
  HeardSo _ given = Unit {0}

  heard_on : (p : SlotPhase) (given : TakeIn) → SlotSo w k p → HeardSo p given → Leaves (SlotSo w k) (OutSo w k) (outs_of p given)
  unfolding outs_of
  heard_on (phase.Taking t) given h told = let d = take_goes w k t.take given told h in record { state = d.state; outs = d.outs }
  heard_on (phase.Away epoch) given h told = record { state = tt; outs = tt }
  heard_on (phase.Active a) given h told = record { state = h; outs = tt }
  heard_on (phase.Broken epoch seg) given h told = record { state = tt; outs = tt }

  -- of what is known whatever the state of the takeover is
  pub heard_any : (p : SlotPhase) (given : TakeIn) → ((s : TakeState) → InputSo w k s given) → HeardSo p given
  heard_any (phase.Taking t) given each = each t.take
  heard_any _ given each = tt

  pub asker_takes : (a : Asker) (number : ℕ) (given : TakeIn) → AskerSo a → HeardSo a.phase given → Asks (takeovers.takeovers_take a number given)
  unfolding takeovers.takeovers_take
  asker_takes a number given h told =
      let d = heard_on a.phase given h told in
      each_said number (record a { phase = (outs_of a.phase given).state }) (outs_of a.phase given).outs d.state d.outs

  pub asker_asks : (a : Asker) (number : ℕ) (polls : Bool) → AskerSo a → Asks (takeovers_ask_again a number polls)
  unfolding takeovers_ask_again
  asker_asks a number polls h =
      let d = heard_on a.phase take_in.Tick h (heard_any a.phase take_in.Tick (λ s. tt)) in
      each_said number (record a { phase = (outs_of a.phase take_in.Tick).state }) (filter (is_wanted polls) (outs_of a.phase take_in.Tick).outs) d.state
      (all_filter (OutSo w k) (is_wanted polls) (outs_of a.phase take_in.Tick).outs d.outs)

  pub asker_reports : (a : Asker) (from : NodeId) (report : Report) → AskerSo a → w.Reported from report.end → Asks (on_report a from report)
  asker_reports a from report h told =
      by_test Asks (report.epoch == epoch_of a.phase) (takeovers.takeovers_take a report.slot (report_input from report)) (still a)
      (λ _. asker_takes a report.slot (report_input from report) h (heard_any a.phase (report_input from report) (λ s. told))) (λ _. record { state = h; outs = tt })

  -- it starts from the slot's checkpoint
  pub asker_hears : (h : Hearer) (news : SlotNews) (one : Asker) → news.slot ≡ k → AskerSo one → w.News news → Asks (hear_of h news one)
  unfolding hear_of
  asker_hears h news one at before told =
      by_test Asks (nat_lt (epoch_of one.phase) news.epoch)
      (takeovers.takeovers_take (record one { phase = phase_of h.ears.number news h.groups h.ears.clients }) news.slot take_in.Tick)
      (still one)
      (λ _. asker_takes (record one { phase = phase_of h.ears.number news h.groups h.ears.clients }) news.slot take_in.Tick new
      (heard_any (phase_of h.ears.number news h.groups h.ears.clients) take_in.Tick (λ s. tt)))
      (λ _. record { state = before; outs = tt })
    where
      new : SlotSo w k (phase_of h.ears.number news h.groups h.ears.clients)
      new =
          by_test (SlotSo w k) (news.manager == h.ears.number)
          (phase.Taking (record { epoch = news.epoch; take = take_start news h.groups h.ears.clients; fetches = record { own = 0; ask = 0 } }))
          (phase.Away news.epoch) (λ _. subst (λ n. w.Taken n news [] [] []) at (w.starts news told)) (λ _. tt)

  -- ---- checkpoints

  pub cleaned_so : (p : SlotPhase) → SlotSo w k p → SlotSo w k (phase_clean p)
  unfolding phase_clean
  cleaned_so (phase.Active a) h = w.clears k a h
  cleaned_so (phase.Away epoch) h = tt
  cleaned_so (phase.Taking t) h = h
  cleaned_so (phase.Broken epoch seg) h = tt

  pub named_so : (epoch : ℕ) (parts : List SegRef) (horizon : List ℕ) → w.Done k epoch parts horizon → (p : SlotPhase) → SlotSo w k p → SlotSo w k (phase_name epoch parts p)
  unfolding phase_name
  named_so epoch parts horizon told (phase.Active a) h =
      by_test (SlotSo w k) (a.slot.epoch == epoch) (phase.Active (record a { parts = parts })) (phase.Active a)
      (λ _. w.named k a epoch parts horizon told h) (λ _. h)
  named_so epoch parts horizon told (phase.Away e) h = tt
  named_so epoch parts horizon told (phase.Taking t) h = h
  named_so epoch parts horizon told (phase.Broken e seg) h = tt
