-- What a manager names of a slot is known, whatever happens to the slot.
use Rattle.std.proofs.Common.{ℕ, ◌==◌, Bool, List, filter, sym, subst}
use Rattle.std.specs.Prelude.{nat_lt}
use Rattle.manager_slots.specs.declared.slot_phase.SlotPhase.{SlotPhase}
use Rattle.manager_slots.specs.declared.slot_phase.SlotPhase.TheVariants as phase
use Rattle.manager_slots.specs.Slots.{epoch_of}
use Rattle.manager_slots.specs.SlotTable.{Hearer, hear_of, phase_clean, phase_name}
use Rattle.manager_slots.specs.Takeovers as takeovers
use Rattle.manager_slots.specs.Takeovers.{Asker, takeovers_fetch, takeovers_say, say_each, outs_of, is_wanted, takeovers_ask_again, report_input, on_report, phase_of}
use Rattle.manager_slots.specs.Tokens.{tokens_say, tokens_take, want_input, on_want, check_input, tokens_answer, on_check, on_usage_ask}
use Rattle.node_base.specs.declared.effects.Effect.{Effect}
use Rattle.node_base.specs.declared.questions.Questions.{Questions}
use Rattle.takeover.specs.declared.input.In.{In as TakeIn}
use Rattle.takeover.specs.declared.input.In.TheVariants as take_in
use Rattle.takeover.specs.declared.output.Out.{Out as TakeOut}
use Rattle.takeover.specs.declared.output.Out.TheVariants as take_out
use Rattle.takeover.specs.TakeState.{take_start}
use Rattle.token_manager.specs.declared.input.In.{In as SlotIn}
use Rattle.token_manager.specs.declared.output.Out.{Out as SlotOut}
use Rattle.token_manager.specs.declared.output.Out.TheVariants as slot_out
use Rattle.token_manager.specs.Transition as slot
use Rattle.wire_msg.specs.declared.cleaning.Check.{Check}
use Rattle.wire_msg.specs.declared.cleaning.UsageAsk.{UsageAsk}
use Rattle.wire_msg.specs.declared.deltas.Report.{Report}
use Rattle.wire_msg.specs.declared.tokens.Want.{Want}
use Rattle.xfs_base.proofs.Booleans.{by_test}
use Rattle.xfs_base.specs.Blocks.{slot_of}
use Rattle.xfs_base.specs.declared.news.SlotNews.{SlotNews}
use Rattle.xfs_base.specs.declared.node.NodeId.{NodeId}
use Rattle.xfs_base.specs.declared.segment.SegName.{SegName}
use Rattle.xfs_base.specs.declared.segment.SegRef.{SegRef}
use Rattle.xfs_base.specs.Steps.{Stepped, still}
use Rattle.xfs_base.proofs.Alls.{all_each, all_flat_map}
use Rattle.xfs_base.proofs.Leaving.{Leaves, leaves_each}
use Rattle.node_tellings.specs.part_tie.ManagerNames.{SlotNames}
use Rattle.node_tellings.specs.part_tie.Names.{AllKnown, Known, NewsNames}
use Rattle.node_tellings.proofs.part_tie.Saying.{AllSay, Says}
use Rattle.node_tellings.proofs.part_tie.Takeovers.{news_stay}

module _ (known : Known) where
  -- ---- a slot that is managed takes an input

  abbrev pub Goes : Stepped SlotPhase Effect → Type 0
  Goes d = Leaves (SlotNames known) (Says known) d

  one_said : (number epoch : ℕ) (o : SlotOut) → AllSay known (tokens_say number epoch o)
  unfolding tokens_say
  one_said number epoch (slot_out.Live entry) = tt
  one_said number epoch slot_out.Dead = tt
  one_said number epoch _ = (tt, tt)

  pub phase_takes : (p : SlotPhase) (number : ℕ) (given : SlotIn) → SlotNames known p → Goes (tokens_take p number given)
  unfolding tokens_take
  phase_takes (phase.Active a) number given h =
      record { state = h; outs = all_flat_map (Says known) (tokens_say number a.slot.epoch) (one_said number a.slot.epoch) (slot.transition a.slot given).outs }
  phase_takes (phase.Away epoch) number given h = record { state = tt; outs = tt }
  phase_takes (phase.Taking t) number given h = record { state = h; outs = tt }
  phase_takes (phase.Broken epoch seg) number given h = record { state = tt; outs = tt }

  pub phase_wants : (p : SlotPhase) (client : ℕ) (want : Want) → SlotNames known p → Goes (on_want p client want)
  unfolding on_want
  phase_wants (phase.Broken epoch seg) client want h = record { state = tt; outs = (tt, tt) }
  phase_wants (phase.Active a) client want h = phase_takes (phase.Active a) (slot_of want.block.ino.0) (want_input client want) h
  phase_wants (phase.Away epoch) client want h = phase_takes (phase.Away epoch) (slot_of want.block.ino.0) (want_input client want) h
  phase_wants (phase.Taking t) client want h = phase_takes (phase.Taking t) (slot_of want.block.ino.0) (want_input client want) h

  one_checked : (check : Check) (epoch : ℕ) (o : SlotOut) → AllSay known (tokens_answer check epoch o)
  unfolding tokens_answer
  one_checked check epoch (slot_out.Grant client block stamp inc req mode entry) = (tt, tt)
  one_checked check epoch (slot_out.Forward client block stamp to inc req ver) = (tt, tt)
  one_checked check epoch (slot_out.Recall client block stamp keep) = (tt, tt)
  one_checked check epoch (slot_out.Applied log applied) = (tt, tt)
  one_checked check epoch (slot_out.Live entry) = (tt, tt)
  one_checked check epoch slot_out.Dead = (tt, tt)

  pub phase_checks : (p : SlotPhase) (check : Check) → SlotNames known p → Goes (on_check p check)
  unfolding on_check
  phase_checks (phase.Active a) check h = record {
    state = h;
    outs = all_flat_map (Says known) (tokens_answer check a.slot.epoch) (one_checked check a.slot.epoch) (slot.transition a.slot (check_input check)).outs;
  }
  phase_checks (phase.Away epoch) check h = record { state = tt; outs = tt }
  phase_checks (phase.Taking t) check h = record { state = h; outs = tt }
  phase_checks (phase.Broken epoch seg) check h = record { state = tt; outs = tt }

  pub phase_tells_usage : (p : SlotPhase) (asked : UsageAsk) → AllSay known (on_usage_ask p asked)
  unfolding on_usage_ask
  phase_tells_usage (phase.Active a) asked = (tt, tt)
  phase_tells_usage _ asked = tt

  -- ---- a slot that is taken over, which may ask

  abbrev pub AskerNames : Asker → Type 0
  AskerNames a = SlotNames known a.phase

  abbrev pub Asks : Stepped Asker Effect → Type 0
  Asks d = Leaves AskerNames (Says known) d

  fetches_on : (p : SlotPhase) (q : Questions) (server : ℕ) (name : SegName) (own : ℕ) → SlotNames known p → Asks (takeovers_fetch p q server name own)
  fetches_on (phase.Taking t) q server name own h = record { state = h; outs = (tt, tt) }
  fetches_on (phase.Away epoch) q server name own h = record { state = tt; outs = tt }
  fetches_on (phase.Active a) q server name own h = record { state = h; outs = tt }
  fetches_on (phase.Broken epoch seg) q server name own h = record { state = tt; outs = tt }

  -- a slot that is managed from now on has no checkpoint yet
  says_on : (number : ℕ) (a : Asker) (o : TakeOut) → AskerNames a → Unit {0} → Asks (takeovers_say number a o)
  unfolding takeovers_say
  says_on number a (take_out.Poll to) h any = record { state = h; outs = (tt, tt) }
  says_on number a (take_out.Fetch server name own) h any = fetches_on a.phase a.questions server name own h
  says_on number a (take_out.Active epoch index beliefs applied) h any = record { state = tt; outs = tt }
  says_on number a (take_out.Lost seg) h any = record { state = tt; outs = (tt, tt) }

  each_said : (number : ℕ) (a : Asker) (outs : List TakeOut) → AskerNames a → Asks (say_each number a outs)
  unfolding say_each
  each_said number a outs h =
      leaves_each AskerNames (Says known) (λ o. Unit {0}) (takeovers_say number) (says_on number) a outs h (all_each (λ o. Unit {0}) (λ o. tt) outs)

  heard_on : (p : SlotPhase) (given : TakeIn) → SlotNames known p → SlotNames known (outs_of p given).state
  unfolding outs_of
  heard_on (phase.Taking t) given h = subst (λ (n : SlotNews). AllKnown known n.parts) (sym (news_stay t.take given)) h
  heard_on (phase.Away epoch) given h = tt
  heard_on (phase.Active a) given h = h
  heard_on (phase.Broken epoch seg) given h = tt

  pub asker_takes : (a : Asker) (number : ℕ) (given : TakeIn) → AskerNames a → Asks (takeovers.takeovers_take a number given)
  unfolding takeovers.takeovers_take
  asker_takes a number given h =
      each_said number (record a { phase = (outs_of a.phase given).state }) (outs_of a.phase given).outs (heard_on a.phase given h)

  pub asker_asks : (a : Asker) (number : ℕ) (polls : Bool) → AskerNames a → Asks (takeovers_ask_again a number polls)
  unfolding takeovers_ask_again
  asker_asks a number polls h =
      each_said number (record a { phase = (outs_of a.phase take_in.Tick).state }) (filter (is_wanted polls) (outs_of a.phase take_in.Tick).outs)
      (heard_on a.phase take_in.Tick h)

  pub asker_reports : (a : Asker) (from : NodeId) (report : Report) → AskerNames a → Asks (on_report a from report)
  asker_reports a from report h =
      by_test Asks (report.epoch == epoch_of a.phase) (takeovers.takeovers_take a report.slot (report_input from report)) (still a)
      (λ _. asker_takes a report.slot (report_input from report) h) (λ _. record { state = h; outs = tt })

  -- a takeover has the parts of the news that it hears
  pub asker_hears : (h : Hearer) (news : SlotNews) (one : Asker) → NewsNames known news → AskerNames one → Asks (hear_of h news one)
  unfolding hear_of
  asker_hears h news one names before =
      by_test Asks (nat_lt (epoch_of one.phase) news.epoch)
      (takeovers.takeovers_take (record one { phase = phase_of h.ears.number news h.groups h.ears.clients }) news.slot take_in.Tick)
      (still one)
      (λ _. asker_takes (record one { phase = phase_of h.ears.number news h.groups h.ears.clients }) news.slot take_in.Tick new)
      (λ _. record { state = before; outs = tt })
    where
      new : SlotNames known (phase_of h.ears.number news h.groups h.ears.clients)
      new =
          by_test (SlotNames known) (news.manager == h.ears.number)
          (phase.Taking (record { epoch = news.epoch; take = take_start news h.groups h.ears.clients; fetches = record { own = 0; ask = 0 } }))
          (phase.Away news.epoch) (λ _. names) (λ _. tt)

  -- ---- checkpoints

  pub cleaned_names : (p : SlotPhase) → SlotNames known p → SlotNames known (phase_clean p)
  unfolding phase_clean
  cleaned_names (phase.Active a) h = h
  cleaned_names (phase.Away epoch) h = tt
  cleaned_names (phase.Taking t) h = h
  cleaned_names (phase.Broken epoch seg) h = tt

  pub named_names : (epoch : ℕ) (parts : List SegRef) → AllKnown known parts → (p : SlotPhase) → SlotNames known p → SlotNames known (phase_name epoch parts p)
  unfolding phase_name
  named_names epoch parts all (phase.Active a) h =
      by_test (SlotNames known) (a.slot.epoch == epoch) (phase.Active (record a { parts = parts })) (phase.Active a) (λ _. all) (λ _. h)
  named_names epoch parts all (phase.Away e) h = tt
  named_names epoch parts all (phase.Taking t) h = h
  named_names epoch parts all (phase.Broken e seg) h = tt
