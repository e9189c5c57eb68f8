-- What a manager has of a slot fits, whatever happens to the slot, and what it says then is no matter of a log.
use Rattle.std.proofs.Common.{ℕ, ◌==◌, Bool, List, [], ◌∷◌, filter}
use Rattle.std.specs.Prelude.{Option, nat_lt}
use Rattle.std.specs.List.{AllByRecursion, flat_map}
use Rattle.manager_slots.specs.declared.slot_phase.SlotPhase.{SlotPhase}
use Rattle.manager_slots.specs.declared.slot_phase.SlotPhase.TheVariants as phase
use Rattle.manager_slots.specs.Slots.{epoch_of}
use Rattle.manager_slots.specs.SlotTable.{Hearer, hear_of, phase_clean, phase_name}
use Rattle.manager_slots.specs.Takeovers as takeovers
use Rattle.manager_slots.specs.Takeovers.{Asker, takeovers_fetch, takeovers_say, say_each, outs_of, is_wanted, takeovers_ask_again, report_input, on_report, phase_of}
use Rattle.manager_slots.specs.Tokens.{tokens_say, tokens_take, want_input, on_want, tokens_answer, on_check, on_usage_ask}
use Rattle.node_base.specs.Beginning.{answers_unanswered}
use Rattle.node_base.specs.declared.effects.Effect.{Effect}
use Rattle.node_base.specs.declared.effects.Effect.TheVariants.{Send, Answer, Lose, Does}
use Rattle.node_base.specs.declared.questions.Questions.{Questions}
use Rattle.takeover.specs.declared.input.In.{In as TakeIn}
use Rattle.takeover.specs.declared.input.In.TheVariants as take_in
use Rattle.takeover.specs.declared.output.Out.{Out as TakeOut}
use Rattle.takeover.specs.declared.output.Out.TheVariants as take_out
use Rattle.takeover.specs.TakeState.{take_start}
use Rattle.token_manager.specs.declared.input.In.{In as SlotIn}
use Rattle.token_manager.specs.declared.output.Out.{Out as SlotOut}
use Rattle.token_manager.specs.declared.output.Out.TheVariants as slot_out
use Rattle.token_manager.specs.Transition as slot
use Rattle.version_model.specs.declared.answer.Answer.{Answer as Answered}
use Rattle.wire_msg.specs.declared.body.Body.{Body}
use Rattle.wire_msg.specs.declared.body.Body.TheVariants as body
use Rattle.wire_msg.specs.declared.cleaning.Check.{Check}
use Rattle.wire_msg.specs.declared.cleaning.UsageAsk.{UsageAsk}
use Rattle.wire_msg.specs.declared.deltas.Report.{Report}
use Rattle.wire_msg.specs.declared.tokens.Want.{Want}
use Rattle.segment_format.specs.Ranges.{FitsRow}
use Rattle.xfs_base.proofs.Booleans.{by_test}
use Rattle.xfs_base.specs.Blocks.{slot_of}
use Rattle.xfs_base.specs.declared.news.SlotNews.{SlotNews}
use Rattle.xfs_base.specs.declared.node.NodeId.{NodeId}
use Rattle.xfs_base.specs.declared.segment.SegName.{SegName}
use Rattle.xfs_base.specs.declared.segment.SegRef.{SegRef}
use Rattle.xfs_base.specs.Steps.{Stepped, still}
use Rattle.xfs_base.proofs.Alls.{all_append, all_filter}
use Rattle.xfs_base.proofs.Leaving.{Leaves, leaves_each}
use Rattle.node_logs.proofs.node_log_tie.Lists.{answers_send}
use Rattle.node_logs.specs.manager_log_tie.Fitting.{IsRowInRange, SlotFits}
use Rattle.node_logs.proofs.manager_log_tie.Rows.{LiveFits, placed_fits}
use Rattle.node_logs.proofs.manager_log_tie.Slots.{GrantFits, SlotInFits, slot_goes, slot_starts}
use Rattle.node_logs.proofs.manager_log_tie.Taking.{TakeInFits, OutFits, take_goes}

-- ---- what is no matter of a log, and in range

abbrev pub Aside : Body → Type 0
Aside (body.Store m) = ⊥
Aside (body.Stored m) = ⊥
Aside (body.Fragment m) = ⊥
Aside (body.Fence m) = ⊥
Aside (body.Fenced m) = ⊥
Aside (body.Listed m) = ⊥
Aside (body.Delete m) = ⊥
Aside (body.Hello m) = ⊥
Aside (body.Welcome m) = ⊥
Aside (body.MapNews m) = ⊥
Aside (body.Deltas m) = ⊥
Aside (body.Live m) = FitsRow (m.block, m.entry)
Aside (body.Grant m) = IsRowInRange (m.block, m.entry)
Aside _ = Unit {0}

abbrev pub IsAside : Effect → Type 0
IsAside (Send to said) = Aside said
IsAside (Answer item answer) = Unit {0}
IsAside (Lose seg) = Unit {0}
IsAside (Does act) = ⊥

abbrev pub AllAside : List Effect → Type 0
AllAside outs = AllByRecursion IsAside outs

pub answers_aside : (item : Option ℕ) (answer : Answered) → AllAside (answers_unanswered item answer)
answers_aside item answer = answers_send IsAside (λ number said. tt) item answer

-- ---- a slot that is managed takes an input

abbrev pub PhaseGoes : Stepped SlotPhase Effect → Type 0
PhaseGoes d = Leaves SlotFits IsAside d

one_said : (number epoch : ℕ) (o : SlotOut) → GrantFits o → AllAside (tokens_say number epoch o)
unfolding tokens_say
one_said number epoch (slot_out.Grant client block stamp inc req mode entry) h = (h, tt)
one_said number epoch (slot_out.Live entry) h = tt
one_said number epoch slot_out.Dead h = tt
one_said number epoch _ h = (tt, tt)

all_said : (number epoch : ℕ) (outs : List SlotOut) → AllByRecursion GrantFits outs → AllAside (flat_map (tokens_say number epoch) outs)
all_said number epoch [] all = tt
all_said number epoch (o ∷ outs) all =
    all_append IsAside (tokens_say number epoch o) (flat_map (tokens_say number epoch) outs) (one_said number epoch o all.0) (all_said number epoch outs all.1)

pub phase_takes : (p : SlotPhase) (number : ℕ) (given : SlotIn) → SlotInFits given → SlotFits p → PhaseGoes (tokens_take p number given)
unfolding tokens_take
phase_takes (phase.Active a) number given told h = (let d = slot_goes a.slot given told h in
    record { state = d.state; outs = all_said number a.slot.epoch (slot.transition a.slot given).outs d.outs })
phase_takes (phase.Away epoch) number given told h = record { state = tt; outs = tt }
phase_takes (phase.Taking t) number given told h = record { state = h; outs = tt }
phase_takes (phase.Broken epoch seg) number given told h = record { state = tt; outs = tt }

pub phase_wants : (p : SlotPhase) (client : ℕ) (want : Want) → SlotFits p → PhaseGoes (on_want p client want)
unfolding on_want
phase_wants (phase.Broken epoch seg) client want h = record { state = tt; outs = (tt, tt) }
phase_wants (phase.Active a) client want h = phase_takes (phase.Active a) (slot_of want.block.ino.0) (want_input client want) tt h
phase_wants (phase.Away epoch) client want h = phase_takes (phase.Away epoch) (slot_of want.block.ino.0) (want_input client want) tt h
phase_wants (phase.Taking t) client want h = phase_takes (phase.Taking t) (slot_of want.block.ino.0) (want_input client want) tt h

one_checked : (check : Check) (epoch : ℕ) (o : SlotOut) → LiveFits check.block o → AllAside (tokens_answer check epoch o)
unfolding tokens_answer
one_checked check epoch (slot_out.Live entry) h = (h, tt)
one_checked check epoch _ h = (tt, tt)

pub phase_checks : (p : SlotPhase) (check : Check) → SlotFits p → PhaseGoes (on_check p check)
unfolding on_check
phase_checks (phase.Active a) check h = record {
  state = h;
  outs =
      all_append IsAside (tokens_answer check a.slot.epoch (slot.found (slot.entry_at a.slot check.block) check.place)) []
      (one_checked check a.slot.epoch (slot.found (slot.entry_at a.slot check.block) check.place) (placed_fits check.block check.place a.slot.index.rows h)) tt;
}
phase_checks (phase.Away epoch) check h = record { state = tt; outs = tt }
phase_checks (phase.Taking t) check h = record { state = h; outs = tt }
phase_checks (phase.Broken epoch seg) check h = record { state = tt; outs = tt }

pub phase_tells_usage : (p : SlotPhase) (asked : UsageAsk) → AllAside (on_usage_ask p asked)
unfolding on_usage_ask
phase_tells_usage (phase.Active a) asked = (tt, tt)
phase_tells_usage _ asked = tt

-- ---- a slot that is taken over, which may ask

abbrev pub AskerFits : Asker → Type 0
AskerFits a = SlotFits a.phase

abbrev pub AskerGoes : Stepped Asker Effect → Type 0
AskerGoes d = Leaves AskerFits IsAside d

fetches_on : (p : SlotPhase) (q : Questions) (server : ℕ) (name : SegName) (own : ℕ) → SlotFits p → AskerGoes (takeovers_fetch p q server name own)
fetches_on (phase.Taking t) q server name own h = record { state = h; outs = (tt, tt) }
fetches_on (phase.Away epoch) q server name own h = record { state = tt; outs = tt }
fetches_on (phase.Active a) q server name own h = record { state = h; outs = tt }
fetches_on (phase.Broken epoch seg) q server name own h = record { state = tt; outs = tt }

says_on : (number : ℕ) (a : Asker) (o : TakeOut) → AskerFits a → OutFits o → AskerGoes (takeovers_say number a o)
unfolding takeovers_say
says_on number a (take_out.Poll to) h told = record { state = h; outs = (tt, tt) }
says_on number a (take_out.Fetch server name own) h told = fetches_on a.phase a.questions server name own h
says_on number a (take_out.Active epoch index beliefs applied) h told = record { state = slot_starts index told; outs = tt }
says_on number a (take_out.Lost seg) h told = record { state = tt; outs = (tt, tt) }

each_said : (number : ℕ) (a : Asker) (outs : List TakeOut) → AskerFits a → AllByRecursion OutFits outs → AskerGoes (say_each number a outs)
unfolding say_each
each_said number a outs h all = leaves_each AskerFits IsAside OutFits (takeovers_say number) (says_on number) a outs h all

heard_on : (p : SlotPhase) (given : TakeIn) → SlotFits p → TakeInFits given → Leaves SlotFits OutFits (outs_of p given)
unfolding outs_of
heard_on (phase.Taking t) given h told = let d = take_goes t.take given h told in record { state = d.state; outs = d.outs }
heard_on (phase.Away epoch) given h told = record { state = tt; outs = tt }
heard_on (phase.Active a) given h told = record { state = h; outs = tt }
heard_on (phase.Broken epoch seg) given h told = record { state = tt; outs = tt }

pub asker_takes : (a : Asker) (number : ℕ) (given : TakeIn) → AskerFits a → TakeInFits given → AskerGoes (takeovers.takeovers_take a number given)
unfolding takeovers.takeovers_take
asker_takes a number given h told =
    let d = heard_on a.phase given h told in
    each_said number (record a { phase = (outs_of a.phase given).state }) (outs_of a.phase given).outs d.state d.outs

pub asker_asks : (a : Asker) (number : ℕ) (polls : Bool) → AskerFits a → AskerGoes (takeovers_ask_again a number polls)
unfolding takeovers_ask_again
asker_asks a number polls h =
    let d = heard_on a.phase take_in.Tick h tt in
    each_said number (record a { phase = (outs_of a.phase take_in.Tick).state }) (filter (is_wanted polls) (outs_of a.phase take_in.Tick).outs) d.state
    (all_filter OutFits (is_wanted polls) (outs_of a.phase take_in.Tick).outs d.outs)

pub asker_reports : (a : Asker) (from : NodeId) (report : Report) → AskerFits a → AskerGoes (on_report a from report)
asker_reports a from report h =
    by_test AskerGoes (report.epoch == epoch_of a.phase) (takeovers.takeovers_take a report.slot (report_input from report)) (still a)
    (λ t. asker_takes a report.slot (report_input from report) h tt) (λ t. record { state = h; outs = tt })

-- it starts from nothing
pub asker_hears : (h : Hearer) (news : SlotNews) (one : Asker) → AskerFits one → AskerGoes (hear_of h news one)
unfolding hear_of
asker_hears h news one before =
    by_test AskerGoes (nat_lt (epoch_of one.phase) news.epoch)
    (takeovers.takeovers_take (record one { phase = phase_of h.ears.number news h.groups h.ears.clients }) news.slot take_in.Tick)
    (still one)
    (λ t. asker_takes (record one { phase = phase_of h.ears.number news h.groups h.ears.clients }) news.slot take_in.Tick new tt)
    (λ t. record { state = before; outs = tt })
  where
    new : SlotFits (phase_of h.ears.number news h.groups h.ears.clients)
    new =
        by_test SlotFits (news.manager == h.ears.number)
        (phase.Taking (record { epoch = news.epoch; take = take_start news h.groups h.ears.clients; fetches = record { own = 0; ask = 0 } }))
        (phase.Away news.epoch) (λ t. record { index = tt; chain = tt; present = tt }) (λ t. tt)

-- ---- checkpoints

pub cleaned_fits : (p : SlotPhase) → SlotFits p → SlotFits (phase_clean p)
unfolding phase_clean
cleaned_fits (phase.Active a) h = h
cleaned_fits (phase.Away epoch) h = tt
cleaned_fits (phase.Taking t) h = h
cleaned_fits (phase.Broken epoch seg) h = tt

pub named_fits : (epoch : ℕ) (parts : List SegRef) (p : SlotPhase) → SlotFits p → SlotFits (phase_name epoch parts p)
unfolding phase_name
named_fits epoch parts (phase.Active a) h =
    by_test SlotFits (a.slot.epoch == epoch) (phase.Active (record a { parts = parts })) (phase.Active a) (λ t. h) (λ t. h)
named_fits epoch parts (phase.Away e) h = tt
named_fits epoch parts (phase.Taking t) h = h
named_fits epoch parts (phase.Broken e seg) h = tt
