-- How a manager takes slots over.
use Rattle.std.specs.Prelude.{ℕ, Bool, true, false, ◌==◌, not, if◌then◌else◌, List, [], ◌∷◌, filter}
use Rattle.wire_msg.specs.declared.body.Body.TheVariants as body
use Rattle.wire_msg.specs.declared.deltas.Report.{Report}
use Rattle.xfs_base.specs.declared.news.SlotNews.{SlotNews}
use Rattle.xfs_base.specs.declared.node.NodeId.{NodeId}
use Rattle.xfs_base.specs.declared.node.NodeId.TheVariants.{Server}
use Rattle.xfs_base.specs.declared.segment.SegName.{SegName}
use Rattle.xfs_base.specs.Steps.{Stepped, still, steps}
use Rattle.group_map.specs.GroupMapState.{GroupMapState}
use Rattle.node_base.specs.declared.effects.Effect.{Effect}
use Rattle.node_base.specs.declared.effects.Effect.TheVariants.{Send, Lose}
use Rattle.node_base.specs.declared.questions.Questions.{Questions}
use Rattle.node_base.specs.Asking.{number_for, asked_as, drawn_for}
use Rattle.takeover.specs.TakeState.{take_start}
use Rattle.takeover.specs.Transition.{transition}
use Rattle.takeover.specs.declared.input.In.{In}
use Rattle.takeover.specs.declared.input.In.TheVariants as input
use Rattle.takeover.specs.declared.output.Out.{Out}
use Rattle.takeover.specs.declared.output.Out.TheVariants as out
use Rattle.token_manager.specs.Transition.{slot_start as slot_started}
use Rattle.manager_slots.specs.declared.slot_phase.SlotPhase.{SlotPhase}
use Rattle.manager_slots.specs.declared.slot_phase.SlotPhase.TheVariants as phase
use Rattle.manager_slots.specs.Slots.{epoch_of, managed}

-- a slot, and the number of the manager's last question
pub record Asker : Type 0 where
  pub phase : SlotPhase
  pub questions : Questions

abbrev pub asker : SlotPhase → Questions → Asker
asker p q = record { phase = p; questions = q }

abbrev pub Done : Type 0
Done = Stepped Asker Effect

-- ---- what a takeover says

-- a round of a takeover asks under one question of the manager's
abbrev pub takeovers_fetch : SlotPhase → Questions → ℕ → SegName → ℕ → Done
takeovers_fetch (phase.Taking taking) q server name own = record {
  state = asker (phase.Taking (record taking { fetches = asked_as taking.fetches q own })) (drawn_for taking.fetches q own);
  outs = Send (Server server) (body.Fetch (record { name = name; ask = number_for taking.fetches q own })) ∷ [];
}
takeovers_fetch (phase.Away epoch) q server name own = still (asker (phase.Away epoch) q)
takeovers_fetch (phase.Active active) q server name own = still (asker (phase.Active active) q)
takeovers_fetch (phase.Broken epoch seg) q server name own = still (asker (phase.Broken epoch seg) q)

-- what a takeover says is done: a poll, a question, the slot is managed, or it is broken
unfoldable pub takeovers_say : ℕ → Asker → Out → Done
takeovers_say slot a (out.Poll to) = record { state = a; outs = Send to (body.Poll (record { slot = slot; epoch = epoch_of a.phase })) ∷ [] }
takeovers_say slot a (out.Fetch server name own) = takeovers_fetch a.phase a.questions server name own
takeovers_say slot a (out.Active epoch index beliefs applied) = still (record a { phase = managed (slot_started epoch index beliefs applied) })
takeovers_say slot a (out.Lost seg) = record { state = record a { phase = phase.Broken (epoch_of a.phase) seg }; outs = Lose seg ∷ [] }

unfoldable pub say_each : ℕ → Asker → List Out → Done
say_each slot a outs = steps (takeovers_say slot) a outs

-- ---- its inputs

-- a takeover that is under way takes an input; a slot that is not being taken over takes none
unfoldable pub outs_of : SlotPhase → In → Stepped SlotPhase Out
outs_of (phase.Taking taking) given =
    record { state = phase.Taking (record taking { take = (transition taking.take given).state }); outs = (transition taking.take given).outs }
outs_of (phase.Away epoch) given = still (phase.Away epoch)
outs_of (phase.Active active) given = still (phase.Active active)
outs_of (phase.Broken epoch seg) given = still (phase.Broken epoch seg)

-- it takes an input, and what it says is done
unfoldable pub takeovers_take : Asker → ℕ → In → Done
takeovers_take a slot given = say_each slot (record a { phase = (outs_of a.phase given).state }) (outs_of a.phase given).outs

-- newer groups
abbrev pub told_groups : GroupMapState → In
told_groups groups = input.Maps groups

abbrev pub is_poll : Out → Bool
is_poll (out.Poll to) = true
is_poll (out.Fetch server name own) = false
is_poll (out.Active epoch index beliefs applied) = false
is_poll (out.Lost seg) = false

-- the polls alone, or all else
abbrev pub is_wanted : Bool → Out → Bool
is_wanted true said = is_poll said
is_wanted false said = not (is_poll said)

abbrev pub takeovers_keep : Bool → Out → List Out
takeovers_keep polls said = if is_wanted polls said then said ∷ [] else []

-- time passes: its polls are sent again, or what else it asks
unfoldable pub takeovers_ask_again : Asker → ℕ → Bool → Done
takeovers_ask_again a slot polls = say_each slot (record a { phase = (outs_of a.phase input.Tick).state }) (filter (is_wanted polls) (outs_of a.phase input.Tick).outs)

abbrev pub report_input : NodeId → Report → In
report_input from report = input.Report from report.held report.end

-- a client or the cleaner says what it holds, in the epoch of the slot
abbrev pub on_report : Asker → NodeId → Report → Done
on_report a from report = if report.epoch == epoch_of a.phase then takeovers_take a report.slot (report_input from report) else still a

-- ---- a new epoch

-- what a manager has of a slot of which it hears of a new epoch: it takes the slot over where it is given to it
abbrev pub phase_of : ℕ → SlotNews → GroupMapState → ℕ → SlotPhase
phase_of number news groups clients =
    if news.manager == number
    then phase.Taking (record { epoch = news.epoch; take = take_start news groups clients; fetches = record { own = 0; ask = 0 } })
    else phase.Away news.epoch
