-- What a manager does for the clients and the cleaner in a slot: which input its slot is handed at each event,
-- and what is sent of what the slot says.
use Rattle.std.specs.Prelude.{ℕ, List, [], ◌∷◌}
use Rattle.std.specs.List.{flat_map}
use Rattle.wire_msg.specs.declared.body.Body.{Body}
use Rattle.wire_msg.specs.declared.body.Body.TheVariants as body
use Rattle.wire_msg.specs.declared.cleaning.Check.{Check}
use Rattle.wire_msg.specs.declared.cleaning.UsageAsk.{UsageAsk}
use Rattle.wire_msg.specs.declared.deltas.Deltas.{Deltas}
use Rattle.wire_msg.specs.declared.tokens.Gave.{Gave}
use Rattle.wire_msg.specs.declared.tokens.Want.{Want}
use Rattle.xfs_base.specs.declared.node.NodeId.TheVariants.{Client, Cleaner}
use Rattle.xfs_base.specs.declared.segment.LogId.{LogId}
use Rattle.xfs_base.specs.declared.segment.SegName.{SegName}
use Rattle.xfs_base.specs.Blocks.{slot_of}
use Rattle.xfs_base.specs.Logs.{block_writer}
use Rattle.xfs_base.specs.Steps.{Stepped, still}
use Rattle.node_base.specs.declared.effects.Effect.{Effect}
use Rattle.node_base.specs.declared.effects.Effect.TheVariants.{Send}
use Rattle.token_manager.specs.Transition.{transition, want_of}
use Rattle.token_manager.specs.declared.input.In.{In}
use Rattle.token_manager.specs.declared.input.In.TheVariants as input
use Rattle.token_manager.specs.declared.output.Out.{Out}
use Rattle.token_manager.specs.declared.output.Out.TheVariants as out
use Rattle.manager_slots.specs.declared.slot_phase.SlotPhase.{SlotPhase}
use Rattle.manager_slots.specs.declared.slot_phase.SlotPhase.TheVariants as phase
use Rattle.manager_slots.specs.Slots.{with_slot}

-- a slot after an event, and what its manager does
abbrev pub Done : Type 0
Done = Stepped SlotPhase Effect

-- ---- what a slot says

abbrev pub say_grant : Out → List Effect
say_grant (out.Grant client block stamp inc req mode entry) =
    Send (Client client) (body.Grant (record { block = block; stamp = stamp; inc = inc; req = req; mode = mode; entry = entry })) ∷ []
say_grant _ = []

abbrev pub say_forward : Out → List Effect
say_forward (out.Forward client block stamp to inc req ver) =
    Send (Client client) (body.Forward (record { block = block; stamp = stamp; to = to; inc = inc; req = req; ver = ver })) ∷ []
say_forward _ = []

-- a grant, a word to pass a block on, a recall and an acknowledgement are sent; a check is answered where it is asked
unfoldable pub tokens_say : ℕ → ℕ → Out → List Effect
tokens_say slot epoch (out.Grant client block stamp inc req mode entry) = say_grant (out.Grant client block stamp inc req mode entry)
tokens_say slot epoch (out.Forward client block stamp to inc req ver) = say_forward (out.Forward client block stamp to inc req ver)
tokens_say slot epoch (out.Recall client block stamp keep) = Send (Client client) (body.Recall (record { block = block; stamp = stamp; keep = keep })) ∷ []
tokens_say slot epoch (out.Applied log applied) = Send (block_writer log.0) (body.DeltaAck (record { slot = slot; epoch = epoch; applied = applied })) ∷ []
tokens_say slot epoch (out.Live entry) = []
tokens_say slot epoch out.Dead = []

-- a slot that is managed takes an input, and what it says is sent; another takes none
unfoldable pub tokens_take : SlotPhase → ℕ → In → Done
tokens_take (phase.Active active) slot given = record {
  state = with_slot active (transition active.slot given).state;
  outs = flat_map (tokens_say slot active.slot.epoch) (transition active.slot given).outs;
}
tokens_take (phase.Away epoch) slot given = still (phase.Away epoch)
tokens_take (phase.Taking taking) slot given = still (phase.Taking taking)
tokens_take (phase.Broken epoch seg) slot given = still (phase.Broken epoch seg)

-- ---- the clients

abbrev pub want_input : ℕ → Want → In
want_input client want = input.Want (want_of client want.block want.inc want.req want.again want.mode) want.end

-- a segment that the slot's index needs is lost
abbrev pub gone : ℕ → SegName → ℕ → Want → List Effect
gone epoch seg client want = Send (Client client) (body.Gone (record { block = want.block; epoch = epoch; inc = want.inc; req = want.req; seg = seg })) ∷ []

-- a client wants a block: the slot takes the want, and one that is broken refuses it
unfoldable pub on_want : SlotPhase → ℕ → Want → Done
on_want (phase.Broken epoch seg) client want = record { state = phase.Broken epoch seg; outs = gone epoch seg client want }
on_want other client want = tokens_take other (slot_of want.block.ino.0) (want_input client want)

abbrev pub gave_input : ℕ → Gave → In
gave_input client gave = input.Gave client gave.block gave.stamp gave.end

-- a client has given a block up
abbrev pub on_gave : SlotPhase → ℕ → Gave → Done
on_gave p client gave = tokens_take p (slot_of gave.block.ino.0) (gave_input client gave)

abbrev pub deltas_input : LogId → Deltas → In
deltas_input log deltas = input.Deltas log deltas.first deltas.upto deltas.rows

-- a log tells what its segments say of the slot's blocks
abbrev pub on_deltas : SlotPhase → LogId → Deltas → Done
on_deltas p log deltas = tokens_take p deltas.slot (deltas_input log deltas)

-- ---- the cleaner

abbrev pub check_input : Check → In
check_input check = input.Check check.block check.place

-- that the newest version lies at the place, or that it does not
abbrev pub checked : Check → ℕ → Out → Body
checked check epoch (out.Live entry) = body.Live (record { block = check.block; ask = check.ask; epoch = epoch; entry = entry })
checked check epoch (out.Grant client block stamp inc req mode entry) = body.Dead (record { block = check.block; ask = check.ask; epoch = epoch })
checked check epoch (out.Forward client block stamp to inc req ver) = body.Dead (record { block = check.block; ask = check.ask; epoch = epoch })
checked check epoch (out.Recall client block stamp keep) = body.Dead (record { block = check.block; ask = check.ask; epoch = epoch })
checked check epoch (out.Applied log applied) = body.Dead (record { block = check.block; ask = check.ask; epoch = epoch })
checked check epoch out.Dead = body.Dead (record { block = check.block; ask = check.ask; epoch = epoch })

unfoldable pub tokens_answer : Check → ℕ → Out → List Effect
tokens_answer check epoch answer = Send Cleaner (checked check epoch answer) ∷ []

-- the cleaner asks whether a block's newest version lies at a place
unfoldable pub on_check : SlotPhase → Check → Done
on_check (phase.Active active) check = record {
  state = with_slot active (transition active.slot (check_input check)).state;
  outs = flat_map (tokens_answer check active.slot.epoch) (transition active.slot (check_input check)).outs;
}
on_check (phase.Away epoch) check = still (phase.Away epoch)
on_check (phase.Taking taking) check = still (phase.Taking taking)
on_check (phase.Broken epoch seg) check = still (phase.Broken epoch seg)

-- the cleaner asks how many live blocks each segment has: the slot is looked at, and takes nothing
unfoldable pub on_usage_ask : SlotPhase → UsageAsk → List Effect
on_usage_ask (phase.Active active) asked =
    Send Cleaner (body.Usage (record { slot = asked.slot; ask = asked.ask; epoch = active.slot.epoch; counts = active.slot.index.usage })) ∷ []
on_usage_ask (phase.Away epoch) asked = []
on_usage_ask (phase.Taking taking) asked = []
on_usage_ask (phase.Broken epoch seg) asked = []

-- ---- time

-- recalls that aren't answered are sent again
abbrev pub on_tick : SlotPhase → ℕ → Done
on_tick p slot = tokens_take p slot input.Tick
