-- What a client that serves sends.
use Rattle.std.specs.Prelude.{ℕ, ◌==◌, if◌then◌else◌, List, [], ◌∷◌, ◌++◌}
use Rattle.client_serving.specs.declared.serving.Serving.{Serving}
use Rattle.delta_feed.specs.FeedState.{FeedState}
use Rattle.log_owner.specs.declared.promised.Managers.{Managers}
use Rattle.log_owner.specs.Promised.{manager_of}
use Rattle.log_owner.specs.Sending.{sending_push}
use Rattle.node_base.specs.declared.effects.Effect.{Effect}
use Rattle.node_base.specs.declared.effects.Effect.TheVariants.{Send}
use Rattle.token_client.specs.State.{held_in}
use Rattle.wire_msg.specs.declared.body.Body.TheVariants as body
use Rattle.xfs_base.specs.Blocks.{slot_of}
use Rattle.xfs_base.specs.declared.block.BlockId.{BlockId}
use Rattle.xfs_base.specs.declared.node.NodeId.{NodeId}
use Rattle.xfs_base.specs.declared.token.Mode.{Mode}
use Rattle.xfs_base.specs.declared.token.Stamp.{Stamp}
use Rattle.xfs_base.specs.Steps.{Stepped}

-- a client that serves, and what was done on the way to it
abbrev pub Done : Type 0
Done = Stepped Serving Effect

abbrev pub gives : Serving → List Effect → Done
gives s effects = record { state = s; outs = effects }

-- the manager of a block
abbrev pub asked_of : Serving → BlockId → NodeId
asked_of s block = manager_of s.managers (slot_of block.ino.0)

-- what the manager of a block has not acknowledged of the log
abbrev pub deltas : Serving → BlockId → List Effect
deltas s block = sending_push s.managers s.feed (slot_of block.ino.0)

abbrev pub want : Serving → BlockId → ℕ → ℕ → Mode → Effect
want s block req again mode =
    Send (asked_of s block) (body.Want (record { block = block; inc = s.lasting.inc; req = req; again = again; mode = mode; end = s.log.end.seq }))

-- What goes before a want of a slot that was sent again so often. A want names the end of the client's log: before one that was never sent
-- goes all of that log that the slot's manager has not acknowledged, and before one that is sent again nothing.
abbrev pub push_first : Managers → FeedState → ℕ → ℕ → List Effect
push_first managers feed slot again = if again == 0 then sending_push managers feed slot else []

-- what goes before a want of a client
abbrev pub before_want : Serving → BlockId → ℕ → List Effect
before_want s block again = push_first s.managers s.feed (slot_of block.ino.0) again

-- a want, and what goes before it
abbrev pub wants : Serving → BlockId → ℕ → ℕ → Mode → List Effect
wants s block req again mode = before_want s block again ++ want s block req again mode ∷ []

-- a block was given up
abbrev pub gave : Serving → BlockId → Stamp → Effect
gave s block stamp = Send (asked_of s block) (body.Gave (record { block = block; stamp = stamp; end = s.log.end.seq }))

-- the same, the first time: before it go the deltas
abbrev pub gaves : Serving → BlockId → Stamp → List Effect
gaves s block stamp = deltas s block ++ gave s block stamp ∷ []

-- what is held of a slot
abbrev pub report : Serving → ℕ → ℕ → Effect
report s slot epoch =
    Send (manager_of s.managers slot) (body.Report (record { slot = slot; epoch = epoch; held = held_in slot s.tokens.blocks; end = s.log.end }))
