-- The log of a client: what is settled.
use Rattle.std.specs.Prelude.{Bool, ◌&&◌, not, if◌then◌else◌, List, [], ◌∷◌, Option, Some, None, fold}
use Rattle.std.specs.List.{list_any}
use Rattle.client_log.specs.declared.input.In.{In}
use Rattle.client_log.specs.declared.input.In.TheVariants.{Acked}
use Rattle.client_log.specs.declared.output.Out.{Out}
use Rattle.client_log.specs.declared.output.Out.TheVariants.{Send, Settled}
use Rattle.client_log.specs.Transition as log
use Rattle.client_serving.specs.declared.serving.Serving.{Serving}
use Rattle.client_serving.specs.Follow.{note_clean, serving_seal, take_back}
use Rattle.client_serving.specs.Lasting.{log_of}
use Rattle.client_serving.specs.Sends.{Done, gives}
use Rattle.delta_feed.specs.Transition as feed
use Rattle.log_owner.specs.Sealing.{is_settling}
use Rattle.log_owner.specs.Sending.{store, name_of, push_all}
use Rattle.node_base.specs.declared.effects.Effect.TheVariants.{Does}
use Rattle.token_client.specs.declared.held.Giving.{Giving}
use Rattle.token_client.specs.declared.held.Held.{Held}
use Rattle.token_client.specs.Held.{is_dirty}
use Rattle.token_client.specs.Settling.{is_giving}
use Rattle.token_client.specs.State.{held_of, dirty_in}
use Rattle.token_client.specs.Transition.{on_settled}
use Rattle.version_model.specs.declared.act.Act.TheVariants.{Filed}
use Rattle.wire_msg.specs.declared.storage.Stored.{Stored}
use Rattle.xfs_base.specs.declared.block.BlockId.{BlockId}
use Rattle.xfs_base.specs.declared.entry.Entry.{Entry}
use Rattle.xfs_base.specs.declared.segment.End.{End}
use Rattle.xfs_base.specs.Modes.{is_held}
use Rattle.xfs_base.specs.Steps.{still, saying, steps}

abbrev pub held_at : Serving → BlockId → Held
held_at s block = held_of s.tokens.blocks block

-- the version of a row is settled
unfoldable pub notes_settled : Serving → BlockId × Entry → Serving
notes_settled s row = record s { tokens = (on_settled s.tokens row.0 row.1.ver).state }

-- where the block of a row is held and clean it goes into the cache
unfoldable pub keep_row : Serving → BlockId × Entry → Serving
keep_row s row = if not (is_dirty (held_at s row.0)) && is_held (held_at s row.0).mode then note_clean s row.0 else s

-- a block that is to be given up and is clean now is given up
abbrev pub gives_up : Serving → BlockId → Option Giving → Done
gives_up s block None = still s
gives_up s block (Some g) = take_back s block g.stamp g.keep

unfoldable pub give_if_clean : Serving → BlockId → Done
give_if_clean s block = if is_dirty (held_at s block) then still s else gives_up s block (held_at s block).giving

-- the feed takes what a segment says of blocks
abbrev pub feeds : Serving → End → List (BlockId × Entry) → Serving
feeds s end rows = record s { feed = feed.settled s.feed end.seq rows }

-- what is known of blocks once these rows are settled
abbrev pub settle_rows : Serving → List (BlockId × Entry) → Serving
settle_rows s rows = fold keep_row (fold notes_settled s rows) rows

-- A segment is settled: it is filed, its versions are settled, clean blocks go into the cache, the feed takes its deltas, which go to all
-- slots, and blocks that are to be given up and are clean now are given up, in their order.
unfoldable pub serving_settle : Serving → End → List (BlockId × Entry) → Done
serving_settle s end rows =
    let fed = feeds (settle_rows s rows) end rows in
    saying (Does (Filed (name_of (log_of s.lasting) end)) ∷ push_all fed.managers fed.feed) (steps give_if_clean fed (dirty_in s.tokens.blocks))

unfoldable pub write_one : Serving → Out → Done
write_one s (Send fragment member) = gives s (store fragment member ∷ [])
write_one s (Settled end rows) = serving_settle s end rows

-- after a segment is settled the log is sealed again where a block is still to be given up
abbrev pub seals_again : Serving → Bool → Done
seals_again s settling = if settling && is_giving s.tokens then serving_seal s else still s

-- the log takes an input, and what it says is done
unfoldable pub serving_write : Serving → In → Done
serving_write s i =
    let r = log.transition s.log i in
    let d = steps write_one (record s { log = r.state }) r.outs in
    saying d.outs (seals_again d.state (list_any is_settling r.outs))

-- Stored: a server holds a fragment of the segment in flight.
abbrev pub on_stored : Serving → Stored → Done
on_stored s m = serving_write s (Acked m.name m.index m.generation)
