-- What the tokens of a client do on each input: one definition for each, named for it.
use Rattle.std.specs.Prelude.{ℕ, ◌+◌, ◌-◌, Bool, false, ◌&&◌, ◌||◌, ◌==◌, nat_lt, nat_le, List, [], ◌∷◌, Option, Some, None, is_some, is_none, if◌then◌else◌, map, length, slice_set}
use Rattle.std.specs.List.{filter, list_any}
use Rattle.std.specs.Map.{keys_of, values_of}
use Rattle.xfs_base.specs.declared.block.BlockId.{BlockId}
use Rattle.xfs_base.specs.declared.entry.Entry.{Entry}
use Rattle.xfs_base.specs.declared.entry.Place.{Place}
use Rattle.xfs_base.specs.declared.token.Mode.{Mode}
use Rattle.xfs_base.specs.declared.token.Mode.TheVariants.{Copy}
use Rattle.xfs_base.specs.declared.token.Stamp.{Stamp}
use Rattle.xfs_base.specs.Blocks.{slot_of}
use Rattle.xfs_base.specs.Steps.{Stepped, still, saying, steps}
use Rattle.xfs_base.specs.Modes.{same_mode, is_own}
use Rattle.xfs_base.specs.Stamps.{is_later}
use Rattle.xfs_base.specs.Limits.{u32_end, slot_count}
use Rattle.token_client.specs.declared.held.Held.{Held}
use Rattle.token_client.specs.declared.held.Wanted.{Wanted}
use Rattle.token_client.specs.declared.input.In.{In}
use Rattle.token_client.specs.declared.input.In.TheVariants.{Need, Granted, Supplied, Forwarded, Recalled, Wrote, Settled, Fetched, Evict, Reask, Quit, Promise, Tick}
use Rattle.token_client.specs.declared.output.Out.{Out}
use Rattle.token_client.specs.declared.output.Out.TheVariants.{Want, Gave, Supply, Flush, Read, Ready}
use Rattle.token_client.specs.Held.{is_dirty, is_asking, must_ask, is_answer, may_write, is_settled_by, may_end_fetch, may_evict, held_ask, asked_again, take_grant, copy_of, end_fetch, held_write, version_settled, let_go, quit, unfetched, drop_promised, put_off, give_up}
use Rattle.token_client.specs.State.{TokensState, held_of, with_held, epoch_of, is_in_slot}

-- a state, and what was given on the way to it
abbrev pub Done : Type 0
Done = Stepped TokensState Out

-- whether a stamp is of the epoch that the block's slot was promised to
abbrev pub is_promised : TokensState → BlockId → Stamp → Bool
is_promised s block stamp = epoch_of s.epochs (slot_of block.ino.0) == stamp.epoch

-- A new want, with the next number. Where there is no next number, nothing happens.
unfoldable pub tokens_ask : TokensState → BlockId → Mode → Done
tokens_ask s block mode =
    if nat_lt s.req u32_end
    then record {
      state = record (with_held s block (held_ask (held_of s.blocks block) (s.req + 1) mode)) { req = s.req + 1 };
      outs = Want block (s.req + 1) 0 mode ∷ [];
    }
    else still s

-- A call needs a block in a mode. It is asked for where the block has neither a want nor a fetch, isn't
-- being given up, and its mode doesn't serve.
unfoldable pub on_need : TokensState → BlockId → Mode → Done
on_need s block mode = if must_ask (held_of s.blocks block) mode then tokens_ask s block mode else still s

-- An answer counts in the promised epoch, in this incarnation, for the open want, and with a stamp above
-- the block's.
abbrev pub accepts : TokensState → BlockId → Stamp → ℕ → ℕ → Mode → Bool
accepts s block stamp inc req mode = is_promised s block stamp && (inc == s.inc) && is_answer (held_of s.blocks block) stamp req mode

-- what is next after a grant: a copy that lies in a log has to be read first
abbrev pub copy_next : BlockId → Option Place → Out
copy_next block None = Ready block
copy_next block (Some place) = Read block place

abbrev pub grant_next : BlockId → Mode → Option Place → Out
grant_next block mode place = if is_own mode then Ready block else copy_next block place

-- A grant ends the want. Own is owned at once, and the waiting call runs on; so it does with a copy of an
-- absent version. A copy with a place is fetched from there.
unfoldable pub on_granted : TokensState → BlockId → Stamp → ℕ → ℕ → Mode → Entry → Done
on_granted s block stamp inc req mode entry =
    if accepts s block stamp inc req mode
    then record { state = with_held s block (take_grant (held_of s.blocks block) stamp mode entry); outs = grant_next block mode entry.place ∷ [] }
    else still s

-- A supply ends a want of a copy, and a fetch; the waiting call runs on.
unfoldable pub on_supplied : TokensState → BlockId → Stamp → ℕ → ℕ → ℕ → Option (List ℕ) → Done
on_supplied s block stamp inc req ver value =
    if accepts s block stamp inc req Copy
    then record { state = with_held s block (copy_of (held_of s.blocks block) stamp ver value); outs = Ready block ∷ [] }
    else still s

-- whether a forward of the promised epoch asks for the very version that is held as a copy
abbrev pub serves : TokensState → BlockId → Stamp → ℕ → Bool
serves s block stamp ver = is_promised s block stamp && same_mode (held_of s.blocks block).mode Copy && ((held_of s.blocks block).ver == ver)

abbrev pub supplies : BlockId → ℕ → Option (Option (List ℕ)) → List Out
supplies block ver None = []
supplies block ver (Some value) = Supply block ver value ∷ []

-- A forward has the block supplied with its own value, and changes nothing.
unfoldable pub on_forwarded : TokensState → BlockId → Stamp → ℕ → Done
on_forwarded s block stamp ver = if serves s block stamp ver then record { state = s; outs = supplies block ver (held_of s.blocks block).value } else still s

-- A call whose fetch is dropped wants its copy again, with a new number.
unfoldable pub refetch : TokensState → BlockId → Done
refetch s block = if is_some (held_of s.blocks block).fetch then tokens_ask (with_held s block (unfetched (held_of s.blocks block))) block Copy else still s

-- A block that isn't dirty is given up at once; of a dirty one the giving is put off, and the log seals.
-- The stamp of a dirty block doesn't rise yet.
unfoldable pub give : TokensState → BlockId → Stamp → Bool → Done
give s block stamp keep =
    if is_dirty (held_of s.blocks block)
    then record { state = with_held s block (put_off (held_of s.blocks block) stamp keep); outs = Flush block ∷ [] }
    else record { state = with_held s block (give_up (held_of s.blocks block) stamp keep); outs = Gave block stamp ∷ [] }

-- whether a fetch could be asked for again
abbrev pub can_refetch : TokensState → BlockId → Bool
can_refetch s block = is_none (held_of s.blocks block).fetch || nat_lt s.req u32_end

-- A recall above the block's stamp drops the fetch, whose call wants again, and has the block given.
unfoldable pub recalled_above : TokensState → BlockId → Stamp → Bool → Done
recalled_above s block stamp keep =
    if can_refetch s block
    then saying (refetch s block).outs (give (refetch s block).state block stamp keep)
    else still s

-- whether a recall was answered before, and nothing is being given
abbrev pub was_answered : Held → Stamp → Bool
was_answered h stamp = ((h.stamp.epoch == stamp.epoch) && (h.stamp.turn == stamp.turn)) && is_none h.giving

-- A recall that was answered is answered again. An older one is dropped.
unfoldable pub recalled_again : TokensState → BlockId → Stamp → Done
recalled_again s block stamp = if was_answered (held_of s.blocks block) stamp then record { state = s; outs = Gave block stamp ∷ [] } else still s

-- a recall of the promised epoch, by where its stamp stands to the block's
unfoldable pub recalled : TokensState → BlockId → Stamp → Bool → Done
recalled s block stamp keep = if is_later stamp (held_of s.blocks block).stamp then recalled_above s block stamp keep else recalled_again s block stamp

-- A recall counts in the promised epoch alone.
unfoldable pub on_recalled : TokensState → BlockId → Stamp → Bool → Done
on_recalled s block stamp keep = if is_promised s block stamp then recalled s block stamp keep else still s

-- A write makes the next version of a block that is owned and isn't being given up.
unfoldable pub on_wrote : TokensState → BlockId → Option (List ℕ) → Done
on_wrote s block value = if may_write (held_of s.blocks block) then still (with_held s block (held_write (held_of s.blocks block) value)) else still s

-- A version of the block is settled. A put-off recall is taken again by the node, after the cache had
-- its turn.
unfoldable pub on_settled : TokensState → BlockId → ℕ → Done
on_settled s block ver =
    if is_settled_by (held_of s.blocks block) ver then still (with_held s block (version_settled (held_of s.blocks block) ver)) else still s

-- What was read ends the fetch; the block is a copy of the version that was granted, and the waiting call
-- runs on.
unfoldable pub on_fetched : TokensState → BlockId → Option (List ℕ) → Done
on_fetched s block value =
    if may_end_fetch (held_of s.blocks block)
    then record { state = with_held s block (end_fetch (held_of s.blocks block) (held_of s.blocks block).fetch value); outs = Ready block ∷ [] }
    else still s

-- A clean block leaves the cache; so does one whose granted Own isn't used.
unfoldable pub on_evict : TokensState → BlockId → Done
on_evict s block = if may_evict (held_of s.blocks block) then still (with_held s block (let_go (held_of s.blocks block))) else still s

-- The place of a block that is being fetched is asked for again. The fetch stays.
unfoldable pub on_reask : TokensState → BlockId → Done
on_reask s block = if is_some (held_of s.blocks block).fetch then tokens_ask s block Copy else still s

-- The want and the fetch of a block whose call answers that it is lost are over.
unfoldable pub on_quit : TokensState → BlockId → Done
on_quit s block = if is_asking (held_of s.blocks block) then still (with_held s block (quit (held_of s.blocks block))) else still s

-- the blocks of a slot that are being fetched
abbrev pub fetched_blocks : ℕ → List (BlockId × Held) → List BlockId
fetched_blocks slot blocks = keys_of (filter (λ e. is_in_slot slot e.0 && is_some e.1.fetch) blocks)

-- fetch and giving of the slot's blocks are dropped
abbrev pub drop_in : ℕ → BlockId → Held → Held
drop_in slot block h = if is_in_slot slot block then drop_promised h else h

abbrev pub drop_all_in : ℕ → List (BlockId × Held) → List (BlockId × Held)
drop_all_in slot blocks = map (λ e. (e.0, drop_in slot e.0 e.1)) blocks

-- the slot is promised to this epoch
abbrev pub raised : TokensState → ℕ → ℕ → TokensState
raised s slot epoch = record s { epochs = slice_set s.epochs slot epoch; blocks = drop_all_in slot s.blocks }

-- A call that waits wants its copy again.
abbrev pub ask_copy : TokensState → BlockId → Done
ask_copy s block = tokens_ask s block Copy

-- whether an epoch is at least the promised one, and there are numbers for all wants that it makes new
abbrev pub may_promise : TokensState → ℕ → ℕ → Bool
may_promise s slot epoch = (nat_lt slot slot_count && nat_le (epoch_of s.epochs slot) epoch) && nat_le (length (fetched_blocks slot s.blocks)) (u32_end - s.req)

-- A promise drops fetch and giving of the slot's blocks; calls whose fetch was dropped want again.
unfoldable pub on_promise : TokensState → ℕ → ℕ → Done
on_promise s slot epoch = if may_promise s slot epoch then steps ask_copy (raised s slot epoch) (fetched_blocks slot s.blocks) else still s

-- the blocks that have a want
abbrev pub wanted_blocks : List (BlockId × Held) → List BlockId
wanted_blocks blocks = keys_of (filter (λ e. is_some e.1.want) blocks)

-- whether a want can't be counted once more
abbrev pub is_spent : Option Wanted → Bool
is_spent None = false
is_spent (Some w) = w.again == u32_end

abbrev pub repeated : TokensState → BlockId → Option Wanted → Done
repeated s block None = still s
repeated s block (Some w) = record { state = with_held s block (asked_again (held_of s.blocks block) w); outs = Want block w.req (w.again + 1) w.mode ∷ [] }

-- A want is sent once more.
unfoldable pub ask_again : TokensState → BlockId → Done
ask_again s block = if is_spent (held_of s.blocks block).want then still s else repeated s block (held_of s.blocks block).want

-- Each want is sent once more, in the order of blocks. Where one can't be counted once more, none is.
unfoldable pub on_tick : TokensState → Done
on_tick s = if list_any (λ h. is_spent h.want) (values_of s.blocks) then still s else steps ask_again s (wanted_blocks s.blocks)

-- what the tokens do on an input
abbrev pub transition : TokensState → In → Done
transition s (Need block mode) = on_need s block mode
transition s (Granted block stamp inc req mode entry) = on_granted s block stamp inc req mode entry
transition s (Supplied block stamp inc req ver value) = on_supplied s block stamp inc req ver value
transition s (Forwarded block stamp ver) = on_forwarded s block stamp ver
transition s (Recalled block stamp keep) = on_recalled s block stamp keep
transition s (Wrote block value) = on_wrote s block value
transition s (Settled block ver) = on_settled s block ver
transition s (Fetched block value) = on_fetched s block value
transition s (Evict block) = on_evict s block
transition s (Reask block) = on_reask s block
transition s (Quit block) = on_quit s block
transition s (Promise slot epoch) = on_promise s slot epoch
transition s Tick = on_tick s
