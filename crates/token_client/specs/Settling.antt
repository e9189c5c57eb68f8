-- What is settled of blocks, and whether some of them are still to be given up.
use Rattle.std.specs.Prelude.{Bool, is_some}
use Rattle.std.specs.List.{list_any}
use Rattle.xfs_base.specs.declared.block.BlockId.{BlockId}
use Rattle.xfs_base.specs.declared.entry.Entry.{Entry}
use Rattle.token_client.specs.State.{TokensState, held_of, dirty_in}
use Rattle.token_client.specs.Transition.{on_settled}

abbrev pub is_to_give : TokensState → BlockId → Bool
is_to_give t block = is_some (held_of t.blocks block).giving

-- some block is to be given up
abbrev pub is_giving : TokensState → Bool
is_giving t = list_any (is_to_give t) (dirty_in t.blocks)

-- the tokens hear that the version of a row is settled
unfoldable pub note_row : TokensState → BlockId × Entry → TokensState
note_row tokens row = (on_settled tokens row.0 row.1.ver).state
