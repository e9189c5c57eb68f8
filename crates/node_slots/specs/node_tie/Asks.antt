-- What a client asks for: at most one block, for the open call.
use Rattle.std.specs.Prelude.{◌≡◌, Option, Some, None, false}
use Rattle.client_call.specs.declared.call.Call.{Call}
use Rattle.client_serving.specs.declared.serving.Serving.{Serving}
use Rattle.client_serving.specs.Flights.{held_at}
use Rattle.file_plan.specs.declared.block_call.BlockCall.{BlockCall}
use Rattle.file_plan.specs.declared.block_call.BlockCall.TheVariants.{Get, Put, PutAt, Sync}
use Rattle.token_client.specs.Laws.{IsSound}
use Rattle.token_client.specs.declared.held.Fetch.{Fetch}
use Rattle.token_client.specs.declared.held.Wanted.{Wanted}
use Rattle.xfs_base.specs.declared.block.BlockId.{BlockId}
use Rattle.xfs_base.specs.declared.token.Mode.{Mode}
use Rattle.xfs_base.specs.declared.token.Mode.TheVariants.{Copy, Own}
use Rattle.xfs_base.specs.Modes.{allows}

-- the block that a call on blocks needs, and the mode
abbrev pub needed_by : BlockCall → Option (BlockId × Mode)
needed_by (Get block) = Some (block, Copy)
needed_by (Put block value) = Some (block, Own)
needed_by (PutAt block ver value) = Some (block, Own)
needed_by Sync = None

abbrev pub needed : Option Call → Option (BlockId × Mode)
needed None = None
needed (Some call) = needed_by call.step

pub record AsksForCall (s : Serving) : Type 0 where
  -- the tokens are sound
  pub sound : IsSound s.tokens
  -- an open want is of the block that the open call needs, in the mode that it needs
  pub wanted : (block : BlockId) (w : Wanted) → (held_at s block).want ≡ Some w → needed s.call ≡ Some (block, w.mode)
  -- it is above the mode that is held
  pub above : (block : BlockId) (w : Wanted) → (held_at s block).want ≡ Some w → allows (held_at s block).mode w.mode ≡ false
  -- a fetch is of the block that the open call reads
  pub fetched : (block : BlockId) (f : Fetch) → (held_at s block).fetch ≡ Some f → needed s.call ≡ Some (block, Copy)
  -- where no item waits for its answer, no call is open
  pub waits : s.lasting.items.unanswered ≡ None → s.call ≡ None
