-- What a client asks for: at most one block, for its open call.
use Rattle.std.specs.Prelude.{◌≡◌, true, Option, Some, None}
use Rattle.client_call.specs.declared.call.Call.{Call}
use Rattle.client_serving.specs.declared.serving.Serving.{Serving}
use Rattle.client_serving.specs.Flights.{held_at}
use Rattle.file_plan.specs.declared.block_call.BlockCall.{BlockCall}
use Rattle.file_plan.specs.declared.block_call.BlockCall.TheVariants.{Get, Put, PutAt, Sync}
use Rattle.token_client.specs.declared.held.Fetch.{Fetch}
use Rattle.token_client.specs.declared.held.Wanted.{Wanted}
use Rattle.token_client.specs.Held.{is_asking}
use Rattle.xfs_base.specs.declared.block.BlockId.{BlockId}
use Rattle.xfs_base.specs.declared.token.Mode.TheVariants.{Copy, Own}
use Rattle.node_slots.specs.client_law.Events.{HoldsAfterAnyEvents}

abbrev pub Reads : BlockCall → BlockId → Type 0
Reads (Get read) block = read ≡ block
Reads _ block = ⊥

abbrev pub Writes : BlockCall → BlockId → Type 0
Writes (Get read) block = ⊥
Writes (Put written value) block = written ≡ block
Writes (PutAt written ver value) block = written ≡ block
Writes Sync block = ⊥

-- the open call is at a call on blocks that is so
abbrev pub IsOpenAt : (BlockCall → Type 0) → Option Call → Type 0
IsOpenAt Is None = ⊥
IsOpenAt Is (Some call) = Is call.step

pub record AsksForOneBlock (s : Serving) : Type 0 where
  -- two blocks that ask, by a want or a fetch, are one
  pub one : (block other : BlockId) → is_asking (held_at s block) ≡ true → is_asking (held_at s other) ≡ true → block ≡ other
  -- what is wanted to be written is the block that the open call writes
  pub own : (block : BlockId) (w : Wanted) → (held_at s block).want ≡ Some w → w.mode ≡ Own → IsOpenAt (λ step. Writes step block) s.call
  -- what is wanted to be read, or is read, is the block that the open call reads
  pub copy : (block : BlockId) (w : Wanted) → (held_at s block).want ≡ Some w → w.mode ≡ Copy → IsOpenAt (λ step. Reads step block) s.call
  pub fetch : (block : BlockId) (f : Fetch) → (held_at s block).fetch ≡ Some f → IsOpenAt (λ step. Reads step block) s.call

abbrev pub AsksForOneBlockAlways : Type 0
AsksForOneBlockAlways = HoldsAfterAnyEvents AsksForOneBlock
