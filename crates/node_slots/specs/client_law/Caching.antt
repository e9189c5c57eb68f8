-- What a client caches.
use Rattle.std.specs.Prelude.{◌≡◌, ◌<◌, ◌++◌, ℕ, true, false, List, Some, fold}
use Rattle.std.specs.List.{AllByRecursion}
use Rattle.client_log.specs.declared.output.Out as log_out
use Rattle.client_call.specs.declared.call.Going.{Going}
use Rattle.client_serving.specs.declared.lasting.Lasting.{Lasting}
use Rattle.client_serving.specs.declared.serving.Serving.{Serving}
use Rattle.client_serving.specs.Flights.{held_at, keep_row, notes_settled, write_one}
use Rattle.client_serving.specs.Follow.{note_clean}
use Rattle.client_serving.specs.Packets.{serving_take, on_tick}
use Rattle.client_running.specs.Running.{running_go_on, run_upto}
use Rattle.coop_cache.specs.declared.output.Out.{Out}
use Rattle.coop_cache.specs.declared.output.Out.TheVariants.{Victim}
use Rattle.coop_cache.specs.Transition.{cache_clean, is_clean}
use Rattle.token_client.specs.declared.held.Held.{Held}
use Rattle.token_client.specs.Held.{may_evict}
use Rattle.token_client.specs.State.{with_held}
use Rattle.xfs_base.specs.declared.block.BlockId.{BlockId}
use Rattle.xfs_base.specs.declared.entry.Entry.{Entry}
use Rattle.xfs_base.specs.declared.token.Mode.TheVariants.{Own}
use Rattle.xfs_base.specs.Steps.{steps}
use Rattle.node_slots.specs.client_law.Blocks.{Once}
use Rattle.node_slots.specs.client_law.Events.{HoldsAfterAnyEvents}
use Rattle.node_slots.specs.node_tie.Asks.{needed}
use Rattle.wire_msg.specs.declared.packet.Packet.{Packet}

-- what leaves the cache is held and clean
abbrev pub IsCleanVictim : Serving → Out → Type 0
IsCleanVictim s (Victim block) = may_evict (held_at s block) ≡ true

pub record CachesWhatIsClean (s : Serving) : Type 0 where
  -- the order of the cache has a block just where it is held and clean
  pub exact : (block : BlockId) → is_clean s.cache block ≡ may_evict (held_at s block)
  -- and none twice
  pub once : Once s.cache.blocks
  -- whatever would leave it for one more block that is held and clean is held and clean
  pub victims : (block : BlockId) → may_evict (held_at s block) ≡ true → AllByRecursion (IsCleanVictim s) (cache_clean s.cache block).outs

-- Between events the cache of a client has just the blocks that it holds and that are clean; so what would leave it for one more such block
-- is held and clean.
abbrev pub CachesJustWhatIsClean : Type 0
CachesJustWhatIsClean = HoldsAfterAnyEvents CachesWhatIsClean

-- ---- within an event

-- the cache has only blocks that are held and clean, each once; some that are may not be in it yet
pub record CachesOnlyClean (s : Serving) : Type 0 where
  pub cached : (block : BlockId) → is_clean s.cache block ≡ true → may_evict (held_at s block) ≡ true
  pub once : Once s.cache.blocks

-- Wherever that is so, what leaves the cache for one more block that is held and clean is held and clean; and once it is let go it is so again.
abbrev pub EvictsOnlyClean : Type 0
EvictsOnlyClean =
    (s : Serving) (block : BlockId) → CachesOnlyClean s → may_evict (held_at s block) ≡ true
    → AllByRecursion (IsCleanVictim s) (cache_clean s.cache block).outs × CachesOnlyClean (note_clean s block)

-- A block goes into the cache where a copy of it came, and where a segment was settled in which it was written. So it is where a copy came: what is
-- known of the block is put, and then the block is noted.
abbrev pub CopiesOnlyClean : Type 0
CopiesOnlyClean =
    (s : Serving) (block : BlockId) (copy : Held) → CachesWhatIsClean s → may_evict copy ≡ true
    → CachesOnlyClean (record s { tokens = with_held s.tokens block copy })

-- And so it is where a segment was settled, of whose blocks one after the other is noted: before each of them, and after the last.
abbrev pub SettlesOnlyClean : Type 0
SettlesOnlyClean =
    (s : Serving) (noted rest : List (BlockId × Entry)) → CachesWhatIsClean s
    → CachesOnlyClean (fold keep_row (fold notes_settled s (noted ++ rest)) noted)

-- ---- from part to part of an event

-- The cache has only blocks that are held and clean; one that it lacks is what the open call was just granted to write.
pub record CachesAllButGranted (s : Serving) : Type 0 where
  pub only : CachesOnlyClean s
  pub lacks : (block : BlockId) → may_evict (held_at s block) ≡ true → is_clean s.cache block ≡ false → needed s.call ≡ Some (block, Own)

-- An event is a packet, time or the begin of a call, and then the open call makes its calls on blocks, one after the other. Whichever comes to
-- this client, between any two of these parts its cache is as it is between events.
pub record CachesThroughAnEvent (s : Serving) : Type 0 where
  -- a packet is taken
  pub packet : (packet : Packet) → CachesAllButGranted (serving_take s packet).state
  -- and so many calls on blocks are made
  pub packet_runs : (packet : Packet) (calls : ℕ) → 0 < calls → CachesWhatIsClean (run_upto calls (serving_take s packet).state).state
  -- time passes, and so many are made
  pub tick_runs : (calls : ℕ) → CachesWhatIsClean (run_upto calls (on_tick s).state).state
  -- a call begins, and so many are made
  pub call_runs : (lasting : Lasting) (going : Going) (calls : ℕ)
      → CachesWhatIsClean (run_upto calls (running_go_on (record s { lasting = lasting }) going).state).state
  -- its log says such things, one after the other, and so many are done
  pub log_says : (outs : List log_out.Out) → CachesWhatIsClean (steps write_one s outs).state

-- So it is after any events, whatever the next one is.
abbrev pub CachesThroughAnyEvent : Type 0
CachesThroughAnyEvent = HoldsAfterAnyEvents CachesThroughAnEvent
