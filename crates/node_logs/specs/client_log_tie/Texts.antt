-- That what a client's log writes can be spelled: a premise on what it holds and puts, by the limits of the format.
use Rattle.std.specs.Prelude.{◌≡◌, ◌<◌, ◌^◌, ℕ, List, [], length, Option, IfSome}
use Rattle.std.specs.List.{AllByRecursion}
use Rattle.xfs_base.specs.declared.block.BlockId.{BlockId}
use Rattle.xfs_base.specs.declared.entry.Entry.{Entry}
use Rattle.xfs_base.specs.declared.segment.End.{End}
use Rattle.xfs_base.specs.declared.segment.LogId.{LogId}
use Rattle.segment_format.specs.Format.{second_version, IsLength, IsLog}
use Rattle.segment_format.specs.Ranges.{FitsRow}
use Rattle.group_map.specs.GroupMapState.{GroupMapState}
use Rattle.stripe_code.specs.Stripe.{IsBytes}
use Rattle.log_flight.specs.Flights.{group_for}
use Rattle.client_log.specs.declared.input.In.{In as Input}
use Rattle.client_log.specs.declared.input.In.TheVariants.{Put, Parts, Maps}
use Rattle.client_log.specs.History.{state_after}
use Rattle.client_log.specs.LogState.{LogState, log_start}
use Rattle.log_law.specs.Events.{IsWritten}
pub use Rattle.log_law.specs.Openings.{EndFits}

-- ---- the log

-- a version that is put fits the format, and so does its value
pub record PutFits (block : BlockId) (entry : Entry) (value : Option (List ℕ)) : Type 0 where
  pub row : FitsRow (block, entry)
  pub length : IfSome value (λ bytes. IsLength second_version (length bytes))
  pub bytes : IfSome value IsBytes

-- the ids of the groups that a map chooses fit
abbrev pub MapFits : GroupMapState → Type 0
MapFits m = (log seq : ℕ) → (group_for m log seq).id < 2 ^ 32

abbrev pub InputFits : Input → Type 0
InputFits (Put block entry value) = PutFits block entry value
InputFits (Parts items) = items ≡ []
InputFits (Maps m) = MapFits m
InputFits _ = Unit {0}

-- Whatever fits and a log takes from now on, oldest first: what is in flight then has a text.
abbrev pub StaysWritten : LogState → Type 0
StaysWritten s = (later : List Input) → AllByRecursion InputFits later → IfSome (state_after s later).flight (λ f. IsWritten f.segment)

-- ---- what stays written

-- a log that starts behind an end that fits, over groups whose ids fit, stays written
abbrev pub WhatFitsStaysWritten : Type 0
WhatFitsStaysWritten =
    (log : LogId) (inc : ℕ) (end : End) (m : GroupMapState) → IsLog log.0 → inc < 2 ^ 32 → EndFits end → MapFits m → StaysWritten (log_start log inc end m)
