-- What the writer of checkpoints does on each input (the 1996 paper, "Recovery and Reconfiguration").
use Rattle.std.specs.Prelude.{ℕ, ◌+◌, Bool, ◌==◌, ◌||◌, not, nat_lt, [], ◌∷◌, ◌++◌, Option, Some, None, is_some, length, take, drop, if◌then◌else◌}
use Rattle.xfs_base.specs.Steps.{Stepped, still}
use Rattle.xfs_base.specs.declared.segment.End.{End}
use Rattle.xfs_base.specs.declared.segment.LogId.{LogId}
use Rattle.xfs_base.specs.declared.segment.SegRef.{SegRef}
use Rattle.xfs_base.specs.Limits.{u32_end}
use Rattle.checkpoint.specs.declared.input.In.{In}
use Rattle.checkpoint.specs.declared.input.In.TheVariants.{Begin, Settled, Ack}
use Rattle.checkpoint.specs.declared.output.Out.{Out}
use Rattle.checkpoint.specs.declared.output.Out.TheVariants.{Parts, Done, Kept, Stale}
use Rattle.checkpoint.specs.WriterState.{WorkState, WriterState, items_of}

-- nothing was done yet
abbrev pub writer_start : LogId → WriterState
writer_start log = record { log = log; number = 0; work = None; asked = None }

-- the segment of a log at its end
abbrev pub part_at : LogId → End → SegRef
part_at log end = record { name = record { log = log; seq = end.seq; pass = end.pass }; group = end.group }

-- all pages are written: the checkpoint is done, and its answer is awaited
abbrev pub writer_finish : WriterState → WorkState → Stepped WriterState Out
writer_finish s w = record {
  state = record s { work = None; asked = Some w.epoch };
  outs = Done w.slot w.epoch w.parts w.horizon ∷ [];
}

-- the next pages are given out for a segment, at most 24
abbrev pub gives : WriterState → WorkState → Stepped WriterState Out
gives s w = record {
  state = record s { work = Some (record w { left = drop 24 w.left }) };
  outs = Parts (items_of w.slot (take 24 w.left)) ∷ [];
}

abbrev pub go_on : WriterState → WorkState → Stepped WriterState Out
go_on s w = if length w.left == 0 then writer_finish s w else gives s w

-- a checkpoint is begun where none is in hand
abbrev pub is_idle : WriterState → Bool
is_idle s = not (is_some s.work || (is_some s.asked || (s.number == u32_end)))

abbrev pub on_begin : WriterState → WorkState → Stepped WriterState Out
on_begin s w = if is_idle s then go_on (record s { number = s.number + 1 }) w else still s

-- the segment that was given out last is settled: it will be named
abbrev pub settled : WriterState → Option WorkState → End → Stepped WriterState Out
settled s None end = still s
settled s (Some w) end = go_on s (record w { parts = w.parts ++ part_at s.log end ∷ [] })

abbrev pub on_settled : WriterState → End → Stepped WriterState Out
on_settled s end = settled s s.work end

-- what the registry's answer to a checkpoint of this epoch says
abbrev pub answer : ℕ → ℕ → Out
answer own epoch = if epoch == own then Kept else Stale epoch

-- only the answer to the checkpoint that was done last counts, by its number
abbrev pub acked : WriterState → Option ℕ → ℕ → ℕ → Stepped WriterState Out
acked s None epoch number = still s
acked s (Some own) epoch number =
    if not (number == s.number) || nat_lt epoch own then still s
    else record { state = record s { asked = None }; outs = answer own epoch ∷ [] }

abbrev pub on_ack : WriterState → ℕ → ℕ → Stepped WriterState Out
on_ack s epoch number = acked s s.asked epoch number

-- what the writer does on an input
abbrev pub transition : WriterState → In → Stepped WriterState Out
transition s (Begin slot epoch pages parts horizon) = on_begin s (record { slot = slot; epoch = epoch; left = pages; parts = parts; horizon = horizon })
transition s (Settled end) = on_settled s end
transition s (Ack epoch number) = on_ack s epoch number
