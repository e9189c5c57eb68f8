-- The wants that wait, their recalls, and what is applied of each log.
use Rattle.std.specs.Prelude.{ℕ, ◌+◌, ◌-◌, Bool, false, not, ◌&&◌, ◌==◌, nat_le, List, [], ◌∷◌, slice_index, slice_set, Option, Some, None, if◌then◌else◌, is_some}
use Rattle.std.specs.List.{list_all}
use Rattle.std.specs.Map.{lookup, remove_entry}
use Rattle.std.specs.BTreeMap.{is_at}
use Rattle.xfs_base.specs.Blocks.{block_cmp}
use Rattle.xfs_base.specs.declared.block.BlockId.{BlockId}
use Rattle.xfs_base.specs.declared.segment.LogId.{LogId}
use Rattle.xfs_base.specs.declared.token.Stamp.{Stamp}
use Rattle.xfs_base.specs.Limits.{block_logs}
use Rattle.slot_beliefs.specs.declared.job.Job.{Job}
use Rattle.slot_beliefs.specs.declared.job.Awaited.{Awaited}

abbrev pub job_at : List (BlockId × Job) → BlockId → Option Job
job_at jobs block = lookup (is_at (block_cmp block)) jobs

abbrev pub without_job : List (BlockId × Job) → BlockId → List (BlockId × Job)
without_job jobs block = remove_entry (is_at (block_cmp block)) jobs

abbrev pub stamp : ℕ → ℕ → Stamp
stamp epoch turn = record { epoch = epoch; turn = turn }

-- a recall to each of these clients, each with a turn of its own
abbrev pub recalls : ℕ → ℕ → Bool → List ℕ → List Awaited
recalls epoch turn keep [] = []
recalls epoch turn keep (c ∷ cs) = record { client = c; stamp = stamp epoch (turn + 1); keep = keep; end = None } ∷ recalls epoch (turn + 1) keep cs

-- whether this is the unanswered recall of a client under a stamp
abbrev pub answers : ℕ → Stamp → Awaited → Bool
answers client stamp a = (a.client == client) && (a.stamp.epoch == stamp.epoch) && (a.stamp.turn == stamp.turn) && not (is_some a.end)

-- the recalls, with the end that an answer named
abbrev pub noted : List Awaited → ℕ → Stamp → ℕ → List Awaited
noted [] client stamp end = []
noted (a ∷ rest) client stamp end = (if answers client stamp a then record a { end = Some end } else a) ∷ noted rest client stamp end

-- what is applied of a log: nothing of a log above 9, and of log 0, which there is not, that of log 1
abbrev pub applied_of : List ℕ → ℕ → ℕ
applied_of applied log = slice_index applied (log - 1)

-- what is applied, with this much of one log
abbrev pub applied_upto : List ℕ → LogId → ℕ → List ℕ
applied_upto applied log upto = slice_set applied (log.0 - 1) upto

-- whether a slot follows a log: those of the clients and of the cleaner
abbrev pub is_followed : LogId → Bool
is_followed log = nat_le 1 log.0 && nat_le log.0 block_logs

-- whether an end was named, and what lies up to it is applied
abbrev pub is_applied : List ℕ → ℕ → Option ℕ → Bool
is_applied applied log None = false
is_applied applied log (Some end) = nat_le end (applied_of applied log)

-- whether all recalls are answered, and what each answer named is applied
abbrev pub is_ready : List ℕ → List Awaited → Bool
is_ready applied awaited = list_all (λ a. is_applied applied a.client a.end) awaited

-- the blocks whose wants need wait no longer, in order
abbrev pub ready_blocks : List (BlockId × Job) → List ℕ → List BlockId
ready_blocks [] applied = []
ready_blocks (e ∷ es) applied = if is_ready applied e.1.awaited then e.0 ∷ ready_blocks es applied else ready_blocks es applied
