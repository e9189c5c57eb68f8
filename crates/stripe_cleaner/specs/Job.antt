-- The emptying of the chosen segments, one after the other.
use Rattle.std.specs.Prelude.{ℕ, ◌+◌, Bool, List, [], ◌∷◌, Option, Some, None, ◌&&◌, not, min, map, length, ◌==◌, if◌then◌else◌}
use Rattle.group_map.specs.declared.group.Group.{Group}
use Rattle.group_map.specs.GroupMapState.{GroupMapState}
use Rattle.group_map.specs.Groups.{group_of}
use Rattle.segment_format.specs.declared.segment.Segment.{Segment}
use Rattle.xfs_base.specs.declared.segment.SegName.{SegName}
use Rattle.xfs_base.specs.declared.segment.SegRef.{SegRef}
use Rattle.xfs_base.specs.Limits.{u32_end}
use Rattle.xfs_base.specs.Steps.{Stepped, still}
use Rattle.stripe_cleaner.specs.declared.checks.Check.{Check}
use Rattle.stripe_cleaner.specs.declared.phase.Phase.{Phase}
use Rattle.stripe_cleaner.specs.declared.phase.Phase.TheVariants.{Reading, Checking, Deleting, Over}
use Rattle.stripe_cleaner.specs.declared.output.Out.{Out}
use Rattle.stripe_cleaner.specs.declared.output.Out.TheVariants as out
use Rattle.stripe_cleaner.specs.Checks.{checks_of, all_dead, any_asked, any_live, moved_at, moves, questions}
use Rattle.stripe_cleaner.specs.JobState.{JobState}
use Rattle.stripe_cleaner.specs.Listing.{is_among, without}
pub use Rattle.xfs_base.specs.Segments.{same_name}

-- a phase, and what was given on the way to it
abbrev pub Turn : Type 0
Turn = Stepped Phase Out

abbrev pub next_of : List SegRef → JobState → Turn
next_of [] job = record { state = Over; outs = out.Finished job.deleted ∷ [] }
next_of (segment ∷ left) job = record { state = Reading (record job { left = left }) segment; outs = out.Fetch segment ∷ [] }

-- the next segment is read; where none is left, the job is over
abbrev pub next : JobState → Turn
next job = next_of job.left job

-- ---- deleting

abbrev pub servers_in : Option Group → List ℕ
servers_in None = []
servers_in (Some g) = map (λ m. m.server) g.members

-- the servers of the segment's members, in order
abbrev pub servers_of : GroupMapState → SegRef → List ℕ
servers_of groups segment = servers_in (group_of groups segment.group)

abbrev pub deletes : SegName → List ℕ → List Out
deletes name servers = map (λ server. out.Delete server name) servers

-- each of its members' servers is to delete the segment
abbrev pub job_delete : JobState → SegRef → Turn
job_delete job segment = record { state = Deleting job segment (servers_of job.groups segment); outs = deletes segment.name (servers_of job.groups segment) }

-- one more was deleted; the count does not pass its type's end
abbrev pub counted : JobState → JobState
counted job = record job { deleted = min (job.deleted + 1) u32_end }

abbrev pub job_go_on : JobState → SegRef → List ℕ → Turn
job_go_on job segment servers = if length servers == 0 then next (counted job) else still (Deleting job segment servers)

-- a server has deleted it; where all have, it is counted, and the next is read
abbrev pub on_deleted : ℕ → SegName → JobState → SegRef → List ℕ → Turn
on_deleted server name job segment servers =
    if same_name name segment.name && is_among servers server then job_go_on job segment (without servers server)
    else still (Deleting job segment servers)

-- ---- checking

-- Each Block of the segment is asked for; one without any is deleted.
unfoldable pub job_check : JobState → SegRef → List Check → Turn
job_check job segment checks = if all_dead checks then job_delete job segment else record { state = Checking job segment checks; outs = questions segment checks }

-- the segment is read; one that is lost is passed over
abbrev pub on_read : Option Segment → JobState → SegRef → Turn
on_read None job segment = next job
on_read (Some read) job segment = if same_name read.name segment.name then job_check job segment (checks_of 0 read.items) else still (Reading job segment)

-- Once the last that was asked for is answered, what is live is moved. A segment of which each block is dead is deleted.
unfoldable pub job_look : JobState → SegRef → Bool → List Check → Turn
job_look job segment was_asked checks =
    if all_dead checks then job_delete job segment
    else if was_asked && not (any_asked checks) then record { state = Checking job segment checks; outs = out.Move (moves checks) ∷ [] }
    else still (Checking job segment checks)

-- an answer of a block
abbrev pub on_answer : (Check → Check) → JobState → SegRef → List Check → Turn
on_answer answer job segment checks = job_look job segment (any_asked checks) (map answer checks)

-- whether a move is awaited: none is asked for, and something is live
abbrev pub is_moving : List Check → Bool
is_moving checks = not (any_asked checks) && any_live checks

-- what was live is moved, and is asked for again at its old place
abbrev pub on_moved : JobState → SegRef → List Check → Turn
on_moved job segment checks =
    if is_moving checks then record { state = Checking job segment (map moved_at checks); outs = questions segment (map moved_at checks) }
    else still (Checking job segment checks)
