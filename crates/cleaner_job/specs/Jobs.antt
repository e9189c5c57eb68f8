-- A job of the cleaner, with the questions of the node under which its questions are out, and the segment that it has in hand.
use Rattle.std.specs.Prelude.{ℕ, Bool, true, false, ◌==◌, not, if◌then◌else◌, List, [], ◌∷◌, Option, Some, None}
use Rattle.group_map.specs.GroupMapState.{GroupMapState}
use Rattle.node_base.specs.Asking.{next_ask, draw}
use Rattle.node_base.specs.declared.effects.Effect.{Effect}
use Rattle.node_base.specs.declared.effects.Effect.TheVariants.{Does}
use Rattle.node_base.specs.declared.questions.Questions.{Questions}
use Rattle.stripe_cleaner.specs.CleaningState.{cleaning_start}
use Rattle.stripe_code.specs.declared.round.Told.{Told}
use Rattle.version_model.specs.declared.act.Act.TheVariants.{Dropped}
use Rattle.xfs_base.specs.declared.block.BlockId.{BlockId}
use Rattle.xfs_base.specs.declared.segment.SegName.{SegName}
use Rattle.cleaner_job.specs.declared.hand.Hand.{Hand}
use Rattle.cleaner_job.specs.declared.job.Job.{Job}
use Rattle.cleaner_job.specs.Hands.{Heard, Checking, unheard, hand_hear, hand_confirmed, asked_of, hand_check}

-- a job that has asked nothing
abbrev pub job_start : ℕ → Job
job_start count = record { cleaning = cleaning_start count; hello = None; lists = None; usages = None; hand = None }

-- ---- what it asks

abbrev pub hello_of : Option Job → Option ℕ
hello_of None = None
hello_of (Some job) = job.hello

abbrev pub lists_of : Option Job → Option ℕ
lists_of None = None
lists_of (Some job) = job.lists

abbrev pub usages_of : Option Job → Option ℕ
usages_of None = None
usages_of (Some job) = job.usages

-- the question that is out, or a new one
abbrev pub ask_of : Option ℕ → Questions → ℕ
ask_of None q = next_ask q
ask_of (Some ask) q = ask

abbrev pub drawn_unless : Option ℕ → Questions → Questions
drawn_unless None q = draw q
drawn_unless (Some ask) q = q

abbrev pub note_greeted : Option Job → Option Job
note_greeted None = None
note_greeted (Some job) = Some (record job { hello = None })

-- whether a question is the one that is out
abbrev pub is_out : Option ℕ → ℕ → Bool
is_out None ask = false
is_out (Some awaited) ask = awaited == ask

-- ---- the segment in hand

abbrev pub hand_of : Option Job → Option Hand
hand_of None = None
hand_of (Some job) = job.hand

-- what a check leaves of a job and of the questions of the node, and its question, where a segment is in hand
pub record JobChecking : Type 0 where
  pub job : Job
  pub questions : Questions
  pub ask : Option ℕ

abbrev pub job_checked : Job → Checking → JobChecking
job_checked job c = record { job = record job { hand = Some c.hand }; questions = c.questions; ask = Some c.ask }

abbrev pub hand_checks_in : Job → Questions → Option Hand → BlockId → JobChecking
hand_checks_in job q None block = record { job = job; questions = q; ask = None }
hand_checks_in job q (Some hand) block = job_checked job (hand_check hand q block)

-- a block of the segment in hand is checked
unfoldable pub job_check : Job → Questions → BlockId → JobChecking
job_check job q block = hand_checks_in job q job.hand block

abbrev pub check_of : Option Hand → BlockId → Option ℕ
check_of None block = None
check_of (Some hand) block = asked_of hand.checks block

abbrev pub hand_moved : Option Hand → Option Hand
hand_moved None = None
hand_moved (Some hand) = Some (record hand { moved = true })

abbrev pub note_moved : Option Job → Option Job
note_moved None = None
note_moved (Some job) = Some (record job { hand = hand_moved job.hand })

-- a segment is in hand that is not dropped yet
abbrev pub is_whole : Option Hand → Bool
is_whole None = false
is_whole (Some hand) = not hand.dropped

-- the segment in hand is dropped with the first word to delete it
abbrev pub act_dropped : Bool → SegName → List Effect
act_dropped is_first name = if is_first then Does (Dropped name) ∷ [] else []

abbrev pub dropped : Option Hand → Option Hand
dropped None = None
dropped (Some hand) = Some (record hand { dropped = true })

-- ---- the reading of the segment in hand

abbrev pub read_over : Option Hand → Option Hand
read_over None = None
read_over (Some hand) = Some (record hand { reading = None })

abbrev pub note_read : Option Job → Option Job
note_read None = None
note_read (Some job) = Some (record job { hand = read_over job.hand })

abbrev pub job_with : Job → Heard Hand → Heard Job
job_with job h = record { state = record job { hand = Some h.state }; next = h.next }

abbrev pub hand_hears_in : Job → Option Hand → GroupMapState → ℕ → ℕ → Told → Heard Job
hand_hears_in job None groups ask server t = unheard job
hand_hears_in job (Some hand) groups ask server t = job_with job (hand_hear hand groups ask server t)

unfoldable pub job_hear : Job → GroupMapState → ℕ → ℕ → Told → Heard Job
job_hear job groups ask server t = hand_hears_in job job.hand groups ask server t

abbrev pub hand_confirmed_in : Job → Option Hand → ℕ → Heard Job
hand_confirmed_in job None ask = unheard job
hand_confirmed_in job (Some hand) ask = job_with job (hand_confirmed hand ask)

unfoldable pub job_confirmed : Job → ℕ → Heard Job
job_confirmed job ask = hand_confirmed_in job job.hand ask
