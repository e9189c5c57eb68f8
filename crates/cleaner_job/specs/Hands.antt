-- The segment that a job of the cleaner has in hand: how it is read, and under which questions its blocks are checked.
use Rattle.std.specs.Prelude.{ℕ, Bool, false, if◌then◌else◌, List, [], map, Option, Some, None}
use Rattle.std.specs.BTreeMap.{is_at, insert_entry}
use Rattle.std.specs.Map.{lookup}
use Rattle.group_map.specs.declared.group.Group.{Group}
use Rattle.group_map.specs.GroupMapState.{GroupMapState}
pub use Rattle.group_map.specs.Groups.{known_group}
use Rattle.log_owner.specs.Sending.{fetch}
use Rattle.node_base.specs.Asking.{next_ask, draw}
use Rattle.node_base.specs.declared.effects.Effect.{Effect}
use Rattle.node_base.specs.declared.questions.Questions.{Questions}
use Rattle.segment_reading.specs.declared.reading.Next.{Next}
use Rattle.segment_reading.specs.declared.reading.Next.TheVariants.{Wait}
use Rattle.segment_reading.specs.Reading.{ReadingState, Step, reading_start, reading_unanswered, reading_take, on_confirmed}
use Rattle.stripe_code.specs.declared.round.Told.{Told}
use Rattle.xfs_base.specs.Blocks.{block_cmp}
use Rattle.xfs_base.specs.declared.block.BlockId.{BlockId}
use Rattle.xfs_base.specs.declared.segment.SegName.{SegName}
use Rattle.xfs_base.specs.declared.segment.SegRef.{SegRef}
use Rattle.xfs_base.specs.Segments.{same_segment}
use Rattle.cleaner_job.specs.declared.hand.Hand.{Hand}

-- ---- taking a segment in hand

abbrev pub is_in_hand : Option Hand → SegRef → Bool
is_in_hand None seg = false
is_in_hand (Some hand) seg = same_segment hand.seg seg

-- the first round of its reading begins under a question
abbrev pub hand_begin : SegRef → Group → ℕ → Hand
hand_begin seg group ask =
    record { seg = seg; reading = Some (reading_start (record { seg = seg; block = None }) group ask); checks = []; moved = false; dropped = false }

-- the segment in hand, and the questions of the node
pub record Taken : Type 0 where
  pub hand : Option Hand
  pub questions : Questions

abbrev pub take_over : Questions → SegRef → Option Group → Taken
take_over q seg None = record { hand = None; questions = q }
take_over q seg (Some group) = record { hand = Some (hand_begin seg group (next_ask q)); questions = draw q }

-- the segment is in hand already, or its reading begins; none is in hand where its group isn't known
unfoldable pub take_in_hand : Option GroupMapState → Questions → Option Hand → SegRef → Taken
take_in_hand groups q hand seg = if is_in_hand hand seg then record { hand = hand; questions = q } else take_over q seg (known_group groups seg.group)

-- ---- reading it

abbrev pub hand_fetch : SegName → Option ReadingState → List Effect
hand_fetch name None = []
hand_fetch name (Some r) = map (fetch name r.ask) (reading_unanswered r)

-- the servers that have not answered are asked for their fragments
abbrev pub fetches : Option Hand → List Effect
fetches None = []
fetches (Some hand) = hand_fetch hand.seg.name hand.reading

-- what is left after an answer, and what the reading does next
pub record Heard (S : Type 0) : Type 0 where
  pub state : S
  pub next : Next

-- no answer is awaited
abbrev pub unheard : {S : Type 0} → S → Heard S
unheard s = record { state = s; next = Wait }

abbrev pub reads_on : Hand → Step → Heard Hand
reads_on hand step = record { state = record hand { reading = Some step.state }; next = step.next }

abbrev pub hears_by : Hand → Option ReadingState → GroupMapState → ℕ → ℕ → Told → Heard Hand
hears_by hand None groups ask server told = unheard hand
hears_by hand (Some r) groups ask server told = reads_on hand (reading_take r groups ask server told)

-- a server tells of its fragment
unfoldable pub hand_hear : Hand → GroupMapState → ℕ → ℕ → Told → Heard Hand
hand_hear hand groups ask server told = hears_by hand hand.reading groups ask server told

abbrev pub confirmed_by : Hand → Option ReadingState → ℕ → Heard Hand
confirmed_by hand None ask = unheard hand
confirmed_by hand (Some r) ask = reads_on hand (on_confirmed r ask)

-- what there is to ask between two rounds is answered
unfoldable pub hand_confirmed : Hand → ℕ → Heard Hand
hand_confirmed hand ask = confirmed_by hand hand.reading ask

-- ---- checking its blocks

-- the question of the newest check of a block
abbrev pub asked_of : List (BlockId × ℕ) → BlockId → Option ℕ
asked_of checks block = lookup (is_at (block_cmp block)) checks

-- the question under which a block is checked again, until what was live is moved
abbrev pub kept_ask : Hand → BlockId → Option ℕ
kept_ask hand block = if hand.moved then None else asked_of hand.checks block

-- the question of a check, with the segment in hand and the questions of the node after it
pub record Checking : Type 0 where
  pub hand : Hand
  pub questions : Questions
  pub ask : ℕ

abbrev pub checks_under : Hand → Questions → BlockId → Option ℕ → Checking
checks_under hand q block None =
    record { hand = record hand { checks = insert_entry block_cmp hand.checks block (next_ask q) }; questions = draw q; ask = next_ask q }
checks_under hand q block (Some ask) = record { hand = hand; questions = q; ask = ask }

-- a block is checked by the same question again, but by a new one at first and after a move
unfoldable pub hand_check : Hand → Questions → BlockId → Checking
hand_check hand q block = checks_under hand q block (kept_ask hand block)
