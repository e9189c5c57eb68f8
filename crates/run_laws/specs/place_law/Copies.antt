-- What is answered Live to the cleaner of a block, with the value that it has read of the block, is a copy of what a filed segment says.
use Rattle.std.specs.Prelude.{◌≡◌, ◌<◌, ◌≤◌, ℕ, true, List, Contains, Option, Some, IfSome, length, slice_get}
use Rattle.std.specs.List.{AllByRecursion}
use Rattle.checkpoint.specs.WriterState.{Rows}
use Rattle.cleaner_serving.specs.declared.emptying.Emptying.{Emptying}
use Rattle.cleaner_job.specs.declared.job.Job.{Job}
use Rattle.cleaner_job.specs.Jobs.{check_of, hand_of}
use Rattle.client_call.specs.Reads.{value_at}
use Rattle.node_tellings.specs.entry_tie.Told.{told_by_rows}
use Rattle.run_laws.specs.index_reads.Ties.{ArePlain, Tied}
use Rattle.index_tie.specs.Cleaning.{IsWithin}
use Rattle.headline.specs.Filed.{Filed, is_filed_name, row_at, rows_at}
use Rattle.index_tie.specs.Net as index
use Rattle.index_tie.specs.Net.{IsInHand}
use Rattle.log_protocol.specs.Tables.{In}
use Rattle.node_slots.specs.node_tie.CleanerLogs.{LiveTold}
use Rattle.segment_format.specs.declared.segment.Item.TheVariants.{Block}
use Rattle.segment_format.specs.declared.segment.Segment.{Segment}
use Rattle.segment_format.specs.Rows.{rows_of}
use Rattle.segment_format.specs.Rule.{no_item}
use Rattle.stripe_cleaner.specs.Checks.{place_in}
use Rattle.stripe_cleaner.specs.JobState.{JobState}
use Rattle.stripe_cleaner.specs.declared.checks.Check.{Check}
use Rattle.stripe_cleaner.specs.declared.checks.Fate.{Fate}
use Rattle.stripe_cleaner.specs.declared.checks.Fate.TheVariants.{Asked}
use Rattle.stripe_cleaner.specs.declared.phase.Phase.{Phase}
use Rattle.stripe_cleaner.specs.declared.phase.Phase.TheVariants.{Checking}
use Rattle.token_law.specs.Net as tokens
use Rattle.wire_msg.specs.declared.body.Body.TheVariants as body
use Rattle.wire_msg.specs.declared.cleaning.Live.{Live}
use Rattle.wire_msg.specs.declared.packet.Packet.{Packet}
use Rattle.xfs_base.specs.declared.block.BlockId.{BlockId}
use Rattle.xfs_base.specs.declared.entry.Entry.{Entry}
use Rattle.xfs_base.specs.declared.entry.Place.{Place}
use Rattle.xfs_base.specs.declared.segment.SegName.{SegName}
use Rattle.xfs_base.specs.declared.segment.SegRef.{SegRef}

-- ---- segments

-- where an entry that the segment says of a block names an item, that has the value of each Block of the block in it
abbrev pub IsExact : Segment → Type 0
IsExact s =
    (b : BlockId) (value : Option (List ℕ)) (e : Entry) (place : Place) → In (Block b value) s.items → Contains (rows_of s) (b, e) → e.place ≡ Some place
    → value_at s place.item ≡ value

-- so it is of all that is filed
abbrev pub AreExact : Filed → Type 0
AreExact f = (l q : ℕ) → 0 < q → q ≤ f.head l → IsExact (f.segment l q)

-- ---- what the job has of the segment in hand

-- what is asked for is a Block of the segment
abbrev pub FateLies : Segment → BlockId → Fate → Type 0
FateLies s block (Asked value) = In (Block block value) s.items
FateLies s block _ = Unit {0}

-- the item of this number is a Block of the block
pub record IsBlockAt (s : Segment) (item : ℕ) (block : BlockId) : Type 0 where
  pub value : Option (List ℕ)
  pub there : slice_get s.items item ≡ Some (Block block value)

-- and where each item of the segment has a number, a check is of a Block at its own
pub record CheckLies (s : Segment) (c : Check) : Type 0 where
  pub asked : FateLies s c.block c.fate
  pub sits : length s.items ≤ no_item → IsBlockAt s c.item c.block

-- A segment whose Blocks are checked was filed at its number, and where it is the one that was, what is asked for are Blocks of that.
pub record ChecksLie (f : Filed) (name : SegName) (checks : List Check) : Type 0 where
  pub within : IsWithin f name
  pub lie : is_filed_name f name ≡ true → AllByRecursion (CheckLies (f.segment name.log.0 name.seq)) checks

abbrev pub PhaseLies : Filed → Phase → Type 0
PhaseLies f (Checking j segment checks) = ChecksLie f segment.name checks
PhaseLies f _ = Unit {0}

-- At each moment of every run of the small world of a slot's index its job asks for Blocks of the segment that it has in hand.
abbrev pub JobsChecksLie : Type 0
JobsChecksLie =
    (part : ℕ) (holds : SegRef → Rows) (any : ℕ → ℕ → Segment) (n : index.Net) → index.Runs part holds (index.opening any) n → PhaseLies n.filed n.job.phase

-- each Block of the segment is named by a Delta of its block
abbrev pub IsNamed : Segment → Type 0
IsNamed s =
    (b : BlockId) (item : ℕ) → IsBlockAt s item b
    → (e : Entry) × Contains (rows_of s) (b, e) × (e.place ≡ Some (record { seg = record { name = s.name; group = s.group }; item = item }))

abbrev pub AreNamed : Filed → Type 0
AreNamed f = (l q : ℕ) → 0 < q → q ≤ f.head l → IsNamed (f.segment l q)

-- So where the segment in hand is the one that was filed at its number, and in its group, each place that the job asks of is that of the block's row.
abbrev pub ChecksAreOfRows : Type 0
ChecksAreOfRows =
    (part : ℕ) (holds : SegRef → Rows) (any : ℕ → ℕ → Segment) (n : index.Net) (j : JobState) (segment : SegRef) (checks : List Check)
    → index.Runs part holds (index.opening any) n → ArePlain n.filed → AreNamed n.filed → n.job.phase ≡ Checking j segment checks
    → is_filed_name n.filed segment.name ≡ true → segment.group ≡ (n.filed.segment segment.name.log.0 segment.name.seq).group
    → AllByRecursion (λ (c : Check). (row_at n.filed c.block segment.name.log.0 segment.name.seq).place ≡ Some (place_in segment c.item)) checks

-- ---- questions and answers

-- a Check of the block at this place was sent, under this question
pub record WasChecked (packets : List Packet) (block : BlockId) (ask : ℕ) (place : Place) : Type 0 where
  pub packet : Packet
  pub among : In packet packets
  pub bears : packet.body ≡ body.Check (record { block = block; place = place; ask = ask })

-- a Live answers a Check that was sent, of its block and its question, at the place that its entry has
pub record LiveAnswers (packets : List Packet) (m : Live) : Type 0 where
  pub place : Place
  pub lies : m.entry.place ≡ Some place
  pub asked : WasChecked packets m.block m.ask place

-- so does each of these
abbrev pub LivesAnswer : List Packet → Type 0
LivesAnswer packets = (p : Packet) (m : Live) → In p packets → p.body ≡ body.Live m → LiveAnswers packets m

-- what the cleaner awaits of a block it asked of the segment in hand, under a question that it gave to no other
abbrev pub AsksOfHand : List Packet → Emptying → Type 0
AsksOfHand packets e =
    (block : BlockId) (ask : ℕ) (place : Place) → check_of (hand_of e.job) block ≡ Some ask → WasChecked packets block ask place
    → IfSome e.job (λ job. IsInHand place.seg.name job.cleaning.phase)

-- the job that is under way is the small world's
abbrev pub HasJob : index.Net → Emptying → Type 0
HasJob i e = (job : Job) → e.job ≡ Some job → i.job ≡ job.cleaning

-- Where a Live that was sent answers a question that is out, its entry with the value that was read of the block is what a filed segment says of the block.
abbrev pub LivesTellCopies : Type 0
LivesTellCopies =
    (members part : ℕ) (holds : SegRef → Rows) (t : tokens.Net) (i : index.Net) (packets : List Packet) (e : Emptying) (p : Packet) (m : Live)
    → Tied members part holds t i → AreExact i.filed → HasJob i e → LivesAnswer packets → AsksOfHand packets e → In p packets → p.body ≡ body.Live m
    → told_by_rows (rows_at i.filed) m.block m.entry → LiveTold t.books e m
