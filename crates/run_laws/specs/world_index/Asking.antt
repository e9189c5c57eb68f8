-- What the cleaner awaits of the segment in hand it asked of that segment, under numbers that it gives to no other question.
use Rattle.std.specs.Prelude.{◌≡◌, ℕ, ◌≤◌, ◌<◌, Option, None, Some}
use Rattle.cleaner_node.specs.declared.cleaner.Phase.{Phase as CleanerPhase}
use Rattle.cleaner_node.specs.declared.cleaner.Phase.TheVariants.{Down, Opening, Serving}
use Rattle.cleaner_job.specs.declared.hand.Hand.{Hand}
use Rattle.cleaner_job.specs.declared.job.Job.{Job}
use Rattle.cleaner_job.specs.Hands.{asked_of}
use Rattle.node_base.specs.declared.questions.Questions.{Questions}
use Rattle.stripe_cleaner.specs.declared.phase.Phase.{Phase}
use Rattle.stripe_cleaner.specs.declared.phase.Phase.TheVariants.{Reading, Checking}
use Rattle.xfs_base.specs.Limits.{u32_end}
use Rattle.xfs_base.specs.declared.block.BlockId.{BlockId}
use Rattle.xfs_base.specs.declared.segment.SegName.{SegName}

-- Of which questions, by number, which segments are asked about. Once numbers are at their end, nothing is said.
abbrev pub Book : Type 1
Book = ℕ → SegName → Type 0

module _ (book : Book) (q : Questions) where
  -- no question has a number above the last
  abbrev pub IsDrawn : Type 0
  IsDrawn = q.last < u32_end → (ask : ℕ) (name : SegName) → book ask name → ask ≤ q.last

  -- what is awaited of a block was asked of the segment in hand, and of no other
  pub record HandAsks (hand : Hand) : Type 0 where
    pub drawn : q.last < u32_end → (block : BlockId) (ask : ℕ) → asked_of hand.checks block ≡ Some ask → ask ≤ q.last
    pub named : q.last < u32_end → (block : BlockId) (ask : ℕ) (name : SegName) → asked_of hand.checks block ≡ Some ask → book ask name → hand.seg.name ≡ name

-- a segment of this name is the one that the job reads, or checks
abbrev pub IsOfJob : Phase → SegName → Type 0
IsOfJob (Reading j segment) name = segment.name ≡ name
IsOfJob (Checking j segment checks) name = segment.name ≡ name
IsOfJob phase name = Unit {0}

module _ (book : Book) (q : Questions) where
  pub record HandSeen (phase : Phase) (hand : Hand) : Type 0 where
    pub asks : HandAsks book q hand
    pub job : IsOfJob phase hand.seg.name

  abbrev pub HandIn : Phase → Option Hand → Type 0
  HandIn phase None = Unit {0}
  HandIn phase (Some hand) = HandSeen phase hand

  abbrev pub JobAsks : Option Job → Type 0
  JobAsks None = Unit {0}
  JobAsks (Some job) = HandIn job.cleaning.phase job.hand

  -- the questions, and what is awaited of the segment in hand
  pub record AsksSo (o : Option Job) : Type 0 where
    pub drawn : IsDrawn book q
    pub job : JobAsks o

abbrev pub CleanerAsks : Book → CleanerPhase → Type 0
CleanerAsks book (Down l) = IsDrawn book l.questions
CleanerAsks book (Opening l o) = IsDrawn book l.questions
CleanerAsks book (Serving e) = AsksSo book e.lasting.questions e.job
