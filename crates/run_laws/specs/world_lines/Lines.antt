-- What the logs of clients and of the cleaner filed, as one line a log: of each number up to the head the segment that was filed under it, the text of its
-- name.
use Rattle.std.specs.Prelude.{◌≡◌, ◌<◌, ◌≤◌, ◌⊎◌, ℕ, Bool, true, false}
use Rattle.std.specs.List.{AllByRecursion}
use Rattle.index_tie.specs.Filed.{IsFiled}
use Rattle.headline.specs.Filed.{AreTexts, Filed, IsNoPart, Texts, rows_at}
use Rattle.index_tie.specs.Takeovers.{IsEnd, Linked}
use Rattle.log_law.specs.Laws.{Moment}
use Rattle.log_law.specs.Net.{Net}
use Rattle.log_law.specs.Restarts.{IsSureRun}
use Rattle.log_protocol.specs.Tables.{In}
use Rattle.log_tie.specs.Setting.{Setting}
use Rattle.node_slots.specs.node_index_tie.Sight.{RowsFit}
use Rattle.segment_format.specs.declared.segment.Segment.{Segment}
use Rattle.segment_format.specs.Rows.{rows_of}
use Rattle.xfs_base.specs.declared.segment.End.{End}
use Rattle.xfs_base.specs.declared.segment.SegName.{SegName}
use Rattle.xfs_base.specs.Limits.{block_logs}

-- ---- what flew

-- a segment says of blocks versions from 1 on, and has no part of a checkpoint
pub record SaysBlocks (s : Segment) : Type 0 where
  pub versions : AllByRecursion (λ row. 0 < row.1.ver) (rows_of s)
  pub no_parts : AllByRecursion IsNoPart s.items

module _ (texts : Texts) where
  -- each segment that was in flight is the text of its name
  abbrev pub FlownAreTexts : Net → Type 0
  FlownAreTexts n = (s : Segment) → In s n.flown → texts s.name ≡ s

  -- A log of which no restart that ended was doubtful, at a moment of its run; what its owner writes is the text of its name.
  pub record IsSure (l : ℕ) (g : Setting) (n : Net) : Type 0 where
    pub own : g.log ≡ record { 0 = l }
    pub trusted : g.doubts ≡ false
    pub moment : Moment g n
    pub sure : IsSureRun moment.run
    pub are_texts : FlownAreTexts n

-- ---- the line

-- what is filed under each number up to the head flew, bears that number, and its name is filed
pub record IsLined (l : ℕ) (n : Net) (f : Filed) : Type 0 where
  pub flown : (q : ℕ) → 0 < q → q ≤ f.head l → In (f.segment l q) n.flown
  pub filed : (q : ℕ) → 0 < q → q ≤ f.head l → In (f.segment l q).name n.filed
  pub seq : (q : ℕ) → 0 < q → q ≤ f.head l → (f.segment l q).name.seq ≡ q

-- The line of a log: so it is, and each filed name has a number from 1 up to the head.
pub record IsLine (l : ℕ) (n : Net) (f : Filed) : Type 0 where
  pub lined : IsLined l n f
  pub all : (name : SegName) → In name n.filed → (0 < name.seq) × (name.seq ≤ f.head l)

module _ (texts : Texts) (has : ℕ → Bool) (settings : ℕ → Setting) (nets : ℕ → Net) where
  -- Each log that somebody has is one of logs 1 to 9, is sure, and has its line in what is filed, which says of blocks; and no other log files anything.
  pub record AreLines (f : Filed) : Type 0 where
    pub within : (l : ℕ) → has l ≡ true → (0 < l) × (l ≤ block_logs)
    pub sure : (l : ℕ) → has l ≡ true → IsSure texts l (settings l) (nets l)
    pub each : (l : ℕ) → has l ≡ true → IsLine l (nets l) f
    pub says : (l q : ℕ) → has l ≡ true → 0 < q → q ≤ f.head l → SaysBlocks (f.segment l q)
    pub none : (l : ℕ) → (has l ≡ true) ⊎ (f.head l ≡ 0)

-- ---- the laws

-- Lines are filed as the index wants it: each segment bears its log and its number, some boot wrote it, and it says of blocks.
abbrev pub LinesAreFiled : Type 0
LinesAreFiled = (texts : Texts) (has : ℕ → Bool) (settings : ℕ → Setting) (nets : ℕ → Net) (f : Filed) → AreLines texts has settings nets f → IsFiled f

-- What is filed is the text of its name.
abbrev pub LinesAreTexts : Type 0
LinesAreTexts = (texts : Texts) (has : ℕ → Bool) (settings : ℕ → Setting) (nets : ℕ → Net) (f : Filed) → AreLines texts has settings nets f → AreTexts texts f

-- What the line of a log gives: rows fit their types; from the least horizon on it is linked; and the end of each filed name is one of its segments.
pub record LineGives (l : ℕ) (n : Net) (f : Filed) : Type 0 where
  pub fit : (q : ℕ) → RowsFit (rows_at f l q)
  pub linked : (low high : ℕ) → 0 < low → n.low ≤ low → high ≤ f.head l → Linked f l low high
  pub ends : (end : End) → In (record { log = record { 0 = l }; seq = end.seq; pass = end.pass }) n.filed → IsEnd f l end
  pub one : (name : SegName) → In name n.filed → name ≡ (f.segment l name.seq).name

abbrev pub LinesGive : Type 0
LinesGive = (texts : Texts) (l : ℕ) (g : Setting) (n : Net) (f : Filed) → IsSure texts l g n → IsLine l n f → LineGives l n f
