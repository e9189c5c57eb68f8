-- How the index is told of logs: what is filed is what stands on the lines of the logs 1 to 9, while these are clean.
use Rattle.std.specs.Prelude.{◌≡◌, ℕ, suc, ◌-◌, ◌<◌, ◌≤◌, ◌&&◌, nat_lt, nat_le, List, map, if◌then◌else◌}
use Rattle.std.specs.List.{AllByRecursion, range_with_len}
use Rattle.xfs_base.specs.declared.segment.End.{End}
use Rattle.xfs_base.specs.declared.segment.Pass.{Pass}
use Rattle.xfs_base.specs.Limits.{block_logs}
use Rattle.segment_format.specs.declared.segment.Segment.{Segment}
use Rattle.segment_format.specs.Rows.{rows_of}
use Rattle.delta_feed.specs.declared.feed.FiledDeltas.{FiledDeltas}
use Rattle.delta_feed.specs.declared.input.In.{In}
use Rattle.delta_feed.specs.History.{end_of, filed_by}
use Rattle.log_protocol.specs.Phase
use Rattle.log_protocol.specs.State.{State}
use Rattle.log_protocol.specs.Step.{Steps}
use Rattle.log_protocol.specs.LogLaws.{Reached}
use Rattle.index_tie.specs.Feeds.{IsFed}
use Rattle.index_tie.specs.Filed.{IsFiled}
use Rattle.headline.specs.Filed.{Filed, IsNoPart}
use Rattle.index_tie.specs.Growth.{IsMore}
use Rattle.index_tie.specs.Takeovers.{IsEnd, Linked}

-- the pass that a name says
abbrev pub pass_of : State → ℕ → Pass
pass_of w x = record { inc = w.incarnation_of x; att = w.attempt_of x }

-- A name of a log is that of a segment, whose prior is that of the name, and which tells of blocks at versions from 1 on, and has no part of a checkpoint.
pub record IsPage (l : ℕ) (w : State) (x : ℕ) (s : Segment) : Type 0 where
  pub log : s.name.log.0 ≡ l
  pub seq : s.name.seq ≡ w.seq_of x
  pub pass : s.name.pass ≡ pass_of w x
  pub boot : 0 < s.name.pass.inc
  pub follows : 0 < w.prior_of x → s.prior.pass ≡ pass_of w (w.prior_of x)
  pub versions : AllByRecursion (λ row. 0 < row.1.ver) (rows_of s)
  pub no_parts : AllByRecursion IsNoPart s.items

-- a log that is clean, and of each filed name the segment
pub record IsLog (l : ℕ) (w : State) (book : ℕ → Segment) : Type 0 where
  pub reached : Reached w
  pub clean : w.clean ≡ 1
  pub pages : (x : ℕ) → w.filed x ≡ 1 → IsPage l w x (book x)

abbrev pub AreLogs : (ℕ → State) → (ℕ → ℕ → Segment) → Type 0
AreLogs logs books = (l : ℕ) → 0 < l → l ≤ block_logs → IsLog l (logs l) (books l)

-- what stands on the lines
abbrev pub lines : (ℕ → State) → (ℕ → ℕ → Segment) → Filed
lines logs books = record { head = λ l. if nat_lt 0 l && nat_le l block_logs then (logs l).head else 0; segment = λ l q. books l ((logs l).line q) }

abbrev pub LinesAreFiled : Type 0
LinesAreFiled = (logs : ℕ → State) (books : ℕ → ℕ → Segment) → AreLogs logs books → IsFiled (lines logs books)

-- Above the least horizon, filed segments are linked.
abbrev pub LinesAreLinked : Type 0
LinesAreLinked =
    (logs : ℕ → State) (books : ℕ → ℕ → Segment) (l low high : ℕ) → AreLogs logs books → 0 < l → l ≤ block_logs → (logs l).low ≤ low → high ≤ (logs l).head
    → Linked (lines logs books) l low high

-- The end of a filed name is one of the filed segments.
abbrev pub FiledNamesAreEnds : Type 0
FiledNamesAreEnds =
    (logs : ℕ → State) (books : ℕ → ℕ → Segment) (l x : ℕ) (end : End) → AreLogs logs books → 0 < l → l ≤ block_logs → (logs l).filed x ≡ 1 → end.seq ≡ (logs l).seq_of x
    → end.pass ≡ pass_of (logs l) x → IsEnd (lines logs books) l end

-- a segment of the feed of a serving owner
abbrev pub feed_at : State → (ℕ → Segment) → ℕ → FiledDeltas
feed_at w book q = record { seq = q; rows = rows_of (book (w.feed q)) }

-- A serving owner's feed was told of what is filed above its base.
abbrev pub FeedsAreFed : Type 0
FeedsAreFed =
    (logs : ℕ → State) (books : ℕ → ℕ → Segment) (l : ℕ) (inputs : List In) → AreLogs logs books → 0 < l → l ≤ block_logs → (logs l).phase ≡ Phase.serving
    → end_of (logs l).feed_base inputs ≡ (logs l).head
    → filed_by (logs l).feed_base inputs ≡ map (feed_at (logs l) (books l)) (range_with_len (suc (logs l).feed_base) ((logs l).head - (logs l).feed_base))
    → IsFed (lines logs books) l (logs l).feed_base inputs

-- Lines only grow.
abbrev pub LinesGrow : Type 0
LinesGrow =
    (logs later : ℕ → State) (books more : ℕ → ℕ → Segment) → AreLogs logs books → AreLogs later more → ((l : ℕ) → 0 < l → l ≤ block_logs → Steps (logs l) (later l))
    → ((l x : ℕ) → (logs l).filed x ≡ 1 → more l x ≡ books l x)
    → IsMore (lines logs books) (lines later more)
