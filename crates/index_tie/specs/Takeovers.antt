-- What a takeover needs of the world, and the law: a slot that is handed out is an activation.
use Rattle.std.specs.Prelude.{◌≡◌, ℕ, suc, ◌-◌, ◌<◌, ◌≤◌, List, length, take, Contains}
use Rattle.std.specs.List.{AllByRecursion}
use Rattle.group_map.specs.GroupMapState.{GroupMapState}
use Rattle.xfs_base.specs.declared.block.BlockId.{BlockId}
use Rattle.xfs_base.specs.declared.entry.Entry.{Entry}
use Rattle.xfs_base.specs.declared.news.SlotNews.{SlotNews}
use Rattle.xfs_base.specs.declared.segment.End.{End}
use Rattle.xfs_base.specs.declared.token.Mode.{Mode}
use Rattle.xfs_base.specs.Blocks.{slot_of}
use Rattle.xfs_base.specs.Limits.{block_logs}
use Rattle.xfs_base.specs.Logs.{cleaners_number}
use Rattle.segment_format.specs.declared.segment.Segment.{Segment}
use Rattle.delta_index.specs.Join.{join}
use Rattle.takeover.specs.declared.input.In.{In}
use Rattle.takeover.specs.declared.output.Out.TheVariants.{Active}
use Rattle.takeover.specs.declared.report.Report.{Report}
use Rattle.takeover.specs.Course.{Course, course_of, after_input}
use Rattle.takeover.specs.ReadBack.{told_by_all}
use Rattle.takeover.specs.Reports.{end_of}
use Rattle.takeover.specs.Transition.{transition}
use Rattle.token_manager.specs.Transition.{slot_start}
use Rattle.log_protocol.specs.IndexState.{IndexState, Joins}
use Rattle.log_protocol.specs.IndexState as index
use Rattle.log_protocol.specs.IndexLaws.{IndexReached}
use Rattle.index_tie.specs.Filed.{IsFiled, Tells, Names}
use Rattle.headline.specs.Filed.{Filed}
use Rattle.index_tie.specs.Slots.{Runs}
use Rattle.headline.specs.Indexes.{of_log}

-- the last seq of each log that lies below a horizon
abbrev pub below : List ℕ → ℕ → ℕ
below horizon l = of_log horizon l - 1

-- Rows tell of the block the join of what the logs filed below a horizon.
pub record Covers (b : BlockId) (f : Filed) (w : IndexState) (horizon : List ℕ) (rows : List (BlockId × Entry)) : Type 0 where
  pub named : index.Entry
  pub filed : (l : ℕ) → below horizon l ≤ f.head l
  pub names : Names b f (join rows b) named
  pub joins : Joins w.version w.hop (below horizon) named

-- the end of a log is one of its filed segments
pub record IsEnd (f : Filed) (l : ℕ) (end : End) : Type 0 where
  pub filed : end.seq ≤ f.head l
  pub named : end.pass ≡ (f.segment l end.seq).name.pass

-- each filed segment of a log above one seq, up to another, names the one before it as its prior
abbrev pub Linked : Filed → ℕ → ℕ → ℕ → Type 0
Linked f l low high = (q : ℕ) → low ≤ q → q < high → (f.segment l (suc q)).prior.pass ≡ (f.segment l q).name.pass

-- what was read under the name of a filed segment is that segment
abbrev pub IsItsText : Filed → Segment → Type 0
IsItsText f s = (l q : ℕ) → 0 < q → q ≤ f.head l → s.name ≡ (f.segment l q).name → s ≡ f.segment l q

-- What the world owes a takeover that has read all: the horizon of its news is that of the epoch, the parts cover what is below it, ends that are reported are
-- filed, logs are linked from the horizon to their end, and what was read is what was written.
pub record TakeoverTold (b : BlockId) (f : Filed) (w : IndexState) (news : SlotNews) (c : Course) : Type 0 where
  pub horizon : (l : ℕ) → 0 < l → l ≤ block_logs → of_log news.horizon l ≡ w.floor news.epoch l
  pub parts : Covers b f w news.horizon (told_by_all news.slot (take (length news.parts) c.read.whole))
  pub ends : (l : ℕ) → 0 < l → l ≤ block_logs → of_log news.horizon l ≤ (end_of c.state.reports l).seq → IsEnd f l (end_of c.state.reports l)
  pub linked : (l : ℕ) → 0 < l → l ≤ block_logs → Linked f l (of_log news.horizon l) (end_of c.state.reports l).seq
  pub texts : AllByRecursion (AllByRecursion (IsItsText f)) c.read.whole

-- What registry and cleaner owe it: the epoch has begun, no manager was active at it, and the cleaner, which has promised it, reported at least the end of its
-- log that it had then.
pub record MayBegin (w : IndexState) (epoch : ℕ) (reports : List Report) : Type 0 where
  pub begun : epoch ≤ w.epoch
  pub fresh : w.active epoch ≡ 0
  pub heard : epoch ≤ w.promised
  pub reported : w.polled epoch ≤ (end_of reports cleaners_number).seq

-- Takeovers are activations: when a takeover hands a slot out, the slot that starts with what it hands out is seen as the manager of the epoch.
abbrev pub TakeoversAreActivations : Type 0
TakeoversAreActivations =
    (b : BlockId) (f : Filed) (w : IndexState) (news : SlotNews) (groups : GroupMapState) (clients : ℕ) (inputs : List In) (input : In) (epoch : ℕ)
    (index : List (BlockId × Entry)) (beliefs : List (BlockId × ℕ × Mode)) (applied : List ℕ)
    → IndexReached w → IsFiled f → Tells b f w → slot_of b.ino.0 ≡ news.slot
    → Contains (transition (course_of news groups clients inputs).state input).outs (Active epoch index beliefs applied)
    → TakeoverTold b f w news (after_input (course_of news groups clients inputs) input)
    → MayBegin w news.epoch (after_input (course_of news groups clients inputs) input).state.reports
    → Runs b f w epoch (slot_start epoch index beliefs applied)
