-- How packets about where blocks lie are seen in the small world of one slot, and what is known of texts.
use Rattle.std.specs.Prelude.{◌≡◌, ℕ, ◌^◌, ◌<◌, ◌≤◌, List, None}
use Rattle.std.specs.List.{AllByRecursion}
use Rattle.checkpoint.specs.WriterState.{Rows}
use Rattle.headline.specs.Filed.{Texts}
use Rattle.index_tie.specs.Net.{Net}
use Rattle.index_tie.specs.Net.Packet.{CheckpointDone, CleanerReported, Checked, AnsweredLive, AnsweredDead}
use Rattle.index_tie.specs.Slots.{DeltasTell}
use Rattle.index_tie.specs.Takeovers.{IsEnd, Linked}
use Rattle.headline.specs.Indexes.{of_log}
use Rattle.log_protocol.specs.Tables.{In}
use Rattle.node_base.specs.declared.effects.Effect.{Effect}
use Rattle.node_base.specs.declared.effects.Effect.TheVariants.{Send}
use Rattle.segment_format.specs.declared.segment.Segment.{Segment}
use Rattle.takeover.specs.Rows.{told_of}
use Rattle.wire_msg.specs.declared.body.Body.{Body}
use Rattle.wire_msg.specs.declared.body.Body.TheVariants as body
use Rattle.wire_msg.specs.declared.cleaning.Check.{Check}
use Rattle.wire_msg.specs.declared.cleaning.Dead.{Dead}
use Rattle.wire_msg.specs.declared.cleaning.Live.{Live}
use Rattle.wire_msg.specs.declared.deltas.Deltas.{Deltas}
use Rattle.wire_msg.specs.declared.registry.CkptDone.{CkptDone}
use Rattle.xfs_base.specs.Blocks.{slot_of}
use Rattle.xfs_base.specs.Limits.{u32_end, block_logs}
use Rattle.xfs_base.specs.declared.block.BlockId.{BlockId}
use Rattle.xfs_base.specs.declared.entry.Entry.{Entry}
use Rattle.xfs_base.specs.declared.news.SlotNews.{SlotNews}
use Rattle.xfs_base.specs.declared.node.NodeId.{NodeId}
use Rattle.xfs_base.specs.declared.node.NodeId.TheVariants.{Client, Cleaner}
use Rattle.xfs_base.specs.declared.segment.End.{End}
use Rattle.xfs_base.specs.declared.segment.SegName.{SegName}
use Rattle.xfs_base.specs.declared.segment.SegRef.{SegRef}
use Rattle.xfs_base.specs.Logs.{cleaners_number}

-- the questions of the cleaner that it has asked: of each its number, that of its job, and the segment that it is about
abbrev pub Questions : Type 0
Questions = List (ℕ × ℕ × SegName)

-- each block's number is within its type
abbrev pub RowsFit : List (BlockId × Entry) → Type 0
RowsFit rows = AllByRecursion (λ row. row.0.blk < 2 ^ 32) rows

module _ (part : ℕ) (texts : Texts) where
  -- what a part of a checkpoint of the slot holds: what its text tells
  abbrev pub held_in : SegRef → Rows
  held_in ref = told_of part (texts ref.name)

  -- what was read is the text of its name
  pub record IsRead (s : Segment) : Type 0 where
    pub text : s ≡ texts s.name
    pub fits : RowsFit (told_of part s)

module _ (part : ℕ) (n : Net) where
  -- Deltas of a log tell of each block of the slot what the log filed in their range, and no log is at its last number.
  pub record DeltasKnown (log : ℕ) (m : Deltas) : Type 0 where
    pub tells : (b : BlockId) → slot_of b.ino.0 ≡ part → DeltasTell b n.filed log m.first m.upto m.rows
    pub fit : RowsFit m.rows
    pub short : m.upto < u32_end

  -- The end of a log that is reported to the manager of this epoch: where it isn't below the epoch's horizon, which is 1 at least, it is filed, and the log is
  -- linked from there to it.
  pub record EndKnown (epoch log : ℕ) (end : End) : Type 0 where
    pub filed : 0 < of_log (n.horizon epoch) log → of_log (n.horizon epoch) log ≤ end.seq → IsEnd n.filed log end
    pub linked : 0 < of_log (n.horizon epoch) log → Linked n.filed log (of_log (n.horizon epoch) log) end.seq
    pub short : end.seq < u32_end

  -- what is known of a report; that of the cleaner was sent, in this epoch
  abbrev pub ReportKnown : ℕ → NodeId → End → Type 0
  ReportKnown epoch (Client c) end = EndKnown epoch c end
  ReportKnown epoch Cleaner end = EndKnown epoch cleaners_number end × In (CleanerReported epoch end.seq) n.sent
  ReportKnown epoch _ end = Unit {0}

  -- News of an epoch at which nobody was active yet are what the registry kept last.
  pub record NewsKnown (news : SlotNews) : Type 0 where
    pub free : n.slots news.epoch ≡ None
    pub some : 0 < news.epoch
    pub begun : news.epoch ≤ n.epoch
    pub horizon : news.horizon ≡ n.horizon news.epoch
    pub parts : news.parts ≡ n.parts news.epoch
    pub from_one : (l : ℕ) → 0 < l → l ≤ block_logs → 0 < of_log news.horizon l
    pub short : (l : ℕ) → of_log news.horizon l ≤ u32_end

  -- where the block is of the slot, this was sent there
  abbrev pub LiveSeen : Live → Type 0
  LiveSeen m = slot_of m.block.ino.0 ≡ part → In (AnsweredLive m.block m.entry) n.sent

  abbrev pub CkptSeen : CkptDone → Type 0
  CkptSeen m = m.slot ≡ part → In (CheckpointDone m.epoch m.horizon m.parts) n.sent

module _ (part : ℕ) (asked : Questions) (n : Net) where
  -- the question was sent, as one of a job about that segment
  pub record CheckKnown (m : Check) : Type 0 where
    pub number : ℕ
    pub below : ℕ
    pub sent : In (Checked number m.block m.place below) n.sent
    pub question : In (m.ask, number, m.place.seg.name) asked

  -- an answer of this epoch was sent, to a question of that job about that segment
  pub record DeadKnown (m : Dead) : Type 0 where
    pub number : ℕ
    pub name : SegName
    pub below : ℕ
    pub sent : In (AnsweredDead number m.block name below m.epoch) n.sent
    pub question : In (m.ask, number, name) asked

  abbrev pub DeadSeen : Dead → Type 0
  DeadSeen m = slot_of m.block.ino.0 ≡ part → DeadKnown m

  -- what a manager sends of the slot was sent there: answers to the cleaner, and checkpoints
  abbrev pub ManagerSends : Body → Type 0
  ManagerSends (body.Live m) = LiveSeen part n m
  ManagerSends (body.Dead m) = DeadSeen m
  ManagerSends (body.CkptDone m) = CkptSeen part n m
  ManagerSends _ = Unit {0}

  abbrev pub ManagerDoes : Effect → Type 0
  ManagerDoes (Send to m) = ManagerSends m
  ManagerDoes _ = Unit {0}
