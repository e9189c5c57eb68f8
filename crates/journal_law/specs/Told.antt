-- Which acts a line of a journal can tell, and that the line of each is read as the act.
use Rattle.std.specs.Prelude.{◌≡◌, ℕ, ◌<◌, ◌≤◌, ◌^◌, List, Option, Some, None, Ok}
use Rattle.std.specs.List.{AllByRecursion}
use Rattle.act_text.specs.Acts.{act_text, line_of}
use Rattle.audit.specs.Acts.{read_act}
use Rattle.script_text.specs.Words.{Lacks}
use Rattle.version_model.specs.declared.act.Act.{Act}
use Rattle.version_model.specs.declared.act.Act.TheVariants as acts
use Rattle.version_model.specs.declared.act.Fall.{Fall}
use Rattle.xfs_base.specs.Logs.{WritesLog}
use Rattle.xfs_base.specs.Value.{IsValue}
use Rattle.xfs_base.specs.declared.block.BlockId.{BlockId}
use Rattle.xfs_base.specs.declared.node.NodeId.TheVariants as nodes
use Rattle.xfs_base.specs.declared.segment.SegName.{SegName}
use Rattle.xfs_base.specs.Limits.{log_count}

-- a number of 32 bits that counts from 1
pub record IsCount (n : ℕ) : Type 0 where
  pub some : 0 < n
  pub small : n < 2 ^ 32

-- one of the clients that a run may have
abbrev pub IsClient : ℕ → Type 0
IsClient n = WritesLog (nodes.Client n)

-- a block whose numbers have 32 bits
pub record IsBlock (b : BlockId) : Type 0 where
  pub ino : b.ino.0 < 2 ^ 32
  pub blk : b.blk < 2 ^ 32

-- the number of a version, of 64 bits
abbrev pub IsVersion : ℕ → Type 0
IsVersion n = n < 2 ^ 64

abbrev pub AreBytes : Option (List ℕ) → Type 0
AreBytes None = Unit {0}
AreBytes (Some bytes) = AllByRecursion (λ b. b < 256) bytes

-- what a block can hold: Absent, or 1 to 8,192 bytes
pub record IsContent (value : Option (List ℕ)) : Type 0 where
  pub fits : IsValue value
  pub bytes : AreBytes value

-- a segment of the log of a client, a manager or the cleaner
pub record IsSegment (seg : SegName) : Type 0 where
  pub written : 1 ≤ seg.log.0
  pub log : seg.log.0 ≤ log_count
  pub seq : IsCount seg.seq
  pub inc : IsCount seg.pass.inc
  pub att : IsCount seg.pass.att

-- the segment in flight, by its number and incarnation, or none
abbrev pub IsFlight : Option (ℕ × ℕ) → Type 0
IsFlight None = Unit {0}
IsFlight (Some p) = IsCount p.0 × IsCount p.1

-- what may be lost of a block
pub record IsFall (f : Fall) : Type 0 where
  pub block : IsBlock f.block
  pub low : IsVersion f.low
  pub high : IsVersion f.high

-- a line can tell this act; an answer has no line
abbrev pub IsTold : Act → Type 0
IsTold (acts.Wrote client block value) = IsClient client × IsBlock block × IsContent value
IsTold (acts.Read client block ver value) = IsClient client × IsBlock block × IsVersion ver × IsContent value
IsTold (acts.Synced client) = IsClient client
IsTold (acts.Fell client flight falls) = IsClient client × IsFlight flight × AllByRecursion IsFall falls
IsTold (acts.Back client chain) = IsClient client × AllByRecursion IsSegment chain
IsTold (acts.Lost node seg) = WritesLog node × IsSegment seg
IsTold (acts.Filed seg) = IsSegment seg
IsTold (acts.Dropped seg) = IsSegment seg
IsTold (acts.Answered node item answer) = ⊥

-- a line is the act's: with its line feed it is the act's text
abbrev pub IsLineOf : Act → List ℕ → Type 0
IsLineOf act line = act_text act ≡ line_of line

-- An act that can be told has one line.
abbrev pub ActsHaveOneLine : Type 0
ActsHaveOneLine = (act : Act) → IsTold act → (line : List ℕ) × IsLineOf act line × Lacks 10 line

-- The line of such an act is read as that act.
abbrev pub ActsAreReadAsPrinted : Type 0
ActsAreReadAsPrinted = (act : Act) (line : List ℕ) → IsTold act → IsLineOf act line → read_act line ≡ Ok act

-- No other act is ever read, whatever the line.
abbrev pub NoOtherActIsRead : Type 0
NoOtherActIsRead = (act : Act) (line : List ℕ) → read_act line ≡ Ok act → IsTold act
