-- What logs filed, as a table of segments by log and number; what it says of blocks; and when it is a run's own.
use Rattle.std.specs.List.{AllByRecursion, flat_map, list_any, range_with_len}
use Rattle.std.specs.Prelude.{◌≡◌, ◌⊎◌, ◌<◌, ◌≤◌, ◌-◌, ℕ, suc, Bool, ◌&&◌, nat_le, nat_lt, if◌then◌else◌, List, [], Some}
use Rattle.core_world.specs.declared.any_node.AnyNode.{AnyNode}
use Rattle.core_world.specs.declared.any_node.AnyNode.TheVariants as any
use Rattle.delta_index.specs.Join.{join}
use Rattle.group_map.specs.declared.group.Group.{Group}
use Rattle.log_scan.specs.Transition.{least_horizon}
use Rattle.registry.specs.Board.{board_slots}
use Rattle.registry_node.specs.declared.node.RegistryNode.{RegistryNode}
use Rattle.segment_format.specs.declared.segment.Item.{Item}
use Rattle.segment_format.specs.declared.segment.Item.TheVariants.{Block, Delta, Part}
use Rattle.segment_format.specs.declared.segment.Segment.{Segment}
use Rattle.segment_format.specs.Rows.{rows_of}
use Rattle.stripe_cleaner.specs.Histories.{blocks_of}
use Rattle.token_protocol.specs.Basics.{In}
use Rattle.version_model.specs.declared.act.Act.TheVariants as act
use Rattle.world_base.specs.declared.estate.Estate.{Estate}
use Rattle.xfs_base.specs.Blocks.{same_block}
use Rattle.xfs_base.specs.declared.block.BlockId.{BlockId}
use Rattle.xfs_base.specs.declared.entry.Entry.{Entry}
use Rattle.xfs_base.specs.declared.node.NodeId.TheVariants as nodes
use Rattle.xfs_base.specs.declared.segment.SegName.{SegName}
use Rattle.xfs_base.specs.Limits.{block_logs}
use Rattle.xfs_base.specs.Segments.{same_name}
use Rattle.headline.specs.Horizons.{IsOpened}
use Rattle.headline.specs.Logs.{did}
use Rattle.headline.specs.Moments.{moment, node_named}
use Rattle.headline.specs.Segments.{IsText}
use Rattle.headline.specs.Servers.{group_at}

-- how far each log is filed, and its segments, by log and seq
pub record Filed : Type 0 where
  pub head : ℕ → ℕ
  pub segment : ℕ → ℕ → Segment

-- what a log filed at a seq says of blocks
abbrev pub rows_at : Filed → ℕ → ℕ → List (BlockId × Entry)
rows_at f l q = if nat_lt 0 q && nat_le q (f.head l) then rows_of (f.segment l q) else []

-- what it says of one block: where it says nothing, no entry
abbrev pub row_at : Filed → BlockId → ℕ → ℕ → Entry
row_at f b l q = join (rows_at f l q) b

-- what a log filed from one seq up to another says of blocks, in order
abbrev pub rows_between : Filed → ℕ → ℕ → ℕ → List (BlockId × Entry)
rows_between f l first upto = flat_map (rows_at f l) (range_with_len first (suc upto - first))

-- no part of a checkpoint
abbrev pub IsNoPart : Item → Type 0
IsNoPart (Block block value) = Unit {0}
IsNoPart (Delta block ver hop item) = Unit {0}
IsNoPart (Part slot rows) = ⊥

-- a segment bears its log and its seq, some incarnation wrote it, its Deltas are of versions from 1 on, and it has no part of a checkpoint
pub record IsSegment (l q : ℕ) (s : Segment) : Type 0 where
  pub log : s.name.log.0 ≡ l
  pub seq : s.name.seq ≡ q
  pub boot : 0 < s.name.pass.inc
  pub versions : AllByRecursion (λ row. 0 < row.1.ver) (rows_of s)
  pub no_parts : AllByRecursion IsNoPart s.items

-- whether a name is that of the filed segment of its log and seq
abbrev pub is_filed_name : Filed → SegName → Bool
is_filed_name f name = same_name name (f.segment name.log.0 name.seq).name

-- whether that segment has a Block of this block
abbrev pub has_block : BlockId → Filed → SegName → Bool
has_block b f name = list_any (same_block b) (blocks_of (f.segment name.log.0 name.seq).items)

-- the one text of each name
abbrev pub Texts : Type 0
Texts = SegName → Segment

-- what is filed is the text of its name
abbrev pub AreTexts : Texts → Filed → Type 0
AreTexts texts f = (l q : ℕ) → 0 < q → q ≤ f.head l → f.segment l q ≡ texts (f.segment l q).name

-- the table has a segment of this log under this very name, at the name's number
pub record HasSegment (f : Filed) (l : ℕ) (name : SegName) : Type 0 where
  pub some : 0 < name.seq
  pub limit : name.seq ≤ f.head l
  pub named : name ≡ (f.segment l name.seq).name

module _ (e : Estate AnyNode) (count : ℕ) where
  -- The segment is the one that was stored under its name: whatever is held or was sent to be stored under that is a fragment of it, cut for its group.
  pub record IsStored (s : Segment) : Type 0 where
    pub group : Group
    pub striped : group_at e.world s.group ≡ Some group
    pub text : IsText (moment e count) s.name s group

  pub record IsOwnTable (f : Filed) : Type 0 where
    -- only the logs of the run's clients, and the cleaner's, file anything
    pub owned : (l : ℕ) → IsOpened e.script.setup.clients l ⊎ (f.head l ≡ 0)
    -- each number up to the head is that of a segment that was acted to be filed, by the owner of its log
    pub told : (l q : ℕ) → 0 < q → q ≤ f.head l → In (act.Filed (f.segment l q).name) (did e l count)
    pub acted : (l q : ℕ) → 0 < q → q ≤ f.head l → In (act.Filed (f.segment l q).name) (moment e count).acts
    -- each bears its log and its number
    pub borne : (l q : ℕ) → 0 < q → q ≤ f.head l → IsSegment l q (f.segment l q)
    -- and each segment of logs up to the cleaner's, the ninth, that was acted to be filed is there, whoever did, so that no number is of two
    pub all : (name : SegName) → In (act.Filed name) (moment e count).acts → name.log.0 ≤ block_logs → HasSegment f name.log.0 name
    -- each is the segment that was stored
    pub stored : (l q : ℕ) → 0 < q → q ≤ f.head l → IsStored (f.segment l q)
    -- from the least horizon on that the registry keeps, each but the last is the prior of the next
    pub linked : (l q : ℕ) (registry : RegistryNode) → node_named (moment e count) nodes.Registry ≡ Some (any.Registry registry) → 0 < q
        → least_horizon l (board_slots registry.board) ≤ q → q < f.head l
        → (f.segment l (suc q)).prior.pass ≡ (f.segment l q).name.pass
