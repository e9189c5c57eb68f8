-- What a takeover keeps.
use Rattle.std.specs.Prelude.{ℕ, List, [], Option, None}
use Rattle.group_map.specs.GroupMapState.{GroupMapState}
use Rattle.xfs_base.specs.declared.block.BlockId.{BlockId}
use Rattle.xfs_base.specs.declared.entry.Entry.{Entry}
use Rattle.xfs_base.specs.declared.news.SlotNews.{SlotNews}
use Rattle.takeover.specs.declared.report.Report.{Report}
use Rattle.takeover.specs.declared.source.Present.{Present}
use Rattle.takeover.specs.declared.source.Source.{Source}

pub record TakeState : Type 0 where
  -- the slot, its epoch and its newest checkpoint
  pub news : SlotNews
  -- the groups that are known
  pub groups : GroupMapState
  -- how many clients there are
  pub clients : ℕ
  -- the first report of each node that was heard, in the order in which they came
  pub reports : List Report
  -- what is still to be read, behind what is read at present
  pub sources : List Source
  -- what is read at present
  pub present : Option Present
  -- the number of the last question
  pub ask : ℕ
  -- what the segments of the present source tell that were read, the lowest first
  pub chain : List (List (BlockId × Entry))
  -- the join of what the sources before it told
  pub index : List (BlockId × Entry)

-- nothing is known yet
abbrev pub take_start : SlotNews → GroupMapState → ℕ → TakeState
take_start news groups clients =
    record { news = news; groups = groups; clients = clients; reports = []; sources = []; present = None; ask = 0; chain = []; index = [] }
