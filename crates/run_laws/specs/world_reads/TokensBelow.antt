-- What nodes do is seen in the small world of tokens; and the laws of that.
use Rattle.act_tie.specs.BlockActs.{acts_of}
use Rattle.version_model.specs.Falls.{FallsApart}
use Rattle.run_laws.specs.epoch_law.EpochLaws.{EpochLaws}
use Rattle.run_laws.specs.world_law.Fallen.{EveryRunHasFallsApart}
use Rattle.run_laws.specs.world_law.NodeLaws.{NodeLaws}
use Rattle.std.specs.Prelude.{List}
use Rattle.token_law.specs.Laws.{ActiveEpochsPromised, ActsAreLegal, DirtyBlocksLead}
use Rattle.token_protocol.specs.Acts.{LegalActs}
use Rattle.version_model.specs.Legal.{AreLegal}
use Rattle.version_model.specs.declared.act.Act.{Act}
use Rattle.xfs_base.specs.declared.block.BlockId.{BlockId}

-- where no client falls again before it is back, and the acts of each block are legal, the acts are legal
abbrev pub BlocksMakeLegal : Type 0
BlocksMakeLegal = (acts : List Act) → FallsApart acts → ((b : BlockId) → LegalActs (acts_of b acts)) → AreLegal acts

pub record TokensBelow : Type 0 where
  pub nodes : NodeLaws
  pub active_epochs_promised : ActiveEpochsPromised
  pub acts_are_legal : ActsAreLegal
  pub dirty_blocks_lead : DirtyBlocksLead
  pub epochs : EpochLaws
  pub every_run_has_falls_apart : EveryRunHasFallsApart
  pub blocks_make_legal : BlocksMakeLegal
