-- The acts of a run up to a moment that stands to the small world of tokens of each slot are legal: those of each block are, in the small world of its slot.
use Rattle.std.proofs.Common.{ℕ, ◌<◌, subst}
use Rattle.act_tie.specs.BlockActs.{acts_of}
use Rattle.version_model.specs.Falls.{FallsApart}
use Rattle.node_slots.proofs.node_tie.SmallWorld.{with_promise}
use Rattle.token_law.specs.Laws.{ActsAreLegal}
use Rattle.token_protocol.specs.Acts.{LegalActs}
use Rattle.version_model.specs.Legal.{AreLegal}
use Rattle.run_laws.proofs.world_law.RegistryTurns.{slot_below}
use Rattle.run_laws.specs.world_law.Standing.{members}
use Rattle.headline.specs.Moments.{moment}
use Rattle.run_laws.specs.world_reads.TokensBelow.{BlocksMakeLegal}
use Rattle.run_laws.specs.world_reads.Joint.{Joint, k}
use Rattle.run_laws.specs.world_reads.LoggedRuns.{LoggedRun}
use Rattle.xfs_base.specs.Blocks.{slot_of}
use Rattle.xfs_base.specs.declared.block.BlockId.{BlockId}
use Rattle.xfs_base.proofs.Booleans.{equal_itself}
use Rattle.xfs_base.specs.Limits.{slot_count}

module _ (law : ActsAreLegal) (blocks : BlocksMakeLegal) (logged : LoggedRun) (count : ℕ) (apart : FallsApart (moment logged.estate count).acts)
    (joints : (part : ℕ) → part < slot_count → Joint logged part count) where
  open logged use {estate as e}

  pub of_block : (b : BlockId) → LegalActs (acts_of b (moment e count).acts)
  of_block b =
      subst (λ acts. LegalActs (acts_of b acts)) joint.tokens_stand.acts
      (law (members (k logged part) part) part (with_promise 1 joint.tok.net) b
      (record { run = joint.tokens_stand.runs; inside = equal_itself part }))
    where
      part : ℕ
      part = slot_of b.ino.0

      joint : Joint logged part count
      joint = joints part (slot_below b.ino.0)

  pub acts_are_legal : AreLegal (moment e count).acts
  acts_are_legal = blocks (moment e count).acts apart of_block
