-- That what a job of the cleaner moves fits the format: it does where the numbers of all packets that come are in the ranges of their types.
use Rattle.std.specs.Prelude.{ℕ, List, Option, IfSome, length}
use Rattle.std.specs.List.{AllByRecursion}
use Rattle.xfs_base.specs.declared.block.BlockId.{BlockId}
use Rattle.segment_format.specs.Format.{second_version, IsLength}
use Rattle.segment_format.specs.Ranges.{FitsBlock, FitsRow}
use Rattle.segment_reading.specs.Reading.{ReadingState}
use Rattle.stripe_code.specs.declared.round.Answer.{Answer}
use Rattle.stripe_code.specs.declared.round.Told.{Told}
use Rattle.stripe_code.specs.declared.round.Told.TheVariants.{Held, Missing}
use Rattle.stripe_code.specs.Round.{RoundSoFar}
use Rattle.stripe_code.specs.Stripe.{IsBytes}
use Rattle.stripe_cleaner.specs.declared.checks.Check.{Check}
use Rattle.stripe_cleaner.specs.declared.checks.Fate.{Fate}
use Rattle.stripe_cleaner.specs.declared.checks.Fate.TheVariants.{Asked, Live}
use Rattle.stripe_cleaner.specs.declared.phase.Phase as phases
use Rattle.stripe_cleaner.specs.declared.phase.Phase.TheVariants.{Checking}
use Rattle.wire_msg.specs.declared.body.Body.{Body}
use Rattle.wire_msg.specs.declared.body.Body.TheVariants as body
use Rattle.cleaner_job.specs.declared.hand.Hand.{Hand}
use Rattle.node_logs.specs.client_log_tie.ClientEvents.{BodyFits}
use Rattle.node_logs.specs.client_log_tie.Texts.{PutFits}

-- ---- what comes

-- The numbers of a packet are in the ranges of their types, as those of each packet that a program holds: the ids of the groups of a map, the row that a Live
-- tells, and the bytes of a fragment.
abbrev pub InRange : Body → Type 0
InRange (body.Live m) = FitsRow (m.block, m.entry)
InRange (body.Fragment m) = IsBytes m.fragment.bytes
InRange b = BodyFits b

-- ---- what a job holds

-- the fragments of a round are bytes
abbrev pub ToldFits : Told → Type 0
ToldFits (Held f) = IsBytes f.bytes
ToldFits (Missing generation) = Unit {0}

abbrev pub RoundFits : RoundSoFar → Type 0
RoundFits r = AllByRecursion (λ (a : Answer). ToldFits a.told) r.answers

abbrev pub HandFits : Hand → Type 0
HandFits hand = IfSome hand.reading (λ (r : ReadingState). RoundFits r.round)

-- a block with its value, as a segment has them
pub record BlockFits (b : BlockId) (value : Option (List ℕ)) : Type 0 where
  pub block : FitsBlock b
  pub length : IfSome value (λ bytes. IsLength second_version (length bytes))
  pub bytes : IfSome value IsBytes

-- a block that is asked for has a value that fits; one that is to be moved can be put so
abbrev pub FateFits : BlockId → Fate → Type 0
FateFits block (Asked value) = BlockFits block value
FateFits block (Live entry value) = PutFits block entry value
FateFits block _ = Unit {0}

abbrev pub CheckFits : Check → Type 0
CheckFits c = FateFits c.block c.fate

abbrev pub PhaseFits : phases.Phase → Type 0
PhaseFits (Checking j seg checks) = AllByRecursion CheckFits checks
PhaseFits _ = Unit {0}
