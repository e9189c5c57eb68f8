-- Whatever a job of the cleaner takes in, what it moves fits the format, if the segments and the rows that it is told of do.
use Rattle.std.proofs.Common.{◌≡◌, ◌<◌, ℕ, ◌+◌, ◌^◌, true, List, [], ◌∷◌, Option, nat_lt, arith}
use Rattle.std.specs.List.{AllByRecursion}
use Rattle.std.proofs.lemmas.Bool.Decides.{nat_tests}
use Rattle.xfs_base.specs.declared.block.BlockId.{BlockId}
use Rattle.xfs_base.specs.declared.entry.Entry.{Entry}
use Rattle.xfs_base.specs.Limits.{u32_end}
use Rattle.segment_format.specs.declared.segment.Item.{Item}
use Rattle.segment_format.specs.declared.segment.Item.TheVariants.{Block, Delta, Part}
use Rattle.segment_format.specs.Ranges.{FitsRow}
use Rattle.stripe_cleaner.specs.CleaningState.{CleaningState}
use Rattle.stripe_cleaner.specs.Checks.{checks_of}
use Rattle.stripe_cleaner.specs.declared.input.In.{In as Input}
use Rattle.stripe_cleaner.specs.declared.output.Out.{Out}
use Rattle.stripe_cleaner.specs.declared.phase.Phase.{Phase}
use Rattle.stripe_cleaner.specs.declared.phase.Phase.TheVariants.{Greeting, Checking}
use Rattle.stripe_cleaner.specs.Transition.{Done, phase_asking, transition}
use Rattle.node_moves.proofs.cleaner_moves.Jobs.{JobLaw, MoveSo, OutSo, InputSo, DoneSo, PhaseSo, phase_asking_so, job_so}
use Rattle.node_logs.specs.cleaner_log_tie.Fitting.{FateFits, CheckFits, PhaseFits}
use Rattle.node_logs.proofs.cleaner_log_tie.Fitting.{ItemFits, SegmentFits}

pub asked_of : (number : ℕ) (items : List Item) → AllByRecursion ItemFits items → AllByRecursion CheckFits (checks_of number items)
asked_of number [] all = tt
asked_of number (Block block value ∷ items) all = (all.0, asked_of (number + 1) items all.1)
asked_of number (Delta block ver hop item ∷ items) all = asked_of (number + 1) items all.1
asked_of number (Part slot rows ∷ items) all = asked_of (number + 1) items all.1

pub once_more : (hop : ℕ) → nat_lt hop u32_end ≡ true → hop + 1 < 2 ^ 32
once_more hop t = grind (arith, nat_tests)

-- a block that is live is put at its version, moved once more; the maps are asked for in time alone
abbrev pub law : JobLaw
law = record {
  FateSo = FateFits;
  LiveSo = λ block entry. FitsRow (block, entry);
  ReadSo = SegmentFits;
  Greets = ⊥;
  moved = λ block. tt;
  dead = λ block. tt;
  reads = λ s fits. asked_of 0 s.items fits;
  lives = λ block told entry value same row may h.
      record { row = (h.block, row.1, once_more entry.hop may, row.3); length = h.length; bytes = h.bytes };
}

-- a block that is moved can be put
abbrev pub MoveFits : BlockId × Entry × Option (List ℕ) → Type 0
MoveFits one = MoveSo law one

abbrev pub OutFits : Out → Type 0
OutFits o = OutSo law o

-- what it takes in fits, and isn't time
abbrev pub InputFits : Input → Type 0
InputFits i = InputSo law i

pub record DoneFits (d : Done) : Type 0 where
  pub phase : PhaseFits d.state.phase
  pub outs : AllByRecursion OutFits d.outs

as_known : (p : Phase) → PhaseFits p → PhaseSo law p
as_known (Checking j seg checks) h = h
as_known _ h = tt

as_fits : (p : Phase) → PhaseSo law p → PhaseFits p
as_fits (Checking j seg checks) h = h
as_fits _ h = tt

pub cleaning_fits : (s : CleaningState) (i : Input) → PhaseFits s.phase → InputFits i → DoneFits (transition s i)
cleaning_fits s i h fits =
    let d : DoneSo law (transition s i) = job_so law s i (as_known s.phase h) fits in record { phase = as_fits (transition s i).state.phase d.phase; outs = d.outs }

pub awaits_fit : (p : Phase) → (p ≡ Greeting → ⊥) → AllByRecursion OutFits (phase_asking p)
awaits_fit p late = phase_asking_so law p late
