-- Whatever a job of the cleaner takes in, what it is to move was answered Live.
use Rattle.std.proofs.Common.{ℕ, ◌+◌, List, [], ◌∷◌, refl, subst}
use Rattle.std.specs.List.{AllByRecursion}
use Rattle.xfs_base.proofs.BlockOrder.{same_block_exact}
use Rattle.segment_format.specs.declared.segment.Item.{Item}
use Rattle.segment_format.specs.declared.segment.Item.TheVariants.{Block, Delta, Part}
use Rattle.stripe_cleaner.specs.CleaningState.{CleaningState}
use Rattle.stripe_cleaner.specs.Checks.{checks_of}
use Rattle.stripe_cleaner.specs.declared.input.In.{In as Input}
use Rattle.stripe_cleaner.specs.declared.output.Out.{Out}
use Rattle.stripe_cleaner.specs.declared.phase.Phase.{Phase}
use Rattle.stripe_cleaner.specs.declared.phase.Phase.TheVariants.{Checking}
use Rattle.stripe_cleaner.specs.Transition.{Done, transition}
use Rattle.index_tie.specs.Net.{Packet}
use Rattle.node_moves.proofs.cleaner_moves.Jobs.{JobLaw, OutSo, InputSo, DoneSo, PhaseSo, job_so}
use Rattle.node_slots.specs.owner_index_tie.CleanerMoves.{WasLive, FateMoves, CheckMoves, PhaseMoves}

module _ (part : ℕ) (sent : List Packet) where
  pub asked_of : (number : ℕ) (items : List Item) → AllByRecursion (CheckMoves part sent) (checks_of number items)
  asked_of number [] = tt
  asked_of number (Block block value ∷ items) = (tt, asked_of (number + 1) items)
  asked_of number (Delta block ver hop item ∷ items) = asked_of (number + 1) items
  asked_of number (Part slot rows ∷ items) = asked_of (number + 1) items

  -- a block that is live is moved once
  abbrev pub law : JobLaw
  law = record {
    FateSo = FateMoves part sent;
    LiveSo = WasLive part sent;
    ReadSo = λ s. Unit {0};
    Greets = Unit {0};
    moved = λ block. tt;
    dead = λ block. tt;
    reads = λ s known. asked_of 0 s.items;
    lives = λ block told entry value same live may h. record {
      entry = entry;
      answered = subst (λ b. WasLive part sent b entry) (same_block_exact block told same) live;
      version = refl;
      hop = refl;
    };
  }

  abbrev pub OutFits : Out → Type 0
  OutFits o = OutSo law o

  -- a Live that it takes was answered
  abbrev pub InputFits : Input → Type 0
  InputFits i = InputSo law i

  pub record DoneFits (d : Done) : Type 0 where
    pub phase : PhaseMoves part sent d.state.phase
    pub outs : AllByRecursion OutFits d.outs

  as_known : (p : Phase) → PhaseMoves part sent p → PhaseSo law p
  as_known (Checking j seg checks) h = h
  as_known _ h = tt

  as_moves : (p : Phase) → PhaseSo law p → PhaseMoves part sent p
  as_moves (Checking j seg checks) h = h
  as_moves _ h = tt

  pub cleaning_fits : (s : CleaningState) (i : Input) → PhaseMoves part sent s.phase → InputFits i → DoneFits (transition s i)
  cleaning_fits s i h fits =
      let d : DoneSo law (transition s i) = job_so law s i (as_known s.phase h) fits in
      record { phase = as_moves (transition s i).state.phase d.phase; outs = d.outs }
