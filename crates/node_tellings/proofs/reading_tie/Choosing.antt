-- What each input makes of a job of the cleaner: what it is about was met, and so was each segment that it has the node read.
use Rattle.std.proofs.Common.{Some, None}
use Rattle.std.specs.List.{AllByRecursion}
use Rattle.stripe_cleaner.specs.Checks.{checks_of}
use Rattle.stripe_cleaner.specs.CleaningState.{CleaningState}
use Rattle.stripe_cleaner.specs.declared.checks.Check.{Check}
use Rattle.stripe_cleaner.specs.declared.input.In.{In as Input}
use Rattle.stripe_cleaner.specs.declared.input.In.TheVariants as input
use Rattle.stripe_cleaner.specs.declared.output.Out.{Out}
use Rattle.stripe_cleaner.specs.declared.output.Out.TheVariants as out
use Rattle.stripe_cleaner.specs.declared.phase.Phase.{Phase}
use Rattle.stripe_cleaner.specs.declared.phase.Phase.TheVariants.{Greeting, Listing, Counting, Over}
use Rattle.stripe_cleaner.specs.Transition.{Done, transition}
use Rattle.xfs_base.proofs.Alls.{all_each, all_weaker}
use Rattle.node_moves.proofs.cleaner_moves.JobWalk.{WalkLaw, SegmentsSo, InputSo, OutSo, DoneSo, any_checks, any_live, walk_so}
use Rattle.node_tellings.specs.reading_tie.CleanerMeets.{Met, RefMet, PhaseMet}

module _ (met : Met) where
  -- a segment that the node is to read was met
  abbrev pub OutMet : Out → Type 0
  OutMet (out.Fetch seg) = RefMet met seg
  OutMet _ = Unit {0}

  -- what is listed was met
  abbrev pub InputMet : Input → Type 0
  InputMet (input.Listed server held) = AllByRecursion (λ m. met m.name m.group) held
  InputMet _ = Unit {0}

  pub record Leaves (d : Done) : Type 0 where
    pub phase : PhaseMet met d.state.phase
    pub outs : AllByRecursion OutMet d.outs

  -- what is chosen was listed
  abbrev law : WalkLaw
  law = record {
    FateSo = λ block fate. Unit {0};
    LiveSo = λ block entry fate. Unit {0};
    ReadSo = λ s. Unit {0};
    Greets = Unit {0};
    SlotsSo = λ slots. Unit {0};
    HeldSo = λ meta. met meta.name meta.group;
    SegmentSo = met;
    moved = λ block. tt;
    dead = λ block. tt;
    reads = λ s known. all_each (λ (c : Check). Unit {0}) (λ c. tt) (checks_of 0 s.items);
    lives = λ block told entry value same live may h. tt;
    chooses = λ slots meta judges held fact. held;
  }

  as_known : (p : Phase) → PhaseMet met p → SegmentsSo law p
  as_known Greeting h = tt
  as_known (Listing l) h = (tt, h)
  as_known (Counting c) h = h
  as_known Over h = tt
  as_known _ h = record { here = h.here; behind = h.behind }

  as_met : (p : Phase) → SegmentsSo law p → PhaseMet met p
  as_met Greeting h = tt
  as_met (Listing l) h = h.1
  as_met (Counting c) h = h
  as_met Over h = tt
  as_met _ h = record { here = h.here; behind = h.behind }

  as_owed : (p : Phase) (i : Input) → InputMet i → InputSo law p i
  as_owed p (input.Listed server held) fact = fact
  as_owed p (input.Read (Some segment)) fact = tt
  as_owed p (input.Read None) fact = tt
  as_owed p (input.Live block epoch entry) fact = any_live law block entry (λ fate. tt) p
  as_owed p _ fact = tt

  out_met : (o : Out) → OutSo law o → OutMet o
  out_met (out.Fetch seg) so = so
  out_met _ so = tt

  pub cleaning_met : (s : CleaningState) (i : Input) → InputMet i → PhaseMet met s.phase → Leaves (transition s i)
  cleaning_met s i fact h =
      let d : DoneSo law (transition s i) =
      walk_so law s i (record { segments = as_known s.phase h; checks = any_checks law (λ block fate. tt) s.phase }) (as_owed s.phase i fact) in
      record { phase = as_met (transition s i).state.phase d.phase.segments; outs = all_weaker (OutSo law) OutMet out_met (transition s i).outs d.outs }
