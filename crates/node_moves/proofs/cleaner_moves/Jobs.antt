-- What a law of blocks alone has to show of the few things that become of a block while a segment is emptied: what it knows of each block then stands, whatever
-- a job of the cleaner takes in, and so is known of what it is to move.
use Rattle.std.proofs.Common.{◌≡◌, ℕ, true, List, Option, Some, None}
use Rattle.std.specs.List.{AllByRecursion}
use Rattle.xfs_base.proofs.Alls.{all_each, all_weaker}
use Rattle.xfs_base.specs.Blocks.{same_block}
use Rattle.xfs_base.specs.declared.block.BlockId.{BlockId}
use Rattle.xfs_base.specs.declared.entry.Entry.{Entry}
use Rattle.segment_format.specs.declared.segment.Segment.{Segment}
use Rattle.stripe_cleaner.specs.Checks.{moved_once, checks_of}
use Rattle.stripe_cleaner.specs.CleaningState.{CleaningState}
use Rattle.stripe_cleaner.specs.declared.checks.Check.{Check}
use Rattle.stripe_cleaner.specs.declared.checks.Fate.{Fate}
use Rattle.stripe_cleaner.specs.declared.checks.Fate.TheVariants.{Asked, Live, Moved, Dead}
use Rattle.stripe_cleaner.specs.declared.input.In.{In as Input}
use Rattle.stripe_cleaner.specs.declared.input.In.TheVariants as input
use Rattle.stripe_cleaner.specs.declared.output.Out.{Out}
use Rattle.stripe_cleaner.specs.declared.output.Out.TheVariants as out
use Rattle.stripe_cleaner.specs.declared.phase.Phase.{Phase}
use Rattle.stripe_cleaner.specs.declared.phase.Phase.TheVariants.{Greeting}
use Rattle.stripe_cleaner.specs.Transition.{Done, phase_asking, may_move, transition}
use Rattle.node_moves.proofs.cleaner_moves.JobWalk.{WalkLaw, SegmentsSo, ChecksSo, any_segments, any_live, walk_so}
use Rattle.node_moves.proofs.cleaner_moves.JobWalk as walk

pub record JobLaw : Type 1 where
  -- what is known of a block by its fate, of an entry that a Live tells, of a segment that is read, and where the maps are asked for
  pub FateSo : BlockId → Fate → Type 0
  pub LiveSo : BlockId → Entry → Type 0
  pub ReadSo : Segment → Type 0
  pub Greets : Type 0
  -- nothing of a block that was moved, or is dead
  pub moved : (block : BlockId) → FateSo block Moved
  pub dead : (block : BlockId) → FateSo block Dead
  pub reads : (s : Segment) → ReadSo s → AllByRecursion (λ (c : Check). FateSo c.block c.fate) (checks_of 0 s.items)
  -- what is live is to be moved once
  pub lives : (block told : BlockId) (entry : Entry) (value : Option (List ℕ)) → same_block block told ≡ true → LiveSo told entry → may_move entry ≡ true
      → FateSo block (Asked value) → FateSo block (Live (moved_once entry) value)

module _ (w : JobLaw) where
  -- of segments nothing is known, and what a Live tells is so whatever the fate
  abbrev as_walk : WalkLaw
  as_walk = record {
    FateSo = w.FateSo;
    LiveSo = λ block entry fate. w.LiveSo block entry;
    ReadSo = w.ReadSo;
    Greets = w.Greets;
    SlotsSo = λ slots. Unit {0};
    HeldSo = λ meta. Unit {0};
    SegmentSo = λ name group. Unit {0};
    moved = w.moved;
    dead = w.dead;
    reads = w.reads;
    lives = w.lives;
    chooses = λ slots meta judges held fact. tt;
  }

  abbrev pub PhaseSo : Phase → Type 0
  PhaseSo p = ChecksSo as_walk p

  -- of a block that is to be moved, so much is known where it is moved
  abbrev pub MoveSo : BlockId × Entry × Option (List ℕ) → Type 0
  MoveSo one = w.FateSo one.0 (Live one.1 one.2)

  abbrev pub OutSo : Out → Type 0
  OutSo out.Hello = w.Greets
  OutSo (out.Move blocks) = AllByRecursion MoveSo blocks
  OutSo _ = Unit {0}

  abbrev pub InputSo : Input → Type 0
  InputSo (input.Read (Some segment)) = w.ReadSo segment
  InputSo (input.Read None) = Unit {0}
  InputSo (input.Live block epoch entry) = w.LiveSo block entry
  InputSo input.Tick = w.Greets
  InputSo _ = Unit {0}

  pub record DoneSo (d : Done) : Type 0 where
    pub phase : PhaseSo d.state.phase
    pub outs : AllByRecursion OutSo d.outs

  none_of : (p : Phase) → SegmentsSo as_walk p
  none_of p = any_segments as_walk (λ slots. tt) (λ name group. tt) p

  in_walk : (p : Phase) (i : Input) → InputSo i → walk.InputSo as_walk p i
  in_walk p (input.Listed server held) so = all_each (λ _. Unit {0}) (λ _. tt) held
  in_walk p (input.Read (Some segment)) so = so
  in_walk p (input.Read None) so = so
  in_walk p (input.Live block epoch entry) so = any_live as_walk block entry (λ fate. so) p
  in_walk p input.Tick so = so
  in_walk p _ so = tt

  out_so : (o : Out) → walk.OutSo as_walk o → OutSo o
  out_so out.Hello so = so
  out_so (out.Move blocks) so = so
  out_so _ so = tt

  pub phase_asking_so : (p : Phase) → (p ≡ Greeting → w.Greets) → AllByRecursion OutSo (phase_asking p)
  phase_asking_so p first = all_weaker (walk.OutSo as_walk) OutSo out_so (phase_asking p) (walk.phase_asking_so as_walk p (none_of p) first)

  pub job_so : (s : CleaningState) (i : Input) → PhaseSo s.phase → InputSo i → DoneSo (transition s i)
  job_so s i h so =
      let d : walk.DoneSo as_walk (transition s i) = walk_so as_walk s i (record { segments = none_of s.phase; checks = h }) (in_walk s.phase i so) in
      record { phase = d.phase.checks; outs = all_weaker (walk.OutSo as_walk) OutSo out_so (transition s i).outs d.outs }
