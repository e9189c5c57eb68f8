-- Whatever a job of the cleaner takes in, what it moves are copies of what filed segments say, if what it is told to be live is.
use Rattle.std.proofs.Common.{◌≡◌, ℕ, true, ◌+◌, List, [], ◌∷◌, Option, Some, None, subst}
use Rattle.std.specs.List.{AllByRecursion}
use Rattle.xfs_base.proofs.Alls.{all_each, all_weaker}
use Rattle.xfs_base.proofs.BlockOrder.{same_block_exact}
use Rattle.xfs_base.specs.Blocks.{same_block}
use Rattle.xfs_base.specs.declared.block.BlockId.{BlockId}
use Rattle.xfs_base.specs.declared.entry.Entry.{Entry}
use Rattle.segment_format.specs.declared.segment.Item.{Item}
use Rattle.segment_format.specs.declared.segment.Item.TheVariants.{Block, Delta, Part}
use Rattle.stripe_cleaner.specs.Checks.{checks_of}
use Rattle.stripe_cleaner.specs.CleaningState.{CleaningState}
use Rattle.stripe_cleaner.specs.declared.checks.Check.{Check}
use Rattle.stripe_cleaner.specs.declared.checks.Fate.{Fate}
use Rattle.stripe_cleaner.specs.declared.checks.Fate.TheVariants.{Asked, Live}
use Rattle.stripe_cleaner.specs.declared.input.In.{In as Input}
use Rattle.stripe_cleaner.specs.declared.input.In.TheVariants as input
use Rattle.stripe_cleaner.specs.declared.output.Out.{Out}
use Rattle.stripe_cleaner.specs.declared.output.Out.TheVariants as out
use Rattle.stripe_cleaner.specs.declared.phase.Phase.{Phase}
use Rattle.stripe_cleaner.specs.declared.phase.Phase.TheVariants.{Greeting, Listing, Counting, Reading, Checking, Deleting, Over}
use Rattle.stripe_cleaner.specs.Transition.{Done, transition}
use Rattle.token_law.specs.Books.{Books}
use Rattle.node_moves.proofs.cleaner_moves.JobWalk.{WalkLaw, ChecksSo, InputSo, LiveIn, OutSo, DoneSo, any_segments, walk_so}
use Rattle.node_slots.specs.node_tie.CleanerLogs.{IsCopy, FateCopies, PhaseCopies, FateTold, PhaseTold}
use Rattle.node_slots.proofs.node_tie.BooksLast.{Lasts}
use Rattle.node_slots.proofs.node_tie.CleanerBooks.{copy_grown}

module _ (k : Books) where
  abbrev CheckCopies : Check → Type 0
  CheckCopies c = FateCopies k c.block c.fate

  -- a block that is moved is a copy
  abbrev pub MoveCopies : BlockId × Entry × Option (List ℕ) → Type 0
  MoveCopies one = IsCopy k one.0 (record { version = one.1.ver; value = one.2 })

  abbrev pub OutCopies : Out → Type 0
  OutCopies (out.Move blocks) = AllByRecursion MoveCopies blocks
  OutCopies _ = Unit {0}

  -- what it is told to be live is, in this phase
  abbrev pub InputTold : Phase → Input → Type 0
  InputTold p (input.Live block epoch entry) = PhaseTold k block entry p
  InputTold p _ = Unit {0}

  asked_of : (number : ℕ) (items : List Item) → AllByRecursion CheckCopies (checks_of number items)
  asked_of number [] = tt
  asked_of number (Block block value ∷ items) = (tt, asked_of (number + 1) items)
  asked_of number (Delta block ver hop item ∷ items) = asked_of (number + 1) items
  asked_of number (Part slot rows ∷ items) = asked_of (number + 1) items

  -- a block that is live is moved at its version
  abbrev law : WalkLaw
  law = record {
    FateSo = FateCopies k;
    LiveSo = FateTold k;
    ReadSo = λ s. Unit {0};
    Greets = Unit {0};
    SlotsSo = λ slots. Unit {0};
    HeldSo = λ meta. Unit {0};
    SegmentSo = λ name group. Unit {0};
    moved = λ block. tt;
    dead = λ block. tt;
    reads = λ s known. asked_of 0 s.items;
    lives = λ block told entry value same live may h.
        subst (λ (b : BlockId). IsCopy k b (record { version = entry.ver; value = value })) (same_block_exact block told same) live;
    chooses = λ slots meta judges held fact. tt;
  }

  pub record DoneCopies (d : Done) : Type 0 where
    pub phase : PhaseCopies k d.state.phase
    pub outs : AllByRecursion OutCopies d.outs

  as_known : (p : Phase) → PhaseCopies k p → ChecksSo law p
  as_known (Checking j seg checks) h = h
  as_known _ h = tt

  as_copies : (p : Phase) → ChecksSo law p → PhaseCopies k p
  as_copies (Checking j seg checks) h = h
  as_copies _ h = tt

  live_told : (block : BlockId) (entry : Entry) (p : Phase) → PhaseTold k block entry p → LiveIn law block entry p
  live_told block entry (Checking j seg checks) told = told
  live_told block entry _ told = tt

  as_told : (p : Phase) (i : Input) → InputTold p i → InputSo law p i
  as_told p (input.Listed server held) told = all_each (λ _. Unit {0}) (λ _. tt) held
  as_told p (input.Read (Some segment)) told = tt
  as_told p (input.Read None) told = tt
  as_told p (input.Live block epoch entry) told = live_told block entry p told
  as_told p _ told = tt

  out_copies : (o : Out) → OutSo law o → OutCopies o
  out_copies (out.Move blocks) so = so
  out_copies _ so = tt

  pub cleaning_copies : (s : CleaningState) (i : Input) → PhaseCopies k s.phase → InputTold s.phase i → DoneCopies (transition s i)
  cleaning_copies s i h told =
      let d : DoneSo law (transition s i) =
      walk_so law s i (record { segments = any_segments law (λ slots. tt) (λ name group. tt) s.phase; checks = as_known s.phase h }) (as_told s.phase i told) in
      record { phase = as_copies (transition s i).state.phase d.phase.checks; outs = all_weaker (OutSo law) OutCopies out_copies (transition s i).outs d.outs }

-- what is to be moved stays so as the books grow
pub phase_grown : (k m : Books) → Lasts k m → (p : Phase) → PhaseCopies k p → PhaseCopies m p
phase_grown k m grown (Checking j seg checks) h =
    all_weaker (λ (c : Check). FateCopies k c.block c.fate) (λ (c : Check). FateCopies m c.block c.fate) (λ c. by c.block c.fate) checks h
  where
    by : (block : BlockId) (fate : Fate) → FateCopies k block fate → FateCopies m block fate
    by block (Live e value) copy = copy_grown k m grown block _ copy
    by block _ copy = tt
phase_grown k m grown Greeting h = tt
phase_grown k m grown (Listing l) h = tt
phase_grown k m grown (Counting c) h = tt
phase_grown k m grown (Reading j seg) h = tt
phase_grown k m grown (Deleting j seg servers) h = tt
phase_grown k m grown Over h = tt

-- and what it is told to be live is so still
pub told_grown : (k m : Books) → Lasts k m → (block : BlockId) (entry : Entry) (p : Phase) → PhaseTold k block entry p → PhaseTold m block entry p
told_grown k m grown block entry (Checking j seg checks) h =
    all_weaker (λ (c : Check). same_block c.block block ≡ true → FateTold k block entry c.fate)
    (λ (c : Check). same_block c.block block ≡ true → FateTold m block entry c.fate) (λ c told same. by c.fate (told same)) checks h
  where
    by : (fate : Fate) → FateTold k block entry fate → FateTold m block entry fate
    by (Asked value) copy = copy_grown k m grown block _ copy
    by _ copy = tt
told_grown k m grown block entry _ h = tt
