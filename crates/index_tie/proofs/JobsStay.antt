-- A job that begins is seen as the cleaner, and is seen as before while more is filed.
use Rattle.std.proofs.Common.{◌≡◌, ℕ, ◌<◌, ◌≤◌, ◌⊎◌, inl, inr, Bool, true, false, List, [], ◌∷◌, refl, sym, ap, ◌∙◌, arith}
use Rattle.std.specs.Prelude.{nat_lt}
use Rattle.std.specs.List.{AllByRecursion, list_any}
use Rattle.std.proofs.lemmas.Bool.Decides.{nat_tests}
use Rattle.std.proofs.lemmas.List.{get_or-replicate}
use Rattle.std.proofs.Math.ListN.{get_or-eq_default}
use Rattle.segment_format.specs.declared.segment.Segment.{Segment}
use Rattle.xfs_base.specs.declared.block.BlockId.{BlockId}
use Rattle.xfs_base.specs.declared.segment.SegName.{SegName}
use Rattle.xfs_base.specs.Blocks.{slot_of, same_block}
use Rattle.xfs_base.specs.Limits.{slot_count}
use Rattle.stripe_cleaner.specs.declared.checks.Check.{Check}
use Rattle.stripe_cleaner.specs.declared.phase.Phase.{Phase}
use Rattle.stripe_cleaner.specs.declared.phase.Phase.TheVariants.{Checking, Deleting}
use Rattle.stripe_cleaner.specs.Checks.{is_dead}
use Rattle.stripe_cleaner.specs.CleaningState.{cleaning_start}
use Rattle.stripe_cleaner.specs.Histories.{blocks_of}
use Rattle.stripe_cleaner.specs.Job.{counted, same_name}
use Rattle.stripe_cleaner.specs.Promises.{promised_at}
use Rattle.headline.specs.Filed.{Filed, has_block, is_filed_name}
use Rattle.index_tie.specs.Growth.{IsMore}
use Rattle.index_tie.specs.Cleaning.{IsWithin, IsDropped, Known, promise_of, JobsStay, JobsBegin}

pub jobs_begin : JobsBegin
jobs_begin b f w count = record { promised = inl (none_yet (slot_of b.ino.0)); known = tt }
  where
    none_yet : (slot : ℕ) → promised_at (cleaning_start count).promised slot ≡ 0
    none_yet slot = by (nat_lt slot slot_count) refl
      where
        by : (t : Bool) → nat_lt slot slot_count ≡ t → promised_at (cleaning_start count).promised slot ≡ 0
        by true less = get_or-replicate slot_count slot 0 0 (grind (arith, nat_tests))
        by false past = get_or-eq_default (cleaning_start count).promised 0 (grind (arith, nat_tests))

-- ---- more is filed

-- a segment that was filed stays, with its name and its Blocks
record Stays (b : BlockId) (f g : Filed) (name : SegName) : Type 0 where
  same : g.segment name.log.0 name.seq ≡ f.segment name.log.0 name.seq
  its : is_filed_name g name ≡ is_filed_name f name
  has : has_block b g name ≡ has_block b f name
  within : IsWithin g name

segment_stays : (b : BlockId) (f g : Filed) (name : SegName) → IsMore f g → IsWithin f name → Stays b f g name
segment_stays b f g name more within =
    let head = more.head name.log.0 in
    let filed = within.filed in
    let same : g.segment name.log.0 name.seq ≡ f.segment name.log.0 name.seq = more.segment name.log.0 name.seq within.some filed in
    record {
      same = same;
      its = ap (λ (s : Segment). same_name name s.name) same;
      has = ap (λ (s : Segment). list_any (same_block b) (blocks_of s.items)) same;
      within = record { some = within.some; filed = omega arith };
    }

-- what was dropped stays so
pub dropped_stays : (b : BlockId) (f g : Filed) (dropped more_dropped : ℕ → ℕ → ℕ) (name : SegName) → IsMore f g
    → ((l q : ℕ) → dropped l q ≡ 1 → more_dropped l q ≡ 1) → IsDropped b f dropped name → IsDropped b g more_dropped name
dropped_stays b f g dropped more_dropped name more drops k =
    let stays = segment_stays b f g name more k.within in
    record { within = stays.within; row_dropped = λ fact any. drops name.log.0 name.seq (k.row_dropped (sym stays.its ∙ fact) (sym stays.has ∙ any)) }

known_stays : (b : BlockId) (f g : Filed) (dead more_dead dropped more_dropped : ℕ → ℕ → ℕ) (p : Phase) → IsMore f g → ((l q : ℕ) → dead l q ≤ more_dead l q)
    → ((l q : ℕ) → dropped l q ≡ 1 → more_dropped l q ≡ 1) → Known b f dead dropped p
    → Known b g more_dead more_dropped p
known_stays b f g dead more_dead dropped more_dropped (Checking j segment checks) more counted drops k =
    let stays = segment_stays b f g segment.name more k.within in
    record {
      within = stays.within;
      blocks = λ fact. k.blocks (sym stays.its ∙ fact) ∙ sym (ap (λ (s : Segment). blocks_of s.items) stays.same);
      counted = λ fact any. all_more checks (k.counted (sym stays.its ∙ fact) (sym stays.has ∙ any));
    }
  where
    all_more : (cs : List Check) → AllByRecursion (λ (c : Check). c.block ≡ b → is_dead c.fate ≡ true → 0 < dead segment.name.log.0 segment.name.seq) cs
        → AllByRecursion (λ (c : Check). c.block ≡ b → is_dead c.fate ≡ true → 0 < more_dead segment.name.log.0 segment.name.seq) cs
    all_more [] all = tt
    all_more (c ∷ cs) all = ((λ at now. let x = all.0 at now in let y = counted segment.name.log.0 segment.name.seq in omega arith), all_more cs all.1)
known_stays b f g dead more_dead dropped more_dropped (Deleting j segment servers) more counted drops k =
    dropped_stays b f g dropped more_dropped segment.name more drops k
known_stays b f g dead more_dead dropped more_dropped p more counted drops k = tt

pub jobs_stay : JobsStay
jobs_stay b f g w v s more promised counted drops c =
    record { promised = as_before c.promised; known = known_stays b f g w.dead_at v.dead_at w.dropped v.dropped s.phase more counted drops c.known }
  where
    as_before : (promise_of b s ≡ 0) ⊎ (w.promised ≡ promise_of b s) → (promise_of b s ≡ 0) ⊎ (v.promised ≡ promise_of b s)
    as_before (inl none) = inl none
    as_before (inr fact) = inr (promised ∙ fact)
