-- The checks of a segment: their blocks, and which of them are dead.
use Rattle.std.proofs.Common.{◌≡◌, ℕ, ◌+◌, Bool, true, false, List, [], ◌∷◌, map, refl, ap}
use Rattle.std.specs.Prelude.{◌||◌}
use Rattle.std.specs.List.{AllByRecursion, list_any}
use Rattle.std.proofs.lemmas.Bool.{false≢true}
use Rattle.segment_format.specs.declared.segment.Item.{Item}
use Rattle.segment_format.specs.declared.segment.Item.TheVariants.{Block, Delta, Part}
use Rattle.xfs_base.specs.declared.block.BlockId.{BlockId}
use Rattle.xfs_base.specs.declared.entry.Entry.{Entry}
use Rattle.xfs_base.specs.Blocks.{same_block}
use Rattle.xfs_base.proofs.BlockOrder.{same_block_exact}
use Rattle.xfs_base.proofs.Booleans.{by_test, and_first, and_second}
use Rattle.stripe_cleaner.specs.declared.checks.Check.{Check}
use Rattle.stripe_cleaner.specs.declared.checks.Fate.{Fate}
use Rattle.stripe_cleaner.specs.declared.checks.Fate.TheVariants as fate
use Rattle.stripe_cleaner.specs.Checks.{checks_of, after_live, after_dead, after_moved, live_at, dead_at, is_dead, all_dead}
use Rattle.stripe_cleaner.specs.Histories.{blocks_of}

pub blocks-checks : (n : ℕ) (items : List Item) → map (λ (c : Check). c.block) (checks_of n items) ≡ blocks_of items
blocks-checks n [] = refl
blocks-checks n (Block block value ∷ items) = ap (λ bs. block ∷ bs) (blocks-checks (n + 1) items)
blocks-checks n (Delta block ver hop item ∷ items) = blocks-checks (n + 1) items
blocks-checks n (Part slot rows ∷ items) = blocks-checks (n + 1) items

pub blocks-map : (g : Check → Check) → ((c : Check) → (g c).block ≡ c.block) → (checks : List Check)
    → map (λ (c : Check). c.block) (map g checks) ≡ map (λ (c : Check). c.block) checks
blocks-map g same [] = refl
blocks-map g same (c ∷ cs) = λ k. same c k ∷ blocks-map g same cs k

pub all-map : (P Q : Check → Type 0) (g : Check → Check) → ((c : Check) → P c → Q (g c)) → (checks : List Check) → AllByRecursion P checks
    → AllByRecursion Q (map g checks)
all-map P Q g keeps [] all = tt
all-map P Q g keeps (c ∷ cs) all = (keeps c all.0, all-map P Q g keeps cs all.1)

pub all-each : (P : Check → Type 0) → ((c : Check) → P c) → (checks : List Check) → AllByRecursion P checks
all-each P each [] = tt
all-each P each (c ∷ cs) = (each c, all-each P each cs)

-- where each check is dead and one is of the block, what holds of such holds
pub of_dead : (b : BlockId) (X : Type 0) (checks : List Check) → all_dead checks ≡ true → list_any (same_block b) (map (λ (c : Check). c.block) checks) ≡ true
    → AllByRecursion (λ (c : Check). c.block ≡ b → is_dead c.fate ≡ true → X) checks → X
of_dead b X [] dead any all = absurd (false≢true any)
of_dead b X (c ∷ cs) dead any all = by (λ rest. of_dead b X cs (and_second (is_dead c.fate) (all_dead cs) dead) rest all.1) (same_block b c.block) refl any
  where
    by : (list_any (same_block b) (map (λ (d : Check). d.block) cs) ≡ true → X) → (t : Bool) → same_block b c.block ≡ t
        → (t || list_any (same_block b) (map (λ (d : Check). d.block) cs)) ≡ true → X
    by on true same _ = all.0 (same_block_exact b c.block same) (and_first (is_dead c.fate) (all_dead cs) dead)
    by on false _ rest = on rest

pub live_stays : (entry : Entry) (x : Fate) → is_dead (after_live entry x) ≡ true → is_dead x ≡ true
live_stays entry (fate.Asked value) h = absurd (false≢true h)
live_stays entry (fate.Live e value) h = absurd (false≢true h)
live_stays entry fate.Moved h = absurd (false≢true h)
live_stays entry fate.Dead h = refl

pub moved_stays : (x : Fate) → is_dead (after_moved x) ≡ true → is_dead x ≡ true
moved_stays (fate.Asked value) h = absurd (false≢true h)
moved_stays (fate.Live e value) h = absurd (false≢true h)
moved_stays fate.Moved h = absurd (false≢true h)
moved_stays fate.Dead h = refl

pub live_block : (block : BlockId) (entry : Entry) (c : Check) → (live_at block entry c).block ≡ c.block
live_block block entry c =
    by_test (λ (d : Check). d.block ≡ c.block) (same_block c.block block) (record c { fate = after_live entry c.fate }) c (λ t. refl) (λ t. refl)

pub dead_block : (block : BlockId) (c : Check) → (dead_at block c).block ≡ c.block
dead_block block c = by_test (λ (d : Check). d.block ≡ c.block) (same_block c.block block) (record c { fate = after_dead c.fate }) c (λ t. refl) (λ t. refl)

pub none_dead : (n : ℕ) (items : List Item) → AllByRecursion (λ (c : Check). is_dead c.fate ≡ false) (checks_of n items)
none_dead n [] = tt
none_dead n (Block block value ∷ items) = (refl, none_dead (n + 1) items)
none_dead n (Delta block ver hop item ∷ items) = none_dead (n + 1) items
none_dead n (Part slot rows ∷ items) = none_dead (n + 1) items
