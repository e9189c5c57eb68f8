-- One step of a loop.
use Rattle.std.proofs.Common.{◌≡◌, ℕ, suc, ◌+◌, ◌-◌, ◌<◌, Bool, true, false, cond, List, [], ◌∷◌, ◌++◌, length, get_or, drop, map, min, take, refl, sym, ap, ◌∙◌, append_assoc, length-append, arith}
use Rattle.std.specs.Prelude.{not, fold}
use Rattle.std.specs.List.{range_with_len}
use Rattle.std.proofs.lemmas.List.{at_drop_more}
use Rattle.segment_format.specs.declared.segment.Item.{Item}
use Rattle.segment_format.specs.declared.segment.Item.TheVariants.{Block, Delta, Part}
use Rattle.segment_format.specs.Rule.{no_item}
use Rattle.xfs_base.specs.declared.segment.SegName.{SegName}
use Rattle.xfs_base.specs.declared.segment.SegRef.{SegRef}
use Rattle.stripe_cleaner.specs.declared.checks.Check.{Check}
use Rattle.stripe_cleaner.specs.declared.checks.Fate.TheVariants.{Asked}
use Rattle.stripe_cleaner.specs.declared.counting.Fullness.{Fullness}
use Rattle.stripe_cleaner.specs.Checks.{check_of, checks_of}
use Rattle.stripe_cleaner.specs.declared.output.Out.TheVariants.{UsageAsk}
use Rattle.stripe_cleaner.specs.Counting.{segment_at, has_usage, awaited_among, live_in}
use Rattle.stripe_cleaner.specs.Transition.{usage_asks}

-- the server that comes, and those after it
pub servers_step : (i n : ℕ) → i < n
    → map (λ before. before + 1) (range_with_len i (n - i)) ≡ (i + 1) ∷ map (λ before. before + 1) (range_with_len (i + 1) (n - (i + 1)))
servers_step i n lt =
    let k : n - i ≡ suc (n - (i + 1)) = omega arith in
    ap (λ m. map (λ before. before + 1) (range_with_len i m)) k

-- a number past the end of its type stands for each such number
same_item : (n : ℕ) (i : Item) → check_of (min n no_item) i ≡ check_of n i
same_item n (Block block value) = let e : min (min n no_item) no_item ≡ min n no_item =
    omega arith in ap (λ item. record { block = block; item = item; fate = Asked value } ∷ []) e
same_item n (Delta block ver hop item) = refl
same_item n (Part slot rows) = refl

pub checks_past : (n : ℕ) (items : List Item) → checks_of (min n no_item) items ≡ checks_of n items
checks_past n [] = refl
checks_past n (i ∷ rest) =
    let e : min (min n no_item + 1) no_item ≡ min (n + 1) no_item = omega arith in
    let later : checks_of (min n no_item + 1) rest ≡ checks_of (n + 1) rest =
    sym (checks_past (min n no_item + 1) rest) ∙ ap (λ m. checks_of m rest) e ∙ checks_past (n + 1) rest in
    λ k. same_item n i k ++ later k

-- the segment that comes is the next of those that are chosen
pub first_step : (left : List SegRef) (count : ℕ) (e : Fullness × ℕ) (rest : List (Fullness × ℕ)) → length left < count
    → (left ++ segment_at e ∷ []) ++ map segment_at (take (count - length (left ++ segment_at e ∷ [])) rest) ≡ left
    ++ map segment_at (take (count - length left) (e ∷ rest))
first_step left count e rest lt =
    let l : length (left ++ segment_at e ∷ []) ≡ length left + 1 = length-append left (segment_at e ∷ []) in
    let k : count - length left ≡ suc (count - length (left ++ segment_at e ∷ [])) = omega (arith, l) in
    append_assoc left (segment_at e ∷ []) (map segment_at (take (count - length (left ++ segment_at e ∷ [])) rest))
    ∙ ap (λ m. left ++ map segment_at (take m (e ∷ rest))) (sym k)

-- the checks of the item that comes, and of those after it
pub checks_more : (checks new all : List Check) (n m : ℕ) (item : Item) (rest : List Item) → m ≡ min (n + 1) no_item → new ≡ checks ++ check_of n item
    → checks ++ checks_of n (item ∷ rest) ≡ all
    → new ++ checks_of m rest ≡ all
checks_more checks new all n m item rest next added whole =
    ap (λ c. c ++ checks_of m rest) added ∙ append_assoc checks (check_of n item) (checks_of m rest)
    ∙ ap (λ c. checks ++ (check_of n item ++ c)) (ap (λ k. checks_of k rest) next ∙ checks_past (n + 1) rest) ∙ whole

asks_cons : (b : Bool) (slot : ℕ) (rest : List ℕ) → usage_asks (cond b (slot ∷ rest) rest) ≡ cond b (UsageAsk slot ∷ []) [] ++ usage_asks rest
asks_cons true slot rest = refl
asks_cons false slot rest = refl

-- the question of the slot that comes, and those of the slots after it
pub asks_step : (usages : List (ℕ × List (SegName × ℕ))) (slots : List ℕ) (i d : ℕ) → i < length slots
    → usage_asks (awaited_among usages (drop i slots)) ≡ cond (not (has_usage usages (get_or slots i d))) (UsageAsk (get_or slots i d) ∷ []) []
    ++ usage_asks (awaited_among usages (drop (i + 1) slots))
asks_step usages slots i d lt =
    at_drop_more (λ ss. usage_asks (awaited_among usages ss)) slots i d lt
    ∙ asks_cons (not (has_usage usages (get_or slots i d))) (get_or slots i d) (awaited_among usages (drop (i + 1) slots))

-- the live blocks in the slot that comes, on those before it, and those in the slots after it
pub live_step : (usages : List (ℕ × List (SegName × ℕ))) (name : SegName) (live : ℕ) (slots : List ℕ) (i d : ℕ) → i < length slots
    → fold (λ sum slot. sum + live_in usages name slot) live (drop i slots) ≡ fold (λ sum slot. sum + live_in usages name slot)
    (live + live_in usages name (get_or slots i d)) (drop (i + 1) slots)
live_step usages name live slots i d lt = at_drop_more (fold (λ sum slot. sum + live_in usages name slot) live) slots i d lt
