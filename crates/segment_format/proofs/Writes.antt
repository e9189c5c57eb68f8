-- What stands behind several writes, one after the other.
use Rattle.std.proofs.Common.{◌≡◌, ℕ, ◌+◌, List, [], ◌∷◌, ◌++◌, length, refl, ap, ◌∙◌, append_assoc, arith}
use Rattle.segment_format.specs.declared.segment.Item.{Item}
use Rattle.segment_format.specs.declared.segment.Item.TheVariants.{Block, Delta, Part}
use Rattle.segment_format.specs.Rule.{deltas_in, others_in}

-- two writes are the write of both
pub wrote_2 : (old a b : List ℕ) {m n : List ℕ} → m ≡ old ++ a → n ≡ m ++ b → n ≡ old ++ (a ++ b)
wrote_2 old a b first second = second ∙ ap (λ x. x ++ b) first ∙ append_assoc old a b

pub wrote_3 : (old a b c : List ℕ) {m n o : List ℕ} → m ≡ old ++ a → n ≡ m ++ b → o ≡ n ++ c → o ≡ old ++ (a ++ b ++ c)
wrote_3 old a b c first second third = wrote_2 old (a ++ b) c (wrote_2 old a b first second) third

pub wrote_4 : (old a b c d : List ℕ) {m n o p : List ℕ} → m ≡ old ++ a → n ≡ m ++ b → o ≡ n ++ c → p ≡ o ++ d → p ≡ old ++ (a ++ b ++ c ++ d)
wrote_4 old a b c d first second third fourth = wrote_2 old (a ++ b ++ c) d (wrote_3 old a b c first second third) fourth

pub wrote_5 : (old a b c d e : List ℕ) {m n o p q : List ℕ} → m ≡ old ++ a → n ≡ m ++ b → o ≡ n ++ c → p ≡ o ++ d → q ≡ p ++ e
    → q ≡ old ++ (a ++ b ++ c ++ d ++ e)
wrote_5 old a b c d e first second third fourth fifth = wrote_2 old (a ++ b ++ c ++ d) e (wrote_4 old a b c d first second third fourth) fifth

-- each item is a Delta, or a Block or Part
pub kinds_count : (items : List Item) → length items ≡ others_in items + deltas_in items
kinds_count [] = refl
kinds_count (Block block value ∷ rest) = let h = kinds_count rest in omega arith
kinds_count (Delta block ver hop item ∷ rest) = let h = kinds_count rest in omega arith
kinds_count (Part slot rows ∷ rest) = let h = kinds_count rest in omega arith
