-- A number is at most another, or above it.
use Rattle.std.proofs.Common.{◌≡◌, ◌⊎◌, ℕ, ◌≤◌, ◌<◌, true, false, nat_le, inl, inr, refl}
use Rattle.std.proofs.lemmas.Bool.{leb-false, leb-true}

pub one_way : (a c : ℕ) → (a ≤ c) ⊎ (c < a)
one_way a c = elim (nat_le a c) as (λ t. nat_le a c ≡ t → (a ≤ c) ⊎ (c < a)) [ true ↦ λ h. inl (leb-true a c h) | false ↦ λ h. inr (leb-false a c h) ] refl
