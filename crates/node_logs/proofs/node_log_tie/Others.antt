-- A node is another one, or not.
use Rattle.std.proofs.Common.{◌≡◌, ◌⊎◌, ℕ, ◌==◌, Bool, true, false, refl, ap, inl, inr, arith}
use Rattle.std.proofs.lemmas.Bool.Decides.{nat_tests}
use Rattle.xfs_base.specs.declared.node.NodeId.{NodeId}
use Rattle.xfs_base.specs.declared.node.NodeId.TheVariants.{Client, Manager, Server, Cleaner, Registry}

number_or_other : (k j : ℕ) → (k ≡ j) ⊎ (k ≡ j → ⊥)
number_or_other k j = by (k == j) refl
  where
    by : (t : Bool) → (k == j) ≡ t → (k ≡ j) ⊎ (k ≡ j → ⊥)
    by true e = inl (grind (arith, nat_tests))
    by false e = inr (λ same. grind (arith, nat_tests))

pub same_or_other : (a b : NodeId) → (a ≡ b) ⊎ (a ≡ b → ⊥)
same_or_other (Client k) (Client j) = elim (number_or_other k j) [ inl e ↦ inl (ap Client e) | inr other ↦ inr (λ e. other cc) ]
same_or_other (Client k) (Manager j) = inr (λ e. absurd cc)
same_or_other (Client k) (Server j) = inr (λ e. absurd cc)
same_or_other (Client k) Cleaner = inr (λ e. absurd cc)
same_or_other (Client k) Registry = inr (λ e. absurd cc)
same_or_other (Manager k) (Client j) = inr (λ e. absurd cc)
same_or_other (Manager k) (Manager j) = elim (number_or_other k j) [ inl e ↦ inl (ap Manager e) | inr other ↦ inr (λ e. other cc) ]
same_or_other (Manager k) (Server j) = inr (λ e. absurd cc)
same_or_other (Manager k) Cleaner = inr (λ e. absurd cc)
same_or_other (Manager k) Registry = inr (λ e. absurd cc)
same_or_other (Server k) (Client j) = inr (λ e. absurd cc)
same_or_other (Server k) (Manager j) = inr (λ e. absurd cc)
same_or_other (Server k) (Server j) = elim (number_or_other k j) [ inl e ↦ inl (ap Server e) | inr other ↦ inr (λ e. other cc) ]
same_or_other (Server k) Cleaner = inr (λ e. absurd cc)
same_or_other (Server k) Registry = inr (λ e. absurd cc)
same_or_other Cleaner (Client j) = inr (λ e. absurd cc)
same_or_other Cleaner (Manager j) = inr (λ e. absurd cc)
same_or_other Cleaner (Server j) = inr (λ e. absurd cc)
same_or_other Cleaner Cleaner = inl refl
same_or_other Cleaner Registry = inr (λ e. absurd cc)
same_or_other Registry (Client j) = inr (λ e. absurd cc)
same_or_other Registry (Manager j) = inr (λ e. absurd cc)
same_or_other Registry (Server j) = inr (λ e. absurd cc)
same_or_other Registry Cleaner = inr (λ e. absurd cc)
same_or_other Registry Registry = inl refl
