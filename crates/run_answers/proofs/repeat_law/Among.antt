-- What is among all that is said, step by step, where it is said at one step.
use Rattle.std.proofs.Common.{◌≡◌, ◌⊎◌, ◌<◌, ℕ, zero, suc, List, [], ◌∷◌, ◌++◌, map, flat_map, inl, inr, refl, ap, subst, arith}
use Rattle.token_protocol.specs.Basics.{In}
use Rattle.xfs_base.specs.Limits.{all_slots, slot_count}
use Rattle.xfs_base.specs.Steps.{Stepped, steps}
use Rattle.run_answers.proofs.wait_law.Again.{in_behind, in_front}

-- at one step it is said, whatever the state then is
pub steps_say : {S O A : Type 0} (step : S → A → Stepped S O) (x : O) (a : A) → ((s : S) → In x (step s a).outs) → (s : S) (items : List A) → In a items
    → In x (steps step s items).outs
steps_say step x a says s [] among = absurd among
steps_say step x a says s (b ∷ items) (inl is) =
    in_front x (step s b).outs (steps step (step s b).state items).outs (subst (λ y. In x (step s y).outs) is (says s))
steps_say step x a says s (b ∷ items) (inr among) =
    in_behind x (step s b).outs (steps step (step s b).state items).outs (steps_say step x a says (step s b).state items among)

-- or while a fact stands that each other step keeps
pub steps_say_while : {S O A : Type 0} (step : S → A → Stepped S O) (P : S → Type 0) (x : O) (a : A) → ((s : S) → P s → In x (step s a).outs)
    → ((s : S) (b : A) → P s → (a ≡ b) ⊎ P (step s b).state) → (s : S) → P s → (items : List A) → In a items → In x (steps step s items).outs
steps_say_while step P x a says keeps s p [] among = absurd among
steps_say_while step P x a says keeps s p (b ∷ items) among =
    by among (keeps s b p) (λ kept later. steps_say_while step P x a says keeps (step s b).state kept items later)
  where
    here : a ≡ b → In x ((step s b).outs ++ (steps step (step s b).state items).outs)
    here is = in_front x (step s b).outs (steps step (step s b).state items).outs (subst (λ y. In x (step s y).outs) is (says s p))

    by : (a ≡ b) ⊎ In a items → (a ≡ b) ⊎ P (step s b).state → (P (step s b).state → In a items → In x (steps step (step s b).state items).outs)
        → In x ((step s b).outs ++ (steps step (step s b).state items).outs)
    by (inl is) kept rest = here is
    by (inr later) (inl is) rest = here is
    by (inr later) (inr kept) rest = in_behind x (step s b).outs (steps step (step s b).state items).outs (rest kept later)

pub in_map : {X Y : Type 0} (f : X → Y) (x : X) (xs : List X) → In x xs → In (f x) (map f xs)
in_map f x [] among = absurd among
in_map f x (y ∷ xs) (inl is) = inl (ap f is)
in_map f x (y ∷ xs) (inr among) = inr (in_map f x xs among)

pub in_flat_map : {X Y : Type 0} (f : X → List Y) (y : Y) (x : X) (xs : List X) → In x xs → In y (f x) → In y (flat_map f xs)
in_flat_map f y x [] among said = absurd among
in_flat_map f y x (z ∷ xs) (inl is) said = in_front y (f z) (flat_map f xs) (subst (λ w. In y (f w)) is said)
in_flat_map f y x (z ∷ xs) (inr among) said = in_behind y (f z) (flat_map f xs) (in_flat_map f y x xs among said)

-- each slot is among all slots
pub in_slots : (slot : ℕ) → slot < slot_count → In slot all_slots
in_slots zero below = inl refl
in_slots (suc zero) below = inr (inl refl)
in_slots (suc (suc zero)) below = inr (inr (inl refl))
in_slots (suc (suc (suc zero))) below = inr (inr (inr (inl refl)))
in_slots (suc (suc (suc (suc zero)))) below = inr (inr (inr (inr (inl refl))))
in_slots (suc (suc (suc (suc (suc zero))))) below = inr (inr (inr (inr (inr (inl refl)))))
in_slots (suc (suc (suc (suc (suc (suc zero)))))) below = inr (inr (inr (inr (inr (inr (inl refl))))))
in_slots (suc (suc (suc (suc (suc (suc (suc zero))))))) below = inr (inr (inr (inr (inr (inr (inr (inl refl)))))))
in_slots (suc (suc (suc (suc (suc (suc (suc (suc slot)))))))) below = absurd (omega arith)
