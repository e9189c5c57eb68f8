-- What holds of each item of a list, and of what is made of it.
use Rattle.std.proofs.Common.{ℕ, zero, suc, Bool, List, [], ◌∷◌, ◌++◌, filter, flat_map, map, take}
use Rattle.std.specs.List.{AllByRecursion}
use Rattle.std.specs.Prelude.{IfSome, slice_get, slice_set}
use Rattle.xfs_base.proofs.Booleans.{by_test}

-- of both lists, of one behind the other
pub all_append : {X : Type 0} (P : X → Type 0) (xs ys : List X) → AllByRecursion P xs → AllByRecursion P ys → AllByRecursion P (xs ++ ys)
all_append P [] ys all more = more
all_append P (x ∷ xs) ys all more = (all.0, all_append P xs ys all.1 more)

-- of whatever there is
pub all_each : {X : Type 0} (P : X → Type 0) → ((x : X) → P x) → (xs : List X) → AllByRecursion P xs
all_each P each [] = tt
all_each P each (x ∷ xs) = (each x, all_each P each xs)

-- what follows from it
pub all_weaker : {X : Type 0} (P Q : X → Type 0) → ((x : X) → P x → Q x) → (xs : List X) → AllByRecursion P xs → AllByRecursion Q xs
all_weaker P Q weaker [] all = tt
all_weaker P Q weaker (x ∷ xs) all = (weaker x all.0, all_weaker P Q weaker xs all.1)

pub all_map : {X Y : Type 0} (P : Y → Type 0) (f : X → Y) → ((x : X) → P (f x)) → (xs : List X) → AllByRecursion P (map f xs)
all_map P f each [] = tt
all_map P f each (x ∷ xs) = (each x, all_map P f each xs)

pub all_flat_map : {X Y : Type 0} (P : Y → Type 0) (f : X → List Y) → ((x : X) → AllByRecursion P (f x)) → (xs : List X) → AllByRecursion P (flat_map f xs)
all_flat_map P f each [] = tt
all_flat_map P f each (x ∷ xs) = all_append P (f x) (flat_map f xs) (each x) (all_flat_map P f each xs)

-- where each of the items is so
pub all_flat_map_of : {X Y : Type 0} (P : Y → Type 0) (Q : X → Type 0) (f : X → List Y) → ((x : X) → Q x → AllByRecursion P (f x)) → (xs : List X)
    → AllByRecursion Q xs → AllByRecursion P (flat_map f xs)
all_flat_map_of P Q f each [] all = tt
all_flat_map_of P Q f each (x ∷ xs) all = all_append P (f x) (flat_map f xs) (each x all.0) (all_flat_map_of P Q f each xs all.1)

pub all_take : {X : Type 0} (P : X → Type 0) (n : ℕ) (xs : List X) → AllByRecursion P xs → AllByRecursion P (take n xs)
all_take P zero xs all = tt
all_take P (suc n) [] all = tt
all_take P (suc n) (x ∷ xs) all = (all.0, all_take P n xs all.1)

pub all_filter : {X : Type 0} (P : X → Type 0) (test : X → Bool) (xs : List X) → AllByRecursion P xs → AllByRecursion P (filter test xs)
all_filter P test [] all = tt
all_filter P test (x ∷ xs) all =
    by_test (λ ys. AllByRecursion P ys) (test x) (x ∷ filter test xs) (filter test xs) (λ _. (all.0, all_filter P test xs all.1))
    (λ _. all_filter P test xs all.1)

-- what is at a place, and where another is put there
pub all_read : {X : Type 0} (P : X → Type 0) (xs : List X) (place : ℕ) → AllByRecursion P xs → IfSome (slice_get xs place) P
all_read P [] place all = tt
all_read P (x ∷ xs) zero all = all.0
all_read P (x ∷ xs) (suc place) all = all_read P xs place all.1

pub all_put : {X : Type 0} (P : X → Type 0) (xs : List X) (place : ℕ) (y : X) → P y → AllByRecursion P xs → AllByRecursion P (slice_set xs place y)
all_put P [] place y new all = tt
all_put P (x ∷ xs) zero y new all = (new, all.1)
all_put P (x ∷ xs) (suc place) y new all = (all.0, all_put P xs place y new all.1)
