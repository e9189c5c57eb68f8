-- Words of the abstract protocol: a function changed at one place, a packet that was sent, and lists.
use Rattle.std.specs.Prelude.{◌≡◌, ℕ, max, pred, ◌==◌, if◌then◌else◌, List, [], ◌∷◌, length, take, ◌⊎◌}

-- The function f with x at place c.
abbrev pub put : {X : Type 0} → (ℕ → X) → ℕ → X → ℕ → X
put f c x d = if d == c then x else f d

-- The packet was sent (or the command is in the list). Packets are never taken out: a network that loses, repeats and reorders can deliver any of
-- them at any time, or never.
abbrev pub In : {X : Type 0} → X → List X → Type 0
In x [] = ⊥
In x (y ∷ ys) = (x ≡ y) ⊎ In x ys

-- The list ys begins with xs.
abbrev pub Prefix : {X : Type 0} → List X → List X → Type 0
Prefix xs ys = take (length xs) ys ≡ xs

-- The second list is the first without what is in `gone`, in the same order. (Said as a relation, for commands that have no test of equality.)
pub data Without {X : Type 0} (gone : List X) : List X → List X → Type 0 where
  Ends : Without gone [] []
  Goes : {x : X} {xs ys : List X} → In x gone → Without gone xs ys → Without gone (x ∷ xs) ys
  Stays : {x : X} {xs ys : List X} → (In x gone → ⊥) → Without gone xs ys → Without gone (x ∷ xs) (x ∷ ys)

-- The greatest length that another board is known to have accepted: for each board 0 stands for none, and n + 1 for the length n.
abbrev pub greatest : (ℕ → ℕ) → ℕ
greatest known = pred (max (known 0) (max (known 1) (known 2)))
