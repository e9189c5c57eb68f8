-- What a refinement needs of this machine beside its laws: what holds of each place after a change at one, and packets seen one way,
-- as the packet that they fix, or as some packet.
-- `Growing` says what only grows, and `StampsSeen` how stamps of several epochs are seen.
use Rattle.std.proofs.Common.{◌≡◌, ℕ, ◌==◌, true, false, Bool, if◌then◌else◌, List, refl, sym, subst, arith}
use Rattle.std.proofs.lemmas.Bool.Decides.{nat_tests}
use Rattle.token_protocol.specs.Basics.{put, In}

-- A property of every place after a change at one: shown at the place, and kept elsewhere.
pub put_each : {X : Type 0} (P : ℕ → X → Type 0) (f : ℕ → X) (c : ℕ) (x : X) → P c x → ((d : ℕ) → (d ≡ c → ⊥) → P d (f d)) → (d : ℕ) → P d (put f c x d)
put_each P f c x here there d = go (d == c) (λ e. grind (arith, nat_tests, e)) (λ e. grind (arith, nat_tests, e))
  where
    go : (t : Bool) → (t ≡ true → d ≡ c) → (t ≡ false → d ≡ c → ⊥) → P d (if t then x else f d)
    go true same other = subst (λ e. P e x) (sym (same refl)) here
    go false same other = there d (other refl)

-- The same for two functions changed at one place, as a node's table and the client here that it is seen as.
pub put_each_two : {X Y : Type 0} (P : ℕ → X → Y → Type 0) (f : ℕ → X) (g : ℕ → Y) (c : ℕ) (x : X) (y : Y) → P c x y → ((d : ℕ) → (d ≡ c → ⊥) → P d (f d) (g d))
    → (d : ℕ)
    → P d (put f c x d) (put g c y d)
put_each_two P f g c x y here there d = go (d == c) (λ e. grind (arith, nat_tests, e)) (λ e. grind (arith, nat_tests, e))
  where
    go : (t : Bool) → (t ≡ true → d ≡ c) → (t ≡ false → d ≡ c → ⊥) → P d (if t then x else f d) (if t then y else g d)
    go true same other = subst (λ e. P e x y) (sym (same refl)) here
    go false same other = there d (other refl)

-- Each sent packet that is seen as a packet here was sent here. One way only: here more may have been sent.
-- So are Wants, Grants, Recalls, Gaves and Reports, which fix the packet that they are seen as.
abbrev pub Included : {X Y : Type 0} → (X → Y → Type 0) → List X → List Y → Type 0
Included {X = X} {Y = Y} sees sent here = (x : X) (y : Y) → In x sent → sees x y → In y here

-- A Forward and a Supply bear the version alone of the entry that was offered, so the offer that they are seen as is not fixed by them, and `Included`
-- would be false of them. Each sent packet that speaks of the block is seen as some packet that was sent here.
abbrev pub Met : {X Y : Type 0} → (X → Type 0) → (X → Y → Type 0) → List X → List Y → Type 0
Met {X = X} {Y = Y} speaks sees sent here = (x : X) → In x sent → speaks x → (y : Y) × In y here × sees x y

-- It stays so where more is sent here.
pub met_more : {X Y : Type 0} (speaks : X → Type 0) (sees : X → Y → Type 0) (sent : List X) (here more : List Y) → Met speaks sees sent here
    → ((y : Y) → In y here → In y more) → Met speaks sees sent more
met_more speaks sees sent here more i grows x fact says = let m = i x fact says in (m.0, grows m.0 m.1, m.2)
