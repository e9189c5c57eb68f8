-- What the calls of a disk do to what it reads, and what a crash may leave.
use Rattle.std.specs.Prelude.{◌≡◌, ◌⊎◌, ℕ, ◌+◌, ◌≤◌, max, List, ◌++◌, length, take, drop}

-- new is old with these bytes at this offset
abbrev pub Writes : List ℕ → ℕ → List ℕ → List ℕ → Type 0
Writes old at bytes new = new ≡ take at old ++ bytes ++ drop (at + length bytes) old

-- What a crash may make of an image by a write of n bytes that no sync has followed: any bytes in the range and past the old end, the
-- same elsewhere, and a length between the old one and the new.
pub record Torn (at n : ℕ) (old new : List ℕ) : Type 0 where
  pub before : take (length (take at old)) new ≡ take at old
  pub after : drop (at + n) new ≡ drop (at + n) old
  pub no_shorter : length old ≤ length new
  pub no_longer : length new ≤ max (length old) (at + n)

-- each image of now is an image of before after a step
abbrev pub Follows : (List ℕ → List ℕ → Type 0) → (List ℕ → Type 0) → (List ℕ → Type 0) → Type 0
Follows step old new = (c : List ℕ) → new c → (d : List ℕ) × old d × step d c

-- each image of now was one before
abbrev pub NoOther : (List ℕ → Type 0) → (List ℕ → Type 0) → Type 0
NoOther old new = (c : List ℕ) → new c → old c

-- a crash leaves this and nothing else
abbrev pub Only : List ℕ → (List ℕ → Type 0) → Type 0
Only image images = (c : List ℕ) → images c → c ≡ image

-- Time goes on: a crash since t might have left what it might have left before, or what it may leave now.
pub record Elapses (before now : ℕ) (past since : ℕ → List ℕ → Type 0) (may_leave : List ℕ → Type 0) : Type 0 where
  pub later : before ≤ now
  pub nothing_else : (t : ℕ) (c : List ℕ) → t ≤ before → since t c → past t c ⊎ may_leave c
  pub keeps : (t : ℕ) (c : List ℕ) → t ≤ before → past t c → since t c

-- A crash at any moment from the disk as it was to the disk as it is, during a call or between two, leaves an image that has P.
pub record LeavesOnly {D : Type 0} (moment : D → ℕ) (left_since : D → ℕ → List ℕ → Type 0) (old new : D) (P : List ℕ → Type 0) : Type 0 where
  pub later : moment old ≤ moment new
  pub each : (c : List ℕ) → left_since new (moment old) c → P c
  -- for a run that began earlier
  pub before : (t : ℕ) (c : List ℕ) → t ≤ moment old → left_since new t c → left_since old t c ⊎ P c

-- how many calls and bytes of a spare are used at most
pub record Uses (m n calls_before bytes_before calls_now bytes_now : ℕ) : Type 0 where
  pub calls : calls_before ≤ calls_now + m
  pub bytes : bytes_before ≤ bytes_now + n
