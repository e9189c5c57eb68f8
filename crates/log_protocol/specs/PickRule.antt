-- The rule of picking as a computation over the lists that an owner kept: all names that aren't below the horizon, and the best of them.
use Rattle.std.specs.Prelude.{◌≡◌, ℕ, zero, suc, ◌<◌, nat_lt, if◌then◌else◌, List, [], ◌∷◌}
use Rattle.log_protocol.specs.Tables.{In}
use Rattle.log_protocol.specs.Packets.{FencedPacket}
use Rattle.log_protocol.specs.State.{State}

module _ (seq_of : ℕ → ℕ) (low : ℕ) where
  -- x before the rest, unless it is below the horizon
  abbrev pub add : ℕ → List ℕ → List ℕ
  add x rest = if nat_lt (seq_of x) low then rest else x ∷ rest

  -- the names of a list that aren't below the horizon, before the rest
  abbrev pub add_all : List ℕ → List ℕ → List ℕ
  add_all [] rest = rest
  add_all (x ∷ xs) rest = add x (add_all xs rest)

  -- those of the first n servers' lists
  abbrev pub gather : (ℕ → List ℕ) → ℕ → List ℕ
  gather names zero = []
  gather names (suc n) = add_all (names n) (gather names n)

module _ (seq_of incarnation_of attempt_of : ℕ → ℕ) where
  -- the better of two names, by incarnation, then seq, then attempt; of equals the first
  abbrev pub better : ℕ → ℕ → ℕ
  better x y =
      if nat_lt (incarnation_of x) (incarnation_of y) then y else if nat_lt (incarnation_of y) (incarnation_of x) then x else if nat_lt (seq_of x)
      (seq_of y) then y else if nat_lt (seq_of y) (seq_of x) then x else if nat_lt (attempt_of x) (attempt_of y) then y else x

  -- the best of x and a list
  abbrev pub best : ℕ → List ℕ → ℕ
  best x [] = x
  best x (y ∷ ys) = best (better x y) ys

-- each abstract list has just the names of the kept one
pub record SameLists (w : State) (list_of : ℕ → FencedPacket) (names : ℕ → List ℕ) : Type 0 where
  pub kept : (v y : ℕ) → v < w.servers → (list_of v).listed y ≡ 1 → In y (names v)
  pub sent : (v y : ℕ) → v < w.servers → In y (names v) → (list_of v).listed y ≡ 1
