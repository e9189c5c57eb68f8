-- What reading a field from the left means.
use Rattle.std.specs.Prelude.{◌≡◌, ℕ, ◌+◌, List, ◌++◌, length}
use Rattle.std.specs.Int.{Width, byte_len, to_be_bytes}

-- the bytes that are left, and the offset of the first of them
pub record Fields : Type 0 where
  pub left : List ℕ
  pub at : ℕ

-- the number stood at the front, big-endian, and is taken: a field read is the field written
abbrev pub Reads : Width → Fields → Fields → ℕ → Type 0
Reads w old new n = (old.left ≡ to_be_bytes w n ++ new.left) × (new.at ≡ old.at + byte_len w)

-- these n bytes stood at the front, and are taken
abbrev pub ReadsBytes : ℕ → Fields → Fields → List ℕ → Type 0
ReadsBytes n old new bytes = (length bytes ≡ n) × (old.left ≡ bytes ++ new.left) × (new.at ≡ old.at + n)
