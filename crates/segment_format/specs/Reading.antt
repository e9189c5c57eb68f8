-- Reading from the left, a field at a time, with the first fault that is met.
use Rattle.std.specs.Prelude.{◌≡◌, ℕ, ◌+◌, Bool, List, length, take, drop, Result, Ok, Err, nat_lt, if◌then◌else◌, ◌⊎◌}
use Rattle.std.specs.Int.{Width, byte_len, from_be_bytes}
use Rattle.xfs_base.specs.Fields.{Fields}
use Rattle.segment_format.specs.declared.seg_error.SegError.{SegError}
use Rattle.segment_format.specs.declared.seg_error.SegError.TheVariants.{Short, Memory}

-- a value and what is left behind it, or the first fault
abbrev pub Reader : Type 0 → Type 0
Reader A = Fields → Result (A × Fields) SegError

-- one reader after the other
abbrev pub read_on : {A B : Type 0} → Result (A × Fields) SegError → (A → Reader B) → Result (B × Fields) SegError
read_on (Ok x) q = q x.0 x.1
read_on (Err e) q = Err e

infixl 10 ◌>>=◌
abbrev pub ◌>>=◌ : {A B : Type 0} → Reader A → (A → Reader B) → Reader B
(p >>= q) f = read_on (p f) q

-- nothing is read
abbrev pub gives : {A : Type 0} → A → Reader A
gives x f = Ok (x, f)

-- the fields without the first n bytes
abbrev pub past : ℕ → Fields → Fields
past n f = record { left = drop n f.left; at = f.at + n }

-- n bytes
abbrev pub raw : ℕ → Reader (List ℕ)
raw n f = if nat_lt (length f.left) n then Err (Short f.at) else Ok (take n f.left, past n f)

-- a big-endian number
abbrev pub number : Width → Reader ℕ
number w f = if nat_lt (length f.left) (byte_len w) then Err (Short f.at) else Ok (from_be_bytes w (take (byte_len w) f.left), past (byte_len w) f)

abbrev pub judged : {A : Type 0} → Result (A × Fields) SegError → (A → Bool) → SegError → Result (A × Fields) SegError
judged (Ok x) test e = if test x.0 then Ok x else Err e
judged (Err d) test e = Err d

-- what passes a test; else the fault at its first byte
abbrev pub checked : {A : Type 0} → Reader A → (A → Bool) → (ℕ → SegError) → Reader A
checked p test bad f = judged (p f) test (bad f.at)

-- ---- what a function of the code says of its reading

-- What a function returned, seen by view, is what reading gives, unless memory ran out.
abbrev pub Fails : {Y : Type 0} → SegError → Result Y SegError → Type 0
Fails e read = (e ≡ Memory) ⊎ (read ≡ Err e)

abbrev pub Yields : {X Y : Type 0} → (X → Y) → Result X SegError → Result Y SegError → Type 0
Yields view (Ok x) read = read ≡ Ok (view x)
Yields view (Err e) read = Fails e read
