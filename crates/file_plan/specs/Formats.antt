-- The forms of a bucket and of a size, said of the bytes and not by a reader.
use Rattle.std.specs.Prelude.{◌≡◌, ◌⊎◌, ◌↔◌, ℕ, ◌<◌, ◌≤◌, ◌^◌, true, List, length, get_or, Some, None}
use Rattle.std.specs.Int.{w64, to_be_bytes}
use Rattle.std.specs.List.{AllByRecursion}
use Rattle.std.specs.FinMap.Entries.{is_sorted}
use Rattle.version_model.specs.History.{Content}
use Rattle.file_plan.specs.Names.{Row, name_cmp, is_good}
use Rattle.file_plan.specs.Format.{value_of, bucket_bytes, read_bucket, read_size, file_end}

-- a value that a block may have: Absent, or some bytes
abbrev pub IsStored : Content → Type 0
IsStored None = Unit {0}
IsStored (Some bytes) = (0 < length bytes) × ((i : ℕ) → get_or bytes i 0 < 256)

pub record IsRow (row : Row) : Type 0 where
  pub good : is_good row.0 ≡ true
  pub ino : row.1.ino.0 < 2 ^ 32

-- a value is a row of these entries, in strictly rising order of names
pub record IsBucketOf (value : Content) (rows : List Row) : Type 0 where
  pub text : value ≡ value_of (bucket_bytes rows)
  pub rising : is_sorted name_cmp rows ≡ true
  pub each : AllByRecursion IsRow rows

-- a value is a size: Absent is 0, and else it is eight bytes
abbrev pub IsSizeOf : Content → ℕ → Type 0
IsSizeOf value size = ((value ≡ None) × (size ≡ 0)) ⊎ ((value ≡ Some (to_be_bytes w64 size)) × (size ≤ file_end))

-- a bucket is read exactly where it is of its form, and so is a size
abbrev pub BucketsAreExact : Type 0
BucketsAreExact = (value : Content) (rows : List Row) → IsStored value → (read_bucket value ≡ Some rows) ↔ IsBucketOf value rows

abbrev pub SizesAreExact : Type 0
SizesAreExact = (value : Content) (size : ℕ) → IsStored value → (read_size value ≡ Some size) ↔ IsSizeOf value size
