-- The bytes of a bucket and of a size, written and read.
use Rattle.std.specs.Prelude.{ℕ, zero, suc, ◌+◌, ◌-◌, Bool, ◌&&◌, ◌||◌, ◌==◌, nat_le, List, [], ◌∷◌, ◌++◌, length, take, drop, get_or, replicate, Option, Some, None, if◌then◌else◌}
use Rattle.std.specs.Int.{w32, w64, to_be_bytes, from_be_bytes}
use Rattle.std.specs.List.{flat_map}
use Rattle.std.specs.FinMap.Entries.{is_sorted}
use Rattle.xfs_base.specs.Limits.{max_bytes}
use Rattle.version_model.specs.History.{Content}
use Rattle.file_plan.specs.declared.node.Kind.{Kind}
use Rattle.file_plan.specs.declared.node.Kind.TheVariants.{File, Directory}
use Rattle.file_plan.specs.Names.{Row, name_cmp, is_good}

-- the bytes of a value; Absent has none
abbrev pub bytes_in : Content → List ℕ
bytes_in None = []
bytes_in (Some bytes) = bytes

-- the value that has these bytes
abbrev pub value_of : List ℕ → Content
value_of [] = None
value_of (b ∷ bs) = Some (b ∷ bs)

-- the bytes with the new ones from a place on, and zeros in a gap
abbrev pub overlaid : List ℕ → ℕ → List ℕ → List ℕ
overlaid old at new = (take at old ++ replicate (at - length old) 0) ++ (new ++ drop (at + length new) old)

-- so many bytes from a place on, with zeros after the end
abbrev pub cut_of : List ℕ → ℕ → ℕ → List ℕ
cut_of bytes low count = take count (drop low bytes) ++ replicate (count - (length bytes - low)) 0

-- ---- buckets

-- the byte of a kind
abbrev pub kind_byte : Kind → ℕ
kind_byte File = 1
kind_byte Directory = 2

abbrev pub is_kind_byte : ℕ → Bool
is_kind_byte b = (b == 1) || (b == 2)

-- the kind of a byte
abbrev pub kind_of : ℕ → Kind
kind_of b = if b == 1 then File else Directory

-- an entry: its kind, its index number in four bytes, the length of its name, and the name
abbrev pub row_text : Row → List ℕ
row_text row = kind_byte row.1.kind ∷ (to_be_bytes w32 row.1.ino.0 ++ length row.0 ∷ row.0)

abbrev pub bucket_bytes : List Row → List ℕ
bucket_bytes rows = flat_map row_text rows

-- the length of the name of the entry at the front
abbrev pub name_length : List ℕ → ℕ
name_length bytes = get_or bytes 5 0

-- the entry at the front
abbrev pub front_row : List ℕ → Row
front_row bytes =
    (take (name_length bytes) (drop 6 bytes), record { kind = kind_of (get_or bytes 0 0); ino = record { 0 = from_be_bytes w32 (take 4 (drop 1 bytes)) } })

-- whether an entry stands at the front
unfoldable pub has_row : List ℕ → Bool
has_row bytes = nat_le (6 + name_length bytes) (length bytes) && (is_kind_byte (get_or bytes 0 0) && is_good (front_row bytes).0)

-- the bytes after it
abbrev pub rest_of_rows : List ℕ → List ℕ
rest_of_rows bytes = drop (name_length bytes) (drop 6 bytes)

abbrev pub with_row : Row → Option (List Row) → Option (List Row)
with_row row None = None
with_row row (Some rows) = Some (row ∷ rows)

-- the entries that the bytes are, where they are at most n
abbrev pub rows_from : ℕ → List ℕ → Option (List Row)
rows_from n [] = Some []
rows_from zero (b ∷ bs) = None
rows_from (suc n) (b ∷ bs) =
    if has_row (b ∷ bs) then with_row (front_row (b ∷ bs)) (rows_from n (rest_of_rows (b ∷ bs))) else None

abbrev pub in_order : Option (List Row) → Option (List Row)
in_order None = None
in_order (Some rows) = if is_sorted name_cmp rows then Some rows else None

-- the entries of a bucket, in strictly rising order of names; None where it isn't of its form
abbrev pub read_rows : List ℕ → Option (List Row)
read_rows bytes = in_order (rows_from (length bytes) bytes)

abbrev pub read_bucket : Content → Option (List Row)
read_bucket value = read_rows (bytes_in value)

-- ---- sizes

-- a file ends here
abbrev pub file_end : ℕ
file_end = max_bytes

-- a size of 0 is Absent
abbrev pub size_value : ℕ → Content
size_value zero = None
size_value (suc n) = Some (to_be_bytes w64 (suc n))

-- None where it isn't of its form
abbrev pub size_in : List ℕ → Option ℕ
size_in [] = Some 0
size_in (b ∷ bs) =
    if (length (b ∷ bs) == 8) && nat_le (from_be_bytes w64 (b ∷ bs)) file_end then Some (from_be_bytes w64 (b ∷ bs)) else None

abbrev pub read_size : Content → Option ℕ
read_size value = size_in (bytes_in value)
