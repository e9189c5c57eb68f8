-- Names, and the entries that directories hold under them.
use Rattle.std.specs.Prelude.{ℕ, ◌%◌, Bool, true, false, ◌&&◌, ◌||◌, ◌==◌, nat_le, not, List, [], ◌∷◌, length, Option}
use Rattle.std.specs.Ordering.{nat_cmp}
use Rattle.std.specs.declared.cmp.Ordering.{Ordering}
use Rattle.std.specs.Cmp.Lexicographic.{slice_cmp}
use Rattle.std.specs.List.{list_all, sum_by}
use Rattle.std.specs.Map.{lookup}
use Rattle.std.specs.BTreeMap.{is_at}
use Rattle.std.specs.Str.{bytes_eq}
use Rattle.xfs_base.specs.declared.block.Ino.{Ino}
use Rattle.version_model.specs.declared.file_call.FileCall.{FileCall}
use Rattle.version_model.specs.declared.file_call.FileCall.TheVariants as call
use Rattle.file_plan.specs.declared.node.Kind.{Kind}
use Rattle.file_plan.specs.declared.node.Kind.TheVariants.{File, Directory}
use Rattle.file_plan.specs.declared.node.Node.{Node}

-- a name is its bytes
abbrev pub Name : Type 0
Name = List ℕ

-- names are ordered by their bytes
abbrev pub name_cmp : Name → Name → Ordering
name_cmp a b = slice_cmp nat_cmp a b

abbrev pub is_between : ℕ → ℕ → ℕ → Bool
is_between lo hi n = nat_le lo n && nat_le n hi

-- a digit, a letter, `.`, `_` or `-`
abbrev pub is_name_byte : ℕ → Bool
is_name_byte b = ((is_between 48 57 b || is_between 65 90 b) || is_between 97 122 b) || ((b == 46) || ((b == 95) || (b == 45)))

abbrev pub has_name_length : Name → Bool
has_name_length name = is_between 1 60 (length name)

-- `.` and `..` are no names
abbrev pub is_dots : Name → Bool
is_dots name = bytes_eq name (46 ∷ []) || bytes_eq name (46 ∷ 46 ∷ [])

-- 1 to 60 such bytes, and neither `.` nor `..`
unfoldable pub is_good : Name → Bool
is_good name = has_name_length name && list_all is_name_byte name && not (is_dots name)

-- the bucket of a directory in which a name stands
abbrev pub bucket_number : Name → ℕ
bucket_number name = sum_by (λ b. b) name % 8

-- whether two index numbers are one
abbrev pub same_ino : Ino → Ino → Bool
same_ino a b = a.0 == b.0

abbrev pub same_kind : Kind → Kind → Bool
same_kind File File = true
same_kind File Directory = false
same_kind Directory File = false
same_kind Directory Directory = true

abbrev pub same_node : Node → Node → Bool
same_node a b = same_kind a.kind b.kind && same_ino a.ino b.ino

abbrev pub is_directory : Node → Bool
is_directory node = same_kind node.kind Directory

-- an entry of a directory: a name, and what it leads to
abbrev pub Row : Type 0
Row = Name × Node

-- what a name leads to among entries
abbrev pub named : Name → List Row → Option Node
named name rows = lookup (is_at (name_cmp name)) rows

-- whether all names of a call are good
abbrev pub names_are_good : FileCall → Bool
names_are_good (call.Mk path) = list_all is_good path
names_are_good (call.Mkdir path) = list_all is_good path
names_are_good (call.Put path offset bytes) = list_all is_good path
names_are_good (call.Get path offset len) = list_all is_good path
names_are_good (call.Size path) = list_all is_good path
names_are_good (call.Ls path) = list_all is_good path
names_are_good (call.Rm path) = list_all is_good path
names_are_good (call.Mv from to) = list_all is_good from && list_all is_good to
