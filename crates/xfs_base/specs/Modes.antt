-- What a mode lets a client do.
use Rattle.std.specs.Prelude.{Bool, true, false, ℕ}
use Rattle.xfs_base.specs.declared.token.Mode.{Mode}
use Rattle.xfs_base.specs.declared.token.Mode.TheVariants.{Nothing, Copy, Own}

-- whether a mode says that nothing is held
abbrev pub is_nothing : Mode → Bool
is_nothing Nothing = true
is_nothing Copy = false
is_nothing Own = false

-- whether a mode says that something is held: Copy or Own
abbrev pub is_held : Mode → Bool
is_held Nothing = false
is_held Copy = true
is_held Own = true

-- whether a mode lets its holder write
abbrev pub is_own : Mode → Bool
is_own Nothing = false
is_own Copy = false
is_own Own = true

-- whether two modes are one
abbrev pub same_mode : Mode → Mode → Bool
same_mode Nothing Nothing = true
same_mode Nothing Copy = false
same_mode Nothing Own = false
same_mode Copy Nothing = false
same_mode Copy Copy = true
same_mode Copy Own = false
same_mode Own Nothing = false
same_mode Own Copy = false
same_mode Own Own = true

-- whether a mode lets its holder do what needs another: Own lets it read and write, Copy read
abbrev pub allows : Mode → Mode → Bool
allows mode Nothing = true
allows mode Copy = is_held mode
allows mode Own = is_own mode

-- modes are ranks
abbrev pub mode_number : Mode → ℕ
mode_number Nothing = 0
mode_number Copy = 1
mode_number Own = 2
