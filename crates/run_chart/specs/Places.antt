-- Where things stand in a picture, in pixels from its upper left corner: a column for each node, a row for each event that is drawn.
use Rattle.std.specs.Prelude.{ℕ, ◌+◌, ◌*◌, min}
use Rattle.xfs_base.specs.Limits.{u64_end}

-- where this column's line stands
abbrev pub x_of : ℕ → ℕ
x_of column = min (min (column * 96) u64_end + 70) u64_end

-- where this row stands
abbrev pub y_of : ℕ → ℕ
y_of row = min (min (row * 14) u64_end + 110) u64_end

-- the width of a picture with so many columns, and the height of one with so many rows
abbrev pub width_of : ℕ → ℕ
width_of columns = min (x_of columns + 240) u64_end

abbrev pub height_of : ℕ → ℕ
height_of rows = min (y_of rows + 20) u64_end
