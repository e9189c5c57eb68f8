-- Fragments as lists of bytes, combined place by place.
use Rattle.std.specs.Prelude.{ℕ, List, map, bit_xor}
use Rattle.std.specs.Simd.Lanes.{zip2}
use Rattle.parity_kernel.specs.Field.{product}

-- each byte's exclusive or with the byte at the same place of the other list
abbrev pub xor_of : List ℕ → List ℕ → List ℕ
xor_of to from = zip2 bit_xor to from

-- each byte's product with one
abbrev pub times : ℕ → List ℕ → List ℕ
times by from = map (product by) from
