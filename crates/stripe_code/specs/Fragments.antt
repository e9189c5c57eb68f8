-- The fragments of a segment, each with what is said of it.
use Rattle.std.specs.Prelude.{ℕ, zero, suc, List, [], ◌∷◌, length}
use Rattle.xfs_base.specs.declared.fragment.FragMeta.{FragMeta}
use Rattle.xfs_base.specs.declared.fragment.Fragment.{Fragment}
use Rattle.segment_format.specs.declared.segment.Segment.{Segment}
use Rattle.segment_format.specs.Text.{text_of}
use Rattle.stripe_code.specs.Stripe.{stripe_of}
pub use Rattle.xfs_base.specs.Segments.{same_name}

-- what the fragment of a segment at a place says of itself
abbrev pub meta_of : Segment → ℕ → FragMeta
meta_of s i = record { name = s.name; group = s.group; prior = s.prior; index = i; len = length (text_of s) }

-- the fragment at a place of a stripe
abbrev pub fragment_at : List (List ℕ) → ℕ → List ℕ
fragment_at [] i = []
fragment_at (f ∷ fs) zero = f
fragment_at (f ∷ fs) (suc i) = fragment_at fs i

-- the fragment of a segment at a place of its stripe over n members
abbrev pub fragment_of : Segment → ℕ → ℕ → ℕ → Fragment
fragment_of s n parity i = record { meta = meta_of s i; bytes = fragment_at (stripe_of (text_of s) n parity) i }
