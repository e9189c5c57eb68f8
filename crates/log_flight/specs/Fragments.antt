-- What is stored of a segment: its fragments, each at its member (the 1996 paper, "RAID").
use Rattle.std.specs.Prelude.{ℕ, ◌+◌, List, [], ◌∷◌, length}
use Rattle.xfs_base.specs.declared.fragment.Fragment.{Fragment}
use Rattle.segment_format.specs.declared.segment.Segment.{Segment}
use Rattle.segment_format.specs.Text.{text_of}
use Rattle.stripe_code.specs.Fragments.{meta_of, fragment_of}
use Rattle.stripe_code.specs.Stripe.{stripe_of}
use Rattle.group_map.specs.declared.group.Group.{Group}

-- the fragment of a segment at a place of its stripe over a group
unfoldable pub flight_fragment : Segment → Group → ℕ → Fragment
flight_fragment s g place = fragment_of s (length g.members) g.parity place

-- the fragments with these bytes, the first of them at this place
abbrev pub pieces_from : Segment → ℕ → List (List ℕ) → List Fragment
pieces_from s place [] = []
pieces_from s place (bytes ∷ rest) = record { meta = meta_of s place; bytes = bytes } ∷ pieces_from s (place + 1) rest

-- all fragments of a segment over a group, by place: the stripe of its text, each with what it is a part of
unfoldable pub fragments_over : Segment → Group → List Fragment
fragments_over s g = pieces_from s 0 (stripe_of (text_of s) (length g.members) g.parity)
