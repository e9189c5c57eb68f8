-- The list of a segment's fragments, and the fragment at a place of it.
use Rattle.std.proofs.Common.{◌≡◌, ℕ, zero, suc, ◌+◌, ◌<◌, List, [], ◌∷◌, length, get_or, refl, ap, ◌∙◌, arith}
use Rattle.xfs_base.specs.declared.fragment.Fragment.{Fragment}
use Rattle.segment_format.specs.declared.segment.Segment.{Segment}
use Rattle.segment_format.specs.Text.{text_of}
use Rattle.stripe_code.specs.Fragments.{meta_of, fragment_at}
use Rattle.stripe_code.specs.Stripe.{IsCut, stripe_of}
use Rattle.group_map.specs.declared.group.Group.{Group}
use Rattle.log_flight.specs.Fragments.{flight_fragment, pieces_from, fragments_over}
use Rattle.log_flight.proofs.Lengths.{length-stripe_of}

length-pieces_from : (s : Segment) (place : ℕ) (parts : List (List ℕ)) → length (pieces_from s place parts) ≡ length parts
length-pieces_from s place [] = refl
length-pieces_from s place (p ∷ ps) = ap suc (length-pieces_from s (place + 1) ps)

pub length-fragments_over : (s : Segment) (g : Group) → IsCut (length g.members) g.parity → length (fragments_over s g) ≡ length g.members
unfolding fragments_over
length-fragments_over s g c =
    length-pieces_from s 0 (stripe_of (text_of s) (length g.members) g.parity) ∙ length-stripe_of (text_of s) (length g.members) g.parity c

at_place : (s : Segment) (from : ℕ) (parts : List (List ℕ)) (i : ℕ) (d : Fragment) → i < length parts
    → get_or (pieces_from s from parts) i d ≡ record { meta = meta_of s (from + i); bytes = fragment_at parts i }
at_place s from [] i d l = absurd (omega arith)
at_place s from (p ∷ ps) zero d l =
    let e : from ≡ from + 0 = omega arith in
    ap (λ n. record { meta = meta_of s n; bytes = p }) e
at_place s from (p ∷ ps) (suc i) d l =
    let m : i < length ps = omega arith in
    let e : (from + 1) + i ≡ from + suc i = omega arith in
    at_place s (from + 1) ps i d m ∙ ap (λ n. record { meta = meta_of s n; bytes = fragment_at ps i }) e

-- the fragment at a place of the list is the segment's at that place
pub get_or-fragments_over : (s : Segment) (g : Group) (i : ℕ) (d : Fragment) → IsCut (length g.members) g.parity → i < length g.members
    → get_or (fragments_over s g) i d ≡ flight_fragment s g i
unfolding fragments_over flight_fragment
get_or-fragments_over s g i d c l =
    let m : i < length (stripe_of (text_of s) (length g.members) g.parity) = omega (arith, length-stripe_of (text_of s) (length g.members) g.parity c) in
    let e : 0 + i ≡ i = omega arith in
    at_place s 0 (stripe_of (text_of s) (length g.members) g.parity) i d m
    ∙ ap (λ n. record { meta = meta_of s n; bytes = fragment_at (stripe_of (text_of s) (length g.members) g.parity) i }) e
