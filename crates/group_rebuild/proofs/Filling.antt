-- What is filled in was cut from a text that the answers join to.
use Rattle.std.proofs.Common.{inl, inr, ◌≡◌, ℕ, List, [], ◌∷◌, Option, Some, None, refl}
use Rattle.std.specs.Prelude.{Contains, ◌==◌, ◌&&◌}
use Rattle.stripe_code.specs.Round.{RoundSoFar, round_take, state_of}
use Rattle.stripe_code.specs.declared.round.RoundState.{RoundState}
use Rattle.stripe_code.specs.declared.round.RoundState.TheVariants.{Read, Short, Waiting}
use Rattle.stripe_code.specs.declared.round.Told.{Told}
use Rattle.xfs_base.specs.declared.fragment.Fragment.{Fragment}
use Rattle.xfs_base.specs.declared.segment.SegName.{SegName}
use Rattle.xfs_base.specs.Steps.{Stepped, still}
use Rattle.xfs_base.proofs.Booleans.{by_test}
use Rattle.xfs_base.proofs.Members.{contains_nothing, contains_cases}
use Rattle.group_rebuild.specs.declared.output.Out.{Out}
use Rattle.group_rebuild.specs.declared.output.Out.TheVariants.{Fetch, Fill, Finished}
use Rattle.group_rebuild.specs.declared.reads.Present.{Present}
use Rattle.group_rebuild.specs.declared.wanted.Wanted.{Wanted}
use Rattle.group_rebuild.specs.Counted.{IsFilledFrom}
use Rattle.group_rebuild.specs.Reads.{ReadsState, one_more, fetches, go_on, counts, reads_judge, answered, reads_take}
use Rattle.group_rebuild.specs.Wanted.{refilled}

abbrev fill : Fragment → Out
fill f = Fill f

-- no question fills anything in
no_fill : (name : SegName) (ask : ℕ) (servers : List ℕ) (f : Fragment) → Contains (fetches name ask servers) (Fill f) → ⊥
no_fill name ask [] f h = contains_nothing (fill f) h
no_fill name ask (s ∷ ss) f h =
    elim (contains_cases (Fetch s name ask) (fill f) (fetches name ask ss) h) [ inl e ↦ absurd cc | inr k ↦ no_fill name ask ss f k ]

-- nor does the beginning of a round, or the end
no_fill-go_on : (left : List Wanted) (r : ReadsState) (f : Fragment) → Contains (go_on left r).outs (Fill f) → ⊥
no_fill-go_on [] r f h = elim (contains_cases (Finished r.filled r.gone) (fill f) [] h) [ inl e ↦ absurd cc | inr k ↦ contains_nothing (fill f) k ]
no_fill-go_on (w ∷ ws) r f h = no_fill w.meta.name (one_more r.ask) w.others f h

-- the text that was read, and the fragment cut from it
abbrev WasCut : RoundState → Wanted → Fragment → Type 0
WasCut st w f = (text : List ℕ) × (st ≡ Read text) × (f ≡ refilled w text)

was_cut : (r : ReadsState) (w : Wanted) (round : RoundSoFar) (st : RoundState) (f : Fragment) → Contains (reads_judge r w round st).outs (Fill f) → WasCut st w f
was_cut r w round (Read text) f h =
    let next = record r { filled = one_more r.filled } in
    elim (contains_cases (fill (refilled w text)) (fill f) (go_on r.left next).outs h) [
      | inl e ↦ (let same : f ≡ refilled w text = cc in (text, refl, same))
      | inr k ↦ absurd (no_fill-go_on r.left next f k)
    ]
was_cut r w round (Short pairs) f h = absurd (no_fill-go_on r.left (record r { gone = one_more r.gone }) f h)
was_cut r w round Waiting f h = absurd (contains_nothing (fill f) h)

from_answer : (r : ReadsState) (present : Option Present) (ask server : ℕ) (told : Told) (f : Fragment) → r.present ≡ present
    → Contains (answered r present ask server told).outs (Fill f) → IsFilledFrom r server told f
from_answer r None ask server told f e h = absurd (contains_nothing (fill f) h)
from_answer r (Some p) ask server told f e h =
    by_test (λ (st : Stepped ReadsState Out). Contains st.outs (Fill f) → IsFilledFrom r server told f) ((ask == r.ask) && counts p server told)
    (reads_judge r p.wanted (round_take p.round server told) (state_of (round_take p.round server told))) (still r)
    (λ t k. let was = was_cut r p.wanted (round_take p.round server told) (state_of (round_take p.round server told)) f k in
    record { present = p; is_read = e; text = was.0; read = was.1; cut = was.2 })
    (λ t k. absurd (contains_nothing (fill f) k))
    h

pub filled_from : (r : ReadsState) (ask server : ℕ) (told : Told) (f : Fragment) → Contains (reads_take r ask server told).outs (Fill f)
    → IsFilledFrom r server told f
unfolding reads_take
filled_from r ask server told f h = from_answer r r.present ask server told f refl h
