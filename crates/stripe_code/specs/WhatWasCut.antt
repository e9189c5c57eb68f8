-- What a round reads, where all fragments that count are of one text that was cut.
use Rattle.std.specs.Prelude.{◌≡◌, ℕ, List, All, length}
use Rattle.stripe_code.specs.declared.round.RoundState.TheVariants.{Read}
use Rattle.stripe_code.specs.declared.round.Told.{Told}
use Rattle.stripe_code.specs.declared.round.Told.TheVariants.{Held, Missing}
use Rattle.stripe_code.specs.Fragments.{fragment_at}
use Rattle.stripe_code.specs.Round.{RoundSoFar, IsRound, state_of}
use Rattle.stripe_code.specs.Stripe.{IsBytes, stripe_of}

-- a fragment that is told says the length of the text, and has the bytes that its stripe over n members has at the place that it says
abbrev pub ToldOf : List ℕ → ℕ → ℕ → Told → Type 0
ToldOf text n parity (Held f) = (f.meta.len ≡ length text) × (f.bytes ≡ fragment_at (stripe_of text n parity) f.meta.index)
ToldOf text n parity (Missing g) = Unit {0}

-- Where all that count are of one text, what the round reads is that text, whichever fragments are in.
abbrev pub ReadsWhatWasCut : Type 0
ReadsWhatWasCut =
    (r : RoundSoFar) (text found : List ℕ) → IsRound r → IsBytes text → All (λ a. ToldOf text r.n r.parity a.told) r.answers → state_of r ≡ Read found
    → found ≡ text
