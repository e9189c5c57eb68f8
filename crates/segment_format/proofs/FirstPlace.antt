-- A refusal stands at the first place: before it nothing is wrong but that the bytes end, and behind it nothing helps.
use Rattle.std.proofs.Common.{◌≡◌, ℕ, ◌+◌, ◌<◌, ◌≤◌, Bool, true, false, cond, eqb, List, ◌++◌, length, take, drop, Result, Ok, Err, refl, sym, ap, subst, ◌∙◌, arith, inl, inr}
use Rattle.std.specs.Prelude.{◌⊎◌}
use Rattle.std.proofs.lemmas.Bool.Decides.{nat_tests}
use Rattle.std.proofs.lemmas.List.{take-append-drop, length-append, length-take, length-drop}
use Rattle.xfs_base.specs.Fields.{Fields}
use Rattle.segment_format.specs.declared.segment.Segment.{Segment}
use Rattle.segment_format.specs.declared.seg_error.SegError.{SegError}
use Rattle.segment_format.specs.declared.seg_error.SegError.TheVariants.{Short, BadMark, BadVersion, BadKind, BadLength, BadRef, Trailing, Memory}
use Rattle.segment_format.specs.Answers.{place, IsShort, IsCutOff, IsFirst}
use Rattle.segment_format.specs.ReadingItems.{segment_at, ended, answer_of}
use Rattle.segment_format.proofs.Steady.{with_more, Stays, Ends, segment-steady}

abbrev whole : List ℕ → Fields
whole bytes = record { left = bytes; at = 0 }

abbrev Answer : Type 0
Answer = Result Segment SegError

-- how far the bytes were needed
abbrev pub reach : List ℕ → Answer → ℕ
reach bytes (Ok s) = length bytes
reach bytes (Err e) = place e

short_is : (e : SegError) → IsShort e → e ≡ Short (place e)
short_is (Short at) h = refl
short_is (BadMark at) h = absurd h
short_is (BadVersion at) h = absurd h
short_is (BadKind at) h = absurd h
short_is (BadLength at) h = absurd h
short_is (BadRef at) h = absurd h
short_is (Trailing at) h = absurd h
short_is Memory h = absurd h

abbrev refused : SegError → Answer
refused e = Err e

err_is : (d e : SegError) → refused d ≡ refused e → d ≡ e
err_is d e h = cc

-- ---- where bytes follow the last item

not_done : (n m : ℕ) → eqb n 0 ≡ false → eqb (n + m) 0 ≡ false
not_done n m h = grind (arith, nat_tests)

some_more : (n m : ℕ) → 0 < m → eqb (n + m) 0 ≡ false
some_more n m h = grind (arith, nat_tests)

trailing : (b : Bool) (s : Segment) (at : ℕ) (e : SegError) → cond b (Ok s) (Err (Trailing at)) ≡ Err e → (b ≡ false) × (Trailing at ≡ e)
trailing true s at e h = absurd cc
trailing false s at e h = (refl, cc)

ended_more : (x : Segment × Fields) (more : List ℕ) → eqb (length (x.1.left ++ more)) 0 ≡ false → ended (Ok (x.0, with_more more x.1)) ≡ Err (Trailing x.1.at)
ended_more x more h = let t : Segment → SegError → Bool → Answer = λ s d b. cond b (Ok s) (Err d) in ap (t x.0 (Trailing x.1.at)) h

ended-stays : (more : List ℕ) (r r' : Result (Segment × Fields) SegError) (e : SegError) → Stays more r r' → ended r ≡ Err e → IsShort e ⊎ (ended r' ≡ Err e)
ended-stays more (Ok x) r' e h k =
    let t = trailing (eqb (length x.1.left) 0) x.0 x.1.at e k in
    let longer : eqb (length (x.1.left ++ more)) 0 ≡ false =
    ap (λ (n : ℕ). eqb n 0) (length-append x.1.left more) ∙ not_done (length x.1.left) (length more) t.0 in
    inr (ap (λ (r : Result (Segment × Fields) SegError). ended r) h ∙ ended_more x more longer ∙ ap (λ (d : SegError). refused d) t.1)
ended-stays more (Err d) r' e (inl s) k = inl (subst (λ (z : SegError). IsShort z) (err_is d e k) s)
ended-stays more (Err d) r' e (inr h) k = inr (ap (λ (r : Result (Segment × Fields) SegError). ended r) h ∙ k)

ended-within : (bytes : List ℕ) (r : Result (Segment × Fields) SegError) (e : SegError) → Ends (whole bytes) r → ended r ≡ Err e → place e ≤ length bytes
ended-within bytes (Ok x) e h k =
    let t = trailing (eqb (length x.1.left) 0) x.0 x.1.at e k in
    let at : x.1.at ≡ place e = ap (λ (d : SegError). place d) t.1 in
    omega (arith, h, at)
ended-within bytes (Err d) e h k =
    let at : place d ≡ place e = ap (λ (z : SegError). place z) (err_is d e k) in
    omega (arith, h, at)

-- ---- fronts

-- the answer to a front, from the answer to all
front_cut : (j : ℕ) (more bytes : List ℕ) (r r' : Result (Segment × Fields) SegError) (a : Answer) → 0 < length more → Stays more r r' → ended r' ≡ a
    → ((d : SegError) → r ≡ Err d → place d ≤ j) → ((x : Segment × Fields) → r ≡ Ok x → x.1.at ≤ j) → j < reach bytes a → j < length bytes
    → (at : ℕ) × (at ≤ j) × (ended r ≡ Err (Short at))
front_cut j more bytes (Ok x) r' a some h e bad good lt inside =
    let longer : eqb (length (x.1.left ++ more)) 0 ≡ false =
    ap (λ (n : ℕ). eqb n 0) (length-append x.1.left more) ∙ some_more (length x.1.left) (length more) some in
    let all : a ≡ Err (Trailing x.1.at) = sym e ∙ ap (λ (r : Result (Segment × Fields) SegError). ended r) h ∙ ended_more x more longer in
    let far : j < x.1.at = subst (λ (b : Answer). j < reach bytes b) all lt in
    let near : x.1.at ≤ j = good x refl in
    absurd (omega (arith, far, near))
front_cut j more bytes (Err d) r' a some (inl s) e bad good lt inside = (place d, bad d refl, ap (λ (z : SegError). refused z) (short_is d s))
front_cut j more bytes (Err d) r' a some (inr h) e bad good lt inside =
    let all : a ≡ Err d = sym e ∙ ap (λ (r : Result (Segment × Fields) SegError). ended r) h in
    let far : j < place d = subst (λ (b : Answer). j < reach bytes b) all lt in
    let near : place d ≤ j = bad d refl in
    absurd (omega (arith, far, near))

bad_within : (bytes : List ℕ) (r : Result (Segment × Fields) SegError) (d : SegError) → Ends (whole bytes) r → r ≡ Err d → place d ≤ length bytes
bad_within bytes r d h e = let k : Ends {A = Segment} (whole bytes) (Err d) =
    subst (λ (z : Result (Segment × Fields) SegError). Ends {A = Segment} (whole bytes) z) e h in omega (arith, k)

good_within : (bytes : List ℕ) (r : Result (Segment × Fields) SegError) (x : Segment × Fields) → Ends (whole bytes) r → r ≡ Ok x → x.1.at ≤ length bytes
good_within bytes r x h e = let k : Ends {A = Segment} (whole bytes) (Ok x) =
    subst (λ (z : Result (Segment × Fields) SegError). Ends {A = Segment} (whole bytes) z) e h in omega (arith, k)

pub fronts_are_cut_off : (bytes : List ℕ) (j : ℕ) → j < length bytes → j < reach bytes (answer_of bytes) → IsCutOff (take j bytes)
unfolding answer_of
fronts_are_cut_off bytes j inside lt =
    let cut = take j bytes in
    let more = drop j bytes in
    let len : length cut ≡ j = omega (arith, length-take j bytes) in
    let some : 0 < length more = omega (arith, length-drop j bytes) in
    let all : answer_of (cut ++ more) ≡ answer_of bytes = ap (λ (l : List ℕ). answer_of l) (take-append-drop j bytes) in
    let r = segment_at (whole cut) in
    let found = front_cut (length cut) more bytes r (segment_at (whole (cut ++ more))) (answer_of bytes) some (segment-steady.stays (whole cut) more) all
    (λ d e. bad_within cut r d (segment-steady.ends (whole cut)) e) (λ x e. good_within cut r x (segment-steady.ends (whole cut)) e)
    (subst (λ (k : ℕ). k < reach bytes (answer_of bytes)) (sym len) lt) (subst (λ (k : ℕ). k < length bytes) (sym len) inside) in
    found

stays_on : (bytes more : List ℕ) (e : SegError) → answer_of bytes ≡ Err e → IsShort e ⊎ (answer_of (bytes ++ more) ≡ Err e)
unfolding answer_of
stays_on bytes more e h = ended-stays more (segment_at (whole bytes)) (segment_at (whole (bytes ++ more))) e (segment-steady.stays (whole bytes) more) h

is_short : (e : SegError) → IsShort e ⊎ (IsShort e → ⊥)
is_short (Short at) = inl tt
is_short (BadMark at) = inr (λ h. h)
is_short (BadVersion at) = inr (λ h. h)
is_short (BadKind at) = inr (λ h. h)
is_short (BadLength at) = inr (λ h. h)
is_short (BadRef at) = inr (λ h. h)
is_short (Trailing at) = inr (λ h. h)
is_short Memory = inr (λ h. h)

unless_short : {P : Type 0} (e : SegError) → (IsShort e → ⊥) → IsShort e ⊎ P → P
unless_short e otherwise (inl s) = absurd (otherwise s)
unless_short e otherwise (inr p) = p

within : (bytes : List ℕ) (e : SegError) → answer_of bytes ≡ Err e → place e ≤ length bytes
unfolding answer_of
within bytes e h = ended-within bytes (segment_at (whole bytes)) e (segment-steady.ends (whole bytes)) h

all_stays : (bytes : List ℕ) (e : SegError) → answer_of bytes ≡ Err e → IsShort e ⊎ (IsShort e → ⊥)
    → IsShort e ⊎ ((more : List ℕ) → answer_of (bytes ++ more) ≡ Err e)
all_stays bytes e h (inl s) = inl s
all_stays bytes e h (inr otherwise) = inr (λ more. unless_short e otherwise (stays_on bytes more e h))

pub first_place : (bytes : List ℕ) (e : SegError) → answer_of bytes ≡ Err e → IsFirst bytes e
first_place bytes e h = record {
  within = within bytes e h;
  stays = all_stays bytes e h (is_short e);
  before = λ j lt. fronts_are_cut_off bytes j (omega (arith, within bytes e h)) (subst (λ (a : Answer). j < reach bytes a) (sym h) lt);
}
