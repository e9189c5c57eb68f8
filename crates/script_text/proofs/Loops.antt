-- What loops keep: what is read so far stands before what the rest gives.
use Rattle.std.proofs.Common.{◌≡◌, ℕ, zero, suc, ◌+◌, ◌-◌, ◌<◌, ◌≤◌, ◌==◌, nat_le, Bool, true, false, not, ◌&&◌, List, [], ◌∷◌, ◌++◌, length, drop, get_or, refl, sym, ◌∙◌, ap, arith, Option, Some, None, Err, if◌then◌else◌, append_assoc, length-append, zero-add, add-one, drop-cons}
use Rattle.std.proofs.lemmas.Bool.Decides.{nat_tests}
use Rattle.std.specs.List.{repeat}
use Rattle.script_text.specs.declared.form.Part.{Part}
use Rattle.script_text.specs.declared.form.Part.TheVariants as part
use Rattle.script_text.specs.declared.refusal.Kind.TheVariants.{BadText, TooLong}
use Rattle.script_text.specs.Words.{Lacks, parted, is_end}
use Rattle.script_text.specs.Forms.{looks, has_words, piece_of, behind_part}
use Rattle.script_text.specs.Outcome.{judge}
use Rattle.script_text.specs.Reading.{is_short, are_few}
use Rattle.script_text.proofs.Judged.{good, bad}
use Rattle.script_text.proofs.Parts.{parted_cut, parted_whole, some_parts}

-- bytes before a text that is there
abbrev pub with_front : List ℕ → Option (List ℕ) → Option (List ℕ)
with_front front None = None
with_front front (Some text) = Some (front ++ text)

-- repeating
repeat_more : (count i : ℕ) (piece : List ℕ) → i < count → repeat (count - i) piece ≡ piece ++ repeat (count - (i + 1)) piece
repeat_more count i piece l =
    let e : count - i ≡ suc (count - (i + 1)) = omega arith in
    ap (λ k. repeat k piece) e

pub repeat_step : (text piece whole : List ℕ) (count i : ℕ) → i < count → text ++ repeat (count - i) piece ≡ whole
    → (text ++ piece) ++ repeat (count - (i + 1)) piece ≡ whole
repeat_step text piece whole count i l e =
    append_assoc text piece (repeat (count - (i + 1)) piece) ∙ ap (λ x. text ++ x) (sym (repeat_more count i piece l)) ∙ e

-- names of a path
pub names_step : (whole names : List (List ℕ)) (rest name after : List ℕ) → names ++ parted 47 rest ≡ whole → rest ≡ name ++ 47 ∷ after → Lacks 47 name
    → (names ++ name ∷ []) ++ parted 47 after ≡ whole
names_step whole names rest name after e f h =
    append_assoc names (name ∷ []) (parted 47 after) ∙ ap (λ x. names ++ x) (sym (ap (λ x. parted 47 x) f ∙ parted_cut 47 name after h)) ∙ e

pub names_over : (whole names : List (List ℕ)) (rest : List ℕ) → names ++ parted 47 rest ≡ whole → 16 ≤ length names
    → (if are_few whole then good whole else bad TooLong) ≡ Err TooLong
names_over whole names rest e l =
    let s = some_parts 47 rest in
    let g : length whole ≡ length names + length (s.0 ∷ s.1) =
    ap length (sym e) ∙ length-append names (parted 47 rest) ∙ ap (λ x. length names + length x) s.2 in
    long (length whole) (omega (arith, g, l))
  where
    long : (n : ℕ) → 16 < n → (if nat_le n 16 then good whole else bad TooLong) ≡ Err TooLong
    long n h = let t : nat_le n 16 ≡ false = grind (arith, nat_tests, h) in rw t refl

pub names_done : (whole names : List (List ℕ)) (rest : List ℕ) → names ++ parted 47 rest ≡ whole → Lacks 47 rest → length names < 16
    → (if are_few whole then good whole else bad TooLong) ≡ good (names ++ rest ∷ [])
names_done whole names rest e h l =
    let f : names ++ rest ∷ [] ≡ whole = ap (λ x. names ++ x) (sym (parted_whole 47 rest h)) ∙ e in
    let g : length (names ++ rest ∷ []) ≡ length names + 1 = length-append names (rest ∷ []) in
    let m : length (names ++ rest ∷ []) ≤ 16 = omega (arith, g, l) in
    let t : nat_le (length (names ++ rest ∷ [])) 16 ≡ true = grind (arith, nat_tests, m) in
    rw (← f) (rw t refl)

-- the parts of a line
pub words_ended : (v : List ℕ) (ps : List Part) (i : ℕ) (ws : List (List ℕ)) (r : Bool) → i < length ps → has_words v (drop i ps) ws ≡ r → is_end ws ≡ true
    → false ≡ r
words_ended v ps i ws r l h f =
    let p : Part = get_or ps i part.Verb in
    let d : drop i ps ≡ p ∷ drop (i + 1) ps = rw (add-one, drop-cons ps i part.Verb) refl in
    let g : has_words v (p ∷ drop (i + 1) ps) ws ≡ r = ap (λ x. has_words v x ws) (sym d) ∙ h in
    ap (λ t. not t && looks p v (piece_of p ws) && has_words v (drop (i + 1) ps) (behind_part p ws)) (sym f) ∙ g

-- the names so far, with one more
pub names_kept : (whole names new : List (List ℕ)) (rest name item after : List ℕ) → names ++ parted 47 rest ≡ whole → rest ≡ name ++ 47 ∷ after → Lacks 47 name
    → new ≡ names ++ item ∷ [] → item ≡ name → new ++ parted 47 after ≡ whole
names_kept whole names new rest name item after e f h g i =
    ap (λ x. x ++ parted 47 after) (g ∙ ap (λ x. names ++ x ∷ []) i) ∙ names_step whole names rest name after e f h

pub few_more : (names new : List (List ℕ)) (item : List ℕ) → new ≡ names ++ item ∷ [] → length names < 16 → length new ≤ 16
few_more names new item e l =
    let g : length new ≡ length names + 1 = ap length e ∙ length-append names (item ∷ []) in
    omega (arith, g, l)

pub names_all : (whole names new : List (List ℕ)) (rest item : List ℕ) → names ++ parted 47 rest ≡ whole → Lacks 47 rest → length names < 16
    → new ≡ names ++ item ∷ [] → item ≡ rest → (if are_few whole then good whole else bad TooLong) ≡ good new
names_all whole names new rest item e h l g i =
    names_done whole names rest e h l ∙ ap (λ x. good x) (sym (g ∙ ap (λ x. names ++ x ∷ []) i))

-- the text so far, once more
pub repeat_kept : (text piece new whole : List ℕ) (count i : ℕ) → i < count → text ++ repeat (count - i) piece ≡ whole → new ≡ text ++ piece
    → new ++ repeat (count - (i + 1)) piece ≡ whole
repeat_kept text piece new whole count i l e g = ap (λ x. x ++ repeat (count - (i + 1)) piece) g ∙ repeat_step text piece whole count i l e

pub short_more : (text piece new : List ℕ) (limit : ℕ) → new ≡ text ++ piece → length text + length piece ≤ limit → length new ≤ limit
short_more text piece new limit g l =
    let h : length new ≡ length text + length piece = ap length g ∙ length-append text piece in
    omega (arith, h, l)

-- a text so often without a byte
repeat_empty : (n : ℕ) (t : List ℕ) → length t ≡ 0 → length (repeat n t) ≡ 0
repeat_empty zero t e = refl
repeat_empty (suc n) t e = length-append t (repeat n t) ∙ ap (λ x. x + length (repeat n t)) e ∙ zero-add (length (repeat n t)) ∙ repeat_empty n t e

pub nothing_zero : (n : ℕ) (t : List ℕ) → n ≡ 0 → true ≡ (length (repeat n t) == 0)
nothing_zero n t e = sym (ap (λ k. length (repeat k t) == 0) e)

test_of : (n : ℕ) (r : Bool) → (r ≡ true → n ≡ 0) → (n ≡ 0 → r ≡ true) → r ≡ (n == 0)
test_of n true f g = let e : n ≡ 0 = f refl in rw e refl
test_of zero false f g = g refl
test_of (suc n) false f g = grind (arith, nat_tests)

pub nothing_empty : (n : ℕ) (t : List ℕ) (r : Bool) → (n ≡ 0 → ⊥) → (r ≡ true → length t ≡ 0) → (length t ≡ 0 → r ≡ true) → r ≡ (length (repeat n t) == 0)
nothing_empty zero t r h f g = absurd (h refl)
nothing_empty (suc n) t r h f g =
    let s : length (repeat (suc n) t) ≡ length t + length (repeat n t) = length-append t (repeat n t) in
    test_of (length (repeat (suc n) t)) r (λ e. repeat_empty (suc n) t (f e)) (λ e. g (omega (arith, s, e)))

pub none_within : (limit : ℕ) (text : List ℕ) → length text ≡ 0 → judge BadText TooLong (is_short limit) (Some text) ≡ good []
none_within limit [] e = let t : nat_le 0 limit ≡ true = grind (arith, nat_tests) in rw t refl
none_within limit (b ∷ text) e = absurd (omega (arith, e))
