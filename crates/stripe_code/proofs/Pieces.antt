-- The pieces of a text: how long they are, and that end to end they are the text and zeros.
use Rattle.std.proofs.Common.{◌≡◌, ℕ, ◌+◌, ◌-◌, ◌*◌, ◌/◌, ◌%◌, ◌<◌, ◌≤◌, zero, suc, List, [], ◌∷◌, ◌++◌, length, take, drop, Bool, eqb, cond, inl, inr, refl, sym, ◌∙◌, ap, ap₂, subst, min, append_assoc, length-append, length-take, length-drop, take-append-drop, arith}
use Rattle.std.proofs.lemmas.Bool.{cases_lt}
use Rattle.std.proofs.lemmas.List.{length-replicate, take_all, drop_all, append-nil, replicate-append-replicate}
use Rattle.std.proofs.lemmas.Nat.{div-add-mod', mod_below}
use Rattle.std.proofs.Math.Nat.{suc-mul, add_comm, sub-zero, mul_comm, mul-add, mul-one}
use Rattle.std.proofs.Math.Seq.{take-append_seam}
use Rattle.std.proofs.Math.Dec.{eqb-suc-zero}
use Rattle.std.proofs.lemmas.List.Elements.{All-nil, All-cons, All-append, All-take, All-drop, All-replicate}
use Rattle.std.specs.List.{concat}
use Rattle.std.specs.Prelude.{All}
use Rattle.stripe_code.specs.Stripe.{IsBytes, part_len, zeros, piece_of, cut_pieces}

pub length-cut_pieces : (count part : ℕ) (text : List ℕ) → length (cut_pieces count part text) ≡ count
length-cut_pieces zero part text = refl
length-cut_pieces (suc count) part text = ap suc (length-cut_pieces count part (drop part text))

pub pieces_long : (count part : ℕ) (text : List ℕ) → All (λ f. length f ≡ part) (cut_pieces count part text)
pieces_long zero part text = All-nil (λ (f : List ℕ). length f ≡ part)
pieces_long (suc count) part text =
    let front : length (take part text) ≤ part = omega (arith, length-take part text) in
    let long : length (piece_of part (take part text)) ≡ part =
    length-append (take part text) (zeros (part - length (take part text)))
    ∙ ap (λ (n : ℕ). length (take part text) + n) (length-replicate (part - length (take part text)) 0) ∙ omega arith in
    All-cons (λ (f : List ℕ). length f ≡ part) (piece_of part (take part text)) (cut_pieces count part (drop part text)) long
    (pieces_long count part (drop part text))

pub pieces_bytes : (count part : ℕ) (text : List ℕ) → IsBytes text → All IsBytes (cut_pieces count part text)
pieces_bytes zero part text bytes = All-nil IsBytes
pieces_bytes (suc count) part text bytes =
    All-cons IsBytes (piece_of part (take part text)) (cut_pieces count part (drop part text))
    (All-append (λ byte. byte < 256) (take part text) (zeros (part - length (take part text))) (All-take (λ byte. byte < 256) part text bytes)
    (All-replicate (λ byte. byte < 256) (part - length (take part text)) 0 (omega arith)))
    (pieces_bytes count part (drop part text) (All-drop (λ byte. byte < 256) part text bytes))

long_padding : (m n k : ℕ) → k ≡ m + n → zeros m ++ zeros n ≡ zeros k
long_padding m n k e = replicate-append-replicate m n 0 ∙ ap zeros (sym e)

-- end to end, where they suffice, they are the text and zeros
pub concat-cut_pieces : (count part : ℕ) (text : List ℕ) → length text ≤ count * part → concat (cut_pieces count part text) ≡ piece_of (count * part) text
concat-cut_pieces zero part [] within = ap zeros (let e : 0 ≡ 0 * part - 0 = omega arith in e)
concat-cut_pieces zero part (x ∷ text) within = absurd (let none : 0 * part ≡ 0 = omega arith in omega arith)
concat-cut_pieces (suc count) part text within =
    let more : suc count * part ≡ part + count * part = suc-mul count part ∙ add_comm (count * part) part in
    let rest : length (drop part text) ≡ length text - part = length-drop part text in
    let end : concat (cut_pieces count part (drop part text)) ≡ drop part text ++ zeros (count * part - length (drop part text)) =
    concat-cut_pieces count part (drop part text) (omega arith) in
    let front = take part text in
    let front_long : length front ≡ min part (length text) = length-take part text in
    elim (cases_lt part (length text)) [
      | inl long ↦
          let none : part - length front ≡ 0 = omega arith in
          let left : count * part - length (drop part text) ≡ suc count * part - length text = omega arith in
          ap₂ (λ (a b : List ℕ). a ++ b) (ap (λ (n : ℕ). front ++ zeros n) none ∙ append-nil front) (end ∙ ap (λ (n : ℕ). drop part text ++ zeros n) left)
          ∙ sym (append_assoc front (drop part text) (zeros (suc count * part - length text)))
          ∙ ap (λ (a : List ℕ). a ++ zeros (suc count * part - length text)) (take-append-drop part text)
      | inr short ↦
          let whole : front ≡ text = take_all part text short in
          let over : drop part text ≡ [] = drop_all part text short in
          let after : concat (cut_pieces count part (drop part text)) ≡ zeros (count * part) =
          end ∙ ap (λ (a : List ℕ). a ++ zeros (count * part - length a)) over ∙ ap zeros (sub-zero (count * part)) in
          ap₂ (λ (a b : List ℕ). a ++ b) (ap (piece_of part) whole) after ∙ append_assoc text (zeros (part - length text)) (zeros (count * part))
          ∙ ap (λ (a : List ℕ). text ++ a) (long_padding (part - length text) (count * part) (suc count * part - length text) (omega arith))
    ]

rounded : ℕ → ℕ → ℕ
rounded q r = q + cond (eqb r 0) 0 1

rounded_up : (count q r : ℕ) → r < count → q * count + r ≤ count * rounded q r
unfolding rounded
rounded_up count q zero low = grind (arith, mul_comm q count)
rounded_up count q (suc r) low =
    let more : count * (q + 1) ≡ count * q + count = mul-add count q 1 ∙ ap (λ (n : ℕ). count * q + n) (mul-one count) in
    let turned : q * count ≡ count * q = mul_comm q count in
    let up : rounded q (suc r) ≡ q + 1 = ap (λ (b : Bool). q + cond b 0 1) (eqb-suc-zero r) in
    let wide : count * rounded q (suc r) ≡ count * q + count = ap (λ (n : ℕ). count * n) up ∙ more in
    omega arith

pub pieces_suffice : (len count : ℕ) → 0 < count → len ≤ count * part_len len count
unfolding rounded
pieces_suffice len count some =
    let split : len / count * count + len % count ≡ len = div-add-mod' len count in
    subst (λ (n : ℕ). n ≤ count * part_len len count) split (rounded_up count (len / count) (len % count) (mod_below len count some))

-- the text is the front of its pieces
pub text_of_pieces : (count : ℕ) (text : List ℕ) → 0 < count → take (length text) (concat (cut_pieces count (part_len (length text) count) text)) ≡ text
text_of_pieces count text some =
    let part = part_len (length text) count in
    ap (take (length text)) (concat-cut_pieces count part text (pieces_suffice (length text) count some))
    ∙ take-append_seam text (zeros (count * part - length text))
