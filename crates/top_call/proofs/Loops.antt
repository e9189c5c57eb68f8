-- Steps of the loops that read and write.
use Rattle.std.proofs.Common.{◌≡◌, ℕ, ◌+◌, ◌-◌, ◌≤◌, ◌<◌, min, List, [], ◌∷◌, ◌++◌, length, take, drop, Option, Some, None, refl, sym, ◌∙◌, ap, arith, append_assoc, append-nil, length-append}
use Rattle.std.proofs.lemmas.Grind.{common_steps}
use Rattle.std.proofs.Math.Seq.{take-append_seam, take-add}
use Rattle.std.specs.Io.KnownBytes.{Consumes, Appends, IsAtEnd}
use Rattle.top_call.specs.Input.{limit, ReadWhole}

-- a list that is no longer than m is its own front of m
take_all : (m : ℕ) (xs : List ℕ) → length xs ≤ m → take m xs ≡ xs
take_all m [] b = grind (arith, common_steps)
take_all m (x ∷ xs) b = grind (arith, common_steps)

front_at_limit : (m : ℕ) (all text rest : List ℕ) → all ≡ text ++ rest → length text ≡ m → text ≡ take m all
front_at_limit m all text rest e b = rw (e, ← b) (sym (take-append_seam text rest))

nothing_left : (n : ℕ) (rest last room : List ℕ) → rest ≡ take n room ++ last → n ≡ 0 → last ≡ [] → rest ≡ []
nothing_left n rest last room s z l = rw (s, z, l) refl

all_read : (m n : ℕ) (all text rest last room : List ℕ) → all ≡ text ++ rest → rest ≡ take n room ++ last → n ≡ 0 → last ≡ [] → length text ≤ m
    → text ≡ take m all
all_read m n all text rest last room t s z l b =
    let r : rest ≡ [] = nothing_left n rest last room s z l in
    let e : all ≡ text = t ∙ rw (r, append-nil) refl in
    rw e (sym (take_all m text b))

pub whole_at_end : (before now after : Option (List ℕ)) (text room : List ℕ) (n : ℕ) → Consumes before now text → Consumes now after (take n room)
    → (n ≡ 0 → 0 < length room → IsAtEnd after) → n ≡ 0 → 0 < length room → length text ≤ limit → ReadWhole before text
whole_at_end None now after text room n t s e z p b = tt
whole_at_end (Some all) None after text room n t s e z p b = absurd t
whole_at_end (Some all) (Some rest) None text room n t s e z p b = absurd s
whole_at_end (Some all) (Some rest) (Some last) text room n t s e z p b =
    all_read limit n all text rest last room t s z (e z p) b

pub whole_at_limit : (before now : Option (List ℕ)) (text : List ℕ) → Consumes before now text → length text ≤ limit → limit ≤ length text
    → ReadWhole before text
whole_at_limit None now text t b l = tt
whole_at_limit (Some all) None text t b l = absurd t
whole_at_limit (Some all) (Some rest) text t b l = front_at_limit limit all text rest t (omega arith)

pub appends_on : (before now after : Option (List ℕ)) (text : List ℕ) (n k : ℕ) → Appends before now (take n text) → Appends now after (take k (drop n text))
    → Appends before after (take (n + k) text)
appends_on None now after text n k a b = tt
appends_on (Some old) None after text n k a b = absurd a
appends_on (Some old) (Some mid) None text n k a b = absurd b
appends_on (Some old) (Some mid) (Some new) text n k a b = rw (take-add n k text, b, a) (append_assoc old _ _)

-- what was consumed first and then
pub consumes_on : (before now after : Option (List ℕ)) (first more : List ℕ) → Consumes before now first → Consumes now after more
    → Consumes before after (first ++ more)
consumes_on None now after first more a b = tt
consumes_on (Some xs) None after first more a b = absurd a
consumes_on (Some xs) (Some ys) None first more a b = absurd b
consumes_on (Some xs) (Some ys) (Some zs) first more a b = a ∙ ap (λ x. first ++ x) b ∙ sym (append_assoc first more zs)

pub within : (text more : List ℕ) (wanted : ℕ) → length text < limit → wanted ≡ min 4096 (limit - length text) → length more ≤ wanted
    → length (text ++ more) ≤ limit
within text more wanted short e l = grind (arith, length-append text more)
