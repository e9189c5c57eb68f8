-- Names as numbers: with incarnation and attempt below a base, the code of a name tells it.
use Rattle.std.proofs.Common.{◌≡◌, ℕ, ◌+◌, ◌*◌, ◌/◌, ◌%◌, ◌<◌, sym, ap, ◌∙◌, arith}
use Rattle.log_protocol.specs.State.{Names}
use Rattle.log_protocol.specs.NamesAsNumbers.{code_seq, code_incarnation, code_attempt, Decodes}
use Rattle.std.proofs.lemmas.Nat.{div-mul-add, mod-mul-add}

quotient_and_rest : (base x y : ℕ) → 0 < base → x / base ≡ y / base → x % base ≡ y % base → x ≡ y
quotient_and_rest base x y some q r = sym (whole x) ∙ (ap (λ z. base * z + x % base) q ∙ (ap (λ z. base * (y / base) + z) r ∙ whole y))
  where
    whole : (z : ℕ) → base * (z / base) + z % base ≡ z
    whole z = omega arith

pub numbers_name : (base : ℕ) → 0 < base → Names (code_seq base) (code_incarnation base) (code_attempt base)
numbers_name base some =
    record { apart = λ x y s c a. quotient_and_rest base x y some (quotient_and_rest base (x / base) (y / base) some s c) a; none = zero_div }
  where
    zero_div : (0 / base) / base ≡ 0
    zero_div = omega arith

pub codes_decode : (base seq incarnation attempt : ℕ) → incarnation < base → attempt < base → Decodes base seq incarnation attempt
codes_decode base seq incarnation attempt small less =
    let boot = seq * base + incarnation in
    let d : (boot * base + attempt) / base ≡ boot = div-mul-add boot base attempt less in
    record {
      its_seq = ap (λ z. z / base) d ∙ div-mul-add seq base incarnation small;
      its_incarnation = ap (λ z. z % base) d ∙ mod-mul-add seq base incarnation small;
      its_attempt = mod-mul-add boot base attempt less;
    }
