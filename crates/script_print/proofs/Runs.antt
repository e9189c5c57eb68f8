-- A text that is appended piece by piece, or in runs: bytes that stand for themselves wait, and are appended together.
use Rattle.std.proofs.Common.{◌≡◌, ℕ, ◌+◌, ◌-◌, ◌<◌, ◌≤◌, Bool, true, cond, List, [], ◌∷◌, ◌++◌, length, take, drop, refl, sym, ap, ap₂, ◌∙◌, arith, append_assoc, append-nil, length-drop}
use Rattle.std.specs.Prelude.{◌==◌, ◌/◌, ◌%◌, ◌||◌, slice_index, slice_range}
use Rattle.std.proofs.lemmas.List.{drop_all, drop_more, get_or-drop, take_more}
use Rattle.std.proofs.lemmas.List.Folds.{drop_split}
use Rattle.std.specs.List.{list_all}
use Rattle.xfs_base.proofs.Booleans.{and_first, and_second}
use Rattle.script_text.specs.Text.{is_plain, hex_digit}
use Rattle.script_print.specs.Printing.{byte_text, text_body}

body_append : (a b : List ℕ) → text_body (a ++ b) ≡ text_body a ++ text_body b
body_append [] b = refl
body_append (x ∷ a) b = ap (λ t. byte_text x ++ t) (body_append a b) ∙ sym (append_assoc (byte_text x) (text_body a) (text_body b))

one_plain : (b : ℕ) → is_plain b ≡ true → text_body (b ∷ []) ≡ b ∷ []
one_plain b is =
    append-nil (byte_text b)
    ∙ ap (λ (t : Bool). cond t (b ∷ []) (cond ((b == 34) || (b == 92)) (92 ∷ b ∷ []) (92 ∷ 120 ∷ hex_digit (b / 16) ∷ hex_digit (b % 16) ∷ []))) is

-- where each byte stands for itself, so does the text
pub plain_body : (text : List ℕ) → list_all is_plain text ≡ true → text_body text ≡ text
plain_body [] all = refl
plain_body (b ∷ text) all =
    body_append (b ∷ []) text
    ∙ ap₂ (λ a c. a ++ c) (one_plain b (and_first (is_plain b) (list_all is_plain text) all)) (plain_body text (and_second (is_plain b) (list_all is_plain text) all))

-- a piece was appended: what is there now, and then what is left, is still the whole
pub piece_appended : (whole out new rest piece more : List ℕ) → out ++ text_body rest ≡ whole → rest ≡ piece ++ more → new ≡ out ++ text_body piece
    → new ++ text_body more ≡ whole
piece_appended whole out new rest piece more before cut last =
    ap (λ l. l ++ text_body more) last ∙ append_assoc out (text_body piece) (text_body more) ∙ ap (λ l. out ++ l) (sym (ap text_body cut ∙ body_append piece more))
    ∙ before

-- the bytes before `from` were appended to what was there before, and those from there up to `at` stand for themselves
pub record Appended (before now bytes : List ℕ) (from at : ℕ) : Type 0 where
  pub within : from ≤ at
  pub appended : now ++ text_body (drop from bytes) ≡ before ++ text_body bytes
  pub plain : text_body (slice_range bytes from at) ≡ slice_range bytes from at

pub none_yet : (before bytes : List ℕ) → Appended before before bytes 0 0
none_yet before bytes = record { within = omega arith; appended = refl; plain = refl }

module _ (before now bytes : List ℕ) (from at : ℕ) (less : at < length bytes) (far : Appended before now bytes from at) where
  abbrev run : List ℕ
  run = slice_range bytes from at

  abbrev byte : ℕ
  byte = slice_index bytes at

  longer : slice_range bytes from (at + 1) ≡ run ++ byte ∷ []
  longer =
      ap (λ n. take n (drop from bytes)) next ∙ take_more (drop from bytes) (at - from) 0 short
      ∙ ap (λ b. run ++ b ∷ []) (get_or-drop from bytes (at - from) 0 ∙ ap (λ n. slice_index bytes n) there)
    where
      next : at + 1 - from ≡ at - from + 1
      next = omega (arith, far.within)

      there : from + (at - from) ≡ at
      there = omega (arith, far.within)

      short : at - from < length (drop from bytes)
      short = omega (arith, far.within, less, length-drop from bytes)

  -- a byte that stands for itself waits
  pub one_waits : is_plain byte ≡ true → Appended before now bytes from (at + 1)
  one_waits is = record {
    within = omega (arith, far.within);
    appended = far.appended;
    plain = ap text_body longer ∙ body_append run (byte ∷ []) ∙ ap₂ (λ a b. a ++ b) far.plain (one_plain byte is) ∙ sym longer;
  }

  -- another one is appended behind those that wait
  pub run_ends : (mid new : List ℕ) → mid ≡ now ++ run → new ≡ mid ++ byte_text byte → Appended before new bytes (at + 1) (at + 1)
  run_ends mid new waited last = record {
    within = omega arith;
    appended = ap (λ l. l ++ rest) (last ∙ ap (λ l. l ++ byte_text byte) waited) ∙ regroup now run (byte_text byte) rest ∙ ap (λ l. now ++ l) (sym split) ∙ far.appended;
    plain = ap (λ n. text_body (take n (drop (at + 1) bytes))) none ∙ sym (ap (λ n. take n (drop (at + 1) bytes)) none);
  }
    where
      rest : List ℕ
      rest = text_body (drop (at + 1) bytes)

      none : at + 1 - (at + 1) ≡ 0
      none = omega arith

      split : text_body (drop from bytes) ≡ run ++ (byte_text byte ++ rest)
      split =
          ap text_body (drop_split bytes from at far.within) ∙ body_append run (drop at bytes)
          ∙ ap₂ (λ a b. a ++ b) far.plain (ap text_body (drop_more bytes at 0 less))

      regroup : (a b c d : List ℕ) → ((a ++ b) ++ c) ++ d ≡ a ++ (b ++ (c ++ d))
      regroup a b c d = simp append_assoc

-- at the end those that wait are appended
pub all_appended : (before now new bytes : List ℕ) (from at : ℕ) → Appended before now bytes from at → length bytes ≤ at → new ≡ now ++ drop from bytes
    → new ≡ before ++ text_body bytes
all_appended before now new bytes from at far end last =
    last ∙ ap (λ l. now ++ l) (sym (ap text_body whole ∙ far.plain ∙ sym whole)) ∙ far.appended
  where
    whole : drop from bytes ≡ slice_range bytes from at
    whole =
        drop_split bytes from at far.within ∙ ap (λ l. slice_range bytes from at ++ l) (drop_all at bytes end) ∙ append-nil (slice_range bytes from at)
