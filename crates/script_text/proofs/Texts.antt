-- Texts: what is read between quotes, and with a count, is what is written so.
use Rattle.std.proofs.Common.{◌≡◌, ℕ, ◌+◌, ◌*◌, ◌-◌, ◌<◌, ◌≤◌, ◌^◌, ◌==◌, nat_le, Bool, true, false, ◌&&◌, ◌||◌, List, [], ◌∷◌, ◌++◌, length, refl, sym, ◌∙◌, ap, arith, inl, inr, Option, Some, None, Result, Ok, Err, IfOk, if◌then◌else◌, append_assoc, append-nil}
use Rattle.std.proofs.lemmas.Bool.Decides.{nat_tests}
use Rattle.std.proofs.lemmas.Bool.{ne_eqb, eqb-true, eqb-false}
use Rattle.std.specs.Fmt.{decimal}
use Rattle.std.specs.List.{repeat}
use Rattle.std.specs.Str.Parse.{AllDigits}
use Rattle.std.proofs.lemmas.Fmt.{digits_decimal, decimal_nonempty}
use Rattle.std.proofs.lemmas.Str.Parse.{digit_from_value}
use Rattle.script_text.specs.declared.text.Mark.{Mark}
use Rattle.script_text.specs.declared.text.Mark.TheVariants as mark
use Rattle.script_text.specs.declared.text.Turn.{Turn}
use Rattle.script_text.specs.declared.text.Turn.TheVariants as turns
use Rattle.script_text.specs.declared.text.Repeated.{Repeated}
use Rattle.script_text.specs.Words.{Lacks}
use Rattle.script_text.specs.Text.{is_plain, hex_digit, WritesByte, Writes, quoted, SpellsText}
use Rattle.script_text.specs.Reading.{number_of, with_byte, IsMark, hex_value, turn_at, if_last, text_from, quoted_text, cut_at, onto_front, with_count, counted_as, counted_by, counted_text, text_parts}
use Rattle.script_text.proofs.WordLemmas.{own, wide, number_decimal, number_from}

-- what is put before a text that is there
with_byte_some : (b : ℕ) (o : Option (List ℕ)) (t : List ℕ) → with_byte b o ≡ Some t → (u : List ℕ) × (o ≡ Some u) × (t ≡ b ∷ u)
with_byte_some b None t e = absurd (grind (arith, e))
with_byte_some b (Some u) t e = (u, refl, grind (arith, e))

-- a digit has the value of which it is the digit
hex_low : (b : ℕ) → nat_le 48 b ≡ true → nat_le b 57 ≡ true → (b - 48 < 16) × (b ≡ hex_digit (b - 48))
hex_low b l u =
    let m : 48 ≤ b = grind (arith, nat_tests, l) in
    let n : b ≤ 57 = grind (arith, nat_tests, u) in
    (omega arith, low (b - 48) b (omega arith) (omega arith))
  where
    low : (h b : ℕ) → h < 10 → b ≡ 48 + h → b ≡ hex_digit h
    low h b s e = grind (arith, nat_tests, s, e)

hex_high : (b : ℕ) → nat_le 97 b ≡ true → nat_le b 102 ≡ true → (b - 87 < 16) × (b ≡ hex_digit (b - 87))
hex_high b l u =
    let m : 97 ≤ b = grind (arith, nat_tests, l) in
    let n : b ≤ 102 = grind (arith, nat_tests, u) in
    (omega arith, high (b - 87) b (omega arith) (omega arith))
  where
    high : (h b : ℕ) → 10 ≤ h → b ≡ 87 + h → b ≡ hex_digit h
    high h b s e = grind (arith, nat_tests, s, e)

hex_cases : (b h : ℕ) (p q r s : Bool) → nat_le 48 b ≡ p → nat_le b 57 ≡ q → nat_le 97 b ≡ r → nat_le b 102 ≡ s
    → (if p && q then Some (b - 48) else if r && s then Some (b - 87) else None) ≡ Some h → (h < 16) × (b ≡ hex_digit h)
hex_cases b h true true r s p q u v e =
    let w : b - 48 ≡ h = grind (arith, e) in
    let x = hex_low b p q in rw w at x
hex_cases b h true false true true p q u v e =
    let w : b - 87 ≡ h = grind (arith, e) in
    let x = hex_high b u v in rw w at x
hex_cases b h false q true true p z u v e =
    let w : b - 87 ≡ h = grind (arith, e) in
    let x = hex_high b u v in rw w at x
hex_cases b h true false true false p q u v e = absurd (grind (arith, e))
hex_cases b h true false false s p q u v e = absurd (grind (arith, e))
hex_cases b h false q true false p z u v e = absurd (grind (arith, e))
hex_cases b h false q false s p z u v e = absurd (grind (arith, e))

pub hex_found : (b h : ℕ) → hex_value b ≡ Some h → (h < 16) × (b ≡ hex_digit h)
hex_found b h e = hex_cases b h (nat_le 48 b) (nat_le b 57) (nat_le 97 b) (nat_le b 102) refl refl refl refl e

pub hex_written : (h : ℕ) → h < 16 → hex_value (hex_digit h) ≡ Some h
hex_written h l = grind (arith, nat_tests, l)

-- what stands before this mark of the byte that is being read
abbrev before : Mark → List ℕ
before mark.Plain = []
before mark.Escape = 92 ∷ []
before mark.High = 92 ∷ 120 ∷ []
before (mark.Low h) = 92 ∷ 120 ∷ hex_digit h ∷ []

-- what a byte at a mark does
abbrev TurnFact : Mark → ℕ → Turn → Type 0
TurnFact m b (turns.Adds x) = WritesByte x (before m ++ b ∷ [])
TurnFact m b (turns.Goes n) = IsMark n × (before n ≡ before m ++ b ∷ [])
TurnFact m b turns.Closes = (m ≡ mark.Plain) × (b ≡ 34)
TurnFact m b turns.Fails = Unit {0}

plain_fact : (b : ℕ) (t p s : Bool) → (b == 34) ≡ t → is_plain b ≡ p → (b == 92) ≡ s
    → TurnFact mark.Plain b (if t then turns.Closes else if p then turns.Adds b else if s then turns.Goes mark.Escape else turns.Fails)
plain_fact b true p s e f g = (refl, eqb-true b 34 e)
plain_fact b false true s e f g = inl (f, refl)
plain_fact b false false true e f g = (tt, ap (λ x. x ∷ []) (sym (eqb-true b 92 g)))
plain_fact b false false false e f g = tt

escape_fact : (b : ℕ) (x q s : Bool) → (b == 120) ≡ x → (b == 34) ≡ q → (b == 92) ≡ s
    → TurnFact mark.Escape b (if x then turns.Goes mark.High else if q || s then turns.Adds b else turns.Fails)
escape_fact b true q s e f g = (tt, ap (λ x. 92 ∷ x ∷ []) (sym (eqb-true b 120 e)))
escape_fact b false true s e f g = let h = eqb-true b 34 f in inr (inl (h, ap (λ x. 92 ∷ x ∷ []) h))
escape_fact b false false true e f g = let h = eqb-true b 92 g in inr (inr (inl (h, ap (λ x. 92 ∷ x ∷ []) h)))
escape_fact b false false false e f g = tt

high_fact : (b : ℕ) (o : Option ℕ) → hex_value b ≡ o → TurnFact mark.High b (elim o [ None ↦ turns.Fails | Some h ↦ turns.Goes (mark.Low h) ])
high_fact b None e = tt
high_fact b (Some h) e = let x = hex_found b h e in (x.0, ap (λ y. 92 ∷ 120 ∷ y ∷ []) (sym x.1))

low_fact : (h b : ℕ) (o : Option ℕ) → h < 16 → hex_value b ≡ o → TurnFact (mark.Low h) b (elim o [ None ↦ turns.Fails | Some l ↦ turns.Adds (16 * h + l) ])
low_fact h b None m e = tt
low_fact h b (Some l) m e =
    let x = hex_found b l e in
    inr (inr (inr (h, l, m, x.0, refl, ap (λ y. 92 ∷ 120 ∷ hex_digit h ∷ y ∷ []) x.1)))

turn_fact : (m : Mark) (b : ℕ) → IsMark m → TurnFact m b (turn_at m b)
turn_fact mark.Plain b i = plain_fact b (b == 34) (is_plain b) (b == 92) refl refl refl
turn_fact mark.Escape b i = escape_fact b (b == 120) (b == 34) (b == 92) refl refl refl
turn_fact mark.High b i = high_fact b (hex_value b) refl
turn_fact (mark.Low h) b i = low_fact h b (hex_value b) i refl

-- the bytes from a mark on write this text
record Body (m : Mark) (bytes text : List ℕ) : Type 0 where
  body : List ℕ
  writes : Writes text body
  ends : before m ++ bytes ≡ body ++ 34 ∷ []

last_body : (bytes text : List ℕ) → if_last bytes ≡ Some text → Body mark.Plain (34 ∷ bytes) text
last_body [] text e = let f : text ≡ [] = grind (arith, e) in record { body = []; writes = rw f refl; ends = refl }
last_body (b ∷ bytes) text e = absurd (grind (arith, e))

plain_close : (m : Mark) (b : ℕ) (bytes text : List ℕ) → m ≡ mark.Plain → b ≡ 34 → if_last bytes ≡ Some text → Body m (b ∷ bytes) text
plain_close m b bytes text e f h = rw (e, f) (last_body bytes text h)

one_more : (m : Mark) (x b : ℕ) (bytes u : List ℕ) → WritesByte x (before m ++ b ∷ []) → Body mark.Plain bytes u → Body m (b ∷ bytes) (x ∷ u)
one_more m x b bytes u w r = record {
  body = (before m ++ b ∷ []) ++ r.body;
  writes = (before m ++ b ∷ [], r.body, w, r.writes, refl);
  ends =
      let e : bytes ≡ r.body ++ 34 ∷ [] = r.ends in
      let f : before m ++ b ∷ bytes ≡ (before m ++ b ∷ []) ++ bytes = sym (append_assoc (before m) (b ∷ []) bytes) in
      f ∙ ap (λ y. (before m ++ b ∷ []) ++ y) e ∙ sym (append_assoc (before m ++ b ∷ []) r.body (34 ∷ []));
}

goes_on : (m n : Mark) (b : ℕ) (bytes text : List ℕ) → before n ≡ before m ++ b ∷ [] → Body n bytes text → Body m (b ∷ bytes) text
goes_on m n b bytes text e r = record {
  body = r.body;
  writes = r.writes;
  ends =
      let f : before m ++ b ∷ bytes ≡ (before m ++ b ∷ []) ++ bytes = sym (append_assoc (before m) (b ∷ []) bytes) in
      f ∙ ap (λ y. y ++ bytes) (sym e) ∙ r.ends;
}

text_turn : (m : Mark) (b : ℕ) (bytes text : List ℕ) (u : Turn) → TurnFact m b u
    → ((n : Mark) (v : List ℕ) → IsMark n → text_from n bytes ≡ Some v → Body n bytes v)
    → (elim u [
      | turns.Adds x ↦ with_byte x (text_from mark.Plain bytes)
      | turns.Goes n ↦ text_from n bytes
      | turns.Closes ↦ if_last bytes
      | turns.Fails ↦ None
    ]) ≡ Some text → Body m (b ∷ bytes) text
text_turn m b bytes text (turns.Adds x) f h e =
    let w = with_byte_some x (text_from mark.Plain bytes) text e in
    rw w.2 (one_more m x b bytes w.0 f (h mark.Plain w.0 tt w.1))
text_turn m b bytes text (turns.Goes n) f h e = goes_on m n b bytes text f.1 (h n text f.0 e)
text_turn m b bytes text turns.Closes f h e = plain_close m b bytes text f.0 f.1 e
text_turn m b bytes text turns.Fails f h e = absurd (grind (arith, e))

-- what is read from a mark on is written so
text_read : (bytes : List ℕ) (m : Mark) (text : List ℕ) → IsMark m → text_from m bytes ≡ Some text → Body m bytes text
text_read [] m text i e = absurd (grind (arith, e))
text_read (b ∷ bytes) m text i e = text_turn m b bytes text (turn_at m b) (turn_fact m b i) (λ n v j f. text_read bytes n v j f) e

pub quoted_read : (bytes text : List ℕ) → text_from mark.Plain bytes ≡ Some text → (body : List ℕ) × Writes text body × (34 ∷ bytes ≡ quoted body)
quoted_read bytes text e = let r = text_read bytes mark.Plain text tt e in (r.body, r.writes, ap (λ y. 34 ∷ y) r.ends)

turn_plain : (b : ℕ) → is_plain b ≡ true → turn_at mark.Plain b ≡ turns.Adds b
turn_plain b e =
    ap (λ t. if t then turns.Closes else if is_plain b then turns.Adds b else if b == 92 then turns.Goes mark.Escape else turns.Fails) (not_quote b e)
    ∙ ap (λ t. if t then turns.Adds b else if b == 92 then turns.Goes mark.Escape else turns.Fails) e
  where
    not_quote : (b : ℕ) → is_plain b ≡ true → (b == 34) ≡ false
    not_quote b e = grind (arith, nat_tests, e)

-- what a turn leads to
abbrev led : List ℕ → Turn → Option (List ℕ)
led bytes (turns.Adds x) = with_byte x (text_from mark.Plain bytes)
led bytes (turns.Goes n) = text_from n bytes
led bytes turns.Closes = if_last bytes
led bytes turns.Fails = None

hex_turn : (h b l : ℕ) (rest : List ℕ) → hex_value b ≡ Some l → text_from (mark.Low h) (b ∷ rest) ≡ with_byte (16 * h + l) (text_from mark.Plain rest)
hex_turn h b l rest e = ap (λ (o : Option ℕ). led rest (elim o [ None ↦ turns.Fails | Some v ↦ turns.Adds (16 * h + v) ])) e

high_turn : (h b : ℕ) (rest : List ℕ) → hex_value b ≡ Some h → text_from mark.High (b ∷ rest) ≡ text_from (mark.Low h) rest
high_turn h b rest e = ap (λ (o : Option ℕ). led rest (elim o [ None ↦ turns.Fails | Some v ↦ turns.Goes (mark.Low v) ])) e

piece_read : (b : ℕ) (piece rest text : List ℕ) → WritesByte b piece → text_from mark.Plain rest ≡ Some text
    → text_from mark.Plain (piece ++ rest) ≡ Some (b ∷ text)
piece_read b piece rest text (inl w) e = rw w.1 (ap (λ u. led rest u) (turn_plain b w.0) ∙ ap (λ o. with_byte b o) e)
piece_read b piece rest text (inr (inl w)) e = rw w.1 (rw w.0 (ap (λ o. with_byte 34 o) e))
piece_read b piece rest text (inr (inr (inl w))) e = rw w.1 (rw w.0 (ap (λ o. with_byte 92 o) e))
piece_read b piece rest text (inr (inr (inr (h, l, m, n, f, g)))) e =
    rw (g, f) (high_turn h (hex_digit h) (hex_digit l ∷ rest) (hex_written h m) ∙ hex_turn h (hex_digit l) l rest (hex_written l n)
    ∙ ap (λ o. with_byte (16 * h + l) o) e)

-- what is written is read again
pub written_read : (text body : List ℕ) → Writes text body → text_from mark.Plain (body ++ 34 ∷ []) ≡ Some text
written_read [] body w = rw w refl
written_read (b ∷ text) body (piece, rest, w, ws, e) =
    let r = written_read text rest ws in
    rw (e, append_assoc piece rest (34 ∷ [])) (piece_read b piece (rest ++ 34 ∷ []) text w r)

-- cutting at the first of a byte
front_some : (b : ℕ) (o : Option (List ℕ × List ℕ)) (p : List ℕ × List ℕ) → onto_front b o ≡ Some p
    → (q : List ℕ × List ℕ) × (o ≡ Some q) × (p ≡ (b ∷ q.0, q.1))
front_some b None p e = absurd (grind (arith, e))
front_some b (Some q) p e = (q, refl, grind (arith, e))

cut_turn : (m b : ℕ) (bytes : List ℕ) (t : Bool) (p : List ℕ × List ℕ) → (b == m) ≡ t
    → ((q : List ℕ × List ℕ) → cut_at m bytes ≡ Some q → (bytes ≡ q.0 ++ m ∷ q.1) × Lacks m q.0)
    → (if t then Some ([], bytes) else onto_front b (cut_at m bytes)) ≡ Some p → (b ∷ bytes ≡ p.0 ++ m ∷ p.1) × Lacks m p.0
cut_turn m b bytes true p e h f =
    let g : p ≡ ([], bytes) = grind (arith, f) in
    rw g (ap (λ x. x ∷ bytes) (eqb-true b m e), tt)
cut_turn m b bytes false p e h f =
    let q = front_some b (cut_at m bytes) p f in
    let r = h q.0 q.1 in
    rw q.2 (ap (λ y. b ∷ y) r.0, (eqb-false b m e, r.1))

pub cut_found : (m : ℕ) (bytes : List ℕ) (p : List ℕ × List ℕ) → cut_at m bytes ≡ Some p → (bytes ≡ p.0 ++ m ∷ p.1) × Lacks m p.0
cut_found m [] p e = absurd (grind (arith, e))
cut_found m (b ∷ bytes) p e = cut_turn m b bytes (b == m) p refl (λ q f. cut_found m bytes q f) e

pub cut_there : (m : ℕ) (a r : List ℕ) → Lacks m a → cut_at m (a ++ m ∷ r) ≡ Some (a, r)
cut_there m [] r h = let e : (m == m) ≡ true = grind arith in rw e refl
cut_there m (b ∷ a) r h =
    let e : (b == m) ≡ false = ne_eqb b m h.0 in
    rw (e, cut_there m a r h.1) refl

pub cut_missing : (m : ℕ) (bytes : List ℕ) → Lacks m bytes → cut_at m bytes ≡ None
cut_missing m [] h = refl
cut_missing m (b ∷ bytes) h =
    let e : (b == m) ≡ false = ne_eqb b m h.0 in
    rw (e, cut_missing m bytes h.1) refl

-- decimal digits are neither a star nor a quote
digits_lack : (m : ℕ) (ds : List ℕ) → m < 48 → AllDigits 10 ds → Lacks m ds
digits_lack m [] l d = tt
digits_lack m (c ∷ cs) l d = (λ e. omega (arith, (digit_from_value c d.0).0, e, l), digits_lack m cs l d.1)

decimal_lacks : (m n : ℕ) → m < 48 → n < 2 ^ 32 → Lacks m (decimal n)
decimal_lacks m n l h = digits_lack m (decimal n) l (digits_decimal own n (wide n h))

counted_back : (n : ℕ) (back : List ℕ) (o : Option (List ℕ)) (p : Repeated) → quoted_text back ≡ o → with_count n o ≡ Some p
    → (t : List ℕ) × (quoted_text back ≡ Some t) × (p ≡ record { count = n; text = t })
counted_back n back None p e f = absurd (grind (arith, f))
counted_back n back (Some t) p e f = (t, e, grind (arith, f))

quoted_front : (back text : List ℕ) → quoted_text back ≡ Some text → (body : List ℕ) × Writes text body × (back ≡ quoted body)
quoted_front [] text e = absurd (grind (arith, e))
quoted_front (b ∷ back) text e = at_quote (b == 34) refl e
  where
    at_quote : (t : Bool) → (b == 34) ≡ t → (if t then text_from mark.Plain back else None) ≡ Some text
        → (body : List ℕ) × Writes text body × (b ∷ back ≡ quoted body)
    at_quote true e f =
        let r = quoted_read back text f in
        (r.0, r.1, ap (λ x. x ∷ back) (eqb-true b 34 e) ∙ r.2)
    at_quote false e f = absurd (grind (arith, f))

counted_front : (front back : List ℕ) (o : Option ℕ) (p : Repeated) → number_of front ≡ o → counted_as o (quoted_text back) ≡ Some p
    → (n : ℕ) × (n < 2 ^ 32) × (front ≡ decimal n) × (t : List ℕ) × (quoted_text back ≡ Some t) × (p ≡ record { count = n; text = t })
counted_front front back None p e f = absurd (grind (arith, f))
counted_front front back (Some n) p e f =
    let d = number_from front n e in
    let r = counted_back n back (quoted_text back) p refl f in
    (n, d.0, d.1, r.0, r.1, r.2)

counted_cut : (word : List ℕ) (o : Option (List ℕ × List ℕ)) (p : Repeated) → cut_at 42 word ≡ o → counted_by o ≡ Some p
    → SpellsText word (repeat p.count p.text)
counted_cut word None p e f = absurd (grind (arith, f))
counted_cut word (Some q) p e f =
    let c = cut_found 42 word q e in
    let r = counted_front q.0 q.1 (number_of q.0) p refl f in
    let b = quoted_front q.1 r.3 r.4 in
    inr (r.0, r.3, b.0, r.1, b.1, c.0 ∙ ap (λ x. x ++ 42 ∷ q.1) r.2 ∙ ap (λ x. decimal r.0 ++ 42 ∷ x) b.2, ap (λ (x : Repeated). repeat x.count x.text) r.5)

-- a text that is read is spelled by the word
pub parts_read : (word : List ℕ) (p : Repeated) → text_parts word ≡ Some p → SpellsText word (repeat p.count p.text)
parts_read [] p e = absurd (grind (arith, e))
parts_read (b ∷ word) p e = at_quote (b == 34) refl e
  where
    once : (b : ℕ) (word : List ℕ) (o : Option (List ℕ)) (p : Repeated) → b ≡ 34 → text_from mark.Plain word ≡ o → with_count 1 o ≡ Some p
        → SpellsText (b ∷ word) (repeat p.count p.text)
    once b word None p h e f = absurd (grind (arith, f))
    once b word (Some t) p h e f =
        let q : p ≡ record { count = 1; text = t } = grind (arith, f) in
        let r = quoted_read word t e in
        rw q (inl (r.0, rw (append-nil t) r.1, ap (λ x. x ∷ word) h ∙ r.2))

    at_quote : (t : Bool) → (b == 34) ≡ t → (if t then with_count 1 (text_from mark.Plain word) else counted_text (b ∷ word)) ≡ Some p
        → SpellsText (b ∷ word) (repeat p.count p.text)
    at_quote true h f = once b word (text_from mark.Plain word) p (eqb-true b 34 h) refl f
    at_quote false h f = counted_cut (b ∷ word) (cut_at 42 (b ∷ word)) p refl f

not_quoted : (w : List ℕ) → Lacks 34 w → (rest : List ℕ) → 0 < length w → text_parts (w ++ rest) ≡ counted_text (w ++ rest)
not_quoted [] h rest l = absurd (omega (arith, l))
not_quoted (b ∷ w) h rest l = let e : (b == 34) ≡ false = ne_eqb b 34 h.0 in rw e refl

-- a text that a word spells is read
pub parts_spelled : (word text : List ℕ) → SpellsText word text → (p : Repeated) × (text_parts word ≡ Some p) × (text ≡ repeat p.count p.text)
parts_spelled word text (inl (body, w, e)) =
    let r = written_read text body w in
    (record { count = 1; text = text }, rw e (ap (λ o. with_count 1 o) r), sym (append-nil text))
parts_spelled word text (inr (n, piece, body, l, w, e, f)) =
    let r = written_read piece body w in
    let c = cut_there 42 (decimal n) (quoted body) (decimal_lacks 42 n (omega arith) l) in
    let q = not_quoted (decimal n) (decimal_lacks 34 n (omega arith) l) (42 ∷ quoted body) (decimal_nonempty n (wide n l)) in
    let g : counted_text (decimal n ++ 42 ∷ quoted body) ≡ Some (record { count = n; text = piece }) = ap counted_by c
    ∙ ap (λ o. counted_as o (quoted_text (quoted body))) (number_decimal n l) ∙ ap (λ o. with_count n o) r in
    (record { count = n; text = piece }, rw e (q ∙ g), f)

-- a word without a star has no count
pub counted_none : (word : List ℕ) → Lacks 42 word → None ≡ counted_text word
counted_none word h = sym (ap counted_by (cut_missing 42 word h))

-- a word is cut at its first star
pub counted_is : (word front back : List ℕ) (o : Option ℕ) → word ≡ front ++ 42 ∷ back → Lacks 42 front → number_of front ≡ o
    → counted_as o (quoted_text back) ≡ counted_text word
counted_is word front back o e h f =
    sym (ap counted_text e ∙ ap counted_by (cut_there 42 front back h) ∙ ap (λ x. counted_as x (quoted_text back)) f)

pub if_ok_same : {T E : Type 0} (r : Result T E) (x y : T) → x ≡ y → IfOk r (λ p. p ≡ x) → IfOk r (λ p. p ≡ y)
if_ok_same (Ok p) x y e h = h ∙ e
if_ok_same (Err p) x y e h = tt
