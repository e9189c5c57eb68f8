-- A line of a form has the words of the form, and its parts mean what they were printed for.
use Rattle.std.proofs.Common.{◌≡◌, ℕ, ◌<◌, ◌==◌, Bool, true, false, not, ◌&&◌, List, [], ◌∷◌, ◌++◌, length, codes, refl, sym, ◌∙◌, ap, subst, arith}
use Rattle.std.proofs.lemmas.Bool.{eqb-true}
use Rattle.std.specs.List.{list_all}
use Rattle.std.specs.Str.{bytes_eq}
use Rattle.std.specs.Fmt.{decimal}
use Rattle.script_text.specs.declared.form.Part.{Part}
use Rattle.script_text.specs.declared.form.Part.TheVariants as part
use Rattle.script_text.specs.Words.{Lacks, words, joined, first, is_end}
use Rattle.script_text.specs.Forms.{Meaning, Meanings, looks, has_words, is_digit, are_digits, piece_of, behind_part}
use Rattle.script_text.specs.Spelling.{Context, Means, Mean}
use Rattle.script_text.specs.Script.{is_silent, is_setup_word}
use Rattle.script_text.proofs.Parts.{parted_cut, not_end}
use Rattle.script_print.specs.Printing.{spelling, spellings}
use Rattle.script_print.proofs.Bytes.{lacks_join, decimal_digits}
use Rattle.script_print.proofs.Spelled.{is_text, Fits, means_spelling, looks_spelling, lacks_space, lacks_feed, last_piece, word_piece}

-- some words spell these for these parts
abbrev pub AllFit : Context → (ps : List Part) → Meanings ps → Type 0
AllFit c [] v = Unit {0}
AllFit c (p ∷ ps) v = Fits c p v.0 × AllFit c ps v.1

-- a text is the last part alone
abbrev pub texts_last : List Part → Bool
texts_last [] = true
texts_last (p ∷ []) = true
texts_last (p ∷ q ∷ ps) = not (is_text p) && texts_last (q ∷ ps)

-- a line of these parts begins with a node, and has more parts
abbrev pub is_node : Part → Bool
is_node part.Cleaner = true
is_node part.Registry = true
is_node part.Network = true
is_node part.Client = true
is_node part.Manager = true
is_node part.Server = true
is_node part.Board = true
is_node p = false

abbrev pub node_first : List Part → Bool
node_first [] = false
node_first (p ∷ []) = false
node_first (p ∷ q ∷ ps) = is_node p

not_true : (a b : Bool) → (not a && b) ≡ true → (a ≡ false) × (b ≡ true)
not_true true b e = absurd (grind (arith, e))
not_true false b e = (refl, e)

has_step : (verb : List ℕ) (p : Part) (ps : List Part) (ws : List (List ℕ)) (w : List ℕ) (rest : List (List ℕ)) → is_end ws ≡ false → piece_of p ws ≡ w
    → behind_part p ws ≡ rest → looks p verb w ≡ true → has_words verb ps rest ≡ true → has_words verb (p ∷ ps) ws ≡ true
has_step verb p ps ws w rest a b d e f =
    let g : looks p verb (piece_of p ws) ≡ true = ap (λ x. looks p verb x) b ∙ e in
    let h : has_words verb ps (behind_part p ws) ≡ true = ap (λ x. has_words verb ps x) d ∙ f in
    rw (a, g, h) refl

mean_step : (c : Context) (p : Part) (ps : List Part) (ws : List (List ℕ)) (w : List ℕ) (rest : List (List ℕ)) (v : Meanings (p ∷ ps)) → piece_of p ws ≡ w
    → behind_part p ws ≡ rest → Means c p w v.0 → Mean c ps rest v.1 → Mean c (p ∷ ps) ws v
mean_step c p ps ws w rest v b d m n =
    let P : List ℕ → Type 0 = λ x. Means c p x v.0 in
    let Q : List (List ℕ) → Type 0 = λ x. Mean c ps x v.1 in
    (subst P (sym b) m, subst Q (sym d) n)

-- the words of a line, of which the first is this
abbrev line_of : (ps : List Part) → List ℕ → Meanings ps → List ℕ
line_of ps verb v = joined 32 (spellings ps verb v)

cut_line : (c : Context) (p q : Part) (ps : List Part) (verb : List ℕ) (v : Meanings (p ∷ q ∷ ps)) → is_text p ≡ false → Lacks 32 verb → Fits c p v.0
    → words (line_of (p ∷ q ∷ ps) verb v) ≡ spelling p verb v.0 ∷ words (line_of (q ∷ ps) verb v.1)
cut_line c p q ps verb v t l f = parted_cut 32 (spelling p verb v.0) (line_of (q ∷ ps) verb v.1) (lacks_space c p verb v.0 t l f)

pub line_reads : (c : Context) (ps : List Part) (verb : List ℕ) (v : Meanings ps) → 0 < length ps → texts_last ps ≡ true → Lacks 32 verb → AllFit c ps v
    → (has_words verb ps (words (line_of ps verb v)) ≡ true) × Mean c ps (words (line_of ps verb v)) v
line_reads c [] verb v n t l f = absurd (omega (arith, n))
line_reads c (p ∷ []) verb v n t l f =
    let w = spelling p verb v.0 in
    let e = last_piece p w (λ s. lacks_space c p verb v.0 s l f.0) in (
      has_step verb p [] (words w) w [] (not_end 32 w) e.0 e.1 (looks_spelling c p verb v.0 f.0) refl,
      mean_step c p [] (words w) w [] v e.0 e.1 (means_spelling c p verb v.0 f.0) tt,
    )
line_reads c (p ∷ q ∷ ps) verb v n t l f =
    let s = not_true (is_text p) (texts_last (q ∷ ps)) t in
    let rest = words (line_of (q ∷ ps) verb v.1) in
    let w = spelling p verb v.0 in
    let r = line_reads c (q ∷ ps) verb v.1 (omega arith) s.1 l f.1 in
    let e = word_piece p w rest s.0 in
    let P : List (List ℕ) → Type 0 = λ ws. (has_words verb (p ∷ q ∷ ps) ws ≡ true) × Mean c (p ∷ q ∷ ps) ws v in
    subst P (sym (cut_line c p q ps verb v s.0 l f.0)) (
      has_step verb p (q ∷ ps) (w ∷ rest) w rest refl e.0 e.1 (looks_spelling c p verb v.0 f.0) r.0,
      mean_step c p (q ∷ ps) (w ∷ rest) w rest v e.0 e.1 (means_spelling c p verb v.0 f.0) r.1,
    )

pub line_lacks : (c : Context) (ps : List Part) (verb : List ℕ) (v : Meanings ps) → Lacks 10 verb → AllFit c ps v → Lacks 10 (line_of ps verb v)
line_lacks c [] verb v l f = tt
line_lacks c (p ∷ []) verb v l f = lacks_feed c p verb v.0 l f.0
line_lacks c (p ∷ q ∷ ps) verb v l f =
    lacks_join 10 (spelling p verb v.0) (32 ∷ line_of (q ∷ ps) verb v.1) (lacks_feed c p verb v.0 l f.0)
    ((λ e. omega (arith, e)), line_lacks c (q ∷ ps) verb v.1 l f.1)

-- a node is neither `after` nor a word that begins a line of the setup, nor does it begin a silent line
record IsNodeWord (w rest : List ℕ) : Type 0 where
  pub untimed : bytes_eq w (codes "after") ≡ false
  pub item : is_setup_word w ≡ false
  pub loud : is_silent (w ++ rest) ≡ false

no_digit : (d y : ℕ) → is_digit d ≡ true → is_digit y ≡ false → (d == y) ≡ false
no_digit d y e f = at_test (d == y) refl
  where
    at_test : (t : Bool) → (d == y) ≡ t → t ≡ false
    at_test true g = sym e ∙ ap is_digit (eqb-true d y g) ∙ f
    at_test false g = refl

other_word : (letter d x y : ℕ) (ds rest : List ℕ) → is_digit d ≡ true → is_digit y ≡ false → bytes_eq (letter ∷ d ∷ ds) (x ∷ y ∷ rest) ≡ false
other_word letter d x y ds rest e f = at_test (letter == x)
  where
    at_test : (t : Bool) → (t && ((d == y) && bytes_eq ds rest)) ≡ false
    at_test true = ap (λ b. b && bytes_eq ds rest) (no_digit d y e f)
    at_test false = refl

numbered_test : (letter d : ℕ) (ds : List ℕ) → is_digit d ≡ true → is_setup_word (letter ∷ d ∷ ds) ≡ false
numbered_test letter d ds e =
    rw (
      other_word letter d 120 102 ds (115 ∷ []) e refl,
      other_word letter d 99 108 ds (codes "ients") e refl,
      other_word letter d 109 97 ds (codes "nagers") e refl,
      other_word letter d 115 101 ds (codes "rvers") e refl,
      other_word letter d 103 114 ds (codes "oup") e refl,
      other_word letter d 103 114 ds (codes "oup2") e refl,
      other_word letter d 99 97 ds (codes "che") e refl,
      other_word letter d 97 99 ds (codes "ts") e refl,
    ) refl

numbered_node : (letter : ℕ) (ds rest : List ℕ) → (letter == 35) ≡ false → are_digits ds ≡ true → IsNodeWord (letter ∷ ds) rest
numbered_node letter [] rest l e = absurd (grind (arith, e))
numbered_node letter (d ∷ ds) rest l e =
    let g = first_digit d ds e in
    record { untimed = other_word letter d 97 102 ds (codes "ter") g refl; item = numbered_test letter d ds g; loud = l }
  where
    first_digit : (x : ℕ) (xs : List ℕ) → list_all is_digit (x ∷ xs) ≡ true → is_digit x ≡ true
    first_digit x xs e = at_test (is_digit x) e
      where
        at_test : (t : Bool) → (t && list_all is_digit xs) ≡ true → t ≡ true
        at_test true f = refl
        at_test false f = absurd (grind (arith, f))

node_word : (c : Context) (p : Part) (verb : List ℕ) (v : Meaning p) (rest : List ℕ) → is_node p ≡ true → Fits c p v → IsNodeWord (spelling p verb v) rest
node_word c part.Cleaner verb v rest n f = record { untimed = refl; item = refl; loud = refl }
node_word c part.Registry verb v rest n f = record { untimed = refl; item = refl; loud = refl }
node_word c part.Network verb v rest n f = record { untimed = refl; item = refl; loud = refl }
node_word c part.Client verb v rest n (w, m, h) = numbered_node 99 (decimal v) rest refl (decimal_digits v m.0.0)
node_word c part.Manager verb v rest n (w, m, h) = numbered_node 109 (decimal v) rest refl (decimal_digits v m.0.0)
node_word c part.Server verb v rest n (w, m, h) = numbered_node 115 (decimal v) rest refl (decimal_digits v m.0.0)
node_word c part.Board verb v rest n (w, m, h) = numbered_node 98 (decimal v) rest refl (decimal_digits v m.0.0)
node_word c p verb v rest n f = absurd (grind (arith, n))

-- the beginning of a line
pub record Begins (line : List ℕ) : Type 0 where
  pub untimed : bytes_eq (first (words line)) (codes "after") ≡ false
  pub item : is_setup_word (first (words line)) ≡ false
  pub loud : is_silent line ≡ false

pub line_begins : (c : Context) (ps : List Part) (verb : List ℕ) (v : Meanings ps) → node_first ps ≡ true → Lacks 32 verb → AllFit c ps v
    → Begins (line_of ps verb v)
line_begins c [] verb v n l f = absurd (grind (arith, n))
line_begins c (p ∷ []) verb v n l f = absurd (grind (arith, n))
line_begins c (p ∷ q ∷ ps) verb v n l f =
    let w = spelling p verb v.0 in
    let g = node_word c p verb v.0 (32 ∷ line_of (q ∷ ps) verb v.1) n f.0 in
    let e : first (words (line_of (p ∷ q ∷ ps) verb v)) ≡ w = ap first (cut_line c p q ps verb v (not_text p n) l f.0) in
    record { untimed = ap (λ x. bytes_eq x (codes "after")) e ∙ g.untimed; item = ap is_setup_word e ∙ g.item; loud = g.loud }
  where
    not_text : (r : Part) → is_node r ≡ true → is_text r ≡ false
    not_text part.BlockText e = absurd (grind (arith, e))
    not_text part.FileText e = absurd (grind (arith, e))
    not_text r e = refl
