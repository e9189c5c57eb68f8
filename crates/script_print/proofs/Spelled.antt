-- The one spelling of a part spells what the part means.
use Rattle.std.proofs.Common.{◌≡◌, ◌≢◌, ℕ, ◌<◌, ◌^◌, ◌==◌, Bool, true, false, List, [], ◌∷◌, codes, refl, ◌∙◌, ap, arith}
use Rattle.std.specs.Str.{bytes_eq}
use Rattle.std.specs.Fmt.{decimal}
use Rattle.std.proofs.lemmas.Slice.Eq.{bytes_eq-Decides}
use Rattle.xfs_base.proofs.Booleans.{equal_itself}
use Rattle.script_text.specs.declared.form.Part.{Part}
use Rattle.script_text.specs.declared.form.Part.TheVariants as part
use Rattle.script_text.specs.Words.{Lacks, words, first, behind}
use Rattle.script_text.specs.Forms.{Meaning, looks, is_numbered, piece_of, behind_part}
use Rattle.script_text.specs.Spelling.{Context, IsPath, Means}
use Rattle.script_text.proofs.Parts.{parted_whole, joined_parted}
use Rattle.script_print.specs.Printing.{path_text, spelling}
use Rattle.script_print.proofs.Bytes.{lacks_test, decimal_lacks, decimal_digits, spelled_bytes, text_spelled, text_lacks}

-- the part is the rest of the line
abbrev pub is_text : Part → Bool
is_text part.BlockText = true
is_text part.FileText = true
is_text p = false

-- a word of a line that is a path has neither a space nor a line feed
abbrev pub IsPlain : Part → List ℕ → Type 0
IsPlain part.Path word = Lacks 32 word × Lacks 10 word
IsPlain p word = Unit {0}

-- some word of a line spells this for this part
abbrev pub Fits : Context → (p : Part) → Meaning p → Type 0
Fits c p v = (word : List ℕ) × Means c p word v × IsPlain p word

path_is : (word : List ℕ) (names : List (List ℕ)) → IsPath word names → word ≡ path_text names
path_is word [] p = p
path_is word (name ∷ names) p = p.2

path_spelled : (word : List ℕ) (names : List (List ℕ)) → IsPath word names → IsPath (path_text names) names
path_spelled word [] p = refl
path_spelled word (name ∷ names) p = ((λ e. p.0 (p.2 ∙ e)), p.1, refl)

-- the spelling means it
pub means_spelling : (c : Context) (p : Part) (verb : List ℕ) (v : Meaning p) → Fits c p v → Means c p (spelling p verb v) v
means_spelling c part.Cleaner verb v f = (tt, tt)
means_spelling c part.Registry verb v f = (tt, tt)
means_spelling c part.Network verb v f = (tt, tt)
means_spelling c part.Verb verb v f = (tt, tt)
means_spelling c part.Client verb v (w, m, h) = ((m.0.0, refl), m.1)
means_spelling c part.Manager verb v (w, m, h) = ((m.0.0, refl), m.1)
means_spelling c part.Server verb v (w, m, h) = ((m.0.0, refl), m.1)
means_spelling c part.Board verb v (w, m, h) = ((m.0.0, refl), m.1)
means_spelling c (part.Number a b) verb v (w, m, h) = (((m.0.0.0, refl), m.0.1, m.0.2), m.1)
means_spelling c part.Raw verb v (w, m, h) = (((m.0.0.0, refl), m.0.1), m.1)
means_spelling c part.Path verb v (w, m, h) = (path_spelled w v m.0, m.1)
means_spelling c part.BlockText verb v (w, m, h) = ((text_spelled v (spelled_bytes w v m.0.0), m.0.1), m.1)
means_spelling c part.FileText verb v (w, m, h) = (text_spelled v (spelled_bytes w v m.0), m.1)

same_word : (w : List ℕ) → bytes_eq w w ≡ true
same_word w = (bytes_eq-Decides w w).1 refl

numbered_word : (letter n : ℕ) → n < 2 ^ 32 → is_numbered letter (letter ∷ decimal n) ≡ true
numbered_word letter n h =
    let a : (letter == letter) ≡ true = equal_itself letter in
    rw (a, decimal_digits n h) refl

-- the spelling looks like the part
pub looks_spelling : (c : Context) (p : Part) (verb : List ℕ) (v : Meaning p) → Fits c p v → looks p verb (spelling p verb v) ≡ true
looks_spelling c part.Cleaner verb v f = refl
looks_spelling c part.Registry verb v f = refl
looks_spelling c part.Network verb v f = refl
looks_spelling c part.Verb verb v f = same_word verb
looks_spelling c part.Client verb v (w, m, h) = numbered_word 99 v m.0.0
looks_spelling c part.Manager verb v (w, m, h) = numbered_word 109 v m.0.0
looks_spelling c part.Server verb v (w, m, h) = numbered_word 115 v m.0.0
looks_spelling c part.Board verb v (w, m, h) = numbered_word 98 v m.0.0
looks_spelling c (part.Number a b) verb v f = refl
looks_spelling c part.Raw verb v f = refl
looks_spelling c part.Path verb v f = refl
looks_spelling c part.BlockText verb v f = refl
looks_spelling c part.FileText verb v f = refl

behind_letter : (m letter n : ℕ) → m < 48 → letter ≢ m → n < 2 ^ 32 → Lacks m (letter ∷ decimal n)
behind_letter m letter n l h k = (h, decimal_lacks m n l k)

-- a spelling that is a word has no space
pub lacks_space : (c : Context) (p : Part) (verb : List ℕ) (v : Meaning p) → is_text p ≡ false → Lacks 32 verb → Fits c p v → Lacks 32 (spelling p verb v)
lacks_space c part.Cleaner verb v t l f = lacks_test 32 (codes "cl") refl
lacks_space c part.Registry verb v t l f = lacks_test 32 (codes "reg") refl
lacks_space c part.Network verb v t l f = lacks_test 32 (codes "net") refl
lacks_space c part.Verb verb v t l f = l
lacks_space c part.Client verb v t l (w, m, h) = behind_letter 32 99 v (omega arith) (λ e. omega (arith, e)) m.0.0
lacks_space c part.Manager verb v t l (w, m, h) = behind_letter 32 109 v (omega arith) (λ e. omega (arith, e)) m.0.0
lacks_space c part.Server verb v t l (w, m, h) = behind_letter 32 115 v (omega arith) (λ e. omega (arith, e)) m.0.0
lacks_space c part.Board verb v t l (w, m, h) = behind_letter 32 98 v (omega arith) (λ e. omega (arith, e)) m.0.0
lacks_space c (part.Number a b) verb v t l (w, m, h) = decimal_lacks 32 v (omega arith) m.0.0.0
lacks_space c part.Raw verb v t l (w, m, h) = decimal_lacks 32 v (omega arith) m.0.0.0
lacks_space c part.Path verb v t l (w, m, h) = rw (← path_is w v m.0) h.0
lacks_space c part.BlockText verb v t l f = absurd (grind (arith, t))
lacks_space c part.FileText verb v t l f = absurd (grind (arith, t))

-- no spelling has a line feed
pub lacks_feed : (c : Context) (p : Part) (verb : List ℕ) (v : Meaning p) → Lacks 10 verb → Fits c p v → Lacks 10 (spelling p verb v)
lacks_feed c part.Cleaner verb v l f = lacks_test 10 (codes "cl") refl
lacks_feed c part.Registry verb v l f = lacks_test 10 (codes "reg") refl
lacks_feed c part.Network verb v l f = lacks_test 10 (codes "net") refl
lacks_feed c part.Verb verb v l f = l
lacks_feed c part.Client verb v l (w, m, h) = behind_letter 10 99 v (omega arith) (λ e. omega (arith, e)) m.0.0
lacks_feed c part.Manager verb v l (w, m, h) = behind_letter 10 109 v (omega arith) (λ e. omega (arith, e)) m.0.0
lacks_feed c part.Server verb v l (w, m, h) = behind_letter 10 115 v (omega arith) (λ e. omega (arith, e)) m.0.0
lacks_feed c part.Board verb v l (w, m, h) = behind_letter 10 98 v (omega arith) (λ e. omega (arith, e)) m.0.0
lacks_feed c (part.Number a b) verb v l (w, m, h) = decimal_lacks 10 v (omega arith) m.0.0.0
lacks_feed c part.Raw verb v l (w, m, h) = decimal_lacks 10 v (omega arith) m.0.0.0
lacks_feed c part.Path verb v l (w, m, h) = rw (← path_is w v m.0) h.1
lacks_feed c part.BlockText verb v l f = text_lacks v
lacks_feed c part.FileText verb v l f = text_lacks v

-- the last piece of a line
pub last_piece : (p : Part) (w : List ℕ) → (is_text p ≡ false → Lacks 32 w) → (piece_of p (words w) ≡ w) × (behind_part p (words w) ≡ [])
last_piece part.BlockText w h = (joined_parted 32 w, refl)
last_piece part.FileText w h = (joined_parted 32 w, refl)
last_piece p w h = let e = parted_whole 32 w (h refl) in (ap first e, ap behind e)

-- a word before others
pub word_piece : (p : Part) (w : List ℕ) (ws : List (List ℕ)) → is_text p ≡ false → (piece_of p (w ∷ ws) ≡ w) × (behind_part p (w ∷ ws) ≡ ws)
word_piece part.BlockText w ws e = absurd (grind (arith, e))
word_piece part.FileText w ws e = absurd (grind (arith, e))
word_piece p w ws e = (refl, refl)
