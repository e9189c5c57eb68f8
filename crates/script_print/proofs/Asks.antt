-- The items of a script that is read: some line asks for each.
use Rattle.std.proofs.Common.{◌≡◌, ◌≢◌, ℕ, ◌<◌, ◌^◌, ◌==◌, Bool, true, false, ◌&&◌, List, [], ◌∷◌, refl, arith, if◌then◌else◌}
use Rattle.std.proofs.lemmas.Bool.{eqb-false}
use Rattle.std.specs.Bool.{MatchBool}
use Rattle.std.specs.List.{AllByRecursion, onto_first}
use Rattle.version_model.specs.declared.work.Work.{Work}
use Rattle.script_text.specs.declared.form.Part.{Part}
use Rattle.script_text.specs.declared.form.Part.TheVariants as part
use Rattle.script_text.specs.Lines.{lines}
use Rattle.script_text.specs.Words.{Lacks, words, first, behind, or_empty}
use Rattle.script_text.specs.Forms.{Meanings, parts, is_net, piece_of, behind_part}
use Rattle.script_text.specs.Spelling.{Context, Means, Mean}
use Rattle.script_text.specs.Script.{is_timed, untimed, a_time, IsItem}
use Rattle.script_print.proofs.Spelled.{IsPlain}
use Rattle.script_print.proofs.LineReads.{AllFit}
use Rattle.script_print.proofs.ItemLines.{IsAsked}

-- a word of a line
abbrev IsWord : List ℕ → Type 0
IsWord w = Lacks 32 w × Lacks 10 w

abbrev AreWords : List (List ℕ) → Type 0
AreWords ws = AllByRecursion IsWord ws

word_onto : (b : ℕ) (ws : List (List ℕ)) → b ≢ 32 → b ≢ 10 → AreWords ws → AreWords (onto_first b ws)
word_onto b [] h k a = (((h, tt), (k, tt)), tt)
word_onto b (w ∷ ws) h k a = (((h, a.0.0), (k, a.0.1)), a.1)

line_words : (line : List ℕ) → Lacks 10 line → AreWords (words line)
line_words [] l = ((tt, tt), tt)
line_words (b ∷ line) l = at_space (line_words line l.1) (b == 32) refl
  where
    at_space : AreWords (words line) → (t : Bool) → (b == 32) ≡ t → AreWords (if t then [] ∷ words line else onto_first b (words line))
    at_space a true e = ((tt, tt), a)
    at_space a false e = word_onto b (words line) (eqb-false b 32 e) l.0 a

feed_onto : (b : ℕ) (ls : List (List ℕ)) → b ≢ 10 → AllByRecursion (λ l. Lacks 10 l) ls → AllByRecursion (λ l. Lacks 10 l) (onto_first b ls)
feed_onto b [] h a = ((h, tt), tt)
feed_onto b (l ∷ ls) h a = ((h, a.0), a.1)

-- no line has a line feed
pub lines_lack : (bytes : List ℕ) → AllByRecursion (λ l. Lacks 10 l) (lines bytes)
lines_lack [] = tt
lines_lack (b ∷ bytes) = at_feed (lines_lack bytes) (b == 10) refl
  where
    at_feed : AllByRecursion (λ l. Lacks 10 l) (lines bytes) → (t : Bool) → (b == 10) ≡ t
        → AllByRecursion (λ l. Lacks 10 l) (if t then [] ∷ lines bytes else onto_first b (lines bytes))
    at_feed a true e = (tt, a)
    at_feed a false e = feed_onto b (lines bytes) (eqb-false b 10 e) a

first_word : (ws : List (List ℕ)) → AreWords ws → IsWord (first ws)
first_word [] a = (tt, tt)
first_word (w ∷ ws) a = a.0

behind_words : (ws : List (List ℕ)) → AreWords ws → AreWords (behind ws)
behind_words [] a = tt
behind_words (w ∷ ws) a = a.1

some_words : (ws : List (List ℕ)) → AreWords ws → AreWords (or_empty ws)
some_words [] a = ((tt, tt), tt)
some_words (w ∷ ws) a = a

untimed_words : (ws : List (List ℕ)) → AreWords ws → AreWords (untimed ws)
untimed_words ws a = at_time (is_timed ws)
  where
    at_time : (t : Bool) → AreWords (if t then or_empty (behind (behind ws)) else ws)
    at_time true = some_words (behind (behind ws)) (behind_words (behind ws) (behind_words ws a))
    at_time false = a

plain_piece : (p : Part) (ws : List (List ℕ)) → AreWords ws → IsPlain p (piece_of p ws)
plain_piece part.Path ws a = first_word ws a
plain_piece p ws a = tt

words_left : (p : Part) (ws : List (List ℕ)) → AreWords ws → AreWords (behind_part p ws)
words_left part.BlockText ws a = tt
words_left part.FileText ws a = tt
words_left p ws a = behind_words ws a

fit_words : (c : Context) (ps : List Part) (ws : List (List ℕ)) (v : Meanings ps) → AreWords ws → Mean c ps ws v → AllFit c ps v
fit_words c [] ws v a m = tt
fit_words c (p ∷ ps) ws v a m = ((piece_of p ws, m.0, plain_piece p ws a), fit_words c ps (behind_part p ws) v.1 (words_left p ws a) m.1)

-- an item that is read is asked for
pub item_asked : (c : Context) (line : List ℕ) (after : ℕ) (work : Work) → Lacks 10 line → IsItem c (words line) after work → IsAsked c after work
item_asked c line after work l i = record {
  form = i.form;
  meanings = i.meanings;
  fits = fit_words c (parts i.form) (untimed (words line)) i.meanings (untimed_words (words line) (line_words line l)) i.spelled;
  meant = i.meant;
  time = at_time (is_timed (words line)) i.time;
  alone = at_net (is_timed (words line)) (is_net i.form) i.time i.of_form.1;
}
  where
    at_time : (t : Bool) → MatchBool t (Means c a_time (first (behind (words line))) after) (after ≡ 0) → after < 2 ^ 32
    at_time true m = m.0.0.0
    at_time false m = omega (arith, m)

    at_net : (t u : Bool) → MatchBool t (Means c a_time (first (behind (words line))) after) (after ≡ 0) → (t && u) ≡ false → u ≡ true → after ≡ 0
    at_net true true m e f = absurd (grind (arith, e))
    at_net true false m e f = absurd (grind (arith, f))
    at_net false u m e f = m
