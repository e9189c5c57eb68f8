-- The first line of an input.
use Rattle.std.proofs.Common.{◌≡◌, ℕ, ◌<◌, ◌==◌, List, [], ◌∷◌, ◌++◌, length, refl, arith, Bool, false, if◌then◌else◌}
use Rattle.std.proofs.lemmas.Bool.{ne_eqb}
use Rattle.std.specs.List.{onto_first}
use Rattle.script_text.specs.Lines.{lines}
use Rattle.script_text.specs.Words.{Lacks}

onto : (x : ℕ) (a : List ℕ) (t : Bool) (ls : List (List ℕ)) → t ≡ false → ls ≡ a ∷ [] → (if t then [] ∷ ls else onto_first x ls) ≡ (x ∷ a) ∷ []
onto x a t ls e f = rw (e, f) refl

onto_more : (x : ℕ) (a : List ℕ) (t : Bool) (ls more : List (List ℕ)) → t ≡ false → ls ≡ a ∷ more → (if t then [] ∷ ls else onto_first x ls) ≡ (x ∷ a) ∷ more
onto_more x a t ls more e f = rw (e, f) refl

pub lines_cut : (a r : List ℕ) → Lacks 10 a → lines (a ++ 10 ∷ r) ≡ a ∷ lines r
lines_cut [] r h = refl
lines_cut (x ∷ a) r h = onto_more x a (x == 10) (lines (a ++ 10 ∷ r)) (lines r) (ne_eqb x 10 h.0) (lines_cut a r h.1)

pub lines_whole : (a : List ℕ) → Lacks 10 a → 0 < length a → lines a ≡ a ∷ []
lines_whole [] h l = absurd (omega (arith, l))
lines_whole (x ∷ []) h l = rw (ne_eqb x 10 h.0) refl
lines_whole (x ∷ y ∷ a) h l = onto x (y ∷ a) (x == 10) (lines (y ∷ a)) (ne_eqb x 10 h.0) (lines_whole (y ∷ a) h.1 (omega arith))
