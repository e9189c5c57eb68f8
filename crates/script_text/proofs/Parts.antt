-- The pieces between the bytes of one value.
use Rattle.std.proofs.Common.{◌≡◌, ℕ, ◌==◌, Bool, true, false, List, [], ◌∷◌, ◌++◌, refl, sym, ◌∙◌, ap, arith, if◌then◌else◌, Option, Some, None, Bor, not, is_some}
use Rattle.std.specs.List.{onto_first}
use Rattle.std.proofs.lemmas.Bool.{ne_eqb, eqb-true}
use Rattle.xfs_base.proofs.Booleans.{equal_itself}
use Rattle.script_text.specs.Reading.{left_of}
use Rattle.script_text.specs.Words.{Lacks, parted, joined, first, behind, is_end, or_empty, words}

onto : (x : ℕ) (a : List ℕ) (t : Bool) (ps qs : List (List ℕ)) → t ≡ false → ps ≡ a ∷ qs → (if t then [] ∷ ps else onto_first x ps) ≡ (x ∷ a) ∷ qs
onto x a t ps qs e f = rw (e, f) refl

-- the first piece ends before the first such byte
pub parted_cut : (m : ℕ) (a r : List ℕ) → Lacks m a → parted m (a ++ m ∷ r) ≡ a ∷ parted m r
parted_cut m [] r h = at_mark (m == m) (equal_itself m)
  where
    at_mark : (t : Bool) → t ≡ true → (if t then [] ∷ parted m r else onto_first m (parted m r)) ≡ [] ∷ parted m r
    at_mark t e = rw e refl
parted_cut m (x ∷ a) r h = onto x a (x == m) (parted m (a ++ m ∷ r)) (parted m r) (ne_eqb x m h.0) (parted_cut m a r h.1)

pub parted_whole : (m : ℕ) (a : List ℕ) → Lacks m a → parted m a ≡ a ∷ []
parted_whole m [] h = refl
parted_whole m (x ∷ a) h = onto x a (x == m) (parted m a) [] (ne_eqb x m h.0) (parted_whole m a h.1)

some_step : (x : ℕ) (t : Bool) (ps : List (List ℕ)) (w : List ℕ) (ws : List (List ℕ)) → ps ≡ w ∷ ws
    → (v : List ℕ) × (vs : List (List ℕ)) × ((if t then [] ∷ ps else onto_first x ps) ≡ v ∷ vs)
some_step x true ps w ws e = ([], ps, refl)
some_step x false ps w ws e = (x ∷ w, ws, ap (λ q. onto_first x q) e)

-- there is at least one piece
pub some_parts : (m : ℕ) (bs : List ℕ) → (w : List ℕ) × (ws : List (List ℕ)) × (parted m bs ≡ w ∷ ws)
some_parts m [] = ([], [], refl)
some_parts m (b ∷ bs) = let s = some_parts m bs in some_step b (b == m) (parted m bs) s.0 s.1 s.2

joined_onto : (m x : ℕ) (w : List ℕ) (ws : List (List ℕ)) → joined m ((x ∷ w) ∷ ws) ≡ x ∷ joined m (w ∷ ws)
joined_onto m x w [] = refl
joined_onto m x w (v ∷ ws) = refl

joined_step : (m x : ℕ) (bs : List ℕ) (t : Bool) (ps : List (List ℕ)) (w : List ℕ) (ws : List (List ℕ)) → (t ≡ true → x ≡ m) → ps ≡ w ∷ ws → joined m ps ≡ bs
    → joined m (if t then [] ∷ ps else onto_first x ps) ≡ x ∷ bs
joined_step m x bs true ps w ws h e j =
    let f : joined m (w ∷ ws) ≡ bs = rw e at j in
    rw (e, h refl, f) refl
joined_step m x bs false ps w ws h e j =
    let f : joined m (w ∷ ws) ≡ bs = rw e at j in
    rw e (joined_onto m x w ws ∙ ap (λ q. x ∷ q) f)

-- the pieces, joined again, are the bytes
pub joined_parted : (m : ℕ) (bs : List ℕ) → joined m (parted m bs) ≡ bs
joined_parted m [] = refl
joined_parted m (b ∷ bs) =
    let s = some_parts m bs in
    joined_step m b bs (b == m) (parted m bs) s.0 s.1 (λ e. eqb-true b m e) s.2 (joined_parted m bs)

pub not_end : (m : ℕ) (bs : List ℕ) → is_end (parted m bs) ≡ false
not_end m bs = rw (some_parts m bs).2 refl

pub not_empty_parts : (m : ℕ) (bs : List ℕ) → or_empty (parted m bs) ≡ parted m bs
not_empty_parts m bs = rw (some_parts m bs).2 refl

-- what the words that are left are, where some are
pub left_words : (r : Option (Bor (List ℕ))) (v : List (List ℕ)) (b : Bor (List ℕ)) → left_of r ≡ v → r ≡ Some b → v ≡ words b.now
left_words r v b e h = sym e ∙ ap left_of h

pub end_is : (r : Option (Bor (List ℕ))) (v : List (List ℕ)) (t : Bool) → left_of r ≡ v → is_some r ≡ not t → t ≡ is_end v
end_is None v true e h = ap is_end e
end_is None v false e h = absurd (grind (arith, h))
end_is (Some b) v true e h = absurd (grind (arith, h))
end_is (Some b) v false e h = sym (not_end 32 b.now) ∙ ap is_end e

-- the last word
pub last_word : (v : List (List ℕ)) (b : List ℕ) → v ≡ words b → Lacks 32 b → (b ≡ first v) × ([] ≡ behind v)
last_word v b e h =
    let f : v ≡ b ∷ [] = e ∙ parted_whole 32 b h in
    (sym (ap first f), sym (ap behind f))

-- a word before others
pub next_word : (v : List (List ℕ)) (b w r : List ℕ) → v ≡ words b → b ≡ w ++ 32 ∷ r → Lacks 32 w → (w ≡ first v) × (words r ≡ behind v)
next_word v b w r e g h =
    let f : v ≡ w ∷ words r = e ∙ ap words g ∙ parted_cut 32 w r h in
    (sym (ap first f), sym (ap behind f))

pub rest_is : (v : List (List ℕ)) (b : List ℕ) → v ≡ words b → (b ≡ joined 32 v) × (words b ≡ or_empty v)
rest_is v b e =
    (sym (ap (λ x. joined 32 x) e ∙ joined_parted 32 b), sym (ap or_empty e ∙ not_empty_parts 32 b))
