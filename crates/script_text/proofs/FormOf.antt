-- The form of a line: its first two words tell it.
use Rattle.std.proofs.Common.{◌≡◌, ℕ, ◌<◌, ◌==◌, Bool, true, false, not, ◌&&◌, List, [], ◌∷◌, length, codes, get_or, refl, sym, ◌∙◌, ap, arith, Option, Some, None, if◌then◌else◌, nat_lt}
use Rattle.std.proofs.lemmas.Bool.Decides.{nat_tests}
use Rattle.std.specs.List.{position, position_or_len, slice_get, list_all}
use Rattle.std.specs.Str.{bytes_eq}
use Rattle.std.proofs.lemmas.Slice.Eq.{bytes_eq-Decides}
use Rattle.std.proofs.lemmas.List.Sums.{fails_before_first}
use Rattle.std.proofs.lemmas.List.Folds.{list_all_at}
use Rattle.std.proofs.lemmas.Option.{slice_get-get_or}
use Rattle.std.proofs.lemmas.List.Quantifiers.{position-Some}
use Rattle.std.proofs.lemmas.Bool.{ltb-false}
use Rattle.xfs_base.proofs.Booleans.{and_first, and_second}
use Rattle.script_text.specs.declared.form.Form.{Form}
use Rattle.script_text.specs.declared.form.Form.TheVariants.{Bput}
use Rattle.script_text.specs.declared.form.Part.{Part}
use Rattle.script_text.specs.declared.form.Part.TheVariants as part
use Rattle.script_text.specs.Words.{first, behind, is_end}
use Rattle.script_text.specs.Forms.{verb, parts, all_forms, is_numbered, are_digits, looks, has_words, piece_of, behind_part}
use Rattle.script_text.specs.Reading.{form_at, form_of}

-- the kind of node that a first word names
abbrev kind_of_word : List ℕ → ℕ
kind_of_word w =
    if is_numbered 99 w then 0
    else if is_numbered 109 w then 1
    else if is_numbered 115 w then 2
    else if is_numbered 98 w then 3
    else if bytes_eq w (codes "cl") then 4
    else if bytes_eq w (codes "reg") then 5
    else 6

-- the kind of node that a part names: 7 where it names none
abbrev kind_of_part : Part → ℕ
kind_of_part part.Client = 0
kind_of_part part.Manager = 1
kind_of_part part.Server = 2
kind_of_part part.Board = 3
kind_of_part part.Cleaner = 4
kind_of_part part.Registry = 5
kind_of_part part.Network = 6
kind_of_part p = 7

-- the kind of node that the first of these parts names
abbrev kind_of_parts : List Part → ℕ
kind_of_parts [] = 7
kind_of_parts (p ∷ ps) = kind_of_part p

-- the kind of node that a form is of
abbrev kind_of : Form → ℕ
kind_of f = kind_of_parts (parts f)

-- a word with one letter before its number has no other
other_letter : (l m : ℕ) (w : List ℕ) → (l == m) ≡ false → is_numbered l w ≡ true → is_numbered m w ≡ false
other_letter l m [] n e = refl
other_letter l m (b ∷ ds) n e =
    let f : (b == l) ≡ true = and_first (b == l) (are_digits ds) e in
    ap (λ t. t && are_digits ds) (differ b l m f n)
  where
    differ : (b l m : ℕ) → (b == l) ≡ true → (l == m) ≡ false → (b == m) ≡ false
    differ b l m f n = grind (arith, nat_tests, f, n)

client_kind : (w : List ℕ) → is_numbered 99 w ≡ true → kind_of_word w ≡ 0
client_kind w e = rw e refl

manager_kind : (w : List ℕ) → is_numbered 109 w ≡ true → kind_of_word w ≡ 1
manager_kind w e = rw (other_letter 109 99 w refl e, e) refl

server_kind : (w : List ℕ) → is_numbered 115 w ≡ true → kind_of_word w ≡ 2
server_kind w e = rw (other_letter 115 99 w refl e, other_letter 115 109 w refl e, e) refl

board_kind : (w : List ℕ) → is_numbered 98 w ≡ true → kind_of_word w ≡ 3
board_kind w e = rw (other_letter 98 99 w refl e, other_letter 98 109 w refl e, other_letter 98 115 w refl e, e) refl

fixed_kind : (w t : List ℕ) → bytes_eq w t ≡ true → kind_of_word w ≡ kind_of_word t
fixed_kind w t e = ap kind_of_word ((bytes_eq-Decides w t).0 e)

true_false : (t : Bool) → t ≡ true → t ≡ false → ⊥
true_false t e f = let g : true ≡ false = sym e ∙ f in cc

-- the first two words of a line with the words of these parts
words_verb : (v : List ℕ) (p : Part) (rest : List Part) (ws : List (List ℕ)) → behind_part p ws ≡ behind ws → has_words v (p ∷ part.Verb ∷ rest) ws ≡ true
    → first (behind ws) ≡ v
words_verb v p rest ws h e =
    let a = and_second (not (is_end ws) && looks p v (piece_of p ws)) (has_words v (part.Verb ∷ rest) (behind_part p ws)) e in
    let b : has_words v (part.Verb ∷ rest) (behind ws) ≡ true = rw h at a in
    let c = and_first (not (is_end (behind ws)) && bytes_eq (first (behind ws)) v) _ b in
    let d = and_second (not (is_end (behind ws))) (bytes_eq (first (behind ws)) v) c in
    (bytes_eq-Decides (first (behind ws)) v).0 d

words_first : (v : List ℕ) (p : Part) (rest : List Part) (ws : List (List ℕ)) → has_words v (p ∷ rest) ws ≡ true → looks p v (piece_of p ws) ≡ true
words_first v p rest ws e =
    let c = and_first (not (is_end ws) && looks p v (piece_of p ws)) (has_words v rest (behind_part p ws)) e in
    and_second (not (is_end ws)) (looks p v (piece_of p ws)) c

-- these parts are a node, the word that names what is asked for, and others
abbrev begins : List Part → Bool
begins (p ∷ part.Verb ∷ rest) = nat_lt (kind_of_part p) 7
begins ps = false

-- a part that names a node is spelled by the first word, which tells the kind of the node
at_node : (p : Part) (v : List ℕ) (ws : List (List ℕ)) → nat_lt (kind_of_part p) 7 ≡ true → looks p v (piece_of p ws) ≡ true
    → (behind_part p ws ≡ behind ws) × (kind_of_word (first ws) ≡ kind_of_part p)
at_node part.Client v ws n e = (refl, client_kind (first ws) e)
at_node part.Manager v ws n e = (refl, manager_kind (first ws) e)
at_node part.Server v ws n e = (refl, server_kind (first ws) e)
at_node part.Board v ws n e = (refl, board_kind (first ws) e)
at_node part.Cleaner v ws n e = (refl, fixed_kind (first ws) (codes "cl") e)
at_node part.Registry v ws n e = (refl, fixed_kind (first ws) (codes "reg") e)
at_node part.Network v ws n e = (refl, fixed_kind (first ws) (codes "net") e)
at_node p v ws n e = absurd (true_false false n refl)

-- what the first two words of a line with the words of these parts tell
first_two : (v : List ℕ) (ps : List Part) (ws : List (List ℕ)) → begins ps ≡ true → has_words v ps ws ≡ true
    → (first (behind ws) ≡ v) × (kind_of_word (first ws) ≡ kind_of_parts ps)
first_two v (p ∷ part.Verb ∷ rest) ws n e =
    let t = at_node p v ws n (words_first v p (part.Verb ∷ rest) ws e) in
    (words_verb v p rest ws t.0 e, t.1)
first_two v ps ws n e = absurd (true_false false n refl)

-- the form of a kind and a word
abbrev form_by : ℕ → List ℕ → Option Form
form_by k v = form_at (position (λ g. (kind_of g == k) && bytes_eq v (verb g)) all_forms)

form_told : (f : Form) → form_by (kind_of f) (verb f) ≡ Some f
form_told Bput = refl
form_told f = refl

-- a place in the list of all where a form stands
record Stands (f : Form) : Type 0 where
  pub place : ℕ
  pub below : place < 32
  pub there : get_or all_forms place f ≡ f

stands_at : (p : Form → Bool) (o : Option ℕ) (f : Form) → position p all_forms ≡ o → form_at o ≡ Some f → Stands f
stands_at p None f g e = absurd (grind (arith, e))
stands_at p (Some i) f g e =
    let s = position-Some p all_forms i f g in
    let t : slice_get all_forms i ≡ Some (get_or all_forms i f) = slice_get-get_or all_forms i f s.0 in
    let u : Some (get_or all_forms i f) ≡ Some f = sym t ∙ e in
    let v : get_or all_forms i f ≡ f = cc in
    record { place = i; below = s.0; there = v }

-- each form stands in it
stands : (f : Form) → Stands f
stands f =
    let p : Form → Bool = λ g. (kind_of g == kind_of f) && bytes_eq (verb f) (verb g) in
    stands_at p (position p all_forms) f refl (form_told f)

-- what is so of all in the list is so of each form
pub each_form : (p : Form → Bool) → list_all p all_forms ≡ true → (f : Form) → p f ≡ true
each_form p all f = at_test (p f) refl
  where
    at_test : (t : Bool) → p f ≡ t → t ≡ true
    at_test true e = refl
    at_test false e =
        let s = stands f in
        absurd (true_false (list_all p all_forms) all (list_all_at p all_forms s.place f s.below (ap p s.there ∙ e)))

form_begins : (f : Form) → begins (parts f) ≡ true
form_begins f = each_form (λ g. begins (parts g)) refl f

-- the words are of one form
pub one_form : (f g : Form) (ws : List (List ℕ)) → has_words (verb f) (parts f) ws ≡ true → has_words (verb g) (parts g) ws ≡ true → f ≡ g
one_form f g ws e h =
    let a = first_two (verb f) (parts f) ws (form_begins f) e in
    let b = first_two (verb g) (parts g) ws (form_begins g) h in
    let k : kind_of f ≡ kind_of g = sym a.1 ∙ b.1 in
    let v : verb f ≡ verb g = sym a.0 ∙ b.0 in
    some_same f g (sym (form_told f) ∙ ap (λ x. form_by x (verb f)) k ∙ ap (λ x. form_by (kind_of g) x) v ∙ form_told g)
  where
    some_same : (a b : Form) → Some a ≡ Some b → a ≡ b
    some_same a b e = cc

-- a test that passes nowhere in a list fails at each place
not_found : (t : Bool) (n : ℕ) → (if t then Some n else None) ≡ None → t ≡ false
not_found true n e = absurd cc
not_found false n e = refl

none_at : {X : Type 0} (p : X → Bool) (xs : List X) (i : ℕ) (d : X) → position p xs ≡ None → i < length xs → p (get_or xs i d) ≡ false
none_at p xs i d e l =
    let f = not_found (nat_lt (position_or_len p xs) (length xs)) (position_or_len p xs) e in
    let m = ltb-false (position_or_len p xs) (length xs) f in
    fails_before_first p xs i d (omega (arith, l, m))

pub no_form : (ws : List (List ℕ)) → form_of ws ≡ None → (f : Form) → has_words (verb f) (parts f) ws ≡ true → ⊥
unfolding form_of
no_form ws e f h =
    let p : Form → Bool = λ g. has_words (verb g) (parts g) ws in
    let n : position p all_forms ≡ None = no_place p (position p all_forms) refl e in
    let s = stands f in
    let x : p (get_or all_forms s.place f) ≡ false = none_at p all_forms s.place f n s.below in
    let y : has_words (verb f) (parts f) ws ≡ false = sym (ap p s.there) ∙ x in
    true_false (has_words (verb f) (parts f) ws) h y
  where
    no_place : (p : Form → Bool) (o : Option ℕ) → position p all_forms ≡ o → form_at o ≡ None → o ≡ None
    no_place p None g e = refl
    no_place p (Some i) g e =
        let s = position-Some p all_forms i Bput g in
        let t : slice_get all_forms i ≡ Some (get_or all_forms i Bput) = slice_get-get_or all_forms i Bput s.0 in
        absurd (none_some (get_or all_forms i Bput) (sym e ∙ t))
      where
        none_some : (f : Form) → None ≡ Some f → ⊥
        none_some f e = cc

at_form : (p : Form → Bool) (o : Option ℕ) (f : Form) → position p all_forms ≡ o → form_at o ≡ Some f → p f ≡ true
at_form p None f g e = absurd (grind (arith, e))
at_form p (Some i) f g e =
    let s = position-Some p all_forms i f g in
    let t : slice_get all_forms i ≡ Some (get_or all_forms i f) = slice_get-get_or all_forms i f s.0 in
    let u : Some (get_or all_forms i f) ≡ Some f = sym t ∙ e in
    let v : get_or all_forms i f ≡ f = cc in
    rw v at s.1

pub form_found : (ws : List (List ℕ)) (f : Form) → form_of ws ≡ Some f → has_words (verb f) (parts f) ws ≡ true
unfolding form_of
form_found ws f e =
    let p : Form → Bool = λ g. has_words (verb g) (parts g) ws in
    at_form p (position p all_forms) f refl e

pub form_is : (ws : List (List ℕ)) (f : Form) → has_words (verb f) (parts f) ws ≡ true → form_of ws ≡ Some f
form_is ws f h = at_option (form_of ws) refl
  where
    at_option : (o : Option Form) → form_of ws ≡ o → o ≡ Some f
    at_option None e = absurd (no_form ws e f h)
    at_option (Some g) e = ap Some (one_form g f ws (form_found ws g e) h)

pub form_there : (ws : List (List ℕ)) (i : ℕ) (d : Form) → position (λ f. has_words (verb f) (parts f) ws) all_forms ≡ Some i → i < 32
    → Some (get_or all_forms i d) ≡ form_of ws
unfolding form_of
form_there ws i d e l = sym (slice_get-get_or all_forms i d l) ∙ ap form_at (sym e)

pub form_not_there : (ws : List (List ℕ)) → position (λ f. has_words (verb f) (parts f) ws) all_forms ≡ None → None ≡ form_of ws
unfolding form_of
form_not_there ws e = ap form_at (sym e)
