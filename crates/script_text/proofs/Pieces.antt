-- What a part spells is what is read of it.
use Rattle.std.proofs.Common.{◌≡◌, ◌≢◌, ℕ, ◌<◌, ◌≤◌, ◌==◌, min, nat_lt, nat_le, Bool, true, false, not, ◌&&◌, List, [], ◌∷◌, ◌++◌, length, refl, sym, ◌∙◌, ap, arith, inl, inr, ◌⊎◌, Option, Some, None, Ok, Err, if◌then◌else◌, append-nil}
use Rattle.std.proofs.lemmas.Bool.Decides.{nat_tests}
use Rattle.std.proofs.lemmas.Bool.{eqb-true, eqb-false, le-leb, leb-true}
use Rattle.std.specs.List.{repeat, AllByRecursion, onto_first}
use Rattle.xfs_base.specs.Blocks.{IsRaw, creator_of}
use Rattle.xfs_base.specs.Limits.{max_value, max_text}
use Rattle.script_text.specs.declared.form.Part.{Part}
use Rattle.script_text.specs.declared.form.Part.TheVariants as part
use Rattle.script_text.specs.declared.refusal.Kind.{Kind}
use Rattle.script_text.specs.declared.text.Repeated.{Repeated}
use Rattle.script_text.specs.Words.{Lacks, parted}
use Rattle.script_text.specs.Text.{SpellsText}
use Rattle.script_text.specs.Forms.{Meaning}
use Rattle.script_text.specs.Spelling.{Context, IsNumber, IsNode, slashed, IsPath, Spells, IsOneOf, IsWithin, form_fault, limit_fault, Means, IsFault}
use Rattle.script_text.specs.Reading.{number_of, in_range, number_in, if_raw, raw_in, number_behind, is_one_of, some_text, text_parts, text_in, names_of, spelled_by, is_within, read_part}
use Rattle.script_text.proofs.Judged.{bad, judge_ok, judge_err, judge_good, judge_missing, judge_over}
use Rattle.script_text.proofs.WordLemmas.{number_decimal, number_from}
use Rattle.script_text.proofs.Parts.{parted_cut, parted_whole, some_parts}
use Rattle.script_text.proofs.Texts.{parts_read, parts_spelled}

-- numbers in a range
range_at : (a b n m : ℕ) (t u : Bool) → nat_le a n ≡ t → nat_le n b ≡ u → (if t && u then Some n else None) ≡ Some m → (n ≡ m) × (a ≤ n) × (n ≤ b)
range_at a b n m true true e f g = (grind (arith, g), grind (arith, nat_tests, e), grind (arith, nat_tests, f))
range_at a b n m true false e f g = absurd (grind (arith, g))
range_at a b n m false u e f g = absurd (grind (arith, g))

range_read : (a b m : ℕ) (w : List ℕ) (o : Option ℕ) → number_of w ≡ o → in_range a b o ≡ Some m → IsNumber w m × (a ≤ m) × (m ≤ b)
range_read a b m w None e f = absurd (grind (arith, f))
range_read a b m w (Some n) e f =
    let r = range_at a b n m (nat_le a n) (nat_le n b) refl refl f in
    let s : m ≡ n = sym r.0 in
    rw s (number_from w n e, r.1, r.2)

pub number_read : (a b m : ℕ) (w : List ℕ) → number_in a b w ≡ Some m → IsNumber w m × (a ≤ m) × (m ≤ b)
number_read a b m w e = range_read a b m w (number_of w) refl e

pub number_spelled : (a b m : ℕ) (w : List ℕ) → IsNumber w m × (a ≤ m) × (m ≤ b) → number_in a b w ≡ Some m
number_spelled a b m w (n, l, u) =
    let t : nat_le a m ≡ true = grind (arith, nat_tests, l) in
    let s : nat_le m b ≡ true = grind (arith, nat_tests, u) in
    ap (λ x. in_range a b (number_of x)) n.1 ∙ ap (in_range a b) (number_decimal m n.0) ∙ range_some t s
  where
    range_some : nat_le a m ≡ true → nat_le m b ≡ true → in_range a b (Some m) ≡ Some m
    range_some t s = rw (t, s) refl

-- raw numbers
raw_at : (n m : ℕ) (t u : Bool) → nat_lt 0 n ≡ t → (creator_of n == 0) ≡ u → (if t && u then Some n else None) ≡ Some m → (n ≡ m) × IsRaw n
raw_at n m true true e f g = (grind (arith, g), (grind (arith, nat_tests, e), eqb-true _ _ f))
raw_at n m true false e f g = absurd (grind (arith, g))
raw_at n m false u e f g = absurd (grind (arith, g))

raw_of : (m : ℕ) (w : List ℕ) (o : Option ℕ) → number_of w ≡ o → if_raw o ≡ Some m → IsNumber w m × IsRaw m
raw_of m w None e f = absurd (grind (arith, f))
raw_of m w (Some n) e f =
    let r = raw_at n m (nat_lt 0 n) (creator_of n == 0) refl refl f in
    let s : m ≡ n = sym r.0 in
    rw s (number_from w n e, r.1)

raw_read : (m : ℕ) (w : List ℕ) → raw_in w ≡ Some m → IsNumber w m × IsRaw m
raw_read m w e = raw_of m w (number_of w) refl e

same_test : (n : ℕ) → n ≡ 0 → (n == 0) ≡ true
same_test n e = rw e refl

raw_spelled : (m : ℕ) (w : List ℕ) → IsNumber w m × IsRaw m → raw_in w ≡ Some m
raw_spelled m w (n, r) =
    let t : nat_lt 0 m ≡ true = grind (arith, nat_tests, r.0) in
    let s : (creator_of m == 0) ≡ true = same_test (creator_of m) r.1 in
    ap (λ x. if_raw (number_of x)) n.1 ∙ ap if_raw (number_decimal m n.0) ∙ raw_some t s
  where
    raw_some : nat_lt 0 m ≡ true → (creator_of m == 0) ≡ true → if_raw (Some m) ≡ Some m
    raw_some t s = rw (t, s) refl

-- nodes
node_read : (l m : ℕ) (w : List ℕ) → number_behind l w ≡ Some m → IsNode l w m
node_read l m [] e = absurd (grind (arith, e))
node_read l m (b ∷ w) e = at_letter (b == l) refl e
  where
    at_letter : (t : Bool) → (b == l) ≡ t → (if t then number_of w else None) ≡ Some m → IsNode l (b ∷ w) m
    at_letter true f g =
        let n = number_from w m g in
        let h : b ≡ l = eqb-true b l f in
        (n.0, rw (h, n.1) refl)
    at_letter false f g = absurd (grind (arith, g))

node_spelled : (l m : ℕ) (w : List ℕ) → IsNode l w m → number_behind l w ≡ Some m
node_spelled l m w (n, e) =
    let t : (l == l) ≡ true = grind arith in
    rw e (rw t (number_decimal m n))

-- texts
some_at : (e : Bool) (o : Option Repeated) (t : List ℕ) → some_text e o ≡ Some t
    → (p : Repeated) × (o ≡ Some p) × (t ≡ repeat p.count p.text) × (e ≡ false → 0 < length t)
some_at e None t f = absurd (grind (arith, f))
some_at true (Some p) t f = (p, refl, grind (arith, f), λ i. absurd (grind (arith, i)))
some_at false (Some p) t f = at_length (length (repeat p.count p.text) == 0) refl f
  where
    not_zero : (n : ℕ) → (n == 0) ≡ false → 0 < n
    not_zero n h = grind (arith, nat_tests, h)

    at_length : (b : Bool) → (length (repeat p.count p.text) == 0) ≡ b → (if b then None else Some (repeat p.count p.text)) ≡ Some t
        → (q : Repeated) × (Some p ≡ Some q) × (t ≡ repeat q.count q.text) × (false ≡ false → 0 < length t)
    at_length true g k = absurd (grind (arith, k))
    at_length false g k =
        let s : t ≡ repeat p.count p.text = grind (arith, k) in
        (p, refl, s, λ i. rw s (not_zero _ g))

text_read : (e : Bool) (w t : List ℕ) → text_in e w ≡ Some t → SpellsText w t × (e ≡ false → 0 < length t)
text_read e w t f =
    let s = some_at e (text_parts w) t f in
    (rw s.2 (parts_read w s.0 s.1), s.3)

test_empty : (n : ℕ) (e : Bool) → (e ≡ false → 0 < n) → (not e && (n == 0)) ≡ false
test_empty n true h = refl
test_empty n false h = let l : 0 < n = h refl in grind (arith, nat_tests, l)

text_spelled : (e : Bool) (w t : List ℕ) → SpellsText w t → (e ≡ false → 0 < length t) → text_in e w ≡ Some t
text_spelled e w t s h =
    let p = parts_spelled w t s in
    let b : (not e && (length t == 0)) ≡ false = test_empty (length t) e h in
    let g : some_text e (Some p.0) ≡ Some t = rw (← p.2) (rw b refl) in
    ap (λ o. some_text e o) p.1 ∙ g

-- paths
lack_onto : (b : ℕ) (ps : List (List ℕ)) → b ≢ 47 → AllByRecursion (Lacks 47) ps → AllByRecursion (Lacks 47) (onto_first b ps)
lack_onto b [] h a = ((h, tt), tt)
lack_onto b (p ∷ ps) h a = ((h, a.0), a.1)

parted_lack : (bs : List ℕ) → AllByRecursion (Lacks 47) (parted 47 bs)
parted_lack [] = (tt, tt)
parted_lack (b ∷ bs) = at_slash (parted_lack bs) (b == 47) refl
  where
    at_slash : AllByRecursion (Lacks 47) (parted 47 bs) → (t : Bool) → (b == 47) ≡ t
        → AllByRecursion (Lacks 47) (if t then [] ∷ parted 47 bs else onto_first b (parted 47 bs))
    at_slash h true e = (tt, h)
    at_slash h false e = lack_onto b (parted 47 bs) (eqb-false b 47 e) h

slashed_onto : (b : ℕ) (p : List ℕ) (ps : List (List ℕ)) (bs : List ℕ) → slashed (p ∷ ps) ≡ 47 ∷ bs → slashed ((b ∷ p) ∷ ps) ≡ 47 ∷ b ∷ bs
slashed_onto b p ps bs e = let f : p ++ slashed ps ≡ bs = cc in ap (λ x. 47 ∷ b ∷ x) f

slashed_parted : (bs : List ℕ) → slashed (parted 47 bs) ≡ 47 ∷ bs
slashed_parted [] = refl
slashed_parted (b ∷ bs) =
    let s = some_parts 47 bs in
    at_slash (slashed_parted bs) (b == 47) s.0 s.1 s.2 refl
  where
    at_slash : slashed (parted 47 bs) ≡ 47 ∷ bs → (t : Bool) (p : List ℕ) (ps : List (List ℕ)) → parted 47 bs ≡ p ∷ ps → (b == 47) ≡ t
        → slashed (if t then [] ∷ parted 47 bs else onto_first b (parted 47 bs)) ≡ 47 ∷ b ∷ bs
    at_slash h true p ps f e = ap (λ x. 47 ∷ x) h ∙ ap (λ x. 47 ∷ x ∷ bs) (sym (eqb-true b 47 e))
    at_slash h false p ps f e = ap (λ x. slashed (onto_first b x)) f ∙ slashed_onto b p ps bs (ap slashed (sym f) ∙ h)

path_of_parts : (c : ℕ) (cs : List ℕ) (ps names : List (List ℕ)) → parted 47 (c ∷ cs) ≡ ps → ps ≡ names → IsPath (47 ∷ c ∷ cs) names
path_of_parts c cs ps [] e f =
    let s = some_parts 47 (c ∷ cs) in
    absurd (no_parts s.0 s.1 (sym s.2 ∙ e ∙ f))
  where
    no_parts : (p : List ℕ) (ps : List (List ℕ)) → p ∷ ps ≡ [] → ⊥
    no_parts p ps e = cc
path_of_parts c cs ps (name ∷ names) e f =
    let g : parted 47 (c ∷ cs) ≡ name ∷ names = e ∙ f in
    let all = parted_lack (c ∷ cs) in
    let text = slashed_parted (c ∷ cs) in
    (not_root c cs, rw g at all, sym (ap slashed (sym g) ∙ text))
  where
    not_root : (c : ℕ) (cs : List ℕ) → 47 ∷ c ∷ cs ≢ 47 ∷ []
    not_root c cs e = omega (arith, ap length e)

path_read : (w : List ℕ) (names : List (List ℕ)) → names_of w ≡ Some names → IsPath w names
path_read [] names e = absurd (grind (arith, e))
path_read (b ∷ w) names e = at_slash (b == 47) refl e
  where
    behind_slash : (b : ℕ) (w : List ℕ) (names : List (List ℕ)) → b ≡ 47 → (elim w [ [] ↦ [] | c ∷ cs ↦ parted 47 (c ∷ cs) ]) ≡ names → IsPath (b ∷ w) names
    behind_slash b [] [] h e = ap (λ x. x ∷ []) h
    behind_slash b [] (name ∷ names) h e = absurd (no_names name names e)
      where
        no_names : (p : List ℕ) (ps : List (List ℕ)) → [] ≡ p ∷ ps → ⊥
        no_names p ps e = cc
    behind_slash b (c ∷ cs) names h e = rw h (path_of_parts c cs (parted 47 (c ∷ cs)) names refl e)

    at_slash : (t : Bool) → (b == 47) ≡ t → (if t then Some (elim w [ [] ↦ [] | c ∷ cs ↦ parted 47 (c ∷ cs) ]) else None) ≡ Some names → IsPath (b ∷ w) names
    at_slash true f g = behind_slash b w names (eqb-true b 47 f) (grind (arith, g))
    at_slash false f g = absurd (grind (arith, g))

-- names without a slash, each behind one, are parted again
parted_slashed : (name : List ℕ) (names : List (List ℕ)) → AllByRecursion (Lacks 47) (name ∷ names) → parted 47 (name ++ slashed names) ≡ name ∷ names
parted_slashed name [] a = ap (λ x. parted 47 x) (append-nil name) ∙ parted_whole 47 name a.0
parted_slashed name (next ∷ names) a =
    parted_cut 47 name (next ++ slashed names) a.0 ∙ ap (λ x. name ∷ x) (parted_slashed next names a.1)

not_bare : (w : List ℕ) (names : List (List ℕ)) → 47 ∷ w ≢ 47 ∷ [] → parted 47 w ≡ names → names_of (47 ∷ w) ≡ Some names
not_bare [] names h e = absurd (h refl)
not_bare (c ∷ cs) names h e = ap Some e

path_spelled : (w : List ℕ) (names : List (List ℕ)) → IsPath w names → names_of w ≡ Some names
path_spelled w [] e = rw e refl
path_spelled w (name ∷ names) (h, a, e) =
    let k : 47 ∷ (name ++ slashed names) ≢ 47 ∷ [] = rw e at h in
    rw e (not_bare (name ++ slashed names) (name ∷ names) k (parted_slashed name names a))

-- a part is read as it is spelled
pub part_read : (p : Part) (w : List ℕ) (v : Meaning p) → spelled_by p w ≡ Some v → Spells p w v
part_read part.Cleaner w v e = tt
part_read part.Registry w v e = tt
part_read part.Network w v e = tt
part_read part.Verb w v e = tt
part_read part.Client w v e = node_read 99 v w e
part_read part.Manager w v e = node_read 109 v w e
part_read part.Server w v e = node_read 115 v w e
part_read part.Board w v e = node_read 98 v w e
part_read (part.Number a b) w v e = number_read a b v w e
part_read part.Raw w v e = raw_read v w e
part_read part.Path w v e = path_read w v e
part_read part.BlockText w v e = let r = text_read false w v e in (r.0, r.1 refl)
part_read part.FileText w v e = (text_read true w v e).0

pub part_spelled : (p : Part) (w : List ℕ) (v : Meaning p) → Spells p w v → spelled_by p w ≡ Some v
part_spelled part.Cleaner w tt s = refl
part_spelled part.Registry w tt s = refl
part_spelled part.Network w tt s = refl
part_spelled part.Verb w tt s = refl
part_spelled part.Client w v s = node_spelled 99 v w s
part_spelled part.Manager w v s = node_spelled 109 v w s
part_spelled part.Server w v s = node_spelled 115 v w s
part_spelled part.Board w v s = node_spelled 98 v w s
part_spelled (part.Number a b) w v s = number_spelled a b v w (s.0, s.1, s.2)
part_spelled part.Raw w v s = raw_spelled v w s
part_spelled part.Path w v s = path_spelled w v s
part_spelled part.BlockText w v s = text_spelled false w v s.0 (λ e. s.1)
part_spelled part.FileText w v s = text_spelled true w v s (λ e. absurd (grind (arith, e)))

one_of_true : (count n : ℕ) → is_one_of count n ≡ true → IsOneOf count n
one_of_true count n e = at_tests (nat_lt 0 n) (nat_le n count) refl refl e
  where
    at_tests : (t u : Bool) → nat_lt 0 n ≡ t → nat_le n count ≡ u → (t && u) ≡ true → IsOneOf count n
    at_tests true true f g e = (grind (arith, nat_tests, f), grind (arith, nat_tests, g))
    at_tests true false f g e = absurd (grind (arith, e))
    at_tests false u f g e = absurd (grind (arith, e))

one_of_test : (count n : ℕ) → IsOneOf count n → is_one_of count n ≡ true
one_of_test count n (l, u) =
    let t : nat_lt 0 n ≡ true = grind (arith, nat_tests, l) in
    let s : nat_le n count ≡ true = grind (arith, nat_tests, u) in
    rw (t, s) refl

pub within_true : (c : Context) (p : Part) (v : Meaning p) → is_within c p v ≡ true → IsWithin c p v
within_true c part.Cleaner v e = tt
within_true c part.Registry v e = tt
within_true c part.Network v e = tt
within_true c part.Verb v e = tt
within_true c part.Client v e = one_of_true c.setup.clients v e
within_true c part.Manager v e = one_of_true c.setup.managers v e
within_true c part.Server v e = one_of_true c.setup.servers v e
within_true c part.Board v e = one_of_true 3 v e
within_true c (part.Number a b) v e = tt
within_true c part.Raw v e = tt
within_true c part.Path v e = leb-true (length v) 16 e
within_true c part.BlockText v e = leb-true (length v) (min max_value c.room) e
within_true c part.FileText v e = leb-true (length v) (min max_text c.room) e

pub within_test : (c : Context) (p : Part) (v : Meaning p) → IsWithin c p v → is_within c p v ≡ true
within_test c part.Cleaner v e = refl
within_test c part.Registry v e = refl
within_test c part.Network v e = refl
within_test c part.Verb v e = refl
within_test c part.Client v e = one_of_test c.setup.clients v e
within_test c part.Manager v e = one_of_test c.setup.managers v e
within_test c part.Server v e = one_of_test c.setup.servers v e
within_test c part.Board v e = one_of_test 3 v e
within_test c (part.Number a b) v e = refl
within_test c part.Raw v e = refl
within_test c part.Path v e = le-leb (length v) 16 e
within_test c part.BlockText v e = le-leb (length v) (min max_value c.room) e
within_test c part.FileText v e = le-leb (length v) (min max_text c.room) e

not_within : (c : Context) (p : Part) (v : Meaning p) → (IsWithin c p v → ⊥) → is_within c p v ≡ false
not_within c p v h = at_test (is_within c p v) refl
  where
    at_test : (t : Bool) → is_within c p v ≡ t → t ≡ false
    at_test true e = absurd (h (within_true c p v e))
    at_test false e = refl

-- a part that is read means what is read
pub read_means : (c : Context) (p : Part) (w : List ℕ) (v : Meaning p) → read_part c p w ≡ Ok v → Means c p w v
read_means c p w v e =
    let j = judge_ok (form_fault p) (limit_fault p) (is_within c p) (spelled_by p w) v e in
    (part_read p w v j.0, within_true c p v j.1)

pub means_read : (c : Context) (p : Part) (w : List ℕ) (v : Meaning p) → Means c p w v → read_part c p w ≡ Ok v
means_read c p w v m =
    judge_good (form_fault p) (limit_fault p) (is_within c p) (spelled_by p w) v (part_spelled p w v m.0) (within_test c p v m.1)

none_some : {A : Type 0} (o : Option A) (x : A) → o ≡ None → o ≡ Some x → ⊥
none_some o x e f = let g : None ≡ Some x = sym e ∙ f in cc

true_false : (t : Bool) → t ≡ true → t ≡ false → ⊥
true_false t e f = let g : true ≡ false = sym e ∙ f in cc

-- a part that is not read is at fault
pub read_fault : (c : Context) (p : Part) (w : List ℕ) (k : Kind) → read_part c p w ≡ Err k → IsFault c p w k
read_fault c p w k e = of_judge (judge_err (form_fault p) (limit_fault p) (is_within c p) (spelled_by p w) k e)
  where
    of_judge : ((spelled_by p w ≡ None) × (k ≡ form_fault p)) ⊎ ((v : Meaning p) × (spelled_by p w ≡ Some v) × (is_within c p v ≡ false) × (k ≡ limit_fault p))
        → IsFault c p w k
    of_judge (inl j) = inl (λ v s. none_some (spelled_by p w) v j.0 (part_spelled p w v s), j.1)
    of_judge (inr j) = inr (j.0, part_read p w j.0 j.1, λ h. true_false (is_within c p j.0) (within_test c p j.0 h) j.2, j.3)

pub fault_read : (c : Context) (p : Part) (w : List ℕ) (k : Kind) → IsFault c p w k → read_part c p w ≡ Err k
fault_read c p w k (inl f) =
    let n : spelled_by p w ≡ None = not_spelled (spelled_by p w) refl in
    judge_missing (form_fault p) (limit_fault p) (is_within c p) (spelled_by p w) n ∙ ap (λ i. bad {X = Meaning p} i) (sym f.1)
  where
    not_spelled : (o : Option (Meaning p)) → spelled_by p w ≡ o → o ≡ None
    not_spelled None e = refl
    not_spelled (Some v) e = absurd (f.0 v (part_read p w v e))
fault_read c p w k (inr f) =
    judge_over (form_fault p) (limit_fault p) (is_within c p) (spelled_by p w) f.0 (part_spelled p w f.0 f.1) (not_within c p f.0 f.2)
    ∙ ap (λ i. bad {X = Meaning p} i) (sym f.3)
