-- What is read is the script of the grammar, and where reading stops is the first bad line.
use Rattle.std.proofs.Common.{◌≡◌, ℕ, ◌+◌, nat_lt, Bool, true, false, not, ◌&&◌, ◌||◌, List, [], ◌∷◌, length, refl, sym, ◌∙◌, ap, subst, arith, inl, inr, ◌⊎◌, Option, Some, None, Result, Ok, Err, if◌then◌else◌}
use Rattle.std.proofs.lemmas.Bool.{lt-ltb, ltb-true}
use Rattle.xfs_base.specs.Limits.{max_lines, max_bytes}
use Rattle.script_text.specs.declared.item.Item.{Item}
use Rattle.script_text.specs.declared.refusal.Kind.{Kind}
use Rattle.script_text.specs.declared.refusal.Kind.TheVariants.{BadSetup, TooLong, Unclosed}
use Rattle.script_text.specs.declared.script.Script.{Script}
use Rattle.script_text.specs.declared.stage.Place.{Place}
use Rattle.script_text.specs.declared.setup_lines.Said.{Said}
use Rattle.script_text.specs.Lines.{lines}
use Rattle.script_text.specs.Words.{words, first}
use Rattle.script_text.specs.declared.refusal.LineError.{LineError}
use Rattle.script_text.specs.declared.refusal.LineError.TheVariants as line_errors
use Rattle.script_text.specs.Outcome.{◌>>=◌, Fails}
use Rattle.script_text.specs.Script.{is_setup_word, is_whole, is_silent, at_place, AddsSetup, IsBadItem, AddsItem, Leads, IsBad, IsPast, open_crash, Accepts, line_at, Refuses, start, IsScriptOf, IsFirstBad}
use Rattle.script_text.specs.Reading.{said_at, behind_said, behind_item, read_item, read_other, read_words, read_line, is_past, read_at, Fault, Faults, refused, script_at, read_lines, read_script}
use Rattle.script_text.proofs.Judged.{good, bad, bind_ok, bind_err}
use Rattle.script_text.proofs.Items.{bind_good, bind_bad, of_ok, not_err, item_ok, item_good, item_err, item_bad}
use Rattle.script_text.proofs.Setups.{said_read, said_given, setup_begins}

some_same : (a b : Said) → Some a ≡ Some b → a ≡ b
some_same a b e = cc

none_some : (o : Option Said) (s : Said) → o ≡ None → o ≡ Some s → ⊥
none_some o s e f = let g : None ≡ Some s = sym e ∙ f in cc

true_false : (t : Bool) → t ≡ true → t ≡ false → ⊥
true_false t e f = let g : true ≡ false = sym e ∙ f in cc

and_both : (a b : Bool) → (a && not b) ≡ true → (a ≡ true) × (b ≡ false)
and_both true true e = absurd (grind (arith, e))
and_both true false e = (refl, refl)
and_both false b e = absurd (grind (arith, e))

both_and : (a b : Bool) → a ≡ true → b ≡ false → (a && not b) ≡ true
both_and a b e f = rw (e, f) refl

-- an item behind a whole setup
abbrev free : Place → List (List ℕ) → Bool
free p ws = is_whole p.stage && not (is_setup_word (first ws))

other_ok : (n : ℕ) (p q : Place) (ws : List (List ℕ)) → read_other n p ws ≡ Ok q → AddsItem n p ws q
other_ok n p q ws e = at_test (free p ws) refl e
  where
    at_test : (t : Bool) → free p ws ≡ t → (if t then read_item (at_place p) ws >>= (λ i. Ok (behind_item n p i)) else Err BadSetup) ≡ Ok q → AddsItem n p ws q
    at_test true f g =
        let a = bind_ok (read_item (at_place p) ws) (λ i. Ok (behind_item n p i)) q g in
        let b = and_both (is_whole p.stage) (is_setup_word (first ws)) f in
        (b.0, b.1, a.0.after, a.0.work, item_ok (at_place p) ws a.0 a.1, sym (of_ok (behind_item n p a.0) q a.2))
    at_test false f g = absurd (not_err q BadSetup (sym g))

other_good : (n : ℕ) (p q : Place) (ws : List (List ℕ)) → AddsItem n p ws q → read_other n p ws ≡ Ok q
other_good n p q ws (w, s, after, work, i, e) =
    let t : free p ws ≡ true = both_and (is_whole p.stage) (is_setup_word (first ws)) w s in
    let item : Item = record { after = after; work = work } in
    ap (λ b. if b then read_item (at_place p) ws >>= (λ x. Ok (behind_item n p x)) else Err BadSetup) t
    ∙ bind_good (read_item (at_place p) ws) (λ x. Ok (behind_item n p x)) item (item_good (at_place p) ws after work i)
    ∙ ap (λ x. good x) (sym e)

abbrev BadOther : Place → List (List ℕ) → Kind → Type 0
BadOther p ws k = ((free p ws ≡ false) × (k ≡ BadSetup)) ⊎ ((free p ws ≡ true) × IsBadItem (at_place p) ws k)

other_err : (n : ℕ) (p : Place) (ws : List (List ℕ)) (k : Kind) → read_other n p ws ≡ Err k → BadOther p ws k
other_err n p ws k e = at_test (free p ws) refl e
  where
    err_of : (i j : Kind) → bad {X = Place} i ≡ bad j → j ≡ i
    err_of i j e = cc

    at_item : free p ws ≡ true → (read_item (at_place p) ws ≡ Err k) ⊎ ((i : Item) × (read_item (at_place p) ws ≡ Ok i) × (good (behind_item n p i) ≡ bad k))
        → BadOther p ws k
    at_item f (inl x) = inr (f, item_err (at_place p) ws k x)
    at_item f (inr x) = absurd (not_err (behind_item n p x.0) k x.2)

    at_test : (t : Bool) → free p ws ≡ t → (if t then read_item (at_place p) ws >>= (λ i. Ok (behind_item n p i)) else Err BadSetup) ≡ Err k → BadOther p ws k
    at_test true f g = at_item f (bind_err (read_item (at_place p) ws) (λ i. Ok (behind_item n p i)) k g)
    at_test false f g = inl (f, err_of BadSetup k g)

other_bad : (n : ℕ) (p : Place) (ws : List (List ℕ)) (k : Kind) → BadOther p ws k → read_other n p ws ≡ Err k
other_bad n p ws k (inl (f, e)) =
    ap (λ b. if b then read_item (at_place p) ws >>= (λ x. Ok (behind_item n p x)) else Err BadSetup) f ∙ ap (λ i. bad {X = Place} i) (sym e)
other_bad n p ws k (inr (f, i)) =
    ap (λ b. if b then read_item (at_place p) ws >>= (λ x. Ok (behind_item n p x)) else Err BadSetup) f
    ∙ bind_bad (read_item (at_place p) ws) (λ x. Ok (behind_item n p x)) k (item_bad (at_place p) ws k i)

-- a line that says something
abbrev by_said : ℕ → Place → List (List ℕ) → Option Said → Result Place Kind
by_said n p ws o = elim o [ Some s ↦ Ok (behind_said p s) | None ↦ read_other n p ws ]

words_ok : (n : ℕ) (p q : Place) (ws : List (List ℕ)) → read_words n p ws ≡ Ok q → AddsSetup p.stage p ws q ⊎ AddsItem n p ws q
words_ok n p q ws e = at_said (said_at p.stage p.setup ws) refl e
  where
    at_said : (o : Option Said) → said_at p.stage p.setup ws ≡ o → by_said n p ws o ≡ Ok q → AddsSetup p.stage p ws q ⊎ AddsItem n p ws q
    at_said (Some s) f g =
        let P : Place → Type 0 = λ x. AddsSetup p.stage p ws x in
        inl (subst P (of_ok (behind_said p s) q g) (said_read p.stage p ws s f))
    at_said None f g = inr (other_ok n p q ws g)

no_said : (p : Place) (ws : List (List ℕ)) → is_setup_word (first ws) ≡ false → said_at p.stage p.setup ws ≡ None
no_said p ws e = at_said (said_at p.stage p.setup ws) refl
  where
    at_said : (o : Option Said) → said_at p.stage p.setup ws ≡ o → o ≡ None
    at_said (Some s) f = absurd (true_false (is_setup_word (first ws)) (setup_begins p.stage p (behind_said p s) ws (said_read p.stage p ws s f)) e)
    at_said None f = refl

words_good : (n : ℕ) (p q : Place) (ws : List (List ℕ)) → AddsSetup p.stage p ws q ⊎ AddsItem n p ws q → read_words n p ws ≡ Ok q
words_good n p q ws (inl a) =
    let r = said_given p.stage p q ws a in
    ap (λ o. by_said n p ws o) r.1 ∙ ap (λ x. good x) (sym r.2)
words_good n p q ws (inr a) = ap (λ o. by_said n p ws o) (no_said p ws a.1) ∙ other_good n p q ws a

abbrev BadWords : Place → List (List ℕ) → Kind → Type 0
BadWords p ws k = ((q : Place) → AddsSetup p.stage p ws q → ⊥) × BadOther p ws k

words_err : (n : ℕ) (p : Place) (ws : List (List ℕ)) (k : Kind) → read_words n p ws ≡ Err k → BadWords p ws k
words_err n p ws k e = at_said (said_at p.stage p.setup ws) refl e
  where
    at_said : (o : Option Said) → said_at p.stage p.setup ws ≡ o → by_said n p ws o ≡ Err k → BadWords p ws k
    at_said (Some s) f g = absurd (not_err (behind_said p s) k g)
    at_said None f g = ((λ q a. let r = said_given p.stage p q ws a in none_some (said_at p.stage p.setup ws) r.0 f r.1), other_err n p ws k g)

words_bad : (n : ℕ) (p : Place) (ws : List (List ℕ)) (k : Kind) → BadWords p ws k → read_words n p ws ≡ Err k
words_bad n p ws k (h, b) = ap (λ o. by_said n p ws o) none ∙ other_bad n p ws k b
  where
    at_said : (o : Option Said) → said_at p.stage p.setup ws ≡ o → o ≡ None
    at_said (Some s) f = absurd (h (behind_said p s) (said_read p.stage p ws s f))
    at_said None f = refl

    none : said_at p.stage p.setup ws ≡ None
    none = at_said (said_at p.stage p.setup ws) refl

-- a line
line_ok : (n : ℕ) (l : List ℕ) (p q : Place) → read_line n l p ≡ Ok q → Leads n l p q
line_ok n l p q e = at_test (is_silent l) refl e
  where
    at_test : (t : Bool) → is_silent l ≡ t → (if t then Ok p else read_words n p (words l)) ≡ Ok q → Leads n l p q
    at_test true f g = inl (f, sym (of_ok p q g))
    at_test false f g = inr (f, words_ok n p q (words l) g)

line_good : (n : ℕ) (l : List ℕ) (p q : Place) → Leads n l p q → read_line n l p ≡ Ok q
line_good n l p q (inl (f, e)) = ap (λ t. if t then Ok p else read_words n p (words l)) f ∙ ap (λ x. good x) (sym e)
line_good n l p q (inr (f, a)) = ap (λ t. if t then Ok p else read_words n p (words l)) f ∙ words_good n p q (words l) a

line_err : (n : ℕ) (l : List ℕ) (p : Place) (k : Kind) → read_line n l p ≡ Err k → IsBad l p k
line_err n l p k e = at_test (is_silent l) refl e
  where
    at_test : (t : Bool) → is_silent l ≡ t → (if t then Ok p else read_words n p (words l)) ≡ Err k → IsBad l p k
    at_test true f g = absurd (not_err p k g)
    at_test false f g = let r = words_err n p (words l) k g in (f, r.0, r.1)

line_bad : (n : ℕ) (l : List ℕ) (p : Place) (k : Kind) → IsBad l p k → read_line n l p ≡ Err k
line_bad n l p k (f, h, b) = ap (λ t. if t then Ok p else read_words n p (words l)) f ∙ words_bad n p (words l) k (h, b)

-- the limits
past_true : (total n end : ℕ) → is_past total n end ≡ true → IsPast (record { total = total; number = n; end = end })
past_true total n end e = at_tests (nat_lt max_lines n) (nat_lt max_bytes total) (nat_lt max_bytes end) refl refl refl e
  where
    at_tests : (a b c : Bool) → nat_lt max_lines n ≡ a → nat_lt max_bytes total ≡ b → nat_lt max_bytes end ≡ c → (a || b && c) ≡ true
        → IsPast (record { total = total; number = n; end = end })
    at_tests true b c f g h e = inl (ltb-true _ _ f)
    at_tests false true true f g h e = inr (ltb-true _ _ g, ltb-true _ _ h)
    at_tests false true false f g h e = absurd (grind (arith, e))
    at_tests false false c f g h e = absurd (grind (arith, e))

past_false : (total n end : ℕ) → is_past total n end ≡ false → IsPast (record { total = total; number = n; end = end }) → ⊥
past_false total n end e p = at_tests p
  where
    at_tests : IsPast (record { total = total; number = n; end = end }) → ⊥
    at_tests (inl l) = true_false (is_past total n end) (rw (lt-ltb _ _ l) refl) e
    at_tests (inr (l, m)) = true_false (is_past total n end) (or_right (nat_lt max_lines n) _ (rw (lt-ltb _ _ l, lt-ltb _ _ m) refl)) e
      where
        or_right : (a b : Bool) → b ≡ true → (a || b) ≡ true
        or_right true b e = refl
        or_right false b e = e

not_past : (total n end : ℕ) → (IsPast (record { total = total; number = n; end = end }) → ⊥) → is_past total n end ≡ false
not_past total n end h = at_test (is_past total n end) refl
  where
    at_test : (t : Bool) → is_past total n end ≡ t → t ≡ false
    at_test true e = absurd (h (past_true total n end e))
    at_test false e = refl

is_past_true : (total n end : ℕ) → IsPast (record { total = total; number = n; end = end }) → is_past total n end ≡ true
is_past_true total n end p = at_test (is_past total n end) refl
  where
    at_test : (t : Bool) → is_past total n end ≡ t → t ≡ true
    at_test true e = refl
    at_test false e = absurd (past_false total n end e p)

abbrev fault : ℕ → Kind → Fault
fault n k = record { line = n; kind = k }

-- a script, and a bad line
abbrev done : Script → Result Script Fault
done s = Ok s

abbrev failed : Fault → Result Script Fault
failed f = Err f

abbrev by_crash : Place → Option ℕ → Result Script Fault
by_crash p None = Ok (record { setup = p.setup; lines = p.items })
by_crash p (Some m) = Err (record { line = m; kind = Unclosed })

fault_of : (a b : Fault) → failed a ≡ failed b → a ≡ b
fault_of a b e = cc

script_of : (a b : Script) → done a ≡ done b → a ≡ b
script_of a b e = cc

ok_no_fault : (s : Script) (f : Fault) → done s ≡ failed f → ⊥
ok_no_fault s f e = cc

-- the end
end_ok : (live : Bool) (n : ℕ) (p : Place) (s : Script) → script_at live n p ≡ Ok s
    → (is_whole p.stage ≡ true) × (open_crash live p.items ≡ None) × (s ≡ record { setup = p.setup; lines = p.items })
end_ok live n p s e = at_whole (is_whole p.stage) refl e
  where
    at_crash : (o : Option ℕ) → open_crash live p.items ≡ o → is_whole p.stage ≡ true → by_crash p o ≡ Ok s
        → (is_whole p.stage ≡ true) × (open_crash live p.items ≡ None) × (s ≡ record { setup = p.setup; lines = p.items })
    at_crash None f w g = (w, f, sym (script_of (record { setup = p.setup; lines = p.items }) s g))
    at_crash (Some m) f w g = absurd (ok_no_fault s (fault m Unclosed) (sym g))

    at_whole : (t : Bool) → is_whole p.stage ≡ t → (if t then by_crash p (open_crash live p.items) else Err (fault n BadSetup)) ≡ Ok s
        → (is_whole p.stage ≡ true) × (open_crash live p.items ≡ None) × (s ≡ record { setup = p.setup; lines = p.items })
    at_whole true f g = at_crash (open_crash live p.items) refl f g
    at_whole false f g = absurd (ok_no_fault s (fault n BadSetup) (sym g))

end_good : (live : Bool) (n : ℕ) (p : Place) → is_whole p.stage ≡ true → open_crash live p.items ≡ None
    → script_at live n p ≡ Ok (record { setup = p.setup; lines = p.items })
end_good live n p w e = rw (w, e) refl

end_open : (live : Bool) (n m : ℕ) (p : Place) → is_whole p.stage ≡ true → open_crash live p.items ≡ Some m → script_at live n p ≡ Err (fault m Unclosed)
end_open live n m p w e = rw (w, e) refl

end_part : (live : Bool) (n : ℕ) (p : Place) → is_whole p.stage ≡ false → script_at live n p ≡ Err (fault n BadSetup)
end_part live n p w = rw w refl

abbrev EndFault : Bool → ℕ → Place → ℕ → Kind → Type 0
EndFault live n p m k =
    ((is_whole p.stage ≡ false) × (m ≡ n) × (k ≡ BadSetup))
    ⊎ ((is_whole p.stage ≡ true) × (open_crash live p.items ≡ Some m) × (k ≡ Unclosed))

end_err : (live : Bool) (n m : ℕ) (k : Kind) (p : Place) → script_at live n p ≡ Err (fault m k) → EndFault live n p m k
end_err live n m k p e = at_whole (is_whole p.stage) refl
  where
    at_open : (o : Option ℕ) → open_crash live p.items ≡ o → is_whole p.stage ≡ true → EndFault live n p m k
    at_open None f w = absurd (ok_no_fault (record { setup = p.setup; lines = p.items }) (fault m k) (sym (end_good live n p w f) ∙ e))
    at_open (Some j) f w =
        let q = fault_of (fault m k) (fault j Unclosed) (sym e ∙ end_open live n j p w f) in
        inr (w, f ∙ ap Some (sym (ap (λ x. x.line) q)), ap (λ x. x.kind) q)

    at_whole : (t : Bool) → is_whole p.stage ≡ t → EndFault live n p m k
    at_whole true w = at_open (open_crash live p.items) refl w
    at_whole false w =
        let q = fault_of (fault m k) (fault n BadSetup) (sym e ∙ end_part live n p w) in
        inl (w, ap (λ x. x.line) q, ap (λ x. x.kind) q)

-- the lines
abbrev next : Bool → ℕ → ℕ → ℕ → List ℕ → List (List ℕ) → Result Place Kind → Result Script Fault
next live total n at l ls r = elim r [ Ok q ↦ read_lines live total (n + 1) (at + (length l + 1)) ls q | Err k ↦ Err (fault n k) ]

abbrev within : ℕ → ℕ → List ℕ → Place → Bool → Result Place Kind
within n at l p t = if t then Err TooLong else read_line n l p

pub lines_ok : (live : Bool) (total n at : ℕ) (ls : List (List ℕ)) (p : Place) (s : Script) → read_lines live total n at ls p ≡ Ok s
    → Accepts live (line_at total n at) ls p s
lines_ok live total n at [] p s e = end_ok live n p s e
lines_ok live total n at (l ∷ ls) p s e =
    at_test (λ q h. lines_ok live total (n + 1) (at + (length l + 1)) ls q s h) (is_past total n (at + (length l + 1))) refl e
  where
    at_line : ((q : Place) → read_lines live total (n + 1) (at + (length l + 1)) ls q ≡ Ok s
        → Accepts live (line_at total (n + 1) (at + (length l + 1))) ls q s)
        → is_past total n (at + (length l + 1)) ≡ false → (r : Result Place Kind) → read_line n l p ≡ r → next live total n at l ls r ≡ Ok s
        → Accepts live (line_at total n at) (l ∷ ls) p s
    at_line i f (Ok q) g h = (past_false total n (at + (length l + 1)) f, q, line_ok n l p q g, i q h)
    at_line i f (Err k) g h = absurd (ok_no_fault s (fault n k) (sym h))

    at_test : ((q : Place) → read_lines live total (n + 1) (at + (length l + 1)) ls q ≡ Ok s
        → Accepts live (line_at total (n + 1) (at + (length l + 1))) ls q s)
        → (t : Bool) → is_past total n (at + (length l + 1)) ≡ t → next live total n at l ls (within n at l p t) ≡ Ok s
        → Accepts live (line_at total n at) (l ∷ ls) p s
    at_test i true f g = absurd (ok_no_fault s (fault n TooLong) (sym g))
    at_test i false f g = at_line i f (read_line n l p) refl g

pub lines_good : (live : Bool) (total n at : ℕ) (ls : List (List ℕ)) (p : Place) (s : Script) → Accepts live (line_at total n at) ls p s
    → read_lines live total n at ls p ≡ Ok s
lines_good live total n at [] p s (w, e, f) = end_good live n p w e ∙ ap (λ x. done x) (sym f)
lines_good live total n at (l ∷ ls) p s (h, q, a, b) =
    ap (λ t. next live total n at l ls (within n at l p t)) (not_past total n (at + (length l + 1)) h)
    ∙ ap (λ r. next live total n at l ls r) (line_good n l p q a)
    ∙ lines_good live total (n + 1) (at + (length l + 1)) ls q s b

pub lines_err : (live : Bool) (total n at : ℕ) (ls : List (List ℕ)) (p : Place) (m : ℕ) (k : Kind) → read_lines live total n at ls p ≡ Err (fault m k)
    → Refuses live (line_at total n at) ls p m k
lines_err live total n at [] p m k e = end_err live n m k p e
lines_err live total n at (l ∷ ls) p m k e =
    at_test (λ q h. lines_err live total (n + 1) (at + (length l + 1)) ls q m k h) (is_past total n (at + (length l + 1))) refl e
  where
    at_line : ((q : Place) → read_lines live total (n + 1) (at + (length l + 1)) ls q ≡ Err (fault m k)
        → Refuses live (line_at total (n + 1) (at + (length l + 1))) ls q m k) → is_past total n (at + (length l + 1)) ≡ false → (r : Result Place Kind)
        → read_line n l p ≡ r → next live total n at l ls r ≡ Err (fault m k) → Refuses live (line_at total n at) (l ∷ ls) p m k
    at_line i f (Ok q) g h = inr (inr (past_false total n (at + (length l + 1)) f, q, line_ok n l p q g, i q h))
    at_line i f (Err j) g h =
        let x = fault_of (fault n j) (fault m k) h in
        let j_k : j ≡ k = ap (λ y. y.kind) x in
        let P : Kind → Type 0 = λ y. IsBad l p y in
        inr (inl (past_false total n (at + (length l + 1)) f, subst P j_k (line_err n l p j g), sym (ap (λ y. y.line) x)))

    at_test : ((q : Place) → read_lines live total (n + 1) (at + (length l + 1)) ls q ≡ Err (fault m k)
        → Refuses live (line_at total (n + 1) (at + (length l + 1))) ls q m k) → (t : Bool) → is_past total n (at + (length l + 1)) ≡ t
        → next live total n at l ls (within n at l p t) ≡ Err (fault m k) → Refuses live (line_at total n at) (l ∷ ls) p m k
    at_test i true f g =
        let x = fault_of (fault n TooLong) (fault m k) g in
        inl (past_true total n (at + (length l + 1)) f, sym (ap (λ y. y.line) x), sym (ap (λ y. y.kind) x))
    at_test i false f g = at_line i f (read_line n l p) refl g

same_fault : (n m : ℕ) (j k : Kind) → m ≡ n → k ≡ j → failed (fault n j) ≡ failed (fault m k)
same_fault n m j k e f = rw (e, f) refl

pub lines_bad : (live : Bool) (total n at : ℕ) (ls : List (List ℕ)) (p : Place) (m : ℕ) (k : Kind) → Refuses live (line_at total n at) ls p m k
    → read_lines live total n at ls p ≡ Err (fault m k)
lines_bad live total n at [] p m k (inl (w, e, f)) = end_part live n p w ∙ same_fault n m BadSetup k e f
lines_bad live total n at [] p m k (inr (w, e, f)) = end_open live n m p w e ∙ same_fault m m Unclosed k refl f
lines_bad live total n at (l ∷ ls) p m k (inl (h, e, f)) =
    ap (λ t. next live total n at l ls (within n at l p t)) (is_past_true total n (at + (length l + 1)) h) ∙ same_fault n m TooLong k e f
lines_bad live total n at (l ∷ ls) p m k (inr (inl (h, b, e))) =
    ap (λ t. next live total n at l ls (within n at l p t)) (not_past total n (at + (length l + 1)) h)
    ∙ ap (λ r. next live total n at l ls r) (line_bad n l p k b)
    ∙ same_fault n m k k e refl
lines_bad live total n at (l ∷ ls) p m k (inr (inr (h, q, a, b))) =
    ap (λ t. next live total n at l ls (within n at l p t)) (not_past total n (at + (length l + 1)) h)
    ∙ ap (λ r. next live total n at l ls r) (line_good n l p q a)
    ∙ lines_bad live total (n + 1) (at + (length l + 1)) ls q m k b

-- the bytes
pub script_ok : (live : Bool) (bytes : List ℕ) (s : Script) → read_script live bytes ≡ Ok s → IsScriptOf live bytes s
script_ok live bytes s e = lines_ok live (length bytes) 1 0 (lines bytes) start s e

pub script_good : (live : Bool) (bytes : List ℕ) (s : Script) → IsScriptOf live bytes s → read_script live bytes ≡ Ok s
script_good live bytes s a = lines_good live (length bytes) 1 0 (lines bytes) start s a

pub script_err : (live : Bool) (bytes : List ℕ) (m : ℕ) (k : Kind) → read_script live bytes ≡ Err (fault m k) → IsFirstBad live bytes m k
script_err live bytes m k e = lines_err live (length bytes) 1 0 (lines bytes) start m k e

pub script_bad : (live : Bool) (bytes : List ℕ) (m : ℕ) (k : Kind) → IsFirstBad live bytes m k → read_script live bytes ≡ Err (fault m k)
script_bad live bytes m k a = lines_bad live (length bytes) 1 0 (lines bytes) start m k a

-- every input has one script, or one first bad line of one kind, and never both
pub one_script : (live : Bool) (bytes : List ℕ) (s t : Script) → IsScriptOf live bytes s → IsScriptOf live bytes t → s ≡ t
one_script live bytes s t a b = script_of s t (sym (script_good live bytes s a) ∙ script_good live bytes t b)

pub one_fault : (live : Bool) (bytes : List ℕ) (m n : ℕ) (j k : Kind) → IsFirstBad live bytes m j → IsFirstBad live bytes n k → (m ≡ n) × (j ≡ k)
one_fault live bytes m n j k a b =
    let q = fault_of (fault m j) (fault n k) (sym (script_bad live bytes m j a) ∙ script_bad live bytes n k b) in
    (ap (λ x. x.line) q, ap (λ x. x.kind) q)

pub never_both : (live : Bool) (bytes : List ℕ) (s : Script) (m : ℕ) (k : Kind) → IsScriptOf live bytes s → IsFirstBad live bytes m k → ⊥
never_both live bytes s m k a b = ok_no_fault s (fault m k) (sym (script_good live bytes s a) ∙ script_bad live bytes m k b)

pub always_one : (live : Bool) (bytes : List ℕ) → ((s : Script) × IsScriptOf live bytes s) ⊎ ((m : ℕ) × (k : Kind) × IsFirstBad live bytes m k)
always_one live bytes = at_result (read_script live bytes) refl
  where
    at_result : (r : Result Script Fault) → read_script live bytes ≡ r
        → ((s : Script) × IsScriptOf live bytes s) ⊎ ((m : ℕ) × (k : Kind) × IsFirstBad live bytes m k)
    at_result (Ok s) e = inl (s, script_ok live bytes s e)
    at_result (Err f) e = inr (f.line, f.kind, script_err live bytes f.line f.kind e)

-- a line that is not taken refuses the whole
pub refuses_here : (live : Bool) (total n at : ℕ) (l : List ℕ) (ls : List (List ℕ)) (p : Place) (e : LineError) (r : Result Script Fault)
    → Fails e (read_at total n (at + (length l + 1)) l p) → read_lines live total n at (l ∷ ls) p ≡ r → Faults (refused n e) r
refuses_here live total n at l ls p (line_errors.Bad k) r f g = sym g ∙ ap (λ x. next live total n at l ls x) f
refuses_here live total n at l ls p line_errors.Memory r f g = tt
