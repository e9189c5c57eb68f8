-- An item is read as it is spelled, and a bad item is bad for the reason that reading gives.
use Rattle.std.proofs.Common.{◌≡◌, ℕ, Bool, true, false, ◌&&◌, List, [], ◌∷◌, refl, sym, ◌∙◌, ap, subst, arith, inl, inr, ◌⊎◌, Some, None, Result, Ok, Err, if◌then◌else◌}
use Rattle.std.specs.Bool.{MatchBool}
use Rattle.version_model.specs.declared.work.Work.{Work}
use Rattle.script_text.specs.declared.form.Form.{Form}
use Rattle.script_text.specs.declared.form.Part.{Part}
use Rattle.script_text.specs.declared.item.Item.{Item}
use Rattle.script_text.specs.declared.refusal.Kind.{Kind}
use Rattle.script_text.specs.declared.refusal.Kind.TheVariants.{BadWord}
use Rattle.script_text.specs.Words.{first, behind}
use Rattle.script_text.specs.Forms.{Meaning, Meanings, parts, is_net, work_of, piece_of, behind_part}
use Rattle.script_text.specs.Outcome.{◌>>=◌, or_fault}
use Rattle.script_text.specs.Spelling.{Context, Means, IsFault, Mean, FirstFault}
use Rattle.script_text.specs.Script.{is_timed, untimed, a_time, IsOfForm, IsItem, IsBadItem}
use Rattle.script_text.specs.Reading.{read_part, read_parts, form_of, read_work, read_after, form_in, read_item}
use Rattle.script_text.proofs.Judged.{good, bad, bind_ok, bind_err, judge_ok, judge_err}
use Rattle.script_text.proofs.FormOf.{form_found, form_is}
use Rattle.script_text.proofs.Pieces.{read_means, means_read, read_fault, fault_read}

pub bind_good : {X Y : Type 0} (r : Result X Kind) (f : X → Result Y Kind) (x : X) → r ≡ Ok x → (r >>= f) ≡ f x
bind_good r f x e = ap (λ q. q >>= f) e

pub bind_bad : {X Y : Type 0} (r : Result X Kind) (f : X → Result Y Kind) (k : Kind) → r ≡ Err k → (r >>= f) ≡ Err k
bind_bad r f k e = ap (λ q. q >>= f) e

pub of_ok : {X : Type 0} (x y : X) → good x ≡ good y → x ≡ y
of_ok x y e = cc

pub not_err : {X : Type 0} (x : X) (k : Kind) → good x ≡ bad k → ⊥
not_err x k e = cc

-- parts, from left to right
parts_ok : (c : Context) (ps : List Part) (ws : List (List ℕ)) (v : Meanings ps) → read_parts c ps ws ≡ Ok v → Mean c ps ws v
parts_ok c [] ws v e = tt
parts_ok c (p ∷ ps) ws v e =
    let a = bind_ok (read_part c p (piece_of p ws)) (λ x. read_parts c ps (behind_part p ws) >>= λ vs. Ok (x, vs)) v e in
    let b = bind_ok (read_parts c ps (behind_part p ws)) (λ vs. Ok (a.0, vs)) v a.2 in
    let q : (a.0, b.0) ≡ v = of_ok (a.0, b.0) v b.2 in
    let P : Meanings (p ∷ ps) → Type 0 = λ x. Mean c (p ∷ ps) ws x in
    subst P q (read_means c p (piece_of p ws) a.0 a.1, parts_ok c ps (behind_part p ws) b.0 b.1)

parts_good : (c : Context) (ps : List Part) (ws : List (List ℕ)) (v : Meanings ps) → Mean c ps ws v → read_parts c ps ws ≡ Ok v
parts_good c [] ws tt m = refl
parts_good c (p ∷ ps) ws v m =
    bind_good (read_part c p (piece_of p ws)) (λ x. read_parts c ps (behind_part p ws) >>= λ vs. Ok (x, vs)) v.0 (means_read c p (piece_of p ws) v.0 m.0)
    ∙ bind_good (read_parts c ps (behind_part p ws)) (λ vs. Ok (v.0, vs)) v.1 (parts_good c ps (behind_part p ws) v.1 m.1)

abbrev behind_first : (c : Context) (p : Part) (ps : List Part) (ws : List (List ℕ)) → Meaning p → Result (Meanings (p ∷ ps)) Kind
behind_first c p ps ws x = read_parts c ps (behind_part p ws) >>= λ vs. Ok (x, vs)

parts_err : (c : Context) (ps : List Part) (ws : List (List ℕ)) (k : Kind) → read_parts c ps ws ≡ Err k → FirstFault c ps ws k
parts_err c [] ws k e = absurd (not_err tt k e)
parts_err c (p ∷ ps) ws k e = at_first (λ f. parts_err c ps (behind_part p ws) k f) (bind_err (read_part c p (piece_of p ws)) (behind_first c p ps ws) k e)
  where
    at_rest : (read_parts c ps (behind_part p ws) ≡ Err k → FirstFault c ps (behind_part p ws) k) → (x : Meaning p) → read_part c p (piece_of p ws) ≡ Ok x
        → (read_parts c ps (behind_part p ws) ≡ Err k)
        ⊎ ((vs : Meanings ps) × (read_parts c ps (behind_part p ws) ≡ Ok vs) × (good {X = Meanings (p ∷ ps)} (x, vs) ≡ Err k)) → FirstFault c (p ∷ ps) ws k
    at_rest h x r (inl f) = inr (x, read_means c p (piece_of p ws) x r, h f)
    at_rest h x r (inr f) = absurd (not_err (x, f.0) k f.2)

    at_first : (read_parts c ps (behind_part p ws) ≡ Err k → FirstFault c ps (behind_part p ws) k)
        → (read_part c p (piece_of p ws) ≡ Err k) ⊎ ((x : Meaning p) × (read_part c p (piece_of p ws) ≡ Ok x) × (behind_first c p ps ws x ≡ bad k))
        → FirstFault c (p ∷ ps) ws k
    at_first h (inl f) = inl (read_fault c p (piece_of p ws) k f)
    at_first h (inr f) = at_rest h f.0 f.1 (bind_err (read_parts c ps (behind_part p ws)) (λ vs. Ok (f.0, vs)) k f.2)

parts_bad : (c : Context) (ps : List Part) (ws : List (List ℕ)) (k : Kind) → FirstFault c ps ws k → read_parts c ps ws ≡ Err k
parts_bad c [] ws k f = absurd f
parts_bad c (p ∷ ps) ws k (inl f) =
    bind_bad (read_part c p (piece_of p ws)) (λ x. read_parts c ps (behind_part p ws) >>= λ vs. Ok (x, vs)) k (fault_read c p (piece_of p ws) k f)
parts_bad c (p ∷ ps) ws k (inr (v, m, f)) =
    bind_good (read_part c p (piece_of p ws)) (λ x. read_parts c ps (behind_part p ws) >>= λ vs. Ok (x, vs)) v (means_read c p (piece_of p ws) v m)
    ∙ bind_bad (read_parts c ps (behind_part p ws)) (λ vs. Ok (v, vs)) k (parts_bad c ps (behind_part p ws) k f)

-- the form
if_ok : (t : Bool) (f g : Form) → (if t then Err BadWord else Ok f) ≡ Ok g → (t ≡ false) × (f ≡ g)
if_ok true f g e = absurd (not_err g BadWord (sym e))
if_ok false f g e = (refl, of_ok f g e)

if_err : (t : Bool) (f : Form) (k : Kind) → (if t then Err BadWord else Ok f) ≡ Err k → (t ≡ true) × (k ≡ BadWord)
if_err true f k e = (refl, err_of BadWord k e)
  where
    err_of : (i j : Kind) → bad {X = Form} i ≡ bad j → j ≡ i
    err_of i j e = cc
if_err false f k e = absurd (not_err f k e)

form_ok : (ws : List (List ℕ)) (f : Form) → form_in ws ≡ Ok f → IsOfForm ws f
form_ok ws f e =
    let a = bind_ok (or_fault BadWord (form_of (untimed ws))) (λ g. if is_timed ws && is_net g then Err BadWord else Ok g) f e in
    let j = judge_ok BadWord BadWord (λ (x : Form). true) (form_of (untimed ws)) a.0 a.1 in
    let b = if_ok (is_timed ws && is_net a.0) a.0 f a.2 in
    let P : Form → Type 0 = λ g. IsOfForm ws g in
    subst P b.1 (form_found (untimed ws) a.0 j.0, b.0)

form_good : (ws : List (List ℕ)) (f : Form) → IsOfForm ws f → form_in ws ≡ Ok f
form_good ws f (h, n) =
    bind_good (or_fault BadWord (form_of (untimed ws))) (λ g. if is_timed ws && is_net g then Err BadWord else Ok g) f
    (ap (λ o. or_fault BadWord o) (form_is (untimed ws) f h))
    ∙ ap (λ t. if t then Err BadWord else Ok f) n

form_err : (ws : List (List ℕ)) (k : Kind) → form_in ws ≡ Err k → ((f : Form) → IsOfForm ws f → ⊥) × (k ≡ BadWord)
form_err ws k e = (
  (λ f h. not_err f k (sym (form_good ws f h) ∙ e)),
  word (bind_err (or_fault BadWord (form_of (untimed ws))) (λ g. if is_timed ws && is_net g then Err BadWord else Ok g) k e),
)
  where
    word : (or_fault BadWord (form_of (untimed ws)) ≡ Err k)
        ⊎ ((g : Form) × (or_fault BadWord (form_of (untimed ws)) ≡ Ok g) × ((if is_timed ws && is_net g then Err BadWord else Ok g) ≡ Err k)) → k ≡ BadWord
    word (inl f) = of_judge (judge_err BadWord BadWord (λ (x : Form). true) (form_of (untimed ws)) k f)
      where
        of_judge : ((form_of (untimed ws) ≡ None) × (k ≡ BadWord)) ⊎ ((x : Form) × (form_of (untimed ws) ≡ Some x) × (true ≡ false) × (k ≡ BadWord))
            → k ≡ BadWord
        of_judge (inl j) = j.1
        of_judge (inr j) = j.3
    word (inr f) = (if_err (is_timed ws && is_net f.0) f.0 k f.2).1

form_bad : (ws : List (List ℕ)) → ((f : Form) → IsOfForm ws f → ⊥) → form_in ws ≡ Err BadWord
form_bad ws h = at_result (form_in ws) refl
  where
    at_result : (r : Result Form Kind) → form_in ws ≡ r → r ≡ Err BadWord
    at_result (Ok f) e = absurd (h f (form_ok ws f e))
    at_result (Err k) e = ap (λ i. bad {X = Form} i) (form_err ws k e).1

-- the N of `after N`
time_ok : (c : Context) (t : Bool) (w : List ℕ) (n : ℕ) → (if t then read_part c a_time w else Ok 0) ≡ Ok n → MatchBool t (Means c a_time w n) (n ≡ 0)
time_ok c true w n e = read_means c a_time w n e
time_ok c false w n e = sym (of_ok 0 n e)

time_good : (c : Context) (t : Bool) (w : List ℕ) (n : ℕ) → MatchBool t (Means c a_time w n) (n ≡ 0) → (if t then read_part c a_time w else Ok 0) ≡ Ok n
time_good c true w n m = means_read c a_time w n m
time_good c false w n m = ap (λ x. good x) (sym m)

time_err : (c : Context) (t : Bool) (w : List ℕ) (k : Kind) → (if t then read_part c a_time w else Ok 0) ≡ Err k → (t ≡ true) × IsFault c a_time w k
time_err c true w k e = (refl, read_fault c a_time w k e)
time_err c false w k e = absurd (not_err 0 k e)

time_bad : (c : Context) (t : Bool) (w : List ℕ) (k : Kind) → t ≡ true → IsFault c a_time w k → (if t then read_part c a_time w else Ok 0) ≡ Err k
time_bad c true w k e f = fault_read c a_time w k f
time_bad c false w k e f = absurd (grind (arith, e))

-- the work of a form
work_ok : (c : Context) (f : Form) (ws : List (List ℕ)) (w : Work) → read_work c f ws ≡ Ok w
    → (v : Meanings (parts f)) × Mean c (parts f) ws v × (w ≡ work_of f v)
work_ok c f ws w e =
    let a = bind_ok (read_parts c (parts f) ws) (λ v. Ok (work_of f v)) w e in
    (a.0, parts_ok c (parts f) ws a.0 a.1, sym (of_ok (work_of f a.0) w a.2))

work_err : (c : Context) (f : Form) (ws : List (List ℕ)) (k : Kind) → read_work c f ws ≡ Err k → FirstFault c (parts f) ws k
work_err c f ws k e = at_parts (bind_err (read_parts c (parts f) ws) (λ v. Ok (work_of f v)) k e)
  where
    at_parts : (read_parts c (parts f) ws ≡ Err k) ⊎ ((v : Meanings (parts f)) × (read_parts c (parts f) ws ≡ Ok v) × (good (work_of f v) ≡ Err k))
        → FirstFault c (parts f) ws k
    at_parts (inl g) = parts_err c (parts f) ws k g
    at_parts (inr g) = absurd (not_err (work_of f g.0) k g.2)

-- the steps of reading an item
abbrev behind_form : Context → List (List ℕ) → Form → Result Item Kind
behind_form c ws f = read_after ws >>= λ after. read_work c f (untimed ws) >>= λ work. Ok (record { after = after; work = work })

abbrev behind_time : Context → List (List ℕ) → Form → ℕ → Result Item Kind
behind_time c ws f after = read_work c f (untimed ws) >>= λ work. Ok (record { after = after; work = work })

pub item_ok : (c : Context) (ws : List (List ℕ)) (i : Item) → read_item c ws ≡ Ok i → IsItem c ws i.after i.work
item_ok c ws i e =
    let a = bind_ok (form_in ws) (behind_form c ws) i e in
    let b = bind_ok (read_after ws) (behind_time c ws a.0) i a.2 in
    let d = bind_ok (read_work c a.0 (untimed ws)) (λ work. Ok (record { after = b.0; work = work })) i b.2 in
    let w = work_ok c a.0 (untimed ws) d.0 d.1 in
    let made : Item = record { after = b.0; work = d.0 } in
    let q : made ≡ i = of_ok made i d.2 in
    let P : Item → Type 0 = λ x. IsItem c ws x.after x.work in
    let r : IsItem c ws b.0 d.0 = record {
      form = a.0;
      of_form = form_ok ws a.0 a.1;
      time = time_ok c (is_timed ws) (first (behind ws)) b.0 b.1;
      meanings = w.0;
      spelled = w.1;
      meant = w.2;
    } in
    subst P q r

pub item_good : (c : Context) (ws : List (List ℕ)) (after : ℕ) (work : Work) → IsItem c ws after work
    → read_item c ws ≡ Ok (record { after = after; work = work })
item_good c ws after work i =
    let w : read_work c i.form (untimed ws) ≡ Ok work =
    bind_good (read_parts c (parts i.form) (untimed ws)) (λ v. Ok (work_of i.form v)) i.meanings (parts_good c (parts i.form) (untimed ws) i.meanings i.spelled)
    ∙ ap (λ x. good x) (sym i.meant) in
    bind_good (form_in ws) (behind_form c ws) i.form (form_good ws i.form i.of_form)
    ∙ bind_good (read_after ws) (behind_time c ws i.form) after (time_good c (is_timed ws) (first (behind ws)) after i.time)
    ∙ bind_good (read_work c i.form (untimed ws)) (λ x. Ok (record { after = after; work = x })) work w

pub item_err : (c : Context) (ws : List (List ℕ)) (k : Kind) → read_item c ws ≡ Err k → IsBadItem c ws k
item_err c ws k e = at_form (bind_err (form_in ws) (behind_form c ws) k e)
  where
    at_work : (f : Form) (n : ℕ) → form_in ws ≡ Ok f → read_after ws ≡ Ok n
        → (read_work c f (untimed ws) ≡ Err k) ⊎ ((w : Work) × (read_work c f (untimed ws) ≡ Ok w) × (good {X = Item} (record { after = n; work = w }) ≡ Err k))
        → IsBadItem c ws k
    at_work f n g h (inl x) = inr (f, form_ok ws f g, inr (n, time_ok c (is_timed ws) (first (behind ws)) n h, work_err c f (untimed ws) k x))
    at_work f n g h (inr x) = absurd (not_err (record { after = n; work = x.0 }) k x.2)

    at_time : (f : Form) → form_in ws ≡ Ok f → (read_after ws ≡ Err k) ⊎ ((n : ℕ) × (read_after ws ≡ Ok n) × (behind_time c ws f n ≡ Err k)) → IsBadItem c ws k
    at_time f g (inl x) = inr (f, form_ok ws f g, inl (time_err c (is_timed ws) (first (behind ws)) k x))
    at_time f g (inr x) = at_work f x.0 g x.1 (bind_err (read_work c f (untimed ws)) (λ work. Ok (record { after = x.0; work = work })) k x.2)

    at_form : (form_in ws ≡ Err k) ⊎ ((f : Form) × (form_in ws ≡ Ok f) × (behind_form c ws f ≡ Err k)) → IsBadItem c ws k
    at_form (inl x) = inl (form_err ws k x)
    at_form (inr x) = at_time x.0 x.1 (bind_err (read_after ws) (behind_time c ws x.0) k x.2)

pub item_bad : (c : Context) (ws : List (List ℕ)) (k : Kind) → IsBadItem c ws k → read_item c ws ≡ Err k
item_bad c ws k (inl (h, e)) = bind_bad (form_in ws) (behind_form c ws) k (form_bad ws h ∙ ap (λ i. bad {X = Form} i) (sym e))
item_bad c ws k (inr (f, g, inl (t, h))) =
    bind_good (form_in ws) (behind_form c ws) f (form_good ws f g)
    ∙ bind_bad (read_after ws) (behind_time c ws f) k (time_bad c (is_timed ws) (first (behind ws)) k t h)
item_bad c ws k (inr (f, g, inr (n, m, h))) =
    bind_good (form_in ws) (behind_form c ws) f (form_good ws f g)
    ∙ bind_good (read_after ws) (behind_time c ws f) n (time_good c (is_timed ws) (first (behind ws)) n m)
    ∙ bind_bad (read_work c f (untimed ws)) (λ x. Ok (record { after = n; work = x })) k
    (bind_bad (read_parts c (parts f) (untimed ws)) (λ v. Ok (work_of f v)) k (parts_bad c (parts f) (untimed ws) k h))

-- a part that is read before others that are not, and a part that is not read
abbrev with_first : (p : Part) (ps : List Part) → Meaning p → Meanings ps → Result (Meanings (p ∷ ps)) Kind
with_first p ps v vs = Ok (v, vs)

pub part_then_err : (c : Context) (p : Part) (ps : List Part) (ws : List (List ℕ)) (x : Meaning p) (k : Kind) → read_part c p (piece_of p ws) ≡ Ok x
    → read_parts c ps (behind_part p ws) ≡ Err k → read_parts c (p ∷ ps) ws ≡ Err k
part_then_err c p ps ws x k e f =
    bind_good (read_part c p (piece_of p ws)) (behind_first c p ps ws) x e
    ∙ bind_bad (read_parts c ps (behind_part p ws)) (with_first p ps x) k f

pub part_err : (c : Context) (p : Part) (ps : List Part) (ws : List (List ℕ)) (k : Kind) → read_part c p (piece_of p ws) ≡ Err k
    → read_parts c (p ∷ ps) ws ≡ Err k
part_err c p ps ws k e = bind_bad (read_part c p (piece_of p ws)) (behind_first c p ps ws) k e

pub work_bad : (c : Context) (f : Form) (ws : List (List ℕ)) (k : Kind) → read_parts c (parts f) ws ≡ Err k → read_work c f ws ≡ Err k
work_bad c f ws k e = bind_bad (read_parts c (parts f) ws) (λ v. Ok (work_of f v)) k e
