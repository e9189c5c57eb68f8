-- The line of an item is an item: it has the words of its form, and spells what it was printed for.
use Rattle.std.proofs.Common.{◌≡◌, ℕ, ◌<◌, ◌≤◌, ◌^◌, ◌==◌, Bool, true, false, not, ◌&&◌, List, [], ◌∷◌, ◌++◌, length, codes, refl, sym, ◌∙◌, ap, subst, arith, if◌then◌else◌, append_assoc, nat_lt}
use Rattle.std.proofs.lemmas.Bool.Decides.{nat_tests}
use Rattle.std.proofs.lemmas.Bool.{eqb-true, eqb-false}
use Rattle.std.specs.Bool.{MatchBool}
use Rattle.std.specs.List.{list_all}
use Rattle.std.specs.Fmt.{decimal}
use Rattle.version_model.specs.declared.work.Work.{Work}
use Rattle.script_text.specs.declared.form.Form.{Form}
use Rattle.script_text.specs.declared.form.Form.TheVariants.{Bput, Bget, Sync, Mk, Mkdir, Put, Get, Size, Ls, Rm, Mv, ClientCrash, ClientRestart, CleanerCrash, CleanerRestart, Clean, ManagerCrash, ManagerRestart, Checkpoint, Lose, Rebuild, ServerStop, ServerStart, Move, BoardStop, BoardStart, NetLose, NetAgain, NetMix, NetHold, NetGo, NetStep}
use Rattle.script_text.specs.Words.{Lacks, words, first, behind, or_empty}
use Rattle.script_text.specs.Forms.{Meanings, verb, parts, is_net, work_of, has_words}
use Rattle.script_text.specs.Spelling.{Context, Means, Mean}
use Rattle.script_text.specs.Script.{is_timed, untimed, a_time, IsItem, is_silent, is_setup_word}
use Rattle.script_text.proofs.FormOf.{each_form}
use Rattle.script_text.proofs.Parts.{parted_cut, not_empty_parts}
use Rattle.script_print.specs.Printing.{by, asked, asked_line, form_line, work_line, after_text}
use Rattle.script_print.proofs.Bytes.{lacks_test, lacks_join, decimal_lacks}
use Rattle.script_print.proofs.LineReads.{AllFit, texts_last, node_first, line_reads, line_lacks, line_begins}
use Rattle.xfs_base.specs.Limits.{u32_end}

-- what holds of each form
abbrev is_regular : Form → Bool
is_regular f =
    texts_last (parts f) && node_first (parts f) && list_all (λ b. not (b == 32)) (verb f) && list_all (λ b. not (b == 10)) (verb f) && nat_lt 0
    (length (parts f))

regular : (f : Form) → is_regular f ≡ true
regular f = each_form is_regular refl f

-- the line that asks for the work of a form
asked_of : (f : Form) (v : Meanings (parts f)) → asked (work_of f v) ≡ by f v
asked_of Bput v = refl
asked_of f v = refl

and_parts : (a b : Bool) → (a && b) ≡ true → (a ≡ true) × (b ≡ true)
and_parts true b e = (refl, e)
and_parts false b e = absurd (grind (arith, e))

record Regular (f : Form) : Type 0 where
  pub last : texts_last (parts f) ≡ true
  pub node : node_first (parts f) ≡ true
  pub no_space : Lacks 32 (verb f)
  pub no_feed : Lacks 10 (verb f)
  pub some : 0 < length (parts f)

form_regular : (f : Form) → Regular f
form_regular f =
    let a = and_parts (texts_last (parts f) && node_first (parts f) && list_all (λ b. not (b == 32)) (verb f) && list_all (λ b. not (b == 10)) (verb f))
    (nat_lt 0 (length (parts f))) (regular f) in
    let b = and_parts (texts_last (parts f) && node_first (parts f) && list_all (λ b. not (b == 32)) (verb f)) (list_all (λ b. not (b == 10)) (verb f)) a.0 in
    let d = and_parts (texts_last (parts f) && node_first (parts f)) (list_all (λ b. not (b == 32)) (verb f)) b.0 in
    let e = and_parts (texts_last (parts f)) (node_first (parts f)) d.0 in
    record { last = e.0; node = e.1; no_space = lacks_test 32 (verb f) d.1; no_feed = lacks_test 10 (verb f) b.1; some = above (length (parts f)) a.1 }
  where
    above : (n : ℕ) → nat_lt 0 n ≡ true → 0 < n
    above n e = grind (arith, nat_tests, e)

-- some line asks for this work, not begun before so many events
pub record IsAsked (c : Context) (after : ℕ) (work : Work) : Type 0 where
  pub form : Form
  pub meanings : Meanings (parts form)
  pub fits : AllFit c (parts form) meanings
  pub meant : work ≡ work_of form meanings
  pub time : after < 2 ^ 32
  pub alone : is_net form ≡ true → after ≡ 0

-- the line of an item
abbrev pub item_line : ℕ → Work → List ℕ
item_line after work = after_text after ++ work_line work

-- what a line is that is read as an item
pub record Reads (c : Context) (line : List ℕ) (after : ℕ) (work : Work) : Type 0 where
  pub loud : is_silent line ≡ false
  pub item : is_setup_word (first (words line)) ≡ false
  pub means : IsItem c (words line) after work
  pub lacks : Lacks 10 line

line_is : (f : Form) (v : Meanings (parts f)) (work : Work) → work ≡ work_of f v → work_line work ≡ form_line f v
line_is f v work e = ap work_line e ∙ ap asked_line (asked_of f v)

-- without `after N`
plain_reads : (c : Context) (work : Work) (a : IsAsked c 0 work) → Reads c (form_line a.form a.meanings) 0 work
plain_reads c work a =
    let g = form_regular a.form in
    let b = line_begins c (parts a.form) (verb a.form) a.meanings g.node g.no_space a.fits in
    let r = line_reads c (parts a.form) (verb a.form) a.meanings g.some g.last g.no_space a.fits in
    let ws = words (form_line a.form a.meanings) in
    let t : is_timed ws ≡ false = b.untimed in
    let u : untimed ws ≡ ws = ap (λ x. if x then or_empty (behind (behind ws)) else ws) t in
    record {
      loud = b.loud;
      item = b.item;
      means = record {
        form = a.form;
        of_form = (ap (λ x. has_words (verb a.form) (parts a.form) x) u ∙ r.0, ap (λ x. x && is_net a.form) t);
        time = time_is ws t;
        meanings = a.meanings;
        spelled = (let P : List (List ℕ) → Type 0 = λ x. Mean c (parts a.form) x a.meanings in subst P (sym u) r.1);
        meant = a.meant;
      };
      lacks = line_lacks c (parts a.form) (verb a.form) a.meanings g.no_feed a.fits;
    }
  where
    time_is : (ws : List (List ℕ)) → is_timed ws ≡ false → MatchBool (is_timed ws) (Means c a_time (first (behind ws)) 0) (◌≡◌ {A = ℕ} 0 0)
    time_is ws e = rw e refl

timed_words : (n : ℕ) (line : List ℕ) → n < 2 ^ 32 → words ((codes "after " ++ (decimal n ++ 32 ∷ [])) ++ line) ≡ codes "after" ∷ decimal n ∷ words line
timed_words n line h =
    let e : (codes "after " ++ (decimal n ++ 32 ∷ [])) ++ line ≡ codes "after" ++ 32 ∷ (decimal n ++ 32 ∷ line) =
    ap (λ x. codes "after " ++ x) (append_assoc (decimal n) (32 ∷ []) line) in
    ap words e ∙ parted_cut 32 (codes "after") (decimal n ++ 32 ∷ line) (lacks_test 32 (codes "after") refl)
    ∙ ap (λ x. codes "after" ∷ x) (parted_cut 32 (decimal n) line (decimal_lacks 32 n (omega arith) h))

-- behind `after N`
timed_reads : (c : Context) (after : ℕ) (work : Work) (a : IsAsked c after work) → is_net a.form ≡ false
    → Reads c ((codes "after " ++ (decimal after ++ 32 ∷ [])) ++ form_line a.form a.meanings) after work
timed_reads c after work a n =
    let g = form_regular a.form in
    let r = line_reads c (parts a.form) (verb a.form) a.meanings g.some g.last g.no_space a.fits in
    let rest = words (form_line a.form a.meanings) in
    let line = (codes "after " ++ (decimal after ++ 32 ∷ [])) ++ form_line a.form a.meanings in
    let e : words line ≡ codes "after" ∷ decimal after ∷ rest = timed_words after (form_line a.form a.meanings) a.time in
    let u : or_empty rest ≡ rest = not_empty_parts 32 (form_line a.form a.meanings) in
    let P : List (List ℕ) → Type 0 = λ ws. IsItem c ws after work in
    let Q : List (List ℕ) → Type 0 = λ x. Mean c (parts a.form) x a.meanings in
    let i : IsItem c (codes "after" ∷ decimal after ∷ rest) after work = record {
      form = a.form;
      of_form = (ap (λ x. has_words (verb a.form) (parts a.form) x) u ∙ r.0, n);
      time = (((a.time, refl), omega arith, below after a.time), tt);
      meanings = a.meanings;
      spelled = subst Q (sym u) r.1;
      meant = a.meant;
    } in
    record {
      loud = refl;
      item = ap (λ ws. is_setup_word (first ws)) e;
      means = subst P (sym e) i;
      lacks = lacks_join 10 (codes "after " ++ (decimal after ++ 32 ∷ [])) (form_line a.form a.meanings)
          (lacks_join 10 (codes "after ") (decimal after ++ 32 ∷ []) (lacks_test 10 (codes "after ") refl)
          (lacks_join 10 (decimal after) (32 ∷ []) (decimal_lacks 10 after (omega arith) a.time) (lacks_test 10 (32 ∷ []) refl)))
          (line_lacks c (parts a.form) (verb a.form) a.meanings g.no_feed a.fits);
    }
  where
    below : (m : ℕ) → m < 2 ^ 32 → m ≤ u32_end
    below m h = omega (arith, h)

-- the line of an item is read as that item
pub item_reads : (c : Context) (after : ℕ) (work : Work) → IsAsked c after work → Reads c (item_line after work) after work
item_reads c after work a = at_zero (after == 0) refl
  where
    line_at : (t : Bool) → (after == 0) ≡ t
        → item_line after work ≡ (if t then [] else codes "after " ++ (decimal after ++ 32 ∷ [])) ++ form_line a.form a.meanings
    line_at t e =
        ap (λ x. (if x then [] else codes "after " ++ (decimal after ++ 32 ∷ [])) ++ work_line work) e
        ∙ ap (λ x. (if t then [] else codes "after " ++ (decimal after ++ 32 ∷ [])) ++ x) (line_is a.form a.meanings work a.meant)

    not_net : (t : Bool) → is_net a.form ≡ t → (after == 0) ≡ false → t ≡ false
    not_net true e f = absurd (eqb-false after 0 f (a.alone e))
    not_net false e f = refl

    at_zero : (t : Bool) → (after == 0) ≡ t → Reads c (item_line after work) after work
    at_zero true e =
        let z : after ≡ 0 = eqb-true after 0 e in
        let b : IsAsked c 0 work = record { form = a.form; meanings = a.meanings; fits = a.fits; meant = a.meant; time = omega arith; alone = λ x. refl } in
        let Q : ℕ → Type 0 = λ n. Reads c (item_line after work) n work in
        let R : List ℕ → Type 0 = λ line. Reads c line 0 work in
        subst Q (sym z) (subst R (sym (line_at true e)) (plain_reads c work b))
    at_zero false e =
        let R : List ℕ → Type 0 = λ line. Reads c line after work in
        subst R (sym (line_at false e)) (timed_reads c after work a (not_net (is_net a.form) refl e))
