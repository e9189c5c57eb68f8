-- The text of a script spells that script.
use Rattle.std.proofs.Common.{◌≡◌, ℕ, ◌+◌, ◌-◌, ◌≤◌, Bool, true, false, List, [], ◌∷◌, ◌++◌, length, refl, sym, ◌∙◌, ap, subst, arith, inr, Result, Ok, Err, IfOk, append_assoc, append-nil, length-append}
use Rattle.std.specs.List.{repeat, AllByRecursion}
use Rattle.xfs_base.specs.declared.setup.Setup.{Setup}
use Rattle.xfs_base.specs.Limits.{max_lines, max_bytes}
use Rattle.script_text.specs.declared.script.Line.{Line}
use Rattle.script_text.specs.declared.script.Script.{Script}
use Rattle.script_text.specs.declared.stage.Stage.TheVariants as stage
use Rattle.script_text.specs.declared.stage.Place.{Place}
use Rattle.script_text.specs.Lines.{lines}
use Rattle.script_text.specs.Words.{Lacks}
use Rattle.script_text.specs.Script.{Leads, Accepts, line_at, IsScriptOf, is_whole, start, text_size}
use Rattle.script_print.specs.Printing.{item_text, items_text, acts_lines, setup_lines, ended, printed, work_line, after_text, IsScript}
use Rattle.script_print.proofs.ItemLines.{IsAsked, item_line, item_reads}
use Rattle.script_print.proofs.Goings.{Goes, goes_on, empties, empty_lines, accepts, ended_lines, empty_ended, ended_join, length_empty, empty_lack, all_both}
use Rattle.script_print.proofs.Asks.{lines_lack}
use Rattle.script_print.proofs.Extracts.{IsSetup, AreAsked, Whole, script_whole, lines_count, cache_few}
use Rattle.script_print.proofs.SetupLines.{End, setup_goes, setup_lacks}

-- the lines of items behind the line of this number
abbrev item_lines : ℕ → List Line → List (List ℕ)
item_lines before [] = []
item_lines before (l ∷ ls) = empties (l.number - before - 1) ++ (item_line l.after l.work ∷ item_lines l.number ls)

one_text : (before : ℕ) (l : Line) (rest : List (List ℕ))
    → item_text before l ++ ended rest ≡ ended (empties (l.number - before - 1) ++ (item_line l.after l.work ∷ rest))
one_text before l rest =
    let k = l.number - before - 1 in
    let a : ended (empties k ++ (item_line l.after l.work ∷ rest)) ≡ ended (empties k) ++ (item_line l.after l.work ++ 10 ∷ ended rest) =
    ended_join (empties k) (item_line l.after l.work ∷ rest) in
    let b : repeat k (10 ∷ []) ≡ ended (empties k) = empty_ended k in
    regroup (repeat k (10 ∷ [])) (after_text l.after) (work_line l.work) (ended rest) ∙ ap (λ x. x ++ (item_line l.after l.work ++ 10 ∷ ended rest)) b ∙ sym a
  where
    regroup : (e a w r : List ℕ) → (e ++ (a ++ (w ++ 10 ∷ []))) ++ r ≡ e ++ ((a ++ w) ++ 10 ∷ r)
    regroup e a w r = simp append_assoc

items_ended : (before : ℕ) (ls : List Line) → items_text before ls ≡ ended (item_lines before ls)
items_ended before [] = refl
items_ended before (l ∷ ls) = ap (λ x. item_text before l ++ x) (items_ended l.number ls) ∙ one_text before l (item_lines l.number ls)

-- the items lead from a whole setup to themselves
record Items (n : ℕ) (ls : List (List ℕ)) (p : Place) (more : List Line) : Type 0 where
  last : Place
  goes : Goes n ls p last
  setup : last.setup ≡ p.setup
  items : last.items ≡ p.items ++ more
  whole : is_whole last.stage ≡ true

one_item : (p : Place) (l : Line) → is_whole p.stage ≡ true → IsAsked (record { setup = p.setup; room = p.room }) l.after l.work
    → Leads l.number (item_line l.after l.work) p (record p { stage = stage.Items; room = p.room - text_size l.work; items = p.items ++ l ∷ [] })
one_item p l w a =
    let r = item_reads (record { setup = p.setup; room = p.room }) l.after l.work a in
    inr (r.loud, inr (w, r.item, l.after, l.work, r.means, refl))

items_go : (ls : List Line) (before : ℕ) (p : Place) → is_whole p.stage ≡ true → AreAsked p.setup before p.room ls
    → Items (before + 1) (item_lines before ls) p ls
items_go [] before p w a = record { last = p; goes = refl; setup = refl; items = sym (append-nil p.items); whole = w }
items_go (l ∷ ls) before p w (b, m, a, more) =
    let q : Place = record p { stage = stage.Items; room = p.room - text_size l.work; items = p.items ++ l ∷ [] } in
    let r : Items (l.number + 1) (item_lines l.number ls) q ls = items_go ls l.number q refl more in
    let k = l.number - before - 1 in
    let e : length (empties k) ≡ k = length_empty k in
    record {
      last = r.last;
      goes = goes_on (before + 1) l.number (empties k) (item_line l.after l.work ∷ item_lines l.number ls) p p r.last (omega (arith, e, b))
          (empty_lines (before + 1) k p) (q, one_item p l w a, r.goes);
      setup = r.setup;
      items = r.items ∙ append_assoc p.items (l ∷ []) ls;
      whole = r.whole;
    }

items_few : (s : Setup) (before room : ℕ) (ls : List Line) → before ≤ max_lines → AreAsked s before room ls → before + length (item_lines before ls) ≤ max_lines
items_few s before room [] b a = omega (arith, b)
items_few s before room (l ∷ ls) b (c, m, a, more) =
    let k = l.number - before - 1 in
    let r : l.number + length (item_lines l.number ls) ≤ max_lines = items_few s l.number (room - text_size l.work) ls m more in
    let e : length (empties k) ≡ k = length_empty k in
    let f : length (empties k ++ (item_line l.after l.work ∷ item_lines l.number ls)) ≡ length (empties k) + length
    (item_line l.after l.work ∷ item_lines l.number ls) = length-append (empties k) (item_line l.after l.work ∷ item_lines l.number ls) in
    omega (arith, r, e, f, c)

items_lack : (s : Setup) (before room : ℕ) (ls : List Line) → AreAsked s before room ls → AllByRecursion (λ l. Lacks 10 l) (item_lines before ls)
items_lack s before room [] a = tt
items_lack s before room (l ∷ ls) (c, m, a, more) =
    all_both (λ x. Lacks 10 x) (empties (l.number - before - 1)) (item_line l.after l.work ∷ item_lines l.number ls) (empty_lack (l.number - before - 1))
    ((item_reads (record { setup = s; room = room }) l.after l.work a).lacks, items_lack s l.number (room - text_size l.work) ls more)

-- the lines of a text
printed_lines : (s : Script) → Whole s → lines (printed s) ≡ setup_lines s.setup ++ item_lines (length (setup_lines s.setup)) s.lines
printed_lines s w =
    let n = length (setup_lines s.setup) in
    let e : items_text n s.lines ≡ ended (item_lines n s.lines) ++ [] = items_ended n s.lines ∙ sym (append-nil (ended (item_lines n s.lines))) in
    let f : lines (ended (item_lines n s.lines) ++ []) ≡ item_lines n s.lines ++ [] =
    ended_lines (item_lines n s.lines) [] (items_lack s.setup n 67108864 s.lines w.asked) in
    ap (λ x. lines (ended (setup_lines s.setup) ++ x)) e
    ∙ ended_lines (setup_lines s.setup) (ended (item_lines n s.lines) ++ []) (setup_lacks s.setup w.setup)
    ∙ ap (λ x. setup_lines s.setup ++ x) (f ∙ append-nil (item_lines n s.lines))

setup_few : (s : Setup) → IsSetup s → length (setup_lines s) ≤ max_lines
setup_few s h =
    let e = lines_count s in
    let c = cache_few s.cache in
    let a = acts_few s.acts in
    omega (arith, e, h.few, c, a)
  where
    acts_few : (acts : Bool) → length (acts_lines acts) ≤ 1
    acts_few true = omega arith
    acts_few false = omega arith

-- what is known of a script is enough for its text to spell it
pub whole_spelled : (s : Script) → Whole s → length (printed s) ≤ max_bytes → IsScriptOf false (printed s) s
whole_spelled s w t =
    let n = length (setup_lines s.setup) in
    let g : End 1 (setup_lines s.setup) start s.setup = setup_goes s.setup w.setup in
    let p : Place = record { stage = g.last; setup = s.setup; room = 67108864; items = [] } in
    let r : Items (n + 1) (item_lines n s.lines) p s.lines = items_go s.lines n p g.whole w.asked in
    let all = setup_lines s.setup ++ item_lines n s.lines in
    let h : Goes 1 all start r.last = goes_on 1 (n + 1) (setup_lines s.setup) (item_lines n s.lines) start p r.last (omega arith) g.goes r.goes in
    let d : length all ≡ n + length (item_lines n s.lines) = length-append (setup_lines s.setup) (item_lines n s.lines) in
    let f : n + length (item_lines n s.lines) ≤ max_lines = items_few s.setup n 67108864 s.lines (setup_few s.setup w.setup) w.asked in
    let a : Accepts false (line_at (length (printed s)) 1 0) all start (record { setup = r.last.setup; lines = r.last.items }) =
    accepts (length (printed s)) 1 0 all start r.last t (omega (arith, d, f)) h r.whole in
    let P : List (List ℕ) → Type 0 = λ ls. Accepts false (line_at (length (printed s)) 1 0) ls start (record { setup = r.last.setup; lines = r.last.items }) in
    let Q : Setup → Type 0 = λ x. IsScriptOf false (printed s) (record { setup = x; lines = r.last.items }) in
    let R : List Line → Type 0 = λ x. IsScriptOf false (printed s) (record { setup = s.setup; lines = x }) in
    subst R r.items (subst Q r.setup (subst P (sym (printed_lines s w)) a))

-- the text of a script that some bytes spell spells it
pub printed_again : (s : Script) → IsScript s → length (printed s) ≤ max_bytes → IsScriptOf false (printed s) s
printed_again s (live, bytes, a) t = whole_spelled s (script_whole live (length bytes) (lines bytes) s (lines_lack bytes) a) t

pub again : {E : Type 0} (s : Script) (r : Result (List ℕ) E) → IfOk r (λ text. text ≡ printed s)
    → IfOk r (λ text. IsScript s → length text ≤ max_bytes → IsScriptOf false text s)
again s (Ok text) e = λ i t.
    (let P : List ℕ → Type 0 = λ x. IsScriptOf false x s in
    let Q : List ℕ → Type 0 = λ x. length x ≤ max_bytes in
    let l : length (printed s) ≤ max_bytes = subst Q e t in
    subst P (sym e) (printed_again s i l))
again s (Err x) e = tt
