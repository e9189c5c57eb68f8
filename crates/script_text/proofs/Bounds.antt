-- A script has at most 20,000 items: one for each line at most.
use Rattle.std.proofs.Common.{◌≡◌, ℕ, ◌+◌, ◌≤◌, ◌<◌, Bool, List, [], ◌∷◌, ◌++◌, length, ap, arith, inl, inr, length-append, Result, Ok, Err, IfOk}
use Rattle.xfs_base.specs.Limits.{max_lines}
use Rattle.script_text.specs.declared.refusal.ScriptError.{ScriptError}
use Rattle.script_text.specs.declared.script.Script.{Script}
use Rattle.script_text.specs.declared.stage.Stage.{Stage}
use Rattle.script_text.specs.declared.stage.Stage.TheVariants as stage
use Rattle.script_text.specs.declared.stage.Place.{Place}
use Rattle.script_text.specs.Lines.{lines}
use Rattle.script_text.specs.Words.{words}
use Rattle.script_text.specs.Script.{AddsSetup, Leads, IsPast, Accepts, line_at, start, IsScriptOf, item_at}

setup_items : (st : Stage) (p q : Place) (ws : List (List ℕ)) → AddsSetup st p ws q → q.items ≡ p.items
setup_items stage.Version p q ws a = ap (λ (x : Place). x.items) a.2
setup_items stage.Clients p q ws a = ap (λ (x : Place). x.items) a.2
setup_items stage.Managers p q ws a = ap (λ (x : Place). x.items) a.2
setup_items stage.Servers p q ws a = ap (λ (x : Place). x.items) a.2
setup_items stage.FirstGroup p q ws a = ap (λ (x : Place). x.items) a.3
setup_items stage.Groups p q ws (inl a) = ap (λ (x : Place). x.items) a.3
setup_items stage.Groups p q ws (inr (inl a)) = ap (λ (x : Place). x.items) a.2
setup_items stage.Groups p q ws (inr (inr a)) = ap (λ (x : Place). x.items) a.1
setup_items stage.Cached p q ws a = ap (λ (x : Place). x.items) a.1
setup_items stage.Items p q ws a = absurd a

one_more : (n : ℕ) (l : List ℕ) (p q : Place) → Leads n l p q → length q.items ≤ length p.items + 1
one_more n l p q (inl (s, e)) = let f : length q.items ≡ length p.items = ap (λ (x : Place). length x.items) e in omega (arith, f)
one_more n l p q (inr (s, inl a)) = let f : length q.items ≡ length p.items = ap (λ xs. length xs) (setup_items p.stage p q (words l) a) in omega (arith, f)
one_more n l p q (inr (s, inr (w, b, after, work, i, e))) =
    let f : length q.items ≡ length (p.items ++ item_at n after work ∷ []) = ap (λ (x : Place). length x.items) e in
    let g : length (p.items ++ item_at n after work ∷ []) ≡ length p.items + 1 = length-append p.items (item_at n after work ∷ []) in
    omega (arith, f, g)

not_many : (total n end : ℕ) → (IsPast (record { total = total; number = n; end = end }) → ⊥) → n ≤ max_lines
not_many total n end h = not_above n (λ l. h (inl l))
  where
    not_above : (m : ℕ) → (max_lines < m → ⊥) → m ≤ max_lines
    not_above m k = omega (arith, k)

few_from : (live : Bool) (total n at : ℕ) (ls : List (List ℕ)) (p : Place) (s : Script) → n ≤ max_lines + 1 → Accepts live (line_at total n at) ls p s
    → length s.lines + n ≤ length p.items + (max_lines + 1)
few_from live total n at [] p s h a =
    let f : length s.lines ≡ length p.items = ap (λ (x : Script). length x.lines) a.2 in
    omega (arith, f, h)
few_from live total n at (l ∷ ls) p s h a =
    let m : n ≤ max_lines = not_many total n (at + (length l + 1)) a.0 in
    let k : length a.1.items ≤ length p.items + 1 = one_more n l p a.1 a.2 in
    let r : length s.lines + (n + 1) ≤ length a.1.items + (max_lines + 1) = few_from live total (n + 1) (at + (length l + 1)) ls a.1 s (omega (arith, m)) a.3 in
    omega (arith, k, r)

pub few_items : (live : Bool) (bytes : List ℕ) (s : Script) → IsScriptOf live bytes s → length s.lines ≤ max_lines
few_items live bytes s a =
    let r : length s.lines + 1 ≤ length (start.items) + (max_lines + 1) = few_from live (length bytes) 1 0 (lines bytes) start s (omega arith) a in
    omega (arith, r)

pub few_found : (live : Bool) (bytes : List ℕ) (r : Result Script ScriptError) → IfOk r (λ s. IsScriptOf live bytes s)
    → IfOk r (λ s. length s.lines ≤ max_lines)
few_found live bytes (Ok s) a = few_items live bytes s a
few_found live bytes (Err e) a = tt
