-- The lines of a script, one after the other.
use Rattle.std.proofs.Common.{◌≡◌, ℕ, ◌+◌, ◌<◌, min, Bool, true, false, List, [], ◌∷◌, ◌++◌, length, take, drop, get_or, Option, Some, None, MatchOption, refl, sym, ◌∙◌, ap, append_assoc, if◌then◌else◌, arith, cond, unwrap_or}
use denote.Ref.{Bor}
use Rattle.std.specs.List.{count_by}
use Rattle.std.specs.BTreeMap.{is_at}
use Rattle.std.specs.Map.{lookup}
use Rattle.std.specs.Option.{option_copied}
use Rattle.std.specs.Ordering.{is_eq}
use Rattle.std.proofs.lemmas.List.Sums.{sum_by-append}
use Rattle.std.proofs.lemmas.List.{take_more, drop_more, map-append}
use Rattle.script_text.specs.declared.script.Line.{Line}
use Rattle.version_model.specs.declared.act.Act.{Act}
use Rattle.world_base.specs.Items.{actor_of, is_for, is_for_actor, works_of}
use Rattle.xfs_base.specs.declared.node.NodeId.{NodeId}
use Rattle.xfs_base.specs.Nodes.{node_cmp}
use Rattle.xfs_base.proofs.BlockOrder.{lookup-insert_entry}
use Rattle.xfs_base.specs.Limits.{u32_end}
use Rattle.xfs_base.proofs.NodeOrder.{node_total, same_node_swap, same_node_is}
use Rattle.transcript.specs.declared.replies.Reply.{Reply}
use Rattle.transcript.specs.Numbers.{Numbers, last_of, next_of, behind_item, behind_line, AreOf}
use Rattle.transcript.specs.Replies.{Table}
use Rattle.transcript.specs.Text.{number_of, item_text, line_text, lines_text}

-- what is looked up is what a table has
pub reply_found : (r : Option (Bor Reply)) (o : Option Reply) → option_copied r ≡ o → MatchOption r (o ≡ None) (λ reply. o ≡ Some reply.now)
reply_found None o e = sym e
reply_found (Some reply) o e = sym e

-- a line's text asks for the number of its node alone
item_numbered : (acts : List Act) (table : Table) (f g : NodeId → ℕ) (line : Line) (o : Option NodeId) → ((node : NodeId) → f node ≡ g node)
    → item_text acts table f line o ≡ item_text acts table g line o
item_numbered acts table f g line None h = refl
item_numbered acts table f g line (Some node) h = rw (h node) refl

capped : (c : ℕ) → min (min c u32_end + 1) u32_end ≡ min (c + 1) u32_end
capped c = grind arith

pub line_numbered : (acts : List Act) (table : Table) (numbers : Numbers) (before : List Line) (line : Line) → AreOf numbers before
    → line_text acts table (next_of numbers) line ≡ line_text acts table (number_of before) line
line_numbered acts table numbers before line h =
    item_numbered acts table (next_of numbers) (number_of before) line (actor_of line.work)
    (λ node. ap (λ n. min (n + 1) u32_end) (h node) ∙ capped (count_by (is_for node) (works_of before)))

kept_one : (acts : List Act) (table : Table) (numbers : Numbers) (before rest : List Line) (text new all : List ℕ) (line : Line) → AreOf numbers before
    → text ++ lines_text acts table before (line ∷ rest) ≡ all → new ≡ text ++ line_text acts table (next_of numbers) line
    → new ++ lines_text acts table (before ++ line ∷ []) rest ≡ all
kept_one acts table numbers before rest text new all line h s t =
    ap (λ x. x ++ lines_text acts table (before ++ line ∷ []) rest) (t ∙ ap (λ x. text ++ x) (line_numbered acts table numbers before line h))
    ∙ append_assoc text (line_text acts table (number_of before) line) (lines_text acts table (before ++ line ∷ []) rest)
    ∙ s

pub lines_kept : (acts : List Act) (table replies : Table) (numbers : Numbers) (text new all : List ℕ) (lines : List Line) (i : ℕ) (d line : Line)
    → i < length lines → line ≡ get_or lines i d → replies ≡ table → AreOf numbers (take i lines)
    → text ++ lines_text acts table (take i lines) (drop i lines) ≡ all → new ≡ text ++ line_text acts replies (next_of numbers) line
    → new ++ lines_text acts table (take (i + 1) lines) (drop (i + 1) lines) ≡ all
lines_kept acts table replies numbers text new all lines i d line l e r h s t =
    ap (λ x. new ++ lines_text acts table x (drop (i + 1) lines)) (take_more lines i d l)
    ∙ kept_one acts table numbers (take i lines) (drop (i + 1) lines) text new all (get_or lines i d) h
    (ap (λ x. text ++ lines_text acts table (take i lines) x) (sym (drop_more lines i d l)) ∙ s)
    (t ∙ ap (λ x. text ++ line_text acts x (next_of numbers) line) r ∙ ap (λ x. text ++ line_text acts table (next_of numbers) x) e)

-- ---- numbers

-- one more of a node's lines, or of another's
abbrev one_if : Bool → ℕ
one_if b = if b then 1 else 0

count_more : (node : NodeId) (before : List Line) (line : Line)
    → count_by (is_for node) (works_of (before ++ line ∷ [])) ≡ count_by (is_for node) (works_of before) + one_if (is_for node line.work)
count_more node before line =
    ap (count_by (is_for node)) (map-append (λ (l : Line). l.work) before (line ∷ []))
    ∙ sum_by-append (λ w. one_if (is_for node w)) (works_of before) (line.work ∷ [])
    ∙ ap (λ n. count_by (is_for node) (works_of before) + n) (nothing_more (one_if (is_for node line.work)))
  where
    nothing_more : (n : ℕ) → 0 + n ≡ n
    nothing_more n = omega arith

next_number : (numbers : Numbers) (n node : NodeId) (c : ℕ) → n ≡ node → last_of numbers node ≡ min c u32_end → next_of numbers n ≡ min (c + 1) u32_end
next_number numbers n node c e h = ap (λ x. next_of numbers x) e ∙ ap (λ x. min (x + 1) u32_end) h ∙ capped c

with_item : (numbers : Numbers) (n node : NodeId) (c : ℕ) (t : Bool) → is_eq (node_cmp n node) ≡ t → last_of numbers node ≡ min c u32_end
    → unwrap_or (cond t (Some (next_of numbers n)) (lookup (is_at (node_cmp node)) numbers)) 0 ≡ min (c + one_if t) u32_end
with_item numbers n node c true e h = next_number numbers n node c (same_node_is n node e) h
with_item numbers n node c false e h = h ∙ ap (λ x. min x u32_end) (add_nothing c)
  where
    add_nothing : (c : ℕ) → c ≡ c + 0
    add_nothing c = omega arith

at_actor : (numbers : Numbers) (node : NodeId) (c : ℕ) (o : Option NodeId) → last_of numbers node ≡ min c u32_end
    → last_of (behind_item numbers o) node ≡ min (c + one_if (is_for_actor node o)) u32_end
at_actor numbers node c None h = h ∙ ap (λ x. min x u32_end) (add_nothing c)
  where
    add_nothing : (c : ℕ) → c ≡ c + 0
    add_nothing c = omega arith
at_actor numbers node c (Some n) h =
    ap (λ x. unwrap_or x 0) (lookup-insert_entry node_total node n (next_of numbers n) numbers)
    ∙ ap (λ t. unwrap_or (cond t (Some (next_of numbers n)) (lookup (is_at (node_cmp node)) numbers)) 0) (same_node_swap node n)
    ∙ with_item numbers n node c (is_eq (node_cmp n node)) refl h

pub numbers_kept : (numbers : Numbers) (before : List Line) (line : Line) → AreOf numbers before → AreOf (behind_line numbers line) (before ++ line ∷ [])
numbers_kept numbers before line h node =
    at_actor numbers node (count_by (is_for node) (works_of before)) (actor_of line.work) (h node)
    ∙ ap (λ n. min n u32_end) (sym (count_more node before line))

pub all_numbers_kept : (numbers new : Numbers) (lines : List Line) (i : ℕ) (d line : Line) → i < length lines → line ≡ get_or lines i d
    → AreOf numbers (take i lines) → new ≡ behind_line numbers line → AreOf new (take (i + 1) lines)
all_numbers_kept numbers new lines i d line l f h e node =
    ap (λ x. last_of x node) (e ∙ ap (behind_line numbers) f)
    ∙ numbers_kept numbers (take i lines) (get_or lines i d) h node
    ∙ ap (λ x. min (count_by (is_for node) (works_of x)) u32_end) (sym (take_more lines i d l))
