-- The first crash that no later restart follows, from the last item to the first.
use Rattle.std.proofs.Common.{◌≡◌, ℕ, Bool, true, false, not, ◌||◌, List, [], ◌∷◌, ◌++◌, refl, sym, ◌∙◌, ap, arith, Option, Some, None, if◌then◌else◌}
use Rattle.std.specs.List.{list_any}
use Rattle.std.proofs.lemmas.List.Folds.{list_any-append}
use Rattle.xfs_base.specs.declared.node.NodeId.{NodeId}
use Rattle.xfs_base.proofs.NodeOrder.{same_node_is}
use Rattle.xfs_base.specs.Nodes.{same_node}
use Rattle.version_model.specs.declared.work.Work.{Work}
use Rattle.version_model.specs.declared.work.Work.TheVariants as works
use Rattle.script_text.specs.declared.script.Line.{Line}
use Rattle.script_text.specs.Script.{restarts, is_unclosed, unclosed}
use Rattle.script_text.specs.Reading.{with_node, after_work, crash_before, found_before}

or_true : (a : Bool) → (a || true) ≡ true
or_true true = refl
or_true false = refl

or_swap : (a b : Bool) → (a || b) ≡ (b || a)
or_swap true true = refl
or_swap true false = refl
or_swap false true = refl
or_swap false false = refl

or_false : (a : Bool) → (a || false) ≡ a
or_false true = refl
or_false false = refl

-- a node that is one of these, by another name of it
any_same : (ns : List NodeId) (m node : NodeId) → list_any (λ n. same_node n m) ns ≡ true → same_node m node ≡ true → list_any (λ n. same_node n node) ns ≡ true
any_same [] m node e f = absurd (grind (arith, e))
any_same (n ∷ ns) m node e f = at_test (λ h. any_same ns m node h f) (same_node n m) refl e
  where
    at_test : (list_any (λ x. same_node x m) ns ≡ true → list_any (λ x. same_node x node) ns ≡ true) → (t : Bool) → same_node n m ≡ t
        → (t || list_any (λ x. same_node x m) ns) ≡ true → (same_node n node || list_any (λ x. same_node x node) ns) ≡ true
    at_test i true g h =
        let k : same_node n node ≡ true = ap (λ x. same_node x node) (same_node_is n m g) ∙ f in
        rw k refl
    at_test i false g h = ap (λ b. same_node n node || b) (i h) ∙ or_true (same_node n node)

with_any : (ns : List NodeId) (m node : NodeId) → list_any (λ n. same_node n node) (with_node ns m) ≡ (same_node m node || list_any (λ n. same_node n node) ns)
with_any ns m node = at_test (list_any (λ n. same_node n m) ns) refl
  where
    absorbed : (t : Bool) → same_node m node ≡ t → list_any (λ n. same_node n m) ns ≡ true
        → list_any (λ n. same_node n node) ns ≡ (t || list_any (λ n. same_node n node) ns)
    absorbed true e f = any_same ns m node f e
    absorbed false e f = refl

    at_test : (t : Bool) → list_any (λ n. same_node n m) ns ≡ t
        → list_any (λ n. same_node n node) (if t then ns else ns ++ m ∷ []) ≡ (same_node m node || list_any (λ n. same_node n node) ns)
    at_test true e = absorbed (same_node m node) refl e
    at_test false e =
        list_any-append (λ n. same_node n node) ns (m ∷ [])
        ∙ ap (λ b. list_any (λ n. same_node n node) ns || b) (or_false (same_node m node))
        ∙ or_swap (list_any (λ n. same_node n node) ns) (same_node m node)

-- what is kept from item to item
pub record Kept (items : List Line) (restarted : List NodeId) (found : Option ℕ) : Type 0 where
  pub nodes : (node : NodeId) → list_any (λ n. same_node n node) restarted ≡ list_any (λ l. restarts node l.work) items
  pub first : found ≡ unclosed items

pub none_kept : (items : List Line) → items ≡ [] → Kept items [] None
none_kept items e = record { nodes = λ node. ap (λ xs. list_any (λ (l : Line). restarts node l.work) xs) (sym e); first = ap unclosed (sym e) }

nodes_after : (w : Work) (ns : List NodeId) (node : NodeId)
    → list_any (λ n. same_node n node) (after_work ns w) ≡ (restarts node w || list_any (λ n. same_node n node) ns)
nodes_after (works.Restart m) ns node = with_any ns m node
nodes_after (works.Bput a b c) ns node = refl
nodes_after (works.Bget a b) ns node = refl
nodes_after (works.Sync a) ns node = refl
nodes_after (works.File a b) ns node = refl
nodes_after (works.Crash a) ns node = refl
nodes_after (works.Checkpoint a) ns node = refl
nodes_after (works.Lose a) ns node = refl
nodes_after (works.Rebuild a) ns node = refl
nodes_after (works.Move a b) ns node = refl
nodes_after (works.Clean a) ns node = refl
nodes_after (works.NetLose a) ns node = refl
nodes_after (works.NetAgain a) ns node = refl
nodes_after (works.NetMix a) ns node = refl
nodes_after works.NetHold ns node = refl
nodes_after works.NetGo ns node = refl
nodes_after (works.NetStep a) ns node = refl
nodes_after (works.BoardStop a) ns node = refl
nodes_after (works.BoardStart a) ns node = refl
nodes_after (works.ServerStop a b) ns node = refl
nodes_after (works.ServerStart a) ns node = refl

crash_kept : (w : Work) (number : ℕ) (items : List Line) (ns : List NodeId) (found : Option ℕ) → Kept items ns found
    → crash_before w number ns found ≡ (if is_unclosed w items then Some number else unclosed items)
crash_kept (works.Crash m) number items ns found k =
    let e : list_any (λ n. same_node n m) ns ≡ list_any (λ l. restarts m l.work) items = k.nodes m in
    ap (λ b. if b then found else Some number) e ∙ turned (list_any (λ l. restarts m l.work) items)
  where
    turned : (b : Bool) → (if b then found else Some number) ≡ (if not b then Some number else unclosed items)
    turned true = k.first
    turned false = refl
crash_kept (works.Restart m) number items ns found k = k.first
crash_kept (works.Bput a b c) number items ns found k = k.first
crash_kept (works.Bget a b) number items ns found k = k.first
crash_kept (works.Sync a) number items ns found k = k.first
crash_kept (works.File a b) number items ns found k = k.first
crash_kept (works.Checkpoint a) number items ns found k = k.first
crash_kept (works.Lose a) number items ns found k = k.first
crash_kept (works.Rebuild a) number items ns found k = k.first
crash_kept (works.Move a b) number items ns found k = k.first
crash_kept (works.Clean a) number items ns found k = k.first
crash_kept (works.NetLose a) number items ns found k = k.first
crash_kept (works.NetAgain a) number items ns found k = k.first
crash_kept (works.NetMix a) number items ns found k = k.first
crash_kept works.NetHold number items ns found k = k.first
crash_kept works.NetGo number items ns found k = k.first
crash_kept (works.NetStep a) number items ns found k = k.first
crash_kept (works.BoardStop a) number items ns found k = k.first
crash_kept (works.BoardStart a) number items ns found k = k.first
crash_kept (works.ServerStop a b) number items ns found k = k.first
crash_kept (works.ServerStart a) number items ns found k = k.first

pub one_kept : (l : Line) (items : List Line) (ns : List NodeId) (found : Option ℕ) → Kept items ns found
    → Kept (l ∷ items) (after_work ns l.work) (found_before l ns found)
one_kept l items ns found k = record {
  nodes = λ node. nodes_after l.work ns node ∙ ap (λ b. restarts node l.work || b) (k.nodes node);
  first = crash_kept l.work l.number items ns found k;
}
