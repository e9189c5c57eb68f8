use Rattle.std.proofs.Common.{◌≡◌, true, false, cond, List, None, sym, ap, subst, ◌∙◌}
use Rattle.std.specs.Prelude.{not, is_some}
use Rattle.std.specs.Map.{lookup, values_of}
use Rattle.std.specs.BTreeMap.{is_at}
use Rattle.xfs_base.specs.declared.fragment.Fragment.{Fragment}
use Rattle.xfs_base.specs.declared.segment.SegName.{SegName}
use Rattle.xfs_base.specs.Segments.{seg_cmp}
use Rattle.fragment_store.specs.ShelfState.{ShelfState, IsShelf, held_at, is_held, is_marked}
use Rattle.fragment_store.specs.Calls.{with_fragment, shelf_store}
use Rattle.fragment_store.proofs.Entries.{none_held, lookup-named, held-with, IsShelf-with}
use Rattle.fragment_store.proofs.Histories.{with_away}
use Rattle.fragment_store.proofs.shelf.Shelf.keep.Goals as goal

pub returns-then-contains_key-clause-new : goal.returns-then-contains_key-clause-new
returns-then-contains_key-clause-new c =
    let name = c.args.fragment.meta.name in
    let here : is_held c.args.self.now name ≡ true =
    ap (λ s. is_held s name) (sym c.self.view_is) ∙ ap is_some (sym (lookup-named c.self.inside.held.entries name c.self.invariant.named))
    ∙ sym c.contains_key.ensures ∙ c.if-contains_key.true
    in
    ap not (sym here)

pub returns-then-contains_key-clause-ok : goal.returns-then-contains_key-clause-ok
returns-then-contains_key-clause-ok c =
    let name = c.args.fragment.meta.name in
    let here : is_held c.args.self.now name ≡ true =
    ap (λ s. is_held s name) (sym c.self.view_is) ∙ ap is_some (sym (lookup-named c.self.inside.held.entries name c.self.invariant.named))
    ∙ sym c.contains_key.ensures ∙ c.if-contains_key.true
    in
    let more : ShelfState = record c.args.self.now { held = with_fragment c.args.fragment c.args.self.now.held } in
    ap (λ b. cond b c.args.self.now more) (sym here)

pub invariant_of-self-2 : goal.invariant_of-self-2
invariant_of-self-2 c =
    let none : lookup (is_at (seg_cmp c.args.fragment.meta.name)) c.self.inside.held.entries ≡ None =
    none_held _ (sym c.contains_key.ensures ∙ c.if-contains_key.false) in
    let unheld : held_at (values_of c.self.inside.held.entries) c.args.fragment.meta.name ≡ None =
    sym (lookup-named c.self.inside.held.entries c.args.fragment.meta.name c.self.invariant.named) ∙ none in
    let unmarked : is_marked c.self.inside.marks.keys c.args.fragment.meta.name ≡ false =
    ap (λ s. is_marked s.marks c.args.fragment.meta.name) c.self.view_is ∙ c.requires in
    let away : (name : SegName) → is_marked c.self.inside.marks.keys name ≡ true
    → held_at (with_fragment c.args.fragment (values_of c.self.inside.held.entries)) name ≡ None =
    with_away c.args.fragment (values_of c.self.inside.held.entries) c.self.inside.marks.keys unheld unmarked c.self.invariant.away in
    subst (λ es. IsShelf es c.self.inside.marks.keys) (sym c.in_ok-insert.ensures.entries)
    (IsShelf-with c.self.inside.held.entries c.self.inside.marks.keys c.self.invariant c.args.fragment none away)

pub returns-clause-new : goal.returns-clause-new
returns-clause-new c =
    let name = c.args.fragment.meta.name in
    let absent : is_held c.args.self.now name ≡ false =
    ap (λ s. is_held s name) (sym c.self.view_is) ∙ ap is_some (sym (lookup-named c.self.inside.held.entries name c.self.invariant.named))
    ∙ sym c.contains_key.ensures ∙ c.if-contains_key.false
    in
    ap not (sym absent)

pub returns-clause-ok : goal.returns-clause-ok
returns-clause-ok c =
    let name = c.args.fragment.meta.name in
    let es = c.self.inside.held.entries in
    let none : lookup (is_at (seg_cmp name)) es ≡ None = none_held _ (sym c.contains_key.ensures ∙ c.if-contains_key.false) in
    let shelf : List Fragment → ShelfState =
    λ held. record { generation = c.self.inside.generation; held = held; fences = c.self.inside.fences.entries; marks = c.self.inside.marks.keys } in
    let held : values_of c.insert.new.self.entries ≡ with_fragment c.args.fragment (values_of es) =
    ap values_of c.in_ok-insert.ensures.entries ∙ held-with es c.self.inside.marks.keys c.self.invariant c.args.fragment none in
    let absent : is_held (shelf (values_of es)) name ≡ false =
    ap is_some (sym (lookup-named es name c.self.invariant.named)) ∙ sym c.contains_key.ensures ∙ c.if-contains_key.false in
    ap shelf held
    ∙ ap (λ b. cond b (shelf (values_of es)) (shelf (with_fragment c.args.fragment (values_of es)))) (sym absent)
    ∙ ap (λ s. shelf_store s c.args.fragment) c.self.view_is
