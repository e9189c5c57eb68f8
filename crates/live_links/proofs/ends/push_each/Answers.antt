use Rattle.std.proofs.Common.{◌≡◌, ◌∙◌, ap, sym, subst, [], ◌∷◌, ◌++◌, append-nil, append_assoc}
use Rattle.std.specs.Prelude.{List as Seq}
use Rattle.std.specs.Vec.Iter.{into_iter_items}
use Rattle.std.proofs.lemmas.List.{nil_from_length}
use Rattle.live_links.specs.declared.letter.Letter.{Letter}
use Rattle.live_links.specs.Ends.{Sends}
use Rattle.live_links.proofs.Pushing.{sends_none, sends_then}
use Rattle.live_links.proofs.ends.push_each.Goals as goal

pub loop-letter-init : goal.loop-letter-init
loop-letter-init c = ([], c.into_iter-letter-iterator.ensures.into_iter_gives.0 ∙ c.into_vec-letter-items.ensures, sends_none c.args.cluster c.args.ends.now.items)

pub loop-letter-preserved : goal.loop-letter-preserved
loop-letter-preserved c =
    let i = c.loop-letter.invariant in
    let x = c.in-Some.letter in
    let rest = into_iter_items c.next.new.self in (
      i.0 ++ x ∷ [],
      append_assoc i.0 (x ∷ []) rest ∙ ap (λ (xs : Seq Letter). i.0 ++ xs) (sym c.in-Some.ensures.steps.0) ∙ i.1,
      sends_then c.args.cluster i.0 (x ∷ []) c.args.ends.now.items c.loop-letter.ends.items c.push_to.new.ends.items i.2 c.push_to.ensures,
    )

pub returns : goal.returns
returns c =
    let i = c.loop-letter.invariant in
    let it = c.loop-letter.letter-iterator in
    let none : into_iter_items it ≡ [] = nil_from_length (into_iter_items it) (sym it.rest.ok.0 ∙ c.in-None.ensures.steps.0) in
    let all : i.0 ≡ c.args.letters = sym (append-nil i.0) ∙ ap (λ (xs : Seq Letter). i.0 ++ xs) (sym none) ∙ i.1 in
    subst (λ (xs : Seq Letter). Sends c.args.cluster c.args.ends.now.items xs c.loop-letter.ends.items) all i.2
