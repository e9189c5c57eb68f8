-- The walk from the first of all clients of a block on lists the others.
use Rattle.std.proofs.Common.{◌∙◌, ap, sym, subst, ◌++◌, List, ℕ, Bool}
use Rattle.std.specs.declared.ops.Bound.TheVariants.{Included, Unbounded}
use Rattle.std.specs.List.{filter}
use Rattle.std.specs.BTreeMap.Range.{range_contains}
use Rattle.slot_beliefs.specs.declared.job.Holder.{Holder}
use Rattle.slot_beliefs.specs.Beliefs.{holder_cmp}
use Rattle.slot_beliefs.proofs.Together.{StartsPast, listed, listed_is, listed_more, listed_all, another}
use Rattle.slot_beliefs.proofs.beliefs.add_others.Goals as goal

pub loop-holder-init : goal.loop-holder-init
loop-holder-init c =
    let es = c.args.beliefs.now.entries in
    let walk : List (Holder × Bool) → List ℕ = λ xs. listed xs c.args.block c.args.client c.args.owners in
    let from : Holder → List (Holder × Bool) = λ h. filter (λ e. range_contains holder_cmp (Included h) Unbounded e.0) es in
    ap (λ xs. c.args.clients.now ++ xs)
    (ap walk (c.into_iter-holder-iterator.ensures.into_iter_gives ∙ c.range-holder-items.ensures.between tt ∙ ap from c.first_holder.ensures)
    ∙ listed_is c.args.block c.args.client c.args.owners es c.range-holder-items.ensures.ordered)

pub loop-holder-preserved : goal.loop-holder-preserved
loop-holder-preserved c =
    let rest : List (Holder × Bool) = c.next.new.self in
    let clients = c.loop-holder.clients in
    ap (λ cs. cs ++ listed rest c.args.block c.args.client c.args.owners) c.in_ok-add_other.ensures
    ∙ listed_more clients (c.in-Some.holder.now, c.in-Some.owns.now) rest c.args.block c.args.client c.args.owners (sym c.ne.ensures ∙ c.if-ne.false)
    ∙ ap (λ xs. clients ++ listed xs c.args.block c.args.client c.args.owners) (sym c.in-Some.ensures.steps)
    ∙ c.loop-holder.invariant

pub returns-then-ne : goal.returns-then-ne
returns-then-ne c =
    listed_all c.loop-holder.clients c.loop-holder.holder-iterator c.args.block c.args.client c.args.owners
    (subst (StartsPast c.args.block) (sym c.in-Some.ensures.steps) (another _ (sym c.ne.ensures ∙ c.if-ne.true)))
    ∙ c.loop-holder.invariant

pub returns-in-None : goal.returns-in-None
returns-in-None c =
    listed_all c.loop-holder.clients c.loop-holder.holder-iterator c.args.block c.args.client c.args.owners
    (subst (StartsPast c.args.block) (sym c.in-None.ensures.steps.0) tt)
    ∙ c.loop-holder.invariant
