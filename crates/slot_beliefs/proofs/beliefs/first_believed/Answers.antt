-- Where the walk meets no client of a block at once, none is believed to hold it.
use Rattle.std.proofs.Common.{◌∙◌, ap, sym, subst, List, Bool}
use Rattle.std.specs.declared.ops.Bound.TheVariants.{Included, Unbounded}
use Rattle.std.specs.List.{filter}
use Rattle.std.specs.BTreeMap.Range.{range_contains}
use Rattle.slot_beliefs.specs.declared.job.Holder.{Holder}
use Rattle.slot_beliefs.specs.Beliefs.{holder_cmp}
use Rattle.slot_beliefs.proofs.Together.{StartsPast, none_of, without_none}
use Rattle.slot_beliefs.proofs.beliefs.first_believed.Goals as goal

pub returns-else-eq-clause-none : goal.returns-else-eq-clause-none
returns-else-eq-clause-none c =
    let es = c.args.beliefs.now.entries in
    let from : Holder → List (Holder × Bool) = λ h. filter (λ e. range_contains holder_cmp (Included h) Unbounded e.0) es in
    let fact = sym c.in-Some.ensures.steps ∙ c.range.ensures.between tt ∙ ap from c.first_holder.ensures in
    without_none c.args.block es (none_of c.args.block es c.range.ensures.ordered (subst (StartsPast c.args.block) fact (sym c.eq.ensures ∙ c.if-eq.false)))

pub returns-in-None-clause-none : goal.returns-in-None-clause-none
returns-in-None-clause-none c =
    let es = c.args.beliefs.now.entries in
    let from : Holder → List (Holder × Bool) = λ h. filter (λ e. range_contains holder_cmp (Included h) Unbounded e.0) es in
    let fact = sym c.in-None.ensures.steps.0 ∙ c.range.ensures.between tt ∙ ap from c.first_holder.ensures in
    without_none c.args.block es (none_of c.args.block es c.range.ensures.ordered (subst (StartsPast c.args.block) fact tt))
