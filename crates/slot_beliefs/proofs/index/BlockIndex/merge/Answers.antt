use Rattle.std.proofs.Common.{◌≡◌, ◌<◌, true, false, sym, ap, subst, ◌∙◌, arith}
use Rattle.usage_table.specs.Counts.{count_of, usage_shift}
use Rattle.delta_index.specs.Index.{entry_of}
use Rattle.slot_beliefs.specs.Index.{Indexed, block_index_merge, segment_of, IsCounted}
use Rattle.slot_beliefs.proofs.Counting.{shown, held_counted, kept_indexed, put_indexed, counted_as}
use Rattle.xfs_base.specs.Limits.{u32_end}
use Rattle.slot_beliefs.proofs.index.BlockIndex.merge.Goals as goal

pub invariant_of-self-then-not-branch : goal.invariant_of-self-then-not-branch
invariant_of-self-then-not-branch c =
    let old : c.in_ok-merge.field-0 ≡ false = grind arith in
    let was : Indexed = shown c.self.inside.pages c.self.inside.usage in
    counted_as was c.args.row c.merge.new.self was.usage c.self.invariant
    (kept_indexed was c.args.row c.merge.new.self (sym c.in_ok-merge.ensures.taken ∙ old) c.in_ok-merge.ensures.ok)

pub returns-then-not-branch-clause-ok : goal.returns-then-not-branch-clause-ok
returns-then-not-branch-clause-ok c =
    let old : c.in_ok-merge.field-0 ≡ false = grind arith in
    let was : Indexed = shown c.self.inside.pages c.self.inside.usage in
    subst (λ (i : Indexed). shown c.merge.new.self was.usage ≡ block_index_merge i c.args.row) c.self.view_is
    (kept_indexed was c.args.row c.merge.new.self (sym c.in_ok-merge.ensures.taken ∙ old) c.in_ok-merge.ensures.ok)

pub returns-then-not-branch-clause-counted : goal.returns-then-not-branch-clause-counted
returns-then-not-branch-clause-counted c = (subst IsCounted c.self.view_is c.self.invariant, invariant_of-self-then-not-branch c)

pub shift-shifted-requires-clause-held : goal.shift-shifted-requires-clause-held
shift-shifted-requires-clause-held c = λ x fact.
    held_counted (shown c.self.inside.pages c.self.inside.usage) c.self.invariant c.args.row.0 x
    (sym (ap segment_of c.get-held.ensures) ∙ sym c.segment_of.ensures ∙ fact)

pub shift-shifted-requires-clause-room : goal.shift-shifted-requires-clause-room
shift-shifted-requires-clause-room c = λ x fact apart.
    subst (λ (i : Indexed). count_of i.usage x < u32_end) (sym c.self.view_is) (c.requires x (sym c.segment_of-2.ensures ∙ fact))

pub invariant_of-self-in_default : goal.invariant_of-self-in_default
invariant_of-self-in_default c =
    let newer : c.in_ok-merge.field-0 ≡ true = grind arith in
    let usage = c.self.inside.usage in
    let rows = c.self.inside.pages.rows in
    let was : Indexed = shown c.self.inside.pages usage in
    counted_as was c.args.row c.merge.new.self c.shift-shifted.new.self c.self.invariant
    (put_indexed was c.args.row c.merge.new.self c.shift-shifted.new.self (sym c.in_ok-merge.ensures.taken ∙ newer) c.in_ok-merge.ensures.ok
    (c.in_default.ensures.moved ∙ ap (λ from. usage_shift usage from c.segment_of-2.result) (c.segment_of.ensures ∙ ap segment_of c.get-held.ensures)
    ∙ ap (λ to. usage_shift usage (segment_of (entry_of rows c.args.row.0)) to) c.segment_of-2.ensures))

pub returns-clause-ok : goal.returns-clause-ok
returns-clause-ok c =
    let newer : c.in_ok-merge.field-0 ≡ true = grind arith in
    let usage = c.self.inside.usage in
    let rows = c.self.inside.pages.rows in
    let was : Indexed = shown c.self.inside.pages usage in
    subst (λ (i : Indexed). shown c.merge.new.self c.shift-shifted.new.self ≡ block_index_merge i c.args.row) c.self.view_is
    (put_indexed was c.args.row c.merge.new.self c.shift-shifted.new.self (sym c.in_ok-merge.ensures.taken ∙ newer) c.in_ok-merge.ensures.ok
    (c.in_default.ensures.moved ∙ ap (λ from. usage_shift usage from c.segment_of-2.result) (c.segment_of.ensures ∙ ap segment_of c.get-held.ensures)
    ∙ ap (λ to. usage_shift usage (segment_of (entry_of rows c.args.row.0)) to) c.segment_of-2.ensures))

pub returns-clause-counted : goal.returns-clause-counted
returns-clause-counted c = (subst IsCounted c.self.view_is c.self.invariant, invariant_of-self-in_default c)
