use Rattle.std.proofs.Common.{◌+◌, sym, ap, subst, ◌∙◌}
use Rattle.usage_table.specs.Counts.{IsTable, count_of, blocks_at, usage_give, usage_take}
use Rattle.usage_table.proofs.Table.{table_with_one_more, table_with_one_less, count_of-usage_shift, one_segment, usage_shift_same, usage_shift_apart}
use Rattle.usage_table.proofs.usage.Usage.shift.Goals as goal

pub returns-then-is_same-clause-moved : goal.returns-then-is_same-clause-moved
returns-then-is_same-clause-moved c =
    sym (usage_shift_same c.args.self.now c.args.from c.args.to (sym c.is_same.ensures ∙ c.if-is_same.true))

pub returns-then-is_same-clause-counted : goal.returns-then-is_same-clause-counted
returns-then-is_same-clause-counted c = λ seg.
    ap (λ end. count_of c.args.self.now seg + blocks_at end seg) (one_segment c.args.from c.args.to (sym c.is_same.ensures ∙ c.if-is_same.true))

pub invariant_of-self-2 : goal.invariant_of-self-2
invariant_of-self-2 c = rw (c.take.ensures, c.in_ok-give.ensures.ok) (table_with_one_less _ c.args.from (table_with_one_more _ c.args.to c.self.invariant))

pub returns-clause-moved : goal.returns-clause-moved
returns-clause-moved c =
    c.take.ensures ∙ ap (λ counts. usage_take counts c.args.from) c.in_ok-give.ensures.ok
    ∙ ap (λ counts. usage_take (usage_give counts c.args.to) c.args.from) c.self.view_is
    ∙ sym (usage_shift_apart c.args.self.now c.args.from c.args.to (sym c.is_same.ensures ∙ c.if-is_same.false))

pub returns-clause-counted : goal.returns-clause-counted
returns-clause-counted c = λ seg.
    let table : IsTable c.args.self.now = subst IsTable c.self.view_is c.self.invariant in
    ap (λ counts. count_of counts seg + blocks_at c.args.from seg) (returns-clause-moved c)
    ∙ count_of-usage_shift c.args.self.now c.args.from c.args.to seg table c.requires.held
