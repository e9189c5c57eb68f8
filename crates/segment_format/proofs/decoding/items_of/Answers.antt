use Rattle.std.proofs.Common.{◌≡◌, ◌+◌, ap, inr, sym, false, true, ◌∙◌}
use Rattle.std.proofs.lemmas.Result.{err_from_is_err_and}
use Rattle.std.specs.Prelude.{is_none}
use Rattle.segment_format.specs.ReadingItems.{items_at}
use Rattle.segment_format.specs.Rule.{nothing_seen}
use Rattle.segment_format.proofs.Loops.{items_fail, items_go_on, items_end, items_miss, after_counts, is_none_from_some}
use Rattle.segment_format.proofs.decoding.items_of.Goals as goal

pub returns-in_err-item : goal.returns-in_err-item
returns-in_err-item c =
    let p = err_from_is_err_and c.from_residual.result c.from_residual.ensures.1 in
    rw (p.1, p.2)
    (items_fail c.args.version c.in_err-item.field-0.0 c.loop.items c.loop.seen c.args.count c.loop.counter c.loop.reader
    (items_at c.args.version nothing_seen c.args.count c.args.reader.now) c.loop-test.true c.in_err-item.ensures c.loop.invariant.whole)

pub loop-preserved : goal.loop-preserved
loop-preserved c = record {
  whole = rw (c.in_ok-push.ensures.ok, c.with_item-seen.ensures)
      (items_go_on c.args.version c.loop.items c.loop.seen c.args.count c.loop.counter c.loop.reader c.item_of.new.reader c.in_ok-item.item
      (items_at c.args.version nothing_seen c.args.count c.args.reader.now) c.loop-test.true c.in_ok-item.ensures c.loop.invariant.whole);
  counted = rw c.with_item-seen.ensures (after_counts c.in_ok-item.item c.loop.seen ∙ ap (λ n. n + 1) c.loop.invariant.counted);
}

pub returns-then-is_some : goal.returns-then-is_some
returns-then-is_some c =
    let none : is_none c.loop.seen.awaited ≡ false = is_none_from_some c.loop.seen.awaited true (sym c.is_some.ensures ∙ c.if-is_some.true) in
    let end = items_miss c.args.version c.loop.items c.loop.seen c.args.count c.loop.counter c.loop.reader
    (items_at c.args.version nothing_seen c.args.count c.args.reader.now) c.loop-test.false none c.loop.invariant.whole in
    rw c.at.ensures (inr end)

pub returns : goal.returns
returns c =
    let none : is_none c.loop.seen.awaited ≡ true = is_none_from_some c.loop.seen.awaited false (sym c.is_some.ensures ∙ c.if-is_some.false) in
    items_end c.args.version c.loop.items c.loop.seen c.args.count c.loop.counter c.loop.reader
    (items_at c.args.version nothing_seen c.args.count c.args.reader.now) c.loop-test.false none c.loop.invariant.whole
