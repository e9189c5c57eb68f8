use Rattle.std.proofs.Common.{◌≡◌, refl, length, Some, arith}
use Rattle.std.specs.Prelude.{slice_get}
use Rattle.std.proofs.lemmas.Option.{slice_get_read}
use Rattle.live_links.proofs.RingRows.{row_made, row_more, row_none}
use Rattle.live_links.proofs.making.link_row.Goals as goal

pub loop-to-init : goal.loop-to-init
loop-to-init c = row_none c.args.ins.now.items c.none-row.result c.none-row.ensures

pub loop-to-preserved : goal.loop-to-preserved
loop-to-preserved c =
    let i = c.loop-to.invariant in
    let now = c.loop-to.ins.items in
    let count = i.count in
    let known = c.args.ins.now.ok.0 in
    let end = c.len-to-end.ensures in
    let test = c.loop-to-test.true in
    let x = c.index_mut.result.now in
    let at : slice_get now c.loop-to.to ≡ Some x = slice_get_read now (length now) c.loop-to.to x refl (omega arith) c.index_mut.ensures.value in
    row_more c.args.ins.now.items now c.loop-to.row c.add.new.self c.loop-to.to x c.add-in-loop-to.new.self c.in_ok-out.out c.in_ok-out.end i at c.in_ok-out.ensures.pair
    c.in_ok-out.ensures.producer.0 c.in_ok-add.ensures c.in_ok-add-2.ensures

pub returns : goal.returns
returns c =
    let known = c.args.ins.now.ok.0 in
    let end = c.len-to-end.ensures in
    let test = c.loop-to-test.false in
    let most = c.loop-to.auto.to-end in
    row_made c.args.ins.now.items c.loop-to.ins.items c.loop-to.row c.loop-to.to c.loop-to.invariant (omega arith)
