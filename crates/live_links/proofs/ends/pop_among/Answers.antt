use Rattle.std.proofs.Common.{refl, ◌<◌, length, arith}
use Rattle.std.proofs.lemmas.Option.{slice_get_read}
use Rattle.live_links.proofs.Popping.{still_none, still_set, took_set}
use Rattle.live_links.proofs.ends.pop_among.Goals as goal

pub loop-place-init : goal.loop-place-init
loop-place-init c = still_none c.args.ends.now.items

pub returns-in-Ok : goal.returns-in-Ok
returns-in-Ok c =
    let i = c.loop-place.place in
    let mid = c.loop-place.ends.items in
    let count = c.loop-place.invariant.0 in
    let upto = c.requires in
    let test = c.loop-place-test.true in
    let within : i < length mid = omega arith in
    let x = c.index_mut.result.now in
    took_set c.args.ends.now.items mid i x c.pop.new.self c.in-Ok.letter c.loop-place.invariant (slice_get_read mid (length mid) i x refl within c.index_mut.ensures.value) c.in-Ok.ensures.ring
    c.in-Ok.ensures.ok.0

pub loop-place-preserved : goal.loop-place-preserved
loop-place-preserved c =
    let i = c.loop-place.place in
    let mid = c.loop-place.ends.items in
    let count = c.loop-place.invariant.0 in
    let upto = c.requires in
    let test = c.loop-place-test.true in
    let within : i < length mid = omega arith in
    let x = c.index_mut.result.now in
    still_set c.args.ends.now.items mid i x c.pop.new.self c.loop-place.invariant (slice_get_read mid (length mid) i x refl within c.index_mut.ensures.value)
    (c.in-Err.ensures.ring, c.in-Err.ensures.empty.0)
