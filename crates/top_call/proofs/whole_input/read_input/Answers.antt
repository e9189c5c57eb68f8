use Rattle.std.proofs.Common.{◌≤◌, ◌<◌, ◌++◌, arith, length, take}
use Rattle.std.proofs.lemmas.List.{length-take}
use Rattle.top_call.specs.Input.{limit}
use Rattle.top_call.proofs.Loops.{consumes_on, within, whole_at_end, whole_at_limit}
use Rattle.top_call.proofs.whole_input.read_input.Goals as goal

pub returns-then-got-eq0-clause-whole : goal.returns-then-got-eq0-clause-whole
returns-then-got-eq0-clause-whole g c =
    let i = c.loop-room.invariant in
    let e = c.as_bytes-in-loop-room.ensures in
    let short : length c.loop-room.text < limit = rw c.as_bytes.ensures at c.loop-room-test.true in
    let wanted = rw e at c.min-wanted.ensures in
    let room : 0 < length c.read.new.into = omega (arith, c.read.auto.into, length-take c.min-wanted.result c.loop-room.room, i.room) in
    whole_at_end _ _ _ _ _ _ i.taken c.in-Ok.ensures.bytes.0 c.in-Ok.ensures.bytes.1 c.if-got-eq0.true room i.bound

pub returns-clause-whole : goal.returns-clause-whole
returns-clause-whole g c =
    let i = c.loop-room.invariant in
    let e = c.as_bytes.ensures in
    let t = c.loop-room-test.false in
    let full : limit ≤ length c.loop-room.text = rw e at t in
    whole_at_limit _ _ _ i.taken i.bound full

pub returns-in-Err-add-clause-taken : goal.returns-in-Err-add-clause-taken
returns-in-Err-add-clause-taken g c =
    let i = c.loop-room.invariant in
    let e = c.as_bytes-in-loop-room.ensures in
    let short : length c.loop-room.text < limit = rw c.as_bytes.ensures at c.loop-room-test.true in
    let wanted = rw e at c.min-wanted.ensures in
    let few = within c.loop-room.text (take c.in-Ok.got c.read.new.into) c.min-wanted.result short wanted
    (grind (arith, c.in-Ok.ensures.bound, c.read.auto.into, length-take c.in-Ok.got c.read.new.into, length-take c.min-wanted.result c.loop-room.room, i.room))
    in (
      c.loop-room.text
          ++ take c.in-Ok.got c.read.new.into,
      few,
      consumes_on _ _ _ c.loop-room.text (take c.in-Ok.got c.read.new.into) i.taken c.in-Ok.ensures.bytes.0,
    )
