use Rattle.std.proofs.Common.{◌≡◌, ◌<◌, suc, sym, ap, ◌∙◌, arith}
use Rattle.world_base.specs.Schedule.{left}
use Rattle.play.specs.Manner.{what_next, playing_go}
use Rattle.play.proofs.Manners.{came_falls, came_rest, done_is_all}
use Rattle.play.proofs.playing.go.Goals as goal

pub loop-alloc-preserved : goal.loop-alloc-preserved
loop-alloc-preserved g c =
    let m = g.P.Playing.manner in
    let p = c.loop-alloc.play in
    let as_many = ap m.unanswered c.what_next-next.ensures.state ∙ g.met.P.Playing.lawful.as_many p (what_next m p).state in (
      came_rest m g.met.P.Playing.lawful p c.what_next-next.new.self c.come.new.play c.what_next-next.result c.what_next-next.ensures.state
          c.what_next-next.ensures.next c.in_ok-come.ensures.exact (sym c.is_done.ensures ∙ c.if-is_done.false)
          ∙ c.loop-alloc.invariant.0,
      omega (arith, as_many, c.in_ok-come.ensures.no_more, c.loop-alloc.invariant.1),
    )

pub loop-alloc-smaller : goal.loop-alloc-smaller
loop-alloc-smaller g c =
    let m = g.P.Playing.manner in
    let p = c.loop-alloc.play in
    let falls : suc (left (m.schedule c.come.new.play)) ≡ left (m.schedule p) =
    came_falls m g.met.P.Playing.lawful p c.what_next-next.new.self c.come.new.play c.what_next-next.result c.what_next-next.ensures.state
    c.what_next-next.ensures.next c.in_ok-come.ensures.exact (sym c.is_done.ensures ∙ c.if-is_done.false) in
    let less : left (m.schedule c.come.new.play) < left (m.schedule p) = omega (arith, falls) in
    less

pub returns-then-is_done : goal.returns-then-is_done
unfolding playing_go
returns-then-is_done g c =
    let m = g.P.Playing.manner in
    let p = c.loop-alloc.play in
    let as_many = ap m.unanswered c.what_next-next.ensures.state ∙ g.met.P.Playing.lawful.as_many p (what_next m p).state in
    record {
      exact =
          done_is_all m g.met.P.Playing.lawful p c.what_next-next.new.self c.what_next-next.result c.what_next-next.ensures.state c.what_next-next.ensures.next
          (sym c.is_done.ensures ∙ c.if-is_done.true)
          ∙ c.loop-alloc.invariant.0;
      no_more = omega (arith, as_many, c.loop-alloc.invariant.1);
    }
