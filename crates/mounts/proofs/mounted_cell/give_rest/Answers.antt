use Rattle.std.proofs.Common.{◌∙◌, ap, refl}
use Rattle.std.proofs.lemmas.List.{take_all}
use Rattle.mounts.specs.Replies.{replies_of}
use Rattle.mounts.proofs.Handing.{given_more}
use Rattle.mounts.proofs.Joined.{producer_then, same_producer}
use Rattle.mounts.proofs.mounted_cell.give_rest.Goals as goal

pub loop-place-init : goal.loop-place-init
loop-place-init c = record { calls = refl; ring = same_producer c.args.port.now.replies; given = c.requires.before }

pub loop-place-preserved : goal.loop-place-preserved
loop-place-preserved c =
    let i = c.loop-place.invariant in
    record {
      calls = c.give_one.ensures.calls ∙ i.calls;
      ring = producer_then c.args.port.now.replies c.loop-place.port.replies c.give_one.new.port.replies i.ring c.give_one.ensures.ring;
      given = given_more c.args.answered.now c.loop-place.place c.index-answered-place.result _ _ c.loop-place-test.true c.index-answered-place.is i.given c.in_ok-give_one.ensures.given;
    }

pub returns-clause-given : goal.returns-clause-given
returns-clause-given c = c.loop-place.invariant.given ∙ ap replies_of (take_all c.loop-place.place c.args.answered.now c.loop-place-test.false)
