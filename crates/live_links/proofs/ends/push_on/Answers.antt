use Rattle.std.proofs.Common.{◌≡◌}
use Rattle.rtrb.specs.declared.errors.PushError.TheVariants.{Full}
use Rattle.live_links.proofs.Pushing.{pushed_or_full, room_left}
use Rattle.live_links.proofs.ends.push_on.Goals as goal

pub returns-clause-pushed : goal.returns-clause-pushed
returns-clause-pushed c =
    pushed_or_full (λ e. e ≡ Full c.args.letter) c.args.end.now c.push.new.self c.args.letter c.push.result c.push.ensures.ok c.push.ensures.full c.push.ensures.succeeds

pub returns-clause-room : goal.returns-clause-room
returns-clause-room c =
    room_left (λ e. e ≡ Full c.args.letter) c.args.end.now c.push.new.self c.args.letter c.push.result c.push.ensures.ok c.push.ensures.succeeds
