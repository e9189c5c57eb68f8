use Rattle.std.proofs.Common.{subst}
use Rattle.live_run.specs.Live.{IsLive}
use Rattle.mounts.specs.Mounted.{IsMounted}
use Rattle.top_call.proofs.Claims.{full_is}
use Rattle.top_call.proofs.Named.{script_names}
use Rattle.top_call.proofs.Setups.{script_setup}
use Rattle.top_call.proofs.mounting.mounted_run.Goals as goal

pub mounted-requires-clause-setup : goal.mounted-requires-clause-setup
mounted-requires-clause-setup g c κs within = script_setup c.args.script.now c.requires

pub mounted-requires-clause-names : goal.mounted-requires-clause-names
mounted-requires-clause-names g c κs within = script_names c.args.script.now c.requires

pub returns-clause-run : goal.returns-clause-run
returns-clause-run g c =
    let made = c.in_ok-made.made in
    let live = c.in_ok-made.ensures.run in
    subst (λ b. IsLive g.N.Actor.transition g.N.Member.first b made.estate)
    (full_is g.N.Actor.transition g.N.Member.first made.full c.open_items.result c.agrees.result made.estate c.agrees.ensures c.if-not-agrees.false c.open_items.ensures live) live

pub returns-clause-mounted : goal.returns-clause-mounted
returns-clause-mounted g c =
    let made = c.in_ok-made.made in
    let live = c.in_ok-made.ensures.run in
    subst (λ b. IsMounted g.N.Actor.transition g.N.Member.first b made.estate made.calls made.replies)
    (full_is g.N.Actor.transition g.N.Member.first made.full c.open_items.result c.agrees.result made.estate c.agrees.ensures c.if-not-agrees.false c.open_items.ensures live)
    c.in_ok-made.ensures.mounted
