use Rattle.std.proofs.Common.{subst}
use Rattle.live_run.specs.Live.{IsLive}
use Rattle.top_call.proofs.Claims.{full_is}
use Rattle.top_call.proofs.Named.{script_names}
use Rattle.top_call.proofs.Setups.{script_setup}
use Rattle.top_call.proofs.many_threads.lived.Goals as goal

pub live-requires-clause-setup : goal.live-requires-clause-setup
live-requires-clause-setup g c κs within = script_setup c.args.script.now c.requires

pub live-requires-clause-names : goal.live-requires-clause-names
live-requires-clause-names g c κs within = script_names c.args.script.now c.requires

pub returns-clause-run : goal.returns-clause-run
returns-clause-run g c =
    let e = c.in_ok-estate.estate in
    let live = c.in_ok-estate.ensures.run in
    subst (λ b. IsLive g.N.Actor.transition g.N.Member.first b e)
    (full_is g.N.Actor.transition g.N.Member.first c.in_ok-estate.full c.open_items.result c.agrees.result e c.agrees.ensures c.if-not-agrees.false c.open_items.ensures live) live
