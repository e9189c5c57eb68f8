use Rattle.top_call.proofs.Claims.{is_played}
use Rattle.top_call.proofs.Setups.{script_setup}
use Rattle.top_call.proofs.one_thread.played.Goals as goal

pub play-requires : goal.play-requires
play-requires g c = script_setup c.args.script.now c.requires

pub returns-clause-run : goal.returns-clause-run
returns-clause-run g c =
    let e = c.in_ok-estate.ensures in
    is_played g.N.Actor.transition g.N.Member.first c.args.script.now c.in_ok-estate.estate c.requires
    (script_setup c.args.script.now c.requires) e.exact e.one_run e.in_order e.complete
