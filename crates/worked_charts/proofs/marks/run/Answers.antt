use Rattle.std.proofs.Common.{false}
use Rattle.top_call.proofs.Setups.{script_setup}
use Rattle.worked_charts.proofs.marks.run.Goals as goal

pub played-requires : goal.played-requires
played-requires c = script_setup c.in-Ok.script (false, c.args.input.now, c.in-Ok.ensures.found)
