use Rattle.std.proofs.Common.{arith}
use Rattle.log_scan.proofs.Loops.{least_bound}
use Rattle.log_scan.proofs.horizon.least_horizon.Goals as goal

pub loop-slot-init : goal.loop-slot-init
loop-slot-init c = (let all = least_bound c.args.log.0 c.args.slots.now in record { within = omega arith; same = omega (arith, all) })
