-- That two ends are those of one ring has at most one proof.
use Rattle.std.proofs.Props.{props}
use Rattle.rtrb.specs.Ring.{IsPair}
use Rattle.live_links.specs.Ends.{In, Out}

pub pair_prop : (o : Out) (c : In) → IsProp (IsPair o c)
pair_prop o c = hlevel props
