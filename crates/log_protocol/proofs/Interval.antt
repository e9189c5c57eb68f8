-- Who lacks a fragment at the end of an interval in one generation, unmarked, lacked it all along.
use Rattle.std.proofs.Common.{◌≡◌, arith}
use Rattle.log_protocol.specs.State.{State}
use Rattle.log_protocol.specs.Step.{Steps}
use Rattle.log_protocol.specs.LogLaws.{Reached}
use Rattle.log_protocol.specs.GrowthLaws.{PastStays, LacksBetween}
use Rattle.log_protocol.proofs.Invariant.{Invariant}
use Rattle.log_protocol.proofs.Induction.{always}
use Rattle.log_protocol.proofs.Growth.{run_grows}

pub interval : (w m u : State) → Steps w m → Steps m u → Invariant w → LacksBetween w m u
interval w m u first second i v x same lacks unmarked =
    let a = run_grows w m first i in
    let b = run_grows m u second a.0 in
    let c = a.1.generation v in
    let d = b.1.generation v in
    let still : m.generation v ≡ w.generation v = omega arith in
    (still, λ held. let z = b.1.holds v x held (omega arith) unmarked in omega arith)

pub lacks_between_always : (w m u : State) → Reached w → Steps w m → Steps m u → LacksBetween w m u
lacks_between_always w m u reached first second = interval w m u first second (always w reached)

pub past_stays_always : (w u : State) → Reached w → Steps w u → PastStays w u
past_stays_always w u reached run = let g = (run_grows w u run (always w reached)).1 in record {
  text = λ x b. (g.booked x b, g.text_of x b);
  member_count = g.member_count;
  member_server = g.member_server;
  member_generation = g.member_generation;
  prior = g.prior_of;
  content = g.content_of;
  filed = g.filed;
  dropped = g.dropped;
  generation = g.generation;
  low = g.low;
  incarnation = g.incarnation;
  clean = g.clean;
  head = g.head;
  line = g.line;
}
