use Rattle.std.proofs.Common.{◌≡◌, ◌++◌, drop}
use Rattle.xfs_base.specs.Steps.{steps}
use Rattle.cleaner_serving.specs.EmptyingEvents.{hear_slot}
use Rattle.cleaner_serving.proofs.emptying.Emptying.hear_slots.Given as goal

-- the slots so far and those to come are all
abbrev pub invariant-loop-news : goal.invariant-loop-news
invariant-loop-news l =
    let rest = steps hear_slot l.self (drop l.news-index l.slots) in
    let all = steps hear_slot l.initial.self l.slots in
    record {
      state : rest.state ≡ all.state;
      outs : l.effects ++ rest.outs ≡ l.initial.effects ++ all.outs;
    }
