use Rattle.std.proofs.Common.{◌≡◌, ◌-◌, fold}
use Rattle.std.specs.List.{range_with_len}
use Rattle.world_base.specs.Schedule.{schedule_send}
use Rattle.play.proofs.player.send_since.Given as goal

-- the packets so far and those to come are all
abbrev pub invariant-loop-number : goal.invariant-loop-number
invariant-loop-number l =
    fold schedule_send l.schedule (range_with_len l.number (l.now - l.number)) ≡ fold schedule_send l.initial.schedule (range_with_len l.before (l.now - l.before))
