-- A play shows the same stage under another schedule that is plain, too, whose queue is of the packets on their way.
use Rattle.std.proofs.Common.{List}
use Rattle.play.specs.declared.player.Player.{Player}
use Rattle.play.specs.Plays.{with_schedule}
use Rattle.quiet_flow.specs.Flow.{Stage}
use Rattle.quiet_flow.specs.Follow.{AreAt, IsPlain, Shows}
use Rattle.wire_msg.specs.declared.packet.Packet.{Packet}
use Rattle.world_base.specs.Schedule.{ScheduleState}
use Rattle.xfs_base.specs.declared.setup.Setup.{Setup}

pub scheduled_shows : {N : Type 0} (setup : Setup) (p : Player N) (t : Stage N) (waiting later : List Packet) → Shows setup p t waiting → (schedule : ScheduleState)
    → IsPlain schedule → AreAt p.world.sent schedule.queue later → Shows setup (with_schedule p schedule) t later
scheduled_shows setup p t waiting later shows schedule plain waits = record {
  cluster = shows.cluster;
  placed = shows.placed;
  acts = shows.acts;
  unanswered = shows.unanswered;
  clocks = shows.clocks;
  low = shows.low;
  sent_low = shows.sent_low;
  plain = plain;
  waits = waits;
}
