use Rattle.std.proofs.Common.{◌+◌, ◌-◌, sym, ap, ◌∙◌, fold}
use Rattle.std.specs.List.{range_with_len}
use Rattle.world_base.specs.Schedule.{schedule_send}
use Rattle.world_base.proofs.Ranges.{range_step}
use Rattle.play.proofs.player.send_since.Goals as goal

pub loop-number-preserved : goal.loop-number-preserved
loop-number-preserved c =
    let i = c.loop-number.number in
    let end = c.args.now in
    ap (λ s. fold schedule_send s (range_with_len (i + 1) (end - (i + 1)))) c.in_ok-send.ensures
    ∙ ap (λ numbers. fold schedule_send c.loop-number.schedule numbers) (sym (range_step i end c.loop-number-test.true))
    ∙ c.loop-number.invariant
