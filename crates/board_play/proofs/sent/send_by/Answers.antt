use Rattle.std.proofs.Common.{◌∷◌, ◌++◌, [], ◌+◌, ◌-◌, sym, ap, ◌∙◌, map, append_assoc}
use Rattle.std.specs.List.{range_with_len}
use Rattle.world_base.proofs.Ranges.{range_step}
use Rattle.board_play.specs.Plays.{sent_at}
use Rattle.board_play.proofs.sent.send_by.Goals as goal

pub loop-place-preserved : goal.loop-place-preserved
loop-place-preserved c =
    let sent = c.loop-place.sent in
    let one = sent_at c.args.sender in
    let i = c.loop-place.place in
    let end = c.args.now in
    let rest = map one (range_with_len (i + 1) (end - (i + 1))) in
    ap (λ put. put ++ rest) c.in_ok-push.ensures.ok
    ∙ append_assoc sent (one i ∷ []) rest
    ∙ ap (λ places. sent ++ map one places) (sym (range_step i end c.loop-place-test.true))
    ∙ c.loop-place.invariant
