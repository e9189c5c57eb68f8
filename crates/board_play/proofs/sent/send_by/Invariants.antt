use Rattle.std.proofs.Common.{◌≡◌, ◌++◌, ◌-◌, map}
use Rattle.std.specs.List.{range_with_len}
use Rattle.board_play.specs.Plays.{sent_at}
use Rattle.board_play.proofs.sent.send_by.Given as goal

-- what was put there so far and what is to come are all
abbrev pub invariant-loop-place : goal.invariant-loop-place
invariant-loop-place l =
    l.sent ++ map (sent_at l.sender) (range_with_len l.place (l.now - l.place)) ≡ l.initial.sent ++ map (sent_at l.sender)
    (range_with_len l.before (l.now - l.before))
