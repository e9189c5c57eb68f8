use Rattle.std.proofs.Common.{◌≡◌, [], drop}
use Rattle.transcript.specs.Falls.{falls_start}
use Rattle.transcript.specs.Replies.{with_acts}
use Rattle.transcript.proofs.replies.Replies.of.Given as goal

abbrev pub invariant-loop-place : goal.invariant-loop-place
invariant-loop-place l = with_acts l.gathering l.place (drop l.place l.acts) ≡ with_acts (record { table = []; falls = falls_start }) 0 l.acts
