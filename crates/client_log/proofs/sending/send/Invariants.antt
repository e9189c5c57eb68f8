use Rattle.std.proofs.Common.{◌≡◌, ◌++◌, drop}
use Rattle.client_log.specs.Transition.{sends}
use Rattle.client_log.proofs.sending.send.Given as goal

-- the fragments sent so far and those to be sent are all
abbrev pub invariant-loop-place : goal.invariant-loop-place
invariant-loop-place l = l.outs ++ sends l.flight (drop l.place l.member-items) l.place ≡ l.initial.outs ++ sends l.flight l.member-items 0
