use Rattle.std.proofs.Common.{◌≡◌, ◌+◌, ◌++◌, drop}
use Rattle.slot_beliefs.specs.Recalls.{recalls}
use Rattle.slot_beliefs.proofs.recalls.recalls.Given as goal

-- each recall so far took a turn, and those so far and those to come are all
abbrev pub invariant-loop-client : goal.invariant-loop-client
invariant-loop-client l =
    record {
      turn : l.turn ≡ l.fn.last + l.client-index;
      made : l.awaited ++ recalls l.epoch l.turn l.keep (drop l.client-index l.clients) ≡ recalls l.epoch l.fn.last l.keep l.clients;
    }
