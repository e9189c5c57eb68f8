use Rattle.std.proofs.Common.{◌≡◌, ◌++◌, drop}
use Rattle.std.specs.List.{flat_map}
use Rattle.manager_slots.specs.Tokens.{tokens_answer}
use Rattle.manager_slots.proofs.tokens.answer_each.Given as goal

-- what is sent so far and what is to be sent is all
abbrev pub invariant-loop-out : goal.invariant-loop-out
invariant-loop-out l =
    l.effects ++ flat_map (tokens_answer l.check l.epoch) (drop l.out-index l.outs) ≡ l.initial.effects ++ flat_map (tokens_answer l.check l.epoch) l.outs
