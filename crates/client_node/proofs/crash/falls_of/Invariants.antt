use Rattle.std.proofs.Common.{◌≡◌, ◌++◌, drop, map}
use Rattle.client_node.proofs.crash.falls_of.Given as goal
use Rattle.client_node.specs.Crash.{fall_by}

-- the falls so far and those to come are all
abbrev pub invariant-loop-block : goal.invariant-loop-block
invariant-loop-block l =
    l.falls ++ map (fall_by l.tokens l.log.flight) (drop l.block-index l.blocks) ≡ map (fall_by l.tokens l.log.flight) l.blocks
