use Rattle.std.proofs.Common.{◌≡◌, ◌++◌, map, drop}
use Rattle.registry.specs.Board.{slot_news}
use Rattle.registry.proofs.board.Board.news_of.Given as goal

-- the news so far and those to come are all
abbrev pub invariant-loop-slot : goal.invariant-loop-slot
invariant-loop-slot l = l.news ++ map (slot_news l.self) (drop l.slot-index l.slots) ≡ map (slot_news l.self) l.slots
