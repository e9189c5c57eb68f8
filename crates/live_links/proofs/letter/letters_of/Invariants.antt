use Rattle.std.proofs.Common.{◌≡◌, ◌++◌, drop}
use Rattle.live_links.specs.Ends.{letters_of}
use Rattle.live_links.proofs.letter.letters_of.Given as goal

-- the letters so far and those to come are all
abbrev pub invariant-loop-packet : goal.invariant-loop-packet
invariant-loop-packet l = l.letters ++ letters_of l.from l.next (drop l.packet-index l.packets) ≡ letters_of l.from l.number l.packets
