use Rattle.std.proofs.Common.{◌≡◌, ◌++◌, map, drop}
use Rattle.takeover.specs.Sources.{part_source}
use Rattle.takeover.proofs.source.add_parts.Given as goal

-- the sources so far and those to come are all
abbrev pub invariant-loop-part : goal.invariant-loop-part
invariant-loop-part l = l.sources.items ++ map part_source (drop l.part-index l.parts) ≡ l.initial.sources.items ++ map part_source l.parts
