use Rattle.std.proofs.Common.{◌≡◌, ◌++◌}
use Rattle.std.specs.Prelude.{All}
use Rattle.std.specs.List.{filter_map}
use Rattle.std.specs.Map.{values_of}
use Rattle.group_rebuild.specs.Wanted.{IsWanted, wanted_of, wanted_in}
use Rattle.group_rebuild.proofs.wanted.wanted_in.Given as goal

-- the segments so far and those to come are all
abbrev pub invariant-loop-meta : goal.invariant-loop-meta
invariant-loop-meta l = record {
  whole : l.all.items ++ filter_map (wanted_of l.server l.groups) l.meta-iterator ≡ wanted_in l.server l.groups (values_of l.listed.entries);
  each : All IsWanted l.all.items;
}
