use Rattle.std.proofs.Common.{◌≡◌, take}
use Rattle.std.specs.List.{list_all}
use Rattle.script_text.specs.Text.{is_plain}
use Rattle.script_print.proofs.spelling.are_plain.Given as goal

-- what was seen so far
abbrev pub invariant-loop-b : goal.invariant-loop-b
invariant-loop-b l = l.plain ≡ list_all is_plain (take l.b-index l.bytes)
