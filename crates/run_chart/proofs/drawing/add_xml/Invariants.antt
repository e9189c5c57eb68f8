use Rattle.std.proofs.Common.{◌≡◌, ◌++◌, drop}
use Rattle.run_chart.specs.Drawing.{xml_text}
use Rattle.run_chart.proofs.drawing.add_xml.Given as goal

abbrev pub invariant-loop-byte : goal.invariant-loop-byte
invariant-loop-byte l = l.out ++ xml_text (drop l.byte-index l.text) ≡ l.fn.out ++ xml_text l.text
