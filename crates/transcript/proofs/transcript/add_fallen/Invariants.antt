use Rattle.std.proofs.Common.{◌≡◌, ◌++◌, drop}
use Rattle.transcript.specs.Text.{fell_text}
use Rattle.transcript.proofs.transcript.add_fallen.Given as goal

abbrev pub invariant-loop-fall : goal.invariant-loop-fall
invariant-loop-fall l = l.text ++ fell_text (drop l.fall-index l.fallen) ≡ l.fn.text ++ fell_text l.fallen
