use Rattle.std.proofs.Common.{◌≡◌, drop}
use Rattle.script_text.specs.Words.{words}
use Rattle.script_text.specs.Forms.{has_words}
use Rattle.script_text.proofs.form.has_words.Given as goal

abbrev pub invariant-loop-part : goal.invariant-loop-part
invariant-loop-part l = has_words l.verb (drop l.part-index l.parts) l.words ≡ has_words l.verb l.parts (words l.line)
