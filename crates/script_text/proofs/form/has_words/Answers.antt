use Rattle.std.proofs.Common.{sym, ◌∙◌}
use Rattle.script_text.proofs.Loops.{words_ended}
use Rattle.script_text.proofs.form.has_words.Goals as goal

pub returns-then-is_end : goal.returns-then-is_end
returns-then-is_end c =
    words_ended c.args.verb.now c.args.parts.now c.loop-part.part-index c.loop-part.words _ c.loop-part-test.true c.loop-part.invariant
    (sym c.is_end.ensures ∙ c.if-is_end.true)
