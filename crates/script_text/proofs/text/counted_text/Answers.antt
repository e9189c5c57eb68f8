use Rattle.std.proofs.Common.{sym, ◌∙◌, Some, None}
use Rattle.script_text.proofs.Texts.{counted_none, counted_is, if_ok_same}
use Rattle.script_text.proofs.text.counted_text.Goals as goal

pub returns-in-None : goal.returns-in-None
returns-in-None c = counted_none c.args.word.now c.in-None.ensures

pub returns-in-None-number_of : goal.returns-in-None-number_of
returns-in-None-number_of c =
    counted_is c.args.word.now c.in-Some.front.now c.in-Some.back.now None c.in-Some.ensures.0 c.in-Some.ensures.1
    (sym c.number_of.ensures ∙ c.in-None-number_of.is)

pub returns-in-Some-number_of : goal.returns-in-Some-number_of
returns-in-Some-number_of c =
    if_ok_same c.with_count.result _ _
    (counted_is c.args.word.now c.in-Some.front.now c.in-Some.back.now (Some c.in-Some-number_of.count) c.in-Some.ensures.0 c.in-Some.ensures.1
    (sym c.number_of.ensures ∙ c.in-Some-number_of.is)) c.with_count.ensures
