use Rattle.std.proofs.Common.{false, inr, subst}
use Rattle.script_print.specs.Printing.{printed}
use Rattle.top_call.specs.Claim.{TellsOrGivesUp, brief_wanted, writing}
use Rattle.top_call.proofs.Claims.{gives_up}
use Rattle.top_call.proofs.one_thread.play_drawn.Goals as goal

pub count_script-requires : goal.count_script-requires
count_script-requires g c = (false, printed c.in-Ok.script, c.in-Ok.ensures.again)

pub returns-in-Ok-clause-told : goal.returns-in-Ok-clause-told
returns-in-Ok-clause-told g c =
    let s = writing g.K.Sink.written g.K.Sink.faults c.args.sink.now c.count_script.new.sink in
    subst (λ x. TellsOrGivesUp s c.count_script.result (brief_wanted g.N.Actor.transition g.N.Member.first x)) c.in-Ok.ensures.exact c.count_script.ensures.told

pub returns-in-Err-clause-told : goal.returns-in-Err-clause-told
returns-in-Err-clause-told g c = inr (gives_up g.K.Sink.written g.K.Sink.faults c.args.sink.now c.ended.result c.ended.ensures)
