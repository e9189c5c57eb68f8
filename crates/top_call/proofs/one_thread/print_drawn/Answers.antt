use Rattle.std.proofs.Common.{inr, subst}
use Rattle.script_print.specs.Printing.{printed}
use Rattle.top_call.specs.Claim.{TellsOrGivesUp, line, writing}
use Rattle.top_call.proofs.Claims.{gives_up}
use Rattle.top_call.proofs.one_thread.print_drawn.Goals as goal

pub returns-in-Ok-clause-told : goal.returns-in-Ok-clause-told
returns-in-Ok-clause-told g c =
    let s = writing g.K.Sink.written g.K.Sink.faults c.args.sink.now c.write_script.new.sink in
    subst (λ x. TellsOrGivesUp s c.write_script.result (line (printed x) 0)) c.in-Ok.ensures.exact c.write_script.ensures.told

pub returns-in-Err-clause-told : goal.returns-in-Err-clause-told
returns-in-Err-clause-told g c = inr (gives_up g.K.Sink.written g.K.Sink.faults c.args.sink.now c.ended.result c.ended.ensures)
