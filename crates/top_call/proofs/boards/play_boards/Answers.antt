use Rattle.std.proofs.Common.{inr, subst}
use Rattle.transcript.specs.Text.{text_of}
use Rattle.top_call.specs.Claim.{TellsOrGivesUp, run_answer, writing}
use Rattle.top_call.proofs.Claims.{gives_up, some_boarded, some_told}
use Rattle.top_call.proofs.boards.play_boards.Goals as goal

pub returns-in-Ok-clause-told : goal.returns-in-Ok-clause-told
returns-in-Ok-clause-told g c =
    let s = writing g.K.Sink.written g.K.Sink.faults c.args.sink.now c.write_boards.new.sink in
    subst (λ e. TellsOrGivesUp s c.write_boards.result (run_answer (text_of e.estate) e.estate)) c.in-Ok.ensures.exact c.write_boards.ensures.told

pub returns-in-Ok-clause-one_run : goal.returns-in-Ok-clause-one_run
returns-in-Ok-clause-one_run g c =
    some_boarded g.N.Actor.transition g.N.Member.first c.args.script.now c.in-Ok.estate c.write_boards.result.estate c.write_boards.ensures.estate
    c.in-Ok.ensures.exact c.in-Ok.ensures.played

pub returns-in-Ok-clause-boards : goal.returns-in-Ok-clause-boards
returns-in-Ok-clause-boards g c =
    some_told g.N.Actor.transition g.N.Member.first c.args.script.now c.in-Ok.estate c.write_boards.result.estate c.write_boards.result.boards
    c.write_boards.ensures.estate c.in-Ok.ensures.exact c.write_boards.ensures.boards

pub returns-in-Err-clause-told : goal.returns-in-Err-clause-told
returns-in-Err-clause-told g c = inr (gives_up g.K.Sink.written g.K.Sink.faults c.args.sink.now c.ended.result c.ended.ensures)
