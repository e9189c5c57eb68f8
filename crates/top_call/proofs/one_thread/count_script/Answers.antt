use Rattle.std.proofs.Common.{inr, subst}
use Rattle.transcript.specs.Counts.{brief_of}
use Rattle.top_call.specs.Claim.{TellsOrGivesUp, run_answer, writing}
use Rattle.top_call.proofs.Claims.{gives_up, some_played}
use Rattle.top_call.proofs.one_thread.count_script.Goals as goal

pub returns-in-Ok-clause-told : goal.returns-in-Ok-clause-told
returns-in-Ok-clause-told g c =
    let s = writing g.K.Sink.written g.K.Sink.faults c.args.sink.now c.write_brief.new.sink in
    subst (λ e. TellsOrGivesUp s c.write_brief.result (run_answer (brief_of e) e)) c.in-Ok.ensures.exact c.write_brief.ensures.told

pub returns-in-Ok-clause-one_run : goal.returns-in-Ok-clause-one_run
returns-in-Ok-clause-one_run g c =
    some_played g.N.Actor.transition g.N.Member.first c.write_brief.result.estate c.in-Ok.estate c.write_brief.ensures.estate c.in-Ok.ensures.run

pub returns-in-Err-clause-told : goal.returns-in-Err-clause-told
returns-in-Err-clause-told g c = inr (gives_up g.K.Sink.written g.K.Sink.faults c.args.sink.now c.ended.result c.ended.ensures)
