use Rattle.std.proofs.Common.{Some, [], refl}
use Rattle.script_print.specs.Printing.{printed}
use Rattle.top_call.specs.declared.command.Command.TheVariants.{Big, Gen}
use Rattle.top_call.specs.Claim.{IsPlayed, IsRunBy, brief_wanted, line, script_of, writing}
use Rattle.top_call.proofs.Claims.{answers, claims_unread, each_left, none_played}
use Rattle.top_call.proofs.one_thread.carry_out.Goals as goal

pub returns-in-Gen-clause-claim : goal.returns-in-Gen-clause-claim
returns-in-Gen-clause-claim g c =
    let step = g.N.Actor.transition in
    let first = g.N.Member.first in
    let drawn = c.in-Gen.drawn in
    let o = c.print_drawn.result in
    let s = writing g.K.Sink.written g.K.Sink.faults c.args.sink.now c.print_drawn.new.sink in
    let answer = answers step first (Some (Gen drawn)) [] s o (line (printed (script_of drawn)) 0) refl c.print_drawn.ensures.told in
    rw c.in-Gen.is
    (claims_unread step first g.S.Source.left g.S.Source.faults c.args.source.now (Some (Gen drawn)) s o refl (λ e. cc) answer
    (each_left (λ e. IsPlayed step first e) (IsRunBy step first (Some (Gen drawn))) (λ e h. h) o.estate (none_played step first o.estate c.print_drawn.ensures.no_run)) c.print_drawn.ensures.plain.0
    c.print_drawn.ensures.later)

pub returns-in-Big-clause-claim : goal.returns-in-Big-clause-claim
returns-in-Big-clause-claim g c =
    let step = g.N.Actor.transition in
    let first = g.N.Member.first in
    let drawn = c.in-Big.drawn in
    let o = c.play_drawn.result in
    let s = writing g.K.Sink.written g.K.Sink.faults c.args.sink.now c.play_drawn.new.sink in
    let answer = answers step first (Some (Big drawn)) [] s o (brief_wanted step first (script_of drawn)) refl c.play_drawn.ensures.told in
    rw c.in-Big.is
    (claims_unread step first g.S.Source.left g.S.Source.faults c.args.source.now (Some (Big drawn)) s o refl
    (λ e. cc) answer (each_left (λ e. IsPlayed step first e) (IsRunBy step first (Some (Big drawn))) (λ e h. h) o.estate c.play_drawn.ensures.one_run) c.play_drawn.ensures.plain.0 c.play_drawn.ensures.later)

pub returns-in-Run-clause-claim : goal.returns-in-Run-clause-claim
returns-in-Run-clause-claim g c = rw c.in-Run.is c.answer_script.ensures.claim

pub returns-in-Audit-clause-claim : goal.returns-in-Audit-clause-claim
returns-in-Audit-clause-claim g c = rw c.in-Audit.is c.answer_audit.ensures.claim

pub returns-in-Boards-clause-claim : goal.returns-in-Boards-clause-claim
returns-in-Boards-clause-claim g c = rw c.in-Boards.is c.answer_script-in-Boards.ensures.claim

pub returns-in-Disks-clause-claim : goal.returns-in-Disks-clause-claim
returns-in-Disks-clause-claim g c = rw c.in-Disks.is c.answer_script-in-Disks.ensures.claim

pub returns-in-Gen-clause-disks : goal.returns-in-Gen-clause-disks
returns-in-Gen-clause-disks g c = rw c.in-Gen.is c.print_drawn.ensures.plain.1

pub returns-in-Big-clause-disks : goal.returns-in-Big-clause-disks
returns-in-Big-clause-disks g c = rw c.in-Big.is c.play_drawn.ensures.plain.1

pub returns-in-Run-clause-disks : goal.returns-in-Run-clause-disks
returns-in-Run-clause-disks g c = rw c.in-Run.is c.answer_script.ensures.disks

pub returns-in-Audit-clause-disks : goal.returns-in-Audit-clause-disks
returns-in-Audit-clause-disks g c = rw c.in-Audit.is c.answer_audit.ensures.plain.1

pub returns-in-Boards-clause-disks : goal.returns-in-Boards-clause-disks
returns-in-Boards-clause-disks g c = rw c.in-Boards.is c.answer_script-in-Boards.ensures.disks

pub returns-in-Disks-clause-disks : goal.returns-in-Disks-clause-disks
returns-in-Disks-clause-disks g c = rw c.in-Disks.is c.answer_script-in-Disks.ensures.disks
