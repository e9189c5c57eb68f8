use Rattle.std.proofs.Common.{◌≡◌, None, [], false, inl, refl, subst, sym}
use Rattle.top_call.specs.Claim.{Claim, IsPlayed, IsRunBy, line, reading, writing}
use Rattle.top_call.specs.Commands.{is_live, reads}
use Rattle.top_call.specs.Disks.{DisksOf}
use Rattle.top_call.specs.Spoken.{usage_text}
use Rattle.top_call.proofs.Claims.{answers, claims_unread, each_left, line_told, none_played}
use Rattle.top_call.proofs.one_thread.answer.Goals as goal

pub returns-in-None-clause-claim : goal.returns-in-None-clause-claim
returns-in-None-clause-claim g c =
    let step = g.N.Actor.transition in
    let first = g.N.Member.first in
    let o = c.tell.result in
    let r = reading g.S.Source.left g.S.Source.faults c.args.source.now c.args.source.now in
    let s = writing g.K.Sink.written g.K.Sink.faults c.args.sink.now c.tell.new.sink in
    let told = line_told s o _ _ 2 c.usage.ensures c.tell.ensures.told in
    let answer = answers step first None [] s o (line usage_text 2) refl (inl told) in
    subst (λ command. Claim step first command r s o) c.in-None.ensures.command
    (claims_unread step first g.S.Source.left g.S.Source.faults c.args.source.now None s o refl (λ e. told) answer
    (each_left (λ e. IsPlayed step first e) (IsRunBy step first None) (λ e h. h) o.estate (none_played step first o.estate c.tell.ensures.no_run)) c.tell.ensures.plain.0 c.tell.ensures.later)

pub returns-in-Some-clause-claim : goal.returns-in-Some-clause-claim
returns-in-Some-clause-claim g c =
    let r = reading g.S.Source.left g.S.Source.faults c.args.source.now c.carry_out.new.source in
    let s = writing g.K.Sink.written g.K.Sink.faults c.args.sink.now c.carry_out.new.sink in
    subst (λ command. Claim g.N.Actor.transition g.N.Member.first command r s c.carry_out.result) c.in-Some.ensures.command c.carry_out.ensures.claim

pub returns-in-None-clause-disks : goal.returns-in-None-clause-disks
returns-in-None-clause-disks g c =
    let o = c.tell.result in
    subst (λ command. DisksOf g.N.Actor.transition g.N.Member.first g.N.Shelved.shelf_of command o.estate o.disks) c.in-None.ensures.command
    c.tell.ensures.plain.1

pub returns-in-Some-clause-disks : goal.returns-in-Some-clause-disks
returns-in-Some-clause-disks g c =
    let o = c.carry_out.result in
    subst (λ command. DisksOf g.N.Actor.transition g.N.Member.first g.N.Shelved.shelf_of command o.estate o.disks) c.in-Some.ensures.command
    c.carry_out.ensures.disks

pub returns-in-Some-clause-untouched : goal.returns-in-Some-clause-untouched
returns-in-Some-clause-untouched g c =
    subst (λ command. reads command ≡ false → c.carry_out.new.source ≡ c.args.source.now) c.in-Some.ensures.command c.carry_out.ensures.untouched

pub carry_out-requires-clause-alone : goal.carry_out-requires-clause-alone
carry_out-requires-clause-alone g c = subst (λ command. is_live command ≡ false) (sym c.in-Some.ensures.command) c.requires
