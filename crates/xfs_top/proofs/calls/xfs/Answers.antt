use Rattle.std.proofs.Common.{Some, ap, map, string_bytes, subst, sym}
use Rattle.std.specs.Prelude.{IfSome}
use Rattle.core_world.specs.AnyNode.{any_start, any_step}
use Rattle.shelved_nodes.specs.AnyShelf.{any_shelf}
use Rattle.top_call.specs.Claim.{Claim, reading, writing}
use Rattle.top_call.specs.Commands.{command_of, reads}
use Rattle.top_call.specs.Disks.{DisksOf}
use Rattle.top_call.specs.Mounts.{MountsOf}
use Rattle.top_call.proofs.Threads.{no_mounts, threads_read}
use Rattle.xfs_top.proofs.Accepted.{accepted}
use Rattle.xfs_top.proofs.Answered.{disks_determine, played_within}
use Rattle.xfs_top.proofs.AsOne.{played_as_one}
use Rattle.xfs_top.proofs.Audited.{played_audited}
use Rattle.xfs_top.proofs.Diskless.{threads_leave_none}
use Rattle.xfs_top.proofs.Replied.{none_replied, replies_are}
use Rattle.xfs_top.proofs.Runs.{played_has}
use Rattle.xfs_top.specs.Bounds.{BoundsOf}
use Rattle.xfs_top.specs.Headline.{HeadlineOf}
use Rattle.xfs_top.specs.OneMachine.{OneMachineOf}
use Rattle.xfs_top.proofs.calls.xfs.Goals as goal

pub returns-in-Some-clause-claim : goal.returns-in-Some-clause-claim
returns-in-Some-clause-claim g c =
    let r = reading g.S.Source.left g.S.Source.faults c.args.source.now c.answer_threads-outcome.new.source in
    let s = writing g.K.Sink.written g.K.Sink.faults c.args.sink.now c.answer_threads-outcome.new.sink in
    subst (λ command. Claim any_step any_start command r s c.answer_threads-outcome.result) (sym c.in-Some.ensures.0) c.answer_threads-outcome.ensures.claim

pub returns-in-Some-clause-untouched : goal.returns-in-Some-clause-untouched
returns-in-Some-clause-untouched g c none =
    absurd (let e = ap reads c.in-Some.ensures.0 in let r = threads_read c.in-Some.command c.in-Some.ensures.1 in cc)

pub returns-in-Some-clause-headline : goal.returns-in-Some-clause-headline
returns-in-Some-clause-headline g c =
    let estate = c.answer_threads-outcome.result.estate in
    subst (λ command. IfSome estate (HeadlineOf command)) (sym c.in-Some.ensures.0)
    (played_has c.every_run_is_safe.ensures (Some c.in-Some.command) estate c.answer_threads-outcome.ensures.claim.run)

pub returns-in-Some-clause-audited : goal.returns-in-Some-clause-audited
returns-in-Some-clause-audited g c =
    played_audited c.runs_are_audited_legal.ensures.legal (Some c.in-Some.command) c.answer_threads-outcome.result.estate c.answer_threads-outcome.ensures.claim.run
    c.prove_in_range.ensures

pub returns-in-Some-clause-bounds : goal.returns-in-Some-clause-bounds
returns-in-Some-clause-bounds g c =
    let estate = c.answer_threads-outcome.result.estate in
    subst (λ command. IfSome estate (BoundsOf command)) (sym c.in-Some.ensures.0)
    (played_within c.accepted_scripts_are_orderly.ensures.orderly c.all_quiet_scripts_are_answered.ensures.answered c.unstopped_scripts_are_played.ensures.played
    (Some c.in-Some.command) estate c.answer_threads-outcome.ensures.claim.run
    (disks_determine (Some c.in-Some.command) estate c.answer_threads-outcome.result.disks
    (threads_leave_none c.in-Some.command c.in-Some.ensures.1 estate c.answer_threads-outcome.result.disks c.answer_threads-outcome.ensures.no_disks)))

pub returns-in-Some-clause-one_machine : goal.returns-in-Some-clause-one_machine
returns-in-Some-clause-one_machine g c =
    let estate = c.answer_threads-outcome.result.estate in
    subst (λ command. IfSome estate (OneMachineOf command)) (sym c.in-Some.ensures.0)
    (played_as_one c.every_run_is_safe.ensures c.accepted_scripts_are_orderly.ensures.orderly c.all_quiet_scripts_are_answered.ensures.answered
    c.unstopped_scripts_are_played.ensures.played c.items_that_begin_alone_are_answered_in_line.ensures.runs c.items_of_one_client_begin_alone.ensures.runs (Some c.in-Some.command) estate
    c.answer_threads-outcome.ensures.claim.run
    (disks_determine (Some c.in-Some.command) estate c.answer_threads-outcome.result.disks
    (threads_leave_none c.in-Some.command c.in-Some.ensures.1 estate c.answer_threads-outcome.result.disks c.answer_threads-outcome.ensures.no_disks))
    (accepted (Some c.in-Some.command) _ _ c.answer_threads-outcome.result c.answer_threads-outcome.ensures.claim.ends))

pub returns-in-Some-clause-disks : goal.returns-in-Some-clause-disks
returns-in-Some-clause-disks g c =
    let o = c.answer_threads-outcome.result in
    subst (λ command. DisksOf any_step any_start any_shelf command o.estate o.disks) (sym c.in-Some.ensures.0)
    (threads_leave_none c.in-Some.command c.in-Some.ensures.1 o.estate o.disks c.answer_threads-outcome.ensures.no_disks)

pub returns-in-Some-clause-mounts : goal.returns-in-Some-clause-mounts
returns-in-Some-clause-mounts g c =
    let o = c.answer_threads-outcome.result in
    subst (λ command. MountsOf any_step any_start command o.estate o.calls o.replies) (sym c.in-Some.ensures.0) c.answer_threads-outcome.ensures.mounts

pub returns-in-Some-clause-replies : goal.returns-in-Some-clause-replies
returns-in-Some-clause-replies g c =
    let o = c.answer_threads-outcome.result in
    let run = c.answer_threads-outcome.ensures.claim.run in
    replies_are (Some c.in-Some.command) o.estate o.calls o.replies run (played_has c.every_run_is_safe.ensures (Some c.in-Some.command) o.estate run) c.answer_threads-outcome.ensures.mounts

pub solo-requires : goal.solo-requires
solo-requires g c = c.in-None.ensures

pub returns-in-None-clause-claim : goal.returns-in-None-clause-claim
returns-in-None-clause-claim g c = c.solo.ensures.claim

pub returns-in-None-clause-untouched : goal.returns-in-None-clause-untouched
returns-in-None-clause-untouched g c = c.solo.ensures.untouched

pub returns-in-None-clause-headline : goal.returns-in-None-clause-headline
returns-in-None-clause-headline g c = c.solo.ensures.headline

pub returns-in-None-clause-audited : goal.returns-in-None-clause-audited
returns-in-None-clause-audited g c = c.solo.ensures.audited

pub returns-in-None-clause-bounds : goal.returns-in-None-clause-bounds
returns-in-None-clause-bounds g c = c.solo.ensures.bounds

pub returns-in-None-clause-one_machine : goal.returns-in-None-clause-one_machine
returns-in-None-clause-one_machine g c = c.solo.ensures.one_machine

pub returns-in-None-clause-disks : goal.returns-in-None-clause-disks
returns-in-None-clause-disks g c = c.solo.ensures.disks

pub returns-in-None-clause-mounts : goal.returns-in-None-clause-mounts
returns-in-None-clause-mounts g c =
    let o = c.solo.result in
    no_mounts any_step any_start (command_of (map string_bytes c.args.words.now)) c.in-None.ensures o.estate o.calls o.replies c.solo.ensures.no_replies

pub returns-in-None-clause-replies : goal.returns-in-None-clause-replies
returns-in-None-clause-replies g c = none_replied c.solo.result.estate c.solo.result.replies c.solo.ensures.no_replies.1
