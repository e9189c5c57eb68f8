use Rattle.std.proofs.Common.{map, string_bytes}
use Rattle.top_call.specs.Commands.{command_of}
use Rattle.xfs_top.proofs.Accepted.{accepted}
use Rattle.xfs_top.proofs.Answered.{disks_determine, played_within}
use Rattle.xfs_top.proofs.AsOne.{played_as_one}
use Rattle.xfs_top.proofs.Audited.{played_audited}
use Rattle.xfs_top.proofs.Runs.{played_has}
use Rattle.xfs_top.proofs.calls.solo.Goals as goal

pub answer-outcome-requires : goal.answer-outcome-requires
answer-outcome-requires g c = c.requires

pub returns-clause-claim : goal.returns-clause-claim
returns-clause-claim g c = c.answer-outcome.ensures.claim

pub returns-clause-untouched : goal.returns-clause-untouched
returns-clause-untouched g c = c.answer-outcome.ensures.untouched

pub returns-clause-headline : goal.returns-clause-headline
returns-clause-headline g c =
    played_has c.every_run_is_safe.ensures (command_of (map string_bytes c.args.words.now)) c.answer-outcome.result.estate c.answer-outcome.ensures.claim.run

pub returns-clause-audited : goal.returns-clause-audited
returns-clause-audited g c =
    played_audited c.runs_are_audited_legal.ensures.legal (command_of (map string_bytes c.args.words.now)) c.answer-outcome.result.estate c.answer-outcome.ensures.claim.run
    c.prove_in_range.ensures

pub returns-clause-bounds : goal.returns-clause-bounds
returns-clause-bounds g c =
    let command = command_of (map string_bytes c.args.words.now) in
    let o = c.answer-outcome.result in
    played_within c.accepted_scripts_are_orderly.ensures.orderly c.all_quiet_scripts_are_answered.ensures.answered c.unstopped_scripts_are_played.ensures.played
    command o.estate c.answer-outcome.ensures.claim.run (disks_determine command o.estate o.disks c.answer-outcome.ensures.disks)

pub returns-clause-one_machine : goal.returns-clause-one_machine
returns-clause-one_machine g c =
    let command = command_of (map string_bytes c.args.words.now) in
    let o = c.answer-outcome.result in
    played_as_one c.every_run_is_safe.ensures c.accepted_scripts_are_orderly.ensures.orderly c.all_quiet_scripts_are_answered.ensures.answered
    c.unstopped_scripts_are_played.ensures.played c.items_that_begin_alone_are_answered_in_line.ensures.runs c.items_of_one_client_begin_alone.ensures.runs command o.estate c.answer-outcome.ensures.claim.run
    (disks_determine command o.estate o.disks c.answer-outcome.ensures.disks) (accepted command _ _ o c.answer-outcome.ensures.claim.ends)

pub returns-clause-disks : goal.returns-clause-disks
returns-clause-disks g c = c.answer-outcome.ensures.disks

pub returns-clause-no_replies : goal.returns-clause-no_replies
returns-clause-no_replies g c = c.answer-outcome.ensures.no_replies
