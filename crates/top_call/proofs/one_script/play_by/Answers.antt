use Rattle.top_call.specs.Claim.{writing}
use Rattle.top_call.proofs.Ways.{answers_plainly, answers_with_boards, answers_with_disks}
use Rattle.top_call.proofs.one_script.play_by.Goals as goal

pub returns-in-Plainly-clause-answer : goal.returns-in-Plainly-clause-answer
returns-in-Plainly-clause-answer g c =
    let s = writing g.K.Sink.written g.K.Sink.faults c.args.sink.now c.play_script.new.sink in
    let e = c.play_script.ensures in
    rw c.in-Plainly.is (answers_plainly g.N.Actor.transition g.N.Member.first c.args.script.now s c.play_script.result e.told e.one_run e.plain.0 e.later)

pub returns-in-Plainly-clause-disks : goal.returns-in-Plainly-clause-disks
returns-in-Plainly-clause-disks g c = rw c.in-Plainly.is c.play_script.ensures.plain.1

pub returns-in-WithBoards-clause-answer : goal.returns-in-WithBoards-clause-answer
returns-in-WithBoards-clause-answer g c =
    let s = writing g.K.Sink.written g.K.Sink.faults c.args.sink.now c.play_boards.new.sink in
    let e = c.play_boards.ensures in
    rw c.in-WithBoards.is (answers_with_boards g.N.Actor.transition g.N.Member.first c.args.script.now s c.play_boards.result e.told e.one_run e.boards e.later)

pub returns-in-WithBoards-clause-disks : goal.returns-in-WithBoards-clause-disks
returns-in-WithBoards-clause-disks g c = rw c.in-WithBoards.is c.play_boards.ensures.no_disks

pub returns-in-WithDisks-clause-answer : goal.returns-in-WithDisks-clause-answer
returns-in-WithDisks-clause-answer g c =
    let s = writing g.K.Sink.written g.K.Sink.faults c.args.sink.now c.play_disks.new.sink in
    let e = c.play_disks.ensures in
    rw c.in-WithDisks.is (answers_with_disks g.N.Actor.transition g.N.Member.first c.args.script.now s c.play_disks.result e.told e.one_run e.no_boards e.later)

pub returns-in-WithDisks-clause-disks : goal.returns-in-WithDisks-clause-disks
returns-in-WithDisks-clause-disks g c = rw c.in-WithDisks.is c.play_disks.ensures.disks
