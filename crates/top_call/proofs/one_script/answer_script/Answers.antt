use Rattle.std.proofs.Common.{false, subst, sym}
use Rattle.top_call.specs.Claim.{IsRead, reading, writing}
use Rattle.top_call.specs.Ways.{command_by}
use Rattle.top_call.proofs.Claims.{claims_read, claims_unread_input}
use Rattle.top_call.proofs.Ways.{way_boards, way_disks, way_reads, way_refuses}
use Rattle.top_call.proofs.one_script.answer_script.Goals as goal

pub returns-in-Ok-clause-claim : goal.returns-in-Ok-clause-claim
returns-in-Ok-clause-claim g c =
    let way = c.args.way in
    let r = reading g.S.Source.left g.S.Source.faults c.args.source.now c.read_script.new.source in
    let s = writing g.K.Sink.written g.K.Sink.faults c.args.sink.now c.play_by.new.sink in
    let found = c.in-Ok.ensures.found in
    let answer = c.play_by.ensures.answer in
    claims_read g.N.Actor.transition g.N.Member.first (command_by way) r s c.play_by.result found.0
    (subst (λ b. IsRead b r found.0) (sym (way_reads way)) found.1) (answer.told found.0 found.2) answer.run answer.boards
    c.read_script.ensures.bounded c.read_script.ensures.read_later answer.later

pub returns-in-Err-clause-claim : goal.returns-in-Err-clause-claim
returns-in-Err-clause-claim g c =
    let step = g.N.Actor.transition in
    let first = g.N.Member.first in
    let way = c.args.way in
    let r = reading g.S.Source.left g.S.Source.faults c.args.source.now c.read_script.new.source in
    let s = writing g.K.Sink.written g.K.Sink.faults c.args.sink.now c.end_unread.new.sink in
    let e = c.end_unread.ensures in
    claims_unread_input step first (command_by way) false (way_reads way) (way_refuses step first way) r s c.end_unread.result (way_boards step first way)
    c.in-Err.why c.in-Err.ensures.cause e.told e.no_run e.plain.0 c.read_script.ensures.bounded c.read_script.ensures.read_later e.later

pub returns-in-Err-clause-disks : goal.returns-in-Err-clause-disks
returns-in-Err-clause-disks g c =
    let o = c.end_unread.result in
    let e = c.end_unread.ensures in
    way_disks g.N.Actor.transition g.N.Member.first g.N.Shelved.shelf_of c.args.way o.estate o.disks e.no_run e.plain.1
