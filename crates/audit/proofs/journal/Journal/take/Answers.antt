use Rattle.std.proofs.Common.{Some}
use Rattle.audit.proofs.Noting.{said_act, noted_act}
use Rattle.audit.proofs.journal.Journal.take.Goals as goal

pub returns-clause-noted : goal.returns-clause-noted
returns-clause-noted c = (
  Some c.in_ok-act.act,
  said_act c.args.line.now c.in_ok-act.act c.if-is_skipped.false c.is_skipped.ensures c.in_ok-act.ensures,
  noted_act c.args.self.now c.args.number c.from.result c.in_ok-act.act c.push.new.self c.push-2.new.self c.in_ok-push.ensures.ok c.in_ok-push-2.ensures.ok
      c.from.ensures,
)
