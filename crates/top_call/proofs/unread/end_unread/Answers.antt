use Rattle.top_call.proofs.Claims.{cannot_read, gives_up}
use Rattle.top_call.proofs.unread.end_unread.Goals as goal

pub returns-in-Failed-clause-told : goal.returns-in-Failed-clause-told
returns-in-Failed-clause-told g c = rw c.in-Failed.is (cannot_read g.K.Sink.written g.K.Sink.faults c.args.sink.now c.ended.result c.ended.ensures)

pub returns-in-Memory-clause-told : goal.returns-in-Memory-clause-told
returns-in-Memory-clause-told g c =
    rw c.in-Memory.is (gives_up g.K.Sink.written g.K.Sink.faults c.args.sink.now c.ended-in-Memory.result c.ended-in-Memory.ensures)

pub returns-in-Bad-clause-told : goal.returns-in-Bad-clause-told
returns-in-Bad-clause-told g c = rw c.in-Bad.is c.refuse.ensures.told
