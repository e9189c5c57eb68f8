use Rattle.std.proofs.Common.{◌≡◌, take}
use Rattle.rtrb.specs.Ring.{SameProducer, sent}
use Rattle.mounts.specs.Replies.{replies_of}
use Rattle.mounts.proofs.mounted_cell.give_rest.Given as goal

-- the replies so far are given
abbrev pub invariant-loop-place : goal.invariant-loop-place
invariant-loop-place l = record {
  calls : l.port.calls ≡ l.fn.port.calls;
  ring : SameProducer l.fn.port.replies l.port.replies;
  given : sent l.port.replies ≡ replies_of (take l.place l.answered);
}
