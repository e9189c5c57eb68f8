use Rattle.std.proofs.Common.{◌≡◌, ◌≤◌, ◌+◌, drop}
use Rattle.std.specs.List.{count_by}
use Rattle.transcript.specs.Replies.{is_item}
use Rattle.transcript.proofs.replies.count_items.Given as goal

abbrev pub invariant-loop-line : goal.invariant-loop-line
invariant-loop-line l = (l.count + count_by is_item (drop l.line-index l.lines) ≡ count_by is_item l.lines) × (l.count ≤ l.line-index)
