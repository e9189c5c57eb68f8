-- At a moment of a run the small world of a slot's tokens is tied to that of its index.
use Rattle.std.proofs.Common.{ℕ, ◌<◌, arith}
use Rattle.node_slots.proofs.node_tie.SmallWorld.{with_promise}
use Rattle.node_slots.specs.node_index_tie.Sight.{held_in}
use Rattle.run_laws.specs.index_reads.Ties.{Tied}
use Rattle.run_laws.specs.world_law.Standing.{members}
use Rattle.run_laws.specs.world_reads.Joint.{Joint, k}
use Rattle.run_laws.specs.world_reads.LoggedRuns.{LoggedRun}
use Rattle.xfs_base.specs.Limits.{slot_count}

pub slot_tied : (logged : LoggedRun) (part : ℕ) → part < slot_count → (count : ℕ) (joint : Joint logged part count)
    → Tied (members (k logged part) part) part (held_in part logged.texts.text) (with_promise 1 joint.tok.net) joint.idx.net
slot_tied logged part of_eight count joint = record {
  some = omega arith;
  few = joint.tokens_stand.few;
  of_map = of_eight;
  tokens_run = joint.tokens_stand.runs;
  any = logged.first;
  index_run = joint.index_stands.runs;
  books = joint.books;
  plain = λ l q low high some limit. (joint.tells l q some limit).plain;
}
