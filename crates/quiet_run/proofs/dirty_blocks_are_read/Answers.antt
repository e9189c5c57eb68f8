use Rattle.quiet_run.proofs.GetsFromDirty.{gets_from_dirty}
use Rattle.quiet_run.proofs.dirty_blocks_are_read.Goals as goal

pub returns : goal.returns
returns c = record {
  gets = λ setup works ok k s t c o b few drained stands ordered next least most differ dirty.
      gets_from_dirty setup works k s t c o drained stands ok few b next (least, most) differ dirty ordered;
}
