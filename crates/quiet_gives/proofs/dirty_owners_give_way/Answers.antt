use Rattle.quiet_gives.proofs.PutsFromDirty.{puts_from_dirty}
use Rattle.quiet_gives.proofs.dirty_owners_give_way.Goals as goal

pub returns : goal.returns
returns c = record {
  puts = λ setup works ok k s t c o b value few drained stands next range least most differ dirty.
      puts_from_dirty setup works k s t c o drained stands ok few b value next range (least, most) differ dirty;
}
