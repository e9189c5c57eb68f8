use Rattle.std.proofs.Common.{◌+◌, ap, ◌∙◌, arith}
use Rattle.delta_index.specs.Entries.{first_greatest}
use Rattle.delta_index.specs.Join.{join}
use Rattle.delta_feed.specs.History.{filed_by, deltas_between}
use Rattle.delta_feed.proofs.RangeRows.{filed_rising}
use Rattle.delta_feed.proofs.Extension.{extend}
use Rattle.delta_feed.proofs.laws.ranges_extend_what_is_known.Goals as goal

pub returns : goal.returns
returns c = λ base inputs slot first upto rows told applied q at meets covers.
    ap (first_greatest (join (deltas_between (base + 1) applied (filed_by base inputs)) q)) (told.joins q at)
    ∙ extend base first applied upto q meets covers base (filed_by base inputs) (omega arith) (rw told.ends (filed_rising base inputs))
