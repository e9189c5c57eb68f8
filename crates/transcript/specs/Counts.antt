-- The line of counts of an estate.
use Rattle.std.specs.Prelude.{ℕ, ◌+◌, List, [], ◌∷◌, ◌++◌, codes}
use Rattle.std.specs.List.{fold}
use Rattle.std.specs.Fmt.{decimal}
use Rattle.version_model.specs.declared.act.Act.{Act}
use Rattle.version_model.specs.declared.act.Act.TheVariants as acts
use Rattle.world_base.specs.declared.estate.Estate.{Estate}
use Rattle.transcript.specs.Replies.{items_in, open_items}
use Rattle.transcript.specs.declared.counts.Counts.{Counts}

abbrev pub no_counts : Counts
no_counts = record { wrote = 0; read = 0; filed = 0; dropped = 0; lost = 0 }

-- how many acts were counted
abbrev pub acts_counted : Counts → ℕ
acts_counted c = c.wrote + c.read + c.filed + c.dropped + c.lost

-- one act more
abbrev pub counts_with : Counts → Act → Counts
counts_with c (acts.Wrote client block value) = record c { wrote = c.wrote + 1 }
counts_with c (acts.Read client block ver value) = record c { read = c.read + 1 }
counts_with c (acts.Filed seg) = record c { filed = c.filed + 1 }
counts_with c (acts.Dropped seg) = record c { dropped = c.dropped + 1 }
counts_with c (acts.Lost node seg) = record c { lost = c.lost + 1 }
counts_with c act = c

-- how many acts there are of each kind that is counted
abbrev pub counts_of : List Act → Counts
counts_of acts = fold counts_with no_counts acts

abbrev pub segments_text : Counts → List ℕ
segments_text c =
    codes " filed " ++ (decimal c.filed ++ (codes " dropped " ++ (decimal c.dropped ++ (codes " lost " ++ (decimal c.lost ++ 10 ∷ [])))))

abbrev pub counts_text : Counts → List ℕ
counts_text c = codes " wrote " ++ (decimal c.wrote ++ (codes " read " ++ (decimal c.read ++ segments_text c)))

module _ {N : Type 0} where
  unfoldable pub brief_of : Estate N → List ℕ
  brief_of e = codes "items " ++ (decimal (items_in e) ++ (codes " open " ++ (decimal (open_items e) ++ counts_text (counts_of e.world.acts))))
