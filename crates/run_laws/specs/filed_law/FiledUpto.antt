-- How far logs are filed by acts.
use Rattle.std.specs.Prelude.{ℕ, ◌==◌, max, if◌then◌else◌, List, [], ◌∷◌}
use Rattle.node_tellings.specs.filed_tie.Reach.{Reach}
use Rattle.version_model.specs.declared.act.Act.{Act}
use Rattle.version_model.specs.declared.act.Act.TheVariants.{Filed}

-- the number of a segment of this log that is filed in an act; 0 where none is
abbrev pub filed_number : ℕ → Act → ℕ
filed_number log (Filed name) = if name.log.0 == log then name.seq else 0
filed_number log _ = 0

-- of each log, the greatest number of a segment of it that is filed in these acts; 0 where none is
abbrev pub filed_upto : List Act → Reach
filed_upto [] log = 0
filed_upto (act ∷ acts) log = max (filed_number log act) (filed_upto acts log)
