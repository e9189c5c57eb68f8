-- Which acts a run tells, oldest first.
use Rattle.std.specs.Prelude.{Bool, true, false, List, [], ◌∷◌, ◌++◌, max}
use Rattle.token_protocol.specs.World.{World, flying_row}
use Rattle.token_protocol.specs.Acts.{Act}
use Rattle.token_protocol.specs.Acts.Act.{Wrote, Read, Synced, Fell, Back}
use Rattle.token_protocol.specs.Step.{Step, Steps}
use Rattle.token_protocol.specs.Step.Step.{WritesFirst, Writes, Reads, Syncs, CrashesDirty, RestartsAdopting, RestartsDiscarding}
use Rattle.token_protocol.specs.Step.Steps.{Done, More}

-- A step tells at most one act. All others tell none of this block.
abbrev pub tells : {logs : Bool} (w v : World) → Step logs w v → List Act
tells w v (WritesFirst g value h) = Wrote g.client value ∷ []
tells w v (Writes c value h) = Wrote c value ∷ []
tells w v (Reads c h) = Read c (w.client c).version (w.client c).value ∷ []
tells w v (Syncs c version h) = Synced c version ∷ []
tells w v (CrashesDirty c h) = Fell c (w.client c).settled (max (w.client c).settled (flying_row w c).version) ∷ []
tells w v (RestartsAdopting c incarnation promised h k) = Back c true ∷ []
tells w v (RestartsDiscarding c incarnation promised h) = Back c false ∷ []
tells w v step = []

abbrev pub told : {logs : Bool} (w v : World) → Steps logs w v → List Act
told w v Done = []
told w v (More {v = x} steps step) = told w x steps ++ tells x v step
