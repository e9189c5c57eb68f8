-- The kinds of steps of the index of a block, by which a run says what it does.
use Rattle.std.specs.Prelude.{List, [], ◌∷◌}
use Rattle.log_protocol.specs.IndexState.{IndexState}
use Rattle.log_protocol.specs.IndexSteps.{IndexStep, IndexSteps}
use Rattle.log_protocol.specs.IndexSteps.IndexStep.{Files, Files_none, Copies, Merges, Activates, Keeps, Moves, Promises, Beats, Counts, Drops_row}
use Rattle.log_protocol.specs.IndexSteps.IndexSteps.{Done, More}

pub data IndexKind : Type 0 where
  File : IndexKind
  File_none : IndexKind
  Copy : IndexKind
  Merge : IndexKind
  Activate : IndexKind
  Keep : IndexKind
  Move : IndexKind
  Promise : IndexKind
  Answer_dead : IndexKind
  Count : IndexKind
  Drop_row : IndexKind

abbrev pub index_kind : {w u : IndexState} → IndexStep w u → IndexKind
index_kind (Files l version can) = File
index_kind (Files_none l can) = File_none
index_kind (Copies l q can) = Copy
index_kind (Merges e applied entry can) = Merge
index_kind (Activates e applied entry can) = Activate
index_kind (Keeps horizon can) = Keep
index_kind Moves = Move
index_kind (Promises e can) = Promise
index_kind (Beats d e l q can) = Answer_dead
index_kind (Counts e l q can) = Count
index_kind (Drops_row l q can) = Drop_row

-- the kinds of a run's steps, in order, and then the rest
abbrev pub index_kinds_then : {w u : IndexState} → IndexSteps w u → List IndexKind → List IndexKind
index_kinds_then Done rest = rest
index_kinds_then (More run step) rest = index_kinds_then run (index_kind step ∷ rest)

abbrev pub index_kinds : {w u : IndexState} → IndexSteps w u → List IndexKind
index_kinds run = index_kinds_then run []
