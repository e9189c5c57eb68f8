-- Runs of the index go on: what a run reaches is reached when more steps follow.
use Rattle.log_protocol.specs.IndexState.{IndexState}
use Rattle.log_protocol.specs.IndexSteps.{IndexStep, IndexSteps}
use Rattle.log_protocol.specs.IndexSteps.IndexStep.{Files, Files_none, Copies, Merges, Activates, Keeps, Moves, Promises, Beats, Counts, Drops_row}
use Rattle.log_protocol.specs.IndexSteps.IndexSteps.{Done, More}
use Rattle.log_protocol.specs.IndexLaws.{IndexReached}

pub index_steps_on : (w v u : IndexState) → IndexSteps w v → IndexSteps v u → IndexSteps w u
index_steps_on w v u run Done = run
index_steps_on w v u run (More {v = x} more step) = More (index_steps_on w v x run more) step

index_reached_step : (w u : IndexState) → IndexStep w u → IndexReached w → IndexReached u
index_reached_step w u (Files l version can) reached = More reached (Files l version can)
index_reached_step w u (Files_none l can) reached = More reached (Files_none l can)
index_reached_step w u (Copies l q can) reached = More reached (Copies l q can)
index_reached_step w u (Merges e applied entry can) reached = More reached (Merges e applied entry can)
index_reached_step w u (Activates e applied entry can) reached = More reached (Activates e applied entry can)
index_reached_step w u (Keeps horizon can) reached = More reached (Keeps horizon can)
index_reached_step w u Moves reached = More reached Moves
index_reached_step w u (Promises e can) reached = More reached (Promises e can)
index_reached_step w u (Beats d e l q can) reached = More reached (Beats d e l q can)
index_reached_step w u (Counts e l q can) reached = More reached (Counts e l q can)
index_reached_step w u (Drops_row l q can) reached = More reached (Drops_row l q can)

pub index_reached_on : (w u : IndexState) → IndexReached w → IndexSteps w u → IndexReached u
index_reached_on w u reached Done = reached
index_reached_on w u reached (More {v = v} run step) = index_reached_step v u step (index_reached_on w v reached run)
