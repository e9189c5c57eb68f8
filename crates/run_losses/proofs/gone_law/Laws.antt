-- What a manager says is gone, and what a client says is lost for it, in every run.
use Rattle.log_tie.specs.Setting.{Setting}
use Rattle.manager_moves.specs.Moves.{ManagerEventsAreMoves}
use Rattle.run_laws.specs.reading_law.Readings.{RunsReadWhatCame}
use Rattle.run_laws.proofs.world_law.Laws.{NodeLaws}
use Rattle.run_laws.specs.world_logs.Lines.{RunsHaveLines}
use Rattle.run_losses.proofs.gone_law.Counts.{broken_were_lost, gones_were_lost}
use Rattle.run_losses.proofs.gone_law.Told.{told_lost}
use Rattle.run_losses.specs.gone_law.Gones.{ClientsAreToldWhatWasLost, ManagersSayGoneWhatTheyLost}

pub record Below : Type 0 where
  pub moves : ManagerEventsAreMoves
  pub setting : Setting
  pub lines : RunsHaveLines
  pub came : RunsReadWhatCame
  pub nodes : NodeLaws

pub managers_lost : Below → ManagersSayGoneWhatTheyLost
managers_lost below e ok run j is_there = (
  broken_were_lost below.moves below.setting e run (below.lines below.setting e ok run) j is_there (below.came e ok run),
  gones_were_lost below.moves below.setting e run (below.lines below.setting e ok run) j is_there (below.came e ok run),
)

pub clients_told : Below → ClientsAreToldWhatWasLost
clients_told below e ok run c count event fact own s serves name among brings =
    told_lost below.nodes e ok run (λ j is_there. (managers_lost below e ok run j is_there).1) c count event fact s serves name brings
