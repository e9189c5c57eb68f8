use Rattle.token_tie.proofs.TakingOver.{supplies_newest, restart_shows, activation_shows, activation_manages, reports_believed}
use Rattle.token_tie.proofs.epochs.Goals as goal

pub returns : goal.returns
returns c = record {
  supplies = supplies_newest;
  restart = restart_shows;
  activation_of_client = activation_shows;
  activation_of_slot = activation_manages;
  reports = reports_believed;
}
