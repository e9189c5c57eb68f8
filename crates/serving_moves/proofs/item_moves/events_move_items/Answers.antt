use Rattle.serving_moves.proofs.item_moves.Cleaners.{cleaner_turned}
use Rattle.serving_moves.proofs.item_moves.Clients.{any_turned}
use Rattle.serving_moves.proofs.item_moves.Managers.{manager_turned}
use Rattle.serving_moves.proofs.item_moves.Registries.{registry_turned}
use Rattle.serving_moves.proofs.item_moves.Servers.{server_turned}
use Rattle.serving_moves.proofs.item_moves.events_move_items.Goals as goal

pub returns : goal.returns
returns c = record {
  clients = λ node what. (any_turned node what).event;
  managers = λ node what. (manager_turned node what).event;
  servers = λ node what. (server_turned node what).event;
  cleaner = λ node what. (cleaner_turned node what).event;
  registry = λ node what. (registry_turned node what).event;
}
