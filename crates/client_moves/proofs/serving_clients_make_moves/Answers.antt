use Rattle.client_moves.proofs.Events.{serving_events_are_moves}
use Rattle.client_moves.proofs.Tokens.{inputs_are_moves}
use Rattle.client_moves.proofs.serving_clients_make_moves.Goals as goal

pub returns : goal.returns
returns c = record {
  events = serving_events_are_moves;
  inputs = inputs_are_moves;
}
