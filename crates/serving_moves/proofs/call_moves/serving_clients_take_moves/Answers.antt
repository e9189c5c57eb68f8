use Rattle.serving_moves.proofs.call_moves.Arriving.{packet_goes, tick_goes}
use Rattle.serving_moves.proofs.call_moves.Blocks.{makes_go}
use Rattle.serving_moves.proofs.call_moves.Reading.{calls_stay}
use Rattle.serving_moves.proofs.call_moves.serving_clients_take_moves.Goals as goal

pub returns : goal.returns
returns c = record {
  packets = packet_goes;
  ticks = tick_goes;
  calls = makes_go;
  stays = calls_stay;
}
