use Rattle.top_call.proofs.Setups.{script_setup}
use Rattle.top_call.proofs.boards.played.Goals as goal

pub board_play-requires : goal.board_play-requires
board_play-requires g c = script_setup c.args.script.now c.requires
