-- What holds of each move, and of one thing behind another, holds of a list of moves.
use Rattle.client_serving.specs.declared.serving.Serving.{Serving}
use Rattle.client_serving.specs.Reads.{loses}
use Rattle.client_serving.specs.Sends.{Done}
use Rattle.xfs_base.specs.declared.block.BlockId.{BlockId}
use Rattle.xfs_base.specs.declared.segment.SegName.{SegName}
use Rattle.xfs_base.specs.Steps.{saying}
use Rattle.serving_moves.proofs.call_moves.Keeping.{call_then, no_call}
use Rattle.serving_moves.specs.call_moves.Moves.{AllStill, CallStays, CallsStay, HasCall, Kept, Move, Moves}
use Rattle.serving_moves.specs.call_moves.Moves.Move.{Steps, Loses}
use Rattle.serving_moves.specs.call_moves.Moves.Moves.{Last, Then}

module _ (G : Serving → Done → Type 0) (steps : (s : Serving) (d : Done) → Kept s d.state → AllStill d.outs → G s d)
    (losses : (s : Serving) → HasCall s → (block : BlockId) (name : SegName) → G s (loses s block name))
    (thens : (s : Serving) (d x : Done) → G s d → G d.state x → G s (saying d.outs x)) where
  of_move : (s : Serving) (d : Done) → Move s d → G s d
  of_move s d (Steps kept plain) = steps s d kept plain
  of_move s d (Loses has block name) = losses s has block name

  pub of_moves : (s : Serving) (d : Done) → Moves s d → G s d
  of_moves s d (Last move) = of_move s d move
  of_moves s d (Then now e move rest) = thens s now e (of_move s now move) (of_moves now.state e rest)

loses_stays : (s : Serving) → HasCall s → (block : BlockId) (name : SegName) → CallStays s.call (loses s block name).state.call
unfolding loses
loses_stays s has block name = no_call s.call

pub calls_stay : CallsStay
calls_stay =
    of_moves (λ s d. CallStays s.call d.state.call) (λ s d kept plain. kept.calls) loses_stays
    (λ s d x before behind. call_then s.call d.state.call x.state.call before behind)
