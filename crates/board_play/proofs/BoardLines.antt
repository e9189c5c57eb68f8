-- The lines that ask something of a board are no items.
use Rattle.std.proofs.Common.{◌≡◌, ◌⊎◌, refl, inl, inr, ℕ, Option, Some, None}
use Rattle.version_model.specs.declared.work.Work.{Work}
use Rattle.version_model.specs.declared.work.Work.TheVariants as works
use Rattle.world_base.specs.Items.{actor_of}
use Rattle.board_world.specs.declared.board_event.BoardEvent.TheVariants.{Stop, Start}
use Rattle.board_play.specs.Plays.{board_event}

-- a line asks nothing of a board, or it stops or starts one and is no item
pub record AsksBoard (work : Work) : Type 0 where
  pub board : ℕ
  pub event : (board_event work ≡ Some (Stop board)) ⊎ (board_event work ≡ Some (Start board))
  pub no_item : actor_of work ≡ None

pub board_line : (work : Work) → (board_event work ≡ None) ⊎ AsksBoard work
board_line (works.Bput client block value) = inl refl
board_line (works.Bget client block) = inl refl
board_line (works.Sync client) = inl refl
board_line (works.File client call) = inl refl
board_line (works.Crash node) = inl refl
board_line (works.Restart node) = inl refl
board_line (works.Checkpoint manager) = inl refl
board_line (works.Lose server) = inl refl
board_line (works.Rebuild server) = inl refl
board_line (works.Move slot manager) = inl refl
board_line (works.Clean count) = inl refl
board_line (works.NetLose count) = inl refl
board_line (works.NetAgain count) = inl refl
board_line (works.NetMix number) = inl refl
board_line works.NetHold = inl refl
board_line works.NetGo = inl refl
board_line (works.NetStep count) = inl refl
board_line (works.BoardStop board) = inr (record { board = board; event = inl refl; no_item = refl })
board_line (works.BoardStart board) = inr (record { board = board; event = inr refl; no_item = refl })
board_line (works.ServerStop server passes) = inl refl
board_line (works.ServerStart server) = inl refl
