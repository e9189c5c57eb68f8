-- What the machine makes of an input is a list of steps of the protocol.
use Rattle.std.specs.Prelude.{◌≡◌, ℕ, List, [], ◌∷◌, ◌++◌}
use Rattle.board_protocol.specs.Step.{Steps}
use Rattle.board_protocol.specs.World.{World}
use Rattle.board.specs.declared.command.Command.{Command}
use Rattle.board.specs.declared.output.Out.{Out}
use Rattle.board.specs.declared.output.Out.TheVariants.{Send, Apply}
use Rattle.board.specs.Transition.{Done}
use Rattle.board_law.specs.board_tie.Sent.{AllSent}
use Rattle.board_law.specs.board_tie.Shown.{Shows}

-- The commands that are given to apply, in order.
abbrev pub applied_in : List Out → List Command
applied_in [] = []
applied_in (Send packet ∷ outs) = applied_in outs
applied_in (Apply command ∷ outs) = command ∷ applied_in outs

pub record Follows (w : World Command) (place : ℕ) (made : Done) : Type 0 where
  -- The protocol comes by its steps to a world whose board at this place is what the machine made.
  pub world : World Command
  pub steps : Steps w world
  pub shows : Shows place (world.board place) made.state
  -- No other board changes.
  pub others : (other : ℕ) → (other ≡ place → ⊥) → world.board other ≡ w.board other
  -- What went out was sent, and what is given to apply is what the board has applied more.
  pub sent : AllSent world made.outs
  pub applied : (world.board place).applied ≡ (w.board place).applied ++ applied_in made.outs
