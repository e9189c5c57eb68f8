-- Which packets of the machine the protocol has sent.
use Rattle.std.specs.Prelude.{⊤, ◌≡◌, ℕ, suc, List, [], ◌∷◌}
use Rattle.board_protocol.specs.Basics.{In}
use Rattle.board_protocol.specs.World.{World}
use Rattle.board.specs.declared.command.Command.{Command}
use Rattle.board.specs.declared.input.In as inputs
use Rattle.board.specs.declared.input.In.TheVariants as input
use Rattle.board.specs.declared.output.Out.{Out}
use Rattle.board.specs.declared.output.Out.TheVariants.{Send, Apply}
use Rattle.board.specs.declared.packet.BoardBody.{BoardBody}
use Rattle.board.specs.declared.packet.BoardBody.TheVariants.{Prepare, Promised, Install, Append, Accepted}
use Rattle.board.specs.declared.packet.BoardPacket.{BoardPacket}

-- The board at this place has said so. An Append of the protocol names the place of its command, one less than the length up to it.
abbrev pub Said : World Command → ℕ → BoardBody → Type 0
Said w place (Prepare ballot) = In (record { ballot = ballot }) w.prepares
Said w place (Promised ballot last list) = In (record { from = place; ballot = ballot; last = last; list = list }) w.promises
Said w place (Install ballot list) = In (record { ballot = ballot; list = list }) w.installs
Said w place (Append ballot count command) = (before : ℕ) × (count ≡ suc before) × In (record { ballot = ballot; place = before; command = command }) w.appends
Said w place (Accepted ballot count) = In (record { from = place; ballot = ballot; length = count }) w.accepts

-- The packet was sent by the board whose number it bears.
pub record Sent (w : World Command) (packet : BoardPacket) : Type 0 where
  pub place : ℕ
  pub from : packet.from ≡ suc place
  pub said : Said w place packet.body

-- A packet that comes was sent.
abbrev pub Came : World Command → inputs.In → Type 0
Came w (input.Offer command) = ⊤
Came w (input.Mail packet) = Sent w packet
Came w input.Beat = ⊤
Came w input.Stop = ⊤
Came w input.Start = ⊤

-- All packets that go out were sent.
abbrev pub IsSent : World Command → Out → Type 0
IsSent w (Send packet) = Sent w packet
IsSent w (Apply command) = ⊤

abbrev pub AllSent : World Command → List Out → Type 0
AllSent w [] = ⊤
AllSent w (out ∷ outs) = IsSent w out × AllSent w outs
