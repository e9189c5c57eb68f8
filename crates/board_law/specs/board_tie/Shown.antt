-- How a board of the machine stands to a board of the protocol.
use Rattle.std.specs.Prelude.{◌≡◌, ℕ, suc, ◌-◌, Bool, true, false, Option, Some, None, length}
use Rattle.board_protocol.specs.Board as protocol
use Rattle.board.specs.declared.command.Command.{Command}
use Rattle.board.specs.Ballots.{owner_of}
use Rattle.board.specs.State.{BoardState}

-- a test, as the protocol writes it
abbrev pub flag : Bool → ℕ
flag false = 0
flag true = 1

-- a length that may be none, as the protocol writes it
abbrev pub shown : Option ℕ → ℕ
shown None = 0
shown (Some n) = suc n

-- Boards are numbered from 1 in the machine, and from 0 in the protocol.
abbrev pub owner : ℕ → ℕ
owner ballot = owner_of ballot - 1

-- The board of the protocol at this place is the machine's, part by part; the machine keeps how many commands it has applied.
pub record Shows (place : ℕ) (x : protocol.Board Command) (s : BoardState) : Type 0 where
  pub number : s.number ≡ suc place
  pub up : x.up ≡ flag s.up
  pub promised : x.promised ≡ s.promised
  pub ballot : x.ballot ≡ s.ballot
  pub list : x.list ≡ s.list
  pub waiting : x.waiting ≡ s.waiting
  pub leads : x.leads ≡ flag s.leads
  pub first : x.known 0 ≡ shown s.known.one
  pub second : x.known 1 ≡ shown s.known.two
  pub third : x.known 2 ≡ shown s.known.three
  pub done : x.done ≡ s.done
  pub applied : length x.applied ≡ s.applied
