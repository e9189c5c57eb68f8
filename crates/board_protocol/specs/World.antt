-- The boards, and what is known of the past. Boards have numbers; of the numbers, 0, 1 and 2 are boards that count. C is the type of commands.
use Rattle.std.specs.Prelude.{◌≡◌, ℕ, ◌==◌, nat_le, if◌then◌else◌, List, []}
use Rattle.board_protocol.specs.Board.{Board}
use Rattle.board_protocol.specs.Packets.{Prepare, Promised, Install, Append, Accepted}

pub record World (C : Type 0) : Type 0 where
  -- whose each ballot is, which never changes
  pub owner : ℕ → ℕ
  pub board : ℕ → Board C
  -- ghosts: the list of each ballot's leader, 1 once the ballot had a leader, the length with which it began,
  -- and how much of it each board accepted
  pub book : ℕ → List C
  pub led : ℕ → ℕ
  pub base : ℕ → ℕ
  pub accepted : ℕ → ℕ → ℕ
  -- packets
  pub prepares : List Prepare
  pub promises : List (Promised C)
  pub installs : List (Install C)
  pub appends : List (Append C)
  pub accepts : List Accepted

module _ {C : Type 0} where
  -- A board at the start: it has promised and accepted ballot 1, with the empty list.
  abbrev pub first_board : ℕ → Board C
  first_board leads = record { up = 1; promised = 1; ballot = 1; list = []; waiting = []; leads = leads; known = λ j. 1; done = 0; applied = [] }

  -- The start: the owner of ballot 1 leads. (Ballot 0 counts as one that had a leader, with the empty list.)
  abbrev pub start : (ℕ → ℕ) → World C
  start owner = record {
    owner = owner;
    board = λ k. first_board (if k == owner 1 then 1 else 0);
    book = λ b. [];
    led = λ b. if nat_le b 1 then 1 else 0;
    base = λ b. 0;
    accepted = λ k b. 0;
    prepares = [];
    promises = [];
    installs = [];
    appends = [];
    accepts = [];
  }

  -- The board is up.
  abbrev pub Up : World C → ℕ → Type 0
  Up w k = (w.board k).up ≡ 1

  -- The board leads.
  abbrev pub Leads : World C → ℕ → Type 0
  Leads w k = (w.board k).leads ≡ 1
