-- The state of a board.
use Rattle.std.specs.Prelude.{ℕ, Bool, true, false, ◌==◌, List, [], take, Some, if◌then◌else◌}
use Rattle.board.specs.declared.command.Command.{Command}
use Rattle.board.specs.declared.lengths.Lengths.{Lengths}
use Rattle.board.specs.Ballots.{owner_of}
use Rattle.board.specs.Lengths.{all_known}

pub record BoardState : Type 0 where
  -- its number: 1, 2 or 3
  pub number : ℕ
  pub up : Bool
  -- it accepts nothing below this ballot
  pub promised : ℕ
  -- the ballot and the list that it accepted last
  pub ballot : ℕ
  pub list : List Command
  -- commands that it was offered and that aren't done
  pub waiting : List Command
  pub leads : Bool
  -- as a leader: what each other board is known to have accepted of its ballot, and the length that is done
  pub known : Lengths
  pub done : ℕ
  -- how many commands it has applied
  pub applied : ℕ
  -- an Install or an Append came to it since its last beat
  pub heard : Bool

-- a board at the start of a run: board 1 leads ballot 1
abbrev pub board_start : ℕ → BoardState
board_start number = record {
  number = number;
  up = true;
  promised = 1;
  ballot = 1;
  list = [];
  waiting = [];
  leads = number == 1;
  known = all_known (Some 0);
  done = 0;
  applied = 0;
  heard = false;
}

-- the commands at the front of its list that are surely chosen: all of a list that another board leads, since then two have it, and
-- what is done of one that it leads
abbrev pub chosen_part : BoardState → List Command
chosen_part s = if s.leads then take s.done s.list else (if owner_of s.ballot == s.number then [] else s.list)
