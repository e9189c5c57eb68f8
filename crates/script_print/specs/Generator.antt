-- The script that a number draws.
use Rattle.std.specs.Prelude.{ℕ, zero, suc, ◌+◌, ◌*◌, ◌%◌, ◌==◌, nat_lt, false, List, [], ◌∷◌, ◌++◌, Some, if◌then◌else◌}
use Rattle.std.specs.Fmt.{decimal}
use Rattle.xfs_base.specs.declared.block.BlockId.{BlockId}
use Rattle.xfs_base.specs.declared.setup.Setup.{Setup}
use Rattle.xfs_base.specs.declared.node.NodeId.{NodeId}
use Rattle.xfs_base.specs.declared.node.NodeId.TheVariants as nodes
use Rattle.xfs_base.specs.Draws.{next_number, drawn}
use Rattle.version_model.specs.declared.work.Work.{Work}
use Rattle.version_model.specs.declared.work.Work.TheVariants as works
use Rattle.script_text.specs.declared.script.Line.{Line}
use Rattle.script_text.specs.declared.script.Script.{Script}
use Rattle.script_text.specs.Forms.{block_at}
use Rattle.script_text.specs.Script.{item_at}
use Rattle.script_print.specs.declared.draws.Draws.{Draws}

-- the five draws of a turn
abbrev pub draws_from : ℕ → Draws
draws_from x = record {
  kind = drawn (next_number x);
  node = drawn (next_number (next_number x));
  file = drawn (next_number (next_number (next_number x)));
  slot = drawn (next_number (next_number (next_number (next_number x))));
  block = drawn (next_number (next_number (next_number (next_number (next_number x)))));
  left = next_number (next_number (next_number (next_number (next_number x))));
}

abbrev pub client_of : Draws → ℕ
client_of d = d.node % 4 + 1

abbrev pub manager_of : Draws → ℕ
manager_of d = d.node % 2 + 1

abbrev pub server_of : Draws → ℕ
server_of d = d.block % 6 + 1

abbrev pub block_of : Draws → BlockId
block_of d = block_at (128 * (1 + d.file % 8) + d.slot % 8) (d.block % 16)

-- a node crashes and restarts
abbrev pub fall_of : NodeId → List Work
fall_of node = works.Crash node ∷ works.Restart node ∷ []

-- a checkpoint, a round of the cleaner, or a loss that is filled again
abbrev pub rare_works : Draws → List Work
rare_works d =
    if d.file % 3 == 0 then works.Checkpoint (manager_of d) ∷ []
    else if d.file % 3 == 1 then works.Clean 2 ∷ []
    else works.Lose (server_of d) ∷ works.Rebuild (server_of d) ∷ []

-- what the turn of this number makes of its draws
abbrev pub turn_works : ℕ → Draws → List Work
turn_works turn d =
    if nat_lt (d.kind % 16) 6 then works.Bput (client_of d) (block_of d) (Some (decimal turn)) ∷ []
    else if nat_lt (d.kind % 16) 12 then works.Bget (client_of d) (block_of d) ∷ []
    else if d.kind % 16 == 12 then works.Sync (client_of d) ∷ []
    else if d.kind % 16 == 13 then fall_of (nodes.Client (client_of d))
    else if d.kind % 16 == 14 then fall_of (nodes.Manager (manager_of d))
    else rare_works d

-- what so many turns make, of which the first has this number and draws from that one
abbrev pub works_from : ℕ → ℕ → ℕ → List Work
works_from zero turn x = []
works_from (suc n) turn x = turn_works turn (draws_from x) ++ works_from n (turn + 1) (draws_from x).left

-- items on one line after the other, the first of this number
abbrev pub numbered : ℕ → List Work → List Line
numbered n [] = []
numbered n (w ∷ ws) = item_at n 0 w ∷ numbered (n + 1) ws

abbrev pub generated_setup : Setup
generated_setup = record {
  clients = 4;
  managers = 2;
  servers = 6;
  groups = record { servers = 1 ∷ 2 ∷ 3 ∷ []; parity = 1 } ∷ record { servers = 4 ∷ 5 ∷ 6 ∷ []; parity = 1 } ∷ [];
  cache = 8;
  acts = false;
}

-- the script of so many turns, behind the seven lines of its setup
abbrev pub generated : ℕ → ℕ → Script
generated number n = record { setup = generated_setup; lines = numbered 8 (works_from n 1 (number % 2147483648)) }
