-- Quiet scripts, and what is claimed of their runs: each item is answered, each once, within few deliveries and one round at most.
use Rattle.std.specs.Prelude.{◌≡◌, ◌≤◌, ◌^◌, ℕ, Bool, true, false, ◌&&◌, nat_le, nat_lt, List, length, Option, Some, None}
use Rattle.std.specs.List.{list_all}
use Rattle.node_base.specs.Setups.{IsSetup}
use Rattle.script_text.specs.declared.script.Line.{Line}
use Rattle.script_text.specs.declared.script.Script.{Script}
use Rattle.segment_format.specs.Format.{second_version, is_length}
use Rattle.version_model.specs.declared.work.Work.{Work}
use Rattle.version_model.specs.declared.work.Work.TheVariants as works
use Rattle.xfs_base.specs.declared.block.BlockId.{BlockId}
use Rattle.xfs_base.specs.declared.setup.Setup.{Setup}
use Rattle.xfs_base.specs.Limits.{max_lines}

-- ---- quiet scripts

abbrev pub is_client : Setup → ℕ → Bool
is_client setup c = nat_le 1 c && nat_le c setup.clients

-- the numbers of a block have 32 bits
abbrev pub has_numbers : BlockId → Bool
has_numbers block = nat_lt block.ino.0 (2 ^ 32) && nat_lt block.blk (2 ^ 32)

abbrev pub is_byte : ℕ → Bool
is_byte n = nat_lt n 256

-- an absent value, or 1 to 8,192 bytes
abbrev pub has_length : Option (List ℕ) → Bool
has_length None = true
has_length (Some bytes) = is_length second_version (length bytes) && list_all is_byte bytes

-- the numbers and values of a work are in range, and the client is one of the setup
abbrev pub is_in_range : Setup → Work → Bool
is_in_range setup (works.Bput c block value) = is_client setup c && (has_numbers block && has_length value)
is_in_range setup (works.Bget c block) = is_client setup c && has_numbers block
is_in_range setup (works.Sync c) = is_client setup c
is_in_range setup work = false

-- a run of the setup can be started, there are no more lines than a script may have, and each is in range
pub record IsOrderly (script : Script) : Type 0 where
  pub setup : IsSetup script.setup
  pub few : length script.lines ≤ max_lines
  pub each : list_all (λ (line : Line). is_in_range script.setup line.work) script.lines ≡ true
