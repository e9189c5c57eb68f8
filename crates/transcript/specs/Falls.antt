-- What clients that are back have lost: each block whose history got shorter, and the version to which it fell.
use Rattle.std.specs.Prelude.{ℕ, ◌+◌, min, Bool, nat_lt, List, [], ◌∷◌, ◌++◌, map, unwrap_or, if◌then◌else◌}
use Rattle.std.specs.List.{fold}
use Rattle.std.specs.Map.{lookup, remove_entry}
use Rattle.std.specs.BTreeMap.{is_at, insert_entry}
use Rattle.std.specs.Ordering.{nat_cmp}
use Rattle.version_model.specs.declared.act.Act.{Act}
use Rattle.version_model.specs.declared.act.Act.TheVariants as acts
use Rattle.version_model.specs.declared.act.Fall.{Fall}
use Rattle.version_model.specs.declared.history.FallTold.{FallTold}
use Rattle.version_model.specs.Effects.{holds_flight}
use Rattle.xfs_base.specs.Blocks.{block_cmp}
use Rattle.xfs_base.specs.declared.block.BlockId.{BlockId}
use Rattle.xfs_base.specs.declared.segment.SegName.{SegName}
use Rattle.xfs_base.specs.Limits.{u64_end}
use Rattle.transcript.specs.declared.falls.Fallen.{Fallen}

-- a number for each of some blocks, in order of blocks
abbrev pub ByBlock : Type 0
ByBlock = List (BlockId × ℕ)

-- what is known behind some acts: how many versions each block has, the falls of each client that wait until it is back, and
-- what each client that came back has lost, until its restart is answered
pub record FallsState : Type 0 where
  pub versions : ByBlock
  pub told : List (ℕ × List FallTold)
  pub fallen : List (ℕ × List Fallen)

-- before the first act
abbrev pub falls_start : FallsState
falls_start = record { versions = []; told = []; fallen = [] }

-- how many versions a block has
abbrev pub count_of : ByBlock → BlockId → ℕ
count_of versions block = unwrap_or (lookup (is_at (block_cmp block)) versions) 0

-- one more, but for a count that stands at the end of u64
abbrev pub one_more : ℕ → ℕ
one_more n = min (n + 1) u64_end

abbrev pub add_version : ByBlock → BlockId → ByBlock
add_version versions block = insert_entry block_cmp versions block (one_more (count_of versions block))

-- what a table has of a client
abbrev pub of_client : {A : Type 0} → List (ℕ × List A) → ℕ → List A
of_client table client = unwrap_or (lookup (is_at (nat_cmp client)) table) []

abbrev pub without : {A : Type 0} → List (ℕ × List A) → ℕ → List (ℕ × List A)
without table client = remove_entry (is_at (nat_cmp client)) table

abbrev pub with_all : {A : Type 0} → List (ℕ × List A) → ℕ → List A → List (ℕ × List A)
with_all table client all = insert_entry nat_cmp table client all

-- a fall of a client waits
abbrev pub falls_tell : FallsState → ℕ → FallTold → FallsState
falls_tell s client fall = record s { told = with_all (without s.told client) client (of_client s.told client ++ fall ∷ []) }

-- the blocks while falls are settled: how many versions each has, and which fell
pub record Settling : Type 0 where
  pub versions : ByBlock
  pub fallen : ByBlock

-- a block falls to a version; it is noted where it had more
abbrev pub settling_fall : BlockId → ℕ → Settling → Settling
settling_fall block ver s =
    if nat_lt ver (count_of s.versions block)
    then record { versions = insert_entry block_cmp s.versions block ver; fallen = insert_entry block_cmp s.fallen block ver }
    else s

-- the version to which a block falls: the high one where the segment in flight was adopted
abbrev pub target_of : Fall → Bool → ℕ
target_of fall held = if held then fall.high else fall.low

abbrev pub settle_fall : Bool → Settling → Fall → Settling
settle_fall held s fall = settling_fall fall.block (target_of fall held) s

-- the blocks of one crash fall
abbrev pub settling_settle : List SegName → Settling → FallTold → Settling
settling_settle chain s told = fold (settle_fall (holds_flight chain told.flight)) s told.falls

abbrev pub fallen_at : BlockId × ℕ → Fallen
fallen_at e = record { block = e.0; ver = e.1 }

-- a client is back with this of its falls
abbrev pub comes_back : FallsState → ℕ → Settling → FallsState
comes_back s client settled = record {
  versions = settled.versions;
  told = without s.told client;
  fallen = with_all s.fallen client (map fallen_at settled.fallen);
}

-- all that waits of a client falls
abbrev pub settled_by : FallsState → ℕ → List SegName → Settling
settled_by s client chain = fold (settling_settle chain) (record { versions = s.versions; fallen = [] }) (of_client s.told client)

-- an act more
abbrev pub falls_take : FallsState → Act → FallsState
falls_take s (acts.Wrote client block value) = record s { versions = add_version s.versions block }
falls_take s (acts.Fell client flight falls) = falls_tell s client (record { flight = flight; falls = falls })
falls_take s (acts.Back client chain) = comes_back s client (settled_by s client chain)
falls_take s act = s
