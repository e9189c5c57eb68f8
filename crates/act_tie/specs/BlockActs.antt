-- The acts of one block, among those of a run: each as the token protocol tells it, oldest first.
use Rattle.std.specs.Prelude.{ℕ, Bool, false, nat_lt, List, [], ◌∷◌, ◌++◌, Option, Some, None, find, if◌then◌else◌}
use Rattle.xfs_base.specs.Blocks.{same_block}
use Rattle.xfs_base.specs.declared.block.BlockId.{BlockId}
use Rattle.xfs_base.specs.declared.segment.SegName.{SegName}
use Rattle.version_model.specs.declared.act.Act.{Act}
use Rattle.version_model.specs.declared.act.Act.TheVariants.{Wrote, Read, Synced, Fell, Back, Lost, Filed, Dropped, Answered}
use Rattle.version_model.specs.declared.act.Fall.{Fall}
use Rattle.version_model.specs.declared.history.FallTold.{FallTold}
use Rattle.version_model.specs.History.{History, greatest_by, nothing_yet}
use Rattle.version_model.specs.Effects.{after_act, holds_flight}
use Rattle.token_protocol.specs.Acts as block
use Rattle.token_protocol.specs.Acts.Act.{Wrote as WroteBlock, Read as ReadBlock, Synced as SyncedBlock, Fell as FellBlock, Back as BackBlock}
use Rattle.act_tie.specs.Number.{number}

-- The fall of this block, if it is among these.
abbrev pub fall_of : BlockId → List Fall → Option Fall
fall_of b falls = find (λ f. same_block f.block b) falls

-- Whether the segment in flight was adopted by a client of which these falls wait.
abbrev pub is_adopted : List SegName → List FallTold → Bool
is_adopted chain [] = false
is_adopted chain (t ∷ ts) = holds_flight chain t.flight

-- A sync is told with the greatest version of its client, where it has one.
abbrev pub acts_of_sync : ℕ → ℕ → List block.Act
acts_of_sync client version = if nat_lt 0 version then SyncedBlock client version ∷ [] else []

-- A fall is told where it names the block.
abbrev pub acts_of_fall : ℕ → Option Fall → List block.Act
acts_of_fall client None = []
acts_of_fall client (Some f) = FellBlock client f.low f.high ∷ []

-- What an act that is done in this history tells of the block.
abbrev pub block_acts : BlockId → History → Act → List block.Act
block_acts b h (Wrote client block value) = if same_block block b then WroteBlock client (number value) ∷ [] else []
block_acts b h (Read client block ver value) = if same_block block b then ReadBlock client ver (number value) ∷ [] else []
block_acts b h (Synced client) = acts_of_sync client (greatest_by client 1 (h.of_block b).versions)
block_acts b h (Fell client flight falls) = acts_of_fall client (fall_of b falls)
block_acts b h (Back client chain) = BackBlock client (is_adopted chain (h.told client)) ∷ []
block_acts b h (Lost node seg) = []
block_acts b h (Filed seg) = []
block_acts b h (Dropped seg) = []
block_acts b h (Answered node item answer) = []

-- What acts tell of it, the first of them done in this history.
abbrev pub acts_from : BlockId → History → List Act → List block.Act
acts_from b h [] = []
acts_from b h (a ∷ acts) = block_acts b h a ++ acts_from b (after_act a h) acts

-- The acts of the block.
abbrev pub acts_of : BlockId → List Act → List block.Act
acts_of b acts = acts_from b nothing_yet acts
