-- How the history of a block in a run is seen in the history that the acts of the block make; and that the falls of a run are apart.
use Rattle.std.specs.Prelude.{◌≡◌, ℕ, suc, List, [], ◌∷◌, length, slice_get, Option, Some, None}
use Rattle.xfs_base.specs.declared.block.BlockId.{BlockId}
use Rattle.version_model.specs.declared.act.Fall.{Fall}
use Rattle.version_model.specs.declared.history.Version.{Version}
use Rattle.version_model.specs.declared.history.BlockHistory.{BlockHistory}
use Rattle.version_model.specs.declared.history.FallTold.{FallTold}
use Rattle.version_model.specs.History.{History}
use Rattle.version_model.specs.Legal.{NamesNoBlockTwice}
use Rattle.token_protocol.specs.Acts as block
use Rattle.act_tie.specs.BlockActs.{fall_of}
use Rattle.act_tie.specs.Number.{number}

-- A client fell with the block where its fall names it, to these versions.
abbrev pub FallShown : Option Fall → ℕ → ℕ → ℕ → Type 0
FallShown None fallen low high = fallen ≡ 0
FallShown (Some f) fallen low high = (fallen ≡ 1) × (low ≡ f.low) × (high ≡ f.high)

-- Of a client one fall waits at most.
abbrev pub FallsShown : BlockId → List FallTold → ℕ → ℕ → ℕ → Type 0
FallsShown b [] fallen low high = fallen ≡ 0
FallsShown b (t ∷ []) fallen low high = NamesNoBlockTwice t.falls × FallShown (fall_of b t.falls) fallen low high
FallsShown b (t ∷ u ∷ ts) fallen low high = ⊥

-- The versions of a block, its pinned version and the falls that wait are those of the history that the acts of the block make.
pub record BlockShown (b : BlockId) (p : BlockHistory) (told : ℕ → List FallTold) (t : block.History) : Type 0 where
  pub newest : t.length ≡ length p.versions
  pub absent : t.value_at 0 ≡ 0
  pub values : (v : ℕ) (x : Version) → slice_get p.versions v ≡ Some x → t.value_at (suc v) ≡ number x.content
  pub writers : (v : ℕ) (x : Version) → slice_get p.versions v ≡ Some x → t.writer (suc v) ≡ x.writer
  pub pinned : t.pinned ≡ p.pinned
  pub falls : (c : ℕ) → FallsShown b (told c) (t.fallen c) (t.low c) (t.high c)

abbrev pub HistoryShown : BlockId → History → block.History → Type 0
HistoryShown b h t = BlockShown b (h.of_block b) h.told t
