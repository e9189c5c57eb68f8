-- When a list of acts is legal: each read answers the newest version, and no fall goes below a pinned version.
use Rattle.std.specs.Prelude.{◌≡◌, ℕ, ◌+◌, ◌≤◌, false, List, [], ◌∷◌, length, slice_get, take, Some}
use Rattle.std.specs.List.{AllByRecursion}
use Rattle.xfs_base.specs.Blocks.{same_block}
use Rattle.version_model.specs.declared.act.Act.{Act}
use Rattle.version_model.specs.declared.act.Act.TheVariants.{Wrote, Read, Synced, Fell, Back, Lost, Filed, Dropped, Answered}
use Rattle.version_model.specs.declared.act.Fall.{Fall}
use Rattle.version_model.specs.History.{Version, BlockHistory, History, content_at, nothing_yet}
use Rattle.version_model.specs.declared.verdict.Verdict.{Verdict}
use Rattle.version_model.specs.declared.verdict.Verdict.TheVariants.{Legal, Illegal}
use Rattle.version_model.specs.Effects.{after_act, history_after}

-- the newest version is by this client
abbrev pub IsNewestBy : ℕ → List Version → Type 0
IsNewestBy client [] = ⊥
IsNewestBy client (v ∷ []) = v.writer ≡ client
IsNewestBy client (v ∷ w ∷ vs) = IsNewestBy client (w ∷ vs)

-- no block is named twice
abbrev pub NamesNoBlockTwice : List Fall → Type 0
NamesNoBlockTwice [] = Unit {0}
NamesNoBlockTwice (f ∷ fs) = AllByRecursion (λ g. same_block f.block g.block ≡ false) fs × NamesNoBlockTwice fs

-- a client may lose a block down to a version that is not below the pinned one, where the newest version is its own
pub record MayFall (client : ℕ) (block : BlockHistory) (fall : Fall) : Type 0 where
  pub newest : IsNewestBy client block.versions
  pub pinned : block.pinned ≤ fall.low
  pub ordered : fall.low ≤ fall.high
  pub there : fall.high ≤ length block.versions

-- a read is of the newest version and its value, and a fall is as far as it may be; every other act is legal
abbrev pub IsLegalIn : Act → History → Type 0
IsLegalIn (Wrote client block value) h = Unit {0}
IsLegalIn (Read client block ver value) h =
    (ver ≡ length (h.of_block block).versions) × (content_at ver (h.of_block block).versions ≡ Some value)
IsLegalIn (Synced client) h = Unit {0}
IsLegalIn (Fell client flight falls) h =
    NamesNoBlockTwice falls × AllByRecursion (λ f. MayFall client (h.of_block f.block) f) falls
IsLegalIn (Back client chain) h = Unit {0}
IsLegalIn (Lost node seg) h = Unit {0}
IsLegalIn (Filed seg) h = Unit {0}
IsLegalIn (Dropped seg) h = Unit {0}
IsLegalIn (Answered node item answer) h = Unit {0}

-- each act is legal in the history that the acts before it leave
abbrev pub AreLegalFrom : History → List Act → Type 0
AreLegalFrom h [] = Unit {0}
AreLegalFrom h (a ∷ rest) = IsLegalIn a h × AreLegalFrom (after_act a h) rest

-- the same of all acts of a run
abbrev pub AreLegal : List Act → Type 0
AreLegal acts = AreLegalFrom nothing_yet acts

-- the first act that is not legal: those before it are, and it isn't after them
pub record IsFirstIllegal (acts : List Act) (place : ℕ) : Type 0 where
  pub act : Act
  pub stands : slice_get acts place ≡ Some act
  pub before : AreLegal (take place acts)
  pub illegal : ¬ (IsLegalIn act (history_after (take place acts) nothing_yet))

-- what is said of a list of acts: that all are legal and how many they are, or which is the first that is not, counted from 1
abbrev pub IsVerdict : List Act → Verdict → Type 0
IsVerdict acts (Legal count) = AreLegal acts × (count ≡ length acts)
IsVerdict acts (Illegal number) = (place : ℕ) × (number ≡ place + 1) × IsFirstIllegal acts place
