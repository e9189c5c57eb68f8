-- No update is lost: what a call writes over a version that it named is written over just that.
use Rattle.std.specs.Prelude.{◌≡◌, ℕ, suc, List, [], ◌∷◌, ◌++◌, Option, Some, length, slice_get}
use Rattle.core_world.specs.declared.any_node.AnyNode.{AnyNode}
use Rattle.file_plan.specs.declared.block_call.BlockAnswer.{BlockAnswer}
use Rattle.file_plan.specs.declared.block_call.BlockCall.{BlockCall}
use Rattle.file_plan.specs.declared.block_call.BlockCall.TheVariants.{Put, PutAt}
use Rattle.file_plan.specs.declared.block_call.Next.TheVariants.{Step}
use Rattle.version_model.specs.declared.act.Act.{Act}
use Rattle.version_model.specs.declared.act.Act.TheVariants as act
use Rattle.version_model.specs.Effects.{history_after}
use Rattle.version_model.specs.History.{nothing_yet}
use Rattle.world_base.specs.declared.estate.Estate.{Estate}
use Rattle.world_base.specs.declared.event.Event.{Event}
use Rattle.xfs_base.specs.declared.block.BlockId.{BlockId}
use Rattle.headline.specs.Calls.{IsAnswerTo, told}
use Rattle.headline.specs.Courses.{Doing}
use Rattle.headline.specs.ItemActs.{blocks_by}
use Rattle.headline.specs.Linear.{BeginsIn, DoesCall}
use Rattle.headline.specs.Moments.{acts_in, moment}
use Rattle.headline.specs.Restarts.{NoDoubtfulRestart}

-- A call whose calls on blocks had some answers gets these, in their order, and these are all the acts that they tell of.
abbrev pub AreTold : ℕ → Doing → List BlockAnswer → List BlockAnswer → List Act → Type 0
AreTold client does had [] acts = acts ≡ []
AreTold client does had (x ∷ answers) acts =
    (step : BlockCall) × (rest : List Act) × (does had ≡ Step step) × IsAnswerTo step x × (acts ≡ told client step x ++ rest)
    × AreTold client does (had ++ x ∷ []) answers rest

-- a call on blocks writes this, where the block has so many versions; a version that it names is the newest of them
abbrev pub IsWriteOver : ℕ → BlockCall → BlockId → Option (List ℕ) → Type 0
IsWriteOver count (Put b v) block value = (b ≡ block) × (v ≡ value)
IsWriteOver count (PutAt b named v) block value = (b ≡ block) × ((v ≡ value) × (named ≡ count))
IsWriteOver count _ block value = ⊥

-- how many versions a block has behind these acts
abbrev pub versions_behind : List Act → BlockId → ℕ
versions_behind acts block = length ((history_after acts nothing_yet).of_block block).versions

module _ (e : Estate AnyNode) where
  -- Behind these acts of the run the next thing that a call of the client does, by what it was answered since it began, is to write the block so.
  pub record WritesNext (client : ℕ) (acts : List Act) (block : BlockId) (value : Option (List ℕ)) : Type 0 where
    pub item : ℕ
    pub does : Doing
    pub call : DoesCall e client item does
    pub place : ℕ
    pub begins : BeginsIn e client item place
    pub since : List Act
    pub all : acts ≡ (moment e place).acts ++ since
    pub answers : List BlockAnswer
    pub told_so : AreTold client does [] answers (blocks_by client since)
    pub step : BlockCall
    pub next : does answers ≡ Step step
    pub over : IsWriteOver (versions_behind acts block) step block value

  -- so it is of each write, up to the first doubtful restart
  abbrev pub NoUpdateIsLost : Type 0
  NoUpdateIsLost =
      (count : ℕ) (event : Event) → slice_get e.events count ≡ Some event → NoDoubtfulRestart e (suc count) → (before behind : List Act) (client : ℕ)
      (block : BlockId) (value : Option (List ℕ)) → acts_in (moment e count) event ≡ before ++ act.Wrote client block value ∷ behind
      → WritesNext client ((moment e count).acts ++ before) block value
