-- The order of the writes of a call, whoever else writes and whatever is answered.
use Rattle.std.specs.Prelude.{◌≡◌, ◌⊎◌, ℕ, List, ◌∷◌, ◌++◌, None}
use Rattle.std.specs.Map.{remove_entry}
use Rattle.std.specs.BTreeMap.{is_at, insert_entry}
use Rattle.xfs_base.specs.declared.block.BlockId.{BlockId}
use Rattle.xfs_base.specs.declared.block.Ino.{Ino}
use Rattle.version_model.specs.declared.file_call.FileCall.TheVariants as call
use Rattle.version_model.specs.History.{Content}
use Rattle.file_plan.specs.declared.block_call.BlockAnswer.{BlockAnswer}
use Rattle.file_plan.specs.declared.block_call.BlockAnswer.TheVariants.{Synced}
use Rattle.file_plan.specs.declared.block_call.BlockAnswer.TheVariants.{Put as Written}
use Rattle.file_plan.specs.declared.block_call.BlockCall.TheVariants.{Put, PutAt, Sync}
use Rattle.file_plan.specs.declared.block_call.Next.{Next}
use Rattle.file_plan.specs.declared.block_call.Next.TheVariants.{Step}
use Rattle.file_plan.specs.declared.node.Node.{Node}
use Rattle.file_plan.specs.Names.{Name, Row, name_cmp, bucket_number}
use Rattle.file_plan.specs.Format.{value_of, bucket_bytes}
use Rattle.file_plan.specs.Calls.{block_at}
use Rattle.file_plan.specs.Plan.{plan}

-- a bucket is written with one entry less
pub record TakesOut (block : BlockId) (value : Content) : Type 0 where
  pub dir : Ino
  pub name : Name
  pub rows : List Row
  pub is_bucket : block ≡ block_at dir (bucket_number name)
  pub text : value ≡ value_of (bucket_bytes (remove_entry (is_at (name_cmp name)) rows))

-- a bucket is written with one entry more
pub record PutsIn (block : BlockId) (value : Content) : Type 0 where
  pub dir : Ino
  pub name : Name
  pub node : Node
  pub rows : List Row
  pub is_bucket : block ≡ block_at dir (bucket_number name)
  pub text : value ≡ value_of (bucket_bytes (insert_entry name_cmp rows name node))

-- among these answers of a plan is one that says that such a write over a version was made
pub record HasWritten (plan : List BlockAnswer → Next) (answers : List BlockAnswer) (IsSuch : BlockId → Content → Type 0) : Type 0 where
  pub before : List BlockAnswer
  pub later : List BlockAnswer
  pub block : BlockId
  pub over : ℕ
  pub value : Content
  pub made : ℕ
  pub split : answers ≡ before ++ Written made ∷ later
  pub step : plan before ≡ Step (PutAt block over value)
  pub such : IsSuch block value

-- among these answers of a plan is one that says that all was settled, and before it one that says that an entry was put in
pub record HasSettled (plan : List BlockAnswer → Next) (answers : List BlockAnswer) : Type 0 where
  pub before : List BlockAnswer
  pub later : List BlockAnswer
  pub split : answers ≡ before ++ Synced ∷ later
  pub step : plan before ≡ Step Sync
  pub entered : HasWritten plan before PutsIn

-- A call that removes a file takes its entry out first; only once that was written does it make blocks and the size Absent, and it writes nothing else.
abbrev pub RemovesEntryFirst : Type 0
RemovesEntryFirst =
    (path : List Name) (number client : ℕ) (answers : List BlockAnswer) (block : BlockId) (value : Content)
    → (plan (call.Rm path) number client answers ≡ Step (Put block value) → HasWritten (plan (call.Rm path) number client) answers TakesOut × (value ≡ None))
    × ((ver : ℕ) → plan (call.Rm path) number client answers ≡ Step (PutAt block ver value)
    → TakesOut block value ⊎ (HasWritten (plan (call.Rm path) number client) answers TakesOut × (value ≡ None)))

-- A call that moves a file puts the second entry in, then waits until all is settled, and only then takes the first entry out; it writes nothing else.
abbrev pub AddsBeforeItRemoves : Type 0
AddsBeforeItRemoves =
    (from to : List Name) (number client : ℕ) (answers : List BlockAnswer) (block : BlockId) (value : Content)
    → (plan (call.Mv from to) number client answers ≡ Step (Put block value) → ⊥)
    × ((ver : ℕ) → plan (call.Mv from to) number client answers ≡ Step (PutAt block ver value)
    → PutsIn block value ⊎ (TakesOut block value × HasSettled (plan (call.Mv from to) number client) answers))
    × (plan (call.Mv from to) number client answers ≡ Step Sync → HasWritten (plan (call.Mv from to) number client) answers PutsIn)
