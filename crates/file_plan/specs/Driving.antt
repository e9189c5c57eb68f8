-- Plans driven against a table of blocks that nobody else changes, and against any answers.
use Rattle.std.specs.List.{AllByRecursion}
use Rattle.std.specs.Prelude.{◌≡◌, ℕ, zero, suc, ◌+◌, ◌*◌, ◌≤◌, ◌&&◌, ◌==◌, Option, Some, None, List, [], ◌∷◌, ◌++◌, length, if◌then◌else◌}
use Rattle.xfs_base.specs.declared.block.BlockId.{BlockId}
use Rattle.version_model.specs.declared.answer.Answer.{Answer}
use Rattle.version_model.specs.declared.file_call.FileCall.{FileCall}
use Rattle.version_model.specs.declared.file_call.FileCall.TheVariants as call
use Rattle.version_model.specs.History.{Content}
use Rattle.xfs_base.specs.declared.block.Ino.{Ino}
use Rattle.xfs_base.specs.Limits.{max_text, max_lines}
use Rattle.file_plan.specs.declared.block_call.BlockAnswer.{BlockAnswer}
use Rattle.file_plan.specs.declared.block_call.BlockAnswer.TheVariants.{Got, Changed, Synced}
use Rattle.file_plan.specs.declared.block_call.BlockAnswer.TheVariants.{Put as Written}
use Rattle.file_plan.specs.declared.block_call.BlockCall.{BlockCall}
use Rattle.file_plan.specs.declared.block_call.BlockCall.TheVariants.{Get, Put, PutAt, Sync}
use Rattle.file_plan.specs.declared.block_call.Next.{Next}
use Rattle.file_plan.specs.declared.block_call.Next.TheVariants.{Step, Reply}
use Rattle.file_plan.specs.declared.node.Kind.{Kind}
use Rattle.file_plan.specs.declared.node.Kind.TheVariants as kind
use Rattle.file_plan.specs.Calls.{root}
use Rattle.file_plan.specs.Names.{same_ino}
use Rattle.file_plan.specs.Plan.{plan, blocks_of, made_by}
use Rattle.file_plan.specs.Tree.{Table, Sound, outcome, Meets, MakesFresh, kinds_after}

-- the value and the version of each block
pub record World : Type 0 where
  pub value : Table
  pub ver : Ino → ℕ → ℕ

-- a map changed at one block
abbrev pub put_at : {X : Type 0} → (Ino → ℕ → X) → Ino → ℕ → X → Ino → ℕ → X
put_at f ino blk x i b = if same_ino i ino && (b == blk) then x else f i b

-- one version more
abbrev pub write : World → Ino → ℕ → Content → World
write w ino blk value = record { value = put_at w.value ino blk value; ver = put_at w.ver ino blk (suc (w.ver ino blk)) }

pub record Served : Type 0 where
  pub answer : BlockAnswer
  pub world : World

-- the answer to a block call, and what is then stored
abbrev pub serve : World → BlockCall → Served
serve w (Get block) = record { answer = Got (w.ver block.ino block.blk) (w.value block.ino block.blk); world = w }
serve w (Put block value) = record { answer = Written (suc (w.ver block.ino block.blk)); world = write w block.ino block.blk value }
serve w (PutAt block ver value) =
    if w.ver block.ino block.blk == ver
    then record { answer = Written (suc ver); world = write w block.ino block.blk value }
    else record { answer = Changed; world = w }
serve w Sync = record { answer = Synced; world = w }

-- no block call is left to make, and Q holds of the reply
abbrev pub Rests : Next → World → (Answer → World → Type 0) → Type 0
Rests (Reply answer) w Q = Q answer w
Rests (Step call) w Q = ⊥

-- Q holds of the reply, or more holds once the block call was made
abbrev pub GoesOn : Next → World → (Answer → World → Type 0) → (BlockAnswer → World → Type 0) → Type 0
GoesOn (Reply answer) w Q more = Q answer w
GoesOn (Step call) w Q more = more (serve w call).answer (serve w call).world

-- From here a plan replies after at most n block calls, and Q holds of its reply and of what is then stored.
abbrev pub Replies : (List BlockAnswer → Next) → ℕ → List BlockAnswer → World → (Answer → World → Type 0) → Type 0
Replies plan zero answers w Q = Rests (plan answers) w Q
Replies plan (suc n) answers w Q = GoesOn (plan answers) w Q (λ answer v. Replies plan n (answers ++ answer ∷ []) v Q)

-- how many block calls a call makes at most: one for each name of its path, and then those for its work
abbrev pub most_steps : FileCall → ℕ
most_steps (call.Mk path) = length path + 1
most_steps (call.Mkdir path) = length path + 1
most_steps (call.Put path offset bytes) = length path + (2 * (blocks_of (length bytes) + 1) + 2)
most_steps (call.Get path offset len) = length path + suc (blocks_of len + 1)
most_steps (call.Size path) = length path + 1
most_steps (call.Ls path) = length path + 8
most_steps (call.Rm path) = length path + 259
most_steps (call.Mv from to) = length from + (length to + 4)

-- The law of a call: on a sound table that nobody else changes, its plan replies within so many block calls; the reply is the tree's, and the table
-- after is sound and holds the tree's change.
abbrev pub MeetsTree : FileCall → Type 0
MeetsTree c =
    (kinds : Ino → Option Kind) (w : World) (number client : ℕ) → Sound kinds w.value → MakesFresh kinds w.value (made_by number client) c
    → Replies (plan c number client) (most_steps c) [] w
    (λ given now. Meets (kinds_after kinds (made_by number client) c) w.value (outcome w.value c (made_by number client)) given now.value)

-- a call of the lengths that a script can have
abbrev pub IsShort : FileCall → Type 0
IsShort (call.Mk path) = length path ≤ 16
IsShort (call.Mkdir path) = length path ≤ 16
IsShort (call.Put path offset bytes) = (length path ≤ 16) × (length bytes ≤ max_text)
IsShort (call.Get path offset len) = (length path ≤ 16) × (len ≤ max_text)
IsShort (call.Size path) = length path ≤ 16
IsShort (call.Ls path) = length path ≤ 16
IsShort (call.Rm path) = length path ≤ 16
IsShort (call.Mv from to) = (length from ≤ 16) × (length to ≤ 16)

-- ---- one call after another

-- a call, with the number of the client's item and the client
pub record Item : Type 0 where
  pub call : FileCall
  pub number : ℕ
  pub client : ℕ

abbrev pub made_of : Item → Ino
made_of item = made_by item.number item.client

-- the ranges of a script, and no two items of one client with one number
abbrev pub AreItems : List Item → Type 0
AreItems [] = Unit {0}
AreItems (item ∷ items) =
    (item.number ≤ max_lines) × (1 ≤ item.client) × (item.client ≤ 8)
    × AllByRecursion (λ other. (other.number ≡ item.number) × (other.client ≡ item.client) → ⊥) items × AreItems items

-- Each call replies as the tree has it that the calls before it left.
abbrev pub AllMeet : (Ino → Option Kind) → World → List Item → Type 0
AllMeet kinds w [] = Sound kinds w.value
AllMeet kinds w (item ∷ items) =
    Replies (plan item.call item.number item.client) (most_steps item.call) [] w
    (λ given now. Meets (kinds_after kinds (made_of item) item.call) w.value (outcome w.value item.call (made_of item)) given now.value
    × AllMeet (kinds_after kinds (made_of item) item.call) now items)

-- nothing was written, and the root alone is a directory
abbrev pub nothing_written : World
nothing_written = record { value = λ ino blk. None; ver = λ ino blk. 0 }

abbrev pub root_alone : Ino → Option Kind
root_alone ino = if same_ino ino root then Some kind.Directory else None

-- From nothing, whatever calls are made one after another, each replies as the tree has it.
abbrev pub AllMeetFromNothing : Type 0
AllMeetFromNothing = (items : List Item) → AreItems items → AllMeet root_alone nothing_written items

-- ---- with others writing

-- Among these answers of a plan is one to a read of this block, and it told this version.
abbrev pub HasRead : (List BlockAnswer → Next) → List BlockAnswer → BlockId → ℕ → Type 0
HasRead plan answers block ver =
    (front : List BlockAnswer) × (back : List BlockAnswer) × (old : Content) × (answers ≡ front ++ Got ver old ∷ back) × (plan front ≡ Step (Get block))

-- Whatever is answered, a call writes at a version only over one that it has itself read.
abbrev pub WritesOverItsReads : Type 0
WritesOverItsReads =
    (c : FileCall) (number client : ℕ) (answers : List BlockAnswer) (block : BlockId) (ver : ℕ) (value : Content)
    → plan c number client answers ≡ Step (PutAt block ver value) → HasRead (plan c number client) answers block ver

-- Where a write at a version was refused, since another client had written, the call reads that block again.
abbrev pub ReadsAgain : Type 0
ReadsAgain =
    (c : FileCall) (number client : ℕ) (answers : List BlockAnswer) (block : BlockId) (ver : ℕ) (value : Content)
    → plan c number client answers ≡ Step (PutAt block ver value) → plan c number client (answers ++ Changed ∷ []) ≡ Step (Get block)
