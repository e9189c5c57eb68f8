-- The recalls of wants that wait, as they are sent.
use Rattle.std.specs.Prelude.{List, [], ◌∷◌, ◌++◌, if◌then◌else◌, is_some}
use Rattle.xfs_base.specs.declared.block.BlockId.{BlockId}
use Rattle.slot_beliefs.specs.declared.job.Job.{Job}
use Rattle.slot_beliefs.specs.declared.job.Awaited.{Awaited}
use Rattle.token_manager.specs.declared.output.Out.{Out}
use Rattle.token_manager.specs.declared.output.Out.TheVariants.{Recall}

abbrev pub recall_of : BlockId → Awaited → Out
recall_of block a = Recall a.client block a.stamp a.keep

-- the recalls that are not answered, sent
abbrev pub send_recalls : BlockId → List Awaited → List Out
send_recalls block [] = []
send_recalls block (a ∷ rest) = if is_some a.end then send_recalls block rest else recall_of block a ∷ send_recalls block rest

-- the recalls of all wants that are not answered, sent in order of blocks
abbrev pub send_all : List (BlockId × Job) → List Out
send_all [] = []
send_all (e ∷ es) = send_recalls e.0 e.1.awaited ++ send_all es
