-- The file tree that the table of the one machine holds: each call on files replies as the tree has it, whatever blocks of raw files are written between.
use Rattle.std.specs.List.{AllByRecursion}
use Rattle.std.specs.Prelude.{◌≡◌, ◌≤◌, List, [], ◌∷◌, ◌++◌, length, Option, Some}
use Rattle.file_plan.specs.declared.node.Kind.{Kind}
use Rattle.file_plan.specs.Driving.{World, nothing_written, root_alone}
use Rattle.file_plan.specs.Example.{Ended}
use Rattle.file_plan.specs.Plan.{made_by}
use Rattle.file_plan.specs.Tree.{Meets, Sound, kinds_after, outcome}
use Rattle.script_text.specs.declared.script.Line.{Line}
use Rattle.transcript.specs.Text.{number_of}
use Rattle.version_model.specs.declared.answer.Answer.{Answer}
use Rattle.version_model.specs.declared.work.Work.{Work}
use Rattle.version_model.specs.declared.work.Work.TheVariants as work
use Rattle.world_base.specs.Items.{actor_of}
use Rattle.xfs_base.specs.Blocks.{IsRaw}
use Rattle.xfs_base.specs.declared.block.Ino.{Ino}
use Rattle.xfs_base.specs.declared.node.NodeId.TheVariants.{Client}
use Rattle.xfs_base.specs.Limits.{max_lines}
use Rattle.one_machine.specs.Machine.{after_line}

-- as scripts have it: what is written block by block is no file of the tree, and there are eight clients at most
abbrev pub IsFit : Work → Type 0
IsFit (work.Bput client block value) = IsRaw block.ino.0
IsFit (work.File client call) = (1 ≤ client) × (client ≤ 8)
IsFit _ = Unit {0}

abbrev pub AreFit : List Line → Type 0
AreFit lines = AllByRecursion (λ (line : Line). IsFit line.work) lines

-- On a table that holds the files and directories of these kinds: where a line is a call on files, the reply is the tree's, the table then holds the tree's change,
-- and more is so of the kinds that there are then.
abbrev pub RepliesAsTree : (Ino → Option Kind) → World → List Line → Work → Ended → ((Ino → Option Kind) → Type 0) → Type 0
RepliesAsTree kinds w before (work.File client call) e More =
    let ino = made_by (number_of before (Client client)) client in
    (given : Answer) × (e.reply ≡ Some given) × Meets (kinds_after kinds ino call) w.value (outcome w.value call ino) given e.world.value
    × More (kinds_after kinds ino call)
RepliesAsTree kinds w before _ e More = More kinds

-- so it is of all lines behind these
abbrev pub KeepTheTree : (Ino → Option Kind) → World → List Line → List Line → Type 0
KeepTheTree kinds w before [] = Sound kinds w.value
KeepTheTree kinds w before (line ∷ lines) =
    let e = after_line w before line.work (actor_of line.work) in
    RepliesAsTree kinds w before line.work e (λ now. KeepTheTree now e.world (before ++ line ∷ []) lines)

-- So it is of each script, from nothing, where the root alone is a directory.
abbrev pub EachScriptKeepsTheTree : Type 0
EachScriptKeepsTheTree = (lines : List Line) → AreFit lines → length lines ≤ max_lines → KeepTheTree root_alone nothing_written [] lines
