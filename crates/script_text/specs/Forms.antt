-- The forms of items, one line for each, and what a line of each means. `docs/LANGUAGE.md` has the same table in words.
use Rattle.std.specs.Prelude.{ℕ, Bool, true, false, not, ◌&&◌, nat_le, ◌==◌, List, [], ◌∷◌, codes, Some}
use Rattle.std.specs.List.{list_all}
use Rattle.std.specs.Str.{bytes_eq}
use Rattle.xfs_base.specs.declared.block.BlockId.{BlockId}
use Rattle.xfs_base.specs.declared.node.NodeId.TheVariants as nodes
use Rattle.xfs_base.specs.Limits.{u32_end, max_deliveries, max_text}
use Rattle.version_model.specs.declared.work.Work.{Work}
use Rattle.version_model.specs.declared.work.Work.TheVariants as works
use Rattle.version_model.specs.declared.file_call.FileCall.TheVariants as calls
use Rattle.script_text.specs.declared.form.Form.{Form}
use Rattle.script_text.specs.declared.form.Form.TheVariants.{Bput, Bget, Sync, Mk, Mkdir, Put, Get, Size, Ls, Rm, Mv, ClientCrash, ClientRestart, CleanerCrash, CleanerRestart, Clean, ManagerCrash, ManagerRestart, Checkpoint, Lose, Rebuild, ServerStop, ServerStart, Move, BoardStop, BoardStart, NetLose, NetAgain, NetMix, NetHold, NetGo, NetStep}
use Rattle.script_text.specs.declared.form.Part.{Part}
use Rattle.script_text.specs.declared.form.Part.TheVariants as part
use Rattle.script_text.specs.Words.{joined, first, behind, is_end}

-- the word that names what a form asks for
abbrev pub verb : Form → List ℕ
verb Bput = codes "bput"
verb Bget = codes "bget"
verb Sync = codes "sync"
verb Mk = codes "mk"
verb Mkdir = codes "mkdir"
verb Put = codes "put"
verb Get = codes "get"
verb Size = codes "size"
verb Ls = codes "ls"
verb Rm = codes "rm"
verb Mv = codes "mv"
verb ClientCrash = codes "crash"
verb ClientRestart = codes "restart"
verb CleanerCrash = codes "crash"
verb CleanerRestart = codes "restart"
verb Clean = codes "clean"
verb ManagerCrash = codes "crash"
verb ManagerRestart = codes "restart"
verb Checkpoint = codes "checkpoint"
verb Lose = codes "lose"
verb Rebuild = codes "rebuild"
verb ServerStop = codes "stop"
verb ServerStart = codes "start"
verb Move = codes "move"
verb BoardStop = codes "stop"
verb BoardStart = codes "start"
verb NetLose = codes "lose"
verb NetAgain = codes "again"
verb NetMix = codes "mix"
verb NetHold = codes "hold"
verb NetGo = codes "go"
verb NetStep = codes "step"

-- the parts of a line of each form, from left to right
abbrev pub parts : Form → List Part
parts Bput = part.Client ∷ part.Verb ∷ part.Raw ∷ part.Number 0 u32_end ∷ part.BlockText ∷ []
parts Bget = part.Client ∷ part.Verb ∷ part.Number 0 u32_end ∷ part.Number 0 u32_end ∷ []
parts Sync = part.Client ∷ part.Verb ∷ []
parts Mk = part.Client ∷ part.Verb ∷ part.Path ∷ []
parts Mkdir = part.Client ∷ part.Verb ∷ part.Path ∷ []
parts Put = part.Client ∷ part.Verb ∷ part.Path ∷ part.Number 0 u32_end ∷ part.FileText ∷ []
parts Get = part.Client ∷ part.Verb ∷ part.Path ∷ part.Number 0 u32_end ∷ part.Number 0 max_text ∷ []
parts Size = part.Client ∷ part.Verb ∷ part.Path ∷ []
parts Ls = part.Client ∷ part.Verb ∷ part.Path ∷ []
parts Rm = part.Client ∷ part.Verb ∷ part.Path ∷ []
parts Mv = part.Client ∷ part.Verb ∷ part.Path ∷ part.Path ∷ []
parts ClientCrash = part.Client ∷ part.Verb ∷ []
parts ClientRestart = part.Client ∷ part.Verb ∷ []
parts CleanerCrash = part.Cleaner ∷ part.Verb ∷ []
parts CleanerRestart = part.Cleaner ∷ part.Verb ∷ []
parts Clean = part.Cleaner ∷ part.Verb ∷ part.Number 1 100 ∷ []
parts ManagerCrash = part.Manager ∷ part.Verb ∷ []
parts ManagerRestart = part.Manager ∷ part.Verb ∷ []
parts Checkpoint = part.Manager ∷ part.Verb ∷ []
parts Lose = part.Server ∷ part.Verb ∷ []
parts Rebuild = part.Server ∷ part.Verb ∷ []
parts ServerStop = part.Server ∷ part.Verb ∷ part.Number 0 1000 ∷ []
parts ServerStart = part.Server ∷ part.Verb ∷ []
parts Move = part.Registry ∷ part.Verb ∷ part.Number 0 7 ∷ part.Manager ∷ []
parts BoardStop = part.Board ∷ part.Verb ∷ []
parts BoardStart = part.Board ∷ part.Verb ∷ []
parts NetLose = part.Network ∷ part.Verb ∷ part.Number 0 max_deliveries ∷ []
parts NetAgain = part.Network ∷ part.Verb ∷ part.Number 0 max_deliveries ∷ []
parts NetMix = part.Network ∷ part.Verb ∷ part.Number 0 2147483647 ∷ []
parts NetHold = part.Network ∷ part.Verb ∷ []
parts NetGo = part.Network ∷ part.Verb ∷ []
parts NetStep = part.Network ∷ part.Verb ∷ part.Number 0 max_deliveries ∷ []

-- all forms
abbrev pub all_forms : List Form
all_forms =
    Bput ∷ Bget ∷ Sync ∷ Mk ∷ Mkdir ∷ Put ∷ Get ∷ Size ∷ Ls ∷ Rm ∷ Mv
    ∷ ClientCrash ∷ ClientRestart ∷ CleanerCrash ∷ CleanerRestart ∷ Clean
    ∷ ManagerCrash ∷ ManagerRestart ∷ Checkpoint
    ∷ Lose ∷ Rebuild ∷ ServerStop ∷ ServerStart ∷ Move ∷ BoardStop ∷ BoardStart
    ∷ NetLose ∷ NetAgain ∷ NetMix ∷ NetHold ∷ NetGo ∷ NetStep ∷ []

-- the forms that speak of the network
abbrev pub is_net : Form → Bool
is_net NetLose = true
is_net NetAgain = true
is_net NetMix = true
is_net NetHold = true
is_net NetGo = true
is_net NetStep = true
is_net f = false

-- what a part means: the words that each line of the form has mean nothing, all others a number, the names of a path or a text
abbrev pub Meaning : Part → Type 0
Meaning part.Cleaner = Unit {0}
Meaning part.Registry = Unit {0}
Meaning part.Network = Unit {0}
Meaning part.Verb = Unit {0}
Meaning part.Client = ℕ
Meaning part.Manager = ℕ
Meaning part.Server = ℕ
Meaning part.Board = ℕ
Meaning (part.Number least limit) = ℕ
Meaning part.Raw = ℕ
Meaning part.Path = List (List ℕ)
Meaning part.BlockText = List ℕ
Meaning part.FileText = List ℕ

-- what these parts mean, one for one
abbrev pub Meanings : List Part → Type 0
Meanings [] = Unit {0}
Meanings (p ∷ ps) = Meaning p × Meanings ps

-- a block by its numbers
abbrev pub block_at : ℕ → ℕ → BlockId
block_at ino blk = record { ino = record { 0 = ino }; blk = blk }

-- what a line of each form asks for
abbrev pub work_of : (f : Form) → Meanings (parts f) → Work
work_of Bput (k, (u, (ino, (blk, (text, e))))) = works.Bput k (block_at ino blk) (Some text)
work_of Bget (k, (u, (ino, (blk, e)))) = works.Bget k (block_at ino blk)
work_of Sync (k, u) = works.Sync k
work_of Mk (k, (u, (path, e))) = works.File k (calls.Mk path)
work_of Mkdir (k, (u, (path, e))) = works.File k (calls.Mkdir path)
work_of Put (k, (u, (path, (offset, (text, e))))) = works.File k (calls.Put path offset text)
work_of Get (k, (u, (path, (offset, (len, e))))) = works.File k (calls.Get path offset len)
work_of Size (k, (u, (path, e))) = works.File k (calls.Size path)
work_of Ls (k, (u, (path, e))) = works.File k (calls.Ls path)
work_of Rm (k, (u, (path, e))) = works.File k (calls.Rm path)
work_of Mv (k, (u, (path, (to, e)))) = works.File k (calls.Mv path to)
work_of ClientCrash (k, u) = works.Crash (nodes.Client k)
work_of ClientRestart (k, u) = works.Restart (nodes.Client k)
work_of CleanerCrash u = works.Crash nodes.Cleaner
work_of CleanerRestart u = works.Restart nodes.Cleaner
work_of Clean (u, (e, (count, z))) = works.Clean count
work_of ManagerCrash (k, u) = works.Crash (nodes.Manager k)
work_of ManagerRestart (k, u) = works.Restart (nodes.Manager k)
work_of Checkpoint (k, u) = works.Checkpoint k
work_of Lose (k, u) = works.Lose k
work_of Rebuild (k, u) = works.Rebuild k
work_of ServerStop (k, (u, (passes, e))) = works.ServerStop k passes
work_of ServerStart (k, u) = works.ServerStart k
work_of Move (u, (e, (slot, (k, z)))) = works.Move slot k
work_of BoardStop (k, u) = works.BoardStop k
work_of BoardStart (k, u) = works.BoardStart k
work_of NetLose (u, (e, (count, z))) = works.NetLose count
work_of NetAgain (u, (e, (count, z))) = works.NetAgain count
work_of NetMix (u, (e, (number, z))) = works.NetMix number
work_of NetHold u = works.NetHold
work_of NetGo u = works.NetGo
work_of NetStep (u, (e, (count, z))) = works.NetStep count

-- a decimal digit
abbrev pub is_digit : ℕ → Bool
is_digit b = nat_le 48 b && nat_le b 57

-- digits, at least one
abbrev pub are_digits : List ℕ → Bool
are_digits [] = false
are_digits (d ∷ ds) = list_all is_digit (d ∷ ds)

-- the word is this letter and then digits, at least one
abbrev pub is_numbered : ℕ → List ℕ → Bool
is_numbered letter [] = false
is_numbered letter (b ∷ ds) = (b == letter) && are_digits ds

-- the word may stand for this part, whatever its number or its text
abbrev pub looks : Part → List ℕ → List ℕ → Bool
looks part.Cleaner verb word = bytes_eq word (codes "cl")
looks part.Registry verb word = bytes_eq word (codes "reg")
looks part.Network verb word = bytes_eq word (codes "net")
looks part.Verb verb word = bytes_eq word verb
looks part.Client verb word = is_numbered 99 word
looks part.Manager verb word = is_numbered 109 word
looks part.Server verb word = is_numbered 115 word
looks part.Board verb word = is_numbered 98 word
looks p verb word = true

-- what a part is spelled by: the rest of the line for a text, a word for every other
abbrev pub piece_of : Part → List (List ℕ) → List ℕ
piece_of part.BlockText ws = joined 32 ws
piece_of part.FileText ws = joined 32 ws
piece_of p ws = first ws

-- the words behind it
abbrev pub behind_part : Part → List (List ℕ) → List (List ℕ)
behind_part part.BlockText ws = []
behind_part part.FileText ws = []
behind_part p ws = behind ws

-- the words are those of these parts, and no more
abbrev pub has_words : List ℕ → List Part → List (List ℕ) → Bool
has_words verb [] ws = is_end ws
has_words verb (p ∷ ps) ws = not (is_end ws) && looks p verb (piece_of p ws) && has_words verb ps (behind_part p ws)
