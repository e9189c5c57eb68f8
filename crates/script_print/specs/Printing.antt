-- The one text of a script. Each work is printed as a line of its form, by the table of forms by which scripts are read.
use Rattle.std.specs.Prelude.{ℕ, ◌-◌, ◌/◌, ◌%◌, ◌==◌, Bool, ◌||◌, List, [], ◌∷◌, ◌++◌, length, map, codes, Option, Some, None, if◌then◌else◌}
use Rattle.std.specs.List.{repeat}
use Rattle.std.specs.Fmt.{decimal}
use Rattle.xfs_base.specs.declared.setup.Setup.{Setup}
use Rattle.xfs_base.specs.declared.setup.GroupSetup.{GroupSetup}
use Rattle.xfs_base.specs.declared.node.NodeId.TheVariants as nodes
use Rattle.version_model.specs.declared.work.Work.{Work}
use Rattle.version_model.specs.declared.work.Work.TheVariants as works
use Rattle.version_model.specs.declared.file_call.FileCall.{FileCall}
use Rattle.version_model.specs.declared.file_call.FileCall.TheVariants as calls
use Rattle.script_text.specs.declared.form.Form.{Form}
use Rattle.script_text.specs.declared.form.Form.TheVariants.{Bput, Bget, Sync, Mk, Mkdir, Put, Get, Size, Ls, Rm, Mv, ClientCrash, ClientRestart, CleanerCrash, CleanerRestart, Clean, ManagerCrash, ManagerRestart, Checkpoint, Lose, Rebuild, ServerStop, ServerStart, Move, BoardStop, BoardStart, NetLose, NetAgain, NetMix, NetHold, NetGo, NetStep}
use Rattle.script_text.specs.declared.form.Part.{Part}
use Rattle.script_text.specs.declared.form.Part.TheVariants as part
use Rattle.script_text.specs.declared.script.Line.{Line}
use Rattle.script_text.specs.declared.script.Script.{Script}
use Rattle.script_text.specs.Words.{joined}
use Rattle.script_text.specs.Text.{is_plain, hex_digit, quoted}
use Rattle.script_text.specs.Forms.{Meaning, Meanings, verb, parts}
use Rattle.script_text.specs.Spelling.{slashed}
use Rattle.script_text.specs.Script.{IsScriptOf}

-- a byte of a text: by itself, a quote and a backslash behind a backslash, any other as `\xHH`
abbrev pub byte_text : ℕ → List ℕ
byte_text b =
    if is_plain b then b ∷ []
    else if (b == 34) || (b == 92) then 92 ∷ b ∷ []
    else 92 ∷ 120 ∷ hex_digit (b / 16) ∷ hex_digit (b % 16) ∷ []

-- the bytes of a text, one after the other
abbrev pub text_body : List ℕ → List ℕ
text_body [] = []
text_body (b ∷ text) = byte_text b ++ text_body text

-- a path: a slash alone, or each name behind a slash
abbrev pub path_text : List (List ℕ) → List ℕ
path_text [] = 47 ∷ []
path_text (name ∷ names) = slashed (name ∷ names)

-- the one spelling of a part
abbrev pub spelling : (p : Part) → List ℕ → Meaning p → List ℕ
spelling part.Cleaner verb v = codes "cl"
spelling part.Registry verb v = codes "reg"
spelling part.Network verb v = codes "net"
spelling part.Verb verb v = verb
spelling part.Client verb n = 99 ∷ decimal n
spelling part.Manager verb n = 109 ∷ decimal n
spelling part.Server verb n = 115 ∷ decimal n
spelling part.Board verb n = 98 ∷ decimal n
spelling (part.Number least limit) verb n = decimal n
spelling part.Raw verb n = decimal n
spelling part.Path verb names = path_text names
spelling part.BlockText verb text = quoted (text_body text)
spelling part.FileText verb text = quoted (text_body text)

-- those of these parts, from left to right
abbrev pub spellings : (ps : List Part) → List ℕ → Meanings ps → List (List ℕ)
spellings [] verb v = []
spellings (p ∷ ps) verb v = spelling p verb v.0 ∷ spellings ps verb v.1

-- a line of this form
abbrev pub form_line : (f : Form) → Meanings (parts f) → List ℕ
form_line f v = joined 32 (spellings (parts f) (verb f) v)

-- a form, and what the parts of a line of it mean
pub record Asked : Type 0 where
  pub form : Form
  pub meanings : Meanings (parts form)

abbrev pub by : (f : Form) → Meanings (parts f) → Option Asked
by f v = Some (record { form = f; meanings = v })

-- the line that asks for a call on files
abbrev pub asked_call : ℕ → FileCall → Option Asked
asked_call k (calls.Mk path) = by Mk (k, (tt, (path, tt)))
asked_call k (calls.Mkdir path) = by Mkdir (k, (tt, (path, tt)))
asked_call k (calls.Put path offset bytes) = by Put (k, (tt, (path, (offset, (bytes, tt)))))
asked_call k (calls.Get path offset len) = by Get (k, (tt, (path, (offset, (len, tt)))))
asked_call k (calls.Size path) = by Size (k, (tt, (path, tt)))
asked_call k (calls.Ls path) = by Ls (k, (tt, (path, tt)))
asked_call k (calls.Rm path) = by Rm (k, (tt, (path, tt)))
asked_call k (calls.Mv path to) = by Mv (k, (tt, (path, (to, tt))))

-- the line that asks for a work: the other way round than the table of forms says it; none for what no line asks for
abbrev pub asked : Work → Option Asked
asked (works.Bput k block (Some text)) = by Bput (k, (tt, (block.ino.0, (block.blk, (text, tt)))))
asked (works.Bget k block) = by Bget (k, (tt, (block.ino.0, (block.blk, tt))))
asked (works.Sync k) = by Sync (k, (tt, tt))
asked (works.File k call) = asked_call k call
asked (works.Crash (nodes.Client k)) = by ClientCrash (k, (tt, tt))
asked (works.Crash (nodes.Manager k)) = by ManagerCrash (k, (tt, tt))
asked (works.Crash nodes.Cleaner) = by CleanerCrash (tt, (tt, tt))
asked (works.Restart (nodes.Client k)) = by ClientRestart (k, (tt, tt))
asked (works.Restart (nodes.Manager k)) = by ManagerRestart (k, (tt, tt))
asked (works.Restart nodes.Cleaner) = by CleanerRestart (tt, (tt, tt))
asked (works.Checkpoint k) = by Checkpoint (k, (tt, tt))
asked (works.Lose k) = by Lose (k, (tt, tt))
asked (works.Rebuild k) = by Rebuild (k, (tt, tt))
asked (works.Move slot k) = by Move (tt, (tt, (slot, (k, tt))))
asked (works.Clean count) = by Clean (tt, (tt, (count, tt)))
asked (works.NetLose count) = by NetLose (tt, (tt, (count, tt)))
asked (works.NetAgain count) = by NetAgain (tt, (tt, (count, tt)))
asked (works.NetMix number) = by NetMix (tt, (tt, (number, tt)))
asked works.NetHold = by NetHold (tt, (tt, tt))
asked works.NetGo = by NetGo (tt, (tt, tt))
asked (works.NetStep count) = by NetStep (tt, (tt, (count, tt)))
asked (works.BoardStop k) = by BoardStop (k, (tt, tt))
asked (works.BoardStart k) = by BoardStart (k, (tt, tt))
asked (works.ServerStop k passes) = by ServerStop (k, (tt, (passes, tt)))
asked (works.ServerStart k) = by ServerStart (k, (tt, tt))
asked w = None

-- that line
abbrev pub asked_line : Option Asked → List ℕ
asked_line None = []
asked_line (Some a) = form_line a.form a.meanings

abbrev pub work_line : Work → List ℕ
work_line w = asked_line (asked w)

-- `after N` before it, where N is not 0
abbrev pub after_text : ℕ → List ℕ
after_text n = if n == 0 then [] else codes "after " ++ (decimal n ++ 32 ∷ [])

-- an item, behind as many empty lines as bring it to its number from the line before
abbrev pub item_text : ℕ → Line → List ℕ
item_text before l = repeat (l.number - before - 1) (10 ∷ []) ++ (after_text l.after ++ (work_line l.work ++ 10 ∷ []))

abbrev pub items_text : ℕ → List Line → List ℕ
items_text before [] = []
items_text before (l ∷ ls) = item_text before l ++ items_text l.number ls

-- a line of the setup that gives a number to a name
abbrev pub gives : List ℕ → ℕ → List ℕ
gives name n = joined 32 (name ∷ decimal n ∷ [])

-- each word behind a space
abbrev pub spaced : List (List ℕ) → List ℕ
spaced [] = []
spaced (w ∷ ws) = 32 ∷ (w ++ spaced ws)

-- the line of a group
abbrev pub group_word : ℕ → List ℕ
group_word parity = if parity == 2 then codes "group2" else codes "group"

abbrev pub group_line : GroupSetup → List ℕ
group_line g = joined 32 (group_word g.parity ∷ map decimal g.servers)

-- the line of the cache, where it is not the 64 of a setup without one
abbrev pub cache_lines : ℕ → List (List ℕ)
cache_lines n = if n == 64 then [] else gives (codes "cache") n ∷ []

abbrev pub acts_lines : Bool → List (List ℕ)
acts_lines acts = if acts then codes "acts" ∷ [] else []

-- the lines of a setup
abbrev pub setup_lines : Setup → List (List ℕ)
setup_lines s =
    gives (codes "xfs") 1 ∷ gives (codes "clients") s.clients ∷ gives (codes "managers") s.managers ∷ gives (codes "servers") s.servers
    ∷ (map group_line s.groups ++ (cache_lines s.cache ++ acts_lines s.acts))

-- lines, each ended by a line feed
abbrev pub ended : List (List ℕ) → List ℕ
ended [] = []
ended (l ∷ ls) = l ++ 10 ∷ ended ls

-- the text of a script
abbrev pub printed : Script → List ℕ
printed s = ended (setup_lines s.setup) ++ items_text (length (setup_lines s.setup)) s.lines

-- it is the script of some bytes
abbrev pub IsScript : Script → Type 0
IsScript s = (live : Bool) × (bytes : List ℕ) × IsScriptOf live bytes s
