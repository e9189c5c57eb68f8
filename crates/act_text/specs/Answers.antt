-- The texts of answers.
use Rattle.std.specs.Prelude.{ℕ, List, [], ◌∷◌, ◌++◌, codes}
use Rattle.std.specs.Fmt.{decimal}
use Rattle.version_model.specs.declared.answer.Answer.{Answer}
use Rattle.version_model.specs.declared.answer.Answer.TheVariants as answers
use Rattle.version_model.specs.declared.answer.FileFault.{FileFault}
use Rattle.version_model.specs.declared.answer.FileFault.TheVariants as faults
use Rattle.act_text.specs.Pieces.{quoted_text, value_text, log_seq_text}

-- the word of a refusal of a call on files
abbrev pub fault_word : FileFault → List ℕ
fault_word faults.NoEntry = codes "noentry"
fault_word faults.Exists = codes "exists"
fault_word faults.NotDir = codes "notdir"
fault_word faults.IsDir = codes "isdir"
fault_word faults.BadName = codes "badname"
fault_word faults.DirFull = codes "dirfull"
fault_word faults.TooBig = codes "toobig"
fault_word faults.BadDir = codes "baddir"

-- names, with a space before each
abbrev pub more_names : List (List ℕ) → List ℕ
more_names [] = []
more_names (name ∷ names) = 32 ∷ (name ++ more_names names)

-- names, parted by spaces, or that there are none
abbrev pub names_text : List (List ℕ) → List ℕ
names_text [] = codes "empty"
names_text (name ∷ names) = name ++ more_names names

-- an answer
abbrev pub answer_text : Answer → List ℕ
answer_text (answers.Version ver) = 118 ∷ decimal ver
answer_text (answers.Got ver value) = 118 ∷ (decimal ver ++ 32 ∷ value_text value)
answer_text answers.Done = codes "ok"
answer_text (answers.Made ino) = codes "ino " ++ decimal ino
answer_text (answers.Bytes bytes) = quoted_text bytes
answer_text (answers.Size size) = decimal size
answer_text (answers.Names names) = names_text names
answer_text (answers.Epoch epoch) = codes "ok epoch " ++ decimal epoch
answer_text (answers.Count count) = codes "ok " ++ decimal count
answer_text (answers.Rebuilt filled gone) = codes "ok " ++ (decimal filled ++ codes " gone " ++ decimal gone)
answer_text answers.Busy = codes "busy"
answer_text answers.Down = codes "down"
answer_text answers.Up = codes "up"
answer_text answers.Cut = codes "cut"
answer_text (answers.Lost seg) = codes "lost " ++ log_seq_text seg
answer_text (answers.File fault) = fault_word fault
