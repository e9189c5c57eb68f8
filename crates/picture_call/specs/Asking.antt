-- What the words of `xfs_picture` ask for.
use Rattle.std.specs.Prelude.{ℕ, nat_le, List, [], ◌∷◌, codes, Option, Some, None, if◌then◌else◌}
use Rattle.std.specs.Str.{bytes_eq}
use Rattle.run_chart.specs.declared.row.Span.{Span}
use Rattle.run_chart.specs.declared.row.Span.TheVariants as spans
use Rattle.run_chart.specs.Rows.{of_lines}
use Rattle.script_text.specs.declared.script.Line.{Line}
use Rattle.script_text.specs.Reading.{number_of}
use Rattle.top_call.specs.declared.command.Command.{Command}
use Rattle.top_call.specs.declared.command.Command.TheVariants as commands
use Rattle.picture_call.specs.declared.asked.Asked.{Asked}
use Rattle.picture_call.specs.declared.asked.Asked.TheVariants.{All, Lines, Boards, Disks}

-- the lines from one number to another that doesn't stand before it
abbrev pub lines_between : Option ℕ → Option ℕ → Option Asked
lines_between None last = None
lines_between (Some first) None = None
lines_between (Some first) (Some last) = if nat_le first last then Some (Lines first last) else None

abbrev pub lines_by : List ℕ → List ℕ → List ℕ → Option Asked
lines_by word first last =
    if bytes_eq word (codes "lines") then lines_between (number_of first) (number_of last) else None

abbrev pub one_word : List ℕ → Option Asked
one_word word =
    if bytes_eq word (codes "boards") then Some Boards
    else if bytes_eq word (codes "disks") then Some Disks
    else None

-- no word, `lines A B`, `boards` or `disks`; none where the words are no form
abbrev pub asked_of : List (List ℕ) → Option Asked
asked_of [] = Some All
asked_of (word ∷ []) = one_word word
asked_of (word ∷ first ∷ []) = None
asked_of (word ∷ first ∷ last ∷ []) = lines_by word first last
asked_of (word ∷ first ∷ last ∷ one ∷ more) = None

-- which events are drawn
abbrev pub span_of : Asked → List Line → Span
span_of All lines = spans.Whole
span_of (Lines first last) lines = of_lines lines first last
span_of Boards lines = spans.Whole
span_of Disks lines = spans.Whole

-- the word by which `xfs` plays what is to be drawn
abbrev pub word_of : Asked → List ℕ
word_of All = codes "run"
word_of (Lines first last) = codes "run"
word_of Boards = codes "boards"
word_of Disks = codes "disks"

abbrev pub command_by : Asked → Command
command_by All = commands.Run
command_by (Lines first last) = commands.Run
command_by Boards = commands.Boards
command_by Disks = commands.Disks
