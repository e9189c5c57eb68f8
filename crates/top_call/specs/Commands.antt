-- What the words after the program's name ask for.
use Rattle.std.specs.Prelude.{◌≤◌, ℕ, Bool, true, false, List, [], ◌∷◌, codes, Option, Some, None, if◌then◌else◌}
use Rattle.std.specs.Str.{bytes_eq}
use Rattle.script_text.specs.Reading.{number_in}
use Rattle.top_call.specs.declared.command.Command.{Command}
use Rattle.top_call.specs.declared.command.Command.TheVariants.{Run, Live, Mount, Gen, Big, Audit, Boards, Disks}
use Rattle.top_call.specs.declared.command.Drawn.{Drawn}

-- the script that is drawn by a number below 2^31, of at most 2,000 turns
abbrev pub drawn_by : Option ℕ → Option ℕ → Option Drawn
drawn_by None turns = None
drawn_by (Some number) None = None
drawn_by (Some number) (Some turns) = Some (record { number = number; turns = turns })

abbrev pub drawn_of : List ℕ → List ℕ → Option Drawn
drawn_of number turns = drawn_by (number_in 0 2147483647 number) (number_in 0 2000 turns)

-- one word
abbrev pub command_of_word : List ℕ → Option Command
command_of_word word =
    if bytes_eq word (codes "run") then Some Run
    else if bytes_eq word (codes "audit") then Some Audit
    else if bytes_eq word (codes "boards") then Some Boards
    else if bytes_eq word (codes "disks") then Some Disks
    else None

-- a word and a number of workers
abbrev pub command_live : List ℕ → Option ℕ → Option Command
command_live word None = None
command_live word (Some workers) =
    if bytes_eq word (codes "live") then Some (Live workers)
    else if bytes_eq word (codes "mount") then Some (Mount workers)
    else None

-- a word and a script that is drawn
abbrev pub command_drawn : List ℕ → Option Drawn → Option Command
command_drawn word None = None
command_drawn word (Some drawn) =
    if bytes_eq word (codes "gen") then Some (Gen drawn)
    else if bytes_eq word (codes "big") then Some (Big drawn)
    else None

-- `run`, `audit`, `boards`, `disks`, `live W` or `mount W` with W from 1 to 16, `gen NUMBER N` or `big NUMBER N`; none where the words are no form
abbrev pub command_of : List (List ℕ) → Option Command
command_of [] = None
command_of (word ∷ []) = command_of_word word
command_of (word ∷ a ∷ []) = command_live word (number_in 1 16 a)
command_of (word ∷ a ∷ b ∷ []) = command_drawn word (drawn_of a b)
command_of (word ∷ a ∷ b ∷ c ∷ more) = None

-- whether a command reads an input
abbrev pub reads : Option Command → Bool
reads None = false
reads (Some (Gen drawn)) = false
reads (Some (Big drawn)) = false
reads (Some c) = true

-- whether a command is carried out by threads
abbrev pub is_live : Option Command → Bool
is_live (Some (Live workers)) = true
is_live (Some (Mount workers)) = true
is_live asked = false

-- a script that is drawn has at most 2,000 turns
abbrev pub HasFewTurns : Option Command → Type 0
HasFewTurns (Some (Gen drawn)) = drawn.turns ≤ 2000
HasFewTurns (Some (Big drawn)) = drawn.turns ≤ 2000
HasFewTurns asked = Unit {0}
