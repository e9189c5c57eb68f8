-- Which words a line of an act has. A part is looked at here only for its shape: what it says is read afterwards.
use Rattle.std.specs.Prelude.{ℕ, Bool, true, false, not, ◌==◌, ◌&&◌, ◌||◌, nat_le, List, [], ◌∷◌, codes, length, filter, Option, Some, None, if◌then◌else◌}
use Rattle.std.specs.List.{list_all}
use Rattle.std.specs.Str.{bytes_eq}
use Rattle.script_text.specs.Reading.{cut_at}
use Rattle.script_text.specs.Words.{first, behind, is_end}
use Rattle.audit.specs.declared.shape.Verb.{Verb}
use Rattle.audit.specs.declared.shape.Verb.TheVariants as verbs

abbrev pub is_digit : ℕ → Bool
is_digit b = nat_le 48 b && nat_le b 57

abbrev pub is_nil : List ℕ → Bool
is_nil [] = true
is_nil (b ∷ bytes) = false

-- one digit or more, and nothing else
abbrev pub are_digits : List ℕ → Bool
are_digits bytes = not (is_nil bytes) && list_all is_digit bytes

-- a letter and digits
abbrev pub is_numbered : ℕ → List ℕ → Bool
is_numbered letter [] = false
is_numbered letter (b ∷ digits) = (b == letter) && are_digits digits

-- a client, a manager or the cleaner
abbrev pub is_writer : List ℕ → Bool
is_writer word = is_numbered 99 word || is_numbered 109 word || bytes_eq word (codes "cl")

-- how often a byte stands in a word
abbrev pub count_of : ℕ → List ℕ → ℕ
count_of mark word = length (filter (λ b. b == mark) word)

-- the two parts of a word around the first of a byte; the word and nothing, where it has none
abbrev pub halves_of : List ℕ → Option (List ℕ × List ℕ) → List ℕ × List ℕ
halves_of word None = (word, [])
halves_of word (Some p) = p

abbrev pub front : ℕ → List ℕ → List ℕ
front mark word = (halves_of word (cut_at mark word)).0

abbrev pub back : ℕ → List ℕ → List ℕ
back mark word = (halves_of word (cut_at mark word)).1

-- there are two parts, and each is as it should be
abbrev pub both : (List ℕ → Bool) → (List ℕ → Bool) → Option (List ℕ × List ℕ) → Bool
both f g None = false
both f g (Some p) = f p.0 && g p.1

-- a block, as `1/0`
abbrev pub is_block : List ℕ → Bool
is_block word = count_of 47 word == 1

-- a version, as `v1`
abbrev pub is_version : List ℕ → Bool
is_version [] = false
is_version (b ∷ digits) = b == 118

-- a segment in flight, as `1.1`, or none
abbrev pub is_flight : List ℕ → Bool
is_flight word = bytes_eq word (codes "none") || (count_of 46 word == 1)

-- a fall, as `1/0:0:1`
abbrev pub is_fall : List ℕ → Bool
is_fall word = both is_block (λ rest. count_of 58 rest == 1) (cut_at 58 word)

-- a segment, as `c1.1.1.1`
abbrev pub is_segment : List ℕ → Bool
is_segment word = both is_writer (λ rest. count_of 46 rest == 2) (cut_at 46 word)

-- what a word says that was done
abbrev pub verb_of : List ℕ → Option Verb
verb_of word =
    if bytes_eq word (codes "wrote") then Some verbs.Wrote
    else if bytes_eq word (codes "read") then Some verbs.Read
    else if bytes_eq word (codes "synced") then Some verbs.Synced
    else if bytes_eq word (codes "fell") then Some verbs.Fell
    else if bytes_eq word (codes "back") then Some verbs.Back
    else if bytes_eq word (codes "lost") then Some verbs.Lost
    else if bytes_eq word (codes "filed") then Some verbs.Filed
    else if bytes_eq word (codes "dropped") then Some verbs.Dropped
    else None

-- the words behind a verb are of its form
abbrev pub fits : Verb → List (List ℕ) → Bool
fits verbs.Wrote ws = is_numbered 99 (first ws) && (is_block (first (behind ws)) && not (is_end (behind (behind ws))))
fits verbs.Read ws =
    is_numbered 99 (first ws) && (is_block (first (behind ws)) && (is_version (first (behind (behind ws))) && not (is_end (behind (behind (behind ws))))))
fits verbs.Synced ws = is_numbered 99 (first ws) && is_end (behind ws)
fits verbs.Fell ws = is_numbered 99 (first ws) && (is_flight (first (behind ws)) && list_all is_fall (behind (behind ws)))
fits verbs.Back ws = is_numbered 99 (first ws) && list_all is_segment (behind ws)
fits verbs.Lost ws = is_writer (first ws) && (is_segment (first (behind ws)) && is_end (behind (behind ws)))
fits verbs.Filed ws = is_segment (first ws) && is_end (behind ws)
fits verbs.Dropped ws = is_segment (first ws) && is_end (behind ws)

-- a verb whose form the words behind it have
abbrev pub if_fits : Option Verb → List (List ℕ) → Option Verb
if_fits None ws = None
if_fits (Some verb) ws = if fits verb ws then Some verb else None

-- what the words of a line say was done, where they are an act's
abbrev pub shape_of : List (List ℕ) → Option Verb
shape_of ws = if bytes_eq (first ws) (codes "a") then if_fits (verb_of (first (behind ws))) (behind (behind ws)) else None
