-- What a line of an act says: the act, or the kind of the first part at fault, from left to right.
use Rattle.std.specs.Prelude.{◌≡◌, ◌≤◌, ℕ, ◌^◌, ◌==◌, Bool, false, ◌&&◌, nat_lt, nat_le, List, [], ◌∷◌, codes, length, drop, Option, Some, None, Result, Ok, Err, if◌then◌else◌}
use Rattle.std.specs.Fmt.{decimal}
use Rattle.std.specs.Str.{bytes_eq}
use Rattle.std.specs.Str.Parse.{digits_value}
use Rattle.script_text.specs.declared.refusal.Kind.{Kind}
use Rattle.script_text.specs.declared.refusal.Kind.TheVariants.{BadWord, BadNumber, BadText, TooLong, NoNode}
use Rattle.script_text.specs.Forms.{block_at}
use Rattle.script_text.specs.Outcome.{◌>>=◌, judge, or_fault}
use Rattle.script_text.specs.Reading.{number_of, quoted_text, is_one_of}
use Rattle.script_text.specs.Words.{joined, words, first, behind}
use Rattle.version_model.specs.declared.act.Act.{Act}
use Rattle.version_model.specs.declared.act.Act.TheVariants as acts
use Rattle.version_model.specs.declared.act.Fall.{Fall}
use Rattle.xfs_base.specs.declared.block.BlockId.{BlockId}
use Rattle.xfs_base.specs.declared.node.NodeId.{NodeId}
use Rattle.xfs_base.specs.declared.node.NodeId.TheVariants as nodes
use Rattle.xfs_base.specs.declared.segment.SegName.{SegName}
use Rattle.xfs_base.specs.Limits.{max_value, most_clients, most_managers}
use Rattle.xfs_base.specs.Logs.{log_of}
use Rattle.audit.specs.declared.shape.Verb.{Verb}
use Rattle.audit.specs.declared.shape.Verb.TheVariants as verbs
use Rattle.audit.specs.Shapes.{front, back, shape_of}

-- ---- numbers

abbrev pub read_number : List ℕ → Result ℕ Kind
read_number word = or_fault BadNumber (number_of word)

-- one from 1 on
abbrev pub read_counted : List ℕ → Result ℕ Kind
read_counted word = judge BadNumber BadNumber (λ n. nat_lt 0 n) (number_of word)

-- the number below 2^64 that a word writes
abbrev pub long_of : List ℕ → Option ℕ
long_of word = let n = digits_value 10 word in if bytes_eq word (decimal n) && nat_lt n (2 ^ 64) then Some n else None

abbrev pub read_long : List ℕ → Result ℕ Kind
read_long word = or_fault BadNumber (long_of word)

-- ---- names

-- the number of a node, of so many, behind its letter
abbrev pub read_node : ℕ → List ℕ → Result ℕ Kind
read_node limit word = judge BadNumber NoNode (is_one_of limit) (number_of (drop 1 word))

-- one of the clients that a run may have
abbrev pub read_client : List ℕ → Result ℕ Kind
read_client word = read_node most_clients word

abbrev pub first_is : ℕ → List ℕ → Bool
first_is letter [] = false
first_is letter (b ∷ bytes) = b == letter

-- a client, one of the managers that a run may have, or the cleaner
abbrev pub read_writer : List ℕ → Result NodeId Kind
read_writer word =
    if bytes_eq word (codes "cl") then Ok nodes.Cleaner
    else if first_is 99 word then (read_client word >>= λ n. Ok (nodes.Client n))
    else (read_node most_managers word >>= λ n. Ok (nodes.Manager n))

abbrev pub read_block : List ℕ → Result BlockId Kind
read_block word = read_number (front 47 word) >>= λ ino. read_number (back 47 word) >>= λ blk. Ok (block_at ino blk)

-- a manager that writes a log is one of those that a run may have
abbrev pub IsFew : NodeId → Type 0
IsFew node = (n : ℕ) → node ≡ nodes.Manager n → n ≤ most_managers

abbrev pub segment_at : NodeId → ℕ → ℕ → ℕ → SegName
segment_at node seq inc att = record { log = log_of node; seq = seq; pass = record { inc = inc; att = att } }

abbrev pub read_segment : List ℕ → Result SegName Kind
read_segment word =
    read_writer (front 46 word) >>= λ node.
    read_counted (front 46 (back 46 word)) >>= λ seq.
    read_counted (front 46 (back 46 (back 46 word))) >>= λ inc.
    read_counted (back 46 (back 46 (back 46 word))) >>= λ att.
    Ok (segment_at node seq inc att)

-- ---- versions and values

abbrev pub read_version : List ℕ → Result ℕ Kind
read_version word = read_long (drop 1 word)

-- a text that a block can hold
abbrev pub value_of : List ℕ → Result (Option (List ℕ)) Kind
value_of [] = Err BadText
value_of (b ∷ bytes) = if nat_le (length (b ∷ bytes)) max_value then Ok (Some (b ∷ bytes)) else Err TooLong

abbrev pub read_value : List ℕ → Result (Option (List ℕ)) Kind
read_value rest = if bytes_eq rest (codes "absent") then Ok None else (or_fault BadText (quoted_text rest) >>= value_of)

-- ---- falls

abbrev pub read_flight : List ℕ → Result (Option (ℕ × ℕ)) Kind
read_flight word =
    if bytes_eq word (codes "none") then Ok None
    else (read_counted (front 46 word) >>= λ seq. read_counted (back 46 word) >>= λ inc. Ok (Some (seq, inc)))

abbrev pub read_fall : List ℕ → Result Fall Kind
read_fall word =
    read_block (front 58 word) >>= λ block.
    read_long (front 58 (back 58 word)) >>= λ low.
    read_long (back 58 (back 58 word)) >>= λ high.
    Ok (record { block = block; low = low; high = high })

-- each of some words
abbrev pub read_each : {A : Type 0} → (List ℕ → Result A Kind) → List (List ℕ) → Result (List A) Kind
read_each read [] = Ok []
read_each read (w ∷ ws) = read w >>= λ a. read_each read ws >>= λ more. Ok (a ∷ more)

-- ---- acts

-- the act of a verb, by the words behind it
abbrev pub act_of : Verb → List (List ℕ) → Result Act Kind
act_of verbs.Wrote ws =
    read_client (first ws) >>= λ client.
    read_block (first (behind ws)) >>= λ block.
    read_value (joined 32 (behind (behind ws))) >>= λ value.
    Ok (acts.Wrote client block value)
act_of verbs.Read ws =
    read_client (first ws) >>= λ client.
    read_block (first (behind ws)) >>= λ block.
    read_version (first (behind (behind ws))) >>= λ ver.
    read_value (joined 32 (behind (behind (behind ws)))) >>= λ value.
    Ok (acts.Read client block ver value)
act_of verbs.Synced ws = read_client (first ws) >>= λ client. Ok (acts.Synced client)
act_of verbs.Fell ws =
    read_client (first ws) >>= λ client.
    read_flight (first (behind ws)) >>= λ flight.
    read_each read_fall (behind (behind ws)) >>= λ falls.
    Ok (acts.Fell client flight falls)
act_of verbs.Back ws =
    read_client (first ws) >>= λ client.
    read_each read_segment (behind ws) >>= λ chain.
    Ok (acts.Back client chain)
act_of verbs.Lost ws =
    read_writer (first ws) >>= λ node.
    read_segment (first (behind ws)) >>= λ seg.
    Ok (acts.Lost node seg)
act_of verbs.Filed ws = read_segment (first ws) >>= λ seg. Ok (acts.Filed seg)
act_of verbs.Dropped ws = read_segment (first ws) >>= λ seg. Ok (acts.Dropped seg)

-- words of no act's shape are none
abbrev pub act_by : Option Verb → List (List ℕ) → Result Act Kind
act_by None ws = Err BadWord
act_by (Some verb) ws = act_of verb (behind (behind ws))

abbrev pub read_act : List ℕ → Result Act Kind
read_act line = act_by (shape_of (words line)) (words line)
