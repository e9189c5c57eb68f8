-- How a line is read, as functions: what private functions of this crate say of their answers. That they read what the grammar
-- says, and nothing else, is proved in proofs/.
use Rattle.std.specs.Prelude.{◌≡◌, ℕ, ◌+◌, ◌-◌, ◌*◌, ◌^◌, ◌<◌, ◌==◌, min, nat_lt, nat_le, Bool, true, false, not, ◌&&◌, ◌||◌, List, [], ◌∷◌, ◌++◌, length, codes, Option, Some, None, Result, Ok, Err, if◌then◌else◌}
use denote.Ref.{Bor}
use Rattle.std.specs.List.{list_any, repeat, position, slice_get}
use Rattle.std.specs.Str.{bytes_eq}
use Rattle.std.specs.Str.Parse.{digits_value}
use Rattle.std.specs.Fmt.{decimal}
use Rattle.xfs_base.specs.Blocks.{creator_of}
use Rattle.xfs_base.specs.declared.setup.Setup.{Setup}
use Rattle.xfs_base.specs.declared.setup.GroupSetup.{GroupSetup}
use Rattle.xfs_base.specs.declared.node.NodeId.{NodeId}
use Rattle.xfs_base.specs.Limits.{u32_end, max_value, max_text, max_lines, max_bytes}
use Rattle.xfs_base.specs.Nodes.{same_node}
use Rattle.version_model.specs.declared.work.Work.{Work}
use Rattle.version_model.specs.declared.work.Work.TheVariants as works
use Rattle.script_text.specs.declared.form.Form.{Form}
use Rattle.script_text.specs.declared.form.Part.{Part}
use Rattle.script_text.specs.declared.form.Part.TheVariants as part
use Rattle.script_text.specs.declared.refusal.Kind.{Kind}
use Rattle.script_text.specs.declared.refusal.Kind.TheVariants.{BadSetup, BadWord, BadNumber, BadText, TooLong, NoNode, Unclosed}
use Rattle.script_text.specs.declared.text.Mark.{Mark}
use Rattle.script_text.specs.declared.text.Turn.{Turn}
use Rattle.script_text.specs.declared.text.Turn.TheVariants as turns
use Rattle.script_text.specs.declared.text.Repeated.{Repeated}
use Rattle.script_text.specs.declared.text.Mark.TheVariants as mark
use Rattle.script_text.specs.declared.script.Line.{Line}
use Rattle.script_text.specs.declared.script.Script.{Script}
use Rattle.script_text.specs.declared.item.Item.{Item}
use Rattle.script_text.specs.declared.stage.Stage.{Stage}
use Rattle.script_text.specs.declared.stage.Stage.TheVariants as stage
use Rattle.script_text.specs.declared.stage.Place.{Place}
use Rattle.script_text.specs.declared.setup_lines.Said.{Said}
use Rattle.script_text.specs.declared.setup_lines.Said.TheVariants as said
use Rattle.script_text.specs.declared.refusal.LineError.{LineError}
use Rattle.script_text.specs.declared.refusal.LineError.TheVariants as line_errors
use Rattle.script_text.specs.declared.refusal.ScriptError.{ScriptError}
use Rattle.script_text.specs.declared.refusal.ScriptError.TheVariants as errors
use Rattle.script_text.specs.Lines.{lines}
use Rattle.script_text.specs.Words.{parted, words, first, behind, is_end}
use Rattle.script_text.specs.Text.{is_plain}
use Rattle.script_text.specs.Forms.{Meaning, Meanings, verb, parts, work_of, all_forms, is_net, has_words, piece_of, behind_part}
use Rattle.script_text.specs.Outcome.{◌>>=◌, judge, or_fault, Fails}
use Rattle.script_text.specs.Spelling.{Context, form_fault, limit_fault}
use Rattle.script_text.specs.Script.{is_timed, untimed, is_setup_word, is_whole, is_silent, text_size, at_place, item_at, open_crash, start}

-- the words that are left of a line
abbrev pub left_of : Option (Bor (List ℕ)) → List (List ℕ)
left_of None = []
left_of (Some bytes) = words bytes.now

-- the number that a word writes
abbrev pub number_of : List ℕ → Option ℕ
number_of word =
    let n = digits_value 10 word in
    if bytes_eq word (decimal n) && nat_lt n (2 ^ 32) then Some n else None

-- a number within a range
abbrev pub in_range : ℕ → ℕ → Option ℕ → Option ℕ
in_range least limit None = None
in_range least limit (Some n) = if nat_le least n && nat_le n limit then Some n else None

abbrev pub number_in : ℕ → ℕ → List ℕ → Option ℕ
number_in least limit word = in_range least limit (number_of word)

-- a raw index number
abbrev pub if_raw : Option ℕ → Option ℕ
if_raw None = None
if_raw (Some n) = if nat_lt 0 n && (creator_of n == 0) then Some n else None

abbrev pub raw_in : List ℕ → Option ℕ
raw_in word = if_raw (number_of word)

-- the number behind a letter
abbrev pub number_behind : ℕ → List ℕ → Option ℕ
number_behind letter [] = None
number_behind letter (b ∷ word) = if b == letter then number_of word else None

-- there is a node of this number, of so many
abbrev pub is_one_of : ℕ → ℕ → Bool
is_one_of count n = nat_lt 0 n && nat_le n count

-- a node of so many
abbrev pub read_node : ℕ → ℕ → List ℕ → Result ℕ Kind
read_node letter count word = judge BadNumber NoNode (is_one_of count) (number_behind letter word)

-- a byte before a text
abbrev pub with_byte : ℕ → Option (List ℕ) → Option (List ℕ)
with_byte b None = None
with_byte b (Some text) = Some (b ∷ text)

-- the value of a hexadecimal digit in lower case
abbrev pub hex_value : ℕ → Option ℕ
hex_value b = if nat_le 48 b && nat_le b 57 then Some (b - 48) else if nat_le 97 b && nat_le b 102 then Some (b - 87) else None

-- the mark of a second digit has a first one
abbrev pub IsMark : Mark → Type 0
IsMark (mark.Low h) = h < 16
IsMark m = Unit {0}

abbrev pub IsTurn : Turn → Type 0
IsTurn (turns.Goes m) = IsMark m
IsTurn t = Unit {0}

-- what a byte does: at a byte of the text, behind a backslash, at the first and at the second digit
abbrev pub turn_at : Mark → ℕ → Turn
turn_at mark.Plain b =
    if b == 34 then turns.Closes
    else if is_plain b then turns.Adds b
    else if b == 92 then turns.Goes mark.Escape
    else turns.Fails
turn_at mark.Escape b =
    if b == 120 then turns.Goes mark.High
    else if (b == 34) || (b == 92) then turns.Adds b
    else turns.Fails
turn_at mark.High b = elim (hex_value b) [ None ↦ turns.Fails | Some h ↦ turns.Goes (mark.Low h) ]
turn_at (mark.Low h) b = elim (hex_value b) [ None ↦ turns.Fails | Some l ↦ turns.Adds (16 * h + l) ]

-- the empty text, where nothing follows
abbrev pub if_last : List ℕ → Option (List ℕ)
if_last [] = Some []
if_last (b ∷ bytes) = None

-- what the bytes up to the closing quote, which is the last byte, stand for
abbrev pub text_from : Mark → List ℕ → Option (List ℕ)
text_from m [] = None
text_from m (b ∷ bytes) =
    elim (turn_at m b) [
      | turns.Adds x ↦ with_byte x (text_from mark.Plain bytes)
      | turns.Goes n ↦ text_from n bytes
      | turns.Closes ↦ if_last bytes
      | turns.Fails ↦ None
    ]

-- what stands between quotes
abbrev pub quoted_text : List ℕ → Option (List ℕ)
quoted_text [] = None
quoted_text (b ∷ bytes) = if b == 34 then text_from mark.Plain bytes else None

-- what stands before the first of a byte, and behind it
abbrev pub onto_front : ℕ → Option (List ℕ × List ℕ) → Option (List ℕ × List ℕ)
onto_front b None = None
onto_front b (Some p) = Some (b ∷ p.0, p.1)

abbrev pub cut_at : ℕ → List ℕ → Option (List ℕ × List ℕ)
cut_at mark [] = None
cut_at mark (b ∷ bytes) = if b == mark then Some ([], bytes) else onto_front b (cut_at mark bytes)

-- a text so often
abbrev pub with_count : ℕ → Option (List ℕ) → Option Repeated
with_count count None = None
with_count count (Some text) = Some (record { count = count; text = text })

-- a count, a star, and what stands between quotes behind it
abbrev pub counted_as : Option ℕ → Option (List ℕ) → Option Repeated
counted_as None text = None
counted_as (Some count) text = with_count count text

abbrev pub counted_by : Option (List ℕ × List ℕ) → Option Repeated
counted_by None = None
counted_by (Some p) = counted_as (number_of p.0) (quoted_text p.1)

abbrev pub counted_text : List ℕ → Option Repeated
counted_text word = counted_by (cut_at 42 word)

-- how often a text is repeated, and the text
abbrev pub text_parts : List ℕ → Option Repeated
text_parts [] = None
text_parts (b ∷ word) = if b == 34 then with_count 1 (text_from mark.Plain word) else counted_text (b ∷ word)

-- a text is within a limit
abbrev pub is_short : ℕ → List ℕ → Bool
is_short limit text = nat_le (length text) limit

abbrev pub within : ℕ → List ℕ → Result (List ℕ) Kind
within limit text = if is_short limit text then Ok text else Err TooLong

abbrev pub within_repeat : ℕ → Repeated → Result (List ℕ) Kind
within_repeat limit p = within limit (repeat p.count p.text)

-- a text, which may be empty or not
abbrev pub some_text : Bool → Option Repeated → Option (List ℕ)
some_text may_be_empty None = None
some_text may_be_empty (Some p) =
    if not may_be_empty && (length (repeat p.count p.text) == 0) then None else Some (repeat p.count p.text)

abbrev pub text_in : Bool → List ℕ → Option (List ℕ)
text_in may_be_empty word = some_text may_be_empty (text_parts word)

-- a text within a limit
abbrev pub read_text : Bool → ℕ → List ℕ → Result (List ℕ) Kind
read_text may_be_empty limit word = judge BadText TooLong (is_short limit) (text_in may_be_empty word)

-- the names of a path
abbrev pub names_of : List ℕ → Option (List (List ℕ))
names_of [] = None
names_of (b ∷ word) = if b == 47 then Some (elim word [ [] ↦ [] | c ∷ cs ↦ parted 47 (c ∷ cs) ]) else None

-- names are within the limit
abbrev pub are_few : List (List ℕ) → Bool
are_few names = nat_le (length names) 16

abbrev pub names_below : List ℕ → Result (List (List ℕ)) Kind
names_below bytes = if are_few (parted 47 bytes) then Ok (parted 47 bytes) else Err TooLong

-- a path
abbrev pub read_path : List ℕ → Result (List (List ℕ)) Kind
read_path word = judge BadText TooLong are_few (names_of word)

-- what a word spells for a part
abbrev pub spelled_by : (p : Part) → List ℕ → Option (Meaning p)
spelled_by part.Client word = number_behind 99 word
spelled_by part.Manager word = number_behind 109 word
spelled_by part.Server word = number_behind 115 word
spelled_by part.Board word = number_behind 98 word
spelled_by (part.Number least limit) word = number_in least limit word
spelled_by part.Raw word = raw_in word
spelled_by part.Path word = names_of word
spelled_by part.BlockText word = text_in false word
spelled_by part.FileText word = text_in true word
spelled_by part.Cleaner word = Some tt
spelled_by part.Registry word = Some tt
spelled_by part.Network word = Some tt
spelled_by part.Verb word = Some tt

-- what is spelled is within the limit of the part
abbrev pub is_within : Context → (p : Part) → Meaning p → Bool
is_within c part.Client n = is_one_of c.setup.clients n
is_within c part.Manager n = is_one_of c.setup.managers n
is_within c part.Server n = is_one_of c.setup.servers n
is_within c part.Board n = is_one_of 3 n
is_within c (part.Number least limit) n = true
is_within c part.Raw n = true
is_within c part.Path names = are_few names
is_within c part.BlockText text = is_short (min max_value c.room) text
is_within c part.FileText text = is_short (min max_text c.room) text
is_within c part.Cleaner u = true
is_within c part.Registry u = true
is_within c part.Network u = true
is_within c part.Verb u = true

-- a part
abbrev pub read_part : Context → (p : Part) → List ℕ → Result (Meaning p) Kind
read_part c p word = judge (form_fault p) (limit_fault p) (is_within c p) (spelled_by p word)

-- these parts, from left to right
abbrev pub read_parts : Context → (ps : List Part) → List (List ℕ) → Result (Meanings ps) Kind
read_parts c [] ws = Ok tt
read_parts c (p ∷ ps) ws = read_part c p (piece_of p ws) >>= λ v. read_parts c ps (behind_part p ws) >>= λ vs. Ok (v, vs)

-- the form at a place of the list
abbrev pub form_at : Option ℕ → Option Form
form_at None = None
form_at (Some i) = slice_get all_forms i

-- the form whose words these are
unfoldable pub form_of : List (List ℕ) → Option Form
form_of ws = form_at (position (λ f. has_words (verb f) (parts f) ws) all_forms)

-- the work of a form
abbrev pub read_work : Context → Form → List (List ℕ) → Result Work Kind
read_work c f ws = read_parts c (parts f) ws >>= λ v. Ok (work_of f v)

-- the N of `after N`
abbrev pub read_after : List (List ℕ) → Result ℕ Kind
read_after ws = if is_timed ws then or_fault BadNumber (number_in 0 u32_end (first (behind ws))) else Ok 0

-- the form of an item
abbrev pub form_in : List (List ℕ) → Result Form Kind
form_in ws = or_fault BadWord (form_of (untimed ws)) >>= λ f. if is_timed ws && is_net f then Err BadWord else Ok f

-- an item
abbrev pub read_item : Context → List (List ℕ) → Result Item Kind
read_item c ws =
    form_in ws >>= λ f. read_after ws >>= λ after. read_work c f (untimed ws) >>= λ work. Ok (record { after = after; work = work })

-- the number that a line of the setup gives to a name
abbrev pub number_for : List ℕ → ℕ → ℕ → List (List ℕ) → Option ℕ
number_for name least limit ws =
    if bytes_eq (first ws) name && not (is_end (behind ws)) && is_end (behind (behind ws)) then number_in least limit (first (behind ws)) else None

-- a server of so many that is none of these
abbrev pub if_new : List ℕ → Option ℕ → Option ℕ
if_new taken None = None
if_new taken (Some s) = if list_any (λ t. t == s) taken then None else Some s

abbrev pub new_server : ℕ → List ℕ → List ℕ → Option ℕ
new_server servers taken word = if_new taken (number_in 1 servers word)

-- servers that differ, behind those that are taken
abbrev pub servers_from : ℕ → List ℕ → List (List ℕ) → Option (List ℕ)
servers_from servers taken [] = Some taken
servers_from servers taken (w ∷ ws) =
    elim (new_server servers taken w) [ None ↦ None | Some s ↦ servers_from servers (taken ++ s ∷ []) ws ]

-- as many as a group of this parity may have
abbrev pub enough_for : ℕ → Option (List ℕ) → Option GroupSetup
enough_for parity None = None
enough_for parity (Some group) =
    if nat_le (parity + 2) (length group) && nat_le (length group) 8 then Some (record { servers = group; parity = parity }) else None

-- the group that a line names
abbrev pub group_of : ℕ → List (List ℕ) → Option GroupSetup
group_of servers ws =
    if bytes_eq (first ws) (codes "group") then enough_for 1 (servers_from servers [] (behind ws))
    else if bytes_eq (first ws) (codes "group2") then enough_for 2 (servers_from servers [] (behind ws))
    else None

-- what a line of the setup says, where it may stand
abbrev pub said_as : {X : Type 0} → (X → Said) → Option X → Option Said
said_as f None = None
said_as f (Some x) = Some (f x)

abbrev pub or_else : Option Said → Option Said → Option Said
or_else None other = other
or_else (Some s) other = Some s

abbrev pub group_said : Setup → List (List ℕ) → Option Said
group_said setup ws = if nat_lt (length setup.groups) 8 then said_as said.Group (group_of setup.servers ws) else None

abbrev pub acts_said : List (List ℕ) → Option Said
acts_said ws = if bytes_eq (first ws) (codes "acts") && is_end (behind ws) then Some said.Acts else None

abbrev pub said_at : Stage → Setup → List (List ℕ) → Option Said
said_at stage.Version setup ws = said_as (λ n. said.Version) (number_for (codes "xfs") 1 1 ws)
said_at stage.Clients setup ws = said_as said.Clients (number_for (codes "clients") 1 8 ws)
said_at stage.Managers setup ws = said_as said.Managers (number_for (codes "managers") 1 4 ws)
said_at stage.Servers setup ws = said_as said.Servers (number_for (codes "servers") 3 12 ws)
said_at stage.FirstGroup setup ws = group_said setup ws
said_at stage.Groups setup ws = or_else (group_said setup ws) (or_else (said_as said.Cache (number_for (codes "cache") 1 1024 ws)) (acts_said ws))
said_at stage.Cached setup ws = acts_said ws
said_at stage.Items setup ws = None

-- the place behind a line of the setup
abbrev pub behind_said : Place → Said → Place
behind_said p said.Version = record p { stage = stage.Clients }
behind_said p (said.Clients n) = record p { stage = stage.Managers; setup = record p.setup { clients = n } }
behind_said p (said.Managers n) = record p { stage = stage.Servers; setup = record p.setup { managers = n } }
behind_said p (said.Servers n) = record p { stage = stage.FirstGroup; setup = record p.setup { servers = n } }
behind_said p (said.Group g) = record p { stage = stage.Groups; setup = record p.setup { groups = p.setup.groups ++ g ∷ [] } }
behind_said p (said.Cache n) = record p { stage = stage.Cached; setup = record p.setup { cache = n } }
behind_said p said.Acts = record p { stage = stage.Items; setup = record p.setup { acts = true } }

-- the place behind an item
abbrev pub behind_item : ℕ → Place → Item → Place
behind_item n p i =
    record p { stage = stage.Items; room = p.room - text_size i.work; items = p.items ++ item_at n i.after i.work ∷ [] }

-- the place behind a line that is none of the setup
abbrev pub read_other : ℕ → Place → List (List ℕ) → Result Place Kind
read_other n p ws =
    if is_whole p.stage && not (is_setup_word (first ws))
    then read_item (at_place p) ws >>= (λ i. Ok (behind_item n p i))
    else Err BadSetup

-- the place behind a line that says something
abbrev pub read_words : ℕ → Place → List (List ℕ) → Result Place Kind
read_words n p ws = elim (said_at p.stage p.setup ws) [ Some s ↦ Ok (behind_said p s) | None ↦ read_other n p ws ]

-- the place behind a line
abbrev pub read_line : ℕ → List ℕ → Place → Result Place Kind
read_line n line p = if is_silent line then Ok p else read_words n p (words line)

-- the line is past a limit
abbrev pub is_past : ℕ → ℕ → ℕ → Bool
is_past total n end = nat_lt max_lines n || nat_lt max_bytes total && nat_lt max_bytes end

-- the place behind a line that ends here
abbrev pub read_at : ℕ → ℕ → ℕ → List ℕ → Place → Result Place Kind
read_at total n end line p = if is_past total n end then Err TooLong else read_line n line p

-- a node added to those that are not it
abbrev pub with_node : List NodeId → NodeId → List NodeId
with_node nodes node = if list_any (λ n. same_node n node) nodes then nodes else nodes ++ node ∷ []

-- the nodes that are restarted from a work on
abbrev pub after_work : List NodeId → Work → List NodeId
after_work nodes (works.Restart node) = with_node nodes node
after_work nodes w = nodes

-- the first open crash from an item on, where these nodes are restarted behind it
abbrev pub crash_before : Work → ℕ → List NodeId → Option ℕ → Option ℕ
crash_before (works.Crash node) number nodes found = if list_any (λ n. same_node n node) nodes then found else Some number
crash_before w number nodes found = found

abbrev pub found_before : Line → List NodeId → Option ℕ → Option ℕ
found_before l nodes found = crash_before l.work l.number nodes found

-- a bad line
pub record Fault : Type 0 where
  pub line : ℕ
  pub kind : Kind

-- the script of a place behind the last line, of which the next would have this number
abbrev pub script_at : Bool → ℕ → Place → Result Script Fault
script_at live n p =
    if is_whole p.stage
    then (elim (open_crash live p.items) [ None ↦ Ok (record { setup = p.setup; lines = p.items }) | Some m ↦ Err (record { line = m; kind = Unclosed }) ])
    else Err (record { line = n; kind = BadSetup })

-- the script of these lines, or the first bad one
abbrev pub read_lines : Bool → ℕ → ℕ → ℕ → List (List ℕ) → Place → Result Script Fault
read_lines live total n at [] p = script_at live n p
read_lines live total n at (l ∷ ls) p =
    elim (read_at total n (at + (length l + 1)) l p) [
      | Ok q ↦ read_lines live total (n + 1) (at + (length l + 1)) ls q
      | Err k ↦ Err (record { line = n; kind = k })
    ]

-- the script of the bytes, or the first bad line
abbrev pub read_script : Bool → List ℕ → Result Script Fault
read_script live bytes = read_lines live (length bytes) 1 0 (lines bytes) start

-- why a script is refused whose line of this number is not taken
abbrev pub refused : ℕ → LineError → ScriptError
refused n (line_errors.Bad k) = errors.Bad n k
refused n line_errors.Memory = errors.Memory

-- a script or a fault is the one that reading gives
abbrev pub Faults : ScriptError → Result Script Fault → Type 0
Faults (errors.Bad n k) read = read ≡ Err (record { line = n; kind = k })
Faults errors.Memory read = Unit {0}

abbrev pub AnswersScript : Result Script ScriptError → Result Script Fault → Type 0
AnswersScript (Ok s) read = read ≡ Ok s
AnswersScript (Err e) read = Faults e read

-- the call leads to the place that reading gives, or fails as it does
abbrev pub LeadsTo : Result (Unit {0}) LineError → Place → Result Place Kind → Type 0
LeadsTo (Ok u) place read = read ≡ Ok place
LeadsTo (Err e) place read = Fails e read
