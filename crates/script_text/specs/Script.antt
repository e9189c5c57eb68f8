-- Which bytes are which script, and which line is the first bad one.
use Rattle.std.specs.Prelude.{◌≡◌, ◌≢◌, ◌⊎◌, ℕ, ◌+◌, ◌-◌, ◌≤◌, ◌<◌, ◌^◌, ◌==◌, Bool, true, false, not, ◌&&◌, ◌||◌, List, [], ◌∷◌, ◌++◌, length, map, codes, Option, Some, None, if◌then◌else◌}
use Rattle.std.specs.Bool.{MatchBool}
use Rattle.std.specs.List.{list_any, AllByRecursion}
use Rattle.std.specs.Str.{bytes_eq}
use Rattle.std.specs.Fmt.{decimal}
use Rattle.xfs_base.specs.declared.setup.GroupSetup.{GroupSetup}
use Rattle.xfs_base.specs.declared.node.NodeId.{NodeId}
use Rattle.xfs_base.specs.Limits.{u32_end, max_lines, max_bytes}
use Rattle.xfs_base.specs.Nodes.{same_node}
use Rattle.version_model.specs.declared.work.Work.{Work}
use Rattle.version_model.specs.declared.work.Work.TheVariants as works
use Rattle.version_model.specs.declared.file_call.FileCall.TheVariants as calls
use Rattle.script_text.specs.declared.form.Form.{Form}
use Rattle.script_text.specs.declared.form.Part.{Part}
use Rattle.script_text.specs.declared.form.Part.TheVariants as part
use Rattle.script_text.specs.declared.script.Line.{Line}
use Rattle.script_text.specs.declared.script.Script.{Script}
use Rattle.script_text.specs.declared.stage.Stage.{Stage}
use Rattle.script_text.specs.declared.stage.Stage.TheVariants as stage
use Rattle.script_text.specs.declared.stage.Place.{Place}
use Rattle.script_text.specs.declared.refusal.ScriptError.{ScriptError}
use Rattle.script_text.specs.declared.refusal.ScriptError.TheVariants.{Bad, Memory}
use Rattle.script_text.specs.declared.refusal.Kind.{Kind}
use Rattle.script_text.specs.declared.refusal.Kind.TheVariants.{BadSetup, BadWord, TooLong, Unclosed}
use Rattle.script_text.specs.Lines.{lines}
use Rattle.script_text.specs.Words.{words, first, behind, or_empty}
use Rattle.script_text.specs.Forms.{verb, parts, Meanings, work_of, has_words, is_net}
use Rattle.script_text.specs.Spelling.{Context, Means, IsFault, Mean, FirstFault}

-- the line begins with `after N`
abbrev pub is_timed : List (List ℕ) → Bool
is_timed ws = bytes_eq (first ws) (codes "after")

-- the words of the line behind `after N `, where it stands
abbrev pub untimed : List (List ℕ) → List (List ℕ)
untimed ws = if is_timed ws then or_empty (behind (behind ws)) else ws

-- the N of `after N`
abbrev pub a_time : Part
a_time = part.Number 0 u32_end

-- the words are of this form; before one that speaks of the network no `after N` stands
abbrev pub IsOfForm : List (List ℕ) → Form → Type 0
IsOfForm ws f = (has_words (verb f) (parts f) (untimed ws) ≡ true) × ((is_timed ws && is_net f) ≡ false)

-- the item is not begun before its node has made so many events: 0 where no `after N` stands
abbrev pub IsAfter : Context → List (List ℕ) → ℕ → Type 0
IsAfter c ws n = MatchBool (is_timed ws) (Means c a_time (first (behind ws)) n) (n ≡ 0)

-- the words are an item: they are of a form, and spell what it means
pub record IsItem (c : Context) (ws : List (List ℕ)) (after : ℕ) (work : Work) : Type 0 where
  pub form : Form
  pub of_form : IsOfForm ws form
  pub time : IsAfter c ws after
  pub meanings : Meanings (parts form)
  pub spelled : Mean c (parts form) (untimed ws) meanings
  pub meant : work ≡ work_of form meanings

-- the N of `after N` is at fault, or it is good and a later part is the first at fault
abbrev pub IsFaulty : Context → List (List ℕ) → Form → Kind → Type 0
IsFaulty c ws f k =
    ((is_timed ws ≡ true) × IsFault c a_time (first (behind ws)) k)
    ⊎ ((n : ℕ) × IsAfter c ws n × FirstFault c (parts f) (untimed ws) k)

-- why words are no item: no form has them, or a part of their form is at fault
abbrev pub IsBadItem : Context → List (List ℕ) → Kind → Type 0
IsBadItem c ws k =
    (((f : Form) → IsOfForm ws f → ⊥) × (k ≡ BadWord))
    ⊎ ((f : Form) × IsOfForm ws f × IsFaulty c ws f k)

-- a line of the setup that gives a number of these to a name
abbrev pub SaysNumber : List ℕ → ℕ → ℕ → List (List ℕ) → ℕ → Type 0
SaysNumber name least limit ws n = (ws ≡ name ∷ decimal n ∷ []) × (least ≤ n) × (n ≤ limit)

-- no two of these are the same
abbrev pub AreDifferent : List ℕ → Type 0
AreDifferent [] = Unit {0}
AreDifferent (n ∷ ns) = AllByRecursion (λ m. m ≢ n) ns × AreDifferent ns

-- servers that a group of this parity may have, of so many
pub record IsGroup (servers parity : ℕ) (group : List ℕ) : Type 0 where
  pub enough : parity + 2 ≤ length group
  pub few : length group ≤ 8
  pub known : AllByRecursion (λ s. (s < 2 ^ 32) × (1 ≤ s) × (s ≤ servers)) group
  pub differ : AreDifferent group

-- a line of the setup that names a group
abbrev pub NamesGroup : ℕ → List (List ℕ) → GroupSetup → Type 0
NamesGroup servers ws g =
    IsGroup servers g.parity g.servers
    × (((g.parity ≡ 1) × (ws ≡ codes "group" ∷ map decimal g.servers))
    ⊎ ((g.parity ≡ 2) × (ws ≡ codes "group2" ∷ map decimal g.servers)))

-- a group line adds its group, up to eight
abbrev pub AddsGroup : Place → List (List ℕ) → Place → Type 0
AddsGroup p ws q =
    (g : GroupSetup) × NamesGroup p.setup.servers ws g × (length p.setup.groups < 8)
    × (q ≡ record p { stage = stage.Groups; setup = record p.setup { groups = p.setup.groups ++ g ∷ [] } })

-- the line `acts` is the last of a setup
abbrev pub AddsActs : Place → List (List ℕ) → Place → Type 0
AddsActs p ws q = (ws ≡ codes "acts" ∷ []) × (q ≡ record p { stage = stage.Items; setup = record p.setup { acts = true } })

-- a line of the setup, where it may stand, and what it adds
abbrev pub AddsSetup : Stage → Place → List (List ℕ) → Place → Type 0
AddsSetup stage.Version p ws q = (n : ℕ) × SaysNumber (codes "xfs") 1 1 ws n × (q ≡ record p { stage = stage.Clients })
AddsSetup stage.Clients p ws q =
    (n : ℕ) × SaysNumber (codes "clients") 1 8 ws n × (q ≡ record p { stage = stage.Managers; setup = record p.setup { clients = n } })
AddsSetup stage.Managers p ws q =
    (n : ℕ) × SaysNumber (codes "managers") 1 4 ws n × (q ≡ record p { stage = stage.Servers; setup = record p.setup { managers = n } })
AddsSetup stage.Servers p ws q =
    (n : ℕ) × SaysNumber (codes "servers") 3 12 ws n × (q ≡ record p { stage = stage.FirstGroup; setup = record p.setup { servers = n } })
AddsSetup stage.FirstGroup p ws q = AddsGroup p ws q
AddsSetup stage.Groups p ws q =
    AddsGroup p ws q
    ⊎ ((n : ℕ) × SaysNumber (codes "cache") 1 1024 ws n × (q ≡ record p { stage = stage.Cached; setup = record p.setup { cache = n } }))
    ⊎ AddsActs p ws q
AddsSetup stage.Cached p ws q = AddsActs p ws q
AddsSetup stage.Items p ws q = ⊥

-- the words that begin lines of the setup
abbrev pub is_setup_word : List ℕ → Bool
is_setup_word w =
    bytes_eq w (codes "xfs") || bytes_eq w (codes "clients") || bytes_eq w (codes "managers") || bytes_eq w (codes "servers")
    || bytes_eq w (codes "group") || bytes_eq w (codes "group2") || bytes_eq w (codes "cache") || bytes_eq w (codes "acts")

-- the setup has all its lines but the optional ones
abbrev pub is_whole : Stage → Bool
is_whole stage.Groups = true
is_whole stage.Cached = true
is_whole stage.Items = true
is_whole s = false

-- how many bytes of texts an item takes
abbrev pub text_size : Work → ℕ
text_size (works.Bput client block (Some text)) = length text
text_size (works.File client (calls.Put path offset text)) = length text
text_size w = 0

-- what is known at a place
abbrev pub at_place : Place → Context
at_place p = record { setup = p.setup; room = p.room }

-- the item of a line
abbrev pub item_at : ℕ → ℕ → Work → Line
item_at n after work = record { number = n; after = after; work = work }

-- an item is added behind a whole setup
abbrev pub AddsItem : ℕ → Place → List (List ℕ) → Place → Type 0
AddsItem n p ws q =
    (is_whole p.stage ≡ true) × (is_setup_word (first ws) ≡ false) × (after : ℕ) × (work : Work) × IsItem (at_place p) ws after work
    × (q ≡ record p { stage = stage.Items; room = p.room - text_size work; items = p.items ++ item_at n after work ∷ [] })

-- a line that is empty, or begins with `#`, says nothing
abbrev pub is_silent : List ℕ → Bool
is_silent [] = true
is_silent (b ∷ line) = b == 35

-- the line of this number is good at this place, and leads to that one
abbrev pub Leads : ℕ → List ℕ → Place → Place → Type 0
Leads n line p q =
    ((is_silent line ≡ true) × (q ≡ p))
    ⊎ ((is_silent line ≡ false) × (AddsSetup p.stage p (words line) q ⊎ AddsItem n p (words line) q))

-- the line is bad at this place: it is none of the setup that may stand here, and the setup is not whole or the line begins with
-- a setup word; or it is no item
abbrev pub IsBad : List ℕ → Place → Kind → Type 0
IsBad line p k =
    (is_silent line ≡ false) × ((q : Place) → AddsSetup p.stage p (words line) q → ⊥)
    × ((((is_whole p.stage && not (is_setup_word (first (words line)))) ≡ false) × (k ≡ BadSetup))
    ⊎ (((is_whole p.stage && not (is_setup_word (first (words line)))) ≡ true) × IsBadItem (at_place p) (words line) k))

-- a line of an input: how many bytes the input has, the number of the line, and the byte at which it ends with its line feed
pub record LineEnd : Type 0 where
  pub total : ℕ
  pub number : ℕ
  pub end : ℕ

-- the line is past a limit: it is line 20,001 or later, or it has the first byte too many or stands behind it
abbrev pub IsPast : LineEnd → Type 0
IsPast line = (max_lines < line.number) ⊎ (max_bytes < line.total) × (max_bytes < line.end)

-- the place at the first line: nothing is said yet, a client caches 64 clean blocks where no line says another number, and texts
-- may have 64 MiB
abbrev pub start : Place
start = record {
  stage = stage.Version;
  setup = record { clients = 0; managers = 0; servers = 0; groups = []; cache = 64; acts = false };
  room = 67108864;
  items = [];
}

-- the work restarts this node
abbrev pub restarts : NodeId → Work → Bool
restarts node (works.Restart other) = same_node other node
restarts node w = false

-- the item is a crash, and none of these restarts its node
abbrev pub is_unclosed : Work → List Line → Bool
is_unclosed (works.Crash node) later = not (list_any (λ l. restarts node l.work) later)
is_unclosed w later = false

-- the line of the first crash that no later restart follows
abbrev pub unclosed : List Line → Option ℕ
unclosed [] = None
unclosed (l ∷ ls) = if is_unclosed l.work ls then Some l.number else unclosed ls

-- the first crash that counts: in a run with threads alone
abbrev pub open_crash : Bool → List Line → Option ℕ
open_crash live items = if live then unclosed items else None

-- where a line begins: in an input of how many bytes, its number, and how many bytes stand before it
pub record LineStart : Type 0 where
  pub total : ℕ
  pub number : ℕ
  pub begins : ℕ

abbrev pub line_at : ℕ → ℕ → ℕ → LineStart
line_at total number begins = record { total = total; number = number; begins = begins }

-- where the first line begins
abbrev pub first_line : List ℕ → LineStart
first_line bytes = line_at (length bytes) 1 0

-- where the line behind this one begins
abbrev pub line_behind : LineStart → List ℕ → LineStart
line_behind from line = line_at from.total (from.number + 1) (from.begins + (length line + 1))

-- where this line ends
abbrev pub end_of : LineStart → List ℕ → LineEnd
end_of from line = record { total = from.total; number = from.number; end = from.begins + (length line + 1) }

-- these lines, the first of which begins here, are within the limits and good, and are the script
abbrev pub Accepts : Bool → LineStart → List (List ℕ) → Place → Script → Type 0
Accepts live from [] p s = (is_whole p.stage ≡ true) × (open_crash live p.items ≡ None) × (s ≡ record { setup = p.setup; lines = p.items })
Accepts live from (l ∷ ls) p s =
    (IsPast (end_of from l) → ⊥) × (q : Place) × Leads from.number l p q × Accepts live (line_behind from l) ls q s

-- of these lines, the first of which begins here, the first bad one has the number m and is bad of kind k: the setup is not whole at
-- their end, a crash stays open, the first of them is past a limit or bad, or it is good and the first bad line is among the others
abbrev pub Refuses : Bool → LineStart → List (List ℕ) → Place → ℕ → Kind → Type 0
Refuses live from [] p m k =
    ((is_whole p.stage ≡ false) × (m ≡ from.number) × (k ≡ BadSetup))
    ⊎ ((is_whole p.stage ≡ true) × (open_crash live p.items ≡ Some m) × (k ≡ Unclosed))
Refuses live from (l ∷ ls) p m k =
    (IsPast (end_of from l) × (m ≡ from.number) × (k ≡ TooLong))
    ⊎ ((IsPast (end_of from l) → ⊥) × IsBad l p k × (m ≡ from.number))
    ⊎ ((IsPast (end_of from l) → ⊥) × (q : Place) × Leads from.number l p q × Refuses live (line_behind from l) ls q m k)

-- the bytes are this script
abbrev pub IsScriptOf : Bool → List ℕ → Script → Type 0
IsScriptOf live bytes s = Accepts live (first_line bytes) (lines bytes) start s

-- the first bad line of the bytes, and its kind
abbrev pub IsFirstBad : Bool → List ℕ → ℕ → Kind → Type 0
IsFirstBad live bytes number kind = Refuses live (first_line bytes) (lines bytes) start number kind

-- a refusal names the first bad line and its kind; want of memory needs no cause
abbrev pub HasCause : Bool → List ℕ → ScriptError → Type 0
HasCause live bytes (Bad number kind) = IsFirstBad live bytes number kind
HasCause live bytes Memory = Unit {0}
