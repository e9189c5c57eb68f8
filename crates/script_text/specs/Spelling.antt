-- What a part of a line spells, and when it is at fault: its form is looked at first, and then its limit.
use Rattle.std.specs.Prelude.{◌≡◌, ◌≢◌, ◌⊎◌, ℕ, ◌<◌, ◌≤◌, ◌^◌, min, List, [], ◌∷◌, ◌++◌, length}
use Rattle.std.specs.List.{AllByRecursion}
use Rattle.std.specs.Fmt.{decimal}
use Rattle.xfs_base.specs.Blocks.{IsRaw}
use Rattle.xfs_base.specs.declared.setup.Setup.{Setup}
use Rattle.xfs_base.specs.Limits.{max_value, max_text}
use Rattle.script_text.specs.declared.form.Part.{Part}
use Rattle.script_text.specs.declared.form.Part.TheVariants as part
use Rattle.script_text.specs.declared.refusal.Kind.{Kind}
use Rattle.script_text.specs.declared.refusal.Kind.TheVariants.{BadNumber, BadText, TooLong, NoNode}
use Rattle.script_text.specs.Words.{Lacks}
use Rattle.script_text.specs.Text.{SpellsText}
use Rattle.script_text.specs.Forms.{Meaning, Meanings, piece_of, behind_part}

-- a number of 32 bits in decimal digits, without a sign or a leading zero
abbrev pub IsNumber : List ℕ → ℕ → Type 0
IsNumber word n = (n < 2 ^ 32) × (word ≡ decimal n)

-- a letter and such a number
abbrev pub IsNode : ℕ → List ℕ → ℕ → Type 0
IsNode letter word n = (n < 2 ^ 32) × (word ≡ letter ∷ decimal n)

-- each name behind a slash
abbrev pub slashed : List (List ℕ) → List ℕ
slashed [] = []
slashed (name ∷ names) = 47 ∷ (name ++ slashed names)

-- a path of these names: a slash alone is the root, which has none, and else each name stands behind a slash
abbrev pub IsPath : List ℕ → List (List ℕ) → Type 0
IsPath word [] = word ≡ 47 ∷ []
IsPath word (name ∷ names) = (word ≢ 47 ∷ []) × AllByRecursion (Lacks 47) (name ∷ names) × (word ≡ slashed (name ∷ names))

-- what is known where a line is read: the setup, and how many bytes of texts are still free
pub record Context : Type 0 where
  pub setup : Setup
  pub room : ℕ

-- the word has the form of this part, and spells this
abbrev pub Spells : (p : Part) → List ℕ → Meaning p → Type 0
Spells part.Client word n = IsNode 99 word n
Spells part.Manager word n = IsNode 109 word n
Spells part.Server word n = IsNode 115 word n
Spells part.Board word n = IsNode 98 word n
Spells (part.Number least limit) word n = IsNumber word n × (least ≤ n) × (n ≤ limit)
Spells part.Raw word n = IsNumber word n × IsRaw n
Spells part.Path word names = IsPath word names
Spells part.BlockText word text = SpellsText word text × (0 < length text)
Spells part.FileText word text = SpellsText word text
Spells p word v = Unit {0}

-- there is a node of this number, of so many
abbrev pub IsOneOf : ℕ → ℕ → Type 0
IsOneOf count n = (0 < n) × (n ≤ count)

-- what it spells is within the limit of this part
abbrev pub IsWithin : Context → (p : Part) → Meaning p → Type 0
IsWithin c part.Client n = IsOneOf c.setup.clients n
IsWithin c part.Manager n = IsOneOf c.setup.managers n
IsWithin c part.Server n = IsOneOf c.setup.servers n
IsWithin c part.Board n = IsOneOf 3 n
IsWithin c part.Path names = length names ≤ 16
IsWithin c part.BlockText text = length text ≤ min max_value c.room
IsWithin c part.FileText text = length text ≤ min max_text c.room
IsWithin c p v = Unit {0}

-- the kind of a malformed part
abbrev pub form_fault : Part → Kind
form_fault part.Path = BadText
form_fault part.BlockText = BadText
form_fault part.FileText = BadText
form_fault p = BadNumber

-- the kind of a part past its limit
abbrev pub limit_fault : Part → Kind
limit_fault part.Path = TooLong
limit_fault part.BlockText = TooLong
limit_fault part.FileText = TooLong
limit_fault part.Client = NoNode
limit_fault part.Manager = NoNode
limit_fault part.Server = NoNode
limit_fault part.Board = NoNode
limit_fault p = BadNumber

-- the word is good for this part, and spells this
abbrev pub Means : Context → (p : Part) → List ℕ → Meaning p → Type 0
Means c p word v = Spells p word v × IsWithin c p v

-- the word is at fault: it has not the form of this part, or what it spells is past the limit
abbrev pub IsFault : Context → Part → List ℕ → Kind → Type 0
IsFault c p word k =
    (((v : Meaning p) → Spells p word v → ⊥) × (k ≡ form_fault p))
    ⊎ ((v : Meaning p) × Spells p word v × (IsWithin c p v → ⊥) × (k ≡ limit_fault p))

-- the words are good for these parts, from left to right, and spell these
abbrev pub Mean : Context → (ps : List Part) → List (List ℕ) → Meanings ps → Type 0
Mean c [] ws v = Unit {0}
Mean c (p ∷ ps) ws v = Means c p (piece_of p ws) v.0 × Mean c ps (behind_part p ws) v.1

-- the first part at fault, from left to right, is at fault for this reason
abbrev pub FirstFault : Context → List Part → List (List ℕ) → Kind → Type 0
FirstFault c [] ws k = ⊥
FirstFault c (p ∷ ps) ws k =
    IsFault c p (piece_of p ws) k
    ⊎ ((v : Meaning p) × Means c p (piece_of p ws) v × FirstFault c ps (behind_part p ws) k)
