-- What clients did to the block, told apart from the protocol: the history that acts make, and which lists of acts are legal.
use Rattle.std.specs.Prelude.{◌≡◌, ℕ, suc, ◌<◌, ◌≤◌, ◌==◌, Bool, if◌then◌else◌, List, [], ◌∷◌, max}
use Rattle.token_protocol.specs.Basics.{put}

pub data Act : Type 0 where
  -- A client wrote a value.
  Wrote : (c value : ℕ) → Act
  -- A client read a version and a value.
  Read : (c version value : ℕ) → Act
  -- A client synced: a version of its own is safe.
  Synced : (c version : ℕ) → Act
  -- A client fell with the block dirty: it will be cut to one of these versions.
  Fell : (c low high : ℕ) → Act
  -- A client returned, and its tail was adopted or not.
  Back : (c : ℕ) (adopted : Bool) → Act

-- The versions, from 1 to `length`, each with its value and writer; the pinned version; who fell, and what its return cuts to.
pub record History : Type 0 where
  pub length : ℕ
  pub value_at : ℕ → ℕ
  pub writer : ℕ → ℕ
  pub pinned : ℕ
  pub fallen : ℕ → ℕ
  pub low : ℕ → ℕ
  pub high : ℕ → ℕ

abbrev pub no_history : History
no_history = record { length = 0; value_at = λ v. 0; writer = λ v. 0; pinned = 0; fallen = λ c. 0; low = λ c. 0; high = λ c. 0 }

-- A return cuts the history to the version that was settled, and pins it there.
abbrev pub cut : History → ℕ → ℕ → History
cut h c version =
    record h {
      length = if h.fallen c == 1 then version else h.length;
      pinned = if h.fallen c == 1 then version else h.pinned;
      fallen = put h.fallen c 0;
    }

-- What an act makes of the history.
abbrev pub after_act : Act → History → History
after_act (Act.Wrote c value) h =
    record h { length = suc h.length; value_at = put h.value_at (suc h.length) value; writer = put h.writer (suc h.length) c }
after_act (Act.Read c version value) h = record h { pinned = if h.writer version == c then h.pinned else max h.pinned version }
after_act (Act.Synced c version) h = record h { pinned = max h.pinned version }
after_act (Act.Fell c low high) h = record h { fallen = put h.fallen c 1; low = put h.low c low; high = put h.high c high }
after_act (Act.Back c adopted) h = cut h c (if adopted then h.high c else h.low c)

-- A read is legal of the newest version with its value.
pub record LegalRead (h : History) (version : ℕ) (value : ℕ) : Type 0 where
  pub newest : version ≡ h.length
  pub text : value ≡ h.value_at h.length

-- A fall is legal where there is a newest version and it is the client's own, and it falls to versions at or above the pinned one.
pub record LegalFell (h : History) (c : ℕ) (low : ℕ) (high : ℕ) : Type 0 where
  pub some : 0 < h.length
  pub own : h.writer h.length ≡ c
  pub pinned : h.pinned ≤ low
  pub ordered : low ≤ high
  pub known : high ≤ h.length

-- A return is legal where the versions to which its client fell are still there.
pub record LegalBack (h : History) (c : ℕ) : Type 0 where
  pub ordered : h.fallen c ≡ 1 → h.low c ≤ h.high c
  pub known : h.fallen c ≡ 1 → h.high c ≤ h.length

-- Every other act is legal.
abbrev pub LegalAct : History → Act → Type 0
LegalAct h (Act.Read c version value) = LegalRead h version value
LegalAct h (Act.Fell c low high) = LegalFell h c low high
LegalAct h (Act.Back c adopted) = LegalBack h c
LegalAct h act = Unit {0}

-- What acts, oldest first, make of a history.
abbrev pub history_after : List Act → History → History
history_after [] h = h
history_after (act ∷ acts) h = history_after acts (after_act act h)

-- The history that acts made, oldest act first.
abbrev pub history : List Act → History
history acts = history_after acts no_history

-- Each act is legal in the history that the acts before it made, where the first is done in this one.
abbrev pub LegalFrom : History → List Act → Type 0
LegalFrom h [] = Unit {0}
LegalFrom h (act ∷ acts) = LegalAct h act × LegalFrom (after_act act h) acts

-- Each act is legal in the history that the acts before it made.
abbrev pub LegalActs : List Act → Type 0
LegalActs acts = LegalFrom no_history acts
