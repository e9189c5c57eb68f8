-- What the law of tokens knows of logs: how far each is filed, whether its next segment is in flight, and what each sealed segment says of blocks.
use Rattle.std.specs.Prelude.{◌≡◌, ◌⊎◌, ℕ, zero, suc, ◌<◌, ◌≤◌, Bool, true, false, List, [], ◌∷◌, Option, Some, None, if◌then◌else◌}
use Rattle.std.specs.List.{list_any}
use Rattle.xfs_base.specs.Blocks.{same_block}
use Rattle.xfs_base.specs.declared.block.BlockId.{BlockId}
use Rattle.xfs_base.specs.declared.entry.Entry.{Entry}
use Rattle.xfs_base.specs.declared.entry.Place.{Place}
use Rattle.token_protocol.specs.Basics.{put}

-- what a segment says of a block: a version, and its value, none where that is absent
pub record Row : Type 0 where
  pub version : ℕ
  pub value : Option (List ℕ)

-- it says nothing of the block
abbrev pub nothing_said : Row
nothing_said = record { version = 0; value = None }

-- what these rows say of a block
abbrev pub row_in : List (BlockId × Row) → BlockId → Row
row_in [] b = nothing_said
row_in ((k, row) ∷ rows) b = if same_block k b then row else row_in rows b

-- no block stands in them twice
abbrev pub AreOnce : List (BlockId × Row) → Type 0
AreOnce [] = Unit {0}
AreOnce ((k, row) ∷ rows) = (list_any (λ (r : BlockId × Row). same_block k r.0) rows ≡ false) × AreOnce rows

-- The logs of clients and, with number 9, the cleaner's: of each the number of its last filed segment, whether the next one is in flight (or was when its
-- owner fell), and what each sealed segment says.
pub record Books : Type 0 where
  pub end : ℕ → ℕ
  pub flying : ℕ → Bool
  pub rows : ℕ → ℕ → List (BlockId × Row)

-- what a segment of a log says of a block
abbrev pub said : Books → ℕ → ℕ → BlockId → Row
said k l q b = row_in (k.rows l q) b

-- nothing is written yet
abbrev pub no_books : Books
no_books = record { end = λ l. 0; flying = λ l. false; rows = λ l q. [] }

-- the next segment of the log is in flight, with these rows
abbrev pub sealed : Books → ℕ → List (BlockId × Row) → Books
sealed k l rows = record k { flying = put k.flying l true; rows = put k.rows l (put (k.rows l) (suc (k.end l)) rows) }

-- it is filed
abbrev pub filed : Books → ℕ → Books
filed k l = record k { flying = put k.flying l false; end = put k.end l (suc (k.end l)) }

-- the log is opened again without what was in flight
abbrev pub discarded : Books → ℕ → Books
discarded k l = record k { flying = put k.flying l false; rows = put k.rows l (put (k.rows l) (suc (k.end l)) []) }

-- with it, or without
abbrev pub reopened : Books → ℕ → Bool → Books
reopened k l adopts = if adopts then filed k l else discarded k l

-- so many segments that say nothing are written and filed
abbrev pub with_empty : ℕ → Books → ℕ → Books
with_empty zero k l = k
with_empty (suc count) k l = with_empty count (filed (sealed k l []) l) l

-- ---- entries of an index

-- the entry was made of this filed segment of this log
pub record IsMadeOf (k : Books) (b : BlockId) (e : Entry) (l q : ℕ) : Type 0 where
  pub filed : q ≤ k.end l
  pub some : 0 < e.ver
  pub row : (said k l q b).version ≡ e.ver
  pub absent : e.place ≡ None → (said k l q b).value ≡ None
  pub place : (p : Place) → e.place ≡ Some p → (p.seg.name.log.0 ≡ l) × (p.seg.name.seq ≡ q)

-- the entry is what some filed segment says, or says that there is nothing
abbrev pub IsFiled : Books → BlockId → Entry → Type 0
IsFiled k b e = ((e.ver ≡ 0) × (e.place ≡ None)) ⊎ ((l : ℕ) × (q : ℕ) × IsMadeOf k b e l q)
