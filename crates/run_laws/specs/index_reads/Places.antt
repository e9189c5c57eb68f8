-- What the books have where the index says that a version of a block lies.
use Rattle.std.specs.Prelude.{◌≡◌, ◌≤◌, ℕ, Some, Contains}
use Rattle.client_call.specs.Reads.{value_at}
use Rattle.index_tie.specs.Filed.{IsFiled}
use Rattle.headline.specs.Filed.{Filed, rows_at}
use Rattle.token_law.specs.Books.{Books, said}
use Rattle.xfs_base.specs.declared.block.BlockId.{BlockId}
use Rattle.xfs_base.specs.declared.entry.Entry.{Entry}
use Rattle.xfs_base.specs.declared.entry.Place.{Place}
use Rattle.run_laws.specs.index_reads.Ties.{BooksAre, ArePlain}

module _ (k : Books) (f : Filed) (b : BlockId) (ver : ℕ) (place : Place) where
  abbrev log : ℕ
  log = place.seg.name.log.0

  abbrev seq : ℕ
  seq = place.seg.name.seq

  -- The log of the place has filed its segment, under that name; of the block the books have this version there, and the value of the item that the place
  -- names.
  pub record IsKept : Type 0 where
    pub filed : seq ≤ k.end log
    pub name : (f.segment log seq).name ≡ place.seg.name
    pub version : (said k log seq b).version ≡ ver
    pub value : (said k log seq b).value ≡ value_at (f.segment log seq) place.item

-- Where a filed segment says that a version of a block lies at a place, the books have that version there, with the value of the item.
abbrev pub PlacesAreKept : Type 0
PlacesAreKept =
    (k : Books) (f : Filed) (b : BlockId) (e : Entry) (l q : ℕ) (place : Place) → IsFiled f → BooksAre k f → ArePlain f → Contains (rows_at f l q) (b, e)
    → e.place ≡ Some place → IsKept k f b e.ver place
