-- An index in pages.
use Rattle.std.specs.Prelude.{ℕ, ◌+◌, true, false, List, [], ◌∷◌, ◌++◌, Bool, Option, Some, None, filter, length, map, nat_lt, slice_get, slice_set, if◌then◌else◌}
use Rattle.std.specs.Map.{lookup}
use Rattle.std.specs.BTreeMap.{is_at, insert_entry}
use Rattle.xfs_base.specs.declared.block.BlockId.{BlockId}
use Rattle.xfs_base.specs.declared.entry.Entry.{Entry}
use Rattle.xfs_base.specs.Blocks.{block_cmp}
use Rattle.xfs_base.specs.Limits.{u32_end}
use Rattle.delta_index.specs.Entries.{is_newer}
use Rattle.delta_index.specs.Index.{entry_of}
use Rattle.index_pages.specs.declared.layout.Page.{Page}
use Rattle.index_pages.specs.Layout.{first_block, blocks_on}

pub record PagesState : Type 0 where
  -- what was put last at each block, by block: the plain table
  pub rows : List (BlockId × Entry)
  -- the number of each page, by its first block
  pub numbers : List (BlockId × ℕ)
  -- the pages, in order of number
  pub pages : List Page

abbrev pub pages_new : PagesState
pages_new = record { rows = []; numbers = []; pages = [] }

-- the number of a block's page; none where nothing of that page was put
abbrev pub page_of : PagesState → BlockId → Option ℕ
page_of s block = lookup (is_at (block_cmp (first_block block))) s.numbers

-- the page of a block, with a change
abbrev pub changed_page : BlockId → Page
changed_page block = record { first = first_block block; changed = true }

-- the entry is put on this page, which is there
abbrev pub put_on : PagesState → ℕ → BlockId → Entry → PagesState
put_on s page block entry = record {
  rows = insert_entry block_cmp s.rows block entry;
  numbers = s.numbers;
  pages = slice_set s.pages page (changed_page block);
}

-- the page of a block comes to be, with the next number
abbrev pub begin_page : PagesState → BlockId → PagesState
begin_page s block = record {
  rows = s.rows;
  numbers = insert_entry block_cmp s.numbers (first_block block) (length s.pages);
  pages = s.pages ++ changed_page block ∷ [];
}

-- the entry is the first of its page, which gets the next number
abbrev pub put_anew : PagesState → BlockId → Entry → PagesState
put_anew s block entry = record {
  rows = insert_entry block_cmp s.rows block entry;
  numbers = insert_entry block_cmp s.numbers (first_block block) (length s.pages);
  pages = s.pages ++ changed_page block ∷ [];
}

-- the entry is put on this page, or on a new one
abbrev pub put_at : Option ℕ → PagesState → BlockId → Entry → PagesState
put_at (Some page) s block entry = put_on s page block entry
put_at None s block entry = put_anew s block entry

-- the entry is put at its block, and the block's page has changed
unfoldable pub put : PagesState → BlockId → Entry → PagesState
put s block entry = put_at (page_of s block) s block entry

-- the entry is put at its block where it is above what was put there last
unfoldable pub pages_merge : PagesState → BlockId → Entry → PagesState
pages_merge s block entry = if is_newer entry (entry_of s.rows block) then put s block entry else s

abbrev pub room_for : Option ℕ → ℕ → Bool
room_for (Some page) count = true
room_for None count = nat_lt count u32_end

-- whether the page of a block is there, or can be begun
abbrev pub has_room : PagesState → BlockId → Bool
has_room s block = room_for (page_of s block) (length s.pages)

-- the page, without a change
abbrev pub clean_page : Page → Page
clean_page page = record { first = page.first; changed = false }

-- no page has changed
unfoldable pub pages_clean : PagesState → PagesState
pages_clean s = record { rows = s.rows; numbers = s.numbers; pages = map clean_page s.pages }

-- the numbers of the pages that changed, where the first of these has this number
abbrev pub changed_from : ℕ → List Page → List ℕ
changed_from number [] = []
changed_from number (page ∷ pages) = if page.changed then number ∷ changed_from (number + 1) pages else changed_from (number + 1) pages

-- the row of a block, where there is one
abbrev pub row_of : BlockId → Option Entry → List (BlockId × Entry)
row_of block None = []
row_of block (Some entry) = (block, entry) ∷ []

-- what rows have of these blocks, in their order
abbrev pub held : List (BlockId × Entry) → List BlockId → List (BlockId × Entry)
held rows [] = []
held rows (block ∷ blocks) = row_of block (lookup (is_at (block_cmp block)) rows) ++ held rows blocks

-- what rows have of the blocks that share a page, in their order
abbrev pub rows_on : List (BlockId × Entry) → Page → List (BlockId × Entry)
rows_on rows page = held rows (blocks_on page.first)

-- what was put on each page, in order of number
abbrev pub all_rows : PagesState → List (List (BlockId × Entry))
all_rows s = map (rows_on s.rows) s.pages

-- what was put on each page that changed, in order of number
abbrev pub changed_rows : PagesState → List (List (BlockId × Entry))
changed_rows s = map (rows_on s.rows) (filter (λ page. page.changed) s.pages)

-- the first block of the page at a place
abbrev pub first_at : Option Page → BlockId
first_at None = record { ino = record { 0 = 0 }; blk = 0 }
first_at (Some page) = page.first

abbrev pub first_of : List Page → ℕ → BlockId
first_of pages number = first_at (slice_get pages number)

-- what was put on a page, by block
unfoldable pub pages_rows : PagesState → ℕ → List (BlockId × Entry)
pages_rows s page = held s.rows (blocks_on (first_of s.pages page))
