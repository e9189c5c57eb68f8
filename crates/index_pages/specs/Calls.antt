-- Any list of calls on an index in pages, and what they put.
use Rattle.std.specs.Prelude.{◌≡◌, ℕ, ◌+◌, Bool, true, ◌&&◌, List, [], ◌∷◌, ◌++◌, Option, Some, None, Contains, fold, if◌then◌else◌}
use Rattle.std.specs.List.{list_any}
use Rattle.xfs_base.specs.declared.block.BlockId.{BlockId}
use Rattle.xfs_base.specs.declared.entry.Entry.{Entry}
use Rattle.xfs_base.specs.Blocks.{same_block}
use Rattle.delta_index.specs.Entries.{no_entry, is_newer}
use Rattle.index_pages.specs.declared.layout.Page.{Page}
use Rattle.index_pages.specs.Layout.{first_block}
use Rattle.index_pages.specs.Pages.{PagesState, pages_new, page_of, put, pages_merge, pages_clean}

pub data Call : Type 0 where
  Put : BlockId → Entry → Call
  Merge : BlockId → Entry → Call
  Clean : Call

abbrev pub after_call : PagesState → Call → PagesState
after_call s (Put block entry) = put s block entry
after_call s (Merge block entry) = pages_merge s block entry
after_call s Clean = pages_clean s

-- the pages once all of these were called, in order
abbrev pub after_calls : PagesState → List Call → PagesState
after_calls s [] = s
after_calls s (call ∷ calls) = after_calls (after_call s call) calls

-- what a block has in the plain table once this is called, where it had another entry before: a merge puts where its entry
-- is newer
abbrev pub put_over : BlockId → Entry → Call → Entry
put_over q held (Put block entry) = if same_block q block then entry else held
put_over q held (Merge block entry) = if same_block q block && is_newer entry held then entry else held
put_over q held Clean = held

-- what was put last at a block; no entry where nothing was
abbrev pub last_put : List Call → BlockId → Entry
last_put calls q = fold (put_over q) no_entry calls

-- whether a call after these does what its name says: a merge puts only where its entry is newer than what was put last
abbrev pub takes : List Call → Call → Bool
takes before (Put block entry) = true
takes before (Merge block entry) = is_newer entry (last_put before block)
takes before Clean = true

-- the calls, made after those before, without the merges that put nothing
abbrev pub taken_from : List Call → List Call → List Call
taken_from before [] = []
taken_from before (call ∷ calls) =
    if takes before call then call ∷ taken_from (before ++ call ∷ []) calls else taken_from (before ++ call ∷ []) calls

-- the calls without the merges that put nothing
abbrev pub taken : List Call → List Call
taken calls = taken_from [] calls

-- the pages, with that of a block as the last where it wasn't there
abbrev pub with_first : List BlockId → BlockId → List BlockId
with_first firsts block = if list_any (same_block (first_block block)) firsts then firsts else firsts ++ first_block block ∷ []

abbrev pub with_page : List BlockId → Call → List BlockId
with_page firsts (Put block entry) = with_first firsts block
with_page firsts (Merge block entry) = with_first firsts block
with_page firsts Clean = firsts

-- the pages on which something was put, each by its first block, in order of the first put on each
abbrev pub pages_begun : List Call → List BlockId
pages_begun calls = fold with_page [] (taken calls)

abbrev pub with_put : List BlockId → Call → List BlockId
with_put blocks (Put block entry) = blocks ++ block ∷ []
with_put blocks (Merge block entry) = blocks ++ block ∷ []
with_put blocks Clean = []

-- the blocks at which something was put since the last clean
abbrev pub puts_since_clean : List Call → List BlockId
puts_since_clean calls = fold with_put [] (taken calls)

-- since the last clean something was put at a block of the page of this number
abbrev pub IsPutOn : List Call → ℕ → Type 0
IsPutOn calls number = (block : BlockId) × Contains (puts_since_clean calls) block × (page_of (after_calls pages_new calls) block ≡ Some number)

-- where a block stands in a list whose first place has this number
abbrev pub place_from : ℕ → BlockId → List BlockId → Option ℕ
place_from n block [] = None
place_from n block (b ∷ bs) = if same_block block b then Some n else place_from (n + 1) block bs

-- the page of this first block, changed where one of these blocks is on it
abbrev pub page_with : List BlockId → BlockId → Page
page_with blocks first = record { first = first; changed = list_any (λ b. same_block (first_block b) first) blocks }
