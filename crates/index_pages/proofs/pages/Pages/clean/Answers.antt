use Rattle.std.proofs.Common.{get_or, false, arith}
use Rattle.std.proofs.lemmas.List.{get_or_default}
use Rattle.std.proofs.lemmas.List.Edits.{map_over_more}
use Rattle.index_pages.specs.declared.layout.Page.{Page}
use Rattle.index_pages.specs.Pages.{clean_page}
use Rattle.index_pages.proofs.pages.Pages.clean.Goals as goal

pub loop-page-preserved : goal.loop-page-preserved
loop-page-preserved c =
    let nothing : Page = record { first = record { ino = record { 0 = 0 }; blk = 0 }; changed = false } in
    let pages = c.loop-page.page-items in
    let i = c.loop-page.page-index in
    let page : Page = get_or pages i nothing in
    map_over_more clean_page c.deref_mut-page-items.result.now pages i page (omega arith) c.loop-page.invariant (get_or_default pages i nothing page (omega arith))
