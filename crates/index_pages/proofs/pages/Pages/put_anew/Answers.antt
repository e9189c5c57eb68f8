use Rattle.std.proofs.Common.{◌≡◌, ◌-◌, ◌∙◌, ap, length, take}
use Rattle.std.specs.Map.{remove_entry}
use Rattle.std.specs.BTreeMap.{is_at}
use Rattle.std.specs.Vec.{vec_len}
use Rattle.xfs_base.specs.Blocks.{block_cmp}
use Rattle.index_pages.specs.Pages.{PagesState}
use Rattle.index_pages.proofs.Lists.{undone}
use Rattle.index_pages.proofs.pages.Pages.put_anew.Goals as goal

pub returns-in-Err-clause-err : goal.returns-in-Err-clause-err
returns-in-Err-clause-err c =
    let now : PagesState = record { rows = c.self.inside.rows.entries; numbers = c.self.inside.numbers.entries; pages = c.self.inside.pages.items } in
    let long : vec_len c.self.inside.pages ≡ length c.self.inside.pages.items = cc (c.self.inside.pages.ok.0) in
    undone c.args.self.now now c.args.block _ _ _ c.requires.absent (c.self.view_is ∙ c.in_ok-begin_page.ensures.ok) c.in-Err.ensures.err
    (c.remove.ensures.entries ∙ ap (λ f. remove_entry (is_at (block_cmp f)) c.self.inside.numbers.entries) c.first_block.ensures)
    (c.pop.ensures.rest ∙ ap (λ n. take (n - 1) c.self.inside.pages.items) long)
