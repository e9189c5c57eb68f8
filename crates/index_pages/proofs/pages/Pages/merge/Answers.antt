use Rattle.std.proofs.Common.{◌≡◌, ◌∙◌, true, nat_lt, length, sym, ap, arith}
use Rattle.std.proofs.lemmas.Bool.Decides.{nat_tests}
use Rattle.index_pages.specs.Pages.{room_for}
use Rattle.xfs_base.specs.Limits.{u32_end}
use Rattle.index_pages.proofs.pages.Pages.merge.Goals as goal

pub put-requires : goal.put-requires
put-requires c = λ none.
    let passed : c.has_room.result ≡ true = grind arith in
    let room : nat_lt (length c.args.self.now.pages) u32_end ≡ true =
    sym (ap (λ o. room_for o (length c.args.self.now.pages)) none) ∙ sym c.has_room.ensures ∙ passed in
    grind (arith, nat_tests)
