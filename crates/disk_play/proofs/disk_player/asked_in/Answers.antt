use Rattle.std.proofs.Common.{◌≡◌, Option, subst, sym}
use Rattle.std.specs.Prelude.{IfOk}
use Rattle.fragment_store.specs.ShelfState.{ShelfState}
use Rattle.shelf_changes.specs.Changes.{ChangesByOne, shelf_after_one}
use Rattle.disk_play.specs.Standing.{GivesOf}
use Rattle.disk_play.proofs.disk_player.asked_in.Goals as goal

pub returns-in-Some-clause-gives : goal.returns-in-Some-clause-gives
returns-in-Some-clause-gives g c =
    let what = c.args.what.now in
    let new = c.in-Some.new.now in
    subst (λ (o : Option ShelfState). IfOk c.asked.result (λ call. GivesOf what c.args.shelf.now.state.shelf o call)) (sym c.in-Some.ensures)
    (subst (λ (s : ShelfState). IfOk c.asked.result (λ call. ChangesByOne what s new → new ≡ shelf_after_one s call)) c.shelf.ensures c.asked.ensures.gives)
