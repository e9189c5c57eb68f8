use Rattle.std.proofs.Common.{◌≡◌, Option, subst, sym}
use Rattle.disk_shelf.specs.declared.ask.Ask.{Ask}
use Rattle.shelf_changes.specs.Changes.{shelf_after_one}
use Rattle.shelved_nodes.proofs.Gives.{asked_gives}
use Rattle.shelved_nodes.proofs.asking.asked.Goals as goal

pub returns-clause-gives : goal.returns-clause-gives
returns-clause-gives c = λ changed.
    let what = c.args.what.now in
    let old = c.args.old.now in
    let new = c.args.new.now in
    subst (λ (call : Option Ask). new ≡ shelf_after_one old call) (sym c.in_ok-ask.ensures.exact) (asked_gives what old new c.in_ok-ask.ensures.stays changed)
