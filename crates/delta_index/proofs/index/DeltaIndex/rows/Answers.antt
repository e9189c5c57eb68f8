use Rattle.std.proofs.Common.{◌≡◌, rules, ◌∙◌, sym, subst}
use Rattle.delta_index.specs.Index.{entry_of, AllHeld, HoldsJust}
use Rattle.delta_index.proofs.HeldRows.{holds_just}
use Rattle.delta_index.proofs.index.DeltaIndex.rows.Goals as goal

pub returns-clause-just_held : goal.returns-clause-just_held
returns-clause-just_held c =
    let all : c.loop-block.rows ≡ c.args.self.now = search rules in
    subst (λ r. HoldsJust (entry_of r) c.loop-block.rows) all
    (holds_just c.loop-block.rows (search rules) (subst AllHeld (c.self.view_is ∙ sym all) c.self.invariant))
