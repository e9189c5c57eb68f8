use Rattle.std.proofs.Common.{length, ◌-◌, sym, ap, ◌∙◌}
use Rattle.std.specs.Prelude.{slice_get}
use Rattle.version_model.proofs.Versions.{newest_is_last}
use Rattle.version_model.proofs.history.BlockHistory.is_newest_by.Goals as goal

pub returns-in-Some : goal.returns-in-Some
returns-in-Some c =
    newest_is_last c.args.client c.args.self.now.versions c.in-Some.version.now
    (ap (λ vs. slice_get vs (length vs - 1)) (sym c.as_slice.ensures) ∙ sym c.in-Some.ensures.value)
