use Rattle.std.proofs.Common.{◌≡◌, IfOk, subst}
use Rattle.std.specs.List.{list_all}
use Rattle.file_plan.specs.declared.state.PlanState.{PlanState}
use Rattle.file_plan.specs.Names.{is_good}
use Rattle.file_plan.proofs.Exact.{two_paths}
use Rattle.file_plan.proofs.walk.moving.Goals as goal

pub returns-in-Some : goal.returns-in-Some
returns-in-Some c =
    subst (λ (wanted : PlanState). IfOk c.on_path.result (λ state. state ≡ wanted))
    (two_paths (list_all is_good c.args.from.now)
    (list_all is_good c.args.to.now) c.args.from.now c.args.to.now c.in-Some.to c.in_ok-names_of.field-0 c.in_ok-names_of.ensures c.in-Some.is)
    c.on_path.ensures
