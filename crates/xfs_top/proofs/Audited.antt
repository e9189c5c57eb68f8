-- What is said of the text of each run is said of that of a call, by one thread or by workers, with boards, with servers that stop, or plainly.
use Rattle.std.proofs.Common.{Option, Some, None, subst, sym}
use Rattle.std.specs.List.{AllByRecursion}
use Rattle.std.specs.Prelude.{IfSome}
use Rattle.core_world.specs.AnyNode.{any_start, any_step}
use Rattle.core_world.specs.declared.any_node.AnyNode.{AnyNode}
use Rattle.headline.specs.Audits.{IsAuditedLegal}
use Rattle.run_audits.specs.Laws.{RunsAreAuditedLegal}
use Rattle.run_audits.specs.Ranges.{FitsAct}
use Rattle.top_call.specs.declared.command.Command.{Command}
use Rattle.top_call.specs.declared.command.Command.TheVariants.{Audit, Big, Boards, Disks, Gen, Live, Mount, Run}
use Rattle.top_call.specs.Claim.{IsPlayedWithBoards, IsRunBy}
use Rattle.world_base.specs.declared.estate.Estate.{Estate}
use Rattle.xfs_top.proofs.Runs.{has_registry}

-- the acts of the run are in the ranges of their types
abbrev Fit : Estate AnyNode → Type 0
Fit e = AllByRecursion FitsAct e.world.acts

module _ (law : RunsAreAuditedLegal) where
  with_boards : (e : Estate AnyNode) → IsPlayedWithBoards any_step any_start e → Fit e → IsAuditedLegal e
  with_boards e p fits =
      let played = p.played has_registry in
      subst IsAuditedLegal (sym p.determined) (law _ played.setup played.one_run (subst Fit p.determined fits))

  audited : (command : Option Command) (e : Estate AnyNode) → IsRunBy any_step any_start command e → Fit e → IsAuditedLegal e
  audited None e p fits = law e p.whole.setup p.whole.one_run fits
  audited (Some Run) e p fits = law e p.whole.setup p.whole.one_run fits
  audited (Some (Live workers)) e p fits = law e p.setup p.one_run fits
  audited (Some (Mount workers)) e p fits = law e p.setup p.one_run fits
  audited (Some (Gen drawn)) e p fits = law e p.whole.setup p.whole.one_run fits
  audited (Some (Big drawn)) e p fits = law e p.whole.setup p.whole.one_run fits
  audited (Some Audit) e p fits = law e p.whole.setup p.whole.one_run fits
  audited (Some Boards) e p fits = with_boards e p fits
  audited (Some Disks) e p fits = law e p.whole.setup p.whole.one_run fits

  pub played_audited : (command : Option Command) (o : Option (Estate AnyNode)) → IfSome o (IsRunBy any_step any_start command) → IfSome o Fit
      → IfSome o IsAuditedLegal
  played_audited command None played fits = tt
  played_audited command (Some e) played fits = audited command e played fits
