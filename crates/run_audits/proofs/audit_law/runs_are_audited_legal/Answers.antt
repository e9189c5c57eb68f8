use Rattle.run_audits.proofs.Runs.{runs_are_audited_legal as audited_so}
use Rattle.run_audits.proofs.audit_law.runs_are_audited_legal.Goals as goal

pub returns : goal.returns
returns c = record {
  legal = audited_so c.acts_name_what_is.ensures.named c.acts_name_what_is.ensures.in_lines c.every_runs_acts_are_legal.ensures.legal
      c.without_losses_no_restart_is_doubtful.ensures.scripts;
}
