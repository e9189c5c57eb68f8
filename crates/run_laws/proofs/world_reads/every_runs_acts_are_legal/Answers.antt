use Rattle.run_laws.proofs.world_reads.LegalRuns.{every_moment_stands, every_run_keeps_its_indexes, every_run_without_losses_is_legal, every_runs_acts_are_legal, every_runs_holders_are_newest, every_runs_indexes_are_its_own}
use Rattle.run_laws.proofs.world_reads.every_runs_acts_are_legal.Goals as goal
use Rattle.run_laws.proofs.world_reads.Below.{Below}
use Rattle.run_laws.specs.world_reads.Legal.{EveryRunsActsAreLegal}

pub returns : goal.returns
returns c =
    let below : Below = record {
      tokens = c.tokens_below.ensures;
      index = c.index_laws.ensures;
      reads = c.reads_below.ensures;
      logs = c.laws_of_logs.ensures;
      reopenings = c.reopening_laws.ensures;
      runs = c.run_lines.ensures;
      lines = c.line_laws.ensures.lines;
      filing = c.line_laws.ensures.filing;
      writing = c.writing_laws.ensures;
    } in
    let legal : EveryRunsActsAreLegal = every_runs_acts_are_legal below in
    record {
      legal = legal;
      unlost = every_run_without_losses_is_legal legal c.without_losses_no_restart_is_doubtful.ensures.scripts;
      indexes = every_run_keeps_its_indexes below;
      own = every_runs_indexes_are_its_own below;
      holders = every_runs_holders_are_newest below;
      moments = every_moment_stands below;
    }
