use Rattle.run_laws.proofs.restart_law.run_lines.Goals as goal

pub returns : goal.returns
returns c = record {
  runs_reach_horizons = c.runs_keep_logs.ensures.horizons;
  runs_list_their_logs = c.runs_keep_logs.ensures.lists;
  runs_have_lines = c.runs_keep_logs.ensures.lines;
  lines_have_texts = c.runs_keep_logs.ensures.texts;
  undoubted_runs_are_sure = c.undoubted_runs_are_sure.ensures.sure;
}
