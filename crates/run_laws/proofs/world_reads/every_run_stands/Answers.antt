use Rattle.run_laws.proofs.world_reads.every_run_stands.Goals as goal

pub returns : goal.returns
returns c = record {
  setting = c.items_say_all.ensures.setting;
  lines = c.runs_keep_logs.ensures.lines;
  texts = c.runs_keep_logs.ensures.texts;
  moments = c.every_runs_acts_are_legal.ensures.moments;
}
