use Rattle.run_holdings.proofs.stripe_law.Runs.{filed_is_read_back}
use Rattle.run_holdings.proofs.stripe_law.what_is_filed_is_read_back.Goals as goal

pub returns : goal.returns
returns c = record {
  back = filed_is_read_back c.logs_stay_whole.ensures.whole c.one_name_one_text.ensures.one_text c.what_flew_is_written.ensures.written c.nodes_are_seen.ensures
      c.server_index_events_are_seen.ensures c.settings_exist.ensures.0 c.runs_keep_logs.ensures.lines c.runs_keep_logs.ensures.texts;
}
