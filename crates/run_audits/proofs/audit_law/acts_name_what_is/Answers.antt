use Rattle.run_audits.proofs.Runs.{Below, acts_name_what_is as named_so, items_are_answered_in_lines}
use Rattle.run_audits.proofs.audit_law.acts_name_what_is.Goals as goal

pub returns : goal.returns
returns c =
    let below : Below = record {
      base = c.settings_exist.ensures.0;
      lines = c.runs_keep_logs.ensures.lines;
      lists = c.runs_keep_logs.ensures.lists;
      logs = c.laws_of_logs.ensures;
      tokens = c.nodes_are_seen.ensures;
      servers = c.server_index_events_are_seen.ensures;
      reads = c.readers_hold_what_came.ensures.runs;
      ends = c.openings_end_by_one_thing.ensures.ends;
      back = c.openings_end_by_one_thing.ensures.back;
      acting = c.clients_act_for_their_items.ensures.runs;
      earned = c.each_lost_act_is_earned.ensures.earned;
      acts = c.answers_are_acts.ensures.acted;
      plans = c.file_answers_are_planned.ensures.planned;
      once = c.items_are_answered_once.ensures.runs;
    } in
    record { named = named_so below; in_lines = items_are_answered_in_lines below }
