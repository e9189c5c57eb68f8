use Rattle.xfs_top.proofs.calls.every_run_is_safe.Goals as goal

pub returns : goal.returns
returns c e setup run = record {
  outside = record {
    linearizable = c.runs_are_linearizable.ensures.linear e setup run;
    updates = c.runs_are_linearizable.ensures.updates e setup run;
    changes = c.calls_find_versions.ensures.finds e setup run;
    as_one_machine = c.runs_are_as_one_machine.ensures.runs e setup run;
    with_files = c.runs_with_files_are_as_one_machine.ensures.runs e setup run;
    answered_once = c.items_are_answered_once.ensures.runs e run;
    answers_acted = c.answers_are_acts.ensures.acted e;
    acts_belong = record {
      events = c.clients_act_for_their_items.ensures.runs e;
      waiting = (c.clients_act_for_their_items.ensures.calls e).0;
      going = (c.clients_act_for_their_items.ensures.calls e).1;
      whole = c.clients_act_for_their_items.ensures.answered e;
    };
    answers_fit = c.answers_fit_where_a_node_stands.ensures.fits e;
    dues_answered = c.runs_answer_what_is_due.ensures.runs e;
    numbers_true = record {
      rebuilds = c.rebuilds_are_true.ensures.runs e run;
      cleanings = c.cleanings_are_true.ensures.runs e run;
    };
    takes_what_is_due = c.cleanings_take_what_is_due.ensures.runs e run;
    checkpoints_true = c.checkpoints_are_true.ensures.runs e run;
    crashes_felt = c.each_crash_is_felt.ensures.crashes e;
    in_turn = c.runs_in_turn_are_never_busy.ensures.turns e;
    files_planned = c.file_answers_are_planned.ensures.planned e;
    versions_newest = c.answered_versions_are_newest.ensures.newest e setup run;
    legal_acts = c.every_runs_acts_are_legal.ensures.legal e setup run;
    legal_without_losses = c.every_runs_acts_are_legal.ensures.unlost e setup run;
    falls_apart = c.what_fell_is_held_by_nobody.ensures.apart e setup run;
    settled = c.what_is_settled_is_the_join.ensures.settled e setup run;
    syncs_settle = c.syncs_settle.ensures.settles e setup run;
    losses_earned = record {
      each = c.each_lost_act_is_earned.ensures.earned e setup run;
      answers = c.lost_answers_are_said.ensures.runs e;
    };
    undoubted = λ none. (c.without_losses_no_restart_is_doubtful.ensures.scripts e setup run none).1;
    unlost = c.nothing_is_lost_without_losses.ensures.lost e setup run;
  };
  inside = record {
    one_owner = c.every_run_has_one_owner.ensures.one_owner e setup run;
    holders_newest = c.every_runs_acts_are_legal.ensures.holders e setup run;
    one_manager = c.every_run_has_one_manager.ensures.one_manager e setup run;
    beliefs = c.managers_believe_their_clients.ensures.believed e setup run;
    nobody_holds = c.what_fell_is_held_by_nobody.ensures.nobody e setup run;
    calls_wait = c.open_calls_have_asked.ensures.runs e;
    wants_again = c.wants_are_sent_again.ensures.runs e;
    repeated = c.what_is_unanswered_is_said_again.ensures.runs e;
    questions_answered = c.questions_are_answered.ensures.runs e;
    logs_stand = c.runs_keep_logs.ensures.keeps e setup run;
    cleaners_log_stands = c.runs_keep_logs.ensures.cleaners e setup run;
    managers_logs_stand = c.runs_keep_logs.ensures.managers e setup run;
    read_back = c.what_is_filed_is_read_back.ensures.back e setup run;
    restarts_file_one = c.the_cleaner_files_one_segment_of_its_boot.ensures.one e setup run;
    logs_file_on = c.nodes_file_one_after_another.ensures.runs e;
    horizons_filed = c.runs_keep_logs.ensures.horizons e setup run;
    deletes_dropped = c.what_is_deleted_was_dropped.ensures.dropped e setup run;
    deletes_below = c.what_is_deleted_was_dropped.ensures.below e setup run;
    indexes = c.every_runs_acts_are_legal.ensures.own e setup run;
  };
}
