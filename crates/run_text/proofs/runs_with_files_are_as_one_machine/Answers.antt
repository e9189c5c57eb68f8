use Rattle.run_text.proofs.CallWhole.{with_files}
use Rattle.run_text.proofs.runs_with_files_are_as_one_machine.Goals as goal

pub returns : goal.returns
returns c = record {
  runs = with_files
      (record {
        unlost = c.every_runs_acts_are_legal.ensures.unlost;
        undoubted = c.without_losses_no_restart_is_doubtful.ensures.scripts;
        once = c.items_are_answered_once.ensures.runs;
        acted = c.answers_are_acts.ensures.acted;
        newest = c.answered_versions_are_newest.ensures.newest;
        starts = c.nodes_serve_until_they_crash.ensures.starts;
        events = c.nodes_serve_until_they_crash.ensures.events;
        own = c.clients_act_for_their_items.ensures.runs;
      })
      c.its_table_holds_a_tree.ensures.tree c.calls_find_versions.ensures.finds;
}
