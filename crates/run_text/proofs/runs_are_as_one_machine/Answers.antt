use Rattle.run_text.proofs.runs_are_as_one_machine.Goals as goal
use Rattle.run_text.proofs.Whole.{each_is_as_one_machine}

pub returns : goal.returns
returns c = record {
  runs = each_is_as_one_machine (record {
    unlost = c.every_runs_acts_are_legal.ensures.unlost;
    undoubted = c.without_losses_no_restart_is_doubtful.ensures.scripts;
    once = c.items_are_answered_once.ensures.runs;
    acted = c.answers_are_acts.ensures.acted;
    newest = c.answered_versions_are_newest.ensures.newest;
    starts = c.nodes_serve_until_they_crash.ensures.starts;
    events = c.nodes_serve_until_they_crash.ensures.events;
    own = c.clients_act_for_their_items.ensures.runs;
  });
}
