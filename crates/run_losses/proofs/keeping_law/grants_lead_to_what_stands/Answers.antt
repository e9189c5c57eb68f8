use Rattle.run_losses.proofs.keeping_law.ManagerGrants.{managers_grant_what_they_hold}
use Rattle.run_losses.proofs.keeping_law.Standing.{grants_lead_to_what_stands}
use Rattle.run_losses.proofs.keeping_law.grants_lead_to_what_stands.Goals as goal

pub returns : goal.returns
returns c = record {
  told = managers_grant_what_they_hold;
  stood = grants_lead_to_what_stands (record {
    nodes = c.nodes_are_seen.ensures;
    promised = c.tokens_keep_their_word.ensures.promised;
    newest = c.grants_tell_the_newest.ensures.newest;
    outdated = c.cleaning_loses_nothing.ensures.outdated;
    runs = c.every_run_stands.ensures;
    undoubted = c.undoubted_runs_are_sure.ensures.sure;
    give = c.lines_are_filed.ensures.give;
  });
}
