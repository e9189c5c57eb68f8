use Rattle.run_losses.proofs.standing_law.Standing.{gones_are_of_what_stands}
use Rattle.run_losses.proofs.standing_law.what_is_gone_stood.Goals as goal

pub returns : goal.returns
returns c = record {
  stood = gones_are_of_what_stands (record {
    manager = c.manager_events_are_seen.ensures.events;
    promised = c.tokens_keep_their_word.ensures.promised;
    managed = c.cleaning_loses_nothing.ensures.managed;
    written = c.what_flew_is_written.ensures.written;
    runs = c.every_run_stands.ensures;
    told = c.gone_was_lost.ensures.clients;
    filed = c.takeovers_read_what_was_filed.ensures.filed;
    stored = c.takeovers_read_what_was_filed.ensures.stored;
  });
}
