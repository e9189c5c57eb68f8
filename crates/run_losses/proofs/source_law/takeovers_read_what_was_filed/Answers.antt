use Rattle.run_losses.proofs.missing_law.Servers.{stored_laws}
use Rattle.run_losses.proofs.source_law.Every.{Below, takeovers_read_what_is_stored, takeovers_read_what_was_filed}
use Rattle.run_losses.proofs.source_law.takeovers_read_what_was_filed.Goals as goal

pub returns : goal.returns
returns c =
    let logs = c.laws_of_logs.ensures in
    let below : Below = record {
      runs = c.every_run_stands.ensures;
      came = c.readers_hold_what_came.ensures.runs;
      laws = record { one = logs.one_text; place = logs.content; priors = logs.priors; stored = stored_laws logs };
    } in
    record { filed = takeovers_read_what_was_filed below; stored = takeovers_read_what_is_stored below }
