use Rattle.std.proofs.Common.{sym, ap, ◌∙◌}
use Rattle.log_flight.specs.Texts.{has_text}
use Rattle.log_flight.proofs.ItemTexts.{tested_have_text}
use Rattle.client_log.proofs.log.Log.on_parts.Goals as goal

pub write-requires-clause-text : goal.write-requires-clause-text
write-requires-clause-text c = tested_have_text c.args.items (ap has_text (sym c.as_slice.ensures) ∙ sym c.if-has_text.ensures.test)
