-- A log that is sealed: whether a segment is settled by what it says.
use Rattle.std.specs.Prelude.{Bool, true, false}
use Rattle.client_log.specs.declared.output.Out.{Out}
use Rattle.client_log.specs.declared.output.Out.TheVariants.{Send, Settled}

abbrev pub is_settling : Out → Bool
is_settling (Send fragment member) = false
is_settling (Settled end rows) = true
