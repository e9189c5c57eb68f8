-- That what a client's log writes can be spelled: a premise on what it holds and puts, by the limits of the format.
use Rattle.std.specs.Prelude.{◌≡◌, ℕ, true, IfSome}
use Rattle.client_log.specs.LogState.{log_start}
use Rattle.client_log.specs.Transition.{has_next}
use Rattle.log_law.specs.Net.{Net, Told, chain_in}
use Rattle.log_law.specs.ReadBack.{ReadsDown}
use Rattle.log_scan.specs.Transition as scan
use Rattle.log_tie.specs.Setting.{Setting}
use Rattle.node_logs.specs.client_log_tie.Texts.{StaysWritten}

-- the log that starts behind the chain that a scan tells has a number for its next segment, and stays written
abbrev pub StartFits : Setting → ℕ → scan.Done → Told → Type 0
StartFits g inc d t = (has_next t.end.seq ≡ true) × IfSome d.state.opening.groups (λ m. StaysWritten (log_start g.log inc t.end m))

-- and the chain goes down to the horizon that was taken last
abbrev pub ChainFits : Setting → Net → scan.Done → Type 0
ChainFits g n d = IfSome (chain_in d.outs) (λ t. StartFits g n.inc d t × ReadsDown n d.state.opening.low t)
