use Rattle.std.proofs.Common.{◌≡◌, ◌++◌, drop, map}
use Rattle.std.specs.Fmt.{decimal}
use Rattle.script_print.specs.Printing.{spaced}
use Rattle.script_print.proofs.setup_text.add_servers.Given as goal

abbrev pub invariant-loop-server : goal.invariant-loop-server
invariant-loop-server l = l.out ++ spaced (map decimal (drop l.server-index l.servers)) ≡ l.fn.out ++ spaced (map decimal l.servers)
