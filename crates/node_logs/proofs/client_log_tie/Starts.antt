-- A client at its start is seen in the opening of the small world, and its log stays written.
use Rattle.std.proofs.Common.{◌≡◌, ◌≤◌, ℕ, true, refl, sym, ap, arith}
use Rattle.std.proofs.lemmas.Bool.Decides.{nat_tests}
use Rattle.xfs_base.specs.Limits.{log_count}
use Rattle.client_log.specs.LogState.{log_start}
use Rattle.client_node.specs.Serving.{empty_end}
use Rattle.group_map.specs.Groups as groups
use Rattle.node_base.specs.Shape.{is_log}
use Rattle.segment_format.specs.Format.{IsLog}
use Rattle.log_law.specs.Net.{Owner as owner}
use Rattle.log_law.specs.Net.{no_end}
use Rattle.node_logs.specs.client_log_tie.ClientEvents.{ClientStarts}
use Rattle.node_logs.proofs.client_log_tie.Written.{what_fits_stays_written}

pub log_in_range : (c : ℕ) → is_log c ≡ true → IsLog c
log_in_range c t = (low c t, high c t)
  where
    low : (c : ℕ) → is_log c ≡ true → 1 ≤ c
    low c t = grind (arith, nat_tests)

    high : (c : ℕ) → is_log c ≡ true → c ≤ log_count
    high c t = grind (arith, nat_tests)

pub client_starts : ClientStarts
client_starts g c fact small setup works = record {
  agrees = (
    record { number = refl; inc = refl; fresh = λ k later. refl },
    record {
      owner = ap (λ log. owner.Serving (log_start log 1 no_end (groups.group_map_start setup.servers setup.groups))) fact;
      own = record { log = sym fact; flight = tt };
    },
  );
  written = λ ids. what_fits_stays_written (record { 0 = c }) 1 empty_end (groups.group_map_start setup.servers setup.groups) (log_in_range c small) (omega arith)
      (omega arith, (omega arith, omega arith), omega arith) ids;
}
