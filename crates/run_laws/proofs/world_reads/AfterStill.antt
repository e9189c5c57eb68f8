-- Where nothing happens to the owner of a log, what is known of its log stays so.
use Rattle.std.proofs.Common.{◌≡◌, ℕ, false, [], refl, sym, ◌∙◌}
use Rattle.client_log.specs.LogState.{LogState}
use Rattle.node_logs.specs.client_log_tie.ClientEvents.{ServesStraight}
use Rattle.headline.specs.Filed.{Filed, Texts}
use Rattle.log_law.specs.Events.{Runs}
use Rattle.log_law.specs.Laws.{Moment}
use Rattle.log_law.specs.Net.{Net}
use Rattle.log_law.specs.Net.Owner.{Serving}
use Rattle.log_law.specs.Restarts.{is_serving, last_flight}
use Rattle.log_law.specs.Tails.{then_on}
use Rattle.log_tie.specs.Setting.{Setting}
use Rattle.node_slots.specs.node_tie.Sight.{SameLog}
use Rattle.node_slots.specs.owner_index_tie.Filing.{IsSameLog}
use Rattle.token_law.specs.Books.{Books}
use Rattle.run_laws.specs.world_lines.Lines.{IsSure}
use Rattle.run_laws.specs.world_logs.Lines.{moment_then}
use Rattle.run_laws.proofs.reopening_law.Flights.{last_stays, served_last}
use Rattle.run_laws.proofs.world_reads.AfterLogs.{KnownLog, stays_known}
use Rattle.run_laws.proofs.world_reads.AfterOwners.{line_goes_on}
use Rattle.run_laws.proofs.world_reads.Below.{Below}

pub same_log : (k : Books) (l : ℕ) → SameLog k k l
same_log k l = record { end = refl; flying = refl; rows = refl }

pub same_filing : (f : Filed) (l : ℕ) → IsSameLog l f f
same_filing f l = record { head = refl; segment = λ q some limit. refl }

module _ (g : Setting) (n o : Net) (at : Moment g n) (goes : Runs g n o) (straight : ServesStraight goes) where
  abbrev pub SameFlight : Type 0
  SameFlight = last_flight (then_on at.run goes) ≡ last_flight at.run

  -- what was in flight when it served last is the same: where it doesn't serve then, and where it serves on with the same log
  pub away_flight : is_serving o.owner ≡ false → SameFlight
  away_flight none = last_stays g _ n o at.run goes (straight.never none)

  pub serving_flight : (s : LogState) → n.owner ≡ Serving s → o.owner ≡ Serving s → SameFlight
  serving_flight s was up = served_last g _ o (then_on at.run goes) s up ∙ sym (served_last g _ n at.run s was)

  -- and so is what is known of the log
  pub still_known : (laws : Below) (texts : Texts) (l : ℕ) → IsSure texts l g o → (k : Books) (f : Filed) → KnownLog l at k f
      → ((s : LogState) → o.owner ≡ Serving s → s.end.seq ≡ f.head l) → SameFlight → KnownLog l (moment_then at goes) k f
  still_known laws texts l sure k f known end flight =
      stays_known g l n o at goes k k f f known
      (line_goes_on laws.lines.lines_go_on laws.logs.unfiled texts l g n o f f [] at goes straight.never sure tt refl end known.line) flight
      (same_log k l) (same_filing f l)
