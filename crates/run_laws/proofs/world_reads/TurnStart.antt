-- The start of a run stands to both small worlds of each slot and to those of all logs: nothing is filed, and nothing was in flight.
use Rattle.std.proofs.Common.{◌≡◌, ℕ, ◌<◌, true, [], Option, None, refl, sym, subst, arith}
use Rattle.std.specs.List.{AllByRecursion}
use Rattle.std.specs.Prelude.{IfSome}
use Rattle.xfs_base.specs.Limits.{slot_count}
use Rattle.xfs_base.specs.Logs.{cleaners_number}
use Rattle.core_world.specs.AnyNode.{any_start, any_step}
use Rattle.headline.specs.Filed.{rows_at}
use Rattle.index_tie.specs.Net as index
use Rattle.log_flight.specs.Flights.{FlightState}
use Rattle.log_law.specs.Events.{Runs}
use Rattle.log_law.specs.Events.Runs.{Begun, On}
use Rattle.log_law.specs.Laws.{Moment}
use Rattle.log_law.specs.Net as log
use Rattle.log_law.specs.Restarts.{IsSureRun, flight_in, last_flight}
use Rattle.log_tie.specs.Setting.{Setting}
use Rattle.node_base.specs.Setups.{IsSetup}
use Rattle.node_slots.specs.node_tie.RegistryEvents.{RegistrySound}
use Rattle.node_slots.specs.owner_index_tie.CleanerMoves.{ItemMoves}
use Rattle.run_laws.specs.reopening_law.Flights.{LastFlew}
use Rattle.run_laws.specs.reopening_law.Reopens.{TellsApart}
use Rattle.segment_format.specs.declared.segment.Segment.{Segment}
use Rattle.run_laws.specs.segment_tie.Runs.{PacketTellsVersion}
use Rattle.token_law.specs.Books.{no_books}
use Rattle.world_base.specs.declared.cluster.Cluster.{Cluster}
use Rattle.world_base.specs.NextWorld.{first_nodes, start_world}
use Rattle.world_base.specs.Runs.{IsRun}
use Rattle.run_laws.proofs.world_index.Start as index_start
use Rattle.run_laws.proofs.world_index.Tokens.{entered_starts}
use Rattle.run_laws.specs.world_law.Standing as tokens
use Rattle.run_laws.proofs.world_law.Start as token_start
use Rattle.headline.specs.Moments.{moment}
use Rattle.run_laws.specs.world_lines.Lines.{IsLine}
use Rattle.run_laws.specs.world_lines.Turns.{LinesBegin}
use Rattle.run_laws.specs.world_logs.Lines.{IsBegun, setting}
use Rattle.headline.specs.Logs.{log_by}
use Rattle.headline.specs.Logs.Role.{OfCleaner}
use Rattle.run_laws.proofs.world_reads.AfterOwn.{OwnAfter}
use Rattle.run_laws.proofs.world_reads.TurnActed.{nothing_filed}
use Rattle.run_laws.proofs.world_reads.TurnBoth.{Both}
use Rattle.run_laws.proofs.world_reads.TurnFalls.{FallsKnown, fell_serving}
use Rattle.run_laws.proofs.world_reads.TurnLogs.{LogsKnown}
use Rattle.run_laws.proofs.world_reads.TurnNext.{IsKnown, joint_of}
use Rattle.run_laws.proofs.world_reads.TurnRun.{moment_cluster}
use Rattle.run_laws.specs.world_reads.Entries.{EntriesStand}
use Rattle.run_laws.specs.world_reads.Joint.{Joint, WritesKind, flew_at, k}
use Rattle.run_laws.proofs.world_reads.Joint.{IsSureUpto}
use Rattle.run_laws.proofs.world_reads.Below.{Below}
use Rattle.run_laws.specs.world_reads.LoggedRuns.{LoggedRun}

-- of a log that has just begun nothing is known to be filed, and nothing was in flight
module _ (begin : LinesBegin) (first : ℕ → ℕ → Segment) (l : ℕ) (Kind : Segment → Type 0) where
  begun_flight : (g : Setting) (n m : log.Net) (run : Runs g n m) → IsBegun run → last_flight run ≡ flight_in n.owner None
  begun_flight g n m Begun fact = refl
  begun_flight g n m (On run happens) fact = absurd fact

  begun_net : (g : Setting) (n m : log.Net) (run : Runs g n m) → IsBegun run → n ≡ m
  begun_net g n m Begun fact = refl
  begun_net g n m (On run happens) fact = absurd fact

  begun_sure : (g : Setting) (n m : log.Net) (run : Runs g n m) → IsBegun run → IsSureRun run
  begun_sure g n m Begun fact = tt
  begun_sure g n m (On run happens) fact = absurd fact

  pub begun_known : (g : Setting) (n : log.Net) (at : Moment g n) → IsBegun at.run → OwnAfter Kind l at no_books (index.opening first).filed
  begun_known g n at fact =
      let none : last_flight at.run ≡ None = begun_flight g (log.opening g at.map) n at.run fact in
      record {
        known = record {
          books = record { end = refl; rows = λ q some limit. absurd (omega arith) };
          line = subst (λ (m : log.Net). IsLine l m (index.opening first).filed) (begun_net g (log.opening g at.map) n at.run fact) (begin l g at.map first);
          flew = subst (LastFlew no_books l) (sym none) (record { flying = refl; next = tt });
        };
        tells = λ q some limit. absurd (omega arith);
        kind = subst (λ (o : Option FlightState). IfSome o (λ x. Kind x.segment)) (sym none) tt;
      }

module _ (laws : Below) (logged : LoggedRun) (part : ℕ) (of_eight : part < slot_count) (setup : IsSetup logged.estate.script.setup) where
  open logged use {base, estate as e, lines, texts, first}

  abbrev cl : Cluster
  cl = k logged part

  pub start_both : Both logged part 0
  unfolding start_world
  start_both = record {
    tok = token_start.start_scene true laws.tokens.nodes.starts_asking laws.tokens.nodes.first_manager laws.tokens.nodes.cleaner_starts
        laws.tokens.nodes.begins e.script setup.clients.1 setup.managers.0 part of_eight;
    tokens_stand = tokens_start;
    idx = index_start.start_scene laws.index.nodes.client.starts laws.index.nodes.manager.starts laws.index.nodes.cleaner.starts
        laws.index.nodes.registry_starts laws.index.nodes.begins e.script setup.clients.1 part of_eight texts.text first;
    index_stands = index_start.start_stands laws.index.nodes.client.starts laws.index.nodes.manager.starts laws.index.nodes.cleaner.starts
        laws.index.nodes.registry_starts laws.index.nodes.begins e.script setup.clients.1 part of_eight texts.text first;
    slots = laws.tokens.epochs.slots_start_same first;
    entered = entered_starts true cl part (first_nodes any_start e.script cl) [] [] _ tokens_start _ refl first;
  }
    where
      tokens_start : tokens.Stands true cl part (first_nodes any_start e.script cl) [] [] RegistrySound
          (token_start.start_scene true laws.tokens.nodes.starts_asking laws.tokens.nodes.first_manager laws.tokens.nodes.cleaner_starts
          laws.tokens.nodes.begins e.script setup.clients.1 setup.managers.0 part of_eight)
      tokens_start = token_start.start_stands true laws.tokens.nodes.starts_asking laws.tokens.nodes.first_manager laws.tokens.nodes.cleaner_starts
          laws.tokens.nodes.begins e.script setup.clients.1 setup.managers.0 part of_eight

  start_logs : LogsKnown logged part 0 start_both
  unfolding start_both
  start_logs = record {
    all = λ r there keeps. begun_known laws.lines.lines_begin first (log_by r) (WritesKind r) _ _ ((lines r there).stands 0).moment (lines r there).begins;
    none = record { head = λ l free. refl; end = λ l some limit free. refl };
  }

  start_falls : FallsKnown logged part 0 start_both
  unfolding start_both
  start_falls c there = fell_serving logged part 0 start_both c there _ refl

  -- nothing flies, and nothing was sent
  start_flight : flew_at logged part OfCleaner tt 0 ≡ None
  start_flight =
      let at = ((lines OfCleaner tt).stands 0).moment in
      begun_flight laws.lines.lines_begin first cleaners_number (WritesKind OfCleaner) (setting base e OfCleaner) (log.opening (setting base e OfCleaner)
      at.map)
      ((lines OfCleaner tt).scene 0).net
      at.run (lines OfCleaner tt).begins

  -- no restart has ended yet
  pub start_sure : IsSureUpto logged part 0
  start_sure r there keeps =
      begun_sure laws.lines.lines_begin first (log_by r) (WritesKind r) (setting base e r) _ _ ((lines r there).stands 0).moment.run (lines r there).begins

  module _ (apart : TellsApart base) (run : IsRun any_step any_start e.script e.events e.world)
      (entries : EntriesStand (rows_at (index.opening first).filed) (moment e 0).nodes (moment e 0).sent) where
    start_known : IsKnown laws logged part of_eight apart run (moment_cluster e) 0 start_both
    unfolding start_both
    start_known = record {
      logs = start_logs;
      falls = start_falls;
      moved = subst (λ (o : Option FlightState). IfSome o (λ f. AllByRecursion (ItemMoves part start_both.idx.net.sent) f.segment.items)) (sym start_flight) tt;
      promised = omega arith;
      acted = λ r there keeps q some limit. absurd (nothing_filed first (log_by r) q some limit);
      entries = entries;
    }

    nothing_sent : AllByRecursion PacketTellsVersion (moment e 0).sent
    unfolding start_world
    nothing_sent = tt

    pub start_joint : Joint logged part 0
    start_joint = joint_of laws logged part of_eight apart run (moment_cluster e) 0 start_both start_sure nothing_sent start_known
