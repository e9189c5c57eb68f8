-- Where no node takes an event both small worlds of a slot stand to the moment after it as they stood before, and what is known of logs stays so.
use Rattle.std.proofs.Common.{◌≡◌, ◌⊎◌, ⊎_elim, ℕ, suc, true, false, Option, sym, ap, subst, ◌∙◌}
use Rattle.std.specs.Prelude.{IfSome}
use Rattle.client_log.specs.LogState.{LogState}
use Rattle.node_logs.specs.client_log_tie.ClientEvents.{ServesStraight}
use Rattle.log_flight.specs.Flights.{FlightState}
use Rattle.node_logs.specs.cleaner_log_tie.Owner as cleaner_log
use Rattle.cleaner_node.specs.declared.cleaner.Phase as cleaning
use Rattle.cleaner_node.specs.declared.cleaner.Phase.TheVariants as cleaners
use Rattle.node_logs.specs.client_log_tie.Owner as client_log
use Rattle.client_node.specs.declared.phase.Phase as clienting
use Rattle.client_node.specs.declared.phase.Phase.TheVariants as clients
use Rattle.log_law.specs.Events.{Runs}
use Rattle.log_law.specs.Laws.{Moment}
use Rattle.log_law.specs.Net.Owner.{Serving}
use Rattle.log_law.specs.Restarts.{last_flight}
use Rattle.log_law.specs.Tails.{then_on}
use Rattle.node_slots.specs.node_tie.RegistryEvents.{RegistrySound}
use Rattle.world_base.specs.declared.cluster.Cluster.{Cluster}
use Rattle.run_laws.specs.world_index.Standing as index
use Rattle.run_laws.specs.world_law.Standing as tokens
use Rattle.headline.specs.Moments.{moment}
use Rattle.run_laws.specs.world_lines.Lines.{IsSure}
use Rattle.run_laws.specs.world_logs.Lines.{IsLeft, setting}
use Rattle.headline.specs.Logs.{Role, log_by, renews}
use Rattle.headline.specs.Logs.Role.{OfClient, OfCleaner, OfManager}
use Rattle.run_laws.proofs.world_reads.After.{AllKnown, KnownAt, left_after, left_flight}
use Rattle.run_laws.proofs.world_reads.AfterCleaner.{cleaner_away, cleaner_end}
use Rattle.run_laws.proofs.world_reads.AfterOwn.{OwnAfter}
use Rattle.run_laws.proofs.world_reads.AfterClients.{client_away, client_end}
use Rattle.run_laws.proofs.world_reads.AfterStill as still
use Rattle.run_laws.proofs.world_reads.AfterStill.{same_filing, same_log}
use Rattle.run_laws.proofs.world_reads.CleanerMoment.{sure_at}
use Rattle.run_laws.proofs.world_reads.TurnBoth.{Both, same_moment}
use Rattle.run_laws.proofs.world_reads.TurnLogs.{LogsKnown}
use Rattle.run_laws.proofs.world_reads.TurnMoment as now
use Rattle.run_laws.specs.world_reads.Joint.{There, WritesKind, flew_at, k}
use Rattle.run_laws.proofs.world_reads.Joint.{IsSureUpto}
use Rattle.xfs_base.proofs.Booleans.{contrary}
use Rattle.run_laws.proofs.world_reads.Below.{Below}
use Rattle.run_laws.specs.world_reads.LoggedRuns.{LoggedRun}

module _ (logged : LoggedRun) (part count : ℕ) where
  open logged use {base, estate as e, lines, texts, first}

  abbrev cl : Cluster
  cl = k logged part

  -- no node changes, and nothing is sent or done
  pub record Rests : Type 0 where
    pub nodes : (moment e (suc count)).nodes ≡ (moment e count).nodes
    pub sent : (moment e (suc count)).sent ≡ (moment e count).sent
    pub acts : (moment e (suc count)).acts ≡ (moment e count).acts

  -- the small world of each log is left as it was, or its owner was to take the event
  abbrev pub IsStill : (r : Role) → There logged part r → Type 0
  IsStill r there = IsLeft ((lines r there).scene count).net ((lines r there).scene (suc count)).net ⊎ ServesStraight ((lines r there).goes count)

  module _ (rests : Rests) (b : Both logged part count) where
    abbrev pub rested : Both logged part (suc count)
    rested = record {
      tok = b.tok;
      tokens_stand = same_moment (λ n s a. tokens.Stands true cl part n s a RegistrySound b.tok) _ (moment e (suc count)).nodes _ (moment e (suc count)).sent _
          (moment e (suc count)).acts (sym rests.nodes) (sym rests.sent) (sym rests.acts) b.tokens_stand;
      idx = b.idx;
      index_stands = same_moment (λ n s a. index.Stands cl part texts.text first n s RegistrySound b.idx) _ (moment e (suc count)).nodes _
          (moment e (suc count)).sent _ (moment e (suc count)).acts (sym rests.nodes) (sym rests.sent) (sym rests.acts) b.index_stands;
      slots = b.slots;
      entered = b.entered;
    }

    abbrev at : (r : Role) (there : There logged part r) → Moment (setting base e r) ((lines r there).scene count).net
    at r there = ((lines r there).stands count).moment

    abbrev goes : (r : Role) (there : There logged part r) → Runs (setting base e r) ((lines r there).scene count).net
        ((lines r there).scene (suc count)).net
    goes r there = (lines r there).goes count

    abbrev SameFlight : (r : Role) → There logged part r → Type 0
    SameFlight r there = last_flight (then_on (at r there).run (goes r there)) ≡ last_flight (at r there).run

    module _ (laws : Below) (stays : (r : Role) (there : There logged part r) → renews r ≡ false → IsStill r there) where
      -- ---- what was in flight

      client_flight : (c : ℕ) (there : There logged part (OfClient c)) → ServesStraight (goes (OfClient c) there)
          → SameFlight (OfClient c) there
      client_flight c there straight =
          by (b.tok.client c).phase (now.client_sees logged part count b c there).agrees
          (now.client_sees logged part (suc count) rested c there).agrees
        where
          by : (p : clienting.Phase) → client_log.ClientAgrees (setting base e (OfClient c)) c ((lines (OfClient c) there).scene count) p
              → client_log.ClientAgrees (setting base e (OfClient c)) c ((lines (OfClient c) there).scene (suc count)) p → SameFlight (OfClient c) there
          by (clients.Serving s) was up =
              still.serving_flight (setting base e (OfClient c)) _ _ (at (OfClient c) there) (goes (OfClient c) there) straight s.log was.1.owner up.1.owner
          by (clients.Down l) was up =
              still.away_flight (setting base e (OfClient c)) _ _ (at (OfClient c) there) (goes (OfClient c) there) straight
              (client_away part texts.text (setting base e (OfClient c)) c ((lines (OfClient c) there).scene (suc count)) b.idx.net (clients.Down l) up tt)
          by (clients.Opening l o) was up =
              still.away_flight (setting base e (OfClient c)) _ _ (at (OfClient c) there) (goes (OfClient c) there) straight
              (client_away part texts.text (setting base e (OfClient c)) c ((lines (OfClient c) there).scene (suc count)) b.idx.net (clients.Opening l o) up tt)

      cleaner_flight : ServesStraight (goes OfCleaner tt) → SameFlight OfCleaner tt
      cleaner_flight straight =
          by b.tok.cleaner.phase (now.cleaner_owns logged part count b).agrees
          (now.cleaner_owns logged part (suc count) rested).agrees
        where
          by : (p : cleaning.Phase) → cleaner_log.CleanerAgrees (setting base e OfCleaner) ((lines OfCleaner tt).scene count) p
              → cleaner_log.CleanerAgrees (setting base e OfCleaner) ((lines OfCleaner tt).scene (suc count)) p → SameFlight OfCleaner tt
          by (cleaners.Serving s) was up =
              still.serving_flight (setting base e OfCleaner) _ _ (at OfCleaner tt) (goes OfCleaner tt) straight s.log was.log.owner up.log.owner
          by (cleaners.Down l) was up =
              still.away_flight (setting base e OfCleaner) _ _ (at OfCleaner tt) (goes OfCleaner tt) straight
              (cleaner_away part texts.text (setting base e OfCleaner) ((lines OfCleaner tt).scene (suc count)) b.idx.net (cleaners.Down l) up tt)
          by (cleaners.Opening l o) was up =
              still.away_flight (setting base e OfCleaner) _ _ (at OfCleaner tt) (goes OfCleaner tt) straight
              (cleaner_away part texts.text (setting base e OfCleaner) ((lines OfCleaner tt).scene (suc count)) b.idx.net (cleaners.Opening l o) up tt)

      same_flight : (r : Role) (there : There logged part r) → renews r ≡ false → SameFlight r there
      same_flight (OfClient c) there keeps = ⊎_elim (λ left. left_flight logged part laws count (OfClient c) there left)
          (λ straight. client_flight c there straight) (stays (OfClient c) there keeps)
      same_flight OfCleaner there keeps = ⊎_elim (λ left. left_flight logged part laws count OfCleaner tt left)
          (λ straight. cleaner_flight straight) (stays OfCleaner tt keeps)
      same_flight (OfManager j) there keeps = contrary (sym keeps)

      pub flew_still : (r : Role) (there : There logged part r) → renews r ≡ false
          → flew_at logged part r there (suc count) ≡ flew_at logged part r there count
      flew_still r there keeps =
          ap (λ (m : Moment (setting base e r) ((lines r there).scene (suc count)).net). last_flight m.run) ((lines r there).joined count)
          ∙ same_flight r there keeps

      -- ---- what is known of logs

      module _ (sure : IsSureUpto logged part (suc count))
          (known : LogsKnown logged part count b) where
        left : (r : Role) (there : There logged part r) → renews r ≡ false
            → IsLeft ((lines r there).scene count).net ((lines r there).scene (suc count)).net
            → KnownAt logged part (suc count) b.tok.net.books b.idx.net.filed r there
        left r there keeps fact =
            left_after logged part laws count b.tok.net.books b.tok.net.books b.idx.net.filed b.idx.net.filed r there fact
            (same_log b.tok.net.books (log_by r)) (same_filing b.idx.net.filed (log_by r)) (known.all r there keeps)

        own : (r : Role) (there : There logged part r) → renews r ≡ false → ServesStraight (goes r there)
            → IsSure texts.text (log_by r) (setting base e r) ((lines r there).scene (suc count)).net
            → ((s : LogState) → ((lines r there).scene (suc count)).net.owner ≡ Serving s → s.end.seq ≡ b.idx.net.filed.head (log_by r))
            → KnownAt logged part (suc count) b.tok.net.books b.idx.net.filed r there
        own r there keeps straight is_sure end =
            let its = known.all r there keeps in
            subst (λ (m : Moment (setting base e r) ((lines r there).scene (suc count)).net). OwnAfter (WritesKind r) (log_by r) m b.tok.net.books
            b.idx.net.filed) (sym ((lines r there).joined count)) (record {
              known = still.still_known (setting base e r) _ _ (at r there) (goes r there) straight laws texts.text (log_by r) is_sure b.tok.net.books
                  b.idx.net.filed its.known end (same_flight r there keeps);
              tells = its.tells;
              kind = subst (λ (y : Option FlightState). IfSome y (λ x. WritesKind r x.segment)) (sym (same_flight r there keeps)) its.kind;
            })

        all_still : AllKnown logged part (suc count) b.tok.net.books b.idx.net.filed
        all_still (OfClient c) there keeps = ⊎_elim (λ fact. left (OfClient c) there keeps fact)
            (λ straight. own (OfClient c) there keeps straight
            (now.client_sure logged part (suc count) rested c there sure)
            (client_end part texts.text (setting base e (OfClient c)) c ((lines (OfClient c) there).scene (suc count)) b.idx.net (b.tok.client c).phase
            (now.client_sees logged part (suc count) rested c there).agrees
            (now.client_indexed logged part (suc count) rested c there)))
            (stays (OfClient c) there keeps)
        all_still OfCleaner there keeps = ⊎_elim (λ fact. left OfCleaner tt keeps fact)
            (λ straight. own OfCleaner tt keeps straight (sure_at logged part (suc count) sure)
            (cleaner_end part texts.text (setting base e OfCleaner) ((lines OfCleaner tt).scene (suc count)) b.idx.net b.tok.cleaner.phase
            (now.cleaner_owns logged part (suc count) rested).agrees
            (now.cleaner_indexed logged part (suc count) rested).phase))
            (stays OfCleaner tt keeps)
        all_still (OfManager j) there keeps = contrary (sym keeps)

        pub known_still : LogsKnown logged part (suc count) rested
        known_still = record { all = all_still; none = known.none }
