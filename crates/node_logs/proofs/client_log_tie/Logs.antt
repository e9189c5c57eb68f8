-- What an input makes of a log that is its owner's: it stays so, and what it sends and files is seen.
use Rattle.std.proofs.Common.{◌≡◌, ℕ, ◌==◌, true, false, cond, [], ◌∷◌, Some, None, refl, sym, ap, subst, ◌∙◌}
use Rattle.std.specs.Prelude.{IfSome}
use Rattle.std.specs.List.{AllByRecursion}
use Rattle.xfs_base.specs.declared.segment.SegName.{SegName}
use Rattle.xfs_base.specs.Steps.{still}
use Rattle.xfs_base.proofs.Booleans.{by_test, and_first, contrary, equal_itself}
use Rattle.xfs_base.proofs.SegmentNames.{one_name}
use Rattle.log_flight.specs.Flights.{FlightState, is_of, is_member, flight_note}
use Rattle.client_log.specs.declared.input.In.{In as Input}
use Rattle.client_log.specs.declared.input.In.TheVariants.{Acked}
use Rattle.client_log.specs.LogState.{LogState}
use Rattle.client_log.specs.Transition.{Done, looked_at, on_acked, transition}
use Rattle.xfs_base.specs.Segments.{same_name}
use Rattle.log_protocol.specs.Tables.{In}
use Rattle.log_tie.specs.Seen.{log_filed}
use Rattle.log_tie.specs.Setting.{Setting}
use Rattle.log_tie.specs.Shelves.{is_of_log}
use Rattle.log_law.specs.Net.{Packet, log_packets, after_log}
use Rattle.log_law.specs.Net.Packet.{StoredSent}
use Rattle.log_law.specs.Net.Owner.{Serving}
use Rattle.log_law.specs.Events.{WritesText, CameToLog}
use Rattle.log_law.specs.Events.Happens.{Acts}
use Rattle.log_law.specs.Events.Runs.{Begun, On}
use Rattle.node_logs.proofs.node_log_tie.OwnLogs.{SendsOwn, own_log}
use Rattle.node_logs.specs.client_log_tie.Owner.{Scene, IsOwn}
use Rattle.node_logs.specs.client_log_tie.Texts.{InputFits, StaysWritten}
use Rattle.node_logs.specs.client_log_tie.ClientEvents.{Grown}
use Rattle.node_logs.specs.client_log_tie.Puts.{LogTook}
use Rattle.node_logs.proofs.client_log_tie.Frames as frames
use Rattle.node_logs.proofs.client_log_tie.Frames.{in_after, in_before}
use Rattle.node_logs.proofs.client_log_tie.Puts.{one_log, took_nothing}

-- ---- it stays the owner's

module _ (g : Setting) where
  pub own_after : (s : LogState) (i : Input) → IsOwn g s → IsOwn g (transition s i).state
  own_after s i h =
      let d = own_log g.log s i (record { log = h.log; flight = h.flight }) in
      record { log = d.state.log; flight = d.state.flight }

  -- a Stored of another log changes nothing
  pub foreign_acked : (s : LogState) (name : SegName) (index generation : ℕ) → IsOwn g s → is_of_log g name ≡ false → on_acked s name index generation ≡ still s
  unfolding on_acked
  foreign_acked s name index generation h other =
      elim s.flight as
      (λ o. IfSome o (λ f. f.segment.name.log ≡ g.log)
      → elim o [ None ↦ still s | Some f ↦ cond (is_of f name index generation) (looked_at s s (flight_note f index)) (still s) ] ≡ still s) [
        | None ↦ λ e. refl
        | Some f ↦ λ e. by_test (λ d. d ≡ still s) (is_of f name index generation) (looked_at s s (flight_note f index)) (still s)
            (λ t. contrary (sym other ∙ subst (λ log. (name.log.0 == log.0) ≡ true) e (same_log f t))) (λ t. refl)
      ] h.flight
    where
      same_log : (f : FlightState) → is_of f name index generation ≡ true → (name.log.0 == f.segment.name.log.0) ≡ true
      same_log f t =
          let named : name ≡ f.segment.name =
          one_name name f.segment.name (and_first (same_name name f.segment.name) (is_member f.group.members index generation) t) in
          ap (λ (n : SegName). n.log.0 == f.segment.name.log.0) named ∙ equal_itself f.segment.name.log.0

-- ---- it stays written

pub written_after : (s : LogState) (i : Input) → StaysWritten s → InputFits i → StaysWritten (transition s i).state
written_after s i h fits later all = h (i ∷ later) (fits, all)

pub writes_text : (s : LogState) (i : Input) → StaysWritten s → InputFits i → WritesText (transition s i)
writes_text s i h fits = h (i ∷ []) (fits, tt)

-- ---- the log of an owner that serves takes an input

module _ (g : Setting) (c : ℕ) where
  -- the world then: the log stands in it, and what it said is seen
  pub record Took (w : Scene) (its life last : ℕ) (i : Input) (d : Done) : Type 0 where
    pub next : Scene
    pub grown : Grown g w next
    pub stands : frames.Stands g c next d.state its life last
    pub sent : (p : Packet) → In p (log_packets d.outs) → In p next.net.sent
    pub filed : (name : SegName) → In name (log_filed g.log d.outs) → In name next.net.filed
    pub mine : AllByRecursion (SendsOwn g.log) d.outs
    pub boot : next.net.inc ≡ w.net.inc
    pub puts : (s : LogState) → w.net.owner ≡ Serving s → LogTook (λ j. j ≡ i) w.net next.net s

  pub takes : (w : Scene) (s : LogState) (its life last : ℕ) (i : Input) → frames.Stands g c w s its life last → CameToLog w.net i → InputFits i
      → Took w its life last i (transition s i)
  takes w s its life last i h came fits =
      let d : Done = transition s i in
      record {
        next = record w { net = after_log g w.net d };
        grown = record {
          runs = On Begun (Acts s i h.sees.owner came (writes_text s i h.written fits));
          sent = λ p fact. in_after (log_packets d.outs) w.net.sent p fact;
          filed = λ name fact. in_after (log_filed g.log d.outs) w.net.filed name fact;
          shelves = refl;
          registry = refl;
          low = refl;
          dropped = refl;
          asked = λ k some. refl;
        };
        stands = record {
          lasts = record { number = h.lasts.number; inc = h.lasts.inc; fresh = h.lasts.fresh };
          sees = record { owner = refl; own = own_after g s i h.sees.own };
          written = written_after s i h.written fits;
        };
        sent = λ p fact. in_before (log_packets d.outs) w.net.sent p fact;
        filed = λ name fact. in_before (log_filed g.log d.outs) w.net.filed name fact;
        mine = (own_log g.log s i (record { log = h.sees.own.log; flight = h.sees.own.flight })).outs;
        boot = refl;
        puts = λ t fact.
            subst (λ (u : LogState). LogTook (λ j. j ≡ i) w.net (after_log g w.net d) u) (one_log s t w.net h.sees.owner fact)
            (record { inputs = i ∷ []; all = (refl, tt); serves = refl; flown = refl });
      }

  -- nothing is taken
  pub takes_nothing : (w : Scene) (s : LogState) (its life last : ℕ) (i : Input) → frames.Stands g c w s its life last → Took w its life last i (still s)
  takes_nothing w s its life last i h = record {
    next = w;
    grown = frames.grown_still g w;
    stands = h;
    sent = λ p fact. absurd fact;
    filed = λ name fact. absurd fact;
    mine = tt;
    boot = refl;
    puts = took_nothing (λ j. j ≡ i) w.net;
  }

  -- a Stored, of this log where it was seen
  pub takes_stored : (w : Scene) (s : LogState) (its life last : ℕ) (name : SegName) (index generation : ℕ) → frames.Stands g c w s its life last
      → (is_of_log g name ≡ true → In (StoredSent name index generation) w.net.sent)
      → Took w its life last (Acked name index generation) (transition s (Acked name index generation))
  takes_stored w s its life last name index generation h seen = by_log (is_of_log g name) refl
    where
      by_log : (t : _) → is_of_log g name ≡ t → Took w its life last (Acked name index generation) (transition s (Acked name index generation))
      by_log true own = takes w s its life last (Acked name index generation) h (seen own) tt
      by_log false own = subst (Took w its life last (Acked name index generation)) (sym (foreign_acked g s name index generation h.sees.own own))
          (takes_nothing w s its life last (Acked name index generation) h)
