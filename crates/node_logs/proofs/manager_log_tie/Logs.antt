-- The log of a manager that serves takes an input: it stands in the small world then, and what it says is seen there.
use Rattle.std.proofs.Common.{◌≡◌, ℕ, Bool, true, false, refl, sym, subst}
use Rattle.std.specs.List.{AllByRecursion}
use Rattle.xfs_base.specs.declared.segment.SegName.{SegName}
use Rattle.xfs_base.specs.Steps.{still}
use Rattle.client_log.specs.declared.input.In.{In as Input}
use Rattle.client_log.specs.declared.input.In.TheVariants.{Acked}
use Rattle.client_log.specs.Transition.{Done, transition}
use Rattle.manager_serving.specs.declared.serving.Serving.{Serving}
use Rattle.log_protocol.specs.Tables.{In}
use Rattle.log_tie.specs.Seen.{log_filed}
use Rattle.log_tie.specs.Setting.{Setting}
use Rattle.log_tie.specs.Shelves.{is_of_log}
use Rattle.log_law.specs.Net.{Packet, log_packets, after_log}
use Rattle.log_law.specs.Net.Packet.{StoredSent}
use Rattle.log_law.specs.Events.{CameToLog}
use Rattle.log_law.specs.Events.Happens.{Acts}
use Rattle.log_law.specs.Events.Runs.{Begun, On}
use Rattle.node_logs.proofs.node_log_tie.OwnLogs.{SendsOwn, own_log}
use Rattle.node_logs.specs.client_log_tie.ClientEvents.{Grown}
use Rattle.node_logs.specs.client_log_tie.Owner.{Scene}
use Rattle.node_logs.proofs.client_log_tie.Frames.{grown_still, in_after, in_before}
use Rattle.node_logs.proofs.client_log_tie.Logs.{own_after, foreign_acked}
use Rattle.node_logs.specs.manager_log_tie.Fitting.{InputFits}
use Rattle.node_logs.specs.manager_log_tie.Owner.{Stands}
use Rattle.node_logs.proofs.manager_log_tie.Written.{written_after, writes_text}

module _ (g : Setting) (j : ℕ) where
  -- the world then
  pub record Took (w : Scene) (s : Serving) (d : Done) : Type 0 where
    pub next : Scene
    pub grown : Grown g w next
    pub stands : Stands g j next (record s { log = d.state })
    pub sent : (p : Packet) → In p (log_packets d.outs) → In p next.net.sent
    pub filed : (name : SegName) → In name (log_filed g.log d.outs) → In name next.net.filed
    pub mine : AllByRecursion (SendsOwn g.log) d.outs

  pub takes : (w : Scene) (s : Serving) (i : Input) → Stands g j w s → CameToLog w.net i → InputFits i → Took w s (transition s.log i)
  takes w s i h came fits =
      let d : Done = transition s.log i in
      record {
        next = record w { net = after_log g w.net d };
        grown = record {
          runs = On Begun (Acts s.log i h.log.owner came (writes_text s.log i h.written fits));
          sent = λ p fact. in_after (log_packets d.outs) w.net.sent p fact;
          filed = λ name fact. in_after (log_filed g.log d.outs) w.net.filed name fact;
          shelves = refl;
          registry = refl;
          low = refl;
          dropped = refl;
          asked = λ k some. refl;
        };
        stands = record {
          lasts = record { number = h.lasts.number; small = h.lasts.small; asks = h.lasts.asks };
          inc = h.inc;
          log = record { owner = refl; own = own_after g s.log i h.log.own };
          written = written_after s.log i h.written fits;
          writer = h.writer;
          index = h.index;
        };
        sent = λ p fact. in_before (log_packets d.outs) w.net.sent p fact;
        filed = λ name fact. in_before (log_filed g.log d.outs) w.net.filed name fact;
        mine = (own_log g.log s.log i (record { log = h.log.own.log; flight = h.log.own.flight })).outs;
      }

  -- a Stored, of this log where it was seen; one of another log changes nothing
  pub takes_stored : (w : Scene) (s : Serving) (name : SegName) (index generation : ℕ) → Stands g j w s
      → (is_of_log g name ≡ true → In (StoredSent name index generation) w.net.sent)
      → Took w s (transition s.log (Acked name index generation))
  takes_stored w s name index generation h seen = by_log (is_of_log g name) refl
    where
      nothing : Took w s (still s.log)
      nothing = record {
        next = w;
        grown = grown_still g w;
        stands = record { lasts = h.lasts; inc = h.inc; log = h.log; written = h.written; writer = h.writer; index = h.index };
        sent = λ p fact. absurd fact;
        filed = λ name fact. absurd fact;
        mine = tt;
      }

      by_log : (t : Bool) → is_of_log g name ≡ t → Took w s (transition s.log (Acked name index generation))
      by_log true own = takes w s (Acked name index generation) h (seen own) tt
      by_log false own = subst (Took w s) (sym (foreign_acked g s.log name index generation h.log.own own)) nothing
