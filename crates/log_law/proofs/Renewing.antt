-- A restart of a manager's log, which begins anew, keeps the small world seen.
use Rattle.xfs_base.proofs.Booleans.{contrary}
use Rattle.std.proofs.Common.{◌≡◌, ℕ, suc, true, refl, sym, ap, subst, ◌∙◌, inl, inr, arith}
use Rattle.xfs_base.specs.declared.segment.SegName.{SegName}
use Rattle.group_map.specs.GroupMapState.{GroupMapState}
use Rattle.client_log.specs.LogState.{log_start}
use Rattle.log_protocol.specs.OwnerSteps.{restarts}
use Rattle.log_protocol.specs.ServerSteps.{learns}
use Rattle.log_protocol.specs.State.{State}
use Rattle.log_protocol.specs.Step.{Steps}
use Rattle.log_protocol.specs.Step.Step.{Restarts, Learns}
use Rattle.log_protocol.specs.Step.Steps.{Done, More}
use Rattle.log_protocol.specs.Tables.{In}
use Rattle.log_tie.specs.Setting.{Setting, present_at}
use Rattle.log_tie.specs.Scans.{WholeMap}
use Rattle.log_law.specs.Net.{Net, no_end}
use Rattle.log_law.specs.Net.Packet.{MapSent}
use Rattle.log_law.specs.Net.Owner.{Down, Serving}
use Rattle.log_law.specs.Below.{Below}
use Rattle.log_law.proofs.Growing.{Later, shown_on}
use Rattle.log_law.proofs.Logs.{ran_first}
use Rattle.log_law.proofs.Next.{Next}
use Rattle.log_law.proofs.Views.{OwnerShown, View}

module _ (k : Below) (g : Setting) (n : Net) (h : View g n) (m : GroupMapState) (doubts : g.doubts ≡ true) (fact : n.owner ≡ Down)
    (came : In (MapSent m) n.sent) where
  map : WholeMap g h.w.registry_generation m
  map = h.sent (MapSent m) came

  abbrev w : State
  w = learns (restarts h.w) (present_at m)

  steps : Steps h.w w
  steps = More (More Done (Restarts (record { down = subst (OwnerShown g h.w h.book h.hellos) fact h.owner })))
      (Learns (present_at m) (record { known = map.seen.past }))

  later : Later h.w w h.book h.book
  later = record {
    booked = λ x in_. in_;
    segment = λ x in_. refl;
    stores = λ p in_. in_;
    storeds = λ p in_. in_;
    fragments = λ p in_. in_;
    fenceds = λ p in_. in_;
    dropped = λ x in_. in_;
    registry = λ x. omega arith;
    incarnation = omega arith;
    low = omega arith;
  }

  -- no booked segment is of boot 0
  none_before : (y : ℕ) → h.w.booked y ≡ 1 → (h.book y).name.pass.inc ≡ 0 → ⊥
  none_before y booked e = let b = (h.paged y booked).boot in omega arith

  pub renew_view : Next g n h (record n { inc = suc n.inc; owner = Serving (log_start g.log (suc n.inc) no_end m) })
  renew_view = record {
    view = record {
      w = w;
      book = h.book;
      hellos = h.hellos;
      fixed = record { servers = h.fixed.servers; seq_of = h.fixed.seq_of; incarnation_of = h.fixed.incarnation_of; attempt_of = h.fixed.attempt_of };
      reached = k.protocol.goes_on h.w w h.reached steps;
      paged = h.paged;
      spelled = h.spelled;
      flown = record { all = h.flown.all; booked = h.flown.booked };
      shelves = λ y. record { of = (h.shelves y).of; keeps = (h.shelves y).keeps; each = (h.shelves y).each; marks = (h.shelves y).marks };
      nobody = h.nobody;
      registry = h.registry;
      low = h.low;
      inc = ap suc h.inc;
      owner = (
        record {
          writes = record { log = refl; inc = ap suc (sym h.inc); some = omega arith; map = map.seen.whole; known = λ v. refl };
          phase = refl;
          end = refl;
          end_seq = g.names.none;
          flight = refl;
        },
        record {
          ran = ran_first g.log (suc n.inc) no_end m;
          grouped = λ y booked named. absurd (none_before y booked (ap (λ (z : SegName). z.pass.inc) named));
        },
      );
      picked = tt;
      sent = λ p among. shown_on g h.w w h.book h.book later h.hellos h.hellos (λ a in_. in_) p (h.sent p among);
      asked = λ a among. (let b = h.asked a among in let c = b.0 in (omega arith, b.1));
      filed = λ name among. h.filed name among;
      calm = λ none. contrary (sym none ∙ doubts);
      highest = inl refl;
      dropped = h.dropped;
      gone = λ name among. (let d = h.gone name among in record { number = d.number; named = d.named; dropped = d.dropped });
    };
    steps = steps;
    by = inr (record { generation = refl; holds = refl; dropped = refl });
    spans = λ writes serves. contrary (sym serves);
    steady = λ serving. contrary (sym serving);
  }
