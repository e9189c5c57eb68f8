-- The small world is seen at its start, and whatever happens it stays seen.
use Rattle.log_law.proofs.Next.{Next}
use Rattle.client_log.specs.Transition as log
use Rattle.log_law.specs.Restarts.{EndsRestart, is_writing, is_serving}
use Rattle.std.proofs.Common.{◌≡◌, ℕ, suc, ◌≤◌, true, false, List, [], refl, sym, ◌∙◌, inl, arith, None, ap}
use Rattle.xfs_base.proofs.Booleans.{contrary}
use Rattle.segment_format.specs.declared.segment.Segment.{Segment}
use Rattle.group_map.specs.GroupMapState.{GroupMapState}
use Rattle.client_log.specs.LogState.{LogState}
use Rattle.log_protocol.specs.OpeningSteps.{Undoubted}
use Rattle.log_protocol.specs.ServerSteps.{learns}
use Rattle.log_protocol.specs.State.{State, new_log}
use Rattle.log_protocol.specs.Step.Step.{Learns}
use Rattle.log_protocol.specs.Step.Steps.{Done, More}
use Rattle.log_tie.specs.Setting.{Setting, present_at, name_of}
use Rattle.log_tie.specs.Scans.{WholeMap}
use Rattle.log_law.specs.Net.{Net, no_end, opening, after_writing, after_flight}
use Rattle.log_law.specs.Net.Owner.{Writing}
use Rattle.log_law.specs.Events.{Happens, Runs}
use Rattle.log_law.specs.Events.Happens.{Acts, Writes, Opens, Crashes, Restarts, Renews, Serves, Bars, Lists, Hears, Raises, Publishes, Welcomes, Drops}
use Rattle.log_law.specs.Events.Runs.{Begun, On}
use Rattle.log_law.specs.Below.{Below}
use Rattle.log_law.proofs.Views.{View}
use Rattle.log_law.proofs.Logs.{ran_first}
use Rattle.log_law.proofs.ServerTurns.{serves_view, bars_view, lists_view}
use Rattle.log_law.proofs.OtherTurns.{hears_view, raises_view, publishes_view, welcomes_view, drops_view}
use Rattle.log_law.proofs.OwnerTurns.{serving_view, writing_view, crash_view, restart_view}
use Rattle.log_law.proofs.Renewing.{renew_view}
use Rattle.log_law.proofs.ScanTurns.{opens_view}

none_one : (n : ℕ) → n ≡ 0 → n ≡ 1 → ⊥
none_one n a b = omega arith

-- at first
pub begins_seen : (k : Below) (g : Setting) (m : GroupMapState) → WholeMap g (λ v. 1) m → View g (opening g m)
begins_seen k g m whole = record {
  w = learns first (present_at m);
  book = book;
  hellos = [];
  fixed = record { servers = refl; seq_of = refl; incarnation_of = refl; attempt_of = refl };
  reached = record { names = g.names; run = More Done (Learns (present_at m) (record { known = whole.seen.past })) };
  paged = λ x fact. absurd (none_one 0 refl fact);
  spelled = record {
    fits = λ x fact. absurd (none_one 0 refl fact);
    text = λ x fact. absurd (none_one 0 refl fact);
    bytes = λ x fact. absurd (none_one 0 refl fact);
    grouped = λ x y fact to named. absurd (none_one 0 refl fact);
  };
  flown = record { all = λ x fact. absurd (none_one 0 refl fact); booked = λ s fact. absurd fact };
  shelves = λ v. record { of = refl; keeps = λ x. refl; each = tt; marks = λ x. refl };
  nobody = λ x. refl;
  registry = λ v. refl;
  low = refl;
  inc = refl;
  owner = (
    record {
      writes = record { log = refl; inc = refl; some = omega arith; map = whole.seen.whole; known = λ v. refl };
      phase = refl;
      end = refl;
      end_seq = g.names.none;
      flight = refl;
    },
    record { ran = ran_first g.log 1 no_end m; grouped = λ y fact named. absurd (none_one 0 refl fact) },
  );
  picked = tt;
  sent = λ p fact. absurd fact;
  asked = λ a fact. absurd fact;
  filed = λ name fact. absurd fact;
  calm = λ none. refl;
  highest = inl refl;
  dropped = λ x. inl refl;
  gone = λ name fact. absurd fact;
}
  where
    first : State
    first = new_log (suc g.servers) g.seq_of g.incarnation_of g.attempt_of

    book : ℕ → Segment
    book x = record { name = name_of g 0; prior = record { pass = record { inc = 0; att = 0 }; group = 0 }; group = 0; items = [] }

-- the premise on losses, where it is asked for: at an event by which a restart ends
abbrev pub IsSure : (g : Setting) (n o : Net) → View g n → Type 0
IsSure g n o h = g.doubts ≡ false → EndsRestart n o → h.w.pick_low ≤ h.w.head → Undoubted h.w

-- the opening segment is settled: the owner serves
ends_so : (g : Setting) (n : Net) (chain : List Segment) (s : LogState) (d : log.Done) → n.owner ≡ Writing chain s → d.state.flight ≡ None
    → EndsRestart n (after_writing g n chain d)
ends_so g n chain s d fact none = (ap is_writing fact, ap (λ o. is_serving (after_flight g n chain d o).owner) none)

-- whatever happens, it is seen
pub keeps : (k : Below) (g : Setting) (n o : Net) (h : View g n) → Happens g n o → IsSure g n o h → Next g n h o
keeps k g n o h (Acts s i fact came texts) sure = serving_view k g n h s i fact came texts
keeps k g n o h (Writes chain s i fact came texts) sure =
    writing_view k g n h chain s i fact came texts (λ none lands. sure none (ends_so g n chain s (log.transition s i) fact lands))
keeps k g n o h (Opens s i fact came can) sure = opens_view k g n h s i fact came can
keeps k g n o h Crashes sure = crash_view k g n h
keeps k g n o h (Restarts fact) sure = restart_view k g n h fact
keeps k g n o h (Renews m high doubts fact came) sure = renew_view k g n h m doubts fact came
keeps k g n o h (Serves v deed some came) sure = serves_view k g n h v deed some came
keeps k g n o h (Bars v log pass) sure = bars_view k g n h v log pass
keeps k g n o h (Lists v) sure = lists_view k g n h v
keeps k g n o h (Hears v generation up reached) sure = hears_view k g n h v generation up reached
keeps k g n o h (Raises low name up fact below) sure = raises_view k g n h low name up fact below
keeps k g n o h (Publishes m whole) sure = publishes_view k g n h m whole
keeps k g n o h (Welcomes inc ask news m fact low whole) sure = welcomes_view k g n h inc ask news m fact low whole
keeps k g n o h (Drops lists meta fact among below) sure = drops_view k g n h lists meta fact among below

-- where restarts may be doubtful, nothing is asked
pub seen_always : (k : Below) (g : Setting) (n o : Net) → g.doubts ≡ true → Runs g n o → View g n → View g o
seen_always k g n o doubts Begun h = h
seen_always k g n o doubts (On {m = m} run happens) h = (keeps k g m o (seen_always k g n m doubts run h) happens (λ none. contrary (sym none ∙ doubts))).view
