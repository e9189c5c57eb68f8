-- Unless the owner falls, what begins to fly is no further than the number after the end: the end only rises, and a flight is the next segment.
use Rattle.std.proofs.Common.{◌≡◌, ◌⊎◌, ⊎_elim, ℕ, suc, ◌+◌, ◌≤◌, List, [], Option, Some, None, refl, sym, ap, subst, ◌∙◌, inl, inr, arith, if◌then◌else◌}
use Rattle.std.specs.Prelude.{IfSome}
use Rattle.segment_format.specs.declared.segment.Segment.{Segment}
use Rattle.group_map.specs.GroupMapState.{GroupMapState}
use Rattle.log_flight.specs.Flights.{FlightState}
use Rattle.client_log.specs.declared.input.In.{In as Input}
use Rattle.client_log.specs.declared.input.In.TheVariants as log_in
use Rattle.client_log.specs.History.{IsNext, IsInLine, EndRisesByOne}
use Rattle.client_log.specs.LogState.{LogState, log_start}
use Rattle.client_log.specs.Transition as log
use Rattle.log_scan.specs.ScanState.{ScanState}
use Rattle.log_scan.specs.Transition as scan
use Rattle.log_protocol.specs.Tables.{In}
use Rattle.log_tie.specs.Setting.{Setting}
use Rattle.log_law.specs.Net.{Net, Owner, Told, chain_in, flown_with, first_write, after_flight, after_told}
use Rattle.log_law.specs.Net.Owner.{Down, Opening, Writing, Serving}
use Rattle.log_law.specs.Events.{Happens, Runs}
use Rattle.log_law.specs.Events.Happens.{Acts, Writes, Opens, Crashes, Restarts, Renews, Serves, Bars, Lists, Hears, Raises, Publishes, Welcomes, Drops}
use Rattle.log_law.specs.Events.Runs.{Begun, On}
use Rattle.log_law.specs.Laws.{Moment}
use Rattle.log_law.specs.Openings.{next_number, boot_of, FliesNext}
use Rattle.log_law.specs.Restarts.{is_down}
use Rattle.log_law.specs.Tails.{then_on}
use Rattle.log_law.specs.Below.{Below}
use Rattle.log_law.proofs.Calmer.{doubtful}
use Rattle.log_law.proofs.Logs.{ran_first, ran_on}
use Rattle.log_law.proofs.Views.{OwnerShown, Ran, View}
use Rattle.log_law.proofs.Wholeness.{seen}

-- what a log writes by an input: its end is no lower, and what is in flight has the number after it
record Writes_next (s : LogState) (d : log.Done) : Type 0 where
  rises : s.end.seq ≤ d.state.end.seq
  next : IfSome d.state.flight (λ f. f.segment.name.seq ≡ d.state.end.seq + 1)

writes_next : Below → (s : LogState) (i : Input) → Ran s → Writes_next s (log.transition s i)
writes_next k s i ran = record { rises = by rises; next = flies (log.transition s i).state.flight in_line }
  where
    now : Ran (log.transition s i).state
    now = ran_on s i ran

    in_line : IsInLine (log.transition s i).state
    in_line = subst IsInLine (sym now.reaches) (k.logs.next now.log now.inc now.end now.groups now.history)

    rises : EndRisesByOne s (log.transition s i)
    rises = subst (λ (z : LogState). EndRisesByOne z (log.transition z i)) (sym ran.reaches) (k.logs.rises ran.log ran.inc ran.end ran.groups ran.history i)

    by : EndRisesByOne s (log.transition s i) → s.end.seq ≤ (log.transition s i).state.end.seq
    by (inl same) = (let e = ap (λ z. z.seq) same.1 in omega arith)
    by (inr one) = (let e = one.1 in omega arith)

    flies : (o : Option FlightState) → IfSome o (IsNext (log.transition s i).state)
        → IfSome o (λ f. f.segment.name.seq ≡ (log.transition s i).state.end.seq + 1)
    flies None line = tt
    flies (Some f) line = line.seq

-- from the first moment to a later one
pub record Since (n o : Net) : Type 0 where
  pub boots : boot_of n ≤ boot_of o
  flown : boot_of o ≡ boot_of n → (s : Segment) → In s o.flown → In s n.flown ⊎ (s.name.seq ≤ next_number o.owner)

-- one more event, in the same boot
record InBoot (m o : Net) : Type 0 where
  boot : boot_of o ≡ boot_of m
  rises : next_number m.owner ≤ next_number o.owner
  flown : (s : Segment) → In s o.flown → In s m.flown ⊎ (s.name.seq ≤ next_number o.owner)

goes_on : (n m o : Net) → InBoot m o → Since n m → Since n o
goes_on n m o b h = record {
  boots = (let x = h.boots in let y = b.boot in omega arith);
  flown = λ same s among. ⊎_elim (λ was. by s (h.flown (sym b.boot ∙ same) s was)) inr (b.flown s among);
}
  where
    by : (s : Segment) → In s n.flown ⊎ (s.name.seq ≤ next_number m.owner) → In s n.flown ⊎ (s.name.seq ≤ next_number o.owner)
    by s (inl was) = inl was
    by s (inr low) = inr (let r = b.rises in omega arith)

-- what flies now flew, or is the flight
flying : (o : Option FlightState) (flown : List Segment) (highest : ℕ) → IfSome o (λ f. f.segment.name.seq ≡ highest) → (s : Segment)
    → In s (flown_with o flown)
    → In s flown ⊎ (s.name.seq ≤ highest)
flying None flown highest next s among = inl among
flying (Some f) flown highest next s (inl e) = inr (let a = ap (λ (z : Segment). z.name.seq) e in let b = next in omega arith)
flying (Some f) flown highest next s (inr was) = inl was

module _ (k : Below) (g : Setting) (m : Net) (h : View (doubtful g) m) where
  ran_there : (s : LogState) → m.owner ≡ Serving s → Ran s
  ran_there s fact = (subst (OwnerShown (doubtful g) h.w h.book h.hellos) fact h.owner).1.ran

  ran_writing : (chain : List Segment) (s : LogState) → m.owner ≡ Writing chain s → Ran s
  ran_writing chain s fact = (subst (OwnerShown (doubtful g) h.w h.book h.hellos) fact h.owner).1.ran

  -- the boot of an owner that is up, or down
  boot_up : (x : Owner) → m.owner ≡ x → boot_of m ≡ (if is_down x then suc m.inc else m.inc)
  boot_up x fact = ap (λ z. if is_down z then suc m.inc else m.inc) fact

  number_there : (x : Owner) → m.owner ≡ x → next_number m.owner ≡ next_number x
  number_there x fact = ap next_number fact

  writes_on : (chain : List Segment) (s : LogState) (d : log.Done) → m.owner ≡ Writing chain s → Writes_next s d → (o : Option FlightState) → d.state.flight ≡ o
      → InBoot m (after_flight g m chain d o)
  writes_on chain s d fact w None at = record {
    boot = sym (boot_up (Writing chain s) fact);
    rises = (let a = number_there (Writing chain s) fact in let b = w.rises in omega arith);
    flown = λ x among. inl among;
  }
  writes_on chain s d fact w (Some f) at = record {
    boot = sym (boot_up (Writing chain s) fact);
    rises = (let a = number_there (Writing chain s) fact in let b = w.rises in omega arith);
    flown = flying (Some f) m.flown (d.state.end.seq + 1) (subst (λ z. IfSome z (λ f. f.segment.name.seq ≡ d.state.end.seq + 1)) at w.next);
  }

  opens_on : (s : ScanState) (d : scan.Done) → m.owner ≡ Opening s → (o : Option Told) (groups : Option GroupMapState) → InBoot m (after_told g m s d o groups)
  opens_on s d fact None groups = record {
    boot = sym (boot_up (Opening s) fact);
    rises = (let a = number_there (Opening s) fact in omega arith);
    flown = λ x among. inl among;
  }
  opens_on s d fact (Some t) None = record {
    boot = sym (boot_up (Opening s) fact);
    rises = (let a = number_there (Opening s) fact in omega arith);
    flown = λ x among. inl among;
  }
  opens_on s d fact (Some t) (Some map) =
      let w : Writes_next (log_start g.log m.inc t.end map) (first_write g m.inc t.end map) =
      writes_next k (log_start g.log m.inc t.end map) (log_in.Parts []) (ran_first g.log m.inc t.end map) in
      record {
        boot = sym (boot_up (Opening s) fact);
        rises = (let a = number_there (Opening s) fact in omega arith);
        flown = flying (first_write g m.inc t.end map).state.flight m.flown ((first_write g m.inc t.end map).state.end.seq + 1) w.next;
      }

  -- nothing flies that didn't
  aside : (o : Net) → o.inc ≡ m.inc → o.owner ≡ m.owner → o.flown ≡ m.flown → InBoot m o
  aside o inc owner flown = record {
    boot = (λ j. if is_down (owner j) then suc (inc j) else inc j);
    rises = (let e = ap next_number owner in omega arith);
    flown = λ s among. inl (subst (In s) flown among);
  }

  -- an owner that is up falls: the next boot is another
  falls_up : (n : Net) → boot_of m ≡ m.inc → Since n m → Since n (record m { owner = Down; feed = [] })
  falls_up n up since = record {
    boots = (let a = since.boots in omega arith);
    flown = λ same. absurd (let a = since.boots in let b = same in omega arith);
  }

  falls : (n : Net) (x : Owner) → m.owner ≡ x → Since n m → Since n (record m { owner = Down; feed = [] })
  falls n Down fact since = goes_on n m (record m { owner = Down; feed = [] }) (record {
    boot = sym (boot_up Down fact);
    rises = (let a = number_there Down fact in omega arith);
    flown = λ s among. inl among;
  }) since
  falls n (Opening s) fact since = falls_up n (boot_up (Opening s) fact) since
  falls n (Writing chain s) fact since = falls_up n (boot_up (Writing chain s) fact) since
  falls n (Serving s) fact since = falls_up n (boot_up (Serving s) fact) since

  happens_since : (n o : Net) → Since n m → Happens g m o → Since n o
  happens_since n o since (Acts s i fact came texts) =
      let w : Writes_next s (log.transition s i) = writes_next k s i (ran_there s fact) in
      goes_on n m o (record {
        boot = sym (boot_up (Serving s) fact);
        rises = (let a = number_there (Serving s) fact in let b = w.rises in omega arith);
        flown = flying (log.transition s i).state.flight m.flown ((log.transition s i).state.end.seq + 1) w.next;
      }) since
  happens_since n o since (Writes chain s i fact came texts) =
      goes_on n m o (writes_on chain s (log.transition s i) fact (writes_next k s i (ran_writing chain s fact)) (log.transition s i).state.flight refl) since
  happens_since n o since (Opens s i fact came can) =
      goes_on n m o (opens_on s (scan.transition s i) fact (chain_in (scan.transition s i).outs) (scan.transition s i).state.opening.groups) since
  happens_since n o since Crashes = falls n m.owner refl since
  happens_since n o since (Restarts down) = goes_on n m o (record {
    boot = sym (boot_up Down down);
    rises = (let a = number_there Down down in omega arith);
    flown = λ s among. inl among;
  }) since
  happens_since n o since (Renews map high doubts down came) = goes_on n m o (record {
    boot = sym (boot_up Down down);
    rises = (let a = number_there Down down in omega arith);
    flown = λ s among. inl among;
  }) since
  happens_since n o since (Serves v deed some came) = goes_on n m o (aside o refl refl refl) since
  happens_since n o since (Bars v l pass) = goes_on n m o (aside o refl refl refl) since
  happens_since n o since (Lists v) = goes_on n m o (aside o refl refl refl) since
  happens_since n o since (Hears v generation up reached) = goes_on n m o (aside o refl refl refl) since
  happens_since n o since (Raises low name up fact below) = goes_on n m o (aside o refl refl refl) since
  happens_since n o since (Publishes map whole) = goes_on n m o (aside o refl refl refl) since
  happens_since n o since (Welcomes inc ask news map hello low whole) = goes_on n m o (aside o refl refl refl) since
  happens_since n o since (Drops lists meta listed within below) = goes_on n m o (aside o refl refl refl) since

pub run_since : (k : Below) (g : Setting) (n o : Net) → Moment g n → Runs g n o → Since n o
run_since k g n o at Begun = record { boots = omega arith; flown = λ same s among. inl among }
run_since k g n o at (On {m = m} run happens) =
    happens_since k g m (seen k g m (record { map = at.map; whole = at.whole; run = then_on at.run run })) n o (run_since k g n m at run) happens

pub flies_next : Below → FliesNext
flies_next k g n o at run same s among = (run_since k g n o at run).flown same s among
