-- What is in flight in a client's log, at first hand, over each thing that happens in the small world of the log, and so over a run.
use Rattle.std.proofs.Common.{◌≡◌, ◌⊎◌, true, false, List, [], ◌∷◌, Option, Some, None, refl, sym, ap, subst, ◌∙◌, inl, inr}
use Rattle.std.specs.Prelude.{IfSome}
use Rattle.std.specs.List.{AllByRecursion}
use Rattle.client_log.specs.declared.input.In.{In as Input}
use Rattle.client_log.specs.declared.input.In.TheVariants.{Put, Parts, Seal, Acked, Maps, Tick}
use Rattle.client_log.specs.History.{state_after}
use Rattle.client_log.specs.LogState.{LogState, log_start}
use Rattle.client_log.specs.Transition.{transition}
use Rattle.node_logs.specs.client_log_tie.ClientEvents.{IsOnce, NeverServes}
use Rattle.node_logs.specs.client_log_tie.Puts.{LogTook, PutsOwn, flown_after}
use Rattle.group_map.specs.GroupMapState.{GroupMapState}
use Rattle.log_flight.specs.Flights.{FlightState}
use Rattle.log_law.specs.Events.{CameToWriter, Happens, Runs}
use Rattle.log_law.specs.Events.Happens.{Acts, Bars, Crashes, Drops, Hears, Lists, Opens, Publishes, Raises, Renews, Restarts, Serves, Welcomes, Writes}
use Rattle.log_law.specs.Events.Runs.{Begun, On}
use Rattle.log_law.specs.Net.{Net, Owner, Told, after_flight, after_told, chain_in, first_write, flown_with}
use Rattle.log_law.specs.Net.Owner.{Down, Opening, Serving, Writing}
use Rattle.log_law.specs.Restarts.{is_serving}
use Rattle.log_protocol.specs.Tables.{In}
use Rattle.log_scan.specs.ScanState.{ScanState}
use Rattle.log_scan.specs.Transition as scan
use Rattle.log_tie.specs.Setting.{Setting}
use Rattle.node_moves.proofs.LogWalk as log_walk
use Rattle.segment_format.specs.declared.segment.Segment.{Segment}
use Rattle.xfs_base.proofs.Booleans.{contrary}
use Rattle.run_laws.specs.segment_tie.Segments.{IsFirstHand, IsOriginal, WritesNothing, WritesOriginals}
use Rattle.run_laws.proofs.segment_tie.Items.{nothing_is}
use Rattle.run_laws.proofs.segment_tie.Logs as logs
use Rattle.run_laws.proofs.segment_tie.Logs.{originals}
use Rattle.run_laws.proofs.segment_tie.Openings as openings
use Rattle.run_laws.specs.segment_law.Flown.{IsOriginalLog, LogsGoOnOriginal, OwnerWrites}

-- ---- a log that serves

own_given : (i : Input) → PutsOwn i → log_walk.Given (logs.walk IsFirstHand IsOriginal originals) i
own_given (Put block entry value) own = record { version = own.0; hop = own.1 }
own_given (Parts items) own = λ t fact. (nothing_is t (fact ∙ own)).original
own_given _ own = tt

-- it goes on so whatever of its own it takes
own_so : (s : LogState) (i : Input) → PutsOwn i → WritesOriginals s → WritesOriginals (transition s i).state
own_so s i own h = logs.log_so IsFirstHand IsOriginal originals s i (own_given i own) h

all_so : (s : LogState) (inputs : List Input) → AllByRecursion PutsOwn inputs → WritesOriginals s → WritesOriginals (state_after s inputs)
all_so s [] own h = h
all_so s (i ∷ later) own h = all_so (transition s i).state later own.1 (own_so s i own.0 h)

abbrev AllFlew : List Segment → Type 0
AllFlew flown = (s : Segment) → In s flown → IsOriginal s

-- with what is in flight now
flies_so : (o : Option FlightState) (before : List Segment) → IfSome o (λ f. IsOriginal f.segment) → AllFlew before → AllFlew (flown_with o before)
flies_so None before fact all s among = all s among
flies_so (Some f) before fact all s (inl e) = subst IsOriginal (sym e) fact
flies_so (Some f) before fact all s (inr among) = all s among

flew_so : (s : LogState) (inputs : List Input) (before : List Segment) → AllByRecursion PutsOwn inputs → WritesOriginals s → AllFlew before
    → AllFlew (flown_after s inputs before)
flew_so s [] before own h all = all
flew_so s (i ∷ later) before own h all =
    let now : WritesOriginals (transition s i).state = own_so s i own.0 h in
    flew_so (transition s i).state later (flown_with (transition s i).state.flight before) own.1 now
    (flies_so (transition s i).state.flight before now.flies all)

took_so : (n o : Net) (s : LogState) → n.owner ≡ Serving s → LogTook PutsOwn n o s → IsOriginalLog n → IsOriginalLog o
took_so n o s fact took h =
    let now : WritesOriginals s = subst OwnerWrites fact h.owner in
    record {
      owner = subst OwnerWrites (sym took.serves) (all_so s took.inputs took.all now);
      flew = subst AllFlew (sym took.flown) (flew_so s took.inputs n.flown took.all now h.flew);
    }

-- ---- a log that is opened

empty_flies : (o : Option FlightState) → IfSome o (λ f. f.segment.items ≡ []) → IfSome o (λ f. IsOriginal f.segment)
empty_flies None h = tt
empty_flies (Some f) h = (nothing_is f.segment h).original

module _ (g : Setting) (n : Net) (h : IsOriginalLog n) where
  -- the opening segment goes on, or is settled
  flight_so : (chain : List Segment) (s : LogState) (i : Input) → WritesNothing (transition s i).state → (o : Option FlightState)
      → (transition s i).state.flight ≡ o
      → IsOriginalLog (after_flight g n chain (transition s i) o)
  flight_so chain s i now None fact = record { owner = openings.opens_originals (transition s i).state now; flew = h.flew }
  flight_so chain s i now (Some f) fact = record {
    owner = now;
    flew = flies_so (Some f) n.flown (nothing_is f.segment (subst (λ o. IfSome o (λ f. f.segment.items ≡ [])) fact now.flies)).original h.flew;
  }

  writes_so : (chain : List Segment) (s : LogState) (i : Input) → CameToWriter n i → WritesNothing s
      → IsOriginalLog (after_flight g n chain (transition s i) (transition s i).state.flight)
  writes_so chain s (Put block entry value) came now = absurd came
  writes_so chain s (Parts items) came now = absurd came
  writes_so chain s Seal came now = absurd came
  writes_so chain s (Acked name index generation) came now =
      flight_so chain s (Acked name index generation) (openings.log_so s (Acked name index generation) tt now) _ refl
  writes_so chain s (Maps m) came now = flight_so chain s (Maps m) (openings.log_so s (Maps m) tt now) _ refl
  writes_so chain s Tick came now = flight_so chain s Tick (openings.log_so s Tick tt now) _ refl

  -- the log starts behind what was read back, with a segment without items
  told_so : (s : ScanState) (d : scan.Done) (t : Option Told) (groups : Option GroupMapState) → IsOriginalLog (after_told g n s d t groups)
  told_so s d None groups = record { owner = tt; flew = h.flew }
  told_so s d (Some t) None = record { owner = tt; flew = h.flew }
  told_so s d (Some t) (Some m) =
      let first : WritesNothing (first_write g n.inc t.end m).state =
      openings.log_so (log_start g.log n.inc t.end m) (Parts []) refl (record { clear = refl; flies = tt }) in
      record {
        owner = first;
        flew = flies_so (first_write g n.inc t.end m).state.flight n.flown (empty_flies (first_write g n.inc t.end m).state.flight first.flies) h.flew;
      }

  -- the owner and what flew are the same
  pub same_so : (o : Net) → o.owner ≡ n.owner → o.flown ≡ n.flown → IsOriginalLog o
  same_so o owner flown = record { owner = subst OwnerWrites (sym owner) h.owner; flew = subst AllFlew (sym flown) h.flew }

  -- ---- what happens, but for what the log of an owner that serves takes

  happens_so : (o : Net) → is_serving n.owner ≡ false ⊎ (is_serving o.owner ≡ false) → Happens g n o → IsOriginalLog o
  happens_so o (inl away) (Acts s i fact came texts) = contrary (sym away ∙ ap is_serving fact)
  happens_so o (inr away) (Acts s i fact came texts) = contrary (sym away)
  happens_so o away (Writes chain s i fact came texts) = writes_so chain s i came (subst OwnerWrites fact h.owner)
  happens_so o away (Opens s i fact came can) =
      told_so s (scan.transition s i) (chain_in (scan.transition s i).outs) (scan.transition s i).state.opening.groups
  happens_so o away Crashes = record { owner = tt; flew = h.flew }
  happens_so o away (Restarts down) = record { owner = tt; flew = h.flew }
  happens_so o away (Renews map high doubts down came) = record { owner = record { once = tt; each = tt; flies = tt }; flew = h.flew }
  happens_so o away (Serves v deed some came) = record { owner = h.owner; flew = h.flew }
  happens_so o away (Bars v log pass) = record { owner = h.owner; flew = h.flew }
  happens_so o away (Lists v) = record { owner = h.owner; flew = h.flew }
  happens_so o away (Hears v generation up reached) = record { owner = h.owner; flew = h.flew }
  happens_so o away (Raises low name up fact below) = record { owner = h.owner; flew = h.flew }
  happens_so o away (Publishes map whole) = record { owner = h.owner; flew = h.flew }
  happens_so o away (Welcomes inc ask news map hello low whole) = record { owner = h.owner; flew = h.flew }
  happens_so o away (Drops lists meta listed within below) = record { owner = h.owner; flew = h.flew }

-- ---- an event of the owner

-- it serves nowhere on the way
never_so : (g : Setting) (n o : Net) (runs : Runs g n o) → NeverServes runs → IsOriginalLog n → IsOriginalLog o
never_so g n o Begun never h = h
never_so g n o (On {m = m} run happens) never h = happens_so g m (never_so g n m run never.1 h) o (inr never.0) happens

once_so : (g : Setting) (n o : Net) (runs : Runs g n o) → IsOnce runs → is_serving n.owner ≡ false → IsOriginalLog n → IsOriginalLog o
once_so g n o Begun once away h = h
once_so g n o (On Begun happens) once away h = happens_so g n h o (inl away) happens
once_so g n o (On (On run before) happens) once away h = absurd once

pub logs_go_on : LogsGoOnOriginal
logs_go_on g n o runs straight puts h = by (is_serving o.owner) refl n.owner refl
  where
    by : (t : _) → is_serving o.owner ≡ t → (x : Owner) → n.owner ≡ x → IsOriginalLog o
    by false away x fact = never_so g n o runs (straight.never away) h
    by true serves (Serving s) fact = took_so n o s fact (puts s fact serves) h
    by true serves Down fact = once_so g n o runs (straight.once (ap is_serving fact) serves) (ap is_serving fact) h
    by true serves (Opening scan) fact = once_so g n o runs (straight.once (ap is_serving fact) serves) (ap is_serving fact) h
    by true serves (Writing chain s) fact = once_so g n o runs (straight.once (ap is_serving fact) serves) (ap is_serving fact) h
