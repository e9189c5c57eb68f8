-- Behind the end that an opening tells the log can go on, where the number of all that was in flight has one after it.
use Rattle.std.proofs.Common.{◌≡◌, ◌⊎◌, ℕ, suc, ◌-◌, ◌^◌, ◌≤◌, ◌<◌, true, max, List, [], ◌∷◌, ◌++◌, Option, Some, None, refl, sym, ap, subst, ◌∙◌, inl, inr, arith}
use Rattle.std.specs.Prelude.{IfSome}
use Rattle.std.specs.Option.{option_map}
use Rattle.std.proofs.lemmas.Bool.Decides.{nat_tests}
use Rattle.xfs_base.proofs.Booleans.{by_test}
use Rattle.xfs_base.specs.declared.fragment.FragMeta.{FragMeta}
use Rattle.xfs_base.specs.declared.news.SlotNews.{SlotNews}
use Rattle.xfs_base.specs.declared.segment.LogId.{LogId}
use Rattle.xfs_base.specs.declared.segment.SegName.{SegName}
use Rattle.segment_format.specs.declared.segment.Segment.{Segment}
use Rattle.group_map.specs.declared.group.Group.{Group}
use Rattle.group_map.specs.GroupMapState.{GroupMapState}
use Rattle.stripe_code.specs.Fragments.{meta_of}
use Rattle.log_flight.specs.Flights.{FlightState}
use Rattle.client_log.specs.Transition as log
use Rattle.client_log.specs.Transition.{has_next}
use Rattle.log_scan.proofs.Picked.{picked_is}
use Rattle.log_scan.specs.declared.input.In.{In as Input}
use Rattle.log_scan.specs.declared.input.In.TheVariants as scan_in
use Rattle.log_scan.specs.declared.listing.Listing.{Listing}
use Rattle.log_scan.specs.declared.stage.Stage.{Stage}
use Rattle.log_scan.specs.declared.stage.Stage.TheVariants.{Hails, Gathers, Asks, Reads, Over}
use Rattle.log_scan.specs.Pick.{counting, newest, is_torn, end_at, end_before, end_of_none, start_in, known_group, start_from}
use Rattle.log_scan.specs.ScanState.{ScanState}
use Rattle.log_scan.specs.Transition as scan
use Rattle.log_scan.specs.Transition.{least_horizon}
use Rattle.log_protocol.specs.Tables.{In}
use Rattle.log_tie.proofs.Listings.{counted_listed, in_contained}
use Rattle.log_tie.proofs.Picks.{kept_list}
use Rattle.log_tie.specs.Scans.{AllMetas, AllListed, ScanShown, StageShown}
use Rattle.log_tie.specs.Seen.{log_filed}
use Rattle.log_tie.specs.Setting.{Setting}
use Rattle.log_law.specs.Net.{Net, Owner, Told, chain_in, flown_with, names_of, first_write, opening, after_flight, after_told}
use Rattle.log_law.specs.Net.Owner.{Down, Opening, Writing, Serving}
use Rattle.log_law.specs.Net.Packet.{WelcomeSent}
use Rattle.log_law.specs.Events.{CameToScan, Happens, Runs}
use Rattle.log_law.specs.Events.Happens.{Acts, Writes, Opens, Crashes, Restarts, Renews, Serves, Bars, Lists, Hears, Raises, Publishes, Welcomes, Drops}
use Rattle.log_law.specs.Events.Runs.{Begun, On}
use Rattle.log_law.specs.Laws.{Moment}
use Rattle.log_law.specs.Tails.{then_on}
use Rattle.log_law.specs.Openings.{GoesOn, AllHaveNext, OpeningsGoOn}
use Rattle.log_law.specs.Below.{Below}
use Rattle.log_law.proofs.Calmer.{doubtful}
use Rattle.log_law.proofs.Moves.{in_right}
use Rattle.log_law.proofs.ScanEnds.{StartIs, PickIs, BringsPick, Keeps, keeps_start, told_end}
use Rattle.log_law.proofs.Views.{OwnerShown, WelcomeSeen, View}
use Rattle.log_law.proofs.Wholeness.{seen}

next_below : (a b : ℕ) → a ≤ b → has_next b ≡ true → has_next a ≡ true
next_below a b le next = grind (arith, nat_tests)

next_fits : (a : ℕ) → has_next a ≡ true → a < 2 ^ 32
next_fits a next = grind (arith, nat_tests)

-- a meta that is listed is of a booked segment
record IsMeta (book : ℕ → Segment) (booked : ℕ → ℕ) (m : FragMeta) : Type 0 where
  number : ℕ
  index : ℕ
  is_booked : booked number ≡ 1
  describes : m ≡ meta_of (book number) index

its_meta : (book : ℕ → Segment) (booked : ℕ → ℕ) (ms : List FragMeta) (m : FragMeta) → AllMetas book booked ms → In m ms → IsMeta book booked m
its_meta book booked [] m all among = absurd among
its_meta book booked (k ∷ ms) m all (inl e) = record { number = all.0.0; index = all.0.1; is_booked = all.0.2; describes = e ∙ all.0.3 }
its_meta book booked (k ∷ ms) m all (inr among) = its_meta book booked ms m all.1 among

-- the least horizon is no further than one beyond a filed segment, or is the first
abbrev pub LowIsFiled : Net → Type 0
LowIsFiled n = (n.low ≤ 1) ⊎ ((name : SegName) × In name n.filed × (n.low ≤ suc name.seq))

-- ---- where it picks

module _ (k : Below) (g : Setting) (n : Net) (h : View g n) (low : LowIsFiled n) (next : AllHaveNext n) where
  booked_next : (x : ℕ) → h.w.booked x ≡ 1 → has_next (h.book x).name.seq ≡ true
  booked_next x fact = next (h.book x) (h.flown.all x fact)

  filed_next : (name : SegName) → In name n.filed → has_next name.seq ≡ true
  filed_next name among =
      let f = h.filed name among in
      let booked = (k.protocol.book h.w h.reached).filed_booked f.0 f.2 in
      let same : name.seq ≡ (h.book f.0).name.seq = ap (λ (z : SegName). z.seq) (f.1 ∙ sym (h.paged f.0 booked).named) in
      next_below name.seq (h.book f.0).name.seq (omega arith) (booked_next f.0 booked)

  -- behind a horizon
  below_next : (bound : ℕ) → bound ≤ n.low → has_next (bound - 1) ≡ true
  below_next bound le = by low
    where
      first : (a : ℕ) → a ≤ 0 → has_next a ≡ true
      first a none = grind (arith, nat_tests)

      by : LowIsFiled n → has_next (bound - 1) ≡ true
      by (inl few) = first (bound - 1) (omega arith)
      by (inr f) = next_below (bound - 1) f.0.seq (let a = f.2 in omega arith) (filed_next f.0 f.1)

  none_goes : (bound : ℕ) → bound ≤ n.low → GoesOn (end_of_none (bound - 1))
  none_goes bound le = (let a = below_next bound le in (a, (next_fits (bound - 1) a, (omega arith, omega arith), omega arith)))

  -- behind a booked segment, or the one before it
  at_goes : (x i : ℕ) → h.w.booked x ≡ 1 → GoesOn (end_at (meta_of (h.book x) i))
  at_goes x i fact = (let a = booked_next x fact in let f = h.spelled.fits x fact in (a, (next_fits (h.book x).name.seq a, f.name.1, f.group)))

  before_goes : (x i : ℕ) → h.w.booked x ≡ 1 → GoesOn (end_before (meta_of (h.book x) i))
  before_goes x i fact =
      let a = next_below ((h.book x).name.seq - 1) (h.book x).name.seq (omega arith) (booked_next x fact) in
      let f = h.spelled.fits x fact in (a, (next_fits ((h.book x).name.seq - 1) a, f.prior.0, f.prior.1))

  in_goes : (lists : List Listing) (m : FragMeta) (group : Group) → IsMeta h.book h.w.booked m → GoesOn (start_in lists m group)
  in_goes lists m group meta =
      by_test GoesOn (is_torn lists m.name group.members) (end_before m) (end_at m)
      (λ t. subst (λ z. GoesOn (end_before z)) (sym meta.describes) (before_goes meta.number meta.index meta.is_booked))
      (λ t. subst (λ z. GoesOn (end_at z)) (sym meta.describes) (at_goes meta.number meta.index meta.is_booked))

  -- the one that is picked is listed
  newest_meta : (bound from : ℕ) (lists : List Listing) (m : FragMeta) → AllListed g h.w h.book bound lists → newest (counting from lists) ≡ Some m
      → IsMeta h.book h.w.booked m
  newest_meta bound from lists m all fact =
      let c = counted_listed from lists m (in_contained m (counting from lists) (picked_is from lists m fact).counts) in
      its_meta h.book h.w.booked c.0.held m (kept_list g h.w h.book bound lists c.0 all c.1).seen.whole c.2

  start_goes : (groups : Option GroupMapState) (bound from : ℕ) (lists : List Listing) → AllListed g h.w h.book bound lists → from ≤ n.low
      → IfSome (start_from groups lists from (newest (counting from lists))) GoesOn
  start_goes groups bound from lists all le = by (newest (counting from lists)) refl
    where
      by_group : (m : FragMeta) → IsMeta h.book h.w.booked m → (o : Option Group) → IfSome (option_map (start_in lists m) o) GoesOn
      by_group m meta None = tt
      by_group m meta (Some group) = in_goes lists m group meta

      by : (o : Option FragMeta) → newest (counting from lists) ≡ o → IfSome (start_from groups lists from o) GoesOn
      by None fact = none_goes from le
      by (Some m) fact = by_group m (newest_meta bound from lists m all fact) (known_group groups m.group)

  -- ---- what an input brings

  module _ (s : ScanState) (owner : n.owner ≡ Opening s) where
    shown : ScanShown g h.w h.book h.hellos s
    shown = subst (OwnerShown g h.w h.book h.hellos) owner h.owner

    pick_goes : (ask : ℕ) (news : List SlotNews) (groups : GroupMapState) (st : Stage) → StageShown g h.w h.book h.hellos s.opening st
        → least_horizon s.opening.log.0 news ≤ h.w.low
        → PickIs GoesOn (record s.opening { groups = Some groups }) st (least_horizon s.opening.log.0 news)
    pick_goes ask news groups Hails sees least = tt
    pick_goes ask news groups (Gathers lists) sees least = tt
    pick_goes ask news groups (Asks lists) sees least =
        start_goes (Some groups) sees.bound (max s.opening.low (least_horizon s.opening.log.0 news)) lists sees.gathering.kept
        (let a = shown.horizon in let b = least in let c = h.low in omega arith)
    pick_goes ask news groups (Reads b r) sees least = tt
    pick_goes ask news groups Over sees least = tt

    brings : (i : Input) → CameToScan g n i → BringsPick GoesOn s.opening s.stage i
    brings (scan_in.Welcome ask news groups) came =
        let seen_so : WelcomeSeen g h.w h.hellos n.inc ask news came.0.0 = h.sent (WelcomeSent n.inc ask news came.0.0) came.0.1 in
        pick_goes ask news groups s.stage shown.stage
        (let e : least_horizon s.opening.log.0 news ≡ least_horizon g.log.0 news = ap (λ (l : LogId). least_horizon l.0 news) shown.log in
        let a = seen_so.known in omega arith)
    brings (scan_in.Fenced server generation held) came = tt
    brings (scan_in.Got ask server generation f) came = tt
    brings (scan_in.Missing ask server generation) came = tt
    brings (scan_in.Maps m) came = tt
    brings scan_in.Tick came = tt

    pub input_keeps : (i : Input) → CameToScan g n i → StartIs GoesOn s.stage → Keeps GoesOn (scan.transition s i)
    input_keeps i came start = keeps_start GoesOn s.opening s.stage i start (brings i came)

-- ---- at each moment

-- where it reads back, the log can go on behind the start
abbrev pub StartGoes : Owner → Type 0
StartGoes Down = Unit {0}
StartGoes (Opening s) = StartIs GoesOn s.stage
StartGoes (Writing chain s) = Unit {0}
StartGoes (Serving s) = Unit {0}

pub record Goes (n : Net) : Type 0 where
  pub low : LowIsFiled n
  pub start : AllHaveNext n → StartGoes n.owner

-- what stays so, whatever happens
record Grows (n o : Net) : Type 0 where
  flown : (s : Segment) → In s n.flown → In s o.flown
  filed : (name : SegName) → In name n.filed → In name o.filed

with_more : (o : Option FlightState) (flown : List Segment) (s : Segment) → In s flown → In s (flown_with o flown)
with_more None flown s among = among
with_more (Some f) flown s among = inr among

still_filed : (n o : Net) → o.low ≡ n.low → Grows n o → LowIsFiled n → LowIsFiled o
still_filed n o same grows (inl few) = inl (let e = same in omega arith)
still_filed n o same grows (inr f) = inr (f.0, grows.filed f.0 f.1, (let e = same in let a = f.2 in omega arith))

goes_by : (n o : Net) → o.low ≡ n.low → Grows n o → StartGoes o.owner → Goes n → Goes o
goes_by n o same grows start h = record { low = still_filed n o same grows h.low; start = λ next. start }

module _ (k : Below) (g : Setting) (n : Net) (h : View (doubtful g) n) (goes : Goes n) where
  writes_goes : (chain : List Segment) (d : log.Done) (o : Option FlightState) → Goes (after_flight g n chain d o)
  writes_goes chain d None = goes_by n (after_flight g n chain d None) refl
      (record {
        flown = λ s among. among;
        filed = λ name among. in_right (log_filed g.log d.outs) (names_of chain ++ n.filed) name (in_right (names_of chain) n.filed name among);
      })
      tt goes
  writes_goes chain d (Some f) =
      goes_by n (after_flight g n chain d (Some f)) refl
      (record { flown = λ s among. inr among; filed = λ name among. in_right (log_filed g.log d.outs) n.filed name among })
      tt goes

  module _ (s : ScanState) (i : Input) (fact : n.owner ≡ Opening s) (came : CameToScan g n i) where
    abbrev d : scan.Done
    d = scan.transition s i

    came_so : (i : Input) → CameToScan g n i → CameToScan (doubtful g) n i
    came_so (scan_in.Welcome ask news groups) c = c
    came_so (scan_in.Fenced server generation held) c = c
    came_so (scan_in.Got ask server generation f) c = c
    came_so (scan_in.Missing ask server generation) c = c
    came_so (scan_in.Maps m) c = c
    came_so scan_in.Tick c = c

    pub it_keeps : AllHaveNext n → Keeps GoesOn d
    it_keeps next = input_keeps k (doubtful g) n h goes.low next s fact i (came_so i came) (subst StartGoes fact (goes.start next))

    opens_goes : (o : Option Told) (groups : Option GroupMapState) → Goes (after_told g n s d o groups)
    opens_goes None groups = record {
      low = still_filed n (after_told g n s d None groups) refl (record { flown = λ s among. among; filed = λ name among. among }) goes.low;
      start = λ next. (it_keeps next).stage;
    }
    opens_goes (Some t) None = record {
      low = still_filed n (after_told g n s d (Some t) None) refl (record { flown = λ s among. among; filed = λ name among. among }) goes.low;
      start = λ next. (it_keeps next).stage;
    }
    opens_goes (Some t) (Some m) =
        goes_by n (after_told g n s d (Some t) (Some m)) refl
        (record {
          flown = λ s among. with_more (first_write g n.inc t.end m).state.flight n.flown s among;
          filed = λ name among. in_right (log_filed g.log (first_write g n.inc t.end m).outs) n.filed name among;
        })
        tt goes

  -- a node that isn't the owner
  aside : (o : Net) → o.low ≡ n.low → o.owner ≡ n.owner → o.flown ≡ n.flown → o.filed ≡ n.filed → Goes o
  aside o low owner flown filed = record {
    low = still_filed n o low (record { flown = λ s among. subst (In s) (sym flown) among; filed = λ name among. subst (In name) (sym filed) among }) goes.low;
    start = λ next. subst StartGoes (sym owner) (goes.start (λ s among. next s (subst (In s) (sym flown) among)));
  }

  happens_goes : (o : Net) → Happens g n o → Goes o
  happens_goes o (Acts s i fact came texts) =
      goes_by n o refl
      (record {
        flown = λ x among. with_more (log.transition s i).state.flight n.flown x among;
        filed = λ name among. in_right (log_filed g.log (log.transition s i).outs) n.filed name among;
      })
      tt goes
  happens_goes o (Writes chain s i fact came texts) = writes_goes chain (log.transition s i) (log.transition s i).state.flight
  happens_goes o (Opens s i fact came can) = opens_goes s i fact came (chain_in (scan.transition s i).outs) (scan.transition s i).state.opening.groups
  happens_goes o Crashes = goes_by n o refl (record { flown = λ s among. among; filed = λ name among. among }) tt goes
  happens_goes o (Restarts down) = goes_by n o refl (record { flown = λ s among. among; filed = λ name among. among }) tt goes
  happens_goes o (Renews m high doubts down came) = goes_by n o refl (record { flown = λ s among. among; filed = λ name among. among }) tt goes
  happens_goes o (Serves v deed some came) = aside o refl refl refl refl
  happens_goes o (Bars v l pass) = aside o refl refl refl refl
  happens_goes o (Lists v) = aside o refl refl refl refl
  happens_goes o (Hears v generation up reached) = aside o refl refl refl refl
  happens_goes o (Raises low name up fact below) = record { low = inr (name, fact, below); start = goes.start }
  happens_goes o (Publishes m whole) = aside o refl refl refl refl
  happens_goes o (Welcomes inc ask news m hello low whole) = aside o refl refl refl refl
  happens_goes o (Drops lists meta listed within below) = aside o refl refl refl refl

run_goes : (k : Below) (g : Setting) (n o : Net) → Moment g n → Goes n → Runs g n o → Goes o
run_goes k g n o at goes Begun = goes
run_goes k g n o at goes (On {m = m} run happens) =
    happens_goes k g m (seen k g m (record { map = at.map; whole = at.whole; run = then_on at.run run })) (run_goes k g n m at goes run) o happens

pub openings_go_on : Below → OpeningsGoOn
openings_go_on k g n m next s fact i came =
    told_end GoesOn (scan.transition s i).outs
    (it_keeps k g n (seen k g n m) (run_goes k g first n began (record { low = inl (omega arith); start = λ next. tt }) m.run) s i fact came next).tells
  where
    first : Net
    first = opening g m.map

    began : Moment g first
    began = record { map = m.map; whole = m.whole; run = Begun }
