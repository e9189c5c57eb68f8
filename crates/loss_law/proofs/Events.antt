-- Whatever happens, what is known of packets and of an opening stays so.
use Rattle.std.proofs.Common.{◌≡◌, ℕ, suc, ◌<◌, ◌≤◌, ◌⊎◌, ◌==◌, ◌&&◌, List, [], ◌∷◌, ◌++◌, Option, Some, None, refl, sym, ap, subst, ◌∙◌, inl, inr, arith}
use Rattle.std.proofs.lemmas.Bool.{eqb-true}
use Rattle.xfs_base.specs.declared.fragment.Fragment.{Fragment}
use Rattle.xfs_base.specs.declared.segment.SegName.{SegName}
use Rattle.xfs_base.proofs.Booleans.{by_test}
use Rattle.segment_format.specs.declared.segment.Segment.{Segment}
use Rattle.group_map.specs.GroupMapState.{GroupMapState}
use Rattle.fragment_store.specs.ShelfState.{ShelfState, held_at}
use Rattle.fragment_store.specs.Calls.{on_fence}
use Rattle.log_flight.specs.Flights.{FlightState}
use Rattle.client_log.specs.declared.output.Out as log_outs
use Rattle.client_log.specs.declared.output.Out.TheVariants as log_out
use Rattle.client_log.specs.Transition as log
use Rattle.log_scan.specs.declared.input.In.{In as Input}
use Rattle.log_scan.specs.declared.input.In.TheVariants as scan_in
use Rattle.log_scan.specs.declared.output.Out as scan_outs
use Rattle.log_scan.specs.declared.output.Out.TheVariants as scan_out
use Rattle.log_scan.specs.ScanState.{ScanState, scan_start}
use Rattle.log_scan.specs.Transition as scan
use Rattle.log_protocol.specs.Tables.{In}
use Rattle.log_tie.specs.Setting.{Setting}
use Rattle.log_tie.specs.Shelves.{Deed, is_of_log, is_stored, shelf_after}
use Rattle.log_tie.specs.Shelves.Deed.{Stores, Fetches, Fences, Deletes, Fills, Loses}
use Rattle.log_law.specs.Net.{Packet, Net, Told, opening, log_packets, scan_packets, chain_in, first_write, after_log, fragment_told, answers, after_flight, after_told, after_scan, scans_on, listed}
use Rattle.log_law.specs.Net.Packet.{StoredSent, ListedSent, DeleteSent, MapSent, WelcomeSent}
use Rattle.log_law.specs.Net.Owner.{Opening}
use Rattle.log_law.specs.Events.{CameToScan, Happens}
use Rattle.log_law.specs.Events.Happens.{Acts, Writes, Opens, Crashes, Restarts, Renews, Serves, Bars, Lists, Hears, Raises, Publishes, Welcomes, Drops}
use Rattle.loss_law.proofs.Shelves.{ShelfOn, shelf_same, fence_on, deed_on}
use Rattle.loss_law.proofs.Growing.{AskedBy, AreNamed, AllSayNew, Fits, Base, BootOn, Grows, base_on}
use Rattle.loss_law.proofs.Asking.{AllAskedBy, With, FollowsWith, opening_take_so}

-- ---- what is sent

only : (g : Setting) (n o : Net) (outs : List log_outs.Out) → AllSayNew g n o (log_packets outs)
only g n o [] = tt
only g n o (log_out.Send f m ∷ outs) = (tt, only g n o outs)
only g n o (log_out.Settled end rows ∷ outs) = only g n o outs

log_says : (g : Setting) (n o : Net) (outs : List log_outs.Out) (more : List Packet) → AllSayNew g n o more → AllSayNew g n o (log_packets outs ++ more)
log_says g n o [] more all = all
log_says g n o (log_out.Send f m ∷ outs) more all = (tt, log_says g n o outs more all)
log_says g n o (log_out.Settled end rows ∷ outs) more all = log_says g n o outs more all

-- the questions of a scan, whoever the owner is then
scan_says : (g : Setting) (n o : Net) (inc highest : ℕ) (outs : List scan_outs.Out) → inc ≤ o.inc → ((ask : ℕ) → ask ≤ highest → AskedBy ask o.owner)
    → AllAskedBy highest outs → AllSayNew g n o (scan_packets inc outs)
scan_says g n o inc highest [] i by all = tt
scan_says g n o inc highest (scan_out.Hello ask ∷ outs) i by all = ((i, λ e. by ask all.0), scan_says g n o inc highest outs i by all.1)
scan_says g n o inc highest (scan_out.Fence server ∷ outs) i by all = (tt, scan_says g n o inc highest outs i by all)
scan_says g n o inc highest (scan_out.Fetch server name ask ∷ outs) i by all = scan_says g n o inc highest outs i by all
scan_says g n o inc highest (scan_out.Chain segments end prior ∷ outs) i by all = scan_says g n o inc highest outs i by all
scan_says g n o inc highest (scan_out.Lost name ∷ outs) i by all = scan_says g n o inc highest outs i by all

fragment_says : (g : Setting) (n o : Net) (found : Option Fragment) → AllSayNew g n o (fragment_told found)
fragment_says g n o None = tt
fragment_says g n o (Some f) = (tt, tt)

answers_say : (g : Setting) (n o : Net) (v : ℕ) (s : ShelfState) (deed : Deed) → AllSayNew g n o (answers g v s deed)
answers_say g n o v s (Stores f generation) =
    by_test (AllSayNew g n o) (is_of_log g f.meta.name && is_stored s f generation) (StoredSent f.meta.name f.meta.index generation ∷ []) [] (λ t. (tt, tt))
    (λ t. tt)
answers_say g n o v s (Fetches name) =
    by_test (AllSayNew g n o) (is_of_log g name) (fragment_told (held_at s.held name)) [] (λ t. fragment_says g n o (held_at s.held name)) (λ t. tt)
answers_say g n o v s (Fences inc) = (tt, tt)
answers_say g n o v s (Deletes name) = tt
answers_say g n o v s (Fills f) = tt
answers_say g n o v s Loses = tt

-- ---- events of the owner

-- all but the owner, its boot and what is sent stays
owners : (g : Setting) (n o : Net) (new : List Packet) → o.sent ≡ new ++ n.sent → AllSayNew g n o new → o.shelves ≡ n.shelves → o.low ≡ n.low
    → o.dropped ≡ n.dropped → BootOn n o → Grows g n o
owners g n o new sends fresh shelves low dropped boot = record {
  new = new;
  sends = sends;
  fresh = fresh;
  shelves = λ v. subst (λ ss. ShelfOn g n (n.shelves v) (ss v)) (sym shelves) (shelf_same g n (n.shelves v));
  low = (let a = low in omega arith);
  stays = λ name fact. subst (In name) (sym dropped) fact;
  drops = λ name fact. inl (subst (In name) dropped fact);
  boot = boot;
}

writes_grows : (g : Setting) (n : Net) (chain : List Segment) (d : log.Done) (flight : Option FlightState) → Grows g n (after_flight g n chain d flight)
writes_grows g n chain d None =
    owners g n (after_flight g n chain d None) (log_packets d.outs) refl (only g n (after_flight g n chain d None) d.outs) refl refl refl
    (inl (refl, λ ask old. tt))
writes_grows g n chain d (Some f) =
    owners g n (after_flight g n chain d (Some f)) (log_packets d.outs) refl (only g n (after_flight g n chain d (Some f)) d.outs) refl refl refl
    (inl (refl, λ ask old. tt))

app_assoc : (xs ys zs : List Packet) → xs ++ (ys ++ zs) ≡ (xs ++ ys) ++ zs
app_assoc [] ys zs = refl
app_assoc (x ∷ xs) ys zs = ap (λ l. x ∷ l) (app_assoc xs ys zs)

module _ (g : Setting) (n : Net) (s : ScanState) (d : scan.Done) (fact : n.owner ≡ Opening s) (up : s.opening.ask ≤ d.state.opening.ask)
    (asked : AllAskedBy d.state.opening.ask d.outs) where
  asked_on : (ask : ℕ) → AskedBy ask n.owner → AskedBy ask (Opening d.state)
  asked_on ask old = let a : ask ≤ s.opening.ask = subst (AskedBy ask) fact old in let b = up in omega arith

  goes_grows : Grows g n (scans_on n s d)
  goes_grows = owners g n (scans_on n s d) (scan_packets n.inc d.outs) refl
      (scan_says g n (scans_on n s d) n.inc d.state.opening.ask d.outs (omega arith) (λ ask le. le) asked) refl refl refl (inl (refl, asked_on))

  scan_grows : (chain : Option Told) (groups : Option GroupMapState) → Grows g n (after_told g n s d chain groups)
  scan_grows None groups = goes_grows
  scan_grows (Some t) None = goes_grows
  scan_grows (Some t) (Some m) = owners g n (after_told g n s d (Some t) (Some m)) (log_packets (first_write g n.inc t.end m).outs ++ scan_packets n.inc d.outs)
      (app_assoc (log_packets (first_write g n.inc t.end m).outs) (scan_packets n.inc d.outs) n.sent)
      (log_says g n (after_told g n s d (Some t) (Some m)) (first_write g n.inc t.end m).outs (scan_packets n.inc d.outs)
      (scan_says g n (after_told g n s d (Some t) (Some m)) n.inc d.state.opening.ask d.outs (omega arith) (λ ask le. tt) asked))
      refl refl refl (inl (refl, λ ask old. tt))

-- the scan after it
opens_to : (g : Setting) (n : Net) (s : ScanState) (d : scan.Done) (chain : Option Told) (groups : Option GroupMapState) (t : ScanState)
    → (after_told g n s d chain groups).owner ≡ Opening t → t ≡ d.state
opens_to g n s d None groups t e = cc
opens_to g n s d (Some told) None t e = cc
opens_to g n s d (Some told) (Some m) t e = absurd cc

pub opened_to : (g : Setting) (n : Net) (s : ScanState) (d : scan.Done) (t : ScanState) → (after_scan g n s d).owner ≡ Opening t → t ≡ d.state
opened_to g n s d t e = opens_to g n s d (chain_in d.outs) d.state.opening.groups t e

boot_told : (g : Setting) (n : Net) (s : ScanState) (d : scan.Done) (chain : Option Told) (groups : Option GroupMapState)
    → (after_told g n s d chain groups).inc ≡ n.inc
boot_told g n s d None groups = refl
boot_told g n s d (Some told) None = refl
boot_told g n s d (Some told) (Some m) = refl

pub same_boot : (g : Setting) (n : Net) (s : ScanState) (d : scan.Done) → (after_scan g n s d).inc ≡ n.inc
same_boot g n s d = boot_told g n s d (chain_in d.outs) d.state.opening.groups

-- what it keeps of questions, its log and its groups
record Taken (g : Setting) (s : ScanState) (d : scan.Done) : Type 0 where
  up : s.opening.ask ≤ d.state.opening.ask
  asked : AllAskedBy d.state.opening.ask d.outs
  fits : Fits g d.state.opening

taken_with : (g : Setting) (s : ScanState) (d : scan.Done) (groups : Option GroupMapState) → With s.opening groups d → Fits g s.opening → AreNamed g groups
    → Taken g s d
taken_with g s d groups w fits named =
    record { up = w.ask; asked = w.asked; fits = record { log = w.log ∙ fits.log; groups = subst (AreNamed g) (sym w.groups_are) named } }

taken : (g : Setting) (n : Net) (s : ScanState) (i : Input) → Base g n → Fits g s.opening → CameToScan g n i → Taken g s (scan.transition s i)
taken g n s i base fits came = by i came (opening_take_so s.opening s.stage i)
  where
    by : (j : Input) → CameToScan g n j → FollowsWith s.opening j (scan.transition s j) → Taken g s (scan.transition s j)
    by (scan_in.Welcome ask news m) c f = taken_with g s (scan.transition s (scan_in.Welcome ask news m)) f.0 f.2 fits (groups f.1)
      where
        groups : (f.0 ≡ s.opening.groups) ⊎ (f.0 ≡ Some m) → AreNamed g f.0
        groups (inl e) = subst (AreNamed g) (sym e) fits.groups
        groups (inr e) = subst (AreNamed g) (sym e) (base.packets (MapSent m) c.1)
    by (scan_in.Fenced server generation held) c f =
        taken_with g s (scan.transition s (scan_in.Fenced server generation held)) s.opening.groups f fits fits.groups
    by (scan_in.Got ask server generation fragment) c f =
        taken_with g s (scan.transition s (scan_in.Got ask server generation fragment)) s.opening.groups f fits fits.groups
    by (scan_in.Missing ask server generation) c f =
        taken_with g s (scan.transition s (scan_in.Missing ask server generation)) s.opening.groups f fits fits.groups
    by (scan_in.Maps m) c f = taken_with g s (scan.transition s (scan_in.Maps m)) (Some m) f fits (base.packets (MapSent m) c)
    by scan_in.Tick c f = taken_with g s (scan.transition s scan_in.Tick) s.opening.groups f fits fits.groups

-- ---- each event

pub grows : (g : Setting) (n o : Net) → Base g n → Happens g n o → Grows g n o
grows g n o base (Acts s i fact came texts) =
    owners g n (after_log g n (log.transition s i)) (log_packets (log.transition s i).outs) refl
    (only g n (after_log g n (log.transition s i)) (log.transition s i).outs) refl refl refl (inl (refl, λ ask old. tt))
grows g n o base (Writes chain s i fact came texts) = writes_grows g n chain (log.transition s i) (log.transition s i).state.flight
grows g n o base (Opens s i fact came can) =
    let t = taken g n s i base (base.opening s fact) came in
    scan_grows g n s (scan.transition s i) fact t.up t.asked (chain_in (scan.transition s i).outs) (scan.transition s i).state.opening.groups
grows g n o base Crashes = owners g n _ [] refl tt refl refl refl (inl (refl, λ ask old. tt))
grows g n o base (Restarts fact) = owners g n _ [] refl tt refl refl refl (inr refl)
grows g n o base (Renews m high doubts fact came) = owners g n _ [] refl tt refl refl refl (inr refl)
grows g n o base (Serves v deed some came) = record {
  new = answers g v (n.shelves v) deed;
  sends = refl;
  fresh = answers_say g n o v (n.shelves v) deed;
  shelves = λ u. by_test (ShelfOn g n (n.shelves u)) (u == v) (shelf_after g (n.shelves v) deed) (n.shelves u)
      (λ t. subst (λ z. ShelfOn g n (n.shelves z) (shelf_after g (n.shelves v) deed)) (sym (eqb-true u v t)) (deed_on g n v deed came))
      (λ t. shelf_same g n (n.shelves u));
  low = omega arith;
  stays = λ name fact. fact;
  drops = λ name fact. inl fact;
  boot = inl (refl, λ ask old. old);
}
grows g n o base (Bars v l pass) = record {
  new = [];
  sends = refl;
  fresh = tt;
  shelves = λ u. by_test (ShelfOn g n (n.shelves u)) (u == v) (on_fence (n.shelves v) l pass) (n.shelves u)
      (λ t. subst (λ z. ShelfOn g n (n.shelves z) (on_fence (n.shelves v) l pass)) (sym (eqb-true u v t)) (fence_on g n (n.shelves v) l pass))
      (λ t. shelf_same g n (n.shelves u));
  low = omega arith;
  stays = λ name fact. fact;
  drops = λ name fact. inl fact;
  boot = inl (refl, λ ask old. old);
}
grows g n o base (Lists v) = owners g n _ (ListedSent (listed g (n.shelves v)) ∷ []) refl (tt, tt) refl refl refl (inl (refl, λ ask old. old))
grows g n o base (Hears v generation up reached) = owners g n _ [] refl tt refl refl refl (inl (refl, λ ask old. old))
grows g n o base (Raises low name up fact below) =
    record {
      new = [];
      sends = refl;
      fresh = tt;
      shelves = λ v. shelf_same g n (n.shelves v);
      low = up;
      stays = λ z in_. in_;
      drops = λ z in_. inl in_;
      boot = inl (refl, λ ask old. old);
    }
grows g n o base (Publishes m whole) = owners g n _ (MapSent m ∷ []) refl (whole.named, tt) refl refl refl (inl (refl, λ ask old. old))
grows g n o base (Welcomes inc ask news m fact low whole) =
    owners g n _ (WelcomeSent inc ask news m ∷ []) refl ((fact, low), tt) refl refl refl (inl (refl, λ ask old. old))
grows g n o base (Drops lists meta fact among below) = record {
  new = DeleteSent meta.name ∷ [];
  sends = refl;
  fresh = (inl refl, tt);
  shelves = λ v. shelf_same g n (n.shelves v);
  low = omega arith;
  stays = λ name in_. inr in_;
  drops = λ name in_. by name in_;
  boot = inl (refl, λ ask old. old);
}
  where
    by : (name : SegName) → (name ≡ meta.name) ⊎ In name n.dropped → In name n.dropped ⊎ (name.seq < n.low)
    by name (inl e) = inr (subst (λ (z : SegName). z.seq < n.low) (sym e) below)
    by name (inr in_) = inl in_

pub writes_none : (g : Setting) (n : Net) (chain : List Segment) (d : log.Done) (flight : Option FlightState) (s : ScanState)
    → (after_flight g n chain d flight).owner ≡ Opening s → ⊥
writes_none g n chain d None s e = cc
writes_none g n chain d (Some f) s e = cc

-- an opening after it is of the log
pub fits_then : (g : Setting) (n o : Net) → Base g n → Happens g n o → (t : ScanState) → o.owner ≡ Opening t → Fits g t.opening
fits_then g n o base (Acts s i fact came texts) t e = absurd cc
fits_then g n o base (Writes chain s i fact came texts) t e = absurd (writes_none g n chain (log.transition s i) (log.transition s i).state.flight t e)
fits_then g n o base (Opens s i fact came can) t e =
    subst (λ (z : ScanState). Fits g z.opening) (sym (opened_to g n s (scan.transition s i) t e)) (taken g n s i base (base.opening s fact) came).fits
fits_then g n o base Crashes t e = absurd cc
fits_then g n o base (Restarts fact) t e = subst (λ (z : ScanState). Fits g z.opening) (same e) (record { log = refl; groups = λ id group none. absurd cc })
  where
    same : Opening (scan_start g.log (suc n.inc)) ≡ Opening t → scan_start g.log (suc n.inc) ≡ t
    same e = cc
fits_then g n o base (Renews m high doubts fact came) t e = absurd cc
fits_then g n o base (Serves v deed some came) t e = base.opening t e
fits_then g n o base (Bars v l pass) t e = base.opening t e
fits_then g n o base (Lists v) t e = base.opening t e
fits_then g n o base (Hears v generation up reached) t e = base.opening t e
fits_then g n o base (Raises low name up fact below) t e = base.opening t e
fits_then g n o base (Publishes m whole) t e = base.opening t e
fits_then g n o base (Welcomes inc ask news m fact low whole) t e = base.opening t e
fits_then g n o base (Drops lists meta fact among below) t e = base.opening t e

pub base_then : (g : Setting) (n o : Net) → Base g n → Happens g n o → Base g o
base_then g n o base e = base_on g n o (grows g n o base e) base (fits_then g n o base e)

-- at first nothing is known, and nothing needs to be
pub first_base : (g : Setting) (m : GroupMapState) → Base g (opening g m)
first_base g m = record { packets = λ p fact. absurd fact; below = λ name fact. absurd fact; opening = λ s fact. absurd cc }
