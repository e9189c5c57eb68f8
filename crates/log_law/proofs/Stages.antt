-- Stages of a run in which the owner falls with a segment in flight: what happens next makes of one stage the next.
use Rattle.std.proofs.Common.{◌≡◌, ℕ, suc, ◌<◌, Bool, false, cond, ◌==◌, List, [], ◌∷◌, ◌++◌, Option, Some, None, refl, sym, ap, subst, ◌∙◌, inl, inr}
use Rattle.std.specs.Prelude.{IfSome}
use Rattle.xfs_base.specs.declared.segment.LogId.{LogId}
use Rattle.xfs_base.specs.declared.segment.SegName.{SegName}
use Rattle.segment_format.specs.declared.segment.Segment.{Segment}
use Rattle.group_map.specs.declared.group.Group.{Group}
use Rattle.fragment_store.specs.ShelfState.{ShelfState}
use Rattle.log_flight.specs.Flights as flights
use Rattle.log_flight.specs.Flights.{FlightState, none_noted}
use Rattle.client_log.specs.declared.input.In.{In as Input}
use Rattle.client_log.specs.declared.input.In.TheVariants as log_in
use Rattle.client_log.specs.LogState.{LogState}
use Rattle.client_log.specs.Transition as log
use Rattle.log_scan.specs.declared.input.In as scan_ins
use Rattle.log_scan.specs.ScanState.{ScanState, scan_start}
use Rattle.log_scan.specs.Transition as scan
use Rattle.log_protocol.specs.Tables.{In, put}
use Rattle.log_tie.specs.Setting.{Setting, IsStripe}
use Rattle.log_tie.specs.Scans.{WholeMap}
use Rattle.log_tie.specs.Shelves.{Deed, shelf_after}
use Rattle.log_tie.proofs.Exist.{setting, the_map, whole_map}
use Rattle.log_law.specs.Net.{Packet, Owner, Net, opening, answers, chain_in, scan_packets, scans_on, after_told, after_scan, after_flight, after_writing}
use Rattle.log_law.specs.Net.Packet.{MapSent, HelloSent, WelcomeSent, StoredSent}
use Rattle.log_law.specs.Net.Owner.{Down, Opening, Writing}
use Rattle.log_law.specs.Events.{IsWritten, CameToServer, CameToScan, CameToWriter, CanStart, StartsWith, WritesText, Happens, Runs}
use Rattle.log_law.specs.Events.Happens.{Writes, Opens, Crashes, Restarts, Serves, Publishes, Welcomes}
use Rattle.log_law.specs.Events.Runs.{On}
use Rattle.log_law.specs.Restarts.{IsSureRun, last_flight, flight_in}
use Rattle.log_law.proofs.Reopening.{news}
use Rattle.log_law.proofs.Running.{flight}

-- ---- the setting, for another log, with or without doubts

abbrev pub variant : LogId → Bool → Setting
variant l doubts = record setting { log = l; doubts = doubts }

pub variant_map : (l : LogId) (doubts : Bool) → WholeMap (variant l doubts) (λ v. 1) the_map
variant_map l doubts =
    record {
      seen = record { whole = λ a b. stripe (flights.group_for the_map a b) (whole_map.seen.whole a b); past = whole_map.seen.past };
      size = refl;
      named = whole_map.named;
      some = whole_map.some;
      cut = whole_map.cut;
    }
  where
    stripe : (group : Group) → IsStripe setting the_map group → IsStripe (variant l doubts) the_map group
    stripe group s = record { some = s.some; exist = s.exist; differ = s.differ; present = s.present; named = s.named }

-- no restart is doubtful
abbrev pub calm : Setting
calm = variant setting.log false

-- ---- stages

-- these were sent
abbrev pub Sees : List Packet → Net → Type 0
Sees told n = (p : Packet) → In p told → In p n.sent

abbrev pub flown : Option FlightState
flown = Some (flight none_noted)

-- A moment of the run, by the owner's incarnation, the owner, what was sent, these among others, and the shelves; nothing is filed yet.
pub record Stage (inc : ℕ) (owner : Owner) (told : List Packet) (shelf : ℕ → ShelfState) : Type 0 where
  pub net : Net
  pub run : Runs calm (opening calm the_map) net
  pub sure : IsSureRun run
  pub boot : net.inc ≡ inc
  pub low : net.low ≡ 1
  pub registry : net.registry ≡ (λ v. 1)
  pub is_owner : net.owner ≡ owner
  pub sent : Sees told net
  pub shelves : (v : ℕ) → net.shelves v ≡ shelf v
  pub filed : net.filed ≡ []
  pub last : last_flight run ≡ flown
  pub stays : flight_in owner flown ≡ flown

both : (xs ys zs : List Packet) → ((p : Packet) → In p ys → In p zs) → (p : Packet) → In p (xs ++ ys) → In p (xs ++ zs)
both [] ys zs more p fact = more p fact
both (x ∷ xs) ys zs more p (inl e) = inl e
both (x ∷ xs) ys zs more p (inr fact) = inr (both xs ys zs more p fact)

module _ {inc : ℕ} {owner : Owner} {told : List Packet} {shelf : ℕ → ShelfState} (s : Stage inc owner told shelf) where
  pub calm_on : (o : Net) (h : Happens calm s.net o) → IsSureRun (On s.run h)
  calm_on o h = (s.sure, λ ends d. absurd (subst (In d.segment.name) s.filed d.filed))

  same_last : flight_in s.net.owner (last_flight s.run) ≡ flown
  same_last = ap (λ o. flight_in o (last_flight s.run)) s.is_owner ∙ (ap (flight_in owner) s.last ∙ s.stays)

  pub forget : (less : List Packet) → ((p : Packet) → In p less → In p told) → Stage inc owner less shelf
  forget less sub = record {
    net = s.net;
    run = s.run;
    sure = s.sure;
    boot = s.boot;
    low = s.low;
    registry = s.registry;
    is_owner = s.is_owner;
    sent = λ p fact. s.sent p (sub p fact);
    shelves = s.shelves;
    filed = s.filed;
    last = s.last;
    stays = s.stays;
  }

  -- something is done to a shelf
  pub serves : (v : ℕ) (deed : Deed) (new : List Packet) → 0 < v → (Sees told s.net → CameToServer calm s.net v deed) → answers calm v (shelf v) deed ≡ new
      → Stage inc owner (new ++ told) (put shelf v (shelf_after calm (shelf v) deed))
  serves v deed new some came e = record {
    net = record s.net { shelves = put s.net.shelves v (shelf_after calm (s.net.shelves v) deed); sent = answers calm v (s.net.shelves v) deed ++ s.net.sent };
    run = On s.run (Serves v deed some (came s.sent));
    sure = calm_on _ (Serves v deed some (came s.sent));
    boot = s.boot;
    low = s.low;
    registry = s.registry;
    is_owner = s.is_owner;
    sent = λ p fact. subst (λ ps. In p (ps ++ s.net.sent)) (sym (ap (λ z. answers calm v z deed) (s.shelves v) ∙ e)) (both new told s.net.sent s.sent p fact);
    shelves = λ u i. cond (u == v) (shelf_after calm (s.shelves v i) deed) (s.shelves u i);
    filed = s.filed;
    last = same_last;
    stays = s.stays;
  }

  -- the owner falls
  pub crashes : Stage inc Down told shelf
  crashes = record {
    net = record s.net { owner = Down; feed = [] };
    run = On s.run Crashes;
    sure = calm_on _ Crashes;
    boot = s.boot;
    low = s.low;
    registry = s.registry;
    is_owner = refl;
    sent = s.sent;
    shelves = s.shelves;
    filed = s.filed;
    last = s.last;
    stays = refl;
  }

  -- and restarts
  pub restarts : owner ≡ Down → Stage (suc inc) (Opening (scan_start calm.log (suc inc))) told shelf
  restarts down = record {
    net = record s.net { inc = suc s.net.inc; owner = Opening (scan_start calm.log (suc s.net.inc)) };
    run = On s.run (Restarts (s.is_owner ∙ down));
    sure = calm_on _ (Restarts (s.is_owner ∙ down));
    boot = ap suc s.boot;
    low = s.low;
    registry = s.registry;
    is_owner = ap (λ c. Opening (scan_start calm.log (suc c))) s.boot;
    sent = s.sent;
    shelves = s.shelves;
    filed = s.filed;
    last = s.last;
    stays = refl;
  }

  whole : WholeMap calm s.net.registry the_map
  whole = subst (λ r. WholeMap calm r the_map) (sym s.registry) (variant_map setting.log false)

  -- the registry sends its map
  pub publishes : Stage inc owner (MapSent the_map ∷ told) shelf
  publishes = record {
    net = record s.net { sent = MapSent the_map ∷ s.net.sent };
    run = On s.run (Publishes the_map whole);
    sure = calm_on _ (Publishes the_map whole);
    boot = s.boot;
    low = s.low;
    registry = s.registry;
    is_owner = s.is_owner;
    sent = both (MapSent the_map ∷ []) told s.net.sent s.sent;
    shelves = s.shelves;
    filed = s.filed;
    last = same_last;
    stays = s.stays;
  }

  -- and answers a question
  pub welcomes : (ask : ℕ) → In (HelloSent inc ask) told → Stage inc owner (WelcomeSent inc ask news the_map ∷ told) shelf
  welcomes ask asked = record {
    net = record s.net { sent = WelcomeSent inc ask news the_map ∷ s.net.sent };
    run = On s.run (Welcomes inc ask news the_map (s.sent (HelloSent inc ask) asked) (sym s.low) whole);
    sure = calm_on _ (Welcomes inc ask news the_map (s.sent (HelloSent inc ask) asked) (sym s.low) whole);
    boot = s.boot;
    low = s.low;
    registry = s.registry;
    is_owner = s.is_owner;
    sent = both (WelcomeSent inc ask news the_map ∷ []) told s.net.sent s.sent;
    shelves = s.shelves;
    filed = s.filed;
    last = same_last;
    stays = s.stays;
  }

  -- the opening goes on
  module _ (i : scan_ins.In) (st : ScanState) (d : scan.Done) (fact : owner ≡ Opening st) (e : scan.transition st i ≡ d) (none : chain_in d.outs ≡ None)
      (came : CameToScan calm s.net i) where
    can : CanStart calm s.net.inc (scan.transition st i)
    can = subst (λ o. IfSome o (StartsWith calm s.net.inc (scan.transition st i))) (sym (ap (λ (x : scan.Done). chain_in x.outs) e ∙ none)) tt

    now : after_scan calm s.net st (scan.transition st i) ≡ scans_on s.net st d
    now = ap (after_scan calm s.net st) e ∙ ap (λ t. after_told calm s.net st d t d.state.opening.groups) none

    pub scans : Stage inc (Opening d.state) (scan_packets inc d.outs ++ told) shelf
    scans = record {
      net = after_scan calm s.net st (scan.transition st i);
      run = On s.run (Opens st i (s.is_owner ∙ fact) came can);
      sure = calm_on _ (Opens st i (s.is_owner ∙ fact) came can);
      boot = ap (λ (n : Net). n.inc) now ∙ s.boot;
      low = ap (λ (n : Net). n.low) now ∙ s.low;
      registry = ap (λ (n : Net). n.registry) now ∙ s.registry;
      is_owner = ap (λ (n : Net). n.owner) now;
      sent = λ p fact. subst (In p) (sym (ap (λ (n : Net). n.sent) now ∙ ap (λ c. scan_packets c d.outs ++ s.net.sent) s.boot))
          (both (scan_packets inc d.outs) told s.net.sent s.sent p fact);
      shelves = λ v. ap (λ (n : Net). n.shelves v) now ∙ s.shelves v;
      filed = ap (λ (n : Net). n.filed) now ∙ s.filed;
      last = ap (λ (n : Net). flight_in n.owner (last_flight s.run)) now ∙ s.last;
      stays = refl;
    }

  -- the opening segment's Stored is noted
  module _ (i : Input) (chain : List Segment) (l more : LogState) (f : FlightState) (fact : owner ≡ Writing chain l) (flies : more.flight ≡ Some f)
      (e : log.transition l i ≡ record { state = more; outs = [] })
      (came : (name : SegName) × (index : ℕ) × (generation : ℕ) × (i ≡ log_in.Acked name index generation) × In (StoredSent name index generation) told)
      (text : IsWritten f.segment) where
    happens : Happens calm s.net (after_writing calm s.net chain (log.transition l i))
    happens = Writes chain l i (s.is_owner ∙ fact) (subst (CameToWriter s.net) (sym came.3) (s.sent _ came.4))
        (subst WritesText (sym e) (subst (λ o. IfSome o (λ (z : FlightState). IsWritten z.segment)) (sym flies) text))

    noted : after_writing calm s.net chain (log.transition l i) ≡ after_flight calm s.net chain (record { state = more; outs = [] }) (Some f)
    noted = ap (after_writing calm s.net chain) e ∙ ap (after_flight calm s.net chain (record { state = more; outs = [] })) flies

    pub notes : Stage inc (Writing chain more) told shelf
    notes = record {
      net = after_writing calm s.net chain (log.transition l i);
      run = On s.run happens;
      sure = calm_on _ happens;
      boot = ap (λ (n : Net). n.inc) noted ∙ s.boot;
      low = ap (λ (n : Net). n.low) noted ∙ s.low;
      registry = ap (λ (n : Net). n.registry) noted ∙ s.registry;
      is_owner = ap (λ (n : Net). n.owner) noted;
      sent = λ p fact. subst (In p) (sym (ap (λ (n : Net). n.sent) noted)) (s.sent p fact);
      shelves = λ v. ap (λ (n : Net). n.shelves v) noted ∙ s.shelves v;
      filed = ap (λ (n : Net). n.filed) noted ∙ s.filed;
      last = ap (λ (n : Net). flight_in n.owner (last_flight s.run)) noted ∙ s.last;
      stays = refl;
    }
