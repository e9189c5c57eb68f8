-- What the owner holds of its log was in flight: it is booked; and a booked name is one of the log, as is what is listed.
use Rattle.std.proofs.Common.{◌≡◌, ℕ, List, [], ◌∷◌, Option, Some, None, inl, inr, sym, subst, ◌∙◌, ap}
use Rattle.std.specs.Prelude.{IfSome}
use Rattle.log_flight.specs.Flights.{FlightState}
use Rattle.log_protocol.specs.State.{State}
use Rattle.log_protocol.specs.Tables.{In}
use Rattle.log_tie.specs.Openings.{Chained}
use Rattle.log_tie.specs.Seen.{FlightShown, Flying}
use Rattle.log_tie.specs.Setting.{Setting}
use Rattle.segment_format.specs.declared.segment.Segment.{Segment}
use Rattle.xfs_base.specs.declared.segment.SegName.{SegName}
use Rattle.log_law.specs.Below.{Below}
use Rattle.log_law.specs.Held.{OwnerFlew, WhatFlewIsOfTheLog, WhatIsHeldFlew, WhatIsListedFlew}
use Rattle.log_law.specs.Net.{Net, Owner}
use Rattle.log_law.specs.Net.Owner.{Down, Opening, Writing, Serving}
use Rattle.log_law.specs.Net.Packet.{ListedSent}
use Rattle.log_tie.specs.Scans.{AllMetas}
use Rattle.xfs_base.specs.declared.fragment.FragMeta.{FragMeta}
use Rattle.log_law.proofs.Calmer.{doubtful}
use Rattle.log_law.proofs.Views.{Flown, OwnerShown, View}
use Rattle.log_law.proofs.Wholeness.{seen}

module _ (g : Setting) (w : State) (book : ℕ → Segment) (flown : List Segment) (f : Flown w book flown) where
  chain_flew : (highest x : ℕ) (chain : List Segment) → Chained g w book highest x chain → (t : Segment) → In t chain → In t flown
  chain_flew highest x [] h t fact = absurd fact
  chain_flew highest x (s ∷ chain) h t (inl e) = subst (λ z. In z flown) (sym (e ∙ h.2)) (f.all h.0 h.1)
  chain_flew highest x (s ∷ chain) h t (inr fact) = chain_flew highest h.0 chain h.5 t fact

  one_flew : (flight : FlightState) (inc seq x : ℕ) (noted : ℕ → ℕ) → Flying g book flight inc seq (w.booked x) x noted → In flight.segment flown
  one_flew flight inc seq x noted h = subst (λ z. In z flown) (sym h.segment) (f.all x h.is_booked)

  flight_flew : (o : Option FlightState) (inc seq x : ℕ) (noted : ℕ → ℕ) → FlightShown g book o inc seq (w.booked x) x noted
      → IfSome o (λ (flight : FlightState). In flight.segment flown)
  flight_flew None inc seq x noted h = tt
  flight_flew (Some flight) inc seq x noted h = one_flew flight inc seq x noted h

owner_flew : (g : Setting) (n : Net) (h : View g n) (o : Owner) → OwnerShown g h.w h.book h.hellos o → OwnerFlew n.flown o
owner_flew g n h Down shown = tt
owner_flew g n h (Opening s) shown = tt
owner_flew g n h (Writing chain s) shown =
    let w = shown.0 in record {
      read = chain_flew g h.w h.book n.flown h.flown s.end.seq w.read.next chain w.read.chained;
      flight = subst (λ (o : Option FlightState). IfSome o (λ (f : FlightState). In f.segment n.flown)) (sym w.is_flight)
          (one_flew g h.w h.book n.flown h.flown w.flight s.inc s.end.seq h.w.flight h.w.noted w.flying);
    }
owner_flew g n h (Serving s) shown = flight_flew g h.w h.book n.flown h.flown s.flight s.inc s.end.seq h.w.flight h.w.noted shown.0.flight

pub what_is_held_flew : Below → WhatIsHeldFlew
what_is_held_flew k g n m = (let h : View (doubtful g) n = seen k g n m in owner_flew (doubtful g) n h n.owner h.owner)

pub what_flew_is_of_the_log : Below → WhatFlewIsOfTheLog
what_flew_is_of_the_log k g n m s among =
    let h : View (doubtful g) n = seen k g n m in
    let x = h.flown.booked s among in
    ap (λ (z : Segment). z.name.log) x.2 ∙ ap (λ (name : SegName). name.log) (h.paged x.0 x.1).named

module _ (w : State) (book : ℕ → Segment) (flown : List Segment) (f : Flown w book flown) where
  listed_flew : (ms : List FragMeta) → AllMetas book w.booked ms → (meta : FragMeta) → In meta ms
      → (s : Segment) × In s flown × (meta.name ≡ s.name) × (meta.group ≡ s.group)
  listed_flew [] all meta fact = absurd fact
  listed_flew (m ∷ ms) all meta (inl e) =
      (let x = all.0 in
      (book x.0, f.all x.0 x.2, ap (λ (m : FragMeta). m.name) (e ∙ x.3), ap (λ (m : FragMeta). m.group) (e ∙ x.3)))
  listed_flew (m ∷ ms) all meta (inr fact) = listed_flew ms all.1 meta fact

pub what_is_listed_flew : Below → WhatIsListedFlew
what_is_listed_flew k g n m lists sent meta among =
    (let h : View (doubtful g) n = seen k g n m in listed_flew h.w h.book n.flown h.flown lists (h.sent (ListedSent lists) sent) meta among)
