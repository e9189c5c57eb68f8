-- What a log does, where what it looked at is known.
use Rattle.std.proofs.Common.{◌≡◌, ℕ, Bool, true, false, cond, List, Option, Some, None, refl, sym, ap, ◌∙◌, true≢false}
use Rattle.std.specs.Prelude.{is_some}
use Rattle.xfs_base.specs.declared.segment.SegName.{SegName}
use Rattle.xfs_base.specs.Steps.{still}
use Rattle.group_map.specs.GroupMapState.{GroupMapState}
use Rattle.log_flight.specs.declared.flight.Fate.{Fate}
use Rattle.log_flight.specs.declared.flight.Fate.TheVariants.{Restripe, Settle, Wait}
use Rattle.log_flight.specs.Fate.{fate_of}
use Rattle.log_flight.specs.Flights.{FlightState, is_of, flight_note}
use Rattle.client_log.specs.LogState.{LogState}
use Rattle.client_log.specs.Looks.{log_hear, log_look, log_note, flight_can_follow, log_follow}
use Rattle.client_log.specs.Transition.{Done, log_launch, restriped, settled, can_follow, followed, looked_at, on_acked, on_maps}

-- an input comes to this step, and no number is at its end that the fate raises
pub record Comes (done : Done) (s : LogState) (fate : Fate) : Type 0 where
  pub can : flight_can_follow s fate ≡ true
  pub goes : done ≡ log_follow s fate

-- what follows a fate doesn't depend on what flies in the log
regardless : (s : LogState) (o : Option FlightState) (f : FlightState) (fate : Fate) → followed (record s { flight = o }) f fate ≡ followed s f fate
unfolding restriped log_launch settled
regardless s o f Restripe = refl
regardless s o f Settle = refl
regardless s o f Wait = refl

-- whether it may follow, neither, nor on groups, nor on what is noted
can_regardless : (s : LogState) (o : Option FlightState) (groups : GroupMapState) (f : FlightState) (noted : List Bool) (fate : Fate)
    → can_follow (record s { flight = o; groups = groups }) (record f { noted = noted }) fate ≡ can_follow s f fate
can_regardless s o groups f noted Restripe = refl
can_regardless s o groups f noted Settle = refl
can_regardless s o groups f noted Wait = refl

no_fate : {Z : Type 0} (x : Fate) → None ≡ Some x → Z
no_fate x e = absurd (true≢false (sym (ap is_some e)))

is_fate : (x y : Fate) → Some x ≡ Some y → x ≡ y
is_fate x y e = ap (λ o. elim o [ None ↦ x | Some z ↦ z ]) e

-- where the log stays as it is
stays : (b c : Bool) (x : Fate) (goes still : Done) → cond b (cond c (Some x) None) None ≡ None → cond b (cond c goes still) still ≡ still
stays true true x goes still e = no_fate x (sym e)
stays true false x goes still e = refl
stays false c x goes still e = refl

-- where it goes on
record Goes (b c : Bool) (x fate : Fate) : Type 0 where
  of : b ≡ true
  can : c ≡ true
  decided : x ≡ fate

goes : (b c : Bool) (x fate : Fate) → cond b (cond c (Some x) None) None ≡ Some fate → Goes b c x fate
goes true true x fate e = record { of = refl; can = refl; decided = is_fate x fate e }
goes true false x fate e = no_fate fate e
goes false c x fate e = no_fate fate e

module _ (s : LogState) (name : SegName) (index generation : ℕ) where
  acked_stays_at : (o : Option FlightState) → log_hear (record s { flight = o }) name index generation ≡ None
      → on_acked (record s { flight = o }) name index generation ≡ still (record s { flight = o })
  unfolding log_hear on_acked looked_at
  acked_stays_at None e = refl
  acked_stays_at (Some f) e =
      let t : LogState = record s { flight = Some f } in
      let x : Fate = fate_of s.groups (flight_note f index) in
      stays (is_of f name index generation) (can_follow t f x) x (followed t (flight_note f index) x) (still t) e

  acked_goes_at : (o : Option FlightState) (fate : Fate) → log_hear (record s { flight = o }) name index generation ≡ Some fate
      → Comes (on_acked (record s { flight = o }) name index generation) (log_note (record s { flight = o }) index) fate
  unfolding log_hear on_acked looked_at log_follow
  acked_goes_at None fate e = no_fate fate e
  acked_goes_at (Some f) fate e =
      let t : LogState = record s { flight = Some f } in
      let g : FlightState = flight_note f index in
      let x : Fate = fate_of s.groups g in
      let k : Goes (is_of f name index generation) (can_follow t f x) x fate = goes (is_of f name index generation) (can_follow t f x) x fate e in
      record {
        can = can_regardless t (Some g) s.groups f g.noted fate ∙ ap (can_follow t f) (sym k.decided) ∙ k.can;
        goes = ap (λ b. cond b (cond (can_follow t g x) (followed t g x) (still t)) (still t)) k.of
            ∙ ap (λ b. cond b (followed t g x) (still t)) (can_regardless t (Some f) s.groups f g.noted x ∙ k.can)
            ∙ ap (followed t g) k.decided
            ∙ sym (regardless t (Some g) g fate);
      }

  pub acked_stays : log_hear s name index generation ≡ None → on_acked s name index generation ≡ still s
  acked_stays = acked_stays_at s.flight

  pub acked_goes : (fate : Fate) → log_hear s name index generation ≡ Some fate → Comes (on_acked s name index generation) (log_note s index) fate
  acked_goes = acked_goes_at s.flight

module _ (s : LogState) (groups : GroupMapState) where
  maps_stays_at : (o : Option FlightState) → log_look (record s { flight = o }) groups ≡ None
      → on_maps (record s { flight = o }) groups ≡ still (record s { flight = o })
  unfolding log_look on_maps looked_at
  maps_stays_at None e = no_fate Wait (sym e)
  maps_stays_at (Some f) e =
      let t : LogState = record s { flight = Some f } in
      let u : LogState = record t { groups = groups } in
      let x : Fate = fate_of groups f in
      ap (λ b. cond b (followed u f x) (still t)) (can_regardless t (Some f) groups f f.noted x)
      ∙ stays true (can_follow t f x) x (followed u f x) (still t) e

  maps_goes_at : (o : Option FlightState) (fate : Fate) → log_look (record s { flight = o }) groups ≡ Some fate
      → Comes (on_maps (record s { flight = o }) groups) (record s { flight = o; groups = groups }) fate
  unfolding log_look on_maps looked_at log_follow
  maps_goes_at None fate e = record { can = refl; goes = refl }
  maps_goes_at (Some f) fate e =
      let t : LogState = record s { flight = Some f } in
      let u : LogState = record t { groups = groups } in
      let x : Fate = fate_of groups f in
      let k : Goes true (can_follow t f x) x fate = goes true (can_follow t f x) x fate e in
      record {
        can = can_regardless t (Some f) groups f f.noted fate ∙ ap (can_follow t f) (sym k.decided) ∙ k.can;
        goes = ap (λ b. cond b (followed u f x) (still t)) (can_regardless t (Some f) groups f f.noted x ∙ k.can) ∙ ap (followed u f) k.decided;
      }

  pub maps_stays : log_look s groups ≡ None → on_maps s groups ≡ still s
  maps_stays = maps_stays_at s.flight

  pub maps_goes : (fate : Fate) → log_look s groups ≡ Some fate → Comes (on_maps s groups) (record s { groups = groups }) fate
  maps_goes = maps_goes_at s.flight
