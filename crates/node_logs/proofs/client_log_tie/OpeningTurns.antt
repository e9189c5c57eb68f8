-- What an input makes of a log whose opening segment is in flight while nothing waits: that flies on, or it settles and nothing is in flight.
use Rattle.std.proofs.Common.{◌≡◌, ◌⊎◌, ℕ, ◌+◌, true, false, cond, List, [], ◌∷◌, ◌++◌, Option, Some, None, refl, sym, ap, subst, inl, inr, nat_le}
use Rattle.std.specs.Prelude.{◌&&◌, length}
use Rattle.xfs_base.specs.declared.block.BlockId.{BlockId}
use Rattle.xfs_base.specs.declared.entry.Entry.{Entry}
use Rattle.xfs_base.specs.declared.segment.End.{End}
use Rattle.xfs_base.specs.declared.segment.Prior.{Prior}
use Rattle.xfs_base.specs.declared.segment.SegName.{SegName}
use Rattle.xfs_base.specs.Limits.{segment_blocks}
use Rattle.xfs_base.specs.Steps.{still, saying}
use Rattle.xfs_base.proofs.Booleans.{by_test}
use Rattle.segment_format.specs.declared.segment.Item.{Item}
use Rattle.segment_format.specs.Rows.{rows_of}
use Rattle.group_map.specs.declared.group.Member.{Member}
use Rattle.group_map.specs.GroupMapState.{GroupMapState}
use Rattle.log_flight.specs.declared.flight.Fate.{Fate}
use Rattle.log_flight.specs.declared.flight.Fate.TheVariants.{Restripe, Settle, Wait}
use Rattle.log_flight.specs.Fate.{fate_of}
use Rattle.log_flight.specs.Flights.{FlightState, is_noted, group_for, flown, is_of, flight_note}
use Rattle.log_flight.specs.Fragments.{flight_fragment}
use Rattle.client_log.specs.declared.output.Out.TheVariants.{Send, Settled}
use Rattle.client_log.specs.LogState.{LogState}
use Rattle.client_log.specs.Transition.{Done, sends, sending_send, log_launch, next_name, prior_from, log_write, has_next, is_idle, log_seal, log_go_on, on_parts, next_attempt, restriped, end_of, landed, settled, can_follow, followed, looked_at, on_acked, on_maps, on_tick}
use Rattle.log_owner.specs.Opening.{send_one, written}

-- it flies on, and no end is told
pub record FliesOn (end : End) (d : Done) : Type 0 where
  pub quiet : (written d.outs).state ≡ None
  pub clear : d.state.dirty ≡ []
  pub flight : FlightState
  pub flies : d.state.flight ≡ Some flight
  pub empty : flight.segment.items ≡ []
  pub same : d.state.end ≡ end

-- it is settled, and its end is told
pub record Lands (d : Done) : Type 0 where
  pub end : End
  pub told : (written d.outs).state ≡ Some end
  pub rows : List (BlockId × Entry)
  pub outs : d.outs ≡ Settled end rows ∷ []
  pub landed : d.state.flight ≡ None

abbrev pub Turns : End → Done → Type 0
Turns end d = FliesOn end d ⊎ Lands d

-- sending tells no end
sends_quiet : (f : FlightState) (ms : List Member) (place : ℕ) → (written (sends f ms place)).state ≡ None
unfolding send_one
sends_quiet f [] place = refl
sends_quiet f (m ∷ ms) place =
    elim (is_noted f.noted place) as (λ b. (written (cond b [] (Send (flight_fragment f.segment f.group place) m ∷ []) ++ sends f ms (place + 1))).state ≡ None) [
      | true ↦ sends_quiet f ms (place + 1)
      | false ↦ sends_quiet f ms (place + 1)
    ]

all_quiet : (f : FlightState) → (written (sending_send f)).state ≡ None
unfolding sending_send
all_quiet f = sends_quiet f f.group.members 0

launched_flies : (s : LogState) (name : SegName) (prior : Prior) (items : List Item) → s.dirty ≡ [] → items ≡ []
    → FliesOn s.end (log_launch s name prior items)
unfolding log_launch
launched_flies s name prior items clear none = record {
  quiet = all_quiet (flown name prior items (group_for s.groups s.log.0 name.seq));
  clear = clear;
  flight = flown name prior items (group_for s.groups s.log.0 name.seq);
  flies = refl;
  empty = none;
  same = refl;
}

-- the segment without items begins
pub begins : (s : LogState) → s.dirty ≡ [] → s.flight ≡ None → has_next s.end.seq ≡ true → FliesOn s.end (on_parts s [])
unfolding on_parts
begins s clear idle next =
    subst (λ (o : Option FlightState). FliesOn s.end (cond (is_idle (record s { flight = o }) && has_next s.end.seq && true) (log_write s []) (still s)))
    (sym idle)
    (subst (λ b. FliesOn s.end (cond (b && true) (log_write s []) (still s))) (sym next) (launched_flies s (next_name s) (prior_from s.end) [] clear refl))

not_full : (s : LogState) → s.dirty ≡ [] → nat_le segment_blocks (length s.dirty) ≡ false
not_full s clear = ap (λ xs. nat_le segment_blocks (length xs)) clear

settled_lands : (s : LogState) (f : FlightState) → s.dirty ≡ [] → Lands (settled s f)
unfolding settled log_go_on send_one
settled_lands s f clear =
    subst (λ b. Lands (saying (Settled (end_of f.segment) (rows_of f.segment) ∷ []) (cond b (log_seal (landed s f)) (still (landed s f)))))
    (sym (not_full s clear))
    (record { end = end_of f.segment; told = refl; rows = rows_of f.segment; outs = refl; landed = refl })

module _ (s : LogState) (f : FlightState) (clear : s.dirty ≡ []) (none : f.segment.items ≡ []) where
  follows_on : (fate : Fate) → Turns s.end (followed s f fate)
  unfolding restriped
  follows_on Restripe = inl (launched_flies s (next_attempt f.segment.name) f.segment.prior f.segment.items clear none)
  follows_on Settle = inr (settled_lands s f clear)
  follows_on Wait = inl (record { quiet = refl; clear = clear; flight = f; flies = refl; empty = none; same = refl })

  looks_on : (before : LogState) → Turns s.end (still before) → Turns s.end (looked_at before s f)
  unfolding looked_at
  looks_on before h =
      by_test (Turns s.end) (can_follow s f (fate_of s.groups f)) (followed s f (fate_of s.groups f)) (still before) (λ t. follows_on (fate_of s.groups f))
      (λ t. h)

module _ (s : LogState) (f : FlightState) (clear : s.dirty ≡ []) (none : f.segment.items ≡ []) (fact : s.flight ≡ Some f) where
  pub rests : Turns s.end (still s)
  rests = inl (record { quiet = refl; clear = clear; flight = f; flies = fact; empty = none; same = refl })

  pub acked_turns : (name : SegName) (index generation : ℕ) → Turns s.end (on_acked s name index generation)
  unfolding on_acked
  acked_turns name index generation =
      subst (λ o. Turns s.end (elim o [ None ↦ still s | Some h ↦ cond (is_of h name index generation) (looked_at s s (flight_note h index)) (still s) ])) (sym fact)
      (by_test (Turns s.end) (is_of f name index generation) (looked_at s s (flight_note f index)) (still s) (λ t. looks_on s (flight_note f index) clear none s rests)
      (λ t. rests))

  pub maps_turn : (m : GroupMapState) → Turns s.end (on_maps s m)
  unfolding on_maps
  maps_turn m =
      let t : LogState = record s { groups = m } in
      subst (λ o. Turns s.end (elim o [ None ↦ still t | Some h ↦ looked_at s t h ])) (sym fact) (looks_on t f clear none s rests)

  pub tick_turns : Turns s.end (on_tick s)
  unfolding on_tick
  tick_turns =
      subst (λ (o : Option FlightState). Turns s.end (elim o [ None ↦ still s | Some h ↦ record { state = s; outs = sending_send h } ])) (sym fact)
      (inl (record { quiet = all_quiet f; clear = clear; flight = f; flies = fact; empty = none; same = refl }))
