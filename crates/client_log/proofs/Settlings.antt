-- What is told as settled is due.
use Rattle.std.proofs.Common.{◌≡◌, ℕ, ◌+◌, true, false, cond, List, [], ◌∷◌, ◌++◌, Some, None, refl, ap, ◌∙◌, take, drop}
use Rattle.std.specs.Prelude.{◌&&◌, nat_lt, length}
use Rattle.std.specs.List.{AllByRecursion}
use Rattle.xfs_base.specs.declared.segment.Prior.{Prior}
use Rattle.xfs_base.specs.declared.segment.SegName.{SegName}
use Rattle.xfs_base.specs.Limits.{segment_blocks}
use Rattle.xfs_base.specs.Steps.{still}
use Rattle.segment_format.specs.declared.segment.Item.{Item}
use Rattle.group_map.specs.declared.group.Member.{Member}
use Rattle.group_map.specs.GroupMapState.{GroupMapState}
use Rattle.log_flight.specs.declared.dirty.Change.{Change}
use Rattle.log_flight.specs.declared.flight.Fate.{Fate}
use Rattle.log_flight.specs.declared.flight.Fate.TheVariants.{Restripe, Settle, Wait}
use Rattle.log_flight.specs.Fate.{fate_of}
use Rattle.log_flight.specs.Flights.{FlightState, is_noted, group_for, flown, is_of, flight_note}
use Rattle.log_flight.specs.Fragments.{flight_fragment}
use Rattle.log_flight.specs.Items.{items_of}
use Rattle.log_flight.specs.Texts.{has_text}
use Rattle.client_log.specs.declared.input.In.{In}
use Rattle.client_log.specs.declared.input.In.TheVariants.{Put, Parts, Seal, Acked, Maps, Tick}
use Rattle.client_log.specs.declared.output.Out.{Out}
use Rattle.client_log.specs.declared.output.Out.TheVariants.{Send}
use Rattle.segment_format.specs.Rows.{rows_of}
use Rattle.client_log.specs.LogState.{LogState}
use Rattle.client_log.specs.Transition.{Done, sends, sending_send, log_launch, next_name, prior_from, log_write, has_next, is_idle, is_full, can_go_on, log_seal, log_go_on, waits, on_put, on_seal, on_parts, next_attempt, restriped, end_of, landed, settled, can_follow, followed, looked_at, on_acked, on_maps, on_tick, transition}
use Rattle.client_log.specs.History.{IsDue, TellsWhatIsDue}

module _ (s : LogState) (input : In) where
  abbrev Tell : List Out → Type 0
  Tell outs = AllByRecursion (TellsWhatIsDue s input) outs

  tell_sends : (f : FlightState) (ms : List Member) (place : ℕ) → Tell (sends f ms place)
  tell_sends f [] place = tt
  tell_sends f (m ∷ ms) place =
      elim (is_noted f.noted place) as (λ b. Tell (cond b [] (Send (flight_fragment f.segment f.group place) m ∷ []) ++ sends f ms (place + 1))) [
        | true ↦ tell_sends f ms (place + 1)
        | false ↦ (tt, tell_sends f ms (place + 1))
      ]

  tell_launched : (t : LogState) (name : SegName) (prior : Prior) (items : List Item) → Tell (log_launch t name prior items).outs
  unfolding log_launch sending_send
  tell_launched t name prior items =
      let f : FlightState = flown name prior items (group_for t.groups t.log.0 name.seq) in
      tell_sends f f.group.members 0

  tell_sealed : (t : LogState) → Tell (log_seal t).outs
  unfolding log_seal
  tell_sealed t =
      let u : LogState = record t { dirty = drop segment_blocks t.dirty } in
      tell_launched u (next_name u) (prior_from u.end) (items_of 0 (take segment_blocks t.dirty))

  tell_if_full : (t : LogState) → Tell (log_go_on t).outs
  unfolding log_go_on
  tell_if_full t = elim (is_full t) as (λ b. Tell (cond b (log_seal t) (still t)).outs) [ true ↦ tell_sealed t | false ↦ tt ]

  tell_put : (block : _) (change : Change) → Tell (on_put s block change).outs
  unfolding on_put
  tell_put block change =
      let t : LogState = waits s block change in
      elim (can_go_on t) as (λ b. Tell (cond b (log_go_on t) (still s)).outs) [ true ↦ tell_if_full t | false ↦ tt ]

  tell_seal : Tell (on_seal s).outs
  unfolding on_seal
  tell_seal = elim (is_idle s && nat_lt 0 (length s.dirty) && has_next s.end.seq) as (λ b. Tell (cond b (log_seal s) (still s)).outs)
      [ true ↦ tell_sealed s | false ↦ tt ]

  tell_parts : (items : List Item) → Tell (on_parts s items).outs
  unfolding on_parts
  tell_parts items =
      elim (is_idle s && has_next s.end.seq && has_text items) as (λ b. Tell (cond b (log_write s items) (still s)).outs)
      [ true ↦ tell_launched s (next_name s) (prior_from s.end) items | false ↦ tt ]

  tell_settled : (t : LogState) (g : FlightState) → IsDue s input (end_of g.segment) (rows_of g.segment) → Tell (settled t g).outs
  unfolding settled
  tell_settled t g due = (due, tell_if_full (landed t g))

  tell_followed : (t : LogState) (g : FlightState) (fate : Fate) → (fate ≡ Settle → IsDue s input (end_of g.segment) (rows_of g.segment))
      → Tell (followed t g fate).outs
  unfolding restriped
  tell_followed t g Restripe due = tell_launched t (next_attempt g.segment.name) g.segment.prior g.segment.items
  tell_followed t g Settle due = tell_settled t g (due refl)
  tell_followed t g Wait due = tt

  tell_looked : (before t : LogState) (g : FlightState) → (fate_of t.groups g ≡ Settle → IsDue s input (end_of g.segment) (rows_of g.segment))
      → Tell (looked_at before t g).outs
  unfolding looked_at
  tell_looked before t g due =
      elim (can_follow t g (fate_of t.groups g)) as (λ b. Tell (cond b (followed t g (fate_of t.groups g)) (still before)).outs) [
        | true ↦ tell_followed t g (fate_of t.groups g) due
        | false ↦ tt
      ]

-- the same of a step
abbrev TellStep : LogState → In → Done → Type 0
TellStep s input d = Tell s input d.outs

tell_acked : (s : LogState) (name : SegName) (index generation : ℕ) → Tell s (Acked name index generation) (on_acked s name index generation).outs
unfolding on_acked
tell_acked s name index generation =
    elim s.flight as
    (λ o. s.flight ≡ o
    → TellStep s (Acked name index generation)
    (elim o [ None ↦ still s | Some f ↦ cond (is_of f name index generation) (looked_at s s (flight_note f index)) (still s) ])) [
      | None ↦ λ e. tt
      | Some f ↦ λ e. elim (is_of f name index generation) as
          (λ b. is_of f name index generation ≡ b → Tell s (Acked name index generation) (cond b (looked_at s s (flight_note f index)) (still s)).outs) [
            | true ↦ λ fact. tell_looked s (Acked name index generation) s s (flight_note f index) (λ due. record {
              flight = f;
              was = e;
              is_end = refl;
              are_rows = refl;
              due = ap (λ b. fate_of s.groups (cond b (flight_note f index) f)) fact ∙ due;
            })
            | false ↦ λ fact. tt
          ] refl
    ] refl

tell_maps : (s : LogState) (groups : GroupMapState) → Tell s (Maps groups) (on_maps s groups).outs
unfolding on_maps
tell_maps s groups =
    let t : LogState = record s { groups = groups } in
    elim s.flight as (λ o. s.flight ≡ o → TellStep s (Maps groups) (elim o [ None ↦ still t | Some f ↦ looked_at s t f ])) [
      | None ↦ λ e. tt
      | Some f ↦ λ e. tell_looked s (Maps groups) s t f (λ due. record { flight = f; was = e; is_end = refl; are_rows = refl; due = due })
    ] refl

tell_tick : (s : LogState) → Tell s Tick (on_tick s).outs
unfolding on_tick sending_send
tell_tick s =
    elim s.flight as (λ o. TellStep s Tick (elim o [ None ↦ still s | Some f ↦ record { state = s; outs = sending_send f } ]))
    [ None ↦ tt | Some f ↦ tell_sends s Tick f f.group.members 0 ]

pub tells_due : (s : LogState) (input : In) → AllByRecursion (TellsWhatIsDue s input) (transition s input).outs
tells_due s (Put block entry value) = tell_put s (Put block entry value) block (record { entry = entry; value = value })
tells_due s (Parts items) = tell_parts s (Parts items) items
tells_due s Seal = tell_seal s Seal
tells_due s (Acked name index generation) = tell_acked s name index generation
tells_due s (Maps groups) = tell_maps s groups
tells_due s Tick = tell_tick s
