-- What an input makes of a log: its end stays and it tells of none, or it tells first that the segment that was in flight is settled, which is its end then.
use Rattle.std.proofs.Common.{◌≡◌, ◌⊎◌, ℕ, ◌+◌, true, false, cond, ◌&&◌, List, [], ◌∷◌, ◌++◌, Option, Some, None, refl, sym, ap, inl, inr, nat_lt, ◌∙◌}
use Rattle.std.specs.Prelude.{length, drop, take}
use Rattle.std.specs.List.{AllByRecursion}
use Rattle.xfs_base.specs.declared.block.BlockId.{BlockId}
use Rattle.xfs_base.specs.declared.segment.End.{End}
use Rattle.xfs_base.specs.declared.segment.Prior.{Prior}
use Rattle.xfs_base.specs.declared.segment.SegName.{SegName}
use Rattle.xfs_base.specs.Limits.{segment_blocks}
use Rattle.xfs_base.specs.Steps.{still}
use Rattle.xfs_base.proofs.Booleans.{by_test}
use Rattle.segment_format.specs.declared.segment.Item.{Item}
use Rattle.segment_format.specs.declared.segment.Segment.{Segment}
use Rattle.segment_format.specs.Rows.{rows_of}
use Rattle.group_map.specs.declared.group.Member.{Member}
use Rattle.group_map.specs.GroupMapState.{GroupMapState}
use Rattle.log_flight.specs.declared.dirty.Change.{Change}
use Rattle.log_flight.specs.declared.flight.Fate.{Fate}
use Rattle.log_flight.specs.declared.flight.Fate.TheVariants.{Restripe, Settle, Wait}
use Rattle.log_flight.specs.Fate.{fate_of}
use Rattle.log_flight.specs.Flights.{FlightState, is_noted, group_for, flown, is_of, flight_note}
use Rattle.log_flight.specs.Fragments.{flight_fragment}
use Rattle.log_flight.specs.Items.{items_of}
use Rattle.log_flight.specs.Texts.{has_text}
use Rattle.client_log.specs.declared.input.In.{In as Input}
use Rattle.client_log.specs.declared.input.In.TheVariants.{Put, Parts, Seal, Acked, Maps, Tick}
use Rattle.client_log.specs.declared.output.Out.{Out}
use Rattle.client_log.specs.declared.output.Out.TheVariants.{Send, Settled}
use Rattle.client_log.specs.LogState.{LogState}
use Rattle.client_log.specs.Transition.{Done, sends, sending_send, log_launch, next_name, prior_from, log_write, has_next, is_idle, is_full, can_go_on, log_seal, log_go_on, waits, on_put, on_seal, on_parts, next_attempt, restriped, end_of, landed, settled, can_follow, followed, looked_at, on_acked, on_maps, on_tick, transition}

abbrev pub IsSend : Out → Type 0
IsSend (Send fragment member) = Unit {0}
IsSend (Settled end rows) = ⊥

-- the end is this one still, and only fragments are sent
pub record Rests (end : End) (d : Done) : Type 0 where
  pub same : d.state.end ≡ end
  pub sends : AllByRecursion IsSend d.outs

-- the segment that was in flight is told to be settled, first of all, and is the end
pub record Lands (was : Option FlightState) (d : Done) : Type 0 where
  pub flight : FlightState
  pub flew : was ≡ Some flight
  pub ends : d.state.end ≡ end_of flight.segment
  pub rest : List Out
  pub outs : d.outs ≡ Settled (end_of flight.segment) (rows_of flight.segment) ∷ rest
  pub sends : AllByRecursion IsSend rest

-- told as the end that it is then
pub as_end : (was : Option FlightState) (d : Done) (h : Lands was d) → d.outs ≡ Settled d.state.end (rows_of h.flight.segment) ∷ h.rest
as_end was d h = h.outs ∙ ap (λ (e : End). Settled e (rows_of h.flight.segment) ∷ h.rest) (sym h.ends)

abbrev pub Turns : LogState → Done → Type 0
Turns was d = Rests was.end d ⊎ Lands was.flight d

-- ---- sending

all_are : (f : FlightState) (ms : List Member) (place : ℕ) → AllByRecursion IsSend (sends f ms place)
all_are f [] place = tt
all_are f (m ∷ ms) place =
    elim (is_noted f.noted place) as (λ b. AllByRecursion IsSend (cond b [] (Send (flight_fragment f.segment f.group place) m ∷ []) ++ sends f ms (place + 1))) [
      | true ↦ all_are f ms (place + 1)
      | false ↦ (tt, all_are f ms (place + 1))
    ]

all_sent : (f : FlightState) → AllByRecursion IsSend (sending_send f)
unfolding sending_send
all_sent f = all_are f f.group.members 0

-- ---- a segment begins

still_rests : (s : LogState) → Rests s.end (still s)
still_rests s = record { same = refl; sends = tt }

launched_rests : (s : LogState) (name : SegName) (prior : Prior) (items : List Item) → Rests s.end (log_launch s name prior items)
unfolding log_launch
launched_rests s name prior items = record { same = refl; sends = all_sent (flown name prior items (group_for s.groups s.log.0 name.seq)) }

sealed_rests : (s : LogState) → Rests s.end (log_seal s)
unfolding log_seal
sealed_rests s =
    launched_rests (record s { dirty = drop segment_blocks s.dirty }) (next_name (record s { dirty = drop segment_blocks s.dirty })) (prior_from s.end)
    (items_of 0 (take segment_blocks s.dirty))

log_go_on_rests : (s : LogState) → Rests s.end (log_go_on s)
unfolding log_go_on
log_go_on_rests s = by_test (Rests s.end) (is_full s) (log_seal s) (still s) (λ t. sealed_rests s) (λ t. still_rests s)

pub put_rests : (s : LogState) (block : BlockId) (change : Change) → Rests s.end (on_put s block change)
unfolding on_put
put_rests s block change =
    by_test (Rests s.end) (can_go_on (waits s block change)) (log_go_on (waits s block change)) (still s) (λ t. log_go_on_rests (waits s block change))
    (λ t. still_rests s)

pub seal_rests : (s : LogState) → Rests s.end (on_seal s)
unfolding on_seal
seal_rests s =
    by_test (Rests s.end) (is_idle s && nat_lt 0 (length s.dirty) && has_next s.end.seq) (log_seal s) (still s) (λ t. sealed_rests s) (λ t. still_rests s)

pub parts_rest : (s : LogState) (items : List Item) → Rests s.end (on_parts s items)
unfolding on_parts
parts_rest s items =
    by_test (Rests s.end) (is_idle s && has_next s.end.seq && has_text items) (log_write s items) (still s)
    (λ t. launched_rests s (next_name s) (prior_from s.end) items) (λ t. still_rests s)

-- ---- a segment is settled

abbrev segment_in : FlightState → Option FlightState → Segment
segment_in other None = other.segment
segment_in other (Some f) = f.segment

settled_lands : (s : LogState) (f : FlightState) → Lands (Some f) (settled s f)
unfolding settled
settled_lands s f =
    let d : Done = log_go_on (landed s f) in
    let r : Rests (end_of f.segment) d = log_go_on_rests (landed s f) in
    record { flight = f; flew = refl; ends = r.same; rest = d.outs; outs = refl; sends = r.sends }

-- what is told of a flight does not depend on what is noted of it
noted_lands : (f g : FlightState) (d : Done) → g.segment ≡ f.segment → Lands (Some g) d → Lands (Some f) d
noted_lands f g d same h =
    let is : h.flight.segment ≡ f.segment = sym (ap (λ (o : Option FlightState). segment_in g o) h.flew) ∙ same in record {
      flight = f;
      flew = refl;
      ends = h.ends ∙ ap end_of is;
      rest = h.rest;
      outs = h.outs ∙ ap (λ (x : Segment). Settled (end_of x) (rows_of x) ∷ h.rest) is;
      sends = h.sends;
    }

-- in flight there is this, and the end is that
abbrev Flew : End → FlightState → Done → Type 0
Flew end f d = Rests end d ⊎ Lands (Some f) d

as_noted : (end : End) (f g : FlightState) (d : Done) → g.segment ≡ f.segment → Flew end g d → Flew end f d
as_noted end f g d same (inl rests) = inl rests
as_noted end f g d same (inr lands) = inr (noted_lands f g d same lands)

follows_on : (s : LogState) (f : FlightState) (fate : Fate) → Flew s.end f (followed s f fate)
unfolding restriped
follows_on s f Restripe = inl (launched_rests s (next_attempt f.segment.name) f.segment.prior f.segment.items)
follows_on s f Settle = inr (settled_lands s f)
follows_on s f Wait = inl (record { same = refl; sends = tt })

looks_on : (before s : LogState) (f : FlightState) → before.end ≡ s.end → Flew s.end f (looked_at before s f)
unfolding looked_at
looks_on before s f same =
    by_test (Flew s.end f) (can_follow s f (fate_of s.groups f)) (followed s f (fate_of s.groups f)) (still before) (λ t. follows_on s f (fate_of s.groups f))
    (λ t. inl (record { same = same; sends = tt }))

acked_turns : (s : LogState) (name : SegName) (index generation : ℕ) → Turns s (on_acked s name index generation)
unfolding on_acked
acked_turns s name index generation =
    elim s.flight as (λ o. Rests s.end (elim o [ None ↦ still s | Some f ↦ cond (is_of f name index generation) (looked_at s s (flight_note f index)) (still s) ])
    ⊎ Lands o (elim o [ None ↦ still s | Some f ↦ cond (is_of f name index generation) (looked_at s s (flight_note f index)) (still s) ])) [
      | None ↦ inl (still_rests s)
      | Some f ↦ by_test (Flew s.end f) (is_of f name index generation) (looked_at s s (flight_note f index)) (still s)
          (λ t. as_noted s.end f (flight_note f index) (looked_at s s (flight_note f index)) refl (looks_on s s (flight_note f index) refl)) (λ t. inl (still_rests s))
    ]

maps_turn : (s : LogState) (groups : GroupMapState) → Turns s (on_maps s groups)
unfolding on_maps
maps_turn s groups =
    let t : LogState = record s { groups = groups } in
    elim s.flight as (λ o. Rests s.end (elim o [ None ↦ still t | Some f ↦ looked_at s t f ]) ⊎ Lands o (elim o [ None ↦ still t | Some f ↦ looked_at s t f ])) [
      | None ↦ inl (record { same = refl; sends = tt })
      | Some f ↦ looks_on s t f refl
    ]

pub tick_rests : (s : LogState) → Rests s.end (on_tick s)
unfolding on_tick
tick_rests s =
    elim s.flight as (λ o. Rests s.end (elim o [ None ↦ still s | Some f ↦ record { state = s; outs = sending_send f } ])) [
      | None ↦ still_rests s
      | Some f ↦ record { same = refl; sends = all_sent f }
    ]

pub log_turns : (s : LogState) (i : Input) → Turns s (transition s i)
log_turns s (Put block entry value) = inl (put_rests s block (record { entry = entry; value = value }))
log_turns s (Parts items) = inl (parts_rest s items)
log_turns s Seal = inl (seal_rests s)
log_turns s (Acked name index generation) = acked_turns s name index generation
log_turns s (Maps m) = maps_turn s m
log_turns s Tick = inl (tick_rests s)
