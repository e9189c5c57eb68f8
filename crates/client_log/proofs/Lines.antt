-- The line of segments: the flight is the next, and the end rises by one.
use Rattle.std.proofs.Common.{◌≡◌, ℕ, ◌+◌, true, false, cond, inl, inr, List, [], ◌∷◌, ◌++◌, Some, None, refl, ap, ◌∙◌, subst, sym, take, drop}
use Rattle.std.specs.Prelude.{IfSome, ◌&&◌, nat_lt, length}
use Rattle.xfs_base.specs.declared.segment.End.{End}
use Rattle.xfs_base.specs.declared.segment.LogId.{LogId}
use Rattle.xfs_base.specs.declared.segment.Prior.{Prior}
use Rattle.xfs_base.specs.declared.segment.SegName.{SegName}
use Rattle.xfs_base.specs.Limits.{segment_blocks}
use Rattle.xfs_base.specs.Steps.{still}
use Rattle.xfs_base.proofs.StepLoops.{steps_keep}
use Rattle.segment_format.specs.declared.segment.Item.{Item}
use Rattle.group_map.specs.declared.group.Member.{Member}
use Rattle.group_map.specs.GroupMapState.{GroupMapState}
use Rattle.log_flight.specs.declared.dirty.Change.{Change}
use Rattle.log_flight.specs.declared.flight.Fate.{Fate}
use Rattle.log_flight.specs.declared.flight.Fate.TheVariants.{Restripe, Settle, Wait}
use Rattle.log_flight.specs.Fate.{fate_of}
use Rattle.log_flight.specs.Flights.{FlightState, is_noted, group_for, flown, is_of, flight_note}
use Rattle.log_flight.specs.Fragments.{flight_fragment}
use Rattle.log_flight.specs.Items.{items_of}
use Rattle.log_flight.specs.Texts.{has_text}
use Rattle.client_log.specs.declared.input.In.{In}
use Rattle.client_log.specs.declared.input.In.TheVariants.{Put, Parts, Seal, Acked, Maps, Tick}
use Rattle.client_log.specs.declared.output.Out.TheVariants.{Send}
use Rattle.client_log.specs.LogState.{LogState, log_start}
use Rattle.client_log.specs.Transition.{Done, sends, sending_send, log_launch, next_name, prior_from, log_write, has_next, is_idle, is_full, can_go_on, log_seal, log_go_on, waits, on_put, on_seal, on_parts, next_attempt, restriped, end_of, landed, settled, can_follow, followed, looked_at, on_acked, on_maps, on_tick, transition}
use Rattle.client_log.specs.History.{state_after, IsNext, IsInLine, settled_ends, EndRisesByOne}

-- sending settles nothing
none_settled : (f : FlightState) (ms : List Member) (place : ℕ) → settled_ends (sends f ms place) ≡ []
none_settled f [] place = refl
none_settled f (m ∷ ms) place =
    elim (is_noted f.noted place) as (λ b. settled_ends (cond b [] (Send (flight_fragment f.segment f.group place) m ∷ []) ++ sends f ms (place + 1)) ≡ []) [
      | true ↦ none_settled f ms (place + 1)
      | false ↦ none_settled f ms (place + 1)
    ]

sends_settle_nothing : (f : FlightState) → settled_ends (sending_send f) ≡ []
unfolding sending_send
sends_settle_nothing f = none_settled f f.group.members 0

-- a step from a state that settles nothing: the flight is the next, and the end stays
record Goes (s : LogState) (d : Done) : Type 0 where
  line : IsInLine d.state
  none : settled_ends d.outs ≡ []
  ends : d.state.end ≡ s.end

goes_still : (s : LogState) → IsInLine s → Goes s (still s)
goes_still s l = record { line = l; none = refl; ends = refl }

goes_launched : (s : LogState) (name : SegName) (prior : Prior) (items : List Item) → IsNext s (flown name prior items (group_for s.groups s.log.0 name.seq))
    → Goes s (log_launch s name prior items)
unfolding log_launch
goes_launched s name prior items n =
    record {
      line = record { log = n.log; seq = n.seq; inc = n.inc; prior = n.prior };
      none = sends_settle_nothing (flown name prior items (group_for s.groups s.log.0 name.seq));
      ends = refl;
    }

goes_writes : (s : LogState) (items : List Item) → Goes s (log_write s items)
goes_writes s items = goes_launched s (next_name s) (prior_from s.end) items (record { log = refl; seq = refl; inc = refl; prior = refl })

goes_sealed : (s : LogState) → Goes s (log_seal s)
unfolding log_seal
goes_sealed s =
    let g = goes_writes (record s { dirty = drop segment_blocks s.dirty }) (items_of 0 (take segment_blocks s.dirty)) in
    record { line = g.line; none = g.none; ends = g.ends }

goes_if_full : (s : LogState) → IsInLine s → Goes s (log_go_on s)
unfolding log_go_on
goes_if_full s l = elim (is_full s) as (λ b. Goes s (cond b (log_seal s) (still s))) [ true ↦ goes_sealed s | false ↦ goes_still s l ]

-- a step: the flight is the next, and the end stays or rises
record Steps (s : LogState) (d : Done) : Type 0 where
  line : IsInLine d.state
  rises : EndRisesByOne s d

steps_of : (s : LogState) (d : Done) → Goes s d → Steps s d
steps_of s d g = record { line = g.line; rises = inl (g.none, g.ends) }

steps_still : (s : LogState) → IsInLine s → Steps s (still s)
steps_still s l = steps_of s (still s) (goes_still s l)

steps_put : (s : LogState) (block : _) (change : Change) → IsInLine s → Steps s (on_put s block change)
unfolding on_put
steps_put s block change l =
    let t : LogState = waits s block change in
    let lt : IsInLine t =
    elim s.flight as (λ o. IfSome o (IsNext s) → IfSome o (IsNext t))
    [ None ↦ λ n. n | Some f ↦ λ n. record { log = n.log; seq = n.seq; inc = n.inc; prior = n.prior } ] l in
    let g : Goes t (log_go_on t) = goes_if_full t lt in
    elim (can_go_on t) as (λ b. Steps s (cond b (log_go_on t) (still s))) [
      | true ↦ record { line = g.line; rises = inl (g.none, g.ends) }
      | false ↦ steps_still s l
    ]

steps_seal : (s : LogState) → IsInLine s → Steps s (on_seal s)
unfolding on_seal
steps_seal s l =
    elim (is_idle s && nat_lt 0 (length s.dirty) && has_next s.end.seq) as (λ b. Steps s (cond b (log_seal s) (still s)))
    [ true ↦ steps_of s (log_seal s) (goes_sealed s) | false ↦ steps_still s l ]

steps_parts : (s : LogState) (items : List Item) → IsInLine s → Steps s (on_parts s items)
unfolding on_parts
steps_parts s items l =
    elim (is_idle s && has_next s.end.seq && has_text items) as (λ b. Steps s (cond b (log_write s items) (still s)))
    [ true ↦ steps_of s (log_write s items) (goes_writes s items) | false ↦ steps_still s l ]

-- the groups do not matter to the line
steps_restriped : (s : LogState) (f : FlightState) → IsNext s f → Goes s (restriped s f)
unfolding restriped
steps_restriped s f n =
    goes_launched s (next_attempt f.segment.name) f.segment.prior f.segment.items (record { log = n.log; seq = n.seq; inc = n.inc; prior = n.prior })

steps_settled : (s : LogState) (f : FlightState) → IsNext s f → Steps s (settled s f)
unfolding settled
steps_settled s f n =
    let g : Goes (landed s f) (log_go_on (landed s f)) = goes_if_full (landed s f) tt in
    record { line = g.line; rises = inr (ap (λ es. end_of f.segment ∷ es) g.none ∙ ap (λ e. e ∷ []) (sym g.ends), ap (λ (e : End). e.seq) g.ends ∙ n.seq) }

steps_followed : (s : LogState) (f : FlightState) (fate : Fate) → IsNext s f → Steps s (followed s f fate)
steps_followed s f Restripe n = steps_of s (restriped s f) (steps_restriped s f n)
steps_followed s f Settle n = steps_settled s f n
steps_followed s f Wait n = record { line = record { log = n.log; seq = n.seq; inc = n.inc; prior = n.prior }; rises = inl (refl, refl) }

steps_looked : (before s : LogState) (f : FlightState) → before.end ≡ s.end → IsInLine before → IsNext s f → Steps before (looked_at before s f)
unfolding looked_at
steps_looked before s f e l n =
    let t : Steps s (followed s f (fate_of s.groups f)) = steps_followed s f (fate_of s.groups f) n in
    elim (can_follow s f (fate_of s.groups f)) as (λ b. Steps before (cond b (followed s f (fate_of s.groups f)) (still before))) [
      | true ↦ record {
        line = t.line;
        rises = elim t.rises as (λ r. EndRisesByOne before (followed s f (fate_of s.groups f))) [
          | inl a ↦ inl (a.0, a.1 ∙ sym e)
          | inr a ↦ inr (a.0, a.1 ∙ ap (λ (x : End). x.seq + 1) (sym e))
        ];
      }
      | false ↦ steps_still before l
    ]

steps_acked : (s : LogState) (name : SegName) (index generation : ℕ) → IsInLine s → Steps s (on_acked s name index generation)
unfolding on_acked
steps_acked s name index generation l =
    elim s.flight as
    (λ o. IfSome o (IsNext s)
    → Steps s (elim o [ None ↦ still s | Some f ↦ cond (is_of f name index generation) (looked_at s s (flight_note f index)) (still s) ])) [
      | None ↦ λ m. steps_still s l
      | Some f ↦ λ m. elim (is_of f name index generation) as (λ b. Steps s (cond b (looked_at s s (flight_note f index)) (still s))) [
        | true ↦ steps_looked s s (flight_note f index) refl l (record { log = m.log; seq = m.seq; inc = m.inc; prior = m.prior })
        | false ↦ steps_still s l
      ]
    ] l

steps_maps : (s : LogState) (groups : GroupMapState) → IsInLine s → Steps s (on_maps s groups)
unfolding on_maps
steps_maps s groups l =
    let t : LogState = record s { groups = groups } in
    elim s.flight as (λ o. s.flight ≡ o → IfSome o (IsNext s) → Steps s (elim o [ None ↦ still t | Some f ↦ looked_at s t f ])) [
      | None ↦ λ e m. record { line = subst (λ o. IfSome o (IsNext t)) (sym e) tt; rises = inl (refl, refl) }
      | Some f ↦ λ e m. steps_looked s t f refl l (record { log = m.log; seq = m.seq; inc = m.inc; prior = m.prior })
    ] refl l

steps_tick : (s : LogState) → IsInLine s → Steps s (on_tick s)
unfolding on_tick
steps_tick s l =
    elim s.flight as (λ o. Steps s (elim o [ None ↦ still s | Some f ↦ record { state = s; outs = sending_send f } ])) [
      | None ↦ steps_still s l
      | Some f ↦ record { line = l; rises = inl (sends_settle_nothing f, refl) }
    ]

step : (s : LogState) (input : In) → IsInLine s → Steps s (transition s input)
step s (Put block entry value) l = steps_put s block (record { entry = entry; value = value }) l
step s (Parts items) l = steps_parts s items l
step s Seal l = steps_seal s l
step s (Acked name index generation) l = steps_acked s name index generation l
step s (Maps groups) l = steps_maps s groups l
step s Tick l = steps_tick s l

pub in_line : (log : LogId) (inc : ℕ) (end : End) (groups : GroupMapState) (history : List In) → IsInLine (state_after (log_start log inc end groups) history)
in_line log inc end groups history = steps_keep transition IsInLine (λ s input l. (step s input l).line) (log_start log inc end groups) history tt

pub rises_by_one : (log : LogId) (inc : ℕ) (end : End) (groups : GroupMapState) (history : List In) (input : In)
    → EndRisesByOne (state_after (log_start log inc end groups) history) (transition (state_after (log_start log inc end groups) history) input)
rises_by_one log inc end groups history input = (step (state_after (log_start log inc end groups) history) input (in_line log inc end groups history)).rises
