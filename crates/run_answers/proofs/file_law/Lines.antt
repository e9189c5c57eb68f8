-- The log of an owner writes its own segments alone, of the incarnation of its owner, each of the number behind its end.
use Rattle.std.proofs.Common.{◌≡◌, ℕ, ◌+◌, ◌&&◌, cond, List, drop, take, length, nat_lt, Option, Some, None, refl}
use Rattle.std.specs.Prelude.{IfSome}
use Rattle.client_log.specs.declared.input.In.{In as Input}
use Rattle.client_log.specs.declared.input.In.TheVariants.{Put, Parts, Seal, Acked, Maps, Tick}
use Rattle.client_log.specs.LogState.{LogState}
use Rattle.client_log.specs.Transition.{Done, sending_send, can_follow, can_go_on, followed, has_next, log_go_on, is_full, is_idle, landed, log_launch, log_seal, log_write, looked_at, next_attempt, next_name, on_acked, on_maps, on_parts, on_put, on_seal, on_tick, prior_from, restriped, settled, transition, waits}
use Rattle.group_map.specs.GroupMapState.{GroupMapState}
use Rattle.log_flight.specs.declared.dirty.Change.{Change}
use Rattle.log_flight.specs.declared.flight.Fate.{Fate}
use Rattle.log_flight.specs.declared.flight.Fate.TheVariants.{Restripe, Settle, Wait}
use Rattle.log_flight.specs.Fate.{fate_of}
use Rattle.log_flight.specs.Flights.{FlightState, is_of, flight_note}
use Rattle.log_flight.specs.Items.{items_of}
use Rattle.log_flight.specs.Texts.{has_text}
use Rattle.segment_format.specs.declared.segment.Item.{Item}
use Rattle.xfs_base.proofs.Booleans.{by_test}
use Rattle.xfs_base.specs.declared.block.BlockId.{BlockId}
use Rattle.xfs_base.specs.declared.segment.LogId.{LogId}
use Rattle.xfs_base.specs.declared.segment.Prior.{Prior}
use Rattle.xfs_base.specs.declared.segment.SegName.{SegName}
use Rattle.xfs_base.specs.Limits.{segment_blocks}
use Rattle.xfs_base.specs.Steps.{still}

module _ (log : LogId) (inc : ℕ) where
  -- the segment behind an end of this number
  pub record IsBehind (number : ℕ) (name : SegName) : Type 0 where
    pub own : name.log ≡ log
    pub boot : name.pass.inc ≡ inc
    pub next : name.seq ≡ number + 1

  abbrev pub Flies : ℕ → Option FlightState → Type 0
  Flies number flight = IfSome flight (λ (f : FlightState). IsBehind number f.segment.name)

  pub record IsInLine (s : LogState) : Type 0 where
    pub its : s.log ≡ log
    pub boot : s.inc ≡ inc
    pub flies : Flies s.end.seq s.flight

  abbrev Keeps : Done → Type 0
  Keeps d = IsInLine d.state

  next_is : (s : LogState) → s.log ≡ log → s.inc ≡ inc → IsBehind s.end.seq (next_name s)
  next_is s its boot = record { own = its; boot = boot; next = refl }

  launched_keeps : (s : LogState) (name : SegName) (prior : Prior) (items : List Item) → s.log ≡ log → s.inc ≡ inc → IsBehind s.end.seq name
      → Keeps (log_launch s name prior items)
  unfolding log_launch
  launched_keeps s name prior items its boot named = record { its = its; boot = boot; flies = record { own = named.own; boot = named.boot; next = named.next } }

  sealed_keeps : (s : LogState) → s.log ≡ log → s.inc ≡ inc → Keeps (log_seal s)
  unfolding log_seal
  sealed_keeps s its boot =
      let t : LogState = record s { dirty = drop segment_blocks s.dirty } in
      launched_keeps t (next_name t) (prior_from s.end) (items_of 0 (take segment_blocks s.dirty)) its boot (next_is t its boot)

  full_keeps : (s : LogState) → IsInLine s → Keeps (log_go_on s)
  unfolding log_go_on
  full_keeps s h = by_test Keeps (is_full s) (log_seal s) (still s) (λ _. sealed_keeps s h.its h.boot) (λ _. h)

  put_keeps : (s : LogState) (block : BlockId) (change : Change) → IsInLine s → Keeps (on_put s block change)
  unfolding on_put
  put_keeps s block change h =
      by_test Keeps (can_go_on (waits s block change)) (log_go_on (waits s block change)) (still s)
      (λ _. full_keeps (waits s block change) (record { its = h.its; boot = h.boot; flies = h.flies })) (λ _. h)

  seal_keeps : (s : LogState) → IsInLine s → Keeps (on_seal s)
  unfolding on_seal
  seal_keeps s h =
      by_test Keeps (is_idle s && nat_lt 0 (length s.dirty) && has_next s.end.seq) (log_seal s) (still s) (λ _. sealed_keeps s h.its h.boot) (λ _. h)

  parts_keep : (s : LogState) (items : List Item) → IsInLine s → Keeps (on_parts s items)
  unfolding on_parts
  parts_keep s items h =
      by_test Keeps (is_idle s && has_next s.end.seq && has_text items) (log_write s items) (still s)
      (λ _. launched_keeps s (next_name s) (prior_from s.end) items h.its h.boot (next_is s h.its h.boot)) (λ _. h)

  follows_keep : (s : LogState) (f : FlightState) (fate : Fate) → s.log ≡ log → s.inc ≡ inc → IsBehind s.end.seq f.segment.name → Keeps (followed s f fate)
  unfolding restriped settled
  follows_keep s f Restripe its boot named =
      launched_keeps s (next_attempt f.segment.name) f.segment.prior f.segment.items its boot
      (record { own = named.own; boot = named.boot; next = named.next })
  follows_keep s f Settle its boot named = full_keeps (landed s f) (record { its = its; boot = boot; flies = tt })
  follows_keep s f Wait its boot named = record { its = its; boot = boot; flies = named }

  looks_keep : (before s : LogState) (f : FlightState) → IsInLine before → s.log ≡ log → s.inc ≡ inc → IsBehind s.end.seq f.segment.name
      → Keeps (looked_at before s f)
  unfolding looked_at
  looks_keep before s f old its boot named =
      by_test Keeps (can_follow s f (fate_of s.groups f)) (followed s f (fate_of s.groups f)) (still before)
      (λ _. follows_keep s f (fate_of s.groups f) its boot named) (λ _. old)

  acked_keeps : (s : LogState) (name : SegName) (index generation : ℕ) → IsInLine s → Keeps (on_acked s name index generation)
  unfolding on_acked
  acked_keeps s name index generation h =
      elim s.flight as
      (λ o. Flies s.end.seq o
      → Keeps (elim o [ None ↦ still s | Some f ↦ cond (is_of f name index generation) (looked_at s s (flight_note f index)) (still s) ])) [
        | None ↦ λ _. h
        | Some f ↦ λ named. by_test Keeps (is_of f name index generation) (looked_at s s (flight_note f index)) (still s)
            (λ _. looks_keep s s (flight_note f index) h h.its h.boot (record { own = named.own; boot = named.boot; next = named.next })) (λ _. h)
      ] h.flies

  maps_keep : (s : LogState) (groups : GroupMapState) → IsInLine s → Keeps (on_maps s groups)
  unfolding on_maps
  maps_keep s groups h =
      elim s.flight as
      (λ o. Flies s.end.seq o → Keeps (elim o [ None ↦ still (record s { groups = groups }) | Some f ↦ looked_at s (record s { groups = groups }) f ])) [
        | None ↦ λ _. record { its = h.its; boot = h.boot; flies = h.flies }
        | Some f ↦ λ named. looks_keep s (record s { groups = groups }) f h h.its h.boot (record { own = named.own; boot = named.boot; next = named.next })
      ] h.flies

  tick_keeps : (s : LogState) → IsInLine s → Keeps (on_tick s)
  unfolding on_tick
  tick_keeps s h = elim s.flight as (λ o. Keeps (elim o [ None ↦ still s | Some f ↦ record { state = s; outs = sending_send f } ])) [ None ↦ h | Some f ↦ h ]

  -- whatever the log takes
  pub takes_keep : (s : LogState) (i : Input) → IsInLine s → Keeps (transition s i)
  takes_keep s (Put block entry value) h = put_keeps s block (record { entry = entry; value = value }) h
  takes_keep s (Parts items) h = parts_keep s items h
  takes_keep s Seal h = seal_keeps s h
  takes_keep s (Acked name index generation) h = acked_keeps s name index generation h
  takes_keep s (Maps groups) h = maps_keep s groups h
  takes_keep s Tick h = tick_keeps s h
