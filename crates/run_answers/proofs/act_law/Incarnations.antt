-- The log of an owner writes segments of the incarnation of its owner alone.
use Rattle.std.proofs.Common.{◌≡◌, ℕ, ◌&&◌, cond, List, [], ◌∷◌, drop, take, Option, Some, None}
use Rattle.std.specs.List.{AllByRecursion}
use Rattle.std.specs.Prelude.{IfSome}
use Rattle.client_log.specs.declared.input.In.{In as Input}
use Rattle.client_log.specs.declared.input.In.TheVariants.{Parts, Acked, Maps, Tick}
use Rattle.client_log.specs.declared.output.Out.{Out}
use Rattle.client_log.specs.declared.output.Out.TheVariants.{Send, Settled}
use Rattle.client_log.specs.LogState.{LogState}
use Rattle.client_log.specs.Transition.{Done, sending_send, can_follow, followed, has_next, log_go_on, is_full, is_idle, landed, log_launch, looked_at, next_attempt, next_name, on_acked, on_maps, on_parts, on_tick, prior_from, restriped, log_seal, settled, transition, log_write}
use Rattle.group_map.specs.GroupMapState.{GroupMapState}
use Rattle.log_flight.specs.declared.flight.Fate.{Fate}
use Rattle.log_flight.specs.declared.flight.Fate.TheVariants.{Restripe, Settle, Wait}
use Rattle.log_flight.specs.Fate.{fate_of}
use Rattle.log_flight.specs.Flights.{FlightState, flown, group_for, is_of, flight_note}
use Rattle.log_flight.specs.Items.{items_of}
use Rattle.log_flight.specs.Texts.{has_text}
use Rattle.segment_format.specs.declared.segment.Item.{Item}
use Rattle.xfs_base.proofs.Booleans.{by_test}
use Rattle.xfs_base.specs.declared.segment.Prior.{Prior}
use Rattle.xfs_base.specs.declared.segment.SegName.{SegName}
use Rattle.xfs_base.specs.Limits.{segment_blocks}
use Rattle.xfs_base.specs.Steps.{still}
use Rattle.node_moves.proofs.OpeningWalk.{IsOpening}
use Rattle.run_answers.proofs.act_law.Writing.{IsSend, all_sent}

module _ (inc : ℕ) where
  -- the log is of this incarnation, and so is the segment in flight
  pub record IsOwn (s : LogState) : Type 0 where
    pub its : s.inc ≡ inc
    pub flies : IfSome s.flight (λ (f : FlightState). f.segment.name.pass.inc ≡ inc)

  -- and each segment that is settled
  abbrev pub EndsIn : Out → Type 0
  EndsIn (Send fragment member) = Unit {0}
  EndsIn (Settled end rows) = end.pass.inc ≡ inc

  pub record Keeps (d : Done) : Type 0 where
    pub own : IsOwn d.state
    pub ends : AllByRecursion EndsIn d.outs

  sent_ends : (outs : List Out) → AllByRecursion IsSend outs → AllByRecursion EndsIn outs
  sent_ends [] all = tt
  sent_ends (Send fragment member ∷ outs) all = (tt, sent_ends outs all.1)
  sent_ends (Settled end rows ∷ outs) all = absurd all.0

  still_keeps : (s : LogState) → IsOwn s → Keeps (still s)
  still_keeps s h = record { own = h; ends = tt }

  launched_keeps : (s : LogState) (name : SegName) (prior : Prior) (items : List Item) → s.inc ≡ inc → name.pass.inc ≡ inc → Keeps (log_launch s name prior items)
  unfolding log_launch
  launched_keeps s name prior items its named = record {
    own = record { its = its; flies = named };
    ends = sent_ends (sending_send (flown name prior items (group_for s.groups s.log.0 name.seq)))
        (all_sent (flown name prior items (group_for s.groups s.log.0 name.seq)));
  }

  sealed_keeps : (s : LogState) → s.inc ≡ inc → Keeps (log_seal s)
  unfolding log_seal
  sealed_keeps s its =
      let t : LogState = record s { dirty = drop segment_blocks s.dirty } in
      launched_keeps t (next_name t) (prior_from s.end) (items_of 0 (take segment_blocks s.dirty)) its its

  full_keeps : (s : LogState) → IsOwn s → Keeps (log_go_on s)
  unfolding log_go_on
  full_keeps s h = by_test Keeps (is_full s) (log_seal s) (still s) (λ _. sealed_keeps s h.its) (λ _. still_keeps s h)

  parts_keep : (s : LogState) (items : List Item) → IsOwn s → Keeps (on_parts s items)
  unfolding on_parts
  parts_keep s items h =
      by_test Keeps (is_idle s && has_next s.end.seq && has_text items) (log_write s items) (still s)
      (λ _. launched_keeps s (next_name s) (prior_from s.end) items h.its h.its) (λ _. still_keeps s h)

  settled_keeps : (s : LogState) (f : FlightState) → IsOwn s → f.segment.name.pass.inc ≡ inc → Keeps (settled s f)
  unfolding settled
  settled_keeps s f h named =
      let k : Keeps (log_go_on (landed s f)) = full_keeps (landed s f) (record { its = h.its; flies = tt }) in
      record { own = k.own; ends = (named, k.ends) }

  follows_keep : (s : LogState) (f : FlightState) (fate : Fate) → IsOwn s → f.segment.name.pass.inc ≡ inc → Keeps (followed s f fate)
  unfolding restriped
  follows_keep s f Restripe h named = launched_keeps s (next_attempt f.segment.name) f.segment.prior f.segment.items h.its named
  follows_keep s f Settle h named = settled_keeps s f h named
  follows_keep s f Wait h named = still_keeps (record s { flight = Some f }) (record { its = h.its; flies = named })

  looks_keep : (before s : LogState) (f : FlightState) → IsOwn before → IsOwn s → f.segment.name.pass.inc ≡ inc → Keeps (looked_at before s f)
  unfolding looked_at
  looks_keep before s f old h named =
      by_test Keeps (can_follow s f (fate_of s.groups f)) (followed s f (fate_of s.groups f)) (still before)
      (λ _. follows_keep s f (fate_of s.groups f) h named) (λ _. still_keeps before old)

  abbrev Flies : Option FlightState → Type 0
  Flies o = IfSome o (λ (f : FlightState). f.segment.name.pass.inc ≡ inc)

  acked_keeps : (s : LogState) (name : SegName) (index generation : ℕ) → IsOwn s → Keeps (on_acked s name index generation)
  unfolding on_acked
  acked_keeps s name index generation h =
      elim s.flight as
      (λ o. Flies o → Keeps (elim o [ None ↦ still s | Some f ↦ cond (is_of f name index generation) (looked_at s s (flight_note f index)) (still s) ])) [
        | None ↦ λ _. still_keeps s h
        | Some f ↦ λ named. by_test Keeps (is_of f name index generation) (looked_at s s (flight_note f index)) (still s)
            (λ _. looks_keep s s (flight_note f index) h h named) (λ _. still_keeps s h)
      ] h.flies

  maps_keep : (s : LogState) (groups : GroupMapState) → IsOwn s → Keeps (on_maps s groups)
  unfolding on_maps
  maps_keep s groups h =
      elim s.flight as (λ o. Flies o → Keeps (elim o [ None ↦ still (record s { groups = groups }) | Some f ↦ looked_at s (record s { groups = groups }) f ])) [
        | None ↦ λ _. still_keeps (record s { groups = groups }) (record { its = h.its; flies = h.flies })
        | Some f ↦ λ named. looks_keep s (record s { groups = groups }) f h (record { its = h.its; flies = h.flies }) named
      ] h.flies

  tick_keeps : (s : LogState) → IsOwn s → Keeps (on_tick s)
  unfolding on_tick
  tick_keeps s h =
      elim s.flight as (λ o. Keeps (elim o [ None ↦ still s | Some f ↦ record { state = s; outs = sending_send f } ])) [
        | None ↦ still_keeps s h
        | Some f ↦ record { own = h; ends = sent_ends (sending_send f) (all_sent f) }
      ]

  pub takes_keep : (s : LogState) (i : Input) → IsOpening i → IsOwn s → Keeps (transition s i)
  takes_keep s (Parts items) opens h = parts_keep s items h
  takes_keep s (Acked name index generation) opens h = acked_keeps s name index generation h
  takes_keep s (Maps groups) opens h = maps_keep s groups h
  takes_keep s Tick opens h = tick_keeps s h
  takes_keep s _ opens h = absurd opens
