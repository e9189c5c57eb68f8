-- What waits leaves only into the flight.
use Rattle.std.proofs.Common.{◌≡◌, ℕ, true, false, cond, ◌⊎◌, inl, inr, List, [], ◌∷◌, Some, None, refl, sym, subst, take, arith}
use Rattle.std.specs.Prelude.{◌&&◌, nat_lt, length, Contains}
use Rattle.std.proofs.lemmas.List.{take-append-drop}
use Rattle.std.proofs.lemmas.List.Elements.{Contains-append_right, Contains-append_cases}
use Rattle.indexmap.specs.IndexMap.{insert_entry}
use Rattle.xfs_base.specs.declared.block.BlockId.{BlockId}
use Rattle.xfs_base.specs.declared.segment.SegName.{SegName}
use Rattle.xfs_base.specs.Blocks.{same_block}
use Rattle.xfs_base.specs.Limits.{segment_blocks}
use Rattle.xfs_base.specs.Steps.{still}
use Rattle.xfs_base.proofs.BlockOrder.{same_block_exact}
use Rattle.segment_format.specs.declared.segment.Item.{Item}
use Rattle.group_map.specs.GroupMapState.{GroupMapState}
use Rattle.log_flight.specs.declared.dirty.Change.{Change}
use Rattle.log_flight.specs.declared.flight.Fate.{Fate}
use Rattle.log_flight.specs.declared.flight.Fate.TheVariants.{Restripe, Settle, Wait}
use Rattle.log_flight.specs.Fate.{fate_of}
use Rattle.log_flight.specs.Flights.{FlightState, group_for, flown, is_of, flight_note}
use Rattle.log_flight.specs.Items.{items_of}
use Rattle.log_flight.specs.Texts.{has_text}
use Rattle.client_log.specs.declared.input.In.{In}
use Rattle.client_log.specs.declared.input.In.TheVariants.{Put, Parts, Seal, Acked, Maps, Tick}
use Rattle.client_log.specs.LogState.{LogState}
use Rattle.client_log.specs.Transition.{Done, sending_send, log_launch, next_name, prior_from, log_write, has_next, is_idle, is_full, can_go_on, log_seal, log_go_on, waits, on_put, on_seal, on_parts, restriped, landed, settled, can_follow, followed, looked_at, on_acked, on_maps, on_tick, transition}
use Rattle.client_log.specs.History.{AreSealed, NothingIsLost, WaitsOrFlies}

-- all of these wait after a step, or the first of them fly and the rest wait
abbrev Keeps : List (BlockId × Change) → Done → Type 0
Keeps waiting d = (d.state.dirty ≡ waiting) ⊎ AreSealed waiting d.state

keeps_sealed : (t : LogState) → Keeps t.dirty (log_seal t)
unfolding log_seal log_launch
keeps_sealed t =
    let first : List (BlockId × Change) = take segment_blocks t.dirty in
    inr (record {
      first = first;
      fly = record {
        flight = flown (next_name t) (prior_from t.end) (items_of 0 first) (group_for t.groups t.log.0 (next_name t).seq);
        flying = refl;
        written = refl;
      };
      all = sym (take-append-drop segment_blocks t.dirty);
    })

keeps_if_full : (t : LogState) → Keeps t.dirty (log_go_on t)
unfolding log_go_on
keeps_if_full t = elim (is_full t) as (λ b. Keeps t.dirty (cond b (log_seal t) (still t))) [ true ↦ keeps_sealed t | false ↦ inl refl ]

keeps_followed : (t : LogState) (g : FlightState) (fate : Fate) → Keeps t.dirty (followed t g fate)
unfolding restriped log_launch settled
keeps_followed t g Restripe = inl refl
keeps_followed t g Settle = keeps_if_full (landed t g)
keeps_followed t g Wait = inl refl

-- the groups don't matter to what waits
keeps_looked : (before t : LogState) (g : FlightState) → t.dirty ≡ before.dirty → Keeps before.dirty (looked_at before t g)
unfolding looked_at
keeps_looked before t g e =
    elim (can_follow t g (fate_of t.groups g)) as (λ b. Keeps before.dirty (cond b (followed t g (fate_of t.groups g)) (still before))) [
      | true ↦ subst (λ w. Keeps w (followed t g (fate_of t.groups g))) e (keeps_followed t g (fate_of t.groups g))
      | false ↦ inl refl
    ]

keeps_put : (s : LogState) (block : BlockId) (change : Change)
    → Keeps (cond (can_go_on (waits s block change)) (waits s block change).dirty s.dirty) (on_put s block change)
unfolding on_put
keeps_put s block change =
    let t : LogState = waits s block change in
    elim (can_go_on t) as (λ b. Keeps (cond b t.dirty s.dirty) (cond b (log_go_on t) (still s))) [ true ↦ keeps_if_full t | false ↦ inl refl ]

keeps_seal : (s : LogState) → Keeps s.dirty (on_seal s)
unfolding on_seal
keeps_seal s =
    elim (is_idle s && nat_lt 0 (length s.dirty) && has_next s.end.seq) as (λ b. Keeps s.dirty (cond b (log_seal s) (still s)))
    [ true ↦ keeps_sealed s | false ↦ inl refl ]

keeps_parts : (s : LogState) (items : List Item) → Keeps s.dirty (on_parts s items)
unfolding on_parts log_launch
keeps_parts s items =
    elim (is_idle s && has_next s.end.seq && has_text items) as (λ b. Keeps s.dirty (cond b (log_write s items) (still s))) [ true ↦ inl refl | false ↦ inl refl ]

keeps_acked : (s : LogState) (name : SegName) (index generation : ℕ) → Keeps s.dirty (on_acked s name index generation)
unfolding on_acked
keeps_acked s name index generation =
    elim s.flight as (λ o. Keeps s.dirty
    (elim o [ None ↦ still s | Some f ↦ cond (is_of f name index generation) (looked_at s s (flight_note f index)) (still s) ])) [
      | None ↦ inl refl
      | Some f ↦ elim (is_of f name index generation) as (λ b. Keeps s.dirty (cond b (looked_at s s (flight_note f index)) (still s)))
          [ true ↦ keeps_looked s s (flight_note f index) refl | false ↦ inl refl ]
    ]

keeps_maps : (s : LogState) (groups : GroupMapState) → Keeps s.dirty (on_maps s groups)
unfolding on_maps
keeps_maps s groups =
    let t : LogState = record s { groups = groups } in
    elim s.flight as (λ o. Keeps s.dirty (elim o [ None ↦ still t | Some f ↦ looked_at s t f ])) [ None ↦ inl refl | Some f ↦ keeps_looked s t f refl ]

keeps_tick : (s : LogState) → Keeps s.dirty (on_tick s)
unfolding on_tick
keeps_tick s =
    elim s.flight as (λ o. Keeps s.dirty (elim o [ None ↦ still s | Some f ↦ record { state = s; outs = sending_send f } ]))
    [ None ↦ inl refl | Some f ↦ inl refl ]

pub nothing_lost : (s : LogState) (input : In) → NothingIsLost s input (transition s input).state
nothing_lost s (Put block entry value) = keeps_put s block (record { entry = entry; value = value })
nothing_lost s (Parts items) = keeps_parts s items
nothing_lost s Seal = keeps_seal s
nothing_lost s (Acked name index generation) = keeps_acked s name index generation
nothing_lost s (Maps groups) = keeps_maps s groups
nothing_lost s Tick = keeps_tick s

-- ---- a put

module _ (block : BlockId) (change : Change) where
  inserted : (ds : List (BlockId × Change)) → Contains (insert_entry same_block ds block change) (block, change)
  inserted [] = (0, omega arith, refl)
  inserted (d ∷ ds) =
      elim (same_block block d.0) as
      (λ t. same_block block d.0 ≡ t → Contains (cond t ((d.0, change) ∷ ds) (d ∷ insert_entry same_block ds block change)) (block, change)) [
        | true ↦ λ e. subst (λ k. Contains ((k, change) ∷ ds) (block, change)) (sym (same_block_exact block d.0 e)) (0, omega arith, refl)
        | false ↦ λ e. Contains-append_right (d ∷ []) (insert_entry same_block ds block change) (block, change) (inserted ds)
      ] refl

  stays : (ds : List (BlockId × Change)) (d : Done) → Contains ds (block, change) → Keeps ds d → WaitsOrFlies d.state block change
  stays ds d among (inl same) = inl (subst (λ xs. Contains xs (block, change)) (sym same) among)
  stays ds d among (inr s) =
      elim (Contains-append_cases s.first d.state.dirty (block, change) (subst (λ xs. Contains xs (block, change)) s.all among))
      as (λ _. WaitsOrFlies d.state block change) [
        | inl first ↦ inr (record { changes = s.first; fly = s.fly; among = first })
        | inr rest ↦ inl rest
      ]

  pub put_kept : (s : LogState) → can_go_on (waits s block change) ≡ true → WaitsOrFlies (on_put s block change).state block change
  put_kept s e =
      let with : LogState = waits s block change in
      stays with.dirty (on_put s block change) (inserted s.dirty)
      (subst (λ b. Keeps (cond b with.dirty s.dirty) (on_put s block change)) e (keeps_put s block change))
