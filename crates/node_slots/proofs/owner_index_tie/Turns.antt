-- What an input makes of an owner's log: its end stays and it tells none, or what was in flight is told first, as settled, and is its end then. What is in
-- flight has the number after the end.
use Rattle.std.proofs.Common.{◌≡◌, ℕ, suc, ◌&&◌, ◌⊎◌, inl, inr, cond, List, ◌∷◌, Option, Some, None, refl, sym, ap, ◌∙◌, arith}
use Rattle.std.specs.Prelude.{nat_lt, length, drop, take}
use Rattle.std.specs.List.{AllByRecursion}
use Rattle.client_log.specs.declared.input.In.{In}
use Rattle.client_log.specs.declared.input.In.TheVariants.{Put, Parts, Seal, Acked, Maps, Tick}
use Rattle.client_log.specs.declared.output.Out.{Out}
use Rattle.client_log.specs.declared.output.Out.TheVariants.{Settled}
use Rattle.client_log.specs.LogState.{LogState}
use Rattle.client_log.specs.Transition.{Done, sending_send, log_launch, next_name, prior_from, log_write, log_seal, has_next, is_idle, is_full, can_go_on, log_go_on, waits, on_put, on_seal, on_parts, next_attempt, restriped, end_of, landed, settled, can_follow, followed, looked_at, on_acked, on_maps, on_tick, transition}
use Rattle.group_map.specs.GroupMapState.{GroupMapState}
use Rattle.log_flight.specs.declared.dirty.Change.{Change}
use Rattle.log_flight.specs.declared.flight.Fate.{Fate}
use Rattle.log_flight.specs.declared.flight.Fate.TheVariants.{Restripe, Settle, Wait}
use Rattle.log_flight.specs.Fate.{fate_of}
use Rattle.log_flight.specs.Flights.{FlightState, flown, group_for, is_of, flight_note}
use Rattle.log_flight.specs.Items.{items_of}
use Rattle.log_flight.specs.Texts.{has_text}
use Rattle.node_moves.proofs.client_walk.LogTurns.{IsSend}
use Rattle.node_slots.proofs.node_index_tie.Moves.{some_none}
use Rattle.segment_format.specs.declared.segment.Item.{Item}
use Rattle.xfs_base.specs.declared.segment.Prior.{Prior}
use Rattle.segment_format.specs.declared.segment.Segment.{Segment}
use Rattle.segment_format.specs.Rows.{rows_of}
use Rattle.xfs_base.proofs.Booleans.{by_test}
use Rattle.xfs_base.specs.Limits.{segment_blocks}
use Rattle.xfs_base.specs.Steps.{still}
use Rattle.xfs_base.specs.declared.block.BlockId.{BlockId}
use Rattle.xfs_base.specs.declared.segment.SegName.{SegName}
use Rattle.node_slots.specs.owner_index_tie.Owners.{LogNext}
use Rattle.node_slots.proofs.owner_index_tie.Sends.{all_send}

-- the end is this one still, and none is told
pub record Rests (s : LogState) (d : Done) : Type 0 where
  pub same : d.state.end ≡ s.end
  pub sends : AllByRecursion IsSend d.outs

-- what was in flight is told first, and is the end
pub record Lands (s : LogState) (d : Done) : Type 0 where
  pub old : FlightState
  pub was : s.flight ≡ Some old
  pub end : d.state.end ≡ end_of old.segment
  pub rest : List Out
  pub outs : d.outs ≡ Settled (end_of old.segment) (rows_of old.segment) ∷ rest
  pub sends : AllByRecursion IsSend rest

pub record Turns (l : ℕ) (s : LogState) (d : Done) : Type 0 where
  pub next : LogNext l d.state
  pub went : Rests s d ⊎ Lands s d

-- and it rests
pub record Stays (l : ℕ) (s : LogState) (d : Done) : Type 0 where
  pub next : LogNext l d.state
  pub rests : Rests s d

pub some_is : {X : Type 0} (x y : X) → Some x ≡ Some y → x ≡ y
some_is x y same = cc

-- ---- what is in flight

module _ (l : ℕ) where
  pub same_next : (s t : LogState) → t.log ≡ s.log → t.flight ≡ s.flight → t.end ≡ s.end → LogNext l s → LogNext l t
  same_next s t log flight end h = record {
    own = log ∙ h.own;
    of = λ f fact. h.of f (sym flight ∙ fact) ∙ sym log;
    next = λ f fact. h.next f (sym flight ∙ fact) ∙ ap (λ e. suc e.seq) (sym end);
  }

  pub none_next : (t : LogState) → t.log ≡ record { 0 = l } → t.flight ≡ None → LogNext l t
  none_next t own none = record { own = own; of = λ f fact. absurd (some_none f (sym fact ∙ none)); next = λ f fact. absurd (some_none f (sym fact ∙ none)) }

  flying : (t : LogState) (g : FlightState) → t.log ≡ record { 0 = l } → g.segment.name.log ≡ t.log → g.segment.name.seq ≡ suc t.end.seq
      → LogNext l (record t { flight = Some g })
  flying t g own of next = record {
    own = own;
    of = λ f fact. ap (λ (x : FlightState). x.segment.name.log) (sym (some_is g f fact)) ∙ of;
    next = λ f fact. ap (λ (x : FlightState). x.segment.name.seq) (sym (some_is g f fact)) ∙ next;
  }

  launched_stays : (s t : LogState) (name : SegName) (prior : Prior) (items : List Item) → t.end ≡ s.end → t.log ≡ record { 0 = l } → name.log ≡ t.log
      → name.seq ≡ suc t.end.seq → Stays l s (log_launch t name prior items)
  unfolding log_launch
  launched_stays s t name prior items end own of next = record {
    next = flying t (flown name prior items (group_for t.groups t.log.0 name.seq)) own of next;
    rests = record { same = end; sends = all_send (flown name prior items (group_for t.groups t.log.0 name.seq)) };
  }

  still_stays : (s t : LogState) → t.end ≡ s.end → LogNext l t → Stays l s (still t)
  still_stays s t end h = record { next = h; rests = record { same = end; sends = tt } }

  after_end : (t : LogState) → (next_name t).seq ≡ suc t.end.seq
  after_end t = let e = t.end.seq in omega arith

  sealed_stays : (s t : LogState) → t.end ≡ s.end → LogNext l t → Stays l s (log_seal t)
  unfolding log_seal
  sealed_stays s t end h =
      launched_stays s (record t { dirty = drop segment_blocks t.dirty }) (next_name (record t { dirty = drop segment_blocks t.dirty })) (prior_from t.end)
      (items_of 0 (take segment_blocks t.dirty)) end h.own refl (after_end t)

  log_go_on_stays : (s t : LogState) → t.end ≡ s.end → LogNext l t → Stays l s (log_go_on t)
  unfolding log_go_on
  log_go_on_stays s t end h = by_test (Stays l s) (is_full t) (log_seal t) (still t) (λ _. sealed_stays s t end h) (λ _. still_stays s t end h)

  module _ (s : LogState) (h : LogNext l s) where
    pub put_stays : (block : BlockId) (change : Change) → Stays l s (on_put s block change)
    unfolding on_put
    put_stays block change =
        by_test (Stays l s) (can_go_on (waits s block change)) (log_go_on (waits s block change)) (still s)
        (λ _. log_go_on_stays s (waits s block change) refl (same_next s (waits s block change) refl refl refl h)) (λ _. still_stays s s refl h)

    pub seal_stays : Stays l s (on_seal s)
    unfolding on_seal
    seal_stays = by_test (Stays l s) (is_idle s && nat_lt 0 (length s.dirty) && has_next s.end.seq) (log_seal s) (still s) (λ _. sealed_stays s s refl h)
        (λ _. still_stays s s refl h)

    pub parts_stay : (items : List Item) → Stays l s (on_parts s items)
    unfolding on_parts
    parts_stay items =
        by_test (Stays l s) (is_idle s && has_next s.end.seq && has_text items) (log_write s items) (still s)
        (λ _. launched_stays s s (next_name s) (prior_from s.end) items refl h.own refl (after_end s)) (λ _. still_stays s s refl h)

    pub tick_stays : Stays l s (on_tick s)
    unfolding on_tick
    tick_stays = by s.flight
      where
        by : (o : Option FlightState) → Stays l s (elim o [ None ↦ still s | Some f ↦ record { state = s; outs = sending_send f } ])
        by None = still_stays s s refl h
        by (Some f) = record { next = h; rests = record { same = refl; sends = all_send f } }

    stay_turns : (d : Done) → Stays l s d → Turns l s d
    stay_turns d k = record { next = k.next; went = inl k.rests }

    -- ---- a segment is settled

    -- the segment in flight, of which something may be noted
    module _ (t : LogState) (log : t.log ≡ s.log) (end : t.end ≡ s.end) (f g : FlightState) (was : s.flight ≡ Some f) (segment : g.segment ≡ f.segment) where
      of_log : g.segment.name.log ≡ t.log
      of_log = ap (λ (x : Segment). x.name.log) segment ∙ h.of f was ∙ sym log

      at_next : g.segment.name.seq ≡ suc t.end.seq
      at_next = ap (λ (x : Segment). x.name.seq) segment ∙ h.next f was ∙ ap (λ e. suc e.seq) (sym end)

      settles : Turns l s (settled t g)
      unfolding settled
      settles =
          let u = landed t g in
          let k = log_go_on_stays u u refl (none_next u (log ∙ h.own) refl) in
          record {
            next = k.next;
            went = inr (record {
              old = f;
              was = was;
              end = k.rests.same ∙ ap end_of segment;
              rest = (log_go_on u).outs;
              outs = ap (λ (x : Segment). Settled (end_of x) (rows_of x) ∷ (log_go_on u).outs) segment;
              sends = k.rests.sends;
            });
          }

      follows_turn : (fate : Fate) → Turns l s (followed t g fate)
      unfolding restriped
      follows_turn Restripe = stay_turns (restriped t g)
          (launched_stays s t (next_attempt g.segment.name) g.segment.prior g.segment.items end (log ∙ h.own) of_log at_next)
      follows_turn Settle = settles
      follows_turn Wait = stay_turns (still (record t { flight = Some g }))
          (still_stays s (record t { flight = Some g }) end (flying t g (log ∙ h.own) of_log at_next))

      looks_turn : Turns l s (looked_at s t g)
      unfolding looked_at
      looks_turn = by_test (Turns l s) (can_follow t g (fate_of t.groups g)) (followed t g (fate_of t.groups g)) (still s)
          (λ _. follows_turn (fate_of t.groups g)) (λ _. stay_turns (still s) (still_stays s s refl h))

    acked_turns : (name : SegName) (index generation : ℕ) → Turns l s (on_acked s name index generation)
    unfolding on_acked
    acked_turns name index generation = by s.flight refl
      where
        by : (o : Option FlightState) → s.flight ≡ o
            → Turns l s (elim o [ None ↦ still s | Some f ↦ cond (is_of f name index generation) (looked_at s s (flight_note f index)) (still s) ])
        by None fact = stay_turns (still s) (still_stays s s refl h)
        by (Some f) fact = by_test (Turns l s) (is_of f name index generation) (looked_at s s (flight_note f index)) (still s)
            (λ _. looks_turn s refl refl f (flight_note f index) fact refl) (λ _. stay_turns (still s) (still_stays s s refl h))

    maps_turn : (groups : GroupMapState) → Turns l s (on_maps s groups)
    unfolding on_maps
    maps_turn groups = by s.flight refl
      where
        by : (o : Option FlightState) → s.flight ≡ o
            → Turns l s (elim o [ None ↦ still (record s { groups = groups }) | Some f ↦ looked_at s (record s { groups = groups }) f ])
        by None fact = stay_turns (still (record s { groups = groups }))
            (still_stays s (record s { groups = groups }) refl (same_next s (record s { groups = groups }) refl refl refl h))
        by (Some f) fact = looks_turn (record s { groups = groups }) refl refl f f fact refl

    pub log_turns : (i : In) → Turns l s (transition s i)
    log_turns (Put block entry value) = stay_turns (on_put s block (record { entry = entry; value = value }))
        (put_stays block (record { entry = entry; value = value }))
    log_turns (Parts items) = stay_turns (on_parts s items) (parts_stay items)
    log_turns Seal = stay_turns (on_seal s) seal_stays
    log_turns (Acked name index generation) = acked_turns name index generation
    log_turns (Maps groups) = maps_turn groups
    log_turns Tick = stay_turns (on_tick s) tick_stays
