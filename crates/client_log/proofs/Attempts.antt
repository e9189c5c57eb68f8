-- What a flight is to the state before.
use Rattle.std.proofs.Common.{◌≡◌, ℕ, Bool, true, false, cond, ◌⊎◌, inl, inr, List, Option, Some, None, refl, sym, ap, subst, ◌∙◌, take, drop}
use Rattle.std.specs.Prelude.{IfSome, MatchOption, ◌&&◌, is_none, nat_lt, nat_le, length}
use Rattle.std.proofs.lemmas.Bool.{true≢false, and_parts}
use Rattle.xfs_base.specs.declared.segment.End.{End}
use Rattle.xfs_base.specs.declared.segment.SegName.{SegName}
use Rattle.xfs_base.specs.Limits.{segment_blocks}
use Rattle.xfs_base.specs.Steps.{still}
use Rattle.segment_format.specs.declared.segment.Item.{Item}
use Rattle.segment_format.specs.declared.segment.Segment.{Segment}
use Rattle.group_map.specs.GroupMapState.{GroupMapState}
use Rattle.log_flight.specs.declared.dirty.Change.{Change}
use Rattle.log_flight.specs.declared.flight.Fate.{Fate}
use Rattle.log_flight.specs.declared.flight.Fate.TheVariants.{Restripe, Settle, Wait}
use Rattle.log_flight.specs.Fate.{fate_of}
use Rattle.log_flight.specs.Flights.{FlightState, is_of, flight_note}
use Rattle.log_flight.specs.Items.{items_of}
use Rattle.log_flight.specs.Texts.{has_text}
use Rattle.client_log.specs.declared.input.In.{In}
use Rattle.client_log.specs.declared.input.In.TheVariants.{Put, Parts, Seal, Acked, Maps, Tick}
use Rattle.client_log.specs.LogState.{LogState}
use Rattle.client_log.specs.Transition.{Done, sending_send, log_launch, log_write, has_next, is_idle, is_full, can_go_on, log_seal, log_go_on, waits, on_put, on_seal, on_parts, next_attempt, restriped, end_of, landed, settled, can_follow, followed, looked_at, on_acked, on_maps, on_tick, transition}
use Rattle.client_log.specs.History.{groups_with, noted_by, Follows, FlightFollows}

-- what flew, if anything did, is this end
abbrev Landed : LogState → End → Type 0
Landed s end = IfSome s.flight (λ f. end ≡ end_of f.segment)

none_flew : (o : Option FlightState) (end : End) → is_none o ≡ true → IfSome o (λ f. end ≡ end_of f.segment)
none_flew None end e = tt
none_flew (Some f) end e = absurd (true≢false (sym e))

module _ (s : LogState) (input : In) where
  abbrev Flies : Done → Type 0
  Flies d = FlightFollows s input d.state

  -- the flight is still there
  same : (t : LogState) → t.flight ≡ s.flight → FlightFollows s input t
  same t e = elim t.flight as (λ o. o ≡ s.flight → MatchOption o (Landed s t.end) (Follows s input t)) [
    | None ↦ λ h. subst (λ o. IfSome o (λ f. t.end ≡ end_of f.segment)) h tt
    | Some g ↦ λ h. inl (record { flight = g; was = sym h; segment = refl; group = refl; noted = inl refl })
  ] e

  begun_writes : (t : LogState) (items : List Item) → Landed s t.end → Flies (log_write t items)
  unfolding log_launch
  begun_writes t items l = inr (inr (record { seq = refl; att = refl; prior = refl; noted = refl; landed = l }))

  begun_sealed : (t : LogState) → Landed s t.end → Flies (log_seal t)
  unfolding log_seal
  begun_sealed t l = begun_writes (record t { dirty = drop segment_blocks t.dirty }) (items_of 0 (take segment_blocks t.dirty)) l

  flies_if_full : (t : LogState) → FlightFollows s input t → (is_full t ≡ true → Landed s t.end) → Flies (log_go_on t)
  unfolding log_go_on
  flies_if_full t k l =
      elim (is_full t) as (λ b. is_full t ≡ b → Flies (cond b (log_seal t) (still t))) [ true ↦ λ e. begun_sealed t (l e) | false ↦ λ e. k ] refl

  flies_put : (block : _) (change : Change) → Flies (on_put s block change)
  unfolding on_put
  flies_put block change =
      let t : LogState = waits s block change in
      let idle : is_full t ≡ true → Landed s s.end = λ e. none_flew s.flight s.end (and_parts (is_idle s) (nat_le segment_blocks (length t.dirty)) e).0 in
      elim (can_go_on t) as (λ b. Flies (cond b (log_go_on t) (still s))) [ true ↦ flies_if_full t (same t refl) idle | false ↦ same s refl ]

  flies_seal : Flies (on_seal s)
  unfolding on_seal
  flies_seal =
      let may : Bool = is_idle s && nat_lt 0 (length s.dirty) in
      elim (may && has_next s.end.seq) as (λ b. (may && has_next s.end.seq) ≡ b → Flies (cond b (log_seal s) (still s))) [
        | true ↦ λ e. begun_sealed s
            (none_flew s.flight s.end (and_parts (is_idle s) (nat_lt 0 (length s.dirty)) (and_parts may (has_next s.end.seq) e).0).0)
        | false ↦ λ e. same s refl
      ] refl

  flies_parts : (items : List Item) → Flies (on_parts s items)
  unfolding on_parts
  flies_parts items =
      let may : Bool = is_idle s && has_next s.end.seq in
      elim (may && has_text items) as (λ b. (may && has_text items) ≡ b → Flies (cond b (log_write s items) (still s))) [
        | true ↦ λ e. begun_writes s items
            (none_flew s.flight s.end (and_parts (is_idle s) (has_next s.end.seq) (and_parts may (has_text items) e).0).0)
        | false ↦ λ e. same s refl
      ] refl

  -- f was in flight; g is it, perhaps with what the input notes
  module _ (t : LogState) (f g : FlightState) (was : s.flight ≡ Some f) (segment : g.segment ≡ f.segment) (group : g.group ≡ f.group)
      (noted : (g.noted ≡ f.noted) ⊎ (g.noted ≡ (noted_by f input).noted))
      (looks : fate_of (groups_with s.groups input) (noted_by f input) ≡ fate_of t.groups g) where
    flies_followed : (fate : Fate) → fate_of t.groups g ≡ fate → Flies (followed t g fate)
    unfolding restriped log_launch settled
    flies_followed Restripe e = inr (inl (record {
      flight = f;
      was = was;
      name = ap (λ (x : Segment). next_attempt x.name) segment;
      items = ap (λ (x : Segment). x.items) segment;
      prior = ap (λ (x : Segment). x.prior) segment;
      noted = refl;
      due = looks ∙ e;
    }))
    flies_followed Settle e =
        let is_end : Landed s (end_of g.segment) = subst (λ o. IfSome o (λ x. end_of g.segment ≡ end_of x.segment)) (sym was) (ap end_of segment) in
        flies_if_full (landed t g) is_end (λ full. is_end)
    flies_followed Wait e = inl (record { flight = f; was = was; segment = segment; group = group; noted = noted })

    flies_looked : Flies (looked_at s t g)
    unfolding looked_at
    flies_looked =
        elim (can_follow t g (fate_of t.groups g)) as (λ b. Flies (cond b (followed t g (fate_of t.groups g)) (still s))) [
          | true ↦ flies_followed (fate_of t.groups g) refl
          | false ↦ same s refl
        ]

  flies_tick : Flies (on_tick s)
  unfolding on_tick
  flies_tick = elim s.flight as (λ o. Flies (elim o [ None ↦ still s | Some f ↦ record { state = s; outs = sending_send f } ]))
      [ None ↦ same s refl | Some f ↦ same s refl ]

-- the same of a step
abbrev FliesOn : LogState → In → Done → Type 0
FliesOn s input d = Flies s input d

flies_acked : (s : LogState) (name : SegName) (index generation : ℕ) → FliesOn s (Acked name index generation) (on_acked s name index generation)
unfolding on_acked
flies_acked s name index generation =
    let input : In = Acked name index generation in
    elim s.flight as
    (λ o. s.flight ≡ o
    → FliesOn s input (elim o [ None ↦ still s | Some f ↦ cond (is_of f name index generation) (looked_at s s (flight_note f index)) (still s) ])) [
      | None ↦ λ e. same s input s refl
      | Some f ↦ λ e. elim (is_of f name index generation) as
          (λ b. is_of f name index generation ≡ b → FliesOn s input (cond b (looked_at s s (flight_note f index)) (still s))) [
            | true ↦ λ fact. flies_looked s input s f (flight_note f index) e refl refl
                (inr (ap (λ b. (cond b (flight_note f index) f).noted) (sym fact))) (ap (λ b. fate_of s.groups (cond b (flight_note f index) f)) fact)
            | false ↦ λ fact. same s input s refl
          ] refl
    ] refl

flies_maps : (s : LogState) (groups : GroupMapState) → FliesOn s (Maps groups) (on_maps s groups)
unfolding on_maps
flies_maps s groups =
    let input : In = Maps groups in
    let t : LogState = record s { groups = groups } in
    elim s.flight as (λ o. s.flight ≡ o → FliesOn s input (elim o [ None ↦ still t | Some f ↦ looked_at s t f ])) [
      | None ↦ λ e. same s input t refl
      | Some f ↦ λ e. flies_looked s input t f f e refl refl (inl refl) refl
    ] refl

pub flies : (s : LogState) (input : In) → FlightFollows s input (transition s input).state
flies s (Put block entry value) = flies_put s (Put block entry value) block (record { entry = entry; value = value })
flies s (Parts items) = flies_parts s (Parts items) items
flies s Seal = flies_seal s Seal
flies s (Acked name index generation) = flies_acked s name index generation
flies s (Maps groups) = flies_maps s groups
flies s Tick = flies_tick s Tick
