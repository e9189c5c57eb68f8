-- What waits, and what is sealed, is what was put last.
use Rattle.std.proofs.Common.{◌≡◌, ℕ, zero, suc, true, false, cond, ◌⊎◌, inl, inr, List, [], ◌∷◌, ◌++◌, Option, Some, None, refl, sym, ap, subst, ◌∙◌, take, drop}
use Rattle.std.specs.Prelude.{IfSome, ◌&&◌, nat_lt, length, if◌then◌else◌}
use Rattle.std.specs.List.{AllByRecursion}
use Rattle.std.proofs.lemmas.Bool.{true≢false}
use Rattle.indexmap.specs.IndexMap.{insert_entry}
use Rattle.xfs_base.specs.declared.block.BlockId.{BlockId}
use Rattle.xfs_base.specs.declared.segment.End.{End}
use Rattle.xfs_base.specs.declared.segment.LogId.{LogId}
use Rattle.xfs_base.specs.declared.segment.SegName.{SegName}
use Rattle.xfs_base.specs.Blocks.{same_block}
use Rattle.xfs_base.specs.Limits.{segment_blocks}
use Rattle.xfs_base.specs.Steps.{still}
use Rattle.xfs_base.proofs.BlockOrder.{same_block_exact, same_block_itself}
use Rattle.segment_format.specs.declared.segment.Item.{Item}
use Rattle.group_map.specs.GroupMapState.{GroupMapState}
use Rattle.log_flight.specs.declared.dirty.Change.{Change}
use Rattle.log_flight.specs.declared.flight.Fate.{Fate}
use Rattle.log_flight.specs.declared.flight.Fate.TheVariants.{Restripe, Settle, Wait}
use Rattle.log_flight.specs.Fate.{fate_of}
use Rattle.log_flight.specs.Flights.{FlightState, is_of, flight_note}
use Rattle.log_flight.specs.Items.{items_of}
use Rattle.log_flight.specs.Texts.{has_text}
use Rattle.client_log.specs.declared.input.In.{In}
use Rattle.client_log.specs.declared.input.In.TheVariants.{Put, Parts, Seal, Acked, Maps, Tick}
use Rattle.client_log.specs.LogState.{LogState, log_start}
use Rattle.client_log.specs.Transition.{Done, sending_send, log_launch, log_write, has_next, is_idle, is_full, can_go_on, log_seal, log_go_on, waits, on_put, on_seal, on_parts, restriped, landed, settled, can_follow, followed, looked_at, on_acked, on_maps, on_tick, transition}
use Rattle.client_log.specs.History.{state_after, put_with, put_by, last_put, AreLastPuts, WereFlying, HoldsLastPuts}

-- ---- lists of changes

-- no block stands twice
Apart : List (BlockId × Change) → Type 0
Apart [] = Unit {0}
Apart (d ∷ ds) = AllByRecursion (λ e. same_block d.0 e.0 ≡ false) ds × Apart ds

-- each change is what is known of its block
abbrev Fresh : (BlockId → Option Change) → List (BlockId × Change) → Type 0
Fresh known ds = AllByRecursion (λ d. known d.0 ≡ Some d.1) ds

all_drop : (P : BlockId × Change → Type 0) (n : ℕ) (ds : List (BlockId × Change)) → AllByRecursion P ds → AllByRecursion P (drop n ds)
all_drop P zero ds h = h
all_drop P (suc n) [] h = h
all_drop P (suc n) (d ∷ ds) h = all_drop P n ds h.1

all_take : (P : BlockId × Change → Type 0) (n : ℕ) (ds : List (BlockId × Change)) → AllByRecursion P ds → AllByRecursion P (take n ds)
all_take P zero ds h = tt
all_take P (suc n) [] h = h
all_take P (suc n) (d ∷ ds) h = (h.0, all_take P n ds h.1)

apart_drop : (n : ℕ) (ds : List (BlockId × Change)) → Apart ds → Apart (drop n ds)
unfolding Apart
apart_drop zero ds a = a
apart_drop (suc n) [] a = a
apart_drop (suc n) (d ∷ ds) a = apart_drop n ds a.1

other_way : (a b : BlockId) → same_block a b ≡ false → same_block b a ≡ false
other_way a b h =
    elim (same_block b a) as (λ t. same_block b a ≡ t → t ≡ false) [
      | true ↦ λ e. absurd (true≢false (sym (same_block_itself b) ∙ ap (λ x. same_block x b) (sym (same_block_exact b a e)) ∙ h))
      | false ↦ λ e. refl
    ] refl

module _ (b : BlockId) (c : Change) where
  apart_head : (k : BlockId) → same_block k b ≡ false → (es : List (BlockId × Change)) → AllByRecursion (λ e. same_block k e.0 ≡ false) es
      → AllByRecursion (λ e. same_block k e.0 ≡ false) (insert_entry same_block es b c)
  apart_head k h [] a = (h, tt)
  apart_head k h (e ∷ es) a =
      elim (same_block b e.0) as (λ t. AllByRecursion (λ x. same_block k x.0 ≡ false) (cond t ((e.0, c) ∷ es) (e ∷ insert_entry same_block es b c))) [
        | true ↦ (a.0, a.1)
        | false ↦ (a.0, apart_head k h es a.1)
      ]

  apart_insert : (ds : List (BlockId × Change)) → Apart ds → Apart (insert_entry same_block ds b c)
  unfolding Apart
  apart_insert [] a = (tt, tt)
  apart_insert (d ∷ ds) a =
      elim (same_block b d.0) as (λ t. same_block b d.0 ≡ t → Apart (cond t ((d.0, c) ∷ ds) (d ∷ insert_entry same_block ds b c))) [
        | true ↦ λ e. (a.0, a.1)
        | false ↦ λ e. (apart_head d.0 (other_way b d.0 e) ds a.0, apart_insert ds a.1)
      ] refl

  module _ (known : BlockId → Option Change) where
    abbrev now : BlockId → Option Change
    now x = if same_block b x then Some c else known x

    others_fresh : (ds : List (BlockId × Change)) → AllByRecursion (λ e. same_block b e.0 ≡ false) ds → Fresh known ds → Fresh now ds
    others_fresh [] a f = tt
    others_fresh (d ∷ ds) a f = (ap (λ t. cond t (Some c) (known d.0)) a.0 ∙ f.0, others_fresh ds a.1 f.1)

    fresh_insert : (ds : List (BlockId × Change)) → Apart ds → Fresh known ds → Fresh now (insert_entry same_block ds b c)
    unfolding Apart
    fresh_insert [] a f = (ap (λ t. cond t (Some c) (known b)) (same_block_itself b), tt)
    fresh_insert (d ∷ ds) a f =
        elim (same_block b d.0) as (λ t. same_block b d.0 ≡ t → Fresh now (cond t ((d.0, c) ∷ ds) (d ∷ insert_entry same_block ds b c))) [
          | true ↦ λ e. (
            ap (λ t. cond t (Some c) (known d.0)) e,
            others_fresh ds (subst (λ k. AllByRecursion (λ x. same_block k x.0 ≡ false) ds) (same_block_exact b d.0 e) a.0) f.1,
          )
          | false ↦ λ e. (ap (λ t. cond t (Some c) (known d.0)) e ∙ f.0, fresh_insert ds a.1 f.1)
        ] refl

-- ---- what is left to wait

-- what waited waits, or the first of it left
abbrev Kept : LogState → Done → Type 0
Kept t d = (d.state.dirty ≡ t.dirty) ⊎ (d.state.dirty ≡ drop segment_blocks t.dirty)

kept_sealed : (t : LogState) → Kept t (log_seal t)
unfolding log_seal log_launch
kept_sealed t = inr refl

kept_if_full : (t : LogState) → Kept t (log_go_on t)
unfolding log_go_on
kept_if_full t = elim (is_full t) as (λ b. Kept t (cond b (log_seal t) (still t))) [ true ↦ kept_sealed t | false ↦ inl refl ]

kept_followed : (t : LogState) (g : FlightState) (fate : Fate) → Kept t (followed t g fate)
unfolding restriped log_launch settled
kept_followed t g Restripe = inl refl
kept_followed t g Settle = kept_if_full (landed t g)
kept_followed t g Wait = inl refl

kept_looked : (before t : LogState) (g : FlightState) → t.dirty ≡ before.dirty → Kept before (looked_at before t g)
unfolding looked_at
kept_looked before t g e =
    elim (can_follow t g (fate_of t.groups g)) as (λ b. Kept before (cond b (followed t g (fate_of t.groups g)) (still before))) [
      | true ↦ elim (kept_followed t g (fate_of t.groups g)) as (λ k. Kept before (followed t g (fate_of t.groups g)))
          [ inl h ↦ inl (h ∙ e) | inr h ↦ inr (h ∙ ap (drop segment_blocks) e) ]
      | false ↦ inl refl
    ]

kept_seal : (s : LogState) → Kept s (on_seal s)
unfolding on_seal
kept_seal s =
    elim (is_idle s && nat_lt 0 (length s.dirty) && has_next s.end.seq) as (λ b. Kept s (cond b (log_seal s) (still s)))
    [ true ↦ kept_sealed s | false ↦ inl refl ]

kept_parts : (s : LogState) (items : List Item) → Kept s (on_parts s items)
unfolding on_parts log_launch
kept_parts s items =
    elim (is_idle s && has_next s.end.seq && has_text items) as (λ b. Kept s (cond b (log_write s items) (still s))) [ true ↦ inl refl | false ↦ inl refl ]

kept_acked : (s : LogState) (name : SegName) (index generation : ℕ) → Kept s (on_acked s name index generation)
unfolding on_acked
kept_acked s name index generation =
    elim s.flight as (λ o. Kept s (elim o [ None ↦ still s | Some f ↦ cond (is_of f name index generation) (looked_at s s (flight_note f index)) (still s) ])) [
      | None ↦ inl refl
      | Some f ↦ elim (is_of f name index generation) as (λ b. Kept s (cond b (looked_at s s (flight_note f index)) (still s)))
          [ true ↦ kept_looked s s (flight_note f index) refl | false ↦ inl refl ]
    ]

kept_maps : (s : LogState) (groups : GroupMapState) → Kept s (on_maps s groups)
unfolding on_maps
kept_maps s groups =
    let t : LogState = record s { groups = groups } in
    elim s.flight as (λ o. Kept s (elim o [ None ↦ still t | Some f ↦ looked_at s t f ])) [ None ↦ inl refl | Some f ↦ kept_looked s t f refl ]

kept_tick : (s : LogState) → Kept s (on_tick s)
unfolding on_tick
kept_tick s =
    elim s.flight as (λ o. Kept s (elim o [ None ↦ still s | Some f ↦ record { state = s; outs = sending_send f } ])) [ None ↦ inl refl | Some f ↦ inl refl ]

-- ---- over a history

record Waiting (known : BlockId → Option Change) (dirty : List (BlockId × Change)) : Type 0 where
  fresh : Fresh known dirty
  apart : Apart dirty

waiting_kept : (known : BlockId → Option Change) (t : LogState) (d : Done) → Kept t d → Waiting known t.dirty → Waiting known d.state.dirty
waiting_kept known t d (inl e) w = subst (Waiting known) (sym e) w
waiting_kept known t d (inr e) w =
    subst (Waiting known) (sym e)
    (record { fresh = all_drop (λ x. known x.0 ≡ Some x.1) segment_blocks t.dirty w.fresh; apart = apart_drop segment_blocks t.dirty w.apart })

waiting_put : (b : BlockId) (c : Change) (known : BlockId → Option Change) (s : LogState) → Waiting known s.dirty → Waiting (now b c known) (waits s b c).dirty
waiting_put b c known s w = record { fresh = fresh_insert b c known s.dirty w.apart w.fresh; apart = apart_insert b c s.dirty w.apart }

put_waits : (b : BlockId) (c : Change) (known : BlockId → Option Change) (s : LogState) → Waiting known s.dirty
    → Waiting (λ x. cond (can_go_on (waits s b c)) (now b c known x) (known x)) (on_put s b c).state.dirty
unfolding on_put
put_waits b c known s w =
    let t : LogState = waits s b c in
    elim (can_go_on t) as (λ g. Waiting (λ x. cond g (now b c known x) (known x)) (cond g (log_go_on t) (still s)).state.dirty) [
      | true ↦ waiting_kept (now b c known) t (log_go_on t) (kept_if_full t) (waiting_put b c known s w)
      | false ↦ w
    ]

abbrev Known : Type 0
Known = BlockId → Option Change

-- what waits after an input
waiting_after : (s : LogState) (input : In) (known : Known) → Waiting known s.dirty
    → Waiting (λ b. put_with s input b (known b)) (transition s input).state.dirty
waiting_after s (Put block entry value) known w = put_waits block (record { entry = entry; value = value }) known s w
waiting_after s (Parts items) known w = waiting_kept known s (on_parts s items) (kept_parts s items) w
waiting_after s Seal known w = waiting_kept known s (on_seal s) (kept_seal s) w
waiting_after s (Acked name index generation) known w =
    waiting_kept known s (on_acked s name index generation) (kept_acked s name index generation) w
waiting_after s (Maps groups) known w = waiting_kept known s (on_maps s groups) (kept_maps s groups) w
waiting_after s Tick known w = waiting_kept known s (on_tick s) (kept_tick s) w

waiting_by : (s : LogState) (inputs : List In) (known : Known) → Waiting known s.dirty → Waiting (λ b. put_by s inputs b (known b)) (state_after s inputs).dirty
waiting_by s [] known w = w
waiting_by s (input ∷ later) known w = waiting_by (transition s input).state later (λ b. put_with s input b (known b)) (waiting_after s input known w)

waiting : (start : LogState) → start.dirty ≡ [] → (history : List In) → Waiting (last_put start history) (state_after start history).dirty
unfolding Apart
waiting start e history = waiting_by start history (λ b. None) (subst (Waiting (λ b. None)) (sym e) (record { fresh = tt; apart = tt }))

pub last_waits : (log : LogId) (inc : ℕ) (end : End) (groups : GroupMapState) (history : List In)
    → AreLastPuts (log_start log inc end groups) history (state_after (log_start log inc end groups) history).dirty
last_waits log inc end groups history = (waiting (log_start log inc end groups) refl history).fresh

-- ---- what is sealed

module _ (s : LogState) (Held : List Item → Type 0) (same : (items : List Item) → WereFlying s items → Held items) where
  abbrev Holds : Done → Type 0
  Holds d = IfSome d.state.flight (λ g. Held g.segment.items)

  held_still : (t : LogState) → t.flight ≡ s.flight → Holds (still t)
  held_still t e = elim t.flight as (λ o. o ≡ s.flight → IfSome o (λ g. Held g.segment.items)) [
    | None ↦ λ h. tt
    | Some g ↦ λ h. same g.segment.items (record { flight = g; was = sym h; same = refl })
  ] e

  held_writes : (t : LogState) (items : List Item) → Held items → Holds (log_write t items)
  unfolding log_launch
  held_writes t items h = h

  held_sealed : (t : LogState) → Held (items_of 0 (take segment_blocks t.dirty)) → Holds (log_seal t)
  unfolding log_seal
  held_sealed t h = held_writes (record t { dirty = drop segment_blocks t.dirty }) (items_of 0 (take segment_blocks t.dirty)) h

  held_if_full : (t : LogState) → Holds (still t) → Held (items_of 0 (take segment_blocks t.dirty)) → Holds (log_go_on t)
  unfolding log_go_on
  held_if_full t k h = elim (is_full t) as (λ b. Holds (cond b (log_seal t) (still t))) [ true ↦ held_sealed t h | false ↦ k ]

  held_looked : (t : LogState) (f g : FlightState) → s.flight ≡ Some f → g.segment.items ≡ f.segment.items → Held (items_of 0 (take segment_blocks t.dirty))
      → Holds (looked_at s t g)
  unfolding looked_at restriped log_launch settled
  held_looked t f g was e h =
      let again : Held g.segment.items = same g.segment.items (record { flight = f; was = was; same = e }) in
      elim (can_follow t g (fate_of t.groups g)) as (λ b. Holds (cond b (followed t g (fate_of t.groups g)) (still s))) [
        | true ↦ elim (fate_of t.groups g) as (λ fate. Holds (followed t g fate)) [
          | Restripe ↦ again
          | Settle ↦ held_if_full (landed t g) tt h
          | Wait ↦ again
        ]
        | false ↦ held_still s refl
      ]

-- one more input is heard last
put_behind : (s : LogState) (history : List In) (input : In) (b : BlockId) (last : Option Change)
    → put_by s (history ++ input ∷ []) b last ≡ put_with (state_after s history) input b (put_by s history b last)
put_behind s [] input b last = refl
put_behind s (x ∷ history) input b last = put_behind (transition s x).state history input b (put_with s x b last)

module _ (start : LogState) (empty : start.dirty ≡ []) (history : List In) where
  abbrev past : LogState
  past = state_after start history

  abbrev known : BlockId → Option Change
  known = last_put start history

  -- what is put last once the input is heard, too
  abbrev known_then : In → BlockId → Option Change
  known_then input b = put_with past input b (known b)

  put_last : (input : In) (changes : List (BlockId × Change)) → Fresh (known_then input) changes → AreLastPuts start (history ++ input ∷ []) changes
  put_last input [] h = tt
  put_last input (c ∷ changes) h = (put_behind start history input c.0 None ∙ h.0, put_last input changes h.1)

  -- those that wait first, where they are what was put last
  first_last : (input : In) (dirty : List (BlockId × Change)) → Fresh (known_then input) (take segment_blocks dirty)
      → HoldsLastPuts start history input (items_of 0 (take segment_blocks dirty))
  first_last input dirty h =
      inr (inr (record { changes = take segment_blocks dirty; last = put_last input (take segment_blocks dirty) h; written = refl }))

  known_first : Fresh known (take segment_blocks past.dirty)
  known_first = all_take (λ x. known x.0 ≡ Some x.1) segment_blocks past.dirty (waiting start empty history).fresh

  abbrev Seals : In → Done → Type 0
  Seals input d = IfSome d.state.flight (λ g. HoldsLastPuts start history input g.segment.items)

  seals_put : (input : In) (b : BlockId) (c : Change)
      → ((can_go_on (waits past b c) ≡ true) → Fresh (now b c known) (take segment_blocks (waits past b c).dirty)
      → Fresh (known_then input) (take segment_blocks (waits past b c).dirty)) → Seals input (on_put past b c)
  unfolding on_put
  seals_put input b c last =
      let t : LogState = waits past b c in
      let fresh : Fresh (now b c known) (take segment_blocks t.dirty) =
      all_take (λ x. now b c known x.0 ≡ Some x.1) segment_blocks t.dirty (waiting_put b c known past (waiting start empty history)).fresh in
      elim (can_go_on t) as (λ g. can_go_on t ≡ g → Seals input (cond g (log_go_on t) (still past))) [
        | true ↦ λ e. held_if_full past (HoldsLastPuts start history input) (λ items w. inl w) t
            (held_still past (HoldsLastPuts start history input) (λ items w. inl w) t refl) (first_last input t.dirty (last e fresh))
        | false ↦ λ e. held_still past (HoldsLastPuts start history input) (λ items w. inl w) past refl
      ] refl

  seals_seal : Seals Seal (on_seal past)
  unfolding on_seal
  seals_seal = elim (is_idle past && nat_lt 0 (length past.dirty) && has_next past.end.seq) as (λ b. Seals Seal (cond b (log_seal past) (still past))) [
    | true ↦ held_sealed past (HoldsLastPuts start history Seal) (λ items w. inl w) past (first_last Seal past.dirty known_first)
    | false ↦ held_still past (HoldsLastPuts start history Seal) (λ items w. inl w) past refl
  ]

  seals_parts : (items : List Item) → Seals (Parts items) (on_parts past items)
  unfolding on_parts
  seals_parts items = elim (is_idle past && has_next past.end.seq && has_text items) as (λ b. Seals (Parts items) (cond b (log_write past items) (still past))) [
    | true ↦ held_writes past (HoldsLastPuts start history (Parts items)) (λ fact w. inl w) past items (inr (inl refl))
    | false ↦ held_still past (HoldsLastPuts start history (Parts items)) (λ fact w. inl w) past refl
  ]

  seals_acked : (name : SegName) (index generation : ℕ) → Seals (Acked name index generation) (on_acked past name index generation)
  unfolding on_acked
  seals_acked name index generation =
      let input : In = Acked name index generation in
      let quiet : Seals input (still past) = held_still past (HoldsLastPuts start history input) (λ items w. inl w) past refl in
      elim past.flight as
      (λ o. past.flight ≡ o
      → Seals input (elim o [ None ↦ still past | Some f ↦ cond (is_of f name index generation) (looked_at past past (flight_note f index)) (still past) ])) [
        | None ↦ λ e. quiet
        | Some f ↦ λ e. elim (is_of f name index generation) as (λ b. Seals input (cond b (looked_at past past (flight_note f index)) (still past))) [
          | true ↦ held_looked past (HoldsLastPuts start history input) (λ items w. inl w) past f (flight_note f index) e refl
              (first_last input past.dirty known_first)
          | false ↦ quiet
        ]
      ] refl

  seals_maps : (groups : GroupMapState) → Seals (Maps groups) (on_maps past groups)
  unfolding on_maps
  seals_maps groups =
      let input : In = Maps groups in
      let t : LogState = record past { groups = groups } in
      elim past.flight as (λ o. past.flight ≡ o → Seals input (elim o [ None ↦ still t | Some f ↦ looked_at past t f ])) [
        | None ↦ λ e. held_still past (HoldsLastPuts start history input) (λ items w. inl w) t refl
        | Some f ↦ λ e. held_looked past (HoldsLastPuts start history input) (λ items w. inl w) t f f e refl (first_last input past.dirty known_first)
      ] refl

  seals_tick : Seals Tick (on_tick past)
  unfolding on_tick
  seals_tick =
      let quiet : Seals Tick (still past) = held_still past (HoldsLastPuts start history Tick) (λ items w. inl w) past refl in
      elim past.flight as (λ o. Seals Tick (elim o [ None ↦ still past | Some f ↦ record { state = past; outs = sending_send f } ]))
      [ None ↦ quiet | Some f ↦ quiet ]

  seals : (input : In) → Seals input (transition past input)
  seals (Put block entry value) = seals_put (Put block entry value) block (record { entry = entry; value = value }) (λ e fresh.
      subst (λ g. AllByRecursion (λ x. cond g (now block (record { entry = entry; value = value }) known x.0) (known x.0) ≡ Some x.1)
      (take segment_blocks (waits past block (record { entry = entry; value = value })).dirty)) (sym e) fresh)
  seals (Parts items) = seals_parts items
  seals Seal = seals_seal
  seals (Acked name index generation) = seals_acked name index generation
  seals (Maps groups) = seals_maps groups
  seals Tick = seals_tick

pub last_sealed : (log : LogId) (inc : ℕ) (end : End) (groups : GroupMapState) (history : List In) (input : In)
    → IfSome (transition (state_after (log_start log inc end groups) history) input).state.flight
    (λ g. HoldsLastPuts (log_start log inc end groups) history input g.segment.items)
last_sealed log inc end groups history input = seals (log_start log inc end groups) refl history input
