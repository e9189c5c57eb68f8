-- The last Stored comes to a client whose segment is in flight, where no block is to be given up: the segment is settled, its deltas go to all slots, and the
-- sync that waits is answered, in one event.
use Rattle.std.proofs.Common.{◌≡◌, ℕ, ◌+◌, ◌<◌, ◌&&◌, ◌||◌, not, Bool, true, false, cond, nat_lt, List, [], ◌∷◌, ◌++◌, drop, take, map, fold, slice_index, Option, Some, None, is_some, refl, ap, ◌∙◌, append-nil, arith}
use Rattle.std.specs.List.{list_any}
use Rattle.client_running.specs.Blocks.{blocks_make, blocks_sync}
use Rattle.client_running.specs.Running.{run}
use Rattle.client_log.specs.declared.output.Out.TheVariants.{Settled}
use Rattle.client_log.specs.Transition as log
use Rattle.client_node.specs.declared.client.Client.{Client as ClientNode}
use Rattle.client_node.specs.Phases.{client_step, on_deliver}
use Rattle.client_call.specs.Calls.{call_new}
use Rattle.client_call.specs.declared.call.Plan.TheVariants.{One}
use Rattle.log_owner.specs.Sealing.{is_settling}
use Rattle.token_client.specs.Settling.{is_to_give}
use Rattle.client_node.specs.Serving.{cached_upto}
use Rattle.client_serving.specs.declared.serving.Serving.{Serving}
use Rattle.client_serving.specs.Flights as flights
use Rattle.client_serving.specs.Flights.{feeds, give_if_clean, gives_up, keep_row, notes_settled, seals_again, settle_rows, serving_settle, write_one}
use Rattle.client_serving.specs.Follow.{evicts, note_clean, serving_seal}
use Rattle.client_serving.specs.Packets.{serving_take}
use Rattle.client_serving.specs.Sends.{Done}
use Rattle.coop_cache.specs.declared.output.Out.TheVariants.{Victim}
use Rattle.coop_cache.specs.Transition.{excess, used_last}
use Rattle.delta_feed.specs.Transition.{feed_push, rows_after}
use Rattle.file_plan.specs.declared.block_call.BlockAnswer.TheVariants as block
use Rattle.file_plan.specs.declared.block_call.BlockCall.TheVariants.{Sync}
use Rattle.log_flight.specs.Fate.{fate_of}
use Rattle.log_flight.specs.declared.flight.Fate.TheVariants.{Settle}
use Rattle.log_flight.specs.Flights.{FlightState, is_of, flight_note}
use Rattle.log_owner.specs.Promised.{managers_start}
use Rattle.log_owner.specs.Sending.{name_of, push_all}
use Rattle.node_base.specs.Beginning.{answers_unanswered}
use Rattle.node_base.specs.declared.effects.Effect.{Effect}
use Rattle.node_base.specs.declared.effects.Effect.TheVariants.{Answer, Does, Send}
use Rattle.node_base.specs.Effects.{acts_of, packets_of}
use Rattle.node_base.specs.Nodes.{has_node, peers_of}
use Rattle.node_base.specs.Shape.{is_name}
use Rattle.segment_format.specs.Rows.{rows_of}
use Rattle.token_client.proofs.Tables.{put_same}
use Rattle.token_client.specs.declared.held.Giving.{Giving}
use Rattle.token_client.specs.declared.held.Held.{Held}
use Rattle.token_client.specs.declared.output.Out.{Out as TokenOut}
use Rattle.token_client.specs.Held.{is_dirty, is_settled_by, let_go, may_evict, version_settled}
use Rattle.token_client.specs.State.{TokensState, dirty_in, held_of, put_held}
use Rattle.token_client.specs.Transition.{on_evict, on_settled}
use Rattle.version_model.specs.declared.act.Act.TheVariants as acts
use Rattle.version_model.specs.declared.answer.Answer.TheVariants.{Done as Finished}
use Rattle.version_model.specs.declared.work.Work.{Work}
use Rattle.wire_msg.specs.declared.body.Body.TheVariants as body
use Rattle.wire_msg.specs.declared.packet.Do.TheVariants.{Deliver}
use Rattle.wire_msg.specs.declared.packet.Packet.{Packet}
use Rattle.wire_msg.specs.NodeStep.{NodeStep}
use Rattle.xfs_base.specs.declared.block.BlockId.{BlockId}
use Rattle.xfs_base.specs.declared.entry.Entry.{Entry}
use Rattle.xfs_base.specs.declared.node.NodeId.{NodeId}
use Rattle.xfs_base.specs.declared.node.NodeId.TheVariants.{Client, Manager, Server}
use Rattle.xfs_base.specs.declared.segment.End.{End}
use Rattle.xfs_base.specs.declared.segment.SegName.{SegName}
use Rattle.xfs_base.specs.declared.setup.Setup.{Setup}
use Rattle.xfs_base.specs.Limits.{all_slots}
use Rattle.xfs_base.specs.Modes.{is_held}
use Rattle.xfs_base.specs.Steps.{saying, steps, still}
use Rattle.quiet_nodes.specs.Scene.{ClientPart, client_at, its_groups, log_at, manager_of_slot, serving_at, tokens_at}
use Rattle.quiet_nodes.proofs.Begins.{HasRoom, room}
use Rattle.quiet_nodes.proofs.Running.{runs_answered, runs_none}
use Rattle.quiet_nodes.proofs.Wanting.{feed_at}

-- ---- what is known of blocks, and which are in the cache

pub record Known : Type 0 where
  pub blocks : List (BlockId × Held)
  pub cached : List BlockId

-- the version of a row is settled
abbrev pub row_settles : Known → BlockId × Entry → Known
row_settles k row =
    record k {
      blocks = cond (is_settled_by (held_of k.blocks row.0) row.1.ver) (put_held k.blocks row.0 (version_settled (held_of k.blocks row.0) row.1.ver)) k.blocks;
    }

-- a block leaves the cache
abbrev pub leaves : Known → BlockId → Known
leaves k b = record k { blocks = cond (may_evict (held_of k.blocks b)) (put_held k.blocks b (let_go (held_of k.blocks b))) k.blocks }

module _ (capacity : ℕ) where
  -- a clean block goes into the cache, and what is too many leaves
  abbrev pub comes_in : Known → BlockId → Known
  comes_in k b =
      fold leaves (record k { cached = drop (excess capacity (used_last b k.cached)) (used_last b k.cached) })
      (take (excess capacity (used_last b k.cached)) (used_last b k.cached))

  abbrev pub row_comes_in : Known → BlockId × Entry → Known
  row_comes_in k row = cond (not (is_dirty (held_of k.blocks row.0)) && is_held (held_of k.blocks row.0).mode) (comes_in k row.0) k

  -- all rows of a segment are settled
  abbrev pub all_settled : Known → List (BlockId × Entry) → Known
  all_settled k rows = fold row_comes_in (fold row_settles k rows) rows

-- ---- no block is to be given up

abbrev pub NoneGiving : List (BlockId × Held) → Type 0
NoneGiving blocks = (b : BlockId) → (held_of blocks b).giving ≡ None

fold_keeps : {X : Type 0} (P : Known → Type 0) (on : Known → X → Known) → ((k : Known) (x : X) → P k → P (on k x)) → (xs : List X) (k : Known) → P k → P (fold on k xs)
fold_keeps P on keeps [] k h = h
fold_keeps P on keeps (x ∷ xs) k h = fold_keeps P on keeps xs (on k x) (keeps k x h)

put_keeps : (blocks : List (BlockId × Held)) (b : BlockId) (h : Held) (t : Bool) → h.giving ≡ (held_of blocks b).giving → NoneGiving blocks
    → NoneGiving (cond t (put_held blocks b h) blocks)
put_keeps blocks b h true same none x = put_same (λ (g : Held). g.giving) x b h blocks same ∙ none x
put_keeps blocks b h false same none x = none x

settles_keeps : (k : Known) (row : BlockId × Entry) → NoneGiving k.blocks → NoneGiving (row_settles k row).blocks
settles_keeps k row none =
    put_keeps k.blocks row.0 (version_settled (held_of k.blocks row.0) row.1.ver) (is_settled_by (held_of k.blocks row.0) row.1.ver) refl none

leaves_keeps : (k : Known) (b : BlockId) → NoneGiving k.blocks → NoneGiving (leaves k b).blocks
leaves_keeps k b none = put_keeps k.blocks b (let_go (held_of k.blocks b)) (may_evict (held_of k.blocks b)) refl none

module _ (capacity : ℕ) where
  comes_in_keeps : (k : Known) (row : BlockId × Entry) → NoneGiving k.blocks → NoneGiving (row_comes_in capacity k row).blocks
  comes_in_keeps k row none =
      elim (not (is_dirty (held_of k.blocks row.0)) && is_held (held_of k.blocks row.0).mode) as (λ t. NoneGiving (cond t (comes_in capacity k row.0) k).blocks) [
        | true ↦ fold_keeps (λ x. NoneGiving x.blocks) leaves leaves_keeps (take (excess capacity (used_last row.0 k.cached)) (used_last row.0 k.cached))
            (record k { cached = drop (excess capacity (used_last row.0 k.cached)) (used_last row.0 k.cached) }) none
        | false ↦ none
      ]

  pub settled_keeps : (k : Known) (rows : List (BlockId × Entry)) → NoneGiving k.blocks → NoneGiving (all_settled capacity k rows).blocks
  settled_keeps k rows none =
      fold_keeps (λ x. NoneGiving x.blocks) (row_comes_in capacity) comes_in_keeps rows (fold row_settles k rows)
      (fold_keeps (λ x. NoneGiving x.blocks) row_settles settles_keeps rows k none)

none_to_give : (t : TokensState) → NoneGiving t.blocks → (bs : List BlockId) → list_any (is_to_give t) bs ≡ false
none_to_give t none [] = refl
none_to_give t none (b ∷ bs) = ap (λ (g : Option Giving). is_some g || list_any (is_to_give t) bs) (none b) ∙ none_to_give t none bs

-- ---- the same at a client

module _ (setup : Setup) (works : NodeId → List Work) (c : ℕ) (p : ClientPart) where
  abbrev capacity : ℕ
  capacity = cached_upto setup.cache

  abbrev pub with_known : Known → ClientPart
  with_known k = record p { blocks = k.blocks; cached = k.cached }

  abbrev at : Known → Serving
  at k = serving_at setup works c (with_known k)

  abbrev with_tokens : Known → TokensState → Serving
  with_tokens k t = record (at k) { tokens = t }

  notes_settled_is : (k : Known) (row : BlockId × Entry) → notes_settled (at k) row ≡ at (row_settles k row)
  unfolding notes_settled on_settled
  notes_settled_is k row =
      elim (is_settled_by (held_of k.blocks row.0) row.1.ver) as
      (λ t. with_tokens k (cond t (still {O = TokenOut} (record (at k).tokens { blocks = put_held k.blocks row.0 (version_settled (held_of k.blocks row.0) row.1.ver) }))
      (still {O = TokenOut} (at k).tokens)).state
      ≡ at (record k { blocks = cond t (put_held k.blocks row.0 (version_settled (held_of k.blocks row.0) row.1.ver)) k.blocks })) [
        | true ↦ refl
        | false ↦ refl
      ]

  evicts_is : (k : Known) (b : BlockId) → evicts (at k) (Victim b) ≡ at (leaves k b)
  unfolding evicts on_evict
  evicts_is k b =
      elim (may_evict (held_of k.blocks b)) as
      (λ t. with_tokens k (cond t (still {O = TokenOut} (record (at k).tokens { blocks = put_held k.blocks b (let_go (held_of k.blocks b)) }))
      (still {O = TokenOut} (at k).tokens)).state
      ≡ at (record k { blocks = cond t (put_held k.blocks b (let_go (held_of k.blocks b))) k.blocks })) [
        | true ↦ refl
        | false ↦ refl
      ]

  evicts_all : (bs : List BlockId) (k : Known) → fold evicts (at k) (map Victim bs) ≡ at (fold leaves k bs)
  evicts_all [] k = refl
  evicts_all (b ∷ bs) k = ap (λ s. fold evicts s (map Victim bs)) (evicts_is k b) ∙ evicts_all bs (leaves k b)

  pub note_clean_is : (k : Known) (b : BlockId) → note_clean (at k) b ≡ at (comes_in capacity k b)
  unfolding note_clean
  note_clean_is k b =
      evicts_all (take (excess capacity (used_last b k.cached)) (used_last b k.cached))
      (record k { cached = drop (excess capacity (used_last b k.cached)) (used_last b k.cached) })

  keep_row_is : (k : Known) (row : BlockId × Entry) → keep_row (at k) row ≡ at (row_comes_in capacity k row)
  unfolding keep_row
  keep_row_is k row =
      elim (not (is_dirty (held_of k.blocks row.0)) && is_held (held_of k.blocks row.0).mode) as
      (λ t. cond t (note_clean (at k) row.0) (at k) ≡ at (cond t (comes_in capacity k row.0) k)) [
        | true ↦ note_clean_is k row.0
        | false ↦ refl
      ]

  fold_as : {X : Type 0} (step : Serving → X → Serving) (on : Known → X → Known) → ((k : Known) (x : X) → step (at k) x ≡ at (on k x)) → (xs : List X) (k : Known)
      → fold step (at k) xs ≡ at (fold on k xs)
  fold_as step on is [] k = refl
  fold_as step on is (x ∷ xs) k = ap (λ s. fold step s xs) (is k x) ∙ fold_as step on is xs (on k x)

  -- stage one: what is known of blocks, and the cache
  pub rows_settle : (rows : List (BlockId × Entry)) (k : Known) → settle_rows (at k) rows ≡ at (all_settled capacity k rows)
  rows_settle rows k =
      ap (λ s. fold keep_row s rows) (fold_as notes_settled row_settles notes_settled_is rows k)
      ∙ fold_as keep_row (row_comes_in capacity) keep_row_is rows (fold row_settles k rows)

-- nothing is given up where no block is to be
module _ (setup : Setup) (works : NodeId → List Work) (c : ℕ) (q : ClientPart) (none : NoneGiving q.blocks) where
  abbrev here : Serving
  here = serving_at setup works c q

  gives_none : (b : BlockId) → give_if_clean here b ≡ still here
  unfolding give_if_clean
  gives_none b =
      elim (is_dirty (held_of q.blocks b)) as (λ t. cond t (still here) (gives_up here b (held_of q.blocks b).giving) ≡ still here) [
        | true ↦ refl
        | false ↦ ap (gives_up here b) (none b)
      ]

  -- stage three
  pub none_given : (bs : List BlockId) → steps give_if_clean here bs ≡ still here
  none_given [] = refl
  none_given (b ∷ bs) = ap (λ (d : Done). saying d.outs (steps give_if_clean d.state bs)) (gives_none b) ∙ none_given bs

  none_sealed : seals_again here true ≡ still here
  none_sealed = ap (λ t. cond t (serving_seal here) (still here)) (none_to_give (tokens_at setup works q) none (dirty_in q.blocks))

-- ---- the segment settles

module _ (setup : Setup) (works : NodeId → List Work) (c : ℕ) (p : ClientPart) (end : End) (rows : List (BlockId × Entry)) (newer : nat_lt p.fed end.seq ≡ true)
    (none : NoneGiving p.blocks) where
  abbrev pub known_then : Known
  known_then = all_settled (cached_upto setup.cache) (record { blocks = p.blocks; cached = p.cached }) rows

  -- stage two: the feed takes the deltas
  abbrev pub fed_part : ClientPart
  fed_part = record p {
    blocks = known_then.blocks;
    cached = known_then.cached;
    filed = p.filed ++ record { seq = end.seq; rows = rows } ∷ [];
    fed = end.seq;
  }

  abbrev pub told : List Effect
  told = Does (acts.Filed (name_of (record { 0 = c }) end)) ∷ push_all (managers_start setup.managers) (feed_at fed_part)

  feeds_so : feeds (serving_at setup works c (with_known setup works c p known_then)) end rows ≡ serving_at setup works c fed_part
  feeds_so = rw newer refl

  abbrev finish : Serving → Done
  finish fed =
      saying (Does (acts.Filed (name_of (record { 0 = c }) end)) ∷ push_all fed.managers fed.feed) (steps give_if_clean fed (dirty_in p.blocks))

  pub none_then : NoneGiving fed_part.blocks
  none_then = settled_keeps (cached_upto setup.cache) (record { blocks = p.blocks; cached = p.cached }) rows none

  pub serving_settle_so : serving_settle (serving_at setup works c p) end rows ≡ record { state = serving_at setup works c fed_part; outs = told }
  unfolding serving_settle
  serving_settle_so =
      ap (λ s. finish (feeds s end rows)) (rows_settle setup works c p rows (record { blocks = p.blocks; cached = p.cached }))
      ∙ ap finish feeds_so
      ∙ ap (saying told) (none_given setup works c fed_part none_then (dirty_in p.blocks))
      ∙ ap (λ outs. record { state = serving_at setup works c fed_part; outs = outs }) (append-nil told)

-- ---- the last Stored

-- whoever holds its blocks: what is in flight lands, and what is made of that is what the packet makes
module _ (setup : Setup) (works : NodeId → List Work) (c v index generation : ℕ) (name : SegName) (p : ClientPart) (f : FlightState)
    (flies : p.flight ≡ Some f) (its : is_of f name index generation ≡ true) (lands : fate_of (its_groups setup works) (flight_note f index) ≡ Settle)
    (empty : p.dirty ≡ []) where
  abbrev landing : ClientPart
  landing = record p { end = log.end_of f.segment; flight = None }

  log_settles : log.on_acked (log_at setup works c p) name index generation
      ≡ record { state = log_at setup works c landing; outs = Settled (log.end_of f.segment) (rows_of f.segment) ∷ [] }
  unfolding log.on_acked log.looked_at log.settled log.log_go_on
  log_settles = rw (flies, its, lands, empty) refl

  abbrev last_stored : Packet
  last_stored = record { from = Server v; to = Client c; clock = 0; body = body.Stored (record { name = name; index = index; generation = generation }) }

  abbrev following : log.Done → Done
  following r =
      (let d = steps write_one (record (serving_at setup works c p) { log = r.state }) r.outs in
      saying d.outs (seals_again d.state (list_any is_settling r.outs)))

  abbrev sealing : Done → Done
  sealing d = saying (d.outs ++ []) (seals_again d.state true)

  pub stored_settles : (q : ClientPart) (tells : List Effect)
      → serving_settle (serving_at setup works c landing) (log.end_of f.segment) (rows_of f.segment) ≡ record { state = serving_at setup works c q; outs = tells }
      → NoneGiving q.blocks → serving_take (serving_at setup works c p) last_stored ≡ record { state = serving_at setup works c q; outs = tells }
  unfolding serving_take flights.serving_write write_one
  stored_settles q tells settled none =
      ap following log_settles
      ∙ ap sealing settled
      ∙ ap (saying (tells ++ [])) (none_sealed setup works c q none)
      ∙ ap (λ outs. record { state = serving_at setup works c q; outs = outs }) (append-nil (tells ++ []) ∙ append-nil tells)

module _ (setup : Setup) (works : NodeId → List Work) (c v clock index generation item : ℕ) (name : SegName) (p : ClientPart) (f : FlightState)
    (flies : p.flight ≡ Some f) (its : is_of f name index generation ≡ true) (lands : fate_of (its_groups setup works) (flight_note f index) ≡ Settle)
    (empty : p.dirty ≡ []) (newer : nat_lt p.fed f.segment.name.seq ≡ true) (none : NoneGiving p.blocks) where
  abbrev pub its_end : End
  its_end = log.end_of f.segment

  abbrev pub landed_part : ClientPart
  landed_part = record p { end = its_end; flight = None }

  abbrev pub settled_part : ClientPart
  settled_part = fed_part setup works c landed_part its_end (rows_of f.segment) newer none

  abbrev pub its_told : List Effect
  its_told = told setup works c landed_part its_end (rows_of f.segment) newer none

  abbrev packet : Packet
  packet = record { from = Server v; to = Client c; clock = clock; body = body.Stored (record { name = name; index = index; generation = generation }) }

  packet_settles : serving_take (serving_at setup works c p) packet ≡ record { state = serving_at setup works c settled_part; outs = its_told }
  unfolding serving_take
  packet_settles =
      stored_settles setup works c v index generation name p f flies its lands empty settled_part its_told
      (serving_settle_so setup works c landed_part its_end (rows_of f.segment) newer none)
      (none_then setup works c landed_part its_end (rows_of f.segment) newer none)

  module _ (h : HasRoom setup works c p) (there : has_node (peers_of setup) (Server v) ≡ true) (named : is_name name ≡ true)
      (syncing : p.call ≡ Some (call_new One Sync)) (its_item : p.item ≡ Some item) where
    abbrev idle : ClientPart
    idle = record settled_part { call = None }

    -- the client then
    abbrev pub synced_then : ClientPart
    synced_then = record settled_part { call = None; item = None }

    sync_makes : blocks_make (serving_at setup works c idle) Sync ≡ record {
      done = record { state = serving_at setup works c idle; outs = Does (acts.Synced c) ∷ [] };
      answer = Some block.Synced;
    }
    unfolding blocks_make blocks_sync serving_seal log.on_seal
    sync_makes = rw empty refl

    sync_runs : run (serving_at setup works c settled_part) ≡ record {
      state = serving_at setup works c synced_then;
      outs = Does (acts.Synced c) ∷ Answer item Finished ∷ [];
    }
    sync_runs =
        runs_answered (serving_at setup works c settled_part) Sync syncing (serving_at setup works c idle) (Does (acts.Synced c) ∷ []) block.Synced sync_makes refl
        ∙ ap (λ o. record { state = serving_at setup works c synced_then; outs = Does (acts.Synced c) ∷ answers_unanswered o Finished }) its_item

    abbrev pub all_told : List Effect
    all_told = its_told ++ Does (acts.Synced c) ∷ Answer item Finished ∷ []

    pub last_stored_comes : client_step (client_at setup works c p) (Deliver packet) ≡ record {
      node = client_at setup works c synced_then;
      packets = packets_of (Client c) all_told;
      acts = acts_of (Client c) all_told;
    }
    unfolding on_deliver
    last_stored_comes = rw (room setup works c p h, there, named, packet_settles, sync_runs) refl

  -- the same where no call is open
  pub last_stored_idle : HasRoom setup works c p → has_node (peers_of setup) (Server v) ≡ true → is_name name ≡ true → p.call ≡ None
      → client_step (client_at setup works c p) (Deliver packet)
      ≡ record { node = client_at setup works c settled_part; packets = packets_of (Client c) its_told; acts = acts_of (Client c) its_told }
  unfolding on_deliver
  last_stored_idle h there named idle =
      rw (room setup works c p h, there, named, packet_settles, runs_none (serving_at setup works c settled_part) idle) (ap after_told (append-nil its_told))
    where
      after_told : List Effect → NodeStep ClientNode
      after_told outs = record { node = client_at setup works c settled_part; packets = packets_of (Client c) outs; acts = acts_of (Client c) outs }

-- ---- the deltas that go to the slots: to each its own, of all that it did not acknowledge

module _ (setup : Setup) (works : NodeId → List Work) (p : ClientPart)
    (more : (i : ℕ) → i < 8 → nat_lt (slice_index p.acked i) p.fed ≡ true) where
  abbrev pub deltas_to : ℕ → Effect
  deltas_to i =
      Send (Manager (manager_of_slot setup works i))
      (body.Deltas (record { slot = i; first = slice_index p.acked i + 1; upto = p.fed; rows = rows_after i (slice_index p.acked i) p.filed }))

  pub pushes_are : push_all (managers_start setup.managers) (feed_at p) ≡ map deltas_to all_slots
  unfolding feed_push
  pushes_are =
      rw (
        more 0 (omega arith),
        more 1 (omega arith),
        more 2 (omega arith),
        more 3 (omega arith),
        more 4 (omega arith),
        more 5 (omega arith),
        more 6 (omega arith),
        more 7 (omega arith),
      ) refl
