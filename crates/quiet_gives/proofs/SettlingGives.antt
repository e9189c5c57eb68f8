-- The last Stored comes to a client whose segment is in flight, where just one block is to be given up, and no call is open: the segment is settled, its deltas go to
-- all slots, and the block is given up, in one event.
use Rattle.std.proofs.Common.{◌≡◌, ℕ, ◌||◌, Bool, true, false, cond, nat_lt, List, [], ◌∷◌, ◌++◌, Some, None, unwrap_or, refl, sym, ap, ◌∙◌, append-nil}
use Rattle.std.proofs.lemmas.Bool.{false≢true}
use Rattle.std.specs.List.{filter, list_any}
use Rattle.std.specs.Map.{keys_of, lookup}
use Rattle.std.specs.BTreeMap.{is_at}
use Rattle.std.specs.Ordering.{eq_by_cmp}
use Rattle.std.proofs.lemmas.Map.Views.{tells_apart}
use Rattle.client_log.specs.Transition as log
use Rattle.client_node.specs.declared.client.Client.{Client as ClientNode}
use Rattle.client_node.specs.Phases.{client_step, on_deliver}
use Rattle.client_node.specs.Serving.{cached_upto}
use Rattle.client_serving.specs.declared.serving.Serving.{Serving}
use Rattle.client_serving.specs.Flights.{feeds, give_if_clean, gives_up, serving_settle}
use Rattle.client_serving.specs.Packets.{serving_take}
use Rattle.client_serving.specs.Sends.{Done}
use Rattle.log_flight.specs.Fate.{fate_of}
use Rattle.log_flight.specs.declared.flight.Fate.TheVariants.{Settle}
use Rattle.log_flight.specs.Flights.{FlightState, is_of, flight_note}
use Rattle.log_owner.specs.Promised.{managers_start}
use Rattle.log_owner.specs.Sending.{name_of, push_all}
use Rattle.node_base.specs.declared.effects.Effect.{Effect}
use Rattle.node_base.specs.declared.effects.Effect.TheVariants.{Does}
use Rattle.node_base.specs.Effects.{acts_of, packets_of}
use Rattle.node_base.specs.Nodes.{has_node, peers_of}
use Rattle.node_base.specs.Shape.{is_name}
use Rattle.segment_format.specs.Rows.{rows_of}
use Rattle.token_client.proofs.Tables.{held_of-put_itself}
use Rattle.token_client.specs.declared.held.Held.{Held}
use Rattle.token_client.specs.Held.{is_dirty, held_new}
use Rattle.token_client.specs.State.{dirty_in, held_of}
use Rattle.version_model.specs.declared.act.Act.TheVariants as acts
use Rattle.version_model.specs.declared.work.Work.{Work}
use Rattle.wire_msg.specs.declared.body.Body.TheVariants as body
use Rattle.wire_msg.specs.declared.packet.Do.TheVariants.{Deliver}
use Rattle.wire_msg.specs.declared.packet.Packet.{Packet}
use Rattle.wire_msg.specs.NodeStep.{NodeStep}
use Rattle.xfs_base.proofs.BlockOrder.{block_cmp_exact, same_block_exact, same_block_itself}
use Rattle.xfs_base.specs.Blocks.{block_cmp, same_block}
use Rattle.xfs_base.specs.declared.block.BlockId.{BlockId}
use Rattle.xfs_base.specs.declared.entry.Entry.{Entry}
use Rattle.xfs_base.specs.declared.node.NodeId.{NodeId}
use Rattle.xfs_base.specs.declared.node.NodeId.TheVariants.{Client, Server}
use Rattle.xfs_base.specs.declared.segment.End.{End}
use Rattle.xfs_base.specs.declared.segment.SegName.{SegName}
use Rattle.xfs_base.specs.declared.setup.Setup.{Setup}
use Rattle.xfs_base.specs.declared.token.Stamp.{Stamp}
use Rattle.xfs_base.specs.Steps.{saying, steps, still}
use Rattle.quiet_law.proofs.Settled.{field_stays}
use Rattle.quiet_law.proofs.Waiting.{not_the_block, other_held}
use Rattle.quiet_nodes.specs.Scene.{ClientPart, client_at, its_groups, serving_at}
use Rattle.quiet_nodes.proofs.Begins.{HasRoom, room}
use Rattle.quiet_nodes.proofs.Running.{runs_none}
use Rattle.quiet_nodes.proofs.Settling.{Known, NoneGiving, all_settled, none_given, rows_settle, stored_settles, with_known}
use Rattle.quiet_nodes.proofs.Wanting.{feed_at}
use Rattle.quiet_gives.proofs.GivingUp.{CanGive, gave_told, gone, gone_is, gone_part, takes_so}

-- a block that is dirty is among the dirty ones
dirty_named : (b : BlockId) (blocks : List (BlockId × Held)) → is_dirty (held_of blocks b) ≡ true → list_any (same_block b) (dirty_in blocks) ≡ true
dirty_named b [] dirty = absurd (false≢true dirty)
dirty_named b (e ∷ es) dirty =
    elim (eq_by_cmp block_cmp b e.0) as (λ t. eq_by_cmp block_cmp b e.0 ≡ t
    → is_dirty (unwrap_or (cond t (Some e.1) (lookup (is_at (block_cmp b)) es)) held_new) ≡ true → list_any (same_block b) (dirty_in (e ∷ es)) ≡ true) [
      | true ↦ λ at now. here (ap (same_block b) (sym (tells_apart block_cmp_exact b e.0 at)) ∙ same_block_itself b) now
      | false ↦ λ _ now. more (is_dirty e.1) (dirty_named b es now)
    ] refl dirty
  where
    here : same_block b e.0 ≡ true → is_dirty e.1 ≡ true → list_any (same_block b) (dirty_in (e ∷ es)) ≡ true
    here same now =
        ap (λ t. list_any (same_block b) (keys_of (cond t (e ∷ filter (λ (x : BlockId × Held). is_dirty x.1) es) (filter (λ (x : BlockId × Held). is_dirty x.1) es)))) now
        ∙ ap (λ t. t || list_any (same_block b) (dirty_in es)) same

    or_true : (t : Bool) → (t || true) ≡ true
    or_true true = refl
    or_true false = refl

    more : (t : Bool) → list_any (same_block b) (dirty_in es) ≡ true
        → list_any (same_block b) (keys_of (cond t (e ∷ filter (λ (x : BlockId × Held). is_dirty x.1) es) (filter (λ (x : BlockId × Held). is_dirty x.1) es))) ≡ true
    more true rest = ap (λ t. same_block b e.0 || t) rest ∙ or_true (same_block b e.0)
    more false rest = rest

-- ---- the one that is to be given up is, where it is among these

module _ (setup : Setup) (works : NodeId → List Work) (o : ℕ) (q : ClientPart) (b : BlockId) (st : Stamp) (keep : Bool) (can : CanGive setup works o q b st keep)
    (its : (held_of q.blocks b).giving ≡ Some (record { stamp = st; keep = keep })) (only : (x : BlockId) → (x ≡ b → ⊥) → (held_of q.blocks x).giving ≡ None) where
  abbrev here : Serving
  here = serving_at setup works o q

  abbrev after : ClientPart
  after = gone_part setup works o q b st keep

  abbrev there : Serving
  there = serving_at setup works o after

  abbrev outs : List Effect
  outs = gave_told setup works o q b st keep

  abbrev its_gone : Held
  its_gone = gone setup works o q b st keep

  pub none_then : NoneGiving after.blocks
  none_then x =
      elim (same_block b x) as (λ t. same_block b x ≡ t → (held_of after.blocks x).giving ≡ None) [
        | true ↦ λ same.
            ap (λ y. (held_of after.blocks y).giving) (same_block_exact b x same)
            ∙ ap (λ (h : Held). h.giving) (held_of-put_itself b its_gone q.blocks)
            ∙ gone_is setup works o q b st keep (λ h. h.giving ≡ None) refl refl
        | false ↦ λ other.
            ap (λ (h : Held). h.giving) (other_held b its_gone q.blocks x (not_the_block x b other)) ∙ only x (not_the_block x b other)
      ] refl

  gives_b : give_if_clean here b ≡ record { state = there; outs = outs }
  unfolding give_if_clean
  gives_b =
      ap (λ t. cond t (still here) (gives_up here b (held_of q.blocks b).giving)) can.clean
      ∙ ap (gives_up here b) its
      ∙ takes_so setup works o q b st keep can

  gives_not : (x : BlockId) → (x ≡ b → ⊥) → give_if_clean here x ≡ still here
  unfolding give_if_clean
  gives_not x differs =
      elim (is_dirty (held_of q.blocks x)) as (λ t. cond t (still here) (gives_up here x (held_of q.blocks x).giving) ≡ still here) [
        | true ↦ refl
        | false ↦ ap (gives_up here x) (only x differs)
      ]

  pub one_given : (bs : List BlockId) → list_any (same_block b) bs ≡ true → steps give_if_clean here bs ≡ record { state = there; outs = outs }
  one_given [] has = absurd (false≢true has)
  one_given (x ∷ bs) has =
      elim (same_block b x) as (λ t. same_block b x ≡ t → (t || list_any (same_block b) bs) ≡ true → steps give_if_clean here (x ∷ bs) ≡ record { state = there; outs = outs }) [
        | true ↦ λ same _.
            ap (λ y. saying (give_if_clean here y).outs (steps give_if_clean (give_if_clean here y).state bs)) (same_block_exact b x same)
            ∙ ap (λ (d : Done). saying d.outs (steps give_if_clean d.state bs)) gives_b
            ∙ ap (saying outs) (none_given setup works o after none_then bs)
        | false ↦ λ other rest.
            ap (λ (d : Done). saying d.outs (steps give_if_clean d.state bs)) (gives_not x (not_the_block x b other)) ∙ one_given bs rest
      ] refl has

-- ---- the segment settles

module _ (setup : Setup) (works : NodeId → List Work) (o : ℕ) (p : ClientPart) (end : End) (rows : List (BlockId × Entry)) (b : BlockId) (st : Stamp) (keep : Bool) where
  abbrev known_then : Known
  known_then = all_settled (cached_upto setup.cache) (record { blocks = p.blocks; cached = p.cached }) rows

  -- the feed has the deltas
  abbrev pub fed_part : ClientPart
  fed_part = record p {
    blocks = known_then.blocks;
    cached = known_then.cached;
    filed = p.filed ++ record { seq = end.seq; rows = rows } ∷ [];
    fed = end.seq;
  }

  -- and the block is given up
  abbrev pub settled_part : ClientPart
  settled_part = gone_part setup works o fed_part b st keep

  abbrev told : List Effect
  told = Does (acts.Filed (name_of (record { 0 = o }) end)) ∷ push_all (managers_start setup.managers) (feed_at fed_part)

  -- what is done
  abbrev pub all_told : List Effect
  all_told = told ++ gave_told setup works o fed_part b st keep

  giving_stays : (x : BlockId) → (held_of known_then.blocks x).giving ≡ (held_of p.blocks x).giving
  giving_stays = field_stays (λ (h : Held). h.giving) (λ h ver. refl) (λ h. refl) (cached_upto setup.cache) p.blocks p.cached rows

  module _ (newer : nat_lt p.fed end.seq ≡ true) (can : CanGive setup works o fed_part b st keep) (dirty : is_dirty (held_of p.blocks b) ≡ true)
      (its : (held_of p.blocks b).giving ≡ Some (record { stamp = st; keep = keep })) (only : (x : BlockId) → (x ≡ b → ⊥) → (held_of p.blocks x).giving ≡ None) where
    its_then : (held_of fed_part.blocks b).giving ≡ Some (record { stamp = st; keep = keep })
    its_then = giving_stays b ∙ its

    only_then : (x : BlockId) → (x ≡ b → ⊥) → (held_of fed_part.blocks x).giving ≡ None
    only_then x differs = giving_stays x ∙ only x differs

    pub none_giving : NoneGiving settled_part.blocks
    none_giving = none_then setup works o fed_part b st keep can its_then only_then

    feeds_so : feeds (serving_at setup works o (with_known setup works o p known_then)) end rows ≡ serving_at setup works o fed_part
    feeds_so = rw newer refl

    abbrev finish : Serving → Done
    finish fed =
        saying (Does (acts.Filed (name_of (record { 0 = o }) end)) ∷ push_all fed.managers fed.feed) (steps give_if_clean fed (dirty_in p.blocks))

    pub serving_settle_so : serving_settle (serving_at setup works o p) end rows ≡ record { state = serving_at setup works o settled_part; outs = all_told }
    unfolding serving_settle
    serving_settle_so =
        ap (λ s. finish (feeds s end rows)) (rows_settle setup works o p rows (record { blocks = p.blocks; cached = p.cached }))
        ∙ ap finish feeds_so
        ∙ ap (saying told) (one_given setup works o fed_part b st keep can its_then only_then (dirty_in p.blocks) (dirty_named b p.blocks dirty))

-- ---- the last Stored

module _ (setup : Setup) (works : NodeId → List Work) (o v index generation : ℕ) (name : SegName) (p : ClientPart) (f : FlightState) (b : BlockId) (st : Stamp)
    (keep : Bool) where
  abbrev its_end : End
  its_end = log.end_of f.segment

  abbrev landed_part : ClientPart
  landed_part = record p { end = its_end; flight = None }

  abbrev pub then_part : ClientPart
  then_part = settled_part setup works o landed_part its_end (rows_of f.segment) b st keep

  abbrev pub fed_then : ClientPart
  fed_then = fed_part setup works o landed_part its_end (rows_of f.segment) b st keep

  abbrev pub its_told : List Effect
  its_told = all_told setup works o landed_part its_end (rows_of f.segment) b st keep

  module _ (flies : p.flight ≡ Some f) (its : is_of f name index generation ≡ true) (lands : fate_of (its_groups setup works) (flight_note f index) ≡ Settle)
      (empty : p.dirty ≡ []) (newer : nat_lt p.fed f.segment.name.seq ≡ true) (can : CanGive setup works o fed_then b st keep)
      (dirty : is_dirty (held_of p.blocks b) ≡ true) (giving : (held_of p.blocks b).giving ≡ Some (record { stamp = st; keep = keep }))
      (only : (x : BlockId) → (x ≡ b → ⊥) → (held_of p.blocks x).giving ≡ None) where
    abbrev packet : Packet
    packet = record { from = Server v; to = Client o; clock = 0; body = body.Stored (record { name = name; index = index; generation = generation }) }

    packet_settles : serving_take (serving_at setup works o p) packet ≡ record { state = serving_at setup works o then_part; outs = its_told }
    packet_settles =
        stored_settles setup works o v index generation name p f flies its lands empty then_part its_told
        (serving_settle_so setup works o landed_part its_end (rows_of f.segment) b st keep newer can dirty giving only)
        (none_giving setup works o landed_part its_end (rows_of f.segment) b st keep newer can dirty giving only)

    abbrev with_outs : List Effect → NodeStep ClientNode
    with_outs outs = record { node = client_at setup works o then_part; packets = packets_of (Client o) outs; acts = acts_of (Client o) outs }

    pub last_stored_gives : HasRoom setup works o p → has_node (peers_of setup) (Server v) ≡ true → is_name name ≡ true
        → client_step (client_at setup works o p) (Deliver packet)
        ≡ record { node = client_at setup works o then_part; packets = packets_of (Client o) its_told; acts = acts_of (Client o) its_told }
    unfolding on_deliver
    last_stored_gives h there named =
        rw (room setup works o p h, there, named, packet_settles, runs_none (serving_at setup works o then_part) refl) (ap with_outs (append-nil its_told))
