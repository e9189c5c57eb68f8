-- What a packet, or time, has a client that serves do is what it may do; and it stays the client that it is.
use Rattle.std.proofs.Common.{◌≡◌, ℕ, ◌==◌, ◌&&◌, Bool, not, List, [], ◌∷◌, ◌++◌, Option, Some, None, is_none, refl}
use Rattle.std.specs.Prelude.{fold, nat_lt}
use Rattle.std.specs.List.{AllByRecursion, list_any}
use Rattle.client_call.specs.Reads.{Heard, block_read, fetches, fetch_again, hear_reading, reading_in, same_target, target_of, value_at}
use Rattle.client_log.specs.declared.input.In.{In as LogIn}
use Rattle.client_log.specs.declared.input.In.TheVariants as log_in
use Rattle.client_log.specs.declared.output.Out.{Out as LogOut}
use Rattle.client_log.specs.declared.output.Out.TheVariants as log_out
use Rattle.client_log.specs.LogState.{LogState}
use Rattle.client_log.specs.Transition as log
use Rattle.client_serving.specs.Behaves.{Behaves, MayDo}
use Rattle.client_serving.specs.declared.serving.Serving.{Serving}
use Rattle.client_serving.specs.Flights.{feeds, give_if_clean, gives_up, held_at, keep_row, notes_settled, seals_again, settle_rows, serving_settle, serving_write, write_one}
use Rattle.client_serving.specs.Follow.{evicts, serving_follow, follow_one, hand, note_clean, note_copy, note_gone, serving_seal, take_back}
use Rattle.client_serving.specs.Grants.{is_stamp, send_supply}
use Rattle.client_serving.specs.Lasting.{log_of}
use Rattle.client_serving.specs.Packets.{again, asks_for_maps, end_fetch, serving_hear, is_acked, is_gone, is_news, may_report, on_ack, take_body, on_forward, on_gone, on_grant, on_news, serving_take, on_poll, on_recall, on_supply, on_tick, on_told, on_welcome, polled, promised_in, serving_promise, regroups, serving_renew, reports, says_again, takes_news, told_at, told_by}
use Rattle.client_serving.specs.Reads.{ask_after, begin_reading, begins_over, go_on_reading, serving_confirm, drawn_after, ends_reading, group_in, loses, lose_at, serving_read, reads_over, with_reading}
use Rattle.client_serving.specs.Sends.{Done, before_want, deltas, gave, report, want}
use Rattle.coop_cache.specs.declared.output.Out as cache_out
use Rattle.coop_cache.specs.declared.output.Out.TheVariants.{Victim}
use Rattle.coop_cache.specs.Transition.{cache_clean, cache_leave}
use Rattle.delta_feed.specs.declared.output.Out as feed_out
use Rattle.delta_feed.specs.declared.output.Out.TheVariants.{Range}
use Rattle.delta_feed.specs.FeedState.{FeedState}
use Rattle.delta_feed.specs.Transition.{acknowledged, new_epoch, feed_push, feed_tick}
use Rattle.group_map.specs.declared.group.Group.{Group}
use Rattle.group_map.specs.GroupMapState.{GroupMapState}
use Rattle.log_owner.specs.declared.promised.Managers.{Managers}
use Rattle.log_owner.specs.Opening.{stored}
use Rattle.log_owner.specs.Sealing.{is_settling}
use Rattle.log_owner.specs.Sending.{fetch, name_of, sending_push, push_all, range}
use Rattle.node_base.specs.Asking.{next_ask}
use Rattle.node_base.specs.Beginning.{answers_unanswered}
use Rattle.node_base.specs.declared.effects.Effect.{Effect}
use Rattle.node_base.specs.declared.effects.Effect.TheVariants.{Does}
use Rattle.node_base.specs.Known.{names_known_groups}
use Rattle.node_base.specs.Maps.{fits, is_older, maps_take}
use Rattle.node_base.specs.Room.{has_long_room}
use Rattle.segment_reading.specs.declared.reading.Next.{Next}
use Rattle.segment_reading.specs.declared.reading.Next.TheVariants as next
use Rattle.segment_reading.specs.declared.reading.Stage.{Stage}
use Rattle.segment_reading.specs.declared.reading.Stage.TheVariants.{Asking, Between, Doubted, Over}
use Rattle.segment_reading.specs.declared.target.BlockAt.{BlockAt}
use Rattle.segment_reading.specs.declared.target.Target.{Target}
use Rattle.segment_reading.specs.Reading.{ReadingState, Step, reading_start, on_confirmed, reading_unanswered}
use Rattle.stripe_code.specs.declared.round.Told.{Told}
use Rattle.stripe_code.specs.declared.round.Told.TheVariants as told
use Rattle.token_client.specs.declared.held.Giving.{Giving}
use Rattle.token_client.specs.declared.input.In as inputs
use Rattle.token_client.specs.declared.input.In.TheVariants as input
use Rattle.token_client.specs.declared.output.Out as outputs
use Rattle.token_client.specs.declared.output.Out.TheVariants as output
use Rattle.token_client.specs.Held.{is_dirty}
use Rattle.token_client.specs.Settling.{is_giving}
use Rattle.token_client.specs.State.{dirty_in, epoch_of, held_of}
use Rattle.token_client.specs.Transition as client
use Rattle.version_model.specs.declared.act.Act.TheVariants.{Filed}
use Rattle.version_model.specs.declared.answer.Answer.TheVariants.{Lost}
use Rattle.wire_msg.specs.declared.body.Body.{Body}
use Rattle.wire_msg.specs.declared.body.Body.TheVariants as body
use Rattle.wire_msg.specs.declared.deltas.DeltaAck.{DeltaAck}
use Rattle.wire_msg.specs.declared.deltas.Poll.{Poll}
use Rattle.wire_msg.specs.declared.packet.Packet.{Packet}
use Rattle.wire_msg.specs.declared.registry.News.{News}
use Rattle.wire_msg.specs.declared.registry.Welcome.{Welcome}
use Rattle.wire_msg.specs.declared.tokens.Forward.{Forward}
use Rattle.wire_msg.specs.declared.tokens.Gone.{Gone}
use Rattle.wire_msg.specs.declared.tokens.Grant.{Grant}
use Rattle.wire_msg.specs.declared.tokens.Recall.{Recall}
use Rattle.wire_msg.specs.declared.tokens.Supply.{Supply}
use Rattle.xfs_base.proofs.Alls.{all_append, all_flat_map, all_map}
use Rattle.xfs_base.proofs.Booleans.{by_test}
use Rattle.xfs_base.specs.Blocks.{slot_of}
use Rattle.xfs_base.specs.declared.block.BlockId.{BlockId}
use Rattle.xfs_base.specs.declared.entry.Entry.{Entry}
use Rattle.xfs_base.specs.declared.entry.Place.{Place}
use Rattle.xfs_base.specs.declared.news.SlotNews.{SlotNews}
use Rattle.xfs_base.specs.declared.node.NodeId.{NodeId}
use Rattle.xfs_base.specs.declared.node.NodeId.TheVariants as node
use Rattle.xfs_base.specs.declared.segment.End.{End}
use Rattle.xfs_base.specs.declared.segment.SegName.{SegName}
use Rattle.xfs_base.specs.declared.token.Mode.TheVariants.{Copy}
use Rattle.xfs_base.specs.declared.token.Stamp.{Stamp}
use Rattle.xfs_base.specs.Modes.{is_held, is_nothing, is_own, same_mode}
use Rattle.xfs_base.specs.Steps.{Stepped, saying, steps, still}

-- the client of this number, in this incarnation
abbrev Is : ℕ → ℕ → Serving → Type 0
Is number inc s = (s.lasting.number ≡ number) × (s.lasting.inc ≡ inc)

-- what it does it may, and it stays that client
record Goes (number inc : ℕ) (d : Done) : Type 0 where
  does : AllByRecursion (MayDo inc) d.outs
  its : Is number inc d.state

module _ (n i : ℕ) where
  -- ---- one thing after the other

  still_so : (s : Serving) → Is n i s → Goes n i (still s)
  still_so s h = record { does = tt; its = h }

  after_so : (outs : List Effect) (d : Done) → AllByRecursion (MayDo i) outs → Goes n i d → Goes n i (saying outs d)
  after_so outs d all g = record { does = all_append (MayDo i) outs d.outs all g.does; its = g.its }

  steps_so : {A : Type 0} (step : Serving → A → Done) → ((s : Serving) (x : A) → Is n i s → Goes n i (step s x)) → (s : Serving) (xs : List A) → Is n i s
      → Goes n i (steps step s xs)
  steps_so step each s [] h = still_so s h
  steps_so step each s (x ∷ xs) h =
      after_so (step s x).outs (steps step (step s x).state xs) (each s x h).does (steps_so step each (step s x).state xs (each s x h).its)

  fold_its : {A : Type 0} (f : Serving → A → Serving) → ((s : Serving) (x : A) → Is n i s → Is n i (f s x)) → (s : Serving) (xs : List A) → Is n i s
      → Is n i (fold f s xs)
  fold_its f each s [] h = h
  fold_its f each s (x ∷ xs) h = fold_its f each (f s x) xs (each s x h)

  -- ---- what is said

  says_range : (managers : Managers) (o : feed_out.Out) → MayDo i (range managers o)
  says_range managers (Range slot first upto rows) = tt

  says_pushes : (managers : Managers) (feed : FeedState) (slot : ℕ) → AllByRecursion (MayDo i) (sending_push managers feed slot)
  says_pushes managers feed slot = all_map (MayDo i) (range managers) (says_range managers) (feed_push feed slot)

  says_pushes_all : (managers : Managers) (feed : FeedState) → AllByRecursion (MayDo i) (push_all managers feed)
  says_pushes_all managers feed = all_map (MayDo i) (range managers) (says_range managers) (feed_tick feed)

  says_fetches : (r : ReadingState) → AllByRecursion (MayDo i) (fetches r)
  says_fetches r = all_map (MayDo i) (fetch r.target.seg.name r.ask) (λ server. tt) (reading_unanswered r)

  says_fetches_again : (r : Option ReadingState) → AllByRecursion (MayDo i) (fetch_again r)
  says_fetches_again None = tt
  says_fetches_again (Some r) = says_fetches r

  says_loss : (unanswered : Option ℕ) (seg : SegName) → AllByRecursion (MayDo i) (answers_unanswered unanswered (Lost seg))
  says_loss None seg = tt
  says_loss (Some number) seg = (tt, tt)

  says_stored : (o : LogOut) → AllByRecursion (MayDo i) (stored o)
  says_stored (log_out.Send fragment member) = (tt, tt)
  says_stored (log_out.Settled end rows) = tt

  says_supplies : (f : Forward) (o : outputs.Out) → AllByRecursion (MayDo i) (send_supply f o)
  says_supplies f (output.Supply block ver value) = (tt, tt)
  says_supplies f (output.Want block req again mode) = tt
  says_supplies f (output.Gave block stamp) = tt
  says_supplies f (output.Flush block) = tt
  says_supplies f (output.Read block place) = tt
  says_supplies f (output.Ready block) = tt

  says_before : (s : Serving) (block : BlockId) (again : ℕ) → AllByRecursion (MayDo i) (before_want s block again)
  says_before s block again =
      by_test (λ (es : List Effect). AllByRecursion (MayDo i) es) (again == 0) (deltas s block) []
      (λ t. says_pushes s.managers s.feed (slot_of block.ino.0)) (λ t. tt)

  says_again_so : (s : Serving) (r : Recall) (outs : List outputs.Out) → AllByRecursion (MayDo i) (again s r outs)
  says_again_so s r [] = tt
  says_again_so s r (o ∷ outs) = (tt, tt)

  -- ---- the cache

  evicts_its : (s : Serving) (o : cache_out.Out) → Is n i s → Is n i (evicts s o)
  unfolding evicts
  evicts_its s (Victim block) h = h

  note_clean_its : (s : Serving) (block : BlockId) → Is n i s → Is n i (note_clean s block)
  unfolding note_clean
  note_clean_its s block h = fold_its evicts evicts_its (record s { cache = (cache_clean s.cache block).state }) (cache_clean s.cache block).outs h

  note_gone_its : (s : Serving) (block : BlockId) → Is n i s → Is n i (note_gone s block)
  unfolding note_gone
  note_gone_its s block h =
      by_test (λ (t : Serving). Is n i t) (is_nothing (held_of s.tokens.blocks block).mode) (record s { cache = cache_leave s.cache block }) s (λ t. h) (λ t. h)

  note_copy_its : (s : Serving) (block : BlockId) → Is n i s → Is n i (note_copy s block)
  unfolding note_copy
  note_copy_its s block h =
      by_test (λ (t : Serving). Is n i t) (same_mode (held_of s.tokens.blocks block).mode Copy) (note_clean s block) s (λ t. note_clean_its s block h) (λ t. h)

  -- ---- readings

  loses_so : (s : Serving) (block : BlockId) (seg : SegName) → Is n i s → Goes n i (loses s block seg)
  unfolding loses
  loses_so s block seg h = record { does = (tt, says_loss s.lasting.items.unanswered seg); its = h }

  lose_at_so : (s : Serving) (at : Option BlockAt) (seg : SegName) → Is n i s → Goes n i (lose_at s at seg)
  lose_at_so s None seg h = still_so s h
  lose_at_so s (Some at) seg h = loses_so s at.block seg h

  begins_over_so : (s : Serving) (target : Target) (group : Option Group) → Is n i s → Goes n i (begins_over s target group)
  begins_over_so s target None h = still_so s h
  begins_over_so s target (Some group) h = record { does = says_fetches (reading_start target group (next_ask s.lasting.questions)); its = h }

  begin_reading_so : (s : Serving) (target : Target) → Is n i s → Goes n i (begin_reading s target)
  unfolding begin_reading
  begin_reading_so s target h = begins_over_so s target (group_in s.maps.groups target.seg.group) h

  confirmed_so : (s : Serving) (r : ReadingState) (x : Next) → Is n i s → Goes n i (go_on_reading s r x)
  confirmed_so s r next.Lost h = lose_at_so s r.target.block r.target.seg.name h
  confirmed_so s r next.Ask h = record { does = says_fetches r; its = h }
  confirmed_so s r next.Wait h = still_so (with_reading s (Some r)) h
  confirmed_so s r next.Again h = still_so (with_reading s (Some r)) h
  confirmed_so s r (next.Read segment) h = still_so (with_reading s (Some r)) h

  drawn_its : (s : Serving) (stage : Stage) → Is n i s → Is n i (drawn_after s stage)
  drawn_its s Between h = h
  drawn_its s Asking h = h
  drawn_its s Doubted h = h
  drawn_its s Over h = h

  serving_confirm_so : (s : Serving) (r : ReadingState) → Is n i s → Goes n i (serving_confirm s r)
  unfolding serving_confirm
  serving_confirm_so s r h =
      let step : Step = on_confirmed r (ask_after s r.ask r.stage) in
      confirmed_so (drawn_after s r.stage) step.state step.next (drawn_its s r.stage h)

  reads_over_so : (s : Serving) (target : Target) (reading : Option ReadingState) → Is n i s → Goes n i (reads_over s target reading)
  reads_over_so s target None h = begin_reading_so s target h
  reads_over_so s target (Some r) h =
      by_test (λ (d : Done). Goes n i d) (same_target r.target target) (serving_confirm s r) (begin_reading s target) (λ t. serving_confirm_so s r h) (λ t. begin_reading_so s target h)

  serving_read_so : (s : Serving) (block : BlockId) (place : Place) → Is n i s → Goes n i (serving_read s block place)
  unfolding serving_read
  serving_read_so s block place h =
      by_test (λ (d : Done). Goes n i d) (is_none s.call) (still s) (reads_over (with_reading s None) (target_of block place) (reading_in s.call))
      (λ t. still_so s h) (λ t. reads_over_so (with_reading s None) (target_of block place) (reading_in s.call) h)

  -- ---- what the tokens say

  serving_seal_so : (s : Serving) → Is n i s → Goes n i (serving_seal s)
  unfolding serving_seal
  serving_seal_so s h = record { does = all_flat_map (MayDo i) stored says_stored (log.on_seal s.log).outs; its = h }

  follow_one_so : (s : Serving) (o : outputs.Out) → Is n i s → Goes n i (follow_one s o)
  unfolding follow_one
  follow_one_so s (output.Want block req again mode) h = record {
    does = all_append (MayDo i) (before_want s block again) (want s block req again mode ∷ []) (says_before s block again) ((tt, h.1), tt);
    its = h;
  }
  follow_one_so s (output.Gave block stamp) h = record {
    does = all_append (MayDo i) (deltas s block) (gave s block stamp ∷ []) (says_pushes s.managers s.feed (slot_of block.ino.0)) (tt, tt);
    its = h;
  }
  follow_one_so s (output.Flush block) h = serving_seal_so s h
  follow_one_so s (output.Read block place) h = serving_read_so s block place h
  follow_one_so s (output.Ready block) h = still_so (note_copy s block) (note_copy_its s block h)
  follow_one_so s (output.Supply block ver value) h = still_so s h

  serving_follow_so : (s : Serving) (outs : List outputs.Out) → Is n i s → Goes n i (serving_follow s outs)
  unfolding serving_follow
  serving_follow_so s outs h = steps_so follow_one follow_one_so s outs h

  hand_so : (s : Serving) (x : inputs.In) → Is n i s → Goes n i (hand s x)
  unfolding hand
  hand_so s x h =
      let r : client.Done = client.transition s.tokens x in
      serving_follow_so (ends_reading (record s { tokens = r.state })) r.outs h

  take_back_so : (s : Serving) (block : BlockId) (stamp : Stamp) (keep : Bool) → Is n i s → Goes n i (take_back s block stamp keep)
  unfolding take_back
  take_back_so s block stamp keep h =
      let d : Done = hand s (input.Recalled block stamp keep) in
      let g : Goes n i d = hand_so s (input.Recalled block stamp keep) h in
      record { does = g.does; its = note_gone_its d.state block g.its }

  -- ---- the log

  notes_settled_its : (s : Serving) (row : BlockId × Entry) → Is n i s → Is n i (notes_settled s row)
  unfolding notes_settled
  notes_settled_its s row h = h

  keep_row_its : (s : Serving) (row : BlockId × Entry) → Is n i s → Is n i (keep_row s row)
  unfolding keep_row
  keep_row_its s row h =
      by_test (λ (t : Serving). Is n i t) (not (is_dirty (held_at s row.0)) && is_held (held_at s row.0).mode) (note_clean s row.0) s
      (λ t. note_clean_its s row.0 h) (λ t. h)

  gives_up_so : (s : Serving) (block : BlockId) (giving : Option Giving) → Is n i s → Goes n i (gives_up s block giving)
  gives_up_so s block None h = still_so s h
  gives_up_so s block (Some g) h = take_back_so s block g.stamp g.keep h

  give_if_clean_so : (s : Serving) (block : BlockId) → Is n i s → Goes n i (give_if_clean s block)
  unfolding give_if_clean
  give_if_clean_so s block h =
      by_test (λ (d : Done). Goes n i d) (is_dirty (held_at s block)) (still s) (gives_up s block (held_at s block).giving)
      (λ t. still_so s h) (λ t. gives_up_so s block (held_at s block).giving h)

  serving_settle_so : (s : Serving) (end : End) (rows : List (BlockId × Entry)) → Is n i s → Goes n i (serving_settle s end rows)
  unfolding serving_settle
  serving_settle_so s end rows h =
      let fed : Serving = feeds (settle_rows s rows) end rows in
      let its : Is n i fed = fold_its keep_row keep_row_its (fold notes_settled s rows) rows (fold_its notes_settled notes_settled_its s rows h) in
      after_so (Does (Filed (name_of (log_of s.lasting) end)) ∷ push_all fed.managers fed.feed) (steps give_if_clean fed (dirty_in s.tokens.blocks))
      (tt, says_pushes_all fed.managers fed.feed) (steps_so give_if_clean give_if_clean_so fed (dirty_in s.tokens.blocks) its)

  write_one_so : (s : Serving) (o : LogOut) → Is n i s → Goes n i (write_one s o)
  unfolding write_one
  write_one_so s (log_out.Send fragment member) h = record { does = (tt, tt); its = h }
  write_one_so s (log_out.Settled end rows) h = serving_settle_so s end rows h

  seals_again_so : (s : Serving) (settling : Bool) → Is n i s → Goes n i (seals_again s settling)
  seals_again_so s settling h =
      by_test (λ (d : Done). Goes n i d) (settling && is_giving s.tokens) (serving_seal s) (still s) (λ t. serving_seal_so s h) (λ t. still_so s h)

  serving_write_so : (s : Serving) (x : LogIn) → Is n i s → Goes n i (serving_write s x)
  unfolding serving_write
  serving_write_so s x h =
      let r : Stepped LogState LogOut = log.transition s.log x in
      let d : Done = steps write_one (record s { log = r.state }) r.outs in
      let g : Goes n i d = steps_so write_one write_one_so (record s { log = r.state }) r.outs h in
      after_so d.outs (seals_again d.state (list_any is_settling r.outs)) g.does (seals_again_so d.state (list_any is_settling r.outs) g.its)

  -- ---- packets about blocks

  on_grant_so : (s : Serving) (m : Grant) → Is n i s → Goes n i (on_grant s m)
  unfolding on_grant
  on_grant_so s m h =
      by_test (λ (d : Done). Goes n i d) (is_own m.mode && not (has_long_room m.entry.ver)) (still s)
      (hand s (input.Granted m.block m.stamp m.inc m.req m.mode m.entry))
      (λ t. still_so s h) (λ t. hand_so s (input.Granted m.block m.stamp m.inc m.req m.mode m.entry) h)

  on_supply_so : (s : Serving) (m : Supply) → Is n i s → Goes n i (on_supply s m)
  unfolding on_supply
  on_supply_so s m h = hand_so s (input.Supplied m.block m.stamp m.inc m.req m.ver m.value) h

  on_forward_so : (s : Serving) (f : Forward) → Is n i s → Goes n i (on_forward s f)
  unfolding on_forward
  on_forward_so s f h = record {
    does = all_flat_map (MayDo i) (send_supply f) (says_supplies f) (client.on_forwarded s.tokens f.block f.stamp f.ver).outs;
    its = h;
  }

  on_recall_so : (s : Serving) (r : Recall) → Is n i s → Goes n i (on_recall s r)
  unfolding on_recall
  on_recall_so s r h =
      let d : client.Done = client.on_recalled s.tokens r.block r.stamp r.keep in
      let t : Serving = record s { tokens = d.state } in
      by_test (λ (x : Done). Goes n i x) (is_stamp (held_at s r.block).stamp r.stamp) (says_again s r d) (take_back s r.block r.stamp r.keep)
      (λ e. record { does = says_again_so t r d.outs; its = h }) (λ e. take_back_so s r.block r.stamp r.keep h)

  on_gone_so : (s : Serving) (m : Gone) → Is n i s → Goes n i (on_gone s m)
  unfolding on_gone
  on_gone_so s m h =
      by_test (λ (d : Done). Goes n i d) (is_gone s m) (loses s m.block m.seg) (still s) (λ t. loses_so s m.block m.seg h) (λ t. still_so s h)

  on_ack_so : (s : Serving) (a : DeltaAck) → Is n i s → Goes n i (still (on_ack s a))
  unfolding on_ack
  on_ack_so s a h =
      still_so (on_ack s a) (by_test (λ (t : Serving). Is n i t) (is_acked s a) (record s { feed = acknowledged s.feed a.slot a.applied }) s (λ t. h) (λ t. h))

  -- ---- fragments

  end_fetch_so : (s : Serving) (at : BlockAt) (x : Next) → Is n i s → Goes n i (end_fetch s at x)
  end_fetch_so s at next.Again h = hand_so s (input.Reask at.block) h
  end_fetch_so s at (next.Read segment) h = hand_so s (input.Fetched at.block (value_at segment at.item)) h
  end_fetch_so s at next.Wait h = still_so s h
  end_fetch_so s at next.Ask h = still_so s h
  end_fetch_so s at next.Lost h = still_so s h

  told_at_so : (s : Serving) (at : Option BlockAt) (x : Heard) → Is n i s → Goes n i (told_at s at x)
  told_at_so s None x h = still_so s h
  told_at_so s (Some at) x h = end_fetch_so (with_reading s x.reading) at x.next h

  on_told_so : (s : Serving) (from : NodeId) (ask : ℕ) (t : Told) → Is n i s → Goes n i (on_told s from ask t)
  unfolding told_by
  on_told_so s (node.Server server) ask t h = told_at_so s (block_read (reading_in s.call)) (hear_reading (reading_in s.call) s.maps.groups ask server t) h
  on_told_so s (node.Client k) ask t h = still_so s h
  on_told_so s (node.Manager k) ask t h = still_so s h
  on_told_so s node.Cleaner ask t h = still_so s h
  on_told_so s node.Registry ask t h = still_so s h

  -- ---- promises

  renews_its : (s : Serving) (slot epoch : ℕ) → Is n i s → Is n i (serving_renew s slot epoch)
  unfolding serving_renew
  renews_its s slot epoch h =
      by_test (λ (t : Serving). Is n i t) (nat_lt (epoch_of s.tokens.epochs slot) epoch) (record s { feed = new_epoch s.feed slot }) s (λ t. h) (λ t. h)

  promises_its : (s : Serving) (slot epoch manager : ℕ) → Is n i s → Is n i (serving_promise s slot epoch manager).state
  unfolding serving_promise
  promises_its s slot epoch manager h = renews_its s slot epoch h

  promised_in_so : (s : Serving) (news : SlotNews) → Is n i s → Goes n i (promised_in s news)
  promised_in_so s news h =
      let p : Stepped Serving outputs.Out = serving_promise s news.slot news.epoch news.manager in
      serving_follow_so p.state p.outs (promises_its s news.slot news.epoch news.manager h)

  reports_so : (slot epoch : ℕ) (p : Stepped Serving outputs.Out) → Is n i p.state → Goes n i (reports slot epoch p)
  reports_so slot epoch p h = after_so (report p.state slot epoch ∷ []) (serving_follow p.state p.outs) (tt, tt) (serving_follow_so p.state p.outs h)

  polled_so : (s : Serving) (manager : ℕ) (p : Poll) → Is n i s → Goes n i (polled s manager p)
  unfolding polled
  polled_so s manager p h =
      by_test (λ (d : Done). Goes n i d) (may_report s p) (reports p.slot p.epoch (serving_promise s p.slot p.epoch manager)) (still s)
      (λ t. reports_so p.slot p.epoch (serving_promise s p.slot p.epoch manager) (promises_its s p.slot p.epoch manager h)) (λ t. still_so s h)

  on_poll_so : (s : Serving) (from : NodeId) (p : Poll) → Is n i s → Goes n i (on_poll s from p)
  on_poll_so s (node.Manager manager) p h = polled_so s manager p h
  on_poll_so s (node.Client k) p h = still_so s h
  on_poll_so s (node.Server k) p h = still_so s h
  on_poll_so s node.Cleaner p h = still_so s h
  on_poll_so s node.Registry p h = still_so s h

  -- ---- maps

  serving_hear_so : (s : Serving) (news : SlotNews) → Is n i s → Goes n i (serving_hear s news)
  unfolding serving_hear
  serving_hear_so s news h = by_test (λ (d : Done). Goes n i d) (is_news s news) (promised_in s news) (still s) (λ t. promised_in_so s news h) (λ t. still_so s h)

  regroups_so : (s : Serving) (newer : Bool) (m : GroupMapState) → Is n i s → Goes n i (regroups s newer m)
  regroups_so s newer m h = by_test (λ (d : Done). Goes n i d) newer (serving_write s (log_in.Maps m)) (still s) (λ t. serving_write_so s (log_in.Maps m) h) (λ t. still_so s h)

  takes_news_so : (s : Serving) (news : News) → Is n i s → Goes n i (takes_news s news)
  unfolding takes_news
  takes_news_so s news h =
      let t : Serving = record s { maps = maps_take s.maps news } in
      let d : Done = steps serving_hear t news.slots in
      let g : Goes n i d = steps_so serving_hear serving_hear_so t news.slots h in
      after_so d.outs (regroups d.state (is_older s.maps news) news.groups) g.does (regroups_so d.state (is_older s.maps news) news.groups g.its)

  on_news_so : (s : Serving) (news : News) → Is n i s → Goes n i (on_news s news)
  on_news_so s news h =
      by_test (λ (d : Done). Goes n i d) (fits s.maps news) (takes_news s news) (still s) (λ t. takes_news_so s news h) (λ t. still_so s h)

  on_welcome_so : (s : Serving) (w : Welcome) → Is n i s → Goes n i (on_welcome s w)
  unfolding on_welcome
  on_welcome_so s w h =
      by_test (λ (d : Done). Goes n i d) (w.inc == s.lasting.inc) (on_news s w.news) (still s) (λ t. on_news_so s w.news h) (λ t. still_so s h)

  asks_for_maps_so : (s : Serving) → Is n i s → Goes n i (asks_for_maps s)
  unfolding asks_for_maps
  asks_for_maps_so s h = record { does = ((refl, h.1), tt); its = h }

  -- ---- a packet, and time

  take_body_so : (s : Serving) (from : NodeId) (b : Body) → Is n i s → Goes n i (take_body s from b)
  take_body_so s from (body.Grant m) h = on_grant_so s m h
  take_body_so s from (body.Supply m) h = on_supply_so s m h
  take_body_so s from (body.Forward m) h = on_forward_so s m h
  take_body_so s from (body.Recall m) h = on_recall_so s m h
  take_body_so s from (body.Gone m) h = on_gone_so s m h
  take_body_so s from (body.DeltaAck m) h = on_ack_so s m h
  take_body_so s from (body.Poll m) h = on_poll_so s from m h
  take_body_so s from (body.Stored m) h = serving_write_so s (log_in.Acked m.name m.index m.generation) h
  take_body_so s from (body.Fragment m) h = on_told_so s from m.ask (told.Held m.fragment) h
  take_body_so s from (body.Missing m) h = on_told_so s from m.ask (told.Missing m.generation) h
  take_body_so s from (body.MapNews m) h = on_news_so s m h
  take_body_so s from (body.Welcome m) h = on_welcome_so s m h
  take_body_so s from _ h = still_so s h

  serving_take_so : (s : Serving) (p : Packet) → Is n i s → Goes n i (serving_take s p)
  unfolding serving_take
  serving_take_so s p h =
      by_test (λ (d : Done). Goes n i d) (names_known_groups s.maps p.body) (take_body s p.from p.body) (asks_for_maps s) (λ t. take_body_so s p.from p.body h)
      (λ t. asks_for_maps_so s h)

  on_tick_so : (s : Serving) → Is n i s → Goes n i (on_tick s)
  unfolding on_tick
  on_tick_so s h =
      let w : Done = hand s input.Tick in
      let l : Done = serving_write w.state log_in.Tick in
      let waits : Goes n i w = hand_so s input.Tick h in
      let logs : Goes n i l = serving_write_so w.state log_in.Tick waits.its in
      let pushed_out : List Effect = push_all l.state.managers l.state.feed in
      let fetched : List Effect = fetch_again (reading_in w.state.call) in
      record {
        does = all_append (MayDo i) w.outs (fetched ++ (l.outs ++ pushed_out)) waits.does
            (all_append (MayDo i) fetched (l.outs ++ pushed_out) (says_fetches_again (reading_in w.state.call))
            (all_append (MayDo i) l.outs pushed_out logs.does (says_pushes_all l.state.managers l.state.feed)));
        its = logs.its;
      }

behaves : (s : Serving) (d : Done) → Goes s.lasting.number s.lasting.inc d → Behaves s d
behaves s d g = record { does = g.does; number = g.its.0; inc = g.its.1 }

pub packet_so : (s : Serving) (p : Packet) → Behaves s (serving_take s p)
packet_so s p = behaves s (serving_take s p) (serving_take_so s.lasting.number s.lasting.inc s p (refl, refl))

pub tick_so : (s : Serving) → Behaves s (on_tick s)
tick_so s = behaves s (on_tick s) (on_tick_so s.lasting.number s.lasting.inc s (refl, refl))
