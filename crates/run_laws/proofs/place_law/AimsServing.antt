-- A client's reading stays that of its fetch, whatever packet comes, however its call runs and time passes.
use Rattle.std.proofs.Common.{ℕ, zero, suc, ◌+◌, ◌==◌, ◌&&◌, Bool, not, List, Option, Some, None, is_none, sym, subst}
use Rattle.std.specs.Prelude.{fold, nat_lt}
use Rattle.std.specs.List.{AllByRecursion, list_any}
use Rattle.client_log.specs.declared.input.In.{In as LogIn}
use Rattle.client_log.specs.declared.input.In.TheVariants as log_in
use Rattle.client_log.specs.declared.output.Out.{Out as LogOut}
use Rattle.client_log.specs.declared.output.Out.TheVariants as log_out
use Rattle.client_log.specs.Transition as log
use Rattle.client_call.specs.Calls.{plan_answered}
use Rattle.client_call.specs.declared.call.Call.{Call}
use Rattle.client_call.specs.declared.call.Going.TheVariants.{On, Ends}
use Rattle.client_call.specs.declared.call.Going.{Going}
use Rattle.client_call.specs.Fitting.{put_fits}
use Rattle.client_call.specs.Reads.{block_read, Heard, hear_reading, reading_in, value_at}
use Rattle.client_running.specs.Blocks.{Made, blocks_need, got, blocks_get, wrote, changes, held_back, blocks_change, blocks_put, blocks_let_go, changed, puts_again, blocks_put_at, blocks_sync, blocks_make}
use Rattle.client_serving.specs.declared.serving.Serving.{Serving}
use Rattle.client_serving.specs.Flights.{held_at, notes_settled, keep_row, gives_up, give_if_clean, feeds, settle_rows, serving_settle, write_one, seals_again, serving_write}
use Rattle.client_serving.specs.Follow.{serving_follow, note_clean, note_gone, serving_seal, hand, take_back}
use Rattle.client_serving.specs.Grants.{is_stamp}
use Rattle.client_serving.specs.Packets.{on_grant, on_supply, on_forward, says_again, on_recall, is_gone, on_gone, is_acked, on_ack, end_fetch, told_at, told_by, on_told, serving_renew, serving_promise, reports, may_report, polled, on_poll, promised_in, is_news, serving_hear, regroups, takes_news, on_news, on_welcome, on_tick, take_body, asks_for_maps, serving_take}
use Rattle.client_serving.specs.Reads.{with_reading, loses}
use Rattle.client_running.specs.Running.{running_go_on, Ran, take_answer, ran, runs_call, run_once, run_upto, run, most_steps}
use Rattle.client_serving.specs.Sends.{Done}
use Rattle.delta_feed.specs.Transition.{acknowledged, new_epoch}
use Rattle.file_plan.specs.declared.block_call.BlockAnswer.{BlockAnswer}
use Rattle.file_plan.specs.declared.block_call.BlockCall.{BlockCall}
use Rattle.file_plan.specs.declared.block_call.BlockCall.TheVariants.{Get, Put, PutAt, Sync}
use Rattle.group_map.specs.GroupMapState.{GroupMapState}
use Rattle.log_owner.specs.Promised.{managers_set}
use Rattle.log_owner.specs.Sealing.{is_settling}
use Rattle.node_base.specs.Known.{names_known_groups}
use Rattle.node_base.specs.Maps.{fits, is_older, maps_take}
use Rattle.node_base.specs.Room.{has_long_room}
use Rattle.segment_reading.specs.declared.reading.Next.{Next}
use Rattle.segment_reading.specs.declared.reading.Next.TheVariants as next
use Rattle.segment_reading.specs.declared.target.BlockAt.{BlockAt}
use Rattle.segment_reading.specs.Reading.{ReadingState}
use Rattle.stripe_code.specs.declared.round.Told.{Told as Answered}
use Rattle.stripe_code.specs.declared.round.Told.TheVariants as answered
use Rattle.token_client.specs.declared.held.Giving.{Giving}
use Rattle.token_client.specs.declared.input.In.TheVariants as input
use Rattle.token_client.specs.Held.{is_dirty, may_write}
use Rattle.token_client.specs.Settling.{is_giving}
use Rattle.token_client.specs.State.{dirty_in}
use Rattle.token_client.specs.Transition as client
use Rattle.wire_msg.specs.declared.body.Body.{Body}
use Rattle.wire_msg.specs.declared.body.Body.TheVariants as body
use Rattle.wire_msg.specs.declared.deltas.DeltaAck.{DeltaAck}
use Rattle.wire_msg.specs.declared.deltas.Poll.{Poll}
use Rattle.wire_msg.specs.declared.packet.Packet.{Packet}
use Rattle.wire_msg.specs.declared.registry.News.{News}
use Rattle.wire_msg.specs.declared.registry.Welcome.{Welcome}
use Rattle.wire_msg.specs.declared.tokens.Forward.{Forward}
use Rattle.wire_msg.specs.declared.tokens.Gone.{Gone}
use Rattle.wire_msg.specs.declared.tokens.Grant.{Grant}
use Rattle.wire_msg.specs.declared.tokens.Recall.{Recall}
use Rattle.wire_msg.specs.declared.tokens.Supply.{Supply}
use Rattle.xfs_base.proofs.Booleans.{by_test}
use Rattle.xfs_base.proofs.StepLoops.{steps_keep}
use Rattle.xfs_base.specs.declared.block.BlockId.{BlockId}
use Rattle.xfs_base.specs.declared.entry.Entry.{Entry}
use Rattle.xfs_base.specs.declared.news.SlotNews.{SlotNews}
use Rattle.xfs_base.specs.declared.node.NodeId.{NodeId}
use Rattle.xfs_base.specs.declared.node.NodeId.TheVariants as node
use Rattle.xfs_base.specs.declared.segment.End.{End}
use Rattle.xfs_base.specs.declared.token.Mode.TheVariants.{Copy, Own}
use Rattle.xfs_base.specs.Modes.{is_held, is_nothing, is_own}
use Rattle.xfs_base.specs.Steps.{still, saying, steps}
use Rattle.node_tellings.proofs.entry_tie.ClientReads.{OutTold}
use Rattle.run_laws.proofs.place_law.Aims.{Nowhere, Its, its_heard, its_none, reads_nothing}
use Rattle.run_laws.proofs.place_law.AimsReads.{Aimed, GoingNew, ends_so, fold_keeps, serving_follow_so, granted_so, hand_so, loses_so, next_new, note_clean_so, note_gone_so, read_so, serving_seal_so, taken_so, take_back_so}

module _ (r : Option ReadingState) where
  abbrev At : Serving → Type 0
  At s = Aimed r s

  abbrev Goes : Done → Type 0
  Goes d = At d.state

  -- ---- the log

  notes_settled_so : (s : Serving) (row : BlockId × Entry) → At s → At (notes_settled s row)
  unfolding notes_settled
  notes_settled_so s row h = taken_so r s (input.Settled row.0 row.1.ver) tt h

  keep_row_so : (s : Serving) (row : BlockId × Entry) → At s → At (keep_row s row)
  unfolding keep_row
  keep_row_so s row h =
      by_test At (not (is_dirty (held_at s row.0)) && is_held (held_at s row.0).mode) (note_clean s row.0) s
      (λ _. note_clean_so r s row.0 h) (λ _. h)

  gives_up_so : (s : Serving) (block : BlockId) (giving : Option Giving) → At s → Goes (gives_up s block giving)
  gives_up_so s block None h = h
  gives_up_so s block (Some giving) h = take_back_so r s block giving.stamp giving.keep h

  give_if_clean_so : (s : Serving) (block : BlockId) → At s → Goes (give_if_clean s block)
  unfolding give_if_clean
  give_if_clean_so s block h =
      by_test Goes (is_dirty (held_at s block)) (still s) (gives_up s block (held_at s block).giving) (λ _. h)
      (λ _. gives_up_so s block (held_at s block).giving h)

  serving_settle_so : (s : Serving) (end : End) (rows : List (BlockId × Entry)) → At s → Goes (serving_settle s end rows)
  unfolding serving_settle
  serving_settle_so s end rows h =
      let kept : At (settle_rows s rows) =
      fold_keeps At keep_row keep_row_so (fold notes_settled s rows) rows (fold_keeps At notes_settled notes_settled_so s rows h)
      in
      steps_keep give_if_clean At give_if_clean_so (feeds (settle_rows s rows) end rows) (dirty_in s.tokens.blocks)
      (record { other = kept.other; own = kept.own })

  write_one_so : (s : Serving) (o : LogOut) → At s → Goes (write_one s o)
  unfolding write_one
  write_one_so s (log_out.Send fragment member) h = h
  write_one_so s (log_out.Settled end rows) h = serving_settle_so s end rows h

  seals_again_so : (s : Serving) (settling : Bool) → At s → Goes (seals_again s settling)
  seals_again_so s settling h =
      by_test Goes (settling && is_giving s.tokens) (serving_seal s) (still s) (λ _. serving_seal_so r s h) (λ _. h)

  pub serving_write_so : (s : Serving) (i : LogIn) → Aimed r s → Aimed r (serving_write s i).state
  unfolding serving_write
  serving_write_so s i h =
      let d : log.Done = log.transition s.log i in
      seals_again_so (steps write_one (record s { log = d.state }) d.outs).state (list_any is_settling d.outs)
      (steps_keep write_one At write_one_so (record s { log = d.state }) d.outs (record { other = h.other; own = h.own }))

  -- ---- calls on blocks

  blocks_get_so : (s : Serving) (block : BlockId) → At s → Goes (blocks_get s block).done
  unfolding blocks_get
  blocks_get_so s block h =
      by_test (λ (m : Made). Goes m.done) (is_nothing (held_at s block).mode) (blocks_need s block Copy) (got s block (held_at s block))
      (λ _. hand_so r s (input.Need block Copy) tt h) (λ _. record { other = h.other; own = h.own })

  changes_so : (s : Serving) (block : BlockId) (value : Option (List ℕ)) → At s → Goes (changes s block value).done
  unfolding changes
  changes_so s block value h =
      serving_write_so (wrote s block value) (log_in.Put block (record { ver = (held_at (wrote s block value) block).ver; hop = 0; place = None }) value)
      (let k : At (record s { tokens = (client.on_wrote s.tokens block value).state }) = taken_so r s (input.Wrote block value) tt h in
      record { other = k.other; own = k.own })

  blocks_let_go_so : (s : Serving) (block : BlockId) → At s → At (blocks_let_go s block)
  blocks_let_go_so s block h =
      by_test At (is_none (held_at s block).value) (note_gone (record s { tokens = (client.on_evict s.tokens block).state }) block) s
      (λ _. note_gone_so r (record s { tokens = (client.on_evict s.tokens block).state }) block (taken_so r s (input.Evict block) tt h)) (λ _. h)

  blocks_change_so : (s : Serving) (block : BlockId) (value : Option (List ℕ)) → At s → Goes (blocks_change s block value).done
  unfolding blocks_change
  blocks_change_so s block value h =
      by_test (λ (m : Made). Goes m.done) (put_fits block ((held_at s block).ver + 1) value) (changes s block value) (held_back s block)
      (λ _. changes_so s block value h) (λ _. blocks_let_go_so s block h)

  blocks_put_so : (s : Serving) (block : BlockId) (value : Option (List ℕ)) → At s → Goes (blocks_put s block value).done
  unfolding blocks_put
  blocks_put_so s block value h =
      by_test (λ (m : Made). Goes m.done) (may_write (held_at s block)) (blocks_change s block value) (blocks_need s block Own)
      (λ _. blocks_change_so s block value h) (λ _. hand_so r s (input.Need block Own) tt h)

  puts_again_so : (s : Serving) (block : BlockId) (ver : ℕ) (value : Option (List ℕ)) → At s → Goes (puts_again s block ver value).done
  puts_again_so s block ver value h =
      by_test (λ (m : Made). Goes m.done) ((held_at s block).ver == ver) (blocks_change s block value) (changed s block)
      (λ _. blocks_change_so s block value h) (λ _. blocks_let_go_so s block h)

  blocks_put_at_so : (s : Serving) (block : BlockId) (ver : ℕ) (value : Option (List ℕ)) → At s → Goes (blocks_put_at s block ver value).done
  unfolding blocks_put_at
  blocks_put_at_so s block ver value h =
      by_test (λ (m : Made). Goes m.done) (may_write (held_at s block)) (puts_again s block ver value) (blocks_need s block Own)
      (λ _. puts_again_so s block ver value h) (λ _. hand_so r s (input.Need block Own) tt h)

  pub blocks_make_so : (s : Serving) (call : BlockCall) → Aimed r s → Aimed r (blocks_make s call).done.state
  unfolding blocks_make blocks_sync
  blocks_make_so s (Get block) h = blocks_get_so s block h
  blocks_make_so s (Put block value) h = blocks_put_so s block value h
  blocks_make_so s (PutAt block ver value) h = blocks_put_at_so s block ver value h
  blocks_make_so s Sync h = serving_seal_so r s h

-- ---- the open call

abbrev Alone : Serving → Type 0
Alone s = Aimed None s

abbrev AloneDone : Done → Type 0
AloneDone d = Alone d.state

alone_so : (s : Serving) → Its (reading_in s.call) s.tokens → Alone s
alone_so s h = record { other = its_none s.tokens; own = h }

pub running_go_on_so : (s : Serving) (going : Going) → GoingNew going → Aimed None s → Aimed None (running_go_on s going).state
unfolding running_go_on
running_go_on_so s (On call) fact h = alone_so (record s { call = Some call }) (subst (λ o. Its o s.tokens) (sym fact) (its_none s.tokens))
running_go_on_so s (Ends answer) fact h = record { other = h.other; own = h.own }

take_answer_so : (s : Serving) (call : Call) (answer : Option BlockAnswer) → Its call.reading s.tokens → Alone s → AloneDone (take_answer s call answer).done
take_answer_so s call None fact h = alone_so (record s { call = Some call }) fact
take_answer_so s call (Some a) fact h = running_go_on_so s (plan_answered call.plan a) (next_new call.plan a) h

ran_so : (call : Call) (made : Made) → Aimed call.reading made.done.state → AloneDone (ran call made).done
ran_so call made h = take_answer_so made.done.state call made.answer h.other (alone_so made.done.state h.own)

runs_call_so : (s : Serving) (call : Option Call) → Its (reading_in call) s.tokens → Alone s → AloneDone (runs_call s call).done
runs_call_so s None fact h = h
runs_call_so s (Some call) fact h =
    ran_so call (blocks_make (record s { call = None }) call.step)
    (blocks_make_so call.reading (record s { call = None }) call.step (record { other = fact; own = its_none s.tokens }))

run_once_so : (s : Serving) → Alone s → AloneDone (run_once s).done
unfolding run_once
run_once_so s h = runs_call_so s s.call h.own h

turns_from : (k : ℕ) (s : Serving) → ((t : Serving) → Alone t → AloneDone (run_upto k t)) → AloneDone (run_once s).done → AloneDone (run_upto (suc k) s)
unfolding run_upto
turns_from k s rest p =
    let d : Ran = run_once s in
    by_test AloneDone d.goes (saying d.done.outs (run_upto k d.done.state)) d.done (λ _. rest d.done.state p) (λ _. p)

run_upto_so : (k : ℕ) (s : Serving) → Alone s → AloneDone (run_upto k s)
unfolding run_upto
run_upto_so zero s h = h
run_upto_so (suc k) s h = turns_from k s (run_upto_so k) (run_once_so s h)

pub run_so : (s : Serving) → Aimed None s → Aimed None (run s).state
unfolding run
run_so s h = run_upto_so most_steps s h

-- ---- tokens

on_grant_so : (s : Serving) (m : Grant) → Alone s → AloneDone (on_grant s m)
unfolding on_grant
on_grant_so s m h =
    by_test AloneDone (is_own m.mode && not (has_long_room m.entry.ver)) (still s) (hand s (input.Granted m.block m.stamp m.inc m.req m.mode m.entry)) (λ _. h)
    (λ _. granted_so s h m.block m.stamp m.inc m.req m.mode m.entry)

on_supply_so : (s : Serving) (m : Supply) → Alone s → AloneDone (on_supply s m)
unfolding on_supply
on_supply_so s m h = hand_so None s (input.Supplied m.block m.stamp m.inc m.req m.ver m.value) tt h

on_forward_so : (s : Serving) (m : Forward) → Alone s → AloneDone (on_forward s m)
unfolding on_forward
on_forward_so s m h = taken_so None s (input.Forwarded m.block m.stamp m.ver) tt h

on_recall_so : (s : Serving) (m : Recall) → Alone s → AloneDone (on_recall s m)
unfolding on_recall
on_recall_so s m h =
    by_test AloneDone (is_stamp (held_at s m.block).stamp m.stamp) (says_again s m (client.on_recalled s.tokens m.block m.stamp m.keep))
    (take_back s m.block m.stamp m.keep) (λ _. taken_so None s (input.Recalled m.block m.stamp m.keep) tt h)
    (λ _. take_back_so None s m.block m.stamp m.keep h)

on_gone_so : (s : Serving) (m : Gone) → Alone s → AloneDone (on_gone s m)
unfolding on_gone
on_gone_so s m h = by_test AloneDone (is_gone s m) (loses s m.block m.seg) (still s) (λ _. loses_so None s m.block m.seg h) (λ _. h)

on_ack_so : (s : Serving) (a : DeltaAck) → Alone s → Alone (on_ack s a)
unfolding on_ack
on_ack_so s a h =
    by_test Alone (is_acked s a) (record s { feed = acknowledged s.feed a.slot a.applied }) s (λ _. record { other = h.other; own = h.own }) (λ _. h)

-- ---- fragments

end_fetch_so : (s : Serving) (at : BlockAt) (x : Next) → Alone s → AloneDone (end_fetch s at x)
end_fetch_so s at next.Again h = hand_so None s (input.Reask at.block) tt h
end_fetch_so s at (next.Read segment) h = hand_so None s (input.Fetched at.block (value_at segment at.item)) tt h
end_fetch_so s at next.Wait h = h
end_fetch_so s at next.Ask h = h
end_fetch_so s at next.Lost h = h

told_at_so : (s : Serving) (at : Option BlockAt) (x : Heard) → Its x.reading s.tokens → Alone s → AloneDone (told_at s at x)
told_at_so s None x fact h = h
told_at_so s (Some at) x fact h = end_fetch_so (with_reading s x.reading) at x.next (read_so None s x.reading fact h)

told_by_so : (s : Serving) (server ask : ℕ) (t : Answered) → Alone s → AloneDone (told_by s server ask t)
unfolding told_by
told_by_so s server ask t h =
    told_at_so s (block_read (reading_in s.call)) (hear_reading (reading_in s.call) s.maps.groups ask server t)
    (its_heard (reading_in s.call) s.maps.groups ask server t s.tokens h.own) h

on_told_so : (s : Serving) (from : NodeId) (ask : ℕ) (t : Answered) → Alone s → AloneDone (on_told s from ask t)
on_told_so s (node.Server server) ask t h = told_by_so s server ask t h
on_told_so s (node.Client k) ask t h = h
on_told_so s (node.Manager k) ask t h = h
on_told_so s node.Cleaner ask t h = h
on_told_so s node.Registry ask t h = h

-- ---- promises

serving_renew_so : (s : Serving) (slot epoch : ℕ) → Alone s → Alone (serving_renew s slot epoch)
unfolding serving_renew
serving_renew_so s slot epoch h =
    by_test Alone (nat_lt _ epoch) (record s { feed = new_epoch s.feed slot }) s (λ _. record { other = h.other; own = h.own }) (λ _. h)

serving_promise_so : (s : Serving) (slot epoch manager : ℕ) → Alone s → Alone (serving_promise s slot epoch manager).state
unfolding serving_promise
serving_promise_so s slot epoch manager h =
    let t : Serving = serving_renew s slot epoch in
    let u : Serving = record t { managers = managers_set t.managers slot manager; tokens = (client.on_promise t.tokens slot epoch).state } in
    let k : Alone (record t { tokens = (client.on_promise t.tokens slot epoch).state }) =
    taken_so None t (input.Promise slot epoch) tt (serving_renew_so s slot epoch h) in
    ends_so None u (record { other = k.other; own = k.own })

nothing_read : (s : Serving) (slot epoch manager : ℕ) → AllByRecursion (OutTold Nowhere) (serving_promise s slot epoch manager).outs
unfolding serving_promise
nothing_read s slot epoch manager = reads_nothing (serving_renew s slot epoch).tokens (input.Promise slot epoch) tt

follows_promise : (s : Serving) (slot epoch manager : ℕ) → Alone s
    → AloneDone (serving_follow (serving_promise s slot epoch manager).state (serving_promise s slot epoch manager).outs)
follows_promise s slot epoch manager h =
    serving_follow_so None (serving_promise s slot epoch manager).state (serving_promise s slot epoch manager).outs (nothing_read s slot epoch manager)
    (serving_promise_so s slot epoch manager h)

polled_so : (s : Serving) (manager : ℕ) (p : Poll) → Alone s → AloneDone (polled s manager p)
unfolding polled
polled_so s manager p h =
    by_test AloneDone (may_report s p) (reports p.slot p.epoch (serving_promise s p.slot p.epoch manager)) (still s)
    (λ _. follows_promise s p.slot p.epoch manager h) (λ _. h)

on_poll_so : (s : Serving) (from : NodeId) (p : Poll) → Alone s → AloneDone (on_poll s from p)
on_poll_so s (node.Manager manager) p h = polled_so s manager p h
on_poll_so s (node.Client k) p h = h
on_poll_so s (node.Server k) p h = h
on_poll_so s node.Cleaner p h = h
on_poll_so s node.Registry p h = h

-- ---- maps

serving_hear_so : (s : Serving) (news : SlotNews) → Alone s → AloneDone (serving_hear s news)
unfolding serving_hear
serving_hear_so s news h =
    by_test AloneDone (is_news s news) (promised_in s news) (still s) (λ _. follows_promise s news.slot news.epoch news.manager h) (λ _. h)

regroups_so : (s : Serving) (newer : Bool) (m : GroupMapState) → Alone s → AloneDone (regroups s newer m)
regroups_so s newer m h = by_test AloneDone newer (serving_write s (log_in.Maps m)) (still s) (λ _. serving_write_so None s (log_in.Maps m) h) (λ _. h)

takes_news_so : (s : Serving) (news : News) → Alone s → AloneDone (takes_news s news)
unfolding takes_news
takes_news_so s news h =
    let t : Serving = record s { maps = maps_take s.maps news } in
    regroups_so (steps serving_hear t news.slots).state (is_older s.maps news) news.groups
    (steps_keep serving_hear Alone serving_hear_so t news.slots (record { other = h.other; own = h.own }))

on_news_so : (s : Serving) (news : News) → Alone s → AloneDone (on_news s news)
on_news_so s news h = by_test AloneDone (fits s.maps news) (takes_news s news) (still s) (λ _. takes_news_so s news h) (λ _. h)

on_welcome_so : (s : Serving) (m : Welcome) → Alone s → AloneDone (on_welcome s m)
unfolding on_welcome
on_welcome_so s m h = by_test AloneDone (m.inc == s.lasting.inc) (on_news s m.news) (still s) (λ _. on_news_so s m.news h) (λ _. h)

-- ---- a packet, and time

body_so : (s : Serving) (from : NodeId) (b : Body) → Alone s → AloneDone (take_body s from b)
body_so s from (body.Grant m) h = on_grant_so s m h
body_so s from (body.Supply m) h = on_supply_so s m h
body_so s from (body.Forward m) h = on_forward_so s m h
body_so s from (body.Recall m) h = on_recall_so s m h
body_so s from (body.Gone m) h = on_gone_so s m h
body_so s from (body.DeltaAck m) h = on_ack_so s m h
body_so s from (body.Poll m) h = on_poll_so s from m h
body_so s from (body.Stored m) h = serving_write_so None s (log_in.Acked m.name m.index m.generation) h
body_so s from (body.Fragment m) h = on_told_so s from m.ask (answered.Held m.fragment) h
body_so s from (body.Missing m) h = on_told_so s from m.ask (answered.Missing m.generation) h
body_so s from (body.MapNews m) h = on_news_so s m h
body_so s from (body.Welcome m) h = on_welcome_so s m h
body_so s from _ h = h

pub packet_so : (s : Serving) (p : Packet) → Aimed None s → Aimed None (run (serving_take s p).state).state
unfolding serving_take asks_for_maps
packet_so s p h =
    run_so (serving_take s p).state
    (by_test AloneDone (names_known_groups s.maps p.body) (take_body s p.from p.body) (asks_for_maps s) (λ _. body_so s p.from p.body h)
    (λ _. record { other = h.other; own = h.own }))

pub time_so : (s : Serving) → Aimed None s → Aimed None (run (on_tick s).state).state
unfolding on_tick
time_so s h = run_so (on_tick s).state (serving_write_so None (hand s input.Tick).state log_in.Tick (hand_so None s input.Tick tt h))
