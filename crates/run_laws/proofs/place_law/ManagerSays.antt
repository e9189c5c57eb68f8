-- Whatever happens to a manager, it tells entries of its index in answer to a Want, a Gave, Deltas or a Check alone: whatever is said of Grants and Lives, and
-- holds of what it says to those, holds of all that it says.
use Rattle.std.proofs.Common.{ℕ, ◌==◌, List, true, false, Option, None, Some, is_some, length}
use Rattle.std.specs.Prelude.{fold}
use Rattle.checkpoint.specs.declared.input.In.{In}
use Rattle.checkpoint.specs.declared.input.In.TheVariants as input
use Rattle.checkpoint.specs.declared.output.Out.{Out}
use Rattle.checkpoint.specs.declared.output.Out.TheVariants as out
use Rattle.checkpoint.specs.Transition as writer
use Rattle.client_log.specs.declared.input.In.{In as LogIn}
use Rattle.client_log.specs.declared.input.In.TheVariants as log_in
use Rattle.client_log.specs.declared.output.Out.{Out as LogOut}
use Rattle.client_log.specs.Transition as log
use Rattle.group_map.specs.GroupMapState.{GroupMapState}
use Rattle.manager_node.specs.declared.phase.Phase.{Phase}
use Rattle.manager_node.specs.declared.phase.Phase.TheVariants.{Down, Waiting, Serving as Serves}
use Rattle.manager_node.specs.Events as events
use Rattle.manager_node.specs.Phases as phases
use Rattle.manager_node.specs.Phases.{Went_to, serves}
use Rattle.manager_slots.specs.declared.lasting.Lasting.{Lasting as Kept}
use Rattle.manager_slots.specs.SlotTable as table
use Rattle.manager_serving.specs.Checkpoints as checkpoints
use Rattle.manager_serving.specs.Checkpoints.{Done}
use Rattle.manager_serving.specs.declared.checkpointing.Checkpointing.{Checkpointing}
use Rattle.manager_serving.specs.declared.serving.Serving.{Serving}
use Rattle.manager_serving.specs.Serving as serving
use Rattle.node_base.specs.Beginning.{next_item, work_at}
use Rattle.node_base.specs.declared.effects.Effect.{Effect}
use Rattle.node_base.specs.Maps.{fits, forgotten, is_older, maps_take}
use Rattle.segment_format.specs.declared.segment.Item.{Item}
use Rattle.version_model.specs.declared.answer.Answer.TheVariants as answer
use Rattle.version_model.specs.declared.work.Work.{Work}
use Rattle.version_model.specs.declared.work.Work.TheVariants as work
use Rattle.wire_msg.specs.declared.body.Body.{Body}
use Rattle.wire_msg.specs.declared.body.Body.TheVariants as body
use Rattle.wire_msg.specs.declared.registry.CkptAck.{CkptAck}
use Rattle.wire_msg.specs.declared.registry.CkptDone.{CkptDone}
use Rattle.wire_msg.specs.declared.registry.News.{News}
use Rattle.wire_msg.specs.declared.registry.Welcome.{Welcome}
use Rattle.xfs_base.proofs.Booleans.{by_test}
use Rattle.xfs_base.specs.declared.news.SlotNews.{SlotNews}
use Rattle.xfs_base.specs.declared.node.NodeId.{NodeId}
use Rattle.xfs_base.specs.Steps.{still}
use Rattle.client_log.specs.declared.output.Out.TheVariants as log_out
use Rattle.xfs_base.specs.Steps.{saying}
use Rattle.xfs_base.proofs.Alls.{all_append, all_flat_map}
use Rattle.run_laws.proofs.place_law.Saying.{AllSay, IsOfEntries, Says, answers_say, steps_say}
use Rattle.run_laws.proofs.place_law.SlotSays.{asks_say, hears_say, recalls_say, regroups_say, reports_say, takes_say, usages_say}

-- the bodies that are answered from the index
abbrev pub AsksIndex : Body → Type 0
AsksIndex (body.Want m) = Unit {0}
AsksIndex (body.Gave m) = Unit {0}
AsksIndex (body.Deltas m) = Unit {0}
AsksIndex (body.Check m) = Unit {0}
AsksIndex _ = ⊥

module _ (Is : Body → Type 0) (silent : IsOfEntries Is) where
  says_after : (outs : List Effect) (d : Done) → AllSay Is outs → AllSay Is d.outs → AllSay Is (saying outs d).outs
  says_after outs d first then_so = all_append (Says Is) outs d.outs first then_so

  -- ---- the log

  checkpointing_store_so : (o : LogOut) → AllSay Is (checkpoints.checkpointing_store o)
  unfolding checkpoints.checkpointing_store
  checkpointing_store_so (log_out.Send f member) = (silent _ tt, tt)
  checkpointing_store_so (log_out.Settled end rows) = tt

  parts_so : (s : Serving) (items : List Item) → AllSay Is (checkpoints.give_parts s items).outs
  unfolding checkpoints.give_parts
  parts_so s items = all_flat_map (Says Is) checkpoints.checkpointing_store checkpointing_store_so (log.transition s.log (log_in.Parts items)).outs

  -- ---- the writer

  writer_says_so : (s : Serving) (o : Out) → AllSay Is (checkpoints.writer_says s o).outs
  unfolding checkpoints.writer_says checkpoints.register
  writer_says_so s (out.Parts items) = parts_so s items
  writer_says_so s (out.Done slot epoch parts horizon) = (silent _ tt, tt)
  writer_says_so s out.Kept = tt
  writer_says_so s (out.Stale epoch) = tt

  takes_so : (s : Serving) (given : In) → AllSay Is (checkpoints.writer_takes s given).outs
  unfolding checkpoints.writer_takes checkpoints.writer_says_each
  takes_so s given = (let r = writer.transition s.writer given in steps_say Is checkpoints.writer_says writer_says_so (record s { writer = r.state }) r.outs)

  log_so : (s : Serving) (o : LogOut) → AllSay Is (checkpoints.log_says s o).outs
  unfolding checkpoints.log_says checkpoints.on_settled
  log_so s (log_out.Send f member) = (silent _ tt, tt)
  log_so s (log_out.Settled end rows) =
      says_after (checkpoints.filed s end) (checkpoints.writer_takes s (input.Settled end)) (tt, tt) (takes_so s (input.Settled end))

  serving_write_so : (s : Serving) (given : LogIn) → AllSay Is (checkpoints.serving_write s given).outs
  unfolding checkpoints.serving_write checkpoints.log_says_each
  serving_write_so s given =
      steps_say Is checkpoints.log_says log_so (record s { log = (log.transition s.log given).state }) (log.transition s.log given).outs

  -- ---- checkpoints

  slot_so : (s : Serving) (given : Option In) → AllSay Is (checkpoints.writes_slot s given).outs
  slot_so s None = tt
  slot_so s (Some given) = takes_so s given

  next_at : (s : Serving) (job : Checkpointing) (slot : Option ℕ) → AllSay Is (checkpoints.next_from s job slot).outs
  unfolding checkpoints.begin_slot
  next_at s job None = answers_say Is s.lasting.items.unanswered (answer.Count job.count)
  next_at s job (Some slot) = slot_so (record s { checkpoint = _; slots = _ }) (table.begin_at s.slots slot)

  next_for_so : (s : Serving) (job : Option Checkpointing) → AllSay Is (checkpoints.next_for s job).outs
  next_for_so s None = tt
  next_for_so s (Some job) = next_at s job (table.next_active s.slots job.next)

  next_so : (s : Serving) → AllSay Is (checkpoints.next_slot s).outs
  unfolding checkpoints.next_slot
  next_so s = next_for_so s s.checkpoint

  checkpoint_so : (s : Serving) (number : ℕ) → AllSay Is (checkpoints.on_checkpoint s number).outs
  unfolding checkpoints.on_checkpoint
  checkpoint_so s number =
      by_test (λ (d : Done). AllSay Is d.outs) (is_some s.lasting.items.unanswered) (checkpoints.gives s _) (checkpoints.next_slot (checkpoints.waits s number))
      (λ t. (tt, tt))
      (λ t. next_so (checkpoints.waits s number))

  ack_so : (s : Serving) (ack : CkptAck) → AllSay Is (checkpoints.on_ckpt_ack s ack).outs
  unfolding checkpoints.on_ckpt_ack
  ack_so s ack =
      let r = writer.transition s.writer (input.Ack ack.epoch s.dones) in
      by_test (λ (d : Done). AllSay Is d.outs) (checkpoints.awaits s.checkpoint ack.ask) (checkpoints.answered_by s r) (still s)
      (λ t. by_test (λ (d : Done). AllSay Is d.outs) (length r.outs == 0) (still (record s { writer = r.state }))
      (checkpoints.next_slot (record s { writer = r.state; checkpoint = fold checkpoints.checkpointing_count s.checkpoint r.outs }))
      (λ u. tt)
      (λ u. next_so (record s { writer = r.state; checkpoint = fold checkpoints.checkpointing_count s.checkpoint r.outs })))
      (λ t. tt)

  again_so : (job : Option Checkpointing) → AllSay Is (checkpoints.checkpointing_tell_again job)
  again_so None = tt
  again_so (Some job) = by job.done
    where
      by : (o : Option CkptDone) → AllSay Is (checkpoints.send_done o)
      by None = tt
      by (Some done) = (silent _ tt, tt)

  -- ---- the maps

  hears_with_so : (s : Serving) (clients : ℕ) (slots : List SlotNews) (groups : Option GroupMapState)
      → AllSay Is (serving.hears_with s clients slots groups).outs
  hears_with_so s clients slots None = tt
  hears_with_so s clients slots (Some groups) = hears_say Is silent (serving.hearer_of s clients groups) (serving.asker_of s) slots

  hear_slots_so : (s : Serving) (clients : ℕ) (slots : List SlotNews) → AllSay Is (serving.hear_slots s clients slots).outs
  unfolding serving.hear_slots
  hear_slots_so s clients slots = hears_with_so s clients slots s.maps.groups

  regroups_so : (s : Serving) (groups : GroupMapState) → AllSay Is (serving.regroups s groups).outs
  unfolding serving.regroups
  regroups_so s groups = regroups_say Is silent groups (serving.asker_of s)

  newer_so : (s : Serving) (clients : ℕ) (news : News) → AllSay Is (serving.on_newer s clients news).outs
  unfolding serving.on_newer
  newer_so s clients news =
      let a : Done = serving.regroups s news.groups in
      let b : Done = serving.and_then a (λ t. serving.hear_slots t clients news.slots) in
      says_after b.outs (checkpoints.serving_write b.state (log_in.Maps news.groups))
      (says_after a.outs (serving.hear_slots a.state clients news.slots) (regroups_so s news.groups) (hear_slots_so a.state clients news.slots))
      (serving_write_so b.state (log_in.Maps news.groups))

  news_so : (s : Serving) (clients : ℕ) (news : News) → AllSay Is (serving.on_news s clients news).outs
  unfolding serving.on_news
  news_so s clients news =
      by_test (λ (d : Done). AllSay Is d.outs) (is_older s.maps news) (serving.on_newer (record s { maps = maps_take s.maps news }) clients news)
      (serving.hear_slots s clients news.slots)
      (λ t. newer_so (record s { maps = maps_take s.maps news }) clients news) (λ t. hear_slots_so s clients news.slots)

  fitting_so : (s : Serving) (clients : ℕ) (news : News) → AllSay Is (serving.on_fitting_news s clients news).outs
  fitting_so s clients news =
      by_test (λ (d : Done). AllSay Is d.outs) (fits s.maps news) (serving.on_news s clients news) (still s) (λ t. news_so s clients news) (λ t. tt)

  welcome_so : (s : Serving) (clients : ℕ) (m : Welcome) → AllSay Is (serving.on_welcome s clients m).outs
  welcome_so s clients m =
      by_test (λ (d : Done). AllSay Is d.outs) (m.inc == s.lasting.inc) (serving.on_fitting_news s clients m.news) (still s) (λ t. fitting_so s clients m.news)
      (λ t. tt)

  -- ---- packets

  answered_so : (s : Serving) (which : Option (ℕ × ℕ)) (given : ℕ → _) → AllSay Is (serving.answered_by s which given).outs
  unfolding serving.serving_take
  answered_so s None given = tt
  answered_so s (Some which) given = takes_say Is silent (serving.asker_of s) which.0 (given which.1)

  found_so : (s : Serving) (server : Option ℕ) (m : _) → AllSay Is (serving.on_found s server m).outs
  unfolding serving.on_found
  found_so s None m = tt
  found_so s (Some server) m = answered_so s (serving.fetch_of s m.ask) _

  missing_so : (s : Serving) (server : Option ℕ) (m : _) → AllSay Is (serving.on_missing s server m).outs
  unfolding serving.on_missing
  missing_so s None m = tt
  missing_so s (Some server) m = answered_so s (serving.fetch_of s m.ask) _

  pub body_so : (s : Serving) (clients : ℕ) (from : NodeId) (m : Body) → (AsksIndex m → AllSay Is (serving.on_body s clients from m).outs)
      → AllSay Is (serving.on_body s clients from m).outs
  unfolding serving.on_usage_ask serving.on_report
  body_so s clients from (body.MapNews m) own = fitting_so s clients m
  body_so s clients from (body.Welcome m) own = welcome_so s clients m
  body_so s clients from (body.Want m) own = own tt
  body_so s clients from (body.Gave m) own = own tt
  body_so s clients from (body.Deltas m) own = own tt
  body_so s clients from (body.Check m) own = own tt
  body_so s clients from (body.UsageAsk m) own = usages_say Is silent s.slots m
  body_so s clients from (body.Report m) own = reports_say Is silent (serving.asker_of s) from m
  body_so s clients from (body.Fragment m) own = found_so s _ m
  body_so s clients from (body.Missing m) own = missing_so s _ m
  body_so s clients from (body.Stored m) own = serving_write_so s (log_in.Acked m.name m.index m.generation)
  body_so s clients from (body.CkptAck m) own = ack_so s m
  body_so s clients from _ own = tt

  tick_so : (s : Serving) → AllSay Is (serving.on_tick s).outs
  unfolding serving.on_tick serving.recalls_again serving.serving_ask_again checkpoints.serving_tell_again
  tick_so s =
      let a : Done = serving.recalls_again s in
      let b : Done = serving.and_then a (λ t. serving.serving_ask_again t true) in
      let c : Done = serving.and_then b (λ t. serving.serving_ask_again t false) in
      let d : Done = serving.and_then c (λ t. checkpoints.serving_write t log_in.Tick) in
      says_after d.outs (checkpoints.serving_tell_again d.state)
      (says_after c.outs (checkpoints.serving_write c.state log_in.Tick)
      (says_after b.outs (serving.serving_ask_again b.state false)
      (says_after a.outs (serving.serving_ask_again a.state true) (recalls_say Is silent s.slots) (asks_say Is silent true (serving.asker_of a.state)))
      (asks_say Is silent false (serving.asker_of b.state)))
      (serving_write_so c.state log_in.Tick))
      (again_so d.state.checkpoint)

  -- ---- phases

  crash_so : (kept : Kept) (number : ℕ) → AllSay Is (phases.crash kept number).outs
  unfolding phases.crash
  crash_so kept number = all_append (Says Is) _ _ (answers_say Is kept.items.unanswered answer.Cut) (tt, tt)

  restart_so : (kept : Kept) (number : ℕ) → AllSay Is (phases.restart kept number).outs
  unfolding phases.restart
  restart_so kept number = (tt, (silent _ tt, tt))

  down_so : (kept : Kept) (number : ℕ) (asked : Option Work) → AllSay Is (phases.down_wish kept number (phases.wish_at asked)).outs
  down_so kept number (Some (work.Restart node)) = restart_so kept number
  down_so kept number (Some (work.Crash node)) = (tt, tt)
  down_so kept number (Some _) = (tt, tt)
  down_so kept number None = (tt, tt)

  waiting_so : (kept : Kept) (hello number : ℕ) (asked : Option Work) → AllSay Is (phases.waiting_wish kept hello number (phases.wish_at asked)).outs
  waiting_so kept hello number (Some (work.Crash node)) = crash_so kept number
  waiting_so kept hello number (Some (work.Restart node)) = (tt, tt)
  waiting_so kept hello number (Some _) = (tt, tt)
  waiting_so kept hello number None = (tt, tt)

  serving_so : (s : Serving) (number : ℕ) (asked : Option Work) → AllSay Is (phases.serving_wish s number (phases.wish_at asked)).outs
  serving_so s number (Some (work.Crash node)) = crash_so s.lasting number
  serving_so s number (Some (work.Restart node)) = (tt, tt)
  serving_so s number (Some _) = checkpoint_so s number
  serving_so s number None = checkpoint_so s number

  pub begins_so : (p : Phase) → AllSay Is (phases.on_begin p).outs
  unfolding phases.begin_down phases.begin_waiting phases.begin_serving
  begins_so (Down kept) = by (next_item kept.items)
    where
      by : (o : Option ℕ) → AllSay Is (phases.down_item (phases.with_begun kept) o).outs
      by None = tt
      by (Some number) = down_so (phases.with_begun kept) number (work_at (phases.with_begun kept).items number)
  begins_so (Waiting kept hello) = by (next_item kept.items)
    where
      by : (o : Option ℕ) → AllSay Is (phases.waiting_item (phases.with_begun kept) hello o).outs
      by None = tt
      by (Some number) = waiting_so (phases.with_begun kept) hello number (work_at (phases.with_begun kept).items number)
  begins_so (Serves s) = by (next_item s.lasting.items)
    where
      t : Serving
      t = record s { lasting = phases.with_begun s.lasting }

      by : (o : Option ℕ) → AllSay Is (phases.serving_item t o).outs
      by None = tt
      by (Some number) = serving_so t number (work_at t.lasting.items number)

  -- ---- events

  welcomed_so : (peers : _) (kept : Kept) (hello : ℕ) (m : Welcome) → AllSay Is (events.on_welcome peers kept hello m).outs
  unfolding events.on_welcome
  welcomed_so peers kept hello m =
      let s : Serving = serving.again kept (forgotten peers.servers) m.news.groups in
      by_test (λ (w : Went_to). AllSay Is w.outs) (events.takes_welcome peers kept hello m) (serves (serving.on_news s peers.clients m.news))
      (still (Waiting kept hello))
      (λ t. news_so s peers.clients m.news)
      (λ t. tt)

  pub waits_so : (peers : _) (kept : Kept) (hello : ℕ) (m : Body) → AllSay Is (events.on_waiting peers kept hello m).outs
  waits_so peers kept hello (body.Welcome m) = welcomed_so peers kept hello m
  waits_so peers kept hello _ = tt

  pub time_so : (p : Phase) → AllSay Is (events.on_time p).outs
  unfolding events.on_time
  time_so (Down kept) = tt
  time_so (Waiting kept ask) = (silent _ tt, tt)
  time_so (Serves s) = tick_so s
