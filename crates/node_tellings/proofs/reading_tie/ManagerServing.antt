-- What the takeovers of a manager that serves hold came, whatever packet comes, however its checkpoints go and time passes.
use Rattle.std.proofs.Common.{ℕ, ◌==◌, Bool, true, false, List, [], ◌∷◌, length, is_some}
use Rattle.std.specs.Prelude.{Option, Some, None, fold}
use Rattle.checkpoint.specs.declared.input.In.{In as WriterIn}
use Rattle.checkpoint.specs.declared.input.In.TheVariants as writer_in
use Rattle.checkpoint.specs.declared.output.Out.{Out}
use Rattle.checkpoint.specs.declared.output.Out.TheVariants as out
use Rattle.checkpoint.specs.Transition as writer
use Rattle.checkpoint.specs.WriterState.{WriterState}
use Rattle.client_log.specs.declared.input.In.{In as LogIn}
use Rattle.client_log.specs.declared.input.In.TheVariants as log_input
use Rattle.client_log.specs.declared.output.Out.{Out as LogOut}
use Rattle.client_log.specs.declared.output.Out.TheVariants as log_out
use Rattle.client_log.specs.Transition as log
use Rattle.group_map.specs.GroupMapState.{GroupMapState}
use Rattle.log_owner.specs.Sending.{server_in}
use Rattle.manager_slots.specs.Numbers.{slot_after}
use Rattle.manager_slots.specs.SlotTable as table
use Rattle.manager_slots.specs.SlotTable.{next_active, begin_at, slot_table_clean}
use Rattle.manager_serving.specs.Checkpoints.{Done, gives, give_parts, register, asked, writer_says, writer_says_each, writer_takes, on_settled, log_says, log_says_each, serving_write, writes_slot, begin_slot, next_from, next_for, next_slot, waits, on_checkpoint, awaits, checkpointing_count, answered_by, on_ckpt_ack, serving_tell_again}
use Rattle.manager_serving.specs.declared.checkpointing.Checkpointing.{Checkpointing}
use Rattle.manager_serving.specs.declared.serving.Serving.{Serving}
use Rattle.manager_serving.specs.Serving.{asker_of, client_in, fed_log, on_want, on_gave, on_deltas, on_check, on_usage_ask, serving_take, on_report, answered_by as answers_by, on_found, on_missing, regroups, hearer_of, hears_with, hear_slots, on_newer, on_news, on_fitting_news, ask_for_maps, on_body, serving_hear, recalls_again, serving_ask_again, on_tick}
use Rattle.node_base.specs.declared.effects.Effect.TheVariants.{Answer as Answers}
use Rattle.node_base.specs.Known.{names_known_groups}
use Rattle.node_base.specs.Maps.{fits, is_older, maps_take}
use Rattle.stripe_code.specs.declared.round.Told.TheVariants as answered
use Rattle.takeover.specs.declared.input.In.{In as TakeIn}
use Rattle.takeover.specs.declared.input.In.TheVariants as take_in
use Rattle.version_model.specs.declared.answer.Answer.TheVariants as answer
use Rattle.wire_msg.specs.declared.body.Body.{Body}
use Rattle.wire_msg.specs.declared.body.Body.TheVariants as body
use Rattle.wire_msg.specs.declared.cleaning.Check.{Check}
use Rattle.wire_msg.specs.declared.cleaning.UsageAsk.{UsageAsk}
use Rattle.wire_msg.specs.declared.deltas.Deltas.{Deltas}
use Rattle.wire_msg.specs.declared.deltas.Report.{Report}
use Rattle.wire_msg.specs.declared.packet.Packet.{Packet}
use Rattle.wire_msg.specs.declared.registry.CkptAck.{CkptAck}
use Rattle.wire_msg.specs.declared.registry.CkptDone.{CkptDone}
use Rattle.wire_msg.specs.declared.registry.News.{News}
use Rattle.wire_msg.specs.declared.storage.Found.{Found}
use Rattle.wire_msg.specs.declared.storage.Missing.{Missing}
use Rattle.wire_msg.specs.declared.tokens.Gave.{Gave}
use Rattle.wire_msg.specs.declared.tokens.Want.{Want}
use Rattle.xfs_base.proofs.Booleans.{by_test}
use Rattle.xfs_base.proofs.StepLoops.{steps_keep}
use Rattle.xfs_base.specs.declared.news.SlotNews.{SlotNews}
use Rattle.xfs_base.specs.declared.node.NodeId.{NodeId}
use Rattle.xfs_base.specs.declared.segment.LogId.{LogId}
use Rattle.xfs_base.specs.Steps.{Stepped, still}
use Rattle.node_tellings.proofs.reading_tie.Arrivals.{AnswerBrought, BodyBrought}
use Rattle.node_tellings.specs.reading_tie.Came.{Came, Striped, MapStriped, MapsStriped}
use Rattle.node_tellings.specs.reading_tie.ManagerReads.{ServesSo}
use Rattle.node_tellings.proofs.reading_tie.Arriving.{maps_take_so}
use Rattle.node_tellings.proofs.reading_tie.Slots.{table_wants, table_gaves, table_deltas, table_checks, table_recalls, table_takes, table_reports, table_asks, table_regroups, table_hears, table_cleaned, table_named}
use Rattle.node_tellings.proofs.reading_tie.Taking.{InputBrought}

module _ (came : Came) (striped : Striped) where
  abbrev At : Serving → Type 0
  At s = ServesSo came striped s

  abbrev Goes : Done → Type 0
  Goes d = At d.state

  -- ---- checkpoints

  registers_on : (s : Serving) (done : CkptDone) → At s → Goes (register s done)
  unfolding register
  registers_on s done h = record { maps = h.maps; slots = table_named came striped s.slots done.slot done.epoch done.parts h.slots }

  says_on : (s : Serving) (o : Out) → At s → Goes (writer_says s o)
  unfolding writer_says give_parts
  says_on s (out.Done slot epoch parts horizon) h = registers_on (asked s) _ h
  says_on s _ h = h

  writer_on : (s : Serving) (given : WriterIn) → At s → Goes (writer_takes s given)
  unfolding writer_takes writer_says_each
  writer_on s given h =
      steps_keep writer_says At says_on (record s { writer = (writer.transition s.writer given).state }) (writer.transition s.writer given).outs h

  log_says_on : (s : Serving) (o : LogOut) → At s → Goes (log_says s o)
  unfolding log_says on_settled
  log_says_on s (log_out.Send fragment member) h = h
  log_says_on s (log_out.Settled end rows) h = writer_on s (writer_in.Settled end) h

  writes_on : (s : Serving) (given : LogIn) → At s → Goes (serving_write s given)
  unfolding serving_write log_says_each
  writes_on s given h = steps_keep log_says At log_says_on (record s { log = (log.transition s.log given).state }) (log.transition s.log given).outs h

  writes_slot-on : (s : Serving) (o : Option WriterIn) → At s → Goes (writes_slot s o)
  writes_slot-on s None h = h
  writes_slot-on s (Some given) h = writer_on s given h

  begins_on : (s : Serving) (slot : ℕ) → At s → Goes (begin_slot s slot)
  unfolding begin_slot
  begins_on s slot h =
      writes_slot-on (record s { slots = slot_table_clean s.slots slot }) (begin_at s.slots slot)
      (record { maps = h.maps; slots = table_cleaned came striped s.slots slot h.slots })

  next_on : (s : Serving) → At s → Goes (next_slot s)
  unfolding next_slot
  next_on s h = by s.checkpoint
    where
      by_slot : (job : Checkpointing) (o : Option ℕ) → Goes (next_from s job o)
      by_slot job None = h
      by_slot job (Some slot) = begins_on (record s { checkpoint = Some (record job { next = slot_after slot }) }) slot h

      by : (checkpoint : Option Checkpointing) → Goes (next_for s checkpoint)
      by None = h
      by (Some job) = by_slot job (next_active s.slots job.next)

  pub checkpoint_on : (s : Serving) (number : ℕ) → ServesSo came striped s → ServesSo came striped (on_checkpoint s number).state
  unfolding on_checkpoint
  checkpoint_on s number h =
      by_test Goes (is_some s.lasting.items.unanswered) (gives s (Answers number answer.Busy ∷ [])) (next_slot (waits s number)) (λ _. h)
      (λ _. next_on (waits s number) h)

  acked_on : (s : Serving) (r : Stepped WriterState Out) → At s → Goes (answered_by s r)
  acked_on s r h =
      by_test Goes (length r.outs == 0) (still (record s { writer = r.state }))
      (next_slot (record s { writer = r.state; checkpoint = fold checkpointing_count s.checkpoint r.outs })) (λ _. h)
      (λ _. next_on (record s { writer = r.state; checkpoint = fold checkpointing_count s.checkpoint r.outs }) h)

  ack_on : (s : Serving) (ack : CkptAck) → At s → Goes (on_ckpt_ack s ack)
  unfolding on_ckpt_ack
  ack_on s ack h =
      by_test Goes (awaits s.checkpoint ack.ask) (answered_by s (writer.transition s.writer (writer_in.Ack ack.epoch s.dones))) (still s)
      (λ _. acked_on s (writer.transition s.writer (writer_in.Ack ack.epoch s.dones)) h) (λ _. h)

  tells_on : (s : Serving) → At s → Goes (serving_tell_again s)
  unfolding serving_tell_again
  tells_on s h = h

  -- ---- clients and the cleaner

  want_on : (s : Serving) (client : Option ℕ) (want : Want) → At s → Goes (on_want s client want)
  unfolding on_want
  want_on s None want h = h
  want_on s (Some client) want h = record { maps = h.maps; slots = table_wants came striped s.slots client want h.slots }

  gave_on : (s : Serving) (client : Option ℕ) (gave : Gave) → At s → Goes (on_gave s client gave)
  unfolding on_gave
  gave_on s None gave h = h
  gave_on s (Some client) gave h = record { maps = h.maps; slots = table_gaves came striped s.slots client gave h.slots }

  deltas_on : (s : Serving) (log : Option LogId) (deltas : Deltas) → At s → Goes (on_deltas s log deltas)
  unfolding on_deltas
  deltas_on s None deltas h = h
  deltas_on s (Some log) deltas h = record { maps = h.maps; slots = table_deltas came striped s.slots log deltas h.slots }

  check_on : (s : Serving) (check : Check) → At s → Goes (on_check s check)
  unfolding on_check
  check_on s check h = record { maps = h.maps; slots = table_checks came striped s.slots check h.slots }

  usage_on : (s : Serving) (asked_ : UsageAsk) → At s → Goes (on_usage_ask s asked_)
  unfolding on_usage_ask
  usage_on s asked_ h = h

  -- ---- takeovers

  take_on : (s : Serving) (k : ℕ) (given : TakeIn) → InputBrought came striped given → At s → Goes (serving_take s k given)
  unfolding serving_take
  take_on s k given fact h = record { maps = h.maps; slots = table_takes came striped (asker_of s) k given fact h.slots }

  report_on : (s : Serving) (from : NodeId) (report : Report) → At s → Goes (on_report s from report)
  unfolding on_report
  report_on s from report h = record { maps = h.maps; slots = table_reports came striped (asker_of s) from report h.slots }

  -- the answer goes to the takeover that asked
  answer_on : (s : Serving) (given : ℕ → TakeIn) (to : Option (ℕ × ℕ)) → ((own : ℕ) → InputBrought came striped (given own)) → At s
      → Goes (answers_by s to given)
  answer_on s given None fact h = h
  answer_on s given (Some to) fact h = take_on s to.0 (given to.1) (fact to.1) h

  found_on : (s : Serving) (server : Option ℕ) (found : Found) → AnswerBrought came server found.ask (answered.Held found.fragment) → At s
      → Goes (on_found s server found)
  unfolding on_found
  found_on s None found fact h = h
  found_on s (Some server) found fact h =
      answer_on s (λ own. take_in.Got own server found.generation found.fragment) (table.fetch_among s.slots found.ask table.all_slots)
      (λ own. record { ask = found.ask; came_so = fact }) h

  missing_on : (s : Serving) (server : Option ℕ) (missing : Missing) → AnswerBrought came server missing.ask (answered.Missing missing.generation) → At s
      → Goes (on_missing s server missing)
  unfolding on_missing
  missing_on s None missing fact h = h
  missing_on s (Some server) missing fact h =
      answer_on s (λ own. take_in.Missing own server missing.generation) (table.fetch_among s.slots missing.ask table.all_slots)
      (λ own. record { ask = missing.ask; came_so = fact }) h

  -- ---- the maps

  slots_on : (s : Serving) (clients : ℕ) (slots : List SlotNews) → At s → Goes (hear_slots s clients slots)
  unfolding hear_slots
  slots_on s clients slots h = by s.maps.groups h.maps
    where
      by : (groups : Option GroupMapState) → MapsStriped striped groups → Goes (hears_with s clients slots groups)
      by None known = h
      by (Some groups) known =
          record { maps = h.maps; slots = table_hears came striped (hearer_of s clients groups) (asker_of s) slots known h.slots }

  newer_on : (s : Serving) (clients : ℕ) (news : News) → MapStriped striped news.groups → At s → Goes (on_newer s clients news)
  unfolding on_newer regroups
  newer_on s clients news fact h =
      let grouped : At (regroups s news.groups).state =
      record { maps = h.maps; slots = table_regroups came striped news.groups (asker_of s) fact h.slots }
      in
      writes_on (hear_slots (regroups s news.groups).state clients news.slots).state (log_input.Maps news.groups)
      (slots_on (regroups s news.groups).state clients news.slots grouped)

  pub news_on : (s : Serving) (clients : ℕ) (news : News) → MapStriped striped news.groups → ServesSo came striped s
      → ServesSo came striped (on_news s clients news).state
  unfolding on_news
  news_on s clients news fact h =
      by_test Goes (is_older s.maps news) (on_newer (record s { maps = maps_take s.maps news }) clients news) (hear_slots s clients news.slots)
      (λ _. newer_on (record s { maps = maps_take s.maps news }) clients news fact
      (record { maps = maps_take_so striped s.maps news h.maps fact; slots = h.slots }))
      (λ _. slots_on s clients news.slots h)

  fitting_on : (s : Serving) (clients : ℕ) (news : News) → MapStriped striped news.groups → At s → Goes (on_fitting_news s clients news)
  fitting_on s clients news fact h = by_test Goes (fits s.maps news) (on_news s clients news) (still s) (λ _. news_on s clients news fact h) (λ _. h)

  -- ---- all packets

  body_on : (s : Serving) (clients : ℕ) (from : NodeId) (said : Body) → BodyBrought came striped from said → At s → Goes (on_body s clients from said)
  body_on s clients from (body.MapNews news) fact h = fitting_on s clients news fact h
  body_on s clients from (body.Welcome welcome) fact h =
      by_test Goes (welcome.inc == s.lasting.inc) (on_fitting_news s clients welcome.news) (still s) (λ _. fitting_on s clients welcome.news fact h) (λ _. h)
  body_on s clients from (body.Want want) fact h = want_on s (client_in from) want h
  body_on s clients from (body.Gave gave) fact h = gave_on s (client_in from) gave h
  body_on s clients from (body.Deltas deltas) fact h = deltas_on s (fed_log from) deltas h
  body_on s clients from (body.Check check) fact h = check_on s check h
  body_on s clients from (body.UsageAsk asked_) fact h = usage_on s asked_ h
  body_on s clients from (body.Report report) fact h = report_on s from report h
  body_on s clients from (body.Fragment found) fact h = found_on s (server_in from) found fact h
  body_on s clients from (body.Missing missing) fact h = missing_on s (server_in from) missing fact h
  body_on s clients from (body.Stored stored) fact h = writes_on s (log_input.Acked stored.name stored.index stored.generation) h
  body_on s clients from (body.CkptAck ack) fact h = ack_on s ack h
  body_on s clients from _ fact h = h

  pub packet_on : (s : Serving) (clients : ℕ) (packet : Packet) → BodyBrought came striped packet.from packet.body → ServesSo came striped s
      → ServesSo came striped (serving_hear s clients packet).state
  unfolding serving_hear ask_for_maps
  packet_on s clients packet fact h =
      by_test Goes (names_known_groups s.maps packet.body) (on_body s clients packet.from packet.body) (ask_for_maps s)
      (λ _. body_on s clients packet.from packet.body fact h) (λ _. h)

  -- ---- time

  recalls_on : (s : Serving) → At s → Goes (recalls_again s)
  unfolding recalls_again
  recalls_on s h = record { maps = h.maps; slots = table_recalls came striped s.slots h.slots }

  asks_on : (polls : Bool) (s : Serving) → At s → Goes (serving_ask_again s polls)
  unfolding serving_ask_again
  asks_on polls s h = record { maps = h.maps; slots = table_asks came striped polls (asker_of s) h.slots }

  pub tick_on : (s : Serving) → ServesSo came striped s → ServesSo came striped (on_tick s).state
  unfolding on_tick
  tick_on s h =
      let a : Done = recalls_again s in
      let b : Done = serving_ask_again a.state true in
      let c : Done = serving_ask_again b.state false in
      tells_on (serving_write c.state log_input.Tick).state
      (writes_on c.state log_input.Tick (asks_on false b.state (asks_on true a.state (recalls_on s h))))
