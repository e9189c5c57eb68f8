-- What a manager that serves does for all other packets, and as time passes, leaves its checkpoint where it is, but that a segment of it may be settled.
use Rattle.std.proofs.Common.{◌==◌, ℕ, Bool, true, false, List, Option, Some, None}
use Rattle.client_log.specs.declared.input.In.TheVariants as log_in
use Rattle.core_world.specs.declared.any_node.AnyNode.{AnyNode}
use Rattle.group_map.specs.GroupMapState.{GroupMapState}
use Rattle.log_owner.specs.Sending.{server_in}
use Rattle.manager_serving.specs.Checkpoints as checkpoints
use Rattle.manager_serving.specs.Checkpoints.{Done}
use Rattle.manager_serving.specs.declared.checkpointing.Checkpointing.{Checkpointing}
use Rattle.manager_serving.specs.declared.serving.Serving.{Serving}
use Rattle.manager_serving.specs.Serving as serving
use Rattle.manager_slots.specs.SlotTable as table
use Rattle.node_base.specs.Known.{names_known_groups}
use Rattle.node_base.specs.Maps.{fits, is_older, maps_take}
use Rattle.serving_moves.proofs.item_moves.Slots.{table_asks, table_check, table_deltas, table_gave, table_hears, table_recalls, table_regroups, table_report, table_takes, table_usage, table_want}
use Rattle.serving_moves.specs.item_moves.Moves.{AllPlain}
use Rattle.serving_moves.specs.item_moves.Moves.Losses.{Telling}
use Rattle.takeover.specs.declared.input.In.TheVariants as take_in
use Rattle.wire_msg.specs.declared.body.Body.{Body}
use Rattle.wire_msg.specs.declared.body.Body.TheVariants as body
use Rattle.wire_msg.specs.declared.deltas.Deltas.{Deltas}
use Rattle.wire_msg.specs.declared.packet.Packet.{Packet}
use Rattle.wire_msg.specs.declared.registry.CkptDone.{CkptDone}
use Rattle.wire_msg.specs.declared.registry.News.{News}
use Rattle.wire_msg.specs.declared.storage.Found.{Found}
use Rattle.wire_msg.specs.declared.storage.Missing.{Missing}
use Rattle.wire_msg.specs.declared.tokens.Gave.{Gave}
use Rattle.wire_msg.specs.declared.tokens.Want.{Want}
use Rattle.world_base.specs.declared.estate.Estate.{Estate}
use Rattle.xfs_base.proofs.Booleans.{by_test}
use Rattle.xfs_base.specs.declared.news.SlotNews.{SlotNews}
use Rattle.xfs_base.specs.declared.node.NodeId.{NodeId}
use Rattle.xfs_base.specs.declared.segment.LogId.{LogId}
use Rattle.xfs_base.specs.Steps.{still}
use Rattle.run_answers.proofs.checkpoint_law.Desk.{Goes, from_goes, plainly, rests, then_goes}
use Rattle.run_answers.proofs.checkpoint_law.Writing.{writes_go}
use Rattle.takeover.specs.declared.input.In.{In as TakeIn}

-- it isn't an answer of the registry to a checkpoint
abbrev pub IsNoAck : Body → Type 0
IsNoAck (body.CkptAck ack) = ⊥
IsNoAck _ = Unit {0}

module _ (e : Estate AnyNode) (v now : ℕ) where
  abbrev G : Serving → Done → Type 0
  G s d = Goes e v now s d

  and_goes : (s : Serving) (d : Done) (f : Serving → Done) → G s d → ((t : Serving) → G t (f t)) → G s (serving.and_then d f)
  and_goes s d f one each = then_goes e v now s d (f d.state) one (each d.state)

  stays : (s : Serving) → G s (still s)
  stays s = rests e v now s

  tells_go : (s : Serving) → G s (checkpoints.serving_tell_again s)
  unfolding checkpoints.serving_tell_again
  tells_go s = plainly e v now s (checkpoints.gives s (checkpoints.checkpointing_tell_again s.checkpoint)) (λ outs h. h) (by s.checkpoint)
    where
      by_done : (o : Option CkptDone) → AllPlain Telling (checkpoints.send_done o)
      by_done None = tt
      by_done (Some done) = (tt, tt)

      by : (o : Option Checkpointing) → AllPlain Telling (checkpoints.checkpointing_tell_again o)
      by None = tt
      by (Some job) = by_done job.done

  -- ---- slots

  slots_go : (s : Serving) (d : table.Done) → AllPlain Telling d.outs → G s (serving.with_slots s d)
  slots_go s d plain = plainly e v now s (serving.with_slots s d) (λ outs h. h) plain

  asker_goes : (s : Serving) (d : table.Asks) → AllPlain Telling d.outs → G s (serving.with_asker s d)
  asker_goes s d plain = plainly e v now s (serving.with_asker s d) (λ outs h. h) plain

  want_goes : (s : Serving) (client : Option ℕ) (want : Want) → G s (serving.on_want s client want)
  unfolding serving.on_want
  want_goes s None want = stays s
  want_goes s (Some client) want = slots_go s (table.on_want s.slots client want) (table_want s.slots client want)

  gave_goes : (s : Serving) (client : Option ℕ) (gave : Gave) → G s (serving.on_gave s client gave)
  unfolding serving.on_gave
  gave_goes s None gave = stays s
  gave_goes s (Some client) gave = slots_go s (table.on_gave s.slots client gave) (table_gave s.slots client gave)

  deltas_goes : (s : Serving) (log : Option LogId) (deltas : Deltas) → G s (serving.on_deltas s log deltas)
  unfolding serving.on_deltas
  deltas_goes s None deltas = stays s
  deltas_goes s (Some log) deltas = slots_go s (table.on_deltas s.slots log deltas) (table_deltas s.slots log deltas)

  -- ---- takeovers

  takes_goes : (s : Serving) (slot : ℕ) (given : TakeIn) → G s (serving.serving_take s slot given)
  unfolding serving.serving_take
  takes_goes s slot given = asker_goes s (table.slot_table_take (serving.asker_of s) slot given) (table_takes (serving.asker_of s) slot given)

  which_goes : (s : Serving) (which : Option (ℕ × ℕ)) (given : ℕ → TakeIn) → G s (serving.answered_by s which given)
  which_goes s None given = stays s
  which_goes s (Some which) given = takes_goes s which.0 (given which.1)

  found_goes : (s : Serving) (server : Option ℕ) (found : Found) → G s (serving.on_found s server found)
  unfolding serving.on_found
  found_goes s None found = stays s
  found_goes s (Some server) found = which_goes s (serving.fetch_of s found.ask) (λ own. take_in.Got own server found.generation found.fragment)

  missing_goes : (s : Serving) (server : Option ℕ) (missing : Missing) → G s (serving.on_missing s server missing)
  unfolding serving.on_missing
  missing_goes s None missing = stays s
  missing_goes s (Some server) missing = which_goes s (serving.fetch_of s missing.ask) (λ own. take_in.Missing own server missing.generation)

  -- ---- the maps

  regroups_goes : (s : Serving) (groups : GroupMapState) → G s (serving.regroups s groups)
  unfolding serving.regroups
  regroups_goes s groups = asker_goes s (table.slot_table_regroup groups (serving.asker_of s)) (table_regroups groups (serving.asker_of s))

  hears_goes : (s : Serving) (clients : ℕ) (slots : List SlotNews) → G s (serving.hear_slots s clients slots)
  unfolding serving.hear_slots
  hears_goes s clients slots = by s.maps.groups
    where
      by : (groups : Option GroupMapState) → G s (serving.hears_with s clients slots groups)
      by None = stays s
      by (Some groups) =
          asker_goes s (table.hear_each (serving.hearer_of s clients groups) (serving.asker_of s) slots)
          (table_hears (serving.hearer_of s clients groups) (serving.asker_of s) slots)

  newer_goes : (s : Serving) (clients : ℕ) (news : News) → G s (serving.on_newer s clients news)
  unfolding serving.on_newer
  newer_goes s clients news =
      and_goes s (serving.and_then (serving.regroups s news.groups) (λ t. serving.hear_slots t clients news.slots))
      (λ t. checkpoints.serving_write t (log_in.Maps news.groups))
      (and_goes s (serving.regroups s news.groups) (λ t. serving.hear_slots t clients news.slots) (regroups_goes s news.groups)
      (λ t. hears_goes t clients news.slots)) (λ t. writes_go e v now t (log_in.Maps news.groups))

  pub news_goes : (s : Serving) (clients : ℕ) (news : News) → G s (serving.on_news s clients news)
  unfolding serving.on_news
  news_goes s clients news =
      let t : Serving = record s { maps = maps_take s.maps news } in
      by_test (G s) (is_older s.maps news) (serving.on_newer t clients news) (serving.hear_slots s clients news.slots)
      (λ _. from_goes e v now s t (serving.on_newer t clients news) (λ outs h. h) (newer_goes t clients news)) (λ _. hears_goes s clients news.slots)

  fitting_goes : (s : Serving) (clients : ℕ) (news : News) → G s (serving.on_fitting_news s clients news)
  fitting_goes s clients news =
      by_test (G s) (fits s.maps news) (serving.on_news s clients news) (still s) (λ _. news_goes s clients news) (λ _. stays s)

  -- ---- packets and time

  body_goes : (s : Serving) (clients : ℕ) (from : NodeId) (b : Body) → IsNoAck b → G s (serving.on_body s clients from b)
  unfolding serving.on_check serving.on_usage_ask serving.on_report
  body_goes s clients from (body.MapNews news) other = fitting_goes s clients news
  body_goes s clients from (body.Welcome welcome) other =
      by_test (G s) (welcome.inc == s.lasting.inc) (serving.on_fitting_news s clients welcome.news) (still s) (λ _. fitting_goes s clients welcome.news)
      (λ _. stays s)
  body_goes s clients from (body.Want want) other = want_goes s (serving.client_in from) want
  body_goes s clients from (body.Gave gave) other = gave_goes s (serving.client_in from) gave
  body_goes s clients from (body.Deltas deltas) other = deltas_goes s (serving.fed_log from) deltas
  body_goes s clients from (body.Check check) other = slots_go s (table.on_check s.slots check) (table_check s.slots check)
  body_goes s clients from (body.UsageAsk asked) other = plainly e v now s (serving.on_usage_ask s asked) (λ outs h. h) (table_usage s.slots asked)
  body_goes s clients from (body.Report report) other =
      asker_goes s (table.on_report (serving.asker_of s) from report) (table_report (serving.asker_of s) from report)
  body_goes s clients from (body.Fragment found) other = found_goes s (server_in from) found
  body_goes s clients from (body.Missing missing) other = missing_goes s (server_in from) missing
  body_goes s clients from (body.Stored stored) other = writes_go e v now s (log_in.Acked stored.name stored.index stored.generation)
  body_goes s clients from (body.CkptAck ack) other = absurd other
  body_goes s clients from _ other = stays s

  pub packet_goes : (s : Serving) (clients : ℕ) (packet : Packet) → IsNoAck packet.body → G s (serving.serving_hear s clients packet)
  unfolding serving.serving_hear serving.ask_for_maps
  packet_goes s clients packet other =
      by_test (G s) (names_known_groups s.maps packet.body) (serving.on_body s clients packet.from packet.body) (serving.ask_for_maps s)
      (λ _. body_goes s clients packet.from packet.body other) (λ _. plainly e v now s (serving.ask_for_maps s) (λ outs h. h) (tt, tt))

  recalls_go : (s : Serving) → G s (serving.recalls_again s)
  unfolding serving.recalls_again
  recalls_go s = slots_go s (table.recall_again s.slots) (table_recalls s.slots)

  asks_go : (s : Serving) (polls : Bool) → G s (serving.serving_ask_again s polls)
  unfolding serving.serving_ask_again
  asks_go s polls = asker_goes s (table.slot_table_ask_again polls (serving.asker_of s)) (table_asks polls (serving.asker_of s))

  pub tick_goes : (s : Serving) → G s (serving.on_tick s)
  unfolding serving.on_tick
  tick_goes s =
      let a : Done = serving.recalls_again s in
      let b : Done = serving.and_then a (λ t. serving.serving_ask_again t true) in
      let c : Done = serving.and_then b (λ t. serving.serving_ask_again t false) in
      let d : Done = serving.and_then c (λ t. checkpoints.serving_write t log_in.Tick) in
      and_goes s d checkpoints.serving_tell_again
      (and_goes s c (λ t. checkpoints.serving_write t log_in.Tick)
      (and_goes s b (λ t. serving.serving_ask_again t false) (and_goes s a (λ t. serving.serving_ask_again t true) (recalls_go s) (λ t. asks_go t true))
      (λ t. asks_go t false)) (λ t. writes_go e v now t log_in.Tick)) tells_go
