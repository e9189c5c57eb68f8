-- What each packet, and time, make of a cleaner that serves: one definition for each, named for it.
use Rattle.std.specs.Prelude.{ℕ, Bool, ◌==◌, ◌&&◌, nat_lt, is_some, if◌then◌else◌, List, [], ◌∷◌, Option, Some, None}
use Rattle.std.specs.List.{list_all, range_with_len}
use Rattle.cleaner_job.specs.declared.lasting.Lasting.{Lasting}
use Rattle.cleaner_job.specs.Jobs.{job_start, hello_of, note_greeted, is_out, note_moved}
use Rattle.cleaner_job.specs.Lasting.{lasting_has_room}
use Rattle.cleaner_job.specs.Starting.{cleaner_log, no_end}
use Rattle.client_log.specs.declared.input.In.{In as LogIn}
use Rattle.client_log.specs.declared.input.In.TheVariants as log_in
use Rattle.client_log.specs.declared.output.Out.{Out as LogOut}
use Rattle.client_log.specs.declared.output.Out.TheVariants as log_out
use Rattle.client_log.specs.LogState as log_state
use Rattle.client_log.specs.Transition as log
use Rattle.delta_feed.specs.FeedState as feed_state
use Rattle.delta_feed.specs.Transition as feed
use Rattle.group_map.specs.GroupMapState.{GroupMapState}
use Rattle.log_owner.specs.declared.opened.Opened.{Opened}
use Rattle.log_owner.specs.Opening.{log_has_room}
use Rattle.log_owner.specs.Promised.{promised_start, epoch_of, promise_to}
use Rattle.log_owner.specs.Sending.{hello, store, name_of, push_all, server_in}
use Rattle.node_base.specs.Asking.{next_ask, draw}
use Rattle.node_base.specs.Beginning.{items_wait}
use Rattle.node_base.specs.declared.effects.Effect.TheVariants.{Send, Does, Answer as Answers}
use Rattle.node_base.specs.Known.{names_known_groups}
use Rattle.node_base.specs.Maps as maps
use Rattle.node_base.specs.Maps.{fits, is_older, maps_take}
use Rattle.node_base.specs.Room.{has_room}
use Rattle.stripe_cleaner.specs.declared.input.In.TheVariants as input
use Rattle.version_model.specs.declared.act.Act.TheVariants.{Filed}
use Rattle.version_model.specs.declared.answer.Answer.TheVariants.{Busy}
use Rattle.wire_msg.specs.declared.body.Body.{Body}
use Rattle.wire_msg.specs.declared.body.Body.TheVariants as body
use Rattle.wire_msg.specs.declared.deltas.DeltaAck.{DeltaAck}
use Rattle.wire_msg.specs.declared.deltas.Poll.{Poll}
use Rattle.wire_msg.specs.declared.packet.Packet.{Packet}
use Rattle.wire_msg.specs.declared.registry.News.{News}
use Rattle.wire_msg.specs.declared.registry.Welcome.{Welcome}
use Rattle.wire_msg.specs.declared.storage.Stored.{Stored}
use Rattle.xfs_base.specs.declared.block.BlockId.{BlockId}
use Rattle.xfs_base.specs.declared.entry.Entry.{Entry}
use Rattle.xfs_base.specs.declared.news.SlotNews.{SlotNews}
use Rattle.xfs_base.specs.declared.node.NodeId.{NodeId}
use Rattle.xfs_base.specs.declared.node.NodeId.TheVariants as node
use Rattle.xfs_base.specs.declared.segment.End.{End}
use Rattle.xfs_base.specs.Steps.{still, saying, steps}
use Rattle.xfs_base.specs.Limits.{slot_count}
use Rattle.cleaner_serving.specs.declared.emptying.Emptying.{Emptying}
use Rattle.cleaner_serving.specs.Jobs.{Done, with_questions, emptying_clean, on_listed, on_usage, on_live, on_dead, on_deleted, on_found, on_missing}

-- ---- the start

-- a cleaner whose log is empty
abbrev pub emptying_start : Lasting → ℕ → GroupMapState → Emptying
emptying_start l managers groups =
    record {
      lasting = l;
      maps = maps.maps_start groups;
      promised = promised_start managers;
      log = log_state.log_start cleaner_log l.inc no_end groups;
      feed = feed_state.feed_start 0;
      job = None;
    }

-- a cleaner whose log is open again
abbrev pub emptying_back : Lasting → Opened → Emptying
emptying_back l o = record { lasting = l; maps = o.maps; promised = o.promised; log = o.log; feed = o.feed; job = None }

-- ---- a job begins

unfoldable pub promise_slot : Emptying → ℕ → Done
promise_slot e slot = emptying_clean e (input.Promise slot (epoch_of e.promised slot))

-- the job is told what each slot is promised to
unfoldable pub promise_all : Emptying → Done
promise_all e = steps promise_slot e (range_with_len 0 slot_count)

abbrev pub with_new_job : Emptying → ℕ → ℕ → Emptying
with_new_job e number count = record e { lasting = record e.lasting { items = items_wait e.lasting.items number }; job = Some (job_start count) }

unfoldable pub begin_job : Emptying → ℕ → ℕ → Done
begin_job e number count = (let d = promise_all (with_new_job e number count) in saying d.outs (emptying_clean d.state input.Tick))

-- Begin of a job of so many segments. While another item is open it is refused.
unfoldable pub on_clean : Emptying → ℕ → ℕ → Done
on_clean e number count =
    if is_some e.lasting.items.unanswered then record { state = e; outs = Answers number Busy ∷ [] } else begin_job e number count

-- ---- the log

-- the feed takes the deltas of a segment, and what was live in the segment in hand is moved
abbrev pub fed : Emptying → End → List (BlockId × Entry) → Emptying
fed e end rows = record e { feed = feed.settled e.feed end.seq rows; job = note_moved e.job }

-- A segment of moved blocks is settled: it is filed, its deltas go to all slots, and the job goes on.
unfoldable pub emptying_settle : Emptying → End → List (BlockId × Entry) → Done
emptying_settle e end rows =
    (let f = fed e end rows in saying (Does (Filed (name_of cleaner_log end)) ∷ push_all f.promised.managers f.feed) (emptying_clean f input.Moved))

unfoldable pub write_one : Emptying → LogOut → Done
write_one e (log_out.Send fragment member) = record { state = e; outs = store fragment member ∷ [] }
write_one e (log_out.Settled end rows) = emptying_settle e end rows

-- the log takes an input, and what it says is done
unfoldable pub emptying_write : Emptying → LogIn → Done
emptying_write e i = (let r = log.transition e.log i in steps write_one (record e { log = r.state }) r.outs)

-- Stored: a server holds a fragment of the segment in flight.
abbrev pub on_stored : Emptying → Stored → Done
on_stored e s = emptying_write e (log_in.Acked s.name s.index s.generation)

-- DeltaAck: a manager has applied the log.
unfoldable pub on_ack : Emptying → DeltaAck → Done
on_ack e a =
    if epoch_of e.promised a.slot == a.epoch then still (record e { feed = feed.acknowledged e.feed a.slot a.applied }) else still e

-- ---- promises

-- the feed tells a new manager all from the base on
abbrev pub emptying_renew : Emptying → ℕ → ℕ → Emptying
emptying_renew e slot epoch = if nat_lt (epoch_of e.promised slot) epoch then record e { feed = feed.new_epoch e.feed slot } else e

-- the slot is promised to this epoch of this manager
unfoldable pub emptying_promise : Emptying → ℕ → ℕ → ℕ → Emptying
emptying_promise e slot epoch manager = (let r = emptying_renew e slot epoch in record r { promised = promise_to r.promised slot epoch manager })

abbrev pub emptying_report : Emptying → ℕ → Poll → Done
emptying_report e manager p =
    let kept = emptying_promise e p.slot p.epoch manager in
    saying
    (Send (node.Manager manager) (body.Report (record { slot = p.slot; epoch = p.epoch; held = []; end = kept.log.end })) ∷ [])
    (emptying_clean kept (input.Promise p.slot p.epoch))

abbrev pub on_polled : Emptying → ℕ → Poll → Done
on_polled e manager p = if nat_lt p.epoch (epoch_of e.promised p.slot) then still e else emptying_report e manager p

-- Poll: a slot's new manager asks for the end of the log.
unfoldable pub on_poll : Emptying → NodeId → Poll → Done
on_poll e (node.Manager manager) p = on_polled e manager p
on_poll e (node.Client n) p = still e
on_poll e (node.Server n) p = still e
on_poll e node.Cleaner p = still e
on_poll e node.Registry p = still e

-- ---- the maps

-- a slot of a greater epoch is promised to it
unfoldable pub hear_slot : Emptying → SlotNews → Done
hear_slot e news =
    if nat_lt (epoch_of e.promised news.slot) news.epoch
    then emptying_clean (emptying_promise e news.slot news.epoch news.manager) (input.Promise news.slot news.epoch)
    else still e

unfoldable pub hear_slots : Emptying → List SlotNews → Done
hear_slots e slots = steps hear_slot e slots

-- newer groups go to the job, and to the log, which looks whether the segment in flight is settled
abbrev pub regroup_job : Emptying → Bool → GroupMapState → Done
regroup_job e newer groups = if newer then emptying_clean e (input.Maps groups) else still e

abbrev pub regroup_log : Emptying → Bool → GroupMapState → Done
regroup_log e newer groups = if newer then emptying_write e (log_in.Maps groups) else still e

-- newer groups come first, then slots of greater epochs in order, and then it is looked whether the segment in flight is settled
unfoldable pub take_news : Emptying → News → Done
take_news e news =
    let newer = is_older e.maps news in
    let a = regroup_job (record e { maps = maps_take e.maps news }) newer news.groups in
    let b = hear_slots a.state news.slots in
    saying a.outs (saying b.outs (regroup_log b.state newer news.groups))

-- MapNews
abbrev pub on_news : Emptying → News → Done
on_news e news = if fits e.maps news then take_news e news else still e

abbrev pub welcome_over : Emptying → List SlotNews → Option GroupMapState → Done
welcome_over e slots None = still e
welcome_over e slots (Some groups) = emptying_clean e (input.Welcome slots groups)

-- the job goes on where the Welcome answers its question, which is then answered
unfoldable pub emptying_welcome : Emptying → Welcome → Done
emptying_welcome e w =
    if is_out (hello_of e.job) w.ask then welcome_over (record e { job = note_greeted e.job }) w.news.slots e.maps.groups else still e

-- Welcome: the maps in answer to a question of this incarnation.
unfoldable pub on_welcome : Emptying → Welcome → Done
on_welcome e w =
    if (w.inc == e.lasting.inc) && fits e.maps w.news then (let d = take_news e w.news in saying d.outs (emptying_welcome d.state w)) else still e

-- ---- packets and time

abbrev pub on_body : Emptying → NodeId → Body → Done
on_body e from (body.MapNews m) = on_news e m
on_body e from (body.Welcome m) = on_welcome e m
on_body e from (body.Poll m) = on_poll e from m
on_body e from (body.DeltaAck m) = on_ack e m
on_body e from (body.Stored m) = on_stored e m
on_body e from (body.Listed m) = on_listed e (server_in from) m
on_body e from (body.Usage m) = on_usage e m
on_body e from (body.Fragment m) = on_found e (server_in from) m
on_body e from (body.Missing m) = on_missing e (server_in from) m
on_body e from (body.Live m) = on_live e m
on_body e from (body.Dead m) = on_dead e m
on_body e from (body.Deleted m) = on_deleted e (server_in from) m
on_body e from _ = still e

-- the maps are asked for, by a new question
abbrev pub ask_for_maps : Emptying → Done
ask_for_maps e =
    record { state = with_questions e (draw e.lasting.questions); outs = hello e.lasting.inc (next_ask e.lasting.questions) ∷ [] }

-- A packet: where it names a group that isn't known it is dropped, and the maps are asked for.
unfoldable pub on_packet : Emptying → Packet → Done
on_packet e packet = if names_known_groups e.maps packet.body then on_body e packet.from packet.body else ask_for_maps e

-- Tick: what the job awaits, fragments that are not stored, and deltas are sent again.
unfoldable pub on_tick : Emptying → Done
on_tick e =
    let j = emptying_clean e input.Tick in
    let l = emptying_write j.state log_in.Tick in
    saying j.outs (saying l.outs (record { state = l.state; outs = push_all l.state.promised.managers l.state.feed }))

-- ---- the ends of counters

-- each counter is at least 65,536 below its end
abbrev pub emptying_has_room : Emptying → Bool
emptying_has_room e = lasting_has_room e.lasting && (has_room e.maps.version && (log_has_room e.log && list_all has_room e.promised.epochs))
