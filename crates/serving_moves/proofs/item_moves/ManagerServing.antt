-- What a manager that serves makes of its items: it answers the open item alone, with a count, and none begins but by a Begin.
use Rattle.std.proofs.Common.{ℕ, ◌==◌, Bool, true, false, List, [], ◌∷◌, length, Option, Some, None, is_some, refl}
use Rattle.std.specs.Prelude.{fold}
use Rattle.checkpoint.specs.declared.input.In.{In as WriterIn}
use Rattle.checkpoint.specs.declared.input.In.TheVariants as writer_in
use Rattle.checkpoint.specs.declared.output.Out.{Out as WriterOut}
use Rattle.checkpoint.specs.declared.output.Out.TheVariants as writer_out
use Rattle.checkpoint.specs.Transition as writer
use Rattle.checkpoint.specs.WriterState.{WriterState}
use Rattle.client_log.specs.declared.input.In.{In as LogIn}
use Rattle.client_log.specs.declared.input.In.TheVariants as log_in
use Rattle.client_log.specs.declared.output.Out.{Out as LogOut}
use Rattle.client_log.specs.declared.output.Out.TheVariants as log_out
use Rattle.client_log.specs.Transition as log
use Rattle.group_map.specs.GroupMapState.{GroupMapState}
use Rattle.log_owner.specs.Sending.{server_in}
use Rattle.manager_slots.specs.Numbers.{slot_after}
use Rattle.manager_slots.specs.SlotTable as table
use Rattle.manager_slots.specs.SlotTable.{begin_at, slot_table_clean, next_active}
use Rattle.manager_serving.specs.Checkpoints as checkpoints
use Rattle.manager_serving.specs.Checkpoints.{Done}
use Rattle.manager_serving.specs.declared.checkpointing.Checkpointing.{Checkpointing}
use Rattle.manager_serving.specs.declared.serving.Serving.{Serving}
use Rattle.manager_serving.specs.Serving as serving
use Rattle.node_base.specs.declared.effects.Effect.TheVariants.{Answer as Answers}
use Rattle.node_base.specs.Known.{names_known_groups}
use Rattle.node_base.specs.Maps.{fits, is_older, maps_take}
use Rattle.takeover.specs.declared.input.In.{In as TakeIn}
use Rattle.takeover.specs.declared.input.In.TheVariants as take_in
use Rattle.version_model.specs.declared.answer.Answer.TheVariants as answer
use Rattle.wire_msg.specs.declared.body.Body.{Body}
use Rattle.wire_msg.specs.declared.body.Body.TheVariants as body
use Rattle.wire_msg.specs.declared.deltas.Deltas.{Deltas}
use Rattle.wire_msg.specs.declared.packet.Packet.{Packet}
use Rattle.wire_msg.specs.declared.registry.CkptAck.{CkptAck}
use Rattle.wire_msg.specs.declared.registry.CkptDone.{CkptDone}
use Rattle.wire_msg.specs.declared.registry.News.{News}
use Rattle.wire_msg.specs.declared.storage.Found.{Found}
use Rattle.wire_msg.specs.declared.storage.Missing.{Missing}
use Rattle.wire_msg.specs.declared.tokens.Gave.{Gave}
use Rattle.wire_msg.specs.declared.tokens.Want.{Want}
use Rattle.xfs_base.proofs.Booleans.{by_test}
use Rattle.xfs_base.specs.declared.news.SlotNews.{SlotNews}
use Rattle.xfs_base.specs.declared.node.NodeId.{NodeId}
use Rattle.xfs_base.specs.declared.segment.LogId.{LogId}
use Rattle.xfs_base.specs.declared.segment.End.{End}
use Rattle.xfs_base.specs.Steps.{Stepped, steps, still}
use Rattle.xfs_base.proofs.Alls.{all_flat_map}
use Rattle.node_base.specs.declared.effects.Effect.{Effect}
use Rattle.node_base.specs.declared.items.Items.{Items}
use Rattle.serving_moves.proofs.item_moves.Keeping as moving
use Rattle.serving_moves.proofs.item_moves.Keeping.{from_goes, plainly, rests, same, steps_go, then_goes}
use Rattle.serving_moves.proofs.item_moves.Slots.{table_asks, table_check, table_deltas, table_gave, table_hears, table_recalls, table_regroups, table_report, table_takes, table_usage, table_want}
use Rattle.serving_moves.specs.item_moves.Moves.{AllPlain, IsCount, IsPlain}
use Rattle.serving_moves.proofs.item_moves.Moves.{IsBusy}
use Rattle.serving_moves.specs.item_moves.Moves.Begun.{AtOnce, Waits}
use Rattle.serving_moves.specs.item_moves.Moves.Move.{Ends}
use Rattle.serving_moves.specs.item_moves.Moves.Moves.{Last}
use Rattle.serving_moves.specs.item_moves.Moves.Losses.{Telling}

abbrev pub items_of : Serving → Items
items_of s = s.lasting.items

abbrev pub number_of : Serving → ℕ
number_of s = s.lasting.number

abbrev pub Goes : Serving → Done → Type 0
Goes s d = moving.Goes Telling IsCount Serving items_of number_of s d

and_goes : (s : Serving) (d : Done) (f : Serving → Done) → Goes s d → ((t : Serving) → Goes t (f t)) → Goes s (serving.and_then d f)
and_goes s d f a each = then_goes s d (f d.state) a (each d.state)

-- ---- checkpoints

stored_plain : (o : LogOut) → AllPlain Telling (checkpoints.checkpointing_store o)
unfolding checkpoints.checkpointing_store
stored_plain (log_out.Send fragment member) = (tt, tt)
stored_plain (log_out.Settled end rows) = tt

says_go : (s : Serving) (o : WriterOut) → Goes s (checkpoints.writer_says s o)
unfolding checkpoints.writer_says checkpoints.give_parts checkpoints.register
says_go s (writer_out.Parts items) =
    plainly s _ refl (same s.lasting.items) (all_flat_map (IsPlain Telling) checkpoints.checkpointing_store stored_plain (log.transition s.log (log_in.Parts items)).outs)
says_go s (writer_out.Done slot epoch parts horizon) = plainly s _ refl (same s.lasting.items) (tt, tt)
says_go s writer_out.Kept = rests s
says_go s (writer_out.Stale epoch) = rests s

writer_goes : (s : Serving) (given : WriterIn) → Goes s (checkpoints.writer_takes s given)
unfolding checkpoints.writer_takes checkpoints.writer_says_each
writer_goes s given =
    let t : Serving = record s { writer = (writer.transition s.writer given).state } in
    from_goes s t (steps checkpoints.writer_says t (writer.transition s.writer given).outs) refl (same s.lasting.items)
    (steps_go checkpoints.writer_says says_go t (writer.transition s.writer given).outs)

settled_goes : (s : Serving) (end : End) → Goes s (checkpoints.on_settled s end)
unfolding checkpoints.on_settled
settled_goes s end =
    let said : List Effect = checkpoints.filed s end in
    then_goes s (checkpoints.gives s said) (checkpoints.writer_takes s (writer_in.Settled end)) (plainly s _ refl (same s.lasting.items) (tt, tt))
    (writer_goes s (writer_in.Settled end))

log_goes : (s : Serving) (o : LogOut) → Goes s (checkpoints.log_says s o)
unfolding checkpoints.log_says
log_goes s (log_out.Send fragment member) = plainly s _ refl (same s.lasting.items) (tt, tt)
log_goes s (log_out.Settled end rows) = settled_goes s end

writes_go : (s : Serving) (given : LogIn) → Goes s (checkpoints.serving_write s given)
unfolding checkpoints.serving_write checkpoints.log_says_each
writes_go s given =
    let t : Serving = record s { log = (log.transition s.log given).state } in
    from_goes s t (steps checkpoints.log_says t (log.transition s.log given).outs) refl (same s.lasting.items)
    (steps_go checkpoints.log_says log_goes t (log.transition s.log given).outs)

slot_goes : (s : Serving) (o : Option WriterIn) → Goes s (checkpoints.writes_slot s o)
slot_goes s None = rests s
slot_goes s (Some given) = writer_goes s given

begins_goes : (s : Serving) (slot : ℕ) → Goes s (checkpoints.begin_slot s slot)
unfolding checkpoints.begin_slot
begins_goes s slot =
    let t : Serving = record s { slots = slot_table_clean s.slots slot } in
    from_goes s t (checkpoints.writes_slot t (begin_at s.slots slot)) refl (same s.lasting.items) (slot_goes t (begin_at s.slots slot))

pub next_goes : (s : Serving) → Goes s (checkpoints.next_slot s)
unfolding checkpoints.next_slot
next_goes s = by s.checkpoint
  where
    by_slot : (job : Checkpointing) (o : Option ℕ) → Goes s (checkpoints.next_from s job o)
    by_slot job None = record { its_number = refl; moves = Last (Ends (answer.Count job.count) tt) }
    by_slot job (Some slot) =
        let t : Serving = record s { checkpoint = Some (record job { next = slot_after slot }) } in
        from_goes s t (checkpoints.begin_slot t slot) refl (same s.lasting.items) (begins_goes t slot)

    by : (checkpoint : Option Checkpointing) → Goes s (checkpoints.next_for s checkpoint)
    by None = rests s
    by (Some job) = by_slot job (next_active s.slots job.next)

answered_goes : (s : Serving) (r : Stepped WriterState WriterOut) → Goes s (checkpoints.answered_by s r)
answered_goes s r =
    let t : Serving = record s { writer = r.state } in
    let u : Serving = record s { writer = r.state; checkpoint = fold checkpoints.checkpointing_count s.checkpoint r.outs } in
    by_test (Goes s) (length r.outs == 0) (still t) (checkpoints.next_slot u) (λ _. plainly s (still t) refl (same s.lasting.items) tt)
    (λ _. from_goes s u (checkpoints.next_slot u) refl (same s.lasting.items) (next_goes u))

ack_goes : (s : Serving) (ack : CkptAck) → Goes s (checkpoints.on_ckpt_ack s ack)
unfolding checkpoints.on_ckpt_ack
ack_goes s ack =
    by_test (Goes s) (checkpoints.awaits s.checkpoint ack.ask)
    (checkpoints.answered_by s (writer.transition s.writer (writer_in.Ack ack.epoch s.dones))) (still s)
    (λ _. answered_goes s (writer.transition s.writer (writer_in.Ack ack.epoch s.dones))) (λ _. rests s)

tells_go : (s : Serving) → Goes s (checkpoints.serving_tell_again s)
unfolding checkpoints.serving_tell_again
tells_go s = plainly s _ refl (same s.lasting.items) (by s.checkpoint)
  where
    by_done : (o : Option CkptDone) → AllPlain Telling (checkpoints.send_done o)
    by_done None = tt
    by_done (Some done) = (tt, tt)

    by : (o : Option Checkpointing) → AllPlain Telling (checkpoints.checkpointing_tell_again o)
    by None = tt
    by (Some job) = by_done job.done

-- ---- slots

-- what is done in the slots
slots_go : (s : Serving) (d : table.Done) → AllPlain Telling d.outs → Goes s (serving.with_slots s d)
slots_go s d plain = plainly s (serving.with_slots s d) refl (same s.lasting.items) plain

asker_goes : (s : Serving) (d : table.Asks) → AllPlain Telling d.outs → Goes s (serving.with_asker s d)
asker_goes s d plain = plainly s (serving.with_asker s d) refl (same s.lasting.items) plain

want_goes : (s : Serving) (client : Option ℕ) (want : Want) → Goes s (serving.on_want s client want)
unfolding serving.on_want
want_goes s None want = rests s
want_goes s (Some client) want = slots_go s (table.on_want s.slots client want) (table_want s.slots client want)

gave_goes : (s : Serving) (client : Option ℕ) (gave : Gave) → Goes s (serving.on_gave s client gave)
unfolding serving.on_gave
gave_goes s None gave = rests s
gave_goes s (Some client) gave = slots_go s (table.on_gave s.slots client gave) (table_gave s.slots client gave)

deltas_goes : (s : Serving) (log : Option LogId) (deltas : Deltas) → Goes s (serving.on_deltas s log deltas)
unfolding serving.on_deltas
deltas_goes s None deltas = rests s
deltas_goes s (Some log) deltas = slots_go s (table.on_deltas s.slots log deltas) (table_deltas s.slots log deltas)

-- ---- takeovers

takes_goes : (s : Serving) (slot : ℕ) (given : TakeIn) → Goes s (serving.serving_take s slot given)
unfolding serving.serving_take
takes_goes s slot given = asker_goes s (table.slot_table_take (serving.asker_of s) slot given) (table_takes (serving.asker_of s) slot given)

which_goes : (s : Serving) (which : Option (ℕ × ℕ)) (given : ℕ → TakeIn) → Goes s (serving.answered_by s which given)
which_goes s None given = rests s
which_goes s (Some which) given = takes_goes s which.0 (given which.1)

found_goes : (s : Serving) (server : Option ℕ) (found : Found) → Goes s (serving.on_found s server found)
unfolding serving.on_found
found_goes s None found = rests s
found_goes s (Some server) found = which_goes s (serving.fetch_of s found.ask) (λ own. take_in.Got own server found.generation found.fragment)

missing_goes : (s : Serving) (server : Option ℕ) (missing : Missing) → Goes s (serving.on_missing s server missing)
unfolding serving.on_missing
missing_goes s None missing = rests s
missing_goes s (Some server) missing = which_goes s (serving.fetch_of s missing.ask) (λ own. take_in.Missing own server missing.generation)

-- ---- the maps

regroups_goes : (s : Serving) (groups : GroupMapState) → Goes s (serving.regroups s groups)
unfolding serving.regroups
regroups_goes s groups = asker_goes s (table.slot_table_regroup groups (serving.asker_of s)) (table_regroups groups (serving.asker_of s))

hears_goes : (s : Serving) (clients : ℕ) (slots : List SlotNews) → Goes s (serving.hear_slots s clients slots)
unfolding serving.hear_slots
hears_goes s clients slots = by s.maps.groups
  where
    by : (groups : Option GroupMapState) → Goes s (serving.hears_with s clients slots groups)
    by None = rests s
    by (Some groups) =
        asker_goes s (table.hear_each (serving.hearer_of s clients groups) (serving.asker_of s) slots)
        (table_hears (serving.hearer_of s clients groups) (serving.asker_of s) slots)

newer_goes : (s : Serving) (clients : ℕ) (news : News) → Goes s (serving.on_newer s clients news)
unfolding serving.on_newer
newer_goes s clients news =
    and_goes s (serving.and_then (serving.regroups s news.groups) (λ t. serving.hear_slots t clients news.slots))
    (λ t. checkpoints.serving_write t (log_in.Maps news.groups))
    (and_goes s (serving.regroups s news.groups) (λ t. serving.hear_slots t clients news.slots) (regroups_goes s news.groups)
    (λ t. hears_goes t clients news.slots)) (λ t. writes_go t (log_in.Maps news.groups))

pub news_goes : (s : Serving) (clients : ℕ) (news : News) → Goes s (serving.on_news s clients news)
unfolding serving.on_news
news_goes s clients news =
    let t : Serving = record s { maps = maps_take s.maps news } in
    by_test (Goes s) (is_older s.maps news) (serving.on_newer t clients news) (serving.hear_slots s clients news.slots)
    (λ _. from_goes s t (serving.on_newer t clients news) refl (same s.lasting.items) (newer_goes t clients news)) (λ _. hears_goes s clients news.slots)

fitting_goes : (s : Serving) (clients : ℕ) (news : News) → Goes s (serving.on_fitting_news s clients news)
fitting_goes s clients news =
    by_test (Goes s) (fits s.maps news) (serving.on_news s clients news) (still s) (λ _. news_goes s clients news) (λ _. rests s)

-- ---- packets and time

body_goes : (s : Serving) (clients : ℕ) (from : NodeId) (b : Body) → Goes s (serving.on_body s clients from b)
unfolding serving.on_check serving.on_usage_ask serving.on_report
body_goes s clients from (body.MapNews news) = fitting_goes s clients news
body_goes s clients from (body.Welcome welcome) =
    by_test (Goes s) (welcome.inc == s.lasting.inc) (serving.on_fitting_news s clients welcome.news) (still s) (λ _. fitting_goes s clients welcome.news)
    (λ _. rests s)
body_goes s clients from (body.Want want) = want_goes s (serving.client_in from) want
body_goes s clients from (body.Gave gave) = gave_goes s (serving.client_in from) gave
body_goes s clients from (body.Deltas deltas) = deltas_goes s (serving.fed_log from) deltas
body_goes s clients from (body.Check check) = slots_go s (table.on_check s.slots check) (table_check s.slots check)
body_goes s clients from (body.UsageAsk asked) = plainly s _ refl (same s.lasting.items) (table_usage s.slots asked)
body_goes s clients from (body.Report report) =
    asker_goes s (table.on_report (serving.asker_of s) from report) (table_report (serving.asker_of s) from report)
body_goes s clients from (body.Fragment found) = found_goes s (server_in from) found
body_goes s clients from (body.Missing missing) = missing_goes s (server_in from) missing
body_goes s clients from (body.Stored stored) = writes_go s (log_in.Acked stored.name stored.index stored.generation)
body_goes s clients from (body.CkptAck ack) = ack_goes s ack
body_goes s clients from _ = rests s

pub packet_goes : (s : Serving) (clients : ℕ) (packet : Packet) → Goes s (serving.serving_hear s clients packet)
unfolding serving.serving_hear serving.ask_for_maps
packet_goes s clients packet =
    by_test (Goes s) (names_known_groups s.maps packet.body) (serving.on_body s clients packet.from packet.body) (serving.ask_for_maps s)
    (λ _. body_goes s clients packet.from packet.body) (λ _. plainly s _ refl (same s.lasting.items) (tt, tt))

recalls_go : (s : Serving) → Goes s (serving.recalls_again s)
unfolding serving.recalls_again
recalls_go s = slots_go s (table.recall_again s.slots) (table_recalls s.slots)

asks_go : (s : Serving) (polls : Bool) → Goes s (serving.serving_ask_again s polls)
unfolding serving.serving_ask_again
asks_go s polls = asker_goes s (table.slot_table_ask_again polls (serving.asker_of s)) (table_asks polls (serving.asker_of s))

pub tick_goes : (s : Serving) → Goes s (serving.on_tick s)
unfolding serving.on_tick
tick_goes s =
    let a : Done = serving.recalls_again s in
    let b : Done = serving.and_then a (λ t. serving.serving_ask_again t true) in
    let c : Done = serving.and_then b (λ t. serving.serving_ask_again t false) in
    let d : Done = serving.and_then c (λ t. checkpoints.serving_write t log_in.Tick) in
    and_goes s d checkpoints.serving_tell_again
    (and_goes s c (λ t. checkpoints.serving_write t log_in.Tick)
    (and_goes s b (λ t. serving.serving_ask_again t false) (and_goes s a (λ t. serving.serving_ask_again t true) (recalls_go s) (λ t. asks_go t true))
    (λ t. asks_go t false)) (λ t. writes_go t log_in.Tick)) tells_go

-- ---- a checkpoint of all slots begins

-- it is busy, or the item waits, and then there are moves
abbrev pub Opens : ℕ → Serving → Done → Type 0
Opens number s d = moving.Opens Telling IsCount IsBusy Serving items_of number_of number s d

pub checkpoint_goes : (s : Serving) (number : ℕ) → Opens number s (checkpoints.on_checkpoint s number)
unfolding checkpoints.on_checkpoint
checkpoint_goes s number =
    let t : Serving = checkpoints.waits s number in
    let g : Goes t (checkpoints.next_slot t) = next_goes t in
    by_test (Opens number s) (is_some s.lasting.items.unanswered) (checkpoints.gives s (Answers number answer.Busy ∷ [])) (checkpoints.next_slot t)
    (λ _. record { its_number = refl; begun = AtOnce answer.Busy [] [] tt tt tt }) (λ _. record { its_number = g.its_number; begun = Waits g.moves })
