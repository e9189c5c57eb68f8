-- What a cleaner that serves makes of its items: it answers the open item alone, with a count, and none begins but by a Begin.
use Rattle.std.proofs.Common.{ℕ, ◌==◌, ◌&&◌, Bool, List, [], ◌∷◌, Option, Some, None, is_some, nat_lt, refl}
use Rattle.std.specs.List.{range_with_len}
use Rattle.cleaner_serving.specs.declared.emptying.Emptying.{Emptying}
use Rattle.cleaner_serving.specs.EmptyingEvents as emptying
use Rattle.cleaner_serving.specs.Jobs as jobs
use Rattle.cleaner_serving.specs.Jobs.{Done}
use Rattle.cleaner_job.specs.declared.hand.Hand.{Hand}
use Rattle.cleaner_job.specs.declared.job.Job.{Job}
use Rattle.cleaner_job.specs.Hands.{fetches, hand_fetch}
use Rattle.cleaner_job.specs.Jobs.{check_of, act_dropped, note_greeted, hand_of, hello_of, is_out, is_whole, note_read, lists_of, usages_of}
use Rattle.cleaner_job.specs.Starting.{cleaner_log}
use Rattle.client_log.specs.declared.input.In.{In as LogIn}
use Rattle.client_log.specs.declared.input.In.TheVariants as log_in
use Rattle.client_log.specs.declared.output.Out.{Out as LogOut}
use Rattle.client_log.specs.declared.output.Out.TheVariants as log_out
use Rattle.client_log.specs.Transition as log
use Rattle.delta_feed.specs.Transition as feed
use Rattle.group_map.specs.GroupMapState.{GroupMapState}
use Rattle.log_owner.specs.Opening.{stored}
use Rattle.log_owner.specs.Promised.{epoch_of}
use Rattle.log_owner.specs.Sending.{fetch, name_of, push_all, server_in}
use Rattle.node_base.specs.Asking.{draw, next_ask}
use Rattle.node_base.specs.declared.effects.Effect.{Effect}
use Rattle.node_base.specs.declared.effects.Effect.TheVariants.{Send, Answer as Answers, Does}
use Rattle.node_base.specs.declared.items.Items.{Items}
use Rattle.node_base.specs.Known.{names_known_groups}
use Rattle.node_base.specs.Maps.{fits, is_older, maps_take}
use Rattle.segment_format.specs.declared.segment.Segment.{Segment}
use Rattle.segment_reading.specs.declared.reading.Next.{Next}
use Rattle.segment_reading.specs.declared.reading.Next.TheVariants as next
use Rattle.segment_reading.specs.Reading.{ReadingState, reading_unanswered}
use Rattle.stripe_cleaner.specs.declared.input.In.{In}
use Rattle.stripe_cleaner.specs.declared.input.In.TheVariants as input
use Rattle.stripe_cleaner.specs.declared.output.Out.{Out}
use Rattle.stripe_cleaner.specs.declared.output.Out.TheVariants as out
use Rattle.stripe_code.specs.declared.round.Told.{Told as Answered}
use Rattle.stripe_code.specs.declared.round.Told.TheVariants as answered
use Rattle.version_model.specs.declared.act.Act.TheVariants.{Dropped, Filed}
use Rattle.version_model.specs.declared.answer.Answer.TheVariants as answer
use Rattle.wire_msg.specs.declared.body.Body.{Body}
use Rattle.wire_msg.specs.declared.body.Body.TheVariants as body
use Rattle.wire_msg.specs.declared.cleaning.Dead.{Dead}
use Rattle.wire_msg.specs.declared.cleaning.Live.{Live}
use Rattle.wire_msg.specs.declared.cleaning.Usage.{Usage}
use Rattle.wire_msg.specs.declared.deltas.DeltaAck.{DeltaAck}
use Rattle.wire_msg.specs.declared.deltas.Poll.{Poll}
use Rattle.wire_msg.specs.declared.packet.Packet.{Packet}
use Rattle.wire_msg.specs.declared.registry.News.{News}
use Rattle.wire_msg.specs.declared.registry.Welcome.{Welcome}
use Rattle.wire_msg.specs.declared.storage.Listed.{Listed}
use Rattle.wire_msg.specs.declared.storage.Deleted.{Deleted}
use Rattle.xfs_base.proofs.Booleans.{by_test}
use Rattle.xfs_base.specs.declared.block.BlockId.{BlockId}
use Rattle.xfs_base.specs.declared.entry.Entry.{Entry}
use Rattle.xfs_base.specs.declared.entry.Place.{Place}
use Rattle.xfs_base.specs.declared.news.SlotNews.{SlotNews}
use Rattle.xfs_base.specs.declared.node.NodeId.{NodeId}
use Rattle.xfs_base.specs.declared.node.NodeId.TheVariants as node
use Rattle.xfs_base.specs.declared.segment.End.{End}
use Rattle.xfs_base.specs.declared.segment.SegName.{SegName}
use Rattle.xfs_base.specs.declared.segment.SegRef.{SegRef}
use Rattle.xfs_base.specs.Steps.{saying, steps, still}
use Rattle.xfs_base.proofs.Alls.{all_append, all_flat_map, all_map}
use Rattle.serving_moves.proofs.item_moves.Keeping as moving
use Rattle.serving_moves.proofs.item_moves.Keeping.{all_pushed_plain, first_goes, from_goes, if_goes, plainly, rests, same, steps_go, then_goes}
use Rattle.serving_moves.specs.item_moves.Moves.{AllPlain, IsCount, IsPlain, ItemsStay}
use Rattle.serving_moves.proofs.item_moves.Moves.{IsBusy}
use Rattle.serving_moves.specs.item_moves.Moves.Begun.{AtOnce, Waits}
use Rattle.serving_moves.specs.item_moves.Moves.Move.{Ends}
use Rattle.serving_moves.specs.item_moves.Moves.Moves.{Last}
use Rattle.serving_moves.specs.item_moves.Moves.Losses.{Silent}

abbrev pub items_of : Emptying → Items
items_of e = e.lasting.items

-- there is one cleaner: it has no number
abbrev pub no_number : Emptying → ℕ
no_number e = 0

abbrev pub Goes : Emptying → Done → Type 0
Goes e d = moving.Goes Silent IsCount Emptying items_of no_number e d

-- ---- what the job has it do

stored_plain : (o : LogOut) → AllPlain Silent (stored o)
stored_plain (log_out.Send fragment member) = (tt, tt)
stored_plain (log_out.Settled end rows) = tt

maps_go : (e : Emptying) (job : Option Job) → Goes e (jobs.ask_maps e job)
maps_go e None = rests e
maps_go e (Some job) = plainly e _ refl (same (items_of e)) ((tt, tt))

list_goes : (e : Emptying) (job : Option Job) (server : ℕ) → Goes e (jobs.ask_list e job server)
list_goes e None server = rests e
list_goes e (Some job) server = plainly e _ refl (same (items_of e)) ((tt, tt))

usage_goes : (e : Emptying) (job : Option Job) (slot : ℕ) → Goes e (jobs.ask_usage e job slot)
usage_goes e None slot = rests e
usage_goes e (Some job) slot = plainly e _ refl (same (items_of e)) ((tt, tt))

sent_goes : (e : Emptying) (block : BlockId) (place : Place) (ask : Option ℕ) → Goes e (jobs.check_sent e block place ask)
sent_goes e block place None = rests e
sent_goes e block place (Some ask) = plainly e _ refl (same (items_of e)) ((tt, tt))

checked_same : (e : Emptying) (job : Option Job) (block : BlockId) → ItemsStay (items_of e) (items_of (jobs.checked_in e job block).state)
checked_same e None block = same (items_of e)
checked_same e (Some job) block = same (items_of e)

check_goes : (e : Emptying) (block : BlockId) (place : Place) → Goes e (jobs.ask_check e block place)
unfolding jobs.ask_check jobs.emptying_check
check_goes e block place =
    let c = jobs.checked_in e e.job block in
    from_goes e c.state (jobs.check_sent c.state block place c.ask) refl (checked_same e e.job block) (sent_goes c.state block place c.ask)

for_plain : (name : SegName) (r : Option ReadingState) → AllPlain Silent (hand_fetch name r)
for_plain name None = tt
for_plain name (Some r) = all_map (IsPlain Silent) (fetch name r.ask) (λ member. tt) (reading_unanswered r)

fetches_plain : (hand : Option Hand) → AllPlain Silent (fetches hand)
fetches_plain None = tt
fetches_plain (Some hand) = for_plain hand.seg.name hand.reading

holds_same : (e : Emptying) (job : Option Job) (seg : SegRef) → ItemsStay (items_of e) (items_of (jobs.holds_in e job seg))
holds_same e None seg = same (items_of e)
holds_same e (Some job) seg = same (items_of e)

reads_go : (e : Emptying) (seg : SegRef) → Goes e (jobs.emptying_read e seg)
unfolding jobs.emptying_read jobs.emptying_hold
reads_go e seg = plainly e _ refl (holds_same e e.job seg) (fetches_plain (hand_of (jobs.holds_in e e.job seg).job))

puts_go : (e : Emptying) (i : LogIn) → Goes e (jobs.emptying_put e i)
unfolding jobs.emptying_put
puts_go e i = plainly e _ refl (same (items_of e)) (all_flat_map (IsPlain Silent) stored stored_plain (log.transition e.log i).outs)

block_goes : (e : Emptying) (one : BlockId × Entry × Option (List ℕ)) → Goes e (jobs.put_block e one)
unfolding jobs.put_block
block_goes e one = puts_go e (log_in.Put one.0 one.1 one.2)

moves_go : (e : Emptying) (blocks : List (BlockId × Entry × Option (List ℕ))) → Goes e (jobs.move_all e blocks)
unfolding jobs.move_all
moves_go e blocks =
    let d : Done = steps jobs.put_block e blocks in
    then_goes e d (jobs.emptying_put d.state log_in.Seal) (steps_go jobs.put_block block_goes e blocks) (puts_go d.state log_in.Seal)

drops_plain : (first : Bool) (name : SegName) → AllPlain Silent (act_dropped first name)
drops_plain first name = by_test (AllPlain Silent) first (Does (Dropped name) ∷ []) [] (λ _. (tt, tt)) (λ _. tt)

deletes_go : (e : Emptying) (job : Option Job) (server : ℕ) (name : SegName) → Goes e (jobs.emptying_delete e job server name)
deletes_go e None server name = rests e
deletes_go e (Some job) server name =
    plainly e _ refl (same (items_of e)) (all_append (IsPlain Silent) (act_dropped (is_whole job.hand) name) _ (drops_plain (is_whole job.hand) name) (tt, tt))

says_go : (e : Emptying) (o : Out) → Goes e (jobs.says e o)
unfolding jobs.says
says_go e out.Hello = maps_go e e.job
says_go e (out.List server) = list_goes e e.job server
says_go e (out.UsageAsk slot) = usage_goes e e.job slot
says_go e (out.Fetch seg) = reads_go e seg
says_go e (out.Check block place) = check_goes e block place
says_go e (out.Move blocks) = moves_go e blocks
says_go e (out.Delete server name) = deletes_go e e.job server name
says_go e (out.Finished count) =
    record { its_number = refl; moves = Last (Ends (answer.Count count) tt) }

taken_same : (e : Emptying) (job : Option Job) (given : In) → ItemsStay (items_of e) (items_of (jobs.takes_in e job given).state)
taken_same e None given = same (items_of e)
taken_same e (Some job) given = same (items_of e)

cleans_go : (e : Emptying) (given : In) → Goes e (jobs.emptying_clean e given)
unfolding jobs.emptying_clean jobs.emptying_take
cleans_go e given =
    let t = jobs.takes_in e e.job given in
    from_goes e t.state (steps jobs.says t.state t.outs) refl (taken_same e e.job given) (steps_go jobs.says says_go t.state t.outs)

-- ---- what comes for it

ends_go : (e : Emptying) (read : Option Segment) → Goes e (jobs.end_reading e read)
unfolding jobs.end_reading
ends_go e read =
    let f : Emptying = record e { job = note_read e.job } in
    from_goes e f (jobs.emptying_clean f (input.Read read)) refl (same (items_of e)) (cleans_go f (input.Read read))

confirmed_go : (e : Emptying) (x : Next) → Goes e (jobs.after_confirmed e x)
confirmed_go e next.Ask = plainly e _ refl (same (items_of e)) (fetches_plain (hand_of e.job))
confirmed_go e next.Lost = ends_go e None
confirmed_go e _ = rests e

confirmed_same : (e : Emptying) (job : Option Job) (ask : ℕ) → ItemsStay (items_of e) (items_of (jobs.confirmed_in e job ask).state)
confirmed_same e None ask = same (items_of e)
confirmed_same e (Some job) ask = same (items_of e)

again_goes : (e : Emptying) → Goes e (jobs.emptying_read_again e)
unfolding jobs.emptying_read_again jobs.confirmed
again_goes e =
    let f : Emptying = jobs.with_questions e (draw e.lasting.questions) in
    let h = jobs.confirmed_in f f.job (next_ask e.lasting.questions) in
    from_goes e h.state (jobs.after_confirmed h.state h.next) refl (confirmed_same f f.job (next_ask e.lasting.questions)) (confirmed_go h.state h.next)

after_told_goes : (e : Emptying) (x : Next) → Goes e (jobs.after_told e x)
after_told_goes e next.Wait = rests e
after_told_goes e next.Ask = rests e
after_told_goes e next.Again = again_goes e
after_told_goes e (next.Read segment) = ends_go e (Some segment)
after_told_goes e next.Lost = ends_go e None

told_same : (e : Emptying) (job : Option Job) (groups : Option GroupMapState) (ask server : ℕ) (t : Answered)
    → ItemsStay (items_of e) (items_of (jobs.told_in e job groups ask server t).state)
told_same e None groups ask server t = same (items_of e)
told_same e (Some job) None ask server t = same (items_of e)
told_same e (Some job) (Some groups) ask server t = same (items_of e)

told_goes : (e : Emptying) (server : Option ℕ) (ask : ℕ) (t : Answered) → Goes e (jobs.on_told e server ask t)
unfolding jobs.on_told jobs.emptying_hear
told_goes e None ask t = rests e
told_goes e (Some server) ask t =
    let h = jobs.told_in e e.job e.maps.groups ask server t in
    from_goes e h.state (jobs.after_told h.state h.next) refl (told_same e e.job e.maps.groups ask server t) (after_told_goes h.state h.next)

listed_goes : (e : Emptying) (server : Option ℕ) (listed : Listed) → Goes e (jobs.on_listed e server listed)
unfolding jobs.on_listed
listed_goes e None listed = rests e
listed_goes e (Some server) listed = if_goes (is_out (lists_of e.job) listed.ask) e _ (cleans_go e (input.Listed server listed.held))

usages_go : (e : Emptying) (usage : Usage) → Goes e (jobs.on_usage e usage)
unfolding jobs.on_usage
usages_go e usage = if_goes (is_out (usages_of e.job) usage.ask) e _ (cleans_go e (input.Usage usage.slot usage.epoch usage.counts))

live_goes : (e : Emptying) (live : Live) → Goes e (jobs.on_live e live)
unfolding jobs.on_live
live_goes e live = if_goes (is_out (check_of (hand_of e.job) live.block) live.ask) e _ (cleans_go e (input.Live live.block live.epoch live.entry))

dead_goes : (e : Emptying) (dead : Dead) → Goes e (jobs.on_dead e dead)
unfolding jobs.on_dead
dead_goes e dead = if_goes (is_out (check_of (hand_of e.job) dead.block) dead.ask) e _ (cleans_go e (input.Dead dead.block dead.epoch))

deleted_goes : (e : Emptying) (server : Option ℕ) (deleted : Deleted) → Goes e (jobs.on_deleted e server deleted)
unfolding jobs.on_deleted
deleted_goes e None deleted = rests e
deleted_goes e (Some server) deleted = cleans_go e (input.Deleted server deleted.name)

-- ---- a job begins

promise_goes : (e : Emptying) (slot : ℕ) → Goes e (emptying.promise_slot e slot)
unfolding emptying.promise_slot
promise_goes e slot = cleans_go e (input.Promise slot (epoch_of e.promised slot))

-- the item waits, and then there are moves
pub begins_go : (e : Emptying) (number count : ℕ) → Goes (emptying.with_new_job e number count) (emptying.begin_job e number count)
unfolding emptying.begin_job emptying.promise_all
begins_go e number count =
    let f : Emptying = emptying.with_new_job e number count in
    let d : Done = steps emptying.promise_slot f (range_with_len 0 8) in
    then_goes f d (jobs.emptying_clean d.state input.Tick) (steps_go emptying.promise_slot promise_goes f (range_with_len 0 8)) (cleans_go d.state input.Tick)

-- or it is busy
abbrev pub Cleans : ℕ → Emptying → Done → Type 0
Cleans number e d = moving.Opens Silent IsCount IsBusy Emptying items_of no_number number e d

pub clean_goes : (e : Emptying) (number count : ℕ) → Cleans number e (emptying.on_clean e number count)
unfolding emptying.on_clean
clean_goes e number count =
    by_test (Cleans number e) (is_some e.lasting.items.unanswered) (record { state = e; outs = Answers number answer.Busy ∷ [] })
    (emptying.begin_job e number count) (λ _. record { its_number = refl; begun = AtOnce answer.Busy [] [] tt tt tt })
    (λ _. record { its_number = refl; begun = Waits (begins_go e number count).moves })

-- ---- the log

settles_go : (e : Emptying) (end : End) (rows : List (BlockId × Entry)) → Goes e (emptying.emptying_settle e end rows)
unfolding emptying.emptying_settle
settles_go e end rows =
    let f : Emptying = emptying.fed e end rows in
    first_goes e (Does (Filed (name_of cleaner_log end)) ∷ push_all f.promised.managers f.feed) (jobs.emptying_clean f input.Moved)
    (tt, all_pushed_plain Silent f.promised.managers f.feed) (from_goes e f (jobs.emptying_clean f input.Moved) refl (same (items_of e)) (cleans_go f input.Moved))

one_goes : (e : Emptying) (o : LogOut) → Goes e (emptying.write_one e o)
unfolding emptying.write_one
one_goes e (log_out.Send fragment member) = plainly e _ refl (same (items_of e)) ((tt, tt))
one_goes e (log_out.Settled end rows) = settles_go e end rows

writes_go : (e : Emptying) (i : LogIn) → Goes e (emptying.emptying_write e i)
unfolding emptying.emptying_write
writes_go e i =
    let f : Emptying = record e { log = (log.transition e.log i).state } in
    from_goes e f (steps emptying.write_one f (log.transition e.log i).outs) refl (same (items_of e))
    (steps_go emptying.write_one one_goes f (log.transition e.log i).outs)

ack_goes : (e : Emptying) (a : DeltaAck) → Goes e (emptying.on_ack e a)
unfolding emptying.on_ack
ack_goes e a =
    let f : Emptying = record e { feed = feed.acknowledged e.feed a.slot a.applied } in
    if_goes (epoch_of e.promised a.slot == a.epoch) e (still f) (plainly e (still f) refl (same (items_of e)) tt)

-- ---- promises

renews_same : (e : Emptying) (slot epoch : ℕ) → ItemsStay (items_of e) (items_of (emptying.emptying_renew e slot epoch))
renews_same e slot epoch =
    by_test (λ (f : Emptying). ItemsStay (items_of e) (items_of f)) (nat_lt (epoch_of e.promised slot) epoch) (record e { feed = feed.new_epoch e.feed slot }) e
    (λ _. same (items_of e)) (λ _. same (items_of e))

promises_same : (e : Emptying) (slot epoch manager : ℕ) → ItemsStay (items_of e) (items_of (emptying.emptying_promise e slot epoch manager))
unfolding emptying.emptying_promise
promises_same e slot epoch manager = renews_same e slot epoch

promised_goes : (e : Emptying) (slot epoch manager : ℕ) (given : In) → Goes e (jobs.emptying_clean (emptying.emptying_promise e slot epoch manager) given)
promised_goes e slot epoch manager given =
    let f : Emptying = emptying.emptying_promise e slot epoch manager in
    from_goes e f (jobs.emptying_clean f given) refl (promises_same e slot epoch manager) (cleans_go f given)

polled_goes : (e : Emptying) (manager : ℕ) (p : Poll) → Goes e (emptying.on_polled e manager p)
polled_goes e manager p =
    let kept : Emptying = emptying.emptying_promise e p.slot p.epoch manager in
    let said : List Effect = Send (node.Manager manager) (body.Report (record { slot = p.slot; epoch = p.epoch; held = []; end = kept.log.end })) ∷ [] in
    by_test (Goes e) (nat_lt p.epoch (epoch_of e.promised p.slot)) (still e) (emptying.emptying_report e manager p) (λ _. rests e)
    (λ _. first_goes e said (jobs.emptying_clean kept (input.Promise p.slot p.epoch)) (tt, tt)
    (promised_goes e p.slot p.epoch manager (input.Promise p.slot p.epoch)))

poll_goes : (e : Emptying) (from : NodeId) (p : Poll) → Goes e (emptying.on_poll e from p)
unfolding emptying.on_poll
poll_goes e (node.Manager manager) p = polled_goes e manager p
poll_goes e _ p = rests e

-- ---- the maps

slot_goes : (e : Emptying) (news : SlotNews) → Goes e (emptying.hear_slot e news)
unfolding emptying.hear_slot
slot_goes e news =
    if_goes (nat_lt (epoch_of e.promised news.slot) news.epoch) e _
    (promised_goes e news.slot news.epoch news.manager (input.Promise news.slot news.epoch))

slots_go : (e : Emptying) (slots : List SlotNews) → Goes e (emptying.hear_slots e slots)
unfolding emptying.hear_slots
slots_go e slots = steps_go emptying.hear_slot slot_goes e slots

take_news_goes : (e : Emptying) (news : News) → Goes e (emptying.take_news e news)
unfolding emptying.take_news
take_news_goes e news =
    let newer : Bool = is_older e.maps news in
    let f : Emptying = record e { maps = maps_take e.maps news } in
    let a : Done = emptying.regroup_job f newer news.groups in
    let b : Done = emptying.hear_slots a.state news.slots in
    let c : Done = emptying.regroup_log b.state newer news.groups in
    from_goes e f (saying a.outs (saying b.outs c)) refl (same (items_of e))
    (then_goes f a (saying b.outs c) (if_goes newer f _ (cleans_go f (input.Maps news.groups)))
    (then_goes a.state b c (slots_go a.state news.slots) (if_goes newer b.state _ (writes_go b.state (log_in.Maps news.groups)))))

news_goes : (e : Emptying) (news : News) → Goes e (emptying.on_news e news)
news_goes e news = if_goes (fits e.maps news) e _ (take_news_goes e news)

over_goes : (e : Emptying) (slots : List SlotNews) (groups : Option GroupMapState) → Goes e (emptying.welcome_over e slots groups)
over_goes e slots None = rests e
over_goes e slots (Some groups) = cleans_go e (input.Welcome slots groups)

welcomes_go : (e : Emptying) (w : Welcome) → Goes e (emptying.emptying_welcome e w)
unfolding emptying.emptying_welcome
welcomes_go e w =
    let f : Emptying = record e { job = note_greeted e.job } in
    if_goes (is_out (hello_of e.job) w.ask) e _
    (from_goes e f (emptying.welcome_over f w.news.slots e.maps.groups) refl (same (items_of e)) (over_goes f w.news.slots e.maps.groups))

welcome_goes : (e : Emptying) (w : Welcome) → Goes e (emptying.on_welcome e w)
unfolding emptying.on_welcome
welcome_goes e w =
    let d : Done = emptying.take_news e w.news in
    if_goes ((w.inc == e.lasting.inc) && fits e.maps w.news) e _
    (then_goes e d (emptying.emptying_welcome d.state w) (take_news_goes e w.news) (welcomes_go d.state w))

-- ---- packets and time

body_goes : (e : Emptying) (from : NodeId) (b : Body) → Goes e (emptying.on_body e from b)
body_goes e from (body.MapNews m) = news_goes e m
body_goes e from (body.Welcome m) = welcome_goes e m
body_goes e from (body.Poll m) = poll_goes e from m
body_goes e from (body.DeltaAck m) = ack_goes e m
body_goes e from (body.Stored m) = writes_go e (log_in.Acked m.name m.index m.generation)
body_goes e from (body.Listed m) = listed_goes e (server_in from) m
body_goes e from (body.Usage m) = usages_go e m
body_goes e from (body.Fragment m) = told_goes e (server_in from) m.ask (answered.Held m.fragment)
body_goes e from (body.Missing m) = told_goes e (server_in from) m.ask (answered.Missing m.generation)
body_goes e from (body.Live m) = live_goes e m
body_goes e from (body.Dead m) = dead_goes e m
body_goes e from (body.Deleted m) = deleted_goes e (server_in from) m
body_goes e from _ = rests e

pub packet_goes : (e : Emptying) (packet : Packet) → Goes e (emptying.on_packet e packet)
unfolding emptying.on_packet
packet_goes e packet =
    by_test (Goes e) (names_known_groups e.maps packet.body) (emptying.on_body e packet.from packet.body) (emptying.ask_for_maps e)
    (λ _. body_goes e packet.from packet.body) (λ _. plainly e _ refl (same (items_of e)) ((tt, tt)))

pub tick_goes : (e : Emptying) → Goes e (emptying.on_tick e)
unfolding emptying.on_tick
tick_goes e =
    let j : Done = jobs.emptying_clean e input.Tick in
    let l : Done = emptying.emptying_write j.state log_in.Tick in
    let pushed : List Effect = push_all l.state.promised.managers l.state.feed in
    then_goes e j (saying l.outs (record { state = l.state; outs = pushed })) (cleans_go e input.Tick)
    (then_goes j.state l (record { state = l.state; outs = pushed }) (writes_go j.state log_in.Tick)
    (plainly l.state _ refl (same (items_of l.state)) (all_pushed_plain Silent l.state.promised.managers l.state.feed)))
