-- What a cleaner that serves does but for a Poll answers nobody; and what it does for its job leaves of each slot to which epoch of which manager it is promised.
use Rattle.std.proofs.Common.{◌≡◌, ◌⊎◌, ℕ, ◌&&◌, ◌==◌, Bool, true, false, cond, List, [], ◌∷◌, ◌++◌, Option, Some, None, nat_lt, inl, inr, refl, ◌∙◌}
use Rattle.cleaner_job.specs.declared.hand.Hand.{Hand}
use Rattle.cleaner_job.specs.declared.job.Job.{Job}
use Rattle.cleaner_job.specs.Hands.{fetches, hand_fetch}
use Rattle.cleaner_job.specs.Jobs.{act_dropped, check_of, hand_of, hello_of, is_out, is_whole, lists_of, note_greeted, note_read, usages_of}
use Rattle.cleaner_serving.specs.declared.emptying.Emptying.{Emptying}
use Rattle.cleaner_serving.specs.EmptyingEvents.{emptying_promise, emptying_settle, emptying_welcome, emptying_write, fed, hear_slot, hear_slots, on_ack, on_body, on_news, on_welcome, regroup_job, regroup_log, take_news, welcome_over, write_one}
use Rattle.cleaner_serving.specs.Jobs.{Checked, Done, after_confirmed, after_told, ask_check, ask_list, ask_maps, ask_usage, check_sent, checked_in, confirmed, emptying_check, emptying_clean, emptying_delete, emptying_hear, emptying_hold, emptying_put, emptying_read, emptying_read_again, emptying_take, end_reading, holds_in, move_all, on_dead, on_deleted, on_listed, on_live, on_told, on_usage, put_block, says, takes_in, with_questions}
use Rattle.client_log.specs.declared.input.In.{In as LogIn}
use Rattle.client_log.specs.declared.input.In.TheVariants as log_in
use Rattle.client_log.specs.declared.output.Out.{Out as LogOut}
use Rattle.client_log.specs.declared.output.Out.TheVariants as log_out
use Rattle.client_log.specs.Transition as log
use Rattle.delta_feed.specs.FeedState.{FeedState}
use Rattle.delta_feed.specs.Transition.{acknowledged, feed_tick}
use Rattle.group_map.specs.GroupMapState.{GroupMapState}
use Rattle.log_owner.specs.declared.promised.Managers.{Managers}
use Rattle.log_owner.specs.Promised.{epoch_of}
use Rattle.log_owner.specs.Sending.{fetch, push_all, server_in}
use Rattle.node_base.specs.Asking.{draw, next_ask}
use Rattle.node_base.specs.declared.effects.Effect.TheVariants.{Send}
use Rattle.node_base.specs.Maps.{fits, is_older, maps_take}
use Rattle.segment_format.specs.declared.segment.Segment.{Segment}
use Rattle.segment_reading.specs.declared.reading.Next.{Next}
use Rattle.segment_reading.specs.declared.reading.Next.TheVariants as next
use Rattle.segment_reading.specs.Reading.{ReadingState, reading_unanswered}
use Rattle.stripe_cleaner.specs.declared.input.In.{In}
use Rattle.stripe_cleaner.specs.declared.input.In.TheVariants as input
use Rattle.stripe_cleaner.specs.declared.output.Out.{Out}
use Rattle.stripe_cleaner.specs.declared.output.Out.TheVariants as out
use Rattle.stripe_code.specs.declared.round.Told.{Told}
use Rattle.stripe_code.specs.declared.round.Told.TheVariants as told
use Rattle.version_model.specs.declared.answer.Answer.TheVariants.{Count}
use Rattle.wire_msg.specs.declared.body.Body.{Body}
use Rattle.wire_msg.specs.declared.body.Body.TheVariants as body
use Rattle.wire_msg.specs.declared.cleaning.Dead.{Dead}
use Rattle.wire_msg.specs.declared.cleaning.Live.{Live}
use Rattle.wire_msg.specs.declared.cleaning.Usage.{Usage}
use Rattle.wire_msg.specs.declared.deltas.DeltaAck.{DeltaAck}
use Rattle.wire_msg.specs.declared.deltas.Poll.{Poll}
use Rattle.wire_msg.specs.declared.registry.News.{News}
use Rattle.wire_msg.specs.declared.registry.Welcome.{Welcome}
use Rattle.wire_msg.specs.declared.storage.Deleted.{Deleted}
use Rattle.wire_msg.specs.declared.storage.Listed.{Listed}
use Rattle.xfs_base.proofs.Alls.{all_append, all_map}
use Rattle.xfs_base.proofs.Booleans.{by_test}
use Rattle.xfs_base.specs.declared.block.BlockId.{BlockId}
use Rattle.xfs_base.specs.declared.entry.Entry.{Entry}
use Rattle.xfs_base.specs.declared.entry.Place.{Place}
use Rattle.xfs_base.specs.declared.news.SlotNews.{SlotNews}
use Rattle.xfs_base.specs.declared.node.NodeId.{NodeId}
use Rattle.xfs_base.specs.declared.node.NodeId.TheVariants as nodes
use Rattle.xfs_base.specs.declared.segment.End.{End}
use Rattle.xfs_base.specs.declared.segment.SegName.{SegName}
use Rattle.xfs_base.specs.declared.segment.SegRef.{SegRef}
use Rattle.xfs_base.specs.Steps.{saying, steps, still}
use Rattle.run_answers.proofs.reply_law.OpenCalls.{AllSilent, IsSilent, answers_silent, deltas_silent, stored_silent}

-- what is promised stays so, and nobody is answered
pub record Goes (e : Emptying) (d : Done) : Type 0 where
  pub promised : d.state.promised ≡ e.promised
  pub silent : AllSilent d.outs

rests : (e : Emptying) → Goes e (still e)
rests e = record { promised = refl; silent = tt }

goes_then : (e : Emptying) (d f : Done) → Goes e d → Goes d.state f → Goes e (saying d.outs f)
goes_then e d f p q = record { promised = q.promised ∙ p.promised; silent = all_append IsSilent d.outs f.outs p.silent q.silent }

goes_steps : {A : Type 0} (step : Emptying → A → Done) → ((e : Emptying) (x : A) → Goes e (step e x)) → (e : Emptying) (xs : List A) → Goes e (steps step e xs)
goes_steps step each e [] = rests e
goes_steps step each e (x ∷ xs) = goes_then e (step e x) (steps step (step e x).state xs) (each e x) (goes_steps step each (step e x).state xs)

-- ---- what is said

fetch_silent : (name : SegName) (reading : Option ReadingState) → AllSilent (hand_fetch name reading)
fetch_silent name None = tt
fetch_silent name (Some r) = all_map IsSilent (fetch name r.ask) (λ server. refl) (reading_unanswered r)

fetches_silent : (hand : Option Hand) → AllSilent (fetches hand)
fetches_silent None = tt
fetches_silent (Some hand) = fetch_silent hand.seg.name hand.reading

pushes_silent : (managers : Managers) (feed : FeedState) → AllSilent (push_all managers feed)
pushes_silent managers feed = deltas_silent managers (feed_tick feed)

-- ---- the job

maps_asked : (e : Emptying) (o : Option Job) → Goes e (ask_maps e o)
maps_asked e None = rests e
maps_asked e (Some job) = record { promised = refl; silent = (refl, tt) }

list_asked : (e : Emptying) (o : Option Job) (server : ℕ) → Goes e (ask_list e o server)
list_asked e None server = rests e
list_asked e (Some job) server = record { promised = refl; silent = (refl, tt) }

usage_asked : (e : Emptying) (o : Option Job) (slot : ℕ) → Goes e (ask_usage e o slot)
usage_asked e None slot = rests e
usage_asked e (Some job) slot = record { promised = refl; silent = (refl, tt) }

checks_sent : (e : Emptying) (block : BlockId) (place : Place) (c : Checked) → c.state.promised ≡ e.promised → Goes e (check_sent c.state block place c.ask)
checks_sent e block place c same = by c.ask
  where
    by : (ask : Option ℕ) → Goes e (check_sent c.state block place ask)
    by None = record { promised = same; silent = tt }
    by (Some ask) = record { promised = same; silent = (refl, tt) }

check_asked : (e : Emptying) (block : BlockId) (place : Place) → Goes e (ask_check e block place)
unfolding ask_check emptying_check
check_asked e block place = checks_sent e block place (checked_in e e.job block) (by e.job)
  where
    by : (o : Option Job) → (checked_in e o block).state.promised ≡ e.promised
    by None = refl
    by (Some job) = refl

read_begun : (e : Emptying) (seg : SegRef) → Goes e (emptying_read e seg)
unfolding emptying_read emptying_hold
read_begun e seg = record { promised = by e.job; silent = fetches_silent (hand_of (emptying_hold e seg).job) }
  where
    by : (o : Option Job) → (holds_in e o seg).promised ≡ e.promised
    by None = refl
    by (Some job) = refl

puts : (e : Emptying) (i : LogIn) → Goes e (emptying_put e i)
unfolding emptying_put
puts e i = record { promised = refl; silent = stored_silent (log.transition e.log i).outs }

block_put : (e : Emptying) (one : BlockId × Entry × Option (List ℕ)) → Goes e (put_block e one)
unfolding put_block
block_put e one = puts e (log_in.Put one.0 one.1 one.2)

all_moved : (e : Emptying) (blocks : List (BlockId × Entry × Option (List ℕ))) → Goes e (move_all e blocks)
unfolding move_all
all_moved e blocks =
    let d : Done = steps put_block e blocks in
    goes_then e d (emptying_put d.state log_in.Seal) (goes_steps put_block block_put e blocks) (puts d.state log_in.Seal)

deleted : (e : Emptying) (o : Option Job) (server : ℕ) (name : SegName) → Goes e (emptying_delete e o server name)
deleted e None server name = rests e
deleted e (Some job) server name = record { promised = refl; silent = by (is_whole job.hand) }
  where
    by : (is_first : Bool) → AllSilent (act_dropped is_first name ++ Send (nodes.Server server) (body.Delete (record { name = name })) ∷ [])
    by true = (tt, (refl, tt))
    by false = (refl, tt)

one_said : (e : Emptying) (o : Out) → Goes e (says e o)
unfolding says
one_said e out.Hello = maps_asked e e.job
one_said e (out.List server) = list_asked e e.job server
one_said e (out.UsageAsk slot) = usage_asked e e.job slot
one_said e (out.Fetch seg) = read_begun e seg
one_said e (out.Check block place) = check_asked e block place
one_said e (out.Move blocks) = all_moved e blocks
one_said e (out.Delete server name) = deleted e e.job server name
one_said e (out.Finished count) = record { promised = refl; silent = answers_silent e.lasting.items.unanswered (Count count) }

pub cleans : (e : Emptying) (given : In) → Goes e (emptying_clean e given)
unfolding emptying_clean emptying_take
cleans e given = by e.job
  where
    by : (o : Option Job) → Goes e (steps says (takes_in e o given).state (takes_in e o given).outs)
    by None = rests e
    by (Some job) =
        let said : Goes (takes_in e (Some job) given).state (steps says (takes_in e (Some job) given).state (takes_in e (Some job) given).outs) =
        goes_steps says one_said (takes_in e (Some job) given).state (takes_in e (Some job) given).outs in record { promised = said.promised; silent = said.silent }

-- ---- it answers nobody

abbrev pub Silent : Done → Type 0
Silent d = AllSilent d.outs

silent_then : (d f : Done) → Silent d → Silent f → Silent (saying d.outs f)
silent_then d f p q = all_append IsSilent d.outs f.outs p q

silent_steps : {A : Type 0} (step : Emptying → A → Done) → ((e : Emptying) (x : A) → Silent (step e x)) → (e : Emptying) (xs : List A) → Silent (steps step e xs)
silent_steps step each e [] = tt
silent_steps step each e (x ∷ xs) = silent_then (step e x) (steps step (step e x).state xs) (each e x) (silent_steps step each (step e x).state xs)

-- the job takes this where that is so, and else nothing happens
if_cleans : (e f : Emptying) (given : In) (b : Bool) → Silent (cond b (emptying_clean f given) (still e))
if_cleans e f given true = (cleans f given).silent
if_cleans e f given false = tt

settles : (e : Emptying) (end : End) (rows : List (BlockId × Entry)) → Silent (emptying_settle e end rows)
unfolding emptying_settle
settles e end rows =
    let f : Emptying = fed e end rows in (
      tt,
      all_append IsSilent (push_all f.promised.managers f.feed) (emptying_clean f input.Moved).outs (pushes_silent f.promised.managers f.feed)
          (cleans f input.Moved).silent,
    )

one_written : (e : Emptying) (o : LogOut) → Silent (write_one e o)
unfolding write_one
one_written e (log_out.Send fragment member) = (refl, tt)
one_written e (log_out.Settled end rows) = settles e end rows

writes : (e : Emptying) (i : LogIn) → Silent (emptying_write e i)
unfolding emptying_write
writes e i = silent_steps write_one one_written (record e { log = (log.transition e.log i).state }) (log.transition e.log i).outs

-- ---- the maps

slot_heard : (e : Emptying) (news : SlotNews) → Silent (hear_slot e news)
unfolding hear_slot
slot_heard e news =
    if_cleans e (emptying_promise e news.slot news.epoch news.manager) (input.Promise news.slot news.epoch) (nat_lt (epoch_of e.promised news.slot) news.epoch)

slots_heard : (e : Emptying) (slots : List SlotNews) → Silent (hear_slots e slots)
unfolding hear_slots
slots_heard e slots = silent_steps hear_slot slot_heard e slots

log_regrouped : (e : Emptying) (newer : Bool) (groups : GroupMapState) → Silent (regroup_log e newer groups)
log_regrouped e true groups = writes e (log_in.Maps groups)
log_regrouped e false groups = tt

news_taken : (e : Emptying) (news : News) → Silent (take_news e news)
unfolding take_news
news_taken e news =
    let newer : Bool = is_older e.maps news in
    let t : Emptying = record e { maps = maps_take e.maps news } in
    let a : Done = regroup_job t newer news.groups in
    let b : Done = hear_slots a.state news.slots in
    silent_then a (saying b.outs (regroup_log b.state newer news.groups)) (if_cleans t t (input.Maps news.groups) newer)
    (silent_then b (regroup_log b.state newer news.groups) (slots_heard a.state news.slots) (log_regrouped b.state newer news.groups))

news_come : (e : Emptying) (news : News) → Silent (on_news e news)
news_come e news = by_test Silent (fits e.maps news) (take_news e news) (still e) (λ _. news_taken e news) (λ _. tt)

welcomed : (e : Emptying) (w : Welcome) → Silent (emptying_welcome e w)
unfolding emptying_welcome
welcomed e w =
    by_test Silent (is_out (hello_of e.job) w.ask) (welcome_over (record e { job = note_greeted e.job }) w.news.slots e.maps.groups) (still e) (λ _. by e.maps.groups)
    (λ _. tt)
  where
    by : (groups : Option GroupMapState) → Silent (welcome_over (record e { job = note_greeted e.job }) w.news.slots groups)
    by None = tt
    by (Some groups) = (cleans (record e { job = note_greeted e.job }) (input.Welcome w.news.slots groups)).silent

welcome_comes : (e : Emptying) (w : Welcome) → Silent (on_welcome e w)
unfolding on_welcome
welcome_comes e w =
    let d : Done = take_news e w.news in
    by_test Silent ((w.inc == e.lasting.inc) && fits e.maps w.news) (saying d.outs (emptying_welcome d.state w)) (still e)
    (λ _. silent_then d (emptying_welcome d.state w) (news_taken e w.news) (welcomed d.state w)) (λ _. tt)

-- ---- what comes for its job

ack_comes : (e : Emptying) (a : DeltaAck) → Silent (on_ack e a)
unfolding on_ack
ack_comes e a =
    by_test Silent (epoch_of e.promised a.slot == a.epoch) (still (record e { feed = acknowledged e.feed a.slot a.applied })) (still e) (λ _. tt) (λ _. tt)

list_comes : (e : Emptying) (server : Option ℕ) (m : Listed) → Silent (on_listed e server m)
unfolding on_listed
list_comes e None m = tt
list_comes e (Some server) m = if_cleans e e (input.Listed server m.held) (is_out (lists_of e.job) m.ask)

usage_comes : (e : Emptying) (m : Usage) → Silent (on_usage e m)
unfolding on_usage
usage_comes e m = if_cleans e e (input.Usage m.slot m.epoch m.counts) (is_out (usages_of e.job) m.ask)

live_comes : (e : Emptying) (m : Live) → Silent (on_live e m)
unfolding on_live
live_comes e m = if_cleans e e (input.Live m.block m.epoch m.entry) (is_out (check_of (hand_of e.job) m.block) m.ask)

dead_comes : (e : Emptying) (m : Dead) → Silent (on_dead e m)
unfolding on_dead
dead_comes e m = if_cleans e e (input.Dead m.block m.epoch) (is_out (check_of (hand_of e.job) m.block) m.ask)

deletion_comes : (e : Emptying) (server : Option ℕ) (m : Deleted) → Silent (on_deleted e server m)
unfolding on_deleted
deletion_comes e None m = tt
deletion_comes e (Some server) m = (cleans e (input.Deleted server m.name)).silent

-- ---- the reading of the segment in hand

reading_ends : (e : Emptying) (read : Option Segment) → Silent (end_reading e read)
unfolding end_reading
reading_ends e read = (cleans (record e { job = note_read e.job }) (input.Read read)).silent

confirms : (e : Emptying) (x : Next) → Silent (after_confirmed e x)
confirms e next.Ask = fetches_silent (hand_of e.job)
confirms e next.Lost = reading_ends e None
confirms e _ = tt

reads_again : (e : Emptying) → Silent (emptying_read_again e)
unfolding emptying_read_again
reads_again e =
    let f : Emptying = with_questions e (draw e.lasting.questions) in
    confirms (confirmed f (next_ask e.lasting.questions)).state (confirmed f (next_ask e.lasting.questions)).next

hears : (e : Emptying) (x : Next) → Silent (after_told e x)
hears e next.Again = reads_again e
hears e (next.Read segment) = reading_ends e (Some segment)
hears e next.Lost = reading_ends e None
hears e _ = tt

telling_comes : (e : Emptying) (server : Option ℕ) (ask : ℕ) (t : Told) → Silent (on_told e server ask t)
unfolding on_told
telling_comes e None ask t = tt
telling_comes e (Some server) ask t = hears (emptying_hear e ask server t).state (emptying_hear e ask server t).next

-- ---- a packet

-- it asks nothing of the cleaner
abbrev pub AsksNothing : Body → Type 0
AsksNothing (body.Poll poll) = ⊥
AsksNothing _ = Unit {0}

pub is_poll : (b : Body) → AsksNothing b ⊎ ((poll : Poll) × (b ≡ body.Poll poll))
is_poll (body.Poll poll) = inr (poll, refl)
is_poll _ = inl tt

pub body_silent : (e : Emptying) (from : NodeId) (b : Body) → AsksNothing b → Silent (on_body e from b)
body_silent e from (body.Poll m) asks = absurd asks
body_silent e from (body.MapNews m) asks = news_come e m
body_silent e from (body.Welcome m) asks = welcome_comes e m
body_silent e from (body.DeltaAck m) asks = ack_comes e m
body_silent e from (body.Stored m) asks = writes e (log_in.Acked m.name m.index m.generation)
body_silent e from (body.Listed m) asks = list_comes e (server_in from) m
body_silent e from (body.Usage m) asks = usage_comes e m
body_silent e from (body.Fragment m) asks = telling_comes e (server_in from) m.ask (told.Held m.fragment)
body_silent e from (body.Missing m) asks = telling_comes e (server_in from) m.ask (told.Missing m.generation)
body_silent e from (body.Live m) asks = live_comes e m
body_silent e from (body.Dead m) asks = dead_comes e m
body_silent e from (body.Deleted m) asks = deletion_comes e (server_in from) m
body_silent e from _ asks = tt
