-- Each event of the cleaner is a list of moves: the one walk through all that can happen to it.
use Rattle.std.proofs.Common.{◌≡◌, ℕ, ◌≤◌, Bool, true, false, ◌==◌, ◌&&◌, nat_lt, List, [], ◌∷◌, Option, Some, None, append_assoc, refl, sym, ap, subst, ◌∙◌, cond, arith}
use Rattle.std.proofs.lemmas.Bool.{ltb-false}
use Rattle.std.proofs.lemmas.Bool.Decides.{nat_tests}
use Rattle.std.specs.List.{AllByRecursion, range_with_len}
use Rattle.std.specs.Option.{is_some}
use Rattle.std.specs.Prelude.{Contains, fold, slice_set}
use Rattle.cleaner_job.specs.declared.job.Job.{Job}
use Rattle.cleaner_job.specs.declared.lasting.Lasting.{Lasting}
use Rattle.cleaner_job.specs.Hands.{Heard}
use Rattle.cleaner_job.specs.Jobs.{check_of, note_greeted, hand_of, hello_of, is_out, lists_of, job_start, usages_of}
use Rattle.cleaner_node.specs.CleanerEvents.{Went_to, after_opening, begun_life, crash, down_at, down_wishes, happens, cleaner_hear, lasting_of, on_begin, on_deliver, on_time, opened_on, opening_at, opening_wishes, phase_has_room, serves_on, serving_at, serving_wishes, wish_at}
use Rattle.cleaner_node.specs.declared.cleaner.Cleaner.{Cleaner}
use Rattle.cleaner_node.specs.declared.cleaner.Phase.{Phase}
use Rattle.cleaner_node.specs.declared.cleaner.Phase.TheVariants.{Down, Opening, Serving}
use Rattle.cleaner_node.specs.declared.cleaner.Wish.{Wish}
use Rattle.cleaner_node.specs.declared.cleaner.Wish.TheVariants.{Clean, Crash, Restart}
use Rattle.cleaner_serving.specs.declared.emptying.Emptying.{Emptying}
use Rattle.cleaner_serving.specs.EmptyingEvents.{ask_for_maps, begin_job, hear_slot, hear_slots, regroup_job, regroup_log, on_ack, on_body, on_clean, on_news, on_packet, on_poll, on_tick, on_welcome, emptying_promise, promise_all, promise_slot, emptying_report, emptying_back, take_news, emptying_welcome, welcome_over, with_new_job, emptying_write}
use Rattle.cleaner_serving.specs.Jobs.{Done, after_confirmed, after_told, ask_usage, emptying_clean, confirmed, end_reading, emptying_take, on_dead, on_deleted, on_listed, on_live, on_told, on_usage, emptying_read_again, says, takes_in, emptying_hear, with_questions}
use Rattle.client_log.specs.declared.input.In.TheVariants as log_in
use Rattle.delta_feed.specs.Transition.{acknowledged, new_epoch}
use Rattle.group_map.specs.GroupMapState.{GroupMapState}
use Rattle.log_owner.specs.declared.opened.Progress.{Progress}
use Rattle.log_owner.specs.declared.opened.Progress.TheVariants as progress
use Rattle.log_owner.specs.declared.opening.Opening as openings
use Rattle.log_owner.specs.Opening as opening
use Rattle.log_owner.specs.Opening.{Went}
use Rattle.log_owner.specs.Promised.{epoch_of}
use Rattle.log_owner.specs.Sending.{push_all, server_in}
use Rattle.node_base.specs.Asking.{draw, next_ask}
use Rattle.node_base.specs.Beginning.{items_answer, answers_unanswered, items_begin, next_item, items_wait}
use Rattle.node_base.specs.declared.effects.Effect.TheVariants.{Answer as Answers, Send}
use Rattle.node_base.specs.declared.items.Items.{Items}
use Rattle.node_base.specs.Known.{names_known_groups}
use Rattle.node_base.specs.Maps.{fits, is_older, maps_take}
use Rattle.node_base.specs.Shape.{is_well_formed}
use Rattle.segment_format.specs.declared.segment.Segment.{Segment}
use Rattle.segment_reading.specs.declared.reading.Next.{Next}
use Rattle.segment_reading.specs.declared.reading.Next.TheVariants as next
use Rattle.stripe_cleaner.specs.CleaningState.{CleaningState, cleaning_start}
use Rattle.stripe_cleaner.specs.Counting.{has_usage}
use Rattle.stripe_cleaner.specs.declared.input.In.{In}
use Rattle.stripe_cleaner.specs.declared.input.In.TheVariants as input
use Rattle.stripe_cleaner.specs.declared.output.Out.{Out}
use Rattle.stripe_cleaner.specs.declared.output.Out.TheVariants as out
use Rattle.stripe_cleaner.specs.declared.phase.Phase as job_phases
use Rattle.stripe_cleaner.specs.declared.phase.Phase.TheVariants.{Counting, Greeting}
use Rattle.stripe_cleaner.specs.Job.{Turn}
use Rattle.stripe_cleaner.specs.Promises.{is_above, none_promised, promised_with}
use Rattle.stripe_cleaner.specs.Transition as job
use Rattle.stripe_code.specs.declared.round.Told.{Told}
use Rattle.stripe_code.specs.declared.round.Told.TheVariants as told
use Rattle.version_model.specs.declared.answer.Answer.{Answer}
use Rattle.version_model.specs.declared.answer.Answer.TheVariants as answer
use Rattle.wire_msg.specs.declared.body.Body.{Body}
use Rattle.wire_msg.specs.declared.body.Body.TheVariants as body
use Rattle.wire_msg.specs.declared.cleaning.Dead.{Dead}
use Rattle.wire_msg.specs.declared.cleaning.Live.{Live}
use Rattle.wire_msg.specs.declared.cleaning.Usage.{Usage}
use Rattle.wire_msg.specs.declared.deltas.DeltaAck.{DeltaAck}
use Rattle.wire_msg.specs.declared.deltas.Poll.{Poll}
use Rattle.wire_msg.specs.declared.packet.Do.{Do}
use Rattle.wire_msg.specs.declared.packet.Do.TheVariants.{Begin, Deliver, Tick}
use Rattle.wire_msg.specs.declared.packet.Packet.{Packet}
use Rattle.wire_msg.specs.declared.registry.News.{News}
use Rattle.wire_msg.specs.declared.registry.Welcome.{Welcome}
use Rattle.wire_msg.specs.declared.storage.Deleted.{Deleted}
use Rattle.wire_msg.specs.declared.storage.Listed.{Listed}
use Rattle.xfs_base.proofs.Booleans.{by_test}
use Rattle.xfs_base.proofs.Members.{contains_first, contains_rest}
use Rattle.xfs_base.specs.declared.news.SlotNews.{SlotNews}
use Rattle.xfs_base.specs.declared.node.NodeId.{NodeId}
use Rattle.xfs_base.specs.declared.node.NodeId.TheVariants as node
use Rattle.xfs_base.specs.Steps.{saying, steps, still}
use Rattle.node_moves.specs.cleaner_moves.Moves.{CleanerEventsAreMoves, Due, Given, IsTaken, Move, Moves, Noted, OpenedBy, Tells, begun_job, came_to, items_in, left_reading, loss_in, noted}
use Rattle.node_moves.specs.cleaner_moves.Moves.Due.{LossDue, OtherDue}
use Rattle.node_moves.specs.cleaner_moves.Moves.Given.{DeadCame, DeletedCame, ListCame, LiveCame, MapsCame, SegmentLost, SegmentRead, SlotPromised, TimePassed, UsageCame, WelcomeCame}
use Rattle.node_moves.specs.cleaner_moves.Moves.Move.{Acknowledges, AnswersItem, AsksForMaps, BeginsJob, Cleans, Falls, Fetches, HearsServer, IsGreeted, LeavesReading, LogTakes, NotesItems, Opens, Promises, ReadsOn, Reports, Restarts, TakesMaps, TellsDeltas}
use Rattle.node_moves.specs.cleaner_moves.Moves.Moves.{Last, Rests, Then}
use Rattle.node_moves.specs.cleaner_moves.Moves.Noted.{ItemAnswered, ItemBegun, ItemWaits}
use Rattle.node_moves.specs.cleaner_moves.Moves.OpenedBy.{PacketCame, TimeWent}
use Rattle.node_moves.specs.cleaner_moves.Moves.PromisedBy.{NewsCame, PollCame}
use Rattle.node_moves.specs.cleaner_moves.Moves.Tells.{AbsenceCame, FragmentCame}
use Rattle.node_moves.specs.cleaner_moves.Moves.Written.{AckCame, GroupsCame, LogTicks}
use Rattle.node_moves.specs.server_moves.Moves.{Brought, Came, news_in}

-- ---- maps and promises leave the log as it is

-- a manager is asked for counts
abbrev IsUsageAsk : Out → Type 0
IsUsageAsk (out.UsageAsk slot) = Unit {0}
IsUsageAsk _ = ⊥

usage_log : (e : Emptying) (o : Option Job) (slot : ℕ) → (ask_usage e o slot).state.log ≡ e.log
usage_log e None slot = refl
usage_log e (Some job) slot = refl

said_log : (e : Emptying) (outs : List Out) → AllByRecursion IsUsageAsk outs → (steps says e outs).state.log ≡ e.log
unfolding says
said_log e [] all = refl
said_log e (out.UsageAsk slot ∷ outs) all = said_log (ask_usage e e.job slot).state outs all.1 ∙ usage_log e e.job slot
said_log e (o ∷ outs) all = absurd all.0

forgetting_asks : (slot : ℕ) (p : job_phases.Phase) → AllByRecursion IsUsageAsk (job.forgetting slot p).outs
forgetting_asks slot (Counting c) =
    by_test (λ (t : Turn). AllByRecursion IsUsageAsk t.outs) (has_usage c.usages slot) _ (still (Counting c)) (λ _. (tt, tt)) (λ _. tt)
forgetting_asks slot p = tt

promise_asks : (s : CleaningState) (slot epoch : ℕ) → AllByRecursion IsUsageAsk (job.on_promise s slot epoch).outs
unfolding job.on_promise
promise_asks s slot epoch =
    by_test (λ (d : job.Done). AllByRecursion IsUsageAsk d.outs) (is_above s.promised slot epoch) _ (still s) (λ _. forgetting_asks slot s.phase) (λ _. tt)

promised_log : (e : Emptying) (o : Option Job) (slot epoch : ℕ)
    → (steps says (takes_in e o (input.Promise slot epoch)).state (takes_in e o (input.Promise slot epoch)).outs).state.log ≡ e.log
promised_log e None slot epoch = refl
promised_log e (Some j) slot epoch =
    let d : job.Done = job.on_promise j.cleaning slot epoch in
    said_log (record e { job = Some (record j { cleaning = d.state }) }) d.outs (promise_asks j.cleaning slot epoch)

pub promises_log : (e : Emptying) (slot epoch manager : ℕ) → (emptying_promise e slot epoch manager).log ≡ e.log
unfolding emptying_promise
promises_log e slot epoch manager =
    by_test (λ (r : Emptying). r.log ≡ e.log) (nat_lt (epoch_of e.promised slot) epoch) (record e { feed = new_epoch e.feed slot }) e (λ _. refl) (λ _. refl)

slot_log : (e : Emptying) (news : SlotNews) → (hear_slot e news).state.log ≡ e.log
unfolding hear_slot emptying_clean emptying_take
slot_log e news =
    let kept : Emptying = emptying_promise e news.slot news.epoch news.manager in
    by_test (λ (d : Done). d.state.log ≡ e.log) (nat_lt (epoch_of e.promised news.slot) news.epoch) (emptying_clean kept (input.Promise news.slot news.epoch)) (still e)
    (λ _. promised_log kept kept.job news.slot news.epoch ∙ promises_log e news.slot news.epoch news.manager) (λ _. refl)

pub slots_log : (e : Emptying) (slots : List SlotNews) → (steps hear_slot e slots).state.log ≡ e.log
slots_log e [] = refl
slots_log e (news ∷ slots) = slots_log (hear_slot e news).state slots ∙ slot_log e news

mapped_log : (e : Emptying) (o : Option Job) (groups : GroupMapState)
    → (steps says (takes_in e o (input.Maps groups)).state (takes_in e o (input.Maps groups)).outs).state.log ≡ e.log
mapped_log e None groups = refl
mapped_log e (Some j) groups = refl

pub regrouped_log : (e : Emptying) (newer : Bool) (groups : GroupMapState) → (regroup_job e newer groups).state.log ≡ e.log
unfolding emptying_clean emptying_take
regrouped_log e true groups = mapped_log e e.job groups
regrouped_log e false groups = refl

-- ---- a job that begins says nothing when it is told what slots are promised to

abbrev with_told : Emptying → ℕ → List ℕ → Emptying
with_told e count known = record e { job = Some (record (job_start count) { cleaning = record (cleaning_start count) { promised = known } }) }

-- one slot is told, or not, as it is above what was promised
told_if : (e : Emptying) (count : ℕ) (known later : List ℕ) (slot : ℕ) (above : Bool)
    → (let d : job.Done = cond above (job.turned (record (cleaning_start count) { promised = cond above later known }) (job.forgetting slot Greeting))
    (still (record (cleaning_start count) { promised = known })) in
    steps says (record e { job = Some (record (job_start count) { cleaning = d.state }) }) d.outs)
    ≡ still (with_told e count (cond above later known))
told_if e count known later slot true = refl
told_if e count known later slot false = refl

one_told : (e : Emptying) (count : ℕ) (known : List ℕ) (slot : ℕ)
    → promise_slot (with_told e count known) slot ≡ still (with_told e count (promised_with known slot (epoch_of e.promised slot)))
unfolding promise_slot emptying_clean emptying_take job.on_promise
one_told e count known slot =
    told_if e count known (slice_set known slot (epoch_of e.promised slot)) slot (is_above known slot (epoch_of e.promised slot))

each_told : (e : Emptying) (count : ℕ) (known slots : List ℕ)
    → steps promise_slot (with_told e count known) slots
    ≡ still (with_told e count (fold (λ known slot. promised_with known slot (epoch_of e.promised slot)) known slots))
each_told e count known [] = refl
each_told e count known (slot ∷ slots) =
    ap (λ (d : Done). saying d.outs (steps promise_slot d.state slots)) (one_told e count known slot)
    ∙ each_told e count (promised_with known slot (epoch_of e.promised slot)) slots

begins_so : (e : Emptying) (number count : ℕ)
    → begin_job e number count
    ≡ emptying_clean
    (record e { lasting = record e.lasting { items = items_wait e.lasting.items number }; job = Some (begun_job e.promised count) }) input.Tick
unfolding begin_job promise_all
begins_so e number count =
    ap (λ (d : Done). saying d.outs (emptying_clean d.state input.Tick)) (each_told (with_new_job e number count) count none_promised (range_with_len 0 8))

less : (k n : ℕ) → nat_lt k n ≡ true → k ≤ n
less k n t = grind (arith, nat_tests)

module _ (first : Cleaner) (what : Do) (its : IsTaken first what) where
  abbrev Goes : Phase → Went_to → Type 0
  Goes p d = Moves first what p d

  abbrev Serves : Emptying → Done → Type 0
  Serves e d = Goes (Serving e) (serves_on d)

  -- ---- one thing after another

  together : (p : Phase) (d e : Went_to) → Goes p d → Goes d.state e → Goes p (saying d.outs e)
  together p d e Rests rest = rest
  together p d e (Last move) rest = Then d e move rest
  together p d e (Then now later move more) rest =
      subst (λ outs. Goes p (record { state = e.state; outs = outs })) (sym (append_assoc now.outs later.outs e.outs))
      (Then now (saying later.outs e) move (together now.state later e more rest))

  in_turn : (e : Emptying) (a b : Done) → Serves e a → Serves a.state b → Serves e (saying a.outs b)
  in_turn e a b now more = together (Serving e) (serves_on a) (serves_on b) now more

  -- it becomes another, and then does more
  becomes : (e f : Emptying) (d : Done) → Move first what (Serving e) (serves_on (still f)) → Serves f d → Serves e d
  becomes e f d move rest = Then (serves_on (still f)) (serves_on d) move rest

  cleaned : (e : Emptying) (given : In) → Given first what e given → Serves e (emptying_clean e given)
  cleaned e given came = Last (Cleans given came)

  notes : (p : Phase) (items : Items) (d : Went_to) → Noted first what (items_in p) items → Goes (noted p items) d → Goes p d
  notes p items d for rest = Then (still (noted p items)) d (NotesItems items for) rest

  answers_open : (p : Phase) (item : Option ℕ) (a : Answer) (d : Went_to) → loss_in a ≡ None → Goes p d → Goes p (saying (answers_unanswered item a) d)
  answers_open p None a d plain rest = rest
  answers_open p (Some number) a d plain rest = Then (record { state = p; outs = Answers number a ∷ [] }) d (AnswersItem number a (OtherDue plain)) rest

  answers_last : (p : Phase) (item : Option ℕ) (a : Answer) → ((number : ℕ) → item ≡ Some number → Due first what number a)
      → Goes p (record { state = p; outs = answers_unanswered item a })
  answers_last p None a due = Rests
  answers_last p (Some number) a due = Last (AnswersItem number a (due number refl))

  -- ---- a fall

  crashed : (p : Phase) (number : ℕ) → Goes p (crash (lasting_of p) number)
  unfolding crash
  crashed p number =
      let l : Lasting = lasting_of p in
      let last : Went_to = record { state = Down (record l { items = items_answer l.items }); outs = Answers number answer.Done ∷ [] } in
      answers_open p l.items.unanswered answer.Cut last refl
      (Then (still (Down l)) last Falls
      (notes (Down l) (items_answer l.items) last ItemAnswered (Last (AnswersItem number answer.Done (OtherDue refl)))))

  -- ---- an opening

  module _ (l : Lasting) (o : openings.Opening) (w : Went) (same : first.phase ≡ Opening l o) (by : OpenedBy what l o w) where
    abbrev drawing : Lasting
    drawing = record l { questions = w.questions }

    ended : (p : Progress) → w.progress ≡ p → Goes (came_to drawing p) (after_opening drawing p)
    unfolding after_opening
    ended (progress.Opening x) fact = Rests
    ended (progress.Opened r) fact =
        let e : Emptying = emptying_back drawing r in
        let last : Phase = noted (Serving e) (items_answer e.lasting.items) in
        let said : Went_to = record { state = last; outs = answers_unanswered l.items.unanswered answer.Done } in
        Then (record { state = Serving e; outs = push_all e.promised.managers e.feed }) said TellsDeltas
        (notes (Serving e) (items_answer e.lasting.items) said ItemAnswered
        (answers_last last l.items.unanswered answer.Done (λ number waits. OtherDue refl)))
    ended (progress.Lost seg) fact =
        let last : Phase = noted (Down drawing) (items_answer l.items) in
        notes (Down drawing) (items_answer l.items) (record { state = last; outs = answers_unanswered l.items.unanswered (answer.Lost seg) }) ItemAnswered
        (answers_last last l.items.unanswered (answer.Lost seg) (λ number waits. LossDue l o w number seg same by fact waits))

    opened : Goes (Opening l o) (opened_on l w)
    opened =
        Then (record { state = came_to drawing w.progress; outs = w.effects }) (after_opening drawing w.progress) (Opens w its same by)
        (ended w.progress refl)

  -- ---- the next item begins

  module _ (event : what ≡ Begin) where
    abbrev Follows : Option ℕ → Type 0
    Follows item = next_item (items_in first.phase) ≡ item

    job_begun : (e : Emptying) (number count : ℕ) → Follows (Some number) → Serves e (begin_job e number count)
    job_begun e number count following =
        let f : Emptying = record e { lasting = record e.lasting { items = items_wait e.lasting.items number } } in
        let g : Emptying = record f { job = Some (begun_job e.promised count) } in
        subst (Serves e) (sym (begins_so e number count))
        (notes (Serving e) (items_wait e.lasting.items number) (serves_on (emptying_clean g input.Tick)) (ItemWaits number event following)
        (becomes f g (emptying_clean g input.Tick) (BeginsJob count event) (cleaned g input.Tick TimePassed)))

    cleaning_wished : (e : Emptying) (number count : ℕ) → Follows (Some number) → Serves e (on_clean e number count)
    unfolding on_clean
    cleaning_wished e number count following =
        by_test (Serves e) (is_some e.lasting.items.unanswered) (record { state = e; outs = Answers number answer.Busy ∷ [] }) (begin_job e number count)
        (λ _. Last (AnswersItem number answer.Busy (OtherDue refl))) (λ _. job_begun e number count following)

    down_wish : (l : Lasting) (number : ℕ) (wish : Wish) → Follows (Some number) → Goes (Down l) (down_wishes first.peers.servers l number wish)
    down_wish l number Restart following = Last (Restarts number its event following)
    down_wish l number Crash following = Last (AnswersItem number answer.Down (OtherDue refl))
    down_wish l number (Clean count) following = Last (AnswersItem number answer.Down (OtherDue refl))

    opening_wish : (l : Lasting) (o : openings.Opening) (number : ℕ) (wish : Wish) → Goes (Opening l o) (opening_wishes l o number wish)
    opening_wish l o number Crash = crashed (Opening l o) number
    opening_wish l o number Restart = Last (AnswersItem number answer.Up (OtherDue refl))
    opening_wish l o number (Clean count) = Last (AnswersItem number answer.Down (OtherDue refl))

    serving_wish : (e : Emptying) (number : ℕ) (wish : Wish) → Follows (Some number) → Goes (Serving e) (serving_wishes e number wish)
    serving_wish e number Crash following = crashed (Serving e) number
    serving_wish e number Restart following = Last (AnswersItem number answer.Up (OtherDue refl))
    serving_wish e number (Clean count) following = cleaning_wished e number count following

    down_item : (l : Lasting) (item : Option ℕ) → Follows item → Goes (Down l) (down_at first.peers.servers l item)
    down_item l None following = Rests
    down_item l (Some number) following = down_wish l number (wish_at l.items number) following

    opening_item : (l : Lasting) (o : openings.Opening) (item : Option ℕ) → Goes (Opening l o) (opening_at l o item)
    opening_item l o None = Rests
    opening_item l o (Some number) = opening_wish l o number (wish_at l.items number)

    serving_item : (e : Emptying) (item : Option ℕ) → Follows item → Goes (Serving e) (serving_at e item)
    serving_item e None following = Rests
    serving_item e (Some number) following = serving_wish e number (wish_at e.lasting.items number) following

    begun_items : (p : Phase) → first.phase ≡ p → Noted first what (items_in p) (items_begin (items_in p))
    begun_items p same = subst (λ q. Noted first what (items_in q) (items_begin (items_in q))) same (ItemBegun event)

    following_in : (p : Phase) → first.phase ≡ p → Follows (next_item (items_in p))
    following_in p same = ap (λ q. next_item (items_in q)) same

    item_begun : (p : Phase) → first.phase ≡ p → Goes p (on_begin first.peers.servers p)
    unfolding on_begin
    item_begun (Down l) same =
        notes (Down l) (items_begin l.items) (down_at first.peers.servers (begun_life l) (next_item l.items)) (begun_items (Down l) same)
        (down_item (begun_life l) (next_item l.items) (following_in (Down l) same))
    item_begun (Opening l o) same =
        notes (Opening l o) (items_begin l.items) (opening_at (begun_life l) o (next_item l.items)) (begun_items (Opening l o) same)
        (opening_item (begun_life l) o (next_item l.items))
    item_begun (Serving e) same =
        let f : Emptying = record e { lasting = begun_life e.lasting } in
        notes (Serving e) (items_begin e.lasting.items) (serving_at f (next_item e.lasting.items)) (begun_items (Serving e) same)
        (serving_item f (next_item e.lasting.items) (following_in (Serving e) same))

  -- ---- the reading of the segment in hand

  read_over : (e : Emptying) (read : Option Segment) → Given first what (left_reading e) (input.Read read) → Serves e (end_reading e read)
  unfolding end_reading
  read_over e read came = becomes e (left_reading e) (emptying_clean (left_reading e) (input.Read read)) LeavesReading (cleaned (left_reading e) (input.Read read) came)

  confirmed_then : (e : Emptying) (x : Next) → Serves e (after_confirmed e x)
  confirmed_then e next.Ask = Last Fetches
  confirmed_then e next.Lost = read_over e None SegmentLost
  confirmed_then e _ = Rests

  read_again : (e : Emptying) → Serves e (emptying_read_again e)
  unfolding emptying_read_again
  read_again e =
      let h : Heard Emptying = confirmed (with_questions e (draw e.lasting.questions)) (next_ask e.lasting.questions) in
      becomes e h.state (after_confirmed h.state h.next) ReadsOn (confirmed_then h.state h.next)

  -- ---- packets, of one that serves

  module _ (e : Emptying) (same : first.phase ≡ Serving e) (packet : Packet) (event : what ≡ Deliver packet) where
    came : (said : Body) → packet.body ≡ said → Came what packet said
    came said says = record { event = event; says = says }

    told_then : (ask server : ℕ) (t : Told) → Tells first what e ask server t → (x : Next) → (emptying_hear e ask server t).next ≡ x
        → Serves (emptying_hear e ask server t).state (after_told (emptying_hear e ask server t).state x)
    told_then ask server t tells next.Wait fact = Rests
    told_then ask server t tells next.Ask fact = Rests
    told_then ask server t tells next.Again fact = read_again (emptying_hear e ask server t).state
    told_then ask server t tells (next.Read segment) fact =
        read_over (emptying_hear e ask server t).state (Some segment) (SegmentRead ask server t segment tells fact)
    told_then ask server t tells next.Lost fact = read_over (emptying_hear e ask server t).state None SegmentLost

    told_came : (server : Option ℕ) (ask : ℕ) (t : Told) → ((v : ℕ) → server ≡ Some v → Tells first what e ask v t) → Serves e (on_told e server ask t)
    unfolding on_told
    told_came None ask t tells = Rests
    told_came (Some server) ask t tells =
        let h : Heard Emptying = emptying_hear e ask server t in
        becomes e h.state (after_told h.state h.next) (HearsServer ask server t (tells server refl)) (told_then ask server t (tells server refl) h.next refl)

    list_came : (server : Option ℕ) (m : Listed) → server_in packet.from ≡ server → packet.body ≡ body.Listed m → Serves e (on_listed e server m)
    unfolding on_listed
    list_came None m from says = Rests
    list_came (Some server) m from says =
        by_test (Serves e) (is_out (lists_of e.job) m.ask) (emptying_clean e (input.Listed server m.held)) (still e)
        (λ _. cleaned e (input.Listed server m.held) (ListCame packet server m same (came (body.Listed m) says) from)) (λ _. Rests)

    usage_came : (m : Usage) → packet.body ≡ body.Usage m → Serves e (on_usage e m)
    unfolding on_usage
    usage_came m says =
        by_test (Serves e) (is_out (usages_of e.job) m.ask) (emptying_clean e (input.Usage m.slot m.epoch m.counts)) (still e)
        (λ _. cleaned e (input.Usage m.slot m.epoch m.counts) (UsageCame packet m same (came (body.Usage m) says))) (λ _. Rests)

    live_came : (m : Live) → packet.body ≡ body.Live m → Serves e (on_live e m)
    unfolding on_live
    live_came m says =
        by_test (Serves e) (is_out (check_of (hand_of e.job) m.block) m.ask) (emptying_clean e (input.Live m.block m.epoch m.entry)) (still e)
        (λ asked. cleaned e (input.Live m.block m.epoch m.entry) (LiveCame packet m same (came (body.Live m) says) asked)) (λ _. Rests)

    dead_came : (m : Dead) → packet.body ≡ body.Dead m → Serves e (on_dead e m)
    unfolding on_dead
    dead_came m says =
        by_test (Serves e) (is_out (check_of (hand_of e.job) m.block) m.ask) (emptying_clean e (input.Dead m.block m.epoch)) (still e)
        (λ asked. cleaned e (input.Dead m.block m.epoch) (DeadCame packet m same (came (body.Dead m) says) asked)) (λ _. Rests)

    deleted_came : (server : Option ℕ) (m : Deleted) → server_in packet.from ≡ server → packet.body ≡ body.Deleted m → Serves e (on_deleted e server m)
    unfolding on_deleted
    deleted_came None m from says = Rests
    deleted_came (Some server) m from says =
        cleaned e (input.Deleted server m.name) (DeletedCame packet server m same (came (body.Deleted m) says) from)

    ack_came : (m : DeltaAck) → packet.body ≡ body.DeltaAck m → Serves e (on_ack e m)
    unfolding on_ack
    ack_came m says =
        by_test (Serves e) (epoch_of e.promised m.slot == m.epoch) (still (record e { feed = acknowledged e.feed m.slot m.applied })) (still e)
        (λ _. Last (Acknowledges packet m (came (body.DeltaAck m) says))) (λ _. Rests)

    -- ---- promises

    reported : (manager : ℕ) (m : Poll) → packet.from ≡ node.Manager manager → packet.body ≡ body.Poll m → epoch_of e.promised m.slot ≤ m.epoch
        → Serves e (emptying_report e manager m)
    reported manager m from says low =
        let kept : Emptying = emptying_promise e m.slot m.epoch manager in
        let said : Went_to = record {
          state = Serving kept;
          outs = Send (node.Manager manager) (body.Report (record { slot = m.slot; epoch = m.epoch; held = []; end = kept.log.end })) ∷ [];
        } in
        becomes e kept (emptying_report e manager m) (Promises m.slot m.epoch manager (PollCame packet manager m (came (body.Poll m) says) from) low)
        (Then said (serves_on (emptying_clean kept (input.Promise m.slot m.epoch))) (Reports packet manager m same (came (body.Poll m) says) from low)
        (cleaned kept (input.Promise m.slot m.epoch) (SlotPromised m.slot m.epoch)))

    poll_came : (from : NodeId) (m : Poll) → packet.from ≡ from → packet.body ≡ body.Poll m → Serves e (on_poll e from m)
    unfolding on_poll
    poll_came (node.Manager manager) m from says =
        by_test (Serves e) (nat_lt m.epoch (epoch_of e.promised m.slot)) (still e) (emptying_report e manager m) (λ _. Rests)
        (λ t. reported manager m from says (ltb-false m.epoch (epoch_of e.promised m.slot) t))
    poll_came (node.Client n) m from says = Rests
    poll_came (node.Server n) m from says = Rests
    poll_came node.Cleaner m from says = Rests
    poll_came node.Registry m from says = Rests

    -- ---- the maps

    module _ (news : News) (brought : Brought what packet news) where
      slot_heard : (f : Emptying) (s : SlotNews) → Contains news.slots s → Serves f (hear_slot f s)
      unfolding hear_slot
      slot_heard f s among =
          let kept : Emptying = emptying_promise f s.slot s.epoch s.manager in
          by_test (Serves f) (nat_lt (epoch_of f.promised s.slot) s.epoch) (emptying_clean kept (input.Promise s.slot s.epoch)) (still f)
          (λ t. becomes f kept (emptying_clean kept (input.Promise s.slot s.epoch))
          (Promises s.slot s.epoch s.manager (NewsCame packet news s brought among) (less (epoch_of f.promised s.slot) s.epoch t))
          (cleaned kept (input.Promise s.slot s.epoch) (SlotPromised s.slot s.epoch)))
          (λ _. Rests)

      slots_heard : (f : Emptying) (slots : List SlotNews) → ((s : SlotNews) → Contains slots s → Contains news.slots s) → Serves f (steps hear_slot f slots)
      slots_heard f [] among = Rests
      slots_heard f (s ∷ slots) among =
          in_turn f (hear_slot f s) (steps hear_slot (hear_slot f s).state slots) (slot_heard f s (among s (contains_first s slots)))
          (slots_heard (hear_slot f s).state slots (λ x more. among x (contains_rest s x slots more)))

      groups_heard : (f : Emptying) (newer : Bool) → Serves f (regroup_job f newer news.groups)
      groups_heard f true = cleaned f (input.Maps news.groups) (MapsCame packet news brought)
      groups_heard f false = Rests

      log_heard : (f : Emptying) (newer : Bool) → f.log ≡ e.log → Serves f (regroup_log f newer news.groups)
      log_heard f true as_was = Last (LogTakes (log_in.Maps news.groups) (GroupsCame e packet news same as_was brought))
      log_heard f false as_was = Rests

      news_taken : Serves e (take_news e news)
      unfolding take_news hear_slots
      news_taken =
          let newer : Bool = is_older e.maps news in
          let t : Emptying = record e { maps = maps_take e.maps news } in
          let a : Done = regroup_job t newer news.groups in
          let b : Done = steps hear_slot a.state news.slots in
          let c : Done = regroup_log b.state newer news.groups in
          becomes e t (saying a.outs (saying b.outs c)) (TakesMaps packet news brought)
          (in_turn t a (saying b.outs c) (groups_heard t newer)
          (in_turn a.state b c (slots_heard a.state news.slots (λ s among. among))
          (log_heard b.state newer (slots_log a.state news.slots ∙ regrouped_log t newer news.groups))))

    news_heard : (m : News) → packet.body ≡ body.MapNews m → Serves e (on_news e m)
    news_heard m says =
        by_test (Serves e) (fits e.maps m) (take_news e m) (still e) (λ _. news_taken m (record { event = event; brings = ap news_in says })) (λ _. Rests)

    welcomed_over : (f : Emptying) (m : Welcome) (groups : Option GroupMapState) → packet.body ≡ body.Welcome m → f.maps.groups ≡ groups
        → Serves f (welcome_over f m.news.slots groups)
    welcomed_over f m None says fact = Rests
    welcomed_over f m (Some groups) says fact =
        cleaned f (input.Welcome m.news.slots groups) (WelcomeCame packet m groups (came (body.Welcome m) says) fact)

    welcomed : (f : Emptying) (m : Welcome) → packet.body ≡ body.Welcome m → Serves f (emptying_welcome f m)
    unfolding emptying_welcome
    welcomed f m says =
        let t : Emptying = record f { job = note_greeted f.job } in
        by_test (Serves f) (is_out (hello_of f.job) m.ask) (welcome_over t m.news.slots f.maps.groups) (still f)
        (λ _. becomes f t (welcome_over t m.news.slots f.maps.groups) IsGreeted (welcomed_over t m f.maps.groups says refl)) (λ _. Rests)

    welcome_heard : (m : Welcome) → packet.body ≡ body.Welcome m → Serves e (on_welcome e m)
    unfolding on_welcome
    welcome_heard m says =
        let d : Done = take_news e m.news in
        by_test (Serves e) ((m.inc == e.lasting.inc) && fits e.maps m.news) (saying d.outs (emptying_welcome d.state m)) (still e)
        (λ _. in_turn e d (emptying_welcome d.state m) (news_taken m.news (record { event = event; brings = ap news_in says })) (welcomed d.state m says)) (λ _. Rests)

    -- ---- all packets

    body_heard : (said : Body) → packet.body ≡ said → Serves e (on_body e packet.from said)
    body_heard (body.MapNews m) says = news_heard m says
    body_heard (body.Welcome m) says = welcome_heard m says
    body_heard (body.Poll m) says = poll_came packet.from m refl says
    body_heard (body.DeltaAck m) says = ack_came m says
    body_heard (body.Stored m) says =
        Last (LogTakes (log_in.Acked m.name m.index m.generation) (AckCame packet m same (came (body.Stored m) says)))
    body_heard (body.Listed m) says = list_came (server_in packet.from) m refl says
    body_heard (body.Usage m) says = usage_came m says
    body_heard (body.Fragment m) says =
        told_came (server_in packet.from) m.ask (told.Held m.fragment) (λ v from. FragmentCame packet v m same (came (body.Fragment m) says) from)
    body_heard (body.Missing m) says =
        told_came (server_in packet.from) m.ask (told.Missing m.generation) (λ v from. AbsenceCame packet v m same (came (body.Missing m) says) from)
    body_heard (body.Live m) says = live_came m says
    body_heard (body.Dead m) says = dead_came m says
    body_heard (body.Deleted m) says = deleted_came (server_in packet.from) m refl says
    body_heard _ says = Rests

    packet_heard : Serves e (on_packet e packet)
    unfolding on_packet
    packet_heard =
        by_test (Serves e) (names_known_groups e.maps packet.body) (on_body e packet.from packet.body) (ask_for_maps e) (λ _. body_heard packet.body refl)
        (λ _. Last (AsksForMaps its same))

  heard : (p : Phase) (packet : Packet) → first.phase ≡ p → what ≡ Deliver packet → Goes p (cleaner_hear p packet)
  unfolding cleaner_hear
  heard (Down l) packet same event = Rests
  heard (Opening l o) packet same event = opened l o (opening.opening_take o l.questions packet) same (PacketCame packet event)
  heard (Serving e) packet same event = packet_heard e same packet event

  -- ---- time

  time_passes : (e : Emptying) → Serves e (on_tick e)
  unfolding on_tick
  time_passes e =
      let j : Done = emptying_clean e input.Tick in
      let l : Done = emptying_write j.state log_in.Tick in
      let p : Done = record { state = l.state; outs = push_all l.state.promised.managers l.state.feed } in
      in_turn e j (saying l.outs p) (cleaned e input.Tick TimePassed)
      (in_turn j.state l p (Last (LogTakes log_in.Tick LogTicks)) (Last TellsDeltas))

  passed : (p : Phase) → first.phase ≡ p → what ≡ Tick → Goes p (on_time p)
  unfolding on_time
  passed (Down l) same event = Rests
  passed (Opening l o) same event = opened l o (opening.on_tick o l.questions) same (TimeWent event)
  passed (Serving e) same event = time_passes e

one_packet : (a b : Packet) → Deliver a ≡ Deliver b → a ≡ b
one_packet a b same = cc

happened : (first : Cleaner) (what : Do) → phase_has_room first.phase ≡ true → Moves first what first.phase (happens first.peers first.phase what)
unfolding on_deliver
happened first Begin room = item_begun first Begin (record { room = room; formed = λ q clash. absurd cc }) refl first.phase refl
happened first (Deliver packet) room =
    by_test (Moves first (Deliver packet) first.phase) (is_well_formed first.peers packet) (cleaner_hear first.phase packet) (still first.phase)
    (λ t. heard first (Deliver packet)
    (record { room = room; formed = λ q same. subst (λ (x : Packet). is_well_formed first.peers x ≡ true) (one_packet packet q same) t })
    first.phase packet refl refl) (λ _. Rests)
happened first Tick room = passed first Tick (record { room = room; formed = λ q clash. absurd cc }) first.phase refl refl

pub cleaner_events_are_moves : CleanerEventsAreMoves
cleaner_events_are_moves first what =
    by_test (Moves first what first.phase) (phase_has_room first.phase) (happens first.peers first.phase what) (still first.phase) (λ room. happened first what room)
    (λ _. Rests)
