-- What is asked of a fact of the cleaner so that each event keeps it, in a small world that goes on with it or in none; and that each event does then.
use Rattle.std.proofs.Common.{◌≡◌, ℕ, ◌≤◌, nat_lt, List, [], ◌∷◌, Option, Some, None, refl, sym, subst}
use Rattle.std.specs.List.{AllByRecursion}
use Rattle.cleaner_job.specs.declared.hand.Hand.{Hand}
use Rattle.cleaner_job.specs.declared.job.Job.{Job}
use Rattle.cleaner_job.specs.declared.lasting.Lasting.{Lasting}
use Rattle.cleaner_job.specs.Hands.{hand_check, fetches, hand_fetch, hand_confirmed, hand_hear, take_in_hand}
use Rattle.cleaner_job.specs.Jobs.{ask_of, drawn_unless, dropped, act_dropped, note_greeted, hand_checks_in, hand_confirmed_in, hand_hears_in, hand_moved, hand_of, is_whole, job_check, job_confirmed, job_hear, note_moved, note_read, read_over}
use Rattle.cleaner_job.specs.Starting.{cleaner_log}
use Rattle.cleaner_node.specs.CleanerEvents.{Went_to, lasting_of, next_life, restart, serves_on, takes}
use Rattle.cleaner_node.specs.declared.cleaner.Cleaner.{Cleaner}
use Rattle.cleaner_node.specs.declared.cleaner.Phase.{Phase}
use Rattle.cleaner_node.specs.declared.cleaner.Phase.TheVariants.{Down, Opening, Serving}
use Rattle.cleaner_serving.specs.declared.emptying.Emptying.{Emptying}
use Rattle.cleaner_serving.specs.EmptyingEvents.{fed, emptying_promise, emptying_settle, emptying_write, write_one}
use Rattle.cleaner_serving.specs.Jobs.{Done, ask_check, ask_list, ask_maps, ask_usage, check_sent, checked_in, emptying_check, emptying_clean, confirmed, confirmed_in, emptying_delete, emptying_finish, emptying_hold, holds_in, emptying_take, move_all, emptying_put, put_block, emptying_read, says, takes_in, emptying_hear, told_in, with_questions}
use Rattle.client_log.specs.declared.input.In.{In as LogIn}
use Rattle.client_log.specs.declared.input.In.TheVariants as log_in
use Rattle.client_log.specs.declared.output.Out.{Out as LogOut}
use Rattle.client_log.specs.declared.output.Out.TheVariants as log_out
use Rattle.client_log.specs.Transition as log
use Rattle.delta_feed.specs.Transition.{acknowledged, new_epoch, settled}
use Rattle.group_map.specs.declared.group.Member.{Member}
use Rattle.group_map.specs.GroupMapState.{GroupMapState}
use Rattle.log_owner.specs.declared.opening.Opening as openings
use Rattle.log_owner.specs.Opening.{Went, stored}
use Rattle.log_owner.specs.Promised.{epoch_of, manager_of, promise_to}
use Rattle.log_owner.specs.Sending.{fetch, hello, name_of, push_all, store}
use Rattle.node_base.specs.Asking.{draw, next_ask}
use Rattle.node_base.specs.Beginning.{items_answer, answers_unanswered, next_item}
use Rattle.node_base.specs.declared.effects.Effect.{Effect}
use Rattle.node_base.specs.declared.effects.Effect.TheVariants.{Answer as Answers, Does, Send}
use Rattle.node_base.specs.declared.items.Items.{Items}
use Rattle.node_base.specs.declared.questions.Questions.{Questions}
use Rattle.node_base.specs.Maps.{maps_take}
use Rattle.segment_reading.specs.Reading.{ReadingState, reading_unanswered}
use Rattle.stripe_cleaner.specs.declared.input.In.{In}
use Rattle.stripe_cleaner.specs.declared.input.In.TheVariants as input
use Rattle.stripe_cleaner.specs.declared.output.Out.{Out}
use Rattle.stripe_cleaner.specs.declared.output.Out.TheVariants as out
use Rattle.stripe_cleaner.specs.Transition.{transition}
use Rattle.stripe_code.specs.declared.round.Told.{Told}
use Rattle.version_model.specs.declared.act.Act.TheVariants.{Dropped, Filed}
use Rattle.version_model.specs.declared.answer.Answer.{Answer}
use Rattle.version_model.specs.declared.answer.Answer.TheVariants.{Count}
use Rattle.wire_msg.specs.declared.body.Body.TheVariants as body
use Rattle.wire_msg.specs.declared.deltas.Poll.{Poll}
use Rattle.wire_msg.specs.declared.packet.Do.{Do}
use Rattle.wire_msg.specs.declared.packet.Do.TheVariants.{Begin}
use Rattle.wire_msg.specs.declared.packet.Packet.{Packet}
use Rattle.wire_msg.specs.declared.registry.News.{News}
use Rattle.xfs_base.proofs.Alls.{all_append, all_each, all_flat_map, all_map, all_weaker}
use Rattle.xfs_base.proofs.Booleans.{by_test}
use Rattle.xfs_base.specs.Blocks.{slot_of}
use Rattle.xfs_base.specs.declared.block.BlockId.{BlockId}
use Rattle.xfs_base.specs.declared.entry.Entry.{Entry}
use Rattle.xfs_base.specs.declared.entry.Place.{Place}
use Rattle.xfs_base.specs.declared.fragment.Fragment.{Fragment}
use Rattle.xfs_base.specs.declared.node.NodeId.TheVariants.{Manager, Server}
use Rattle.xfs_base.specs.declared.segment.End.{End}
use Rattle.xfs_base.specs.declared.segment.SegName.{SegName}
use Rattle.xfs_base.specs.declared.segment.SegRef.{SegRef}
use Rattle.xfs_base.specs.Steps.{saying, steps, still}
use Rattle.node_moves.proofs.cleaner_moves.Events.{cleaner_events_are_moves}
use Rattle.node_moves.specs.cleaner_moves.Moves.{Due, Given, IsTaken, Move, Moves, Noted, OpenedBy, PromisedBy, Tells, Written, begun_job, came_to, items_in, left_reading, noted}
use Rattle.node_moves.specs.cleaner_moves.Moves.Given.{MovesSettled}
use Rattle.node_moves.specs.cleaner_moves.Moves.Move.{Acknowledges, AnswersItem, AsksForMaps, BeginsJob, Cleans, Falls, Fetches, HearsServer, IsGreeted, LeavesReading, LogTakes, NotesItems, Opens, Promises, ReadsOn, Reports, Restarts, TakesMaps, TellsDeltas}
use Rattle.node_moves.specs.cleaner_moves.Moves.Moves.{Last, Rests, Then}
use Rattle.node_moves.specs.server_moves.Moves.{Brought, Came}

-- ---- what becomes of one that serves, but for what its job and its log take

-- with this job
abbrev pub its : Emptying → Job → Emptying
its e job = record e { job = Some job }

-- with one more question drawn
abbrev drawing : Emptying → Emptying
drawing e = with_questions e (draw e.lasting.questions)

-- because of what a job has other questions out
pub data Asks (job : Job) (q : Questions) : Option ℕ → Option ℕ → Option ℕ → Questions → Type 0 where
  MapsAsked : Asks job q (Some (ask_of job.hello q)) job.lists job.usages (drawn_unless job.hello q)
  ListsAsked : Asks job q job.hello (Some (ask_of job.lists q)) job.usages (drawn_unless job.lists q)
  UsagesAsked : Asks job q job.hello job.lists (Some (ask_of job.usages q)) (drawn_unless job.usages q)
  MapsTold : Asks job q None job.lists job.usages q

-- because of what it has another segment in hand, or knows more of it; `O` is so of what its job says
pub data Rehands (first : Cleaner) (what : Do) (O : Out → Type 0) (groups : Option GroupMapState) : Option Hand → Questions → Option Hand → Questions → Type 0
  where
    TakenUp : {hand : Option Hand} {q : Questions} (seg : SegRef) → O (out.Fetch seg)
        → Rehands first what O groups hand q (take_in_hand groups q hand seg).hand (take_in_hand groups q hand seg).questions
    Checked : {hand : Hand} {q : Questions} (block : BlockId)
        → Rehands first what O groups (Some hand) q (Some (hand_check hand q block).hand) (hand_check hand q block).questions
    LetGo : {hand : Option Hand} {q : Questions} → Rehands first what O groups hand q (dropped hand) q
    ReadOver : {hand : Option Hand} {q : Questions} → Rehands first what O groups hand q (read_over hand) q
    MovedOver : {hand : Option Hand} {q : Questions} → Rehands first what O groups hand q (hand_moved hand) q
    Heard : {hand : Hand} {q : Questions} (before : Emptying) (known : GroupMapState) (ask server : ℕ) (t : Told) → Tells first what before ask server t
        → groups ≡ Some known → Rehands first what O groups (Some hand) q (Some (hand_hear hand known ask server t).state) q
    Confirmed : {hand : Hand} {q : Questions} → Rehands first what O groups (Some hand) q (Some (hand_confirmed hand q.last).state) q

pub data Changes (first : Cleaner) (what : Do) (O : Out → Type 0) : Emptying → Emptying → Type 0 where
  QuestionDrawn : {e : Emptying} → Changes first what O e (with_questions e (draw e.lasting.questions))
  MapsTaken : {e : Emptying} (packet : Packet) (news : News) → Brought what packet news → Changes first what O e (record e { maps = maps_take e.maps news })
  FeedRenewed : {e : Emptying} (slot : ℕ) → Changes first what O e (record e { feed = new_epoch e.feed slot })
  AckTaken : {e : Emptying} (slot applied : ℕ) → Changes first what O e (record e { feed = acknowledged e.feed slot applied })
  SlotKept : {e : Emptying} (slot epoch manager : ℕ) → PromisedBy what slot epoch manager → epoch_of e.promised slot ≤ epoch
      → Changes first what O e (record e { promised = promise_to e.promised slot epoch manager })
  JobBegun : {e : Emptying} (count : ℕ) → Changes first what O e (record e { job = Some (begun_job e.promised count) })
  JobEnded : {e : Emptying} → Changes first what O e (record e { lasting = record e.lasting { items = items_answer e.lasting.items }; job = None })
  JobAsked : (e : Emptying) (job : Job) (hello lists usages : Option ℕ) (q : Questions) → Asks job e.lasting.questions hello lists usages q
      → Changes first what O (its e job) (its (with_questions e q) (record job { hello = hello; lists = lists; usages = usages }))
  HandChanged : (e : Emptying) (job : Job) (hand : Option Hand) (q : Questions)
      → Rehands first what O e.maps.groups job.hand e.lasting.questions hand q
      → Changes first what O (its e job) (its (with_questions e q) (record job { hand = hand }))

-- what one that serves gives then, but for its log
pub data Gives (first : Cleaner) (what : Do) (O : Out → Type 0) : Emptying → Effect → Type 0 where
  HelloSaid : {e : Emptying} (ask : ℕ) → Gives first what O e (hello e.lasting.inc ask)
  ListAsked : {e : Emptying} (server ask : ℕ) → Gives first what O e (Send (Server server) (body.List (record { ask = ask })))
  UsageAsked : {e : Emptying} (slot ask : ℕ)
      → Gives first what O e (Send (manager_of e.promised.managers slot) (body.UsageAsk (record { slot = slot; ask = ask })))
  FragmentAsked : {e : Emptying} (hand : Hand) (r : ReadingState) (server : ℕ) → hand_of e.job ≡ Some hand → hand.reading ≡ Some r
      → Gives first what O e (fetch hand.seg.name r.ask server)
  CheckAsked : {e : Emptying} (block : BlockId) (place : Place) (ask : ℕ) → O (out.Check block place)
      → Gives first what O e
      (Send (manager_of e.promised.managers (slot_of block.ino.0)) (body.Check (record { block = block; place = place; ask = ask })))
  DeleteSaid : {e : Emptying} (server : ℕ) (name : SegName) → O (out.Delete server name)
      → Gives first what O e (Send (Server server) (body.Delete (record { name = name })))
  SegmentDropped : {e : Emptying} (server : ℕ) (name : SegName) → O (out.Delete server name) → Gives first what O e (Does (Dropped name))
  JobAnswered : {e : Emptying} (number count : ℕ) → Gives first what O e (Answers number (Count count))
  EndReported : {before : Emptying} (packet : Packet) (manager : ℕ) (m : Poll) → first.phase ≡ Serving before → Came what packet (body.Poll m)
      → packet.from ≡ Manager manager → epoch_of before.promised m.slot ≤ m.epoch
      → Gives first what O (emptying_promise before m.slot m.epoch manager)
      (Send (Manager manager)
      (body.Report (record { slot = m.slot; epoch = m.epoch; held = []; end = (emptying_promise before m.slot m.epoch manager).log.end })))

-- what is put into the log for a job
pub data Put (O : Out → Type 0) : LogIn → Type 0 where
  BlockPut : (block : BlockId) (entry : Entry) (value : Option (List ℕ)) → O (out.Move ((block, entry, value) ∷ [])) → Put O (log_in.Put block entry value)
  AllPut : Put O log_in.Seal

-- ---- how one thing follows another

-- A fact `P` of the cleaner in a world, of a kind of worlds of which one comes later than another; `Q` is so there of an effect that says nothing new, and
-- `Goes` of what goes on from there so that the fact holds then.
pub record Follows (W : Type 0) (Later : W → W → Type 0) (P : W → Phase → Type 0) (Q : W → Effect → Type 0) (Goes : W → Went_to → Type 0) : Type 0 where
  pub now : (w : W) → Later w w
  pub on : (u v w : W) → Later u v → Later v w → Later u w
  pub says : (w : W) (p : Phase) (outs : List Effect) → P w p → AllByRecursion (Q w) outs → Goes w (record { state = p; outs = outs })
  pub goes_on : (w : W) (d e : Went_to) → Goes w d → ((v : W) → Later w v → P v d.state → Goes v e) → Goes w (saying d.outs e)

-- ---- what is asked

module _ (first : Cleaner) (what : Do) (W : Type 0) (Later : W → W → Type 0) (P : W → Phase → Type 0) (Q : W → Effect → Type 0) (Goes : W → Went_to → Type 0)
    (start : W) where
  -- of a job, where `O` is so of what it says
  pub record JobKeeps (O : W → Out → Type 0) : Type 0 where
    pub due : (u v : W) → Later u v → (o : Out) → O u o → O v o
    pub apart : (w : W) (one : BlockId × Entry × Option (List ℕ)) (blocks : List (BlockId × Entry × Option (List ℕ))) → O w (out.Move (one ∷ blocks))
        → O w (out.Move (one ∷ [])) × O w (out.Move blocks)
    pub changes : (w : W) (e f : Emptying) → Changes first what (O w) e f → P w (Serving e) → Goes w (serves_on (still f))
    pub gives : (w : W) (e : Emptying) (effect : Effect) → Gives first what (O w) e effect → P w (Serving e) → Q w effect
    pub takes : (w : W) (e : Emptying) (job : Job) (given : In) → Later start w → Given first what (its e job) given → P w (Serving (its e job)) → (d : Went_to)
        → ((v : W) → Later w v → P v (Serving (its e (record job { cleaning = (transition job.cleaning given).state })))
        → AllByRecursion (O v) (transition job.cleaning given).outs → Goes v d) → Goes w d
    pub puts : (w : W) (e : Emptying) (i : LogIn) → Put (O w) i → P w (Serving e) → Goes w (serves_on (emptying_put e i))

  -- of the log, where `L` is so of what it says
  pub record LogKeeps (L : W → LogOut → Type 0) : Type 0 where
    pub due : (u v : W) → Later u v → (o : LogOut) → L u o → L v o
    pub takes : (w : W) (e : Emptying) (i : LogIn) → Later start w → Written first what e i → P w (Serving e) → (d : Went_to)
        → ((v : W) → Later w v → P v (Serving (record e { log = (log.transition e.log i).state })) → AllByRecursion (L v) (log.transition e.log i).outs
        → Goes v d) → Goes w d
    pub sends : (w : W) (e : Emptying) (f : Fragment) (m : Member) → L w (log_out.Send f m) → P w (Serving e) → Q w (store f m)
    pub files : (w : W) (e : Emptying) (end : End) (rows : List (BlockId × Entry)) → L w (log_out.Settled end rows) → P w (Serving e)
        → Goes w
        (record {
          state = Serving (fed e end rows);
          outs = Does (Filed (name_of cleaner_log end)) ∷ push_all e.promised.managers (fed e end rows).feed;
        })

  -- of any event
  pub record Keeps : Type 0 where
    pub items : (w : W) (p : Phase) (items : Items) → Noted first what (items_in p) items → P w p → P w (noted p items)
    pub answers : (w : W) (number : ℕ) (a : Answer) → Due first what number a → Q w (Answers number a)
    pub falls : (w : W) (p : Phase) → P w p → Goes w (still (Down (lasting_of p)))
    pub restarts : (w : W) (l : Lasting) (number : ℕ) → IsTaken first what → what ≡ Begin → next_item (items_in first.phase) ≡ Some number → P w (Down l)
        → Goes w (restart first.peers.servers l number)
    pub opens : (w : W) (l : Lasting) (o : openings.Opening) (x : Went) → Later start w → IsTaken first what → first.phase ≡ Opening l o
        → OpenedBy what l o x
        → P w (Opening l o) → Goes w (record { state = came_to (record l { questions = x.questions }) x.progress; outs = x.effects })
    pub writes : (w : W) (e : Emptying) (i : LogIn) → Later start w → Written first what e i → P w (Serving e) → Goes w (serves_on (emptying_write e i))
    pub pushes : (w : W) (e : Emptying) → P w (Serving e) → AllByRecursion (Q w) (push_all e.promised.managers e.feed)

  -- ---- what goes on so

  module _ (O : W → Out → Type 0) (follows : Follows W Later P Q Goes) (keeps : JobKeeps O) where
    abbrev At : W → Emptying → Type 0
    At w e = P w (Serving e)

    abbrev GoesOn : W → Done → Type 0
    GoesOn w d = Goes w (serves_on d)

    abbrev Plain : W → List Effect → Type 0
    Plain w outs = AllByRecursion (Q w) outs

    abbrev Stays : W → Emptying → Type 0
    Stays w e = GoesOn w (still e)

    stays : (w : W) (e : Emptying) → At w e → Stays w e
    stays w e h = follows.says w (Serving e) [] h tt

    at_once : (w : W) (e : Emptying) (outs : List Effect) → At w e → Plain w outs → GoesOn w (record { state = e; outs = outs })
    at_once w e outs h plain = follows.says w (Serving e) outs h plain

    and_then : (w : W) (d e : Done) → GoesOn w d → ((v : W) → Later w v → At v d.state → GoesOn v e) → GoesOn w (saying d.outs e)
    and_then w d e h next = follows.goes_on w (serves_on d) (serves_on e) h next

    known : (w : W) (e : Emptying) (job : Option Job) → e.job ≡ job → At w e → At w (record e { job = job })
    known w e job same h = subst (λ o. At w (record e { job = o })) same h

    -- it becomes another, which says this
    turns : (w : W) (e f : Emptying) (outs : List Effect) → Changes first what (O w) e f → At w e → ((v : W) → Later w v → At v f → Plain v outs)
        → GoesOn w (record { state = f; outs = outs })
    turns w e f outs change h plain =
        and_then w (still f) (record { state = f; outs = outs }) (keeps.changes w e f change h) (λ v later k. at_once v f outs k (plain v later k))

    -- ---- what the job asks

    maps_asked : (w : W) (e : Emptying) (job : Option Job) → e.job ≡ job → At w e → GoesOn w (ask_maps e job)
    maps_asked w e None same h = stays w e h
    maps_asked w e (Some job) same h =
        let q : Questions = e.lasting.questions in
        turns w (its e job) (ask_maps e (Some job)).state (ask_maps e (Some job)).outs
        (JobAsked e job (Some (ask_of job.hello q)) job.lists job.usages (drawn_unless job.hello q) MapsAsked) (known w e (Some job) same h)
        (λ v later k. (keeps.gives v (ask_maps e (Some job)).state _ (HelloSaid (ask_of job.hello q)) k, tt))

    list_asked : (w : W) (e : Emptying) (job : Option Job) (server : ℕ) → e.job ≡ job → At w e → GoesOn w (ask_list e job server)
    list_asked w e None server same h = stays w e h
    list_asked w e (Some job) server same h =
        let q : Questions = e.lasting.questions in
        turns w (its e job) (ask_list e (Some job) server).state (ask_list e (Some job) server).outs
        (JobAsked e job job.hello (Some (ask_of job.lists q)) job.usages (drawn_unless job.lists q) ListsAsked) (known w e (Some job) same h)
        (λ v later k. (keeps.gives v (ask_list e (Some job) server).state _ (ListAsked server (ask_of job.lists q)) k, tt))

    usage_asked : (w : W) (e : Emptying) (job : Option Job) (slot : ℕ) → e.job ≡ job → At w e → GoesOn w (ask_usage e job slot)
    usage_asked w e None slot same h = stays w e h
    usage_asked w e (Some job) slot same h =
        let q : Questions = e.lasting.questions in
        turns w (its e job) (ask_usage e (Some job) slot).state (ask_usage e (Some job) slot).outs
        (JobAsked e job job.hello job.lists (Some (ask_of job.usages q)) (drawn_unless job.usages q) UsagesAsked) (known w e (Some job) same h)
        (λ v later k. (keeps.gives v (ask_usage e (Some job) slot).state _ (UsageAsked slot (ask_of job.usages q)) k, tt))

    check_asked : (w : W) (e : Emptying) (block : BlockId) (place : Place) → O w (out.Check block place) → At w e → GoesOn w (ask_check e block place)
    unfolding ask_check emptying_check job_check
    check_asked w e block place due h = by_job e.job refl
      where
        by_hand : (job : Job) (hand : Option Hand) → job.hand ≡ hand → At w (its e job)
            → (let c = hand_checks_in job e.lasting.questions hand block in
            GoesOn w (check_sent (its (with_questions e c.questions) c.job) block place c.ask))
        by_hand job None same k = stays w (its e job) k
        by_hand job (Some hand) same k =
            let c = hand_check hand e.lasting.questions block in
            let f : Emptying = its (with_questions e c.questions) (record job { hand = Some c.hand }) in
            turns w (its e job) f (check_sent f block place (Some c.ask)).outs
            (HandChanged e job (Some c.hand) c.questions
            (subst (λ o. Rehands first what (O w) e.maps.groups o e.lasting.questions (Some c.hand) c.questions) (sym same) (Checked block))) k
            (λ v later l. (keeps.gives v f _ (CheckAsked block place c.ask (keeps.due w v later (out.Check block place) due)) l, tt))

        by_job : (job : Option Job) → e.job ≡ job → GoesOn w (check_sent (checked_in e job block).state block place (checked_in e job block).ask)
        by_job None same = stays w e h
        by_job (Some job) same = by_hand job job.hand refl (known w e (Some job) same h)

    -- ---- a segment is read

    fetched : (w : W) (e : Emptying) → At w e → Plain w (fetches (hand_of e.job))
    fetched w e h = by_hand (hand_of e.job) refl
      where
        by_reading : (hand : Hand) → hand_of e.job ≡ Some hand → (r : Option ReadingState) → hand.reading ≡ r → Plain w (hand_fetch hand.seg.name r)
        by_reading hand same None reads = tt
        by_reading hand same (Some r) reads =
            all_map (Q w) (fetch hand.seg.name r.ask) (λ server. keeps.gives w e _ (FragmentAsked hand r server same reads) h) (reading_unanswered r)

        by_hand : (hand : Option Hand) → hand_of e.job ≡ hand → Plain w (fetches hand)
        by_hand None same = tt
        by_hand (Some hand) same = by_reading hand same hand.reading refl

    held : (w : W) (e : Emptying) (job : Option Job) (seg : SegRef) → e.job ≡ job → O w (out.Fetch seg) → At w e → GoesOn w (still (holds_in e job seg))
    held w e None seg same due h = stays w e h
    held w e (Some job) seg same due h =
        let taken_up = take_in_hand e.maps.groups e.lasting.questions job.hand seg in
        keeps.changes w (its e job) (holds_in e (Some job) seg) (HandChanged e job taken_up.hand taken_up.questions (TakenUp seg due)) (known w e (Some job) same h)

    read_begun : (w : W) (e : Emptying) (seg : SegRef) → O w (out.Fetch seg) → At w e → GoesOn w (emptying_read e seg)
    unfolding emptying_read emptying_hold
    read_begun w e seg due h =
        let f : Emptying = holds_in e e.job seg in
        let said : Done = record { state = f; outs = fetches (hand_of f.job) } in
        and_then w (still f) said (held w e e.job seg refl due h) (λ v later k. at_once v f said.outs k (fetched v f k))

    -- ---- what the node does for it

    blocks_put : (w : W) (e : Emptying) (blocks : List (BlockId × Entry × Option (List ℕ))) → O w (out.Move blocks) → At w e
        → GoesOn w (steps put_block e blocks)
    unfolding put_block
    blocks_put w e [] due h = stays w e h
    blocks_put w e (one ∷ blocks) due h =
        let parts = keeps.apart w one blocks due in
        and_then w (emptying_put e (log_in.Put one.0 one.1 one.2)) (steps put_block (emptying_put e (log_in.Put one.0 one.1 one.2)).state blocks)
        (keeps.puts w e (log_in.Put one.0 one.1 one.2) (BlockPut one.0 one.1 one.2 parts.0) h)
        (λ v later k. blocks_put v (emptying_put e (log_in.Put one.0 one.1 one.2)).state blocks (keeps.due w v later (out.Move blocks) parts.1) k)

    blocks_moved : (w : W) (e : Emptying) (blocks : List (BlockId × Entry × Option (List ℕ))) → O w (out.Move blocks) → At w e → GoesOn w (move_all e blocks)
    unfolding move_all
    blocks_moved w e blocks due h =
        let d : Done = steps put_block e blocks in
        and_then w d (emptying_put d.state log_in.Seal) (blocks_put w e blocks due h) (λ v later k. keeps.puts v d.state log_in.Seal AllPut k)

    segment_deleted : (w : W) (e : Emptying) (job : Option Job) (server : ℕ) (name : SegName) → e.job ≡ job → O w (out.Delete server name) → At w e
        → GoesOn w (emptying_delete e job server name)
    segment_deleted w e None server name same due h = stays w e h
    segment_deleted w e (Some job) server name same due h =
        let f : Emptying = (emptying_delete e (Some job) server name).state in
        turns w (its e job) f (emptying_delete e (Some job) server name).outs (HandChanged e job (dropped job.hand) e.lasting.questions LetGo) (known w e (Some job) same h)
        (λ v later k. let still_due = keeps.due w v later (out.Delete server name) due in
        all_append (Q v) (act_dropped (is_whole job.hand) name) (Send (Server server) (body.Delete (record { name = name })) ∷ [])
        (by_test (Plain v) (is_whole job.hand) (Does (Dropped name) ∷ []) [] (λ _. (keeps.gives v f _ (SegmentDropped server name still_due) k, tt)) (λ _. tt))
        (keeps.gives v f _ (DeleteSaid server name still_due) k, tt))

    job_over : (w : W) (e : Emptying) (count : ℕ) → At w e → GoesOn w (emptying_finish e count)
    job_over w e count h =
        turns w e (emptying_finish e count).state (emptying_finish e count).outs JobEnded h (λ v later k. by_item v e.lasting.items.unanswered k)
      where
        by_item : (v : W) (item : Option ℕ) → At v (emptying_finish e count).state → Plain v (answers_unanswered item (Count count))
        by_item v None k = tt
        by_item v (Some number) k = (keeps.gives v (emptying_finish e count).state _ (JobAnswered number count) k, tt)

    -- ---- the job takes an input

    one_said : (w : W) (e : Emptying) (o : Out) → O w o → At w e → GoesOn w (says e o)
    unfolding says
    one_said w e out.Hello due h = maps_asked w e e.job refl h
    one_said w e (out.List server) due h = list_asked w e e.job server refl h
    one_said w e (out.UsageAsk slot) due h = usage_asked w e e.job slot refl h
    one_said w e (out.Fetch seg) due h = read_begun w e seg due h
    one_said w e (out.Check block place) due h = check_asked w e block place due h
    one_said w e (out.Move blocks) due h = blocks_moved w e blocks due h
    one_said w e (out.Delete server name) due h = segment_deleted w e e.job server name refl due h
    one_said w e (out.Finished count) due h = job_over w e count h

    pub all_said : (w : W) (e : Emptying) (outs : List Out) → AllByRecursion (O w) outs → P w (Serving e) → Goes w (serves_on (steps says e outs))
    all_said w e [] all h = stays w e h
    all_said w e (o ∷ outs) all h =
        and_then w (says e o) (steps says (says e o).state outs) (one_said w e o all.0 h)
        (λ v later k. all_said v (says e o).state outs (all_weaker (O w) (O v) (keeps.due w v later) outs all.1) k)

    pub cleaned : (w : W) (e : Emptying) (given : In) → Later start w → Given first what e given → P w (Serving e) → Goes w (serves_on (emptying_clean e given))
    unfolding emptying_clean emptying_take
    cleaned w e given later came h = by e.job refl
      where
        by : (job : Option Job) → e.job ≡ job → GoesOn w (steps says (takes_in e job given).state (takes_in e job given).outs)
        by None same = stays w e h
        by (Some job) same =
            let d = transition job.cleaning given in
            let f : Emptying = its e (record job { cleaning = d.state }) in
            keeps.takes w e job given later (subst (λ o. Given first what (record e { job = o }) given) same came) (known w e (Some job) same h)
            (serves_on (steps says f d.outs)) (λ v more k all. all_said v f d.outs all k)

    -- ---- the segment in hand, and the questions that are out

    hand_kept : (w : W) (e : Emptying) (job : Job) (hand : Option Hand) → Rehands first what (O w) e.maps.groups job.hand e.lasting.questions hand
        e.lasting.questions
        → At w (its e job) → Stays w (its e (record job { hand = hand }))
    hand_kept w e job hand becomes h = keeps.changes w (its e job) (its e (record job { hand = hand })) (HandChanged e job hand e.lasting.questions becomes) h

    told_kept : (w : W) (e : Emptying) (ask server : ℕ) (t : Told) → Tells first what e ask server t → At w e → Stays w (emptying_hear e ask server t).state
    unfolding emptying_hear job_hear
    told_kept w e ask server t tells h = by e.job e.maps.groups refl refl
      where
        by_hand : (job : Job) (groups : GroupMapState) (hand : Option Hand) → e.maps.groups ≡ Some groups → job.hand ≡ hand → At w (its e job)
            → Stays w (its e (hand_hears_in job hand groups ask server t).state)
        by_hand job groups None knows same k = stays w (its e job) k
        by_hand job groups (Some hand) knows same k =
            let next : Option Hand = Some (hand_hear hand groups ask server t).state in
            hand_kept w e job next
            (subst (λ o. Rehands first what (O w) e.maps.groups o e.lasting.questions next e.lasting.questions) (sym same)
            (Heard e groups ask server t tells knows)) k

        by : (job : Option Job) (groups : Option GroupMapState) → e.job ≡ job → e.maps.groups ≡ groups → Stays w (told_in e job groups ask server t).state
        by None groups same knows = stays w e h
        by (Some job) None same knows = stays w e h
        by (Some job) (Some groups) same knows = by_hand job groups job.hand knows refl (known w e (Some job) same h)

    confirmed_kept : (w : W) (e : Emptying) → At w e
        → Stays w (confirmed (drawing e) (next_ask e.lasting.questions)).state
    unfolding confirmed job_confirmed
    confirmed_kept w e h = by e.job refl
      where
        by_hand : (v : W) (job : Job) (hand : Option Hand) → job.hand ≡ hand → At v (its (drawing e) job)
            → Stays v (its (drawing e) (hand_confirmed_in job hand (next_ask e.lasting.questions)).state)
        by_hand v job None same k = stays v (its (drawing e) job) k
        by_hand v job (Some hand) same k =
            let next : Option Hand = Some (hand_confirmed hand (next_ask e.lasting.questions)).state in
            hand_kept v (drawing e) job next (subst (λ o. Rehands first what (O v) e.maps.groups o (draw e.lasting.questions) next (draw e.lasting.questions)) (sym same) Confirmed) k

        by : (job : Option Job) → e.job ≡ job → Stays w (confirmed_in (drawing e) job (next_ask e.lasting.questions)).state
        by None same = keeps.changes w e (drawing e) QuestionDrawn h
        by (Some job) same =
            and_then w (still (drawing e)) (still (its (drawing e) (hand_confirmed_in job job.hand (next_ask e.lasting.questions)).state)) (keeps.changes w e (drawing e) QuestionDrawn h)
            (λ v later k. by_hand v job job.hand refl (known v (drawing e) (Some job) same k))

    pub moved_kept : (w : W) (e : Emptying) → P w (Serving e) → Goes w (serves_on (still (record e { job = note_moved e.job })))
    moved_kept w e h = by e.job refl
      where
        by : (job : Option Job) → e.job ≡ job → Stays w (record e { job = note_moved job })
        by None same = stays w (record e { job = None }) (known w e None same h)
        by (Some job) same = hand_kept w e job (hand_moved job.hand) MovedOver (known w e (Some job) same h)

    reading_left : (w : W) (e : Emptying) → At w e → Stays w (left_reading e)
    reading_left w e h = by e.job refl
      where
        by : (job : Option Job) → e.job ≡ job → Stays w (record e { job = note_read job })
        by None same = stays w (record e { job = None }) (known w e None same h)
        by (Some job) same = hand_kept w e job (read_over job.hand) ReadOver (known w e (Some job) same h)

    greeted_kept : (w : W) (e : Emptying) → At w e → Stays w (record e { job = note_greeted e.job })
    greeted_kept w e h = by e.job refl
      where
        by : (job : Option Job) → e.job ≡ job → Stays w (record e { job = note_greeted job })
        by None same = stays w (record e { job = None }) (known w e None same h)
        by (Some job) same =
            keeps.changes w (its e job) (its e (record job { hello = None })) (JobAsked e job None job.lists job.usages e.lasting.questions MapsTold)
            (known w e (Some job) same h)

    promised_kept : (w : W) (e : Emptying) (slot epoch manager : ℕ) → PromisedBy what slot epoch manager → epoch_of e.promised slot ≤ epoch → At w e
        → Stays w (emptying_promise e slot epoch manager)
    unfolding emptying_promise
    promised_kept w e slot epoch manager by low h =
        by_test (λ (r : Emptying). Stays w (record r { promised = promise_to r.promised slot epoch manager })) (nat_lt (epoch_of e.promised slot) epoch)
        (record e { feed = new_epoch e.feed slot }) e
        (λ _. let f : Emptying = record e { feed = new_epoch e.feed slot } in
        let g : Emptying = record f { promised = promise_to f.promised slot epoch manager } in
        and_then w (still f) (still g) (keeps.changes w e f (FeedRenewed slot) h)
        (λ v later k. keeps.changes v f g (SlotKept slot epoch manager by low) k))
        (λ _. keeps.changes w e (record e { promised = promise_to e.promised slot epoch manager }) (SlotKept slot epoch manager by low) h)

    -- ---- the log takes an input

    module _ (L : W → LogOut → Type 0) (logs : LogKeeps L) where
      one_written : (w : W) (e : Emptying) (o : LogOut) → Later start w → L w o → At w e → GoesOn w (write_one e o)
      unfolding write_one emptying_settle
      one_written w e (log_out.Send f m) later due h = at_once w e (store f m ∷ []) h (logs.sends w e f m due h, tt)
      one_written w e (log_out.Settled end rows) later due h =
          let f : Emptying = fed e end rows in
          let said : Done = record { state = f; outs = Does (Filed (name_of cleaner_log end)) ∷ push_all f.promised.managers f.feed } in
          and_then w said (emptying_clean f input.Moved) (logs.files w e end rows due h)
          (λ v more k. cleaned v f input.Moved (follows.on start w v later more) MovesSettled k)

      all_written : (w : W) (e : Emptying) (outs : List LogOut) → Later start w → AllByRecursion (L w) outs → At w e → GoesOn w (steps write_one e outs)
      all_written w e [] later all h = stays w e h
      all_written w e (o ∷ outs) later all h =
          and_then w (write_one e o) (steps write_one (write_one e o).state outs) (one_written w e o later all.0 h)
          (λ v more k. all_written v (write_one e o).state outs (follows.on start w v later more) (all_weaker (L w) (L v) (logs.due w v more) outs all.1) k)

      pub written : (w : W) (e : Emptying) (i : LogIn) → Later start w → Written first what e i → P w (Serving e) → Goes w (serves_on (emptying_write e i))
      unfolding emptying_write
      written w e i later came h =
          let d = log.transition e.log i in
          let f : Emptying = record e { log = d.state } in
          logs.takes w e i later came h (serves_on (steps write_one f d.outs))
          (λ v more k all. all_written v f d.outs (follows.on start w v later more) all k)

    -- ---- all moves

    module _ (events : Keeps) where
      move_goes : (p : Phase) (d : Went_to) → Move first what p d → (w : W) → Later start w → P w p → Goes w d
      move_goes p d (NotesItems items for) w later h = follows.says w (noted p items) [] (events.items w p items for h) tt
      move_goes p d (AnswersItem number a due) w later h = follows.says w p (Answers number a ∷ []) h (events.answers w number a due, tt)
      move_goes p d Falls w later h = events.falls w p h
      move_goes p d (Restarts {l = l} number taken_so event following) w later h = events.restarts w l number taken_so event following h
      move_goes p d (Opens {l = l} {o = o} x taken_so same by) w later h = events.opens w l o x later taken_so same by h
      move_goes p d (BeginsJob {e = e} count event) w later h =
          keeps.changes w e (record e { job = Some (begun_job e.promised count) }) (JobBegun count) h
      move_goes p d (Cleans {e = e} given came) w later h = cleaned w e given later came h
      move_goes p d (LogTakes {e = e} i came) w later h = events.writes w e i later came h
      move_goes p d (TakesMaps {e = e} packet news brought) w later h =
          keeps.changes w e (record e { maps = maps_take e.maps news }) (MapsTaken packet news brought) h
      move_goes p d (Promises {e = e} slot epoch manager by low) w later h =
          promised_kept w e slot epoch manager by low h
      move_goes p d (Reports {before = e} packet manager m same came from low) w later h =
          let f : Emptying = emptying_promise e m.slot m.epoch manager in
          at_once w f _ h (keeps.gives w f _ (EndReported packet manager m same came from low) h, tt)
      move_goes p d (Acknowledges {e = e} packet m came) w later h =
          keeps.changes w e (record e { feed = acknowledged e.feed m.slot m.applied }) (AckTaken m.slot m.applied) h
      move_goes p d (IsGreeted {e = e}) w later h = greeted_kept w e h
      move_goes p d (AsksForMaps {e = e} taken_so same) w later h =
          let f : Emptying = with_questions e (draw e.lasting.questions) in
          turns w e f (hello e.lasting.inc (next_ask e.lasting.questions) ∷ []) QuestionDrawn h
          (λ v more k. (keeps.gives v f _ (HelloSaid (next_ask e.lasting.questions)) k, tt))
      move_goes p d (TellsDeltas {e = e}) w later h = at_once w e (push_all e.promised.managers e.feed) h (events.pushes w e h)
      move_goes p d (HearsServer {e = e} ask server t tells) w later h =
          told_kept w e ask server t tells h
      move_goes p d (LeavesReading {e = e}) w later h = reading_left w e h
      move_goes p d (ReadsOn {e = e}) w later h = confirmed_kept w e h
      move_goes p d (Fetches {e = e}) w later h = at_once w e (fetches (hand_of e.job)) h (fetched w e h)

      moves_go : (p : Phase) (d : Went_to) → Moves first what p d → (w : W) → Later start w → P w p → Goes w d
      moves_go p d Rests w later h = follows.says w p [] h tt
      moves_go p d (Last move) w later h = move_goes p d move w later h
      moves_go p d (Then now e move rest) w later h =
          follows.goes_on w now e (move_goes p now move w later h) (λ v more k. moves_go now.state e rest v (follows.on start w v later more) k)

      -- whatever happens to the cleaner
      pub event_goes : P start first.phase → Goes start (takes first.peers first.phase what)
      event_goes h = moves_go first.phase (takes first.peers first.phase what) (cleaner_events_are_moves first what) start (follows.now start) h

-- ---- where there is no world

-- of its state; `O` is so of what its job says
pub record StateKeeps (first : Cleaner) (what : Do) (P : Phase → Type 0) (O : Out → Type 0) : Type 0 where
  pub apart : (one : BlockId × Entry × Option (List ℕ)) (blocks : List (BlockId × Entry × Option (List ℕ))) → O (out.Move (one ∷ blocks))
      → O (out.Move (one ∷ [])) × O (out.Move blocks)
  pub changes : (e f : Emptying) → Changes first what O e f → P (Serving e) → P (Serving f)
  pub cleans : (e : Emptying) (job : Job) (given : In) → Given first what (its e job) given → P (Serving (its e job))
      → P (Serving (its e (record job { cleaning = (transition job.cleaning given).state }))) × AllByRecursion O (transition job.cleaning given).outs
  pub puts : (e : Emptying) (i : LogIn) → Put O i → P (Serving e) → P (Serving (record e { log = (log.transition e.log i).state }))
  pub writes : (e : Emptying) (i : LogIn) → Written first what e i → P (Serving e) → P (Serving (record e { log = (log.transition e.log i).state }))
  pub settles : (e : Emptying) (end : End) (rows : List (BlockId × Entry)) → P (Serving e) → P (Serving (record e { feed = settled e.feed end.seq rows }))
  pub items : (p : Phase) (items : Items) → Noted first what (items_in p) items → P p → P (noted p items)
  pub falls : (p : Phase) → P p → P (Down (lasting_of p))
  pub restarts : (l : Lasting) (number : ℕ) → what ≡ Begin → next_item (items_in first.phase) ≡ Some number → P (Down l)
      → P (restart first.peers.servers l number).state
  pub opens : (l : Lasting) (o : openings.Opening) (x : Went) → OpenedBy what l o x → P (Opening l o)
      → P (came_to (record l { questions = x.questions }) x.progress)

-- of what it gives, where its state is so
pub record EffectKeeps (first : Cleaner) (what : Do) (P : Phase → Type 0) (O : Out → Type 0) (Q : Effect → Type 0) : Type 0 where
  pub gives : (e : Emptying) (effect : Effect) → Gives first what O e effect → P (Serving e) → Q effect
  pub sends : (f : Fragment) (m : Member) → Q (store f m)
  pub files : (name : SegName) → Q (Does (Filed name))
  pub pushes : (e : Emptying) → P (Serving e) → AllByRecursion Q (push_all e.promised.managers e.feed)
  pub answers : (number : ℕ) (a : Answer) → Due first what number a → Q (Answers number a)
  pub greets : (inc ask : ℕ) → Q (hello inc ask)
  pub opens : (l : Lasting) (o : openings.Opening) (x : Went) → first.phase ≡ Opening l o → OpenedBy what l o x → AllByRecursion Q x.effects

-- of a state nothing is asked
pub any_state : (first : Cleaner) (what : Do) → StateKeeps first what (λ p. Unit {0}) (λ o. Unit {0})
any_state first what = record {
  apart = λ one blocks due. (tt, tt);
  changes = λ e f change h. tt;
  cleans = λ e job given came h. (tt, all_each (λ o. Unit {0}) (λ o. tt) (transition job.cleaning given).outs);
  puts = λ e i put h. tt;
  writes = λ e i came h. tt;
  settles = λ e end rows h. tt;
  items = λ p items for h. tt;
  falls = λ p h. tt;
  restarts = λ l number event following h. tt;
  opens = λ l o x by h. tt;
}

module _ (first : Cleaner) (what : Do) (P : Phase → Type 0) (O : Out → Type 0) (Q : Effect → Type 0) (asked : StateKeeps first what P O)
    (told : EffectKeeps first what P O Q) where
  abbrev NoLater : Unit {0} → Unit {0} → Type 0
  NoLater u v = Unit {0}

  abbrev Comes : Unit {0} → Went_to → Type 0
  Comes w d = P d.state × AllByRecursion Q d.outs

  abbrev AnySaid : Unit {0} → LogOut → Type 0
  AnySaid w o = Unit {0}

  follows_so : Follows (Unit {0}) NoLater (λ w. P) (λ w. Q) Comes
  follows_so = record {
    now = λ w. tt;
    on = λ u v w a b. tt;
    says = λ w p outs h all. (h, all);
    goes_on = λ w d e h next. (let k = next tt tt h.0 in (k.0, all_append Q d.outs e.outs h.1 k.1));
  }

  one_stored : (o : LogOut) → AllByRecursion Q (stored o)
  one_stored (log_out.Send f m) = (told.sends f m, tt)
  one_stored (log_out.Settled end rows) = tt

  put_so : (e : Emptying) (i : LogIn) → Put O i → P (Serving e) → Comes tt (serves_on (emptying_put e i))
  unfolding emptying_put
  put_so e i put h = (asked.puts e i put h, all_flat_map Q stored one_stored (log.transition e.log i).outs)

  restarted : (l : Lasting) (number : ℕ) → AllByRecursion Q (restart first.peers.servers l number).outs
  unfolding restart
  restarted l number = (told.greets (next_life l number).inc (next_ask l.questions), tt)

  job_so : JobKeeps first what (Unit {0}) NoLater (λ w. P) (λ w. Q) Comes tt (λ w. O)
  job_so = record {
    due = λ u v later o due. due;
    apart = λ w one blocks due. asked.apart one blocks due;
    changes = λ w e f change h. (asked.changes e f change h, tt);
    gives = λ w e effect given h. told.gives e effect given h;
    takes = λ w e job given later came h d next. (let k = asked.cleans e job given came h in next tt tt k.0 k.1);
    puts = λ w e i put h. put_so e i put h;
  }

  settled_so : (e : Emptying) (end : End) (rows : List (BlockId × Entry)) → P (Serving e) → P (Serving (fed e end rows))
  settled_so e end rows h =
      (moved_kept first what (Unit {0}) NoLater (λ w. P) (λ w. Q) Comes tt (λ w. O) follows_so job_so tt (record e { feed = settled e.feed end.seq rows })
      (asked.settles e end rows h)).0

  log_so : LogKeeps first what (Unit {0}) NoLater (λ w. P) (λ w. Q) Comes tt AnySaid
  log_so = record {
    due = λ u v later o due. tt;
    takes = λ w e i later came h d next. next tt tt (asked.writes e i came h) (all_each (λ o. Unit {0}) (λ o. tt) (log.transition e.log i).outs);
    sends = λ w e f m due h. told.sends f m;
    files = λ w e end rows due h.
        (let k = settled_so e end rows h in (k, (told.files (name_of cleaner_log end), told.pushes (fed e end rows) k)));
  }

  keeps_so : Keeps first what (Unit {0}) NoLater (λ w. P) (λ w. Q) Comes tt
  keeps_so = record {
    items = λ w p items for h. asked.items p items for h;
    answers = λ w number a due. told.answers number a due;
    falls = λ w p h. (asked.falls p h, tt);
    restarts = λ w l number taken_so event following h. (asked.restarts l number event following h, restarted l number);
    opens = λ w l o x later taken_so same by h. (asked.opens l o x by h, told.opens l o x same by);
    writes = λ w e i later came h.
        written first what (Unit {0}) NoLater (λ w. P) (λ w. Q) Comes tt (λ w. O) follows_so job_so AnySaid log_so tt e i tt came h;
    pushes = λ w e h. told.pushes e h;
  }

  pub event_leaves : P first.phase → P (takes first.peers first.phase what).state × AllByRecursion Q (takes first.peers first.phase what).outs
  event_leaves h = event_goes first what (Unit {0}) NoLater (λ w. P) (λ w. Q) Comes tt (λ w. O) follows_so job_so keeps_so h

-- where nothing is asked of what it gives
pub state_goes : (first : Cleaner) (what : Do) (P : Phase → Type 0) (O : Out → Type 0) → StateKeeps first what P O → P first.phase
    → P (takes first.peers first.phase what).state
state_goes first what P O asked h =
    (event_leaves first what P O (λ effect. Unit {0}) asked
    (record {
      gives = λ e effect given k. tt;
      sends = λ f m. tt;
      files = λ name. tt;
      pushes = λ e k. all_each (λ effect. Unit {0}) (λ effect. tt) (push_all e.promised.managers e.feed);
      answers = λ number a due. tt;
      greets = λ inc ask. tt;
      opens = λ l o x same by. all_each (λ effect. Unit {0}) (λ effect. tt) x.effects;
    }) h).0
