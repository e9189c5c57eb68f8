-- What the cleaner awaits of the segment in hand it asked of that segment: so it stays with each of its moves, and so with each event.
use Rattle.std.proofs.Common.{ℕ, List, [], ◌∷◌, ◌++◌, Some}
use Rattle.std.specs.List.{AllByRecursion}
use Rattle.cleaner_serving.specs.declared.emptying.Emptying.{Emptying}
use Rattle.cleaner_serving.specs.EmptyingEvents.{ask_for_maps, emptying_promise}
use Rattle.cleaner_serving.specs.Jobs.{confirmed, emptying_hear, with_questions}
use Rattle.cleaner_node.specs.declared.cleaner.Cleaner.{Cleaner}
use Rattle.cleaner_node.specs.declared.cleaner.Phase.{Phase}
use Rattle.cleaner_node.specs.declared.cleaner.Phase.TheVariants.{Down, Opening, Serving}
use Rattle.cleaner_node.specs.CleanerEvents.{Went_to, lasting_of, next_life, owner_of, restart, takes}
use Rattle.cleaner_job.specs.declared.lasting.Lasting.{Lasting}
use Rattle.cleaner_job.specs.Hands.{fetches}
use Rattle.cleaner_job.specs.Jobs.{hand_of, note_greeted}
use Rattle.delta_feed.specs.Transition.{acknowledged}
use Rattle.log_owner.proofs.Behaving as behaving
use Rattle.log_owner.specs.Behaves.{MayDo, MaySay}
use Rattle.log_owner.specs.declared.ended.Owner.{Owner}
use Rattle.log_owner.specs.declared.opened.Progress.{Progress}
use Rattle.log_owner.specs.declared.opened.Progress.TheVariants as progress
use Rattle.log_owner.specs.declared.opening.Opening as openings
use Rattle.log_owner.specs.Opening as opening
use Rattle.log_owner.specs.Opening.{Went}
use Rattle.log_owner.specs.Sending.{push_all}
use Rattle.node_base.specs.Asking.{draw, next_ask}
use Rattle.node_base.specs.declared.effects.Effect.{Effect}
use Rattle.node_base.specs.declared.effects.Effect.TheVariants.{Send, Answer as Answers, Lose, Does}
use Rattle.node_base.specs.declared.items.Items.{Items}
use Rattle.node_base.specs.declared.peers.Peers.{Peers}
use Rattle.node_base.specs.Maps.{maps_take}
use Rattle.node_moves.proofs.cleaner_moves.Events.{cleaner_events_are_moves}
use Rattle.node_moves.specs.cleaner_moves.Moves.{Move, Moves, OpenedBy, begun_job, came_to, left_reading, noted}
use Rattle.node_moves.specs.cleaner_moves.Moves.Move.{Acknowledges, AnswersItem, AsksForMaps, BeginsJob, Cleans, Falls, Fetches, HearsServer, IsGreeted, LeavesReading, LogTakes, NotesItems, Opens, Promises, ReadsOn, Reports, Restarts, TakesMaps, TellsDeltas}
use Rattle.node_moves.specs.cleaner_moves.Moves.Moves.{Last, Rests, Then}
use Rattle.node_moves.specs.cleaner_moves.Moves.OpenedBy.{PacketCame, TimeWent}
use Rattle.wire_msg.specs.declared.body.Body.{Body}
use Rattle.wire_msg.specs.declared.body.Body.TheVariants as body
use Rattle.wire_msg.specs.declared.packet.Do.{Do}
use Rattle.run_laws.proofs.world_index.Asking.{book_with, cleaner_fewer, drawn_more}
use Rattle.run_laws.specs.world_index.Asking.{Book, CleanerAsks, IsDrawn}
use Rattle.run_laws.proofs.world_index.AskingCleans.{emptying_clean_so, fetches_silent}
use Rattle.run_laws.proofs.world_index.AskingOpenings.{Rises, packet_more, tick_more}
use Rattle.run_laws.proofs.world_index.AskingSays.{AllSilent, IsSilent, IsSilentBody, below_next, both_books, drawn_silent, quiet, so_drawn}
use Rattle.run_laws.proofs.world_index.AskingServing as serving
use Rattle.xfs_base.specs.declared.node.NodeId.{NodeId}
use Rattle.xfs_base.specs.declared.node.NodeId.TheVariants.{Manager}
use Rattle.xfs_base.proofs.Alls.{all_weaker}

-- ---- what an opening does

module _ (owner : Owner) where
  may_be_said : (to : NodeId) (m : Body) → MaySay owner to m → IsSilentBody m
  may_be_said to (body.Check m) may = may
  may_be_said to _ may = tt

  may_be_done : (e : Effect) → MayDo owner e → IsSilent e
  may_be_done (Send to m) may = may_be_said to m may
  may_be_done (Answers item a) may = tt
  may_be_done (Lose seg) may = tt
  may_be_done (Does act) may = tt

  all_may : (es : List Effect) → AllByRecursion (MayDo owner) es → AllSilent es
  all_may es all = all_weaker (MayDo owner) IsSilent may_be_done es all

-- what the cleaner awaits after what was done
abbrev PhaseKept : Book → Went_to → Type 0
PhaseKept book w = CleanerAsks (book_with book w.outs) w.state

silent_so : (book : Book) (p : Phase) (es : List Effect) → AllSilent es → CleanerAsks book p → CleanerAsks (book_with book es) p
silent_so book (Down l) es silent h = drawn_silent book l.questions es silent h
silent_so book (Opening l o) es silent h = drawn_silent book l.questions es silent h
silent_so book (Serving e) es silent h = quiet book e es silent h

-- ---- falls, restarts and openings

drawn_so : (book : Book) (p : Phase) → CleanerAsks book p → IsDrawn book (lasting_of p).questions
drawn_so book (Down l) h = h
drawn_so book (Opening l o) h = h
drawn_so book (Serving e) h = h.drawn

items_so : (book : Book) (p : Phase) (items : Items) → CleanerAsks book p → CleanerAsks book (noted p items)
items_so book (Down l) items h = h
items_so book (Opening l o) items h = h
items_so book (Serving e) items h = record { drawn = h.drawn; job = h.job }

restart_so : (book : Book) (servers : ℕ) (l : Lasting) (number : ℕ) → IsDrawn book l.questions → PhaseKept book (restart servers l number)
unfolding restart
restart_so book servers l number h =
    let q = (opening.on_start (owner_of (next_life l number)) servers l.questions).questions in
    drawn_silent book q (restart servers l number).outs (tt, tt) (drawn_more book l.questions q (below_next l.questions) h)

comes_so : (book : Book) (l : Lasting) (p : Progress) → IsDrawn book l.questions → CleanerAsks book (came_to l p)
comes_so book l (progress.Opening o) h = h
comes_so book l (progress.Opened o) h = record { drawn = h; job = tt }
comes_so book l (progress.Lost seg) h = h

goes_so : (book : Book) (owner : Owner) (l : Lasting) (x : Went) → IsDrawn book l.questions → Rises l.questions x → AllByRecursion (MayDo owner) x.effects
    → CleanerAsks (book_with book x.effects) (came_to (record l { questions = x.questions }) x.progress)
goes_so book owner l x h more may =
    comes_so (book_with book x.effects) (record l { questions = x.questions }) x.progress
    (drawn_silent book x.questions x.effects (all_may owner x.effects may) (drawn_more book l.questions x.questions more h))

opens_so : (what : Do) (book : Book) (l : Lasting) (o : openings.Opening) (x : Went) → OpenedBy what l o x → IsDrawn book l.questions
    → CleanerAsks (book_with book x.effects) (came_to (record l { questions = x.questions }) x.progress)
opens_so what book l o x (PacketCame packet event) h =
    goes_so book o.known.owner l x h (packet_more o l.questions packet) (behaving.packet_so o l.questions packet).does
opens_so what book l o x (TimeWent event) h = goes_so book o.known.owner l x h (tick_more o l.questions) (behaving.tick_so o l.questions).does

-- ---- its moves

module _ (first : Cleaner) (what : Do) where
  move_so : (book : Book) (p : Phase) (d : Went_to) → Move first what p d → CleanerAsks book p → PhaseKept book d
  move_so book p d (NotesItems items for) h = silent_so book (noted p items) [] tt (items_so book p items h)
  move_so book p d (AnswersItem number a due) h = silent_so book p (Answers number a ∷ []) (tt, tt) h
  move_so book p d Falls h = drawn_silent book (lasting_of p).questions [] tt (drawn_so book p h)
  move_so book p d (Restarts {l = l} number taken event following) h = restart_so book first.peers.servers l number h
  move_so book p d (Opens {l = l} {o = o} x taken same by) h = opens_so what book l o x by h
  move_so book p d (BeginsJob {e = e} count event) h =
      quiet book (record e { job = Some (begun_job e.promised count) }) [] tt (record { drawn = h.drawn; job = tt })
  move_so book p d (Cleans {e = e} given came) h = emptying_clean_so book e given h
  move_so book p d (LogTakes {e = e} i came) h = serving.emptying_write_so book e i h
  move_so book p d (TakesMaps {e = e} packet news brought) h = quiet book (record e { maps = maps_take e.maps news }) [] tt h
  move_so book p d (Promises {e = e} slot epoch manager by low) h =
      quiet book (emptying_promise e slot epoch manager) [] tt (serving.promised_at book e slot epoch manager h)
  move_so book p d (Reports {before = e} packet manager m same came from low) h =
      let f : Emptying = emptying_promise e m.slot m.epoch manager in
      quiet book f (Send (Manager manager) (body.Report (record { slot = m.slot; epoch = m.epoch; held = []; end = f.log.end })) ∷ []) (tt, tt) h
  move_so book p d (Acknowledges {e = e} packet m came) h = quiet book (record e { feed = acknowledged e.feed m.slot m.applied }) [] tt h
  move_so book p d (IsGreeted {e = e}) h =
      quiet book (record e { job = note_greeted e.job }) [] tt
      (record { drawn = h.drawn; job = serving.note_greeted_so book e.lasting.questions e.job h.job })
  move_so book p d (AsksForMaps {e = e} taken same) h =
      quiet book (ask_for_maps e).state (ask_for_maps e).outs (tt, tt) (so_drawn book e.lasting.questions e.job h)
  move_so book p d (TellsDeltas {e = e}) h =
      quiet book e (push_all e.promised.managers e.feed) (serving.pushes_silent e.promised.managers e.feed) h
  move_so book p d (HearsServer {e = e} ask server t tells) h =
      quiet book (emptying_hear e ask server t).state [] tt (serving.hears_at book e ask server t h)
  move_so book p d (LeavesReading {e = e}) h =
      quiet book (left_reading e) [] tt (record { drawn = h.drawn; job = serving.read_so book e.lasting.questions e.job h.job })
  move_so book p d (ReadsOn {e = e}) h =
      let f : Emptying = with_questions e (draw e.lasting.questions) in
      quiet book (confirmed f (next_ask e.lasting.questions)).state [] tt
      (serving.confirms_at book f (next_ask e.lasting.questions) (so_drawn book e.lasting.questions e.job h))
  move_so book p d (Fetches {e = e}) h = quiet book e (fetches (hand_of e.job)) (fetches_silent (hand_of e.job)) h

  moves_so : (book : Book) (p : Phase) (d : Went_to) → Moves first what p d → CleanerAsks book p → PhaseKept book d
  moves_so book p d Rests h = silent_so book p [] tt h
  moves_so book p d (Last move) h = move_so book p d move h
  moves_so book p d (Then now e move rest) h =
      cleaner_fewer (book_with (book_with book now.outs) e.outs) (book_with book (now.outs ++ e.outs)) (both_books book now.outs e.outs) e.state
      (moves_so (book_with book now.outs) now.state e rest (move_so book p now move h))

pub asks_kept : (book : Book) (peers : Peers) (p : Phase) (what : Do) → CleanerAsks book p
    → CleanerAsks (book_with book (takes peers p what).outs) (takes peers p what).state
asks_kept book peers p what h =
    let cleaner : Cleaner = record { peers = peers; phase = p } in
    moves_so cleaner what book p (takes peers p what) (cleaner_events_are_moves cleaner what) h
