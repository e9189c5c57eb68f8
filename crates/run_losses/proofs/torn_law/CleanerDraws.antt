-- Whatever happens to the cleaner, it asks servers for fragments by numbers of questions that it drew; read off its moves.
use Rattle.std.proofs.Common.{sym, subst, ◌≡◌, ℕ, ◌≤◌, Option, Some, None, refl, arith}
use Rattle.xfs_base.proofs.Booleans.{by_test}
use Rattle.xfs_base.specs.declared.block.BlockId.{BlockId}
use Rattle.xfs_base.proofs.Alls.{all_append, all_flat_map}
use Rattle.cleaner_serving.specs.declared.emptying.Emptying.{Emptying}
use Rattle.cleaner_serving.specs.EmptyingEvents.{fed}
use Rattle.cleaner_serving.specs.Jobs.{emptying_put}
use Rattle.cleaner_node.specs.CleanerEvents.{Went_to, restart, lasting_of, takes}
use Rattle.cleaner_node.specs.declared.cleaner.Phase.{Phase}
use Rattle.cleaner_node.specs.declared.cleaner.Phase.TheVariants.{Down, Opening, Serving}
use Rattle.cleaner_job.specs.declared.hand.Hand.{Hand}
use Rattle.cleaner_job.specs.declared.job.Job.{Job}
use Rattle.cleaner_job.specs.declared.lasting.Lasting.{Lasting}
use Rattle.cleaner_job.specs.Jobs.{hand_moved, note_moved, hand_of, drawn_unless, dropped, read_over}
use Rattle.client_log.specs.declared.input.In.{In as LogIn}
use Rattle.client_log.specs.declared.output.Out.{Out as LogOut}
use Rattle.client_log.specs.declared.output.Out.TheVariants as log_out
use Rattle.client_log.specs.Transition as log
use Rattle.group_map.specs.GroupMapState.{GroupMapState}
use Rattle.log_owner.specs.declared.opened.Progress.{Progress}
use Rattle.log_owner.specs.declared.opened.Progress.TheVariants as progress
use Rattle.log_owner.specs.declared.opening.Opening as openings
use Rattle.log_owner.specs.Opening.{Went, stored}
use Rattle.wire_msg.specs.declared.packet.Do.{Do}
use Rattle.xfs_base.specs.declared.segment.SegRef.{SegRef}
use Rattle.cleaner_job.specs.Hands.{Taken, is_in_hand, known_group, take_over, take_in_hand, hears_by, hand_hear, confirmed_by, hand_confirmed, checks_under, kept_ask, hand_check}
use Rattle.group_map.specs.declared.group.Group.{Group}
use Rattle.node_base.specs.Asking.{draw}
use Rattle.node_base.specs.declared.effects.Effect.{Effect}
use Rattle.node_base.specs.declared.questions.Questions.{Questions}
use Rattle.segment_reading.specs.declared.reading.Stage.{Stage}
use Rattle.segment_reading.specs.declared.reading.Stage.TheVariants.{Asking, Between, Doubted, Over}
use Rattle.segment_reading.specs.Reading.{ReadingState, on_confirmed}
use Rattle.segment_reading.specs.Reading as rounds
use Rattle.stripe_cleaner.specs.declared.output.Out.{Out}
use Rattle.stripe_code.specs.declared.round.Told.{Told}
use Rattle.cleaner_node.specs.declared.cleaner.Cleaner.{Cleaner}
use Rattle.cleaner_node.specs.CleanerEvents.{serves_on}
use Rattle.node_base.specs.declared.items.Items.{Items}
use Rattle.stripe_cleaner.specs.Transition.{transition}
use Rattle.xfs_base.proofs.Alls.{all_each}
use Rattle.node_moves.proofs.cleaner_moves.Keeping.{Asks, Changes, Follows, Gives, JobKeeps, Keeps, LogKeeps, Rehands, event_goes, written}
use Rattle.node_moves.proofs.cleaner_moves.Keeping.Asks.{MapsAsked, ListsAsked, UsagesAsked, MapsTold}
use Rattle.node_moves.proofs.cleaner_moves.Keeping.Changes.{QuestionDrawn, MapsTaken, FeedRenewed, AckTaken, SlotKept, JobBegun, JobEnded, JobAsked, HandChanged}
use Rattle.node_moves.proofs.cleaner_moves.Keeping.Gives.{FragmentAsked}
use Rattle.node_moves.proofs.cleaner_moves.Keeping.Rehands.{TakenUp, Checked, LetGo, ReadOver, MovedOver, Heard, Confirmed}
use Rattle.node_moves.specs.cleaner_moves.Moves.{OpenedBy, came_to, noted}
use Rattle.node_moves.specs.cleaner_moves.Moves.OpenedBy.{PacketCame, TimeWent}
use Rattle.run_losses.proofs.torn_law.ClientFetches.{AllUpTo, UpTo, all_pushed_none, last_up, ReadsUpTo, all_more}
use Rattle.run_losses.proofs.torn_law.OpeningNumbers.{StageUp, WentUp, packet_up, tick_up}
use Rattle.run_losses.proofs.missing_law.Readings.{answer_keeps_target}
use Rattle.run_losses.proofs.torn_law.ClientNumbers.{reads_more}

abbrev last_in : Emptying → ℕ
last_in e = e.lasting.questions.last

abbrev last_of : Phase → ℕ
last_of p = (lasting_of p).questions.last

-- what is in hand is read by a number that was drawn
abbrev HandUp : ℕ → Option Hand → Type 0
HandUp last None = Unit {0}
HandUp last (Some hand) = ReadsUpTo last hand.reading

abbrev At : Emptying → Type 0
At e = HandUp e.lasting.questions.last (hand_of e.job)

-- so it is while the cleaner serves; and while it opens its log, it asks by such numbers
abbrev pub PhaseUp : Phase → Type 0
PhaseUp (Down l) = Unit {0}
PhaseUp (Opening l o) = StageUp l.questions.last o.stage
PhaseUp (Serving e) = At e

abbrev pub ServesUp : Phase → Type 0
ServesUp (Down l) = Unit {0}
ServesUp (Opening l o) = Unit {0}
ServesUp (Serving e) = At e

-- from so many questions on
pub record Draws (last : ℕ) (x : Went_to) : Type 0 where
  pub up : last ≤ (lasting_of x.state).questions.last
  pub serves : ServesUp x.state
  pub does : AllUpTo (lasting_of x.state).questions.last x.outs

-- its last question has this number
record Stands (last : ℕ) (p : Phase) : Type 0 where
  is_last : last_of p ≡ last
  serves : ServesUp p

abbrev Later : ℕ → ℕ → Type 0
Later u v = u ≤ v

hand_more : (a b : ℕ) → a ≤ b → (hand : Option Hand) → HandUp a hand → HandUp b hand
hand_more a b less None h = tt
hand_more a b less (Some hand) h = reads_more a b less hand.reading h

serves_up : (p : Phase) → PhaseUp p → ServesUp p
serves_up (Down l) h = tt
serves_up (Opening l o) h = tt
serves_up (Serving e) h = h

-- ---- the segment in hand

unless_up : (o : Option ℕ) (q : Questions) → q.last ≤ (drawn_unless o q).last
unless_up None q = last_up q.last
unless_up (Some ask) q = omega arith

-- another is in hand, after some further questions
record Rises (q : Questions) (hand : Option Hand) (r : Questions) : Type 0 where
  up : q.last ≤ r.last
  reads : HandUp r.last hand

over_so : (q : Questions) (seg : SegRef) (group : Option Group) → Rises q (take_over q seg group).hand (take_over q seg group).questions
over_so q seg None = record { up = omega arith; reads = tt }
over_so q seg (Some group) = record { up = last_up q.last; reads = omega arith }

in_hand_so : (groups : Option GroupMapState) (q : Questions) (hand : Option Hand) (seg : SegRef) → HandUp q.last hand
    → Rises q (take_in_hand groups q hand seg).hand (take_in_hand groups q hand seg).questions
unfolding take_in_hand
in_hand_so groups q hand seg h =
    by_test (λ (t : Taken). Rises q t.hand t.questions) (is_in_hand hand seg) (record { hand = hand; questions = q })
    (take_over q seg (known_group groups seg.group)) (λ _. record { up = omega arith; reads = h }) (λ _. over_so q seg (known_group groups seg.group))

checked_so : (hand : Hand) (q : Questions) (block : BlockId) → ReadsUpTo q.last hand.reading
    → Rises q (Some (hand_check hand q block).hand) (hand_check hand q block).questions
unfolding hand_check
checked_so hand q block h = by (kept_ask hand block)
  where
    by : (ask : Option ℕ) → Rises q (Some (checks_under hand q block ask).hand) (checks_under hand q block ask).questions
    by None = record { up = last_up q.last; reads = reads_more q.last (draw q).last (last_up q.last) hand.reading h }
    by (Some ask) = record { up = omega arith; reads = h }

hears_up : (last : ℕ) (hand : Hand) (r : Option ReadingState) (groups : GroupMapState) (ask server : ℕ) (t : Told) → ReadsUpTo last hand.reading
    → ReadsUpTo last r → HandUp last (Some (hears_by hand r groups ask server t).state)
hears_up last hand None groups ask server t held fact = held
hears_up last hand (Some r) groups ask server t held fact = (let x = (answer_keeps_target r groups ask server t).1 in omega arith)

heard_so : (last : ℕ) (hand : Hand) (groups : GroupMapState) (ask server : ℕ) (t : Told) → ReadsUpTo last hand.reading
    → HandUp last (Some (hand_hear hand groups ask server t).state)
unfolding hand_hear
heard_so last hand groups ask server t h = hears_up last hand hand.reading groups ask server t h h

confirmed_up : (last : ℕ) (r : ReadingState) (ask : ℕ) (at : Stage) → r.ask ≤ last → ask ≤ last → (rounds.goes_on r ask at).state.ask ≤ last
confirmed_up last r ask Asking small new = small
confirmed_up last r ask Between small new = new
confirmed_up last r ask Doubted small new = small
confirmed_up last r ask Over small new = small

by_reading_up : (last : ℕ) (hand : Hand) (r : Option ReadingState) (ask : ℕ) → ReadsUpTo last hand.reading → ReadsUpTo last r → ask ≤ last
    → HandUp last (Some (confirmed_by hand r ask).state)
unfolding on_confirmed
by_reading_up last hand None ask held fact new = held
by_reading_up last hand (Some r) ask held fact new = confirmed_up last r ask r.stage fact new

confirmed_so : (last : ℕ) (hand : Hand) → ReadsUpTo last hand.reading → HandUp last (Some (hand_confirmed hand last).state)
unfolding hand_confirmed
confirmed_so last hand h = by_reading_up last hand hand.reading last h h (omega arith)

dropped_so : (last : ℕ) (hand : Option Hand) → HandUp last hand → HandUp last (dropped hand)
dropped_so last None h = tt
dropped_so last (Some hand) h = h

over_read : (last : ℕ) (hand : Option Hand) → HandUp last (read_over hand)
over_read last None = tt
over_read last (Some hand) = tt

moved_so : (last : ℕ) (hand : Option Hand) → HandUp last hand → HandUp last (hand_moved hand)
moved_so last None h = tt
moved_so last (Some hand) h = h

note_moved_so : (last : ℕ) (job : Option Job) → HandUp last (hand_of job) → HandUp last (hand_of (note_moved job))
note_moved_so last None h = tt
note_moved_so last (Some job) h = moved_so last job.hand h

stored_none : (highest : ℕ) (o : LogOut) → AllUpTo highest (stored o)
stored_none highest (log_out.Send fragment member) = (tt, tt)
stored_none highest (log_out.Settled end rows) = tt

-- ---- what is asked of the moves

module _ (first : Cleaner) (what : Do) (h : PhaseUp first.phase) where
  abbrev Any : Out → Type 0
  Any o = Unit {0}

  abbrev AnySaid : ℕ → LogOut → Type 0
  AnySaid last o = Unit {0}

  abbrev start : ℕ
  start = last_of first.phase

  asked_up : (job : Job) (q : Questions) (hello lists usages : Option ℕ) (r : Questions) → Asks job q hello lists usages r → q.last ≤ r.last
  asked_up job q hello lists usages r MapsAsked = unless_up job.hello q
  asked_up job q hello lists usages r ListsAsked = unless_up job.lists q
  asked_up job q hello lists usages r UsagesAsked = unless_up job.usages q
  asked_up job q hello lists usages r MapsTold = omega arith

  rehanded : (groups : Option GroupMapState) (a : Option Hand) (q : Questions) (b : Option Hand) (r : Questions) → Rehands first what Any groups a q b r
      → HandUp q.last a → Rises q b r
  rehanded groups a q b r (TakenUp seg due) held = in_hand_so groups q a seg held
  rehanded groups a q b r (Checked {hand = hand} block) held = checked_so hand q block held
  rehanded groups a q b r LetGo held = record { up = omega arith; reads = dropped_so q.last a held }
  rehanded groups a q b r ReadOver held = record { up = omega arith; reads = over_read q.last a }
  rehanded groups a q b r MovedOver held = record { up = omega arith; reads = moved_so q.last a held }
  rehanded groups a q b r (Heard {hand = hand} before known ask server t tells knows) held =
      record { up = omega arith; reads = heard_so q.last hand known ask server t held }
  rehanded groups a q b r (Confirmed {hand = hand}) held = record { up = omega arith; reads = confirmed_so q.last hand held }

  changed : (e f : Emptying) → Changes first what Any e f → At e → Rises e.lasting.questions (hand_of f.job) f.lasting.questions
  changed e f QuestionDrawn held =
      record { up = last_up (last_in e); reads = hand_more (last_in e) (draw e.lasting.questions).last (last_up (last_in e)) (hand_of e.job) held }
  changed e f (MapsTaken packet news brought) held = record { up = omega arith; reads = held }
  changed e f (FeedRenewed slot) held = record { up = omega arith; reads = held }
  changed e f (AckTaken slot applied) held = record { up = omega arith; reads = held }
  changed e f (SlotKept slot epoch manager by low) held = record { up = omega arith; reads = held }
  changed e f (JobBegun count) held = record { up = omega arith; reads = tt }
  changed e f JobEnded held = record { up = omega arith; reads = tt }
  changed e f (JobAsked g job hello lists usages q asks) held =
      let up = asked_up job g.lasting.questions hello lists usages q asks in
      record { up = up; reads = hand_more (last_in g) q.last up job.hand held }
  changed e f (HandChanged g job hand q becomes) held = rehanded g.maps.groups job.hand g.lasting.questions hand q becomes held

  -- a fragment of the segment in hand is asked for by the number of its round
  given_up : (last : ℕ) (e : Emptying) (effect : Effect) → Gives first what Any e effect → Stands last (Serving e) → UpTo last effect
  given_up last e effect (FragmentAsked hand r server same reads) s =
      subst (λ n. r.ask ≤ n) s.is_last (subst (ReadsUpTo (last_in e)) reads (subst (HandUp (last_in e)) same s.serves))
  given_up last e effect _ s = tt

  put_so : (last : ℕ) (e : Emptying) (i : LogIn) → Stands last (Serving e) → Draws last (serves_on (emptying_put e i))
  unfolding emptying_put
  put_so last e i s = record {
    up = (let fact = s.is_last in omega arith);
    serves = s.serves;
    does = all_flat_map (UpTo (last_in e)) stored (stored_none (last_in e)) (log.transition e.log i).outs;
  }

  noted_so : (last : ℕ) (p : Phase) (items : Items) → Stands last p → Stands last (noted p items)
  noted_so last (Down l) items s = record { is_last = s.is_last; serves = tt }
  noted_so last (Opening l o) items s = record { is_last = s.is_last; serves = tt }
  noted_so last (Serving e) items s = record { is_last = s.is_last; serves = s.serves }

  restarted : (servers : ℕ) (l : Lasting) (number : ℕ) → Draws l.questions.last (restart servers l number)
  unfolding restart
  restarted servers l number = record { up = last_up l.questions.last; serves = tt; does = (tt, tt) }

  opened : (l : Lasting) (o : openings.Opening) (x : Went) → first.phase ≡ Opening l o → OpenedBy what l o x → WentUp l.questions.last x
  opened l o x same (PacketCame packet comes) = packet_up o l.questions packet (subst PhaseUp same h)
  opened l o x same (TimeWent comes) = tick_up o l.questions (subst PhaseUp same h)

  came_so : (l : Lasting) (x : Went) (p : Progress) → WentUp l.questions.last x
      → Draws l.questions.last (record { state = came_to (record l { questions = x.questions }) p; outs = x.effects })
  came_so l x (progress.Opening o) u = record { up = u.up; serves = tt; does = u.does }
  came_so l x (progress.Opened o) u = record { up = u.up; serves = tt; does = u.does }
  came_so l x (progress.Lost seg) u = record { up = u.up; serves = tt; does = u.does }

  follows : Follows ℕ Later Stands UpTo Draws
  follows = record {
    now = λ u. omega arith;
    on = λ u v w a b. omega arith;
    says = λ last p outs s all.
        record { up = (let fact = s.is_last in omega arith); serves = s.serves; does = subst (λ n. AllUpTo n outs) (sym s.is_last) all };
    goes_on = λ last d e x next.
        (let y = next (last_of d.state) x.up (record { is_last = refl; serves = x.serves }) in
        record {
          up = (let a = x.up in let b = y.up in omega arith);
          serves = y.serves;
          does = all_append (UpTo (last_of e.state)) d.outs e.outs (all_more (last_of d.state) (last_of e.state) y.up d.outs x.does) y.does;
        });
  }

  jobs : JobKeeps first what ℕ Later Stands UpTo Draws start (λ last. Any)
  jobs = record {
    due = λ u v later o due. tt;
    apart = λ last one blocks due. (tt, tt);
    changes = λ last e f change s.
        (let k = changed e f change s.serves in let a = s.is_last in let b = k.up in record { up = omega arith; serves = k.reads; does = tt });
    gives = λ last e effect given s. given_up last e effect given s;
    takes = λ last e job given later came s d next.
        next last (omega arith) (record { is_last = s.is_last; serves = s.serves }) (all_each Any (λ o. tt) (transition job.cleaning given).outs);
    puts = λ last e i put s. put_so last e i s;
  }

  logs : LogKeeps first what ℕ Later Stands UpTo Draws start AnySaid
  logs = record {
    due = λ u v later o due. tt;
    takes = λ last e i later came s d next.
        next last (omega arith) (record { is_last = s.is_last; serves = s.serves }) (all_each (AnySaid last) (λ o. tt) (log.transition e.log i).outs);
    sends = λ last e f m due s. tt;
    files = λ last e end rows due s. record {
      up = (let fact = s.is_last in omega arith);
      serves = note_moved_so (last_in e) e.job s.serves;
      does = (tt, all_pushed_none e.promised.managers (fed e end rows).feed (last_in e));
    };
  }

  events : Keeps first what ℕ Later Stands UpTo Draws start
  events = record {
    items = λ last p items for s. noted_so last p items s;
    answers = λ last number a due. tt;
    falls = λ last p s. record { up = (let fact = s.is_last in omega arith); serves = tt; does = tt };
    restarts = λ last l number taken begins next s.
        subst (λ n. Draws n (restart first.peers.servers l number)) s.is_last (restarted first.peers.servers l number);
    opens = λ last l o x later taken same by s.
        subst (λ n. Draws n (record { state = came_to (record l { questions = x.questions }) x.progress; outs = x.effects })) s.is_last
        (came_so l x x.progress (opened l o x same by));
    writes = λ last e i later came s. written first what ℕ Later Stands UpTo Draws start (λ n. Any) follows jobs AnySaid logs last e i later came s;
    pushes = λ last e s. all_pushed_none e.promised.managers e.feed last;
  }

  pub cleaner_draws : Draws (lasting_of first.phase).questions.last (takes first.peers first.phase what)
  cleaner_draws =
      event_goes first what ℕ Later Stands UpTo Draws start (λ last. Any) follows jobs events (record { is_last = refl; serves = serves_up first.phase h })
