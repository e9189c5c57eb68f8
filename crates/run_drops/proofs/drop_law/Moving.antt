-- Whatever happens to the cleaner, what it tells servers to delete was dropped: so it is of each of its moves.
use Rattle.std.proofs.Common.{◌≡◌, ℕ, Option, None, Some, nat_lt, refl, subst, sym}
use Rattle.std.specs.List.{AllByRecursion}
use Rattle.cleaner_job.specs.declared.hand.Hand.{Hand}
use Rattle.cleaner_job.specs.declared.job.Job.{Job}
use Rattle.cleaner_job.specs.declared.lasting.Lasting.{Lasting}
use Rattle.cleaner_job.specs.Hands.{confirmed_by, hand_confirmed, hand_hear, hears_by}
use Rattle.cleaner_job.specs.Jobs.{note_greeted, hand_confirmed_in, hand_hears_in, hand_of, job_confirmed, job_hear, note_read, read_over}
use Rattle.cleaner_node.specs.CleanerEvents.{Went_to, restart, takes}
use Rattle.cleaner_node.specs.declared.cleaner.Cleaner.{Cleaner}
use Rattle.cleaner_node.specs.declared.cleaner.Phase.{Phase}
use Rattle.cleaner_node.specs.declared.cleaner.Phase.TheVariants.{Down, Opening, Serving}
use Rattle.cleaner_serving.specs.declared.emptying.Emptying.{Emptying}
use Rattle.cleaner_serving.specs.EmptyingEvents.{emptying_promise}
use Rattle.cleaner_serving.specs.Jobs.{confirmed, confirmed_in, emptying_hear, told_in, with_questions}
use Rattle.delta_feed.specs.Transition.{new_epoch}
use Rattle.group_map.specs.GroupMapState.{GroupMapState}
use Rattle.log_owner.proofs.Behaving as behaving
use Rattle.log_owner.specs.Behaves.{MayAct, MayDo, MaySay}
use Rattle.log_owner.specs.declared.ended.Owner.{Owner}
use Rattle.log_owner.specs.declared.opened.Progress.{Progress}
use Rattle.log_owner.specs.declared.opened.Progress.TheVariants as progress
use Rattle.log_owner.specs.declared.opening.Opening as openings
use Rattle.log_owner.specs.Opening.{Went}
use Rattle.log_owner.specs.Promised.{epoch_of}
use Rattle.node_base.specs.Asking.{draw, next_ask}
use Rattle.node_base.specs.declared.effects.Effect.{Effect}
use Rattle.node_base.specs.declared.effects.Effect.TheVariants.{Send, Answer as Answers, Lose, Does}
use Rattle.node_base.specs.declared.items.Items.{Items}
use Rattle.segment_format.specs.declared.segment.Segment.{Segment}
use Rattle.segment_reading.specs.declared.reading.Next.TheVariants as next
use Rattle.segment_reading.specs.Reading.{ReadingState}
use Rattle.stripe_cleaner.specs.declared.input.In.{In}
use Rattle.stripe_cleaner.specs.declared.input.In.TheVariants as input
use Rattle.stripe_code.specs.declared.round.Told.{Told}
use Rattle.version_model.specs.declared.act.Act.{Act}
use Rattle.version_model.specs.declared.act.Act.TheVariants.{Dropped}
use Rattle.wire_msg.specs.declared.body.Body.{Body}
use Rattle.wire_msg.specs.declared.body.Body.TheVariants as body
use Rattle.wire_msg.specs.declared.packet.Do.{Do}
use Rattle.xfs_base.proofs.Alls.{all_weaker}
use Rattle.xfs_base.proofs.Booleans.{by_test}
use Rattle.xfs_base.specs.declared.node.NodeId.{NodeId}
use Rattle.node_moves.specs.cleaner_moves.Moves.{CleanerEventsAreMoves, Given, Move, Moves, OpenedBy, came_to, noted}
use Rattle.node_moves.specs.cleaner_moves.Moves.Given.{SegmentLost, SegmentRead}
use Rattle.node_moves.specs.cleaner_moves.Moves.Move.{NotesItems, AnswersItem, Falls, Restarts, Opens, BeginsJob, Cleans, LogTakes, TakesMaps, Promises, Reports, Acknowledges, IsGreeted, AsksForMaps, TellsDeltas, HearsServer, LeavesReading, ReadsOn, Fetches}
use Rattle.node_moves.specs.cleaner_moves.Moves.Moves.{Last, Rests, Then}
use Rattle.node_moves.specs.cleaner_moves.Moves.OpenedBy.{PacketCame, TimeWent}
use Rattle.run_drops.proofs.drop_law.Jobs.{InputIn, SameHand, cleaned, hand_fetches, job_same, pushes_quiet, written}
use Rattle.run_drops.proofs.drop_law.Saying.{Acted, Also, Goes, JobIn, JobSo, Quiet, So, goes_on, quiet_goes}
use Rattle.run_drops.proofs.drop_law.Turns.{HasOne}

-- ---- the hand stays that of its segment

heard_same : (hand : Hand) (r : Option ReadingState) (groups : GroupMapState) (ask server : ℕ) (t : Told)
    → SameHand (Some hand) (Some (hears_by hand r groups ask server t).state)
heard_same hand None groups ask server t = (refl, refl)
heard_same hand (Some r) groups ask server t = (refl, refl)

confirmed_same : (hand : Hand) (r : Option ReadingState) (ask : ℕ) → SameHand (Some hand) (Some (confirmed_by hand r ask).state)
confirmed_same hand None ask = (refl, refl)
confirmed_same hand (Some r) ask = (refl, refl)

module _ (acted : Acted) where
  heard_in : (job : Job) (hand : Option Hand) (groups : GroupMapState) (ask server : ℕ) (t : Told) → job.hand ≡ hand → JobSo acted job
      → JobSo acted (hand_hears_in job hand groups ask server t).state
  unfolding hand_hear
  heard_in job None groups ask server t same k = k
  heard_in job (Some hand) groups ask server t same k =
      job_same acted job (Some (hand_hear hand groups ask server t).state)
      (subst (λ h. SameHand h (Some (hand_hear hand groups ask server t).state)) (sym same) (heard_same hand hand.reading groups ask server t)) k

  told_so : (e : Emptying) (o : Option Job) (groups : Option GroupMapState) (ask server : ℕ) (t : Told) → JobIn acted e.job → JobIn acted o
      → JobIn acted (told_in e o groups ask server t).state.job
  unfolding job_hear
  told_so e None groups ask server t its k = its
  told_so e (Some job) None ask server t its k = its
  told_so e (Some job) (Some groups) ask server t its k = heard_in job job.hand groups ask server t refl k

  confirmed_hand : (job : Job) (hand : Option Hand) (ask : ℕ) → job.hand ≡ hand → JobSo acted job → JobSo acted (hand_confirmed_in job hand ask).state
  unfolding hand_confirmed
  confirmed_hand job None ask same k = k
  confirmed_hand job (Some hand) ask same k =
      job_same acted job (Some (hand_confirmed hand ask).state)
      (subst (λ h. SameHand h (Some (hand_confirmed hand ask).state)) (sym same) (confirmed_same hand hand.reading ask)) k

  confirmed_so : (e : Emptying) (o : Option Job) (ask : ℕ) → JobIn acted e.job → JobIn acted o → JobIn acted (confirmed_in e o ask).state.job
  unfolding job_confirmed
  confirmed_so e None ask its k = its
  confirmed_so e (Some job) ask its k = confirmed_hand job job.hand ask refl k

  read_so : (o : Option Job) → JobIn acted o → JobIn acted (note_read o)
  read_so None k = tt
  read_so (Some job) k = job_same acted job (read_over job.hand) (over job.hand) k
    where
      over : (h : Option Hand) → SameHand h (read_over h)
      over None = tt
      over (Some h) = (refl, refl)

  note_greeted_so : (o : Option Job) → JobIn acted o → JobIn acted (note_greeted o)
  note_greeted_so None k = tt
  note_greeted_so (Some job) k = record { flag = k.flag; phase = k.phase }

-- ---- what is read is of the segment in hand

abbrev HasIn : Option Job → Type 0
HasIn None = ⊥
HasIn (Some job) = HasOne job.hand

read_has : (o : Option Job) → HasIn o → HasIn (note_read o)
read_has None one = absurd one
read_has (Some job) one = over job.hand one
  where
    over : (h : Option Hand) → HasOne h → HasOne (read_over h)
    over None one = absurd one
    over (Some h) one = tt

hand_has : (job : Job) (hand : Option Hand) (groups : GroupMapState) (ask server : ℕ) (t : Told) (s : Segment)
    → (hand_hears_in job hand groups ask server t).next ≡ next.Read s → HasOne (hand_hears_in job hand groups ask server t).state.hand
hand_has job None groups ask server t s fact = (let clash : next.Wait ≡ next.Read s = fact in absurd (cc))
hand_has job (Some hand) groups ask server t s fact = tt

told_has : (e : Emptying) (o : Option Job) (groups : Option GroupMapState) (ask server : ℕ) (t : Told) (s : Segment)
    → (told_in e o groups ask server t).next ≡ next.Read s → HasIn (told_in e o groups ask server t).state.job
unfolding job_hear
told_has e None groups ask server t s fact = (let clash : next.Wait ≡ next.Read s = fact in absurd (cc))
told_has e (Some job) None ask server t s fact = (let clash : next.Wait ≡ next.Read s = fact in absurd (cc))
told_has e (Some job) (Some groups) ask server t s fact = hand_has job job.hand groups ask server t s fact

one_in : (o : Option Job) (s : Segment) → HasIn o → InputIn o (input.Read (Some s))
one_in None s one = tt
one_in (Some job) s one = one

-- an input by which nothing is read
abbrev ReadsNothing : In → Type 0
ReadsNothing (input.Read (Some segment)) = ⊥
ReadsNothing _ = Unit {0}

none_in : (o : Option Job) (i : In) → ReadsNothing i → InputIn o i
none_in None i none = tt
none_in (Some job) (input.Read None) none = tt
none_in (Some job) (input.Read (Some segment)) none = absurd none
none_in (Some job) _ none = tt

module _ (first : Cleaner) (what : Do) where
  given_so : (e : Emptying) (given : In) → Given first what e given → InputIn e.job given
  unfolding emptying_hear
  given_so e given (SegmentRead {before = before} ask server t segment tells fact) =
      one_in (note_read (emptying_hear before ask server t).state.job) segment
      (read_has (emptying_hear before ask server t).state.job (told_has before before.job before.maps.groups ask server t segment fact))
  given_so e given SegmentLost = none_in e.job (input.Read None) tt
  given_so e given _ = none_in e.job given tt

  -- ---- while its log is opened

  body_quiet : (owner : Owner) (to : NodeId) (m : Body) → MaySay owner to m → Quiet (Send to m)
  body_quiet owner to (body.Delete m) says = absurd says
  body_quiet owner to _ says = tt

  act_quiet : (act : Act) → MayAct act → Quiet (Does act)
  act_quiet (Dropped seg) may = absurd may
  act_quiet _ may = tt

  done_quiet : (owner : Owner) (effect : Effect) → MayDo owner effect → Quiet effect
  done_quiet owner (Send to m) does = body_quiet owner to m does
  done_quiet owner (Answers item a) does = tt
  done_quiet owner (Lose seg) does = tt
  done_quiet owner (Does act) does = act_quiet act does

  opens_quiet : (l : Lasting) (o : openings.Opening) (x : Went) → OpenedBy what l o x → AllByRecursion Quiet x.effects
  opens_quiet l o x (PacketCame packet event) =
      all_weaker (MayDo o.known.owner) Quiet (done_quiet o.known.owner) x.effects (behaving.packet_so o l.questions packet).does
  opens_quiet l o x (TimeWent event) =
      all_weaker (MayDo o.known.owner) Quiet (done_quiet o.known.owner) x.effects (behaving.tick_so o l.questions).does

  module _ (acted : Acted) where
    comes_so : (l : Lasting) (p : Progress) → So acted (came_to l p)
    comes_so l (progress.Opening o) = tt
    comes_so l (progress.Opened o) = tt
    comes_so l (progress.Lost seg) = tt

    items_so : (p : Phase) (items : Items) → So acted p → So acted (noted p items)
    items_so (Down l) items h = tt
    items_so (Opening l o) items h = tt
    items_so (Serving e) items h = h

    promised_so : (e : Emptying) (slot epoch manager : ℕ) → JobIn acted e.job → JobIn acted (emptying_promise e slot epoch manager).job
    unfolding emptying_promise
    promised_so e slot epoch manager h =
        by_test (λ (r : Emptying). JobIn acted r.job) (nat_lt (epoch_of e.promised slot) epoch) (record e { feed = new_epoch e.feed slot }) e (λ _. h) (λ _. h)

    restarted : (servers : ℕ) (l : Lasting) (number : ℕ) → Goes acted (restart servers l number)
    unfolding restart
    restarted servers l number = quiet_goes acted _ tt (tt, tt)

    -- ---- each move

    move_goes : (phase : Phase) (d : Went_to) → Move first what phase d → So acted phase → Goes acted d
    unfolding emptying_hear confirmed
    move_goes phase d (NotesItems items for) h = quiet_goes acted d (items_so phase items h) tt
    move_goes phase d (AnswersItem number a due) h = quiet_goes acted d h (tt, tt)
    move_goes phase d Falls h = quiet_goes acted d tt tt
    move_goes phase d (Restarts {l = l} number taken event following) h = restarted first.peers.servers l number
    move_goes phase d (Opens {l = l} {o = o} x taken same by) h =
        quiet_goes acted d (comes_so (record l { questions = x.questions }) x.progress) (opens_quiet l o x by)
    move_goes phase d (BeginsJob count event) h = quiet_goes acted d (record { flag = tt; phase = tt }) tt
    move_goes phase d (Cleans {e = e} given came) h = cleaned acted e h given (given_so e given came)
    move_goes phase d (LogTakes {e = e} i came) h = written acted e i h
    move_goes phase d (TakesMaps packet news brought) h = quiet_goes acted d h tt
    move_goes phase d (Promises {e = e} slot epoch manager by above) h = quiet_goes acted d (promised_so e slot epoch manager h) tt
    move_goes phase d (Reports packet manager m same came from above) h = quiet_goes acted d h (tt, tt)
    move_goes phase d (Acknowledges packet m came) h = quiet_goes acted d h tt
    move_goes phase d (IsGreeted {e = e}) h = quiet_goes acted d (note_greeted_so acted e.job h) tt
    move_goes phase d (AsksForMaps taken same) h = quiet_goes acted d h (tt, tt)
    move_goes phase d (TellsDeltas {e = e}) h = quiet_goes acted d h (pushes_quiet e.promised.managers e.feed)
    move_goes phase d (HearsServer {e = e} ask server t tells) h = quiet_goes acted d (told_so acted e e.job e.maps.groups ask server t h h) tt
    move_goes phase d (LeavesReading {e = e}) h = quiet_goes acted d (read_so acted e.job h) tt
    move_goes phase d (ReadsOn {e = e}) h =
        quiet_goes acted d
        (confirmed_so acted (with_questions e (draw e.lasting.questions)) e.job (next_ask e.lasting.questions) h h) tt
    move_goes phase d (Fetches {e = e}) h = quiet_goes acted d h (hand_fetches (hand_of e.job))

  moves_go : (acted : Acted) (phase : Phase) (d : Went_to) → Moves first what phase d → So acted phase → Goes acted d
  moves_go acted phase d Rests h = quiet_goes acted d h tt
  moves_go acted phase d (Last one) h = move_goes acted phase d one h
  moves_go acted phase d (Then first_one rest one more) h =
      let g = move_goes acted phase first_one one h in
      goes_on acted first_one rest g (moves_go (Also acted first_one.outs) first_one.state rest more g.state)

-- whatever happens to it
pub event_goes : CleanerEventsAreMoves → (acted : Acted) (cleaner : Cleaner) (what : Do) → So acted cleaner.phase
    → Goes acted (takes cleaner.peers cleaner.phase what)
event_goes moves acted cleaner what h = moves_go cleaner what acted cleaner.phase (takes cleaner.peers cleaner.phase what) (moves cleaner what) h
