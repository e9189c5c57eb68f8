-- What a job of the cleaner is about was met, whatever happens to the cleaner.
use Rattle.std.proofs.Common.{◌≡◌, ℕ, List, [], ◌∷◌, Option, Some, None, inl, inr, refl, subst}
use Rattle.std.specs.List.{AllByRecursion}
use Rattle.cleaner_job.specs.declared.hand.Hand.{Hand}
use Rattle.cleaner_job.specs.declared.job.Job.{Job}
use Rattle.cleaner_job.specs.declared.lasting.Lasting.{Lasting}
use Rattle.cleaner_job.specs.Hands.{Taken, hand_check, checks_under, confirmed_by, hand_confirmed, hand_hear, hears_by, is_in_hand, kept_ask, known_group, take_over, take_in_hand}
use Rattle.cleaner_job.specs.Jobs.{dropped, hand_moved, read_over}
use Rattle.cleaner_node.specs.CleanerEvents.{cleaner_step, restart}
use Rattle.cleaner_node.specs.declared.cleaner.Cleaner.{Cleaner}
use Rattle.cleaner_node.specs.declared.cleaner.Phase.{Phase}
use Rattle.cleaner_node.specs.declared.cleaner.Phase.TheVariants.{Down, Opening, Serving}
use Rattle.cleaner_serving.specs.declared.emptying.Emptying.{Emptying}
use Rattle.group_map.specs.declared.group.Group.{Group}
use Rattle.group_map.specs.GroupMapState.{GroupMapState}
use Rattle.log_owner.specs.declared.opened.Progress.{Progress}
use Rattle.log_owner.specs.declared.opened.Progress.TheVariants as progress
use Rattle.log_owner.specs.Sending.{server_in}
use Rattle.node_base.specs.declared.items.Items.{Items}
use Rattle.node_base.specs.declared.questions.Questions.{Questions}
use Rattle.segment_reading.specs.Reading.{ReadingState}
use Rattle.stripe_cleaner.specs.declared.input.In.{In as Input}
use Rattle.stripe_cleaner.specs.declared.phase.Phase as jobs_phase
use Rattle.stripe_cleaner.specs.declared.phase.Phase.TheVariants as job_phase
use Rattle.stripe_code.specs.declared.round.Told.{Told as Answered}
use Rattle.token_protocol.specs.Basics.{In}
use Rattle.wire_msg.specs.declared.body.Body.{Body}
use Rattle.wire_msg.specs.declared.body.Body.TheVariants as body
use Rattle.wire_msg.specs.declared.packet.Do.{Do}
use Rattle.wire_msg.specs.declared.packet.Do.TheVariants.{Begin, Deliver, Tick}
use Rattle.wire_msg.specs.declared.packet.Packet.{Packet}
use Rattle.wire_msg.specs.declared.storage.Listed.{Listed}
use Rattle.xfs_base.proofs.Alls.{all_weaker}
use Rattle.xfs_base.proofs.Booleans.{by_test}
use Rattle.xfs_base.specs.declared.block.BlockId.{BlockId}
use Rattle.xfs_base.specs.declared.fragment.FragMeta.{FragMeta}
use Rattle.xfs_base.specs.declared.node.NodeId.{NodeId}
use Rattle.xfs_base.specs.declared.segment.SegName.{SegName}
use Rattle.xfs_base.specs.declared.segment.SegRef.{SegRef}
use Rattle.node_moves.proofs.cleaner_moves.Keeping.{Changes, Rehands, StateKeeps, state_goes}
use Rattle.node_moves.proofs.cleaner_moves.Keeping.Changes.{HandChanged, JobBegun, JobEnded}
use Rattle.node_moves.proofs.cleaner_moves.Keeping.Rehands.{Checked, Confirmed, Heard, LetGo, MovedOver, ReadOver, TakenUp}
use Rattle.node_moves.specs.cleaner_moves.Moves.{Given, came_to, noted}
use Rattle.node_moves.specs.cleaner_moves.Moves.Given.{ListCame}
use Rattle.node_tellings.proofs.reading_tie.Choosing.{InputMet, OutMet, cleaning_met}
use Rattle.node_tellings.specs.reading_tie.CleanerMeets.{AnyJobMet, CandidateMet, CleanerEventsMeet, CleanerMeets, CleanerMeetsRise, CleanerStartsMet, HandMet, IsSent, ListedIn, Met, NodeMet, PhaseMet, RefMet, TurnMet, listed_in}

module _ (met : Met) where
  -- ---- what comes

  -- what a server lists was met
  abbrev AllListed : Option ℕ → Listed → Type 0
  AllListed None m = Unit {0}
  AllListed (Some server) m = AllByRecursion (λ x. met x.name x.group) m.held

  abbrev BodyMet : NodeId → Body → Type 0
  BodyMet from (body.Listed m) = AllListed (server_in from) m
  BodyMet from _ = Unit {0}

  abbrev DoMet : Do → Type 0
  DoMet Begin = Unit {0}
  DoMet (Deliver packet) = BodyMet packet.from packet.body
  DoMet Tick = Unit {0}

  -- ---- the segment in hand

  over_met : (q : Questions) (seg : SegRef) (group : Option Group) → RefMet met seg → HandMet met (take_over q seg group).hand
  over_met q seg None fact = tt
  over_met q seg (Some group) fact = fact

  in_hand_met : (groups : Option GroupMapState) (q : Questions) (hand : Option Hand) (seg : SegRef) → RefMet met seg → HandMet met hand
      → HandMet met (take_in_hand groups q hand seg).hand
  unfolding take_in_hand
  in_hand_met groups q hand seg fact h =
      by_test (λ (t : Taken). HandMet met t.hand) (is_in_hand hand seg) (record { hand = hand; questions = q })
      (take_over q seg (known_group groups seg.group))
      (λ _. h) (λ _. over_met q seg (known_group groups seg.group) fact)

  hears_met : (hand : Hand) (r : Option ReadingState) (groups : GroupMapState) (ask server : ℕ) (t : Answered) → RefMet met hand.seg
      → RefMet met (hears_by hand r groups ask server t).state.seg
  hears_met hand None groups ask server t h = h
  hears_met hand (Some r) groups ask server t h = h

  confirms_met : (hand : Hand) (r : Option ReadingState) (ask : ℕ) → RefMet met hand.seg → RefMet met (confirmed_by hand r ask).state.seg
  confirms_met hand None ask h = h
  confirms_met hand (Some r) ask h = h

  checks_met : (hand : Hand) (q : Questions) (block : BlockId) (ask : Option ℕ) → RefMet met hand.seg → RefMet met (checks_under hand q block ask).hand.seg
  checks_met hand q block None h = h
  checks_met hand q block (Some ask) h = h

  dropped_met : (hand : Option Hand) → HandMet met hand → HandMet met (dropped hand)
  dropped_met None h = tt
  dropped_met (Some hand) h = h

  over_hand : (hand : Option Hand) → HandMet met hand → HandMet met (read_over hand)
  over_hand None h = tt
  over_hand (Some hand) h = h

  moved_hand : (hand : Option Hand) → HandMet met hand → HandMet met (hand_moved hand)
  moved_hand None h = tt
  moved_hand (Some hand) h = h

  -- ---- one that serves

  module _ (first : Cleaner) (what : Do) where
    rehanded : (groups : Option GroupMapState) (hand : Option Hand) (q : Questions) (later : Option Hand) (r : Questions)
        → Rehands first what (OutMet met) groups hand q later r → HandMet met hand → HandMet met later
    unfolding hand_check hand_hear hand_confirmed
    rehanded groups hand q later r (TakenUp seg due) h = in_hand_met groups q hand seg due h
    rehanded groups hand q later r (Checked {hand = its} block) h = checks_met its q block (kept_ask its block) h
    rehanded groups hand q later r LetGo h = dropped_met hand h
    rehanded groups hand q later r ReadOver h = over_hand hand h
    rehanded groups hand q later r MovedOver h = moved_hand hand h
    rehanded groups hand q later r (Heard {hand = its} before known ask server t tells knows) h = hears_met its its.reading known ask server t h
    rehanded groups hand q later r (Confirmed {hand = its}) h = confirms_met its its.reading q.last h

    changed : (e f : Emptying) → Changes first what (OutMet met) e f → AnyJobMet met e.job → AnyJobMet met f.job
    changed e f (JobBegun count) h = record { about = tt; hand = tt }
    changed e f JobEnded h = tt
    changed e f (HandChanged x job hand q becomes) h =
        record { about = h.about; hand = rehanded x.maps.groups job.hand x.lasting.questions hand q becomes h.hand }
    changed e f _ h = h

    -- what a server lists was met
    given_met : (e : Emptying) (given : Input) → DoMet what → Given first what e given → InputMet met given
    given_met e given fact (ListCame packet server m same came from) =
        subst (λ s. AllListed s m) from (subst (BodyMet packet.from) came.says (subst DoMet came.event fact))
    given_met e given fact _ = tt

  -- ---- any event

  items_met : (p : Phase) (items : Items) → NodeMet met p → NodeMet met (noted p items)
  items_met (Down l) items h = tt
  items_met (Opening l o) items h = tt
  items_met (Serving e) items h = h

  comes_met : (l : Lasting) (p : Progress) → NodeMet met (came_to l p)
  comes_met l (progress.Opening o) = tt
  comes_met l (progress.Opened o) = tt
  comes_met l (progress.Lost seg) = tt

  restarted : (servers : ℕ) (l : Lasting) (number : ℕ) → NodeMet met (restart servers l number).state
  unfolding restart
  restarted servers l number = tt

  keeps : (first : Cleaner) (what : Do) → DoMet what → StateKeeps first what (NodeMet met) (OutMet met)
  keeps first what fact = record {
    apart = λ one blocks due. (tt, tt);
    changes = λ e f change h. changed first what e f change h;
    cleans = λ e job given came h. (let l = cleaning_met met job.cleaning given (given_met first what _ given fact came) h.about in
        (record { about = l.phase; hand = h.hand }, l.outs));
    puts = λ e i put h. h;
    writes = λ e i came h. h;
    settles = λ e end rows h. h;
    items = λ p items for h. items_met p items h;
    falls = λ p h. tt;
    restarts = λ l number event following h. restarted first.peers.servers l number;
    opens = λ l o x by h. comes_met (record l { questions = x.questions }) x.progress;
  }

  any_cleaner_meets : (cleaner : Cleaner) (what : Do) → CleanerMeets met cleaner → DoMet what → CleanerMeets met (cleaner_step cleaner what).node
  any_cleaner_meets cleaner what h fact = state_goes cleaner what (NodeMet met) (OutMet met) (keeps cleaner what fact) h

-- ---- more was listed

module _ (met later : Met) (grows : (name : SegName) (group : ℕ) → met name group → later name group) where
  turn_rises : (left : List SegRef) (seg : SegRef) → TurnMet met left seg → TurnMet later left seg
  turn_rises left seg h = record {
    here = grows seg.name seg.group h.here;
    behind = all_weaker (RefMet met) (RefMet later) (λ s. grows s.name s.group) left h.behind;
  }

  candidates_rise : (entries : List (SegName × ℕ)) → AllByRecursion (CandidateMet met) entries → AllByRecursion (CandidateMet later) entries
  candidates_rise entries h = all_weaker (CandidateMet met) (CandidateMet later) (λ e. grows e.0 e.1) entries h

  about_rises : (p : jobs_phase.Phase) → PhaseMet met p → PhaseMet later p
  about_rises job_phase.Greeting h = tt
  about_rises (job_phase.Listing l) h = candidates_rise l.candidates h
  about_rises (job_phase.Counting c) h = candidates_rise c.candidates h
  about_rises (job_phase.Reading j seg) h = turn_rises j.left seg h
  about_rises (job_phase.Checking j seg checks) h = turn_rises j.left seg h
  about_rises (job_phase.Deleting j seg servers) h = turn_rises j.left seg h
  about_rises job_phase.Over h = tt

  hand_rises : (hand : Option Hand) → HandMet met hand → HandMet later hand
  hand_rises None h = tt
  hand_rises (Some hand) h = grows hand.seg.name hand.seg.group h

  job_rises : (job : Option Job) → AnyJobMet met job → AnyJobMet later job
  job_rises None h = tt
  job_rises (Some job) h = record { about = about_rises job.cleaning.phase h.about; hand = hand_rises job.hand h.hand }

  node_rises : (p : Phase) → NodeMet met p → NodeMet later p
  node_rises (Down l) h = tt
  node_rises (Opening l o) h = tt
  node_rises (Serving e) h = job_rises e.job h

-- ---- the laws

all_in : {X : Type 0} (P : X → Type 0) (xs : List X) → ((x : X) → In x xs → P x) → AllByRecursion P xs
all_in P [] each = tt
all_in P (x ∷ xs) each = (each x (inl refl), all_in P xs (λ y h. each y (inr h)))

module _ (packets : List Packet) (to : NodeId) (packet : Packet) (among : In packet packets) (reader : packet.to ≡ to) where
  all_listed : (m : Listed) → packet.body ≡ body.Listed m → (server : Option ℕ) → server_in packet.from ≡ server
      → AllListed (listed_in packets to) server m
  all_listed m fact None from = tt
  all_listed m fact (Some server) from =
      all_in (λ (x : FragMeta). ListedIn packets to x.name x.group) m.held
      (λ x held. record {
        packet = packet;
        among = among;
        reader = reader;
        server = server;
        from = from;
        said = m;
        bears = fact;
        meta = x;
        held = held;
        named = refl;
        grouped = refl;
      })

  body_met : (b : Body) → packet.body ≡ b → BodyMet (listed_in packets to) packet.from b
  body_met (body.Listed m) fact = all_listed m fact (server_in packet.from) refl
  body_met _ fact = tt

do_met : (packets : List Packet) (to : NodeId) (what : Do) → IsSent packets to what → DoMet (listed_in packets to) what
do_met packets to Begin h = tt
do_met packets to (Deliver packet) h = body_met packets to packet h.0 h.1 packet.body refl
do_met packets to Tick h = tt

pub cleaner_starts_met : CleanerStartsMet
cleaner_starts_met packets to setup works = tt

pub cleaner_meets_rise : CleanerMeetsRise
cleaner_meets_rise packets more to cleaner grows h =
    node_rises (listed_in packets to) (listed_in more to) (λ name group x. record {
      packet = x.packet;
      among = grows x.packet x.among;
      reader = x.reader;
      server = x.server;
      from = x.from;
      said = x.said;
      bears = x.bears;
      meta = x.meta;
      held = x.held;
      named = x.named;
      grouped = x.grouped;
    }) cleaner.phase h

pub cleaner_events_meet : CleanerEventsMeet
cleaner_events_meet packets to cleaner what h fact = any_cleaner_meets (listed_in packets to) cleaner what h (do_met packets to what fact)
