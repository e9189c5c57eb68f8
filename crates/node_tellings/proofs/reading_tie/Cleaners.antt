-- What each event makes of the cleaner: what it reads came, and its maps are as said; and what its reading ends with is joined of what came.
use Rattle.std.proofs.Common.{◌≡◌, ℕ, Option, Some, None, refl, subst, ◌∙◌}
use Rattle.cleaner_job.specs.declared.hand.Hand.{Hand}
use Rattle.cleaner_job.specs.declared.job.Job.{Job}
use Rattle.cleaner_job.specs.declared.lasting.Lasting.{Lasting}
use Rattle.cleaner_job.specs.Hands.{Taken, hand_check, checks_under, confirmed_by, hand_confirmed, hand_hear, hears_by, is_in_hand, kept_ask, known_group, take_over, take_in_hand}
use Rattle.cleaner_job.specs.Jobs.{dropped, hand_hears_in, hand_moved, hand_of, job_hear, read_over}
use Rattle.cleaner_node.specs.CleanerEvents.{cleaner_step, restart}
use Rattle.cleaner_node.specs.declared.cleaner.Cleaner.{Cleaner}
use Rattle.cleaner_node.specs.declared.cleaner.Phase.{Phase}
use Rattle.cleaner_node.specs.declared.cleaner.Phase.TheVariants.{Down, Opening, Serving}
use Rattle.cleaner_serving.specs.declared.emptying.Emptying.{Emptying}
use Rattle.cleaner_serving.specs.Jobs.{emptying_hear, told_in}
use Rattle.group_map.specs.declared.group.Group.{Group}
use Rattle.group_map.specs.GroupMapState.{GroupMapState}
use Rattle.log_owner.specs.declared.opened.Progress.{Progress}
use Rattle.log_owner.specs.declared.opened.Progress.TheVariants as progress
use Rattle.log_owner.specs.declared.opening.Opening as openings
use Rattle.log_owner.specs.Opening.{Went}
use Rattle.node_base.specs.Asking.{next_ask}
use Rattle.node_base.specs.declared.items.Items.{Items}
use Rattle.node_base.specs.declared.questions.Questions.{Questions}
use Rattle.segment_format.specs.declared.segment.Segment.{Segment}
use Rattle.segment_reading.specs.declared.reading.Next.TheVariants as next
use Rattle.segment_reading.specs.declared.target.Target.{Target}
use Rattle.segment_reading.specs.Reading.{ReadingState}
use Rattle.stripe_cleaner.specs.declared.output.Out.{Out}
use Rattle.stripe_cleaner.specs.Transition.{transition}
use Rattle.stripe_code.specs.declared.round.Told.{Told as Answered}
use Rattle.stripe_code.specs.declared.round.Told.TheVariants as answered
use Rattle.takeover.proofs.Readings.{target-reading_take, target-on_confirmed}
use Rattle.wire_msg.specs.declared.body.Body.{Body}
use Rattle.wire_msg.specs.declared.body.Body.TheVariants as body
use Rattle.wire_msg.specs.declared.packet.Do.{Do}
use Rattle.wire_msg.specs.declared.packet.Packet.{Packet}
use Rattle.wire_msg.specs.declared.registry.News.{News}
use Rattle.xfs_base.proofs.Alls.{all_each}
use Rattle.xfs_base.proofs.Booleans.{by_test}
use Rattle.xfs_base.specs.declared.block.BlockId.{BlockId}
use Rattle.xfs_base.specs.declared.node.NodeId.{NodeId}
use Rattle.xfs_base.specs.declared.segment.SegRef.{SegRef}
use Rattle.node_moves.proofs.cleaner_moves.Keeping.{Changes, Rehands, StateKeeps, state_goes}
use Rattle.node_moves.proofs.cleaner_moves.Keeping.Changes.{HandChanged, JobBegun, JobEnded, MapsTaken}
use Rattle.node_moves.proofs.cleaner_moves.Keeping.Rehands.{Checked, Confirmed, Heard, LetGo, MovedOver, ReadOver, TakenUp}
use Rattle.node_moves.specs.cleaner_moves.Moves.{OpenedBy, Tells, came_to, noted}
use Rattle.node_moves.specs.cleaner_moves.Moves.OpenedBy.{PacketCame, TimeWent}
use Rattle.node_moves.specs.cleaner_moves.Moves.Tells.{AbsenceCame, FragmentCame}
use Rattle.node_moves.specs.server_moves.Moves.{Brought, news_in}
use Rattle.node_tellings.specs.reading_tie.Arrivals.{answered_in, cut_by}
use Rattle.node_tellings.proofs.reading_tie.Arrivals.{AnswerBrought, BodyBrought, DoBrought}
use Rattle.node_tellings.specs.reading_tie.Came.{AnyReadingCame, Came, GroupStriped, MapStriped, MapsStriped, ReadsJoined, Striped}
use Rattle.node_tellings.proofs.reading_tie.Came.{CameMore, StripedMore}
use Rattle.node_tellings.specs.reading_tie.CleanerReads.{AnyHandHolds, CleanerEventsKeep, CleanerHolds, CleanerHoldsRise, CleanerReadsWhatCame, CleanerStarts, HandHolds, LooksFor, PhaseHolds, ReadsHand, ServesSo}
use Rattle.node_tellings.proofs.reading_tie.Arriving.{answered_more, do_brought, maps_take_so}
use Rattle.node_tellings.proofs.reading_tie.Openings as maps
use Rattle.node_tellings.proofs.reading_tie.Readings.{answered_came, answered_reads, any_rises, begun_came, confirmed_came, maps_rise}

module _ (came : Came) (striped : Striped) where
  abbrev Holds : Option Hand → Type 0
  Holds hand = AnyHandHolds came striped hand

  -- ---- the segment in hand

  grouped : (groups : Option GroupMapState) (id : ℕ) (group : Group) → known_group groups id ≡ Some group → MapsStriped striped groups
      → GroupStriped striped id group
  grouped None id group fact h = absurd cc
  grouped (Some groups) id group fact h = h id group fact

  over_so : (q : Questions) (seg : SegRef) (groups : Option GroupMapState) (group : Option Group) → known_group groups seg.group ≡ group
      → MapsStriped striped groups → Holds (take_over q seg group).hand
  over_so q seg groups None fact h = tt
  over_so q seg groups (Some group) fact h = record {
    looks = refl;
    reading = begun_came came striped (record { seg = seg; block = None }) group (next_ask q) (grouped groups seg.group group fact h);
  }

  in_hand_so : (groups : Option GroupMapState) (q : Questions) (hand : Option Hand) (seg : SegRef) → MapsStriped striped groups → Holds hand
      → Holds (take_in_hand groups q hand seg).hand
  unfolding take_in_hand
  in_hand_so groups q hand seg h fact =
      by_test (λ (t : Taken). Holds t.hand) (is_in_hand hand seg) (record { hand = hand; questions = q }) (take_over q seg (known_group groups seg.group))
      (λ _. fact) (λ _. over_so q seg groups (known_group groups seg.group) refl h)

  hears_so : (hand : Hand) (r : Option ReadingState) (groups : GroupMapState) (ask server : ℕ) (t : Answered) → HandHolds came striped hand.seg hand.reading
      → LooksFor hand.seg r → AnyReadingCame came striped r → came ask server t → Holds (Some (hears_by hand r groups ask server t).state)
  hears_so hand None groups ask server t h looks reading fact = h
  hears_so hand (Some r) groups ask server t h looks reading fact =
      record { looks = target-reading_take r groups ask server t ∙ looks; reading = answered_came came striped r groups ask server t reading fact }

  hand_reads : (job : Job) (hand : Option Hand) (groups : GroupMapState) (ask server : ℕ) (t : Answered) (segment : Segment) → Holds hand
      → came ask server t → (hand_hears_in job hand groups ask server t).next ≡ next.Read segment → ReadsHand came striped hand segment
  unfolding hand_hear
  hand_reads job None groups ask server t segment h fact e = absurd cc
  hand_reads job (Some hand) groups ask server t segment h fact e = by hand.reading h.looks h.reading e
    where
      by : (r : Option ReadingState) → LooksFor hand.seg r → AnyReadingCame came striped r
          → (hears_by hand r groups ask server t).next ≡ next.Read segment → ReadsJoined came striped hand.seg segment
      by None looks reading read = absurd cc
      by (Some r) looks reading read =
          let found = answered_reads came striped r groups ask server t segment reading fact read in
          subst (λ (target : Target). ReadsJoined came striped target.seg segment) looks found.joined

  pub told_reads : (e : Emptying) (ask server : ℕ) (t : Answered) (segment : Segment) → ServesSo came striped e → came ask server t
      → (emptying_hear e ask server t).next ≡ next.Read segment → ReadsHand came striped (hand_of e.job) segment
  unfolding emptying_hear job_hear
  told_reads e ask server t segment h fact read_so = by e.job e.maps.groups h.hand read_so
    where
      by : (job : Option Job) (groups : Option GroupMapState) → Holds (hand_of job) → (told_in e job groups ask server t).next ≡ next.Read segment
          → ReadsHand came striped (hand_of job) segment
      by None groups hand read = absurd cc
      by (Some job) None hand read = absurd cc
      by (Some job) (Some groups) hand read = hand_reads job job.hand groups ask server t segment hand fact read

  confirms_hand : (hand : Hand) (r : Option ReadingState) (ask : ℕ) → HandHolds came striped hand.seg hand.reading → LooksFor hand.seg r
      → AnyReadingCame came striped r → Holds (Some (confirmed_by hand r ask).state)
  confirms_hand hand None ask h looks reading = h
  confirms_hand hand (Some r) ask h looks reading =
      record { looks = target-on_confirmed r ask ∙ looks; reading = confirmed_came came striped r ask reading }

  checked_so : (hand : Hand) (q : Questions) (block : BlockId) (ask : Option ℕ) → Holds (Some hand) → Holds (Some (checks_under hand q block ask).hand)
  checked_so hand q block None h = h
  checked_so hand q block (Some ask) h = h

  dropped_so : (hand : Option Hand) → Holds hand → Holds (dropped hand)
  dropped_so None h = tt
  dropped_so (Some hand) h = h

  over_so_far : (hand : Option Hand) → Holds (read_over hand)
  over_so_far None = tt
  over_so_far (Some hand) = record { looks = tt; reading = tt }

  moved_so : (hand : Option Hand) → Holds hand → Holds (hand_moved hand)
  moved_so None h = tt
  moved_so (Some hand) h = h

  -- ---- one that serves

  module _ (first : Cleaner) (what : Do) (fact : DoBrought came striped what) where
    abbrev Any : Out → Type 0
    Any o = Unit {0}

    news_striped : (from : NodeId) (said : Body) (news : News) → news_in said ≡ Some news → BodyBrought came striped from said → MapStriped striped news.groups
    news_striped from (body.MapNews m) news brings seen = (let same : m ≡ news = cc in subst (λ (x : News). MapStriped striped x.groups) same seen)
    news_striped from (body.Welcome m) news brings seen = (let same : m.news ≡ news = cc in subst (λ (x : News). MapStriped striped x.groups) same seen)
    news_striped from _ news brings seen = absurd cc

    maps_came : (packet : Packet) (news : News) → Brought what packet news → MapStriped striped news.groups
    maps_came packet news brought =
        news_striped packet.from packet.body news brought.brings (subst (DoBrought came striped) brought.event fact)

    told_came : (e : Emptying) (ask server : ℕ) (t : Answered) → Tells first what e ask server t → came ask server t
    told_came e ask server t (FragmentCame packet v m same it from) =
        subst (λ o. AnswerBrought came o m.ask (answered.Held m.fragment)) from
        (subst (BodyBrought came striped packet.from) it.says (subst (DoBrought came striped) it.event fact))
    told_came e ask server t (AbsenceCame packet v m same it from) =
        subst (λ o. AnswerBrought came o m.ask (answered.Missing m.generation)) from
        (subst (BodyBrought came striped packet.from) it.says (subst (DoBrought came striped) it.event fact))

    rehanded : (groups : Option GroupMapState) (hand : Option Hand) (q : Questions) (later : Option Hand) (r : Questions)
        → Rehands first what Any groups hand q later r → MapsStriped striped groups → Holds hand → Holds later
    unfolding hand_check hand_hear hand_confirmed
    rehanded groups hand q later r (TakenUp seg due) m h = in_hand_so groups q hand seg m h
    rehanded groups hand q later r (Checked {hand = its} block) m h = checked_so its q block (kept_ask its block) h
    rehanded groups hand q later r LetGo m h = dropped_so hand h
    rehanded groups hand q later r ReadOver m h = over_so_far hand
    rehanded groups hand q later r MovedOver m h = moved_so hand h
    rehanded groups hand q later r (Heard {hand = its} before known ask server t tells knows) m h =
        hears_so its its.reading known ask server t h h.looks h.reading (told_came before ask server t tells)
    rehanded groups hand q later r (Confirmed {hand = its}) m h = confirms_hand its its.reading q.last h h.looks h.reading

    changed : (e f : Emptying) → Changes first what Any e f → ServesSo came striped e → ServesSo came striped f
    changed e f (MapsTaken {e = x} packet news brought) h =
        record { maps = maps_take_so striped x.maps news h.maps (maps_came packet news brought); hand = h.hand }
    changed e f (JobBegun count) h = record { maps = h.maps; hand = tt }
    changed e f JobEnded h = record { maps = h.maps; hand = tt }
    changed e f (HandChanged x job hand q becomes) h =
        record { maps = h.maps; hand = rehanded x.maps.groups job.hand x.lasting.questions hand q becomes h.maps h.hand }
    changed e f _ h = record { maps = h.maps; hand = h.hand }

    -- ---- any event

    items_so : (p : Phase) (items : Items) → PhaseHolds came striped p → PhaseHolds came striped (noted p items)
    items_so (Down l) items h = tt
    items_so (Opening l o) items h = h
    items_so (Serving e) items h = record { maps = h.maps; hand = h.hand }

    restarted : (servers : ℕ) (l : Lasting) (number : ℕ) → PhaseHolds came striped (restart servers l number).state
    unfolding restart
    restarted servers l number = tt

    comes_so : (l : Lasting) (p : Progress) → maps.ProgressSo came striped p → PhaseHolds came striped (came_to l p)
    comes_so l (progress.Opening o) h = h
    comes_so l (progress.Opened o) h = record { maps = h; hand = tt }
    comes_so l (progress.Lost seg) h = tt

    opens_so : (l : Lasting) (o : openings.Opening) (x : Went) → OpenedBy what l o x → MapsStriped striped o.known.maps.groups
        → PhaseHolds came striped (came_to (record l { questions = x.questions }) x.progress)
    opens_so l o x (PacketCame packet event) h =
        comes_so (record l { questions = x.questions }) x.progress
        (maps.packet_so came striped o l.questions packet (subst (DoBrought came striped) event fact) h)
    opens_so l o x (TimeWent event) h = comes_so (record l { questions = x.questions }) x.progress (maps.time_so came striped o l.questions h)

    keeps : StateKeeps first what (PhaseHolds came striped) Any
    keeps = record {
      apart = λ one blocks due. (tt, tt);
      changes = λ e f change h. changed e f change h;
      cleans = λ e job given it h. (record { maps = h.maps; hand = h.hand }, all_each Any (λ o. tt) (transition job.cleaning given).outs);
      puts = λ e i put h. record { maps = h.maps; hand = h.hand };
      writes = λ e i it h. record { maps = h.maps; hand = h.hand };
      settles = λ e end rows h. record { maps = h.maps; hand = h.hand };
      items = λ p items for h. items_so p items h;
      falls = λ p h. tt;
      restarts = λ l number event following h. restarted first.peers.servers l number;
      opens = λ l o x by h. opens_so l o x by h;
    }

  -- ---- of whatever came

  pub any_cleaner_keeps : (cleaner : Cleaner) (what : Do) → CleanerHolds came striped cleaner → DoBrought came striped what
      → CleanerHolds came striped (cleaner_step cleaner what).node
  any_cleaner_keeps cleaner what h fact = state_goes cleaner what (PhaseHolds came striped) (λ o. Unit {0}) (keeps cleaner what fact) h

module _ (came later : Came) (striped more : Striped) (grows : CameMore came later) (widens : StripedMore striped more) where
  hand_rises : (hand : Option Hand) → AnyHandHolds came striped hand → AnyHandHolds later more hand
  hand_rises None h = tt
  hand_rises (Some hand) h = record { looks = h.looks; reading = any_rises came later striped more grows widens hand.reading h.reading }

  pub phase_rises : (p : Phase) → PhaseHolds came striped p → PhaseHolds later more p
  phase_rises (Down l) h = tt
  phase_rises (Opening l o) h = maps_rise came later striped more grows widens o.known.maps.groups h
  phase_rises (Serving e) h =
      record { maps = maps_rise came later striped more grows widens e.maps.groups h.maps; hand = hand_rises (hand_of e.job) h.hand }

-- ---- the laws

pub cleaner_starts : CleanerStarts
cleaner_starts packets to cuts setup works known = record { maps = known; hand = tt }

pub cleaner_rises : CleanerHoldsRise
cleaner_rises packets more to cuts cleaner grows h =
    phase_rises (answered_in packets to) (answered_in more to) (cut_by cuts) (cut_by cuts) (answered_more packets more to grows)
    (λ id members parity fact. fact) cleaner.phase h

pub cleaner_keeps : CleanerEventsKeep
cleaner_keeps packets to cuts cleaner what h fact =
    any_cleaner_keeps (answered_in packets to) (cut_by cuts) cleaner what h (do_brought packets to cuts what fact)

pub cleaner_reads : CleanerReadsWhatCame
cleaner_reads packets to cuts e ask server told segment h fact read = told_reads (answered_in packets to) (cut_by cuts) e ask server told segment h fact read
