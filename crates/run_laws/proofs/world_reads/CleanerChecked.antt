-- The Checks that the cleaner sends in an event are of Blocks of the segment that its job checks, or that it reads in the event.
use Rattle.std.proofs.Common.{◌≡◌, ℕ, List, Option, None, Some, subst}
use Rattle.std.specs.List.{AllByRecursion}
use Rattle.cleaner_job.specs.declared.hand.Hand.{Hand}
use Rattle.cleaner_job.specs.declared.job.Job.{Job}
use Rattle.cleaner_job.specs.declared.lasting.Lasting.{Lasting}
use Rattle.cleaner_job.specs.Jobs.{hand_hears_in, job_hear, note_read}
use Rattle.cleaner_node.specs.CleanerEvents.{restart, takes}
use Rattle.cleaner_node.specs.declared.cleaner.Cleaner.{Cleaner}
use Rattle.cleaner_node.specs.declared.cleaner.Phase.{Phase}
use Rattle.cleaner_node.specs.declared.cleaner.Phase.TheVariants.{Down, Opening, Serving}
use Rattle.cleaner_serving.specs.declared.emptying.Emptying.{Emptying}
use Rattle.cleaner_serving.specs.Jobs.{emptying_hear, told_in}
use Rattle.delta_feed.specs.declared.output.Out.{Out as FeedOut}
use Rattle.delta_feed.specs.declared.output.Out.TheVariants.{Range}
use Rattle.delta_feed.specs.FeedState.{FeedState}
use Rattle.delta_feed.specs.Transition.{feed_tick}
use Rattle.group_map.specs.GroupMapState.{GroupMapState}
use Rattle.log_owner.proofs.Behaving as behaving
use Rattle.log_owner.specs.Behaves.{MayDo, MaySay}
use Rattle.log_owner.specs.declared.ended.Owner.{Owner}
use Rattle.log_owner.specs.declared.opened.Progress.{Progress}
use Rattle.log_owner.specs.declared.opened.Progress.TheVariants as progress
use Rattle.log_owner.specs.declared.opening.Opening as openings
use Rattle.log_owner.specs.declared.promised.Managers.{Managers}
use Rattle.log_owner.specs.Opening.{Went}
use Rattle.log_owner.specs.Sending.{push_all, range, server_in}
use Rattle.node_base.specs.declared.effects.Effect.{Effect}
use Rattle.node_base.specs.declared.effects.Effect.TheVariants.{Send, Answer as Answers, Lose, Does}
use Rattle.node_base.specs.declared.items.Items.{Items}
use Rattle.segment_format.specs.declared.segment.Segment.{Segment}
use Rattle.segment_reading.specs.declared.reading.Next.TheVariants as next
use Rattle.stripe_cleaner.specs.declared.input.In.{In}
use Rattle.stripe_cleaner.specs.declared.input.In.TheVariants as input
use Rattle.stripe_code.specs.declared.round.Told.{Told}
use Rattle.stripe_code.specs.declared.round.Told.TheVariants.{Held, Missing as Lacks}
use Rattle.wire_msg.specs.declared.body.Body.{Body}
use Rattle.wire_msg.specs.declared.body.Body.TheVariants as body
use Rattle.wire_msg.specs.declared.packet.Do.{Do}
use Rattle.wire_msg.specs.declared.packet.Do.TheVariants.{Begin, Deliver, Tick}
use Rattle.wire_msg.specs.declared.packet.Packet.{Packet}
use Rattle.node_moves.proofs.cleaner_moves.Keeping.{Changes, EffectKeeps, Gives, StateKeeps, event_leaves}
use Rattle.node_moves.proofs.cleaner_moves.Keeping.Changes.{JobBegun, JobEnded}
use Rattle.node_moves.proofs.cleaner_moves.Keeping.Gives.{CheckAsked}
use Rattle.node_moves.specs.cleaner_moves.Moves.{Given, OpenedBy, Tells, came_to, noted}
use Rattle.node_moves.specs.cleaner_moves.Moves.Given.{SegmentLost, SegmentRead}
use Rattle.node_moves.specs.cleaner_moves.Moves.OpenedBy.{PacketCame, TimeWent}
use Rattle.node_moves.specs.cleaner_moves.Moves.Tells.{AbsenceCame, FragmentCame}
use Rattle.run_laws.proofs.world_reads.CleanerChecks as phases
use Rattle.run_laws.proofs.world_reads.CleanerChecks.{InputMay, May, OutMay, taken_so}
use Rattle.xfs_base.proofs.Alls.{all_map, all_weaker}
use Rattle.xfs_base.specs.declared.node.NodeId.{NodeId}

module _ (may : May) where
  abbrev pub BodyMay : Body → Type 0
  BodyMay (body.Check m) = may m.block m.place
  BodyMay _ = Unit {0}

  abbrev pub EffectMay : Effect → Type 0
  EffectMay (Send to m) = BodyMay m
  EffectMay (Answers item answer) = Unit {0}
  EffectMay (Lose seg) = Unit {0}
  EffectMay (Does act) = Unit {0}

  abbrev AllMay : List Effect → Type 0
  AllMay es = AllByRecursion EffectMay es

  -- what its job checks may be checked
  abbrev pub JobMay : Option Job → Type 0
  JobMay None = Unit {0}
  JobMay (Some job) = phases.PhaseMay may job.cleaning.phase

  abbrev pub PhaseMay : Phase → Type 0
  PhaseMay (Down l) = Unit {0}
  PhaseMay (Opening l o) = Unit {0}
  PhaseMay (Serving e) = JobMay e.job

  -- ---- and what it reads

  abbrev pub InputAt : Option Job → In → Type 0
  InputAt None i = Unit {0}
  InputAt (Some job) i = InputMay may job.cleaning.phase i

  -- what an answer of a server makes the cleaner read
  abbrev pub ToldMay : Emptying → Option ℕ → ℕ → Told → Type 0
  ToldMay e None ask t = Unit {0}
  ToldMay e (Some server) ask t = (s : Segment) → (emptying_hear e ask server t).next ≡ next.Read s → InputAt e.job (input.Read (Some s))

  abbrev pub BodyReadsMay : Emptying → NodeId → Body → Type 0
  BodyReadsMay e from (body.Fragment m) = ToldMay e (server_in from) m.ask (Held m.fragment)
  BodyReadsMay e from (body.Missing m) = ToldMay e (server_in from) m.ask (Lacks m.generation)
  BodyReadsMay e from _ = Unit {0}

  abbrev pub PacketReadsMay : Phase → Packet → Type 0
  PacketReadsMay (Down l) packet = Unit {0}
  PacketReadsMay (Opening l o) packet = Unit {0}
  PacketReadsMay (Serving e) packet = BodyReadsMay e packet.from packet.body

  abbrev pub DoReadsMay : Phase → Do → Type 0
  DoReadsMay p (Deliver packet) = PacketReadsMay p packet
  DoReadsMay p Begin = Unit {0}
  DoReadsMay p Tick = Unit {0}

  -- what is read is read for the job as it was
  hand_input : (job : Job) (hand : Option Hand) (groups : GroupMapState) (ask server : ℕ) (t : Told) (i : In) → InputMay may job.cleaning.phase i
      → InputMay may (hand_hears_in job hand groups ask server t).state.cleaning.phase i
  hand_input job None groups ask server t i owed = owed
  hand_input job (Some hand) groups ask server t i owed = owed

  told_input : (e : Emptying) (o : Option Job) (groups : Option GroupMapState) (ask server : ℕ) (t : Told) (i : In) → InputAt o i → InputAt e.job i
      → InputAt (told_in e o groups ask server t).state.job i
  unfolding job_hear
  told_input e None groups ask server t i given owed = owed
  told_input e (Some job) None ask server t i given owed = owed
  told_input e (Some job) (Some groups) ask server t i given owed = hand_input job job.hand groups ask server t i given

  read_input : (o : Option Job) (i : In) → InputAt o i → InputAt (note_read o) i
  read_input None i owed = tt
  read_input (Some job) i owed = owed

  -- an input by which nothing is read
  abbrev ReadsNothing : In → Type 0
  ReadsNothing (input.Read (Some segment)) = ⊥
  ReadsNothing _ = Unit {0}

  no_input : (o : Option Job) (i : In) → ReadsNothing i → InputAt o i
  no_input None i none = tt
  no_input (Some job) (input.Read (Some segment)) none = absurd none
  no_input (Some job) _ none = tt

  module _ (first : Cleaner) (what : Do) (owed : DoReadsMay first.phase what) where
    body_owed : (e : Emptying) (packet : Packet) → first.phase ≡ Serving e → what ≡ Deliver packet → BodyReadsMay e packet.from packet.body
    body_owed e packet same event = subst (λ p. PacketReadsMay p packet) same (subst (DoReadsMay first.phase) event owed)

    tells_may : (e : Emptying) (ask server : ℕ) (t : Told) → Tells first what e ask server t → ToldMay e (Some server) ask t
    tells_may e ask server t (FragmentCame packet sender m same came from) =
        subst (λ v. ToldMay e v m.ask (Held m.fragment)) from (subst (BodyReadsMay e packet.from) came.says (body_owed e packet same came.event))
    tells_may e ask server t (AbsenceCame packet sender m same came from) =
        subst (λ v. ToldMay e v m.ask (Lacks m.generation)) from (subst (BodyReadsMay e packet.from) came.says (body_owed e packet same came.event))

    given_so : (e : Emptying) (given : In) → Given first what e given → InputAt e.job given
    unfolding emptying_hear
    given_so e given (SegmentRead {before = before} ask server t segment tells fact) =
        let i : InputAt before.job (input.Read (Some segment)) = tells_may before ask server t tells segment fact in
        read_input (emptying_hear before ask server t).state.job (input.Read (Some segment))
        (told_input before before.job before.maps.groups ask server t (input.Read (Some segment)) i i)
    given_so e given SegmentLost = no_input e.job (input.Read None) tt
    given_so e given _ = no_input e.job given tt

    changes_so : (e f : Emptying) → Changes first what (OutMay may) e f → JobMay e.job → JobMay f.job
    changes_so e f (JobBegun count) h = tt
    changes_so e f JobEnded h = tt
    changes_so e f _ h = h

    noted_so : (p : Phase) (items : Items) → PhaseMay p → PhaseMay (noted p items)
    noted_so (Down l) items h = tt
    noted_so (Opening l o) items h = tt
    noted_so (Serving e) items h = h

    restarted : (servers : ℕ) (l : Lasting) (number : ℕ) → PhaseMay (restart servers l number).state
    unfolding restart
    restarted servers l number = tt

    comes_so : (l : Lasting) (p : Progress) → PhaseMay (came_to l p)
    comes_so l (progress.Opening o) = tt
    comes_so l (progress.Opened o) = tt
    comes_so l (progress.Lost seg) = tt

    keeps : StateKeeps first what PhaseMay (OutMay may)
    keeps = record {
      apart = λ one blocks due. (tt, tt);
      changes = λ e f change h. changes_so e f change h;
      cleans = λ e job given came h. (let t = taken_so may job.cleaning given (given_so _ given came) h in (t.phase, t.outs));
      puts = λ e i put h. h;
      writes = λ e i came h. h;
      settles = λ e end rows h. h;
      items = λ p items for h. noted_so p items h;
      falls = λ p h. tt;
      restarts = λ l number event following h. restarted first.peers.servers l number;
      opens = λ l o x by h. comes_so (record l { questions = x.questions }) x.progress;
    }

    -- ---- what it sends

    gives_so : (e : Emptying) (effect : Effect) → Gives first what (OutMay may) e effect → EffectMay effect
    gives_so e effect (CheckAsked block place ask due) = due
    gives_so e effect _ = tt

    -- an opening asks nothing
    said_so : (owner : Owner) (to : NodeId) (m : Body) → MaySay owner to m → BodyMay m
    said_so owner to (body.Check m) says = absurd says
    said_so owner to _ says = tt

    done_so : (owner : Owner) (effect : Effect) → MayDo owner effect → EffectMay effect
    done_so owner (Send to m) does = said_so owner to m does
    done_so owner (Answers item a) does = tt
    done_so owner (Lose seg) does = tt
    done_so owner (Does act) does = tt

    opens_so : (l : Lasting) (o : openings.Opening) (x : Went) → OpenedBy what l o x → AllMay x.effects
    opens_so l o x (PacketCame packet event) =
        all_weaker (MayDo o.known.owner) EffectMay (done_so o.known.owner) x.effects (behaving.packet_so o l.questions packet).does
    opens_so l o x (TimeWent event) =
        all_weaker (MayDo o.known.owner) EffectMay (done_so o.known.owner) x.effects (behaving.tick_so o l.questions).does

    range_so : (managers : Managers) (o : FeedOut) → EffectMay (range managers o)
    range_so managers (Range slot past upto rows) = tt

    pushed : (managers : Managers) (feed : FeedState) → AllMay (push_all managers feed)
    pushed managers feed = all_map EffectMay (range managers) (range_so managers) (feed_tick feed)

    gives : EffectKeeps first what PhaseMay (OutMay may) EffectMay
    gives = record {
      gives = λ e effect given h. gives_so e effect given;
      sends = λ f m. tt;
      files = λ name. tt;
      pushes = λ e h. pushed e.promised.managers e.feed;
      answers = λ number a due. tt;
      greets = λ inc ask. tt;
      opens = λ l o x same by. opens_so l o x by;
    }

  -- whatever happens to it
  pub event_asks : (cleaner : Cleaner) (what : Do) → DoReadsMay cleaner.phase what → PhaseMay cleaner.phase
      → AllByRecursion EffectMay (takes cleaner.peers cleaner.phase what).outs
  event_asks cleaner what owed h = (event_leaves cleaner what PhaseMay (OutMay may) EffectMay (keeps cleaner what owed) (gives cleaner what owed) h).1
