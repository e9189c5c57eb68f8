-- What the cleaner gives up a server listed to it: so it was in flight in a log of the run.
use Rattle.std.proofs.Common.{◌≡◌, ℕ, List, [], ◌∷◌, map, Option, Some, None, inl, inr, refl, sym, subst}
use Rattle.std.specs.List.{AllByRecursion}
use Rattle.cleaner_job.specs.declared.job.Job.{Job}
use Rattle.cleaner_job.specs.declared.lasting.Lasting.{Lasting}
use Rattle.cleaner_node.specs.CleanerEvents.{restart, takes}
use Rattle.cleaner_node.specs.declared.cleaner.Cleaner.{Cleaner}
use Rattle.cleaner_node.specs.declared.cleaner.Phase.{Phase}
use Rattle.cleaner_node.specs.declared.cleaner.Phase.TheVariants.{Down, Opening, Serving}
use Rattle.cleaner_serving.specs.declared.emptying.Emptying.{Emptying}
use Rattle.delta_feed.specs.declared.output.Out as feed
use Rattle.delta_feed.specs.declared.output.Out.TheVariants.{Range}
use Rattle.delta_feed.specs.Transition.{feed_tick}
use Rattle.log_owner.proofs.Behaving as behaving
use Rattle.log_owner.specs.Behaves.{MayDo}
use Rattle.log_owner.specs.declared.opened.Progress.{Progress}
use Rattle.log_owner.specs.declared.opened.Progress.TheVariants as progress
use Rattle.log_owner.specs.declared.opening.Opening as openings
use Rattle.log_owner.specs.declared.ended.Owner.{Owner}
use Rattle.log_owner.specs.declared.promised.Managers.{Managers}
use Rattle.log_owner.specs.Opening.{Went}
use Rattle.log_owner.specs.Sending.{range, server_in}
use Rattle.node_base.specs.declared.effects.Effect.{Effect}
use Rattle.node_base.specs.declared.effects.Effect.TheVariants.{Send, Answer as Answers, Lose, Does}
use Rattle.node_base.specs.declared.items.Items.{Items}
use Rattle.node_base.specs.Effects.{acts_of}
use Rattle.node_moves.proofs.cleaner_moves.JobWalk.{DoneSo, InputSo, OutSo, SegmentsSo, WalkLaw, any_checks, any_live, walk_so}
use Rattle.node_moves.proofs.cleaner_moves.Keeping.{Changes, EffectKeeps, Gives, StateKeeps, event_leaves}
use Rattle.node_moves.proofs.cleaner_moves.Keeping.Changes.{JobBegun, JobEnded}
use Rattle.node_moves.proofs.cleaner_moves.Keeping.Gives.{SegmentDropped}
use Rattle.node_moves.specs.cleaner_moves.Moves.{Given, OpenedBy, came_to, noted}
use Rattle.node_moves.specs.cleaner_moves.Moves.Given.{ListCame}
use Rattle.node_moves.specs.cleaner_moves.Moves.OpenedBy.{PacketCame, TimeWent}
use Rattle.node_tellings.specs.reading_tie.CleanerMeets.{AnyJobMet, CleanerMeets, IsSent, PhaseMet, listed_in}
use Rattle.stripe_cleaner.specs.Checks.{checks_of}
use Rattle.stripe_cleaner.specs.CleaningState.{CleaningState}
use Rattle.stripe_cleaner.specs.declared.checks.Check.{Check}
use Rattle.stripe_cleaner.specs.declared.input.In.{In as Input}
use Rattle.stripe_cleaner.specs.declared.input.In.TheVariants as input
use Rattle.stripe_cleaner.specs.declared.output.Out.{Out}
use Rattle.stripe_cleaner.specs.declared.output.Out.TheVariants as out
use Rattle.stripe_cleaner.specs.declared.phase.Phase as jobs
use Rattle.stripe_cleaner.specs.declared.phase.Phase.TheVariants.{Greeting, Listing, Counting, Over}
use Rattle.stripe_cleaner.specs.Transition.{Done, transition}
use Rattle.token_protocol.specs.Basics.{In}
use Rattle.version_model.specs.declared.act.Act.TheVariants as act
use Rattle.wire_msg.specs.declared.body.Body.TheVariants as body
use Rattle.wire_msg.specs.declared.packet.Do.{Do}
use Rattle.wire_msg.specs.declared.packet.Do.TheVariants.{Deliver}
use Rattle.wire_msg.specs.declared.packet.Packet.{Packet}
use Rattle.wire_msg.specs.declared.storage.Listed.{Listed}
use Rattle.xfs_base.proofs.Alls.{all_each, all_weaker}
use Rattle.xfs_base.specs.declared.fragment.FragMeta.{FragMeta}
use Rattle.xfs_base.specs.declared.node.NodeId.{NodeId}
use Rattle.xfs_base.specs.declared.segment.SegName.{SegName}

module _ (packets : List Packet) (to : NodeId) where
  abbrev met : SegName → ℕ → Type 0
  met = listed_in packets to

  -- ---- the job

  abbrev OutMet : Out → Type 0
  OutMet (out.Delete server name) = (group : ℕ) × met name group
  OutMet _ = Unit {0}

  abbrev InputMet : Input → Type 0
  InputMet (input.Listed server held) = AllByRecursion (λ (m : FragMeta). met m.name m.group) held
  InputMet _ = Unit {0}

  record Leaves (d : Done) : Type 0 where
    phase : PhaseMet met d.state.phase
    outs : AllByRecursion OutMet d.outs

  -- what is chosen was listed
  abbrev law : WalkLaw
  law = record {
    FateSo = λ block fate. Unit {0};
    LiveSo = λ block entry fate. Unit {0};
    ReadSo = λ s. Unit {0};
    Greets = Unit {0};
    SlotsSo = λ slots. Unit {0};
    HeldSo = λ meta. met meta.name meta.group;
    SegmentSo = met;
    moved = λ block. tt;
    dead = λ block. tt;
    reads = λ s known. all_each (λ (c : Check). Unit {0}) (λ c. tt) (checks_of 0 s.items);
    lives = λ block told entry value same live may h. tt;
    chooses = λ slots meta judges held fact. held;
  }

  as_known : (p : jobs.Phase) → PhaseMet met p → SegmentsSo law p
  as_known Greeting h = tt
  as_known (Listing l) h = (tt, h)
  as_known (Counting c) h = h
  as_known Over h = tt
  as_known _ h = record { here = h.here; behind = h.behind }

  as_met : (p : jobs.Phase) → SegmentsSo law p → PhaseMet met p
  as_met Greeting h = tt
  as_met (Listing l) h = h.1
  as_met (Counting c) h = h
  as_met Over h = tt
  as_met _ h = record { here = h.here; behind = h.behind }

  as_owed : (p : jobs.Phase) (i : Input) → InputMet i → InputSo law p i
  as_owed p (input.Listed server held) fact = fact
  as_owed p (input.Read (Some segment)) fact = tt
  as_owed p (input.Read None) fact = tt
  as_owed p (input.Live block epoch entry) fact = any_live law block entry (λ fate. tt) p
  as_owed p _ fact = tt

  out_met : (o : Out) → OutSo law o → OutMet o
  out_met (out.Delete server name) so = so
  out_met _ so = tt

  job_met : (s : CleaningState) (i : Input) → InputMet i → PhaseMet met s.phase → Leaves (transition s i)
  job_met s i fact h =
      let d : DoneSo law (transition s i) =
      walk_so law s i (record { segments = as_known s.phase h; checks = any_checks law (λ block fate. tt) s.phase }) (as_owed s.phase i fact) in
      record { phase = as_met (transition s i).state.phase d.phase.segments; outs = all_weaker (OutSo law) OutMet out_met (transition s i).outs d.outs }

  -- ---- the cleaner

  abbrev About : Option Job → Type 0
  About None = Unit {0}
  About (Some job) = PhaseMet met job.cleaning.phase

  abbrev Stands : Phase → Type 0
  Stands (Down l) = Unit {0}
  Stands (Opening l o) = Unit {0}
  Stands (Serving e) = About e.job

  -- what it gives up was listed
  abbrev Gone : Effect → Type 0
  Gone (Does (act.Dropped name)) = (group : ℕ) × met name group
  Gone _ = Unit {0}

  items_stand : (p : Phase) (items : Items) → Stands p → Stands (noted p items)
  items_stand (Down l) items h = tt
  items_stand (Opening l o) items h = tt
  items_stand (Serving e) items h = h

  comes_stand : (l : Lasting) (p : Progress) → Stands (came_to l p)
  comes_stand l (progress.Opening o) = tt
  comes_stand l (progress.Opened o) = tt
  comes_stand l (progress.Lost seg) = tt

  restarts_stand : (servers : ℕ) (l : Lasting) (number : ℕ) → Stands (restart servers l number).state
  unfolding restart
  restarts_stand servers l number = tt

  pushes_gone : (managers : Managers) (xs : List feed.Out) → AllByRecursion Gone (map (range managers) xs)
  pushes_gone managers [] = tt
  pushes_gone managers (Range slot first upto rows ∷ xs) = (tt, pushes_gone managers xs)

  may_gone : (owner : Owner) (e : Effect) → MayDo owner e → Gone e
  may_gone owner (Does (act.Dropped name)) may = absurd may
  may_gone owner _ may = tt

  module _ (first : Cleaner) (what : Do) (sent : IsSent packets to what) where
    changed : (e f : Emptying) → Changes first what OutMet e f → About e.job → About f.job
    changed e f (JobBegun count) h = tt
    changed e f JobEnded h = tt
    changed e f _ h = h

    listed : (packet : Packet) (server : ℕ) (m : Listed) → what ≡ Deliver packet → packet.body ≡ body.Listed m → server_in packet.from ≡ Some server
        → (held : List FragMeta) → ((x : FragMeta) → In x held → In x m.held) → AllByRecursion (λ (x : FragMeta). met x.name x.group) held
    listed packet server m event says from [] within = tt
    listed packet server m event says from (x ∷ held) within = (
      record {
        packet = packet;
        among = (subst (IsSent packets to) event sent).0;
        reader = (subst (IsSent packets to) event sent).1;
        server = server;
        from = from;
        said = m;
        bears = says;
        meta = x;
        held = within x (inl refl);
        named = refl;
        grouped = refl;
      },
      listed packet server m event says from held (λ y fact. within y (inr fact)),
    )

    given_met : (e : Emptying) (given : Input) → Given first what e given → InputMet given
    given_met e given (ListCame packet server m same came from) = listed packet server m came.event came.says from m.held (λ x fact. fact)
    given_met e given _ = tt

    gives_gone : (e : Emptying) (effect : Effect) → Gives first what OutMet e effect → Gone effect
    gives_gone e effect (SegmentDropped server name due) = due
    gives_gone e effect _ = tt

    opens_gone : (l : Lasting) (o : openings.Opening) (x : Went) → OpenedBy what l o x → AllByRecursion Gone x.effects
    opens_gone l o x (PacketCame packet event) =
        all_weaker (MayDo o.known.owner) Gone (may_gone o.known.owner) _ (behaving.packet_so o l.questions packet).does
    opens_gone l o x (TimeWent event) = all_weaker (MayDo o.known.owner) Gone (may_gone o.known.owner) _ (behaving.tick_so o l.questions).does

    keeps : StateKeeps first what Stands OutMet
    keeps = record {
      apart = λ one blocks due. (tt, tt);
      changes = λ e f change h. changed e f change h;
      cleans = λ e job given came h. (let l = job_met job.cleaning given (given_met _ given came) h in (l.phase, l.outs));
      puts = λ e i put h. h;
      writes = λ e i came h. h;
      settles = λ e end rows h. h;
      items = λ p items for h. items_stand p items h;
      falls = λ p h. tt;
      restarts = λ l number event following h. restarts_stand first.peers.servers l number;
      opens = λ l o x by h. comes_stand (record l { questions = x.questions }) x.progress;
    }

    says : EffectKeeps first what Stands OutMet Gone
    says = record {
      gives = λ e effect given h. gives_gone e effect given;
      sends = λ f m. tt;
      files = λ name. tt;
      pushes = λ e h. pushes_gone e.promised.managers (feed_tick e.feed);
      answers = λ number a due. tt;
      greets = λ inc ask. tt;
      opens = λ l o x same by. opens_gone l o x by;
    }

    -- what it has met, by its job
    stands : (p : Phase) → CleanerMeets met (record first { phase = p }) → Stands p
    stands (Down l) h = tt
    stands (Opening l o) h = tt
    stands (Serving e) h = by e.job h
      where
        by : (job : Option Job) → AnyJobMet met job → About job
        by None k = tt
        by (Some job) k = k.about

    gone_of : (me : NodeId) (outs : List Effect) → AllByRecursion Gone outs → (name : SegName) → In (act.Dropped name) (acts_of me outs)
        → (group : ℕ) × met name group
    gone_of me [] all name fact = absurd fact
    gone_of me (Send other m ∷ outs) all name fact = gone_of me outs all.1 name fact
    gone_of me (Answers item a ∷ outs) all name (inl same) = absurd cc
    gone_of me (Answers item a ∷ outs) all name (inr fact) = gone_of me outs all.1 name fact
    gone_of me (Lose seg ∷ outs) all name (inl same) = absurd cc
    gone_of me (Lose seg ∷ outs) all name (inr fact) = gone_of me outs all.1 name fact
    gone_of me (Does a ∷ outs) all name (inl same) = subst (λ x. Gone (Does x)) (sym same) all.0
    gone_of me (Does a ∷ outs) all name (inr fact) = gone_of me outs all.1 name fact

    pub dropped_met : (me : NodeId) → CleanerMeets met first → (name : SegName) → In (act.Dropped name) (acts_of me (takes first.peers first.phase what).outs)
        → (group : ℕ) × met name group
    dropped_met me meets name fact =
        gone_of me (takes first.peers first.phase what).outs
        (event_leaves first what Stands OutMet Gone keeps says (stands first.phase meets)).1 name fact
