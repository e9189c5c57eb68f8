-- What a packet that was sent tells the node that gets it is so, as far as it isn't owed.
use Rattle.std.proofs.Common.{◌≡◌, ℕ, ◌<◌, true, List, Option, None, Some, refl, sym, ap, subst, ◌∙◌}
use Rattle.std.proofs.lemmas.Bool.{eqb-true}
use Rattle.std.proofs.Math.Nat.{mod-eq_of_lt}
use Rattle.cleaner_serving.specs.declared.emptying.Emptying.{Emptying}
use Rattle.cleaner_node.specs.CleanerEvents.{lasting_of}
use Rattle.cleaner_node.specs.declared.cleaner.Phase.{Phase as CleanerPhase}
use Rattle.cleaner_node.specs.declared.cleaner.Phase.TheVariants as cleaning
use Rattle.cleaner_job.specs.declared.hand.Hand.{Hand}
use Rattle.cleaner_job.specs.declared.job.Job.{Job}
use Rattle.cleaner_job.specs.Hands.{asked_of}
use Rattle.cleaner_job.specs.Jobs.{check_of, hand_of, is_out}
use Rattle.index_tie.specs.Net.{Net, IsInHand}
use Rattle.index_tie.specs.NetLaws.{CheckpointsHaveManagers, Moment}
use Rattle.log_owner.specs.Promised.{epoch_of}
use Rattle.manager_node.specs.declared.phase.Phase.{Phase as ManagerPhase}
use Rattle.manager_node.specs.declared.phase.Phase.TheVariants as managing
use Rattle.manager_slots.specs.declared.slot_phase.SlotPhase.{SlotPhase}
use Rattle.node_base.specs.declared.questions.Questions.{Questions as Asker}
use Rattle.node_slots.specs.node_index_tie.ManagerEvents.{AllNewsGets, DeltasGets, EventGets, ReportGets, ServingGets, WaitingGets}
use Rattle.node_slots.specs.node_index_tie.RegistryEvents.{BodyGets as RegistryBodyGets, DoGets, RegistryOwed}
use Rattle.node_slots.specs.node_index_tie.Sight.{CheckKnown, CkptSeen, DeadKnown, Questions, held_in}
use Rattle.headline.specs.Filed.{Texts}
use Rattle.node_slots.specs.node_tie.ManagerEvents.{epoch_in}
use Rattle.headline.specs.Managers.{phase_at}
use Rattle.node_slots.specs.owner_index_tie.CleanerEvents.{DeadGiven, JobAgrees, PhaseAgrees}
use Rattle.node_slots.specs.owner_index_tie.CleanerEvents as cleaners
use Rattle.node_slots.specs.owner_index_tie.CleanerMoves.{BodyAnswers}
use Rattle.stripe_cleaner.specs.declared.phase.Phase.{Phase}
use Rattle.stripe_cleaner.specs.declared.phase.Phase.TheVariants.{Checking}
use Rattle.wire_msg.specs.declared.body.Body.{Body}
use Rattle.wire_msg.specs.declared.body.Body.TheVariants as body
use Rattle.wire_msg.specs.declared.cleaning.Check.{Check}
use Rattle.wire_msg.specs.declared.cleaning.Dead.{Dead}
use Rattle.wire_msg.specs.declared.cleaning.Live.{Live}
use Rattle.wire_msg.specs.declared.deltas.Deltas.{Deltas}
use Rattle.wire_msg.specs.declared.deltas.Report.{Report}
use Rattle.wire_msg.specs.declared.packet.Do.{Do}
use Rattle.wire_msg.specs.declared.packet.Do.TheVariants.{Begin, Deliver, Tick}
use Rattle.wire_msg.specs.declared.packet.Packet.{Packet}
use Rattle.wire_msg.specs.declared.registry.CkptDone.{CkptDone}
use Rattle.wire_msg.specs.declared.registry.News.{News}
use Rattle.wire_msg.specs.declared.registry.Welcome.{Welcome}
use Rattle.run_laws.specs.world_index.Asking.{CleanerAsks, HandIn, IsOfJob, JobAsks}
use Rattle.run_laws.proofs.world_index.Horizons.{done_short}
use Rattle.run_laws.proofs.world_index.Senders.{IsCleaner, IsManager, IsRegistry, IsSentBy}
use Rattle.run_laws.specs.world_index.Standing.{AllKept, SentBy, WasAsked}
use Rattle.run_laws.specs.world_index.Owes.{BodyReads, CleanerBodyOwed, CleanerDoOwed, DoFree, DoReads, NewsFree, ServingFree, WaitingFree}
use Rattle.xfs_base.specs.Blocks.{slot_of}
use Rattle.xfs_base.specs.Limits.{u32_end, slot_count}
use Rattle.xfs_base.specs.declared.block.BlockId.{BlockId}
use Rattle.xfs_base.specs.declared.news.SlotNews.{SlotNews}
use Rattle.xfs_base.specs.declared.node.NodeId.{NodeId}
use Rattle.xfs_base.specs.declared.node.NodeId.TheVariants.{Client, Manager, Server, Cleaner, Registry}
use Rattle.xfs_base.specs.declared.segment.SegName.{SegName}

module _ (part : ℕ) (texts : Texts) (asked : Questions) (n : Net) where
  -- ---- who sent it

  check_told : (from : NodeId) (m : Check) → IsCleaner from → SentBy part n asked from (body.Check m) → slot_of m.block.ino.0 ≡ part → CheckKnown part asked n m
  check_told (Client c) m premise h = absurd premise
  check_told (Manager j) m premise h = absurd premise
  check_told (Server v) m premise h = absurd premise
  check_told Cleaner m premise h = h
  check_told Registry m premise h = absurd premise

  news_told : (from : NodeId) (m : News) → IsRegistry from → SentBy part n asked from (body.MapNews m) → AllKept part n m.slots
  news_told (Client c) m premise h = absurd premise
  news_told (Manager j) m premise h = absurd premise
  news_told (Server v) m premise h = absurd premise
  news_told Cleaner m premise h = absurd premise
  news_told Registry m premise h = h

  welcome_told : (from : NodeId) (m : Welcome) → IsRegistry from → SentBy part n asked from (body.Welcome m) → AllKept part n m.news.slots
  welcome_told (Client c) m premise h = absurd premise
  welcome_told (Manager j) m premise h = absurd premise
  welcome_told (Server v) m premise h = absurd premise
  welcome_told Cleaner m premise h = absurd premise
  welcome_told Registry m premise h = h

  live_told : (from : NodeId) (m : Live) → IsManager from → SentBy part n asked from (body.Live m) → BodyAnswers part n.sent (body.Live m)
  live_told (Client c) m premise h = absurd premise
  live_told (Manager j) m premise h = h
  live_told (Server v) m premise h = absurd premise
  live_told Cleaner m premise h = absurd premise
  live_told Registry m premise h = absurd premise

  dead_told : (from : NodeId) (m : Dead) → IsManager from → SentBy part n asked from (body.Dead m) → slot_of m.block.ino.0 ≡ part → DeadKnown part asked n m
  dead_told (Client c) m premise h = absurd premise
  dead_told (Manager j) m premise h = h
  dead_told (Server v) m premise h = absurd premise
  dead_told Cleaner m premise h = absurd premise
  dead_told Registry m premise h = absurd premise

  -- ---- a manager

  module _ (j : ℕ) where
    deltas_told : (from : NodeId) (m : Deltas) → SentBy part n asked from (body.Deltas m) → DeltasGets part texts asked j n from m
    deltas_told (Client c) m h = h
    deltas_told (Manager d) m h = tt
    deltas_told (Server v) m h = tt
    deltas_told Cleaner m h = h
    deltas_told Registry m h = tt

    report_told : (from : NodeId) (m : Report) → SentBy part n asked from (body.Report m) → ReportGets part texts asked j n from m
    report_told (Client c) m h = h.0
    report_told (Manager d) m h = λ inside. tt
    report_told (Server v) m h = λ inside. tt
    report_told Cleaner m h = h.0
    report_told Registry m h = λ inside. tt

    -- news of an epoch at which nobody was active yet are what the registry kept
    news_known : (known : ℕ) (slots : List SlotNews) → AllKept part n slots → NewsFree part j n known slots
        → AllNewsGets part texts asked j n known slots
    news_known known slots kept free news premise same mine new =
        let t = kept news premise same in
        let none = free news premise same mine new in
        record {
          free = none;
          some = t.some;
          begun = t.begun;
          horizon = t.horizon none;
          parts = t.parts none;
          from_one = t.is_horizon.from_one;
          short = t.is_horizon.short;
        }

    serving_gets : (life known : ℕ) (p : SlotPhase) (from : NodeId) (m : Body) → SentBy part n asked from m → IsSentBy from m
        → BodyReads part texts asked j n p from m → ServingFree part j n life known m
        → ServingGets part texts asked j n life known p from m
    serving_gets life known p from (body.Deltas m) h kind reads free = deltas_told from m h
    serving_gets life known p from (body.Report m) h kind reads free = report_told from m h
    serving_gets life known p from (body.Check m) h kind reads free = check_told from m kind h
    serving_gets life known p from (body.Fragment m) h kind reads free = reads
    serving_gets life known p from (body.Missing m) h kind reads free = reads
    serving_gets life known p from (body.MapNews m) h kind reads free = news_known known m.slots (news_told from m kind h) free
    serving_gets life known p from (body.Welcome m) h kind reads free = λ same. news_known known m.news.slots (welcome_told from m kind h) (free same)
    serving_gets life known p from _ h kind reads free = tt

    waiting_gets : (life : ℕ) (from : NodeId) (m : Body) → SentBy part n asked from m → IsSentBy from m → WaitingFree part j n life m
        → WaitingGets part texts asked j n life m
    waiting_gets life from (body.Welcome m) h kind free = λ same. news_known 0 m.news.slots (welcome_told from m kind h) (free same)
    waiting_gets life from _ h kind free = tt

    -- and so it is of each event
    pub manager_gets : (p : ManagerPhase) (what : Do)
        → ((q : Packet) → what ≡ Deliver q → SentBy part n asked q.from q.body × IsSentBy q.from q.body) → DoReads part texts asked j n p what
        → DoFree part j n p what
        → EventGets part texts asked j n p what
    manager_gets p Begin fact reads free = tt
    manager_gets p Tick fact reads free = tt
    manager_gets (managing.Serving s) (Deliver q) fact reads free =
        let f = fact q refl in
        serving_gets s.lasting.inc (epoch_in part (managing.Serving s)) (phase_at s.slots part) q.from q.body f.0 f.1 reads free
    manager_gets (managing.Waiting kept hello) (Deliver q) fact reads free = let f = fact q refl in waiting_gets kept.inc q.from q.body f.0 f.1 free
    manager_gets (managing.Down kept) (Deliver q) fact reads free = tt

  -- ---- the cleaner

  some_none : (ask : ℕ) → is_out None ask ≡ true → ⊥
  some_none ask premise = absurd (cc)

  out_is : (o : Option ℕ) (ask : ℕ) → is_out o ask ≡ true → o ≡ Some ask
  out_is None ask premise = absurd (some_none ask premise)
  out_is (Some x) ask premise = ap Some (eqb-true x ask premise)

  in_hand : (phase : Phase) (held name : SegName) → IsOfJob phase held → held ≡ name → IsInHand name phase
  in_hand (Checking j segment checks) held name of premise = of ∙ premise
  in_hand _ held name of premise = tt

  module _ (q : Asker) (room : q.last < u32_end) (m : Dead) (known : DeadKnown part asked n m) where
    -- what is awaited of the segment in hand was told of that
    given : (epoch : ℕ) (job : Job) (o : Option Hand) → JobAgrees part n epoch (Some job) → HandIn (WasAsked asked) q job.cleaning.phase o
        → is_out (check_of o m.block) m.ask ≡ true → DeadGiven part n m
    given epoch job None seen asks out = absurd (some_none m.ask out)
    given epoch job (Some hand) seen asks out =
        let named = asks.asks.named room m.block m.ask known.name (out_is (asked_of hand.checks m.block) m.ask out)
        (record { number = known.number; among = known.question }) in
        record {
          number = known.number;
          name = known.name;
          below = known.below;
          sent = known.sent;
          hand = subst (λ (x : _). IsInHand known.name x.phase) (sym seen.same_job) (in_hand job.cleaning.phase hand.seg.name known.name asks.job named);
        }

    given_by : (epoch : ℕ) (o : Option Job) → JobAgrees part n epoch o → JobAsks (WasAsked asked) q o → is_out (check_of (hand_of o) m.block) m.ask ≡ true
        → DeadGiven part n m
    given_by epoch None seen asks out = absurd (some_none m.ask out)
    given_by epoch (Some job) seen asks out = given epoch job job.hand seen asks out

  body_gets : (e : Emptying) (epoch : ℕ) (from : NodeId) (m : Body) → JobAgrees part n epoch e.job → JobAsks (WasAsked asked) e.lasting.questions e.job
      → e.lasting.questions.last < u32_end
      → SentBy part n asked from m → IsSentBy from m
      → CleanerBodyOwed part texts n e from m → cleaners.BodyGets part n e from m
  body_gets e epoch from (body.Poll m) seen asks room h kind owed = owed
  body_gets e epoch from (body.Fragment m) seen asks room h kind owed = owed
  body_gets e epoch from (body.Missing m) seen asks room h kind owed = owed
  body_gets e epoch from (body.Dead m) seen asks room h kind owed =
      λ inside out. given_by e.lasting.questions room m (dead_told from m kind h inside) epoch e.job seen asks out
  body_gets e epoch from _ seen asks room h kind owed = tt

  answers : (from : NodeId) (m : Body) → SentBy part n asked from m → IsSentBy from m → BodyAnswers part n.sent m
  answers from (body.Live m) h kind = live_told from m kind h
  answers from _ h kind = tt

  -- where no counter is near its end, no question has the last number
  pub cleaner_gets : (p : CleanerPhase) (what : Do) → PhaseAgrees part n texts p → CleanerAsks (WasAsked asked) p
      → (lasting_of p).questions.last < u32_end
      → ((q : Packet) → what ≡ Deliver q → SentBy part n asked q.from q.body × IsSentBy q.from q.body) → CleanerDoOwed part texts n p what
      → cleaners.EventGets part n p what
  cleaner_gets p Begin seen asks room fact owed = tt
  cleaner_gets p Tick seen asks room fact owed = tt
  cleaner_gets (cleaning.Serving e) (Deliver q) seen asks room fact owed =
      let f = fact q refl in
      (body_gets e (epoch_of e.promised part) q.from q.body seen.0.job asks.job room f.0 f.1 owed, answers q.from q.body f.0 f.1)
  cleaner_gets (cleaning.Opening l o) (Deliver q) seen asks room fact owed = let f = fact q refl in (tt, answers q.from q.body f.0 f.1)
  cleaner_gets (cleaning.Down l) (Deliver q) seen asks room fact owed = let f = fact q refl in (tt, answers q.from q.body f.0 f.1)

  -- ---- the registry

  done_told : (from : NodeId) (m : CkptDone) → IsManager from → SentBy part n asked from (body.CkptDone m) → CkptSeen part n m
  done_told (Client c) m premise h = absurd premise
  done_told (Manager j) m premise h = h
  done_told (Server v) m premise h = absurd premise
  done_told Cleaner m premise h = absurd premise
  done_told Registry m premise h = absurd premise

  module _ (managed : CheckpointsHaveManagers) (moment : (b : BlockId) → slot_of b.ino.0 ≡ part → Moment part (held_in part texts) n b) (small : part < slot_count)
      (heads : (l : ℕ) → n.filed.head l < u32_end) where
    -- a block of the slot
    abbrev one : BlockId
    one = record { ino = record { 0 = part }; blk = 0 }

    its_slot : slot_of one.ino.0 ≡ part
    its_slot = mod-eq_of_lt small

    at_one : Moment part (held_in part texts) n one
    at_one = moment one its_slot

    registry_body : (from : NodeId) (m : Body) → SentBy part n asked from m → IsSentBy from m → RegistryBodyGets part n m
    registry_body from (body.CkptDone m) h kind = λ inside. (let sent = done_told from m kind h inside in record {
      sent = sent;
      short = done_short part (held_in part texts) n one at_one heads m.epoch m.horizon m.parts sent;
    })
    registry_body from _ h kind = tt

    registry_do : (what : Do) → ((q : Packet) → what ≡ Deliver q → SentBy part n asked q.from q.body × IsSentBy q.from q.body) → DoGets part n what
    registry_do Begin fact = tt
    registry_do Tick fact = tt
    registry_do (Deliver q) fact = let f = fact q refl in registry_body q.from q.body f.0 f.1

    pub registry_gets : (what : Do) → ((q : Packet) → what ≡ Deliver q → SentBy part n asked q.from q.body × IsSentBy q.from q.body)
        → RegistryOwed part n what
    registry_gets what fact = record {
      gets = registry_do what fact;
      managed = λ horizon parts sent none. managed part (held_in part texts) n one n.epoch horizon parts at_one sent none;
    }
