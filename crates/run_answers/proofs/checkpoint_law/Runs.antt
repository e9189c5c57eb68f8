-- In every run what a manager counts of a checkpoint is so.
use Rattle.std.proofs.Common.{◌≡◌, ◌⊎◌, ◌<◌, ◌≤◌, ◌==◌, ℕ, zero, suc, Bool, true, false, List, [], ◌∷◌, Option, Some, None, drop, length, map, slice_get, inl, inr, refl, sym, ap, subst, ◌∙◌, arith}
use Rattle.std.proofs.lemmas.Bool.{eqb-false, eqb-true}
use Rattle.std.proofs.Math.Seq.{drop-append_seam, drop-length}
use Rattle.checkpoint.specs.WriterState.{WorkState, WriterState}
use Rattle.core_world.specs.AnyNode.{any_start, any_step}
use Rattle.core_world.specs.declared.any_node.AnyNode.{AnyNode}
use Rattle.core_world.specs.declared.any_node.AnyNode.TheVariants as any
use Rattle.manager_node.specs.declared.manager.Manager.{Manager}
use Rattle.manager_node.specs.declared.phase.Phase.{Phase}
use Rattle.manager_node.specs.declared.phase.Phase.TheVariants.{Down, Serving as Serves, Waiting}
use Rattle.manager_node.specs.Events.{happens}
use Rattle.manager_node.specs.Phases.{lasting_of}
use Rattle.manager_serving.specs.declared.checkpointing.Checkpointing.{Checkpointing}
use Rattle.node_base.specs.declared.effects.Effect.{Effect}
use Rattle.node_base.specs.declared.effects.Effect.TheVariants.{Answer as Answers, Does, Lose, Send}
use Rattle.node_base.specs.Effects.{acts_of, packets_of}
use Rattle.serving_moves.specs.item_moves.Moves.{MayAct}
use Rattle.serving_moves.specs.item_moves.Moves.Losses.{Telling}
use Rattle.token_protocol.specs.Basics.{In}
use Rattle.version_model.specs.declared.act.Act.{Act}
use Rattle.version_model.specs.declared.act.Act.TheVariants as act
use Rattle.version_model.specs.declared.answer.Answer.{Answer}
use Rattle.version_model.specs.declared.answer.Answer.TheVariants as answer
use Rattle.wire_msg.specs.declared.body.Body.TheVariants as body
use Rattle.wire_msg.specs.declared.packet.Do.TheVariants as whats
use Rattle.wire_msg.specs.declared.packet.Packet.{Packet}
use Rattle.wire_msg.specs.declared.registry.CkptAck.{CkptAck}
use Rattle.wire_msg.specs.declared.registry.CkptDone.{CkptDone}
use Rattle.world_base.specs.Cluster.{place_of}
use Rattle.world_base.specs.declared.estate.Estate.{Estate}
use Rattle.world_base.specs.declared.event.Event.{Event}
use Rattle.world_base.specs.declared.event.Event.TheVariants.{Deliver}
use Rattle.world_base.specs.declared.world.World.{World}
use Rattle.world_base.specs.Events.{node_of, what_of}
use Rattle.world_base.specs.Items.{items_of}
use Rattle.world_base.specs.NextWorld.{at_place, clock_at, happen_at, next_world, sent_at, turned, world_happen}
use Rattle.world_base.specs.Runs.{IsRun}
use Rattle.xfs_base.specs.declared.node.NodeId.{NodeId}
use Rattle.xfs_base.specs.declared.node.NodeId.TheVariants as nodes
use Rattle.xfs_base.specs.Limits.{u32_end}
use Rattle.run_laws.proofs.world_law.Turning.{next_cluster}
use Rattle.run_laws.proofs.world_reads.Taking.{NothingHappens, Took, moment_next, takes_or_not}
use Rattle.headline.specs.Checkpoints.{Awaits, Hears, IsCheckpointed, IsTold, Tells, awaited_in, done_of, sent_in}
use Rattle.headline.specs.Dues.{NothingComes, PassesClocks, TakesTurn}
use Rattle.headline.specs.Moments.{acts_in, moment, node_in, node_named}
use Rattle.run_answers.proofs.act_law.Runs.{moment_past}
use Rattle.run_answers.proofs.checkpoint_law.Desk.{AllSo, AnswerSo, JobSo, ToldBy, Turned, Waits, WorksOn}
use Rattle.run_answers.proofs.checkpoint_law.Events.{Becomes, PhaseAt, becomes}
use Rattle.run_answers.proofs.checkpoint_law.Turning.{job_wider}
use Rattle.run_answers.proofs.due_law.Runs.{turn, turns_or_ends}
use Rattle.run_answers.proofs.number_law.Acting.{acting, event_begins, event_delivers}
use Rattle.run_answers.proofs.once_law.Runs.{node_known, runs_answer_once}
use Rattle.run_answers.proofs.repeat_law.Among.{in_map}
use Rattle.run_answers.proofs.standing_law.Moments.{each_moment}
use Rattle.run_answers.proofs.wait_law.Again.{sent}
use Rattle.run_answers.specs.checkpoint_law.Runs.{EachRunsCheckpointsAreTrue}

-- ---- the manager of a number

is_manager : (v : ℕ) (name : NodeId) → (name ≡ nodes.Manager v) ⊎ (name ≡ nodes.Manager v → ⊥)
is_manager v (nodes.Client k) = inr (λ same. cc)
is_manager v (nodes.Manager k) = by (k == v) refl
  where
    number : nodes.Manager k ≡ nodes.Manager v → k ≡ v
    number same = cc

    by : (t : Bool) → (k == v) ≡ t → (nodes.Manager k ≡ nodes.Manager v) ⊎ (nodes.Manager k ≡ nodes.Manager v → ⊥)
    by true fact = inl (ap nodes.Manager (eqb-true k v fact))
    by false fact = inr (λ same. eqb-false k v fact (number same))
is_manager v (nodes.Server k) = inr (λ same. cc)
is_manager v nodes.Cleaner = inr (λ same. cc)
is_manager v nodes.Registry = inr (λ same. cc)

no_client : (a b : ℕ) → nodes.Client a ≡ nodes.Manager b → ⊥
no_client a b fact = cc

no_server : (a b : ℕ) → nodes.Server a ≡ nodes.Manager b → ⊥
no_server a b fact = cc

no_cleaner : (b : ℕ) → nodes.Cleaner ≡ nodes.Manager b → ⊥
no_cleaner b fact = cc

no_registry : (b : ℕ) → nodes.Registry ≡ nodes.Manager b → ⊥
no_registry b fact = cc

one_manager : (m n : Manager) → Some (any.Manager m) ≡ Some (any.Manager n) → m ≡ n
one_manager m n fact = cc

one_event : (a b : Event) → Some a ≡ Some b → a ≡ b
one_event a b fact = cc

no_event : (a : Event) → None ≡ Some a → ⊥
no_event a fact = cc

-- ---- an event by which a clock would pass the end

late_or_not : (w : World AnyNode) (event : Event) → PassesClocks w event ⊎ (PassesClocks w event → ⊥)
late_or_not w event = by (place_of w.cluster (node_of event)) refl
  where
    one_place : (o : Option ℕ) (place other : ℕ) → o ≡ Some place → o ≡ Some other → other ≡ place
    one_place o place other is also = one (sym also ∙ is)
      where
        one : Some other ≡ Some place → other ≡ place
        one fact = cc

    at : (place : ℕ) → place_of w.cluster (node_of event) ≡ Some place → (clock : Option ℕ) → clock_at w place (what_of event) ≡ clock
        → PassesClocks w event ⊎ (PassesClocks w event → ⊥)
    at place placed None fact = inl (place, (placed, fact))
    at place placed (Some clock) fact =
        inr (λ ends. clash (sym fact ∙ subst (λ (k : ℕ). clock_at w k (what_of event) ≡ None) (one_place (place_of w.cluster (node_of event)) place ends.0 placed ends.1.0) ends.1.1))
      where
        clash : Some clock ≡ None → ⊥
        clash fact = cc

    by : (o : Option ℕ) → place_of w.cluster (node_of event) ≡ o → PassesClocks w event ⊎ (PassesClocks w event → ⊥)
    by None placed = inr (λ ends. nowhere ends.0 (sym placed ∙ ends.1.0))
      where
        nowhere : (place : ℕ) → None ≡ Some place → ⊥
        nowhere place fact = cc
    by (Some place) placed = at place placed (clock_at w place (what_of event)) refl

late_stays : (w : World AnyNode) (event : Event) → PassesClocks w event → next_world any_step w event ≡ w
unfolding world_happen happen_at
late_stays w event ends = ap (at_place any_step w (what_of event)) ends.1.0 ∙ ap (turned any_step w ends.0 (what_of event)) ends.1.1

-- ---- one event later

module _ (e : Estate AnyNode) (v count : ℕ) where
  module _ (outs : List Effect) (tells : (done : CkptDone) → In (Send nodes.Registry (body.CkptDone done)) outs → Tells e v count done) where
    waits_later : (count_ next : ℕ) (open_item : Option ℕ) (at : Turned e v count count_ next open_item) (dones : ℕ) (w : WriterState) (done : Option CkptDone)
        → (done ≡ None → Awaits e v (suc count) None) → Waits e v count (suc count) outs at.turned at.slot at.managed.epoch dones w done
        → Waits e v (suc count) (suc count) [] at.turned at.slot at.managed.epoch dones w done
    waits_later count_ next open_item at dones w None idle h = record { asked = h.asked; fresh = inr (idle refl); works = works w.work h.works }
      where
        works : (o : Option WorkState) → WorksOn e v count at.slot at.managed.epoch dones w o → WorksOn e v (suc count) at.slot at.managed.epoch dones w o
        works None so = so
        works (Some it) so = so
    waits_later count_ next open_item at dones w (Some done) idle h = record {
      work = h.work;
      asked = h.asked;
      number = h.number;
      low = h.low;
      epoch_is = h.epoch_is;
      told = inl (by h.told);
    }
      where
        never : (a b : ℕ) → a < b → b < suc a → ⊥
        never a b less more = absurd (omega (arith, less, more))

        just : (n : ℕ) → n < suc n
        just n = omega arith

        by : ToldBy e v count (suc count) outs at.turned at.slot done → IsTold e v at.slot at.turned (suc count) done
        by (inl told) = told
        by (inr new) = record {
          its = new.its;
          managed = at.managed;
          manages = at.manages;
          epoch = h.epoch_is;
          told = count;
          since = at.reached;
          before = just count;
          tells = tells done new.said;
          first_told = new.fresh;
          unanswered = λ between less more ack hears. never count between less more;
        }

    turned_later : (count_ next : ℕ) (open_item : Option ℕ) → Turned e v count count_ next open_item → Turned e v (suc count) count_ next open_item
    turned_later count_ next open_item at = record {
      item = at.item;
      begun = at.begun;
      began = at.began;
      is_open = at.is_open;
      turned = at.turned;
      reached = further at.turned count at.reached;
      slot = at.slot;
      next_is = at.next_is;
      small = at.small;
      gone = at.gone;
      managed = at.managed;
      manages = at.manages;
    }
      where
        further : (a b : ℕ) → a ≤ b → a ≤ suc b
        further a b low = omega (arith, low)

    job_later : (checkpoint : Option Checkpointing) (w : WriterState) (dones : ℕ) (open_item : Option ℕ)
        → (done_of checkpoint ≡ None → Awaits e v (suc count) None) → JobSo e v count (suc count) outs checkpoint w dones open_item
        → JobSo e v (suc count) (suc count) [] checkpoint w dones open_item
    unfolding turned_later
    job_later None w dones open_item idle h = record { work = h.work; asked = h.asked; number = h.number; low = h.low }
    job_later (Some job) w dones open_item idle h = record {
      at = turned_later job.count job.next open_item h.at;
      waits = waits_later job.count job.next open_item h.at dones w job.done idle h.waits;
    }

    phase_later : (m : Manager) → node_named (moment e (suc count)) (nodes.Manager v) ≡ Some (any.Manager m) → (p : Phase) → m.phase ≡ p
        → PhaseAt e v count (suc count) outs p → PhaseAt e v (suc count) (suc count) [] p
    phase_later m its (Down kept) is h = tt
    phase_later m its (Waiting kept hello) is h = tt
    phase_later m its (Serves s) is h =
        job_later s.checkpoint s.writer s.dones s.lasting.items.unanswered
        (λ none. record { node = m; its = its; is = ap awaited_in is ∙ none }) h

  -- nothing happens to it
  phase_rests : ((done : CkptDone) (other : CkptAck) → Hears e v count done other → ⊥) → (m : Manager)
      → node_named (moment e (suc count)) (nodes.Manager v) ≡ Some (any.Manager m) → (p : Phase) → m.phase ≡ p → PhaseAt e v count count [] p
      → PhaseAt e v (suc count) (suc count) [] p
  phase_rests deaf m its (Down kept) is h = tt
  phase_rests deaf m its (Waiting kept hello) is h = tt
  phase_rests deaf m its (Serves s) is h =
      phase_later [] (λ done said. absurd said) m its (Serves s) is
      (job_wider e v count [] s.checkpoint s.writer s.dones s.lasting.items.unanswered (λ mine fact other hears. deaf mine other hears) h)

module _ (e : Estate AnyNode) (v : ℕ) where
  abbrev me : NodeId
  me = nodes.Manager v

  abbrev There : ℕ → Manager → Type 0
  There count m = node_named (moment e count) me ≡ Some (any.Manager m)

  -- so it is at each moment
  abbrev AtMoment : ℕ → Type 0
  AtMoment count = (m : Manager) → There count m → PhaseAt e v count count [] m.phase

  -- ---- the start

  abbrev FirstSo : ℕ → NodeId → AnyNode → Type 0
  FirstSo zero (nodes.Manager k) (any.Manager m) = PhaseAt e v 0 0 [] m.phase
  FirstSo zero name x = Unit {0}
  FirstSo (suc count) name x = Unit {0}

  first_so : (name : NodeId) → FirstSo 0 name (any_start name e.script.setup (items_of e.script.lines name))
  first_so (nodes.Client k) = tt
  first_so (nodes.Manager k) = record { work = refl; asked = refl; number = refl; low = least u32_end }
    where
      least : (n : ℕ) → 0 ≤ n
      least n = omega arith
  first_so (nodes.Server k) = tt
  first_so nodes.Cleaner = tt
  first_so nodes.Registry = tt

  starts : AtMoment 0
  starts m its = each_moment FirstSo e first_so (λ count name x idles so. tt) (λ count event happens_ x was took so. tt) 0 me (any.Manager m) its

  -- ---- an event

  module _ (count : ℕ) (so : AtMoment count) where
    stays : (moment e (suc count)) ≡ moment e count → ((done : CkptDone) (other : CkptAck) → Hears e v count done other → ⊥) → AtMoment (suc count)
    stays same deaf m its =
        phase_rests e v count deaf m its m.phase refl (so m (ap (λ (w : World AnyNode). node_named w me) (sym same) ∙ its))

    module _ (event : Event) (happens_ : slice_get e.events count ≡ Some event) where
      -- what comes in this event
      comes : (done : CkptDone) (other : CkptAck) (hears : Hears e v count done other) → event ≡ Deliver hears.packet
      comes done other hears = one_event event (Deliver hears.packet) (sym happens_ ∙ hears.happens)

      -- its clock would pass the end
      deaf_late : PassesClocks (moment e count) event → (done : CkptDone) (other : CkptAck) → Hears e v count done other → ⊥
      deaf_late ends done other hears = hears.in_time (subst (PassesClocks (moment e count)) (comes done other hears) ends)

      -- it happens to another node
      deaf_other : (node_of event ≡ me → ⊥) → (done : CkptDone) (other : CkptAck) → Hears e v count done other → ⊥
      deaf_other differs done other hears = differs (ap node_of (comes done other hears) ∙ hears.to_it)

      deaf_tick : what_of event ≡ whats.Tick → (done : CkptDone) (other : CkptAck) → Hears e v count done other → ⊥
      deaf_tick ticks done other hears = no_tick (sym (ap what_of (comes done other hears)) ∙ ticks)
        where
          no_tick : whats.Deliver hears.packet ≡ whats.Tick → ⊥
          no_tick fact = cc

      module _ (in_time : PassesClocks (moment e count) event → ⊥) (named : node_of event ≡ me) (m : Manager) (was : There count m) where
        timely : (packet : Packet) → what_of event ≡ whats.Deliver packet → PassesClocks (moment e count) (Deliver packet) → ⊥
        timely packet delivers ends = in_time (subst (PassesClocks (moment e count)) (sym (event_delivers event packet delivers)) ends)

        pub becomes_so : Becomes e v count (happens m (what_of event))
        becomes_so =
            becomes e v count m was (what_of event) (λ begins. happens_ ∙ ap Some (event_begins event me named begins))
            (λ packet delivers. (
              happens_ ∙ ap Some (event_delivers event packet delivers),
              ap node_of (sym (event_delivers event packet delivers)) ∙ named,
            )) timely deaf_tick (so m was)

        abbrev outs : List Effect
        outs = (happens m (what_of event)).outs

        -- what it tells is sent
        tells_so : TakesTurn e count event (any.Manager m) → (done : CkptDone) → In (Send nodes.Registry (body.CkptDone done)) outs → Tells e v count done
        tells_so taken done said =
            record {
              event = event;
              happens = happens_;
              packet = sent_at taken.clock packet;
              sent = subst (λ (packets : List Packet). In (sent_at taken.clock packet) packets) (sym added)
                  (in_map (sent_at taken.clock) packet (packets_of its_name outs) (sent its_name nodes.Registry (body.CkptDone done) outs said));
              from_it = (node_known e count me (any.Manager m) was).named;
              to_registry = refl;
              says = refl;
            }
          where
            its_name : NodeId
            its_name = nodes.Manager (lasting_of m.phase).number

            packet : Packet
            packet = record { from = its_name; to = nodes.Registry; clock = 0; body = body.CkptDone done }

            added : sent_in (moment e count) event ≡ map (sent_at taken.clock) (packets_of its_name outs)
            added =
                ap (drop (length (moment e count).sent)) (ap (λ (w : World AnyNode). w.sent) (sym (moment_next e count event happens_)) ∙ taken.sent)
                ∙ drop-append_seam (moment e count).sent (map (sent_at taken.clock) (packets_of its_name outs))

        turned_so : NothingComes e count event ⊎ TakesTurn e count event (any.Manager m) → AtMoment (suc count)
        turned_so (inl nothing) = stays nothing.stays (deaf_late nothing.ends)
        turned_so (inr taken) = λ n its.
            (let next : Manager = record m { phase = (happens m (what_of event)).state } in
            let now_is : There (suc count) next = ap (λ (name : NodeId). node_named (moment e (suc count)) name) (sym named) ∙ taken.is in
            subst (λ (x : Manager). PhaseAt e v (suc count) (suc count) [] x.phase) (one_manager next n (sym now_is ∙ its))
            (phase_later e v count outs (tells_so taken) next now_is next.phase refl becomes_so.state))

      -- the node that has its turn
      module _ (in_time : PassesClocks (moment e count) event → ⊥) (x : AnyNode) (was : node_named (moment e count) (node_of event) ≡ Some x) where
        mine : node_of event ≡ me → AtMoment (suc count)
        mine named = by x (ap (node_named (moment e count)) (sym named) ∙ was) (turn e count event happens_ x was (turns_or_ends (moment e count) event x was))
          where
            by : (y : AnyNode) → node_named (moment e count) me ≡ Some y → NothingComes e count event ⊎ TakesTurn e count event y → AtMoment (suc count)
            by (any.Manager m) there turn_ = turned_so in_time named m there turn_
            by (any.Client c) there turn_ = absurd (no_client _ v (node_known e count me (any.Client c) there).named)
            by (any.Server s) there turn_ = absurd (no_server _ v (node_known e count me (any.Server s) there).named)
            by (any.Cleaner c) there turn_ = absurd (no_cleaner v (node_known e count me (any.Cleaner c) there).named)
            by (any.Registry r) there turn_ = absurd (no_registry v (node_known e count me (any.Registry r) there).named)

        others : (node_of event ≡ me → ⊥) → NothingComes e count event ⊎ TakesTurn e count event x → AtMoment (suc count)
        others differs (inl nothing) = stays nothing.stays (deaf_other differs)
        others differs (inr taken) = λ m its.
            phase_rests e v count (deaf_other differs) m its m.phase refl (so m (taken.others me (any.Manager m) (λ same. differs (sym same)) its))

        all_so : AtMoment (suc count)
        all_so = by (is_manager v (node_of event))
          where
            by : (node_of event ≡ me) ⊎ (node_of event ≡ me → ⊥) → AtMoment (suc count)
            by (inl named) = mine named
            by (inr differs) = others differs (turn e count event happens_ x was (turns_or_ends (moment e count) event x was))

      -- the run has no such node
      none_so : (PassesClocks (moment e count) event → ⊥) → NothingHappens (moment e count) event → AtMoment (suc count)
      none_so in_time nothing m its = by (is_manager v (node_of event))
        where
          before : There count m
          before =
              ap (λ nodes. node_in nodes (place_of (moment e count).cluster me)) (sym nothing.nodes)
              ∙ (ap (λ k. node_in (next_world any_step (moment e count) event).nodes (place_of k me)) (sym (next_cluster any_step (moment e count) event))
              ∙ (ap (λ (w : World AnyNode). node_named w me) (sym (moment_next e count event happens_)) ∙ its))

          by : (node_of event ≡ me) ⊎ (node_of event ≡ me → ⊥) → PhaseAt e v (suc count) (suc count) [] m.phase
          by (inl named) = all_so in_time (any.Manager m) (ap (node_named (moment e count)) named ∙ before) m its
          by (inr differs) = phase_rests e v count (deaf_other differs) m its m.phase refl (so m before)

      next_so : AtMoment (suc count)
      next_so = by (late_or_not (moment e count) event)
        where
          timely : (PassesClocks (moment e count) event → ⊥) → NothingHappens (moment e count) event ⊎ ((x : AnyNode) × Took (moment e count) event x)
              → AtMoment (suc count)
          timely in_time (inl nothing) = none_so in_time nothing
          timely in_time (inr turn_) = all_so in_time turn_.0 (ap (node_in (moment e count).nodes) turn_.1.placed ∙ turn_.1.stands)

          by : PassesClocks (moment e count) event ⊎ (PassesClocks (moment e count) event → ⊥) → AtMoment (suc count)
          by (inl ends) = stays (moment_next e count event happens_ ∙ late_stays (moment e count) event ends) (deaf_late ends)
          by (inr in_time) = timely in_time (takes_or_not (moment e count) event)

    later : AtMoment (suc count)
    later = by (slice_get e.events count) refl
      where
        by : (o : Option Event) → slice_get e.events count ≡ o → AtMoment (suc count)
        by None fact = stays (moment_past e count fact) (λ done other hears. no_event (Deliver hears.packet) (sym fact ∙ hears.happens))
        by (Some event) fact = next_so event fact

  pub at_moment : (count : ℕ) → AtMoment count
  at_moment zero = starts
  at_moment (suc count) = later count (at_moment count)

  -- ---- what it answers

  module _ (count item counted : ℕ) where
    abbrev its : NodeId → Act
    its name = act.Answered name item (answer.Count counted)

    acts_so : (name : NodeId) (outs : List Effect) → AllSo e v count outs → In (its me) (acts_of name outs) → IsCheckpointed e count v item counted
    acts_so name [] all among = absurd among
    acts_so name (Send to said ∷ outs) all among = acts_so name outs all.1 among
    acts_so name (Answers n a ∷ outs) all (inl same) = answered n a all.0 same
      where
        answered : (n : ℕ) (a : Answer) → AnswerSo e v count n a → its me ≡ act.Answered name n a → IsCheckpointed e count v item counted
        answered n a so same =
            subst (λ (x : ℕ). IsCheckpointed e count v x counted) (sym number) (subst (λ (x : Answer). AnswerSo e v count n x) (sym same_answer) so)
          where
            number : item ≡ n
            number = cc

            same_answer : answer.Count counted ≡ a
            same_answer = cc
    acts_so name (Answers n a ∷ outs) all (inr among) = acts_so name outs all.1 among
    acts_so name (Lose seg ∷ outs) all (inl same) = absurd (no_lost same)
      where
        no_lost : its me ≡ act.Lost name seg → ⊥
        no_lost same = cc
    acts_so name (Lose seg ∷ outs) all (inr among) = acts_so name outs all.1 among
    acts_so name (Does done ∷ outs) all (inl same) = absurd (subst (MayAct Telling) (sym same) all.0)
    acts_so name (Does done ∷ outs) all (inr among) = acts_so name outs all.1 among

  module _ (run : IsRun any_step any_start e.script e.events e.world) where
    checkpoints : (count : ℕ) (event : Event) → slice_get e.events count ≡ Some event → (item counted : ℕ)
        → In (act.Answered me item (answer.Count counted)) (acts_in (moment e count) event) → IsCheckpointed e count v item counted
    checkpoints count event happens_ item counted acted =
        let a = acting e count event happens_ _ acted in
        let own : me ≡ node_of event = ((runs_answer_once e run).own count event happens_ me item (answer.Count counted) acted).own in
        by a.x (ap (node_named (moment e count)) own ∙ a.was) (sym own) a.among
      where
        in_time : PassesClocks (moment e count) event → ⊥
        in_time ends =
            absurd
            (subst (In (act.Answered me item (answer.Count counted)))
            (ap (λ (w : World AnyNode). drop (length (moment e count).acts) w.acts) (late_stays (moment e count) event ends) ∙ drop-length (moment e count).acts)
            acted)

        by : (x : AnyNode) → node_named (moment e count) me ≡ Some x → node_of event ≡ me
            → In (act.Answered me item (answer.Count counted)) (any_step x (what_of event)).acts → IsCheckpointed e count v item counted
        by (any.Manager m) was named among =
            acts_so count item counted (nodes.Manager (lasting_of m.phase).number) (happens m (what_of event)).outs
            (becomes_so count (at_moment count) event happens_ in_time named m was).says among
        by (any.Client c) was named among = absurd (no_client _ v (node_known e count me (any.Client c) was).named)
        by (any.Server s) was named among = absurd (no_server _ v (node_known e count me (any.Server s) was).named)
        by (any.Cleaner c) was named among = absurd (no_cleaner v (node_known e count me (any.Cleaner c) was).named)
        by (any.Registry r) was named among = absurd (no_registry v (node_known e count me (any.Registry r) was).named)

pub each_run : EachRunsCheckpointsAreTrue
each_run e run count event happens_ manager item counted acted = checkpoints e manager run count event happens_ item counted acted
