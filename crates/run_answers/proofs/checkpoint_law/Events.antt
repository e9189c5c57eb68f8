-- What any event makes of a manager, of the checkpoint that it writes and of the counts that it answers.
use Rattle.std.proofs.Common.{◌≡◌, ◌≤◌, cond, ℕ, suc, true, false, List, [], ◌∷◌, ◌++◌, Option, Some, None, slice_get, refl, sym, ap, subst, ◌∙◌, arith}
use Rattle.core_world.specs.declared.any_node.AnyNode.{AnyNode}
use Rattle.core_world.specs.declared.any_node.AnyNode.TheVariants as any
use Rattle.manager_node.specs.declared.manager.Manager.{Manager}
use Rattle.manager_node.specs.declared.phase.Phase.{Phase}
use Rattle.manager_node.specs.declared.phase.Phase.TheVariants.{Down, Serving as Serves, Waiting}
use Rattle.manager_node.specs.Events.{happens, manager_deliver, on_event, on_packet, on_time, on_waiting, on_welcome, takes_welcome}
use Rattle.manager_node.specs.Phases.{Went_to, begin_down, begin_serving, begin_waiting, crash, down_item, down_wish, lasting_of, on_begin, phase_has_room, restart, serves, serving_item, serving_wish, waiting_item, waiting_wish, wish_at, with_begun}
use Rattle.manager_serving.specs.Checkpoints.{Done}
use Rattle.manager_serving.specs.Checkpoints as checkpoints
use Rattle.manager_serving.specs.declared.serving.Serving.{Serving}
use Rattle.manager_serving.specs.Serving as serving
use Rattle.node_base.specs.Beginning.{answers_unanswered, next_item, work_at}
use Rattle.node_base.specs.declared.effects.Effect.{Effect}
use Rattle.node_base.specs.declared.peers.Peers.{Peers}
use Rattle.node_base.specs.Known.{names_known_groups}
use Rattle.node_base.specs.Maps.{forgotten}
use Rattle.node_base.specs.Shape.{is_well_formed}
use Rattle.version_model.specs.declared.answer.Answer.{Answer}
use Rattle.version_model.specs.declared.answer.Answer.TheVariants as answer
use Rattle.version_model.specs.declared.work.Work.{Work}
use Rattle.version_model.specs.declared.work.Work.TheVariants as work
use Rattle.wire_msg.specs.declared.body.Body.{Body}
use Rattle.wire_msg.specs.declared.body.Body.TheVariants as body
use Rattle.wire_msg.specs.declared.packet.Do.{Do}
use Rattle.wire_msg.specs.declared.packet.Do.TheVariants.{Begin, Deliver, Tick}
use Rattle.wire_msg.specs.declared.packet.Packet.{Packet}
use Rattle.wire_msg.specs.declared.registry.CkptAck.{CkptAck}
use Rattle.wire_msg.specs.declared.registry.CkptDone.{CkptDone}
use Rattle.wire_msg.specs.declared.registry.Welcome.{Welcome}
use Rattle.world_base.specs.declared.estate.Estate.{Estate}
use Rattle.world_base.specs.declared.event.Event.TheVariants as ev
use Rattle.xfs_base.proofs.Booleans.{by_test, contrary}
use Rattle.xfs_base.specs.declared.node.NodeId.TheVariants as nodes
use Rattle.xfs_base.specs.Limits.{u32_end}
use Rattle.xfs_base.specs.Steps.{still}
use Rattle.headline.specs.Checkpoints.{Hears}
use Rattle.headline.specs.Checkpoints.HasGone.{Begins, Passes}
use Rattle.headline.specs.Dues.{PassesClocks}
use Rattle.headline.specs.Managers.{active_at, active_in, active_of, slot_in}
use Rattle.headline.specs.Moments.{moment, node_named}
use Rattle.headline.specs.Numbers.{BeganAt}
use Rattle.run_answers.proofs.checkpoint_law.Desk.{AllSo, At, EffectSo, JobSo, Leads, job_more}
use Rattle.run_answers.proofs.checkpoint_law.Serving.{IsNoAck, news_goes, packet_goes, tick_goes}
use Rattle.run_answers.proofs.checkpoint_law.Turning.{ack_leads, checkpoint_leads, job_wider}
use Rattle.run_answers.proofs.once_law.Items.{begun_open}
use Rattle.manager_slots.specs.declared.lasting.Lasting.{Lasting as Kept}
use Rattle.node_base.specs.declared.effects.Effect.TheVariants.{Answer as Answers}

module _ (e : Estate AnyNode) (v now : ℕ) where
  -- so it is of a manager in a phase, by what it was told before a place, and what it did so far in this event
  abbrev pub PhaseAt : ℕ → List Effect → Phase → Type 0
  PhaseAt upto outs (Down kept) = Unit {0}
  PhaseAt upto outs (Waiting kept hello) = Unit {0}
  PhaseAt upto outs (Serves s) = At e v now upto outs s

  pub record Becomes (w : Went_to) : Type 0 where
    pub state : PhaseAt (suc now) w.outs w.state
    pub says : AllSo e v now w.outs

  serves_so : (d : Done) → Leads e v now [] d → Becomes (serves d)
  serves_so d h = record { state = h.state; says = h.says }

  -- in this event no answer to a checkpoint comes that it takes
  abbrev IsDeaf : Type 0
  IsDeaf = (done : CkptDone) (other : CkptAck) → Hears e v now done other → ⊥

  still_so : (p : Phase) → IsDeaf → PhaseAt now [] p → Becomes (still p)
  still_so (Down kept) deaf h = record { state = tt; says = tt }
  still_so (Waiting kept hello) deaf h = record { state = tt; says = tt }
  still_so (Serves s) deaf h = record {
    state = job_wider e v now [] s.checkpoint s.writer s.dones s.lasting.items.unanswered (λ its is other hears. deaf its other hears) h;
    says = tt;
  }

  answered_so : (item : ℕ) (o : Option ℕ) (a : Answer) → EffectSo e v now (Answers item a) → AllSo e v now (answers_unanswered o answer.Cut ++ Answers item a ∷ [])
  answered_so item None a so = (so, tt)
  answered_so item (Some other) a so = (tt, (so, tt))

  crash_so : (kept : Kept) (number : ℕ) → Becomes (crash kept number)
  unfolding crash
  crash_so kept number = record { state = tt; says = answered_so number kept.items.unanswered answer.Done tt }

  -- ---- an event of the manager

  module _ (m : Manager) (was : node_named (moment e now) (nodes.Manager v) ≡ Some (any.Manager m)) where
    -- what it has of a slot
    stands : (p : Phase) → m.phase ≡ p → (k : ℕ) → active_at (moment e now) k v ≡ active_in (slot_in k p)
    stands p is k = ap (active_of k) was ∙ ap (λ (q : Phase). active_in (slot_in k q)) is

    -- ---- an item begins

    module _ (happens_ : slice_get e.events now ≡ Some (ev.Begin (nodes.Manager v))) where
      deaf_begin : IsDeaf
      deaf_begin done other hears = other_event (sym happens_ ∙ hears.happens)
        where
          other_event : Some (ev.Begin (nodes.Manager v)) ≡ Some (ev.Deliver hears.packet) → ⊥
          other_event fact = cc

      began : (p : Phase) → m.phase ≡ p → (number : ℕ) → next_item (lasting_of p).items ≡ Some number → BeganAt e (nodes.Manager v) number now
      began p is number next = record {
        happens = happens_;
        node = any.Manager m;
        its = was;
        next = ap (λ (q : Phase). next_item (lasting_of q).items) is ∙ next;
      }

      down_so : (kept : Kept) (number : ℕ) (asked : Option Work) → Becomes (down_wish kept number (wish_at asked))
      unfolding restart
      down_so kept number None = record { state = tt; says = (tt, tt) }
      down_so kept number (Some (work.Restart node)) = record { state = tt; says = (tt, (tt, tt)) }
      down_so kept number (Some (work.Crash node)) = record { state = tt; says = (tt, tt) }
      down_so kept number (Some _) = record { state = tt; says = (tt, tt) }

      -- while it awaits the maps it manages no slot
      none_counted : (kept : Kept) (hello number : ℕ) → m.phase ≡ Waiting kept hello → next_item kept.items ≡ Some number
          → Becomes (record { state = Waiting (with_begun kept) hello; outs = Answers number (answer.Count 0) ∷ [] })
      none_counted kept hello number is next = record {
        state = tt;
        says = (
          record {
            begun = now;
            began = began (Waiting kept hello) is number next;
            gone = Passes
                (Passes (Passes (Passes (Passes (Passes (Passes (Passes Begins (none 0)) (none 1)) (none 2)) (none 3)) (none 4)) (none 5)) (none 6))
                (none 7);
          },
          tt,
        );
      }
        where
          none : (k : ℕ) → active_at (moment e now) k v ≡ None
          none k = stands (Waiting kept hello) is k

      waiting_so : (kept : Kept) (hello number : ℕ) → m.phase ≡ Waiting kept hello → next_item kept.items ≡ Some number → (asked : Option Work)
          → Becomes (waiting_wish (with_begun kept) hello number (wish_at asked))
      waiting_so kept hello number is next None = none_counted kept hello number is next
      waiting_so kept hello number is next (Some (work.Crash node)) = crash_so (with_begun kept) number
      waiting_so kept hello number is next (Some (work.Restart node)) = record { state = tt; says = (tt, tt) }
      waiting_so kept hello number is next (Some _) = none_counted kept hello number is next

      module _ (s : Serving) (is : m.phase ≡ Serves s) (h : PhaseAt now [] (Serves s)) where
        abbrev t : Serving
        t = record s { lasting = with_begun s.lasting }

        begun_so : At e v now (suc now) [] t
        begun_so =
            subst (λ (o : Option ℕ). JobSo e v now (suc now) [] s.checkpoint s.writer s.dones o) (sym (begun_open s.lasting.items))
            (job_wider e v now [] s.checkpoint s.writer s.dones s.lasting.items.unanswered (λ its fact other hears. deaf_begin its other hears) h)

        up_so : (number : ℕ) → Becomes (record { state = Serves t; outs = Answers number answer.Up ∷ [] })
        up_so number = record {
          state = job_more e v now (suc now) [] (Answers number answer.Up ∷ []) t.checkpoint t.writer t.dones t.lasting.items.unanswered begun_so;
          says = (tt, tt);
        }

        takes_so : (number : ℕ) → next_item s.lasting.items ≡ Some number → Becomes (serves (checkpoints.on_checkpoint t number))
        takes_so number next =
            serves_so (checkpoints.on_checkpoint t number)
            (checkpoint_leads e v now t number (began (Serves s) is number next) (stands (Serves s) is) begun_so)

        serving_so : (number : ℕ) → next_item s.lasting.items ≡ Some number → (asked : Option Work) → Becomes (serving_wish t number (wish_at asked))
        serving_so number next None = takes_so number next
        serving_so number next (Some (work.Crash node)) = crash_so t.lasting number
        serving_so number next (Some (work.Restart node)) = up_so number
        serving_so number next (Some _) = takes_so number next

        serving_begins : (o : Option ℕ) → next_item s.lasting.items ≡ o → Becomes (serving_item t o)
        serving_begins None next = record { state = begun_so; says = tt }
        serving_begins (Some number) next = serving_so number next (work_at t.lasting.items number)

      begin_so : (p : Phase) → m.phase ≡ p → PhaseAt now [] p → Becomes (on_begin p)
      unfolding begin_down begin_waiting begin_serving
      begin_so (Down kept) is h = by (next_item kept.items)
        where
          by : (o : Option ℕ) → Becomes (down_item (with_begun kept) o)
          by None = record { state = tt; says = tt }
          by (Some number) = down_so (with_begun kept) number (work_at (with_begun kept).items number)
      begin_so (Waiting kept hello) is h = by (next_item kept.items) refl
        where
          by : (o : Option ℕ) → next_item kept.items ≡ o → Becomes (waiting_item (with_begun kept) hello o)
          by None next = record { state = tt; says = tt }
          by (Some number) next = waiting_so kept hello number is next (work_at (with_begun kept).items number)
      begin_so (Serves s) is h = serving_begins s is h (next_item s.lasting.items) refl

    -- ---- a packet comes

    module _ (packet : Packet) (happens_ : slice_get e.events now ≡ Some (ev.Deliver packet)) (to_it : packet.to ≡ nodes.Manager v)
        (in_time : PassesClocks (moment e now) (ev.Deliver packet) → ⊥) (far : phase_has_room m.phase ≡ true) where
      one_packet : (other : Packet) → slice_get e.events now ≡ Some (ev.Deliver other) → other ≡ packet
      one_packet other fact = same_packet (sym fact ∙ happens_)
        where
          same_packet : Some (ev.Deliver other) ≡ Some (ev.Deliver packet) → other ≡ packet
          same_packet same = cc

      ack_body : (other ack : CkptAck) → body.CkptAck other ≡ body.CkptAck ack → other ≡ ack
      ack_body other ack same = cc

      -- what comes is no answer
      deaf_else : IsNoAck packet.body → IsDeaf
      deaf_else plain done other hears =
          subst IsNoAck (ap (λ (p : Packet). p.body) (sym (one_packet hears.packet hears.happens)) ∙ hears.says) plain

      deaf_unformed : is_well_formed m.peers packet ≡ false → IsDeaf
      deaf_unformed not_formed done other hears =
          contrary
          (sym not_formed
          ∙ subst (λ (x : Manager). is_well_formed x.peers packet ≡ true) (same_node hears.node hears.its)
          (subst (λ (p : Packet). is_well_formed hears.node.peers p ≡ true) (one_packet hears.packet hears.happens) hears.well_formed))
        where
          same_node : (node : Manager) → node_named (moment e now) (nodes.Manager v) ≡ Some (any.Manager node) → node ≡ m
          same_node node its = one (sym its ∙ was)
            where
              one : Some (any.Manager node) ≡ Some (any.Manager m) → node ≡ m
              one fact = cc

      module _ (well : is_well_formed m.peers packet ≡ true) where
        ack_so : (s : Serving) → m.phase ≡ Serves s → At e v now now [] s → (ack : CkptAck) → packet.body ≡ body.CkptAck ack
            → Becomes (serves (checkpoints.on_ckpt_ack s ack))
        ack_so s is h ack says =
            serves_so (checkpoints.on_ckpt_ack s ack)
            (ack_leads e v now s ack (stands (Serves s) is) h
            (λ done asks reached. record {
              packet = packet;
              happens = happens_;
              to_it = to_it;
              says = says;
              asked = asks;
              reached = reached;
              node = m;
              its = was;
              far = far;
              well_formed = well;
              in_time = in_time;
            })
            (λ done other hears.
            ack_body other ack (sym hears.says ∙ (ap (λ (p : Packet). p.body) (one_packet hears.packet hears.happens) ∙ says))))

        else_so : (s : Serving) → At e v now now [] s → IsNoAck packet.body → Becomes (serves (serving.serving_hear s m.peers.clients packet))
        else_so s h plain =
            serves_so (serving.serving_hear s m.peers.clients packet)
            (packet_goes e v now s m.peers.clients packet plain []
            (job_wider e v now [] s.checkpoint s.writer s.dones s.lasting.items.unanswered (λ its fact other hears. deaf_else plain its other hears) h))

        hears_so : (s : Serving) → m.phase ≡ Serves s → At e v now now [] s → (b : Body) → packet.body ≡ b
            → Becomes (serves (serving.serving_hear s m.peers.clients packet))
        unfolding serving.serving_hear
        hears_so s is h (body.CkptAck ack) says =
            subst
            (λ (b : Body).
            Becomes
            (serves
            (cond (names_known_groups s.maps b) (serving.on_body s m.peers.clients packet.from b) (serving.ask_for_maps s))))
            (sym says) (ack_so s is h ack says)
        hears_so s is h b says = else_so s h (subst IsNoAck (sym says) tt)

        -- after a restart it knows of no slot, and writes no checkpoint
        welcome_so : (peers : Peers) (kept : Kept) (hello : ℕ) (welcome : Welcome) → Becomes (on_welcome peers kept hello welcome)
        unfolding on_welcome
        welcome_so peers kept hello welcome =
            by_test Becomes (takes_welcome peers kept hello welcome)
            (serves (serving.on_news (serving.again kept (forgotten peers.servers) welcome.news.groups) peers.clients welcome.news))
            (still (Waiting kept hello))
            (λ _.
            serves_so _
            (news_goes e v now (serving.again kept (forgotten peers.servers) welcome.news.groups) peers.clients welcome.news []
            (record { work = refl; asked = refl; number = refl; low = least u32_end })))
            (λ _. record { state = tt; says = tt })
          where
            least : (n : ℕ) → 0 ≤ n
            least n = omega arith

        waits_so : (peers : Peers) (kept : Kept) (hello : ℕ) (b : Body) → Becomes (on_waiting peers kept hello b)
        waits_so peers kept hello (body.Welcome welcome) = welcome_so peers kept hello welcome
        waits_so peers kept hello _ = record { state = tt; says = tt }

        gets_so : (p : Phase) → m.phase ≡ p → PhaseAt now [] p → Becomes (on_packet m.peers p packet)
        gets_so (Down kept) is h = record { state = tt; says = tt }
        gets_so (Waiting kept hello) is h = waits_so m.peers kept hello packet.body
        gets_so (Serves s) is h = hears_so s is h packet.body refl

      deliver_so : PhaseAt now [] m.phase → Becomes (manager_deliver m.peers m.phase packet)
      unfolding manager_deliver
      deliver_so h =
          by_test Becomes (is_well_formed m.peers packet) (on_packet m.peers m.phase packet) (still m.phase) (λ well. gets_so well m.phase refl h)
          (λ not_formed. still_so m.phase (deaf_unformed not_formed) h)

    -- ---- time

    time_so : (deaf : IsDeaf) (p : Phase) → PhaseAt now [] p → Becomes (on_time p)
    unfolding on_time
    time_so deaf (Down kept) h = record { state = tt; says = tt }
    time_so deaf (Waiting kept hello) h = record { state = tt; says = (tt, tt) }
    time_so deaf (Serves s) h =
        serves_so (serving.on_tick s)
        (tick_goes e v now s []
        (job_wider e v now [] s.checkpoint s.writer s.dones s.lasting.items.unanswered (λ its fact other hears. deaf its other hears) h))

    -- ---- all events

    -- where its counters are not far from their ends it takes nothing
    deaf_near : phase_has_room m.phase ≡ false → IsDeaf
    deaf_near near done other hears = contrary (sym near ∙ subst (λ (x : Manager). phase_has_room x.phase ≡ true) (one (sym hears.its ∙ was)) hears.far)
      where
        one : Some (any.Manager hears.node) ≡ Some (any.Manager m) → hears.node ≡ m
        one fact = cc

    module _ (what : Do) (begins : what ≡ Begin → slice_get e.events now ≡ Some (ev.Begin (nodes.Manager v)))
        (delivers : (packet : Packet) → what ≡ Deliver packet → (slice_get e.events now ≡ Some (ev.Deliver packet)) × (packet.to ≡ nodes.Manager v))
        (in_time : (packet : Packet) → what ≡ Deliver packet → PassesClocks (moment e now) (ev.Deliver packet) → ⊥) (ticks : what ≡ Tick → IsDeaf) where
      event_so : (w : Do) → what ≡ w → phase_has_room m.phase ≡ true → PhaseAt now [] m.phase → Becomes (on_event m.peers m.phase w)
      event_so Begin is far h = begin_so (begins is) m.phase refl h
      event_so (Deliver packet) is far h = deliver_so packet (delivers packet is).0 (delivers packet is).1 (in_time packet is) far h
      event_so Tick is far h = time_so (ticks is) m.phase h

      pub becomes : PhaseAt now [] m.phase → Becomes (happens m what)
      unfolding happens
      becomes h =
          by_test Becomes (phase_has_room m.phase) (on_event m.peers m.phase what) (still m.phase) (λ far. event_so what refl far h)
          (λ near. still_so m.phase (deaf_near near) h)
