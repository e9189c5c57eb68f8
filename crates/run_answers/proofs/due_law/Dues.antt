-- What each kind of node answers in the event that begins an item.
use Rattle.std.proofs.Common.{◌≡◌, ◌≤◌, ℕ, ◌+◌, ◌-◌, ◌&&◌, min, arith, map, true, List, [], ◌∷◌, ◌++◌, Option, Some, None, is_some, refl, sym, ap, subst, ◌∙◌}
use Rattle.std.proofs.lemmas.Bool.{leb-true}
use Rattle.std.proofs.Math.Nat.{min-eq_left}
use Rattle.cleaner_job.specs.declared.lasting.Lasting.{Lasting as CleanerLasting}
use Rattle.cleaner_node.specs.CleanerEvents as cleaning
use Rattle.cleaner_node.specs.declared.cleaner.Cleaner.{Cleaner}
use Rattle.cleaner_node.specs.declared.cleaner.Phase as cleaner_phase
use Rattle.cleaner_node.specs.declared.cleaner.Phase.TheVariants as cleaner
use Rattle.cleaner_serving.specs.declared.emptying.Emptying.{Emptying}
use Rattle.cleaner_serving.specs.EmptyingEvents as emptying
use Rattle.cleaner_serving.specs.Jobs.{Done as CleanerDone}
use Rattle.client_node.specs.Crash.{fall_of}
use Rattle.client_node.specs.declared.client.Client.{Client}
use Rattle.client_node.specs.declared.phase.Phase as client_phase
use Rattle.client_node.specs.declared.phase.Phase.TheVariants as client
use Rattle.client_node.specs.Phases as clients
use Rattle.client_running.specs.Opens as running
use Rattle.client_serving.specs.declared.lasting.Lasting.{Lasting}
use Rattle.client_serving.specs.declared.serving.Serving.{Serving}
use Rattle.client_serving.specs.Sends.{Done as ClientDone, gives}
use Rattle.core_world.specs.AnyNode.{as_any}
use Rattle.core_world.specs.declared.any_node.AnyNode.{AnyNode}
use Rattle.core_world.specs.declared.any_node.AnyNode.TheVariants as any
use Rattle.log_owner.specs.declared.opening.Opening as openings
use Rattle.manager_map.specs.Slots.{manager_map_advance, entry_at}
use Rattle.manager_node.specs.declared.manager.Manager.{Manager}
use Rattle.manager_node.specs.declared.phase.Phase as manager_phase
use Rattle.manager_node.specs.declared.phase.Phase.TheVariants as manager
use Rattle.manager_node.specs.Events as managing
use Rattle.manager_node.specs.Phases as managers
use Rattle.manager_serving.specs.Checkpoints as checkpoints
use Rattle.manager_serving.specs.declared.serving.Serving.{Serving as ManagerServing}
use Rattle.manager_slots.specs.declared.lasting.Lasting.{Lasting as Life}
use Rattle.node_base.specs.Beginning.{answers_unanswered, items_begin, work_at}
use Rattle.node_base.specs.declared.effects.Effect.{Effect}
use Rattle.node_base.specs.declared.effects.Effect.TheVariants.{Answer as Answers}
use Rattle.node_base.specs.declared.items.Items.{Items}
use Rattle.node_base.specs.Effects.{acts_of, packets_of, send_each}
use Rattle.node_base.specs.Nodes.{others}
use Rattle.node_base.specs.Room.{has_room}
use Rattle.registry.specs.Board.{Made, can_move, moved, reassign}
use Rattle.registry.specs.declared.output.Out.TheVariants.{Changed, Epoch}
use Rattle.registry_node.specs.declared.node.RegistryNode.{RegistryNode}
use Rattle.registry_node.specs.Events as registering
use Rattle.store_nodes.specs.declared.server.Server.{Server as StoreServer}
use Rattle.store_nodes.specs.Rebuilds.{Done as ServerDone}
use Rattle.store_nodes.specs.ServerEvents as storing
use Rattle.version_model.specs.declared.act.Act.{Act}
use Rattle.version_model.specs.declared.act.Act.TheVariants as act
use Rattle.version_model.specs.declared.answer.Answer.TheVariants as answer
use Rattle.version_model.specs.declared.work.Work.{Work}
use Rattle.version_model.specs.declared.work.Work.TheVariants as work
use Rattle.wire_msg.specs.declared.body.Body.{Body}
use Rattle.wire_msg.specs.declared.body.Body.TheVariants as body
use Rattle.wire_msg.specs.declared.packet.Do.TheVariants.{Begin}
use Rattle.wire_msg.specs.declared.registry.News.{News}
use Rattle.wire_msg.specs.NodeStep.{NodeStep}
use Rattle.world_base.specs.Items.{actor_of}
use Rattle.xfs_base.proofs.Booleans.{and_first, by_test, contrary}
use Rattle.xfs_base.specs.declared.node.NodeId.{NodeId}
use Rattle.xfs_base.specs.declared.node.NodeId.TheVariants as nodes
use Rattle.xfs_base.specs.Limits.{counter_room, u32_end}
use Rattle.xfs_base.specs.Steps.{still}
use Rattle.run_answers.proofs.due_law.Standing.{asked_begun}
use Rattle.run_answers.proofs.once_law.Items.{begun_open}
use Rattle.run_answers.specs.due_law.Dues.{EachItemIsDue}
use Rattle.headline.specs.Dues.{BeginsWork, CrashIsDone, IsDue, ItemsFit, LossIsDone, MoveIsDone, Refuses, client_fell, cut_open, told_maps}
use Rattle.headline.specs.Items.{IsOpen, asked_at}

-- ---- what is acted

-- what is cut, and then the item is done
pub cut_begun : (me : NodeId) (items : Items) (number : ℕ) (more : List Effect)
    → acts_of me (answers_unanswered (items_begin items).unanswered answer.Cut ++ Answers number answer.Done ∷ more)
    ≡ cut_open me items.unanswered ++ act.Answered me number answer.Done ∷ acts_of me more
cut_begun me items number more =
    by (items_begin items).unanswered ∙ ap (λ o. cut_open me o ++ act.Answered me number answer.Done ∷ acts_of me more) (begun_open items)
  where
    by : (o : Option ℕ) → acts_of me (answers_unanswered o answer.Cut ++ Answers number answer.Done ∷ more) ≡ cut_open me o ++ act.Answered me number answer.Done ∷ acts_of me more
    by None = refl
    by (Some item) = refl

-- nothing is sent by that
pub cut_silent : (me : NodeId) (o : Option ℕ) (number : ℕ) → packets_of me (answers_unanswered o answer.Cut ++ Answers number answer.Done ∷ []) ≡ []
cut_silent me None number = refl
cut_silent me (Some item) number = refl

-- nothing is acted by what is sent to nodes
sends_silent : (me : NodeId) (to : List NodeId) (b : Body) (more : List Effect) → acts_of me (send_each to b ++ more) ≡ acts_of me more
sends_silent me [] b more = refl
sends_silent me (one ∷ to) b more = sends_silent me to b more

-- and the registry tells them these maps, where nothing is sent behind
sends_told : (news : News) (to : List NodeId) (more : List Effect) → packets_of nodes.Registry more ≡ []
    → packets_of nodes.Registry (send_each to (body.MapNews news) ++ more) ≡ map (told_maps news) to
sends_told news [] more none = none
sends_told news (one ∷ to) more none = ap (λ packets. told_maps news one ∷ packets) (sends_told news to more none)

-- the open item waits still, once the next has begun
waits_still : (items : Items) (item : ℕ) → IsOpen items item → is_some (items_begin items).unanswered ≡ true
waits_still items item waits = ap is_some (begun_open items ∙ waits)

none_waits : (o : Option ℕ) (item : ℕ) → o ≡ None → o ≡ Some item → ⊥
none_waits o item none waits = (let clash : None ≡ Some item = sym none ∙ waits in cc)

asked_so : (items : Items) (number : ℕ) (wanted : Option Work) → asked_at items.works number ≡ wanted → wanted ≡ work_at (items_begin items) number
asked_so items number wanted asked = sym (sym (asked_begun items number) ∙ asked)

-- ---- clients

module _ (c : Client) (number : ℕ) where
  abbrev client_in : client_phase.Phase → AnyNode
  client_in p = any.Client (record c { phase = p })

  abbrev ClientDue : client_phase.Phase → Work → clients.Went_to → Type 0
  ClientDue p wanted w = IsDue (client_in p) number (as_any any.Client (clients.stepped (record c { phase = p }) w)) wanted

  client_down : (l : Lasting) (wanted : Work) → actor_of wanted ≡ Some (nodes.Client l.number)
      → ClientDue (client.Down l) wanted (clients.down_begins c.peers.servers (record l { items = items_begin l.items }) number (clients.wish_of (Some wanted)))
  client_down l (work.Crash node) own = λ _. (λ fallen. record { acts = refl; packets = refl; stands = refl }, λ apart. absurd (apart refl))
  client_down l (work.Restart node) own = λ _. (λ fallen. (refl, (refl, refl)), λ apart. absurd (apart refl))
  client_down l (work.Lose server) own = absurd cc
  client_down l (work.Move slot m) own = absurd cc
  client_down l _ own = (λ apart. record { acts = refl; packets = refl; stands = refl }, λ item serves waits. absurd cc)

  client_opening : (l : Lasting) (o : openings.Opening) (wanted : Work) → actor_of wanted ≡ Some (nodes.Client l.number)
      → ClientDue (client.Opening l o) wanted (clients.opening_begins (record l { items = items_begin l.items }) o number (clients.wish_of (Some wanted)))
  client_opening l o (work.Crash node) own =
      λ _. (
        λ fallen. absurd cc,
        λ apart. record {
          acts = cut_begun (nodes.Client l.number) l.items number [];
          packets = cut_silent (nodes.Client l.number) (items_begin l.items).unanswered number;
          falls = refl;
        },
      )
  client_opening l o (work.Restart node) own = λ _. (λ fallen. absurd cc, λ apart. record { acts = refl; packets = refl; stands = refl })
  client_opening l o (work.Lose server) own = absurd cc
  client_opening l o (work.Move slot m) own = absurd cc
  client_opening l o _ own = (λ apart. record { acts = refl; packets = refl; stands = refl }, λ item serves waits. absurd cc)

  module _ (s : Serving) where
    abbrev s_begun : Serving
    s_begun = record s { lasting = record s.lasting { items = items_begin s.lasting.items } }

    client_crashes : CrashIsDone (client_in (client.Serving s)) number
        (as_any any.Client (clients.stepped (record c { phase = client.Serving s }) (clients.serving_crashes s_begun number)))
    unfolding fall_of
    client_crashes = record {
      acts = ap (λ (xs : List Act). client_fell (client.Serving s) ++ xs) (cut_begun (nodes.Client s.lasting.number) s.lasting.items number []);
      packets = cut_silent (nodes.Client s.lasting.number) (items_begin s.lasting.items).unanswered number;
      falls = refl;
    }

    client_busy : (item : ℕ) → IsOpen s.lasting.items item
        → Refuses (client_in (client.Serving s)) number
        (as_any any.Client (clients.stepped (record c { phase = client.Serving s }) (clients.serves_on (running.opens s_begun number)))) answer.Busy
    unfolding running.opens
    client_busy item waits =
        by_test
        (λ (d : ClientDone).
        Refuses (client_in (client.Serving s)) number (as_any any.Client (clients.stepped (record c { phase = client.Serving s }) (clients.serves_on d))) answer.Busy)
        (is_some (items_begin s.lasting.items).unanswered) (gives s_begun (Answers number answer.Busy ∷ [])) _
        (λ _. record { acts = refl; packets = refl; stands = refl }) (λ no. contrary (sym no ∙ waits_still s.lasting.items item waits))

    client_serving : (wanted : Work) → actor_of wanted ≡ Some (nodes.Client s.lasting.number)
        → ClientDue (client.Serving s) wanted (clients.serving_begins s_begun number (clients.wish_of (Some wanted)))
    client_serving (work.Crash node) own = λ _. (λ fallen. absurd cc, λ apart. client_crashes)
    client_serving (work.Restart node) own = λ _. (λ fallen. absurd cc, λ apart. record { acts = refl; packets = refl; stands = refl })
    client_serving (work.Lose server) own = absurd cc
    client_serving (work.Move slot m) own = absurd cc
    client_serving _ own = (λ apart. absurd (apart refl), λ item serves waits. client_busy item waits)

  module _ (wanted : Work) where
    client_begins : (p : client_phase.Phase) → actor_of wanted ≡ Some (nodes.Client (clients.lasting_of p).number)
        → BeginsWork (client_in p) Begin number (Some wanted) → ClientDue p wanted (clients.on_begin c.peers.servers p)
    unfolding clients.on_begin
    client_begins (client.Down l) own begins =
        subst (λ o. ClientDue (client.Down l) wanted (clients.begins_item c.peers.servers (client.Down l) o)) (sym begins.next)
        (subst (λ o. ClientDue (client.Down l) wanted (clients.down_begins c.peers.servers (record l { items = items_begin l.items }) number (clients.wish_of o)))
        (asked_so l.items number (Some wanted) begins.asked) (client_down l wanted own))
    client_begins (client.Opening l o) own begins =
        subst (λ i. ClientDue (client.Opening l o) wanted (clients.begins_item c.peers.servers (client.Opening l o) i)) (sym begins.next)
        (subst (λ w. ClientDue (client.Opening l o) wanted (clients.opening_begins (record l { items = items_begin l.items }) o number (clients.wish_of w)))
        (asked_so l.items number (Some wanted) begins.asked) (client_opening l o wanted own))
    client_begins (client.Serving s) own begins =
        subst (λ i. ClientDue (client.Serving s) wanted (clients.begins_item c.peers.servers (client.Serving s) i)) (sym begins.next)
        (subst (λ w. ClientDue (client.Serving s) wanted (clients.serving_begins (s_begun s) number (clients.wish_of w)))
        (asked_so s.lasting.items number (Some wanted) begins.asked) (client_serving s wanted own))

    client_due : clients.client_has_room c ≡ true → actor_of wanted ≡ Some (nodes.Client (clients.lasting_of c.phase).number)
        → BeginsWork (any.Client c) Begin number (Some wanted) → ClientDue c.phase wanted (clients.takes c Begin)
    client_due room own begins =
        by_test (ClientDue c.phase wanted) (clients.client_has_room c) (clients.happens c Begin) (still c.phase) (λ _. client_begins c.phase own begins)
        (λ no. contrary (sym no ∙ room))

-- ---- managers

module _ (m : Manager) (number : ℕ) where
  abbrev manager_in : manager_phase.Phase → AnyNode
  manager_in p = any.Manager (record m { phase = p })

  abbrev manager_after : manager_phase.Phase → managers.Went_to → NodeStep AnyNode
  manager_after p w = as_any any.Manager (managing.seen (record m { phase = p }) w)

  abbrev ManagerDue : manager_phase.Phase → Work → managers.Went_to → Type 0
  ManagerDue p wanted w = IsDue (manager_in p) number (manager_after p w) wanted

  module _ (l : Life) where
    abbrev l_begun : Life
    l_begun = managers.with_begun l

    -- it falls from this phase, in which it has this
    manager_crashes : (p : manager_phase.Phase) → managers.lasting_of p ≡ l → CrashIsDone (manager_in p) number (manager_after p (managers.crash l_begun number))
    unfolding managers.crash
    manager_crashes p has = record {
      acts = cut_begun me l.items number [] ∙ ap (λ (k : Life). cut_open me k.items.unanswered ++ act.Answered me number answer.Done ∷ []) (sym has);
      packets = cut_silent me (items_begin l.items).unanswered number;
      falls = refl;
    }
      where
        me : NodeId
        me = nodes.Manager (managers.lasting_of p).number

    manager_down : (wanted : Work) → actor_of wanted ≡ Some (nodes.Manager l.number)
        → ManagerDue (manager.Down l) wanted (managers.down_wish l_begun number (managers.wish_at (Some wanted)))
    unfolding managers.restart
    manager_down (work.Crash node) own = λ _. (λ fallen. record { acts = refl; packets = refl; stands = refl }, λ apart. absurd (apart refl))
    manager_down (work.Restart node) own = λ _. (λ fallen. (refl, refl), λ apart. absurd (apart refl))
    manager_down (work.Lose server) own = absurd cc
    manager_down (work.Move slot k) own = absurd cc
    manager_down _ own = (λ apart. record { acts = refl; packets = refl; stands = refl }, λ item serves waits. absurd cc)

    manager_waiting : (hello : ℕ) (wanted : Work) → l.items.unanswered ≡ None → actor_of wanted ≡ Some (nodes.Manager l.number)
        → ManagerDue (manager.Waiting l hello) wanted (managers.waiting_wish l_begun hello number (managers.wish_at (Some wanted)))
    manager_waiting hello (work.Crash node) fits own = λ _. (λ fallen. absurd cc, λ apart. manager_crashes (manager.Waiting l hello) refl)
    manager_waiting hello (work.Restart node) fits own = λ _. (λ fallen. absurd cc, λ apart. record { acts = refl; packets = refl; stands = refl })
    manager_waiting hello (work.Lose server) fits own = absurd cc
    manager_waiting hello (work.Move slot k) fits own = absurd cc
    manager_waiting hello _ fits own = (λ apart. absurd (apart refl), λ item serves waits. absurd (none_waits l.items.unanswered item fits waits))

  module _ (s : ManagerServing) where
    abbrev t_begun : ManagerServing
    t_begun = record s { lasting = managers.with_begun s.lasting }

    manager_busy : (item : ℕ) → IsOpen s.lasting.items item
        → Refuses (manager_in (manager.Serving s)) number (manager_after (manager.Serving s) (managers.serves (checkpoints.on_checkpoint t_begun number))) answer.Busy
    unfolding checkpoints.on_checkpoint
    manager_busy item waits =
        by_test (λ (d : checkpoints.Done). Refuses (manager_in (manager.Serving s)) number (manager_after (manager.Serving s) (managers.serves d)) answer.Busy)
        (is_some (items_begin s.lasting.items).unanswered) (checkpoints.gives t_begun (Answers number answer.Busy ∷ [])) _
        (λ _. record { acts = refl; packets = refl; stands = refl }) (λ no. contrary (sym no ∙ waits_still s.lasting.items item waits))

    manager_serving : (wanted : Work) → actor_of wanted ≡ Some (nodes.Manager s.lasting.number)
        → ManagerDue (manager.Serving s) wanted (managers.serving_wish t_begun number (managers.wish_at (Some wanted)))
    manager_serving (work.Crash node) own = λ _. (λ fallen. absurd cc, λ apart. manager_crashes s.lasting (manager.Serving s) refl)
    manager_serving (work.Restart node) own = λ _. (λ fallen. absurd cc, λ apart. record { acts = refl; packets = refl; stands = refl })
    manager_serving (work.Lose server) own = absurd cc
    manager_serving (work.Move slot k) own = absurd cc
    manager_serving _ own = (λ apart. absurd (apart refl), λ item serves waits. manager_busy item waits)

  module _ (wanted : Work) where
    manager_begins : (p : manager_phase.Phase) → ItemsFit (manager_in p) → actor_of wanted ≡ Some (nodes.Manager (managers.lasting_of p).number)
        → BeginsWork (manager_in p) Begin number (Some wanted) → ManagerDue p wanted (managers.on_begin p)
    unfolding managers.begin_down managers.begin_waiting managers.begin_serving
    manager_begins (manager.Down l) fits own begins =
        subst (λ o. ManagerDue (manager.Down l) wanted (managers.down_item (l_begun l) o)) (sym begins.next)
        (subst (λ w. ManagerDue (manager.Down l) wanted (managers.down_wish (l_begun l) number (managers.wish_at w)))
        (asked_so l.items number (Some wanted) begins.asked) (manager_down l wanted own))
    manager_begins (manager.Waiting l hello) fits own begins =
        subst (λ o. ManagerDue (manager.Waiting l hello) wanted (managers.waiting_item (l_begun l) hello o)) (sym begins.next)
        (subst (λ w. ManagerDue (manager.Waiting l hello) wanted (managers.waiting_wish (l_begun l) hello number (managers.wish_at w)))
        (asked_so l.items number (Some wanted) begins.asked) (manager_waiting l hello wanted fits own))
    manager_begins (manager.Serving s) fits own begins =
        subst (λ o. ManagerDue (manager.Serving s) wanted (managers.serving_item (t_begun s) o)) (sym begins.next)
        (subst (λ w. ManagerDue (manager.Serving s) wanted (managers.serving_wish (t_begun s) number (managers.wish_at w)))
        (asked_so s.lasting.items number (Some wanted) begins.asked) (manager_serving s wanted own))

    manager_due : managers.phase_has_room m.phase ≡ true → ItemsFit (any.Manager m) → actor_of wanted ≡ Some (nodes.Manager (managers.lasting_of m.phase).number)
        → BeginsWork (any.Manager m) Begin number (Some wanted) → ManagerDue m.phase wanted (managing.happens m Begin)
    unfolding managing.happens
    manager_due room fits own begins =
        by_test (ManagerDue m.phase wanted) (managers.phase_has_room m.phase) (managing.on_event m.peers m.phase Begin) (still m.phase)
        (λ _. manager_begins m.phase fits own begins) (λ no. contrary (sym no ∙ room))

-- ---- the cleaner

module _ (c : Cleaner) (number : ℕ) where
  abbrev cleaner_in : cleaner_phase.Phase → AnyNode
  cleaner_in p = any.Cleaner (record c { phase = p })

  abbrev cleaner_after : cleaner_phase.Phase → cleaning.Went_to → NodeStep AnyNode
  cleaner_after p w = as_any any.Cleaner (cleaning.seen (record c { phase = p }) w)

  abbrev CleanerDue : cleaner_phase.Phase → Work → cleaning.Went_to → Type 0
  CleanerDue p wanted w = IsDue (cleaner_in p) number (cleaner_after p w) wanted

  module _ (l : CleanerLasting) where
    abbrev life_begun : CleanerLasting
    life_begun = cleaning.begun_life l

    cleaner_crashes : (p : cleaner_phase.Phase) → cleaning.lasting_of p ≡ l → CrashIsDone (cleaner_in p) number (cleaner_after p (cleaning.crash life_begun number))
    unfolding cleaning.crash
    cleaner_crashes p has = record {
      acts = cut_begun nodes.Cleaner l.items number []
          ∙ ap (λ (k : CleanerLasting). cut_open nodes.Cleaner k.items.unanswered ++ act.Answered nodes.Cleaner number answer.Done ∷ []) (sym has);
      packets = cut_silent nodes.Cleaner (items_begin l.items).unanswered number;
      falls = refl;
    }

    cleaner_down : (wanted : Work) → actor_of wanted ≡ Some nodes.Cleaner
        → CleanerDue (cleaner.Down l) wanted (cleaning.down_wishes c.peers.servers life_begun number (cleaning.wish_of (Some wanted)))
    unfolding cleaning.restart
    cleaner_down (work.Crash node) own = λ _. (λ fallen. record { acts = refl; packets = refl; stands = refl }, λ apart. absurd (apart refl))
    cleaner_down (work.Restart node) own = λ _. (λ fallen. (refl, (refl, refl)), λ apart. absurd (apart refl))
    cleaner_down (work.Lose server) own = absurd cc
    cleaner_down (work.Move slot k) own = absurd cc
    cleaner_down _ own = (λ apart. record { acts = refl; packets = refl; stands = refl }, λ item serves waits. absurd cc)

    cleaner_opening : (o : openings.Opening) (wanted : Work) → actor_of wanted ≡ Some nodes.Cleaner
        → CleanerDue (cleaner.Opening l o) wanted (cleaning.opening_wishes life_begun o number (cleaning.wish_of (Some wanted)))
    cleaner_opening o (work.Crash node) own = λ _. (λ fallen. absurd cc, λ apart. cleaner_crashes (cleaner.Opening l o) refl)
    cleaner_opening o (work.Restart node) own = λ _. (λ fallen. absurd cc, λ apart. record { acts = refl; packets = refl; stands = refl })
    cleaner_opening o (work.Lose server) own = absurd cc
    cleaner_opening o (work.Move slot k) own = absurd cc
    cleaner_opening o _ own = (λ apart. record { acts = refl; packets = refl; stands = refl }, λ item serves waits. absurd cc)

  module _ (e : Emptying) where
    abbrev e_begun : Emptying
    e_begun = record e { lasting = cleaning.begun_life e.lasting }

    cleaner_busy : (count item : ℕ) → IsOpen e.lasting.items item
        → Refuses (cleaner_in (cleaner.Serving e)) number (cleaner_after (cleaner.Serving e) (cleaning.serves_on (emptying.on_clean e_begun number count))) answer.Busy
    unfolding emptying.on_clean
    cleaner_busy count item waits =
        by_test (λ (d : CleanerDone). Refuses (cleaner_in (cleaner.Serving e)) number (cleaner_after (cleaner.Serving e) (cleaning.serves_on d)) answer.Busy)
        (is_some (items_begin e.lasting.items).unanswered) (record { state = e_begun; outs = Answers number answer.Busy ∷ [] }) _
        (λ _. record { acts = refl; packets = refl; stands = refl }) (λ no. contrary (sym no ∙ waits_still e.lasting.items item waits))

    cleaner_serving : (wanted : Work) → actor_of wanted ≡ Some nodes.Cleaner
        → CleanerDue (cleaner.Serving e) wanted (cleaning.serving_wishes e_begun number (cleaning.wish_of (Some wanted)))
    cleaner_serving (work.Crash node) own = λ _. (λ fallen. absurd cc, λ apart. cleaner_crashes e.lasting (cleaner.Serving e) refl)
    cleaner_serving (work.Restart node) own = λ _. (λ fallen. absurd cc, λ apart. record { acts = refl; packets = refl; stands = refl })
    cleaner_serving (work.Lose server) own = absurd cc
    cleaner_serving (work.Move slot k) own = absurd cc
    cleaner_serving (work.Clean count) own = (λ apart. absurd (apart refl), λ item serves waits. cleaner_busy count item waits)
    cleaner_serving _ own = (λ apart. absurd (apart refl), λ item serves waits. cleaner_busy 0 item waits)

  module _ (wanted : Work) where
    cleaner_begins : (p : cleaner_phase.Phase) → actor_of wanted ≡ Some nodes.Cleaner → BeginsWork (cleaner_in p) Begin number (Some wanted)
        → CleanerDue p wanted (cleaning.on_begin c.peers.servers p)
    unfolding cleaning.on_begin
    cleaner_begins (cleaner.Down l) own begins =
        subst (λ o. CleanerDue (cleaner.Down l) wanted (cleaning.down_at c.peers.servers (life_begun l) o)) (sym begins.next)
        (subst (λ w. CleanerDue (cleaner.Down l) wanted (cleaning.down_wishes c.peers.servers (life_begun l) number (cleaning.wish_of w)))
        (asked_so l.items number (Some wanted) begins.asked) (cleaner_down l wanted own))
    cleaner_begins (cleaner.Opening l o) own begins =
        subst (λ i. CleanerDue (cleaner.Opening l o) wanted (cleaning.opening_at (life_begun l) o i)) (sym begins.next)
        (subst (λ w. CleanerDue (cleaner.Opening l o) wanted (cleaning.opening_wishes (life_begun l) o number (cleaning.wish_of w)))
        (asked_so l.items number (Some wanted) begins.asked) (cleaner_opening l o wanted own))
    cleaner_begins (cleaner.Serving e) own begins =
        subst (λ i. CleanerDue (cleaner.Serving e) wanted (cleaning.serving_at (e_begun e) i)) (sym begins.next)
        (subst (λ w. CleanerDue (cleaner.Serving e) wanted (cleaning.serving_wishes (e_begun e) number (cleaning.wish_of w)))
        (asked_so e.lasting.items number (Some wanted) begins.asked) (cleaner_serving e wanted own))

    cleaner_due : cleaning.phase_has_room c.phase ≡ true → actor_of wanted ≡ Some nodes.Cleaner → BeginsWork (any.Cleaner c) Begin number (Some wanted)
        → CleanerDue c.phase wanted (cleaning.takes c.peers c.phase Begin)
    cleaner_due room own begins =
        by_test (CleanerDue c.phase wanted) (cleaning.phase_has_room c.phase) (cleaning.happens c.peers c.phase Begin) (still c.phase)
        (λ _. cleaner_begins c.phase own begins) (λ no. contrary (sym no ∙ room))

-- ---- storage servers

module _ (v : StoreServer) (number : ℕ) where
  abbrev ServerDue : Work → ServerDone → Type 0
  ServerDue wanted d = IsDue (any.Server v) number (as_any any.Server (storing.seen v.number d)) wanted

  abbrev v_begun : StoreServer
  v_begun = record v { items = items_begin v.items }

  -- the next generation is one more: the one before is far from the end
  next_generation : storing.is_far_from_ends v ≡ true → min (v.shelf.generation + 1) u32_end ≡ v.shelf.generation + 1
  next_generation room =
      let far : has_room v.shelf.generation ≡ true = and_first (has_room v.shelf.generation) (has_room v.questions.last && has_room v.maps.version) room in
      let below : v.shelf.generation ≤ u32_end - counter_room = leb-true v.shelf.generation (u32_end - counter_room) far in
      min-eq_left (omega (arith, below))

  server_loses : storing.is_far_from_ends v ≡ true
      → LossIsDone (any.Server v) number (as_any any.Server (storing.seen v.number (storing.on_lose v_begun number)))
  unfolding storing.on_lose
  server_loses room = record {
    acts = cut_begun (nodes.Server v.number) v.items number _;
    loses = record { generation = next_generation room; held = refl; fences = refl; marks = refl };
  }

  server_busy : (item : ℕ) → IsOpen v.items item
      → Refuses (any.Server v) number (as_any any.Server (storing.seen v.number (storing.on_rebuild v_begun number))) answer.Busy
  unfolding storing.on_rebuild
  server_busy item waits =
      by_test (λ (d : ServerDone). Refuses (any.Server v) number (as_any any.Server (storing.seen v.number d)) answer.Busy) (is_some (items_begin v.items).unanswered)
      (storing.tells v_begun (Answers number answer.Busy ∷ [])) _ (λ _. record { acts = refl; packets = refl; stands = refl })
      (λ no. contrary (sym no ∙ waits_still v.items item waits))

  server_wish : storing.is_far_from_ends v ≡ true → (wanted : Work) → actor_of wanted ≡ Some (nodes.Server v.number)
      → ServerDue wanted (storing.on_wish v_begun number (storing.wish_of (Some wanted)))
  server_wish room (work.Crash node) own = λ crashes. absurd crashes
  server_wish room (work.Restart node) own = λ crashes. absurd crashes
  server_wish room (work.Lose server) own = server_loses room
  server_wish room (work.Rebuild server) own = (λ apart. absurd (apart refl), λ item serves waits. server_busy item waits)
  server_wish room _ own = absurd cc

  server_begins : storing.is_far_from_ends v ≡ true → (wanted : Work) → actor_of wanted ≡ Some (nodes.Server v.number) → BeginsWork (any.Server v) Begin number (Some wanted)
      → ServerDue wanted (storing.on_begin v)
  unfolding storing.on_begin
  server_begins room wanted own begins =
      subst (λ o. ServerDue wanted (storing.at_item v_begun o)) (sym begins.next)
      (subst (λ w. ServerDue wanted (storing.on_wish v_begun number (storing.wish_of w))) (asked_so v.items number (Some wanted) begins.asked)
      (server_wish room wanted own))

  server_due : (wanted : Work) → storing.is_far_from_ends v ≡ true → actor_of wanted ≡ Some (nodes.Server v.number)
      → BeginsWork (any.Server v) Begin number (Some wanted) → ServerDue wanted (storing.takes v Begin)
  server_due wanted room own begins =
      by_test (ServerDue wanted) (storing.is_far_from_ends v) (storing.on_event v Begin) (still v) (λ _. server_begins room wanted own begins)
      (λ no. contrary (sym no ∙ room))

-- ---- the registry

module _ (r : RegistryNode) (number : ℕ) where
  abbrev RegistryDue : Work → registering.Done → Type 0
  RegistryDue wanted d = IsDue (any.Registry r) number (as_any any.Registry (registering.seen d)) wanted

  abbrev r_begun : RegistryNode
  r_begun = record r { items = items_begin r.items }

  registry_moves : (slot k : ℕ) → can_move r.board slot ≡ true
      → MoveIsDone (any.Registry r) number (as_any any.Registry (registering.seen (registering.on_move r_begun number slot k))) slot k
  unfolding registering.on_move reassign
  registry_moves slot k can =
      let epoch : ℕ = (entry_at (manager_map_advance r.board.entries slot k) slot).epoch in
      let news : News = registering.news_of (moved r.board slot k) in
      by_test (λ (made : Made). MoveIsDone (any.Registry r) number (as_any any.Registry (registering.seen (registering.after_move r_begun number made))) slot k)
      (can_move r.board slot) (record { state = moved r.board slot k; outs = Changed ∷ Epoch epoch ∷ [] }) (still r.board)
      (λ _. record {
        epoch = epoch;
        acts = sends_silent nodes.Registry (others r.peers nodes.Registry) (body.MapNews news) (Answers number (answer.Epoch epoch) ∷ []);
        gives = (refl, refl);
        tells = (refl, sends_told news (others r.peers nodes.Registry) (Answers number (answer.Epoch epoch) ∷ []) refl);
      })
      (λ no. contrary (sym no ∙ can))

  registry_item : (wanted : Work) → actor_of wanted ≡ Some nodes.Registry
      → RegistryDue wanted (registering.on_item r_begun number (registering.move_of (Some wanted)))
  registry_item (work.Crash node) own = λ crashes. absurd crashes
  registry_item (work.Restart node) own = λ crashes. absurd crashes
  registry_item (work.Lose server) own = absurd cc
  registry_item (work.Move slot k) own = λ can. registry_moves slot k can
  registry_item _ own = absurd cc

  registry_begins : (wanted : Work) → actor_of wanted ≡ Some nodes.Registry → BeginsWork (any.Registry r) Begin number (Some wanted)
      → RegistryDue wanted (registering.on_begin r)
  unfolding registering.on_begin
  registry_begins wanted own begins =
      subst (λ o. RegistryDue wanted (registering.at_item r_begun o)) (sym begins.next)
      (subst (λ w. RegistryDue wanted (registering.on_item r_begun number (registering.move_of w))) (asked_so r.items number (Some wanted) begins.asked)
      (registry_item wanted own))

  registry_due : (wanted : Work) → has_room r.board.version ≡ true → actor_of wanted ≡ Some nodes.Registry
      → BeginsWork (any.Registry r) Begin number (Some wanted) → RegistryDue wanted (registering.takes r Begin)
  registry_due wanted room own begins =
      by_test (RegistryDue wanted) (has_room r.board.version) (registering.on_event r Begin) (still r) (λ _. registry_begins wanted own begins)
      (λ no. contrary (sym no ∙ room))

pub each_due : EachItemIsDue
each_due (any.Client c) number wanted room fits own begins = client_due c number wanted room own begins
each_due (any.Manager m) number wanted room fits own begins = manager_due m number wanted room fits own begins
each_due (any.Server v) number wanted room fits own begins = server_due v number wanted room own begins
each_due (any.Cleaner c) number wanted room fits own begins = cleaner_due c number wanted room own begins
each_due (any.Registry r) number wanted room fits own begins = registry_due r number wanted room own begins
