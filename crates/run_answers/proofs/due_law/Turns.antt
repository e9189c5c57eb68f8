-- Each event of a node of each kind: it serves on but for a crash, and what has fallen stays so but for a restart.
use Rattle.std.proofs.Common.{◌≡◌, ℕ, List, [], ◌∷◌, ◌++◌, Option, Some, None, inl, inr, refl, ap, subst, ◌∙◌}
use Rattle.std.proofs.lemmas.List.{append_assoc}
use Rattle.cleaner_job.specs.declared.lasting.Lasting.{Lasting as CleanerLasting}
use Rattle.cleaner_node.specs.CleanerEvents as cleaning
use Rattle.cleaner_node.specs.declared.cleaner.Cleaner.{Cleaner}
use Rattle.cleaner_node.specs.declared.cleaner.Phase as cleaner_phase
use Rattle.cleaner_node.specs.declared.cleaner.Phase.TheVariants as cleaner
use Rattle.cleaner_serving.specs.declared.emptying.Emptying.{Emptying}
use Rattle.client_node.specs.declared.client.Client.{Client}
use Rattle.client_node.specs.declared.phase.Phase as client_phase
use Rattle.client_node.specs.declared.phase.Phase.TheVariants as client
use Rattle.client_node.specs.Phases as clients
use Rattle.core_world.specs.AnyNode.{as_any}
use Rattle.core_world.specs.declared.any_node.AnyNode.{AnyNode}
use Rattle.core_world.specs.declared.any_node.AnyNode.TheVariants as any
use Rattle.client_serving.specs.declared.lasting.Lasting.{Lasting}
use Rattle.client_serving.specs.declared.serving.Serving.{Serving}
use Rattle.log_owner.specs.declared.opened.Progress.{Progress}
use Rattle.log_owner.specs.declared.opened.Progress.TheVariants as progress
use Rattle.log_owner.specs.declared.opening.Opening as openings
use Rattle.log_owner.specs.Opening.{Went}
use Rattle.log_owner.specs.Opening as opening
use Rattle.manager_node.specs.declared.manager.Manager.{Manager}
use Rattle.manager_node.specs.declared.phase.Phase as manager_phase
use Rattle.manager_node.specs.declared.phase.Phase.TheVariants as manager
use Rattle.manager_node.specs.Events as managing
use Rattle.manager_node.specs.Phases as managers
use Rattle.manager_serving.specs.declared.serving.Serving.{Serving as ManagerServing}
use Rattle.manager_slots.specs.declared.lasting.Lasting.{Lasting as Life}
use Rattle.log_owner.specs.Sending.{push_all}
use Rattle.node_base.specs.Beginning.{answers_unanswered, items_begin, next_item, work_at}
use Rattle.node_base.specs.declared.effects.Effect.{Effect}
use Rattle.node_base.specs.declared.effects.Effect.TheVariants.{Does}
use Rattle.node_base.specs.declared.items.Items.{Items}
use Rattle.node_base.specs.Effects.{acts_of}
use Rattle.node_base.specs.Room.{has_room}
use Rattle.node_base.specs.Shape.{is_well_formed}
use Rattle.registry_node.specs.declared.node.RegistryNode.{RegistryNode}
use Rattle.registry_node.specs.Events as registering
use Rattle.token_protocol.specs.Basics.{In}
use Rattle.version_model.specs.declared.act.Act.TheVariants as act
use Rattle.version_model.specs.declared.answer.Answer.TheVariants as answer
use Rattle.version_model.specs.declared.work.Work.{Work}
use Rattle.version_model.specs.declared.work.Work.TheVariants as work
use Rattle.wire_msg.specs.declared.body.Body.{Body}
use Rattle.wire_msg.specs.declared.body.Body.TheVariants as body
use Rattle.wire_msg.specs.declared.packet.Do.{Do}
use Rattle.wire_msg.specs.declared.packet.Do.TheVariants.{Begin, Deliver, Tick}
use Rattle.wire_msg.specs.declared.packet.Packet.{Packet}
use Rattle.xfs_base.proofs.Booleans.{by_test}
use Rattle.xfs_base.specs.declared.node.NodeId.{NodeId}
use Rattle.xfs_base.specs.declared.node.NodeId.TheVariants as nodes
use Rattle.xfs_base.specs.Steps.{still, saying}
use Rattle.run_answers.proofs.once_law.Items.{begun_open}
use Rattle.run_answers.proofs.due_law.Standing.{answer_among, asked_begun, done_among, down_begins, down_still, falls_so, open_same, opens_on, opens_so, serves_on, serves_so}
use Rattle.run_answers.specs.due_law.Turns.{EachEventKeepsStanding, EachStartServes}
use Rattle.headline.specs.Dues.{BeginsWork, KeepsStanding}
use Rattle.headline.specs.Standings.{standing}
use Rattle.headline.specs.Standings.Standing.{Serves}

pub starts_serve : EachStartServes
starts_serve (nodes.Client k) setup works = refl
starts_serve (nodes.Manager k) setup works = refl
starts_serve (nodes.Server k) setup works = refl
starts_serve nodes.Cleaner setup works = refl
starts_serve nodes.Registry setup works = refl

-- ---- clients

module _ (c : Client) where
  abbrev client_in : client_phase.Phase → AnyNode
  client_in p = any.Client (record c { phase = p })

  abbrev ClientKeeps : client_phase.Phase → Do → clients.Went_to → Type 0
  ClientKeeps p what w = KeepsStanding (client_in p) what (as_any any.Client (clients.stepped (record c { phase = p }) w))

  client_still : (p : client_phase.Phase) (what : Do) → ClientKeeps p what (still p)
  client_still (client.Down l) what = down_still (client_in (client.Down l)) what _ refl refl refl refl (λ fits. fits)
  client_still (client.Opening l o) what = opens_on (client_in (client.Opening l o)) what _ refl refl (λ fits. fits)
  client_still (client.Serving s) what = serves_on (client_in (client.Serving s)) what _ refl refl tt

  client_opened : (l m : Lasting) (o : openings.Opening) (what : Do) → m.items ≡ l.items → (w : Went) (p : Progress)
      → ClientKeeps (client.Opening l o) what (saying w.effects (clients.phase_after m c.cache p))
  client_opened l m o what same w (progress.Opening r) =
      opens_on (client_in (client.Opening l o)) what _ refl refl (open_same l.items m.items (ap (λ (i : Items). i.unanswered) same))
  client_opened l m o what same w (progress.Opened r) =
      opens_so (client_in (client.Opening l o)) what _ refl
      (inr (inl (inl (
        refl,
        λ item waits.
            subst (λ (es : List Effect). In (act.Answered me item answer.Done) (acts_of me es))
            (append_assoc w.effects (Does (act.Back m.number r.chain) ∷ push_all r.promised.managers r.feed) (answers_unanswered m.items.unanswered answer.Done))
            (answer_among me (w.effects ++ Does (act.Back m.number r.chain) ∷ push_all r.promised.managers r.feed) m.items.unanswered answer.Done item
            (ap (λ (i : Items). i.unanswered) same ∙ waits)),
      )))) (λ _. tt)
    where
      me : NodeId
      me = nodes.Client l.number
  client_opened l m o what same w (progress.Lost name) =
      opens_so (client_in (client.Opening l o)) what _ refl
      (inr (inl (inr (
        refl,
        (
          name,
          λ item waits.
              answer_among (nodes.Client l.number) w.effects m.items.unanswered (answer.Lost name) item (ap (λ (i : Items). i.unanswered) same ∙ waits),
        ),
      )))) (λ _. refl)

  client_hears : (p : client_phase.Phase) (packet : Packet) → ClientKeeps p (Deliver packet) (clients.on_deliver c.cache p packet)
  unfolding clients.on_deliver
  client_hears (client.Down l) packet = client_still (client.Down l) (Deliver packet)
  client_hears (client.Opening l o) packet =
      (let w : Went = opening.opening_take o l.questions packet in client_opened l (record l { questions = w.questions }) o (Deliver packet) refl w w.progress)
  client_hears (client.Serving s) packet = serves_on (client_in (client.Serving s)) (Deliver packet) _ refl refl tt

  client_time : (p : client_phase.Phase) → ClientKeeps p Tick (clients.client_tick c.cache p)
  unfolding clients.client_tick
  client_time (client.Down l) = client_still (client.Down l) Tick
  client_time (client.Opening l o) =
      (let w : Went = opening.on_tick o l.questions in client_opened l (record l { questions = w.questions }) o Tick refl w w.progress)
  client_time (client.Serving s) = serves_on (client_in (client.Serving s)) Tick _ refl refl tt

  module _ (l : Lasting) (number : ℕ) where
    client_down : (wanted : Option Work) → BeginsWork (client_in (client.Down l)) Begin number wanted
        → ClientKeeps (client.Down l) Begin (clients.down_begins c.peers.servers (record l { items = items_begin l.items }) number (clients.wish_of wanted))
    client_down None begins = down_begins (client_in (client.Down l)) Begin _ refl number None begins (inl refl) (λ fits. begun_open l.items ∙ fits)
    client_down (Some (work.Restart node)) begins =
        down_begins (client_in (client.Down l)) Begin _ refl number (Some (work.Restart node)) begins (inr (record { number = number; named = node; begins = begins }))
        (λ _. (number, refl))
    client_down (Some other) begins =
        down_begins (client_in (client.Down l)) Begin _ refl number (Some other) begins (inl refl) (λ fits. begun_open l.items ∙ fits)

    client_opening : (o : openings.Opening) (wanted : Option Work) → BeginsWork (client_in (client.Opening l o)) Begin number wanted
        → ClientKeeps (client.Opening l o) Begin (clients.opening_begins (record l { items = items_begin l.items }) o number (clients.wish_of wanted))
    client_opening o None begins = opens_on (client_in (client.Opening l o)) Begin _ refl refl (open_same l.items (items_begin l.items) (begun_open l.items))
    client_opening o (Some (work.Crash node)) begins =
        opens_so (client_in (client.Opening l o)) Begin _ refl
        (inr (inr (record {
          number = number;
          named = node;
          begins = begins;
          done = done_among (nodes.Client l.number) (items_begin l.items).unanswered number [];
          falls = refl;
        })))
        (λ _. refl)
    client_opening o (Some other) begins = opens_on (client_in (client.Opening l o)) Begin _ refl refl (open_same l.items (items_begin l.items) (begun_open l.items))

  module _ (s : Serving) (number : ℕ) where
    abbrev s_begun : Serving
    s_begun = record s { lasting = record s.lasting { items = items_begin s.lasting.items } }

    client_serving : (wanted : Option Work) → BeginsWork (client_in (client.Serving s)) Begin number wanted
        → ClientKeeps (client.Serving s) Begin (clients.serving_begins s_begun number (clients.wish_of wanted))
    client_serving None begins = serves_on (client_in (client.Serving s)) Begin _ refl refl tt
    client_serving (Some (work.Crash node)) begins =
        falls_so (client_in (client.Serving s)) Begin _ refl
        (record {
          number = number;
          named = node;
          begins = begins;
          done = inr (done_among (nodes.Client s.lasting.number) s_begun.lasting.items.unanswered number []);
          falls = refl;
        }) refl
    client_serving (Some other) begins = serves_on (client_in (client.Serving s)) Begin _ refl refl tt

  client_begins : (p : client_phase.Phase) → ClientKeeps p Begin (clients.on_begin c.peers.servers p)
  unfolding clients.on_begin
  client_begins p = by p (next_item (clients.lasting_of p).items) refl
    where
      by : (p : client_phase.Phase) (item : Option ℕ) → next_item (clients.lasting_of p).items ≡ item → ClientKeeps p Begin (clients.begins_item c.peers.servers p item)
      by p None fact = client_still p Begin
      by (client.Down l) (Some number) fact =
          client_down l number (work_at (items_begin l.items) number) (record { begin = refl; next = fact; asked = asked_begun l.items number })
      by (client.Opening l o) (Some number) fact = client_opening l number o (work_at (items_begin l.items) number) (record { begin = refl; next = fact; asked = asked_begun l.items number })
      by (client.Serving s) (Some number) fact =
          client_serving s number (work_at (items_begin s.lasting.items) number) (record { begin = refl; next = fact; asked = asked_begun s.lasting.items number })

  client_happens : (what : Do) → ClientKeeps c.phase what (clients.happens c what)
  client_happens Begin = client_begins c.phase
  client_happens (Deliver packet) =
      by_test (ClientKeeps c.phase (Deliver packet)) (is_well_formed c.peers packet) (clients.on_deliver c.cache c.phase packet) (still c.phase)
      (λ _. client_hears c.phase packet) (λ _. client_still c.phase (Deliver packet))
  client_happens Tick = client_time c.phase

  client_keeps : (what : Do) → ClientKeeps c.phase what (clients.takes c what)
  client_keeps what =
      by_test (ClientKeeps c.phase what) (clients.client_has_room c) (clients.happens c what) (still c.phase) (λ _. client_happens what) (λ _. client_still c.phase what)

-- ---- managers

module _ (m : Manager) where
  abbrev manager_in : manager_phase.Phase → AnyNode
  manager_in p = any.Manager (record m { phase = p })

  abbrev ManagerKeeps : manager_phase.Phase → Do → managers.Went_to → Type 0
  ManagerKeeps p what w = KeepsStanding (manager_in p) what (as_any any.Manager (managing.seen (record m { phase = p }) w))

  manager_still : (p : manager_phase.Phase) (what : Do) → ManagerKeeps p what (still p)
  manager_still (manager.Down l) what = down_still (manager_in (manager.Down l)) what _ refl refl refl refl (λ fits. fits)
  manager_still (manager.Waiting l hello) what = serves_so (manager_in (manager.Waiting l hello)) what _ refl refl (λ fits. fits)
  manager_still (manager.Serving s) what = serves_on (manager_in (manager.Serving s)) what _ refl refl tt

  manager_awaits : (l : Life) (hello : ℕ) (packet : Packet) (b : Body) → ManagerKeeps (manager.Waiting l hello) (Deliver packet) (managing.on_waiting m.peers l hello b)
  unfolding managing.on_welcome
  manager_awaits l hello packet (body.Welcome welcome) =
      by_test (ManagerKeeps (manager.Waiting l hello) (Deliver packet)) (managing.takes_welcome m.peers l hello welcome) _ (still (manager.Waiting l hello))
      (λ _. serves_on (manager_in (manager.Waiting l hello)) (Deliver packet) _ refl refl tt) (λ _. manager_still (manager.Waiting l hello) (Deliver packet))
  manager_awaits l hello packet _ = manager_still (manager.Waiting l hello) (Deliver packet)

  manager_hears : (p : manager_phase.Phase) (packet : Packet) → ManagerKeeps p (Deliver packet) (managing.on_packet m.peers p packet)
  manager_hears (manager.Down l) packet = manager_still (manager.Down l) (Deliver packet)
  manager_hears (manager.Waiting l hello) packet = manager_awaits l hello packet packet.body
  manager_hears (manager.Serving s) packet = serves_on (manager_in (manager.Serving s)) (Deliver packet) _ refl refl tt

  manager_time : (p : manager_phase.Phase) → ManagerKeeps p Tick (managing.on_time p)
  unfolding managing.on_time
  manager_time (manager.Down l) = manager_still (manager.Down l) Tick
  manager_time (manager.Waiting l hello) = serves_so (manager_in (manager.Waiting l hello)) Tick _ refl refl (λ fits. fits)
  manager_time (manager.Serving s) = serves_on (manager_in (manager.Serving s)) Tick _ refl refl tt

  module _ (l : Life) (number : ℕ) where
    abbrev l_begun : Life
    l_begun = managers.with_begun l

    manager_crashes : (p : manager_phase.Phase) (node : NodeId) → standing (manager_in p) ≡ Serves → BeginsWork (manager_in p) Begin number (Some (work.Crash node))
        → ManagerKeeps p Begin (managers.crash l_begun number)
    unfolding managers.crash
    manager_crashes p node serves begins =
        falls_so (manager_in p) Begin _ serves
        (record {
          number = number;
          named = node;
          begins = begins;
          done = done_among (nodes.Manager (managers.lasting_of p).number) l_begun.items.unanswered number [];
          falls = refl;
        }) refl

    manager_down : (wanted : Option Work) → BeginsWork (manager_in (manager.Down l)) Begin number wanted
        → ManagerKeeps (manager.Down l) Begin (managers.down_wish l_begun number (managers.wish_at wanted))
    unfolding managers.restart
    manager_down None begins = down_begins (manager_in (manager.Down l)) Begin _ refl number None begins (inl refl) (λ fits. begun_open l.items ∙ fits)
    manager_down (Some (work.Restart node)) begins =
        down_begins (manager_in (manager.Down l)) Begin _ refl number (Some (work.Restart node)) begins (inr (record { number = number; named = node; begins = begins }))
        (λ fits. begun_open l.items ∙ fits)
    manager_down (Some other) begins =
        down_begins (manager_in (manager.Down l)) Begin _ refl number (Some other) begins (inl refl) (λ fits. begun_open l.items ∙ fits)

    manager_waiting : (hello : ℕ) (wanted : Option Work) → BeginsWork (manager_in (manager.Waiting l hello)) Begin number wanted
        → ManagerKeeps (manager.Waiting l hello) Begin (managers.waiting_wish l_begun hello number (managers.wish_at wanted))
    manager_waiting hello None begins = serves_so (manager_in (manager.Waiting l hello)) Begin _ refl refl (λ fits. begun_open l.items ∙ fits)
    manager_waiting hello (Some (work.Crash node)) begins = manager_crashes (manager.Waiting l hello) node refl begins
    manager_waiting hello (Some other) begins = serves_so (manager_in (manager.Waiting l hello)) Begin _ refl refl (λ fits. begun_open l.items ∙ fits)

  manager_serving : (s : ManagerServing) (number : ℕ) (wanted : Option Work) → BeginsWork (manager_in (manager.Serving s)) Begin number wanted
      → ManagerKeeps (manager.Serving s) Begin (managers.serving_wish (record s { lasting = managers.with_begun s.lasting }) number (managers.wish_at wanted))
  manager_serving s number None begins = serves_on (manager_in (manager.Serving s)) Begin _ refl refl tt
  manager_serving s number (Some (work.Crash node)) begins = manager_crashes s.lasting number (manager.Serving s) node refl begins
  manager_serving s number (Some (work.Restart node)) begins = serves_on (manager_in (manager.Serving s)) Begin _ refl refl tt
  manager_serving s number (Some other) begins = serves_on (manager_in (manager.Serving s)) Begin _ refl refl tt

  manager_begins : (p : manager_phase.Phase) → ManagerKeeps p Begin (managers.on_begin p)
  unfolding managers.begin_down managers.begin_waiting managers.begin_serving
  manager_begins (manager.Down l) = by (next_item l.items) refl
    where
      by : (item : Option ℕ) → next_item l.items ≡ item → ManagerKeeps (manager.Down l) Begin (managers.down_item (managers.with_begun l) item)
      by None fact = down_still (manager_in (manager.Down l)) Begin _ refl refl refl refl (λ fits. begun_open l.items ∙ fits)
      by (Some number) fact =
          manager_down l number (work_at (items_begin l.items) number) (record { begin = refl; next = fact; asked = asked_begun l.items number })
  manager_begins (manager.Waiting l hello) = by (next_item l.items) refl
    where
      by : (item : Option ℕ) → next_item l.items ≡ item → ManagerKeeps (manager.Waiting l hello) Begin (managers.waiting_item (managers.with_begun l) hello item)
      by None fact = serves_so (manager_in (manager.Waiting l hello)) Begin _ refl refl (λ fits. begun_open l.items ∙ fits)
      by (Some number) fact =
          manager_waiting l number hello (work_at (items_begin l.items) number) (record { begin = refl; next = fact; asked = asked_begun l.items number })
  manager_begins (manager.Serving s) = by (next_item s.lasting.items) refl
    where
      by : (item : Option ℕ) → next_item s.lasting.items ≡ item
          → ManagerKeeps (manager.Serving s) Begin (managers.serving_item (record s { lasting = managers.with_begun s.lasting }) item)
      by None fact = serves_on (manager_in (manager.Serving s)) Begin _ refl refl tt
      by (Some number) fact =
          manager_serving s number (work_at (items_begin s.lasting.items) number) (record { begin = refl; next = fact; asked = asked_begun s.lasting.items number })

  manager_event : (what : Do) → ManagerKeeps m.phase what (managing.on_event m.peers m.phase what)
  unfolding managing.manager_deliver
  manager_event Begin = manager_begins m.phase
  manager_event (Deliver packet) =
      by_test (ManagerKeeps m.phase (Deliver packet)) (is_well_formed m.peers packet) (managing.on_packet m.peers m.phase packet) (still m.phase)
      (λ _. manager_hears m.phase packet) (λ _. manager_still m.phase (Deliver packet))
  manager_event Tick = manager_time m.phase

  manager_keeps : (what : Do) → ManagerKeeps m.phase what (managing.happens m what)
  unfolding managing.happens
  manager_keeps what =
      by_test (ManagerKeeps m.phase what) (managers.phase_has_room m.phase) (managing.on_event m.peers m.phase what) (still m.phase) (λ _. manager_event what)
      (λ _. manager_still m.phase what)

-- ---- the cleaner

module _ (c : Cleaner) where
  abbrev cleaner_in : cleaner_phase.Phase → AnyNode
  cleaner_in p = any.Cleaner (record c { phase = p })

  abbrev CleanerKeeps : cleaner_phase.Phase → Do → cleaning.Went_to → Type 0
  CleanerKeeps p what w = KeepsStanding (cleaner_in p) what (as_any any.Cleaner (cleaning.seen (record c { phase = p }) w))

  cleaner_still : (p : cleaner_phase.Phase) (what : Do) → CleanerKeeps p what (still p)
  cleaner_still (cleaner.Down l) what = down_still (cleaner_in (cleaner.Down l)) what _ refl refl refl refl (λ fits. fits)
  cleaner_still (cleaner.Opening l o) what = opens_on (cleaner_in (cleaner.Opening l o)) what _ refl refl (λ fits. fits)
  cleaner_still (cleaner.Serving e) what = serves_on (cleaner_in (cleaner.Serving e)) what _ refl refl tt

  cleaner_opened : (l m : CleanerLasting) (o : openings.Opening) (what : Do) → m.items ≡ l.items → (w : Went) (p : Progress)
      → CleanerKeeps (cleaner.Opening l o) what (saying w.effects (cleaning.after_opening m p))
  unfolding cleaning.after_opening
  cleaner_opened l m o what same w (progress.Opening r) =
      opens_on (cleaner_in (cleaner.Opening l o)) what _ refl refl (open_same l.items m.items (ap (λ (i : Items). i.unanswered) same))
  cleaner_opened l m o what same w (progress.Opened r) =
      opens_so (cleaner_in (cleaner.Opening l o)) what _ refl
      (inr (inl (inl (
        refl,
        λ item waits.
            subst (λ (es : List Effect). In (act.Answered nodes.Cleaner item answer.Done) (acts_of nodes.Cleaner es))
            (append_assoc w.effects (push_all r.promised.managers r.feed) (answers_unanswered m.items.unanswered answer.Done))
            (answer_among nodes.Cleaner (w.effects ++ push_all r.promised.managers r.feed) m.items.unanswered answer.Done item
            (ap (λ (i : Items). i.unanswered) same ∙ waits)),
      )))) (λ _. tt)
  cleaner_opened l m o what same w (progress.Lost name) =
      opens_so (cleaner_in (cleaner.Opening l o)) what _ refl
      (inr (inl (inr (
        refl,
        (
          name,
          λ item waits.
              answer_among nodes.Cleaner w.effects m.items.unanswered (answer.Lost name) item (ap (λ (i : Items). i.unanswered) same ∙ waits),
        ),
      )))) (λ _. refl)

  cleaner_hears : (p : cleaner_phase.Phase) (packet : Packet) → CleanerKeeps p (Deliver packet) (cleaning.cleaner_hear p packet)
  unfolding cleaning.cleaner_hear
  cleaner_hears (cleaner.Down l) packet = cleaner_still (cleaner.Down l) (Deliver packet)
  cleaner_hears (cleaner.Opening l o) packet =
      (let w : Went = opening.opening_take o l.questions packet in cleaner_opened l (record l { questions = w.questions }) o (Deliver packet) refl w w.progress)
  cleaner_hears (cleaner.Serving e) packet = serves_on (cleaner_in (cleaner.Serving e)) (Deliver packet) _ refl refl tt

  cleaner_time : (p : cleaner_phase.Phase) → CleanerKeeps p Tick (cleaning.on_time p)
  unfolding cleaning.on_time
  cleaner_time (cleaner.Down l) = cleaner_still (cleaner.Down l) Tick
  cleaner_time (cleaner.Opening l o) =
      (let w : Went = opening.on_tick o l.questions in cleaner_opened l (record l { questions = w.questions }) o Tick refl w w.progress)
  cleaner_time (cleaner.Serving e) = serves_on (cleaner_in (cleaner.Serving e)) Tick _ refl refl tt

  module _ (l : CleanerLasting) (number : ℕ) where
    abbrev life_begun : CleanerLasting
    life_begun = cleaning.begun_life l

    cleaner_down : (wanted : Option Work) → BeginsWork (cleaner_in (cleaner.Down l)) Begin number wanted
        → CleanerKeeps (cleaner.Down l) Begin (cleaning.down_wishes c.peers.servers life_begun number (cleaning.wish_of wanted))
    unfolding cleaning.restart
    cleaner_down None begins = down_begins (cleaner_in (cleaner.Down l)) Begin _ refl number None begins (inl refl) (λ fits. begun_open l.items ∙ fits)
    cleaner_down (Some (work.Restart node)) begins =
        down_begins (cleaner_in (cleaner.Down l)) Begin _ refl number (Some (work.Restart node)) begins (inr (record { number = number; named = node; begins = begins }))
        (λ _. (number, refl))
    cleaner_down (Some other) begins =
        down_begins (cleaner_in (cleaner.Down l)) Begin _ refl number (Some other) begins (inl refl) (λ fits. begun_open l.items ∙ fits)

    cleaner_opening : (o : openings.Opening) (wanted : Option Work) → BeginsWork (cleaner_in (cleaner.Opening l o)) Begin number wanted
        → CleanerKeeps (cleaner.Opening l o) Begin (cleaning.opening_wishes life_begun o number (cleaning.wish_of wanted))
    unfolding cleaning.crash
    cleaner_opening o None begins = opens_on (cleaner_in (cleaner.Opening l o)) Begin _ refl refl (open_same l.items (items_begin l.items) (begun_open l.items))
    cleaner_opening o (Some (work.Crash node)) begins =
        opens_so (cleaner_in (cleaner.Opening l o)) Begin _ refl
        (inr (inr (record {
          number = number;
          named = node;
          begins = begins;
          done = done_among nodes.Cleaner (items_begin l.items).unanswered number [];
          falls = refl;
        })))
        (λ _. refl)
    cleaner_opening o (Some other) begins = opens_on (cleaner_in (cleaner.Opening l o)) Begin _ refl refl (open_same l.items (items_begin l.items) (begun_open l.items))

  cleaner_serving : (e : Emptying) (number : ℕ) (wanted : Option Work) → BeginsWork (cleaner_in (cleaner.Serving e)) Begin number wanted
      → CleanerKeeps (cleaner.Serving e) Begin (cleaning.serving_wishes (record e { lasting = cleaning.begun_life e.lasting }) number (cleaning.wish_of wanted))
  unfolding cleaning.crash
  cleaner_serving e number None begins = serves_on (cleaner_in (cleaner.Serving e)) Begin _ refl refl tt
  cleaner_serving e number (Some (work.Crash node)) begins =
      falls_so (cleaner_in (cleaner.Serving e)) Begin _ refl
      (record {
        number = number;
        named = node;
        begins = begins;
        done = done_among nodes.Cleaner (items_begin e.lasting.items).unanswered number [];
        falls = refl;
      }) refl
  cleaner_serving e number (Some other) begins = serves_on (cleaner_in (cleaner.Serving e)) Begin _ refl refl tt

  cleaner_begins : (p : cleaner_phase.Phase) → CleanerKeeps p Begin (cleaning.on_begin c.peers.servers p)
  unfolding cleaning.on_begin
  cleaner_begins (cleaner.Down l) = by (next_item l.items) refl
    where
      by : (item : Option ℕ) → next_item l.items ≡ item → CleanerKeeps (cleaner.Down l) Begin (cleaning.down_at c.peers.servers (cleaning.begun_life l) item)
      by None fact = down_still (cleaner_in (cleaner.Down l)) Begin _ refl refl refl refl (λ fits. begun_open l.items ∙ fits)
      by (Some number) fact =
          cleaner_down l number (work_at (items_begin l.items) number) (record { begin = refl; next = fact; asked = asked_begun l.items number })
  cleaner_begins (cleaner.Opening l o) = by (next_item l.items) refl
    where
      by : (item : Option ℕ) → next_item l.items ≡ item → CleanerKeeps (cleaner.Opening l o) Begin (cleaning.opening_at (cleaning.begun_life l) o item)
      by None fact = opens_on (cleaner_in (cleaner.Opening l o)) Begin _ refl refl (open_same l.items (items_begin l.items) (begun_open l.items))
      by (Some number) fact =
          cleaner_opening l number o (work_at (items_begin l.items) number) (record { begin = refl; next = fact; asked = asked_begun l.items number })
  cleaner_begins (cleaner.Serving e) = by (next_item e.lasting.items) refl
    where
      by : (item : Option ℕ) → next_item e.lasting.items ≡ item
          → CleanerKeeps (cleaner.Serving e) Begin (cleaning.serving_at (record e { lasting = cleaning.begun_life e.lasting }) item)
      by None fact = serves_on (cleaner_in (cleaner.Serving e)) Begin _ refl refl tt
      by (Some number) fact =
          cleaner_serving e number (work_at (items_begin e.lasting.items) number) (record { begin = refl; next = fact; asked = asked_begun e.lasting.items number })

  cleaner_happens : (p : cleaner_phase.Phase) (what : Do) → CleanerKeeps p what (cleaning.happens c.peers p what)
  unfolding cleaning.on_deliver
  cleaner_happens p Begin = cleaner_begins p
  cleaner_happens p (Deliver packet) =
      by_test (CleanerKeeps p (Deliver packet)) (is_well_formed c.peers packet) (cleaning.cleaner_hear p packet) (still p)
      (λ _. cleaner_hears p packet) (λ _. cleaner_still p (Deliver packet))
  cleaner_happens p Tick = cleaner_time p

  cleaner_keeps : (what : Do) → CleanerKeeps c.phase what (cleaning.takes c.peers c.phase what)
  cleaner_keeps what =
      by_test (CleanerKeeps c.phase what) (cleaning.phase_has_room c.phase) (cleaning.happens c.peers c.phase what) (still c.phase) (λ _. cleaner_happens c.phase what)
      (λ _. cleaner_still c.phase what)

-- ---- the registry

-- what is open of it stays so
module _ (r : RegistryNode) where
  abbrev SameOpen : registering.Done → Type 0
  SameOpen d = d.state.items.unanswered ≡ r.items.unanswered

  registry_item : (w : RegistryNode) (number : ℕ) (wish : Option (ℕ × ℕ)) → w.items.unanswered ≡ r.items.unanswered → SameOpen (registering.on_item w number wish)
  unfolding registering.on_move
  registry_item w number None same = same
  registry_item w number (Some wish) same = same

  registry_begins : SameOpen (registering.on_begin r)
  unfolding registering.on_begin
  registry_begins = by (next_item r.items)
    where
      w : RegistryNode
      w = record r { items = items_begin r.items }

      by : (item : Option ℕ) → SameOpen (registering.at_item w item)
      by None = begun_open r.items
      by (Some number) = registry_item w number (registering.move_of (work_at (items_begin r.items) number)) (begun_open r.items)

  registry_hears : (from : NodeId) (b : Body) → SameOpen (registering.hears r from b)
  unfolding registering.on_hello registering.on_done
  registry_hears from (body.Hello hello) = refl
  registry_hears from (body.CkptDone done) = refl
  registry_hears from _ = refl

  registry_event : (what : Do) → SameOpen (registering.on_event r what)
  unfolding registering.on_packet
  registry_event Begin = registry_begins
  registry_event (Deliver packet) =
      by_test SameOpen (is_well_formed r.peers packet) (registering.hears r packet.from packet.body) (still r) (λ _. registry_hears packet.from packet.body) (λ _. refl)
  registry_event Tick = refl

  registry_open : (what : Do) → SameOpen (registering.takes r what)
  registry_open what = by_test SameOpen (has_room r.board.version) (registering.on_event r what) (still r) (λ _. registry_event what) (λ _. refl)

-- ---- all kinds

pub each_event : EachEventKeepsStanding
each_event (any.Client c) what = client_keeps c what
each_event (any.Manager m) what = manager_keeps m what
each_event (any.Server v) what = serves_on (any.Server v) what _ refl refl tt
each_event (any.Cleaner c) what = cleaner_keeps c what
each_event (any.Registry r) what = serves_so (any.Registry r) what _ refl refl (λ fits. registry_open r what ∙ fits)
