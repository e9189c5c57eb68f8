-- A manager that has its turn: the moment after it stands to the small world that runs on with it.
use Rattle.std.proofs.Common.{◌≡◌, ◌⊎◌, ⊎_elim, ℕ, ◌+◌, ◌≤◌, ◌<◌, Bool, true, false, List, ◌++◌, Option, None, Some, map, slice_get, slice_set, inl, inr, refl, sym, ap, subst, ◌∙◌, arith}
use Rattle.core_world.specs.declared.any_node.AnyNode.{AnyNode}
use Rattle.core_world.specs.declared.any_node.AnyNode.TheVariants as any
use Rattle.manager_node.specs.declared.manager.Manager.{Manager as ManagerNode}
use Rattle.manager_node.specs.declared.phase.Phase.{Phase}
use Rattle.manager_node.specs.declared.phase.Phase.TheVariants.{Down, Waiting, Serving as Serves}
use Rattle.manager_node.specs.Phases.{Went_to, lasting_of}
use Rattle.manager_slots.specs.declared.lasting.Lasting.{Lasting as Kept}
use Rattle.manager_slots.specs.declared.slot_phase.SlotPhase.{SlotPhase}
use Rattle.manager_slots.specs.declared.slot_phase.SlotPhase.TheVariants as phase
use Rattle.node_base.specs.Effects.{acts_of, packets_of}
use Rattle.node_slots.proofs.node_tie.ManagerFrames.{manager_on}
use Rattle.node_slots.proofs.node_tie.SmallWorld.{any_promise, premise_by, promised_stays, with_promise}
use Rattle.node_slots.specs.node_tie.CleanerEvents.{CleanerStands, CleanerWelcomed}
use Rattle.node_slots.specs.node_tie.CleanerLogs.{CleanerCopies}
use Rattle.node_slots.specs.node_tie.ManagerEvents.{HeldAt, ManagedAt, ManagerAgrees, ManagerGoes, NamedBy, NamedIn, Names, TakingAt, epoch_in, is_serving, is_waiting}
use Rattle.headline.specs.Managers.{active_in, active_of, slot_in}
use Rattle.node_slots.specs.node_tie.Sight.{ManagerDoes, ManagerSends}
use Rattle.registry_node.specs.declared.node.RegistryNode.{RegistryNode}
use Rattle.token_client.specs.State.{TokensState}
use Rattle.token_law.specs.Net.{Net}
use Rattle.token_manager.specs.SlotState.{SlotState}
use Rattle.token_protocol.specs.Basics.{put, In}
use Rattle.token_protocol.proofs.Refining.{put_each}
use Rattle.token_tie.proofs.Frames.{put_here}
use Rattle.version_model.specs.declared.act.Act.{Act}
use Rattle.wire_msg.specs.declared.body.Body.{Body}
use Rattle.wire_msg.specs.declared.body.Body.TheVariants as body
use Rattle.wire_msg.specs.declared.packet.Do.{Do}
use Rattle.wire_msg.specs.declared.packet.Do.TheVariants.{Begin, Deliver, Tick}
use Rattle.wire_msg.specs.declared.packet.Packet.{Packet}
use Rattle.wire_msg.specs.declared.registry.Welcome.{Welcome}
use Rattle.world_base.specs.Cluster.{place_of}
use Rattle.world_base.specs.declared.cluster.Cluster.{Cluster}
use Rattle.world_base.specs.NextWorld.{sent_at}
use Rattle.run_laws.proofs.world_law.ClientTurns.{number, welcome_frame}
use Rattle.run_laws.proofs.world_law.Facts.{Grown, fact_stays}
use Rattle.run_laws.proofs.world_law.Frames.{client_frame, runs_on, same_books, stands_frame}
use Rattle.run_laws.proofs.world_law.Gets.{news_told, welcome_told}
use Rattle.run_laws.proofs.world_law.Leaving.{SlotsGo}
use Rattle.run_laws.proofs.world_law.Nodes.{here, there}
use Rattle.run_laws.proofs.world_law.Sent.{in_append, sends}
use Rattle.run_laws.specs.world_law.Standing.{AllTold, Been, Fact, ManagerSees, ManagerWelcomed, PastAt, Placed, Scene, SentBy, Stands, Welcomed, epoch_now, life_of_manager, life_told, members}
use Rattle.headline.specs.Moments.{node_in}
use Rattle.xfs_base.specs.declared.news.SlotNews.{SlotNews}
use Rattle.xfs_base.specs.declared.node.NodeId.{NodeId}
use Rattle.xfs_base.specs.declared.node.NodeId.TheVariants.{Client, Manager, Server, Cleaner, Registry}

pub manager_number : (limit part j : ℕ) (n : Net) (p : Phase) → ManagerAgrees limit part n j p → (lasting_of p).number ≡ j
manager_number limit part j n (Down kept) h = h
manager_number limit part j n (Waiting kept hello) h = h
manager_number limit part j n (Serves s) h = h.number

-- one that holds the slot serves
held_serves : (part : ℕ) (p : Phase) (e : ℕ) → HeldAt (slot_in part p) e → is_serving p ≡ true
held_serves part (Down kept) e h = absurd h
held_serves part (Waiting kept hello) e h = absurd h
held_serves part (Serves s) e h = refl

taking_held : (p : SlotPhase) (e : ℕ) → TakingAt p e → HeldAt p e
taking_held (phase.Taking t) e h = h
taking_held (phase.Active a) e h = absurd h
taking_held (phase.Away epoch) e h = absurd h
taking_held (phase.Broken epoch seg) e h = absurd h

managed_active : (p : SlotPhase) (e : ℕ) → ManagedAt p e → (a : SlotState) × (active_in p ≡ Some a) × (a.epoch ≡ e)
managed_active (phase.Taking t) e h = absurd h
managed_active (phase.Active a) e h = (a.slot, refl, h)
managed_active (phase.Away epoch) e h = absurd h
managed_active (phase.Broken epoch seg) e h = absurd h

serving_waits_not : (p : Phase) → is_serving p ≡ true → is_waiting p ≡ true → ⊥
serving_waits_not (Down kept) s w = absurd (cc)
serving_waits_not (Waiting kept hello) s w = absurd (cc)
serving_waits_not (Serves v) s w = absurd (cc)

down_waits_not : (kept : Kept) → is_waiting (Down kept) ≡ true → ⊥
down_waits_not kept h = absurd (cc)

been_waits_not : (k : Cluster) (part : ℕ) (p : Phase) (e : ℕ) → is_waiting p ≡ true → Been k part p e → ⊥
been_waits_not k part (Down kept) e h been = absurd (cc)
been_waits_not k part (Waiting kept hello) e h been = been
been_waits_not k part (Serves s) e h been = absurd (cc)

been_serving : (k : Cluster) (part : ℕ) (p : Phase) (e : ℕ) → is_serving p ≡ true → Been k part p e → e ≤ epoch_in part p
been_serving k part (Down kept) e h been = absurd (cc)
been_serving k part (Waiting kept hello) e h been = absurd (cc)
been_serving k part (Serves s) e h been = been

been_of : (k : Cluster) (part : ℕ) (p : Phase) (e : ℕ) → is_serving p ≡ true → e ≤ epoch_in part p → Been k part p e
been_of k part (Down kept) e h known = tt
been_of k part (Waiting kept hello) e h known = absurd (cc)
been_of k part (Serves s) e h known = known

abbrev packet_in : Packet → Do → Packet
packet_in default (Deliver q) = q
packet_in default Begin = default
packet_in default Tick = default

pub delivered : (a b : Packet) → Deliver a ≡ Deliver b → a ≡ b
delivered a b same = ap (packet_in a) same

one_of : (t : Bool) → (t ≡ true) ⊎ (t ≡ false)
one_of true = inl refl
one_of false = inr refl

module _ (logs : Bool) (k : Cluster) (part : ℕ) (RegistrySound : RegistryNode → Type 0) (nodes : List AnyNode) (sent : List Packet) (done : List Act)
    (s : Scene)
    (st : Stands logs k part nodes sent done RegistrySound s)
    (j p clock : ℕ) (some : 0 < j) (limit : j ≤ k.managers) (at : place_of k (Manager j) ≡ Some p)
    (premise : slice_get nodes p ≡ Some (any.Manager (s.manager j)))
    (what : Do) (fact : (q : Packet) → what ≡ Deliver q → Fact k part s q × (q.to ≡ Manager j)) (w : Went_to)
    (go : ManagerGoes logs (members k part) part (epoch_now k part s) j s.net (s.manager j).phase what w) where
  abbrev after_node : ManagerNode
  after_node = record (s.manager j) { phase = w.state }

  abbrev pub manager_scene : Scene
  manager_scene = record s { net = go.next; manager = put s.manager j after_node }

  abbrev nodes_now : List AnyNode
  nodes_now = slice_set nodes p (any.Manager after_node)

  abbrev sent_now : List Packet
  sent_now = sent ++ map (sent_at clock) (packets_of (Manager (lasting_of (s.manager j).phase).number) w.outs)

  tokens_same : (c : ℕ) → go.next.tokens c ≡ s.net.tokens c
  tokens_same c = ap (λ (f : ℕ → TokensState). f c) go.tokens

  up_same : (c : ℕ) → go.next.up c ≡ s.net.up c
  up_same c = ap (λ (f : ℕ → Bool). f c) go.up

  promised : go.next.promised ≡ s.net.promised
  promised = promised_stays logs (members k part) part s.net go.next go.runs

  pub grown : Grown k part s manager_scene
  grown = record {
    sent = go.grows;
    lives = λ c. omega arith;
    reigns = put_each (λ d (x : ManagerNode). life_of_manager s d ≤ (lasting_of x.phase).inc) s.manager j after_node go.later (λ d other. omega arith);
    epochs = omega arith;
    told = λ d. omega arith;
    given = λ e within. (refl, refl);
    new = λ e less within. absurd (omega arith);
    welcomes = λ c m life h. welcome_frame part (epoch_now k part s) c s.net go.next (tokens_same c) (s.client c).phase m h;
    cleans = omega arith;
    promises = omega (arith, promised);
    cleaner = λ m life h. subst (λ x. CleanerWelcomed part x (epoch_now k part s) s.cleaner.phase m) (sym promised) h;
  }

  -- a slot changes only where the manager manages it after its turn
  pub slots_go : SlotsGo k part nodes_now s.net go.next
  slots_go e =
      ⊎_elim (λ same. inl same)
      (λ managed. let m = managed_active (slot_in part w.state) e managed in inr (record {
        manager = j;
        state = m.0;
        manages = ap (active_of part) (here k nodes (Manager j) p at (any.Manager after_node) (any.Manager (s.manager j)) premise) ∙ m.1;
        epoch = m.2;
      }))
      (go.changed e)

  placed : Placed k part nodes_now sent_now manager_scene
  placed = record {
    clients = λ c pos less. there k nodes (Manager j) p at (any.Manager after_node) (Client c) (λ same. absurd (cc)) ∙ st.placed.clients c pos less;
    managers = put_each
        (λ d (x : ManagerNode). 0 < d → d ≤ k.managers → node_in nodes_now (place_of k (Manager d)) ≡ Some (any.Manager x)) s.manager j after_node
        (λ _ _. here k nodes (Manager j) p at (any.Manager after_node) (any.Manager (s.manager j)) premise)
        (λ d other pos less. there k nodes (Manager j) p at (any.Manager after_node) (Manager d) (λ same. other (ap number same))
        ∙ st.placed.managers d pos less);
    servers = λ n pos less.
        (let h = st.placed.servers n pos less in (h.0, there k nodes (Manager j) p at (any.Manager after_node) (Server n) (λ same. absurd (cc)) ∙ h.1));
    cleaner = there k nodes (Manager j) p at (any.Manager after_node) Cleaner (λ same. absurd (cc)) ∙ st.placed.cleaner;
    registry = there k nodes (Manager j) p at (any.Manager after_node) Registry (λ same. absurd (cc)) ∙ st.placed.registry;
  }

  abbrev before : Phase
  before = (s.manager j).phase

  sees : ManagerSees k part s j before
  sees = st.managers j some limit

  -- ---- what it holds was given to it

  -- where it serves after the event and did before, it is the same life
  same_life : is_serving w.state ≡ true → (lasting_of w.state).inc ≡ (lasting_of before).inc
  same_life serves = ⊎_elim (λ same. same) (λ waits. absurd (serving_waits_not w.state serves waits)) go.lives

  -- where it serves only since this event, it was welcomed in this life
  pub record Came : Type 0 where
    pub welcome : Welcome
    pub all : AllTold k part s welcome.news.slots
    pub welcomed : ManagerWelcomed k part s j welcome
    pub life : welcome.inc ≡ (lasting_of w.state).inc
    pub above : (news : SlotNews) → In news welcome.news.slots → news.slot ≡ part → news.epoch ≤ epoch_in part w.state
    pub body : (q : Packet) → what ≡ Deliver q → q.body ≡ body.Welcome welcome

  came : is_serving w.state ≡ true → is_serving before ≡ false → Came
  came serves not_before =
      let o = go.opens serves not_before in
      let f = fact o.packet o.gets in
      let told = welcome_told k part s o.packet.from o.packet.to o.welcome (subst (λ b. SentBy k part s o.packet.from o.packet.to b) o.bears f.0) in
      record {
        welcome = o.welcome;
        all = told.0;
        welcomed = subst (λ x. Welcomed k part s x o.welcome) f.1 told.1;
        life = o.inc ∙ sym o.life;
        above = o.above;
        body = λ q is_. (let same : q ≡ o.packet = delivered q o.packet (sym is_ ∙ o.gets) in ap (λ (x : Packet). x.body) same ∙ o.bears);
      }

  -- news that name it were told
  named_in : (e : ℕ) (slots : List SlotNews) → AllTold k part s slots → NamedIn part j e slots → (s.lord e ≡ j) × (e ≤ epoch_now k part s) × (0 < e)
  named_in e slots all names =
      let t = all.each names.0 names.1 names.2 in
      let within = t.within in let some_ = t.some in let same = names.3 in
      (ap s.lord (sym names.3) ∙ (t.given ∙ names.4), subst (λ x. x ≤ epoch_now k part s) names.3 t.within, subst (λ x. 0 < x) names.3 t.some)

  named : (e : ℕ) (q : Packet) (m : Body) → SentBy k part s q.from q.to m → NamedBy part j e m → (s.lord e ≡ j) × (e ≤ epoch_now k part s) × (0 < e)
  named e q (body.Welcome m) h names = named_in e m.news.slots (welcome_told k part s q.from q.to m h).0 names
  named e q (body.MapNews m) h names = named_in e m.slots (news_told k part s q.from q.to m h) names
  named e q _ h names = absurd names

  owns_after : (e : ℕ) → HeldAt (slot_in part w.state) e → (s.lord e ≡ j) × (s.since e ≡ (lasting_of w.state).inc)
  owns_after e held = ⊎_elim (λ was. (let o = sees.owns e was.0 in (o.0, o.1 ∙ sym was.1))) (λ new. by_what what refl new.0 new.1) (go.taken e held)
    where
      serves : is_serving w.state ≡ true
      serves = held_serves part w.state e held

      least : (q : Packet) → what ≡ Deliver q → NamedBy part j e q.body → epoch_in part before < e → e ≤ epoch_now k part s → s.lord e ≡ j
          → (lasting_of w.state).inc ≤ s.since e
      least q gets names less within lord =
          ⊎_elim (λ was. subst (λ x. x ≤ s.since e) (sym (same_life serves)) (sees.fresh was e less within lord))
          (λ was_not. let c = came serves was_not in let n = subst (NamedBy part j e) (c.body q gets) names in
          subst (λ x. x ≤ s.since e) c.life (subst (λ x. c.welcome.inc ≤ s.since x) n.3 (c.welcomed.own n.0 n.1 n.2 n.4)))
          (one_of (is_serving before))

      by_what : (x : Do) → what ≡ x → Names part j e x → epoch_in part before < e → (s.lord e ≡ j) × (s.since e ≡ (lasting_of w.state).inc)
      by_what Begin gets names less = absurd names
      by_what Tick gets names less = absurd names
      by_what (Deliver q) gets names less =
          let n = named e q q.body (fact q gets).0 names in
          let high = subst (λ x. s.since e ≤ life_told s x) n.0 (st.before e n.2 n.1) in
          let low = least q gets names less n.1 n.0 in
          let told = sees.told in let later = go.later in
          (n.0, omega arith)

  fresh_after : is_serving w.state ≡ true → (e : ℕ) → epoch_in part w.state < e → e ≤ epoch_now k part s → s.lord e ≡ j → (lasting_of w.state).inc ≤ s.since e
  fresh_after serves e less within lord =
      ⊎_elim (λ was. let rises = go.rises was serves in let f = sees.fresh was e (omega arith) within lord in
      subst (λ x. x ≤ s.since e) (sym (same_life serves)) f)
      (λ was_not. let c = came serves was_not in let news = c.all.here in let above = c.above news.0 news.1 news.2 in
      subst (λ x. x ≤ s.since e) c.life (c.welcomed.later news.0 news.1 news.2 e (omega arith) within lord))
      (one_of (is_serving before))

  known_after : is_serving w.state ≡ true → (lasting_of w.state).inc ≤ life_told s j
  known_after serves =
      ⊎_elim (λ was. subst (λ x. x ≤ life_told s j) (sym (same_life serves)) (sees.known was))
      (λ was_not. let c = came serves was_not in subst (λ x. x ≤ life_told s j) c.life c.welcomed.life)
      (one_of (is_serving before))

  sees_after : ManagerSees k part manager_scene j w.state
  sees_after = record {
    agrees = go.agrees;
    within = go.within;
    owns = owns_after;
    fresh = fresh_after;
    known = known_after;
    told = (let a = sees.told in let b = go.later in omega arith);
  }

  sees_others : (d : ℕ) → (d ≡ j → ⊥) → 0 < d → d ≤ k.managers → ManagerSees k part manager_scene d (s.manager d).phase
  sees_others d other pos less = (let h = st.managers d pos less in record {
    agrees = manager_on (members k part) part s.net go.next go.grows (let same = promised in omega arith) d (s.manager d).phase
        (λ e held. go.slots e (λ mine. other (sym (h.owns e held).0 ∙ (sees.owns e mine).0))) h.agrees;
    within = h.within;
    owns = h.owns;
    fresh = h.fresh;
    known = h.known;
    told = h.told;
  })

  -- ---- what was entered stays entered

  pub past_after : (life e : ℕ) → PastAt k part before life e → PastAt k part w.state life e
  past_after life e (inl less) = inl (let later = go.later in omega arith)
  past_after life e (inr in_life) = by_state w.state refl
    where
      by_state : (r : Phase) → w.state ≡ r → PastAt k part r life e
      by_state (Down kept) now =
          ⊎_elim (λ same. inr (in_life.0 ∙ (sym same ∙ ap (λ (x : Phase). (lasting_of x).inc) now), tt))
          (λ waits. absurd (down_waits_not kept (ap is_waiting (sym now) ∙ waits))) go.lives
      by_state (Waiting kept hello) now =
          ⊎_elim (λ waited. absurd (been_waits_not k part before e waited in_life.1))
          (λ new. inl (let less = go.restarts (ap is_waiting now) new in
          subst (λ (x : Phase). life < (lasting_of x).inc) now (let same = in_life.0 in omega arith)))
          (one_of (is_waiting before))
      by_state (Serves v) now =
          let serves : is_serving w.state ≡ true = ap is_serving now in
          ⊎_elim (λ was. inr (
            in_life.0 ∙ (sym (same_life serves) ∙ ap (λ (x : Phase). (lasting_of x).inc) now),
            (let rises = go.rises was serves in let been = been_serving k part before e was in_life.1 in
                subst (λ (x : Phase). e ≤ epoch_in part x) now (omega arith)),
          ))
          (λ was_not. absurd (been_waits_not k part before e (ap is_waiting (go.opens serves was_not).was) in_life.1))
          (one_of (is_serving before))

  pub past_on : (d life e : ℕ) → PastAt k part (s.manager d).phase life e → PastAt k part (put s.manager j after_node d).phase life e
  past_on d life e = put_each (λ d (x : ManagerNode). PastAt k part (s.manager d).phase life e → PastAt k part x.phase life e) s.manager j after_node
      (past_after life e) (λ d other q. q) d

  entered_after : (e : ℕ) (z : SlotState) → go.next.slots e ≡ Some z
      → (e ≤ epoch_now k part s) × (0 < s.lord e) × (s.lord e ≤ k.managers) × PastAt k part (put s.manager j after_node (s.lord e)).phase (s.since e) e
      × (e ≤ go.next.promised)
  entered_after e z there_ = by_slot (s.net.slots e) refl
    where
      by_slot : (o : Option SlotState) → s.net.slots e ≡ o
          → (e ≤ epoch_now k part s) × (0 < s.lord e) × (s.lord e ≤ k.managers) × PastAt k part (put s.manager j after_node (s.lord e)).phase (s.since e) e
          × (e ≤ go.next.promised)
      by_slot (Some y) old =
          let h = st.entered e y old in (
            h.0,
            h.1,
            h.2,
            past_on (s.lord e) (s.since e) e h.3,
            subst (λ x. e ≤ x) (sym promised) h.4,
          )
      by_slot None none =
          let g = go.entered e z there_ none in
          let o = sees.owns e (taking_held (slot_in part before) e g.0) in
          let now = go.within in (
            omega arith,
            subst (λ x. 0 < x) (sym o.0) some,
            subst (λ x. x ≤ k.managers) (sym o.0) limit,
            subst (λ x. PastAt k part (put s.manager j after_node x).phase (s.since e) e) (sym o.0)
                (subst (λ (x : ManagerNode). PastAt k part x.phase (s.since e) e) (sym (put_here s.manager j after_node))
                (inr (o.1 ∙ sym (same_life g.1), been_of k part w.state e g.1 g.2))),
            subst (λ x. e ≤ x) (sym promised) g.3,
          )

  new_facts : (q : Packet) → In q (map (sent_at clock) (packets_of (Manager (lasting_of before).number) w.outs)) → Fact k part manager_scene q
  new_facts q h =
      sends (Manager (lasting_of before).number) clock (ManagerDoes part go.next.sent (epoch_now k part s) (lasting_of w.state).inc) (Fact k part manager_scene)
      (λ to m does. fact_of (lasting_of before).number (manager_number (members k part) part j s.net before sees.agrees) to m does) w.outs go.does q h
    where
      life_here : life_of_manager manager_scene j ≡ (lasting_of w.state).inc
      life_here = ap (λ (x : ManagerNode). (lasting_of x.phase).inc) (put_here s.manager j after_node)

      fact_of : (x : ℕ) → x ≡ j → (to : NodeId) (m : Body) → ManagerSends part go.next.sent (epoch_now k part s) (lasting_of w.state).inc to m
          → (0 < x) × (x ≤ k.managers) × ManagerSends part go.next.sent (epoch_now k part s) (life_of_manager manager_scene x) to m
      fact_of x same to m h =
          subst (λ y. (0 < y) × (y ≤ k.managers) × ManagerSends part go.next.sent (epoch_now k part s) (life_of_manager manager_scene y) to m) (sym same)
          (some, limit, subst (λ l. ManagerSends part go.next.sent (epoch_now k part s) l to m) (sym life_here) h)

  abbrev acts_now : List Act
  acts_now = done ++ acts_of (Manager (lasting_of before).number) w.outs

  acts : go.next.acts ≡ acts_now
  acts =
      go.acts ∙ (ap (λ a. a ++ acts_of (Manager j) w.outs) st.acts
      ∙ ap (λ x. done ++ acts_of (Manager x) w.outs) (sym (manager_number (members k part) part j s.net before sees.agrees)))

  pub manager_turn : Stands logs k part nodes_now sent_now acts_now RegistrySound manager_scene
  manager_turn = record {
    runs = runs_on logs (members k part) part _ (with_promise 1 s.net) (with_promise 1 go.next) st.runs
        (any_promise logs (members k part) part 1 s.net go.next go.runs);
    acts = acts;
    placed = placed;
    sound = st.sound;
    clients = λ c pos less. (let h = st.clients c pos less in (
      client_frame logs part c s.net go.next (tokens_same c) (up_same c) (same_books s.net.books go.next.books go.books c) go.grows (s.client c).phase h.0,
      stands_frame part (epoch_now k part s) (epoch_now k part s) c s.net go.next (omega arith) (tokens_same c) (s.client c).phase h.1,
    ));
    managers = put_each (λ d (x : ManagerNode). 0 < d → d ≤ k.managers → ManagerSees k part manager_scene d x.phase) s.manager j after_node
        (λ _ _. sees_after) sees_others;
    cleaner = subst (λ x. (x ≤ epoch_now k part s) × CleanerStands part x (epoch_now k part s) s.cleaner.phase) (sym promised) st.cleaner;
    copies = premise_by logs (subst (λ b. CleanerCopies b s.cleaner.phase) (sym go.books)) st.copies;
    few = st.few;
    peers = put_each (λ d (x : ManagerNode). 0 < d → d ≤ k.managers → x.peers.clients + 1 ≡ members k part) s.manager j after_node (st.peers j)
        (λ d other. st.peers d);
    current = st.current;
    some = st.some;
    before = st.before;
    entered = entered_after;
    facts = λ q h. ⊎_elim (λ old. fact_stays k part s manager_scene grown q (st.facts q old)) (λ new. new_facts q new) (in_append sent _ q h);
  }
