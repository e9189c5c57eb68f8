-- The registry that has its turn: a slot may be given anew, and the moment after it stands to the same small world.
use Rattle.std.proofs.Common.{◌≡◌, ⊎_elim, ℕ, Bool, ◌+◌, ◌≤◌, ◌<◌, List, ◌++◌, Some, map, slice_get, slice_set, inl, inr, refl, sym, ap, subst, ◌∙◌, arith}
use Rattle.std.proofs.Math.Nat.{mod-lt}
use Rattle.client_node.specs.declared.phase.Phase.{Phase as ClientPhase}
use Rattle.client_node.specs.declared.phase.Phase.TheVariants as clients
use Rattle.core_world.specs.declared.any_node.AnyNode.{AnyNode}
use Rattle.core_world.specs.declared.any_node.AnyNode.TheVariants as any
use Rattle.manager_node.specs.Phases as manager_phases
use Rattle.manager_slots.specs.declared.slot_phase.SlotPhase.{SlotPhase}
use Rattle.manager_slots.specs.declared.slot_phase.SlotPhase.TheVariants as phase
use Rattle.manager_slots.specs.Slots.{epoch_of as slot_epoch}
use Rattle.node_slots.specs.node_tie.CleanerEvents.{CleanerStands, CleanerWelcomed}
use Rattle.node_slots.specs.node_tie.ClientEvents.{WelcomeRises}
use Rattle.node_slots.specs.node_tie.ManagerEvents.{HeldAt}
use Rattle.headline.specs.Managers.{slot_in}
use Rattle.node_slots.specs.node_tie.RegistryEvents.{HearsHello, NewsAre, RegistryGoes, RegistrySends, RegistrySound, Welcomes, inc_in, manager_in}
use Rattle.headline.specs.Indexes.{epoch_in}
use Rattle.cleaner_node.specs.declared.cleaner.Phase.{Phase as CleanerPhase}
use Rattle.cleaner_node.specs.declared.cleaner.Phase.TheVariants as cleaners
use Rattle.registry_node.specs.declared.node.RegistryNode.{RegistryNode}
use Rattle.registry_node.specs.Events.{registry_step}
use Rattle.token_client.specs.State.{epoch_of}
use Rattle.token_protocol.specs.Basics.{put, In}
use Rattle.token_protocol.proofs.Refining.{put_each, put_each_two}
use Rattle.token_tie.proofs.Frames.{put_here}
use Rattle.version_model.specs.declared.act.Act.{Act}
use Rattle.wire_msg.specs.declared.body.Body.{Body}
use Rattle.wire_msg.specs.declared.body.Body.TheVariants as body
use Rattle.wire_msg.specs.declared.packet.Do.{Do}
use Rattle.wire_msg.specs.declared.packet.Do.TheVariants.{Begin, Deliver, Tick}
use Rattle.wire_msg.specs.declared.packet.Packet.{Packet}
use Rattle.wire_msg.specs.declared.registry.News.{News}
use Rattle.wire_msg.specs.declared.registry.Welcome.{Welcome}
use Rattle.world_base.specs.Cluster.{place_of}
use Rattle.world_base.specs.declared.cluster.Cluster.{Cluster}
use Rattle.world_base.specs.NextWorld.{sent_at}
use Rattle.run_laws.proofs.world_law.Facts.{Grown, fact_stays}
use Rattle.run_laws.proofs.world_law.Frames.{stands_frame}
use Rattle.run_laws.proofs.world_law.Gets.{all_in}
use Rattle.run_laws.proofs.world_law.Nodes.{here, there}
use Rattle.run_laws.proofs.world_law.Numbers.{one_way}
use Rattle.run_laws.proofs.world_law.Sent.{at_clock, in_all, in_append, in_list}
use Rattle.run_laws.specs.world_law.Standing.{AllTold, Fact, ManagerSees, Placed, Scene, SentBy, Stands, Welcomed, PastAt, epoch_now, life_of_cleaner, life_of_client, life_of_manager, life_told, manager_now, members, RegistrySends as Sends}
use Rattle.xfs_base.specs.Blocks.{slot_of}
use Rattle.xfs_base.specs.declared.news.SlotNews.{SlotNews}
use Rattle.xfs_base.specs.declared.node.NodeId.{NodeId}
use Rattle.xfs_base.specs.declared.node.NodeId.TheVariants.{Client, Manager, Server, Cleaner, Registry}

pub slot_below : (n : ℕ) → slot_of n < 8
slot_below n = mod-lt n (omega arith)

welcome_more : (part limit more c : ℕ) (s : Scene) (p : ClientPhase) (m : Welcome) → WelcomeRises part limit c s.net p m → WelcomeRises part more c s.net p m
welcome_more part limit more c s (clients.Down l) m h = tt
welcome_more part limit more c s (clients.Opening l o) m h = h
welcome_more part limit more c s (clients.Serving v) m h = tt

told_more : (part promised limit more : ℕ) (p : CleanerPhase) (m : Welcome) → CleanerWelcomed part promised limit p m → CleanerWelcomed part promised more p m
told_more part promised limit more (cleaners.Down l) m h = tt
told_more part promised limit more (cleaners.Opening l o) m h = h
told_more part promised limit more (cleaners.Serving e) m h = tt

-- what the cleaner has promised, it has promised under a later epoch too
cleaner_more : (part promised limit more : ℕ) → limit ≤ more → (p : CleanerPhase) → CleanerStands part promised limit p → CleanerStands part promised more p
cleaner_more part promised limit more rise (cleaners.Down l) h = tt
cleaner_more part promised limit more rise (cleaners.Opening l o) h = record {
  owner = h.owner;
  promises = ⊎_elim (λ first. inl first) (λ r. inr (record { eight = r.eight; rises = r.rises; within = (let w = r.within in omega arith) })) h.promises;
}
cleaner_more part promised limit more rise (cleaners.Serving e) h = record { eight = h.eight; promises = h.promises }

-- the epoch at which a manager holds the slot is the one that it knows
pub held_known : (p : SlotPhase) (e : ℕ) → HeldAt p e → slot_epoch p ≡ e
held_known (phase.Taking t) e h = h
held_known (phase.Active a) e h = h
held_known (phase.Away epoch) e h = absurd h
held_known (phase.Broken epoch seg) e h = absurd h

module _ (logs : Bool) (k : Cluster) (part : ℕ) (nodes : List AnyNode) (sent : List Packet) (done : List Act) (s : Scene)
    (st : Stands logs k part nodes sent done RegistrySound s)
    (p clock : ℕ) (at : place_of k Registry ≡ Some p) (premise : slice_get nodes p ≡ Some (any.Registry s.registry))
    (what : Do) (fact : (q : Packet) → what ≡ Deliver q → Fact k part s q) (go : RegistryGoes part s.registry what) where
  abbrev after_node : RegistryNode
  after_node = (registry_step s.registry what).node

  -- the epoch and the manager of the slot before and after
  abbrev old : ℕ
  old = epoch_now k part s

  abbrev new : ℕ
  new = epoch_in after_node.board part

  abbrev lord : ℕ
  lord = manager_in after_node.board part

  abbrev pub registry_scene : Scene
  registry_scene = record s { registry = after_node; lord = put s.lord new lord; since = put s.since new (inc_in after_node.board lord) }

  abbrev nodes_now : List AnyNode
  nodes_now = slice_set nodes p (any.Registry after_node)

  abbrev sent_now : List Packet
  sent_now = sent ++ map (sent_at clock) (registry_step s.registry what).packets

  rises : old ≤ new
  rises = ⊎_elim (λ same. let e = same.0 in omega arith) (λ next. omega arith) go.board.slot

  by_one : new ≤ old + 1
  by_one = ⊎_elim (λ same. let e = same.0 in omega arith) (λ next. omega arith) go.board.slot

  -- what was given up to now stays given
  lord_stays : (e : ℕ) → e ≤ old → put s.lord new lord e ≡ s.lord e
  lord_stays = put_each (λ d x. d ≤ old → x ≡ s.lord d) s.lord new lord
      (λ low. ⊎_elim (λ same. same.1 ∙ (sym st.current.0 ∙ ap s.lord (sym same.0))) (λ next. absurd (omega arith)) go.board.slot) (λ d other low. refl)

  since_stays : (e : ℕ) → e ≤ old → put s.since new (inc_in after_node.board lord) e ≡ s.since e
  since_stays = put_each (λ d x. d ≤ old → x ≡ s.since d) s.since new (inc_in after_node.board lord)
      (λ low. ⊎_elim
      (λ same. ap (inc_in after_node.board) same.1 ∙ (go.board.keeps (manager_now k part s) same.0 refl ∙ (sym st.current.1 ∙ ap s.since (sym same.0))))
      (λ next. absurd (omega arith)) go.board.slot) (λ d other low. refl)

  new_given : (e : ℕ) → old < e → e ≤ new → life_told registry_scene (put s.lord new lord e) ≤ put s.since new (inc_in after_node.board lord) e
  new_given = put_each_two (λ d x y. old < d → d ≤ new → life_told registry_scene x ≤ y) s.lord s.since new lord (inc_in after_node.board lord)
      (λ less within. omega arith) (λ d other less within. absurd (other (let b = by_one in omega arith)))

  pub grown : Grown k part s registry_scene
  grown = record {
    sent = λ x h. h;
    lives = λ c. omega arith;
    reigns = λ j. omega arith;
    epochs = rises;
    told = go.board.rises;
    given = λ e low. (lord_stays e low, since_stays e low);
    new = new_given;
    welcomes = λ c m life h. welcome_more part old new c s (s.client c).phase m h;
    cleans = omega arith;
    promises = omega arith;
    cleaner = λ m life h. told_more part s.net.promised old new s.cleaner.phase m h;
  }

  placed : Placed k part nodes_now sent_now registry_scene
  placed = record {
    clients = λ c pos less. there k nodes Registry p at (any.Registry after_node) (Client c) (λ same. absurd (cc)) ∙ st.placed.clients c pos less;
    managers = λ j pos less. there k nodes Registry p at (any.Registry after_node) (Manager j) (λ same. absurd (cc)) ∙ st.placed.managers j pos less;
    servers = λ n pos less.
        (let h = st.placed.servers n pos less in (h.0, there k nodes Registry p at (any.Registry after_node) (Server n) (λ same. absurd (cc)) ∙ h.1));
    cleaner = there k nodes Registry p at (any.Registry after_node) Cleaner (λ same. absurd (cc)) ∙ st.placed.cleaner;
    registry = here k nodes Registry p at (any.Registry after_node) (any.Registry s.registry) premise;
  }

  -- ---- who said Hello

  hello_of_manager : (j inc : ℕ) → HearsHello what (Manager j) inc → inc ≤ life_of_manager s j
  hello_of_manager j inc h = by_what what refl h
    where
      by_what : (x : Do) → what ≡ x → HearsHello x (Manager j) inc → inc ≤ life_of_manager s j
      by_what Begin gets h = absurd h
      by_what Tick gets h = absurd h
      by_what (Deliver q) gets h =
          (let f = subst (λ b. SentBy k part s (Manager j) q.to b) h.said (subst (λ n. SentBy k part s n q.to q.body) h.from (fact q gets)) in
          subst (λ i. i ≤ life_of_manager s j) h.told f.2)

  hello_of_client : (c inc : ℕ) → HearsHello what (Client c) inc → (0 < c) × (c < members k part) × (inc ≤ life_of_client s c)
  hello_of_client c inc h = by_what what refl h
    where
      by_what : (x : Do) → what ≡ x → HearsHello x (Client c) inc → (0 < c) × (c < members k part) × (inc ≤ life_of_client s c)
      by_what Begin gets h = absurd h
      by_what Tick gets h = absurd h
      by_what (Deliver q) gets h =
          (let f = subst (λ b. SentBy k part s (Client c) q.to b) h.said (subst (λ n. SentBy k part s n q.to q.body) h.from (fact q gets)) in
          (f.0, f.1, subst (λ i. i ≤ life_of_client s c) h.told f.2))

  hello_of_cleaner : (inc : ℕ) → HearsHello what Cleaner inc → inc ≤ life_of_cleaner s
  hello_of_cleaner inc h = by_what what refl h
    where
      by_what : (x : Do) → what ≡ x → HearsHello x Cleaner inc → inc ≤ life_of_cleaner s
      by_what Begin gets h = absurd h
      by_what Tick gets h = absurd h
      by_what (Deliver q) gets h =
          (let f = subst (λ b. SentBy k part s Cleaner q.to b) h.said (subst (λ n. SentBy k part s n q.to q.body) h.from (fact q gets)) in
          subst (λ i. i ≤ life_of_cleaner s) h.told f)

  -- ---- managers

  sees : (j : ℕ) → 0 < j → j ≤ k.managers → ManagerSees k part registry_scene j (s.manager j).phase
  sees j pos limit = record {
    agrees = h.agrees;
    within = (let a = h.within in let b = rises in omega arith);
    owns = λ e held. (let o = h.owns e held in let low = below e held in (lord_stays e low ∙ o.0, since_stays e low ∙ o.1));
    fresh = λ serves e less within mine. ⊎_elim
        (λ low. subst (λ x. (manager_phases.lasting_of (s.manager j).phase).inc ≤ x) (sym (since_stays e low))
        (h.fresh serves e less low (sym (lord_stays e low) ∙ mine)))
        (λ high. let g = subst (λ x. life_told registry_scene x ≤ put s.since new (inc_in after_node.board lord) e) mine (new_given e high within) in
        let a = h.known serves in let b = go.board.rises j in omega arith)
        (one_way e old);
    known = λ serves. (let a = h.known serves in let b = go.board.rises j in omega arith);
    told = ⊎_elim (λ low. let a = h.told in omega arith) (λ heard. hello_of_manager j (inc_in after_node.board j) heard) (go.board.heard j);
  }
    where
      h : ManagerSees k part s j (s.manager j).phase
      h = st.managers j pos limit

      below : (e : ℕ) → HeldAt (slot_in part (s.manager j).phase) e → e ≤ old
      below e held = (let same = held_known (slot_in part (s.manager j).phase) e held in let a = h.within in omega arith)

  -- ---- what it sends

  tells : (news : News) → NewsAre part after_node.board news → (x : SlotNews) → In x news.slots → x.slot ≡ part → (x.epoch ≡ new) × (x.manager ≡ lord)
  tells news are x among same = in_all (λ (y : SlotNews). y.slot ≡ part → (y.epoch ≡ new) × (y.manager ≡ lord)) news.slots are.tell.each x among same

  news_told : (news : News) → NewsAre part after_node.board news → AllTold k part registry_scene news.slots
  news_told news are = record {
    each = λ x among same. (let t = tells news are x among same in record {
      within = (let e = t.0 in omega arith);
      some = (let e = t.0 in let a = st.some in let b = rises in omega arith);
      given = ap (put s.lord new lord) t.0 ∙ (put_here s.lord new lord ∙ sym t.1);
    });
    here = (let x = are.tell.here in (x.0, in_list news.slots part x.0 x.1, x.2));
  }

  welcomed : (to : NodeId) (m : Welcome) → Welcomes part what after_node.board to m → Welcomed k part registry_scene to m
  welcomed (Client c) m w = (let f = hello_of_client c m.inc w.heard in record { life = f.2; rises = by_phase f.0 f.1 (s.client c).phase })
    where
      by_phase : 0 < c → c < members k part → (q : ClientPhase) → WelcomeRises part new c s.net q m
      by_phase pos less (clients.Down l) = tt
      by_phase pos less (clients.Serving v) = tt
      by_phase pos less (clients.Opening l o) = λ same. all_in (λ x. x.slot ≡ part → epoch_of (s.net.tokens c).epochs part ≤ x.epoch) m.news.slots
          (λ x among of_part. let t = tells m.news w.news x among of_part in let e = t.0 in let a = (st.clients c pos less).1.within in let b = rises in
          omega arith)
  welcomed (Manager j) m w = record {
    life = w.kept j refl;
    version = (let e = go.board.sound.epochs (slot_of part) (slot_below part) in let b = rises in let a = st.some in
        let v = ap (λ (n : News). n.version) w.news.whole in omega arith);
    later = λ x among same e less within mine. (let t = tells m.news w.news x among same in let at_new = t.0 in absurd (omega arith));
    own = λ x among same mine. (let t = tells m.news w.news x among same in
        subst (λ y. m.inc ≤ put s.since new (inc_in after_node.board lord) y) (sym t.0)
        (subst (λ y. m.inc ≤ y) (sym (put_here s.since new (inc_in after_node.board lord)))
        (subst (λ y. m.inc ≤ inc_in after_node.board y) (sym mine ∙ t.1) (w.kept j refl))));
  }
  welcomed (Server n) m w = tt
  welcomed Cleaner m w = record { life = hello_of_cleaner m.inc w.heard; rises = by_phase s.cleaner.phase }
    where
      by_phase : (q : CleanerPhase) → CleanerWelcomed part s.net.promised new q m
      by_phase (cleaners.Down l) = tt
      by_phase (cleaners.Serving e) = tt
      by_phase (cleaners.Opening l o) = λ same. all_in (λ x. x.slot ≡ part → s.net.promised ≤ x.epoch) m.news.slots
          (λ x among of_part. let t = tells m.news w.news x among of_part in let e = t.0 in let a = st.cleaner.0 in let b = rises in omega arith)
  welcomed Registry m w = tt

  says : (to : NodeId) (m : Body) → RegistrySends part what after_node.board to m → Sends k part registry_scene to m
  says to (body.Welcome m) h = (news_told m.news h.news, welcomed to m h)
  says to (body.MapNews m) h = news_told m h
  says to (body.CkptAck m) h = tt
  says to _ h = absurd h

  new_facts : (q : Packet) → In q (map (sent_at clock) (registry_step s.registry what).packets) → Fact k part registry_scene q
  new_facts q h =
      at_clock clock (λ x. (x.from ≡ Registry) × RegistrySends part what after_node.board x.to x.body) (Fact k part registry_scene)
      (λ x both. subst (λ n. SentBy k part registry_scene n x.to x.body) (sym both.0) (says x.to x.body both.1))
      (registry_step s.registry what).packets (λ i d less. (go.from i d less, go.sends i d less)) q h

  pub registry_turn : Stands logs k part nodes_now sent_now done RegistrySound registry_scene
  registry_turn = record {
    runs = st.runs;
    acts = st.acts;
    placed = placed;
    sound = go.board.sound;
    clients = λ c pos less. (let h = st.clients c pos less in (h.0, stands_frame part old new c s.net s.net rises refl (s.client c).phase h.1));
    managers = sees;
    cleaner = ((let a = st.cleaner.0 in let b = rises in omega arith), cleaner_more part s.net.promised old new rises s.cleaner.phase st.cleaner.1);
    copies = st.copies;
    few = st.few;
    peers = st.peers;
    current = (
      put_here s.lord new lord,
      put_here s.since new (inc_in after_node.board lord)
          ∙ ap (inc_in after_node.board) (sym (put_here s.lord new lord) ∙ put_here s.lord new lord),
    );
    some = (let a = st.some in let b = rises in omega arith);
    before = put_each_two (λ d x y. 0 < d → d ≤ new → y ≤ life_told registry_scene x) s.lord s.since new lord (inc_in after_node.board lord)
        (λ pos within. omega arith)
        (λ d other pos within. let low = not_new d other within in let a = st.before d pos low in let b = go.board.rises (s.lord d) in omega arith);
    entered = λ e z there_. (let h = st.entered e z there_ in let b = rises in (
      omega_le e h.0,
      subst (λ x. 0 < x) (sym (lord_stays e h.0)) h.1,
      subst (λ x. x ≤ k.managers) (sym (lord_stays e h.0)) h.2,
      subst (λ x. PastAt k part (s.manager x).phase (put s.since new (inc_in after_node.board lord) e) e) (sym (lord_stays e h.0))
          (subst (λ x. PastAt k part (s.manager (s.lord e)).phase x e) (sym (since_stays e h.0)) h.3),
      h.4,
    ));
    facts = λ q h. ⊎_elim (λ old_. fact_stays k part s registry_scene grown q (st.facts q old_)) (λ new_. new_facts q new_) (in_append sent _ q h);
  }
    where
      not_new : (d : ℕ) → (d ≡ new → ⊥) → d ≤ new → d ≤ old
      not_new d other within = ⊎_elim (λ low. low) (λ high. absurd (other (let b = by_one in omega arith))) (one_way d old)

      omega_le : (e : ℕ) → e ≤ old → e ≤ new
      omega_le e low = (let b = rises in omega arith)
