-- A server or the cleaner that has its turn: the moment after it stands to the same small world, but for what they act, and for what the cleaner has
-- promised and what its log says.
use Rattle.std.specs.Prelude.{All}
use Rattle.std.proofs.Common.{◌≡◌, ◌⊎◌, ⊎_elim, ℕ, Bool, ◌≤◌, ◌<◌, ◌==◌, true, false, List, ◌++◌, Some, map, slice_get, slice_set, inl, inr, refl, sym, ap, subst, ◌∙◌, arith}
use Rattle.std.proofs.lemmas.Bool.Decides.{nat_tests}
use Rattle.std.proofs.lemmas.List.Elements.{recursion_from_All}
use Rattle.std.proofs.lemmas.Bool.{eqb-true}
use Rattle.core_world.specs.declared.any_node.AnyNode.{AnyNode}
use Rattle.core_world.specs.declared.any_node.AnyNode.TheVariants as any
use Rattle.node_base.specs.declared.effects.Effect.{Effect}
use Rattle.node_base.specs.Effects.{acts_of, packets_of}
use Rattle.node_slots.proofs.node_tie.BooksLast.{same_log}
use Rattle.node_slots.proofs.node_tie.ManagerFrames.{manager_on}
use Rattle.node_slots.proofs.node_tie.SmallWorld.{any_promise, says_all, with_promise}
use Rattle.node_slots.proofs.node_tie.StoreServer.{server_from}
use Rattle.node_slots.specs.node_tie.CleanerEvents.{CleanerDoes, CleanerGoes, CleanerWelcomed}
use Rattle.node_slots.specs.node_tie.CleanerLogs.{CleanerRuns, after_cleaner, its_log}
use Rattle.node_slots.specs.node_tie.Sight.{ServerSends}
use Rattle.node_slots.specs.node_tie.StoreEvents.{PacketsSay}
use Rattle.cleaner_node.specs.CleanerEvents.{Went_to, lasting_of}
use Rattle.cleaner_node.specs.declared.cleaner.Cleaner.{Cleaner as CleanerNode}
use Rattle.cleaner_node.specs.declared.cleaner.Phase.{Phase}
use Rattle.cleaner_node.specs.declared.cleaner.Phase.TheVariants.{Down, Opening, Serving as Serves}
use Rattle.registry_node.specs.declared.node.RegistryNode.{RegistryNode}
use Rattle.store_nodes.specs.declared.server.Server.{Server as ServerNode}
use Rattle.store_nodes.specs.ServerEvents.{server_step}
use Rattle.token_law.specs.Net.{Net, acted}
use Rattle.token_law.specs.Owed.{IsNeutral}
use Rattle.token_protocol.specs.Basics.{In}
use Rattle.version_model.specs.declared.act.Act.{Act}
use Rattle.wire_msg.specs.declared.packet.Do.{Do}
use Rattle.wire_msg.specs.declared.packet.Packet.{Packet}
use Rattle.wire_msg.specs.declared.registry.Welcome.{Welcome}
use Rattle.world_base.specs.Cluster.{place_of}
use Rattle.world_base.specs.declared.cluster.Cluster.{Cluster}
use Rattle.world_base.specs.NextWorld.{sent_at}
use Rattle.run_laws.proofs.world_law.ClientTurns.{no_client, number, welcome_frame}
use Rattle.run_laws.proofs.world_law.Facts.{Grown, fact_stays}
use Rattle.run_laws.proofs.world_law.Frames.{client_frame, runs_on, stands_frame}
use Rattle.run_laws.proofs.world_law.Nodes.{here, there}
use Rattle.run_laws.proofs.world_law.Sent.{at_clock, in_append, sends}
use Rattle.run_laws.specs.world_law.Standing.{Fact, ManagerSees, Placed, Scene, SentBy, Stands, epoch_now, members}
use Rattle.headline.specs.Moments.{node_in}
use Rattle.xfs_base.specs.declared.news.SlotNews.{SlotNews}
use Rattle.xfs_base.specs.declared.node.NodeId.{NodeId}
use Rattle.xfs_base.specs.declared.node.NodeId.TheVariants.{Client, Manager, Server, Cleaner, Registry}

pub equal_or_not : (n m : ℕ) → (n ≡ m) ⊎ (n ≡ m → ⊥)
equal_or_not n m =
    elim (n == m) as (λ t. (n == m) ≡ t → (n ≡ m) ⊎ (n ≡ m → ⊥)) [ true ↦ λ h. inl (eqb-true n m h) | false ↦ λ h. inr (λ e. grind (arith, nat_tests)) ] refl

-- ---- managers

-- a manager is seen as before where nothing is sent, slots stay and no less is promised, whatever becomes of the cleaner
sees_on : (k : Cluster) (part : ℕ) (s : Scene) (net : Net) (cleaner : CleanerNode) → net.sent ≡ s.net.sent → net.slots ≡ s.net.slots
    → s.net.promised ≤ net.promised → (j : ℕ) → ManagerSees k part s j (s.manager j).phase
    → ManagerSees k part (record s { net = net; cleaner = cleaner }) j (s.manager j).phase
sees_on k part s net cleaner sent slots rises j h = record {
  agrees = manager_on (members k part) part s.net net (λ x among. subst (In x) (sym sent) among) rises j (s.manager j).phase (λ e held. ap (λ (f : ℕ → _). f
      e) slots)
      h.agrees;
  within = h.within;
  owns = h.owns;
  fresh = h.fresh;
  known = h.known;
  told = h.told;
}

-- ---- acts that change no history

module _ (logs : Bool) (k : Cluster) (part : ℕ) (RegistrySound : RegistryNode → Type 0) (nodes : List AnyNode) (sent : List Packet) (done : List Act)
    (s : Scene)
    (st : Stands logs k part nodes sent done RegistrySound s) (more : List Act) (neutral : All IsNeutral more) where
  -- they are said in the small world
  abbrev pub said_scene : Scene
  said_scene = record s { net = acted s.net more }

  pub said_grown : Grown k part s said_scene
  said_grown = record {
    sent = λ x h. h;
    lives = λ c. omega arith;
    reigns = λ j. omega arith;
    epochs = omega arith;
    told = λ j. omega arith;
    given = λ e low. (refl, refl);
    new = λ e less limit. absurd (omega arith);
    welcomes = λ c m life h. welcome_frame part (epoch_now k part s) c s.net said_scene.net refl (s.client c).phase m h;
    cleans = omega arith;
    promises = omega arith;
    cleaner = λ m life h. h;
  }

  pub said_fact : (q : Packet) → Fact k part s q → Fact k part said_scene q
  said_fact q h = fact_stays k part s said_scene said_grown q h

  said_sees : (j : ℕ) → 0 < j → j ≤ k.managers → ManagerSees k part said_scene j (s.manager j).phase
  said_sees j pos limit = sees_on k part s said_scene.net s.cleaner refl refl (omega arith) j (st.managers j pos limit)

  pub said_stands : Stands logs k part nodes sent (done ++ more) RegistrySound said_scene
  said_stands = record {
    runs = runs_on logs (members k part) part _ (with_promise 1 s.net) (with_promise 1 said_scene.net) st.runs
        (any_promise logs (members k part) part 1 s.net said_scene.net
        (says_all logs (members k part) part s.net more (recursion_from_All IsNeutral more neutral)));
    acts = ap (λ a. a ++ more) st.acts;
    placed = record {
      clients = st.placed.clients;
      managers = st.placed.managers;
      servers = st.placed.servers;
      cleaner = st.placed.cleaner;
      registry = st.placed.registry;
    };
    sound = st.sound;
    clients = λ c pos less. (let h = st.clients c pos less in (
      client_frame logs part c s.net said_scene.net refl refl (same_log s.net.books c) (λ x sent_. sent_) (s.client c).phase h.0,
      stands_frame part (epoch_now k part s) (epoch_now k part s) c s.net said_scene.net (omega arith) refl (s.client c).phase h.1,
    ));
    managers = said_sees;
    cleaner = st.cleaner;
    copies = st.copies;
    few = st.few;
    peers = st.peers;
    current = st.current;
    some = st.some;
    before = st.before;
    entered = st.entered;
    facts = λ q h. said_fact q (st.facts q h);
  }

module _ (logs : Bool) (k : Cluster) (part : ℕ) (RegistrySound : RegistryNode → Type 0) (nodes : List AnyNode) (sent : List Packet) (done : List Act)
    (s : Scene)
    (st : Stands logs k part nodes sent done RegistrySound s) (p clock : ℕ) (what : Do) where
  -- nothing but the place of the node and what was sent changes
  stands_so : (now : List AnyNode) (packets : List Packet) → Placed k part now (sent ++ packets) s → ((q : Packet) → In q packets → Fact k part s q)
      → Stands logs k part now (sent ++ packets) done RegistrySound s
  stands_so now packets placed new = record {
    runs = st.runs;
    acts = st.acts;
    placed = placed;
    sound = st.sound;
    clients = st.clients;
    managers = st.managers;
    cleaner = st.cleaner;
    copies = st.copies;
    few = st.few;
    peers = st.peers;
    current = st.current;
    some = st.some;
    before = st.before;
    entered = st.entered;
    facts = λ q h. ⊎_elim (λ old. st.facts q old) (λ fresh. new q fresh) (in_append sent packets q h);
  }

  -- ---- a server

  pub server_turn : (n : ℕ) → place_of k (Server n) ≡ Some p → (server : ServerNode) → slice_get nodes p ≡ Some (any.Server server)
      → PacketsSay ServerSends (server_step server what).packets
      → Stands logs k part (slice_set nodes p (any.Server (server_step server what).node))
      (sent ++ map (sent_at clock) (server_step server what).packets) done RegistrySound s
  server_turn n at server fact says = stands_so now (map (sent_at clock) (server_step server what).packets) placed
      (λ q h. at_clock clock (λ x. (x.from ≡ Server server.number) × ServerSends x.body) (Fact k part s)
      (λ x both. subst (λ (y : NodeId). SentBy k part s y x.to x.body) (sym both.0) both.1)
      (server_step server what).packets (λ i d less. (server_from server what i d less, says i d less)) q h)
    where
      after : AnyNode
      after = any.Server (server_step server what).node

      now : List AnyNode
      now = slice_set nodes p (any.Server (server_step server what).node)

      others : (x : NodeId) → (x ≡ Server n → ⊥) → node_in now (place_of k x) ≡ node_in nodes (place_of k x)
      others x differs = there k nodes (Server n) p at (any.Server (server_step server what).node) x differs

      placed : Placed k part now (sent ++ map (sent_at clock) (server_step server what).packets) s
      placed = record {
        clients = λ c pos less. others (Client c) (λ same. absurd (cc)) ∙ st.placed.clients c pos less;
        managers = λ j pos less. others (Manager j) (λ same. absurd (cc)) ∙ st.placed.managers j pos less;
        servers = λ m pos less. ⊎_elim
            (λ same. (
              (server_step server what).node,
              subst (λ (x : ℕ). node_in now (place_of k (Server x)) ≡ Some (any.Server (server_step server what).node)) (sym same)
                  (here k nodes (Server n) p at (any.Server (server_step server what).node) (any.Server server) fact),
            ))
            (λ other. (let h = st.placed.servers m pos less in (h.0, others (Server m) (λ same. other (ap number same)) ∙ h.1)))
            (equal_or_not m n);
        cleaner = others Cleaner (λ same. absurd (cc)) ∙ st.placed.cleaner;
        registry = others Registry (λ same. absurd (cc)) ∙ st.placed.registry;
      }

-- ---- the cleaner

-- a Welcome of a life that the cleaner had says nothing of one that begins, and what it owes to an opening stands still with that
module _ (part promised limit : ℕ) where
  cleaner_after : (p q : Phase) (outs : List Effect) (go : CleanerGoes part promised limit p q outs) (m : Welcome) → m.inc ≤ (lasting_of p).inc
      → CleanerWelcomed part promised limit p m → CleanerWelcomed part go.next limit q m
  cleaner_after p (Down next) outs go m life h = tt
  cleaner_after p (Serves e) outs go m life h = tt
  cleaner_after (Down l) (Opening next o) outs go m life h = λ same. (let later = go.begins in absurd (omega arith))
  cleaner_after (Serves e) (Opening next o) outs go m life h = λ same. (let later = go.begins in absurd (omega arith))
  cleaner_after (Opening l o) (Opening next x) outs go m life h = λ same. (let later = go.later in let now : m.inc ≡ l.inc = omega arith in
      subst (λ y. All (λ (news : SlotNews). news.slot ≡ part → y ≤ news.epoch) m.news.slots) (sym (go.keeps tt)) (h now))

module _ (logs : Bool) (k : Cluster) (part : ℕ) (RegistrySound : RegistryNode → Type 0) (nodes : List AnyNode) (sent : List Packet) (done : List Act)
    (s : Scene)
    (st : Stands logs k part nodes sent done RegistrySound s) (p clock : ℕ)
    (at : place_of k Cleaner ≡ Some p) (fact : slice_get nodes p ≡ Some (any.Cleaner s.cleaner)) (w : Went_to)
    (go : CleanerGoes part s.net.promised (epoch_now k part s) s.cleaner.phase w.state w.outs)
    {adopted : Bool} (run : CleanerRuns logs (members k part) part s.net adopted s.cleaner.phase w.state w.outs) where
  abbrev after_node : CleanerNode
  after_node = record s.cleaner { phase = w.state }

  abbrev pub cleaner_scene : Scene
  cleaner_scene = record s { net = record (after_cleaner s.net run.books w.outs) { promised = go.next }; cleaner = after_node }

  abbrev nodes_now : List AnyNode
  nodes_now = slice_set nodes p (any.Cleaner after_node)

  abbrev sent_now : List Packet
  sent_now = sent ++ map (sent_at clock) (packets_of Cleaner w.outs)

  pub grown : Grown k part s cleaner_scene
  grown = record {
    sent = λ x h. h;
    lives = λ c. omega arith;
    reigns = λ j. omega arith;
    epochs = omega arith;
    told = λ j. omega arith;
    given = λ e low. (refl, refl);
    new = λ e less limit. absurd (omega arith);
    welcomes = λ c m life h. welcome_frame part (epoch_now k part s) c s.net cleaner_scene.net refl (s.client c).phase m h;
    cleans = go.later;
    promises = go.rises;
    cleaner = λ m life h. cleaner_after part s.net.promised (epoch_now k part s) s.cleaner.phase w.state w.outs go m life h;
  }

  others : (x : NodeId) → (x ≡ Cleaner → ⊥) → node_in nodes_now (place_of k x) ≡ node_in nodes (place_of k x)
  others x differs = there k nodes Cleaner p at (any.Cleaner after_node) x differs

  placed : Placed k part nodes_now sent_now cleaner_scene
  placed = record {
    clients = λ c pos less. others (Client c) (λ same. absurd (cc)) ∙ st.placed.clients c pos less;
    managers = λ j pos less. others (Manager j) (λ same. absurd (cc)) ∙ st.placed.managers j pos less;
    servers = λ n pos less. (let h = st.placed.servers n pos less in (h.0, others (Server n) (λ same. absurd (cc)) ∙ h.1));
    cleaner = here k nodes Cleaner p at (any.Cleaner after_node) (any.Cleaner s.cleaner) fact;
    registry = others Registry (λ same. absurd (cc)) ∙ st.placed.registry;
  }

  sees : (j : ℕ) → 0 < j → j ≤ k.managers → ManagerSees k part cleaner_scene j (s.manager j).phase
  sees j pos limit = sees_on k part s cleaner_scene.net after_node refl refl go.rises j (st.managers j pos limit)

  new_facts : (q : Packet) → In q (map (sent_at clock) (packets_of Cleaner w.outs)) → Fact k part cleaner_scene q
  new_facts q h = sends Cleaner clock (CleanerDoes part go.next (lasting_of w.state).inc) (Fact k part cleaner_scene) (λ to m does. does) w.outs go.does q h

  up_to : (a b c : ℕ) → a ≤ b → b ≤ c → a ≤ c
  up_to a b c h g = omega arith

  pub cleaner_turn : Stands logs k part nodes_now sent_now (done ++ acts_of Cleaner w.outs) RegistrySound cleaner_scene
  cleaner_turn = record {
    runs = runs_on logs (members k part) part _ (with_promise 1 s.net) (with_promise 1 cleaner_scene.net) st.runs
        (any_promise logs (members k part) part 1 s.net (after_cleaner s.net run.books w.outs) run.runs);
    acts = ap (λ a. a ++ acts_of Cleaner w.outs) st.acts;
    placed = placed;
    sound = st.sound;
    clients = λ c pos less. (let h = st.clients c pos less in (
      client_frame logs part c s.net cleaner_scene.net refl refl (run.others c (λ own. no_client c (members k part) its_log less st.few (sym own)))
          (λ x sent_. sent_) (s.client c).phase h.0,
      stands_frame part (epoch_now k part s) (epoch_now k part s) c s.net cleaner_scene.net (omega arith) refl (s.client c).phase h.1,
    ));
    managers = sees;
    cleaner = (go.within, go.stands);
    copies = run.copies;
    few = st.few;
    peers = st.peers;
    current = st.current;
    some = st.some;
    before = st.before;
    entered = λ e z there_. (let h = st.entered e z there_ in (h.0, h.1, h.2, h.3, up_to e s.net.promised go.next h.4 go.rises));
    facts = λ q h. ⊎_elim (λ old. fact_stays k part s cleaner_scene grown q (st.facts q old)) (λ new. new_facts q new) (in_append sent _ q h);
  }
