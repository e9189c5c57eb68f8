-- The registry, or a server, that has its turn: the moment after it stands to the small world in which the slot's epoch rose, or a checkpoint was kept.
use Rattle.std.proofs.Common.{◌≡◌, ⊎_elim, ℕ, ◌≤◌, ◌<◌, List, ◌++◌, None, Some, map, slice_get, slice_set, sym, ap, subst, ◌∙◌, arith}
use Rattle.std.specs.Prelude.{All}
use Rattle.core_world.specs.declared.any_node.AnyNode.{AnyNode}
use Rattle.core_world.specs.declared.any_node.AnyNode.TheVariants as any
use Rattle.headline.specs.Filed.{AreTexts, Filed, Texts}
use Rattle.index_tie.specs.Net.{Net, Packet as Said, opening}
use Rattle.log_protocol.specs.Tables as tables
use Rattle.manager_node.specs.declared.phase.Phase.{Phase as ManagerPhase}
use Rattle.manager_node.specs.declared.phase.Phase.TheVariants as managing
use Rattle.manager_slots.specs.declared.slot_phase.SlotPhase.{SlotPhase}
use Rattle.manager_slots.specs.declared.slot_phase.SlotPhase.TheVariants as phase
use Rattle.node_base.specs.declared.effects.Effect.{Effect}
use Rattle.node_base.specs.Effects.{packets_of}
use Rattle.node_slots.proofs.node_index_tie.Moves.{runs_through, some_none}
use Rattle.node_slots.specs.node_index_tie.ManagerEvents.{ManagerAgrees, ManagersStay, Passes, PhaseAgrees}
use Rattle.node_slots.specs.node_index_tie.Pages.{Desk, desk_of}
use Rattle.node_slots.specs.node_index_tie.RegistryEvents.{NewsTold, RegistryGoes}
use Rattle.node_slots.specs.node_tie.ManagerEvents.{HeldAt}
use Rattle.headline.specs.Managers.{phase_at, slot_in}
use Rattle.node_slots.specs.node_tie.RegistryEvents.{NewsAre, RegistrySends, RegistrySound}
use Rattle.node_slots.specs.node_tie.RegistryEvents as maps
use Rattle.node_slots.specs.owner_index_tie.CleanerEvents.{CleanerStays}
use Rattle.node_slots.specs.owner_index_tie.ClientEvents.{ClientsStay}
use Rattle.node_slots.specs.owner_index_tie.ServerEvents.{DoesNothing}
use Rattle.segment_format.specs.declared.segment.Segment.{Segment}
use Rattle.registry_node.specs.declared.node.RegistryNode.{RegistryNode}
use Rattle.store_nodes.specs.declared.server.Server.{Server as ServerNode}
use Rattle.registry_node.specs.Events.{registry_step}
use Rattle.store_nodes.specs.ServerEvents.{server_step, takes}
use Rattle.token_protocol.specs.Basics.{In}
use Rattle.wire_msg.specs.declared.body.Body.{Body}
use Rattle.wire_msg.specs.declared.body.Body.TheVariants as body
use Rattle.wire_msg.specs.declared.packet.Do.{Do}
use Rattle.wire_msg.specs.declared.packet.Packet.{Packet}
use Rattle.wire_msg.specs.declared.registry.News.{News}
use Rattle.world_base.specs.Cluster.{place_of}
use Rattle.world_base.specs.declared.cluster.Cluster.{Cluster}
use Rattle.world_base.specs.NextWorld.{sent_at}
use Rattle.run_laws.proofs.world_index.Facts.{Grown, sent_stays}
use Rattle.run_laws.proofs.world_index.Horizons.{runs_stay, steady_always}
use Rattle.run_laws.proofs.world_index.ManagerTurns.{same_log, same_more}
use Rattle.run_laws.proofs.world_index.Placing.{place_registry, place_server}
use Rattle.run_laws.specs.world_index.Standing.{AllKept, Fact, NewsKept, RegistryTells, Scene, SentBy, Stands}
use Rattle.run_laws.proofs.world_law.Sent.{at_clock, in_append, sends}
use Rattle.xfs_base.specs.Limits.{u32_end}
use Rattle.xfs_base.specs.declared.news.SlotNews.{SlotNews}
use Rattle.xfs_base.specs.declared.node.NodeId.{NodeId}
use Rattle.xfs_base.specs.declared.node.NodeId.TheVariants.{Server, Registry}

-- an epoch that a manager takes over has begun
module _ (part : ℕ) (texts : Texts) (n : Net) where
  slot_begun : (desk : Desk) (p : SlotPhase) → PhaseAgrees part texts n desk p → (e : ℕ) → HeldAt p e → n.slots e ≡ None → e ≤ n.epoch
  slot_begun desk (phase.Taking t) agreed e held none = let at = agreed.of_epoch in let begun = agreed.known.begun in omega arith
  slot_begun desk (phase.Active a) agreed e held none = absurd (some_none a.slot (sym agreed.there ∙ (ap n.slots held ∙ none)))
  slot_begun desk (phase.Away epoch) agreed e held none = absurd held
  slot_begun desk (phase.Broken epoch seg) agreed e held none = absurd held

  held_begun : (p : ManagerPhase) → ManagerAgrees part texts n p → (e : ℕ) → HeldAt (slot_in part p) e → n.slots e ≡ None → e ≤ n.epoch
  held_begun (managing.Serving v) agreed e held none = slot_begun (desk_of v agreed.0.given) (phase_at v.slots part) agreed.0.here e held none
  held_begun (managing.Down kept) agreed e held none = absurd held
  held_begun (managing.Waiting kept hello) agreed e held none = absurd held

module _ (clients_stay : ClientsStay) (managers_stay : ManagersStay) (cleaner_stays : CleanerStays) (k : Cluster) (part : ℕ) (texts : Texts)
    (first : ℕ → ℕ → Segment) (nodes : List AnyNode) (sent : List Packet) (s : Scene)
    (st : Stands k part texts first nodes sent RegistrySound s)
    (p clock : ℕ) (what : Do) where
  -- ---- the registry

  module _ (at : place_of k Registry ≡ Some p) (fact : slice_get nodes p ≡ Some (any.Registry s.registry)) (go : RegistryGoes part texts s.net s.registry what)
      (board : maps.RegistryGoes part s.registry what) where
    abbrev after_node : RegistryNode
    after_node = (registry_step s.registry what).node

    abbrev pub registry_scene : Scene
    registry_scene = record s { net = go.next; registry = after_node }

    abbrev sent_now : List Packet
    sent_now = sent ++ map (sent_at clock) (registry_step s.registry what).packets

    said_on : (x : Said) → tables.In x s.net.sent → tables.In x go.next.sent
    said_on x is_in = subst (λ xs. tables.In x xs) (sym go.sent) is_in

    pub grown : Grown s.net go.next
    grown = record {
      filed = same_more s.net go.next go.filed;
      stay = λ e none. ap (λ (f : ℕ → _). f e) (sym go.slots) ∙ none;
      sent = said_on;
      deleted = λ name is_in. subst (λ xs. tables.In name xs) (sym go.deleted) is_in;
      epoch = go.epoch;
      from_one = (steady_always part _ first s.net st.runs).from_one;
      rises = (runs_stay part _ s.net go.next go.runs (steady_always part _ first s.net st.runs)).rises;
      horizon = go.horizon;
      parts = go.parts;
    }

    -- ---- what it sends

    news_kept : (news : SlotNews) → NewsTold part go.next news → NewsKept part go.next news
    news_kept news t = record {
      some = subst (λ e. 0 < e) (sym t.epoch) (steady_always part _ first go.next (runs_through (opening first) s.net go.next st.runs go.runs)).some;
      begun = let same = t.epoch in omega arith;
      horizon = λ none. t.horizon ∙ sym (ap go.next.horizon t.epoch);
      parts = λ none. t.parts ∙ sym (ap go.next.parts t.epoch);
      is_horizon = t.horizon_fits;
    }

    all_kept : (news : News) → NewsAre part after_node.board news → AllKept part go.next news.slots
    all_kept news are x among same = news_kept x (go.tells x (subst (λ (y : News). In x y.slots) are.whole among) same)

    tells : (to : NodeId) (m : Body) → RegistrySends part what after_node.board to m → RegistryTells part go.next m
    tells to (body.MapNews m) h = all_kept m h
    tells to (body.Welcome m) h = all_kept m.news h.news
    tells to _ h = tt

    new_facts : (q : Packet) → In q (map (sent_at clock) (registry_step s.registry what).packets) → Fact part registry_scene q
    new_facts q h =
        at_clock clock (λ x. (x.from ≡ Registry) × RegistrySends part what after_node.board x.to x.body) (Fact part registry_scene)
        (λ x both. subst (λ n. SentBy part go.next s.asked n x.body) (sym both.0) (tells x.to x.body both.1))
        (registry_step s.registry what).packets (λ i d less. (board.from i d less, board.sends i d less)) q h

    pub registry_turn : Stands k part texts first (slice_set nodes p (any.Registry after_node)) sent_now RegistrySound registry_scene
    registry_turn = record {
      runs = runs_through (opening first) s.net go.next st.runs go.runs;
      placed = place_registry k nodes s st.placed p at fact after_node go.next;
      sound = board.board.sound;
      registry = go.agrees;
      clients = λ c pos less. clients_stay part texts s.net go.next c (s.client c).phase (same_log s.net go.next go.filed c) (st.clients c pos less);
      managers = λ j pos limit. managers_stay part texts s.net go.next (s.manager j).phase (passes j pos limit) (st.managers j pos limit);
      cleaner = cleaner_stays part texts s.net go.next s.cleaner.phase
          (record { log = same_log s.net go.next go.filed 9; promised = go.promised; job = go.job; sent = said_on }) st.cleaner;
      asks = st.asks;
      few = st.few;
      texts_of = subst (AreTexts texts) (sym go.filed) st.texts_of;
      heads = λ l. subst (λ (f : Filed). f.head l < u32_end) (sym go.filed) (st.heads l);
      facts = λ q h. ⊎_elim (λ old. sent_stays part s.net go.next grown s.asked s.asked (λ x is_in. is_in) q.from q.body (st.facts q old))
          (λ new. new_facts q new) (in_append sent _ q h);
    }
      where
        passes : (j : ℕ) → 0 < j → j ≤ k.managers → Passes s.net go.next (slot_in part (s.manager j).phase)
        passes j pos limit = record {
          slots = λ e held. ap (λ (f : ℕ → _). f e) go.slots;
          stay = grown.stay;
          sent = said_on;
          filed = grown.filed;
          epoch = go.epoch;
          horizon = λ e held none. go.horizon e none (held_begun part texts s.net (s.manager j).phase (st.managers j pos limit) e held none);
          parts = λ e held none. go.parts e none (held_begun part texts s.net (s.manager j).phase (st.managers j pos limit) e held none);
        }

  -- ---- a server

  server_from : (n : ℕ) (outs : List Effect) → All DoesNothing outs → (q : Packet) → In q (map (sent_at clock) (packets_of (Server n) outs)) → Fact part s q
  server_from n outs does q h = sends (Server n) clock DoesNothing (Fact part s) (λ to m nothing. nothing) outs does q h

  pub server_turn : (v : ℕ) → place_of k (Server v) ≡ Some p → (server : ServerNode) → slice_get nodes p ≡ Some (any.Server server)
      → All DoesNothing (takes server what).outs
      → Stands k part texts first (slice_set nodes p (any.Server (server_step server what).node))
      (sent ++ map (sent_at clock) (server_step server what).packets) RegistrySound s
  server_turn v at server fact does = record {
    runs = st.runs;
    placed = place_server k nodes s st.placed p v at server fact (server_step server what).node;
    sound = st.sound;
    registry = st.registry;
    clients = st.clients;
    managers = st.managers;
    cleaner = st.cleaner;
    asks = st.asks;
    few = st.few;
    texts_of = st.texts_of;
    heads = st.heads;
    facts = λ q h. ⊎_elim (λ old. st.facts q old) (λ new. server_from server.number (takes server what).outs does q new) (in_append sent _ q h);
  }
