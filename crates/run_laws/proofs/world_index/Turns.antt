-- Each event of the world keeps a moment standing to the small world of a slot's index, if logs give what they owe, and tokens theirs.
use Rattle.std.proofs.Common.{◌≡◌, ◌⊎◌, ℕ, ◌+◌, ◌<◌, List, ◌++◌, Some, map, slice_get, slice_set, inl, inr, refl, sym, ap, subst, ◌∙◌, arith, ⊎_elim, true, Option, None, ◌≤◌}
use Rattle.client_node.specs.Phases.{takes}
use Rattle.cleaner_node.specs.CleanerEvents as cleaners
use Rattle.core_world.specs.AnyNode.{any_step}
use Rattle.core_world.specs.declared.any_node.AnyNode.{AnyNode}
use Rattle.core_world.specs.declared.any_node.AnyNode.TheVariants as any
use Rattle.index_tie.specs.Net.{Net}
use Rattle.manager_node.specs.declared.manager.Manager.{Manager as ManagerNode}
use Rattle.manager_node.specs.Events.{happens}
use Rattle.node_slots.proofs.node_index_tie.Moves.{some_none}
use Rattle.node_slots.specs.node_index_tie.ManagerEvents.{ManagerGoes}
use Rattle.node_slots.specs.node_index_tie.RegistryEvents.{RegistryGoes}
use Rattle.headline.specs.Filed.{Texts}
use Rattle.node_slots.specs.node_tie.ManagerEvents.{epoch_in, is_serving}
use Rattle.node_slots.specs.node_tie.RegistryEvents.{RegistrySound}
use Rattle.node_slots.specs.node_tie.RegistryEvents as maps
use Rattle.node_slots.specs.owner_index_tie.CleanerEvents.{CleanerGoes}
use Rattle.node_slots.specs.owner_index_tie.ClientEvents.{ClientGoes}
use Rattle.segment_format.specs.declared.segment.Segment.{Segment}
use Rattle.store_nodes.specs.declared.server.Server.{Server as ServerNode}
use Rattle.token_manager.specs.SlotState.{SlotState}
use Rattle.token_protocol.specs.Basics.{In, put}
use Rattle.token_tie.proofs.Frames.{put_here}
use Rattle.version_model.specs.declared.act.Act.{Act}
use Rattle.wire_msg.specs.declared.packet.Do.{Do}
use Rattle.wire_msg.specs.declared.packet.Do.TheVariants.{Deliver}
use Rattle.wire_msg.specs.declared.packet.Packet.{Packet}
use Rattle.world_base.specs.Cluster.{place_of}
use Rattle.world_base.specs.declared.cluster.Cluster.{Cluster}
use Rattle.world_base.specs.declared.event.Event.{Event}
use Rattle.world_base.specs.declared.event.Event.TheVariants as events
use Rattle.world_base.specs.declared.world.World.{World}
use Rattle.world_base.specs.Events.{node_of, what_of}
use Rattle.world_base.specs.NextWorld.{next_world, sent_at}
use Rattle.world_base.specs.Runs.{MayHappen}
use Rattle.run_laws.proofs.world_index.Asking.{book_with}
use Rattle.run_laws.specs.world_index.Asking.{CleanerAsks}
use Rattle.run_laws.proofs.world_index.AskingTurns.{asks_kept}
use Rattle.run_laws.proofs.world_index.CleanerGoing.{cleaner_goes}
use Rattle.run_laws.proofs.world_index.CleanerTurns as cleaning
use Rattle.run_laws.proofs.world_index.ClientTurns as clients
use Rattle.run_laws.proofs.world_index.Facts.{Grown}
use Rattle.run_laws.proofs.world_index.Frames.{grown_itself}
use Rattle.run_laws.proofs.world_index.Gets.{manager_gets, registry_gets}
use Rattle.run_laws.proofs.world_index.ManagerTurns as managers
use Rattle.run_laws.proofs.world_index.RegistryTurns as others
use Rattle.run_laws.proofs.world_index.Senders.{IsKind, IsSentBy}
use Rattle.run_laws.specs.world_index.Standing.{Fact, Scene, SentBy, Stands, WasAsked, holder, members}
use Rattle.run_laws.proofs.world_index.Standing.{Came}
use Rattle.run_laws.specs.world_index.NodeLaws.{NodeLaws}
use Rattle.run_laws.specs.world_index.Owes.{IndexOwes, Makes, TokensGive}
use Rattle.run_laws.proofs.world_law.ManagerTurns.{delivered}
use Rattle.run_laws.proofs.world_law.Places.{Behind, behind}
use Rattle.run_laws.proofs.world_law.Sent.{was_sent}
use Rattle.run_laws.proofs.world_law.Turning.{next_keeps}
use Rattle.run_laws.proofs.world_law.Turns.{one_node}
use Rattle.headline.specs.Moments.{node_in}
use Rattle.xfs_base.specs.declared.node.NodeId.{NodeId}
use Rattle.xfs_base.specs.declared.node.NodeId.TheVariants.{Client, Manager, Server, Cleaner, Registry}
use Rattle.xfs_base.specs.Limits.{slot_count}
use Rattle.xfs_base.specs.Logs.{cleaners_number}

module _ (laws : NodeLaws) (k : Cluster) (part : ℕ) (of_eight : part < slot_count) (texts : Texts) (first : ℕ → ℕ → Segment) where
  -- ---- one node takes its step

  module _ (nodes : List AnyNode) (sent : List Packet) (s : Scene) (st : Stands k part texts first nodes sent RegistrySound s) (place clock : ℕ)
      (what : Do) where
    -- The moment after it. From what the small world was it has gone on, and the event has made of it what an event of this node makes.
    pub record Turned (name : NodeId) (node : AnyNode) : Type 0 where
      pub next : Scene
      pub stands : Stands k part texts first (slice_set nodes place (any_step node what).node) (sent ++ map (sent_at clock) (any_step node what).packets)
          RegistrySound next
      pub grown : Grown s.net next.net
      pub makes : Makes part texts s.net next.net name node what
      pub came : (e : ℕ) (z : SlotState) → next.net.slots e ≡ Some z → s.net.slots e ≡ None → Came k part s next name what e

    abbrev pub Owed : NodeId → AnyNode → Type 0
    Owed name node = IndexOwes part texts s.asked s.net name node what

    abbrev pub Given : NodeId → AnyNode → Type 0
    Given name node = TokensGive part k.managers (holder part s) s.net name node what

    -- what comes to this node was sent, by a node that may send it
    abbrev pub Brought : Type 0
    Brought = (q : Packet) → what ≡ Deliver q → SentBy part s.net s.asked q.from q.body × IsSentBy q.from q.body

    -- where slots are as they were, no epoch gets a manager
    none_came : (name : NodeId) (next : Scene) → next.net.slots ≡ s.net.slots → (e : ℕ) (z : SlotState) → next.net.slots e ≡ Some z → s.net.slots e ≡ None
        → Came k part s next name what e
    none_came name next same e z there none = absurd (some_none z (sym there ∙ (ap (λ (f : ℕ → Option SlotState). f e) same ∙ none)))

    client_after : (c : ℕ) → place_of k (Client c) ≡ Some place → (node : AnyNode) → slice_get nodes place ≡ Some node → Owed (Client c) node
        → Turned (Client c) node
    client_after c at node premise = subst (λ x. Owed (Client c) x → Turned (Client c) x) (one_node (any.Client (s.client c)) node (sym here ∙ premise)) turned
      where
        b : Behind 0 k.clients c place
        b = behind 0 k.clients c place at

        less : c < members k
        less = (let limit = b.within in omega arith)

        of_nine : c < cleaners_number
        of_nine = (let few = st.few in let limit = b.within in omega arith)

        here : slice_get nodes place ≡ Some (any.Client (s.client c))
        here = sym (ap (node_in nodes) at) ∙ st.placed.clients c b.some less

        turned : Owed (Client c) (any.Client (s.client c)) → Turned (Client c) (any.Client (s.client c))
        turned owed = went (laws.client.events part texts s.net c (s.client c) what b.some of_nine (st.clients c b.some less) owed)
          where
            went : ClientGoes part texts s.net c (takes (s.client c) what) → Turned (Client c) (any.Client (s.client c))
            went go = record {
              next = clients.client_scene laws.client.stays laws.manager.stays laws.cleaner.stays k part texts first RegistrySound nodes sent s st c place clock
                  b.some less at here (takes (s.client c) what) go;
              stands = clients.client_turn laws.client.stays laws.manager.stays laws.cleaner.stays k part texts first RegistrySound nodes sent s st c place
                  clock
                  b.some less at here (takes (s.client c) what) go;
              grown = clients.grown laws.client.stays laws.manager.stays laws.cleaner.stays k part texts first RegistrySound nodes sent s st c place clock
                  b.some less at here (takes (s.client c) what) go;
              makes = go.only_files;
              came = none_came (Client c) _ (ap (λ (x : Net). x.slots) go.only_files);
            }

    manager_after : Brought → (j : ℕ) → place_of k (Manager j) ≡ Some place → (node : AnyNode) → slice_get nodes place ≡ Some node → Owed (Manager j) node
        → Given (Manager j) node
        → Turned (Manager j) node
    manager_after fact j at node premise =
        subst (λ x. Owed (Manager j) x → Given (Manager j) x → Turned (Manager j) x) (one_node (any.Manager (s.manager j)) node (sym here ∙ premise)) turned
      where
        b : Behind k.clients k.managers j place
        b = behind k.clients k.managers j place at

        here : slice_get nodes place ≡ Some (any.Manager (s.manager j))
        here = sym (ap (node_in nodes) at) ∙ st.placed.managers j b.some b.within

        turned : Owed (Manager j) (any.Manager (s.manager j)) → Given (Manager j) (any.Manager (s.manager j)) → Turned (Manager j) (any.Manager (s.manager j))
        turned owed given =
            went (laws.manager.events part texts s.asked j s.net (s.manager j) what of_eight given.number (st.managers j b.some b.within)
            (record {
              gets = manager_gets part texts s.asked s.net j (s.manager j).phase what fact owed.reads given.free;
              filed = st.texts_of;
              writes = owed.writes;
            }))
          where
            after_here : (go : ManagerGoes part texts s.asked j s.net (s.manager j).phase what (happens (s.manager j) what))
                → put s.manager j (record (s.manager j) { phase = (happens (s.manager j) what).state }) j
                ≡ record (s.manager j) { phase = (happens (s.manager j) what).state }
            after_here go = put_here s.manager j (record (s.manager j) { phase = (happens (s.manager j) what).state })

            went : ManagerGoes part texts s.asked j s.net (s.manager j).phase what (happens (s.manager j) what) → Turned (Manager j) (any.Manager (s.manager j))
            went go = record {
              next = managers.manager_scene laws.client.stays laws.manager.stays laws.cleaner.stays k part texts first RegistrySound nodes sent s st j place
                  clock
                  b.some b.within at here what given.number given.apart (happens (s.manager j) what) go;
              stands = managers.manager_turn laws.client.stays laws.manager.stays laws.cleaner.stays k part texts first RegistrySound nodes sent s st j place
                  clock b.some b.within at here what given.number given.apart (happens (s.manager j) what) go;
              grown = managers.grown laws.client.stays laws.manager.stays laws.cleaner.stays k part texts first RegistrySound nodes sent s st j place clock
                  b.some b.within at here what given.number given.apart (happens (s.manager j) what) go;
              makes = record { rest = go.rest; slots = go.slots; stay = go.stay; entered = go.entered };
              came = λ e z there none. ⊎_elim (λ free. absurd (some_none z (sym there ∙ free)))
                  (λ known. record {
                    manager = j;
                    some = b.some;
                    limit = b.within;
                    named = refl;
                    serves = subst (λ (x : ManagerNode). is_serving x.phase ≡ true) (sym (after_here go)) known.0;
                    knows = subst (λ (x : ManagerNode). e ≤ epoch_in part x.phase) (sym (after_here go)) known.1;
                    by = λ not_held not_named. some_none z (sym there ∙ (go.slots e not_held not_named ∙ none));
                  }) (go.came e none);
            }

    server_after : (v : ℕ) → place_of k (Server v) ≡ Some place → (node : AnyNode) → slice_get nodes place ≡ Some node → Turned (Server v) node
    server_after v at node premise = subst (Turned (Server v)) (one_node (any.Server there.0) node (sym here ∙ premise)) (record {
      next = s;
      stands = others.server_turn laws.client.stays laws.manager.stays laws.cleaner.stays k part texts first nodes sent s st place clock what v at there.0 here
          (laws.server there.0 what);
      grown = grown_itself k part texts first nodes sent RegistrySound s st;
      makes = refl;
      came = none_came (Server v) s refl;
    })
      where
        b : Behind (k.clients + k.managers) k.servers v place
        b = behind (k.clients + k.managers) k.servers v place at

        there : (server : ServerNode) × (node_in nodes (place_of k (Server v)) ≡ Some (any.Server server))
        there = st.placed.servers v b.some b.within

        here : slice_get nodes place ≡ Some (any.Server there.0)
        here = sym (ap (node_in nodes) at) ∙ there.1

    cleaner_after : Brought → place_of k Cleaner ≡ Some place → (node : AnyNode) → slice_get nodes place ≡ Some node → Owed Cleaner node → Turned Cleaner node
    cleaner_after fact at node premise = subst (λ x. Owed Cleaner x → Turned Cleaner x) (one_node (any.Cleaner s.cleaner) node (sym here ∙ premise)) turned
      where
        here : slice_get nodes place ≡ Some (any.Cleaner s.cleaner)
        here = sym (ap (node_in nodes) at) ∙ st.placed.cleaner

        asks : CleanerAsks (book_with (WasAsked s.asked) (cleaners.takes s.cleaner.peers s.cleaner.phase what).outs)
            (cleaners.takes s.cleaner.peers s.cleaner.phase what).state
        asks = asks_kept (WasAsked s.asked) s.cleaner.peers s.cleaner.phase what st.asks

        turned : Owed Cleaner (any.Cleaner s.cleaner) → Turned Cleaner (any.Cleaner s.cleaner)
        turned owed = went (cleaner_goes part texts s.asked s.net laws.cleaner.events of_eight s.cleaner what st.cleaner st.asks fact owed)
          where
            went : CleanerGoes part texts s.asked s.net (cleaners.takes s.cleaner.peers s.cleaner.phase what) → Turned Cleaner (any.Cleaner s.cleaner)
            went go = record {
              next = cleaning.cleaner_scene laws.client.stays laws.manager.stays k part texts first RegistrySound nodes sent s st place clock at here what
                  go asks;
              stands = cleaning.cleaner_turn laws.client.stays laws.manager.stays k part texts first RegistrySound nodes sent s st place clock at here what go
                  asks;
              grown = cleaning.grown laws.client.stays laws.manager.stays k part texts first RegistrySound nodes sent s st place clock at here what go asks;
              makes = record {
                filed = go.filed;
                slots = go.slots;
                epoch = go.epoch;
                horizon = go.horizon;
                parts = go.parts;
                promised = go.promised;
                away = go.away;
                deleted = go.deleted;
              };
              came = none_came Cleaner _ go.slots;
            }

    registry_after : Brought → place_of k Registry ≡ Some place → (node : AnyNode) → slice_get nodes place ≡ Some node → Turned Registry node
    registry_after fact at node premise = subst (Turned Registry) (one_node (any.Registry s.registry) node (sym here ∙ premise))
        (went (laws.registry part texts s.net s.registry what of_eight st.sound st.registry
        (registry_gets part texts s.asked s.net laws.managed (λ b inside. record { any = first; run = st.runs; inside = inside }) of_eight st.heads what fact)))
      where
        here : slice_get nodes place ≡ Some (any.Registry s.registry)
        here = sym (ap (node_in nodes) at) ∙ st.placed.registry

        board : maps.RegistryGoes part s.registry what
        board = laws.maps part of_eight s.registry st.sound what

        went : RegistryGoes part texts s.net s.registry what → Turned Registry (any.Registry s.registry)
        went go = record {
          next = others.registry_scene laws.client.stays laws.manager.stays laws.cleaner.stays k part texts first nodes sent s st place clock what at here
              go board;
          stands = others.registry_turn laws.client.stays laws.manager.stays laws.cleaner.stays k part texts first nodes sent s st place clock what at here go
              board;
          grown = others.grown laws.client.stays laws.manager.stays laws.cleaner.stays k part texts first nodes sent s st place clock what at here go board;
          makes = record {
            slots = go.slots;
            filed = go.filed;
            promised = go.promised;
            deleted = go.deleted;
            epoch = go.epoch;
            horizon = go.horizon;
            parts = go.parts;
          };
          came = none_came Registry _ go.slots;
        }

    -- what one node's step makes of the moment, if what is owed is given
    pub turns : (name : NodeId) → Brought → place_of k name ≡ Some place → (node : AnyNode) → slice_get nodes place ≡ Some node → Owed name node
        → Given name node
        → Turned name node
    turns (Client c) fact at node premise owed given = client_after c at node premise owed
    turns (Manager j) fact at node premise owed given = manager_after fact j at node premise owed given
    turns (Server v) fact at node premise owed given = server_after v at node premise
    turns Cleaner fact at node premise owed given = cleaner_after fact at node premise owed
    turns Registry fact at node premise owed given = registry_after fact at node premise

  -- ---- an event of the world

  -- what an event delivers was sent
  delivered_fact : (sent : List Packet) (s : Scene) → ((q : Packet) → In q sent → Fact part s q) → ((q : Packet) → In q sent → IsKind q) → (w : World AnyNode)
      → w.sent ≡ sent → (event : Event) → MayHappen w event
      → (q : Packet) → what_of event ≡ Deliver q → Fact part s q × IsKind q
  delivered_fact sent s facts kinds w same (events.Begin node) may q gets = absurd (cc)
  delivered_fact sent s facts kinds w same (events.Tick node) may q gets = absurd (cc)
  delivered_fact sent s facts kinds w same (events.Deliver packet) may q gets =
      let premise : packet ≡ q = delivered packet q gets in
      let among = subst (λ xs. In q xs) same (was_sent w.sent q (subst (λ x. MayHappen w (events.Deliver x)) premise may)) in
      (facts q among, kinds q among)

  module _ (w : World AnyNode) (event : Event) (s : Scene) where
    -- the moment after an event: the node has its turn, or nothing happens
    pub record EventTurned (nodes : List AnyNode) (sent : List Packet) (acts : List Act) : Type 0 where
      pub next : Scene
      pub stands : Stands k part texts first nodes sent RegistrySound next
      pub grown : Grown s.net next.net
      pub makes : (next.net ≡ s.net)
          ⊎ ((node : AnyNode) × (node_in w.nodes (place_of k (node_of event)) ≡ Some node)
          × Makes part texts s.net next.net (node_of event) node (what_of event))
      pub came : (e : ℕ) (z : SlotState) → next.net.slots e ≡ Some z → s.net.slots e ≡ None → Came k part s next (node_of event) (what_of event) e

    -- The packets that were sent are of those who may send them, as the small world of tokens knows (`Senders`).
    pub event_turns : w.cluster ≡ k → MayHappen w event → Stands k part texts first w.nodes w.sent RegistrySound s → ((q : Packet) → In q w.sent → IsKind q)
        → ((node : AnyNode) → node_in w.nodes (place_of k (node_of event)) ≡ Some node
        → IndexOwes part texts s.asked s.net (node_of event) node (what_of event))
        → ((node : AnyNode) → node_in w.nodes (place_of k (node_of event)) ≡ Some node
        → TokensGive part k.managers (holder part s) s.net (node_of event) node (what_of event))
        → EventTurned (next_world any_step w event).nodes (next_world any_step w event).sent (next_world any_step w event).acts
    event_turns cluster may st kinds owed given = next_keeps any_step EventTurned w event
        (record {
          next = s;
          stands = st;
          grown = grown_itself k part texts first w.nodes w.sent RegistrySound s st;
          makes = inl refl;
          came = λ e z there none. absurd (some_none z (sym there ∙ none));
        })
        (λ place node clock at premise.
        let at_k : place_of k (node_of event) ≡ Some place = subst (λ c. place_of c (node_of event) ≡ Some place) cluster at in
        let there : node_in w.nodes (place_of k (node_of event)) ≡ Some node = ap (node_in w.nodes) at_k ∙ premise in
        let t = turns w.nodes w.sent s st place clock (what_of event) (node_of event)
        (delivered_fact w.sent s st.facts kinds w refl event may) at_k node premise
        (owed node there) (given node there) in
        record { next = t.next; stands = t.stands; grown = t.grown; makes = inr (node, there, t.makes); came = t.came })
