-- Each event of the world keeps a moment standing to the small world of a slot, if logs are owed no more than they give.
use Rattle.std.proofs.Common.{◌≡◌, ◌⊎◌, ℕ, ◌+◌, ◌<◌, Bool, List, ◌++◌, Some, map, slice_get, slice_set, unwrap_or, inl, inr, refl, sym, ap, subst, ◌∙◌, arith}
use Rattle.std.proofs.lemmas.List.Elements.{recursion_from_All}
use Rattle.client_node.specs.Phases.{lasting_of, takes}
use Rattle.core_world.specs.AnyNode.{any_step}
use Rattle.core_world.specs.declared.any_node.AnyNode.{AnyNode}
use Rattle.core_world.specs.declared.any_node.AnyNode.TheVariants as any
use Rattle.manager_node.specs.Events.{happens}
use Rattle.manager_node.specs.Phases as managers
use Rattle.node_slots.proofs.node_tie.SmallWorld.{premise, premise_to}
use Rattle.node_slots.proofs.node_tie.StoreFrames.{all_neutral}
use Rattle.node_slots.specs.node_tie.AskingEvents.{PhaseAsks}
use Rattle.node_slots.specs.node_tie.CleanerEvents.{CleanerDoes, CleanerGoes, CleanerOwed}
use Rattle.node_slots.specs.node_tie.CleanerLogs.{CleanerRuns}
use Rattle.node_slots.specs.node_tie.ClientEvents.{ClientAgrees, ClientGoes, ClientOwed, ClientStands, IsTaken}
use Rattle.node_slots.specs.node_tie.ManagerEvents.{EventGets as ManagerEventGets, ManagerGoes}
use Rattle.node_slots.specs.node_tie.RegistryEvents.{RegistryGoes, RegistrySound}
use Rattle.node_slots.specs.node_tie.Sight.{ManagerDoes, ServerSends}
use Rattle.node_slots.specs.node_tie.StoreEvents.{AllNeutral, PacketsSay}
use Rattle.cleaner_node.specs.CleanerEvents as cleaners
use Rattle.store_nodes.specs.declared.server.Server.{Server as ServerNode}
use Rattle.registry_node.specs.Events.{registry_step}
use Rattle.store_nodes.specs.ServerEvents.{server_step}
use Rattle.token_protocol.specs.Basics.{In}
use Rattle.token_protocol.specs.Premises.{Premise}
use Rattle.version_model.specs.declared.act.Act.{Act}
use Rattle.wire_msg.specs.declared.packet.Do.{Do}
use Rattle.wire_msg.specs.declared.packet.Do.TheVariants.{Begin, Deliver, Tick}
use Rattle.wire_msg.specs.declared.packet.Packet.{Packet}
use Rattle.world_base.specs.Cluster.{place_of}
use Rattle.world_base.specs.declared.cluster.Cluster.{Cluster}
use Rattle.world_base.specs.declared.event.Event.{Event}
use Rattle.world_base.specs.declared.event.Event.TheVariants as events
use Rattle.world_base.specs.declared.world.World.{World}
use Rattle.world_base.specs.Events.{node_of, what_of}
use Rattle.world_base.specs.NextWorld.{next_world, sent_at}
use Rattle.world_base.specs.Runs.{MayHappen}
use Rattle.run_laws.proofs.world_law.ClientTurns as clients
use Rattle.run_laws.proofs.world_law.ClientTurns.{client_scene, client_turn}
use Rattle.run_laws.proofs.world_law.Facts.{Grown}
use Rattle.run_laws.proofs.world_law.WaitingFalls.{FallsStand, client_falls, falls_stay}
use Rattle.run_laws.proofs.world_law.Gets.{client_gets, cleaner_gets, manager_gets}
use Rattle.run_laws.proofs.world_law.ManagerTurns as reigning
use Rattle.run_laws.proofs.world_law.Leaving.{NoneLeaves, SlotsGo, none_leaves}
use Rattle.run_laws.proofs.world_law.ManagerTurns.{delivered, manager_scene, manager_turn}
use Rattle.run_laws.proofs.world_law.OtherTurns as others
use Rattle.run_laws.proofs.world_law.OtherTurns.{cleaner_scene, cleaner_turn, said_fact, said_grown, said_scene, said_stands, server_turn}
use Rattle.run_laws.proofs.world_law.Places.{Behind, behind}
use Rattle.run_laws.proofs.world_law.RegistryTurns as boards
use Rattle.run_laws.proofs.world_law.RegistryTurns.{registry_scene, registry_turn}
use Rattle.run_laws.proofs.world_law.Sent.{was_sent}
pub use Rattle.run_laws.specs.world_law.NodeLaws.{NodeLaws}
pub use Rattle.run_laws.specs.world_law.Since.{Since}
use Rattle.run_laws.specs.world_law.Standing.{Fact, ManagerSees, PastAt, Scene, Stands, epoch_now, members}
use Rattle.run_laws.proofs.world_law.Turning.{next_keeps}
use Rattle.run_laws.specs.world_law.Owes.{ManagerTold}
use Rattle.run_laws.proofs.world_law.Owes.{BooksGo, ClientTold, TurnOwes}
use Rattle.headline.specs.Moments.{node_in}
use Rattle.xfs_base.specs.declared.node.NodeId.{NodeId}
use Rattle.xfs_base.specs.declared.node.NodeId.TheVariants.{Client, Manager, Server, Cleaner, Registry}
use Rattle.xfs_base.specs.Limits.{slot_count}

pub one_node : {X : Type 0} (a b : X) → Some a ≡ Some b → a ≡ b
one_node a b same = ap (λ o. unwrap_or o a) same

-- what stays so from one moment to a later one
module _ (k : Cluster) (part : ℕ) where
  since_of : (s t : Scene) → Grown k part s t
      → ((j life e : ℕ) → PastAt k part (s.manager j).phase life e → PastAt k part (t.manager j).phase life e) → Since k part s t
  since_of s t g past = record { epochs = g.epochs; promises = g.promises; reigns = g.reigns; given = g.given; past = past }

module _ (laws : NodeLaws) (logs : Bool) (k : Cluster) (part : ℕ) (of_eight : part < slot_count) where
  -- ---- one node takes its step

  module _ (nodes : List AnyNode) (sent : List Packet) (acts : List Act) (s : Scene) (st : Stands logs k part nodes sent acts RegistrySound s) (place clock : ℕ)
      (what : Do) (adopted : Bool) where
    -- the moment after it: it stands to a small world that no slot has left, whose books went on as this node's events make them go
    pub record Turned (name : NodeId) (node : AnyNode) : Type 0 where
      pub next : Scene
      pub stands : Stands logs k part (slice_set nodes place (any_step node what).node) (sent ++ map (sent_at clock) (any_step node what).packets)
          (acts ++ (any_step node what).acts) RegistrySound next
      pub since : Since k part s next
      pub stay : NoneLeaves s.net next.net
      pub slots : SlotsGo k part (slice_set nodes place (any_step node what).node) s.net next.net
      pub books : BooksGo logs adopted s.net next.net name node what
      pub falls : FallsStand (members k part) s.net acts → FallsStand (members k part) next.net (acts ++ (any_step node what).acts)

    abbrev pub Owed : NodeId → AnyNode → Type 0
    Owed name node = TurnOwes logs adopted (members k part) part (epoch_now k part s) s.net name node what

    -- what comes to this node was sent, and to it
    abbrev pub Brought : NodeId → Type 0
    Brought name = (q : Packet) → what ≡ Deliver q → Fact k part s q × (q.to ≡ name)

    client_after : (c : ℕ) → Brought (Client c) → place_of k (Client c) ≡ Some place → (node : AnyNode) → slice_get nodes place ≡ Some node
        → Owed (Client c) node
        → Turned (Client c) node
    client_after c fact at node reason = subst (λ x. Owed (Client c) x
        → Turned (Client c) x) (one_node (any.Client (s.client c)) node (sym here ∙ reason)) turned
      where
        b : Behind 0 k.clients c place
        b = behind 0 k.clients c place at

        less : c < members k part
        less = (let limit = b.within in omega arith)

        here : slice_get nodes place ≡ Some (any.Client (s.client c))
        here = sym (ap (node_in nodes) at) ∙ st.placed.clients c b.some less

        agreed : ClientAgrees logs part c s.net (s.client c).phase × ClientStands part (epoch_now k part s) c s.net (s.client c).phase
        agreed = st.clients c b.some less

        gets : (x : Do) → what ≡ x → Premise logs (ClientTold part (epoch_now k part s) s.net c (s.client c).phase x)
            → ClientOwed logs part (epoch_now k part s) c s.net (s.client c).phase x
        gets Begin same told = tt
        gets Tick same told = told
        gets (Deliver q) same told = (let f = fact q same in client_gets k part s logs c q f.0 f.1 told)

        asks : PhaseAsks (takes (s.client c) what).state
        asks = laws.keeps_asking (s.client c) what agreed.1.asks

        turned : Owed (Client c) (any.Client (s.client c)) → Turned (Client c) (any.Client (s.client c))
        turned owed =
            went (laws.client logs (members k part) part (epoch_now k part s) c of_eight b.some less s.net (s.client c) what agreed.0 agreed.1
            (λ taken. gets what refl
            (premise_to logs (IsTaken (s.client c) what) (ClientTold part (epoch_now k part s) s.net c (s.client c).phase what) owed taken)))
          where
            went : ClientGoes logs (members k part) part (epoch_now k part s) c s.net (s.client c).phase (takes (s.client c) what).state
                (takes (s.client c) what).outs
                → Turned (Client c) (any.Client (s.client c))
            went go = record {
              next = client_scene logs k part RegistrySound nodes sent acts s st c place clock b.some less at here (takes (s.client c) what) go asks;
              stands = client_turn logs k part RegistrySound nodes sent acts s st c place clock b.some less at here (takes (s.client c) what) go asks;
              since = since_of k part s _ (clients.grown logs k part RegistrySound nodes sent acts s st c place clock b.some less at here
                  (takes (s.client c) what) go asks) (λ j life e past. past);
              stay = λ e none. sym (go.slots e) ∙ none;
              slots = λ e. inl (go.slots e);
              books = record { others = go.books; own = go.log };
              falls = λ falls. client_falls (members k part) logs part (epoch_now k part s) c b.some less s.net
                  (Client (lasting_of (s.client c).phase).number) acts falls
                  (s.client c).phase (takes (s.client c) what).state (takes (s.client c) what).outs go agreed.0;
            }

    manager_after : (j : ℕ) → Brought (Manager j) → place_of k (Manager j) ≡ Some place → (node : AnyNode) → slice_get nodes place ≡ Some node
        → Owed (Manager j) node
        → Turned (Manager j) node
    manager_after j fact at node reason = subst (λ x. Owed (Manager j) x
        → Turned (Manager j) x) (one_node (any.Manager (s.manager j)) node (sym here ∙ reason)) turned
      where
        b : Behind k.clients k.managers j place
        b = behind k.clients k.managers j place at

        here : slice_get nodes place ≡ Some (any.Manager (s.manager j))
        here = sym (ap (node_in nodes) at) ∙ st.placed.managers j b.some b.within

        sees : ManagerSees k part s j (s.manager j).phase
        sees = st.managers j b.some b.within

        gets : (x : Do) → what ≡ x → Premise logs (ManagerTold (members k part) part s.net (s.manager j).phase x)
            → ManagerEventGets logs part (epoch_now k part s) j s.net (members k part) (s.manager j).phase x
        gets Begin same told = tt
        gets Tick same told = tt
        gets (Deliver q) same told = (let f = fact q same in manager_gets k part s st.entered j logs (s.manager j).phase refl sees q f.0 f.1 told)

        turned : Owed (Manager j) (any.Manager (s.manager j)) → Turned (Manager j) (any.Manager (s.manager j))
        turned owed =
            went (laws.manager logs (members k part) part (epoch_now k part s) j s.net (s.manager j) what of_eight
            (sym (st.peers j b.some b.within)) sees.agrees sees.within
            (gets what refl owed))
          where
            after : managers.Went_to
            after = happens (s.manager j) what

            went : ManagerGoes logs (members k part) part (epoch_now k part s) j s.net (s.manager j).phase what (happens (s.manager j) what)
                → Turned (Manager j) (any.Manager (s.manager j))
            went go = record {
              next = manager_scene logs k part RegistrySound nodes sent acts s st j place clock b.some b.within at here what fact
                  (happens (s.manager j) what) go;
              stands = manager_turn logs k part RegistrySound nodes sent acts s st j place clock b.some b.within at here what fact
                  (happens (s.manager j) what) go;
              since = since_of k part s _ (reigning.grown logs k part RegistrySound nodes sent acts s st j place clock b.some b.within at here what fact
                  (happens (s.manager j) what) go)
                  (reigning.past_on logs k part RegistrySound nodes sent acts s st j place clock b.some b.within at here what fact
                  (happens (s.manager j) what) go);
              stay = none_leaves logs (members k part) part s.net go.next go.runs;
              slots = reigning.slots_go logs k part RegistrySound nodes sent acts s st j place clock b.some b.within at here what fact
                  (happens (s.manager j) what) go;
              books = go.books;
              falls = falls_stay (members k part) s.net go.next acts _ go.tokens go.up
                  (all_neutral (ManagerDoes part go.next.sent (epoch_now k part s) (managers.lasting_of after.state).inc)
                  (Manager (managers.lasting_of (s.manager j).phase).number)
                  (λ a reason. reason) after.outs
                  (recursion_from_All (ManagerDoes part go.next.sent (epoch_now k part s) (managers.lasting_of after.state).inc) after.outs go.does));
            }

    server_after : (n : ℕ) → place_of k (Server n) ≡ Some place → (node : AnyNode) → slice_get nodes place ≡ Some node → Turned (Server n) node
    server_after n at node reason = subst (Turned (Server n)) (one_node (any.Server there.0) node (sym here ∙ reason)) (record {
      next = said_scene logs k part RegistrySound nodes sent acts s st (server_step there.0 what).acts says.1;
      stands = server_turn logs k part RegistrySound nodes sent (acts ++ (server_step there.0 what).acts)
          (said_scene logs k part RegistrySound nodes sent acts s st (server_step there.0 what).acts says.1)
          (said_stands logs k part RegistrySound nodes sent acts s st (server_step there.0 what).acts says.1) place clock what n at there.0 here says.0;
      since = since_of k part s _ (said_grown logs k part RegistrySound nodes sent acts s st (server_step there.0 what).acts says.1) (λ j life e past. past);
      stay = λ e none. none;
      slots = λ e. inl refl;
      books = refl;
      falls = falls_stay (members k part) s.net _ acts _ refl refl says.1;
    })
      where
        b : Behind (k.clients + k.managers) k.servers n place
        b = behind (k.clients + k.managers) k.servers n place at

        there : (server : ServerNode) × (node_in nodes (place_of k (Server n)) ≡ Some (any.Server server))
        there = st.placed.servers n b.some b.within

        here : slice_get nodes place ≡ Some (any.Server there.0)
        here = sym (ap (node_in nodes) at) ∙ there.1

        says : PacketsSay ServerSends (server_step there.0 what).packets × AllNeutral (server_step there.0 what).acts
        says = laws.server there.0 what

    cleaner_after : Brought Cleaner → place_of k Cleaner ≡ Some place → (node : AnyNode) → slice_get nodes place ≡ Some node → Owed Cleaner node
        → Turned Cleaner node
    cleaner_after fact at node reason = subst (λ x. Owed Cleaner x → Turned Cleaner x) (one_node (any.Cleaner s.cleaner) node (sym here ∙ reason)) turned
      where
        here : slice_get nodes place ≡ Some (any.Cleaner s.cleaner)
        here = sym (ap (node_in nodes) at) ∙ st.placed.cleaner

        went : cleaners.Went_to
        went = cleaners.takes s.cleaner.peers s.cleaner.phase what

        gets : (x : Do) → what ≡ x → CleanerOwed part s.net.promised (epoch_now k part s) s.cleaner.phase x
        gets Begin same = tt
        gets Tick same = tt
        gets (Deliver q) same = (let f = fact q same in cleaner_gets k part s q f.0 f.1)

        turned : Owed Cleaner (any.Cleaner s.cleaner) → Turned Cleaner (any.Cleaner s.cleaner)
        turned owed =
            (let t = laws.cleaner logs (members k part) part s.net.promised (epoch_now k part s) s.net of_eight st.cleaner.0
            (premise logs st.few) adopted s.cleaner what st.cleaner.1
            (gets what refl) st.copies owed in goes t.0 t.1)
          where
            goes : CleanerGoes part s.net.promised (epoch_now k part s) s.cleaner.phase went.state went.outs
                → CleanerRuns logs (members k part) part s.net adopted s.cleaner.phase went.state went.outs → Turned Cleaner (any.Cleaner s.cleaner)
            goes go run = record {
              next = cleaner_scene logs k part RegistrySound nodes sent acts s st place clock at here went go run;
              stands = cleaner_turn logs k part RegistrySound nodes sent acts s st place clock at here went go run;
              since = since_of k part s _ (others.grown logs k part RegistrySound nodes sent acts s st place clock at here went go run) (λ j life e past. past);
              stay = λ e none. none;
              slots = λ e. inl refl;
              books = record { others = run.others; own = run.own };
              falls = falls_stay (members k part) s.net _ acts _ refl refl
                  (all_neutral (CleanerDoes part go.next (cleaners.lasting_of went.state).inc) Cleaner (λ a reason. reason) went.outs
                  (recursion_from_All (CleanerDoes part go.next (cleaners.lasting_of went.state).inc) went.outs go.does));
            }

    registry_after : ((q : Packet) → what ≡ Deliver q → Fact k part s q) → place_of k Registry ≡ Some place → (node : AnyNode)
        → slice_get nodes place ≡ Some node → Turned Registry node
    registry_after fact at node reason = subst (Turned Registry) (one_node (any.Registry s.registry) node (sym here ∙ reason)) (record {
      next = registry_scene logs k part nodes sent _ said said_st place clock at here what said_facts go;
      stands = registry_turn logs k part nodes sent _ said said_st place clock at here what said_facts go;
      since =
          (let g = boards.grown logs k part nodes sent _ said said_st place clock at here what said_facts go in record {
            epochs = g.epochs;
            promises = g.promises;
            reigns = g.reigns;
            given = g.given;
            past = λ j life e past. past;
          });
      stay = λ e none. none;
      slots = λ e. inl refl;
      books = refl;
      falls = falls_stay (members k part) s.net _ acts _ refl refl go.acts;
    })
      where
        here : slice_get nodes place ≡ Some (any.Registry s.registry)
        here = sym (ap (node_in nodes) at) ∙ st.placed.registry

        go : RegistryGoes part s.registry what
        go = laws.registry part of_eight s.registry st.sound what

        said : Scene
        said = said_scene logs k part RegistrySound nodes sent acts s st (registry_step s.registry what).acts go.acts

        said_st : Stands logs k part nodes sent (acts ++ (registry_step s.registry what).acts) RegistrySound said
        said_st = said_stands logs k part RegistrySound nodes sent acts s st (registry_step s.registry what).acts go.acts

        said_facts : (q : Packet) → what ≡ Deliver q → Fact k part said q
        said_facts q gets = said_fact logs k part RegistrySound nodes sent acts s st (registry_step s.registry what).acts go.acts q (fact q gets)

    -- what one node's step makes of the moment, if logs give what is owed
    pub turns : (name : NodeId) → Brought name → place_of k name ≡ Some place → (node : AnyNode) → slice_get nodes place ≡ Some node → Owed name node
        → Turned name node
    turns (Client c) fact at node reason owed = client_after c fact at node reason owed
    turns (Manager j) fact at node reason owed = manager_after j fact at node reason owed
    turns (Server n) fact at node reason owed = server_after n at node reason
    turns Cleaner fact at node reason owed = cleaner_after fact at node reason owed
    turns Registry fact at node reason owed = registry_after (λ q same. (fact q same).0) at node reason

  -- ---- an event of the world

  -- what an event delivers was sent, to the node that it happens to
  pub delivered_fact : (sent : List Packet) (s : Scene) → ((q : Packet) → In q sent → Fact k part s q) → (w : World AnyNode) → w.sent ≡ sent → (event : Event)
      → MayHappen w event
      → (q : Packet) → what_of event ≡ Deliver q → Fact k part s q × (q.to ≡ node_of event)
  delivered_fact sent s facts w same (events.Begin node) may q gets = absurd (cc)
  delivered_fact sent s facts w same (events.Tick node) may q gets = absurd (cc)
  delivered_fact sent s facts w same (events.Deliver packet) may q gets =
      (let reason : packet ≡ q = delivered packet q gets in (
        facts q (subst (λ xs. In q xs) same (was_sent w.sent q (subst (λ x. MayHappen w (events.Deliver x)) reason may))),
        ap (λ (x : Packet). x.to) (sym reason),
      ))

  module _ (w : World AnyNode) (event : Event) (adopted : Bool) (s : Scene) where
    -- the moment after an event: the node has its turn, or nothing happens
    pub record EventTurned (nodes : List AnyNode) (sent : List Packet) (acts : List Act) : Type 0 where
      pub next : Scene
      pub stands : Stands logs k part nodes sent acts RegistrySound next
      pub since : Since k part s next
      pub stay : NoneLeaves s.net next.net
      pub slots : SlotsGo k part nodes s.net next.net
      pub books : (next.net.books ≡ s.net.books)
          ⊎ ((node : AnyNode) × (node_in w.nodes (place_of k (node_of event)) ≡ Some node)
          × BooksGo logs adopted s.net next.net (node_of event) node (what_of event))
      pub falls : FallsStand (members k part) s.net w.acts → FallsStand (members k part) next.net acts

    pub event_turns : w.cluster ≡ k → MayHappen w event → Stands logs k part w.nodes w.sent w.acts RegistrySound s
        → ((node : AnyNode) → node_in w.nodes (place_of k (node_of event)) ≡ Some node
        → TurnOwes logs adopted (members k part) part (epoch_now k part s) s.net (node_of event) node (what_of event))
        → EventTurned (next_world any_step w event).nodes (next_world any_step w event).sent (next_world any_step w event).acts
    event_turns cluster may st owed = next_keeps any_step EventTurned w event (record {
      next = s;
      stands = st;
      since = record {
        epochs = omega arith;
        promises = let x = s.net.promised in omega arith;
        reigns = λ j. omega arith;
        given = λ e low. (refl, refl);
        past = λ j life e past. past;
      };
      stay = λ e none. none;
      slots = λ e. inl refl;
      books = inl refl;
      falls = λ falls. falls;
    })
        (λ place node clock at reason.
        let at_k : place_of k (node_of event) ≡ Some place = subst (λ c. place_of c (node_of event) ≡ Some place) cluster at in
        let there : node_in w.nodes (place_of k (node_of event)) ≡ Some node = ap (node_in w.nodes) at_k ∙ reason in
        let t = turns w.nodes w.sent w.acts s st place clock (what_of event) adopted (node_of event)
        (delivered_fact w.sent s st.facts w refl event may) at_k node reason
        (owed node there) in
        record { next = t.next; stands = t.stands; since = t.since; stay = t.stay; slots = t.slots; books = inr (node, there, t.books); falls = t.falls })
