-- What is acted to be lost in an event, the node of the event says is lost; and it reads then.
use Rattle.std.proofs.Common.{◌≡◌, ◌⊎◌, ⊎_elim, ℕ, ◌+◌, ◌<◌, ◌==◌, true, false, List, [], Option, Some, None, is_some, drop, length, slice_get, refl, sym, ap, subst, ◌∙◌, inl, inr, arith}
use Rattle.cleaner_node.specs.CleanerEvents as cleaning
use Rattle.cleaner_node.specs.declared.cleaner.Cleaner.{Cleaner as CleanerNode}
use Rattle.cleaner_node.specs.declared.cleaner.Phase as cleaner_phases
use Rattle.cleaner_node.specs.declared.cleaner.Phase.TheVariants as cleaner_phase
use Rattle.client_node.specs.declared.client.Client.{Client as ClientNode}
use Rattle.client_node.specs.declared.phase.Phase.{Phase}
use Rattle.client_node.specs.declared.phase.Phase.TheVariants.{Down, Opening, Serving as Serves}
use Rattle.client_node.specs.Phases.{lasting_of, takes}
use Rattle.client_call.specs.declared.call.Call.{Call}
use Rattle.client_serving.specs.declared.serving.Serving.{Serving}
use Rattle.client_serving.specs.Flights.{held_at}
use Rattle.client_serving.specs.Grants.{is_want}
use Rattle.core_world.specs.AnyNode.{any_start, any_step}
use Rattle.core_world.specs.declared.any_node.AnyNode.{AnyNode}
use Rattle.core_world.specs.declared.any_node.AnyNode.TheVariants as any
use Rattle.log_owner.specs.declared.opening.Stage.{Stage}
use Rattle.log_owner.specs.declared.opening.Stage.TheVariants as stage
use Rattle.manager_node.specs.declared.manager.Manager.{Manager as ManagerNode}
use Rattle.manager_node.specs.declared.phase.Phase as manager_phases
use Rattle.manager_node.specs.declared.phase.Phase.TheVariants as managing
use Rattle.manager_node.specs.Events.{happens}
use Rattle.manager_node.specs.Phases as managers
use Rattle.node_base.specs.declared.effects.Effect.{Effect}
use Rattle.node_base.specs.Effects.{acts_of}
use Rattle.node_base.specs.Setups.{IsSetup}
use Rattle.node_slots.specs.node_tie.Asks.{AsksForCall, needed}
use Rattle.node_slots.specs.node_tie.AskingEvents.{PhaseAsks}
use Rattle.node_slots.specs.node_tie.ManagerEvents.{ManagerAgrees}
use Rattle.node_slots.specs.node_tie.RegistryEvents.{RegistrySound}
use Rattle.run_laws.proofs.world_law.FirstSlot as slot
use Rattle.run_laws.proofs.world_law.Laws.{NodeLaws}
use Rattle.run_laws.proofs.world_law.Pasts.{done_after, none_after}
use Rattle.run_laws.proofs.world_law.Places.{behind}
use Rattle.run_laws.proofs.world_law.Turns.{one_node}
use Rattle.headline.specs.Moments.{acts_in, moment, node_in, node_named}
use Rattle.run_laws.specs.world_law.Standing.{Scene, Stands, members}
use Rattle.headline.specs.Logs.{IsThere}
use Rattle.headline.specs.Logs.Role.{OfClient, OfCleaner, OfManager}
use Rattle.std.specs.Prelude.{option_map}
use Rattle.registry_node.specs.Events as registry_events
use Rattle.store_nodes.specs.ServerEvents as server_events
use Rattle.token_client.specs.declared.held.Wanted.{Wanted}
use Rattle.token_client.specs.State.{epoch_of}
use Rattle.token_protocol.specs.Basics.{In}
use Rattle.version_model.specs.declared.act.Act.TheVariants as act
use Rattle.wire_msg.specs.declared.packet.Do.{Do}
use Rattle.world_base.specs.Cluster.{cluster_of, place_of}
use Rattle.world_base.specs.declared.cluster.Cluster.{Cluster}
use Rattle.world_base.specs.declared.estate.Estate.{Estate}
use Rattle.world_base.specs.declared.event.Event.{Event}
use Rattle.world_base.specs.Events.{node_of, what_of}
use Rattle.world_base.specs.NextWorld.{next_world}
use Rattle.world_base.specs.Runs.{IsRun}
use Rattle.xfs_base.proofs.Booleans.{and_second, contrary}
use Rattle.xfs_base.specs.Blocks.{slot_of}
use Rattle.xfs_base.specs.declared.block.BlockId.{BlockId}
use Rattle.xfs_base.specs.declared.token.Mode.{Mode}
use Rattle.xfs_base.specs.declared.node.NodeId.{NodeId}
use Rattle.xfs_base.specs.declared.node.NodeId.TheVariants as nodes
use Rattle.xfs_base.specs.declared.segment.SegName.{SegName}
use Rattle.serving_moves.specs.item_moves.Events.{cleaner_losses, client_log_losses, client_losses, log_losses}
use Rattle.serving_moves.specs.item_moves.Moves.{MayTell}
use Rattle.run_losses.proofs.answer_law.Cleaners as cleaners
use Rattle.run_losses.proofs.answer_law.Cleaners.{cleaner_turned}
use Rattle.run_losses.proofs.answer_law.Clients as clients
use Rattle.run_losses.proofs.answer_law.Clients.{client_turned}
use Rattle.run_losses.proofs.answer_law.Runs.{client_stands}
use Rattle.run_losses.proofs.torn_law.Counts.{Still, TurnAt, happened_so}
use Rattle.run_losses.specs.answer_law.Answers.{IsBegunBy}
use Rattle.run_losses.specs.fetching_law.Fetchings.{FetchesLossesEarned, WasTornInFetch}
use Rattle.headline.specs.Reads.{BringsGone, open_item, serving_at, serving_in, serving_of}
use Rattle.run_losses.specs.reader_law.Readers.{IsReader, OnlyReadersSayLost}
use Rattle.run_losses.specs.reader_law.Readers.IsReader.{Scans, Serves as ServesThen, Manages}
use Rattle.headline.specs.Openings.{cleaners_scan, clients_scan, scan_at, scan_in, scan_of}
use Rattle.run_losses.proofs.answer_law.Others.{manager_plain, registry_plain, registry_silent, server_plain, server_silent}
use Rattle.run_losses.proofs.answer_law.Telling.{AllPlain, SaysLost, says_lost, told_plain}

-- ---- which node says so

-- an opening that may say so scans its log still
still_scans : (at : Stage) → MayTell (log_losses at) → is_some (scan_in at) ≡ true
still_scans (stage.Scanning s) may = refl
still_scans (stage.Settling s) may = absurd may

client_scans : (at : Stage) → MayTell (client_log_losses at) → is_some (scan_in at) ≡ true
client_scans (stage.Scanning s) may = refl
client_scans (stage.Settling s) may = absurd may

scans_or_serves : (p : Phase) → MayTell (client_losses p) → (is_some (clients_scan p) ≡ true) ⊎ ((s : Serving) × (p ≡ Serves s))
scans_or_serves (Down l) may = absurd may
scans_or_serves (Opening l o) may = inl (client_scans o.stage may)
scans_or_serves (Serves s) may = inr (s, refl)

cleaner_scans : (p : cleaner_phases.Phase) → MayTell (cleaner_losses p) → is_some (cleaners_scan p) ≡ true
cleaner_scans (cleaner_phase.Down l) may = absurd may
cleaner_scans (cleaner_phase.Opening l o) may = still_scans o.stage may
cleaner_scans (cleaner_phase.Serving e) may = absurd may

-- what a node acts to be lost, where it answers no item so
plain_says : (me node : NodeId) (name : SegName) (outs : List Effect) → AllPlain outs → In (act.Lost node name) (acts_of me outs)
    → SaysLost (λ number. ⊥) me node name outs
plain_says me node name outs plain fact = says_lost (λ number. ⊥) me node name None outs (told_plain (λ number. ⊥) None outs plain) fact

-- ---- the item of a client that says so

open_call : (call : Option Call) (needs : BlockId × Mode) → needed call ≡ Some needs → call ≡ None → ⊥
open_call None needs fact none = absurd cc
open_call (Some c) needs fact none = absurd cc

wanted_some : (o : Option Wanted) (req : ℕ) → is_want (option_map (λ (w : Wanted). w.req) o) req ≡ true → (w : Wanted) × (o ≡ Some w)
wanted_some None req fact = contrary fact
wanted_some (Some w) req fact = (w, refl)

-- one that is told that what it asked for is gone has its item open
gone_open : (s : Serving) (what : Do) (name : SegName) → AsksForCall s → BringsGone s what name → (item : ℕ) × (s.lasting.items.unanswered ≡ Some item)
gone_open s what name asks b = by s.lasting.items.unanswered refl
  where
    want : (w : Wanted) × ((held_at s b.gone.block).want ≡ Some w)
    want =
        wanted_some (held_at s b.gone.block).want b.gone.req
        (and_second (b.gone.inc == s.lasting.inc) _ (and_second (epoch_of s.tokens.epochs (slot_of b.gone.block.ino.0) == b.gone.epoch) _ b.meant))

    by : (o : Option ℕ) → s.lasting.items.unanswered ≡ o → (item : ℕ) × (s.lasting.items.unanswered ≡ Some item)
    by None fact = absurd (open_call s.call (b.gone.block, want.0.mode) (asks.wanted b.gone.block want.0 want.1) (asks.waits fact))
    by (Some item) fact = (item, fact)

module _ (laws : NodeLaws) (e : Estate AnyNode) (setup : IsSetup e.script.setup) (run : IsRun any_step any_start e.script e.events e.world) (count : ℕ) where
  abbrev k : Cluster
  k = cluster_of e.script.setup

  abbrev now : Scene
  now = slot.scene laws e setup run count

  st : Stands false k 0 (moment e count).nodes (moment e count).sent (moment e count).acts RegistrySound now
  st = slot.stands laws e setup run count

  pub cluster_is : (moment e count).cluster ≡ k
  cluster_is = slot.cluster_is laws e setup run count

  abbrev Here : NodeId → Option AnyNode
  Here name = node_in (moment e count).nodes (place_of k name)

  named : (name : NodeId) (x : AnyNode) → Here name ≡ Some x → node_named (moment e count) name ≡ Some x
  named name x fact = ap (λ c. node_in (moment e count).nodes (place_of c name)) cluster_is ∙ fact

  -- how a node of a name reads
  abbrev pub ReadsNow : NodeId → Type 0
  ReadsNow (nodes.Client c) =
      IsThere e.script.setup.clients e.script.setup.managers (OfClient c)
      × ((is_some (scan_at e (OfClient c) count) ≡ true) ⊎ ((s : Serving) × (serving_at e c count ≡ Some s) × AsksForCall s))
  ReadsNow (nodes.Manager j) = IsThere e.script.setup.clients e.script.setup.managers (OfManager j)
  ReadsNow (nodes.Server v) = ⊥
  ReadsNow nodes.Cleaner = is_some (scan_at e OfCleaner count) ≡ true
  ReadsNow nodes.Registry = ⊥

  module _ (what : Do) (acting : NodeId) (name : SegName) where
    abbrev Acts : AnyNode → Type 0
    Acts x = In (act.Lost acting name) (any_step x what).acts

    -- ---- a client

    client_says : (c : ℕ) (there : IsThere e.script.setup.clients e.script.setup.managers (OfClient c)) (node : ClientNode)
        → Here (nodes.Client c) ≡ Some (any.Client node) → PhaseAsks node.phase → Acts (any.Client node) → (acting ≡ nodes.Client c) × ReadsNow (nodes.Client c)
    client_says c there node stood asks fact =
        let at = named (nodes.Client c) (any.Client node) stood in
        let its = client_stands e count c node at in
        let turned : clients.Turned node.phase what (takes node what) = client_turned node what its.1 in
        let me = nodes.Client (lasting_of node.phase).number in
        let says : SaysLost (IsBegunBy (clients.items_in node.phase) what) me acting name (takes node what).outs =
        says_lost (IsBegunBy (clients.items_in node.phase) what) me acting name None (takes node what).outs turned.told fact in (
          says.own ∙ its.0,
          (
            there,
            ⊎_elim (λ scans. inl (ap (λ o. is_some (scan_of o)) at ∙ scans))
                (λ (v : (s : Serving) × (node.phase ≡ Serves s)). inr (v.0, ap serving_of at ∙ ap serving_in v.1, subst PhaseAsks v.1 asks))
                (scans_or_serves node.phase (turned.tells name says.among)),
          ),
        )

    -- ---- the cleaner

    cleaner_says : (node : CleanerNode) → Here nodes.Cleaner ≡ Some (any.Cleaner node) → Acts (any.Cleaner node)
        → (acting ≡ nodes.Cleaner) × ReadsNow nodes.Cleaner
    cleaner_says node stood fact =
        let outs = (cleaning.takes node.peers node.phase what).outs in
        let turned : cleaners.Turned node.phase what (cleaning.takes node.peers node.phase what) = cleaner_turned node what in
        let says : SaysLost (IsBegunBy (cleaners.items_in node.phase) what) nodes.Cleaner acting name outs =
        says_lost (IsBegunBy (cleaners.items_in node.phase) what) nodes.Cleaner acting name None outs turned.told fact in (
          says.own,
          ap (λ o. is_some (scan_of o)) (named nodes.Cleaner (any.Cleaner node) stood) ∙ cleaner_scans node.phase (turned.tells name says.among),
        )

    -- ---- a manager

    manager_says : (j : ℕ) → IsThere e.script.setup.clients e.script.setup.managers (OfManager j) → (node : ManagerNode)
        → (managers.lasting_of node.phase).number ≡ j → Acts (any.Manager node) → (acting ≡ nodes.Manager j) × ReadsNow (nodes.Manager j)
    manager_says j there node number fact =
        let says : SaysLost (λ item. ⊥) (nodes.Manager (managers.lasting_of node.phase).number) acting name (happens node what).outs =
        plain_says (nodes.Manager (managers.lasting_of node.phase).number) acting name (happens node what).outs (manager_plain node what) fact in
        (says.own ∙ ap nodes.Manager number, there)

    -- ---- whichever it is

    one_of : (n : NodeId) (x y : AnyNode) → Here n ≡ Some x → Here n ≡ Some y → Acts x → Acts y
    one_of n x y at stood fact = subst Acts (one_node x y (sym at ∙ stood)) fact

    by_name : (n : NodeId) (p : ℕ) (x : AnyNode) → place_of k n ≡ Some p → Here n ≡ Some x → Acts x → (acting ≡ n) × ReadsNow n
    by_name (nodes.Client c) p x placed at fact =
        let b = behind 0 k.clients c p placed in
        let less : c < members k 0 = (let limit = b.within in omega arith) in
        let stood = st.placed.clients c b.some less in
        client_says c (b.some, b.within) (now.client c) stood (st.clients c b.some less).1.asks
        (one_of (nodes.Client c) x (any.Client (now.client c)) at stood fact)
    by_name (nodes.Manager j) p x placed at fact =
        let b = behind k.clients k.managers j p placed in
        let stood = st.placed.managers j b.some b.within in
        manager_says j (b.some, b.within) (now.manager j) (number (now.manager j).phase (st.managers j b.some b.within).agrees)
        (one_of (nodes.Manager j) x (any.Manager (now.manager j)) at stood fact)
      where
        number : (q : manager_phases.Phase) → ManagerAgrees (members k 0) 0 now.net j q → (managers.lasting_of q).number ≡ j
        number (managing.Serving s) agrees = agrees.number
        number (managing.Down kept) agrees = agrees
        number (managing.Waiting kept hello) agrees = agrees
    by_name (nodes.Server v) p x placed at fact =
        let b = behind (k.clients + k.managers) k.servers v p placed in
        let s = st.placed.servers v b.some b.within in
        let outs = (server_events.takes s.0 what).outs in
        let says = plain_says (nodes.Server s.0.number) acting name outs (server_plain s.0 what) (one_of (nodes.Server v) x (any.Server s.0) at s.1 fact) in
        absurd (server_silent s.0 what name says.among)
    by_name nodes.Cleaner p x placed at fact =
        cleaner_says now.cleaner st.placed.cleaner (one_of nodes.Cleaner x (any.Cleaner now.cleaner) at st.placed.cleaner fact)
    by_name nodes.Registry p x placed at fact =
        let outs = (registry_events.takes now.registry what).outs in
        let says =
        plain_says nodes.Registry acting name outs (registry_plain now.registry what)
        (one_of nodes.Registry x (any.Registry now.registry) at st.placed.registry fact) in
        absurd (registry_silent now.registry what name says.among)

  -- ---- an event

  module _ (event : Event) (node : NodeId) (name : SegName) (among : In (act.Lost node name) (acts_in (moment e count) event)) where
    still_says : Still (moment e count) (next_world any_step (moment e count) event).nodes (next_world any_step (moment e count) event).sent
        (next_world any_step (moment e count) event).acts → (node ≡ node_of event) × ReadsNow (node_of event)
    still_says still =
        let none : acts_in (moment e count) event ≡ [] = ap (drop (length (moment e count).acts)) still.acts_are ∙ none_after (moment e count).acts in
        absurd (subst (In (act.Lost node name)) none among)

    turn_says : TurnAt (moment e count) event (next_world any_step (moment e count) event).nodes (next_world any_step (moment e count) event).sent
        (next_world any_step (moment e count) event).acts → (node ≡ node_of event) × ReadsNow (node_of event)
    turn_says t =
        let placed : place_of k (node_of event) ≡ Some t.place = subst (λ c. place_of c (node_of event) ≡ Some t.place) cluster_is t.placed in
        let acts : acts_in (moment e count) event ≡ (any_step t.node (what_of event)).acts =
        ap (drop (length (moment e count).acts)) t.acts_are ∙ done_after (moment e count).acts (any_step t.node (what_of event)).acts in
        by_name (what_of event) node name (node_of event) t.place t.node placed (ap (node_in (moment e count).nodes) placed ∙ t.stands)
        (subst (In (act.Lost node name)) acts among)

    pub says_and_reads : (node ≡ node_of event) × ReadsNow (node_of event)
    says_and_reads = ⊎_elim still_says turn_says (happened_so (moment e count) event)

-- ---- every run

module _ (laws : NodeLaws) (fetches : FetchesLossesEarned) (e : Estate AnyNode) (setup : IsSetup e.script.setup)
    (run : IsRun any_step any_start e.script e.events e.world) (count : ℕ) (event : Event) (fact : slice_get e.events count ≡ Some event) (name : SegName) where
  -- the item of a client that serves and says so
  item_open : (c : ℕ) → IsThere e.script.setup.clients e.script.setup.managers (OfClient c) → nodes.Client c ≡ node_of event
      → In (act.Lost (nodes.Client c) name) (acts_in (moment e count) event) → (s : Serving) → serving_at e c count ≡ Some s → AsksForCall s
      → (item : ℕ) × (s.lasting.items.unanswered ≡ Some item)
  item_open c there own among s serves asks =
      ⊎_elim (gone_open s (what_of event) name asks) (λ (w : WasTornInFetch e c s count (what_of event) name). torn_open w)
      (fetches e setup run c there.0 there.1 count event fact own s serves name among)
    where
      torn_open : WasTornInFetch e c s count (what_of event) name → (item : ℕ) × (s.lasting.items.unanswered ≡ Some item)
      torn_open w =
          let a = w.in_order in let b = w.before in
          (w.item, sym (ap open_item serves) ∙ (w.reads count (omega arith) (omega arith)).its_item)

  reader : (n : NodeId) → n ≡ node_of event → In (act.Lost n name) (acts_in (moment e count) event) → ReadsNow laws e setup run count n → IsReader e count n
  reader (nodes.Client c) own among r =
      ⊎_elim (λ scans. Scans (OfClient c) r.0 refl scans)
      (λ (v : (s : Serving) × (serving_at e c count ≡ Some s) × AsksForCall s).
      (let o = item_open c r.0 own among v.0 v.1 v.2 in ServesThen c r.0 v.0 v.1 o.0 o.1)) r.1
  reader (nodes.Manager j) own among there = Manages j there
  reader (nodes.Server v) own among none = absurd none
  reader nodes.Cleaner own among scans = Scans OfCleaner tt refl scans
  reader nodes.Registry own among none = absurd none

pub readers_say_lost : NodeLaws → FetchesLossesEarned → OnlyReadersSayLost
readers_say_lost laws fetches e setup run count event fact node name among =
    let r = says_and_reads laws e setup run count event node name among in (
      r.0,
      reader laws fetches e setup run count event fact name node r.0 among (subst (ReadsNow laws e setup run count) (sym r.0) r.1),
    )
