-- Each event keeps all logs standing to their small worlds, which lead on, and the numbers of all that is sent in the ranges of their types.
use Rattle.std.proofs.Common.{◌≡◌, ⊎_elim, ◌^◌, ℕ, ◌+◌, ◌==◌, ◌≤◌, ◌<◌, Bool, List, [], ◌++◌, Some, map, get_or, slice_get, slice_set, if◌then◌else◌, refl, sym, ap, subst, ◌∙◌, arith}
use Rattle.std.specs.Prelude.{All}
use Rattle.std.proofs.lemmas.List.Elements.{All-from_recursion}
use Rattle.std.proofs.lemmas.Bool.{ne_eqb}
use Rattle.cleaner_node.specs.CleanerEvents as cleaners
use Rattle.cleaner_node.specs.CleanerEvents.{cleaner_step}
use Rattle.cleaner_node.specs.declared.cleaner.Cleaner.{Cleaner as CleanerNode}
use Rattle.cleaner_node.specs.declared.cleaner.Phase.{Phase as CleanerPhase}
use Rattle.cleaner_job.specs.Starting.{cleaner_log}
use Rattle.node_logs.specs.client_log_tie.Owner.{Scene}
use Rattle.client_node.specs.Phases.{client_step, lasting_of, takes}
use Rattle.core_world.specs.AnyNode.{any_step}
use Rattle.core_world.specs.declared.any_node.AnyNode.{AnyNode}
use Rattle.core_world.specs.declared.any_node.AnyNode.TheVariants as any
use Rattle.node_tellings.specs.entry_tie.CleanerTells.{CleanerHolds}
use Rattle.node_tellings.specs.entry_tie.ClientTells.{ClientHolds}
use Rattle.node_tellings.specs.entry_tie.Told.{PacketTold, TellsTold}
use Rattle.group_map.specs.declared.group.Group.{Group}
use Rattle.log_tie.specs.Setting.{Setting}
use Rattle.node_logs.specs.manager_log_tie.Listing.{CarriesOf, Lists}
use Rattle.node_logs.specs.manager_log_tie.Servers.{CarriesBytes, TellsBytes}
use Rattle.manager_node.specs.Events.{happens as manager_happens, manager_step}
use Rattle.manager_node.specs.Phases as managers
use Rattle.node_base.specs.Setups.{IsSetup}
use Rattle.node_logs.specs.node_log_tie.CleanerEvents.{CleanerGoes, CleanerOwed, CleanerSeen}
use Rattle.node_logs.specs.node_log_tie.CleanerStores.{StoresItsOwn}
use Rattle.node_logs.specs.node_log_tie.RegistryEvents.{RegistryGoes}
use Rattle.node_logs.specs.node_log_tie.ServerEvents.{ServerGoes, ServerOwed}
use Rattle.node_logs.specs.node_log_tie.Sight.{BodySeen, PacketSeen, ReachedBy}
use Rattle.node_slots.specs.node_tie.RegistryEvents as board
use Rattle.node_slots.specs.node_tie.RegistryEvents.{RegistrySound}
use Rattle.registry_node.specs.declared.node.RegistryNode.{RegistryNode}
use Rattle.registry_node.specs.Events.{registry_step}
use Rattle.store_nodes.specs.ServerEvents.{server_step}
use Rattle.store_nodes.specs.ServerEvents as servers
use Rattle.token_protocol.specs.Basics.{In}
use Rattle.version_model.specs.declared.act.Act.{Act}
use Rattle.wire_msg.specs.declared.packet.Do.{Do}
use Rattle.wire_msg.specs.declared.packet.Do.TheVariants.{Begin, Deliver, Tick}
use Rattle.wire_msg.specs.declared.packet.Packet.{Packet}
use Rattle.world_base.specs.Cluster.{place_of}
use Rattle.world_base.specs.declared.cluster.Cluster.{Cluster}
use Rattle.world_base.specs.declared.world.World.{World}
use Rattle.world_base.specs.NextWorld.{sent_at}
use Rattle.run_laws.proofs.world_law.Nodes as places
use Rattle.run_laws.proofs.world_law.OtherTurns.{equal_or_not}
use Rattle.run_laws.proofs.world_law.Places.{Behind, behind}
use Rattle.headline.specs.Moments.{node_in}
use Rattle.run_laws.proofs.world_logs.CleanerEvents as cleaner_log_events
use Rattle.run_laws.proofs.world_logs.ClientEvents as client_log_events
use Rattle.run_laws.proofs.world_logs.Fits.{DoFits, NodeHolds, PacketFits, cleaner_sends, client_sends, do_carries, in_range, registry_sends, server_sends}
use Rattle.run_laws.proofs.world_logs.Goods as goods
use Rattle.run_laws.specs.world_logs.NodeLaws.{NodeLaws}
use Rattle.run_laws.proofs.world_logs.Listing.{NodeKeeps, cleaner_lists, owner_sends, registry_lists}
use Rattle.run_laws.proofs.world_logs.Lists.{all_at, all_set}
use Rattle.run_laws.proofs.world_logs.ManagerEvents as manager_log_events
use Rattle.run_laws.proofs.world_logs.Owed.{sent_from}
use Rattle.run_laws.proofs.world_logs.OwnerTurns.{idle_turn}
use Rattle.run_laws.proofs.world_logs.RegistryEvents.{registry_goes}
use Rattle.run_laws.proofs.world_logs.Roles.{high_log, no_server}
use Rattle.run_laws.specs.world_logs.Roles.{asker_by}
use Rattle.headline.specs.Logs.{Role, log_by, owner_by, owns}
use Rattle.headline.specs.Logs.Role.{OfClient, OfCleaner, OfManager}
use Rattle.run_laws.proofs.world_logs.Says.{MaySay, OfLog, Plain, sent_apart}
use Rattle.run_laws.proofs.world_logs.Settings.{map_fits}
use Rattle.run_laws.specs.world_logs.Standing.{CleanerAs, Seen, Stands}
use Rattle.run_laws.proofs.world_logs.StoreTurns.{cleaner_turn, registry_turn, server_turn}
use Rattle.run_laws.proofs.world_logs.Turns.{Next, next_so, turned}
use Rattle.headline.specs.Horizons.{board_of}
use Rattle.headline.specs.Servers.{group_at}
use Rattle.xfs_base.specs.declared.node.NodeId.{NodeId}
use Rattle.xfs_base.specs.declared.node.NodeId.TheVariants.{Client, Manager, Server, Cleaner, Registry}
use Rattle.xfs_base.specs.declared.segment.LogId.{LogId}
use Rattle.xfs_base.specs.declared.setup.Setup.{Setup}

module _ (laws : NodeLaws) (base : Setting) (end : World AnyNode) (setup : Setup) (ok : IsSetup setup)
    (few : (id : ℕ) (group : Group) → group_at end id ≡ Some group → id < 2 ^ 32) where
  abbrev k : Cluster
  k = goods.k laws base end setup ok few

  abbrev g : Role → Setting
  g r = goods.g laws base end setup ok few r

  abbrev There : Role → Type 0
  There r = goods.There laws base end setup ok few r

  abbrev Good : List AnyNode → List Packet → (ℕ → List Act) → Type 0
  Good nodes sent told = goods.Good laws base end setup ok few nodes sent told

  abbrev Known : List AnyNode → List Packet → (ℕ → List Act) → Type 0
  Known nodes sent told = goods.Known laws base end setup ok few nodes sent told

  module _ (nodes : List AnyNode) (sent : List Packet) (told : ℕ → List Act) (good : Good nodes sent told) (place clock : ℕ) (what : Do)
      (sound : (r : RegistryNode) → node_in nodes (place_of k Registry) ≡ Some (any.Registry r) → RegistrySound r) where
    abbrev nodes_at : AnyNode → List AnyNode
    nodes_at x = slice_set nodes place (any_step x what).node

    abbrev sent_by : AnyNode → List Packet
    sent_by x = sent ++ map (sent_at clock) (any_step x what).packets

    abbrev told_after : NodeId → AnyNode → ℕ → List Act
    told_after name x c = told c ++ (if owns c name then (any_step x what).acts else [])

    abbrev After : NodeId → AnyNode → Type 0
    After name x = Known (nodes_at x) (sent_by x) (told_after name x)
        → goods.Leads laws base end setup ok few nodes sent told good name (nodes_at x) (sent_by x) (told_after name x)

    -- the log of an owner stands after it
    abbrev Now : NodeId → AnyNode → Role → Type 0
    Now name x r = goods.Led laws base end setup ok few nodes sent told good name (nodes_at x) (sent_by x) (told_after name x) r

    abbrev Gets : NodeId → Type 0
    Gets name = (q : Packet) → what ≡ Deliver q → In q sent × (q.to ≡ name)

    first : (v : Scene) × Stands (g (OfClient 1)) (OfClient 1) v k nodes sent (told 1)
    first = good.logs (OfClient 1) (omega arith, ok.clients.0)

    named : (name : NodeId) (x : AnyNode) → place_of k name ≡ Some place → slice_get nodes place ≡ Some x → node_in nodes (place_of k name) ≡ Some x
    named name x at fact = ap (node_in nodes) at ∙ fact

    -- what comes is in range
    comes : (name : NodeId) → Gets name → DoFits name what
    comes name gets = goods.what_fits laws base end setup ok few nodes sent told good clock name what gets

    abbrev Says : List Packet → Type 0
    Says packets = (q : Packet) → In q (sent ++ map (sent_at clock) packets) → MaySay q.from q.body

    -- what a node of this name may say
    all_say : (name : NodeId) (packets : List Packet) → All (λ (p : Packet). p.from ≡ name) packets → Says packets
        → All (λ (p : Packet). MaySay name p.body) packets
    all_say name packets from says i d less =
        subst (λ f. MaySay f (get_or packets i d).body) (from i d less)
        (goods.all_say laws base end setup ok few nodes sent told good clock packets says i d less)

    abbrev AllFit : List Packet → Type 0
    AllFit packets = (q : Packet) → In q (sent ++ map (sent_at clock) packets) → PacketFits q.to q.body

    all_fit : (packets : List Packet) → All (λ (p : Packet). PacketFits p.to p.body) packets → AllFit packets
    all_fit packets all = goods.all_fit laws base end setup ok few nodes sent told good clock packets all

    abbrev owned : LogId → Bool
    owned log = goods.owned laws base end setup ok few log

    all_ours : (packets : List Packet) → All (λ (p : Packet). CarriesOf owned p.body) packets → (q : Packet)
        → In q (sent ++ map (sent_at clock) packets)
        → CarriesOf owned q.body
    all_ours packets all = goods.all_ours laws base end setup ok few nodes sent told good clock packets all

    abbrev Keeps : AnyNode → Type 0
    Keeps x = NodeKeeps setup.clients setup.managers x

    -- an owner stores to its own log, and lists nothing
    stores : (r : Role) → There r → (packets : List Packet) → All (λ (p : Packet). Plain p.body) packets
        → All (λ (p : Packet). OfLog (log_by r) p.body) packets
        → All (λ (p : Packet). CarriesOf owned p.body) packets
    stores r there packets plain own i d less =
        owner_sends setup.clients setup.managers (log_by r) (goods.owns_one laws base end setup ok few r there) (get_or packets i d).body (plain i d less)
        (own i d less)

    -- ---- the log of another owner

    -- a node of this name, which stores and bars the log of this number alone, has no part in another
    module _ (name : NodeId) (n : ℕ) (at : place_of k name ≡ Some place) (x : AnyNode) (fact : slice_get nodes place ≡ Some x)
        (from : All (λ (p : Packet). p.from ≡ name) (any_step x what).packets) (plain : All (λ (p : Packet). Plain p.body) (any_step x what).packets)
        (own : All (λ (p : Packet). OfLog n p.body) (any_step x what).packets)
        (reached : (r : Role) (w : Scene) (generation : ℕ) → ReachedBy (g r) (asker_by r w) w.net name generation) where
      apart : (r : Role) → (n ≡ log_by r → ⊥) → (owner_by r ≡ name → ⊥) → owns (log_by r) name ≡ (n == log_by r)
          → ((w : Scene) → Seen (g r) r w name (any_step x what).node) → Now name x r
      apart r other away counts there h =
          next_so (g r) r l.0 l.1.moment name k (nodes_at x) (sent_by x) (told (log_by r) ++ []) (told_after name x (log_by r))
          (ap (λ t. told (log_by r) ++ (if t then (any_step x what).acts else [])) (sym (counts ∙ ne_eqb n (log_by r) other)))
          (turned (g r) r l.0 l.0 k nodes sent (told (log_by r)) l.1 name place clock at x (any_step x what).node fact (any_step x what).packets []
          (idle_turn (g r) r l.0 name (any_step x what).node (any_step x what).packets away (there l.0) sends))
        where
          l : (v : Scene) × Stands (g r) r v k nodes sent (told (log_by r))
          l = good.logs r h

          sends : All (PacketSeen (g r) (asker_by r l.0) l.0.net) (any_step x what).packets
          sends i d less =
              let p : Packet = get_or (any_step x what).packets i d in
              subst (λ f. BodySeen (g r) (asker_by r l.0) l.0.net f p.to p.body) (sym (from i d less))
              (sent_apart (g r) r (refl, refl) l.0 n other name (λ e. away (sym e)) (reached r l.0) p.to p.body (plain i d less) (own i d less))

    -- ---- a server

    server_after : (v : ℕ) → Gets (Server v) → place_of k (Server v) ≡ Some place → (x : AnyNode) → slice_get nodes place ≡ Some x → After (Server v) x
    server_after v gets at (any.Client node) fact known = absurd (first.1.seen (Server v) (any.Client node) (named (Server v) _ at fact))
    server_after v gets at (any.Manager node) fact known = absurd (first.1.seen (Server v) (any.Manager node) (named (Server v) _ at fact))
    server_after v gets at (any.Cleaner node) fact known = absurd (first.1.seen (Server v) (any.Cleaner node) (named (Server v) _ at fact))
    server_after v gets at (any.Registry node) fact known = absurd (first.1.seen (Server v) (any.Registry node) (named (Server v) _ at fact))
    server_after v gets at (any.Server node) fact known = record {
      fits = all_fit (server_step node what).packets (λ i d less. server_sends (get_or packets i d).to (get_or packets i d).body (may i d less)
          (All-from_recursion (λ (p : Packet). CarriesBytes p.body) packets tells.packets i d less));
      holds = all_set NodeHolds nodes place (any.Server (server_step node what).node) good.holds tells.node;
      ours = all_ours packets (All-from_recursion (λ (p : Packet). CarriesOf owned p.body) packets lists.packets);
      keeps = all_set Keeps nodes place (any.Server (server_step node what).node) good.keeps lists.node;
      logs = one;
    }
      where
        packets : List Packet
        packets = (server_step node what).packets

        may : All (λ (p : Packet). MaySay (Server node.number) p.body) packets
        may = all_say (Server node.number) packets (sent_from (Server node.number) (servers.takes node what).outs) known.says

        tells : TellsBytes (server_step node what)
        tells = laws.events.tells.events node what (all_at NodeHolds nodes place (any.Server node) good.holds fact) (do_carries v what (comes (Server v) gets))

        lists : Lists owned (server_step node what)
        lists = laws.events.lists.events owned node what (all_at Keeps nodes place (any.Server node) good.keeps fact)
            (goods.what_comes laws base end setup ok few nodes sent told good clock what (λ q same. (gets q same).0))

        one : (r : Role) → Now (Server v) (any.Server node) r
        one r h =
            turned (g r) r l.0 (record l.0 { net = go.next }) k nodes sent (told (log_by r)) l.1 (Server v) place clock at (any.Server node)
            (any.Server (server_step node what).node) fact packets [] (server_turn (g r) r (refl, refl) l.0 v node what go)
          where
            l : (w : Scene) × Stands (g r) r w k nodes sent (told (log_by r))
            l = good.logs r h

            owed : (x : Do) → what ≡ x → ServerOwed (g r) (asker_by r l.0) l.0.net v x
            owed Begin same = tt
            owed Tick same = tt
            owed (Deliver q) same = (let h_ = gets q same in (h_.1, l.1.facts q h_.0))

            go : ServerGoes (g r) (asker_by r l.0) l.0.net v node what
            go = laws.events.server.events (g r) (asker_by r l.0) l.0.net v node what (behind (k.clients + k.managers) k.servers v place at).some (no_server r v)
                (laws.events.maps (g r) l.0.net l.1.moment)
                (l.1.seen (Server v) (any.Server node) (named (Server v) _ at fact)) (owed what refl)

    -- ---- the cleaner

    module _ (gets : Gets Cleaner) (at : place_of k Cleaner ≡ Some place) (node : CleanerNode) (fact : slice_get nodes place ≡ Some (any.Cleaner node)) where
      -- of another log than its own
      module _ (r : Role) (h : There r) (other : cleaner_log.0 ≡ log_by r → ⊥) (away : owner_by r ≡ Cleaner → ⊥)
          (sees : (w : Scene) (p : CleanerPhase) → CleanerAs (g r) w r p → CleanerSeen (g r) w.net p)
          (seen : (w : Scene) (p : CleanerPhase) → CleanerSeen (g r) w.net p → CleanerAs (g r) w r p) where
        abbrev l : (w : Scene) × Stands (g r) r w k nodes sent (told (log_by r))
        l = good.logs r h

        heard : (x : Do) → what ≡ x → CleanerOwed (g r) (asker_by r l.0) l.0.net x
        heard Begin same = tt
        heard Tick same = tt
        heard (Deliver q) same = (let h_ = gets q same in (h_.1, l.1.facts q h_.0))

        no_log : (g r).log ≡ cleaner_log → ⊥
        no_log e = other (ap (λ (x : LogId). x.0) (sym e))

        its : CleanerSeen (g r) l.0.net node.phase
        its = sees l.0 node.phase (l.1.seen Cleaner (any.Cleaner node) (named Cleaner _ at fact))

        go : CleanerGoes (g r) (asker_by r l.0) l.0.net node what
        go = laws.events.cleaner.events (g r) (asker_by r l.0) l.0.net node what no_log away its (heard what refl)

        cleaner_apart : Next (g r) r l.0 l.1.moment Cleaner k (nodes_at (any.Cleaner node)) (sent_by (any.Cleaner node))
            (told_after Cleaner (any.Cleaner node) (log_by r))
        cleaner_apart =
            next_so (g r) r l.0 l.1.moment Cleaner k (nodes_at (any.Cleaner node)) (sent_by (any.Cleaner node)) (told (log_by r) ++ [])
            (told_after Cleaner (any.Cleaner node) (log_by r))
            (ap (λ t. told (log_by r) ++ (if t then (cleaner_step node what).acts else [])) (sym (ne_eqb cleaner_log.0 (log_by r) other)))
            (turned (g r) r l.0 (record l.0 { net = go.next }) k nodes sent (told (log_by r)) l.1 Cleaner place clock at (any.Cleaner node)
            (any.Cleaner (cleaner_step node what).node) fact (cleaner_step node what).packets []
            (cleaner_turn (g r) r (refl, refl) l.0 away seen node what go))

      cleaner_logs : (r : Role) → Now Cleaner (any.Cleaner node) r
      cleaner_logs (OfClient c) h =
          cleaner_apart (OfClient c) h (λ e. (let m = goods.eight laws base end setup ok few c h.1 in absurd (omega (arith, e)))) (λ e. absurd cc) (λ w p s. s)
          (λ w p s. s)
      cleaner_logs OfCleaner h =
          cleaner_log_events.cleaner_mine laws base end setup few nodes sent (told cleaner_log.0) place clock what good.fits gets at node fact
          (good.logs OfCleaner h)
      cleaner_logs (OfManager j) h =
          cleaner_apart (OfManager j) h (λ e. (let m = high_log j h.0 in absurd (omega (arith, e)))) (λ e. absurd cc) (λ w p s. s) (λ w p s. s)

      -- what it tells, and stores
      cleaner_told : TellsTold (CleanerHolds in_range) in_range (cleaner_step node what)
      cleaner_told = cleaner_log_events.cleaner_told laws base end setup few nodes sent (told cleaner_log.0) place clock what good.fits gets at node fact
          (good.logs OfCleaner tt) (all_at NodeHolds nodes place (any.Cleaner node) good.holds fact) (comes Cleaner gets)

      client_one : There (OfClient 1)
      client_one = (omega arith, ok.clients.0)

      cleaner_may : Says (cleaner_step node what).packets → All (λ (p : Packet). MaySay Cleaner p.body) (cleaner_step node what).packets
      cleaner_may says = all_say Cleaner (cleaner_step node what).packets (sent_from Cleaner (cleaners.takes node.peers node.phase what).outs) says

      cleaner_own : All (λ (p : Packet). StoresItsOwn p.body) (cleaner_step node what).packets
      cleaner_own =
          laws.events.cleaner_stores (g (OfClient 1)) (asker_by (OfClient 1) first.0) first.0.net node what (λ e. absurd (one_apart e)) (λ e. absurd cc)
          (first.1.seen Cleaner (any.Cleaner node) (named Cleaner _ at fact)) (heard_first what refl)
        where
          one_apart : (g (OfClient 1)).log ≡ cleaner_log → ⊥
          one_apart e = (let n = ap (λ (x : LogId). x.0) e in absurd (omega (arith, n)))

          heard_first : (x : Do) → what ≡ x → CleanerOwed (g (OfClient 1)) (asker_by (OfClient 1) first.0) first.0.net x
          heard_first Begin same = tt
          heard_first Tick same = tt
          heard_first (Deliver q) same = (let h_ = gets q same in (h_.1, first.1.facts q h_.0))

      cleaner_fits : Says (cleaner_step node what).packets → All (λ (p : Packet). PacketFits p.to p.body) (cleaner_step node what).packets
      cleaner_fits says i d less =
          let packets : List Packet = (cleaner_step node what).packets in
          let p : Packet = get_or packets i d in
          cleaner_sends p.to p.body (cleaner_may says i d less)
          (All-from_recursion (PacketTold in_range) packets cleaner_told.packets i d less)
          (cleaner_log_events.cleaner_stores laws base end setup few nodes sent (told cleaner_log.0) place clock what good.fits gets at node fact
          (good.logs OfCleaner tt)
          cleaner_own i d less)

    cleaner_after : Gets Cleaner → place_of k Cleaner ≡ Some place → (x : AnyNode) → slice_get nodes place ≡ Some x → After Cleaner x
    cleaner_after gets at (any.Client node) fact known = absurd (first.1.seen Cleaner (any.Client node) (named Cleaner _ at fact))
    cleaner_after gets at (any.Manager node) fact known = absurd (first.1.seen Cleaner (any.Manager node) (named Cleaner _ at fact))
    cleaner_after gets at (any.Server node) fact known = absurd (first.1.seen Cleaner (any.Server node) (named Cleaner _ at fact))
    cleaner_after gets at (any.Registry node) fact known = absurd (first.1.seen Cleaner (any.Registry node) (named Cleaner _ at fact))
    cleaner_after gets at (any.Cleaner node) fact known = record {
      fits = all_fit (cleaner_step node what).packets (cleaner_fits gets at node fact known.says);
      holds = all_set NodeHolds nodes place (any.Cleaner (cleaner_step node what).node) good.holds (cleaner_told gets at node fact).node;
      ours = all_ours (cleaner_step node what).packets (λ i d less.
          cleaner_lists setup.clients setup.managers (get_or (cleaner_step node what).packets i d).body (cleaner_may gets at node fact known.says i d less)
          (cleaner_own gets at node fact i d less));
      keeps = all_set Keeps nodes place (any.Cleaner (cleaner_step node what).node) good.keeps tt;
      logs = cleaner_logs gets at node fact;
    }

    -- ---- the registry

    registry_after : Gets Registry → place_of k Registry ≡ Some place → (x : AnyNode) → slice_get nodes place ≡ Some x → After Registry x
    registry_after gets at (any.Client node) fact known = absurd (first.1.seen Registry (any.Client node) (named Registry _ at fact))
    registry_after gets at (any.Manager node) fact known = absurd (first.1.seen Registry (any.Manager node) (named Registry _ at fact))
    registry_after gets at (any.Server node) fact known = absurd (first.1.seen Registry (any.Server node) (named Registry _ at fact))
    registry_after gets at (any.Cleaner node) fact known = absurd (first.1.seen Registry (any.Cleaner node) (named Registry _ at fact))
    registry_after gets at (any.Registry node) fact known = record {
      fits = all_fit (registry_step node what).packets (λ i d less. registry_sends 0 what (registry_step node what).node.board
          (map_fits (registry_step node what).node.board.groups (goes (OfClient 1) (omega arith, ok.clients.0)).seen.map) _ _ (sends.sends i d less));
      holds = all_set NodeHolds nodes place y good.holds tt;
      ours = all_ours (registry_step node what).packets
          (λ i d less. registry_lists setup.clients setup.managers 0 what (registry_step node what).node.board _ _ (sends.sends i d less));
      keeps = all_set Keeps nodes place y good.keeps tt;
      logs = one;
    }
      where
        y : AnyNode
        y = any.Registry (registry_step node what).node

        after : node_in (slice_set nodes place y) (place_of k Registry) ≡ Some y
        after = places.here k nodes Registry place at y (any.Registry node) fact

        sends : board.RegistryGoes 0 node what
        sends = laws.tokens.registry 0 (omega arith) node (sound node (named Registry _ at fact)) what

        goes : (r : Role) (h : There r) → RegistryGoes (g r) (asker_by r (good.logs r h).0) (good.logs r h).0.net node what
        goes = registry_goes laws base end setup ok few nodes sent told good what (λ q same. (gets q same).0) node (named Registry _ at fact)
            (known.named (registry_step node what).node.board (ap board_of after))
            (known.reached (registry_step node what).node.board (ap board_of after))

        one : (r : Role) → Now Registry (any.Registry node) r
        one r h =
            (let l = good.logs r h in
            turned (g r) r l.0 (record l.0 { net = (goes r h).next }) k nodes sent (told (log_by r)) l.1 Registry place clock at (any.Registry node) y fact
            (registry_step node what).packets [] (registry_turn (g r) r (refl, refl) l.0 node what (goes r h)))

    -- ---- a manager

    manager_after : (j : ℕ) → Gets (Manager j) → place_of k (Manager j) ≡ Some place → (x : AnyNode) → slice_get nodes place ≡ Some x → After (Manager j) x
    manager_after j gets at (any.Client node) fact known = absurd (first.1.seen (Manager j) (any.Client node) (named (Manager j) _ at fact))
    manager_after j gets at (any.Server node) fact known = absurd (first.1.seen (Manager j) (any.Server node) (named (Manager j) _ at fact))
    manager_after j gets at (any.Cleaner node) fact known = absurd (first.1.seen (Manager j) (any.Cleaner node) (named (Manager j) _ at fact))
    manager_after j gets at (any.Registry node) fact known = absurd (first.1.seen (Manager j) (any.Registry node) (named (Manager j) _ at fact))
    manager_after j gets at (any.Manager node) fact known = record {
      fits = all_fit packets
          (manager_log_events.all_fit laws base end setup few j b.some nodes sent (told (log_by (OfManager j))) place clock what good.fits gets
          at node fact own);
      holds = all_set NodeHolds nodes place (any.Manager (manager_step node what).node) good.holds tt;
      ours = all_ours packets (stores (OfManager j) there packets may all_own);
      keeps = all_set Keeps nodes place (any.Manager (manager_step node what).node) good.keeps tt;
      logs = by_owner;
    }
      where
        packets : List Packet
        packets = (manager_step node what).packets

        b : Behind k.clients k.managers j place
        b = behind k.clients k.managers j place at

        there : There (OfManager j)
        there = (b.some, b.within)

        own : (v : Scene) × Stands (g (OfManager j)) (OfManager j) v k nodes sent (told (log_by (OfManager j)))
        own = good.logs (OfManager j) there

        from : All (λ (p : Packet). p.from ≡ Manager j) packets
        from i d less =
            sent_from (Manager (managers.lasting_of node.phase).number) (manager_happens node what).outs i d less
            ∙ ap Manager
            (manager_log_events.number laws base end setup few j b.some nodes sent
            (told (log_by (OfManager j))) place clock what good.fits gets at node fact own)

        may : All (λ (p : Packet). MaySay (Manager j) p.body) packets
        may = all_say (Manager j) packets from known.says

        all_own : All (λ (p : Packet). OfLog (log_by (OfManager j)) p.body) packets
        all_own = manager_log_events.all_own laws base end setup few j b.some nodes sent
            (told (log_by (OfManager j))) place clock what good.fits gets at node fact
            own

        away : (r : Role) → (log_by (OfManager j) ≡ log_by r → ⊥) → (owner_by r ≡ Manager j → ⊥)
            → owns (log_by r) (Manager j) ≡ (log_by (OfManager j) == log_by r)
            → ((w : Scene) → Seen (g r) r w (Manager j) (any.Manager (manager_step node what).node)) → Now (Manager j) (any.Manager node) r
        away = apart (Manager j) (log_by (OfManager j)) at (any.Manager node) fact from may all_own (λ r w generation. tt)

        by_owner : (r : Role) → Now (Manager j) (any.Manager node) r
        by_owner (OfClient c) h = away (OfClient c)
            (λ e. (let m = goods.eight laws base end setup ok few c h.1 in let high = high_log j b.some in absurd (omega (arith, e))))
            (λ e. absurd cc) refl (λ w. tt) h
        by_owner OfCleaner h = away OfCleaner (λ e. (let high = high_log j b.some in absurd (omega (arith, e)))) (λ e. absurd cc) refl (λ w. tt) h
        by_owner (OfManager i) h = ⊎_elim (λ same. subst (λ n. Now (Manager j) (any.Manager node) (OfManager n)) same mine h)
            (λ other. away (OfManager i)
            (λ e. other (goods.one_manager laws base end setup ok few j i there h e))
            (λ e. other (same_manager i j e)) refl (λ w e. absurd (other e)) h)
            (equal_or_not j i)
          where
            same_manager : (x y : ℕ) → Manager x ≡ Manager y → y ≡ x
            same_manager x y e = cc

            mine : Now (Manager j) (any.Manager node) (OfManager j)
            mine h_ = manager_log_events.manager_mine laws base end setup few j b.some nodes sent (told (log_by (OfManager j))) place clock what good.fits gets
                at node fact (good.logs (OfManager j) h_) (log_by (OfManager j) == log_by (OfManager j))

    -- ---- a client

    client_after : (d : ℕ) → Gets (Client d) → place_of k (Client d) ≡ Some place → (x : AnyNode) → slice_get nodes place ≡ Some x → After (Client d) x
    client_after d gets at (any.Manager node) fact known = absurd (first.1.seen (Client d) (any.Manager node) (named (Client d) _ at fact))
    client_after d gets at (any.Server node) fact known = absurd (first.1.seen (Client d) (any.Server node) (named (Client d) _ at fact))
    client_after d gets at (any.Cleaner node) fact known = absurd (first.1.seen (Client d) (any.Cleaner node) (named (Client d) _ at fact))
    client_after d gets at (any.Registry node) fact known = absurd (first.1.seen (Client d) (any.Registry node) (named (Client d) _ at fact))
    client_after d gets at (any.Client node) fact known = record {
      fits = all_fit packets (λ i d_ less.
          let p : Packet = get_or packets i d_ in
          client_sends p.to p.body (may i d_ less).0 (may i d_ less).1 (All-from_recursion (PacketTold in_range) packets tells.packets i d_ less)
          (client_log_events.all_stored laws base end setup few d b.some eight nodes sent (told d) place clock what good.fits gets at node fact own i d_ less));
      holds = all_set NodeHolds nodes place (any.Client (client_step node what).node) good.holds tells.node;
      ours = all_ours packets (stores (OfClient d) there packets (λ i d_ less. (may i d_ less).0) all_own);
      keeps = all_set Keeps nodes place (any.Client (client_step node what).node) good.keeps tt;
      logs = by_owner;
    }
      where
        packets : List Packet
        packets = (client_step node what).packets

        b : Behind 0 k.clients d place
        b = behind 0 k.clients d place at

        eight : d ≤ 8
        eight = goods.eight laws base end setup ok few d b.within

        there : There (OfClient d)
        there = (b.some, b.within)

        own : (v : Scene) × Stands (g (OfClient d)) (OfClient d) v k nodes sent (told d)
        own = good.logs (OfClient d) there

        from : All (λ (p : Packet). p.from ≡ Client d) packets
        from i d_ less =
            sent_from (Client (lasting_of node.phase).number) (takes node what).outs i d_ less
            ∙ ap Client (client_log_events.number laws base end setup few d b.some eight nodes sent (told d) place clock what good.fits gets at node fact own)

        may : All (λ (p : Packet). MaySay (Client d) p.body) packets
        may = all_say (Client d) packets from known.says

        all_own : All (λ (p : Packet). OfLog d p.body) packets
        all_own = client_log_events.all_own laws base end setup few d b.some eight nodes sent (told d) place clock what good.fits gets at node fact own

        tells : TellsTold (ClientHolds in_range) in_range (client_step node what)
        tells = client_log_events.client_told laws base end setup few d b.some eight nodes sent (told d) place clock what good.fits gets at node fact own
            (all_at NodeHolds nodes place (any.Client node) good.holds fact) (comes (Client d) gets)

        away : (r : Role) → (d ≡ log_by r → ⊥) → (owner_by r ≡ Client d → ⊥) → owns (log_by r) (Client d) ≡ (d == log_by r)
            → ((w : Scene) → Seen (g r) r w (Client d) (any.Client (client_step node what).node)) → Now (Client d) (any.Client node) r
        away = apart (Client d) d at (any.Client node) fact from (λ i d_ less. (may i d_ less).0) all_own (λ r w generation. tt)

        by_owner : (r : Role) → Now (Client d) (any.Client node) r
        by_owner (OfClient c) h = ⊎_elim (λ same. subst (λ n. Now (Client d) (any.Client node) (OfClient n)) same mine h)
            (λ other. away (OfClient c) other (λ e. other (same_client c d e)) refl (λ w e. absurd (other e)) h) (equal_or_not d c)
          where
            same_client : (x y : ℕ) → Client x ≡ Client y → y ≡ x
            same_client x y e = cc

            mine : Now (Client d) (any.Client node) (OfClient d)
            mine h_ = client_log_events.client_mine laws base end setup few d b.some eight nodes sent (told d) place clock what good.fits gets at node fact
                (good.logs (OfClient d) h_) (d == d)
        by_owner OfCleaner h = away OfCleaner (λ e. (let m = eight in absurd (omega (arith, e)))) (λ e. absurd cc) refl (λ w. tt) h
        by_owner (OfManager j) h =
            away (OfManager j) (λ e. (let m = eight in let high = high_log j h.0 in absurd (omega (arith, e)))) (λ e. absurd cc) refl (λ w. tt) h

    pub node_after : (name : NodeId) → Gets name → place_of k name ≡ Some place → (x : AnyNode) → slice_get nodes place ≡ Some x → After name x
    node_after (Client d) gets at x fact = client_after d gets at x fact
    node_after (Manager j) gets at x fact = manager_after j gets at x fact
    node_after (Server v) gets at x fact = server_after v gets at x fact
    node_after Cleaner gets at x fact = cleaner_after gets at x fact
    node_after Registry gets at x fact = registry_after gets at x fact
