-- At the start of a run each log stands to the opening of its small world, and nodes hold nothing.
use Rattle.std.proofs.Common.{◌≡◌, ℕ, ◌<◌, ◌≤◌, true, List, [], ◌∷◌, Option, None, Some, map as map_of, refl, sym, ap, subst, ◌∙◌, arith}
use Rattle.std.proofs.lemmas.Bool.Decides.{nat_tests}
use Rattle.node_logs.specs.cleaner_log_tie.OwnerEvents.{OwnerStarts}
use Rattle.cleaner_node.specs.CleanerEvents.{cleaner_start}
use Rattle.node_logs.specs.client_log_tie.ClientEvents.{ClientBegins, ClientStarts}
use Rattle.node_logs.specs.client_log_tie.Owner.{Scene}
use Rattle.node_logs.specs.client_log_tie.Texts.{MapFits}
use Rattle.client_node.specs.Starting.{client_start}
use Rattle.core_world.specs.AnyNode.{any_start}
use Rattle.core_world.specs.declared.any_node.AnyNode.{AnyNode}
use Rattle.group_map.specs.GroupMapState.{GroupMapState}
use Rattle.group_map.specs.Groups as groups
use Rattle.log_law.specs.Events.Runs.{Begun}
use Rattle.log_law.specs.Net.{opening}
use Rattle.log_tie.specs.Scans.{WholeMap}
use Rattle.log_tie.specs.Setting.{Setting}
use Rattle.node_logs.specs.manager_log_tie.Owner.{ManagerAgrees}
use Rattle.node_logs.specs.manager_log_tie.OwnerEvents.{ManagerStarts}
use Rattle.node_logs.specs.manager_log_tie.Servers.{ServersStartEmpty}
use Rattle.manager_node.specs.Events.{manager_start}
use Rattle.node_base.specs.Setups.{IsSetup}
use Rattle.node_base.specs.Shape.{is_log}
use Rattle.node_logs.proofs.node_log_tie.WholeMaps.{whole_map}
use Rattle.node_logs.specs.node_log_tie.CleanerEvents.{CleanerStarts}
use Rattle.node_logs.specs.node_log_tie.RegistryEvents.{NamesGroups, RegistrySeen, RegistryStarts}
use Rattle.node_logs.specs.node_log_tie.ServerEvents.{ServerStarts}
use Rattle.node_logs.specs.node_log_tie.Sight.{Question}
use Rattle.node_logs.specs.node_log_tie.Sight.Question.{OfMaps, Unasked}
use Rattle.script_text.specs.declared.script.Script.{Script}
use Rattle.registry_node.specs.Events.{registry_start}
use Rattle.version_model.specs.declared.work.Work.{Work}
use Rattle.world_base.specs.Cluster.{cluster_of, nodes_of, place_of}
use Rattle.world_base.specs.declared.cluster.Cluster.{Cluster}
use Rattle.world_base.specs.Items.{items_of}
use Rattle.world_base.specs.NextWorld.{first_node, first_nodes}
use Rattle.run_laws.proofs.world_law.Laws.{one_node}
use Rattle.run_laws.proofs.world_law.Start.{first_stands}
use Rattle.headline.specs.Moments.{node_in}
use Rattle.run_laws.proofs.world_logs.Fits.{AllHold, NodeHolds}
use Rattle.run_laws.specs.world_logs.Lines.{IsBegun}
use Rattle.run_laws.proofs.world_logs.Settings.{map_fits}
use Rattle.run_laws.proofs.world_logs.OwnLogs.{IsOf}
use Rattle.headline.specs.Logs.{IsThere, Role}
use Rattle.headline.specs.Logs.Role.{OfClient, OfCleaner, OfManager}
use Rattle.run_laws.specs.world_logs.Standing.{CleanerAs, ClientAs, ManagerAs, OwnerSeen, Seen, Stands}
use Rattle.xfs_base.specs.declared.node.NodeId.{NodeId}
use Rattle.xfs_base.specs.declared.node.NodeId.TheVariants.{Client, Manager, Server, Cleaner, Registry}
use Rattle.xfs_base.specs.declared.setup.Setup.{Setup}

-- the number of a client is one of a log
pub log_small : (c : ℕ) → 0 < c → c ≤ 8 → is_log c ≡ true
log_small c some limit = grind (arith, nat_tests)

-- what the owner asked the registry at first
abbrev pub first_asked : Role → ℕ → Question
first_asked (OfClient c) k = Unasked
first_asked OfCleaner k = Unasked
first_asked (OfManager j) k = OfMaps

module _ (clients : ClientStarts) (owner : OwnerStarts) (managers : ManagerStarts) (servers : ServerStarts) (cleaners : CleanerStarts)
    (registries : RegistryStarts) (script : Script) (ok : IsSetup script.setup)
    (g : Setting) (r : Role) (fact : IsOf g r) (size : script.setup.servers ≡ g.servers) (is_there : IsThere script.setup.clients script.setup.managers r)
    (named : NamesGroups g (groups.group_map_start script.setup.servers script.setup.groups)) where
  abbrev setup : Setup
  setup = script.setup

  abbrev map : GroupMapState
  map = groups.group_map_start script.setup.servers script.setup.groups

  abbrev pub scene_by : Role → Scene
  scene_by q = record { net = opening g map; asked = first_asked q }

  abbrev pub first_scene : Scene
  first_scene = scene_by r

  registry_so : (items : List Work) → RegistrySeen g (opening g map) (registry_start setup items).board
  registry_so items = registries g (opening g map) setup items ok size named (λ v. refl) refl

  whole : WholeMap g (λ v. 1) map
  whole = (let r = registry_so [] in whole_map map r.map g r.size r.named (λ v. 1) r.known)

  fits : MapFits map
  fits = map_fits map (registry_so []).map

  owner_so : (c : ℕ) → g.log ≡ record { 0 = c } → 0 < c → c ≤ setup.clients → (items : List Work)
      → OwnerSeen g (scene_by (OfClient c)) c (client_start c setup items).phase
  owner_so c its some limit items =
      (let b : ClientBegins g c setup items = clients g c its (log_small c some (let m = ok.clients.1 in omega arith)) setup items in
      record { agrees = b.agrees; written = b.written fits; room = λ s among. absurd among })

  client_so : (q : Role) → IsOf g q → IsThere setup.clients setup.managers q → (d : ℕ) (items : List Work)
      → ClientAs g (scene_by q) q d (client_start d setup items).phase
  client_so (OfClient c) of h d items = λ e.
      subst (λ n. OwnerSeen g (scene_by (OfClient c)) c (client_start n setup items).phase) (sym e) (owner_so c of.0 h.0 h.1 items)
  client_so OfCleaner of h d items = tt
  client_so (OfManager j) of h d items = tt

  cleaner_so : (q : Role) → IsOf g q → (items : List Work) → CleanerAs g (scene_by q) q (cleaner_start setup items).phase
  cleaner_so (OfClient c) of items = cleaners g (opening g map) setup items
  cleaner_so OfCleaner of items = record { agrees = owner g of.0 setup items fits; room = λ s among. absurd among }
  cleaner_so (OfManager j) of items = cleaners g (opening g map) setup items

  manager_so : (q : Role) → IsOf g q → (j : ℕ) (items : List Work) → ManagerAs g (scene_by q) q j (manager_start j setup items).phase
  manager_so (OfClient c) of j items = tt
  manager_so OfCleaner of j items = tt
  manager_so (OfManager i) of j items = λ e.
      subst (λ n. ManagerAgrees g i (scene_by (OfManager i)) (manager_start n setup items).phase) (sym e) (managers g i of.0 setup items fits)

  starts : (name : NodeId) (p : ℕ) → place_of (cluster_of script.setup) name ≡ Some p → (items : List Work)
      → Seen g r first_scene name (any_start name setup items)
  starts (Client d) p at items = client_so r fact is_there d items
  starts (Manager j) p at items = manager_so r fact j items
  starts (Server v) p at items = servers g (opening g map) v setup items refl (record { named = whole.named; cut = whole.cut })
  starts Cleaner p at items = cleaner_so r fact items
  starts Registry p at items = registry_so items

  abbrev k : Cluster
  k = cluster_of script.setup

  seen : (name : NodeId) (x : AnyNode) → node_in (first_nodes any_start script k) (place_of k name) ≡ Some x → Seen g r first_scene name x
  seen name x here = by (place_of k name) refl
    where
      by : (o : Option ℕ) → place_of k name ≡ o → Seen g r first_scene name x
      by None at = (let clash : None ≡ Some x = sym (ap (node_in (first_nodes any_start script k)) at) ∙ here in absurd cc)
      by (Some p) at =
          subst (Seen g r first_scene name) (one_node (any_start name setup (items_of script.lines name)) x (sym (first_stands script name p at) ∙ here))
          (starts name p at (items_of script.lines name))

  pub start_stands : Stands g r first_scene k (first_nodes any_start script k) [] []
  start_stands = record {
    moment = record { map = map; whole = whole; run = Begun };
    seen = seen;
    facts = λ p h. absurd h;
    filed = λ n h. absurd h;
    deleted = λ n h. absurd h;
  }

  pub start_begins : IsBegun start_stands.moment.run
  unfolding start_stands
  start_begins = tt

-- ---- what nodes hold

first_holds : ServersStartEmpty → (name : NodeId) (s : Setup) (items : List Work) → NodeHolds (any_start name s items)
first_holds empty (Client d) s items = record { fetches = λ block. tt; feed = tt; reading = tt }
first_holds empty (Manager j) s items = tt
first_holds empty (Server v) s items = empty v s items
first_holds empty Cleaner s items = record { job = tt; feed = tt; log = record { waits = tt; flight = tt } }
first_holds empty Registry s items = tt

each_holds : ServersStartEmpty → (script : Script) (names : List NodeId) → AllHold (map_of (first_node any_start script) names)
each_holds empty script [] = tt
each_holds empty script (name ∷ names) = (first_holds empty name script.setup (items_of script.lines name), each_holds empty script names)

pub start_holds : ServersStartEmpty → (script : Script) → AllHold (first_nodes any_start script (cluster_of script.setup))
start_holds empty script = each_holds empty script (nodes_of (cluster_of script.setup))
