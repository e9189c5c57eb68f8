-- Every run has a line of each of its logs, so it keeps them: those of its clients, that of the cleaner, and those of its managers.
use Rattle.std.proofs.Common.{◌≡◌, ◌^◌, ℕ, suc, ◌+◌, ◌≤◌, ◌<◌, false, List, [], ◌∷◌, Some, length, take, slice_get, inl, inr, refl, sym, ap, subst, ◌∙◌, arith}
use Rattle.std.specs.List.{fold}
use Rattle.core_world.specs.AnyNode.{any_start, any_step}
use Rattle.core_world.specs.declared.any_node.AnyNode.{AnyNode}
use Rattle.core_world.specs.declared.any_node.AnyNode.TheVariants as any
use Rattle.fragment_store.specs.ShelfState.{ShelfState}
use Rattle.group_map.specs.declared.group.Group.{Group}
use Rattle.group_map.specs.Groups as groups
use Rattle.log_tie.specs.Exist.{SomeSetting}
use Rattle.log_tie.specs.Setting.{Setting}
use Rattle.log_flight.specs.Flights.{server_of}
use Rattle.log_protocol.specs.Tables.{In}
use Rattle.node_base.specs.Setups.{IsSetup}
use Rattle.node_logs.specs.node_log_tie.RegistryEvents.{NamesGroups}
use Rattle.registry_node.specs.Events.{registry_start}
use Rattle.wire_msg.specs.declared.body.Body.TheVariants as body
use Rattle.wire_msg.specs.declared.packet.Packet.{Packet}
use Rattle.wire_msg.specs.declared.storage.Listed.{Listed}
use Rattle.world_base.specs.Cluster.{cluster_of, place_of}
use Rattle.world_base.specs.declared.cluster.Cluster.{Cluster}
use Rattle.world_base.specs.declared.estate.Estate.{Estate}
use Rattle.world_base.specs.declared.event.Event.{Event}
use Rattle.world_base.specs.declared.world.World.{World}
use Rattle.world_base.specs.Items.{items_of}
use Rattle.world_base.specs.NextWorld.{next_world, start_world}
use Rattle.world_base.specs.Runs.{IsRun, Leads}
use Rattle.run_laws.proofs.world_law.Laws as tokens
use Rattle.run_laws.proofs.world_law.Start.{first_stands}
use Rattle.headline.specs.Moments.{moment, node_in, node_named}
use Rattle.run_laws.proofs.world_logs.Fronts.{From, Steps, front_good, front_steps, named_so}
use Rattle.run_laws.proofs.world_logs.Goods.{Good}
use Rattle.run_laws.specs.world_logs.NodeLaws.{NodeLaws}
use Rattle.run_laws.proofs.world_logs.Groups.{GroupsStay, board_has_map, first_map, in_run, map_in_run}
use Rattle.run_laws.proofs.world_logs.Listing.{listed_of, owner_of, start_keeps}
use Rattle.run_laws.specs.world_logs.Lines.{IsBegun}
use Rattle.run_laws.proofs.world_logs.Lists.{in_listed}
use Rattle.run_laws.specs.world_logs.Lines.{HasLines, Line, RunsHaveLines}
use Rattle.run_laws.specs.world_logs.Listing.{HasOwner, RunsListTheirLogs}
use Rattle.run_laws.proofs.world_logs.Reading.{has_text, is_whole, members_exist}
use Rattle.headline.specs.Logs.{IsThere, Role, did, log_by, renews}
use Rattle.headline.specs.Logs.Role.{OfClient, OfCleaner, OfManager}
use Rattle.run_laws.proofs.world_logs.Settings.{ids_fit}
use Rattle.run_laws.specs.world_logs.Settings.{setting_of}
use Rattle.run_laws.proofs.world_logs.Start.{first_scene, start_begins, start_holds, start_stands}
use Rattle.headline.specs.Segments.{CleanersLogStands, LogStands, LogsStand, ManagersLogsStand}
use Rattle.run_laws.specs.world_logs.Horizons.{RunsReachHorizons}
use Rattle.headline.specs.Horizons.{HorizonsReached, IsOpened, board_of}
use Rattle.headline.specs.Servers.{group_at, shelf_at, shelf_of}
use Rattle.xfs_base.specs.declared.fragment.FragMeta.{FragMeta}
use Rattle.xfs_base.specs.declared.node.NodeId.TheVariants.{Server, Registry}
use Rattle.xfs_base.specs.declared.setup.Setup.{Setup}

-- the laws that the logs stand on
pub record Below : Type 0 where
  pub nodes : NodeLaws
  pub groups : GroupsStay
  pub setting : SomeSetting

-- events lead to the world at their end
at_end : (events : List Event) (w end : World AnyNode) → Leads any_step w events end → fold (next_world any_step) w (take (length events) events) ≡ end
at_end [] w end leads = leads
at_end (event ∷ events) w end leads = at_end events (next_world any_step w event) end leads.1

-- ---- the line of each log

module _ (laws : NodeLaws) (stay : GroupsStay) (base : Setting) (e : Estate AnyNode) (ok : IsSetup e.script.setup)
    (run : IsRun any_step any_start e.script e.events e.world) (low : HorizonsReached e) where
  abbrev setup : Setup
  setup = e.script.setup

  abbrev k : Cluster
  k = cluster_of e.script.setup

  abbrev g : Role → Setting
  g r = setting_of base e.world e.script.setup.servers r

  abbrev There : Role → Type 0
  There r = IsThere setup.clients setup.managers r

  -- what horizons tell of
  opened : (r : Role) → There r → renews r ≡ false → IsOpened setup.clients (log_by r)
  opened (OfClient c) there keeps = inl there
  opened OfCleaner there keeps = inr refl
  opened (OfManager j) there keeps = absurd cc

  -- at the start the registry's map is well formed, so it is at the end
  first_board : board_of (node_named (start_world any_start e.script) Registry) ≡ Some (registry_start setup (items_of e.script.lines Registry)).board
  unfolding start_world
  first_board = ap board_of (first_stands e.script Registry (setup.clients + setup.managers + setup.servers + 1) refl)

  few : (id : ℕ) (group : Group) → group_at e.world id ≡ Some group → id < 2 ^ 32
  few id group fact =
      ids_fit (node_named e.world Registry)
      (map_in_run stay e.events (start_world any_start e.script) e.world run
      (board_has_map (node_named (start_world any_start e.script) Registry) (registry_start setup (items_of e.script.lines Registry)).board first_board
      (first_map setup ok (items_of e.script.lines Registry)))) id group fact

  first_named : (r : Role) → NamesGroups (g r) (groups.group_map_start setup.servers setup.groups)
  unfolding start_world
  first_named r =
      named_so laws stay base e.world setup ok few (start_world any_start e.script) refl
      (in_run stay e.events (start_world any_start e.script) e.world run)
      (registry_start setup (items_of e.script.lines Registry)).board first_board r

  abbrev pub Start : World AnyNode
  Start = start_world any_start e.script

  from_start : From laws stay base e.world setup ok few e.events Start (λ c. [])
  unfolding start_world
  from_start = record {
    cluster = refl;
    leads = run;
    tokens = (tokens.front laws.tokens e ok run 0 0 (omega arith)).1;
    low = λ n r there keeps b fact. low n (log_by r) (opened r there keeps) b fact;
  }

  first_good : Good laws base e.world setup ok few Start.nodes Start.sent (λ c. [])
  unfolding start_world
  first_good = record {
    fits = λ q h. absurd h;
    holds = start_holds laws.events.tells.starts e.script;
    ours = λ q h. absurd h;
    keeps = start_keeps setup.clients setup.managers laws.events.lists.starts e.script;
    logs = λ r there. (
      first_scene laws.events.client.starts laws.events.owner.starts laws.events.manager.starts laws.events.server.starts laws.events.cleaner.starts
          laws.events.registry.starts e.script ok
          (g r) r (refl, refl) refl there (first_named r),
      start_stands laws.events.client.starts laws.events.owner.starts laws.events.manager.starts laws.events.server.starts laws.events.cleaner.starts
          laws.events.registry.starts e.script ok
          (g r) r (refl, refl) refl there (first_named r),
    );
  }

  first_begins : (r : Role) (there : There r) → IsBegun (first_good.logs r there).1.moment.run
  unfolding first_good
  first_begins r there =
      start_begins laws.events.client.starts laws.events.owner.starts laws.events.manager.starts laws.events.server.starts laws.events.cleaner.starts
      laws.events.registry.starts e.script ok
      (g r) r (refl, refl) refl there (first_named r)

  abbrev good_at : (count : ℕ) → Good laws base e.world setup ok few (moment e count).nodes (moment e count).sent (λ c. did e c count)
  good_at count = front_good laws stay base e.world setup ok few e.events count Start (λ c. []) from_start first_good

  -- what a server lists is of a log of the run
  pub lists : (count : ℕ) (p : Packet) (m : Listed) → In p (moment e count).sent → p.body ≡ body.Listed m → (meta : FragMeta) → In meta m.held
      → HasOwner setup.clients setup.managers meta.name.log
  lists count p m among fact meta held =
      owner_of setup.clients setup.managers ok.managers.1 meta.name.log
      (listed_of setup.clients setup.managers p.body m fact ((good_at count).ours p (in_listed (moment e count).sent p among)) meta held)

  steps : (count : ℕ) (r : Role) (h : There r)
      → Steps laws stay base e.world setup ok few r (slice_get e.events count) ((good_at count).logs r h).0 ((good_at count).logs r h).1.moment
      ((good_at (suc count)).logs r h).0 ((good_at (suc count)).logs r h).1.moment
  steps count r h = front_steps laws stay base e.world setup ok few e.events count Start (λ c. []) from_start first_good r h

  pub lines : HasLines base e
  lines r there = record {
    scene = λ count. ((good_at count).logs r there).0;
    stands = λ count. ((good_at count).logs r there).1;
    goes = λ count. (steps count r there).runs;
    begins = first_begins r there;
    joined = λ count. (steps count r there).joined;
    own = λ count. (steps count r there).own;
    straight = λ count. (steps count r there).straight;
    puts = λ count. (steps count r there).puts;
    others = λ count. (steps count r there).left;
    ended = λ count. (steps count r there).ended;
  }

pub runs_have_lines : NodeLaws → GroupsStay → RunsReachHorizons → RunsHaveLines
runs_have_lines laws stay horizons base e ok run = lines laws stay base e ok run (horizons e ok run)

pub runs_list_their_logs : Below → RunsReachHorizons → RunsListTheirLogs
runs_list_their_logs below horizons e ok run = lists below.nodes below.groups below.setting.0 e ok run (horizons e ok run)

-- ---- what each line says

module _ (below : Below) (e : Estate AnyNode) (ok : IsSetup e.script.setup) (run : IsRun any_step any_start e.script e.events e.world)
    (all : HasLines below.setting.0 e) where
  abbrev setup_of : Setup
  setup_of = e.script.setup

  abbrev k_of : Cluster
  k_of = cluster_of e.script.setup

  abbrev base_of : Setting
  base_of = below.setting.0

  -- a server of the run has a shelf
  shelf_there : (count v : ℕ) → 1 ≤ v → v ≤ setup_of.servers → (shelf : ShelfState) × (shelf_at (moment e count) v ≡ Some shelf)
  shelf_there count v some limit =
      let f = tokens.front below.nodes.tokens e ok run count 0 (omega arith) in
      let s = f.1.1.placed.servers v some limit in
      (s.0.shelf, ap shelf_of (subst (λ cl. node_in (moment e count).nodes (place_of cl (Server v)) ≡ Some (any.Server s.0)) (sym f.0) s.1))

  -- the members of a group of the registry's at the end are servers
  exist : (count : ℕ) → (id : ℕ) (group : Group) → group_at e.world id ≡ Some group → (place : ℕ) → place < length group.members
      → (shelf : ShelfState) × (shelf_at (moment e count) (server_of group.members place) ≡ Some shelf)
  exist count id group fact place below_ =
      let end = length e.events in
      let same : moment e end ≡ e.world = at_end e.events (start_world any_start e.script) e.world run in
      let f = tokens.front below.nodes.tokens e ok run end 0 (omega arith) in
      let l : Line base_of e (OfClient 1) = all (OfClient 1) (omega arith, ok.clients.0) in
      let s = members_exist base_of e.world (moment e end) setup_of.servers (OfClient 1) k_of f.0 (l.scene end) (did e 1 end) (l.stands end) f.1.0.registry
      f.1.1.placed.registry id group
      (ap (λ w. group_at w id) same ∙ fact) place below_ in
      shelf_there count (server_of group.members place) s.0 s.1

  log_stands : (count : ℕ) (r : Role) → IsThere setup_of.clients setup_of.managers r → LogStands e count (log_by r)
  log_stands count r there =
      let l : Line base_of e r = all r there in
      let f = tokens.front below.nodes.tokens e ok run count 0 (omega arith) in
      record {
        whole = λ name fact kept.
            is_whole base_of e.world (moment e count) setup_of.servers r k_of f.0 (l.scene count) (did e (log_by r) count) (l.stands count)
            below.nodes.logs.whole below.nodes.logs.one_text (exist count) name fact kept;
        one_text = λ name of. has_text base_of e.world (moment e count) setup_of.servers r k_of f.0 (l.scene count) (did e (log_by r) count) (l.stands count)
            below.nodes.logs.one_text name of;
      }

  pub logs_stand : LogsStand e
  logs_stand count c some limit = log_stands count (OfClient c) (some, limit)

  pub cleaners_log_stands : CleanersLogStands e
  cleaners_log_stands count = log_stands count OfCleaner tt

  pub managers_logs_stand : ManagersLogsStand e
  managers_logs_stand count j some limit = log_stands count (OfManager j) (some, limit)
