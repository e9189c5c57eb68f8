-- The start of a run stands to the opening of the small world.
use Rattle.std.proofs.Common.{◌≡◌, ℕ, zero, suc, ◌+◌, ◌-◌, ◌≤◌, ◌<◌, List, [], ◌∷◌, None, Some, option_map, inr, refl, sym, ap, subst, ◌∙◌, arith}
use Rattle.std.specs.List.{range_with_len}
use Rattle.std.proofs.lemmas.List.FromFn.{get_or-range_with_len, length-range_with_len}
use Rattle.std.proofs.lemmas.Option.{slice_get-map, slice_get-get_or}
use Rattle.std.proofs.Common.{true, false, cond, Bool, ◌&&◌, ◌==◌, nat_lt, nat_le}
use Rattle.std.proofs.Math.Nat.{mod-lt}
use Rattle.std.proofs.lemmas.Bool.Decides.{nat_tests}
use Rattle.std.proofs.lemmas.Bool.{eqb-true}
use Rattle.client_node.specs.Starting.{client_start}
use Rattle.core_world.specs.AnyNode.{any_start}
use Rattle.manager_map.specs.Slots.{entry_at, manager_map_start}
use Rattle.manager_node.specs.Events.{manager_start}
use Rattle.manager_slots.specs.declared.slot_phase.SlotPhase.TheVariants as phase
use Rattle.manager_slots.specs.Slots.{first_active}
use Rattle.node_slots.proofs.node_tie.ClientStart.{client_starts}
use Rattle.node_slots.proofs.node_tie.SmallWorld.{premise}
use Rattle.node_slots.specs.node_tie.AskingEvents.{StartsAsking}
use Rattle.node_slots.specs.node_tie.CleanerEvents.{CleanerStarts}
use Rattle.node_slots.specs.node_tie.ClientEvents.{ClientAgrees}
use Rattle.node_slots.specs.node_tie.ManagerEvents.{FirstManagerAgrees, HeldAt}
use Rattle.node_slots.specs.node_tie.RegistryEvents.{RegistryBegins, RegistrySound, manager_in}
use Rattle.script_text.specs.declared.script.Script.{Script}
use Rattle.cleaner_node.specs.CleanerEvents.{cleaner_start}
use Rattle.registry_node.specs.Events.{registry_start}
use Rattle.token_client.specs.State.{epoch_of}
use Rattle.token_law.specs.Net.{opening}
use Rattle.token_law.specs.Net.Runs.{Begun}
use Rattle.token_manager.specs.SlotState.{SlotState}
use Rattle.token_protocol.proofs.Refining.{put_each}
use Rattle.xfs_base.proofs.Booleans.{equal_itself}
use Rattle.xfs_base.specs.Blocks.{slot_of}
use Rattle.world_base.specs.Cluster.{place_of, place_behind, cluster_of, node_at, node_count, nodes_of}
use Rattle.world_base.specs.declared.cluster.Cluster.{Cluster}
use Rattle.world_base.specs.Items.{items_of}
use Rattle.world_base.specs.NextWorld.{first_node, first_nodes}
use Rattle.run_laws.proofs.world_law.Leaving.{ManagedIn}
use Rattle.run_laws.proofs.world_law.Places.{behind, node_at_place, some_place}
use Rattle.headline.specs.Managers.{active_in, active_of}
use Rattle.run_laws.specs.world_law.Standing.{ManagerSees, Placed, PastAt, Scene, Stands, epoch_now, manager_now, members}
use Rattle.headline.specs.Moments.{node_in}
use Rattle.version_model.specs.declared.work.Work.{Work}
use Rattle.xfs_base.specs.declared.setup.Setup.{Setup}
use Rattle.xfs_base.specs.declared.node.NodeId.{NodeId}
use Rattle.xfs_base.specs.declared.node.NodeId.TheVariants.{Client, Manager, Server, Cleaner, Registry}
use Rattle.xfs_base.specs.Limits.{slot_count, block_logs, most_clients}

-- each place is below the number of nodes
place_within : (c : Cluster) (node : NodeId) (p : ℕ) → place_of c node ≡ Some p → p < node_count c
place_within c (Client n) p fact = (let b = behind 0 c.clients n p fact in let place = b.place in let some = b.some in let within = b.within in omega arith)
place_within c (Manager n) p fact =
    (let b = behind c.clients c.managers n p fact in let place = b.place in let some = b.some in let within = b.within in omega arith)
place_within c (Server n) p fact =
    (let b = behind (c.clients + c.managers) c.servers n p fact in let place = b.place in let some = b.some in let within = b.within in omega arith)
place_within c Cleaner p fact = (let place = some_place (c.clients + c.managers + c.servers) p fact in omega arith)
place_within c Registry p fact = (let place = some_place (c.clients + c.managers + c.servers + 1) p fact in omega arith)

module _ (script : Script) where
  abbrev cluster : Cluster
  cluster = cluster_of script.setup

  -- the node of a name is its first state
  pub first_stands : (node : NodeId) (p : ℕ) → place_of cluster node ≡ Some p
      → node_in (first_nodes any_start script cluster) (place_of cluster node) ≡ Some (any_start node script.setup (items_of script.lines node))
  first_stands node p at =
      ap (node_in (first_nodes any_start script cluster)) at
      ∙ (slice_get-map (first_node any_start script) (nodes_of cluster) p
      ∙ (ap (option_map (first_node any_start script)) (slice_get-map (node_at cluster) (range_with_len 0 (node_count cluster)) p
      ∙ ap (option_map (node_at cluster))
      (slice_get-get_or (range_with_len 0 (node_count cluster)) p 0 (subst (λ n. p < n) (sym (length-range_with_len 0 (node_count cluster))) within)
      ∙ ap Some (get_or-range_with_len 0 (node_count cluster) p 0 within ∙ omega arith)))
      ∙ ap (λ n. Some (first_node any_start script n)) (node_at_place cluster node p at)))
    where
      within : p < node_count cluster
      within = place_within cluster node p at

within_nine : (clients : ℕ) → clients ≤ most_clients → clients + 1 ≤ block_logs
within_nine clients limit = omega arith

-- a node of a kind has a place where there are so many
pub place_there : (first count number : ℕ) → 0 < number → number ≤ count → place_behind first count number ≡ Some (first + number - 1)
place_there first count number some limit = ap (λ t. cond t (Some (first + number - 1)) None) (both number count some limit)
  where
    both : (a c : ℕ) → 0 < a → a ≤ c → (nat_lt 0 a && nat_le a c) ≡ true
    both a c some limit = grind (arith, nat_tests)

module _ (logs : Bool) (first_asks : StartsAsking) (first_agrees : FirstManagerAgrees) (cleaner_starts : CleanerStarts)
    (begins : (part : ℕ) → part < slot_count → (setup : Setup) (items : List Work) → RegistryBegins part setup.managers (registry_start setup items))
    (script : Script) (clients : script.setup.clients ≤ most_clients) (managers : 1 ≤ script.setup.managers) (part : ℕ) (of_eight : part < slot_count) where
  abbrev k : Cluster
  k = cluster_of script.setup

  begun : RegistryBegins part script.setup.managers (registry_start script.setup (items_of script.lines Registry))
  begun = begins part of_eight script.setup (items_of script.lines Registry)

  abbrev pub start_scene : Scene
  start_scene = record {
    net = opening;
    client = λ c. client_start c script.setup (items_of script.lines (Client c));
    manager = λ j. manager_start j script.setup (items_of script.lines (Manager j));
    cleaner = cleaner_start script.setup (items_of script.lines Cleaner);
    registry = registry_start script.setup (items_of script.lines Registry);
    lord = λ e. manager_in (registry_start script.setup (items_of script.lines Registry)).board part;
    since = λ e. 1;
  }

  placed : Placed k part (first_nodes any_start script k) [] start_scene
  placed = record {
    clients = λ c some less. first_stands script (Client c) (0 + c - 1) (place_there 0 script.setup.clients c some (omega arith));
    managers = λ j some limit. first_stands script (Manager j) (script.setup.clients + j - 1)
        (place_there script.setup.clients script.setup.managers j some limit);
    servers = λ n some limit. (
      _,
      first_stands script (Server n) (script.setup.clients + script.setup.managers + n - 1)
          (place_there (script.setup.clients + script.setup.managers) script.setup.servers n some limit),
    );
    cleaner = first_stands script Cleaner (script.setup.clients + script.setup.managers + script.setup.servers) refl;
    registry = first_stands script Registry (script.setup.clients + script.setup.managers + script.setup.servers + 1) refl;
  }

  first_epoch : (slot : ℕ) → epoch_of (1 ∷ 1 ∷ 1 ∷ 1 ∷ 1 ∷ 1 ∷ 1 ∷ 1 ∷ []) slot ≤ 1
  first_epoch zero = omega arith
  first_epoch (suc zero) = omega arith
  first_epoch (suc (suc zero)) = omega arith
  first_epoch (suc (suc (suc zero))) = omega arith
  first_epoch (suc (suc (suc (suc zero)))) = omega arith
  first_epoch (suc (suc (suc (suc (suc zero))))) = omega arith
  first_epoch (suc (suc (suc (suc (suc (suc zero)))))) = omega arith
  first_epoch (suc (suc (suc (suc (suc (suc (suc zero))))))) = omega arith
  first_epoch (suc (suc (suc (suc (suc (suc (suc (suc n)))))))) = omega arith

  client_agrees : (c : ℕ) → ClientAgrees logs part c opening (client_start c script.setup (items_of script.lines (Client c))).phase
  client_agrees c = (client_starts logs part 1 c of_eight (omega arith) script.setup (items_of script.lines (Client c))).agrees

  -- the slot's first manager is one of the run
  one_of_them : (0 < manager_now k part start_scene) × (manager_now k part start_scene ≤ script.setup.managers)
  one_of_them = (let m = begun.manager in let less = mod-lt part {m = script.setup.managers} (omega arith) in (omega arith, omega arith))

  -- who holds the slot at the start is its first manager
  mine : (j e : ℕ) (t : Bool) → ((entry_at (manager_map_start script.setup.managers) (slot_of part)).manager == j) ≡ t
      → HeldAt (cond t first_active (phase.Away 1)) e → manager_now k part start_scene ≡ j
  mine j e true test held = eqb-true (entry_at (manager_map_start script.setup.managers) (slot_of part)).manager j test
  mine j e false test held = absurd held

  sees : (j : ℕ) → 0 < j → ManagerSees k part start_scene j (manager_start j script.setup (items_of script.lines (Manager j))).phase
  sees j some = (let f = first_agrees (members k part) part j script.setup (items_of script.lines (Manager j)) of_eight in record {
    agrees = f.agrees;
    within = (let a = f.epoch in let b = begun.epoch in omega arith);
    owns = λ e held. (mine j e ((entry_at (manager_map_start script.setup.managers) (slot_of part)).manager == j) refl (subst (λ p. HeldAt p e) f.slot held), refl);
    fresh = λ serves e less within mine. (let a = f.epoch in let b = begun.epoch in absurd (omega arith));
    known = λ serves. (let a = begun.incarnations j in omega arith);
    told = (let a = begun.incarnations j in omega arith);
  })

  -- at the start that manages it, at epoch 1
  abbrev first_lord : ℕ
  first_lord = (entry_at (manager_map_start script.setup.managers) (slot_of part)).manager

  first_managed : ManagedIn k part (first_nodes any_start script k) 1
  first_managed =
      let itself : (first_lord == first_lord) ≡ true = equal_itself first_lord in
      let now : manager_now k part start_scene ≡ first_lord =
      mine first_lord 1 (first_lord == first_lord) refl (subst (λ t. HeldAt (cond t first_active (phase.Away 1)) 1) (sym itself) refl) in
      let one = one_of_them in
      let f = first_agrees (members k part) part first_lord script.setup (items_of script.lines (Manager first_lord)) of_eight in
      record {
        manager = first_lord;
        state = _;
        manages = ap (active_of part) (placed.managers first_lord (subst (λ x. 0 < x) now one.0) (subst (λ x. x ≤ script.setup.managers) now one.1))
            ∙ ap active_in (f.slot ∙ ap (λ t. cond t first_active (phase.Away 1)) itself);
        epoch = refl;
      }

  -- no other epoch has a manager then
  pub managed_first : (e : ℕ) (z : SlotState) → opening.slots e ≡ Some z → ManagedIn k part (first_nodes any_start script k) e
  managed_first = put_each (λ e o. (z : SlotState) → o ≡ Some z → ManagedIn k part (first_nodes any_start script k) e) (λ e. None) 1 (opening.slots 1)
      (λ z fact. first_managed) (λ e other z fact. absurd (cc))

  entered : (e : ℕ) (z : SlotState) → opening.slots e ≡ Some z
      → (e ≤ epoch_now k part start_scene) × (0 < manager_now k part start_scene) × (manager_now k part start_scene ≤ script.setup.managers)
      × PastAt k part (manager_start (manager_now k part start_scene) script.setup (items_of script.lines (Manager (manager_now k part start_scene)))).phase 1 e
      × (e ≤ 1)
  entered = put_each
      (λ e o. (z : SlotState) → o ≡ Some z
      → (e ≤ epoch_now k part start_scene) × (0 < manager_now k part start_scene) × (manager_now k part start_scene ≤ script.setup.managers)
      × PastAt k part (manager_start (manager_now k part start_scene) script.setup (items_of script.lines (Manager (manager_now k part start_scene)))).phase 1 e
      × (e ≤ 1))
      (λ e. None) 1 (opening.slots 1)
      (λ z fact. (
        let b = begun.epoch in omega arith,
        one_of_them.0,
        one_of_them.1,
        inr (
          refl,
          (let f =
              (first_agrees (members k part) part (manager_now k part start_scene) script.setup
              (items_of script.lines (Manager (manager_now k part start_scene))) of_eight).epoch in omega arith),
        ),
        omega arith,
      ))
      (λ e other z fact. absurd (cc))

  pub start_stands : Stands logs k part (first_nodes any_start script k) [] [] RegistrySound start_scene
  start_stands = record {
    runs = Begun;
    acts = refl;
    placed = placed;
    sound = begun.sound;
    clients = λ c some less. (
      client_agrees c,
      record {
        asks = first_asks c script.setup (items_of script.lines (Client c));
        within = (let a = first_epoch part in let b = begun.epoch in omega arith);
        promises = tt;
      },
    );
    managers = λ j some limit. sees j some;
    cleaner = (
      (let b = begun.epoch in omega arith),
      (cleaner_starts part (epoch_now k part start_scene) of_eight script.setup (items_of script.lines Cleaner)).0,
    );
    copies = premise logs (cleaner_starts part (epoch_now k part start_scene) of_eight script.setup (items_of script.lines Cleaner)).1;
    few = within_nine script.setup.clients clients;
    peers = λ j some limit. refl;
    current = (refl, sym (begun.incarnations (manager_now k part start_scene)));
    some = (let b = begun.epoch in omega arith);
    before = λ e some limit. (let a = begun.incarnations (manager_now k part start_scene) in omega arith);
    entered = entered;
    facts = λ q h. absurd h;
  }
