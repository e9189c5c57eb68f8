-- The start of a run stands to the opening of the small world.
use Rattle.std.proofs.Common.{ℕ, ◌+◌, ◌-◌, ◌≤◌, ◌<◌, List, [], refl, arith}
use Rattle.client_node.specs.Starting.{client_start}
use Rattle.cleaner_node.specs.CleanerEvents.{cleaner_start}
use Rattle.core_world.specs.AnyNode.{any_start}
use Rattle.index_tie.specs.Net.{opening}
use Rattle.index_tie.specs.Net.Runs.{Begun}
use Rattle.manager_node.specs.Events.{manager_start}
use Rattle.node_slots.specs.node_index_tie.ManagerEvents.{FirstManagerAgrees}
use Rattle.node_slots.specs.node_index_tie.RegistryEvents.{RegistryStarts}
use Rattle.headline.specs.Filed.{Texts}
use Rattle.node_slots.specs.node_tie.RegistryEvents.{RegistryBegins, RegistrySound}
use Rattle.node_slots.specs.owner_index_tie.CleanerEvents.{CleanerStartAgrees}
use Rattle.node_slots.specs.owner_index_tie.ClientEvents.{FirstClientAgrees}
use Rattle.script_text.specs.declared.script.Script.{Script}
use Rattle.segment_format.specs.declared.segment.Segment.{Segment}
use Rattle.registry_node.specs.Events.{registry_start}
use Rattle.version_model.specs.declared.work.Work.{Work}
use Rattle.world_base.specs.Cluster.{cluster_of}
use Rattle.world_base.specs.declared.cluster.Cluster.{Cluster}
use Rattle.world_base.specs.Items.{items_of}
use Rattle.world_base.specs.NextWorld.{first_nodes}
use Rattle.run_laws.specs.world_index.Standing.{Placed, Scene, Stands}
use Rattle.run_laws.proofs.world_law.Start as starting
use Rattle.xfs_base.specs.declared.node.NodeId.TheVariants.{Client, Manager, Server, Cleaner, Registry}
use Rattle.xfs_base.specs.declared.setup.Setup.{Setup}
use Rattle.xfs_base.specs.Limits.{slot_count, most_clients}

module _ (client_starts : FirstClientAgrees) (manager_starts : FirstManagerAgrees) (cleaner_starts : CleanerStartAgrees) (registry_starts : RegistryStarts)
    (begins : (part : ℕ) → part < slot_count → (setup : Setup) (items : List Work) → RegistryBegins part setup.managers (registry_start setup items))
    (script : Script) (clients : script.setup.clients ≤ most_clients) (part : ℕ) (of_eight : part < slot_count) (texts : Texts) (first : ℕ → ℕ → Segment) where
  abbrev k : Cluster
  k = cluster_of script.setup

  abbrev pub start_scene : Scene
  start_scene = record {
    net = opening first;
    asked = [];
    client = λ c. client_start c script.setup (items_of script.lines (Client c));
    manager = λ j. manager_start j script.setup (items_of script.lines (Manager j));
    cleaner = cleaner_start script.setup (items_of script.lines Cleaner);
    registry = registry_start script.setup (items_of script.lines Registry);
  }

  placed : Placed k (first_nodes any_start script k) start_scene
  placed = record {
    clients = λ c some less. starting.first_stands script (Client c) (0 + c - 1) (starting.place_there 0 script.setup.clients c some (omega arith));
    managers = λ j some limit. starting.first_stands script (Manager j) (script.setup.clients + j - 1)
        (starting.place_there script.setup.clients script.setup.managers j some limit);
    servers = λ n some limit. (
      _,
      starting.first_stands script (Server n) (script.setup.clients + script.setup.managers + n - 1)
          (starting.place_there (script.setup.clients + script.setup.managers) script.setup.servers n some limit),
    );
    cleaner = starting.first_stands script Cleaner (script.setup.clients + script.setup.managers + script.setup.servers) refl;
    registry = starting.first_stands script Registry (script.setup.clients + script.setup.managers + script.setup.servers + 1) refl;
  }

  pub start_stands : Stands k part texts first (first_nodes any_start script k) [] RegistrySound start_scene
  start_stands = record {
    runs = Begun;
    placed = placed;
    sound = (begins part of_eight script.setup (items_of script.lines Registry)).sound;
    registry = registry_starts part first script.setup (items_of script.lines Registry) of_eight;
    clients = λ c some less. client_starts part texts first c script.setup (items_of script.lines (Client c));
    managers = λ j some limit. manager_starts part texts first j script.setup (items_of script.lines (Manager j)) of_eight;
    cleaner = cleaner_starts part texts first script.setup (items_of script.lines Cleaner) of_eight;
    asks = record { drawn = λ room ask name was. absurd was.among; job = tt };
    few = omega arith;
    texts_of = λ l q some limit. absurd (omega arith);
    heads = λ l. omega arith;
    facts = λ q h. absurd h;
  }
