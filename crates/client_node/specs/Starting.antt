-- A client at the start of a run.
use Rattle.std.specs.Prelude.{ℕ, List}
use Rattle.client_node.specs.declared.client.Client.{Client}
use Rattle.client_node.specs.declared.phase.Phase.TheVariants.{Serving as Serves}
use Rattle.client_node.specs.Serving.{serves_first}
use Rattle.client_serving.specs.Lasting.{lasting_start}
use Rattle.group_map.specs.Groups as groups
use Rattle.node_base.specs.Nodes.{peers_of}
use Rattle.version_model.specs.declared.work.Work.{Work}
use Rattle.xfs_base.specs.declared.setup.Setup.{Setup}

-- the client of this number in a setup, with its items
abbrev pub client_start : ℕ → Setup → List Work → Client
client_start number setup works =
    record {
      peers = peers_of setup;
      cache = setup.cache;
      phase = Serves (serves_first (lasting_start number works) setup.managers setup.cache (groups.group_map_start setup.servers setup.groups));
    }
