-- The numbers by which clients and the cleaner ask servers for fragments.
use Rattle.std.specs.Prelude.{◌≡◌, ◌≤◌, ℕ, Option, Some, None}
use Rattle.cleaner_node.specs.CleanerEvents.{lasting_of as cleaners_lasting}
use Rattle.client_node.specs.Phases.{lasting_of as clients_lasting}
use Rattle.core_world.specs.declared.any_node.AnyNode.{AnyNode}
use Rattle.core_world.specs.declared.any_node.AnyNode.TheVariants as any
use Rattle.token_protocol.specs.Basics.{In}
use Rattle.wire_msg.specs.declared.body.Body.TheVariants as body
use Rattle.wire_msg.specs.declared.packet.Packet.{Packet}
use Rattle.wire_msg.specs.declared.storage.Fetch.{Fetch}
use Rattle.world_base.specs.declared.estate.Estate.{Estate}
use Rattle.headline.specs.Moments.{moment, node_named}
use Rattle.headline.specs.Logs.{Role, owner_by}

-- the number of the last question of a client or the cleaner
abbrev pub last_of : Option AnyNode → ℕ
last_of None = 0
last_of (Some (any.Client node)) = (clients_lasting node.phase).questions.last
last_of (Some (any.Manager node)) = 0
last_of (Some (any.Server node)) = 0
last_of (Some (any.Cleaner node)) = (cleaners_lasting node.phase).questions.last
last_of (Some (any.Registry node)) = 0

-- Each fetch that an owner has sent by then is asked by a number no later than that of its last question.
abbrev pub FetchesDrawn : Estate AnyNode → Role → ℕ → Type 0
FetchesDrawn e r count =
    (packet : Packet) (m : Fetch) → In packet (moment e count).sent → packet.from ≡ owner_by r → packet.body ≡ body.Fetch m
    → m.ask ≤ last_of (node_named (moment e count) (owner_by r))
