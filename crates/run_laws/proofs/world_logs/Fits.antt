-- The numbers of all that is sent in a run are in the ranges of their types, and the fragments that servers hold are bytes.
use Rattle.std.proofs.Common.{◌≡◌, ℕ, ◌==◌, true, List, inl, sym, ap, subst}
use Rattle.std.specs.List.{AllByRecursion}
use Rattle.node_logs.specs.cleaner_log_tie.Fitting as cleaner_fits
use Rattle.node_logs.specs.client_log_tie.ClientEvents.{BodyFits, OfItsLog}
use Rattle.node_logs.specs.client_log_tie.Texts.{MapFits}
use Rattle.core_world.specs.declared.any_node.AnyNode.{AnyNode}
use Rattle.core_world.specs.declared.any_node.AnyNode.TheVariants as any
use Rattle.node_tellings.specs.entry_tie.CleanerTells.{CleanerHolds}
use Rattle.node_tellings.specs.entry_tie.ClientTells.{ClientHolds}
use Rattle.node_tellings.specs.entry_tie.Told.{BodyTold, DoTold, RowsTold, Told}
use Rattle.group_map.specs.GroupMapState.{GroupMapState}
use Rattle.log_law.specs.Net.{Net}
use Rattle.log_tie.specs.Setting.{Setting}
use Rattle.node_logs.proofs.manager_log_tie.Rows.{deltas_fit, rows_in_range}
use Rattle.node_logs.specs.manager_log_tie.Fitting.{InRange, IsRowInRange}
use Rattle.node_logs.specs.manager_log_tie.Servers.{CarriesBytes, ComesInBytes, FragmentFits, ServerFits}
use Rattle.node_logs.specs.manager_log_tie.Told.{IsToldInRange}
use Rattle.node_logs.specs.node_log_tie.Sight.{Asker, BodySeen}
use Rattle.node_slots.specs.node_tie.RegistryEvents as board
use Rattle.registry.specs.BoardState.{BoardState}
use Rattle.segment_format.specs.declared.segment.Segment.{Segment}
use Rattle.segment_format.specs.Ranges.{Fits}
use Rattle.segment_format.specs.Rows.{rows_of}
use Rattle.wire_msg.specs.declared.body.Body.{Body}
use Rattle.wire_msg.specs.declared.body.Body.TheVariants as body
use Rattle.wire_msg.specs.declared.packet.Do.{Do}
use Rattle.wire_msg.specs.declared.packet.Do.TheVariants.{Begin, Deliver, Tick}
use Rattle.wire_msg.specs.declared.registry.News.{News}
use Rattle.run_laws.proofs.world_logs.Says.{Plain, SaidByCleaner, SaidByServer, TellsNone}
use Rattle.xfs_base.specs.declared.fragment.Fragment.{Fragment}
use Rattle.xfs_base.specs.declared.node.NodeId.{NodeId}
use Rattle.xfs_base.specs.declared.node.NodeId.TheVariants.{Client, Manager, Server, Cleaner, Registry}
use Rattle.xfs_base.specs.declared.segment.LogId.{LogId}
use Rattle.xfs_base.proofs.Booleans.{equal_itself}

-- which entries are told: those whose numbers are in the ranges of their types, and that nothing is known of a block
abbrev pub in_range : Told
in_range block entry = IsRowInRange (block, entry)

-- ---- packets

-- a fragment that is to be stored at a server is bytes
abbrev pub StoreFits : NodeId → Fragment → Type 0
StoreFits (Server v) f = FragmentFits f
StoreFits (Client c) f = Unit {0}
StoreFits (Manager j) f = Unit {0}
StoreFits Cleaner f = Unit {0}
StoreFits Registry f = Unit {0}

-- the numbers of what is sent to this node are in the ranges of their types
abbrev pub PacketFits : NodeId → Body → Type 0
PacketFits to (body.Store m) = StoreFits to m.fragment
PacketFits to m = InRange m

-- ---- what a node is owed of what comes to it

pub for_client : (to : NodeId) (m : Body) → PacketFits to m → BodyFits m
for_client to (body.MapNews m) h = h
for_client to (body.Welcome m) h = h
for_client to _ h = tt

pub for_cleaner : (to : NodeId) (m : Body) → PacketFits to m → cleaner_fits.InRange m
for_cleaner to (body.Live m) h = h
for_cleaner to (body.Fragment m) h = h
for_cleaner to (body.MapNews m) h = h
for_cleaner to (body.Welcome m) h = h
for_cleaner to _ h = tt

pub for_manager : (to : NodeId) (m : Body) → PacketFits to m → InRange m
for_manager to (body.Store m) h = tt
for_manager to _ h = h

for_entries : (to : NodeId) (m : Body) → PacketFits to m → BodyTold in_range m
for_entries to (body.Grant m) h = h
for_entries to (body.Deltas m) h = h
for_entries to (body.Live m) h = inl h
for_entries to _ h = tt

for_server : (v : ℕ) (m : Body) → PacketFits (Server v) m → CarriesBytes m
for_server v (body.Store m) h = h
for_server v (body.Fragment m) h = h
for_server v _ h = tt

-- ---- what a node sends

-- where it stores, that is bytes
abbrev pub StoresBytes : NodeId → Body → Type 0
StoresBytes to (body.Store m) = StoreFits to m.fragment
StoresBytes to _ = Unit {0}

pub client_sends : (to : NodeId) (m : Body) → Plain m → TellsNone m → BodyTold in_range m → StoresBytes to m → PacketFits to m
client_sends to (body.Store m) plain none told stores = stores
client_sends to (body.Deltas m) plain none told stores = told
client_sends to (body.Grant m) plain none told stores = absurd none
client_sends to (body.Live m) plain none told stores = absurd none
client_sends to (body.Fragment m) plain none told stores = absurd plain
client_sends to (body.Welcome m) plain none told stores = absurd plain
client_sends to (body.MapNews m) plain none told stores = absurd plain
client_sends to _ plain none told stores = tt

pub cleaner_sends : (to : NodeId) (m : Body) → SaidByCleaner m → BodyTold in_range m → StoresBytes to m → PacketFits to m
cleaner_sends to (body.Store m) may told stores = stores
cleaner_sends to (body.Deltas m) may told stores = told
cleaner_sends to (body.Grant m) may told stores = absurd may
cleaner_sends to (body.Live m) may told stores = absurd may
cleaner_sends to (body.Fragment m) may told stores = absurd may
cleaner_sends to (body.Welcome m) may told stores = absurd may
cleaner_sends to (body.MapNews m) may told stores = absurd may
cleaner_sends to _ may told stores = tt

pub server_sends : (to : NodeId) (m : Body) → SaidByServer m → CarriesBytes m → PacketFits to m
server_sends to (body.Store m) may bytes = absurd may
server_sends to (body.Deltas m) may bytes = absurd may
server_sends to (body.Grant m) may bytes = absurd may
server_sends to (body.Live m) may bytes = absurd may
server_sends to (body.Fragment m) may bytes = bytes
server_sends to (body.Welcome m) may bytes = absurd may
server_sends to (body.MapNews m) may bytes = absurd may
server_sends to _ may bytes = tt

pub manager_sends : (to : NodeId) (m : Body) → InRange m → StoresBytes to m → PacketFits to m
manager_sends to (body.Store m) fits stores = stores
manager_sends to _ fits stores = fits

-- what the registry sends is in range where its map is
pub registry_sends : (part : ℕ) (what : Do) (b : BoardState) → MapFits b.groups → (to : NodeId) (m : Body) → board.RegistrySends part what b to m
    → PacketFits to m
registry_sends part what b fits to (body.MapNews m) h = subst (λ (x : GroupMapState). MapFits x) (sym (ap (λ (n : News). n.groups) h.whole)) fits
registry_sends part what b fits to (body.Welcome m) h = subst (λ (x : GroupMapState). MapFits x) (sym (ap (λ (n : News). n.groups) h.news.whole)) fits
registry_sends part what b fits to (body.Store m) h = absurd h
registry_sends part what b fits to (body.Deltas m) h = absurd h
registry_sends part what b fits to (body.Grant m) h = absurd h
registry_sends part what b fits to (body.Live m) h = absurd h
registry_sends part what b fits to (body.Fragment m) h = absurd h
registry_sends part what b fits to _ h = tt

-- it stores to its own log
abbrev pub StoresOwn : Setting → Body → Type 0
StoresOwn g (body.Store m) = m.fragment.meta.name.log ≡ g.log
StoresOwn g _ = Unit {0}

pub own_stores : (g : Setting) (m : Body) → OfItsLog g m → StoresOwn g m
own_stores g (body.Store m) own = own
own_stores g _ own = tt

-- what is stored was sent in the small world of its log, where it is bytes
pub stores_bytes : (g : Setting) (owner : Asker) (n : Net) → IsToldInRange n → (from to : NodeId) (m : Body) → BodySeen g owner n from to m → StoresOwn g m
    → StoresBytes to m
stores_bytes g owner n told from (Server v) (body.Store m) seen own =
    told.stored v m.generation m.fragment
    (seen (subst (λ (l : LogId). (l.0 == g.log.0) ≡ true) (sym own) (equal_itself g.log.0)))
stores_bytes g owner n told from (Client c) (body.Store m) seen own = tt
stores_bytes g owner n told from (Manager j) (body.Store m) seen own = tt
stores_bytes g owner n told from Cleaner (body.Store m) seen own = tt
stores_bytes g owner n told from Registry (body.Store m) seen own = tt
stores_bytes g owner n told from to _ seen own = tt

-- a segment whose numbers are in range tells such entries
pub segment_tells : (s : Segment) → Fits s → RowsTold in_range (rows_of s)
segment_tells s fits = rows_in_range (rows_of s) (deltas_fit s fits s.items fits.items)

-- ---- what nodes hold

-- what clients and the cleaner hold of where blocks lie is in range, and what servers hold is bytes
abbrev pub NodeHolds : AnyNode → Type 0
NodeHolds (any.Client node) = ClientHolds in_range node
NodeHolds (any.Manager node) = Unit {0}
NodeHolds (any.Server node) = ServerFits node
NodeHolds (any.Cleaner node) = CleanerHolds in_range node
NodeHolds (any.Registry node) = Unit {0}

abbrev pub AllHold : List AnyNode → Type 0
AllHold nodes = AllByRecursion NodeHolds nodes

-- ---- what comes

-- what is delivered is in range
abbrev pub DoFits : NodeId → Do → Type 0
DoFits to Begin = Unit {0}
DoFits to (Deliver q) = PacketFits to q.body
DoFits to Tick = Unit {0}

pub do_tells : (to : NodeId) (what : Do) → DoFits to what → DoTold in_range what
do_tells to Begin h = tt
do_tells to (Deliver q) h = for_entries to q.body h
do_tells to Tick h = tt

pub do_carries : (v : ℕ) (what : Do) → DoFits (Server v) what → ComesInBytes what
do_carries v Begin h = tt
do_carries v (Deliver q) h = for_server v q.body h
do_carries v Tick h = tt
