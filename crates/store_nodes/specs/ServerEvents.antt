-- What each event makes of a storage server.
use Rattle.std.specs.Prelude.{ℕ, Bool, ◌==◌, ◌&&◌, is_some, if◌then◌else◌, List, [], ◌∷◌, ◌++◌, Option, Some, None, filter}
use Rattle.std.specs.Ordering.{is_eq}
use Rattle.version_model.specs.declared.answer.Answer.TheVariants as answers
use Rattle.version_model.specs.declared.work.Work.{Work}
use Rattle.version_model.specs.declared.work.Work.TheVariants as work
use Rattle.wire_msg.specs.declared.body.Body.{Body}
use Rattle.wire_msg.specs.declared.body.Body.TheVariants as body
use Rattle.wire_msg.specs.declared.packet.Do.{Do}
use Rattle.wire_msg.specs.declared.packet.Do.TheVariants.{Begin, Deliver, Tick}
use Rattle.wire_msg.specs.declared.packet.Packet.{Packet}
use Rattle.wire_msg.specs.declared.registry.News.{News}
use Rattle.wire_msg.specs.declared.registry.Welcome.{Welcome}
use Rattle.wire_msg.specs.declared.storage.Delete.{Delete}
use Rattle.wire_msg.specs.declared.storage.Fence.{Fence}
use Rattle.wire_msg.specs.declared.storage.Fetch.{Fetch}
use Rattle.wire_msg.specs.declared.storage.ListAsk.{ListAsk}
use Rattle.wire_msg.specs.declared.storage.Store.{Store}
use Rattle.wire_msg.specs.NodeStep.{NodeStep}
use Rattle.xfs_base.specs.declared.fragment.FragMeta.{FragMeta}
use Rattle.xfs_base.specs.declared.fragment.Fragment.{Fragment}
use Rattle.xfs_base.specs.declared.node.NodeId.{NodeId}
use Rattle.xfs_base.specs.declared.node.NodeId.TheVariants.{Server, Registry}
use Rattle.xfs_base.specs.declared.segment.LogId.{LogId}
use Rattle.xfs_base.specs.declared.setup.Setup.{Setup}
use Rattle.xfs_base.specs.Segments.{pass_cmp}
use Rattle.xfs_base.specs.Steps.{still, saying}
use Rattle.node_base.specs.declared.effects.Effect.{Effect}
use Rattle.node_base.specs.declared.effects.Effect.TheVariants.{Send, Answer}
use Rattle.node_base.specs.Asking.{next_ask, draw}
use Rattle.node_base.specs.Beginning.{items_start as first_items, next_item, items_begin, work_at, items_wait, items_answer, answers_unanswered}
use Rattle.node_base.specs.Effects.{packets_of, acts_of}
use Rattle.node_base.specs.Known.{names_known_groups}
use Rattle.node_base.specs.Maps.{maps_start, fits, is_older, maps_take}
use Rattle.node_base.specs.Nodes.{peers_of}
use Rattle.node_base.specs.Room.{has_room}
use Rattle.node_base.specs.Shape.{is_well_formed}
use Rattle.fragment_store.specs.Calls.{refusal, shelf_store, on_list as listed_on, on_delete as without, on_fence as fenced_at, on_lose as lost}
use Rattle.fragment_store.specs.ShelfState.{ShelfState, new_shelf, held_at, fence_of}
use Rattle.group_map.specs.GroupMapState.{GroupMapState}
use Rattle.group_map.specs.Groups.{group_map_start as first_groups}
use Rattle.group_rebuild.specs.RebuildState.{rebuild_start}
use Rattle.group_rebuild.specs.declared.input.In.TheVariants as input
use Rattle.store_nodes.specs.declared.server.Server.{Server as Node}
use Rattle.store_nodes.specs.declared.server.Wish.{Wish}
use Rattle.store_nodes.specs.declared.server.Wish.TheVariants.{Lose, Rebuild, Other}
use Rattle.store_nodes.specs.Rebuilds.{Done, rebuilds, server_in, on_listed, on_found, on_missing}

-- a server at the start of a run, with nothing on its shelf
abbrev pub server_start : ℕ → Setup → List Work → Node
server_start number setup items =
    record {
      number = number;
      peers = peers_of setup;
      items = first_items items;
      maps = maps_start (first_groups setup.servers setup.groups);
      questions = record { last = 0 };
      shelf = new_shelf;
      hello = None;
      rebuilding = None;
    }

-- ---- fragments

-- the shelf with this fragment, where nothing speaks against it
abbrev pub keeps : ShelfState → Fragment → ℕ → ShelfState
keeps s fragment generation = if is_some (refusal s fragment.meta.name generation) then s else shelf_store s fragment

-- one that is kept is told of; a refused one is not
unfoldable pub on_store : Node → NodeId → Store → Done
on_store node from store =
    if is_some (refusal node.shelf store.fragment.meta.name store.generation) then still node
    else record {
      state = record node { shelf = shelf_store node.shelf store.fragment };
      outs = Send from (body.Stored (record { name = store.fragment.meta.name; index = store.fragment.meta.index; generation = store.generation })) ∷ [];
    }

abbrev pub found_or_missing : ShelfState → Fetch → Option Fragment → Body
found_or_missing s fetch (Some fragment) = body.Fragment (record { ask = fetch.ask; generation = s.generation; fragment = fragment })
found_or_missing s fetch None = body.Missing (record { name = fetch.name; ask = fetch.ask; generation = s.generation })

abbrev pub on_fetch : Node → NodeId → Fetch → List Effect
on_fetch node from fetch = Send from (found_or_missing node.shelf fetch (held_at node.shelf.held fetch.name)) ∷ []

abbrev pub of_log : LogId → List FragMeta → List FragMeta
of_log log metas = filter (λ m. m.name.log.0 == log.0) metas

abbrev pub fence_told : NodeId → Fence → ShelfState → List Effect
fence_told from fence s =
    if is_eq (pass_cmp (fence_of s.fences fence.log) fence.pass)
    then Send from (body.Fenced (record { log = fence.log; pass = fence.pass; generation = s.generation; held = of_log fence.log (listed_on s) })) ∷ []
    else []

-- a log is barred below a pass; that is told where the fence that is kept is the one that was asked for
unfoldable pub on_fence : Node → NodeId → Fence → Done
on_fence node from fence = record {
  state = record node { shelf = fenced_at node.shelf fence.log fence.pass };
  outs = fence_told from fence (fenced_at node.shelf fence.log fence.pass);
}

abbrev pub on_list : Node → NodeId → ListAsk → List Effect
on_list node from list = Send from (body.Listed (record { ask = list.ask; generation = node.shelf.generation; held = listed_on node.shelf })) ∷ []

unfoldable pub on_delete : Node → NodeId → Delete → Done
on_delete node from delete = record {
  state = record node { shelf = without node.shelf delete.name };
  outs = Send from (body.Deleted (record { name = delete.name; generation = node.shelf.generation })) ∷ [];
}

-- ---- the maps

abbrev pub hello_of : ShelfState → ℕ → Effect
hello_of s ask = Send Registry (body.Hello (record { inc = s.generation; ask = ask }))

-- newer maps are taken, and the rebuild that is under way has their groups
unfoldable pub takes_news : Node → News → Done
takes_news node news = if is_older node.maps news then rebuilds (record node { maps = maps_take node.maps news }) (input.Maps news.groups) else still node

abbrev pub on_news : Node → News → Done
on_news node news = if fits node.maps news then takes_news node news else still node

-- The registry answers a Hello of this generation, under whichever question: it knows the generation then, so none is said again.
unfoldable pub on_welcome : Node → Welcome → Done
on_welcome node welcome =
    if (welcome.inc == node.shelf.generation) && fits node.maps welcome.news
    then takes_news (record node { hello = None }) welcome.news
    else still node

-- a packet names a group that is not known: it is dropped, and the maps are asked for
unfoldable pub asks_for_maps : Node → Done
asks_for_maps node = record { state = record node { questions = draw node.questions }; outs = hello_of node.shelf (next_ask node.questions) ∷ [] }

-- ---- packets

abbrev pub tells : Node → List Effect → Done
tells node effects = record { state = node; outs = effects }

abbrev pub hears : Node → NodeId → Body → Done
hears node from (body.Store store) = on_store node from store
hears node from (body.Fetch fetch) = tells node (on_fetch node from fetch)
hears node from (body.Fence fence) = on_fence node from fence
hears node from (body.List list) = tells node (on_list node from list)
hears node from (body.Delete delete) = on_delete node from delete
hears node from (body.Listed listed) = on_listed node (server_in from) listed
hears node from (body.Fragment found) = on_found node (server_in from) found
hears node from (body.Missing missing) = on_missing node (server_in from) missing
hears node from _ = still node

abbrev pub hears_known : Node → NodeId → Body → Done
hears_known node from said = if names_known_groups node.maps said then hears node from said else asks_for_maps node

abbrev pub on_body : Node → NodeId → Body → Done
on_body node from (body.MapNews news) = on_news node news
on_body node from (body.Welcome welcome) = on_welcome node welcome
on_body node from said = hears_known node from said

unfoldable pub on_packet : Node → Packet → Done
on_packet node packet = if is_well_formed node.peers packet then on_body node packet.from packet.body else still node

-- ---- items

-- the disk is lost: a rebuild is cut, and the next generation begins with nothing and says Hello
unfoldable pub on_lose : Node → ℕ → Done
on_lose node number = record {
  state = record node {
    items = items_answer node.items;
    rebuilding = None;
    shelf = lost node.shelf;
    questions = draw node.questions;
    hello = Some (next_ask node.questions);
  };
  outs = answers_unanswered node.items.unanswered answers.Cut ++ Answer number answers.Done ∷ hello_of (lost node.shelf) (next_ask node.questions) ∷ [];
}

abbrev pub begins_rebuild : Node → ℕ → Option GroupMapState → Done
begins_rebuild node number None = still node
begins_rebuild node number (Some groups) =
    rebuilds
    (record node {
      items = items_wait node.items number;
      questions = draw node.questions;
      rebuilding = Some (record { rebuild = rebuild_start node.number groups; lists = next_ask node.questions; fetches = record { own = 0; ask = 0 } });
    })
    input.Tick

-- the shelf is to be filled again
unfoldable pub on_rebuild : Node → ℕ → Done
on_rebuild node number = if is_some node.items.unanswered then tells node (Answer number answers.Busy ∷ []) else begins_rebuild node number node.maps.groups

abbrev pub wish_in : Work → Wish
wish_in (work.Lose server) = Lose
wish_in (work.Rebuild server) = Rebuild
wish_in _ = Other

abbrev pub wish_of : Option Work → Wish
wish_of None = Other
wish_of (Some asked) = wish_in asked

abbrev pub on_wish : Node → ℕ → Wish → Done
on_wish node number Lose = on_lose node number
on_wish node number Rebuild = on_rebuild node number
on_wish node number Other = still node

abbrev pub at_item : Node → Option ℕ → Done
at_item node None = still node
at_item node (Some number) = on_wish node number (wish_of (work_at node.items number))

-- the next item begins
unfoldable pub on_begin : Node → Done
on_begin node = at_item (record node { items = items_begin node.items }) (next_item node.items)

-- ---- all events

abbrev pub hello_again : Node → Option ℕ → List Effect
hello_again node None = []
hello_again node (Some ask) = hello_of node.shelf ask ∷ []

-- what is unanswered is said again
unfoldable pub on_tick : Node → Done
on_tick node = saying (hello_again node node.hello) (rebuilds node input.Tick)

abbrev pub on_event : Node → Do → Done
on_event node Begin = on_begin node
on_event node (Deliver packet) = on_packet node packet
on_event node Tick = on_tick node

abbrev pub is_far_from_ends : Node → Bool
is_far_from_ends node = has_room node.shelf.generation && (has_room node.questions.last && has_room node.maps.version)

-- the event is taken where each counter is at least 65,536 below its end
abbrev pub takes : Node → Do → Done
takes node what = if is_far_from_ends node then on_event node what else still node

abbrev pub seen : ℕ → Done → NodeStep Node
seen number done = record { node = done.state; packets = packets_of (Server number) done.outs; acts = acts_of (Server number) done.outs }

abbrev pub server_step : Node → Do → NodeStep Node
server_step node what = seen node.number (takes node what)
