-- The moves of a storage server: what it does in an event, one thing at a time, and what for.
use Rattle.std.specs.Prelude.{◌≡◌, ℕ, true, [], ◌∷◌, Option, Some, None}
use Rattle.fragment_store.specs.Calls.{barred, on_lose as lost}
use Rattle.fragment_store.specs.ShelfState.{ShelfState}
use Rattle.group_map.specs.GroupMapState.{GroupMapState}
use Rattle.group_rebuild.specs.declared.input.In.{In}
use Rattle.group_rebuild.specs.declared.input.In.TheVariants as input
use Rattle.group_rebuild.specs.RebuildState.{rebuild_start}
use Rattle.node_base.specs.Beginning.{work_at}
use Rattle.node_base.specs.declared.effects.Effect.TheVariants.{Answer as Answers}
use Rattle.node_base.specs.declared.items.Items.{Items}
use Rattle.node_base.specs.declared.questions.Questions.{Questions}
use Rattle.node_base.specs.Maps.{maps_take}
use Rattle.node_base.specs.Room.{has_room}
use Rattle.store_nodes.specs.declared.server.Server.{Server as Node}
use Rattle.store_nodes.specs.Rebuilds.{Done, rebuilds}
use Rattle.store_nodes.specs.ServerEvents.{hello_of, on_delete, on_fence, on_fetch, on_list, on_store, takes, tells}
use Rattle.version_model.specs.declared.answer.Answer.{Answer}
use Rattle.version_model.specs.declared.answer.Answer.TheVariants as answers
use Rattle.version_model.specs.declared.work.Work.TheVariants as work
use Rattle.wire_msg.specs.declared.body.Body.{Body}
use Rattle.wire_msg.specs.declared.body.Body.TheVariants as body
use Rattle.wire_msg.specs.declared.packet.Do.{Do}
use Rattle.wire_msg.specs.declared.packet.Do.TheVariants.{Deliver}
use Rattle.wire_msg.specs.declared.packet.Packet.{Packet}
use Rattle.wire_msg.specs.declared.registry.News.{News}
use Rattle.wire_msg.specs.declared.storage.Delete.{Delete}
use Rattle.wire_msg.specs.declared.storage.Fence.{Fence}
use Rattle.wire_msg.specs.declared.storage.Fetch.{Fetch}
use Rattle.wire_msg.specs.declared.storage.Found.{Found}
use Rattle.wire_msg.specs.declared.storage.ListAsk.{ListAsk}
use Rattle.wire_msg.specs.declared.storage.Listed.{Listed}
use Rattle.wire_msg.specs.declared.storage.Missing.{Missing}
use Rattle.wire_msg.specs.declared.storage.Store.{Store}
use Rattle.xfs_base.specs.Steps.{still, saying}

-- the maps that a packet brings
abbrev pub news_in : Body → Option News
news_in (body.MapNews news) = Some news
news_in (body.Welcome m) = Some m.news
news_in _ = None

-- in the event this packet came, and it says this
pub record Came (what : Do) (packet : Packet) (said : Body) : Type 0 where
  pub event : what ≡ Deliver packet
  pub says : packet.body ≡ said

-- in the event this packet came, and it brings these maps
pub record Brought (what : Do) (packet : Packet) (news : News) : Type 0 where
  pub event : what ≡ Deliver packet
  pub brings : news_in packet.body ≡ Some news

-- ---- because of what a rebuild takes an input

pub data Given (what : Do) (shelf : ShelfState) : In → Type 0 where
  ListCame : (packet : Packet) (server : ℕ) (m : Listed) → Came what packet (body.Listed m) → Given what shelf (input.Listed server m.held (barred shelf))
  FragmentCame : (packet : Packet) (own server : ℕ) (m : Found) → Came what packet (body.Fragment m)
      → Given what shelf (input.Got own server m.generation m.fragment)
  AbsenceCame : (packet : Packet) (own server : ℕ) (m : Missing) → Came what packet (body.Missing m)
      → Given what shelf (input.Missing own server m.generation)
  MapsCame : (packet : Packet) (news : News) → Brought what packet news → Given what shelf (input.Maps news.groups)
  TimePassed : Given what shelf input.Tick

-- ---- what a server answers

abbrev pub IsServers : Answer → Type 0
IsServers answers.Done = Unit {0}
IsServers answers.Busy = Unit {0}
IsServers answers.Cut = Unit {0}
IsServers (answers.Rebuilt filled gone) = Unit {0}
IsServers _ = ⊥

-- ---- the moves

pub data Move (first : Node) (what : Do) : Node → Done → Type 0 where
  -- It takes or answers what came, as it stood before the event.
  Stores : (packet : Packet) (m : Store) → Came what packet (body.Store m) → Move first what first (on_store first packet.from m)
  Fetches : (packet : Packet) (m : Fetch) → Came what packet (body.Fetch m) → Move first what first (tells first (on_fetch first packet.from m))
  Fences : (packet : Packet) (m : Fence) → Came what packet (body.Fence m) → Move first what first (on_fence first packet.from m)
  Lists : (packet : Packet) (m : ListAsk) → Came what packet (body.List m) → Move first what first (tells first (on_list first packet.from m))
  Deletes : (packet : Packet) (m : Delete) → Came what packet (body.Delete m) → Move first what first (on_delete first packet.from m)
  -- It takes the maps that came.
  TakesMaps : {node : Node} (packet : Packet) (news : News) → Brought what packet news
      → Move first what node (still (record node { maps = maps_take node.maps news }))
  -- A rebuild begins, over the groups that are known.
  BeginsRebuild : {node : Node} (lists : ℕ) (groups : GroupMapState) → node.maps.groups ≡ Some groups
      → Move first what node
      (still
      (record node { rebuilding = Some (record { rebuild = rebuild_start node.number groups; lists = lists; fetches = record { own = 0; ask = 0 } }) }))
  -- The rebuild takes an input, and what it says is done.
  Rebuilds : {node : Node} (given : In) → Given what node.shelf given → Move first what node (rebuilds node given)
  -- The rebuild is cut.
  CutsRebuild : {node : Node} → Move first what node (still (record node { rebuilding = None }))
  -- The disk is lost, as an item says.
  Loses : {node : Node} (number server : ℕ) → work_at node.items number ≡ Some (work.Lose server) → has_room node.shelf.generation ≡ true
      → Move first what node (still (record node { shelf = lost node.shelf }))
  -- It notes which items are begun and open, which question was drawn last, and which Hello is unanswered.
  Notes : {node : Node} (items : Items) (questions : Questions) (hello : Option ℕ) → items.works ≡ node.items.works
      → Move first what node (still (record node { items = items; questions = questions; hello = hello }))
  -- It answers an item.
  AnswersItem : {node : Node} (number : ℕ) (answer : Answer) → IsServers answer → Move first what node (tells node (Answers number answer ∷ []))
  -- It says Hello.
  Greets : {node : Node} (ask : ℕ) → Move first what node (tells node (hello_of node.shelf ask ∷ []))

-- Any list of moves, oldest first.
pub data Moves (first : Node) (what : Do) : Node → Done → Type 0 where
  Rests : {node : Node} → Moves first what node (still node)
  Last : {node : Node} {d : Done} → Move first what node d → Moves first what node d
  Then : {node : Node} (d e : Done) → Move first what node d → Moves first what d.state e → Moves first what node (saying d.outs e)

-- Each event of a server is a list of moves.
abbrev pub ServerEventsAreMoves : Type 0
ServerEventsAreMoves = (node : Node) (what : Do) → Moves node what node (takes node what)
