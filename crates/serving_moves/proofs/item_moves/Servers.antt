-- What an event makes of the items of a storage server: while it goes on it answers the open item alone, as a rebuild is over.
use Rattle.std.proofs.Common.{sym, subst, ◌≡◌, ℕ, ◌&&◌, ◌==◌, List, [], ◌∷◌, Option, Some, None, is_some, refl}
use Rattle.std.specs.Ordering.{is_eq}
use Rattle.fragment_store.specs.Calls.{barred, shelf_store, on_fence as fenced_at, on_list as listed_on, refusal}
use Rattle.fragment_store.specs.ShelfState.{ShelfState, fence_of}
use Rattle.group_map.specs.GroupMapState.{GroupMapState}
use Rattle.group_rebuild.specs.declared.input.In.{In}
use Rattle.group_rebuild.specs.declared.input.In.TheVariants as input
use Rattle.group_rebuild.specs.declared.output.Out.{Out}
use Rattle.group_rebuild.specs.declared.output.Out.TheVariants as out
use Rattle.group_rebuild.specs.RebuildState.{rebuild_start}
use Rattle.group_rebuild.specs.Transition.{transition}
use Rattle.node_base.specs.Asking.{draw, next_ask}
use Rattle.node_base.specs.Beginning.{items_begin, next_item, items_wait, work_at}
use Rattle.node_base.specs.declared.effects.Effect.{Effect}
use Rattle.node_base.specs.declared.effects.Effect.TheVariants.{Send, Answer as Answers}
use Rattle.node_base.specs.Known.{names_known_groups}
use Rattle.node_base.specs.Maps.{fits, is_older, maps_take}
use Rattle.node_base.specs.Shape.{is_well_formed}
use Rattle.store_nodes.specs.declared.server.Rebuilding.{Rebuilding}
use Rattle.store_nodes.specs.declared.server.Server.{Server as Node}
use Rattle.store_nodes.specs.Rebuilds as rebuild
use Rattle.store_nodes.specs.Rebuilds.{Done, rebuilds, server_in}
use Rattle.store_nodes.specs.ServerEvents as events
use Rattle.store_nodes.specs.ServerEvents.{of_log, takes, wish_of}
use Rattle.version_model.specs.declared.answer.Answer.TheVariants as answer
use Rattle.wire_msg.specs.declared.body.Body.{Body}
use Rattle.wire_msg.specs.declared.body.Body.TheVariants as body
use Rattle.wire_msg.specs.declared.packet.Do.{Do}
use Rattle.wire_msg.specs.declared.packet.Do.TheVariants.{Begin, Deliver, Tick}
use Rattle.wire_msg.specs.declared.packet.Packet.{Packet}
use Rattle.wire_msg.specs.declared.registry.News.{News}
use Rattle.wire_msg.specs.declared.registry.Welcome.{Welcome}
use Rattle.wire_msg.specs.declared.storage.Fence.{Fence}
use Rattle.wire_msg.specs.declared.storage.Found.{Found}
use Rattle.wire_msg.specs.declared.storage.Listed.{Listed}
use Rattle.wire_msg.specs.declared.storage.Missing.{Missing}
use Rattle.wire_msg.specs.declared.storage.Store.{Store}
use Rattle.xfs_base.proofs.Booleans.{by_test}
use Rattle.xfs_base.specs.declared.node.NodeId.{NodeId}
use Rattle.xfs_base.specs.declared.segment.SegName.{SegName}
use Rattle.xfs_base.specs.Segments.{pass_cmp}
use Rattle.xfs_base.specs.Steps.{steps, still}
use Rattle.node_base.specs.declared.items.Items.{Items}
use Rattle.version_model.specs.declared.work.Work.{Work}
use Rattle.version_model.specs.declared.work.Work.TheVariants as work
use Rattle.serving_moves.proofs.item_moves.Keeping as moving
use Rattle.serving_moves.proofs.item_moves.Keeping.{from_goes, plainly, rests, same, steps_go, then_goes, unmoved}
use Rattle.serving_moves.specs.item_moves.Moves.{AllPlain, IsPrompt, IsRebuilt}
use Rattle.headline.specs.Items.{Falls}
use Rattle.serving_moves.specs.item_moves.Moves.Begun.{AtOnce, Waits}
use Rattle.serving_moves.specs.item_moves.Moves.Event.{Begins, GoesOn, Idles, Cuts}
use Rattle.serving_moves.specs.item_moves.Moves.Move.{Ends}
use Rattle.serving_moves.specs.item_moves.Moves.Moves.{Last}
use Rattle.serving_moves.specs.item_moves.Moves.Losses.{Silent}

abbrev pub items_of : Node → Items
items_of v = v.items

abbrev pub number_of : Node → ℕ
number_of v = v.number

abbrev pub Goes : Node → Done → Type 0
Goes v d = moving.Goes Silent IsRebuilt Node items_of number_of v d

-- ---- the rebuild

lists_plain : (r : Option Rebuilding) (server : ℕ) → AllPlain Silent (rebuild.ask_list r server)
lists_plain None server = tt
lists_plain (Some r) server = (tt, tt)

fetch_goes : (v : Node) (r : Option Rebuilding) (server : ℕ) (name : SegName) (own : ℕ) → Goes v (rebuild.ask_fragment v r server name own)
fetch_goes v None server name own = rests v
fetch_goes v (Some r) server name own = plainly v _ refl (same v.items) (tt, tt)

says_go : (v : Node) (o : Out) → Goes v (rebuild.says v o)
unfolding rebuild.says
says_go v (out.List server) = plainly v _ refl (same v.items) (lists_plain v.rebuilding server)
says_go v (out.Fetch server name own) = fetch_goes v v.rebuilding server name own
says_go v (out.Fill fragment) = plainly v _ refl (same v.items) tt
says_go v (out.Finished filled gone) = record { its_number = refl; moves = Last (Ends (answer.Rebuilt filled gone) tt) }

on_goes : (v : Node) (r : Option Rebuilding) (given : In) → Goes v (rebuild.goes_on v r given)
on_goes v None given = rests v
on_goes v (Some r) given =
    let w : Node = record v { rebuilding = Some (record r { rebuild = (transition r.rebuild given).state }) } in
    from_goes v w (steps rebuild.says w (transition r.rebuild given).outs) refl (same v.items) (steps_go rebuild.says says_go w (transition r.rebuild given).outs)

pub rebuilds_go : (v : Node) (given : In) → Goes v (rebuilds v given)
unfolding rebuilds
rebuilds_go v given = on_goes v v.rebuilding given

listed_goes : (v : Node) (server : Option ℕ) (listed : Listed) → Goes v (rebuild.on_listed v server listed)
unfolding rebuild.on_listed
listed_goes v None listed = rests v
listed_goes v (Some server) listed =
    by_test (Goes v) (rebuild.awaits_list v.rebuilding listed.ask) (rebuilds v (input.Listed server listed.held (barred v.shelf))) (still v)
    (λ _. rebuilds_go v (input.Listed server listed.held (barred v.shelf))) (λ _. rests v)

found_for_goes : (v : Node) (server : ℕ) (found : Found) (own : Option ℕ) → Goes v (rebuild.found_for v server found own)
found_for_goes v server found None = rests v
found_for_goes v server found (Some own) = rebuilds_go v (input.Got own server found.generation found.fragment)

found_goes : (v : Node) (server : Option ℕ) (found : Found) → Goes v (rebuild.on_found v server found)
unfolding rebuild.on_found
found_goes v None found = rests v
found_goes v (Some server) found = found_for_goes v server found (rebuild.fetch_of v.rebuilding found.ask)

missing_for_goes : (v : Node) (server : ℕ) (missing : Missing) (own : Option ℕ) → Goes v (rebuild.missing_for v server missing own)
missing_for_goes v server missing None = rests v
missing_for_goes v server missing (Some own) = rebuilds_go v (input.Missing own server missing.generation)

missing_goes : (v : Node) (server : Option ℕ) (missing : Missing) → Goes v (rebuild.on_missing v server missing)
unfolding rebuild.on_missing
missing_goes v None missing = rests v
missing_goes v (Some server) missing = missing_for_goes v server missing (rebuild.fetch_of v.rebuilding missing.ask)

-- ---- packets

store_goes : (v : Node) (from : NodeId) (store : Store) → Goes v (events.on_store v from store)
unfolding events.on_store
store_goes v from store =
    let stored : List Effect =
    Send from (body.Stored (record { name = store.fragment.meta.name; index = store.fragment.meta.index; generation = store.generation })) ∷ [] in
    let d : Done = record { state = record v { shelf = shelf_store v.shelf store.fragment }; outs = stored } in
    by_test (Goes v) (is_some (refusal v.shelf store.fragment.meta.name store.generation)) (still v) d (λ _. rests v)
    (λ _. plainly v d refl (same v.items) (tt, tt))

fence_plain : (from : NodeId) (fence : Fence) (s : ShelfState) → AllPlain Silent (events.fence_told from fence s)
fence_plain from fence s =
    let told : List Effect =
    Send from (body.Fenced (record { log = fence.log; pass = fence.pass; generation = s.generation; held = of_log fence.log (listed_on s) })) ∷ [] in
    by_test (AllPlain Silent) (is_eq (pass_cmp (fence_of s.fences fence.log) fence.pass)) told [] (λ _. (tt, tt)) (λ _. tt)

news_go : (v : Node) (news : News) → Goes v (events.takes_news v news)
unfolding events.takes_news
news_go v news =
    let w : Node = record v { maps = maps_take v.maps news } in
    by_test (Goes v) (is_older v.maps news) (rebuilds w (input.Maps news.groups)) (still v)
    (λ _. from_goes v w (rebuilds w (input.Maps news.groups)) refl (same v.items) (rebuilds_go w (input.Maps news.groups))) (λ _. rests v)

fitting_go : (v : Node) (news : News) → Goes v (events.on_news v news)
fitting_go v news = by_test (Goes v) (fits v.maps news) (events.takes_news v news) (still v) (λ _. news_go v news) (λ _. rests v)

welcome_goes : (v : Node) (w : Welcome) → Goes v (events.on_welcome v w)
unfolding events.on_welcome
welcome_goes v w =
    let u : Node = record v { hello = None } in
    by_test (Goes v) ((w.inc == v.shelf.generation) && fits v.maps w.news) (events.takes_news u w.news) (still v)
    (λ _. from_goes v u (events.takes_news u w.news) refl (same v.items) (news_go u w.news)) (λ _. rests v)

hears_go : (v : Node) (from : NodeId) (b : Body) → Goes v (events.hears v from b)
unfolding events.on_fence events.on_delete
hears_go v from (body.Store store) = store_goes v from store
hears_go v from (body.Fetch fetch) = plainly v _ refl (same v.items) (tt, tt)
hears_go v from (body.Fence fence) = plainly v _ refl (same v.items) (fence_plain from fence (fenced_at v.shelf fence.log fence.pass))
hears_go v from (body.List list) = plainly v _ refl (same v.items) (tt, tt)
hears_go v from (body.Delete delete) = plainly v _ refl (same v.items) (tt, tt)
hears_go v from (body.Listed listed) = listed_goes v (server_in from) listed
hears_go v from (body.Fragment found) = found_goes v (server_in from) found
hears_go v from (body.Missing missing) = missing_goes v (server_in from) missing
hears_go v from _ = rests v

known_go : (v : Node) (from : NodeId) (b : Body) → Goes v (events.hears_known v from b)
unfolding events.asks_for_maps
known_go v from b =
    by_test (Goes v) (names_known_groups v.maps b) (events.hears v from b) (events.asks_for_maps v) (λ _. hears_go v from b)
    (λ _. plainly v _ refl (same v.items) (tt, tt))

body_goes : (v : Node) (from : NodeId) (b : Body) → Goes v (events.on_body v from b)
body_goes v from (body.MapNews news) = fitting_go v news
body_goes v from (body.Welcome welcome) = welcome_goes v welcome
body_goes v from b = known_go v from b

pub packet_goes : (v : Node) (packet : Packet) → Goes v (events.on_packet v packet)
unfolding events.on_packet
packet_goes v packet =
    by_test (Goes v) (is_well_formed v.peers packet) (events.on_body v packet.from packet.body) (still v) (λ _. body_goes v packet.from packet.body)
    (λ _. rests v)

hello_plain : (v : Node) (o : Option ℕ) → AllPlain Silent (events.hello_again v o)
hello_plain v None = tt
hello_plain v (Some ask) = (tt, tt)

pub tick_goes : (v : Node) → Goes v (events.on_tick v)
unfolding events.on_tick
tick_goes v =
    let said : List Effect = events.hello_again v v.hello in
    then_goes v (record { state = v; outs = said }) (rebuilds v input.Tick) (plainly v _ refl (same v.items) (hello_plain v v.hello)) (rebuilds_go v input.Tick)

-- ---- items

-- what an event makes of a server
abbrev pub Turned : Do → Node → Done → Type 0
Turned what v d = moving.Turned Silent IsRebuilt IsPrompt Node items_of number_of what v d

turned : (v : Node) (what : Do) (d : Done) → Goes v d → Turned what v d
turned v what d g = record { its_number = g.its_number; event = GoesOn g.moves }

module _ (v : Node) (number : ℕ) (its : next_item v.items ≡ Some number) where
  abbrev w : Node
  w = record v { items = items_begin v.items }

  -- an item that neither is answered nor waits
  idle : Turned Begin v (still w)
  idle = record { its_number = refl; event = Idles refl }

  lose_so : Falls (work_at w.items number) → Turned Begin v (events.on_lose w number)
  unfolding events.on_lose
  lose_so falls = record { its_number = refl; event = Cuts number [] _ refl its falls tt (tt, tt) }

  rebuild_so : (groups : Option GroupMapState) → Turned Begin v (events.begins_rebuild w number groups)
  rebuild_so None = idle
  rebuild_so (Some groups) =
      let u : Node = record w {
        items = items_wait w.items number;
        questions = draw w.questions;
        rebuilding = Some (record { rebuild = rebuild_start w.number groups; lists = next_ask w.questions; fetches = record { own = 0; ask = 0 } });
      } in
      let g : Goes u (rebuilds u input.Tick) = rebuilds_go u input.Tick in
      record { its_number = g.its_number; event = Begins number refl its (Waits g.moves) }

  wish_so : (asked : Option Work) → work_at w.items number ≡ asked → Turned Begin v (events.on_wish w number (wish_of asked))
  unfolding events.on_rebuild
  wish_so None e = idle
  wish_so (Some (work.Lose server)) e = lose_so (subst Falls (sym e) tt)
  wish_so (Some (work.Rebuild server)) e =
      by_test (Turned Begin v) (is_some w.items.unanswered) (events.tells w (Answers number answer.Busy ∷ [])) (events.begins_rebuild w number w.maps.groups)
      (λ _. record { its_number = refl; event = Begins number refl its (AtOnce answer.Busy [] [] tt tt tt) }) (λ _. rebuild_so w.maps.groups)
  wish_so (Some _) e = idle

begin_so : (v : Node) → Turned Begin v (events.on_begin v)
unfolding events.on_begin
begin_so v = by (next_item v.items) refl
  where
    by : (item : Option ℕ) → next_item v.items ≡ item → Turned Begin v (events.at_item (record v { items = items_begin v.items }) item)
    by None fact = record { its_number = refl; event = Idles refl }
    by (Some number) fact = wish_so v number fact (work_at (items_begin v.items) number) refl

-- ---- all events

event_so : (v : Node) (what : Do) → Turned what v (events.on_event v what)
event_so v Begin = begin_so v
event_so v (Deliver packet) = turned v (Deliver packet) (events.on_packet v packet) (packet_goes v packet)
event_so v Tick = turned v Tick (events.on_tick v) (tick_goes v)

pub server_turned : (v : Node) (what : Do) → Turned what v (takes v what)
server_turned v what =
    by_test (Turned what v) (events.is_far_from_ends v) (events.on_event v what) (still v) (λ _. event_so v what) (λ _. unmoved what v)
