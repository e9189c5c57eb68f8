-- Each event of a storage server leaves its shelf as it was, or as one call makes it: the one walk through all that can happen to it.
use Rattle.std.proofs.Common.{◌≡◌, ℕ, true, false, ◌==◌, ◌&&◌, Option, Some, None, is_some, refl, sym, ap, ◌∙◌}
use Rattle.disk_shelf.specs.declared.ask.Ask.TheVariants as asks
use Rattle.fragment_store.specs.Calls.{barred, on_lose as lost, refusal}
use Rattle.fragment_store.specs.declared.store_error.StoreError.{StoreError}
use Rattle.fragment_store.specs.ShelfState.{ShelfState}
use Rattle.group_map.specs.GroupMapState.{GroupMapState}
use Rattle.group_rebuild.specs.declared.input.In.TheVariants as input
use Rattle.node_base.specs.Beginning.{items_begin, next_item, work_at}
use Rattle.node_base.specs.Known.{names_known_groups}
use Rattle.node_base.specs.Maps.{fits, is_older, maps_take}
use Rattle.node_base.specs.Room.{has_room}
use Rattle.node_base.specs.Shape.{is_well_formed}
use Rattle.node_moves.specs.server_moves.Moves.{Came}
use Rattle.store_nodes.specs.declared.server.Server.{Server as Node}
use Rattle.store_nodes.specs.Rebuilds.{Done, awaits_list, fetch_of, found_for, missing_for, on_found, on_listed, on_missing, rebuilds, server_in}
use Rattle.store_nodes.specs.ServerEvents.{asks_for_maps, at_item, begins_rebuild, hears, hears_known, is_far_from_ends, on_begin, on_body, on_delete, on_event, on_fence, on_lose, on_news, on_packet, on_rebuild, on_store, on_tick, on_welcome, on_wish, takes_news, tells, wish_of}
use Rattle.version_model.specs.declared.work.Work.{Work}
use Rattle.version_model.specs.declared.work.Work.TheVariants as work
use Rattle.wire_msg.specs.declared.body.Body.{Body}
use Rattle.wire_msg.specs.declared.body.Body.TheVariants as body
use Rattle.wire_msg.specs.declared.packet.Do.{Do}
use Rattle.wire_msg.specs.declared.packet.Do.TheVariants.{Begin, Deliver, Tick}
use Rattle.wire_msg.specs.declared.packet.Packet.{Packet}
use Rattle.wire_msg.specs.declared.registry.News.{News}
use Rattle.wire_msg.specs.declared.registry.Welcome.{Welcome}
use Rattle.wire_msg.specs.declared.storage.Found.{Found}
use Rattle.wire_msg.specs.declared.storage.Listed.{Listed}
use Rattle.wire_msg.specs.declared.storage.Missing.{Missing}
use Rattle.wire_msg.specs.declared.storage.Store.{Store}
use Rattle.xfs_base.proofs.Booleans.{and_first, by_test, contrary}
use Rattle.xfs_base.specs.Steps.{still}
use Rattle.shelf_changes.proofs.Rebuilding.{Filled, rebuild_fills_one, rebuild_keeps_shelf}
use Rattle.shelf_changes.proofs.Rebuilding.Filled.{Nothing, One}
use Rattle.shelf_changes.specs.Changes.{ChangesByOne, EventsChangeByOne}
use Rattle.shelf_changes.specs.Changes.ChangesByOne.{Calls, Rests}
use Rattle.shelf_changes.specs.Changes.MayMake.{Deletes, Fences, FillsByAbsence, FillsByFragment, Loses, Stores}

-- no refusal, where there is none
none_refused : (o : Option StoreError) → is_some o ≡ false → o ≡ None
none_refused None e = refl
none_refused (Some r) e = contrary (sym e)

module _ (what : Do) where
  abbrev Goes : ShelfState → Done → Type 0
  Goes s d = ChangesByOne what s d.state.shelf

  -- ---- what comes for a rebuild

  module _ (packet : Packet) (event : what ≡ Deliver packet) (first : Node) where
    came : (said : Body) → packet.body ≡ said → Came what packet said
    came said says = record { event = event; says = says }

    filled_by_fragment : (m : Found) (new : ShelfState) → packet.body ≡ body.Fragment m → Filled first.shelf new → ChangesByOne what first.shelf new
    filled_by_fragment m new says (Nothing same) = Rests same
    filled_by_fragment m new says (One f is) = Calls (asks.Fill f) (FillsByFragment packet m f (came (body.Fragment m) says)) is

    filled_by_absence : (m : Missing) (new : ShelfState) → packet.body ≡ body.Missing m → Filled first.shelf new → ChangesByOne what first.shelf new
    filled_by_absence m new says (Nothing same) = Rests same
    filled_by_absence m new says (One f is) = Calls (asks.Fill f) (FillsByAbsence packet m f (came (body.Missing m) says)) is

    listed : (server : Option ℕ) (m : Listed) → Goes first.shelf (on_listed first server m)
    unfolding on_listed
    listed None m = Rests refl
    listed (Some server) m =
        by_test (Goes first.shelf) (awaits_list first.rebuilding m.ask) (rebuilds first (input.Listed server m.held (barred first.shelf))) (still first)
        (λ t. Rests (rebuild_keeps_shelf first (input.Listed server m.held (barred first.shelf)) (λ told. told))) (λ t. Rests refl)

    found_by : (server : ℕ) (m : Found) (own : Option ℕ) → packet.body ≡ body.Fragment m → Goes first.shelf (found_for first server m own)
    found_by server m None says = Rests refl
    found_by server m (Some own) says =
        filled_by_fragment m _ says (rebuild_fills_one first (input.Got own server m.generation m.fragment))

    found : (server : Option ℕ) (m : Found) → packet.body ≡ body.Fragment m → Goes first.shelf (on_found first server m)
    unfolding on_found
    found None m says = Rests refl
    found (Some server) m says = found_by server m (fetch_of first.rebuilding m.ask) says

    missing_by : (server : ℕ) (m : Missing) (own : Option ℕ) → packet.body ≡ body.Missing m → Goes first.shelf (missing_for first server m own)
    missing_by server m None says = Rests refl
    missing_by server m (Some own) says = filled_by_absence m _ says (rebuild_fills_one first (input.Missing own server m.generation))

    missing : (server : Option ℕ) (m : Missing) → packet.body ≡ body.Missing m → Goes first.shelf (on_missing first server m)
    unfolding on_missing
    missing None m says = Rests refl
    missing (Some server) m says = missing_by server m (fetch_of first.rebuilding m.ask) says

    -- ---- the maps

    news_taken : (node : Node) (news : News) → node.shelf ≡ first.shelf → Goes first.shelf (takes_news node news)
    unfolding takes_news
    news_taken node news same =
        let next : Node = record node { maps = maps_take node.maps news } in
        by_test (Goes first.shelf) (is_older node.maps news) (rebuilds next (input.Maps news.groups)) (still node)
        (λ t. Rests (rebuild_keeps_shelf next (input.Maps news.groups) (λ told. told) ∙ same)) (λ t. Rests same)

    news_heard : (news : News) → Goes first.shelf (on_news first news)
    news_heard news = by_test (Goes first.shelf) (fits first.maps news) (takes_news first news) (still first) (λ t. news_taken first news refl) (λ t. Rests refl)

    welcomed : (m : Welcome) → Goes first.shelf (on_welcome first m)
    unfolding on_welcome
    welcomed m =
        by_test (Goes first.shelf) ((m.inc == first.shelf.generation) && fits first.maps m.news) (takes_news (record first { hello = None }) m.news)
        (still first) (λ t. news_taken (record first { hello = None }) m.news refl) (λ t. Rests refl)

    maps_asked : Goes first.shelf (asks_for_maps first)
    unfolding asks_for_maps
    maps_asked = Rests refl

    -- ---- packets

    stored : (m : Store) → packet.body ≡ body.Store m → Goes first.shelf (on_store first packet.from m)
    unfolding on_store
    stored m says =
        by_test (Goes first.shelf) (is_some (refusal first.shelf m.fragment.meta.name m.generation)) (still first) _ (λ t. Rests refl)
        (λ t. Calls (asks.Store m.fragment m.generation) (Stores packet m (came (body.Store m) says) (none_refused _ t)) refl)

    heard : (said : Body) → packet.body ≡ said → Goes first.shelf (hears first packet.from said)
    unfolding on_fence on_delete
    heard (body.Store m) says = stored m says
    heard (body.Fetch m) says = Rests refl
    heard (body.Fence m) says = Calls (asks.Fence m.log m.pass) (Fences packet m (came (body.Fence m) says)) refl
    heard (body.List m) says = Rests refl
    heard (body.Delete m) says = Calls (asks.Delete m.name) (Deletes packet m (came (body.Delete m) says)) refl
    heard (body.Listed m) says = listed (server_in packet.from) m
    heard (body.Fragment m) says = found (server_in packet.from) m says
    heard (body.Missing m) says = missing (server_in packet.from) m says
    heard _ says = Rests refl

    heard_known : (said : Body) → packet.body ≡ said → Goes first.shelf (hears_known first packet.from said)
    heard_known said says =
        by_test (Goes first.shelf) (names_known_groups first.maps said) (hears first packet.from said) (asks_for_maps first) (λ t. heard said says) (λ t. maps_asked)

    body_heard : (said : Body) → packet.body ≡ said → Goes first.shelf (on_body first packet.from said)
    body_heard (body.MapNews news) says = news_heard news
    body_heard (body.Welcome m) says = welcomed m
    body_heard said says = heard_known said says

    packet_heard : Goes first.shelf (on_packet first packet)
    unfolding on_packet
    packet_heard =
        by_test (Goes first.shelf) (is_well_formed first.peers packet) (on_body first packet.from packet.body) (still first)
        (λ t. body_heard packet.body refl) (λ t. Rests refl)

  -- ---- items

  rebuild_begun : (s : ShelfState) (node : Node) (number : ℕ) (groups : Option GroupMapState) → node.shelf ≡ s → Goes s (begins_rebuild node number groups)
  rebuild_begun s node number None same = Rests same
  rebuild_begun s node number (Some groups) same = Rests (rebuild_keeps_shelf _ input.Tick (λ told. told) ∙ same)

  rebuild_wished : (s : ShelfState) (node : Node) (number : ℕ) → node.shelf ≡ s → Goes s (on_rebuild node number)
  unfolding on_rebuild
  rebuild_wished s node number same =
      by_test (Goes s) (is_some node.items.unanswered) (tells node _) (begins_rebuild node number node.maps.groups) (λ t. Rests same)
      (λ t. rebuild_begun s node number node.maps.groups same)

  module _ (event : what ≡ Begin) (first : Node) (room : has_room first.shelf.generation ≡ true) where
    wished : (node : Node) (number : ℕ) (asked : Option Work) → node.shelf ≡ first.shelf → Goes first.shelf (on_wish node number (wish_of asked))
    unfolding on_lose
    wished node number (Some (work.Lose server)) same = Calls asks.Lose (Loses event room) (ap lost same)
    wished node number (Some (work.Rebuild server)) same = rebuild_wished first.shelf node number same
    wished node number _ same = Rests same

    item_begun : (node : Node) (item : Option ℕ) → node.shelf ≡ first.shelf → Goes first.shelf (at_item node item)
    item_begun node None same = Rests same
    item_begun node (Some number) same = wished node number (work_at node.items number) same

    begins : Goes first.shelf (on_begin first)
    unfolding on_begin
    begins = item_begun (record first { items = items_begin first.items }) (next_item first.items) refl

  -- ---- all events

  ticks : (first : Node) → Goes first.shelf (on_tick first)
  unfolding on_tick
  ticks first = Rests (rebuild_keeps_shelf first input.Tick (λ told. told))

happens : (first : Node) (what : Do) → has_room first.shelf.generation ≡ true → ChangesByOne what first.shelf (on_event first what).state.shelf
happens first Begin room = begins Begin refl first room
happens first (Deliver packet) room = packet_heard (Deliver packet) packet refl first
happens first Tick room = ticks Tick first

pub events_change_by_one : EventsChangeByOne
events_change_by_one first what =
    by_test (λ (d : Done). ChangesByOne what first.shelf d.state.shelf) (is_far_from_ends first) (on_event first what) (still first)
    (λ t. happens first what (and_first (has_room first.shelf.generation) (has_room first.questions.last && has_room first.maps.version) t))
    (λ t. Rests refl)
