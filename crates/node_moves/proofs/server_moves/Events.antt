-- Each event of a storage server is a list of moves: the one walk through all that can happen to it.
use Rattle.std.proofs.Common.{◌≡◌, ℕ, true, ◌==◌, ◌&&◌, [], ◌∷◌, Option, Some, None, refl, ap}
use Rattle.std.specs.Option.{is_some}
use Rattle.fragment_store.specs.Calls.{barred, on_lose as lost}
use Rattle.group_map.specs.GroupMapState.{GroupMapState}
use Rattle.group_rebuild.specs.declared.input.In.TheVariants as input
use Rattle.group_rebuild.specs.RebuildState.{rebuild_start}
use Rattle.node_base.specs.Asking.{draw, next_ask}
use Rattle.node_base.specs.Beginning.{items_answer, answers_unanswered, items_begin, is_left, next_item, items_wait, work_at}
use Rattle.node_base.specs.declared.effects.Effect.TheVariants.{Answer as Answers}
use Rattle.node_base.specs.declared.items.Items.{Items}
use Rattle.node_base.specs.declared.questions.Questions.{Questions}
use Rattle.node_base.specs.Known.{names_known_groups}
use Rattle.node_base.specs.Maps.{fits, is_older, maps_take}
use Rattle.node_base.specs.Room.{has_room}
use Rattle.node_base.specs.Shape.{is_well_formed}
use Rattle.store_nodes.specs.declared.server.Server.{Server as Node}
use Rattle.store_nodes.specs.Rebuilds.{Done, awaits_list, fetch_of, found_for, missing_for, on_found, on_listed, on_missing, rebuilds, server_in}
use Rattle.store_nodes.specs.ServerEvents.{asks_for_maps, at_item, begins_rebuild, hears, hears_known, hello_again, hello_of, is_far_from_ends, on_begin, on_body, on_event, on_lose, on_news, on_packet, on_rebuild, on_tick, on_welcome, on_wish, takes_news, tells, wish_of}
use Rattle.version_model.specs.declared.answer.Answer.{Answer}
use Rattle.version_model.specs.declared.answer.Answer.TheVariants as answers
use Rattle.version_model.specs.declared.work.Work.{Work}
use Rattle.version_model.specs.declared.work.Work.TheVariants as work
use Rattle.wire_msg.specs.declared.body.Body.{Body}
use Rattle.wire_msg.specs.declared.body.Body.TheVariants as body
use Rattle.wire_msg.specs.declared.packet.Do.{Do}
use Rattle.wire_msg.specs.declared.packet.Do.TheVariants.{Begin, Deliver, Tick}
use Rattle.wire_msg.specs.declared.packet.Packet.{Packet}
use Rattle.wire_msg.specs.declared.registry.News.{News}
use Rattle.wire_msg.specs.declared.registry.Welcome.{Welcome}
use Rattle.wire_msg.specs.declared.storage.Found.{Found}
use Rattle.wire_msg.specs.declared.storage.Listed.{Listed}
use Rattle.wire_msg.specs.declared.storage.Missing.{Missing}
use Rattle.xfs_base.proofs.Booleans.{and_first, by_test}
use Rattle.xfs_base.specs.Steps.{saying, still}
use Rattle.node_moves.specs.server_moves.Moves.{Brought, Came, IsServers, Moves, ServerEventsAreMoves, news_in}
use Rattle.node_moves.specs.server_moves.Moves.Given.{AbsenceCame, FragmentCame, ListCame, MapsCame, TimePassed}
use Rattle.node_moves.specs.server_moves.Moves.Move.{AnswersItem, BeginsRebuild, CutsRebuild, Deletes, Fences, Fetches, Greets, Lists, Loses, Notes, Rebuilds, Stores, TakesMaps}
use Rattle.node_moves.specs.server_moves.Moves.Moves.{Last, Rests, Then}

module _ (first : Node) (what : Do) where
  abbrev Goes : Node → Done → Type 0
  Goes node d = Moves first what node d

  -- ---- moves of which nothing is said

  -- other items, questions and Hello
  abbrev noted : Node → Items → Questions → Option ℕ → Node
  noted node items questions hello = record node { items = items; questions = questions; hello = hello }

  notes : (node : Node) (items : Items) (questions : Questions) (hello : Option ℕ) (e : Done) → items.works ≡ node.items.works
      → Goes (noted node items questions hello) e → Goes node e
  notes node items questions hello e same rest = Then (still (noted node items questions hello)) e (Notes items questions hello same) rest

  answers_open : (node : Node) (item : Option ℕ) (answer : Answer) (e : Done) → IsServers answer → Goes node e
      → Goes node (saying (answers_unanswered item answer) e)
  answers_open node None answer e so rest = rest
  answers_open node (Some number) answer e so rest = Then (tells node (Answers number answer ∷ [])) e (AnswersItem number answer so) rest

  -- ---- what comes for a rebuild

  module _ (packet : Packet) (event : what ≡ Deliver packet) where
    came : (said : Body) → packet.body ≡ said → Came what packet said
    came said says = record { event = event; says = says }

    listed : (node : Node) (server : Option ℕ) (m : Listed) → packet.body ≡ body.Listed m → Goes node (on_listed node server m)
    unfolding on_listed
    listed node None m says = Rests
    listed node (Some server) m says =
        by_test (Goes node) (awaits_list node.rebuilding m.ask) (rebuilds node (input.Listed server m.held (barred node.shelf))) (still node)
        (λ t. Last (Rebuilds (input.Listed server m.held (barred node.shelf)) (ListCame packet server m (came (body.Listed m) says)))) (λ t. Rests)

    found_by : (node : Node) (server : ℕ) (m : Found) (own : Option ℕ) → packet.body ≡ body.Fragment m → Goes node (found_for node server m own)
    found_by node server m None says = Rests
    found_by node server m (Some own) says =
        Last (Rebuilds (input.Got own server m.generation m.fragment) (FragmentCame packet own server m (came (body.Fragment m) says)))

    found : (node : Node) (server : Option ℕ) (m : Found) → packet.body ≡ body.Fragment m → Goes node (on_found node server m)
    unfolding on_found
    found node None m says = Rests
    found node (Some server) m says = found_by node server m (fetch_of node.rebuilding m.ask) says

    missing_by : (node : Node) (server : ℕ) (m : Missing) (own : Option ℕ) → packet.body ≡ body.Missing m → Goes node (missing_for node server m own)
    missing_by node server m None says = Rests
    missing_by node server m (Some own) says =
        Last (Rebuilds (input.Missing own server m.generation) (AbsenceCame packet own server m (came (body.Missing m) says)))

    missing : (node : Node) (server : Option ℕ) (m : Missing) → packet.body ≡ body.Missing m → Goes node (on_missing node server m)
    unfolding on_missing
    missing node None m says = Rests
    missing node (Some server) m says = missing_by node server m (fetch_of node.rebuilding m.ask) says

    -- ---- the maps

    news_taken : (node : Node) (news : News) → news_in packet.body ≡ Some news → Goes node (takes_news node news)
    unfolding takes_news
    news_taken node news brings =
        let next : Node = record node { maps = maps_take node.maps news } in
        let brought : Brought what packet news = record { event = event; brings = brings } in
        by_test (Goes node) (is_older node.maps news) (rebuilds next (input.Maps news.groups)) (still node)
        (λ t. Then (still next) (rebuilds next (input.Maps news.groups)) (TakesMaps packet news brought)
        (Last (Rebuilds (input.Maps news.groups) (MapsCame packet news brought))))
        (λ t. Rests)

    news_heard : (node : Node) (news : News) → news_in packet.body ≡ Some news → Goes node (on_news node news)
    news_heard node news brings =
        by_test (Goes node) (fits node.maps news) (takes_news node news) (still node) (λ t. news_taken node news brings) (λ t. Rests)

    welcomed : (node : Node) (m : Welcome) → news_in packet.body ≡ Some m.news → Goes node (on_welcome node m)
    unfolding on_welcome
    welcomed node m brings =
        by_test (Goes node) ((m.inc == node.shelf.generation) && fits node.maps m.news) (takes_news (record node { hello = None }) m.news) (still node)
        (λ t. notes node node.items node.questions None (takes_news (record node { hello = None }) m.news) refl
        (news_taken (record node { hello = None }) m.news brings))
        (λ t. Rests)

    maps_asked : (node : Node) → Goes node (asks_for_maps node)
    unfolding asks_for_maps
    maps_asked node = notes node node.items (draw node.questions) node.hello _ refl (Last (Greets (next_ask node.questions)))

    -- ---- packets

    heard : (said : Body) → packet.body ≡ said → Goes first (hears first packet.from said)
    heard (body.Store m) says = Last (Stores packet m (came (body.Store m) says))
    heard (body.Fetch m) says = Last (Fetches packet m (came (body.Fetch m) says))
    heard (body.Fence m) says = Last (Fences packet m (came (body.Fence m) says))
    heard (body.List m) says = Last (Lists packet m (came (body.List m) says))
    heard (body.Delete m) says = Last (Deletes packet m (came (body.Delete m) says))
    heard (body.Listed m) says = listed first (server_in packet.from) m says
    heard (body.Fragment m) says = found first (server_in packet.from) m says
    heard (body.Missing m) says = missing first (server_in packet.from) m says
    heard _ says = Rests

    heard_known : (said : Body) → packet.body ≡ said → Goes first (hears_known first packet.from said)
    heard_known said says =
        by_test (Goes first) (names_known_groups first.maps said) (hears first packet.from said) (asks_for_maps first) (λ t. heard said says)
        (λ t. maps_asked first)

    body_heard : (said : Body) → packet.body ≡ said → Goes first (on_body first packet.from said)
    body_heard (body.MapNews news) says = news_heard first news (ap news_in says)
    body_heard (body.Welcome m) says = welcomed first m (ap news_in says)
    body_heard said says = heard_known said says

    packet_heard : Goes first (on_packet first packet)
    unfolding on_packet
    packet_heard =
        by_test (Goes first) (is_well_formed first.peers packet) (on_body first packet.from packet.body) (still first) (λ t. body_heard packet.body refl)
        (λ t. Rests)

  -- ---- items

  disk_lost : (node : Node) (number server : ℕ) → work_at node.items number ≡ Some (work.Lose server) → has_room node.shelf.generation ≡ true
      → Goes node (on_lose node number)
  unfolding on_lose
  disk_lost node number server asked room =
      let cut : Node = record node { rebuilding = None } in
      let bare : Node = record cut { shelf = lost node.shelf } in
      let last : Node = noted bare (items_answer node.items) (draw node.questions) (Some (next_ask node.questions)) in
      let greets : Done = tells last (hello_of last.shelf (next_ask node.questions) ∷ []) in
      let says : Done = saying (Answers number answers.Done ∷ []) greets in
      answers_open node node.items.unanswered answers.Cut says tt
      (Then (still cut) says CutsRebuild
      (Then (still bare) says (Loses number server asked room)
      (notes bare (items_answer node.items) (draw node.questions) (Some (next_ask node.questions)) says refl
      (Then (tells last (Answers number answers.Done ∷ [])) greets (AnswersItem number answers.Done tt) (Last (Greets (next_ask node.questions)))))))

  rebuild_begun : (node : Node) (number : ℕ) (groups : Option GroupMapState) → node.maps.groups ≡ groups → Goes node (begins_rebuild node number groups)
  rebuild_begun node number None fact = Rests
  rebuild_begun node number (Some groups) fact =
      let waits : Node = noted node (items_wait node.items number) (draw node.questions) node.hello in
      let begins : Node =
      record waits {
        rebuilding = Some (record { rebuild = rebuild_start node.number groups; lists = next_ask node.questions; fetches = record { own = 0; ask = 0 } });
      } in
      notes node (items_wait node.items number) (draw node.questions) node.hello (rebuilds begins input.Tick) refl
      (Then (still begins) (rebuilds begins input.Tick) (BeginsRebuild (next_ask node.questions) groups fact) (Last (Rebuilds input.Tick TimePassed)))

  rebuild_wished : (node : Node) (number : ℕ) → Goes node (on_rebuild node number)
  unfolding on_rebuild
  rebuild_wished node number =
      by_test (Goes node) (is_some node.items.unanswered) (tells node (Answers number answers.Busy ∷ [])) (begins_rebuild node number node.maps.groups)
      (λ t. Last (AnswersItem number answers.Busy tt)) (λ t. rebuild_begun node number node.maps.groups refl)

  wished : (node : Node) (number : ℕ) (asked : Option Work) → work_at node.items number ≡ asked → has_room node.shelf.generation ≡ true
      → Goes node (on_wish node number (wish_of asked))
  wished node number (Some (work.Lose server)) fact room = disk_lost node number server fact room
  wished node number (Some (work.Rebuild server)) fact room = rebuild_wished node number
  wished node number _ fact room = Rests

  item_begun : (node : Node) (item : Option ℕ) → has_room node.shelf.generation ≡ true → Goes node (at_item node item)
  item_begun node None room = Rests
  item_begun node (Some number) room = wished node number (work_at node.items number) refl room

  same_works : (items : Items) → (items_begin items).works ≡ items.works
  same_works items = by_test (λ (x : Items). x.works ≡ items.works) (is_left items) _ items (λ t. refl) (λ t. refl)

  begins : (node : Node) → has_room node.shelf.generation ≡ true → Goes node (on_begin node)
  unfolding on_begin
  begins node room =
      notes node (items_begin node.items) node.questions node.hello (at_item (record node { items = items_begin node.items }) (next_item node.items))
      (same_works node.items) (item_begun (record node { items = items_begin node.items }) (next_item node.items) room)

  -- ---- all events

  greets_again : (node : Node) (hello : Option ℕ) (e : Done) → Goes node e → Goes node (saying (hello_again node hello) e)
  greets_again node None e rest = rest
  greets_again node (Some ask) e rest = Then (tells node (hello_of node.shelf ask ∷ [])) e (Greets ask) rest

  ticks : (node : Node) → Goes node (on_tick node)
  unfolding on_tick
  ticks node = greets_again node node.hello (rebuilds node input.Tick) (Last (Rebuilds input.Tick TimePassed))

happens : (first : Node) (what : Do) → has_room first.shelf.generation ≡ true → Moves first what first (on_event first what)
happens first Begin room = begins first Begin first room
happens first (Deliver packet) room = packet_heard first (Deliver packet) packet refl
happens first Tick room = ticks first Tick first

pub server_events_are_moves : ServerEventsAreMoves
server_events_are_moves first what =
    by_test (Moves first what first) (is_far_from_ends first) (on_event first what) (still first)
    (λ t. happens first what (and_first (has_room first.shelf.generation) (has_room first.questions.last && has_room first.maps.version) t)) (λ t. Rests)
