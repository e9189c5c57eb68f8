-- What an event makes of a storage server is a run of the small world.
use Rattle.std.proofs.Common.{◌≡◌, ℕ, true, ◌<◌, List, [], ◌∷◌, Option, Some, None, refl, sym, ap, subst, arith}
use Rattle.std.proofs.lemmas.Bool.Decides.{nat_tests}
use Rattle.std.specs.List.{AllByRecursion}
use Rattle.std.specs.Prelude.{IfSome}
use Rattle.xfs_base.proofs.Booleans.{by_test}
use Rattle.xfs_base.specs.declared.node.NodeId.{NodeId}
use Rattle.xfs_base.specs.declared.node.NodeId.TheVariants.{Server}
use Rattle.xfs_base.specs.declared.segment.SegName.{SegName}
use Rattle.xfs_base.specs.declared.setup.Setup.{Setup}
use Rattle.xfs_base.specs.Limits.{u32_end}
use Rattle.xfs_base.specs.Steps.{steps}
use Rattle.xfs_base.proofs.Alls.{all_weaker}
use Rattle.fragment_store.specs.ShelfState.{ShelfState, new_shelf}
use Rattle.group_rebuild.specs.declared.input.In.{In as Input}
use Rattle.group_rebuild.specs.declared.output.Out.{Out}
use Rattle.group_rebuild.specs.declared.output.Out.TheVariants as out
use Rattle.group_rebuild.specs.Transition.{transition}
use Rattle.node_base.specs.declared.items.Items.{Items}
use Rattle.node_base.specs.declared.maps.Maps.{Maps}
use Rattle.node_base.specs.declared.questions.Questions.{Questions}
use Rattle.node_base.specs.Maps.{is_older, maps_take}
use Rattle.node_base.specs.Room.{has_room}
use Rattle.version_model.specs.declared.answer.Answer.TheVariants as answers
use Rattle.version_model.specs.declared.work.Work.{Work}
use Rattle.wire_msg.specs.declared.body.Body.{Body}
use Rattle.wire_msg.specs.declared.body.Body.TheVariants as body
use Rattle.wire_msg.specs.declared.packet.Do.{Do}
use Rattle.wire_msg.specs.declared.packet.Packet.{Packet}
use Rattle.wire_msg.specs.declared.registry.News.{News}
use Rattle.store_nodes.specs.declared.server.Rebuilding.{Rebuilding}
use Rattle.store_nodes.specs.declared.server.Server as nodes
use Rattle.store_nodes.specs.Rebuilds.{Done, ask_list, ask_fragment, says, goes_on, rebuilds}
use Rattle.store_nodes.specs.ServerEvents.{server_start, hello_of, takes}
use Rattle.node_moves.proofs.server_moves.Events.{server_events_are_moves}
use Rattle.node_moves.specs.server_moves.Moves.{Brought, Came, Given, Move, Moves, news_in}
use Rattle.node_moves.specs.server_moves.Moves.Given.{FragmentCame, ListCame, MapsCame}
use Rattle.node_moves.specs.server_moves.Moves.Move.{AnswersItem, BeginsRebuild, CutsRebuild, Deletes, Fences, Fetches, Greets, Lists, Loses, Notes, Rebuilds, Stores, TakesMaps}
use Rattle.node_moves.specs.server_moves.Moves.Moves.{Last, Rests, Then}
use Rattle.log_tie.specs.Setting.{Setting}
use Rattle.log_law.specs.Net.{Net}
use Rattle.node_logs.specs.node_log_tie.Sight.{Asker, BodySeen, PacketSeen}
use Rattle.node_logs.proofs.node_log_tie.Sight.{EffectSeen, Later}
use Rattle.node_logs.specs.node_log_tie.ServerEvents.{NamesStripes, RebuildSeen, ServerSeen, MapsName, ServerOwed, ServerGoes}
use Rattle.node_logs.proofs.node_log_tie.Going.{run_later}
use Rattle.node_logs.proofs.node_log_tie.Lists.{answers_send, packets_all}
use Rattle.node_logs.proofs.node_log_tie.Rebuilding.{OutSeen, filling_later}
use Rattle.node_logs.proofs.node_log_tie.RebuildEvents.{all_listed, RebuildOn, InputSent, rebuild_takes}
use Rattle.node_logs.proofs.node_log_tie.Sights.{at_once, seen_later, then_later}
use Rattle.node_logs.proofs.node_log_tie.Shelving.{Went, went_still, stays, went_then, stores_went, fetches_went, fences_went, lists_went, deletes_went, fills_went, loses_went}

-- ---- a server with other fields

-- where shelf and number are the same, what is seen of maps and rebuild is enough
module _ (g : Setting) (n : Net) (v : ℕ) (node : nodes.Server) (seen : ServerSeen g n v node) where
  with_maps : (m : Maps) → IfSome m.groups (NamesStripes g) → ServerSeen g n v (record node { maps = m })
  with_maps m maps = record { number = seen.number; shelf = seen.shelf; maps = maps; rebuild = seen.rebuild }

module _ (g : Setting) (owner : Asker) (v : ℕ) (some : 0 < v) (other : owner.node ≡ Server v → ⊥) where
  abbrev Goes : Net → Done → Type 0
  Goes n d = Went g owner v n d

  out_later : (n next : Net) → Later n next → (o : Out) → OutSeen g n v o → OutSeen g next v o
  out_later n next later (out.Fill f) h = λ own. filling_later g n next later v f (h own)
  out_later n next later _ h = tt

  -- ---- what a rebuild says

  asked_seen : (n : Net) (r : Option Rebuilding) (server : ℕ) → AllByRecursion (EffectSeen g owner n (Server v)) (ask_list r server)
  asked_seen n None server = tt
  asked_seen n (Some r) server = (tt, tt)

  fetch_went : (n : Net) (node : nodes.Server) (r : Option Rebuilding) (server : ℕ) (name : SegName) (own : ℕ) → ServerSeen g n v node
      → IfSome r (λ (z : Rebuilding). RebuildSeen g n v z.rebuild) → Goes n (ask_fragment node r server name own)
  fetch_went n node None server name own seen rebuild = stays g owner v n node seen
  fetch_went n node (Some r) server name own seen rebuild =
      went_still g owner v n _ _ (record { number = seen.number; shelf = seen.shelf; maps = seen.maps; rebuild = rebuild }) (tt, tt)

  said_went : (n : Net) (node : nodes.Server) (o : Out) → ServerSeen g n v node → OutSeen g n v o → Goes n (says node o)
  unfolding says
  said_went n node (out.List server) seen said = went_still g owner v n node _ seen (asked_seen n node.rebuilding server)
  said_went n node (out.Fetch server name own) seen said = fetch_went n node node.rebuilding server name own seen seen.rebuild
  said_went n node (out.Fill f) seen said = fills_went g owner v some n node seen f said
  said_went n node (out.Finished filled gone) seen said =
      went_still g owner v n _ _ (record { number = seen.number; shelf = seen.shelf; maps = seen.maps; rebuild = tt })
      (answers_send (EffectSeen g owner n (Server v)) (λ item answer. tt) node.items.unanswered (answers.Rebuilt filled gone))

  all_said : (n : Net) (node : nodes.Server) (outs : List Out) → ServerSeen g n v node → AllByRecursion (OutSeen g n v) outs → Goes n (steps says node outs)
  all_said n node [] seen all = stays g owner v n node seen
  all_said n node (o ∷ outs) seen all =
      let w : Goes n (says node o) = said_went n node o seen all.0 in
      went_then g owner v n (says node o) (steps says (says node o).state outs) w
      (all_said w.next (says node o).state outs w.seen
      (all_weaker (OutSeen g n v) (OutSeen g w.next v) (out_later n w.next (run_later g n w.next w.runs)) outs all.1))

  goes_on_went : (n : Net) (node : nodes.Server) (r : Option Rebuilding) (given : Input) → ServerSeen g n v node
      → IfSome r (λ (z : Rebuilding). RebuildSeen g n v z.rebuild)
      → InputSent g n v given → Goes n (goes_on node r given)
  goes_on_went n node None given seen rebuild sent = stays g owner v n node seen
  goes_on_went n node (Some r) given seen rebuild sent =
      let on : RebuildOn g n v (transition r.rebuild given) = rebuild_takes g n v r.rebuild given rebuild sent in
      all_said n (record node { rebuilding = Some (record r { rebuild = (transition r.rebuild given).state }) }) (transition r.rebuild given).outs
      (record { number = seen.number; shelf = seen.shelf; maps = seen.maps; rebuild = on.rebuild }) on.outs

  rebuild_went : (n : Net) (node : nodes.Server) (given : Input) → ServerSeen g n v node → InputSent g n v given → Goes n (rebuilds node given)
  unfolding rebuilds
  rebuild_went n node given seen sent = goes_on_went n node node.rebuilding given seen seen.rebuild sent

  -- a server's Hello is of the generation of its shelf
  hello_seen : (n : Net) (s : ShelfState) (ask : ℕ) → n.shelves v ≡ s → EffectSeen g owner n (Server v) (hello_of s ask)
  hello_seen n s ask fact =
      record { own = λ same. absurd (other (sym same)); reached = (let e = ap (λ (t : ShelfState). t.generation) fact in omega arith) }

  -- maps of which it is known that they name stripes, or none
  taken_name : (maps : Maps) (news : News) → IfSome maps.groups (NamesStripes g) → NamesStripes g news.groups → IfSome (maps_take maps news).groups (NamesStripes g)
  taken_name maps news old new = by_test (λ (m : Maps). IfSome m.groups (NamesStripes g)) (is_older maps news) _ maps (λ t. new) (λ t. old)

  -- a server with other fields, where those that are seen are the same
  noted : (n : Net) (node : nodes.Server) (items : Items) (questions : Questions) (hello : Option ℕ) → ServerSeen g n v node
      → ServerSeen g n v (record node { items = items; questions = questions; hello = hello })
  noted n node items questions hello seen = record { number = seen.number; shelf = seen.shelf; maps = seen.maps; rebuild = seen.rebuild }

  low_of : (generation : ℕ) → has_room generation ≡ true → generation < u32_end
  low_of generation room = grind (arith, nat_tests)

  module _ (start : Net) (maps_name : MapsName g start) (first : nodes.Server) (what : Do) (owed : ServerOwed g owner start v what) where
    -- ---- what came

    body_came : (n : Net) → Later start n → (packet : Packet) (said : Body) → Came what packet said → BodySeen g owner n packet.from (Server v) said
    body_came n later packet said came =
        let it = subst (ServerOwed g owner start v) came.event owed in
        seen_later g owner start n later packet.from (Server v) said
        (subst (BodySeen g owner start packet.from (Server v)) came.says (subst (λ to. BodySeen g owner start packet.from to packet.body) it.0 it.1))

    news_name : (from : NodeId) (said : Body) (news : News) → news_in said ≡ Some news → BodySeen g owner start from (Server v) said
        → NamesStripes g news.groups
    news_name from (body.MapNews m) news fact seen = (let same : m ≡ news = cc in subst (λ (x : News). NamesStripes g x.groups) same (maps_name m.groups seen))
    news_name from (body.Welcome m) news fact seen =
        (let same : m.news ≡ news = cc in subst (λ (x : News). NamesStripes g x.groups) same (maps_name m.news.groups seen.map))
    news_name from _ news fact seen = absurd cc

    maps_came : (packet : Packet) (news : News) → Brought what packet news → NamesStripes g news.groups
    maps_came packet news brought =
        news_name packet.from packet.body news brought.brings
        (body_came start (at_once start) packet packet.body (record { event = brought.event; says = refl }))

    given_sent : (n : Net) → Later start n → (s : ShelfState) (given : Input) → Given what s given → InputSent g n v given
    given_sent n later s given (ListCame packet server m came) = all_listed g n m.held (body_came n later packet (body.Listed m) came)
    given_sent n later s given (FragmentCame packet own server m came) = body_came n later packet (body.Fragment m) came
    given_sent n later s given (MapsCame packet news brought) = maps_came packet news brought
    given_sent n later s given _ = tt

    -- ---- the moves

    move_went : (node : nodes.Server) (d : Done) → Move first what node d → (n : Net) → Later start n → ServerSeen g n v node → Goes n d
    move_went node d (Stores packet m came) n later seen =
        stores_went g owner v some n first seen packet.from m (body_came n later packet (body.Store m) came)
    move_went node d (Fetches packet m came) n later seen = fetches_went g owner v some n first seen packet.from m
    move_went node d (Fences packet m came) n later seen =
        fences_went g owner v some n first seen packet.from m (body_came n later packet (body.Fence m) came)
    move_went node d (Lists packet m came) n later seen = lists_went g owner v some n first seen packet.from m
    move_went node d (Deletes packet m came) n later seen =
        deletes_went g owner v some n first seen packet.from m (body_came n later packet (body.Delete m) came)
    move_went node d (TakesMaps packet news brought) n later seen =
        went_still g owner v n (record node { maps = maps_take node.maps news }) []
        (with_maps g n v node seen (maps_take node.maps news) (taken_name node.maps news seen.maps (maps_came packet news brought))) tt
    move_went node d (BeginsRebuild lists groups fact) n later seen =
        went_still g owner v n _ []
        (record {
          number = seen.number;
          shelf = seen.shelf;
          maps = seen.maps;
          rebuild = record { server = seen.number; groups = subst (λ o. IfSome o (NamesStripes g)) fact seen.maps; listed = tt; reads = tt };
        }) tt
    move_went node d (Rebuilds given came) n later seen = rebuild_went n node given seen (given_sent n later node.shelf given came)
    move_went node d CutsRebuild n later seen =
        went_still g owner v n _ [] (record { number = seen.number; shelf = seen.shelf; maps = seen.maps; rebuild = tt }) tt
    move_went node d (Loses number server asked room) n later seen = loses_went g owner v some n node seen (low_of node.shelf.generation room)
    move_went node d (Notes items questions hello same) n later seen = went_still g owner v n _ [] (noted n node items questions hello seen) tt
    move_went node d (AnswersItem number answer so) n later seen = went_still g owner v n node _ seen (tt, tt)
    move_went node d (Greets ask) n later seen = went_still g owner v n node _ seen (hello_seen n node.shelf ask seen.shelf, tt)

    moves_went : (node : nodes.Server) (d : Done) → Moves first what node d → (n : Net) → Later start n → ServerSeen g n v node → Goes n d
    moves_went node d Rests n later seen = stays g owner v n node seen
    moves_went node d (Last move) n later seen = move_went node d move n later seen
    moves_went node d (Then now e move rest) n later seen =
        let w : Goes n now = move_went node now move n later seen in
        went_then g owner v n now e w (moves_went now.state e rest w.next (then_later start n w.next later (run_later g n w.next w.runs)) w.seen)

  pub server_goes : (n : Net) → MapsName g n → (node : nodes.Server) (what : Do) → ServerSeen g n v node → ServerOwed g owner n v what
      → ServerGoes g owner n v node what
  server_goes n maps_name node what seen owed =
      let w : Goes n (takes node what) =
      moves_went n maps_name node what owed node (takes node what) (server_events_are_moves node what) n (at_once n) seen in
      record {
        next = w.next;
        runs = w.runs;
        seen = w.seen;
        sends =
            packets_all (PacketSeen g owner w.next) (EffectSeen g owner w.next (Server node.number)) (Server node.number) (λ to said does. does)
            (takes node what).outs
            (subst (λ k. AllByRecursion (EffectSeen g owner w.next (Server k)) (takes node what).outs) (sym seen.number) w.does);
        shelves = w.shelves;
        rest = w.rest;
      }

-- at the start
pub server_begins : (g : Setting) (n : Net) (v : ℕ) (setup : Setup) (items : List Work) → n.shelves v ≡ new_shelf
    → IfSome (server_start v setup items).maps.groups (NamesStripes g)
    → ServerSeen g n v (server_start v setup items)
server_begins g n v setup items empty maps = record { number = refl; shelf = empty; maps = maps; rebuild = tt }
