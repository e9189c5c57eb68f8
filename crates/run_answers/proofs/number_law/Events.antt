-- What each event makes of the rebuild of a server, whatever comes to it.
use Rattle.std.proofs.Common.{◌≡◌, ◌<◌, ◌==◌, ◌&&◌, not, cond, ℕ, suc, Bool, true, false, [], ◌∷◌, Option, Some, None, is_some, slice_get, refl, sym, ap, subst, arith}
use Rattle.std.proofs.lemmas.Bool.{eqb-true}
use Rattle.std.specs.List.{AllByRecursion}
use Rattle.std.specs.Ordering.{is_eq}
use Rattle.core_world.specs.declared.any_node.AnyNode.{AnyNode}
use Rattle.core_world.specs.declared.any_node.AnyNode.TheVariants as any
use Rattle.fragment_store.specs.Calls.{barred, on_fence as fenced_at, refusal}
use Rattle.fragment_store.specs.ShelfState.{fence_of}
use Rattle.group_map.specs.GroupMapState.{GroupMapState}
use Rattle.group_rebuild.specs.declared.input.In.TheVariants as input
use Rattle.node_base.specs.Asking.{own_of}
use Rattle.node_base.specs.Beginning.{answers_unanswered, items_begin, next_item, work_at}
use Rattle.node_base.specs.declared.effects.Effect.TheVariants.{Answer as Answers}
use Rattle.node_base.specs.declared.maps.Maps.{Maps}
use Rattle.node_base.specs.declared.questions.Asked.{Asked}
use Rattle.node_base.specs.Known.{names_known_groups}
use Rattle.node_base.specs.Maps.{fits, is_older, maps_take}
use Rattle.node_base.specs.Shape.{is_well_formed}
use Rattle.node_moves.proofs.client_walk.Frames.{all_behind}
use Rattle.store_nodes.specs.declared.server.Rebuilding.{Rebuilding}
use Rattle.store_nodes.specs.declared.server.Server.{Server as Node}
use Rattle.store_nodes.specs.declared.server.Wish.{Wish}
use Rattle.store_nodes.specs.declared.server.Wish.TheVariants.{Lose, Other, Rebuild}
use Rattle.store_nodes.specs.Rebuilds.{Done, awaits_list, fetch_of, found_for, goes_on, missing_for, on_found, on_listed, on_missing, rebuilds, server_in}
use Rattle.store_nodes.specs.ServerEvents.{asks_for_maps, at_item, begins_rebuild, hears, hears_known, hello_again, is_far_from_ends, on_begin, on_body, on_delete, on_event, on_fence, on_lose, on_packet, on_rebuild, on_store, on_tick, on_welcome, on_wish, takes, takes_news, tells, wish_of}
use Rattle.stripe_code.specs.declared.round.Told.TheVariants as told
use Rattle.version_model.specs.declared.answer.Answer.{Answer}
use Rattle.version_model.specs.declared.answer.Answer.TheVariants as answers
use Rattle.wire_msg.specs.declared.body.Body.{Body}
use Rattle.wire_msg.specs.declared.body.Body.TheVariants as body
use Rattle.wire_msg.specs.declared.packet.Do.{Do}
use Rattle.wire_msg.specs.declared.packet.Do.TheVariants as whats
use Rattle.wire_msg.specs.declared.packet.Packet.{Packet}
use Rattle.wire_msg.specs.declared.registry.News.{News}
use Rattle.wire_msg.specs.declared.registry.Welcome.{Welcome}
use Rattle.wire_msg.specs.declared.storage.Fence.{Fence}
use Rattle.wire_msg.specs.declared.storage.Found.{Found}
use Rattle.wire_msg.specs.declared.storage.Listed.{Listed}
use Rattle.wire_msg.specs.declared.storage.Missing.{Missing}
use Rattle.wire_msg.specs.declared.storage.Store.{Store}
use Rattle.world_base.specs.declared.estate.Estate.{Estate}
use Rattle.world_base.specs.declared.event.Event.TheVariants.{Begin, Deliver}
use Rattle.xfs_base.proofs.Alls.{all_append}
use Rattle.xfs_base.proofs.Booleans.{and_second, by_test}
use Rattle.xfs_base.specs.declared.node.NodeId.{NodeId}
use Rattle.xfs_base.specs.declared.node.NodeId.TheVariants as nodes
use Rattle.xfs_base.specs.Segments.{pass_cmp}
use Rattle.xfs_base.specs.Steps.{still}
use Rattle.headline.specs.Moments.{moment, node_named}
use Rattle.headline.specs.Tellings.{HasCome}
use Rattle.headline.specs.Servers.{shelf_at}
use Rattle.run_answers.proofs.number_law.Asking.{Acted, EffectSo, Leads, repeats_lead}
use Rattle.run_answers.proofs.number_law.Running.{NodeSo, SoFar, so_later}
use Rattle.run_answers.proofs.number_law.Taking.{listed, tells as answers_tell}
use Rattle.run_answers.proofs.once_law.Items.{begun_open}

server_is : (node : NodeId) (server : ℕ) → server_in node ≡ Some server → node ≡ nodes.Server server
server_is (nodes.Server n) server fact = cc
server_is (nodes.Client n) server fact = absurd cc
server_is (nodes.Manager n) server fact = absurd cc
server_is nodes.Cleaner server fact = absurd cc
server_is nodes.Registry server fact = absurd cc

-- what answers the rebuild's question is under the number that is out
its_question : (fetches : Asked) (ask own : ℕ) → own_of fetches ask ≡ Some own → ask ≡ fetches.ask
its_question fetches ask own fact = by (not (fetches.own == 0) && (ask == fetches.ask)) refl fact
  where
    by : (t : Bool) → (not (fetches.own == 0) && (ask == fetches.ask)) ≡ t → cond t (Some fetches.own) None ≡ Some own → ask ≡ fetches.ask
    by true is fact = eqb-true ask fetches.ask (and_second (not (fetches.own == 0)) (ask == fetches.ask) is)
    by false is fact = absurd cc

groups_taken : (maps : Maps) (news : News) → is_older maps news ≡ true → (maps_take maps news).groups ≡ Some news.groups
groups_taken maps news newer = ap (λ t. (cond t (record maps { version = news.version; groups = Some news.groups }) maps).groups) newer

module _ (e : Estate AnyNode) (v count : ℕ) where
  abbrev Goes : Done → Type 0
  Goes d = shelf_at (moment e (suc count)) v ≡ Some d.state.shelf → Leads e v count d

  -- it stays so, and no item is answered
  stays : (node : Node) → NodeSo e v (suc count) node → Leads e v count (still node)
  stays node h = λ acted. record { state = h; outs = tt }

  -- ---- time passes

  time_leads : (node : Node) (r : Option Rebuilding) → NodeSo e v (suc count) node → SoFar e v (suc count) node.items.unanswered node.maps.groups r
      → Leads e v count (goes_on node r input.Tick)
  time_leads node None h so = stays node h
  time_leads node (Some r) h so = λ acted. repeats_lead e v count node (record r { rebuild = r.rebuild }) so r.rebuild.reads refl

  tick_leads : (node : Node) → NodeSo e v (suc count) node → Leads e v count (rebuilds node input.Tick)
  unfolding rebuilds
  tick_leads node h = time_leads node node.rebuilding h h

  said_again : (node : Node) (hello : Option ℕ) → AllByRecursion (EffectSo e v count) (hello_again node hello)
  said_again node None = tt
  said_again node (Some ask) = (tt, tt)

  -- ---- newer maps are taken

  module _ (node : Node) (news : News) (h : NodeSo e v (suc count) node) where
    abbrev mapped : Node
    mapped = record node { maps = maps_take node.maps news }

    maps_lead : is_older node.maps news ≡ true → (r : Option Rebuilding) → node.rebuilding ≡ r
        → SoFar e v (suc count) node.items.unanswered node.maps.groups r → Leads e v count (goes_on mapped r (input.Maps news.groups))
    maps_lead newer None same so =
        stays mapped (subst (λ (o : Option Rebuilding). SoFar e v (suc count) node.items.unanswered (maps_take node.maps news).groups o) (sym same) tt)
    maps_lead newer (Some r) same so = λ acted. record {
      state = record {
        item = so.item;
        waits = so.waits;
        begun = so.begun;
        began = so.began;
        since = so.since;
        server = so.server;
        known = groups_taken node.maps news newer;
        reading = so.reading;
      };
      outs = tt;
    }

    news_lead : Leads e v count (takes_news node news)
    unfolding takes_news rebuilds
    news_lead =
        by_test (Leads e v count) (is_older node.maps news) (rebuilds mapped (input.Maps news.groups)) (still node)
        (λ newer. maps_lead newer node.rebuilding refl h) (λ _. stays node h)

  module _ (node : Node) (so : NodeSo e v count node) where
    later : NodeSo e v (suc count) node
    later = so_later e v count node.items.unanswered node.maps.groups node.rebuilding so

    -- ---- an item begins

    module _ (its : node_named (moment e count) (nodes.Server v) ≡ Some (any.Server node)) (number : node.number ≡ v)
        (happens : slice_get e.events count ≡ Some (Begin (nodes.Server v))) where
      abbrev begun : Node
      begun = record node { items = items_begin node.items }

      begun_so : NodeSo e v (suc count) begun
      begun_so = subst (λ (o : Option ℕ). SoFar e v (suc count) o node.maps.groups node.rebuilding) (sym (begun_open node.items)) later

      cut_plain : (o : Option ℕ) (a : Answer) → ((item : ℕ) → EffectSo e v count (Answers item a)) → AllByRecursion (EffectSo e v count) (answers_unanswered o a)
      cut_plain None a each = tt
      cut_plain (Some item) a each = (each item, tt)

      loses : (item : ℕ) → Leads e v count (on_lose begun item)
      unfolding on_lose
      loses item = λ acted. record {
        state = tt;
        outs = all_append (EffectSo e v count) (answers_unanswered begun.items.unanswered answers.Cut) _
            (cut_plain begun.items.unanswered answers.Cut (λ n. tt)) (tt, (tt, tt));
      }

      rebuild_begins : (item : ℕ) → next_item node.items ≡ Some item → (groups : Option GroupMapState) → node.maps.groups ≡ groups
          → Leads e v count (begins_rebuild begun item groups)
      rebuild_begins item next None fact = stays begun begun_so
      rebuild_begins item next (Some groups) fact =
          tick_leads _
          (record {
            item = item;
            waits = refl;
            begun = count;
            began = record { happens = happens; node = any.Server node; its = its; next = next };
            since = omega arith;
            server = number;
            known = fact;
            reading = record { lists = []; come = tt; asked = tt; heard_of = refl; listed_of = refl };
          })

      wished : (item : ℕ) → next_item node.items ≡ Some item → (w : Wish) → Leads e v count (on_wish begun item w)
      unfolding on_rebuild
      wished item next Lose = loses item
      wished item next Rebuild =
          by_test (Leads e v count) (is_some begun.items.unanswered) (tells begun (Answers item answers.Busy ∷ []))
          (begins_rebuild begun item begun.maps.groups) (λ _ acted. record { state = begun_so; outs = (tt, tt) })
          (λ _. rebuild_begins item next node.maps.groups refl)
      wished item next Other = stays begun begun_so

      begins_lead : Leads e v count (on_begin node)
      unfolding on_begin
      begins_lead = by (next_item node.items) refl
        where
          by : (o : Option ℕ) → next_item node.items ≡ o → Leads e v count (at_item begun o)
          by None next = stays begun begun_so
          by (Some item) next = wished item next (wish_of (work_at begun.items item))

    -- ---- a packet comes

    module _ (its : node_named (moment e count) (nodes.Server v) ≡ Some (any.Server node)) (packet : Packet)
        (happens : slice_get e.events count ≡ Some (Deliver packet)) (to_it : packet.to ≡ nodes.Server v) where
      abbrev come : (begun : ℕ) → begun < count → (from : ℕ) → server_in packet.from ≡ Some from → (said : Body) → packet.body ≡ said
          → HasCome e (nodes.Server v) begun (suc count) (nodes.Server from) said
      come begun since from sender said says = record {
        place = count;
        since = since;
        before = omega arith;
        packet = packet;
        happens = happens;
        to_it = to_it;
        from_it = server_is packet.from from sender;
        says = says;
      }

      lists_lead : (from : Option ℕ) (m : Listed) → server_in packet.from ≡ from → packet.body ≡ body.Listed m → Goes (on_listed node from m)
      unfolding on_listed rebuilds
      lists_lead None m sender says at = stays node later
      lists_lead (Some server) m sender says at =
          by_test (Leads e v count) (awaits_list node.rebuilding m.ask) (rebuilds node (input.Listed server m.held (barred node.shelf))) (still node)
          (λ fact. by node.rebuilding refl fact so) (λ _. stays node later)
        where
          by : (r : Option Rebuilding) → node.rebuilding ≡ r → awaits_list r m.ask ≡ true → SoFar e v count node.items.unanswered node.maps.groups r
              → Leads e v count (goes_on node r (input.Listed server m.held (barred node.shelf)))
          by None same fact h = stays node later
          by (Some r) same fact h =
              listed e v count node r h its server m (come h.begun h.since server sender (body.Listed m) says) same (sym (eqb-true r.lists m.ask fact))

      found_lead : (from : Option ℕ) (m : Found) → server_in packet.from ≡ from → packet.body ≡ body.Fragment m → Goes (on_found node from m)
      unfolding on_found rebuilds
      found_lead None m sender says at = stays node later
      found_lead (Some server) m sender says at = by (fetch_of node.rebuilding m.ask) refl at
        where
          with_it : (own : ℕ) (r : Option Rebuilding) → fetch_of r m.ask ≡ Some own → SoFar e v count node.items.unanswered node.maps.groups r
              → Goes (goes_on node r (input.Got own server m.generation m.fragment))
          with_it own None fact h at = stays node later
          with_it own (Some r) fact h at =
              answers_tell e v count node r h server own (told.Held m.fragment)
              (λ name asked. (m, come h.begun h.since server sender (body.Fragment m) says, asked, its_question r.fetches m.ask own fact, refl)) at

          by : (own : Option ℕ) → fetch_of node.rebuilding m.ask ≡ own → Goes (found_for node server m own)
          by None fact at = stays node later
          by (Some own) fact at = with_it own node.rebuilding fact so at

      missing_lead : (from : Option ℕ) (m : Missing) → server_in packet.from ≡ from → packet.body ≡ body.Missing m → Goes (on_missing node from m)
      unfolding on_missing rebuilds
      missing_lead None m sender says at = stays node later
      missing_lead (Some server) m sender says at = by (fetch_of node.rebuilding m.ask) refl at
        where
          with_it : (own : ℕ) (r : Option Rebuilding) → fetch_of r m.ask ≡ Some own → SoFar e v count node.items.unanswered node.maps.groups r
              → Goes (goes_on node r (input.Missing own server m.generation))
          with_it own None fact h at = stays node later
          with_it own (Some r) fact h at =
              answers_tell e v count node r h server own (told.Missing m.generation)
              (λ name asked. (m, come h.begun h.since server sender (body.Missing m) says, asked, its_question r.fetches m.ask own fact, refl)) at

          by : (own : Option ℕ) → fetch_of node.rebuilding m.ask ≡ own → Goes (missing_for node server m own)
          by None fact at = stays node later
          by (Some own) fact at = with_it own node.rebuilding fact so at

      store_leads : (m : Store) → Leads e v count (on_store node packet.from m)
      unfolding on_store
      store_leads m =
          by_test (Leads e v count) (is_some (refusal node.shelf m.fragment.meta.name m.generation)) (still node) _ (λ _. stays node later)
          (λ _ acted. record { state = later; outs = (tt, tt) })

      fence_leads : (m : Fence) → Leads e v count (on_fence node packet.from m)
      unfolding on_fence
      fence_leads m = λ acted. record {
        state = later;
        outs = by_test (AllByRecursion (EffectSo e v count))
            (is_eq (pass_cmp (fence_of (fenced_at node.shelf m.log m.pass).fences m.log) m.pass)) _ [] (λ _. (tt, tt)) (λ _. tt);
      }

      heard : (said : Body) → packet.body ≡ said → Goes (hears node packet.from said)
      unfolding on_delete
      heard (body.Store m) says at = store_leads m
      heard (body.Fetch m) says at = λ acted. record { state = later; outs = (tt, tt) }
      heard (body.Fence m) says at = fence_leads m
      heard (body.List m) says at = λ acted. record { state = later; outs = (tt, tt) }
      heard (body.Delete m) says at = λ acted. record { state = later; outs = (tt, tt) }
      heard (body.Listed m) says at = lists_lead (server_in packet.from) m refl says at
      heard (body.Fragment m) says at = found_lead (server_in packet.from) m refl says at
      heard (body.Missing m) says at = missing_lead (server_in packet.from) m refl says at
      heard _ says at = stays node later

      heard_known : (said : Body) → packet.body ≡ said → Goes (hears_known node packet.from said)
      unfolding asks_for_maps
      heard_known said says =
          by_test Goes (names_known_groups node.maps said) (hears node packet.from said) (asks_for_maps node) (λ _. heard said says)
          (λ _ at acted. record { state = later; outs = (tt, tt) })

      welcomed : (m : Welcome) → Leads e v count (on_welcome node m)
      unfolding on_welcome
      welcomed m =
          by_test (Leads e v count) ((m.inc == node.shelf.generation) && fits node.maps m.news) (takes_news (record node { hello = None }) m.news) (still node)
          (λ _. news_lead (record node { hello = None }) m.news later) (λ _. stays node later)

      body_heard : (said : Body) → packet.body ≡ said → Goes (on_body node packet.from said)
      body_heard (body.MapNews news) says at =
          by_test (Leads e v count) (fits node.maps news) (takes_news node news) (still node) (λ _. news_lead node news later) (λ _. stays node later)
      body_heard (body.Welcome m) says at = welcomed m
      body_heard said says at = heard_known said says at

      packet_leads : Goes (on_packet node packet)
      unfolding on_packet
      packet_leads =
          by_test Goes (is_well_formed node.peers packet) (on_body node packet.from packet.body) (still node) (λ _. body_heard packet.body refl)
          (λ _ at. stays node later)

    -- ---- any event

    tick_goes : Leads e v count (on_tick node)
    unfolding on_tick
    tick_goes = λ acted.
        let h = tick_leads node later (all_behind (Acted e v count) (hello_again node node.hello) (rebuilds node input.Tick).outs acted) in
        record { state = h.state; outs = all_append (EffectSo e v count) (hello_again node node.hello) _ (said_again node node.hello) h.outs }

    module _ (its : node_named (moment e count) (nodes.Server v) ≡ Some (any.Server node)) (number : node.number ≡ v) where
      happens_so : (what : Do) → (what ≡ whats.Begin → slice_get e.events count ≡ Some (Begin (nodes.Server v)))
          → ((packet : Packet) → what ≡ whats.Deliver packet → (slice_get e.events count ≡ Some (Deliver packet)) × (packet.to ≡ nodes.Server v))
          → Goes (on_event node what)
      happens_so whats.Begin begins comes at = begins_lead its number (begins refl)
      happens_so (whats.Deliver packet) begins comes at = packet_leads its packet (comes packet refl).0 (comes packet refl).1 at
      happens_so whats.Tick begins comes at = tick_goes

      pub event_leads : (what : Do) → (what ≡ whats.Begin → slice_get e.events count ≡ Some (Begin (nodes.Server v)))
          → ((packet : Packet) → what ≡ whats.Deliver packet → (slice_get e.events count ≡ Some (Deliver packet)) × (packet.to ≡ nodes.Server v))
          → Goes (takes node what)
      event_leads what begins comes =
          by_test Goes (is_far_from_ends node) (on_event node what) (still node) (λ _. happens_so what begins comes) (λ _ at. stays node later)
