-- What is known of a client at each count of every run: of the maps of groups that it has, and of what its open call reads.
use Rattle.std.proofs.Common.{◌≡◌, ◌⊎◌, ℕ, suc, ◌+◌, ◌≤◌, false, true, List, ◌++◌, Option, Some, None, is_none, is_some, map, slice_get, refl, sym, ap, subst, ◌∙◌, inl, inr}
use Rattle.xfs_base.proofs.Booleans.{contrary}
use Rattle.xfs_base.specs.Blocks.{slot_of}
use Rattle.xfs_base.specs.declared.block.BlockId.{BlockId}
use Rattle.node_slots.specs.client_law.Maps.{BringsMaps, DoBrings}
use Rattle.client_node.specs.declared.client.Client.{Client}
use Rattle.client_node.specs.declared.phase.Phase.{Phase}
use Rattle.client_node.specs.declared.phase.Phase.TheVariants.{Down, Opening, Serving as Serves}
use Rattle.client_node.specs.Phases.{client_step, lasting_of, takes}
use Rattle.client_node.specs.Starting.{client_start}
use Rattle.client_call.specs.Reads.{reading_in}
use Rattle.client_serving.specs.declared.serving.Serving.{Serving}
use Rattle.core_world.specs.AnyNode.{any_start, any_step}
use Rattle.core_world.specs.declared.any_node.AnyNode.{AnyNode}
use Rattle.core_world.specs.declared.any_node.AnyNode.TheVariants as any
use Rattle.group_map.specs.GroupMapState.{GroupMapState}
use Rattle.group_map.specs.Groups.{known_group as group_in, group_map_start}
use Rattle.log_law.specs.Net.Packet.{MapSent}
use Rattle.log_protocol.specs.Tables as tables
use Rattle.log_tie.specs.Setting.{Setting, stripe_of_group}
use Rattle.node_base.specs.declared.effects.Effect.{Effect}
use Rattle.node_base.specs.Effects.{packets_of}
use Rattle.node_logs.specs.node_log_tie.Sight.{BodySeen}
use Rattle.node_slots.proofs.node_tie.StoreFrames.{packets_do}
use Rattle.segment_reading.specs.Reading.{ReadingState}
use Rattle.token_client.specs.State.{TokensState, epoch_of}
use Rattle.token_protocol.specs.Basics.{In}
use Rattle.wire_msg.specs.declared.body.Body.{Body}
use Rattle.wire_msg.specs.declared.body.Body.TheVariants as body
use Rattle.wire_msg.specs.declared.packet.Do.{Do}
use Rattle.wire_msg.specs.declared.packet.Do.TheVariants.{Begin, Deliver, Tick}
use Rattle.wire_msg.specs.declared.packet.Packet.{Packet}
use Rattle.wire_msg.specs.declared.storage.Missing.{Missing}
use Rattle.wire_msg.specs.declared.tokens.Grant.{Grant}
use Rattle.world_base.specs.Cluster.{cluster_of, place_of}
use Rattle.world_base.specs.declared.cluster.Cluster.{Cluster}
use Rattle.world_base.specs.declared.estate.Estate.{Estate}
use Rattle.world_base.specs.declared.event.Event.{Event}
use Rattle.world_base.specs.Events.{node_of, what_of}
use Rattle.world_base.specs.Items.{items_of}
use Rattle.world_base.specs.NextWorld.{sent_at, start_world}
use Rattle.world_base.specs.Runs.{IsRun}
use Rattle.run_laws.proofs.world_law.Sent.{at_clock}
use Rattle.run_laws.proofs.world_law.Start.{first_stands}
use Rattle.headline.specs.Moments.{moment, node_in, node_named}
use Rattle.headline.specs.Owners.{tokens_at, tokens_in, tokens_of}
use Rattle.run_laws.proofs.world_logs.Groups.{GroupsStay, Names, in_run}
use Rattle.run_laws.specs.world_logs.Lines.{HasLines, setting}
use Rattle.run_laws.specs.world_logs.Roles.{asker_by}
use Rattle.headline.specs.Logs.{IsThere}
use Rattle.headline.specs.Logs.Role.{OfClient}
use Rattle.run_laws.specs.world_logs.Settings.{stripe_by}
use Rattle.headline.specs.Servers.{group_at, groups_of}
use Rattle.run_laws.specs.world_logs.Standing.{ClientThere}
use Rattle.xfs_base.specs.declared.node.NodeId.{NodeId}
use Rattle.xfs_base.specs.declared.node.NodeId.TheVariants as nodes
use Rattle.run_losses.specs.missing_law.Missed.{Answers, FetchesDrawn, last_at, last_in}
use Rattle.run_losses.proofs.missing_law.Readings.{AsksOf}
use Rattle.run_losses.proofs.torn_law.ClientCounts.{fetches_drawn, last_rises}
use Rattle.run_losses.proofs.torn_law.Counts.{TurnAt, may_happen}
use Rattle.run_losses.proofs.torn_law.Drawn.{last_of}
use Rattle.run_losses.proofs.torn_law.Events.{base_at}
use Rattle.run_losses.proofs.torn_law.Turns.{brought}
use Rattle.headline.specs.Reads.{serving_at, serving_in, serving_of, what_is_read}
use Rattle.run_losses.proofs.fetching_law.Maps.{ComesWell, ServesWell, StandsWell, comes_well, stands_first, stands_on}
use Rattle.run_losses.proofs.fetching_law.Phases.{After, event_serves}
use Rattle.run_losses.proofs.fetching_law.Truths.{AllReads, IsNamed, Reads, aside, comes_so}
use Rattle.run_losses.proofs.fetching_law.Turning.{AllSay, Says, Sends, Turns}
use Rattle.run_losses.proofs.torn_law.Course as course
use Rattle.run_losses.proofs.torn_law.Course.{each_good, first_here}

-- what is sent bears what is said
sends_of : (s : Serving) (what : Do) (o : Option ReadingState) (own : NodeId) (clock : ℕ) (outs : List Effect) → AllSay s what o outs → (p : Packet)
    → In p (map (sent_at clock) (packets_of own outs)) → Sends s what o p.body
sends_of s what o own clock outs all p late =
    at_clock clock (λ (q : Packet). Sends s what o q.body) (λ (q : Packet). Sends s what o q.body) (λ q h. h) (packets_of own outs)
    (packets_do (λ (q : Packet). Sends s what o q.body) (Says s what o) own (λ to said so. so) outs all) p late

one_client : (x y : Client) → Some (any.Client x) ≡ Some (any.Client y) → x ≡ y
one_client x y e = cc

-- each Missing that a server sent to the client tells of a moment at which its question was drawn
abbrev pub AnswersTell : Estate AnyNode → ℕ → Type 0
AnswersTell e c =
    ((count : ℕ) → FetchesDrawn e (nodes.Client c) count)
    → ((count : ℕ) → last_at e (nodes.Client c) count ≤ last_at e (nodes.Client c) (suc count))
    → (count v : ℕ) (p : Packet) (m : Missing) → In p (moment e count).sent → p.from ≡ nodes.Server v → p.to ≡ nodes.Client c → p.body ≡ body.Missing m
    → Answers e (nodes.Client c) count v m

-- each Grant that was sent to it, in its incarnation and of no earlier epoch than it has promised, answers a want that it had sent
abbrev pub GrantsAsked : Estate AnyNode → ℕ → Type 0
GrantsAsked e c =
    (count : ℕ) (t : TokensState) → tokens_at (moment e count) c ≡ Some t → (b : BlockId) (p : Packet) (m : Grant) → In p (moment e count).sent
    → p.to ≡ nodes.Client c → p.body ≡ body.Grant m → m.block ≡ b → m.inc ≡ t.inc → epoch_of t.epochs (slot_of b.ino.0) ≤ m.stamp.epoch → m.req ≤ t.req

module _ (base : Setting) (e : Estate AnyNode) (run : IsRun any_step any_start e.script e.events e.world) (lines : HasLines base e) (c : ℕ)
    (is_there : IsThere e.script.setup.clients e.script.setup.managers (OfClient c)) (answers : AnswersTell e c) (asked : GrantsAsked e c) where
  abbrev reader : NodeId
  reader = nodes.Client c

  abbrev k_of : Cluster
  k_of = cluster_of e.script.setup

  abbrev pub Here : ℕ → Option AnyNode
  Here count = node_in (moment e count).nodes (place_of k_of reader)

  named : (count : ℕ) → node_named (moment e count) reader ≡ Here count
  named = course.named e reader

  -- ---- the client's node

  -- at its place stands a client
  pub client_there : (count : ℕ) (x : AnyNode) → Here count ≡ Some x → (node : Client) × (x ≡ any.Client node)
  client_there count x fact = by x (((lines (OfClient c) is_there).stands count).seen reader x fact)
    where
      by : (y : AnyNode) → ClientThere (setting base e (OfClient c)) (OfClient c) ((lines (OfClient c) is_there).scene count) c y
          → (node : Client) × (y ≡ any.Client node)
      by (any.Client node) h = (node, refl)
      by (any.Manager node) h = absurd h
      by (any.Server node) h = absurd h
      by (any.Cleaner node) h = absurd h
      by (any.Registry node) h = absurd h

  same_last : (count : ℕ) → last_of (node_named (moment e count) reader) ≡ last_at e reader count
  same_last count = by (Here count) refl
    where
      by : (o : Option AnyNode) → Here count ≡ o → last_of (node_named (moment e count) reader) ≡ last_at e reader count
      by None fact = ap last_of (named count ∙ fact) ∙ sym (ap last_in (named count ∙ fact))
      by (Some x) fact = (let n = client_there count x fact in
          let at : node_named (moment e count) reader ≡ Some (any.Client n.0) = named count ∙ (fact ∙ ap Some n.1) in
          ap last_of at ∙ sym (ap last_in at))

  drawn : (count : ℕ) → FetchesDrawn e reader count
  drawn count p m among from asks = subst (λ k. m.ask ≤ k) (same_last count) (fetches_drawn base e lines c is_there count p m among from asks)

  rises : (count : ℕ) → last_at e reader count ≤ last_at e reader (suc count)
  rises count =
      subst (λ k. k ≤ last_at e reader (suc count)) (same_last count)
      (subst (λ k. last_of (node_named (moment e count) reader) ≤ k) (same_last (suc count)) (last_rises base e lines c is_there count))

  -- ---- maps that were sent

  maps_named : (count : ℕ) (m : GroupMapState) → tables.In (MapSent m) ((lines (OfClient c) is_there).scene count).net.sent → IsNamed e c m
  maps_named count m sent id group fact = (base_at base e lines (OfClient c) is_there refl count).packets (MapSent m) sent id group fact

  brings : (count : ℕ) (p : Packet) → In p (moment e count).sent → BringsMaps (IsNamed e c) p.body
  brings count p among = by p.body (((lines (OfClient c) is_there).stands count).facts p among)
    where
      by : (b : Body) → BodySeen (setting base e (OfClient c)) (asker_by (OfClient c) ((lines (OfClient c) is_there).scene count))
          ((lines (OfClient c) is_there).scene count).net p.from p.to b
          → BringsMaps (IsNamed e c) b
      by (body.MapNews m) seen = maps_named count m.groups seen
      by (body.Welcome m) seen = maps_named count m.news.groups seen.map
      by _ seen = tt

  do_brings : (count : ℕ) (what : Do) → ((p : Packet) → what ≡ Deliver p → In p (moment e count).sent) → DoBrings (IsNamed e c) what
  do_brings count Begin gets = tt
  do_brings count (Deliver p) gets = brings count p (gets p refl)
  do_brings count Tick gets = tt

  -- ---- what is known at each count

  pub record Good (count : ℕ) : Type 0 where
    pub well : (node : Client) → Here count ≡ Some (any.Client node) → StandsWell (IsNamed e c) node.phase
    pub reads : AllReads e c count

  pub serving_is : (count : ℕ) (o : Option AnyNode) → Here count ≡ o → serving_at e c count ≡ serving_of o
  serving_is count o fact = ap serving_of (named count ∙ fact)

  -- nothing happens to it
  stands_by : (count : ℕ) (new : List Packet) → (moment e (suc count)).sent ≡ (moment e count).sent ++ new → Here (suc count) ≡ Here count
      → ((p : Packet) → In p new → p.from ≡ reader → ⊥) → Good count → Good (suc count)
  stands_by count new sent same others good = record {
    well = λ node fact. good.well node (sym same ∙ fact);
    reads = aside e c count new sent (rises count) (serving_is (suc count) (Here count) same ∙ sym (serving_is count (Here count) refl)) others good.reads;
  }

  module _ (count : ℕ) (good : Good count) (event : Event) (fact : slice_get e.events count ≡ Some event)
      (t : TurnAt (moment e count) event (moment e (suc count)).nodes (moment e (suc count)).sent (moment e (suc count)).acts) where
    module _ (own : reader ≡ node_of event) where
      gets : (p : Packet) → what_of event ≡ Deliver p → In p (moment e count).sent × (p.to ≡ reader)
      gets p delivers = (let b = brought (moment e count) event (may_happen e run count event fact) p delivers in (b.0, b.1 ∙ sym own))

      pub was : Here count ≡ Some t.node
      was = course.was e reader count event t own

      now : Here (suc count) ≡ Some (any_step t.node (what_of event)).node
      now = course.now e reader count event t own

      module _ (node : Client) (stands : t.node ≡ any.Client node) where
        what : Do
        what = what_of event

        was_client : Here count ≡ Some (any.Client node)
        was_client = was ∙ ap Some stands

        now_client : Here (suc count) ≡ Some (any.Client (client_step node (what_of event)).node)
        now_client = now ∙ ap (λ x. Some (any_step x (what_of event)).node) stands

        new_are : (moment e (suc count)).sent
            ≡ (moment e count).sent
            ++ map (sent_at t.clock) (packets_of (nodes.Client (lasting_of node.phase).number) (takes node (what_of event)).outs)
        new_are = t.sent_are ∙ ap (λ x. (moment e count).sent ++ map (sent_at t.clock) (any_step x (what_of event)).packets) stands

        well_now : StandsWell (IsNamed e c) (takes node (what_of event)).state
        well_now =
            stands_on (IsNamed e c) node (what_of event) (do_brings count (what_of event) (λ p d. (gets p d).0)) (good.well node was_client)

        last_was : (s : Serving) → node.phase ≡ Serves s → last_at e reader count ≡ s.lasting.questions.last
        last_was s at = ap last_in (named count ∙ was_client) ∙ ap (λ p. (lasting_of p).questions.last) at

        last_now : (u : Serving) → (takes node (what_of event)).state ≡ Serves u → last_at e reader (suc count) ≡ u.lasting.questions.last
        last_now u at = ap last_in (named (suc count) ∙ now_client) ∙ ap (λ p. (lasting_of p).questions.last) at

        serves_was : (s : Serving) → node.phase ≡ Serves s → serving_at e c count ≡ Some s
        serves_was s at = serving_is count (Some (any.Client node)) was_client ∙ ap serving_in at

        tokens_was : (s : Serving) → node.phase ≡ Serves s → tokens_at (moment e count) c ≡ Some s.tokens
        tokens_was s at = ap tokens_of (named count ∙ was_client) ∙ ap tokens_in at

        serves_now : serving_at e c (suc count) ≡ serving_in (takes node (what_of event)).state
        serves_now = serving_is (suc count) (Some (any.Client (client_step node (what_of event)).node)) now_client

        -- it serves, and did
        module _ (s u : Serving) (served : node.phase ≡ Serves s) (serves : (takes node (what_of event)).state ≡ Serves u) (w : ServesWell (IsNamed e c) s)
            (after : Turns s (what_of event) u (takes node (what_of event)).outs) where
          read_so : (r : ReadingState) → reading_in u.call ≡ Some r → Reads e c (suc count) r
          read_so r read = by u.lasting.items.unanswered refl (after.waits (open_so u.call read))
            where
              open_so : (call : _) → reading_in call ≡ Some r → is_none call ≡ false
              open_so None clash = absurd (let x : None ≡ Some r = clash in cc)
              open_so (Some call) same = refl

              asks : AsksOf e reader (map (sent_at t.clock) (packets_of (nodes.Client (lasting_of node.phase).number) (takes node (what_of event)).outs)) r.ask
                  r.target.seg.name
              asks p m late from fetches number =
                  subst (λ b. Sends s (what_of event) (Some r) b) fetches
                  (subst (λ o. Sends s (what_of event) o p.body) read
                  (sends_of s (what_of event) (reading_in u.call) (nodes.Client (lasting_of node.phase).number) t.clock (takes node (what_of event)).outs
                  after.says p late)) number

              by : (o : Option ℕ) → u.lasting.items.unanswered ≡ o → is_some u.lasting.items.unanswered ≡ true → Reads e c (suc count) r
              by None none some = contrary (sym (ap is_some none) ∙ some)
              by (Some item) opens some =
                  let comes = after.reading r read in
                  comes_so e c count
                  (map (sent_at t.clock) (packets_of (nodes.Client (lasting_of node.phase).number) (takes node (what_of event)).outs)) new_are
                  (rises count) run (drawn count) (λ v p m. answers drawn rises count v p m) s u (serves_was s served) (serves_now ∙ ap serving_in serves)
                  (last_was s served) (last_now u serves) (what_of event) gets w.known good.reads after.wants
                  (λ b p m. asked count s.tokens (tokens_was s served) b p m) r read item opens comes.1 asks comes.0

        reads_now : (r : ReadingState) → what_is_read (serving_in (takes node (what_of event)).state) ≡ Some r → Reads e c (suc count) r
        reads_now r read = by_before node.phase refl (takes node (what_of event)).state refl
          where
            read_of : (p : Phase) → (takes node (what_of event)).state ≡ p → what_is_read (serving_in p) ≡ Some r
            read_of p at = sym (ap (λ q. what_is_read (serving_in q)) at) ∙ read

            idle : serving_in node.phase ≡ None → (p : Phase) → (takes node (what_of event)).state ≡ p → what_is_read (serving_in p) ≡ Some r
                → Reads e c (suc count) r
            idle none (Down l) at is_read = absurd (let clash : None ≡ Some r = is_read in cc)
            idle none (Opening l o) at is_read = absurd (let clash : None ≡ Some r = is_read in cc)
            idle none (Serves u) at is_read =
                let come : ComesWell (IsNamed e c) (Serves u) =
                subst (ComesWell (IsNamed e c)) at
                (comes_well (IsNamed e c) node (what_of event) (do_brings count (what_of event) (λ p d. (gets p d).0)) (good.well node was_client) none) in
                absurd (let clash : None ≡ Some r = sym (ap reading_in come.1) ∙ is_read in cc)

            busy : (s : Serving) → node.phase ≡ Serves s → (p : Phase) → (takes node (what_of event)).state ≡ p → what_is_read (serving_in p) ≡ Some r
                → After s (what_of event) p (takes node (what_of event)).outs
                → Reads e c (suc count) r
            busy s served (Down l) at is_read a = absurd (let clash : None ≡ Some r = is_read in cc)
            busy s served (Opening l o) at is_read a = absurd a
            busy s served (Serves u) at is_read a = read_so s u served at (subst (StandsWell (IsNamed e c)) served (good.well node was_client)) a r is_read

            by_before : (p : Phase) → node.phase ≡ p → (q : Phase) → (takes node (what_of event)).state ≡ q → Reads e c (suc count) r
            by_before (Down l) before q at = idle (ap serving_in before) q at (read_of q at)
            by_before (Opening l o) before q at = idle (ap serving_in before) q at (read_of q at)
            by_before (Serves s) before q at =
                let w : ServesWell (IsNamed e c) s = subst (StandsWell (IsNamed e c)) before (good.well node was_client) in
                busy s before q at (read_of q at)
                (subst (λ p. After s (what_of event) p (takes node (what_of event)).outs) at (event_serves node s before w.waits (what_of event)))

        good_now : Good (suc count)
        good_now = record {
          well = λ x at.
              subst (λ (y : Client). StandsWell (IsNamed e c) y.phase) (one_client (client_step node (what_of event)).node x (sym now_client ∙ at)) well_now;
          reads = λ r read. reads_now r (sym (ap what_is_read serves_now) ∙ read);
        }

      own_turn : Good (suc count)
      own_turn = (let n = client_there count t.node was in good_now n.0 n.1)

  -- ---- at the start

  module _ (stay : GroupsStay) where
    -- the groups of the setup are those of the end
    first_named : IsNamed e c (group_map_start e.script.setup.servers e.script.setup.groups)
    unfolding start_world
    first_named id group fact =
        let n : Names (group_at e.world id) (stripe_of_group group) =
        in_run stay e.events (start_world any_start e.script) e.world run id group
        (ap (λ o. group_in (groups_of o) id) (first_stands e.script nodes.Registry
        (e.script.setup.clients + e.script.setup.managers + e.script.setup.servers + 1) refl) ∙ fact) in
        ap stripe_by n.named ∙ n.stripe_is

    abbrev first : AnyNode
    first = any.Client (client_start c e.script.setup (items_of e.script.lines reader))

    -- no node stands at its place, or the client before its first event
    first_is : (Here 0 ≡ None) ⊎ (Here 0 ≡ Some first)
    first_is = first_here e reader (λ o. (o ≡ None) ⊎ (o ≡ Some first)) (inl refl) (inr refl)

    first_good : Good 0
    first_good = by first_is
      where
        by : (Here 0 ≡ None) ⊎ (Here 0 ≡ Some first) → Good 0
        by (inl none) = record {
          well = λ node fact. absurd (let clash : None ≡ Some (any.Client node) = sym none ∙ fact in cc);
          reads = λ r fact. absurd (let clash : None ≡ Some r = sym (ap what_is_read (serving_is 0 None none)) ∙ fact in cc);
        }
        by (inr at) = record {
          well = λ node fact.
              subst (λ (y : Client). StandsWell (IsNamed e c) y.phase) (one_client (client_start c e.script.setup (items_of e.script.lines reader)) node
              (sym at ∙ fact)) (stands_first (IsNamed e c) c e.script.setup (items_of e.script.lines reader) first_named);
          reads = λ r fact. absurd (let clash : None ≡ Some r = sym (ap what_is_read (serving_is 0 (Some first) at)) ∙ fact in cc);
        }

    pub all_good : (count : ℕ) → Good count
    all_good =
        each_good e reader base lines Good (λ count good new sent same others. stands_by count new sent same others good)
        (λ count good event fact t own. own_turn count good event fact t own) first_good
