-- Each Missing that a server sent a reader answers a fetch of the reader, and tells of the moment at which it was sent; by then the fetch's number was drawn.
use Rattle.std.proofs.Common.{◌≡◌, ◌⊎◌, ⊎_elim, ℕ, zero, suc, ◌<◌, ◌≤◌, Bool, true, false, nat_le, List, [], Option, Some, None, map, slice_get, refl, sym, ap, subst, ◌∙◌, inl, inr, arith}
use Rattle.std.proofs.lemmas.Bool.Decides.{nat_tests}
use Rattle.core_world.specs.AnyNode.{any_start, any_step}
use Rattle.core_world.specs.declared.any_node.AnyNode.{AnyNode}
use Rattle.core_world.specs.declared.any_node.AnyNode.TheVariants as any
use Rattle.fragment_store.specs.ShelfState.{ShelfState, held_at}
use Rattle.log_tie.specs.Setting.{Setting}
use Rattle.token_protocol.specs.Basics.{In}
use Rattle.run_losses.proofs.torn_law.Counts.{TurnAt, became, cluster_at, may_happen, moment_ended}
use Rattle.run_losses.proofs.torn_law.Senders.{IsFrom, sends_as}
use Rattle.run_losses.proofs.torn_law.ServerMisses.{Answers as Answering, MissingSo, misses_what_it_lacks}
use Rattle.run_losses.proofs.torn_law.Turns.{brought}
use Rattle.wire_msg.specs.declared.body.Body.TheVariants as body
use Rattle.wire_msg.specs.declared.packet.Packet.{Packet}
use Rattle.wire_msg.specs.declared.storage.Fetch.{Fetch}
use Rattle.wire_msg.specs.declared.storage.Missing.{Missing}
use Rattle.world_base.specs.Cluster.{cluster_of, place_of}
use Rattle.world_base.specs.declared.cluster.Cluster.{Cluster}
use Rattle.world_base.specs.declared.estate.Estate.{Estate}
use Rattle.world_base.specs.declared.event.Event.{Event}
use Rattle.world_base.specs.declared.world.World.{World}
use Rattle.world_base.specs.Events.{node_of, what_of}
use Rattle.world_base.specs.NextWorld.{sent_at, start_world}
use Rattle.world_base.specs.Runs.{IsRun}
use Rattle.run_laws.proofs.world_law.Sent.{at_clock, in_append}
use Rattle.headline.specs.Moments.{moment, node_in}
use Rattle.run_laws.proofs.world_logs.Line.{last_or_before}
use Rattle.run_laws.specs.world_logs.Lines.{HasLines, setting}
use Rattle.headline.specs.Logs.Role.{OfCleaner}
use Rattle.headline.specs.Servers.{shelf_at, shelf_of}
use Rattle.run_laws.specs.world_logs.Standing.{ServerThere}
use Rattle.xfs_base.specs.declared.node.NodeId.{NodeId}
use Rattle.xfs_base.specs.declared.node.NodeId.TheVariants as names
use Rattle.run_losses.proofs.missing_law.Moments.{here_is, sent_on}
use Rattle.run_losses.specs.missing_law.Missed.{Answers, FetchesDrawn, last_at}

up_to_or_after : (k a : ℕ) → (k ≤ a) ⊎ (suc a ≤ k)
up_to_or_after k a = by (nat_le k a) refl
  where
    by : (t : Bool) → nat_le k a ≡ t → (k ≤ a) ⊎ (suc a ≤ k)
    by true fact = inl (grind (arith, nat_tests))
    by false fact = inr (grind (arith, nat_tests))

nothing_below : (m : ℕ) → m ≤ 0 → m ≡ 0
nothing_below m none = omega arith

at_most : (m n : ℕ) → m ≡ n → m ≤ n
at_most m n fact = omega arith

no_more : (l m n : ℕ) → l ≤ m → m ≤ n → l ≤ n
no_more l m n a b = omega arith

-- numbers that never fall from one count to the next never fall
pub never_falls : (number : ℕ → ℕ) → ((count : ℕ) → number count ≤ number (suc count)) → (from to : ℕ) → from ≤ to → number from ≤ number to
never_falls number rises from zero limit = at_most (number from) (number 0) (ap number (nothing_below from limit))
never_falls number rises from (suc to) limit =
    ⊎_elim (λ same. at_most (number from) (number (suc to)) (ap number same))
    (λ below. no_more (number from) (number to) (number (suc to)) (never_falls number rises from to below) (rises to)) (last_or_before from to limit)

module _ (base : Setting) (e : Estate AnyNode) (run : IsRun any_step any_start e.script e.events e.world) (lines : HasLines base e) (reader : NodeId) where
  abbrev k_of : Cluster
  k_of = cluster_of e.script.setup

  -- it was sent at this moment, in answer to a fetch of the reader that was sent by then, of what the server lacked then
  record Told (count v : ℕ) (m : Missing) : Type 0 where
    when : ℕ
    before : when ≤ count
    packet : Packet
    among : In packet (moment e when).sent
    asker : packet.from ≡ reader
    fetch : Fetch
    asks : packet.body ≡ body.Fetch fetch
    name : m.name ≡ fetch.name
    ask : m.ask ≡ fetch.ask
    shelf : ShelfState
    has_shelf : shelf_at (moment e when) v ≡ Some shelf
    in_generation : shelf.generation ≡ m.generation
    nothing : held_at shelf.held fetch.name ≡ None

  abbrev Good : ℕ → Type 0
  Good count =
      (p : Packet) (m : Missing) (v : ℕ) → In p (moment e count).sent → p.from ≡ names.Server v → p.to ≡ reader → p.body ≡ body.Missing m → Told count v m

  told_on : (count v : ℕ) (m : Missing) → Told count v m → Told (suc count) v m
  told_on count v m t = record {
    when = t.when;
    before = (let a = t.before in omega arith);
    packet = t.packet;
    among = t.among;
    asker = t.asker;
    fetch = t.fetch;
    asks = t.asks;
    name = t.name;
    ask = t.ask;
    shelf = t.shelf;
    has_shelf = t.has_shelf;
    in_generation = t.in_generation;
    nothing = t.nothing;
  }

  none_sent : (moment e 0).sent ≡ []
  unfolding start_world
  none_sent = refl

  module _ (count : ℕ) (good : Good count) where
    rests : (moment e (suc count)).sent ≡ (moment e count).sent → Good (suc count)
    rests sent p m v among from to tells = told_on count v m (good p m v (subst (In p) sent among) from to tells)

    module _ (event : Event) (at : slice_get e.events count ≡ Some event)
        (t : TurnAt (moment e count) event (moment e (suc count)).nodes (moment e (suc count)).sent (moment e (suc count)).acts) where
      abbrev new : List Packet
      new = map (sent_at t.clock) (any_step t.node (what_of event)).packets

      placed : place_of k_of (node_of event) ≡ Some t.place
      placed = subst (λ k. place_of k (node_of event) ≡ Some t.place) (cluster_at e count) t.placed

      stood : node_in (moment e count).nodes (place_of k_of (node_of event)) ≡ Some t.node
      stood = ap (node_in (moment e count).nodes) placed ∙ t.stands

      its_own : (p : Packet) → In p new → p.from ≡ node_of event
      its_own p late =
          at_clock t.clock (IsFrom (node_of event)) (IsFrom (node_of event)) (λ q h. h) (any_step t.node (what_of event)).packets
          (sends_as base e lines count (node_of event) t.place t.node (what_of event) placed stood) p late

      module _ (p : Packet) (m : Missing) (v : ℕ) (to : p.to ≡ reader) (tells : p.body ≡ body.Missing m) where
        told_there : (x : AnyNode) → ServerThere (setting base e OfCleaner) OfCleaner ((lines OfCleaner tt).scene count) v x
            → node_in (moment e count).nodes (place_of k_of (names.Server v)) ≡ Some x
            → In p (map (sent_at t.clock) (any_step x (what_of event)).packets) → Told (suc count) v m
        told_there (any.Client node) h fact among = absurd h
        told_there (any.Manager node) h fact among = absurd h
        told_there (any.Server node) h fact among =
            let so : MissingSo node (what_of event) p.to p.body =
            at_clock t.clock (λ q. MissingSo node (what_of event) q.to q.body) (λ q. MissingSo node (what_of event) q.to q.body) (λ q y. y)
            (any_step (any.Server node) (what_of event)).packets (misses_what_it_lacks node (what_of event)) p among in
            let a : Answering node (what_of event) p.to m = subst (MissingSo node (what_of event) p.to) tells so in
            record {
              when = count;
              before = omega arith;
              packet = a.packet;
              among = (brought (moment e count) event (may_happen e run count event at) a.packet a.delivers).0;
              asker = a.asker ∙ to;
              fetch = a.fetch;
              asks = a.asks;
              name = a.name;
              ask = a.ask;
              shelf = node.shelf;
              has_shelf = here_is e count v ∙ ap shelf_of fact;
              in_generation = sym a.generation;
              nothing = a.nothing;
            }
        told_there (any.Cleaner node) h fact among = absurd h
        told_there (any.Registry node) h fact among = absurd h

        told_now : In p new → p.from ≡ names.Server v → Told (suc count) v m
        told_now late from =
            let name : node_of event ≡ names.Server v = sym (its_own p late) ∙ from in
            let there : node_in (moment e count).nodes (place_of k_of (names.Server v)) ≡ Some t.node =
            subst (λ n. node_in (moment e count).nodes (place_of k_of n) ≡ Some t.node) name stood in
            told_there t.node (((lines OfCleaner tt).stands count).seen (names.Server v) t.node there) there late

      turn_good : Good (suc count)
      turn_good p m v among from to tells =
          ⊎_elim (λ old. told_on count v m (good p m v old from to tells)) (λ late. told_now p m v to tells late from)
          (in_append (moment e count).sent new p (subst (In p) t.sent_are among))

    next_good : Good (suc count)
    next_good = by (slice_get e.events count) refl
      where
        by : (o : Option Event) → slice_get e.events count ≡ o → Good (suc count)
        by None at = rests (ap (λ (w : World AnyNode). w.sent) (moment_ended e count at))
        by (Some event) at = ⊎_elim (λ still. rests still.sent_are) (turn_good event at) (became e count event at)

  all_good : (count : ℕ) → Good count
  all_good zero p m v among from to tells = absurd (subst (In p) none_sent among)
  all_good (suc count) p m v among from to tells = next_good count (all_good count) p m v among from to tells

  -- ---- what an answer tells

  module _ (drawn : (count : ℕ) → FetchesDrawn e reader count) (rises : (count : ℕ) → last_at e reader count ≤ last_at e reader (suc count)) where
    -- it was sent after each moment at which its number was not drawn
    told_since : (count v : ℕ) (m : Missing) → (t : Told count v m) → (k : ℕ) → last_at e reader k < m.ask → k ≤ t.when
    told_since count v m t k undrawn = ⊎_elim (λ less. less) earlier (up_to_or_after k t.when)
      where
        earlier : suc t.when ≤ k → k ≤ t.when
        earlier late =
            let a = never_falls (last_at e reader) rises t.when k (omega arith) in
            let b = drawn t.when t.packet t.fetch t.among t.asker t.asks in
            let c = t.ask in
            absurd (omega arith)

    pub answers_so : (count v : ℕ) (p : Packet) (m : Missing) → In p (moment e count).sent → p.from ≡ names.Server v → p.to ≡ reader
        → p.body ≡ body.Missing m → Answers e reader count v m
    answers_so count v p m among from to tells = by (all_good count p m v among from to tells)
      where
        by : Told count v m → Answers e reader count v m
        by t = record {
          packet = t.packet;
          among = sent_on e t.when count t.before t.packet t.among;
          asker = t.asker;
          fetch = t.fetch;
          asks = t.asks;
          name = t.name;
          ask = t.ask;
          told = λ k limit undrawn. record {
            when = t.when;
            since = told_since count v m t k undrawn;
            until = t.before;
            shelf = t.shelf;
            has_shelf = t.has_shelf;
            in_generation = t.in_generation;
            nothing = t.nothing;
          };
        }
