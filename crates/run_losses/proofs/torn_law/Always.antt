-- At each count of every run of the nodes, where fetches are asked by questions that were drawn, what comes to an opening is true.
use Rattle.std.proofs.Common.{◌≡◌, ⊎_elim, ℕ, zero, suc, false, List, [], Option, Some, None, map, slice_get, slice_set, refl, sym, ap, subst, ◌∙◌, append-nil}
use Rattle.xfs_base.specs.declared.node.NodeId.TheVariants as names
use Rattle.core_world.specs.AnyNode.{any_start, any_step}
use Rattle.core_world.specs.declared.any_node.AnyNode.{AnyNode}
use Rattle.core_world.specs.declared.any_node.AnyNode.TheVariants as any
use Rattle.fragment_store.specs.ShelfState.{ShelfState, held_at}
use Rattle.log_law.specs.Events.{Runs}
use Rattle.log_law.specs.Events.Runs.{Begun, On}
use Rattle.log_law.specs.Net.{Net, opening}
use Rattle.log_law.specs.Net.Owner.{Opening}
use Rattle.group_map.specs.GroupMapState.{GroupMapState}
use Rattle.log_scan.specs.ScanState.{ScanState}
use Rattle.log_tie.specs.Setting.{Setting}
use Rattle.node_logs.proofs.node_log_tie.Others.{same_or_other}
use Rattle.token_protocol.specs.Basics.{In}
use Rattle.wire_msg.specs.declared.body.Body.TheVariants as body
use Rattle.wire_msg.specs.declared.packet.Packet.{Packet}
use Rattle.wire_msg.specs.declared.storage.Missing.{Missing}
use Rattle.world_base.specs.Cluster.{cluster_of, place_of}
use Rattle.world_base.specs.declared.cluster.Cluster.{Cluster}
use Rattle.world_base.specs.declared.estate.Estate.{Estate}
use Rattle.world_base.specs.declared.event.Event.{Event}
use Rattle.world_base.specs.declared.world.World.{World}
use Rattle.world_base.specs.Events.{node_of, what_of}
use Rattle.world_base.specs.NextWorld.{sent_at, start_world}
use Rattle.world_base.specs.Runs.{IsRun}
use Rattle.run_laws.proofs.world_law.Nodes.{here, there}
use Rattle.run_laws.proofs.world_law.Sent.{at_clock}
use Rattle.headline.specs.Moments.{moment, node_in}
use Rattle.run_laws.specs.world_logs.Lines.{HasLines, IsBegun, setting}
use Rattle.headline.specs.Logs.{IsThere, Role, owner_by, renews}
use Rattle.run_laws.specs.world_logs.Standing.{ServerThere}
use Rattle.run_losses.proofs.torn_law.Counts.{TurnAt, cluster_at, became, may_happen, moment_ended}
use Rattle.run_losses.proofs.torn_law.Events.{Good, net, node_at}
use Rattle.run_losses.proofs.torn_law.Senders.{IsFrom, sends_as}
use Rattle.run_losses.proofs.torn_law.ServerMisses.{Answers, MissingSo, misses_what_it_lacks}
use Rattle.run_losses.proofs.torn_law.Turns.{Told, aside_good, brought, own_good}
use Rattle.run_losses.proofs.torn_law.Drawn.{FetchesDrawn}

-- what begins serves
none_opens : (g : Setting) (m : GroupMapState) (n : Net) (run : Runs g (opening g m) n) → IsBegun run → (s : ScanState) → n.owner ≡ Opening s → ⊥
none_opens g m n Begun begun s fact = cc
none_opens g m n (On run happens) begun s fact = absurd begun

module _ (base : Setting) (e : Estate AnyNode) (run : IsRun any_step any_start e.script e.events e.world) (lines : HasLines base e) (r : Role)
    (is_there : IsThere e.script.setup.clients e.script.setup.managers r) (keeps : renews r ≡ false) (fetches : (count : ℕ) → FetchesDrawn e r count) where
  abbrev k_of : Cluster
  k_of = cluster_of e.script.setup

  abbrev Known : ℕ → Type 0
  Known count = Good base e lines r is_there keeps count

  -- ---- at first

  none_sent : (moment e 0).sent ≡ []
  unfolding start_world
  none_sent = refl

  first_good : Known 0
  first_good = record {
    answered = λ p m v among. absurd (subst (In p) none_sent among);
    truths = λ s fact. absurd
        (none_opens (setting base e r) (((lines r is_there).stands 0).moment).map (net base e lines r is_there keeps 0)
        (((lines r is_there).stands 0).moment).run
        (lines r is_there).begins s.scan (node_at base e lines r is_there keeps 0 s fact).scans.sees.owner);
  }

  -- ---- an event

  module _ (count : ℕ) (good : Known count) where
    -- nothing happens
    rests : (moment e (suc count)).nodes ≡ (moment e count).nodes → (moment e (suc count)).sent ≡ (moment e count).sent → Known (suc count)
    rests nodes sent =
        aside_good base e lines r is_there keeps count [] (sent ∙ sym (append-nil (moment e count).sent)) good
        (ap (λ ns. node_in ns (place_of k_of (owner_by r))) nodes) (λ p late from. absurd late) (λ p m v late from to tells. absurd late)

    module _ (event : Event) (fact : slice_get e.events count ≡ Some event)
        (t : TurnAt (moment e count) event (moment e (suc count)).nodes (moment e (suc count)).sent (moment e (suc count)).acts) where
      abbrev w : World AnyNode
      w = moment e count

      abbrev new : List Packet
      new = map (sent_at t.clock) (any_step t.node (what_of event)).packets

      placed : place_of k_of (node_of event) ≡ Some t.place
      placed = subst (λ c. place_of c (node_of event) ≡ Some t.place) (cluster_at e count) t.placed

      stood : node_in w.nodes (place_of k_of (node_of event)) ≡ Some t.node
      stood = ap (node_in w.nodes) placed ∙ t.stands

      its_own : (p : Packet) → In p new → p.from ≡ node_of event
      its_own p late =
          at_clock t.clock (IsFrom (node_of event)) (IsFrom (node_of event)) (λ q h. h) (any_step t.node (what_of event)).packets
          (sends_as base e lines count (node_of event) t.place t.node (what_of event) placed stood) p late

      -- what a server misses
      module _ (p : Packet) (m : Missing) (v : ℕ) (late : In p new) (to : p.to ≡ owner_by r) (tells : p.body ≡ body.Missing m) where
        told_there : (x : AnyNode) → ServerThere (setting base e r) r ((lines r is_there).scene count) v x
            → In p (map (sent_at t.clock) (any_step x (what_of event)).packets) → Told base e lines r is_there keeps count m v
        told_there (any.Client node) h among = absurd h
        told_there (any.Manager node) h among = absurd h
        told_there (any.Server node) h among =
            let so : MissingSo node (what_of event) p.to p.body =
            at_clock t.clock (λ q. MissingSo node (what_of event) q.to q.body) (λ q. MissingSo node (what_of event) q.to q.body) (λ q y. y)
            (any_step (any.Server node) (what_of event)).packets (misses_what_it_lacks node (what_of event)) p among in
            let a : Answers node (what_of event) p.to m = subst (MissingSo node (what_of event) p.to) tells so in
            record {
              packet = a.packet;
              among = (brought w event (may_happen e run count event fact) a.packet a.delivers).0;
              asker = a.asker ∙ to;
              fetch = a.fetch;
              asks = a.asks;
              ask = a.ask;
              lacks = record {
                in_generation = ap (λ (s : ShelfState). s.generation) h.shelf ∙ sym a.generation;
                nothing = subst (λ (s : ShelfState). held_at s.held a.fetch.name ≡ None) (sym h.shelf) a.nothing;
              };
            }
        told_there (any.Cleaner node) h among = absurd h
        told_there (any.Registry node) h among = absurd h

        told_so : p.from ≡ names.Server v → Told base e lines r is_there keeps count m v
        told_so from =
            let name : node_of event ≡ names.Server v = sym (its_own p late) ∙ from in
            told_there t.node
            (((lines r is_there).stands count).seen (names.Server v) t.node (subst (λ n. node_in w.nodes (place_of k_of n) ≡ Some t.node) name stood)) late

      other_turn : (owner_by r ≡ node_of event → ⊥) → Known (suc count)
      other_turn differs =
          aside_good base e lines r is_there keeps count new t.sent_are good
          (ap (λ ns. node_in ns (place_of k_of (owner_by r))) t.nodes_are
          ∙ there k_of w.nodes (node_of event) t.place placed (any_step t.node (what_of event)).node (owner_by r) differs)
          (λ p late from. differs (sym from ∙ its_own p late))
          (λ p m v late from to tells. told_so p m v late to tells from)

      own_turn : owner_by r ≡ node_of event → Known (suc count)
      own_turn same =
          own_good base e lines r is_there keeps count t.clock t.node (what_of event) t.sent_are good (fetches count)
          (subst (λ n. node_in w.nodes (place_of k_of n) ≡ Some t.node) (sym same) stood)
          (ap (λ ns. node_in ns (place_of k_of (owner_by r))) t.nodes_are
          ∙ subst (λ n. node_in (slice_set w.nodes t.place (any_step t.node (what_of event)).node) (place_of k_of n) ≡ Some
          (any_step t.node (what_of event)).node)
          (sym same) (here k_of w.nodes (node_of event) t.place placed (any_step t.node (what_of event)).node t.node t.stands))
          (λ p brings. let b = brought w event (may_happen e run count event fact) p brings in (b.0, b.1 ∙ sym same))
          (λ p late. its_own p late ∙ sym same)

      turn_good : Known (suc count)
      turn_good = ⊎_elim own_turn other_turn (same_or_other (owner_by r) (node_of event))

    next_good : Known (suc count)
    next_good = by (slice_get e.events count) refl
      where
        by : (o : Option Event) → slice_get e.events count ≡ o → Known (suc count)
        by None fact = rests (ap (λ (v : World AnyNode). v.nodes) (moment_ended e count fact)) (ap (λ (v : World AnyNode). v.sent) (moment_ended e count fact))
        by (Some event) fact = ⊎_elim (λ still. rests still.nodes_are still.sent_are) (turn_good event fact) (became e count event fact)

  pub all_good : (count : ℕ) → Known count
  all_good zero = first_good
  all_good (suc count) = next_good count (all_good count)
