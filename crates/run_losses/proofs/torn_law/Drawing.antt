-- At each count of every run an owner has asked servers for fragments by numbers of questions that it drew. `Up` is so of it: one that serves reads by a number
-- that was drawn.
use Rattle.std.proofs.Common.{◌≡◌, ⊎_elim, ℕ, suc, ◌≤◌, List, ◌++◌, Option, Some, None, map, slice_get, All, refl, sym, ap, subst, arith}
use Rattle.core_world.specs.AnyNode.{any_start, any_step}
use Rattle.core_world.specs.declared.any_node.AnyNode.{AnyNode}
use Rattle.log_tie.specs.Setting.{Setting}
use Rattle.node_logs.proofs.node_log_tie.Others.{same_or_other}
use Rattle.token_protocol.specs.Basics.{In}
use Rattle.wire_msg.specs.declared.body.Body.TheVariants as body
use Rattle.wire_msg.specs.declared.packet.Do.{Do}
use Rattle.wire_msg.specs.declared.packet.Packet.{Packet}
use Rattle.wire_msg.specs.declared.storage.Fetch.{Fetch}
use Rattle.world_base.specs.Cluster.{place_of}
use Rattle.world_base.specs.declared.estate.Estate.{Estate}
use Rattle.world_base.specs.declared.event.Event.{Event}
use Rattle.world_base.specs.declared.world.World.{World}
use Rattle.world_base.specs.Events.{node_of, what_of}
use Rattle.world_base.specs.NextWorld.{sent_at}
use Rattle.run_laws.proofs.world_law.Sent.{at_clock, in_append}
use Rattle.headline.specs.Moments.{moment, node_in, node_named}
use Rattle.run_laws.specs.world_logs.Lines.{HasLines}
use Rattle.world_base.specs.Items.{items_of}
use Rattle.headline.specs.Logs.{Role, owner_by}
use Rattle.xfs_base.specs.declared.node.NodeId.{NodeId}
use Rattle.run_losses.proofs.torn_law.ClientFetches.{BodyUpTo}
use Rattle.run_losses.proofs.torn_law.Counts.{became, moment_ended}
use Rattle.run_losses.proofs.torn_law.Course.{Here, Sent, Turn, each_good, first_here, k_of, named, none_sent, now, stands_by, was}
use Rattle.run_losses.proofs.torn_law.Drawn.{FetchesDrawn, last_of}

-- what an event makes of it
pub record Drew (Up : Option AnyNode → Type 0) (x : AnyNode) (what : Do) : Type 0 where
  pub up : last_of (Some x) ≤ last_of (Some (any_step x what).node)
  pub serves : Up (Some (any_step x what).node)
  pub does : All (λ (p : Packet). BodyUpTo (last_of (Some (any_step x what).node)) p.body) (any_step x what).packets

module _ (e : Estate AnyNode) (r : Role) (Up : Option AnyNode → Type 0) where
  abbrev name : NodeId
  name = owner_by r

  module _ (base : Setting) (lines : HasLines base e) (none : Up None) (some : Up (Some (any_start name e.script.setup (items_of e.script.lines name))))
      (drew : (count : ℕ) (x : AnyNode) (what : Do) → Here e name count ≡ Some x → Up (Some x) → Drew Up x what) where
    record Good (count : ℕ) : Type 0 where
      serves : Up (Here e name count)
      fetches : (p : Packet) (m : Fetch) → In p (Sent e name count) → p.from ≡ name → p.body ≡ body.Fetch m → m.ask ≤ last_of (Here e name count)

    -- nothing happens to it
    aside : (count : ℕ) → Good count → (new : List Packet) → Sent e name (suc count) ≡ Sent e name count ++ new → Here e name (suc count) ≡ Here e name count
        → ((p : Packet) → In p new → p.from ≡ name → ⊥) → Good (suc count)
    aside count good new sent same others = record {
      serves = subst Up (sym same) good.serves;
      fetches = λ p m among from asks.
          ⊎_elim (λ old. subst (λ o. m.ask ≤ last_of o) (sym same) (good.fetches p m old from asks)) (λ late. absurd (others p late from))
          (in_append (Sent e name count) new p (subst (In p) sent among));
    }

    module _ (count : ℕ) (good : Good count) (event : Event) (fact : slice_get e.events count ≡ Some event) (t : Turn e name count event)
        (own : name ≡ node_of event) where
      there : Here e name count ≡ Some t.node
      there = was e name count event t own

      after : Here e name (suc count) ≡ Some (any_step t.node (what_of event)).node
      after = now e name count event t own

      d : Drew Up t.node (what_of event)
      d = drew count t.node (what_of event) there (subst Up there good.serves)

      own_up : last_of (Here e name count) ≤ last_of (Here e name (suc count))
      own_up =
          let a = d.up in
          subst (λ o. last_of (Here e name count) ≤ last_of o) (sym after)
          (subst (λ o. last_of o ≤ last_of (Some (any_step t.node (what_of event)).node)) (sym there) (omega arith))

      own_turn : Good (suc count)
      own_turn = record {
        serves = subst Up (sym after) d.serves;
        fetches = λ p m among from asks.
            ⊎_elim (λ old. before p m old from asks) (λ late. fresh p m late asks)
            (in_append (Sent e name count) (map (sent_at t.clock) (any_step t.node (what_of event)).packets) p (subst (In p) t.sent_are among));
      }
        where
          before : (p : Packet) (m : Fetch) → In p (Sent e name count) → p.from ≡ name → p.body ≡ body.Fetch m → m.ask ≤ last_of (Here e name (suc count))
          before p m old from asks =
              let a = subst (λ o. m.ask ≤ last_of o) there (good.fetches p m old from asks) in
              let b = d.up in
              subst (λ o. m.ask ≤ last_of o) (sym after) (omega arith)

          fresh : (p : Packet) (m : Fetch) → In p (map (sent_at t.clock) (any_step t.node (what_of event)).packets) → p.body ≡ body.Fetch m
              → m.ask ≤ last_of (Here e name (suc count))
          fresh p m late asks =
              let said = at_clock t.clock
              (λ (q : Packet). BodyUpTo (last_of (Some (any_step t.node (what_of event)).node)) q.body)
              (λ (q : Packet). BodyUpTo (last_of (Some (any_step t.node (what_of event)).node)) q.body) (λ q h. h)
              (any_step t.node (what_of event)).packets d.does p late in
              subst (λ o. m.ask ≤ last_of o) (sym after) (subst (BodyUpTo (last_of (Some (any_step t.node (what_of event)).node))) asks said)

    all_good : (count : ℕ) → Good count
    all_good =
        each_good e name base lines Good aside own_turn (record {
          serves = first_here e name Up none some;
          fetches = λ p m among. absurd (subst (In p) (none_sent e name) among);
        })

    pub drawn : (count : ℕ) → FetchesDrawn e r count
    drawn count p m among from asks = subst (λ o. m.ask ≤ last_of o) (sym (named e name count)) ((all_good count).fetches p m among from asks)

    still_up : (count : ℕ) → Here e name (suc count) ≡ Here e name count → last_of (Here e name count) ≤ last_of (Here e name (suc count))
    still_up count same = subst (λ o. last_of (Here e name count) ≤ last_of o) (sym same) (omega arith)

    -- the number of its last question never falls
    pub rises : (count : ℕ) → last_of (node_named (moment e count) name) ≤ last_of (node_named (moment e (suc count)) name)
    rises count =
        subst (λ o. last_of o ≤ last_of (node_named (moment e (suc count)) name)) (sym (named e name count))
        (subst (λ o. last_of (Here e name count) ≤ last_of o) (sym (named e name (suc count))) (by (slice_get e.events count) refl))
      where
        same_nodes : (moment e (suc count)).nodes ≡ (moment e count).nodes → last_of (Here e name count) ≤ last_of (Here e name (suc count))
        same_nodes nodes = still_up count (ap (λ ns. node_in ns (place_of (k_of e name) name)) nodes)

        by : (o : Option Event) → slice_get e.events count ≡ o → last_of (Here e name count) ≤ last_of (Here e name (suc count))
        by None fact = same_nodes (ap (λ (v : World AnyNode). v.nodes) (moment_ended e count fact))
        by (Some event) fact =
            ⊎_elim (λ still. same_nodes still.nodes_are)
            (λ t. ⊎_elim (own_up count (all_good count) event fact t) (λ differs. still_up count (stands_by e name count event t differs))
            (same_or_other name (node_of event))) (became e count event fact)
