-- What stands beside an event of the cleaner, from the moment before it and the laws of runs.
use Rattle.std.proofs.Common.{◌≡◌, ◌≤◌, ◌<◌, ℕ, suc, true, false, inl, inr, Some, slice_get, refl, sym, ap, subst, ◌∙◌, arith}
use Rattle.std.specs.Prelude.{IfSome}
use Rattle.std.proofs.lemmas.Option.{unwrap_or-slice_get}
use Rattle.std.specs.List.{AllByRecursion}
use Rattle.cleaner_node.specs.declared.cleaner.Cleaner.{Cleaner as CleanerNode}
use Rattle.core_world.specs.AnyNode.{any_start, any_step}
use Rattle.core_world.specs.declared.any_node.AnyNode.{AnyNode}
use Rattle.core_world.specs.declared.any_node.AnyNode.TheVariants as any
use Rattle.log_flight.specs.Flights.{FlightState}
use Rattle.node_base.specs.Setups.{IsSetup}
use Rattle.node_slots.specs.owner_index_tie.CleanerMoves.{ItemMoves}
use Rattle.run_laws.specs.reopening_law.Reopens.{TellsApart}
use Rattle.token_protocol.specs.Basics.{In}
use Rattle.wire_msg.specs.declared.packet.Do.{Do}
use Rattle.wire_msg.specs.declared.packet.Do.TheVariants.{Deliver}
use Rattle.wire_msg.specs.declared.packet.Packet.{Packet}
use Rattle.world_base.specs.Cluster.{place_of}
use Rattle.world_base.specs.declared.cluster.Cluster.{Cluster}
use Rattle.world_base.specs.declared.event.Event.{Event}
use Rattle.world_base.specs.declared.event.Event.TheVariants as events
use Rattle.world_base.specs.declared.world.World.{World}
use Rattle.world_base.specs.Events.{node_of, what_of}
use Rattle.world_base.specs.NextWorld.{next_world}
use Rattle.world_base.specs.Runs.{IsRun, MayHappen}
use Rattle.run_laws.proofs.world_law.ManagerTurns.{delivered}
use Rattle.run_laws.proofs.world_law.Sent.{was_sent}
use Rattle.headline.specs.Moments.{moment, node_in, node_named}
use Rattle.headline.specs.Horizons.{IsOpened, board_of}
use Rattle.run_laws.specs.world_logs.Lines.{cluster}
use Rattle.headline.specs.Logs.{Role, log_by, renews}
use Rattle.headline.specs.Logs.Role.{OfClient, OfCleaner, OfManager}
use Rattle.run_laws.proofs.world_reads.CleanerFront.{Takes, cleaner_steps, its_cluster, may_happen}
use Rattle.run_laws.proofs.world_reads.CleanerGets.{AreReached, PollsAreLow}
use Rattle.run_laws.proofs.world_reads.CleanerMoment.{IsHere, Steps, in_tokens, its_line}
use Rattle.run_laws.proofs.world_reads.CleanerMoving.{Moved}
use Rattle.run_laws.proofs.world_reads.CleanerOwed.{Beside}
use Rattle.run_laws.proofs.world_reads.CleanerReading.{ListsOurs}
use Rattle.run_laws.proofs.world_reads.Taking.{Took, took_it}
use Rattle.run_laws.specs.world_reads.Joint.{Joint, There, flew_at}
use Rattle.run_laws.proofs.world_reads.Joint.{IsSureUpto}
use Rattle.xfs_base.specs.declared.node.NodeId.TheVariants.{Cleaner, Registry}
use Rattle.run_laws.proofs.world_reads.Below.{Below}
use Rattle.run_laws.specs.world_reads.LoggedRuns.{LoggedRun}

-- a packet that is delivered was sent
delivered_was : (w : World AnyNode) (event : Event) → MayHappen w event → (q : Packet) → what_of event ≡ Deliver q → In q w.sent × (q.to ≡ node_of event)
delivered_was w (events.Begin node) may q gets = absurd cc
delivered_was w (events.Tick node) may q gets = absurd cc
delivered_was w (events.Deliver packet) may q gets =
    let fact : packet ≡ q = delivered packet q gets in
    (was_sent w.sent q (subst (λ x. MayHappen w (events.Deliver x)) fact may), ap (λ (x : Packet). x.to) (sym fact))

module _ (law : Below) (logged : LoggedRun) (ok : IsSetup logged.estate.script.setup)
    (run : IsRun any_step any_start logged.estate.script logged.estate.events logged.estate.world) (part count : ℕ) (joint : Joint logged part count)
    (event : Event) (node : CleanerNode) where
  open logged use {base, estate as e, texts, first}

  abbrev what : Do
  what = what_of event

  -- An event of the cleaner that it takes, between a moment that stands to all small worlds and one up to which all restarts were sure.
  pub record CleanerEvent : Type 0 where
    pub few : part < 8
    pub apart : TellsApart base
    pub happens : slice_get e.events count ≡ Some event
    pub own : node_of event ≡ Cleaner
    pub took : Took (moment e count) event (any.Cleaner node)
    pub sure : IsSureUpto logged part (suc count)
    pub moved : Moved logged part count joint.idx.net
    pub promised : joint.idx.net.promised ≤ joint.tok.net.promised

  -- each fragment that a server listed is of a log of the run
  ours : ListsOurs logged part count
  ours p m among fact meta held = (let o = law.runs.runs_list_their_logs e ok run count p m among fact meta held in record {
    role = o.role;
    there = o.there;
    own = o.own;
  })

  module _ (x : CleanerEvent) where
    here : IsHere logged part count node
    here = subst (λ name. node_in (moment e count).nodes (place_of (cluster base e) name) ≡ Some (any.Cleaner node)) x.own
        (took_it (cluster base e) (moment e count) (its_cluster e count) event (any.Cleaner node) x.took)

    takes_it : Takes (moment e count) event (next_world any_step (moment e count) event).nodes (next_world any_step (moment e count) event).acts
    takes_it = record {
      place = x.took.place;
      node = any.Cleaner node;
      placed = x.took.placed;
      stands = x.took.stands;
      nodes_are = x.took.nodes;
      acts_are = x.took.acts;
    }

    steps : Steps logged part count node what
    steps = cleaner_steps logged part count event x.happens x.own node here takes_it

    its_name : node_named (moment e count) Cleaner ≡ Some (any.Cleaner node)
    its_name = subst (λ (c : Cluster). node_in (moment e count).nodes (place_of c Cleaner) ≡ Some (any.Cleaner node)) (sym (its_cluster e count)) steps.before

    registry_named : node_named (moment e count) Registry ≡ Some (any.Registry joint.idx.registry)
    registry_named = subst (λ (c : Cluster). node_in (moment e count).nodes (place_of c Registry) ≡ Some (any.Registry joint.idx.registry))
        (sym (its_cluster e count)) joint.index_stands.placed.registry

    opened : (r : Role) → There logged part r → renews r ≡ false → IsOpened e.script.setup.clients (log_by r)
    opened (OfClient c) there keeps = inl there
    opened OfCleaner there keeps = inr refl
    opened (OfManager j) there keeps = absurd cc

    reached : AreReached law logged part count joint node steps.before
    reached r there keeps =
        law.runs.runs_reach_horizons e ok run count (log_by r) (opened r there keeps) joint.idx.registry.board (ap board_of registry_named)

    low : PollsAreLow law logged part count joint node steps.before
    low v p m serves among fact of late =
        law.tokens.epochs.cleaner_polls_are_low true (cluster base e) part texts.text first (moment e count).nodes (moment e count).sent (moment e count).acts
        joint.tok
        joint.idx v m x.few (record { tokens = joint.tokens_stand; index = joint.index_stands; same = joint.slots })
        (ap (λ (n : CleanerNode). n.phase) (in_tokens logged part count joint node steps.before) ∙ serves)
        (record { packet = p; among = among; bears = fact; of = of })
        (let same = unwrap_or-slice_get v.promised.epochs part 0 in let upto = late in omega arith) 9 (omega arith) (omega arith)

    moved_is : (f : FlightState) → flew_at logged part OfCleaner tt count ≡ Some f
        → AllByRecursion (ItemMoves part joint.idx.net.sent) f.segment.items
    moved_is f fact = subst (λ o. IfSome o (λ (y : FlightState). AllByRecursion (ItemMoves part joint.idx.net.sent) y.segment.items)) fact x.moved

    pub beside : Beside law logged part count joint node what
    beside = record {
      of_eight = x.few;
      steps = steps;
      straight = (its_line logged part).straight count event x.happens (sym x.own);
      apart = x.apart;
      sure = x.sure;
      brought = λ q gets.
          let d = delivered_was (moment e count) event (may_happen e count event x.happens run) q gets in (d.0, d.1 ∙ x.own);
      named = its_name;
      came = law.reads.runs_read_what_came e ok run count;
      ours = ours;
      reached = reached;
      low = low;
      moved = moved_is;
      promised = x.promised;
    }
