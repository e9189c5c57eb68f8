-- What is known of the fall of a client after an event: of one that serves no fall waits, and else its fall was told with what was in flight.
use Rattle.std.proofs.Common.{◌≡◌, ⊎_elim, ℕ, suc, ◌<◌, ◌≤◌, ◌++◌, true, false, List, [], Some, slice_get, refl, sym, ap, subst, ◌∙◌}
use Rattle.client_node.specs.declared.client.Client.{Client as ClientNode}
use Rattle.client_node.specs.declared.phase.Phase.TheVariants.{Down, Opening, Serving as Serves}
use Rattle.client_node.specs.declared.phase.Phase.{Phase}
use Rattle.client_serving.specs.declared.serving.Serving.{Serving}
use Rattle.node_logs.specs.client_log_tie.Owner as log_tie
use Rattle.core_world.specs.AnyNode.{any_step}
use Rattle.core_world.specs.declared.any_node.AnyNode.{AnyNode}
use Rattle.core_world.specs.declared.any_node.AnyNode.TheVariants as any
use Rattle.log_law.specs.Laws.{Moment}
use Rattle.log_law.specs.Restarts.{last_flight}
use Rattle.node_slots.specs.node_tie.ClientEvents as held
use Rattle.run_laws.specs.reopening_law.Falls.{FallKnown, FellWith}
use Rattle.run_laws.specs.reopening_law.Reopens.{TellsApart}
use Rattle.run_laws.specs.segment_tie.Clients.{ClientWrites}
use Rattle.version_model.specs.declared.act.Act.{Act}
use Rattle.version_model.specs.Effects.{history_after}
use Rattle.version_model.specs.History.{nothing_yet}
use Rattle.world_base.specs.Cluster.{place_of}
use Rattle.world_base.specs.declared.cluster.Cluster.{Cluster}
use Rattle.world_base.specs.declared.event.Event.{Event}
use Rattle.world_base.specs.declared.world.World.{World}
use Rattle.world_base.specs.Events.{node_of, what_of}
use Rattle.world_base.specs.Runs.{MayHappen}
use Rattle.run_laws.proofs.world_law.Nodes as places
use Rattle.run_laws.specs.world_law.Standing.{members}
use Rattle.headline.specs.Moments.{moment, node_in}
use Rattle.run_laws.specs.world_logs.Lines.{setting}
use Rattle.headline.specs.Logs.Role.{OfClient}
use Rattle.run_laws.proofs.world_reads.After.{left_flight}
use Rattle.run_laws.proofs.reopening_law.Flights.{served_last}
use Rattle.run_laws.proofs.world_reads.AfterWrites.{serving_told}
use Rattle.run_laws.proofs.world_reads.Taking.{Took, moment_next, took_it}
use Rattle.run_laws.proofs.world_reads.TurnAside.{others_quiet}
use Rattle.run_laws.proofs.world_reads.TurnBoth.{Both, IsOwed, Turned}
use Rattle.run_laws.proofs.world_reads.TurnClient.{client_fell}
use Rattle.run_laws.proofs.world_reads.TurnLogs.{LogsKnown, client_or_not}
use Rattle.run_laws.proofs.world_reads.TurnMoment as now
use Rattle.run_laws.proofs.world_reads.TurnMoment.{same_client}
use Rattle.run_laws.specs.world_reads.Joint.{There, flew_at, k}
use Rattle.run_laws.proofs.world_reads.Joint.{IsSureUpto}
use Rattle.xfs_base.specs.declared.node.NodeId.TheVariants.{Client}
use Rattle.xfs_base.specs.Limits.{slot_count}
use Rattle.run_laws.proofs.world_reads.Below.{Below}
use Rattle.run_laws.specs.world_reads.LoggedRuns.{LoggedRun}

module _ (logged : LoggedRun) (part : ℕ) where
  open logged use {base, estate as e, lines}

  abbrev cl : Cluster
  cl = k logged part

  -- of a client it is known at a moment
  abbrev pub FallsKnown : (count : ℕ) → Both logged part count → Type 0
  FallsKnown count b = (c : ℕ) (there : There logged part (OfClient c))
      → FallKnown (moment e count).acts c (flew_at logged part (OfClient c) there count) (b.tok.client c).phase

  -- of one that serves no fall waits, and what it had in flight last is in flight
  pub fell_serving : (count : ℕ) (b : Both logged part count) (c : ℕ) (there : There logged part (OfClient c)) (s : Serving)
      → (b.tok.client c).phase ≡ Serves s
      → ((history_after (moment e count).acts nothing_yet).told c ≡ [])
      × (flew_at logged part (OfClient c) there count ≡ s.log.flight)
  fell_serving count b c there s fact = (
    serving_told true (members cl part) part b.tok.net (moment e count).acts b.tokens_stand.runs b.tokens_stand.acts c
        (subst (held.ClientAgrees true part c b.tok.net) fact (now.client_held logged part count b c there)).up,
    served_last (setting base e (OfClient c)) _ ((lines (OfClient c) there).scene count).net ((lines (OfClient c) there).stands count).moment.run s.log
        (subst (log_tie.ClientAgrees (setting base e (OfClient c)) c ((lines (OfClient c) there).scene count)) fact
        (now.client_sees logged part count b c there).agrees).1.owner,
  )

  module _ (laws : Below) (of_eight : part < slot_count) (apart : TellsApart base) (count : ℕ) (event : Event)
      (at_event : slice_get e.events count ≡ Some event) (cluster : (moment e count).cluster ≡ cl) (may : MayHappen (moment e count) event)
      (b : Both logged part count) (sure : IsSureUpto logged part (suc count)) (node : AnyNode)
      (took : Took (moment e count) event node) (owed : IsOwed logged part count event b node)
      (turned : Turned logged part count event b node owed) (known : LogsKnown logged part count b)
      (fell : FallsKnown count b)
      (writes : (c : ℕ) → 0 < c → c ≤ e.script.setup.clients → ClientWrites (turned.then.tok.client c).phase) where
    abbrev d : Both logged part (suc count)
    d = turned.then

    module _ (c : ℕ) (there : There logged part (OfClient c)) where
      abbrev After : Phase → Type 0
      After p = FallKnown (moment e (suc count)).acts c (flew_at logged part (OfClient c) there (suc count)) p

      serving : (s : Serving) → (d.tok.client c).phase ≡ Serves s → After (Serves s)
      serving s fact = fell_serving (suc count) d c there s fact

      -- ---- its own event

      at : node_of event ≡ Client c → (x : AnyNode) → Took (moment e count) event x → Some x ≡ Some (any.Client (b.tok.client c))
      at its x took =
          sym (subst (λ name. node_in (moment e count).nodes (place_of cl name) ≡ Some x) its (took_it cl (moment e count) cluster event x took))
          ∙ now.client_here logged part count b c there

      own : node_of event ≡ Client c → (x : AnyNode) → Took (moment e count) event x → (o : IsOwed logged part count event b x)
          → (t : Turned logged part count event b x o) → ClientWrites (t.then.tok.client c).phase
          → held.IsAway (t.then.tok.client c).phase → After (t.then.tok.client c).phase
      own its (any.Client x) took owed turned writes gone =
          client_fell laws logged part apart count event at_event cluster b sure c there its x took owed turned writes known.all
          (fell c there) gone
      own its (any.Manager x) took owed turned writes gone = absurd (let clash = at its (any.Manager x) took in cc)
      own its (any.Server x) took owed turned writes gone = absurd (let clash = at its (any.Server x) took in cc)
      own its (any.Cleaner x) took owed turned writes gone = absurd (let clash = at its (any.Cleaner x) took in cc)
      own its (any.Registry x) took owed turned writes gone = absurd (let clash = at its (any.Registry x) took in cc)

      by_own : (p : Phase) → (d.tok.client c).phase ≡ p → node_of event ≡ Client c → After p
      by_own (Serves s) fact its = serving s fact
      by_own (Down l) fact its = subst After fact
          (own its node took owed turned (writes c there.0 there.1) (subst held.IsAway (sym fact) tt))
      by_own (Opening l o) fact its = subst After fact
          (own its node took owed turned (writes c there.0 there.1) (subst held.IsAway (sym fact) tt))

      -- ---- an event of another

      module _ (away : Client c ≡ node_of event → ⊥) where
        here_then : node_in (moment e (suc count)).nodes (place_of cl (Client c)) ≡ node_in (moment e count).nodes (place_of cl (Client c))
        here_then =
            ap (λ (w : World AnyNode). node_in w.nodes (place_of cl (Client c))) (moment_next e count event at_event)
            ∙ (ap (λ nodes. node_in nodes (place_of cl (Client c))) took.nodes
            ∙ places.there cl (moment e count).nodes (node_of event) took.place
            (subst (λ x. place_of x (node_of event) ≡ Some took.place) cluster took.placed) (any_step node (what_of event)).node (Client c) away)

        same : d.tok.client c ≡ b.tok.client c
        same = same_client (d.tok.client c) (b.tok.client c)
            (sym (now.client_here logged part (suc count) d c there)
            ∙ (here_then ∙ now.client_here logged part count b c there))

        flight : flew_at logged part (OfClient c) there (suc count) ≡ flew_at logged part (OfClient c) there count
        flight =
            ap (λ (m : Moment (setting base e (OfClient c)) ((lines (OfClient c) there).scene (suc count)).net). last_flight m.run)
            ((lines (OfClient c) there).joined count)
            ∙ left_flight logged part laws count (OfClient c) there ((lines (OfClient c) there).others count event at_event away)

        acts : (moment e (suc count)).acts ≡ (moment e count).acts ++ (any_step node (what_of event)).acts
        acts = ap (λ (w : World AnyNode). w.acts) (moment_next e count event at_event) ∙ took.acts

        -- its fall stays as it was told
        stays : b.tok.net.up c ≡ false
            → FellWith (moment e count).acts c (flew_at logged part (OfClient c) there count)
            → FellWith (moment e (suc count)).acts c (flew_at logged part (OfClient c) there (suc count))
        stays down was =
            subst (λ (xs : List Act). FellWith xs c (flew_at logged part (OfClient c) there (suc count))) (sym acts)
            (subst (FellWith ((moment e count).acts ++ (any_step node (what_of event)).acts) c) (sym flight)
            (laws.reopenings.flights.falls_stay (moment e count).acts (any_step node (what_of event)).acts c (flew_at logged part (OfClient c) there count)
            (others_quiet laws logged part of_eight count event cluster may b c down away node took owed.adopted owed.tokens) was))

        by_other : (p : Phase) → (b.tok.client c).phase ≡ p → After p
        by_other (Serves s) fact = serving s (ap (λ (x : ClientNode). x.phase) same ∙ fact)
        by_other (Down l) fact =
            stays (subst (held.ClientAgrees true part c b.tok.net) fact (now.client_held logged part count b c there)).up
            (subst (FallKnown (moment e count).acts c (flew_at logged part (OfClient c) there count)) fact (fell c there))
        by_other (Opening l o) fact =
            stays (subst (held.ClientAgrees true part c b.tok.net) fact (now.client_held logged part count b c there)).up
            (subst (FallKnown (moment e count).acts c (flew_at logged part (OfClient c) there count)) fact (fell c there))

        other : After (d.tok.client c).phase
        other = subst (λ (x : ClientNode). After x.phase) (sym same) (by_other (b.tok.client c).phase refl)

    pub fell_then : FallsKnown (suc count) d
    fell_then c there = ⊎_elim (λ its. by_own c there (d.tok.client c).phase refl its) (λ away. other c there away) (client_or_not c (node_of event))
