-- Each segment that is acted to be filed in a run was told to be filed by an owner of a log: servers and the registry act none.
use Rattle.std.proofs.Common.{◌≡◌, ◌⊎◌, ◌+◌, ℕ, zero, suc, Bool, true, false, List, [], ◌∷◌, ◌++◌, Option, None, Some, drop, length, slice_get, if◌then◌else◌, inl, inr, refl, sym, ap, subst, ◌∙◌, arith}
use Rattle.std.proofs.lemmas.List.Elements.{recursion_from_All}
use Rattle.std.specs.List.{AllByRecursion, fold}
use Rattle.cleaner_job.specs.Starting.{cleaner_log}
use Rattle.core_world.specs.AnyNode.{any_start, any_step}
use Rattle.core_world.specs.declared.any_node.AnyNode.{AnyNode}
use Rattle.core_world.specs.declared.any_node.AnyNode.TheVariants as any
use Rattle.manager_slots.specs.Lasting.{log_of}
use Rattle.node_base.specs.declared.effects.Effect.{Effect}
use Rattle.node_base.specs.declared.effects.Effect.TheVariants.{Send, Answer, Lose, Does}
use Rattle.node_base.specs.Effects.{acts_of}
use Rattle.node_base.specs.Setups.{IsSetup}
use Rattle.node_moves.proofs.registry_moves.Keeping.{event_says}
use Rattle.node_moves.specs.registry_moves.Moves.{Said}
use Rattle.node_moves.specs.registry_moves.Moves.Said.{TellsMaps}
use Rattle.node_slots.specs.owner_index_tie.ServerEvents.{DoesNothing, LeavesLogs, ServerEventGoes}
use Rattle.registry.specs.BoardState.{BoardState}
use Rattle.registry_node.specs.declared.node.RegistryNode.{RegistryNode}
use Rattle.registry_node.specs.Events.{takes as registry_takes}
use Rattle.store_nodes.specs.declared.server.Server.{Server as ServerNode}
use Rattle.store_nodes.specs.ServerEvents.{takes as server_takes}
use Rattle.token_protocol.specs.Basics.{In}
use Rattle.version_model.specs.declared.act.Act.{Act}
use Rattle.version_model.specs.declared.act.Act.TheVariants as act
use Rattle.wire_msg.specs.declared.packet.Do.{Do}
use Rattle.world_base.specs.Cluster.{cluster_of, place_of}
use Rattle.world_base.specs.declared.cluster.Cluster.{Cluster}
use Rattle.world_base.specs.declared.estate.Estate.{Estate}
use Rattle.world_base.specs.declared.event.Event.{Event}
use Rattle.world_base.specs.declared.world.World.{World}
use Rattle.world_base.specs.Events.{node_of, what_of}
use Rattle.world_base.specs.NextWorld.{next_world, start_world}
use Rattle.world_base.specs.Runs.{IsRun}
use Rattle.run_laws.proofs.world_law.Laws as tokens
use Rattle.run_laws.proofs.world_law.Places.{behind}
use Rattle.headline.specs.Moments.{acts_in, moment, node_in}
use Rattle.headline.specs.Logs.{IsThere, Role, acts_by, did, log_by, acts_of as owners_acts, owns}
use Rattle.headline.specs.Logs.Role.{OfClient, OfCleaner, OfManager}
use Rattle.run_laws.proofs.world_reads.CleanerFront.{did_next}
use Rattle.run_laws.proofs.world_reads.Taking.{NothingHappens, Took, did_before, did_then, moment_next, takes_or_not, took_it}
use Rattle.run_laws.proofs.world_reads.TurnRun.{moment_cluster, past_end}
use Rattle.xfs_base.proofs.Alls.{all_weaker}
use Rattle.xfs_base.proofs.Booleans.{equal_itself}
use Rattle.xfs_base.specs.declared.node.NodeId.{NodeId}
use Rattle.xfs_base.specs.declared.node.NodeId.TheVariants.{Client, Manager, Server, Cleaner, Registry}
use Rattle.xfs_base.specs.declared.segment.SegName.{SegName}
use Rattle.run_laws.proofs.world_law.Sent.{in_append}

-- ---- what files nothing

-- the effect files and drops nothing
abbrev Quiet : Effect → Type 0
Quiet (Send to m) = Unit {0}
Quiet (Answer item answer) = Unit {0}
Quiet (Lose seg) = Unit {0}
Quiet (Does a) = LeavesLogs a

unfiled : (node : NodeId) (name : SegName) (outs : List Effect) → AllByRecursion Quiet outs → In (act.Filed name) (acts_of node outs) → ⊥
unfiled node name [] all fact = fact
unfiled node name (Send to m ∷ outs) all fact = unfiled node name outs all.1 fact
unfiled node name (Answer item answer ∷ outs) all (inl same) = absurd cc
unfiled node name (Answer item answer ∷ outs) all (inr more) = unfiled node name outs all.1 more
unfiled node name (Lose seg ∷ outs) all (inl same) = absurd cc
unfiled node name (Lose seg ∷ outs) all (inr more) = unfiled node name outs all.1 more
unfiled node name (Does a ∷ outs) all (inl same) = subst LeavesLogs (sym same) all.0
unfiled node name (Does a ∷ outs) all (inr more) = unfiled node name outs all.1 more

quiet_of : (effect : Effect) → DoesNothing effect → Quiet effect
quiet_of (Send to m) fact = tt
quiet_of (Answer item answer) fact = tt
quiet_of (Lose seg) fact = tt
quiet_of (Does a) fact = fact

server_files_none : ServerEventGoes → (server : ServerNode) (what : Do) (name : SegName) → In (act.Filed name) (any_step (any.Server server) what).acts → ⊥
server_files_none goes server what name fact =
    unfiled (Server server.number) name (server_takes server what).outs
    (all_weaker DoesNothing Quiet quiet_of (server_takes server what).outs (recursion_from_All DoesNothing (server_takes server what).outs (goes server what)))
    fact

-- ---- the registry

registry_acts_none : (node : RegistryNode) (what : Do) (now : BoardState) (e : Effect) → Said node what now e → Quiet e
registry_acts_none node what now e (TellsMaps to) = tt
registry_acts_none node what now e _ = tt

registry_quiet : (node : RegistryNode) (what : Do) → AllByRecursion Quiet (registry_takes node what).outs
registry_quiet node what = event_says node what Quiet (registry_acts_none node what)

registry_files_none : (node : RegistryNode) (what : Do) (name : SegName) → In (act.Filed name) (any_step (any.Registry node) what).acts → ⊥
registry_files_none node what name fact = unfiled Registry name (registry_takes node what).outs (registry_quiet node what) fact

-- ---- all events

module _ (laws : tokens.NodeLaws) (servers : ServerEventGoes) (e : Estate AnyNode) (setup : IsSetup e.script.setup)
    (run : IsRun any_step any_start e.script e.events e.world) (name : SegName) where
  abbrev k : Cluster
  k = cluster_of e.script.setup

  -- an owner of a log told it to be filed
  pub record ToldByOwner (count : ℕ) : Type 0 where
    pub role : Role
    pub there : IsThere e.script.setup.clients e.script.setup.managers role
    pub among : In (act.Filed name) (did e (log_by role) count)

  before : (count : ℕ) → ToldByOwner count → ToldByOwner (suc count)
  before count t = record { role = t.role; there = t.there; among = did_before e (log_by t.role) count (act.Filed name) t.among }

  module _ (count : ℕ) (event : Event) (at : slice_get e.events count ≡ Some event) (node : AnyNode) (took : Took (moment e count) event node)
      (fact : In (act.Filed name) (any_step node (what_of event)).acts) where
    -- it has a place
    placed : (id : NodeId) → node_of event ≡ id → place_of k id ≡ Some took.place
    placed id own =
        subst (λ (n : NodeId). place_of k n ≡ Some took.place) own
        (subst (λ (c : Cluster). place_of c (node_of event) ≡ Some took.place) (moment_cluster e count) took.placed)

    by_role : (r : Role) → IsThere e.script.setup.clients e.script.setup.managers r → owns (log_by r) (node_of event) ≡ true → ToldByOwner (suc count)
    by_role r there its =
        record { role = r; there = there; among = did_then e (log_by r) count event node at its took (act.Filed name) fact }

    -- the node of this name is the one that took it
    it_is : (id : NodeId) → node_of event ≡ id → (x : AnyNode) → node_in (moment e count).nodes (place_of k id) ≡ Some x → x ≡ node
    it_is id own x here =
        tokens.one_node x node (sym here ∙ (ap (λ (n : NodeId). node_in (moment e count).nodes (place_of k n)) (sym own)
        ∙ took_it k (moment e count) (moment_cluster e count) event node took))

    by_name : (id : NodeId) → node_of event ≡ id → ToldByOwner (suc count)
    by_name (Client d) own =
        let b = behind 0 k.clients d took.place (placed (Client d) own) in
        by_role (OfClient d) (b.some, b.within) (ap (owns d) own ∙ equal_itself d)
    by_name (Manager j) own =
        let b = behind k.clients k.managers j took.place (placed (Manager j) own) in
        by_role (OfManager j) (b.some, b.within) (ap (owns (log_of j).0) own ∙ equal_itself (log_of j).0)
    by_name Cleaner own = by_role OfCleaner tt (ap (owns cleaner_log.0) own)
    by_name (Server v) own =
        let f = tokens.front laws e setup run count 0 (omega arith) in
        let b = behind (k.clients + k.managers) k.servers v took.place (placed (Server v) own) in
        let s = f.1.1.placed.servers v b.some b.within in
        absurd (server_files_none servers s.0 (what_of event) name
        (subst (λ (x : AnyNode). In (act.Filed name) (any_step x (what_of event)).acts) (sym (it_is (Server v) own (any.Server s.0) s.1)) fact))
    by_name Registry own =
        let f = tokens.front laws e setup run count 0 (omega arith) in
        absurd (registry_files_none f.1.0.registry (what_of event) name
        (subst (λ (x : AnyNode). In (act.Filed name) (any_step x (what_of event)).acts)
        (sym (it_is Registry own (any.Registry f.1.0.registry) f.1.1.placed.registry)) fact))

  one_more : (count : ℕ) (event : Event) → slice_get e.events count ≡ Some event
      → NothingHappens (moment e count) event ⊎ ((node : AnyNode) × Took (moment e count) event node)
      → (In (act.Filed name) (moment e count).acts → ToldByOwner count) → In (act.Filed name) (next_world any_step (moment e count) event).acts
      → ToldByOwner (suc count)
  one_more count event at (inl nothing) was fact = before count (was (subst (In (act.Filed name)) nothing.acts fact))
  one_more count event at (inr turn) was fact =
      by (in_append (moment e count).acts (any_step turn.0 (what_of event)).acts (act.Filed name) (subst (In (act.Filed name)) turn.1.acts fact))
    where
      by : In (act.Filed name) (moment e count).acts ⊎ In (act.Filed name) (any_step turn.0 (what_of event)).acts → ToldByOwner (suc count)
      by (inl earlier) = before count (was earlier)
      by (inr now) = by_name count event at turn.0 turn.1 now (node_of event) refl

  pub told_by_owner : (count : ℕ) → In (act.Filed name) (moment e count).acts → ToldByOwner count
  unfolding start_world
  told_by_owner zero fact = absurd fact
  told_by_owner (suc count) fact = by (told_by_owner count) (slice_get e.events count) refl
    where
      by : (In (act.Filed name) (moment e count).acts → ToldByOwner count) → (o : Option Event) → slice_get e.events count ≡ o → ToldByOwner (suc count)
      by was None none =
          let same : moment e (suc count) ≡ moment e count = ap (fold (next_world any_step) (start_world any_start e.script)) (past_end e.events count none) in
          before count (was (subst (λ (w : World AnyNode). In (act.Filed name) w.acts) same fact))
      by was (Some event) at =
          one_more count event at (takes_or_not (moment e count) event) was
          (subst (λ (w : World AnyNode). In (act.Filed name) w.acts) (moment_next e count event at) fact)

-- ---- what an owner did is among all acts

in_left : (xs ys : List Act) (x : Act) → In x xs → In x (xs ++ ys)
in_left [] ys x fact = absurd fact
in_left (y ∷ xs) ys x (inl same) = inl same
in_left (y ∷ xs) ys x (inr more) = inr (in_left xs ys x more)

in_drop : (n : ℕ) (xs : List Act) (x : Act) → In x (drop n xs) → In x xs
in_drop zero xs x fact = fact
in_drop (suc n) [] x fact = fact
in_drop (suc n) (y ∷ xs) x fact = inr (in_drop n xs x fact)

acts_stay : (w : World AnyNode) (event : Event) → NothingHappens w event ⊎ ((node : AnyNode) × Took w event node) → (x : Act) → In x w.acts
    → In x (next_world any_step w event).acts
acts_stay w event (inl nothing) x fact = subst (In x) (sym nothing.acts) fact
acts_stay w event (inr turn) x fact = subst (In x) (sym turn.1.acts) (in_left w.acts (any_step turn.0 (what_of event)).acts x fact)

own_act : (l : ℕ) (w : World AnyNode) (event : Event) (x : Act) → In x (owners_acts l w event) → In x (next_world any_step w event).acts
own_act l w event x = by (owns l (node_of event))
  where
    by : (t : Bool) → In x (if t then acts_in w event else []) → In x (next_world any_step w event).acts
    by true fact = in_drop (length w.acts) (next_world any_step w event).acts x fact
    by false fact = absurd fact

module _ (e : Estate AnyNode) (l : ℕ) (x : Act) where
  abbrev Was : ℕ → Type 0
  Was count = In x (did e l count) → In x (moment e count).acts

  pub did_is_acted : (count : ℕ) → In x (did e l count) → In x (moment e count).acts
  did_is_acted zero fact = absurd fact
  did_is_acted (suc count) fact = by (did_is_acted count) (slice_get e.events count) refl
    where
      now : Was count → (event : Event) → In x (did e l count) ⊎ In x (owners_acts l (moment e count) event) → In x (next_world any_step (moment e count) event).acts
      now was event (inl earlier) = acts_stay (moment e count) event (takes_or_not (moment e count) event) x (was earlier)
      now was event (inr last) = own_act l (moment e count) event x last

      by : Was count → (o : Option Event) → slice_get e.events count ≡ o → In x (moment e (suc count)).acts
      by was None none =
          let past = past_end e.events count none in
          subst (λ (events : List Event). In x (fold (next_world any_step) (start_world any_start e.script) events).acts) (sym past)
          (was (subst (λ (events : List Event). In x (acts_by l (start_world any_start e.script) events)) past fact))
      by was (Some event) at =
          subst (λ (w : World AnyNode). In x w.acts) (sym (moment_next e count event at))
          (now was event (in_append (did e l count) (owners_acts l (moment e count) event) x (subst (In x) (did_next e count event at l) fact)))
