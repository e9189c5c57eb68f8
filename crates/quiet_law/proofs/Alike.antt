-- Stages that are alike: each node that there is, what was acted and how many items are unanswered are the same. What flows from one flows from the other.
use Rattle.std.proofs.Common.{◌≡◌, ℕ, zero, suc, ◌+◌, ◌-◌, true, false, cond, List, [], ◌∷◌, ◌++◌, map, refl, sym, ap, subst, ◌∙◌, arith}
use Rattle.std.specs.List.{AllByRecursion}
use Rattle.node_base.specs.Nodes.{has_node, peers_of}
use Rattle.play.specs.Plays.{answers}
use Rattle.quiet_flow.proofs.Flowing.{flows_done}
use Rattle.quiet_flow.proofs.Places.{has_fact}
use Rattle.quiet_flow.specs.Flow.{Done, Drains, Stage, delivers, flows, happens, rounds, stepped, ticks, turned}
use Rattle.wire_msg.specs.declared.packet.Do.{Do}
use Rattle.wire_msg.specs.declared.packet.Do.TheVariants.{Deliver, Tick}
use Rattle.wire_msg.specs.declared.packet.Packet.{Packet}
use Rattle.wire_msg.specs.NodeStep.{NodeStep}
use Rattle.world_base.proofs.Standing.{stands}
use Rattle.world_base.specs.Cluster.{HasNode, cluster_of, node_at, nodes_of}
use Rattle.xfs_base.specs.declared.node.NodeId.{NodeId}
use Rattle.xfs_base.specs.declared.setup.Setup.{Setup}
use Rattle.xfs_base.specs.Nodes.{same_node}
use Rattle.xfs_base.specs.Steps.{steps, still}

module _ {N : Type 0} (step : N → Do → NodeStep N) (setup : Setup) where
  pub record Alike (s t : Stage N) : Type 0 where
    pub node : (name : NodeId) → HasNode setup name → s.node name ≡ t.node name
    pub acts : s.acts ≡ t.acts
    pub unanswered : s.unanswered ≡ t.unanswered

  -- and the same was sent
  pub record AreAlike (a b : Done N) : Type 0 where
    pub state : Alike a.state b.state
    pub outs : a.outs ≡ b.outs

  turned_alike : (s t : Stage N) (name : NodeId) (r : NodeStep N) → Alike s t → Alike (turned s name r) (turned t name r)
  turned_alike s t name r a = record {
    node = λ other has.
        elim (same_node other name) as (λ b. cond b r.node (s.node other) ≡ cond b r.node (t.node other)) [ true ↦ refl | false ↦ a.node other has ];
    acts = ap (λ xs. xs ++ r.acts) a.acts;
    unanswered = ap (λ n. n - answers r.acts) a.unanswered;
  }

  happens_alike : (s t : Stage N) (name : NodeId) (what : Do) → HasNode setup name → Alike s t → AreAlike (happens step s name what) (happens step t name what)
  unfolding happens
  happens_alike s t name what has a =
      subst (λ r. AreAlike (stepped s name (step (s.node name) what)) (stepped t name r)) (ap (λ n. step n what) (a.node name has))
      (record { state = turned_alike s t name (step (s.node name) what) a; outs = refl })

  delivers_alike : (s t : Stage N) (packet : Packet) → Alike s t → AreAlike (delivers step setup s packet) (delivers step setup t packet)
  unfolding delivers
  delivers_alike s t packet a =
      elim (has_node (peers_of setup) packet.to) as (λ b. has_node (peers_of setup) packet.to ≡ b
      → AreAlike (cond b (happens step s packet.to (Deliver packet)) (still s)) (cond b (happens step t packet.to (Deliver packet)) (still t))) [
        | true ↦ λ there. happens_alike s t packet.to (Deliver packet) (has_fact setup packet.to there) a
        | false ↦ λ _. record { state = a; outs = refl }
      ] refl

  pub flows_alike : (n : ℕ) (s t : Stage N) (waiting : List Packet) → Alike s t → AreAlike (flows step setup n s waiting) (flows step setup n t waiting)
  unfolding flows
  flows_alike zero s t waiting a = record { state = a; outs = refl }
  flows_alike (suc n) s t [] a = record { state = a; outs = refl }
  flows_alike (suc n) s t (packet ∷ waiting) a =
      (let d = delivers_alike s t packet a in
      subst
      (λ outs. AreAlike (flows step setup n (delivers step setup s packet).state (waiting ++ (delivers step setup s packet).outs))
      (flows step setup n (delivers step setup t packet).state (waiting ++ outs))) d.outs
      (flows_alike n (delivers step setup s packet).state (delivers step setup t packet).state (waiting ++ (delivers step setup s packet).outs) d.state))

  -- time passes at these nodes
  ticks_alike : (names : List NodeId) (s t : Stage N) → AllByRecursion (HasNode setup) names → Alike s t
      → AreAlike (steps (ticks step setup) s names) (steps (ticks step setup) t names)
  ticks_alike [] s t have a = record { state = a; outs = refl }
  ticks_alike (name ∷ names) s t have a =
      (let d = happens_alike s t name Tick have.0 a in
      let rest = ticks_alike names (happens step s name Tick).state (happens step t name Tick).state have.1 d.state in
      record {
        state = rest.state;
        outs =
            ap (λ outs. outs ++ (steps (ticks step setup) (happens step s name Tick).state names).outs) d.outs
            ∙ ap (λ outs. (happens step t name Tick).outs ++ outs) rest.outs;
      })

  all_stand : (places : List ℕ) → AllByRecursion (HasNode setup) (map (node_at (cluster_of setup)) places)
  all_stand [] = tt
  all_stand (p ∷ places) = (stands setup p, all_stand places)

  pub rounds_alike : (s t : Stage N) → Alike s t → AreAlike (rounds step setup s) (rounds step setup t)
  rounds_alike s t a = ticks_alike (nodes_of (cluster_of setup)) s t (all_stand _) a

  -- ---- one after the other

  pub flows_both : (a b : ℕ) (s : Stage N) (waiting : List Packet)
      → flows step setup (a + b) s waiting ≡ flows step setup b (flows step setup a s waiting).state (flows step setup a s waiting).outs
  unfolding flows
  flows_both zero b s waiting = ap (λ n. flows step setup n s waiting) (none_more b)
    where
      none_more : (n : ℕ) → 0 + n ≡ n
      none_more n = omega arith
  flows_both (suc a) b s [] = flows_done step setup (suc a + b) s ∙ sym (flows_done step setup b s)
  flows_both (suc a) b s (packet ∷ waiting) =
      ap (λ n. flows step setup n s (packet ∷ waiting)) (suc_plus a b)
      ∙ flows_both a b (delivers step setup s packet).state (waiting ++ (delivers step setup s packet).outs)
    where
      suc_plus : (a b : ℕ) → suc a + b ≡ suc (a + b)
      suc_plus a b = omega arith

  done_is : (d : Done N) (end : Stage N) → d.state ≡ end → d.outs ≡ [] → d ≡ still end
  done_is d end same none = ap (λ o. record { state = d.state; outs = o }) none ∙ ap still same

  -- a stage from which nothing is on its way after so many deliveries, alike to one
  pub record DrainsAlike (n : ℕ) (t : Stage N) (waiting : List Packet) (as_end : Stage N) : Type 0 where
    pub end : Stage N
    pub drains : Drains step setup n t waiting end
    pub alike : Alike end as_end

  -- what drains from one drains from the other
  pub drains_alike : (n : ℕ) (t s : Stage N) (waiting : List Packet) (as_end : Stage N) → Alike t s → Drains step setup n s waiting as_end
      → DrainsAlike n t waiting as_end
  drains_alike n t s waiting as_end a h =
      (let b = flows_alike n t s waiting a in
      record {
        end = (flows step setup n t waiting).state;
        drains = done_is (flows step setup n t waiting) (flows step setup n t waiting).state refl (b.outs ∙ ap (λ (d : Done N). d.outs) h);
        alike = subst (λ (d : Done N). Alike (flows step setup n t waiting).state d.state) h b.state;
      })

  -- where one packet waits, its delivery is the first
  pub record AfterOne (n : ℕ) (s : Stage N) (packet : Packet) (end : Stage N) : Type 0 where
    pub less : ℕ
    pub is : n ≡ suc less
    pub drains : Drains step setup less (delivers step setup s packet).state (delivers step setup s packet).outs end

  pub after_one : (n : ℕ) (s : Stage N) (packet : Packet) (end : Stage N) → Drains step setup n s (packet ∷ []) end → AfterOne n s packet end
  unfolding flows
  after_one zero s packet end h = (let none : packet ∷ [] ≡ [] = ap (λ (d : Done N). d.outs) h in absurd (cc))
  after_one (suc n) s packet end h = record { less = n; is = refl; drains = h }
