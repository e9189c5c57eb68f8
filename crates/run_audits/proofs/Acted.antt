-- What is acted in a run is acted in an event of it, by the node to which that happens.
use Rattle.std.proofs.Common.{◌≡◌, ◌⊎◌, ◌<◌, ◌+◌, ◌-◌, ℕ, zero, suc, List, [], ◌∷◌, ◌++◌, take, Option, Some, None, drop, length, inl, inr, refl, sym, ap, subst, ◌∙◌, arith}
use Rattle.std.proofs.Math.Seq.{drop-append_seam}
use Rattle.std.specs.List.{fold}
use Rattle.std.specs.Prelude.{slice_get}
use Rattle.std.proofs.lemmas.Option.{slice_get_within}
use Rattle.core_world.specs.AnyNode.{any_start, any_step}
use Rattle.core_world.specs.declared.any_node.AnyNode.{AnyNode}
use Rattle.headline.specs.Moments.{acts_in, moment, node_in, node_named}
use Rattle.run_laws.proofs.world_law.Sent.{in_append}
use Rattle.run_laws.proofs.world_reads.Taking.{NothingHappens, Took, moment_next, takes_or_not}
use Rattle.run_laws.proofs.world_reads.TurnRun.{past_end}
use Rattle.token_protocol.specs.Basics.{In}
use Rattle.version_model.specs.declared.act.Act.{Act}
use Rattle.world_base.specs.declared.estate.Estate.{Estate}
use Rattle.world_base.specs.declared.event.Event.{Event}
use Rattle.world_base.specs.declared.world.World.{World}
use Rattle.world_base.specs.Events.{node_of, what_of}
use Rattle.world_base.specs.NextWorld.{next_world, start_world}
use Rattle.world_base.specs.Runs.{IsRun, Leads}

module _ (e : Estate AnyNode) (a : Act) where
  pub record Acted (count : ℕ) : Type 0 where
    pub at : ℕ
    pub before : at < count
    pub event : Event
    pub happens : slice_get e.events at ≡ Some event
    pub node : AnyNode
    pub took : Took (moment e at) event node
    pub does : In a (any_step node (what_of event)).acts

  -- it is the node of that name, and these are the acts of the event
  pub there : (count : ℕ) (t : Acted count) → node_named (moment e t.at) (node_of t.event) ≡ Some t.node
  there count t = ap (node_in (moment e t.at).nodes) t.took.placed ∙ t.took.stands

  pub its : (count : ℕ) (t : Acted count) → acts_in (moment e t.at) t.event ≡ (any_step t.node (what_of t.event)).acts
  its count t =
      ap (drop (length (moment e t.at).acts)) t.took.acts ∙ drop-append_seam (moment e t.at).acts (any_step t.node (what_of t.event)).acts

  pub among : (count : ℕ) (t : Acted count) → In a (acts_in (moment e t.at) t.event)
  among count t = subst (In a) (sym (its count t)) t.does

  later : (count : ℕ) → Acted count → Acted (suc count)
  later count t = record {
    at = t.at;
    before = (let b = t.before in omega arith);
    event = t.event;
    happens = t.happens;
    node = t.node;
    took = t.took;
    does = t.does;
  }

  one_more : (count : ℕ) (event : Event) → slice_get e.events count ≡ Some event
      → NothingHappens (moment e count) event ⊎ ((node : AnyNode) × Took (moment e count) event node) → (In a (moment e count).acts → Acted count)
      → In a (next_world any_step (moment e count) event).acts → Acted (suc count)
  one_more count event happens (inl nothing) was fact = later count (was (subst (In a) nothing.acts fact))
  one_more count event happens (inr turn) was fact =
      by (in_append (moment e count).acts (any_step turn.0 (what_of event)).acts a (subst (In a) turn.1.acts fact))
    where
      by : In a (moment e count).acts ⊎ In a (any_step turn.0 (what_of event)).acts → Acted (suc count)
      by (inl earlier) = later count (was earlier)
      by (inr now) =
          record { at = count; before = omega arith; event = event; happens = happens; node = turn.0; took = turn.1; does = now }

  pub acted : (count : ℕ) → In a (moment e count).acts → Acted count
  unfolding start_world
  acted zero fact = absurd fact
  acted (suc count) fact = by (acted count) (slice_get e.events count) refl
    where
      by : (In a (moment e count).acts → Acted count) → (o : Option Event) → slice_get e.events count ≡ o → Acted (suc count)
      by was None none =
          let same : moment e (suc count) ≡ moment e count = ap (fold (next_world any_step) (start_world any_start e.script)) (past_end e.events count none) in
          later count (was (subst (λ (w : World AnyNode). In a w.acts) same fact))
      by was (Some event) happens =
          one_more count event happens (takes_or_not (moment e count) event) was
          (subst (λ (w : World AnyNode). In a w.acts) (moment_next e count event happens) fact)

-- ---- the end of a run

pub at_end : (events : List Event) (w end : World AnyNode) → Leads any_step w events end → fold (next_world any_step) w (take (length events) events) ≡ end
at_end [] w end leads = leads
at_end (event ∷ events) w end leads = at_end events (next_world any_step w event) end leads.1

module _ (e : Estate AnyNode) (run : IsRun any_step any_start e.script e.events e.world) (a : Act) where
  in_left : (xs ys : List Act) → In a xs → In a (xs ++ ys)
  in_left [] ys fact = absurd fact
  in_left (x ∷ xs) ys (inl same) = inl same
  in_left (x ∷ xs) ys (inr fact) = inr (in_left xs ys fact)

  stays : (count : ℕ) → In a (moment e count).acts → In a (moment e (suc count)).acts
  stays count fact = by (slice_get e.events count) refl
    where
      next : (event : Event) → NothingHappens (moment e count) event ⊎ ((node : AnyNode) × Took (moment e count) event node)
          → In a (next_world any_step (moment e count) event).acts
      next event (inl nothing) = subst (In a) (sym nothing.acts) fact
      next event (inr turn) =
          subst (In a) (sym turn.1.acts) (in_left (moment e count).acts (any_step turn.0 (what_of event)).acts fact)

      by : (o : Option Event) → slice_get e.events count ≡ o → In a (moment e (suc count)).acts
      by None none =
          subst (λ (w : World AnyNode). In a w.acts)
          (sym (ap (fold (next_world any_step) (start_world any_start e.script)) (past_end e.events count none))) fact
      by (Some event) happens =
          subst (λ (w : World AnyNode). In a w.acts) (sym (moment_next e count event happens)) (next event (takes_or_not (moment e count) event))

  upto : (k count : ℕ) → In a (moment e count).acts → In a (moment e (count + k)).acts
  upto zero count fact = subst (λ n. In a (moment e n).acts) (omega arith) fact
  upto (suc k) count fact = subst (λ n. In a (moment e n).acts) (omega arith) (upto k (suc count) (stays count fact))

  -- what was acted by a moment is among the acts of the run
  pub acted_at_end : (count : ℕ) → In a (moment e count).acts → In a e.world.acts
  acted_at_end count fact =
      let t = acted e a count fact in
      let within = slice_get_within e.events t.at t.event t.happens in
      let then : In a (moment e (suc t.at)).acts =
      subst (λ (w : World AnyNode). In a w.acts) (sym (moment_next e t.at t.event t.happens))
      (subst (In a) (sym t.took.acts) (in_after (moment e t.at).acts (any_step t.node (what_of t.event)).acts t.does)) in
      subst (λ (w : World AnyNode). In a w.acts) (at_end e.events (start_world any_start e.script) e.world run)
      (subst (λ n. In a (moment e n).acts) (omega (arith, within)) (upto (length e.events - suc t.at) (suc t.at) then))
    where
      in_after : (xs ys : List Act) → In a ys → In a (xs ++ ys)
      in_after [] ys here = here
      in_after (x ∷ xs) ys here = inr (in_after xs ys here)
