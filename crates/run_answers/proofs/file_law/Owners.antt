-- In every run a node files its log in line, where its kind does in each event: at each moment the log of one that serves ends with the segment that it filed last.
use Rattle.std.proofs.Common.{◌≡◌, ◌⊎◌, ℕ, zero, suc, Bool, true, false, if◌then◌else◌, List, [], ◌∷◌, drop, inl, inr, length, slice_get, Option, Some, None, refl, sym, ap, subst, ◌∙◌}
use Rattle.std.proofs.Math.Seq.{drop-append_seam}
use Rattle.client_log.specs.LogState.{LogState}
use Rattle.core_world.specs.AnyNode.{any_start, any_step}
use Rattle.core_world.specs.declared.any_node.AnyNode.{AnyNode}
use Rattle.version_model.specs.declared.act.Act.{Act}
use Rattle.version_model.specs.declared.work.Work.{Work}
use Rattle.wire_msg.specs.declared.packet.Do.{Do}
use Rattle.world_base.specs.Cluster.{cluster_of, place_of}
use Rattle.world_base.specs.declared.estate.Estate.{Estate}
use Rattle.world_base.specs.declared.event.Event.{Event}
use Rattle.world_base.specs.declared.world.World.{World}
use Rattle.world_base.specs.Events.{node_of, what_of}
use Rattle.world_base.specs.Items.{items_of}
use Rattle.world_base.specs.NextWorld.{next_world, start_world}
use Rattle.xfs_base.proofs.NodeOrder.{same_node_is, same_node_itself}
use Rattle.xfs_base.specs.declared.node.NodeId.{NodeId}
use Rattle.xfs_base.specs.Logs.{log_of}
use Rattle.xfs_base.specs.Nodes.{same_node}
use Rattle.run_laws.proofs.world_law.Everyone.{everyone_so}
use Rattle.run_laws.proofs.world_law.Start.{first_stands}
use Rattle.run_laws.proofs.world_law.Turning.{next_cluster}
use Rattle.run_laws.proofs.world_reads.Taking.{NothingHappens, Took, moment_next, node_then, takes_or_not}
use Rattle.headline.specs.Moments.{acts_in, moment, node_in, node_named}
use Rattle.run_answers.proofs.act_law.Runs.{moment_first, moment_past}
use Rattle.headline.specs.Filings.{FilesItsLog, FilesNothing, FilesOn, at, filed_last, files_from, own_acts, opens_log, own_boot, own_last, own_log}

same_any : (a b : AnyNode) → Some a ≡ Some b → a ≡ b
same_any a b fact = cc

no_log : (log : LogState) → None ≡ Some log → ⊥
no_log log fact = cc

one_log : (a b : LogState) → Some a ≡ Some b → a ≡ b
one_log a b fact = cc

no_node : (x : AnyNode) → None ≡ Some x → ⊥
no_node x fact = cc

no_more : (xs : List Act) → drop (length xs) xs ≡ []
no_more [] = refl
no_more (x ∷ xs) = no_more xs

module _ (name : NodeId) where
  -- what an event makes of a node of this name
  pub record Turned (Holds : ℕ → AnyNode → Type 0) (last : ℕ) (x : AnyNode) (what : Do) : Type 0 where
    pub holds : Holds (filed_last (files_from (Some x) last) (any_step x what).acts) (any_step x what).node
    pub numbers : (log : LogState) → own_log (Some x) ≡ Some log → FilesOn (log_of name) log.inc last (any_step x what).acts
    pub opens : own_log (Some x) ≡ None → (log : LogState) → own_log (Some (any_step x what).node) ≡ Some log → log.inc ≡ own_boot (Some (any_step x what).node)
    pub stays : (was log : LogState) → own_log (Some x) ≡ Some was → own_log (Some (any_step x what).node) ≡ Some log → log.inc ≡ was.inc

  -- what is known of it by the number that it filed last
  pub record Kind (e : Estate AnyNode) : Type 1 where
    pub Holds : ℕ → AnyNode → Type 0
    pub starts : (works : List Work) → Holds 0 (any_start name e.script.setup works)
    -- while it stands as it is that number stays, or it has no log
    pub rests : (last : ℕ) (x : AnyNode) → Holds last x → Holds (files_from (Some x) last) x
    pub ends : (last : ℕ) (x : AnyNode) (log : LogState) → Holds last x → own_log (Some x) ≡ Some log → log.end.seq ≡ last
    pub turns : (last : ℕ) (x : AnyNode) (what : Do) → Holds last x → Turned Holds last x what

-- in an event before which its log isn't open each files nothing, but by the one in which the log that it opens is open
abbrev pub FilesOpenAlone : Type 0
FilesOpenAlone = (x : AnyNode) (what : Do) → own_log (Some x) ≡ None → (opens_log (Some x) ≡ true → own_log (Some (any_step x what).node) ≡ None)
    → FilesNothing (any_step x what).acts

module _ (e : Estate AnyNode) (name : NodeId) (kind : Kind name e) (alone : FilesOpenAlone) where
  open kind use {Holds}

  abbrev last : ℕ → ℕ
  last count = own_last e name count

  abbrev HoldsAt : ℕ → Option AnyNode → Type 0
  HoldsAt count o = (x : AnyNode) → o ≡ Some x → Holds (last count) x

  -- of all nodes, that this one holds
  abbrev Own : ℕ → NodeId → AnyNode → Type 0
  Own count other x = other ≡ name → Holds (last count) x

  start_holds : HoldsAt 0 (node_named (start_world any_start e.script) name)
  unfolding start_world
  start_holds x = by (place_of (cluster_of e.script.setup) name) refl
    where
      by : (o : Option ℕ) → place_of (cluster_of e.script.setup) name ≡ o → node_in (start_world any_start e.script).nodes o ≡ Some x → Holds 0 x
      by None named fact = absurd cc
      by (Some p) named fact =
          let here : node_in (start_world any_start e.script).nodes (Some p) ≡ Some (any_start name e.script.setup (items_of e.script.lines name)) =
          ap (node_in (start_world any_start e.script).nodes) (sym named) ∙ first_stands e.script name p named in
          subst (Holds 0) (same_any (any_start name e.script.setup (items_of e.script.lines name)) x (sym here ∙ fact))
          (kind.starts (items_of e.script.lines name))

  last_then : (count : ℕ) (o : Option Event) → slice_get e.events count ≡ o
      → last (suc count) ≡ filed_last (files_from (at e name count) (last count)) (own_acts e name count o)
  last_then count o fact = ap (λ (x : Option Event). filed_last (files_from (at e name count) (last count)) (own_acts e name count x)) fact

  -- where it acts nothing
  still_holds : (count : ℕ) (x : AnyNode) → at e name count ≡ Some x → last (suc count) ≡ files_from (at e name count) (last count) → Holds (last count) x
      → Holds (last (suc count)) x
  still_holds count x there same h =
      subst (λ n. Holds n x) (sym (same ∙ ap (λ (o : Option AnyNode). files_from o (last count)) there)) (kind.rests (last count) x h)

  -- ---- an event

  module _ (count : ℕ) (event : Event) (happens : slice_get e.events count ≡ Some event) where
    abbrev w : World AnyNode
    w = moment e count

    abbrev from : ℕ
    from = files_from (at e name count) (last count)

    last_of_others : (name ≡ node_of event → ⊥) → last (suc count) ≡ from
    last_of_others differs = last_then count (Some event) happens ∙ by (same_node (node_of event) name) refl
      where
        by : (t : Bool) → same_node (node_of event) name ≡ t → filed_last from (if t then acts_in w event else []) ≡ from
        by true fact = absurd (differs (sym (same_node_is (node_of event) name fact)))
        by false fact = refl

    last_of_none : acts_in w event ≡ [] → last (suc count) ≡ from
    last_of_none none = last_then count (Some event) happens ∙ by (same_node (node_of event) name)
      where
        by : (t : Bool) → filed_last from (if t then acts_in w event else []) ≡ from
        by true = ap (filed_last from) none
        by false = refl

    last_of_own : name ≡ node_of event → last (suc count) ≡ filed_last from (acts_in w event)
    last_of_own named =
        last_then count (Some event) happens
        ∙ ap (λ (t : Bool). filed_last from (if t then acts_in w event else []))
        (subst (λ n. same_node n name ≡ true) named (same_node_itself name))

    nothing_acted : NothingHappens w event → acts_in w event ≡ []
    nothing_acted none = ap (drop (length w.acts)) none.acts ∙ no_more w.acts

    acted : (x : AnyNode) → Took w event x → acts_in w event ≡ (any_step x (what_of event)).acts
    acted x took = ap (drop (length w.acts)) took.acts ∙ drop-append_seam w.acts (any_step x (what_of event)).acts

    took_at : (x : AnyNode) (took : Took w event x) → node_named w (node_of event) ≡ Some x
    took_at x took = ap (node_in w.nodes) took.placed ∙ took.stands

    its_turn : (x : AnyNode) → Took w event x → node_of event ≡ name → HoldsAt count (at e name count) → Holds (last (suc count)) (any_step x (what_of event)).node
    its_turn x took named all =
        let there : at e name count ≡ Some x = ap (node_named w) (sym named) ∙ took_at x took in
        let t : Turned name Holds (last count) x (what_of event) = kind.turns (last count) x (what_of event) (all x there) in
        let same : last (suc count) ≡ filed_last (files_from (Some x) (last count)) (any_step x (what_of event)).acts =
        last_of_own (sym named)
        ∙ (ap (filed_last from) (acted x took)
        ∙ ap (λ (o : Option AnyNode). filed_last (files_from o (last count)) (any_step x (what_of event)).acts) there) in
        subst (λ n. Holds n (any_step x (what_of event)).node) (sym same) t.holds

    next_holds : HoldsAt count (at e name count) → HoldsAt (suc count) (node_named (next_world any_step w event) name)
    next_holds all =
        subst (λ k. HoldsAt (suc count) (node_in (next_world any_step w event).nodes (place_of k name))) (sym (next_cluster any_step w event))
        (by (takes_or_not w event))
      where
        by : NothingHappens w event ⊎ ((x : AnyNode) × Took w event x) → HoldsAt (suc count) (node_in (next_world any_step w event).nodes (place_of w.cluster name))
        by (inl none) =
            subst (λ xs. HoldsAt (suc count) (node_in xs (place_of w.cluster name))) (sym none.nodes)
            (λ x fact. still_holds count x fact (last_of_none (nothing_acted none)) (all x fact))
        by (inr took) =
            let t : Took w event took.0 = took.1 in
            subst (λ xs. HoldsAt (suc count) (node_in xs (place_of w.cluster name))) (sym t.nodes)
            (λ x fact. everyone_so w.cluster w.nodes (node_of event) t.place t.placed took.0 (any_step took.0 (what_of event)).node t.stands
            (Own (suc count)) (λ named. its_turn took.0 t named all)
            (λ other y differs there own.
            let here : at e name count ≡ Some y = ap (node_named w) (sym own) ∙ there in
            still_holds count y here (last_of_others (λ its. differs (own ∙ its))) (all y here)) name x fact refl)

  -- ---- at each moment

  holds_next : (count : ℕ) → HoldsAt count (at e name count) → HoldsAt (suc count) (at e name (suc count))
  holds_next count all = by (slice_get e.events count) refl
    where
      by : (o : Option Event) → slice_get e.events count ≡ o → HoldsAt (suc count) (at e name (suc count))
      by None fact =
          subst (λ v. HoldsAt (suc count) (node_named v name)) (sym (moment_past e count fact))
          (λ x there. still_holds count x there (last_then count None fact) (all x there))
      by (Some event) fact =
          subst (λ v. HoldsAt (suc count) (node_named v name)) (sym (moment_next e count event fact)) (next_holds count event fact all)

  holds_at : (count : ℕ) → HoldsAt count (at e name count)
  holds_at zero = subst (λ v. HoldsAt 0 (node_named v name)) (sym (moment_first e)) start_holds
  holds_at (suc count) = holds_next count (holds_at count)

  ends_so : (count : ℕ) (log : LogState) → own_log (at e name count) ≡ Some log → log.end.seq ≡ last count
  ends_so count log = by (at e name count) refl
    where
      by : (o : Option AnyNode) → at e name count ≡ o → own_log o ≡ Some log → log.end.seq ≡ last count
      by None there fact = absurd (no_log log fact)
      by (Some x) there fact = kind.ends (last count) x log (holds_at count x there) fact

  -- ---- what it files in an event

  numbers_so : (count : ℕ) (event : Event) → slice_get e.events count ≡ Some event → node_of event ≡ name → (log : LogState) → own_log (at e name count) ≡ Some log
      → FilesOn (log_of name) log.inc (last count) (acts_in (moment e count) event)
  numbers_so count event happens named log is = by (takes_or_not (moment e count) event)
    where
      by : NothingHappens (moment e count) event ⊎ ((x : AnyNode) × Took (moment e count) event x)
          → FilesOn (log_of name) log.inc (last count) (acts_in (moment e count) event)
      by (inl none) = subst (FilesOn (log_of name) log.inc (last count)) (sym (nothing_acted count event happens none)) tt
      by (inr took) =
          let there : at e name count ≡ Some took.0 = ap (node_named (moment e count)) (sym named) ∙ took_at count event happens took.0 took.1 in
          let t : Turned name Holds (last count) took.0 (what_of event) = kind.turns (last count) took.0 (what_of event) (holds_at count took.0 there) in
          subst (FilesOn (log_of name) log.inc (last count)) (sym (acted count event happens took.0 took.1)) (t.numbers log (sym (ap own_log there) ∙ is))

  -- where its log isn't open before the event
  nothing_so : (count : ℕ) (event : Event) → slice_get e.events count ≡ Some event → node_of event ≡ name → own_log (at e name count) ≡ None
      → (opens_log (at e name count) ≡ true → own_log (at e name (suc count)) ≡ None) → FilesNothing (acts_in (moment e count) event)
  nothing_so count event happens named closed behind = by (takes_or_not (moment e count) event)
    where
      w : World AnyNode
      w = moment e count

      by : NothingHappens w event ⊎ ((x : AnyNode) × Took w event x) → FilesNothing (acts_in w event)
      by (inl none) = subst FilesNothing (sym (nothing_acted count event happens none)) tt
      by (inr took) =
          let there : at e name count ≡ Some took.0 = ap (node_named w) (sym named) ∙ took_at count event happens took.0 took.1 in
          let after : at e name (suc count) ≡ Some (any_step took.0 (what_of event)).node =
          ap (λ (v : World AnyNode). node_named v name) (moment_next e count event happens)
          ∙ (ap (λ k. node_in (next_world any_step w event).nodes (place_of k name)) (next_cluster any_step w event)
          ∙ (ap (λ n. node_in (next_world any_step w event).nodes (place_of w.cluster n)) (sym named) ∙ node_then w.cluster w refl event took.0 took.1)) in
          subst FilesNothing (sym (acted count event happens took.0 took.1))
          (alone took.0 (what_of event) (sym (ap own_log there) ∙ closed) (λ opens. sym (ap own_log after) ∙ behind (ap opens_log there ∙ opens)))

  -- ---- from one moment to the next

  -- the node stays as it is, or takes its step
  abbrev Follows : AnyNode → AnyNode → Type 0
  Follows x y = (y ≡ x) ⊎ ((what : Do) × (y ≡ (any_step x what).node))

  follows : (count : ℕ) (x y : AnyNode) → at e name count ≡ Some x → at e name (suc count) ≡ Some y → Follows x y
  follows count x y was is = by (slice_get e.events count) refl
    where
      w : World AnyNode
      w = moment e count

      P : NodeId → AnyNode → Type 0
      P other z = (v : AnyNode) → node_named w other ≡ Some v → Follows v z

      alike : (other : NodeId) (z : AnyNode) → node_named w other ≡ Some z → P other z
      alike other z fact v before = inl (same_any z v (sym fact ∙ before))

      event_so : (event : Event) → NothingHappens w event ⊎ ((z : AnyNode) × Took w event z) → node_in (next_world any_step w event).nodes (place_of w.cluster name) ≡ Some y
          → Follows x y
      event_so event (inl none) fact = alike name y (subst (λ xs. node_in xs (place_of w.cluster name) ≡ Some y) none.nodes fact) x was
      event_so event (inr took) fact =
          let t : Took w event took.0 = took.1 in
          everyone_so w.cluster w.nodes (node_of event) t.place t.placed took.0 (any_step took.0 (what_of event)).node t.stands P
          (λ v before. inr (what_of event, ap (λ u. (any_step u (what_of event)).node) (same_any took.0 v (sym (ap (node_in w.nodes) t.placed ∙ t.stands) ∙ before))))
          (λ other z differs before. alike other z before) name y
          (subst (λ xs. node_in xs (place_of w.cluster name) ≡ Some y) t.nodes fact) x was

      by : (o : Option Event) → slice_get e.events count ≡ o → Follows x y
      by None fact = alike name y (subst (λ v. node_named v name ≡ Some y) (moment_past e count fact) is) x was
      by (Some event) fact =
          event_so event (takes_or_not w event)
          (subst (λ k. node_in (next_world any_step w event).nodes (place_of k name) ≡ Some y) (next_cluster any_step w event)
          (subst (λ v. node_named v name ≡ Some y) (moment_next e count event fact) is))

  opens_so : (count : ℕ) (x y : AnyNode) (log : LogState) → at e name count ≡ Some x → at e name (suc count) ≡ Some y → own_log (Some x) ≡ None
      → own_log (Some y) ≡ Some log → log.inc ≡ own_boot (Some y)
  opens_so count x y log was is none some = by (follows count x y was is)
    where
      by : Follows x y → log.inc ≡ own_boot (Some y)
      by (inl same) = absurd (no_log log (sym none ∙ (ap (λ (z : AnyNode). own_log (Some z)) (sym same) ∙ some)))
      by (inr step) =
          let t : Turned name Holds (last count) x step.0 = kind.turns (last count) x step.0 (holds_at count x was) in
          subst (λ (z : AnyNode). log.inc ≡ own_boot (Some z)) (sym step.1) (t.opens none log (ap (λ (z : AnyNode). own_log (Some z)) (sym step.1) ∙ some))

  stays_so : (count : ℕ) (x y : AnyNode) (old log : LogState) → at e name count ≡ Some x → at e name (suc count) ≡ Some y → own_log (Some x) ≡ Some old
      → own_log (Some y) ≡ Some log → log.inc ≡ old.inc
  stays_so count x y old log was is before some = by (follows count x y was is)
    where
      by : Follows x y → log.inc ≡ old.inc
      by (inl same) = ap (λ (l : LogState). l.inc) (one_log log old (sym some ∙ (ap (λ (z : AnyNode). own_log (Some z)) same ∙ before)))
      by (inr step) =
          let t : Turned name Holds (last count) x step.0 = kind.turns (last count) x step.0 (holds_at count x was) in
          t.stays old log before (ap (λ (z : AnyNode). own_log (Some z)) (sym step.1) ∙ some)

  pub files_its_log : FilesItsLog e name
  files_its_log = record { numbers = numbers_so; nothing = nothing_so; ends = ends_so; opens = opens_so; stays = stays_so }
