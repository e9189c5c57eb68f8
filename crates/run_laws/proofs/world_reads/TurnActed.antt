-- What is filed of a log was acted to be filed by its owner, over every event: at the start nothing is filed, and a line goes on by what is acted alone.
use Rattle.std.proofs.Common.{◌≡◌, ◌<◌, ◌≤◌, ◌==◌, ℕ, suc, Bool, true, false, cond, List, [], ◌∷◌, Some, slice_get, inl, inr, refl, sym, ap, subst, ◌∙◌, arith}
use Rattle.std.proofs.lemmas.Bool.{eqb-true}
use Rattle.std.proofs.lemmas.Bool.Decides.{nat_tests}
use Rattle.cleaner_node.specs.CleanerEvents.{takes as cleaner_takes}
use Rattle.client_node.specs.Phases.{lasting_of, takes as client_takes}
use Rattle.core_world.specs.declared.any_node.AnyNode.{AnyNode}
use Rattle.core_world.specs.declared.any_node.AnyNode.TheVariants as any
use Rattle.headline.specs.Filed.{Filed, Texts as TextsOf}
use Rattle.index_tie.specs.Growth.{with_segment}
use Rattle.index_tie.specs.Net as index
use Rattle.node_base.specs.declared.effects.Effect.{Effect}
use Rattle.node_base.specs.declared.effects.Effect.TheVariants.{Send, Answer, Lose, Does}
use Rattle.node_base.specs.Effects.{acts_of}
use Rattle.node_slots.specs.node_index_tie.Sight.{Questions}
use Rattle.node_slots.proofs.owner_index_tie.Growing.{head_is, segment_is}
use Rattle.node_slots.proofs.owner_index_tie.Running.{others_after}
use Rattle.node_slots.specs.owner_index_tie.Acting.{ActSo, AllSo, EffectSo}
use Rattle.node_slots.specs.owner_index_tie.CleanerEvents.{NewFor}
use Rattle.node_slots.specs.owner_index_tie.ClientEvents.{IsNewerAtSlot}
use Rattle.node_slots.specs.owner_index_tie.Filing.{FilesNext, FilesOwed, IsSameLog, OwedAct, OwedEffect, after_act, after_effect, filed_after, with_name}
use Rattle.segment_format.specs.declared.segment.Segment.{Segment}
use Rattle.token_protocol.specs.Basics.{In}
use Rattle.version_model.specs.declared.act.Act.{Act}
use Rattle.version_model.specs.declared.act.Act.TheVariants.{Filed as ActsFiled}
use Rattle.wire_msg.specs.declared.packet.Do.{Do}
use Rattle.world_base.specs.declared.event.Event.{Event}
use Rattle.world_base.specs.Events.{node_of, what_of}
use Rattle.run_laws.specs.world_index.Owes.{IndexOwes, Makes}
use Rattle.headline.specs.Moments.{moment}
use Rattle.headline.specs.Logs.{did, log_by, owns}
use Rattle.run_laws.proofs.world_reads.Taking.{Took, did_before, did_then}
use Rattle.run_laws.specs.world_reads.Joint.{LinesActed}
use Rattle.run_laws.specs.world_reads.LoggedRuns.{LoggedRun}
use Rattle.xfs_base.proofs.Booleans.{by_test, contrary, equal_itself}
use Rattle.xfs_base.specs.declared.node.NodeId.{NodeId}
use Rattle.xfs_base.specs.declared.node.NodeId.TheVariants.{Client, Manager, Cleaner, Registry}
use Rattle.xfs_base.specs.declared.segment.SegName.{SegName}
use Rattle.xfs_base.specs.Logs.{cleaners_number}

-- ---- a line goes on

-- a segment that is filed leaves those of other numbers
older : (f : Filed) (l : ℕ) (s : Segment) (q : ℕ) → (q == suc (f.head l)) ≡ false → (with_segment f l s).segment l q ≡ f.segment l q
older f l s q other = by (l == l) (q == suc (f.head l)) other
  where
    by : (t u : Bool) → u ≡ false → cond t (cond u s (f.segment l q)) (f.segment l q) ≡ f.segment l q
    by true true fact = absurd cc
    by true false fact = refl
    by false u fact = refl

module _ (So : SegName → Type 0) (New : Filed → Segment → Type 0) (texts : TextsOf) (l : ℕ) where
  -- each name that is filed of the log is so
  abbrev AllFiled : Filed → Type 0
  AllFiled f = (q : ℕ) → 0 < q → q ≤ f.head l → So (f.segment l q).name

  one_more : (f : Filed) (s : Segment) → So s.name → AllFiled f → AllFiled (with_segment f l s)
  one_more f s new was q some limit = by (q == suc (f.head l)) refl
    where
      later : Filed
      later = with_segment f l s

      within : q ≤ suc (f.head l)
      within = (let e = head_is l f s in omega arith)

      by : (t : Bool) → (q == suc (f.head l)) ≡ t → So (later.segment l q).name
      by true fact =
          let same : q ≡ suc (f.head l) = eqb-true q (suc (f.head l)) fact in
          subst (λ r. So (later.segment l r).name) (sym same) (subst (λ (x : Segment). So x.name) (sym (segment_is l f s)) new)
      by false other =
          subst (λ (x : Segment). So x.name) (sym (older f l s q other)) (was q some (let w = within in grind (arith, nat_tests, w, other)))

  one_name : (f : Filed) (name : SegName) → OwedAct New texts l f (ActsFiled name) → So name → AllFiled f → AllFiled (with_name texts l f name)
  one_name f name owed so was =
      by_test AllFiled (name.seq == suc (f.head l)) (with_segment f l (texts name)) f
      (λ next.
      let o : FilesNext New texts l f name = owed (eqb-true name.seq (suc (f.head l)) next) in
      one_more f (texts name) (subst So (sym o.named) so) was)
      (λ _. was)

  one_act : (f : Filed) (a : Act) → OwedAct New texts l f a → ActSo So a → AllFiled f → AllFiled (after_act texts l f a)
  one_act f (ActsFiled name) owed so was = one_name f name owed so was
  one_act f _ owed so was = was

  one_effect : (f : Filed) (e : Effect) → OwedEffect New texts l f e → EffectSo So e → AllFiled f → AllFiled (after_effect texts l f e)
  one_effect f (Send to m) owed so was = was
  one_effect f (Answer item answer) owed so was = was
  one_effect f (Lose seg) owed so was = was
  one_effect f (Does act) owed so was = one_act f act owed so was

  goes_on : (f : Filed) (outs : List Effect) → FilesOwed New texts l f outs → AllSo So outs → AllFiled f → AllFiled (filed_after texts l f outs)
  goes_on f [] owed so was = was
  goes_on f (e ∷ es) owed so was = goes_on (after_effect texts l f e) es owed.1 so.1 (one_effect f e owed.0 so.0 was)

-- what is so of each act is so of each effect
module _ (So : SegName → Type 0) (node : NodeId) where
  act_so : (a : Act) (more : List Act) → ((name : SegName) → In (ActsFiled name) (a ∷ more) → So name) → ActSo So a
  act_so (ActsFiled name) more each = each name (inl refl)
  act_so _ more each = tt

  acts_so : (outs : List Effect) → ((name : SegName) → In (ActsFiled name) (acts_of node outs) → So name) → AllSo So outs
  acts_so [] each = tt
  acts_so (Send to m ∷ outs) each = (tt, acts_so outs each)
  acts_so (Answer item answer ∷ outs) each = (tt, acts_so outs (λ name fact. each name (inr fact)))
  acts_so (Lose seg ∷ outs) each = (tt, acts_so outs (λ name fact. each name (inr fact)))
  acts_so (Does act ∷ outs) each = (act_so act (acts_of node outs) each, acts_so outs (λ name fact. each name (inr fact)))

-- before the first event nothing is filed
pub nothing_filed : (first : ℕ → ℕ → Segment) (l q : ℕ) → 0 < q → q ≤ (index.opening first).filed.head l → ⊥
nothing_filed first l q some limit = omega arith

-- ---- at each count

module _ (logged : LoggedRun) (part count : ℕ) where
  open logged use {estate as e, texts}

  abbrev Acted : ℕ → Filed → Type 0
  Acted at f = LinesActed logged part at f

  -- the line of a log was acted up to a count
  abbrev ActedOf : ℕ → ℕ → Filed → Type 0
  ActedOf at l f = (q : ℕ) → 0 < q → q ≤ f.head l → In (ActsFiled (f.segment l q).name) (did e l at)

  before : (l : ℕ) (f : Filed) → ActedOf count l f → ActedOf (suc count) l f
  before l f was q some limit = did_before e l count (ActsFiled (f.segment l q).name) (was q some limit)

  same_line : (l : ℕ) (f h : Filed) → IsSameLog l f h → ActedOf count l f → ActedOf (suc count) l h
  same_line l f h same was q some limit =
      let within : q ≤ f.head l = (let fact = same.head in omega arith) in
      subst (λ (s : Segment). In (ActsFiled s.name) (did e l (suc count))) (sym (same.segment q some within)) (before l f was q some within)

  -- where nothing more is filed
  pub acted_still : (f : Filed) → Acted count f → Acted (suc count) f
  acted_still f was r there keeps = before (log_by r) f (was r there keeps)

  module _ (event : Event) (at_event : slice_get e.events count ≡ Some event) where
    abbrev what : Do
    what = what_of event

    module _ (d : ℕ) (own : owns d (node_of event) ≡ true) (New : Filed → Segment → Type 0) (f : Filed) (name : NodeId) (outs : List Effect)
        (owed : FilesOwed New texts.text d f outs) (did_them : (a : Act) → In a (acts_of name outs) → In a (did e d (suc count))) where
      abbrev h : Filed
      h = filed_after texts.text d f outs

      its_line : ActedOf count d f → ActedOf (suc count) d h
      its_line was =
          goes_on (λ n. In (ActsFiled n) (did e d (suc count))) New texts.text d f outs owed
          (acts_so (λ n. In (ActsFiled n) (did e d (suc count))) name outs (λ n fact. did_them (ActsFiled n) fact)) (before d f was)

      own_acted : Acted count f → Acted (suc count) h
      own_acted was r there keeps = by (log_by r == d) refl
        where
          by : (t : Bool) → (log_by r == d) ≡ t → ActedOf (suc count) (log_by r) h
          by true fact =
              let same : log_by r ≡ d = eqb-true (log_by r) d fact in
              subst (λ l. ActedOf (suc count) l h) (sym same) (its_line (subst (λ l. ActedOf count l f) same (was r there keeps)))
          by false fact =
              let differs : log_by r ≡ d → ⊥ = λ same. contrary (sym fact ∙ subst (λ l. (l == d) ≡ true) (sym same) (equal_itself d)) in
              same_line (log_by r) f h (others_after texts.text d (log_by r) differs f outs) (was r there keeps)

    module _ (asked : Questions) (n next : index.Net) where
      as_it_was : next.filed ≡ n.filed → Acted count n.filed → Acted (suc count) next.filed
      as_it_was same was = subst (Acted (suc count)) (sym same) (acted_still n.filed was)

      -- over an event that a node takes
      pub acted_then : (name : NodeId) → node_of event ≡ name → (node : AnyNode) → Took (moment e count) event node
          → IndexOwes part texts.text asked n name node what
          → Makes part texts.text n next name node what → Acted count n.filed → Acted (suc count) next.filed
      acted_then (Client d) own (any.Client node) took owed makes was =
          let its : owns d (node_of event) ≡ true = ap (owns d) own ∙ equal_itself d in
          subst (Acted (suc count)) (sym (ap (λ (x : index.Net). x.filed) makes))
          (own_acted d its (IsNewerAtSlot part) n.filed (Client (lasting_of node.phase).number) (client_takes node what).outs owed.files
          (λ a fact. did_then e d count event (any.Client node) at_event its took a fact) was)
      acted_then Cleaner own (any.Cleaner node) took owed makes was =
          let its : owns cleaners_number (node_of event) ≡ true = ap (owns cleaners_number) own in
          subst (Acted (suc count)) (sym makes.filed)
          (own_acted cleaners_number its (NewFor part texts.text n node.phase) n.filed Cleaner (cleaner_takes node.peers node.phase what).outs owed.files
          (λ a fact. did_then e cleaners_number count event (any.Cleaner node) at_event its took a fact) was)
      acted_then (Manager j) own (any.Manager node) took owed makes was = as_it_was (ap (λ (x : index.Net). x.filed) makes.rest) was
      acted_then Registry own (any.Registry node) took owed makes was = as_it_was makes.filed was
      acted_then name own node took owed makes was = as_it_was (ap (λ (x : index.Net). x.filed) makes) was
