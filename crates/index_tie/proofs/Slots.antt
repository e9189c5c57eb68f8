-- A slot's inputs as steps of its manager: Deltas that it applies are one merge, and nothing else touches what it knows of blocks.
use Rattle.std.proofs.Common.{◌≡◌, ℕ, suc, ◌-◌, ◌≤◌, ◌<◌, true, List, [], ◌∷◌, length, refl, sym, ap, subst, ◌∙◌, arith}
use Rattle.std.proofs.lemmas.Bool.Decides.{nat_tests}
use Rattle.std.proofs.lemmas.List.{get_or-set_other, get_or-set_same}
use Rattle.xfs_base.specs.declared.block.BlockId.{BlockId}
use Rattle.xfs_base.specs.declared.entry.Entry.{Entry}
use Rattle.xfs_base.specs.declared.segment.LogId.{LogId}
use Rattle.xfs_base.specs.Steps.{steps}
use Rattle.xfs_base.proofs.StepLoops.{steps_keep}
use Rattle.delta_index.specs.Entries.{first_greatest}
use Rattle.delta_index.specs.Index.{entry_of, merged_all}
use Rattle.delta_index.specs.Join.{join}
use Rattle.delta_index.proofs.IndexJoin.{entry_of-merged_all}
use Rattle.slot_beliefs.specs.Index.{Indexed, block_index_merge, merge_all}
use Rattle.slot_beliefs.specs.Recalls.{applied_of, ready_blocks, applied_upto}
use Rattle.token_manager.specs.declared.input.In.TheVariants.{Want, Gave, Deltas, Check, Tick}
use Rattle.token_manager.specs.SlotState.{SlotState}
use Rattle.token_manager.specs.Transition.{entry_at, joins_on, with_deltas, finish_job}
use Rattle.token_manager.proofs.Cases.{by_want, by_gave, by_deltas, by_finished_at}
use Rattle.log_protocol.specs.Tables.{put}
use Rattle.log_protocol.specs.IndexState.{IndexState, Joins}
use Rattle.log_protocol.specs.IndexState as index
use Rattle.log_protocol.specs.IndexMerge as merge
use Rattle.log_protocol.specs.IndexLaws.{IndexReached}
use Rattle.log_protocol.specs.IndexSteps.{CanMerge, indexes}
use Rattle.log_protocol.specs.IndexSteps.IndexSteps.{Done as Ended, More}
use Rattle.log_protocol.specs.IndexSteps.IndexStep.{Merges}
use Rattle.log_protocol.proofs.IndexInduction.{index_is_join_always, index_in_bounds_always}
use Rattle.log_protocol.proofs.IndexMerge.{merging_joins}
use Rattle.index_tie.specs.Filed.{IsFiled, Tells, Names}
use Rattle.headline.specs.Filed.{Filed}
use Rattle.index_tie.specs.Slots.{Manages, ByManager, Runs, DeltasTell, AppliesAreMerges}
use Rattle.index_tie.proofs.Rows.{names_merged, ranged_between}
use Rattle.index_tie.proofs.Tables.{at_same, at_other, put_each}

-- ---- what isn't Deltas

-- the index, what is applied and the epoch are as they were
pub record Same (s t : SlotState) : Type 0 where
  pub epoch : t.epoch ≡ s.epoch
  pub applied : t.applied ≡ s.applied
  pub index : t.index ≡ s.index

pub same_itself : (s : SlotState) → Same s s
same_itself s = record { epoch = refl; applied = refl; index = refl }

pub manages_same : (b : BlockId) (f : Filed) (w : IndexState) (s t : SlotState) → Same s t → Manages b f w s → Manages b f w t
manages_same b f w s t same m = record {
  active = ap w.active same.epoch ∙ m.active;
  applied = λ l some. ap (λ e. w.applied e l) same.epoch ∙ m.applied l some ∙ sym (ap (λ a. applied_of a l) same.applied);
  index = subst (λ e. Names b f (entry_at t b) (w.index e)) (sym same.epoch)
      (subst (λ (i : Indexed). Names b f (entry_of i.rows b) (w.index s.epoch)) (sym same.index) m.index);
}

pub itself : (e : ℕ) (w : IndexState) → ByManager e w w
itself e w = record { rest = refl; active = λ d other. refl; applied = λ d l other. refl; index = λ d other. refl }

stays : (b : BlockId) (f : Filed) (w : IndexState) (s : SlotState) → Manages b f w s → (t : SlotState) → Same s t → Runs b f w s.epoch t
stays b f w s m t same = record { state = w; steps = Ended; frame = itself s.epoch w; shows = manages_same b f w s t same m }

-- ---- Deltas

pub rows-merge_all : (i : Indexed) (ms : List (BlockId × Entry)) → (merge_all i ms).rows ≡ merged_all i.rows ms
unfolding block_index_merge
rows-merge_all i [] = refl
rows-merge_all i (m ∷ ms) = rows-merge_all (block_index_merge i m) ms

pub answering : (s : SlotState) (blocks : List BlockId) → Same s (steps finish_job s blocks).state
answering s blocks =
    steps_keep finish_job (Same s)
    (λ t k same. by_finished_at (λ r. Same s r.state) t k same (λ job fact. record { epoch = same.epoch; applied = same.applied; index = same.index })) s blocks
    (same_itself s)

leads_on : (applied first upto : ℕ) → joins_on applied first upto ≡ true → (first ≤ suc applied) × (applied < upto)
leads_on applied first upto joins = (grind (arith, nat_tests), grind (arith, nat_tests))

-- only the record of the epoch is changed
pub framed : (w : IndexState) (e : ℕ) (applied : ℕ → ℕ) (entry : index.Entry) → ByManager e w (indexes w e applied entry)
framed w e applied entry = record {
  rest = refl;
  active = λ d other. at_other d e 1 (w.active d) other;
  applied = λ d l other. at_other d e (applied l) (w.applied d l) other;
  index = λ d other. at_other d e entry (w.index d) other;
}

-- a slot at that epoch is seen as what the record says
pub shown : (b : BlockId) (f : Filed) (w : IndexState) (applied : ℕ → ℕ) (entry : index.Entry) (t : SlotState)
    → ((l : ℕ) → 0 < l → applied l ≡ applied_of t.applied l) → Names b f (entry_at t b) entry
    → Manages b f (indexes w t.epoch applied entry) t
shown b f w applied entry t same names = record {
  active = at_same t.epoch 1 (w.active t.epoch);
  applied = λ l some. at_same t.epoch (applied l) (w.applied t.epoch l) ∙ same l some;
  index = subst (Names b f (entry_at t b)) (sym (at_same t.epoch entry (w.index t.epoch))) names;
}

applies : (b : BlockId) (f : Filed) (w : IndexState) (s : SlotState) (log : LogId) (first upto : ℕ) (rows : List (BlockId × Entry)) → IndexReached w → IsFiled f
    → Tells b f w → Manages b f w s → log.0 - 1 < length s.applied
    → DeltasTell b f log.0 first upto rows → joins_on (applied_of s.applied log.0) first upto ≡ true → Runs b f w s.epoch (with_deltas s log upto rows)
applies b f w s log first upto rows reached filed tells m known told joins =
    let e = s.epoch in
    let l = log.0 in
    let bounds = index_in_bounds_always w reached in
    let on = leads_on (applied_of s.applied l) first upto joins in
    let was : w.applied e l ≡ applied_of s.applied l = m.applied l told.some in
    let no_gap : first ≤ suc (w.applied e l) = let h = on.0 in omega arith in
    let rises : w.applied e l ≤ upto = let h = on.1 in omega arith in
    let r = ranged_between b f w l first upto filed tells in
    let applied : ℕ → ℕ = put (w.applied e) l upto in
    let entry = merge.merged (w.index e) r.named in
    let names : Names b f (join rows b) r.named = subst (λ x. Names b f x r.named) (sym told.joined) r.names in
    let joined : Joins w.version w.hop applied entry =
    merging_joins w (w.applied e) l first upto (w.index e) r.named reached ((index_is_join_always w reached).each e m.active) r.greatest no_gap rises in
    let head : upto ≤ w.head l = subst (λ n. upto ≤ n) (sym (tells.head l)) told.filed in
    let can : CanMerge w e applied entry = record {
      on = m.active;
      rises = put_each (λ d n. w.applied e d ≤ n) (w.applied e) l upto rises (λ d other. omega arith);
      filed = put_each (λ d n. n ≤ w.head d) (w.applied e) l upto head (λ d other. bounds.applied_filed e d);
      joins = joined;
    } in
    let t = with_deltas s log upto rows in
    let has : entry_at t b ≡ first_greatest (entry_at s b) (join rows b) =
    ap (λ x. entry_of x b) (rows-merge_all s.index rows) ∙ entry_of-merged_all s.index.rows rows b in
    record {
      state = indexes w e applied entry;
      steps = More Ended (Merges e applied entry can);
      frame = framed w e applied entry;
      shows = shown b f w applied entry t
          (put_each (λ d n. 0 < d → n ≡ applied_of (applied_upto s.applied log upto) d) (w.applied e) l upto
          (λ _. sym (get_or-set_same s.applied (l - 1) upto 0 known))
          (λ d other more. m.applied d more ∙ sym (get_or-set_other s.applied (l - 1) (d - 1) upto 0 (λ same. other (let z = told.some in omega arith)))))
          (subst (λ x. Names b f x entry) (sym has) (names_merged b f (w.index e) r.named (entry_at s b) (join rows b) m.index names));
    }

after_answers : (b : BlockId) (f : Filed) (w : IndexState) (e : ℕ) (s : SlotState) (blocks : List BlockId) → Runs b f w e s
    → Runs b f w e (steps finish_job s blocks).state
after_answers b f w e s blocks r =
    record {
      state = r.state;
      steps = r.steps;
      frame = r.frame;
      shows = manages_same b f r.state s (steps finish_job s blocks).state (answering s blocks) r.shows;
    }

-- ---- every input

pub applies_are_merges : AppliesAreMerges
applies_are_merges b f w s (Want want end) reached filed tells m brings =
    let stay = stays b f w s m in
    by_want (λ d. Runs b f w s.epoch d.state) s want end (stay s (same_itself s))
    (λ _ _. stay _ (record { epoch = refl; applied = refl; index = refl })) (λ _. stay _ (record { epoch = refl; applied = refl; index = refl }))
applies_are_merges b f w s (Gave client block stamp end) reached filed tells m brings =
    let stay = stays b f w s m in
    by_gave (λ d. Runs b f w s.epoch d.state) s client block stamp end (stay s (same_itself s))
    (λ _ _ _. stay _ (record { epoch = refl; applied = refl; index = refl })) (λ _ _. stay _ (record { epoch = refl; applied = refl; index = refl }))
applies_are_merges b f w s (Deltas log first upto rows) reached filed tells m brings =
    by_deltas (λ d. Runs b f w s.epoch d.state) s log first upto rows (stays b f w s m s (same_itself s)) (stays b f w s m s (same_itself s))
    (λ joins. after_answers b f w s.epoch (with_deltas s log upto rows) (ready_blocks s.jobs (applied_upto s.applied log upto))
    (applies b f w s log first upto rows reached filed tells m brings.0 brings.1 joins))
applies_are_merges b f w s (Check block place) reached filed tells m brings = stays b f w s m s (same_itself s)
applies_are_merges b f w s Tick reached filed tells m brings = stays b f w s m s (same_itself s)
