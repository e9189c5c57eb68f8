-- What a slot does and says depends on all of it but the pages of its index.
use Rattle.std.proofs.Common.{◌≡◌, ℕ, Bool, true, false, cond, List, [], ◌∷◌, ◌++◌, length, Option, Some, None, refl, sym, ap, ◌∙◌}
use Rattle.xfs_base.specs.declared.block.BlockId.{BlockId}
use Rattle.xfs_base.specs.declared.entry.Entry.{Entry}
use Rattle.xfs_base.specs.declared.segment.LogId.{LogId}
use Rattle.xfs_base.specs.declared.token.Stamp.{Stamp}
use Rattle.xfs_base.specs.Steps.{still, steps}
use Rattle.slot_beliefs.specs.declared.job.Awaited.{Awaited}
use Rattle.slot_beliefs.specs.declared.job.Job.{Job}
use Rattle.slot_beliefs.specs.declared.job.Wanted.{Wanted}
use Rattle.slot_beliefs.specs.Index.{Indexed, block_index_merge, merge_all}
use Rattle.slot_beliefs.specs.Recalls.{applied_of, is_ready, ready_blocks, noted, answers}
use Rattle.slot_beliefs.specs.Recalls as slot_recalls
use Rattle.token_manager.specs.declared.input.In.{In}
use Rattle.token_manager.specs.declared.input.In.TheVariants as input
use Rattle.token_manager.specs.SlotState.{SlotState}
use Rattle.token_manager.specs.Transition as slot
use Rattle.std.specs.List.{list_any}
use Rattle.token_manager.proofs.Cases.{recalled_from, all_given, by_want, by_gave, by_deltas, by_finished_at}
use Rattle.xfs_base.proofs.StepLoops.{steps_keep}
use Rattle.token_manager.specs.declared.output.Out.TheVariants.{Applied}
use Rattle.std.proofs.Common.{◌-◌, ◌==◌, length-set}
use Rattle.node_slots.specs.node_tie.ManagerEvents.{without_pages, SameButPages}

abbrev bare : Indexed → Indexed
bare i = record { rows = i.rows; usage = i.usage; numbers = []; pages = [] }

-- one entry, of an index that is looked at without its pages
one_more : (i : Indexed) (m : BlockId × Entry) → bare (block_index_merge i m) ≡ bare (block_index_merge (bare i) m)
unfolding block_index_merge
one_more i m = refl

bare_all : (i j : Indexed) (ms : List (BlockId × Entry)) → bare i ≡ bare j → bare (merge_all i ms) ≡ bare (merge_all j ms)
bare_all i j [] same = same
bare_all i j (m ∷ ms) same = bare_all (block_index_merge i m) (block_index_merge j m) ms (one_more i m ∙ ap (λ k. bare (block_index_merge k m)) same ∙ sym (one_more j m))

-- two steps that leave the same but for pages, and say the same
pub record Alike (d e : slot.Done) : Type 0 where
  pub state : SameButPages d.state e.state
  pub outs : d.outs ≡ e.outs

by_both : (t : Bool) (d e x y : slot.Done) → (t ≡ true → Alike d x) → (t ≡ false → Alike e y) → Alike (cond t d e) (cond t x y)
by_both true d e x y f g = f refl
by_both false d e x y f g = g refl

finished_alike : (s : SlotState) (want : Wanted) → Alike (slot.slot_finish s want) (slot.slot_finish (without_pages s) want)
finished_alike s want = record { state = refl; outs = by (slot.passers s want) }
  where
    by : (from : List ℕ) → (slot.answer s want from ∷ []) ≡ (slot.answer (without_pages s) want from ∷ [])
    by [] = refl
    by (c ∷ cs) = refl

module _ (s : SlotState) where
  abbrev b : SlotState
  b = without_pages s

  still_alike : Alike (still s) (still b)
  still_alike = record { state = refl; outs = refl }

  finish_alike : (want : Wanted) → Alike (slot.finish s want) (slot.finish b want)
  finish_alike want = by_both (slot.has_turns s.turn 1) (slot.slot_finish s want) (still s) (slot.slot_finish b want) (still b) (λ _. finished_alike s want)
      (λ _. still_alike)

  want_alike : (want : Wanted) (end : ℕ) → Alike (slot.on_want s want end) (slot.on_want b want end)
  want_alike want end =
      let clients = recalled_from s want in
      by_both (slot.is_dropped s want end) (still s) (slot.recall_or_finish s want clients) (still b) (slot.recall_or_finish b want clients) (λ _. still_alike)
      (λ _. by_both (length clients == 0) (slot.finish s want) (slot.recall s want clients) (slot.finish b want) (slot.recall b want clients)
      (λ _. finish_alike want)
      (λ _. by_both (slot.has_turns s.turn (length clients)) (slot.recalled s want clients) (still s) (slot.recalled b want clients) (still b)
      (λ _. record { state = refl; outs = refl }) (λ _. still_alike)))

  noted_alike : (client : ℕ) (block : BlockId) (want : Wanted) (awaited : List Awaited)
      → Alike (slot.gave_noted s client block want awaited) (slot.gave_noted b client block want awaited)
  unfolding slot.gave_noted
  noted_alike client block want awaited =
      by_both (is_ready s.applied awaited) (slot.gave_last s client block want) (still (slot.gave_one s client block want awaited))
      (slot.gave_last b client block want) (still (slot.gave_one b client block want awaited))
      (λ _. by_both (slot.has_turns s.turn 1) (slot.slot_finish (all_given s client block want) want) (still s)
      (slot.slot_finish (all_given b client block want) want) (still b)
      (λ _. finished_alike (all_given s client block want) want) (λ _. still_alike))
      (λ _. record { state = refl; outs = refl })

  gave_alike : (client : ℕ) (block : BlockId) (stamp : Stamp) (end : ℕ) → Alike (slot.on_gave s client block stamp end) (slot.on_gave b client block stamp end)
  gave_alike client block stamp end = by (slot_recalls.job_at s.jobs block)
    where
      by : (o : Option Job) → Alike (slot.gave_job s client block stamp end o) (slot.gave_job b client block stamp end o)
      by None = still_alike
      by (Some job) = by_both (list_any (answers client stamp) job.awaited) (slot.gave_noted s client block job.want (noted job.awaited client stamp end))
          (still s) (slot.gave_noted b client block job.want (noted job.awaited client stamp end)) (still b)
          (λ _. noted_alike client block job.want (noted job.awaited client stamp end)) (λ _. still_alike)

  finish_job-alike : (block : BlockId) → Alike (slot.finish_job s block) (slot.finish_job b block)
  unfolding slot.finish_job
  finish_job-alike block = by (slot_recalls.job_at s.jobs block)
    where
      by : (o : Option Job) → Alike (slot.finished_job s block o) (slot.finished_job b block o)
      by None = still_alike
      by (Some job) = finished_alike (record s { jobs = slot_recalls.without_job s.jobs block }) job.want

-- what is alike without pages is alike whatever the pages
pub alike_both : (f : SlotState → slot.Done) → ((s : SlotState) → Alike (f s) (f (without_pages s))) → (s t : SlotState) → SameButPages s t → Alike (f s) (f t)
alike_both f each s t same = record {
  state = (each s).state ∙ ap (λ x. without_pages (f x).state) same ∙ sym (each t).state;
  outs = (each s).outs ∙ ap (λ x. (f x).outs) same ∙ sym (each t).outs;
}

steps_alike : (blocks : List BlockId) (s t : SlotState) → SameButPages s t → Alike (steps slot.finish_job s blocks) (steps slot.finish_job t blocks)
steps_alike [] s t same = record { state = same; outs = refl }
steps_alike (k ∷ ks) s t same =
    let one = alike_both (λ x. slot.finish_job x k) (λ x. finish_job-alike x k) s t same in
    let rest = steps_alike ks (slot.finish_job s k).state (slot.finish_job t k).state one.state in
    record {
      state = rest.state;
      outs = ap (λ xs. xs ++ (steps slot.finish_job (slot.finish_job s k).state ks).outs) one.outs ∙ ap (λ xs. (slot.finish_job t k).outs ++ xs) rest.outs;
    }

module _ (s : SlotState) (log : LogId) (upto : ℕ) (rows : List (BlockId × Entry)) where
  abbrev u : SlotState
  u = without_pages s

  apply_alike : Alike (slot.apply s log upto rows) (slot.apply u log upto rows)
  apply_alike =
      let same : SameButPages (slot.with_deltas s log upto rows) (slot.with_deltas u log upto rows) = ap
      (λ i. record s { index = i; applied = slot_recalls.applied_upto s.applied log upto }) (bare_all s.index u.index rows refl) in
      let all = steps_alike (ready_blocks s.jobs (slot_recalls.applied_upto s.applied log upto)) (slot.with_deltas s log upto rows)
      (slot.with_deltas u log upto rows) same in
      record { state = all.state; outs = ap (λ xs. Applied log upto ∷ xs) all.outs }

  deltas_alike : (first : ℕ) → Alike (slot.on_deltas s log first upto rows) (slot.on_deltas u log first upto rows)
  deltas_alike first =
      by_both (slot_recalls.is_followed log) (slot.deltas_of s log first upto rows) (still s) (slot.deltas_of u log first upto rows) (still u)
      (λ _. by_both (slot.joins_on (applied_of s.applied log.0) first upto) (slot.slot_apply s log upto rows) (slot.told_applied s log)
      (slot.slot_apply u log upto rows) (slot.told_applied u log)
      (λ _. by_both (slot.can_apply s log upto rows) (slot.apply s log upto rows) (still s) (slot.apply u log upto rows) (still u) (λ _. apply_alike)
      (λ _. record { state = refl; outs = refl }))
      (λ _. record { state = refl; outs = refl }))
      (λ _. record { state = refl; outs = refl })

takes_alike : (s : SlotState) (given : In) → Alike (slot.transition s given) (slot.transition (without_pages s) given)
takes_alike s (input.Want want end) = want_alike s want end
takes_alike s (input.Gave client block stamp end) = gave_alike s client block stamp end
takes_alike s (input.Deltas log first upto rows) = deltas_alike s log upto rows first
takes_alike s (input.Check block place) = record { state = refl; outs = refl }
takes_alike s input.Tick = record { state = refl; outs = refl }

-- a slot takes each input alike, whatever the pages of its index
pub takes_alike_both : (s t : SlotState) (given : In) → SameButPages s t → Alike (slot.transition s given) (slot.transition t given)
takes_alike_both s t given = alike_both (λ x. slot.transition x given) (λ x. takes_alike x given) s t

pub cleaned_alike : (s : SlotState) → SameButPages s (slot.slot_clean s)
cleaned_alike s = refl

-- ---- what stays at each input

-- the epoch stays, and as many logs are followed
abbrev pub Stays : SlotState → slot.Done → Type 0
Stays s d = (d.state.epoch ≡ s.epoch) × (length d.state.applied ≡ length s.applied)

stays_same : (s : SlotState) → Stays s (still s)
stays_same s = (refl, refl)

steps_stay : (s : SlotState) (blocks : List BlockId) → Stays s (steps slot.finish_job s blocks)
steps_stay s blocks = steps_keep slot.finish_job (λ t. (t.epoch ≡ s.epoch) × (length t.applied ≡ length s.applied))
    (λ t block h. by_finished_at (λ r. (r.state.epoch ≡ s.epoch) × (length r.state.applied ≡ length s.applied)) t block h (λ job fact. h)) s blocks (refl, refl)

pub takes_stay : (s : SlotState) (given : In) → Stays s (slot.transition s given)
takes_stay s (input.Want want end) = by_want (Stays s) s want end (stays_same s)
    (λ _ _. (refl, refl)) (λ _. (refl, refl))
takes_stay s (input.Gave client block stamp end) = by_gave (Stays s) s client block stamp end (stays_same s) (λ _ _ _. (refl, refl)) (λ _ _. (refl, refl))
takes_stay s (input.Deltas log first upto rows) = by_deltas (Stays s) s log first upto rows (stays_same s) (refl, refl) (λ _.
    let h = steps_stay (slot.with_deltas s log upto rows) (ready_blocks s.jobs (slot_recalls.applied_upto s.applied log upto)) in
    (h.0, h.1 ∙ length-set s.applied (log.0 - 1) upto))
takes_stay s (input.Check block place) = (refl, refl)
takes_stay s input.Tick = (refl, refl)
