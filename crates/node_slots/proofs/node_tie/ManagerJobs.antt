-- A slot's wants wait for blocks of the slot alone, and it speaks of these alone.
use Rattle.std.proofs.Common.{◌≡◌, ℕ, Bool, true, false, cond, not, List, [], ◌∷◌, ◌++◌, Some, is_some, subst}
use Rattle.std.specs.List.{AllByRecursion}
use Rattle.std.specs.Map.{remove_entry}
use Rattle.std.specs.BTreeMap.{is_at, insert_entry}
use Rattle.std.specs.Ordering.{match_ordering}
use Rattle.std.specs.declared.cmp.Ordering.TheVariants.{Less, Equal, Greater}
use Rattle.std.proofs.lemmas.List.Elements.{All-from_recursion, recursion_from_All}
use Rattle.xfs_base.specs.declared.block.BlockId.{BlockId}
use Rattle.xfs_base.specs.Blocks.{block_cmp, slot_of}
use Rattle.xfs_base.specs.Modes.{is_own}
use Rattle.xfs_base.specs.Steps.{steps}
use Rattle.slot_beliefs.specs.declared.job.Awaited.{Awaited}
use Rattle.slot_beliefs.specs.declared.job.Job.{Job}
use Rattle.slot_beliefs.specs.declared.job.Wanted.{Wanted}
use Rattle.slot_beliefs.specs.Recalls.{recalls, ready_blocks}
use Rattle.slot_beliefs.specs.Recalls as slot_recalls
use Rattle.token_manager.specs.declared.input.In.{In}
use Rattle.token_manager.specs.declared.input.In.TheVariants as input
use Rattle.token_manager.specs.declared.output.Out.{Out}
use Rattle.token_manager.specs.declared.output.Out.TheVariants as out
use Rattle.token_manager.specs.Recalls.{recall_of, send_recalls, send_all}
use Rattle.token_manager.specs.SlotState.{SlotState}
use Rattle.token_manager.specs.Transition as slot
use Rattle.token_manager.proofs.Cases.{recalled_from, all_given, let_go, by_want, by_gave, by_deltas, by_finished_at}
use Rattle.node_slots.specs.node_tie.ManagerEvents.{JobsOf}

module _ (k : ℕ) where
  abbrev pub IsOf : BlockId → Type 0
  IsOf block = slot_of block.ino.0 ≡ k

  abbrev IsJobOf : BlockId × Job → Type 0
  IsJobOf e = IsOf e.0 × IsOf e.1.want.block

  -- the same by recursion on the list
  abbrev AreOf : List (BlockId × Job) → Type 0
  AreOf jobs = AllByRecursion IsJobOf jobs

  -- what is said speaks of blocks of the slot
  abbrev pub SpeaksOf : Out → Type 0
  SpeaksOf (out.Grant client block stamp inc req mode entry) = IsOf block
  SpeaksOf (out.Forward client block stamp to inc req ver) = IsOf block
  SpeaksOf (out.Recall client block stamp keep) = IsOf block
  SpeaksOf _ = Unit {0}

  abbrev pub AllSpeakOf : List Out → Type 0
  AllSpeakOf outs = AllByRecursion SpeaksOf outs

  -- ---- tables of wants

  of_removed : (test : BlockId → Bool) (jobs : List (BlockId × Job)) → AreOf jobs → AreOf (remove_entry test jobs)
  of_removed test [] all = tt
  of_removed test (e ∷ es) all = elim (test e.0) as (λ t. AreOf (cond t es (e ∷ remove_entry test es))) [
    | true ↦ all.1
    | false ↦
        (all.0, of_removed test es all.1)
  ]

  of_put : (jobs : List (BlockId × Job)) (block : BlockId) (job : Job) → AreOf jobs → IsOf block → IsOf job.want.block
      → AreOf (insert_entry block_cmp jobs block job)
  of_put [] block job all key want = ((key, want), tt)
  of_put (e ∷ es) block job all key want =
      elim (block_cmp block e.0) as (λ o. AreOf (match_ordering o ((block, job) ∷ e ∷ es) ((e.0, job) ∷ es) (e ∷ insert_entry block_cmp es block job))) [
        | Less ↦ ((key, want), all)
        | Equal ↦ ((all.0.0, want), all.1)
        | Greater ↦ (all.0, of_put es block job all.1 key want)
      ]

  the_job : (j job : Job) → Some j ≡ Some job → j ≡ job
  the_job j job h = cc

  of_found : (jobs : List (BlockId × Job)) (block : BlockId) (job : Job) → AreOf jobs → slot_recalls.job_at jobs block ≡ Some job → IsOf job.want.block
  of_found [] block job all fact = absurd (cc)
  of_found (e ∷ es) block job all fact =
      elim (is_at (block_cmp block) e.0) as (λ t. cond t (Some e.1) (slot_recalls.job_at es block) ≡ Some job → IsOf job.want.block) [
        | true ↦ λ h. subst (λ (j : Job). IsOf j.want.block) (the_job e.1 job h) all.0.1
        | false ↦ λ h. of_found es block job all.1 h
      ] fact

  -- ---- steps

  pub record KeepsTo (d : slot.Done) : Type 0 where
    pub jobs : AreOf d.state.jobs
    pub outs : AllSpeakOf d.outs

  all_both : (xs ys : List Out) → AllSpeakOf xs → AllSpeakOf ys → AllSpeakOf (xs ++ ys)
  all_both [] ys all more = more
  all_both (x ∷ xs) ys all more = (all.0, all_both xs ys all.1 more)

  of_finished : (s : SlotState) (want : Wanted) → AreOf s.jobs → IsOf want.block → KeepsTo (slot.slot_finish s want)
  of_finished s want all of = record { jobs = all; outs = by (slot.passers s want) }
    where
      by : (from : List ℕ) → AllSpeakOf (slot.answer s want from ∷ [])
      by [] = (of, tt)
      by (c ∷ cs) = (of, tt)

  of_sent : (block : BlockId) (awaited : List Awaited) → IsOf block → AllSpeakOf (send_recalls block awaited)
  of_sent block [] of = tt
  of_sent block (a ∷ rest) of = elim (is_some a.end) as (λ t. AllSpeakOf
      (cond t (send_recalls block rest) (recall_of block a ∷ send_recalls block rest))) [ true ↦ of_sent block rest of | false ↦ (of, of_sent block rest of) ]

  of_all_sent : (jobs : List (BlockId × Job)) → AreOf jobs → AllSpeakOf (send_all jobs)
  of_all_sent [] all = tt
  of_all_sent (e ∷ es) all = all_both (send_recalls e.0 e.1.awaited) (send_all es) (of_sent e.0 e.1.awaited all.0.0) (of_all_sent es all.1)

  of_finished_at : (s : SlotState) (block : BlockId) → AreOf s.jobs → KeepsTo (slot.finish_job s block)
  of_finished_at s block all =
      by_finished_at KeepsTo s block (record { jobs = all; outs = tt })
      (λ job fact. of_finished (let_go s block) job.want (of_removed (is_at (block_cmp block)) s.jobs all) (of_found s.jobs block job all fact))

  of_steps : (s : SlotState) (blocks : List BlockId) → AreOf s.jobs → KeepsTo (steps slot.finish_job s blocks)
  of_steps s [] all = record { jobs = all; outs = tt }
  of_steps s (b ∷ bs) all =
      let one = of_finished_at s b all in
      let rest = of_steps (slot.finish_job s b).state bs one.jobs in
      record { jobs = rest.jobs; outs = all_both (slot.finish_job s b).outs (steps slot.finish_job (slot.finish_job s b).state bs).outs one.outs rest.outs }

  -- an input about a block of the slot
  abbrev pub IsInputOf : In → Type 0
  IsInputOf (input.Want want end) = IsOf want.block
  IsInputOf (input.Gave client block stamp end) = IsOf block
  IsInputOf _ = Unit {0}

  of_takes : (s : SlotState) (given : In) → IsInputOf given → AreOf s.jobs → KeepsTo (slot.transition s given)
  of_takes s (input.Want want end) of all =
      by_want KeepsTo s want end (record { jobs = all; outs = tt }) (λ _ _. of_finished s want all of)
      (λ _. record { jobs = of_put s.jobs want.block _ all of of; outs = of_sent want.block (recalls s.epoch s.turn (not (is_own want.mode)) (recalled_from s want)) of })
  of_takes s (input.Gave client block stamp end) of all =
      by_gave KeepsTo s client block stamp end (record { jobs = all; outs = tt })
      (λ job fact _. of_finished (all_given s client block job.want) job.want (of_removed (is_at (block_cmp block)) s.jobs all)
      (of_found s.jobs block job all fact))
      (λ job fact. record { jobs = of_put s.jobs block _ all of (of_found s.jobs block job all fact); outs = tt })
  of_takes s (input.Deltas log first upto rows) of all =
      by_deltas KeepsTo s log first upto rows (record { jobs = all; outs = tt }) (record { jobs = all; outs = (tt, tt) })
      (λ _. let t = of_steps (slot.with_deltas s log upto rows) (ready_blocks s.jobs (slot_recalls.applied_upto s.applied log upto)) all in
      record { jobs = t.jobs; outs = (tt, t.outs) })
  of_takes s (input.Check block place) of all = record { jobs = all; outs = by (slot.is_place (slot.entry_at s block).place place) }
    where
      by : (t : Bool) → AllSpeakOf (cond t (out.Live (slot.entry_at s block)) out.Dead ∷ [])
      by true = (tt, tt)
      by false = (tt, tt)
  of_takes s input.Tick of all = record { jobs = all; outs = of_all_sent s.jobs all }

  -- what a slot whose wants are of it leaves, and says, at an input about it
  pub record TakesOf (d : slot.Done) : Type 0 where
    pub jobs : JobsOf k d.state.jobs
    pub outs : AllSpeakOf d.outs

  pub takes_of : (s : SlotState) (given : In) → IsInputOf given → JobsOf k s.jobs → TakesOf (slot.transition s given)
  takes_of s given of all =
      let t = of_takes s given of (recursion_from_All IsJobOf s.jobs all) in
      record { jobs = All-from_recursion IsJobOf (slot.transition s given).state.jobs t.jobs; outs = t.outs }
