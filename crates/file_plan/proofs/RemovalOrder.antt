-- A removal takes the entry out before it writes anything else.
use Rattle.std.proofs.Common.{inl, inr, ◌≡◌, ℕ, zero, suc, ◌+◌, List, [], ◌∷◌, ◌++◌, Option, Some, None, refl, sym, ap, subst, ◌∙◌, append_assoc}
use Rattle.std.specs.Prelude.{◌⊎◌, ◌==◌}
use Rattle.std.specs.Map.{remove_entry}
use Rattle.std.specs.BTreeMap.{is_at}
use Rattle.std.proofs.lemmas.List.{append-nil}
use Rattle.xfs_base.specs.declared.block.BlockId.{BlockId}
use Rattle.xfs_base.specs.declared.block.Ino.{Ino}
use Rattle.version_model.specs.declared.answer.Answer.TheVariants.{Done, File}
use Rattle.version_model.specs.declared.answer.FileFault.{FileFault}
use Rattle.version_model.specs.declared.answer.FileFault.TheVariants.{IsDir, NotDir, BadName}
use Rattle.version_model.specs.declared.file_call.FileCall.TheVariants as call
use Rattle.version_model.specs.History.{Content}
use Rattle.file_plan.specs.declared.block_call.BlockAnswer.{BlockAnswer}
use Rattle.file_plan.specs.declared.block_call.BlockAnswer.TheVariants.{Got, Changed, Synced}
use Rattle.file_plan.specs.declared.block_call.BlockAnswer.TheVariants.{Put as Written}
use Rattle.file_plan.specs.declared.block_call.BlockCall.TheVariants.{Put, PutAt}
use Rattle.file_plan.specs.declared.block_call.Next.TheVariants.{Step}
use Rattle.file_plan.specs.declared.node.Node.{Node}
use Rattle.file_plan.specs.declared.state.Job.{Job}
use Rattle.file_plan.specs.declared.state.Job.TheVariants.{Removes}
use Rattle.file_plan.specs.declared.state.PlanState.{PlanState}
use Rattle.file_plan.specs.declared.state.PlanState.TheVariants.{Ends, Walks, Looks, Enters, Measures, Empties, Closes}
use Rattle.file_plan.specs.declared.state.Task.{Task}
use Rattle.file_plan.specs.declared.state.Task.TheVariants.{Tells, Cuts, Raises, Clears}
use Rattle.file_plan.specs.Calls.{block_at, root}
use Rattle.file_plan.specs.Names.{Name, Row, name_cmp, bucket_number, is_directory, named, names_are_good}
use Rattle.file_plan.specs.Format.{value_of, bucket_bytes, read_bucket, read_size}
use Rattle.file_plan.specs.Plan.{walking, walking_path, walked_to, walked, emptying, blocks_of, measured, leaving, looked_at, looked, entered, on_got, on_written, on_changed, on_synced, file_plan_answered, file_plan_next, start_named, start, after_all, made_by}
use Rattle.file_plan.specs.WriteOrder.{TakesOut, HasWritten, RemovesEntryFirst}
use Rattle.file_plan.proofs.WritesKept.{either, last, from_here, written_more, written_last}

abbrev IsRemoval : Job → Type 0
IsRemoval Removes = Unit {0}
IsRemoval _ = ⊥

abbrev IsClearing : Task → Type 0
IsClearing Tells = ⊥
IsClearing (Cuts offset len) = ⊥
IsClearing (Raises end) = ⊥
IsClearing Clears = Unit {0}

-- where a removal may stand; H says that the entry was taken out
abbrev InRemoval : Type 0 → PlanState → Type 0
InRemoval H (Ends answer) = Unit {0}
InRemoval H (Walks dir name onto rest job) = IsRemoval job
InRemoval H (Looks dir name job) = IsRemoval job
InRemoval H (Enters dir name ver rows ino job) = IsRemoval job × ((old : List Row) × (rows ≡ remove_entry (is_at (name_cmp name)) old))
InRemoval H (Measures ino task) = H × IsClearing task
InRemoval H (Empties ino blk left ver) = H
InRemoval H (Closes ino ver) = H
InRemoval H _ = ⊥

by_removal : (P : Job → Type 0) → P Removes → (job : Job) → IsRemoval job → P job
by_removal P p Removes h = p
by_removal P p _ h = absurd h

by_clearing : (P : Task → Type 0) → P Clears → (task : Task) → IsClearing task → P task
by_clearing P p Tells h = absurd h
by_clearing P p (Cuts offset len) h = absurd h
by_clearing P p (Raises end) h = absurd h
by_clearing P p Clears h = p

module _ (H : Type 0) where
  removal_walking : (dir : Ino) (name : Name) (rest : List Name) (job : Job) → IsRemoval job → InRemoval H (walking dir name rest job)
  removal_walking dir name [] job h = h
  removal_walking dir name (onto ∷ rest) job h = h

  removal_walked : (name onto : Name) (rest : List Name) (job : Job) → IsRemoval job → (o : Option (List Row)) → InRemoval H (walked name onto rest job o)
  removal_walked name onto rest job h None = tt
  removal_walked name onto rest job h (Some rows) = by (named name rows)
    where
      by : (p : Option Node) → InRemoval H (walked_to onto rest job p)
      by None = tt
      by (Some node) =
          either (InRemoval H) (is_directory node) (walking node.ino onto rest job) (Ends (File NotDir)) (removal_walking node.ino onto rest job h) tt

  removal_looked : (dir : Ino) (name : Name) (ver : ℕ) (o : Option (List Row)) → InRemoval H (looked dir name ver Removes o)
  removal_looked dir name ver None = tt
  removal_looked dir name ver (Some rows) = by (named name rows)
    where
      by : (p : Option Node) → InRemoval H (looked_at dir name ver rows Removes p)
      by None = tt
      by (Some node) = either (InRemoval H) (is_directory node) (Ends (File IsDir)) (leaving dir name ver rows node.ino Removes) tt (tt, (rows, refl))

  removal_emptying : H → (ino : Ino) (blk left ver : ℕ) → InRemoval H (emptying ino blk left ver)
  removal_emptying h ino blk zero ver = h
  removal_emptying h ino blk (suc left) ver = h

  removal_measured : H → (ino : Ino) (ver : ℕ) (o : Option ℕ) → InRemoval H (measured ino Clears ver o)
  removal_measured h ino ver None = tt
  removal_measured h ino ver (Some size) =
      either (InRemoval H) (size == 0) (Ends Done) (emptying ino 0 (blocks_of size) ver) tt (removal_emptying h ino 0 (blocks_of size) ver)

module _ (H K : Type 0) (kept : H → K) where
  removal_got : (s : PlanState) (ver : ℕ) (value : Content) → InRemoval H s → InRemoval K (on_got s ver value)
  removal_got (Ends answer) ver value h = tt
  removal_got (Walks dir name onto rest job) ver value h = removal_walked K name onto rest job h (read_bucket value)
  removal_got (Looks dir name job) ver value h =
      by_removal (λ j. InRemoval K (looked dir name ver j (read_bucket value))) (removal_looked K dir name ver (read_bucket value)) job h
  removal_got (Enters dir name v rows ino job) ver value h = h
  removal_got (Measures ino task) ver value h =
      by_clearing (λ t. InRemoval K (measured ino t ver (read_size value))) (removal_measured K (kept h.0) ino ver (read_size value)) task h.1
  removal_got (Empties ino blk left v) ver value h = kept h
  removal_got (Closes ino v) ver value h = kept h
  removal_got _ ver value h = absurd h

  removal_written : (s : PlanState) → ((block : BlockId) (ver : ℕ) (value : Content) → file_plan_next s ≡ Step (PutAt block ver value) → TakesOut block value → K)
      → InRemoval H s → InRemoval K (on_written s)
  removal_written (Ends answer) new h = tt
  removal_written (Walks dir name onto rest job) new h = h
  removal_written (Looks dir name job) new h = h
  removal_written (Enters dir name v rows ino job) new h =
      by_removal (λ j. InRemoval K (entered j ino)) (
        new _ v _ refl
            (record { dir = dir; name = name; rows = h.1.0; is_bucket = refl; text = ap (λ (rs : List Row). value_of (bucket_bytes rs)) h.1.1 }),
        tt,
      )
      job h.0
  removal_written (Measures ino task) new h = (kept h.0, h.1)
  removal_written (Empties ino blk left v) new h = removal_emptying K (kept h) ino (blk + 1) left v
  removal_written (Closes ino v) new h = tt
  removal_written _ new h = absurd h

  removal_still : (s : PlanState) → InRemoval H s → InRemoval K s
  removal_still (Ends answer) h = tt
  removal_still (Walks dir name onto rest job) h = h
  removal_still (Looks dir name job) h = h
  removal_still (Enters dir name v rows ino job) h = h
  removal_still (Measures ino task) h = (kept h.0, h.1)
  removal_still (Empties ino blk left v) h = kept h
  removal_still (Closes ino v) h = kept h
  removal_still _ h = absurd h

  removal_changed : (s : PlanState) → InRemoval H s → InRemoval K (on_changed s)
  removal_changed (Ends answer) h = tt
  removal_changed (Walks dir name onto rest job) h = h
  removal_changed (Looks dir name job) h = h
  removal_changed (Enters dir name v rows ino job) h = h.0
  removal_changed (Measures ino task) h = (kept h.0, h.1)
  removal_changed (Empties ino blk left v) h = kept h
  removal_changed (Closes ino v) h = (kept h, tt)
  removal_changed _ h = absurd h

  removal_synced : (s : PlanState) → InRemoval H s → InRemoval K (on_synced s)
  removal_synced (Ends answer) h = tt
  removal_synced (Walks dir name onto rest job) h = h
  removal_synced (Looks dir name job) h = h
  removal_synced (Enters dir name v rows ino job) h = h
  removal_synced (Measures ino task) h = (kept h.0, h.1)
  removal_synced (Empties ino blk left v) h = kept h
  removal_synced (Closes ino v) h = kept h
  removal_synced _ h = absurd h

  removal_after : (s : PlanState) (a : BlockAnswer)
      → ((made : ℕ) (block : BlockId) (ver : ℕ) (value : Content) → a ≡ Written made → file_plan_next s ≡ Step (PutAt block ver value) → TakesOut block value → K)
      → InRemoval H s → InRemoval K (file_plan_answered s a)
  removal_after s (Got ver value) new h = removal_got s ver value h
  removal_after s (Written made) new h = removal_written s (λ block ver value e t. new made block ver value refl e t) h
  removal_after s Changed new h = removal_changed s h
  removal_after s Synced new h = removal_synced s h

module _ (s0 : PlanState) where
  abbrev TakenOut : List BlockAnswer → Type 0
  TakenOut answers = HasWritten (from_here s0) answers TakesOut

  removal_more : (answers : List BlockAnswer) (a : BlockAnswer) → InRemoval (TakenOut answers) (after_all s0 answers)
      → InRemoval (TakenOut (answers ++ a ∷ [])) (after_all s0 (answers ++ a ∷ []))
  removal_more answers a h =
      subst (InRemoval (TakenOut (answers ++ a ∷ []))) (sym (last answers a s0))
      (removal_after (TakenOut answers) (TakenOut (answers ++ a ∷ [])) (written_more s0 TakesOut answers a) (after_all s0 answers) a
      (written_last s0 TakesOut answers a) h)

  removal_all : (rest front : List BlockAnswer) → InRemoval (TakenOut front) (after_all s0 front)
      → InRemoval (TakenOut (front ++ rest)) (after_all s0 (front ++ rest))
  removal_all [] front h = subst (λ (as' : List BlockAnswer). InRemoval (TakenOut as') (after_all s0 as')) (sym (append-nil front)) h
  removal_all (a ∷ rest) front h =
      subst (λ (as' : List BlockAnswer). InRemoval (TakenOut as') (after_all s0 as')) (append_assoc front (a ∷ []) rest)
      (removal_all rest (front ++ a ∷ []) (removal_more front a h))

-- a whole block that a removal writes
removal_put : (H : Type 0) (s : PlanState) (block : BlockId) (value : Content) → file_plan_next s ≡ Step (Put block value) → InRemoval H s → H × (value ≡ None)
removal_put H (Ends answer) block value e h = let no' : ⊥ = cc in absurd no'
removal_put H (Walks dir name onto rest job) block value e h = let no' : ⊥ = cc in absurd no'
removal_put H (Looks dir name job) block value e h = let no' : ⊥ = cc in absurd no'
removal_put H (Enters dir name v rows ino job) block value e h = let no' : ⊥ = cc in absurd no'
removal_put H (Measures ino task) block value e h = let no' : ⊥ = cc in absurd no'
removal_put H (Empties ino blk left v) block value e h = let none : None ≡ value = cc in (h, sym none)
removal_put H (Closes ino v) block value e h = let no' : ⊥ = cc in absurd no'
removal_put H _ block value e h = absurd h

-- a write of a removal over a version
removal_put_at : (H : Type 0) (s : PlanState) (block : BlockId) (ver : ℕ) (value : Content) → file_plan_next s ≡ Step (PutAt block ver value) → InRemoval H s
    → TakesOut block value ⊎ (H × (value ≡ None))
removal_put_at H (Ends answer) block ver value e h = let no' : ⊥ = cc in absurd no'
removal_put_at H (Walks dir name onto rest job) block ver value e h = let no' : ⊥ = cc in absurd no'
removal_put_at H (Looks dir name job) block ver value e h = let no' : ⊥ = cc in absurd no'
removal_put_at H (Enters dir name v rows ino job) block ver value e h =
    let at : block_at dir (bucket_number name) ≡ block = cc in
    let text : value_of (bucket_bytes rows) ≡ value = cc in
    inl (record { dir = dir; name = name; rows = h.1.0; is_bucket = sym at; text = sym text ∙ ap (λ (rs : List Row). value_of (bucket_bytes rs)) h.1.1 })
removal_put_at H (Measures ino task) block ver value e h = let no' : ⊥ = cc in absurd no'
removal_put_at H (Empties ino blk left v) block ver value e h = let no' : ⊥ = cc in absurd no'
removal_put_at H (Closes ino v) block ver value e h = let none : None ≡ value = cc in inr (h, sym none)
removal_put_at H _ block ver value e h = absurd h

removal_path : (H : Type 0) (path : List Name) (fault : FileFault) → InRemoval H (walking_path path fault Removes)
removal_path H [] fault = tt
removal_path H (name ∷ rest) fault = removal_walking H root name rest Removes tt

pub removes_entry_first : RemovesEntryFirst
removes_entry_first path number client answers block value =
    let s0 = start (call.Rm path) (made_by number client) in
    let P = InRemoval (TakenOut s0 []) in
    let begun = either P (names_are_good (call.Rm path)) (start_named (call.Rm path) (made_by number client)) (Ends (File BadName))
    (removal_path (TakenOut s0 []) path IsDir) tt in
    let now = removal_all s0 answers [] begun in (
      λ e. removal_put (TakenOut s0 answers) (after_all s0 answers) block value e now,
      λ ver e. removal_put_at (TakenOut s0 answers) (after_all s0 answers) block ver value e now,
    )
