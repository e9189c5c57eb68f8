-- What the calls of a plan name: each version that is named was read by the plan, of the block at which it is named.
use Rattle.std.proofs.Common.{◌≡◌, ℕ, zero, suc, Bool, true, false, ◌&&◌, ◌==◌, List, [], ◌∷◌, Option, Some, None, refl, sym, subst}
use Rattle.std.specs.Prelude.{drop, ◌+◌, ◌-◌, ◌/◌, ◌%◌, min, nat_le, nat_lt, length, if◌then◌else◌}
use Rattle.client_call.specs.Calls.{call_new, call_of, going_by, may_make, plan_answered, stands_by}
use Rattle.client_call.specs.declared.call.Call.{Call}
use Rattle.client_call.specs.declared.call.Going.{Going}
use Rattle.client_call.specs.declared.call.Going.TheVariants.{Ends as Done, On}
use Rattle.client_call.specs.declared.call.Plan.{Plan}
use Rattle.client_call.specs.declared.call.Plan.TheVariants.{File, One}
use Rattle.client_running.specs.Opens.{call_at}
use Rattle.client_serving.specs.declared.serving.Serving.{Serving}
use Rattle.file_plan.specs.Calls.{block_at, block_size, root, size_block}
use Rattle.file_plan.specs.declared.block_call.BlockAnswer.{BlockAnswer}
use Rattle.file_plan.specs.declared.block_call.BlockAnswer.TheVariants.{Changed, Got, Put as Written, Synced}
use Rattle.file_plan.specs.declared.block_call.BlockCall.{BlockCall}
use Rattle.file_plan.specs.declared.block_call.BlockCall.TheVariants.{Get, Put, PutAt, Sync}
use Rattle.file_plan.specs.declared.block_call.Next.{Next}
use Rattle.file_plan.specs.declared.block_call.Next.TheVariants.{Reply, Step}
use Rattle.file_plan.specs.declared.node.Node.{Node}
use Rattle.file_plan.specs.declared.state.Job.{Job}
use Rattle.file_plan.specs.declared.state.Job.TheVariants.{Gets, Links, Lists, Makes, Moves, Puts, Removes, Sizes, Unlinks}
use Rattle.file_plan.specs.declared.state.PlanState.{PlanState}
use Rattle.file_plan.specs.declared.state.PlanState.TheVariants.{Closes, Empties, Ends, Enters, Fetches, Fills, Gathers, Grows, Looks, Measures, Patches, Syncs, Takes, Walks}
use Rattle.file_plan.specs.declared.state.Task.{Task}
use Rattle.file_plan.specs.declared.state.Task.TheVariants.{Clears, Cuts, Raises, Tells}
use Rattle.file_plan.specs.Format.{file_end, read_bucket, read_size}
use Rattle.file_plan.specs.Names.{Name, Row, bucket_number, is_directory, name_cmp, named, names_are_good, same_node}
use Rattle.file_plan.specs.Plan as plan
use Rattle.std.specs.BTreeMap.{insert_entry}
use Rattle.version_model.specs.declared.file_call.FileCall.{FileCall}
use Rattle.version_model.specs.declared.file_call.FileCall.TheVariants as files
use Rattle.version_model.specs.declared.work.Work.{Work}
use Rattle.version_model.specs.declared.work.Work.TheVariants as work
use Rattle.xfs_base.proofs.Booleans.{by_test}
use Rattle.xfs_base.specs.declared.block.BlockId.{BlockId}
use Rattle.xfs_base.specs.declared.block.Ino.{Ino}

module _ (Q : BlockId → ℕ → Type 0) where
  -- ---- what is known of the version that a plan names, or is going to

  abbrev pub PlanKnows : PlanState → Type 0
  PlanKnows (Enters dir name ver rows ino job) = Q (block_at dir (bucket_number name)) ver
  PlanKnows (Patches ino blk low bytes end ver old) = Q (block_at ino blk) ver
  PlanKnows (Grows ino end ver) = Q (block_at ino size_block) ver
  PlanKnows (Empties ino blk left ver) = Q (block_at ino size_block) ver
  PlanKnows (Closes ino ver) = Q (block_at ino size_block) ver
  PlanKnows _ = Unit {0}

  -- one call on blocks names none
  abbrev pub StepKnows : Plan → BlockCall → Type 0
  StepKnows One (PutAt block named value) = ⊥
  StepKnows One _ = Unit {0}
  StepKnows (File p) step = (plan.file_plan_next p ≡ Step step) × PlanKnows p

  abbrev pub GoingKnows : Going → Type 0
  GoingKnows (Done a) = Unit {0}
  GoingKnows (On call) = StepKnows call.plan call.step

  abbrev pub OpenKnows : Option Call → Type 0
  OpenKnows None = Unit {0}
  OpenKnows (Some call) = StepKnows call.plan call.step

  -- what it is told of a version that is read
  abbrev pub GotKnown : BlockCall → BlockAnswer → Type 0
  GotKnown (Get block) (Got ver value) = Q block ver
  GotKnown _ _ = Unit {0}

  abbrev NextGot : Next → BlockAnswer → Type 0
  NextGot (Step step) a = GotKnown step a
  NextGot (Reply a) b = Unit {0}

  -- ---- where it names one

  put_known : (b c : BlockId) (n m : ℕ) (v w : Option (List ℕ)) → Q b n → Step (PutAt b n v) ≡ Step (PutAt c m w) → Q c m
  put_known b c n m v w known same =
      let one : b ≡ c = cc in
      let two : n ≡ m = cc in
      subst (λ (x : BlockId). Q x m) one (subst (λ (x : ℕ). Q b x) two known)

  plan_known : (p : PlanState) (block : BlockId) (n : ℕ) (value : Option (List ℕ)) → plan.file_plan_next p ≡ Step (PutAt block n value) → PlanKnows p → Q block n
  plan_known (Enters dir name ver rows ino job) block n value is known = put_known (block_at dir (bucket_number name)) block ver n _ value known is
  plan_known (Patches ino blk low bytes end ver old) block n value is known = put_known (block_at ino blk) block ver n _ value known is
  plan_known (Grows ino end ver) block n value is known = put_known (block_at ino size_block) block ver n _ value known is
  plan_known (Closes ino ver) block n value is known = put_known (block_at ino size_block) block ver n _ value known is
  plan_known (Ends a) block n value is known = absurd cc
  plan_known (Walks dir name onto rest job) block n value is known = absurd cc
  plan_known (Looks dir name job) block n value is known = absurd cc
  plan_known (Syncs dir name node) block n value is known = absurd cc
  plan_known (Measures ino task) block n value is known = absurd cc
  plan_known (Fetches ino blk low left got) block n value is known = absurd cc
  plan_known (Fills ino blk bytes end) block n value is known = absurd cc
  plan_known (Takes ino blk low bytes end) block n value is known = absurd cc
  plan_known (Empties ino blk left ver) block n value is known = absurd cc
  plan_known (Gathers dir blk left rows) block n value is known = absurd cc

  pub named_known : (p : Plan) (block : BlockId) (n : ℕ) (value : Option (List ℕ)) → StepKnows p (PutAt block n value) → Q block n
  named_known One block n value known = absurd known
  named_known (File p) block n value known = plan_known p block n value known.0 known.1

  -- ---- how it goes on

  walking_known : (dir : Ino) (name : Name) (rest : List Name) (job : Job) → PlanKnows (plan.walking dir name rest job)
  walking_known dir name [] job = tt
  walking_known dir name (onto ∷ rest) job = tt

  path_known : (path : List Name) (fault : _) (job : Job) → PlanKnows (plan.walking_path path fault job)
  path_known [] fault job = tt
  path_known (name ∷ rest) fault job = walking_known root name rest job

  walked_known : (name onto : Name) (rest : List Name) (job : Job) (rows : Option (List Row)) → PlanKnows (plan.walked name onto rest job rows)
  walked_known name onto rest job None = tt
  walked_known name onto rest job (Some rows) = by (named name rows)
    where
      by : (o : Option Node) → PlanKnows (plan.walked_to onto rest job o)
      by None = tt
      by (Some node) =
          by_test PlanKnows (is_directory node) (plan.walking node.ino onto rest job) (plan.refuses _) (λ _. walking_known node.ino onto rest job) (λ _. tt)

  filling_known : (ino : Ino) (blk low : ℕ) (bytes : List ℕ) (end : ℕ) → PlanKnows (plan.filling ino blk low bytes end)
  filling_known ino blk low [] end = tt
  filling_known ino blk low (b ∷ bs) end =
      by_test PlanKnows ((low == 0) && nat_le block_size (length (b ∷ bs))) (Fills ino blk (b ∷ bs) end) (Takes ino blk low (b ∷ bs) end) (λ _. tt) (λ _. tt)

  fetching_known : (ino : Ino) (blk low left : ℕ) (got : List ℕ) → PlanKnows (plan.fetching ino blk low left got)
  fetching_known ino blk low zero got = tt
  fetching_known ino blk low (suc left) got = tt

  emptying_known : (ino : Ino) (blk left ver : ℕ) → Q (block_at ino size_block) ver → PlanKnows (plan.emptying ino blk left ver)
  emptying_known ino blk zero ver known = known
  emptying_known ino blk (suc left) ver known = known

  gathering_known : (dir : Ino) (blk left : ℕ) (rows : List Row) → PlanKnows (plan.gathering dir blk left rows)
  gathering_known dir blk zero rows = tt
  gathering_known dir blk (suc left) rows = tt

  gathered_known : (dir : Ino) (blk left : ℕ) (rows : List Row) (more : Option (List Row)) → PlanKnows (plan.gathered dir blk left rows more)
  gathered_known dir blk left rows None = tt
  gathered_known dir blk left rows (Some more) = gathering_known dir (blk + 1) left (plan.insert_all rows more)

  putting_known : (ino : Ino) (offset : ℕ) (bytes : List ℕ) → PlanKnows (plan.putting ino offset bytes)
  putting_known ino offset bytes =
      by_test PlanKnows (nat_lt file_end (offset + length bytes)) (plan.refuses _)
      (plan.filling ino (offset / block_size) (offset % block_size) bytes (plan.end_of offset bytes)) (λ _. tt)
      (λ _. filling_known ino (offset / block_size) (offset % block_size) bytes (plan.end_of offset bytes))

  -- the size was read
  module _ (ino : Ino) (ver : ℕ) (known : Q (block_at ino size_block) ver) where
    measured_so : (task : Task) (size : ℕ) → PlanKnows (plan.measured_as ino task ver size)
    measured_so Tells size = tt
    measured_so (Cuts offset len) size = fetching_known ino (offset / block_size) (offset % block_size) (min len (size - offset)) []
    measured_so (Raises end) size = by_test PlanKnows (nat_le end size) (Ends _) (Grows ino end ver) (λ _. tt) (λ _. known)
    measured_so Clears size =
        by_test PlanKnows (size == 0) (Ends _) (plan.emptying ino 0 (plan.blocks_of size) ver) (λ _. tt) (λ _. emptying_known ino 0 (plan.blocks_of size) ver known)

    measured_known : (task : Task) (size : Option ℕ) → PlanKnows (plan.measured ino task ver size)
    measured_known task None = tt
    measured_known task (Some size) = measured_so task size

  -- the bucket of a name was read
  module _ (dir : Ino) (name : Name) (ver : ℕ) (known : Q (block_at dir (bucket_number name)) ver) where
    entering_known : (rows : List Row) (node : Node) (job : Job) → PlanKnows (plan.entering dir name ver rows node job)
    entering_known rows node job =
        by_test PlanKnows (plan.fits (insert_entry name_cmp rows name node)) (Enters dir name ver (insert_entry name_cmp rows name node) node.ino job)
        (plan.refuses _) (λ _. known) (λ _. tt)

    entry_known : (rows : List Row) (job : Job) (node : Node) → PlanKnows (plan.at_entry dir name ver rows job node)
    entry_known rows (Makes made) node = tt
    entry_known rows (Puts offset bytes) node = putting_known node.ino offset bytes
    entry_known rows (Gets offset len) node = tt
    entry_known rows Sizes node = tt
    entry_known rows Lists node =
        by_test PlanKnows (is_directory node) (plan.gathering node.ino 0 8 []) (plan.refuses _) (λ _. gathering_known node.ino 0 8 []) (λ _. tt)
    entry_known rows Removes node = known
    entry_known rows (Moves to) node = path_known to _ (Links node dir name)
    entry_known rows (Links linked from old) node = tt
    entry_known rows (Unlinks old) node =
        by_test PlanKnows (same_node old node) (plan.leaving dir name ver rows node.ino (Unlinks old)) (Ends _) (λ _. known) (λ _. tt)

    unfound_known : (rows : List Row) (job : Job) → PlanKnows (plan.unfound dir name ver rows job)
    unfound_known rows (Makes made) = entering_known rows made (Makes made)
    unfound_known rows (Puts offset bytes) = tt
    unfound_known rows (Gets offset len) = tt
    unfound_known rows Sizes = tt
    unfound_known rows Lists = tt
    unfound_known rows Removes = tt
    unfound_known rows (Moves to) = tt
    unfound_known rows (Links linked from old) = entering_known rows linked (Links linked from old)
    unfound_known rows (Unlinks old) = tt

    looked_known : (job : Job) (rows : Option (List Row)) → PlanKnows (plan.looked dir name ver job rows)
    looked_known job None = tt
    looked_known job (Some rows) = by (named name rows)
      where
        by : (o : Option Node) → PlanKnows (plan.looked_at dir name ver rows job o)
        by None = unfound_known rows job
        by (Some node) =
            by_test PlanKnows (plan.needs_file job && is_directory node) (plan.refuses _) (plan.at_entry dir name ver rows job node) (λ _. tt)
            (λ _. entry_known rows job node)

  -- ---- answers

  got_known : (p : PlanState) (ver : ℕ) (value : Option (List ℕ)) → NextGot (plan.file_plan_next p) (Got ver value) → PlanKnows p
      → PlanKnows (plan.on_got p ver value)
  got_known (Walks dir name onto rest job) ver value new known = walked_known name onto rest job (read_bucket value)
  got_known (Looks dir name job) ver value new known = looked_known dir name ver new job (read_bucket value)
  got_known (Measures ino task) ver value new known = measured_known ino ver new task (read_size value)
  got_known (Fetches ino blk low left got) ver value new known = fetching_known ino (blk + 1) 0 (left - plan.in_block low left) _
  got_known (Takes ino blk low bytes end) ver value new known = new
  got_known (Gathers dir blk left rows) ver value new known = gathered_known dir blk left rows (read_bucket value)
  got_known (Ends a) ver value new known = tt
  got_known (Enters dir name v rows ino job) ver value new known = known
  got_known (Syncs dir name node) ver value new known = tt
  got_known (Fills ino blk bytes end) ver value new known = tt
  got_known (Patches ino blk low bytes end v old) ver value new known = known
  got_known (Grows ino end v) ver value new known = known
  got_known (Empties ino blk left v) ver value new known = known
  got_known (Closes ino v) ver value new known = known

  entered_known : (job : Job) (ino : Ino) → PlanKnows (plan.entered job ino)
  entered_known (Makes made) ino = tt
  entered_known (Puts offset bytes) ino = tt
  entered_known (Gets offset len) ino = tt
  entered_known Sizes ino = tt
  entered_known Lists ino = tt
  entered_known Removes ino = tt
  entered_known (Moves to) ino = tt
  entered_known (Links node from old) ino = tt
  entered_known (Unlinks old) ino = tt

  written_known : (p : PlanState) → PlanKnows p → PlanKnows (plan.on_written p)
  written_known (Enters dir name ver rows ino job) known = entered_known job ino
  written_known (Fills ino blk bytes end) known = filling_known ino (blk + 1) 0 (drop block_size bytes) end
  written_known (Patches ino blk low bytes end ver old) known = filling_known ino (blk + 1) 0 (drop (block_size - low) bytes) end
  written_known (Grows ino end ver) known = tt
  written_known (Empties ino blk left ver) known = emptying_known ino (blk + 1) left ver known
  written_known (Closes ino ver) known = tt
  written_known (Ends a) known = tt
  written_known (Walks dir name onto rest job) known = tt
  written_known (Looks dir name job) known = tt
  written_known (Syncs dir name node) known = tt
  written_known (Measures ino task) known = tt
  written_known (Fetches ino blk low left got) known = tt
  written_known (Takes ino blk low bytes end) known = tt
  written_known (Gathers dir blk left rows) known = tt

  changed_known : (p : PlanState) → PlanKnows p → PlanKnows (plan.on_changed p)
  changed_known (Enters dir name ver rows ino job) known = tt
  changed_known (Patches ino blk low bytes end ver old) known = tt
  changed_known (Grows ino end ver) known = tt
  changed_known (Closes ino ver) known = tt
  changed_known (Empties ino blk left ver) known = known
  changed_known (Ends a) known = tt
  changed_known (Walks dir name onto rest job) known = tt
  changed_known (Looks dir name job) known = tt
  changed_known (Syncs dir name node) known = tt
  changed_known (Measures ino task) known = tt
  changed_known (Fetches ino blk low left got) known = tt
  changed_known (Fills ino blk bytes end) known = tt
  changed_known (Takes ino blk low bytes end) known = tt
  changed_known (Gathers dir blk left rows) known = tt

  synced_known : (p : PlanState) → PlanKnows p → PlanKnows (plan.on_synced p)
  synced_known (Syncs dir name node) known = tt
  synced_known (Enters dir name ver rows ino job) known = known
  synced_known (Patches ino blk low bytes end ver old) known = known
  synced_known (Grows ino end ver) known = known
  synced_known (Closes ino ver) known = known
  synced_known (Empties ino blk left ver) known = known
  synced_known (Ends a) known = tt
  synced_known (Walks dir name onto rest job) known = tt
  synced_known (Looks dir name job) known = tt
  synced_known (Measures ino task) known = tt
  synced_known (Fetches ino blk low left got) known = tt
  synced_known (Fills ino blk bytes end) known = tt
  synced_known (Takes ino blk low bytes end) known = tt
  synced_known (Gathers dir blk left rows) known = tt

  answered_known : (p : PlanState) (a : BlockAnswer) → NextGot (plan.file_plan_next p) a → PlanKnows p → PlanKnows (plan.file_plan_answered p a)
  answered_known p (Got ver value) new known = got_known p ver value new known
  answered_known p (Written ver) new known = written_known p known
  answered_known p Changed new known = changed_known p known
  answered_known p Synced new known = synced_known p known

  stands_known : (p : PlanState) → PlanKnows p → GoingKnows (stands_by p)
  stands_known p known = by (plan.file_plan_next p) refl
    where
      by : (n : Next) → plan.file_plan_next p ≡ n → GoingKnows (going_by p n)
      by (Step step) is = (is, known)
      by (Reply a) is = tt

  -- a call on blocks was answered so
  pub next_known : (p : Plan) (step : BlockCall) (a : BlockAnswer) → GotKnown step a → StepKnows p step → GoingKnows (plan_answered p a)
  next_known One step a new known = tt
  next_known (File p) step a new known =
      stands_known (plan.file_plan_answered p a)
      (answered_known p a (subst (λ (n : Next). NextGot n a) (sym known.0) new) known.1)

  -- ---- where it begins

  named_start : (c : FileCall) (ino : Ino) → PlanKnows (plan.start_named c ino)
  named_start (files.Mk path) ino = path_known path _ (Makes _)
  named_start (files.Mkdir path) ino = path_known path _ (Makes _)
  named_start (files.Put path offset bytes) ino = path_known path _ (Puts offset bytes)
  named_start (files.Get path offset len) ino = path_known path _ (Gets offset len)
  named_start (files.Size path) ino = path_known path _ Sizes
  named_start (files.Ls []) ino = gathering_known root 0 8 []
  named_start (files.Ls (name ∷ rest)) ino = walking_known root name rest Lists
  named_start (files.Rm path) ino = path_known path _ Removes
  named_start (files.Mv from to) ino = path_known from _ (Moves to)

  start_known : (c : FileCall) (ino : Ino) → PlanKnows (plan.start c ino)
  start_known c ino = by_test PlanKnows (names_are_good c) (plan.start_named c ino) (plan.refuses _) (λ _. named_start c ino) (λ _. tt)

  going_is : (g h : Going) → GoingKnows g → Some g ≡ Some h → GoingKnows h
  going_is g h known same = (let one : g ≡ h = cc in subst GoingKnows one known)

  call_known : (w : Work) (number self : ℕ) (g : Going) → call_of w number self ≡ Some g → GoingKnows g
  call_known (work.Bput c block value) number self g made = going_is (On (call_new One (Put block value))) g tt made
  call_known (work.Bget c block) number self g made = going_is (On (call_new One (Get block))) g tt made
  call_known (work.Sync c) number self g made = going_is (On (call_new One Sync)) g tt made
  call_known (work.File c file) number self g made = by (may_make number self) made
    where
      first : PlanState
      first = plan.start file (plan.made_by number self)

      by : (t : Bool) → (if t then Some (stands_by first) else None) ≡ Some g → GoingKnows g
      by false made = absurd cc
      by true made = going_is (stands_by first) g (stands_known first (start_known file (plan.made_by number self))) made
  call_known _ number self g made = absurd cc

  pub begins_known : (s : Serving) (number : ℕ) (w : Option Work) (g : Going) → call_at s number w ≡ Some g → GoingKnows g
  begins_known s number None g made = absurd cc
  begins_known s number (Some w) g made = call_known w number s.lasting.number g made

-- what is known of more is known
module _ (Q P : BlockId → ℕ → Type 0) (more : (b : BlockId) (v : ℕ) → Q b v → P b v) where
  plan_more : (p : PlanState) → PlanKnows Q p → PlanKnows P p
  plan_more (Enters dir name ver rows ino job) known = more (block_at dir (bucket_number name)) ver known
  plan_more (Patches ino blk low bytes end ver old) known = more (block_at ino blk) ver known
  plan_more (Grows ino end ver) known = more (block_at ino size_block) ver known
  plan_more (Empties ino blk left ver) known = more (block_at ino size_block) ver known
  plan_more (Closes ino ver) known = more (block_at ino size_block) ver known
  plan_more (Ends a) known = tt
  plan_more (Walks dir name onto rest job) known = tt
  plan_more (Looks dir name job) known = tt
  plan_more (Syncs dir name node) known = tt
  plan_more (Measures ino task) known = tt
  plan_more (Fetches ino blk low left got) known = tt
  plan_more (Fills ino blk bytes end) known = tt
  plan_more (Takes ino blk low bytes end) known = tt
  plan_more (Gathers dir blk left rows) known = tt

  pub step_more : (p : Plan) (step : BlockCall) → StepKnows Q p step → StepKnows P p step
  step_more One (PutAt block named value) known = known
  step_more One (Get block) known = tt
  step_more One (Put block value) known = tt
  step_more One Sync known = tt
  step_more (File p) step known = (known.0, plan_more p known.1)

  pub open_more : (o : Option Call) → OpenKnows Q o → OpenKnows P o
  open_more None known = tt
  open_more (Some call) known = step_more call.plan call.step known
