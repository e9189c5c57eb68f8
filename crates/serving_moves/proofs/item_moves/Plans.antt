-- What the plan of a call on files replies: nothing but the answers of calls on files.
use Rattle.std.proofs.Common.{◌≡◌, ℕ, zero, suc, ◌+◌, ◌-◌, ◌/◌, ◌%◌, min, ◌&&◌, ◌==◌, nat_le, nat_lt, List, [], ◌∷◌, ◌++◌, drop, length, Option, Some, None, subst}
use Rattle.std.specs.BTreeMap.{insert_entry}
use Rattle.file_plan.specs.Calls.{block_size, root}
use Rattle.file_plan.specs.declared.block_call.BlockAnswer.{BlockAnswer}
use Rattle.file_plan.specs.declared.block_call.BlockAnswer.TheVariants.{Got, Changed, Synced}
use Rattle.file_plan.specs.declared.block_call.BlockAnswer.TheVariants.{Put as Written}
use Rattle.file_plan.specs.declared.block_call.BlockCall.{BlockCall}
use Rattle.file_plan.specs.declared.block_call.Next.TheVariants.{Step, Reply}
use Rattle.file_plan.specs.declared.node.Kind.TheVariants as kinds
use Rattle.file_plan.specs.declared.node.Node.{Node}
use Rattle.file_plan.specs.declared.state.Job.{Job}
use Rattle.file_plan.specs.declared.state.Job.TheVariants.{Makes, Puts, Gets, Sizes, Lists, Removes, Moves, Links, Unlinks}
use Rattle.file_plan.specs.declared.state.PlanState.{PlanState}
use Rattle.file_plan.specs.declared.state.PlanState.TheVariants.{Ends, Walks, Looks, Enters, Syncs, Measures, Fetches, Fills, Takes, Patches, Grows, Empties, Closes, Gathers}
use Rattle.file_plan.specs.declared.state.Task.{Task}
use Rattle.file_plan.specs.declared.state.Task.TheVariants.{Tells, Cuts, Raises, Clears}
use Rattle.file_plan.specs.Format.{bytes_in, cut_of, file_end, read_bucket, read_size}
use Rattle.file_plan.specs.Names.{Name, Row, is_directory, name_cmp, named, names_are_good, same_node}
use Rattle.file_plan.specs.Plan as plan
use Rattle.version_model.specs.declared.answer.Answer.{Answer}
use Rattle.version_model.specs.declared.answer.Answer.TheVariants as answer
use Rattle.version_model.specs.declared.answer.FileFault.{FileFault}
use Rattle.version_model.specs.declared.answer.FileFault.TheVariants as fault
use Rattle.version_model.specs.declared.file_call.FileCall.{FileCall}
use Rattle.version_model.specs.declared.file_call.FileCall.TheVariants as call
use Rattle.version_model.specs.History.{Content}
use Rattle.xfs_base.proofs.Booleans.{by_test}
use Rattle.xfs_base.specs.declared.block.Ino.{Ino}

-- ---- replies

-- an answer of a call on files
abbrev pub IsFileReply : Answer → Type 0
IsFileReply answer.Done = Unit {0}
IsFileReply (answer.Made ino) = Unit {0}
IsFileReply (answer.Bytes bytes) = Unit {0}
IsFileReply (answer.Size size) = Unit {0}
IsFileReply (answer.Names names) = Unit {0}
IsFileReply (answer.File fault) = Unit {0}
IsFileReply _ = ⊥

-- a plan that has not ended, or with such an answer
abbrev pub EndsWell : PlanState → Type 0
EndsWell (Ends a) = IsFileReply a
EndsWell _ = Unit {0}

-- ---- the plan

walking_well : (dir : Ino) (name : Name) (rest : List Name) (job : Job) → EndsWell (plan.walking dir name rest job)
walking_well dir name [] job = tt
walking_well dir name (onto ∷ rest) job = tt

path_well : (path : List Name) (at_root : FileFault) (job : Job) → EndsWell (plan.walking_path path at_root job)
path_well [] at_root job = tt
path_well (name ∷ rest) at_root job = walking_well root name rest job

walked_to_well : (onto : Name) (rest : List Name) (job : Job) (found : Option Node) → EndsWell (plan.walked_to onto rest job found)
walked_to_well onto rest job None = tt
walked_to_well onto rest job (Some node) =
    by_test EndsWell (is_directory node) (plan.walking node.ino onto rest job) (plan.refuses fault.NotDir) (λ _. walking_well node.ino onto rest job) (λ _. tt)

walked_well : (name onto : Name) (rest : List Name) (job : Job) (rows : Option (List Row)) → EndsWell (plan.walked name onto rest job rows)
walked_well name onto rest job None = tt
walked_well name onto rest job (Some rows) = walked_to_well onto rest job (named name rows)

filling_well : (ino : Ino) (blk low : ℕ) (bytes : List ℕ) (end : ℕ) → EndsWell (plan.filling ino blk low bytes end)
filling_well ino blk low [] end = tt
filling_well ino blk low (b ∷ bs) end =
    by_test EndsWell ((low == 0) && nat_le block_size (length (b ∷ bs))) (Fills ino blk (b ∷ bs) end) (Takes ino blk low (b ∷ bs) end) (λ _. tt) (λ _. tt)

fetching_well : (ino : Ino) (blk low left : ℕ) (got : List ℕ) → EndsWell (plan.fetching ino blk low left got)
fetching_well ino blk low zero got = tt
fetching_well ino blk low (suc left) got = tt

emptying_well : (ino : Ino) (blk left ver : ℕ) → EndsWell (plan.emptying ino blk left ver)
emptying_well ino blk zero ver = tt
emptying_well ino blk (suc left) ver = tt

measured_as_well : (ino : Ino) (task : Task) (ver size : ℕ) → EndsWell (plan.measured_as ino task ver size)
measured_as_well ino Tells ver size = tt
measured_as_well ino (Cuts offset len) ver size = fetching_well ino (offset / block_size) (offset % block_size) (min len (size - offset)) []
measured_as_well ino (Raises end) ver size = by_test EndsWell (nat_le end size) (Ends answer.Done) (Grows ino end ver) (λ _. tt) (λ _. tt)
measured_as_well ino Clears ver size =
    by_test EndsWell (size == 0) (Ends answer.Done) (plan.emptying ino 0 (plan.blocks_of size) ver) (λ _. tt)
    (λ _. emptying_well ino 0 (plan.blocks_of size) ver)

measured_well : (ino : Ino) (task : Task) (ver : ℕ) (size : Option ℕ) → EndsWell (plan.measured ino task ver size)
measured_well ino task ver None = tt
measured_well ino task ver (Some size) = measured_as_well ino task ver size

gathering_well : (dir : Ino) (blk left : ℕ) (rows : List Row) → EndsWell (plan.gathering dir blk left rows)
gathering_well dir blk zero rows = tt
gathering_well dir blk (suc left) rows = tt

gathered_well : (dir : Ino) (blk left : ℕ) (rows : List Row) (more : Option (List Row)) → EndsWell (plan.gathered dir blk left rows more)
gathered_well dir blk left rows None = tt
gathered_well dir blk left rows (Some more) = gathering_well dir (blk + 1) left (plan.insert_all rows more)

entering_well : (dir : Ino) (name : Name) (ver : ℕ) (rows : List Row) (node : Node) (job : Job) → EndsWell (plan.entering dir name ver rows node job)
entering_well dir name ver rows node job =
    by_test EndsWell (plan.fits (insert_entry name_cmp rows name node)) (Enters dir name ver (insert_entry name_cmp rows name node) node.ino job)
    (plan.refuses fault.DirFull) (λ _. tt) (λ _. tt)

putting_well : (ino : Ino) (offset : ℕ) (bytes : List ℕ) → EndsWell (plan.putting ino offset bytes)
putting_well ino offset bytes =
    by_test EndsWell (nat_lt file_end (offset + length bytes)) (plan.refuses fault.TooBig)
    (plan.filling ino (offset / block_size) (offset % block_size) bytes (plan.end_of offset bytes)) (λ _. tt)
    (λ _. filling_well ino (offset / block_size) (offset % block_size) bytes (plan.end_of offset bytes))

at_entry_well : (dir : Ino) (name : Name) (ver : ℕ) (rows : List Row) (job : Job) (node : Node) → EndsWell (plan.at_entry dir name ver rows job node)
at_entry_well dir name ver rows (Puts offset bytes) node = putting_well node.ino offset bytes
at_entry_well dir name ver rows Lists node =
    by_test EndsWell (is_directory node) (plan.gathering node.ino 0 8 []) (plan.refuses fault.NotDir) (λ _. gathering_well node.ino 0 8 []) (λ _. tt)
at_entry_well dir name ver rows (Moves to) node = path_well to fault.Exists (Links node dir name)
at_entry_well dir name ver rows (Unlinks old) node =
    by_test EndsWell (same_node old node) (plan.leaving dir name ver rows node.ino (Unlinks old)) (Ends answer.Done) (λ _. tt) (λ _. tt)
at_entry_well dir name ver rows _ node = tt

unfound_well : (dir : Ino) (name : Name) (ver : ℕ) (rows : List Row) (job : Job) → EndsWell (plan.unfound dir name ver rows job)
unfound_well dir name ver rows (Makes made) = entering_well dir name ver rows made (Makes made)
unfound_well dir name ver rows (Links linked from old) = entering_well dir name ver rows linked (Links linked from old)
unfound_well dir name ver rows _ = tt

looked_at_well : (dir : Ino) (name : Name) (ver : ℕ) (rows : List Row) (job : Job) (node : Option Node)
    → EndsWell (plan.looked_at dir name ver rows job node)
looked_at_well dir name ver rows job None = unfound_well dir name ver rows job
looked_at_well dir name ver rows job (Some node) =
    by_test EndsWell (plan.needs_file job && is_directory node) (plan.refuses fault.IsDir) (plan.at_entry dir name ver rows job node) (λ _. tt)
    (λ _. at_entry_well dir name ver rows job node)

looked_well : (dir : Ino) (name : Name) (ver : ℕ) (job : Job) (rows : Option (List Row)) → EndsWell (plan.looked dir name ver job rows)
looked_well dir name ver job None = tt
looked_well dir name ver job (Some rows) = looked_at_well dir name ver rows job (named name rows)

entered_well : (job : Job) (ino : Ino) → EndsWell (plan.entered job ino)
entered_well (Makes made) ino = tt
entered_well Removes ino = tt
entered_well (Links node from old) ino = tt
entered_well _ ino = tt

-- ---- answers

got_well : (p : PlanState) → EndsWell p → (ver : ℕ) (value : Content) → EndsWell (plan.on_got p ver value)
got_well (Walks dir name onto rest job) well ver value = walked_well name onto rest job (read_bucket value)
got_well (Looks dir name job) well ver value = looked_well dir name ver job (read_bucket value)
got_well (Measures ino task) well ver value = measured_well ino task ver (read_size value)
got_well (Fetches ino blk low left got) well ver value =
    fetching_well ino (blk + 1) 0 (left - plan.in_block low left) (got ++ cut_of (bytes_in value) low (plan.in_block low left))
got_well (Takes ino blk low bytes end) well ver value = tt
got_well (Gathers dir blk left rows) well ver value = gathered_well dir blk left rows (read_bucket value)
got_well _ well ver value = well

written_well : (p : PlanState) → EndsWell p → EndsWell (plan.on_written p)
written_well (Enters dir name ver rows ino job) well = entered_well job ino
written_well (Fills ino blk bytes end) well = filling_well ino (blk + 1) 0 (drop block_size bytes) end
written_well (Patches ino blk low bytes end ver old) well = filling_well ino (blk + 1) 0 (drop (block_size - low) bytes) end
written_well (Grows ino end ver) well = tt
written_well (Empties ino blk left ver) well = emptying_well ino (blk + 1) left ver
written_well (Closes ino ver) well = tt
written_well _ well = well

changed_well : (p : PlanState) → EndsWell p → EndsWell (plan.on_changed p)
changed_well (Enters dir name ver rows ino job) well = tt
changed_well (Patches ino blk low bytes end ver old) well = tt
changed_well (Grows ino end ver) well = tt
changed_well (Closes ino ver) well = tt
changed_well _ well = well

synced_well : (p : PlanState) → EndsWell p → EndsWell (plan.on_synced p)
synced_well (Syncs dir name node) well = tt
synced_well _ well = well

pub answered_well : (p : PlanState) → EndsWell p → (a : BlockAnswer) → EndsWell (plan.file_plan_answered p a)
answered_well p well (Got ver value) = got_well p well ver value
answered_well p well (Written ver) = written_well p well
answered_well p well Changed = changed_well p well
answered_well p well Synced = synced_well p well

listing_well : (path : List Name) → EndsWell (plan.listing path)
listing_well [] = gathering_well root 0 8 []
listing_well (name ∷ rest) = walking_well root name rest Lists

named_well : (c : FileCall) (ino : Ino) → EndsWell (plan.start_named c ino)
named_well (call.Mk path) ino = path_well path fault.Exists (Makes (record { kind = kinds.File; ino = ino }))
named_well (call.Mkdir path) ino = path_well path fault.Exists (Makes (record { kind = kinds.Directory; ino = ino }))
named_well (call.Put path offset bytes) ino = path_well path fault.IsDir (Puts offset bytes)
named_well (call.Get path offset len) ino = path_well path fault.IsDir (Gets offset len)
named_well (call.Size path) ino = path_well path fault.IsDir Sizes
named_well (call.Ls path) ino = listing_well path
named_well (call.Rm path) ino = path_well path fault.IsDir Removes
named_well (call.Mv from to) ino = path_well from fault.IsDir (Moves to)

pub start_well : (c : FileCall) (ino : Ino) → EndsWell (plan.start c ino)
start_well c ino =
    by_test EndsWell (names_are_good c) (plan.start_named c ino) (plan.refuses fault.BadName) (λ _. named_well c ino) (λ _. tt)

-- by all answers that it had
pub all_well : (p : PlanState) (answers : List BlockAnswer) → EndsWell p → EndsWell (plan.after_all p answers)
all_well p [] well = well
all_well p (a ∷ answers) well = all_well (plan.file_plan_answered p a) answers (answered_well p well a)

one_reply : (a b : Answer) → Reply a ≡ Reply b → a ≡ b
one_reply a b e = cc

no_reply : (step : BlockCall) (a : Answer) → Step step ≡ Reply a → ⊥
no_reply step a e = cc

-- what it replies is such an answer
pub replies_well : (p : PlanState) (a : Answer) → EndsWell p → plan.file_plan_next p ≡ Reply a → IsFileReply a
replies_well (Ends b) a well e = subst IsFileReply (one_reply b a e) well
replies_well _ a well e = absurd (no_reply _ a e)
