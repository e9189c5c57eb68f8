-- A file call as a plan over block calls: what it does next, from the answers that it had.
use Rattle.std.specs.Prelude.{ℕ, zero, suc, ◌+◌, ◌-◌, ◌*◌, ◌/◌, ◌%◌, min, Bool, true, false, ◌&&◌, ◌==◌, nat_le, nat_lt, List, [], ◌∷◌, ◌++◌, length, map, take, drop, Option, Some, None, if◌then◌else◌}
use Rattle.std.specs.Map.{remove_entry}
use Rattle.std.specs.BTreeMap.{is_at, insert_entry}
use Rattle.version_model.specs.declared.answer.Answer.TheVariants.{Done, Made, Bytes, Size, Names, File}
use Rattle.version_model.specs.declared.answer.FileFault.{FileFault}
use Rattle.version_model.specs.declared.answer.FileFault.TheVariants.{NoEntry, Exists, NotDir, IsDir, BadName, DirFull, TooBig, BadDir}
use Rattle.version_model.specs.declared.file_call.FileCall.{FileCall}
use Rattle.version_model.specs.declared.file_call.FileCall.TheVariants as call
use Rattle.version_model.specs.History.{Content}
use Rattle.xfs_base.specs.declared.block.Ino.{Ino}
use Rattle.file_plan.specs.declared.block_call.BlockAnswer.{BlockAnswer}
use Rattle.file_plan.specs.declared.block_call.BlockAnswer.TheVariants.{Got, Changed, Synced}
use Rattle.file_plan.specs.declared.block_call.BlockAnswer.TheVariants.{Put as Written}
use Rattle.file_plan.specs.declared.block_call.BlockCall.TheVariants.{Get, Put, PutAt, Sync}
use Rattle.file_plan.specs.declared.block_call.Next.{Next}
use Rattle.file_plan.specs.declared.block_call.Next.TheVariants.{Step, Reply}
use Rattle.file_plan.specs.declared.node.Kind.TheVariants as kinds
use Rattle.file_plan.specs.declared.node.Node.{Node}
use Rattle.file_plan.specs.declared.state.Job.{Job}
use Rattle.file_plan.specs.declared.state.Job.TheVariants.{Makes, Puts, Gets, Sizes, Lists, Removes, Moves, Links, Unlinks}
use Rattle.file_plan.specs.declared.state.PlanState.{PlanState}
use Rattle.file_plan.specs.declared.state.PlanState.TheVariants.{Ends, Walks, Looks, Enters, Syncs, Measures, Fetches, Fills, Takes, Patches, Grows, Empties, Closes, Gathers}
use Rattle.file_plan.specs.declared.state.Task.{Task}
use Rattle.file_plan.specs.declared.state.Task.TheVariants.{Tells, Cuts, Raises, Clears}
use Rattle.file_plan.specs.Names.{Name, Row, name_cmp, same_node, is_directory, bucket_number, named, names_are_good}
use Rattle.file_plan.specs.Format.{bytes_in, value_of, overlaid, cut_of, bucket_bytes, read_bucket, size_value, read_size, file_end}
use Rattle.file_plan.specs.Calls.{block_at, root, size_block, block_size}

abbrev pub refuses : FileFault → PlanState
refuses fault = Ends (File fault)

-- ---- paths

abbrev pub walking : Ino → Name → List Name → Job → PlanState
walking dir name [] job = Looks dir name job
walking dir name (onto ∷ rest) job = Walks dir name onto rest job

-- from the root
abbrev pub walking_path : List Name → FileFault → Job → PlanState
walking_path [] at_root job = refuses at_root
walking_path (name ∷ rest) at_root job = walking root name rest job

abbrev pub walked_to : Name → List Name → Job → Option Node → PlanState
walked_to onto rest job None = refuses NoEntry
walked_to onto rest job (Some node) = if is_directory node then walking node.ino onto rest job else refuses NotDir

abbrev pub walked : Name → Name → List Name → Job → Option (List Row) → PlanState
walked name onto rest job None = refuses BadDir
walked name onto rest job (Some rows) = walked_to onto rest job (named name rows)

-- ---- bytes

-- the file from a block on gets these bytes; end is what the size has to reach
abbrev pub filling : Ino → ℕ → ℕ → List ℕ → ℕ → PlanState
filling ino blk low [] end = Measures ino (Raises end)
filling ino blk low (b ∷ bs) end =
    if (low == 0) && nat_le block_size (length (b ∷ bs)) then Fills ino blk (b ∷ bs) end else Takes ino blk low (b ∷ bs) end

abbrev pub fetching : Ino → ℕ → ℕ → ℕ → List ℕ → PlanState
fetching ino blk low zero got = Ends (Bytes got)
fetching ino blk low (suc left) got = Fetches ino blk low (suc left) got

-- how many of the wanted bytes stand in this block
abbrev pub in_block : ℕ → ℕ → ℕ
in_block low left = min left (block_size - low)

abbrev pub emptying : Ino → ℕ → ℕ → ℕ → PlanState
emptying ino blk zero ver = Closes ino ver
emptying ino blk (suc left) ver = Empties ino blk left ver

-- how many blocks have so many bytes
abbrev pub blocks_of : ℕ → ℕ
blocks_of size = (size + (block_size - 1)) / block_size

abbrev pub measured_as : Ino → Task → ℕ → ℕ → PlanState
measured_as ino Tells ver size = Ends (Size size)
measured_as ino (Cuts offset len) ver size = fetching ino (offset / block_size) (offset % block_size) (min len (size - offset)) []
measured_as ino (Raises end) ver size = if nat_le end size then Ends Done else Grows ino end ver
measured_as ino Clears ver size = if size == 0 then Ends Done else emptying ino 0 (blocks_of size) ver

abbrev pub measured : Ino → Task → ℕ → Option ℕ → PlanState
measured ino task ver None = refuses BadDir
measured ino task ver (Some size) = measured_as ino task ver size

-- ---- buckets

-- how an entry is listed: its name, and a stroke after it for a directory
abbrev pub shown : Row → Name
shown row = if is_directory row.1 then row.0 ++ 47 ∷ [] else row.0

abbrev pub gathering : Ino → ℕ → ℕ → List Row → PlanState
gathering dir blk zero rows = Ends (Names (map shown rows))
gathering dir blk (suc left) rows = Gathers dir blk left rows

abbrev pub insert_all : List Row → List Row → List Row
insert_all rows [] = rows
insert_all rows (row ∷ more) = insert_all (insert_entry name_cmp rows row.0 row.1) more

abbrev pub gathered : Ino → ℕ → ℕ → List Row → Option (List Row) → PlanState
gathered dir blk left rows None = refuses BadDir
gathered dir blk left rows (Some more) = gathering dir (blk + 1) left (insert_all rows more)

abbrev pub fits : List Row → Bool
fits rows = nat_le (length (bucket_bytes rows)) block_size

-- a new entry, where none has the name
abbrev pub entering : Ino → Name → ℕ → List Row → Node → Job → PlanState
entering dir name ver rows node job =
    if fits (insert_entry name_cmp rows name node) then Enters dir name ver (insert_entry name_cmp rows name node) node.ino job else refuses DirFull

-- the entry goes
abbrev pub leaving : Ino → Name → ℕ → List Row → Ino → Job → PlanState
leaving dir name ver rows ino job = Enters dir name ver (remove_entry (is_at (name_cmp name)) rows) ino job

-- where the text ends; an empty one has no end to reach
abbrev pub end_of : ℕ → List ℕ → ℕ
end_of offset [] = 0
end_of offset (b ∷ bs) = offset + length (b ∷ bs)

-- a file gets these bytes from a place on, where it does not grow past its end
abbrev pub putting : Ino → ℕ → List ℕ → PlanState
putting ino offset bytes =
    if nat_lt file_end (offset + length bytes) then refuses TooBig
    else filling ino (offset / block_size) (offset % block_size) bytes (end_of offset bytes)

-- whether a job is done at a file alone
abbrev pub needs_file : Job → Bool
needs_file (Makes made) = false
needs_file (Puts offset bytes) = true
needs_file (Gets offset len) = true
needs_file Sizes = true
needs_file Lists = false
needs_file Removes = true
needs_file (Moves to) = true
needs_file (Links linked from old) = false
needs_file (Unlinks old) = false

-- the name has an entry, of a kind that fits the job
abbrev pub at_entry : Ino → Name → ℕ → List Row → Job → Node → PlanState
at_entry dir name ver rows (Makes made) node = refuses Exists
at_entry dir name ver rows (Puts offset bytes) node = putting node.ino offset bytes
at_entry dir name ver rows (Gets offset len) node = Measures node.ino (Cuts offset len)
at_entry dir name ver rows Sizes node = Measures node.ino Tells
at_entry dir name ver rows Lists node = if is_directory node then gathering node.ino 0 8 [] else refuses NotDir
at_entry dir name ver rows Removes node = leaving dir name ver rows node.ino Removes
at_entry dir name ver rows (Moves to) node = walking_path to Exists (Links node dir name)
at_entry dir name ver rows (Links linked from old) node = refuses Exists
at_entry dir name ver rows (Unlinks old) node = if same_node old node then leaving dir name ver rows node.ino (Unlinks old) else Ends Done

abbrev pub found : Ino → Name → ℕ → List Row → Job → Node → PlanState
found dir name ver rows job node = if needs_file job && is_directory node then refuses IsDir else at_entry dir name ver rows job node

-- whether a job needs that there is no entry, and of which node it then makes one
abbrev pub unfound : Ino → Name → ℕ → List Row → Job → PlanState
unfound dir name ver rows (Makes made) = entering dir name ver rows made (Makes made)
unfound dir name ver rows (Puts offset bytes) = refuses NoEntry
unfound dir name ver rows (Gets offset len) = refuses NoEntry
unfound dir name ver rows Sizes = refuses NoEntry
unfound dir name ver rows Lists = refuses NoEntry
unfound dir name ver rows Removes = refuses NoEntry
unfound dir name ver rows (Moves to) = refuses NoEntry
unfound dir name ver rows (Links linked from old) = entering dir name ver rows linked (Links linked from old)
unfound dir name ver rows (Unlinks old) = Ends Done

abbrev pub looked_at : Ino → Name → ℕ → List Row → Job → Option Node → PlanState
looked_at dir name ver rows job None = unfound dir name ver rows job
looked_at dir name ver rows job (Some node) = found dir name ver rows job node

abbrev pub looked : Ino → Name → ℕ → Job → Option (List Row) → PlanState
looked dir name ver job None = refuses BadDir
looked dir name ver job (Some rows) = looked_at dir name ver rows job (named name rows)

-- the bucket was written
abbrev pub entered : Job → Ino → PlanState
entered (Makes made) ino = Ends (Made made.ino.0)
entered Removes ino = Measures ino Clears
entered (Links node from old) ino = Syncs from old node
entered job ino = Ends Done

-- ---- answers

abbrev pub on_got : PlanState → ℕ → Content → PlanState
on_got (Walks dir name onto rest job) ver value = walked name onto rest job (read_bucket value)
on_got (Looks dir name job) ver value = looked dir name ver job (read_bucket value)
on_got (Measures ino task) ver value = measured ino task ver (read_size value)
on_got (Fetches ino blk low left got) ver value =
    fetching ino (blk + 1) 0 (left - in_block low left) (got ++ cut_of (bytes_in value) low (in_block low left))
on_got (Takes ino blk low bytes end) ver value = Patches ino blk low bytes end ver value
on_got (Gathers dir blk left rows) ver value = gathered dir blk left rows (read_bucket value)
on_got s ver value = s

abbrev pub on_written : PlanState → PlanState
on_written (Enters dir name ver rows ino job) = entered job ino
on_written (Fills ino blk bytes end) = filling ino (blk + 1) 0 (drop block_size bytes) end
on_written (Patches ino blk low bytes end ver old) = filling ino (blk + 1) 0 (drop (block_size - low) bytes) end
on_written (Grows ino end ver) = Ends Done
on_written (Empties ino blk left ver) = emptying ino (blk + 1) left ver
on_written (Closes ino ver) = Ends Done
on_written s = s

-- the block is read again
abbrev pub on_changed : PlanState → PlanState
on_changed (Enters dir name ver rows ino job) = Looks dir name job
on_changed (Patches ino blk low bytes end ver old) = Takes ino blk low bytes end
on_changed (Grows ino end ver) = Measures ino (Raises end)
on_changed (Closes ino ver) = Measures ino Clears
on_changed s = s

abbrev pub on_synced : PlanState → PlanState
on_synced (Syncs dir name node) = Looks dir name (Unlinks node)
on_synced s = s

-- an answer that isn't one to the call that was made changes nothing
abbrev pub file_plan_answered : PlanState → BlockAnswer → PlanState
file_plan_answered s (Got ver value) = on_got s ver value
file_plan_answered s (Written ver) = on_written s
file_plan_answered s Changed = on_changed s
file_plan_answered s Synced = on_synced s

abbrev pub file_plan_next : PlanState → Next
file_plan_next (Ends answer) = Reply answer
file_plan_next (Walks dir name onto rest job) = Step (Get (block_at dir (bucket_number name)))
file_plan_next (Looks dir name job) = Step (Get (block_at dir (bucket_number name)))
file_plan_next (Enters dir name ver rows ino job) = Step (PutAt (block_at dir (bucket_number name)) ver (value_of (bucket_bytes rows)))
file_plan_next (Syncs dir name node) = Step Sync
file_plan_next (Measures ino task) = Step (Get (block_at ino size_block))
file_plan_next (Fetches ino blk low left got) = Step (Get (block_at ino blk))
file_plan_next (Fills ino blk bytes end) = Step (Put (block_at ino blk) (Some (take block_size bytes)))
file_plan_next (Takes ino blk low bytes end) = Step (Get (block_at ino blk))
file_plan_next (Patches ino blk low bytes end ver old) =
    Step (PutAt (block_at ino blk) ver (value_of (overlaid (bytes_in old) low (take (block_size - low) bytes))))
file_plan_next (Grows ino end ver) = Step (PutAt (block_at ino size_block) ver (size_value end))
file_plan_next (Empties ino blk left ver) = Step (Put (block_at ino blk) None)
file_plan_next (Closes ino ver) = Step (PutAt (block_at ino size_block) ver None)
file_plan_next (Gathers dir blk left rows) = Step (Get (block_at dir blk))

-- ---- the plan

-- the index number that a client makes with its item of this number
abbrev pub made_by : ℕ → ℕ → Ino
made_by number client = record { 0 = number * 128 + client * 8 + (client - 1) }

abbrev pub listing : List Name → PlanState
listing [] = gathering root 0 8 []
listing (name ∷ rest) = walking root name rest Lists

abbrev pub start_named : FileCall → Ino → PlanState
start_named (call.Mk path) ino = walking_path path Exists (Makes (record { kind = kinds.File; ino = ino }))
start_named (call.Mkdir path) ino = walking_path path Exists (Makes (record { kind = kinds.Directory; ino = ino }))
start_named (call.Put path offset bytes) ino = walking_path path IsDir (Puts offset bytes)
start_named (call.Get path offset len) ino = walking_path path IsDir (Gets offset len)
start_named (call.Size path) ino = walking_path path IsDir Sizes
start_named (call.Ls path) ino = listing path
start_named (call.Rm path) ino = walking_path path IsDir Removes
start_named (call.Mv from to) ino = walking_path from IsDir (Moves to)

abbrev pub start : FileCall → Ino → PlanState
start c ino = if names_are_good c then start_named c ino else refuses BadName

abbrev pub after_all : PlanState → List BlockAnswer → PlanState
after_all s [] = s
after_all s (a ∷ answers) = after_all (file_plan_answered s a) answers

-- what a call does next, from the answers that it had
abbrev pub plan : FileCall → ℕ → ℕ → List BlockAnswer → Next
plan c number client answers = file_plan_next (after_all (start c (made_by number client)) answers)
