-- A listing has no line feed: each name that a plan replies was read in a bucket as a good one.
use Rattle.std.proofs.Common.{◌≡◌, ◌≢◌, ℕ, zero, suc, ◌+◌, ◌-◌, Bool, true, false, cond, ◌&&◌, not, List, [], ◌∷◌, ◌++◌, map, drop, length, Option, Some, None, refl, subst, arith}
use Rattle.std.specs.Prelude.{◌==◌, IfSome, nat_le, nat_lt}
use Rattle.std.specs.List.{AllByRecursion, list_all}
use Rattle.std.specs.BTreeMap.{insert_entry}
use Rattle.std.specs.FinMap.Entries.{is_sorted}
use Rattle.std.specs.declared.cmp.Ordering.{Ordering}
use Rattle.std.specs.declared.cmp.Ordering.TheVariants.{Less, Equal, Greater}
use Rattle.std.specs.Ordering.{match_ordering}
use Rattle.file_plan.specs.declared.block_call.BlockAnswer.{BlockAnswer}
use Rattle.file_plan.specs.declared.block_call.BlockAnswer.TheVariants.{Got, Changed, Synced}
use Rattle.file_plan.specs.declared.block_call.BlockAnswer.TheVariants.{Put as Written}
use Rattle.file_plan.specs.declared.block_call.Next.TheVariants.{Reply}
use Rattle.file_plan.specs.declared.node.Node.{Node}
use Rattle.file_plan.specs.declared.state.Job.{Job}
use Rattle.file_plan.specs.declared.state.Job.TheVariants.{Makes, Puts, Gets, Sizes, Lists, Removes, Moves, Links, Unlinks}
use Rattle.file_plan.specs.declared.state.PlanState.{PlanState}
use Rattle.file_plan.specs.declared.state.PlanState.TheVariants.{Ends, Walks, Looks, Enters, Syncs, Measures, Fetches, Fills, Takes, Patches, Grows, Empties, Closes, Gathers}
use Rattle.file_plan.specs.declared.state.Task.{Task}
use Rattle.file_plan.specs.declared.state.Task.TheVariants.{Tells, Cuts, Raises, Clears}
use Rattle.file_plan.specs.Calls.{block_size, root}
use Rattle.file_plan.specs.Format.{bytes_in, file_end, front_row, has_row, in_order, read_bucket, read_size, rest_of_rows, rows_from, with_row}
use Rattle.file_plan.specs.Names.{Name, Row, has_name_length, is_directory, is_dots, is_good, is_name_byte, name_cmp, named, names_are_good, same_node}
use Rattle.file_plan.specs.Plan.{after_all, at_entry, blocks_of, emptying, entered, entering, fetching, file_plan_answered, file_plan_next, filling, fits, gathered, gathering, in_block, insert_all, leaving, looked, looked_at, made_by, measured, needs_file, on_changed, on_got, on_synced, on_written, plan, putting, refuses, shown, start, start_named, unfound, walked, walked_to, walking, walking_path}
use Rattle.journal_law.specs.Runs.{IsOneLine}
use Rattle.script_text.specs.Words.{Lacks}
use Rattle.version_model.specs.declared.answer.Answer.{Answer}
use Rattle.version_model.specs.declared.answer.Answer.TheVariants as answer
use Rattle.version_model.specs.declared.answer.FileFault.TheVariants.{IsDir, NotDir}
use Rattle.version_model.specs.declared.file_call.FileCall.{FileCall}
use Rattle.version_model.specs.declared.file_call.FileCall.TheVariants as call
use Rattle.version_model.specs.History.{Content}
use Rattle.xfs_base.specs.declared.block.Ino.{Ino}

-- ---- names

-- a byte of a name is no line feed
name_byte : (b : ℕ) → is_name_byte b ≡ true → b ≢ 10
name_byte b good ten = (let clash : is_name_byte 10 ≡ true = subst (λ n. is_name_byte n ≡ true) ten good in cc)

all_lack : (name : Name) → list_all is_name_byte name ≡ true → Lacks 10 name
all_lack [] good = tt
all_lack (b ∷ name) good = by (is_name_byte b) (list_all is_name_byte name) refl refl good (λ rest. all_lack name rest)
  where
    by : (x y : Bool) → is_name_byte b ≡ x → list_all is_name_byte name ≡ y → (x && y) ≡ true → (list_all is_name_byte name ≡ true → Lacks 10 name)
        → Lacks 10 (b ∷ name)
    by true true here rest both behind = (name_byte b here, behind rest)
    by true false here rest both behind = absurd cc
    by false y here rest both behind = absurd cc

good_lacks : (name : Name) → is_good name ≡ true → Lacks 10 name
unfolding is_good
good_lacks name good = by (has_name_length name) (list_all is_name_byte name) (not (is_dots name)) refl good
  where
    by : (x y z : Bool) → list_all is_name_byte name ≡ y → (x && y && z) ≡ true → Lacks 10 name
    by true true z here all = all_lack name here
    by true false z here all = absurd cc
    by false y z here all = absurd cc

-- ---- rows

abbrev RowLacks : Row → Type 0
RowLacks row = Lacks 10 row.0

abbrev AllLack : List Row → Type 0
AllLack rows = AllByRecursion RowLacks rows

-- the entry at the front has a good name
row_lacks : (bytes : List ℕ) → has_row bytes ≡ true → RowLacks (front_row bytes)
unfolding has_row
row_lacks bytes has = by _ _ (is_good (front_row bytes).0) refl has
  where
    by : (x y z : Bool) → is_good (front_row bytes).0 ≡ z → (x && (y && z)) ≡ true → RowLacks (front_row bytes)
    by true true true here all = good_lacks (front_row bytes).0 here
    by true true false here all = absurd cc
    by true false z here all = absurd cc
    by false y z here all = absurd cc

rows_lack : (n : ℕ) (bytes : List ℕ) → IfSome (rows_from n bytes) AllLack
rows_lack n [] = tt
rows_lack zero (b ∷ bs) = tt
rows_lack (suc n) (b ∷ bs) = by (has_row (b ∷ bs)) refl (rows_lack n (rest_of_rows (b ∷ bs)))
  where
    more : (o : Option (List Row)) → RowLacks (front_row (b ∷ bs)) → IfSome o AllLack → IfSome (with_row (front_row (b ∷ bs)) o) AllLack
    more None here rest = tt
    more (Some rows) here rest = (here, rest)

    by : (t : Bool) → has_row (b ∷ bs) ≡ t → IfSome (rows_from n (rest_of_rows (b ∷ bs))) AllLack
        → IfSome (cond t (with_row (front_row (b ∷ bs)) (rows_from n (rest_of_rows (b ∷ bs)))) None) AllLack
    by true has rest = more (rows_from n (rest_of_rows (b ∷ bs))) (row_lacks (b ∷ bs) has) rest
    by false has rest = tt

ordered_lack : (o : Option (List Row)) → IfSome o AllLack → IfSome (in_order o) AllLack
ordered_lack None all = tt
ordered_lack (Some rows) all = by (is_sorted name_cmp rows)
  where
    by : (t : Bool) → IfSome (cond t (Some rows) None) AllLack
    by true = all
    by false = tt

bucket_lacks : (value : Content) → IfSome (read_bucket value) AllLack
bucket_lacks value = ordered_lack (rows_from (length (bytes_in value)) (bytes_in value)) (rows_lack (length (bytes_in value)) (bytes_in value))

-- what is put among others lacks it where they do
insert_lacks : (rows : List Row) (name : Name) (node : Node) → Lacks 10 name → AllLack rows → AllLack (insert_entry name_cmp rows name node)
insert_lacks [] name node here all = (here, tt)
insert_lacks (row ∷ rows) name node here all = by (name_cmp name row.0) (insert_lacks rows name node here all.1)
  where
    by : (o : Ordering) → AllLack (insert_entry name_cmp rows name node)
        → AllLack (match_ordering o ((name, node) ∷ row ∷ rows) ((row.0, node) ∷ rows) (row ∷ insert_entry name_cmp rows name node))
    by Less rest = (here, all)
    by Equal rest = (all.0, all.1)
    by Greater rest = (all.0, rest)

insert_all_lack : (rows more : List Row) → AllLack rows → AllLack more → AllLack (insert_all rows more)
insert_all_lack rows [] all more = all
insert_all_lack rows (row ∷ rest) all more =
    insert_all_lack (insert_entry name_cmp rows row.0 row.1) rest (insert_lacks rows row.0 row.1 more.0 all) more.1

stroke_lacks : (name : Name) → Lacks 10 name → Lacks 10 (name ++ 47 ∷ [])
stroke_lacks [] all = ((λ e. omega (arith, e)), tt)
stroke_lacks (b ∷ name) all = (all.0, stroke_lacks name all.1)

shown_lacks : (row : Row) → RowLacks row → Lacks 10 (shown row)
shown_lacks row here = by (is_directory row.1)
  where
    by : (t : Bool) → Lacks 10 (cond t (row.0 ++ 47 ∷ []) row.0)
    by true = stroke_lacks row.0 here
    by false = here

all_shown : (rows : List Row) → AllLack rows → AllByRecursion (Lacks 10) (map shown rows)
all_shown [] all = tt
all_shown (row ∷ rows) all = (shown_lacks row all.0, all_shown rows all.1)

-- ---- plans

-- what it ends with is in a line, and what is gathered are such names
abbrev InLine : PlanState → Type 0
InLine (Ends a) = IsOneLine a
InLine (Gathers dir blk left rows) = AllLack rows
InLine _ = Unit {0}

either : (t : Bool) (x y : PlanState) → InLine x → InLine y → InLine (cond t x y)
either true x y a b = a
either false x y a b = b

walking_so : (dir : Ino) (name : Name) (rest : List Name) (job : Job) → InLine (walking dir name rest job)
walking_so dir name [] job = tt
walking_so dir name (onto ∷ rest) job = tt

path_so : (path : List Name) (fault : _) (job : Job) → InLine (walking_path path fault job)
path_so [] fault job = tt
path_so (name ∷ rest) fault job = walking_so root name rest job

walked_so : (name onto : Name) (rest : List Name) (job : Job) (o : Option (List Row)) → InLine (walked name onto rest job o)
walked_so name onto rest job None = tt
walked_so name onto rest job (Some rows) = by (named name rows)
  where
    by : (o : Option Node) → InLine (walked_to onto rest job o)
    by None = tt
    by (Some node) = either (is_directory node) _ _ (walking_so node.ino onto rest job) tt

filling_so : (ino : Ino) (blk low : ℕ) (bytes : List ℕ) (end : ℕ) → InLine (filling ino blk low bytes end)
filling_so ino blk low [] end = tt
filling_so ino blk low (b ∷ bs) end = either ((low == 0) && nat_le block_size (length (b ∷ bs))) (Fills ino blk (b ∷ bs) end) (Takes ino blk low (b ∷ bs) end) tt tt

fetching_so : (ino : Ino) (blk low left : ℕ) (got : List ℕ) → InLine (fetching ino blk low left got)
fetching_so ino blk low zero got = tt
fetching_so ino blk low (suc left) got = tt

emptying_so : (ino : Ino) (blk left ver : ℕ) → InLine (emptying ino blk left ver)
emptying_so ino blk zero ver = tt
emptying_so ino blk (suc left) ver = tt

measured_so : (ino : Ino) (task : Task) (ver : ℕ) (o : Option ℕ) → InLine (measured ino task ver o)
measured_so ino task ver None = tt
measured_so ino Tells ver (Some size) = tt
measured_so ino (Cuts offset len) ver (Some size) = fetching_so ino _ _ _ []
measured_so ino (Raises end) ver (Some size) = either (nat_le end size) (Ends answer.Done) (Grows ino end ver) tt tt
measured_so ino Clears ver (Some size) =
    either (size == 0) (Ends answer.Done) (emptying ino 0 (blocks_of size) ver) tt (emptying_so ino 0 (blocks_of size) ver)

gathering_so : (dir : Ino) (blk left : ℕ) (rows : List Row) → AllLack rows → InLine (gathering dir blk left rows)
gathering_so dir blk zero rows all = all_shown rows all
gathering_so dir blk (suc left) rows all = all

gathered_so : (dir : Ino) (blk left : ℕ) (rows : List Row) (o : Option (List Row)) → AllLack rows → IfSome o AllLack → InLine (gathered dir blk left rows o)
gathered_so dir blk left rows None all more = tt
gathered_so dir blk left rows (Some others) all more = gathering_so dir (blk + 1) left (insert_all rows others) (insert_all_lack rows others all more)

entering_so : (dir : Ino) (name : Name) (ver : ℕ) (rows : List Row) (node : Node) (job : Job) → InLine (entering dir name ver rows node job)
entering_so dir name ver rows node job = either (fits (insert_entry name_cmp rows name node)) _ _ tt tt

putting_so : (ino : Ino) (offset : ℕ) (bytes : List ℕ) → InLine (putting ino offset bytes)
putting_so ino offset bytes = either (nat_lt file_end (offset + length bytes)) _ _ tt (filling_so ino _ _ bytes _)

entry_so : (dir : Ino) (name : Name) (ver : ℕ) (rows : List Row) (job : Job) (node : Node) → InLine (at_entry dir name ver rows job node)
entry_so dir name ver rows (Makes made) node = tt
entry_so dir name ver rows (Puts offset bytes) node = putting_so node.ino offset bytes
entry_so dir name ver rows (Gets offset len) node = tt
entry_so dir name ver rows Sizes node = tt
entry_so dir name ver rows Lists node = either (is_directory node) (gathering node.ino 0 8 []) (refuses NotDir) tt tt
entry_so dir name ver rows Removes node = tt
entry_so dir name ver rows (Moves to) node = path_so to _ _
entry_so dir name ver rows (Links linked from old) node = tt
entry_so dir name ver rows (Unlinks old) node = either (same_node old node) (leaving dir name ver rows node.ino (Unlinks old)) (Ends answer.Done) tt tt

unfound_so : (dir : Ino) (name : Name) (ver : ℕ) (rows : List Row) (job : Job) → InLine (unfound dir name ver rows job)
unfound_so dir name ver rows (Makes made) = entering_so dir name ver rows made (Makes made)
unfound_so dir name ver rows (Puts offset bytes) = tt
unfound_so dir name ver rows (Gets offset len) = tt
unfound_so dir name ver rows Sizes = tt
unfound_so dir name ver rows Lists = tt
unfound_so dir name ver rows Removes = tt
unfound_so dir name ver rows (Moves to) = tt
unfound_so dir name ver rows (Links linked from old) = entering_so dir name ver rows linked (Links linked from old)
unfound_so dir name ver rows (Unlinks old) = tt

looked_so : (dir : Ino) (name : Name) (ver : ℕ) (job : Job) (o : Option (List Row)) → InLine (looked dir name ver job o)
looked_so dir name ver job None = tt
looked_so dir name ver job (Some rows) = by (named name rows)
  where
    by : (o : Option Node) → InLine (looked_at dir name ver rows job o)
    by None = unfound_so dir name ver rows job
    by (Some node) = either (needs_file job && is_directory node) (refuses IsDir) (at_entry dir name ver rows job node) tt (entry_so dir name ver rows job node)

entered_so : (job : Job) (ino : Ino) → InLine (entered job ino)
entered_so (Makes made) ino = tt
entered_so Removes ino = tt
entered_so (Links node from old) ino = tt
entered_so _ ino = tt

got_so : (s : PlanState) (ver : ℕ) (value : Content) → InLine s → InLine (on_got s ver value)
got_so (Walks dir name onto rest job) ver value h = walked_so name onto rest job (read_bucket value)
got_so (Looks dir name job) ver value h = looked_so dir name ver job (read_bucket value)
got_so (Measures ino task) ver value h = measured_so ino task ver (read_size value)
got_so (Fetches ino blk low left got) ver value h = fetching_so ino (blk + 1) 0 (left - in_block low left) _
got_so (Takes ino blk low bytes end) ver value h = tt
got_so (Gathers dir blk left rows) ver value h = gathered_so dir blk left rows (read_bucket value) h (bucket_lacks value)
got_so (Ends a) ver value h = h
got_so (Enters dir name v rows ino job) ver value h = h
got_so (Syncs dir name node) ver value h = h
got_so (Fills ino blk bytes end) ver value h = h
got_so (Patches ino blk low bytes end v old) ver value h = h
got_so (Grows ino end v) ver value h = h
got_so (Empties ino blk left v) ver value h = h
got_so (Closes ino v) ver value h = h

written_so : (s : PlanState) → InLine s → InLine (on_written s)
written_so (Enters dir name ver rows ino job) h = entered_so job ino
written_so (Fills ino blk bytes end) h = filling_so ino (blk + 1) 0 (drop block_size bytes) end
written_so (Patches ino blk low bytes end ver old) h = filling_so ino (blk + 1) 0 (drop (block_size - low) bytes) end
written_so (Grows ino end ver) h = tt
written_so (Empties ino blk left ver) h = emptying_so ino (blk + 1) left ver
written_so (Closes ino ver) h = tt
written_so (Ends a) h = h
written_so (Walks dir name onto rest job) h = h
written_so (Looks dir name job) h = h
written_so (Syncs dir name node) h = h
written_so (Measures ino task) h = h
written_so (Fetches ino blk low left got) h = h
written_so (Takes ino blk low bytes end) h = h
written_so (Gathers dir blk left rows) h = h

changed_so : (s : PlanState) → InLine s → InLine (on_changed s)
changed_so (Enters dir name ver rows ino job) h = tt
changed_so (Patches ino blk low bytes end ver old) h = tt
changed_so (Grows ino end ver) h = tt
changed_so (Closes ino ver) h = tt
changed_so (Ends a) h = h
changed_so (Walks dir name onto rest job) h = h
changed_so (Looks dir name job) h = h
changed_so (Syncs dir name node) h = h
changed_so (Measures ino task) h = h
changed_so (Fetches ino blk low left got) h = h
changed_so (Fills ino blk bytes end) h = h
changed_so (Takes ino blk low bytes end) h = h
changed_so (Empties ino blk left ver) h = h
changed_so (Gathers dir blk left rows) h = h

synced_so : (s : PlanState) → InLine s → InLine (on_synced s)
synced_so (Syncs dir name node) h = tt
synced_so (Ends a) h = h
synced_so (Walks dir name onto rest job) h = h
synced_so (Looks dir name job) h = h
synced_so (Enters dir name ver rows ino job) h = h
synced_so (Measures ino task) h = h
synced_so (Fetches ino blk low left got) h = h
synced_so (Fills ino blk bytes end) h = h
synced_so (Takes ino blk low bytes end) h = h
synced_so (Patches ino blk low bytes end ver old) h = h
synced_so (Grows ino end ver) h = h
synced_so (Empties ino blk left ver) h = h
synced_so (Closes ino ver) h = h
synced_so (Gathers dir blk left rows) h = h

answered_so : (s : PlanState) (a : BlockAnswer) → InLine s → InLine (file_plan_answered s a)
answered_so s (Got ver value) h = got_so s ver value h
answered_so s (Written ver) h = written_so s h
answered_so s Changed h = changed_so s h
answered_so s Synced h = synced_so s h

all_answered_so : (s : PlanState) (answers : List BlockAnswer) → InLine s → InLine (after_all s answers)
all_answered_so s [] h = h
all_answered_so s (a ∷ answers) h = all_answered_so (file_plan_answered s a) answers (answered_so s a h)

named_so : (c : FileCall) (ino : Ino) → InLine (start_named c ino)
named_so (call.Mk path) ino = path_so path _ _
named_so (call.Mkdir path) ino = path_so path _ _
named_so (call.Put path offset bytes) ino = path_so path _ _
named_so (call.Get path offset len) ino = path_so path _ _
named_so (call.Size path) ino = path_so path _ _
named_so (call.Ls []) ino = tt
named_so (call.Ls (name ∷ rest)) ino = walking_so root name rest Lists
named_so (call.Rm path) ino = path_so path _ _
named_so (call.Mv from to) ino = path_so from _ _

start_so : (c : FileCall) (ino : Ino) → InLine (start c ino)
start_so c ino = either (names_are_good c) (start_named c ino) _ (named_so c ino) tt

next_so : (s : PlanState) (a : Answer) → InLine s → file_plan_next s ≡ Reply a → IsOneLine a
next_so (Ends b) a h fact = (let same : b ≡ a = cc in subst IsOneLine same h)
next_so (Walks dir name onto rest job) a h fact = absurd cc
next_so (Looks dir name job) a h fact = absurd cc
next_so (Enters dir name ver rows ino job) a h fact = absurd cc
next_so (Syncs dir name node) a h fact = absurd cc
next_so (Measures ino task) a h fact = absurd cc
next_so (Fetches ino blk low left got) a h fact = absurd cc
next_so (Fills ino blk bytes end) a h fact = absurd cc
next_so (Takes ino blk low bytes end) a h fact = absurd cc
next_so (Patches ino blk low bytes end ver old) a h fact = absurd cc
next_so (Grows ino end ver) a h fact = absurd cc
next_so (Empties ino blk left ver) a h fact = absurd cc
next_so (Closes ino ver) a h fact = absurd cc
next_so (Gathers dir blk left rows) a h fact = absurd cc

-- what a plan replies is in a line
pub replies_in_a_line : (c : FileCall) (number client : ℕ) (answers : List BlockAnswer) (a : Answer) → plan c number client answers ≡ Reply a → IsOneLine a
replies_in_a_line c number client answers a fact =
    next_so (after_all (start c (made_by number client)) answers) a
    (all_answered_so (start c (made_by number client)) answers (start_so c (made_by number client))) fact
