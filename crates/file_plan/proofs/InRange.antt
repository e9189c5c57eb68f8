-- What a state keeps stays in its ranges, whatever is answered.
use Rattle.std.proofs.Common.{◌≡◌, ℕ, zero, suc, ◌+◌, ◌-◌, ◌*◌, ◌/◌, ◌%◌, ◌<◌, ◌≤◌, min, Bool, true, false, cond, ◌&&◌, List, [], ◌∷◌, ◌++◌, length, take, drop, replicate, Option, Some, None, refl, subst, arith, length-append, length-drop}
use Rattle.std.specs.Prelude.{nat_le, nat_lt, ◌==◌, IfSome}
use Rattle.std.specs.Int.{w64, from_be_bytes}
use Rattle.std.specs.Map.{remove_entry}
use Rattle.std.specs.BTreeMap.{is_at, insert_entry}
use Rattle.std.specs.FinMap.Entries.{is_sorted}
use Rattle.std.proofs.lemmas.List.{length-take, length-replicate}
use Rattle.std.proofs.lemmas.Bool.{leb-true, ltb-false}
use Rattle.xfs_base.specs.declared.block.Ino.{Ino}
use Rattle.xfs_base.specs.Limits.{max_value}
use Rattle.xfs_base.specs.Value.{IsValue}
use Rattle.version_model.specs.declared.answer.Answer.TheVariants.{Done, File}
use Rattle.version_model.specs.declared.answer.FileFault.{FileFault}
use Rattle.version_model.specs.declared.answer.FileFault.TheVariants.{IsDir, NotDir, Exists, TooBig, DirFull, BadName}
use Rattle.version_model.specs.declared.file_call.FileCall.{FileCall}
use Rattle.version_model.specs.declared.file_call.FileCall.TheVariants as call
use Rattle.version_model.specs.History.{Content}
use Rattle.file_plan.specs.declared.block_call.BlockAnswer.{BlockAnswer}
use Rattle.file_plan.specs.declared.block_call.BlockAnswer.TheVariants.{Got, Changed, Synced}
use Rattle.file_plan.specs.declared.block_call.BlockAnswer.TheVariants.{Put as Written}
use Rattle.file_plan.specs.declared.node.Kind.TheVariants as kind
use Rattle.file_plan.specs.declared.node.Node.{Node}
use Rattle.file_plan.specs.declared.state.Job.{Job}
use Rattle.file_plan.specs.declared.state.Job.TheVariants.{Makes, Puts, Gets, Sizes, Lists, Removes, Moves, Links, Unlinks}
use Rattle.file_plan.specs.declared.state.PlanState.{PlanState}
use Rattle.file_plan.specs.declared.state.PlanState.TheVariants.{Ends, Walks, Looks, Enters, Syncs, Measures, Fetches, Fills, Takes, Patches, Grows, Empties, Closes, Gathers}
use Rattle.file_plan.specs.declared.state.Task.{Task}
use Rattle.file_plan.specs.declared.state.Task.TheVariants.{Tells, Cuts, Raises, Clears}
use Rattle.file_plan.specs.Calls.{root, block_size}
use Rattle.file_plan.specs.Names.{Name, Row, name_cmp, same_node, is_directory, named, names_are_good}
use Rattle.file_plan.specs.Format.{bytes_in, value_of, cut_of, bucket_bytes, name_length, front_row, has_row, rest_of_rows, with_row, rows_from, in_order, read_rows, size_in, file_end}
use Rattle.file_plan.specs.Plan.{walking, walking_path, walked_to, walked, filling, fetching, in_block, emptying, blocks_of, measured, gathering, insert_all, gathered, fits, entering, leaving, putting, end_of, needs_file, at_entry, unfound, looked_at, looked, entered, on_got, on_written, on_changed, on_synced, file_plan_answered, start_named, start}
use Rattle.file_plan.specs.Ranges.{IsInRange, IsAnswer}
use Rattle.file_plan.proofs.Parsing.{row_length}
use Rattle.file_plan.proofs.RowPlaces.{without_shorter}

either : (b : Bool) (x y : PlanState) → (b ≡ true → IsInRange x) → (b ≡ false → IsInRange y) → IsInRange (cond b x y)
either true x y f g = f refl
either false x y f g = g refl

-- ---- what is read

-- the entries that are read take as many bytes as they were read from
is_read_more : (bytes : List ℕ) → has_row bytes ≡ true → (o : Option (List Row))
    → ((more : List Row) → o ≡ Some more → length (bucket_bytes more) ≡ length (rest_of_rows bytes)) → (rows : List Row)
    → with_row (front_row bytes) o ≡ Some rows → length (bucket_bytes rows) ≡ length bytes
is_read_more bytes has None go rows e = let no' : ⊥ = cc in absurd no'
is_read_more bytes has (Some more) go rows e =
    let same : front_row bytes ∷ more ≡ rows = cc in
    let long = row_length bytes has in
    let a = go more refl in
    let b = length-drop 6 bytes in
    let c = length-drop (name_length bytes) (drop 6 bytes) in
    let d = length-take (name_length bytes) (drop 6 bytes) in
    let f = length-append (take (name_length bytes) (drop 6 bytes)) (bucket_bytes more) in
    subst (λ (rs : List Row). length (bucket_bytes rs) ≡ length bytes) same (omega (arith, long, a, b, c, d, f))

is_read_step : (bytes : List ℕ) (b : Bool) → has_row bytes ≡ b → (o : Option (List Row))
    → ((more : List Row) → o ≡ Some more → length (bucket_bytes more) ≡ length (rest_of_rows bytes)) → (rows : List Row)
    → cond b (with_row (front_row bytes) o) None ≡ Some rows → length (bucket_bytes rows) ≡ length bytes
is_read_step bytes true has o go rows e = is_read_more bytes has o go rows e
is_read_step bytes false has o go rows e = let no' : ⊥ = cc in absurd no'

rows_length : (n : ℕ) (bytes : List ℕ) (rows : List Row) → rows_from n bytes ≡ Some rows → length (bucket_bytes rows) ≡ length bytes
rows_length n [] rows e = let same : [] ≡ rows = cc in subst (λ (rs : List Row). length (bucket_bytes rs) ≡ 0) same refl
rows_length zero (b ∷ bs) rows e = let no' : ⊥ = cc in absurd no'
rows_length (suc n) (b ∷ bs) rows e =
    is_read_step (b ∷ bs) (has_row (b ∷ bs)) refl (rows_from n (rest_of_rows (b ∷ bs))) (λ more h. rows_length n (rest_of_rows (b ∷ bs)) more h) rows e

-- entries that were read from so many bytes
abbrev Short : Option (List Row) → Type 0
Short o = IfSome o (λ rows. length (bucket_bytes rows) ≤ max_value)

ordered_short : (n : ℕ) (o : Option (List Row)) → n ≤ max_value → ((rows : List Row) → o ≡ Some rows → length (bucket_bytes rows) ≡ n) → Short (in_order o)
ordered_short n None le h = tt
ordered_short n (Some rows) le h = by (is_sorted name_cmp rows)
  where
    by : (b : Bool) → Short (cond b (Some rows) None)
    by true = let e = h rows refl in omega (arith, e, le)
    by false = tt

read_short : (value : Content) → IsValue value → Short (read_rows (bytes_in value))
read_short None fact = omega arith
read_short (Some bytes) fact = ordered_short (length bytes) (rows_from (length bytes) bytes) fact.1 (λ rows e. rows_length (length bytes) bytes rows e)

size_short : (value : Content) → IfSome (size_in (bytes_in value)) (λ size. size ≤ file_end)
size_short None = omega arith
size_short (Some []) = omega arith
size_short (Some (b ∷ bs)) = by (length (b ∷ bs) == 8) (from_be_bytes w64 (b ∷ bs))
  where
    by : (c : Bool) (n : ℕ) → IfSome (cond (c && nat_le n file_end) (Some n) None) (λ size. size ≤ file_end)
    by true n = le (nat_le n file_end) refl
      where
        le : (d : Bool) → nat_le n file_end ≡ d → IfSome (cond d (Some n) None) (λ size. size ≤ file_end)
        le true e = leb-true n file_end e
        le false e = tt
    by false n = tt

is_value : (bytes : List ℕ) → length bytes ≤ max_value → IsValue (value_of bytes)
is_value [] le = tt
is_value (b ∷ bs) le = (omega arith, le)

pub length_cut : (bytes : List ℕ) (low count : ℕ) → length (cut_of bytes low count) ≡ count
length_cut bytes low count =
    let none : ℕ = 0 in
    let gap = count - (length bytes - low) in
    let a = length-append (take count (drop low bytes)) (replicate gap none) in
    let b = length-replicate gap none in
    let c = length-drop low bytes in
    let d = length-take count (drop low bytes) in
    omega (arith, a, b, c, d)

-- ---- places in a file

in_filling : (ino : Ino) (blk low : ℕ) (bytes : List ℕ) (end : ℕ) → low < block_size → (0 < length bytes → block_size * blk + low + length bytes ≤ file_end)
    → IsInRange (filling ino blk low bytes end)
in_filling ino blk low [] end first last = tt
in_filling ino blk low (b ∷ bs) end first last =
    let le : block_size * blk + low + length (b ∷ bs) ≤ file_end = last (omega arith) in
    either ((low == 0) && nat_le block_size (length (b ∷ bs))) (Fills ino blk (b ∷ bs) end) (Takes ino blk low (b ∷ bs) end)
    (λ _. record { some = omega arith; within = record { first = omega arith; last = omega (arith, le) } })
    (λ _. record { some = omega arith; within = record { first = first; last = le } })

in_fetching : (ino : Ino) (blk low left : ℕ) (got : List ℕ) → low < block_size → (0 < left → block_size * blk + low + left ≤ file_end)
    → length got + left ≤ file_end → IsInRange (fetching ino blk low left got)
in_fetching ino blk low zero got first last all = tt
in_fetching ino blk low (suc left) got first last all = (record { first = first; last = last (omega arith) }, all)

in_emptying : (ino : Ino) (blk left ver : ℕ) → blk + left ≤ 256 → IsInRange (emptying ino blk left ver)
in_emptying ino blk zero ver le = tt
in_emptying ino blk (suc left) ver le = omega (arith, le)

in_gathering : (dir : Ino) (blk left : ℕ) (rows : List Row) → blk + left ≤ 8 → IsInRange (gathering dir blk left rows)
in_gathering dir blk zero rows le = tt
in_gathering dir blk (suc left) rows le = omega (arith, le)

in_measured : (ino : Ino) (task : Task) (ver : ℕ) (o : Option ℕ) → IfSome o (λ size. size ≤ file_end) → IsInRange (measured ino task ver o)
in_measured ino task ver None le = tt
in_measured ino Tells ver (Some size) le = tt
in_measured ino (Cuts offset len) ver (Some size) le =
    let first : offset % block_size < block_size = omega arith in
    let all : 0 + min len (size - offset) ≤ file_end = omega (arith, le) in
    in_fetching ino (offset / block_size) (offset % block_size) (min len (size - offset)) [] first (λ some. omega (arith, some, le)) all
in_measured ino (Raises end) ver (Some size) le = either (nat_le end size) (Ends Done) (Grows ino end ver) (λ _. tt) (λ _. tt)
in_measured ino Clears ver (Some size) le =
    let few : 0 + blocks_of size ≤ 256 =
    omega (arith, le) in either (size == 0) (Ends Done) (emptying ino 0 (blocks_of size) ver) (λ _. tt) (λ _. in_emptying ino 0 (blocks_of size) ver few)

in_putting : (ino : Ino) (offset : ℕ) (bytes : List ℕ) → IsInRange (putting ino offset bytes)
in_putting ino offset bytes =
    either (nat_lt file_end (offset + length bytes)) (Ends (File TooBig)) (filling ino (offset / block_size) (offset % block_size) bytes (end_of offset bytes))
    (λ _. tt)
    (λ e. let le : offset + length bytes ≤ file_end = at_most (offset + length bytes) e in
    in_filling ino (offset / block_size) (offset % block_size) bytes (end_of offset bytes) (omega arith) (λ some. omega (arith, le)))
  where
    at_most : (n : ℕ) → nat_lt file_end n ≡ false → n ≤ file_end
    at_most n h = ltb-false file_end n h

-- ---- paths and entries

in_walking : (dir : Ino) (name : Name) (rest : List Name) (job : Job) → IsInRange (walking dir name rest job)
in_walking dir name [] job = tt
in_walking dir name (onto ∷ rest) job = tt

in_path : (path : List Name) (fault : FileFault) (job : Job) → IsInRange (walking_path path fault job)
in_path [] fault job = tt
in_path (name ∷ rest) fault job = in_walking root name rest job

in_walked : (name onto : Name) (rest : List Name) (job : Job) (o : Option (List Row)) → IsInRange (walked name onto rest job o)
in_walked name onto rest job None = tt
in_walked name onto rest job (Some rows) = by (named name rows)
  where
    by : (p : Option Node) → IsInRange (walked_to onto rest job p)
    by None = tt
    by (Some node) = either (is_directory node) (walking node.ino onto rest job) (Ends (File NotDir)) (λ _. in_walking node.ino onto rest job) (λ _. tt)

in_gathered : (dir : Ino) (blk left : ℕ) (rows : List Row) (o : Option (List Row)) → blk + 1 + left ≤ 8 → IsInRange (gathered dir blk left rows o)
in_gathered dir blk left rows None le = tt
in_gathered dir blk left rows (Some more) le = in_gathering dir (blk + 1) left (insert_all rows more) le

module _ (dir : Ino) (name : Name) (ver : ℕ) (rows : List Row) (short : length (bucket_bytes rows) ≤ max_value) where
  in_entering : (node : Node) (job : Job) → IsInRange (entering dir name ver rows node job)
  in_entering node job =
      either (fits now) (Enters dir name ver now node.ino job) (Ends (File DirFull))
      (λ e. let le : length (bucket_bytes now) ≤ block_size = leb-true (length (bucket_bytes now)) block_size e in is_value (bucket_bytes now) (omega (arith, le)))
      (λ _. tt)
    where
      now : List Row
      now = insert_entry name_cmp rows name node

  in_leaving : (ino : Ino) (job : Job) → IsInRange (leaving dir name ver rows ino job)
  in_leaving ino job = let le = without_shorter name rows in is_value (bucket_bytes (remove_entry (is_at (name_cmp name)) rows)) (omega (arith, le, short))

  in_at_entry : (job : Job) (node : Node) → IsInRange (at_entry dir name ver rows job node)
  in_at_entry (Puts offset bytes) node = in_putting node.ino offset bytes
  in_at_entry Lists node =
      either (is_directory node) (gathering node.ino 0 8 []) (Ends (File NotDir)) (λ _. in_gathering node.ino 0 8 [] (omega arith)) (λ _. tt)
  in_at_entry Removes node = in_leaving node.ino Removes
  in_at_entry (Moves to) node = in_path to Exists (Links node dir name)
  in_at_entry (Unlinks old) node =
      either (same_node old node) (leaving dir name ver rows node.ino (Unlinks old)) (Ends Done) (λ _. in_leaving node.ino (Unlinks old)) (λ _. tt)
  in_at_entry _ node = tt

  in_unfound : (job : Job) → IsInRange (unfound dir name ver rows job)
  in_unfound (Makes made) = in_entering made (Makes made)
  in_unfound (Links linked from old) = in_entering linked (Links linked from old)
  in_unfound _ = tt

  in_looked_at : (job : Job) (o : Option Node) → IsInRange (looked_at dir name ver rows job o)
  in_looked_at job None = in_unfound job
  in_looked_at job (Some node) =
      either (needs_file job && is_directory node) (Ends (File IsDir)) (at_entry dir name ver rows job node) (λ _. tt) (λ _. in_at_entry job node)

in_looked : (dir : Ino) (name : Name) (ver : ℕ) (job : Job) (o : Option (List Row)) → Short o → IsInRange (looked dir name ver job o)
in_looked dir name ver job None short = tt
in_looked dir name ver job (Some rows) short = in_looked_at dir name ver rows short job (named name rows)

in_entered : (job : Job) (ino : Ino) → IsInRange (entered job ino)
in_entered (Makes made) ino = tt
in_entered _ ino = tt

-- ---- answers

in_got : (s : PlanState) (ver : ℕ) (value : Content) → IsValue value → IsInRange s → IsInRange (on_got s ver value)
in_got (Ends answer) ver value fact h = tt
in_got (Walks dir name onto rest job) ver value fact h = in_walked name onto rest job (read_rows (bytes_in value))
in_got (Looks dir name job) ver value fact h = in_looked dir name ver job (read_rows (bytes_in value)) (read_short value fact)
in_got (Syncs dir name node) ver value fact h = tt
in_got (Measures ino task) ver value fact h = in_measured ino task ver (size_in (bytes_in value)) (size_short value)
in_got (Fetches ino blk low left got) ver value fact h =
    let k = in_block low left in
    let first = h.0.first in
    let last = h.0.last in
    let all = h.1 in
    let e = length-append got (cut_of (bytes_in value) low k) in
    let f = length_cut (bytes_in value) low k in
    in_fetching ino (blk + 1) 0 (left - k) (got ++ cut_of (bytes_in value) low k) (omega arith) (λ some. omega (arith, first, last, some))
    (omega (arith, all, e, f))
in_got (Grows ino end v) ver value fact h = tt
in_got (Closes ino v) ver value fact h = tt
in_got (Gathers dir blk left rows) ver value fact h = in_gathered dir blk left rows (read_rows (bytes_in value)) (omega (arith, h))
in_got _ ver value fact h = h

in_written : (s : PlanState) → IsInRange s → IsInRange (on_written s)
in_written (Enters dir name v rows ino job) h = in_entered job ino
in_written (Fetches ino blk low left got) h = h
in_written (Fills ino blk bytes end) h =
    let last = h.within.last in
    let e = length-drop block_size bytes in
    in_filling ino (blk + 1) 0 (drop block_size bytes) end (omega arith) (λ some. omega (arith, last, e, some))
in_written (Takes ino blk low bytes end) h = h
in_written (Patches ino blk low bytes end v old) h =
    let first = h.within.first in
    let last = h.within.last in
    let e = length-drop (block_size - low) bytes in
    in_filling ino (blk + 1) 0 (drop (block_size - low) bytes) end (omega arith) (λ some. omega (arith, first, last, e, some))
in_written (Empties ino blk left v) h = in_emptying ino (blk + 1) left v (omega (arith, h))
in_written (Gathers dir blk left rows) h = h
in_written _ h = tt

in_changed : (s : PlanState) → IsInRange s → IsInRange (on_changed s)
in_changed (Fetches ino blk low left got) h = h
in_changed (Fills ino blk bytes end) h = h
in_changed (Takes ino blk low bytes end) h = h
in_changed (Patches ino blk low bytes end v old) h = h
in_changed (Empties ino blk left v) h = h
in_changed (Gathers dir blk left rows) h = h
in_changed _ h = tt

in_synced : (s : PlanState) → IsInRange s → IsInRange (on_synced s)
in_synced (Enters dir name v rows ino job) h = h
in_synced (Fetches ino blk low left got) h = h
in_synced (Fills ino blk bytes end) h = h
in_synced (Takes ino blk low bytes end) h = h
in_synced (Patches ino blk low bytes end v old) h = h
in_synced (Empties ino blk left v) h = h
in_synced (Gathers dir blk left rows) h = h
in_synced _ h = tt

pub in_after : (s : PlanState) (a : BlockAnswer) → IsAnswer a → IsInRange s → IsInRange (file_plan_answered s a)
in_after s (Got ver value) fact h = in_got s ver value fact h
in_after s (Written ver) fact h = in_written s h
in_after s Changed fact h = in_changed s h
in_after s Synced fact h = in_synced s h

in_named : (c : FileCall) (ino : Ino) → IsInRange (start_named c ino)
in_named (call.Mk path) ino = in_path path Exists (Makes (record { kind = kind.File; ino = ino }))
in_named (call.Mkdir path) ino = in_path path Exists (Makes (record { kind = kind.Directory; ino = ino }))
in_named (call.Put path offset bytes) ino = in_path path IsDir (Puts offset bytes)
in_named (call.Get path offset len) ino = in_path path IsDir (Gets offset len)
in_named (call.Size path) ino = in_path path IsDir Sizes
in_named (call.Ls []) ino = in_gathering root 0 8 [] (omega arith)
in_named (call.Ls (name ∷ rest)) ino = in_walking root name rest Lists
in_named (call.Rm path) ino = in_path path IsDir Removes
in_named (call.Mv from to) ino = in_path from IsDir (Moves to)

pub in_start : (c : FileCall) (ino : Ino) → IsInRange (start c ino)
in_start c ino = either (names_are_good c) (start_named c ino) (Ends (File BadName)) (λ _. in_named c ino) (λ _. tt)
