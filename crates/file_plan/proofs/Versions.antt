-- The versions that a plan names are those that it has read.
use Rattle.std.proofs.Common.{◌≡◌, ℕ, zero, suc, ◌+◌, ◌-◌, Bool, true, false, cond, List, [], ◌∷◌, ◌++◌, length, drop, Option, Some, None, refl, sym, ap, subst, ◌∙◌, append_assoc}
use Rattle.std.specs.Prelude.{nat_lt, nat_le, ◌==◌, ◌&&◌, ◌/◌, ◌%◌}
use Rattle.std.specs.BTreeMap.{insert_entry}
use Rattle.std.proofs.lemmas.List.{append-nil}
use Rattle.xfs_base.specs.declared.block.BlockId.{BlockId}
use Rattle.version_model.specs.declared.answer.Answer.TheVariants.{Done, File}
use Rattle.version_model.specs.declared.answer.FileFault.{FileFault}
use Rattle.version_model.specs.declared.answer.FileFault.TheVariants.{IsDir, NotDir, Exists, TooBig, DirFull, BadName}
use Rattle.version_model.specs.declared.file_call.FileCall.{FileCall}
use Rattle.version_model.specs.declared.file_call.FileCall.TheVariants as call
use Rattle.version_model.specs.History.{Content}
use Rattle.file_plan.specs.declared.node.Node.{Node}
use Rattle.file_plan.specs.Names.{Name, Row, name_cmp, is_directory, bucket_number, names_are_good, named}
use Rattle.file_plan.specs.Format.{file_end}
use Rattle.file_plan.specs.declared.block_call.BlockAnswer.{BlockAnswer}
use Rattle.file_plan.specs.Calls.{block_at, size_block, block_size}
use Rattle.file_plan.specs.declared.block_call.BlockCall.TheVariants.{Get, PutAt}
use Rattle.file_plan.specs.declared.block_call.BlockAnswer.TheVariants.{Put as Written}
use Rattle.file_plan.specs.declared.block_call.BlockAnswer.TheVariants.{Got, Changed, Synced}
use Rattle.file_plan.specs.declared.block_call.Next.TheVariants.{Step}
use Rattle.file_plan.specs.declared.state.PlanState.{PlanState}
use Rattle.file_plan.specs.declared.state.Job.{Job}
use Rattle.file_plan.specs.declared.state.Task.{Task}
use Rattle.file_plan.specs.Names.{same_node}
use Rattle.file_plan.specs.Plan.{walking, walking_path, walked_to, walked, filling, fetching, emptying, blocks_of, measured, gathering, insert_all, gathered, fits, entering, leaving, end_of, putting, needs_file, at_entry, found, unfound, looked_at, looked, entered, on_got, on_written, on_changed, on_synced, file_plan_answered, file_plan_next, start_named, start, after_all, plan, made_by}
use Rattle.file_plan.specs.declared.state.PlanState.TheVariants.{Ends, Walks, Looks, Enters, Syncs, Measures, Fetches, Fills, Takes, Patches, Grows, Empties, Closes, Gathers}
use Rattle.file_plan.specs.declared.state.Job.TheVariants.{Makes, Puts, Gets, Sizes, Lists, Removes, Moves, Links, Unlinks}
use Rattle.file_plan.specs.declared.state.Task.TheVariants.{Tells, Cuts, Raises, Clears}
use Rattle.file_plan.specs.Driving.{HasRead, WritesOverItsReads, ReadsAgain}
use Rattle.xfs_base.specs.declared.block.Ino.{Ino}
use Rattle.file_plan.specs.declared.node.Kind.TheVariants as kind
use Rattle.file_plan.specs.Calls.{root}

-- the versions that a state keeps are known
abbrev Knows : (BlockId → ℕ → Type 0) → PlanState → Type 0
Knows P (Enters dir name ver rows ino job) = P (block_at dir (bucket_number name)) ver
Knows P (Patches ino blk low bytes end ver old) = P (block_at ino blk) ver
Knows P (Grows ino end ver) = P (block_at ino size_block) ver
Knows P (Empties ino blk left ver) = P (block_at ino size_block) ver
Knows P (Closes ino ver) = P (block_at ino size_block) ver
Knows P _ = Unit {0}

module _ (P : BlockId → ℕ → Type 0) where
  knows_if : (b : Bool) (x y : PlanState) → Knows P x → Knows P y → Knows P (cond b x y)
  knows_if true x y h g = h
  knows_if false x y h g = g

  knows_walking : (dir : Ino) (name : Name) (rest : List Name) (job : Job) → Knows P (walking dir name rest job)
  knows_walking dir name [] job = tt
  knows_walking dir name (onto ∷ rest) job = tt

  knows_path : (path : List Name) (fault : FileFault) (job : Job) → Knows P (walking_path path fault job)
  knows_path [] fault job = tt
  knows_path (name ∷ rest) fault job = knows_walking root name rest job

  knows_walked : (name onto : Name) (rest : List Name) (job : Job) (o : Option (List Row)) → Knows P (walked name onto rest job o)
  knows_walked name onto rest job None = tt
  knows_walked name onto rest job (Some rows) = by (found_in rows)
    where
      found_in : List Row → Option Node
      found_in rows = named name rows

      by : (o : Option Node) → Knows P (walked_to onto rest job o)
      by None = tt
      by (Some node) = knows_if (is_directory node) (walking node.ino onto rest job) (Ends (File NotDir)) (knows_walking node.ino onto rest job) tt

  knows_filling : (ino : Ino) (blk low : ℕ) (bytes : List ℕ) (end : ℕ) → Knows P (filling ino blk low bytes end)
  knows_filling ino blk low [] end = tt
  knows_filling ino blk low (b ∷ bs) end =
      knows_if ((low == 0) && nat_le block_size (length (b ∷ bs))) (Fills ino blk (b ∷ bs) end) (Takes ino blk low (b ∷ bs) end) tt tt

  knows_fetching : (ino : Ino) (blk low left : ℕ) (got : List ℕ) → Knows P (fetching ino blk low left got)
  knows_fetching ino blk low zero got = tt
  knows_fetching ino blk low (suc left) got = tt

  knows_emptying : (ino : Ino) (blk left ver : ℕ) → P (block_at ino size_block) ver → Knows P (emptying ino blk left ver)
  knows_emptying ino blk zero ver p = p
  knows_emptying ino blk (suc left) ver p = p

  knows_measured : (ino : Ino) (task : Task) (ver : ℕ) (o : Option ℕ) → P (block_at ino size_block) ver → Knows P (measured ino task ver o)
  knows_measured ino task ver None p = tt
  knows_measured ino Tells ver (Some size) p = tt
  knows_measured ino (Cuts offset len) ver (Some size) p = knows_fetching ino (offset / block_size) (offset % block_size) _ []
  knows_measured ino (Raises end) ver (Some size) p = knows_if (nat_le end size) (Ends Done) (Grows ino end ver) tt p
  knows_measured ino Clears ver (Some size) p =
      knows_if (size == 0) (Ends Done) (emptying ino 0 (blocks_of size) ver) tt (knows_emptying ino 0 (blocks_of size) ver p)

  knows_gathering : (dir : Ino) (blk left : ℕ) (rows : List Row) → Knows P (gathering dir blk left rows)
  knows_gathering dir blk zero rows = tt
  knows_gathering dir blk (suc left) rows = tt

  knows_gathered : (dir : Ino) (blk left : ℕ) (rows : List Row) (o : Option (List Row)) → Knows P (gathered dir blk left rows o)
  knows_gathered dir blk left rows None = tt
  knows_gathered dir blk left rows (Some more) = knows_gathering dir (blk + 1) left (insert_all rows more)

  module _ (dir : Ino) (name : Name) (ver : ℕ) (p : P (block_at dir (bucket_number name)) ver) (rows : List Row) where
    knows_entering : (node : Node) (job : Job) → Knows P (entering dir name ver rows node job)
    knows_entering node job =
        knows_if (fits (insert_entry name_cmp rows name node)) (Enters dir name ver (insert_entry name_cmp rows name node) node.ino job)
        (Ends (File DirFull)) p tt

    knows_putting : (ino : Ino) (offset : ℕ) (bytes : List ℕ) → Knows P (putting ino offset bytes)
    knows_putting ino offset bytes =
        knows_if (nat_lt file_end (offset + length bytes)) (Ends (File TooBig))
        (filling ino (offset / block_size) (offset % block_size) bytes (end_of offset bytes)) tt
        (knows_filling ino (offset / block_size) (offset % block_size) bytes (end_of offset bytes))

    knows_at_entry : (job : Job) (node : Node) → Knows P (at_entry dir name ver rows job node)
    knows_at_entry (Puts offset bytes) node = knows_putting node.ino offset bytes
    knows_at_entry Lists node = knows_if (is_directory node) (gathering node.ino 0 8 []) (Ends (File NotDir)) tt tt
    knows_at_entry Removes node = p
    knows_at_entry (Moves to) node = knows_path to Exists (Links node dir name)
    knows_at_entry (Unlinks old) node = knows_if (same_node old node) (leaving dir name ver rows node.ino (Unlinks old)) (Ends Done) p tt
    knows_at_entry _ node = tt

    knows_found : (job : Job) (node : Node) → Knows P (found dir name ver rows job node)
    knows_found job node = knows_if (needs_file job && is_directory node) (Ends (File IsDir)) (at_entry dir name ver rows job node) tt (knows_at_entry job node)

    knows_unfound : (job : Job) → Knows P (unfound dir name ver rows job)
    knows_unfound (Makes made) = knows_entering made (Makes made)
    knows_unfound (Links linked from old) = knows_entering linked (Links linked from old)
    knows_unfound _ = tt

    knows_looked_at : (job : Job) (o : Option Node) → Knows P (looked_at dir name ver rows job o)
    knows_looked_at job None = knows_unfound job
    knows_looked_at job (Some node) = knows_found job node

  knows_looked : (dir : Ino) (name : Name) (ver : ℕ) → P (block_at dir (bucket_number name)) ver → (job : Job) (o : Option (List Row))
      → Knows P (looked dir name ver job o)
  knows_looked dir name ver p job None = tt
  knows_looked dir name ver p job (Some rows) = knows_looked_at dir name ver p rows job (named name rows)

  knows_entered : (job : Job) (ino : Ino) → Knows P (entered job ino)
  knows_entered (Makes made) ino = tt
  knows_entered _ ino = tt

-- what is known stays known, and what is read is known from then on
module _ (P R : BlockId → ℕ → Type 0) (kept : (block : BlockId) (ver : ℕ) → P block ver → R block ver) where
  on_got_knows : (s : PlanState) (ver : ℕ) (value : Content) → ((block : BlockId) → file_plan_next s ≡ Step (Get block) → R block ver) → Knows P s
      → Knows R (on_got s ver value)
  on_got_knows (Ends answer) ver value new h = tt
  on_got_knows (Walks dir name onto rest job) ver value new h = knows_walked R name onto rest job _
  on_got_knows (Looks dir name job) ver value new h = knows_looked R dir name ver (new (block_at dir (bucket_number name)) refl) job _
  on_got_knows (Syncs dir name node) ver value new h = tt
  on_got_knows (Measures ino task) ver value new h = knows_measured R ino task ver _ (new (block_at ino size_block) refl)
  on_got_knows (Fetches ino blk low left got) ver value new h = knows_fetching R ino (blk + 1) 0 _ _
  on_got_knows (Fills ino blk bytes end) ver value new h = tt
  on_got_knows (Takes ino blk low bytes end) ver value new h = new (block_at ino blk) refl
  on_got_knows (Gathers dir blk left rows) ver value new h = knows_gathered R dir blk left rows _
  on_got_knows _ ver value new h = kept _ _ h

  on_written_knows : (s : PlanState) → Knows P s → Knows R (on_written s)
  on_written_knows (Enters dir name ver rows ino job) h = knows_entered R job ino
  on_written_knows (Fills ino blk bytes end) h = knows_filling R ino (blk + 1) 0 (drop block_size bytes) end
  on_written_knows (Patches ino blk low bytes end ver old) h = knows_filling R ino (blk + 1) 0 (drop (block_size - low) bytes) end
  on_written_knows (Empties ino blk left ver) h = knows_emptying R ino (blk + 1) left ver (kept _ _ h)
  on_written_knows _ h = tt

  on_changed_knows : (s : PlanState) → Knows P s → Knows R (on_changed s)
  on_changed_knows (Empties ino blk left ver) h = kept _ _ h
  on_changed_knows _ h = tt

  on_synced_knows : (s : PlanState) → Knows P s → Knows R (on_synced s)
  on_synced_knows (Enters dir name ver rows ino job) h = kept _ _ h
  on_synced_knows (Patches ino blk low bytes end ver old) h = kept _ _ h
  on_synced_knows (Grows ino end ver) h = kept _ _ h
  on_synced_knows (Empties ino blk left ver) h = kept _ _ h
  on_synced_knows (Closes ino ver) h = kept _ _ h
  on_synced_knows _ h = tt

  after_knows : (s : PlanState) (a : BlockAnswer)
      → ((block : BlockId) (ver : ℕ) (old : Content) → file_plan_next s ≡ Step (Get block) → a ≡ Got ver old → R block ver) → Knows P s → Knows R (file_plan_answered s a)
  after_knows s (Got ver value) new h = on_got_knows s ver value (λ block e. new block ver value e refl) h
  after_knows s (Written ver) new h = on_written_knows s h
  after_knows s Changed new h = on_changed_knows s h
  after_knows s Synced new h = on_synced_knows s h

-- ---- from the start

module _ (s0 : PlanState) where
  abbrev Read : List BlockAnswer → BlockId → ℕ → Type 0
  Read answers = HasRead (λ answers'. file_plan_next (after_all s0 answers')) answers

  last : (answers : List BlockAnswer) (a : BlockAnswer) (s : PlanState) → after_all s (answers ++ a ∷ []) ≡ file_plan_answered (after_all s answers) a
  last [] a s = refl
  last (b ∷ answers) a s = last answers a (file_plan_answered s b)

  one_more : (answers : List BlockAnswer) (a : BlockAnswer) → Knows (Read answers) (after_all s0 answers)
      → Knows (Read (answers ++ a ∷ [])) (after_all s0 (answers ++ a ∷ []))
  one_more answers a h =
      subst (Knows (Read (answers ++ a ∷ []))) (sym (last answers a s0))
      (after_knows (Read answers) (Read (answers ++ a ∷ []))
      (λ block ver r. (r.0, r.1 ++ a ∷ [], r.2, ap (λ (as' : List BlockAnswer). as' ++ a ∷ []) r.3 ∙ append_assoc r.0 (Got ver r.2 ∷ r.1) (a ∷ []), r.4))
      (after_all s0 answers) a (λ block ver old e g. (answers, [], old, ap (λ (b : BlockAnswer). answers ++ b ∷ []) g, e)) h)

  all_known : (rest front : List BlockAnswer) → Knows (Read front) (after_all s0 front) → Knows (Read (front ++ rest)) (after_all s0 (front ++ rest))
  all_known [] front h = subst (λ (as' : List BlockAnswer). Knows (Read as') (after_all s0 as')) (sym (append-nil front)) h
  all_known (a ∷ rest) front h =
      subst (λ (as' : List BlockAnswer). Knows (Read as') (after_all s0 as')) (append_assoc front (a ∷ []) rest)
      (all_known rest (front ++ a ∷ []) (one_more front a h))

-- a state that writes over a version keeps that version
named_known : (P : BlockId → ℕ → Type 0) (s : PlanState) (block : BlockId) (ver : ℕ) (value : Content) → file_plan_next s ≡ Step (PutAt block ver value) → Knows P s
    → P block ver
named_known P (Enters dir name v rows ino job) block ver value e h = let same : block_at dir (bucket_number name) ≡ block = cc in let at : v ≡ ver =
    cc in subst (λ (n : ℕ). P block n) at (subst (λ (b : BlockId). P b v) same h)
named_known P (Patches ino blk low bytes end v old) block ver value e h = let same : block_at ino blk ≡ block = cc in let at : v ≡ ver =
    cc in subst (λ (n : ℕ). P block n) at (subst (λ (b : BlockId). P b v) same h)
named_known P (Grows ino end v) block ver value e h = let same : block_at ino size_block ≡ block = cc in let at : v ≡ ver =
    cc in subst (λ (n : ℕ). P block n) at (subst (λ (b : BlockId). P b v) same h)
named_known P (Closes ino v) block ver value e h = let same : block_at ino size_block ≡ block = cc in let at : v ≡ ver =
    cc in subst (λ (n : ℕ). P block n) at (subst (λ (b : BlockId). P b v) same h)
named_known P _ block ver value e h = let no' : ⊥ = cc in absurd no'

knows_start : (P : BlockId → ℕ → Type 0) (c : FileCall) (ino : Ino) → Knows P (start_named c ino)
knows_start P (call.Mk path) ino = knows_path P path Exists (Makes (record { kind = kind.File; ino = ino }))
knows_start P (call.Mkdir path) ino = knows_path P path Exists (Makes (record { kind = kind.Directory; ino = ino }))
knows_start P (call.Put path offset bytes) ino = knows_path P path IsDir (Puts offset bytes)
knows_start P (call.Get path offset len) ino = knows_path P path IsDir (Gets offset len)
knows_start P (call.Size path) ino = knows_path P path IsDir Sizes
knows_start P (call.Ls []) ino = tt
knows_start P (call.Ls (name ∷ rest)) ino = knows_walking P root name rest Lists
knows_start P (call.Rm path) ino = knows_path P path IsDir Removes
knows_start P (call.Mv from to) ino = knows_path P from IsDir (Moves to)

pub over_reads : WritesOverItsReads
over_reads c number client answers block ver value e =
    let s0 = start c (made_by number client) in
    named_known (HasRead (plan c number client) answers) (after_all s0 answers) block ver value e
    (all_known s0 answers []
    (knows_if (Read s0 []) (names_are_good c) (start_named c (made_by number client)) (Ends (File BadName))
    (knows_start (Read s0 []) c (made_by number client)) tt))

-- ---- a refused write

-- a state whose write was refused reads the block
reads_next : (s : PlanState) (block : BlockId) (ver : ℕ) (value : Content) → file_plan_next s ≡ Step (PutAt block ver value)
    → file_plan_next (on_changed s) ≡ Step (Get block)
reads_next (Enters dir name v rows ino job) block ver value e = let same : block_at dir (bucket_number name) ≡ block =
    cc in ap (λ (b : BlockId). Step (Get b)) same
reads_next (Patches ino blk low bytes end v old) block ver value e = let same : block_at ino blk ≡ block = cc in ap (λ (b : BlockId). Step (Get b)) same
reads_next (Grows ino end v) block ver value e = let same : block_at ino size_block ≡ block = cc in ap (λ (b : BlockId). Step (Get b)) same
reads_next (Closes ino v) block ver value e = let same : block_at ino size_block ≡ block = cc in ap (λ (b : BlockId). Step (Get b)) same
reads_next _ block ver value e = let no' : ⊥ = cc in absurd no'

pub reads_again : ReadsAgain
reads_again c number client answers block ver value e =
    let s0 = start c (made_by number client) in
    ap file_plan_next (last s0 answers Changed s0) ∙ reads_next (after_all s0 answers) block ver value e
