-- A move puts an entry in, settles, and only then takes the other out.
use Rattle.std.proofs.Common.{inl, inr, ◌≡◌, ℕ, List, [], ◌∷◌, ◌++◌, Option, Some, None, refl, sym, ap, subst, append_assoc}
use Rattle.std.specs.Prelude.{◌⊎◌}
use Rattle.std.specs.Map.{remove_entry}
use Rattle.std.specs.BTreeMap.{is_at, insert_entry}
use Rattle.std.proofs.lemmas.List.{append-nil}
use Rattle.xfs_base.specs.declared.block.BlockId.{BlockId}
use Rattle.xfs_base.specs.declared.block.Ino.{Ino}
use Rattle.version_model.specs.declared.answer.Answer.TheVariants.{Done, File}
use Rattle.version_model.specs.declared.answer.FileFault.{FileFault}
use Rattle.version_model.specs.declared.answer.FileFault.TheVariants.{IsDir, NotDir, Exists, DirFull, BadName}
use Rattle.version_model.specs.declared.file_call.FileCall.TheVariants as call
use Rattle.version_model.specs.History.{Content}
use Rattle.file_plan.specs.declared.block_call.BlockAnswer.{BlockAnswer}
use Rattle.file_plan.specs.declared.block_call.BlockAnswer.TheVariants.{Got, Changed, Synced}
use Rattle.file_plan.specs.declared.block_call.BlockAnswer.TheVariants.{Put as Written}
use Rattle.file_plan.specs.declared.block_call.BlockCall.TheVariants.{Put, PutAt, Sync}
use Rattle.file_plan.specs.declared.block_call.Next.TheVariants.{Step}
use Rattle.file_plan.specs.declared.node.Node.{Node}
use Rattle.file_plan.specs.declared.state.Job.{Job}
use Rattle.file_plan.specs.declared.state.Job.TheVariants.{Moves, Links, Unlinks}
use Rattle.file_plan.specs.declared.state.PlanState.{PlanState}
use Rattle.file_plan.specs.declared.state.PlanState.TheVariants.{Ends, Walks, Looks, Enters, Syncs}
use Rattle.file_plan.specs.Calls.{block_at, root}
use Rattle.file_plan.specs.Names.{Name, Row, name_cmp, bucket_number, same_node, is_directory, named, names_are_good}
use Rattle.file_plan.specs.Format.{value_of, bucket_bytes, read_bucket}
use Rattle.file_plan.specs.Plan.{walking, walking_path, walked_to, walked, fits, leaving, unfound, looked_at, looked, entered, on_got, on_written, on_changed, on_synced, file_plan_answered, file_plan_next, start_named, start, after_all, made_by}
use Rattle.file_plan.specs.WriteOrder.{TakesOut, PutsIn, HasWritten, HasSettled, AddsBeforeItRemoves}
use Rattle.file_plan.proofs.WritesKept.{either, last, from_here, written_more, written_last, settled_more}

-- what a move does on the way to its entries
abbrev IsWay : Job → Type 0
IsWay (Moves to) = Unit {0}
IsWay (Links linked from old) = Unit {0}
IsWay _ = ⊥

-- what it does at them; S says that the second entry was put in and then all was settled
abbrev IsAtEntry : Type 0 → Job → Type 0
IsAtEntry S (Moves to) = Unit {0}
IsAtEntry S (Links linked from old) = Unit {0}
IsAtEntry S (Unlinks old) = S
IsAtEntry S _ = ⊥

-- and what it writes there
abbrev IsWriting : Type 0 → Name → List Row → Job → Type 0
IsWriting S name rows (Links linked from old) = (before : List Row) × (rows ≡ insert_entry name_cmp before name linked)
IsWriting S name rows (Unlinks old) = S × ((before : List Row) × (rows ≡ remove_entry (is_at (name_cmp name)) before))
IsWriting S name rows _ = ⊥

-- where a move may stand; A says that the second entry was put in
abbrev InMove : Type 0 → Type 0 → PlanState → Type 0
InMove A S (Ends answer) = Unit {0}
InMove A S (Walks dir name onto rest job) = IsWay job
InMove A S (Looks dir name job) = IsAtEntry S job
InMove A S (Enters dir name ver rows ino job) = IsWriting S name rows job
InMove A S (Syncs dir name node) = A
InMove A S _ = ⊥

at_entry_of : (S : Type 0) (job : Job) → IsWay job → IsAtEntry S job
at_entry_of S (Moves to) h = tt
at_entry_of S (Links linked from old) h = tt
at_entry_of S _ h = absurd h

module _ (A S : Type 0) where
  move_walking : (dir : Ino) (name : Name) (rest : List Name) (job : Job) → IsWay job → InMove A S (walking dir name rest job)
  move_walking dir name [] job h = at_entry_of S job h
  move_walking dir name (onto ∷ rest) job h = h

  move_path : (path : List Name) (fault : FileFault) (job : Job) → IsWay job → InMove A S (walking_path path fault job)
  move_path [] fault job h = tt
  move_path (name ∷ rest) fault job h = move_walking root name rest job h

  move_walked : (name onto : Name) (rest : List Name) (job : Job) → IsWay job → (o : Option (List Row)) → InMove A S (walked name onto rest job o)
  move_walked name onto rest job h None = tt
  move_walked name onto rest job h (Some rows) = by (named name rows)
    where
      by : (p : Option Node) → InMove A S (walked_to onto rest job p)
      by None = tt
      by (Some node) = either (InMove A S) (is_directory node) (walking node.ino onto rest job) (Ends (File NotDir)) (move_walking node.ino onto rest job h) tt

  move_unfound : (dir : Ino) (name : Name) (ver : ℕ) (rows : List Row) (job : Job) → IsAtEntry S job → InMove A S (unfound dir name ver rows job)
  move_unfound dir name ver rows (Moves to) h = tt
  move_unfound dir name ver rows (Links linked from old) h =
      either (InMove A S) (fits (insert_entry name_cmp rows name linked))
      (Enters dir name ver (insert_entry name_cmp rows name linked) linked.ino (Links linked from old)) (Ends (File DirFull)) (rows, refl) tt
  move_unfound dir name ver rows (Unlinks old) h = tt
  move_unfound dir name ver rows _ h = absurd h

  move_found : (dir : Ino) (name : Name) (ver : ℕ) (rows : List Row) (job : Job) (node : Node) → IsAtEntry S job
      → InMove A S (looked_at dir name ver rows job (Some node))
  move_found dir name ver rows (Moves to) node h =
      either (InMove A S) (is_directory node) (Ends (File IsDir)) (walking_path to Exists (Links node dir name)) tt
      (move_path to Exists (Links node dir name) tt)
  move_found dir name ver rows (Links linked from old) node h = tt
  move_found dir name ver rows (Unlinks old) node h =
      either (InMove A S) (same_node old node) (leaving dir name ver rows node.ino (Unlinks old)) (Ends Done) (h, (rows, refl)) tt
  move_found dir name ver rows _ node h = absurd h

  move_looked : (dir : Ino) (name : Name) (ver : ℕ) (job : Job) → IsAtEntry S job → (o : Option (List Row)) → InMove A S (looked dir name ver job o)
  move_looked dir name ver job h None = tt
  move_looked dir name ver job h (Some rows) = by (named name rows)
    where
      by : (p : Option Node) → InMove A S (looked_at dir name ver rows job p)
      by None = move_unfound dir name ver rows job h
      by (Some node) = move_found dir name ver rows job node h

still_at_entry : (S T : Type 0) → (S → T) → (job : Job) → IsAtEntry S job → IsAtEntry T job
still_at_entry S T f (Unlinks old) h = f h
still_at_entry S T f _ h = h

still_writing : (S T : Type 0) → (S → T) → (name : Name) (rows : List Row) (job : Job) → IsWriting S name rows job → IsWriting T name rows job
still_writing S T f name rows (Unlinks old) h = (f h.0, h.1)
still_writing S T f name rows _ h = h

-- a refused write looks again
looks_again : (S T : Type 0) → (S → T) → (name : Name) (rows : List Row) (job : Job) → IsWriting S name rows job → IsAtEntry T job
looks_again S T f name rows (Moves to) h = absurd h
looks_again S T f name rows (Links linked from old) h = tt
looks_again S T f name rows (Unlinks old) h = f h.0
looks_again S T f name rows _ h = h

module _ (A S B T : Type 0) (f : A → B) (g : S → T) where
  move_still : (s : PlanState) → InMove A S s → InMove B T s
  move_still (Ends answer) h = tt
  move_still (Walks dir name onto rest job) h = h
  move_still (Looks dir name job) h = still_at_entry S T g job h
  move_still (Enters dir name v rows ino job) h = still_writing S T g name rows job h
  move_still (Syncs dir name node) h = f h
  move_still _ h = absurd h

  move_got : (s : PlanState) (ver : ℕ) (value : Content) → InMove A S s → InMove B T (on_got s ver value)
  move_got (Ends answer) ver value h = tt
  move_got (Walks dir name onto rest job) ver value h = move_walked B T name onto rest job h (read_bucket value)
  move_got (Looks dir name job) ver value h = move_looked B T dir name ver job (still_at_entry S T g job h) (read_bucket value)
  move_got (Enters dir name v rows ino job) ver value h = still_writing S T g name rows job h
  move_got (Syncs dir name node) ver value h = f h
  move_got _ ver value h = absurd h

  -- the bucket was written
  move_entered : (dir : Ino) (name : Name) (rows : List Row) (ino : Ino) (job : Job)
      → (PutsIn (block_at dir (bucket_number name)) (value_of (bucket_bytes rows)) → B) → IsWriting S name rows job → InMove B T (entered job ino)
  move_entered dir name rows ino (Links linked from old) new h =
      new (record { dir = dir; name = name; node = linked; rows = h.0; is_bucket = refl; text = ap (λ (rs : List Row). value_of (bucket_bytes rs)) h.1 })
  move_entered dir name rows ino (Unlinks old) new h = tt
  move_entered dir name rows ino _ new h = absurd h

  move_written : (s : PlanState) → ((block : BlockId) (ver : ℕ) (value : Content) → file_plan_next s ≡ Step (PutAt block ver value) → PutsIn block value → B)
      → InMove A S s → InMove B T (on_written s)
  move_written (Ends answer) new h = tt
  move_written (Walks dir name onto rest job) new h = h
  move_written (Looks dir name job) new h = still_at_entry S T g job h
  move_written (Enters dir name v rows ino job) new h = move_entered dir name rows ino job (λ p. new _ v _ refl p) h
  move_written (Syncs dir name node) new h = f h
  move_written _ new h = absurd h

  move_changed : (s : PlanState) → InMove A S s → InMove B T (on_changed s)
  move_changed (Ends answer) h = tt
  move_changed (Walks dir name onto rest job) h = h
  move_changed (Looks dir name job) h = still_at_entry S T g job h
  move_changed (Enters dir name v rows ino job) h = looks_again S T g name rows job h
  move_changed (Syncs dir name node) h = f h
  move_changed _ h = absurd h

  move_synced : (s : PlanState) → (file_plan_next s ≡ Step Sync → A → T) → InMove A S s → InMove B T (on_synced s)
  move_synced (Ends answer) new h = tt
  move_synced (Walks dir name onto rest job) new h = h
  move_synced (Looks dir name job) new h = still_at_entry S T g job h
  move_synced (Enters dir name v rows ino job) new h = still_writing S T g name rows job h
  move_synced (Syncs dir name node) new h = new refl h
  move_synced _ new h = absurd h

  move_after : (s : PlanState) (a : BlockAnswer)
      → ((made : ℕ) (block : BlockId) (ver : ℕ) (value : Content) → a ≡ Written made → file_plan_next s ≡ Step (PutAt block ver value) → PutsIn block value → B)
      → (a ≡ Synced → file_plan_next s ≡ Step Sync → A → T) → InMove A S s → InMove B T (file_plan_answered s a)
  move_after s (Got ver value) new settled h = move_got s ver value h
  move_after s (Written made) new settled h = move_written s (λ block ver value e t. new made block ver value refl e t) h
  move_after s Changed new settled h = move_changed s h
  move_after s Synced new settled h = move_synced s (λ e a. settled refl e a) h

module _ (s0 : PlanState) where
  abbrev Added : List BlockAnswer → Type 0
  Added answers = HasWritten (from_here s0) answers PutsIn

  abbrev Settled : List BlockAnswer → Type 0
  Settled answers = HasSettled (from_here s0) answers

  abbrev Stands : List BlockAnswer → Type 0
  Stands answers = InMove (Added answers) (Settled answers) (after_all s0 answers)

  move_more : (answers : List BlockAnswer) (a : BlockAnswer) → Stands answers → Stands (answers ++ a ∷ [])
  move_more answers a h =
      subst (InMove (Added (answers ++ a ∷ [])) (Settled (answers ++ a ∷ []))) (sym (last answers a s0))
      (move_after (Added answers) (Settled answers) (Added (answers ++ a ∷ [])) (Settled (answers ++ a ∷ [])) (written_more s0 PutsIn answers a)
      (settled_more s0 answers a) (after_all s0 answers) a
      (written_last s0 PutsIn answers a)
      (λ e f added. record { before = answers; later = []; split = ap (λ (b : BlockAnswer). answers ++ b ∷ []) e; step = f; entered = added }) h)

  move_all : (rest front : List BlockAnswer) → Stands front → Stands (front ++ rest)
  move_all [] front h = subst Stands (sym (append-nil front)) h
  move_all (a ∷ rest) front h = subst Stands (append_assoc front (a ∷ []) rest) (move_all rest (front ++ a ∷ []) (move_more front a h))

-- a move writes no whole block
move_put : (A S : Type 0) (s : PlanState) (block : BlockId) (value : Content) → file_plan_next s ≡ Step (Put block value) → InMove A S s → ⊥
move_put A S (Ends answer) block value e h = cc
move_put A S (Walks dir name onto rest job) block value e h = cc
move_put A S (Looks dir name job) block value e h = cc
move_put A S (Enters dir name v rows ino job) block value e h = cc
move_put A S (Syncs dir name node) block value e h = cc
move_put A S _ block value e h = h

-- the writes of a bucket
move_write : (S : Type 0) (dir : Ino) (name : Name) (rows : List Row) (job : Job) → IsWriting S name rows job
    → PutsIn (block_at dir (bucket_number name)) (value_of (bucket_bytes rows))
    ⊎ (TakesOut (block_at dir (bucket_number name)) (value_of (bucket_bytes rows)) × S)
move_write S dir name rows (Links linked from old) h =
    inl (record { dir = dir; name = name; node = linked; rows = h.0; is_bucket = refl; text = ap (λ (rs : List Row). value_of (bucket_bytes rs)) h.1 })
move_write S dir name rows (Unlinks old) h =
    inr (record { dir = dir; name = name; rows = h.1.0; is_bucket = refl; text = ap (λ (rs : List Row). value_of (bucket_bytes rs)) h.1.1 }, h.0)
move_write S dir name rows _ h = absurd h

move_put_at : (A S : Type 0) (s : PlanState) (block : BlockId) (ver : ℕ) (value : Content) → file_plan_next s ≡ Step (PutAt block ver value) → InMove A S s
    → PutsIn block value ⊎ (TakesOut block value × S)
move_put_at A S (Ends answer) block ver value e h = let no' : ⊥ = cc in absurd no'
move_put_at A S (Walks dir name onto rest job) block ver value e h = let no' : ⊥ = cc in absurd no'
move_put_at A S (Looks dir name job) block ver value e h = let no' : ⊥ = cc in absurd no'
move_put_at A S (Enters dir name v rows ino job) block ver value e h =
    let at : block_at dir (bucket_number name) ≡ block = cc in
    let text : value_of (bucket_bytes rows) ≡ value = cc in
    subst (λ (b : BlockId). PutsIn b value ⊎ (TakesOut b value × S)) at
    (subst (λ (v : Content). PutsIn (block_at dir (bucket_number name)) v ⊎ (TakesOut (block_at dir (bucket_number name)) v × S)) text
    (move_write S dir name rows job h))
move_put_at A S (Syncs dir name node) block ver value e h = let no' : ⊥ = cc in absurd no'
move_put_at A S _ block ver value e h = absurd h

move_sync : (A S : Type 0) (s : PlanState) → file_plan_next s ≡ Step Sync → InMove A S s → A
move_sync A S (Ends answer) e h = let no' : ⊥ = cc in absurd no'
move_sync A S (Walks dir name onto rest job) e h = let no' : ⊥ = cc in absurd no'
move_sync A S (Looks dir name job) e h = let no' : ⊥ = cc in absurd no'
move_sync A S (Enters dir name v rows ino job) e h = let no' : ⊥ = cc in absurd no'
move_sync A S (Syncs dir name node) e h = h
move_sync A S _ e h = absurd h

pub adds_before_it_removes : AddsBeforeItRemoves
adds_before_it_removes from to number client answers block value =
    let s0 = start (call.Mv from to) (made_by number client) in
    let P = InMove (Added s0 []) (Settled s0 []) in
    let begun = either P (names_are_good (call.Mv from to)) (start_named (call.Mv from to) (made_by number client)) (Ends (File BadName))
    (move_path (Added s0 []) (Settled s0 []) from IsDir (Moves to) tt) tt in
    let now = move_all s0 answers [] begun in (
      λ e. move_put (Added s0 answers) (Settled s0 answers) (after_all s0 answers) block value e now,
      λ ver e. move_put_at (Added s0 answers) (Settled s0 answers) (after_all s0 answers) block ver value e now,
      λ e. move_sync (Added s0 answers) (Settled s0 answers) (after_all s0 answers) e now,
    )
