-- Removing a file: its entry goes, and then its blocks and its size.
use Rattle.std.proofs.Common.{inl, inr, ◌≡◌, ℕ, zero, suc, ◌+◌, ◌<◌, ◌≤◌, Bool, true, false, cond, List, [], length, Option, Some, None, refl, sym, ap, subst, ◌∙◌, arith}
use Rattle.std.specs.Prelude.{IfSome, ◌⊎◌, ◌≢◌, ◌==◌}
use Rattle.std.proofs.lemmas.Bool.Decides.{nat_tests}
use Rattle.version_model.specs.declared.answer.Answer.TheVariants.{Done, File}
use Rattle.version_model.specs.declared.answer.FileFault.TheVariants.{NoEntry, IsDir}
use Rattle.version_model.specs.declared.file_call.FileCall.TheVariants as call
use Rattle.version_model.specs.History.{Content}
use Rattle.file_plan.specs.declared.node.Node.{Node}
use Rattle.file_plan.specs.Names.{Name, Row, is_directory, bucket_number}
use Rattle.file_plan.specs.Format.{value_of, bucket_bytes}
use Rattle.file_plan.specs.Calls.{size_block}
use Rattle.file_plan.specs.Plan.{start, file_plan_answered, looked_at, leaving, emptying, blocks_of, made_by}
use Rattle.file_plan.specs.declared.state.PlanState.TheVariants.{Ends, Measures, Closes}
use Rattle.file_plan.specs.declared.state.Job.TheVariants.{Removes}
use Rattle.file_plan.specs.declared.state.Task.TheVariants.{Clears}
use Rattle.file_plan.specs.Tree.{Table, tree_of, IsEntry, IsBucket, IsBlock, IsFile, Sound, answered, refused, of_file, does_remove, with_entry, with_bytes}
use Rattle.file_plan.specs.Driving.{World, put_at, write, MeetsTree}
use Rattle.file_plan.proofs.Buckets.{named-remove, without, is_T}
use Rattle.file_plan.proofs.Frames.{eq_cases, put_here, put_other, put_beside, written_at, bytes_same, file_beside, sound_now, entries_now, bucket_less, file_directory, nobody_directory}
use Rattle.file_plan.proofs.Machine.{Post, Comes, replies, more_steps}
use Rattle.file_plan.proofs.Making.{enters}
use Rattle.file_plan.proofs.Measuring.{measures, size_is, cells, le_cases}
use Rattle.file_plan.proofs.Rewriting.{sound_file, entries_file, bytes_file, others_file}
use Rattle.file_plan.proofs.Walks.{Owes, by_path, looks, named_first, refuses_with, file_is}
use Rattle.xfs_base.specs.declared.block.Ino.{Ino}
use Rattle.file_plan.specs.declared.node.Kind.{Kind}
use Rattle.file_plan.specs.declared.node.Kind.TheVariants as kind
use Rattle.file_plan.specs.Names.{same_ino}

-- blocks from one on, and the size, are Absent, and no block has a new value
record Cleared (file : Ino) (blk left : ℕ) (t u : Table) : Type 0 where
  gone : (b : ℕ) → blk ≤ b → b < blk + left → u file b ≡ None
  sized : u file size_block ≡ None
  rest : (b : ℕ) → (u file b ≡ None) ⊎ (u file b ≡ t file b)
  others : (i : Ino) (b : ℕ) → i ≢ file → u i b ≡ t i b

closed : (file : Ino) (blk : ℕ) (t : Table) → Cleared file blk 0 t (put_at t file size_block None)
closed file blk t = record {
  gone = λ b low high. absurd (omega (arith, low, high));
  sized = put_here t file size_block None;
  rest = λ b. by b (eq_cases b size_block);
  others = λ i b h. put_other t file size_block None i b h;
}
  where
    by : (b : ℕ) → (b ≡ size_block) ⊎ (b ≢ size_block) → (put_at t file size_block None file b ≡ None) ⊎ (put_at t file size_block None file b ≡ t file b)
    by b (inl e) = inl (ap (λ (k : ℕ). put_at t file size_block None file k) e ∙ put_here t file size_block None)
    by b (inr e) = inr (put_beside t file size_block None file b e)

one_more : (file : Ino) (blk left : ℕ) (t u : Table) → Cleared file (blk + 1) left (put_at t file blk None) u → Cleared file blk (suc left) t u
one_more file blk left t u c = record {
  gone = λ b low high. here b low high (eq_cases b blk);
  sized = c.sized;
  rest = λ b. by b (c.rest b) (eq_cases b blk);
  others = λ i b h. c.others i b h ∙ put_other t file blk None i b h;
}
  where
    emptied : (b : ℕ) → b ≡ blk → put_at t file blk None file b ≡ None
    emptied b e = ap (λ (k : ℕ). put_at t file blk None file k) e ∙ put_here t file blk None

    here : (b : ℕ) → blk ≤ b → b < blk + suc left → (b ≡ blk) ⊎ (b ≢ blk) → u file b ≡ None
    here b low high (inl e) = elim (c.rest b) as (λ _. u file b ≡ None) [ inl n ↦ n | inr s ↦ s ∙ emptied b e ]
    here b low high (inr e) = c.gone b (omega (arith, low, e)) (omega (arith, high))

    by : (b : ℕ) → (u file b ≡ None) ⊎ (u file b ≡ put_at t file blk None file b) → (b ≡ blk) ⊎ (b ≢ blk) → (u file b ≡ None) ⊎ (u file b ≡ t file b)
    by b (inl n) e = inl n
    by b (inr s) (inl e) = inl (s ∙ emptied b e)
    by b (inr s) (inr e) = inr (s ∙ put_beside t file blk None file b e)

empties : (file : Ino) (ver : ℕ) (Q : Post) (left blk : ℕ) (w : World) → blk + left ≤ size_block → w.ver file size_block ≡ ver
    → ((v : World) → Cleared file blk left w.value v.value → Q Done v) → Comes (suc left) (emptying file blk left ver) w Q
empties file ver Q zero blk w within same q =
    written_at w file size_block ver None (λ a v. Comes 0 (file_plan_answered (Closes file ver) a) v Q) same
    (q (write w file size_block None) (closed file blk w.value))
empties file ver Q (suc left) blk w within same q =
    let less : blk + 1 + left ≤ size_block = omega (arith, within) in
    empties file ver Q left (blk + 1) (write w file blk None) less
    (put_beside w.ver file blk (suc (w.ver file blk)) file size_block (λ e. omega (arith, e, within)) ∙ same)
    (λ v c. q v (one_more file blk left w.value v.value c))

-- the file is empty, and nothing else has changed
record Emptied (file : Ino) (t u : Table) : Type 0 where
  now : IsFile u file 0
  others : (i : Ino) (b : ℕ) → i ≢ file → u i b ≡ t i b

no_block : (b : ℕ) (value : Content) → value ≡ None → IsBlock 0 b value
no_block b value e = subst (IsBlock 0 b) (sym e) (record { short = omega arith; below = λ some. absurd (omega (arith, some)) })

past_block : (size b : ℕ) (value : Content) → IsBlock size b value → blocks_of size ≤ b → IsBlock 0 b value
past_block size b value fact past = record { short = fact.short; below = λ some. let k = fact.below some in absurd (omega (arith, k, past, some)) }

emptied_by : (file : Ino) (size : ℕ) (t u : Table) → IsFile t file size → Cleared file 0 (blocks_of size) t u → Emptied file t u
emptied_by file size t u fact c = record {
  now = record { stored = c.sized; bound = omega arith; blocks = λ b data'. by b data' (c.rest b) (le_cases (blocks_of size) b) };
  others = c.others;
}
  where
    by : (b : ℕ) → b ≢ size_block → (u file b ≡ None) ⊎ (u file b ≡ t file b) → (blocks_of size ≤ b) ⊎ (b ≤ blocks_of size) → IsBlock 0 b (u file b)
    by b data' (inl n) le = no_block b (u file b) n
    by b data' (inr s) (inl past) = subst (IsBlock 0 b) (sym s) (past_block size b (t file b) (fact.blocks b data') past)
    by b data' (inr s) (inr within) = edge b data' s within (eq_cases b (blocks_of size))
      where
        edge : (b : ℕ) → b ≢ size_block → u file b ≡ t file b → b ≤ blocks_of size → (b ≡ blocks_of size) ⊎ (b ≢ blocks_of size) → IsBlock 0 b (u file b)
        edge b data' s within (inl e) = subst (IsBlock 0 b) (sym s) (past_block size b (t file b) (fact.blocks b data') (omega (arith, e)))
        edge b data' s within (inr e) = no_block b (u file b) (c.gone b (omega arith) (omega (arith, within, e)))

-- a file's size is read, and its blocks and its size go
clears : (w : World) (file : Ino) (size : ℕ) → IsFile w.value file size → (Q : Post) → ((v : World) → Emptied file w.value v.value → Q Done v)
    → Comes 258 (Measures file Clears) w Q
clears w file size fact Q q = measures w file size fact Clears 257 Q (by (size == 0) refl)
  where
    some : (size == 0) ≡ false → Comes 257 (emptying file 0 (blocks_of size) (w.ver file size_block)) w Q
    some e =
        let small : blocks_of size ≤ 256 = omega (arith, fact.bound) in
        let le : suc (blocks_of size) ≤ 257 = omega (arith, small) in
        let within : 0 + blocks_of size ≤ size_block = omega (arith, small) in
        more_steps (suc (blocks_of size)) 257 (emptying file 0 (blocks_of size) (w.ver file size_block)) w Q le
        (empties file (w.ver file size_block) Q (blocks_of size) 0 w within refl (λ v c. q v (emptied_by file size w.value v.value fact c)))

    by : (b : Bool) → (size == 0) ≡ b → Comes 257 (cond b (Ends Done) (emptying file 0 (blocks_of size) (w.ver file size_block))) w Q
    by true e =
        let none : size ≡ 0 = grind (arith, nat_tests) in
        q w (record { now = subst (λ (n : ℕ). IsFile w.value file n) none fact; others = λ i b h. refl })
    by false e = some e

module _ (kinds : Ino → Option Kind) (w : World) (sound : Sound kinds w.value) where
  remove_node : (dir : Ino) → kinds dir ≡ Some kind.Directory → (name : Name) (rows : List Row)
      → IsBucket kinds (bucket_number name) (w.value dir (bucket_number name)) rows → (node : Node) (b : Bool) → is_directory node ≡ b
      → IsEntry kinds (bucket_number name) (name, node)
      → Comes 259 (cond b (Ends (File IsDir)) (leaving dir name (w.ver dir (bucket_number name)) rows node.ino Removes)) w
      (Owes kinds w.value (cond b (refused (tree_of w.value) IsDir) (answered (with_bytes (with_entry (tree_of w.value) dir name None) node.ino []) Done)))
  remove_node dir fact name rows before node true d entry = refuses_with kinds kinds w sound sound 259 IsDir
  remove_node dir fact name rows before node false d entry =
      let b = bucket_number name in
      let now = without name rows in
      let value = value_of (bucket_bytes now) in
      let next_one = bucket_less kinds b (w.value dir b) name rows before in
      let w1 = write w dir b value in
      let k = entry.kept ∙ ap Some (file_is node d) in
      let s1 = sound_now kinds w.value sound dir fact b rows before now next_one in
      let f = s1.files node.ino k in
      enters w dir name (w.ver dir b) now node.ino Removes 258
      (Owes kinds w.value (answered (with_bytes (with_entry (tree_of w.value) dir name None) node.ino []) Done)) refl
      (clears w1 node.ino f.0 f.1 (Owes kinds w.value (answered (with_bytes (with_entry (tree_of w.value) dir name None) node.ino []) Done)) (λ v e. record {
        said = refl;
        sound = sound_file kinds w1.value s1 node.ino k v.value e.others 0 e.now;
        held = record {
          entries = λ d' q i. entries_file kinds w1.value s1 node.ino k v.value e.others d' q i
              ∙ entries_now kinds w.value sound dir fact b rows before now next_one name None refl (λ r. named-remove r name rows (is_T _ before.rising)) d' q;
          bytes = λ file i. bytes_file kinds w1.value s1 node.ino k v.value e.others []
              (ap (λ (n : ℕ). cells v.value node.ino 0 n) (size_is v.value node.ino 0 e.now)) file
              ∙ ap (λ (bytes : List ℕ). cond (same_ino file node.ino) [] bytes)
              (bytes_same w.value w1.value file (file_beside kinds w.value sound dir fact b rows before now next_one file (Some kind.File) i file_directory));
        };
        others = λ i blk z. others_file kinds w1.value s1 node.ino k v.value e.others i blk z
            ∙ file_beside kinds w.value sound dir fact b rows before now next_one i None z (nobody_directory None refl) blk;
      }))

  remove_found : (dir : Ino) → kinds dir ≡ Some kind.Directory → (name : Name) (rows : List Row)
      → IsBucket kinds (bucket_number name) (w.value dir (bucket_number name)) rows → (o : Option Node)
      → IfSome o (λ node. IsEntry kinds (bucket_number name) (name, node))
      → Comes 259 (looked_at dir name (w.ver dir (bucket_number name)) rows Removes o) w
      (Owes kinds w.value (of_file (tree_of w.value) (λ node. answered (with_bytes (with_entry (tree_of w.value) dir name None) node.ino []) Done) o))
  remove_found dir fact name rows before None entry = refuses_with kinds kinds w sound sound 259 NoEntry
  remove_found dir fact name rows before (Some node) entry = remove_node dir fact name rows before node (is_directory node) refl entry

pub rm_meets : (path : List Name) → MeetsTree (call.Rm path)
rm_meets path kinds w number client sound fresh =
    let ino = made_by number client in
    replies (start (call.Rm path) ino) (length path + 259) [] w _
    (named_first kinds kinds w sound sound (call.Rm path) ino (length path + 259) (λ good.
    by_path kinds kinds w sound sound Removes 259 IsDir (does_remove (tree_of w.value)) (λ dir name fact _.
    looks kinds kinds w sound sound Removes 259
    (of_file (tree_of w.value) (λ node. answered (with_bytes (with_entry (tree_of w.value) dir name None) node.ino []) Done)) dir name fact
    (λ rows before o e entry. remove_found kinds w sound dir fact name rows before o entry))
    path good))
