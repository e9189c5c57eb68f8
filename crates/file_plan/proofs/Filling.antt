-- Writing bytes into a file, block by block, and then its size where it grows.
use Rattle.std.proofs.Common.{inl, inr, ◌≡◌, ℕ, zero, suc, ◌+◌, ◌-◌, ◌*◌, ◌/◌, ◌%◌, ◌<◌, ◌≤◌, Bool, true, false, cond, ◌&&◌, List, [], ◌∷◌, length, take, drop, get_or, Option, Some, None, refl, sym, ap, subst, ◌∙◌, arith}
use Rattle.std.specs.Prelude.{IfSome, ◌⊎◌, ◌≢◌, nat_le, nat_lt, max, ◌==◌}
use Rattle.std.proofs.lemmas.Bool.Decides.{nat_tests}
use Rattle.std.proofs.lemmas.List.{length-take, length-drop, same_lists, get_or_default, get_or_past}
use Rattle.std.proofs.lemmas.List.FromFn.{length-map-range_with_len, get_or-map-range_with_len}
use Rattle.version_model.specs.declared.answer.Answer.TheVariants.{Done, File}
use Rattle.version_model.specs.declared.answer.FileFault.TheVariants.{NoEntry, IsDir, TooBig}
use Rattle.version_model.specs.declared.file_call.FileCall.TheVariants as call
use Rattle.version_model.specs.History.{Content}
use Rattle.file_plan.specs.declared.node.Node.{Node}
use Rattle.file_plan.specs.Names.{Name, Row, is_directory, bucket_number}
use Rattle.file_plan.specs.Format.{bytes_in, value_of, overlaid, size_value, read_size, file_end}
use Rattle.file_plan.specs.Calls.{size_block, block_size}
use Rattle.file_plan.specs.Plan.{start, file_plan_answered, looked_at, filling, end_of, blocks_of, made_by}
use Rattle.file_plan.specs.declared.state.PlanState.TheVariants.{Ends, Measures, Fills, Takes, Patches, Grows}
use Rattle.file_plan.specs.declared.state.Job.TheVariants.{Puts}
use Rattle.file_plan.specs.declared.state.Task.TheVariants.{Raises}
use Rattle.file_plan.specs.Tree.{Table, tree_of, byte_at, IsEntry, IsBlock, IsFile, Sound, Outcome, answered, refused, of_file, does_put, bytes_after, with_bytes, Meets}
use Rattle.file_plan.specs.Driving.{World, put_at, write, MeetsTree}
use Rattle.file_plan.proofs.Frames.{eq_cases, put_here, put_other, put_beside, written_at}
use Rattle.file_plan.proofs.Machine.{Post, Comes, replies, more_steps}
use Rattle.file_plan.proofs.Measuring.{measures, measures_read, size_is, stored_size, length_is, cells, le_cases}
use Rattle.file_plan.proofs.Overlays.{cell, laid_over, laid_whole, Filled, filled_none, filled_more, length_overlaid, overlaid_at}
use Rattle.file_plan.proofs.Rewriting.{sound_file, entries_file, bytes_file, others_file}
use Rattle.file_plan.proofs.Walks.{Owes, by_path, looks, named_first, refuses_with, file_is}
use Rattle.xfs_base.specs.declared.block.Ino.{Ino}
use Rattle.file_plan.specs.declared.node.Kind.{Kind}
use Rattle.file_plan.specs.declared.node.Kind.TheVariants as kind

-- two steps for each of n blocks, and m more
abbrev pub twice : ℕ → ℕ → ℕ
twice zero m = m
twice (suc n) m = suc (suc (twice n m))

pub twice_is : (n m : ℕ) → twice n m ≡ 2 * n + m
twice_is zero m = omega arith
twice_is (suc n) m = let e = twice_is n m in omega (arith, e)

module _ (file : Ino) (end : ℕ) (Q : Post) (m : ℕ) where
  abbrev Later : List ℕ → ℕ → World → Type 0
  Later bytes from w = (v : World) → Filled file from bytes w.value v.value → Comes m (Measures file (Raises end)) v Q

  -- what more blocks need
  abbrev More : ℕ → Type 0
  More n = (blk low : ℕ) (bytes : List ℕ) (w : World) → low < block_size → low + length bytes ≤ block_size * n → blk + n ≤ size_block
      → Later bytes (block_size * blk + low) w → Comes (twice n m) (filling file blk low bytes end) w Q

  whole : (n : ℕ) → More n → (blk : ℕ) (bytes : List ℕ) (w : World) → 0 < length bytes → block_size ≤ length bytes → 0 + length bytes ≤ block_size * suc n
      → blk + suc n ≤ size_block → Later bytes (block_size * blk + 0) w
      → Comes (twice (suc n) m) (Fills file blk bytes end) w Q
  whole n more blk bytes w some full within room q =
      let data' : blk ≢ size_block = λ e. omega (arith, e, room) in
      let first : 0 < block_size = omega arith in
      let e = length-take block_size bytes in
      let l : length (take block_size bytes) ≡ block_size = omega (arith, e, full) in
      let value : Content = Some (take block_size bytes) in
      let r : 0 + length (drop block_size bytes) ≤ block_size * n = less (length-drop' bytes) within in
      let s : blk + 1 + n ≤ size_block = omega (arith, room) in
      more_steps (twice n m) (suc (twice n m)) (filling file (blk + 1) 0 (drop block_size bytes) end) (write w file blk value) Q (omega arith)
      (more (blk + 1) 0 (drop block_size bytes) (write w file blk value) first r s
      (λ v f. q v (filled_more file blk 0 first data' bytes some w.value value (laid_whole (w.value file blk) (take block_size bytes) l) v.value f)))
    where
      length-drop' : (bs : List ℕ) → length (drop block_size bs) ≡ length bs - block_size
      length-drop' bs = length-drop block_size bs

      less : length (drop block_size bytes) ≡ length bytes - block_size → 0 + length bytes ≤ block_size * suc n
          → 0 + length (drop block_size bytes) ≤ block_size * n
      less e h = omega (arith, e, h)

  part : (n : ℕ) → More n → (blk low : ℕ) (bytes : List ℕ) (w : World) → 0 < length bytes → low < block_size → low + length bytes ≤ block_size * suc n
      → blk + suc n ≤ size_block → Later bytes (block_size * blk + low) w
      → Comes (twice (suc n) m) (Takes file blk low bytes end) w Q
  part n more blk low bytes w some first within room q =
      let data' : blk ≢ size_block = λ e. omega (arith, e, room) in
      let old = w.value file blk in
      let value : Content = value_of (overlaid (bytes_in old) low (take (block_size - low) bytes)) in
      let e = length-drop (block_size - low) bytes in
      let zero_first : 0 < block_size = omega arith in
      let r : 0 + length (drop (block_size - low) bytes) ≤ block_size * n = omega (arith, e, within, first) in
      let s : blk + 1 + n ≤ size_block = omega (arith, room) in
      written_at w file blk (w.ver file blk) value (λ a v. Comes (twice n m) (file_plan_answered (Patches file blk low bytes end (w.ver file blk) old) a) v Q) refl
      (more (blk + 1) 0 (drop (block_size - low) bytes) (write w file blk value) zero_first r s
      (λ v f. q v (filled_more file blk low first data' bytes some w.value value (laid_over old low (take (block_size - low) bytes)) v.value f)))

  pub fills : (n : ℕ) → More n
  fills n blk low [] w first within room q =
      more_steps m (twice n m) (Measures file (Raises end)) w Q (let e = twice_is n m in omega (arith, e))
      (q w (filled_none file (block_size * blk + low) w.value))
  fills zero blk low (b ∷ bs) w first within room q = absurd (omega (arith, within))
  fills (suc n) blk low (b ∷ bs) w first within room q = by (fills n) (low == 0) (nat_le block_size (length (b ∷ bs))) refl refl
    where
      by : More n → (c d : Bool) → (low == 0) ≡ c → nat_le block_size (length (b ∷ bs)) ≡ d
          → Comes (twice (suc n) m) (cond (c && d) (Fills file blk (b ∷ bs) end) (Takes file blk low (b ∷ bs) end)) w Q
      by more true true c d =
          let z : low ≡ 0 = grind (arith, nat_tests) in
          let full : block_size ≤ length (b ∷ bs) = grind (arith, nat_tests) in
          let r : 0 + length (b ∷ bs) ≤ block_size * suc n = omega (arith, within) in
          whole n more blk (b ∷ bs) w (omega arith) full r room (subst (λ (l : ℕ). Later (b ∷ bs) (block_size * blk + l) w) z q)
      by more true false c d = part n more blk low (b ∷ bs) w (omega arith) first within room q
      by more false d c e = part n more blk low (b ∷ bs) w (omega arith) first within room q

-- ---- the file after it

-- a byte of the file by its place, also past the file's end
byte_of : (t : Table) (file : Ino) (size : ℕ) → IsFile t file size → (k : ℕ) → k / block_size ≢ size_block
    → get_or ((tree_of t).bytes file) k 0 ≡ byte_at t file k
byte_of t file size fact k data' = ap (λ (n : ℕ). get_or (cells t file 0 n) k 0) (size_is t file size fact) ∙ by (le_cases size k)
  where
    inside : k < size → get_or (cells t file 0 size) k 0 ≡ byte_at t file k
    inside less = get_or-map-range_with_len (byte_at t file) 0 size k k 0 less (omega arith)

    past : size ≤ k → get_or (cells t file 0 size) k 0 ≡ byte_at t file k
    past le =
        let l = length-map-range_with_len (byte_at t file) 0 size in
        let blk = fact.blocks (k / block_size) data' in
        let le' : length (cells t file 0 size) ≤ k = omega (arith, l, le) in
        get_or_past (cells t file 0 size) k 0 le'
        ∙ sym (get_or_past (bytes_in (t file (k / block_size))) (k % block_size) 0 (short (eq_cases (length (bytes_in (t file (k / block_size)))) 0)))
      where
        short : (length (bytes_in (t file (k / block_size))) ≡ 0) ⊎ (length (bytes_in (t file (k / block_size))) ≢ 0)
            → length (bytes_in (t file (k / block_size))) ≤ k % block_size
        short (inl e) = omega (arith, e)
        short (inr e) = let g = (fact.blocks (k / block_size) data').below (omega (arith, e)) in omega (arith, g, le)

    by : (size ≤ k) ⊎ (k ≤ size) → get_or (cells t file 0 size) k 0 ≡ byte_at t file k
    by (inl le) = past le
    by (inr le) = edge (eq_cases k size)
      where
        edge : (k ≡ size) ⊎ (k ≢ size) → get_or (cells t file 0 size) k 0 ≡ byte_at t file k
        edge (inl e) = past (omega (arith, e))
        edge (inr e) = inside (omega (arith, le, e))

-- the bytes of the file are the old ones with the new ones over them
bytes_over : (t v u : Table) (file : Ino) (size later offset : ℕ) (new : List ℕ) → IsFile t file size → Filled file offset new t v → IsFile u file later
    → ((b : ℕ) → b ≢ size_block → u file b ≡ v file b)
    → later ≡ max size (offset + length new) → (tree_of u).bytes file ≡ overlaid ((tree_of t).bytes file) offset new
bytes_over t v u file size later offset new fact filled now same both =
    ap (λ (n : ℕ). cells u file 0 n) (size_is u file later now)
    ∙ same_lists (cells u file 0 later) (overlaid ((tree_of t).bytes file) offset new) (long ∙ sym long') (λ k d below.
    let less : k < later = omega (arith, long, below) in
    let less' : k < length (overlaid ((tree_of t).bytes file) offset new) = omega (arith, long', less) in
    let small : k % block_size < block_size = omega arith in
    let bound = now.bound in
    let data' : k / block_size ≢ size_block = λ e. omega (arith, e, less, bound) in
    let whole_k : block_size * (k / block_size) + k % block_size ≡ k = omega arith in
    get_or_default (cells u file 0 later) k d 0 below
    ∙ get_or-map-range_with_len (byte_at u file) 0 later k k 0 less (omega arith)
    ∙ ap (λ (c : Content). get_or (bytes_in c) (k % block_size) 0) (same (k / block_size) data')
    ∙ filled.bytes (k / block_size) (k % block_size) data' small
    ∙ ap (λ (i : ℕ). cell (byte_at t file k) i offset new) whole_k
    ∙ ap (λ (b : ℕ). cell b k offset new) (sym (byte_of t file size fact k data'))
    ∙ sym (overlaid_at ((tree_of t).bytes file) offset new k)
    ∙ get_or_default (overlaid ((tree_of t).bytes file) offset new) k 0 d less')
  where
    long : length (cells u file 0 later) ≡ later
    long = length-map-range_with_len (byte_at u file) 0 later

    long' : length (overlaid ((tree_of t).bytes file) offset new) ≡ later
    long' = length_overlaid ((tree_of t).bytes file) offset new ∙ ap (λ (n : ℕ). max n (offset + length new)) (length_is t file size fact) ∙ sym both

raised : (size end b : ℕ) (value : Content) → size ≤ end → IsBlock size b value → IsBlock end b value
raised size end b value le fact = record { short = fact.short; below = λ some. let g = fact.below some in omega (arith, g, le) }

module _ (kinds : Ino → Option Kind) (w : World) (sound : Sound kinds w.value) (file : Ino) (k : kinds file ≡ Some kind.File) (size : ℕ)
    (fact : IsFile w.value file size) where
  put_meets_tree : (bytes : List ℕ) (u : Table) (later : ℕ) → ((i : Ino) (b : ℕ) → i ≢ file → u i b ≡ w.value i b) → IsFile u file later
      → (tree_of u).bytes file ≡ bytes
      → Meets kinds w.value (answered (with_bytes (tree_of w.value) file bytes) Done) Done u
  put_meets_tree bytes u later others now same = record {
    said = refl;
    sound = sound_file kinds w.value sound file k u others later now;
    held = record {
      entries = λ d q i. entries_file kinds w.value sound file k u others d q i;
      bytes = λ f i. bytes_file kinds w.value sound file k u others bytes same f;
    };
    others = λ i b z. others_file kinds w.value sound file k u others i b z;
  }

  -- the size is read, and written where it grows
  grows : (offset : ℕ) (new : List ℕ) → 0 < length new → offset + length new ≤ file_end → (v : World) → Filled file offset new w.value v.value
      → Comes 2 (Measures file (Raises (offset + length new))) v
      (Owes kinds w.value (answered (with_bytes (tree_of w.value) file (overlaid ((tree_of w.value).bytes file) offset new)) Done))
  grows offset new some fits v filled =
      measures_read v file size (ap read_size filled.sized ∙ stored_size w.value file size fact) (Raises end) 1 Q (by (nat_le end size) refl)
    where
      end : ℕ
      end = offset + length new

      Q : Post
      Q = Owes kinds w.value (answered (with_bytes (tree_of w.value) file (overlaid ((tree_of w.value).bytes file) offset new)) Done)

      by : (b : Bool) → nat_le end size ≡ b → Comes 1 (cond b (Ends Done) (Grows file end (v.ver file size_block))) v Q
      by true e =
          let le : offset + length new ≤ size = grind (arith, nat_tests) in
          let now : IsFile v.value file size =
          record { stored = filled.sized ∙ fact.stored; bound = fact.bound; blocks = λ b n. filled.blocks size (λ _. le) b n (fact.blocks b n) } in
          put_meets_tree (overlaid ((tree_of w.value).bytes file) offset new) v.value size filled.others now
          (bytes_over w.value v.value v.value file size size offset new fact filled now (λ b n. refl) (omega (arith, le)))
      by false e =
          let le : size < offset + length new = grind (arith, nat_tests) in
          let u = put_at v.value file size_block (size_value end) in
          let now : IsFile u file end = record {
            stored = put_here v.value file size_block (size_value end);
            bound = fits;
            blocks = λ b n. subst (IsBlock end b) (sym (put_beside v.value file size_block (size_value end) file b n))
                (filled.blocks end (λ _. omega arith) b n (raised size end b (w.value file b) (omega (arith, le)) (fact.blocks b n)));
          } in
          written_at v file size_block (v.ver file size_block) (size_value end)
          (λ a x. Comes 0 (file_plan_answered (Grows file end (v.ver file size_block)) a) x Q) refl
          (put_meets_tree (overlaid ((tree_of w.value).bytes file) offset new) u end
          (λ i b h. put_other v.value file size_block (size_value end) i b h ∙ filled.others i b h) now
          (bytes_over w.value v.value u file size end offset new fact filled now (λ b n. put_beside v.value file size_block (size_value end) file b n)
          (omega (arith, le))))

  pub puts : (offset : ℕ) (new : List ℕ) → offset + length new ≤ file_end
      → Comes (twice (blocks_of (length new) + 1) 2) (filling file (offset / block_size) (offset % block_size) new (end_of offset new)) w
      (Owes kinds w.value (answered (with_bytes (tree_of w.value) file (bytes_after ((tree_of w.value).bytes file) offset new)) Done))
  puts offset [] fits =
      more_steps 1 (twice (blocks_of 0 + 1) 2) (Measures file (Raises 0)) w Q (let e = twice_is (blocks_of 0 + 1) 2 in omega (arith, e))
      (measures w file size fact (Raises 0) 0 Q
      (subst (λ (b : Bool). Comes 0 (cond b (Ends Done) (Grows file 0 (w.ver file size_block))) w Q) (sym nothing)
      (put_meets_tree ((tree_of w.value).bytes file) w.value size (λ i b h. refl) fact refl)))
    where
      Q : Post
      Q = Owes kinds w.value (answered (with_bytes (tree_of w.value) file ((tree_of w.value).bytes file)) Done)

      nothing : nat_le 0 size ≡ true
      nothing = grind (arith, nat_tests)
  puts offset (b ∷ bs) fits =
      let first : offset % block_size < block_size = omega arith in
      let within : offset % block_size + length (b ∷ bs) ≤ block_size * (blocks_of (length (b ∷ bs)) + 1) = omega (arith, first) in
      let room : offset / block_size + (blocks_of (length (b ∷ bs)) + 1) ≤ size_block = omega (arith, fits) in
      let whole_offset : block_size * (offset / block_size) + offset % block_size ≡ offset = omega arith in
      fills file (offset + length (b ∷ bs))
      (Owes kinds w.value (answered (with_bytes (tree_of w.value) file (overlaid ((tree_of w.value).bytes file) offset (b ∷ bs))) Done)) 2
      (blocks_of (length (b ∷ bs)) + 1) (offset / block_size) (offset % block_size) (b ∷ bs) w first within room
      (λ v f. grows offset (b ∷ bs) (omega arith) fits v (subst (λ (n : ℕ). Filled file n (b ∷ bs) w.value v.value) whole_offset f))

module _ (kinds : Ino → Option Kind) (w : World) (sound : Sound kinds w.value) (offset : ℕ) (bytes : List ℕ) where
  abbrev steps : ℕ
  steps = twice (blocks_of (length bytes) + 1) 2

  abbrev put_of : Node → Outcome
  put_of node =
      cond (nat_lt file_end (offset + length bytes)) (refused (tree_of w.value) TooBig)
      (answered (with_bytes (tree_of w.value) node.ino (bytes_after ((tree_of w.value).bytes node.ino) offset bytes)) Done)

  put_sized : (node : Node) → kinds node.ino ≡ Some kind.File → (b : Bool) → nat_lt file_end (offset + length bytes) ≡ b
      → Comes steps (cond b (Ends (File TooBig)) (filling node.ino (offset / block_size) (offset % block_size) bytes (end_of offset bytes))) w
      (Owes kinds w.value
      (cond b (refused (tree_of w.value) TooBig)
      (answered (with_bytes (tree_of w.value) node.ino (bytes_after ((tree_of w.value).bytes node.ino) offset bytes)) Done)))
  put_sized node k true big = refuses_with kinds kinds w sound sound steps TooBig
  put_sized node k false small =
      let f = sound.files node.ino k in
      puts kinds w sound node.ino k f.0 f.1 offset bytes (at_most (offset + length bytes) file_end small)
    where
      at_most : (n m : ℕ) → nat_lt m n ≡ false → n ≤ m
      at_most n m h = grind (arith, nat_tests)

  put_node : (name : Name) (node : Node) (b : Bool) → is_directory node ≡ b → IsEntry kinds (bucket_number name) (name, node)
      → Comes steps
      (cond b (Ends (File IsDir))
      (cond (nat_lt file_end (offset + length bytes)) (Ends (File TooBig))
      (filling node.ino (offset / block_size) (offset % block_size) bytes (end_of offset bytes)))) w
      (Owes kinds w.value (cond b (refused (tree_of w.value) IsDir) (put_of node)))
  put_node name node true d entry = refuses_with kinds kinds w sound sound steps IsDir
  put_node name node false d entry = put_sized node (entry.kept ∙ ap Some (file_is node d)) (nat_lt file_end (offset + length bytes)) refl

  put_found : (dir : Ino) (name : Name) (rows : List Row) (ver : ℕ) (o : Option Node) → IfSome o (λ node. IsEntry kinds (bucket_number name) (name, node))
      → Comes steps (looked_at dir name ver rows (Puts offset bytes) o) w (Owes kinds w.value (of_file (tree_of w.value) put_of o))
  put_found dir name rows ver None entry = refuses_with kinds kinds w sound sound steps NoEntry
  put_found dir name rows ver (Some node) entry = put_node name node (is_directory node) refl entry

pub put_meets : (path : List Name) (offset : ℕ) (bytes : List ℕ) → MeetsTree (call.Put path offset bytes)
put_meets path offset bytes kinds w number client sound fresh =
    let ino = made_by number client in
    let n = twice (blocks_of (length bytes) + 1) 2 in
    let e = twice_is (blocks_of (length bytes) + 1) 2 in
    replies (start (call.Put path offset bytes) ino) (length path + (2 * (blocks_of (length bytes) + 1) + 2)) [] w _
    (more_steps (length path + n) (length path + (2 * (blocks_of (length bytes) + 1) + 2)) (start (call.Put path offset bytes) ino) w _ (omega (arith, e))
    (named_first kinds kinds w sound sound (call.Put path offset bytes) ino (length path + n) (λ good.
    by_path kinds kinds w sound sound (Puts offset bytes) n IsDir (does_put (tree_of w.value) offset bytes) (λ dir name fact _.
    looks kinds kinds w sound sound (Puts offset bytes) n (of_file (tree_of w.value) (put_of kinds w sound offset bytes)) dir name fact
    (λ rows before o e entry. put_found kinds w sound offset bytes dir name rows (w.ver dir (bucket_number name)) o entry))
    path good)))
