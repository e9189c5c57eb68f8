-- The calls that change nothing: the size of a file, and its bytes.
use Rattle.std.proofs.Common.{inl, inr, ◌≡◌, ℕ, zero, suc, ◌+◌, ◌-◌, ◌*◌, ◌/◌, ◌%◌, ◌^◌, ◌<◌, ◌≤◌, min, Bool, true, false, cond, List, [], ◌∷◌, ◌++◌, length, take, drop, get_or, replicate, map, Option, Some, None, refl, sym, ap, subst, ◌∙◌, arith, append_assoc, length-append}
use Rattle.std.specs.Prelude.{IfSome, unwrap_or, nat_le, ◌⊎◌}
use Rattle.std.specs.List.{range_with_len}
use Rattle.std.proofs.lemmas.Bool.Decides.{leb_tells}
use Rattle.std.proofs.lemmas.List.{append-nil, map-append, same_lists, length-take, length-drop, get_or-take, get_or-drop, length-replicate, get_or_default, take_all, drop_all, drop_at}
use Rattle.std.proofs.lemmas.List.FromFn.{length-map-range_with_len, get_or-map-range_with_len, take-map-range_with_len}
use Rattle.std.proofs.lemmas.Nat.{from_be_bytes-to_be_bytes_8}
use Rattle.std.proofs.lemmas.Bool.{le-leb}
use Rattle.version_model.specs.declared.answer.Answer.TheVariants.{Bytes, Size, File}
use Rattle.version_model.specs.declared.answer.FileFault.TheVariants.{NoEntry, IsDir}
use Rattle.version_model.specs.declared.file_call.FileCall.TheVariants as call
use Rattle.file_plan.specs.declared.node.Node.{Node}
use Rattle.file_plan.specs.Names.{Name, Row, is_directory, bucket_number}
use Rattle.file_plan.specs.Format.{bytes_in, file_end, size_value, read_size}
use Rattle.file_plan.specs.Calls.{size_block, block_size}
use Rattle.file_plan.specs.declared.state.Task.{Task}
use Rattle.file_plan.specs.Format.{cut_of}
use Rattle.file_plan.specs.Plan.{start, looked_at, measured, measured_as, fetching, in_block, blocks_of, made_by}
use Rattle.file_plan.specs.declared.state.PlanState.TheVariants.{Ends, Measures}
use Rattle.file_plan.specs.declared.state.Job.TheVariants.{Sizes, Gets}
use Rattle.file_plan.specs.declared.state.Task.TheVariants.{Tells, Cuts}
use Rattle.file_plan.specs.Tree.{Table, tree_of, size_of, byte_at, IsEntry, IsFile, Sound, Outcome, answered, refused, of_file, does_size, does_get}
use Rattle.file_plan.specs.Driving.{World, MeetsTree}
use Rattle.file_plan.proofs.Machine.{Post, Comes, ended, replies}
use Rattle.file_plan.proofs.Walks.{Owes, unchanged_as, by_path, looks, named_first, refuses_with, file_is}
use Rattle.xfs_base.specs.declared.block.Ino.{Ino}
use Rattle.file_plan.specs.declared.node.Kind.{Kind}

pub size_bound : (n : ℕ) → n ≤ file_end → n < 2 ^ 64
size_bound n h = omega arith

-- a size is read as it was written
pub size_back : (size : ℕ) → size ≤ file_end → read_size (size_value size) ≡ Some size
size_back zero h = refl
size_back (suc n) h =
    let e = from_be_bytes-to_be_bytes_8 (suc n) (size_bound (suc n) h) in
    ap (λ (m : ℕ). cond (nat_le m file_end) (Some m) None) e ∙ ap (λ (b : Bool). cond b (Some (suc n)) None) (le-leb (suc n) file_end h)

pub stored_size : (t : Table) (file : Ino) (size : ℕ) → IsFile t file size → read_size (t file size_block) ≡ Some size
stored_size t file size fact = ap read_size fact.stored ∙ size_back size fact.bound

pub size_is : (t : Table) (file : Ino) (size : ℕ) → IsFile t file size → size_of t file ≡ size
size_is t file size fact = ap (λ (o : Option ℕ). unwrap_or o 0) (stored_size t file size fact)

pub length_is : (t : Table) (file : Ino) (size : ℕ) → IsFile t file size → length ((tree_of t).bytes file) ≡ size
length_is t file size fact = length-map-range_with_len (byte_at t file) 0 (size_of t file) ∙ size_is t file size fact

-- the size of a file is read
pub measures : (w : World) (file : Ino) (size : ℕ) → IsFile w.value file size → (task : Task) (n : ℕ) (Q : Post)
    → Comes n (measured_as file task (w.ver file size_block) size) w Q → Comes (suc n) (Measures file task) w Q
measures w file size fact task n Q h =
    subst (λ (o : Option ℕ). Comes n (measured file task (w.ver file size_block) o) w Q) (sym (stored_size w.value file size fact)) h

module _ (kinds later : Ino → Option Kind) (w : World) (sound : Sound kinds w.value) (after : Sound later w.value) where
  size_node : (dir : Ino) (name : Name) (rows : List Row) (ver : ℕ) (node : Node) (b : Bool) → is_directory node ≡ b
      → IsEntry kinds (bucket_number name) (name, node)
      → Comes 1 (cond b (Ends (File IsDir)) (Measures node.ino Tells)) w
      (Owes later w.value (cond b (refused (tree_of w.value) IsDir) (answered (tree_of w.value) (Size (length ((tree_of w.value).bytes node.ino))))))
  size_node dir name rows ver node true fact entry = refuses_with kinds later w sound after 1 IsDir
  size_node dir name rows ver node false fact entry =
      let f = sound.files node.ino (entry.kept ∙ ap Some (file_is node fact)) in
      let Q = Owes later w.value (answered (tree_of w.value) (Size (length ((tree_of w.value).bytes node.ino)))) in
      measures w node.ino f.0 f.1 Tells 0 Q
      (ended 0 (Size f.0) w Q
      (unchanged_as later w.value (Size (length ((tree_of w.value).bytes node.ino))) (Size f.0) (ap Size (sym (length_is w.value node.ino f.0 f.1))) after))

  size_found : (dir : Ino) (name : Name) (rows : List Row) (ver : ℕ) (o : Option Node) → IfSome o (λ node. IsEntry kinds (bucket_number name) (name, node))
      → Comes 1 (looked_at dir name ver rows Sizes o) w
      (Owes later w.value (of_file (tree_of w.value) (λ node. answered (tree_of w.value) (Size (length ((tree_of w.value).bytes node.ino)))) o))
  size_found dir name rows ver None entry = refuses_with kinds later w sound after 1 NoEntry
  size_found dir name rows ver (Some node) entry = size_node dir name rows ver node (is_directory node) refl entry

pub size_meets : (path : List Name) → MeetsTree (call.Size path)
size_meets path kinds w number client sound fresh =
    let ino = made_by number client in
    replies (start (call.Size path) ino) (length path + 1) [] w _
    (named_first kinds kinds w sound sound (call.Size path) ino (length path + 1) (λ good.
    by_path kinds kinds w sound sound Sizes 1 IsDir (does_size (tree_of w.value)) (λ dir name fact _.
    looks kinds kinds w sound sound Sizes 1
    (of_file (tree_of w.value) (λ node. answered (tree_of w.value) (Size (length ((tree_of w.value).bytes node.ino))))) dir name fact
    (λ rows bucket o e entry. size_found kinds kinds w sound sound dir name rows (w.ver dir (bucket_number name)) o entry))
    path good))

-- ---- bytes

-- a file's bytes from a place on
abbrev pub cells : Table → Ino → ℕ → ℕ → List ℕ
cells t file from n = map (byte_at t file) (range_with_len from n)

range_parts : (a k l : ℕ) → range_with_len a (k + l) ≡ range_with_len a k ++ range_with_len (a + k) l
range_parts a zero l = ap (λ (n : ℕ). range_with_len a n) (zero_plus l) ∙ ap (λ (b : ℕ). range_with_len b l) (plus_zero a)
  where
    zero_plus : (n : ℕ) → zero + n ≡ n
    zero_plus n = omega arith

    plus_zero : (n : ℕ) → n ≡ n + zero
    plus_zero n = omega arith
range_parts a (suc k) l =
    ap (λ (n : ℕ). range_with_len a n) (suc_plus k l) ∙ ap (λ (r : List ℕ). a ∷ r) (range_parts (a + 1) k l)
    ∙ ap (λ (b : ℕ). a ∷ (range_with_len (a + 1) k ++ range_with_len b l)) (shift a k)
  where
    suc_plus : (m n : ℕ) → suc m + n ≡ suc (m + n)
    suc_plus m n = omega arith

    shift : (m n : ℕ) → m + 1 + n ≡ m + suc n
    shift m n = omega arith

pub cells_parts : (t : Table) (file : Ino) (a k l : ℕ) → cells t file a (k + l) ≡ cells t file a k ++ cells t file (a + k) l
cells_parts t file a k l = ap (map (byte_at t file)) (range_parts a k l) ∙ map-append (byte_at t file) (range_with_len a k) (range_with_len (a + k) l)

pub padded_at : (bytes : List ℕ) (n i : ℕ) → get_or (bytes ++ replicate n 0) i 0 ≡ get_or bytes i 0
padded_at [] zero i = refl
padded_at [] (suc n) zero = refl
padded_at [] (suc n) (suc i) = padded_at [] n i
padded_at (b ∷ bytes) n zero = refl
padded_at (b ∷ bytes) n (suc i) = padded_at bytes n i

-- a byte by its block and its place in the block
pub byte_in : (t : Table) (file : Ino) (blk low i : ℕ) → low + i < block_size
    → byte_at t file (block_size * blk + low + i) ≡ get_or (bytes_in (t file blk)) (low + i) 0
byte_in t file blk low i h =
    let d : (block_size * blk + low + i) / block_size ≡ blk = omega arith in
    let m : (block_size * blk + low + i) % block_size ≡ low + i = omega arith in
    ap (λ (k : ℕ). get_or (bytes_in (t file k)) ((block_size * blk + low + i) % block_size) 0) d ∙ ap (λ (j : ℕ). get_or (bytes_in (t file blk)) j 0) m

pub cut_is : (t : Table) (file : Ino) (blk low count : ℕ) → low + count ≤ block_size
    → cut_of (bytes_in (t file blk)) low count ≡ cells t file (block_size * blk + low) count
cut_is t file blk low count h =
    let bytes = bytes_in (t file blk) in
    let gap = count - (length bytes - low) in
    let front = take count (drop low bytes) in
    let none : ℕ = 0 in let b = length-replicate gap none in
    let a = length-append front (replicate gap none) in
    let c = length-drop low bytes in
    let l = length-take count (drop low bytes) in
    let e : length (cut_of (bytes_in (t file blk)) low count) ≡ count = omega (arith, a, b, c, l) in
    let f = length-map-range_with_len (byte_at t file) (block_size * blk + low) count in
    same_lists (cut_of (bytes_in (t file blk)) low count) (cells t file (block_size * blk + low) count) (e ∙ sym f) (λ k d below.
    let less : k < count = omega (arith, e, below) in
    let less' : k < length (cells t file (block_size * blk + low) count) = omega (arith, f, less) in
    get_or_default (cut_of (bytes_in (t file blk)) low count) k d 0 below
    ∙ padded_at front gap k ∙ get_or-take count (drop low bytes) k 0 less ∙ get_or-drop low bytes k 0
    ∙ sym (byte_in t file blk low k (omega arith))
    ∙ sym (get_or-map-range_with_len (byte_at t file) (block_size * blk + low) count k (block_size * blk + low + k) 0 less refl)
    ∙ get_or_default (cells t file (block_size * blk + low) count) k 0 d less')

cells_from : (t : Table) (file : Ino) (a b n : ℕ) → (0 < n → a ≡ b) → cells t file a n ≡ cells t file b n
cells_from t file a b zero same = refl
cells_from t file a b (suc n) same = let e : a ≡ b = same (omega arith) in ap (λ (from : ℕ). cells t file from (suc n)) e

fetch_step : (t : Table) (file : Ino) (a k l m b : ℕ) (got cut : List ℕ) → m ≡ k + l → cut ≡ cells t file a k → (0 < l → a + k ≡ b)
    → got ++ cells t file a m ≡ (got ++ cut) ++ cells t file b l
fetch_step t file a k l m b got cut em ec eb =
    ap (λ (n : ℕ). got ++ cells t file a n) em ∙ ap (λ (bs : List ℕ). got ++ bs) (cells_parts t file a k l)
    ∙ ap (λ (bs : List ℕ). got ++ (cells t file a k ++ bs)) (cells_from t file (a + k) b l eb)
    ∙ ap (λ (bs : List ℕ). got ++ (bs ++ cells t file b l)) (sym ec) ∙ sym (append_assoc got cut (cells t file b l))

-- the wanted bytes are read block by block
pub fetches : (w : World) (file : Ino) (Q : Post) (n blk low left : ℕ) (got : List ℕ) → low < block_size → low + left ≤ block_size * n
    → Q (Bytes (got ++ cells w.value file (block_size * blk + low) left)) w → Comes n (fetching file blk low left got) w Q
fetches w file Q n blk low zero got in_first within q = ended n (Bytes got) w Q (subst (λ (bs : List ℕ). Q (Bytes bs) w) (append-nil got) q)
fetches w file Q zero blk low (suc left) got in_first within q = absurd (omega (arith, within))
fetches w file Q (suc n) blk low (suc left) got in_first within q =
    let k = in_block low (suc left) in
    let l = suc left - k in
    let le : k ≤ suc left = omega arith in
    let fit : low + k ≤ block_size = omega (arith, in_first) in
    let em : suc left ≡ k + l = omega (arith, le) in
    let first : 0 < block_size = omega arith in
    let rest : 0 + l ≤ block_size * n = omega (arith, within, in_first) in
    let eb : 0 < l → block_size * blk + low + k ≡ block_size * (blk + 1) + 0 = λ (some : 0 < l). omega (arith, in_first, some) in
    fetches w file Q n (blk + 1) 0 l (got ++ cut_of (bytes_in (w.value file blk)) low k) first rest
    (subst (λ (bs : List ℕ). Q (Bytes bs) w)
    (fetch_step w.value file (block_size * blk + low) k l (suc left) (block_size * (blk + 1) + 0) got (cut_of (bytes_in (w.value file blk)) low k) em
    (cut_is w.value file blk low k fit) eb) q)

take_cells : (t : Table) (file : Ino) (a n m : ℕ) → (n ≤ m) ⊎ (m ≤ n) → take n (cells t file a m) ≡ cells t file a (min n m)
take_cells t file a n m (inl le) = let e : n ≡ min n m =
    omega (arith, le) in take-map-range_with_len (byte_at t file) a m n le ∙ ap (λ (k : ℕ). cells t file a k) e
take_cells t file a n m (inr le) =
    let e : m ≡ min n m = omega (arith, le) in let f = length-map-range_with_len (byte_at t file) a m in
    let g : length (cells t file a m) ≤ n = omega (arith, f, le) in take_all n (cells t file a m) g ∙ ap (λ (k : ℕ). cells t file a k) e

drop_cells : (t : Table) (file : Ino) (n m : ℕ) → (n ≤ m) ⊎ (m ≤ n) → drop n (cells t file 0 m) ≡ cells t file n (m - n)
drop_cells t file n m (inl le) =
    let e : m ≡ n + (m - n) = omega (arith, le) in
    let z : 0 + n ≡ n = omega arith in
    ap (λ (k : ℕ). drop n (cells t file 0 k)) e ∙ ap (drop n) (cells_parts t file 0 n (m - n))
    ∙ drop_at (cells t file 0 n) (cells t file (0 + n) (m - n)) n (length-map-range_with_len (byte_at t file) 0 n) ∙ ap (λ (a : ℕ). cells t file a (m - n)) z
drop_cells t file n m (inr le) =
    let e : 0 ≡ m - n = omega (arith, le) in let f = length-map-range_with_len (byte_at t file) 0 m in
    let g : length (cells t file 0 m) ≤ n = omega (arith, f, le) in drop_all n (cells t file 0 m) g ∙ ap (λ (k : ℕ). cells t file n k) e

pub le_cases : (n m : ℕ) → (n ≤ m) ⊎ (m ≤ n)
le_cases n m = elim (leb_tells n m) as (λ _. (n ≤ m) ⊎ (m ≤ n)) [ inl h ↦ inl h.1 | inr h ↦ inr (omega (arith, h.1)) ]

-- the bytes that a get reads are the cut of the file's bytes
cut_bytes : (t : Table) (file : Ino) (size offset len : ℕ) → IsFile t file size
    → [] ++ cells t file (block_size * (offset / block_size) + offset % block_size) (min len (size - offset)) ≡ take len (drop offset ((tree_of t).bytes file))
cut_bytes t file size offset len fact =
    let a : block_size * (offset / block_size) + offset % block_size ≡ offset = omega arith in
    ap (λ (from : ℕ). cells t file from (min len (size - offset))) a ∙ sym (take_cells t file offset len (size - offset) (le_cases len (size - offset)))
    ∙ ap (take len) (sym (drop_cells t file offset size (le_cases offset size)))
    ∙ ap (λ (n : ℕ). take len (drop offset (cells t file 0 n))) (sym (size_is t file size fact))

module _ (kinds later : Ino → Option Kind) (w : World) (sound : Sound kinds w.value) (after : Sound later w.value) where
  abbrev got_of : ℕ → ℕ → Node → Outcome
  got_of offset len node = answered (tree_of w.value) (Bytes (take len (drop offset ((tree_of w.value).bytes node.ino))))

  get_node : (offset len : ℕ) (name : Name) (node : Node) (b : Bool) → is_directory node ≡ b → IsEntry kinds (bucket_number name) (name, node)
      → Comes (suc (blocks_of len + 1)) (cond b (Ends (File IsDir)) (Measures node.ino (Cuts offset len))) w
      (Owes later w.value (cond b (refused (tree_of w.value) IsDir) (got_of offset len node)))
  get_node offset len name node true fact entry = refuses_with kinds later w sound after (suc (blocks_of len + 1)) IsDir
  get_node offset len name node false fact entry =
      let f = sound.files node.ino (entry.kept ∙ ap Some (file_is node fact)) in
      let Q = Owes later w.value (got_of offset len node) in
      let low : offset % block_size < block_size = omega arith in
      let fits : offset % block_size + min len (f.0 - offset) ≤ block_size * (blocks_of len + 1) = omega (arith, low) in
      measures w node.ino f.0 f.1 (Cuts offset len) (blocks_of len + 1) Q
      (fetches w node.ino Q (blocks_of len + 1) (offset / block_size) (offset % block_size) (min len (f.0 - offset)) [] low fits
      (unchanged_as later w.value (Bytes (take len (drop offset ((tree_of w.value).bytes node.ino)))) _
      (ap Bytes (cut_bytes w.value node.ino f.0 offset len f.1)) after))

  get_found : (offset len : ℕ) (dir : Ino) (name : Name) (rows : List Row) (ver : ℕ) (o : Option Node)
      → IfSome o (λ node. IsEntry kinds (bucket_number name) (name, node))
      → Comes (suc (blocks_of len + 1)) (looked_at dir name ver rows (Gets offset len) o) w
      (Owes later w.value (of_file (tree_of w.value) (got_of offset len) o))
  get_found offset len dir name rows ver None entry = refuses_with kinds later w sound after (suc (blocks_of len + 1)) NoEntry
  get_found offset len dir name rows ver (Some node) entry = get_node offset len name node (is_directory node) refl entry

pub get_meets : (path : List Name) (offset len : ℕ) → MeetsTree (call.Get path offset len)
get_meets path offset len kinds w number client sound fresh =
    let ino = made_by number client in
    replies (start (call.Get path offset len) ino) (length path + suc (blocks_of len + 1)) [] w _
    (named_first kinds kinds w sound sound (call.Get path offset len) ino (length path + suc (blocks_of len + 1)) (λ good.
    by_path kinds kinds w sound sound (Gets offset len) (suc (blocks_of len + 1)) IsDir (does_get (tree_of w.value) offset len) (λ dir name fact _.
    looks kinds kinds w sound sound (Gets offset len) (suc (blocks_of len + 1))
    (of_file (tree_of w.value) (λ node. answered (tree_of w.value) (Bytes (take len (drop offset ((tree_of w.value).bytes node.ino)))))) dir name fact
    (λ rows bucket o e entry. get_found kinds kinds w sound sound offset len dir name rows (w.ver dir (bucket_number name)) o entry))
    path good))

-- the size is read where only the size block is known
pub measures_read : (w : World) (file : Ino) (size : ℕ) → read_size (w.value file size_block) ≡ Some size → (task : Task) (n : ℕ) (Q : Post)
    → Comes n (measured_as file task (w.ver file size_block) size) w Q → Comes (suc n) (Measures file task) w Q
measures_read w file size fact task n Q h = subst (λ (o : Option ℕ). Comes n (measured file task (w.ver file size_block) o) w Q) (sym fact) h
