-- What stays when one block is written, and what one bucket changes.
use Rattle.std.proofs.Common.{inl, inr, ◌≡◌, ℕ, suc, ◌+◌, ◌<◌, Bool, true, false, cond, ◌&&◌, List, [], ◌∷◌, length, map, get_or, Option, Some, None, refl, sym, ap, subst, ◌∙◌, arith}
use Rattle.std.specs.Prelude.{unwrap_or, nat_le, ◌⊎◌, ◌≢◌, ◌==◌, ◌/◌, ◌%◌}
use Rattle.std.specs.FinMap.Entries.{is_sorted}
use Rattle.std.specs.Ordering.{eq_by_cmp}
use Rattle.std.specs.BTreeMap.{insert_entry}
use Rattle.std.specs.List.{range_with_len, AllByRecursion}
use Rattle.std.proofs.lemmas.Bool.Decides.{nat_tests, eqb_tells}
use Rattle.version_model.specs.History.{Content}
use Rattle.file_plan.specs.declared.node.Node.{Node}
use Rattle.file_plan.specs.Names.{Name, Row, name_cmp, bucket_number, named}
use Rattle.file_plan.specs.Format.{bytes_in, value_of, bucket_bytes, read_size}
use Rattle.file_plan.specs.declared.block_call.BlockAnswer.{BlockAnswer}
use Rattle.file_plan.specs.Calls.{block_at, size_block, block_size}
use Rattle.file_plan.specs.declared.block_call.BlockCall.TheVariants.{PutAt}
use Rattle.file_plan.specs.declared.block_call.BlockAnswer.TheVariants.{Put as Written}
use Rattle.file_plan.specs.declared.block_call.BlockAnswer.TheVariants.{Changed}
use Rattle.file_plan.specs.Plan.{fits}
use Rattle.file_plan.specs.Tree.{Table, tree_of, rows_of, IsEntry, IsBucket, IsBlock, IsFile, Sound, has_room, with_entry, IsFresh, kept_as}
use Rattle.file_plan.specs.Driving.{World, put_at, write, Served, serve}
use Rattle.file_plan.proofs.Buckets.{rising-insert, all-insert, length-insert, one_name, rising-remove, all-remove, without, is_T, from_T}
use Rattle.file_plan.proofs.Listing.{entries_are}
use Rattle.xfs_base.specs.declared.block.Ino.{Ino}
use Rattle.xfs_base.proofs.Booleans.{equal_itself}
use Rattle.file_plan.specs.declared.node.Kind.{Kind}
use Rattle.file_plan.specs.declared.node.Kind.TheVariants as kind
use Rattle.file_plan.specs.Calls.{root}
use Rattle.file_plan.specs.Names.{same_ino}

pub differ_false : (n m : ℕ) → n ≢ m → (n == m) ≡ false
differ_false n m h = grind (arith, nat_tests)

pub eq_cases : (n m : ℕ) → (n ≡ m) ⊎ (n ≢ m)
eq_cases n m = elim (eqb_tells n m) as (λ _. (n ≡ m) ⊎ (n ≢ m)) [ inl h ↦ inl h.1 | inr h ↦ inr h.1 ]

-- ---- index numbers

one_ino : (a b : Ino) → a.0 ≡ b.0 → a ≡ b
one_ino a b e = λ i. record { 0 = e i }

pub ino_itself : (a : Ino) → same_ino a a ≡ true
ino_itself a = equal_itself a.0

pub ino_differs : (a b : Ino) → a ≢ b → same_ino a b ≡ false
ino_differs a b h = differ_false a.0 b.0 (λ e. h (one_ino a b e))

pub ino_cases : (a b : Ino) → (a ≡ b) ⊎ (a ≢ b)
ino_cases a b = elim (eq_cases a.0 b.0) as (λ _. (a ≡ b) ⊎ (a ≢ b)) [ inl e ↦ inl (one_ino a b e) | inr h ↦ inr (λ e. h (ap (λ (x : Ino). x.0) e)) ]

-- ---- kinds

pub file_directory : Some kind.File ≡ Some kind.Directory → ⊥
file_directory e = cc

pub directory_file : Some kind.Directory ≡ Some kind.File → ⊥
directory_file e = cc

pub some_nobody : (k : Kind) → Some k ≡ None → ⊥
some_nobody k e = cc

pub nobody_some : (k : Kind) (n : Option Kind) → n ≡ None → n ≡ Some k → ⊥
nobody_some k n e f = cc

pub nobody_directory : (n : Option Kind) → n ≡ None → n ≡ Some kind.Directory → ⊥
nobody_directory = nobody_some kind.Directory

pub nobody_file : (n : Option Kind) → n ≡ None → n ≡ Some kind.File → ⊥
nobody_file = nobody_some kind.File

-- ---- one block is written

module _ {X : Type 0} (f : Ino → ℕ → X) (ino : Ino) (blk : ℕ) (x : X) where
  pub put_here : put_at f ino blk x ino blk ≡ x
  put_here = ap (λ (b : Bool). cond (b && (blk == blk)) x (f ino blk)) (ino_itself ino) ∙ ap (λ (b : Bool). cond b x (f ino blk)) (equal_itself blk)

  pub put_other : (i : Ino) (b : ℕ) → i ≢ ino → put_at f ino blk x i b ≡ f i b
  put_other i b h = ap (λ (t : Bool). cond (t && (b == blk)) x (f i b)) (ino_differs i ino h)

  pub put_beside : (i : Ino) (b : ℕ) → b ≢ blk → put_at f ino blk x i b ≡ f i b
  put_beside i b h = either (same_ino i ino) (b == blk) (differ_false b blk h)
    where
      either : (s t : Bool) → t ≡ false → cond (s && t) x (f i b) ≡ f i b
      either true t e = ap (λ (u : Bool). cond u x (f i b)) e
      either false t e = refl

-- a write over the version that was read is made
pub written_at : (w : World) (ino : Ino) (blk ver : ℕ) (value : Content) (more : BlockAnswer → World → Type 0) → w.ver ino blk ≡ ver
    → more (Written (suc ver)) (write w ino blk value)
    → more (serve w (PutAt (block_at ino blk) ver value)).answer (serve w (PutAt (block_at ino blk) ver value)).world
written_at w ino blk ver value more same h = by (w.ver ino blk == ver) (ap (λ (n : ℕ). n == ver) same ∙ equal_itself ver)
  where
    by : (b : Bool) → b ≡ true
        → (λ (s : Served). more s.answer s.world)
        (cond b (record { answer = Written (suc ver); world = write w ino blk value }) (record { answer = Changed; world = w }))
    by true e = h
    by false e = let g : false ≡ true = e in cc

-- ---- a file whose blocks are the same

pub bytes_same : (t u : Table) (file : Ino) → ((blk : ℕ) → u file blk ≡ t file blk) → (tree_of u).bytes file ≡ (tree_of t).bytes file
bytes_same t u file same =
    ap (λ (r : ℕ → Content). map (λ n. get_or (bytes_in (r (n / block_size))) (n % block_size) 0) (range_with_len 0 (unwrap_or (read_size (r size_block)) 0)))
    (λ i blk. same blk i)

pub file_same : (t u : Table) (file : Ino) (size : ℕ) → ((blk : ℕ) → u file blk ≡ t file blk) → IsFile t file size → IsFile u file size
file_same t u file size same fact = record {
  stored = same size_block ∙ fact.stored;
  bound = fact.bound;
  blocks = λ blk data'. subst (IsBlock size blk) (sym (same blk)) (fact.blocks blk data');
}

pub apart_kinds : (kinds : Ino → Option Kind) (a b : Ino) (m n : Option Kind) → kinds a ≡ m → kinds b ≡ n → m ≢ n → a ≢ b
apart_kinds kinds a b m n p q h e = h (sym p ∙ ap kinds e ∙ q)

-- ---- one bucket is written

module _ (kinds : Ino → Option Kind) (t : Table) (sound : Sound kinds t) (dir : Ino) (fact : kinds dir ≡ Some kind.Directory) (bucket : ℕ) (rows : List Row)
    (before : IsBucket kinds bucket (t dir bucket) rows)
    (now : List Row) (after : IsBucket kinds bucket (value_of (bucket_bytes now)) now) where
  abbrev pub with_rows : Table
  with_rows = put_at t dir bucket (value_of (bucket_bytes now))

  pub bucket_now : IsBucket kinds bucket (with_rows dir bucket) now
  bucket_now = record { text = put_here t dir bucket (value_of (bucket_bytes now)); rising = after.rising; each = after.each }

  pub file_beside : (ino : Ino) (n : Option Kind) → kinds ino ≡ n → n ≢ Some kind.Directory → (blk : ℕ) → with_rows ino blk ≡ t ino blk
  file_beside ino n k other blk = put_other t dir bucket (value_of (bucket_bytes now)) ino blk (apart_kinds kinds ino dir n (Some kind.Directory) k fact other)

  bucket_of : (d : Ino) (k : ℕ) → kinds d ≡ Some kind.Directory → k < 8 → (d ≡ dir) ⊎ (d ≢ dir) → (k ≡ bucket) ⊎ (k ≢ bucket)
      → (r : List Row) × IsBucket kinds k (with_rows d k) r
  bucket_of d k i small (inl e) (inl g) = (
    now,
    subst (λ (d' : Ino). IsBucket kinds k (with_rows d' k) now) (sym e)
        (subst (λ (k' : ℕ). IsBucket kinds k' (with_rows dir k') now) (sym g) bucket_now),
  )
  bucket_of d k i small (inl e) (inr g) = let old =
      sound.directories d k i small in
      (old.0, subst (λ (v : Content). IsBucket kinds k v old.0) (sym (put_beside t dir bucket (value_of (bucket_bytes now)) d k g)) old.1)
  bucket_of d k i small (inr e) g = let old =
      sound.directories d k i small in
      (old.0, subst (λ (v : Content). IsBucket kinds k v old.0) (sym (put_other t dir bucket (value_of (bucket_bytes now)) d k e)) old.1)

  pub sound_now : Sound kinds with_rows
  sound_now = record {
    root_is_directory = sound.root_is_directory;
    directories = λ d k i small. bucket_of d k i small (ino_cases d dir) (eq_cases k bucket);
    files = λ file k. let f = sound.files file k in (f.0, file_same t with_rows file f.0 (file_beside file (Some kind.File) k file_directory) f.1);
  }

  -- what names lead to, where the bucket is as before but for one name
  pub entries_now : (name : Name) (r : Option Node) → bucket_number name ≡ bucket
      → ((q : Name) → named q now ≡ cond (eq_by_cmp name_cmp q name) r (named q rows))
      → (d : Ino) (q : Name) → (tree_of with_rows).entries d q ≡ (with_entry (tree_of t) dir name r).entries d q
  entries_now name r own change d q = by (ino_cases d dir) (eq_cases (bucket_number q) bucket)
    where
      value : Content
      value = value_of (bucket_bytes now)

      elsewhere : with_rows d (bucket_number q) ≡ t d (bucket_number q) → eq_by_cmp name_cmp q name ≡ false
          → (tree_of with_rows).entries d q ≡ (with_entry (tree_of t) dir name r).entries d q
      elsewhere same other = ap (λ (v : Content). named q (rows_of v)) same ∙ sym (never (same_ino d dir) (eq_by_cmp name_cmp q name) other)
        where
          never : (s b : Bool) → b ≡ false → cond (s && b) r ((tree_of t).entries d q) ≡ (tree_of t).entries d q
          never true b e = ap (λ (u : Bool). cond u r ((tree_of t).entries d q)) e
          never false b e = refl

      otherwise : with_rows d (bucket_number q) ≡ t d (bucket_number q) → d ≢ dir
          → (tree_of with_rows).entries d q ≡ (with_entry (tree_of t) dir name r).entries d q
      otherwise same other =
          ap (λ (v : Content). named q (rows_of v)) same
          ∙ sym (ap (λ (b : Bool). cond (b && eq_by_cmp name_cmp q name) r ((tree_of t).entries d q)) (ino_differs d dir other))

      differs : (b : Bool) → eq_by_cmp name_cmp q name ≡ b → bucket_number q ≢ bucket → b ≡ false
      differs true e h = absurd (h (ap bucket_number (one_name q name e) ∙ own))
      differs false e h = refl

      by : (d ≡ dir) ⊎ (d ≢ dir) → (bucket_number q ≡ bucket) ⊎ (bucket_number q ≢ bucket)
          → (tree_of with_rows).entries d q ≡ (with_entry (tree_of t) dir name r).entries d q
      by (inl e) (inl g) =
          let old = entries_are kinds t dir bucket rows before q g in
          ap (λ (d' : Ino). (tree_of with_rows).entries d' q) e ∙ entries_are kinds with_rows dir bucket now bucket_now q g ∙ change q
          ∙ ap (λ (o : Option Node). cond (eq_by_cmp name_cmp q name) r o) (sym old ∙ ap (λ (d' : Ino). (tree_of t).entries d' q) (sym e))
          ∙ ap (λ (b : Bool). cond (b && eq_by_cmp name_cmp q name) r ((tree_of t).entries d q))
          (sym (ino_itself dir) ∙ ap (λ (d' : Ino). same_ino d' dir) (sym e))
      by (inl e) (inr g) = elsewhere (put_beside t dir bucket value d (bucket_number q) g) (differs (eq_by_cmp name_cmp q name) refl g)
      by (inr e) g = otherwise (put_other t dir bucket value d (bucket_number q) e) e

-- ---- an entry more, an entry less

length_content : (bytes : List ℕ) → length (bytes_in (value_of bytes)) ≡ length bytes
length_content [] = refl
length_content (b ∷ bs) = refl

-- an entry more fits where the bucket has room
pub room_is : (kinds : Ino → Option Kind) (t : Table) (dir : Ino) (name : Name) (rows : List Row) (node : Node)
    → IsBucket kinds (bucket_number name) (t dir (bucket_number name)) rows → named name rows ≡ None
    → fits (insert_entry name_cmp rows name node) ≡ has_room t dir name
room_is kinds t dir name rows node fact none =
    ap (λ (n : ℕ). nat_le n block_size)
    (length-insert name node rows none
    ∙ ap (λ (n : ℕ). n + (6 + length name)) (sym (ap (λ (v : Content). length (bytes_in v)) fact.text ∙ length_content (bucket_bytes rows))))

pub bucket_more : (kinds : Ino → Option Kind) (bucket : ℕ) (value : Content) (name : Name) (rows : List Row) (node : Node) → IsBucket kinds bucket value rows
    → IsEntry kinds bucket (name, node)
    → IsBucket kinds bucket (value_of (bucket_bytes (insert_entry name_cmp rows name node))) (insert_entry name_cmp rows name node)
bucket_more kinds bucket value name rows node fact entry = record {
  text = refl;
  rising = rising-insert name node rows fact.rising;
  each = all-insert (IsEntry kinds bucket) name node rows entry fact.each;
}

pub bucket_less : (kinds : Ino → Option Kind) (bucket : ℕ) (value : Content) (name : Name) (rows : List Row) → IsBucket kinds bucket value rows
    → IsBucket kinds bucket (value_of (bucket_bytes (without name rows))) (without name rows)
bucket_less kinds bucket value name rows fact = record {
  text = refl;
  rising = from_T _ (rising-remove name rows (is_T (is_sorted name_cmp rows) fact.rising));
  each = all-remove (IsEntry kinds bucket) name rows fact.each;
}

-- ---- a number that is nobody's may become a file's or a directory's

kept_here : (kinds : Ino → Option Kind) (ino : Ino) (made : Kind) → kept_as kinds ino made ino ≡ Some made
kept_here kinds ino made = ap (λ (b : Bool). cond b (Some made) (kinds ino)) (ino_itself ino)

pub kept_itself : (kinds : Ino → Option Kind) (ino : Ino) (made : Kind) → kept_as kinds ino made ino ≡ Some made
kept_itself = kept_here

kept_else : (kinds : Ino → Option Kind) (ino : Ino) (made : Kind) (i : Ino) → i ≢ ino → kept_as kinds ino made i ≡ kinds i
kept_else kinds ino made i h = ap (λ (b : Bool). cond b (Some made) (kinds i)) (ino_differs i ino h)

entry_kept : (kinds : Ino → Option Kind) (t : Table) (ino : Ino) (made : Kind) → IsFresh kinds t ino → (bucket : ℕ) (row : Row) → IsEntry kinds bucket row
    → IsEntry (kept_as kinds ino made) bucket row
entry_kept kinds t ino made fresh bucket row fact = record {
  form = fact.form;
  own = fact.own;
  kept = kept_else kinds ino made row.1.ino (apart_kinds kinds row.1.ino ino (Some row.1.kind) None fact.kept fresh.nobody (some_nobody row.1.kind))
      ∙ fact.kept;
}

entries_kept : (kinds : Ino → Option Kind) (t : Table) (ino : Ino) (made : Kind) → IsFresh kinds t ino → (bucket : ℕ) (rows : List Row)
    → AllByRecursion (IsEntry kinds bucket) rows → AllByRecursion (IsEntry (kept_as kinds ino made) bucket) rows
entries_kept kinds t ino made fresh bucket [] all = tt
entries_kept kinds t ino made fresh bucket (row ∷ rows) all =
    (entry_kept kinds t ino made fresh bucket row all.0, entries_kept kinds t ino made fresh bucket rows all.1)

pub no_file : (t : Table) (file : Ino) → ((blk : ℕ) → t file blk ≡ None) → IsFile t file 0
no_file t file none = record {
  stored = none size_block;
  bound = omega arith;
  blocks = λ blk data'. subst (IsBlock 0 blk) (sym (none blk)) (record { short = omega arith; below = λ some. absurd (omega (arith, some)) });
}

pub sound_kept : (kinds : Ino → Option Kind) (t : Table) (ino : Ino) (made : Kind) → Sound kinds t → IsFresh kinds t ino → Sound (kept_as kinds ino made) t
sound_kept kinds t ino made sound fresh = record {
  root_is_directory =
      kept_else kinds ino made root (apart_kinds kinds root ino (Some kind.Directory) None sound.root_is_directory fresh.nobody (some_nobody kind.Directory))
      ∙ sound.root_is_directory;
  directories = λ d k i small. directory d k i small (ino_cases d ino);
  files = λ f i. file f i (ino_cases f ino);
}
  where
    directory : (d : Ino) (k : ℕ) → kept_as kinds ino made d ≡ Some kind.Directory → k < 8 → (d ≡ ino) ⊎ (d ≢ ino)
        → (rows : List Row) × IsBucket (kept_as kinds ino made) k (t d k) rows
    directory d k i small (inl e) = ([], record { text = ap (λ (d' : Ino). t d' k) e ∙ fresh.unwritten k; rising = refl; each = tt })
    directory d k i small (inr e) =
        let old = sound.directories d k (sym (kept_else kinds ino made d e) ∙ i) small in
        (old.0, record { text = old.1.text; rising = old.1.rising; each = entries_kept kinds t ino made fresh k old.0 old.1.each })

    file : (f : Ino) → kept_as kinds ino made f ≡ Some kind.File → (f ≡ ino) ⊎ (f ≢ ino) → (size : ℕ) × IsFile t f size
    file f i (inl e) = (0, no_file t f (λ blk. ap (λ (f' : Ino). t f' blk) e ∙ fresh.unwritten blk))
    file f i (inr e) = sound.files f (sym (kept_else kinds ino made f e) ∙ i)
