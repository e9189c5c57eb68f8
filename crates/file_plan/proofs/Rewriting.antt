-- What one file changes: its blocks are written, and nothing else.
use Rattle.std.proofs.Common.{inl, inr, ◌≡◌, ℕ, Bool, cond, List, Option, Some, None, refl, sym, ap, subst, ◌∙◌}
use Rattle.std.specs.Prelude.{◌⊎◌, ◌≢◌}
use Rattle.version_model.specs.History.{Content}
use Rattle.file_plan.specs.Names.{Name, bucket_number, named}
use Rattle.file_plan.specs.Tree.{Table, tree_of, rows_of, IsBucket, IsFile, Sound, with_bytes}
use Rattle.file_plan.proofs.Frames.{bytes_same, file_same, apart_kinds, ino_itself, ino_differs, ino_cases, directory_file, nobody_file}
use Rattle.xfs_base.specs.declared.block.Ino.{Ino}
use Rattle.file_plan.specs.declared.node.Kind.{Kind}
use Rattle.file_plan.specs.declared.node.Kind.TheVariants as kind
use Rattle.file_plan.specs.Names.{same_ino}

module _ (kinds : Ino → Option Kind) (t : Table) (sound : Sound kinds t) (file : Ino) (fact : kinds file ≡ Some kind.File) (u : Table)
    (others : (i : Ino) (b : ℕ) → i ≢ file → u i b ≡ t i b) where
  elsewhere : (i : Ino) (n : Option Kind) → kinds i ≡ n → n ≢ Some kind.File → (b : ℕ) → u i b ≡ t i b
  elsewhere i n k other b = others i b (apart_kinds kinds i file n (Some kind.File) k fact other)

  pub sound_file : (size : ℕ) → IsFile u file size → Sound kinds u
  sound_file size now = record {
    root_is_directory = sound.root_is_directory;
    directories = λ d k i small. let old =
        sound.directories d k i small in
        (old.0, subst (λ (v : Content). IsBucket kinds k v old.0) (sym (elsewhere d (Some kind.Directory) i directory_file k)) old.1);
    files = λ f i. by f i (ino_cases f file);
  }
    where
      by : (f : Ino) → kinds f ≡ Some kind.File → (f ≡ file) ⊎ (f ≢ file) → (s : ℕ) × IsFile u f s
      by f i (inl e) = (size, subst (λ (g : Ino). IsFile u g size) (sym e) now)
      by f i (inr e) = let old = sound.files f i in (old.0, file_same t u f old.0 (λ b. others f b e) old.1)

  pub entries_file : (d : Ino) (q : Name) → kinds d ≡ Some kind.Directory → (tree_of u).entries d q ≡ (tree_of t).entries d q
  entries_file d q i = ap (λ (v : Content). named q (rows_of v)) (elsewhere d (Some kind.Directory) i directory_file (bucket_number q))

  pub bytes_file : (bytes : List ℕ) → (tree_of u).bytes file ≡ bytes → (f : Ino) → (tree_of u).bytes f ≡ (with_bytes (tree_of t) file bytes).bytes f
  bytes_file bytes now f = by (ino_cases f file)
    where
      by : (f ≡ file) ⊎ (f ≢ file) → (tree_of u).bytes f ≡ cond (same_ino f file) bytes ((tree_of t).bytes f)
      by (inl e) = ap (λ (g : Ino). (tree_of u).bytes g) e ∙ now
          ∙ ap (λ (b : Bool). cond b bytes ((tree_of t).bytes f)) (sym (ino_itself file) ∙ ap (λ (g : Ino). same_ino g file) (sym e))
      by (inr e) = bytes_same t u f (λ b. others f b e) ∙ ap (λ (b : Bool). cond b bytes ((tree_of t).bytes f)) (sym (ino_differs f file e))

  pub others_file : (i : Ino) (b : ℕ) → kinds i ≡ None → u i b ≡ t i b
  others_file i b k = elsewhere i None k (nobody_file None refl) b
