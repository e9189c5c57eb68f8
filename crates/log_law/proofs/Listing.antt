-- What a server lists of the log names just what it holds, and is of booked segments.
use Rattle.std.proofs.Common.{◌≡◌, ℕ, ◌||◌, Bool, true, false, cond, is_some, map, filter, List, [], ◌∷◌, Some, refl, sym, ap, ◌∙◌}
use Rattle.xfs_base.specs.declared.fragment.FragMeta.{FragMeta}
use Rattle.xfs_base.specs.declared.fragment.Fragment.{Fragment}
use Rattle.xfs_base.specs.declared.segment.SegName.{SegName}
use Rattle.xfs_base.proofs.Booleans.{contrary}
use Rattle.segment_format.specs.declared.segment.Segment.{Segment}
use Rattle.fragment_store.specs.ShelfState.{same_name, held_at}
use Rattle.xfs_base.proofs.SegmentNames.{one_name, same_back}
use Rattle.log_scan.specs.Pick.{has_name}
use Rattle.log_tie.specs.Setting.{Setting}
use Rattle.log_tie.specs.Shelves.{is_of_log, AllPieces}
use Rattle.log_tie.specs.Scans.{AllMetas}

module _ (g : Setting) where
  abbrev listing : List Fragment → List FragMeta
  listing fs = filter (λ m. is_of_log g m.name) (map (λ f. f.meta) fs)

  pub names_listed : (fs : List Fragment) (name : SegName) → is_of_log g name ≡ true → has_name name (listing fs) ≡ is_some (held_at fs name)
  names_listed [] name own = refl
  names_listed (f ∷ fs) name own = by (is_of_log g f.meta.name) (same_name name f.meta.name) refl refl (names_listed fs name own)
    where
      by : (s t : Bool) → is_of_log g f.meta.name ≡ s → same_name name f.meta.name ≡ t → has_name name (listing fs) ≡ is_some (held_at fs name)
          → has_name name (cond s (f.meta ∷ listing fs) (listing fs)) ≡ is_some (cond t (Some f) (held_at fs name))
      by true true a b more = ap (λ u. u || has_name name (listing fs)) (same_back f.meta.name name ∙ b)
      by true false a b more = ap (λ u. u || has_name name (listing fs)) (same_back f.meta.name name ∙ b) ∙ more
      by false false a b more = more
      by false true a b more = contrary (sym a ∙ (ap (λ n. is_of_log g n) (sym (one_name name f.meta.name b)) ∙ own))

  pub metas_listed : (book : ℕ → Segment) (booked : ℕ → ℕ) (fs : List Fragment) → AllPieces g book booked fs → AllMetas book booked (listing fs)
  metas_listed book booked [] all = tt
  metas_listed book booked (f ∷ fs) all = by (is_of_log g f.meta.name) refl (metas_listed book booked fs all.1)
    where
      by : (s : Bool) → is_of_log g f.meta.name ≡ s → AllMetas book booked (listing fs) → AllMetas book booked (cond s (f.meta ∷ listing fs) (listing fs))
      by true own more = let p = all.0 own in ((p.0, p.1, p.2, ap (λ (z : Fragment). z.meta) p.3), more)
      by false own more = more
