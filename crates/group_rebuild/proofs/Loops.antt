-- One step of a loop that goes over a list, or counts up.
use Rattle.std.proofs.Common.{◌≡◌, ℕ, zero, suc, ◌+◌, ◌-◌, ◌<◌, List, [], ◌∷◌, ◌++◌, length, get_or, drop, refl, sym, ap, ◌∙◌, append_assoc, add-one, arith}
use Rattle.std.specs.List.{flat_map, range_with_len}
use Rattle.std.specs.Map.{remove_entry}
use Rattle.std.specs.BTreeMap.{is_at, insert_entry}
use Rattle.xfs_base.specs.declared.fragment.FragMeta.{FragMeta}
use Rattle.xfs_base.specs.declared.segment.SegName.{SegName}
use Rattle.xfs_base.specs.Segments.{seg_cmp}
use Rattle.group_rebuild.specs.Transition.{listed_with, remove_names}

-- the number that comes, and those after it
pub count_step : (f : ℕ → List ℕ) (front : List ℕ) (i n : ℕ) → i < n
    → front ++ flat_map f (range_with_len i (n - i)) ≡ (front ++ f i) ++ flat_map f (range_with_len (i + 1) (n - (i + 1)))
count_step f front i n lt =
    let k : n - i ≡ suc (n - (i + 1)) = omega arith in
    ap (λ m. front ++ flat_map f (range_with_len i m)) k ∙ sym (append_assoc front (f i) (flat_map f (range_with_len (i + 1) (n - (i + 1)))))

listed_suc : (metas : List FragMeta) (i : ℕ) (es : List (SegName × FragMeta)) (d : FragMeta) → i < length metas
    → listed_with (drop i metas) es ≡ listed_with (drop (suc i) metas) (insert_entry seg_cmp es (get_or metas i d).name (get_or metas i d))
listed_suc [] i es d lt = absurd (omega arith)
listed_suc (m ∷ ms) zero es d lt = refl
listed_suc (m ∷ ms) (suc i) es d lt = listed_suc ms i es d (omega arith)

pub listed_step : (metas : List FragMeta) (i : ℕ) (es : List (SegName × FragMeta)) (d : FragMeta) → i < length metas
    → listed_with (drop i metas) es ≡ listed_with (drop (i + 1) metas) (insert_entry seg_cmp es (get_or metas i d).name (get_or metas i d))
listed_step metas i es d lt =
    listed_suc metas i es d lt ∙ ap (λ n. listed_with (drop n metas) (insert_entry seg_cmp es (get_or metas i d).name (get_or metas i d))) (sym (add-one i))

without_suc : (names : List SegName) (i : ℕ) (es : List (SegName × FragMeta)) (d : SegName) → i < length names
    → remove_names (drop i names) es ≡ remove_names (drop (suc i) names) (remove_entry (is_at (seg_cmp (get_or names i d))) es)
without_suc [] i es d lt = absurd (omega arith)
without_suc (n ∷ ns) zero es d lt = refl
without_suc (n ∷ ns) (suc i) es d lt = without_suc ns i es d (omega arith)

pub without_step : (names : List SegName) (i : ℕ) (es : List (SegName × FragMeta)) (d : SegName) → i < length names
    → remove_names (drop i names) es ≡ remove_names (drop (i + 1) names) (remove_entry (is_at (seg_cmp (get_or names i d))) es)
without_step names i es d lt =
    without_suc names i es d lt ∙ ap (λ n. remove_names (drop n names) (remove_entry (is_at (seg_cmp (get_or names i d))) es)) (sym (add-one i))
