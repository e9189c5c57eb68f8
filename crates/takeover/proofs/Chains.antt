-- Chains of segments: what they tell is merged as one list, and one more source that was read whole.
use Rattle.std.proofs.Common.{◌≡◌, ℕ, List, [], ◌∷◌, ◌++◌, None, map, refl, sym, ap, ◌∙◌, append_assoc, append-nil}
use Rattle.delta_index.specs.Index.{merged, merged_all}
use Rattle.segment_format.specs.declared.segment.Segment.{Segment}
use Rattle.xfs_base.specs.declared.block.BlockId.{BlockId}
use Rattle.xfs_base.specs.declared.entry.Entry.{Entry}
use Rattle.takeover.specs.declared.source.Source.{Source}
use Rattle.takeover.specs.ReadBack.{IsReadBack, AreReadBack, told_along, told_by_all}
use Rattle.takeover.specs.Rows.{told_of}
use Rattle.takeover.specs.Transition.{rows_join}

merged_all-append : (rows xs ys : List (BlockId × Entry)) → merged_all rows (xs ++ ys) ≡ merged_all (merged_all rows xs) ys
merged_all-append rows [] ys = refl
merged_all-append rows (x ∷ xs) ys = merged_all-append (merged rows x.0 x.1) xs ys

rows_join-told : (slot : ℕ) (rows : List (BlockId × Entry)) (segments : List Segment)
    → rows_join rows (map (told_of slot) segments) ≡ merged_all rows (told_along slot segments)
rows_join-told slot rows [] = refl
rows_join-told slot rows (s ∷ above) =
    rows_join-told slot (merged_all rows (told_of slot s)) above ∙ sym (merged_all-append rows (told_of slot s) (told_along slot above))

told_by_all-append : (slot : ℕ) (chains : List (List Segment)) (chain : List Segment)
    → told_by_all slot (chains ++ chain ∷ []) ≡ told_by_all slot chains ++ told_along slot chain
told_by_all-append slot [] chain = append-nil (told_along slot chain)
told_by_all-append slot (c ∷ chains) chain =
    ap (λ rest. told_along slot c ++ rest) (told_by_all-append slot chains chain)
    ∙ sym (append_assoc (told_along slot c) (told_by_all slot chains) (told_along slot chain))

-- once the present source is merged too, all that was read whole is
pub all_merged : (slot : ℕ) (rows : List (BlockId × Entry)) (chain : List (List (BlockId × Entry))) (chains : List (List Segment)) (segments : List Segment)
    → rows ≡ merged_all [] (told_by_all slot chains) → chain ≡ map (told_of slot) segments
    → rows_join rows chain ≡ merged_all [] (told_by_all slot (chains ++ segments ∷ []))
all_merged slot rows chain chains segments index told =
    ap (rows_join rows) told ∙ rows_join-told slot rows segments ∙ ap (λ r. merged_all r (told_along slot segments)) index
    ∙ sym (merged_all-append [] (told_by_all slot chains) (told_along slot segments)) ∙ ap (merged_all []) (sym (told_by_all-append slot chains segments))

-- one more source was read whole
pub one_more_whole : (sources : List Source) (chains : List (List Segment)) (source : Source) (chain : List Segment) → AreReadBack sources chains
    → IsReadBack source chain None → AreReadBack (sources ++ source ∷ []) (chains ++ chain ∷ [])
one_more_whole [] [] source chain all whole = (whole, tt)
one_more_whole [] (c ∷ chains) source chain all whole = absurd all
one_more_whole (s ∷ sources) [] source chain all whole = absurd all
one_more_whole (s ∷ sources) (c ∷ chains) source chain all whole = (all.0, one_more_whole sources chains source chain all.1 whole)
