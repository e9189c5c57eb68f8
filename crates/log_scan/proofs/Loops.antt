-- One step of a loop that goes over a list, or counts up.
use Rattle.std.proofs.Common.{◌≡◌, ℕ, suc, ◌+◌, ◌-◌, ◌<◌, ◌≤◌, Bool, true, false, cond, List, [], ◌∷◌, ◌++◌, length, get_or, drop, Option, sym, ap, ◌∙◌, append_assoc, arith}
use Rattle.std.specs.Prelude.{option_to_list, filter, nat_le}
use Rattle.std.specs.List.{range_with_len}
use Rattle.std.proofs.lemmas.List.{at_drop_more}
use Rattle.xfs_base.specs.declared.fragment.FragMeta.{FragMeta}
use Rattle.xfs_base.specs.declared.news.SlotNews.{SlotNews}
use Rattle.xfs_base.specs.Limits.{u32_end}
use Rattle.log_scan.specs.declared.listing.Listing.{Listing}
use Rattle.log_scan.specs.Pick.{above, counting, newest}
use Rattle.log_scan.specs.Transition.{least_horizon}
use Rattle.log_scan.proofs.Newest.{newest_append}

-- ---- servers, counted up from the one after i

pub servers_step : (p : ℕ → Bool) (front : List ℕ) (i n : ℕ) → i < n
    → front ++ filter p (range_with_len (i + 1) (n - i)) ≡ (front ++ cond (p (i + 1)) ((i + 1) ∷ []) []) ++ filter p (range_with_len (i + 1 + 1) (n - (i + 1)))
servers_step p front i n lt =
    let k : n - i ≡ suc (n - (i + 1)) = omega arith in
    ap (λ m. front ++ filter p (range_with_len (i + 1) m)) k ∙ by (p (i + 1))
  where
    by : (t : Bool)
        → front ++ cond t ((i + 1) ∷ filter p (range_with_len (i + 1 + 1) (n - (i + 1)))) (filter p (range_with_len (i + 1 + 1) (n - (i + 1)))) ≡
        (front ++ cond t ((i + 1) ∷ []) []) ++ filter p (range_with_len (i + 1 + 1) (n - (i + 1)))
    by true = sym (append_assoc front ((i + 1) ∷ []) (filter p (range_with_len (i + 1 + 1) (n - (i + 1)))))
    by false = sym (append_assoc front [] (filter p (range_with_len (i + 1 + 1) (n - (i + 1)))))

-- ---- the newest so far

-- with what one list adds
pub list_step : (best more : Option FragMeta) (low : ℕ) (lists : List Listing) (i : ℕ) (d : Listing) → i < length lists
    → more ≡ newest (option_to_list best ++ above low (get_or lists i d).held)
    → newest (option_to_list more ++ counting low (drop (i + 1) lists)) ≡ newest (option_to_list best ++ counting low (drop i lists))
list_step best more low lists i d lt h =
    let here = above low (get_or lists i d).held in
    let rest = counting low (drop (i + 1) lists) in
    ap (λ o. newest (option_to_list o ++ rest)) h
    ∙ newest_append (option_to_list best ++ here) rest
    ∙ ap newest (append_assoc (option_to_list best) here rest)
    ∙ sym (ap (λ ms. newest (option_to_list best ++ ms)) (at_drop_more (counting low) lists i d lt))

-- with the next of a list, where it counts
pub meta_step : (best more : Option FragMeta) (low : ℕ) (metas : List FragMeta) (i : ℕ) (d : FragMeta) → i < length metas
    → nat_le low (get_or metas i d).name.seq ≡ true → more ≡ newest (option_to_list best ++ get_or metas i d ∷ [])
    → newest (option_to_list more ++ above low (drop (i + 1) metas)) ≡ newest (option_to_list best ++ above low (drop i metas))
meta_step best more low metas i d lt counts h =
    let here = get_or metas i d in
    let rest = above low (drop (i + 1) metas) in
    ap (λ o. newest (option_to_list o ++ rest)) h
    ∙ newest_append (option_to_list best ++ here ∷ []) rest
    ∙ ap newest (append_assoc (option_to_list best) (here ∷ []) rest)
    ∙ sym (ap (λ t. newest (option_to_list best ++ cond t (here ∷ rest) rest)) counts)
    ∙ sym (ap (λ ms. newest (option_to_list best ++ ms)) (at_drop_more (above low) metas i d lt))

-- and where it doesn't
pub meta_skip : (best : Option FragMeta) (low : ℕ) (metas : List FragMeta) (i : ℕ) (d : FragMeta) → i < length metas
    → nat_le low (get_or metas i d).name.seq ≡ false
    → newest (option_to_list best ++ above low (drop (i + 1) metas)) ≡ newest (option_to_list best ++ above low (drop i metas))
meta_skip best low metas i d lt below =
    let here = get_or metas i d in
    let rest = above low (drop (i + 1) metas) in
    sym (ap (λ t. newest (option_to_list best ++ cond t (here ∷ rest) rest)) below)
    ∙ sym (ap (λ ms. newest (option_to_list best ++ ms)) (at_drop_more (above low) metas i d lt))

-- ---- the least horizon so far

pub least_bound : (log : ℕ) (slots : List SlotNews) → least_horizon log slots ≤ u32_end
least_bound log [] = omega arith
least_bound log (s ∷ ss) = (let rest = least_bound log ss in omega (arith, rest))
