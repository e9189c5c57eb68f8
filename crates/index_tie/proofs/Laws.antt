-- The laws of the abstract index, in the words of the machines.
use Rattle.std.proofs.Common.{◌≡◌, ℕ, zero, suc, ◌<◌, ◌≤◌, ◌==◌, ◌⊎◌, inl, inr, nat_lt, Bool, true, false, cond, List, [], ◌∷◌, Some, None, unwrap_or, refl, sym, ap, subst, ◌∙◌, arith}
use Rattle.std.specs.List.{AllByRecursion, filter_map}
use Rattle.std.proofs.lemmas.Bool.Decides.{nat_tests}
use Rattle.std.proofs.lemmas.Bool.{ltb-false, ltb-true}
use Rattle.xfs_base.specs.declared.entry.Entry.{Entry}
use Rattle.xfs_base.specs.declared.entry.Place.{Place}
use Rattle.xfs_base.specs.declared.segment.SegName.{SegName}
use Rattle.xfs_base.specs.Limits.{block_logs}
use Rattle.segment_format.specs.declared.segment.Item.{Item}
use Rattle.segment_format.specs.declared.segment.Item.TheVariants.{Block, Delta, Part}
use Rattle.segment_format.specs.declared.segment.Segment.{Segment}
use Rattle.segment_format.specs.Rows.{place_of, row_of, rows_of}
use Rattle.segment_format.specs.Rule.{no_item}
use Rattle.delta_index.specs.Entries.{no_entry, is_newer}
use Rattle.delta_index.specs.Join.{join}
use Rattle.token_manager.specs.Transition.{entry_at}
use Rattle.log_protocol.specs.IndexState.{IndexState}
use Rattle.log_protocol.specs.IndexBoundLaws.{RowsInPlace}
use Rattle.log_protocol.proofs.IndexInduction.{index_is_join_always, index_in_bounds_always, cleaning_loses_nothing_always, dead_stays_always, rows_in_place_always}
use Rattle.headline.specs.Filed.{row_at}
use Rattle.index_tie.specs.Laws.{IndexesAreJoins, IsExact, PlacesAreExact, DroppedIsOutdated, NewestIsKept}
use Rattle.headline.specs.Indexes.{IsAppliedRow}
use Rattle.index_tie.proofs.Growth.{is_filed}
use Rattle.index_tie.proofs.Rows.{join_has, by_filed}

-- ---- entries are joins

not_newer : (a e : Entry) → a.ver ≤ e.ver → (a.ver ≡ e.ver → a.hop ≤ e.hop) → is_newer a e ≡ false
not_newer a e ver hop = grind (arith, nat_tests)

pub indexes_are_joins : IndexesAreJoins
indexes_are_joins b f w s reached filed tells m =
    let e = s.epoch in
    let named = w.index e in
    let j = (index_is_join_always w reached).each e m.active in
    let version = m.index.version in
    let hop = m.index.hop in
    record {
      newest = λ l q some limit.
          let a = m.applied l some in
          let v = tells.version l q in
          let h = tells.hop l q in
          let newest = j.newest l q (omega arith) in
          not_newer (row_at f b l q) (entry_at s b) (omega arith) (λ same. let furthest = j.furthest l q (omega arith) (omega arith) in omega arith);
      one = by (entry_at s b).ver refl;
    }
  where
    by : (v : ℕ) → (entry_at s b).ver ≡ v → (entry_at s b ≡ no_entry) ⊎ IsAppliedRow b f s (entry_at s b)
    by zero none = inl (m.index.none none)
    by (suc v) fact =
        let e = s.epoch in
        let named = w.index e in
        let j = (index_is_join_always w reached).each e m.active in
        let version = m.index.version in
        let hop = m.index.hop in
        let bounds = index_in_bounds_always w reached in
        let row = m.index.row (omega arith) in
        let within = is_filed b f named.log named.seq (subst (λ (x : Entry). 0 < x.ver) row (omega arith)) in
        let some : 0 < named.log = somebody named.log (filed.others named.log) within.0 within.1 in
        let applied = m.applied named.log some in
        let upto = j.within (omega arith) in
        inr (record {
          log = named.log;
          seq = named.seq;
          some = some;
          applied = omega arith;
          is_row = row;
          earliest = λ l q more limit order.
              let a = m.applied l more in
              let vl = tells.version l q in
              let hl = tells.hop l q in
              let rv = order.0 in
              let rh = order.1 in
              j.earliest l q (omega arith) (omega arith) (omega arith) (omega arith);
        })
      where
        somebody : (l : ℕ) → ((l ≡ 0) ⊎ (block_logs < l) → f.head l ≡ 0) → {q : ℕ} → 0 < q → q ≤ f.head l → 0 < l
        somebody zero none some limit = let h = none (inl refl) in absurd (omega arith)
        somebody (suc l) none some limit = omega arith

-- ---- places are exact

-- the place of a row of a segment is in it
abbrev LiesIn : Segment → Entry → Type 0
LiesIn s e = (place : Place) → e.place ≡ Some place → (place.seg.name ≡ s.name) × (place.seg.group ≡ s.group)

nowhere : (place : Place) → None ≡ Some place → ⊥
nowhere place h = absurd (cc)

place_lies : (s : Segment) (item : ℕ) (place : Place) → place_of s item ≡ Some place → (place.seg.name ≡ s.name) × (place.seg.group ≡ s.group)
place_lies s item place = by (item == no_item)
  where
    here : Place
    here = record { seg = record { name = s.name; group = s.group }; item = item }

    same : Some here ≡ Some place → here ≡ place
    same h = ap (λ o. unwrap_or o here) h

    by : (t : Bool) → cond t None (Some (record { seg = record { name = s.name; group = s.group }; item = item })) ≡ Some place
        → (place.seg.name ≡ s.name) × (place.seg.group ≡ s.group)
    by true h = absurd (nowhere place h)
    by false h = (sym (ap (λ (p : Place). p.seg.name) (same h)), sym (ap (λ (p : Place). p.seg.group) (same h)))

all_lie : (s : Segment) (items : List Item) → AllByRecursion (λ row. LiesIn s row.1) (filter_map (row_of s) items)
all_lie s [] = tt
all_lie s (Block block value ∷ rest) = all_lie s rest
all_lie s (Delta block ver hop item ∷ rest) = (place_lies s item, all_lie s rest)
all_lie s (Part slot rows ∷ rest) = all_lie s rest

pub places_are_exact : PlacesAreExact
places_are_exact b f entry named place filed n lies = by entry.ver refl
  where
    by : (v : ℕ) → entry.ver ≡ v → IsExact f named place
    by zero none = absurd (nowhere place (sym (ap (λ (e : Entry). e.place) (n.none none)) ∙ lies))
    by (suc v) some =
        let l = named.log in
        let q = named.seq in
        let row = n.row (omega arith) in
        let within = is_filed b f l q (subst (λ (x : Entry). 0 < x.ver) row (omega arith)) in
        let its = filed.each l q within.0 within.1 in
        let at : (row_at f b l q).place ≡ Some place = sym (ap (λ (e : Entry). e.place) row) ∙ lies in
        let in_segment : (place.seg.name ≡ (f.segment l q).name) × (place.seg.group ≡ (f.segment l q).group) =
        by_filed (λ rows. (join rows b).place ≡ Some place → (place.seg.name ≡ (f.segment l q).name) × (place.seg.group ≡ (f.segment l q).group)) f l q
        (λ _ _. join_has (LiesIn (f.segment l q)) b (rows_of (f.segment l q)) (λ p h. absurd (nowhere p h))
        (all_lie (f.segment l q) (f.segment l q).items) place)
        (λ h. absurd (nowhere place h)) at in
        record {
          log = ap (λ (n : SegName). n.log.0) in_segment.0 ∙ its.log;
          seq = ap (λ (n : SegName). n.seq) in_segment.0 ∙ its.seq;
          name = in_segment.0;
          group = in_segment.1;
          some = within.0;
          filed = within.1;
        }

-- ---- cleaning loses nothing

pub dropped_is_outdated : DroppedIsOutdated
dropped_is_outdated b f w s place reached filed tells m lies dropped counted =
    let e = s.epoch in
    let named = w.index e in
    let exact = places_are_exact b f (entry_at s b) named place filed m.index lies in
    let l = place.seg.name.log.0 in
    let q = place.seg.name.seq in
    let d = dead_stays_always w reached in
    let newer = d.stays l q e (d.counted l q dropped) counted m.active (sym exact.log) (sym exact.seq) in
    let highest = (index_is_join_always w reached).all in
    let fact : w.version w.joined.log w.joined.seq ≡ w.joined.version = highest.its_version (omega arith) in
    let row : (row_at f b named.log named.seq).ver ≡ (entry_at s b).ver = row_version (entry_at s b).ver refl in
    let here : w.version l q ≡ (row_at f b named.log named.seq).ver =
    tells.version l q ∙ ap (λ k. (row_at f b k q).ver) exact.log ∙ ap (λ k. (row_at f b named.log k).ver) exact.seq in
    let there = tells.version w.joined.log w.joined.seq in
    record { log = w.joined.log; seq = w.joined.seq; newer = omega arith }
  where
    row_version : (v : ℕ) → (entry_at s b).ver ≡ v → (row_at f b (w.index s.epoch).log (w.index s.epoch).seq).ver ≡ (entry_at s b).ver
    row_version zero none = absurd (nowhere place (sym (ap (λ (x : Entry). x.place) (m.index.none none)) ∙ lies))
    row_version (suc v) some = sym (ap (λ (x : Entry). x.ver) (m.index.row (omega arith)))

rank_above : (a e : Entry) → is_newer a e ≡ false → (a.ver ≤ e.ver) × (a.ver ≡ e.ver → a.hop ≤ e.hop)
rank_above a e h = (grind (arith, nat_tests), λ same. grind (arith, nat_tests))

-- of one version and hop, rows stand in one log
one_log : (w : IndexState) (a x l q : ℕ) → RowsInPlace w → 0 < w.version a x → w.version a x ≡ w.version l q → w.hop a x ≡ w.hop l q → a ≡ l
one_log w a x l q p some version hop = by (nat_lt a w.cleaner) (nat_lt l w.cleaner) refl refl
  where
    last : (m r : ℕ) → w.cleaner ≤ m → 0 < w.version m r → m ≡ w.cleaner
    last m r least more = elim (nat_lt w.cleaner m) as (λ t. nat_lt w.cleaner m ≡ t → m ≡ w.cleaner) [
      | true ↦ λ past. let none = p.no_other m r (ltb-true w.cleaner m past) in absurd (omega arith)
      | false ↦ λ limit. let h = ltb-false w.cleaner m limit in omega arith
    ] refl

    copied : (m r : ℕ) → m ≡ w.cleaner → 0 < w.version m r → 0 < w.hop m r
    copied m r fact more = subst (λ k. 0 < w.version k r → 0 < w.hop k r) (sym fact) (p.copy_hop r) more

    by : (t u : Bool) → nat_lt a w.cleaner ≡ t → nat_lt l w.cleaner ≡ u → a ≡ l
    by true true c d = (p.one_place a x l q (ltb-true a w.cleaner c) (ltb-true l w.cleaner d) some version).0
    by true false c d = let n = p.client_hop a x (ltb-true a w.cleaner c) in let k =
        copied l q (last l q (ltb-false l w.cleaner d) (omega arith)) (omega arith) in absurd (omega arith)
    by false true c d = let n = p.client_hop l q (ltb-true l w.cleaner d) in
        let k = copied a x (last a x (ltb-false a w.cleaner c) some) some in absurd (omega arith)
    by false false c d = last a x (ltb-false a w.cleaner c) some ∙ sym (last l q (ltb-false l w.cleaner d) (omega arith))

pub newest_is_kept : NewestIsKept
newest_is_kept b f w l q reached filed tells n dropped =
    let highest = w.joined in
    let j = (index_is_join_always w reached).all in
    let place = rows_in_place_always w reached in
    let some = n.some in
    let version = tells.version l q in
    let hop = tells.hop l q in
    let within = is_filed b f l q some in
    let head = tells.head l in
    let upto = within.1 in
    let newest = j.newest l q (omega arith) in
    let is_version = j.its_version (omega arith) in
    let is_hop = j.its_hop (omega arith) in
    let its_version = tells.version highest.log highest.seq in
    let its_hop = tells.hop highest.log highest.seq in
    let below = rank_above (row_at f b highest.log highest.seq) (row_at f b l q) (n.newest highest.log highest.seq) in
    let limit = below.0 in
    let same_version : (row_at f b highest.log highest.seq).ver ≡ (row_at f b l q).ver = omega arith in
    let furthest = j.furthest l q (omega arith) (omega arith) in
    let no_further = below.1 same_version in
    let same_hop : (row_at f b highest.log highest.seq).hop ≡ (row_at f b l q).hop = omega arith in
    let earliest = j.earliest l q (omega arith) (omega arith) (omega arith) (omega arith) in
    let earlier = n.earliest highest.log highest.seq (same_version, same_hop) in
    let same_seq : highest.seq ≡ q = omega arith in
    let same_log : highest.log ≡ l = one_log w highest.log highest.seq l q place (omega arith) (omega arith) (omega arith) in
    cleaning_loses_nothing_always w reached l q dropped (omega arith) same_log same_seq
