-- Deltas that tell what their log filed cover the index of the slot that they join on to: of each block the new entry is the old one, or the newest row of the
-- range.
use Rattle.std.proofs.Common.{◌≡◌, ℕ, suc, ◌<◌, ◌≤◌, ◌⊎◌, inl, inr, nat_le, Bool, true, false, cond, List, refl, sym, ap, subst, ◌∙◌, arith}
use Rattle.std.proofs.lemmas.Bool.Decides.{nat_tests}
use Rattle.xfs_base.specs.declared.block.BlockId.{BlockId}
use Rattle.xfs_base.specs.declared.entry.Entry.{Entry}
use Rattle.xfs_base.specs.Limits.{block_logs}
use Rattle.delta_index.specs.Entries.{is_newer, first_greatest}
use Rattle.delta_index.specs.Index.{entry_of, merged_all}
use Rattle.delta_index.specs.Join.{join}
use Rattle.delta_index.proofs.IndexJoin.{entry_of-merged_all}
use Rattle.index_tie.specs.Filed.{Tells, Names}
use Rattle.headline.specs.Filed.{Filed}
use Rattle.index_tie.specs.Slots.{Manages, DeltasTell}
use Rattle.index_tie.proofs.Rows.{ranged_between}
use Rattle.log_protocol.specs.IndexState.{IndexState}
use Rattle.log_protocol.specs.IndexLaws.{IndexReached}
use Rattle.log_protocol.proofs.IndexInduction.{index_is_join_always}
use Rattle.slot_beliefs.specs.Recalls.{applied_of}
use Rattle.token_law.specs.Books.{Books, said}
use Rattle.token_law.specs.Books as books
use Rattle.token_law.specs.Owed.{Covers}
use Rattle.token_manager.specs.SlotState.{SlotState}
use Rattle.token_manager.specs.Transition.{entry_at, joins_on}
use Rattle.run_laws.proofs.index_reads.Sayings.{Same, BeginsAtOne, same_version, names_filed}

no_gap : (applied first upto : ℕ) → joins_on applied first upto ≡ true → first ≤ suc applied
no_gap applied first upto joins = grind (arith, nat_tests)

-- a number lies below a range, or in it
below_or_in : (first q : ℕ) → (q < first) ⊎ (first ≤ q)
below_or_in first q = by (nat_le first q) refl
  where
    by : (t : Bool) → nat_le first q ≡ t → (q < first) ⊎ (first ≤ q)
    by true fact = inr (grind (arith, nat_tests))
    by false fact = inl (grind (arith, nat_tests))

-- the first greatest of two is one of them, no older than either
pub record IsOneOf (a b c : Entry) : Type 0 where
  pub first : a.ver ≤ c.ver
  pub second : b.ver ≤ c.ver
  pub one : (c ≡ a) ⊎ (c ≡ b)

greatest_is : (a b : Entry) → IsOneOf a b (first_greatest a b)
greatest_is a b = by (is_newer b a) refl
  where
    by : (t : Bool) → is_newer b a ≡ t → IsOneOf a b (cond t b a)
    by true fact = record { first = grind (arith, nat_tests); second = omega arith; one = inr refl }
    by false fact = record { first = omega arith; second = grind (arith, nat_tests); one = inl refl }

module _ (k : Books) (f : Filed) (same : Same k f) (begins : BeginsAtOne k) (b : BlockId) (w : IndexState) (reached : IndexReached w)
    (tells : Tells b f w) where
  -- what a slot has applied is no newer than its entry
  pub applied_older : (s : SlotState) (l q : ℕ) → Manages b f w s → 0 < l → l ≤ block_logs → q ≤ applied_of s.applied l → q ≤ f.head l
      → (said k l q b).version ≤ (entry_at s b).ver
  applied_older s l q m some limit to filed =
      let applied = m.applied l some in
      let newest = ((index_is_join_always w reached).each s.epoch m.active).newest l q (omega arith) in
      let named = m.index.version in
      let row = tells.version l q in
      let version = same_version k f same b begins l q some limit filed in
      omega arith

  pub covers : (s : SlotState) (l first upto : ℕ) (rows : List (BlockId × Entry)) → Manages b f w s → DeltasTell b f l first upto rows
      → joins_on (applied_of s.applied l) first upto ≡ true → Covers k b l upto (entry_at s b) (entry_of (merged_all s.index.rows rows) b)
  covers s l first upto rows m told joins =
      subst (Covers k b l upto (entry_at s b)) (sym (entry_of-merged_all s.index.rows rows b))
      (by (first_greatest (entry_at s b) (join rows b)) (greatest_is (entry_at s b) (join rows b)))
    where
      older : (e : Entry) → (join rows b).ver ≤ e.ver → (q : ℕ) → first ≤ q → q ≤ upto → (said k l q b).version ≤ e.ver
      older e above q from to =
          let r = ranged_between b f w l first upto same.filed tells in
          let newest = r.greatest.newest q from to in
          let named = r.names.version in
          let row = tells.version l q in
          let its = ap (λ (x : Entry). x.ver) told.joined in
          let last = told.filed in
          let version = same_version k f same b begins l q told.some told.known (omega arith) in
          omega arith

      row_of : (e : Entry) → IsOneOf (entry_at s b) (join rows b) e → (q : ℕ) → q ≤ upto → (q < first) ⊎ (first ≤ q) → (said k l q b).version ≤ e.ver
      row_of e one q to (inl below) =
          let gap = no_gap (applied_of s.applied l) first upto joins in
          let last = told.filed in
          let old = applied_older s l q m told.some told.known (omega arith) (omega arith) in
          let more = one.first in
          omega arith
      row_of e one q to (inr from) = older e one.second q from to

      source : (e : Entry) → (e ≡ entry_at s b) ⊎ (e ≡ join rows b) → (e ≡ entry_at s b) ⊎ books.IsFiled k b e
      source e (inl old) = inl old
      source e (inr new) =
          let r = ranged_between b f w l first upto same.filed tells in
          inr (names_filed k f same b e r.named (subst (λ x. Names b f x r.named) (sym (new ∙ told.joined)) r.names))

      by : (e : Entry) → IsOneOf (entry_at s b) (join rows b) e → Covers k b l upto (entry_at s b) e
      by e one = record { later = one.first; rows = λ q to. row_of e one q to (below_or_in first q); source = source e one.one }
