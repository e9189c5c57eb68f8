-- What the owner of a log tells managers of a slot is what the log filed.
use Rattle.std.proofs.Common.{◌^◌, ◌≡◌, ℕ, suc, ◌+◌, ◌-◌, ◌<◌, ◌≤◌, ◌==◌, ◌&&◌, Bool, true, false, cond, List, [], ◌∷◌, ◌++◌, map, refl, sym, ap, subst, ◌∙◌, arith}
use Rattle.std.specs.Prelude.{nat_lt, Contains}
use Rattle.std.specs.List.{AllByRecursion, flat_map, range_with_len}
use Rattle.std.proofs.lemmas.List.Elements.{All-from_recursion}
use Rattle.xfs_base.proofs.Booleans.{by_test}
use Rattle.xfs_base.proofs.Members.{contains_first}
use Rattle.xfs_base.specs.Blocks.{slot_of}
use Rattle.xfs_base.specs.declared.block.BlockId.{BlockId}
use Rattle.xfs_base.specs.declared.entry.Entry.{Entry}
use Rattle.xfs_base.proofs.StepLoops.{steps_both}
use Rattle.xfs_base.proofs.Alls.{all_append}
use Rattle.xfs_base.specs.Limits.{slot_count, block_logs}
use Rattle.delta_feed.specs.FeedState.{FeedState, feed_start, acked_of}
use Rattle.delta_feed.specs.History.{filed_by, settled_numbers, greatest}
use Rattle.delta_feed.specs.Transition.{slot_rows, rows_after, feed_push, transition}
use Rattle.delta_feed.specs.declared.feed.FiledDeltas.{FiledDeltas}
use Rattle.delta_feed.specs.declared.input.In.{In}
use Rattle.delta_feed.specs.declared.input.In.TheVariants.{Settled, Ack, NewEpoch, Push, Tick}
use Rattle.delta_feed.specs.declared.output.Out.{Out}
use Rattle.delta_feed.specs.declared.output.Out.TheVariants.{Range}
use Rattle.delta_feed.proofs.AfterInputs.{is_after}
use Rattle.index_tie.specs.Feeds.{fed_at}
use Rattle.headline.specs.Filed.{Filed, rows_at}
use Rattle.index_tie.specs.Net.{Net}
use Rattle.index_tie.proofs.Feeds.{ranges_tell}
use Rattle.log_owner.specs.Sending.{range, sending_push, push_all}
use Rattle.log_owner.specs.declared.promised.Managers.{Managers}
use Rattle.node_slots.specs.node_index_tie.OwnerEvents.{FeedSeen, OwnerDoes, OwnersTell, FeedsStay}
use Rattle.node_slots.specs.node_index_tie.Sight.{RowsFit, DeltasKnown}

-- ---- rows fit

fit_slot : (slot : ℕ) (rows : List (BlockId × Entry)) → RowsFit rows → RowsFit (slot_rows slot rows)
fit_slot slot [] fit = tt
fit_slot slot (row ∷ rows) fit = by (slot_of row.0.ino.0 == slot) (fit_slot slot rows fit.1)
  where
    by : (t : Bool) → RowsFit (slot_rows slot rows) → RowsFit (cond t (row ∷ slot_rows slot rows) (slot_rows slot rows))
    by true more = (fit.0, more)
    by false more = more

fit_after : (slot number : ℕ) (fs : List FiledDeltas) → AllByRecursion (λ (f : FiledDeltas). RowsFit f.rows) fs → RowsFit (rows_after slot number fs)
fit_after slot number [] all = tt
fit_after slot number (f ∷ fs) all =
    all_append (λ row. row.0.blk < 2 ^ 32) (cond (nat_lt number f.seq) (slot_rows slot f.rows) []) (rows_after slot number fs)
    (by_test RowsFit (nat_lt number f.seq) (slot_rows slot f.rows) [] (λ _. fit_slot slot f.rows all.0) (λ _. tt))
    (fit_after slot number fs all.1)

fit_each : (f : Filed) (l : ℕ) → ((q : ℕ) → RowsFit (rows_at f l q)) → (qs : List ℕ)
    → AllByRecursion (λ (d : FiledDeltas). RowsFit d.rows) (map (fed_at f l) qs)
fit_each f l fit [] = tt
fit_each f l fit (q ∷ qs) = (fit q, fit_each f l fit qs)

-- ---- what is told

module _ (part : ℕ) (n : Net) (l : ℕ) (some : 0 < l) (limit : l ≤ block_logs) (feed : FeedState) (k : FeedSeen part n l feed) (managers : Managers) where
  fits : (slot : ℕ) → RowsFit (rows_after slot (acked_of feed slot) feed.filed)
  fits slot =
      let filed : feed.filed ≡ map (fed_at n.filed l) (range_with_len (suc k.base) (n.filed.head l - k.base)) = ap (λ (s : FeedState). s.filed) k.feed_is ∙
      (is_after k.base k.inputs).filed_is ∙ k.fed.each in
      fit_after slot (acked_of feed slot) feed.filed (subst (AllByRecursion (λ (d : FiledDeltas). RowsFit d.rows)) (sym filed)
      (fit_each n.filed l k.fit (range_with_len (suc k.base) (n.filed.head l - k.base))))

  ends : feed.end ≡ n.filed.head l
  ends = ap (λ (s : FeedState). s.end) k.feed_is ∙ (is_after k.base k.inputs).end_is ∙ k.fed.end

  -- a range that the feed gives tells what is filed
  known : (slot : ℕ) (input : In)
      → Contains (transition feed input).outs (Range slot (acked_of feed slot + 1) feed.end (rows_after slot (acked_of feed slot) feed.filed)) → slot ≡ part
      → DeltasKnown part n l (record { slot = slot; first = acked_of feed slot + 1; upto = feed.end; rows = rows_after slot (acked_of feed slot) feed.filed })
  known slot input given ours = record {
    tells = λ b inside. ranges_tell b n.filed l k.base k.inputs input slot (acked_of feed slot + 1) feed.end
        (rows_after slot (acked_of feed slot) feed.filed) some limit k.fed (inside ∙ sym ours)
        (subst (λ (s : FeedState). Contains (transition s input).outs
        (Range slot (acked_of feed slot + 1) feed.end (rows_after slot (acked_of feed slot) feed.filed))) k.feed_is given);
    fit = fits slot;
    short = let e = ends in let s = k.short in omega arith;
  }

  told : (slot : ℕ) → AllByRecursion (OwnerDoes part n l) (sending_push managers feed slot)
  unfolding feed_push
  told slot = by (nat_lt slot slot_count && nat_lt (acked_of feed slot) feed.end) refl
    where
      by : (t : Bool) → (nat_lt slot slot_count && nat_lt (acked_of feed slot) feed.end) ≡ t
          → AllByRecursion (OwnerDoes part n l)
          (map (range managers) (cond t (Range slot (acked_of feed slot + 1) feed.end (rows_after slot (acked_of feed slot) feed.filed) ∷ []) []))
      by true fact = (
        known slot (Push slot) (subst (λ os. Contains os (Range slot (acked_of feed slot + 1) feed.end (rows_after slot (acked_of feed slot) feed.filed)))
            (ap (λ t. cond t (Range slot (acked_of feed slot + 1) feed.end (rows_after slot (acked_of feed slot) feed.filed) ∷ []) []) (sym fact))
            (contains_first _ [])),
        tt,
      )
      by false fact = tt

  map_both : (xs ys : List Out) → map (range managers) (xs ++ ys) ≡ map (range managers) xs ++ map (range managers) ys
  map_both [] ys = refl
  map_both (x ∷ xs) ys = ap (λ r. range managers x ∷ r) (map_both xs ys)

  told_each : (slots : List ℕ) → AllByRecursion (OwnerDoes part n l) (map (range managers) (flat_map (feed_push feed) slots))
  told_each [] = tt
  told_each (slot ∷ slots) = subst (AllByRecursion (OwnerDoes part n l)) (sym (map_both (feed_push feed slot) (flat_map (feed_push feed) slots)))
      (all_append (OwnerDoes part n l) (sending_push managers feed slot) (map (range managers) (flat_map (feed_push feed) slots)) (told slot) (told_each slots))

pub owners_tell : OwnersTell
owners_tell part n l feed managers some limit k = record {
  one = λ slot. All-from_recursion (OwnerDoes part n l) (sending_push managers feed slot) (told part n l some limit feed k managers slot);
  each = All-from_recursion (OwnerDoes part n l) (push_all managers feed) (told_each part n l some limit feed k managers (range_with_len 0 slot_count));
}

-- ---- acknowledgements and new epochs

-- an input that settles nothing
IsQuiet : In → Type 0
IsQuiet (Settled seq rows) = ⊥
IsQuiet _ = Unit {0}

quiet_numbers : (xs : List In) (i : In) → IsQuiet i → settled_numbers (xs ++ i ∷ []) ≡ settled_numbers xs
unfolding IsQuiet
quiet_numbers [] (Settled seq rows) q = absurd q
quiet_numbers [] (Ack slot applied) q = refl
quiet_numbers [] (NewEpoch slot) q = refl
quiet_numbers [] (Push slot) q = refl
quiet_numbers [] Tick q = refl
quiet_numbers (Settled seq rows ∷ xs) i q = ap (λ ns. seq ∷ ns) (quiet_numbers xs i q)
quiet_numbers (Ack slot applied ∷ xs) i q = quiet_numbers xs i q
quiet_numbers (NewEpoch slot ∷ xs) i q = quiet_numbers xs i q
quiet_numbers (Push slot ∷ xs) i q = quiet_numbers xs i q
quiet_numbers (Tick ∷ xs) i q = quiet_numbers xs i q

quiet_filed : (base : ℕ) (xs : List In) (i : In) → IsQuiet i → filed_by base (xs ++ i ∷ []) ≡ filed_by base xs
unfolding IsQuiet
quiet_filed base [] (Settled seq rows) q = absurd q
quiet_filed base [] (Ack slot applied) q = refl
quiet_filed base [] (NewEpoch slot) q = refl
quiet_filed base [] (Push slot) q = refl
quiet_filed base [] Tick q = refl
quiet_filed base (Settled seq rows ∷ xs) i q = by (nat_lt base seq) (quiet_filed seq xs i q) (quiet_filed base xs i q)
  where
    by : (t : Bool) → filed_by seq (xs ++ i ∷ []) ≡ filed_by seq xs → filed_by base (xs ++ i ∷ []) ≡ filed_by base xs
        → cond t (record { seq = seq; rows = rows } ∷ filed_by seq (xs ++ i ∷ [])) (filed_by base (xs ++ i ∷ [])) ≡ cond t
        (record { seq = seq; rows = rows } ∷ filed_by seq xs) (filed_by base xs)
    by true a b = ap (λ fs. record { seq = seq; rows = rows } ∷ fs) a
    by false a b = b
quiet_filed base (Ack slot applied ∷ xs) i q = quiet_filed base xs i q
quiet_filed base (NewEpoch slot ∷ xs) i q = quiet_filed base xs i q
quiet_filed base (Push slot ∷ xs) i q = quiet_filed base xs i q
quiet_filed base (Tick ∷ xs) i q = quiet_filed base xs i q

-- what settles nothing leaves a feed seen
quiet_seen : (part : ℕ) (n : Net) (l : ℕ) (feed : FeedState) (i : In) → IsQuiet i → FeedSeen part n l feed → FeedSeen part n l (transition feed i).state
quiet_seen part n l feed i q k = record {
  base = k.base;
  inputs = k.inputs ++ i ∷ [];
  feed_is = ap (λ s. (transition s i).state) k.feed_is ∙ sym (steps_both transition (feed_start k.base) k.inputs (i ∷ []));
  fed = record {
    known = k.fed.known;
    end = ap (greatest k.base) (quiet_numbers k.inputs i q) ∙ k.fed.end;
    each = quiet_filed k.base k.inputs i q ∙ k.fed.each;
  };
  fit = k.fit;
  short = k.short;
}

pub feeds_stay : FeedsStay
unfolding IsQuiet
feeds_stay part n l feed k = record {
  acks = λ slot upto. quiet_seen part n l feed (Ack slot upto) tt k;
  epochs = λ slot. quiet_seen part n l feed (NewEpoch slot) tt k;
}
