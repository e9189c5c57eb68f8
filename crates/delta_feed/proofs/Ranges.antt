-- What a feed gives is what its ranges are said to be.
use Rattle.std.proofs.Common.{◌≡◌, ℕ, ◌+◌, ◌<◌, ◌≤◌, true, false, cond, List, [], ◌∷◌, refl, ap, ◌∙◌, arith}
use Rattle.std.specs.Prelude.{nat_lt, ◌&&◌, All}
use Rattle.std.specs.List.{flat_map, range_with_len}
use Rattle.std.proofs.lemmas.Bool.Decides.{nat_tests}
use Rattle.std.proofs.lemmas.List.Elements.{All-nil, All-cons, All-append}
use Rattle.xfs_base.specs.declared.block.BlockId.{BlockId}
use Rattle.xfs_base.specs.declared.entry.Entry.{Entry}
use Rattle.xfs_base.specs.Limits.{slot_count}
use Rattle.delta_feed.specs.declared.input.In.{In}
use Rattle.delta_feed.specs.declared.input.In.TheVariants.{Settled, Ack, NewEpoch, Push, Tick}
use Rattle.delta_feed.specs.declared.output.Out.TheVariants.{Range}
use Rattle.delta_feed.specs.FeedState.{FeedState, acked_of}
use Rattle.delta_feed.specs.Transition.{rows_after, feed_push, transition}
use Rattle.delta_feed.specs.History.{state_after, end_of, filed_by, acknowledged_by}
use Rattle.delta_feed.specs.RangeLaws.{TellsRange, IsTrueRange}
use Rattle.delta_feed.proofs.AfterInputs.{IsAfter, is_after, acked_after}
use Rattle.delta_feed.proofs.RangeRows.{filed_rising, rising_upto, join-rows_after, own_rows_after}

tells : (base : ℕ) (h : List In) (s : FeedState) (slot : ℕ) → IsAfter base h s → slot < slot_count → acked_of s slot < s.end
    → TellsRange base h slot (acked_of s slot + 1) s.end (rows_after slot (acked_of s slot) s.filed)
tells base h s slot k in_range some = record {
  is_slot = in_range;
  begins = ap (λ n. n + 1) (acked_after base h s k slot in_range);
  ends = k.end_is;
  has_some = omega (arith, some);
  joins = λ q at. rw (k.filed_is, k.end_is)
      (join-rows_after slot (acked_of s slot) (end_of base h) q at (filed_by base h)
      (rising_upto base (filed_by base h) (end_of base h) (filed_rising base h)));
  own = own_rows_after slot (acked_of s slot) s.filed;
}

pub pushes_true : (base : ℕ) (h : List In) (s : FeedState) (slot : ℕ) → IsAfter base h s → All (IsTrueRange base h) (feed_push s slot)
unfolding feed_push
pushes_true base h s slot k =
    elim (nat_lt slot slot_count && nat_lt (acked_of s slot) s.end) as (λ t. (nat_lt slot slot_count && nat_lt (acked_of s slot) s.end) ≡ t
    → All (IsTrueRange base h) (cond t (Range slot (acked_of s slot + 1) s.end (rows_after slot (acked_of s slot) s.filed) ∷ []) [])) [
      | true ↦ λ p. All-cons (IsTrueRange base h) (Range slot (acked_of s slot + 1) s.end (rows_after slot (acked_of s slot) s.filed)) []
          (tells base h s slot k (grind (arith, nat_tests)) (grind (arith, nat_tests))) (All-nil (IsTrueRange base h))
      | false ↦ λ p. All-nil (IsTrueRange base h)
    ] refl

ticks_true : (base : ℕ) (h : List In) (s : FeedState) → IsAfter base h s → (slots : List ℕ) → All (IsTrueRange base h) (flat_map (feed_push s) slots)
ticks_true base h s k [] = All-nil (IsTrueRange base h)
ticks_true base h s k (slot ∷ slots) =
    All-append (IsTrueRange base h) (feed_push s slot) (flat_map (feed_push s) slots) (pushes_true base h s slot k) (ticks_true base h s k slots)

pub ranges_true : (base : ℕ) (h : List In) (input : In) → All (IsTrueRange base h) (transition (state_after base h) input).outs
ranges_true base h (Settled seq rows) = All-nil (IsTrueRange base h)
ranges_true base h (Ack slot applied) = All-nil (IsTrueRange base h)
ranges_true base h (NewEpoch slot) = All-nil (IsTrueRange base h)
ranges_true base h (Push slot) = pushes_true base h (state_after base h) slot (is_after base h)
ranges_true base h Tick = ticks_true base h (state_after base h) (is_after base h) (range_with_len 0 slot_count)

pub lacking_told : (base : ℕ) (h : List In) (s : FeedState) (slot : ℕ) → IsAfter base h s → slot < slot_count → acknowledged_by base slot h < end_of base h
    → (rows : List (BlockId × Entry)) × (feed_push s slot ≡ Range slot (acknowledged_by base slot h + 1) (end_of base h) rows ∷ [])
unfolding feed_push
lacking_told base h s slot k in_range lacks =
    let acked : acked_of s slot ≡ acknowledged_by base slot h = acked_after base h s k slot in_range in
    let less : acked_of s slot < s.end = rw (acked, k.end_is) lacks in
    let test : (nat_lt slot slot_count && nat_lt (acked_of s slot) s.end) ≡ true = grind (arith, nat_tests) in (
      rows_after slot (acked_of s slot) s.filed,
      ap (λ t. cond t (Range slot (acked_of s slot + 1) s.end (rows_after slot (acked_of s slot) s.filed) ∷ []) []) test
          ∙ ap (λ n. Range slot (n + 1) s.end (rows_after slot (acked_of s slot) s.filed) ∷ []) acked
          ∙ ap (λ e. Range slot (acknowledged_by base slot h + 1) e (rows_after slot (acked_of s slot) s.filed) ∷ []) k.end_is,
    )

pub known_untold : (base : ℕ) (h : List In) (s : FeedState) (slot : ℕ) → IsAfter base h s → slot < slot_count → end_of base h ≤ acknowledged_by base slot h
    → feed_push s slot ≡ []
unfolding feed_push
known_untold base h s slot k in_range knows =
    let acked : acked_of s slot ≡ acknowledged_by base slot h = acked_after base h s k slot in_range in
    let least : s.end ≤ acked_of s slot = rw (acked, k.end_is) knows in
    let test : (nat_lt slot slot_count && nat_lt (acked_of s slot) s.end) ≡ false = grind (arith, nat_tests) in
    ap (λ t. cond t (Range slot (acked_of s slot + 1) s.end (rows_after slot (acked_of s slot) s.filed) ∷ []) []) test
