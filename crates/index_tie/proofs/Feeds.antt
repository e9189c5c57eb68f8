-- What a feed tells of a range joins to what the log filed in it.
use Rattle.std.proofs.Common.{◌≡◌, ℕ, zero, suc, ◌+◌, ◌-◌, ◌<◌, ◌≤◌, ◌&&◌, Bool, true, false, nat_lt, nat_le, List, [], ◌∷◌, map, refl, sym, ap, ◌∙◌, arith}
use Rattle.std.specs.List.{flat_map, range_with_len}
use Rattle.std.proofs.lemmas.Bool.Decides.{nat_tests}
use Rattle.std.proofs.lemmas.List.Elements.{All-contains}
use Rattle.std.proofs.lemmas.Bool.{ltb-true}
use Rattle.xfs_base.specs.declared.block.BlockId.{BlockId}
use Rattle.delta_index.specs.Entries.{first_greatest}
use Rattle.delta_index.specs.Join.{join}
use Rattle.delta_index.proofs.JoinAlgebra.{join-append}
use Rattle.delta_feed.specs.declared.output.Out.TheVariants.{Range}
use Rattle.delta_feed.specs.History.{state_after, greatest, acks_since, deltas_between}
use Rattle.delta_feed.specs.RangeLaws.{TellsRange, IsTrueRange}
use Rattle.delta_feed.specs.Transition.{transition}
use Rattle.delta_feed.proofs.RangeRows.{between_more, between_same}
use Rattle.delta_feed.proofs.Ranges.{ranges_true}
use Rattle.headline.specs.Filed.{Filed, rows_at, rows_between}
use Rattle.index_tie.specs.Feeds.{fed_at, RangesTellWhatIsFiled}

-- segments from within the range on
all_within : (b : BlockId) (f : Filed) (l first upto n at : ℕ) → first ≤ at → at + n ≡ suc upto
    → join (deltas_between first upto (map (fed_at f l) (range_with_len at n))) b ≡ join (flat_map (rows_at f l) (range_with_len at n)) b
all_within b f l first upto zero at least ends = refl
all_within b f l first upto (suc n) at least ends =
    let rest = range_with_len (at + 1) n in
    between_more first upto (fed_at f l at) (map (fed_at f l) rest) b (within first at upto least (omega arith))
    ∙ ap (first_greatest (join (rows_at f l at) b)) (all_within b f l first upto n (at + 1) (omega arith) (omega arith))
    ∙ sym (join-append (rows_at f l at) (flat_map (rows_at f l) rest) b)
  where
    within : (first at upto : ℕ) → first ≤ at → at ≤ upto → (nat_le first at && nat_le at upto) ≡ true
    within first at upto least limit = grind (arith, nat_tests)

-- and from before it on
from_before : (b : BlockId) (f : Filed) (l first upto n at : ℕ) → at ≤ first → first ≤ upto → at + n ≡ suc upto
    → join (deltas_between first upto (map (fed_at f l) (range_with_len at n))) b ≡ join (rows_between f l first upto) b
from_before b f l first upto zero at below some ends = absurd (omega arith)
from_before b f l first upto (suc n) at below some ends =
    by (nat_lt at first) refl (λ less. from_before b f l first upto n (at + 1) (omega arith) some (omega arith))
  where
    outside : (first at upto : ℕ) → at < first → (nat_le first at && nat_le at upto) ≡ false
    outside first at upto less = grind (arith, nat_tests)

    is_first : (at first : ℕ) → at ≤ first → nat_lt at first ≡ false → first ≡ at
    is_first at first limit h = grind (arith, nat_tests)

    by : (t : Bool) → nat_lt at first ≡ t
        → (at < first → join (deltas_between first upto (map (fed_at f l) (range_with_len (at + 1) n))) b ≡ join (rows_between f l first upto) b)
        → join (deltas_between first upto (map (fed_at f l) (range_with_len at (suc n)))) b ≡ join (rows_between f l first upto) b
    by true before go =
        let less = ltb-true at first before in
        between_same first upto (fed_at f l at) (map (fed_at f l) (range_with_len (at + 1) n)) b (outside first at upto less) ∙ go less
    by false here go =
        let fact = is_first at first below here in
        let count : suc n ≡ suc upto - first = omega arith in
        all_within b f l first upto (suc n) at (omega arith) ends
        ∙ ap (λ k. join (flat_map (rows_at f l) (range_with_len k (suc n))) b) (sym fact)
        ∙ ap (λ k. join (flat_map (rows_at f l) (range_with_len first k)) b) count

at_least : (least : ℕ) (ns : List ℕ) → least ≤ greatest least ns
at_least least [] = omega arith
at_least least (n ∷ ns) = let rest = at_least least ns in omega arith

pub ranges_tell : RangesTellWhatIsFiled
ranges_tell b f l base inputs input slot first upto rows some known fed its given =
    let t : TellsRange base inputs slot first upto rows =
    All-contains (IsTrueRange base inputs) (transition (state_after base inputs) input).outs (Range slot first upto rows)
    (ranges_true base inputs input) given in
    let ends : upto ≡ f.head l = t.ends ∙ fed.end in
    let begins : base < first = let a = at_least base (acks_since slot inputs) in let c = t.begins in omega arith in
    let has = t.has_some in
    let from = fed.known in
    record {
      some = some;
      known = known;
      filed = omega arith;
      joined = t.joins b its ∙ ap (λ fs. join (deltas_between first upto fs) b) fed.each
          ∙ from_before b f l first upto (f.head l - base) (suc base) (omega arith) has (omega arith);
    }
