-- What was read of a log from its end back to a horizon is what the log filed there.
use Rattle.std.proofs.Common.{◌≡◌, ℕ, zero, suc, ◌+◌, ◌-◌, ◌<◌, ◌≤◌, ◌&&◌, ◌==◌, not, Bool, true, false, cond, nat_lt, nat_le, List, [], ◌∷◌, ◌++◌, map, filter, Option, Some, None, refl, sym, ap, subst, ◌∙◌, arith}
use Rattle.std.specs.List.{AllByRecursion, flat_map, range_with_len}
use Rattle.std.proofs.lemmas.Bool.{false≢true}
use Rattle.std.proofs.lemmas.Bool.Decides.{nat_tests}
use Rattle.xfs_base.specs.declared.block.BlockId.{BlockId}
use Rattle.xfs_base.specs.declared.entry.Entry.{Entry}
use Rattle.xfs_base.specs.declared.segment.End.{End}
use Rattle.xfs_base.specs.declared.segment.Pass.{Pass}
use Rattle.xfs_base.specs.declared.segment.SegName.{SegName}
use Rattle.xfs_base.specs.Blocks.{slot_of, same_block}
use Rattle.xfs_base.proofs.BlockOrder.{same_block_exact}
use Rattle.xfs_base.specs.Segments.{names_none}
use Rattle.segment_format.specs.declared.segment.Item.{Item}
use Rattle.segment_format.specs.declared.segment.Item.TheVariants.{Block, Delta, Part}
use Rattle.segment_format.specs.declared.segment.Segment.{Segment}
use Rattle.segment_format.specs.Rows.{rows_of}
use Rattle.delta_index.specs.Entries.{no_entry, first_greatest}
use Rattle.delta_index.specs.Join.{join}
use Rattle.delta_index.proofs.JoinAlgebra.{join-append, join-cons, join-one, none-join}
use Rattle.takeover.specs.declared.source.Source.{Source}
use Rattle.takeover.specs.ReadBack.{IsReadBack, told_along}
use Rattle.takeover.specs.Rows.{is_of, part_rows, told_of}
use Rattle.takeover.specs.Sources.{log_source, prior_of, goes_back, back_from}
use Rattle.index_tie.specs.Filed.{IsFiled}
use Rattle.headline.specs.Filed.{Filed, IsNoPart, IsSegment, rows_at, rows_between}
use Rattle.index_tie.specs.Takeovers.{IsEnd, Linked, IsItsText}
use Rattle.index_tie.proofs.Tables.{first_of}

-- ---- what a filed segment tells of the block's slot is what it says

no_part_rows : (slot : ℕ) (items : List Item) → AllByRecursion IsNoPart items → flat_map (part_rows slot) items ≡ []
no_part_rows slot [] none = refl
no_part_rows slot (Block block value ∷ rest) none = no_part_rows slot rest none.1
no_part_rows slot (Delta block ver hop item ∷ rest) none = no_part_rows slot rest none.1
no_part_rows slot (Part of rows ∷ rest) none = absurd none.0

-- rows of other slots say nothing of the block
pub join_of_slot : (b : BlockId) (slot : ℕ) (rows : List (BlockId × Entry)) → slot_of b.ino.0 ≡ slot → join (filter (is_of slot) rows) b ≡ join rows b
join_of_slot b slot [] its = refl
join_of_slot b slot (m ∷ ms) its =
    elim (is_of slot m) as (λ t. is_of slot m ≡ t → join (cond t (m ∷ filter (is_of slot) ms) (filter (is_of slot) ms)) b ≡ join (m ∷ ms) b) [
      | true ↦ λ _. join-cons m (filter (is_of slot) ms) b ∙ ap (first_greatest (join (m ∷ []) b)) (join_of_slot b slot ms its) ∙ sym (join-cons m ms b)
      | false ↦ λ other.
          let apart : same_block b m.0 ≡ true → ⊥ =
          λ same. false≢true
          (sym other ∙ (let fact : slot_of m.0.ino.0 ≡ slot = ap (λ (k : BlockId). slot_of k.ino.0) (same_block_exact b m.0 same) ∙ its in
          grind (arith, nat_tests))) in
          join_of_slot b slot ms its
          ∙ sym (join-cons m ms b ∙ ap (λ e. first_greatest e (join ms b)) (join-one m b ∙ says_nothing (same_block b m.0) apart) ∙ none-join ms b)
    ] refl
  where
    says_nothing : (t : Bool) → (t ≡ true → ⊥) → cond t (first_greatest no_entry m.1) no_entry ≡ no_entry
    says_nothing true apart = absurd (apart refl)
    says_nothing false apart = refl

told_is_said : (b : BlockId) (slot l q : ℕ) (s : Segment) → slot_of b.ino.0 ≡ slot → IsSegment l q s → join (told_of slot s) b ≡ join (rows_of s) b
told_is_said b slot l q s its fact =
    ap (λ parts. join (parts ++ filter (is_of slot) (rows_of s)) b) (no_part_rows slot s.items fact.no_parts) ∙ join_of_slot b slot (rows_of s) its

-- so filed segments in a row tell what is filed from one seq up to another
pub told_range : (b : BlockId) (f : Filed) (slot l n first : ℕ) → slot_of b.ino.0 ≡ slot → IsFiled f → 0 < first → first + n ≤ suc (f.head l)
    → join (told_along slot (map (f.segment l) (range_with_len first n))) b ≡ join (flat_map (rows_at f l) (range_with_len first n)) b
told_range b f slot l zero first its filed some limit = refl
told_range b f slot l (suc n) first its filed some limit =
    let rest = range_with_len (first + 1) n in
    let says : join (rows_of (f.segment l first)) b ≡ join (rows_at f l first) b =
    ap (λ r. join r b) (sym (first_of (nat_lt 0 first && nat_le first (f.head l)) (rows_of (f.segment l first)) [] (grind (arith, nat_tests)))) in
    join-append (told_of slot (f.segment l first)) (told_along slot (map (f.segment l) rest)) b
    ∙ ap (λ e. first_greatest e (join (told_along slot (map (f.segment l) rest)) b))
    (told_is_said b slot l first (f.segment l first) its (filed.each l first some (omega arith)) ∙ says)
    ∙ ap (first_greatest (join (rows_at f l first) b)) (told_range b f slot l n (first + 1) its filed (omega arith) (omega arith))
    ∙ sym (join-append (rows_at f l first) (flat_map (rows_at f l) rest) b)

-- ---- what was read back is what was filed

same_name : (a b : SegName) → a.log.0 ≡ b.log.0 → a.seq ≡ b.seq → a.pass ≡ b.pass → a ≡ b
same_name a b log seq pass = λ k. record { log = record { 0 = log k }; seq = seq k; pass = pass k }

-- where a reading stands: the segment at this seq is next, and those above it were read
record NextIs (f : Filed) (l low end : ℕ) (at : Source) (chain : List Segment) : Type 0 where
  q : ℕ
  from : low ≤ q
  upto : q ≤ end
  low_is : at.low ≡ low
  named : at.seg.name ≡ (f.segment l q).name
  read : chain ≡ map (f.segment l) (range_with_len (q + 1) (end - q))

abbrev Stands : Filed → ℕ → ℕ → ℕ → Option Source → List Segment → Type 0
Stands f l low end None chain = chain ≡ map (f.segment l) (range_with_len low (suc end - low))
Stands f l low end (Some at) chain = NextIs f l low end at chain

range_first : (f : ℕ → Segment) (q n m : ℕ) → n ≡ suc m → map f (range_with_len q n) ≡ f q ∷ map f (range_with_len (q + 1) m)
range_first f q n m fact = ap (λ k. map f (range_with_len q k)) fact

-- nothing is left only once the lowest is read, as each prior of those above it names a segment
lowest : (low q seq at : ℕ) (t : Bool) → at ≡ low → seq ≡ q → low ≤ q → (low < q → t ≡ false) → (nat_lt at seq && not t) ≡ false → low ≡ q
lowest low q seq at true is_low is_seq from names stop = by (nat_lt low q) refl
  where
    by : (u : Bool) → nat_lt low q ≡ u → low ≡ q
    by true less = let h : low < q = grind (arith, nat_tests) in let e = names h in absurd (false≢true (sym e))
    by false not_less = grind (arith, nat_tests)
lowest low q seq at false is_low is_seq from names stop = grind (arith, nat_tests)

some_prior : (inc : ℕ) (u : Bool) → 0 < inc → ((inc == 0) && u) ≡ false
some_prior inc u some = grind (arith, nat_tests)

deeper : (low q seq at : ℕ) (t : Bool) → at ≡ low → seq ≡ q → (nat_lt at seq && not t) ≡ true → low < q
deeper low q seq at t is_low is_seq back = grind (arith, nat_tests)

module _ (f : Filed) (l low : ℕ) (end : End) (filed : IsFiled f) (some : 0 < low) (within : low ≤ end.seq) (is_end : IsEnd f l end)
    (linked : Linked f l low end.seq) where
  -- the segment that was looked for was read, and the one before it is next
  reads_on : (at : Source) (s : Segment) (chain : List Segment) → NextIs f l low end.seq at chain → s.name ≡ at.seg.name → IsItsText f s
      → Stands f l low end.seq (back_from at s) (s ∷ chain)
  reads_on at s chain n name text =
      let q = n.q in
      let from = n.from in
      let upto = n.upto in
      let head = is_end.filed in
      let fact : s ≡ f.segment l q = text l q (omega arith) (omega arith) (name ∙ n.named) in
      let its = filed.each l q (omega arith) (omega arith) in
      let seq : s.name.seq ≡ q = ap (λ (x : Segment). x.name.seq) fact ∙ its.seq in
      let read : s ∷ chain ≡ map (f.segment l) (range_with_len q (suc end.seq - q)) =
      ap (λ x. x ∷ chain) fact ∙ ap (λ c. f.segment l q ∷ c) n.read ∙ sym (range_first (f.segment l) q (suc end.seq - q) (end.seq - q) (omega arith)) in
      let prior : low < q → s.prior.pass ≡ (f.segment l (q - 1)).name.pass = λ less.
      let one : suc (q - 1) ≡ q = omega arith in
      ap (λ (x : Segment). x.prior.pass) fact ∙ sym (ap (λ k. (f.segment l k).prior.pass) one) ∙ linked (q - 1) (omega arith) (omega arith) in
      let named : low < q → names_none s.prior ≡ false = λ less.
      let boot = (filed.each l (q - 1) (omega arith) (omega arith)).boot in
      some_prior s.prior.pass.inc ((s.prior.pass.att == 0) && (s.prior.group == 0)) (subst (λ n. 0 < n) (sym (ap (λ (x : Pass). x.inc) (prior less))) boot) in
      let low_is = n.low_is in
      elim (goes_back at s) as (λ t. goes_back at s ≡ t → Stands f l low end.seq (cond t (Some (record { seg = prior_of s; low = at.low })) None) (s ∷ chain)) [
        | true ↦ λ back.
            let less : low < q = deeper low q s.name.seq at.low (names_none s.prior) low_is seq back in
            let below = filed.each l (q - 1) (omega arith) (omega arith) in
            let one : q ≡ q - 1 + 1 = omega arith in
            let count : suc end.seq - q ≡ end.seq - (q - 1) = omega arith in
            record {
              q = q - 1;
              from = omega arith;
              upto = omega arith;
              low_is = low_is;
              named = same_name (prior_of s).name (f.segment l (q - 1)).name (ap (λ (x : Segment). x.name.log.0) fact ∙ its.log ∙ sym below.log)
                  (ap (λ k. k - 1) seq ∙ sym below.seq) (prior less);
              read = read ∙ ap (λ k. map (f.segment l) (range_with_len k (suc end.seq - q))) one
                  ∙ ap (λ k. map (f.segment l) (range_with_len (q - 1 + 1) k)) count;
            }
        | false ↦ λ stop.
            let least : low ≡ q = lowest low q s.name.seq at.low (names_none s.prior) low_is seq from named stop in
            read ∙ ap (λ k. map (f.segment l) (range_with_len k (suc end.seq - k))) (sym least)
      ] refl

  stands : (chain : List Segment) (left : Option Source) → IsReadBack (log_source l low end) chain left → AllByRecursion (IsItsText f) chain
      → Stands f l low end.seq left chain
  stands [] left read texts =
      let head = is_end.filed in
      let its = filed.each l end.seq (omega arith) head in
      let none : 0 ≡ end.seq - end.seq = omega arith in
      subst (λ o. Stands f l low end.seq o []) (sym read) (record {
        q = end.seq;
        from = within;
        upto = omega arith;
        low_is = refl;
        named = same_name (log_source l low end).seg.name (f.segment l end.seq).name (sym its.log) (sym its.seq) is_end.named;
        read = ap (λ k. map (f.segment l) (range_with_len (end.seq + 1) k)) none;
      })
  stands (s ∷ above) left read texts =
      subst (λ o. Stands f l low end.seq o (s ∷ above)) (sym read.3) (reads_on read.0 s above (stands above (Some read.0) read.1 texts.1) read.2 texts.0)

  -- a log that was read whole tells what it filed from the horizon to its end
  pub log_tells : (b : BlockId) (slot : ℕ) (chain : List Segment) → slot_of b.ino.0 ≡ slot → IsReadBack (log_source l low end) chain None
      → AllByRecursion (IsItsText f) chain
      → join (told_along slot chain) b ≡ join (rows_between f l low end.seq) b
  log_tells b slot chain its read texts =
      let head = is_end.filed in
      ap (λ c. join (told_along slot c) b) (stands chain None read texts) ∙ told_range b f slot l (suc end.seq - low) low its filed some (omega arith)
