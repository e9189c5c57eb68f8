-- A range that overlaps what is known, or repeats it, adds just what is new.
use Rattle.std.proofs.Common.{◌≡◌, ℕ, ◌+◌, ◌<◌, ◌≤◌, true, false, List, [], ◌∷◌, refl, sym, ap, ◌∙◌, arith}
use Rattle.std.specs.Prelude.{nat_le, ◌&&◌}
use Rattle.std.proofs.lemmas.Bool.Decides.{nat_tests}
use Rattle.xfs_base.specs.declared.block.BlockId.{BlockId}
use Rattle.xfs_base.specs.declared.entry.Entry.{Entry}
use Rattle.delta_index.specs.Entries.{no_entry, first_greatest}
use Rattle.delta_index.specs.Join.{join}
use Rattle.delta_index.proofs.EntryAlgebra.{first_greatest-assoc, first_greatest-repeat}
use Rattle.delta_index.proofs.JoinAlgebra.{none-join}
use Rattle.delta_feed.specs.declared.feed.FiledDeltas.{FiledDeltas}
use Rattle.delta_feed.specs.History.{deltas_between}
use Rattle.delta_feed.proofs.RangeRows.{IsRising, rising_below, between_more, between_same}

-- entries j, k, then j again, then r: the second j adds nothing
again : (j k r : Entry) → first_greatest (first_greatest j k) (first_greatest j r) ≡ first_greatest j (first_greatest k r)
again j k r =
    sym (first_greatest-assoc (first_greatest j k) j r) ∙ ap (λ x. first_greatest x r) (first_greatest-repeat j k) ∙ first_greatest-assoc j k r

-- rising segments above a number say nothing up to it
none_upto : (first upto low high : ℕ) (fs : List FiledDeltas) (q : BlockId) → upto ≤ low → IsRising low fs high
    → join (deltas_between first upto fs) q ≡ no_entry
none_upto first upto low high [] q h r = refl
none_upto first upto low high (f ∷ fs) q h r =
    let outside : (nat_le first f.seq && nat_le f.seq upto) ≡ false = let l : low < f.seq = r.0 in grind (arith, nat_tests) in
    between_same first upto f fs q outside ∙ none_upto first upto f.seq high fs q (let l : low < f.seq = r.0 in omega (arith, h, l)) r.1

module _ (base first applied upto : ℕ) (q : BlockId) (meets : first ≤ applied + 1) (covers : applied ≤ upto) where
  pub extend : (low : ℕ) (fs : List FiledDeltas) → base ≤ low → IsRising low fs upto
      → first_greatest (join (deltas_between (base + 1) applied fs) q) (join (deltas_between first upto fs) q) ≡ join (deltas_between (base + 1) upto fs) q
  extend low [] h r = refl
  extend low (f ∷ fs) h r =
      let above : low < f.seq = r.0 in
      let below : f.seq ≤ upto = rising_below f.seq fs upto r.1 in
      let rest : first_greatest (join (deltas_between (base + 1) applied fs) q) (join (deltas_between first upto fs) q) ≡ join
      (deltas_between (base + 1) upto fs) q = extend f.seq fs (omega (arith, h, above)) r.1 in
      let all : join (deltas_between (base + 1) upto (f ∷ fs)) q ≡ first_greatest (join f.rows q) (join (deltas_between (base + 1) upto fs) q) =
      between_more (base + 1) upto f fs q (grind (arith, nat_tests)) in
      elim (nat_le first f.seq) as
      (λ t. nat_le first f.seq ≡ t
      → first_greatest (join (deltas_between (base + 1) applied (f ∷ fs)) q) (join (deltas_between first upto (f ∷ fs)) q) ≡ join
      (deltas_between (base + 1) upto (f ∷ fs)) q) [
        | true ↦ λ p.
            let ranged : join (deltas_between first upto (f ∷ fs)) q ≡ first_greatest (join f.rows q) (join (deltas_between first upto fs) q) =
            between_more first upto f fs q (grind (arith, nat_tests)) in
            elim (nat_le f.seq applied) as
            (λ u. nat_le f.seq applied ≡ u
            → first_greatest (join (deltas_between (base + 1) applied (f ∷ fs)) q) (join (deltas_between first upto (f ∷ fs)) q) ≡ join
            (deltas_between (base + 1) upto (f ∷ fs)) q) [
              | true ↦ λ a.
                  let known : join (deltas_between (base + 1) applied (f ∷ fs)) q ≡ first_greatest (join f.rows q)
                  (join (deltas_between (base + 1) applied fs) q) = between_more (base + 1) applied f fs q (grind (arith, nat_tests)) in
                  ap (λ e. first_greatest e (join (deltas_between first upto (f ∷ fs)) q)) known
                  ∙ ap (first_greatest (first_greatest (join f.rows q) (join (deltas_between (base + 1) applied fs) q))) ranged
                  ∙ again (join f.rows q) (join (deltas_between (base + 1) applied fs) q) (join (deltas_between first upto fs) q)
                  ∙ ap (first_greatest (join f.rows q)) rest ∙ sym all
              | false ↦ λ a.
                  let past : applied ≤ f.seq = grind (arith, nat_tests) in
                  let none : join (deltas_between (base + 1) applied fs) q ≡ no_entry = none_upto (base + 1) applied f.seq upto fs q past r.1 in
                  ap (λ e. first_greatest e (join (deltas_between first upto (f ∷ fs)) q))
                  (between_same (base + 1) applied f fs q (grind (arith, nat_tests)) ∙ none)
                  ∙ none-join (deltas_between first upto (f ∷ fs)) q ∙ ranged
                  ∙ ap (first_greatest (join f.rows q))
                  (sym (none-join (deltas_between first upto fs) q) ∙ ap (λ e. first_greatest e (join (deltas_between first upto fs) q)) (sym none) ∙ rest)
                  ∙ sym all
            ] refl
        | false ↦ λ p.
            let known : join (deltas_between (base + 1) applied (f ∷ fs)) q ≡ first_greatest (join f.rows q) (join (deltas_between (base + 1) applied fs) q) =
            between_more (base + 1) applied f fs q (grind (arith, nat_tests)) in
            ap (λ e. first_greatest e (join (deltas_between first upto (f ∷ fs)) q)) known
            ∙ ap (first_greatest (first_greatest (join f.rows q) (join (deltas_between (base + 1) applied fs) q)))
            (between_same first upto f fs q (grind (arith, nat_tests)))
            ∙ first_greatest-assoc (join f.rows q) (join (deltas_between (base + 1) applied fs) q) (join (deltas_between first upto fs) q)
            ∙ ap (first_greatest (join f.rows q)) rest ∙ sym all
      ] refl
