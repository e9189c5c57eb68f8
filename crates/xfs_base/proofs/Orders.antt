-- The orders of passes, of segment names and of stamps are total and exact, and a stamp is never later than
-- itself.
use Rattle.std.proofs.Common.{◌≡◌, ℕ, true, false, refl, sym, ap, ◌∙◌}
use Rattle.std.specs.declared.cmp.Ordering.{Ordering}
use Rattle.std.specs.declared.cmp.Ordering.TheVariants.{Less, Equal, Greater}
use Rattle.std.specs.Ordering.{nat_cmp, is_gt, ordering_reverse}
use Rattle.std.specs.Cmp.{IsTotalOrder}
use Rattle.std.proofs.lemmas.Cmp.{on_total, then_total, nat_cmp_total, upto, tied_itself}
use Rattle.std.proofs.lemmas.Map.Lookups.{CmpEqualImpliesEq, exact_unsigned, exact_pairs}
use Rattle.xfs_base.specs.declared.segment.Pass.{Pass}
use Rattle.xfs_base.specs.declared.segment.SegName.{SegName}
use Rattle.xfs_base.specs.declared.token.Stamp.{Stamp}
use Rattle.xfs_base.specs.Segments.{pass_cmp, seg_cmp}
use Rattle.xfs_base.specs.Stamps.{stamp_cmp, is_greater, is_later}

-- ---- passes and segment names

pub pass_cmp_total : IsTotalOrder pass_cmp
pass_cmp_total = then_total (on_total (λ (p : Pass). p.inc) nat_cmp_total) (on_total (λ (p : Pass). p.att) nat_cmp_total)

pub pass_cmp_exact : CmpEqualImpliesEq pass_cmp
pass_cmp_exact a b h =
    ap (λ (p : ℕ × ℕ). record { inc = p.0; att = p.1 }) (exact_pairs nat_cmp nat_cmp exact_unsigned exact_unsigned (a.inc, a.att) (b.inc, b.att) h)

pub seg_cmp_total : IsTotalOrder seg_cmp
seg_cmp_total =
    then_total (on_total (λ (s : SegName). s.log.0) nat_cmp_total)
    (then_total (on_total (λ (s : SegName). s.seq) nat_cmp_total) (on_total (λ (s : SegName). s.pass) pass_cmp_total))

pub seg_cmp_exact : CmpEqualImpliesEq seg_cmp
seg_cmp_exact a b h =
    ap (λ (p : ℕ × (ℕ × Pass)). record { log = record { 0 = p.0 }; seq = p.1.0; pass = p.1.1 })
    (exact_pairs nat_cmp _ exact_unsigned (exact_pairs nat_cmp pass_cmp exact_unsigned pass_cmp_exact) (a.log.0, (a.seq, a.pass)) (b.log.0, (b.seq, b.pass)) h)

-- ---- stamps

pub stamp_cmp_total : IsTotalOrder stamp_cmp
stamp_cmp_total = then_total (on_total (λ (s : Stamp). s.epoch) nat_cmp_total) (on_total (λ (s : Stamp). s.turn) nat_cmp_total)

greater-is_gt : (o : Ordering) → is_greater o ≡ is_gt o
greater-is_gt Less = refl
greater-is_gt Equal = refl
greater-is_gt Greater = refl

reversed : (o : Ordering) → is_greater o ≡ true → is_greater (ordering_reverse o) ≡ false
reversed Less h = sym h
reversed Equal h = refl
reversed Greater h = refl

-- no stamp is later than itself
pub not_later_itself : (a : Stamp) → is_later a a ≡ false
not_later_itself a = ap is_greater (tied_itself stamp_cmp_total a)

-- where one is later, the other isn't
pub not_later_back : (a b : Stamp) → is_later b a ≡ true → is_later a b ≡ false
not_later_back a b h = ap is_greater (stamp_cmp_total.antisymm a b) ∙ reversed (stamp_cmp b a) h

-- of three stamps of which none is later than the next, the first isn't later than the last
pub not_later_through : (a b c : Stamp) → is_later a b ≡ false → is_later b c ≡ false → is_later a c ≡ false
not_later_through a b c h k =
    greater-is_gt (stamp_cmp a c)
    ∙ upto stamp_cmp_total a b c (sym (greater-is_gt (stamp_cmp a b)) ∙ h) (sym (greater-is_gt (stamp_cmp b c)) ∙ k)
