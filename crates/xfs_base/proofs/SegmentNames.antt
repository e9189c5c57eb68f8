-- Names that pass the test are one, each passes it with itself, and it doesn't hang on their order.
use Rattle.std.proofs.Common.{◌≡◌, true, refl, ap, ◌∙◌}
use Rattle.std.specs.declared.cmp.Ordering.{Ordering}
use Rattle.std.specs.declared.cmp.Ordering.TheVariants.{Less, Equal, Greater}
use Rattle.std.specs.Ordering.{is_eq, ordering_reverse}
use Rattle.std.proofs.lemmas.Cmp.{tied_itself}
use Rattle.std.proofs.lemmas.Map.Views.{tells_apart}
use Rattle.xfs_base.specs.declared.segment.SegName.{SegName}
use Rattle.xfs_base.specs.Segments.{seg_cmp, same_name}
use Rattle.xfs_base.proofs.Orders.{seg_cmp_total, seg_cmp_exact}

pub one_name : (a b : SegName) → same_name a b ≡ true → a ≡ b
one_name a b h = tells_apart seg_cmp_exact a b h

pub same_itself : (a : SegName) → same_name a a ≡ true
same_itself a = ap is_eq (tied_itself seg_cmp_total a)

reversed : (o : Ordering) → is_eq (ordering_reverse o) ≡ is_eq o
reversed Less = refl
reversed Equal = refl
reversed Greater = refl

pub same_back : (a b : SegName) → same_name a b ≡ same_name b a
same_back a b = ap is_eq (seg_cmp_total.antisymm a b) ∙ reversed (seg_cmp b a)
