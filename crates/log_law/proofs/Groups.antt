-- What names a segment names its group: read off how the small world is seen.
use Rattle.std.proofs.Common.{sym, ap, subst, ◌∙◌}
use Rattle.log_scan.specs.Transition.{end_below, name_at}
use Rattle.segment_format.specs.declared.segment.Segment.{Segment}
use Rattle.log_law.specs.Below.{Below}
use Rattle.log_law.specs.Groups.{EndsNameGroups, PriorsNameGroups}
use Rattle.log_law.proofs.Calmer.{doubtful}
use Rattle.log_law.proofs.Views.{OwnerShown, View}
use Rattle.log_law.proofs.Wholeness.{seen}

pub priors_name_groups : Below → PriorsNameGroups
priors_name_groups k g n m s t fact to named =
    let h : View (doubtful g) n = seen k g n m in
    let x = h.flown.booked s fact in
    let y = h.flown.booked t to in
    ap (λ (b : Segment). b.group) y.2
    ∙ (h.spelled.grouped x.0 y.0 x.1 y.1
    (ap (λ (b : Segment). b.name) (sym y.2) ∙ (named ∙ ap (λ (b : Segment). name_at g.log (end_below b)) x.2))
    ∙ ap (λ (b : Segment). b.prior.group) (sym x.2))

pub ends_name_groups : Below → EndsNameGroups
ends_name_groups k g n m s serves t to named =
    let h : View (doubtful g) n = seen k g n m in
    let y = h.flown.booked t to in
    let shown = subst (OwnerShown (doubtful g) h.w h.book h.hellos) serves h.owner in
    ap (λ (b : Segment). b.group) y.2 ∙ shown.1.grouped y.0 y.1 (ap (λ (b : Segment). b.name) (sym y.2) ∙ named)
