use Rattle.std.proofs.Common.{◌<◌, Result, sym, subst, ◌∙◌}
use Rattle.segment_format.specs.declared.segment.Segment.{Segment}
use Rattle.segment_format.specs.declared.seg_error.SegError.{SegError}
use Rattle.segment_format.proofs.FirstPlace.{reach, fronts_are_cut_off}
use Rattle.segment_format.proofs.SegmentLaws.{answer_again, texts_apart}
use Rattle.segment_format.proofs.laws.texts_are_apart.Goals as goal

pub returns-clause-one : goal.returns-clause-one
returns-clause-one c = λ a b s p q. p.spelled ∙ sym q.spelled

pub returns-clause-apart : goal.returns-clause-apart
returns-clause-apart c = λ a b more s t fs ft p q e. texts_apart a b more s t fs ft p q e

pub returns-clause-fronts : goal.returns-clause-fronts
returns-clause-fronts c =
    λ bytes s j fits text lt. fronts_are_cut_off bytes j lt
    (subst (λ (a : Result Segment SegError). j < reach bytes a) (sym (answer_again bytes s fits text)) lt)
