-- What an opening holds of what was filed it holds of what is filed later.
use Rattle.std.proofs.Common.{ℕ, arith}
use Rattle.log_owner.specs.declared.opening.Opening.{Opening}
use Rattle.log_owner.specs.declared.opening.Stage.{Stage}
use Rattle.log_owner.specs.declared.opening.Stage.TheVariants as stage
use Rattle.node_tellings.specs.filed_tie.OpeningReach.{StageReaches, OpeningReaches}
use Rattle.node_tellings.specs.filed_tie.Reach.{Reach, Rises}

module _ (reach later : Reach) (rises : Rises reach later) (log : ℕ) where
  stage_rises : (at : Stage) → StageReaches reach log at → StageReaches later log at
  stage_rises (stage.Scanning s) h = record { own = h.own; low = λ some. (let a = rises log in let b = h.low some in omega (arith, a, b)); chain = h.chain }
  stage_rises (stage.Settling s) h = record { low = (let a = rises log in let b = h.low in omega (arith, a, b)); chain = h.chain }

  pub opening_rises : (o : Opening) → OpeningReaches reach log o → OpeningReaches later log o
  opening_rises o h = record { own = h.own; stage = stage_rises o.stage h.stage }
