use Rattle.std.proofs.Common.{ℕ, take, ap, ◌∙◌, arith}
use Rattle.std.proofs.lemmas.List.{take_min}
use Rattle.file_plan.specs.Calls.{block_size}
use Rattle.file_plan.specs.Format.{value_of}
use Rattle.file_plan.proofs.Parsing.{some_content}
use Rattle.file_plan.proofs.planning.filled.Goals as goal

pub returns : goal.returns
returns c =
    c.in_ok-value.ensures
    ∙ ap value_of (c.split_at.ensures.front ∙ ap (λ (n : ℕ). take n c.args.bytes.now) c.min.ensures ∙ take_min block_size c.args.bytes.now)
    ∙ some_content c.args.bytes.now block_size (omega arith) c.requires
