use Rattle.std.proofs.Common.{◌∙◌, sym, ap₂, ◌++◌}
use Rattle.std.proofs.lemmas.List.{take-append-drop}
use Rattle.script_print.specs.Printing.{text_body}
use Rattle.script_print.proofs.Runs.{piece_appended}
use Rattle.script_print.proofs.spelling.add_body.Goals as goal

pub loop-rest-preserved : goal.loop-rest-preserved
loop-rest-preserved c =
    let rest = c.loop-rest.rest.now in
    let piece = c.split_at.result.0.now in
    let more = c.split_at.result.1.now in
    let cut = sym (ap₂ (λ a b. a ++ b) c.split_at.ensures.front c.split_at.ensures.back ∙ take-append-drop 256 rest) in
    piece_appended (c.args.out.now ++ text_body c.args.bytes.now) c.loop-rest.out c.add_piece.new.out rest piece more c.loop-rest.invariant cut c.in_ok-add_piece.ensures
