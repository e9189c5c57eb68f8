use Rattle.std.proofs.lemmas.Result.{err_from_is_err_and}
use Rattle.script_text.specs.Words.{words}
use Rattle.script_text.proofs.Works.{bput_text}
use Rattle.script_text.proofs.client_work.bput.Goals as goal

pub returns-in_err-text : goal.returns-in_err-text
returns-in_err-text c =
    let p = err_from_is_err_and c.from_residual-in_err-text.result c.from_residual-in_err-text.ensures.1 in
    rw (p.1, p.2)
    (bput_text (record { setup = c.args.setup.now; room = c.args.room })
    (words c.args.line.now)
    c.operands-words.result c.read_raw.new.words c.read_number.new.words c.in_ok-client.client c.in_ok-ino.ino c.in_ok-blk.blk c.min.result
    c.in_err-text.field-0.0 c.operands-words.ensures c.in_ok-ino.ensures.left c.in_ok-blk.ensures.left c.min.ensures c.in_ok-client.ensures
    c.in_ok-ino.ensures.read c.in_ok-blk.ensures.read c.in_err-text.ensures.read)
