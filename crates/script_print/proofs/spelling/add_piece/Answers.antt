use Rattle.std.proofs.Common.{◌≡◌, ◌∙◌, sym, subst, ◌++◌, OnOk}
use Rattle.script_print.proofs.Runs.{plain_body}
use Rattle.script_print.proofs.spelling.add_piece.Goals as goal

pub returns-then-are_plain : goal.returns-then-are_plain
returns-then-are_plain c =
    subst (λ text. OnOk c.add.result (c.add.new.self ≡ c.args.out.now ++ text))
    (sym (plain_body c.args.bytes.now (sym c.are_plain.ensures ∙ c.if-are_plain.true))) c.add.ensures.ok
