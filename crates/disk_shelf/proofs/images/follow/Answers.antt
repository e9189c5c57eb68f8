use Rattle.std.proofs.Common.{◌++◌, drop, ap, ◌∙◌}
use Rattle.std.proofs.lemmas.List.{take_rest}
use Rattle.disk_shelf.proofs.Alike.{followed}
use Rattle.disk_shelf.proofs.images.follow.Goals as goal

pub returns-clause-items : goal.returns-clause-items
returns-clause-items c =
    c.append.ensures.items ∙ ap (λ l. c.truncate.new.self.items ++ l) (take_rest c.args.other.now c.args.alike)
    ∙ ap (λ l. l ++ drop c.args.alike c.args.other.now) c.truncate.ensures.items
    ∙ followed c.args.alike c.args.bytes.now.items c.args.other.now c.requires.alike
