use Rattle.std.proofs.Common.{◌≡◌, true, ◌∙◌, ap, sym, subst, arith}
use Rattle.group_map.specs.WellFormed.{IsGroupMap}
use Rattle.registry.specs.BoardState.{BoardState}
use Rattle.registry.specs.Board.{may_lose}
use Rattle.registry.proofs.Losses.{loss_heard, loss_room, loss_kept}
use Rattle.registry.proofs.board.Board.server_hello.Goals as goal

pub after_loss-requires-clause-room : goal.after_loss-requires-clause-room
after_loss-requires-clause-room c =
    let heard : c.hears_server.result ≡ true = grind arith in
    let may : may_lose c.self.inside.groups c.args.server c.args.generation ≡ true =
    ap (λ (s : BoardState). may_lose s.groups c.args.server c.args.generation) c.self.view_is
    ∙ loss_heard c.args.self.now c.args.server c.args.generation (sym c.hears_server.ensures ∙ heard)
    in
    loss_room c.self.inside.groups c.args.server c.args.generation may c.self.invariant

pub invariant_of-self-2 : goal.invariant_of-self-2
invariant_of-self-2 c =
    let heard : c.hears_server.result ≡ true = grind arith in
    let may : may_lose c.self.inside.groups c.args.server c.args.generation ≡ true =
    ap (λ (s : BoardState). may_lose s.groups c.args.server c.args.generation) c.self.view_is
    ∙ loss_heard c.args.self.now c.args.server c.args.generation (sym c.hears_server.ensures ∙ heard)
    in
    subst IsGroupMap (sym c.in_ok-after_loss.ensures.ok) (loss_kept c.self.inside.groups c.args.server c.args.generation may c.self.invariant)
