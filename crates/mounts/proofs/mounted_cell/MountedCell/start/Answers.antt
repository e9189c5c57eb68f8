use Rattle.std.proofs.Common.{◌∙◌, ◌≤◌, sym, ap, subst, length, arith}
use Rattle.std.specs.Prelude.{List as Seq}
use Rattle.rtrb.specs.Ring.{received}
use Rattle.journals.specs.declared.moment.Moment.{Moment}
use Rattle.journals.specs.Journals.{begins, whats}
use Rattle.mounts.specs.Replies.{replied_at}
use Rattle.mounts.proofs.Handing.{items_none}
use Rattle.mounts.proofs.mounted_cell.MountedCell.start.Goals as goal

pub invariant_of-result : goal.invariant_of-result
invariant_of-result g c =
    let none = c.requires.fresh.0 in
    let j = c.args.cell.journal in
    record {
      named = ∣ c.requires.named ∣₁;
      called_are = sym (ap (λ xs. length xs) none);
      calls_are = items_none (received c.args.port.calls) none;
      begun_are = subst (λ (ms : Seq Moment). begins (whats ms) ≤ length (received c.args.port.calls)) (sym c.requires.empty) (omega arith);
      given_are = c.requires.fresh.1 ∙ sym (ap (replied_at g.N.Actor.transition g.N.Member.first g.R.RunName.script j.place) c.requires.empty);
    }
