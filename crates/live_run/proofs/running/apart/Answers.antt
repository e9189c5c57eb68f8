use Rattle.std.proofs.Common.{◌≡◌, ◌∙◌, refl, ap, subst, sym, length, Some, arith}
use Rattle.std.specs.Prelude.{List as Seq, slice_get}
use Rattle.std.proofs.lemmas.List.Elements.{All-head, All-rest, All-same}
use Rattle.std.specs.Vec.Iter.{into_iter_items}
use Rattle.journals.specs.declared.moment.Moment.{Moment}
use Rattle.journals.proofs.Gets.{get_front}
use Rattle.live_links.specs.Ending.{IsEnded}
use Rattle.live_run.proofs.running.apart.Goals as goal

pub loop-cell-init : goal.loop-cell-init
loop-cell-init g c =
    let all : into_iter_items c.into_iter-cell-iterator.result ≡ c.args.cells.items = c.into_iter-cell-iterator.ensures.into_iter_gives.0 in
    record {
      parts = c.requires.parts;
      full = refl;
      ended = All-same (λ d. IsEnded g.N.Actor.transition g.N.Member.first g.R.RunName.script c.args.parts.full d.journal.place d.journal.moments) _ c.args.cells.items all c.requires.ended;
      count = let same = ap length all in omega arith;
      front = λ k x at. at;
    }

pub loop-cell-preserved : goal.loop-cell-preserved
loop-cell-preserved g c =
    let step = c.in-Some.ensures.steps.0 in
    record {
      parts = c.in_ok-add.ensures.parts;
      full = c.add.ensures.full ∙ c.loop-cell.invariant.full;
      ended = All-rest (λ d. IsEnded g.N.Actor.transition g.N.Member.first g.R.RunName.script c.args.parts.full d.journal.place d.journal.moments) c.in-Some.cell (into_iter_items c.next.new.self) _
          step c.loop-cell.invariant.ended;
      count = let one = c.in_ok-add.ensures.count in let less = ap length step in let was = c.loop-cell.invariant.count in omega arith;
      front = λ k x at.
          subst (λ (js : Seq (Seq Moment)). slice_get js k ≡ Some x) (sym c.in_ok-add.ensures.journal)
          (get_front c.loop-cell.parts.journals.items c.in-Some.cell.journal.moments x k (c.loop-cell.invariant.front k x at));
    }

pub add-requires-clause-ended : goal.add-requires-clause-ended
add-requires-clause-ended g c =
    subst (λ b. IsEnded g.N.Actor.transition g.N.Member.first g.R.RunName.script b c.in-Some.cell.journal.place c.in-Some.cell.journal.moments) (sym c.loop-cell.invariant.full)
    (All-head (λ d. IsEnded g.N.Actor.transition g.N.Member.first g.R.RunName.script c.args.parts.full d.journal.place d.journal.moments) c.in-Some.cell (into_iter_items c.next.new.self)
    (All-same (λ d. IsEnded g.N.Actor.transition g.N.Member.first g.R.RunName.script c.args.parts.full d.journal.place d.journal.moments) _ _ (sym c.in-Some.ensures.steps.0) c.loop-cell.invariant.ended))
