use Rattle.std.proofs.Common.{◌≡◌, [], ◌∙◌, ◌+◌, inl, inr, sym, ap, subst, ℕ, length, Some, arith}
use Rattle.std.specs.Prelude.{slice_get}
use Rattle.std.proofs.lemmas.Option.{slice_get_within}
use Rattle.std.proofs.lemmas.List.Elements.{All-push, All-same}
use Rattle.journals.proofs.Gets.{get_snoc}
use Rattle.live_run.proofs.Begun.{All-reverse, front_last, front_less, get_reverse, ins_of, one_less, outs_of, unused_of}
use Rattle.live_run.proofs.cells.first_cells.Goals as goal

pub loop-preserved : goal.loop-preserved
loop-preserved g c =
    let i = c.loop.invariant in
    record {
      outs = front_less c.loop.outs.items c.pop_last.new.all.items c.args.outs.items c.in-Some.row i.outs c.in-Some.ensures;
      ins = front_less c.loop.ins.items c.pop_last-in-loop.new.all.items c.args.ins.items c.in-Some-pop_last.ends i.ins c.in-Some-pop_last.ensures;
      count =
          let a = one_less c.loop.outs.items c.pop_last.new.all.items c.in-Some.row c.in-Some.ensures in
          let b = one_less c.loop.ins.items c.pop_last-in-loop.new.all.items c.in-Some-pop_last.ends c.in-Some-pop_last.ensures in
          let same = i.count in
          omega arith;
      made =
          let more = one_less c.push.new.self.items c.loop.cells.items c.in_ok-cell.cell c.in_ok-push.ensures.items in
          let was = i.made in
          omega arith;
      left =
          let less = one_less c.loop.outs.items c.pop_last.new.all.items c.in-Some.row c.in-Some.ensures in
          let was = i.left in
          omega arith;
      fresh =
          All-same (λ d. d.journal.moments ≡ []) c.push.new.self.items _ c.in_ok-push.ensures.items
          (All-push (λ d. d.journal.moments ≡ []) c.loop.cells.items c.in_ok-cell.cell i.fresh c.in_ok-cell.ensures.empty);
      each = λ k d got.
          let less = one_less c.loop.outs.items c.pop_last.new.all.items c.in-Some.row c.in-Some.ensures in
          let a = one_less c.loop.ins.items c.pop_last-in-loop.new.all.items c.in-Some-pop_last.ends c.in-Some-pop_last.ensures in
          let same = i.count in
          let made = i.made in
          let left = i.left in
          let new = c.in_ok-cell.cell in
          let outs = front_last c.loop.outs.items c.pop_last.new.all.items c.args.outs.items c.in-Some.row i.outs c.in-Some.ensures in
          let ins = front_last c.loop.ins.items c.pop_last-in-loop.new.all.items c.args.ins.items c.in-Some-pop_last.ends i.ins c.in-Some-pop_last.ensures in
          let len = c.len.ensures in
          let known = c.pop_last.new.all.ok.0 in
          let place : new.journal.place ≡ length c.pop_last.new.all.items = let at = c.in_ok-cell.ensures.place in omega arith in
          let place_in : new.journal.place ≡ length c.pop_last-in-loop.new.all.items = omega arith in
          elim (get_snoc c.loop.cells.items new d k (ap (λ ds. slice_get ds k) (sym c.in_ok-push.ensures.items) ∙ got)) [
            | inl before ↦ i.each k d before
            | inr last ↦
                let at = last.0 in
                subst (λ e. (e.journal.place + k + 1 ≡ c.args.count) × (slice_get c.args.outs.items e.journal.place ≡ Some e.outs) × (slice_get c.args.ins.items e.journal.place ≡ Some e.ins)) last.1
                (omega arith, ap (slice_get c.args.outs.items) place ∙ outs ∙ ap Some (sym c.in_ok-cell.ensures.outs), ap (slice_get c.args.ins.items) place_in ∙ ins ∙ ap Some (sym c.in_ok-cell.ensures.ins))
          ];
    }

pub start-requires-clause-within : goal.start-requires-clause-within
start-requires-clause-within g c =
    let less = one_less c.loop.outs.items c.pop_last.new.all.items c.in-Some.row c.in-Some.ensures in
    let at = front_last c.loop.outs.items c.pop_last.new.all.items c.args.outs.items c.in-Some.row c.loop.invariant.outs c.in-Some.ensures in
    let within = slice_get_within c.args.outs.items (length c.pop_last.new.all.items) c.in-Some.row at in
    let whole = c.requires.links.outs_count in
    let count = c.requires.count in
    let place : c.len.result ≡ length c.pop_last.new.all.items = let len = c.len.ensures in let known = c.pop_last.new.all.ok.0 in omega arith in
    omega arith

pub start-requires-clause-outs : goal.start-requires-clause-outs
start-requires-clause-outs g c =
    let at = front_last c.loop.outs.items c.pop_last.new.all.items c.args.outs.items c.in-Some.row c.loop.invariant.outs c.in-Some.ensures in
    let place : length c.pop_last.new.all.items ≡ c.len.result = let len = c.len.ensures in let known = c.pop_last.new.all.ok.0 in omega arith in
    outs_of c.args.count c.args.outs.items g.R.RunName.outs c.args.ins.items c.requires.links c.requires.outs c.len.result c.in-Some.row
    (subst (λ (k : ℕ). slice_get c.args.outs.items k ≡ Some c.in-Some.row) place at)

pub start-requires-clause-ins : goal.start-requires-clause-ins
start-requires-clause-ins g c =
    let at = front_last c.loop.ins.items c.pop_last-in-loop.new.all.items c.args.ins.items c.in-Some-pop_last.ends c.loop.invariant.ins c.in-Some-pop_last.ensures in
    let a = one_less c.loop.outs.items c.pop_last.new.all.items c.in-Some.row c.in-Some.ensures in
    let b = one_less c.loop.ins.items c.pop_last-in-loop.new.all.items c.in-Some-pop_last.ends c.in-Some-pop_last.ensures in
    let same = c.loop.invariant.count in
    let place : length c.pop_last-in-loop.new.all.items ≡ c.len.result = let len = c.len.ensures in let known = c.pop_last.new.all.ok.0 in omega arith in
    ins_of c.args.count c.args.outs.items g.R.RunName.outs c.args.ins.items c.requires.links c.requires.outs c.len.result c.in-Some-pop_last.ends
    (subst (λ (k : ℕ). slice_get c.args.ins.items k ≡ Some c.in-Some-pop_last.ends) place at)

pub start-requires-clause-unused : goal.start-requires-clause-unused
start-requires-clause-unused g c =
    let at = front_last c.loop.outs.items c.pop_last.new.all.items c.args.outs.items c.in-Some.row c.loop.invariant.outs c.in-Some.ensures in
    unused_of c.args.count c.args.outs.items g.R.RunName.outs c.args.ins.items c.requires.links c.requires.outs (length c.pop_last.new.all.items) c.in-Some.row at

pub returns-clause-fresh : goal.returns-clause-fresh
returns-clause-fresh g c =
    All-same (λ d. d.journal.moments ≡ []) c.turned_round.result.items _ c.turned_round.ensures.order
    (All-reverse (λ d. d.journal.moments ≡ []) c.loop.cells.items c.loop.invariant.fresh)

pub returns-clause-each : goal.returns-clause-each
returns-clause-each g c p d got =
    let i = c.loop.invariant in
    let there = get_reverse c.loop.cells.items p d (ap (λ ds. slice_get ds p) (sym c.turned_round.ensures.order) ∙ got) in
    let here = i.each there.0 d there.2 in
    let made = i.made in
    let from_end = there.1 in
    let from_front = here.0 in
    let place : d.journal.place ≡ p = omega arith in
    (place, ap (slice_get c.args.outs.items) (sym place) ∙ here.1, ap (slice_get c.args.ins.items) (sym place) ∙ here.2)
