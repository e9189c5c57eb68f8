use Rattle.std.proofs.Common.{◌≡◌, refl, subst, ℕ, length, Some, arith, inl, inr}
use Rattle.std.specs.Prelude.{slice_get}
use Rattle.std.proofs.lemmas.Option.{slice_get_read, slice_get_within}
use Rattle.journals.proofs.Gets.{below_or_at}
use Rattle.live_links.proofs.Looks.{ins_set, known_before, outs_set, pairs_still}
use Rattle.live_links.proofs.look.look_row.Goals as goal

pub look-requires-clause-within : goal.look-requires-clause-within
look-requires-clause-within c =
    let i = c.loop-from.invariant in
    let now = pairs_still c.args.place c.args.ends.now.items c.args.outs.now.items c.loop-from.ends.items c.loop-from.outs.items i.ends i.outs c.requires in
    let outs = c.loop-from.outs.items in
    let count = now.count in
    let len = i.ends.0 in
    let known = c.args.ends.now.ok.0 in
    let end = c.len-from-end.ensures in
    let test = c.loop-from-test.true in
    let x = c.index_mut.result.now in
    now.within c.loop-from.from x (slice_get_read outs (length outs) c.loop-from.from x refl (omega arith) c.index_mut.ensures.value)

pub look-requires-clause-pair : goal.look-requires-clause-pair
look-requires-clause-pair c o at =
    let i = c.loop-from.invariant in
    let now = pairs_still c.args.place c.args.ends.now.items c.args.outs.now.items c.loop-from.ends.items c.loop-from.outs.items i.ends i.outs c.requires in
    let outs = c.loop-from.outs.items in
    let ends = c.loop-from.ends.items in
    let count = now.count in
    let len = i.ends.0 in
    let known = c.args.ends.now.ok.0 in
    let end = c.len-from-end.ensures in
    let test = c.loop-from-test.true in
    let x = c.index_mut.result.now in
    let y = c.index_mut-in-loop-from.result.now in
    now.pairs c.loop-from.from y x o (slice_get_read ends (length ends) c.loop-from.from y refl (omega arith) c.index_mut-in-loop-from.ensures.value)
    (slice_get_read outs (length outs) c.loop-from.from x refl (omega arith) c.index_mut.ensures.value) at

pub loop-from-preserved : goal.loop-from-preserved
loop-from-preserved c =
    let i = c.loop-from.invariant in
    let now = pairs_still c.args.place c.args.ends.now.items c.args.outs.now.items c.loop-from.ends.items c.loop-from.outs.items i.ends i.outs c.requires in
    let outs = c.loop-from.outs.items in
    let ends = c.loop-from.ends.items in
    let count = now.count in
    let len = i.ends.0 in
    let known = c.args.ends.now.ok.0 in
    let end = c.len-from-end.ensures in
    let test = c.loop-from-test.true in
    let x = c.index_mut.result.now in
    let y = c.index_mut-in-loop-from.result.now in
    let at_y : slice_get ends c.loop-from.from ≡ Some y = slice_get_read ends (length ends) c.loop-from.from y refl (omega arith) c.index_mut-in-loop-from.ensures.value in
    let at_x : slice_get outs c.loop-from.from ≡ Some x = slice_get_read outs (length outs) c.loop-from.from x refl (omega arith) c.index_mut.ensures.value in
    record {
      ends = ins_set c.args.ends.now.items ends c.loop-from.from y c.look.new.end i.ends at_y c.look.ensures.end;
      outs = outs_set c.args.outs.now.items outs c.loop-from.from x c.look.new.self i.outs at_x c.look.ensures.outs;
      known = λ p d row o l lt at_d at_row at_o found. elim (below_or_at p c.loop-from.from lt) [
        | inl less ↦ i.known p d row o l less at_d at_row at_o found
        | inr same ↦
            known_before c.args.place c.args.ends.now.items c.args.outs.now.items ends outs i.ends i.outs c.loop-from.from y x at_y at_x
            (now.within c.loop-from.from x at_x) c.look.ensures.known d row o l
            (subst (λ (k : ℕ). slice_get c.args.ends.now.items k ≡ Some d) same at_d) (subst (λ (k : ℕ). slice_get c.args.outs.now.items k ≡ Some row) same at_row) at_o found
      ];
    }

pub returns-clause-known : goal.returns-clause-known
returns-clause-known c p d row o l at_d at_row at_o found =
    let i = c.loop-from.invariant in
    let here = slice_get_within c.args.ends.now.items p d at_d in
    let known = c.args.ends.now.ok.0 in
    let end = c.len-from-end.ensures in
    let test = c.loop-from-test.false in
    i.known p d row o l (omega arith) at_d at_row at_o found
