use Rattle.std.proofs.Common.{◌≡◌, refl, sym, subst, ℕ, length, Some, arith, inl, inr}
use Rattle.std.specs.Prelude.{slice_get}
use Rattle.std.proofs.lemmas.Option.{slice_get_read, slice_get_within}
use Rattle.journals.proofs.Gets.{below_or_at, has}
use Rattle.live_links.specs.Ends.{KnowsRow}
use Rattle.live_links.proofs.Looks.{all_ins_same, all_ins_set, knows_before, outs_same, outs_then, pairs_still}
use Rattle.live_links.proofs.look.look_all.Goals as goal

pub loop-place-init : goal.loop-place-init
loop-place-init c = record {
  ins = all_ins_same c.args.ins.now.items;
  outs = outs_same c.args.outs.now.items;
  known = λ q ends lt. absurd (omega arith);
}

pub look-requires : goal.look-requires
look-requires c =
    let i = c.loop-place.invariant in
    let known = c.args.ins.now.ok.0 in
    let end = c.len-place-end.ensures in
    let test = c.loop-place-test.true in
    let len = i.ins.0 in
    let ins = c.loop-place.ins.items in
    let x = c.index_mut.result.now in
    let at : slice_get ins c.loop-place.place ≡ Some x = slice_get_read ins (length ins) c.loop-place.place x refl (omega arith) c.index_mut.ensures.value in
    let was = has c.args.ins.now.items c.loop-place.place (omega arith) in
    pairs_still c.loop-place.place was.0 c.args.outs.now.items x c.loop-place.outs.items (i.ins.1 c.loop-place.place was.0 x was.1 at) i.outs (c.requires c.loop-place.place was.0 was.1)

pub loop-place-preserved : goal.loop-place-preserved
loop-place-preserved c =
    let i = c.loop-place.invariant in
    let known = c.args.ins.now.ok.0 in
    let end = c.len-place-end.ensures in
    let test = c.loop-place-test.true in
    let len = i.ins.0 in
    let ins = c.loop-place.ins.items in
    let outs = c.loop-place.outs.items in
    let x = c.index_mut.result.now in
    let at : slice_get ins c.loop-place.place ≡ Some x = slice_get_read ins (length ins) c.loop-place.place x refl (omega arith) c.index_mut.ensures.value in
    record {
      ins = all_ins_set c.args.ins.now.items ins c.loop-place.place x c.look.new.self i.ins at c.look.ensures.ends;
      outs = outs_then c.args.outs.now.items outs c.look.new.outs.items i.outs c.look.ensures.outs;
      known = λ q ends lt at_q. elim (below_or_at q c.loop-place.place lt) [
        | inl less ↦ i.known q ends less at_q
        | inr same ↦
            let here : slice_get c.args.ins.now.items c.loop-place.place ≡ Some ends = subst (λ (k : ℕ). slice_get c.args.ins.now.items k ≡ Some ends) same at_q in
            subst (λ (k : ℕ). KnowsRow k ends c.args.outs.now.items) (sym same)
            (knows_before c.loop-place.place ends c.args.outs.now.items x outs (i.ins.1 c.loop-place.place ends x here at) i.outs c.look.ensures.known)
      ];
    }

pub returns : goal.returns
returns c q ends at =
    let i = c.loop-place.invariant in
    let here = slice_get_within c.args.ins.now.items q ends at in
    let known = c.args.ins.now.ok.0 in
    let end = c.len-place-end.ensures in
    let test = c.loop-place-test.false in
    i.known q ends (omega arith) at
