use Rattle.std.proofs.Common.{◌≡◌, ◌∙◌, ap, sym, refl, length, Some, arith}
use Rattle.std.specs.Prelude.{slice_get}
use Rattle.std.proofs.lemmas.Option.{slice_get_read}
use Rattle.wire_msg.specs.declared.packet.Packet.{Packet}
use Rattle.world_base.specs.Cluster.{place_of}
use Rattle.live_links.specs.Ends.{IsFor}
use Rattle.live_links.proofs.Pushing.{pushes_one, sends_at, sends_nowhere, sends_past}
use Rattle.live_links.proofs.ends.push_to.Goals as goal

pub returns-in-None : goal.returns-in-None
returns-in-None c =
    sends_nowhere c.args.cluster c.args.letter c.args.ends.now.items
    (ap (λ (p : Packet). place_of c.args.cluster p.to) (sym c.as_packet.ensures) ∙ sym c.place.ensures ∙ c.in-None.is)

pub returns-then-place-len : goal.returns-then-place-len
returns-then-place-len c =
    let ends = c.args.ends.now.items in
    let i = c.in-Some.place in
    let x = c.index_mut.result.now in
    let at : IsFor c.args.cluster i c.args.letter =
    ap (λ (p : Packet). place_of c.args.cluster p.to) (sym c.as_packet.ensures) ∙ sym c.place.ensures ∙ c.in-Some.is
    in
    let known = c.args.ends.now.ok.0 in
    let end = c.len.ensures in
    let test = c.if-place-len.true in
    let there : slice_get ends i ≡ Some x = slice_get_read ends (length ends) i x refl (omega arith) c.index_mut.ensures.value in
    sends_at c.args.cluster c.args.letter ends i x c.push_on.new.end at there
    (pushes_one c.args.cluster c.args.letter i x c.push_on.new.end at c.push_on.ensures.same c.push_on.ensures.room c.push_on.ensures.pushed)

pub returns-else-place-len : goal.returns-else-place-len
returns-else-place-len c =
    let ends = c.args.ends.now.items in
    let i = c.in-Some.place in
    let at : IsFor c.args.cluster i c.args.letter =
    ap (λ (p : Packet). place_of c.args.cluster p.to) (sym c.as_packet.ensures) ∙ sym c.place.ensures ∙ c.in-Some.is
    in
    let known = c.args.ends.now.ok.0 in
    let end = c.len.ensures in
    let test = c.if-place-len.false in
    sends_past c.args.cluster c.args.letter ends i at (omega arith)
