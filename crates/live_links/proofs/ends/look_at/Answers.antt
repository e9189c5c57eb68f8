use Rattle.std.proofs.Common.{refl, subst, length}
use Rattle.std.specs.List.{Contains}
use Rattle.std.proofs.lemmas.Option.{slice_get_read}
use Rattle.rtrb.specs.Ring.{sent}
use Rattle.journals.proofs.Gets.{one_there}
use Rattle.live_links.proofs.ends.look_at.Goals as goal

pub returns-clause-known : goal.returns-clause-known
returns-clause-known c o l at found =
    let outs = c.args.outs.now.items in
    let x = c.index_mut.result.now in
    let here = slice_get_read outs (length outs) c.args.place x refl c.requires.within c.index_mut.ensures.value in
    subst (λ p. Contains (sent p) l) (one_there outs c.args.place x o here at) (c.look_one.ensures.known l found)
