use Rattle.std.proofs.Common.{◌∙◌, refl, ap, length, Some}
use Rattle.std.specs.Prelude.{slice_set}
use Rattle.std.proofs.lemmas.Option.{slice_get_read}
use Rattle.journals.proofs.merging.pop_at.Goals as goal

pub returns-in-None : goal.returns-in-None
returns-in-None c =
    let rests = c.args.rests.now.items in
    slice_get_read rests (length rests) c.args.place c.index_mut-rest.result.now refl c.requires.rests c.index_mut-rest.ensures.value ∙ ap Some c.in-None.ensures.0

pub returns-in-Some : goal.returns-in-Some
returns-in-Some c =
    let rests = c.args.rests.now.items in
    let heads = c.args.heads.now.items in (
      c.pop.new.self,
      slice_get_read rests (length rests) c.args.place c.index_mut-rest.result.now refl c.requires.rests c.index_mut-rest.ensures.value ∙ ap Some c.in-Some.ensures,
      refl,
      ap (slice_set heads c.args.place) c.clock.ensures,
    )
