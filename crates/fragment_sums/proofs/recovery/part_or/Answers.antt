use Rattle.std.proofs.Common.{None, le_refl, ◌∙◌}
use Rattle.fragment_sums.proofs.Gone.{part_at-get_or}
use Rattle.fragment_sums.proofs.recovery.part_or.Goals as goal

pub returns-in-Some : goal.returns-in-Some
returns-in-Some c = c.in-Some.ensures.lookup.4 (le_refl c.args.place) None ∙ part_at-get_or c.args.parts.now c.args.place

pub returns-in-None : goal.returns-in-None
returns-in-None c = c.requires ∙ c.in-None.ensures.lookup.4 (le_refl c.args.place) None ∙ part_at-get_or c.args.parts.now c.args.place
