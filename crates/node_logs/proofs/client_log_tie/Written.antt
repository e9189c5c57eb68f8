-- A log that starts behind an end that fits, over groups whose ids fit, stays written, as long as what is put in it fits.
use Rattle.std.proofs.Common.{[], sym, subst, arith}
use Rattle.xfs_base.proofs.Alls.{all_weaker}
use Rattle.client_log.specs.declared.input.In.{In as Input}
use Rattle.client_log.specs.declared.input.In.TheVariants.{Put, Parts, Maps}
use Rattle.log_law.proofs.Texts.{ItemsFit, items_fit}
use Rattle.node_logs.specs.client_log_tie.Texts.{InputFits, WhatFitsStaysWritten}
use Rattle.node_logs.proofs.client_log_tie.Staying.{Takes, flies_written}

-- it writes no Parts but none
takes : (i : Input) → InputFits i → Takes i
takes (Put block entry value) fits = fits
takes (Parts items) none = λ can. subst ItemsFit (sym none) (items_fit [] (omega arith) tt)
takes (Maps m) fits = fits
takes _ fits = tt

pub what_fits_stays_written : WhatFitsStaysWritten
what_fits_stays_written log inc end m fact small fits ids later all =
    flies_written log inc end m fact small fits ids later (all_weaker InputFits Takes takes later all)
