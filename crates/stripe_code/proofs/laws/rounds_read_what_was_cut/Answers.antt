use Rattle.stripe_code.proofs.WhatWasCut.{reads_what_was_cut}
use Rattle.stripe_code.proofs.laws.rounds_read_what_was_cut.Goals as goal

pub returns : goal.returns
returns c = reads_what_was_cut
