-- The block's numbers, its version and its value fit, each by its type.
use Rattle.token_client.specs.State.{held_of}
use Rattle.client_call.proofs.fitting.prove_put_fits.Goals as goal
use Rattle.client_call.proofs.Fitted.{put_fits_so}

pub returns : goal.returns
returns c =
    put_fits_so c.args.block (held_of c.args.tokens.now.blocks c.args.block) c.args.value.now c.prove_word_fits.ensures c.prove_word_fits-2.ensures c.requires
    c.prove_value_fits.ensures
