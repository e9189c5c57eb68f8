use Rattle.token_law.proofs.Laws.{one_owner, active_promised, holdings_believed, grants_believed, nobody_holds}
use Rattle.token_law.proofs.tokens_keep_their_word.Goals as goal

pub returns : goal.returns
returns c = record {
  one_owner = one_owner;
  promised = active_promised;
  believed = holdings_believed;
  acceptable = grants_believed;
  nobody = nobody_holds;
}
