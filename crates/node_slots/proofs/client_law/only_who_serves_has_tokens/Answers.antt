use Rattle.node_slots.proofs.client_law.Unserving.{says_nothing, takes_nothing}
use Rattle.node_slots.proofs.client_law.only_who_serves_has_tokens.Goals as goal

pub returns : goal.returns
returns c = record {
  says_nothing = says_nothing;
  takes_nothing = takes_nothing;
}
