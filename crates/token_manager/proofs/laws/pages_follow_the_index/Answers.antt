use Rattle.slot_beliefs.proofs.Counting.{pages-block_index_merge, pages-pages_clean}
use Rattle.token_manager.proofs.laws.pages_follow_the_index.Goals as goal

pub returns-clause-merged : goal.returns-clause-merged
returns-clause-merged c = pages-block_index_merge

pub returns-clause-cleaned : goal.returns-clause-cleaned
returns-clause-cleaned c = pages-pages_clean
