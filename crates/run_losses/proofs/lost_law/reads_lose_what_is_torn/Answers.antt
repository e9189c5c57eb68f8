use Rattle.run_losses.proofs.lost_law.Losing.{reads_lose}
use Rattle.run_losses.proofs.lost_law.reads_lose_what_is_torn.Goals as goal

pub returns : goal.returns
returns c = record {
  earned = reads_lose c.fetches_lose_what_is_torn.ensures.earned c.what_is_gone_stood.ensures.stood c.grants_lead_to_what_stands.ensures.stood
      c.calls_read_what_was_filed.ensures.filed c.calls_read_what_was_filed.ensures.stored;
}
