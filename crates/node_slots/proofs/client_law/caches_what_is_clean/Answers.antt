use Rattle.node_slots.proofs.client_law.CachingSteps.{caches_just_what_is_clean, copies_only_clean, evicts_only_clean, settles_only_clean}
use Rattle.node_slots.proofs.client_law.CachingThrough.{caches_through_any_event}
use Rattle.node_slots.proofs.client_law.caches_what_is_clean.Goals as goal

pub returns : goal.returns
returns c = record {
  clean = caches_just_what_is_clean;
  evicts = evicts_only_clean;
  copies = copies_only_clean;
  settles = settles_only_clean;
  through = caches_through_any_event;
}
