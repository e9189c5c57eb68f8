use Rattle.std.proofs.Common.{◌≡◌, drop}
use Rattle.std.specs.Prelude.{fold}
use Rattle.log_owner.specs.Promised.{promise}
use Rattle.log_owner.proofs.promised.Promised.of.Given as goal

-- with what is to come it is what all slots say
abbrev pub invariant-loop-news : goal.invariant-loop-news
invariant-loop-news l = fold promise l.promised (drop l.news-index l.slots) ≡ fold promise l.initial.promised l.slots
