use Rattle.std.proofs.Common.{◌≡◌, drop}
use Rattle.stripe_cleaner.specs.Promises.{promised_of}
use Rattle.stripe_cleaner.proofs.promises.promised_of.Given as goal

-- the slots to come, on the promises so far, give what all give
abbrev pub invariant-loop-news : goal.invariant-loop-news
invariant-loop-news l = promised_of (drop l.news-index l.slots) l.promises ≡ promised_of l.slots l.promised
