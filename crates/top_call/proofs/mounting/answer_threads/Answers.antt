use Rattle.top_call.proofs.mounting.answer_threads.Goals as goal

pub returns-in-Live-clause-claim : goal.returns-in-Live-clause-claim
returns-in-Live-clause-claim g c = rw c.in-Live.is c.answer_live.ensures.claim

pub returns-in-Live-clause-mounts : goal.returns-in-Live-clause-mounts
returns-in-Live-clause-mounts g c = rw c.in-Live.is c.answer_live.ensures.no_replies

pub returns-in-Mount-clause-claim : goal.returns-in-Mount-clause-claim
returns-in-Mount-clause-claim g c = rw c.in-Mount.is c.answer_mount.ensures.claim

pub returns-in-Mount-clause-mounts : goal.returns-in-Mount-clause-mounts
returns-in-Mount-clause-mounts g c = rw c.in-Mount.is c.answer_mount.ensures.mounts
