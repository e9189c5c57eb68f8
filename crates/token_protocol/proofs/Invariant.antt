-- The invariant of the token protocol, and the order in which it is proved. Read this file first.
--
-- Seven layers, each kept by every step given the layers before it alone. Within a layer the groups stand in the same order:
-- the lemma `keeps` of a group takes the groups that it depends on, and no other.
--   1. bookkeeping  Serving, Asking, Offering, Stamps, Awaiting, Promising
--   2. tokens       Giving, Reporting, Believing
--   3. crash        Fallen
--   4. logs         Rows, Flight, Behind
--   5. filing       Joined, Index
--   6. content      Versions, Writers, Values
--   7. cleaner      Idle, Empty, Written
-- Layers 1 to 3, and Idle of layer 7, ask no premise on logs, and hold where logs lose what they held. A takeover is a step like any other: what
-- reports must say for it stands in the groups Promising, Reporting, Believing, Fallen and Behind. The cleaner's copies stand in Joined.
-- Each group is one file of `layers/`: its facts, each with its meaning; the steps that want a hint, each a lemma `STEP_keeps_GROUP`; and `keeps`,
-- a clause for each step whose guard is needed, and one for all the others.
use Rattle.std.proofs.Common.{ℕ, Bool, true}
use Rattle.token_protocol.specs.World.{World, start}
use Rattle.token_protocol.specs.Step.{Step, Steps}
use Rattle.token_protocol.specs.Step.Steps.{Done, More}
use Rattle.token_protocol.proofs.layers.bookkeeping as bookkeeping
use Rattle.token_protocol.proofs.layers.bookkeeping.{Bookkeeping}
use Rattle.token_protocol.proofs.layers.tokens as tokens
use Rattle.token_protocol.proofs.layers.tokens.{Tokens}
use Rattle.token_protocol.proofs.layers.crash as crash
use Rattle.token_protocol.proofs.layers.crash.{Crash}
use Rattle.token_protocol.proofs.layers.logs as logs
use Rattle.token_protocol.proofs.layers.logs.{Logs}
use Rattle.token_protocol.proofs.layers.filing as filing
use Rattle.token_protocol.proofs.layers.filing.{Filing}
use Rattle.token_protocol.proofs.layers.content as content
use Rattle.token_protocol.proofs.layers.content.{Content}
use Rattle.token_protocol.proofs.layers.cleaner as cleaner
use Rattle.token_protocol.proofs.layers.cleaner.{Cleaner}
use Rattle.token_protocol.proofs.layers.cleaner.Idle as idle
use Rattle.token_protocol.proofs.layers.cleaner.Idle.{Idle}

-- The invariant of a run whose logs may lose what they held.
pub record Owned (w : World) : Type 0 where
  pub book : Bookkeeping w
  pub tokens : Tokens w
  pub crash : Crash w
  pub idle : Idle w

owned_kept : (trusted : Bool) (w v : World) → Step trusted w v → Owned w → Owned v
owned_kept trusted w v step i = record {
  book = bookkeeping.keeps trusted w v step i.book;
  tokens = tokens.keeps trusted w v step i.book i.tokens;
  crash = crash.keeps trusted w v step i.book i.tokens i.crash;
  idle = idle.keeps trusted w v step i.idle;
}

-- It holds after every list of steps.
pub owned : (trusted : Bool) (n : ℕ) (w : World) → Steps trusted (start n) w → Owned w
owned trusted n w steps = go (start n) w steps (record { book = bookkeeping.begins n; tokens = tokens.begins n; crash = crash.begins n; idle = idle.begins n })
  where
    go : (v u : World) → Steps trusted v u → Owned v → Owned u
    go v u Done i = i
    go v u (More {v = x} steps step) i = owned_kept trusted x u step (go v x steps i)

-- The invariant of a run whose logs keep their word.
pub record Invariant (w : World) : Type 0 where
  pub book : Bookkeeping w
  pub tokens : Tokens w
  pub crash : Crash w
  pub logs : Logs w
  pub filing : Filing w
  pub content : Content w
  pub cleaner : Cleaner w

pub keeps : (w v : World) → Step true w v → Invariant w → Invariant v
keeps w v step i = record {
  book = bookkeeping.keeps true w v step i.book;
  tokens = tokens.keeps true w v step i.book i.tokens;
  crash = crash.keeps true w v step i.book i.tokens i.crash;
  logs = logs.keeps w v step i.book i.tokens i.crash i.logs;
  filing = filing.keeps w v step i.book i.tokens i.crash i.logs i.filing;
  content = content.keeps w v step i.book i.tokens i.crash i.logs i.filing i.content;
  cleaner = cleaner.keeps w v step i.content i.cleaner;
}

pub begins : (n : ℕ) → Invariant (start n)
begins n = record {
  book = bookkeeping.begins n;
  tokens = tokens.begins n;
  crash = crash.begins n;
  logs = logs.begins n;
  filing = filing.begins n;
  content = content.begins n;
  cleaner = cleaner.begins n;
}

-- It holds after every list of steps.
pub always : (n : ℕ) (w : World) → Steps true (start n) w → Invariant w
always n w steps = go (start n) w steps (begins n)
  where
    go : (v u : World) → Steps true v u → Invariant v → Invariant u
    go v u Done i = i
    go v u (More {v = x} steps step) i = keeps x u step (go v x steps i)
