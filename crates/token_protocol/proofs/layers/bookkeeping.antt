-- Layer 1, bookkeeping: who serves, what packets name, and that stamps tell decisions apart. It stands on nothing.
pub mod Serving
pub mod Asking
pub mod Offering
pub mod Stamps
pub mod Awaiting
pub mod Promising
use Rattle.std.proofs.Common.{ℕ, Bool}
use Rattle.token_protocol.specs.World.{World, start}
use Rattle.token_protocol.specs.Step.{Step}

pub record Bookkeeping (w : World) : Type 0 where
  pub serving : Serving.Serving w
  pub asking : Asking.Asking w
  pub offering : Offering.Offering w
  pub stamps : Stamps.Stamps w
  pub awaiting : Awaiting.Awaiting w
  pub promising : Promising.Promising w

-- Each group is kept by each step, given the groups and layers before it alone.
pub keeps : (logs : Bool) (w v : World) → Step logs w v → Bookkeeping w → Bookkeeping v
keeps logs w v step book = record {
  serving = Serving.keeps logs w v step book.serving;
  asking = Asking.keeps logs w v step book.serving book.asking;
  offering = Offering.keeps logs w v step book.asking book.offering;
  stamps = Stamps.keeps logs w v step book.serving book.stamps;
  awaiting = Awaiting.keeps logs w v step book.stamps book.awaiting;
  promising = Promising.keeps logs w v step book.serving book.promising;
}

pub begins : (n : ℕ) → Bookkeeping (start n)
begins n = record {
  serving = Serving.begins n;
  asking = Asking.begins n;
  offering = Offering.begins n;
  stamps = Stamps.begins n;
  awaiting = Awaiting.begins n;
  promising = Promising.begins n;
}
