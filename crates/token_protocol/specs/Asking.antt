-- Asking for a mode, and giving up asking.
use Rattle.std.specs.Prelude.{◌≡◌, ℕ, ◌<◌, ◌≤◌, ◌∷◌}
use Rattle.token_protocol.specs.Basics.{put}
use Rattle.token_protocol.specs.World.{World}

-- A serving client that holds less than it needs asks under a request number that it has never used in this incarnation; a want that was open is
-- let go. Shown by the client's transitions that begin or resume a block call. The cleaner, which is member 0, asks for no block.
pub record MayAsk (w : World) (c : ℕ) (mode : ℕ) (request : ℕ) : Type 0 where
  pub client : 0 < c
  pub serving : (w.client c).serving ≡ 1
  pub some : 0 < mode
  pub upto_own : mode ≤ 2
  pub less : (w.client c).mode < mode
  pub unused : (w.client c).request < request

abbrev pub asks : World → ℕ → ℕ → ℕ → ℕ → World
asks w c mode request end =
    let x = w.client c in
    record w {
      client = put w.client c (record x { want = mode; request = request });
      wants = record { client = c; incarnation = x.incarnation; request = request; mode = mode; end = end } ∷ w.wants;
    }

-- A client with an open want asks again. Shown by the client's transitions for a tick and for news of another manager.
pub record MayAskAgain (w : World) (c : ℕ) : Type 0 where
  pub open_want : 0 < (w.client c).want

abbrev pub asks_again : World → ℕ → ℕ → World
asks_again w c end =
    let x = w.client c in
    record w { wants = record { client = c; incarnation = x.incarnation; request = x.request; mode = x.want; end = end } ∷ w.wants }

-- A client lets its want go, or its fetch. Both are always allowed: a call that is given up, a place that can't be read, a Recall while fetching.
abbrev pub drops_want : World → ℕ → World
drops_want w c = let x = w.client c in record w { client = put w.client c (record x { want = 0 }) }

abbrev pub drops_fetch : World → ℕ → World
drops_fetch w c = let x = w.client c in record w { client = put w.client c (record x { fetching = 0 }) }
