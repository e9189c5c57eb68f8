-- Answering a Recall. As in the 1996 paper (on cache consistency) an owner flushes its changes to its log before it lets go.
use Rattle.std.specs.Prelude.{◌≡◌, ℕ, ◌<◌, ◌∷◌, min}
use Rattle.token_protocol.specs.Basics.{put, In}
use Rattle.token_protocol.specs.Packets.{Recall}
use Rattle.token_protocol.specs.World.{World, Clean}

-- A serving client gives a clean block up to a sent Recall of the manager that it listens to, if that is newer than what it has acted on.
-- Shown by the client's transitions for a Recall of a clean block, and for a settled segment after which a recalled block is clean.
pub record MayGive (w : World) (r : Recall) : Type 0 where
  pub sent : In r w.recalls
  pub serving : (w.client r.client).serving ≡ 1
  pub heard : (w.client r.client).promised ≡ w.epoch
  pub newer : (w.client r.client).stamp < r.stamp
  pub clean : Clean w r.client

abbrev pub gives : World → Recall → ℕ → World
gives w r end =
    let x = w.client r.client in
    record w {
      client = put w.client r.client (record x { mode = min x.mode r.keep; stamp = r.stamp; fetching = 0 });
      gaves = record { client = r.client; stamp = r.stamp; end = end } ∷ w.gaves;
    }

-- A Recall that was answered comes again. Shown by the client's transition for a Recall at its own stamp.
pub record MayGiveAgain (w : World) (r : Recall) : Type 0 where
  pub sent : In r w.recalls
  pub serving : (w.client r.client).serving ≡ 1
  pub heard : (w.client r.client).promised ≡ w.epoch
  pub equal : (w.client r.client).stamp ≡ r.stamp

abbrev pub gives_again : World → Recall → ℕ → World
gives_again w r end = record w { gaves = record { client = r.client; stamp = r.stamp; end = end } ∷ w.gaves }
