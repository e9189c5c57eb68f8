-- Using the block: writing, reading, syncing, and the cache's eviction.
use Rattle.std.specs.Prelude.{◌≡◌, ℕ, suc, ◌<◌, ◌≤◌, ◌==◌, if◌then◌else◌, max}
use Rattle.token_protocol.specs.Basics.{put}
use Rattle.token_protocol.specs.World.{World, Clean}

-- An owner writes. Shown by the client's transition for a block call that meets mode own.
pub record MayWrite (w : World) (c : ℕ) : Type 0 where
  pub owns : (w.client c).mode ≡ 2

abbrev pub writes : World → ℕ → ℕ → World
writes w c value =
    let x = w.client c in
    record w {
      client = put w.client c (record x { version = suc x.version; value = value });
      newest = suc w.newest;
      value_at = put w.value_at (suc w.newest) value;
      writer = put w.writer (suc w.newest) c;
      last_writer = c;
    }

-- A holder reads what it holds. Shown by the client's transition for a block call that meets a mode.
pub record MayRead (w : World) (c : ℕ) : Type 0 where
  pub holds : 0 < (w.client c).mode

-- What someone else wrote is pinned by being read.
abbrev pub reads : World → ℕ → World
reads w c = record w { pinned = if w.writer w.newest == c then w.pinned else max w.pinned w.newest }

-- A sync answers once nothing is dirty: it pins a version that this client wrote. Shown by the client's transition that ends a sync.
pub record MaySync (w : World) (c : ℕ) (version : ℕ) : Type 0 where
  pub serving : (w.client c).serving ≡ 1
  pub clean : Clean w c
  pub known : version ≤ w.newest
  pub mine : w.writer version ≡ c

abbrev pub syncs : World → ℕ → World
syncs w version = record w { pinned = max w.pinned version }

-- The cache evicts a clean block. Shown by the client's choice of a victim: only clean blocks are in the order of use.
pub record MayEvict (w : World) (c : ℕ) : Type 0 where
  pub victim : Clean w c

abbrev pub evicts : World → ℕ → World
evicts w c = let x = w.client c in record w { client = put w.client c (record x { mode = 0 }) }
