-- A client's log: sealing a segment and settling it.
use Rattle.std.specs.Prelude.{◌≡◌, ℕ, suc, ◌<◌, nat_lt, if◌then◌else◌, max}
use Rattle.token_protocol.specs.Basics.{put}
use Rattle.token_protocol.specs.World.{World, Dirty, flying_row}

-- A client seals its dirty block into the next segment. Shown by the client's transition that seals.
pub record MaySealWith (w : World) (c : ℕ) : Type 0 where
  pub dirty : Dirty w c

abbrev pub seals_with : World → ℕ → World
seals_with w c =
    let x = w.client c in
    record w { flight = put w.flight c 1; rows = put w.rows c (put (w.rows c) (suc (w.end c)) (record { version = x.version; value = x.value })) }

-- A client with nothing in flight seals a segment without this block. Shown by the client's transition that seals.
pub record MaySeal (w : World) (c : ℕ) : Type 0 where
  pub client : 0 < c
  pub serving : (w.client c).serving ≡ 1
  pub none : w.flight c ≡ 0

abbrev pub seals : World → ℕ → World
seals w c = record w { flight = put w.flight c 1 }

-- The segment in flight is stored on its stripe and so is filed. Shown by the client's transition for the last fragment's Stored.
pub record MaySettle (w : World) (c : ℕ) : Type 0 where
  pub serving : (w.client c).serving ≡ 1

abbrev pub settles : World → ℕ → World
settles w c =
    let x = w.client c in
    let row = flying_row w c in
    let above = nat_lt w.join_version row.version in
    record w {
      client = put w.client c (record x { settled = max x.settled row.version });
      flight = put w.flight c 0;
      end = put w.end c (suc (w.end c));
      join_version = if above then row.version else w.join_version;
      join_log = if above then c else w.join_log;
      join_segment = if above then suc (w.end c) else w.join_segment;
    }
