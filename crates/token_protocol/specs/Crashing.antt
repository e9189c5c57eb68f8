-- Clients that fall and return, and logs that lose what they held.
use Rattle.std.specs.Prelude.{◌≡◌, ℕ, suc, ◌<◌, ◌≤◌, ◌==◌, nat_lt, if◌then◌else◌, max}
use Rattle.token_protocol.specs.Basics.{put}
use Rattle.token_protocol.specs.Entry.{no_row}
use Rattle.token_protocol.specs.Client.{Client}
use Rattle.token_protocol.specs.World.{World, Dirty, Clean, flying_row}

-- What a crash leaves of a client: its incarnation and its promise.
abbrev pub down : Client → Client
down x = record x { serving = 0; mode = 0; stamp = 0; want = 0; version = 0; value = 0; settled = 0; fetching = 0 }

-- A client falls with the block dirty. Shown by the client's crash: the Fell names the block.
pub record MayCrashDirty (w : World) (c : ℕ) : Type 0 where
  pub dirty : Dirty w c

-- The Fell names the settled version, and the version in flight or else the settled one.
abbrev pub crashes_dirty : World → ℕ → World
crashes_dirty w c =
    let x = w.client c in
    record w {
      client = put w.client c (down x);
      fallen = put w.fallen c 1;
      cut_low = put w.cut_low c x.settled;
      cut_high = put w.cut_high c (max x.settled (flying_row w c).version);
    }

-- A client falls with the block clean. Shown by the client's crash: the Fell does not name the block.
pub record MayCrashClean (w : World) (c : ℕ) : Type 0 where
  pub clean : Clean w c

abbrev pub crashes_clean : World → ℕ → World
crashes_clean w c = record w { client = put w.client c (down (w.client c)) }

-- A client that is down returns in a later incarnation, with a promise at least its old one.
-- Shown by the client's restart, and by the registry's Welcome, which no registry sends with an epoch below one that it gave out before.
pub record MayRestart (w : World) (c : ℕ) (incarnation : ℕ) (promised : ℕ) : Type 0 where
  pub member : c < w.members
  pub down : (w.client c).serving ≡ 0
  pub later : (w.client c).incarnation < incarnation
  pub promise : (w.client c).promised ≤ promised

abbrev pub back : Client → ℕ → ℕ → Client
back x incarnation promised = record x { serving = 1; incarnation = incarnation; promised = promised; request = 0 }

-- The tail is adopted: the segment in flight is filed, the history is cut to what it says, and pinned there.
abbrev pub restarts_adopting : World → ℕ → ℕ → ℕ → World
restarts_adopting w c incarnation promised =
    let row = flying_row w c in
    let above = nat_lt w.join_version row.version in
    record w {
      client = put w.client c (back (w.client c) incarnation promised);
      flight = put w.flight c 0;
      end = put w.end c (suc (w.end c));
      newest = if w.fallen c == 1 then w.cut_high c else w.newest;
      pinned = if w.fallen c == 1 then w.cut_high c else w.pinned;
      fallen = put w.fallen c 0;
      join_version = if above then row.version else w.join_version;
      join_log = if above then c else w.join_log;
      join_segment = if above then suc (w.end c) else w.join_segment;
    }

-- The tail is discarded, or there is none: the history is cut to what was settled, and pinned there.
abbrev pub restarts_discarding : World → ℕ → ℕ → ℕ → World
restarts_discarding w c incarnation promised =
    record w {
      client = put w.client c (back (w.client c) incarnation promised);
      flight = put w.flight c 0;
      rows = put w.rows c (put (w.rows c) (suc (w.end c)) no_row);
      newest = if w.fallen c == 1 then w.cut_low c else w.newest;
      pinned = if w.fallen c == 1 then w.cut_low c else w.pinned;
      fallen = put w.fallen c 0;
    }

-- The logs, the history and what the manager has of them become those of any other world: a doubtful restart, more stores lost than the code bears.
-- Only a run whose logs are not trusted has this step.
abbrev pub loses : World → World → World
loses w x =
    record w {
      end = x.end;
      flight = x.flight;
      rows = x.rows;
      newest = x.newest;
      value_at = x.value_at;
      writer = x.writer;
      pinned = x.pinned;
      join_version = x.join_version;
      join_log = x.join_log;
      join_segment = x.join_segment;
      last_writer = x.last_writer;
      owed = x.owed;
      applied = x.applied;
      index = x.index;
    }
