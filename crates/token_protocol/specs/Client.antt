-- What one client knows of this block.
use Rattle.std.specs.Prelude.{ℕ}
use Rattle.token_protocol.specs.Entry.{Entry, no_entry}

-- Modes are ranks: 0 nothing, 1 copy, 2 own. Flags are 0 or 1. The block is dirty where settled < version.
pub record Client : Type 0 where
  pub serving : ℕ  -- 1 where it serves
  pub incarnation : ℕ  -- counts its restarts
  pub promised : ℕ  -- the epoch of the manager that it listens to
  pub mode : ℕ
  pub stamp : ℕ  -- the turn of its last Grant, Supply or Recall here, 0 where that was of an epoch before the reigning one
  pub want : ℕ  -- the mode of its open want, 0 where none is open
  pub request : ℕ  -- the number of its last want in this incarnation
  pub version : ℕ
  pub value : ℕ
  pub settled : ℕ  -- the version that is filed
  pub fetching : ℕ  -- 1 while it reads the place of `fetch`
  pub fetch : Entry

-- A client at the start, which serves or not.
abbrev pub fresh : ℕ → Client
fresh serving = record {
  serving = serving;
  incarnation = 1;
  promised = 1;
  mode = 0;
  stamp = 0;
  want = 0;
  request = 0;
  version = 0;
  value = 0;
  settled = 0;
  fetching = 0;
  fetch = no_entry;
}
