-- What a shelf makes of a disk in memory, call by call up to the first that fails: how it opens the disk, and how it adds a record.
use Rattle.std.specs.Prelude.{ℕ, zero, suc, ◌+◌, nat_lt, ◌==◌, if◌then◌else◌, List, [], ◌∷◌, ◌++◌, length, take, drop}
use Rattle.std.specs.Int.{w32, from_be_bytes}
use Rattle.disk_shelf.specs.declared.record.Record.{Record}
use Rattle.disk_shelf.specs.Deeds.{images}
use Rattle.disk_shelf.specs.Deeds.Deed.{Write, Sync}
use Rattle.disk_shelf.specs.MemDisk.{Drive, acted, started}
use Rattle.disk_shelf.specs.Records.{text}

-- what it reads
abbrev pub drive_bytes : Drive → List ℕ
drive_bytes d = (images d.deeds).read

-- the offset of the first gate that isn't open: behind an open one stand a kind, a length, and so many bytes
unfoldable pub gate_after : ℕ → List ℕ → ℕ
gate_after skipped [] = 0
gate_after (suc skipped) (b ∷ bytes) = suc (gate_after skipped bytes)
gate_after zero (b ∷ bytes) = if b == 1 then suc (gate_after (5 + from_be_bytes w32 (take 4 (drop 1 bytes))) bytes) else 0

abbrev pub gate_of : Drive → ℕ
gate_of d = gate_after 0 (drive_bytes d)

-- what comes next, unless the disk stopped
abbrev pub then_on : (Drive → Drive) → Drive → Drive
then_on next d = if d.stopped then d else next d

-- a write and a sync
abbrev pub put_on : ℕ → List ℕ → Drive → Drive
put_on at piece d = then_on (λ e. acted e Sync) (acted d (Write at piece))

-- a record behind the closed gate, with a closed gate behind it, and then a 1 over the first of the two
abbrev pub with_record : Record → Drive → Drive
with_record r d = then_on (put_on (gate_of d) (1 ∷ [])) (put_on (gate_of d + 1) (text r ++ 0 ∷ []) d)

-- a sync, and the first gate where there is one byte at most
abbrev pub opened : Drive → Drive
opened d = if nat_lt 1 (length (drive_bytes (acted d Sync))) then acted d Sync else put_on 0 (0 ∷ []) (acted d Sync)

-- started, whatever stopped it, and opened; no stop waits
abbrev pub reopened : Drive → Drive
reopened d = started (opened (started d))
