-- The limits that a run keeps, each stated once.
use Rattle.std.specs.Prelude.{ℕ, ◌^◌, ◌-◌, List, [], ◌∷◌}

-- the most bytes that the value of a block may have
abbrev pub max_value : ℕ
max_value = 8192

-- how many bytes of a file one block of it holds
abbrev pub file_block : ℕ
file_block = 4096

-- how many blocks one segment holds at most
abbrev pub segment_blocks : ℕ
segment_blocks = 24

-- how many items a script may have
abbrev pub max_lines : ℕ
max_lines = 20000

-- how many bytes a script or the text of a file may have
abbrev pub max_bytes : ℕ
max_bytes = 1048576

-- how many bytes one call writes to a file or reads of it at most
abbrev pub max_text : ℕ
max_text = 65536

-- the most packets that are delivered for one line of a script, and that a line may lose, repeat or let through
abbrev pub max_deliveries : ℕ
max_deliveries = 20000

-- the greatest number of a u32
abbrev pub u32_end : ℕ
u32_end = 2 ^ 32 - 1

-- the greatest number of a u64
abbrev pub u64_end : ℕ
u64_end = 2 ^ 64 - 1

-- how far below its type's end each counter of a node stands before the node takes an event
abbrev pub counter_room : ℕ
counter_room = 65536

-- how many clients a run may have
abbrev pub most_clients : ℕ
most_clients = 8

-- and how many managers
abbrev pub most_managers : ℕ
most_managers = 4

-- how many slots the index has
abbrev pub slot_count : ℕ
slot_count = 8

-- the slots of the index
abbrev pub all_slots : List ℕ
all_slots = 0 ∷ 1 ∷ 2 ∷ 3 ∷ 4 ∷ 5 ∷ 6 ∷ 7 ∷ []

-- how many logs say where blocks lie: the clients', and the cleaner's, which is the last of them
abbrev pub block_logs : ℕ
block_logs = 9

-- how many logs there are: behind those stand the managers'
abbrev pub log_count : ℕ
log_count = 13
