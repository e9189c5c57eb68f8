-- Where blocks lie, as nodes hear and tell it: an entry says of a block its version, how often the cleaner moved it, and its place.
use Rattle.delta_index.specs.Entries.{no_entry}
use Rattle.xfs_base.specs.declared.block.BlockId.{BlockId}
use Rattle.node_tellings.specs.entry_tie.Told.{Told}

-- of each block it may be told that nothing is known of it
abbrev pub AllowsNothing : Told → Type 0
AllowsNothing told = (block : BlockId) → told block no_entry
