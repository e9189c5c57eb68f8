-- What a client is to give up.
use Rattle.std.specs.Prelude.{◌≡◌, true, is_some}
use Rattle.client_serving.specs.declared.serving.Serving.{Serving}
use Rattle.client_serving.specs.Flights.{held_at}
use Rattle.token_client.specs.Held.{is_dirty}
use Rattle.xfs_base.specs.declared.block.BlockId.{BlockId}
use Rattle.node_slots.specs.client_law.Events.{HoldsAfterAnyEvents}

-- A block of which a recall is put off is dirty.
abbrev pub GivesOnlyDirty : Serving → Type 0
GivesOnlyDirty s = (block : BlockId) → is_some (held_at s block).giving ≡ true → is_dirty (held_at s block) ≡ true

-- Between events a recall is put off of dirty blocks alone: a clean block was given up in the event in which it became clean.
abbrev pub PutsOffWhatIsDirty : Type 0
PutsOffWhatIsDirty = HoldsAfterAnyEvents GivesOnlyDirty
