-- Where blocks lie, as nodes hear and tell it: an entry says of a block its version, how often the cleaner moved it, and its place.
use Rattle.std.specs.Prelude.{◌≡◌, ◌⊎◌, ℕ, List, Contains, Some}
use Rattle.std.specs.List.{AllByRecursion}
use Rattle.delta_index.specs.Entries.{no_entry}
use Rattle.version_model.specs.declared.act.Act.{Act}
use Rattle.wire_msg.specs.declared.body.Body.{Body}
use Rattle.wire_msg.specs.declared.body.Body.TheVariants as body
use Rattle.wire_msg.specs.declared.packet.Do.{Do}
use Rattle.wire_msg.specs.declared.packet.Do.TheVariants.{Begin, Deliver, Tick}
use Rattle.wire_msg.specs.declared.packet.Packet.{Packet}
use Rattle.wire_msg.specs.NodeStep.{NodeStep}
use Rattle.xfs_base.specs.declared.block.BlockId.{BlockId}
use Rattle.xfs_base.specs.declared.entry.Entry.{Entry}
use Rattle.xfs_base.specs.declared.entry.Place.{Place}

-- which entries of which blocks are told
abbrev pub Told : Type 1
Told = BlockId → Entry → Type 0

abbrev pub RowTold : Told → BlockId × Entry → Type 0
RowTold told row = told row.0 row.1

-- each of these rows is told
abbrev pub RowsTold : Told → List (BlockId × Entry) → Type 0
RowsTold told rows = AllByRecursion (RowTold told) rows

-- it is told that this version of the block lies at this place
pub record PlaceTold (told : Told) (block : BlockId) (ver : ℕ) (place : Place) : Type 0 where
  pub hop : ℕ
  pub place_told : told block (record { ver = ver; hop = hop; place = Some place })

-- ---- packets

-- what a grant says that the index holds of the block, each row of deltas, and what a manager answers the cleaner of a block
abbrev pub BodyTold : Told → Body → Type 0
BodyTold told (body.Grant grant) = told grant.block grant.entry
BodyTold told (body.Deltas deltas) = RowsTold told deltas.rows
BodyTold told (body.Live live) = told live.block live.entry
BodyTold told _ = Unit {0}

abbrev pub PacketTold : Told → Packet → Type 0
PacketTold told packet = BodyTold told packet.body

abbrev pub DoTold : Told → Do → Type 0
DoTold told Begin = Unit {0}
DoTold told (Deliver packet) = PacketTold told packet
DoTold told Tick = Unit {0}

-- ---- what filed segments tell

-- of each log and number, what the segment that was filed there says of blocks, and nothing where none was
abbrev pub FiledRows : Type 0
FiledRows = ℕ → ℕ → List (BlockId × Entry)

-- a segment that was filed says this of the block
pub record IsFiled (rows : FiledRows) (block : BlockId) (entry : Entry) : Type 0 where
  pub log : ℕ
  pub seq : ℕ
  pub says : Contains (rows log seq) (block, entry)

-- a filed segment says it of the block, or it is that nothing is known of the block
abbrev pub told_by_rows : FiledRows → Told
told_by_rows rows block entry = IsFiled rows block entry ⊎ (entry ≡ no_entry)

-- no row is missing later
abbrev pub AreMore : FiledRows → FiledRows → Type 0
AreMore rows later = (block : BlockId) (entry : Entry) → IsFiled rows block entry → IsFiled later block entry

-- ---- the law of a kind of node

-- the node holds nothing but what is told, and each packet that it sends tells nothing else
pub record TellsTold {N : Type 0} (Holds : N → Type 0) (told : Told) (step : NodeStep N) : Type 0 where
  pub node : Holds step.node
  pub packets : AllByRecursion (PacketTold told) step.packets

-- what filed segments said they say later too
abbrev pub HoldsRise : (N : Type 0) → (Told → N → Type 0) → Type 0
HoldsRise N Holds = (rows later : FiledRows) (node : N) → AreMore rows later → Holds (told_by_rows rows) node → Holds (told_by_rows later) node

-- Each event of a node of this kind: where what the node holds, what the packet that comes tells, and what the node itself files or reads back as filed in the
-- event, is what filed segments tell, so is all that it holds then, and all that it sends.
abbrev pub EventsTellTold : (N : Type 0) → (Told → N → Type 0) → (Told → N → Do → List Act → Type 0) → (N → Do → NodeStep N) → Type 0
EventsTellTold N Holds Owed step =
    (rows : FiledRows) (node : N) (what : Do) → Holds (told_by_rows rows) node → DoTold (told_by_rows rows) what
    → Owed (told_by_rows rows) node what (step node what).acts → TellsTold (Holds (told_by_rows rows)) (told_by_rows rows) (step node what)
