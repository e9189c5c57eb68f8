-- What the registry does on each input.
use Rattle.std.specs.Prelude.{ℕ, ◌+◌, Bool, false, List, [], ◌∷◌, ◌==◌, ◌&&◌, ◌||◌, not, nat_lt, map, unwrap_or, slice_set, if◌then◌else◌}
use Rattle.std.specs.Option.{is_some}
use Rattle.std.specs.Ordering.{nat_cmp}
use Rattle.std.specs.Map.{lookup}
use Rattle.std.specs.BTreeMap.{is_at, insert_entry}
use Rattle.xfs_base.specs.Steps.{Stepped, still}
use Rattle.xfs_base.specs.declared.news.SlotNews.{SlotNews}
use Rattle.xfs_base.specs.declared.node.NodeId.{NodeId}
use Rattle.xfs_base.specs.declared.node.NodeId.TheVariants.{Client, Manager, Server, Cleaner, Registry}
use Rattle.xfs_base.specs.declared.segment.SegRef.{SegRef}
use Rattle.xfs_base.specs.declared.setup.Setup.{Setup}
use Rattle.xfs_base.specs.Limits.{u32_end, slot_count}
use Rattle.group_map.specs.GroupMapState.{GroupMapState}
use Rattle.group_map.specs.Groups.{group_of, generation_at, after_loss, group_map_start as first_groups}
use Rattle.manager_map.specs.Slots.{manager_map_start, entry_at, manager_map_advance}
use Rattle.registry.specs.BoardState.{BoardState}
use Rattle.registry.specs.Checkpoints.{first_checkpoint, covers_kept, parts_at, horizon_at}
use Rattle.registry.specs.Slots.{all_slots, entry_of, raised, can_rise}
use Rattle.registry.specs.declared.input.In.{In}
use Rattle.registry.specs.declared.input.In.TheVariants.{Hello, Reassign, Done}
use Rattle.registry.specs.declared.output.Out.{Out}
use Rattle.registry.specs.declared.output.Out.TheVariants.{Changed, Epoch, Kept}

-- a state, and what is sent
abbrev pub Made : Type 0
Made = Stepped BoardState Out

-- the incarnation that is kept of a manager; 1 at the start
abbrev pub inc_of : List (ℕ × ℕ) → ℕ → ℕ
inc_of incs manager = unwrap_or (lookup (is_at (nat_cmp manager)) incs) 1

-- there is room for the groups that follow a loss
abbrev pub has_room : GroupMapState → Bool
has_room groups = not (is_some (group_of groups 2147483648))

-- the server exists, and tells of a loss that is not known yet
abbrev pub may_lose : GroupMapState → ℕ → ℕ → Bool
may_lose groups server generation =
    if (server == 0) || nat_lt groups.servers server then false else nat_lt (generation_at groups.generations server) generation && has_room groups

-- ---- a manager that has restarted

abbrev pub hears_manager : BoardState → ℕ → ℕ → Bool
hears_manager s manager inc = nat_lt s.version u32_end && (nat_lt (inc_of s.incs manager) inc && can_rise manager s.entries)

-- its slots are given to it again, and its incarnation is kept
abbrev pub manager_restarted : BoardState → ℕ → ℕ → BoardState
manager_restarted s manager inc = record s { version = s.version + 1; entries = raised manager s.entries; incs = insert_entry nat_cmp s.incs manager inc }

unfoldable pub manager_hello : BoardState → ℕ → ℕ → Made
manager_hello s manager inc = if hears_manager s manager inc then record { state = manager_restarted s manager inc; outs = Changed ∷ [] } else still s

-- ---- a server that has lost what it kept

abbrev pub hears_server : BoardState → ℕ → ℕ → Bool
hears_server s server generation = nat_lt s.version u32_end && may_lose s.groups server generation

abbrev pub server_lost : BoardState → ℕ → ℕ → BoardState
server_lost s server generation = record s { version = s.version + 1; groups = after_loss s.groups server generation }

unfoldable pub server_hello : BoardState → ℕ → ℕ → Made
server_hello s server generation = if hears_server s server generation then record { state = server_lost s server generation; outs = Changed ∷ [] } else still s

abbrev pub hello : BoardState → NodeId → ℕ → Made
hello s (Client n) inc = still s
hello s (Manager n) inc = manager_hello s n inc
hello s (Server n) inc = server_hello s n inc
hello s Cleaner inc = still s
hello s Registry inc = still s

-- ---- a slot that is given to a manager

abbrev pub can_move : BoardState → ℕ → Bool
can_move s slot = nat_lt slot slot_count && (nat_lt s.version u32_end && nat_lt (entry_of s.entries slot).epoch u32_end)

abbrev pub moved : BoardState → ℕ → ℕ → BoardState
moved s slot manager = record s { version = s.version + 1; entries = manager_map_advance s.entries slot manager }

unfoldable pub reassign : BoardState → ℕ → ℕ → Made
reassign s slot manager =
    if can_move s slot
    then record { state = moved s slot manager; outs = Changed ∷ Epoch (entry_at (manager_map_advance s.entries slot manager) slot).epoch ∷ [] }
    else still s

-- ---- a checkpoint that is written

-- it is of the epoch that is kept, and its horizon has no number below the kept one
abbrev pub is_kept : BoardState → ℕ → ℕ → List ℕ → Bool
is_kept s slot epoch horizon = ((entry_of s.entries slot).epoch == epoch) && covers_kept s.checkpoints slot horizon

abbrev pub checkpointed : BoardState → ℕ → List SegRef → List ℕ → BoardState
checkpointed s slot parts horizon =
    record s { version = s.version + 1; checkpoints = slice_set s.checkpoints slot (record { parts = parts; horizon = horizon }) }

unfoldable pub keep : BoardState → ℕ → ℕ → List SegRef → List ℕ → Made
keep s slot epoch parts horizon = if s.version == u32_end then still s else record { state = checkpointed s slot parts horizon; outs = Kept epoch ∷ [] }

unfoldable pub done : BoardState → ℕ → ℕ → List SegRef → List ℕ → Made
done s slot epoch parts horizon =
    if nat_lt 7 slot
    then still s
    else (if is_kept s slot epoch horizon then keep s slot epoch parts horizon else record { state = s; outs = Kept (entry_of s.entries slot).epoch ∷ [] })

-- ---- all inputs

abbrev pub transition : BoardState → In → Made
transition s (Hello node inc) = hello s node inc
transition s (Reassign slot manager) = reassign s slot manager
transition s (Done slot epoch parts horizon) = done s slot epoch parts horizon

abbrev pub board_start : Setup → BoardState
board_start setup = record {
  version = 1;
  entries = manager_map_start setup.managers;
  checkpoints = map (λ _. first_checkpoint) all_slots;
  incs = [];
  groups = first_groups setup.servers setup.groups;
}

-- ---- what is handed out

abbrev pub slot_news : BoardState → ℕ → SlotNews
slot_news s slot = record {
  slot = slot;
  epoch = (entry_of s.entries slot).epoch;
  manager = (entry_of s.entries slot).manager;
  parts = parts_at s.checkpoints slot;
  horizon = horizon_at s.checkpoints slot;
}

abbrev pub board_slots : BoardState → List SlotNews
board_slots s = map (slot_news s) all_slots
