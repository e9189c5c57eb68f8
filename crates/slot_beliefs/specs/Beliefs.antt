-- Who is believed to hold each block.
use Rattle.std.specs.Prelude.{ℕ, Bool, true, false, not, ◌&&◌, ◌||◌, ◌==◌, List, [], ◌∷◌, Option, Some, None, if◌then◌else◌, is_some, IsTrue}
use Rattle.std.specs.Ordering.{nat_cmp, ordering_then}
use Rattle.std.specs.declared.cmp.Ordering.{Ordering}
use Rattle.std.specs.List.{filter}
use Rattle.std.specs.Map.{lookup, remove_entry, set_value}
use Rattle.std.specs.BTreeMap.{is_at, insert_entry}
use Rattle.xfs_base.specs.Blocks.{block_cmp, same_block}
use Rattle.xfs_base.specs.declared.block.BlockId.{BlockId}
use Rattle.xfs_base.specs.declared.token.Mode.{Mode}
use Rattle.xfs_base.specs.Modes.{is_own, is_nothing}
use Rattle.slot_beliefs.specs.declared.job.Holder.{Holder}
use Rattle.slot_beliefs.specs.declared.job.Wanted.{Wanted}

-- by block, then by client
abbrev pub holder_cmp : Holder → Holder → Ordering
holder_cmp a b = ordering_then (block_cmp a.block b.block) (nat_cmp a.client b.client)

abbrev pub holder : BlockId → ℕ → Holder
holder block client = record { block = block; client = client }

-- the other clients that are believed to hold the block, or just those that are believed to own it
abbrev pub others : List (Holder × Bool) → BlockId → ℕ → Bool → List ℕ
others [] block client owners = []
others (b ∷ bs) block client owners =
    if same_block b.0.block block && not (b.0.client == client) && (b.1 || not owners)
    then b.0.client ∷ others bs block client owners
    else others bs block client owners

-- the beliefs of other blocks
abbrev pub forget_block : List (Holder × Bool) → BlockId → List (Holder × Bool)
forget_block beliefs block = filter (λ b. not (same_block b.0.block block)) beliefs

-- a client that is believed to hold this block
abbrev pub IsBelieved : List (Holder × Bool) → BlockId → Holder → Type 0
IsBelieved beliefs block h = IsTrue (same_block h.block block) × IsTrue (is_some (lookup (is_at (holder_cmp h)) beliefs))

-- the one belief about this block: that the client owns it
abbrev pub beliefs_own : List (Holder × Bool) → Holder → List (Holder × Bool)
beliefs_own beliefs h = insert_entry holder_cmp (forget_block beliefs h.block) h true

-- the client is believed to hold the block, unless it is believed to already
abbrev pub beliefs_hold : List (Holder × Bool) → Holder → List (Holder × Bool)
beliefs_hold beliefs h = if is_some (lookup (is_at (holder_cmp h)) beliefs) then beliefs else insert_entry holder_cmp beliefs h false

-- the beliefs once the asker has what it wants
abbrev pub meet_want : List (Holder × Bool) → Wanted → List (Holder × Bool)
meet_want beliefs want = if is_own want.mode then beliefs_own beliefs (holder want.block want.client) else beliefs_hold beliefs (holder want.block want.client)

-- the client is believed to hold no more than a copy
abbrev pub disown : List (Holder × Bool) → Holder → List (Holder × Bool)
disown beliefs h = if is_some (lookup (is_at (holder_cmp h)) beliefs) then set_value (is_at (holder_cmp h)) beliefs false else beliefs

-- the beliefs once a client gave a block up, with leave to keep a copy or without
abbrev pub give_way : List (Holder × Bool) → Holder → Bool → List (Holder × Bool)
give_way beliefs h keep = if keep then disown beliefs h else remove_entry (is_at (holder_cmp h)) beliefs

-- the beliefs with one more; that a client holds nothing is no belief
unfoldable pub believe : List (Holder × Bool) → BlockId × ℕ × Mode → List (Holder × Bool)
believe beliefs b = if is_nothing b.2 then beliefs else insert_entry holder_cmp beliefs (holder b.0 b.1) (is_own b.2)

-- the beliefs that a list names: of two about one client and block the later
abbrev pub all_believed : List (Holder × Bool) → List (BlockId × ℕ × Mode) → List (Holder × Bool)
all_believed beliefs [] = beliefs
all_believed beliefs (b ∷ bs) = all_believed (believe beliefs b) bs

-- what a client is believed to have of a block: 0 nothing, 1 a copy, 2 the block
abbrev pub share : Option Bool → ℕ
share None = 0
share (Some owns) = if owns then 2 else 1

abbrev pub share_of : List (Holder × Bool) → BlockId → ℕ → ℕ
share_of beliefs block client = share (lookup (is_at (holder_cmp (holder block client))) beliefs)

-- what a want asks for: 1 a copy, 2 the block
abbrev pub wanted_share : Mode → ℕ
wanted_share mode = if is_own mode then 2 else 1
