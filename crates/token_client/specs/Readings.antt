-- Readings of the transitions that the safety of the protocol rests on, each as a law.
use Rattle.std.specs.Prelude.{◌≡◌, ℕ, Bool, true, false, List, Option, None, is_none}
use Rattle.xfs_base.specs.declared.block.BlockId.{BlockId}
use Rattle.xfs_base.specs.declared.entry.Entry.{Entry}
use Rattle.xfs_base.specs.declared.token.Mode.{Mode}
use Rattle.xfs_base.specs.declared.token.Stamp.{Stamp}
use Rattle.xfs_base.specs.Steps.{still}
use Rattle.token_client.specs.declared.held.Held.{Held}
use Rattle.token_client.specs.declared.input.In.TheVariants.{Granted, Supplied, Recalled, Quit, Promise}
use Rattle.token_client.specs.Held.{is_dirty, is_asking}
use Rattle.token_client.specs.State.{TokensState, held_of, is_in_slot}
use Rattle.token_client.specs.Transition.{transition, may_promise}

-- A block without a want takes no grant and no supply.
abbrev pub EndedWantTakesNothing : Type 0
EndedWantTakesNothing =
    (s : TokensState) (block : BlockId) (stamp : Stamp) (inc req : ℕ) → is_none (held_of s.blocks block).want ≡ true
    → ((mode : Mode) (entry : Entry) → transition s (Granted block stamp inc req mode entry) ≡ still s)
    × ((ver : ℕ) (value : Option (List ℕ)) → transition s (Supplied block stamp inc req ver value) ≡ still s)

-- the block but for its want, its fetch and the recall that is put off: mode, versions, value and stamp
abbrev pub core_of : Held → Held
core_of h = record h { want = None; fetch = None; giving = None }

-- A dirty block that is recalled keeps its stamp, its mode, its versions and its value.
abbrev pub DirtyKeepsItsStamp : Type 0
DirtyKeepsItsStamp =
    (s : TokensState) (block : BlockId) (stamp : Stamp) (keep : Bool) → is_dirty (held_of s.blocks block) ≡ true
    → core_of (held_of (transition s (Recalled block stamp keep)).state.blocks block) ≡ core_of (held_of s.blocks block)

-- Once a promise is taken, no block of its slot is being fetched or given up.
abbrev pub PromiseDrops : Type 0
PromiseDrops =
    (s : TokensState) (slot epoch : ℕ) (block : BlockId) → may_promise s slot epoch ≡ true → is_in_slot slot block ≡ true
    → (is_none (held_of (transition s (Promise slot epoch)).state.blocks block).fetch ≡ true)
    × (is_none (held_of (transition s (Promise slot epoch)).state.blocks block).giving ≡ true)

-- A block whose call answers that it is lost has neither a want nor a fetch.
abbrev pub QuitEnds : Type 0
QuitEnds = (s : TokensState) (block : BlockId) → is_asking (held_of (transition s (Quit block)).state.blocks block) ≡ false
