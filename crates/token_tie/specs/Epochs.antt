-- What a later epoch, a return, a report and a forward are: laws that a takeover, a restart and a supply rest on.
use Rattle.std.specs.Prelude.{◌≡◌, ℕ, ◌<◌, ◌≤◌, true, List, [], ◌∷◌, ◌++◌, map, Option, Some, Contains}
use Rattle.xfs_base.specs.declared.block.BlockId.{BlockId}
use Rattle.xfs_base.specs.declared.entry.Entry.{Entry}
use Rattle.xfs_base.specs.declared.token.Mode.{Mode}
use Rattle.xfs_base.specs.declared.token.Stamp.{Stamp}
use Rattle.xfs_base.specs.Blocks.{block_cmp, slot_of}
use Rattle.delta_index.specs.Index.{entry_of}
use Rattle.slot_beliefs.specs.Beliefs.{all_believed, share_of}
use Rattle.slot_beliefs.specs.Index.{block_index_new, merge_all}
use Rattle.slot_beliefs.specs.Recalls.{applied_of}
use Rattle.token_client.specs.declared.held.Held.{Held}
use Rattle.token_client.specs.State.{TokensState, tokens_start as fresh_tokens, held_of, held_in, epoch_of, is_in_slot}
use Rattle.token_client.specs.Transition.{serves}
use Rattle.token_manager.specs.Transition.{slot_start}
use Rattle.token_protocol.specs.Client.{Client}
use Rattle.token_protocol.specs.Crashing.{down, back}
use Rattle.token_protocol.specs.Laws.{HasNewest}
use Rattle.token_protocol.specs.Packets as packets
use Rattle.token_protocol.specs.Takeover.{activates}
use Rattle.token_protocol.specs.World.{World}
use Rattle.token_tie.specs.Seen.{Setting, Local, Shows, local_of, entry_seen}
use Rattle.xfs_base.specs.Modes.{mode_number}
use Rattle.token_tie.specs.Managed.{Manages}
use Rattle.std.specs.List.Sorted.{IsStrictlySortedBy}
use Rattle.std.specs.Map.{keys_of}

-- A client that serves a supplies Forward the history's value of that version, where holders have the newest.
abbrev pub SuppliesNewest : Type 0
SuppliesNewest =
    (g : Setting) (w : World) (s : TokensState) (stamp : Stamp) (ver : ℕ) (value : Option (List ℕ))
    → Shows g w.epoch (local_of s g.block) (w.client g.client) → (0 < (w.client g.client).mode → HasNewest w g.client)
    → serves s g.block stamp ver ≡ true → (held_of s.blocks g.block).value ≡ Some value → (g.number value ≡ w.value_at ver) × (ver ≡ w.newest)

-- A client that fell and returns starts anew: nothing is asked or held, under its new incarnation and promise.
abbrev pub RestartShows : Type 0
RestartShows =
    (g : Setting) (epoch promised : ℕ) (epochs : List ℕ) (x : Client) → 0 < g.client → 0 < epoch → promised ≡ epoch_of epochs (slot_of g.block.ino.0)
    → Shows g epoch (local_of (fresh_tokens g.incarnation epochs) g.block) (back (down x) g.incarnation promised)

-- When a later epoch begins to reign, a client is seen as before.
abbrev pub ActivationShows : Type 0
ActivationShows = (g : Setting) (epoch later : ℕ) (l : Local) (x : Client) → epoch < later → Shows g epoch l x → Shows g later l (record x { stamp = 0 })

-- A slot that starts is seen as the new manager, if it believes at least what was reported.
abbrev pub ActivationManages : Type 0
ActivationManages =
    (b : BlockId) (w : World) (epoch : ℕ) (index : List (BlockId × Entry)) (beliefs : List (BlockId × ℕ × Mode)) (applied : List ℕ)
    (report : ℕ → packets.Report) (upto : ℕ → ℕ)
    → ((c : ℕ) → c < w.members → (report c).mode ≤ share_of (all_believed [] beliefs) b c) → ((c : ℕ) → 0 < c → upto c ≡ applied_of applied c)
    → Manages b (slot_start epoch index beliefs applied) (activates w epoch report upto (entry_seen (entry_of (merge_all block_index_new index).rows b)))

-- what all clients report, each what it holds
abbrev pub reported : ℕ → List (BlockId × Mode) → List (BlockId × ℕ × Mode)
reported c rows = map (λ p. (p.0, c, p.1)) rows

abbrev pub all_reported : (ℕ → List (BlockId × Mode)) → List ℕ → List (BlockId × ℕ × Mode)
all_reported rows [] = []
all_reported rows (c ∷ cs) = reported c (rows c) ++ all_reported rows cs

-- What each client holds of a block of the slot is believed of it.
abbrev pub ReportsBelieved : Type 0
ReportsBelieved =
    (slot : ℕ) (blocks : ℕ → List (BlockId × Held)) (cs : List ℕ) (b : BlockId) (c : ℕ)
    → ((d : ℕ) → IsStrictlySortedBy block_cmp (keys_of (blocks d))) → is_in_slot slot b ≡ true → Contains cs c
    → mode_number (held_of (blocks c) b).mode ≤ share_of (all_believed [] (all_reported (λ d. held_in slot (blocks d)) cs)) b c
