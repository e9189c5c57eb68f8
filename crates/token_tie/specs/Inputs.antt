-- What a client's tokens need of the world when they take an input, and the laws.
use Rattle.std.specs.Prelude.{◌≡◌, ℕ, ◌≤◌, Bool, true, false, nat_lt, List, [], ◌∷◌, Option, Some, if◌then◌else◌}
use Rattle.xfs_base.specs.declared.block.BlockId.{BlockId}
use Rattle.xfs_base.specs.declared.entry.Entry.{Entry}
use Rattle.xfs_base.specs.declared.entry.Place.{Place}
use Rattle.xfs_base.specs.declared.token.Mode.{Mode}
use Rattle.xfs_base.specs.declared.token.Mode.TheVariants.{Nothing, Copy, Own}
use Rattle.xfs_base.specs.declared.token.Stamp.{Stamp}
use Rattle.xfs_base.specs.Blocks.{same_block}
use Rattle.xfs_base.specs.Steps.{saying}
use Rattle.xfs_base.specs.Limits.{u64_end}
use Rattle.token_client.specs.declared.input.In as inputs
use Rattle.token_client.specs.declared.input.In.TheVariants.{Need, Granted, Supplied, Forwarded, Recalled, Wrote, Settled, Fetched, Evict, Reask, Quit, Promise, Tick}
use Rattle.token_client.specs.declared.held.Fetch.{Fetch}
use Rattle.token_client.specs.Held.{is_settled_by, may_write}
use Rattle.token_client.specs.Laws.{IsSound}
use Rattle.token_client.specs.State.{TokensState, held_of}
use Rattle.token_client.specs.Transition.{Done, accepts, on_granted, on_wrote, on_evict, on_settled, transition}
use Rattle.token_protocol.specs.Acts.{Act}
use Rattle.token_protocol.specs.Acts.Act.{Wrote as WroteBlock}
use Rattle.token_protocol.specs.Premises.{Premise, SettledEnd, SegmentFlying, IsSupplied, PlaceRead}
use Rattle.token_protocol.specs.Logging.{MaySettle, settles}
use Rattle.token_protocol.specs.Step.{Step}
use Rattle.token_protocol.specs.World.{World, flying_row}
use Rattle.token_tie.specs.Seen.{Setting, Shows, SentOffer, SentRecall, offer_seen, local_of, located, entry_seen}
use Rattle.token_tie.specs.Taken.{Acted, Took}

-- What holds of a client whenever it takes an input: it is seen as it is there, is sound, has promised at least the reigning epoch, and knows the
-- last filed segment of its log.
pub record Ready (logs : Bool) (g : Setting) (end : ℕ) (w : World) (s : TokensState) : Type 0 where
  pub shows : Shows g w.epoch (local_of s g.block) (w.client g.client)
  pub sound : IsSound s
  pub promised : w.epoch ≤ (w.client g.client).promised
  pub settled : Premise logs (SettledEnd w g.client end)

-- a grant of a copy was sent; one to own is taken together with the write (`OwnsAndWrites`), or is let go (`OwnsAndDeclines`)
abbrev pub GrantBrings : Setting → World → Stamp → ℕ → ℕ → BlockId → Mode → Entry → Type 0
GrantBrings g w stamp inc req block Nothing entry = block ≡ g.block → ⊥
GrantBrings g w stamp inc req block Copy entry = block ≡ g.block → SentOffer g.client w stamp inc req Copy (entry_seen entry)
GrantBrings g w stamp inc req block Own entry = block ≡ g.block → ⊥

-- what a supply brings is the history's value of an offered version
pub record SentSupply (logs : Bool) (g : Setting) (w : World) (stamp : Stamp) (inc req ver : ℕ) (value : Option (List ℕ)) : Type 0 where
  pub hop : ℕ
  pub place : Option Place
  pub offer : SentOffer g.client w stamp inc req Copy (located ver hop place)
  pub content : stamp.epoch ≡ w.epoch → Premise logs (IsSupplied w (offer_seen g.client stamp inc req Copy (located ver hop place)) (g.number value))

-- what the world owes each input
abbrev pub Brings : Bool → Setting → World → TokensState → inputs.In → Type 0
Brings logs g w s (Need block mode) = Unit {0}
Brings logs g w s (Granted block stamp inc req mode entry) = GrantBrings g w stamp inc req block mode entry
Brings logs g w s (Supplied block stamp inc req ver value) = block ≡ g.block → SentSupply logs g w stamp inc req ver value
Brings logs g w s (Forwarded block stamp ver) = Unit {0}
Brings logs g w s (Recalled block stamp keep) = block ≡ g.block → SentRecall g.client w stamp keep
Brings logs g w s (Wrote block value) = Unit {0}
Brings logs g w s (Settled block ver) = block ≡ g.block → is_settled_by (held_of s.blocks block) ver ≡ false
Brings logs g w s (Fetched block value) =
    block ≡ g.block → (f : Fetch) → (held_of s.blocks block).fetch ≡ Some f → Premise logs (PlaceRead w g.client (g.number value))
Brings logs g w s (Evict block) = Unit {0}
Brings logs g w s (Reask block) = Unit {0}
Brings logs g w s (Quit block) = Unit {0}
Brings logs g w s (Promise slot epoch) = Unit {0}
Brings logs g w s Tick = Unit {0}

-- The act of the block that an input is: a write, where it may be written.
abbrev pub acts_seen : Setting → TokensState → inputs.In → List Act
acts_seen g s (Wrote block value) =
    if may_write (held_of s.blocks block) then (if same_block block g.block then WroteBlock g.client (g.number value) ∷ [] else []) else []
acts_seen g s _ = []

-- Each input is taken by steps of the client.
abbrev pub TakesInputs : Type 0
TakesInputs =
    (logs : Bool) (g : Setting) (end : ℕ) (w : World) (s : TokensState) (input : inputs.In) → Ready logs g end w s → Brings logs g w s input
    → Acted logs g end w (acts_seen g s input) (transition s input)

-- a grant to own, and the write of the waiting call
abbrev pub granted_and_wrote : TokensState → Stamp → ℕ → ℕ → BlockId → Entry → Option (List ℕ) → Done
granted_and_wrote s stamp inc req block entry value =
    saying (on_granted s block stamp inc req Own entry).outs (on_wrote (on_granted s block stamp inc req Own entry).state block value)

-- An accepted grant to own, with the write that it was wanted for, is one step.
abbrev pub OwnsAndWrites : Type 0
OwnsAndWrites =
    (logs : Bool) (g : Setting) (end : ℕ) (w : World) (s : TokensState) (stamp : Stamp) (inc req : ℕ) (entry : Entry) (value : Option (List ℕ))
    → Ready logs g end w s → SentOffer g.client w stamp inc req Own (entry_seen entry)
    → accepts s g.block stamp inc req Own ≡ true → nat_lt entry.ver u64_end ≡ true
    → Acted logs g end w (WroteBlock g.client (g.number value) ∷ []) (granted_and_wrote s stamp inc req g.block entry value)

-- a grant to own, let go unwritten
abbrev pub granted_and_evicted : TokensState → Stamp → ℕ → ℕ → BlockId → Entry → Done
granted_and_evicted s stamp inc req block entry =
    saying (on_granted s block stamp inc req Own entry).outs (on_evict (on_granted s block stamp inc req Own entry).state block)

abbrev pub OwnsAndDeclines : Type 0
OwnsAndDeclines =
    (logs : Bool) (g : Setting) (end : ℕ) (w : World) (s : TokensState) (stamp : Stamp) (inc req : ℕ) (entry : Entry) → Ready logs g end w s
    → SentOffer g.client w stamp inc req Own (entry_seen entry)
    → accepts s g.block stamp inc req Own ≡ true → Took logs g end w (granted_and_evicted s stamp inc req g.block entry)

-- A segment is settled: the log's step is seen in what the tokens take of it.
abbrev pub SettlesBlocks : Type 0
SettlesBlocks =
    (logs : Bool) (g : Setting) (end : ℕ) (w : World) (s : TokensState) (ver : ℕ) → Ready logs g end w s → MaySettle w g.client
    → Premise logs (SegmentFlying w g.client) → (flying_row w g.client).version ≡ ver → ver ≤ (held_of s.blocks g.block).ver
    → Step logs w (settles w g.client) × Shows g w.epoch (local_of (on_settled s g.block ver).state g.block) ((settles w g.client).client g.client)
