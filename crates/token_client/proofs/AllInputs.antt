-- Each input leads to a state that follows, and so do many: the laws of the tokens.
use Rattle.std.proofs.Common.{◌≡◌, ℕ, true, List, [], ◌∷◌}
use Rattle.std.specs.List.{list_any}
use Rattle.std.specs.List.Sorted.{IsStrictlySortedBy}
use Rattle.xfs_base.specs.declared.block.BlockId.{BlockId}
use Rattle.xfs_base.proofs.BlockOrder.{same_block_itself}
use Rattle.xfs_base.proofs.Booleans.{or_second, or_first}
use Rattle.token_client.specs.declared.input.In.{In}
use Rattle.token_client.specs.declared.input.In.TheVariants.{Need, Granted, Supplied, Forwarded, Recalled, Wrote, Settled, Fetched, Evict, Reask, Quit, Promise, Tick}
use Rattle.token_client.specs.Laws.{IsSound, needs, state_after, StaysSound, StampsNeverFall, NumbersRise, OpensByNeed}
use Rattle.token_client.specs.State.{TokensState, tokens_start}
use Rattle.token_client.specs.Transition.{transition}
use Rattle.token_client.proofs.Follows.{Follows, follows_still, follows_through, follows_weaker}
use Rattle.token_client.proofs.Promises.{on_recalled-follows, on_promise-follows, on_tick-follows}
use Rattle.token_client.proofs.SoundBlocks.{held_new-sound}
use Rattle.token_client.proofs.Transitions.{on_need-follows, on_granted-follows, on_supplied-follows, on_forwarded-follows, on_wrote-follows, on_settled-follows, on_fetched-follows, on_evict-follows, on_reask-follows, on_quit-follows}

pub tokens_start-sound : (inc : ℕ) (epochs : List ℕ) → IsSound (tokens_start inc epochs)
unfolding IsStrictlySortedBy
tokens_start-sound inc epochs = record { sorted = tt; each = λ b. held_new-sound _ }

-- each input may open what needs it
pub transition-follows : (opens : BlockId → Type 0) (s : TokensState) → IsSound s → (input : In) → ((b : BlockId) → needs b input ≡ true → opens b)
    → Follows opens s (transition s input).state
transition-follows opens s p (Need block mode) why = on_need-follows opens s p block mode (why block (same_block_itself block))
transition-follows opens s p (Granted block stamp inc req mode entry) why = on_granted-follows opens s p block stamp inc req mode entry
transition-follows opens s p (Supplied block stamp inc req ver value) why = on_supplied-follows opens s p block stamp inc req ver value
transition-follows opens s p (Forwarded block stamp ver) why = on_forwarded-follows opens s p block stamp ver
transition-follows opens s p (Recalled block stamp keep) why = on_recalled-follows opens s p block stamp keep
transition-follows opens s p (Wrote block value) why = on_wrote-follows opens s p block value
transition-follows opens s p (Settled block ver) why = on_settled-follows opens s p block ver
transition-follows opens s p (Fetched block value) why = on_fetched-follows opens s p block value
transition-follows opens s p (Evict block) why = on_evict-follows opens s p block
transition-follows opens s p (Reask block) why = on_reask-follows opens s p block
transition-follows opens s p (Quit block) why = on_quit-follows opens s p block
transition-follows opens s p (Promise slot epoch) why = on_promise-follows opens s p slot epoch
transition-follows opens s p Tick why = on_tick-follows opens s p

-- a block that some of the inputs needs
abbrev IsNeeded : List In → BlockId → Type 0
IsNeeded inputs b = list_any (needs b) inputs ≡ true

pub inputs-follow : (s : TokensState) → IsSound s → (inputs : List In) → Follows (IsNeeded inputs) s (state_after s inputs)
inputs-follow s p [] = follows_still (IsNeeded []) s p
inputs-follow s p (i ∷ rest) =
    let all : BlockId → Type 0 = IsNeeded (i ∷ rest) in
    let t : TokensState = (transition s i).state in
    let one : Follows all s t = transition-follows all s p i (λ b n. or_first (needs b i) (list_any (needs b) rest) n) in
    let two : Follows all t (state_after t rest) =
    follows_weaker (IsNeeded rest) all t (state_after t rest) (λ b n. or_second (needs b i) (list_any (needs b) rest) n) (inputs-follow t one.sound rest) in
    follows_through all s t (state_after t rest) one two

pub stays_sound : StaysSound
stays_sound inc epochs inputs = (inputs-follow (tokens_start inc epochs) (tokens_start-sound inc epochs) inputs).sound

pub stamps_never_fall : StampsNeverFall
stamps_never_fall s inputs block p = (inputs-follow s p inputs).stamps block

pub numbers_rise : NumbersRise
numbers_rise s inputs p = (inputs-follow s p inputs).counted

pub opens_by_need : OpensByNeed
opens_by_need s inputs block p asks = (inputs-follow s p inputs).opened block asks
