-- The tokens of a client that ask for what is needed still do after each input; and where the needed block doesn't ask, none does.
use Rattle.std.proofs.Common.{◌≡◌, ℕ, true, false, List, [], ◌∷◌, Option, Some, None, is_some, refl, sym, ap, ◌∙◌}
use Rattle.xfs_base.specs.declared.block.BlockId.{BlockId}
use Rattle.xfs_base.specs.declared.entry.Entry.{Entry}
use Rattle.xfs_base.specs.declared.entry.Place.{Place}
use Rattle.xfs_base.specs.declared.token.Mode.{Mode}
use Rattle.xfs_base.specs.declared.token.Mode.TheVariants.{Copy}
use Rattle.xfs_base.specs.declared.token.Stamp.{Stamp}
use Rattle.xfs_base.specs.Modes.{is_own}
use Rattle.xfs_base.specs.Steps.{still}
use Rattle.xfs_base.proofs.Booleans.{contrary, by_test}
use Rattle.token_client.specs.declared.held.Fetch.{Fetch}
use Rattle.token_client.specs.declared.held.Held.{Held}
use Rattle.token_client.specs.declared.held.Wanted.{Wanted}
use Rattle.token_client.specs.declared.input.In.{In}
use Rattle.token_client.specs.declared.input.In.TheVariants as input
use Rattle.token_client.specs.declared.output.Out.{Out}
use Rattle.token_client.specs.declared.output.Out.TheVariants.{Read, Ready}
use Rattle.token_client.specs.Held.{is_asking, is_wanted, take_grant}
use Rattle.token_client.specs.Laws.{IsSound}
use Rattle.token_client.specs.State.{TokensState, held_of, tokens_start, with_held}
use Rattle.token_client.specs.Transition.{Done, accepts, copy_next, grant_next, on_granted, transition}
use Rattle.token_client.proofs.AllInputs.{tokens_start-sound, transition-follows}
use Rattle.token_client.proofs.Promises.{Each}
use Rattle.token_client.proofs.SoundBlocks.{asks_by_fetch, asks_by_want}
use Rattle.node_slots.proofs.node_tie.AsksBlock.{Need, WantSuits, FetchSuits, grant_needed, take_grant-suits, held_new-suits}
use Rattle.node_slots.proofs.node_tie.AsksTokens.{AllSuit, IsQuiet, GoesOn, answers_want, put-suits, on_need-goes_on, on_supplied-goes_on, on_forwarded-goes_on, on_recalled-goes_on, on_wrote-goes_on, on_settled-goes_on, on_fetched-goes_on, on_evict-goes_on, on_reask-goes_on, on_quit-goes_on, on_promise-goes_on, on_tick-goes_on}

-- the tokens are sound, and ask for what is needed
pub record AsksAs (n : Need) (t : TokensState) : Type 0 where
  pub sound : IsSound t
  pub suits : AllSuit n t

-- an input that opens no want but of what is needed, and has no block read
abbrev pub InputSuits : Need → In → Type 0
InputSuits n (input.Need block mode) = n ≡ Some (block, mode)
InputSuits n (input.Granted block stamp inc req mode entry) = ⊥
InputSuits n _ = Unit {0}

-- what has a block read that is needed
abbrev pub ReadSuits : Need → Out → Type 0
ReadSuits n (Read block place) = n ≡ Some (block, Copy)
ReadSuits n _ = Unit {0}

-- one out at most, and what it has read is needed
abbrev pub OneRead : Need → List Out → Type 0
OneRead n [] = Unit {0}
OneRead n (o ∷ []) = ReadSuits n o
OneRead n (o ∷ o' ∷ outs) = ⊥

pub tokens_start-asks : (n : Need) (inc : ℕ) (epochs : List ℕ) → AsksAs n (tokens_start inc epochs)
tokens_start-asks n inc epochs = record { sound = tokens_start-sound inc epochs; suits = λ b. held_new-suits n b }

-- each input keeps the tokens sound
pub transition-sound : (s : TokensState) (i : In) → IsSound s → IsSound (transition s i).state
transition-sound s i sound = (transition-follows (λ b. Unit {0}) s sound i (λ b h. tt)).sound

module _ (n : Need) (s : TokensState) (a : AsksAs n s) where
  transition-goes_on : (i : In) → InputSuits n i → GoesOn n (transition s i)
  transition-goes_on (input.Need block mode) fact = on_need-goes_on n s a.sound a.suits block mode fact
  transition-goes_on (input.Granted block stamp inc req mode entry) fact = absurd fact
  transition-goes_on (input.Supplied block stamp inc req ver value) fact = on_supplied-goes_on n s a.sound a.suits block stamp inc req ver value
  transition-goes_on (input.Forwarded block stamp ver) fact = on_forwarded-goes_on n s a.sound a.suits block stamp ver
  transition-goes_on (input.Recalled block stamp keep) fact = on_recalled-goes_on n s a.sound a.suits block stamp keep
  transition-goes_on (input.Wrote block value) fact = on_wrote-goes_on n s a.sound a.suits block value
  transition-goes_on (input.Settled block ver) fact = on_settled-goes_on n s a.sound a.suits block ver
  transition-goes_on (input.Fetched block value) fact = on_fetched-goes_on n s a.sound a.suits block value
  transition-goes_on (input.Evict block) fact = on_evict-goes_on n s a.sound a.suits block
  transition-goes_on (input.Reask block) fact = on_reask-goes_on n s a.sound a.suits block
  transition-goes_on (input.Quit block) fact = on_quit-goes_on n s a.sound a.suits block
  transition-goes_on (input.Promise slot epoch) fact = on_promise-goes_on n s a.sound a.suits slot epoch
  transition-goes_on input.Tick fact = on_tick-goes_on n s a.suits

  pub transition-asks : (i : In) → InputSuits n i → AsksAs n (transition s i).state
  transition-asks i fact = record { sound = transition-sound s i a.sound; suits = (transition-goes_on i fact).suits }

  pub transition-quiet : (i : In) → InputSuits n i → Each IsQuiet (transition s i).outs
  transition-quiet i fact = (transition-goes_on i fact).quiet

  module _ (block : BlockId) (stamp : Stamp) (inc req : ℕ) (mode : Mode) (entry : Entry) where
    -- a grant ends its want
    pub granted-asks : AsksAs n (on_granted s block stamp inc req mode entry).state
    unfolding on_granted
    granted-asks = record {
      sound = transition-sound s (input.Granted block stamp inc req mode entry) a.sound;
      suits =
          let h : Held = held_of s.blocks block in
          by_test (λ (d : Done). AllSuit n d.state) (accepts s block stamp inc req mode)
          (record { state = with_held s block (take_grant h stamp mode entry); outs = grant_next block mode entry.place ∷ [] }) (still s)
          (λ t. let answers : is_wanted h.want req mode ≡ true = answers_want n s a.sound a.suits block stamp inc req mode t in
          put-suits n s a.suits block (take_grant h stamp mode entry) (take_grant-suits n block h (a.suits block) stamp req mode entry answers))
          (λ t. a.suits);
    }

    copy_next-suits : (place : Option Place) → n ≡ Some (block, Copy) → ReadSuits n (copy_next block place)
    copy_next-suits None fact = tt
    copy_next-suits (Some place) fact = fact

    -- and has a block read that is needed, where it is taken
    grant_next-suits : accepts s block stamp inc req mode ≡ true → ReadSuits n (grant_next block mode entry.place)
    grant_next-suits t =
        let h : Held = held_of s.blocks block in
        let answers : is_wanted h.want req mode ≡ true = answers_want n s a.sound a.suits block stamp inc req mode t in
        by_test (ReadSuits n) (is_own mode) (Ready block) (copy_next block entry.place) (λ own. tt)
        (λ other. copy_next-suits entry.place (grant_needed n block h (a.suits block) req mode answers other))

    -- at most one block is read, and that is needed
    pub granted-outs : OneRead n (on_granted s block stamp inc req mode entry).outs
    unfolding on_granted
    granted-outs =
        by_test (λ (d : Done). OneRead n d.outs) (accepts s block stamp inc req mode)
        (record { state = with_held s block (take_grant (held_of s.blocks block) stamp mode entry); outs = grant_next block mode entry.place ∷ [] }) (still s)
        (λ t. grant_next-suits t) (λ t. tt)

-- ---- where nothing is asked for

-- what asks nothing asks only for what is needed
unasked_suits : (n : Need) (block : BlockId) (mode : Mode) (w : Option Wanted) → WantSuits None block mode w → WantSuits n block mode w
unasked_suits n block mode None p = tt
unasked_suits n block mode (Some w) p = contrary (ap is_some p.0)

unfetched_suits : (n : Need) (block : BlockId) (f : Option Fetch) → FetchSuits None block f → FetchSuits n block f
unfetched_suits n block None p = tt
unfetched_suits n block (Some f) p = contrary (ap is_some p)

pub none_asks : (n : Need) (t : TokensState) → AsksAs None t → AsksAs n t
none_asks n t a = record {
  sound = a.sound;
  suits = λ b.
      (let h : Held = held_of t.blocks b in
      record { want = unasked_suits n b h.mode h.want (a.suits b).want; fetch = unfetched_suits n b h.fetch (a.suits b).fetch });
}

module _ (n : Need) (block : BlockId) (mode : Mode) (fact : n ≡ Some (block, mode))
    (t : TokensState) (a : AsksAs n t) (idle : is_asking (held_of t.blocks block) ≡ false) where
  -- the block that is needed is the one that asks
  abbrev block_in : Need → BlockId
  block_in None = block
  block_in (Some e) = e.0

  same : (b : BlockId) (m : Mode) → n ≡ Some (b, m) → b ≡ block
  same b m asks = ap block_in (sym asks ∙ fact)

  idle_at : (b : BlockId) (m : Mode) → n ≡ Some (b, m) → is_asking (held_of t.blocks b) ≡ false
  idle_at b m asks = ap (λ c. is_asking (held_of t.blocks c)) (same b m asks) ∙ idle

  want_none : (b : BlockId) (low : Mode) (w : Option Wanted) → (is_some w ≡ true → is_asking (held_of t.blocks b) ≡ true) → WantSuits n b low w
      → WantSuits None b low w
  want_none b low None asks p = tt
  want_none b low (Some w) asks p = contrary (sym (idle_at b w.mode p.0) ∙ asks refl)

  fetch_none : (b : BlockId) (f : Option Fetch) → (is_some f ≡ true → is_asking (held_of t.blocks b) ≡ true) → FetchSuits n b f → FetchSuits None b f
  fetch_none b None asks p = tt
  fetch_none b (Some f) asks p = contrary (sym (idle_at b Copy p) ∙ asks refl)

  -- where the needed block doesn't ask, none does
  pub nothing_asks : AsksAs None t
  nothing_asks = record {
    sound = a.sound;
    suits = λ b.
        (let h : Held = held_of t.blocks b in
        record { want = want_none b h.mode h.want (asks_by_want h) (a.suits b).want; fetch = fetch_none b h.fetch (asks_by_fetch h) (a.suits b).fetch });
  }
