-- A block that a call on blocks needs has been asked for.
use Rattle.std.proofs.Common.{◌≡◌, ◌≤◌, ◌⊎◌, ◌+◌, nat_lt, false, inl, inr, refl, sym, ap, subst}
use Rattle.std.proofs.lemmas.Bool.{ltb-false}
use Rattle.client_serving.specs.declared.serving.Serving.{Serving}
use Rattle.client_serving.specs.Flights.{held_at}
use Rattle.client_serving.specs.Follow.{serving_follow, follow_one, hand}
use Rattle.client_serving.specs.Reads.{ends_reading}
use Rattle.token_client.proofs.Tables.{held_of-put_itself}
use Rattle.token_client.specs.declared.held.Held.{Held}
use Rattle.token_client.specs.declared.input.In.TheVariants.{Need}
use Rattle.token_client.specs.Held.{held_ask, must_ask}
use Rattle.token_client.specs.State.{TokensState, held_of, with_held}
use Rattle.token_client.specs.Transition as tokens
use Rattle.token_client.specs.Transition.{tokens_ask, on_need}
use Rattle.xfs_base.proofs.Booleans.{by_test}
use Rattle.xfs_base.specs.declared.block.BlockId.{BlockId}
use Rattle.xfs_base.specs.declared.token.Mode.{Mode}
use Rattle.xfs_base.specs.Limits.{u32_end}
use Rattle.xfs_base.specs.Steps.{still}

-- of the tokens behind a need: the block has its mode and its version still, and has been asked for
pub record IsAsked (before after : TokensState) (block : BlockId) (wish : Mode) : Type 0 where
  pub mode : (held_of after.blocks block).mode ≡ (held_of before.blocks block).mode
  pub ver : (held_of after.blocks block).ver ≡ (held_of before.blocks block).ver
  pub giving : (held_of after.blocks block).giving ≡ (held_of before.blocks block).giving
  pub asked_for : (must_ask (held_of after.blocks block) wish ≡ false) ⊎ (u32_end ≤ after.req)

module _ (s : TokensState) (block : BlockId) (mode : Mode) where
  abbrev h : Held
  h = held_of s.blocks block

  -- the state with a want more
  abbrev wanting : TokensState
  wanting = record (with_held s block (held_ask h (s.req + 1) mode)) { req = s.req + 1 }

  asks : IsAsked s wanting block mode
  asks =
      let is : held_of wanting.blocks block ≡ held_ask h (s.req + 1) mode = held_of-put_itself block (held_ask h (s.req + 1) mode) s.blocks in
      record {
        mode = ap (λ (k : Held). k.mode) is;
        ver = ap (λ (k : Held). k.ver) is;
        giving = ap (λ (k : Held). k.giving) is;
        asked_for = inl (ap (λ (k : Held). must_ask k mode) is);
      }

  wants_so : IsAsked s (tokens_ask s block mode).state block mode
  unfolding tokens_ask
  wants_so =
      by_test (λ (d : tokens.Done). IsAsked s d.state block mode) (nat_lt s.req u32_end) _ (still s) (λ _. asks)
      (λ fails. record { mode = refl; ver = refl; giving = refl; asked_for = inr (ltb-false s.req u32_end fails) })

  pub needs_so : IsAsked s (on_need s block mode).state block mode
  unfolding on_need
  needs_so =
      by_test (λ (d : tokens.Done). IsAsked s d.state block mode) (must_ask h mode) (tokens_ask s block mode) (still s) (λ _. wants_so)
      (λ fails. record { mode = refl; ver = refl; giving = refl; asked_for = inl fails })

-- what the tokens say of a need is followed with the tokens as they are
module _ (s : Serving) (block : BlockId) (mode : Mode) where
  abbrev Follows : tokens.Done → Type 0
  Follows d = (serving_follow (ends_reading (record s { tokens = d.state })) d.outs).state.tokens ≡ d.state

  follows_want : Follows (tokens_ask s.tokens block mode)
  unfolding tokens_ask serving_follow follow_one
  follows_want = by_test Follows (nat_lt s.tokens.req u32_end) _ (still s.tokens) (λ _. refl) (λ _. refl)

  follows_need : Follows (on_need s.tokens block mode)
  unfolding on_need serving_follow
  follows_need = by_test Follows (must_ask (held_at s block) mode) (tokens_ask s.tokens block mode) (still s.tokens) (λ _. follows_want) (λ _. refl)

  pub hands_need : (hand s (Need block mode)).state.tokens ≡ (on_need s.tokens block mode).state
  unfolding hand
  hands_need = follows_need

  pub has_asked : IsAsked s.tokens (hand s (Need block mode)).state.tokens block mode
  has_asked = subst (λ t. IsAsked s.tokens t block mode) (sym hands_need) (needs_so s.tokens block mode)
