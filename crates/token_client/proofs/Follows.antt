-- One state follows another: what holds of each block holds, no stamp fell, no number fell, and a want or
-- a fetch was opened only where that is allowed.
use Rattle.std.proofs.Common.{◌≡◌, ◌≤◌, ◌⊎◌, ℕ, true, false, List, [], ◌∷◌, arith}
use Rattle.std.proofs.Common.{inl, inr}
use Rattle.xfs_base.specs.declared.block.BlockId.{BlockId}
use Rattle.xfs_base.specs.Blocks.{slot_of}
use Rattle.xfs_base.specs.Steps.{steps}
use Rattle.xfs_base.specs.Stamps.{is_later}
use Rattle.xfs_base.proofs.Orders.{not_later_itself, not_later_through}
use Rattle.token_client.specs.declared.held.Held.{Held}
use Rattle.token_client.specs.Held.{is_asking}
use Rattle.token_client.specs.Laws.{IsSound, IsSoundBlock}
use Rattle.token_client.specs.State.{TokensState, held_of, with_held, epoch_of}
use Rattle.token_client.specs.Transition.{Done}
use Rattle.token_client.proofs.Tables.{put_each, in_order-put}

pub record Follows (opens : BlockId → Type 0) (s t : TokensState) : Type 0 where
  pub sound : IsSound t
  pub stamps : (b : BlockId) → is_later (held_of s.blocks b).stamp (held_of t.blocks b).stamp ≡ false
  pub counted : s.req ≤ t.req
  pub opened : (b : BlockId) → is_asking (held_of t.blocks b) ≡ true → (is_asking (held_of s.blocks b) ≡ true) ⊎ opens b

-- what a block has to show for what is put to follow
pub record IsNext (opens : Type 0) (epoch : ℕ) (h g : Held) : Type 0 where
  pub sound : IsSoundBlock epoch g
  pub stamp : is_later h.stamp g.stamp ≡ false
  pub opened : is_asking g ≡ true → (is_asking h ≡ true) ⊎ opens

module _ (opens : BlockId → Type 0) where
  -- nothing changes
  pub follows_still : (s : TokensState) → IsSound s → Follows opens s s
  follows_still s p = record { sound = p; stamps = λ b. not_later_itself (held_of s.blocks b).stamp; counted = omega arith; opened = λ b a. inl a }

  -- one block changes, and the number may rise
  pub follows_put : (s : TokensState) (block : BlockId) (g : Held) (req : ℕ) → IsSound s → s.req ≤ req
      → IsNext (opens block) (epoch_of s.epochs (slot_of block.ino.0)) (held_of s.blocks block) g → Follows opens s (record (with_held s block g) { req = req })
  follows_put s block g req p rises next = record {
    sound = record {
      sorted = in_order-put block g s.blocks p.sorted;
      each = put_each (λ b h. IsSoundBlock (epoch_of s.epochs (slot_of b.ino.0)) h) block g s.blocks next.sound p.each;
    };
    stamps = put_each (λ b h. is_later (held_of s.blocks b).stamp h.stamp ≡ false) block g s.blocks next.stamp
        (λ b. not_later_itself (held_of s.blocks b).stamp);
    counted = rises;
    opened = put_each (λ b h. is_asking h ≡ true → (is_asking (held_of s.blocks b) ≡ true) ⊎ opens b) block g s.blocks next.opened (λ b a. inl a);
  }

  -- one block changes
  pub follows_with : (s : TokensState) (block : BlockId) (g : Held) → IsSound s
      → IsNext (opens block) (epoch_of s.epochs (slot_of block.ino.0)) (held_of s.blocks block) g → Follows opens s (with_held s block g)
  follows_with s block g p next = follows_put s block g s.req p (omega arith) next

  -- what follows what follows, follows
  pub follows_through : (s t u : TokensState) → Follows opens s t → Follows opens t u → Follows opens s u
  follows_through s t u p q = record {
    sound = q.sound;
    stamps = λ b. not_later_through (held_of s.blocks b).stamp (held_of t.blocks b).stamp (held_of u.blocks b).stamp (p.stamps b) (q.stamps b);
    counted = let first : s.req ≤ t.req = p.counted in let second : t.req ≤ u.req = q.counted in omega arith;
    opened = λ b a. joined (is_asking (held_of s.blocks b) ≡ true) (is_asking (held_of t.blocks b) ≡ true) (opens b) (p.opened b) (q.opened b a);
  }
    where
      joined : (A B C : Type 0) → (B → A ⊎ C) → B ⊎ C → A ⊎ C
      joined A B C f (inl b) = f b
      joined A B C f (inr c) = inr c

  -- of a step that follows, many follow
  pub follows_steps : {A : Type 0} (step : TokensState → A → Done) → ((s : TokensState) (x : A) → IsSound s → Follows opens s (step s x).state)
      → (s : TokensState) (xs : List A) → IsSound s → Follows opens s (steps step s xs).state
  follows_steps step one s [] p = follows_still s p
  follows_steps step one s (x ∷ xs) p = let f =
      one s x p in follows_through s (step s x).state (steps step (step s x).state xs).state f (follows_steps step one (step s x).state xs f.sound)

-- what opens only what was open opens nothing
pub follows_less : (opens : BlockId → Type 0) (s t : TokensState) → Follows (λ b. is_asking (held_of s.blocks b) ≡ true) s t → Follows opens s t
follows_less opens s t p = record {
  sound = p.sound;
  stamps = p.stamps;
  counted = p.counted;
  opened = λ b a. inl (either (is_asking (held_of s.blocks b) ≡ true) (p.opened b a));
}
  where
    either : (A : Type 0) → A ⊎ A → A
    either A (inl a) = a
    either A (inr a) = a

-- what may open more, may open this
pub follows_weaker : (opens more : BlockId → Type 0) (s t : TokensState) → ((b : BlockId) → opens b → more b) → Follows opens s t → Follows more s t
follows_weaker opens more s t f p = record {
  sound = p.sound;
  stamps = p.stamps;
  counted = p.counted;
  opened = λ b a. either (is_asking (held_of s.blocks b) ≡ true) (opens b) (more b) (f b) (p.opened b a);
}
  where
    either : (A B C : Type 0) → (B → C) → A ⊎ B → A ⊎ C
    either A B C g (inl a) = inl a
    either A B C g (inr b) = inr (g b)
