-- Of a client that asks for its open call alone, and is to give up dirty blocks alone: what it need not ask for it has asked for, or is to give up.
use Rattle.std.proofs.Common.{◌≡◌, ◌⊎◌, ◌&&◌, ◌||◌, not, nat_lt, Bool, true, false, Option, Some, None, is_some, is_none, inl, inr, refl, sym, ap, ◌∙◌}
use Rattle.std.proofs.lemmas.Bool.{ltb-false}
use Rattle.client_call.specs.declared.call.Call.{Call}
use Rattle.client_serving.specs.declared.serving.Serving.{Serving}
use Rattle.client_serving.specs.Flights.{held_at}
use Rattle.file_plan.specs.declared.block_call.BlockCall.{BlockCall}
use Rattle.file_plan.specs.declared.block_call.BlockCall.TheVariants.{Get, Put, PutAt, Sync}
use Rattle.node_slots.specs.client_law.Giving.{GivesOnlyDirty}
use Rattle.node_slots.specs.node_tie.Asks.{AsksForCall, needed, needed_by}
use Rattle.token_client.specs.declared.held.Fetch.{Fetch}
use Rattle.token_client.specs.declared.held.Held.{Held}
use Rattle.token_client.specs.declared.held.Wanted.{Wanted}
use Rattle.token_client.specs.Held.{is_asking, may_write}
use Rattle.xfs_base.proofs.Booleans.{contrary}
use Rattle.xfs_base.specs.declared.block.BlockId.{BlockId}
use Rattle.xfs_base.specs.declared.token.Mode.{Mode}
use Rattle.xfs_base.specs.declared.token.Mode.TheVariants.{Nothing, Copy, Own}
use Rattle.xfs_base.specs.Limits.{u64_end}
use Rattle.xfs_base.specs.Modes.{allows, is_nothing, is_own}
use Rattle.run_answers.proofs.wait_law.Steps.{AwaitsSo, BarredFrom, NeedsNone}
use Rattle.headline.specs.Waits.{Awaits, AwaitsLeave, HasAsked}
use Rattle.headline.specs.Waits.HasAsked.{Wants, Fetches, GivesUp, IsLast, HasNoNumber}

-- ---- tests

either_asks : (a b : Bool) → (a || b) ≡ true → (a ≡ true) ⊎ (b ≡ true)
either_asks true b fact = inl refl
either_asks false b fact = inr fact

-- why it need not ask: it asks, or is to give the block up, or what is held serves
why : (asks free serves : Bool) → ((not asks && free) && not serves) ≡ false → (asks ≡ true) ⊎ ((free ≡ false) ⊎ ((free ≡ true) × (serves ≡ true)))
why true free serves fact = inl refl
why false false serves fact = inr (inl refl)
why false true true fact = inr (inr (refl, refl))
why false true false fact = absurd (let clash : true ≡ false = fact in cc)

some_of : {X : Type 0} (o : Option X) → is_none o ≡ false → is_some o ≡ true
some_of None fact = absurd (let clash : true ≡ false = fact in cc)
some_of (Some x) fact = refl

-- what is owned, and nobody awaits, may be written, but for its last version
last_one : (own free below : Bool) → own ≡ true → free ≡ true → ((own && free) && below) ≡ false → below ≡ false
last_one true true below one two fact = fact
last_one true false below one two fact = contrary two
last_one false free below one two fact = contrary one

no_copy : (m : Mode) → is_nothing m ≡ true → allows m Copy ≡ true → ⊥
no_copy Nothing nothing serves = absurd (let clash : false ≡ true = serves in cc)
no_copy Copy nothing serves = absurd (let clash : false ≡ true = nothing in cc)
no_copy Own nothing serves = absurd (let clash : false ≡ true = nothing in cc)

not_own : (m : Mode) → is_nothing m ≡ true → is_own m ≡ true → ⊥
not_own Nothing nothing own = absurd (let clash : false ≡ true = own in cc)
not_own Copy nothing own = absurd (let clash : false ≡ true = own in cc)
not_own Own nothing own = absurd (let clash : false ≡ true = nothing in cc)

abbrev mode_in : Option (BlockId × Mode) → Mode
mode_in None = Nothing
mode_in (Some e) = e.1

-- ---- what is asked for

module _ (t : Serving) (asks : AsksForCall t) (gives : GivesOnlyDirty t) (call : Call) (stands : t.call ≡ Some call) (block : BlockId) where
  abbrev h : Held
  h = held_at t block

  module _ (mode : Mode) (need : needed_by call.step ≡ Some (block, mode)) where
    -- what is asked for of the block is asked for in this mode
    in_mode : (other : Mode) → needed t.call ≡ Some (block, other) → other ≡ mode
    in_mode other asked = ap mode_in (sym asked ∙ (ap needed stands ∙ need))

    by_want : (o : Option Wanted) → h.want ≡ o → is_some o ≡ true → HasAsked t block mode
    by_want None is some = contrary some
    by_want (Some w) is some = Wants w is (in_mode w.mode (asks.wanted block w is))

    by_fetch : (o : Option Fetch) → h.fetch ≡ o → is_some o ≡ true → HasAsked t block mode
    by_fetch None is some = contrary some
    by_fetch (Some f) is some = Fetches (sym (in_mode Copy (asks.fetched block f is))) (ap is_some is)

    by_asking : is_asking h ≡ true → HasAsked t block mode
    by_asking fact = by (either_asks (is_some h.want) (is_some h.fetch) fact)
      where
        by : (is_some h.want ≡ true) ⊎ (is_some h.fetch ≡ true) → HasAsked t block mode
        by (inl some) = by_want h.want refl some
        by (inr some) = by_fetch h.fetch refl some

  -- what is to be given up is owned
  given_own : is_none h.giving ≡ false → is_own h.mode ≡ true
  given_own giving = (asks.sound.each block).dirty_owned (gives block (some_of h.giving giving))

  to_read : needed_by call.step ≡ Some (block, Copy) → is_nothing h.mode ≡ true → NeedsNone t block Copy → HasAsked t block Copy
  to_read need nothing (inr end) = HasNoNumber end
  to_read need nothing (inl barred) = by (why (is_asking h) (is_none h.giving) (allows h.mode Copy) barred)
    where
      by : (is_asking h ≡ true) ⊎ ((is_none h.giving ≡ false) ⊎ ((is_none h.giving ≡ true) × (allows h.mode Copy ≡ true))) → HasAsked t block Copy
      by (inl asking) = by_asking Copy need asking
      by (inr (inl giving)) = absurd (not_own h.mode nothing (given_own giving))
      by (inr (inr serves)) = absurd (no_copy h.mode nothing serves.1)

  to_write : needed_by call.step ≡ Some (block, Own) → may_write h ≡ false → NeedsNone t block Own → HasAsked t block Own
  to_write need barred (inr end) = HasNoNumber end
  to_write need barred (inl none) = by (why (is_asking h) (is_none h.giving) (allows h.mode Own) none)
    where
      by : (is_asking h ≡ true) ⊎ ((is_none h.giving ≡ false) ⊎ ((is_none h.giving ≡ true) × (allows h.mode Own ≡ true))) → HasAsked t block Own
      by (inl asking) = by_asking Own need asking
      by (inr (inl giving)) = GivesUp refl (given_own giving) (some_of h.giving giving) (gives block (some_of h.giving giving))
      by (inr (inr serves)) =
          IsLast refl serves.1 (ltb-false h.ver u64_end (last_one (is_own h.mode) (is_none h.giving) (nat_lt h.ver u64_end) serves.1 serves.0 barred))

  leave : needed_by call.step ≡ Some (block, Own) → BarredFrom t block → AwaitsLeave t block
  leave need b = (b.0, to_write need b.0 b.1)

module _ (t : Serving) (asks : AsksForCall t) (gives : GivesOnlyDirty t) (call : Call) (stands : t.call ≡ Some call) where
  pub awaits_asked : (step : BlockCall) → call.step ≡ step → AwaitsSo t step → Awaits t step
  awaits_asked (Get block) is a = (a.0, to_read t asks gives call stands block (ap needed_by is) a.0 a.1)
  awaits_asked (Put block value) is (inl b) = inl (leave t asks gives call stands block (ap needed_by is) b)
  awaits_asked (Put block value) is (inr fails) = inr fails
  awaits_asked (PutAt block ver value) is (inl b) = inl (leave t asks gives call stands block (ap needed_by is) b)
  awaits_asked (PutAt block ver value) is (inr fails) = inr fails
  awaits_asked Sync is a = a
