-- What a block asks for stays as it is needed, whatever changes the block: one lemma for each change.
use Rattle.std.proofs.Common.{◌≡◌, ℕ, Bool, true, false, ◌&&◌, List, Option, Some, None, is_some, is_none, refl, sym, ◌∙◌}
use Rattle.xfs_base.specs.declared.block.BlockId.{BlockId}
use Rattle.xfs_base.specs.declared.entry.Entry.{Entry}
use Rattle.xfs_base.specs.declared.entry.Place.{Place}
use Rattle.xfs_base.specs.declared.token.Mode.{Mode}
use Rattle.xfs_base.specs.declared.token.Mode.TheVariants.{Nothing, Copy, Own}
use Rattle.xfs_base.specs.declared.token.Stamp.{Stamp}
use Rattle.xfs_base.specs.Modes.{allows, is_held, is_own, same_mode}
use Rattle.xfs_base.proofs.Booleans.{contrary, by_test, and_second}
use Rattle.token_client.specs.declared.held.Fetch.{Fetch}
use Rattle.token_client.specs.declared.held.Held.{Held}
use Rattle.token_client.specs.declared.held.Wanted.{Wanted}
use Rattle.token_client.specs.Held.{held_new, is_wanted, gives_after, held_ask, asked_again, held_own, copy_of, take_copy, take_grant, end_fetch, held_write, version_settled, let_go, quit, unfetched, drop_promised, put_off, give_up}

-- what is needed: one block in one mode, or none
abbrev pub Need : Type 0
Need = Option (BlockId × Mode)

-- a want of the block is as needed, and above the mode that is held
abbrev pub WantSuits : Need → BlockId → Mode → Option Wanted → Type 0
WantSuits n block mode None = Unit {0}
WantSuits n block mode (Some w) = (n ≡ Some (block, w.mode)) × (allows mode w.mode ≡ false)

-- a fetch of the block is as needed
abbrev pub FetchSuits : Need → BlockId → Option Fetch → Type 0
FetchSuits n block None = Unit {0}
FetchSuits n block (Some f) = n ≡ Some (block, Copy)

pub record Suits (n : Need) (block : BlockId) (h : Held) : Type 0 where
  pub want : WantSuits n block h.mode h.want
  pub fetch : FetchSuits n block h.fetch

module _ (n : Need) (block : BlockId) where
  -- what is fetched is needed to be read
  pub fetch_needed : (f : Option Fetch) → FetchSuits n block f → is_some f ≡ true → n ≡ Some (block, Copy)
  fetch_needed None p h = contrary h
  fetch_needed (Some f) p h = p

  -- the same want, of a block that is held in a mode that allows no more
  lowered : (mode low : Mode) (w : Option Wanted) → ((m : Mode) → allows mode m ≡ false → allows low m ≡ false) → WantSuits n block mode w
      → WantSuits n block low w
  lowered mode low None f p = tt
  lowered mode low (Some w) f p = (p.0, f w.mode p.1)

  nothing_allows : (mode m : Mode) → allows mode m ≡ false → allows Nothing m ≡ false
  nothing_allows mode Nothing h = h
  nothing_allows mode Copy h = refl
  nothing_allows mode Own h = refl

  copy_allows : (mode m : Mode) → is_held mode ≡ true → allows mode m ≡ false → allows Copy m ≡ false
  copy_allows mode Nothing held h = h
  copy_allows mode Copy held h = contrary (sym h ∙ held)
  copy_allows mode Own held h = refl

  -- no want is one that suits, in any mode
  none_suits : (mode : Mode) (w : Option Wanted) → is_none w ≡ true → WantSuits n block mode w
  none_suits mode None h = tt
  none_suits mode (Some w) h = contrary h

  -- a want that a grant answers and that isn't to own is to read
  copy_answered : (mode m : Mode) (w : Option Wanted) (req : ℕ) → WantSuits n block mode w → is_wanted w req m ≡ true → is_own m ≡ false
      → n ≡ Some (block, Copy)
  copy_answered mode m None req p answers other = contrary answers
  copy_answered mode m (Some w) req p answers other = at_mode w.mode m p.0 p.1 (and_second _ _ answers) other
    where
      at_mode : (x m : Mode) → n ≡ Some (block, x) → allows mode x ≡ false → same_mode x m ≡ true → is_own m ≡ false → n ≡ Some (block, Copy)
      at_mode Nothing m fact above same other = contrary (sym above)
      at_mode Copy m fact above same other = fact
      at_mode Own Nothing fact above same other = contrary same
      at_mode Own Copy fact above same other = contrary same
      at_mode Own Own fact above same other = contrary (sym other)

  module _ (h : Held) (p : Suits n block h) where
    pub held_ask-suits : (req : ℕ) (mode : Mode) → n ≡ Some (block, mode) → allows h.mode mode ≡ false → Suits n block (held_ask h req mode)
    held_ask-suits req mode fact above = record { want = (fact, above); fetch = p.fetch }

    pub asked_again-suits : (w : Wanted) → WantSuits n block h.mode (Some w) → Suits n block (asked_again h w)
    asked_again-suits w q = record { want = q; fetch = p.fetch }

    take_copy-suits : (stamp : Stamp) (ver : ℕ) (place : Option Place) → n ≡ Some (block, Copy) → Suits n block (take_copy h stamp ver place)
    take_copy-suits stamp ver None fact = record { want = tt; fetch = tt }
    take_copy-suits stamp ver (Some place) fact = record { want = tt; fetch = fact }

    pub grant_needed : (req : ℕ) (mode : Mode) → is_wanted h.want req mode ≡ true → is_own mode ≡ false → n ≡ Some (block, Copy)
    grant_needed req mode answers other = copy_answered h.mode mode h.want req p.want answers other

    pub take_grant-suits : (stamp : Stamp) (req : ℕ) (mode : Mode) (entry : Entry) → is_wanted h.want req mode ≡ true
        → Suits n block (take_grant h stamp mode entry)
    take_grant-suits stamp req mode entry answers =
        by_test (Suits n block) (is_own mode) (held_own h stamp entry.ver) (take_copy h stamp entry.ver entry.place)
        (λ t. record { want = tt; fetch = tt }) (λ t. take_copy-suits stamp entry.ver entry.place (grant_needed req mode answers t))

    pub copy_of-suits : (stamp : Stamp) (ver : ℕ) (value : Option (List ℕ)) → Suits n block (copy_of h stamp ver value)
    copy_of-suits stamp ver value = record { want = tt; fetch = tt }

    pub end_fetch-suits : (f : Option Fetch) (value : Option (List ℕ)) → is_none h.want ≡ true → Suits n block (end_fetch h f value)
    end_fetch-suits None value unwanted = p
    end_fetch-suits (Some f) value unwanted = record { want = none_suits Copy h.want unwanted; fetch = tt }

    pub held_write-suits : (value : Option (List ℕ)) → Suits n block (held_write h value)
    held_write-suits value = record { want = p.want; fetch = p.fetch }

    pub version_settled-suits : (ver : ℕ) → Suits n block (version_settled h ver)
    version_settled-suits ver = record { want = p.want; fetch = p.fetch }

    pub let_go-suits : Suits n block (let_go h)
    let_go-suits = record { want = lowered h.mode Nothing h.want (nothing_allows h.mode) p.want; fetch = p.fetch }

    pub quit-suits : Suits n block (quit h)
    quit-suits = record { want = tt; fetch = tt }

    pub unfetched-suits : Suits n block (unfetched h)
    unfetched-suits = record { want = p.want; fetch = tt }

    pub drop_promised-suits : Suits n block (drop_promised h)
    drop_promised-suits = record { want = p.want; fetch = tt }

    pub put_off-suits : (stamp : Stamp) (keep : Bool) → Suits n block (put_off h stamp keep)
    put_off-suits stamp keep =
        by_test (Suits n block) (gives_after h.giving stamp) h (record h { giving = Some (record { stamp = stamp; keep = keep }) }) (λ t. p)
        (λ t. record { want = p.want; fetch = p.fetch })

    pub give_up-suits : (stamp : Stamp) (keep : Bool) → Suits n block (give_up h stamp keep)
    give_up-suits stamp keep =
        by_test (Suits n block) (keep && is_held h.mode)
        (record h { mode = Copy; stamp = stamp; giving = None }) (record h { mode = Nothing; value = None; stamp = stamp; giving = None })
        (λ t. record { want = lowered h.mode Copy h.want (λ m. copy_allows h.mode m (and_second keep (is_held h.mode) t)) p.want; fetch = p.fetch })
        (λ t. record { want = lowered h.mode Nothing h.want (nothing_allows h.mode) p.want; fetch = p.fetch })

  pub held_new-suits : Suits n block held_new
  held_new-suits = record { want = tt; fetch = tt }
