-- What holds of a block still holds once an event has changed it: one lemma for each change.
use Rattle.std.proofs.Common.{◌≡◌, ◌≤◌, ℕ, Bool, true, false, ◌&&◌, ◌||◌, List, Option, Some, None, is_some, is_none, refl, sym, ap, ◌∙◌, arith, nat_lt, nat_le}
use Rattle.std.proofs.lemmas.Bool.Decides.{nat_tests}
use Rattle.xfs_base.specs.declared.entry.Place.{Place}
use Rattle.xfs_base.specs.declared.entry.Entry.{Entry}
use Rattle.xfs_base.specs.declared.token.Mode.{Mode}
use Rattle.xfs_base.specs.declared.token.Mode.TheVariants.{Nothing, Copy, Own}
use Rattle.xfs_base.specs.declared.token.Stamp.{Stamp}
use Rattle.xfs_base.specs.Modes.{is_held, is_own}
use Rattle.xfs_base.specs.Stamps.{is_later}
use Rattle.xfs_base.proofs.Booleans.{contrary, by_test, and_second, or_second}
use Rattle.token_client.specs.declared.held.Fetch.{Fetch}
use Rattle.token_client.specs.declared.held.Giving.{Giving}
use Rattle.token_client.specs.declared.held.Held.{Held}
use Rattle.token_client.specs.declared.held.Wanted.{Wanted}
use Rattle.token_client.specs.Held.{held_new, is_dirty, is_asking, held_ask, asked_again, held_own, copy_of, fetch_from, take_copy, take_grant, end_fetch, held_write, version_settled, let_go, quit, unfetched, drop_promised, gives_after, put_off, give_up}
use Rattle.token_client.specs.Laws.{IsSoundBlock, IsGivingAbove}

or_left : (a b : Bool) → (a || false) ≡ true → (a || b) ≡ true
or_left true b h = refl
or_left false b h = contrary h

clean_unless_owned : (dirty own : Bool) → (dirty ≡ true → own ≡ true) → own ≡ false → dirty ≡ false
clean_unless_owned true own f h = sym (f refl) ∙ h
clean_unless_owned false own f h = refl

own_is_held : (mode : Mode) → is_own mode ≡ true → is_held mode ≡ true
own_is_held Nothing h = h
own_is_held Copy h = refl
own_is_held Own h = refl

-- what isn't held isn't owned
pub unheld_is_unowned : (mode : Mode) → is_held mode ≡ false → is_own mode ≡ false
unheld_is_unowned Nothing h = refl
unheld_is_unowned Copy h = refl
unheld_is_unowned Own h = h

nothing_above : (epoch : ℕ) (stamp : Stamp) (giving : Option Giving) → is_none giving ≡ true → IsGivingAbove epoch stamp giving
nothing_above epoch stamp None h = tt
nothing_above epoch stamp (Some giving) h = contrary h

-- a block with a want asks, and one with a fetch
pub asks_by_want : (h : Held) → is_some h.want ≡ true → is_asking h ≡ true
asks_by_want h w = ap (λ b. b || is_some h.fetch) w

pub asks_by_fetch : (h : Held) → is_some h.fetch ≡ true → is_asking h ≡ true
asks_by_fetch h f = or_second (is_some h.want) (is_some h.fetch) f

-- a block without its fetch asks only if it asked
pub asks_less : (h : Held) → is_asking (unfetched h) ≡ true → is_asking h ≡ true
asks_less h a = or_left (is_some h.want) (is_some h.fetch) a

-- that an asking block is clean follows from the rest
sound : (epoch : ℕ) (h : Held) → (is_asking h ≡ true → is_own h.mode ≡ false) → (is_asking h ≡ true → is_none h.giving ≡ true)
    → (is_some h.fetch ≡ true → is_held h.mode ≡ false)
    → h.settled ≤ h.ver → (is_dirty h ≡ true → is_own h.mode ≡ true) → IsGivingAbove epoch h.stamp h.giving → (is_held h.mode ≡ false → is_none h.value ≡ true)
    → IsSoundBlock epoch h
sound epoch h unowned ungiven unheld below own above valueless = record {
  asks_unowned = unowned;
  asks_clean = λ a. clean_unless_owned (is_dirty h) (is_own h.mode) own (unowned a);
  asks_ungiven = ungiven;
  fetch_unheld = unheld;
  settled_below = below;
  dirty_owned = own;
  giving_above = above;
  unheld_valueless = valueless;
}

pub held_new-sound : (epoch : ℕ) → IsSoundBlock epoch held_new
held_new-sound epoch = sound epoch held_new (λ a. refl) (λ a. refl) (λ f. refl) (omega arith) (λ d. d) tt (λ v. refl)

itself_clean : (n : ℕ) → nat_lt n n ≡ true → false ≡ true
itself_clean n h = grind (arith, nat_tests)

module _ (epoch : ℕ) (h : Held) (p : IsSoundBlock epoch h) where
  pub held_ask-sound : (req : ℕ) (mode : Mode) → is_own h.mode ≡ false → is_none h.giving ≡ true → IsSoundBlock epoch (held_ask h req mode)
  held_ask-sound req mode unowned ungiven =
      sound epoch (held_ask h req mode) (λ a. unowned) (λ a. ungiven) p.fetch_unheld p.settled_below p.dirty_owned p.giving_above p.unheld_valueless

  pub asked_again-sound : (w : Wanted) → is_asking h ≡ true → IsSoundBlock epoch (asked_again h w)
  asked_again-sound w a =
      sound epoch (asked_again h w) (λ b. p.asks_unowned a)
      (λ b. p.asks_ungiven a) p.fetch_unheld p.settled_below p.dirty_owned p.giving_above p.unheld_valueless

  held_own-sound : (stamp : Stamp) (ver : ℕ) → is_none h.giving ≡ true → IsSoundBlock epoch (held_own h stamp ver)
  held_own-sound stamp ver ungiven =
      sound epoch (held_own h stamp ver) (λ a. contrary a) (λ a. ungiven) (λ f. contrary f) (omega arith) (λ d. refl) (nothing_above epoch stamp h.giving ungiven)
      (λ v. refl)

  pub copy_of-sound : (stamp : Stamp) (ver : ℕ) (value : Option (List ℕ)) → is_none h.giving ≡ true → IsSoundBlock epoch (copy_of h stamp ver value)
  copy_of-sound stamp ver value ungiven =
      sound epoch (copy_of h stamp ver value) (λ a. refl) (λ a. ungiven) (λ f. contrary f) (omega arith) (λ d. contrary (itself_clean ver d))
      (nothing_above epoch stamp h.giving ungiven) (λ v. contrary (sym v))

  fetch_from-sound : (stamp : Stamp) (ver : ℕ) (place : Place) → is_asking h ≡ true → IsSoundBlock epoch (fetch_from h stamp ver place)
  fetch_from-sound stamp ver place a =
      sound epoch (fetch_from h stamp ver place) (λ b. refl) (λ b. p.asks_ungiven a) (λ f. refl) p.settled_below (λ d. contrary (sym (p.asks_clean a) ∙ d))
      (nothing_above epoch stamp h.giving (p.asks_ungiven a)) (λ v. refl)

  take_copy-sound : (stamp : Stamp) (ver : ℕ) (place : Option Place) → is_asking h ≡ true → IsSoundBlock epoch (take_copy h stamp ver place)
  take_copy-sound stamp ver None a = copy_of-sound stamp ver None (p.asks_ungiven a)
  take_copy-sound stamp ver (Some place) a = fetch_from-sound stamp ver place a

  pub take_grant-sound : (stamp : Stamp) (mode : Mode) (entry : Entry) → is_asking h ≡ true → IsSoundBlock epoch (take_grant h stamp mode entry)
  take_grant-sound stamp mode entry a =
      by_test (IsSoundBlock epoch) (is_own mode) (held_own h stamp entry.ver) (take_copy h stamp entry.ver entry.place)
      (λ t. held_own-sound stamp entry.ver (p.asks_ungiven a)) (λ t. take_copy-sound stamp entry.ver entry.place a)

  pub end_fetch-sound : (fetch : Option Fetch) (value : Option (List ℕ)) → is_none h.giving ≡ true → IsSoundBlock epoch (end_fetch h fetch value)
  end_fetch-sound None value ungiven = p
  end_fetch-sound (Some fetch) value ungiven =
      sound epoch (end_fetch h (Some fetch) value) (λ a. refl) (λ a. ungiven) (λ f. contrary f) (omega arith) (λ d. contrary (itself_clean fetch.ver d))
      (nothing_above epoch h.stamp h.giving ungiven) (λ v. contrary (sym v))

  pub held_write-sound : (value : Option (List ℕ)) → is_own h.mode ≡ true → IsSoundBlock epoch (held_write h value)
  held_write-sound value own =
      sound epoch (held_write h value) p.asks_unowned p.asks_ungiven p.fetch_unheld (let below : h.settled ≤ h.ver = p.settled_below in omega arith)
      (λ d. own) p.giving_above (λ v. contrary (sym v ∙ own_is_held h.mode own))

  pub version_settled-sound : (ver : ℕ) → nat_lt h.settled ver ≡ true → nat_le ver h.ver ≡ true → IsSoundBlock epoch (version_settled h ver)
  version_settled-sound ver more limit =
      let was : is_dirty h ≡ true = grind (arith, nat_tests) in
      let below : ver ≤ h.ver = grind (arith, nat_tests) in
      sound epoch (version_settled h ver) p.asks_unowned p.asks_ungiven p.fetch_unheld below (λ d. p.dirty_owned was) p.giving_above p.unheld_valueless

  pub let_go-sound : is_dirty h ≡ false → IsSoundBlock epoch (let_go h)
  let_go-sound clean = sound epoch (let_go h) (λ a. refl) p.asks_ungiven (λ f. refl) p.settled_below (λ d. contrary (sym clean ∙ d)) p.giving_above (λ v. refl)

  pub quit-sound : IsSoundBlock epoch (quit h)
  quit-sound = sound epoch (quit h) (λ a. contrary a) (λ a. contrary a) (λ f. contrary f) p.settled_below p.dirty_owned p.giving_above p.unheld_valueless

  pub unfetched-sound : IsSoundBlock epoch (unfetched h)
  unfetched-sound =
      sound epoch (unfetched h) (λ a. p.asks_unowned (asks_less h a)) (λ a. p.asks_ungiven (asks_less h a))
      (λ f. contrary f) p.settled_below p.dirty_owned p.giving_above p.unheld_valueless

  pub drop_promised-sound : (raised : ℕ) → IsSoundBlock raised (drop_promised h)
  drop_promised-sound raised =
      sound raised (drop_promised h) (λ a. p.asks_unowned (asks_less h a)) (λ a. refl) (λ f. contrary f) p.settled_below p.dirty_owned tt p.unheld_valueless

  pub put_off-sound : (stamp : Stamp) (keep : Bool) → is_dirty h ≡ true → stamp.epoch ≡ epoch → is_later stamp h.stamp ≡ true
      → IsSoundBlock epoch (put_off h stamp keep)
  put_off-sound stamp keep dirty promised above =
      let given : Held = record h { giving = Some (record { stamp = stamp; keep = keep }) } in
      by_test (IsSoundBlock epoch) (gives_after h.giving stamp) h given (λ t. p)
      (λ t. sound epoch given p.asks_unowned (λ a. contrary (sym (p.asks_clean a) ∙ dirty)) p.fetch_unheld p.settled_below p.dirty_owned
      (promised, above) p.unheld_valueless)

  pub give_up-sound : (stamp : Stamp) (keep : Bool) → is_dirty h ≡ false → IsSoundBlock epoch (give_up h stamp keep)
  give_up-sound stamp keep clean =
      let kept : Held = record h { mode = Copy; stamp = stamp; giving = None } in
      let gone : Held = record h { mode = Nothing; value = None; stamp = stamp; giving = None } in
      by_test (IsSoundBlock epoch) (keep && is_held h.mode) kept gone
      (λ t. sound epoch kept (λ a. refl) (λ a. refl) (λ f. contrary (sym (p.fetch_unheld f) ∙ and_second keep (is_held h.mode) t)) p.settled_below
      (λ d. contrary (sym clean ∙ d)) tt (λ v. contrary (sym v)))
      (λ t. sound epoch gone (λ a. refl) (λ a. refl) (λ f. refl) p.settled_below (λ d. contrary (sym clean ∙ d)) tt (λ v. refl))
