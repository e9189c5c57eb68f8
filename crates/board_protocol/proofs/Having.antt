-- What is chosen was had by two boards, each at a moment of its own: the accepted lengths are those of lists that boards had.
use Rattle.std.proofs.Common.{ℕ, ◌≡◌, ◌<◌, ◌≤◌, ◌∙◌, List, length, arith, refl, inl, subst, sym, ap, ⊎_elim, ◌⊎◌}
use Rattle.std.proofs.lemmas.Bool.Decides.{nat_tests}
use Rattle.board_protocol.specs.Basics.{Prefix}
use Rattle.board_protocol.specs.World.{World, start}
use Rattle.board_protocol.specs.Laws.{Chosen, Had, HadTwice}
use Rattle.board_protocol.specs.Step.{Step, Steps}
use Rattle.board_protocol.specs.Step.Step.{Extends, Ticks, LeadsWithOwn, LeadsWithTheirs, Installs, Appends}
use Rattle.board_protocol.specs.Step.Steps.{Done, More}
use Rattle.board_protocol.proofs.Prefixes.{through, shorter}
use Rattle.board_protocol.proofs.Invariant.{Invariant, always, begins, onward}

module _ {C : Type 0} where
  -- A step changes what a board accepted with a ballot only where that is the board's ballot then.
  abbrev Changes : World C → World C → ℕ → ℕ → Type 0
  Changes w v d b = (v.accepted d b ≡ w.accepted d b) ⊎ ((v.board d).ballot ≡ b)

  changes : (w v : World C) → Step w v → (d b : ℕ) → Changes w v d b
  changes w v (Extends k c h) d b = grind (arith, nat_tests)
  changes w v (Ticks k c h) d b = grind (arith, nat_tests)
  changes w v (LeadsWithOwn k p h) d b = grind (arith, nat_tests)
  changes w v (LeadsWithTheirs k p h) d b = grind (arith, nat_tests)
  changes w v (Installs k p h) d b = grind (arith, nat_tests)
  changes w v (Appends k p h) d b = grind (arith, nat_tests)
  changes w v step d b = inl refl

  -- A board that accepted so much with a ballot had a list of that length with it.
  record Long (u v : World C) (k b n : ℕ) : Type 0 where
    moment : World C
    before : Steps u moment
    after : Steps moment v
    ballot : (moment.board k).ballot ≡ b
    long : n ≤ length (moment.board k).list

  long : (u v : World C) → Steps u v → ((k b : ℕ) → u.accepted k b ≡ 0) → Invariant u → (k b n : ℕ) → 0 < n → n ≤ v.accepted k b → Long u v k b n
  long u v Done none i k b n some l = absurd (grind (arith, some, l, none k b))
  long u v (More {v = x} steps step) none i k b n some l =
      ⊎_elim
      (λ (same : v.accepted k b ≡ x.accepted k b).
      let old = long u x steps none i k b n some (subst (λ m. n ≤ m) same l) in
      record { moment = old.moment; before = old.before; after = More old.after step; ballot = old.ballot; long = old.long })
      (λ (now : (v.board k).ballot ≡ b).
      record {
        moment = v;
        before = More steps step;
        after = Done;
        ballot = now;
        long = subst (λ m. n ≤ m) (ap (v.accepted k) (sym now) ∙ ((onward u v (More steps step) i).1.standing.stands k).now) l;
      })
      (changes x v step k b)

  had : (owner : ℕ → ℕ) (v : World C) → Steps (start owner) v → (k b : ℕ) (xs : List C) → 0 < length xs → length xs ≤ v.accepted k b → Prefix xs (v.book b) → Had owner v k b xs
  had owner v steps k b xs some l listed =
      let old = long (start owner) v steps (λ k b. refl) (begins owner) k b (length xs) some l in
      let then = always owner old.moment old.before in
      let s = then.standing.stands k in
      let grown = (onward old.moment v old.after then).0.book (old.moment.board k).ballot s.led in
      let whole : Prefix (old.moment.board k).list (v.book b) =
      subst (λ c. Prefix (old.moment.board k).list (v.book c)) old.ballot (through (old.moment.board k).list (old.moment.book (old.moment.board k).ballot) (v.book (old.moment.board k).ballot) s.listed grown) in
      record { moment = old.moment; before = old.before; after = old.after; ballot = old.ballot; listed = shorter xs (old.moment.board k).list (v.book b) listed whole old.long }

  pub had_twice : (owner : ℕ → ℕ) (v : World C) → Steps (start owner) v → (xs : List C) → 0 < length xs → Chosen v xs → HadTwice owner v xs
  had_twice owner v steps xs some x = record {
    ballot = x.ballot;
    one = x.one;
    other = x.other;
    one_board = x.one_board;
    other_board = x.other_board;
    apart = x.apart;
    one_had = had owner v steps x.one x.ballot xs some x.one_accepted x.listed;
    other_had = had owner v steps x.other x.ballot xs some x.other_accepted x.listed;
  }
