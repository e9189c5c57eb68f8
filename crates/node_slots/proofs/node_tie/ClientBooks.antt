-- The books of one log, changed by one thing that happens to it: what of them stays.
use Rattle.std.proofs.Common.{◌≡◌, ◌≤◌, ◌<◌, ℕ, suc, ◌==◌, Bool, true, false, cond, refl, sym, ap, subst, ◌∙◌, arith}
use Rattle.std.proofs.lemmas.Bool.Decides.{nat_tests}
use Rattle.std.proofs.lemmas.Bool.{eqb-true, ne_eqb}
use Rattle.token_law.specs.Books.{Books, sealed, filed}
use Rattle.token_protocol.specs.Basics.{put}
use Rattle.xfs_base.proofs.Booleans.{contrary, equal_itself}
use Rattle.node_slots.specs.node_tie.ClientLogs.{NothingBeyond}
use Rattle.node_slots.specs.node_tie.Sight.{SameLog}
use Rattle.node_slots.proofs.node_tie.ClientRows.{Rows}

-- ---- a function changed at one place

pub put_here : {X : Type 0} (f : ℕ → X) (c : ℕ) (x : X) → put f c x c ≡ x
put_here f c x = ap (λ t. cond t x (f c)) (equal_itself c)

pub put_there : {X : Type 0} (f : ℕ → X) (c : ℕ) (x : X) (d : ℕ) → (d ≡ c → ⊥) → put f c x d ≡ f d
put_there f c x d other = ap (λ t. cond t x (f d)) (ne_eqb d c other)

-- ---- what stays

pub same_log_on : (k m o : Books) (l : ℕ) → SameLog k m l → SameLog m o l → SameLog k o l
same_log_on k m o l p q = record { end = q.end ∙ p.end; flying = q.flying ∙ p.flying; rows = q.rows ∙ p.rows }

pub same_log : (k : Books) (l : ℕ) → SameLog k k l
same_log k l = record { end = refl; flying = refl; rows = refl }

-- the segment behind the end, once it is sealed
pub said_now : (k : Books) (c : ℕ) (rows : Rows) → (sealed k c rows).rows c (suc (k.end c)) ≡ rows
said_now k c rows =
    ap (λ (f : ℕ → Rows). f (suc (k.end c))) (put_here k.rows c (put (k.rows c) (suc (k.end c)) rows)) ∙ put_here (k.rows c) (suc (k.end c)) rows

pub said_still : (k : Books) (c : ℕ) (rows : Rows) (q : ℕ) → (q ≡ suc (k.end c) → ⊥) → (sealed k c rows).rows c q ≡ k.rows c q
said_still k c rows q other =
    ap (λ (f : ℕ → Rows). f q) (put_here k.rows c (put (k.rows c) (suc (k.end c)) rows)) ∙ put_there (k.rows c) (suc (k.end c)) rows q other

pub sealed_beyond : (k : Books) (c : ℕ) (rows : Rows) → NothingBeyond k c → NothingBeyond (sealed k c rows) c
sealed_beyond k c rows h q past = said_still k c rows q (λ fact. not_it q (suc (k.end c)) fact past) ∙ h q past
  where
    not_it : (q e : ℕ) → q ≡ e → e < q → ⊥
    not_it q e fact past = omega (arith, fact, past)

pub filed_end : (k : Books) (c : ℕ) → (filed k c).end c ≡ suc (k.end c)
filed_end k c = put_here k.end c (suc (k.end c))

pub filed_beyond : (k : Books) (c : ℕ) → NothingBeyond k c → NothingBeyond (filed k c) c
filed_beyond k c h q past = h q (further (k.end c) q (subst (λ e. suc e < q) (filed_end k c) past))
  where
    further : (e q : ℕ) → suc (suc e) < q → suc e < q
    further e q h = omega (arith, h)

pub other_sealed : (k : Books) (c : ℕ) (rows : Rows) (l : ℕ) → (l ≡ c → ⊥) → SameLog k (sealed k c rows) l
other_sealed k c rows l other = record {
  end = refl;
  flying = put_there k.flying c true l other;
  rows = put_there k.rows c (put (k.rows c) (suc (k.end c)) rows) l other;
}

pub other_filed : (k : Books) (c l : ℕ) → (l ≡ c → ⊥) → SameLog k (filed k c) l
other_filed k c l other = record { end = put_there k.end c (suc (k.end c)) l other; flying = put_there k.flying c false l other; rows = refl }

-- ---- how a log goes on

-- Of this log what is filed stays filed, and says what it said; and what was in flight says what it said, and is in flight while the end stands still.
pub record Onward (k m : Books) (c : ℕ) : Type 0 where
  pub rises : k.end c ≤ m.end c
  pub past : (q : ℕ) → q ≤ k.end c → m.rows c q ≡ k.rows c q
  pub flown : k.flying c ≡ true → m.rows c (suc (k.end c)) ≡ k.rows c (suc (k.end c))
  pub lands : k.flying c ≡ true → m.end c ≡ k.end c → m.flying c ≡ true

pub onward_still : (k : Books) (c : ℕ) → Onward k k c
onward_still k c = record { rises = omega arith; past = λ q low. refl; flown = λ flies. refl; lands = λ flies same. flies }

pub onward_on : (k m o : Books) (c : ℕ) → Onward k m c → Onward m o c → Onward k o c
onward_on k m o c p q = record {
  rises = up (k.end c) (m.end c) (o.end c) p.rises q.rises;
  past = λ n low. q.past n (below n (k.end c) (m.end c) low p.rises) ∙ p.past n low;
  flown = λ flies. by_end flies (m.end c == k.end c) refl;
  lands = λ flies same.
      let mid : m.end c ≡ k.end c = between (k.end c) (m.end c) (o.end c) p.rises q.rises same in
      q.lands (p.lands flies mid) (same ∙ sym mid);
}
  where
    up : (a b d : ℕ) → a ≤ b → b ≤ d → a ≤ d
    up a b d h i = omega (arith, h, i)

    below : (n a b : ℕ) → n ≤ a → a ≤ b → n ≤ b
    below n a b h i = omega (arith, h, i)

    between : (a b d : ℕ) → a ≤ b → b ≤ d → d ≡ a → b ≡ a
    between a b d h i e = omega (arith, h, i, e)

    above : (a b : ℕ) → (b == a) ≡ false → a ≤ b → suc a ≤ b
    above a b t h = grind (arith, nat_tests)

    by_end : k.flying c ≡ true → (t : Bool) → (m.end c == k.end c) ≡ t → o.rows c (suc (k.end c)) ≡ k.rows c (suc (k.end c))
    by_end flies true t =
        let e : m.end c ≡ k.end c = eqb-true (m.end c) (k.end c) t in
        subst (λ x. o.rows c (suc x) ≡ m.rows c (suc x)) e (q.flown (p.lands flies e)) ∙ p.flown flies
    by_end flies false t = q.past (suc (k.end c)) (above (k.end c) (m.end c) t p.rises) ∙ p.flown flies

pub onward_sealed : (k : Books) (c : ℕ) (rows : Rows) → k.flying c ≡ false → Onward k (sealed k c rows) c
onward_sealed k c rows idle = record {
  rises = omega arith;
  past = λ q low. said_still k c rows q (λ fact. not_it q (k.end c) fact low);
  flown = λ flies. contrary (sym idle ∙ flies);
  lands = λ flies same. contrary (sym idle ∙ flies);
}
  where
    not_it : (q e : ℕ) → q ≡ suc e → q ≤ e → ⊥
    not_it q e fact low = omega (arith, fact, low)

pub onward_filed : (k : Books) (c : ℕ) → Onward k (filed k c) c
onward_filed k c = record {
  rises = subst (λ e. k.end c ≤ e) (sym (filed_end k c)) (more (k.end c));
  past = λ q low. refl;
  flown = λ flies. refl;
  lands = λ flies same. absurd (not_same (k.end c) (sym (filed_end k c) ∙ same));
}
  where
    more : (e : ℕ) → e ≤ suc e
    more e = omega arith

    not_same : (e : ℕ) → suc e ≡ e → ⊥
    not_same e fact = omega (arith, fact)
