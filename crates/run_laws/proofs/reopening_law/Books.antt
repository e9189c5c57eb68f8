-- The books of a log that is opened again: its end, what is said up to it, and that nothing is said behind what was there before.
use Rattle.std.proofs.Common.{◌≡◌, ◌≤◌, ◌<◌, ◌+◌, ℕ, zero, suc, Bool, true, false, [], nat_le, refl, sym, ap, ◌∙◌, arith}
use Rattle.std.proofs.lemmas.Bool.{leb-false, leb-true}
use Rattle.node_slots.proofs.node_tie.ClientBooks.{filed_end, put_here, put_there, said_now, said_still}
use Rattle.token_law.specs.Books.{Books, filed, reopened, sealed, with_empty}
use Rattle.token_protocol.specs.Basics.{put}

apart : (q e : ℕ) → q < e → q ≡ e → ⊥
apart q e less same = omega arith

-- one segment that says nothing
abbrev one : Books → ℕ → Books
one k l = filed (sealed k l []) l

one_end : (k : Books) (l : ℕ) → (one k l).end l ≡ suc (k.end l)
one_end k l = filed_end (sealed k l []) l

-- so many more are filed
pub empty_end : (count : ℕ) (k : Books) (l : ℕ) → (with_empty count k l).end l ≡ count + k.end l
empty_end zero k l = omega arith
empty_end (suc count) k l = (let e = empty_end count (one k l) l in let f = one_end k l in omega arith)

-- what was there says what it said
pub empty_keeps : (count : ℕ) (k : Books) (l q : ℕ) → q ≤ k.end l → (with_empty count k l).rows l q ≡ k.rows l q
empty_keeps zero k l q old = refl
empty_keeps (suc count) k l q old =
    empty_keeps count (one k l) l q (let e = one_end k l in omega arith) ∙ said_still k l [] q (apart q (suc (k.end l)) (omega arith))

-- what is new says nothing
pub empty_says : (count : ℕ) (k : Books) (l q : ℕ) → k.end l < q → q ≤ count + k.end l → (with_empty count k l).rows l q ≡ []
empty_says zero k l q new within = absurd (omega arith)
empty_says (suc count) k l q new within = by (nat_le q (suc (k.end l))) refl (empty_says count (one k l) l q)
  where
    by : (t : Bool) → nat_le q (suc (k.end l)) ≡ t
        → ((one k l).end l < q → q ≤ count + (one k l).end l → (with_empty (suc count) k l).rows l q ≡ []) → (with_empty (suc count) k l).rows l q ≡ []
    by true t rest =
        let low = leb-true q (suc (k.end l)) t in
        let same : suc (k.end l) ≡ q = omega arith in
        empty_keeps count (one k l) l q (let e = one_end k l in omega arith)
        ∙ (ap ((one k l).rows l) (sym same) ∙ said_now k l [])
    by false t rest =
        let high = leb-false q (suc (k.end l)) t in
        let e = one_end k l in
        rest (omega arith) (omega arith)

pub empty_flies : (count : ℕ) (k : Books) (l : ℕ) → k.flying l ≡ false → (with_empty count k l).flying l ≡ false
empty_flies zero k l none = none
empty_flies (suc count) k l none = empty_flies count (one k l) l (put_here (sealed k l []).flying l false)

-- with what was in flight, or without

pub adopted_end : (k : Books) (l : ℕ) → (reopened k l true).end l ≡ suc (k.end l)
adopted_end k l = filed_end k l

pub discarded_keeps : (k : Books) (l q : ℕ) → q ≤ k.end l → (reopened k l false).rows l q ≡ k.rows l q
discarded_keeps k l q old =
    ap (λ f. f q) (put_here k.rows l (put (k.rows l) (suc (k.end l)) [])) ∙ put_there (k.rows l) (suc (k.end l)) [] q (apart q (suc (k.end l)) (omega arith))

pub reopened_rises : (k : Books) (l : ℕ) (adopted : Bool) → k.end l ≤ (reopened k l adopted).end l
reopened_rises k l true = (let a = adopted_end k l in omega arith)
reopened_rises k l false = omega arith

pub reopened_flies : (k : Books) (l : ℕ) (adopted : Bool) → (reopened k l adopted).flying l ≡ false
reopened_flies k l true = put_here k.flying l false
reopened_flies k l false = put_here k.flying l false

pub reopened_keeps : (k : Books) (l : ℕ) (adopted : Bool) (q : ℕ) → q ≤ k.end l → (reopened k l adopted).rows l q ≡ k.rows l q
reopened_keeps k l true q old = refl
reopened_keeps k l false q old = discarded_keeps k l q old
