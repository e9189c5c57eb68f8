-- What filed segments say stays, whatever happens in the small world.
use Rattle.std.proofs.Common.{◌≡◌, ◌≤◌, ℕ, zero, suc, ◌==◌, Bool, true, false, List, [], refl, sym, ap, subst, ◌∙◌, arith}
use Rattle.std.proofs.lemmas.Bool.Decides.{nat_tests}
use Rattle.xfs_base.specs.declared.block.BlockId.{BlockId}
use Rattle.token_law.specs.Books.{Row, Books, sealed, filed, discarded, reopened, with_empty}
use Rattle.token_law.specs.Net.{Net, Happens, Runs}
use Rattle.token_law.specs.Net.Happens.{Seals, Files, Returns, SealsCopies, FilesCopies, Reopens}
use Rattle.token_law.specs.Net.Runs.{Begun, On}
use Rattle.token_law.specs.Owed.{adopts}
use Rattle.token_protocol.specs.Basics.{put}
use Rattle.token_tie.proofs.Frames.{put_here, put_there}
use Rattle.node_slots.specs.node_tie.Sight.{SameLog}

-- no log is filed less far than before, and what its filed segments say stays
pub record Lasts (k m : Books) : Type 0 where
  pub filed : (l : ℕ) → k.end l ≤ m.end l
  pub rows : (l q : ℕ) → q ≤ k.end l → m.rows l q ≡ k.rows l q

pub up_to : (a b c : ℕ) → a ≤ b → b ≤ c → a ≤ c
up_to a b c h g = omega arith

pub lasts_still : (k : Books) → Lasts k k
lasts_still k = record { filed = λ l. omega arith; rows = λ l q within. refl }

pub lasts_through : (k m o : Books) → Lasts k m → Lasts m o → Lasts k o
lasts_through k m o a b = record {
  filed = λ l. up_to (k.end l) (m.end l) (o.end l) (a.filed l) (b.filed l);
  rows = λ l q within. b.rows l q (up_to q (k.end l) (m.end l) within (a.filed l)) ∙ a.rows l q within;
}

pub same_log : (k : Books) (l : ℕ) → SameLog k k l
same_log k l = record { end = refl; flying = refl; rows = refl }

pub same_through : (k m o : Books) (l : ℕ) → SameLog k m l → SameLog m o l → SameLog k o l
same_through k m o l a b = record { end = b.end ∙ a.end; flying = b.flying ∙ a.flying; rows = b.rows ∙ a.rows }

-- ---- each thing that happens to a log

by_own : (l own : ℕ) (P : Type 0) → (l ≡ own → P) → ((l ≡ own → ⊥) → P) → P
by_own l own P here there = by (l == own) refl
  where
    is_it : (l == own) ≡ true → l ≡ own
    is_it t = grind (arith, nat_tests)

    is_not : (l == own) ≡ false → l ≡ own → ⊥
    is_not t = grind (arith, nat_tests)

    by : (t : Bool) → (l == own) ≡ t → P
    by true t = here (is_it t)
    by false t = there (is_not t)

not_behind : (q n : ℕ) → q ≤ n → q ≡ suc n → ⊥
not_behind q n h fact = omega arith

-- the segment behind the end says something else
rows_behind : (k : Books) (own : ℕ) (rows : List (BlockId × Row)) (l q : ℕ) → q ≤ k.end l
    → put k.rows own (put (k.rows own) (suc (k.end own)) rows) l q ≡ k.rows l q
rows_behind k own rows l q within = by_own l own (put k.rows own (put (k.rows own) (suc (k.end own)) rows) l q ≡ k.rows l q)
    (λ fact. ap (λ (f : ℕ → List (BlockId × Row)). f q) (ap (put k.rows own (put (k.rows own) (suc (k.end own)) rows)) fact ∙ put_here k.rows own _)
    ∙ put_there (k.rows own) (suc (k.end own)) rows q (not_behind q (k.end own) (subst (λ x. q ≤ k.end x) fact within)) ∙ ap (λ x. k.rows x q) (sym fact))
    (λ other. ap (λ (f : ℕ → List (BlockId × Row)). f q) (put_there k.rows own _ l other))

pub lasts_sealed : (k : Books) (own : ℕ) (rows : List (BlockId × Row)) → Lasts k (sealed k own rows)
lasts_sealed k own rows = record { filed = λ l. omega arith; rows = rows_behind k own rows }

pub sealed_others : (k : Books) (own : ℕ) (rows : List (BlockId × Row)) (l : ℕ) → (l ≡ own → ⊥) → SameLog k (sealed k own rows) l
sealed_others k own rows l other = record { end = refl; flying = put_there k.flying own true l other; rows = put_there k.rows own _ l other }

pub lasts_filed : (k : Books) (own : ℕ) → Lasts k (filed k own)
lasts_filed k own = record {
  filed = λ l. by_own l own (k.end l ≤ put k.end own (suc (k.end own)) l)
      (λ fact. let here : put k.end own (suc (k.end own)) l ≡ suc (k.end own) = ap (put k.end own (suc (k.end own))) fact ∙ put_here k.end own _ in
      let same : k.end l ≡ k.end own = ap k.end fact in omega arith)
      (λ other. let there = put_there k.end own (suc (k.end own)) l other in omega arith);
  rows = λ l q within. refl;
}

pub filed_others : (k : Books) (own l : ℕ) → (l ≡ own → ⊥) → SameLog k (filed k own) l
filed_others k own l other = record { end = put_there k.end own _ l other; flying = put_there k.flying own false l other; rows = refl }

lasts_discarded : (k : Books) (own : ℕ) → Lasts k (discarded k own)
lasts_discarded k own = record { filed = λ l. omega arith; rows = rows_behind k own [] }

discarded_others : (k : Books) (own l : ℕ) → (l ≡ own → ⊥) → SameLog k (discarded k own) l
discarded_others k own l other = record { end = refl; flying = put_there k.flying own false l other; rows = put_there k.rows own _ l other }

lasts_reopened : (k : Books) (own : ℕ) (adopted : Bool) → Lasts k (reopened k own adopted)
lasts_reopened k own true = lasts_filed k own
lasts_reopened k own false = lasts_discarded k own

pub reopened_others : (k : Books) (own : ℕ) (adopted : Bool) (l : ℕ) → (l ≡ own → ⊥) → SameLog k (reopened k own adopted) l
reopened_others k own true l other = filed_others k own l other
reopened_others k own false l other = discarded_others k own l other

lasts_empty : (count : ℕ) (k : Books) (own : ℕ) → Lasts k (with_empty count k own)
lasts_empty zero k own = lasts_still k
lasts_empty (suc count) k own =
    let m : Books = sealed k own [] in
    let o : Books = filed m own in
    lasts_through k o (with_empty count o own) (lasts_through k m o (lasts_sealed k own []) (lasts_filed m own)) (lasts_empty count o own)

pub empty_others : (count : ℕ) (k : Books) (own l : ℕ) → (l ≡ own → ⊥) → SameLog k (with_empty count k own) l
empty_others zero k own l other = same_log k l
empty_others (suc count) k own l other =
    let m : Books = sealed k own [] in
    let o : Books = filed m own in
    same_through k o (with_empty count o own) l (same_through k m o l (sealed_others k own [] l other) (filed_others m own l other))
    (empty_others count o own l other)

opens_last : (k : Books) (own : ℕ) (adopted : Bool) (count : ℕ) → Lasts k (with_empty count (reopened k own adopted) own)
opens_last k own adopted count =
    lasts_through k (reopened k own adopted) _ (lasts_reopened k own adopted) (lasts_empty count (reopened k own adopted) own)

-- ---- all that happens

module _ (logs : Bool) (members part : ℕ) where
  happens_last : (n m : Net) → Happens logs members part n m → Lasts n.books m.books
  happens_last n m (Seals c rows pos less up idle newest) = lasts_sealed n.books c rows
  happens_last n m (Files c pos less up flies) = lasts_filed n.books c
  happens_last n m (Returns c inc epochs chain count pos less up later rises flies) = opens_last n.books c (adopts n.acts c chain) count
  happens_last n m (SealsCopies l rows above idle copies) = lasts_sealed n.books l rows
  happens_last n m (FilesCopies l above flies) = lasts_filed n.books l
  happens_last n m (Reopens l adopted count above flies) = opens_last n.books l adopted count
  happens_last n m _ = lasts_still n.books

  pub books_last : (n m : Net) → Runs logs members part n m → Lasts n.books m.books
  books_last n m Begun = lasts_still n.books
  books_last n m (On {m = o} runs last) = lasts_through n.books o.books m.books (books_last n o runs) (happens_last o m last)
