-- How what logs say of a block is seen in the abstract protocol, and that books are whole: before its first segment and beyond what it has sealed a log says
-- nothing, and a client's segment names no block twice.
use Rattle.std.proofs.Common.{◌≡◌, ℕ, zero, suc, ◌+◌, ◌≤◌, ◌<◌, Bool, true, false, cond, List, [], refl, sym, ap, subst, ◌∙◌, arith}
use Rattle.xfs_base.specs.declared.block.BlockId.{BlockId}
use Rattle.act_tie.specs.Number.{number}
use Rattle.token_protocol.specs.Basics.{put}
use Rattle.token_protocol.specs.Entry as abstract
use Rattle.token_protocol.specs.Entry.{no_row}
use Rattle.token_protocol.specs.World.{World}
use Rattle.token_protocol.proofs.Refining.{put_each, put_each_two}
use Rattle.token_law.specs.Books.{Row, Books, AreOnce, row_in, nothing_said, said, sealed, filed, discarded, reopened, with_empty}
use Rattle.token_law.specs.Net.{Net, Happens}
use Rattle.token_law.specs.Net.Happens.{Acts, Elsewhere, Reports, GetsCopy, GetsOwn, Declines, GetsRecall, GetsForward, GetsSupply, Fetches, Reads, Syncs, Seals, Files, GetsDeltas, GetsWant, GetsGave, Ticks, Crashes, Returns, SealsCopies, FilesCopies, Reopens, Activates, Says}
use Rattle.token_law.specs.Owed.{adopts}

abbrev pub flag : Bool → ℕ
flag t = cond t 1 0

pub flag_most : (t : Bool) → flag t ≤ 1
flag_most true = omega arith
flag_most false = omega arith

abbrev pub row_seen : Row → abstract.Row
row_seen r = record { version = r.version; value = number r.value }

-- the logs there have the ends, the flights and the rows that are in the books
pub record LogsSeen (b : BlockId) (k : Books) (end flight : ℕ → ℕ) (rows : ℕ → ℕ → abstract.Row) : Type 0 where
  pub ends : (l : ℕ) → end l ≡ k.end l
  pub flights : (l : ℕ) → flight l ≡ flag (k.flying l)
  pub says : (l q : ℕ) → rows l q ≡ row_seen (said k l q b)

abbrev pub Kept : BlockId → Books → World → Type 0
Kept b k w = LogsSeen b k w.end w.flight w.rows

pub record BooksWhole (members : ℕ) (k : Books) : Type 0 where
  pub beyond : (l q : ℕ) → k.end l + flag (k.flying l) < q → k.rows l q ≡ []
  pub once : (c q : ℕ) → c < members → AreOnce (k.rows c q)
  -- segments are numbered from 1 on
  pub first : (l : ℕ) → k.rows l 0 ≡ []

-- ---- a segment is sealed

module _ (b : BlockId) (k : Books) (end flight : ℕ → ℕ) (rows : ℕ → ℕ → abstract.Row) (seen : LogsSeen b k end flight rows) (l : ℕ) where
  flies : (t : Bool) (n : ℕ) → n ≡ flag t → (m : ℕ) → put flight l n m ≡ flag (put k.flying l t m)
  flies t n fact = put_each_two (λ m x y. x ≡ flag y) flight k.flying l n t fact (λ m other. seen.flights m)

  -- the next segment says this
  said_next : (new : List (BlockId × Row)) (r : abstract.Row) → r ≡ row_seen (row_in new b) → (m q : ℕ)
      → put rows l (put (rows l) (suc (end l)) r) m q ≡ row_seen (row_in (put k.rows l (put (k.rows l) (suc (k.end l)) new) m q) b)
  said_next new r fact m q =
      subst (λ e. put rows l (put (rows l) (suc e) r) m q ≡ row_seen (row_in (put k.rows l (put (k.rows l) (suc (k.end l)) new) m q) b)) (sym (seen.ends l))
      (put_each_two (λ n f g. (p : ℕ) → f p ≡ row_seen (row_in (g p) b)) rows k.rows l (put (rows l) (suc (k.end l)) r) (put (k.rows l) (suc (k.end l)) new)
      (put_each_two (λ p x xs. x ≡ row_seen (row_in xs b)) (rows l) (k.rows l) (suc (k.end l)) r new fact (λ p other. seen.says l p))
      (λ n other p. seen.says n p) m q)

  pub sealed_seen : (new : List (BlockId × Row)) (r : abstract.Row) → r ≡ row_seen (row_in new b)
      → LogsSeen b (sealed k l new) end (put flight l 1) (put rows l (put (rows l) (suc (end l)) r))
  sealed_seen new r fact = record { ends = seen.ends; flights = flies true 1 refl; says = said_next new r fact }

  -- where it says nothing of the block, and nothing stood there
  pub sealed_without : (new : List (BlockId × Row)) → row_in new b ≡ nothing_said → k.rows l (suc (k.end l)) ≡ []
      → LogsSeen b (sealed k l new) end (put flight l 1) rows
  sealed_without new none empty = record {
    ends = seen.ends;
    flights = flies true 1 refl;
    says = put_each (λ n g. (p : ℕ) → rows n p ≡ row_seen (row_in (g p) b)) k.rows l (put (k.rows l) (suc (k.end l)) new)
        (put_each (λ p xs. rows l p ≡ row_seen (row_in xs b)) (k.rows l) (suc (k.end l)) new
        (seen.says l (suc (k.end l)) ∙ ap (λ xs. row_seen (row_in xs b)) empty ∙ ap row_seen (sym none)) (λ p other. seen.says l p))
        (λ n other p. seen.says n p);
  }

  pub filed_seen : LogsSeen b (filed k l) (put end l (suc (end l))) (put flight l 0) rows
  filed_seen = record {
    ends = put_each_two (λ m x y. x ≡ y) end k.end l (suc (end l)) (suc (k.end l)) (ap suc (seen.ends l)) (λ m other. seen.ends m);
    flights = flies false 0 refl;
    says = seen.says;
  }

  pub discarded_seen : LogsSeen b (discarded k l) end (put flight l 0) (put rows l (put (rows l) (suc (end l)) no_row))
  discarded_seen = record { ends = seen.ends; flights = flies false 0 refl; says = said_next [] no_row refl }

-- ---- books stay whole

one_more : (e q : ℕ) → e + 0 < q → (q ≡ suc e → ⊥) → e + 1 < q
one_more e q past other = grind arith

-- the next segment isn't number 0
first_on : (k : Books) (l : ℕ) (rows : List (BlockId × Row)) → ((m : ℕ) → k.rows m 0 ≡ []) → (m : ℕ)
    → put k.rows l (put (k.rows l) (suc (k.end l)) rows) m 0 ≡ []
first_on k l rows none =
    put_each (λ m f. f 0 ≡ []) k.rows l (put (k.rows l) (suc (k.end l)) rows)
    (put_each (λ q xs. q ≡ 0 → xs ≡ []) (k.rows l) (suc (k.end l)) rows (λ fact. absurd (omega arith)) (λ q other fact. ap (k.rows l) fact ∙ none l) 0 refl)
    (λ m other. none m)

module _ (members : ℕ) where
  pub whole_sealed : (k : Books) (l : ℕ) (rows : List (BlockId × Row)) → (l < members → AreOnce rows) → BooksWhole members k
      → BooksWhole members (sealed k l rows)
  whole_sealed k l rows once i = record {
    beyond = put_each_two (λ m t f. (q : ℕ) → k.end m + flag t < q → f q ≡ []) k.flying k.rows l true (put (k.rows l) (suc (k.end l)) rows)
        (put_each (λ q xs. k.end l + 1 < q → xs ≡ []) (k.rows l) (suc (k.end l)) rows (λ past. absurd (omega arith))
        (λ q other past. i.beyond l q (let limit = flag_most (k.flying l) in omega arith))) (λ m other. i.beyond m);
    once = put_each (λ m f. (q : ℕ) → m < members → AreOnce (f q)) k.rows l (put (k.rows l) (suc (k.end l)) rows)
        (put_each (λ q xs. l < members → AreOnce xs) (k.rows l) (suc (k.end l)) rows once (λ q other. i.once l q)) (λ m other. i.once m);
    first = first_on k l rows i.first;
  }

  pub whole_filed : (k : Books) (l : ℕ) → BooksWhole members k → BooksWhole members (filed k l)
  whole_filed k l i = record {
    beyond = put_each_two (λ m t e. (q : ℕ) → e + flag t < q → k.rows m q ≡ []) k.flying k.end l false (suc (k.end l))
        (λ q past. i.beyond l q (let limit = flag_most (k.flying l) in omega arith)) (λ m other. i.beyond m);
    once = i.once;
    first = i.first;
  }

  pub whole_discarded : (k : Books) (l : ℕ) → BooksWhole members k → BooksWhole members (discarded k l)
  whole_discarded k l i = record {
    beyond = put_each_two (λ m t f. (q : ℕ) → k.end m + flag t < q → f q ≡ []) k.flying k.rows l false (put (k.rows l) (suc (k.end l)) [])
        (put_each (λ q xs. k.end l + 0 < q → xs ≡ []) (k.rows l) (suc (k.end l)) [] (λ past. refl)
        (λ q other past. i.beyond l q (let limit = flag_most (k.flying l) in let more = one_more (k.end l) q past other in omega arith)))
        (λ m other. i.beyond m);
    once = put_each (λ m f. (q : ℕ) → m < members → AreOnce (f q)) k.rows l (put (k.rows l) (suc (k.end l)) [])
        (put_each (λ q xs. l < members → AreOnce xs) (k.rows l) (suc (k.end l)) [] (λ within. tt) (λ q other. i.once l q)) (λ m other. i.once m);
    first = first_on k l [] i.first;
  }

  pub whole_reopened : (k : Books) (l : ℕ) (adopts : Bool) → BooksWhole members k → BooksWhole members (reopened k l adopts)
  whole_reopened k l true i = whole_filed k l i
  whole_reopened k l false i = whole_discarded k l i

  pub whole_empty : (count : ℕ) (k : Books) (l : ℕ) → BooksWhole members k → BooksWhole members (with_empty count k l)
  whole_empty zero k l i = i
  whole_empty (suc count) k l i = whole_empty count (filed (sealed k l []) l) l (whole_filed (sealed k l []) l (whole_sealed k l [] (λ within. tt) i))

pub books_keep : (members part : ℕ) (n m : Net) → Happens true members part n m → BooksWhole members n.books → BooksWhole members m.books
books_keep members part n m (Acts c end x serves own) i = i
books_keep members part n m (Elsewhere c end x serves other) i = i
books_keep members part n m (Reports c end serves) i = i
books_keep members part n m (GetsCopy c end block stamp inc req entry serves fact) i = i
books_keep members part n m (GetsOwn c end block stamp inc req entry value serves fact accepts room) i = i
books_keep members part n m (Declines c end block stamp inc req entry serves fact accepts) i = i
books_keep members part n m (GetsRecall c end block stamp keep serves fact) i = i
books_keep members part n m (GetsForward c other block stamp inc req ver value pos less fact up serves held) i = i
books_keep members part n m (GetsSupply c end block stamp inc req ver value serves fact) i = i
books_keep members part n m (Fetches c end block value serves there) i = i
books_keep members part n m (Reads c block value pos less up held fact) i = i
books_keep members part n m (Syncs c pos less up clean) i = i
books_keep members part n m (Seals c rows pos less up free newest) i = whole_sealed members n.books c rows (λ _. newest.once) i
books_keep members part n m (Files c pos less up flies) i = whole_filed members n.books c i
books_keep members part n m (GetsDeltas e s log first upto rows at known some covers) i = i
books_keep members part n m (GetsWant e s c inc req again block mode end at fact) i = i
books_keep members part n m (GetsGave e s c block stamp end at fact) i = i
books_keep members part n m (Ticks e s at) i = i
books_keep members part n m (Crashes c flight falls pos less up once so) i = i
books_keep members part n m (Returns c inc epochs chain count pos less up later rises flies) i =
    whole_empty members count (reopened n.books c (adopts n.acts c chain)) c (whole_reopened members n.books c (adopts n.acts c chain) i)
books_keep members part n m (SealsCopies l rows out free originals) i = whole_sealed members n.books l rows (λ within. absurd (omega arith)) i
books_keep members part n m (FilesCopies l out flies) i = whole_filed members n.books l i
books_keep members part n m (Reopens l adopted count out flies) i =
    whole_empty members count (reopened n.books l adopted) l (whole_reopened members n.books l adopted i)
books_keep members part n m (Activates e index applied rows ends order none all each sent gathered) i = i
books_keep members part n m (Says a neutral) i = i
