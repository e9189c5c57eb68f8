-- The lists that an opening keeps: whose they are, what counts of them, and which member lacks a segment.
use Rattle.std.proofs.Common.{◌≡◌, ℕ, zero, suc, ◌+◌, ◌<◌, ◌≤◌, ◌⊎◌, ◌==◌, ◌&&◌, ◌||◌, Bool, true, false, cond, not, nat_le, if◌then◌else◌, List, [], ◌∷◌, ◌++◌, length, refl, sym, ap, subst, ◌∙◌, inl, inr, arith}
use Rattle.std.specs.Prelude.{Contains, filter}
use Rattle.std.specs.List.{list_any, range_with_len}
use Rattle.std.proofs.lemmas.Bool.Decides.{nat_tests}
use Rattle.std.proofs.lemmas.Bool.{le-leb, leb-true, eqb-true}
use Rattle.xfs_base.specs.declared.fragment.FragMeta.{FragMeta}
use Rattle.xfs_base.specs.declared.segment.SegName.{SegName}
use Rattle.xfs_base.proofs.Booleans.{contrary, and_first, and_second, not_true, or_first, or_second, equal_itself}
use Rattle.xfs_base.proofs.Members.{contains_nothing, contains_first, contains_rest, contains_cases}
use Rattle.group_map.specs.declared.group.Member.{Member}
use Rattle.xfs_base.specs.Segments.{same_name}
use Rattle.log_protocol.specs.Tables.{In}
use Rattle.log_scan.specs.declared.listing.Listing.{Listing}
use Rattle.log_scan.specs.Pick.{above, counting, has_name, has_list, lacks, is_torn}
use Rattle.log_flight.specs.Flights.{generation_of, server_of}
use Rattle.xfs_base.proofs.SegmentNames.{one_name, same_itself}

-- ---- two words for membership

pub in_contained : {X : Type 0} (x : X) (xs : List X) → Contains xs x → In x xs
in_contained x [] h = absurd (contains_nothing x h)
in_contained x (y ∷ ys) h = elim (contains_cases y x ys h) [ inl e ↦ inl (sym e) | inr k ↦ inr (in_contained x ys k) ]

pub contained_in : {X : Type 0} (x : X) (xs : List X) → In x xs → Contains xs x
contained_in x [] h = absurd h
contained_in x (y ∷ ys) (inl e) = subst (λ z. Contains (y ∷ ys) z) (sym e) (contains_first y ys)
contained_in x (y ∷ ys) (inr k) = contains_rest y x ys (contained_in x ys k)

pub in_front : {X : Type 0} (x : X) (xs ys : List X) → In x xs → In x (xs ++ ys)
in_front x [] ys fact = absurd fact
in_front x (z ∷ xs) ys (inl e) = inl e
in_front x (z ∷ xs) ys (inr k) = inr (in_front x xs ys k)

pub in_back : {X : Type 0} (x : X) (xs ys : List X) → In x ys → In x (xs ++ ys)
in_back x [] ys fact = fact
in_back x (z ∷ xs) ys fact = inr (in_back x xs ys fact)

pub in_either : {X : Type 0} (x : X) (xs ys : List X) → In x (xs ++ ys) → In x xs ⊎ In x ys
in_either x [] ys fact = inr fact
in_either x (z ∷ xs) ys (inl e) = inl (inl e)
in_either x (z ∷ xs) ys (inr k) = elim (in_either x xs ys k) [ inl a ↦ inl (inr a) | inr b ↦ inr b ]

-- ---- tests over lists

pub some_passes : {X : Type 0} (p : X → Bool) (xs : List X) → list_any p xs ≡ true → (x : X) × In x xs × (p x ≡ true)
some_passes p [] h = contrary h
some_passes {X = X} p (x ∷ xs) h = by (p x) refl h (λ k. some_passes p xs k)
  where
    by : (t : Bool) → p x ≡ t → (t || list_any p xs) ≡ true → (list_any p xs ≡ true → (y : X) × In y xs × (p y ≡ true)) → (y : X) × In y (x ∷ xs) × (p y ≡ true)
    by true e k more = (x, inl refl, e)
    by false e k more = let y = more k in (y.0, inr y.1, y.2)

pub it_passes : {X : Type 0} (p : X → Bool) (xs : List X) (x : X) → In x xs → p x ≡ true → list_any p xs ≡ true
it_passes p [] x fact h = absurd fact
it_passes p (y ∷ ys) x (inl e) h = or_first (p y) (list_any p ys) (ap p (sym e) ∙ h)
it_passes p (y ∷ ys) x (inr k) h = or_second (p y) (list_any p ys) (it_passes p ys x k h)

pub none_passes : {X : Type 0} (p : X → Bool) (xs : List X) (x : X) → list_any p xs ≡ false → In x xs → p x ≡ false
none_passes p xs x none fact = by (p x) refl
  where
    by : (t : Bool) → p x ≡ t → p x ≡ false
    by true e = contrary (sym none ∙ it_passes p xs x fact e)
    by false e = e

in_filtered : {X : Type 0} (p : X → Bool) (xs : List X) (x : X) → In x (filter p xs) → In x xs × (p x ≡ true)
in_filtered p [] x fact = absurd fact
in_filtered p (y ∷ ys) x fact = by (p y) refl fact (λ k. in_filtered p ys x k)
  where
    by : (t : Bool) → p y ≡ t → In x (cond t (y ∷ filter p ys) (filter p ys)) → (In x (filter p ys) → In x ys × (p x ≡ true)) → In x (y ∷ ys) × (p x ≡ true)
    by true e (inl k) more = (inl k, ap p k ∙ e)
    by true e (inr k) more = (inr (more k).0, (more k).1)
    by false e k more = (inr (more k).0, (more k).1)

filtered_in : {X : Type 0} (p : X → Bool) (xs : List X) (x : X) → In x xs → p x ≡ true → In x (filter p xs)
filtered_in p [] x fact h = absurd fact
filtered_in p (y ∷ ys) x fact h = by (p y) refl fact (λ k. filtered_in p ys x k h)
  where
    by : (t : Bool) → p y ≡ t → In x (y ∷ ys) → (In x ys → In x (filter p ys)) → In x (cond t (y ∷ filter p ys) (filter p ys))
    by true e (inl k) more = inl k
    by true e (inr k) more = inr (more k)
    by false e (inl k) more = contrary (sym e ∙ (ap p (sym k) ∙ h))
    by false e (inr k) more = more k

-- ---- what counts

pub counted_listed : (low : ℕ) (ls : List Listing) (x : FragMeta) → In x (counting low ls) → (l : Listing) × In l ls × In x l.held × (low ≤ x.name.seq)
counted_listed low [] x fact = absurd fact
counted_listed low (l ∷ ls) x fact = elim (in_either x (above low l.held) (counting low ls) fact) [
  | inl a ↦ (let h = in_filtered (λ m. nat_le low m.name.seq) l.held x a in (l, inl refl, h.0, leb-true low x.name.seq h.1))
  | inr b ↦ (let h = counted_listed low ls x b in (h.0, inr h.1, h.2, h.3))
]

pub listed_counted : (low : ℕ) (ls : List Listing) (l : Listing) (x : FragMeta) → In l ls → In x l.held → low ≤ x.name.seq → In x (counting low ls)
listed_counted low [] l x of fact up = absurd of
listed_counted low (k ∷ ks) l x (inl e) fact up =
    in_front x (above low k.held) (counting low ks)
    (filtered_in (λ m. nat_le low m.name.seq) k.held x (subst (λ (z : Listing). In x z.held) e fact) (le-leb low x.name.seq up))
listed_counted low (k ∷ ks) l x (inr of) fact up = in_back x (above low k.held) (counting low ks) (listed_counted low ks l x of fact up)

-- ---- names

pub named_in : (name : SegName) (ms : List FragMeta) → has_name name ms ≡ true → (x : FragMeta) × In x ms × (x.name ≡ name)
named_in name ms h = let x = some_passes (λ m. same_name m.name name) ms h in (x.0, x.1, one_name x.0.name name x.2)

pub in_named : (ms : List FragMeta) (x : FragMeta) → In x ms → has_name x.name ms ≡ true
in_named ms x fact = it_passes (λ m. same_name m.name x.name) ms x fact (same_itself x.name)

-- ---- the list of a server

abbrev pub listing_of : List Listing → ℕ → Listing
listing_of [] server = record { server = server; generation = 0; held = [] }
listing_of (l ∷ ls) server = if l.server == server then l else listing_of ls server

pub its_list : (ls : List Listing) (v : ℕ) → has_list v ls ≡ true → In (listing_of ls v) ls × ((listing_of ls v).server ≡ v)
its_list [] v h = contrary h
its_list (l ∷ ls) v h = by (l.server == v) refl h (λ k. its_list ls v k)
  where
    by : (t : Bool) → (l.server == v) ≡ t → (t || has_list v ls) ≡ true → (has_list v ls ≡ true → In (listing_of ls v) ls × ((listing_of ls v).server ≡ v))
        → In (cond t l (listing_of ls v)) (l ∷ ls) × ((cond t l (listing_of ls v)).server ≡ v)
    by true e k more = (inl refl, eqb-true l.server v e)
    by false e k more = let x = more k in (inr x.0, x.1)

pub no_list : (ls : List Listing) (v : ℕ) → has_list v ls ≡ false → (listing_of ls v).held ≡ []
no_list [] v h = refl
no_list (l ∷ ls) v h = by (l.server == v) h (λ k. no_list ls v k)
  where
    by : (t : Bool) → (t || has_list v ls) ≡ false → (has_list v ls ≡ false → (listing_of ls v).held ≡ []) → (cond t l (listing_of ls v)).held ≡ []
    by true k more = contrary (sym k)
    by false k more = more k

pub has_in : (ls : List Listing) (l : Listing) → In l ls → has_list l.server ls ≡ true
has_in ls l fact = it_passes (λ k. k.server == l.server) ls l fact (equal_itself l.server)

-- one more list, of another server
pub has_more : (ls : List Listing) (l : Listing) (v : ℕ) → has_list v ls ≡ false → (l.server ≡ v → ⊥) → has_list v (ls ++ l ∷ []) ≡ false
has_more [] l v none other = by (l.server == v) refl
  where
    by : (t : Bool) → (l.server == v) ≡ t → (t || false) ≡ false
    by true e = absurd (other (eqb-true l.server v e))
    by false e = refl
has_more (k ∷ ks) l v none other = by (k.server == v) none (λ h. has_more ks l v h other)
  where
    by : (t : Bool) → (t || has_list v ks) ≡ false → (has_list v ks ≡ false → has_list v (ks ++ l ∷ []) ≡ false) → (t || has_list v (ks ++ l ∷ [])) ≡ false
    by true h more = h
    by false h more = more h

-- ---- whose lists are awaited

pub range_has : (from n v : ℕ) → from ≤ v → v < from + n → In v (range_with_len from n)
range_has from zero v low high = absurd (let h = high in let l = low in omega arith)
range_has from (suc n) v low high = by (from == v) refl (λ up. range_has (from + 1) n v up (let h = high in omega arith))
  where
    next : (from == v) ≡ false → from + 1 ≤ v
    next e = grind (arith, nat_tests)

    by : (t : Bool) → (from == v) ≡ t → (from + 1 ≤ v → In v (range_with_len (from + 1) n)) → In v (from ∷ range_with_len (from + 1) n)
    by true e more = inl (sym (eqb-true from v e))
    by false e more = inr (more (next e))

pub none_filtered : (p : ℕ → Bool) (xs : List ℕ) (v : ℕ) → length (filter p xs) ≡ 0 → In v xs → p v ≡ false
none_filtered p xs v none fact = by (p v) refl
  where
    empty : (ys : List ℕ) → length ys ≡ 0 → In v ys → ⊥
    empty [] e k = k
    empty (y ∷ ys) e k = let z = e in omega arith

    by : (t : Bool) → p v ≡ t → p v ≡ false
    by true e = absurd (empty (filter p xs) none (filtered_in p xs v fact e))
    by false e = e

-- ---- whether a member lacks it

-- one that lacks it
pub record Lacks (ls : List Listing) (name : SegName) (ms : List Member) : Type 0 where
  pub place : ℕ
  pub member : place < length ms
  pub list : Listing
  pub among : In list ls
  pub at_server : list.server ≡ server_of ms place
  pub original : list.generation ≡ generation_of ms place
  pub lacking : has_name name list.held ≡ false

pub torn_lacks : (ls : List Listing) (name : SegName) (ms : List Member) → is_torn ls name ms ≡ true → Lacks ls name ms
torn_lacks ls name [] h = contrary h
torn_lacks ls name (m ∷ ms) h = by (list_any (lacks name m) ls) refl h (λ k. torn_lacks ls name ms k)
  where
    by : (t : Bool) → list_any (lacks name m) ls ≡ t → (t || is_torn ls name ms) ≡ true → (is_torn ls name ms ≡ true → Lacks ls name ms)
        → Lacks ls name (m ∷ ms)
    by true e k more = let l = some_passes (lacks name m) ls e in record {
      place = 0;
      member = omega arith;
      list = l.0;
      among = l.1;
      at_server = eqb-true _ _ (and_first (l.0.server == m.server) _ l.2);
      original = eqb-true _ _ (and_first (l.0.generation == m.generation) _ (and_second (l.0.server == m.server) _ l.2));
      lacking = not_true _ (and_second (l.0.generation == m.generation) _ (and_second (l.0.server == m.server) _ l.2));
    }
    by false e k more = let x = more k in let b =
        x.member in record {
          place = suc x.place;
          member = omega arith;
          list = x.list;
          among = x.among;
          at_server = x.at_server;
          original = x.original;
          lacking = x.lacking;
        }

-- no list of the member lacks it
whole_member : (l : Listing) (name : SegName) (m : Member) → lacks name m l ≡ false → l.server ≡ m.server
    → (has_name name l.held ≡ true) ⊎ (l.generation ≡ m.generation → ⊥)
whole_member l name m h same =
    by (l.server == m.server) (l.generation == m.generation) (has_name name l.held) (ap (λ z. z == m.server) same ∙ equal_itself m.server) refl refl h
  where
    by : (p s t : Bool) → p ≡ true → (l.generation == m.generation) ≡ s → has_name name l.held ≡ t → (p && (s && not t)) ≡ false
        → (has_name name l.held ≡ true) ⊎ (l.generation ≡ m.generation → ⊥)
    by p s true a e f k = inl f
    by p false false a e f k = inr (λ alike. contrary (sym e ∙ (ap (λ z. z == m.generation) alike ∙ equal_itself m.generation)))
    by true true false a e f k = contrary (sym k)
    by false true false a e f k = contrary a

pub whole_lists : (ls : List Listing) (name : SegName) (ms : List Member) → is_torn ls name ms ≡ false → (j : ℕ) → j < length ms → (l : Listing) → In l ls
    → l.server ≡ server_of ms j
    → (has_name name l.held ≡ true) ⊎ (l.generation ≡ generation_of ms j → ⊥)
whole_lists ls name [] h j b l fact same = absurd (let a = b in omega arith)
whole_lists ls name (m ∷ ms) h zero b l fact same = whole_member l name m (none_passes (lacks name m) ls l (first (list_any (lacks name m) ls) h) fact) same
  where
    first : (t : Bool) → (t || is_torn ls name ms) ≡ false → t ≡ false
    first true k = k
    first false k = refl
whole_lists ls name (m ∷ ms) h (suc j) b l fact same = whole_lists ls name ms (second (list_any (lacks name m) ls) h) j (omega arith) l fact same
  where
    second : (t : Bool) → (t || is_torn ls name ms) ≡ false → is_torn ls name ms ≡ false
    second true k = contrary (sym k)
    second false k = k
