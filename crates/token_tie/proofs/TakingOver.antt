-- Forwards, returns, reports and activations.
use Rattle.xfs_base.proofs.Members.{contains_nothing, contains_cases}
use Rattle.std.proofs.Common.{◌≡◌, ℕ, ◌==◌, ◌≤◌, ◌<◌, ◌&&◌, Bool, true, false, cond, map, nat_lt, List, [], ◌∷◌, ◌++◌, ◌⊎◌, inl, inr, ⊎_elim, Some, refl, sym, ap, subst, ◌∙◌, arith}
use Rattle.std.proofs.Common.{unwrap_or}
use Rattle.std.specs.List.{filter}
use Rattle.std.specs.Map.{lookup}
use Rattle.std.specs.BTreeMap.{is_at, insert_entry}
use Rattle.std.specs.Ordering.{eq_by_cmp}
use Rattle.std.proofs.lemmas.Bool.Decides.{nat_tests}
use Rattle.std.proofs.lemmas.Map.Views.{tells_apart}
use Rattle.xfs_base.specs.declared.block.BlockId.{BlockId}
use Rattle.xfs_base.specs.declared.token.Mode.{Mode}
use Rattle.xfs_base.specs.declared.token.Mode.TheVariants.{Nothing, Copy, Own}
use Rattle.xfs_base.specs.Blocks.{block_cmp}
use Rattle.xfs_base.proofs.BlockOrder.{lookup-insert_entry, block_cmp_exact}
use Rattle.slot_beliefs.specs.declared.job.Holder.{Holder}
use Rattle.slot_beliefs.specs.Beliefs.{holder_cmp, holder, believe, all_believed, share_of}
use Rattle.slot_beliefs.specs.Beliefs as manager
use Rattle.slot_beliefs.proofs.Shares.{holder_cmp_exact, holder_cmp_total, holder_laws, belief}
use Rattle.token_client.specs.declared.held.Held.{Held}
use Rattle.token_client.specs.Held.{held_new}
use Rattle.token_client.specs.State.{held_of, held_in, is_in_slot}
use Rattle.token_client.specs.Transition.{is_promised}
use Rattle.token_client.proofs.Promises.{Agrees, agrees-itself}
use Rattle.token_protocol.proofs.StampsSeen.{activated}
use Rattle.token_tie.specs.Seen.{ValueShown, node_seen}
use Rattle.xfs_base.specs.Modes.{is_held, is_nothing, is_own, mode_number, same_mode}
use Rattle.token_tie.specs.Epochs.{SuppliesNewest, RestartShows, ActivationShows, ActivationManages, reported, all_reported, ReportsBelieved}
use Rattle.token_client.proofs.Tables.{InOrder}
use Rattle.xfs_base.proofs.Booleans.{and_first, and_second, by_test, contrary}
use Rattle.std.specs.Prelude.{Contains}
use Rattle.std.proofs.lemmas.Bool.{eqb-true, ltb-true}

-- ---- forwards

copy_held : (mode : Mode) → same_mode mode Copy ≡ true → 0 < mode_number mode
copy_held Nothing h = contrary h
copy_held Copy h = omega arith
copy_held Own h = contrary h

pub supplies_newest : SuppliesNewest
supplies_newest g w s stamp ver value shows newest t fact =
    let h = held_of s.blocks g.block in
    let two = and_first (is_promised s g.block stamp && same_mode h.mode Copy) (h.ver == ver) t in
    let same : h.ver ≡ ver = eqb-true h.ver ver (and_second (is_promised s g.block stamp && same_mode h.mode Copy) (h.ver == ver) t) in
    let holds = copy_held h.mode (and_second (is_promised s g.block stamp) (same_mode h.mode Copy) two) in
    let mode = shows.mode in
    let n = newest (omega arith) in
    let at : w.newest ≡ ver = sym n.version ∙ shows.version ∙ same in
    let kept_ : ValueShown g.number (Some value) (w.client g.client).value = subst (λ o. ValueShown g.number o (w.client g.client).value) fact shows.value in
    (sym kept_ ∙ n.value ∙ ap w.value_at at, sym at)

-- ---- returns and activations

pub restart_shows : RestartShows
restart_shows g epoch promised epochs x client some same = record {
  client = client;
  serving = refl;
  boot = refl;
  incarnation = refl;
  stamps = record { promised = same; past = omega arith; now = λ fact. absurd (omega arith); old = λ fact. refl };
  mode = refl;
  counted = omega arith;
  want = refl;
  version = refl;
  settled = refl;
  value = tt;
  fetch = refl;
}

pub activation_shows : ActivationShows
activation_shows g epoch later l x above s = record {
  client = s.client;
  serving = s.serving;
  boot = s.boot;
  incarnation = s.incarnation;
  stamps = activated (node_seen l.promised l.held.stamp) x epoch later s.stamps above;
  mode = s.mode;
  counted = s.counted;
  want = s.want;
  version = s.version;
  settled = s.settled;
  value = s.value;
  fetch = s.fetch;
}

pub activation_manages : ActivationManages
activation_manages b w epoch index beliefs applied report upto covers same = record {
  epoch = refl;
  turn = refl;
  applied = same;
  index = refl;
  belief = λ c. at c (nat_lt c w.members) (λ h. covers c (ltb-true c w.members h));
  job = record { nothing = λ d. refl; paid = λ d. omega arith };
}
  where
    at : (c : ℕ) (t : Bool) → (t ≡ true → (report c).mode ≤ share_of (all_believed [] beliefs) b c)
        → cond t (report c).mode 0 ≤ share_of (all_believed [] beliefs) b c
    at c true h = h refl
    at c false h = omega arith

pub one_numbers : (n m : ℕ) → (n ≡ m) ⊎ (n ≡ m → ⊥)
one_numbers n m =
    elim (n == m) as (λ t. (n == m) ≡ t → (n ≡ m) ⊎ (n ≡ m → ⊥))
    [ true ↦ λ h. inl (eqb-true n m h) | false ↦ λ h. inr (λ e. grind (arith, nat_tests)) ] refl

-- ---- reports

module _ (b : BlockId) (c : ℕ) (mode : Mode) where
  -- each of these that speaks of the block and the client says at least this
  abbrev Least : List (BlockId × ℕ × Mode) → Type 0
  Least [] = Unit {0}
  Least (x ∷ xs) = (x.0 ≡ b → x.1 ≡ c → mode_number mode ≤ mode_number x.2) × Least xs

  abbrev Speaks : List (BlockId × ℕ × Mode) → Type 0
  Speaks [] = ⊥
  Speaks (x ∷ xs) = ((x.0 ≡ b) × (x.1 ≡ c)) ⊎ Speaks xs

  inserted : (m : Mode) → is_nothing m ≡ false → mode_number m ≤ manager.share (Some (is_own m))
  inserted Nothing h = contrary (sym h)
  inserted Copy h = omega arith
  inserted Own h = omega arith

  nothing_least : (m : Mode) (n : ℕ) → is_nothing m ≡ true → mode_number m ≤ n
  nothing_least Nothing n h = omega arith
  nothing_least Copy n h = contrary h
  nothing_least Own n h = contrary h

  one-believe : (bs : List (Holder × Bool)) (x : BlockId × ℕ × Mode) → (x.0 ≡ b → x.1 ≡ c → mode_number mode ≤ mode_number x.2)
      → (mode_number mode ≤ share_of bs b c) ⊎ ((x.0 ≡ b) × (x.1 ≡ c)) → mode_number mode ≤ share_of (believe bs x) b c
  unfolding believe
  one-believe bs x least why =
      let q = holder b c in
      let k = holder x.0 x.1 in
      by_test (λ (rows : List (Holder × Bool)). is_nothing x.2 ≡ is_nothing x.2 → mode_number mode ≤ manager.share (belief rows q)) (is_nothing x.2) bs
      (insert_entry holder_cmp bs k (is_own x.2))
      (λ none _. ⊎_elim (λ h. h) (λ h. let a = least h.0 h.1 in let z = nothing_least x.2 (manager.share (belief bs q)) none in omega arith) why)
      (λ some _. subst (λ o. mode_number mode ≤ manager.share o) (sym (lookup-insert_entry holder_cmp_total q k (is_own x.2) bs))
      (at (eq_by_cmp holder_cmp q k) refl some)) refl
    where
      at : (t : Bool) → eq_by_cmp holder_cmp (holder b c) (holder x.0 x.1) ≡ t → is_nothing x.2 ≡ false
          → mode_number mode ≤ manager.share (cond t (Some (is_own x.2)) (belief bs (holder b c)))
      at true same some =
          let one : holder b c ≡ holder x.0 x.1 = tells_apart holder_cmp_exact (holder b c) (holder x.0 x.1) same in
          let a = least (sym (ap (λ (h : Holder). h.block) one)) (sym (ap (λ (h : Holder). h.client) one)) in
          let i = inserted x.2 some in omega arith
      at false apart some =
          ⊎_elim (λ h. h)
          (λ h. absurd (contrary
          (sym apart ∙ subst (λ (k : Holder). eq_by_cmp holder_cmp (holder b c) k ≡ true) (λ i. record { block = sym h.0 i; client = sym h.1 i })
          (holder_laws.refl (holder b c))))) why

  pub all-believe : (bs : List (Holder × Bool)) (xs : List (BlockId × ℕ × Mode)) → Least xs → (mode_number mode ≤ share_of bs b c) ⊎ Speaks xs
      → mode_number mode ≤ share_of (all_believed bs xs) b c
  all-believe bs [] least why = ⊎_elim (λ h. h) (λ h. absurd h) why
  all-believe bs (x ∷ xs) least why =
      all-believe (believe bs x) xs least.1
      (⊎_elim (λ h. inl (one-believe bs x least.0 (inl h))) (λ s. ⊎_elim (λ h. inl (one-believe bs x least.0 (inr h))) inr s) why)

  least_both : (xs ys : List (BlockId × ℕ × Mode)) → Least xs → Least ys → Least (xs ++ ys)
  least_both [] ys h k = k
  least_both (x ∷ xs) ys h k = (h.0, least_both xs ys h.1 k)

  speaks_first : (xs ys : List (BlockId × ℕ × Mode)) → Speaks xs → Speaks (xs ++ ys)
  speaks_first [] ys s = absurd s
  speaks_first (x ∷ xs) ys s = ⊎_elim inl (λ r. inr (speaks_first xs ys r)) s

  speaks_later : (xs ys : List (BlockId × ℕ × Mode)) → Speaks ys → Speaks (xs ++ ys)
  speaks_later [] ys s = s
  speaks_later (x ∷ xs) ys s = inr (speaks_later xs ys s)

  -- another client says nothing of this one
  least_other : (d : ℕ) (rows : List (BlockId × Mode)) → (d ≡ c → ⊥) → Least (reported d rows)
  least_other d [] other = tt
  least_other d (p ∷ rows) other = ((λ _ same. absurd (other same)), least_other d rows other)

module _ (slot : ℕ) (b : BlockId) where
  -- what a client reports of the block is what it holds
  least_mine : (c d : ℕ) (table es : List (BlockId × Held)) → Agrees table es → Least b c (held_of table b).mode (reported d (held_in slot es))
  least_mine c d table [] agrees = tt
  least_mine c d table (e ∷ es) agrees =
      let keeps : Bool = is_in_slot slot e.0 && is_held e.1.mode in
      let rows = filter (λ e. is_in_slot slot e.0 && is_held e.1.mode) es in
      let rest_ = least_mine c d table es agrees.1 in
      by_test (λ (xs : List (BlockId × Held)). Least b c (held_of table b).mode (reported d (map (λ e. (e.0, e.1.mode)) xs))) keeps (e ∷ rows) rows
      (λ _. (
        (λ same _. let eq : mode_number (held_of table b).mode ≡ mode_number e.1.mode = ap (λ k. mode_number (held_of table k).mode) (sym same)
            ∙ ap (λ (h : Held). mode_number h.mode) agrees.0 in omega arith),
        rest_,
      )) (λ _. rest_)

  -- and it reports what it holds
  speaks_mine : (c : ℕ) (es : List (BlockId × Held)) → is_in_slot slot b ≡ true → is_held (held_of es b).mode ≡ true
      → Speaks b c (held_of es b).mode (reported c (held_in slot es))
  speaks_mine c [] inside held = contrary held
  speaks_mine c (e ∷ es) inside held =
      at (eq_by_cmp block_cmp b e.0) refl held (λ h. speaks_mine c es inside h)
    where
      at : (t : Bool) → eq_by_cmp block_cmp b e.0 ≡ t → is_held (unwrap_or (cond t (Some e.1) (lookup (is_at (block_cmp b)) es)) held_new).mode ≡ true
          → (is_held (held_of es b).mode ≡ true → Speaks b c (held_of es b).mode (reported c (held_in slot es)))
          → Speaks b c (unwrap_or (cond t (Some e.1) (lookup (is_at (block_cmp b)) es)) held_new).mode
          (reported c (map (λ e. (e.0, e.1.mode))
          (cond (is_in_slot slot e.0 && is_held e.1.mode) (e ∷ filter (λ e. is_in_slot slot e.0 && is_held e.1.mode) es)
          (filter (λ e. is_in_slot slot e.0 && is_held e.1.mode) es))))
      at true same held later =
          let one : b ≡ e.0 = tells_apart block_cmp_exact b e.0 same in
          let here : is_in_slot slot e.0 && is_held e.1.mode ≡ true =
          ap (λ t. t && is_held e.1.mode) (subst (λ k. is_in_slot slot k ≡ true) one inside) ∙ held in
          subst (λ t. Speaks b c e.1.mode
          (reported c (map (λ e. (e.0, e.1.mode))
          (cond t (e ∷ filter (λ e. is_in_slot slot e.0 && is_held e.1.mode) es) (filter (λ e. is_in_slot slot e.0 && is_held e.1.mode) es))))) (sym here)
          (inl (sym one, refl))
      at false apart held later =
          let more = later held in
          by_test (λ (xs : List (BlockId × Held)). Speaks b c (held_of es b).mode (reported c (map (λ e. (e.0, e.1.mode)) xs)))
          (is_in_slot slot e.0 && is_held e.1.mode) (e ∷ filter (λ e. is_in_slot slot e.0 && is_held e.1.mode) es)
          (filter (λ e. is_in_slot slot e.0 && is_held e.1.mode) es)
          (λ _. inr more) (λ _. more)

  module _ (blocks : ℕ → List (BlockId × Held)) (c : ℕ) (sorted : (d : ℕ) → InOrder (blocks d)) where
    abbrev mode : Mode
    mode = (held_of (blocks c) b).mode

    all_least : (cs : List ℕ) → Least b c mode (all_reported (λ d. held_in slot (blocks d)) cs)
    all_least [] = tt
    all_least (d ∷ cs) =
        least_both b c mode (reported d (held_in slot (blocks d))) (all_reported (λ d. held_in slot (blocks d)) cs)
        (⊎_elim (λ same. subst (λ k. Least b c mode (reported k (held_in slot (blocks k)))) (sym same)
        (least_mine c c (blocks c) (blocks c) (agrees-itself (blocks c) (sorted c)))) (λ other. least_other b c mode d (held_in slot (blocks d)) other)
        (one_numbers d c))
        (all_least cs)

    all_speak : (cs : List ℕ) → is_in_slot slot b ≡ true → is_held mode ≡ true → Contains cs c
        → Speaks b c mode (all_reported (λ d. held_in slot (blocks d)) cs)
    all_speak [] inside held has = absurd (contains_nothing c has)
    all_speak (d ∷ cs) inside held has =
        ⊎_elim
        (λ same. speaks_first b c mode (reported d (held_in slot (blocks d))) (all_reported (λ d. held_in slot (blocks d)) cs)
        (subst (λ k. Speaks b c mode (reported k (held_in slot (blocks k)))) (sym same) (speaks_mine c (blocks c) inside held)))
        (λ later. speaks_later b c mode (reported d (held_in slot (blocks d))) (all_reported (λ d. held_in slot (blocks d)) cs)
        (all_speak cs inside held later)) (contains_cases d c cs has)

-- ---- and nothing more is believed than was reported

module _ (b : BlockId) (c : ℕ) (n : ℕ) where
  abbrev Most : List (BlockId × ℕ × Mode) → Type 0
  Most [] = Unit {0}
  Most (x ∷ xs) = (x.0 ≡ b → x.1 ≡ c → mode_number x.2 ≤ n) × Most xs

  believed_rank : (m : Mode) → is_nothing m ≡ false → manager.share (Some (is_own m)) ≤ mode_number m
  believed_rank Nothing h = contrary (sym h)
  believed_rank Copy h = omega arith
  believed_rank Own h = omega arith

  one-limit : (bs : List (Holder × Bool)) (x : BlockId × ℕ × Mode) → (x.0 ≡ b → x.1 ≡ c → mode_number x.2 ≤ n) → share_of bs b c ≤ n
      → share_of (believe bs x) b c ≤ n
  unfolding believe
  one-limit bs x limit less =
      let q = holder b c in
      let k = holder x.0 x.1 in
      by_test (λ (rows : List (Holder × Bool)). manager.share (belief rows q) ≤ n) (is_nothing x.2) bs (insert_entry holder_cmp bs k (is_own x.2))
      (λ _. less) (λ some. subst (λ o. manager.share o ≤ n) (sym (lookup-insert_entry holder_cmp_total q k (is_own x.2) bs))
      (at (eq_by_cmp holder_cmp q k) refl some))
    where
      at : (t : Bool) → eq_by_cmp holder_cmp (holder b c) (holder x.0 x.1) ≡ t → is_nothing x.2 ≡ false
          → manager.share (cond t (Some (is_own x.2)) (belief bs (holder b c))) ≤ n
      at true same some =
          let one : holder b c ≡ holder x.0 x.1 = tells_apart holder_cmp_exact (holder b c) (holder x.0 x.1) same in
          let a = limit (sym (ap (λ (h : Holder). h.block) one)) (sym (ap (λ (h : Holder). h.client) one)) in
          let i = believed_rank x.2 some in omega arith
      at false apart some = less

  limit-believe : (bs : List (Holder × Bool)) (xs : List (BlockId × ℕ × Mode)) → Most xs → share_of bs b c ≤ n → share_of (all_believed bs xs) b c ≤ n
  limit-believe bs [] limit less = less
  limit-believe bs (x ∷ xs) limit less = limit-believe (believe bs x) xs limit.1 (one-limit bs x limit.0 less)

  most_both : (xs ys : List (BlockId × ℕ × Mode)) → Most xs → Most ys → Most (xs ++ ys)
  most_both [] ys h k = k
  most_both (x ∷ xs) ys h k = (h.0, most_both xs ys h.1 k)

  most_all : (rows : ℕ → List (BlockId × Mode)) (cs : List ℕ) → ((d : ℕ) → Most (reported d (rows d))) → Most (all_reported rows cs)
  most_all rows [] each = tt
  most_all rows (d ∷ cs) each = most_both (reported d (rows d)) (all_reported rows cs) (each d) (most_all rows cs each)

  most_other : (d : ℕ) (rows : List (BlockId × Mode)) → (d ≡ c → ⊥) → Most (reported d rows)
  most_other d [] other = tt
  most_other d (p ∷ rows) other = ((λ _ same. absurd (other same)), most_other d rows other)

module _ (slot : ℕ) (b : BlockId) (c : ℕ) where
  most_mine : (d : ℕ) (table es : List (BlockId × Held)) → Agrees table es → Most b c (mode_number (held_of table b).mode) (reported d (held_in slot es))
  most_mine d table [] agrees = tt
  most_mine d table (e ∷ es) agrees =
      let rows = filter (λ e. is_in_slot slot e.0 && is_held e.1.mode) es in
      let rest_ = most_mine d table es agrees.1 in
      by_test (λ (xs : List (BlockId × Held)). Most b c (mode_number (held_of table b).mode) (reported d (map (λ e. (e.0, e.1.mode)) xs)))
      (is_in_slot slot e.0 && is_held e.1.mode) (e ∷ rows) rows
      (λ _. (
        (λ same _. let eq : mode_number (held_of table b).mode ≡ mode_number e.1.mode = ap (λ k. mode_number (held_of table k).mode) (sym same)
            ∙ ap (λ (h : Held). mode_number h.mode) agrees.0 in omega arith),
        rest_,
      )) (λ _. rest_)

  most_none : (d : ℕ) (es : List (BlockId × Held)) → is_in_slot slot b ≡ false → Most b c 0 (reported d (held_in slot es))
  most_none d [] outside = tt
  most_none d (e ∷ es) outside =
      let rows = filter (λ e. is_in_slot slot e.0 && is_held e.1.mode) es in
      let rest_ = most_none d es outside in
      by_test (λ (xs : List (BlockId × Held)). Most b c 0 (reported d (map (λ e. (e.0, e.1.mode)) xs))) (is_in_slot slot e.0 && is_held e.1.mode)
      (e ∷ rows) rows
      (λ t. (
        (λ same _. contrary (sym (subst (λ k. is_in_slot slot k ≡ false) (sym same) outside) ∙ and_first (is_in_slot slot e.0) (is_held e.1.mode) t)),
        rest_,
      )) (λ _. rest_)

  -- no more of a block is believed of a client than it holds
  pub reports_most : (blocks : ℕ → List (BlockId × Held)) (cs : List ℕ) → ((d : ℕ) → InOrder (blocks d))
      → share_of (all_believed [] (all_reported (λ d. held_in slot (blocks d)) cs)) b c ≤ mode_number (held_of (blocks c) b).mode
  reports_most blocks cs sorted =
      let n = mode_number (held_of (blocks c) b).mode in
      limit-believe b c n [] (all_reported (λ d. held_in slot (blocks d)) cs)
      (most_all b c n (λ d. held_in slot (blocks d)) cs
      (λ d. ⊎_elim (λ same. subst (λ k. Most b c n (reported k (held_in slot (blocks k)))) (sym same)
      (most_mine c (blocks c) (blocks c) (agrees-itself (blocks c) (sorted c)))) (λ other. most_other b c n d (held_in slot (blocks d)) other)
      (one_numbers d c)))
      (omega arith)

  -- and nothing of a block of another slot
  pub reports_none : (blocks : ℕ → List (BlockId × Held)) (cs : List ℕ) → is_in_slot slot b ≡ false
      → share_of (all_believed [] (all_reported (λ d. held_in slot (blocks d)) cs)) b c ≤ 0
  reports_none blocks cs outside =
      limit-believe b c 0 [] (all_reported (λ d. held_in slot (blocks d)) cs)
      (most_all b c 0 (λ d. held_in slot (blocks d)) cs (λ d. most_none d (blocks d) outside)) (omega arith)

none_rank : (m : Mode) (n : ℕ) → is_held m ≡ false → mode_number m ≤ n
none_rank Nothing n h = omega arith
none_rank Copy n h = contrary (sym h)
none_rank Own n h = contrary (sym h)

pub reports_believed : ReportsBelieved
reports_believed slot blocks cs b c sorted inside has =
    let m = (held_of (blocks c) b).mode in
    let xs = all_reported (λ d. held_in slot (blocks d)) cs in
    elim (is_held m) as (λ t. is_held m ≡ t → mode_number m ≤ share_of (all_believed [] xs) b c) [
      | true ↦ λ held. all-believe b c m [] xs (all_least slot b blocks c sorted cs) (inr (all_speak slot b blocks c sorted cs inside held has))
      | false ↦ λ none. none_rank m _ none
    ] refl
