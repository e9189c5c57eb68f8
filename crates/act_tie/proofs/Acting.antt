-- Each act keeps a block's history seen in the one that its acts make.
use Rattle.std.proofs.Common.{◌≡◌, ◌<◌, ◌≤◌, ◌⊎◌, ℕ, zero, suc, ◌==◌, nat_lt, max, Bool, true, false, List, [], ◌∷◌, ◌++◌, length, take, Option, Some, None, inl, inr, ⊎_elim, refl, sym, ap, subst, length-append, arith}
use Rattle.std.specs.Prelude.{if◌then◌else◌, slice_get}
use Rattle.std.proofs.lemmas.Bool.Decides.{nat_tests}
use Rattle.std.proofs.lemmas.List.{length-take-le}
use Rattle.xfs_base.specs.declared.block.BlockId.{BlockId}
use Rattle.xfs_base.specs.declared.segment.SegName.{SegName}
use Rattle.version_model.specs.declared.act.Fall.{Fall}
use Rattle.version_model.specs.declared.history.Version.{Version}
use Rattle.version_model.specs.declared.history.BlockHistory.{BlockHistory}
use Rattle.version_model.specs.declared.history.FallTold.{FallTold}
use Rattle.version_model.specs.History.{Content, History, is_by_other}
use Rattle.version_model.specs.Effects.{append, pin, cut_to, holds_flight, settle_falls, settle}
use Rattle.version_model.specs.Legal.{NamesNoBlockTwice}
use Rattle.token_protocol.specs.Acts as block
use Rattle.token_protocol.specs.Acts.Act.{Wrote as WroteBlock, Read as ReadBlock, Synced as SyncedBlock, Back as BackBlock}
use Rattle.token_protocol.specs.Basics.{put}
use Rattle.act_tie.specs.Number.{number}
use Rattle.act_tie.specs.BlockActs.{fall_of, is_adopted, acts_of_sync, acts_of_fall}
use Rattle.act_tie.specs.Shown.{BlockShown, FallShown, FallsShown}
use Rattle.act_tie.proofs.Falling.{cut_by, settled_told, settled_block}

-- ---- lists

-- what stands in a list with one more element is the last, or stood there
get_more : {X : Type 0} (xs : List X) (y : X) (n : ℕ) (x : X) → slice_get (xs ++ y ∷ []) n ≡ Some x
    → ((n < length xs) × (slice_get xs n ≡ Some x)) ⊎ ((n ≡ length xs) × (y ≡ x))
get_more [] y zero x fact = inr (refl, cc)
get_more [] y (suc n) x fact = absurd (cc)
get_more (z ∷ zs) y zero x fact = inl (omega arith, fact)
get_more (z ∷ zs) y (suc n) x fact =
    ⊎_elim (λ h. inl (let below = h.0 in omega arith, h.1)) (λ h. inr (let at = h.0 in omega arith, h.1)) (get_more zs y n x fact)

-- what stands in the front of a list stands in the list
get_front : {X : Type 0} (n : ℕ) (xs : List X) (k : ℕ) (x : X) → slice_get (take n xs) k ≡ Some x → slice_get xs k ≡ Some x
get_front zero xs k x fact = absurd (cc)
get_front (suc n) [] k x fact = fact
get_front (suc n) (z ∷ zs) zero x fact = fact
get_front (suc n) (z ∷ zs) (suc k) x fact = get_front n zs k x fact

-- below the length there is an element
get_some : {X : Type 0} (xs : List X) (n : ℕ) → n < length xs → slice_get xs n ≡ None → ⊥
get_some [] n below none = absurd (omega arith)
get_some (x ∷ xs) zero below none = absurd (cc)
get_some (x ∷ xs) (suc n) below none = get_some xs n (omega arith) none

module _ (b : BlockId) (p : BlockHistory) (told : ℕ → List FallTold) (t : block.History) (s : BlockShown b p told t) where
  -- ---- writes

  pub wrote_shown : (client : ℕ) (value : Content)
      → BlockShown b (append (record { content = value; writer = client }) p) told (block.after_act (WroteBlock client (number value)) t)
  wrote_shown client value =
      let v : Version = record { content = value; writer = client } in
      record {
        newest = let n = s.newest in let m = length-append p.versions (v ∷ []) in omega arith;
        absent = grind (arith, nat_tests, s.absent);
        values = λ n x fact. ⊎_elim
            (λ h. let n_ = s.newest in let old = s.values n x h.1 in let below = h.0 in grind (arith, nat_tests))
            (λ h. let n_ = s.newest in let at = h.0 in let same = ap (λ (u : Version). number u.content) h.1 in grind (arith, nat_tests))
            (get_more p.versions v n x fact);
        writers = λ n x fact. ⊎_elim
            (λ h. let n_ = s.newest in let old = s.writers n x h.1 in let below = h.0 in grind (arith, nat_tests))
            (λ h. let n_ = s.newest in let at = h.0 in let same = ap (λ (u : Version). u.writer) h.1 in grind (arith, nat_tests))
            (get_more p.versions v n x fact);
        pinned = s.pinned;
        falls = s.falls;
      }

  -- ---- pins

  -- where the pinned versions agree, all agrees as before
  pub pinned_shown : (n m : ℕ) → n ≡ m → BlockShown b (record p { pinned = m }) told (record t { pinned = n })
  pinned_shown n m same = record { newest = s.newest; absent = s.absent; values = s.values; writers = s.writers; pinned = same; falls = s.falls }

  chosen : (other : Bool) (ver n : ℕ) → (other ≡ true → n ≡ max ver p.pinned) → (other ≡ false → n ≡ p.pinned)
      → BlockShown b (if other then pin ver p else p) told (record t { pinned = n })
  chosen true ver n above equal = pinned_shown n (max ver p.pinned) (above refl)
  chosen false ver n above equal = pinned_shown n p.pinned (equal refl)

  at_writer : (client n : ℕ) (o : Option Version) → slice_get p.versions n ≡ o → n < length p.versions
      → BlockShown b (if elim o as (λ _. Bool) [ None ↦ false | Some v ↦ (if v.writer == client then false else true) ] then pin (suc n) p else p) told
      (record t { pinned = if t.writer (suc n) == client then t.pinned else max t.pinned (suc n) })
  at_writer client n None fact below = absurd (get_some p.versions n below fact)
  at_writer client n (Some v) fact below =
      let w = s.writers n v fact in
      let same = s.pinned in
      chosen (if v.writer == client then false else true) (suc n) (if t.writer (suc n) == client then t.pinned else max t.pinned (suc n))
      (λ other. grind (arith, nat_tests)) (λ own. grind (arith, nat_tests))

  pub read_shown : (client ver number : ℕ) → block.LegalRead t ver number
      → BlockShown b (if is_by_other client ver p.versions then pin ver p else p) told (block.after_act (ReadBlock client ver number) t)
  read_shown client zero number legal = let same =
      s.pinned in chosen false zero (if t.writer zero == client then t.pinned else max t.pinned zero) (λ other. absurd (cc)) (λ own. grind (arith, nat_tests))
  read_shown client (suc n) number legal = at_writer client n (slice_get p.versions n) refl (let a = legal.newest in let c = s.newest in omega arith)

  -- ---- returns

  cleared : (client : ℕ) (c : ℕ) → FallsShown b (if c == client then [] else told c) (put t.fallen client 0 c) (t.low c) (t.high c)
  cleared client c = go (c == client)
    where
      go : (y : Bool) → FallsShown b (if y then [] else told c) (if y then 0 else t.fallen c) (t.low c) (t.high c)
      go true = refl
      go false = s.falls c

  -- nothing is cut where the client did not fall with the block
  uncut_shown : (client n : ℕ) → t.fallen client ≡ 0 → BlockShown b p (λ c. if c == client then [] else told c) (block.cut t client n)
  uncut_shown client n none = record {
    newest = let m = s.newest in grind (arith, nat_tests);
    absent = s.absent;
    values = s.values;
    writers = s.writers;
    pinned = let m = s.pinned in grind (arith, nat_tests);
    falls = cleared client;
  }

  cut_shown : (client n : ℕ) → t.fallen client ≡ 1 → n ≤ t.length → BlockShown b (cut_to n p) (λ c. if c == client then [] else told c) (block.cut t client n)
  cut_shown client n fell within = record {
    newest = let m = length-take-le n p.versions (let e = s.newest in omega arith) in grind (arith, nat_tests);
    absent = s.absent;
    values = λ k x fact. s.values k x (get_front n p.versions k x fact);
    writers = λ k x fact. s.writers k x (get_front n p.versions k x fact);
    pinned = grind (arith, nat_tests);
    falls = cleared client;
  }

  by_fall : (client : ℕ) (adopted : Bool) (o : Option Fall) → FallShown o (t.fallen client) (t.low client) (t.high client) → block.LegalBack t client
      → BlockShown b (cut_by adopted o p) (λ c. if c == client then [] else told c) (block.cut t client (if adopted then t.high client else t.low client))
  by_fall client adopted None none legal = uncut_shown client (if adopted then t.high client else t.low client) none
  by_fall client true (Some f) fell legal =
      subst (λ n. BlockShown b (cut_to n p) (λ c. if c == client then [] else told c) (block.cut t client (t.high client))) fell.2
      (cut_shown client (t.high client) fell.0 (legal.known fell.0))
  by_fall client false (Some f) fell legal =
      subst (λ n. BlockShown b (cut_to n p) (λ c. if c == client then [] else told c) (block.cut t client (t.low client))) fell.1
      (cut_shown client (t.low client) fell.0 (let a = legal.known fell.0 in let c = legal.ordered fell.0 in omega arith))

-- ---- acts that change what waits

-- a sync
pub synced_shown : (b : BlockId) (p : BlockHistory) (told : ℕ → List FallTold) (t : block.History) (client n : ℕ) → BlockShown b p told t
    → BlockShown b (pin n p) told (block.history_after (acts_of_sync client n) t)
synced_shown b p told t client n s = go (nat_lt 0 n) refl
  where
    go : (y : Bool) → nat_lt 0 n ≡ y → BlockShown b (pin n p) told (block.history_after (if y then SyncedBlock client n ∷ [] else []) t)
    go true some = pinned_shown b p told t s (max t.pinned n) (max n p.pinned) (let same = s.pinned in grind (arith, nat_tests))
    go false none = pinned_shown b p told t s t.pinned (max n p.pinned) (let same = s.pinned in grind (arith, nat_tests))

-- a fall
pub fell_shown : (b : BlockId) (p : BlockHistory) (told : ℕ → List FallTold) (t : block.History) (client : ℕ) (flight : Option (ℕ × ℕ)) (falls : List Fall)
    → BlockShown b p told t → told client ≡ [] → NamesNoBlockTwice falls
    → BlockShown b p (λ c. if c == client then told c ++ (record { flight = flight; falls = falls }) ∷ [] else told c)
    (block.history_after (acts_of_fall client (fall_of b falls)) t)
fell_shown b p told t client flight falls s none once = by_named (fall_of b falls) refl
  where
    empty : (c : ℕ) → (c == client) ≡ true → told c ≡ []
    empty c same = subst (λ d. told d ≡ []) (let e : client ≡ c = grind (arith, nat_tests) in e) none

    one : (c fallen low high : ℕ) → told c ≡ [] → FallShown (fall_of b falls) fallen low high
        → FallsShown b (told c ++ (record { flight = flight; falls = falls }) ∷ []) fallen low high
    one c fallen low high fact shown = subst (λ ts. FallsShown b (ts ++ (record { flight = flight; falls = falls }) ∷ []) fallen low high) (sym fact) (
      once,
      shown,
    )

    by_named : (o : Option Fall) → fall_of b falls ≡ o
        → BlockShown b p (λ c. if c == client then told c ++ (record { flight = flight; falls = falls }) ∷ [] else told c)
        (block.history_after (acts_of_fall client o) t)
    by_named None fact =
        record { newest = s.newest; absent = s.absent; values = s.values; writers = s.writers; pinned = s.pinned; falls = λ c. go c (c == client) refl }
      where
        go : (c : ℕ) (y : Bool) → (c == client) ≡ y
            → FallsShown b (if y then told c ++ (record { flight = flight; falls = falls }) ∷ [] else told c) (t.fallen c) (t.low c) (t.high c)
        go c true same =
            one c (t.fallen c) (t.low c) (t.high c) (empty c same)
            (subst (λ o. FallShown o (t.fallen c) (t.low c) (t.high c)) (sym fact)
            (subst (λ ts. FallsShown b ts (t.fallen c) (t.low c) (t.high c)) (empty c same) (s.falls c)))
        go c false apart = s.falls c
    by_named (Some f) fact =
        record { newest = s.newest; absent = s.absent; values = s.values; writers = s.writers; pinned = s.pinned; falls = λ c. go c (c == client) refl }
      where
        go : (c : ℕ) (y : Bool) → (c == client) ≡ y
            → FallsShown b (if y then told c ++ (record { flight = flight; falls = falls }) ∷ [] else told c) (if y then 1 else t.fallen c)
            (if y then f.low else t.low c) (if y then f.high else t.high c)
        go c true same = one c 1 f.low f.high (empty c same) (subst (λ o. FallShown o 1 f.low f.high) (sym fact) (refl, refl, refl))
        go c false apart = s.falls c

-- a return
pub back_shown : (b : BlockId) (h : History) (t : block.History) (client : ℕ) (chain : List SegName) (ts : List FallTold) → BlockShown b (h.of_block b) h.told t
    → FallsShown b ts (t.fallen client) (t.low client) (t.high client) → block.LegalBack t client
    → BlockShown b ((settle chain ts h).of_block b) (λ c. if c == client then [] else (settle chain ts h).told c)
    (block.after_act (BackBlock client (is_adopted chain ts)) t)
back_shown b h t client chain [] s none legal = uncut_shown b (h.of_block b) h.told t s client (t.low client) none
back_shown b h t client chain (w ∷ []) s fell legal =
    let adopted = holds_flight chain w.flight in
    subst (λ (told : ℕ → List FallTold). BlockShown b ((settle_falls (holds_flight chain w.flight) w.falls h).of_block b)
    (λ c. if c == client then [] else told c) (block.after_act (BackBlock client (holds_flight chain w.flight)) t))
    (sym (settled_told adopted w.falls h))
    (subst (λ (p : BlockHistory). BlockShown b p (λ c. if c == client then [] else h.told c)
    (block.after_act (BackBlock client (holds_flight chain w.flight)) t))
    (sym (settled_block adopted w.falls h b fell.0))
    (by_fall b (h.of_block b) h.told t s client adopted (fall_of b w.falls) fell.1 legal))
back_shown b h t client chain (w ∷ u ∷ ws) s none legal = absurd none
