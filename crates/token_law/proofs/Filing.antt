-- Segments that are sealed, filed and reopened, and versions that are settled: the world is seen as before.
use Rattle.std.proofs.Common.{◌≡◌, ℕ, zero, suc, ◌≤◌, ◌<◌, Bool, true, false, List, [], ◌++◌, inl, ⊎_elim, refl, sym, ap, subst, ◌∙◌, append-nil, arith}
use Rattle.std.proofs.lemmas.Bool.Decides.{nat_tests}
use Rattle.std.proofs.lemmas.Bool.{ltb-true}
use Rattle.xfs_base.specs.declared.block.BlockId.{BlockId}
use Rattle.xfs_base.proofs.Booleans.{contrary}
use Rattle.act_tie.specs.BlockActs.{acts_of}
use Rattle.act_tie.specs.Number.{number}
use Rattle.token_client.specs.Laws.{IsSound}
use Rattle.token_client.specs.State.{TokensState, held_of}
use Rattle.token_client.specs.Transition as client
use Rattle.token_protocol.specs.Basics.{put}
use Rattle.token_protocol.specs.Cleaning.{MaySealCopy}
use Rattle.token_protocol.specs.Entry as abstract
use Rattle.token_protocol.specs.Logging.{settles}
use Rattle.token_protocol.specs.Premises.{Premise, SettledEnd, SegmentFlying}
use Rattle.token_protocol.specs.Step.{Step, Steps}
use Rattle.token_protocol.specs.Step.Step.{SealsWith, Seals, Settles, SealsCopy, SealsOther, SettlesCopy, DiscardsCopy, Loses}
use Rattle.token_protocol.specs.Step.Steps.{Done, More}
use Rattle.token_protocol.specs.Told.{tells, told}
use Rattle.token_protocol.specs.World.{World, start}
use Rattle.token_protocol.proofs.Invariant.{owned, always}
use Rattle.token_protocol.proofs.Laws.{epoch_promised, flights_new}
use Rattle.token_protocol.proofs.Refining.{put_each}
use Rattle.token_tie.specs.Seen.{Shows, ValueShown, local_of}
use Rattle.token_tie.proofs.ClientLaws.{settles_blocks}
use Rattle.token_tie.proofs.Frames.{put_here, put_there}
use Rattle.token_law.specs.Books.{Row, Books, row_in, said, sealed, filed, discarded, reopened, with_empty}
use Rattle.token_law.specs.Net.{Net, all_settled}
use Rattle.token_law.specs.Owed.{SealsNewest, SealsOriginals}
use Rattle.token_law.proofs.Premises.{owed, owed_on}
use Rattle.token_law.proofs.Logged.{flag, row_seen, LogsSeen, Kept, BooksWhole, sealed_seen, sealed_without, filed_seen, discarded_seen, whole_sealed, whole_filed, whole_discarded}
use Rattle.token_law.proofs.Views.{setting, ClientShown, FellDirty, IsNobody, View, Lasts, told_no_more, lasts_by, carried_on}
use Rattle.token_law.proofs.ClientViews.{shown_up, same_manager, rebooked_world}
use Rattle.token_law.proofs.Settling.{once_settled, none_settled, settled_here, settled_once, settled_some}

-- the world, with these logs
abbrev pub logged : World → (ℕ → ℕ) → (ℕ → ℕ) → (ℕ → ℕ → abstract.Row) → World
logged w end flight rows = record w { end = end; flight = flight; rows = rows }

module _ (logs : Bool) (members part : ℕ) (b : BlockId) (n : Net) (v : View logs members part b n) where
  abbrev pub w : World
  w = v.world

  abbrev Told : (u : World) → Steps logs (start members) u → Type 0
  Told u steps = told (start members) u steps ≡ acts_of b n.acts

  -- logs change by a step that tells nothing, and nothing else
  pub rebooked : (k : Books) (end flight : ℕ → ℕ) (rows : ℕ → ℕ → abstract.Row) (step : Step logs w (logged w end flight rows))
      → tells w (logged w end flight rows) step ≡ []
      → Premise logs (LogsSeen b k end flight rows) → View logs members part b (record n { books = k })
  rebooked k end flight rows step quiet kept =
      rebooked_world logs members part b n v w.pinned end flight rows k n.acts (More v.steps step) kept
      (owed_on logs (Told w v.steps) (Told (logged w end flight rows) (More v.steps step))
      (λ old. (λ i. old i ++ quiet i) ∙ append-nil (acts_of b n.acts)) v.acts)

  -- a client's segment, with this version of the block, is filed, and its tokens are told
  pub settled_view : (c ver : ℕ) (flight : ℕ → ℕ) (rows : ℕ → ℕ → abstract.Row) (s : TokensState) (k : Books) → 0 < c → c < members → n.up c ≡ true
      → IsSound (n.tokens c)
      → (steps : Steps logs (start members) (logged w w.end flight rows)) → Premise logs (Told (logged w w.end flight rows) steps)
      → Premise logs (SegmentFlying (logged w w.end flight rows) c)
      → (rows c (suc (w.end c))).version ≡ ver → ver ≤ (held_of (n.tokens c).blocks b).ver
      → local_of s b ≡ local_of (client.on_settled (n.tokens c) b ver).state b
      → Premise logs (LogsSeen b k (put w.end c (suc (w.end c))) (put flight c 0) rows)
      → View logs members part b (record n { tokens = put n.tokens c s; books = k })
  settled_view c ver flight rows s k pos less up sound steps told_ flying row below same kept =
      let g = setting b c (n.tokens c).inc in
      let f = logged w w.end flight rows in
      let shown = shown_up logs members part b n v c pos less up in
      let both = settles_blocks logs g (w.end c) f (n.tokens c) ver
      (record {
        shows = shown;
        sound = sound;
        promised = epoch_promised w (owned logs members w v.steps) c (let m = v.many in omega arith);
        settled = owed logs (SettledEnd f c (w.end c)) (λ _. record { last_filed = refl });
      })
      (record { serving = shown.serving }) flying row below in
      let u = settles f c in
      let step : Step logs f u = Settles c (record { serving = shown.serving }) flying in
      let shows : Shows g w.epoch (local_of s b) (u.client c) = subst (λ l. Shows g w.epoch l (u.client c)) (sym same) both.1 in
      record {
        world = u;
        steps = More steps step;
        many = v.many;
        some = v.some;
        positive = v.positive;
        fell = put_each (λ d x. 0 < d → d < members → FellDirty (n.up d) (held_of x.blocks b) (u.fallen d)) n.tokens c s
            (λ _ _ down _. contrary (sym down ∙ up)) (λ d other. v.fell d);
        slot = v.slot;
        sound = v.sound;
        reigns = v.reigns;
        past = v.past;
        nobody = subst (λ x. IsNobody x w.epoch) (sym (put_there w.client c _ 0 (λ same. absurd (omega arith)))) v.nobody;
        clients = put_each (λ d x. 0 < d → d < members → ClientShown (n.up d) b d x w.epoch (u.client d)) n.tokens c s
            (λ _ _. subst (λ t. ClientShown t b c s w.epoch (u.client c)) (sym up)
            (subst (λ i. Shows (setting b c i) w.epoch (local_of s b) (u.client c)) (sym shows.boot) shows))
            (λ d other pos less. subst (λ x. ClientShown (n.up d) b d (n.tokens d) w.epoch x) (sym (put_there w.client c _ d other)) (v.clients d pos less));
        manages = same_manager logs members part b n v u refl refl (λ d. refl) (λ d. refl) refl v.manages.job;
        sent = λ p fact. carried_on logs part b f u p
            (record {
              epoch = refl;
              wants = λ x h. h;
              gaves = λ x h. h;
              offers = λ x h. h;
              recalls = λ x h. h;
              reports = λ x h. h;
              lasts = lasts_by logs members f u steps (More Done step);
            })
            (carried_on logs part b w f p
            (record {
              epoch = refl;
              wants = λ x h. h;
              gaves = λ x h. h;
              offers = λ x h. h;
              recalls = λ x h. h;
              reports = λ x h. h;
              lasts = owed logs (Lasts w f) (λ _. record { join = omega arith; value = λ m _. refl });
            }) (v.sent p fact));
        kept = kept;
        acts = told_no_more logs (told (start members) f steps) (acts_of b n.acts) told_;
      }

-- nothing is asked of logs that don't keep their word
pub unbooked : (members part : ℕ) (b : BlockId) (n : Net) → View false members part b n → (k : Books) → View false members part b (record n { books = k })
unbooked members part b n v k = rebooked false members part b n v k v.world.end v.world.flight v.world.rows (Loses v.world refl) refl tt

-- nothing is in flight there where nothing is in flight here
unflown : (b : BlockId) (k : Books) (w : World) (l : ℕ) → Kept b k w → k.flying l ≡ false → w.flight l ≡ 0
unflown b k w l kept free = kept.flights l ∙ ap flag free

flown : (b : BlockId) (k : Books) (w : World) (l : ℕ) → Kept b k w → k.flying l ≡ true → w.flight l ≡ 1
flown b k w l kept flies = kept.flights l ∙ ap flag flies

-- the next segment says nothing yet
unsaid : (members : ℕ) (k : Books) (l : ℕ) → BooksWhole members k → k.flying l ≡ false → k.rows l (suc (k.end l)) ≡ []
unsaid members k l whole free = whole.beyond l (suc (k.end l)) (let none = ap flag free in omega arith)

-- ---- a client seals

pub seals_view : (logs : Bool) (members part : ℕ) (b : BlockId) (n : Net) → View logs members part b n → (c : ℕ) (rows : List (BlockId × Row)) → 0 < c
    → c < members → n.up c ≡ true
    → Premise logs (n.books.flying c ≡ false) → Premise logs (SealsNewest (n.tokens c) rows) → Premise logs (BooksWhole members n.books)
    → View logs members part b (record n { books = sealed n.books c rows })
seals_view false members part b n v c rows pos less up free newest whole = unbooked members part b n v (sealed n.books c rows)
seals_view true members part b n v c rows pos less up free newest whole =
    ⊎_elim
    (λ none. rebooked true members part b n v (sealed n.books c rows) w.end (put w.flight c 1) w.rows
    (Seals c (record { client = pos; serving = shown.serving; none = unflown b n.books w c v.kept free })) refl
    (sealed_without b n.books w.end w.flight w.rows v.kept c rows none (unsaid members n.books c whole free)))
    (λ h.
    let x = w.client c in
    let ver = shown.version ∙ sym h.1 in
    let value : x.value ≡ number (row_in rows b).value = subst (λ o. ValueShown number o x.value) h.2 shown.value in
    let dirty : x.settled < x.version = let s = shown.settled in let m = shown.version in let d = ltb-true _ _ h.0 in omega arith in
    rebooked true members part b n v (sealed n.books c rows) w.end (put w.flight c 1)
    (put w.rows c (put (w.rows c) (suc (w.end c)) (record { version = x.version; value = x.value })))
    (SealsWith c (record { dirty = dirty })) refl
    (sealed_seen b n.books w.end w.flight w.rows v.kept c rows (record { version = x.version; value = x.value })
    (λ i. record { version = ver i; value = value i })))
    (newest.newest b)
  where
    w : World
    w = v.world

    shown : Shows (setting b c (n.tokens c).inc) v.world.epoch (local_of (n.tokens c) b) (v.world.client c)
    shown = shown_up true members part b n v c pos less up

-- ---- a client's segment is filed

-- where logs keep their word, the newest row of the block is settled
files_true : (members part : ℕ) (b : BlockId) (n : Net) (v : View true members part b n) (c : ℕ) (s : TokensState) → 0 < c → c < members → n.up c ≡ true
    → IsSound (n.tokens c) → n.books.flying c ≡ true
    → local_of s b ≡ local_of (client.on_settled (n.tokens c) b (said n.books c (suc (n.books.end c)) b).version).state b
    → View true members part b (record n { tokens = put n.tokens c s; books = filed n.books c })
files_true members part b n v c s pos less up sound flies same =
    let w = v.world in
    let row = ap (λ e. (w.rows c (suc e)).version) (v.kept.ends c) ∙ ap (λ (r : abstract.Row). r.version) (v.kept.says c (suc (n.books.end c))) in
    let shown = shown_up true members part b n v c pos less up in
    let limit = (flights_new w (always members w v.steps) c (let m = v.many in omega arith)).held shown.serving in
    let ver = shown.version in
    settled_view true members part b n v c (said n.books c (suc (n.books.end c)) b).version w.flight w.rows s (filed n.books c) pos less up sound v.steps v.acts
    (record { in_flight = flown b n.books w c v.kept flies })
    row (let fact = row in omega arith) same (filed_seen b n.books w.end w.flight w.rows v.kept c)

-- where they don't, any version may be
files_false : (members part : ℕ) (b : BlockId) (n : Net) (v : View false members part b n) (c : ℕ) (s : TokensState) (ver : ℕ) → 0 < c → c < members
    → n.up c ≡ true → IsSound (n.tokens c) → ver ≤ (held_of (n.tokens c).blocks b).ver
    → local_of s b ≡ local_of (client.on_settled (n.tokens c) b ver).state b → (k : Books)
    → View false members part b (record n { tokens = put n.tokens c s; books = k })
files_false members part b n v c s ver pos less up sound below same k =
    let w = v.world in
    let r : abstract.Row = record { version = ver; value = 0 } in
    let flight = put w.flight c 1 in
    let rows = put w.rows c (put (w.rows c) (suc (w.end c)) r) in
    let row : (rows c (suc (w.end c))).version ≡ ver =
    ap (λ (h : ℕ → abstract.Row). (h (suc (w.end c))).version) (put_here w.rows c (put (w.rows c) (suc (w.end c)) r))
    ∙ ap (λ (x : abstract.Row). x.version) (put_here (w.rows c) (suc (w.end c)) r) in
    settled_view false members part b n v c ver flight rows s k pos less up sound
    (More v.steps (Loses (logged w w.end flight rows) refl)) tt tt row below same tt

pub files_view : (logs : Bool) (members part : ℕ) (b : BlockId) (n : Net) → View logs members part b n → (c : ℕ) → 0 < c → c < members → n.up c ≡ true
    → IsSound (n.tokens c) → Premise logs (n.books.flying c ≡ true)
    → Premise logs (BooksWhole members n.books)
    → View logs members part b (record n { tokens = put n.tokens c (all_settled (n.tokens c) (n.books.rows c (suc (n.books.end c)))); books = filed n.books c })
files_view true members part b n v c pos less up sound flies whole =
    let rows = n.books.rows c (suc (n.books.end c)) in
    files_true members part b n v c (all_settled (n.tokens c) rows) pos less up sound flies
    (settled_once b (n.tokens c) rows (whole.once c (suc (n.books.end c)) less))
files_view false members part b n v c pos less up sound flies whole =
    let rows = n.books.rows c (suc (n.books.end c)) in
    let d = settled_some b (n.tokens c) rows in
    files_false members part b n v c (all_settled (n.tokens c) rows) d.ver pos less up sound d.below d.decides (filed n.books c)

-- ---- segments that say nothing

-- one is sealed and filed by a client
one_empty : (members part : ℕ) (b : BlockId) (n : Net) → View true members part b n → (c : ℕ) → 0 < c → c < members → n.up c ≡ true → IsSound (n.tokens c)
    → n.books.flying c ≡ false → BooksWhole members n.books
    → View true members part b (record n { books = filed (sealed n.books c []) c })
one_empty members part b n v c pos less up sound free whole =
    let m : Net = record n { books = sealed n.books c [] } in
    let sealed_ : View true members part b m = seals_view true members part b n v c [] pos less up free (record { once = tt; newest = λ k. inl refl }) whole in
    let said_ : (said m.books c (suc (n.books.end c)) b).version ≡ 0 =
    ap (λ f. (row_in (f (suc (n.books.end c))) b).version) (put_here n.books.rows c (put (n.books.rows c) (suc (n.books.end c)) []))
    ∙ ap (λ xs. (row_in xs b).version) (put_here (n.books.rows c) (suc (n.books.end c)) []) in
    subst (λ tokens. View true members part b (record n { tokens = tokens; books = filed (sealed n.books c []) c })) (put_back n.tokens c)
    (files_true members part b m sealed_ c (n.tokens c) pos less up sound (put_here n.books.flying c true)
    (sym (settled_here b (n.tokens c) (said m.books c (suc (n.books.end c)) b).version ∙ ap (once_settled (local_of (n.tokens c) b)) said_
    ∙ none_settled (local_of (n.tokens c) b))))
  where
    put_back : {X : Type 0} (f : ℕ → X) (d : ℕ) → put f d (f d) ≡ f
    put_back f d = λ i e. one e i
      where
        one : (e : ℕ) → put f d (f d) e ≡ f e
        one e = grind (arith, nat_tests)

empties_true : (members part : ℕ) (b : BlockId) (n : Net) (c count : ℕ) → View true members part b n → 0 < c → c < members → n.up c ≡ true
    → IsSound (n.tokens c) → n.books.flying c ≡ false → BooksWhole members n.books
    → View true members part b (record n { books = with_empty count n.books c })
empties_true members part b n c zero v pos less up sound free whole = v
empties_true members part b n c (suc count) v pos less up sound free whole =
    let k = filed (sealed n.books c []) c in
    empties_true members part b (record n { books = k }) c count (one_empty members part b n v c pos less up sound free whole) pos less up sound
    (put_here (put n.books.flying c true) c false)
    (whole_filed members (sealed n.books c []) c (whole_sealed members n.books c [] (λ _. tt) whole))

pub empties_view : (logs : Bool) (members part : ℕ) (b : BlockId) (n : Net) (c count : ℕ) → View logs members part b n → 0 < c → c < members → n.up c ≡ true
    → IsSound (n.tokens c) → Premise logs (n.books.flying c ≡ false)
    → Premise logs (BooksWhole members n.books) → View logs members part b (record n { books = with_empty count n.books c })
empties_view true members part b n c count v pos less up sound free whole = empties_true members part b n c count v pos less up sound free whole
empties_view false members part b n c count v pos less up sound free whole = unbooked members part b n v (with_empty count n.books c)

-- ---- the cleaner's log

pub copies_view : (logs : Bool) (members part : ℕ) (b : BlockId) (n : Net) → View logs members part b n → (l : ℕ) (rows : List (BlockId × Row)) → members ≤ l
    → Premise logs (n.books.flying l ≡ false)
    → Premise logs (SealsOriginals n.books rows) → Premise logs (BooksWhole members n.books)
    → View logs members part b (record n { books = sealed n.books l rows })
copies_view false members part b n v l rows out free originals whole = unbooked members part b n v (sealed n.books l rows)
copies_view true members part b n v l rows out free originals whole =
    let w = v.world in
    let may : MaySealCopy w l = record { outsider = let m = v.many in omega arith; none = unflown b n.books w l v.kept free } in
    ⊎_elim
    (λ none. rebooked true members part b n v (sealed n.books l rows) w.end (put w.flight l 1) w.rows (SealsOther l may) refl
    (sealed_without b n.books w.end w.flight w.rows v.kept l rows none (unsaid members n.books l whole free)))
    (λ h.
    let r = w.rows h.0 h.1 in
    rebooked true members part b n v (sealed n.books l rows) w.end (put w.flight l 1) (put w.rows l (put (w.rows l) (suc (w.end l)) r))
    (SealsCopy l h.0 h.1 may (record { filed = let e = v.kept.ends h.0 in let q = h.2 in omega arith })) refl
    (sealed_seen b n.books w.end w.flight w.rows v.kept l rows r (v.kept.says h.0 h.1 ∙ ap row_seen (sym h.3))))
    (originals.copies b)

pub filed_view : (logs : Bool) (members part : ℕ) (b : BlockId) (n : Net) → View logs members part b n → (l : ℕ) → members ≤ l
    → Premise logs (n.books.flying l ≡ true) → View logs members part b (record n { books = filed n.books l })
filed_view false members part b n v l out flies = unbooked members part b n v (filed n.books l)
filed_view true members part b n v l out flies =
    let w = v.world in
    rebooked true members part b n v (filed n.books l) (put w.end l (suc (w.end l))) (put w.flight l 0) w.rows
    (SettlesCopy l (record { outsider = let m = v.many in omega arith; flying = flown b n.books w l v.kept flies })) refl
    (filed_seen b n.books w.end w.flight w.rows v.kept l)

discarded_view : (members part : ℕ) (b : BlockId) (n : Net) → View true members part b n → (l : ℕ) → members ≤ l
    → View true members part b (record n { books = discarded n.books l })
discarded_view members part b n v l out =
    let w = v.world in
    rebooked true members part b n v (discarded n.books l) w.end (put w.flight l 0) (put w.rows l (put (w.rows l) (suc (w.end l)) abstract.no_row))
    (DiscardsCopy l (record { outsider = let m = v.many in omega arith })) refl (discarded_seen b n.books w.end w.flight w.rows v.kept l)

other_empties : (members part : ℕ) (b : BlockId) (n : Net) (l count : ℕ) → View true members part b n → members ≤ l → n.books.flying l ≡ false
    → BooksWhole members n.books
    → View true members part b (record n { books = with_empty count n.books l })
other_empties members part b n l zero v out free whole = v
other_empties members part b n l (suc count) v out free whole =
    let m : Net = record n { books = sealed n.books l [] } in
    let one : View true members part b m = copies_view true members part b n v l [] out free (record { copies = λ k. inl refl }) whole in
    other_empties members part b (record n { books = filed (sealed n.books l []) l }) l count
    (filed_view true members part b m one l out (put_here n.books.flying l true)) out (put_here (put n.books.flying l true) l false)
    (whole_filed members (sealed n.books l []) l (whole_sealed members n.books l [] (λ _. tt) whole))

pub reopens_view : (logs : Bool) (members part : ℕ) (b : BlockId) (n : Net) → View logs members part b n → (l : ℕ) (adopted : Bool) (count : ℕ) → members ≤ l
    → Premise logs (adopted ≡ true → n.books.flying l ≡ true)
    → Premise logs (BooksWhole members n.books) → View logs members part b (record n { books = with_empty count (reopened n.books l adopted) l })
reopens_view false members part b n v l adopted count out flies whole = unbooked members part b n v (with_empty count (reopened n.books l adopted) l)
reopens_view true members part b n v l true count out flies whole =
    other_empties members part b (record n { books = filed n.books l }) l count (filed_view true members part b n v l out (flies refl)) out
    (put_here n.books.flying l false) (whole_filed members n.books l whole)
reopens_view true members part b n v l false count out flies whole =
    other_empties members part b (record n { books = discarded n.books l }) l count (discarded_view members part b n v l out) out
    (put_here n.books.flying l false) (whole_discarded members n.books l whole)
