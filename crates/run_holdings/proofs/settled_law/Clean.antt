-- The greatest version that is filed of a block: who has the block dirty knows it as settled; where nobody has, and nobody fell with the block, it is the newest,
-- with that version's value. Read off how the block is seen in the abstract token protocol.
use Rattle.std.proofs.Common.{◌≡◌, ℕ, zero, suc, ◌<◌, ◌≤◌, Bool, true, false, nat_lt, cond, List, [], ◌∷◌, length, Option, None, Some, inl, inr, refl, sym, ap, subst, ◌∙◌, arith}
use Rattle.std.specs.Prelude.{slice_get}
use Rattle.std.proofs.lemmas.Bool.{ltb-true}
use Rattle.std.proofs.lemmas.Bool.Decides.{nat_tests}
use Rattle.act_tie.proofs.Injection.{number-same}
use Rattle.act_tie.proofs.Legality.{are_shown}
use Rattle.act_tie.specs.BlockActs.{acts_of, fall_of}
use Rattle.act_tie.specs.Number.{number}
use Rattle.act_tie.specs.Shown.{FallShown, FallsShown, HistoryShown}
use Rattle.headline.specs.Falls.{Names}
use Rattle.token_client.specs.Held.{is_dirty}
use Rattle.token_client.specs.State.{held_of}
use Rattle.token_law.proofs.Apart.{falls_kept}
use Rattle.token_law.proofs.ClientViews.{shown_up}
use Rattle.token_law.proofs.Laws.{acts_are_legal}
use Rattle.token_law.proofs.Start.{always}
use Rattle.token_law.proofs.Views.{ClientShown, View}
use Rattle.token_law.specs.Books.{said}
use Rattle.token_law.specs.Laws.{IsClient, Moment, versions_of}
use Rattle.token_law.specs.Net.{Net}
use Rattle.token_protocol.proofs.Invariant.{Invariant, always as invariant, owned}
use Rattle.token_protocol.proofs.Laws.{cleaner_empty, cleaner_idle, dirty_leads, join_is_join, join_newest}
use Rattle.token_protocol.proofs.Told.{Matches, acts_match}
use Rattle.token_protocol.specs.Acts.{history}
use Rattle.token_protocol.specs.Basics.{In}
use Rattle.token_protocol.specs.Entry as abstract
use Rattle.token_protocol.specs.World.{Clean, World}
use Rattle.version_model.specs.declared.act.Fall.{Fall}
use Rattle.version_model.specs.declared.history.FallTold.{FallTold}
use Rattle.version_model.specs.declared.history.Version.{Version}
use Rattle.version_model.specs.Effects.{history_after}
use Rattle.version_model.specs.History.{Content, content_at, nothing_yet}
use Rattle.xfs_base.proofs.BlockOrder.{same_block_exact}
use Rattle.xfs_base.specs.Blocks.{same_block}
use Rattle.xfs_base.specs.declared.block.BlockId.{BlockId}

-- ---- falls

-- the fall that is found is one of them, of this block
found_in : (b : BlockId) (falls : List Fall) (f : Fall) → fall_of b falls ≡ Some f → In f falls × (f.block ≡ b)
found_in b [] f fact = absurd (cc)
found_in b (x ∷ falls) f fact = by (same_block x.block b) refl fact (λ later. found_in b falls f later)
  where
    same : (y z : Fall) → Some y ≡ Some z → z ≡ y
    same y z e = cc

    by : (t : Bool) → same_block x.block b ≡ t → cond t (Some x) (fall_of b falls) ≡ Some f → (fall_of b falls ≡ Some f → In f falls × (f.block ≡ b))
        → In f (x ∷ falls) × (f.block ≡ b)
    by true it here rest = let one : f ≡ x = same x f here in (inl one, ap (λ (y : Fall). y.block) one ∙ sym (same_block_exact x.block b it))
    by false it later rest = let r = rest later in (inr r.0, r.1)

-- where no fall that waits names the block, its client isn't fallen there
unfallen : (b : BlockId) (told : List FallTold) (fallen low high : ℕ) → (Names b told → ⊥) → FallsShown b told fallen low high → fallen ≡ 0
unfallen b [] fallen low high none shown = shown
unfallen b (t ∷ []) fallen low high none shown = by (fall_of b t.falls) refl shown.1
  where
    by : (o : Option Fall) → fall_of b t.falls ≡ o → FallShown o fallen low high → fallen ≡ 0
    by None fact is = is
    by (Some f) fact is =
        let it = found_in b t.falls f fact in
        absurd (none (record { told_so = t; among = inl refl; fall = f; named = it.0; block = it.1 }))
unfallen b (t ∷ u ∷ more) fallen low high none shown = absurd shown

-- ---- values

-- the content of the last version, by its number there
content_of : (versions : List Version) (value_at : ℕ → ℕ)
    → ((v : ℕ) (x : Version) → slice_get versions v ≡ Some x → value_at (suc v) ≡ number x.content) → (last : ℕ) (value : Content)
    → 0 < last → last ≡ length versions → number value ≡ value_at last → content_at last versions ≡ Some value
content_of versions value_at values zero value some at same = absurd (omega arith)
content_of versions value_at values (suc n) value some at same = go (slice_get versions n) refl
  where
    go : (o : Option Version) → slice_get versions n ≡ o → elim o as (λ _. Option Content) [ None ↦ None | Some v ↦ Some v.content ] ≡ Some value
    go None fact = absurd (nothing versions n (omega arith) fact)
      where
        nothing : (xs : List Version) (k : ℕ) → k < length xs → slice_get xs k ≡ None → ⊥
        nothing [] k below none = absurd (omega arith)
        nothing (x ∷ xs) zero below none = absurd (cc)
        nothing (x ∷ xs) (suc k) below none = nothing xs k (omega arith) none
    go (Some v) fact = ap Some (number-same v.content value (sym (values n v fact) ∙ sym same))

-- ---- the block

-- What is filed of the block is joined: no filed version is above this one, and where it is above 0, a client's log has filed it. What is filed of the newest
-- version has its value.
pub record HasJoin (members : ℕ) (n : Net) (b : BlockId) : Type 0 where
  pub version : ℕ
  pub upper : (l q : ℕ) → q ≤ n.books.end l → (said n.books l q b).version ≤ version
  pub log : ℕ
  pub seq : ℕ
  pub some : 0 < version → 0 < log
  pub within : 0 < version → log < members
  pub filed : 0 < version → seq ≤ n.books.end log
  pub attained : 0 < version → (said n.books log seq b).version ≡ version
  pub content : (l q : ℕ) → q ≤ n.books.end l → 0 < length (versions_of n b) → (said n.books l q b).version ≡ length (versions_of n b)
      → content_at (length (versions_of n b)) (versions_of n b) ≡ Some (said n.books l q b).value
  -- a client that has the block dirty knows it as settled
  pub settled : (c : ℕ) → IsClient members c → n.up c ≡ true → is_dirty (held_of (n.tokens c).blocks b) ≡ true → (held_of (n.tokens c).blocks b).settled ≡ version
  -- where none has, and none fell with the block, it is the newest
  pub newest : ((c : ℕ) → IsClient members c → n.up c ≡ true → is_dirty (held_of (n.tokens c).blocks b) ≡ false)
      → ((c : ℕ) → Names b ((history_after n.acts nothing_yet).told c) → ⊥) → version ≡ length (versions_of n b)

module _ (members part : ℕ) (n : Net) (b : BlockId) (some : 0 < members) (m : Moment true members part n b) where
  abbrev v : View true members part b n
  v = (always true members part n some m.run).good.views b m.inside

  abbrev w : World
  w = v.world

  whole : Invariant w
  whole = invariant members w v.steps

  matches : Matches (history (acts_of b n.acts)) w
  matches = subst (λ acts. Matches (history acts) w) v.acts (acts_match members w v.steps)

  shown : HistoryShown b (history_after n.acts nothing_yet) (history (acts_of b n.acts))
  shown = are_shown n.acts (falls_kept true members part n m.run).apart b (acts_are_legal members part n b m)

  -- how many versions there are
  many : length (versions_of n b) ≡ w.newest
  many = sym shown.newest ∙ matches.length

  says : (l q : ℕ) → (w.rows l q).version ≡ (said n.books l q b).version
  says l q = ap (λ (r : abstract.Row). r.version) (v.kept.says l q)

  content : (l q : ℕ) → q ≤ n.books.end l → 0 < length (versions_of n b) → (said n.books l q b).version ≡ length (versions_of n b)
      → content_at (length (versions_of n b)) (versions_of n b) ≡ Some (said n.books l q b).value
  content l q filed positive last =
      let row = says l q in
      let value : (w.rows l q).value ≡ w.value_at (w.rows l q).version = whole.content.values.rows_value l q (omega arith) in
      let told : number (said n.books l q b).value ≡ (w.rows l q).value = sym (ap (λ (r : abstract.Row). r.value) (v.kept.says l q)) in
      content_of (versions_of n b) (history (acts_of b n.acts)).value_at shown.values (length (versions_of n b)) (said n.books l q b).value positive refl
      (told ∙ value ∙ ap w.value_at (row ∙ last) ∙ sym (matches.values (length (versions_of n b))))

  -- ---- who has it dirty

  settled : (c : ℕ) → IsClient members c → n.up c ≡ true → is_dirty (held_of (n.tokens c).blocks b) ≡ true
      → (held_of (n.tokens c).blocks b).settled ≡ w.join_version
  settled c fact up dirty =
      let its = shown_up true members part b n v c fact.some fact.within up in
      let known : (w.client c).settled ≡ (held_of (n.tokens c).blocks b).settled = its.settled in
      let version : (w.client c).version ≡ (held_of (n.tokens c).blocks b).ver = its.version in
      let less = ltb-true (held_of (n.tokens c).blocks b).settled (held_of (n.tokens c).blocks b).ver dirty in
      sym known ∙ (dirty_leads w whole c (omega arith)).settled

  -- a client of the run is clean there
  client_clean : (c : ℕ) → (n.up c ≡ true → is_dirty (held_of (n.tokens c).blocks b) ≡ false) → (up : Bool) → n.up c ≡ up
      → ClientShown up b c (n.tokens c) w.epoch (w.client c) → Clean w c
  client_clean c clean true up is =
      let version : (w.client c).version ≡ (held_of (n.tokens c).blocks b).ver = is.version in
      let settled : (w.client c).settled ≡ (held_of (n.tokens c).blocks b).settled = is.settled in
      let tested : nat_lt (held_of (n.tokens c).blocks b).settled (held_of (n.tokens c).blocks b).ver ≡ false = clean up in
      let low : (held_of (n.tokens c).blocks b).ver ≤ (held_of (n.tokens c).blocks b).settled = grind (arith, nat_tests) in
      omega arith
  client_clean c clean false up is = let none = is.version in omega arith

  -- a number that names no client holds nothing, so it is clean
  outsider_clean : (c : ℕ) → w.members ≤ c → Clean w c
  outsider_clean c out =
      let down = whole.book.serving.outsider_down c out in
      let nothing = whole.book.serving.down_mode c down in
      grind (arith, whole.book.asking.dirty_owned c)

  all_clean : ((c : ℕ) → IsClient members c → n.up c ≡ true → is_dirty (held_of (n.tokens c).blocks b) ≡ false) → (c : ℕ) → Clean w c
  all_clean clean zero = (cleaner_idle w (owned true members w v.steps)).clean
  all_clean clean (suc c) = by (nat_lt (suc c) members) refl
    where
      by : (t : Bool) → nat_lt (suc c) members ≡ t → Clean w (suc c)
      by true fact =
          let within : suc c < members = grind (arith, nat_tests) in
          client_clean (suc c) (clean (suc c) (record { some = omega arith; within = within })) (n.up (suc c)) refl
          (v.clients (suc c) (omega arith) within)
      by false fact = let out : members ≤ suc c = grind (arith, nat_tests) in outsider_clean (suc c) (let all = v.many in omega arith)

  none_fell : ((c : ℕ) → Names b ((history_after n.acts nothing_yet).told c) → ⊥) → (c : ℕ) → w.fallen c ≡ 0
  none_fell none c = sym (matches.falls c) ∙ unfallen b ((history_after n.acts nothing_yet).told c) _ _ _ (none c) (shown.falls c)

  -- ---- the join

  -- a client has the row: the cleaner as a member, number 0, has none
  of_client : (l : ℕ) → w.join_log ≡ l → (w.rows w.join_log w.join_segment).version ≡ w.join_version → 0 < w.join_version → 0 < l
  of_client zero at row positive =
      absurd (
      let empty = (cleaner_empty w (let all = v.many in omega arith) whole).rows w.join_segment in
      let here = ap (λ x. (w.rows x w.join_segment).version) at in
      omega arith)
  of_client (suc l) at row positive = omega arith

  pub has_join : HasJoin members n b
  has_join = record {
    version = w.join_version;
    upper = λ l q filed. (let end = v.kept.ends l in let row = says l q in let limit = (join_is_join w whole).upper l q (omega arith) in omega arith);
    log = w.join_log;
    seq = w.join_segment;
    some = λ positive. of_client w.join_log refl (whole.filing.joined.join_row positive).0 positive;
    within = λ positive. (let at = (whole.filing.joined.join_row positive).2 in let all = v.many in omega arith);
    filed = λ positive. (let at = (whole.filing.joined.join_row positive).1 in let end = v.kept.ends w.join_log in omega arith);
    attained = λ positive. (let at = (whole.filing.joined.join_row positive).0 in let row = says w.join_log w.join_segment in omega arith);
    content = content;
    settled = settled;
    newest = λ clean none. (join_newest w whole (all_clean clean) (none_fell none)).version ∙ sym many;
  }
