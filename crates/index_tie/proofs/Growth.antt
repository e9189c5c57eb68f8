-- Filing one more segment is a step at each block, and what was seen stays seen.
use Rattle.std.proofs.Common.{◌≡◌, ℕ, zero, suc, ◌+◌, ◌-◌, ◌<◌, ◌≤◌, ◌==◌, ◌&&◌, Bool, true, false, cond, nat_lt, nat_le, [], ◌++◌, refl, sym, ap, subst, ◌∙◌, inl, inr, ◌⊎◌, arith}
use Rattle.std.specs.List.{flat_map, range_with_len}
use Rattle.std.proofs.lemmas.Bool.Decides.{nat_tests}
use Rattle.xfs_base.specs.declared.block.BlockId.{BlockId}
use Rattle.xfs_base.specs.declared.entry.Entry.{Entry}
use Rattle.xfs_base.specs.Limits.{block_logs}
use Rattle.segment_format.specs.declared.segment.Segment.{Segment}
use Rattle.segment_format.specs.Rows.{rows_of}
use Rattle.delta_index.specs.Entries.{no_entry}
use Rattle.delta_index.specs.Join.{join}
use Rattle.token_manager.specs.Transition.{entry_at}
use Rattle.log_protocol.specs.Tables.{put, put_at}
use Rattle.log_protocol.specs.IndexState.{IndexState, Joins}
use Rattle.log_protocol.specs.IndexState as index
use Rattle.log_protocol.specs.IndexSteps.{files, files_none, copies}
use Rattle.log_protocol.specs.IndexSteps.IndexSteps.{Done as Ended, More}
use Rattle.log_protocol.specs.IndexSteps.IndexStep.{Files as File, Files_none, Copies}
use Rattle.index_tie.specs.Filed.{IsFiled, Tells, Names}
use Rattle.headline.specs.Filed.{Filed, IsSegment, row_at, rows_at, rows_between}
use Rattle.index_tie.specs.Takeovers.{below}
use Rattle.index_tie.specs.Growth.{with_segment, said_of, IsCopy, Files, ClientsFile, CleanerFiles, IsMore, SlotsStay, PartsStay, DeltasStay, MoreIsFiled}
use Rattle.index_tie.proofs.Rows.{Versioned, versioned_of, join_has, by_filed}
use Rattle.index_tie.proofs.Tables.{put_each, first_of}

-- ---- what was filed says what it said

pub rows_stay : (f g : Filed) (l q : ℕ) → IsMore f g → q ≤ f.head l → rows_at g l q ≡ rows_at f l q
rows_stay f g l q more limit =
    let head = more.head l in
    by (nat_lt 0 q) (nat_le q (g.head l)) (nat_le q (f.head l)) (λ h. grind (arith, nat_tests, h)) (grind (arith, nat_tests)) (grind (arith, nat_tests))
  where
    by : (some here there : Bool) → (some ≡ true → 0 < q) → here ≡ true → there ≡ true
        → cond (some && here) (rows_of (g.segment l q)) [] ≡ cond (some && there) (rows_of (f.segment l q)) []
    by true true true from _ _ = ap rows_of (more.segment l q (from refl) limit)
    by false true true from _ _ = refl
    by some false there from h _ = absurd (cc)
    by some here false from _ h = absurd (cc)

pub row_stays : (b : BlockId) (f g : Filed) (l q : ℕ) → IsMore f g → q ≤ f.head l → row_at g b l q ≡ row_at f b l q
row_stays b f g l q more limit = ap (λ r. join r b) (rows_stay f g l q more limit)

-- where a row has a version, its seq is filed
pub is_filed : (b : BlockId) (f : Filed) (l q : ℕ) → 0 < (row_at f b l q).ver → (0 < q) × (q ≤ f.head l)
is_filed b f l q = by_filed (λ rows. 0 < (join rows b).ver → (0 < q) × (q ≤ f.head l)) f l q (λ some limit _. (some, limit)) (λ none. absurd (omega arith))

pub names_stay : (b : BlockId) (f g : Filed) (e : Entry) (named : index.Entry) → IsMore f g → Names b f e named → Names b g e named
names_stay b f g e named more n = record {
  version = n.version;
  hop = n.hop;
  row = λ some.
      let fact = n.row some in
      let within = is_filed b f named.log named.seq (subst (λ (x : Entry). 0 < x.ver) fact some) in
      fact ∙ sym (row_stays b f g named.log named.seq more within.1);
  none = n.none;
}

pub slots_stay : SlotsStay
slots_stay b f g w v s more kept m = record {
  active = kept.active ∙ m.active;
  applied = λ l some. kept.applied l ∙ m.applied l some;
  index = subst (Names b g (entry_at s b)) (sym kept.index) (names_stay b f g (entry_at s b) (w.index s.epoch) more m.index);
}

-- a join of what is filed stays one
pub joins_stay : (b : BlockId) (f g : Filed) (w v : IndexState) (upto : ℕ → ℕ) (named : index.Entry) → IsMore f g → Tells b f w → Tells b g v
    → ((l : ℕ) → upto l ≤ f.head l) → Joins w.version w.hop upto named → Joins v.version v.hop upto named
joins_stay b f g w v upto named more old new limit j =
    let version : (l q : ℕ) → q ≤ upto l → v.version l q ≡ w.version l q =
    λ l q less. new.version l q ∙ ap (λ (e : Entry). e.ver) (row_stays b f g l q more (let m = limit l in omega arith)) ∙ sym (old.version l q) in
    let hop : (l q : ℕ) → q ≤ upto l → v.hop l q ≡ w.hop l q =
    λ l q less. new.hop l q ∙ ap (λ (e : Entry). e.hop) (row_stays b f g l q more (let m = limit l in omega arith)) ∙ sym (old.hop l q) in
    record {
      newest = λ l q less. let a = j.newest l q less in let c = version l q less in omega arith;
      furthest = λ l q less same. let c = version l q less in let d = hop l q less in let a = j.furthest l q less (omega arith) in omega arith;
      earliest = λ l q less same also some. let c = version l q less in let d = hop l q less in j.earliest l q less (omega arith) (omega arith) (omega arith);
      within = j.within;
      its_version = λ some. version named.log named.seq (j.within some) ∙ j.its_version some;
      its_hop = λ some. hop named.log named.seq (j.within some) ∙ j.its_hop some;
    }

pub parts_stay : PartsStay
parts_stay b f g w v horizon rows more old new c = record {
  named = c.named;
  filed = λ l. let a = c.filed l in let h = more.head l in omega arith;
  names = names_stay b f g (join rows b) c.named more c.names;
  joins = joins_stay b f g w v (below horizon) c.named more old new c.filed c.joins;
}

between_stays : (f g : Filed) (l n first : ℕ) → IsMore f g → first + n ≤ suc (f.head l)
    → flat_map (rows_at g l) (range_with_len first n) ≡ flat_map (rows_at f l) (range_with_len first n)
between_stays f g l zero first more limit = refl
between_stays f g l (suc n) first more limit =
    ap (λ r. r ++ flat_map (rows_at g l) (range_with_len (first + 1) n)) (rows_stay f g l first more (omega arith))
    ∙ ap (λ r. rows_at f l first ++ r) (between_stays f g l n (first + 1) more (omega arith))

pub deltas_stay : DeltasStay
deltas_stay b f g l first upto rows more t = record {
  some = t.some;
  known = t.known;
  filed = let h = more.head l in let a = t.filed in omega arith;
  joined = t.joined ∙ sym (ap (λ r. join r b) (by_length (nat_le first upto) refl));
}
  where
    by_length : (u : Bool) → nat_le first upto ≡ u → rows_between g l first upto ≡ rows_between f l first upto
    by_length true within = let a = t.filed in let less : first ≤ upto =
        grind (arith, nat_tests) in between_stays f g l (suc upto - first) first more (omega arith)
    by_length false past =
        let above : upto < first = grind (arith, nat_tests) in
        let none : suc upto - first ≡ 0 = omega arith in
        ap (λ n. flat_map (rows_at g l) (range_with_len first n)) none ∙ sym (ap (λ n. flat_map (rows_at f l) (range_with_len first n)) none)

-- ---- one more segment

pub more_is_filed : MoreIsFiled
more_is_filed f l s = record {
  head = put_each (λ m n. f.head m ≤ n) f.head l (suc (f.head l)) (omega arith) (λ m other. omega arith);
  segment = λ m q some limit. by m q limit (m == l) (q == suc (f.head l)) (λ a c. grind (arith, nat_tests));
}
  where
    by : (m q : ℕ) → q ≤ f.head m → (t u : Bool) → (t ≡ true → u ≡ true → ⊥) → cond t (cond u s (f.segment m q)) (f.segment m q) ≡ f.segment m q
    by m q limit true true apart = absurd (apart refl refl)
    by m q limit true false apart = refl
    by m q limit false u apart = refl

-- what a seq says once the segment is filed
rows_more : (f : Filed) (l m q : ℕ) (s : Segment)
    → rows_at (with_segment f l s) m q ≡ cond (m == l) (cond (q == suc (f.head l)) (rows_of s) (rows_at f m q)) (rows_at f m q)
rows_more f l m q s = by (m == l) (q == suc (f.head l)) (λ e. grind (arith, nat_tests)) (λ e. grind (arith, nat_tests)) (λ e. grind (arith, nat_tests))
  where
    by : (t u : Bool) → (u ≡ true → (nat_lt 0 q && nat_le q (suc (f.head l))) ≡ true)
        → (u ≡ false → (nat_lt 0 q && nat_le q (suc (f.head l))) ≡ (nat_lt 0 q && nat_le q (f.head l))) → (t ≡ true → f.head l ≡ f.head m)
        → cond (nat_lt 0 q && nat_le q (cond t (suc (f.head l)) (f.head m))) (rows_of (cond t (cond u s (f.segment m q)) (f.segment m q))) [] ≡ cond t
        (cond u (rows_of s) (rows_at f m q)) (rows_at f m q)
    by true true here there same = first_of (nat_lt 0 q && nat_le q (suc (f.head l))) (rows_of s) [] (here refl)
    by true false here there same =
        ap (λ t. cond t (rows_of (f.segment m q)) []) (there refl) ∙ ap (λ h. cond (nat_lt 0 q && nat_le q h) (rows_of (f.segment m q)) []) (same refl)
    by false u here there same = refl

module _ (b : BlockId) (f : Filed) (w : IndexState) (l : ℕ) (s : Segment) where
  row_more : (P : Entry → ℕ) (m q : ℕ)
      → cond (m == l) (cond (q == suc (f.head l)) (P (said_of s b)) (P (row_at f b m q))) (P (row_at f b m q)) ≡ P (row_at (with_segment f l s) b m q)
  row_more P m q = by (m == l) (q == suc (f.head l)) ∙ sym (ap (λ r. P (join r b)) (rows_more f l m q s))
    where
      by : (t u : Bool)
          → cond t (cond u (P (said_of s b)) (P (row_at f b m q))) (P (row_at f b m q)) ≡ P
          (join (cond t (cond u (rows_of s) (rows_at f m q)) (rows_at f m q)) b)
      by true true = refl
      by true false = refl
      by false u = refl

  -- a table that has this at the new seq
  table_more : (P : Entry → ℕ) (table : ℕ → ℕ → ℕ) (n : ℕ) → w.head l ≡ f.head l → ((m q : ℕ) → table m q ≡ P (row_at f b m q)) → n ≡ P (said_of s b)
      → (m q : ℕ) → put_at table l (suc (w.head l)) n m q ≡ P (row_at (with_segment f l s) b m q)
  table_more P table n head same fact m q =
      ap (λ h. cond (m == l) (cond (q == suc h) n (table m q)) (table m q)) head
      ∙ ap (λ k. cond (m == l) (cond (q == suc (f.head l)) k (table m q)) (table m q)) fact
      ∙ ap (λ k. cond (m == l) (cond (q == suc (f.head l)) (P (said_of s b)) k) k) (same m q) ∙ row_more P m q

  -- the index once the log filed what the segment says
  abbrev filing : ℕ → ℕ → index.Entry → (ℕ → ℕ) → (ℕ → ℕ) → IndexState
  filing version hop highest version_log version_seq = record w {
    version = put_at w.version l (suc (w.head l)) version;
    hop = put_at w.hop l (suc (w.head l)) hop;
    head = put w.head l (suc (w.head l));
    joined = highest;
    version_log = version_log;
    version_seq = version_seq;
  }

  tells_more : (version hop : ℕ) (highest : index.Entry) (version_log version_seq : ℕ → ℕ) → Tells b f w → version ≡ (said_of s b).ver → hop ≡ (said_of s b).hop
      → Tells b (with_segment f l s) (filing version hop highest version_log version_seq)
  tells_more version hop highest version_log version_seq tells is_version is_hop = record {
    cleaner = tells.cleaner;
    head = λ m. ap (λ h. cond (m == l) (suc h) (w.head m)) (tells.head l) ∙ ap (λ h. cond (m == l) (suc (f.head l)) h) (tells.head m);
    version = table_more (λ e. e.ver) w.version version (tells.head l) tells.version is_version;
    hop = table_more (λ e. e.hop) w.hop hop (tells.head l) tells.hop is_hop;
  }

-- each segment is what it has to be
pub filed_more : (f : Filed) (l : ℕ) (s : Segment) → IsFiled f → 0 < l → l ≤ block_logs → IsSegment l (suc (f.head l)) s → IsFiled (with_segment f l s)
filed_more f l s filed some limit fact = record {
  others = put_each (λ m n. (m ≡ 0) ⊎ (block_logs < m) → n ≡ 0) f.head l (suc (f.head l)) (λ out. absurd (outside out)) (λ m other out. filed.others m out);
  each = λ m q more within. by m q more (m == l) (q == suc (f.head l)) within (λ e. grind (arith, nat_tests, e)) (λ e. grind (arith, nat_tests, e))
      (λ e. grind (arith, nat_tests, e));
}
  where
    outside : (l ≡ 0) ⊎ (block_logs < l) → ⊥
    outside (inl none) = omega arith
    outside (inr past) = omega arith

    by : (m q : ℕ) → 0 < q → (t u : Bool) → q ≤ cond t (suc (f.head l)) (f.head m) → (t ≡ true → m ≡ l) → (u ≡ true → q ≡ suc (f.head l))
        → (u ≡ false → q ≡ suc (f.head l) → ⊥) → IsSegment m q (cond t (cond u s (f.segment m q)) (f.segment m q))
    by m q more true true within same last past = subst (λ k. IsSegment k q s) (sym (same refl)) (subst (λ k. IsSegment l k s) (sym (last refl)) fact)
    by m q more true false within same last past =
        let apart = past refl in
        let at : f.head m ≡ f.head l = ap f.head (same refl) in
        filed.each m q more (below_last q (f.head l) (f.head m) at within apart)
      where
        below_last : (q n k : ℕ) → k ≡ n → q ≤ suc n → (q ≡ suc n → ⊥) → q ≤ k
        below_last q n k at within apart = grind (arith)
    by m q more false u within same last past = filed.each m q more within

-- ---- who files

pub clients_file : ClientsFile
clients_file b f w l s reached filed tells some fact news = by (said_of s b).ver refl
  where
    by : (v : ℕ) → (said_of s b).ver ≡ v → Files b (with_segment f l s) w
    by zero none =
        let nothing : said_of s b ≡ no_entry = join_has Versioned b (rows_of s) (λ _. refl) (versioned_of (rows_of s) fact.versions) none in
        record {
          state = files_none w l;
          steps = More Ended (Files_none l (record { named = some }));
          frame = refl;
          filed = let c = news.client in filed_more f l s filed some (omega arith) fact;
          tells = tells_more b f w l s 0 0 w.joined w.version_log w.version_seq tells (sym none) (sym (ap (λ (e : Entry). e.hop) nothing));
        }
    by (suc v) has =
        let version = (said_of s b).ver in
        let more : 0 < version = omega arith in
        let c = news.client in
        let cleaner = tells.cleaner in
        let u = files w l version in
        record {
          state = u;
          steps = More Ended (File l version (record { named = some; client = omega arith; new = news.new more }));
          frame = refl;
          filed = filed_more f l s filed some (omega arith) fact;
          tells = tells_more b f w l s version 0 u.joined u.version_log u.version_seq tells refl (sym (news.first_hand more));
        }

cleaner_files_at : (b : BlockId) (f : Filed) (w : IndexState) (s : Segment) → IsFiled f → Tells b f w → 0 < w.cleaner → w.cleaner ≤ block_logs
    → IsSegment w.cleaner (suc (f.head w.cleaner)) s → (0 < (said_of s b).ver → IsCopy b f (said_of s b))
    → Files b (with_segment f w.cleaner s) w
cleaner_files_at b f w s filed tells some limit fact copy = by (said_of s b).ver refl
  where
    by : (v : ℕ) → (said_of s b).ver ≡ v → Files b (with_segment f w.cleaner s) w
    by zero none =
        let nothing : said_of s b ≡ no_entry = join_has Versioned b (rows_of s) (λ _. refl) (versioned_of (rows_of s) fact.versions) none in
        record {
          state = files_none w w.cleaner;
          steps = More Ended (Files_none w.cleaner (record { named = some }));
          frame = refl;
          filed = filed_more f w.cleaner s filed some limit fact;
          tells = tells_more b f w w.cleaner s 0 0 w.joined w.version_log w.version_seq tells (sym none) (sym (ap (λ (e : Entry). e.hop) nothing));
        }
    by (suc v) has =
        let c = copy (omega arith) in
        let l = c.log in
        let q = c.seq in
        let version = c.version in
        let its = tells.version l q in
        let within = is_filed b f l q (omega arith) in
        let at_head = tells.head l in
        let filed_there = within.1 in
        let u = copies w l q in
        record {
          state = u;
          steps = More Ended (Copies l q (record { filed = omega arith; some = omega arith }));
          frame = refl;
          filed = filed_more f w.cleaner s filed some limit fact;
          tells = tells_more b f w w.cleaner s (w.version l q) (suc (w.hop l q)) u.joined w.version_log w.version_seq tells (its ∙ sym version)
              (ap suc (tells.hop l q) ∙ sym c.hop);
        }

pub cleaner_files : CleanerFiles
cleaner_files b f w s reached filed tells fact copy =
    subst (λ l. IsSegment l (suc (f.head l)) s → Files b (with_segment f l s) w) tells.cleaner
    (λ at. let c = tells.cleaner in cleaner_files_at b f w s filed tells (omega arith) (omega arith) at copy) fact
