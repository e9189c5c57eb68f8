-- What is known of joins and of rows: that a join is one of what it joins or no entry, that a filed row lies in its segment, and what names what.
use Rattle.std.proofs.Common.{◌≡◌, ℕ, zero, suc, ◌+◌, ◌-◌, ◌<◌, ◌≤◌, ◌&&◌, Bool, true, false, cond, nat_lt, nat_le, List, [], ◌∷◌, refl, sym, ap, subst, ◌∙◌, arith}
use Rattle.std.specs.List.{AllByRecursion, flat_map, range_with_len}
use Rattle.std.proofs.lemmas.Bool.Decides.{nat_tests}
use Rattle.xfs_base.specs.declared.block.BlockId.{BlockId}
use Rattle.xfs_base.specs.declared.entry.Entry.{Entry}
use Rattle.xfs_base.specs.Blocks.{same_block}
use Rattle.segment_format.specs.Rows.{rows_of}
use Rattle.delta_index.specs.Entries.{no_entry, is_newer, first_greatest}
use Rattle.delta_index.specs.Join.{join}
use Rattle.delta_index.proofs.JoinAlgebra.{join-append, join-cons, join-one}
use Rattle.log_protocol.specs.IndexState.{IndexState}
use Rattle.log_protocol.specs.IndexState as index
use Rattle.log_protocol.specs.IndexMerge as merge
use Rattle.index_tie.specs.Filed.{IsFiled, Tells, Names}
use Rattle.headline.specs.Filed.{Filed, row_at, rows_at, rows_between}

-- one of two
pub one_of : (P : Entry → Type 0) (a b : Entry) → P a → P b → P (first_greatest a b)
one_of P a b p q = elim (is_newer b a) as (λ t. P (cond t b a)) [ true ↦ q | false ↦ p ]

-- what holds of no entry and of each row holds of the join
pub join_has : (P : Entry → Type 0) (b : BlockId) (rows : List (BlockId × Entry)) → P no_entry → AllByRecursion (λ row. P row.1) rows → P (join rows b)
join_has P b [] none all = none
join_has P b (m ∷ ms) none all =
    subst P (sym (join-cons m ms b ∙ ap (λ e. first_greatest e (join ms b)) (join-one m b)))
    (one_of P (cond (same_block b m.0) (first_greatest no_entry m.1) no_entry) (join ms b)
    (elim (same_block b m.0) as (λ t. P (cond t (first_greatest no_entry m.1) no_entry)) [ true ↦ one_of P no_entry m.1 none all.0 | false ↦ none ])
    (join_has P b ms none all.1))

-- an entry of version 0 is no entry
abbrev pub Versioned : Entry → Type 0
Versioned e = e.ver ≡ 0 → e ≡ no_entry

pub versioned_of : (rows : List (BlockId × Entry)) → AllByRecursion (λ row. 0 < row.1.ver) rows → AllByRecursion (λ row. Versioned row.1) rows
versioned_of [] all = tt
versioned_of (m ∷ ms) all = ((λ zero. absurd (let some = all.0 in omega arith)), versioned_of ms all.1)

-- what holds where a seq is filed, and elsewhere
pub by_filed : (P : List (BlockId × Entry) → Type 0) (f : Filed) (l q : ℕ) → (0 < q → q ≤ f.head l → P (rows_of (f.segment l q))) → P [] → P (rows_at f l q)
by_filed P f l q here else_ =
    elim (nat_lt 0 q && nat_le q (f.head l)) as (λ t. (nat_lt 0 q && nat_le q (f.head l)) ≡ t → P (cond t (rows_of (f.segment l q)) [])) [
      | true ↦ λ fact. here (grind (arith, nat_tests)) (grind (arith, nat_tests))
      | false ↦ λ _. else_
    ] refl

pub row_versioned : (b : BlockId) (f : Filed) (l q : ℕ) → IsFiled f → Versioned (row_at f b l q)
row_versioned b f l q filed =
    by_filed (λ rows. Versioned (join rows b)) f l q
    (λ some limit. join_has Versioned b (rows_of (f.segment l q)) (λ _. refl) (versioned_of (rows_of (f.segment l q)) ((filed.each l q some limit).versions)))
    (λ _. refl)

-- ---- what names what

-- of two entries and what names them, the abstract merge names the first greatest
pub merged_is : (o n : index.Entry) (d e : Entry) → o.version ≡ d.ver → o.hop ≡ d.hop → n.version ≡ e.ver → n.hop ≡ e.hop
    → merge.merged o n ≡ cond (is_newer e d) n o
merged_is o n d e ov oh nv nh = grind (arith, nat_tests)

pub names_merged : (b : BlockId) (f : Filed) (o n : index.Entry) (d e : Entry) → Names b f d o → Names b f e n
    → Names b f (first_greatest d e) (merge.merged o n)
names_merged b f o n d e x y =
    subst (Names b f (first_greatest d e)) (sym (merged_is o n d e x.version x.hop y.version y.hop))
    (elim (is_newer e d) as (λ t. Names b f (cond t e d) (cond t n o)) [ true ↦ y | false ↦ x ])

-- a row, as an abstract entry
abbrev pub entry_at_row : BlockId → Filed → ℕ → ℕ → index.Entry
entry_at_row b f l q = record { version = (row_at f b l q).ver; hop = (row_at f b l q).hop; log = l; seq = q }

pub names_row : (b : BlockId) (f : Filed) (l q : ℕ) → IsFiled f → Names b f (row_at f b l q) (entry_at_row b f l q)
names_row b f l q filed = record { version = refl; hop = refl; row = λ _. refl; none = row_versioned b f l q filed }

abbrev pub nothing_of : ℕ → index.Entry
nothing_of l = record { version = 0; hop = 0; log = l; seq = 0 }

pub names_nothing : (b : BlockId) (f : Filed) (l : ℕ) → Names b f no_entry (nothing_of l)
names_nothing b f l = record { version = refl; hop = refl; row = λ some. absurd (omega arith); none = λ _. refl }

-- ---- the greatest of a range of rows

-- the first greatest of the rows of a range, and that it names their join
pub record Ranged (b : BlockId) (f : Filed) (w : IndexState) (l first upto : ℕ) (rows : List (BlockId × Entry)) : Type 0 where
  pub named : index.Entry
  pub greatest : merge.FirstGreatest w l first upto named
  pub names : Names b f (join rows b) named

-- one more row in front
before : (w : IndexState) (l first upto version hop : ℕ) (named : index.Entry) → first ≤ upto → w.version l first ≡ version → w.hop l first ≡ hop
    → merge.FirstGreatest w l (first + 1) upto named
    → merge.FirstGreatest w l first upto (merge.merged (record { version = version; hop = hop; log = l; seq = first }) named)
before w l first upto version hop named limit is_version is_hop g = record {
  newest = λ q from to. grind (arith, nat_tests);
  furthest = λ q from to same. grind (arith, nat_tests);
  earliest = λ q from to same also some. grind (arith, nat_tests);
  its_log = grind (arith, nat_tests);
  from = λ some. grind (arith, nat_tests);
  within = λ some. grind (arith, nat_tests);
  its_version = λ some. grind (arith, nat_tests);
  its_hop = λ some. grind (arith, nat_tests);
}

-- an empty range
pub range_none : (b : BlockId) (f : Filed) (w : IndexState) (l first upto : ℕ) → upto < first → Ranged b f w l first upto []
range_none b f w l first upto past = record {
  named = nothing_of l;
  greatest = record {
    newest = λ q from to. absurd (omega arith);
    furthest = λ q from to same. absurd (omega arith);
    earliest = λ q from to same also some. absurd (omega arith);
    its_log = refl;
    from = λ some. absurd (omega arith);
    within = λ some. absurd (omega arith);
    its_version = λ some. absurd (omega arith);
    its_hop = λ some. absurd (omega arith);
  };
  names = names_nothing b f l;
}

pub ranged : (b : BlockId) (f : Filed) (w : IndexState) (l upto n first : ℕ) → IsFiled f → Tells b f w → first + n ≡ suc upto
    → Ranged b f w l first upto (flat_map (rows_at f l) (range_with_len first n))
ranged b f w l upto zero first filed tells ends = range_none b f w l first upto (omega arith)
ranged b f w l upto (suc n) first filed tells ends =
    let r = ranged b f w l upto n (first + 1) filed tells (omega arith) in
    let rest = flat_map (rows_at f l) (range_with_len (first + 1) n) in
    record {
      named = merge.merged (entry_at_row b f l first) r.named;
      greatest = before w l first upto (row_at f b l first).ver (row_at f b l first).hop r.named (omega arith) (tells.version l first)
          (tells.hop l first) r.greatest;
      names = subst (λ e. Names b f e (merge.merged (entry_at_row b f l first) r.named)) (sym (join-append (rows_at f l first) rest b))
          (names_merged b f (entry_at_row b f l first) r.named (row_at f b l first) (join rest b) (names_row b f l first filed) r.names);
    }

-- of what a log filed from one seq up to another
pub ranged_between : (b : BlockId) (f : Filed) (w : IndexState) (l first upto : ℕ) → IsFiled f → Tells b f w
    → Ranged b f w l first upto (rows_between f l first upto)
ranged_between b f w l first upto filed tells = by_length (nat_le first upto) refl
  where
    by_length : (t : Bool) → nat_le first upto ≡ t → Ranged b f w l first upto (rows_between f l first upto)
    by_length true within = let less : first ≤ upto = grind (arith, nat_tests) in ranged b f w l upto (suc upto - first) first filed tells (omega arith)
    by_length false past =
        let more : upto < first = grind (arith, nat_tests) in
        let none : suc upto - first ≡ 0 = omega arith in
        subst (λ n. Ranged b f w l first upto (flat_map (rows_at f l) (range_with_len first n))) (sym none) (range_none b f w l first upto more)
