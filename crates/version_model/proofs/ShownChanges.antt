-- What the tables of histories show once a row is put, once all rows are changed, and once a client's falls are told or cleared.
use Rattle.std.proofs.Common.{◌≡◌, ℕ, Bool, true, false, cond, List, [], ◌∷◌, ◌++◌, refl, sym, ap, subst, ◌∙◌, arith, map, length, get_or, drop, ◌+◌, ◌<◌}
use Rattle.std.proofs.lemmas.List.{at_drop_more}
use Rattle.std.specs.Prelude.{if◌then◌else◌, ◌==◌}
use Rattle.std.specs.Ordering.{nat_cmp, eq_by_cmp, is_eq}
use Rattle.std.specs.Map.{remove_entry}
use Rattle.std.specs.BTreeMap.{is_at, insert_entry}
use Rattle.std.proofs.lemmas.Cmp.{nat_cmp_total, tied_itself}
use Rattle.std.proofs.lemmas.Map.Views.{tells_apart}
use Rattle.std.proofs.lemmas.Bool.Decides.{nat_tests}
use Rattle.xfs_base.proofs.Booleans.{contrary}
use Rattle.std.proofs.lemmas.Map.Lookups.{exact_unsigned}
use Rattle.xfs_base.proofs.BlockOrder.{block_cmp_total, block_cmp_exact, same_block_exact, same_block_itself}
use Rattle.xfs_base.proofs.Tables.{at-put, at-changed}
use Rattle.xfs_base.specs.declared.block.BlockId.{BlockId}
use Rattle.xfs_base.specs.Blocks.{block_cmp, same_block}
use Rattle.version_model.specs.History.{BlockHistory, FallTold, unwritten}
use Rattle.std.specs.Prelude.{OnOk}
use Rattle.std.specs.declared.result.Result.{Result}
use Rattle.std.specs.declared.result.Result.TheVariants.{Ok, Err}
use Rattle.version_model.specs.declared.histories.Histories.{Histories}
use Rattle.version_model.specs.Shown.{block_in, falls_in, put_block, put_told, settled_in, shown, told_in}
use Rattle.version_model.specs.Effects.{change, tell, clear, cut_to, holds_flight, pin_all, settle, settle_falls}
use Rattle.version_model.specs.declared.act.Fall.{Fall}
use Rattle.xfs_base.specs.declared.segment.SegName.{SegName}

-- the two tests of blocks agree
tests_agree : (b q : BlockId) (t : Bool) → eq_by_cmp block_cmp q b ≡ t → same_block b q ≡ t
tests_agree b q true h = subst (λ x. same_block b x ≡ true) (sym (tells_apart block_cmp_exact q b h)) (same_block_itself b)
tests_agree b q false h = outcome (same_block b q) refl
  where
    outcome : (t : Bool) → same_block b q ≡ t → t ≡ false
    outcome true e = contrary (sym h ∙ ap (λ x. eq_by_cmp block_cmp x b) (same_block_exact b q e) ∙ ap is_eq (tied_itself block_cmp_total b))
    outcome false e = refl

chosen : (f : BlockHistory → BlockHistory) (b q : BlockId) (blocks : List (BlockId × BlockHistory)) (t : Bool) → eq_by_cmp block_cmp q b ≡ t
    → cond t (f (block_in blocks b)) (block_in blocks q) ≡ (if t then f (block_in blocks q) else block_in blocks q)
chosen f b q blocks true h = ap (λ x. f (block_in blocks x)) (sym (tells_apart block_cmp_exact q b h))
chosen f b q blocks false h = refl

-- a row put anew is a change of that block's history and of no other
pub put_is_change : (f : BlockHistory → BlockHistory) (b : BlockId) (blocks : List (BlockId × BlockHistory)) (q : BlockId)
    → block_in (put_block blocks b (f (block_in blocks b))) q ≡ (if same_block b q then f (block_in blocks q) else block_in blocks q)
put_is_change f b blocks q =
    at-put block_cmp_total block_cmp_exact unwritten q b (f (block_in blocks b)) blocks ∙ chosen f b q blocks (eq_by_cmp block_cmp q b) refl
    ∙ ap (λ t. if t then f (block_in blocks q) else block_in blocks q) (sym (tests_agree b q (eq_by_cmp block_cmp q b) refl))

numbers_agree : (q c : ℕ) (t : Bool) → eq_by_cmp nat_cmp q c ≡ t → t ≡ (q == c)
numbers_agree q c true h = let e : q ≡ c = tells_apart exact_unsigned q c h in grind (arith, nat_tests)
numbers_agree q c false h = outcome (q == c) refl
  where
    outcome : (t : Bool) → (q == c) ≡ t → false ≡ t
    outcome true e = let same : q ≡ c =
        grind (arith, nat_tests) in contrary (sym h ∙ ap (λ x. eq_by_cmp nat_cmp x c) same ∙ ap is_eq (tied_itself nat_cmp_total c))
    outcome false e = refl

-- what each client's falls are once those of one are put anew
pub told_put : (c : ℕ) (falls : List FallTold) (told : List (ℕ × List FallTold)) (q : ℕ)
    → told_in (insert_entry nat_cmp (remove_entry (is_at (nat_cmp c)) told) c falls) q ≡ (if q == c then falls else told_in told q)
told_put c falls told q =
    at-put nat_cmp_total exact_unsigned [] q c falls told ∙ ap (λ t. cond t falls (told_in told q)) (numbers_agree q c (eq_by_cmp nat_cmp q c) refl)

-- the greatest version of a client is pinned in each block
pub all_pinned : (client : ℕ) (blocks : List (BlockId × BlockHistory)) (q : BlockId)
    → block_in (map (λ e. (e.0, pin_all client e.1)) blocks) q ≡ pin_all client (block_in blocks q)
all_pinned client blocks q = at-changed block_cmp_total block_cmp_exact unwritten (λ b. pin_all client) q blocks refl

-- what holds where a call succeeds
pub where_ok : {X E : Type 0} {P Q : Type 0} (r : Result X E) → (P → Q) → OnOk r P → OnOk r Q
where_ok (Ok x) f p = f p
where_ok (Err e) f p = p

-- the tables with a block's row put anew show that block's history changed
pub shown_put : (f : BlockHistory → BlockHistory) (b : BlockId) (old new : Histories) → new.told ≡ old.told
    → new.blocks.entries ≡ put_block old.blocks.entries b (f (block_in old.blocks.entries b)) → shown new ≡ change b f (shown old)
shown_put f b old new told blocks =
    ap (λ t. record { of_block = block_in new.blocks.entries; told = t }) (ap (λ t. told_in t.entries) told)
    ∙ ap (λ es. record { of_block = block_in es; told = told_in old.told.entries }) blocks
    ∙ (λ i. record { of_block = λ q. put_is_change f b old.blocks.entries q i; told = told_in old.told.entries })

-- with each row's greatest version of a client pinned, each block's
pub shown_pinned : (client : ℕ) (old new : Histories) → new.told ≡ old.told → new.blocks.entries ≡ map (λ e. (e.0, pin_all client e.1)) old.blocks.entries
    → shown new ≡ record { of_block = λ q. pin_all client (block_in old.blocks.entries q); told = told_in old.told.entries }
shown_pinned client old new told blocks =
    ap (λ t. record { of_block = block_in new.blocks.entries; told = t }) (ap (λ t. told_in t.entries) told)
    ∙ ap (λ es. record { of_block = block_in es; told = told_in old.told.entries }) blocks
    ∙ (λ i. record { of_block = λ q. all_pinned client old.blocks.entries q i; told = told_in old.told.entries })

-- the tables with one fall more of a client
pub shown_told : (c : ℕ) (fall : FallTold) (old new : Histories) → new.blocks ≡ old.blocks
    → new.told.entries ≡ put_told old.told.entries c (told_in old.told.entries c ++ fall ∷ []) → shown new ≡ tell c fall (shown old)
shown_told c fall old new blocks told =
    ap (λ b. record { of_block = b; told = told_in new.told.entries }) (ap (λ t. block_in t.entries) blocks)
    ∙ ap (λ es. record { of_block = block_in old.blocks.entries; told = told_in es }) told
    ∙ (λ i. record {
      of_block = block_in old.blocks.entries;
      told = λ q. (told_put c (told_in old.told.entries c ++ fall ∷ []) old.told.entries q ∙ one_more (q == c) q refl) i;
    })
  where
    one_more : (t : Bool) (q : ℕ) → (q == c) ≡ t
        → (if t then told_in old.told.entries c ++ fall ∷ [] else told_in old.told.entries q) ≡
        (if t then told_in old.told.entries q ++ fall ∷ [] else told_in old.told.entries q)
    one_more true q h = let e : c ≡ q = grind (arith, nat_tests) in ap (λ x. told_in old.told.entries x ++ fall ∷ []) e
    one_more false q h = refl

-- blocks fall in the tables as in the histories
pub shown_falls : (adopted : Bool) (falls : List Fall) (blocks : List (BlockId × BlockHistory)) (told : ℕ → List FallTold)
    → record { of_block = block_in (falls_in adopted falls blocks); told = told } ≡ settle_falls adopted falls
    (record { of_block = block_in blocks; told = told })
shown_falls adopted [] blocks told = refl
shown_falls adopted (f ∷ fs) blocks told =
    shown_falls adopted fs (put_block blocks f.block (cut_to (if adopted then f.high else f.low) (block_in blocks f.block))) told
    ∙ ap (settle_falls adopted fs) (λ i. record { of_block = λ q. put_is_change (cut_to (if adopted then f.high else f.low)) f.block blocks q i; told = told })

pub shown_settled : (chain : List SegName) (falls : List FallTold) (blocks : List (BlockId × BlockHistory)) (told : ℕ → List FallTold)
    → record { of_block = block_in (settled_in chain falls blocks); told = told } ≡ settle chain falls (record { of_block = block_in blocks; told = told })
shown_settled chain [] blocks told = refl
shown_settled chain (t ∷ ts) blocks told =
    shown_settled chain ts (falls_in (holds_flight chain t.flight) t.falls blocks) told
    ∙ ap (settle chain ts) (shown_falls (holds_flight chain t.flight) t.falls blocks told)

-- with a client's falls settled by a chain and taken out
pub shown_back : (c : ℕ) (chain : List SegName) (falls : List FallTold) (old new : Histories) → falls ≡ told_in old.told.entries c
    → ((q : ℕ) → told_in new.told.entries q ≡ (if q == c then [] else told_in old.told.entries q))
    → new.blocks.entries ≡ settled_in chain falls old.blocks.entries → shown new ≡ clear c (settle chain ((shown old).told c) (shown old))
shown_back c chain falls old new found told blocks =
    (λ i. record { of_block = block_in (blocks i); told = λ q. told q i })
    ∙ ap (clear c) (shown_settled chain falls old.blocks.entries (told_in old.told.entries) ∙ ap (λ fs. settle chain fs (shown old)) found)

-- one block falls, and then those that are left
pub falls_more : (adopted : Bool) (falls : List Fall) (i : ℕ) (d : Fall) (blocks now : List (BlockId × BlockHistory)) (ver : ℕ) → i < length falls
    → ver ≡ (if adopted then (get_or falls i d).high else (get_or falls i d).low)
    → now ≡ put_block blocks (get_or falls i d).block (cut_to ver (block_in blocks (get_or falls i d).block))
    → falls_in adopted (drop (i + 1) falls) now ≡ falls_in adopted (drop i falls) blocks
falls_more adopted falls i d blocks now ver here to step =
    ap (falls_in adopted (drop (i + 1) falls))
    (step ∙ ap (λ n. put_block blocks (get_or falls i d).block (cut_to n (block_in blocks (get_or falls i d).block))) to)
    ∙ sym (at_drop_more (λ fs. falls_in adopted fs blocks) falls i d here)
