-- The table of the one machine has of each block the newest version that the acts made, and its value; so the next call on a block is answered as the machine answers.
use Rattle.std.proofs.Common.{◌≡◌, ℕ, suc, Bool, true, false, cond, ◌&&◌, ◌==◌, List, [], ◌∷◌, ◌++◌, length, length-append, slice_get, Option, Some, None, refl, sym, ap, subst, ◌∙◌, arith}
use Rattle.std.proofs.lemmas.Bool.Decides.{nat_tests}
use Rattle.file_plan.specs.Driving.{World, nothing_written, put_at, write}
use Rattle.file_plan.specs.Names.{same_ino}
use Rattle.headline.specs.ItemActs.{IsToldOf}
use Rattle.headline.specs.Versions.{IsNewest}
use Rattle.one_machine.specs.Machine.{call_on}
use Rattle.version_model.specs.declared.act.Act.{Act}
use Rattle.version_model.specs.declared.act.Act.TheVariants as act
use Rattle.version_model.specs.declared.answer.Answer.{Answer}
use Rattle.version_model.specs.declared.answer.Answer.TheVariants as answer
use Rattle.version_model.specs.declared.history.BlockHistory.{BlockHistory}
use Rattle.version_model.specs.declared.history.Version.{Version}
use Rattle.version_model.specs.declared.work.Work.{Work}
use Rattle.version_model.specs.declared.work.Work.TheVariants as work
use Rattle.version_model.specs.Effects.{after_act, append, pin}
use Rattle.version_model.specs.History.{Content, History, content_at, is_by_other, nothing_yet}
use Rattle.version_model.specs.Legal.{IsLegalIn}
use Rattle.xfs_base.proofs.BlockOrder.{same_block_exact, same_block_itself}
use Rattle.xfs_base.specs.Blocks.{same_block}
use Rattle.xfs_base.specs.declared.block.BlockId.{BlockId}
use Rattle.xfs_base.specs.declared.block.Ino.{Ino}

-- the table shows the newest version of each block, with its value
abbrev pub Shows : History → World → Type 0
Shows h w = (b : BlockId) → IsNewest (h.of_block b) (w.ver b.ino b.blk) (w.value b.ino b.blk)

pub shows_nothing : Shows nothing_yet nothing_written
shows_nothing b = record { newest = refl; content = refl }

-- ---- reads and syncs

pins : (b : BlockHistory) (n ver : ℕ) (value : Content) → IsNewest b ver value → IsNewest (pin n b) ver value
pins b n ver value is = record { newest = is.newest; content = is.content }

pub read_shows : (client : ℕ) (block : BlockId) (ver : ℕ) (value : Content) (h : History) (w : World) → Shows h w → Shows (after_act (act.Read client block ver value) h) w
read_shows client block ver value h w shows b =
    elim (is_by_other client ver (h.of_block block).versions) as
    (λ t. IsNewest ((cond t (record h { of_block = λ x. cond (same_block block x) (pin ver (h.of_block x)) (h.of_block x) }) h).of_block b)
    (w.ver b.ino b.blk) (w.value b.ino b.blk)) [
      | true ↦ elim (same_block block b) as (λ t. IsNewest (cond t (pin ver (h.of_block b)) (h.of_block b)) (w.ver b.ino b.blk) (w.value b.ino b.blk)) [
        | true ↦ pins (h.of_block b) ver (w.ver b.ino b.blk) (w.value b.ino b.blk) (shows b)
        | false ↦ shows b
      ]
      | false ↦ shows b
    ]

pub sync_shows : (client : ℕ) (h : History) (w : World) → Shows h w → Shows (after_act (act.Synced client) h) w
sync_shows client h w shows b = record { newest = (shows b).newest; content = (shows b).content }

-- ---- writes

-- one version more is the newest
last_there : (versions : List Version) (v : Version) → slice_get (versions ++ v ∷ []) (length versions) ≡ Some v
last_there [] v = refl
last_there (x ∷ versions) v = last_there versions v

appends : (b : BlockHistory) (v : Version) (ver : ℕ) → ver ≡ length b.versions → IsNewest (append v b) (suc ver) v.content
appends b v ver is = record {
  newest = (let long = length-append b.versions (v ∷ []) in omega arith);
  content =
      ap (λ (o : Option Version). elim o as (λ _. Option Content) [ None ↦ None | Some x ↦ Some x.content ])
      (ap (slice_get (b.versions ++ v ∷ [])) is ∙ last_there b.versions v);
}

-- the two ways to ask whether blocks are the same
same_swap : (a b : BlockId) → (same_ino b.ino a.ino && (b.blk == a.blk)) ≡ same_block a b
same_swap a b = ap (λ t. t && (b.blk == a.blk)) (swap b.ino.0 a.ino.0) ∙ ap (λ t. (a.ino.0 == b.ino.0) && t) (swap b.blk a.blk)
  where
    swap : (x y : ℕ) → (x == y) ≡ (y == x)
    swap x y = grind (arith, nat_tests)

pub at_itself : {X : Type 0} (f : Ino → ℕ → X) (b : BlockId) (x : X) → put_at f b.ino b.blk x b.ino b.blk ≡ x
at_itself f b x = ap (λ t. cond t x (f b.ino b.blk)) (same_swap b b ∙ same_block_itself b)

pub write_shows : (client : ℕ) (block : BlockId) (value : Content) (h : History) (w : World) → Shows h w
    → Shows (after_act (act.Wrote client block value) h) (write w block.ino block.blk value)
write_shows client block value h w shows b =
    subst
    (λ t. IsNewest ((after_act (act.Wrote client block value) h).of_block b) (cond t (suc (w.ver block.ino block.blk)) (w.ver b.ino b.blk))
    (cond t value (w.value b.ino b.blk)))
    (sym (same_swap block b)) (by (same_block block b) refl)
  where
    v : Version
    v = record { content = value; writer = client }

    by : (t : Bool) → same_block block b ≡ t
        → IsNewest (cond t (append v (h.of_block b)) (h.of_block b)) (cond t (suc (w.ver block.ino block.blk)) (w.ver b.ino b.blk))
        (cond t value (w.value b.ino b.blk))
    by true same =
        subst (λ (x : BlockId). IsNewest (append v (h.of_block x)) (suc (w.ver block.ino block.blk)) value) (sym (same_block_exact block b same))
        (appends (h.of_block block) v (w.ver block.ino block.blk) (shows block).newest)
    by false differs = shows b

-- ---- what is told is what the machine answers

-- where this is acted of what is asked for, behind this history, and answered so, the one machine answers it from its table, which shows the history then
pub record IsServed (w : World) (item : ℕ) (wanted : Work) (a : Act) (x : Answer) (h : History) : Type 0 where
  pub replies : (call_on w item wanted).reply ≡ Some x
  pub shows : Shows (after_act a h) (call_on w item wanted).world

-- what is asked to be written is, behind the act, the newest version, and this is its number
abbrev pub WritesNewest : Work → Answer → History → Type 0
WritesNewest (work.Bput client block value) (answer.Version ver) h = IsNewest (h.of_block block) ver value
WritesNewest _ _ h = Unit {0}

module _ (w : World) (item : ℕ) (h : History) (shows : Shows h w) where
  same_content : (a b : Content) → Some a ≡ Some b → a ≡ b
  same_content a b fact = cc

  gets : (c : ℕ) (block : BlockId) (a : Act) (x : Answer) → IsToldOf (Some (work.Bget c block)) a x → IsLegalIn a h
      → IsServed w item (work.Bget c block) a x h
  gets c block (act.Read d b ver value) (answer.Got v y) told legal =
      let here : IsNewest (h.of_block block) (w.ver block.ino block.blk) (w.value block.ino block.blk) = shows block in
      let its : IsNewest (h.of_block block) ver value =
      subst (λ (z : BlockId). IsNewest (h.of_block z) ver value) told.0 (record { newest = legal.0; content = legal.1 }) in
      let one : w.ver block.ino block.blk ≡ ver = here.newest ∙ sym its.newest in
      let two : w.value block.ino block.blk ≡ value =
      same_content _ _ (sym here.content ∙ (ap (λ n. content_at n (h.of_block block).versions) one ∙ its.content)) in
      record {
        replies =
            ap (λ n. Some (answer.Got n (w.value block.ino block.blk))) (one ∙ sym told.1.0)
            ∙ ap (λ z. Some (answer.Got v z)) (two ∙ sym told.1.1);
        shows = read_shows d b ver value h w shows;
      }
  gets c block (act.Read d b ver value) _ told legal = absurd told
  gets c block _ x told legal = absurd told

  puts : (c : ℕ) (block : BlockId) (value : Content) (a : Act) (x : Answer) → IsToldOf (Some (work.Bput c block value)) a x
      → WritesNewest (work.Bput c block value) x (after_act a h) → IsServed w item (work.Bput c block value) a x h
  puts c block value (act.Wrote d b y) (answer.Version ver) told newest =
      let table : World = write w block.ino block.blk value in
      let then_ : Shows (after_act (act.Wrote d b y) h) table =
      subst (λ (z : BlockId). Shows (after_act (act.Wrote d z y) h) table) (sym told.0)
      (subst (λ z. Shows (after_act (act.Wrote d block z) h) table) (sym told.1) (write_shows d block value h w shows)) in
      record {
        replies = ap (λ n. Some (answer.Version n)) (sym (at_itself w.ver block (suc (w.ver block.ino block.blk))) ∙ ((then_ block).newest ∙ sym newest.newest));
        shows = then_;
      }
  puts c block value (act.Wrote d b y) _ told newest = absurd told
  puts c block value _ x told newest = absurd told

  syncs : (c : ℕ) (a : Act) (x : Answer) → IsToldOf (Some (work.Sync c)) a x → IsServed w item (work.Sync c) a x h
  syncs c (act.Synced d) answer.Done told = record { replies = refl; shows = sync_shows d h w shows }
  syncs c (act.Synced d) _ told = absurd told
  syncs c _ x told = absurd told

  pub told_is_served : (wanted : Work) (a : Act) (x : Answer) → IsToldOf (Some wanted) a x → IsLegalIn a h → WritesNewest wanted x (after_act a h)
      → IsServed w item wanted a x h
  told_is_served (work.Bput c block value) a x told legal newest = puts c block value a x told newest
  told_is_served (work.Bget c block) a x told legal newest = gets c block a x told legal
  told_is_served (work.Sync c) a x told legal newest = syncs c a x told
  told_is_served _ a x told legal newest = absurd told
