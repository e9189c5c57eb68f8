-- Falls that name no block twice: which fall is a block's, and what settling them makes of a history.
use Rattle.std.proofs.Common.{◌≡◌, Bool, true, false, cond, List, [], ◌∷◌, Option, Some, None, refl, sym, ap, subst, ◌∙◌}
use Rattle.std.specs.Prelude.{if◌then◌else◌}
use Rattle.std.specs.List.{AllByRecursion}
use Rattle.xfs_base.specs.declared.block.BlockId.{BlockId}
use Rattle.xfs_base.specs.Blocks.{same_block}
use Rattle.xfs_base.proofs.BlockOrder.{same_block_exact, same_block_itself}
use Rattle.xfs_base.proofs.Booleans.{contrary}
use Rattle.version_model.specs.declared.act.Fall.{Fall}
use Rattle.version_model.specs.declared.history.BlockHistory.{BlockHistory}
use Rattle.version_model.specs.History.{History}
use Rattle.version_model.specs.Effects.{change, cut_to, settle_falls}
use Rattle.version_model.specs.Legal.{NamesNoBlockTwice}
use Rattle.act_tie.specs.BlockActs.{fall_of}

-- two blocks that differ one way differ the other way
apart-turned : (a b : BlockId) (t : Bool) → same_block b a ≡ t → same_block a b ≡ false → t ≡ false
apart-turned a b false same apart = refl
apart-turned a b true same apart = contrary (sym apart ∙ subst (λ (x : BlockId). same_block x b ≡ true) (sym (same_block_exact b a same)) (same_block_itself b))

-- Each of them is the fall of its block.
pub all_found : (falls : List Fall) → NamesNoBlockTwice falls → AllByRecursion (λ f. fall_of f.block falls ≡ Some f) falls
all_found [] once = tt
all_found (f ∷ fs) once = (ap (λ t. cond t (Some f) (fall_of f.block fs)) (same_block_itself f.block), later fs once.0 (all_found fs once.1))
  where
    later : (gs : List Fall) → AllByRecursion (λ g. same_block f.block g.block ≡ false) gs → AllByRecursion (λ g. fall_of g.block fs ≡ Some g) gs
        → AllByRecursion (λ g. fall_of g.block (f ∷ fs) ≡ Some g) gs
    later [] apart found = tt
    later (g ∷ gs) apart found = (ap (λ t. cond t (Some f) (fall_of g.block fs)) apart.0 ∙ found.0, later gs apart.1 found.1)

-- A block that none of them names has no fall.
none_found : (b : BlockId) (falls : List Fall) → AllByRecursion (λ g. same_block b g.block ≡ false) falls → fall_of b falls ≡ None
none_found b [] apart = refl
none_found b (f ∷ fs) apart = ap (λ t. cond t (Some f) (fall_of b fs)) (apart-turned b f.block (same_block f.block b) refl apart.0) ∙ none_found b fs apart.1

-- What settling makes of a block's history: it is cut where a fall names the block.
abbrev pub cut_by : Bool → Option Fall → BlockHistory → BlockHistory
cut_by adopted None p = p
cut_by adopted (Some f) p = cut_to (if adopted then f.high else f.low) p

pub settled_told : (adopted : Bool) (falls : List Fall) (h : History) → (settle_falls adopted falls h).told ≡ h.told
settled_told adopted [] h = refl
settled_told adopted (f ∷ fs) h = settled_told adopted fs (change f.block (cut_to (if adopted then f.high else f.low)) h)

pub settled_block : (adopted : Bool) (falls : List Fall) (h : History) (b : BlockId) → NamesNoBlockTwice falls
    → (settle_falls adopted falls h).of_block b ≡ cut_by adopted (fall_of b falls) (h.of_block b)
settled_block adopted [] h b once = refl
settled_block adopted (f ∷ fs) h b once =
    settled_block adopted fs (change f.block (cut_to (if adopted then f.high else f.low)) h) b once.1 ∙ go (same_block f.block b) refl
  where
    go : (t : Bool) → same_block f.block b ≡ t
        → cut_by adopted (fall_of b fs) (if t then cut_to (if adopted then f.high else f.low) (h.of_block b) else h.of_block b)
        ≡ cut_by adopted (cond t (Some f) (fall_of b fs)) (h.of_block b)
    go true same =
        let none : fall_of b fs ≡ None = subst (λ (x : BlockId). fall_of x fs ≡ None) (sym (same_block_exact f.block b same)) (none_found f.block fs once.0) in
        ap (λ (o : Option Fall). cut_by adopted o (cut_to (if adopted then f.high else f.low) (h.of_block b))) none
    go false apart = refl
