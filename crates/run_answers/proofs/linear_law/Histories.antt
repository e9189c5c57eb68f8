-- How many versions a block has behind acts: as many as before, and one for each write of it, where nobody is back.
use Rattle.std.proofs.Common.{◌≡◌, ℕ, suc, ◌+◌, Bool, true, false, cond, List, [], ◌∷◌, ◌++◌, length, refl, arith}
use Rattle.std.specs.List.{AllByRecursion}
use Rattle.version_model.specs.declared.act.Act.{Act}
use Rattle.version_model.specs.declared.act.Act.TheVariants as act
use Rattle.version_model.specs.declared.history.Version.{Version}
use Rattle.version_model.specs.Effects.{after_act, history_after, pin}
use Rattle.version_model.specs.History.{History, is_by_other}
use Rattle.xfs_base.specs.Blocks.{same_block}
use Rattle.xfs_base.specs.declared.block.BlockId.{BlockId}
use Rattle.headline.specs.Calls.{writes_of}

-- it isn't that a client is back
abbrev pub IsNoReturn : Act → Type 0
IsNoReturn (act.Back client chain) = ⊥
IsNoReturn _ = Unit {0}

module _ (b : BlockId) where
  abbrev count : History → ℕ
  count h = length (h.of_block b).versions

  abbrev writes_in : Act → ℕ
  writes_in a = writes_of b (a ∷ [])

  one_longer : (versions : List Version) (v : Version) → length (versions ++ v ∷ []) ≡ length versions + 1
  one_longer [] v = refl
  one_longer (x ∷ versions) v = (let more = one_longer versions v in omega arith)

  act_counts : (a : Act) (h : History) → IsNoReturn a → count (after_act a h) ≡ count h + writes_in a
  act_counts (act.Wrote client block value) h none = by (same_block block b)
    where
      v : Version
      v = record { content = value; writer = client }

      by : (t : Bool) → length (cond t (record (h.of_block b) { versions = (h.of_block b).versions ++ v ∷ [] }) (h.of_block b)).versions ≡ count h + cond t 1 0
      by true = one_longer (h.of_block b).versions v
      by false = omega arith
  act_counts (act.Read client block ver value) h none = by (is_by_other client ver (h.of_block block).versions)
    where
      pinned : (t : Bool) → length (cond t (pin ver (h.of_block b)) (h.of_block b)).versions ≡ count h + 0
      pinned true = omega arith
      pinned false = omega arith

      by : (t : Bool)
          → length ((cond t (record h { of_block = λ c. cond (same_block block c) (pin ver (h.of_block c)) (h.of_block c) }) h).of_block b).versions ≡ count h + 0
      by true = pinned (same_block block b)
      by false = omega arith
  act_counts (act.Synced client) h none = omega arith
  act_counts (act.Fell client flight falls) h none = omega arith
  act_counts (act.Back client chain) h none = absurd none
  act_counts (act.Lost node seg) h none = omega arith
  act_counts (act.Filed seg) h none = omega arith
  act_counts (act.Dropped seg) h none = omega arith
  act_counts (act.Answered node item a) h none = omega arith

  one_then : (a : Act) (acts : List Act) → writes_of b (a ∷ acts) ≡ writes_in a + writes_of b acts
  one_then (act.Wrote client block value) acts = by (same_block block b)
    where
      by : (t : Bool) → cond t (suc (writes_of b acts)) (writes_of b acts) ≡ cond t 1 0 + writes_of b acts
      by true = omega arith
      by false = omega arith
  one_then _ acts = omega arith

  pub acts_count : (acts : List Act) (h : History) → AllByRecursion IsNoReturn acts → count (history_after acts h) ≡ count h + writes_of b acts
  acts_count [] h none = omega arith
  acts_count (a ∷ acts) h none =
      (let rest = acts_count acts (after_act a h) none.1 in let first = act_counts a h none.0 in let all = one_then a acts in omega arith)
