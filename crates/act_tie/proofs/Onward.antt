-- What one more act makes of the acts of a block, and of falls that are apart.
use Rattle.std.proofs.Common.{◌≡◌, List, [], ◌∷◌, ◌++◌, sym, ap, ◌∙◌, append-nil, append_assoc}
use Rattle.xfs_base.specs.declared.block.BlockId.{BlockId}
use Rattle.version_model.specs.declared.act.Act.{Act}
use Rattle.version_model.specs.History.{History, nothing_yet}
use Rattle.version_model.specs.Effects.{after_act, history_after}
use Rattle.act_tie.specs.BlockActs.{block_acts, acts_from, acts_of}
use Rattle.version_model.specs.Falls.{AreApartFrom, IsApart}

from_on : (b : BlockId) (acts : List Act) (a : Act) (h : History) → acts_from b h (acts ++ a ∷ []) ≡ acts_from b h acts ++ block_acts b (history_after acts h) a
from_on b [] a h = append-nil (block_acts b h a)
from_on b (x ∷ acts) a h =
    ap (λ rest. block_acts b h x ++ rest) (from_on b acts a (after_act x h))
    ∙ sym (append_assoc (block_acts b h x) (acts_from b (after_act x h) acts) (block_acts b (history_after acts (after_act x h)) a))

pub acts_on : (b : BlockId) (acts : List Act) (a : Act) → acts_of b (acts ++ a ∷ []) ≡ acts_of b acts ++ block_acts b (history_after acts nothing_yet) a
acts_on b acts a = from_on b acts a nothing_yet

pub apart_on : (acts : List Act) (a : Act) (h : History) → AreApartFrom h acts → IsApart a (history_after acts h) → AreApartFrom h (acts ++ a ∷ [])
apart_on [] a h apart last = (last, tt)
apart_on (x ∷ acts) a h apart last = (apart.0, apart_on acts a (after_act x h) apart.1 last)
