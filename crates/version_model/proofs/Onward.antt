-- What further acts make of histories, and of acts that are legal.
use Rattle.std.proofs.Common.{◌≡◌, List, [], ◌∷◌, ◌++◌, refl}
use Rattle.version_model.specs.declared.act.Act.{Act}
use Rattle.version_model.specs.History.{History}
use Rattle.version_model.specs.Effects.{after_act, history_after}
use Rattle.version_model.specs.Legal.{AreLegalFrom, IsLegalIn}

-- the histories that acts and then more acts leave
pub history_through : (acts more : List Act) (h : History) → history_after (acts ++ more) h ≡ history_after more (history_after acts h)
history_through [] more h = refl
history_through (a ∷ acts) more h = history_through acts more (after_act a h)

-- legal acts and one legal act more
pub legal_more : (h : History) (acts : List Act) (a : Act) → AreLegalFrom h acts → IsLegalIn a (history_after acts h) → AreLegalFrom h (acts ++ a ∷ [])
legal_more h [] a legal this = (this, tt)
legal_more h (b ∷ acts) a legal this = (legal.0, legal_more (after_act b h) acts a legal.1 this)
