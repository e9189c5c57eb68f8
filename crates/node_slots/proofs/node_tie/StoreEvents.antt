-- What all packets of an event say, and that its acts change no history.
use Rattle.std.specs.List.{AllByRecursion}
use Rattle.std.specs.Prelude.{List}
use Rattle.node_base.specs.declared.effects.Effect.{Effect}
use Rattle.node_base.specs.declared.effects.Effect.TheVariants.{Answer, Does, Lose, Send}
use Rattle.token_law.specs.Owed.{IsNeutral}
use Rattle.wire_msg.specs.declared.body.Body.{Body}

-- an effect that is a packet has such a body, and an act changes no history
abbrev pub Says : (Body → Type 0) → Effect → Type 0
Says P (Send to said) = P said
Says P (Answer item answer) = Unit {0}
Says P (Lose seg) = Unit {0}
Says P (Does act) = IsNeutral act

-- and so has each of these
abbrev pub AllSay : (Body → Type 0) → List Effect → Type 0
AllSay P effects = AllByRecursion (Says P) effects
