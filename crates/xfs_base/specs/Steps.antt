-- Steps of a machine: the state that each leaves, and what it gives.
use Rattle.std.specs.Prelude.{List, [], ◌∷◌, ◌++◌}

-- a state, and what was given on the way to it
pub record Stepped (S O : Type 0) : Type 0 where
  pub state : S
  pub outs : List O

module _ {S O : Type 0} where
  -- nothing changes and nothing is given
  abbrev pub still : S → Stepped S O
  still s = record { state = s; outs = [] }

  -- the same step, with these outs before its own
  abbrev pub saying : List O → Stepped S O → Stepped S O
  saying outs r = record { state = r.state; outs = outs ++ r.outs }

  -- one step for each item, in order
  abbrev pub steps : {A : Type 0} → (S → A → Stepped S O) → S → List A → Stepped S O
  steps step s [] = still s
  steps step s (x ∷ xs) = saying (step s x).outs (steps step (step s x).state xs)
