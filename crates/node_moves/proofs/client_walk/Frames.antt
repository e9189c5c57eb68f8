-- What an event has a node do, step by step, where something stands of its state and something is so of each effect: where what is acted is known of, the state
-- stands so then too, and each effect is so.
use Rattle.std.proofs.Common.{List, [], ◌∷◌, ◌++◌}
use Rattle.std.specs.Prelude.{fold}
use Rattle.std.specs.List.{AllByRecursion}
use Rattle.node_base.specs.declared.effects.Effect.{Effect}
use Rattle.xfs_base.proofs.Alls.{all_append}
use Rattle.xfs_base.specs.Steps.{Stepped, still, saying, steps}

pub all_before : {X : Type 0} (P : X → Type 0) (xs ys : List X) → AllByRecursion P (xs ++ ys) → AllByRecursion P xs
all_before P [] ys all = tt
all_before P (x ∷ xs) ys all = (all.0, all_before P xs ys all.1)

pub all_behind : {X : Type 0} (P : X → Type 0) (xs ys : List X) → AllByRecursion P (xs ++ ys) → AllByRecursion P ys
all_behind P [] ys all = all
all_behind P (x ∷ xs) ys all = all_behind P xs ys all.1

module _ (Says Acted : Effect → Type 0) {S : Type 0} (At : S → Type 0) where
  abbrev AllSay : List Effect → Type 0
  AllSay outs = AllByRecursion Says outs

  abbrev pub Goes : Stepped S Effect → Type 0
  Goes d = AllByRecursion Acted d.outs → At d.state × AllSay d.outs

  pub goes_still : (s : S) → At s → Goes (still s)
  goes_still s h acts = (h, tt)

  pub goes_plain : (s : S) (outs : List Effect) → At s → AllSay outs → Goes (record { state = s; outs = outs })
  goes_plain s outs h says acts = (h, says)

  -- one thing follows another
  pub goes_on : (d e : Stepped S Effect) → Goes d → (At d.state → Goes e) → Goes (saying d.outs e)
  goes_on d e p f acts =
      let first : At d.state × AllSay d.outs = p (all_before Acted d.outs e.outs acts) in
      let second : At e.state × AllSay e.outs = f first.0 (all_behind Acted d.outs e.outs acts) in
      (second.0, all_append Says d.outs e.outs first.1 second.1)

  pub goes_after : (outs : List Effect) (d : Stepped S Effect) → AllSay outs → Goes d → Goes (saying outs d)
  goes_after outs d says p acts =
      let second : At d.state × AllSay d.outs = p (all_behind Acted outs d.outs acts) in
      (second.0, all_append Says outs d.outs says second.1)

  -- another state that stands so too, and more is said
  pub goes_and_gives : (d : Stepped S Effect) (s : S) (outs : List Effect) → Goes d → (At d.state → At s) → (At d.state → AllSay outs)
      → Goes (record { state = s; outs = d.outs ++ outs })
  goes_and_gives d s outs p f says acts =
      let first : At d.state × AllSay d.outs = p (all_before Acted d.outs outs acts) in
      (f first.0, all_append Says d.outs outs first.1 (says first.0))

  pub goes_steps : {A : Type 0} (f : S → A → Stepped S Effect) → ((s : S) (x : A) → At s → Goes (f s x)) → (s : S) (xs : List A) → At s → Goes (steps f s xs)
  goes_steps f one s [] h = goes_still s h
  goes_steps f one s (x ∷ xs) h = goes_on (f s x) (steps f (f s x).state xs) (one s x h) (λ k. goes_steps f one (f s x).state xs k)

  -- one thing for each item of a list of such items
  pub goes_each : {A : Type 0} (Takes : A → Type 0) (f : S → A → Stepped S Effect) → ((s : S) (x : A) → Takes x → At s → Goes (f s x)) → (s : S) (xs : List A)
      → AllByRecursion Takes xs → At s → Goes (steps f s xs)
  goes_each Takes f one s [] all h = goes_still s h
  goes_each Takes f one s (x ∷ xs) all h =
      goes_on (f s x) (steps f (f s x).state xs) (one s x all.0 h) (λ k. goes_each Takes f one (f s x).state xs all.1 k)

  pub stands_fold : {A : Type 0} (f : S → A → S) → ((s : S) (x : A) → At s → At (f s x)) → (s : S) (xs : List A) → At s → At (fold f s xs)
  stands_fold f one s [] h = h
  stands_fold f one s (x ∷ xs) h = stands_fold f one (f s x) xs (one s x h)

-- nothing is known of what is acted
abbrev pub Any : Effect → Type 0
Any e = Unit {0}

pub any_acted : (es : List Effect) → AllByRecursion Any es
any_acted [] = tt
any_acted (e ∷ es) = (tt, any_acted es)

-- where nothing needs to be known of it, it goes so whatever is acted
pub gone : (Says : Effect → Type 0) {S : Type 0} (At : S → Type 0) (d : Stepped S Effect) → Goes Says Any At d → At d.state × AllByRecursion Says d.outs
gone Says At d p = p (any_acted d.outs)
