-- What an event has the owner of a log do, step by step: whichever Report it sends bears this end.
use Rattle.std.proofs.Common.{refl, ℕ, List, [], ◌∷◌, ◌++◌, Option}
use Rattle.std.specs.Prelude.{fold}
use Rattle.std.specs.List.{AllByRecursion}
use Rattle.node_base.specs.Beginning.{answers_unanswered}
use Rattle.node_base.specs.declared.effects.Effect.{Effect}
use Rattle.node_base.specs.declared.effects.Effect.TheVariants.{Send, Answer as Answers, Lose, Does}
use Rattle.node_base.specs.Effects.{packets_of}
use Rattle.version_model.specs.declared.answer.Answer.{Answer}
use Rattle.xfs_base.specs.declared.node.NodeId.{NodeId}
use Rattle.xfs_base.specs.declared.segment.End.{End}
use Rattle.xfs_base.specs.Steps.{Stepped, still, saying, steps}
use Rattle.xfs_base.proofs.Alls.{all_append}
use Rattle.node_tellings.specs.reference_tie.Owners.{ReportsEnd, ReportsOf}
use Rattle.log_owner.specs.Behaves.{MayDo, MaySay}
use Rattle.log_owner.specs.declared.ended.Owner.{Owner}
use Rattle.wire_msg.specs.declared.body.Body.{Body}
use Rattle.wire_msg.specs.declared.body.Body.TheVariants as body
use Rattle.node_moves.proofs.Effects as effects

module _ (told : End) where
  abbrev pub Says : Effect → Type 0
  Says e = effects.Says (ReportsEnd told) e

  abbrev pub AllSay : List Effect → Type 0
  AllSay outs = AllByRecursion Says outs

  pub answers_say : (item : Option ℕ) (answer : Answer) → AllSay (answers_unanswered item answer)
  answers_say item answer = effects.answers_say (ReportsEnd told) item answer

  -- what was open is answered so, and then the item that ended it
  pub both_say : (item : Option ℕ) (first : Answer) (number : ℕ) (second : Answer) → AllSay (answers_unanswered item first ++ Answers number second ∷ [])
  both_say item first number second = effects.both_say (ReportsEnd told) item first number second

  pub packets_say : (node : NodeId) (es : List Effect) → AllSay es → AllByRecursion (ReportsOf node told) (packets_of node es)
  packets_say node es all = effects.packets_so (ReportsEnd told) (ReportsOf node told) node (λ to b says. (refl, says)) es all

  -- ---- an opening reports nothing

  may_say : (owner : Owner) (to : NodeId) (said : Body) → MaySay owner to said → ReportsEnd told said
  may_say owner to (body.Report m) may = absurd may
  may_say owner to (body.CkptDone m) may = absurd may
  may_say owner to (body.MapNews m) may = absurd may
  may_say owner to (body.Welcome m) may = absurd may
  may_say owner to _ may = tt

  pub may_do : (owner : Owner) (es : List Effect) → AllByRecursion (MayDo owner) es → AllSay es
  may_do owner [] all = tt
  may_do owner (Send to said ∷ es) all = (may_say owner to said all.0, may_do owner es all.1)
  may_do owner (Answers item answer ∷ es) all = absurd all.0
  may_do owner (Lose seg ∷ es) all = (tt, may_do owner es all.1)
  may_do owner (Does act ∷ es) all = (tt, may_do owner es all.1)

  -- ---- steps

  module _ {S : Type 0} (At : S → Type 0) where
    abbrev pub Goes : Stepped S Effect → Type 0
    Goes d = At d.state × AllSay d.outs

    pub goes_still : (s : S) → At s → Goes (still s)
    goes_still s h = (h, tt)

    pub goes_plain : (s : S) (outs : List Effect) → At s → AllSay outs → Goes (record { state = s; outs = outs })
    goes_plain s outs h says = (h, says)

    -- one thing follows another
    pub goes_on : (d e : Stepped S Effect) → Goes d → (At d.state → Goes e) → Goes (saying d.outs e)
    goes_on d e p f = (let second : Goes e = f p.0 in (second.0, all_append Says d.outs e.outs p.1 second.1))

    pub goes_after : (outs : List Effect) (d : Stepped S Effect) → AllSay outs → Goes d → Goes (saying outs d)
    goes_after outs d says p = (p.0, all_append Says outs d.outs says p.1)

    pub goes_and_gives : (d : Stepped S Effect) (s : S) (outs : List Effect) → Goes d → (At d.state → At s) → (At d.state → AllSay outs)
        → Goes (record { state = s; outs = d.outs ++ outs })
    goes_and_gives d s outs p f says = (f p.0, all_append Says d.outs outs p.1 (says p.0))

    pub goes_steps : {A : Type 0} (f : S → A → Stepped S Effect) → ((s : S) (x : A) → At s → Goes (f s x)) → (s : S) (xs : List A) → At s → Goes (steps f s xs)
    goes_steps f one s [] h = goes_still s h
    goes_steps f one s (x ∷ xs) h = goes_on (f s x) (steps f (f s x).state xs) (one s x h) (λ k. goes_steps f one (f s x).state xs k)

    pub stands_fold : {A : Type 0} (f : S → A → S) → ((s : S) (x : A) → At s → At (f s x)) → (s : S) (xs : List A) → At s → At (fold f s xs)
    stands_fold f one s [] h = h
    stands_fold f one s (x ∷ xs) h = stands_fold f one (f s x) xs (one s x h)
