-- A plan, one state after another.
use Rattle.std.proofs.Common.{◌≡◌, ℕ, zero, suc, ◌+◌, ◌≤◌, List, [], ◌∷◌, ◌++◌, length, refl, sym, subst, arith}
use Rattle.version_model.specs.declared.answer.Answer.{Answer}
use Rattle.file_plan.specs.Names.{Name}
use Rattle.file_plan.specs.declared.block_call.BlockAnswer.{BlockAnswer}
use Rattle.file_plan.specs.declared.block_call.Next.{Next}
use Rattle.file_plan.specs.declared.block_call.Next.TheVariants.{Step, Reply}
use Rattle.file_plan.specs.declared.state.PlanState.{PlanState}
use Rattle.file_plan.specs.Plan.{file_plan_answered, after_all, file_plan_next}
use Rattle.file_plan.specs.declared.state.PlanState.TheVariants.{Ends}
use Rattle.file_plan.specs.Driving.{World, serve, Rests, GoesOn, Replies}

abbrev pub Post : Type 1
Post = Answer → World → Type 0

-- from a state a plan replies after at most n block calls, with Q
abbrev pub Comes : ℕ → PlanState → World → Post → Type 0
Comes zero s w Q = Rests (file_plan_next s) w Q
Comes (suc n) s w Q = GoesOn (file_plan_next s) w Q (λ answer v. Comes n (file_plan_answered s answer) v Q)

pub ended : (n : ℕ) (answer : Answer) (w : World) (Q : Post) → Q answer w → Comes n (Ends answer) w Q
ended zero answer w Q q = q
ended (suc n) answer w Q q = q

goes : (x : Next) (w : World) (Q : Post) (more later : BlockAnswer → World → Type 0) → ((a : BlockAnswer) (v : World) → more a v → later a v)
    → GoesOn x w Q more → GoesOn x w Q later
goes (Reply answer) w Q more later f h = h
goes (Step call) w Q more later f h = f (serve w call).answer (serve w call).world h

rests_goes : (x : Next) (w : World) (Q : Post) (more : BlockAnswer → World → Type 0) → Rests x w Q → GoesOn x w Q more
rests_goes (Reply answer) w Q more h = h
rests_goes (Step call) w Q more h = absurd h

pub more_steps : (n m : ℕ) (s : PlanState) (w : World) (Q : Post) → n ≤ m → Comes n s w Q → Comes m s w Q
more_steps zero zero s w Q le h = h
more_steps zero (suc m) s w Q le h = rests_goes (file_plan_next s) w Q (λ a v. Comes m (file_plan_answered s a) v Q) h
more_steps (suc n) zero s w Q le h = absurd (omega arith)
more_steps (suc n) (suc m) s w Q le h =
    let less : n ≤ m = omega arith in
    goes (file_plan_next s) w Q (λ a v. Comes n (file_plan_answered s a) v Q) (λ a v. Comes m (file_plan_answered s a) v Q)
    (λ a v g. more_steps n m (file_plan_answered s a) v Q less g) h

after_last : (s : PlanState) (answers : List BlockAnswer) (a : BlockAnswer) → after_all s (answers ++ a ∷ []) ≡ file_plan_answered (after_all s answers) a
after_last s [] a = refl
after_last s (b ∷ answers) a = after_last (file_plan_answered s b) answers a

-- what holds state by state holds of the plan over the answers
pub replies : (s : PlanState) (n : ℕ) (answers : List BlockAnswer) (w : World) (Q : Post) → Comes n (after_all s answers) w Q
    → Replies (λ as'. file_plan_next (after_all s as')) n answers w Q
replies s zero answers w Q h = h
replies s (suc n) answers w Q h =
    goes (file_plan_next (after_all s answers)) w Q (λ a v. Comes n (file_plan_answered (after_all s answers) a) v Q)
    (λ a v. Replies (λ as'. file_plan_next (after_all s as')) n (answers ++ a ∷ []) v Q)
    (λ a v g. replies s n (answers ++ a ∷ []) v Q (subst (λ (t : PlanState). Comes n t v Q) (sym (after_last s answers a)) g)) h

-- n more steps after one for each name
abbrev pub over : List Name → ℕ → ℕ
over [] n = n
over (name ∷ rest) n = suc (over rest n)

pub over_is : (rest : List Name) (n : ℕ) → over rest n ≡ length rest + n
over_is [] n = omega arith
over_is (name ∷ rest) n = let e = over_is rest n in omega (arith, e)
