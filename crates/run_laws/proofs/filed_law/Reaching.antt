-- How far logs are filed rises with the acts, reaches each of them, and is what was filed.
use Rattle.std.proofs.Common.{◌≡◌, ◌⊎◌, ℕ, ◌≤◌, ◌==◌, max, Bool, true, false, List, [], ◌∷◌, ◌++◌, refl, sym, subst, ◌∙◌, inl, inr, nat_le, arith}
use Rattle.std.proofs.lemmas.Bool.Decides.{nat_tests}
use Rattle.std.proofs.lemmas.Bool.{eqb-true}
use Rattle.xfs_base.proofs.Booleans.{by_test, contrary, equal_itself}
use Rattle.xfs_base.specs.declared.segment.SegName.{SegName}
use Rattle.version_model.specs.declared.act.Act.{Act}
use Rattle.version_model.specs.declared.act.Act.TheVariants.{Filed}
use Rattle.node_tellings.specs.filed_tie.Reach.{Reach, Rises, ActReached, ActsReach}
use Rattle.run_laws.specs.filed_law.FiledUpto.{filed_number, filed_upto}
use Rattle.run_laws.proofs.filed_law.FiledUpto.{FiledAt, IsFiledUpto}

-- ---- it rises

pub filed_rises : (acts more : List Act) → Rises (filed_upto acts) (filed_upto (acts ++ more))
filed_rises [] more log = omega arith
filed_rises (act ∷ acts) more log = (let a = filed_rises acts more log in omega (arith, a))

pub one_more : (act : Act) (acts : List Act) → Rises (filed_upto acts) (filed_upto (act ∷ acts))
one_more act acts log = omega arith

-- ---- it reaches each act

act_rises : (reach later : Reach) → Rises reach later → (act : Act) → ActReached reach act → ActReached later act
act_rises reach later rises (Filed name) h = (let a = rises name.log.0 in omega (arith, a, h))
act_rises reach later rises _ h = tt

pub acts_rise : (reach later : Reach) → Rises reach later → (acts : List Act) → ActsReach reach acts → ActsReach later acts
acts_rise reach later rises [] all = tt
acts_rise reach later rises (act ∷ acts) all = (act_rises reach later rises act all.0, acts_rise reach later rises acts all.1)

own_number : (name : SegName) → name.seq ≤ filed_number name.log.0 (Filed name)
own_number name =
    by_test (λ (n : ℕ). name.seq ≤ n) (name.log.0 == name.log.0) name.seq 0 (λ t. omega arith) (λ t. contrary (sym t ∙ equal_itself name.log.0))

first_reached : (act : Act) (acts : List Act) → ActReached (filed_upto (act ∷ acts)) act
first_reached (Filed name) acts = (let a = own_number name in omega (arith, a))
first_reached _ acts = tt

pub all_reached : (acts : List Act) → ActsReach (filed_upto acts) acts
all_reached [] = tt
all_reached (act ∷ acts) = (first_reached act acts, acts_rise (filed_upto acts) (filed_upto (act ∷ acts)) (one_more act acts) acts (all_reached acts))

-- what comes behind other acts too
pub filed_reached : (acts more : List Act) → ActsReach (filed_upto (acts ++ more)) more
filed_reached [] more = all_reached more
filed_reached (act ∷ acts) more =
    acts_rise (filed_upto (acts ++ more)) (filed_upto (act ∷ (acts ++ more))) (one_more act (acts ++ more)) more (filed_reached acts more)

-- ---- it is what was filed

either : (a b : ℕ) → (max a b ≡ a) ⊎ (max a b ≡ b)
either a b = by (nat_le a b) refl
  where
    by : (t : Bool) → nat_le a b ≡ t → (max a b ≡ a) ⊎ (max a b ≡ b)
    by true t = inr (grind (arith, nat_tests))
    by false t = inl (grind (arith, nat_tests))

module _ (log : ℕ) (acts : List Act) where
  first_filed : (act : Act) → (filed_number log act ≡ 0) ⊎ FiledAt (act ∷ acts) log (filed_number log act)
  first_filed (Filed name) =
      by_test (λ (n : ℕ). (n ≡ 0) ⊎ FiledAt (Filed name ∷ acts) log n) (name.log.0 == log) name.seq 0
      (λ t. inr (record { name = name; among = inl refl; own = eqb-true name.log.0 log t; numbered = refl })) (λ t. inl refl)
  first_filed _ = inl refl

  later_filed : (act : Act) (number : ℕ) → FiledAt acts log number → FiledAt (act ∷ acts) log number
  later_filed act number f = record { name = f.name; among = inr f.among; own = f.own; numbered = f.numbered }

  with_first : (act : Act) → IsFiledUpto acts log → IsFiledUpto (act ∷ acts) log
  with_first act rest =
      elim (either (filed_number log act) (filed_upto acts log)) [
        | inl e ↦ subst (λ n. (n ≡ 0) ⊎ FiledAt (act ∷ acts) log n) (sym e) (first_filed act)
        | inr e ↦ subst (λ n. (n ≡ 0) ⊎ FiledAt (act ∷ acts) log n) (sym e)
            (elim rest [ inl none ↦ inl none | inr f ↦ inr (later_filed act (filed_upto acts log) f) ])
      ]

pub is_filed : (acts : List Act) (log : ℕ) → IsFiledUpto acts log
is_filed [] log = inl refl
is_filed (act ∷ acts) log = with_first log acts act (is_filed acts log)
