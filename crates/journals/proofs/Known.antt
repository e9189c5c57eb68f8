-- What is known to have an answer is what has one.
use Rattle.std.proofs.Common.{◌≡◌, refl, sym, ap, subst, ◌∙◌, ℕ, ◌+◌, ◌<◌, ◌≤◌, Bool, true, false, ◌||◌, ◌&&◌, ◌==◌, nat_lt, List, [], ◌∷◌, ◌++◌, length, take, arith, get_or}
use Rattle.std.specs.Prelude.{nat_le}
use Rattle.std.proofs.lemmas.Bool.Decides.{nat_tests}
use Rattle.std.proofs.lemmas.List.Folds.{list_any-append, list_any_more}
use Rattle.version_model.specs.declared.act.Act.{Act}
use Rattle.xfs_base.specs.declared.node.NodeId.{NodeId}
use Rattle.xfs_base.proofs.Booleans.{contrary, or_first, or_second}
use Rattle.journals.specs.declared.answers.Answers.{Answers}
use Rattle.journals.specs.Answers.{AreAnswered, AreKnown, IsSettled, has_answer, is_among, is_answer_to, answers_advance}

-- two tests that pass together are equal
same_test : (a b : Bool) → (a ≡ true → b ≡ true) → (b ≡ true → a ≡ true) → a ≡ b
same_test true b f g = sym (f refl)
same_test false true f g = g refl
same_test false false f g = refl

pub or_none : (a : Bool) → (a || false) ≡ a
or_none true = refl
or_none false = refl

or_assoc : (a b c : Bool) → ((a || b) || c) ≡ (a || (b || c))
or_assoc true b c = refl
or_assoc false b c = refl

-- what is known where the number that follows has an answer
up_to_next : (all k next : ℕ) (m : Bool) → next ≡ all + 1 → ((nat_lt 0 k && nat_le k next) || m) ≡ (((nat_lt 0 k && nat_le k all) || m) || (next == k))
up_to_next all k next true is =
    or_second (nat_lt 0 k && nat_le k next) true refl ∙ sym (or_first ((nat_lt 0 k && nat_le k all) || true) (next == k) (or_second (nat_lt 0 k && nat_le k all) true refl))
up_to_next all k next false is =
    or_none (nat_lt 0 k && nat_le k next)
    ∙ same_test (nat_lt 0 k && nat_le k next) ((nat_lt 0 k && nat_le k all) || (next == k)) (λ e. grind (arith, nat_tests)) (λ e. grind (arith, nat_tests))
    ∙ sym (ap (λ b. b || (next == k)) (or_none (nat_lt 0 k && nat_le k all)))

pub next_noted : (old new : Answers) (k : ℕ) → new.all ≡ old.all + 1 → new.more ≡ old.more → answers_advance new k ≡ (answers_advance old k || (new.all == k))
next_noted old new k next same = ap (λ ns. (nat_lt 0 k && nat_le k new.all) || is_among k ns) same ∙ up_to_next old.all k new.all (is_among k old.more) next

-- and where one more has
pub more_noted : (old new : Answers) (k number : ℕ) → new.all ≡ old.all → new.more ≡ old.more ++ number ∷ [] → answers_advance new k ≡ (answers_advance old k || (number == k))
more_noted old new k number same more =
    let at : (nat_lt 0 k && nat_le k new.all) ≡ (nat_lt 0 k && nat_le k old.all) = ap (λ a. nat_lt 0 k && nat_le k a) same in
    let among : is_among k new.more ≡ (is_among k old.more || (number == k)) =
    ap (is_among k) more ∙ list_any-append (λ n. n == k) old.more (number ∷ []) ∙ ap (λ b. is_among k old.more || b) (or_none (number == k))
    in
    ap (λ b. b || is_among k new.more) at ∙ ap (λ b. (nat_lt 0 k && nat_le k old.all) || b) among
    ∙ sym (or_assoc (nat_lt 0 k && nat_le k old.all) (is_among k old.more) (number == k))

either_way : (m t : Bool) → (t ≡ true → m ≡ true) → (m || t) ≡ true → m ≡ true
either_way true t among e = refl
either_way false t among e = among e

known_already : (m t a : Bool) → (t ≡ true → m ≡ true) → ((a || m) || t) ≡ (a || m)
known_already m t true among = refl
known_already m t false among = same_test (m || t) m (λ e. either_way m t among e) (λ e. or_first m t e)

-- a number that is among the others is not known anew where it follows
pub gone_on : (old new : Answers) (k : ℕ) → new.all ≡ old.all + 1 → new.more ≡ old.more → is_among new.all old.more ≡ true → answers_advance new k ≡ answers_advance old k
gone_on old new k next same among =
    next_noted old new k next same
    ∙ known_already (is_among k old.more) (new.all == k) (nat_lt 0 k && nat_le k old.all)
    (λ e. let is : new.all ≡ k = grind (arith, nat_tests) in subst (λ n. is_among n old.more ≡ true) is among)

-- one act more of a list
pub one_more : (node : NodeId) (k i : ℕ) (act : Act) (all : List Act) (before now : Bool) → i < length all → act ≡ get_or all i act
    → now ≡ ((before || has_answer node k (take i all)) || is_answer_to node k act) → now ≡ (before || has_answer node k (take (i + 1) all))
one_more node k i act all before now within at is =
    is ∙ or_assoc before (has_answer node k (take i all)) (is_answer_to node k act)
    ∙ ap (λ b. before || (has_answer node k (take i all) || b)) (ap (is_answer_to node k) at)
    ∙ ap (λ b. before || b) (sym (list_any_more (is_answer_to node k) all i act within))

-- what is known where more is done
pub known_more : (node : NodeId) (old new : Answers) (before now : List Act) → AreKnown node old before
    → ((k : ℕ) → answers_advance new k ≡ (answers_advance old k || has_answer node k now)) → AreKnown node new (before ++ now)
known_more node old new before now known is k =
    is k ∙ ap (λ b. b || has_answer node k now) (known k) ∙ sym (list_any-append (is_answer_to node k) before now)

known_within : (a : Answers) (k : ℕ) → 1 ≤ k → k ≤ a.all → answers_advance a k ≡ true
known_within a k from upto =
    let within : (nat_lt 0 k && nat_le k a.all) ≡ true = grind (arith, nat_tests) in
    or_first (nat_lt 0 k && nat_le k a.all) (is_among k a.more) within

-- all up to a number that is known are answered
pub all_answered : (node : NodeId) (a : Answers) (done : List Act) (count : ℕ) → AreKnown node a done → count ≤ a.all → AreAnswered node count done
all_answered node a done count known le k from upto = sym (known k) ∙ known_within a k from (omega arith)

-- and so many are known as are answered
pub answered_all : (node : NodeId) (a : Answers) (done : List Act) (count : ℕ) → AreKnown node a done → IsSettled a → AreAnswered node count done → count ≤ a.all
answered_all node a done count known settled answered =
    elim (nat_le count a.all) as (λ t. nat_le count a.all ≡ t → count ≤ a.all) [
      | true ↦ λ e. grind (arith, nat_tests)
      | false ↦ λ e.
          let past : a.all + 1 ≤ count = grind (arith, nat_tests) in
          contrary (sym settled ∙ known (a.all + 1) ∙ answered (a.all + 1) (omega arith) past)
    ] refl
