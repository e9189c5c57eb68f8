-- Where each item of each node is answered, no item is open: there are as many answers as items, since no act answers two items.
use Rattle.std.proofs.Common.{◌≡◌, ℕ, ◌+◌, ◌-◌, ◌<◌, ◌≤◌, ◌==◌, ◌&&◌, ◌||◌, Bool, true, false, cond, List, [], ◌∷◌, length, Option, Some, None, refl, sym, ap, ◌∙◌, arith}
use Rattle.std.specs.List.{AllByRecursion, count_by}
use Rattle.std.proofs.lemmas.Bool.Decides.{nat_tests}
use Rattle.std.proofs.lemmas.List.Sums.{sum_by-cons}
use Rattle.script_text.specs.declared.script.Line.{Line}
use Rattle.version_model.specs.declared.act.Act.{Act}
use Rattle.version_model.specs.declared.act.Act.TheVariants as acts
use Rattle.version_model.specs.declared.work.Work.{Work}
use Rattle.xfs_base.specs.declared.node.NodeId.{NodeId}
use Rattle.xfs_base.specs.Nodes.{same_node}
use Rattle.xfs_base.proofs.NodeOrder.{same_node_is, same_node_itself}
use Rattle.world_base.specs.Items.{actor_of, is_for, is_for_actor, items_of}
use Rattle.journals.specs.Answers.{AreAnswered, has_answer, is_answer_to}
use Rattle.transcript.specs.Replies.{is_answer, is_item}

-- ---- the items of a script by their names

-- an item by its node and its number among that node's
record Name : Type 0 where
  node : NodeId
  number : ℕ

-- how many items of each node come up to a work, where so many came before
abbrev more : (NodeId → ℕ) → Work → NodeId → ℕ
more before work node = before node + cond (is_for node work) 1 0

abbrev added : (NodeId → ℕ) → Option NodeId → List Name → List Name
added before None rest = rest
added before (Some node) rest = record { node = node; number = before node + 1 } ∷ rest

-- the names of the items of some lines, where so many of each node came before
abbrev names : (NodeId → ℕ) → List Line → List Name
names before [] = []
names before (line ∷ lines) = added before (actor_of line.work) (names (more before line.work) lines)

-- a name is one of the next so many
record IsNext (before : NodeId → ℕ) (lines : List Line) (x : Name) : Type 0 where
  later : before x.node < x.number
  most : x.number ≤ before x.node + length (items_of lines x.node)

-- the later of two names of one node has the greater number
abbrev IsBefore : Name → Name → Type 0
IsBefore x y = x.node ≡ y.node → x.number < y.number

abbrev AreDistinct : List Name → Type 0
AreDistinct [] = Unit {0}
AreDistinct (x ∷ xs) = AllByRecursion (IsBefore x) xs × AreDistinct xs

all_weaker : {X : Type 0} (P Q : X → Type 0) → ((x : X) → P x → Q x) → (xs : List X) → AllByRecursion P xs → AllByRecursion Q xs
all_weaker P Q weaker [] h = tt
all_weaker P Q weaker (x ∷ xs) h = (weaker x h.0, all_weaker P Q weaker xs h.1)

items_more : (line : Line) (lines : List Line) (node : NodeId) (t : Bool) → is_for node line.work ≡ t
    → length (items_of (line ∷ lines) node) ≡ cond t 1 0 + length (items_of lines node)
items_more line lines node true is = rw is (omega arith)
items_more line lines node false is = rw is (omega arith)

next_before : (before : NodeId → ℕ) (line : Line) (lines : List Line) (x : Name) → IsNext (more before line.work) lines x → IsNext before (line ∷ lines) x
next_before before line lines x h =
    let most = h.most in
    let later = h.later in
    let items = items_more line lines x.node (is_for x.node line.work) refl in
    record { later = omega arith; most = omega arith }

for_itself : (work : Work) (node : NodeId) → actor_of work ≡ Some node → is_for node work ≡ true
for_itself work node is = ap (is_for_actor node) is ∙ same_node_itself node

one_more : (before : NodeId → ℕ) (work : Work) (node : NodeId) → actor_of work ≡ Some node → more before work node ≡ before node + 1
one_more before work node is = ap (λ t. before node + cond t 1 0) (for_itself work node is)

added_next : (before : NodeId → ℕ) (line : Line) (lines : List Line) (o : Option NodeId) (rest : List Name) → actor_of line.work ≡ o
    → AllByRecursion (IsNext before (line ∷ lines)) rest → AllByRecursion (IsNext before (line ∷ lines)) (added before o rest)
added_next before line lines None rest is h = h
added_next before line lines (Some node) rest is h =
    let items = items_more line lines node true (for_itself line.work node is) in
    (record { later = omega arith; most = omega arith }, h)

names_next : (before : NodeId → ℕ) (lines : List Line) → AllByRecursion (IsNext before lines) (names before lines)
names_next before [] = tt
names_next before (line ∷ lines) =
    let rest = names (more before line.work) lines in
    added_next before line lines (actor_of line.work) rest refl
    (all_weaker (IsNext (more before line.work) lines) (IsNext before (line ∷ lines)) (next_before before line lines) rest (names_next (more before line.work) lines))

added_distinct : (before : NodeId → ℕ) (line : Line) (lines : List Line) (o : Option NodeId) (rest : List Name) → actor_of line.work ≡ o
    → AllByRecursion (IsNext (more before line.work) lines) rest → AreDistinct rest → AreDistinct (added before o rest)
added_distinct before line lines None rest is next h = h
added_distinct before line lines (Some node) rest is next h =
    let x : Name = record { node = node; number = before node + 1 } in (
      all_weaker (IsNext (more before line.work) lines) (IsBefore x)
          (λ y n same. let later = n.later in let here = one_more before line.work node is in let there = ap (more before line.work) same in omega arith)
          rest next,
      h,
    )

names_distinct : (before : NodeId → ℕ) (lines : List Line) → AreDistinct (names before lines)
names_distinct before [] = tt
names_distinct before (line ∷ lines) =
    let rest = names (more before line.work) lines in
    added_distinct before line lines (actor_of line.work) rest refl (names_next (more before line.work) lines) (names_distinct (more before line.work) lines)

added_count : (before : NodeId → ℕ) (line : Line) (o : Option NodeId) (rest : List Name) → actor_of line.work ≡ o
    → length (added before o rest) ≡ cond (is_item line) 1 0 + length rest
added_count before line None rest is = rw is (omega arith)
added_count before line (Some node) rest is = rw is (omega arith)

names_count : (before : NodeId → ℕ) (lines : List Line) → length (names before lines) ≡ count_by is_item lines
names_count before [] = refl
names_count before (line ∷ lines) =
    let rest = names (more before line.work) lines in
    let here = added_count before line (actor_of line.work) rest refl in
    let there = names_count (more before line.work) lines in
    let all = sum_by-cons (λ l. cond (is_item l) 1 0) line lines in
    omega arith

-- ---- no act answers two of them

abbrev hits : Act → Name → Bool
hits a x = is_answer_to x.node x.number a

abbrev answered : List Act → Name → Bool
answered acts x = has_answer x.node x.number acts

-- what answers an item is an answer
is_one : (a : Act) (x : Name) → hits a x ≡ true → is_answer a ≡ true
is_one (acts.Answered node item answer) x hit = refl
is_one a x hit = absurd (cc)

both : (s t : Bool) → (s && t) ≡ true → (s ≡ true) × (t ≡ true)
both true true e = (refl, refl)
both true false e = absurd (cc)
both false t e = absurd (cc)

-- of one item
same_name : (a : Act) (x y : Name) → hits a x ≡ true → hits a y ≡ true → (x.node ≡ y.node) × (x.number ≡ y.number)
same_name (acts.Answered node item answer) x y at_x at_y =
    let p = both (same_node node x.node) (item == x.number) at_x in
    let q = both (same_node node y.node) (item == y.number) at_y in
    let number_x = p.1 in
    let number_y = q.1 in
    (sym (same_node_is node x.node p.0) ∙ same_node_is node y.node q.0, grind (arith, nat_tests))
same_name a x y at_x at_y = absurd (cc)

count_cons : {X : Type 0} (test : X → Bool) (x : X) (xs : List X) (t : Bool) → test x ≡ t → count_by test (x ∷ xs) ≡ cond t 1 0 + count_by test xs
count_cons test x xs t is = sum_by-cons (λ y. cond (test y) 1 0) x xs ∙ ap (λ b. cond b 1 0 + count_by test xs) is

-- where one is answered by an act, no later one is
miss : (a : Act) (x y : Name) → hits a x ≡ true → IsBefore x y → (t : Bool) → hits a y ≡ t → t ≡ false
miss a x y at_x apart true e =
    let s = same_name a x y at_x e in
    let below = apart s.0 in
    let same = s.1 in
    absurd (omega arith)
miss a x y at_x apart false e = refl

no_more : (a : Act) (x : Name) (xs : List Name) → hits a x ≡ true → AllByRecursion (IsBefore x) xs → count_by (hits a) xs ≡ 0
no_more a x [] at_x apart = refl
no_more a x (y ∷ ys) at_x apart =
    let none = miss a x y at_x apart.0 (hits a y) refl in
    let here = count_cons (hits a) y ys false none in
    let rest = no_more a x ys at_x apart.1 in
    omega arith

at_most_one : (a : Act) (x : Name) (xs : List Name) (t : Bool) → hits a x ≡ t → AllByRecursion (IsBefore x) xs → count_by (hits a) xs ≤ cond (is_answer a) 1 0
    → count_by (hits a) (x ∷ xs) ≤ cond (is_answer a) 1 0
at_most_one a x xs true is apart few =
    let here = count_cons (hits a) x xs true is in
    let none = no_more a x xs is apart in
    let one : cond {A = ℕ} (is_answer a) 1 0 ≡ 1 = ap (λ t. cond {A = ℕ} t 1 0) (is_one a x is) in
    omega arith
at_most_one a x xs false is apart few = let here = count_cons (hits a) x xs false is in omega arith

few_hits : (a : Act) (xs : List Name) → AreDistinct xs → count_by (hits a) xs ≤ cond (is_answer a) 1 0
few_hits a [] h = omega arith
few_hits a (x ∷ xs) h = at_most_one a x xs (hits a x) refl h.0 (few_hits a xs h.1)

or_few : (s t : Bool) → cond (s || t) 1 0 ≤ cond s 1 0 + cond t 1 0
or_few true t = omega arith
or_few false t = omega arith

one_act : (a : Act) (done : List Act) (xs : List Name) → count_by (answered (a ∷ done)) xs ≤ count_by (hits a) xs + count_by (answered done) xs
one_act a done [] = omega arith
one_act a done (x ∷ xs) =
    let whole = count_cons (answered (a ∷ done)) x xs (answered (a ∷ done) x) refl in
    let here = count_cons (hits a) x xs (hits a x) refl in
    let there = count_cons (answered done) x xs (answered done x) refl in
    let few = or_few (hits a x) (answered done x) in
    let rest = one_act a done xs in
    omega arith

none_answered : (xs : List Name) → count_by (answered []) xs ≡ 0
none_answered [] = refl
none_answered (x ∷ xs) = let here = count_cons (answered []) x xs false refl in let rest = none_answered xs in omega arith

-- there are as many answers as distinct items that are answered
few_answered : (done : List Act) (xs : List Name) → AreDistinct xs → count_by (answered done) xs ≤ count_by is_answer done
few_answered [] xs h = let none = none_answered xs in omega arith
few_answered (a ∷ done) xs h =
    let split = one_act a done xs in
    let one = few_hits a xs h in
    let rest = few_answered done xs h in
    let all = count_cons is_answer a done (is_answer a) refl in
    omega arith

all_counted : (done : List Act) (xs : List Name) → AllByRecursion (λ x. answered done x ≡ true) xs → count_by (answered done) xs ≡ length xs
all_counted done [] h = refl
all_counted done (x ∷ xs) h = let here = count_cons (answered done) x xs true h.0 in let rest = all_counted done xs h.1 in omega arith

-- where each item of each node is answered, none is open
pub all_answered : (lines : List Line) (done : List Act) → ((node : NodeId) → AreAnswered node (length (items_of lines node)) done)
    → count_by is_item lines - count_by is_answer done ≡ 0
all_answered lines done each =
    let none : NodeId → ℕ = λ node. 0 in
    let xs = names none lines in
    let every : AllByRecursion (λ x. answered done x ≡ true) xs =
    all_weaker (IsNext none lines) (λ x. answered done x ≡ true)
    (λ x n. let later = n.later in let most = n.most in each x.node x.number (omega arith) (omega arith)) xs (names_next none lines)
    in
    let count = names_count none lines in
    let all = all_counted done xs every in
    let few = few_answered done xs (names_distinct none lines) in
    omega arith
