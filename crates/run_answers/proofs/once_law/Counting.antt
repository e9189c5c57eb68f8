-- How many items of a script are answered: as many as there are answers, where each answers an item of the script and none is answered twice.
use Rattle.std.proofs.Common.{◌≡◌, ℕ, suc, ◌+◌, ◌-◌, ◌≤◌, ◌<◌, ◌==◌, Bool, true, false, cond, not, ◌&&◌, ◌||◌, List, [], ◌∷◌, ◌++◌, length, Option, Some, None, is_some, inl, inr, refl, sym, ap, subst, ◌∙◌, arith}
use Rattle.std.specs.List.{count_by}
use Rattle.std.proofs.lemmas.Bool.{eqb-true}
use Rattle.std.proofs.lemmas.Bool.Decides.{nat_tests}
use Rattle.std.proofs.lemmas.List.Sums.{length-filter, sum_by-cons}
use Rattle.script_text.specs.declared.script.Line.{Line}
use Rattle.token_protocol.specs.Basics.{In}
use Rattle.transcript.specs.declared.replies.ItemName.{ItemName}
use Rattle.transcript.specs.Replies.{is_answer, is_item}
use Rattle.version_model.specs.declared.act.Act.{Act}
use Rattle.version_model.specs.declared.act.Act.TheVariants as act
use Rattle.version_model.specs.declared.answer.Answer.{Answer}
use Rattle.world_base.specs.Items.{actor_of, is_for, is_for_actor, items_of, works_of}
use Rattle.xfs_base.proofs.Booleans.{and_first, and_second, contrary}
use Rattle.xfs_base.proofs.NodeOrder.{same_node_is, same_node_swap}
use Rattle.xfs_base.specs.declared.node.NodeId.{NodeId}
use Rattle.xfs_base.specs.Nodes.{same_node}
use Rattle.headline.specs.Items.{AnswersOnce, is_answered, item_behind, items_behind, items_named, unanswered_in}

-- ---- counts

-- how many pass a test
abbrev many : {X : Type 0} → (X → Bool) → List X → ℕ
many f [] = 0
many f (x ∷ xs) = cond (f x) 1 0 + many f xs

many_is : {X : Type 0} (f : X → Bool) (xs : List X) → count_by f xs ≡ many f xs
many_is f [] = refl
many_is f (x ∷ xs) = sum_by-cons (λ y. cond (f y) 1 0) x xs ∙ ap (λ n. cond (f x) 1 0 + n) (many_is f xs)

many_none : {X : Type 0} (xs : List X) → many (λ x. false) xs ≡ 0
many_none [] = refl
many_none (x ∷ xs) = (let none = many_none xs in omega arith)

-- those that pass one test or another, which none passes both
many_either : {X : Type 0} (f g : X → Bool) → ((x : X) → f x ≡ true → g x ≡ true → ⊥) → (xs : List X)
    → many (λ x. f x || g x) xs ≡ many f xs + many g xs
many_either f g apart [] = refl
many_either f g apart (x ∷ xs) = by (f x) (g x) (apart x) (many_either f g apart xs)
  where
    by : (s t : Bool) → (s ≡ true → t ≡ true → ⊥) → many (λ y. f y || g y) xs ≡ many f xs + many g xs
        → cond (s || t) 1 0 + many (λ y. f y || g y) xs ≡ (cond s 1 0 + many f xs) + (cond t 1 0 + many g xs)
    by true true both rest = absurd (both refl refl)
    by true false both rest = omega arith
    by false true both rest = omega arith
    by false false both rest = omega arith

-- those that fail it are all the others
many_others : {X : Type 0} (f : X → Bool) (xs : List X) → many (λ x. not (f x)) xs + many f xs ≡ length xs
many_others f [] = refl
many_others f (x ∷ xs) = by (f x) (many_others f xs)
  where
    by : (t : Bool) → many (λ y. not (f y)) xs + many f xs ≡ length xs
        → (cond (not t) 1 0 + many (λ y. not (f y)) xs) + (cond t 1 0 + many f xs) ≡ suc (length xs)
    by true rest = omega arith
    by false rest = omega arith

-- ---- answers

-- an item that is answered is so by an act
answered_by : (acts : List Act) (name : ItemName) → is_answered acts name ≡ true → (a : Answer) × In (act.Answered name.node name.number a) acts
answered_by [] name fact = contrary fact
answered_by (act.Answered node item a ∷ acts) name fact =
    by (same_node node name.node && (item == name.number)) refl fact (answered_by acts name)
  where
    its_act : (same_node node name.node && (item == name.number)) ≡ true → act.Answered name.node name.number a ≡ act.Answered node item a
    its_act t =
        let one : node ≡ name.node = same_node_is node name.node (and_first (same_node node name.node) (item == name.number) t) in
        let two : item ≡ name.number = eqb-true item name.number (and_second (same_node node name.node) (item == name.number) t) in
        sym (ap (λ n. act.Answered n item a) one ∙ ap (λ k. act.Answered name.node k a) two)

    by : (t : Bool) → (same_node node name.node && (item == name.number)) ≡ t → (t || is_answered acts name) ≡ true
        → (is_answered acts name ≡ true → (b : Answer) × In (act.Answered name.node name.number b) acts)
        → (b : Answer) × In (act.Answered name.node name.number b) (act.Answered node item a ∷ acts)
    by true t rest more = (a, inl (its_act t))
    by false t rest more = (let found = more rest in (found.0, inr found.1))
answered_by (_ ∷ acts) name fact = (let more = answered_by acts name fact in (more.0, inr more.1))

abbrev is_name : NodeId → ℕ → ItemName → Bool
is_name node item name = same_node node name.node && (item == name.number)

-- as many of these items are answered as there are answers, where each is one of them once
module _ (names : List ItemName) where
  abbrev EachNamed : List Act → Type 0
  EachNamed acts = (node : NodeId) (item : ℕ) (a : Answer) → In (act.Answered node item a) acts → many (is_name node item) names ≡ 1

  nothing_more : (n : ℕ) → n ≡ 0 + n
  nothing_more n = omega arith

  all_answered : (acts : List Act) → AnswersOnce acts → EachNamed acts → many (is_answered acts) names ≡ many is_answer acts
  all_answered [] once each = many_none names
  all_answered (act.Answered node item a ∷ acts) once each =
      let more : many (is_answered acts) names ≡ many is_answer acts = all_answered acts once.1 (λ n i b among. each n i b (inr among)) in
      let both : many (λ name. is_name node item name || is_answered acts name) names ≡ many (is_name node item) names + many (is_answered acts) names =
      many_either (is_name node item) (is_answered acts) apart names in
      let one : many (is_name node item) names ≡ 1 = each node item a (inl refl) in
      both ∙ (ap (λ n. n + many (is_answered acts) names) one ∙ ap (λ n. 1 + n) more)
    where
      apart : (name : ItemName) → is_name node item name ≡ true → is_answered acts name ≡ true → ⊥
      apart name its answered =
          let one : node ≡ name.node = same_node_is node name.node (and_first (same_node node name.node) (item == name.number) its) in
          let two : item ≡ name.number = eqb-true item name.number (and_second (same_node node name.node) (item == name.number) its) in
          let by_act = answered_by acts name answered in
          once.0 by_act.0 (subst (λ n. In (act.Answered n item by_act.0) acts) (sym one)
          (subst (λ k. In (act.Answered name.node k by_act.0) acts) (sym two) by_act.1))
  all_answered (_ ∷ acts) once each =
      all_answered acts once (λ n i b among. each n i b (inr among)) ∙ nothing_more (many is_answer acts)

-- ---- the items of a script

abbrev its : NodeId → List Line → ℕ
its node lines = many (is_for node) (works_of lines)

its_more : (node : NodeId) (before : List Line) (line : Line) → its node (before ++ line ∷ []) ≡ its node before + cond (is_for node line.work) 1 0
its_more node [] line = omega arith
its_more node (l ∷ before) line = (let more = its_more node before line in omega arith)

-- one for each line that is an item
as_many : (before lines : List Line) → length (items_behind before lines) ≡ many is_item lines
as_many before [] = refl
as_many before (line ∷ lines) = by (actor_of line.work) (as_many (before ++ line ∷ []) lines)
  where
    by : (o : Option NodeId) → length (items_behind (before ++ line ∷ []) lines) ≡ many is_item lines
        → length (item_behind before o ++ items_behind (before ++ line ∷ []) lines) ≡ cond (is_some o) 1 0 + many is_item lines
    by None rest = (let r = rest in omega arith)
    by (Some node) rest = (let r = rest in omega arith)

nothing_before : (n : ℕ) → 0 + n ≡ n
nothing_before n = omega arith

-- above it, and not the next one
strictly : (a b : ℕ) → b < a → (a == b + 1) ≡ false → b + 1 < a
strictly a b low other = grind (arith, nat_tests)

not_next : (a b : ℕ) → a ≤ b → (a == b + 1) ≡ false
not_next a b low = grind (arith, nat_tests)

module _ (node : NodeId) (item : ℕ) where
  -- an item that comes before is none of those behind
  none_behind : (before lines : List Line) → item ≤ its node before → many (is_name node item) (items_behind before lines) ≡ 0
  none_behind before [] low = refl
  none_behind before (line ∷ lines) low =
      by (actor_of line.work) (none_behind (before ++ line ∷ []) lines (let more = its_more node before line in omega arith))
    where
      not_it : (n : NodeId) (t : Bool) → same_node node n ≡ t → (t && (item == count_by (is_for n) (works_of before) + 1)) ≡ false
      not_it n true e =
          let one : node ≡ n = same_node_is node n e in
          let count : count_by (is_for n) (works_of before) ≡ its node before = many_is (is_for n) (works_of before) ∙ ap (λ m. its m before) (sym one) in
          ap (λ k. item == k + 1) count ∙ not_next item (its node before) low
      not_it n false e = refl

      by : (o : Option NodeId) → many (is_name node item) (items_behind (before ++ line ∷ []) lines) ≡ 0
          → many (is_name node item) (item_behind before o ++ items_behind (before ++ line ∷ []) lines) ≡ 0
      by None rest = rest
      by (Some n) rest =
          ap (λ t. cond t 1 0 + many (is_name node item) (items_behind (before ++ line ∷ []) lines)) (not_it n (same_node node n) refl)
          ∙ nothing_before (many (is_name node item) (items_behind (before ++ line ∷ []) lines)) ∙ rest

  abbrev Rest : List Line → List Line → Type 0
  Rest next lines = its node next < item → item ≤ its node next + its node lines → many (is_name node item) (items_behind next lines) ≡ 1

  -- and one that comes behind is one of them
  one_behind : (before lines : List Line) → its node before < item → item ≤ its node before + its node lines
      → many (is_name node item) (items_behind before lines) ≡ 1
  one_behind before [] low high = absurd (omega arith)
  one_behind before (line ∷ lines) low high =
      by (one_behind (before ++ line ∷ []) lines) (actor_of line.work) refl
    where
      more : its node (before ++ line ∷ []) ≡ its node before + cond (is_for_actor node (actor_of line.work)) 1 0
      more = its_more node before line

      -- a line of another node, or of none
      past : Rest (before ++ line ∷ []) lines → is_for_actor node (actor_of line.work) ≡ false → many (is_name node item) (items_behind (before ++ line ∷ []) lines) ≡ 1
      past rest e =
          let same_count : its node (before ++ line ∷ []) ≡ its node before + 0 = more ∙ ap (λ t. its node before + cond t 1 0) e in
          let less : item ≤ its node before + (0 + its node lines) = subst (λ t. item ≤ its node before + (cond t 1 0 + its node lines)) e high in
          rest (omega arith) (omega arith)

      -- a line of this node: it is the next item, or one behind it
      at_next : Rest (before ++ line ∷ []) lines → is_for_actor node (actor_of line.work) ≡ true → (t : Bool) → (item == its node before + 1) ≡ t
          → cond t 1 0 + many (is_name node item) (items_behind (before ++ line ∷ []) lines) ≡ 1
      at_next rest e true is =
          let one_more : its node (before ++ line ∷ []) ≡ its node before + 1 = more ∙ ap (λ t. its node before + cond t 1 0) e in
          let same_item : item ≡ its node before + 1 = eqb-true item (its node before + 1) is in
          let none : many (is_name node item) (items_behind (before ++ line ∷ []) lines) ≡ 0 = none_behind (before ++ line ∷ []) lines (omega arith) in
          ap (λ n. 1 + n) none
      at_next rest e false is =
          let one_more : its node (before ++ line ∷ []) ≡ its node before + 1 = more ∙ ap (λ t. its node before + cond t 1 0) e in
          let less : item ≤ its node before + (1 + its node lines) = subst (λ t. item ≤ its node before + (cond t 1 0 + its node lines)) e high in
          let above : its node before + 1 < item = strictly item (its node before) low is in
          nothing_before (many (is_name node item) (items_behind (before ++ line ∷ []) lines)) ∙ rest (omega arith) (omega arith)

      its_own : Rest (before ++ line ∷ []) lines → (n : NodeId) (t : Bool) → same_node n node ≡ t → actor_of line.work ≡ Some n
          → cond (same_node node n && (item == count_by (is_for n) (works_of before) + 1)) 1 0 + many (is_name node item) (items_behind (before ++ line ∷ []) lines) ≡ 1
      its_own rest n true e actor =
          let one : n ≡ node = same_node_is n node e in
          let swapped : same_node node n ≡ true = same_node_swap node n ∙ e in
          let count : count_by (is_for n) (works_of before) ≡ its node before = many_is (is_for n) (works_of before) ∙ ap (λ m. its m before) one in
          ap (λ t. cond (t && (item == count_by (is_for n) (works_of before) + 1)) 1 0 + many (is_name node item) (items_behind (before ++ line ∷ []) lines)) swapped
          ∙ (ap (λ k. cond (item == k + 1) 1 0 + many (is_name node item) (items_behind (before ++ line ∷ []) lines)) count
          ∙ at_next rest (ap (is_for_actor node) actor ∙ e) (item == its node before + 1) refl)
      its_own rest n false e actor =
          let swapped : same_node node n ≡ false = same_node_swap node n ∙ e in
          ap (λ t. cond (t && (item == count_by (is_for n) (works_of before) + 1)) 1 0 + many (is_name node item) (items_behind (before ++ line ∷ []) lines)) swapped
          ∙ (nothing_before _ ∙ past rest (ap (is_for_actor node) actor ∙ e))

      by : Rest (before ++ line ∷ []) lines → (o : Option NodeId) → actor_of line.work ≡ o → many (is_name node item) (item_behind before o ++ items_behind (before ++ line ∷ []) lines) ≡ 1
      by rest None e = past rest (ap (is_for_actor node) e)
      by rest (Some n) e = its_own rest n (same_node n node) refl e

-- each item of the script is named once
named_once : (lines : List Line) (node : NodeId) (item : ℕ) → 1 ≤ item → item ≤ length (items_of lines node)
    → many (is_name node item) (items_named lines) ≡ 1
named_once lines node item some there =
    let count : length (items_of lines node) ≡ its node lines = length-filter (is_for node) (works_of lines) ∙ many_is (is_for node) (works_of lines) in
    one_behind node item [] lines (omega arith) (omega arith)

-- ---- the law

abbrev pub EachThere : List Line → List Act → Type 0
EachThere lines acts = (node : NodeId) (item : ℕ) (a : Answer) → In (act.Answered node item a) acts → (1 ≤ item) × (item ≤ length (items_of lines node))

pub left_is_unanswered : (lines : List Line) (acts : List Act) → AnswersOnce acts → EachThere lines acts
    → count_by is_item lines - count_by is_answer acts ≡ unanswered_in lines acts
left_is_unanswered lines acts once each =
    let names : List ItemName = items_named lines in
    let items : count_by is_item lines ≡ length names = many_is is_item lines ∙ sym (as_many [] lines) in
    let answers_are : count_by is_answer acts ≡ many (is_answered acts) names =
    many_is is_answer acts
    ∙ sym (all_answered names acts once (λ node item a among. (let t = each node item a among in named_once lines node item t.0 t.1))) in
    let others : many (λ name. not (is_answered acts name)) names + many (is_answered acts) names ≡ length names = many_others (is_answered acts) names in
    let wanted : unanswered_in lines acts ≡ many (λ name. not (is_answered acts name)) names = many_is (λ name. not (is_answered acts name)) names in
    omega arith
