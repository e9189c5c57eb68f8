-- That a segment is filed, given up or lost changes no history and answers nothing: what is said of acts is said of those that calls do.
use Rattle.std.proofs.Common.{◌≡◌, ℕ, Bool, true, false, filter, List, [], ◌∷◌, ◌++◌, inl, inr, refl, sym, ap, subst}
use Rattle.std.specs.List.{AllByRecursion}
use Rattle.headline.specs.Calls.{of_items}
use Rattle.headline.specs.InLine.{answers_in}
use Rattle.headline.specs.ItemActs.{IsOfBlocks, IsOfCall}
use Rattle.headline.specs.OneMachine.{AreDone, IsDone}
use Rattle.token_protocol.specs.Basics.{In}
use Rattle.version_model.specs.declared.act.Act.{Act}
use Rattle.version_model.specs.declared.act.Act.TheVariants as act
use Rattle.version_model.specs.declared.answer.Answer.{Answer}
use Rattle.version_model.specs.Effects.{after_act, history_after}
use Rattle.version_model.specs.History.{History}
use Rattle.version_model.specs.Legal.{AreLegalFrom}
use Rattle.xfs_base.proofs.Booleans.{by_test}
use Rattle.xfs_base.specs.declared.node.NodeId.{NodeId}

-- no segment is filed, given up or lost by it
abbrev pub is_of_calls : Act → Bool
is_of_calls (act.Filed seg) = false
is_of_calls (act.Dropped seg) = false
is_of_calls (act.Lost node seg) = false
is_of_calls _ = true

abbrev pub of_calls : List Act → List Act
of_calls acts = filter is_of_calls acts

-- those that are done for items are more
pub calls_items : (acts : List Act) → of_calls (of_items acts) ≡ of_calls acts
calls_items [] = refl
calls_items (act.Wrote client block value ∷ acts) = ap (λ xs. act.Wrote client block value ∷ xs) (calls_items acts)
calls_items (act.Read client block ver value ∷ acts) = ap (λ xs. act.Read client block ver value ∷ xs) (calls_items acts)
calls_items (act.Synced client ∷ acts) = ap (λ xs. act.Synced client ∷ xs) (calls_items acts)
calls_items (act.Fell client flight falls ∷ acts) = ap (λ xs. act.Fell client flight falls ∷ xs) (calls_items acts)
calls_items (act.Back client chain ∷ acts) = ap (λ xs. act.Back client chain ∷ xs) (calls_items acts)
calls_items (act.Lost node seg ∷ acts) = calls_items acts
calls_items (act.Filed seg ∷ acts) = calls_items acts
calls_items (act.Dropped seg ∷ acts) = calls_items acts
calls_items (act.Answered node item answer ∷ acts) = ap (λ xs. act.Answered node item answer ∷ xs) (calls_items acts)

pub block_first : (a : Act) → IsOfBlocks a → (acts : List Act) → of_calls (a ∷ acts) ≡ a ∷ of_calls acts
block_first (act.Wrote client block value) is acts = refl
block_first (act.Read client block ver value) is acts = refl
block_first (act.Synced client) is acts = refl
block_first _ is acts = absurd is

pub history_items : (acts : List Act) (h : History) → history_after acts h ≡ history_after (of_calls acts) h
history_items [] h = refl
history_items (act.Wrote client block value ∷ acts) h = history_items acts (after_act (act.Wrote client block value) h)
history_items (act.Read client block ver value ∷ acts) h = history_items acts (after_act (act.Read client block ver value) h)
history_items (act.Synced client ∷ acts) h = history_items acts (after_act (act.Synced client) h)
history_items (act.Fell client flight falls ∷ acts) h = history_items acts (after_act (act.Fell client flight falls) h)
history_items (act.Back client chain ∷ acts) h = history_items acts (after_act (act.Back client chain) h)
history_items (act.Lost node seg ∷ acts) h = history_items acts h
history_items (act.Filed seg ∷ acts) h = history_items acts h
history_items (act.Dropped seg ∷ acts) h = history_items acts h
history_items (act.Answered node item answer ∷ acts) h = history_items acts h

pub legal_items : (acts : List Act) (h : History) → AreLegalFrom h acts → AreLegalFrom h (of_calls acts)
legal_items [] h legal = tt
legal_items (act.Wrote client block value ∷ acts) h legal = (legal.0, legal_items acts (after_act (act.Wrote client block value) h) legal.1)
legal_items (act.Read client block ver value ∷ acts) h legal = (legal.0, legal_items acts (after_act (act.Read client block ver value) h) legal.1)
legal_items (act.Synced client ∷ acts) h legal = (legal.0, legal_items acts (after_act (act.Synced client) h) legal.1)
legal_items (act.Fell client flight falls ∷ acts) h legal = (legal.0, legal_items acts (after_act (act.Fell client flight falls) h) legal.1)
legal_items (act.Back client chain ∷ acts) h legal = (legal.0, legal_items acts (after_act (act.Back client chain) h) legal.1)
legal_items (act.Lost node seg ∷ acts) h legal = legal_items acts h legal.1
legal_items (act.Filed seg ∷ acts) h legal = legal_items acts h legal.1
legal_items (act.Dropped seg ∷ acts) h legal = legal_items acts h legal.1
legal_items (act.Answered node item answer ∷ acts) h legal = (legal.0, legal_items acts h legal.1)

pub legal_behind : (acts more : List Act) (h : History) → AreLegalFrom h (acts ++ more) → AreLegalFrom (history_after acts h) more
legal_behind [] more h legal = legal
legal_behind (a ∷ acts) more h legal = legal_behind acts more (after_act a h) legal.1

pub answers_items : (acts : List Act) → answers_in acts ≡ answers_in (of_calls acts)
answers_items [] = refl
answers_items (act.Answered node item answer ∷ acts) = ap (λ xs. act.Answered node item answer ∷ xs) (answers_items acts)
answers_items (_ ∷ acts) = answers_items acts

-- each of them is one of a call, and is among all
pub all_items : (acts : List Act) → AllByRecursion (λ a. is_of_calls a ≡ true) (of_calls acts)
all_items [] = tt
all_items (a ∷ acts) =
    by_test (λ xs. AllByRecursion (λ x. is_of_calls x ≡ true) xs) (is_of_calls a) (a ∷ of_calls acts) (of_calls acts)
    (λ its. (its, all_items acts)) (λ _. all_items acts)

pub among_all : (test : Act → Bool) (acts : List Act) (a : Act) → In a (filter test acts) → In a acts
among_all test [] a = λ among. among
among_all test (x ∷ acts) a =
    by_test (λ xs. In a xs → In a (x ∷ acts)) (test x) (x ∷ filter test acts) (filter test acts) (λ _. here (λ among. among_all test acts a among))
    (λ _ among. inr (among_all test acts a among))
  where
    here : (In a (filter test acts) → In a acts) → In a (x ∷ filter test acts) → In a (x ∷ acts)
    here behind (inl same) = inl same
    here behind (inr among) = inr (behind among)

pub item_among : (acts : List Act) (a : Act) → In a (of_calls acts) → In a acts
item_among acts a among = among_all is_of_calls acts a among

-- an answer among acts
pub answer_among : (acts : List Act) (a : Act) → In a (answers_in acts) → In a acts
answer_among [] a among = among
answer_among (act.Answered node item answer ∷ acts) a (inl same) = inl same
answer_among (act.Answered node item answer ∷ acts) a (inr among) = inr (answer_among acts a among)
answer_among (_ ∷ acts) a among = inr (answer_among acts a among)

-- where what is answered is answered as a call is that is done, each answer is
pub each_done : (acts : List Act) → AreDone acts → (node : NodeId) (item : ℕ) (x : Answer) → In (act.Answered node item x) acts → IsOfCall x
each_done [] all node item x among = absurd among
each_done (a ∷ acts) all node item x (inl same) = subst IsDone (sym same) all.0
each_done (a ∷ acts) all node item x (inr among) = each_done acts all.1 node item x among

-- acts part where one of them stands
pub record Parts (a : Act) (acts : List Act) : Type 0 where
  pub before : List Act
  pub behind : List Act
  pub are : acts ≡ before ++ a ∷ behind

pub parts_at : (a : Act) (acts : List Act) → In a acts → Parts a acts
parts_at a [] among = absurd among
parts_at a (x ∷ acts) (inl same) = record { before = []; behind = acts; are = ap (λ y. y ∷ acts) (sym same) }
parts_at a (x ∷ acts) (inr among) =
    let p = parts_at a acts among in record { before = x ∷ p.before; behind = p.behind; are = ap (λ ys. x ∷ ys) p.are }
