-- What is among the acts of a stretch: acts of blocks, and the answer, which is the last of them.
use Rattle.std.proofs.Common.{◌≡◌, ◌⊎◌, ℕ, true, Bool, cond, List, [], ◌∷◌, ◌++◌, Option, Some, None, inl, inr, sym, ap, subst, ◌∙◌}
use Rattle.std.proofs.lemmas.List.Elements.{filter-append}
use Rattle.client_call.specs.declared.call.Call.{Call}
use Rattle.client_call.specs.declared.call.Going.{Going}
use Rattle.file_plan.specs.declared.block_call.BlockAnswer.{BlockAnswer}
use Rattle.file_plan.specs.declared.block_call.BlockAnswer.TheVariants.{Got, Changed, Synced}
use Rattle.file_plan.specs.declared.block_call.BlockAnswer.TheVariants.{Put as Written}
use Rattle.file_plan.specs.declared.block_call.BlockCall.{BlockCall}
use Rattle.file_plan.specs.declared.block_call.BlockCall.TheVariants.{Get, Put, PutAt, Sync}
use Rattle.headline.specs.Calls.{Stretch, answered_so, is_of_items, of_items, told}
use Rattle.token_protocol.specs.Basics.{In}
use Rattle.version_model.specs.declared.act.Act.{Act}
use Rattle.version_model.specs.declared.act.Act.TheVariants as act
use Rattle.version_model.specs.declared.answer.Answer.{Answer}
use Rattle.xfs_base.proofs.Booleans.{by_test}
use Rattle.xfs_base.specs.declared.node.NodeId.TheVariants as nodes
use Rattle.run_laws.proofs.world_law.Sent.{in_append}
use Rattle.headline.specs.ItemActs.{IsOfBlocks}
use Rattle.headline.specs.Calls.Stretch.{Waits, Told, Finishes}

-- ---- what an answer to a call on blocks tells of

-- nothing, or one act of blocks
pub data TellsOf (client : ℕ) : List Act → Type 0 where
  Nothing : TellsOf client []
  One : (a : Act) → IsOfBlocks a → TellsOf client (a ∷ [])

pub tells_of : (client : ℕ) (step : BlockCall) (x : BlockAnswer) → TellsOf client (told client step x)
tells_of client (Get block) (Got ver value) = One (act.Read client block ver value) tt
tells_of client (Put block value) (Written ver) = One (act.Wrote client block value) tt
tells_of client (PutAt block named value) (Written ver) = One (act.Wrote client block value) tt
tells_of client Sync Synced = One (act.Synced client) tt
tells_of client (Get block) (Written ver) = Nothing
tells_of client (Get block) Changed = Nothing
tells_of client (Get block) Synced = Nothing
tells_of client (Put block value) (Got ver v) = Nothing
tells_of client (Put block value) Changed = Nothing
tells_of client (Put block value) Synced = Nothing
tells_of client (PutAt block named value) (Got ver v) = Nothing
tells_of client (PutAt block named value) Changed = Nothing
tells_of client (PutAt block named value) Synced = Nothing
tells_of client Sync (Got ver v) = Nothing
tells_of client Sync (Written ver) = Nothing
tells_of client Sync Changed = Nothing

-- ---- acts of a stretch

-- an answer of an item
abbrev pub IsAnswer : Act → Type 0
IsAnswer (act.Answered node item a) = Unit {0}
IsAnswer _ = ⊥

module _ (client : ℕ) where
  told_kind : {acts : List Act} → TellsOf client acts → (a : Act) → In a acts → IsOfBlocks a
  told_kind Nothing a among = absurd among
  told_kind (One b is) a (inl same) = subst IsOfBlocks (sym same) is
  told_kind (One b is) a (inr among) = absurd among

  answered_kind : (item : Option ℕ) (x : Answer) (a : Act) → In a (answered_so (nodes.Client client) item x) → IsAnswer a
  answered_kind None x a among = absurd among
  answered_kind (Some item) x a (inl same) = subst IsAnswer (sym same) tt
  answered_kind (Some item) x a (inr among) = absurd among

  -- each is one of blocks, or an answer
  pub stretch_kind : {item : Option ℕ} {g : Going} {acts : List Act} {after : Option Call} → Stretch client item g acts after → (a : Act) → In a acts
      → IsOfBlocks a ⊎ IsAnswer a
  stretch_kind (Waits plan step) a among = absurd among
  stretch_kind (Told {call = call} {acts = rest} x fits more) a among =
      by (λ later. stretch_kind more a later) (in_append (told client call.step x) rest a among)
    where
      by : (In a rest → IsOfBlocks a ⊎ IsAnswer a) → In a (told client call.step x) ⊎ In a rest → IsOfBlocks a ⊎ IsAnswer a
      by behind (inl first) = inl (told_kind (tells_of client call.step x) a first)
      by behind (inr later) = behind later
  stretch_kind {item} (Finishes x) a among = inr (answered_kind item x a among)

  -- ---- the answer is the last

  -- none of these answers an item of the client
  abbrev pub AnswersNone : List Act → Type 0
  AnswersNone acts = (item : ℕ) (x : Answer) → In (act.Answered (nodes.Client client) item x) acts → ⊥

  -- where an act of blocks is among these, none before it is an answer
  abbrev pub AnswersLast : List Act → Type 0
  AnswersLast acts = (before behind : List Act) (a : Act) → IsOfBlocks a → acts ≡ before ++ a ∷ behind → AnswersNone before

  no_split : (before behind : List Act) (a : Act) → [] ≡ before ++ a ∷ behind → ⊥
  no_split [] behind a same = cc
  no_split (b ∷ before) behind a same = cc

  none_last : AnswersLast []
  none_last before behind a is same = absurd (no_split before behind a same)

  answer_last : (item : Option ℕ) (x : Answer) → AnswersLast (answered_so (nodes.Client client) item x)
  answer_last None x before behind a is same = none_last before behind a is same
  answer_last (Some n) x [] behind a is same = λ item y among. among
  answer_last (Some n) x (b ∷ before) behind a is same =
      (let tail : [] ≡ before ++ a ∷ behind = cc in absurd (no_split before behind a tail))

  told_last : {acts rest : List Act} → TellsOf client acts → AnswersLast rest → AnswersLast (acts ++ rest)
  told_last Nothing last = last
  told_last {rest = rest} (One t of) last = by
    where
      by : AnswersLast (t ∷ rest)
      by [] behind a is same item x among = among
      by (b ∷ before) behind a is same item x (inl first) =
          let head : b ≡ t = cc in
          subst IsOfBlocks (sym (first ∙ head)) of
      by (b ∷ before) behind a is same item x (inr later) = (let tail : rest ≡ before ++ a ∷ behind = cc in last before behind a is tail item x later)

  pub stretch_last : {item : Option ℕ} {g : Going} {acts : List Act} {after : Option Call} → Stretch client item g acts after → AnswersLast acts
  stretch_last (Waits plan step) = none_last
  stretch_last (Told {call = call} x fits more) = told_last (tells_of client call.step x) (stretch_last more)
  stretch_last {item} (Finishes x) = answer_last item x

-- ---- acts of items among acts

pub in_items : (a : Act) → is_of_items a ≡ true → (acts : List Act) → In a acts → In a (of_items acts)
in_items a is [] among = among
in_items a is (b ∷ acts) (inl same) =
    subst (λ (t : Bool). In a (cond t (b ∷ of_items acts) (of_items acts))) (sym (ap is_of_items (sym same) ∙ is)) (inl same)
in_items a is (b ∷ acts) (inr later) =
    let rest = in_items a is acts later in
    by_test (In a) (is_of_items b) (b ∷ of_items acts) (of_items acts) (λ _. inr rest) (λ _. rest)

pub from_items : (a : Act) (acts : List Act) → In a (of_items acts) → In a acts
from_items a [] = λ among. among
from_items a (b ∷ acts) =
    by_test (λ (xs : List Act). In a xs → In a (b ∷ acts)) (is_of_items b) (b ∷ of_items acts) (of_items acts) (λ _. behind (from_items a acts))
    (λ _ among. inr (from_items a acts among))
  where
    behind : (In a (of_items acts) → In a acts) → In a (b ∷ of_items acts) → In a (b ∷ acts)
    behind more (inl same) = inl same
    behind more (inr later) = inr (more later)

-- those before an act of items, and behind it
pub items_split : (before behind : List Act) (a : Act) → is_of_items a ≡ true → of_items (before ++ a ∷ behind) ≡ of_items before ++ a ∷ of_items behind
items_split before behind a is =
    filter-append is_of_items before (a ∷ behind)
    ∙ ap (λ (t : Bool). of_items before ++ cond t (a ∷ of_items behind) (of_items behind)) is
