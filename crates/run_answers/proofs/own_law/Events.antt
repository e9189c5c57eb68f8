-- An act of blocks of one event of a client is for an item.
use Rattle.std.proofs.Common.{◌≡◌, ℕ, List, [], ◌∷◌, ◌++◌, Option, Some, sym, ap, subst, ◌∙◌}
use Rattle.client_call.specs.declared.call.Call.{Call}
use Rattle.client_call.specs.declared.call.Going.TheVariants.{On}
use Rattle.client_node.specs.declared.phase.Phase.{Phase}
use Rattle.client_node.specs.Phases.{lasting_of}
use Rattle.token_protocol.specs.Basics.{In}
use Rattle.version_model.specs.declared.act.Act.{Act}
use Rattle.version_model.specs.declared.act.Act.TheVariants as act
use Rattle.version_model.specs.declared.answer.Answer.TheVariants as answer
use Rattle.version_model.specs.declared.work.Work.{Work}
use Rattle.wire_msg.specs.declared.packet.Do.{Do}
use Rattle.xfs_base.proofs.Alls.{all_append}
use Rattle.xfs_base.specs.declared.node.NodeId.{NodeId}
use Rattle.xfs_base.specs.declared.node.NodeId.TheVariants as nodes
use Rattle.run_answers.proofs.own_law.Single.{IsOwnCall, NoneOfBlocks, answers_none, call_for_item, call_own, going_for, no_such}
use Rattle.run_answers.proofs.own_law.Whole.{forget}
use Rattle.headline.specs.Items.{asked_at}
use Rattle.headline.specs.Calls.{Acts, CallHasItem, Stretch, answered_so, call_in, open_in}
use Rattle.headline.specs.Calls.Acts.{Rests, Passes, AtOnce, GoesOn, Begins, Loses, Falls, Stops, Returns}
use Rattle.headline.specs.ItemActs.{IsFor, IsOfBlocks}

module _ (client : ℕ) (works : List Work) where
  abbrev me : NodeId
  me = nodes.Client client

  -- its open call is the one that its open item asks for
  abbrev pub Owns : Phase → Type 0
  Owns p = (item : ℕ) → open_in p ≡ Some item → (call : Call) → call_in p ≡ Some call → IsOwnCall client (asked_at works item) call.plan call.step

  abbrev pub ForItem : List Act → Act → Type 0
  ForItem acts a = (item : ℕ) × IsFor client item (asked_at works item) acts a

  none_for : (acts : List Act) → NoneOfBlocks acts → (a : Act) → IsOfBlocks a → In a acts → ForItem acts a
  none_for acts none a is among = absurd (no_such acts none a is among)

  cut_none : (item : Option ℕ) (number : ℕ) → NoneOfBlocks (answered_so me item answer.Cut ++ act.Answered me number answer.Done ∷ [])
  cut_none item number =
      all_append (λ a. IsOfBlocks a → ⊥) (answered_so me item answer.Cut) (act.Answered me number answer.Done ∷ []) (answers_none me item answer.Cut) (λ is. is, tt)

  pub acts_for : (p : Phase) (what : Do) (q : Phase) → CallHasItem p → Owns p → (lasting_of p).items.works ≡ works → {acts : List Act}
      → Acts client p what acts q → (a : Act) → IsOfBlocks a → In a acts → ForItem acts a
  acts_for p what q sound owns its (Rests x y) a is among = absurd among
  acts_for p what q sound owns its (Passes number wanted same b f made c o) a is among =
      none_for (act.Answered me number answer.Done ∷ []) (λ no. no, tt) a is among
  acts_for p what q sound owns its (AtOnce number wanted x refused b c o) a is among = none_for (act.Answered me number x ∷ []) (λ no. no, tt) a is among
  acts_for p what q sound owns its {acts} (GoesOn call at stays drains here) a is among =
      let st = forget client here in
      let has = sound call at in
      (has.0, call_for_item client call (owns has.0 has.1 call at) (subst (λ (o : Option ℕ). Stretch client o (On call) acts (call_in q)) has.1 st) a is among)
  acts_for p what q sound owns its {acts} (Begins {s = s} number wanted going same begun free made stays drains here) a is among =
      let st = forget client here in
      let asks : asked_at works number ≡ wanted = ap (λ (ws : List Work). asked_at ws number) (sym its) ∙ begun.asks in
      (number, subst (λ (w : Option Work). IsFor client number w acts a) (sym asks) (going_for client going (call_own client s number wanted going made) st a is among))
  acts_for p what q sound owns its (Loses name c o) a is among =
      none_for (answered_so me (open_in p) (answer.Lost name)) (answers_none me (open_in p) (answer.Lost name)) a is among
  acts_for p what q sound owns its (Falls number wanted flight falls s b c f) a is among =
      none_for (act.Fell client flight falls ∷ answered_so me (open_in p) answer.Cut ++ act.Answered me number answer.Done ∷ [])
      (λ no. no, cut_none (open_in p) number) a is among
  acts_for p what q sound owns its (Stops number wanted s b c f) a is among =
      none_for (answered_so me (open_in p) answer.Cut ++ act.Answered me number answer.Done ∷ []) (cut_none (open_in p) number) a is among
  acts_for p what q sound owns its (Returns chain o s c f) a is among =
      none_for (act.Back client chain ∷ answered_so me (open_in p) answer.Done) (λ no. no, answers_none me (open_in p) answer.Done) a is among
