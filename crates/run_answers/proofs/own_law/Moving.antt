-- What the moves of a client that serves make of its call and items, and which acts of items they are: none, or the answer that a segment is lost.
use Rattle.std.proofs.Common.{◌≡◌, ◌⊎◌, ℕ, List, [], ◌++◌, Option, Some, None, inl, inr, refl, sym, ap, subst, ◌∙◌}
use Rattle.client_call.specs.declared.call.Call.{Call}
use Rattle.client_running.specs.Blocks.{Made, blocks_make}
use Rattle.client_serving.specs.declared.serving.Serving.{Serving}
use Rattle.client_serving.specs.Reads.{loses}
use Rattle.client_serving.specs.Sends.{Done}
use Rattle.file_plan.specs.declared.block_call.BlockAnswer.{BlockAnswer}
use Rattle.file_plan.specs.declared.block_call.BlockCall.{BlockCall}
use Rattle.node_base.specs.Beginning.{items_answer}
use Rattle.node_base.specs.declared.effects.Effect.{Effect}
use Rattle.node_base.specs.declared.items.Items.{Items}
use Rattle.serving_moves.proofs.call_moves.Blocks.{makes_go}
use Rattle.serving_moves.proofs.call_moves.Keeping.{then_kept}
use Rattle.serving_moves.specs.call_moves.Moves.{AllStill, Comes, Fits, Kept, MakesSo, Moves, tells}
use Rattle.headline.specs.Calls.{answered_so, told}
use Rattle.serving_moves.specs.call_moves.Moves.Comes.{Moved, Gone}
use Rattle.serving_moves.specs.call_moves.Moves.Move.{Steps, Loses}
use Rattle.serving_moves.specs.call_moves.Moves.Moves.{Last, Then}
use Rattle.version_model.specs.declared.act.Act.{Act}
use Rattle.version_model.specs.declared.answer.Answer.TheVariants as answer
use Rattle.xfs_base.proofs.Alls.{all_append}
use Rattle.xfs_base.specs.declared.block.BlockId.{BlockId}
use Rattle.xfs_base.specs.declared.node.NodeId.{NodeId}
use Rattle.xfs_base.specs.declared.segment.SegName.{SegName}
use Rattle.xfs_base.specs.Steps.{saying}
use Rattle.serving_moves.specs.call_moves.Moves.{IsStill}
use Rattle.run_answers.proofs.own_law.Filing.{answered_are, before_still, behind_still, its_acts, told_are}

no_call : (call : Call) → None ≡ Some call → ⊥
no_call call fact = cc

-- its call and its items stay, and nothing is acted of items
pub record IsCalm (s : Serving) (d : Done) : Type 0 where
  pub kept : Kept s d.state
  pub still : AllStill d.outs

pub calm_then : (s : Serving) (d x : Done) → IsCalm s d → IsCalm d.state x → IsCalm s (saying d.outs x)
calm_then s d x a b =
    record { kept = then_kept s d.state x.state a.kept b.kept; still = all_append IsStill d.outs x.outs a.still b.still }

-- no call is open behind what leaves the call, where none was
pub none_kept : (s t : Serving) → Kept s t → s.call ≡ None → t.call ≡ None
none_kept s t kept none = by t.call refl
  where
    by : (o : Option Call) → t.call ≡ o → o ≡ None
    by None fact = refl
    by (Some call) fact = (let old = kept.calls call fact in absurd (no_call old.0 (sym none ∙ old.1.0)))

-- with no call open nothing is lost
pub calm : (s : Serving) (d : Done) → Moves s d → s.call ≡ None → IsCalm s d
calm s d (Last (Steps kept still)) none = record { kept = kept; still = still }
calm s d (Last (Loses has block name)) none = absurd (no_call has.0 (sym none ∙ has.1))
calm s d (Then now e (Steps kept still) rest) none =
    calm_then s now e (record { kept = kept; still = still }) (calm now.state e rest (none_kept s now.state kept none))
calm s d (Then now e (Loses has block name) rest) none = absurd (no_call has.0 (sym none ∙ has.1))

module _ (me : NodeId) where
  -- a segment is lost, and the open item is answered so
  pub record HasLost (s : Serving) (d : Done) : Type 0 where
    pub name : SegName
    pub number : d.state.lasting.number ≡ s.lasting.number
    pub over : d.state.call ≡ None
    pub items : d.state.lasting.items ≡ items_answer s.lasting.items
    pub acts : its_acts me d.outs ≡ answered_so me s.lasting.items.unanswered (answer.Lost name)

  loss : (s : Serving) (block : BlockId) (name : SegName) → HasLost s (loses s block name)
  unfolding loses
  loss s block name = record { name = name; number = refl; over = refl; items = refl; acts = answered_are me s.lasting.items.unanswered (answer.Lost name) }

  -- then nothing more is
  lost_then : (s : Serving) (d x : Done) → HasLost s d → IsCalm d.state x → HasLost s (saying d.outs x)
  lost_then s d x a b = record {
    name = a.name;
    number = b.kept.number ∙ a.number;
    over = none_kept d.state x.state b.kept a.over;
    items = b.kept.items ∙ a.items;
    acts = before_still me d.outs x.outs b.still ∙ a.acts;
  }

  calm_lost : (s : Serving) (d x : Done) → IsCalm s d → HasLost d.state x → HasLost s (saying d.outs x)
  calm_lost s d x a b = record {
    name = b.name;
    number = b.number ∙ a.kept.number;
    over = b.over;
    items = b.items ∙ ap items_answer a.kept.items;
    acts = behind_still me d.outs x.outs a.still
        ∙ (b.acts ∙ ap (λ (items : Items). answered_so me items.unanswered (answer.Lost b.name)) a.kept.items);
  }

  abbrev pub Went : Serving → Done → Type 0
  Went s d = IsCalm s d ⊎ HasLost s d

  went : (s : Serving) (d : Done) → Moves s d → Went s d
  went s d (Last (Steps kept still)) = inl (record { kept = kept; still = still })
  went s d (Last (Loses has block name)) = inr (loss s block name)
  went s d (Then now e (Steps kept still) rest) = by (went now.state e rest)
    where
      first : IsCalm s now
      first = record { kept = kept; still = still }

      by : Went now.state e → Went s (saying now.outs e)
      by (inl c) = inl (calm_then s now e first c)
      by (inr l) = inr (calm_lost s now e first l)
  went s d (Then now e (Loses has block name) rest) =
      let l : HasLost s (loses s block name) = loss s block name in
      inr (lost_then s (loses s block name) e l (calm (loses s block name).state e rest l.over))

  pub comes : (s : Serving) (d : Done) → Comes s d → Went s d
  comes s d (Moved moves) = went s d moves
  comes s d (Gone block name) = inr (loss s block name)

  pub moves : (s : Serving) (d : Done) → Moves s d → Went s d
  moves s d m = went s d m

  -- ---- a call on blocks

  -- what is told by its answer, if it has one
  abbrev pub tells_acts : ℕ → BlockCall → Option BlockAnswer → List Act
  tells_acts client call None = []
  tells_acts client call (Some a) = told client call a

  tells_are : (client : ℕ) (call : BlockCall) (a : Option BlockAnswer) → its_acts me (tells client call a) ≡ tells_acts client call a
  tells_are client call None = refl
  tells_are client call (Some a) = told_are me client call a

  -- made while no call is open
  pub record HasMade (s : Serving) (call : BlockCall) (m : Made) : Type 0 where
    pub kept : Kept s m.done.state
    pub none : m.done.state.call ≡ None
    pub acts : its_acts me m.done.outs ≡ tells_acts s.lasting.number call m.answer
    pub fits : Fits call m.answer

  pub has_made : (s : Serving) (call : BlockCall) → s.call ≡ None → HasMade s call (blocks_make s call)
  has_made s call none = record {
    kept = subst (λ (d : Done). Kept s d.state) (sym m.all) (then_kept s m.first.state m.last.state first.kept last.kept);
    none = ap (λ (d : Done). d.state.call) m.all ∙ none_kept m.first.state m.last.state last.kept (none_kept s m.first.state first.kept none);
    acts = ap (λ (d : Done). its_acts me d.outs) m.all
        ∙ (behind_still me m.first.outs (said ++ m.last.outs) first.still
        ∙ (before_still me said m.last.outs last.still ∙ tells_are s.lasting.number call (blocks_make s call).answer));
    fits = m.fits;
  }
    where
      m : MakesSo s call (blocks_make s call)
      m = makes_go s call

      said : List Effect
      said = tells s.lasting.number call (blocks_make s call).answer

      first : IsCalm s m.first
      first = calm s m.first m.firstly none

      last : IsCalm m.first.state m.last
      last = calm m.first.state m.last m.lastly (none_kept s m.first.state first.kept none)
