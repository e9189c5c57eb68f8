-- What the effects of an event say of a cleaning: the count that is answered, what is dropped, and what is asked.
use Rattle.std.proofs.Common.{◌≡◌, ◌+◌, ℕ, List, [], ◌∷◌, inl, inr, refl, sym, subst, ◌∙◌}
use Rattle.std.specs.List.{AllByRecursion}
use Rattle.node_base.specs.declared.effects.Effect.{Effect}
use Rattle.node_base.specs.declared.effects.Effect.TheVariants.{Answer as Answers, Does, Lose, Send}
use Rattle.node_base.specs.Effects.{acts_of}
use Rattle.token_protocol.specs.Basics.{In}
use Rattle.version_model.specs.declared.act.Act.{Act}
use Rattle.version_model.specs.declared.act.Act.TheVariants as act
use Rattle.version_model.specs.declared.answer.Answer.{Answer}
use Rattle.version_model.specs.declared.answer.Answer.TheVariants as answer
use Rattle.wire_msg.specs.declared.body.Body.{Body}
use Rattle.wire_msg.specs.declared.body.Body.TheVariants as body
use Rattle.wire_msg.specs.declared.storage.Fetch.{Fetch}
use Rattle.xfs_base.specs.declared.node.NodeId.{NodeId}
use Rattle.xfs_base.specs.declared.node.NodeId.TheVariants as nodes
use Rattle.xfs_base.specs.declared.segment.SegName.{SegName}
use Rattle.run_answers.proofs.clean_law.Frames.{Acted, EffectSo, Frame}
use Rattle.run_answers.proofs.clean_law.Standing as standing
use Rattle.run_answers.proofs.number_law.Tallies as tallies
use Rattle.headline.specs.Cleanings.{IsDropped}
use Rattle.headline.specs.Tellings.{HasFetched}

-- ---- what is answered

-- where a count is answered, it is to the one item
module _ (item number cleaned : ℕ) where
  abbrev its : Act
  its = act.Answered nodes.Cleaner number (answer.Count cleaned)

  count_item : (n m : ℕ) (a : Answer) → tallies.AnswerSo item n m a → its ≡ act.Answered nodes.Cleaner m a → number ≡ item
  count_item n m a so same = same_number ∙ (subst (λ (x : Answer). tallies.AnswerSo item n m x) (sym same_answer) so).0
    where
      same_number : number ≡ m
      same_number = cc

      same_answer : answer.Count cleaned ≡ a
      same_answer = cc

  pub counted_item : (outs : List Effect) (n : ℕ) → tallies.CountsSo item n outs → In its (acts_of nodes.Cleaner outs) → number ≡ item
  counted_item [] n all among = absurd among
  counted_item (Send to said ∷ outs) n all among = counted_item outs (n + 0) all.1 among
  counted_item (Answers m a ∷ outs) n all (inl same) = count_item n m a all.0 same
  counted_item (Answers m a ∷ outs) n all (inr among) = counted_item outs (n + 0) all.1 among
  counted_item (Lose seg ∷ outs) n all (inl same) = absurd (lost seg same)
    where
      lost : (seg : SegName) → its ≡ act.Lost nodes.Cleaner seg → ⊥
      lost seg fact = cc
  counted_item (Lose seg ∷ outs) n all (inr among) = counted_item outs (n + 0) all.1 among
  counted_item (Does a ∷ outs) n all (inl same) = absurd (subst tallies.IsNoAnswer (sym same) all.0)
  counted_item (Does a ∷ outs) n all (inr among) = counted_item outs (n + tallies.act_drops a) all.1 among

module _ (f : Frame) (number cleaned : ℕ) where
  abbrev it : Act
  it = act.Answered nodes.Cleaner number (answer.Count cleaned)

  abbrev pub Due : Type 0
  Due = (number ≡ f.item) × standing.DueSo f.e f.begun f.end f.last f.at_first f.many f.item cleaned

  answer_due : (m : ℕ) (a : Answer) → EffectSo f (Answers m a) → it ≡ act.Answered nodes.Cleaner m a → Due
  answer_due m a so same = (let s = subst (λ (x : Answer). EffectSo f (Answers m x)) (sym same_answer) so in (same_number ∙ s.0, s.1))
    where
      same_number : number ≡ m
      same_number = cc

      same_answer : answer.Count cleaned ≡ a
      same_answer = cc

  pub acts_due : (outs : List Effect) → AllByRecursion (EffectSo f) outs → In it (acts_of nodes.Cleaner outs) → Due
  acts_due [] all among = absurd among
  acts_due (Send to said ∷ outs) all among = acts_due outs all.1 among
  acts_due (Answers m a ∷ outs) all (inl same) = answer_due m a all.0 same
  acts_due (Answers m a ∷ outs) all (inr among) = acts_due outs all.1 among
  acts_due (Lose seg ∷ outs) all (inl same) = absurd (lost seg same)
    where
      lost : (seg : SegName) → it ≡ act.Lost nodes.Cleaner seg → ⊥
      lost seg fact = cc
  acts_due (Lose seg ∷ outs) all (inr among) = acts_due outs all.1 among
  acts_due (Does a ∷ outs) all (inl same) = absurd (subst tallies.IsNoAnswer (sym same) all.0)
  acts_due (Does a ∷ outs) all (inr among) = acts_due outs all.1 among

-- ---- what is dropped, and asked

module _ (f : Frame) (whole : List Effect) (dropped : (name : SegName) → In (act.Dropped name) (acts_of nodes.Cleaner whole) → IsDropped f.e f.begun f.end name)
    (asked : (server : ℕ) (m : Fetch) → In (Send (nodes.Server server) (body.Fetch m)) whole
    → HasFetched f.e nodes.Cleaner f.begun f.end m.name m.ask server) where
  act_acted : (a : Act) → In a (acts_of nodes.Cleaner whole) → Acted f (Does a)
  act_acted (act.Dropped name) among = dropped name among
  act_acted _ among = tt

  said_acted : (server : ℕ) (said : Body) → In (Send (nodes.Server server) said) whole → Acted f (Send (nodes.Server server) said)
  said_acted server (body.Fetch m) among = asked server m among
  said_acted server _ among = tt

  sent_acted : (to : NodeId) (said : Body) → In (Send to said) whole → Acted f (Send to said)
  sent_acted (nodes.Server server) said among = said_acted server said among
  sent_acted (nodes.Client k) said among = tt
  sent_acted (nodes.Manager k) said among = tt
  sent_acted nodes.Cleaner said among = tt
  sent_acted nodes.Registry said among = tt

  pub all_acted : (outs : List Effect) → ((x : Effect) → In x outs → In x whole)
      → ((a : Act) → In a (acts_of nodes.Cleaner outs) → In a (acts_of nodes.Cleaner whole)) → AllByRecursion (Acted f) outs
  all_acted [] within acts = tt
  all_acted (Send to said ∷ outs) within acts =
      (sent_acted to said (within (Send to said) (inl refl)), all_acted outs (λ x among. within x (inr among)) acts)
  all_acted (Answers m a ∷ outs) within acts = (tt, all_acted outs (λ x among. within x (inr among)) (λ x among. acts x (inr among)))
  all_acted (Lose seg ∷ outs) within acts = (tt, all_acted outs (λ x among. within x (inr among)) (λ x among. acts x (inr among)))
  all_acted (Does a ∷ outs) within acts =
      (act_acted a (acts a (inl refl)), all_acted outs (λ x among. within x (inr among)) (λ x among. acts x (inr among)))
