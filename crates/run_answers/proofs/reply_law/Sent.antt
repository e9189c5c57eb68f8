-- Of what a client sends in an event, what are answers to who asks it.
use Rattle.std.proofs.Common.{◌≡◌, cond, Bool, true, false, List, [], ◌∷◌, ◌++◌, append-nil, filter, refl, ap, ◌∙◌}
use Rattle.node_base.specs.declared.effects.Effect.{Effect}
use Rattle.node_base.specs.declared.effects.Effect.TheVariants.{Answer as Answers, Does, Lose, Send}
use Rattle.node_base.specs.Effects.{packets_of}
use Rattle.wire_msg.specs.declared.packet.Packet.{Packet}
use Rattle.xfs_base.specs.declared.node.NodeId.{NodeId}
use Rattle.headline.specs.ClientReplies.{is_reply}
use Rattle.run_answers.proofs.reply_law.OpenCalls.{AllSilent}

module _ (me : NodeId) where
  abbrev pub replies : List Effect → List Packet
  replies outs = filter (λ p. is_reply p.body) (packets_of me outs)

  said_more : (said : Bool) (p : Packet) (ps qs : List Packet) → cond said (p ∷ (ps ++ qs)) (ps ++ qs) ≡ cond said (p ∷ ps) ps ++ qs
  said_more true p ps qs = refl
  said_more false p ps qs = refl

  pub replies_more : (xs ys : List Effect) → replies (xs ++ ys) ≡ replies xs ++ replies ys
  replies_more [] ys = refl
  replies_more (Send to said ∷ xs) ys =
      let p : Packet = record { from = me; to = to; clock = 0; body = said } in
      ap (λ (ps : List Packet). cond (is_reply said) (p ∷ ps) ps) (replies_more xs ys) ∙ said_more (is_reply said) p (replies xs) (replies ys)
  replies_more (Answers item a ∷ xs) ys = replies_more xs ys
  replies_more (Lose seg ∷ xs) ys = replies_more xs ys
  replies_more (Does act ∷ xs) ys = replies_more xs ys

  pub silent_none : (outs : List Effect) → AllSilent outs → replies outs ≡ []
  silent_none [] all = refl
  silent_none (Send to said ∷ outs) all =
      ap (λ (b : Bool). cond b (record { from = me; to = to; clock = 0; body = said } ∷ replies outs) (replies outs)) all.0 ∙ silent_none outs all.1
  silent_none (Answers item a ∷ outs) all = silent_none outs all.1
  silent_none (Lose seg ∷ outs) all = silent_none outs all.1
  silent_none (Does act ∷ outs) all = silent_none outs all.1

  -- where what comes before and behind is silent, just this is answered
  pub among_silent : (before said behind : List Effect) → AllSilent before → AllSilent behind → replies (before ++ (said ++ behind)) ≡ replies said
  among_silent before said behind first last =
      replies_more before (said ++ behind) ∙ ap (λ (ps : List Packet). ps ++ replies (said ++ behind)) (silent_none before first)
      ∙ (replies_more said behind ∙ ap (λ (ps : List Packet). replies said ++ ps) (silent_none behind last) ∙ append-nil (replies said))

  -- what is answered first is all, where what comes behind is silent
  pub replies_first : (said behind : List Effect) → AllSilent behind → replies (said ++ behind) ≡ replies said
  replies_first said behind last = among_silent [] said behind tt last
