-- What an event has a node do, step by step: where all that it acts to be filed is reached, the node stands so then, and what it sends tells of nothing
-- beyond.
use Rattle.std.proofs.Common.{ℕ, List, [], ◌∷◌, ◌++◌, Option}
use Rattle.std.specs.List.{AllByRecursion}
use Rattle.node_base.specs.Beginning.{answers_unanswered}
use Rattle.node_base.specs.declared.effects.Effect.{Effect}
use Rattle.node_base.specs.declared.effects.Effect.TheVariants.{Answer as Answers}
use Rattle.node_base.specs.Effects.{packets_of, acts_of}
use Rattle.version_model.specs.declared.answer.Answer.{Answer}
use Rattle.xfs_base.specs.declared.node.NodeId.{NodeId}
use Rattle.xfs_base.specs.Steps.{Stepped, still, saying}
use Rattle.node_tellings.specs.filed_tie.Reach.{Reach, ActReached, ActsReach, BodyTells, PacketTells}
use Rattle.node_moves.proofs.client_walk.Frames as walk
pub use Rattle.node_moves.proofs.client_walk.Frames.{all_before, all_behind}
use Rattle.node_moves.proofs.Effects as effects

module _ (reach : Reach) (node : NodeId) where
  -- ---- effects

  -- what is sent tells so
  abbrev pub Says : Effect → Type 0
  Says e = effects.Says (BodyTells reach node) e

  -- what is acted to be filed is reached
  abbrev pub Reached : Effect → Type 0
  Reached e = effects.Acted (ActReached reach) e

  abbrev pub AllSay : List Effect → Type 0
  AllSay outs = AllByRecursion Says outs

  abbrev pub AllReached : List Effect → Type 0
  AllReached outs = AllByRecursion Reached outs

  pub answers_say : (item : Option ℕ) (answer : Answer) → AllSay (answers_unanswered item answer)
  answers_say item answer = effects.answers_say (BodyTells reach node) item answer

  -- what was open is answered so, and then the item that ended it
  pub both_say : (item : Option ℕ) (first : Answer) (number : ℕ) (second : Answer) → AllSay (answers_unanswered item first ++ Answers number second ∷ [])
  both_say item first number second = effects.both_say (BodyTells reach node) item first number second

  -- the packets tell what the effects tell
  pub packets_tell : (es : List Effect) → AllSay es → AllByRecursion (PacketTells reach) (packets_of node es)
  packets_tell es all = effects.packets_so (BodyTells reach node) (PacketTells reach) node (λ to b says. says) es all

  -- what the acts say is reached is reached of the effects
  pub acts_reached : (es : List Effect) → ActsReach reach (acts_of node es) → AllReached es
  acts_reached es acts = effects.acts_acted (ActReached reach) node es acts

  -- ---- steps

  module _ {S : Type 0} (At : S → Type 0) where
    -- where all that is acted to be filed is reached, it stands so, and tells of nothing beyond
    abbrev pub Goes : Stepped S Effect → Type 0
    Goes d = walk.Goes Says Reached At d

    pub goes_still : (s : S) → At s → Goes (still s)
    goes_still s h = walk.goes_still Says Reached At s h

    pub goes_plain : (s : S) (outs : List Effect) → At s → AllSay outs → Goes (record { state = s; outs = outs })
    goes_plain s outs h says = walk.goes_plain Says Reached At s outs h says

    -- one thing follows another
    pub goes_on : (d e : Stepped S Effect) → Goes d → (At d.state → Goes e) → Goes (saying d.outs e)
    goes_on d e p f = walk.goes_on Says Reached At d e p f

    pub goes_after : (outs : List Effect) (d : Stepped S Effect) → AllSay outs → Goes d → Goes (saying outs d)
    goes_after outs d says p = walk.goes_after Says Reached At outs d says p
