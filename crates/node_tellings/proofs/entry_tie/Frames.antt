-- What an event has a node do, step by step: where all that it acts is among the acts of the event, the node stands so then, and what it sends tells nothing
-- but what is told.
use Rattle.std.proofs.Common.{ℕ, List, [], ◌∷◌, ◌++◌, Option, Some, None}
use Rattle.std.specs.Prelude.{Contains, IfSome}
use Rattle.std.specs.List.{AllByRecursion, cons_option, filter_map}
use Rattle.node_base.specs.Beginning.{answers_unanswered}
use Rattle.node_base.specs.declared.effects.Effect.{Effect}
use Rattle.node_base.specs.declared.effects.Effect.TheVariants.{Answer as Answers}
use Rattle.node_base.specs.Effects.{packets_of, acts_of}
use Rattle.version_model.specs.declared.act.Act.{Act}
use Rattle.version_model.specs.declared.answer.Answer.{Answer}
use Rattle.xfs_base.proofs.Members.{contains_first, contains_rest}
use Rattle.xfs_base.specs.declared.node.NodeId.{NodeId}
use Rattle.xfs_base.specs.Steps.{Stepped, still, saying}
use Rattle.xfs_base.proofs.Alls.{all_weaker}
use Rattle.node_moves.proofs.client_walk.Frames as walk
use Rattle.node_moves.proofs.Effects as effects
use Rattle.node_tellings.specs.entry_tie.Told.{Told, BodyTold, PacketTold}

-- ---- lists

all_cons : {Y : Type 0} (P : Y → Type 0) (o : Option Y) (ys : List Y) → IfSome o P → AllByRecursion P ys → AllByRecursion P (cons_option o ys)
all_cons P None ys fact all = all
all_cons P (Some y) ys fact all = (fact, all)

pub all_filter_map : {X Y : Type 0} (P : Y → Type 0) (Q : X → Type 0) (f : X → Option Y) → ((x : X) → Q x → IfSome (f x) P) → (xs : List X)
    → AllByRecursion Q xs → AllByRecursion P (filter_map f xs)
all_filter_map P Q f each [] all = tt
all_filter_map P Q f each (x ∷ xs) all = all_cons P (f x) (filter_map f xs) (each x all.0) (all_filter_map P Q f each xs all.1)

-- a list contains each of its items
pub contains_all : {X : Type 0} (xs : List X) → AllByRecursion (Contains xs) xs
contains_all [] = tt
contains_all (x ∷ xs) = (contains_first x xs, all_weaker (Contains xs) (Contains (x ∷ xs)) (λ y. contains_rest x y xs) xs (contains_all xs))

module _ (told : Told) (done : List Act) where
  -- ---- effects

  -- what is sent is told
  abbrev pub Says : Effect → Type 0
  Says e = effects.Says (BodyTold told) e

  -- what is acted is among the acts of the event
  abbrev pub Acted : Effect → Type 0
  Acted e = effects.Acted (Contains done) e

  abbrev pub AllSay : List Effect → Type 0
  AllSay outs = AllByRecursion Says outs

  abbrev pub AllActed : List Effect → Type 0
  AllActed outs = AllByRecursion Acted outs

  pub answers_say : (item : Option ℕ) (answer : Answer) → AllSay (answers_unanswered item answer)
  answers_say item answer = effects.answers_say (BodyTold told) item answer

  -- what was open is answered so, and then the item that ended it
  pub both_say : (item : Option ℕ) (first : Answer) (number : ℕ) (second : Answer) → AllSay (answers_unanswered item first ++ Answers number second ∷ [])
  both_say item first number second = effects.both_say (BodyTold told) item first number second

  -- the packets tell what the effects tell
  pub packets_tell : (node : NodeId) (es : List Effect) → AllSay es → AllByRecursion (PacketTold told) (packets_of node es)
  packets_tell node es all = effects.packets_so (BodyTold told) (PacketTold told) node (λ to b says. says) es all

  -- the effects act what is among the acts
  pub acts_acted : (node : NodeId) (es : List Effect) → AllByRecursion (Contains done) (acts_of node es) → AllActed es
  acts_acted node es acts = effects.acts_acted (Contains done) node es acts

  -- ---- steps

  module _ {S : Type 0} (At : S → Type 0) where
    -- where all that is acted is among the acts, it stands so, and tells nothing but what is told
    abbrev pub Goes : Stepped S Effect → Type 0
    Goes d = walk.Goes Says Acted At d

    pub goes_still : (s : S) → At s → Goes (still s)
    goes_still s h = walk.goes_still Says Acted At s h

    pub goes_plain : (s : S) (outs : List Effect) → At s → AllSay outs → Goes (record { state = s; outs = outs })
    goes_plain s outs h says = walk.goes_plain Says Acted At s outs h says

    -- one thing follows another
    pub goes_on : (d e : Stepped S Effect) → Goes d → (At d.state → Goes e) → Goes (saying d.outs e)
    goes_on d e p f = walk.goes_on Says Acted At d e p f

    pub goes_after : (outs : List Effect) (d : Stepped S Effect) → AllSay outs → Goes d → Goes (saying outs d)
    goes_after outs d says p = walk.goes_after Says Acted At outs d says p
